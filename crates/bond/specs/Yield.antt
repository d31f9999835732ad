-- The yield of a bond at a market price. Definitions only. Assumes nothing.
use Rattle.std.specs.Prelude.{ℕ, zero, suc, Bool, cond, ◌&&◌, [], ◌∷◌, ◌++◌, Float}
use Rattle.std.specs.Float.{binary64}
use Rattle.std.specs.Float.Ieee.{sub}
use Rattle.numbers.specs.Literals.{fifty, thousandth, all_but_thousandth, millionth}
use Rattle.refusals.specs.Outcome.{Outcome, line, judged}
use Rattle.refusals.specs.Table.{one_sided}
use Rattle.bond.specs.declared.Bond.{Bond}
use Rattle.bond.specs.declared.brent.Search.{Search}
use Rattle.bond.specs.Bonds.{bond_lines}
use Rattle.bond.specs.Price.{price_of}
use Rattle.bond.specs.Brent.{rebracketed, exchanged, settled, chosen, moved}

-- the brackets: [0.001, 0.999], then [1e-6, 50]
abbrev pub low : Float
low = thousandth

abbrev pub high : Float
high = all_but_thousandth

abbrev pub wide_low : Float
wide_low = millionth

abbrev pub wide_high : Float
wide_high = fifty

-- the error of a yield: its price less the market's
unfoldable pub error : Bond → Float → Float → Float
error b market ytm = sub binary64 (price_of b ytm) market

-- a bracket's two ends err to one side
unfoldable pub not_in : Bond → Float → Float → Float → Bool
not_in b market x y = one_sided (error b market x) (error b market y)

-- 12: "no yield bracket: for both, the product of the end errors is above 0"
unfoldable pub no_bracket : Bond → Float → Bool
no_bracket b market = not_in b market low high && not_in b market wide_low wide_high

-- the search starts in a bracket: c is a, and both steps are the bracket's width
unfoldable pub start_in : Bond → Float → Float → Float → Search
start_in b market x y = record {
  a = x;
  b = y;
  c = x;
  d = sub binary64 y x;
  e = sub binary64 y x;
  fa = error b market x;
  fb = error b market y;
  fc = error b market x;
}

unfoldable pub start : Bond → Float → Search
start b market = cond (not_in b market low high) (start_in b market wide_low wide_high) (start_in b market low high)

-- a pass, up to its test, and from there on
unfoldable pub readied : Search → Search
readied s = exchanged (rebracketed s)

unfoldable pub with_error : Bond → Float → Search → Search
with_error b market s = record { a = s.a; b = s.b; c = s.c; d = s.d; e = s.e; fa = s.fa; fb = error b market s.b; fc = s.fc }

unfoldable pub passed : Bond → Float → Search → Search
passed b market s = with_error b market (moved (chosen s))

-- at most k passes: b, once it is settled or they are used up
unfoldable pub searched : Bond → Float → ℕ → Search → Float
searched b market zero s = s.b
searched b market (suc k) s = cond (settled (readied s)) (readied s).b (searched b market k (passed b market (readied s)))

-- "200 passes"
unfoldable pub yield_of : Bond → Float → Float
yield_of b market = searched b market 200 (start b market)

unfoldable pub yield_to_maturity : Float → Bond → Outcome Float
yield_to_maturity market b = judged (bond_lines b market ++ line 12 (no_bracket b market) ∷ []) (yield_of b market)
