-- The search by halvings, one turn at a time: it stops where the ends are close, and else goes on in the half that the errors cross in. Assumes nothing.
use mathlib.Core.Path.{◌≡◌, sym, ◌∙◌}
use mathlib.Core.Bool.{true, false, cond}
use mathlib.Core.List.{List}
use Prim.Native.Nat.{ℕ, ◌+◌}
use native.Mathlib.Numerals.{add-one}
use lib.Ieee.{Float, binary64, sub, mul, lt, le}
use Rattle.numbers.specs.Literals.{two_thousand, minus_five_hundred, ten_to_minus8}
use Rattle.numbers.specs.Clamps.{plus_zero}
use Rattle.numbers.specs.Sizes.{absolute}
use Rattle.spread_analytics.specs.Spread.{middle, error_at, crosses, spread_within, no_change, nearer_end, spread_of, found, at_end}

module _ (times amounts tenors rates : List Float) (market lo hi : Float) where
  pub no_turn : (n : ℕ) → n ≡ 0 → middle lo hi ≡ spread_within times amounts tenors rates market n lo hi
  unfolding spread_within
  no_turn n e = rw e

  module _ (n m : ℕ) (more : n ≡ m + 1) (width : Float) (w : width ≡ absolute (sub binary64 hi lo)) where
    pub close : lt width ten_to_minus8 ≡ true → middle lo hi ≡ spread_within times amounts tenors rates market n lo hi
    unfolding spread_within
    close h = rw (more, add-one m, sym w, h)

    module _ (h : lt width ten_to_minus8 ≡ false) (below error : Float) (b : below ≡ error_at times amounts tenors rates market lo)
        (e : error ≡ error_at times amounts tenors rates market (middle lo hi)) where
      into_lower : le (mul binary64 below error) plus_zero ≡ true
          → spread_within times amounts tenors rates market n lo hi ≡ spread_within times amounts tenors rates market m lo (middle lo hi)
      unfolding spread_within crosses
      into_lower c = rw (more, add-one m, sym w, h, sym b, sym e, c)

      into_upper : le (mul binary64 below error) plus_zero ≡ false
          → spread_within times amounts tenors rates market n lo hi ≡ spread_within times amounts tenors rates market m (middle lo hi) hi
      unfolding spread_within crosses
      into_upper c = rw (more, add-one m, sym w, h, sym b, sym e, c)

      -- the ends after a turn, and the error that is kept with the lower one
      module _ (all lo' hi' below' : Float) (i : all ≡ spread_within times amounts tenors rates market n lo hi) where
        abbrev Onward : Type 0
        Onward = (below' ≡ error_at times amounts tenors rates market lo') × (all ≡ spread_within times amounts tenors rates market m lo' hi')

        pub lower_half : le (mul binary64 below error) plus_zero ≡ true → lo' ≡ lo → hi' ≡ middle lo hi → below' ≡ below → Onward
        lower_half c p q r = (rw (r, p) b, i ∙ rw (p, q) (into_lower c))

        pub upper_half : le (mul binary64 below error) plus_zero ≡ false → lo' ≡ middle lo hi → hi' ≡ hi → below' ≡ error → Onward
        upper_half c p q r = (rw (r, p) e, i ∙ rw (p, q) (into_upper c))

-- ---- which answer is given, by the errors at the two ends
module _ (times amounts tenors rates : List Float) (market low high : Float) (l : low ≡ error_at times amounts tenors rates market minus_five_hundred)
    (h : high ≡ error_at times amounts tenors rates market two_thousand) where
  pub at_an_end : lt plus_zero (mul binary64 low high) ≡ true → (s : Float) → s ≡ cond (lt (absolute low) (absolute high)) minus_five_hundred two_thousand
      → at_end s ≡ spread_of times amounts tenors rates market
  unfolding spread_of no_change nearer_end
  at_an_end c s e = rw (sym l, sym h, c, e)

  pub between_the_ends : lt plus_zero (mul binary64 low high) ≡ false → (s : Float) → s ≡ spread_within times amounts tenors rates market 100 minus_five_hundred two_thousand
      → found s ≡ spread_of times amounts tenors rates market
  unfolding spread_of no_change
  between_the_ends c s e = rw (sym l, sym h, c, e)
