-- A pool's balance, its weighted coupon and its weighted maturity. Definitions only. Assumes nothing.
use Rattle.std.specs.Prelude.{ℕ, false, cond, List, [], ◌∷◌, pos, Float}
use Rattle.std.specs.Float.{binary64}
use Rattle.std.specs.Float.Ieee.{add, mul, div, eq, of_int}
use Rattle.numbers.specs.Clamps.{plus_zero}
use Rattle.refusals.specs.Outcome.{Outcome, judged}
use Rattle.records.specs.declared.Terms.{Terms}
use Rattle.pool.specs.declared.totals.Totals.{Totals}
use Rattle.pool.specs.Loans.{loans_in, pool_lines}

-- a sum over the loans, left to right
unfoldable pub sum_from : Float → (Terms → Float) → List Terms → Float
sum_from s f [] = s
sum_from s f (t ∷ ts) = sum_from (add binary64 s (f t)) f ts

abbrev pub sum_of : (Terms → Float) → List Terms → Float
sum_of f loans = sum_from plus_zero f loans

unfoldable pub balance_of : List Terms → Float
balance_of loans = sum_of (λ (t : Terms). t.principal) loans

-- "0 where the balance is 0"
abbrev pub weighted : List Terms → (Terms → Float) → Float
weighted loans f = cond (eq (balance_of loans) plus_zero) plus_zero (div binary64 (sum_of (λ (t : Terms). mul binary64 (f t) t.principal) loans) (balance_of loans))

unfoldable pub totals_of : List Terms → Totals
totals_of loans = record {
  balance = balance_of loans;
  coupon = weighted loans (λ (t : Terms). t.rate);
  maturity = weighted loans (λ (t : Terms). of_int binary64 (pos t.term));
}

unfoldable pub pool_totals : List ℕ → Outcome Totals
pool_totals bytes = judged (pool_lines bytes false) (totals_of (loans_in bytes))
