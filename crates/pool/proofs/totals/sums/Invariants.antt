-- `pool::totals::sums` meets its contract: what the loans that are left add to the sums so far. Assumes nothing.
use mathlib.Core.Path.{◌≡◌}
use lib.IntN.{pos}
use lib.Ieee.{Float, binary64, mul, of_int}
use Rattle.records.specs.declared.Terms.{Terms}
use Rattle.pool.specs.Loans.{loans_in}
use Rattle.pool.specs.Totals.{sum_from, sum_of}
use Rattle.pool.proofs.LoanOrder.{left}
use Rattle.pool.proofs.totals.sums.Given as goal

abbrev pub balance_in : Terms → Float
balance_in t = t.principal

abbrev pub coupon_in : Terms → Float
coupon_in t = mul binary64 t.rate t.principal

abbrev pub maturity_in : Terms → Float
maturity_in t = mul binary64 (of_int binary64 (pos t.term)) t.principal

abbrev pub invariant-loop-loan : goal.invariant-loop-loan
invariant-loop-loan l =
    (sum_from l.balance balance_in (left l.loan-iterator) ≡ sum_of balance_in (loans_in l.fn.loans.bytes.now)) × (sum_from l.coupon coupon_in (left l.loan-iterator) ≡ sum_of coupon_in (loans_in l.fn.loans.bytes.now))
    × (sum_from l.maturity maturity_in (left l.loan-iterator) ≡ sum_of maturity_in (loans_in l.fn.loans.bytes.now))
