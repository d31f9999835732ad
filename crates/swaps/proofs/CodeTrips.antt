-- A day count is written as a code and read again, both ways: every day count comes back from its code,
-- and every code that is read is the code of what it gives. Assumes nothing.
use mathlib.Core.Path.{◌≡◌, refl, ap}
use mathlib.Core.Bool.{true}
use Prim.Native.Nat.{ℕ, zero, suc}
use native.Mathlib.Omega.{arith}
use lib.Dec.{ltb}
use borrow.Author.Tests.{lt-ltb}
use Rattle.refusals.specs.Outcome.{refused, accepted, first_or, judged}
use Rattle.refusals.specs.Table.{bad_code}
use Rattle.swaps.specs.declared.day_counts.DayCount.{DayCount}
use Rattle.swaps.specs.declared.day_counts.DayCount.TheVariants.{Actual360, Actual365, Thirty360}
use Rattle.swaps.specs.Codes.{code_of, day_count_at, day_count_of}

pub read_of_written : (d : DayCount) → day_count_of (code_of d) ≡ accepted d
unfolding day_count_of day_count_at bad_code judged first_or
read_of_written Actual360 = refl
read_of_written Actual365 = refl
read_of_written Thirty360 = refl

pub written_of_read : (code : ℕ) (d : DayCount) → day_count_of code ≡ accepted d → code_of d ≡ code
unfolding day_count_of day_count_at bad_code judged first_or
written_of_read zero d e = let same : d ≡ Actual360 = cc in ap code_of same
written_of_read (suc zero) d e = let same : d ≡ Actual365 = cc in ap code_of same
written_of_read (suc (suc zero)) d e = let same : d ≡ Thirty360 = cc in ap code_of same
written_of_read (suc (suc (suc n))) d e =
    let outside : ltb 2 (suc (suc (suc n))) ≡ true = lt-ltb 2 (suc (suc (suc n))) (omega arith) in
    let never : refused 11 0 ≡ accepted d = rw outside at e in
    let z : ◌≡◌ {A = ℕ} 0 1 = cc in absurd (omega arith)
