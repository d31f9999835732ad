-- A frequency is written as a code and read again, both ways: every frequency comes back from its code,
-- and every code that is read is the code of what it gives. Assumes nothing.
use mathlib.Core.Path.{◌≡◌, refl, ap}
use mathlib.Core.Bool.{true}
use Prim.Native.Nat.{ℕ, zero, suc}
use native.Mathlib.Omega.{arith}
use lib.Dec.{ltb}
use borrow.Author.Tests.{lt-ltb}
use Rattle.refusals.specs.Outcome.{refused, accepted, first_or, judged}
use Rattle.refusals.specs.Table.{bad_code}
use Rattle.bond.specs.declared.Frequency.{Frequency}
use Rattle.bond.specs.declared.Frequency.TheVariants.{Annual, SemiAnnual, Quarterly, Monthly}
use Rattle.bond.specs.Codes.{code_of, frequency_at, frequency_of}

pub read_of_written : (f : Frequency) → frequency_of (code_of f) ≡ accepted f
unfolding frequency_of frequency_at bad_code judged first_or
read_of_written Annual = refl
read_of_written SemiAnnual = refl
read_of_written Quarterly = refl
read_of_written Monthly = refl

pub written_of_read : (code : ℕ) (f : Frequency) → frequency_of code ≡ accepted f → code_of f ≡ code
unfolding frequency_of frequency_at bad_code judged first_or
written_of_read zero f e = let same : f ≡ Annual = cc in ap code_of same
written_of_read (suc zero) f e = let same : f ≡ SemiAnnual = cc in ap code_of same
written_of_read (suc (suc zero)) f e = let same : f ≡ Quarterly = cc in ap code_of same
written_of_read (suc (suc (suc zero))) f e = let same : f ≡ Monthly = cc in ap code_of same
written_of_read (suc (suc (suc (suc n)))) f e =
    let outside : ltb 3 (suc (suc (suc (suc n)))) ≡ true = lt-ltb 3 (suc (suc (suc (suc n)))) (omega arith) in
    let never : refused 11 0 ≡ accepted f = rw outside at e in
    let z : ◌≡◌ {A = ℕ} 0 1 = cc in absurd (omega arith)
