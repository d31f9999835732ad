-- Each answer has its own outcome: two answers that read as the same number and place, or as the same value, are the same answer. Assumes nothing.
use mathlib.Core.Path.{◌≡◌, refl, sym, ap, ◌∙◌}
use mathlib.Core.Bool.{cond}
use Prim.Native.Nat.{ℕ}
use lib.Dec.{eqb}
use Rattle.std.specs.declared.result.Result.{Result}
use Rattle.std.specs.declared.result.Result.TheVariants.{Ok, Err}
use Rattle.refusals.specs.declared.Cause.{Cause}
use Rattle.refusals.specs.declared.Cause.TheVariants.{Amount, Term, Room, Lengths, KnotCount, Knot, Time, Frequency, Number, PastEnd, Record, Bracket, BreakEven, Year, Date, Kind}
use Rattle.refusals.specs.declared.Refusal.{Refusal}
use Rattle.refusals.specs.Outcome.{Outcome, refused}
use Rattle.refusals.specs.Answers.{number, outcome}

-- the cause of a number of the table
cause_of : ℕ → Cause
cause_of k = cond (eqb k 1) Amount (cond (eqb k 2) Term (cond (eqb k 3) Room (cond (eqb k 4) Lengths (cond (eqb k 5) KnotCount (cond (eqb k 6) Knot (cond (eqb k 7) Time (cond (eqb k 8) Frequency
    (cond (eqb k 9) Number (cond (eqb k 10) PastEnd (cond (eqb k 11) Record (cond (eqb k 12) Bracket (cond (eqb k 13) BreakEven (cond (eqb k 14) Year (cond (eqb k 15) Date Kind))))))))))))))

numbered : (c : Cause) → cause_of (number c) ≡ c
unfolding cause_of
numbered Amount = refl
numbered Term = refl
numbered Room = refl
numbered Lengths = refl
numbered KnotCount = refl
numbered Knot = refl
numbered Time = refl
numbered Frequency = refl
numbered Number = refl
numbered PastEnd = refl
numbered Record = refl
numbered Bracket = refl
numbered BreakEven = refl
numbered Year = refl
numbered Date = refl
numbered Kind = refl

pub same_cause : (c d : Cause) → number c ≡ number d → c ≡ d
same_cause c d e = sym (numbered c) ∙ ap cause_of e ∙ numbered d

pub same_parts : (r s : Refusal) → number r.cause ≡ number s.cause → r.place ≡ s.place → r ≡ s
same_parts r s n p = ap (λ (c : Cause). record { cause = c; place = r.place }) (same_cause r.cause s.cause n) ∙ ap (λ (q : ℕ). record { cause = s.cause; place = q }) p

pub same_refusal : {Value : Type 0} (r s : Refusal) → ◌≡◌ {A = Outcome Value} (refused (number r.cause) r.place) (refused (number s.cause) s.place) → r ≡ s
same_refusal r s e = same_parts r s (cc) (cc)

-- what any answer needs, for values of any kind
pub one_to_one : {Value : Type 0} (x y : Result Value Refusal) → outcome x ≡ outcome y → x ≡ y
one_to_one (Err r) (Err s) e = ap Err (same_refusal r s e)
one_to_one (Err r) (Ok w) e = cc
one_to_one (Ok v) (Err s) e = cc
one_to_one (Ok v) (Ok w) e = cc
