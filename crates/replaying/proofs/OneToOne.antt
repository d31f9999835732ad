-- Each answer to a replayed question has its own outcome: two that read as the same are the same. Assumes nothing.
use Rattle.std.proofs.Common.{◌≡◌, refl, ap, arith}
use Rattle.std.specs.declared.result.Result.{Result}
use Rattle.std.specs.declared.result.Result.TheVariants.{Ok, Err}
use Rattle.refusals.specs.declared.Cause.{Cause}
use Rattle.refusals.specs.Outcome.{Outcome}
use Rattle.refusals.specs.Answers.{number}
use Rattle.refusals.proofs.OneToOne.{same_refusal}
use Rattle.replaying.specs.declared.Unanswered.{Unanswered}
use Rattle.replaying.specs.declared.Unanswered.TheVariants.{Refused, NoQuestion}
use Rattle.replaying.specs.Answered.{answered}

-- no line of the table has the number 0
no_zero : (c : Cause) → number c ≡ 0 → ⊥
no_zero c e = grind arith

same_why : {Value : Type 0} (x y : Unanswered) → ◌≡◌ {A = Outcome Value} (answered (Err x)) (answered (Err y)) → x ≡ y
same_why (Refused r) (Refused s) e = ap Refused (same_refusal r s e)
same_why (Refused r) NoQuestion e = absurd (no_zero r.cause (cc))
same_why NoQuestion (Refused s) e = absurd (no_zero s.cause (cc))
same_why NoQuestion NoQuestion e = refl

pub one_to_one : {Value : Type 0} (x y : Result Value Unanswered) → answered x ≡ answered y → x ≡ y
one_to_one (Err v) (Err w) e = ap Err (same_why v w e)
one_to_one (Err (Refused r)) (Ok w) e = cc
one_to_one (Err NoQuestion) (Ok w) e = cc
one_to_one (Ok v) (Err (Refused s)) e = cc
one_to_one (Ok v) (Err NoQuestion) e = cc
one_to_one (Ok v) (Ok w) e = cc
