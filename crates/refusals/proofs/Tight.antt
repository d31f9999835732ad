-- How tight the promises are: whatever a public function is given, any two results that its contract allows are equal. Assumes nothing.
use mathlib.Core.Path.{sym, ◌∙◌}
use Rattle.numbers.proofs.Determined.{Determined}
use Rattle.refusals.proofs.OneToOne.{same_parts}
use Rattle.refusals.proofs.refuse.Kinds as refuse_kinds
use Rattle.refusals.proofs.refuse.Reads as refuse
use Rattle.refusals.proofs.refuse_at.Kinds as refuse_at_kinds
use Rattle.refusals.proofs.refuse_at.Reads as refuse_at
use Rattle.refusals.proofs.bad_amount.Kinds as bad_amount_kinds
use Rattle.refusals.proofs.bad_amount.Reads as bad_amount
use Rattle.refusals.proofs.bad_term.Kinds as bad_term_kinds
use Rattle.refusals.proofs.bad_term.Reads as bad_term
use Rattle.refusals.proofs.bad_number.Kinds as bad_number_kinds
use Rattle.refusals.proofs.bad_number.Reads as bad_number

pub refuse_determined : Determined 0 refuse_kinds.ps refuse_kinds.r refuse.Post
refuse_determined κs a x y e e' p q = same_parts x y (p.0 ∙ sym q.0) (p.1 ∙ sym q.1)

pub refuse_at_determined : Determined 0 refuse_at_kinds.ps refuse_at_kinds.r refuse_at.Post
refuse_at_determined κs a x y e e' p q = same_parts x y (p.0 ∙ sym q.0) (p.1 ∙ sym q.1)

pub bad_amount_determined : Determined 0 bad_amount_kinds.ps bad_amount_kinds.r bad_amount.Post
bad_amount_determined κs a x y e e' p q = p ∙ sym q

pub bad_term_determined : Determined 0 bad_term_kinds.ps bad_term_kinds.r bad_term.Post
bad_term_determined κs a x y e e' p q = p ∙ sym q

pub bad_number_determined : Determined 0 bad_number_kinds.ps bad_number_kinds.r bad_number.Post
bad_number_determined κs a x y e e' p q = p ∙ sym q
