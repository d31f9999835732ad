-- How tight the promises are: whatever a public function is given, any two results that its contract allows are equal. `say` promises nothing of what it writes.
-- Assumes nothing.
use Rattle.std.proofs.Common.{sym, ◌∙◌}
use Rattle.numbers.proofs.Determined.{Determined}
use Rattle.replaying.proofs.OneToOne.{one_to_one}
use Rattle.replaying.proofs.word_at.Kinds as word_at_kinds
use Rattle.replaying.proofs.word_at.Reads as word_at
use Rattle.replaying.proofs.float_at.Kinds as float_at_kinds
use Rattle.replaying.proofs.float_at.Reads as float_at_reads
use Rattle.replaying.proofs.whole_at.Kinds as whole_at_kinds
use Rattle.replaying.proofs.whole_at.Reads as whole_at
use Rattle.replaying.proofs.first_case.Kinds as first_case_kinds
use Rattle.replaying.proofs.first_case.Reads as first_case
use Rattle.replaying.proofs.no_answer.Kinds as no_answer_kinds
use Rattle.replaying.proofs.no_answer.Reads as no_answer
use Rattle.replaying.proofs.agrees.Kinds as agrees_kinds
use Rattle.replaying.proofs.agrees.Reads as agrees
use Rattle.replaying.proofs.answer_agrees.Kinds as answer_agrees_kinds
use Rattle.replaying.proofs.answer_agrees.Reads as answer_agrees
use Rattle.replaying.proofs.count_case.Kinds as count_case_kinds
use Rattle.replaying.proofs.count_case.Reads as count_case

pub word_at_determined : Determined 1 word_at_kinds.ps word_at_kinds.r word_at.Post
word_at_determined κs a x y e e' p q = p ∙ sym q

pub float_at_determined : Determined 1 float_at_kinds.ps float_at_kinds.r float_at_reads.Post
float_at_determined κs a x y e e' p q = p ∙ sym q

pub whole_at_determined : Determined 1 whole_at_kinds.ps whole_at_kinds.r whole_at.Post
whole_at_determined κs a x y e e' p q = one_to_one x y (p ∙ sym q)

pub first_case_determined : Determined 1 first_case_kinds.ps first_case_kinds.r first_case.Post
first_case_determined κs a x y e e' p q = p.0 ∙ sym q.0

pub no_answer_determined : Determined 0 no_answer_kinds.ps no_answer_kinds.r no_answer.Post
no_answer_determined κs a x y e e' p q = one_to_one x y (p ∙ sym q)

pub agrees_determined : Determined 0 agrees_kinds.ps agrees_kinds.r agrees.Post
agrees_determined κs a x y e e' p q = p ∙ sym q

pub answer_agrees_determined : Determined 1 answer_agrees_kinds.ps answer_agrees_kinds.r answer_agrees.Post
answer_agrees_determined κs a x y e e' p q = p ∙ sym q

pub count_case_determined : Determined 0 count_case_kinds.ps count_case_kinds.r count_case.Post
count_case_determined κs a x y e e' p q = p ∙ sym q
