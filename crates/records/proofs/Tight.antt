-- How tight the promises are: any two results of a reader that its contract allows are equal, and so are any two arrays that a writer may leave. Assumes nothing.
use mathlib.Core.Path.{sym, ap, ◌∙◌}
use mathlib.Core.List.{List}
use Prim.Native.Nat.{ℕ}
use Rattle.numbers.proofs.Determined.{Determined, Settled}
use Rattle.refusals.proofs.OneToOne.{one_to_one}
use Rattle.records.proofs.bond_record.read_bond.Kinds as read_bond_kinds
use Rattle.records.proofs.bond_record.read_bond.Reads as read_bond
use Rattle.records.proofs.bond_record.read_bond_uncoded.Kinds as read_bond_uncoded_kinds
use Rattle.records.proofs.bond_record.read_bond_uncoded.Reads as read_bond_uncoded
use Rattle.records.proofs.bond_record.write_bond.Kinds as write_bond_kinds
use Rattle.records.proofs.bond_record.write_bond.Reads as write_bond
use Rattle.records.proofs.swap_record.read_swap.Kinds as read_swap_kinds
use Rattle.records.proofs.swap_record.read_swap.Reads as read_swap
use Rattle.records.proofs.swap_record.read_swap_uncoded.Kinds as read_swap_uncoded_kinds
use Rattle.records.proofs.swap_record.read_swap_uncoded.Reads as read_swap_uncoded
use Rattle.records.proofs.swap_record.write_swap.Kinds as write_swap_kinds
use Rattle.records.proofs.swap_record.write_swap.Reads as write_swap
use Rattle.records.proofs.dated_swap_record.read_dated_swap.Kinds as read_dated_swap_kinds
use Rattle.records.proofs.dated_swap_record.read_dated_swap.Reads as read_dated_swap
use Rattle.records.proofs.dated_swap_record.read_dated_swap_uncoded.Kinds as read_dated_swap_uncoded_kinds
use Rattle.records.proofs.dated_swap_record.read_dated_swap_uncoded.Reads as read_dated_swap_uncoded
use Rattle.records.proofs.dated_swap_record.write_dated_swap.Kinds as write_dated_swap_kinds
use Rattle.records.proofs.dated_swap_record.write_dated_swap.Reads as write_dated_swap
use Rattle.records.proofs.terms_record.read_terms.Kinds as read_terms_kinds
use Rattle.records.proofs.terms_record.read_terms.Reads as read_terms
use Rattle.records.proofs.terms_record.write_terms.Kinds as write_terms_kinds
use Rattle.records.proofs.terms_record.write_terms.Reads as write_terms
use Rattle.records.proofs.row_record.read_row.Kinds as read_row_kinds
use Rattle.records.proofs.row_record.read_row.Reads as read_row
use Rattle.records.proofs.row_record.write_row.Kinds as write_row_kinds
use Rattle.records.proofs.row_record.write_row.Reads as write_row

-- ---- an answer's number, place and values tell the answer

pub read_terms_determined : Determined 1 read_terms_kinds.ps read_terms_kinds.r read_terms.Post
read_terms_determined κs a x y e e' p q = one_to_one x y (p ∙ sym q)

pub read_row_determined : Determined 1 read_row_kinds.ps read_row_kinds.r read_row.Post
read_row_determined κs a x y e e' p q = one_to_one x y (p ∙ sym q)

-- ---- what is left in lent memory

pub write_terms_settled : Settled 1 write_terms_kinds.ps write_terms_kinds.r write_terms.Post
write_terms_settled κs a x y w w' p q = ap (λ (l : List ℕ). (tt, (l, tt))) (p ∙ sym q)

pub write_row_settled : Settled 1 write_row_kinds.ps write_row_kinds.r write_row.Post
write_row_settled κs a x y w w' p q = ap (λ (l : List ℕ). (tt, (l, tt))) (p ∙ sym q)

-- ---- kind 2

pub read_bond_determined : Determined 1 read_bond_kinds.ps read_bond_kinds.r read_bond.Post
read_bond_determined κs a x y e e' p q = one_to_one x y (p ∙ sym q)

pub read_bond_uncoded_determined : Determined 1 read_bond_uncoded_kinds.ps read_bond_uncoded_kinds.r read_bond_uncoded.Post
read_bond_uncoded_determined κs a x y e e' p q = one_to_one x y (p ∙ sym q)

pub write_bond_settled : Settled 1 write_bond_kinds.ps write_bond_kinds.r write_bond.Post
write_bond_settled κs a x y w w' p q = ap (λ (l : List ℕ). (tt, (l, tt))) (p ∙ sym q)

-- ---- kind 4

pub read_swap_determined : Determined 1 read_swap_kinds.ps read_swap_kinds.r read_swap.Post
read_swap_determined κs a x y e e' p q = one_to_one x y (p ∙ sym q)

pub read_swap_uncoded_determined : Determined 1 read_swap_uncoded_kinds.ps read_swap_uncoded_kinds.r read_swap_uncoded.Post
read_swap_uncoded_determined κs a x y e e' p q = one_to_one x y (p ∙ sym q)

pub write_swap_settled : Settled 1 write_swap_kinds.ps write_swap_kinds.r write_swap.Post
write_swap_settled κs a x y w w' p q = ap (λ (l : List ℕ). (tt, (l, tt))) (p ∙ sym q)

-- ---- kind 5

pub read_dated_swap_determined : Determined 1 read_dated_swap_kinds.ps read_dated_swap_kinds.r read_dated_swap.Post
read_dated_swap_determined κs a x y e e' p q = one_to_one x y (p ∙ sym q)

pub read_dated_swap_uncoded_determined : Determined 1 read_dated_swap_uncoded_kinds.ps read_dated_swap_uncoded_kinds.r read_dated_swap_uncoded.Post
read_dated_swap_uncoded_determined κs a x y e e' p q = one_to_one x y (p ∙ sym q)

pub write_dated_swap_settled : Settled 1 write_dated_swap_kinds.ps write_dated_swap_kinds.r write_dated_swap.Post
write_dated_swap_settled κs a x y w w' p q = ap (λ (l : List ℕ). (tt, (l, tt))) (p ∙ sym q)
