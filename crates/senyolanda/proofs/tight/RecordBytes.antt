-- Readers and writers of records: whatever is given, each contract leaves one result, and one last state of what was lent. Assumes nothing.
use mathlib.Core.List.{List}
use Prim.Native.Nat.{ℕ}
use lib.Ieee.{Float}
use Rattle.numbers.proofs.Determined.{Determined, Settled}
use Rattle.senyolanda.proofs.tight.OneAnswer.{one_result, one_last}
use Rattle.senyolanda.proofs.record_bytes.senyolanda_read_loan.Kinds as read_loan_kinds
use Rattle.senyolanda.proofs.record_bytes.senyolanda_read_loan.Reads as read_loan_reads
use Rattle.senyolanda.proofs.record_bytes.senyolanda_write_loan.Kinds as write_loan_kinds
use Rattle.senyolanda.proofs.record_bytes.senyolanda_write_loan.Reads as write_loan_reads
use Rattle.senyolanda.proofs.record_bytes.senyolanda_read_bond.Kinds as read_bond_kinds
use Rattle.senyolanda.proofs.record_bytes.senyolanda_read_bond.Reads as read_bond_reads
use Rattle.senyolanda.proofs.record_bytes.senyolanda_write_bond.Kinds as write_bond_kinds
use Rattle.senyolanda.proofs.record_bytes.senyolanda_write_bond.Reads as write_bond_reads
use Rattle.senyolanda.proofs.record_bytes.senyolanda_read_row.Kinds as read_row_kinds
use Rattle.senyolanda.proofs.record_bytes.senyolanda_read_row.Reads as read_row_reads
use Rattle.senyolanda.proofs.record_bytes.senyolanda_write_row.Kinds as write_row_kinds
use Rattle.senyolanda.proofs.record_bytes.senyolanda_write_row.Reads as write_row_reads
use Rattle.senyolanda.proofs.record_bytes.senyolanda_read_swap.Kinds as read_swap_kinds
use Rattle.senyolanda.proofs.record_bytes.senyolanda_read_swap.Reads as read_swap_reads
use Rattle.senyolanda.proofs.record_bytes.senyolanda_write_swap.Kinds as write_swap_kinds
use Rattle.senyolanda.proofs.record_bytes.senyolanda_write_swap.Reads as write_swap_reads
use Rattle.senyolanda.proofs.record_bytes.senyolanda_read_dated_swap.Kinds as read_dated_swap_kinds
use Rattle.senyolanda.proofs.record_bytes.senyolanda_read_dated_swap.Reads as read_dated_swap_reads
use Rattle.senyolanda.proofs.record_bytes.senyolanda_write_dated_swap.Kinds as write_dated_swap_kinds
use Rattle.senyolanda.proofs.record_bytes.senyolanda_write_dated_swap.Reads as write_dated_swap_reads

pub read_loan_determined : Determined _ read_loan_kinds.ps read_loan_kinds.r read_loan_reads.Post
read_loan_determined κs a x y e e' p q = one_result p q

pub read_loan_settled : Settled _ read_loan_kinds.ps read_loan_kinds.r read_loan_reads.Post
read_loan_settled κs a x y w w' p q = one_last (λ (u : Float × Float × ℕ). (tt, (u.0, (u.1, (u.2, tt))))) p q

pub write_loan_determined : Determined _ write_loan_kinds.ps write_loan_kinds.r write_loan_reads.Post
write_loan_determined κs a x y e e' p q = one_result p q

pub write_loan_settled : Settled _ write_loan_kinds.ps write_loan_kinds.r write_loan_reads.Post
write_loan_settled κs a x y w w' p q = one_last (λ (u : List ℕ). (tt, (tt, (tt, (u, tt))))) p q

pub read_bond_determined : Determined _ read_bond_kinds.ps read_bond_kinds.r read_bond_reads.Post
read_bond_determined κs a x y e e' p q = one_result p q

pub read_bond_settled : Settled _ read_bond_kinds.ps read_bond_kinds.r read_bond_reads.Post
read_bond_settled κs a x y w w' p q = one_last (λ (u : Float × Float × Float × ℕ). (tt, (u.0, (u.1, (u.2, (u.3, tt)))))) p q

pub write_bond_determined : Determined _ write_bond_kinds.ps write_bond_kinds.r write_bond_reads.Post
write_bond_determined κs a x y e e' p q = one_result p q

pub write_bond_settled : Settled _ write_bond_kinds.ps write_bond_kinds.r write_bond_reads.Post
write_bond_settled κs a x y w w' p q = one_last (λ (u : List ℕ). (tt, (tt, (tt, (tt, (u, tt)))))) p q

pub read_row_determined : Determined _ read_row_kinds.ps read_row_kinds.r read_row_reads.Post
read_row_determined κs a x y e e' p q = one_result p q

pub read_row_settled : Settled _ read_row_kinds.ps read_row_kinds.r read_row_reads.Post
read_row_settled κs a x y w w' p q = one_last (λ (u : ℕ × Float × Float × Float × Float). (tt, (u.0, (u.1, (u.2, (u.3, (u.4, tt))))))) p q

pub write_row_determined : Determined _ write_row_kinds.ps write_row_kinds.r write_row_reads.Post
write_row_determined κs a x y e e' p q = one_result p q

pub write_row_settled : Settled _ write_row_kinds.ps write_row_kinds.r write_row_reads.Post
write_row_settled κs a x y w w' p q = one_last (λ (u : List ℕ). (tt, (tt, (tt, (tt, (tt, (u, tt))))))) p q

pub read_swap_determined : Determined _ read_swap_kinds.ps read_swap_kinds.r read_swap_reads.Post
read_swap_determined κs a x y e e' p q = one_result p q

pub read_swap_settled : Settled _ read_swap_kinds.ps read_swap_kinds.r read_swap_reads.Post
read_swap_settled κs a x y w w' p q = one_last (λ (u : Float × Float × Float × ℕ × ℕ). (tt, (u.0, (u.1, (u.2, (u.3, (u.4, tt))))))) p q

pub write_swap_determined : Determined _ write_swap_kinds.ps write_swap_kinds.r write_swap_reads.Post
write_swap_determined κs a x y e e' p q = one_result p q

pub write_swap_settled : Settled _ write_swap_kinds.ps write_swap_kinds.r write_swap_reads.Post
write_swap_settled κs a x y w w' p q = one_last (λ (u : List ℕ). (tt, (tt, (tt, (tt, (tt, (u, tt))))))) p q

pub read_dated_swap_determined : Determined _ read_dated_swap_kinds.ps read_dated_swap_kinds.r read_dated_swap_reads.Post
read_dated_swap_determined κs a x y e e' p q = one_result p q

pub read_dated_swap_settled : Settled _ read_dated_swap_kinds.ps read_dated_swap_kinds.r read_dated_swap_reads.Post
read_dated_swap_settled κs a x y w w' p q =
    one_last (λ (u : Float × Float × Float × ℕ × List ℕ × List ℕ × ℕ). (tt, (u.0, (u.1, (u.2, (u.3, (u.4, (u.5, (u.6, tt))))))))) p q

pub write_dated_swap_determined : Determined _ write_dated_swap_kinds.ps write_dated_swap_kinds.r write_dated_swap_reads.Post
write_dated_swap_determined κs a x y e e' p q = one_result p q

pub write_dated_swap_settled : Settled _ write_dated_swap_kinds.ps write_dated_swap_kinds.r write_dated_swap_reads.Post
write_dated_swap_settled κs a x y w w' p q = one_last (λ (u : List ℕ). (tt, (tt, (tt, (tt, (tt, (tt, (tt, (tt, (tt, (tt, (tt, (u, tt))))))))))))) p q
