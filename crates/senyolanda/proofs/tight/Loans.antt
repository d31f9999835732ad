-- Loans: whatever is given, each contract leaves one result, and one last state of what was lent. Assumes nothing.
use mathlib.Core.List.{List}
use Prim.Native.Nat.{ℕ}
use lib.Ieee.{Float}
use Rattle.numbers.proofs.Determined.{Determined, Settled}
use Rattle.senyolanda.proofs.tight.OneAnswer.{one_result, one_last, one_last_and_list}
use Rattle.senyolanda.proofs.loans.senyolanda_monthly_payment.Kinds as monthly_payment_kinds
use Rattle.senyolanda.proofs.loans.senyolanda_monthly_payment.Reads as monthly_payment_reads
use Rattle.senyolanda.proofs.loans.senyolanda_open.Kinds as open_kinds
use Rattle.senyolanda.proofs.loans.senyolanda_open.Reads as open_reads
use Rattle.senyolanda.proofs.loans.senyolanda_open_with_payment.Kinds as open_with_payment_kinds
use Rattle.senyolanda.proofs.loans.senyolanda_open_with_payment.Reads as open_with_payment_reads
use Rattle.senyolanda.proofs.loans.senyolanda_draw.Kinds as draw_kinds
use Rattle.senyolanda.proofs.loans.senyolanda_draw.Reads as draw_reads
use Rattle.senyolanda.proofs.loans.senyolanda_next_row.Kinds as next_row_kinds
use Rattle.senyolanda.proofs.loans.senyolanda_next_row.Reads as next_row_reads
use Rattle.senyolanda.proofs.loans.senyolanda_total_interest.Kinds as total_interest_kinds
use Rattle.senyolanda.proofs.loans.senyolanda_total_interest.Reads as total_interest_reads
use Rattle.senyolanda.proofs.loans.senyolanda_remaining_balance.Kinds as remaining_balance_kinds
use Rattle.senyolanda.proofs.loans.senyolanda_remaining_balance.Reads as remaining_balance_reads
use Rattle.senyolanda.proofs.loans.senyolanda_ltv.Kinds as ltv_kinds
use Rattle.senyolanda.proofs.loans.senyolanda_ltv.Reads as ltv_reads
use Rattle.senyolanda.proofs.loans.senyolanda_prepayment_savings.Kinds as prepayment_savings_kinds
use Rattle.senyolanda.proofs.loans.senyolanda_prepayment_savings.Reads as prepayment_savings_reads
use Rattle.senyolanda.proofs.loans.senyolanda_refinance_breakeven.Kinds as refinance_breakeven_kinds
use Rattle.senyolanda.proofs.loans.senyolanda_refinance_breakeven.Reads as refinance_breakeven_reads
use Rattle.senyolanda.proofs.loans.senyolanda_listing.Kinds as listing_kinds
use Rattle.senyolanda.proofs.loans.senyolanda_listing.Reads as listing_reads

pub monthly_payment_determined : Determined _ monthly_payment_kinds.ps monthly_payment_kinds.r monthly_payment_reads.Post
monthly_payment_determined κs a x y e e' p q = one_result p q

pub monthly_payment_settled : Settled _ monthly_payment_kinds.ps monthly_payment_kinds.r monthly_payment_reads.Post
monthly_payment_settled κs a x y w w' p q = one_last (λ (u : Float). (tt, (u, tt))) p q

pub open_determined : Determined _ open_kinds.ps open_kinds.r open_reads.Post
open_determined κs a x y e e' p q = one_result p q

pub open_settled : Settled _ open_kinds.ps open_kinds.r open_reads.Post
open_settled κs a x y w w' p q = one_last (λ (u : List ℕ × List Float). (tt, (u.0, (u.1, tt)))) p q

pub open_with_payment_determined : Determined _ open_with_payment_kinds.ps open_with_payment_kinds.r open_with_payment_reads.Post
open_with_payment_determined κs a x y e e' p q = one_result p q

pub open_with_payment_settled : Settled _ open_with_payment_kinds.ps open_with_payment_kinds.r open_with_payment_reads.Post
open_with_payment_settled κs a x y w w' p q = one_last (λ (u : List ℕ × List Float). (tt, (tt, (u.0, (u.1, tt))))) p q

pub draw_determined : Determined _ draw_kinds.ps draw_kinds.r draw_reads.Post
draw_determined κs a x y e e' p q = one_result p.0 q.0

pub draw_settled : Settled _ draw_kinds.ps draw_kinds.r draw_reads.Post
draw_settled κs a x y w w' p q = one_last_and_list (λ (u : List ℕ × List Float × ℕ × ℕ) (l : List Float). (u.0, (u.1, (l, (u.2, (u.3, tt)))))) p.0 q.0 p.1 q.1

pub next_row_determined : Determined _ next_row_kinds.ps next_row_kinds.r next_row_reads.Post
next_row_determined κs a x y e e' p q = one_result p q

pub next_row_settled : Settled _ next_row_kinds.ps next_row_kinds.r next_row_reads.Post
next_row_settled κs a x y w w' p q = one_last (λ (u : List ℕ × List Float × List ℕ × ℕ × ℕ). (u.0, (u.1, (u.2, (u.3, (u.4, tt)))))) p q

pub total_interest_determined : Determined _ total_interest_kinds.ps total_interest_kinds.r total_interest_reads.Post
total_interest_determined κs a x y e e' p q = one_result p q

pub total_interest_settled : Settled _ total_interest_kinds.ps total_interest_kinds.r total_interest_reads.Post
total_interest_settled κs a x y w w' p q = one_last (λ (u : Float). (tt, (u, tt))) p q

pub remaining_balance_determined : Determined _ remaining_balance_kinds.ps remaining_balance_kinds.r remaining_balance_reads.Post
remaining_balance_determined κs a x y e e' p q = one_result p q

pub remaining_balance_settled : Settled _ remaining_balance_kinds.ps remaining_balance_kinds.r remaining_balance_reads.Post
remaining_balance_settled κs a x y w w' p q = one_last (λ (u : Float). (tt, (tt, (u, tt)))) p q

pub ltv_determined : Determined _ ltv_kinds.ps ltv_kinds.r ltv_reads.Post
ltv_determined κs a x y e e' p q = one_result p q

pub ltv_settled : Settled _ ltv_kinds.ps ltv_kinds.r ltv_reads.Post
ltv_settled κs a x y w w' p q = one_last (λ (u : Float). (tt, (tt, (u, tt)))) p q

pub prepayment_savings_determined : Determined _ prepayment_savings_kinds.ps prepayment_savings_kinds.r prepayment_savings_reads.Post
prepayment_savings_determined κs a x y e e' p q = one_result p q

pub prepayment_savings_settled : Settled _ prepayment_savings_kinds.ps prepayment_savings_kinds.r prepayment_savings_reads.Post
prepayment_savings_settled κs a x y w w' p q = one_last (λ (u : ℕ × Float). (tt, (tt, (u.0, (u.1, tt))))) p q

pub refinance_breakeven_determined : Determined _ refinance_breakeven_kinds.ps refinance_breakeven_kinds.r refinance_breakeven_reads.Post
refinance_breakeven_determined κs a x y e e' p q = one_result p q

pub refinance_breakeven_settled : Settled _ refinance_breakeven_kinds.ps refinance_breakeven_kinds.r refinance_breakeven_reads.Post
refinance_breakeven_settled κs a x y w w' p q = one_last (λ (u : ℕ). (tt, (tt, (tt, (tt, (u, tt)))))) p q

pub listing_determined : Determined _ listing_kinds.ps listing_kinds.r listing_reads.Post
listing_determined κs a x y e e' p q = one_result p.0 q.0

pub listing_settled : Settled _ listing_kinds.ps listing_kinds.r listing_reads.Post
listing_settled κs a x y w w' p q = one_last_and_list (λ (u : ℕ) (l : List ℕ). (tt, (l, (u, tt)))) p.0 q.0 p.1 q.1
