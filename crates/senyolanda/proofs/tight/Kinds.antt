-- Interest-only, balloon and adjustable loans: whatever is given, each contract leaves one result, and one last state of what was lent. Assumes nothing.
use mathlib.Core.List.{List}
use Prim.Native.Nat.{ℕ}
use lib.Ieee.{Float}
use Rattle.numbers.proofs.Determined.{Determined, Settled}
use Rattle.senyolanda.proofs.tight.OneAnswer.{one_result, one_last, one_last_and_list, one_last_and_lists}
use Rattle.senyolanda.proofs.interest_only.senyolanda_open_interest_only.Kinds as open_interest_only_kinds
use Rattle.senyolanda.proofs.interest_only.senyolanda_open_interest_only.Reads as open_interest_only_reads
use Rattle.senyolanda.proofs.interest_only.senyolanda_open_interest_only_with_payment.Kinds as open_interest_only_with_payment_kinds
use Rattle.senyolanda.proofs.interest_only.senyolanda_open_interest_only_with_payment.Reads as open_interest_only_with_payment_reads
use Rattle.senyolanda.proofs.interest_only.senyolanda_draw_interest_only.Kinds as draw_interest_only_kinds
use Rattle.senyolanda.proofs.interest_only.senyolanda_draw_interest_only.Reads as draw_interest_only_reads
use Rattle.senyolanda.proofs.interest_only.senyolanda_draw_interest_only_with_years.Kinds as draw_interest_only_with_years_kinds
use Rattle.senyolanda.proofs.interest_only.senyolanda_draw_interest_only_with_years.Reads as draw_interest_only_with_years_reads
use Rattle.senyolanda.proofs.interest_only.senyolanda_next_interest_only_row.Kinds as next_interest_only_row_kinds
use Rattle.senyolanda.proofs.interest_only.senyolanda_next_interest_only_row.Reads as next_interest_only_row_reads
use Rattle.senyolanda.proofs.balloon.senyolanda_open_balloon.Kinds as open_balloon_kinds
use Rattle.senyolanda.proofs.balloon.senyolanda_open_balloon.Reads as open_balloon_reads
use Rattle.senyolanda.proofs.balloon.senyolanda_open_balloon_with_payment.Kinds as open_balloon_with_payment_kinds
use Rattle.senyolanda.proofs.balloon.senyolanda_open_balloon_with_payment.Reads as open_balloon_with_payment_reads
use Rattle.senyolanda.proofs.balloon.senyolanda_draw_balloon.Kinds as draw_balloon_kinds
use Rattle.senyolanda.proofs.balloon.senyolanda_draw_balloon.Reads as draw_balloon_reads
use Rattle.senyolanda.proofs.balloon.senyolanda_draw_balloon_with_years.Kinds as draw_balloon_with_years_kinds
use Rattle.senyolanda.proofs.balloon.senyolanda_draw_balloon_with_years.Reads as draw_balloon_with_years_reads
use Rattle.senyolanda.proofs.balloon.senyolanda_next_balloon_row.Kinds as next_balloon_row_kinds
use Rattle.senyolanda.proofs.balloon.senyolanda_next_balloon_row.Reads as next_balloon_row_reads
use Rattle.senyolanda.proofs.balloon.senyolanda_look_up_balloon_year.Kinds as look_up_balloon_year_kinds
use Rattle.senyolanda.proofs.balloon.senyolanda_look_up_balloon_year.Reads as look_up_balloon_year_reads
use Rattle.senyolanda.proofs.adjustable.senyolanda_open_adjustable.Kinds as open_adjustable_kinds
use Rattle.senyolanda.proofs.adjustable.senyolanda_open_adjustable.Reads as open_adjustable_reads
use Rattle.senyolanda.proofs.adjustable.senyolanda_draw_adjustable.Kinds as draw_adjustable_kinds
use Rattle.senyolanda.proofs.adjustable.senyolanda_draw_adjustable.Reads as draw_adjustable_reads
use Rattle.senyolanda.proofs.adjustable.senyolanda_draw_adjustable_with_years.Kinds as draw_adjustable_with_years_kinds
use Rattle.senyolanda.proofs.adjustable.senyolanda_draw_adjustable_with_years.Reads as draw_adjustable_with_years_reads
use Rattle.senyolanda.proofs.adjustable.senyolanda_next_adjustable_row.Kinds as next_adjustable_row_kinds
use Rattle.senyolanda.proofs.adjustable.senyolanda_next_adjustable_row.Reads as next_adjustable_row_reads

-- ---- interest-only loans
pub open_interest_only_determined : Determined _ open_interest_only_kinds.ps open_interest_only_kinds.r open_interest_only_reads.Post
open_interest_only_determined κs a x y e e' p q = one_result p q

pub open_interest_only_settled : Settled _ open_interest_only_kinds.ps open_interest_only_kinds.r open_interest_only_reads.Post
open_interest_only_settled κs a x y w w' p q = one_last (λ (u : List ℕ × List Float). (tt, (tt, (u.0, (u.1, tt))))) p q

pub open_interest_only_with_payment_determined : Determined _ open_interest_only_with_payment_kinds.ps open_interest_only_with_payment_kinds.r open_interest_only_with_payment_reads.Post
open_interest_only_with_payment_determined κs a x y e e' p q = one_result p q

pub open_interest_only_with_payment_settled : Settled _ open_interest_only_with_payment_kinds.ps open_interest_only_with_payment_kinds.r open_interest_only_with_payment_reads.Post
open_interest_only_with_payment_settled κs a x y w w' p q = one_last (λ (u : List ℕ × List Float). (tt, (tt, (tt, (u.0, (u.1, tt)))))) p q

pub draw_interest_only_determined : Determined _ draw_interest_only_kinds.ps draw_interest_only_kinds.r draw_interest_only_reads.Post
draw_interest_only_determined κs a x y e e' p q = one_result p.0 q.0

pub draw_interest_only_settled : Settled _ draw_interest_only_kinds.ps draw_interest_only_kinds.r draw_interest_only_reads.Post
draw_interest_only_settled κs a x y w w' p q = one_last_and_list (λ (u : List ℕ × List Float × ℕ × ℕ) (l : List Float). (tt, (u.0, (u.1, (l, (u.2, (u.3, tt))))))) p.0 q.0 p.1 q.1

pub draw_interest_only_with_years_determined : Determined _ draw_interest_only_with_years_kinds.ps draw_interest_only_with_years_kinds.r draw_interest_only_with_years_reads.Post
draw_interest_only_with_years_determined κs a x y e e' p q = one_result p.0 q.0

pub draw_interest_only_with_years_settled : Settled _ draw_interest_only_with_years_kinds.ps draw_interest_only_with_years_kinds.r draw_interest_only_with_years_reads.Post
draw_interest_only_with_years_settled κs a x y w w' p q = one_last_and_lists (λ (u : List ℕ × List Float × ℕ × ℕ) (l m : List Float). (tt, (u.0, (u.1, (l, (m, (u.2, (u.3, tt)))))))) p.0 q.0 p.1.0 q.1.0 p.1.1 q.1.1

pub next_interest_only_row_determined : Determined _ next_interest_only_row_kinds.ps next_interest_only_row_kinds.r next_interest_only_row_reads.Post
next_interest_only_row_determined κs a x y e e' p q = one_result p q

pub next_interest_only_row_settled : Settled _ next_interest_only_row_kinds.ps next_interest_only_row_kinds.r next_interest_only_row_reads.Post
next_interest_only_row_settled κs a x y w w' p q = one_last (λ (u : List ℕ × List Float × List ℕ × ℕ × ℕ). (tt, (u.0, (u.1, (u.2, (u.3, (u.4, tt))))))) p q

-- ---- balloon loans
pub open_balloon_determined : Determined _ open_balloon_kinds.ps open_balloon_kinds.r open_balloon_reads.Post
open_balloon_determined κs a x y e e' p q = one_result p q

pub open_balloon_settled : Settled _ open_balloon_kinds.ps open_balloon_kinds.r open_balloon_reads.Post
open_balloon_settled κs a x y w w' p q = one_last (λ (u : List ℕ × List Float). (tt, (tt, (u.0, (u.1, tt))))) p q

pub open_balloon_with_payment_determined : Determined _ open_balloon_with_payment_kinds.ps open_balloon_with_payment_kinds.r open_balloon_with_payment_reads.Post
open_balloon_with_payment_determined κs a x y e e' p q = one_result p q

pub open_balloon_with_payment_settled : Settled _ open_balloon_with_payment_kinds.ps open_balloon_with_payment_kinds.r open_balloon_with_payment_reads.Post
open_balloon_with_payment_settled κs a x y w w' p q = one_last (λ (u : List ℕ × List Float). (tt, (tt, (tt, (u.0, (u.1, tt)))))) p q

pub draw_balloon_determined : Determined _ draw_balloon_kinds.ps draw_balloon_kinds.r draw_balloon_reads.Post
draw_balloon_determined κs a x y e e' p q = one_result p.0 q.0

pub draw_balloon_settled : Settled _ draw_balloon_kinds.ps draw_balloon_kinds.r draw_balloon_reads.Post
draw_balloon_settled κs a x y w w' p q = one_last_and_list (λ (u : List ℕ × List Float × ℕ × ℕ) (l : List Float). (tt, (u.0, (u.1, (l, (u.2, (u.3, tt))))))) p.0 q.0 p.1 q.1

pub draw_balloon_with_years_determined : Determined _ draw_balloon_with_years_kinds.ps draw_balloon_with_years_kinds.r draw_balloon_with_years_reads.Post
draw_balloon_with_years_determined κs a x y e e' p q = one_result p.0 q.0

pub draw_balloon_with_years_settled : Settled _ draw_balloon_with_years_kinds.ps draw_balloon_with_years_kinds.r draw_balloon_with_years_reads.Post
draw_balloon_with_years_settled κs a x y w w' p q = one_last_and_lists (λ (u : List ℕ × List Float × ℕ × ℕ) (l m : List Float). (tt, (u.0, (u.1, (l, (m, (u.2, (u.3, tt)))))))) p.0 q.0 p.1.0 q.1.0 p.1.1 q.1.1

pub next_balloon_row_determined : Determined _ next_balloon_row_kinds.ps next_balloon_row_kinds.r next_balloon_row_reads.Post
next_balloon_row_determined κs a x y e e' p q = one_result p q

pub next_balloon_row_settled : Settled _ next_balloon_row_kinds.ps next_balloon_row_kinds.r next_balloon_row_reads.Post
next_balloon_row_settled κs a x y w w' p q = one_last (λ (u : List ℕ × List Float × List ℕ × ℕ × ℕ). (tt, (u.0, (u.1, (u.2, (u.3, (u.4, tt))))))) p q

pub look_up_balloon_year_determined : Determined _ look_up_balloon_year_kinds.ps look_up_balloon_year_kinds.r look_up_balloon_year_reads.Post
look_up_balloon_year_determined κs a x y e e' p q = one_result p q

pub look_up_balloon_year_settled : Settled _ look_up_balloon_year_kinds.ps look_up_balloon_year_kinds.r look_up_balloon_year_reads.Post
look_up_balloon_year_settled κs a x y w w' p q = one_last (λ (u : List Float). (tt, (tt, (tt, (tt, (tt, (u, tt))))))) p q

-- ---- adjustable loans
pub open_adjustable_determined : Determined _ open_adjustable_kinds.ps open_adjustable_kinds.r open_adjustable_reads.Post
open_adjustable_determined κs a x y e e' p q = one_result p q

pub open_adjustable_settled : Settled _ open_adjustable_kinds.ps open_adjustable_kinds.r open_adjustable_reads.Post
open_adjustable_settled κs a x y w w' p q = one_last (λ (u : List ℕ × List Float). (tt, (tt, (tt, (tt, (tt, (u.0, (u.1, tt)))))))) p q

pub draw_adjustable_determined : Determined _ draw_adjustable_kinds.ps draw_adjustable_kinds.r draw_adjustable_reads.Post
draw_adjustable_determined κs a x y e e' p q = one_result p.0 q.0

pub draw_adjustable_settled : Settled _ draw_adjustable_kinds.ps draw_adjustable_kinds.r draw_adjustable_reads.Post
draw_adjustable_settled κs a x y w w' p q = one_last_and_list (λ (u : List ℕ × List Float × ℕ × ℕ) (l : List Float). (tt, (tt, (tt, (tt, (u.0, (u.1, (l, (u.2, (u.3, tt)))))))))) p.0 q.0 p.1 q.1

pub draw_adjustable_with_years_determined : Determined _ draw_adjustable_with_years_kinds.ps draw_adjustable_with_years_kinds.r draw_adjustable_with_years_reads.Post
draw_adjustable_with_years_determined κs a x y e e' p q = one_result p.0 q.0

pub draw_adjustable_with_years_settled : Settled _ draw_adjustable_with_years_kinds.ps draw_adjustable_with_years_kinds.r draw_adjustable_with_years_reads.Post
draw_adjustable_with_years_settled κs a x y w w' p q = one_last_and_lists (λ (u : List ℕ × List Float × ℕ × ℕ) (l m : List Float). (tt, (tt, (tt, (tt, (u.0, (u.1, (l, (m, (u.2, (u.3, tt))))))))))) p.0 q.0 p.1.0 q.1.0 p.1.1 q.1.1

pub next_adjustable_row_determined : Determined _ next_adjustable_row_kinds.ps next_adjustable_row_kinds.r next_adjustable_row_reads.Post
next_adjustable_row_determined κs a x y e e' p q = one_result p q

pub next_adjustable_row_settled : Settled _ next_adjustable_row_kinds.ps next_adjustable_row_kinds.r next_adjustable_row_reads.Post
next_adjustable_row_settled κs a x y w w' p q = one_last (λ (u : List ℕ × List Float × List ℕ × ℕ × ℕ). (tt, (tt, (tt, (tt, (u.0, (u.1, (u.2, (u.3, (u.4, tt)))))))))) p q
