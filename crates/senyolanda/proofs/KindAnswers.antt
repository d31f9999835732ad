-- The answers of loans of each kind are those that their contracts promise, as the kit reads them: of the result x and of what the lent places hold after the call. So demand 3 and the year-end
-- lines at the door (`AtTheDoor.antt`, `YearsAtTheDoor.antt`) are of the functions that C calls. Assumes nothing.
use mathlib.Core.Path.{◌≡◌}
use mathlib.Core.List.{List}
use Prim.Native.Nat.{ℕ}
use lib.Ieee.{Float}
use borrow.Fn.Kinds.{Dens, res_t, ended_of}
use contract.Lifetimes.{Lfts}
use denote.Triple.Clauses.{Lasts, at_exit}
use Rattle.mortgage.specs.Kinds.{interest_only, balloon, adjustable}
use Rattle.mortgage.specs.Draws.{filled}
use Rattle.mortgage.specs.YearDraws.{filled_with_years, summed}
use Rattle.senyolanda.specs.Loans.{adjustment_of}
use Rattle.senyolanda.specs.Calls.{Kept, in_hand, kind_open_answer, kind_open_with_answer, draw_answer, next_answer}
use Rattle.senyolanda.specs.YearCalls.{year_draw_answer, lookup_answer}
use Rattle.senyolanda.proofs.interest_only.senyolanda_open_interest_only.Kinds as open_interest_only_kinds
use Rattle.senyolanda.proofs.interest_only.senyolanda_open_interest_only.Reads as open_interest_only_reads
use Rattle.senyolanda.proofs.interest_only.senyolanda_open_interest_only_with_payment.Kinds as open_interest_only_with_payment_kinds
use Rattle.senyolanda.proofs.interest_only.senyolanda_open_interest_only_with_payment.Reads as open_interest_only_with_payment_reads
use Rattle.senyolanda.proofs.interest_only.senyolanda_draw_interest_only.Kinds as draw_interest_only_kinds
use Rattle.senyolanda.proofs.interest_only.senyolanda_draw_interest_only.Reads as draw_interest_only_reads
use Rattle.senyolanda.proofs.interest_only.senyolanda_draw_interest_only_with_years.Kinds as draw_interest_only_with_years_kinds
use Rattle.senyolanda.proofs.interest_only.senyolanda_draw_interest_only_with_years.Reads as draw_interest_only_with_years_reads
use Rattle.senyolanda.proofs.interest_only.senyolanda_next_interest_only_row.Kinds as next_interest_only_row_kinds
use Rattle.senyolanda.proofs.interest_only.senyolanda_next_interest_only_row.Reads as next_interest_only_row_reads
use Rattle.senyolanda.proofs.balloon.senyolanda_open_balloon.Kinds as open_balloon_kinds
use Rattle.senyolanda.proofs.balloon.senyolanda_open_balloon.Reads as open_balloon_reads
use Rattle.senyolanda.proofs.balloon.senyolanda_open_balloon_with_payment.Kinds as open_balloon_with_payment_kinds
use Rattle.senyolanda.proofs.balloon.senyolanda_open_balloon_with_payment.Reads as open_balloon_with_payment_reads
use Rattle.senyolanda.proofs.balloon.senyolanda_draw_balloon.Kinds as draw_balloon_kinds
use Rattle.senyolanda.proofs.balloon.senyolanda_draw_balloon.Reads as draw_balloon_reads
use Rattle.senyolanda.proofs.balloon.senyolanda_draw_balloon_with_years.Kinds as draw_balloon_with_years_kinds
use Rattle.senyolanda.proofs.balloon.senyolanda_draw_balloon_with_years.Reads as draw_balloon_with_years_reads
use Rattle.senyolanda.proofs.balloon.senyolanda_next_balloon_row.Kinds as next_balloon_row_kinds
use Rattle.senyolanda.proofs.balloon.senyolanda_next_balloon_row.Reads as next_balloon_row_reads
use Rattle.senyolanda.proofs.balloon.senyolanda_look_up_balloon_year.Kinds as look_up_balloon_year_kinds
use Rattle.senyolanda.proofs.balloon.senyolanda_look_up_balloon_year.Reads as look_up_balloon_year_reads
use Rattle.senyolanda.proofs.adjustable.senyolanda_open_adjustable.Kinds as open_adjustable_kinds
use Rattle.senyolanda.proofs.adjustable.senyolanda_open_adjustable.Reads as open_adjustable_reads
use Rattle.senyolanda.proofs.adjustable.senyolanda_draw_adjustable.Kinds as draw_adjustable_kinds
use Rattle.senyolanda.proofs.adjustable.senyolanda_draw_adjustable.Reads as draw_adjustable_reads
use Rattle.senyolanda.proofs.adjustable.senyolanda_draw_adjustable_with_years.Kinds as draw_adjustable_with_years_kinds
use Rattle.senyolanda.proofs.adjustable.senyolanda_draw_adjustable_with_years.Reads as draw_adjustable_with_years_reads
use Rattle.senyolanda.proofs.adjustable.senyolanda_next_adjustable_row.Kinds as next_adjustable_row_kinds
use Rattle.senyolanda.proofs.adjustable.senyolanda_next_adjustable_row.Reads as next_adjustable_row_reads

-- ---- interest-only loans
pub open_interest_only_answers : (κs : Lfts 3) (a : Dens κs open_interest_only_kinds.ps) (x : (res_t open_interest_only_kinds.r κs).Denot) (w : Lasts (ended_of 3 open_interest_only_kinds.ps open_interest_only_kinds.r) κs a)
    → open_interest_only_reads.Post κs a x (at_exit (ended_of 3 open_interest_only_kinds.ps open_interest_only_kinds.r) κs a w)
    → ◌≡◌ {A = ℕ × Kept} (x, (w.1.1.0, w.1.1.1.0)) (kind_open_answer (interest_only a.1.0) a.0.now (a.1.1.0.now, a.1.1.1.0.now))
open_interest_only_answers κs a x w p = p

pub open_interest_only_with_payment_answers : (κs : Lfts 3) (a : Dens κs open_interest_only_with_payment_kinds.ps) (x : (res_t open_interest_only_with_payment_kinds.r κs).Denot) (w : Lasts (ended_of 3 open_interest_only_with_payment_kinds.ps open_interest_only_with_payment_kinds.r) κs a)
    → open_interest_only_with_payment_reads.Post κs a x (at_exit (ended_of 3 open_interest_only_with_payment_kinds.ps open_interest_only_with_payment_kinds.r) κs a w)
    → ◌≡◌ {A = ℕ × Kept} (x, (w.1.1.1.0, w.1.1.1.1.0)) (kind_open_with_answer (interest_only a.1.0) a.0.now a.1.1.0 (a.1.1.1.0.now, a.1.1.1.1.0.now))
open_interest_only_with_payment_answers κs a x w p = p

pub draw_interest_only_answers : (κs : Lfts 5) (a : Dens κs draw_interest_only_kinds.ps) (x : (res_t draw_interest_only_kinds.r κs).Denot) (w : Lasts (ended_of 5 draw_interest_only_kinds.ps draw_interest_only_kinds.r) κs a)
    → draw_interest_only_reads.Post κs a x (at_exit (ended_of 5 draw_interest_only_kinds.ps draw_interest_only_kinds.r) κs a w)
    → (◌≡◌ {A = ℕ × (List ℕ × List Float × ℕ × ℕ)} (x, (w.1.0, w.1.1.0, w.1.1.1.1.0, w.1.1.1.1.1.0)) (draw_answer (interest_only a.0) (a.1.0.now, a.1.1.0.now) a.1.1.1.0.now a.1.1.1.1.0.now a.1.1.1.1.1.0.now))
    × (w.1.1.1.0 ≡ filled (interest_only a.0) (in_hand (a.1.0.now, a.1.1.0.now)) a.1.1.1.0.now)
draw_interest_only_answers κs a x w p = p

pub draw_interest_only_with_years_answers : (κs : Lfts 6) (a : Dens κs draw_interest_only_with_years_kinds.ps) (x : (res_t draw_interest_only_with_years_kinds.r κs).Denot) (w : Lasts (ended_of 6 draw_interest_only_with_years_kinds.ps draw_interest_only_with_years_kinds.r) κs a)
    → draw_interest_only_with_years_reads.Post κs a x (at_exit (ended_of 6 draw_interest_only_with_years_kinds.ps draw_interest_only_with_years_kinds.r) κs a w)
    → (◌≡◌ {A = ℕ × (List ℕ × List Float × ℕ × ℕ)} (x, (w.1.0, w.1.1.0, w.1.1.1.1.1.0, w.1.1.1.1.1.1.0)) (year_draw_answer (interest_only a.0) ((a.1.0.now, a.1.1.0.now), a.1.1.1.1.0.now) (a.1.1.1.0.now, a.1.1.1.1.1.0.now, a.1.1.1.1.1.1.0.now)))
    × ((w.1.1.1.0 ≡ filled_with_years (interest_only a.0) (in_hand (a.1.0.now, a.1.1.0.now)) a.1.1.1.0.now a.1.1.1.1.0.now)
    × (w.1.1.1.1.0 ≡ summed (interest_only a.0) (in_hand (a.1.0.now, a.1.1.0.now)) a.1.1.1.0.now a.1.1.1.1.0.now))
draw_interest_only_with_years_answers κs a x w p = p

pub next_interest_only_row_answers : (κs : Lfts 5) (a : Dens κs next_interest_only_row_kinds.ps) (x : (res_t next_interest_only_row_kinds.r κs).Denot) (w : Lasts (ended_of 5 next_interest_only_row_kinds.ps next_interest_only_row_kinds.r) κs a)
    → next_interest_only_row_reads.Post κs a x (at_exit (ended_of 5 next_interest_only_row_kinds.ps next_interest_only_row_kinds.r) κs a w)
    → ◌≡◌ {A = ℕ × (List ℕ × List Float × List ℕ × ℕ × ℕ)} (x, (w.1.0, w.1.1.0, w.1.1.1.0, w.1.1.1.1.0, w.1.1.1.1.1.0)) (next_answer (interest_only a.0) (a.1.0.now, a.1.1.0.now) a.1.1.1.0.now a.1.1.1.1.0.now a.1.1.1.1.1.0.now)
next_interest_only_row_answers κs a x w p = p

-- ---- balloon loans
pub open_balloon_answers : (κs : Lfts 3) (a : Dens κs open_balloon_kinds.ps) (x : (res_t open_balloon_kinds.r κs).Denot) (w : Lasts (ended_of 3 open_balloon_kinds.ps open_balloon_kinds.r) κs a)
    → open_balloon_reads.Post κs a x (at_exit (ended_of 3 open_balloon_kinds.ps open_balloon_kinds.r) κs a w)
    → ◌≡◌ {A = ℕ × Kept} (x, (w.1.1.0, w.1.1.1.0)) (kind_open_answer (balloon a.1.0) a.0.now (a.1.1.0.now, a.1.1.1.0.now))
open_balloon_answers κs a x w p = p

pub open_balloon_with_payment_answers : (κs : Lfts 3) (a : Dens κs open_balloon_with_payment_kinds.ps) (x : (res_t open_balloon_with_payment_kinds.r κs).Denot) (w : Lasts (ended_of 3 open_balloon_with_payment_kinds.ps open_balloon_with_payment_kinds.r) κs a)
    → open_balloon_with_payment_reads.Post κs a x (at_exit (ended_of 3 open_balloon_with_payment_kinds.ps open_balloon_with_payment_kinds.r) κs a w)
    → ◌≡◌ {A = ℕ × Kept} (x, (w.1.1.1.0, w.1.1.1.1.0)) (kind_open_with_answer (balloon a.1.0) a.0.now a.1.1.0 (a.1.1.1.0.now, a.1.1.1.1.0.now))
open_balloon_with_payment_answers κs a x w p = p

pub draw_balloon_answers : (κs : Lfts 5) (a : Dens κs draw_balloon_kinds.ps) (x : (res_t draw_balloon_kinds.r κs).Denot) (w : Lasts (ended_of 5 draw_balloon_kinds.ps draw_balloon_kinds.r) κs a)
    → draw_balloon_reads.Post κs a x (at_exit (ended_of 5 draw_balloon_kinds.ps draw_balloon_kinds.r) κs a w)
    → (◌≡◌ {A = ℕ × (List ℕ × List Float × ℕ × ℕ)} (x, (w.1.0, w.1.1.0, w.1.1.1.1.0, w.1.1.1.1.1.0)) (draw_answer (balloon a.0) (a.1.0.now, a.1.1.0.now) a.1.1.1.0.now a.1.1.1.1.0.now a.1.1.1.1.1.0.now))
    × (w.1.1.1.0 ≡ filled (balloon a.0) (in_hand (a.1.0.now, a.1.1.0.now)) a.1.1.1.0.now)
draw_balloon_answers κs a x w p = p

pub draw_balloon_with_years_answers : (κs : Lfts 6) (a : Dens κs draw_balloon_with_years_kinds.ps) (x : (res_t draw_balloon_with_years_kinds.r κs).Denot) (w : Lasts (ended_of 6 draw_balloon_with_years_kinds.ps draw_balloon_with_years_kinds.r) κs a)
    → draw_balloon_with_years_reads.Post κs a x (at_exit (ended_of 6 draw_balloon_with_years_kinds.ps draw_balloon_with_years_kinds.r) κs a w)
    → (◌≡◌ {A = ℕ × (List ℕ × List Float × ℕ × ℕ)} (x, (w.1.0, w.1.1.0, w.1.1.1.1.1.0, w.1.1.1.1.1.1.0)) (year_draw_answer (balloon a.0) ((a.1.0.now, a.1.1.0.now), a.1.1.1.1.0.now) (a.1.1.1.0.now, a.1.1.1.1.1.0.now, a.1.1.1.1.1.1.0.now)))
    × ((w.1.1.1.0 ≡ filled_with_years (balloon a.0) (in_hand (a.1.0.now, a.1.1.0.now)) a.1.1.1.0.now a.1.1.1.1.0.now)
    × (w.1.1.1.1.0 ≡ summed (balloon a.0) (in_hand (a.1.0.now, a.1.1.0.now)) a.1.1.1.0.now a.1.1.1.1.0.now))
draw_balloon_with_years_answers κs a x w p = p

pub next_balloon_row_answers : (κs : Lfts 5) (a : Dens κs next_balloon_row_kinds.ps) (x : (res_t next_balloon_row_kinds.r κs).Denot) (w : Lasts (ended_of 5 next_balloon_row_kinds.ps next_balloon_row_kinds.r) κs a)
    → next_balloon_row_reads.Post κs a x (at_exit (ended_of 5 next_balloon_row_kinds.ps next_balloon_row_kinds.r) κs a w)
    → ◌≡◌ {A = ℕ × (List ℕ × List Float × List ℕ × ℕ × ℕ)} (x, (w.1.0, w.1.1.0, w.1.1.1.0, w.1.1.1.1.0, w.1.1.1.1.1.0)) (next_answer (balloon a.0) (a.1.0.now, a.1.1.0.now) a.1.1.1.0.now a.1.1.1.1.0.now a.1.1.1.1.1.0.now)
next_balloon_row_answers κs a x w p = p

pub look_up_balloon_year_answers : (κs : Lfts 4) (a : Dens κs look_up_balloon_year_kinds.ps) (x : (res_t look_up_balloon_year_kinds.r κs).Denot) (w : Lasts (ended_of 4 look_up_balloon_year_kinds.ps look_up_balloon_year_kinds.r) κs a)
    → look_up_balloon_year_reads.Post κs a x (at_exit (ended_of 4 look_up_balloon_year_kinds.ps look_up_balloon_year_kinds.r) κs a w)
    → ◌≡◌ {A = ℕ × List Float} (x, w.1.1.1.1.1.0) (lookup_answer (balloon a.0) ((a.1.0.now, a.1.1.0.now), a.1.1.1.0.now) a.1.1.1.1.0 a.1.1.1.1.1.0.now)
look_up_balloon_year_answers κs a x w p = p

-- ---- adjustable loans
pub open_adjustable_answers : (κs : Lfts 4) (a : Dens κs open_adjustable_kinds.ps) (x : (res_t open_adjustable_kinds.r κs).Denot) (w : Lasts (ended_of 4 open_adjustable_kinds.ps open_adjustable_kinds.r) κs a)
    → open_adjustable_reads.Post κs a x (at_exit (ended_of 4 open_adjustable_kinds.ps open_adjustable_kinds.r) κs a w)
    → ◌≡◌ {A = ℕ × Kept} (x, (w.1.1.1.1.1.0, w.1.1.1.1.1.1.0)) (kind_open_answer (adjustable (adjustment_of a.1.0 a.1.1.0 a.1.1.1.0) a.1.1.1.1.0.now) a.0.now (a.1.1.1.1.1.0.now, a.1.1.1.1.1.1.0.now))
open_adjustable_answers κs a x w p = p

pub draw_adjustable_answers : (κs : Lfts 6) (a : Dens κs draw_adjustable_kinds.ps) (x : (res_t draw_adjustable_kinds.r κs).Denot) (w : Lasts (ended_of 6 draw_adjustable_kinds.ps draw_adjustable_kinds.r) κs a)
    → draw_adjustable_reads.Post κs a x (at_exit (ended_of 6 draw_adjustable_kinds.ps draw_adjustable_kinds.r) κs a w)
    → (◌≡◌ {A = ℕ × (List ℕ × List Float × ℕ × ℕ)} (x, (w.1.1.1.1.0, w.1.1.1.1.1.0, w.1.1.1.1.1.1.1.0, w.1.1.1.1.1.1.1.1.0)) (draw_answer (adjustable (adjustment_of a.0 a.1.0 a.1.1.0) a.1.1.1.0.now) (a.1.1.1.1.0.now, a.1.1.1.1.1.0.now) a.1.1.1.1.1.1.0.now a.1.1.1.1.1.1.1.0.now a.1.1.1.1.1.1.1.1.0.now))
    × (w.1.1.1.1.1.1.0 ≡ filled (adjustable (adjustment_of a.0 a.1.0 a.1.1.0) a.1.1.1.0.now) (in_hand (a.1.1.1.1.0.now, a.1.1.1.1.1.0.now)) a.1.1.1.1.1.1.0.now)
draw_adjustable_answers κs a x w p = p

pub draw_adjustable_with_years_answers : (κs : Lfts 7) (a : Dens κs draw_adjustable_with_years_kinds.ps) (x : (res_t draw_adjustable_with_years_kinds.r κs).Denot) (w : Lasts (ended_of 7 draw_adjustable_with_years_kinds.ps draw_adjustable_with_years_kinds.r) κs a)
    → draw_adjustable_with_years_reads.Post κs a x (at_exit (ended_of 7 draw_adjustable_with_years_kinds.ps draw_adjustable_with_years_kinds.r) κs a w)
    → (◌≡◌ {A = ℕ × (List ℕ × List Float × ℕ × ℕ)} (x, (w.1.1.1.1.0, w.1.1.1.1.1.0, w.1.1.1.1.1.1.1.1.0, w.1.1.1.1.1.1.1.1.1.0)) (year_draw_answer (adjustable (adjustment_of a.0 a.1.0 a.1.1.0) a.1.1.1.0.now) ((a.1.1.1.1.0.now, a.1.1.1.1.1.0.now), a.1.1.1.1.1.1.1.0.now) (a.1.1.1.1.1.1.0.now, a.1.1.1.1.1.1.1.1.0.now, a.1.1.1.1.1.1.1.1.1.0.now)))
    × ((w.1.1.1.1.1.1.0 ≡ filled_with_years (adjustable (adjustment_of a.0 a.1.0 a.1.1.0) a.1.1.1.0.now) (in_hand (a.1.1.1.1.0.now, a.1.1.1.1.1.0.now)) a.1.1.1.1.1.1.0.now a.1.1.1.1.1.1.1.0.now)
    × (w.1.1.1.1.1.1.1.0 ≡ summed (adjustable (adjustment_of a.0 a.1.0 a.1.1.0) a.1.1.1.0.now) (in_hand (a.1.1.1.1.0.now, a.1.1.1.1.1.0.now)) a.1.1.1.1.1.1.0.now a.1.1.1.1.1.1.1.0.now))
draw_adjustable_with_years_answers κs a x w p = p

pub next_adjustable_row_answers : (κs : Lfts 6) (a : Dens κs next_adjustable_row_kinds.ps) (x : (res_t next_adjustable_row_kinds.r κs).Denot) (w : Lasts (ended_of 6 next_adjustable_row_kinds.ps next_adjustable_row_kinds.r) κs a)
    → next_adjustable_row_reads.Post κs a x (at_exit (ended_of 6 next_adjustable_row_kinds.ps next_adjustable_row_kinds.r) κs a w)
    → ◌≡◌ {A = ℕ × (List ℕ × List Float × List ℕ × ℕ × ℕ)} (x, (w.1.1.1.1.0, w.1.1.1.1.1.0, w.1.1.1.1.1.1.0, w.1.1.1.1.1.1.1.0, w.1.1.1.1.1.1.1.1.0)) (next_answer (adjustable (adjustment_of a.0 a.1.0 a.1.1.0) a.1.1.1.0.now) (a.1.1.1.1.0.now, a.1.1.1.1.1.0.now) a.1.1.1.1.1.1.0.now a.1.1.1.1.1.1.1.0.now a.1.1.1.1.1.1.1.1.0.now)
next_adjustable_row_answers κs a x w p = p
