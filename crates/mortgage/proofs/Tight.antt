-- How tight the promises of payments, verdicts on terms, openings, rows and draws are: whatever a public function is given, any two results that its contract allows are equal, and for a draw, and for rows laid at
-- places of a room, so are any two rooms that it may leave, and so are any two last states of the year-end lines beside them. Assumes nothing.
use mathlib.Core.Path.{◌≡◌, refl, sym, ap, ◌∙◌}
use mathlib.Core.List.{List, []}
use lib.Ieee.{Float}
use Rattle.numbers.proofs.Determined.{Determined, Settled}
use Rattle.refusals.proofs.OneToOne.{one_to_one, same_refusal}
use Rattle.records.specs.declared.Row.{Row}
use Rattle.mortgage.specs.declared.Loan.{Loan}
use Rattle.mortgage.specs.declared.rows.Month.{Month}
use Rattle.std.specs.declared.option.Option.{Option}
use Rattle.std.specs.declared.option.Option.TheVariants.{None, Some}
use Rattle.mortgage.specs.Rows.{next, next_outcome}
use Rattle.mortgage.proofs.payment.monthly_rate.Kinds as monthly_rate_kinds
use Rattle.mortgage.proofs.payment.monthly_rate.Reads as monthly_rate
use Rattle.mortgage.proofs.payment.monthly_payment.Kinds as monthly_payment_kinds
use Rattle.mortgage.proofs.payment.monthly_payment.Reads as monthly_payment
use Rattle.mortgage.proofs.opening.open_with_payment.Kinds as open_with_payment_kinds
use Rattle.mortgage.proofs.opening.open_with_payment.Reads as open_with_payment
use Rattle.mortgage.proofs.opening.open.Kinds as open_kinds
use Rattle.mortgage.proofs.opening.open.Reads as opens
use Rattle.mortgage.proofs.rows.rows_due.Kinds as rows_due_kinds
use Rattle.mortgage.proofs.rows.rows_due.Reads as rows_due
use Rattle.mortgage.proofs.rows.next_row.Kinds as next_row_kinds
use Rattle.mortgage.proofs.rows.next_row.Reads as next_row
use Rattle.mortgage.proofs.draws.draw.Kinds as draw_kinds
use Rattle.mortgage.proofs.draws.draw.Reads as draw
use Rattle.mortgage.proofs.years.draw_with_years.Kinds as draw_with_years_kinds
use Rattle.mortgage.proofs.years.draw_with_years.Reads as draw_with_years
use Rattle.mortgage.proofs.years.look_up_year.Kinds as look_up_year_kinds
use Rattle.mortgage.proofs.years.look_up_year.Reads as look_up_year
use Rattle.mortgage.proofs.terms.judge_terms.Kinds as judge_terms_kinds
use Rattle.mortgage.proofs.terms.judge_terms.Reads as judge_terms
use Rattle.mortgage.proofs.pairs.lay_at.Kinds as lay_at_kinds
use Rattle.mortgage.proofs.pairs.lay_at.Reads as lay_at_reads
use Rattle.mortgage.proofs.pairs.lay_both.Kinds as lay_both_kinds
use Rattle.mortgage.proofs.pairs.lay_both.Reads as lay_both
use Rattle.mortgage.proofs.kinds.judge_kind.Kinds as judge_kind_kinds
use Rattle.mortgage.proofs.kinds.judge_kind.Reads as judge_kind
use Rattle.mortgage.proofs.opening.open_kind.Kinds as open_kind_kinds
use Rattle.mortgage.proofs.opening.open_kind.Reads as open_kind
use Rattle.mortgage.proofs.opening.open_interest_only_with_payment.Kinds as open_interest_only_with_payment_kinds
use Rattle.mortgage.proofs.opening.open_interest_only_with_payment.Reads as open_interest_only_with_payment
use Rattle.mortgage.proofs.opening.open_balloon_with_payment.Kinds as open_balloon_with_payment_kinds
use Rattle.mortgage.proofs.opening.open_balloon_with_payment.Reads as open_balloon_with_payment
use Rattle.mortgage.proofs.rows.kind_rows_due.Kinds as kind_rows_due_kinds
use Rattle.mortgage.proofs.rows.kind_rows_due.Reads as kind_rows_due
use Rattle.mortgage.proofs.rows.next_kind_row.Kinds as next_kind_row_kinds
use Rattle.mortgage.proofs.rows.next_kind_row.Reads as next_kind_row
use Rattle.mortgage.proofs.draws.draw_kind.Kinds as draw_kind_kinds
use Rattle.mortgage.proofs.draws.draw_kind.Reads as draw_kind
use Rattle.mortgage.proofs.years.draw_kind_with_years.Kinds as draw_kind_with_years_kinds
use Rattle.mortgage.proofs.years.draw_kind_with_years.Reads as draw_kind_with_years
use Rattle.mortgage.proofs.years.look_up_kind_year.Kinds as look_up_kind_year_kinds
use Rattle.mortgage.proofs.years.look_up_kind_year.Reads as look_up_kind_year
use Rattle.std.specs.declared.result.Result.TheVariants.{Ok, Err}
use Rattle.std.specs.declared.result.Result.{Result}
use Rattle.refusals.specs.declared.Refusal.{Refusal}

same_month : (m n : Month) → next m.row m.next ≡ next n.row n.next → m ≡ n
same_month m n e =
    let a : m.row ≡ n.row = cc in
    let b : m.next ≡ n.next = cc in
    ap (λ (r : Row). record { row = r; next = m.next }) a ∙ ap (λ (l : Loan). record { row = n.row; next = l }) b

pub next_one_to_one : (x y : Result (Option Month) Refusal) → next_outcome x ≡ next_outcome y → x ≡ y
next_one_to_one (Err r) (Err s) e = ap Err (same_refusal r s e)
next_one_to_one (Err r) (Ok None) e = cc
next_one_to_one (Err r) (Ok (Some m)) e = cc
next_one_to_one (Ok None) (Err s) e = cc
next_one_to_one (Ok None) (Ok None) e = refl
next_one_to_one (Ok None) (Ok (Some m)) e = cc
next_one_to_one (Ok (Some m)) (Err s) e = cc
next_one_to_one (Ok (Some m)) (Ok None) e = cc
next_one_to_one (Ok (Some m)) (Ok (Some n)) e = ap (λ (a : Month). Ok (Some a)) (same_month m n (cc))

-- ---- so each promise leaves one result
pub monthly_rate_determined : Determined 0 monthly_rate_kinds.ps monthly_rate_kinds.r monthly_rate.Post
monthly_rate_determined κs a x y e e' p q = p ∙ sym q

pub monthly_payment_determined : Determined 0 monthly_payment_kinds.ps monthly_payment_kinds.r monthly_payment.Post
monthly_payment_determined κs a x y e e' p q = one_to_one x y (p ∙ sym q)

pub open_with_payment_determined : Determined 0 open_with_payment_kinds.ps open_with_payment_kinds.r open_with_payment.Post
open_with_payment_determined κs a x y e e' p q = one_to_one x y (p ∙ sym q)

pub open_determined : Determined 0 open_kinds.ps open_kinds.r opens.Post
open_determined κs a x y e e' p q = one_to_one x y (p ∙ sym q)

pub next_row_determined : Determined 0 next_row_kinds.ps next_row_kinds.r next_row.Post
next_row_determined κs a x y e e' p q = next_one_to_one x y (p ∙ sym q)

pub draw_determined : Determined 1 draw_kinds.ps draw_kinds.r draw.Post
draw_determined κs a x y e e' p q = one_to_one x y (p.0 ∙ sym q.0)

-- and a draw's promise one room, the second parameter
pub draw_room_settled : Settled 1 draw_kinds.ps draw_kinds.r draw.Post
draw_room_settled κs a x y w w' p q = ap (λ (l : List Float). (tt, (l, tt))) (p.1 ∙ sym q.1)

pub draw_with_years_determined : Determined 2 draw_with_years_kinds.ps draw_with_years_kinds.r draw_with_years.Post
draw_with_years_determined κs a x y e e' p q = one_to_one x y (p.0 ∙ sym q.0)

-- with year-end lines one room and one last state of the lines, the second parameter and the third
pub draw_with_years_room_and_years_settled : Settled 2 draw_with_years_kinds.ps draw_with_years_kinds.r draw_with_years.Post
draw_with_years_room_and_years_settled κs a x y w w' p q =
    ap (λ (l : List Float). (tt, (l, (w.1.1.0, tt)))) (p.1.0 ∙ sym q.1.0) ∙ ap (λ (l : List Float). (tt, (w'.1.0, (l, tt)))) (p.1.1 ∙ sym q.1.1)

pub look_up_year_determined : Determined 1 look_up_year_kinds.ps look_up_year_kinds.r look_up_year.Post
look_up_year_determined κs a x y e e' p q = one_to_one x y (p ∙ sym q)

pub rows_due_determined : Determined 0 rows_due_kinds.ps rows_due_kinds.r rows_due.Post
rows_due_determined κs a x y e e' p q = p ∙ sym q

pub judge_terms_determined : Determined 0 judge_terms_kinds.ps judge_terms_kinds.r judge_terms.Post
judge_terms_determined κs a x y e e' p q = one_to_one x y (p ∙ sym q)

-- ---- of loans of any kind: where no list is lent the promise is made for every list, the empty one too
pub judge_kind_determined : Determined 1 judge_kind_kinds.ps judge_kind_kinds.r judge_kind.Post
judge_kind_determined κs a x y e e' p q = one_to_one x y (p ∙ sym q)

pub open_kind_determined : Determined 1 open_kind_kinds.ps open_kind_kinds.r open_kind.Post
open_kind_determined κs a x y e e' p q = one_to_one x y (p ∙ sym q)

pub open_interest_only_with_payment_determined : Determined 0 open_interest_only_with_payment_kinds.ps open_interest_only_with_payment_kinds.r open_interest_only_with_payment.Post
open_interest_only_with_payment_determined κs a x y e e' p q = one_to_one x y (p ∙ sym q)

pub open_balloon_with_payment_determined : Determined 0 open_balloon_with_payment_kinds.ps open_balloon_with_payment_kinds.r open_balloon_with_payment.Post
open_balloon_with_payment_determined κs a x y e e' p q = one_to_one x y (p ∙ sym q)

pub kind_rows_due_determined : Determined 0 kind_rows_due_kinds.ps kind_rows_due_kinds.r kind_rows_due.Post
kind_rows_due_determined κs a x y e e' p q = p [] ∙ sym (q [])

pub next_kind_row_determined : Determined 1 next_kind_row_kinds.ps next_kind_row_kinds.r next_kind_row.Post
next_kind_row_determined κs a x y e e' p q = next_one_to_one x y (p ∙ sym q)

pub draw_kind_determined : Determined 2 draw_kind_kinds.ps draw_kind_kinds.r draw_kind.Post
draw_kind_determined κs a x y e e' p q = one_to_one x y (p.0 ∙ sym q.0)

-- and a draw's promise one room, the fourth parameter
pub draw_kind_room_settled : Settled 2 draw_kind_kinds.ps draw_kind_kinds.r draw_kind.Post
draw_kind_room_settled κs a x y w w' p q = ap (λ (l : List Float). (tt, (tt, (tt, (l, tt))))) (p.1 ∙ sym q.1)

pub draw_kind_with_years_determined : Determined 3 draw_kind_with_years_kinds.ps draw_kind_with_years_kinds.r draw_kind_with_years.Post
draw_kind_with_years_determined κs a x y e e' p q = one_to_one x y (p.0 ∙ sym q.0)

-- with year-end lines one room and one last state of the lines, the fourth parameter and the fifth
pub draw_kind_with_years_room_and_years_settled : Settled 3 draw_kind_with_years_kinds.ps draw_kind_with_years_kinds.r draw_kind_with_years.Post
draw_kind_with_years_room_and_years_settled κs a x y w w' p q =
    ap (λ (l : List Float). (tt, (tt, (tt, (l, (w.1.1.1.1.0, tt)))))) (p.1.0 ∙ sym q.1.0)
    ∙ ap (λ (l : List Float). (tt, (tt, (tt, (w'.1.1.1.0, (l, tt)))))) (p.1.1 ∙ sym q.1.1)

pub look_up_kind_year_determined : Determined 1 look_up_kind_year_kinds.ps look_up_kind_year_kinds.r look_up_kind_year.Post
look_up_kind_year_determined κs a x y e e' p q = one_to_one x y (p [] ∙ sym (q []))

-- ---- rows at places of a room, the second parameter of one loan's and the third of two loans'
pub lay_at_determined : Determined 1 lay_at_kinds.ps lay_at_kinds.r lay_at_reads.Post
lay_at_determined κs a x y e e' p q = p.0 ∙ sym q.0

pub lay_at_room_settled : Settled 1 lay_at_kinds.ps lay_at_kinds.r lay_at_reads.Post
lay_at_room_settled κs a x y w w' p q = ap (λ (l : List Float). (tt, (l, (tt, (tt, tt))))) (p.1 ∙ sym q.1)

pub lay_both_determined : Determined 1 lay_both_kinds.ps lay_both_kinds.r lay_both.Post
lay_both_determined κs a x y e e' p q =
    ap (λ (l : Loan). record { first = l; second = x.second }) (p.0.0 ∙ sym q.0.0) ∙ ap (λ (l : Loan). record { first = y.first; second = l }) (p.0.1 ∙ sym q.0.1)

pub lay_both_room_settled : Settled 1 lay_both_kinds.ps lay_both_kinds.r lay_both.Post
lay_both_room_settled κs a x y w w' p q = ap (λ (l : List Float). (tt, (tt, (l, (tt, (tt, (tt, tt))))))) (p.1 ∙ sym q.1)
