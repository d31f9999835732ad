-- Demand 3, proved: every loan whose principal is a finite number of the machine, zero or more, whose term is from 1 to 1,200, and whose kind has no cause of line 16 in it, is opened, at any
-- rate and with any payment, given or worked out, a NaN included; and the numbers that any sequence of draws to its end wrote into its rooms are its rows, and repay it. Assumes nothing.
use mathlib.Core.Path.{◌≡◌, sym, ap, ◌∙◌, subst}
use mathlib.Core.Bool.{Bool, true, false, not, ◌||◌}
use mathlib.Core.List.{◌∷◌}
use Prim.Native.Nat.{ℕ, zero, suc, ◌<◌, ◌≤◌}
use native.Mathlib.Omega.{arith}
use lib.Dec.{T}
use lib.Ieee.{Float, binary64, fits, lt}
use lib.Ieee.Bits.{is_true, is_false}
use lib.Ieee.Scale.{finite}
use borrow.Author.Tests.{le-ltb, ne_eqb}
use Rattle.numbers.specs.Clamps.{plus_zero}
use Rattle.numbers.proofs.Amounts.{amount}
use Rattle.numbers.proofs.Order.{amount_by_tests}
use Rattle.refusals.specs.Outcome.{accepted, line}
use Rattle.refusals.specs.Table.{bad_amount, bad_term}
use Rattle.refusals.proofs.OneCause.{clear}
use Rattle.refusals.proofs.Verdicts.{accepted_alike}
use Rattle.records.specs.declared.Terms.{Terms}
use Rattle.mortgage.specs.declared.Loan.{Loan}
use Rattle.mortgage.specs.Kinds.{Way, level, kind_lines}
use Rattle.mortgage.specs.Payment.{payment, loan_of, opened_with, opened}
use Rattle.mortgage.specs.Openings.{starting_terms, paying_terms, kind_opened_with, kind_opened}
use Rattle.mortgage.specs.Month.{end_month, due}
use Rattle.mortgage.specs.Rows.{rows}
use Rattle.mortgage.specs.Demand3.{filed, Repaid, rows_due, Repays, OpensAndRepays}
use Rattle.mortgage.specs.Level as of_level
use Rattle.mortgage.proofs.DrawCases.{Fits, fits_some}
use Rattle.mortgage.proofs.LevelLaws.{level_fits}
use Rattle.mortgage.proofs.Sequences.{filed_to_the_end, starting_term, starting_principal, all_due, loan_opened, lines_passed, opened_level}
use Rattle.mortgage.proofs.RowsRepay.{repaid}

-- the rows of a loan in hand to its end repay its balance, where that is an amount
rows_repay : (way : Way) (l : Loan) (n : ℕ) → Fits way l.term → due way l ≡ n → 0 < n → T (amount binary64 l.balance) → Repaid l.balance n (rows way n l)
rows_repay way l zero f ends h start = absurd (omega arith)
rows_repay way l (suc m) f ends h start = repaid way l m f ends start

-- ---- a loan that starts with these terms and this payment
module _ (way : Way) (t : Terms) (pay : Float) where
  abbrev begun : Loan
  begun = loan_of (starting_terms way t) pay

  begun_term : begun.term ≡ t.term
  unfolding loan_of
  begun_term = starting_term way t

  begun_balance : begun.balance ≡ t.principal
  unfolding loan_of
  begun_balance = starting_principal way t

  module _ (good : bad_term t.term ≡ false) (kind_fits : Fits way t.term) where
    begun_fits : Fits way begun.term
    begun_fits = subst (Fits way) (sym begun_term) kind_fits

    some_due : 0 < rows_due way t
    unfolding due end_month loan_of
    some_due = omega (arith, all_due way t pay, fits_some way begun (ap bad_term begun_term ∙ good) begun_fits)

    begun_repaid : T (amount binary64 t.principal) → Repaid t.principal (rows_due way t) (rows way (rows_due way t) begun)
    begun_repaid start =
        subst (λ (b : Float). Repaid b (rows_due way t) (rows way (rows_due way t) begun)) begun_balance
        (rows_repay way begun (rows_due way t) begun_fits (all_due way t pay) some_due (subst (λ (b : Float). T (amount binary64 b)) (sym begun_balance) start))

    begun_repays : T (amount binary64 t.principal) → Repays way t begun
    begun_repays start rooms z =
        let e : filed way begun rooms ≡ rows way (rows_due way t) begun = filed_to_the_end way begun rooms z ∙ ap (λ (k : ℕ). rows way k begun) (all_due way t pay) in
        (e, rw e (begun_repaid start))

-- ---- terms that no line has a cause in
module _ (t : Terms) (fit : T (fits binary64 t.principal)) (fin : T (finite t.principal)) (not_below_lem : T (not (lt t.principal plus_zero))) where
  principal_amount : T (amount binary64 t.principal)
  principal_amount = amount_by_tests binary64 t.principal (is_true (fits binary64 t.principal) fit) (is_true (finite t.principal) fin) (is_false (lt t.principal plus_zero) not_below_lem)

  principal_good : bad_amount t.principal ≡ false
  unfolding bad_amount
  principal_good = rw (is_true (finite t.principal) fin, is_false (lt t.principal plus_zero) not_below_lem)

term_good : (n : ℕ) → 0 < n → n ≤ 1200 → bad_term n ≡ false
unfolding bad_term
term_good n some most = rw (ne_eqb n 0 (λ e. omega arith), le-ltb 1200 n most)

-- ---- demand 3, of a loan of any kind
pub demand3_of_any_kind : (way : Way) (t : Terms) (pay : Float) → T (fits binary64 t.principal) → T (finite t.principal) → T (not (lt t.principal plus_zero))
    → 0 < t.term → t.term ≤ 1200 → Fits way t.term → OpensAndRepays way t (kind_opened_with way t pay)
unfolding kind_opened_with
demand3_of_any_kind way t pay fit fin not_below_lem some most kind_fits =
    let good = term_good t.term some most in
    let v : Loan = loan_of (starting_terms way t) pay in
    let accepts =
    accepted_alike (kind_lines way t.term) v kind_fits
    ∙ clear v 2 (bad_term t.term) (kind_lines way t.term) good
    ∙ clear v 1 (bad_amount t.principal) (line 2 (bad_term t.term) ∷ kind_lines way t.term) (principal_good t fit fin not_below_lem)
    in
    subst (OpensAndRepays way t) accepts (begun_repays way t pay good kind_fits (principal_amount t fit fin not_below_lem))

pub demand3_of_any_kind_worked_out : (way : Way) (t : Terms) → T (fits binary64 t.principal) → T (finite t.principal) → T (not (lt t.principal plus_zero))
    → 0 < t.term → t.term ≤ 1200 → Fits way t.term → OpensAndRepays way t (kind_opened way t)
unfolding kind_opened
demand3_of_any_kind_worked_out way t = demand3_of_any_kind way t (payment (paying_terms way t))

-- ---- of document 01's loan
pub demand3_given : (t : Terms) (pay : Float) → T (fits binary64 t.principal) → T (finite t.principal) → T (not (lt t.principal plus_zero))
    → 0 < t.term → t.term ≤ 1200 → of_level.OpensAndRepays t (opened_with t pay)
demand3_given t pay fit fin not_below_lem some most =
    subst (of_level.OpensAndRepays t) (opened_level t pay) (demand3_of_any_kind level t pay fit fin not_below_lem some most (level_fits t.term))

pub demand3_worked_out : (t : Terms) → T (fits binary64 t.principal) → T (finite t.principal) → T (not (lt t.principal plus_zero))
    → 0 < t.term → t.term ≤ 1200 → of_level.OpensAndRepays t (opened t)
unfolding opened
demand3_worked_out t = demand3_given t (payment t)

-- ---- an opening that was accepted, whatever its terms
good_amount : (x : Float) → bad_amount x ≡ false → T (finite x) × T (not (lt x plus_zero))
unfolding bad_amount
good_amount x = go (finite x) (lt x plus_zero)
  where
    go : (a b : Bool) → (not a || b) ≡ false → T a × T (not b)
    go true false e = (tt, tt)
    go true true e = absurd (subst T e tt)
    go false b e = absurd (subst T e tt)

-- it owes its principal and has all its rows before it, and they repay it
pub record OpenedAs (way : Way) (t : Terms) (pay : Float) (l : Loan) : Type 0 where
  pub pays : l.payment ≡ pay
  pub owes : l.balance ≡ t.principal
  pub term_is : l.term ≡ t.term
  pub none_done : l.done ≡ 0
  pub good : bad_term l.term ≡ false
  pub kind_fits : Fits way l.term
  pub whole : due way l ≡ rows_due way t
  pub repaid_by_rows : Repaid t.principal (rows_due way t) (rows way (rows_due way t) l)

pub as_opened_of_any_kind : (way : Way) (t : Terms) (pay : Float) (l : Loan) → T (fits binary64 t.principal) → kind_opened_with way t pay ≡ accepted l → OpenedAs way t pay l
unfolding loan_of
as_opened_of_any_kind way t pay l fit e =
    let is = loan_opened way t pay l e in
    let lines = lines_passed way t pay l e in
    let a = good_amount t.principal lines.0 in
    let term : l.term ≡ t.term = ap (λ (m : Loan). m.term) is ∙ starting_term way t in
    record {
      pays = ap (λ (m : Loan). m.payment) is;
      owes = ap (λ (m : Loan). m.balance) is ∙ starting_principal way t;
      term_is = term;
      none_done = ap (λ (m : Loan). m.done) is;
      good = ap bad_term term ∙ lines.1;
      kind_fits = subst (Fits way) (sym term) lines.2;
      whole = ap (due way) is ∙ all_due way t pay;
      repaid_by_rows =
          subst (λ (m : Loan). Repaid t.principal (rows_due way t) (rows way (rows_due way t) m)) (sym is)
          (begun_repaid way t pay lines.1 lines.2 (principal_amount t fit a.0 a.1));
    }

-- document 01's loan
abbrev pub Opened : Terms → Float → Loan → Type 0
Opened = OpenedAs level

pub as_opened : (t : Terms) (pay : Float) (l : Loan) → T (fits binary64 t.principal) → opened_with t pay ≡ accepted l → Opened t pay l
as_opened t pay l fit e = as_opened_of_any_kind level t pay l fit (opened_level t pay ∙ e)
