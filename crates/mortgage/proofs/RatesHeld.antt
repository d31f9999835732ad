-- Of an adjustable loan whose lines have no cause: every year's rate is finite and held by the caps beside the last year's, each month has the rate of its year, and the payment is worked out
-- afresh where a later year begins and stays in every other month. Assumes nothing.
use mathlib.Core.Path.{◌≡◌, refl, sym, ap, ◌∙◌, subst}
use mathlib.Core.Bool.{Bool, true, false, not, ◌&&◌, ◌||◌, cond}
use mathlib.Core.List.{List, [], ◌∷◌, map}
use Prim.Native.Nat.{ℕ, zero, suc, ◌-◌, ◌/◌, ◌%◌, ◌≤◌, ◌<◌}
use native.Mathlib.Omega.{arith}
use lib.Dec.{T, ltb, eqb}
use lib.ListN.{length, get_or, take}
use lib.Ieee.{Float, nan, binary64, add, sub, lt, le, fits, of_bits}
use lib.Ieee.Bits.{is_true}
use lib.Ieee.Fits.{cond-fits, add-fits, sub-fits}
use lib.Ieee.Scale.{finite}
use borrow.Author.Tests.{ltb-true, lt-ltb, eqb-true, eq-eqb, not-false}
use Rattle.numbers.proofs.Amounts.{passes, amount}
use Rattle.numbers.proofs.Order.{amount_by_tests}
use Rattle.numbers.proofs.Comparing.{clash, finite_real, first_real, second_real, at_or_below_real, lt_le, le_trans, le_itself, compared_itself, finite_within}
use Rattle.numbers.proofs.Growing.{sum_not_below, difference_not_above}
use Rattle.numbers.specs.Clamps.{plus_zero}
use Rattle.refusals.specs.Outcome.{accepted}
use Rattle.refusals.specs.Table.{bad_initial, bad_cap, too_few_entries, bad_entry}
use Rattle.refusals.proofs.Causes.{neither, alone_clear}
use Rattle.refusals.proofs.Judging.{none_is, passed}
use Rattle.records.specs.declared.Terms.{Terms}
use Rattle.mortgage.specs.declared.Loan.{Loan}
use Rattle.mortgage.specs.declared.kinds.Adjustment.{Adjustment}
use Rattle.mortgage.specs.Payment.{monthly_rate, payment, loan_of}
use Rattle.mortgage.specs.RowRule.{interest_of}
use Rattle.mortgage.specs.Kinds.{Way, adjustable, later_years, entries_read, bad_adjustment}
use Rattle.mortgage.specs.Rates.{lowest, highest, top, held_within, not_above, next_rate, entry_behind, rate_of_year, HeldByCaps, begins_later_year, adjusted_to, in_force}
use Rattle.mortgage.specs.Openings.{starting_terms, kind_opened_with}
use Rattle.mortgage.specs.Month.{row_on, next_on, row_of, next_of}
use Rattle.steps.specs.Steps.{stepped}
use Rattle.mortgage.specs.Rows.{after}
use Rattle.mortgage.proofs.RowLaws.{in_force_balance, done_after, term_after}
use Rattle.mortgage.proofs.Sequences.{loan_opened, lines_passed}
use Rattle.mortgage.proofs.DrawCases.{Fits, fits_listed}

-- ---- a number held within two bounds and then not above a third, where a finite number lies within all three
record Between (low high x : Float) : Type 0 where
  above_low : le low x ≡ true
  below_high : le x high ≡ true
  no_infinity : finite x ≡ true

module _ (low last high : Float) (last_finite : finite last ≡ true) (falls : le low last ≡ true) (rises : le last high ≡ true) where
  within_both : (x : Float) → finite x ≡ true → Between low high (held_within low high x)
  within_both x x_finite = go (lt x low) (lt high x) refl refl
    where
      go : (p q : Bool) → lt x low ≡ p → lt high x ≡ q → Between low high (cond p low (cond q high x))
      go true q u v =
          record {
            above_low = compared_itself low last falls;
            below_high = le_trans low last high falls rises;
            no_infinity = finite_within x low last x_finite last_finite (lt_le x low u) falls;
          }
      go false true u v =
          let high_finite = finite_within last high x last_finite x_finite rises (lt_le high x v) in
          record { above_low = le_trans low last high falls rises; below_high = le_itself high high_finite; no_infinity = high_finite }
      go false false u v =
          record {
            above_low = at_or_below_real low x (first_real low last falls) (finite_real x x_finite) u;
            below_high = at_or_below_real x high (finite_real x x_finite) (second_real last high rises) v;
            no_infinity = x_finite;
          }

  under_third : (most x : Float) → le last most ≡ true → Between low high x → Between low high (not_above most x) × (le (not_above most x) most ≡ true)
  under_third most x under b = go (lt most x) refl
    where
      go : (p : Bool) → lt most x ≡ p → Between low high (cond p most x) × (le (cond p most x) most ≡ true)
      go true u =
          let most_finite = finite_within last most x last_finite b.no_infinity under (lt_le most x u) in (
            record { above_low = le_trans low last most falls under; below_high = le_trans most x high (lt_le most x u) b.below_high; no_infinity = most_finite },
            le_itself most most_finite,
          )
      go false u = (b, at_or_below_real x most (finite_real x b.no_infinity) (second_real last most under) u)

-- ---- one year's rate
-- the numbers of an adjustment that line 16 has nothing against
pub record Sound (a : Adjustment) : Type 0 where
  pub initial_finite : T (finite a.initial)
  pub initial_fits : T (fits binary64 a.initial)
  pub cap_amount : T (amount binary64 a.cap)
  pub lifetime_amount : T (amount binary64 a.lifetime)

-- a rate that a year may have
pub record Stands (a : Adjustment) (rate : Float) : Type 0 where
  pub rate_finite : T (finite rate)
  pub rate_fits : T (fits binary64 rate)
  pub rate_under : T (le rate (top a))

pub first_stands : (a : Adjustment) → Sound a → Stands a a.initial
first_stands a s =
    record {
      rate_finite = s.initial_finite;
      rate_fits = s.initial_fits;
      rate_under = sum_not_below binary64 a.initial a.lifetime s.initial_finite s.initial_fits s.lifetime_amount;
    }

module _ (a : Adjustment) (last index : Float) (s : Sound a) (year : Stands a last) (index_finite : T (finite index)) where
  held : Between (lowest a last) (highest a last) (next_rate a last index) × (le (next_rate a last index) (top a) ≡ true)
  unfolding next_rate
  held =
      let last_finite = is_true (finite last) year.rate_finite in
      let falls = is_true (le (lowest a last) last) (difference_not_above binary64 last a.cap year.rate_finite year.rate_fits s.cap_amount) in
      let rises = is_true (le last (highest a last)) (sum_not_below binary64 last a.cap year.rate_finite year.rate_fits s.cap_amount) in
      under_third (lowest a last) last (highest a last) last_finite falls rises (top a) (held_within (lowest a last) (highest a last) index) (is_true (le last (top a)) year.rate_under)
      (within_both (lowest a last) last (highest a last) last_finite falls rises index (is_true (finite index) index_finite))

  pub a_rate_held : HeldByCaps a last (next_rate a last index)
  a_rate_held =
      record {
        at_least = passes held.0.above_low;
        at_most = passes held.0.below_high;
        under_top = passes held.1;
        is_finite = passes held.0.no_infinity;
      }

  next_fits : T (fits binary64 index) → T (fits binary64 (next_rate a last index))
  unfolding next_rate
  next_fits t =
      let x = held_within (lowest a last) (highest a last) index in
      cond-fits binary64 (lt (top a) x) (top a) x (add-fits binary64 a.initial a.lifetime)
      (cond-fits binary64 (lt index (lowest a last)) (lowest a last) (cond (lt (highest a last) index) (highest a last) index) (sub-fits binary64 last a.cap)
      (cond-fits binary64 (lt (highest a last) index) (highest a last) index (add-fits binary64 last a.cap) t))

  -- it stands in its turn
  pub next_stands : T (fits binary64 index) → Stands a (next_rate a last index)
  next_stands t = record { rate_finite = a_rate_held.is_finite; rate_fits = next_fits t; rate_under = a_rate_held.under_top }

-- what a year's rate is above the last year's may be more than the cap: 0.05, with a cap of 0.02
abbrev five_percent : Float
five_percent = of_bits binary64 0x3fa9_9999_9999_999a

abbrev two_percent : Float
two_percent = of_bits binary64 0x3f94_7ae1_47ae_147b

pub may_pass_the_cap : lt two_percent (sub binary64 (add binary64 five_percent two_percent) five_percent) ≡ true
unfolding lt sub add of_bits
may_pass_the_cap = refl

-- ---- what line 16 says where it has no cause
entry_clear : (n : ℕ) (index : List Float) → n ≤ length index → ((q : ℕ) → get_or (map bad_entry (take n index)) q false ≡ false) → (y : ℕ) → y < n → bad_entry (get_or index y nan) ≡ false
entry_clear zero index h none y l = absurd (omega arith)
entry_clear (suc n) [] h none y l = absurd (omega arith)
entry_clear (suc n) (x ∷ index) h none zero l = none 0
entry_clear (suc n) (x ∷ index) h none (suc y) l = entry_clear n index (omega arith) (λ q. none (suc q)) y (omega arith)

cap_is_amount : (cap : Float) → T (fits binary64 cap) → bad_cap cap ≡ false → T (amount binary64 cap)
unfolding bad_cap
cap_is_amount cap t h =
    let both = neither (not (finite cap)) (lt cap plus_zero) h in
    amount_by_tests binary64 cap (is_true (fits binary64 cap) t) (not-false (finite cap) both.0) both.1

module _ (a : Adjustment) (index : List Float) (term : ℕ) (fit : Fits (adjustable a index) term) where
  clears : ((bad_initial a.initial || bad_cap a.cap || bad_cap a.lifetime || too_few_entries (later_years term) (length index)) ≡ false) × ((q : ℕ) → get_or (map bad_entry (entries_read index term)) q false ≡ false)
  clears =
      alone_clear (bad_initial a.initial || bad_cap a.cap || bad_cap a.lifetime || too_few_entries (later_years term) (length index)) (map bad_entry (entries_read index term))
      (none_is (passed tt tt (bad_adjustment a index term) [] fit).0)

  pub sound : T (fits binary64 a.initial) → T (fits binary64 a.cap) → T (fits binary64 a.lifetime) → Sound a
  unfolding bad_initial
  sound i c l =
      let three = (neither (bad_initial a.initial || bad_cap a.cap || bad_cap a.lifetime) (too_few_entries (later_years term) (length index)) clears.0).0 in
      let two = neither (bad_initial a.initial || bad_cap a.cap) (bad_cap a.lifetime) three in
      let one = neither (bad_initial a.initial) (bad_cap a.cap) two.0 in
      record {
        initial_finite = passes (not-false (finite a.initial) one.0);
        initial_fits = i;
        cap_amount = cap_is_amount a.cap c one.1;
        lifetime_amount = cap_is_amount a.lifetime l two.1;
      }

  pub entry_finite : (y : ℕ) → y < later_years term → T (finite (get_or index y nan))
  unfolding bad_entry
  entry_finite y h = passes (not-false (finite (get_or index y nan)) (entry_clear (later_years term) index (fits_listed (adjustable a index) term fit) clears.1 y h))

-- ---- every year's rate
-- the numbers that such a loan is lent fit
pub record Lent (a : Adjustment) (index : List Float) : Type 0 where
  pub initial_held : T (fits binary64 a.initial)
  pub cap_held : T (fits binary64 a.cap)
  pub lifetime_held : T (fits binary64 a.lifetime)
  pub entries_held : (i : ℕ) → i < length index → T (fits binary64 (get_or index i nan))

module _ (a : Adjustment) (index : List Float) (term : ℕ) (lent : Lent a index) (fit : Fits (adjustable a index) term) where
  is_sound : Sound a
  is_sound = sound a index term fit lent.initial_held lent.cap_held lent.lifetime_held

  pub every_rate_stands : (y : ℕ) → y ≤ later_years term → Stands a (rate_of_year a index y)
  unfolding rate_of_year
  every_rate_stands zero h = first_stands a is_sound
  every_rate_stands (suc y) h =
      next_stands a (rate_of_year a index y) (get_or index y nan) is_sound (every_rate_stands y (omega arith)) (entry_finite a index term fit y h)
      (lent.entries_held y (omega (arith, fits_listed (adjustable a index) term fit)))

  pub every_rate_held : (y : ℕ) → y < later_years term → HeldByCaps a (rate_of_year a index y) (rate_of_year a index (suc y))
  unfolding rate_of_year
  every_rate_held y h = a_rate_held a (rate_of_year a index y) (get_or index y nan) is_sound (every_rate_stands y (omega arith)) (entry_finite a index term fit y h)

-- ---- a month that begins a later year, and one that does not
pub begun : (n : ℕ) → 0 < n → n % 12 ≡ 0 → begins_later_year n ≡ true
begun n l e = rw (lt-ltb 0 n l, eq-eqb (n % 12) 0 e)

begins : (n : ℕ) → begins_later_year n ≡ true → (0 < n) × (n % 12 ≡ 0)
begins n = go (ltb 0 n) (eqb (n % 12) 0) (ltb-true 0 n) (eqb-true (n % 12) 0)
  where
    go : (p q : Bool) → (p ≡ true → 0 < n) → (q ≡ true → n % 12 ≡ 0) → (p && q) ≡ true → (0 < n) × (n % 12 ≡ 0)
    go true true l h e = (l refl, h refl)
    go true false l h e = clash e
    go false q l h e = clash e

goes_on : (n : ℕ) → (0 < n → n % 12 ≡ 0 → ⊥) → begins_later_year n ≡ false
goes_on n other = go (begins_later_year n) (begins n)
  where
    go : (b : Bool) → (b ≡ true → (0 < n) × (n % 12 ≡ 0)) → b ≡ false
    go true h = absurd (other (h refl).0 (h refl).1)
    go false h = refl

new_year : (k : ℕ) → suc k % 12 ≡ 0 → suc k / 12 ≡ suc (k / 12)
new_year k h = omega arith

same_year : (k : ℕ) → (suc k % 12 ≡ 0 → ⊥) → suc k / 12 ≡ k / 12
same_year k h = omega (arith, h)

-- ---- the rate and the payment of a month
module _ (a : Adjustment) (index : List Float) where
  abbrev way : Way
  way = adjustable a index

  in_force_rate : (l : Loan) → (in_force way l).rate ≡ cond (begins_later_year l.done) (next_rate a l.rate (entry_behind index l.done)) l.rate
  unfolding in_force adjusted_to
  in_force_rate l = go (begins_later_year l.done)
    where
      x : Float
      x = next_rate a l.rate (entry_behind index l.done)

      go : (b : Bool) → (cond b (adjusted_to x l) l).rate ≡ cond b x l.rate
      go true = refl
      go false = refl

  in_force_begun : (l : Loan) → begins_later_year l.done ≡ true → (in_force way l).payment ≡ payment (record { principal = l.balance; rate = (in_force way l).rate; term = l.term - l.done })
  unfolding in_force adjusted_to
  in_force_begun l = go (begins_later_year l.done)
    where
      x : Float
      x = next_rate a l.rate (entry_behind index l.done)

      go : (b : Bool) → b ≡ true → (cond b (adjusted_to x l) l).payment ≡ payment (record { principal = l.balance; rate = (cond b (adjusted_to x l) l).rate; term = l.term - l.done })
      go true e = refl
      go false e = clash e

  in_force_same : (l : Loan) → begins_later_year l.done ≡ false → in_force way l ≡ l
  unfolding in_force
  in_force_same l = go (begins_later_year l.done) (adjusted_to (next_rate a l.rate (entry_behind index l.done)) l)
    where
      go : (b : Bool) (x : Loan) → b ≡ false → cond b x l ≡ l
      go true x e = clash (sym e)
      go false x e = refl

  -- from a month to the next
  year_onward : (last : Float) (y z : ℕ) → z ≡ suc y → last ≡ rate_of_year a index y → next_rate a last (get_or index (z - 1) nan) ≡ rate_of_year a index z
  unfolding rate_of_year
  year_onward last y z e h =
      ap (λ (i : ℕ). next_rate a last (get_or index i nan)) (one_less e) ∙ ap (λ (r : Float). next_rate a r (get_or index y nan)) h ∙ sym (ap (rate_of_year a index) e)
    where
      one_less : z ≡ suc y → z - 1 ≡ y
      one_less e = omega arith

  month_onward : (last : Float) (k : ℕ) → last ≡ rate_of_year a index (k / 12)
      → cond (begins_later_year (suc k)) (next_rate a last (entry_behind index (suc k))) last ≡ rate_of_year a index (suc k / 12)
  month_onward last k h = go (begins_later_year (suc k)) refl
    where
      go : (b : Bool) → begins_later_year (suc k) ≡ b → cond b (next_rate a last (entry_behind index (suc k))) last ≡ rate_of_year a index (suc k / 12)
      go true e = year_onward last (k / 12) (suc k / 12) (new_year k (begins (suc k) e).1) h
      go false e = h ∙ ap (rate_of_year a index) (sym (same_year k (λ (z : suc k % 12 ≡ 0). clash (sym e ∙ begun (suc k) (omega arith) z))))

  given_rate : (l : Loan) (n : ℕ) → l.done ≡ n → (in_force way l).rate ≡ cond (begins_later_year n) (next_rate a l.rate (entry_behind index n)) l.rate
  given_rate l n e = in_force_rate l ∙ ap (λ (d : ℕ). cond (begins_later_year d) (next_rate a l.rate (entry_behind index d)) l.rate) e

  held_rate : (k : ℕ) (l : Loan) → (after way (suc k) l).rate ≡ (in_force way (after way k l)).rate
  unfolding stepped next_of next_on
  held_rate k l = refl

  -- a loan in hand holds the payment of the month before
  pub payment_held : (k : ℕ) (l : Loan) → (after way (suc k) l).payment ≡ (in_force way (after way k l)).payment
  unfolding stepped next_of next_on
  payment_held k l = refl

  given_interest : (l : Loan) → (row_of way l).interest ≡ interest_of (monthly_rate (in_force way l).rate) (in_force way l).balance
  unfolding row_of row_on
  given_interest l = refl

  -- from its opening on
  module _ (l : Loan) (unbegun : l.done ≡ 0) (first_year : l.rate ≡ a.initial) where
    behind : (k : ℕ) → (after way k l).done ≡ k
    behind k = omega (arith, done_after way k l)

    first_rate : (in_force way (after way 0 l)).rate ≡ rate_of_year a index 0
    unfolding stepped rate_of_year
    first_rate = given_rate l 0 unbegun ∙ first_year

    rate_behind_lem : (k : ℕ) → (in_force way (after way k l)).rate ≡ rate_of_year a index (k / 12)
    rate_behind_lem zero = first_rate
    rate_behind_lem (suc k) = given_rate (after way (suc k) l) (suc k) (behind (suc k)) ∙ month_onward (after way (suc k) l).rate k (held_rate k l ∙ rate_behind_lem k)

  -- ---- of a loan that an opening accepted
  module _ (t : Terms) (pay : Float) (l : Loan) (opened : kind_opened_with way t pay ≡ accepted l) where
    is_opened : l ≡ loan_of (starting_terms way t) pay
    is_opened = loan_opened way t pay l opened

    opened_done : l.done ≡ 0
    unfolding loan_of
    opened_done = ap (λ (m : Loan). m.done) is_opened

    opened_rate : l.rate ≡ a.initial
    unfolding loan_of
    opened_rate = ap (λ (m : Loan). m.rate) is_opened

    opened_term : l.term ≡ t.term
    unfolding loan_of
    opened_term = ap (λ (m : Loan). m.term) is_opened

    -- line 16 has no cause
    pub opened_fits : Fits way t.term
    opened_fits = (lines_passed way t pay l opened).2

    -- the month k + 1 has the rate of its year, and its interest is by that rate
    pub rate_in_month : (k : ℕ) → (in_force way (after way k l)).rate ≡ rate_of_year a index (k / 12)
    rate_in_month k = rate_behind_lem l opened_done opened_rate k

    pub interest_in_month : (k : ℕ) → (row_of way (after way k l)).interest ≡ interest_of (monthly_rate (rate_of_year a index (k / 12))) (after way k l).balance
    interest_in_month k =
        given_interest (after way k l)
        ∙ ap (λ (r : Float). interest_of (monthly_rate r) (in_force way (after way k l)).balance) (rate_in_month k)
        ∙ ap (interest_of (monthly_rate (rate_of_year a index (k / 12)))) (in_force_balance way (after way k l))

    -- which is finite and no more than the caps leave
    pub rate_in_month_stands : Lent a index → (k : ℕ) → k < t.term → Stands a (in_force way (after way k l)).rate
    rate_in_month_stands lent k h = subst (Stands a) (sym (rate_in_month k)) (every_rate_stands a index t.term lent opened_fits (k / 12) (in_term t.term h))
      where
        in_term : (term : ℕ) → k < term → k / 12 ≤ later_years term
        in_term term h = omega arith

    -- the payment: of the opening, afresh where a later year begins, and that of the month before in any other month
    pub first_payment : (after way 0 l).payment ≡ pay
    unfolding stepped loan_of
    first_payment = ap (λ (m : Loan). m.payment) is_opened

    pub payment_afresh : (k : ℕ) → 0 < k → k % 12 ≡ 0
        → (in_force way (after way k l)).payment ≡ payment (record { principal = (after way k l).balance; rate = rate_of_year a index (k / 12); term = t.term - k })
    payment_afresh k h e =
        in_force_begun (after way k l) (ap begins_later_year (behind l opened_done opened_rate k) ∙ begun k h e)
        ∙ same (rate_in_month k) (term_after way k l ∙ opened_term) (behind l opened_done opened_rate k)
      where
        same : {r r' : Float} {n n' d d' : ℕ} → r ≡ r' → n ≡ n' → d ≡ d'
            → payment (record { principal = (after way k l).balance; rate = r; term = n - d }) ≡ payment (record { principal = (after way k l).balance; rate = r'; term = n' - d' })
        same p q s = rw (p, q, s)

    pub payment_stays : (k : ℕ) → (0 < k → k % 12 ≡ 0 → ⊥) → (in_force way (after way k l)).payment ≡ (after way k l).payment
    payment_stays k other = ap (λ (m : Loan). m.payment) (in_force_same (after way k l) (ap begins_later_year (behind l opened_done opened_rate k) ∙ goes_on k other))
