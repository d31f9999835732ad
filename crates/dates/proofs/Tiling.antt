-- The periods of a span tile it: the first begins at the first date, the last ends at the second, each begins where the one before it ends and none is empty in actual days; there are as many
-- as it takes, and of dates that are whole periods apart exactly those. Assumes nothing.
use mathlib.Core.Path.{◌≡◌, refl, sym, ap, subst, ◌∙◌}
use mathlib.Core.Logic.{◌⊎◌, inl, inr, ⊎_elim}
use mathlib.Core.Bool.{Bool, true, false, cond, ◌&&◌}
use Prim.Native.Nat.{ℕ, suc, ◌+◌, ◌-◌, ◌*◌, ◌/◌, ◌≤◌, ◌<◌, min}
use native.Mathlib.Nat.{div-mul-le_self, lt-div-mul-add, mul-div_cancel, mul-lt-mul_of_pos_right}
use native.Mathlib.Omega.{arith}
use lib.Dec.{leb, ltb}
use borrow.Author.Tests.{leb-true, ltb-true, ltb-false}
use Rattle.dates.specs.declared.Date.{Date}
use Rattle.dates.specs.declared.periods.Span.{Span}
use Rattle.dates.specs.Calendar.{is_date, is_after}
use Rattle.dates.specs.DayNumbers.{day_number}
use Rattle.dates.specs.Counts.{actual_days}
use Rattle.dates.specs.Months.{month_index, months_later}
use Rattle.dates.specs.Periods.{is_span, uncut, bound, whole_periods, period_count}
use Rattle.dates.specs.inner.Ranks.{rank}
use Rattle.dates.proofs.Tests.{both, decided, clash}
use Rattle.dates.proofs.Parts.{parts}
use Rattle.dates.proofs.Ranks.{Shaped, shaped, rank_by_index, after_rank, not_after_rank, rank_after, rank_not_after}
use Rattle.dates.proofs.LaterMonths.{last_day, last_day_bounds, in_month_index, in_month_rank, in_month_shaped, in_month_date, index_bounds, no_months_later}
use Rattle.dates.proofs.InOrder.{later_number, no_later_number}

pub record SpanParts (s : Span) : Type 0 where
  pub first_is_date : is_date s.first ≡ true
  pub second_is_date : is_date s.second ≡ true
  pub second_after : is_after s.first s.second ≡ true
  pub step_low : 1 ≤ s.step
  pub step_high : s.step ≤ 12

pub span_parts : (s : Span) → is_span s ≡ true → SpanParts s
unfolding is_span
span_parts s e =
    let p = both (is_date s.first && is_date s.second && is_after s.first s.second) (leb 1 s.step && leb s.step 12) e in
    let q = both (is_date s.first && is_date s.second) (is_after s.first s.second) p.0 in
    let d = both (is_date s.first) (is_date s.second) q.0 in
    let m = both (leb 1 s.step) (leb s.step 12) p.1 in
    record {
      first_is_date = d.0;
      second_is_date = d.1;
      second_after = q.1;
      step_low = leb-true 1 s.step m.0;
      step_high = leb-true s.step 12 m.1;
    }

-- ---- ranks of months, over plain numbers: a day k cut to p or to q, and a second date
later_month : (m n p q : ℕ) → m < n → p ≤ 31 → 1 ≤ q → m * 32 + p < n * 32 + q
later_month m n p q h a b = omega arith

no_later_month : (m n p q : ℕ) → m * 32 + p < n * 32 + q → 1 ≤ p → q ≤ 31 → m ≤ n
no_later_month m n p q h a b = omega arith

module _ (s : Span) (e : is_span s ≡ true) where
  abbrev pub index_at : ℕ → ℕ
  index_at i = month_index s.first + i * s.step

  abbrev pub day_at : ℕ → ℕ
  day_at i = min s.first.day (last_day (index_at i))

  day_low : 1 ≤ s.first.day
  day_low = (parts s.first (span_parts s e).first_is_date).day_low

  pub uncut_rank : (i : ℕ) → rank (uncut s i) ≡ index_at i * 32 + day_at i
  unfolding uncut months_later
  uncut_rank i = in_month_rank (index_at i) s.first.day

  uncut_shaped : (i : ℕ) → Shaped (uncut s i)
  unfolding uncut months_later
  uncut_shaped i = in_month_shaped (index_at i) s.first.day day_low

  uncut_index : (i : ℕ) → month_index (uncut s i) ≡ index_at i
  unfolding uncut months_later
  uncut_index i = in_month_index (index_at i) s.first.day

  day_bounds : (i : ℕ) → (1 ≤ day_at i) × (day_at i ≤ 31)
  day_bounds i = let b = last_day_bounds (index_at i) in let d = day_low in (omega arith, omega arith)

  second_shaped : Shaped s.second
  second_shaped = shaped s.second (span_parts s e).second_is_date

  -- the months are counted from the first date: there it begins
  pub uncut_first : uncut s 0 ≡ s.first
  unfolding uncut
  uncut_first = ap (λ (k : ℕ). months_later k s.first) (none s.step) ∙ no_months_later s.first (span_parts s e).first_is_date
    where
      none : (step : ℕ) → 0 * step ≡ 0
      none step = omega arith

  -- each later one is later
  uncut_rises : (i j : ℕ) → i < j → rank (uncut s i) < rank (uncut s j)
  uncut_rises i j h =
      let p = (span_parts s e).step_low in
      let m : i * s.step < j * s.step = mul-lt-mul_of_pos_right h p in
      let r = uncut_rank i in
      let t = uncut_rank j in
      let n : index_at i < index_at j = omega arith in
      let l = later_month (index_at i) (index_at j) (day_at i) (day_at j) n (day_bounds i).1 (day_bounds j).0 in
      omega arith

  uncut_no_lower : (i j : ℕ) → i ≤ j → rank (uncut s i) ≤ rank (uncut s j)
  uncut_no_lower i j h = ⊎_elim (λ f. let l = uncut_rises i j (ltb-true i j f) in omega arith)
      (λ f. let n = ltb-false i j f in let same : i ≡ j = omega arith in let r : rank (uncut s i) ≡ rank (uncut s j) = ap (λ (k : ℕ). rank (uncut s k)) same in omega arith)
      (decided (ltb i j))

  -- in a month after the second date's there is nothing before it; in one before, everything
  month_after : (i : ℕ) → month_index s.second < index_at i → rank s.second < rank (uncut s i)
  month_after i h =
      let r = uncut_rank i in
      let t = rank_by_index s.second in
      let l = later_month (month_index s.second) (index_at i) s.second.day (day_at i) h second_shaped.day_high (day_bounds i).0 in
      omega arith

  month_before : (i : ℕ) → index_at i < month_index s.second → rank (uncut s i) < rank s.second
  month_before i h =
      let r = uncut_rank i in
      let t = rank_by_index s.second in
      let l = later_month (index_at i) (month_index s.second) (day_at i) s.second.day h (day_bounds i).1 second_shaped.day_low in
      omega arith

  pub second_month_after : (i : ℕ) → month_index s.second < index_at i → is_after (uncut s i) s.second ≡ false
  second_month_after i h =
      let m = month_after i h in
      rank_not_after (uncut s i) s.second (uncut_shaped i) second_shaped (omega arith)

  first_no_later : month_index s.first ≤ month_index s.second
  first_no_later =
      let p = span_parts s e in
      let f = shaped s.first p.first_is_date in
      let a = after_rank s.first s.second f second_shaped p.second_after in
      let r = rank_by_index s.first in
      let t = rank_by_index s.second in
      no_later_month (month_index s.first) (month_index s.second) s.first.day s.second.day (omega arith) day_low second_shaped.day_high

  -- ---- as many periods as it takes
  pub whole_low : index_at (whole_periods s) ≤ month_index s.second
  unfolding whole_periods
  whole_low =
      let f = first_no_later in
      let d = div-mul-le_self (month_index s.second - month_index s.first) s.step in
      omega arith

  whole_high : month_index s.second < index_at (suc (whole_periods s))
  unfolding whole_periods
  whole_high =
      let f = first_no_later in
      let d : month_index s.second - month_index s.first < (month_index s.second - month_index s.first) / s.step * s.step + s.step = lt-div-mul-add (span_parts s e).step_low in
      omega arith

  counted : ((is_after (uncut s (whole_periods s)) s.second ≡ true) × (period_count s ≡ suc (whole_periods s)))
      ⊎ ((is_after (uncut s (whole_periods s)) s.second ≡ false) × (period_count s ≡ whole_periods s))
  unfolding period_count
  counted = go (is_after (uncut s (whole_periods s)) s.second) refl
    where
      go : (t : Bool) → is_after (uncut s (whole_periods s)) s.second ≡ t
          → ((is_after (uncut s (whole_periods s)) s.second ≡ true) × (cond t (suc (whole_periods s)) (whole_periods s) ≡ suc (whole_periods s)))
          ⊎ ((is_after (uncut s (whole_periods s)) s.second ≡ false) × (cond t (suc (whole_periods s)) (whole_periods s) ≡ whole_periods s))
      go true h = inl (h, refl)
      go false h = inr (h, refl)

  -- the second date is after where each period but the last ends, and not after where the last would
  pub second_later : (i : ℕ) → i < period_count s → is_after (uncut s i) s.second ≡ true
  second_later i h = rank_after (uncut s i) s.second (uncut_shaped i) second_shaped
      (⊎_elim
      (λ c. let n = c.1 in
      let l = uncut_no_lower i (whole_periods s) (omega arith) in
      let a = after_rank (uncut s (whole_periods s)) s.second (uncut_shaped (whole_periods s)) second_shaped c.0 in
      omega arith)
      (λ c. let n = c.1 in
      let m : i * s.step < whole_periods s * s.step = mul-lt-mul_of_pos_right (let g : i < whole_periods s = omega arith in g) (span_parts s e).step_low in
      let w = whole_low in
      month_before i (omega arith))
      counted)

  pub second_reached : is_after (uncut s (period_count s)) s.second ≡ false
  second_reached = ⊎_elim
      (λ c. subst (λ (n : ℕ). is_after (uncut s n) s.second ≡ false) (sym c.1) (second_month_after (suc (whole_periods s)) whole_high))
      (λ c. subst (λ (n : ℕ). is_after (uncut s n) s.second ≡ false) (sym c.1) c.0)
      counted

  pub some_period : 0 < period_count s
  some_period = ⊎_elim (λ t. ltb-true 0 (period_count s) t)
      (λ t. let n : period_count s ≡ 0 = (let l = ltb-false 0 (period_count s) t in omega arith) in
      let r : is_after (uncut s 0) s.second ≡ false = subst (λ (k : ℕ). is_after (uncut s k) s.second ≡ false) n second_reached in
      let f : is_after s.first s.second ≡ false = subst (λ (d : Date). is_after d s.second ≡ false) uncut_first r in
      absurd (clash (span_parts s e).second_after f))
      (decided (ltb 0 (period_count s)))

  -- ---- where the periods end
  bound_uncut : (i : ℕ) → is_after (uncut s i) s.second ≡ true → bound s i ≡ uncut s i
  unfolding bound
  bound_uncut i h = ap (λ (t : Bool). cond t (uncut s i) s.second) h

  bound_second : (i : ℕ) → is_after (uncut s i) s.second ≡ false → bound s i ≡ s.second
  unfolding bound
  bound_second i h = ap (λ (t : Bool). cond t (uncut s i) s.second) h

  -- but for the last, where its months lead; from the last on, at the second date
  pub before_last : (i : ℕ) → i < period_count s → bound s i ≡ uncut s i
  before_last i h = bound_uncut i (second_later i h)

  pub from_last : (i : ℕ) → period_count s ≤ i → bound s i ≡ s.second
  from_last i h =
      let r = not_after_rank (uncut s (period_count s)) s.second (uncut_shaped (period_count s)) second_shaped second_reached in
      let u = uncut_no_lower (period_count s) i h in
      bound_second i (rank_not_after (uncut s i) s.second (uncut_shaped i) second_shaped (omega arith))

  pub begins_at_first : bound s 0 ≡ s.first
  begins_at_first = bound_uncut 0 (second_later 0 some_period) ∙ uncut_first

  pub ends_at_second : bound s (period_count s) ≡ s.second
  ends_at_second = bound_second (period_count s) second_reached

  in_its_years : (i : ℕ) → 22800 ≤ index_at i → index_at i ≤ 26399 → is_date (uncut s i) ≡ true
  unfolding uncut months_later
  in_its_years i low high = in_month_date (index_at i) s.first.day low high day_low

  uncut_is_date : (i : ℕ) → is_after (uncut s i) s.second ≡ true → is_date (uncut s i) ≡ true
  uncut_is_date i h =
      let a = after_rank (uncut s i) s.second (uncut_shaped i) second_shaped h in
      let r = uncut_rank i in
      let t = rank_by_index s.second in
      let m = no_later_month (index_at i) (month_index s.second) (day_at i) s.second.day (omega arith) (day_bounds i).0 second_shaped.day_high in
      let b = index_bounds s.second (span_parts s e).second_is_date in
      let f = index_bounds s.first (span_parts s e).first_is_date in
      in_its_years i (omega arith) (omega arith)

  -- each bound is a date, no earlier than the first and no later than the second
  pub bound_is_date : (i : ℕ) → is_date (bound s i) ≡ true
  bound_is_date i = ⊎_elim (λ h. ap is_date (bound_uncut i h) ∙ uncut_is_date i h) (λ h. ap is_date (bound_second i h) ∙ (span_parts s e).second_is_date)
      (decided (is_after (uncut s i) s.second))

  pub bound_from_first : (i : ℕ) → day_number s.first ≤ day_number (bound s i)
  bound_from_first i =
      let p = span_parts s e in
      ⊎_elim
      (λ h. let u = uncut_no_lower 0 i (omega arith) in
      let z : rank (uncut s 0) ≡ rank s.first = ap rank uncut_first in
      let n = rank_not_after (uncut s i) s.first (uncut_shaped i) (shaped s.first p.first_is_date) (omega arith) in
      subst (λ (d : Date). day_number s.first ≤ day_number d) (sym (bound_uncut i h)) (no_later_number (uncut s i) s.first (uncut_is_date i h) p.first_is_date n))
      (λ h. let l = later_number s.first s.second p.first_is_date p.second_is_date p.second_after in
      subst (λ (d : Date). day_number s.first ≤ day_number d) (sym (bound_second i h)) (less (day_number s.first) (day_number s.second) l))
      (decided (is_after (uncut s i) s.second))
    where
      less : (m n : ℕ) → m < n → m ≤ n
      less m n h = omega arith

  pub bound_to_second : (i : ℕ) → day_number (bound s i) ≤ day_number s.second
  bound_to_second i =
      ⊎_elim
      (λ h. let l = later_number (uncut s i) s.second (uncut_is_date i h) (span_parts s e).second_is_date h in
      subst (λ (d : Date). day_number d ≤ day_number s.second) (sym (bound_uncut i h)) (less (day_number (uncut s i)) (day_number s.second) l))
      (λ h. same (day_number (bound s i)) (day_number s.second) (ap day_number (bound_second i h)))
      (decided (is_after (uncut s i) s.second))
    where
      less : (m n : ℕ) → m < n → m ≤ n
      less m n h = omega arith

      same : (m n : ℕ) → m ≡ n → m ≤ n
      same m n h = omega arith

  -- ---- each period ends after it begins
  module _ (i : ℕ) (h : i < period_count s) where
    next_uncut : suc i < period_count s → is_after (uncut s i) (bound s (suc i)) ≡ true
    next_uncut g = rw (bound_uncut (suc i) (second_later (suc i) g)) (rank_after (uncut s i) (uncut s (suc i)) (uncut_shaped i) (uncut_shaped (suc i)) (uncut_rises i (suc i) (omega arith)))

    next_last : suc i ≡ period_count s → is_after (uncut s i) (bound s (suc i)) ≡ true
    next_last g = rw (g, ends_at_second) (second_later i h)

    pub rises : is_after (bound s i) (bound s (suc i)) ≡ true
    rises = rw (bound_uncut i (second_later i h))
        (⊎_elim (λ t. next_uncut (ltb-true (suc i) (period_count s) t)) (λ t. next_last (let l = ltb-false (suc i) (period_count s) t in omega arith)) (decided (ltb (suc i) (period_count s))))

    pub number_rises : day_number (bound s i) < day_number (bound s (suc i))
    number_rises = later_number (bound s i) (bound s (suc i)) (bound_is_date i) (bound_is_date (suc i)) rises

    -- no period is empty
    pub not_empty : 0 < actual_days (bound s i) (bound s (suc i))
    unfolding actual_days
    not_empty = let n = number_rises in omega arith

  -- ---- dates that are whole periods apart have exactly those
  module _ (n : ℕ) (apart : s.second ≡ months_later (n * s.step) s.first) where
    reached_by : uncut s n ≡ s.second
    unfolding uncut
    reached_by = sym apart

    as_many : whole_periods s ≡ n
    unfolding whole_periods
    as_many =
        let i : month_index s.second ≡ index_at n = ap month_index (sym reached_by) ∙ uncut_index n in
        let d : month_index s.second - month_index s.first ≡ n * s.step = omega arith in
        ap (λ (k : ℕ). k / s.step) d ∙ mul-div_cancel n (span_parts s e).step_low

    pub whole_periods_lem : period_count s ≡ n
    whole_periods_lem = ⊎_elim
        (λ c. let a : is_after s.second s.second ≡ true = ap (λ (d : Date). is_after d s.second) (sym (ap (uncut s) as_many ∙ reached_by)) ∙ c.0 in
        let r = after_rank s.second s.second second_shaped second_shaped a in
        absurd (omega arith))
        (λ c. c.1 ∙ as_many)
        counted
