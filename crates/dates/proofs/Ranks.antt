-- Dates in order by one number: 32 for each month before, and the day. A date with a month from 1 to 12 and a day to 31 has its own, and a later one a higher. Assumes nothing.
use mathlib.Core.Path.{◌≡◌, refl, sym, ap, ◌∙◌}
use mathlib.Core.Bool.{Bool, true, false, ◌&&◌, ◌||◌}
use Prim.Native.Nat.{ℕ, ◌+◌, ◌-◌, ◌*◌, ◌≤◌, ◌<◌}
use native.Mathlib.Omega.{arith}
use lib.Dec.{eqb, ltb}
use borrow.Author.Tests.{ltb-true, ltb-false, eqb-true, eqb-false, lt-ltb, le-ltb}
use Rattle.dates.specs.declared.Date.{Date}
use Rattle.dates.specs.Calendar.{is_date, is_after}
use Rattle.dates.specs.Months.{month_index}
use Rattle.dates.specs.inner.Ranks.{rank}
use Rattle.dates.proofs.Parts.{parts, days_in_bounds}

pub record Shaped (d : Date) : Type 0 where
  pub month_low : 1 ≤ d.month
  pub month_high : d.month ≤ 12
  pub day_low : 1 ≤ d.day
  pub day_high : d.day ≤ 31

pub shaped : (d : Date) → is_date d ≡ true → Shaped d
shaped d e =
    let p = parts d e in
    let b = days_in_bounds d.year d.month in
    record { month_low = p.month_low; month_high = p.month_high; day_low = p.day_low; day_high = (let h = p.day_high in omega arith) }

abbrev rank_of : ℕ → ℕ → ℕ → ℕ
rank_of year month day = (year * 12 + (month - 1)) * 32 + day

pub rank_by_index : (d : Date) → rank d ≡ month_index d * 32 + d.day
unfolding month_index
rank_by_index d = refl

-- ---- year, month and day compared one after the other, and the ranks
module _ (y m k z n l : ℕ) (a : 1 ≤ m) (b : m ≤ 12) (c : k ≤ 31) (d : 1 ≤ n) (e : n ≤ 12) (f : l ≤ 31) (g : 1 ≤ k) (h : 1 ≤ l) where
  lower : rank_of y m k < rank_of z n l → true ≡ ltb (rank_of y m k) (rank_of z n l)
  lower less = sym (lt-ltb (rank_of y m k) (rank_of z n l) less)

  not_lower : rank_of z n l ≤ rank_of y m k → false ≡ ltb (rank_of y m k) (rank_of z n l)
  not_lower more = sym (le-ltb (rank_of y m k) (rank_of z n l) more)

  in_order : (p q r s t : Bool) → ltb y z ≡ p → eqb y z ≡ q → ltb m n ≡ r → eqb m n ≡ s → ltb k l ≡ t
      → (p || (q && (r || (s && t)))) ≡ ltb (rank_of y m k) (rank_of z n l)
  in_order true q r s t u v w x i = lower (let o = ltb-true y z u in omega arith)
  in_order false false r s t u v w x i = not_lower (later (eqb-false y z v) (ltb-false y z u))
    where
      later : (y ≡ z → ⊥) → z ≤ y → rank_of z n l ≤ rank_of y m k
      later ne le = omega arith
  in_order false true true s t u v w x i = lower (let o = eqb-true y z v in let o' = ltb-true m n w in omega arith)
  in_order false true false false t u v w x i = not_lower (later (eqb-true y z v) (ltb-false m n w) (eqb-false m n x))
    where
      later : y ≡ z → n ≤ m → (m ≡ n → ⊥) → rank_of z n l ≤ rank_of y m k
      later same le ne = omega arith
  in_order false true false true true u v w x i = lower (let o = eqb-true y z v in let o' = eqb-true m n x in let o'' = ltb-true k l i in omega arith)
  in_order false true false true false u v w x i = not_lower (let o = eqb-true y z v in let o' = eqb-true m n x in let o'' = ltb-false k l i in omega arith)

pub by_rank : (a b : Date) → Shaped a → Shaped b → is_after a b ≡ ltb (rank a) (rank b)
unfolding is_after
by_rank a b s t =
    in_order a.year a.month a.day b.year b.month b.day
    s.month_low s.month_high s.day_high t.month_low t.month_high t.day_high s.day_low t.day_low
    (ltb a.year b.year) (eqb a.year b.year) (ltb a.month b.month) (eqb a.month b.month) (ltb a.day b.day)
    refl refl refl refl refl

module _ (a b : Date) (s : Shaped a) (t : Shaped b) where
  pub after_rank : is_after a b ≡ true → rank a < rank b
  after_rank e = ltb-true (rank a) (rank b) (sym (by_rank a b s t) ∙ e)

  pub rank_after : rank a < rank b → is_after a b ≡ true
  rank_after h = by_rank a b s t ∙ lt-ltb (rank a) (rank b) h

  pub not_after_rank : is_after a b ≡ false → rank b ≤ rank a
  not_after_rank e = ltb-false (rank a) (rank b) (sym (by_rank a b s t) ∙ e)

  pub rank_not_after : rank b ≤ rank a → is_after a b ≡ false
  rank_not_after h = by_rank a b s t ∙ le-ltb (rank a) (rank b) h

  -- a rank has one date
  pub same_rank : rank a ≡ rank b → a ≡ b
  same_rank e =
      let y : a.year ≡ b.year = same_year a.year a.month a.day b.year b.month b.day s.month_low s.month_high s.day_high t.month_low t.month_high t.day_high s.day_low t.day_low e in
      let m : a.month ≡ b.month = same_month a.year a.month a.day b.year b.month b.day s.month_low s.month_high s.day_high t.month_low t.month_high t.day_high s.day_low t.day_low e in
      let d : a.day ≡ b.day = same_day a.year a.month a.day b.year b.month b.day s.month_low s.month_high s.day_high t.month_low t.month_high t.day_high s.day_low t.day_low e in
      same_date a b y m d
    where
      same_year : (y m k z n l : ℕ) → 1 ≤ m → m ≤ 12 → k ≤ 31 → 1 ≤ n → n ≤ 12 → l ≤ 31 → 1 ≤ k → 1 ≤ l → rank_of y m k ≡ rank_of z n l → y ≡ z
      same_year y m k z n l a b c d e f g h i = omega arith

      same_month : (y m k z n l : ℕ) → 1 ≤ m → m ≤ 12 → k ≤ 31 → 1 ≤ n → n ≤ 12 → l ≤ 31 → 1 ≤ k → 1 ≤ l → rank_of y m k ≡ rank_of z n l → m ≡ n
      same_month y m k z n l a b c d e f g h i = omega arith

      same_day : (y m k z n l : ℕ) → 1 ≤ m → m ≤ 12 → k ≤ 31 → 1 ≤ n → n ≤ 12 → l ≤ 31 → 1 ≤ k → 1 ≤ l → rank_of y m k ≡ rank_of z n l → k ≡ l
      same_day y m k z n l a b c d e f g h i = omega arith

      same_date : (a b : Date) → a.year ≡ b.year → a.month ≡ b.month → a.day ≡ b.day → a ≡ b
      same_date a b y m d =
          ap (λ (u : ℕ). record { year = u; month = a.month; day = a.day }) y ∙ ap (λ (u : ℕ). record { year = b.year; month = u; day = a.day }) m
          ∙ ap (λ (u : ℕ). record { year = b.year; month = b.month; day = u }) d
