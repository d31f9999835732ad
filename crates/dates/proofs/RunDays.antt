-- The days of a run of periods, from the ranks and the day numbers of its bounds. Assumes nothing.
use mathlib.Core.Path.{◌≡◌, sym, ap, subst, ◌∙◌}
use mathlib.Core.Bool.{Bool, true, false, cond}
use mathlib.Core.List.{List}
use Prim.Native.Nat.{ℕ, suc, ◌+◌, ◌-◌, ◌<◌}
use native.Mathlib.Omega.{arith}
use Rattle.dates.specs.declared.Date.{Date}
use Rattle.dates.specs.declared.periods.Span.{Span}
use Rattle.dates.specs.DayNumbers.{day_number}
use Rattle.dates.specs.Counts.{actual_days, thirty_days}
use Rattle.dates.specs.Periods.{is_span, bound}
use Rattle.dates.specs.inner.Ranks.{rank, date_of}
use Rattle.dates.specs.DayLists.{entry, Follows, DaysListed, elapsed_at, counted_at}
use Rattle.dates.proofs.RankDates.{InYears, bound_of_rank, bound_in_years}
use Rattle.dates.proofs.Tiling.{begins_at_first}
use Rattle.dates.proofs.DayLists.{fewer_follow}
use lib.ListN.{length}

next : (first j : ℕ) → first + (j + 1) ≡ suc (first + j)
next first j = omega arith

module _ (s : Span) (e : is_span s ≡ true) (first n : ℕ) where
  -- the ranks and the day numbers of the bounds after the first ones
  abbrev pub RankOf : ℕ → ℕ
  RankOf j = rank (bound s (first + j))

  abbrev pub NumberOf : ℕ → ℕ
  NumberOf j = day_number (bound s (first + j))

  module _ (ranks : List ℕ) (r : Follows RankOf n ranks) where
    pub ranks_in_years : (j : ℕ) → j < n → InYears (entry ranks j)
    ranks_in_years j h = subst InYears (sym (r j h)) (bound_in_years s e (first + j))

    bound_at : (j : ℕ) → j < n → date_of (entry ranks j) ≡ bound s (first + j)
    bound_at j h = ap date_of (r j h) ∙ bound_of_rank s e (first + j)

    bound_after : (j : ℕ) → j + 1 < n → date_of (entry ranks (j + 1)) ≡ bound s (suc (first + j))
    bound_after j h = bound_at (j + 1) h ∙ ap (bound s) (next first j)

    pub numbers_of_ranks : (numbers : List ℕ) → Follows (λ (j : ℕ). day_number (date_of (entry ranks j))) n numbers → Follows NumberOf n numbers
    numbers_of_ranks numbers f j h = f j h ∙ ap day_number (bound_at j h)

    -- the 30/360 counts
    pub by_thirties_lem : (thirties : Bool) → thirties ≡ true → (m : ℕ) (counted : List ℕ) → m + 1 ≡ n
        → Follows (λ (j : ℕ). thirty_days (date_of (entry ranks j)) (date_of (entry ranks (j + 1)))) m counted → Follows (λ (j : ℕ). counted_at s thirties (first + j)) m counted
    unfolding counted_at
    by_thirties_lem thirties is m counted len f j h =
        f j h ∙ ap (λ (d : Date). thirty_days d (date_of (entry ranks (j + 1)))) (bound_at j (omega arith)) ∙ ap (thirty_days (bound s (first + j))) (bound_after j (omega arith))
        ∙ sym (ap (λ (t : Bool). cond t (thirty_days (bound s (first + j)) (bound s (suc (first + j)))) (actual_days (bound s (first + j)) (bound s (suc (first + j))))) is)

  module _ (numbers : List ℕ) (r : Follows NumberOf n numbers) where
    number_after : (j : ℕ) → j + 1 < n → entry numbers (j + 1) ≡ day_number (bound s (suc (first + j)))
    number_after j h = r (j + 1) h ∙ ap (λ (i : ℕ). day_number (bound s i)) (next first j)

    pub elapsed_days : (start from : ℕ) → start ≡ rank (bound s 0) → from ≡ day_number (date_of start) → (m : ℕ) (elapsed : List ℕ) → m + 1 ≡ n
        → Follows (λ (j : ℕ). entry numbers (j + 1) - from) m elapsed → Follows (λ (j : ℕ). elapsed_at s (first + j)) m elapsed
    unfolding elapsed_at actual_days
    elapsed_days start from is also m elapsed len f j h =
        let o : from ≡ day_number s.first = also ∙ ap (λ (k : ℕ). day_number (date_of k)) is ∙ ap day_number (bound_of_rank s e 0 ∙ begins_at_first s e) in
        f j h ∙ ap (λ (k : ℕ). k - from) (number_after j (omega arith)) ∙ ap (λ (k : ℕ). day_number (bound s (suc (first + j))) - k) o

    pub by_actual_days : (thirties : Bool) → thirties ≡ false → (m : ℕ) (counted : List ℕ) → m + 1 ≡ n
        → Follows (λ (j : ℕ). entry numbers (j + 1) - entry numbers j) m counted → Follows (λ (j : ℕ). counted_at s thirties (first + j)) m counted
    unfolding counted_at actual_days
    by_actual_days thirties is m counted len f j h =
        f j h ∙ ap (λ (k : ℕ). k - entry numbers j) (number_after j (omega arith)) ∙ ap (λ (k : ℕ). day_number (bound s (suc (first + j))) - k) (r j (omega arith))
        ∙ sym (ap (λ (t : Bool). cond t (thirty_days (bound s (first + j)) (bound s (suc (first + j)))) (actual_days (bound s (first + j)) (bound s (suc (first + j))))) is)

-- ---- the lists of a run, each following from the one before: ranks and numbers of all bounds, and days of one place fewer
module _ (s : Span) (e : is_span s ≡ true) (first m : ℕ) (ranks numbers : List ℕ) (ranks_long : length ranks ≡ m + 1) (numbers_long : length numbers ≡ m + 1)
    (r : Follows (λ (j : ℕ). rank (bound s (first + j))) (length ranks) ranks) (n : Follows (λ (j : ℕ). day_number (date_of (entry ranks j))) (length numbers) numbers) where
  ranked : Follows (RankOf s e first (m + 1)) (m + 1) ranks
  ranked = fewer_follow _ ranks (λ j h. omega arith) r

  numbered : Follows (NumberOf s e first (m + 1)) (m + 1) numbers
  numbered = numbers_of_ranks s e first (m + 1) ranks ranked numbers (fewer_follow _ numbers (λ j h. omega arith) n)

  module _ (start from : ℕ) (is : start ≡ rank (bound s 0)) (also : from ≡ day_number (date_of start)) (elapsed counted : List ℕ) (elapsed_long : length elapsed ≡ m) (counted_long : length counted ≡ m)
      (d : Follows (λ (j : ℕ). entry numbers (j + 1) - from) (length elapsed) elapsed) (thirties : Bool) where
    of_elapsed_lem : Follows (λ (j : ℕ). elapsed_at s (first + j)) (length elapsed) elapsed
    of_elapsed_lem = elapsed_days s e first (m + 1) numbers numbered start from is also (length elapsed) elapsed (omega arith) d

    pub listed_by_thirties : thirties ≡ true → Follows (λ (j : ℕ). thirty_days (date_of (entry ranks j)) (date_of (entry ranks (j + 1)))) (length counted) counted
        → DaysListed s thirties first (length elapsed) elapsed counted
    listed_by_thirties t f = record {
      of_elapsed = of_elapsed_lem;
      of_counted = by_thirties_lem s e first (m + 1) ranks ranked thirties t (length elapsed) counted (omega arith) (fewer_follow _ counted (λ j h. omega arith) f);
    }

    pub listed_by_actual_days : thirties ≡ false → Follows (λ (j : ℕ). entry numbers (j + 1) - entry numbers j) (length counted) counted
        → DaysListed s thirties first (length elapsed) elapsed counted
    listed_by_actual_days t f = record {
      of_elapsed = of_elapsed_lem;
      of_counted = by_actual_days s e first (m + 1) numbers numbered thirties t (length elapsed) counted (omega arith) (fewer_follow _ counted (λ j h. omega arith) f);
    }
