-- Lists of whole numbers that follow a rule place by place: the days of a run of periods are two such. Definitions only. Assumes nothing.
use Rattle.std.specs.Prelude.{◌≡◌, Bool, cond, List, ℕ, suc, ◌+◌, ◌<◌, get_or}
use Rattle.dates.specs.declared.periods.Span.{Span}
use Rattle.dates.specs.Counts.{actual_days, thirty_days}
use Rattle.dates.specs.Periods.{bound}

-- what stands at a place
abbrev pub entry : List ℕ → ℕ → ℕ
entry xs j = get_or xs j 0

-- the first so many places hold what the rule says
abbrev pub Follows : (ℕ → ℕ) → ℕ → List ℕ → Type 0
Follows rule count xs = (j : ℕ) → j < count → entry xs j ≡ rule j

module _ (s : Span) where
  -- the days from the first date to where a period ends, and the days of that period, by the 30/360 count or actual ones; periods count from 0
  unfoldable pub elapsed_at : ℕ → ℕ
  elapsed_at k = actual_days s.first (bound s (suc k))

  unfoldable pub counted_at : Bool → ℕ → ℕ
  counted_at thirties k = cond thirties (thirty_days (bound s k) (bound s (suc k))) (actual_days (bound s k) (bound s (suc k)))

  -- those of so many periods after the first ones
  pub record DaysListed (thirties : Bool) (first count : ℕ) (elapsed counted : List ℕ) : Type 0 where
    pub of_elapsed : Follows (λ (j : ℕ). elapsed_at (first + j)) count elapsed
    pub of_counted : Follows (λ (j : ℕ). counted_at thirties (first + j)) count counted
