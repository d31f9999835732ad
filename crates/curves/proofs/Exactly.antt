-- Lists of lookups refuse by the table's rule: number k at place p is given exactly when that is the lowest line with a cause and its first place. Assumes nothing.
use mathlib.Core.Path.{◌≡◌}
use mathlib.Core.Logic.{◌↔◌}
use mathlib.Core.List.{List}
use Prim.Native.Nat.{ℕ, ◌≤◌, min}
use lib.ListN.{length}
use lib.Ieee.{Float}
use Rattle.numbers.specs.Whole.{largest}
use Rattle.refusals.specs.Outcome.{refused, Lowest, ExactlyWhen}
use Rattle.refusals.proofs.Judging.{exactly}
use Rattle.refusals.proofs.GivenPlaces.{placed_exactly, held_exactly}
use Rattle.refusals.proofs.Verdicts.{verdict}
use Rattle.curves.specs.Lists.{each_lines, each_outcome}
use Rattle.curves.proofs.GivenPlaces.{each_rising, each_held}

module _ (times rates : List Float) where
  -- a list of times: `judge_each`, `rate_at_each` and `discount_factor_at_each` give this one outcome. Its lines refuse by the rule ..
  module _ (asked : List Float) where
    pub each_judged_exactly : ExactlyWhen (each_lines times rates asked) (verdict (each_lines times rates asked))
    each_judged_exactly = exactly _ (each_lines times rates asked) (each_rising times rates asked)

    -- .. and so does what is given, for a list that a u32 counts ..
    pub each_refused_exactly : length asked ≤ 4294967295 → ExactlyWhen (each_lines times rates asked) (each_outcome times rates asked)
    unfolding each_outcome
    each_refused_exactly few = held_exactly _ (each_lines times rates asked) (each_rising times rates asked) (each_held times rates asked few)

    -- .. and for any list but that a place that no u32 holds is given as 4,294,967,295
    pub each_refused_at : (k p : ℕ) → (each_outcome times rates asked ≡ refused k p) ↔ ((q : ℕ) × Lowest (each_lines times rates asked) k q × (p ≡ min q largest))
    unfolding each_outcome
    each_refused_at = placed_exactly _ (each_lines times rates asked) (each_rising times rates asked)
