-- A line of the table asked of a list's items, with a single cause before them. Assumes nothing.
use Rattle.std.proofs.Common.{◌≡◌, ℕ, ◌<◌, ◌≤◌, Bool, true, false, not, List, [], ◌∷◌, map, length, get_or, refl, sym, ap, ◌∙◌, arith}
use Rattle.std.specs.List.{position}
use lib.Ieee.{Float, nan}
use lib.Ieee.Scale.{finite}
use Rattle.refusals.specs.Answers.{number}
use Rattle.refusals.specs.Outcome.{Outcome, refused, accepted, Line, alone, first_or, judged}
use Rattle.refusals.specs.Table.{bad_number}
use Rattle.refusals.proofs.Placing.{none_bad, refused_at, by_position}
use Rattle.refusals.proofs.Verdicts.{verdict}

-- line k of a single cause and a list
abbrev pub item_line : ℕ → Bool → List Float → Line
item_line k single items = record { number = k; causes = alone single (map bad_number items) }

pub at_single : (k : ℕ) (single : Bool) (items : List Float) → single ≡ true → refused k 0 ≡ verdict (item_line k single items ∷ [])
unfolding judged first_or
at_single k single [] e = rw e
at_single k single (x ∷ xs) e = rw e

-- with no single cause the line is the list's
beside_none : (k : ℕ) (items : List Float) → verdict (item_line k false items ∷ []) ≡ verdict ((record { number = k; causes = map bad_number items }) ∷ [])
unfolding judged first_or
beside_none k [] = refl
beside_none k (x ∷ xs) = refl

module _ (k : ℕ) (single : Bool) (items : List Float) (none : single ≡ false) where
  pub all_finite_accepted : ((i : ℕ) → i < length items → finite (get_or items i nan) ≡ true) → accepted tt ≡ verdict (item_line k single items ∷ [])
  unfolding judged bad_number
  all_finite_accepted h = rw none (none_bad k 0 bad_number items nan (λ i l. ap not (h i l)) ∙ sym (beside_none k items))

  pub items_by_position : length items ≤ 1200 → verdict (item_line k single items ∷ []) ≡ refused_at k bad_number (position bad_number items)
  items_by_position short = rw none (beside_none k items ∙ by_position k bad_number items (omega arith))
