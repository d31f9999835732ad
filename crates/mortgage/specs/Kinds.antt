-- The kinds of a loan: document 01's level loan, and those that document 02 (K4) gives rows: interest-only, balloon and adjustable. What each needs, which months it has, and line 16 of the
-- table as it meets it. Definitions only. Assumes nothing.
use Rattle.std.specs.Prelude.{ℕ, ◌-◌, Bool, false, ◌||◌, List, [], ◌∷◌, map, length, take, Float}
use Rattle.refusals.specs.Outcome.{Line, line, alone}
use Rattle.refusals.specs.Table.{bad_period, bad_balloon, bad_initial, bad_cap, too_few_entries, bad_entry}
use Rattle.mortgage.specs.declared.kinds.Adjustment.{Adjustment}
use Rattle.mortgage.specs.declared.kinds.Course.{Course}
use Rattle.mortgage.specs.declared.kinds.Kind.{Kind}
use Rattle.mortgage.specs.declared.kinds.Kind.TheVariants as kind_is
use Rattle.mortgage.specs.Years.{started_years}

-- a loan's kind with all that its rows need beside the loan in hand: the months of interest alone, the month of the balloon, or the initial rate and the caps with the lent index list
pub data Way : Type 0 where
  level : Way
  interest_only : ℕ → Way
  balloon : ℕ → Way
  adjustable : Adjustment → List Float → Way

-- the list is lent beside every kind, and only an adjustable loan reads it
abbrev pub way_of : Kind → List Float → Way
way_of kind_is.Level index = level
way_of (kind_is.InterestOnly months) index = interest_only months
way_of (kind_is.Balloon month) index = balloon month
way_of (kind_is.Adjustable a) index = adjustable a index

-- ---- the months of a loan of so many: how many of the first pay interest alone, and which one ends it
abbrev pub course_of : Way → ℕ → Course
course_of level term = record { only = 0; end = term }
course_of (interest_only months) term = record { only = months; end = term }
course_of (balloon month) term = record { only = 0; end = month }
course_of (adjustable a index) term = record { only = 0; end = term }

-- ---- "the entries of all later started years of the term count as read"
abbrev pub later_years : ℕ → ℕ
later_years term = started_years term - 1

abbrev pub entries_read : List Float → ℕ → List Float
entries_read index term = take (later_years term) index

-- ---- line 16: "0 for the single causes and a list too short, else the index of the first entry that is not finite among those read"
abbrev pub bad_adjustment : Adjustment → List Float → ℕ → Line
bad_adjustment a index term = record {
  number = 16;
  causes =
      alone (bad_initial a.initial || bad_cap a.cap || bad_cap a.lifetime || too_few_entries (later_years term) (length index)) (map bad_entry (entries_read index term));
}

-- it has no cause in a level loan
abbrev pub kind_lines : Way → ℕ → List Line
kind_lines level term = []
kind_lines (interest_only months) term = line 16 (bad_period months term) ∷ []
kind_lines (balloon month) term = line 16 (bad_balloon month term) ∷ []
kind_lines (adjustable a index) term = bad_adjustment a index term ∷ []

-- the part of it that asks about the month which ends the loan: a balloon's
abbrev pub bad_end : Way → ℕ → Bool
bad_end level term = false
bad_end (interest_only months) term = false
bad_end (balloon month) term = bad_balloon month term
bad_end (adjustable a index) term = false
