-- Which segment of a curve serves a time, apart from any formula over its ends; and the ends themselves. Definitions only. Assumes nothing.
use Rattle.std.specs.Prelude.{ℕ, suc, ◌-◌, ◌<◌, ◌≡◌, true, cond, List, [], ◌∷◌, length, get_or, Float}
use Rattle.std.specs.Float.{nan}
use Rattle.std.specs.Float.Ieee.{lt, le}

-- "Where t is an inner knot .. the segment that ends there": the first segment, from 0, that t is not beyond
unfoldable pub segment_ending : List Float → Float → ℕ
segment_ending [] t = 0
segment_ending (a ∷ []) t = 0
segment_ending (a ∷ b ∷ ts) t = cond (le t b) 0 (suc (segment_ending (b ∷ ts) t))

-- ".. the one that starts there": the first segment that t is before the end of
unfoldable pub segment_starting : List Float → Float → ℕ
segment_starting [] t = 0
segment_starting (a ∷ []) t = 0
segment_starting (a ∷ b ∷ ts) t = cond (lt t b) 0 (suc (segment_starting (b ∷ ts) t))

-- the knot i of a list, from 0, and the last one
abbrev pub knot : List Float → ℕ → Float
knot xs i = get_or xs i nan

abbrev pub last_of : List Float → Float
last_of xs = get_or xs (length xs - 1) nan

-- each time is before the next, as on every curve that is accepted
abbrev pub Rising : List Float → Type 0
Rising times = (k : ℕ) → suc k < length times → lt (knot times k) (knot times (suc k)) ≡ true

-- "flat outside": the first rate at or before the first time, the last at or after the last, and between them what is said
unfoldable pub flat_outside : List Float → List Float → Float → Float → Float
flat_outside times rates t between = cond (le t (knot times 0)) (knot rates 0) (cond (le (last_of times) t) (last_of rates) between)

-- w = (t-t0)/(t1-t0) needs four numbers of the segment i
pub record Ends : Type 0 where
  pub t0 : Float
  pub t1 : Float
  pub r0 : Float
  pub r1 : Float

abbrev pub ends_of : List Float → List Float → ℕ → Ends
ends_of times rates i = record { t0 = knot times i; t1 = knot times (suc i); r0 = knot rates i; r1 = knot rates (suc i) }
