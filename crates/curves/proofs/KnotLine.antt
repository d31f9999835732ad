-- Line 6 of the table, asked knot by knot: what it says from a knot on, and that it may be asked of the first knot as if -infinity stood before it. Assumes nothing.
use mathlib.Core.Path.{◌≡◌, refl, ap, ◌∙◌}
use mathlib.Core.Bool.{Bool, true, false, cond, not, ◌||◌}
use mathlib.Core.List.{List, [], ◌∷◌}
use Prim.Native.Nat.{ℕ, ◌+◌, ◌<◌, ◌≤◌}
use native.Mathlib.Numerals.{add-one}
use native.Mathlib.Omega.{arith}
use lib.ListN.{length, get_or, drop, drop_of_length-le}
use lib.Seq.{drop-cons}
use lib.Ieee.{Float, nan, inf, fin, lt}
use Rattle.refusals.specs.Outcome.{Outcome, refused, accepted, first_or, judged}
use Rattle.refusals.specs.Table.{bad_knot, bad_knots_after, bad_knots}

later : (bad after : Bool) → after ≡ true → bad ≡ (bad || not after)
later true after e = refl
later false true e = refl
later false false e = cc

-- ---- the list
-- line 6 from the knot i on
abbrev pub From : List Float → List Float → Float → ℕ → Outcome Unit
From times rates before i = first_or 6 i (bad_knots_after before (drop i times) (drop i rates)) (accepted tt)

-- what -infinity is not before is not finite
pub after_all : (t r : Float) → bad_knot t r ≡ (bad_knot t r || not (lt (inf true) t))
unfolding bad_knot lt
after_all nan r = refl
after_all (inf s) r = refl
after_all (fin s m e) r = later _ true refl

pub at_start : (times rates : List Float)
    → judged ((record { number = 6; causes = bad_knots times rates }) ∷ []) tt ≡ From times rates (inf true) 0
unfolding judged bad_knots bad_knots_after
at_start [] rates = refl
at_start (t ∷ ts) [] = refl
at_start (t ∷ ts) (r ∷ rs) = ap (λ (b : Bool). first_or 6 0 (b ∷ bad_knots_after t ts rs) (accepted tt)) (after_all t r)

-- whether the knot i is bad, by the time before it
abbrev pub bad_at : List Float → List Float → Float → ℕ → Bool
bad_at times rates before i = bad_knot (get_or times i nan) (get_or rates i nan) || not (lt before (get_or times i nan))

module _ (times rates : List Float) (before : Float) (i : ℕ) (h : i < length times) (same : length times ≡ length rates) where
  turn : From times rates before i ≡ cond (bad_at times rates before i) (refused 6 i) (From times rates (get_or times i nan) (i + 1))
  unfolding first_or bad_knots_after
  turn =
      let g : i < length rates = omega arith in
      rw (add-one, drop-cons times i nan, drop-cons rates i nan)

  pub stops : bad_at times rates before i ≡ true → From times rates before i ≡ refused 6 i
  stops b = turn ∙ ap (λ (b : Bool). cond b (refused 6 i) (From times rates (get_or times i nan) (i + 1))) b

  pub goes_on : bad_at times rates before i ≡ false → From times rates before i ≡ From times rates (get_or times i nan) (i + 1)
  goes_on b = turn ∙ ap (λ (b : Bool). cond b (refused 6 i) (From times rates (get_or times i nan) (i + 1))) b

pub ended : (times rates : List Float) (before : Float) (i : ℕ) → length times ≤ i → From times rates before i ≡ accepted tt
unfolding first_or bad_knots_after
ended times rates before i h = rw (drop_of_length-le times h)

-- line 6 asked knot by knot
pub ruleset knot_by_knot = (stops, goes_on, ended)
