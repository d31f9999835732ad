-- A list of times asked of a curve: a u32 holds every place that its lines may refuse at, where it counts the list. So the outcome given is the lines' own. Assumes nothing.
use mathlib.Core.Path.{◌≡◌, refl}
use mathlib.Core.Logic.{inl, inr}
use mathlib.Core.Bool.{Bool, true, false}
use mathlib.Core.List.{List, [], ◌∷◌, map}
use Prim.Native.Nat.{ℕ, zero, suc, ◌<◌, ◌≤◌}
use native.Mathlib.Omega.{arith}
use lib.Dec.{T}
use lib.ListN.{length, get_or, length-map}
use lib.Ieee.{Float}
use Rattle.numbers.specs.Whole.{largest}
use Rattle.refusals.specs.Outcome.{judged, Applies, Lowest, above, rising}
use Rattle.refusals.specs.Table.{unequal, bad_knot_count, bad_knots_after, bad_knots, bad_time}
use Rattle.refusals.proofs.GivenPlaces.{given_as_it_is}
use Rattle.curves.specs.Lists.{each_lines, each_outcome}
use Rattle.curves.proofs.CurveLines.{at_most_120}

-- a cause stands inside its list
inside : (bs : List Bool) (q : ℕ) → get_or bs q false ≡ true → q < length bs
inside [] q e = let z : ◌≡◌ {A = ℕ} 0 1 = cc in absurd (omega arith)
inside (b ∷ bs) zero e = omega arith
inside (b ∷ bs) (suc q) e = let h : q < length bs = inside bs q e in omega arith

knots_after : (before : Float) (ts rs : List Float) → length (bad_knots_after before ts rs) ≤ length ts
unfolding bad_knots_after
knots_after before [] rs = omega arith
knots_after before (t ∷ ts) [] = omega arith
knots_after before (t ∷ ts) (r ∷ rs) = omega (arith, knots_after t ts rs)

no_more_than_knots : (times rates : List Float) → length (bad_knots times rates) ≤ length times
unfolding bad_knots
no_more_than_knots [] rates = omega arith
no_more_than_knots (t ∷ ts) [] = omega arith
no_more_than_knots (t ∷ ts) (r ∷ rs) = omega (arith, knots_after t ts rs)

not_so : (b : Bool) → ¬ (b ≡ true) → b ≡ false
not_so true n = absurd (n refl)
not_so false n = refl

module _ (times rates asked : List Float) where
  pub each_rising : T (rising (each_lines times rates asked))
  unfolding above
  each_rising = tt

  -- line 6 is asked of at most 120 knots, and line 7 of the times
  pub each_held : length asked ≤ 4294967295 → (k q : ℕ) → Lowest (each_lines times rates asked) k q → q ≤ largest
  unfolding Applies
  each_held few k q w = go w.applies
    where
      go : Applies (each_lines times rates asked) k q → q ≤ largest
      go (inl a) = omega (arith, inside (unequal (length times) (length rates) ∷ []) q a.1)
      go (inr (inl a)) = omega (arith, inside (bad_knot_count (length times) ∷ []) q a.1)
      go (inr (inr (inl a))) =
          let knots : length times ≤ 120 = at_most_120 (length times) (not_so (bad_knot_count (length times)) (λ e. w.no_lower 5 0 (omega (arith, a.0)) (inr (inl (refl, e))))) in
          omega (arith, inside (bad_knots times rates) q a.1, no_more_than_knots times rates)
      go (inr (inr (inr (inl a)))) = omega (arith, inside (map bad_time asked) q a.1, length-map asked bad_time)
      go (inr (inr (inr (inr a)))) = absurd a

  -- so the outcome given is the lines' own, for a list that a u32 counts
  pub each_as_it_is : length asked ≤ 4294967295 → each_outcome times rates asked ≡ judged (each_lines times rates asked) tt
  unfolding each_outcome
  each_as_it_is few = given_as_it_is tt (each_lines times rates asked) each_rising (each_held few)
