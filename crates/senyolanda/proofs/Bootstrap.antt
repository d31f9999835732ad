-- What a bootstrap that was accepted hands back: one zero rate for each tenor, at most 120, at the front of its room. Assumes nothing.
use mathlib.Core.Path.{◌≡◌, refl, sym, ap, ◌∙◌}
use mathlib.Core.List.{List, [], ◌∷◌, ◌++◌}
use Prim.Native.Nat.{ℕ, zero, suc, ◌+◌, ◌-◌, ◌≤◌}
use native.Mathlib.Omega.{arith}
use lib.ListN.{length, take, replicate, length-append}
use lib.Seq.{take-append_seam}
use lib.Ieee.{Float}
use Rattle.numbers.specs.Clamps.{plus_zero}
use Rattle.refusals.specs.Outcome.{accepted}
use Rattle.refusals.proofs.Verdicts.{verdict, accepted_by}
use Rattle.swaps.specs.declared.bootstrap.DiscountCurve.{DiscountCurve}
use Rattle.swaps.specs.Bootstrap.{next_zero, zeros_up_to, par_lines, from_par_rates}
use Rattle.swaps.specs.Bootstrapped.{in_room, curve_of, bootstrapped}
use Rattle.swaps.proofs.ParLines.{accepted_counts}
use Rattle.std.specs.declared.result.Result.TheVariants.{Ok}
use Rattle.std.specs.declared.result.Result.{Result}
use Rattle.refusals.specs.declared.Refusal.{Refusal}
use Rattle.refusals.specs.Answers.{outcome}

module _ (tenors pars : List Float) where
  one_each : (k : ℕ) → length (zeros_up_to tenors pars k) ≡ k
  unfolding zeros_up_to
  one_each zero = refl
  one_each (suc k) = length-append (zeros_up_to tenors pars k) (next_zero tenors pars (zeros_up_to tenors pars k) k ∷ []) ∙ omega (arith, one_each k)

  -- the zero rates of all the tenors
  abbrev pub zeros_of : List Float
  zeros_of = zeros_up_to tenors pars (length tenors)

  front : (curve : DiscountCurve) → curve ≡ curve_of tenors (accepted zeros_of) → take curve.knots curve.zeros ≡ zeros_of
  unfolding curve_of in_room
  front curve is =
      ap (λ (c : DiscountCurve). take c.knots c.zeros) is
      ∙ ap (λ (n : ℕ). take n (zeros_of ++ replicate (120 - length zeros_of) plus_zero)) (sym (one_each (length tenors)))
      ∙ take-append_seam zeros_of _

  module _ (curve : DiscountCurve) (v : Result Unit Refusal) (judged_so : outcome v ≡ verdict (par_lines tenors pars)) (is : curve ≡ bootstrapped tenors pars) (ok : v ≡ (Ok tt)) where
    pub solved : accepted zeros_of ≡ from_par_rates tenors pars
    unfolding from_par_rates
    solved = accepted_by (par_lines tenors pars) zeros_of v ok judged_so

    curve_is : curve ≡ curve_of tenors (accepted zeros_of)
    unfolding bootstrapped
    curve_is = is ∙ ap (curve_of tenors) (sym solved)

    pub in_front : take curve.knots curve.zeros ≡ zeros_of
    in_front = front curve curve_is

    pub all_in_front : curve.knots ≡ length zeros_of
    unfolding curve_of
    all_in_front = rw curve_is (sym (one_each (length tenors)))

    -- the room holds them
    pub few : curve.knots ≤ 120
    few = let n = accepted_counts tenors pars (sym (ap outcome ok) ∙ judged_so) in omega (arith, n.1, all_in_front, one_each (length tenors))
