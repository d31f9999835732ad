-- Three halvings at a time, for any error: what is read from the errors of all that they may try is the error in the middle of each halving. Assumes nothing.
use mathlib.Core.Path.{◌≡◌, refl, ap, ◌∙◌}
use mathlib.Core.Bool.{Bool, true, false, cond}
use mathlib.Core.List.{List, map}
use lib.ListN.{get_or}
use lib.Ieee.{Float, nan, lt}
use Rattle.numbers.specs.Clamps.{plus_zero}
use Rattle.swaps.specs.Bootstrap.{middle, lower_end, upper_end}
use Rattle.swaps.specs.inner.Knots.{fork_of}

-- the ends of the half that a halving goes to
abbrev pub lower : Bool → Float → Float → Float
lower up lo hi = cond up (middle lo hi) lo

abbrev pub upper : Bool → Float → Float → Float
upper up lo hi = cond up hi (middle lo hi)

module _ (error : Float → Float) (lo hi : Float) where
  pub ends_are : (e : Float) → e ≡ error (middle lo hi) → (lo' hi' : Float) → lo' ≡ lower (lt plus_zero e) lo hi → hi' ≡ upper (lt plus_zero e) lo hi
      → (lo' ≡ lower_end error lo hi) × (hi' ≡ upper_end error lo hi)
  unfolding lower_end upper_end
  ends_are e is lo' hi' p q = (p ∙ rw is, q ∙ rw is)

  second_at : (b : Bool) → cond b (error (middle (middle lo hi) hi)) (error (middle lo (middle lo hi))) ≡ error (middle (lower b lo hi) (upper b lo hi))
  second_at true = refl
  second_at false = refl

  third_at : (b d : Bool)
      → cond b (cond d (error (middle (middle (middle lo hi) hi) hi)) (error (middle (middle lo hi) (middle (middle lo hi) hi))))
      (cond d (error (middle (middle lo (middle lo hi)) (middle lo hi))) (error (middle lo (middle lo (middle lo hi)))))
      ≡ error (middle (lower d (lower b lo hi) (upper b lo hi)) (upper d (lower b lo hi) (upper b lo hi)))
  third_at true true = refl
  third_at true false = refl
  third_at false true = refl
  third_at false false = refl

  -- the halves by the first error e, the quarters by the second
  module _ (errors : List Float) (are : errors ≡ map error (fork_of lo hi)) where
    pub first_tried : get_or errors 0 nan ≡ error (middle lo hi)
    first_tried = ap (λ (l : List Float). get_or l 0 nan) are

    module _ (e second lo' hi' : Float) (p : lo' ≡ lower (lt plus_zero e) lo hi) (q : hi' ≡ upper (lt plus_zero e) lo hi) where
      pub second_tried : second ≡ cond (lt plus_zero e) (get_or errors 2 nan) (get_or errors 1 nan) → second ≡ error (middle lo' hi')
      second_tried s =
          s ∙ ap (λ (l : List Float). cond (lt plus_zero e) (get_or l 2 nan) (get_or l 1 nan)) are ∙ second_at (lt plus_zero e) ∙ rw (p, q)

      pub third_tried : (up down third lo'' hi'' : Float) → lo'' ≡ lower (lt plus_zero second) lo' hi' → hi'' ≡ upper (lt plus_zero second) lo' hi'
          → up ≡ cond (lt plus_zero second) (get_or errors 6 nan) (get_or errors 5 nan)
          → down ≡ cond (lt plus_zero second) (get_or errors 4 nan) (get_or errors 3 nan)
          → third ≡ cond (lt plus_zero e) up down → third ≡ error (middle lo'' hi'')
      third_tried up down third lo'' hi'' p' q' u d t =
          let read : third ≡ cond (lt plus_zero e) (cond (lt plus_zero second) (get_or errors 6 nan) (get_or errors 5 nan)) (cond (lt plus_zero second) (get_or errors 4 nan) (get_or errors 3 nan)) =
          t ∙ rw (u, d) in
          read
          ∙ ap (λ (l : List Float). cond (lt plus_zero e) (cond (lt plus_zero second) (get_or l 6 nan) (get_or l 5 nan)) (cond (lt plus_zero second) (get_or l 4 nan) (get_or l 3 nan))) are
          ∙ third_at (lt plus_zero e) (lt plus_zero second)
          ∙ rw (p', q', p, q)
