-- The knots of a bootstrap solved one after the other: what stands in front of the two rooms is the tenors and the zero rates up to there. Assumes nothing.
use Rattle.std.proofs.Common.{◌≡◌, ℕ, suc, ◌+◌, ◌-◌, ◌<◌, List, [], ◌∷◌, ◌++◌, length, take, set, get_or, sym, ap, subst, ◌∙◌, add-one, arith}
use Rattle.std.proofs.Math.Seq.{length-take-le, take-suc, take-suc-set, get_or-take}
use lib.Ieee.{Float, binary64, nan, add}
use Rattle.numbers.specs.Literals.{one}
use Rattle.elementary.specs.Ln.{ln}
use Rattle.curves.proofs.InnerKnots.{front_rises}
use Rattle.curves.specs.Segments.{knot, last_of, Rising}
use Rattle.swaps.specs.Bootstrap.{par_error, solved_or, next_zero, zeros_up_to}

last_taken : (tenors : List Float) (i : ℕ) → i < length tenors → last_of (take (suc i) tenors) ≡ knot tenors i
last_taken tenors i h =
    let counted : length (take (suc i) tenors) ≡ suc i = length-take-le (suc i) tenors h in
    let at : length (take (suc i) tenors) - 1 ≡ i = omega arith in
    ap (knot (take (suc i) tenors)) at ∙ get_or-take (suc i) tenors i nan (omega arith)

-- a room whose front is that of tenors that rise rises there
pub room_rises : (tenors room : List Float) (i : ℕ) → i < length tenors → take (i + 1) room ≡ take (i + 1) tenors → Rising tenors → Rising (take (i + 1) room)
room_rises tenors room i h put rises = subst Rising (sym put) (front_rises tenors (i + 1) (omega arith) rises)

module _ (tenors pars room zeros : List Float) (i : ℕ) (h : i < length tenors) (g : i < length zeros) (put : take (i + 1) room ≡ take (i + 1) tenors) where
  pub one_knot_more : length (take (i + 1) room) ≡ length (take i zeros) + 1
  one_knot_more =
      let a : length (take (i + 1) room) ≡ i + 1 = ap length put ∙ length-take-le (i + 1) tenors (omega arith) in
      let b : length (take i zeros) ≡ i = length-take-le i zeros (omega arith) in
      omega arith

  abbrev Solution : Float
  Solution =
      solved_or (λ (x : Float). par_error (take (i + 1) room) (take i zeros ++ x ∷ []) (last_of (take (i + 1) room)) (get_or pars i nan))
      (ln (add binary64 one (get_or pars i nan)))

  is_next : take i zeros ≡ zeros_up_to tenors pars i → Solution ≡ next_zero tenors pars (zeros_up_to tenors pars i) i
  unfolding next_zero
  is_next e = rw (put, add-one i, last_taken tenors i h, e)

  pub knot_solved : (zero : Float) → take i zeros ≡ zeros_up_to tenors pars i → zero ≡ Solution → take (i + 1) (set zeros i zero) ≡ zeros_up_to tenors pars (i + 1)
  unfolding zeros_up_to
  knot_solved zero e z = rw (add-one i, take-suc-set zeros i zero g, z ∙ is_next e, e)

-- the room once the tenor of the knot in hand is put into it
pub tenor_put : (tenors times : List Float) (i : ℕ) → i < length tenors → i < length times → take i times ≡ take i tenors → take (i + 1) (set times i (get_or tenors i nan)) ≡ take (i + 1) tenors
tenor_put tenors times i h g e = rw (add-one i, take-suc-set times i (get_or tenors i nan) g, take-suc tenors i nan h, e)
