-- The passes of the search one at a time, as a loop meets them: settled, gone on, and used up. Assumes nothing.
use mathlib.Core.Path.{◌≡◌, refl}
use mathlib.Core.Bool.{Bool, true, false}
use Prim.Native.Nat.{ℕ, zero, suc, ◌-◌, ◌<◌, ◌≤◌}
use native.Mathlib.Omega.{arith}
use lib.Ieee.{Float}
use Rattle.bond.specs.declared.Bond.{Bond}
use Rattle.bond.specs.declared.brent.Search.{Search}
use Rattle.bond.specs.Brent.{settled}
use Rattle.bond.specs.Yield.{readied, passed, searched}

module _ (b : Bond) (market : Float) where
  pub settles : (k : ℕ) (s ready : Search) (t : Bool) → 0 < k → ready ≡ readied s → t ≡ settled ready → t ≡ true → searched b market k s ≡ ready.b
  unfolding searched
  settles zero s ready t h e f g = absurd (omega arith)
  settles (suc k) s ready t h e f g = let done : settled (readied s) ≡ true = cc in rw (done, e)

  pub goes_on : (k : ℕ) (s ready next : Search) (t : Bool) → 0 < k → ready ≡ readied s → t ≡ settled ready → t ≡ false → next ≡ passed b market ready
      → searched b market k s ≡ searched b market (k - 1) next
  unfolding searched
  goes_on zero s ready next t h e f g n = absurd (omega arith)
  goes_on (suc k) s ready next t h e f g n =
      let on : settled (readied s) ≡ false = cc in
      let less : suc k - 1 ≡ k = omega arith in
      rw (on, less, n, e)

  pub used_up : (k : ℕ) (s : Search) → k ≤ 0 → searched b market k s ≡ s.b
  unfolding searched
  used_up zero s h = refl
  used_up (suc k) s h = absurd (omega arith)
