-- What two states write, each from its own place of a room: piece by piece in turns, and first so many of each and then the rest. For any state, step and width. Assumes nothing.
use mathlib.Core.Path.{◌≡◌, refl, sym, ap, ◌∙◌}
use mathlib.Core.List.{List, ◌++◌}
use Prim.Native.Nat.{ℕ, ◌+◌, ◌-◌, ◌*◌, ◌<◌, ◌≤◌}
use native.Mathlib.Nat.{add-mul}
use native.Mathlib.Numerals.{add-one}
use native.Mathlib.Omega.{arith}
use lib.ListN.{length}
use lib.Seq.{sets}
use Rattle.steps.specs.Steps.{pieces, stepped, written, LaysBoth}
use Rattle.steps.proofs.Rooms.{behind_both}
use Rattle.steps.proofs.Portions.{fits_in, steps_on, stepped_rest, written_rest, length_written}

-- ---- none of each
pub none_of_both : {S A : Type 0} (next : S → S) (writes : S → List A) (n a b : ℕ) (x y : S) (room : List A) → n ≡ 0 → LaysBoth next writes n a b x y room x y room
unfolding stepped pieces
none_of_both next writes n a b x y room e = record { x_state = rw e; y_state = rw e; stand = rw e }

-- a turn lays the piece of each, and both step on
module _ {S A : Type 0} {next : S → S} {writes : S → List A} {w : ℕ} (wide : (s : S) → length (writes s) ≡ w) where
  pub one_of_both : {most k a b : ℕ} {x₀ y₀ x y x' y' : S} {room₀ room room₁ room₂ x_piece y_piece : List A}
      → LaysBoth next writes k a b x₀ y₀ room₀ x y room → a + most * w ≤ b → k < most → x_piece ≡ writes x → x' ≡ next x → y_piece ≡ writes y → y' ≡ next y
      → room₁ ≡ sets room (a + k * w) x_piece → room₂ ≡ sets room₁ (b + k * w) y_piece → LaysBoth next writes (k + 1) a b x₀ y₀ room₀ x' y' room₂
  unfolding pieces
  one_of_both {most} {k} {a} {b} {x₀} {y₀} {x} {y} {x'} {y'} {room₀} i apart h px nx py ny e₁ e₂ =
      let long : (s : S) → length (written next writes k s) ≡ k * w = length_written next writes w wide k in
      let x_last : List A = writes (stepped next k x₀) in
      let f : k * w + w ≤ most * w = fits_in w k most (most * w) h (omega arith) in
      let m : a + k * w + length x_last ≤ b = omega (arith, wide (stepped next k x₀)) in record {
        x_state = steps_on next k x₀ x x' i.x_state nx;
        y_state = steps_on next k y₀ y y' i.y_state ny;
        stand = e₂
            ∙ rw (e₁, i.stand, px, py, i.x_state, i.y_state, add-one k) (behind_both (written next writes k x₀) (written next writes k y₀) x_last (writes (stepped next k y₀)) room₀ a b (k * w) (long x₀) (long y₀) m);
      }

  -- k pieces of each, and then the rest of n of each
  pub both_joined : {k n a b : ℕ} {x₀ y₀ x₁ y₁ x₂ y₂ : S} {room₀ room₁ room₂ room₃ : List A} → LaysBoth next writes k a b x₀ y₀ room₀ x₁ y₁ room₁ → k ≤ n → a + n * w ≤ b
      → x₂ ≡ stepped next (n - k) x₁ → room₂ ≡ sets room₁ (a + k * w) (written next writes (n - k) x₁)
      → y₂ ≡ stepped next (n - k) y₁ → room₃ ≡ sets room₂ (b + k * w) (written next writes (n - k) y₁)
      → LaysBoth next writes n a b x₀ y₀ room₀ x₂ y₂ room₃
  both_joined {k} {n} {a} {b} {x₀} {y₀} {x₁} {y₁} {x₂} {y₂} {room₀} i h apart fx e₂ fy e₃ =
      let long : (s : S) → length (written next writes k s) ≡ k * w = length_written next writes w wide k in
      let x_rest : List A = written next writes (n - k) x₁ in
      let t : k * w + (n - k) * w ≡ n * w = sym (add-mul k (n - k) w) ∙ ap (λ (j : ℕ). j * w) (omega arith) in
      let m : a + k * w + length x_rest ≤ b = omega (arith, length_written next writes w wide (n - k) x₁) in record {
        x_state = stepped_rest next k n x₀ x₁ x₂ h i.x_state fx;
        y_state = stepped_rest next k n y₀ y₁ y₂ h i.y_state fy;
        stand = rw (e₃, e₂, i.stand, ← written_rest next writes k n x₀ x₁ h i.x_state, ← written_rest next writes k n y₀ y₁ h i.y_state)
            (behind_both (written next writes k x₀) (written next writes k y₀) x_rest (written next writes (n - k) y₁) room₀ a b (k * w) (long x₀) (long y₀) m);
      }
