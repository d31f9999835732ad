-- Loops that lay what a state writes, piece by piece, into a lent room: from its start, or one state's pieces from a place. For any state, step and width. Assumes nothing.
use mathlib.Core.Path.{◌≡◌, refl, ◌∙◌}
use mathlib.Core.List.{List, ◌++◌}
use Prim.Native.Nat.{ℕ, ◌+◌, ◌-◌, ◌*◌, ◌<◌, ◌≤◌}
use native.Mathlib.Nat.{zero-mul}
use native.Mathlib.Omega.{arith}
use lib.ListN.{length, take, drop}
use lib.Seq.{sets}
use Rattle.steps.specs.Steps.{pieces, stepped, written, laid, Lays}
use Rattle.steps.proofs.Rooms.{laid_from}
use Rattle.steps.proofs.Portions.{fits_in, next_laid, steps_on, length_written, joined}

module _ {S A : Type 0} (next : S → S) (writes : S → List A) (w : ℕ) where
  -- ---- from the start of a room: no step
  pub none_laid : (n : ℕ) (s : S) (room : List A) → n ≡ 0 → Lays next writes w n s room s room
  unfolding stepped pieces
  none_laid n s room e = record { state = rw e; stand = rw (e, zero-mul w) }

  -- ---- none from a place
  pub none_at : (room : List A) (at n : ℕ) (s : S) → n ≡ 0 → (s ≡ stepped next n s) × (room ≡ sets room at (written next writes n s))
  unfolding stepped pieces
  none_at room at n s e = (rw e, rw e)

module _ {S A : Type 0} {next : S → S} {writes : S → List A} {w : ℕ} (wide : (s : S) → length (writes s) ≡ w) where
  -- a turn lays the piece that the state writes, and steps on
  pub one_laid : {most k : ℕ} {s₀ s s' : S} {room₀ room room' piece : List A} → Lays next writes w k s₀ room₀ s room → most * w ≤ length room₀ → k < most
      → piece ≡ writes s → s' ≡ next s → room' ≡ sets room (k * w) piece → Lays next writes w (k + 1) s₀ room₀ s' room'
  one_laid {most} {k} {s₀} {s} {s'} {room₀} i b h ep es e =
      let l = next_laid (λ (j : ℕ). writes (stepped next j s₀)) w (λ (j : ℕ). wide (stepped next j s₀)) k room₀ (fits_in w k most (length room₀) h b) in record {
        state = steps_on next k s₀ s s' i.state es;
        stand = e ∙ rw (i.stand, ep, i.state) l;
      }

  -- k steps, and the rest of n in what is left of the room
  pub joined_laid : {k n : ℕ} {s₀ s₁ s₂ : S} {room₀ room₁ part : List A} → Lays next writes w k s₀ room₀ s₁ room₁
      → Lays next writes w (n - k) s₁ (take (length room₁ - k * w) (drop (k * w) room₁)) s₂ part → k ≤ n → n * w ≤ length room₀
      → Lays next writes w n s₀ room₀ s₂ (take (k * w) room₁ ++ (part ++ drop (length room₁ - k * w) (drop (k * w) room₁)))
  joined_laid {k} {n} {s₀} {s₁} {s₂} {room₀} {room₁} {part} i j h b =
      let whole = joined next writes w wide s₀ s₁ s₂ room₀ room₁ part k n i.state i.stand j.state j.stand h b in record { state = whole.0; stand = whole.1 }

module _ {S A : Type 0} (next : S → S) (writes : S → List A) (w : ℕ) (wide : (s : S) → length (writes s) ≡ w) where
  -- ---- n pieces from a place, laid into what follows it
  pub written_at : (room : List A) (at n : ℕ) (s : S) (part : List A) → at + n * w ≤ length room
      → part ≡ laid w n (written next writes n s) (take (length room - at) (drop at room))
      → take at room ++ (part ++ drop (length room - at) (drop at room)) ≡ sets room at (written next writes n s)
  written_at room at n s part h e = rw e (laid_from (written next writes n s) room at (n * w) (length_written next writes w wide n s) h)
