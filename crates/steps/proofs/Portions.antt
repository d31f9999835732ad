-- Laws of pieces one behind the other and of a state that steps on, for any pieces, state, step and width: portions add up, and a piece laid behind those that stand is the next one.
-- Assumes nothing.
use mathlib.Core.Path.{◌≡◌, refl, sym, ap, ◌∙◌}
use mathlib.Core.List.{List, ◌++◌, append_assoc, append-nil}
use Prim.Native.Nat.{ℕ, zero, suc, ◌+◌, ◌-◌, ◌*◌, ◌≤◌, ◌<◌}
use native.Mathlib.Nat.{suc-add, zero-add, zero-mul, suc-mul, add-mul, mul-le-mul_right}
use native.Mathlib.Numerals.{add-one}
use native.Mathlib.Omega.{arith}
use lib.ListN.{length, take, drop, length-append, length-drop, length-take}
use lib.Seq.{sets}
use Rattle.steps.specs.Steps.{pieces, stepped, written, laid}
use Rattle.steps.proofs.Rooms.{behind, beyond}

-- ---- pieces
-- a of them and then b more, which begin at the piece a
pub pieces_sum : {A : Type 0} (piece : ℕ → List A) (a b : ℕ) → pieces piece (b + a) ≡ pieces piece a ++ pieces (λ (i : ℕ). piece (i + a)) b
unfolding pieces
pieces_sum piece a zero = ap (pieces piece) (zero-add a) ∙ sym (append-nil (pieces piece a))
pieces_sum piece a (suc b) = rw (suc-add b a, pieces_sum piece a b, append_assoc)

-- pieces that agree
pub pieces_same : {A : Type 0} (f g : ℕ → List A) (n : ℕ) → ((i : ℕ) → i < n → f i ≡ g i) → pieces f n ≡ pieces g n
unfolding pieces
pieces_same f g zero same = refl
pieces_same f g (suc n) same = rw (pieces_same f g n (λ i h. same i (omega arith)), same n (omega arith))

-- a piece laid behind k others, which take up so many places
module _ {A : Type 0} (piece : ℕ → List A) (k here : ℕ) (many : length (pieces piece k) ≡ here) where
  pub next_behind : (o : List A) → here + length (piece k) ≤ length o
      → sets (pieces piece k ++ drop here o) here (piece k) ≡ pieces piece (k + 1) ++ drop (here + length (piece k)) o
  unfolding pieces
  next_behind o h = rw (add-one k, ← many) (behind (pieces piece k) (piece k) o (rw many h))

-- ---- pieces of w places each
pub one_more : (w k : ℕ) → (k + 1) * w ≡ k * w + w
one_more w k = rw (add-one k) (suc-mul k w)

-- a room that holds most of them holds the piece k
pub fits_in : (w k most room : ℕ) → k < most → most * w ≤ room → k * w + w ≤ room
fits_in w k most room h b = let s : suc k * w ≤ most * w = mul-le-mul_right w h in omega (arith, suc-mul k w)

module _ {A : Type 0} (piece : ℕ → List A) (w : ℕ) (wide : (i : ℕ) → length (piece i) ≡ w) where
  pub length_pieces : (k : ℕ) → length (pieces piece k) ≡ k * w
  unfolding pieces
  length_pieces zero = sym (zero-mul w)
  length_pieces (suc k) = length-append (pieces piece k) (piece k) ∙ rw (length_pieces k, wide k, suc-mul k w)

  pub next_laid : (k : ℕ) (o : List A) → k * w + w ≤ length o → sets (laid w k (pieces piece k) o) (k * w) (piece k) ≡ laid w (k + 1) (pieces piece (k + 1)) o
  next_laid k o h = next_behind piece k (k * w) (length_pieces k) o (rw (wide k) h) ∙ rw (wide k, one_more w k)

-- pieces of at most w places each
pub length_at_most : {A : Type 0} (piece : ℕ → List A) (w : ℕ) → ((i : ℕ) → length (piece i) ≤ w) → (k : ℕ) → length (pieces piece k) ≤ k * w
unfolding pieces
length_at_most piece w short zero = omega arith
length_at_most piece w short (suc k) = omega (arith, length-append (pieces piece k) (piece k), length_at_most piece w short k, short k, suc-mul k w)

-- ---- a state that steps: a steps and then b are b + a
module _ {S : Type 0} (next : S → S) where
  pub stepped_sum : (a b : ℕ) (s : S) → stepped next (b + a) s ≡ stepped next b (stepped next a s)
  unfolding stepped
  stepped_sum a zero s = ap (λ (k : ℕ). stepped next k s) (zero-add a)
  stepped_sum a (suc b) s = ap (λ (k : ℕ). stepped next k s) (suc-add b a) ∙ ap next (stepped_sum a b s)

  pub stepped_next : (k : ℕ) (s : S) → next (stepped next k s) ≡ stepped next (k + 1) s
  unfolding stepped
  stepped_next k s = rw (add-one k)

  -- one step on from a state that k steps reached
  pub steps_on : (k : ℕ) (s₀ s s' : S) → s ≡ stepped next k s₀ → s' ≡ next s → s' ≡ stepped next (k + 1) s₀
  steps_on k s₀ s s' reached e = e ∙ ap next reached ∙ stepped_next k s₀

  -- so many of n steps, and then the rest
  pub stepped_rest : (a n : ℕ) (s s₁ s₂ : S) → a ≤ n → s₁ ≡ stepped next a s → s₂ ≡ stepped next (n - a) s₁ → s₂ ≡ stepped next n s
  stepped_rest a n s s₁ s₂ h e₁ e₂ =
      let e : n - a + a ≡ n = omega arith in
      e₂ ∙ ap (stepped next (n - a)) e₁ ∙ sym (stepped_sum a (n - a) s) ∙ ap (λ (k : ℕ). stepped next k s) e

module _ {S A : Type 0} (next : S → S) (writes : S → List A) where
  pub written_sum : (a b : ℕ) (s : S) → written next writes (b + a) s ≡ written next writes a s ++ written next writes b (stepped next a s)
  unfolding pieces
  written_sum a zero s = ap (λ (k : ℕ). written next writes k s) (zero-add a) ∙ sym (append-nil (written next writes a s))
  written_sum a (suc b) s = rw (suc-add b a, written_sum a b s, stepped_sum next a b s, append_assoc)

  pub written_rest : (a n : ℕ) (s s₁ : S) → a ≤ n → s₁ ≡ stepped next a s → written next writes a s ++ written next writes (n - a) s₁ ≡ written next writes n s
  written_rest a n s s₁ h e₁ =
      let e : n - a + a ≡ n = omega arith in
      ap (λ (t : S). written next writes a s ++ written next writes (n - a) t) e₁ ∙ sym (written_sum a (n - a) s) ∙ ap (λ (k : ℕ). written next writes k s) e

module _ {S A : Type 0} (next : S → S) (writes : S → List A) (w : ℕ) (wide : (s : S) → length (writes s) ≡ w) where
  pub length_written : (k : ℕ) (s : S) → length (written next writes k s) ≡ k * w
  length_written k s = length_pieces (λ (i : ℕ). writes (stepped next i s)) w (λ (i : ℕ). wide (stepped next i s)) k

  -- ---- a pieces in a room, and the rest of n in what is left of it, are n pieces
  pub room_left : (o o₁ : List A) (a n : ℕ) → length o₁ ≡ length o → a ≤ n → n * w ≤ length o
      → (n - a) * w ≤ length (take (length o₁ - a * w) (drop (a * w) o₁))
  room_left o o₁ a n e h b =
      let s : (n - a) * w + a * w ≡ n * w = sym (add-mul (n - a) a w) ∙ ap (λ (k : ℕ). k * w) (omega arith) in
      simp (length-take, length-drop) (omega arith)

  pub joined : (s₀ s₁ s₂ : S) (o o₁ o₂ : List A) (a n : ℕ)
      → s₁ ≡ stepped next a s₀ → o₁ ≡ laid w a (written next writes a s₀) o
      → s₂ ≡ stepped next (n - a) s₁ → o₂ ≡ laid w (n - a) (written next writes (n - a) s₁) (take (length o₁ - a * w) (drop (a * w) o₁))
      → a ≤ n → n * w ≤ length o
      → (s₂ ≡ stepped next n s₀) × (take (a * w) o₁ ++ (o₂ ++ drop (length o₁ - a * w) (drop (a * w) o₁)) ≡ laid w n (written next writes n s₀) o)
  joined s₀ s₁ s₂ o o₁ o₂ a n es₁ eo₁ es₂ eo₂ h b =
      let t : a * w + (n - a) * w ≡ n * w = sym (add-mul a (n - a) w) ∙ ap (λ (k : ℕ). k * w) (omega arith) in (
        stepped_rest next a n s₀ s₁ s₂ h es₁ es₂,
        rw eo₂ (beyond (written next writes a s₀) (written next writes (n - a) s₁) o o₁ (a * w) ((n - a) * w) (length_written a s₀) (rw t b) eo₁ ∙ rw (written_rest next writes a n s₀ s₁ h es₁, t)),
      )
