-- Calls one after the other, whatever state they move on and whatever they keep of it: what they file is what the next steps write, a call that does nothing may stand anywhere, calls to the
-- end file all that was due, calls that do the same leave the same, and as many rooms with a whole piece as pieces are due reach the end. Assumes nothing.
use mathlib.Core.Path.{◌≡◌, refl, sym, ap, ◌∙◌}
use mathlib.Core.Logic.{inl, inr}
use mathlib.Core.Bool.{Bool, true, false, cond}
use mathlib.Core.List.{List, [], ◌∷◌, ◌++◌, map}
use Prim.Native.Nat.{ℕ, ◌+◌, ◌-◌, ◌*◌, ◌/◌, ◌≤◌, ◌<◌, suc}
use native.Mathlib.Nat.{eq-zero-or-pos, le-div_iff_mul-le}
use native.Mathlib.Omega.{arith}
use lib.Dec.{ltb}
use lib.ListN.{length}
use borrow.Author.Tests.{ltb-false}
use Rattle.steps.specs.Steps.{pieces, stepped, written, fitting}
use Rattle.steps.specs.Calls.{filed, left, roomy}
use Rattle.steps.proofs.Portions.{stepped_sum, written_sum}

-- ---- what the next so many steps of a state write, no more than are due, and the state that stands after them: whatever calls wrote it
module _ {S A : Type 0} (next : S → S) (writes : S → List A) (due : S → ℕ) where
  pub record Moves (s : S) (numbers : List A) (s' : S) : Type 0 where
    pub many : ℕ
    pub by_the_rule_lem : numbers ≡ written next writes many s
    pub state : s' ≡ stepped next many s
    pub within : many ≤ due s

  pub stays : (s : S) → Moves s [] s
  unfolding stepped pieces
  stays s = record { many = 0; by_the_rule_lem = refl; state = refl; within = omega arith }

  pub one_step : (s : S) → 0 < due s → Moves s (writes s) (next s)
  unfolding stepped pieces
  one_step s h = record { many = 1; by_the_rule_lem = refl; state = refl; within = omega arith }

  module _ (due_after : (k : ℕ) (s : S) → due (stepped next k s) ≡ due s - k) where
    pub onward : (s t u : S) (a b : List A) → Moves s a t → Moves t b u → Moves s (a ++ b) u
    onward s t u a b f g =
        let k : ℕ = f.many in
        let j : ℕ = g.many in
        record {
          many = j + k;
          by_the_rule_lem = rw (f.by_the_rule_lem, g.by_the_rule_lem, f.state) (sym (written_sum next writes k j s));
          state = g.state ∙ rw f.state (sym (stepped_sum next k j s));
          within = omega (arith, f.within, g.within, due_after k s, ap due f.state);
        }

    -- they are as many as are no longer due, so that where nothing is due all that was due was written
    pub moved_is_no_longer_due : (s : S) (numbers : List A) (s' : S) (f : Moves s numbers s') → f.many ≡ due s - due s'
    moved_is_no_longer_due s numbers s' f = omega (arith, f.within, ap due f.state, due_after f.many s)

    pub moved_to_the_end : (s : S) (numbers : List A) (s' : S) → Moves s numbers s' → due s' ≡ 0 → numbers ≡ written next writes (due s) s
    moved_to_the_end s numbers s' f z =
        let e : f.many ≡ due s = omega (arith, moved_is_no_longer_due s numbers s' f) in
        f.by_the_rule_lem ∙ ap (λ (k : ℕ). written next writes k s) e

    -- whatever calls moved on a state, as many steps file the same and leave the same
    pub moved_alike : (s t u : S) (a b : List A) → Moves s a t → Moves s b u → due t ≡ due u → (t ≡ u) × (a ≡ b)
    moved_alike s t u a b f g e =
        let m : f.many ≡ g.many = omega (arith, moved_is_no_longer_due s a t f, moved_is_no_longer_due s b u g) in
        (f.state ∙ ap (λ (k : ℕ). stepped next k s) m ∙ sym g.state, f.by_the_rule_lem ∙ ap (λ (k : ℕ). written next writes k s) m ∙ sym g.by_the_rule_lem)

    -- ---- calls that keep K, with a state in hand; what is `Good` stays so from call to call
    module _ {K C : Type 0} (hand : K → S) (files : K → C → List A) (hands_back : K → C → K) (Good : K → Type 0) where
      module _ (a_call : (k : K) (c : C) → Good k → Moves (hand k) (files k c) (hand (hands_back k c)) × Good (hands_back k c)) where
        pub filed_moves : (calls : List C) (k : K) → Good k → Moves (hand k) (filed files hands_back k calls) (hand (left hands_back k calls))
        unfolding filed left
        filed_moves [] k good = stays (hand k)
        filed_moves (c ∷ calls) k good =
            let one = a_call k c good in
            onward (hand k) (hand (hands_back k c)) _ _ _ one.0 (filed_moves calls (hands_back k c) one.1)

        -- whatever the calls, where nothing is due after them all that was due is filed
        pub filed_to_the_end : (calls : List C) (k : K) → Good k → due (hand (left hands_back k calls)) ≡ 0 → filed files hands_back k calls ≡ written next writes (due (hand k)) (hand k)
        filed_to_the_end calls k good z = moved_to_the_end (hand k) (filed files hands_back k calls) _ (filed_moves calls k good) z

-- ---- a call that files nothing and hands back what it was handed may stand anywhere
module _ {K C A : Type 0} (files : K → C → List A) (hands_back : K → C → K) where
  pub idle_call : (k : K) (c : C) (calls : List C) → files k c ≡ [] → hands_back k c ≡ k
      → (filed files hands_back k (c ∷ calls) ≡ filed files hands_back k calls) × (left hands_back k (c ∷ calls) ≡ left hands_back k calls)
  unfolding filed left
  idle_call k c calls e f = (rw (e, f), rw f)

-- ---- calls that do to what they keep what other calls do to what is in hand file the same, and leave the same in hand
module _ {K K' C C' A : Type 0} (files : K → C → List A) (hands_back : K → C → K) (files' : K' → C' → List A) (hands_back' : K' → C' → K') (hand : K → K') (call : C → C')
    (same_filed : (k : K) (c : C) → files k c ≡ files' (hand k) (call c)) (same_back : (k : K) (c : C) → hand (hands_back k c) ≡ hands_back' (hand k) (call c)) where
  pub left_alike : (calls : List C) (k : K) → hand (left hands_back k calls) ≡ left hands_back' (hand k) (map call calls)
  unfolding left
  left_alike [] k = refl
  left_alike (c ∷ calls) k = left_alike calls (hands_back k c) ∙ ap (λ (h : K'). left hands_back' h (map call calls)) (same_back k c)

  pub filed_alike : (calls : List C) (k : K) → filed files hands_back k calls ≡ filed files' hands_back' (hand k) (map call calls)
  unfolding filed
  filed_alike [] k = refl
  filed_alike (c ∷ calls) k = rw (same_filed k c, filed_alike calls (hands_back k c), same_back k c)

-- ---- how many rooms are enough, for calls that take as many as are due and fit
at_least_one : (due room w : ℕ) → 0 < w → w ≤ room → 0 < due → 0 < fitting due room w
at_least_one due room w pos h d =
    let e : 1 * w ≤ room = omega arith in
    let q : 1 ≤ room / w = (le-div_iff_mul-le pos).1 e in
    omega arith

module _ {K A : Type 0} (due : K → ℕ) (hands_back : K → List A → K) (Good : K → Type 0) (w : ℕ) (pos : 0 < w)
    (a_draw : (k : K) (room : List A) → Good k → (due (hands_back k room) ≡ due k - fitting (due k) (length room) w) × Good (hands_back k room)) where
  -- a room too small for a piece counts for nothing, and any other takes at least one off those due
  due_after_draw : (k : K) (room : List A) (n : ℕ) → Good k → due k ≤ cond (ltb (length room) w) n (suc n) → due (hands_back k room) ≤ n
  due_after_draw k room n good = go (ltb (length room) w) (ltb-false (length room) w)
    where
      is : due (hands_back k room) ≡ due k - fitting (due k) (length room) w
      is = (a_draw k room good).0

      fewer : (d c n : ℕ) → (0 < d → 0 < c) → d ≤ suc n → d - c ≤ n
      fewer d c n f h = elim (eq-zero-or-pos d) [
        | inl z ↦ omega arith
        | inr g ↦ let p = f g in omega arith
      ]

      go : (small : Bool) → (small ≡ false → w ≤ length room) → due k ≤ cond small n (suc n) → due (hands_back k room) ≤ n
      go true r h = omega (arith, is)
      go false r h = rw is (fewer (due k) (fitting (due k) (length room) w) n (at_least_one (due k) (length room) w pos (r refl)) h)

  -- as many rooms with a whole piece as pieces are due reach the end, whatever rooms are between them
  pub rooms_enough : (rooms : List (List A)) (k : K) → Good k → due k ≤ roomy w rooms → due (left hands_back k rooms) ≡ 0
  unfolding left roomy
  rooms_enough [] k good h = omega arith
  rooms_enough (room ∷ rooms) k good h = rooms_enough rooms (hands_back k room) (a_draw k room good).1 (due_after_draw k room (roomy w rooms) good h)
