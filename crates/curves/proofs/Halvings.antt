-- Halving, turn by turn, for one time and for eight: each turn keeps the segment that serves between the knot come to and the knots left, by either rule, on times that rise. So halving finds it.
-- Every search cites this. Assumes nothing.
use mathlib.Core.Path.{◌≡◌, refl, sym, ap, ◌∙◌}
use mathlib.Core.Bool.{Bool, true, false, cond}
use mathlib.Core.List.{List, [], ◌∷◌, map}
use Prim.Native.Nat.{ℕ, zero, suc, ◌+◌, ◌-◌, ◌/◌, ◌<◌, ◌≤◌}
use native.Mathlib.Omega.{arith}
use lib.Dec.{ltb, eqb}
use lib.ListN.{length, get_or, set, replicate, length-map}
use lib.Seq.{ext_get_or, get_or-set_same, get_or-set_other}
use lib.Ieee.{Float, nan}
use borrow.Author.Tests.{ltb-true, ltb-false, eqb-true, eqb-false}
use Rattle.curves.specs.Segments.{knot, Rising}
use Rattle.curves.specs.inner.Halving.{Rule, segment_by, passes, stepped_over}
use Rattle.curves.proofs.Serving.{by_rule, serves_before, serves_inside, none_serves, serves_after}

-- the segment of one of many times
pub served_at : (serving : Float → ℕ) (k : ℕ) (asked : List Float) → k < length asked → get_or (map serving asked) k 0 ≡ serving (get_or asked k nan)
served_at serving k [] h = absurd (omega arith)
served_at serving zero (t ∷ asked) h = refl
served_at serving (suc k) (t ∷ asked) h = served_at serving k asked (omega arith)

-- ---- a lane: one time, and the knot that it has come to with so many knots left, among which is the one that the segment that serves starts at
module _ (rule : Rule) (times : List Float) where
  pub record Lane (count : ℕ) (t : Float) (base : ℕ) : Type 0 where
    pub room : base + count ≤ length times
    pub some : 0 < length times → 0 < count
    pub around : Rising times → 0 < length times → (base ≤ segment_by rule times t) × (segment_by rule times t < base + count)

  pub lane_start : (t : Float) → Lane (length times) t 0
  lane_start t = record { room = omega arith; some = λ h. h; around = λ rises h. (omega arith, let s = serves_inside (by_rule rule t) times h in omega arith) }

  -- one turn
  pub lane_next : (t : Float) (count half base b : ℕ) → 1 < count → half ≡ count / 2 → Lane count t base → b ≡ stepped_over (passes rule t) times half base → Lane (count - half) t b
  lane_next t count half base b h e l is = rw is (go (passes rule t (knot times (base + half))) refl)
    where
      go : (p : Bool) → passes rule t (knot times (base + half)) ≡ p → Lane (count - half) t (cond p base (base + half))
      go true p = record {
        room = let r = l.room in omega arith;
        some = λ g. omega arith;
        around = λ rises g.
            let a = l.around rises g in
            let r = l.room in
            let i : suc (base + half - 1) ≡ base + half = omega arith in
            let s = serves_before (by_rule rule t) times (base + half - 1) (omega arith) (ap (λ (k : ℕ). passes rule t (knot times k)) i ∙ p) in
            (a.0, omega arith);
      }
      go false p = record {
        room = let r = l.room in omega arith;
        some = λ g. omega arith;
        around = λ rises g.
            let a = l.around rises g in
            let r = l.room in
            let s = serves_after (by_rule rule t) times rises (base + half) (omega arith) p in
            (s, omega (arith, a.1));
      }

  pub lane_inside : (t : Float) (count half base : ℕ) → 1 < count → half ≡ count / 2 → Lane count t base → base + half < length times
  lane_inside t count half base h e l = let r = l.room in omega arith

  -- whatever the times are, it stands at a knot
  pub lane_bound : (t : Float) (count base : ℕ) → count ≤ 1 → Lane count t base → 0 < length times → base < length times
  lane_bound t count base h l g = let r = l.room in let s = l.some g in omega arith

  -- with one knot left it is found
  pub lane_end : (t : Float) (count base : ℕ) → count ≤ 1 → Lane count t base → Rising times → base ≡ segment_by rule times t
  lane_end t count base h l rises = go (ltb 0 (length times)) (ltb-true 0 (length times)) (ltb-false 0 (length times))
    where
      go : (b : Bool) → (b ≡ true → 0 < length times) → (b ≡ false → length times ≤ 0) → base ≡ segment_by rule times t
      go true more none = let a = l.around rises (more refl) in omega (arith, a.0, a.1)
      go false more none =
          let n : length times ≤ 0 = none refl in
          let r = l.room in
          let z = none_serves (by_rule rule t) times (omega arith) in
          omega arith

  -- ---- eight lanes
  abbrev pub Lanes : ℕ → List Float → List ℕ → Type 0
  Lanes count asked bases = (k : ℕ) → k < 8 → Lane count (get_or asked k nan) (get_or bases k 0)

  -- those before j have taken the turn
  pub record Partly (count half j : ℕ) (asked : List Float) (bases : List ℕ) : Type 0 where
    pub done : (k : ℕ) → k < j → Lane (count - half) (get_or asked k nan) (get_or bases k 0)
    pub left : (k : ℕ) → j ≤ k → k < 8 → Lane count (get_or asked k nan) (get_or bases k 0)

  all_zero : (n k : ℕ) → ◌≡◌ {A = ℕ} (get_or (replicate n 0) k 0) 0
  all_zero zero k = refl
  all_zero (suc n) zero = refl
  all_zero (suc n) (suc k) = all_zero n k

  pub all_start : (asked : List Float) → Lanes (length times) asked (replicate 8 0)
  all_start asked k h = rw (all_zero 8 k) (lane_start (get_or asked k nan))

  pub partly_start : (count half : ℕ) (asked : List Float) (bases : List ℕ) → Lanes count asked bases → Partly count half 0 asked bases
  partly_start count half asked bases all = record { done = λ k h. absurd (omega arith); left = λ k l h. all k h }

  pub partly_end : (count half j : ℕ) (asked : List Float) (bases : List ℕ) → 8 ≤ j → Partly count half j asked bases → Lanes (count - half) asked bases
  partly_end count half j asked bases h p k l = p.done k (omega arith)

  pub partly_next : (count half j : ℕ) (asked : List Float) (bases : List ℕ) (b : ℕ) → 1 < count → half ≡ count / 2 → j < 8 → length bases ≡ 8
      → Partly count half j asked bases → b ≡ stepped_over (passes rule (get_or asked j nan)) times half (get_or bases j 0) → Partly count half (j + 1) asked (set bases j b)
  partly_next count half j asked bases b h e l n p is = record {
    done = λ k s. now_done k s (eqb k j) (eqb-true k j) (eqb-false k j);
    left = λ k s g. other k (λ z. omega arith) (p.left k (omega arith) g);
  }
    where
      other : {c : ℕ} (k : ℕ) → (k ≡ j → ⊥) → Lane c (get_or asked k nan) (get_or bases k 0) → Lane c (get_or asked k nan) (get_or (set bases j b) k 0)
      other k z lane = rw (get_or-set_other bases j k b 0 z) lane

      now_done : (k : ℕ) → k < j + 1 → (t : Bool) → (t ≡ true → k ≡ j) → (t ≡ false → k ≡ j → ⊥) → Lane (count - half) (get_or asked k nan) (get_or (set bases j b) k 0)
      now_done k s true same apart =
          let z : k ≡ j = same refl in
          rw (z, get_or-set_same bases j b 0 (omega arith)) (lane_next _ count half (get_or bases j 0) b h e (p.left j (omega arith) l) is)
      now_done k s false same apart = let z : k ≡ j → ⊥ = apart refl in other k z (p.done k (omega (arith, z)))

  pub all_end : (count : ℕ) (asked : List Float) (bases : List ℕ) → count ≤ 1 → length asked ≡ 8 → length bases ≡ 8 → Lanes count asked bases → Rising times
      → bases ≡ map (segment_by rule times) asked
  all_end count asked bases h e b all rises =
      ext_get_or 0 bases (map (segment_by rule times) asked) (b ∙ sym e ∙ sym (length-map asked (segment_by rule times)))
      (λ k l. lane_end (get_or asked k nan) count (get_or bases k 0) h (all k (omega arith)) rises ∙ sym (served_at (segment_by rule times) k asked (omega arith)))

-- what the searches cite
pub ruleset one_lane = (lane_start, lane_inside, lane_next, lane_end)

pub ruleset eight_lanes = (all_start, partly_start, partly_next, partly_end, lane_bound, all_end, lane_inside)
