-- Laws of texts put into memory: one text behind another, and a byte put in front of a text or behind it. Assumes nothing.
use mathlib.Core.Path.{◌≡◌, refl, sym, ap, ◌∙◌}
use mathlib.Core.List.{List, [], ◌∷◌, ◌++◌}
use Prim.Native.Nat.{ℕ, suc, ◌+◌, ◌<◌, ◌≤◌}
use native.Mathlib.Nat.{add-zero}
use native.Mathlib.Numerals.{add-one}
use native.Mathlib.Omega.{arith}
use lib.ListN.{length, take, get_or, set, length-append}
use lib.Seq.{sets, length-sets, take-suc, take_all, length-take-le}
use Rattle.steps.proofs.Rooms.{sets_append, sets_apart}
use Rattle.listing.specs.inner.Putting.{Put}

-- a byte in front of a text that is put
pub put_in_front : (o : List ℕ) (at x : ℕ) (v : List ℕ) → set (sets o (at + 1) v) at x ≡ sets o at (x ∷ v)
put_in_front o at x v = rw (add-one at) (sym (sets_apart v (x ∷ []) o at (suc at) (omega arith)))

-- a byte behind a text that is put
pub put_behind : (o : List ℕ) (at x : ℕ) (t : List ℕ) → set (sets o at t) (at + length t) x ≡ sets o at (t ++ x ∷ [])
put_behind o at x t = sets_append t (x ∷ []) o at

pub nothing : (at : ℕ) (o : List ℕ) → Put [] at o at o
nothing at o = record { place = sym (add-zero at); bytes = refl }

pub same_text : {t u : List ℕ} {at n : ℕ} {o p : List ℕ} → t ≡ u → Put t at o n p → Put u at o n p
same_text {t} {u} {at} {n} {o} {p} e h = rw e at h

-- one text behind another
pub then : {t u : List ℕ} {at m n : ℕ} {o p q : List ℕ} → Put t at o m p → Put u m p n q → Put (t ++ u) at o n q
then {t} {u} {at} {m} {n} {o} {p} {q} a b = record {
  place = simp length-append (omega (arith, a.place, b.place));
  bytes = b.bytes ∙ rw (a.bytes, a.place) (sets_append t u o at);
}

-- the memory stays as long as it was
pub same_room : {t : List ℕ} {at m : ℕ} {o p : List ℕ} → Put t at o m p → length p ≡ length o
same_room {t} {at} {m} {o} {p} a = ap length a.bytes ∙ length-sets o at t

-- ---- the loop that puts a text byte by byte
pub next_byte : (text o out : List ℕ) (at i : ℕ) → i < length text → Put (take i text) at o (at + i) out
    → Put (take (i + 1) text) at o (at + (i + 1)) (set out (at + i) (get_or text i 0))
next_byte text o out at i h p =
    let e : length (take i text) ≡ i = length-take-le i text (omega arith) in
    let t : take (i + 1) text ≡ take i text ++ get_or text i 0 ∷ [] = rw (add-one i) (take-suc text i 0 h) in
    let n : length (take (i + 1) text) ≡ i + 1 = length-take-le (i + 1) text (omega arith) in
    record { place = rw n; bytes = rw (t, p.bytes) (ap (λ (k : ℕ). set (sets o at (take i text)) (at + k) (get_or text i 0)) (sym e) ∙ put_behind o at _ (take i text)) }

pub every_byte : (text o out : List ℕ) (at i : ℕ) → length text ≤ i → Put (take i text) at o (at + i) out → Put text at o (at + i) out
every_byte text o out at i h p = rw (take_all i text h) at p
