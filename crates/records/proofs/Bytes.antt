-- Numbers and their little-endian bytes: each gives the other back, and the library's words for both mean the same. Assumes nothing.
use mathlib.Core.Path.{◌≡◌, refl, sym, ap, ◌∙◌}
use mathlib.Core.List.{List, [], ◌∷◌, ◌++◌, append_assoc}
use Prim.Native.Nat.{ℕ, zero, suc, ◌+◌, ◌-◌, ◌*◌, ◌/◌, ◌%◌, ◌^◌, ◌≤◌, ◌<◌}
use native.Mathlib.Omega.{arith}
use native.Mathlib.Nat.{pow-suc, mul_comm, pow-succ', mul_assoc}
use lib.ListN.{length, take, drop, get_or, length-drop}
use lib.Seq.{length-take-le, take-suc, take-length, drop-drop, sets, sets-eq}
use borrow.Rule.Slice.PartMut.{put_mid}
use Rattle.std.proofs.Math.Nat.{div-div-eq-div-mul}
use Rattle.std.specs.Prelude.{slice_index}
use Rattle.std.specs.Int.{byte_at, byte_worth, bytes_low_first, sum_through}
use Rattle.records.specs.Bytes.{value_of, bytes_of, field}
use Rattle.records.specs.OneNan.{AreBytes}

-- ---- there and back

pub length_bytes : (k n : ℕ) → length (bytes_of k n) ≡ k
unfolding bytes_of
length_bytes zero n = refl
length_bytes (suc k) n = ap suc (length_bytes k (n / 256))

pub value_of_bytes : (k n : ℕ) → n < 256 ^ k → value_of (bytes_of k n) ≡ n
unfolding bytes_of value_of
value_of_bytes zero n h = omega arith
value_of_bytes (suc k) n h =
    let below : n < 256 * 256 ^ k = rw pow-succ' at h in
    let high : value_of (bytes_of k (n / 256)) ≡ n / 256 = value_of_bytes k (n / 256) (omega arith) in
    omega arith

pub value_below : (bytes : List ℕ) → AreBytes bytes → value_of bytes < 256 ^ length bytes
unfolding value_of
value_below [] small = omega arith
value_below (b ∷ bytes) small =
    let high : value_of bytes < 256 ^ length bytes = value_below bytes (λ i. small (suc i)) in
    rw pow-succ' (omega (arith, small 0))

pub bytes_of_value : (bytes : List ℕ) → AreBytes bytes → bytes_of (length bytes) (value_of bytes) ≡ bytes
unfolding bytes_of value_of
bytes_of_value [] small = refl
bytes_of_value (b ∷ bytes) small =
    let low : (b + 256 * value_of bytes) % 256 ≡ b = omega (arith, small 0) in
    let high : (b + 256 * value_of bytes) / 256 ≡ value_of bytes = omega (arith, small 0) in
    rw (low, high, bytes_of_value bytes (λ i. small (suc i)))

-- ---- as the library has them
value_append : (low high : List ℕ) → value_of (low ++ high) ≡ value_of low + 256 ^ length low * value_of high
unfolding value_of
value_append [] high = omega arith
value_append (b ∷ low) high =
    let e : 256 * 256 ^ length low * value_of high ≡ 256 * (256 ^ length low * value_of high) = mul_assoc 256 (256 ^ length low) (value_of high) in
    rw (value_append low high, pow-succ') (omega arith)

low_byte : (i n : ℕ) → byte_at i n ≡ n / 256 ^ i % 256
low_byte zero n = omega arith
low_byte (suc i) n = refl

low_bytes : (i k n : ℕ) → bytes_low_first i k n ≡ bytes_of k (n / 256 ^ i)
unfolding bytes_of
low_bytes i zero n = refl
low_bytes i (suc k) n =
    let next : n / 256 ^ i / 256 ≡ n / 256 ^ suc i = div-div-eq-div-mul n (256 ^ i) 256 ∙ ap (λ (m : ℕ). n / m) (sym (pow-suc 256 i)) in
    rw (low_byte i n, low_bytes (suc i) k n, next)

to_le : (k n : ℕ) → bytes_low_first 0 k n ≡ bytes_of k n
to_le k n = let e : n / 256 ^ 0 ≡ n = omega arith in low_bytes 0 k n ∙ ap (bytes_of k) e

from_le : (k : ℕ) (bytes : List ℕ) → k < length bytes → sum_through (λ (i : ℕ). byte_worth i (slice_index bytes i)) k ≡ value_of (take (suc k) bytes)
unfolding value_of
from_le zero (b ∷ bytes) h = omega arith
from_le zero [] h = absurd (omega arith)
from_le (suc k) bytes h =
    let front : length (take (suc k) bytes) ≡ suc k = length-take-le (suc k) bytes (omega arith) in
    let last : value_of (get_or bytes (suc k) 0 ∷ []) ≡ get_or bytes (suc k) 0 = omega arith in
    rw (take-suc bytes (suc k) 0 h, value_append, front, last, from_le k bytes (omega arith), mul_comm (get_or bytes (suc k) 0))

-- what the library makes of so many bytes, read from a place
pub read_bytes : (k at : ℕ) (bytes : List ℕ) {part : List ℕ} → at + suc k ≤ length bytes → part ≡ field at (suc k) bytes
    → sum_through (λ (i : ℕ). byte_worth i (slice_index part i)) k ≡ value_of (field at (suc k) bytes)
read_bytes k at bytes {part} room is =
    let long : length (field at (suc k) bytes) ≡ suc k = length-take-le (suc k) (drop at bytes) (simp length-drop (omega arith)) in
    let size : length part ≡ suc k = ap length is ∙ long in
    let all : take (suc k) part ≡ part = rw (← size) (take-length part) in
    from_le k part (omega arith) ∙ ap value_of (all ∙ is)

-- what it leaves where the bytes of a number are put
pub put_bytes : (k at n : ℕ) (out : List ℕ) {new : List ℕ} → at + k ≤ length out → new ≡ bytes_low_first 0 k n → put_mid at (at + k - at) out new ≡ sets out at (bytes_of k n)
put_bytes k at n out room is_new =
    let long : length (bytes_of k n) ≡ k = length_bytes k n in
    let size : at + k - at ≡ k = omega arith in
    rw (is_new, to_le k n, sets-eq (bytes_of k n) out at (omega arith), long, size, drop-drop, append_assoc)
