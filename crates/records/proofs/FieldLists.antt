-- The fields of a record, whatever their list: written and read again they give what they held; read and written again they give the bytes, with the one NaN for any NaN;
-- and put one after the other into an array of their length they leave their bytes there. Assumes nothing.
use mathlib.Core.Path.{◌≡◌, refl, sym, ap, ◌∙◌, subst}
use mathlib.Core.Bool.{Bool, true, false, cond, not}
use mathlib.Core.List.{List, [], ◌∷◌, ◌++◌, append_assoc, append-nil}
use Prim.Native.Nat.{ℕ, zero, suc, ◌+◌, ◌^◌, ◌<◌, ◌≤◌}
use native.Mathlib.Nat.{zero-add, add-zero}
use native.Mathlib.Omega.{arith}
use borrow.Author.Tests.{le-ltb}
use lib.Dec.{T}
use lib.ListN.{length, take, drop, get_or, set, length-append, length-drop, take-append-drop}
use lib.Seq.{take_at, drop_at, drop-drop, drop-length, length-take-le, get_or-drop, get_or-take, sets, sets-eq}
use lib.Ieee.{binary64, fits, is_nan, of_bits, to_bits}
use lib.Ieee.Bits.{of_bits-to_bits, to_bits-lt, to_bits-of_bits}
use Rattle.numbers.proofs.Nans.{is_nan_lem, pattern_of_nan}
use Rattle.refusals.specs.Table.{bad_code}
use Rattle.steps.proofs.Rooms.{sets_append}
use Rattle.records.specs.Bytes.{value_of, bytes_of, field, pair_at, whole_at, float_at, pair_bytes, whole_bytes, float_bytes}
use Rattle.records.specs.Fields.{Field, code, byte, pair, whole, float, size_of, size_of_all, Held, HeldByAll, bytes_in, bytes_in_all, held_at, held_from, any_bad_code}
use Rattle.records.specs.OneNan.{AreBytes, one_nan_in, one_nan}
use Rattle.records.proofs.Bytes.{length_bytes, value_of_bytes, value_below, bytes_of_value}

-- what is said of a field's value, said of all
abbrev pub Every : ((f : Field) → Held f → Type 0) → (fs : List Field) → HeldByAll fs → Type 0
Every P [] held = Unit
Every P (f ∷ fs) held = P f held.0 × Every P fs held.1

-- the value is one that the field can hold
abbrev pub Fits : (f : Field) → Held f → Type 0
Fits (code highest) n = n ≤ highest
Fits byte n = n < 2 ^ 8
Fits pair n = n < 2 ^ 16
Fits whole n = n < 2 ^ 32
Fits float x = T (fits binary64 x)

-- it is no NaN
abbrev pub NoNan : (f : Field) → Held f → Type 0
NoNan (code highest) n = Unit
NoNan byte n = Unit
NoNan pair n = Unit
NoNan whole n = Unit
NoNan float x = is_nan x ≡ false

-- what the bytes of a field alone hold
unfoldable held_in : (f : Field) → List ℕ → Held f
held_in (code highest) bytes = get_or bytes 0 0
held_in byte bytes = get_or bytes 0 0
held_in pair bytes = value_of bytes
held_in whole bytes = value_of bytes
held_in float bytes = of_bits binary64 (value_of bytes)

-- ---- one field

length_field : (f : Field) (v : Held f) → length (bytes_in f v) ≡ size_of f
unfolding pair_bytes whole_bytes float_bytes
length_field (code highest) n = refl
length_field byte n = refl
length_field pair n = length_bytes 2 n
length_field whole n = length_bytes 4 n
length_field float x = length_bytes 8 (to_bits binary64 x)

byte_at : (at : ℕ) (bytes : List ℕ) → get_or bytes at 0 ≡ get_or (field at 1 bytes) 0 0
byte_at at bytes = rw (get_or-take 1 (drop at bytes) 0 0 (omega arith), get_or-drop at bytes 0 0, add-zero at)

held_at_lem : (f : Field) (at : ℕ) (bytes : List ℕ) → held_at f at bytes ≡ held_in f (field at (size_of f) bytes)
unfolding held_in pair_at whole_at float_at
held_at_lem (code highest) at bytes = byte_at at bytes
held_at_lem byte at bytes = byte_at at bytes
held_at_lem pair at bytes = refl
held_at_lem whole at bytes = refl
held_at_lem float at bytes = refl

value_again : (f : Field) (v : Held f) → Fits f v → held_in f (bytes_in f v) ≡ v
unfolding held_in pair_bytes whole_bytes float_bytes
value_again (code highest) n h = refl
value_again byte n h = refl
value_again pair n h = value_of_bytes 2 n h
value_again whole n h = value_of_bytes 4 n h
value_again float x h = ap (of_bits binary64) (value_of_bytes 8 (to_bits binary64 x) (to_bits-lt binary64 x h)) ∙ of_bits-to_bits binary64 x h

one_byte : (bytes : List ℕ) → length bytes ≡ 1 → get_or bytes 0 0 ∷ [] ≡ bytes
one_byte [] h = absurd (omega arith)
one_byte (b ∷ []) h = refl
one_byte (b ∷ c ∷ bytes) h = absurd (omega arith)

-- a float's bytes, read and written again, are the same, or the one NaN's
float_again : (bytes : List ℕ) → AreBytes bytes → length bytes ≡ 8
    → bytes_of 8 (to_bits binary64 (of_bits binary64 (value_of bytes))) ≡ one_nan_in float bytes
unfolding one_nan_in
float_again bytes small l = go (is_nan (of_bits binary64 (value_of bytes))) refl
  where
    same : bytes_of 8 (value_of bytes) ≡ bytes
    same = rw l at (bytes_of_value bytes small)

    below : value_of bytes < 256 ^ 8
    below = rw l at (value_below bytes small)

    go : (t : Bool) → is_nan (of_bits binary64 (value_of bytes)) ≡ t
        → bytes_of 8 (to_bits binary64 (of_bits binary64 (value_of bytes))) ≡ cond t (bytes_of 8 0x7ff8_0000_0000_0000) bytes
    go true e = ap (bytes_of 8) (ap (to_bits binary64) (is_nan_lem (of_bits binary64 (value_of bytes)) e) ∙ pattern_of_nan)
    go false e =
        ap (bytes_of 8) (to_bits-of_bits binary64 (value_of bytes) below (subst (λ (b : Bool). T (not b)) (sym e) tt)) ∙ same

field_again : (f : Field) (bytes : List ℕ) → AreBytes bytes → length bytes ≡ size_of f → bytes_in f (held_in f bytes) ≡ one_nan_in f bytes
unfolding held_in one_nan_in pair_bytes whole_bytes float_bytes
field_again (code highest) bytes small l = one_byte bytes l
field_again byte bytes small l = one_byte bytes l
field_again pair bytes small l = rw l at (bytes_of_value bytes small)
field_again whole bytes small l = rw l at (bytes_of_value bytes small)
field_again float bytes small l = float_again bytes small l

field_stays : (f : Field) (bytes : List ℕ) → NoNan f (held_in f bytes) → one_nan_in f bytes ≡ bytes
unfolding held_in one_nan_in
field_stays (code highest) bytes h = refl
field_stays byte bytes h = refl
field_stays pair bytes h = refl
field_stays whole bytes h = refl
field_stays float bytes h = rw h

-- ---- all fields

pub length_fields : (fs : List Field) (held : HeldByAll fs) → length (bytes_in_all fs held) ≡ size_of_all fs
length_fields [] held = refl
length_fields (f ∷ fs) held = rw (length-append, length_field f held.0, length_fields fs held.1)

-- reading what was written, behind other bytes, gives the values
pub values_again : (before : List ℕ) (fs : List Field) (held : HeldByAll fs) → Every Fits fs held → held_from fs (length before) (before ++ bytes_in_all fs held) ≡ held
values_again before [] held h = refl
values_again before (f ∷ fs) held h =
    let mine = bytes_in f held.0 in
    let rest = bytes_in_all fs held.1 in
    let here : field (length before) (size_of f) (before ++ (mine ++ rest)) ≡ mine
    = ap (take (size_of f)) (drop_at before (mine ++ rest) _ refl) ∙ take_at mine rest _ (length_field f held.0) in
    let long : length before + size_of f ≡ length (before ++ mine) = sym (length-append before mine ∙ ap (λ (n : ℕ). length before + n) (length_field f held.0)) in
    let split : before ++ (mine ++ rest) ≡ (before ++ mine) ++ rest = sym (append_assoc before mine rest) in
    let first : held_at f (length before) (before ++ (mine ++ rest)) ≡ held.0 = held_at_lem f (length before) (before ++ (mine ++ rest)) ∙ ap (held_in f) here ∙ value_again f held.0 h.0 in
    let others : held_from fs (length before + size_of f) (before ++ (mine ++ rest)) ≡ held.1 = rw (long, split) (values_again (before ++ mine) fs held.1 h.1) in
    rw (first, others)

front_are_bytes : (n : ℕ) (bytes : List ℕ) → AreBytes bytes → AreBytes (take n bytes)
front_are_bytes zero bytes small i = omega arith
front_are_bytes (suc n) [] small i = omega arith
front_are_bytes (suc n) (b ∷ bytes) small zero = small 0
front_are_bytes (suc n) (b ∷ bytes) small (suc i) = front_are_bytes n bytes (λ j. small (suc j)) i

-- writing what was read from a place on gives the bytes from there, with the one NaN for any NaN
pub bytes_again : (fs : List Field) (at : ℕ) (bytes : List ℕ) → AreBytes bytes → length bytes ≡ at + size_of_all fs
    → bytes_in_all fs (held_from fs at bytes) ≡ one_nan fs (drop at bytes)
unfolding one_nan
bytes_again [] at bytes small l = let e : at ≡ length bytes = omega arith in rw e (sym (drop-length bytes))
bytes_again (f ∷ fs) at bytes small l =
    let here : length (field at (size_of f) bytes) ≡ size_of f = length-take-le (size_of f) (drop at bytes) (simp length-drop (omega arith)) in
    let next : drop (size_of f) (drop at bytes) ≡ drop (at + size_of f) bytes = drop-drop (size_of f) at bytes in
    let are : AreBytes (drop at bytes) = λ i. rw get_or-drop (small (at + i)) in
    rw (
      held_at_lem f at bytes,
      field_again f (field at (size_of f) bytes) (front_are_bytes (size_of f) (drop at bytes) are) here,
      bytes_again fs (at + size_of f) bytes small (omega arith),
      next,
    )

-- where no float field holds a NaN, that is the bytes themselves
pub bytes_stay : (fs : List Field) (at : ℕ) (bytes : List ℕ) → Every NoNan fs (held_from fs at bytes) → one_nan fs (drop at bytes) ≡ drop at bytes
unfolding one_nan
bytes_stay [] at bytes h = refl
bytes_stay (f ∷ fs) at bytes h =
    let next : drop (size_of f) (drop at bytes) ≡ drop (at + size_of f) bytes = drop-drop (size_of f) at bytes in
    let rest : one_nan fs (drop (size_of f) (drop at bytes)) ≡ drop (size_of f) (drop at bytes) = rw next (bytes_stay fs (at + size_of f) bytes h.1) in
    rw (field_stays f (field at (size_of f) bytes) (subst (NoNan f) (held_at_lem f at bytes) h.0), rest) (take-append-drop (size_of f) (drop at bytes))

-- values that fit have no code outside its set
pub codes_good : (fs : List Field) (held : HeldByAll fs) → Every Fits fs held → any_bad_code fs held ≡ false
unfolding bad_code
codes_good [] held h = refl
codes_good (code highest ∷ fs) held h = rw (le-ltb highest held.0 h.0, codes_good fs held.1 h.1)
codes_good (byte ∷ fs) held h = codes_good fs held.1 h.1
codes_good (pair ∷ fs) held h = codes_good fs held.1 h.1
codes_good (whole ∷ fs) held h = codes_good fs held.1 h.1
codes_good (float ∷ fs) held h = codes_good fs held.1 h.1

-- ---- fields put one after the other

abbrev pub puts : List ℕ → ℕ → (fs : List Field) → HeldByAll fs → List ℕ
puts out at [] held = out
puts out at (f ∷ fs) held = puts (sets out at (bytes_in f held.0)) (at + size_of f) fs held.1

pub puts_is : (out : List ℕ) (at : ℕ) (fs : List Field) (held : HeldByAll fs) → puts out at fs held ≡ sets out at (bytes_in_all fs held)
puts_is out at [] held = refl
puts_is out at (f ∷ fs) held =
    puts_is (sets out at (bytes_in f held.0)) (at + size_of f) fs held.1
    ∙ rw (← sets_append (bytes_in f held.0) (bytes_in_all fs held.1) out at, length_field f held.0)

sets_whole : (out all : List ℕ) → length all ≡ length out → sets out 0 all ≡ all
sets_whole out all room = sets-eq all out 0 (omega arith) ∙ rw (zero-add, room, drop-length) (append-nil all)

-- behind a record's byte of kind, they fill an array of its length
pub filled : (out : List ℕ) (kind : ℕ) (fs : List Field) (held : HeldByAll fs) → length out ≡ suc (size_of_all fs) → sets (set out 0 kind) 1 (bytes_in_all fs held) ≡ kind ∷ bytes_in_all fs held
filled out kind fs held l = sets_whole out (kind ∷ bytes_in_all fs held) (ap suc (length_fields fs held) ∙ sym l)
