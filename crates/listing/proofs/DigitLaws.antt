-- Laws of digits: so many digits have that length, and the loop that puts the last one first has put, at each turn, the digits behind those that are left. Assumes nothing.
use mathlib.Core.Path.{◌≡◌, refl, sym, ap, ◌∙◌}
use mathlib.Core.Bool.{Bool, true, false}
use mathlib.Core.List.{List, [], ◌∷◌, ◌++◌, append_assoc, append-nil}
use Prim.Native.Nat.{ℕ, zero, suc, ◌+◌, ◌-◌, ◌/◌, ◌%◌, ◌^◌, ◌<◌, ◌≤◌}
use native.Mathlib.Nat.{add-zero, add-suc, pow-suc, mod-eq_of_lt, div-lt_iff_lt-mul}
use native.Mathlib.Numerals.{add-one}
use native.Mathlib.Omega.{arith}
use lib.Dec.{ltb, lit<}
use lib.ListN.{length, set, drop, length-append}
use lib.Seq.{sets, drop_at, drop-length}
use lib.Ieee.{Float, binary64, to_bits}
use borrow.Author.Tests.{lt-ltb, le-ltb, ltb-true, ltb-false}
use Rattle.listing.specs.Digits.{digit, hex_digits, decimal_digits, decimal}
use Rattle.listing.specs.Listing.{spaced}
use Rattle.listing.specs.inner.Putting.{Put, digits_in}
use Rattle.listing.proofs.Putting.{put_in_front}

pub length_digits : (base k n : ℕ) → length (digits_in base k n) ≡ k
unfolding digits_in
length_digits base zero n = refl
length_digits base (suc k) n = length-append (digits_in base k (n / base)) _ ∙ rw (length_digits base k (n / base)) (omega arith)

-- ---- the loop: so many digits are left of a rest, and those behind them are put
pub record Left (base count n at : ℕ) (o : List ℕ) (left rest : ℕ) (out : List ℕ) : Type 0 where
  pub within : left ≤ count
  pub text : digits_in base count n ≡ digits_in base left rest ++ drop left (digits_in base count n)
  pub bytes : out ≡ sets o (at + left) (drop left (digits_in base count n))

module _ (base count n at : ℕ) (o : List ℕ) where
  pub all_left : Left base count n at o count n o
  all_left =
      let e : drop count (digits_in base count n) ≡ [] = ap (λ (k : ℕ). drop k (digits_in base count n)) (sym (length_digits base count n)) ∙ drop-length (digits_in base count n) in
      record { within = omega arith; text = rw e (sym (append-nil (digits_in base count n))); bytes = rw e }

  one_fewer : (j rest : ℕ) (out : List ℕ) → Left base count n at o (suc j) rest out → Left base count n at o j (rest / base) (set out (at + j) (digit (rest % base)))
  unfolding digits_in
  one_fewer j rest out l =
      let t : digits_in base count n ≡ digits_in base j (rest / base) ++ digit (rest % base) ∷ drop (suc j) (digits_in base count n) = l.text ∙ append_assoc (digits_in base j (rest / base)) _ _ in
      let e : drop j (digits_in base count n) ≡ digit (rest % base) ∷ drop (suc j) (digits_in base count n) = ap (drop j) t ∙ drop_at (digits_in base j (rest / base)) _ j (length_digits base j (rest / base)) in
      record { within = omega (arith, l.within); text = rw e t; bytes = rw e (rw (l.bytes, add-suc, ← add-one (at + j)) (put_in_front o (at + j) (digit (rest % base)) (drop (suc j) (digits_in base count n)))) }

  pub turn : (left rest x : ℕ) (out : List ℕ) → 0 < left → x ≡ digit (rest % base) → Left base count n at o left rest out
      → Left base count n at o (left - 1) (rest / base) (set out (at + (left - 1)) x)
  turn zero rest x out h d l = absurd (omega arith)
  turn (suc j) rest x out h d l = let e : suc j - 1 ≡ j = omega arith in rw (e, d) (one_fewer j rest out l)

  pub none_left : (left rest : ℕ) (out : List ℕ) → left ≤ 0 → Left base count n at o left rest out → Put (digits_in base count n) at o (at + count) out
  none_left zero rest out h l = record { place = ap (λ (k : ℕ). at + k) (sym (length_digits base count n)); bytes = l.bytes ∙ rw add-zero }
  none_left (suc j) rest out h l = absurd (omega arith)

-- ---- the definitions' digits are such digits

pub hex_is : (k n : ℕ) → hex_digits k n ≡ digits_in 16 k n
unfolding hex_digits digits_in
hex_is zero n = refl
hex_is (suc k) n = rw (hex_is k (n / 16))

by_test : {P : Type 0} (a b : ℕ) → (a < b → P) → (b ≤ a → P) → P
by_test {P} a b below above = go (ltb a b) (ltb-true a b) (ltb-false a b)
  where
    go : (t : Bool) → (t ≡ true → a < b) → (t ≡ false → b ≤ a) → P
    go true y n = below (y refl)
    go false y n = above (n refl)

-- one step of the decimal digits, by the test
pub small_decimal : (k n : ℕ) → n < 10 → decimal_digits (suc k) n ≡ digit n ∷ []
unfolding decimal_digits
small_decimal k n h = rw (lt-ltb n 10 h)

pub large_decimal : (k n : ℕ) → 10 ≤ n → decimal_digits (suc k) n ≡ decimal_digits k (n / 10) ++ digit (n % 10) ∷ []
unfolding decimal_digits
large_decimal k n h = rw (le-ltb n 10 h)

one_digit : (k n : ℕ) → n < 10 → length (decimal_digits k n) ≡ 1
unfolding decimal_digits
one_digit zero n h = refl
one_digit (suc k) n h = ap length (small_decimal k n h)

pub few_digits : (k n : ℕ) → length (decimal_digits k n) ≤ k + 1
unfolding decimal_digits
few_digits zero n = omega arith
few_digits (suc k) n =
    by_test n 10 (λ s. rw (small_decimal k n s) (omega arith)) (λ l.
    let e : length (decimal_digits k (n / 10)) ≤ k + 1 = few_digits k (n / 10) in
    rw (large_decimal k n l, length-append) (omega arith))

-- a number of at most k + 1 decimal digits
pub decimal_is : (k n : ℕ) → n < 10 ^ suc k → decimal_digits k n ≡ digits_in 10 (length (decimal_digits k n)) n
unfolding decimal_digits digits_in
decimal_is zero n h = rw (mod-eq_of_lt h)
decimal_is (suc k) n h =
    by_test n 10 (λ s. rw (small_decimal k n s, mod-eq_of_lt s)) (λ l.
    let q : n / 10 < 10 ^ suc k = (div-lt_iff_lt-mul (lit< tt)).1 (rw (pow-suc 10 (suc k)) at h) in
    let e : length (decimal_digits k (n / 10) ++ digit (n % 10) ∷ []) ≡ suc (length (decimal_digits k (n / 10))) = length-append (decimal_digits k (n / 10)) _ ∙ omega arith in
    rw (large_decimal k n l, e) (ap (λ (d : List ℕ). d ++ digit (n % 10) ∷ []) (decimal_is k (n / 10) q)))

-- ---- the texts that the program puts

pub decimal_text : (n size : ℕ) → n < 2 ^ 32 → size ≡ length (decimal n) → digits_in 10 size n ≡ decimal n
unfolding decimal
decimal_text n size h e = rw e (sym (decimal_is 9 n (omega arith)))

pub length_decimal : (n : ℕ) → length (decimal n) ≤ 10
unfolding decimal
length_decimal n = few_digits 9 n

pub spaced_text : (x : Float) (n : ℕ) → n ≡ to_bits binary64 x → 32 ∷ digits_in 16 16 n ≡ spaced x
unfolding spaced
spaced_text x n e = rw (e, hex_is 16 (to_bits binary64 x))

pub length_spaced : (x : Float) → length (spaced x) ≡ 17
unfolding spaced
length_spaced x = rw (hex_is 16 (to_bits binary64 x)) (ap suc (length_digits 16 16 (to_bits binary64 x)))

-- ---- the loop that counts them: `size` are counted, and at most `left` more are left of a rest
pub record Counted (n rest size : ℕ) : Type 0 where
  pub left : ℕ
  pub ten : size + left ≡ 10
  pub small : rest < 10 ^ suc left
  pub digits : size + length (decimal_digits left rest) ≡ length (decimal n) + 1

pub none_counted : (n : ℕ) → n < 2 ^ 32 → Counted n n 1
unfolding decimal
none_counted n h = record { left = 9; ten = refl; small = omega arith; digits = omega arith }

pub one_counted : (n rest size : ℕ) → 10 ≤ rest → Counted n rest size → Counted n (rest / 10) (size + 1)
one_counted n rest size h c = go c.left c.ten c.small c.digits
  where
    go : (left : ℕ) → size + left ≡ 10 → rest < 10 ^ suc left → size + length (decimal_digits left rest) ≡ length (decimal n) + 1 → Counted n (rest / 10) (size + 1)
    go zero t s d = absurd (omega arith)
    go (suc k) t s d = record {
      left = k;
      ten = omega arith;
      small = (div-lt_iff_lt-mul (lit< tt)).1 (rw (pow-suc 10 (suc k)) at s);
      digits = omega (arith, ap length (large_decimal k rest h) ∙ length-append (decimal_digits k (rest / 10)) (digit (rest % 10) ∷ []));
    }

pub all_counted : (n rest size : ℕ) → rest < 10 → Counted n rest size → size ≡ length (decimal n)
all_counted n rest size h c = omega (arith, c.digits, one_digit c.left rest h)
