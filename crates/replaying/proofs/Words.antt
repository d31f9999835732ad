-- A word among the words of a list: its eight bytes, and their value. Assumes nothing.
use Rattle.std.proofs.Common.{◌≡◌, ℕ, zero, suc, ◌+◌, ◌*◌, ◌/◌, ◌<◌, ◌≤◌, List, [], ◌∷◌, length, get_or, take, drop, refl, ap, ◌∙◌, arith, length-drop, lt-ltb, le-ltb}
use Rattle.std.specs.Int.{w64, from_le_bytes}
use Rattle.std.specs.Simd.{first_chunks}
use Rattle.std.proofs.lemmas.List.{length-take-le}
use Rattle.std.proofs.Math.Seq.{drop-drop}
use Rattle.records.specs.Bytes.{value_of, field}
use Rattle.replaying.specs.Words.{word_at}

chunk_at : (n k : ℕ) (xs : List ℕ) (d : List ℕ) → k < n → get_or (first_chunks 8 n xs) k d ≡ field (k * 8) 8 xs
chunk_at zero k xs d h = absurd (omega arith)
chunk_at (suc n) zero xs d h = refl
chunk_at (suc n) (suc k) xs d h =
    let next : 8 + k * 8 ≡ suc k * 8 = omega arith in
    chunk_at n k (drop 8 xs) d (omega arith) ∙ ap (take 8) (rw (drop-drop, next))

value_is : (word : List ℕ) → length word ≡ 8 → from_le_bytes w64 word ≡ value_of word
unfolding value_of
value_is (a ∷ b ∷ c ∷ d ∷ e ∷ f ∷ g ∷ h ∷ []) is = omega arith
value_is word is = absurd (omega arith)

-- what the words give at k, and that its value is word k
pub word_is : (list : List ℕ) (words : List (List ℕ)) (k : ℕ) {v : ℕ} (word d : List ℕ) → words ≡ first_chunks 8 (length list / 8) list → k < length list / 8
    → word ≡ get_or words k d → v ≡ from_le_bytes w64 word → v ≡ word_at k list
unfolding word_at
word_is list words k word d parts inside at is =
    let here : word ≡ field (k * 8) 8 list = at ∙ ap (λ (ws : List (List ℕ)). get_or ws k d) parts ∙ chunk_at (length list / 8) k list d inside in
    let eight : length word ≡ 8 = rw here (length-take-le 8 (drop (k * 8) list) (rw length-drop (omega arith))) in
    rw (lt-ltb _ _ inside) (is ∙ value_is word eight ∙ ap value_of here)

pub past_end : (list : List ℕ) (k : ℕ) → length list / 8 ≤ k → 0 ≡ word_at k list
unfolding word_at
past_end list k past = rw (le-ltb _ _ past)
