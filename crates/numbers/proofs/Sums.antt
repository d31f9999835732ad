-- Sums of columns that agree. Assumes nothing.
use Rattle.std.proofs.Common.{◌≡◌, ℕ, zero, suc, ◌<◌, refl, le_refl, arith}
use lib.Ieee.{Float}
use Rattle.numbers.specs.Sums.{added_up, exact_sum}

pub same_sum : (f g : ℕ → Float) (n : ℕ) → ((i : ℕ) → i < n → f i ≡ g i) → exact_sum f n ≡ exact_sum g n
unfolding exact_sum
same_sum f g zero same = refl
same_sum f g (suc n) same = rw (same_sum f g n (λ i h. same i (omega arith)), same n (le_refl (suc n)))

pub same_added : (f g : ℕ → Float) (n : ℕ) → ((i : ℕ) → i < n → f i ≡ g i) → added_up f n ≡ added_up g n
unfolding added_up
same_added f g zero same = refl
same_added f g (suc n) same = rw (same_added f g n (λ i h. same i (omega arith)), same n (le_refl (suc n)))
