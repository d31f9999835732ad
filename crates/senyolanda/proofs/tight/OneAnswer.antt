-- A contract that is one equation, between the result beside the lent places' last values and what the arguments say, leaves one result and one last value to each place. Where a
-- lent list has an equation of its own, so it does of the list. Assumes nothing.
use mathlib.Core.Path.{◌≡◌, sym, ap, ◌∙◌}
use Prim.Native.Nat.{ℕ}

pub one_result : {C : Type 0} {x y : ℕ} {u v : C} {t : ℕ × C} → ◌≡◌ {A = ℕ × C} (x, u) t → ◌≡◌ {A = ℕ × C} (y, v) t → x ≡ y
one_result {C} p q = ap (λ (t : ℕ × C). t.0) (p ∙ sym q)

pub one_list : {A D : Type 0} {l m n : A} (laid : A → D) → l ≡ n → m ≡ n → laid l ≡ laid m
one_list laid p q = ap laid (p ∙ sym q)

-- ---- the places stand as `laid` says, tt for an argument that is none
module _ {C D : Type 0} {x y : ℕ} {u v : C} {t : ℕ × C} where
  pub one_last : (laid : C → D) → ◌≡◌ {A = ℕ × C} (x, u) t → ◌≡◌ {A = ℕ × C} (y, v) t → laid u ≡ laid v
  one_last laid p q = ap (λ (t : ℕ × C). laid t.1) (p ∙ sym q)

  pub one_last_and_list : {A : Type 0} {l m n : A} (laid : C → A → D) → ◌≡◌ {A = ℕ × C} (x, u) t → ◌≡◌ {A = ℕ × C} (y, v) t → l ≡ n → m ≡ n → laid u l ≡ laid v m
  one_last_and_list {A} {l} {m} laid p q e h = ap (λ (t : ℕ × C). laid t.1 l) (p ∙ sym q) ∙ ap (laid v) (e ∙ sym h)

  pub one_last_and_lists : {A B : Type 0} {l m n : A} {i j k : B} (laid : C → A → B → D) → ◌≡◌ {A = ℕ × C} (x, u) t → ◌≡◌ {A = ℕ × C} (y, v) t → l ≡ n → m ≡ n → i ≡ k → j ≡ k
      → laid u l i ≡ laid v m j
  one_last_and_lists {A} {B} {l} {m} {n} {i} {j} laid p q e h f g =
      ap (λ (t : ℕ × C). laid t.1 l i) (p ∙ sym q) ∙ ap (λ (a : A). laid v a i) (e ∙ sym h) ∙ ap (λ (b : B). laid v m b) (f ∙ sym g)
