-- A list that f has gone over up to place a, and then over its part from there to place b at once. Assumes nothing.
use Rattle.std.proofs.Common.{◌≡◌, sym, ap, ◌∙◌, ℕ, ◌+◌, ◌-◌, ◌≤◌, ◌<◌, arith, List, ◌++◌, length, get_or, set, map, take, drop, append_assoc, length-take-le}
use borrow.Rule.Slice.PartMut.{put_mid}
use Rattle.std.proofs.lemmas.List.{map-append, length-map, take_at, drop_at, drop-drop}
use Rattle.std.proofs.lemmas.List.Edits.{map_over_more}
use Rattle.std.proofs.lemmas.Grind.{common_steps}
use Rattle.std.proofs.Math.Seq.{take-add}

part_more : {X : Type 0} (f : X → X) (xs ys done : List X) (a n : ℕ) → a + n ≤ length xs → ys ≡ map f (take a xs) ++ drop a xs → done ≡ map f (take n (drop a ys))
    → put_mid a n ys done ≡ map f (take (a + n) xs) ++ drop (a + n) xs
part_more {X} f xs ys done a n h e d =
    let front : length (map f (take a xs)) ≡ a = length-map (take a xs) f ∙ length-take-le a xs (omega arith) in
    let first : take a ys ≡ map f (take a xs) = ap (take a) e ∙ take_at (map f (take a xs)) (drop a xs) a front in
    let behind : drop a ys ≡ drop a xs = ap (drop a) e ∙ drop_at (map f (take a xs)) (drop a xs) a front in
    let part : done ≡ map f (take n (drop a xs)) = d ∙ ap (λ (zs : List X). map f (take n zs)) behind in
    let rest : drop n (drop a ys) ≡ drop (a + n) xs = ap (drop n) behind ∙ drop-drop n a xs in
    let joined : map f (take (a + n) xs) ≡ map f (take a xs) ++ map f (take n (drop a xs)) = ap (map f) (take-add a n xs) ∙ map-append f (take a xs) (take n (drop a xs)) in
    rw (first, part, rest, joined) (sym (append_assoc (map f (take a xs)) (map f (take n (drop a xs))) (drop (a + n) xs)))

pub map_over_part : {X : Type 0} (f : X → X) (xs ys done : List X) (a b e : ℕ) → a ≤ b → b ≡ e → e ≤ length xs → ys ≡ map f (take a xs) ++ drop a xs → done ≡ map f (take (b - a) (drop a ys))
    → put_mid a (b - a) ys done ≡ map f (take e xs) ++ drop e xs
map_over_part {X} f xs ys done a b e low is high before part =
    let whole : a + (b - a) ≡ e = omega arith in
    part_more f xs ys done a (b - a) (omega arith) before part ∙ ap (λ (k : ℕ). map f (take k xs) ++ drop k xs) whole

-- what stands at the next place
as_it_was : {X : Type 0} (f : X → X) (xs ys : List X) (i : ℕ) (d : X) → i < length xs → ys ≡ map f (take i xs) ++ drop i xs → get_or xs i d ≡ get_or ys i (get_or xs i d)
as_it_was f xs ys i d h e = grind (arith, common_steps)

-- one place more, whatever the loop has worked out there
pub map_over_at : {X : Type 0} (f : X → X) (xs ys : List X) (i : ℕ) (v d : X) → i < length xs → ys ≡ map f (take i xs) ++ drop i xs → v ≡ f (get_or xs i d) → set ys i v ≡ map f (take (i + 1) xs) ++ drop (i + 1) xs
map_over_at f xs ys i v d h e is = rw is (map_over_more f xs ys i (get_or xs i d) h e (as_it_was f xs ys i d h e))
