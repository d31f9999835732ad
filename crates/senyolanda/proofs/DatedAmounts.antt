-- A lent list time, amount, time, amount and so on. Of an even count the flows looked at lie in two rooms, and what is answered over those is the answer at the list's times and amounts.
-- In an odd count the times and the amounts differ in length, so that line 4 refuses them. Assumes nothing.
use mathlib.Core.Path.{◌≡◌, refl, sym, ap, ◌∙◌}
use mathlib.Core.Bool.{Bool, true, false}
use mathlib.Core.List.{List, [], ◌∷◌}
use Prim.Native.Nat.{ℕ, zero, suc, ◌+◌, ◌*◌, ◌/◌, ◌%◌, ◌<◌, ◌≤◌, min}
use native.Mathlib.Omega.{arith}
use lib.Dec.{ltb}
use lib.ListN.{length, take, drop, get_or, length-drop}
use lib.Seq.{length-take-le, take_all, get_or-take, get_or-drop, ext_get_or}
use lib.Ieee.{Float, nan}
use borrow.Author.Tests.{ltb-true, ltb-false, eqb-true, eqb-false}
use Rattle.std.proofs.Common.{Bor, ◌==◌}
use Rattle.std.specs.declared.result.Result.{Result}
use Rattle.std.specs.declared.result.Result.TheVariants.{Ok, Err}
use Rattle.std.specs.Result.{IsErrAnd}
use Rattle.refusals.specs.declared.Refusal.{Refusal}
use Rattle.refusals.specs.Outcome.{Outcome, refused, judged}
use Rattle.refusals.proofs.Verdicts.{refused_alike}
use Rattle.spread_analytics.specs.Spread.{spread_lines}
use Rattle.spread_analytics.proofs.SpreadVerdict.{refused_4}
use Rattle.spread_analytics.proofs.TooMany.{too_many}
use Rattle.senyolanda.specs.Dated.{times_in, amounts_in}
use Rattle.refusals.specs.Answers.{number}

-- ---- the times and the amounts, by their index
abbrev pub time_at : List Float → ℕ → Float
time_at xs i = get_or xs (2 * i) nan

abbrev pub amount_at : List Float → ℕ → Float
amount_at xs i = get_or xs (2 * i + 1) nan

-- the amounts are the times of the list without its first number
from_the_second : (xs : List Float) → amounts_in xs ≡ times_in (drop 1 xs)
unfolding times_in amounts_in
from_the_second [] = refl
from_the_second (t ∷ []) = refl
from_the_second (t ∷ a ∷ []) = refl
from_the_second (t ∷ a ∷ u ∷ rest) = ap (λ (l : List Float). a ∷ l) (from_the_second (u ∷ rest))

times_length : (xs : List Float) → length (times_in xs) ≡ (length xs + 1) / 2
unfolding times_in
times_length [] = refl
times_length (t ∷ []) = refl
times_length (t ∷ a ∷ rest) = omega (arith, times_length rest)

amounts_length : (xs : List Float) → length (amounts_in xs) ≡ length xs / 2
amounts_length xs = rw from_the_second (times_length (drop 1 xs) ∙ simp length-drop (omega arith))

time_at_lem : (xs : List Float) (i : ℕ) → get_or (times_in xs) i nan ≡ time_at xs i
unfolding times_in
time_at_lem [] i = refl
time_at_lem (t ∷ []) zero = refl
time_at_lem (t ∷ []) (suc i) = let two_on : 2 * suc i ≡ suc (suc (2 * i)) = omega arith in rw two_on
time_at_lem (t ∷ a ∷ rest) zero = refl
time_at_lem (t ∷ a ∷ rest) (suc i) = let two_on : 2 * suc i ≡ suc (suc (2 * i)) = omega arith in rw two_on (time_at_lem rest i)

amount_at_lem : (xs : List Float) (i : ℕ) → get_or (amounts_in xs) i nan ≡ amount_at xs i
amount_at_lem xs i =
    let one_on : 1 + 2 * i ≡ 2 * i + 1 = omega arith in
    rw (from_the_second, time_at_lem, get_or-drop, one_on)

-- ---- two rooms of 1,201 places, as many of them filled as are looked at
begins_with : (column room : List Float) (f : ℕ → Float) (n : ℕ) → n ≤ length column → ((i : ℕ) → get_or column i nan ≡ f i) → n ≤ length room → ((i : ℕ) → i < n → get_or room i nan ≡ f i)
    → take n room ≡ take n column
begins_with column room f n all at few filled =
    let first : length (take n room) ≡ n = length-take-le n room few in
    ext_get_or nan (take n room) (take n column) (first ∙ sym (length-take-le n column all))
    (λ i h. let below : i < n = omega arith in get_or-take n room i nan below ∙ filled i below ∙ sym (get_or-take n column i nan below ∙ at i))

module _ (xs room : List Float) (n : ℕ) (looked_at : n ≡ min (length xs / 2) 1201) (size : length room ≡ 1201) where
  pub with_times : ((i : ℕ) → i < n → get_or room i nan ≡ time_at xs i) → take n room ≡ take n (times_in xs)
  with_times = begins_with (times_in xs) room (time_at xs) n (omega (arith, times_length xs)) (time_at_lem xs) (omega arith)

  pub with_amounts : ((i : ℕ) → i < n → get_or room i nan ≡ amount_at xs i) → take n room ≡ take n (amounts_in xs)
  with_amounts = begins_with (amounts_in xs) room (amount_at xs) n (omega (arith, amounts_length xs)) (amount_at_lem xs) (omega arith)

-- ---- what is asked of the flows that are looked at is answered as at the list's times and amounts
module _ {Value : Type 0} (value : List Float → List Float → Value) (bad : Bool) (xs tenors rates : List Float) where
  abbrev answer : List Float → List Float → Outcome Value
  answer times amounts = judged (spread_lines times amounts tenors rates bad) (value times amounts)

  odd : ¬ (length xs % 2 ≡ 0) → refused 4 0 ≡ answer (times_in xs) (amounts_in xs)
  odd h =
      let differ : ¬ (length (times_in xs) ≡ length (amounts_in xs)) = λ same. omega (arith, times_length xs, amounts_length xs) in
      refused_alike _ (value (times_in xs) (amounts_in xs)) 4 0 (refused_4 (times_in xs) (amounts_in xs) tenors rates bad differ)

  -- where there are too many, those looked at are too many
  looked_at_alike : (n : ℕ) → length xs % 2 ≡ 0 → n ≡ min (length xs / 2) 1201 → answer (take n (times_in xs)) (take n (amounts_in xs)) ≡ answer (times_in xs) (amounts_in xs)
  looked_at_alike n even e = go (ltb 1201 (length xs / 2)) (ltb-true 1201 (length xs / 2)) (ltb-false 1201 (length xs / 2))
    where
      go : (many : Bool) → (many ≡ true → 1201 < length xs / 2) → (many ≡ false → length xs / 2 ≤ 1201) → answer (take n (times_in xs)) (take n (amounts_in xs)) ≡ answer (times_in xs) (amounts_in xs)
      go true h h' =
          let many : 1201 < length xs / 2 = h refl in
          let t : length (take n (times_in xs)) ≡ n = length-take-le n (times_in xs) (omega (arith, times_length xs)) in
          let a : length (take n (amounts_in xs)) ≡ n = length-take-le n (amounts_in xs) (omega (arith, amounts_length xs)) in
          too_many (take n (times_in xs)) (take n (amounts_in xs)) tenors rates bad _ (t ∙ sym a) (omega arith)
          ∙ sym (too_many (times_in xs) (amounts_in xs) tenors rates bad _ (omega (arith, times_length xs, amounts_length xs)) (omega (arith, times_length xs)))
      go false h h' =
          let few : length xs / 2 ≤ 1201 = h' refl in
          rw (take_all n (times_in xs) (omega (arith, times_length xs)), take_all n (amounts_in xs) (omega (arith, amounts_length xs)))

  -- what was given, as it is read
  module _ {T : Type 0} (read : Result T Refusal → Outcome Value) (hands_on : (r : Refusal) → read (Err r) ≡ refused (number r.cause) r.place) (given : Result T Refusal) where
    refused_odd : ¬ (length xs % 2 ≡ 0) → (r : Result T Refusal) → IsErrAnd r (λ (s : Refusal). (number s.cause ≡ 4) × (s.place ≡ 0)) → read r ≡ answer (times_in xs) (amounts_in xs)
    refused_odd h (Ok v) e = absurd e
    refused_odd h (Err s) e = rw (hands_on s, e.0, e.1) (odd h)

    pub over_flows : {Asked : Bor (List Float) → Bor (List Float) → Type 0} → (¬ (length xs % 2 ≡ 0) → IsErrAnd given (λ (s : Refusal). (number s.cause ≡ 4) × (s.place ≡ 0)))
        → (length xs % 2 ≡ 0
        → (times : Bor (List Float)) × (amounts : Bor (List Float)) × (times.now ≡ take (min (length xs / 2) 1201) (times_in xs)) × (amounts.now ≡ take (min (length xs / 2) 1201) (amounts_in xs)) × Asked times amounts)
        → ((times amounts : Bor (List Float)) → Asked times amounts → read given ≡ answer times.now amounts.now) → read given ≡ answer (times_in xs) (amounts_in xs)
    over_flows {Asked} refuses asks is = go (length xs % 2 == 0) (eqb-true (length xs % 2) 0) (eqb-false (length xs % 2) 0)
      where
        go : (even : Bool) → (even ≡ true → length xs % 2 ≡ 0) → (even ≡ false → ¬ (length xs % 2 ≡ 0)) → read given ≡ answer (times_in xs) (amounts_in xs)
        go true e f =
            let h = e refl in
            let a = asks h in
            is a.0 a.1 a.4 ∙ rw (a.2, a.3) (looked_at_alike (min (length xs / 2) 1201) h refl)
        go false e f = let h = f refl in refused_odd h given (refuses h)
