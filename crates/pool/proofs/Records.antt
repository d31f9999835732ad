-- A pool's bytes: the first record and those behind it, and what is known of bytes that hold loans alone. Assumes nothing.
use mathlib.Core.Path.{◌≡◌, refl, sym, ap, ◌∙◌}
use mathlib.Core.Bool.{Bool, true, false, not}
use mathlib.Core.List.{List, [], ◌∷◌, ◌++◌, map}
use Prim.Native.Nat.{ℕ, zero, suc, ◌+◌, ◌*◌, ◌%◌, ◌<◌, ◌≤◌}
use native.Mathlib.Omega.{arith}
use borrow.Author.Tests.{eq-eqb, ne_eqb, eqb-true, not-false}
use lib.ListN.{length, get_or, take, drop, length-append, length-drop}
use lib.Dec.{eqb}
use Rattle.std.proofs.lemmas.List.{drop-drop}
use lib.Seq.{take-append_seam, drop-append_seam}
use Rattle.std.specs.declared.result.Result.{Result}
use Rattle.std.specs.declared.result.Result.TheVariants.{Ok}
use Rattle.refusals.specs.declared.Refusal.{Refusal}
use Rattle.refusals.specs.Answers.{outcome}
use Rattle.refusals.specs.Outcome.{Outcome, refused, accepted, alone, first_or}
use Rattle.refusals.specs.Places.{placed}
use Rattle.refusals.specs.Table.{bad_length}
use Rattle.refusals.proofs.Causes.{neither}
use Rattle.refusals.proofs.OneToOne.{one_to_one}
use Rattle.records.specs.declared.Terms.{Terms}
use Rattle.records.specs.Kinds.{terms_layout, terms_kind, terms_size, terms_in, read_terms}
use Rattle.records.specs.EndToEnd.{record_at, of_each}
use Rattle.records.proofs.Judged.{good as good_record, accepts}
use Rattle.records.proofs.EndToEnd.{record_length, length_each, map_each}
use Rattle.pool.specs.Loans.{loan_count, loan_at, other_kind, bad_records, any_of, loans_in}
use Rattle.pool.proofs.Placing.{by_line}

-- ---- the first record, and those behind it
each_same : {A : Type 0} (f g : ℕ → A) (n : ℕ) → ((i : ℕ) → f i ≡ g i) → of_each f n ≡ of_each g n
unfolding of_each
each_same f g zero h = refl
each_same f g (suc n) h = rw (h 0, each_same (λ (i : ℕ). f (suc i)) (λ (i : ℕ). g (suc i)) n (λ i. h (suc i)))

module _ (bytes : List ℕ) where
  pub first_record : take terms_size bytes ≡ record_at terms_size bytes 0
  unfolding record_at
  first_record = refl

  behind : (i : ℕ) → record_at terms_size bytes (suc i) ≡ record_at terms_size (drop terms_size bytes) i
  unfolding record_at
  behind i =
      let e : suc i * terms_size ≡ terms_size + i * terms_size = omega arith in
      rw e (ap (take terms_size) (sym (drop-drop (i * terms_size) terms_size bytes)))

  one_fewer : terms_size ≤ length bytes → loan_count bytes ≡ suc (loan_count (drop terms_size bytes))
  one_fewer b = omega (arith, length-drop terms_size bytes)

  pub one_first : {A : Type 0} (f : List ℕ → A) → terms_size ≤ length bytes
      → of_each (λ (i : ℕ). f (record_at terms_size bytes i)) (loan_count bytes)
      ≡ f (record_at terms_size bytes 0) ∷ of_each (λ (i : ℕ). f (record_at terms_size (drop terms_size bytes) i)) (loan_count (drop terms_size bytes))
  unfolding of_each
  one_first f b =
      rw (one_fewer b) (ap (λ l. f (record_at terms_size bytes 0) ∷ l) (each_same _ _ (loan_count (drop terms_size bytes)) (λ i. ap f (behind i))))

  pub none_left : length bytes < terms_size → loans_in bytes ≡ []
  unfolding of_each
  none_left h =
      let e : loan_count bytes ≡ 0 = omega arith in
      rw e

  pub loan_first : (rest : List ℕ) → terms_size ≤ length bytes → rest ≡ drop terms_size bytes → loans_in bytes ≡ loan_at bytes 0 ∷ loans_in rest
  unfolding loan_at
  loan_first rest b e = rw e (one_first terms_in b)

  kinds_first : terms_size ≤ length bytes → of_each (other_kind bytes) (loan_count bytes) ≡ other_kind bytes 0 ∷ of_each (other_kind (drop terms_size bytes)) (loan_count (drop terms_size bytes))
  unfolding other_kind
  kinds_first b = one_first (λ (r : List ℕ). not (eqb (get_or r 0 0) terms_kind)) b

-- ---- the records themselves
abbrev pub records : List ℕ → List (List ℕ)
records bytes = of_each (record_at terms_size bytes) (loan_count bytes)

pub no_record : (bytes : List ℕ) → length bytes < terms_size → length (records bytes) ≡ 0
no_record bytes h = length_each _ _ ∙ omega arith

pub record_and_rest : (bytes part rest : List ℕ) → bytes ≡ part ++ rest → length part ≡ terms_size → records bytes ≡ part ∷ records rest
record_and_rest bytes part rest e h =
    let front : take terms_size bytes ≡ part = ap (take terms_size) e ∙ ap (λ n. take n (part ++ rest)) (sym h) ∙ take-append_seam part rest in
    let back : drop terms_size bytes ≡ rest = ap (drop terms_size) e ∙ ap (λ n. drop n (part ++ rest)) (sym h) ∙ drop-append_seam part rest in
    one_first bytes (λ r. r) (omega (arith, ap length e, length-append part rest)) ∙ rw (back, sym (first_record bytes), front) refl

abbrev pub another_kind : List ℕ → Bool
another_kind r = not (eqb (get_or r 0 0) terms_kind)

kinds_of_records : (bytes : List ℕ) → map another_kind (records bytes) ≡ of_each (other_kind bytes) (loan_count bytes)
unfolding other_kind
kinds_of_records bytes = map_each another_kind (record_at terms_size bytes) (loan_count bytes)

-- ---- bytes that hold loans alone
none_alone : (b : Bool) (cs : List Bool) → any_of (alone b cs) ≡ false → (b ≡ false) × (any_of cs ≡ false)
unfolding any_of
none_alone b [] e = ((neither b false e).0, refl)
none_alone true (c ∷ cs) e = let z : ◌≡◌ {A = ℕ} 0 1 = cc in absurd (omega arith)
none_alone false (c ∷ cs) e = (refl, e)

all_alone : (b : Bool) (cs : List Bool) → b ≡ false → any_of cs ≡ false → any_of (alone b cs) ≡ false
unfolding any_of
all_alone b [] e h = rw e
all_alone b (c ∷ cs) e h = rw e h

module _ (bytes : List ℕ) (good : any_of (bad_records bytes) ≡ false) (h : terms_size ≤ length bytes) where
  parts : (bad_length terms_size (length bytes) ≡ false) × (any_of (of_each (other_kind bytes) (loan_count bytes)) ≡ false)
  unfolding bad_records
  parts = none_alone _ _ good

  kinds : (other_kind bytes 0 ≡ false) × (any_of (of_each (other_kind (drop terms_size bytes)) (loan_count (drop terms_size bytes))) ≡ false)
  unfolding any_of
  kinds = neither (other_kind bytes 0) _ (rw (kinds_first bytes h) at parts.1)

  whole : bad_length terms_size (length (drop terms_size bytes)) ≡ false
  unfolding bad_length
  whole =
      let e : length bytes % terms_size ≡ 0 = eqb-true _ _ (not-false _ parts.0) in
      rw (eq-eqb (length (drop terms_size bytes) % terms_size) 0 (omega (arith, length-drop terms_size bytes)))

  -- so do those behind the first record
  pub alone_behind : (rest : List ℕ) → rest ≡ drop terms_size bytes → any_of (bad_records rest) ≡ false
  unfolding bad_records
  alone_behind rest e = rw e (all_alone _ _ whole kinds.1)

  -- and the first is read
  pub reads_first : (part : List ℕ) (x : Result Terms Refusal) → part ≡ take terms_size bytes → outcome x ≡ read_terms part → x ≡ Ok (loan_at bytes 0)
  unfolding read_terms terms_in loan_at other_kind
  reads_first part x d e =
      let right = good_record terms_kind terms_size (record_at terms_size bytes 0) (record_length terms_size bytes 0 (omega arith)) (eqb-true _ _ (not-false _ kinds.0)) in
      one_to_one x (Ok (loan_at bytes 0)) (e ∙ rw (d, first_record bytes) (sym (accepts terms_layout (record_at terms_size bytes 0) refl refl right)))

-- ---- line 11: the total length first
first_alone : {Value : Type 0} (k : ℕ) (cs : List Bool) (rest : Outcome Value) → first_or k 0 cs rest ≡ first_or k 0 (alone false cs) rest
unfolding first_or
first_alone k [] rest = refl
first_alone k (c ∷ cs) rest = refl

first_at_0 : {Value : Type 0} (k : ℕ) (cs : List Bool) (rest : Outcome Value) → refused k 0 ≡ first_or k 0 (alone true cs) rest
unfolding first_or
first_at_0 k [] rest = refl
first_at_0 k (c ∷ cs) rest = refl

module _ (bytes : List ℕ) where
  pub of_another_length : (length bytes % terms_size ≡ 0 → ⊥) → refused 11 0 ≡ by_line 11 0 (bad_records bytes)
  unfolding bad_records bad_length
  of_another_length h = rw (ne_eqb _ _ h) (first_at_0 11 (of_each (other_kind bytes) (loan_count bytes)) (accepted tt))

  pub by_kinds : length bytes % terms_size ≡ 0 → placed (by_line 11 0 (map another_kind (records bytes))) ≡ placed (by_line 11 0 (bad_records bytes))
  unfolding bad_records bad_length
  by_kinds h =
      ap (λ (cs : List Bool). placed (by_line 11 0 cs)) (kinds_of_records bytes)
      ∙ rw (eq-eqb _ _ h) (ap placed (first_alone 11 (of_each (other_kind bytes) (loan_count bytes)) (accepted tt)))
