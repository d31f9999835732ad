-- Line 11 over the bytes of any kind: where the record is bad or a code is, 11 at place 0 is given, and where neither is, the value. Assumes nothing.
use mathlib.Core.Path.{◌≡◌, refl, sym, ap, ◌∙◌}
use mathlib.Core.Logic.{◌⊎◌, inl, inr}
use mathlib.Core.Bool.{Bool, true, false, not, cond, ◌&&◌, ◌||◌}
use mathlib.Core.List.{List, [], ◌∷◌}
use Prim.Native.Nat.{ℕ}
use native.Mathlib.Omega.{arith}
use borrow.Author.Tests.{eq-eqb, eqb-true}
use lib.Dec.{eqb}
use lib.ListN.{length, get_or}
use Rattle.refusals.specs.Outcome.{refused, accepted, line, first_or, judged}
use Rattle.refusals.specs.Table.{bad_record}
use Rattle.refusals.proofs.Verdicts.{verdict}
use Rattle.refusals.proofs.Causes.{or_true}
use Rattle.records.specs.Fields.{HeldByAll, held_from, any_bad_code}
use Rattle.records.specs.Kinds.{Layout, record_size, value_in, read_as, read_uncoded}

both : (a b : Bool) → not (a && b) ≡ false → (a ≡ true) × (b ≡ true)
both true true h = (refl, refl)
both true false h = (cc, cc)
both false b h = (cc, cc)

module _ (kind size : ℕ) (bytes : List ℕ) where
  -- a record is good exactly where length and kind are right
  pub good : length bytes ≡ size → get_or bytes 0 0 ≡ kind → bad_record kind size bytes ≡ false
  unfolding bad_record
  good l k = simp (eq-eqb _ _ l, eq-eqb _ _ k)

  pub good_only : bad_record kind size bytes ≡ false → (length bytes ≡ size) × (get_or bytes 0 0 ≡ kind)
  unfolding bad_record
  good_only h = let is = both (eqb (length bytes) size) (eqb (get_or bytes 0 0) kind) h in (eqb-true _ _ is.0, eqb-true _ _ is.1)

-- ---- the line, judging no value
pub bad_line : {b : Bool} {number place : ℕ} → (number ≡ 11) × (place ≡ 0) → b ≡ true → refused number place ≡ verdict (line 11 b ∷ [])
unfolding judged first_or
bad_line is h = rw (is.0, is.1, h)

pub good_line : {b : Bool} → b ≡ false → accepted tt ≡ verdict (line 11 b ∷ [])
unfolding judged first_or
good_line h = rw h

-- ---- what a reader answers, of any kind
module _ {Value : Type 0} (v : Value) (a b : Bool) where
  judged_refuses : (a ≡ true) ⊎ (b ≡ true) → refused 11 0 ≡ judged (line 11 (a || b) ∷ []) v
  unfolding judged first_or
  judged_refuses (inl h) = simp h
  judged_refuses (inr h) = simp (h, or_true a)

  judged_accepts : a ≡ false → b ≡ false → accepted v ≡ judged (line 11 (a || b) ∷ []) v
  unfolding judged first_or
  judged_accepts h g = simp (h, g)

  -- only there is a value given, and it is that one
  judged_only : (w : Value) → judged (line 11 (a || b) ∷ []) v ≡ accepted w → (b ≡ false) × (v ≡ w)
  unfolding judged first_or
  judged_only w = go a b
    where
      go : (c d : Bool) → cond (c || d) (refused 11 0) (accepted v) ≡ accepted w → (d ≡ false) × (v ≡ w)
      go true d e = let z : ◌≡◌ {A = ℕ} 0 1 = cc in absurd (omega arith)
      go false true e = let z : ◌≡◌ {A = ℕ} 0 1 = cc in absurd (omega arith)
      go false false e = (refl, cc)

  -- what is refused whatever a says is refused still
  judged_still : (k p : ℕ) → refused k p ≡ judged (line 11 b ∷ []) v → refused k p ≡ judged (line 11 (a || b) ∷ []) v
  unfolding judged first_or
  judged_still k p = go a b
    where
      go : (c d : Bool) → refused k p ≡ cond d (refused 11 0) (accepted v) → refused k p ≡ cond (c || d) (refused 11 0) (accepted v)
      go c true e = rw or_true e
      go c false e = cc

module _ {Value : Type 0} (l : Layout Value) (bytes : List ℕ) where
  -- whether a code of the record is outside its set, and whether the record is of another kind or length
  abbrev pub code_is_bad : Bool
  code_is_bad = any_bad_code l.fields (held_from l.fields 1 bytes)

  abbrev pub is_bad : Bool
  is_bad = bad_record l.kind (record_size l) bytes

  pub reads_only : (v : Value) → read_as l bytes ≡ accepted v → (is_bad ≡ false) × (value_in l bytes ≡ v)
  reads_only = judged_only (value_in l bytes) code_is_bad is_bad

  module _ {number place : ℕ} (is : (number ≡ 11) × (place ≡ 0)) where
    pub refuses : (code_is_bad ≡ true) ⊎ (is_bad ≡ true) → refused number place ≡ read_as l bytes
    refuses h = rw (is.0, is.1) (judged_refuses (value_in l bytes) code_is_bad is_bad h)

  module _ {v : Value} (is : v ≡ value_in l bytes) where
    pub accepts : code_is_bad ≡ false → is_bad ≡ false → accepted v ≡ read_as l bytes
    accepts g h = rw is (judged_accepts (value_in l bytes) code_is_bad is_bad g h)

    pub accepts_uncoded : is_bad ≡ false → accepted v ≡ read_uncoded l bytes
    accepts_uncoded h = rw is (judged_accepts (value_in l bytes) false is_bad refl h)

  -- ---- what is refused whatever its codes, and what its codes are
  pub refused_still : (k p : ℕ) → refused k p ≡ read_uncoded l bytes → refused k p ≡ read_as l bytes
  refused_still k p = judged_still (value_in l bytes) code_is_bad is_bad k p

  pub not_bad : accepted tt ≡ verdict (line 11 is_bad ∷ []) → is_bad ≡ false
  not_bad e = (judged_only tt false is_bad tt (sym e)).0

  pub its_length : accepted tt ≡ verdict (line 11 is_bad ∷ []) → length bytes ≡ record_size l
  its_length e = (good_only l.kind (record_size l) bytes (not_bad e)).0

  module _ (held_again : (h : HeldByAll l.fields) → l.held_of (l.value_of h) ≡ h) (v : Value) (is : v ≡ value_in l bytes) where
    same_code : any_bad_code l.fields (l.held_of v) ≡ code_is_bad
    same_code = ap (any_bad_code l.fields) (ap l.held_of is ∙ held_again (held_from l.fields 1 bytes))

    pub refuses_code : {number place : ℕ} → (number ≡ 11) × (place ≡ 0) → any_bad_code l.fields (l.held_of v) ≡ true → refused number place ≡ read_as l bytes
    refuses_code r h = refuses r (inl (sym same_code ∙ h))

    pub accepts_code : is_bad ≡ false → any_bad_code l.fields (l.held_of v) ≡ false → accepted v ≡ read_as l bytes
    accepts_code g h = accepts is (sym same_code ∙ h) g
