-- Reading a written record gives its value, and writing what was read gives the record's bytes, with the one NaN for any NaN. One law for every layout that loses nothing, and
-- kinds 1 to 5 by it. Assumes nothing.
use mathlib.Core.Path.{◌≡◌, refl, sym, ap, ◌∙◌, subst}
use mathlib.Core.Bool.{false}
use mathlib.Core.List.{List, [], ◌∷◌, ◌++◌}
use Prim.Native.Nat.{ℕ, suc, ◌^◌, ◌<◌, ◌≤◌}
use native.Mathlib.Omega.{arith}
use lib.Dec.{T}
use lib.ListN.{length, take, drop, get_or}
use lib.Ieee.{binary64, fits, is_nan}
use Rattle.refusals.specs.Outcome.{accepted}
use Rattle.records.specs.declared.Terms.{Terms}
use Rattle.records.specs.declared.BondRecord.{BondRecord}
use Rattle.records.specs.declared.Row.{Row}
use Rattle.records.specs.declared.SwapRecord.{SwapRecord}
use Rattle.records.specs.declared.DatedSwapRecord.{DatedSwapRecord}
use Rattle.records.specs.Fields.{HeldByAll, any_bad_code, held_from, bytes_in_all, size_of_all}
use Rattle.records.specs.Kinds.{Layout, record_size, record_of, value_in, read_as, terms_layout, terms_bytes, read_terms, bond_layout, bond_bytes, read_bond, row_layout, row_bytes, read_row, swap_layout, swap_bytes, read_swap, dated_swap_layout, dated_swap_bytes, read_dated_swap}
use Rattle.records.specs.OneNan.{AreBytes, one_nan, one_nan_after_kind}
use Rattle.records.proofs.FieldLists.{Every, Fits, NoNan, length_fields, values_again, bytes_again, bytes_stay, codes_good}
use Rattle.records.proofs.Judged.{good, good_only, is_bad, code_is_bad, accepts, reads_only}

-- a layout loses nothing: a value is what its fields hold, and fields hold what the value says
pub record Lossless {Value : Type 0} (l : Layout Value) : Type 0 where
  pub value : (v : Value) → l.value_of (l.held_of v) ≡ v
  pub held : (h : HeldByAll l.fields) → l.held_of (l.value_of h) ≡ h

first_byte : (bytes : List ℕ) (n kind : ℕ) → length bytes ≡ suc n → get_or bytes 0 0 ≡ kind → take 1 bytes ≡ kind ∷ []
first_byte [] n kind l k = absurd (omega arith)
first_byte (b ∷ bytes) n kind l k = ap (λ (m : ℕ). m ∷ []) k

whole_again : (bytes : List ℕ) → take 1 bytes ++ drop 1 bytes ≡ bytes
whole_again [] = refl
whole_again (b ∷ bytes) = refl

module _ {Value : Type 0} (l : Layout Value) (same : Lossless l) where
  pub value_again : (v : Value) → Every Fits l.fields (l.held_of v) → read_as l (record_of l v) ≡ accepted v
  value_again v h =
      let held : held_from l.fields 1 (record_of l v) ≡ l.held_of v = values_again (l.kind ∷ []) l.fields (l.held_of v) h in
      let is : v ≡ value_in l (record_of l v) = sym (ap l.value_of held ∙ same.value v) in
      let codes : code_is_bad l (record_of l v) ≡ false = ap (any_bad_code l.fields) held ∙ codes_good l.fields (l.held_of v) h in
      let long : length (record_of l v) ≡ record_size l = ap suc (length_fields l.fields (l.held_of v)) in
      sym (accepts l (record_of l v) is codes (good l.kind (record_size l) (record_of l v) long refl))

  module _ (bytes : List ℕ) (v : Value) (small : AreBytes bytes) (reads : read_as l bytes ≡ accepted v) where
    right : (is_bad l bytes ≡ false) × (value_in l bytes ≡ v)
    right = reads_only l bytes v reads

    held_is : held_from l.fields 1 bytes ≡ l.held_of v
    held_is = sym (same.held (held_from l.fields 1 bytes)) ∙ ap l.held_of right.1

    pub record_again : record_of l v ≡ one_nan_after_kind l.fields bytes
    record_again =
        let is = good_only l.kind (record_size l) bytes right.0 in
        let front : take 1 bytes ≡ l.kind ∷ [] = first_byte bytes (size_of_all l.fields) l.kind is.0 is.1 in
        let body : bytes_in_all l.fields (l.held_of v) ≡ one_nan l.fields (drop 1 bytes)
        = ap (bytes_in_all l.fields) (sym held_is) ∙ bytes_again l.fields 1 bytes small (is.0 ∙ omega arith) in
        rw (front, body)

    pub same_record : Every NoNan l.fields (l.held_of v) → record_of l v ≡ bytes
    same_record free =
        let stay : one_nan l.fields (drop 1 bytes) ≡ drop 1 bytes = bytes_stay l.fields 1 bytes (subst (Every NoNan l.fields) (sym held_is) free) in
        record_again ∙ ap (λ (rest : List ℕ). take 1 bytes ++ rest) stay ∙ whole_again bytes

-- ---- kind 1

terms_lossless : Lossless terms_layout
terms_lossless = record { value = λ v. refl; held = λ h. refl }

pub terms_again : (t : Terms) → T (fits binary64 t.principal) → T (fits binary64 t.rate) → t.term < 2 ^ 32 → read_terms (terms_bytes t) ≡ accepted t
unfolding read_terms terms_bytes
terms_again t principal rate term = value_again terms_layout terms_lossless t (principal, (rate, (term, tt)))

module _ (bytes : List ℕ) (t : Terms) (small : AreBytes bytes) (reads : read_terms bytes ≡ accepted t) where
  pub terms_record_again : terms_bytes t ≡ one_nan_after_kind terms_layout.fields bytes
  unfolding read_terms terms_bytes
  terms_record_again = record_again terms_layout terms_lossless bytes t small reads

  pub terms_same_record : is_nan t.principal ≡ false → is_nan t.rate ≡ false → terms_bytes t ≡ bytes
  unfolding read_terms terms_bytes
  terms_same_record principal rate = same_record terms_layout terms_lossless bytes t small reads (principal, (rate, (tt, tt)))

-- ---- kind 2

bond_lossless : Lossless bond_layout
bond_lossless = record { value = λ v. refl; held = λ h. refl }

pub bond_again : (b : BondRecord) → T (fits binary64 b.face) → T (fits binary64 b.coupon) → T (fits binary64 b.maturity) → b.frequency ≤ 3
    → read_bond (bond_bytes b) ≡ accepted b
unfolding read_bond bond_bytes
bond_again b face coupon maturity frequency = value_again bond_layout bond_lossless b (face, (coupon, (maturity, (frequency, tt))))

module _ (bytes : List ℕ) (b : BondRecord) (small : AreBytes bytes) (reads : read_bond bytes ≡ accepted b) where
  pub bond_record_again : bond_bytes b ≡ one_nan_after_kind bond_layout.fields bytes
  unfolding read_bond bond_bytes
  bond_record_again = record_again bond_layout bond_lossless bytes b small reads

  pub bond_same_record : is_nan b.face ≡ false → is_nan b.coupon ≡ false → is_nan b.maturity ≡ false → bond_bytes b ≡ bytes
  unfolding read_bond bond_bytes
  bond_same_record face coupon maturity = same_record bond_layout bond_lossless bytes b small reads (face, (coupon, (maturity, (tt, tt))))

-- ---- kind 3

row_lossless : Lossless row_layout
row_lossless = record { value = λ v. refl; held = λ h. refl }

pub row_again : (r : Row) → r.month < 2 ^ 32 → T (fits binary64 r.payment) → T (fits binary64 r.principal) → T (fits binary64 r.interest)
    → T (fits binary64 r.balance) → read_row (row_bytes r) ≡ accepted r
unfolding read_row row_bytes
row_again r month payment principal interest balance = value_again row_layout row_lossless r (month, (payment, (principal, (interest, (balance, tt)))))

module _ (bytes : List ℕ) (r : Row) (small : AreBytes bytes) (reads : read_row bytes ≡ accepted r) where
  pub row_record_again : row_bytes r ≡ one_nan_after_kind row_layout.fields bytes
  unfolding read_row row_bytes
  row_record_again = record_again row_layout row_lossless bytes r small reads

  pub row_same_record : is_nan r.payment ≡ false → is_nan r.principal ≡ false → is_nan r.interest ≡ false → is_nan r.balance ≡ false → row_bytes r ≡ bytes
  unfolding read_row row_bytes
  row_same_record payment principal interest balance =
      same_record row_layout row_lossless bytes r small reads (tt, (payment, (principal, (interest, (balance, tt)))))

-- ---- kind 4

swap_lossless : Lossless swap_layout
swap_lossless = record { value = λ v. refl; held = λ h. refl }

pub swap_again : (s : SwapRecord) → T (fits binary64 s.notional) → T (fits binary64 s.rate) → T (fits binary64 s.tenor) → s.frequency < 2 ^ 32 → s.count ≤ 2
    → read_swap (swap_bytes s) ≡ accepted s
unfolding read_swap swap_bytes
swap_again s notional rate tenor frequency count = value_again swap_layout swap_lossless s (notional, (rate, (tenor, (frequency, (count, tt)))))

module _ (bytes : List ℕ) (s : SwapRecord) (small : AreBytes bytes) (reads : read_swap bytes ≡ accepted s) where
  pub swap_record_again : swap_bytes s ≡ one_nan_after_kind swap_layout.fields bytes
  unfolding read_swap swap_bytes
  swap_record_again = record_again swap_layout swap_lossless bytes s small reads

  pub swap_same_record : is_nan s.notional ≡ false → is_nan s.rate ≡ false → is_nan s.tenor ≡ false → swap_bytes s ≡ bytes
  unfolding read_swap swap_bytes
  swap_same_record notional rate tenor = same_record swap_layout swap_lossless bytes s small reads (notional, (rate, (tenor, (tt, (tt, tt)))))

-- ---- kind 5: its dates may be any, of the calendar or not

dated_swap_lossless : Lossless dated_swap_layout
dated_swap_lossless = record { value = λ v. refl; held = λ h. refl }

pub dated_swap_again : (s : DatedSwapRecord) → T (fits binary64 s.notional) → T (fits binary64 s.rate) → T (fits binary64 s.tenor) → s.frequency < 2 ^ 32
    → s.first.year < 2 ^ 16 → s.first.month < 2 ^ 8 → s.first.day < 2 ^ 8 → s.second.year < 2 ^ 16 → s.second.month < 2 ^ 8 → s.second.day < 2 ^ 8 → s.count ≤ 2
    → read_dated_swap (dated_swap_bytes s) ≡ accepted s
unfolding read_dated_swap dated_swap_bytes
dated_swap_again s notional rate tenor frequency year month day year' month' day' count =
    value_again dated_swap_layout dated_swap_lossless s (notional, (rate, (tenor, (frequency, (year, (month, (day, (year', (month', (day', (count, tt)))))))))))

module _ (bytes : List ℕ) (s : DatedSwapRecord) (small : AreBytes bytes) (reads : read_dated_swap bytes ≡ accepted s) where
  pub dated_swap_record_again : dated_swap_bytes s ≡ one_nan_after_kind dated_swap_layout.fields bytes
  unfolding read_dated_swap dated_swap_bytes
  dated_swap_record_again = record_again dated_swap_layout dated_swap_lossless bytes s small reads

  pub dated_swap_same_record : is_nan s.notional ≡ false → is_nan s.rate ≡ false → is_nan s.tenor ≡ false → dated_swap_bytes s ≡ bytes
  unfolding read_dated_swap dated_swap_bytes
  dated_swap_same_record notional rate tenor =
      same_record dated_swap_layout dated_swap_lossless bytes s small reads (notional, (rate, (tenor, (tt, (tt, (tt, (tt, (tt, (tt, (tt, (tt, tt)))))))))))
