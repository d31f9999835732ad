-- The records of document 01, kinds 1 to 4, and of document 02, kind 5: "Little-endian, one byte of kind, then a fixed body." A layout says a kind's number, its fields, and how a value is held by them; its size, its bytes and
-- what its readers answer follow. Definitions only. Assumes nothing.
use Rattle.std.specs.Prelude.{ℕ, suc, ◌||◌, List, [], ◌∷◌}
use Rattle.refusals.specs.Outcome.{Outcome, line, judged}
use Rattle.refusals.specs.Table.{bad_record}
use Rattle.dates.specs.declared.Date.{Date}
use Rattle.records.specs.declared.Terms.{Terms}
use Rattle.records.specs.declared.BondRecord.{BondRecord}
use Rattle.records.specs.declared.Row.{Row}
use Rattle.records.specs.declared.SwapRecord.{SwapRecord}
use Rattle.records.specs.declared.DatedSwapRecord.{DatedSwapRecord}
use Rattle.records.specs.Fields.{Field, code, byte, pair, whole, float, size_of_all, HeldByAll, bytes_in_all, held_from, any_bad_code}

pub record Layout (Value : Type 0) : Type 0 where
  pub kind : ℕ
  pub fields : List Field
  pub held_of : Value → HeldByAll fields
  pub value_of : HeldByAll fields → Value

module _ {Value : Type 0} (l : Layout Value) where
  -- how many bytes the record has
  abbrev pub record_size : ℕ
  record_size = suc (size_of_all l.fields)

  -- the record of a value
  abbrev pub record_of : Value → List ℕ
  record_of v = l.kind ∷ bytes_in_all l.fields (l.held_of v)

  -- the value that bytes of this size hold
  abbrev pub value_in : List ℕ → Value
  value_in bytes = l.value_of (held_from l.fields 1 bytes)

  -- what a reader answers: the value, or 11 for another kind, another length or a code outside its set
  abbrev pub read_as : List ℕ → Outcome Value
  read_as bytes = judged (line 11 (any_bad_code l.fields (held_from l.fields 1 bytes) || bad_record l.kind record_size bytes) ∷ []) (value_in bytes)

  -- the value of a record of this kind and length, whatever its codes
  abbrev pub read_uncoded : List ℕ → Outcome Value
  read_uncoded bytes = judged (line 11 (bad_record l.kind record_size bytes) ∷ []) (value_in bytes)

-- ---- kind 1, a loan: "principal, rate (f64), term (u32), 21 bytes"
abbrev pub terms_layout : Layout Terms
terms_layout = record {
  kind = 1;
  fields = float ∷ float ∷ whole ∷ [];
  held_of = λ t. (t.principal, (t.rate, (t.term, tt)));
  value_of = λ h. record { principal = h.0; rate = h.1.0; term = h.1.1.0 };
}

abbrev pub terms_kind : ℕ
terms_kind = terms_layout.kind

abbrev pub terms_size : ℕ
terms_size = record_size terms_layout

unfoldable pub terms_bytes : Terms → List ℕ
terms_bytes = record_of terms_layout

unfoldable pub terms_in : List ℕ → Terms
terms_in = value_in terms_layout

unfoldable pub read_terms : List ℕ → Outcome Terms
unfolding terms_in
read_terms = read_as terms_layout

-- ---- kind 2, a bond: "face, coupon, maturity (f64), frequency code 0 to 3 in the Rust's order, 26"
abbrev pub bond_layout : Layout BondRecord
bond_layout = record {
  kind = 2;
  fields = float ∷ float ∷ float ∷ code 3 ∷ [];
  held_of = λ b. (b.face, (b.coupon, (b.maturity, (b.frequency, tt))));
  value_of = λ h. record { face = h.0; coupon = h.1.0; maturity = h.1.1.0; frequency = h.1.1.1.0 };
}

abbrev pub bond_kind : ℕ
bond_kind = bond_layout.kind

abbrev pub bond_size : ℕ
bond_size = record_size bond_layout

unfoldable pub bond_bytes : BondRecord → List ℕ
bond_bytes = record_of bond_layout

unfoldable pub bond_in : List ℕ → BondRecord
bond_in = value_in bond_layout

unfoldable pub read_bond : List ℕ → Outcome BondRecord
unfolding bond_in
read_bond = read_as bond_layout

unfoldable pub read_bond_uncoded : List ℕ → Outcome BondRecord
unfolding bond_in
read_bond_uncoded = read_uncoded bond_layout

-- ---- kind 3, a row: "month (u32), payment, principal, interest, balance, 37"
abbrev pub row_layout : Layout Row
row_layout = record {
  kind = 3;
  fields = whole ∷ float ∷ float ∷ float ∷ float ∷ [];
  held_of = λ r. (r.month, (r.payment, (r.principal, (r.interest, (r.balance, tt)))));
  value_of = λ h. record { month = h.0; payment = h.1.0; principal = h.1.1.0; interest = h.1.1.1.0; balance = h.1.1.1.1.0 };
}

abbrev pub row_kind : ℕ
row_kind = row_layout.kind

abbrev pub row_size : ℕ
row_size = record_size row_layout

unfoldable pub row_bytes : Row → List ℕ
row_bytes = record_of row_layout

unfoldable pub row_in : List ℕ → Row
row_in = value_in row_layout

unfoldable pub read_row : List ℕ → Outcome Row
unfolding row_in
read_row = read_as row_layout

-- ---- kind 4, a swap: "notional, fixed rate, tenor, frequency (u32), day count 0 to 2, 30"
abbrev pub swap_layout : Layout SwapRecord
swap_layout = record {
  kind = 4;
  fields = float ∷ float ∷ float ∷ whole ∷ code 2 ∷ [];
  held_of = λ s. (s.notional, (s.rate, (s.tenor, (s.frequency, (s.count, tt)))));
  value_of = λ h. record { notional = h.0; rate = h.1.0; tenor = h.1.1.0; frequency = h.1.1.1.0; count = h.1.1.1.1.0 };
}

abbrev pub swap_kind : ℕ
swap_kind = swap_layout.kind

abbrev pub swap_size : ℕ
swap_size = record_size swap_layout

unfoldable pub swap_bytes : SwapRecord → List ℕ
swap_bytes = record_of swap_layout

unfoldable pub swap_in : List ℕ → SwapRecord
swap_in = value_in swap_layout

unfoldable pub read_swap : List ℕ → Outcome SwapRecord
unfolding swap_in
read_swap = read_as swap_layout

unfoldable pub read_swap_uncoded : List ℕ → Outcome SwapRecord
unfolding swap_in
read_swap_uncoded = read_uncoded swap_layout

-- ---- kind 5, a dated swap, document 02's: "kind 4's body without its day count, then two dates and a day count, each date u16 year, u8 month, u8 day; its tenor is not read"; 38

-- a date, of the calendar or not: its fields, its bytes, and the date that bytes hold from a place on
abbrev pub date_fields : List Field
date_fields = pair ∷ byte ∷ byte ∷ []

unfoldable pub date_bytes : Date → List ℕ
date_bytes d = bytes_in_all date_fields (d.year, (d.month, (d.day, tt)))

unfoldable pub date_at : ℕ → List ℕ → Date
date_at at bytes = let h = held_from date_fields at bytes in record { year = h.0; month = h.1.0; day = h.1.1.0 }

abbrev pub dated_swap_layout : Layout DatedSwapRecord
dated_swap_layout = record {
  kind = 5;
  fields = float ∷ float ∷ float ∷ whole ∷ pair ∷ byte ∷ byte ∷ pair ∷ byte ∷ byte ∷ code 2 ∷ [];
  held_of = λ s. (s.notional, (s.rate, (s.tenor, (s.frequency, (s.first.year, (s.first.month, (s.first.day, (s.second.year, (s.second.month, (s.second.day, (s.count, tt)))))))))));
  value_of = λ h.
      let first = h.1.1.1.1 in
      let second = first.1.1.1 in
      record {
        notional = h.0;
        rate = h.1.0;
        tenor = h.1.1.0;
        frequency = h.1.1.1.0;
        first = record { year = first.0; month = first.1.0; day = first.1.1.0 };
        second = record { year = second.0; month = second.1.0; day = second.1.1.0 };
        count = second.1.1.1.0;
      };
}

abbrev pub dated_swap_kind : ℕ
dated_swap_kind = dated_swap_layout.kind

abbrev pub dated_swap_size : ℕ
dated_swap_size = record_size dated_swap_layout

unfoldable pub dated_swap_bytes : DatedSwapRecord → List ℕ
dated_swap_bytes = record_of dated_swap_layout

unfoldable pub dated_swap_in : List ℕ → DatedSwapRecord
dated_swap_in = value_in dated_swap_layout

unfoldable pub read_dated_swap : List ℕ → Outcome DatedSwapRecord
unfolding dated_swap_in
read_dated_swap = read_as dated_swap_layout

unfoldable pub read_dated_swap_uncoded : List ℕ → Outcome DatedSwapRecord
unfolding dated_swap_in
read_dated_swap_uncoded = read_uncoded dated_swap_layout
