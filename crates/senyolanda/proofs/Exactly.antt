-- What is refused at the door that C uses, of the functions that read a record first: 11 and nothing else exactly when the record is of another kind or length; else number k at place p
-- exactly when that is the table's lowest, a code outside its set being 11 in its turn. `ResultSays.result_exactly` says the same of a call's result. Assumes nothing.
use mathlib.Core.Path.{◌≡◌, refl, sym, ap, ◌∙◌}
use mathlib.Core.Logic.{◌⊎◌, ◌↔◌}
use mathlib.Core.Bool.{Bool, true, false, cond, ◌||◌}
use mathlib.Core.List.{List, [], ◌∷◌, ◌++◌}
use Prim.Native.Nat.{ℕ}
use native.Mathlib.Omega.{arith}
use lib.Dec.{T}
use lib.ListN.{length}
use lib.Ieee.{Float}
use Rattle.refusals.specs.Outcome.{Outcome, refused, accepted, Line, line, line_of_two, first_or, judged, Lowest, ExactlyWhen, above, rising, and_then}
use Rattle.refusals.specs.Table.{bad_record, bad_code}
use Rattle.refusals.proofs.Judging.{exactly}
use Rattle.refusals.proofs.Verdicts.{accepted_value}
use Rattle.records.specs.declared.Terms.{Terms}
use Rattle.records.specs.declared.BondRecord.{BondRecord}
use Rattle.records.specs.declared.SwapRecord.{SwapRecord}
use Rattle.records.specs.declared.DatedSwapRecord.{DatedSwapRecord}
use Rattle.records.specs.Kinds.{terms_kind, terms_size, terms_in, read_terms, bond_kind, bond_size, bond_in, read_bond_uncoded, swap_kind, swap_size, swap_in, read_swap_uncoded, dated_swap_kind, dated_swap_size, dated_swap_in, read_dated_swap_uncoded}
use Rattle.mortgage.specs.Terms.{terms_lines}
use Rattle.mortgage.specs.Payment.{monthly_payment, opened, opened_with}
use Rattle.mortgage.specs.Totals.{total_interest, remaining_balance, loan_to_value}
use Rattle.mortgage.specs.Savings.{prepayment_savings}
use Rattle.mortgage.specs.BreakEven.{break_even_lines, refinance_breakeven}
use Rattle.mortgage.specs.Kinds.{Way}
use Rattle.mortgage.specs.Openings.{opening_lines, kind_opened_with, kind_opened}
use Rattle.mortgage.proofs.Exactly as loans
use Rattle.listing.specs.Listing.{loan_lines, listed, listed_size}
use Rattle.bond.specs.declared.Bond.{Bond}
use Rattle.bond.specs.Bonds.{bond_lines}
use Rattle.bond.specs.Codes.{last_code as last_frequency}
use Rattle.bond.specs.Price.{price, dv01, current_yield}
use Rattle.bond.specs.Yield.{yield_to_maturity}
use Rattle.bond.specs.Durations.{macaulay_duration, modified_duration, convexity, price_change, macaulay_at_price, modified_at_price, convexity_at_price}
use Rattle.bond.proofs.Exactly as bonds
use Rattle.bond.proofs.Exactly.{yield_lines, at_price_exactly}
use Rattle.dates.specs.declared.Date.{Date}
use Rattle.dates.specs.Answers.{dates_line}
use Rattle.swaps.specs.declared.AnySwap.{AnySwap}
use Rattle.swaps.specs.declared.AnySwap.TheVariants.{Undated, Dated}
use Rattle.swaps.specs.Codes.{last_code as last_day_count, day_count_at, day_count_of}
use Rattle.swaps.specs.DayCounts.{dated_fraction, dated_fraction_of}
use Rattle.swaps.specs.Swap.{swap_lines}
use Rattle.swaps.specs.DatedSwap.{uncoded_dated_lines}
use Rattle.swaps.specs.Periods.{lines_of}
use Rattle.swaps.specs.Valuation.{fixed_leg_pv, floating_leg_pv, swap_npv, par_swap_rate, swap_dv01, swap_duration, value_swap}
use Rattle.swaps.proofs.Exactly as swaps
use Rattle.senyolanda.specs.Told.{coded}
use Rattle.senyolanda.specs.Loans.{at, breakeven_of}
use Rattle.senyolanda.specs.Bonds.{bond_of, uncoded_lines, bond_read, of_bond}
use Rattle.senyolanda.specs.Dates.{dated_fraction_by, written_lines}
use Rattle.senyolanda.specs.Swaps.{swap_of, swap_read, of_swap, dated_swap_of, dated_swap_read, of_dated_swap}
use Rattle.senyolanda.specs.RecordLines.{after_record, after_code, loan_record_lines, kind_record_lines, break_even_record_lines, bond_record_lines, swap_record_lines, dated_swap_record_lines}
use Rattle.senyolanda.proofs.CodeWaits.{waits}

-- ---- what is refused before it is asked, is refused alike
still_refused : {A B : Type 0} (ls : List Line) (x : Outcome A) (asked : A → Outcome B) → ((v : A) → x ≡ accepted v → ⊥) → ExactlyWhen ls x → ExactlyWhen ls (and_then x asked)
still_refused {A} {B} ls (refused j q) asked never ex k p = (
  λ e. (ex k p).0 (let n : j ≡ k = cc in let m : q ≡ p = cc in rw (n, m)),
  λ w. (let e = (ex k p).1 w in let n : j ≡ k = cc in let m : q ≡ p = cc in rw (n, m)),
)
still_refused ls (accepted v) asked never ex k p = absurd (never v refl)

apart : {A : Type 0} (k p : ℕ) (v : A) → ◌≡◌ {A = Outcome A} (refused k p) (accepted v) → ⊥
apart k p v e = let z : ◌≡◌ {A = ℕ} 0 1 = cc in omega arith

-- ---- what is made of a value refuses nothing more
made_of : {A B : Type 0} (ls : List Line) (x : Outcome A) (made : A → B) → ExactlyWhen ls x → ExactlyWhen ls (and_then x (λ (v : A). accepted (made v)))
made_of ls (refused j q) made ex k p = still_refused ls (refused j q) (λ v. accepted (made v)) (λ v. apart j q v) ex k p
made_of ls (accepted v) made ex k p = (λ e. absurd (apart k p (made v) (sym e)), λ w. absurd (apart k p v (sym ((ex k p).1 w))))

-- ---- a record that is read first
record_first : {A B : Type 0} (bad : Bool) (v : A) (asked : A → Outcome B) (lines : List Line) → ExactlyWhen lines (asked v)
    → ExactlyWhen (after_record bad lines) (and_then (judged (line 11 bad ∷ []) v) asked)
unfolding judged first_or above
record_first true v asked lines ex = still_refused (line 11 true ∷ []) (refused 11 0) asked (λ w. apart 11 0 w) (exactly v (line 11 true ∷ []) tt)
record_first false v asked lines ex = ex

-- ---- a code in it: 11 in its turn
eleven_waits : {A : Type 0} (others : Outcome Unit) (v w : A) → coded true others v ≡ accepted w → ⊥
eleven_waits (refused k p) v w e = apart k p w e
eleven_waits (accepted u) v w e = apart 11 0 w e

code_next : {A B : Type 0} (bad : Bool) (others : List Line) (v : A) (asked : A → Outcome B) (lines : List Line) → T (rising (others ++ line 11 true ∷ [])) → ExactlyWhen lines (asked v)
    → ExactlyWhen (after_code bad others lines) (and_then (coded bad (judged others tt) v) asked)
code_next true others v asked lines up ex =
    still_refused (others ++ line 11 true ∷ []) (coded true (judged others tt) v) asked (eleven_waits (judged others tt) v)
    (rw (waits v others) (exactly v (others ++ line 11 true ∷ []) up))
code_next false others v asked lines up ex = ex

in_two : {A B C : Type 0} (x : Outcome A) (f : A → Outcome B) (g : B → Outcome C) → and_then (and_then x f) g ≡ and_then x (λ (v : A). and_then (f v) g)
in_two (refused k p) f g = refl
in_two (accepted v) f g = refl

-- ---- a record that is read first, with a code in it
module _ {R A B : Type 0} (bad : Bool) (held : R) (bad_coded : R → Bool) (others : R → List Line) (made : R → A) (asked : A → Outcome B) (lines : List Line) where
  record_and_code : T (rising (others held ++ line 11 true ∷ [])) → ExactlyWhen lines (asked (made held))
      → ExactlyWhen (after_record bad (after_code (bad_coded held) (others held) lines))
      (and_then (and_then (judged (line 11 bad ∷ []) held) (λ (r : R). coded (bad_coded r) (judged (others r) tt) (made r))) asked)
  record_and_code up ex =
      rw (in_two (judged (line 11 bad ∷ []) held) (λ (r : R). coded (bad_coded r) (judged (others r) tt) (made r)) asked)
      (record_first bad held (λ (r : R). and_then (coded (bad_coded r) (judged (others r) tt) (made r)) asked) (after_code (bad_coded held) (others held) lines)
      (code_next (bad_coded held) (others held) (made held) asked lines up ex))

-- ---- loans
module _ {B : Type 0} (bytes : List ℕ) (lines : Terms → List Line) (asked : Terms → Outcome B) (ex : (t : Terms) → ExactlyWhen (lines t) (asked t)) where
  of_terms : ExactlyWhen (after_record (bad_record terms_kind terms_size bytes) (lines (terms_in bytes))) (and_then (read_terms bytes) asked)
  unfolding read_terms
  of_terms = record_first (bad_record terms_kind terms_size bytes) (terms_in bytes) asked (lines (terms_in bytes)) (ex (terms_in bytes))

of_loan : {B : Type 0} (bytes : List ℕ) (asked : Terms → Outcome B) → ((t : Terms) → ExactlyWhen (terms_lines t) (asked t)) → ExactlyWhen (loan_record_lines bytes) (and_then (read_terms bytes) asked)
of_loan bytes = of_terms bytes terms_lines

-- openings of any kind; their draws are refused by the lines of a draw, as the level loan's
module _ (way : Way) (bytes : List ℕ) where
  pub open_of_any_kind_refused_exactly : ExactlyWhen (kind_record_lines way bytes) (and_then (read_terms bytes) (kind_opened way))
  open_of_any_kind_refused_exactly = of_terms bytes (opening_lines way) (kind_opened way) (loans.opening_of_any_kind_refused_exactly way)

  pub open_of_any_kind_with_payment_refused_exactly : (given : Float) → ExactlyWhen (kind_record_lines way bytes) (and_then (read_terms bytes) (λ (t : Terms). kind_opened_with way t given))
  open_of_any_kind_with_payment_refused_exactly given = of_terms bytes (opening_lines way) _ (λ t. loans.opening_of_any_kind_with_payment_refused_exactly way t given)

module _ (bytes : List ℕ) where
  pub payment_refused_exactly : ExactlyWhen (loan_record_lines bytes) (and_then (read_terms bytes) monthly_payment)
  payment_refused_exactly = of_loan bytes monthly_payment loans.payment_refused_exactly

  pub open_refused_exactly : ExactlyWhen (loan_record_lines bytes) (and_then (read_terms bytes) opened)
  open_refused_exactly = of_loan bytes opened loans.opening_refused_exactly

  pub open_with_payment_refused_exactly : (given : Float) → ExactlyWhen (loan_record_lines bytes) (and_then (read_terms bytes) (λ (t : Terms). opened_with t given))
  open_with_payment_refused_exactly given = of_loan bytes _ (λ t. loans.opening_with_payment_refused_exactly t given)

  pub total_interest_refused_exactly : ExactlyWhen (loan_record_lines bytes) (and_then (read_terms bytes) total_interest)
  total_interest_refused_exactly = of_loan bytes total_interest loans.total_interest_refused_exactly

  pub remaining_balance_refused_exactly : (months : ℕ) → ExactlyWhen (loan_record_lines bytes) (and_then (read_terms bytes) (λ (t : Terms). remaining_balance t months))
  remaining_balance_refused_exactly months = of_loan bytes _ (λ t. loans.remaining_balance_refused_exactly t months)

  pub loan_to_value_refused_exactly : (value : Float) → ExactlyWhen (loan_record_lines bytes) (and_then (read_terms bytes) (λ (t : Terms). loan_to_value t value))
  loan_to_value_refused_exactly value = of_loan bytes _ (λ t. loans.loan_to_value_refused_exactly t value)

  pub savings_refused_exactly : (extra : Float) → ExactlyWhen (loan_record_lines bytes) (and_then (read_terms bytes) (λ (t : Terms). prepayment_savings t extra))
  savings_refused_exactly extra = of_loan bytes _ (λ t. loans.savings_refused_exactly t extra)

  pub listing_refused_exactly : ExactlyWhen (loan_record_lines bytes) (listed_size bytes)
  unfolding listed_size listed
  listing_refused_exactly =
      made_of (loan_record_lines bytes) (listed bytes) length
      (of_loan bytes _ (λ t. made_of (terms_lines t) (opened t) loan_lines (loans.opening_refused_exactly t)))

-- ---- break-even's two records
two_first : {A B : Type 0} (old new : Bool) (v w : A) (asked : A → A → Outcome B) (lines : List Line) → ExactlyWhen lines (asked v w)
    → ExactlyWhen (cond (old || new) (line_of_two 11 old new ∷ []) lines)
    (and_then (at 0 (judged (line 11 old ∷ []) v)) (λ (x : A). and_then (at 1 (judged (line 11 new ∷ []) w)) (λ (y : A). asked x y)))
unfolding judged first_or above
two_first true new v w asked lines ex =
    still_refused (line_of_two 11 true new ∷ []) (refused 11 0) (λ x. asked x w) (λ u. apart 11 0 u) (exactly v (line_of_two 11 true new ∷ []) tt)
two_first false true v w asked lines ex =
    still_refused (line_of_two 11 false true ∷ []) (refused 11 1) (λ x. asked x w) (λ u. apart 11 1 u) (exactly v (line_of_two 11 false true ∷ []) tt)
two_first false false v w asked lines ex = ex

pub break_even_refused_exactly : (old new : List ℕ) (cost : Float) (elapsed : ℕ) → ExactlyWhen (break_even_record_lines old new cost) (breakeven_of old new cost elapsed)
unfolding breakeven_of read_terms
break_even_refused_exactly old new cost elapsed =
    two_first (bad_record terms_kind terms_size old) (bad_record terms_kind terms_size new) (terms_in old) (terms_in new) (λ (was is : Terms). refinance_breakeven was is cost elapsed)
    (break_even_lines (terms_in old) (terms_in new) cost) (loans.break_even_refused_exactly (terms_in old) (terms_in new) cost elapsed)

-- ---- bonds
module _ (bytes : List ℕ) (beside : Float) where
  abbrev held : Bond
  held = bond_of (bond_in bytes)

  of_bond_lem : (asked : Bond → Outcome Float) (lines : List Line) → ExactlyWhen lines (asked held) → ExactlyWhen (bond_record_lines bytes beside lines) (of_bond bytes beside asked)
  unfolding bond_read read_bond_uncoded above
  of_bond_lem asked lines ex =
      record_and_code (bad_record bond_kind bond_size bytes) (bond_in bytes) (λ (b : BondRecord). bad_code last_frequency b.frequency) (λ (b : BondRecord). uncoded_lines b beside) bond_of asked lines tt ex

  -- with a yield beside it
  pub price_refused_exactly : ExactlyWhen (bond_record_lines bytes beside (bond_lines held beside)) (of_bond bytes beside (price beside))
  price_refused_exactly = of_bond_lem (price beside) _ (bonds.price_refused_exactly beside held)

  pub dv01_refused_exactly : ExactlyWhen (bond_record_lines bytes beside (bond_lines held beside)) (of_bond bytes beside (dv01 beside))
  dv01_refused_exactly = of_bond_lem (dv01 beside) _ (bonds.dv01_refused_exactly beside held)

  pub macaulay_refused_exactly : ExactlyWhen (bond_record_lines bytes beside (bond_lines held beside)) (of_bond bytes beside (macaulay_duration beside))
  macaulay_refused_exactly = of_bond_lem (macaulay_duration beside) _ (bonds.macaulay_refused_exactly beside held)

  pub modified_refused_exactly : ExactlyWhen (bond_record_lines bytes beside (bond_lines held beside)) (of_bond bytes beside (modified_duration beside))
  modified_refused_exactly = of_bond_lem (modified_duration beside) _ (bonds.modified_refused_exactly beside held)

  pub convexity_refused_exactly : ExactlyWhen (bond_record_lines bytes beside (bond_lines held beside)) (of_bond bytes beside (convexity beside))
  convexity_refused_exactly = of_bond_lem (convexity beside) _ (bonds.convexity_refused_exactly beside held)

  pub price_change_refused_exactly : (dy : Float) → ExactlyWhen (bond_record_lines bytes beside (bond_lines held beside)) (of_bond bytes beside (price_change beside dy))
  price_change_refused_exactly dy = of_bond_lem (price_change beside dy) _ (bonds.price_change_refused_exactly beside dy held)

  -- with a market price beside it
  pub current_yield_refused_exactly : ExactlyWhen (bond_record_lines bytes beside (bond_lines held beside)) (of_bond bytes beside (current_yield beside))
  current_yield_refused_exactly = of_bond_lem (current_yield beside) _ (bonds.current_yield_refused_exactly beside held)

  pub yield_refused_exactly : ExactlyWhen (bond_record_lines bytes beside (yield_lines held beside)) (of_bond bytes beside (yield_to_maturity beside))
  yield_refused_exactly = of_bond_lem (yield_to_maturity beside) _ (bonds.yield_refused_exactly beside held)

  -- what is asked at the yield that a market price has: the yield's lines, or, where a yield is given, the lines of what is asked at it
  abbrev RefusedAtPrice : Outcome Float → Type 0
  RefusedAtPrice o =
      (k p : ℕ)
      → (o ≡ refused k p)
      ↔ (Lowest (bond_record_lines bytes beside (yield_lines held beside)) k p
      ⊎ ((ytm : Float) × (of_bond bytes beside (yield_to_maturity beside) ≡ accepted ytm) × Lowest (bond_lines held ytm) k p))

  -- the bond that was read is the record's
  read_bond_is : (b : Bond) → bond_read bytes beside ≡ accepted b → b ≡ held
  unfolding bond_read read_bond_uncoded
  read_bond_is b = go (read_bond_uncoded bytes) refl
    where
      coded_is : (code : Bool) (others : Outcome Unit) (v : Bond) → coded code others v ≡ accepted b → b ≡ v
      coded_is true others v e = absurd (eleven_waits others v b e)
      coded_is false others v e = cc

      go : (x : Outcome BondRecord) → read_bond_uncoded bytes ≡ x
          → and_then x (λ (r : BondRecord). coded (bad_code last_frequency r.frequency) (judged (uncoded_lines r beside) tt) (bond_of r)) ≡ accepted b → b ≡ held
      go (refused k p) e h = absurd (apart k p b h)
      go (accepted r) e h =
          let is : r ≡ bond_in bytes = accepted_value (line 11 (bad_record bond_kind bond_size bytes) ∷ []) (bond_in bytes) r e in
          coded_is (bad_code last_frequency r.frequency) (judged (uncoded_lines r beside) tt) (bond_of r) h ∙ ap bond_of is

  at_its_yield : (asked : Float → Bond → Outcome Float) → ((ytm : Float) → ExactlyWhen (bond_lines held ytm) (asked ytm held))
      → RefusedAtPrice (of_bond bytes beside (λ (b : Bond). and_then (yield_to_maturity beside b) (λ (ytm : Float). asked ytm b)))
  at_its_yield asked ex =
      rw (one_bond (bond_read bytes beside) refl)
      (at_price_exactly (λ (ytm : Float). asked ytm held) (bond_lines held) ex (bond_record_lines bytes beside (yield_lines held beside)) (of_bond bytes beside (yield_to_maturity beside)) yield_refused_exactly)
    where
      one_bond : (x : Outcome Bond) → bond_read bytes beside ≡ x
          → and_then x (λ (b : Bond). and_then (yield_to_maturity beside b) (λ (ytm : Float). asked ytm b))
          ≡ and_then (and_then x (yield_to_maturity beside)) (λ (ytm : Float). asked ytm held)
      one_bond (refused k p) e = refl
      one_bond (accepted b) e = ap (λ (c : Bond). and_then (yield_to_maturity beside b) (λ (ytm : Float). asked ytm c)) (read_bond_is b e)

  pub macaulay_at_price_refused_exactly : RefusedAtPrice (of_bond bytes beside (macaulay_at_price beside))
  unfolding macaulay_at_price
  macaulay_at_price_refused_exactly = at_its_yield macaulay_duration (λ ytm. bonds.macaulay_refused_exactly ytm held)

  pub modified_at_price_refused_exactly : RefusedAtPrice (of_bond bytes beside (modified_at_price beside))
  unfolding modified_at_price
  modified_at_price_refused_exactly = at_its_yield modified_duration (λ ytm. bonds.modified_refused_exactly ytm held)

  pub convexity_at_price_refused_exactly : RefusedAtPrice (of_bond bytes beside (convexity_at_price beside))
  unfolding convexity_at_price
  convexity_at_price_refused_exactly = at_its_yield convexity (λ ytm. bonds.convexity_refused_exactly ytm held)

-- ---- swaps, undated and dated
module _ (bytes : List ℕ) (tenors zeros : List Float) where
  abbrev swap_held : AnySwap
  swap_held = Undated (swap_of (swap_in bytes))

  of_swap_lem : {B : Type 0} (asked : AnySwap → Outcome B) → ExactlyWhen (lines_of swap_held tenors zeros) (asked swap_held) → ExactlyWhen (swap_record_lines bytes tenors zeros) (of_swap bytes tenors zeros asked)
  unfolding swap_read read_swap_uncoded above
  of_swap_lem asked ex =
      record_and_code (bad_record swap_kind swap_size bytes) (swap_in bytes) (λ (s : SwapRecord). bad_code last_day_count s.count) (λ (s : SwapRecord). swap_lines (swap_of s) tenors zeros)
      (λ (s : SwapRecord). Undated (swap_of s)) asked (lines_of swap_held tenors zeros) tt ex

  abbrev dated_held : AnySwap
  dated_held = Dated (dated_swap_of (dated_swap_in bytes))

  of_dated_swap_lem : {B : Type 0} (asked : AnySwap → Outcome B) → ExactlyWhen (lines_of dated_held tenors zeros) (asked dated_held)
      → ExactlyWhen (dated_swap_record_lines bytes tenors zeros) (of_dated_swap bytes tenors zeros asked)
  unfolding dated_swap_read read_dated_swap_uncoded above
  of_dated_swap_lem asked ex =
      record_and_code (bad_record dated_swap_kind dated_swap_size bytes) (dated_swap_in bytes) (λ (s : DatedSwapRecord). bad_code last_day_count s.count)
      (λ (s : DatedSwapRecord). uncoded_dated_lines (dated_swap_of s) tenors zeros) (λ (s : DatedSwapRecord). Dated (dated_swap_of s)) asked (lines_of dated_held tenors zeros) tt ex

  pub fixed_leg_refused_exactly : ExactlyWhen (swap_record_lines bytes tenors zeros) (of_swap bytes tenors zeros (λ (s : AnySwap). fixed_leg_pv s tenors zeros))
  fixed_leg_refused_exactly = of_swap_lem _ (swaps.fixed_leg_refused_exactly swap_held tenors zeros)

  pub dated_fixed_leg_refused_exactly : ExactlyWhen (dated_swap_record_lines bytes tenors zeros) (of_dated_swap bytes tenors zeros (λ (s : AnySwap). fixed_leg_pv s tenors zeros))
  dated_fixed_leg_refused_exactly = of_dated_swap_lem _ (swaps.fixed_leg_refused_exactly dated_held tenors zeros)

  pub floating_leg_refused_exactly : ExactlyWhen (swap_record_lines bytes tenors zeros) (of_swap bytes tenors zeros (λ (s : AnySwap). floating_leg_pv s tenors zeros))
  floating_leg_refused_exactly = of_swap_lem _ (swaps.floating_leg_refused_exactly swap_held tenors zeros)

  pub dated_floating_leg_refused_exactly : ExactlyWhen (dated_swap_record_lines bytes tenors zeros) (of_dated_swap bytes tenors zeros (λ (s : AnySwap). floating_leg_pv s tenors zeros))
  dated_floating_leg_refused_exactly = of_dated_swap_lem _ (swaps.floating_leg_refused_exactly dated_held tenors zeros)

  pub par_rate_refused_exactly : ExactlyWhen (swap_record_lines bytes tenors zeros) (of_swap bytes tenors zeros (λ (s : AnySwap). par_swap_rate s tenors zeros))
  par_rate_refused_exactly = of_swap_lem _ (swaps.par_rate_refused_exactly swap_held tenors zeros)

  pub dated_par_rate_refused_exactly : ExactlyWhen (dated_swap_record_lines bytes tenors zeros) (of_dated_swap bytes tenors zeros (λ (s : AnySwap). par_swap_rate s tenors zeros))
  dated_par_rate_refused_exactly = of_dated_swap_lem _ (swaps.par_rate_refused_exactly dated_held tenors zeros)

  pub duration_refused_exactly : ExactlyWhen (swap_record_lines bytes tenors zeros) (of_swap bytes tenors zeros (λ (s : AnySwap). swap_duration s tenors zeros))
  duration_refused_exactly = of_swap_lem _ (swaps.duration_refused_exactly swap_held tenors zeros)

  pub dated_duration_refused_exactly : ExactlyWhen (dated_swap_record_lines bytes tenors zeros) (of_dated_swap bytes tenors zeros (λ (s : AnySwap). swap_duration s tenors zeros))
  dated_duration_refused_exactly = of_dated_swap_lem _ (swaps.duration_refused_exactly dated_held tenors zeros)

  module _ (receives_fixed : Bool) where
    pub npv_refused_exactly : ExactlyWhen (swap_record_lines bytes tenors zeros) (of_swap bytes tenors zeros (λ (s : AnySwap). swap_npv s tenors zeros receives_fixed))
    npv_refused_exactly = of_swap_lem _ (swaps.npv_refused_exactly swap_held tenors zeros receives_fixed)

    pub dated_npv_refused_exactly : ExactlyWhen (dated_swap_record_lines bytes tenors zeros) (of_dated_swap bytes tenors zeros (λ (s : AnySwap). swap_npv s tenors zeros receives_fixed))
    dated_npv_refused_exactly = of_dated_swap_lem _ (swaps.npv_refused_exactly dated_held tenors zeros receives_fixed)

    pub swap_dv01_refused_exactly : ExactlyWhen (swap_record_lines bytes tenors zeros) (of_swap bytes tenors zeros (λ (s : AnySwap). swap_dv01 s tenors zeros receives_fixed))
    swap_dv01_refused_exactly = of_swap_lem _ (swaps.dv01_refused_exactly swap_held tenors zeros receives_fixed)

    pub dated_swap_dv01_refused_exactly : ExactlyWhen (dated_swap_record_lines bytes tenors zeros) (of_dated_swap bytes tenors zeros (λ (s : AnySwap). swap_dv01 s tenors zeros receives_fixed))
    dated_swap_dv01_refused_exactly = of_dated_swap_lem _ (swaps.dv01_refused_exactly dated_held tenors zeros receives_fixed)

    pub value_refused_exactly : ExactlyWhen (swap_record_lines bytes tenors zeros) (of_swap bytes tenors zeros (λ (s : AnySwap). value_swap s tenors zeros receives_fixed))
    value_refused_exactly = of_swap_lem _ (swaps.value_refused_exactly swap_held tenors zeros receives_fixed)

    pub dated_value_refused_exactly : ExactlyWhen (dated_swap_record_lines bytes tenors zeros) (of_dated_swap bytes tenors zeros (λ (s : AnySwap). value_swap s tenors zeros receives_fixed))
    dated_value_refused_exactly = of_dated_swap_lem _ (swaps.value_refused_exactly dated_held tenors zeros receives_fixed)

-- ---- the fraction of a year between two dates, and a dated swap that is written: 11 before 15
module _ (code : ℕ) (first second : Date) where
  fraction_lines : (bad : Bool) → bad_code last_day_count code ≡ bad
      → judged (line 11 (bad_code last_day_count code) ∷ dates_line first second ∷ []) (dated_fraction (day_count_at code) first second) ≡ dated_fraction_by code first second
  unfolding dated_fraction_by day_count_of dated_fraction_of judged first_or
  fraction_lines true e = rw e
  fraction_lines false e = rw e

  pub dated_fraction_refused_exactly : ExactlyWhen (line 11 (bad_code last_day_count code) ∷ dates_line first second ∷ []) (dated_fraction_by code first second)
  unfolding above
  dated_fraction_refused_exactly = rw (← fraction_lines (bad_code last_day_count code) refl) (exactly (dated_fraction (day_count_at code) first second) (line 11 (bad_code last_day_count code) ∷ dates_line first second ∷ []) tt)

  pub writing_refused_exactly : {Value : Type 0} (v : Value) → ExactlyWhen (written_lines code first second) (judged (written_lines code first second) v)
  unfolding above
  writing_refused_exactly v = exactly v (written_lines code first second) tt
