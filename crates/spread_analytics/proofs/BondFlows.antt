-- A bond's cash flows: the lines that are asked first, in the code's order, and what each answer leaves in the two lent lists. Assumes nothing.
use mathlib.Core.Path.{◌≡◌, refl, sym, ap, ◌∙◌}
use mathlib.Core.Bool.{Bool, true, false, cond, not, ◌&&◌, ◌||◌}
use mathlib.Core.List.{List, [], ◌∷◌, ◌++◌}
use Prim.Native.Nat.{ℕ, ◌≤◌}
use native.Mathlib.Omega.{arith}
use lib.Dec.{eqb, ltb}
use lib.IntN.{pos}
use lib.ListN.{length, drop}
use lib.Ieee.{Float, binary64, add, mul, div, of_int}
use borrow.Author.Tests.{ltb-false}
use Rattle.numbers.specs.Literals.{one}
use Rattle.numbers.specs.Whole.{nearest_whole}
use Rattle.refusals.specs.declared.Refusal.{Refusal}
use Rattle.refusals.specs.Outcome.{Outcome, refused, accepted, Line, line, first_or, judged}
use Rattle.refusals.specs.Table.{bad_amount, no_room_in_either, bad_time, too_many_periods, bad_number}
use Rattle.refusals.proofs.Causes.{neither}
use Rattle.refusals.proofs.Verdicts.{verdict, refused_by, accepted_by}
use Rattle.spread_analytics.specs.Flows.{per_year, flow_count, flow_period, flow_coupon, flow_time, flow_amount, bad_flows, no_flow_room, bond_cash_flows, first_of, column_in}
use Rattle.std.specs.declared.result.Result.TheVariants.{Ok, Err}
use Rattle.std.specs.declared.result.Result.{Result}
use Rattle.refusals.specs.Answers.{number, outcome}

-- ---- lines 1, 3, 7 and 9, by their causes
abbrev pub flow_lines_by : Bool → Bool → Bool → Bool → List Line
flow_lines_by face many short coupon = line 1 face ∷ line 3 (not many && short) ∷ line 7 many ∷ line 9 coupon ∷ []

module _ (face many short coupon : Bool) where
  pub refused_1 : face ≡ true → refused 1 0 ≡ verdict (flow_lines_by face many short coupon)
  unfolding judged first_or
  refused_1 a = rw a

  pub refused_7 : face ≡ false → many ≡ true → refused 7 0 ≡ verdict (flow_lines_by face many short coupon)
  unfolding judged first_or
  refused_7 a b = rw (a, b)

  pub refused_3 : face ≡ false → many ≡ false → short ≡ true → refused 3 0 ≡ verdict (flow_lines_by face many short coupon)
  unfolding judged first_or
  refused_3 a b d = rw (a, b, d)

  pub refused_9 : face ≡ false → many ≡ false → short ≡ false → coupon ≡ true → refused 9 0 ≡ verdict (flow_lines_by face many short coupon)
  unfolding judged first_or
  refused_9 a b d e = rw (a, b, d, e)

  pub accepted_all : face ≡ false → many ≡ false → short ≡ false → coupon ≡ false → accepted tt ≡ verdict (flow_lines_by face many short coupon)
  unfolding judged first_or
  accepted_all a b d e = rw (a, b, d, e)

-- where they accept, there is room
not_short : (face many short coupon : Bool) → accepted tt ≡ verdict (flow_lines_by face many short coupon) → short ≡ false
unfolding judged first_or
not_short true many short coupon e = let z : ◌≡◌ {A = ℕ} 0 1 = cc in absurd (omega arith)
not_short false true short coupon e = let z : ◌≡◌ {A = ℕ} 0 1 = cc in absurd (omega arith)
not_short false false true coupon e = let z : ◌≡◌ {A = ℕ} 0 1 = cc in absurd (omega arith)
not_short false false false coupon e = refl

pub room_for_all : (face many coupon : Bool) (times amounts count : ℕ) (x : Result Unit Refusal) → x ≡ Ok tt
    → outcome x ≡ verdict (flow_lines_by face many (no_room_in_either count times amounts) coupon) → (count ≤ times) × (count ≤ amounts)
unfolding no_room_in_either
room_for_all face many coupon times amounts count x h e =
    let s = neither (ltb times count) (ltb amounts count) (not_short face many _ coupon (sym (ap outcome h) ∙ e)) in
    (ltb-false times count s.0, ltb-false amounts count s.1)

-- ---- the columns as the code works them out are the definition's
module _ (face coupon tenor : Float) (frequency count : ℕ) where
  count_is : count ≡ nearest_whole (mul binary64 tenor (per_year frequency)) → count ≡ flow_count face coupon tenor frequency
  unfolding flow_count
  count_is n = n

  times_are : (period : Float) → period ≡ div binary64 one (per_year frequency) → (room : List Float)
      → first_of (λ (i : ℕ). mul binary64 (of_int binary64 (pos i)) period) count ++ drop count room ≡ first_of (flow_time face coupon tenor frequency) count ++ drop count room
  unfolding flow_time flow_period
  times_are period p room = rw p

  amounts_are : count ≡ nearest_whole (mul binary64 tenor (per_year frequency)) → (paid : Float) → paid ≡ div binary64 (mul binary64 face coupon) (per_year frequency) → (room : List Float)
      → first_of (λ (i : ℕ). cond (eqb i count) (add binary64 paid face) paid) count ++ drop count room ≡ first_of (flow_amount face coupon tenor frequency) count ++ drop count room
  unfolding flow_amount flow_coupon flow_count
  amounts_are n paid q room = ap (λ (g : ℕ → Float). first_of g count ++ drop count room) (same_amounts n paid q)
    where
      same_amounts : count ≡ nearest_whole (mul binary64 tenor (per_year frequency)) → (paid : Float) → paid ≡ div binary64 (mul binary64 face coupon) (per_year frequency)
          → ◌≡◌ {A = ℕ → Float} (λ (i : ℕ). cond (eqb i count) (add binary64 paid face) paid) (flow_amount face coupon tenor frequency)
      same_amounts n paid q = simp (n, q)

-- ---- the two lists after it
module _ (face coupon tenor : Float) (frequency count : ℕ) (times amounts : List Float) (x : Result Unit Refusal) (n : count ≡ nearest_whole (mul binary64 tenor (per_year frequency)))
    (e : outcome x ≡ verdict (flow_lines_by (bad_amount face) (bad_time tenor || too_many_periods count) (no_room_in_either count (length times) (length amounts)) (bad_number coupon))) where
  abbrev answered : Outcome ℕ
  answered = bond_cash_flows face coupon tenor frequency times amounts

  as_lines : {Value : Type 0} (o : Outcome Value) (v : Value)
      → o ≡ judged (flow_lines_by (bad_amount face) (bad_time tenor || too_many_periods count) (no_room_in_either count (length times) (length amounts)) (bad_number coupon)) v
      → o ≡ judged (flow_lines_by (bad_amount face) (bad_flows face coupon tenor frequency) (no_room_in_either (flow_count face coupon tenor frequency) (length times) (length amounts)) (bad_number coupon)) v
  unfolding bad_flows flow_count
  as_lines o v h = h ∙ rw n

  refused_is : (r : Refusal) → x ≡ Err r → refused (number r.cause) r.place ≡ answered
  unfolding bond_cash_flows no_flow_room
  refused_is r h = as_lines _ _ (refused_by _ (flow_count face coupon tenor frequency) x r h e)

  accepted_is : x ≡ Ok tt → accepted count ≡ answered
  unfolding bond_cash_flows no_flow_room
  accepted_is h = ap accepted to_count ∙ as_lines _ _ (accepted_by _ (flow_count face coupon tenor frequency) x h e)
    where
      to_count : count ≡ flow_count face coupon tenor frequency
      to_count = count_is face coupon tenor frequency count n

  pub refused_untouched : (r : Refusal) → x ≡ Err r
      → (refused (number r.cause) r.place ≡ answered)
      × ((times ≡ column_in answered (flow_time face coupon tenor frequency) times)
      × (amounts ≡ column_in answered (flow_amount face coupon tenor frequency) amounts))
  refused_untouched r h =
      let o = refused_is r h in
      (o, (ap (λ (y : Outcome ℕ). column_in y (flow_time face coupon tenor frequency) times) o, ap (λ (y : Outcome ℕ). column_in y (flow_amount face coupon tenor frequency) amounts) o))

  pub accepted_put : x ≡ Ok tt → (period paid : Float) → period ≡ div binary64 one (per_year frequency) → paid ≡ div binary64 (mul binary64 face coupon) (per_year frequency)
      → (times' amounts' : List Float)
      → times' ≡ first_of (λ (i : ℕ). mul binary64 (of_int binary64 (pos i)) period) count ++ drop count times
      → amounts' ≡ first_of (λ (i : ℕ). cond (eqb i count) (add binary64 paid face) paid) count ++ drop count amounts
      → (accepted count ≡ answered)
      × ((times' ≡ column_in answered (flow_time face coupon tenor frequency) times)
      × (amounts' ≡ column_in answered (flow_amount face coupon tenor frequency) amounts))
  accepted_put h period paid p q times' amounts' ts bs =
      let o = accepted_is h in (
        o,
        (
          ts ∙ times_are face coupon tenor frequency count period p times ∙ ap (λ (y : Outcome ℕ). column_in y (flow_time face coupon tenor frequency) times) o,
          bs ∙ amounts_are face coupon tenor frequency count n paid q amounts ∙ ap (λ (y : Outcome ℕ). column_in y (flow_amount face coupon tenor frequency) amounts) o,
        ),
      )
