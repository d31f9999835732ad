-- More than 1,200 flows are refused alike, whatever they are: the curve's own refusal comes first, and else line 7. Assumes nothing.
use mathlib.Core.Path.{◌≡◌, ap, ◌∙◌}
use mathlib.Core.Bool.{Bool}
use mathlib.Core.List.{List, [], ◌∷◌}
use Prim.Native.Nat.{◌<◌}
use native.Mathlib.Omega.{arith}
use lib.ListN.{length, length-map}
use lib.Ieee.{Float}
use borrow.Author.Tests.{lt-ltb}
use Rattle.refusals.specs.Outcome.{Outcome, refused, Line, first_or, judged}
use Rattle.refusals.specs.Table.{too_many_flows}
use Rattle.refusals.proofs.Judging.{followed, judged_in_parts}
use Rattle.refusals.specs.Answers.{number}
use Rattle.refusals.specs.declared.Refusal.{Refusal}
use Rattle.refusals.proofs.Verdicts.{refused_alike}
use Rattle.curves.specs.Curve.{curve_lines}
use Rattle.spread_analytics.specs.declared.dated.CashFlow.{CashFlow}
use Rattle.spread_analytics.specs.Dated.{times_of, amounts_of}
use Rattle.spread_analytics.specs.Spread.{spread_lines}
use Rattle.spread_analytics.proofs.SpreadVerdict.{times_line, amounts_line, equal}

-- line 7 has its single cause
refused_7 : {Value : Type 0} (times : List Float) (ls : List Line) (v : Value) → 1200 < length times → judged (times_line times ∷ ls) v ≡ refused 7 0
unfolding judged first_or too_many_flows
refused_7 [] ls v h = absurd (omega arith)
refused_7 (t ∷ ts) ls v h = rw (lt-ltb 1200 (length (t ∷ ts)) h)

abbrev pub count_refusal : {Value : Type 0} → List Float → List Float → Outcome Value
count_refusal tenors rates = followed (judged (curve_lines tenors rates) tt) (refused 7 0)

pub too_many : {Value : Type 0} (times amounts tenors rates : List Float) (bad : Bool) (v : Value) → length times ≡ length amounts → 1200 < length times
    → judged (spread_lines times amounts tenors rates bad) v ≡ count_refusal tenors rates
too_many times amounts tenors rates bad v same many =
    rw (equal _ _ same)
    (judged_in_parts (curve_lines tenors rates) (times_line times ∷ amounts_line bad amounts ∷ []) v ∙ ap (followed (judged (curve_lines tenors rates) tt)) (refused_7 times (amounts_line bad amounts ∷ []) v many))

-- ---- dated flows: what their count is refused with is the core's answer at their two lists
pub refused_for_flows : {Value : Type 0} (flows : List CashFlow) (tenors rates : List Float) (bad : Bool) (v : Value) (r : Refusal)
    → ((times amounts : List Float) (bad : Bool) → length times ≡ length flows → length amounts ≡ length flows → ◌≡◌ {A = Outcome Unit} (refused (number r.cause) r.place) (judged (spread_lines times amounts tenors rates bad) tt))
    → refused (number r.cause) r.place ≡ judged (spread_lines (times_of flows) (amounts_of flows) tenors rates bad) v
refused_for_flows flows tenors rates bad v r many = refused_alike _ v _ _ (many (times_of flows) (amounts_of flows) bad (length-map flows _) (length-map flows _))
