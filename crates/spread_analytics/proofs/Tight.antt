-- How tight the promises are: whatever a public function is given, any two results that its contract allows are equal, and for a bond's cash flows so are any two last states of the
-- two lent lists. Those over dated flows promise the same equations at the flows' two lists. Assumes nothing.
use mathlib.Core.Path.{◌≡◌, sym, ap, ◌∙◌}
use mathlib.Core.List.{List}
use lib.Ieee.{Float}
use Rattle.numbers.proofs.Determined.{Determined, Settled}
use Rattle.refusals.proofs.OneToOne.{one_to_one, same_refusal}
use Rattle.spread_analytics.specs.declared.units.BasisPoints.{BasisPoints}
use Rattle.spread_analytics.specs.declared.units.DecimalRate.{DecimalRate}
use Rattle.spread_analytics.specs.declared.dated.CashFlow.{CashFlow}
use Rattle.spread_analytics.specs.Spread.{pv_cash_flows, z_spread, duration_convexity, spread_outcome}
use Rattle.spread_analytics.specs.Dated.{times_of, amounts_of}
use Rattle.spread_analytics.proofs.units.to_decimal.Kinds as to_decimal_kinds
use Rattle.spread_analytics.proofs.units.to_decimal.Reads as to_decimal
use Rattle.spread_analytics.proofs.rate_curves.rate_at.Kinds as rate_at_kinds
use Rattle.spread_analytics.proofs.rate_curves.rate_at.Reads as rate_at_lem
use Rattle.spread_analytics.proofs.rate_curves.swap_rate_at.Kinds as swap_rate_at_kinds
use Rattle.spread_analytics.proofs.rate_curves.swap_rate_at.Reads as swap_rate_at
use Rattle.spread_analytics.proofs.rate_curves.discount_factor.Kinds as discount_factor_kinds
use Rattle.spread_analytics.proofs.rate_curves.discount_factor.Reads as discount_factor
use Rattle.spread_analytics.proofs.rate_curves.forward_rate.Kinds as forward_rate_kinds
use Rattle.spread_analytics.proofs.rate_curves.forward_rate.Reads as forward_rate
use Rattle.spread_analytics.proofs.spread.pv_cash_flows.Kinds as pv_cash_flows_kinds
use Rattle.spread_analytics.proofs.spread.pv_cash_flows.Reads as pv_cash_flows_reads
use Rattle.spread_analytics.proofs.spread.z_spread.Kinds as z_spread_kinds
use Rattle.spread_analytics.proofs.spread.z_spread.Reads as z_spread_reads
use Rattle.spread_analytics.proofs.spread.duration_convexity.Kinds as duration_convexity_kinds
use Rattle.spread_analytics.proofs.spread.duration_convexity.Reads as duration_convexity_reads
use Rattle.spread_analytics.proofs.flows.bond_cash_flows.Kinds as bond_cash_flows_kinds
use Rattle.spread_analytics.proofs.flows.bond_cash_flows.Reads as bond_cash_flows
use Rattle.spread_analytics.proofs.curves_each.rate_at_each.Kinds as rate_at_each_kinds
use Rattle.spread_analytics.proofs.curves_each.rate_at_each.Reads as rate_at_each
use Rattle.spread_analytics.proofs.curves_each.discount_factor_at_each.Kinds as discount_factor_at_each_kinds
use Rattle.spread_analytics.proofs.curves_each.discount_factor_at_each.Reads as discount_factor_at_each
use Rattle.std.specs.declared.result.Result.TheVariants.{Ok, Err}
use Rattle.std.specs.declared.result.Result.{Result}
use Rattle.refusals.specs.declared.Refusal.{Refusal}
use Rattle.refusals.specs.Answers.{outcome}
use Rattle.spread_analytics.specs.declared.spread.Spread.{Spread}
use Rattle.spread_analytics.specs.declared.spread.Sensitivity.{Sensitivity}
use Rattle.spread_analytics.specs.declared.spread.Spread.TheVariants.{Found as Within, NoSignChange}

-- ---- each answer has its own outcome
same_points : (s t : BasisPoints) → s.0 ≡ t.0 → s ≡ t
same_points s t e = ap (λ (x : Float). record { 0 = x }) e

same_rate : (s t : DecimalRate) → s.0 ≡ t.0 → s ≡ t
same_rate s t e = ap (λ (x : Float). record { 0 = x }) e

pub spread_one_to_one : (x y : Result Spread Refusal) → spread_outcome x ≡ spread_outcome y → x ≡ y
spread_one_to_one (Err r) (Err s) e = ap Err (same_refusal r s e)
spread_one_to_one (Err r) (Ok (Within t)) e = cc
spread_one_to_one (Err r) (Ok (NoSignChange t)) e = cc
spread_one_to_one (Ok (Within s)) (Err r) e = cc
spread_one_to_one (Ok (Within s)) (Ok (Within t)) e = ap (λ (p : BasisPoints). Ok (Within p)) (same_points s t (cc))
spread_one_to_one (Ok (Within s)) (Ok (NoSignChange t)) e = cc
spread_one_to_one (Ok (NoSignChange s)) (Err r) e = cc
spread_one_to_one (Ok (NoSignChange s)) (Ok (Within t)) e = cc
spread_one_to_one (Ok (NoSignChange s)) (Ok (NoSignChange t)) e = ap (λ (p : BasisPoints). Ok (NoSignChange p)) (same_points s t (cc))

-- ---- so each promise leaves one result
pub to_decimal_determined : Determined 0 to_decimal_kinds.ps to_decimal_kinds.r to_decimal.Post
to_decimal_determined κs a x y e e' p q = same_rate x y (p ∙ sym q)

pub rate_at_determined : Determined 2 rate_at_kinds.ps rate_at_kinds.r rate_at_lem.Post
rate_at_determined κs a x y e e' p q = one_to_one x y (p ∙ sym q)

pub swap_rate_at_determined : Determined 2 swap_rate_at_kinds.ps swap_rate_at_kinds.r swap_rate_at.Post
swap_rate_at_determined κs a x y e e' p q = one_to_one x y (p ∙ sym q)

pub discount_factor_determined : Determined 2 discount_factor_kinds.ps discount_factor_kinds.r discount_factor.Post
discount_factor_determined κs a x y e e' p q = one_to_one x y (p ∙ sym q)

pub forward_rate_determined : Determined 2 forward_rate_kinds.ps forward_rate_kinds.r forward_rate.Post
forward_rate_determined κs a x y e e' p q = one_to_one x y (p ∙ sym q)

pub pv_cash_flows_determined : Determined 4 pv_cash_flows_kinds.ps pv_cash_flows_kinds.r pv_cash_flows_reads.Post
pv_cash_flows_determined κs a x y e e' p q = one_to_one x y (p ∙ sym q)

pub z_spread_determined : Determined 4 z_spread_kinds.ps z_spread_kinds.r z_spread_reads.Post
z_spread_determined κs a x y e e' p q = spread_one_to_one x y (p ∙ sym q)

pub duration_convexity_determined : Determined 4 duration_convexity_kinds.ps duration_convexity_kinds.r duration_convexity_reads.Post
duration_convexity_determined κs a x y e e' p q = one_to_one x y (p ∙ sym q)

pub bond_cash_flows_determined : Determined 2 bond_cash_flows_kinds.ps bond_cash_flows_kinds.r bond_cash_flows.Post
bond_cash_flows_determined κs a x y e e' p q = one_to_one x y (p.0 ∙ sym q.0)

-- and a bond's cash flows leave one state of the times and one of the amounts, the last two parameters
pub bond_cash_flows_settled : Settled 2 bond_cash_flows_kinds.ps bond_cash_flows_kinds.r bond_cash_flows.Post
bond_cash_flows_settled κs a x y w w' p q =
    ap (λ (times : List Float). (tt, (tt, (tt, (tt, (times, (w.1.1.1.1.1.0, tt))))))) (p.1.0 ∙ sym q.1.0)
    ∙ ap (λ (amounts : List Float). (tt, (tt, (tt, (tt, (w'.1.1.1.1.0, (amounts, tt))))))) (p.1.1 ∙ sym q.1.1)

-- ---- dated flows: a promise of that form leaves one result
module _ (flows : List CashFlow) (tenors rates : List Float) (s : Float) where
  pub pv_of_determined : (x y : Result Float Refusal) → outcome x ≡ pv_cash_flows (times_of flows) (amounts_of flows) tenors rates s
      → outcome y ≡ pv_cash_flows (times_of flows) (amounts_of flows) tenors rates s → x ≡ y
  pv_of_determined x y p q = one_to_one x y (p ∙ sym q)

  pub z_spread_of_determined : (x y : Result Spread Refusal) → spread_outcome x ≡ z_spread (times_of flows) (amounts_of flows) tenors rates s
      → spread_outcome y ≡ z_spread (times_of flows) (amounts_of flows) tenors rates s → x ≡ y
  z_spread_of_determined x y p q = spread_one_to_one x y (p ∙ sym q)

  pub duration_convexity_of_determined : (x y : Result Sensitivity Refusal) → outcome x ≡ duration_convexity (times_of flows) (amounts_of flows) tenors rates s
      → outcome y ≡ duration_convexity (times_of flows) (amounts_of flows) tenors rates s → x ≡ y
  duration_convexity_of_determined x y p q = one_to_one x y (p ∙ sym q)

-- ---- lists of lookups: one verdict, and one list after the call
pub rate_at_each_determined : Determined 3 rate_at_each_kinds.ps rate_at_each_kinds.r rate_at_each.Post
rate_at_each_determined κs a x y e e' p q = one_to_one x y (p.0 ∙ sym q.0)

pub rate_at_each_settled : Settled 3 rate_at_each_kinds.ps rate_at_each_kinds.r rate_at_each.Post
rate_at_each_settled κs a x y w w' p q = ap (λ (l : List Float). (tt, (tt, (l, tt)))) (p.1 ∙ sym q.1)

pub discount_factor_at_each_determined : Determined 3 discount_factor_at_each_kinds.ps discount_factor_at_each_kinds.r discount_factor_at_each.Post
discount_factor_at_each_determined κs a x y e e' p q = one_to_one x y (p.0 ∙ sym q.0)

pub discount_factor_at_each_settled : Settled 3 discount_factor_at_each_kinds.ps discount_factor_at_each_kinds.r discount_factor_at_each.Post
discount_factor_at_each_settled κs a x y w w' p q = ap (λ (l : List Float). (tt, (tt, (l, tt)))) (p.1 ∙ sym q.1)
