-- How tight the promises are: whatever a public function is given, any two results that its contract allows are equal. Assumes nothing.
use mathlib.Core.Path.{◌≡◌, sym, ap, ◌∙◌}
use mathlib.Core.List.{List}
use lib.Ieee.{Float}
use Rattle.numbers.proofs.Determined.{Determined, Settled}
use Rattle.refusals.proofs.OneToOne.{one_to_one}
use Rattle.swaps.specs.declared.bootstrap.Bootstrap.{Bootstrap}
use Rattle.swaps.specs.declared.bootstrap.DiscountCurve.{DiscountCurve}
use Rattle.swaps.proofs.judging.judge_swap.Kinds as judge_swap_kinds
use Rattle.swaps.proofs.judging.judge_swap.Reads as judge_swap
use Rattle.swaps.proofs.judging.judge_but_dates.Kinds as judge_but_dates_kinds
use Rattle.swaps.proofs.judging.judge_but_dates.Reads as judge_but_dates
use Rattle.swaps.proofs.judging.judge_any.Kinds as judge_any_kinds
use Rattle.swaps.proofs.judging.judge_any.Reads as judge_any
use Rattle.swaps.proofs.day_counts.day_count_fraction.Kinds as day_count_fraction_kinds
use Rattle.swaps.proofs.day_counts.day_count_fraction.Reads as day_count_fraction
use Rattle.swaps.proofs.day_counts.dated_fraction.Kinds as dated_fraction_kinds
use Rattle.swaps.proofs.day_counts.dated_fraction.Reads as dated_fraction
use Rattle.swaps.proofs.day_counts.day_count_of.Kinds as day_count_of_kinds
use Rattle.swaps.proofs.day_counts.day_count_of.Reads as day_count_of
use Rattle.swaps.proofs.day_counts.code_of.Kinds as code_of_kinds
use Rattle.swaps.proofs.day_counts.code_of.Reads as code_of_lem
use Rattle.swaps.proofs.discount.rate_at.Kinds as rate_at_kinds
use Rattle.swaps.proofs.discount.rate_at.Reads as rate_at_lem
use Rattle.swaps.proofs.discount.discount_factor.Kinds as discount_factor_kinds
use Rattle.swaps.proofs.discount.discount_factor.Reads as discount_factor
use Rattle.swaps.proofs.bootstrap.from_par_rates.Kinds as from_par_rates_kinds
use Rattle.swaps.proofs.bootstrap.from_par_rates.Reads as from_par_rates
use Rattle.swaps.proofs.legs.fixed_leg_pv.Kinds as fixed_leg_pv_kinds
use Rattle.swaps.proofs.legs.fixed_leg_pv.Reads as fixed_leg_pv
use Rattle.swaps.proofs.legs.floating_leg_pv.Kinds as floating_leg_pv_kinds
use Rattle.swaps.proofs.legs.floating_leg_pv.Reads as floating_leg_pv
use Rattle.swaps.proofs.valuation.swap_npv.Kinds as swap_npv_kinds
use Rattle.swaps.proofs.valuation.swap_npv.Reads as swap_npv
use Rattle.swaps.proofs.valuation.par_swap_rate.Kinds as par_swap_rate_kinds
use Rattle.swaps.proofs.valuation.par_swap_rate.Reads as par_swap_rate
use Rattle.swaps.proofs.valuation.swap_dv01.Kinds as swap_dv01_kinds
use Rattle.swaps.proofs.valuation.swap_dv01.Reads as swap_dv01
use Rattle.swaps.proofs.valuation.swap_duration.Kinds as swap_duration_kinds
use Rattle.swaps.proofs.valuation.swap_duration.Reads as swap_duration
use Rattle.swaps.proofs.valuation.value_swap.Kinds as value_swap_kinds
use Rattle.swaps.proofs.valuation.value_swap.Reads as value_swap
use Rattle.swaps.proofs.discount_each.rate_at_each.Kinds as rate_at_each_kinds
use Rattle.swaps.proofs.discount_each.rate_at_each.Reads as rate_at_each
use Rattle.swaps.proofs.discount_each.discount_factor_at_each.Kinds as discount_factor_at_each_kinds
use Rattle.swaps.proofs.discount_each.discount_factor_at_each.Reads as discount_factor_at_each
use Rattle.std.specs.declared.result.Result.{Result}
use Rattle.refusals.specs.declared.Refusal.{Refusal}

pub bootstrap_told : (x y : Bootstrap) → x.verdict ≡ y.verdict → x.curve ≡ y.curve → x ≡ y
bootstrap_told x y v c =
    ap (λ (w : Result Unit Refusal). record { verdict = w; curve = x.curve }) v ∙ ap (λ (d : DiscountCurve). record { verdict = y.verdict; curve = d }) c

pub day_count_fraction_determined : Determined 0 day_count_fraction_kinds.ps day_count_fraction_kinds.r day_count_fraction.Post
day_count_fraction_determined κs a x y e e' p q = p ∙ sym q

pub dated_fraction_determined : Determined 0 dated_fraction_kinds.ps dated_fraction_kinds.r dated_fraction.Post
dated_fraction_determined κs a x y e e' p q = one_to_one x y (p ∙ sym q)

pub day_count_of_determined : Determined 0 day_count_of_kinds.ps day_count_of_kinds.r day_count_of.Post
day_count_of_determined κs a x y e e' p q = one_to_one x y (p ∙ sym q)

pub code_of_determined : Determined 0 code_of_kinds.ps code_of_kinds.r code_of_lem.Post
code_of_determined κs a x y e e' p q = p ∙ sym q

pub rate_at_determined : Determined 2 rate_at_kinds.ps rate_at_kinds.r rate_at_lem.Post
rate_at_determined κs a x y e e' p q = one_to_one x y (p ∙ sym q)

pub discount_factor_determined : Determined 2 discount_factor_kinds.ps discount_factor_kinds.r discount_factor.Post
discount_factor_determined κs a x y e e' p q = one_to_one x y (p ∙ sym q)

pub from_par_rates_determined : Determined 2 from_par_rates_kinds.ps from_par_rates_kinds.r from_par_rates.Post
from_par_rates_determined κs a x y e e' p q = bootstrap_told x y (one_to_one _ _ (p.0 ∙ sym q.0)) (p.1 ∙ sym q.1)

pub fixed_leg_pv_determined : Determined 2 fixed_leg_pv_kinds.ps fixed_leg_pv_kinds.r fixed_leg_pv.Post
fixed_leg_pv_determined κs a x y e e' p q = one_to_one x y (p ∙ sym q)

pub floating_leg_pv_determined : Determined 2 floating_leg_pv_kinds.ps floating_leg_pv_kinds.r floating_leg_pv.Post
floating_leg_pv_determined κs a x y e e' p q = one_to_one x y (p ∙ sym q)

pub swap_npv_determined : Determined 2 swap_npv_kinds.ps swap_npv_kinds.r swap_npv.Post
swap_npv_determined κs a x y e e' p q = one_to_one x y (p ∙ sym q)

pub par_swap_rate_determined : Determined 2 par_swap_rate_kinds.ps par_swap_rate_kinds.r par_swap_rate.Post
par_swap_rate_determined κs a x y e e' p q = one_to_one x y (p ∙ sym q)

pub swap_dv01_determined : Determined 2 swap_dv01_kinds.ps swap_dv01_kinds.r swap_dv01.Post
swap_dv01_determined κs a x y e e' p q = one_to_one x y (p ∙ sym q)

pub swap_duration_determined : Determined 2 swap_duration_kinds.ps swap_duration_kinds.r swap_duration.Post
swap_duration_determined κs a x y e e' p q = one_to_one x y (p ∙ sym q)

pub value_swap_determined : Determined 2 value_swap_kinds.ps value_swap_kinds.r value_swap.Post
value_swap_determined κs a x y e e' p q = one_to_one x y (p ∙ sym q)

pub judge_swap_determined : Determined 2 judge_swap_kinds.ps judge_swap_kinds.r judge_swap.Post
judge_swap_determined κs a x y e e' p q = one_to_one x y (p ∙ sym q)

pub judge_but_dates_determined : Determined 2 judge_but_dates_kinds.ps judge_but_dates_kinds.r judge_but_dates.Post
judge_but_dates_determined κs a x y e e' p q = one_to_one x y (p ∙ sym q)

pub judge_any_determined : Determined 2 judge_any_kinds.ps judge_any_kinds.r judge_any.Post
judge_any_determined κs a x y e e' p q = one_to_one x y (p ∙ sym q)

-- ---- lists of lookups: one verdict, and one list after the call
pub rate_at_each_determined : Determined 3 rate_at_each_kinds.ps rate_at_each_kinds.r rate_at_each.Post
rate_at_each_determined κs a x y e e' p q = one_to_one x y (p.0 ∙ sym q.0)

pub rate_at_each_settled : Settled 3 rate_at_each_kinds.ps rate_at_each_kinds.r rate_at_each.Post
rate_at_each_settled κs a x y w w' p q = ap (λ (l : List Float). (tt, (tt, (l, tt)))) (p.1 ∙ sym q.1)

pub discount_factor_at_each_determined : Determined 3 discount_factor_at_each_kinds.ps discount_factor_at_each_kinds.r discount_factor_at_each.Post
discount_factor_at_each_determined κs a x y e e' p q = one_to_one x y (p.0 ∙ sym q.0)

pub discount_factor_at_each_settled : Settled 3 discount_factor_at_each_kinds.ps discount_factor_at_each_kinds.r discount_factor_at_each.Post
discount_factor_at_each_settled κs a x y w w' p q = ap (λ (l : List Float). (tt, (tt, (l, tt)))) (p.1 ∙ sym q.1)
