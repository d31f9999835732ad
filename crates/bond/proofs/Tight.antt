-- How tight the promises are: whatever a public function is given, any two results that its contract allows are equal. Assumes nothing.
use mathlib.Core.Path.{sym, ◌∙◌}
use Rattle.numbers.proofs.Determined.{Determined}
use Rattle.refusals.proofs.OneToOne.{one_to_one}
use Rattle.bond.proofs.bonds.periods_per_year.Kinds as periods_per_year_kinds
use Rattle.bond.proofs.bonds.periods_per_year.Reads as periods_per_year
use Rattle.bond.proofs.bonds.judge_numbers.Kinds as judge_numbers_kinds
use Rattle.bond.proofs.bonds.judge_numbers.Reads as judge_numbers
use Rattle.bond.proofs.price.price.Kinds as price_kinds
use Rattle.bond.proofs.price.price.Reads as price
use Rattle.bond.proofs.price.dv01.Kinds as dv01_kinds
use Rattle.bond.proofs.price.dv01.Reads as dv01
use Rattle.bond.proofs.price.current_yield.Kinds as current_yield_kinds
use Rattle.bond.proofs.price.current_yield.Reads as current_yield
use Rattle.bond.proofs.price.zero_coupon_bond_price.Kinds as zero_coupon_bond_price_kinds
use Rattle.bond.proofs.price.zero_coupon_bond_price.Reads as zero_coupon_bond_price
use Rattle.bond.proofs.yields.yield_to_maturity.Kinds as yield_to_maturity_kinds
use Rattle.bond.proofs.yields.yield_to_maturity.Reads as yield_to_maturity
use Rattle.bond.proofs.durations.macaulay_duration.Kinds as macaulay_duration_kinds
use Rattle.bond.proofs.durations.macaulay_duration.Reads as macaulay_duration
use Rattle.bond.proofs.durations.modified_duration.Kinds as modified_duration_kinds
use Rattle.bond.proofs.durations.modified_duration.Reads as modified_duration
use Rattle.bond.proofs.durations.convexity.Kinds as convexity_kinds
use Rattle.bond.proofs.durations.convexity.Reads as convexity
use Rattle.bond.proofs.durations.price_change_approximation.Kinds as price_change_approximation_kinds
use Rattle.bond.proofs.durations.price_change_approximation.Reads as price_change_approximation
use Rattle.bond.proofs.durations.macaulay_duration_at_price.Kinds as macaulay_duration_at_price_kinds
use Rattle.bond.proofs.durations.macaulay_duration_at_price.Reads as macaulay_duration_at_price
use Rattle.bond.proofs.durations.modified_duration_at_price.Kinds as modified_duration_at_price_kinds
use Rattle.bond.proofs.durations.modified_duration_at_price.Reads as modified_duration_at_price
use Rattle.bond.proofs.durations.convexity_at_price.Kinds as convexity_at_price_kinds
use Rattle.bond.proofs.durations.convexity_at_price.Reads as convexity_at_price
use Rattle.bond.proofs.codes.frequency_of.Kinds as frequency_of_kinds
use Rattle.bond.proofs.codes.frequency_of.Reads as frequency_of
use Rattle.bond.proofs.codes.code_of.Kinds as code_of_kinds
use Rattle.bond.proofs.codes.code_of.Reads as code_of_lem

pub periods_per_year_determined : Determined 0 periods_per_year_kinds.ps periods_per_year_kinds.r periods_per_year.Post
periods_per_year_determined κs a x y e e' p q = p ∙ sym q

pub judge_numbers_determined : Determined 0 judge_numbers_kinds.ps judge_numbers_kinds.r judge_numbers.Post
judge_numbers_determined κs a x y e e' p q = one_to_one x y (p ∙ sym q)

pub price_determined : Determined 0 price_kinds.ps price_kinds.r price.Post
price_determined κs a x y e e' p q = one_to_one x y (p ∙ sym q)

pub dv01_determined : Determined 0 dv01_kinds.ps dv01_kinds.r dv01.Post
dv01_determined κs a x y e e' p q = one_to_one x y (p ∙ sym q)

pub current_yield_determined : Determined 0 current_yield_kinds.ps current_yield_kinds.r current_yield.Post
current_yield_determined κs a x y e e' p q = one_to_one x y (p ∙ sym q)

pub zero_coupon_bond_price_determined : Determined 0 zero_coupon_bond_price_kinds.ps zero_coupon_bond_price_kinds.r zero_coupon_bond_price.Post
zero_coupon_bond_price_determined κs a x y e e' p q = one_to_one x y (p ∙ sym q)

pub yield_to_maturity_determined : Determined 0 yield_to_maturity_kinds.ps yield_to_maturity_kinds.r yield_to_maturity.Post
yield_to_maturity_determined κs a x y e e' p q = one_to_one x y (p ∙ sym q)

pub macaulay_duration_determined : Determined 0 macaulay_duration_kinds.ps macaulay_duration_kinds.r macaulay_duration.Post
macaulay_duration_determined κs a x y e e' p q = one_to_one x y (p ∙ sym q)

pub modified_duration_determined : Determined 0 modified_duration_kinds.ps modified_duration_kinds.r modified_duration.Post
modified_duration_determined κs a x y e e' p q = one_to_one x y (p ∙ sym q)

pub convexity_determined : Determined 0 convexity_kinds.ps convexity_kinds.r convexity.Post
convexity_determined κs a x y e e' p q = one_to_one x y (p ∙ sym q)

pub price_change_approximation_determined : Determined 0 price_change_approximation_kinds.ps price_change_approximation_kinds.r price_change_approximation.Post
price_change_approximation_determined κs a x y e e' p q = one_to_one x y (p ∙ sym q)

pub macaulay_duration_at_price_determined : Determined 0 macaulay_duration_at_price_kinds.ps macaulay_duration_at_price_kinds.r macaulay_duration_at_price.Post
macaulay_duration_at_price_determined κs a x y e e' p q = one_to_one x y (p ∙ sym q)

pub modified_duration_at_price_determined : Determined 0 modified_duration_at_price_kinds.ps modified_duration_at_price_kinds.r modified_duration_at_price.Post
modified_duration_at_price_determined κs a x y e e' p q = one_to_one x y (p ∙ sym q)

pub convexity_at_price_determined : Determined 0 convexity_at_price_kinds.ps convexity_at_price_kinds.r convexity_at_price.Post
convexity_at_price_determined κs a x y e e' p q = one_to_one x y (p ∙ sym q)

pub frequency_of_determined : Determined 0 frequency_of_kinds.ps frequency_of_kinds.r frequency_of.Post
frequency_of_determined κs a x y e e' p q = one_to_one x y (p ∙ sym q)

pub code_of_determined : Determined 0 code_of_kinds.ps code_of_kinds.r code_of_lem.Post
code_of_determined κs a x y e e' p q = p ∙ sym q
