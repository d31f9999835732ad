-- How tight the promises of totals, savings and break-even are: whatever a function is given, any two results that its contract allows are equal. Assumes nothing.
use mathlib.Core.Path.{sym, ◌∙◌}
use Rattle.numbers.proofs.Determined.{Determined}
use Rattle.refusals.proofs.OneToOne.{one_to_one}
use Rattle.mortgage.proofs.totals.total_interest.Kinds as total_interest_kinds
use Rattle.mortgage.proofs.totals.total_interest.Reads as total_interest
use Rattle.mortgage.proofs.totals.remaining_balance.Kinds as remaining_balance_kinds
use Rattle.mortgage.proofs.totals.remaining_balance.Reads as remaining_balance
use Rattle.mortgage.proofs.totals.ltv.Kinds as ltv_kinds
use Rattle.mortgage.proofs.totals.ltv.Reads as ltv
use Rattle.mortgage.proofs.savings.prepayment_savings.Kinds as prepayment_savings_kinds
use Rattle.mortgage.proofs.savings.prepayment_savings.Reads as prepayment_savings
use Rattle.mortgage.proofs.breakeven.refinance_breakeven.Kinds as refinance_breakeven_kinds
use Rattle.mortgage.proofs.breakeven.refinance_breakeven.Reads as refinance_breakeven

pub total_interest_determined : Determined 0 total_interest_kinds.ps total_interest_kinds.r total_interest.Post
total_interest_determined κs a x y e e' p q = one_to_one x y (p ∙ sym q)

pub remaining_balance_determined : Determined 0 remaining_balance_kinds.ps remaining_balance_kinds.r remaining_balance.Post
remaining_balance_determined κs a x y e e' p q = one_to_one x y (p ∙ sym q)

pub ltv_determined : Determined 0 ltv_kinds.ps ltv_kinds.r ltv.Post
ltv_determined κs a x y e e' p q = one_to_one x y (p ∙ sym q)

pub prepayment_savings_determined : Determined 0 prepayment_savings_kinds.ps prepayment_savings_kinds.r prepayment_savings.Post
prepayment_savings_determined κs a x y e e' p q = one_to_one x y (p ∙ sym q)

pub refinance_breakeven_determined : Determined 0 refinance_breakeven_kinds.ps refinance_breakeven_kinds.r refinance_breakeven.Post
refinance_breakeven_determined κs a x y e e' p q = one_to_one x y (p ∙ sym q)
