-- `spread_analytics::spread::worth_of` meets its contract: the blocks before are added. Assumes nothing.
use Rattle.std.proofs.Common.{◌≡◌, ℕ, ◌+◌, length, refl, ap, ◌∙◌, arith}
use lib.Ieee.{Float, binary64, mul}
use Rattle.numbers.specs.Sums.{added_up}
use Rattle.curves.specs.Segments.{knot}
use Rattle.spread_analytics.specs.Spread.{factor_of, worth_of}
use Rattle.spread_analytics.proofs.Blocks.{first_block, next_block, no_block}
use Rattle.spread_analytics.proofs.CarriedOn.{worth_term}
use Rattle.spread_analytics.proofs.spread.worth_of.Goals as goal

pub loop-block-init : goal.loop-block-init
unfolding added_up
loop-block-init c = (0, first_block c.args.times.now c.args.amounts.now _ (cc) (cc) (cc) (cc), refl)

pub loop-block-preserved : goal.loop-block-preserved
loop-block-preserved c =
    let a = c.args in
    let i = c.loop-block.invariant in
    let n = next_block a.times.now a.amounts.now c.requires.0 i.0 c.loop-block.block-iterator c.next.new.self c.next.result i.1 c.next.ensures.steps _ c.in-Some.is in
    let alike = n.0.alike in
    let sum = c.discounted_on-worth.ensures _ i.0 i.2
    (λ k h. worth_term a.times.now a.amounts.now a.tenors.now a.rates.now c.factors_of-factors.result c.from-s.result.0 i.0 c.in-Some.block.now c.in-Some.due.now n.0 c.factors_of-factors.ensures.1 k
    (omega (arith, h, alike))) in
    (i.0 + length c.in-Some.block.now, n.1, sum ∙ ap (added_up _) (ap (λ (m : ℕ). i.0 + m) alike))

pub returns : goal.returns
unfolding worth_of
returns c =
    let a = c.args in
    let i = c.loop-block.invariant in
    let all : i.0 ≡ length a.times.now = no_block a.times.now a.amounts.now c.requires.0 i.0 c.loop-block.block-iterator c.next.new.self c.next.result i.1 c.next.ensures.steps c.in-None.is in
    i.2 ∙ ap (added_up _) all
    ∙ ap (λ (z : Float). added_up (λ (i : ℕ). mul binary64 (knot a.amounts.now i) (factor_of a.times.now a.amounts.now a.tenors.now a.rates.now z i)) (length a.times.now)) c.from-s.ensures
