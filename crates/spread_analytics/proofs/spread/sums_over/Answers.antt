-- `spread_analytics::spread::sums_over` meets its contract: the blocks before are added, in each sum. Assumes nothing.
use Rattle.std.proofs.Common.{◌≡◌, ℕ, ◌+◌, length, refl, ap, ◌∙◌}
use lib.Ieee.{Float, binary64, mul}
use Rattle.numbers.specs.Sums.{added_up}
use Rattle.curves.specs.Segments.{knot}
use Rattle.spread_analytics.specs.Spread.{factor_of, worth_of}
use Rattle.spread_analytics.proofs.Blocks.{first_block, next_block, no_block}
use Rattle.spread_analytics.proofs.CarriedOn.{worth_term, timed_term, squared_term}
use Rattle.spread_analytics.proofs.spread.sums_over.Goals as goal

pub loop-block-init : goal.loop-block-init
unfolding added_up
loop-block-init c = (0, first_block c.args.times.now c.args.amounts.now _ (cc) (cc) (cc) (cc), refl, refl, refl)

pub loop-block-preserved : goal.loop-block-preserved
loop-block-preserved c =
    let times = c.args.times.now in
    let amounts = c.args.amounts.now in
    let tenors = c.args.tenors.now in
    let rates = c.args.rates.now in
    let factors = c.factors_of-factors.result in
    let g = c.factors_of-factors.ensures.1 in
    let s = c.from-s.result.0 in
    let block = c.in-Some.block.now in
    let due = c.in-Some.due.now in
    let i = c.loop-block.invariant in
    let n = next_block times amounts c.requires.0 i.0 c.loop-block.block-iterator c.next.new.self c.next.result i.1 c.next.ensures.steps _ c.in-Some.is in (
      i.0 + length block,
      n.1,
      c.sums_on-sums.ensures.by_index _ i.0 i.2 (worth_term times amounts tenors rates factors s i.0 block due n.0 g),
      c.sums_on-sums.ensures.by_index_2 _ i.0 i.3 (timed_term times amounts tenors rates factors s i.0 block due n.0 g),
      c.sums_on-sums.ensures.by_index_3 _ i.0 i.4 (squared_term times amounts tenors rates factors s i.0 block due n.0 g),
    )

pub returns : goal.returns
unfolding worth_of
returns c =
    let times = c.args.times.now in
    let amounts = c.args.amounts.now in
    let n = length times in
    let factor : Float → ℕ → Float = factor_of times amounts c.args.tenors.now c.args.rates.now in
    let i = c.loop-block.invariant in
    let all : i.0 ≡ n = no_block times amounts c.requires.0 i.0 c.loop-block.block-iterator c.next.new.self c.next.result i.1 c.next.ensures.steps c.in-None.is in
    let s = c.from-s.ensures in
    record {
      worth_value = i.2 ∙ ap (added_up _) all ∙ ap (λ (z : Float). added_up (λ (i : ℕ). mul binary64 (knot amounts i) (factor z i)) n) s;
      timed_value = i.3 ∙ ap (added_up _) all ∙ ap (λ (z : Float). added_up (λ (i : ℕ). mul binary64 (mul binary64 (knot times i) (knot amounts i)) (factor z i)) n) s;
      squared_value = i.4 ∙ ap (added_up _) all ∙ ap (λ (z : Float). added_up (λ (i : ℕ). mul binary64 (mul binary64 (mul binary64 (knot times i) (knot times i)) (knot amounts i)) (factor z i)) n) s;
    }
