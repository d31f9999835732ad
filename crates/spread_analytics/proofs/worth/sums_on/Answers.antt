-- `spread_analytics::worth::sums_on` meets its contract: after i turns the first i terms of each sum are added to those before. Assumes nothing.
use Rattle.std.proofs.Common.{◌≡◌, length, arith}
use Rattle.std.proofs.lemmas.Iterator.Consumers.{YieldsList-turn, YieldsList-end}
use Rattle.std.proofs.lemmas.List.{length_push}
use lib.Ieee.{nan}
use Rattle.numbers.proofs.SideBySide.{gives, at_turn, length_three}
use Rattle.curves.proofs.Adding.{all_of}
use Rattle.spread_analytics.proofs.Products.{carried_more}
use Rattle.spread_analytics.proofs.worth.sums_on.Goals as goal

pub loop-time-preserved : goal.loop-time-preserved
loop-time-preserved c =
    let a = c.args in
    let l = c.loop-time in
    let turn =
    at_turn a.times.now a.amounts.now a.factors.now (length l.yielded) c.in-Some.time.now c.in-Some.amount.now c.in-Some.factor.now
    (YieldsList-turn (gives a.times.now a.amounts.now a.factors.now (cc) (cc) (cc)) l.yielded l.time-iterator l.yielded_by c.next.result c.next.new.self _ c.in-Some.is c.next.ensures.steps) in
    let time = turn.first nan in
    let amount = turn.second nan in
    let factor = turn.third nan in
    let more = length_push l.yielded _ in (
      carried_more _ _ _ _ _ _ (rw (amount, factor)) more l.invariant.0,
      carried_more _ _ _ _ _ _ (rw (time, amount, factor)) more l.invariant.1,
      carried_more _ _ _ _ _ _ (rw (time, amount, factor)) more l.invariant.2,
    )

pub returns : goal.returns
returns c =
    let a = c.args in
    let l = c.loop-time in
    let end = YieldsList-end (gives a.times.now a.amounts.now a.factors.now (cc) (cc) (cc)) l.yielded l.time-iterator l.yielded_by c.next.result c.next.new.self c.in-None.is c.next.ensures.steps in
    let three = length_three a.times.now a.amounts.now a.factors.now in
    let all : length l.yielded ≡ length a.times.now = omega (arith, end.1, c.requires) in
    record {
      by_index = all_of _ _ l.sums.worth _ _ all l.invariant.0;
      by_index_2 = all_of _ _ l.sums.timed _ _ all l.invariant.1;
      by_index_3 = all_of _ _ l.sums.squared _ _ all l.invariant.2;
    }
