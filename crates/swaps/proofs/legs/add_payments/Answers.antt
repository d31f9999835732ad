-- `swaps::legs::add_payments` meets its contract: each turn of the loop adds one period to the four sums. Assumes nothing.
use Rattle.std.proofs.Common.{◌≡◌, ℕ, ◌+◌, length, sym, ap, ◌∙◌, add-zero, arith}
use Rattle.std.proofs.lemmas.Iterator.Consumers.{YieldsList-turn, YieldsList-end}
use Rattle.std.proofs.lemmas.List.{length_push}
use lib.Ieee.{nan}
use Rattle.numbers.proofs.SideBySide.{gives, at_turn, length_three}
use Rattle.swaps.proofs.PaymentSums.{one_period_more, so_many}
use Rattle.swaps.proofs.legs.add_payments.Goals as goal

one_later : (first j m : ℕ) → m ≡ j + 1 → first + j + 1 ≡ first + m
one_later first j m e = omega arith

pub loop-time-init : goal.loop-time-init
loop-time-init c = λ t tenors zeros first n r l f h. so_many t tenors zeros _ (sym (add-zero first)) h

pub loop-time-preserved : goal.loop-time-preserved
loop-time-preserved c =
    let a = c.args in
    let l = c.loop-time in
    let j = length l.yielded in
    let turn =
    at_turn a.times.now a.fractions.now a.factors.now j _ _ _
    (YieldsList-turn (gives a.times.now a.fractions.now a.factors.now (cc) (cc) (cc)) l.yielded l.time-iterator l.yielded_by c.next.result c.next.new.self _ c.in-Some.is c.next.ensures.steps) in
    let h = turn.first_in in
    λ t tenors zeros first n r listed factors before.
    so_many t tenors zeros _ (one_later first j _ (length_push l.yielded _))
    (one_period_more t tenors zeros (first + j) n r (turn.second nan ∙ listed.of_fractions j h) (turn.first nan ∙ listed.of_times j h) (turn.third nan ∙ factors j h) l.sums
    (l.invariant t tenors zeros first n r listed factors before) c.counted.ensures c.counted-in-loop-time.ensures c.counted-in-loop-time-2.ensures c.counted-in-loop-time-3.ensures)

pub returns : goal.returns
returns c =
    let a = c.args in
    let l = c.loop-time in
    let end = YieldsList-end (gives a.times.now a.fractions.now a.factors.now (cc) (cc) (cc)) l.yielded l.time-iterator l.yielded_by c.next.result c.next.new.self c.in-None.is c.next.ensures.steps in
    let three = length_three a.times.now a.fractions.now a.factors.now in
    let all : length l.yielded ≡ length a.times.now = omega (arith, end.1, c.requires) in
    λ t tenors zeros first n r listed factors before.
    so_many t tenors zeros l.sums (ap (λ (k : ℕ). first + k) all) (l.invariant t tenors zeros first n r listed factors before)
