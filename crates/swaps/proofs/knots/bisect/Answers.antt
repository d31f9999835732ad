-- `swaps::knots::bisect` meets its contract: the halvings that are left, from the bracket in hand, give the answer; three of them go by errors that were
-- worked out together. Assumes nothing.
use mathlib.Core.Path.{◌≡◌, refl, sym, ap, ◌∙◌}
use mathlib.Core.Bool.{false, cond}
use mathlib.Core.List.{List, map}
use Prim.Native.Nat.{ℕ, ◌+◌, ◌*◌, ◌-◌, ◌<◌}
use native.Mathlib.Omega.{arith}
use lib.ListN.{length, get_or}
use lib.Ieee.{Float, binary64, nan, sub, lt}
use Rattle.numbers.specs.Literals.{ten_to_minus16}
use Rattle.numbers.specs.Clamps.{plus_zero}
use Rattle.swaps.specs.declared.knots.Bracket.{Bracket}
use Rattle.swaps.specs.Bootstrap.{lower_end, upper_end, bisected}
use Rattle.swaps.specs.inner.Knots.{error_of, fork_of}
use Rattle.swaps.proofs.Bisecting.{stops, goes_on, all_halved}
use Rattle.swaps.proofs.Thirds.{lower, upper, ends_are, first_tried, second_tried, third_tried}
use Rattle.swaps.proofs.knots.bisect.Goals as goal

-- how many are left, after one and after two
some_left : (left : ℕ) → 0 < left → (0 < left * 3) × (0 < left * 3 - 1) × (0 < left * 3 - 1 - 1)
some_left left h = (omega arith, omega arith, omega arith)

three_fewer : (done : ℕ) → (66 - done) * 3 - 1 - 1 - 1 ≡ (66 - (done + 1)) * 3
three_fewer done = omega arith

-- three halvings of a bracket, by errors that were worked out together
module _ (error : Float → Float) (lo hi : Float) (errors : List Float) (are : errors ≡ map error (fork_of lo hi)) where
  module _ (h : Bracket) (half_ensures : (h.lo ≡ lower (lt plus_zero (get_or errors 0 nan)) lo hi) × (h.hi ≡ upper (lt plus_zero (get_or errors 0 nan)) lo hi)) where
    one : (h.lo ≡ lower_end error lo hi) × (h.hi ≡ upper_end error lo hi)
    one = ends_are error lo hi _ (first_tried error lo hi errors are) _ _ half_ensures.0 half_ensures.1

    module _ (second : Float) (by_second : second ≡ cond (lt plus_zero (get_or errors 0 nan)) (get_or errors 2 nan) (get_or errors 1 nan))
        (q : Bracket) (quarter_ensures : (q.lo ≡ lower (lt plus_zero second) h.lo h.hi) × (q.hi ≡ upper (lt plus_zero second) h.lo h.hi)) where
      two : (q.lo ≡ lower_end error h.lo h.hi) × (q.hi ≡ upper_end error h.lo h.hi)
      two = ends_are error h.lo h.hi _ (second_tried error lo hi errors are _ second h.lo h.hi half_ensures.0 half_ensures.1 by_second) _ _ quarter_ensures.0 quarter_ensures.1

      -- two halvings of the three are done
      two_done : (left : ℕ) → 0 < left → lt (sub binary64 h.hi h.lo) ten_to_minus16 ≡ false → lt (sub binary64 q.hi q.lo) ten_to_minus16 ≡ false
          → bisected error (left * 3) lo hi ≡ bisected error (left * 3 - 1 - 1) q.lo q.hi
      two_done left some wide wide_still =
          goes_on error lo hi _ _ one.0 one.1 (left * 3) (some_left left some).0 wide
          ∙ goes_on error h.lo h.hi _ _ two.0 two.1 (left * 3 - 1) (some_left left some).1 wide_still

      module _ (up down third : Float) (by_up : up ≡ cond (lt plus_zero second) (get_or errors 6 nan) (get_or errors 5 nan))
          (by_down : down ≡ cond (lt plus_zero second) (get_or errors 4 nan) (get_or errors 3 nan)) (by_third : third ≡ cond (lt plus_zero (get_or errors 0 nan)) up down)
          (e : Bracket) (eighth_ensures : (e.lo ≡ lower (lt plus_zero third) q.lo q.hi) × (e.hi ≡ upper (lt plus_zero third) q.lo q.hi)) where
        three : (e.lo ≡ lower_end error q.lo q.hi) × (e.hi ≡ upper_end error q.lo q.hi)
        three =
            ends_are error q.lo q.hi _
            (third_tried error lo hi errors are _ second h.lo h.hi half_ensures.0 half_ensures.1 up down third q.lo q.hi quarter_ensures.0 quarter_ensures.1 by_up by_down by_third)
            _ _ eighth_ensures.0 eighth_ensures.1

pub loop-three-init : goal.loop-three-init
loop-three-init c = refl

pub errors_of-errors-requires : goal.errors_of-errors-requires
errors_of-errors-requires c = (c.requires, ap length c.fork_of.ensures)

pub returns-then-halves : goal.returns-then-halves
returns-then-halves c =
    let l = c.loop-three in
    let error = error_of c.args.tenors.now c.args.earlier.now c.args.knot in
    let b = l.bracket in
    let errors = c.errors_of-errors.result in
    let are : errors ≡ map error (fork_of b.lo b.hi) = c.errors_of-errors.ensures ∙ ap (map error) c.fork_of.ensures in
    let h = c.half_of-halves.result in
    let n = 66 - l._three in
    let more : 0 < n = omega (arith, c.loop-three-test.true) in
    let left = some_left n more in
    let first = one error b.lo b.hi errors are h c.half_of-halves.ensures in
    c.middle.ensures ∙ sym (l.invariant ∙ stops error b.lo b.hi _ _ first.0 first.1 (n * 3) left.0 c.if-halves.true)

pub returns-then-quarters : goal.returns-then-quarters
returns-then-quarters c =
    let l = c.loop-three in
    let error = error_of c.args.tenors.now c.args.earlier.now c.args.knot in
    let b = l.bracket in
    let errors = c.errors_of-errors.result in
    let are : errors ≡ map error (fork_of b.lo b.hi) = c.errors_of-errors.ensures ∙ ap (map error) c.fork_of.ensures in
    let h = c.half_of-halves.result in
    let n = 66 - l._three in
    let more : 0 < n = omega (arith, c.loop-three-test.true) in
    let left = some_left n more in
    let first = one error b.lo b.hi errors are h c.half_of-halves.ensures in
    let q = c.half_of-quarters.result in
    let then = two error b.lo b.hi errors are h c.half_of-halves.ensures _ c.by_way-second.ensures q c.half_of-quarters.ensures in
    c.middle-then-quarters.ensures
    ∙ sym (l.invariant
    ∙ goes_on error b.lo b.hi _ _ first.0 first.1 (n * 3) left.0 c.if-halves.false
    ∙ stops error h.lo h.hi _ _ then.0 then.1 (n * 3 - 1) left.1 c.if-quarters.true)

pub returns-then-bracket : goal.returns-then-bracket
returns-then-bracket c =
    let l = c.loop-three in
    let error = error_of c.args.tenors.now c.args.earlier.now c.args.knot in
    let b = l.bracket in
    let errors = c.errors_of-errors.result in
    let are : errors ≡ map error (fork_of b.lo b.hi) = c.errors_of-errors.ensures ∙ ap (map error) c.fork_of.ensures in
    let h = c.half_of-halves.result in
    let n = 66 - l._three in
    let more : 0 < n = omega (arith, c.loop-three-test.true) in
    let left = some_left n more in
    let q = c.half_of-quarters.result in
    let twice = two_done error b.lo b.hi errors are h c.half_of-halves.ensures _ c.by_way-second.ensures q c.half_of-quarters.ensures n more c.if-halves.false c.if-quarters.false in
    let last = three error b.lo b.hi errors are h c.half_of-halves.ensures _ c.by_way-second.ensures q c.half_of-quarters.ensures _ _ _ c.by_way.ensures c.by_way-in-loop-three.ensures c.by_way-third.ensures c.half_of-bracket.result c.half_of-bracket.ensures in
    c.middle-then-bracket.ensures ∙ sym (l.invariant ∙ twice ∙ stops error q.lo q.hi _ _ last.0 last.1 (n * 3 - 1 - 1) left.2 c.if-bracket.true)

pub loop-three-preserved : goal.loop-three-preserved
loop-three-preserved c =
    let l = c.loop-three in
    let error = error_of c.args.tenors.now c.args.earlier.now c.args.knot in
    let b = l.bracket in
    let errors = c.errors_of-errors.result in
    let are : errors ≡ map error (fork_of b.lo b.hi) = c.errors_of-errors.ensures ∙ ap (map error) c.fork_of.ensures in
    let h = c.half_of-halves.result in
    let n = 66 - l._three in
    let more : 0 < n = omega (arith, c.loop-three-test.true) in
    let left = some_left n more in
    let q = c.half_of-quarters.result in
    let twice = two_done error b.lo b.hi errors are h c.half_of-halves.ensures _ c.by_way-second.ensures q c.half_of-quarters.ensures n more c.if-halves.false c.if-quarters.false in
    let last = three error b.lo b.hi errors are h c.half_of-halves.ensures _ c.by_way-second.ensures q c.half_of-quarters.ensures _ _ _ c.by_way.ensures c.by_way-in-loop-three.ensures c.by_way-third.ensures c.half_of-bracket.result c.half_of-bracket.ensures in
    l.invariant ∙ twice
    ∙ goes_on error q.lo q.hi _ _ last.0 last.1 (n * 3 - 1 - 1) left.2 c.if-bracket.false
    ∙ ap (λ (n : ℕ). bisected error n c.half_of-bracket.result.lo c.half_of-bracket.result.hi) (three_fewer l._three)

pub returns : goal.returns
returns c =
    let l = c.loop-three in
    let error = error_of c.args.tenors.now c.args.earlier.now c.args.knot in
    c.middle-2.ensures ∙ sym (l.invariant ∙ all_halved error l.bracket.lo l.bracket.hi ((66 - l._three) * 3) (omega arith))
