-- `yield_curve::linear::add_run` meets its contract: the fold carries the sum on over the run's factors. Assumes nothing.
use Rattle.std.proofs.Common.{◌≡◌, ℕ, ◌+◌, ◌<◌, length, take, fold, ap, ◌∙◌, arith}
use Rattle.std.proofs.lemmas.Grind.{common_steps}
use Rattle.std.specs.Float.{binary64}
use Rattle.std.specs.Float.Ieee.{add}
use Rattle.numbers.specs.Sums.{added_up}
use Rattle.curves.specs.Segments.{knot}
use Rattle.curves.specs.Runs.{date_after}
use Rattle.curves.proofs.Adding.{numbers_carried}
use Rattle.yield_curve.specs.Linear.{discount_of}
use Rattle.yield_curve.proofs.YieldKind.{discount_on_lem}
use Rattle.yield_curve.proofs.linear.add_run.Goals as goal

pub returns : goal.returns
returns c =
    let a = c.args in
    let factors = c.factors_after-factors in
    let run = take a.count factors.result in
    let by_chain : c.fold.result ≡ fold (add binary64) a.sum run = grind (arith, common_steps) in
    let count : length run ≡ a.count = grind (arith, common_steps) in
    let each = factors.ensures.1 c.requires.2 c.requires.0 c.requires.1 in
    let first : (j : ℕ) → j < length run → knot run j ≡ knot factors.result j = λ j h. grind (arith, common_steps) in
    by_chain
    ∙ numbers_carried run a.sum (λ (i : ℕ). discount_of a.times.now a.rates.now (date_after a.dt i)) a.first c.requires.3
    (λ j h. first j h ∙ each j (omega arith) ∙ discount_on_lem a.times.now a.rates.now (date_after a.dt (a.first + j)))
    ∙ ap (λ (n : ℕ). added_up (λ (i : ℕ). discount_of a.times.now a.rates.now (date_after a.dt i)) (a.first + n)) count
