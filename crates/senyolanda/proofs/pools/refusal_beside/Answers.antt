-- `senyolanda::pools::refusal_beside` meets its contract. Assumes nothing.
use Rattle.std.proofs.Common.{◌≡◌, sym, ap, ◌∙◌, rules, true, false}
use denote.Enum.Bare.{differs_false}
use Rattle.refusals.specs.contracts.Cause.{the_type}
use Rattle.refusals.specs.Answers.{number, outcome}
use Rattle.refusals.specs.declared.Cause.TheVariants.{Record}
use Rattle.refusals.proofs.OneToOne.{same_cause}
use Rattle.senyolanda.specs.Pools.{speed_of}
use Rattle.senyolanda.proofs.SpeedCodes.{out_of_set, lower_first, before_records, nothing_else}
use Rattle.senyolanda.proofs.pools.refusal_beside.Goals as goal

pub returns-in-Err : goal.returns-in-Err
unfolding speed_of
returns-in-Err c code speed e =
    let set = out_of_set _ _ _ _ e in
    lower_first _ _ _ _ set.0 _ _ (sym (ap outcome c.in-Err.is) ∙ c.judge_pool.ensures) (λ n. let z : true ≡ false = rw (same_cause _ Record n) at c.if-ne.ensures in cc)

pub returns-in_default : goal.returns-in_default
unfolding speed_of
returns-in_default c code speed e =
    let set = out_of_set _ _ _ _ e in
    before_records _ _ _ _ set.0 _ _ set.1 set.2 _ _ (sym (ap outcome c.in-Err.is) ∙ c.judge_pool.ensures)
    (ap number (differs_false the_type (search rules) _ Record (sym c.if-ne.ensures)))

pub returns-in_default-2 : goal.returns-in_default-2
unfolding speed_of
returns-in_default-2 c code speed e =
    let set = out_of_set _ _ _ _ e in
    nothing_else _ _ _ _ set.0 _ _ set.1 set.2 (sym (ap outcome c.in_default.is) ∙ c.judge_pool.ensures)
