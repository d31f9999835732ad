-- How tight the promises are: whatever a public function is given, any two results that its contract allows are equal, and so are any two lists that `exp_each` may leave. Assumes nothing.
use mathlib.Core.Path.{sym, ap, ◌∙◌}
use mathlib.Core.List.{List}
use lib.Ieee.{Float}
use Rattle.numbers.proofs.Determined.{Determined, Settled}
use Rattle.elementary.proofs.exp.exp.Kinds as exp_kinds
use Rattle.elementary.proofs.exp.exp.Reads as exp
use Rattle.elementary.proofs.exp.exp_each.Kinds as exp_each_kinds
use Rattle.elementary.proofs.exp.exp_each.Reads as exp_each
use Rattle.elementary.proofs.ln.ln.Kinds as ln_kinds
use Rattle.elementary.proofs.ln.ln.Reads as ln
use Rattle.elementary.proofs.power.power.Kinds as power_kinds
use Rattle.elementary.proofs.power.power.Reads as power
use Rattle.elementary.proofs.powers.sixteen_powers.Kinds as sixteen_powers_kinds
use Rattle.elementary.proofs.powers.sixteen_powers.Reads as sixteen_powers
use Rattle.elementary.proofs.whole.usually_whole.Kinds as usually_whole_kinds
use Rattle.elementary.proofs.whole.usually_whole.Reads as usually_whole
use Rattle.elementary.proofs.whole_power.whole_power.Kinds as whole_power_kinds
use Rattle.elementary.proofs.whole_power.whole_power.Reads as whole_power
use Rattle.elementary.proofs.whole_power.negative_power.Kinds as negative_power_kinds
use Rattle.elementary.proofs.whole_power.negative_power.Reads as negative_power

pub exp_determined : Determined 0 exp_kinds.ps exp_kinds.r exp.Post
exp_determined κs a x y e e' p q = p ∙ sym q

pub exp_each_settled : Settled 1 exp_each_kinds.ps exp_each_kinds.r exp_each.Post
exp_each_settled κs a x y w w' p q = ap (λ (l : List Float). (l, tt)) (p ∙ sym q)

pub ln_determined : Determined 0 ln_kinds.ps ln_kinds.r ln.Post
ln_determined κs a x y e e' p q = p ∙ sym q

pub power_determined : Determined 0 power_kinds.ps power_kinds.r power.Post
power_determined κs a x y e e' p q = p ∙ sym q

pub whole_power_determined : Determined 0 whole_power_kinds.ps whole_power_kinds.r whole_power.Post
whole_power_determined κs a x y e e' p q = p ∙ sym q

pub negative_power_determined : Determined 0 negative_power_kinds.ps negative_power_kinds.r negative_power.Post
negative_power_determined κs a x y e e' p q = p ∙ sym q

pub sixteen_powers_determined : Determined 0 sixteen_powers_kinds.ps sixteen_powers_kinds.r sixteen_powers.Post
sixteen_powers_determined κs a x y e e' p q = p ∙ sym q

pub usually_whole_determined : Determined 0 usually_whole_kinds.ps usually_whole_kinds.r usually_whole.Post
usually_whole_determined κs a x y e e' p q = p ∙ sym q
