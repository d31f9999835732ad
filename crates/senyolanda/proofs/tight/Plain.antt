-- exp, ln and powers: whatever is given, each contract leaves one result, and one last state of what was lent. Assumes nothing.
use mathlib.Core.List.{List}
use lib.Ieee.{Float}
use Rattle.numbers.proofs.Determined.{Determined, Settled}
use Rattle.senyolanda.proofs.tight.OneAnswer.{one_result, one_last}
use Rattle.senyolanda.proofs.plain.senyolanda_exp.Kinds as exp_kinds
use Rattle.senyolanda.proofs.plain.senyolanda_exp.Reads as exp_reads
use Rattle.senyolanda.proofs.plain.senyolanda_exp_each.Kinds as exp_each_kinds
use Rattle.senyolanda.proofs.plain.senyolanda_exp_each.Reads as exp_each_reads
use Rattle.senyolanda.proofs.plain.senyolanda_ln.Kinds as ln_kinds
use Rattle.senyolanda.proofs.plain.senyolanda_ln.Reads as ln_reads
use Rattle.senyolanda.proofs.plain.senyolanda_power.Kinds as power_kinds
use Rattle.senyolanda.proofs.plain.senyolanda_power.Reads as power_reads

pub exp_determined : Determined _ exp_kinds.ps exp_kinds.r exp_reads.Post
exp_determined κs a x y e e' p q = one_result p q

pub exp_settled : Settled _ exp_kinds.ps exp_kinds.r exp_reads.Post
exp_settled κs a x y w w' p q = one_last (λ (u : Float). (tt, (u, tt))) p q

pub exp_each_determined : Determined _ exp_each_kinds.ps exp_each_kinds.r exp_each_reads.Post
exp_each_determined κs a x y e e' p q = one_result p q

pub exp_each_settled : Settled _ exp_each_kinds.ps exp_each_kinds.r exp_each_reads.Post
exp_each_settled κs a x y w w' p q = one_last (λ (u : List Float). (u, tt)) p q

pub ln_determined : Determined _ ln_kinds.ps ln_kinds.r ln_reads.Post
ln_determined κs a x y e e' p q = one_result p q

pub ln_settled : Settled _ ln_kinds.ps ln_kinds.r ln_reads.Post
ln_settled κs a x y w w' p q = one_last (λ (u : Float). (tt, (u, tt))) p q

pub power_determined : Determined _ power_kinds.ps power_kinds.r power_reads.Post
power_determined κs a x y e e' p q = one_result p q

pub power_settled : Settled _ power_kinds.ps power_kinds.r power_reads.Post
power_settled κs a x y w w' p q = one_last (λ (u : Float). (tt, (tt, (u, tt)))) p q
