-- Nelson-Siegel models: whatever is given, each contract leaves one result, and one last state of what was lent. Assumes nothing.
use mathlib.Core.List.{List}
use lib.Ieee.{Float}
use Rattle.numbers.proofs.Determined.{Determined, Settled}
use Rattle.senyolanda.proofs.tight.OneAnswer.{one_result, one_last}
use Rattle.senyolanda.proofs.models.senyolanda_nelson_siegel_fit.Kinds as nelson_siegel_fit_kinds
use Rattle.senyolanda.proofs.models.senyolanda_nelson_siegel_fit.Reads as nelson_siegel_fit_reads
use Rattle.senyolanda.proofs.models.senyolanda_nelson_siegel_yield.Kinds as nelson_siegel_yield_kinds
use Rattle.senyolanda.proofs.models.senyolanda_nelson_siegel_yield.Reads as nelson_siegel_yield_reads
use Rattle.senyolanda.proofs.models.senyolanda_nelson_siegel_forward_rate.Kinds as nelson_siegel_forward_rate_kinds
use Rattle.senyolanda.proofs.models.senyolanda_nelson_siegel_forward_rate.Reads as nelson_siegel_forward_rate_reads
use Rattle.senyolanda.proofs.models.senyolanda_nelson_siegel_instantaneous_forward.Kinds as nelson_siegel_instantaneous_forward_kinds
use Rattle.senyolanda.proofs.models.senyolanda_nelson_siegel_instantaneous_forward.Reads as nelson_siegel_instantaneous_forward_reads
use Rattle.senyolanda.proofs.models.senyolanda_nelson_siegel_metrics.Kinds as nelson_siegel_metrics_kinds
use Rattle.senyolanda.proofs.models.senyolanda_nelson_siegel_metrics.Reads as nelson_siegel_metrics_reads

pub nelson_siegel_fit_determined : Determined _ nelson_siegel_fit_kinds.ps nelson_siegel_fit_kinds.r nelson_siegel_fit_reads.Post
nelson_siegel_fit_determined κs a x y e e' p q = one_result p q

pub nelson_siegel_fit_settled : Settled _ nelson_siegel_fit_kinds.ps nelson_siegel_fit_kinds.r nelson_siegel_fit_reads.Post
nelson_siegel_fit_settled κs a x y w w' p q = one_last (λ (u : List Float). (tt, (tt, (u, tt)))) p q

pub nelson_siegel_yield_determined : Determined _ nelson_siegel_yield_kinds.ps nelson_siegel_yield_kinds.r nelson_siegel_yield_reads.Post
nelson_siegel_yield_determined κs a x y e e' p q = one_result p q

pub nelson_siegel_yield_settled : Settled _ nelson_siegel_yield_kinds.ps nelson_siegel_yield_kinds.r nelson_siegel_yield_reads.Post
nelson_siegel_yield_settled κs a x y w w' p q = one_last (λ (u : Float). (tt, (tt, (u, tt)))) p q

pub nelson_siegel_forward_rate_determined : Determined _ nelson_siegel_forward_rate_kinds.ps nelson_siegel_forward_rate_kinds.r nelson_siegel_forward_rate_reads.Post
nelson_siegel_forward_rate_determined κs a x y e e' p q = one_result p q

pub nelson_siegel_forward_rate_settled : Settled _ nelson_siegel_forward_rate_kinds.ps nelson_siegel_forward_rate_kinds.r nelson_siegel_forward_rate_reads.Post
nelson_siegel_forward_rate_settled κs a x y w w' p q = one_last (λ (u : Float). (tt, (tt, (u, tt)))) p q

pub nelson_siegel_instantaneous_forward_determined : Determined _ nelson_siegel_instantaneous_forward_kinds.ps nelson_siegel_instantaneous_forward_kinds.r nelson_siegel_instantaneous_forward_reads.Post
nelson_siegel_instantaneous_forward_determined κs a x y e e' p q = one_result p q

pub nelson_siegel_instantaneous_forward_settled : Settled _ nelson_siegel_instantaneous_forward_kinds.ps nelson_siegel_instantaneous_forward_kinds.r nelson_siegel_instantaneous_forward_reads.Post
nelson_siegel_instantaneous_forward_settled κs a x y w w' p q = one_last (λ (u : Float). (tt, (u, tt))) p q

pub nelson_siegel_metrics_determined : Determined _ nelson_siegel_metrics_kinds.ps nelson_siegel_metrics_kinds.r nelson_siegel_metrics_reads.Post
nelson_siegel_metrics_determined κs a x y e e' p q = one_result p q

pub nelson_siegel_metrics_settled : Settled _ nelson_siegel_metrics_kinds.ps nelson_siegel_metrics_kinds.r nelson_siegel_metrics_reads.Post
nelson_siegel_metrics_settled κs a x y w w' p q = one_last (λ (u : List Float). (tt, (u, tt))) p q
