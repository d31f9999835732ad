-- Dated amounts: whatever is given, each contract leaves one result, and one last state of what was lent. Assumes nothing.
use mathlib.Core.List.{List}
use Prim.Native.Nat.{ℕ}
use lib.Ieee.{Float}
use Rattle.numbers.proofs.Determined.{Determined, Settled}
use Rattle.senyolanda.proofs.tight.OneAnswer.{one_result, one_last}
use Rattle.senyolanda.proofs.dated.senyolanda_dated_pv.Kinds as dated_pv_kinds
use Rattle.senyolanda.proofs.dated.senyolanda_dated_pv.Reads as dated_pv_reads
use Rattle.senyolanda.proofs.dated.senyolanda_dated_z_spread.Kinds as dated_z_spread_kinds
use Rattle.senyolanda.proofs.dated.senyolanda_dated_z_spread.Reads as dated_z_spread_reads
use Rattle.senyolanda.proofs.dated.senyolanda_dated_duration_convexity.Kinds as dated_duration_convexity_kinds
use Rattle.senyolanda.proofs.dated.senyolanda_dated_duration_convexity.Reads as dated_duration_convexity_reads

pub dated_pv_determined : Determined _ dated_pv_kinds.ps dated_pv_kinds.r dated_pv_reads.Post
dated_pv_determined κs a x y e e' p q = one_result p q

pub dated_pv_settled : Settled _ dated_pv_kinds.ps dated_pv_kinds.r dated_pv_reads.Post
dated_pv_settled κs a x y w w' p q = one_last (λ (u : Float). (tt, (tt, (tt, (tt, (u, tt)))))) p q

pub dated_z_spread_determined : Determined _ dated_z_spread_kinds.ps dated_z_spread_kinds.r dated_z_spread_reads.Post
dated_z_spread_determined κs a x y e e' p q = one_result p q

pub dated_z_spread_settled : Settled _ dated_z_spread_kinds.ps dated_z_spread_kinds.r dated_z_spread_reads.Post
dated_z_spread_settled κs a x y w w' p q = one_last (λ (u : Float × ℕ). (tt, (tt, (tt, (tt, (u.0, (u.1, tt))))))) p q

pub dated_duration_convexity_determined : Determined _ dated_duration_convexity_kinds.ps dated_duration_convexity_kinds.r dated_duration_convexity_reads.Post
dated_duration_convexity_determined κs a x y e e' p q = one_result p q

pub dated_duration_convexity_settled : Settled _ dated_duration_convexity_kinds.ps dated_duration_convexity_kinds.r dated_duration_convexity_reads.Post
dated_duration_convexity_settled κs a x y w w' p q = one_last (λ (u : List Float). (tt, (tt, (tt, (tt, (u, tt)))))) p q
