-- Year-end totals: whatever is given, each contract leaves one result, and one last state of what was lent. Assumes nothing.
use mathlib.Core.List.{List}
use Prim.Native.Nat.{ℕ}
use lib.Ieee.{Float}
use Rattle.numbers.proofs.Determined.{Determined, Settled}
use Rattle.senyolanda.proofs.tight.OneAnswer.{one_result, one_last, one_last_and_lists}
use Rattle.senyolanda.proofs.years.senyolanda_draw_with_years.Kinds as draw_with_years_kinds
use Rattle.senyolanda.proofs.years.senyolanda_draw_with_years.Reads as draw_with_years_reads
use Rattle.senyolanda.proofs.years.senyolanda_look_up_year.Kinds as look_up_year_kinds
use Rattle.senyolanda.proofs.years.senyolanda_look_up_year.Reads as look_up_year_reads

pub draw_with_years_determined : Determined _ draw_with_years_kinds.ps draw_with_years_kinds.r draw_with_years_reads.Post
draw_with_years_determined κs a x y e e' p q = one_result p.0 q.0

pub draw_with_years_settled : Settled _ draw_with_years_kinds.ps draw_with_years_kinds.r draw_with_years_reads.Post
draw_with_years_settled κs a x y w w' p q = one_last_and_lists (λ (u : List ℕ × List Float × ℕ × ℕ) (l m : List Float). (u.0, (u.1, (l, (m, (u.2, (u.3, tt))))))) p.0 q.0 p.1.0 q.1.0 p.1.1 q.1.1

pub look_up_year_determined : Determined _ look_up_year_kinds.ps look_up_year_kinds.r look_up_year_reads.Post
look_up_year_determined κs a x y e e' p q = one_result p q

pub look_up_year_settled : Settled _ look_up_year_kinds.ps look_up_year_kinds.r look_up_year_reads.Post
look_up_year_settled κs a x y w w' p q = one_last (λ (u : List Float). (tt, (tt, (tt, (tt, (u, tt)))))) p q
