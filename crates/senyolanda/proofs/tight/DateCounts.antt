-- Dates: whatever is given, each contract leaves one result, and one last state of what was lent. Assumes nothing.
use mathlib.Core.List.{List}
use Prim.Native.Nat.{ℕ}
use lib.Ieee.{Float}
use Rattle.numbers.proofs.Determined.{Determined, Settled}
use Rattle.senyolanda.proofs.tight.OneAnswer.{one_result, one_last}
use Rattle.senyolanda.proofs.date_counts.senyolanda_day_number.Kinds as day_number_kinds
use Rattle.senyolanda.proofs.date_counts.senyolanda_day_number.Reads as day_number_reads
use Rattle.senyolanda.proofs.date_counts.senyolanda_date_of_number.Kinds as date_of_number_kinds
use Rattle.senyolanda.proofs.date_counts.senyolanda_date_of_number.Reads as date_of_number_reads
use Rattle.senyolanda.proofs.date_counts.senyolanda_months_later.Kinds as months_later_kinds
use Rattle.senyolanda.proofs.date_counts.senyolanda_months_later.Reads as months_later_reads
use Rattle.senyolanda.proofs.date_counts.senyolanda_actual_days.Kinds as actual_days_kinds
use Rattle.senyolanda.proofs.date_counts.senyolanda_actual_days.Reads as actual_days_reads
use Rattle.senyolanda.proofs.date_counts.senyolanda_days_30_360.Kinds as days_30_360_kinds
use Rattle.senyolanda.proofs.date_counts.senyolanda_days_30_360.Reads as days_30_360_reads
use Rattle.senyolanda.proofs.date_counts.senyolanda_dated_fraction.Kinds as dated_fraction_kinds
use Rattle.senyolanda.proofs.date_counts.senyolanda_dated_fraction.Reads as dated_fraction_reads

pub day_number_determined : Determined _ day_number_kinds.ps day_number_kinds.r day_number_reads.Post
day_number_determined κs a x y e e' p q = one_result p q

pub day_number_settled : Settled _ day_number_kinds.ps day_number_kinds.r day_number_reads.Post
day_number_settled κs a x y w w' p q = one_last (λ (u : ℕ). (tt, (tt, (tt, (u, tt))))) p q

pub date_of_number_determined : Determined _ date_of_number_kinds.ps date_of_number_kinds.r date_of_number_reads.Post
date_of_number_determined κs a x y e e' p q = one_result p q

pub date_of_number_settled : Settled _ date_of_number_kinds.ps date_of_number_kinds.r date_of_number_reads.Post
date_of_number_settled κs a x y w w' p q = one_last (λ (u : List ℕ). (tt, (u, tt))) p q

pub months_later_determined : Determined _ months_later_kinds.ps months_later_kinds.r months_later_reads.Post
months_later_determined κs a x y e e' p q = one_result p q

pub months_later_settled : Settled _ months_later_kinds.ps months_later_kinds.r months_later_reads.Post
months_later_settled κs a x y w w' p q = one_last (λ (u : List ℕ). (tt, (tt, (tt, (tt, (u, tt)))))) p q

pub actual_days_determined : Determined _ actual_days_kinds.ps actual_days_kinds.r actual_days_reads.Post
actual_days_determined κs a x y e e' p q = one_result p q

pub actual_days_settled : Settled _ actual_days_kinds.ps actual_days_kinds.r actual_days_reads.Post
actual_days_settled κs a x y w w' p q = one_last (λ (u : ℕ). (tt, (tt, (tt, (tt, (tt, (tt, (u, tt)))))))) p q

pub days_30_360_determined : Determined _ days_30_360_kinds.ps days_30_360_kinds.r days_30_360_reads.Post
days_30_360_determined κs a x y e e' p q = one_result p q

pub days_30_360_settled : Settled _ days_30_360_kinds.ps days_30_360_kinds.r days_30_360_reads.Post
days_30_360_settled κs a x y w w' p q = one_last (λ (u : ℕ). (tt, (tt, (tt, (tt, (tt, (tt, (u, tt)))))))) p q

pub dated_fraction_determined : Determined _ dated_fraction_kinds.ps dated_fraction_kinds.r dated_fraction_reads.Post
dated_fraction_determined κs a x y e e' p q = one_result p q

pub dated_fraction_settled : Settled _ dated_fraction_kinds.ps dated_fraction_kinds.r dated_fraction_reads.Post
dated_fraction_settled κs a x y w w' p q = one_last (λ (u : Float). (tt, (tt, (tt, (tt, (tt, (tt, (tt, (u, tt))))))))) p q
