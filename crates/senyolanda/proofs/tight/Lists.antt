-- Lookups as a list: whatever is given, each contract leaves one result, and one last state of what was lent. Assumes nothing.
use mathlib.Core.List.{List}
use lib.Ieee.{Float}
use Rattle.numbers.proofs.Determined.{Determined, Settled}
use Rattle.senyolanda.proofs.tight.OneAnswer.{one_result, one_list}
use Rattle.senyolanda.proofs.lists.senyolanda_linear_interpolate_each.Kinds as linear_interpolate_each_kinds
use Rattle.senyolanda.proofs.lists.senyolanda_linear_interpolate_each.Reads as linear_interpolate_each_reads
use Rattle.senyolanda.proofs.lists.senyolanda_yield_curve_discount_factor_each.Kinds as yield_curve_discount_factor_each_kinds
use Rattle.senyolanda.proofs.lists.senyolanda_yield_curve_discount_factor_each.Reads as yield_curve_discount_factor_each_reads
use Rattle.senyolanda.proofs.lists.senyolanda_discount_curve_rate_each.Kinds as discount_curve_rate_each_kinds
use Rattle.senyolanda.proofs.lists.senyolanda_discount_curve_rate_each.Reads as discount_curve_rate_each_reads
use Rattle.senyolanda.proofs.lists.senyolanda_discount_curve_factor_each.Kinds as discount_curve_factor_each_kinds
use Rattle.senyolanda.proofs.lists.senyolanda_discount_curve_factor_each.Reads as discount_curve_factor_each_reads
use Rattle.senyolanda.proofs.lists.senyolanda_zero_curve_rate_each.Kinds as zero_curve_rate_each_kinds
use Rattle.senyolanda.proofs.lists.senyolanda_zero_curve_rate_each.Reads as zero_curve_rate_each_reads
use Rattle.senyolanda.proofs.lists.senyolanda_swap_curve_rate_each.Kinds as swap_curve_rate_each_kinds
use Rattle.senyolanda.proofs.lists.senyolanda_swap_curve_rate_each.Reads as swap_curve_rate_each_reads
use Rattle.senyolanda.proofs.lists.senyolanda_zero_curve_discount_factor_each.Kinds as zero_curve_discount_factor_each_kinds
use Rattle.senyolanda.proofs.lists.senyolanda_zero_curve_discount_factor_each.Reads as zero_curve_discount_factor_each_reads

pub linear_interpolate_each_determined : Determined _ linear_interpolate_each_kinds.ps linear_interpolate_each_kinds.r linear_interpolate_each_reads.Post
linear_interpolate_each_determined κs a x y e e' p q = one_result p.0 q.0

pub linear_interpolate_each_settled : Settled _ linear_interpolate_each_kinds.ps linear_interpolate_each_kinds.r linear_interpolate_each_reads.Post
linear_interpolate_each_settled κs a x y w w' p q = one_list (λ (l : List Float). (tt, (tt, (l, tt)))) p.1 q.1

pub yield_curve_discount_factor_each_determined : Determined _ yield_curve_discount_factor_each_kinds.ps yield_curve_discount_factor_each_kinds.r yield_curve_discount_factor_each_reads.Post
yield_curve_discount_factor_each_determined κs a x y e e' p q = one_result p.0 q.0

pub yield_curve_discount_factor_each_settled : Settled _ yield_curve_discount_factor_each_kinds.ps yield_curve_discount_factor_each_kinds.r yield_curve_discount_factor_each_reads.Post
yield_curve_discount_factor_each_settled κs a x y w w' p q = one_list (λ (l : List Float). (tt, (tt, (l, tt)))) p.1 q.1

pub discount_curve_rate_each_determined : Determined _ discount_curve_rate_each_kinds.ps discount_curve_rate_each_kinds.r discount_curve_rate_each_reads.Post
discount_curve_rate_each_determined κs a x y e e' p q = one_result p.0 q.0

pub discount_curve_rate_each_settled : Settled _ discount_curve_rate_each_kinds.ps discount_curve_rate_each_kinds.r discount_curve_rate_each_reads.Post
discount_curve_rate_each_settled κs a x y w w' p q = one_list (λ (l : List Float). (tt, (tt, (l, tt)))) p.1 q.1

pub discount_curve_factor_each_determined : Determined _ discount_curve_factor_each_kinds.ps discount_curve_factor_each_kinds.r discount_curve_factor_each_reads.Post
discount_curve_factor_each_determined κs a x y e e' p q = one_result p.0 q.0

pub discount_curve_factor_each_settled : Settled _ discount_curve_factor_each_kinds.ps discount_curve_factor_each_kinds.r discount_curve_factor_each_reads.Post
discount_curve_factor_each_settled κs a x y w w' p q = one_list (λ (l : List Float). (tt, (tt, (l, tt)))) p.1 q.1

pub zero_curve_rate_each_determined : Determined _ zero_curve_rate_each_kinds.ps zero_curve_rate_each_kinds.r zero_curve_rate_each_reads.Post
zero_curve_rate_each_determined κs a x y e e' p q = one_result p.0 q.0

pub zero_curve_rate_each_settled : Settled _ zero_curve_rate_each_kinds.ps zero_curve_rate_each_kinds.r zero_curve_rate_each_reads.Post
zero_curve_rate_each_settled κs a x y w w' p q = one_list (λ (l : List Float). (tt, (tt, (l, tt)))) p.1 q.1

pub swap_curve_rate_each_determined : Determined _ swap_curve_rate_each_kinds.ps swap_curve_rate_each_kinds.r swap_curve_rate_each_reads.Post
swap_curve_rate_each_determined κs a x y e e' p q = one_result p.0 q.0

pub swap_curve_rate_each_settled : Settled _ swap_curve_rate_each_kinds.ps swap_curve_rate_each_kinds.r swap_curve_rate_each_reads.Post
swap_curve_rate_each_settled κs a x y w w' p q = one_list (λ (l : List Float). (tt, (tt, (l, tt)))) p.1 q.1

pub zero_curve_discount_factor_each_determined : Determined _ zero_curve_discount_factor_each_kinds.ps zero_curve_discount_factor_each_kinds.r zero_curve_discount_factor_each_reads.Post
zero_curve_discount_factor_each_determined κs a x y e e' p q = one_result p.0 q.0

pub zero_curve_discount_factor_each_settled : Settled _ zero_curve_discount_factor_each_kinds.ps zero_curve_discount_factor_each_kinds.r zero_curve_discount_factor_each_reads.Post
zero_curve_discount_factor_each_settled κs a x y w w' p q = one_list (λ (l : List Float). (tt, (tt, (l, tt)))) p.1 q.1
