-- `mortgage::years::look_up_kind_year` meets its contract: a year that rows have begun has its line lent. Assumes nothing.
use mathlib.Core.Path.{sym, ◌∙◌}
use mathlib.Core.List.{[]}
use Prim.Native.Nat.{◌≤◌}
use native.Mathlib.Omega.{arith}
use lib.ListN.{length}
use Rattle.mortgage.specs.Kinds.{way_of}
use Rattle.mortgage.proofs.RowsLaid.{end_is}
use Rattle.mortgage.proofs.DrawCases.{ends_within}
use Rattle.mortgage.proofs.YearCases.{enough_for_begun}
use Rattle.mortgage.proofs.years.look_up_kind_year.Goals as goal

pub line_from-requires : goal.line_from-requires
line_from-requires c =
    let a = c.args in
    let way = way_of a.kind [] in
    let ends = end_is way a.loan _ (c.course_of.ensures []) in
    let within = ends_within way a.loan (sym (c.bad_end.ensures []) ∙ c.if-bad_end.false) in
    let begun : a.loan.done ≤ a.loan.term = omega arith in
    omega (arith, enough_for_begun a.loan (length a.years.now) a.loan.done (sym c.too_few.ensures ∙ c.if-too_few.false) begun)
