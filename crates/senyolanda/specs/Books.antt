-- A book of loans as a host draws it: what the call hands back. Definitions only. Assumes nothing.
use Rattle.std.specs.Prelude.{ℕ}
use Rattle.book.specs.Book.{Progress}

-- loans finished, rows of the one cut short, loans not started
abbrev pub progress_numbers : Progress → ℕ × ℕ × ℕ
progress_numbers p = (p.finished, p.cut, p.waiting)
