-- A draw of a book refuses by the table's rule: number k at place p is given exactly when that is the lowest line with a cause and its first place. Assumes nothing.
use mathlib.Core.List.{List}
use Prim.Native.Nat.{ℕ}
use Rattle.refusals.specs.Outcome.{ExactlyWhen, above}
use Rattle.refusals.proofs.Judging.{exactly}
use Rattle.book.specs.Book.{book_lines, book_drawn}

pub book_refused_exactly : (bytes : List ℕ) (answers room : ℕ) → ExactlyWhen (book_lines bytes answers room) (book_drawn bytes answers room)
unfolding book_drawn above
book_refused_exactly bytes answers room = exactly _ (book_lines bytes answers room) tt
