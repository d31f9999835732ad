-- A book: whatever is given, each contract leaves one result, and one last state of what was lent. Assumes nothing.
use mathlib.Core.List.{List}
use Prim.Native.Nat.{ℕ}
use lib.Ieee.{Float}
use Rattle.numbers.proofs.Determined.{Determined, Settled}
use Rattle.senyolanda.proofs.tight.OneAnswer.{one_result, one_last_and_lists}
use Rattle.senyolanda.proofs.books.senyolanda_draw_book.Kinds as draw_book_kinds
use Rattle.senyolanda.proofs.books.senyolanda_draw_book.Reads as draw_book_reads

pub draw_book_determined : Determined _ draw_book_kinds.ps draw_book_kinds.r draw_book_reads.Post
draw_book_determined κs a x y e e' p q = one_result p.0 q.0

pub draw_book_settled : Settled _ draw_book_kinds.ps draw_book_kinds.r draw_book_reads.Post
draw_book_settled κs a x y w w' p q = one_last_and_lists (λ (u : ℕ × ℕ × ℕ) (l : List Float) (m : List ℕ). (tt, (m, (l, (u.0, (u.1, (u.2, tt))))))) p.0 q.0 p.1.0 q.1.0 p.1.1 q.1.1
