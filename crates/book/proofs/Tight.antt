-- How tight the promise of a draw of a book is: whatever it is given, any two answers that its contract allows are equal, and so are any two rooms and any two lists of answers
-- that it may leave. Assumes nothing.
use mathlib.Core.Path.{◌≡◌, sym, ap, ap₂, ◌∙◌}
use mathlib.Core.List.{List}
use Prim.Native.Nat.{ℕ}
use lib.Ieee.{Float}
use Rattle.numbers.proofs.Determined.{Determined, Settled}
use Rattle.refusals.proofs.OneToOne.{same_refusal}
use Rattle.book.specs.declared.BookProgress.{BookProgress}
use Rattle.book.specs.Book.{Progress, book_outcome}
use Rattle.book.proofs.draw_book.Kinds as draw_book_kinds
use Rattle.book.proofs.draw_book.Reads as draw_book
use Rattle.std.specs.declared.result.Result.TheVariants.{Ok, Err}
use Rattle.std.specs.declared.result.Result.{Result}
use Rattle.refusals.specs.declared.Refusal.{Refusal}

-- ---- each answer has its own outcome
same_progress : (d g : BookProgress) → book_outcome (Ok d) ≡ book_outcome (Ok g) → d ≡ g
same_progress d g e =
    let p : ◌≡◌ {A = Progress} (record { finished = d.finished; cut = d.cut; waiting = d.waiting }) (record { finished = g.finished; cut = g.cut; waiting = g.waiting }) = cc in
    let made : Progress → BookProgress = λ (q : Progress). record { finished = q.finished; cut = q.cut; waiting = q.waiting } in
    ap made p

pub book_one_to_one : (x y : Result BookProgress Refusal) → book_outcome x ≡ book_outcome y → x ≡ y
book_one_to_one (Err r) (Err s) e = ap Err (same_refusal r s e)
book_one_to_one (Err r) (Ok d) e = cc
book_one_to_one (Ok d) (Err s) e = cc
book_one_to_one (Ok d) (Ok g) e = ap Ok (same_progress d g e)

-- ---- so the promise leaves one answer
pub draw_book_determined : Determined 3 draw_book_kinds.ps draw_book_kinds.r draw_book.Post
draw_book_determined κs a x y e e' p q = book_one_to_one x y (p.0 ∙ sym q.0)

-- and one list of answers and one room, the second and third parameters
pub draw_book_settled : Settled 3 draw_book_kinds.ps draw_book_kinds.r draw_book.Post
draw_book_settled κs a x y w w' p q =
    let room = p.1.0 ∙ sym q.1.0 in
    let answers = p.1.1 ∙ sym q.1.1 in
    ap₂ (λ (l : List ℕ) (m : List Float). (tt, (l, (m, tt)))) answers room
