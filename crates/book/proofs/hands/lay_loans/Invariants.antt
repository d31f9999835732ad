-- `book::hands::lay_loans` meets its contract: after i turns the room, once the loan in hand is drawn to its end, holds the first i loans whole. Assumes nothing.
use Prim.Native.Nat.{◌-◌}
use Rattle.book.proofs.Taking.{Underway}
use Rattle.book.proofs.hands.lay_loans.Given as goal

abbrev pub invariant-loop-i : goal.invariant-loop-i
invariant-loop-i l = Underway l.records l.initial.room l.count l.room l.hand.loan l.hand.at l.hand.end l.i

abbrev pub decreases-loop-i : goal.decreases-loop-i
decreases-loop-i l = l.count - l.i
