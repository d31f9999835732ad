-- A book drawn by single calls, to be compared with one call: "Results equal calling one at a time in order, each drawn whole." Definitions only. Assumes nothing.
use Rattle.std.specs.Prelude.{ℕ, zero, suc, ◌*◌, Bool, true, cond, List, ◌++◌, ltb, take, drop, Float}
use Rattle.refusals.specs.Outcome.{Outcome, refused, accepted}
use Rattle.mortgage.specs.declared.Loan.{Loan}
use Rattle.mortgage.specs.declared.draws.Portion.{Portion}
use Rattle.mortgage.specs.Row.{width}
use Rattle.mortgage.specs.Level.{due, drawn, filled}
use Rattle.book.specs.Book.{loan_at}

-- the calls stop at a draw that is refused for want of room, or that leaves rows owed
abbrev pub stops : Outcome Portion → Bool
stops (refused k p) = true
stops (accepted d) = ltb 0 d.owed

-- a loan that is opened is drawn into the room, and the calls after it go behind its rows
unfoldable pub behind : Outcome Loan → (List Float → List Float) → List Float → List Float
behind (refused k p) others room = others room
behind (accepted l) others room =
    cond (stops (drawn l room)) (filled l room) (take (due l * width) (filled l room) ++ others (drop (due l * width) (filled l room)))

-- what the calls for k loans leave of a room, from the loan i on
unfoldable pub singly : List ℕ → ℕ → ℕ → List Float → List Float
singly bytes i zero room = room
singly bytes i (suc k) room = behind (loan_at bytes i) (singly bytes (suc i) k) room

-- and how many of the loans are finished, refused ones among them
unfoldable pub counted : Outcome Loan → (List Float → ℕ) → List Float → ℕ
counted (refused k p) others room = suc (others room)
counted (accepted l) others room = cond (stops (drawn l room)) 0 (suc (others (drop (due l * width) (filled l room))))

unfoldable pub finished_singly : List ℕ → ℕ → ℕ → List Float → ℕ
finished_singly bytes i zero room = 0
finished_singly bytes i (suc k) room = counted (loan_at bytes i) (finished_singly bytes (suc i) k) room
