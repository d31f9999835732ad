-- What it means that a promise is tight, said of a function's contract itself: it leaves one result, and one last state of what was lent. Definitions only. Assumes nothing.
use Rattle.std.proofs.Common.{◌≡◌, ℕ, List}
use borrow.Fn.Kinds.{Out, ParamKind, ResultKind, Dens, res_t, ended_of}
use contract.Lifetimes.{Lfts}
use denote.Triple.Clauses.{AtExit, Lasts, at_exit}

-- of the arguments a, what a contract ensures (`Post`) leaves one result
abbrev pub Determined : (n : ℕ) (ps : List (ParamKind n)) (r : ResultKind n) → Out n ps r → Type 0
Determined n ps r promise = (κs : Lfts n) (a : Dens κs ps) (x y : (res_t r κs).Denot) (e e' : AtExit (ended_of n ps r) κs) → promise κs a x e → promise κs a y e' → x ≡ y

-- of the arguments a, what a contract ensures leaves one last value to each lent place
abbrev pub Settled : (n : ℕ) (ps : List (ParamKind n)) (r : ResultKind n) → Out n ps r → Type 0
Settled n ps r promise =
    (κs : Lfts n) (a : Dens κs ps) (x y : (res_t r κs).Denot) (w w' : Lasts (ended_of n ps r) κs a)
    → promise κs a x (at_exit (ended_of n ps r) κs a w) → promise κs a y (at_exit (ended_of n ps r) κs a w') → w ≡ w'
