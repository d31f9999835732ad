-- How tight the promises of `list_loan` and `list` are: whatever record they are handed, any two answers that a contract allows are equal, and so are any two memories that it may leave. Assumes nothing.
use mathlib.Core.Path.{◌≡◌, sym, ap, ◌∙◌}
use mathlib.Core.List.{List, ◌++◌}
use Prim.Native.Nat.{ℕ}
use lib.ListN.{drop}
use Rattle.numbers.proofs.Determined.{Determined, Settled}
use Rattle.refusals.proofs.OneToOne.{one_to_one}
use Rattle.listing.specs.Listing.{listing}
use Rattle.listing.proofs.list_loan.Kinds as list_loan_kinds
use Rattle.listing.proofs.list_loan.Reads as list_loan
use Rattle.listing.proofs.list.Kinds as list_kinds
use Rattle.listing.proofs.list.Reads as list

pub list_loan_determined : Determined 2 list_loan_kinds.ps list_loan_kinds.r list_loan.Post
list_loan_determined κs a x y e e' p q = one_to_one x y (p.0 ∙ sym q.0)

pub list_loan_settled : Settled 2 list_loan_kinds.ps list_loan_kinds.r list_loan.Post
list_loan_settled κs a x y w w' p q = ap (λ (l : List ℕ). (tt, (l, tt))) (p.1 ∙ sym q.1)

pub list_determined : Determined 2 list_kinds.ps list_kinds.r list.Post
list_determined κs a x y e e' p q = p.0 ∙ sym q.0

pub list_settled : Settled 2 list_kinds.ps list_kinds.r list.Post
list_settled κs a x y w w' p q =
    let e : x ≡ y = p.0 ∙ sym q.0 in
    ap (λ (l : List ℕ). (tt, (l, tt))) (p.1 ∙ ap (λ (n : ℕ). listing a.0.now ++ drop n a.1.0.now) e ∙ sym q.1)
