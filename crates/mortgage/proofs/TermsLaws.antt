-- What is known of a loan's terms where their two lines were passed, whatever lines follow: the principal is an amount, and the term is none of those that line 2 names. Assumes nothing.
use mathlib.Core.Path.{◌≡◌, sym}
use mathlib.Core.Bool.{false, not}
use mathlib.Core.List.{List, ◌∷◌, ◌++◌}
use lib.Dec.{T}
use lib.Ieee.{Float, binary64, lt, fits}
use lib.Ieee.Bits.{is_true}
use lib.Ieee.Scale.{finite}
use Rattle.numbers.specs.Clamps.{plus_zero}
use Rattle.numbers.proofs.Amounts.{amount}
use Rattle.numbers.proofs.Order.{amount_by_tests}
use Rattle.refusals.specs.Outcome.{Line, accepted, line, judged}
use Rattle.refusals.specs.Table.{bad_amount, bad_term}
use Rattle.refusals.proofs.Causes.{neither, amount_finite}
use Rattle.refusals.proofs.Judging.{none_is, passed, followed, judged_in_parts}
use Rattle.refusals.proofs.Verdicts.{verdict}
use Rattle.records.specs.declared.Terms.{Terms}
use Rattle.mortgage.specs.Terms.{terms_lines}

pub terms_passed : {Value : Type 0} (t : Terms) (rest : List Line) (v d : Value) → judged (terms_lines t ++ rest) v ≡ accepted d
    → (bad_amount t.principal ≡ false) × (bad_term t.term ≡ false) × (accepted d ≡ judged rest v)
terms_passed t rest v d e =
    let first = passed v d (line 1 (bad_amount t.principal)) (line 2 (bad_term t.term) ∷ rest) (sym e) in
    let second = passed v d (line 2 (bad_term t.term)) rest first.1 in
    (none_is first.0 0, none_is second.0 0, second.1)

-- the lines of the terms decide first
pub terms_first : {Value : Type 0} (t : Terms) (rest : List Line) (v : Value) → judged (terms_lines t ++ rest) v ≡ followed (verdict (terms_lines t)) (judged rest v)
terms_first t rest v = judged_in_parts (terms_lines t) rest v

-- a principal that the machine holds
pub amount_passed : (x : Float) → T (fits binary64 x) → bad_amount x ≡ false → T (amount binary64 x)
unfolding bad_amount
amount_passed x fit good = amount_by_tests binary64 x (is_true _ fit) (amount_finite x good) (neither (not (finite x)) (lt x plus_zero) good).1
