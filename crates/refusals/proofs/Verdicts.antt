-- The lines alone decide on a refusal, whatever value they judge: so a verdict, which judges no value, is turned into the answer of any function that asks the same lines. Assumes nothing.
use mathlib.Core.Path.{◌≡◌, refl, sym, ap, ◌∙◌}
use mathlib.Core.Bool.{Bool, true, false}
use mathlib.Core.List.{List, [], ◌∷◌}
use Prim.Native.Nat.{ℕ, suc}
use native.Mathlib.Omega.{arith}
use Rattle.refusals.specs.declared.Refusal.{Refusal}
use Rattle.refusals.specs.Outcome.{Outcome, refused, accepted, Line, first_or, judged}
use Rattle.std.specs.declared.result.Result.TheVariants.{Ok, Err}
use Rattle.std.specs.declared.result.Result.{Result}
use Rattle.std.specs.Result.{IsErrAnd}
use Rattle.refusals.specs.Answers.{number, outcome}

-- the lines, judging no value
abbrev pub verdict : List Line → Outcome Unit
verdict ls = judged ls tt

-- a value in the place of what was accepted
abbrev carried : {Value : Type 0} → Value → Outcome Unit → Outcome Value
carried v (refused k p) = refused k p
carried v (accepted u) = accepted v

carried_first : {Value : Type 0} (v : Value) (k p : ℕ) (bs : List Bool) (rest : Outcome Unit) → first_or k p bs (carried v rest) ≡ carried v (first_or k p bs rest)
unfolding first_or
carried_first v k p [] rest = refl
carried_first v k p (true ∷ bs) rest = refl
carried_first v k p (false ∷ bs) rest = carried_first v k (suc p) bs rest

pub judged_carried : {Value : Type 0} (ls : List Line) (v : Value) → judged ls v ≡ carried v (verdict ls)
unfolding judged
judged_carried [] v = refl
judged_carried (l ∷ ls) v =
    ap (first_or l.number 0 l.causes) (judged_carried ls v) ∙ carried_first v l.number 0 l.causes (verdict ls)

-- what a verdict refuses is refused alike, and what it accepts has its value accepted
pub refused_alike : {Value : Type 0} (ls : List Line) (v : Value) (k p : ℕ) → refused k p ≡ verdict ls → refused k p ≡ judged ls v
refused_alike ls v k p e = ap (carried v) e ∙ sym (judged_carried ls v)

pub accepted_alike : {Value : Type 0} (ls : List Line) (v : Value) → accepted tt ≡ verdict ls → accepted v ≡ judged ls v
accepted_alike ls v e = ap (carried v) e ∙ sym (judged_carried ls v)

-- the same as a `match` on a verdict has it, in either arm
pub refused_by : {Value : Type 0} (ls : List Line) (v : Value) (x : Result Unit Refusal) (r : Refusal) → x ≡ Err r → outcome x ≡ verdict ls
    → refused (number r.cause) r.place ≡ judged ls v
refused_by ls v x r h e = refused_alike ls v (number r.cause) r.place (sym (ap outcome h) ∙ e)

pub accepted_by : {Value : Type 0} (ls : List Line) (v : Value) (x : Result Unit Refusal) → x ≡ Ok tt → outcome x ≡ verdict ls
    → accepted v ≡ judged ls v
accepted_by ls v x h e = accepted_alike ls v (sym (ap outcome h) ∙ e)

-- ---- as a `?` has it, which hands the refusal on: the answer is that refusal, and so, where it is a verdict's, what the lines refuse
pub handed_on : {Value : Type 0} {r : Refusal} (y : Result Value Refusal) → IsErrAnd y (λ (s : Refusal). s ≡ r) → y ≡ Err r
handed_on (Err s) e = ap Err e
handed_on (Ok v) e = absurd e

pub refused_on : {Value : Type 0} (ls : List Line) (v : Value) {x : Result Unit Refusal} {r : Refusal} (y : Result Value Refusal) → IsErrAnd y (λ (s : Refusal). s ≡ r) → x ≡ Err r
    → outcome x ≡ verdict ls → outcome y ≡ judged ls v
refused_on ls v {x} {r} y i h e = ap outcome (handed_on y i) ∙ refused_by ls v x r h e

-- a refusal of a line that names no list
pub refused_as : {Value : Type 0} (k : ℕ) (r : Refusal) (o : Outcome Value) → (number r.cause ≡ k) × (r.place ≡ 0) → refused k 0 ≡ o → refused (number r.cause) r.place ≡ o
refused_as k r o h e = rw (h.0, h.1) e

-- ---- what is accepted is the value that the lines judge
first_accepts : {Value : Type 0} (k p : ℕ) (bs : List Bool) (rest : Outcome Value) (d : Value) → first_or k p bs rest ≡ accepted d → rest ≡ accepted d
unfolding first_or
first_accepts k p [] rest d e = e
first_accepts k p (true ∷ bs) rest d e = let z : ◌≡◌ {A = ℕ} 0 1 = cc in absurd (omega arith)
first_accepts k p (false ∷ bs) rest d e = first_accepts k (suc p) bs rest d e

pub accepted_value : {Value : Type 0} (ls : List Line) (v d : Value) → judged ls v ≡ accepted d → d ≡ v
unfolding judged
accepted_value [] v d e = cc
accepted_value (l ∷ ls) v d e = accepted_value ls v d (first_accepts l.number 0 l.causes (judged ls v) d e)

-- ---- lines that accept some value accept, whatever they judge
pub accepts_whatever : {Value : Type 0} (ls : List Line) (v d : Value) → accepted d ≡ judged ls v → accepted tt ≡ verdict ls
accepts_whatever ls v d e = go (verdict ls) refl
  where
    go : (o : Outcome Unit) → o ≡ verdict ls → accepted tt ≡ verdict ls
    go (accepted u) h = h
    go (refused k p) h = let r = refused_alike ls v k p h in let z : ◌≡◌ {A = ℕ} 0 1 = cc in absurd (omega arith)
