-- What a call may answer, and document 01's rule of which refusal it gives: "The lowest number that applies is given, with a place: in a list, or of a break-even's
-- two loans, the index from 0 of the first bad item; else 0." Every entry point's answer goes through `judged`. Definitions only. Assumes nothing.
use Rattle.std.specs.Prelude.{◌≡◌, ◌⊎◌, ◌↔◌, Bool, true, false, cond, ◌&&◌, ◌||◌, List, [], ◌∷◌, ℕ, suc, ◌<◌, get_or, ltb}

-- a refusal's number and place, or the values that are asked for
pub data Outcome (Value : Type 0) : Type 0 where
  refused : ℕ → ℕ → Outcome Value
  accepted : Value → Outcome Value

-- what is asked of a value, once it is there; where it is refused, the refusal is the answer
abbrev pub and_then : {A B : Type 0} → Outcome A → (A → Outcome B) → Outcome B
and_then (refused k p) asked = refused k p
and_then (accepted v) asked = asked v

-- a line of the table as one call meets it: its number, and for each place, from 0, whether its cause is there
pub record Line : Type 0 where
  pub number : ℕ
  pub causes : List Bool

-- a line that asks about one thing, and one that asks about two
abbrev pub line : ℕ → Bool → Line
line k b = record { number = k; causes = b ∷ [] }

abbrev pub line_of_two : ℕ → Bool → Bool → Line
line_of_two k a b = record { number = k; causes = a ∷ b ∷ [] }

-- "A bad single argument counts before a bad list item": a single cause stands at place 0, before those of the list's items
abbrev pub alone : Bool → List Bool → List Bool
alone b [] = b ∷ []
alone b (c ∷ cs) = (b || c) ∷ cs

-- number k at the first place, from p, that has a cause; where none has, what the rest says
unfoldable pub first_or : {Value : Type 0} → ℕ → ℕ → List Bool → Outcome Value → Outcome Value
first_or k p [] rest = rest
first_or k p (b ∷ bs) rest = cond b (refused k p) (first_or k (suc p) bs rest)

-- the rule, for lines in rising order
unfoldable pub judged : {Value : Type 0} → List Line → Value → Outcome Value
unfolding first_or
judged [] v = accepted v
judged (l ∷ ls) v = first_or l.number 0 l.causes (judged ls v)

-- ---- the same said without an order of steps: refusal k at p is given exactly when line k's cause is at p, at no earlier place, and no lower line has any

unfoldable pub Applies : List Line → ℕ → ℕ → Type 0
Applies [] k p = ⊥
Applies (l ∷ ls) k p = ((l.number ≡ k) × (get_or l.causes p false ≡ true)) ⊎ Applies ls k p

pub record Lowest (ls : List Line) (k p : ℕ) : Type 0 where
  pub applies : Applies ls k p
  pub no_lower : (j q : ℕ) → j < k → ¬ Applies ls j q
  pub no_earlier : (q : ℕ) → q < p → ¬ Applies ls k q

abbrev pub ExactlyWhen : {Value : Type 0} → List Line → Outcome Value → Type 0
ExactlyWhen ls o = (k p : ℕ) → (o ≡ refused k p) ↔ Lowest ls k p

-- the numbers of the lines rise
unfoldable pub above : ℕ → List Line → Bool
above k [] = true
above k (l ∷ ls) = ltb k l.number && above l.number ls

abbrev pub rising : List Line → Bool
rising ls = above 0 ls
