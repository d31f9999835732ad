-- What a call tells its caller: its result, and what the lent places hold after it. Definitions only. Assumes nothing.
use Rattle.std.specs.Prelude.{ℕ, ◌+◌, ◌*◌, Bool, cond}
use Rattle.refusals.specs.Outcome.{Outcome, refused, accepted, and_then}

-- a refusal's number in the low half of the result, its place in the high half
abbrev pub refusal_result : ℕ → ℕ → ℕ
refusal_result k p = k + 0x1_0000_0000 * p

-- 0 and the answer in its places; or the refusal, and in each place what stood there
unfoldable pub told : {A B : Type 0} → (A → B) → Outcome A → B → ℕ × B
told laid (refused k p) before = (refusal_result k p, before)
told laid (accepted v) before = (0, laid v)

-- what is never refused
abbrev pub always : {A : Type 0} → A → ℕ × A
always v = (0, v)

-- the answer is the one number
abbrev pub told_number : {A : Type 0} → Outcome A → A → ℕ × A
told_number o before = told (λ x. x) o before

-- a value that is read with a code. One outside its set is 11, and waits its turn: any other line that has its cause goes first
abbrev pub coded : {Value : Type 0} → Bool → Outcome Unit → Value → Outcome Value
coded bad others v = cond bad (and_then others (λ _. refused 11 0)) (accepted v)
