-- The longest term, gathered loan after loan. Assumes nothing.
use mathlib.Core.Path.{◌≡◌, ◌∙◌}
use mathlib.Core.List.{List, [], ◌∷◌}
use Prim.Native.Nat.{ℕ, max}
use Rattle.std.specs.Prelude.{fold}
use native.Mathlib.Omega.{arith}
use Rattle.records.specs.declared.Terms.{Terms}
use Rattle.pool.specs.Loans.{longest}

longest_or : (m : ℕ) (ts : List Terms) → fold (λ n (t : Terms). max t.term n) m ts ≡ max m (longest ts)
unfolding longest
longest_or m [] = omega arith
longest_or m (t ∷ ts) = longest_or (max t.term m) ts ∙ omega arith

pub longest_by_fold : (ts : List Terms) → fold (λ n (t : Terms). max t.term n) 0 ts ≡ longest ts
longest_by_fold ts = longest_or 0 ts ∙ omega arith
