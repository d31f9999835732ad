-- The iterators over a pool's bytes, and what each gives in order: the loans, and the records. Assumes nothing.
use mathlib.Core.Path.{◌≡◌, refl, ◌∙◌}
use mathlib.Core.List.{List}
use Prim.Native.Nat.{ℕ}
use native.Mathlib.Omega.{arith}
use Rattle.std.specs.Iterator.{YieldsFirst}
use Rattle.std.specs.declared.slice.ChunksExact.{ChunksExact}
use Rattle.std.specs.Slice.Iter.{chunks_exact_rest, chunks_exact_size, chunks_exact_steps}
use Rattle.std.proofs.lemmas.Iterator.{YieldsList}
use Rattle.std.proofs.lemmas.Iterator.Consumers.{YieldsList-from_first}
use Rattle.std.proofs.lemmas.Iterator.Splits.{YieldsList-from_shown_while}
use Rattle.records.specs.declared.Terms.{Terms}
use Rattle.records.specs.Kinds.{terms_size}
use Rattle.pool.specs.declared.loans.Loans.{Loans}
use Rattle.pool.specs.Loans.{loans_in}
use Rattle.pool.proofs.Records.{records, no_record, record_and_rest}

-- the loans that are left
abbrev pub left : Loans → List Terms
left l = loans_in l.bytes.now

pub in_order : (l : Loans) → YieldsList (YieldsFirst left) (λ t. t) l (left l)
in_order l = YieldsList-from_first (λ t. t) left (left l) refl

-- the records of bytes
pub records_in_order : (s : ChunksExact ℕ) → chunks_exact_size s ≡ terms_size → YieldsList chunks_exact_steps (λ r. r.now) s (records (chunks_exact_rest s))
records_in_order s e =
    YieldsList-from_shown_while chunks_exact_steps (λ r. r.now) (λ t. records (chunks_exact_rest t)) (λ t. chunks_exact_size t ≡ terms_size)
    (λ t u h k. no_record (chunks_exact_rest t) (omega (arith, h, k.1.0)))
    (λ t x u h k. (k.0 ∙ h, record_and_rest (chunks_exact_rest t) x.now (chunks_exact_rest u) k.1.0 (k.1.1 ∙ h)))
    s e
