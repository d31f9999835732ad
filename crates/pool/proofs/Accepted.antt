-- What is known of a pool that the lines of the table accept: its bytes hold loans alone, no principal and no term is bad, and there is room where it is asked for. Assumes nothing.
use mathlib.Core.Path.{◌≡◌, refl}
use mathlib.Core.Bool.{Bool, false}
use mathlib.Core.List.{List, [], ◌∷◌, map}
use Prim.Native.Nat.{ℕ, ◌*◌, ◌≤◌}
use native.Mathlib.Omega.{arith}
use borrow.Author.Tests.{ltb-false}
use Rattle.refusals.specs.Outcome.{accepted}
use Rattle.refusals.specs.Table.{bad_term, no_room_for_all}
use Rattle.refusals.proofs.Verdicts.{verdict}
use Rattle.refusals.specs.Places.{placed}
use Rattle.refusals.proofs.Placing.{accepted_itself}
use Rattle.refusals.proofs.Judging.{None, none, skip, passed}
use Rattle.refusals.proofs.Causes.{neither, term_within}
use Rattle.records.specs.declared.Terms.{Terms}
use Rattle.pool.specs.Loans.{bad_records, any_of, unless_bad, longest, loans_in, pool_lines}
use Rattle.pool.specs.Flows.{month_width, too_little}
use Rattle.pool.proofs.Lines.{principals, terms}

any_none : {bs : List Bool} → None bs → any_of bs ≡ false
unfolding any_of
any_none none = refl
any_none (skip n) = any_none n

-- of every term, and so of the longest
pub longest_right : (ts : List Terms) → any_of (map (λ (t : Terms). bad_term t.term) ts) ≡ false → longest ts ≤ 1200
unfolding longest any_of
longest_right [] e = omega arith
longest_right (t ∷ ts) e =
    let both = neither (bad_term t.term) _ e in
    omega (arith, term_within t.term both.0, longest_right ts both.1)

module _ (bytes : List ℕ) (no_room : Bool) (so : accepted tt ≡ placed (verdict (pool_lines bytes no_room))) where
  e : accepted tt ≡ verdict (pool_lines bytes no_room)
  e = accepted_itself (verdict (pool_lines bytes no_room)) so

  all_passed : None (unless_bad bytes (principals bytes)) × None (unless_bad bytes (terms bytes)) × None (unless_bad bytes (no_room ∷ [])) × None (bad_records bytes)
  all_passed =
      let a = passed tt tt _ _ e in
      let b = passed tt tt _ _ a.1 in
      let c = passed tt tt _ _ b.1 in
      let d = passed tt tt _ _ c.1 in
      let f = passed tt tt _ _ d.1 in
      (a.0, b.0, c.0, f.0)

  records_right : any_of (bad_records bytes) ≡ false
  records_right = any_none all_passed.3

  unless : (causes : List Bool) → None (unless_bad bytes causes) → any_of causes ≡ false
  unless causes n = any_none (rw records_right at n)

  pub principals_right : any_of (principals bytes) ≡ false
  principals_right = unless _ all_passed.0

  pub terms_right : any_of (terms bytes) ≡ false
  terms_right = unless _ all_passed.1

  room_right : no_room ≡ false
  unfolding any_of
  room_right = (neither no_room false (unless (no_room ∷ []) all_passed.2)).0

pub enough_room : (bytes : List ℕ) (room : ℕ) → accepted tt ≡ placed (verdict (pool_lines bytes (too_little bytes room))) → longest (loans_in bytes) * month_width ≤ room
unfolding too_little no_room_for_all
enough_room bytes room e = ltb-false room (longest (loans_in bytes) * month_width) (room_right bytes _ e)
