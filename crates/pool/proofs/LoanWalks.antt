-- The walks of a pool's loans one after the other: the payment of a loan that is not refused, and a turn over the loans of an accepted pool. Assumes nothing.
use mathlib.Core.Path.{◌≡◌, sym, ap, subst, ◌∙◌}
use mathlib.Core.Bool.{false}
use mathlib.Core.List.{List, [], ◌∷◌, map}
use Prim.Native.Nat.{◌*◌, ◌≤◌}
use native.Mathlib.Omega.{arith}
use lib.ListN.{length}
use lib.Ieee.{Float}
use Rattle.std.specs.declared.result.Result.{Result}
use Rattle.std.specs.declared.result.Result.TheVariants.{Ok}
use Rattle.refusals.specs.declared.Refusal.{Refusal}
use Rattle.refusals.specs.Outcome.{first_or, judged}
use Rattle.refusals.specs.Answers.{outcome}
use Rattle.refusals.specs.Table.{bad_amount, bad_term}
use Rattle.refusals.proofs.Causes.{neither}
use Rattle.refusals.proofs.OneToOne.{one_to_one}
use Rattle.records.specs.declared.Terms.{Terms}
use Rattle.mortgage.specs.Payment.{payment, monthly_payment}
use Rattle.pool.specs.Loans.{any_of, longest}
use Rattle.pool.specs.Flows.{month_width}
use Rattle.pool.specs.inner.Walk.{walked, loan_added, loans_added}

pub paid : (t : Terms) (x : Result Float Refusal) → outcome x ≡ monthly_payment t → bad_amount t.principal ≡ false → bad_term t.term ≡ false → x ≡ Ok (payment t)
unfolding monthly_payment judged first_or
paid t x e a b = one_to_one x (Ok (payment t)) (e ∙ rw (a, b))

-- ---- the loans ts are still to be added to a room, and then it holds the total
pub record ToAdd (speeds total : List Float) (ts : List Terms) (room : List Float) : Type 0 where
  pub added : loans_added speeds ts room ≡ total
  pub principals : any_of (map (λ (t : Terms). bad_amount t.principal) ts) ≡ false
  pub terms : any_of (map (λ (t : Terms). bad_term t.term) ts) ≡ false
  pub speeds_last : longest ts ≤ length speeds
  pub room_lasts : longest ts * month_width ≤ length room

module _ (speeds total room : List Float) (all ts : List Terms) (t : Terms) (given : all ≡ t ∷ ts) (h : ToAdd speeds total all room) where
  first_left : ToAdd speeds total (t ∷ ts) room
  first_left = subst (λ l. ToAdd speeds total l room) given h

  pub next_fits : (t.term ≤ length speeds) × (t.term * month_width ≤ length room) × (bad_amount t.principal ≡ false) × (bad_term t.term ≡ false)
  unfolding any_of longest
  next_fits = (omega (arith, first_left.speeds_last), omega (arith, first_left.room_lasts), (neither (bad_amount t.principal) _ first_left.principals).0, (neither (bad_term t.term) _ first_left.terms).0)

  pub one_added : (room' : List Float) → room' ≡ walked (loan_added t speeds) 0 t.term room → length room' ≡ length room → ToAdd speeds total ts room'
  unfolding loans_added any_of longest
  one_added room' e l = record {
    added = ap (loans_added speeds ts) e ∙ first_left.added;
    principals = (neither (bad_amount t.principal) _ first_left.principals).1;
    terms = (neither (bad_term t.term) _ first_left.terms).1;
    speeds_last = omega (arith, first_left.speeds_last);
    room_lasts = omega (arith, first_left.room_lasts);
  }

pub all_added : (speeds total room : List Float) (ts : List Terms) → ts ≡ [] → ToAdd speeds total ts room → room ≡ total
unfolding loans_added
all_added speeds total room ts e h = sym (ap (λ l. loans_added speeds l room) e) ∙ h.added
