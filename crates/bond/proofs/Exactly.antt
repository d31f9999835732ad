-- Every entry point refuses by the table's rule: number k at place p is given exactly when that is the lowest line with a cause and its first place. Assumes nothing.
use mathlib.Core.Path.{◌≡◌, refl, ap, ◌∙◌}
use mathlib.Core.Logic.{◌⊎◌, inl, inr, ◌↔◌}
use mathlib.Core.Bool.{not}
use mathlib.Core.List.{List, [], ◌∷◌, ◌++◌}
use Prim.Native.Nat.{ℕ}
use native.Mathlib.Omega.{arith}
use lib.Ieee.{Float}
use lib.Ieee.Scale.{finite}
use Rattle.refusals.specs.Outcome.{Outcome, refused, accepted, and_then, Line, line, Lowest, ExactlyWhen, above}
use Rattle.refusals.specs.Table.{bad_number, bad_code}
use Rattle.refusals.proofs.Judging.{exactly}
use Rattle.bond.specs.declared.Bond.{Bond}
use Rattle.bond.specs.Bonds.{bond_lines}
use Rattle.bond.specs.Price.{price, dv01, current_yield, zero_coupon_price}
use Rattle.bond.specs.Yield.{no_bracket, yield_to_maturity}
use Rattle.bond.specs.Durations.{macaulay_duration, modified_duration, convexity, price_change, macaulay_at_price, modified_at_price, convexity_at_price}
use Rattle.bond.specs.Codes.{last_code, frequency_of}

pub price_refused_exactly : (ytm : Float) (b : Bond) → ExactlyWhen (bond_lines b ytm) (price ytm b)
unfolding price above
price_refused_exactly ytm b = exactly _ (bond_lines b ytm) tt

pub dv01_refused_exactly : (ytm : Float) (b : Bond) → ExactlyWhen (bond_lines b ytm) (dv01 ytm b)
unfolding dv01 above
dv01_refused_exactly ytm b = exactly _ (bond_lines b ytm) tt

pub current_yield_refused_exactly : (market : Float) (b : Bond) → ExactlyWhen (bond_lines b market) (current_yield market b)
unfolding current_yield above
current_yield_refused_exactly market b = exactly _ (bond_lines b market) tt

abbrev pub zero_coupon_lines : Float → Float → List Line
zero_coupon_lines ytm maturity = line 7 (not (finite maturity)) ∷ line 9 (bad_number ytm) ∷ []

pub zero_coupon_refused_exactly : (ytm maturity : Float) → ExactlyWhen (zero_coupon_lines ytm maturity) (zero_coupon_price ytm maturity)
unfolding zero_coupon_price above
zero_coupon_refused_exactly ytm maturity = exactly _ (zero_coupon_lines ytm maturity) tt

abbrev pub yield_lines : Bond → Float → List Line
yield_lines b market = bond_lines b market ++ line 12 (no_bracket b market) ∷ []

pub yield_refused_exactly : (market : Float) (b : Bond) → ExactlyWhen (yield_lines b market) (yield_to_maturity market b)
unfolding yield_to_maturity above
yield_refused_exactly market b = exactly _ (yield_lines b market) tt

pub macaulay_refused_exactly : (ytm : Float) (b : Bond) → ExactlyWhen (bond_lines b ytm) (macaulay_duration ytm b)
unfolding macaulay_duration above
macaulay_refused_exactly ytm b = exactly _ (bond_lines b ytm) tt

pub modified_refused_exactly : (ytm : Float) (b : Bond) → ExactlyWhen (bond_lines b ytm) (modified_duration ytm b)
unfolding modified_duration above
modified_refused_exactly ytm b = exactly _ (bond_lines b ytm) tt

pub convexity_refused_exactly : (ytm : Float) (b : Bond) → ExactlyWhen (bond_lines b ytm) (convexity ytm b)
unfolding convexity above
convexity_refused_exactly ytm b = exactly _ (bond_lines b ytm) tt

pub price_change_refused_exactly : (ytm dy : Float) (b : Bond) → ExactlyWhen (bond_lines b ytm) (price_change ytm dy b)
unfolding price_change above
price_change_refused_exactly ytm dy b = exactly _ (bond_lines b ytm) tt

-- ---- at a market price: the lines of the yield, or, where a yield is given, the lines of what is asked at it
pub at_price_exactly : (asked : Float → Outcome Float) (lines : Float → List Line) → ((ytm : Float) → ExactlyWhen (lines ytm) (asked ytm))
    → (first : List Line) (o : Outcome Float) → ExactlyWhen first o → (k p : ℕ)
    → (and_then o asked ≡ refused k p) ↔ (Lowest first k p ⊎ ((ytm : Float) × (o ≡ accepted ytm) × Lowest (lines ytm) k p))
at_price_exactly asked lines later first (refused j q) ex k p = (
  λ e. inl ((ex k p).0 e),
  λ w. elim w [ inl l ↦ (ex k p).1 l | inr n ↦ (let never = n.1 in let z : ◌≡◌ {A = ℕ} 0 1 = cc in absurd (omega arith)) ],
)
at_price_exactly asked lines later first (accepted y) ex k p = (
  λ e. inr (y, refl, (later y k p).0 e),
  λ w. elim w [
    | inl l ↦ (let never = (ex k p).1 l in let z : ◌≡◌ {A = ℕ} 0 1 = cc in absurd (omega arith))
    | inr n ↦ (let same = n.1 in let at : y ≡ n.0 = cc in ap asked at ∙ (later n.0 k p).1 n.2)
  ],
)

abbrev RefusedAtPrice : Float → Bond → Outcome Float → Type 0
RefusedAtPrice market b o =
    (k p : ℕ)
    → (o ≡ refused k p)
    ↔ (Lowest (yield_lines b market) k p ⊎ ((ytm : Float) × (yield_to_maturity market b ≡ accepted ytm) × Lowest (bond_lines b ytm) k p))

pub macaulay_at_price_refused_exactly : (market : Float) (b : Bond) → RefusedAtPrice market b (macaulay_at_price market b)
unfolding macaulay_at_price
macaulay_at_price_refused_exactly market b =
    at_price_exactly _ (bond_lines b) (λ ytm. macaulay_refused_exactly ytm b) (yield_lines b market) _ (yield_refused_exactly market b)

pub modified_at_price_refused_exactly : (market : Float) (b : Bond) → RefusedAtPrice market b (modified_at_price market b)
unfolding modified_at_price
modified_at_price_refused_exactly market b =
    at_price_exactly _ (bond_lines b) (λ ytm. modified_refused_exactly ytm b) (yield_lines b market) _ (yield_refused_exactly market b)

pub convexity_at_price_refused_exactly : (market : Float) (b : Bond) → RefusedAtPrice market b (convexity_at_price market b)
unfolding convexity_at_price
convexity_at_price_refused_exactly market b =
    at_price_exactly _ (bond_lines b) (λ ytm. convexity_refused_exactly ytm b) (yield_lines b market) _ (yield_refused_exactly market b)

-- ---- a record's code
pub code_refused_exactly : (code : ℕ) → ExactlyWhen (line 11 (bad_code last_code code) ∷ []) (frequency_of code)
unfolding frequency_of above
code_refused_exactly code = exactly _ (line 11 (bad_code last_code code) ∷ []) tt
