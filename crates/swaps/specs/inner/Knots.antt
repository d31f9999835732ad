-- A knot of a bootstrap before its rate is tried: which of its dates are settled, what their coupons add up to, the errors of rates that are tried eight at once,
-- and which eight are tried.
-- Definitions only. Assumes nothing.
use Rattle.std.specs.Prelude.{◌≡◌, true, false, List, [], ◌∷◌, ◌++◌, map, ℕ, suc, ◌<◌, ◌≤◌, pos, length, Float}
use Rattle.std.specs.Float.{binary64}
use Rattle.std.specs.Float.Ieee.{lt, le, of_int}
use Rattle.numbers.specs.Sums.{added_up}
use Rattle.curves.specs.Segments.{Rising}
use Rattle.swaps.specs.declared.knots.Knot.{Knot}
use Rattle.swaps.specs.Discount.{discount_of}
use Rattle.swaps.specs.Bootstrap.{dates, date, coupon_at, par_error, middle}

-- the zero rates before a knot, and the rate that is tried for it
abbrev pub with_rate : List Float → Float → List Float
with_rate earlier r = earlier ++ r ∷ []

-- the first n dates are at or before the knot before, and before the tenor
abbrev pub SettledTo : Float → Float → ℕ → Type 0
SettledTo tenor previous n = (k : ℕ) → k < n → (le (date tenor (suc k)) previous ≡ true) × (le tenor (date tenor (suc k)) ≡ false)

-- the first n dates are whole numbers of years
abbrev pub WholeTo : Float → ℕ → Type 0
WholeTo tenor n = (k : ℕ) → k < n → lt (of_int binary64 (pos (suc k))) tenor ≡ true

-- the tenors to the knot, and the zero rates before it
module _ (tenors earlier : List Float) (k : Knot) where
  -- at a rate: the discount factor of the tenor, the sum of the first n coupons, and the error
  abbrev pub last_at : Float → Float
  last_at r = discount_of tenors (with_rate earlier r) k.tenor

  abbrev pub sum_to : ℕ → Float → Float
  sum_to n r = added_up (coupon_at tenors (with_rate earlier r) k.tenor k.par) n

  abbrev pub error_of : Float → Float
  error_of r = par_error tenors (with_rate earlier r) k.tenor k.par

  -- its tenors rise, and the sum of the settled coupons is the same whatever rate is tried
  pub record Ready : Type 0 where
    pub rising : Rising tenors
    pub counted : k.dates ≡ dates k.tenor
    pub within : k.settled ≤ k.dates
    pub summed : (r : Float) → k.sum ≡ added_up (coupon_at tenors (with_rate earlier r) k.tenor k.par) k.settled

-- eight numbers, each made of two at its place, whatever eight those were worked out from
abbrev pub EachOf : (Float → Float → Float) → List Float → List Float → List Float → Type 0
EachOf made firsts seconds r =
    (xs : List Float) (f g : Float → Float) → length xs ≡ 8 → firsts ≡ map f xs → seconds ≡ map g xs → r ≡ map (λ (x : Float). made (f x) (g x)) xs

-- what three halvings of a bracket may try: its middle, those of its halves and of its quarters; the middle again makes them eight
abbrev pub tried_within : Float → Float → Float → Float → Float → List Float
tried_within lo a m b hi = m ∷ a ∷ b ∷ middle lo a ∷ middle a m ∷ middle m b ∷ middle b hi ∷ m ∷ []

abbrev pub fork_of : Float → Float → List Float
fork_of lo hi = tried_within lo (middle lo (middle lo hi)) (middle lo hi) (middle (middle lo hi) hi) hi
