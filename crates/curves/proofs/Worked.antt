-- Five knots at 1, 2, 4, 8 and 16 years, asked before the first, at each, between and after the last: which segment serves by either rule, worked out from the definitions;
-- and the rates of the three kinds of curve at an inner knot and on the way to it. Assumes nothing.
use mathlib.Core.Path.{◌≡◌, refl}
use mathlib.Core.List.{List, [], ◌∷◌, map}
use Prim.Native.Nat.{ℕ}
use lib.Ieee.{Float, binary64, add, sub, mul, div, lt, le, eq, of_bits}
use Rattle.curves.specs.declared.kinds.Kind.TheVariants as kind_is
use Rattle.curves.specs.Segments.{segment_ending, segment_starting, flat_outside}
use Rattle.curves.specs.Formulas.{along_yields, share, along_zeros, along_rates}
use Rattle.curves.specs.Kinds.{served_by, along, rate_on}

-- whole numbers of years, each by its bits
abbrev y0 : Float
y0 = of_bits binary64 0

abbrev y1 : Float
y1 = of_bits binary64 0x3ff0_0000_0000_0000

abbrev y2 : Float
y2 = of_bits binary64 0x4000_0000_0000_0000

abbrev y3 : Float
y3 = of_bits binary64 0x4008_0000_0000_0000

abbrev y4 : Float
y4 = of_bits binary64 0x4010_0000_0000_0000

abbrev y8 : Float
y8 = of_bits binary64 0x4020_0000_0000_0000

abbrev y9 : Float
y9 = of_bits binary64 0x4022_0000_0000_0000

abbrev y16 : Float
y16 = of_bits binary64 0x4030_0000_0000_0000

abbrev y17 : Float
y17 = of_bits binary64 0x4031_0000_0000_0000

abbrev times : List Float
times = y1 ∷ y2 ∷ y4 ∷ y8 ∷ y16 ∷ []

abbrev asked : List Float
asked = y0 ∷ y1 ∷ y2 ∷ y3 ∷ y4 ∷ y8 ∷ y9 ∷ y16 ∷ y17 ∷ []

-- the segment that ends at an inner knot
abbrev ended : List ℕ
ended = 0 ∷ 0 ∷ 0 ∷ 1 ∷ 1 ∷ 2 ∷ 3 ∷ 3 ∷ 4 ∷ []

pub served_ending : map (segment_ending times) asked ≡ ended
unfolding segment_ending le lt eq of_bits
served_ending = refl

-- the segment that starts there
abbrev started : List ℕ
started = 0 ∷ 0 ∷ 1 ∷ 1 ∷ 2 ∷ 3 ∷ 3 ∷ 4 ∷ 4 ∷ []

pub served_starting : map (segment_starting times) asked ≡ started
unfolding segment_starting lt eq of_bits
served_starting = refl

-- rates of 3 %, 1 % and 1 % at 1, 2 and 4 years: at the knot of 1 % the yield curve's formula gives the float after it, the other two the knot's own rate
abbrev one_percent : Float
one_percent = of_bits binary64 0x3f84_7ae1_47ae_147b

abbrev rates : List Float
rates = of_bits binary64 0x3f9e_b851_eb85_1eb8 ∷ one_percent ∷ one_percent ∷ []

abbrev knots : List Float
knots = y1 ∷ y2 ∷ y4 ∷ []

pub at_the_inner_knot : (rate_on kind_is.YieldCurve knots rates y2 ≡ of_bits binary64 0x3f84_7ae1_47ae_147c)
    × (rate_on kind_is.DiscountCurve knots rates y2 ≡ one_percent)
    × (rate_on kind_is.SpreadCurve knots rates y2 ≡ one_percent)
unfolding rate_on served_by along along_yields share along_zeros along_rates segment_ending segment_starting flat_outside add sub mul div lt le eq of_bits
at_the_inner_knot = (refl, refl, refl)
