-- The rule of each kind of curve, a time that is past the first segments by it, and the ends of a segment. Definitions only. Assumes nothing.
use Rattle.std.specs.Prelude.{List, ◌≡◌, ℕ, suc, Float}
use Rattle.curves.specs.declared.kinds.Kind.{Kind}
use Rattle.curves.specs.declared.kinds.Kind.TheVariants as kind_is
use Rattle.curves.specs.Segments.{knot}
use Rattle.curves.specs.inner.Halving.{Rule, ending, starting, Past}

unfoldable pub rule_of : Kind → Rule
rule_of kind_is.YieldCurve = ending
rule_of kind_is.DiscountCurve = ending
rule_of kind_is.SpreadCurve = starting

abbrev pub PastOn : Kind → List Float → Float → ℕ → Type 0
PastOn kind = Past (rule_of kind)

abbrev pub EndsAre : List Float → List Float → ℕ → Float → Float → Float → Float → Type 0
EndsAre times rates i t0 t1 r0 r1 = (t0 ≡ knot times i) × (t1 ≡ knot times (suc i)) × (r0 ≡ knot rates i) × (r1 ≡ knot rates (suc i))
