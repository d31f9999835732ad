-- The three formulas along a segment, side by side: they differ in the last bits. Definitions only. Assumes nothing.
use Rattle.std.specs.Prelude.{Float}
use Rattle.std.specs.Float.{binary64}
use Rattle.std.specs.Float.Ieee.{add, sub, mul, div}
use Rattle.numbers.specs.Literals.{one}
use Rattle.curves.specs.Segments.{Ends}

-- "YieldCurve y0 + w·(y1-y0)", w = (t-t0)/(t1-t0)
unfoldable pub along_yields : Ends → Float → Float
along_yields e t =
    add binary64 e.r0 (mul binary64 (div binary64 (sub binary64 t e.t0) (sub binary64 e.t1 e.t0)) (sub binary64 e.r1 e.r0))

-- "DiscountCurve z0·(1-w) + z1·w", w = (t-t0)/(t1-t0)
unfoldable pub share : Ends → Float → Float
share e t = div binary64 (sub binary64 t e.t0) (sub binary64 e.t1 e.t0)

unfoldable pub along_zeros : Ends → Float → Float
along_zeros e t = add binary64 (mul binary64 e.r0 (sub binary64 one (share e t))) (mul binary64 e.r1 (share e t))

-- the spread curves: "r0 + (r1-r0)·(t-t0)/(t1-t0), left to right"
unfoldable pub along_rates : Ends → Float → Float
along_rates e t =
    add binary64 e.r0 (div binary64 (mul binary64 (sub binary64 e.r1 e.r0) (sub binary64 t e.t0)) (sub binary64 e.t1 e.t0))
