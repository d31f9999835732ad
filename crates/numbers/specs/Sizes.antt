-- The size of a number, with its sign left off: a NaN stays, an infinity becomes +infinity, a zero +0. Assumes nothing.
use Rattle.std.specs.Prelude.{false, Float}
use Rattle.std.specs.Float.{nan, inf, fin}

unfoldable pub absolute : Float → Float
absolute nan = nan
absolute (inf s) = inf false
absolute (fin s m e) = fin false m e
