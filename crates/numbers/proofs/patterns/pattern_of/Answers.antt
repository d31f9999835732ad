-- `numbers::patterns::pattern_of` meets its contract: only a NaN differs from itself. Assumes nothing.
use Rattle.std.proofs.Common.{T, sym, ap, ◌∙◌, subst}
use lib.Ieee.{binary64, to_bits}
use lib.Ieee.Compare.{differs_from_itself}
use Rattle.numbers.proofs.Nans.{no_nan, pattern_of_nan}
use Rattle.numbers.proofs.patterns.pattern_of.Goals as goal

pub float_to_bits-result : goal.float_to_bits-result
float_to_bits-result c = no_nan _ c.if-x.false

pub returns-then-x : goal.returns-then-x
returns-then-x c = sym (ap (to_bits binary64) (differs_from_itself c.args.x (subst T (sym c.if-x.true) tt)) ∙ pattern_of_nan)
