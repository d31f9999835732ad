-- `elementary::exp::scale_of` meets its contract: between the ends the exponent's field is a normal number's. Assumes nothing.
use Rattle.elementary.proofs.Multiples.{scales_of}
use Rattle.elementary.proofs.exp.scale_of.Goals as goal

pub float_to_bits-result : goal.float_to_bits-result
float_to_bits-result c = (scales_of c.args.x c.args.k c.requires.inside c.requires.multiple).sum_is_no_nan

pub float_from_bits-result : goal.float_from_bits-result
float_from_bits-result c = (scales_of c.args.x c.args.k c.requires.inside c.requires.multiple).pattern_is_no_nan

pub returns : goal.returns
returns c = (scales_of c.args.x c.args.k c.requires.inside c.requires.multiple).gives
