-- What stands in a time's place before exps are taken. Definitions only. Assumes nothing.
use Rattle.std.specs.Prelude.{Bool, cond, List, Float}
use Rattle.curves.specs.declared.kinds.Kind.{Kind}
use Rattle.curves.specs.Kinds.{rate_on, exponent_at}

-- the rate at a time, or what its discount factor is the exp of
unfoldable pub rate_or_exponent : Kind → Bool → Float → Float → Float
rate_or_exponent kind exponent rate t = cond exponent (exponent_at kind rate t) rate

unfoldable pub answer_on : Kind → Bool → List Float → List Float → Float → Float
answer_on kind exponent times rates t = rate_or_exponent kind exponent (rate_on kind times rates t) t
