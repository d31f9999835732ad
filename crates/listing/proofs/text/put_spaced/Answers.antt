-- `listing::text::put_spaced` meets its contract: a space, and behind it 16 digits in base 16. Assumes nothing.
use native.Mathlib.Omega.{arith}
use Rattle.listing.proofs.Putting.{same_text, then}
use Rattle.listing.proofs.DigitLaws.{spaced_text, length_spaced}
use Rattle.listing.proofs.text.put_spaced.Goals as goal

pub put_text-next-requires : goal.put_text-next-requires
put_text-next-requires c = omega (arith, length_spaced c.args.x)

pub put_digits-requires : goal.put_digits-requires
put_digits-requires c = omega (arith, length_spaced c.args.x, c.put_text-next.ensures.place)

pub returns : goal.returns
returns c = same_text (spaced_text _ _ c.pattern_of.ensures) (then c.put_text-next.ensures c.put_digits.ensures)
