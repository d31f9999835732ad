-- `listing::text::put_decimal` meets its contract: the decimal digits of a u32 are so many digits in base 10. Assumes nothing.
use native.Mathlib.Omega.{arith}
use Rattle.listing.proofs.Putting.{same_text}
use Rattle.listing.proofs.DigitLaws.{decimal_text}
use Rattle.listing.proofs.text.put_decimal.Goals as goal

pub returns : goal.returns
returns c = same_text (decimal_text _ _ (omega arith) c.decimal_size.ensures) c.put_digits.ensures
