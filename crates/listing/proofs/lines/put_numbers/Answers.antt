-- `listing::lines::put_numbers` meets its contract: its parts are put one behind the other. Assumes nothing.
use native.Mathlib.Omega.{arith}
use Rattle.listing.proofs.Putting.{then}
use Rattle.listing.proofs.Lengths.{length_numbers}
use Rattle.listing.proofs.lines.put_numbers.Goals as goal

pub put_text-words-requires : goal.put_text-words-requires
put_text-words-requires c = let a = c.args in omega (arith, length_numbers a.first.now a.a a.second.now a.b)

pub put_decimal-number-requires : goal.put_decimal-number-requires
put_decimal-number-requires c = let a = c.args in omega (arith, length_numbers a.first.now a.a a.second.now a.b)

pub put_text-more_words-requires : goal.put_text-more_words-requires
put_text-more_words-requires c = let a = c.args in omega (arith, length_numbers a.first.now a.a a.second.now a.b)

pub put_decimal-more-requires : goal.put_decimal-more-requires
put_decimal-more-requires c = let a = c.args in omega (arith, length_numbers a.first.now a.a a.second.now a.b)

pub put_text-requires : goal.put_text-requires
put_text-requires c = let a = c.args in omega (arith, length_numbers a.first.now a.a a.second.now a.b)

pub returns : goal.returns
returns c =
    let front = then (then c.put_text-words.ensures c.put_decimal-number.ensures) c.put_text-more_words.ensures in
    then (then front c.put_decimal-more.ensures) c.put_text.ensures
