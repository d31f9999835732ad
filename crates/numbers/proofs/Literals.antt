-- Each of document 01's numbers is the binary64 nearest to the decimal that the paper writes: `round` is IEEE 754's rounding to nearest, of a sign, a numerator and a denominator.
-- Assumes nothing.
use Rattle.std.proofs.Common.{◌≡◌, ◌^◌, true, false, refl}
use lib.Ieee.{binary64, round, of_bits}
use Rattle.numbers.specs.Literals.{one, two, three, five, twelve, thirty, fifty, hundred, three_hundred_sixty, three_hundred_sixty_five, seven_hundred_nine, two_thousand, ten_thousand, minus_one, minus_five_hundred, minus_seven_hundred_eight}
use Rattle.numbers.specs.Literals.{half, six_percent, thousandth, all_but_thousandth, basis_point, millionth, ten_to_minus8, ten_to_minus10, tiny, ten_to_minus14, ten_to_minus15, ten_to_minus16, epsilon}
use Rattle.numbers.specs.Literals.{inverse_ln2, ln2_high, ln2_low, root_two}

pub one_nearest : one ≡ round binary64 false 1 1
unfolding of_bits round
one_nearest = refl

pub two_nearest : two ≡ round binary64 false 2 1
unfolding of_bits round
two_nearest = refl

pub three_nearest : three ≡ round binary64 false 3 1
unfolding of_bits round
three_nearest = refl

pub five_nearest : five ≡ round binary64 false 5 1
unfolding of_bits round
five_nearest = refl

pub twelve_nearest : twelve ≡ round binary64 false 12 1
unfolding of_bits round
twelve_nearest = refl

pub thirty_nearest : thirty ≡ round binary64 false 30 1
unfolding of_bits round
thirty_nearest = refl

pub fifty_nearest : fifty ≡ round binary64 false 50 1
unfolding of_bits round
fifty_nearest = refl

pub hundred_nearest : hundred ≡ round binary64 false 100 1
unfolding of_bits round
hundred_nearest = refl

pub three_hundred_sixty_nearest : three_hundred_sixty ≡ round binary64 false 360 1
unfolding of_bits round
three_hundred_sixty_nearest = refl

pub three_hundred_sixty_five_nearest : three_hundred_sixty_five ≡ round binary64 false 365 1
unfolding of_bits round
three_hundred_sixty_five_nearest = refl

pub seven_hundred_nine_nearest : seven_hundred_nine ≡ round binary64 false 709 1
unfolding of_bits round
seven_hundred_nine_nearest = refl

pub two_thousand_nearest : two_thousand ≡ round binary64 false 2000 1
unfolding of_bits round
two_thousand_nearest = refl

pub ten_thousand_nearest : ten_thousand ≡ round binary64 false 10000 1
unfolding of_bits round
ten_thousand_nearest = refl

pub minus_one_nearest : minus_one ≡ round binary64 true 1 1
unfolding of_bits round
minus_one_nearest = refl

pub minus_five_hundred_nearest : minus_five_hundred ≡ round binary64 true 500 1
unfolding of_bits round
minus_five_hundred_nearest = refl

pub minus_seven_hundred_eight_nearest : minus_seven_hundred_eight ≡ round binary64 true 708 1
unfolding of_bits round
minus_seven_hundred_eight_nearest = refl

pub half_nearest : half ≡ round binary64 false 1 2
unfolding of_bits round
half_nearest = refl

pub six_percent_nearest : six_percent ≡ round binary64 false 6 100
unfolding of_bits round
six_percent_nearest = refl

pub thousandth_nearest : thousandth ≡ round binary64 false 1 1000
unfolding of_bits round
thousandth_nearest = refl

pub all_but_thousandth_nearest : all_but_thousandth ≡ round binary64 false 999 1000
unfolding of_bits round
all_but_thousandth_nearest = refl

pub basis_point_nearest : basis_point ≡ round binary64 false 1 10000
unfolding of_bits round
basis_point_nearest = refl

pub millionth_nearest : millionth ≡ round binary64 false 1 (10 ^ 6)
unfolding of_bits round
millionth_nearest = refl

pub ten_to_minus8_nearest : ten_to_minus8 ≡ round binary64 false 1 (10 ^ 8)
unfolding of_bits round
ten_to_minus8_nearest = refl

pub ten_to_minus10_nearest : ten_to_minus10 ≡ round binary64 false 1 (10 ^ 10)
unfolding of_bits round
ten_to_minus10_nearest = refl

pub tiny_nearest : tiny ≡ round binary64 false 1 (10 ^ 12)
unfolding of_bits round
tiny_nearest = refl

pub ten_to_minus14_nearest : ten_to_minus14 ≡ round binary64 false 1 (10 ^ 14)
unfolding of_bits round
ten_to_minus14_nearest = refl

pub ten_to_minus15_nearest : ten_to_minus15 ≡ round binary64 false 1 (10 ^ 15)
unfolding of_bits round
ten_to_minus15_nearest = refl

pub ten_to_minus16_nearest : ten_to_minus16 ≡ round binary64 false 1 (10 ^ 16)
unfolding of_bits round
ten_to_minus16_nearest = refl

pub epsilon_nearest : epsilon ≡ round binary64 false 1 (2 ^ 52)
unfolding of_bits round
epsilon_nearest = refl

pub inverse_ln2_nearest : inverse_ln2 ≡ round binary64 false 14426950408889634 (10 ^ 16)
unfolding of_bits round
inverse_ln2_nearest = refl

pub ln2_high_nearest : ln2_high ≡ round binary64 false 693147180369123816490 (10 ^ 21)
unfolding of_bits round
ln2_high_nearest = refl

pub ln2_low_nearest : ln2_low ≡ round binary64 false 190821492927058770002 (10 ^ 30)
unfolding of_bits round
ln2_low_nearest = refl

pub root_two_nearest : root_two ≡ round binary64 false 14142135623730951 (10 ^ 16)
unfolding of_bits round
root_two_nearest = refl
