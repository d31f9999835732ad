-- Document 01's numbers, each written once, as the binary64 nearest to the decimal beside it (proofs/Literals). A name is a value; where a number plays a part in one crate,
-- that crate has a word for the part. Definitions only. Assumes nothing.
use Rattle.std.specs.Prelude.{from_bits, Float}
use Rattle.std.specs.Float.{binary64}

-- ---- whole numbers
-- 1
abbrev pub one : Float
one = from_bits binary64 0x3ff0_0000_0000_0000

-- 2
abbrev pub two : Float
two = from_bits binary64 0x4000_0000_0000_0000

-- 3
abbrev pub three : Float
three = from_bits binary64 0x4008_0000_0000_0000

-- 5
abbrev pub five : Float
five = from_bits binary64 0x4014_0000_0000_0000

-- 12
abbrev pub twelve : Float
twelve = from_bits binary64 0x4028_0000_0000_0000

-- 30
abbrev pub thirty : Float
thirty = from_bits binary64 0x403e_0000_0000_0000

-- 50
abbrev pub fifty : Float
fifty = from_bits binary64 0x4049_0000_0000_0000

-- 100
abbrev pub hundred : Float
hundred = from_bits binary64 0x4059_0000_0000_0000

-- 360
abbrev pub three_hundred_sixty : Float
three_hundred_sixty = from_bits binary64 0x4076_8000_0000_0000

-- 365
abbrev pub three_hundred_sixty_five : Float
three_hundred_sixty_five = from_bits binary64 0x4076_d000_0000_0000

-- 709
abbrev pub seven_hundred_nine : Float
seven_hundred_nine = from_bits binary64 0x4086_2800_0000_0000

-- 2000
abbrev pub two_thousand : Float
two_thousand = from_bits binary64 0x409f_4000_0000_0000

-- 10000
abbrev pub ten_thousand : Float
ten_thousand = from_bits binary64 0x40c3_8800_0000_0000

-- -1
abbrev pub minus_one : Float
minus_one = from_bits binary64 0xbff0_0000_0000_0000

-- -500
abbrev pub minus_five_hundred : Float
minus_five_hundred = from_bits binary64 0xc07f_4000_0000_0000

-- -708
abbrev pub minus_seven_hundred_eight : Float
minus_seven_hundred_eight = from_bits binary64 0xc086_2000_0000_0000

-- ---- fractions
-- 0.5
abbrev pub half : Float
half = from_bits binary64 0x3fe0_0000_0000_0000

-- 0.06
abbrev pub six_percent : Float
six_percent = from_bits binary64 0x3fae_b851_eb85_1eb8

-- 0.001
abbrev pub thousandth : Float
thousandth = from_bits binary64 0x3f50_624d_d2f1_a9fc

-- 0.999
abbrev pub all_but_thousandth : Float
all_but_thousandth = from_bits binary64 0x3fef_f7ce_d916_872b

-- 0.0001
abbrev pub basis_point : Float
basis_point = from_bits binary64 0x3f1a_36e2_eb1c_432d

-- 1e-6
abbrev pub millionth : Float
millionth = from_bits binary64 0x3eb0_c6f7_a0b5_ed8d

-- 1e-8
abbrev pub ten_to_minus8 : Float
ten_to_minus8 = from_bits binary64 0x3e45_798e_e230_8c3a

-- 1e-10
abbrev pub ten_to_minus10 : Float
ten_to_minus10 = from_bits binary64 0x3ddb_7cdf_d9d7_bdbb

-- 1e-12
abbrev pub tiny : Float
tiny = from_bits binary64 0x3d71_9799_812d_ea11

-- 1e-14
abbrev pub ten_to_minus14 : Float
ten_to_minus14 = from_bits binary64 0x3d06_849b_86a1_2b9b

-- 1e-15
abbrev pub ten_to_minus15 : Float
ten_to_minus15 = from_bits binary64 0x3cd2_03af_9ee7_5616

-- 1e-16
abbrev pub ten_to_minus16 : Float
ten_to_minus16 = from_bits binary64 0x3c9c_d2b2_97d8_89bc

-- 2^-52
abbrev pub epsilon : Float
epsilon = from_bits binary64 0x3cb0_0000_0000_0000

-- ---- of exp and ln
-- 1.4426950408889634
abbrev pub inverse_ln2 : Float
inverse_ln2 = from_bits binary64 0x3ff7_1547_652b_82fe

-- h = 6.93147180369123816490e-01
abbrev pub ln2_high : Float
ln2_high = from_bits binary64 0x3fe6_2e42_fee0_0000

-- l = 1.90821492927058770002e-10
abbrev pub ln2_low : Float
ln2_low = from_bits binary64 0x3dea_39ef_3579_3c76

-- 1.4142135623730951
abbrev pub root_two : Float
root_two = from_bits binary64 0x3ff6_a09e_667f_3bcd
