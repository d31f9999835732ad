-- How tight the promises are: whatever a public function is given, any two results that its contract allows are equal. Assumes nothing.
use Rattle.std.proofs.Common.{sym, ◌∙◌}
use Rattle.numbers.proofs.Determined.{Determined}
use Rattle.numbers.proofs.clamps.raise_to_zero.Kinds as raise_to_zero_kinds
use Rattle.numbers.proofs.clamps.raise_to_zero.Reads as raise_to_zero
use Rattle.numbers.proofs.clamps.lower_to.Kinds as lower_to_kinds
use Rattle.numbers.proofs.clamps.lower_to.Reads as lower_to
use Rattle.numbers.proofs.patterns.is_nan.Kinds as is_nan_kinds
use Rattle.numbers.proofs.patterns.is_nan.Reads as is_nan
use Rattle.numbers.proofs.patterns.float_of.Kinds as float_of_kinds
use Rattle.numbers.proofs.patterns.float_of.Reads as float_of
use Rattle.numbers.proofs.patterns.pattern_of.Kinds as pattern_of_kinds
use Rattle.numbers.proofs.patterns.pattern_of.Reads as pattern_of
use Rattle.numbers.proofs.sizes.is_finite.Kinds as is_finite_kinds
use Rattle.numbers.proofs.sizes.is_finite.Reads as is_finite
use Rattle.numbers.proofs.sizes.infinity.Kinds as infinity_kinds
use Rattle.numbers.proofs.sizes.infinity.Reads as infinity
use Rattle.numbers.proofs.sizes.absolute_value.Kinds as absolute_value_kinds
use Rattle.numbers.proofs.sizes.absolute_value.Reads as absolute_value
use Rattle.numbers.proofs.whole.nearest_whole.Kinds as nearest_whole_kinds
use Rattle.numbers.proofs.whole.nearest_whole.Reads as nearest_whole
use Rattle.numbers.proofs.whole.ceiling_to_u32.Kinds as ceiling_to_u32_kinds
use Rattle.numbers.proofs.whole.ceiling_to_u32.Reads as ceiling_to_u32

pub raise_to_zero_determined : Determined 0 raise_to_zero_kinds.ps raise_to_zero_kinds.r raise_to_zero.Post
raise_to_zero_determined κs a x y e e' p q = p ∙ sym q

pub lower_to_determined : Determined 0 lower_to_kinds.ps lower_to_kinds.r lower_to.Post
lower_to_determined κs a x y e e' p q = p ∙ sym q

pub is_nan_determined : Determined 0 is_nan_kinds.ps is_nan_kinds.r is_nan.Post
is_nan_determined κs a x y e e' p q = p ∙ sym q

pub float_of_determined : Determined 0 float_of_kinds.ps float_of_kinds.r float_of.Post
float_of_determined κs a x y e e' p q = p ∙ sym q

pub pattern_of_determined : Determined 0 pattern_of_kinds.ps pattern_of_kinds.r pattern_of.Post
pattern_of_determined κs a x y e e' p q = p ∙ sym q

pub is_finite_determined : Determined 0 is_finite_kinds.ps is_finite_kinds.r is_finite.Post
is_finite_determined κs a x y e e' p q = p ∙ sym q

pub infinity_determined : Determined 0 infinity_kinds.ps infinity_kinds.r infinity.Post
infinity_determined κs a x y e e' p q = p ∙ sym q

pub absolute_value_determined : Determined 0 absolute_value_kinds.ps absolute_value_kinds.r absolute_value.Post
absolute_value_determined κs a x y e e' p q = p ∙ sym q

pub nearest_whole_determined : Determined 0 nearest_whole_kinds.ps nearest_whole_kinds.r nearest_whole.Post
nearest_whole_determined κs a x y e e' p q = p ∙ sym q

pub ceiling_to_u32_determined : Determined 0 ceiling_to_u32_kinds.ps ceiling_to_u32_kinds.r ceiling_to_u32.Post
ceiling_to_u32_determined κs a x y e e' p q = p ∙ sym q
