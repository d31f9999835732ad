-- `elementary::ln::ln_above_zero` meets its contract: the pattern of the number, or of the scaled one, has the definition's m and e. Assumes nothing.
use Rattle.std.proofs.Common.{refl, ◌∙◌, inl, inr}
use Rattle.elementary.proofs.LnSteps.{Scaled, ln_scaled}
use Rattle.elementary.proofs.ln.ln_above_zero.Goals as goal
use Rattle.elementary.proofs.ln.ln_above_zero.Goals.{then-x, else-x}

pub float_from_bits-m : goal.float_from_bits-m
float_from_bits-m c =
    let scaled : Scaled c.args.x c.if-x.y = elim c.if-x.branch [ then-x w ↦ inl (w.if-x.true, w.y-is) | else-x w ↦ inr (w.if-x.false, w.y-is) ] in
    (ln_scaled c.args.x c.well_formed.0.1 c.requires.0 c.requires.1 _ c.if-x.y c.pattern_of-pattern.ensures scaled).no_nan

pub ln_of_parts-requires : goal.ln_of_parts-requires
ln_of_parts-requires c =
    let scaled : Scaled c.args.x c.if-x.y = elim c.if-x.branch [ then-x w ↦ inl (w.if-x.true, w.y-is) | else-x w ↦ inr (w.if-x.false, w.y-is) ] in
    (ln_scaled c.args.x c.well_formed.0.1 c.requires.0 c.requires.1 _ c.if-x.y c.pattern_of-pattern.ensures scaled).field

pub returns : goal.returns
returns c =
    let scaled : Scaled c.args.x c.if-x.y = elim c.if-x.branch [ then-x w ↦ inl (w.if-x.true, w.y-is) | else-x w ↦ inr (w.if-x.false, w.y-is) ] in
    c.ln_of_parts.ensures ∙ (ln_scaled c.args.x c.well_formed.0.1 c.requires.0 c.requires.1 _ c.if-x.y c.pattern_of-pattern.ensures scaled).answer _ refl
