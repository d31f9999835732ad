-- `elementary::exp::on_side` meets its contract: where no half is left off, the whole number near by is the size of k. Assumes nothing.
use Rattle.std.proofs.Common.{◌≡◌, refl, cond, rules}
use Rattle.std.specs.Float.{binary64}
use Rattle.std.specs.Float.Ieee.{mul, neg}
use Rattle.numbers.specs.Literals.{inverse_ln2}
use Rattle.elementary.specs.Exp.{below}
use Rattle.elementary.proofs.Multiples.{signed_as_it_is}
use Rattle.elementary.proofs.exp.on_side.Goals as goal
use Rattle.elementary.proofs.exp.on_side.Goals.{then-this-ne0, else-this-ne0, then-this-ne0-2, else-this-ne0-2}

pub by_multiple-requires-clause-multiple : goal.by_multiple-requires-clause-multiple
by_multiple-requires-clause-multiple g c =
    let x = c.args.x in
    let y = mul binary64 x inverse_ln2 in
    let n = c.nearest-n.result in
    let turned : c.if-this-ne0.a ≡ cond (below x) (neg y) y = elim c.if-this-ne0.branch [ then-this-ne0 w ↦ rw (c.requires.side, w.a-is) (search rules) | else-this-ne0 w ↦ rw (c.requires.side, w.a-is) (search rules) ] in
    let back : c.if-this-ne0-2.k ≡ cond (below x) (neg n) n = elim c.if-this-ne0-2.branch [ then-this-ne0-2 w ↦ rw (c.requires.side, w.k-is) (search rules) | else-this-ne0-2 w ↦ rw (c.requires.side, w.k-is) (search rules) ] in
    signed_as_it_is x c.requires.inside _ refl _ _ turned c.nearest-n.ensures _ c.if-a-n.false back
