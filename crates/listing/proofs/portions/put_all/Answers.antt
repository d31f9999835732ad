-- `listing::portions::put_all` meets its contract. The loop's invariant: some of the rows due are listed, and what is left can be listed. The measure is how many are left. Assumes nothing.
use mathlib.Core.Path.{sym, ◌∙◌}
use native.Mathlib.Omega.{arith}
use Rattle.listing.proofs.Putting.{same_room}
use Rattle.listing.proofs.PortionLaws.{still_listable, begun, one_more, fewer, all_listed}
use Rattle.listing.proofs.portions.put_all.Goals as goal

pub loop-listed-init : goal.loop-listed-init
loop-listed-init c = (c.requires, begun _ _)

pub put_portion-listed-requires : goal.put_portion-listed-requires
put_portion-listed-requires c = c.loop-listed.invariant.0

pub loop-listed-smaller : goal.loop-listed-smaller
loop-listed-smaller c = let p = c.put_portion-listed in fewer p.ensures.lists (λ e. c.if-listed-eq0.false (p.ensures.left_value ∙ e))

pub loop-listed-preserved : goal.loop-listed-preserved
loop-listed-preserved c =
    let p = c.put_portion-listed in
    let i = c.loop-listed.invariant in
    (still_listable i.0 p.ensures.lists (omega arith), one_more i.1 p.ensures.lists)

pub shape_of-out : goal.shape_of-out
shape_of-out c = let w = one_more c.loop-listed.invariant.1 c.put_portion-listed.ensures.lists in same_room w.lists.text

pub returns : goal.returns
returns c =
    let p = c.put_portion-listed in
    record { lists = all_listed (one_more c.loop-listed.invariant.1 p.ensures.lists) (sym p.ensures.left_value ∙ c.if-listed-eq0.true); left_value = p.ensures.left_value }
