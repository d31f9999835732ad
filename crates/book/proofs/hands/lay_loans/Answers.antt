-- `book::hands::lay_loans` meets its contract: after i turns the room, once the loan in hand is drawn to its end, holds the first i loans whole. Assumes nothing.
use mathlib.Core.Path.{◌∙◌}
use native.Mathlib.Omega.{arith}
use Rattle.book.proofs.Taking.{begun, may_take_next, a_turn, finishes}
use Rattle.book.proofs.hands.lay_loans.Goals as goal

pub loop-i-init : goal.loop-i-init
loop-i-init c = let a = c.args in begun a.records.now a.room.now a.count _ c.no_loan.ensures

pub take_next-next-requires : goal.take_next-next-requires
take_next-next-requires c =
    let h = c.loop-i in
    let whole = may_take_next c.args.records.now c.args.room.now c.args.count h.room h.hand.loan h.hand.at h.hand.end h.i h.invariant c.requires.0 c.requires.1 c.loop-i-test.true in
    record { i_bound = whole.0; width_bound = whole.1 }

pub loop-i-preserved : goal.loop-i-preserved
loop-i-preserved c =
    let t = c.take_next-next in
    let h = c.loop-i in
    a_turn c.args.records.now c.args.room.now c.args.count h.room h.hand.loan h.hand.at h.hand.end h.i h.invariant c.requires.1 c.loop-i-test.true _ _ _ _ (t.ensures.end_value, t.ensures.loan_after) t.auto.room

pub shape_of-room : goal.shape_of-room
shape_of-room c = c.lay_at.auto.room ∙ c.loop-i.invariant.4

pub returns : goal.returns
returns c =
    let h = c.loop-i in
    finishes c.args.records.now c.args.room.now c.args.count h.room h.hand.loan h.hand.at h.hand.end h.i h.invariant (omega arith) c.requires.1 _ _ c.rows_due.ensures c.lay_at.ensures.room_after
