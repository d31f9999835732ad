-- `put` of `Record` for `DatedSwapRecord` meets its contract: its fields are put one after the other. Assumes nothing.
use mathlib.Core.Path.{◌≡◌, ◌∙◌}
use mathlib.Core.List.{List}
use Prim.Native.Nat.{ℕ, ◌-◌}
use lib.ListN.{set}
use lib.Seq.{sets}
use Rattle.records.specs.declared.DatedSwapRecord.{DatedSwapRecord}
use Rattle.records.specs.Bytes.{whole_bytes, float_bytes}
use Rattle.records.specs.Kinds.{date_bytes, dated_swap_layout, dated_swap_size}
use Rattle.records.proofs.FieldLists.{puts, puts_is}
use Rattle.records.proofs.Dates.{date_puts}
use Rattle.records.proofs.dated_swap_record.DatedSwapRecordRecord.put.Goals as goal

-- what each step leaves, taken together
stored : (s : DatedSwapRecord) (start : List ℕ) {one two three four five six : List ℕ}
    → one ≡ sets start 1 (float_bytes s.notional)
    → two ≡ sets one 9 (float_bytes s.rate)
    → three ≡ sets two 17 (float_bytes s.tenor)
    → four ≡ sets three 25 (whole_bytes s.frequency)
    → five ≡ sets four 29 (date_bytes s.first)
    → six ≡ sets five 33 (date_bytes s.second)
    → set six (dated_swap_size - 1) s.count ≡ puts start 1 dated_swap_layout.fields (dated_swap_layout.held_of s)
stored s start is_one is_two is_three is_four is_five is_six =
    rw (is_six, date_puts _ 33 s.second, is_five, date_puts _ 29 s.first, is_four, is_three, is_two, is_one)

pub returns : goal.returns
returns c =
    let held = dated_swap_layout.held_of c.args.self in
    stored c.args.self c.args.out.now c.put_float.ensures c.put_float-2.ensures c.put_float-3.ensures c.put_whole.ensures c.put_date.ensures c.put_date-2.ensures
    ∙ puts_is c.args.out.now 1 dated_swap_layout.fields held
