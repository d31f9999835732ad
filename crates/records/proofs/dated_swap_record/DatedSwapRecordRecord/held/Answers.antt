-- `held` of `Record` for `DatedSwapRecord` meets its contract: each field is read at its place. Assumes nothing.
use mathlib.Core.Path.{◌≡◌}
use mathlib.Core.List.{List}
use Prim.Native.Nat.{ℕ}
use lib.ListN.{get_or}
use lib.Ieee.{Float}
use Rattle.dates.specs.declared.Date.{Date}
use Rattle.records.specs.declared.DatedSwapRecord.{DatedSwapRecord}
use Rattle.records.specs.Bytes.{whole_at, float_at}
use Rattle.records.specs.Kinds.{date_at, dated_swap_layout, value_in}
use Rattle.records.proofs.dated_swap_record.DatedSwapRecordRecord.held.Goals as goal

-- what was read, taken together
together : (bytes : List ℕ) {notional rate tenor : Float} {frequency : ℕ} {first second : Date}
    → notional ≡ float_at 1 bytes
    → rate ≡ float_at 9 bytes
    → tenor ≡ float_at 17 bytes
    → frequency ≡ whole_at 25 bytes
    → first ≡ date_at 29 bytes
    → second ≡ date_at 33 bytes
    → ◌≡◌ {A = DatedSwapRecord} (record { notional = notional; rate = rate; tenor = tenor; frequency = frequency; first = first; second = second; count = get_or bytes 37 0 }) (value_in dated_swap_layout bytes)
unfolding date_at
together bytes is_notional is_rate is_tenor is_frequency is_first is_second = rw (is_notional, is_rate, is_tenor, is_frequency, is_first, is_second)

pub returns : goal.returns
returns c =
    let bytes = c.args.bytes.now in
    together bytes c.float_at.ensures c.float_at-2.ensures c.float_at-3.ensures c.whole_at.ensures c.date_at.ensures c.date_at-2.ensures
