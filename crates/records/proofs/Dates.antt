-- A date as the three fields that it is: read from its places, and put into them. Assumes nothing.
use mathlib.Core.Path.{◌≡◌, sym}
use mathlib.Core.List.{List}
use Prim.Native.Nat.{ℕ, ◌+◌}
use native.Mathlib.Omega.{arith}
use lib.ListN.{get_or, set}
use lib.Seq.{sets}
use Rattle.dates.specs.declared.Date.{Date}
use Rattle.records.specs.Bytes.{pair_at, pair_bytes}
use Rattle.records.specs.Kinds.{date_fields, date_at, date_bytes}
use Rattle.records.proofs.FieldLists.{puts, puts_is}

pub date_read : (at : ℕ) (bytes : List ℕ) {year : ℕ} → year ≡ pair_at at bytes
    → ◌≡◌ {A = Date} (record { year = year; month = get_or bytes (at + 2) 0; day = get_or bytes (at + 3) 0 }) (date_at at bytes)
unfolding date_at
date_read at bytes is_year =
    let e : at + 3 ≡ at + 2 + 1 = omega arith in
    rw (is_year, e)

pub date_puts : (out : List ℕ) (at : ℕ) (d : Date) → sets out at (date_bytes d) ≡ puts out at date_fields (d.year, (d.month, (d.day, tt)))
unfolding date_bytes
date_puts out at d = sym (puts_is out at date_fields (d.year, (d.month, (d.day, tt))))

pub date_put : (out : List ℕ) (at : ℕ) (d : Date) {once : List ℕ} → once ≡ sets out at (pair_bytes d.year)
    → set (set once (at + 2) d.month) (at + 3) d.day ≡ sets out at (date_bytes d)
date_put out at d is_once =
    let e : at + 3 ≡ at + 2 + 1 = omega arith in
    rw (date_puts out at d, is_once, e)
