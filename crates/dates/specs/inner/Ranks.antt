-- A date as one number, its rank: 32 for each month before, and the day; and the date of a rank. Definitions only. Assumes nothing.
use Rattle.std.specs.Prelude.{ℕ, suc, ◌+◌, ◌-◌, ◌*◌, ◌/◌, ◌%◌}
use Rattle.dates.specs.declared.Date.{Date}

abbrev pub rank : Date → ℕ
rank d = (d.year * 12 + (d.month - 1)) * 32 + d.day

unfoldable pub date_of : ℕ → Date
date_of r = record { year = r / 32 / 12; month = suc (r / 32 % 12); day = r % 32 }
