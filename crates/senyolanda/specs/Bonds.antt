-- A bond as its record holds it, and a frequency by its code. Definitions only. Assumes nothing.
use Rattle.std.specs.Prelude.{ℕ, List, Float}
use Rattle.refusals.specs.Outcome.{Outcome, accepted, Line, and_then, judged}
use Rattle.refusals.specs.Table.{bad_time, bad_code}
use Rattle.records.specs.declared.BondRecord.{BondRecord}
use Rattle.records.specs.Kinds.{read_bond_uncoded}
use Rattle.bond.specs.declared.Bond.{Bond}
use Rattle.bond.specs.declared.Frequency.{Frequency}
use Rattle.bond.specs.Bonds.{periods_per_year, number_lines}
use Rattle.bond.specs.Codes.{last_code, frequency_at, frequency_of}
use Rattle.senyolanda.specs.Told.{coded}

abbrev pub paid_each : Frequency → BondRecord → Bond
paid_each f b = record { face = b.face; coupon = b.coupon; maturity = b.maturity; frequency = f }

abbrev pub bond_of : BondRecord → Bond
bond_of b = paid_each (frequency_at b.frequency) b

-- of a bond whose frequency nobody knows no periods are known: 7 is for a maturity that is not finite alone
abbrev pub uncoded_lines : BondRecord → Float → List Line
uncoded_lines b beside = number_lines b.face (bad_time b.maturity) b.coupon beside

-- the bond of a record that has one number beside it, a yield or a market price
unfoldable pub bond_read : List ℕ → Float → Outcome Bond
bond_read bytes beside =
    and_then (read_bond_uncoded bytes)
    (λ (b : BondRecord). coded (bad_code last_code b.frequency) (judged (uncoded_lines b beside) tt) (bond_of b))

-- what is asked of it
abbrev pub of_bond : List ℕ → Float → (Bond → Outcome Float) → Outcome Float
of_bond bytes beside asked = and_then (bond_read bytes beside) asked

-- how many coupons a year a frequency's code stands for
unfoldable pub periods_per_year_of : ℕ → Outcome ℕ
periods_per_year_of code = and_then (frequency_of code) (λ (f : Frequency). accepted (periods_per_year f))

abbrev pub bond_numbers : BondRecord → Float × Float × Float × ℕ
bond_numbers b = (b.face, b.coupon, b.maturity, b.frequency)
