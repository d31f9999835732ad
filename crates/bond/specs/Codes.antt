-- The code of a coupon frequency in a record: "frequency code 0 to 3 in the Rust's order". Definitions only. Assumes nothing.
use Rattle.std.specs.Prelude.{ℕ, cond, [], ◌∷◌, eqb}
use Rattle.refusals.specs.Outcome.{Outcome, line, judged}
use Rattle.refusals.specs.Table.{bad_code}
use Rattle.bond.specs.declared.Frequency.{Frequency}
use Rattle.bond.specs.declared.Frequency.TheVariants.{Annual, SemiAnnual, Quarterly, Monthly}

abbrev pub code_of : Frequency → ℕ
code_of Annual = 0
code_of SemiAnnual = 1
code_of Quarterly = 2
code_of Monthly = 3

abbrev pub last_code : ℕ
last_code = code_of Monthly

-- the frequency of a code in the set
unfoldable pub frequency_at : ℕ → Frequency
frequency_at code = cond (eqb code 0) Annual (cond (eqb code 1) SemiAnnual (cond (eqb code 2) Quarterly Monthly))

unfoldable pub frequency_of : ℕ → Outcome Frequency
frequency_of code = judged (line 11 (bad_code last_code code) ∷ []) (frequency_at code)
