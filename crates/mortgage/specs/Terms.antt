-- What every function over a loan's terms asks of them first: lines 1 and 2 of the table. Definitions only. Assumes nothing.
use Rattle.std.specs.Prelude.{List, [], ◌∷◌}
use Rattle.refusals.specs.Outcome.{Line, line}
use Rattle.refusals.specs.Table.{bad_amount, bad_term}
use Rattle.records.specs.declared.Terms.{Terms}

abbrev pub terms_lines : Terms → List Line
terms_lines t = line 1 (bad_amount t.principal) ∷ line 2 (bad_term t.term) ∷ []
