-- `book::loans::read_at` meets its contract: the part read is the record. Assumes nothing.
use mathlib.Core.Path.{◌∙◌, ap}
use Rattle.records.specs.Kinds.{terms_size, read_terms}
use Rattle.records.proofs.EndToEnd.{part_is}
use Rattle.book.proofs.loans.read_at.Goals as goal

pub returns : goal.returns
returns c = c.read_terms.ensures ∙ ap read_terms (part_is terms_size _ _)
