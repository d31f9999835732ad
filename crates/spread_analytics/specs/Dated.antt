-- Cash flows as one list of dated amounts: the two lists that they are. Definitions only. Assumes nothing.
use Rattle.std.specs.Prelude.{List, map, Float}
use Rattle.spread_analytics.specs.declared.dated.CashFlow.{CashFlow}

abbrev pub times_of : List CashFlow → List Float
times_of flows = map (λ (f : CashFlow). f.time) flows

abbrev pub amounts_of : List CashFlow → List Float
amounts_of flows = map (λ (f : CashFlow). f.amount) flows
