-- Dated amounts as a host lends them: time, amount, time, amount and so on. Definitions only. Assumes nothing.
use Rattle.std.specs.Prelude.{List, [], ◌∷◌, Float}

-- every other number, from the first: the times
unfoldable pub times_in : List Float → List Float
times_in [] = []
times_in (t ∷ []) = t ∷ []
times_in (t ∷ a ∷ rest) = t ∷ times_in rest

-- and from the second: the amounts. An odd count leaves a time without an amount, so that the two lists differ in length.
unfoldable pub amounts_in : List Float → List Float
amounts_in [] = []
amounts_in (t ∷ []) = []
amounts_in (t ∷ a ∷ rest) = a ∷ amounts_in rest
