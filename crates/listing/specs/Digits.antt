-- Numbers as text, in ASCII. Definitions only. Assumes nothing.
use Rattle.std.specs.Prelude.{ℕ, zero, suc, ◌+◌, ◌/◌, ◌%◌, cond, List, [], ◌∷◌, ◌++◌, ltb}

-- a digit below 16: 0 to 9, then a to f
abbrev pub digit : ℕ → ℕ
digit d = cond (ltb d 10) (48 + d) (87 + d)

-- exactly k hexadecimal digits, the highest first
unfoldable pub hex_digits : ℕ → ℕ → List ℕ
hex_digits zero n = []
hex_digits (suc k) n = hex_digits k (n / 16) ++ digit (n % 16) ∷ []

-- the decimal digits of a number of at most k + 1 of them, with no zero in front
unfoldable pub decimal_digits : ℕ → ℕ → List ℕ
decimal_digits zero n = digit n ∷ []
decimal_digits (suc k) n = cond (ltb n 10) (digit n ∷ []) (decimal_digits k (n / 10) ++ digit (n % 10) ∷ [])

-- a u32 has at most ten
unfoldable pub decimal : ℕ → List ℕ
decimal n = decimal_digits 9 n
