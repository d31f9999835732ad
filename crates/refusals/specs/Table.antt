-- The table of refusals, document 01's and what document 02 adds to it: each line's sentence in full, and for each thing that it names whether its cause is there, over plain numbers. Definitions only. Assumes nothing.
use Rattle.std.specs.Prelude.{ℕ, ◌*◌, ◌/◌, ◌%◌, Bool, not, ◌&&◌, ◌||◌, List, [], ◌∷◌, ltb, eqb, length, get_or, Float}
use Rattle.std.specs.Float.{binary64}
use Rattle.std.specs.Float.Ieee.{mul, lt, le}
use Rattle.std.specs.Float.Ieee.Scale.{finite}
use Rattle.numbers.specs.Clamps.{plus_zero}
use Rattle.numbers.specs.Literals.{hundred}

-- ---- 1: "a principal, face or notional is not finite or is below zero"
unfoldable pub bad_amount : Float → Bool
bad_amount x = not (finite x) || lt x plus_zero

-- ---- 2: "a loan's term is 0 or above 1,200"
unfoldable pub bad_term : ℕ → Bool
bad_term n = eqb n 0 || ltb 1200 n

-- ---- 3: "rows are due and the lent room holds no whole row; for a pool, less than 3 numbers for each month of its longest term; for bond cash flows, where 7 has no cause, fewer places
-- in either list than flows"

-- so many rows are due, so many places are lent, and a row takes so many
unfoldable pub no_room : ℕ → ℕ → ℕ → Bool
no_room due room width = ltb 0 due && ltb room width

-- all of so many months, of so many places each, do not fit
unfoldable pub no_room_for_all : ℕ → ℕ → ℕ → Bool
no_room_for_all months room width = ltb room (months * width)

-- of two lists of so many places one is shorter than so many flows
unfoldable pub no_room_in_either : ℕ → ℕ → ℕ → Bool
no_room_in_either flows times amounts = ltb times flows || ltb amounts flows

-- of year-end lines, "fewer line places than started years in the term" (document 02, K1)
unfoldable pub too_few_lines : ℕ → ℕ → Bool
too_few_lines years lines = ltb lines years

-- ---- 4: "the two lists of a curve or of cash flows differ in length"
unfoldable pub unequal : ℕ → ℕ → Bool
unequal m n = not (eqb m n)

-- ---- 5: "a curve (a fit's points are one) has no knot, or more than 120"
unfoldable pub bad_knot_count : ℕ → Bool
bad_knot_count n = eqb n 0 || ltb 120 n

-- ---- 6: "a knot is not finite, is below zero in time, or is not later than the one before; for a bootstrap also a tenor of 0 or above 100"

-- for each knot, its time and its rate; the first has none before it
unfoldable pub bad_knot : Float → Float → Bool
bad_knot time rate = not (finite time) || not (finite rate) || lt time plus_zero

unfoldable pub bad_knots_after : Float → List Float → List Float → List Bool
bad_knots_after before [] rates = []
bad_knots_after before (t ∷ ts) [] = []
bad_knots_after before (t ∷ ts) (r ∷ rs) = (bad_knot t r || not (lt before t)) ∷ bad_knots_after t ts rs

unfoldable pub bad_knots : List Float → List Float → List Bool
bad_knots [] rates = []
bad_knots (t ∷ ts) [] = []
bad_knots (t ∷ ts) (r ∷ rs) = bad_knot t r ∷ bad_knots_after t ts rs

unfoldable pub bad_tenor : Float → Bool
bad_tenor t = not (lt plus_zero t) || lt hundred t

-- ---- 7: "a maturity, a tenor or a time asked of a curve is not finite, or gives more than 1,200 periods; a list of more than 1,200 flows, or a pool of more than 64 loans"
unfoldable pub bad_time : Float → Bool
bad_time t = not (finite t)

unfoldable pub too_many_periods : ℕ → Bool
too_many_periods n = ltb 1200 n

unfoldable pub too_many_flows : ℕ → Bool
too_many_flows n = ltb 1200 n

unfoldable pub too_many_loans : ℕ → Bool
too_many_loans n = ltb 64 n

-- ---- 8: "a swap frequency is 0 or above 365"
unfoldable pub bad_frequency : ℕ → Bool
bad_frequency n = eqb n 0 || ltb 365 n

-- "also for a dated frequency that does not divide 12" (document 02, K3)
unfoldable pub bad_dated_frequency : ℕ → Bool
bad_dated_frequency n = bad_frequency n || not (eqb (12 % n) 0)

-- ---- 9: "a market price, yield, coupon, closing cost, flow amount or swap rate is not finite"
unfoldable pub bad_number : Float → Bool
bad_number x = not (finite x)

-- ---- 10: "a loan state says more months done than its term": the month that ends the loan, and the months done
unfoldable pub past_end : ℕ → ℕ → Bool
past_end end done = ltb end done

-- ---- 11: "a record has an unknown kind, a wrong length or a code outside its set"

-- the kind and the length that are wanted, and the bytes
unfoldable pub bad_record : ℕ → ℕ → List ℕ → Bool
bad_record kind size bytes = not (eqb (length bytes) size && eqb (get_or bytes 0 0) kind)

-- a code is one of 0 to the highest
unfoldable pub bad_code : ℕ → ℕ → Bool
bad_code highest code = ltb highest code

-- records of one size end to end: so many bytes are no whole number of them; and they are that, but more than the most
unfoldable pub bad_length : ℕ → ℕ → Bool
bad_length size bytes = not (eqb (bytes % size) 0)

unfoldable pub bad_total : ℕ → ℕ → ℕ → Bool
bad_total size most bytes = bad_length size bytes || ltb most (bytes / size)

-- ---- 12: "no yield bracket: for both, the product of the end errors is above 0 (the Rust's NaN); a NaN product goes on": the errors at the ends of a bracket
unfoldable pub one_sided : Float → Float → Bool
one_sided low high = lt plus_zero (mul binary64 low high)

-- ---- 13: "no break-even: saving at or below zero, or later than the new term"
unfoldable pub no_break_even : Float → ℕ → ℕ → Bool
no_break_even saving month term = le saving plus_zero || ltb term month

-- ---- 14: "a year (from 1) with no row drawn" (document 02, K1): the year, and how many years the rows drawn have begun
unfoldable pub no_row_drawn : ℕ → ℕ → Bool
no_row_drawn year begun = eqb year 0 || ltb begun year

-- ---- 15: "no such date or the second not after the first" (document 02, K3): whether a date is one; of two, whether each is one and whether the second is after the first
unfoldable pub no_such_date : Bool → Bool
no_such_date is_date = not is_date

unfoldable pub bad_dates : Bool → Bool → Bool → Bool
bad_dates first second after = no_such_date (first && second) || not after

-- ---- 16 (document 02, K4): "a period or balloon month of 0 or beyond the term (for interest-only, equal to it as well), an initial rate not finite, a cap not finite or below zero, an
-- index list too short or not finite in an entry read"

-- so many months of interest alone, of a term
unfoldable pub bad_period : ℕ → ℕ → Bool
bad_period months term = eqb months 0 || not (ltb months term)

-- the month of a balloon, of a term
unfoldable pub bad_balloon : ℕ → ℕ → Bool
bad_balloon month term = eqb month 0 || ltb term month

-- an initial rate, the cap of one adjustment and the cap of the loan's life
unfoldable pub bad_initial : Float → Bool
bad_initial rate = not (finite rate)

unfoldable pub bad_cap : Float → Bool
bad_cap cap = not (finite cap) || lt cap plus_zero

-- so many entries are read, and so many are lent; and an entry that is read
unfoldable pub too_few_entries : ℕ → ℕ → Bool
too_few_entries read lent = ltb lent read

unfoldable pub bad_entry : Float → Bool
bad_entry rate = not (finite rate)
