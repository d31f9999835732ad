-- When an answer of ours agrees with the Rust's. Definitions only. Assumes nothing.
use Rattle.std.specs.Prelude.{ℕ, ◌+◌, ◌*◌, ◌%◌, ◌^◌, Bool, false, cond, not, ◌&&◌, ◌||◌, List, ◌==◌, Float}
use Rattle.std.specs.Float.{binary64, inf}
use Rattle.std.specs.Float.Ieee.{lt, le, eq, ne, sub}
use Rattle.numbers.specs.Sizes.{absolute}
use Rattle.refusals.specs.Outcome.{Outcome, refused, accepted}
use Rattle.replaying.specs.declared.Tally.{Tally}
use Rattle.replaying.specs.Words.{word_at, float_at}

-- how far two numbers lie apart
abbrev pub distance : Float → Float → Float
distance ours theirs = absolute (sub binary64 ours theirs)

-- equal, which zeros of either sign are; or both a NaN; or a finite distance apart that is allowed
unfoldable pub agrees : Float → Float → Float → Bool
agrees ours theirs allowed =
    eq ours theirs || cond (ne ours ours) (ne theirs theirs) (lt (distance ours theirs) (inf false) && le (distance ours theirs) allowed)

-- a refusal's number in the low half, its place in the high half
abbrev pub result_of : ℕ → ℕ → ℕ
result_of k p = k + 0x1_0000_0000 * p

-- a case holds its result, the Rust's number and the distance that is allowed in words 2, 3 and 4; a result of 0 was accepted
unfoldable pub answer_agrees : Outcome Float → List ℕ → Bool
unfolding word_at agrees
answer_agrees (refused k p) case = not (word_at 2 case == 0) && word_at 2 case == result_of k p
answer_agrees (accepted x) case = word_at 2 case == 0 && agrees x (float_at 3 case) (float_at 4 case)

-- one case more, apart where it did not agree
unfoldable pub counted : Tally → Bool → Tally
counted t agreed = record { replayed = (t.replayed + 1) % 2 ^ 64; apart = cond agreed t.apart ((t.apart + 1) % 2 ^ 64) }
