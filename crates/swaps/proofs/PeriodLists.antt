-- The times and fractions of periods in two lists: of an undated swap as they are written, and of the same swap by another name. Assumes nothing.
use Rattle.std.proofs.Common.{◌≡◌, ℕ, ◌+◌, ◌<◌, List, pos, sym, ◌∙◌, subst, add-one}
use lib.Ieee.{Float, binary64, mul, of_int}
use Rattle.curves.specs.Segments.{knot}
use Rattle.swaps.specs.declared.AnySwap.{AnySwap}
use Rattle.swaps.specs.declared.Swap.{Swap}
use Rattle.swaps.specs.Swap.{period, fraction, pay_date}
use Rattle.swaps.specs.Periods.{of_swap, terms_of}
use Rattle.swaps.specs.inner.Runs.{Listed}

pub undated_listed : (s : Swap) (first n : ℕ) (times fractions : List Float) (dt part : Float) → dt ≡ period s → part ≡ fraction s
    → ((j : ℕ) → j < n → knot times j ≡ mul binary64 (of_int binary64 (pos (first + j + 1))) dt) → ((j : ℕ) → j < n → knot fractions j ≡ part) → Listed (of_swap s) first n times fractions
unfolding of_swap pay_date
undated_listed s first n times fractions dt part d p at each = record {
  of_times = λ j h. at j h ∙ rw (add-one (first + j), d);
  of_fractions = λ j h. each j h ∙ p;
}

pub of_same_swap : {x y : AnySwap} (first count : ℕ) (times fractions : List Float) → x ≡ y → Listed (terms_of y).periods first count times fractions
    → Listed (terms_of x).periods first count times fractions
of_same_swap first count times fractions e = subst (λ (z : AnySwap). Listed (terms_of z).periods first count times fractions) (sym e)
