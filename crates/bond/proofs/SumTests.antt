-- One sum tested for all of a bond's numbers: it is finite only where each of them is. Assumes nothing.
use mathlib.Core.Path.{◌≡◌, refl, sym, ap, ◌∙◌}
use mathlib.Core.Bool.{true, false}
use Prim.Native.Nat.{ℕ, ◌≤◌}
use borrow.Author.Tests.{le-ltb}
use lib.Dec.{ltb}
use lib.Ieee.{Float, nan, inf, fin, Format, binary64, add, lt}
use lib.Ieee.Scale.{finite}
use Rattle.numbers.specs.Clamps.{plus_zero}
use Rattle.numbers.proofs.Amounts.{passes}
use Rattle.refusals.specs.Outcome.{Outcome, accepted, first_or, judged}
use Rattle.refusals.specs.Table.{bad_amount, bad_time, too_many_periods, bad_number}
use Rattle.bond.specs.declared.Bond.{Bond}
use Rattle.bond.specs.Bonds.{periods, bad_maturity, bond_lines}

both_finite : (f : Format) (x y : Float) → finite (add f x y) ≡ true → (finite x ≡ true) × (finite y ≡ true)
unfolding add
both_finite f nan y h = absurd (passes h)
both_finite f (inf s) nan h = absurd (passes h)
both_finite f (inf true) (inf true) h = absurd (passes h)
both_finite f (inf true) (inf false) h = absurd (passes h)
both_finite f (inf false) (inf true) h = absurd (passes h)
both_finite f (inf false) (inf false) h = absurd (passes h)
both_finite f (inf s) (fin t n d) h = absurd (passes h)
both_finite f (fin s m e) nan h = absurd (passes h)
both_finite f (fin s m e) (inf t) h = absurd (passes h)
both_finite f (fin s m e) (fin t n d) h = (refl, refl)

pub none_wrong : (b : Bond) (x : Float) (n : ℕ) → n ≡ periods b → n ≤ 1200 → lt b.face plus_zero ≡ false
    → finite (add binary64 (add binary64 (add binary64 b.face b.coupon) b.maturity) x) ≡ true
    → ◌≡◌ {A = Outcome Unit} (judged (bond_lines b x) tt) (accepted tt)
unfolding judged first_or bad_amount bad_time too_many_periods bad_number bad_maturity
none_wrong b x n counted few up sum =
    let last = both_finite binary64 (add binary64 (add binary64 b.face b.coupon) b.maturity) x sum in
    let third = both_finite binary64 (add binary64 b.face b.coupon) b.maturity last.0 in
    let first = both_finite binary64 b.face b.coupon third.0 in
    let short : ltb 1200 (periods b) ≡ false = sym (ap (ltb 1200) counted) ∙ le-ltb 1200 n few in
    simp (first.0, first.1, third.1, last.1, up, short)
