-- `yield_curve::spline::sweep_up` meets its contract: each place up to the knot in hand holds its mu and its z. Assumes nothing.
use Rattle.std.proofs.Common.{◌≡◌, ℕ, ◌≤◌, length, slice_index_or}
use Rattle.yield_curve.specs.declared.spline.Swept.{Swept}
use Rattle.yield_curve.specs.Spline.{mu, z}
use Rattle.yield_curve.proofs.spline.sweep_up.Given as goal

abbrev pub invariant-loop-i : goal.invariant-loop-i
invariant-loop-i l = (length l.swept ≡ 120) × (l.s.mu ≡ mu l.times l.rates l.i) × (l.s.z ≡ z l.times l.rates l.i)
    × ((k : ℕ) (none : Swept) → k ≤ l.i → ((slice_index_or l.swept k none).mu ≡ mu l.times l.rates k) × ((slice_index_or l.swept k none).z ≡ z l.times l.rates k))
