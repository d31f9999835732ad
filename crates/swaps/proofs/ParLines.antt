-- Line 6 of a bootstrap, asked knot by knot, and lines 4, 5 and 6 one after the other. Assumes nothing.
use mathlib.Core.Path.{◌≡◌, refl, ap, ◌∙◌}
use mathlib.Core.Bool.{Bool, true, false, cond, not, ◌||◌}
use mathlib.Core.List.{List, [], ◌∷◌, map}
use Prim.Native.Nat.{ℕ, zero, suc, ◌+◌, ◌<◌, ◌≤◌}
use native.Mathlib.Numerals.{add-one}
use native.Mathlib.Omega.{arith}
use lib.ListN.{length, get_or, drop, drop_of_length-le}
use lib.Seq.{drop-cons}
use lib.Ieee.{Float, nan, inf, lt}
use borrow.Author.Tests.{eq-eqb, ne_eqb, eqb-true, not-false}
use Rattle.refusals.specs.Outcome.{Outcome, refused, accepted, Line, first_or, judged}
use Rattle.refusals.specs.Table.{unequal, bad_knot_count, bad_knot, bad_knots_after, bad_knots, bad_tenor}
use Rattle.refusals.proofs.Judging.{none_is, passed}
use Rattle.refusals.proofs.Verdicts.{verdict}
use Rattle.curves.specs.Segments.{Rising}
use Rattle.refusals.proofs.OneCause.{caused, clear}
use Rattle.curves.proofs.CurveLines.{at_most_120}
use Rattle.curves.proofs.KnotLine.{after_all}
use Rattle.curves.proofs.Listing.{rising}
use Rattle.swaps.specs.Bootstrap.{either_of, par_lines}

-- the line of the knots and tenors
abbrev pub knot_line : List Float → List Float → Line
knot_line tenors pars = record { number = 6; causes = either_of (bad_knots tenors pars) (map bad_tenor tenors) }

-- the same from the knot i on, by the tenor before it
abbrev pub From : List Float → List Float → Float → ℕ → Outcome Unit
From tenors pars before i = first_or 6 i (either_of (bad_knots_after before (drop i tenors) (drop i pars)) (map bad_tenor (drop i tenors))) (accepted tt)

pub at_start : (tenors pars : List Float) → verdict (knot_line tenors pars ∷ []) ≡ From tenors pars (inf true) 0
unfolding judged bad_knots bad_knots_after
at_start [] pars = refl
at_start (t ∷ ts) [] = refl
at_start (t ∷ ts) (p ∷ ps) =
    ap (λ (b : Bool). first_or 6 0 ((b || bad_tenor t) ∷ either_of (bad_knots_after t ts ps) (map bad_tenor ts)) (accepted tt)) (after_all t p)

abbrev pub bad_at : List Float → List Float → Float → ℕ → Bool
bad_at tenors pars before i = (bad_knot (get_or tenors i nan) (get_or pars i nan) || not (lt before (get_or tenors i nan))) || bad_tenor (get_or tenors i nan)

module _ (tenors pars : List Float) (before : Float) (i : ℕ) (h : i < length tenors) (same : length tenors ≡ length pars) where
  turn : From tenors pars before i ≡ cond (bad_at tenors pars before i) (refused 6 i) (From tenors pars (get_or tenors i nan) (i + 1))
  unfolding first_or bad_knots_after
  turn =
      let g : i < length pars = omega arith in
      rw (add-one, drop-cons tenors i nan, drop-cons pars i nan)

  pub stops : bad_at tenors pars before i ≡ true → From tenors pars before i ≡ refused 6 i
  stops b = turn ∙ ap (λ (b : Bool). cond b (refused 6 i) (From tenors pars (get_or tenors i nan) (i + 1))) b

  pub goes_on : bad_at tenors pars before i ≡ false → From tenors pars before i ≡ From tenors pars (get_or tenors i nan) (i + 1)
  goes_on b = turn ∙ ap (λ (b : Bool). cond b (refused 6 i) (From tenors pars (get_or tenors i nan) (i + 1))) b

pub ended : (tenors pars : List Float) (before : Float) (i : ℕ) → length tenors ≤ i → From tenors pars before i ≡ accepted tt
unfolding first_or bad_knots_after
ended tenors pars before i h = rw (drop_of_length-le tenors h)

-- line 6 asked knot by knot
pub ruleset knot_by_knot = (stops, goes_on, ended)

-- where neither of two causes stands, the first does not
neither : (a b : Bool) → (a || b) ≡ false → a ≡ false
neither true b e = e
neither false b e = refl

none_of_first : (xs ys : List Bool) → ((q : ℕ) → get_or (either_of xs ys) q false ≡ false) → (q : ℕ) → get_or xs q false ≡ false
none_of_first [] ys none q = refl
none_of_first (x ∷ xs) [] none q = none q
none_of_first (x ∷ xs) (y ∷ ys) none zero = neither x y (none 0)
none_of_first (x ∷ xs) (y ∷ ys) none (suc q) = none_of_first xs ys (λ p. none (suc p)) q

-- ---- lines 4 and 5 first
different : (m n : ℕ) → (m ≡ n → ⊥) → unequal m n ≡ true
unfolding unequal
different m n h = ap not (ne_eqb m n h)

equal : (m n : ℕ) → m ≡ n → unequal m n ≡ false
unfolding unequal
equal m n h = ap not (eq-eqb m n h)

module _ (tenors pars : List Float) where
  pub refused_4 : (length tenors ≡ length pars → ⊥) → refused 4 0 ≡ verdict (par_lines tenors pars)
  refused_4 h = caused tt 4 _ _ (different _ _ h)

  pub refused_5 : length tenors ≡ length pars → bad_knot_count (length tenors) ≡ true → refused 5 0 ≡ verdict (par_lines tenors pars)
  refused_5 h b = caused tt 5 _ (knot_line tenors pars ∷ []) b ∙ clear tt 4 _ _ (equal _ _ h)

  pub by_line_6 : length tenors ≡ length pars → bad_knot_count (length tenors) ≡ false → verdict (knot_line tenors pars ∷ []) ≡ verdict (par_lines tenors pars)
  by_line_6 h b = clear tt 5 _ (knot_line tenors pars ∷ []) b ∙ clear tt 4 _ _ (equal _ _ h)

  -- what is accepted has as many rates as tenors, and at most 120 ..
  same_count : unequal (length tenors) (length pars) ≡ false → length tenors ≡ length pars
  unfolding unequal
  same_count e = eqb-true _ _ (not-false _ e)

  pub accepted_counts : accepted tt ≡ verdict (par_lines tenors pars) → (length tenors ≡ length pars) × (length tenors ≤ 120)
  accepted_counts e =
      let equal = passed tt tt _ _ e in
      let counted = passed tt tt _ _ equal.1 in
      (same_count (none_is equal.0 0), at_most_120 _ (none_is counted.0 0))

  -- .. and its tenors rise
  pub accepted_tenors_rise : accepted tt ≡ verdict (par_lines tenors pars) → Rising tenors
  accepted_tenors_rise e =
      let from_6 = (passed tt tt _ _ (passed tt tt _ _ e).1).1 in
      rising tenors pars (accepted_counts e).0 (none_of_first (bad_knots tenors pars) (map bad_tenor tenors) (none_is (passed tt tt _ _ from_6).0))
