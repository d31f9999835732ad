-- Document 01's rule, shown of `judged`: refusal k at p is given exactly when line k has its cause at p, at no earlier place, and no lower line has any; and the steps' answer
-- is given exactly when no line has a cause. Any value may be judged by the same lines: they alone decide on the refusal. Assumes nothing.
use mathlib.Core.Path.{◌≡◌, refl, sym, ap, ◌∙◌, subst}
use mathlib.Core.Logic.{◌⊎◌, inl, inr}
use mathlib.Core.Bool.{Bool, true, false}
use mathlib.Core.List.{List, [], ◌∷◌, ◌++◌}
use Prim.Native.Nat.{ℕ, zero, suc, ◌+◌, ◌<◌}
use native.Mathlib.Omega.{arith}
use lib.Dec.{T, ltb, ltb→lt}
use lib.ListN.{get_or}
use lib.Ieee.Fits.{and_l, and_r}
use Rattle.refusals.specs.Outcome.{Outcome, refused, accepted, Line, first_or, judged, Applies, Lowest, ExactlyWhen, above, rising}

-- ---- one line: the first place of a list of causes that has one
pub data First : List Bool → ℕ → Type 0 where
  here : {bs : List Bool} → First (true ∷ bs) 0
  later : {bs : List Bool} {p : ℕ} → First bs p → First (false ∷ bs) (suc p)

pub data None : List Bool → Type 0 where
  none : None []
  skip : {bs : List Bool} → None bs → None (false ∷ bs)

search_line : (bs : List Bool) → ((p : ℕ) × First bs p) ⊎ None bs
search_line [] = inr none
search_line (true ∷ bs) = inl (0, here)
search_line (false ∷ bs) = elim (search_line bs) [ inl f ↦ inl (suc f.0, later f.1) | inr n ↦ inr (skip n) ]

pub first_is : {bs : List Bool} {p : ℕ} → First bs p → get_or bs p false ≡ true
first_is here = refl
first_is (later f) = first_is f

pub first_no_earlier : {bs : List Bool} {p : ℕ} → First bs p → (q : ℕ) → q < p → get_or bs q false ≡ false
first_no_earlier here q h = absurd (omega arith)
first_no_earlier (later f) zero h = refl
first_no_earlier (later f) (suc q) h = first_no_earlier f q (omega arith)

pub none_is : {bs : List Bool} → None bs → (q : ℕ) → get_or bs q false ≡ false
none_is none q = refl
none_is (skip n) zero = refl
none_is (skip n) (suc q) = none_is n q

module _ {Value : Type 0} (k : ℕ) (rest : Outcome Value) where
  pub at_first : (q : ℕ) {bs : List Bool} {p : ℕ} → First bs p → first_or k q bs rest ≡ refused k (q + p)
  unfolding first_or
  at_first q here = ap (refused k) (omega arith)
  at_first q (later {bs} {p} f) = at_first (suc q) f ∙ ap (refused k) (omega arith)

  pub past_none : (q : ℕ) {bs : List Bool} → None bs → first_or k q bs rest ≡ rest
  unfolding first_or
  past_none q none = refl
  past_none q (skip n) = past_none (suc q) n

clash : {b : Bool} → b ≡ true → b ≡ false → ⊥
clash e f = let z : true ≡ false = sym e ∙ f in subst T z tt

-- ---- the lines in order
above_applies : (b : ℕ) (ls : List Line) (k p : ℕ) → T (above b ls) → Applies ls k p → b < k
unfolding above Applies
above_applies b [] k p t a = absurd a
above_applies b (l ∷ ls) k p t a =
    let h : b < l.number = ltb→lt b l.number (and_l (ltb b l.number) (above l.number ls) t) in
    elim a [
      | inl e ↦ subst (λ (n : ℕ). b < n) e.0 h
      | inr r ↦ let g : l.number < k = above_applies l.number ls k p (and_r (ltb b l.number) (above l.number ls) t) r in omega arith
    ]

module _ {Value : Type 0} (v : Value) where
  to_lowest : (b : ℕ) (ls : List Line) → T (above b ls) → (k p : ℕ) → judged ls v ≡ refused k p → Lowest ls k p
  unfolding judged above Applies
  to_lowest b [] t k p e = let z : ◌≡◌ {A = ℕ} 0 1 = cc in absurd (omega arith)
  to_lowest b (l ∷ ls) t k p e = go (to_lowest l.number ls up k p) (search_line l.causes)
    where
      up : T (above l.number ls)
      up = and_r (ltb b l.number) (above l.number ls) t

      go : (judged ls v ≡ refused k p → Lowest ls k p) → ((q : ℕ) × First l.causes q) ⊎ None l.causes → Lowest (l ∷ ls) k p
      go onward (inl f) =
          let same : ◌≡◌ {A = Outcome Value} (refused l.number f.0) (refused k p) = ap (refused l.number) (omega arith) ∙ sym (at_first l.number (judged ls v) 0 f.1) ∙ e in
          let n : l.number ≡ k = cc in
          let q : f.0 ≡ p = cc in
          record {
            applies = inl (n, subst (λ (i : ℕ). get_or l.causes i false ≡ true) q (first_is f.1));
            no_lower = λ j i h a. elim a [ inl g ↦ (let m = g.0 in omega arith) | inr r ↦ (let m = above_applies l.number ls j i up r in omega arith) ];
            no_earlier = λ i h a. elim a [ inl g ↦ clash g.1 (first_no_earlier f.1 i (omega arith)) | inr r ↦ (let m = above_applies l.number ls k i up r in omega arith) ];
          }
      go onward (inr z) =
          let ih = onward (sym (past_none l.number (judged ls v) 0 z) ∙ e) in
          record {
            applies = inr ih.applies;
            no_lower = λ j i h a. elim a [ inl g ↦ clash g.1 (none_is z i) | inr r ↦ ih.no_lower j i h r ];
            no_earlier = λ i h a. elim a [ inl g ↦ clash g.1 (none_is z i) | inr r ↦ ih.no_earlier i h r ];
          }

  from_lowest : (b : ℕ) (ls : List Line) → T (above b ls) → (k p : ℕ) → Lowest ls k p → judged ls v ≡ refused k p
  unfolding judged above Applies
  from_lowest b [] t k p w = absurd w.applies
  from_lowest b (l ∷ ls) t k p w = go (from_lowest l.number ls up k p) (search_line l.causes)
    where
      up : T (above l.number ls)
      up = and_r (ltb b l.number) (above l.number ls) t

      -- the line itself has a cause at q, so the lowest line is no later one
      is_it : (q : ℕ) → get_or l.causes q false ≡ true → (l.number ≡ k) × (get_or l.causes p false ≡ true)
      is_it q c = elim w.applies [
        | inl e ↦ e
        | inr r ↦ (let m = above_applies l.number ls k p up r in absurd (w.no_lower l.number q m (inl (refl, c))))
      ]

      go : (Lowest ls k p → judged ls v ≡ refused k p) → ((q : ℕ) × First l.causes q) ⊎ None l.causes → first_or l.number 0 l.causes (judged ls v) ≡ refused k p
      go onward (inl f) =
          let i = is_it f.0 (first_is f.1) in
          let le : (f.0 < p) → ⊥ = λ h. w.no_earlier f.0 h (inl (i.0, first_is f.1)) in
          let ge : (p < f.0) → ⊥ = λ h. clash i.1 (first_no_earlier f.1 p h) in
          let q : 0 + f.0 ≡ p = omega (arith, le, ge) in
          at_first l.number (judged ls v) 0 f.1 ∙ rw (i.0, q)
      go onward (inr z) =
          past_none l.number (judged ls v) 0 z
          ∙ onward (record {
            applies = elim w.applies [ inl e ↦ absurd (clash e.1 (none_is z p)) | inr r ↦ r ];
            no_lower = λ j i h a. w.no_lower j i h (inr a);
            no_earlier = λ i h a. w.no_earlier i h (inr a);
          })

  -- the table's rule: lines whose numbers rise refuse with k at p exactly when that is the lowest
  pub exactly : (ls : List Line) → T (rising ls) → ExactlyWhen ls (judged ls v)
  exactly ls t k p = (to_lowest 0 ls t k p, from_lowest 0 ls t k p)

  -- and the answer is given where no line has a cause
  pub accepts : (ls : List Line) → ((k p : ℕ) → ¬ Applies ls k p) → judged ls v ≡ accepted v
  unfolding judged Applies
  accepts [] free = refl
  accepts (l ∷ ls) free = go (accepts ls (λ k p a. free k p (inr a))) (search_line l.causes)
    where
      go : judged ls v ≡ accepted v → ((q : ℕ) × First l.causes q) ⊎ None l.causes → first_or l.number 0 l.causes (judged ls v) ≡ accepted v
      go onward (inl f) = absurd (free l.number f.0 (inl (refl, first_is f.1)))
      go onward (inr z) = past_none l.number (judged ls v) 0 z ∙ onward

-- what is accepted has passed each line
pub passed : {Value : Type 0} (v d : Value) (l : Line) (ls : List Line) → accepted d ≡ judged (l ∷ ls) v → None l.causes × (accepted d ≡ judged ls v)
unfolding judged
passed {Value} v d l ls e = go (search_line l.causes)
  where
    go : ((q : ℕ) × First l.causes q) ⊎ None l.causes → None l.causes × (accepted d ≡ judged ls v)
    go (inl f) =
        let same : ◌≡◌ {A = Outcome Value} (accepted d) (refused l.number (0 + f.0)) = e ∙ at_first l.number (judged ls v) 0 f.1 in
        let z : ◌≡◌ {A = ℕ} 0 1 = cc in
        absurd (omega arith)
    go (inr n) = (n, e ∙ past_none l.number (judged ls v) 0 n)

-- ---- lines in two parts: the second is asked where the first accepts
abbrev pub followed : {Value : Type 0} → Outcome Unit → Outcome Value → Outcome Value
followed (refused k p) rest = refused k p
followed (accepted u) rest = rest

followed_first : {Value : Type 0} (o : Outcome Value) (k p : ℕ) (bs : List Bool) (rest : Outcome Unit) → first_or k p bs (followed rest o) ≡ followed (first_or k p bs rest) o
unfolding first_or
followed_first o k p [] rest = refl
followed_first o k p (true ∷ bs) rest = refl
followed_first o k p (false ∷ bs) rest = followed_first o k (suc p) bs rest

pub judged_in_parts : {Value : Type 0} (ls ms : List Line) (v : Value) → judged (ls ++ ms) v ≡ followed (judged ls tt) (judged ms v)
unfolding judged
judged_in_parts [] ms v = refl
judged_in_parts (l ∷ ls) ms v =
    ap (first_or l.number 0 l.causes) (judged_in_parts ls ms v) ∙ followed_first (judged ms v) l.number 0 l.causes (judged ls tt)
