-- An unknown speed beside a pool: what the pool's lines before 11 refuse goes first, and a bad record, which is 11 too, does not. So a pool and its speed are judged by
-- the table's rule. Assumes nothing.
use mathlib.Core.Path.{◌≡◌, refl, sym, ap, ◌∙◌}
use mathlib.Core.Bool.{Bool, true, false, cond}
use mathlib.Core.List.{List, [], ◌∷◌}
use Prim.Native.Nat.{ℕ, suc, ◌<◌}
use native.Mathlib.Omega.{arith}
use lib.ListN.{take}
use lib.Ieee.{Float}
use Rattle.std.specs.declared.result.Result.{Result}
use Rattle.std.specs.declared.result.Result.TheVariants.{Ok, Err}
use Rattle.std.specs.Result.{MatchResult, IsErrAnd}
use Rattle.refusals.specs.declared.Refusal.{Refusal}
use Rattle.refusals.specs.Answers.{outcome}
use Rattle.refusals.specs.Outcome.{Outcome, refused, accepted, Line, line, alone, above, first_or, judged, and_then}
use Rattle.refusals.specs.Places.{placed}
use Rattle.refusals.specs.Table.{bad_code}
use Rattle.refusals.proofs.Judging.{exactly, followed, judged_in_parts}
use Rattle.refusals.proofs.NumbersWithin.{between, within}
use Rattle.refusals.proofs.Verdicts.{verdict}
use Rattle.pool.specs.declared.speed.Speed.{Speed}
use Rattle.pool.specs.Loans.{bad_records, pool_lines}
use Rattle.senyolanda.specs.Pools.{last_speed, speed_at, speed_of, speed_lines, speed_for}

-- ---- a code that is refused alone
pub out_of_set : {Value : Type 0} (v : Value) (bad : Bool) (k p : ℕ) → refused k p ≡ judged (line 11 bad ∷ []) v → (bad ≡ true) × (k ≡ 11) × (p ≡ 0)
unfolding judged first_or
out_of_set v true k p e = (refl, cc, cc)
out_of_set v false k p e = let z : ◌≡◌ {A = Bool} false true = cc in (z, cc, cc)

in_set : {Value : Type 0} (v : Value) (bad : Bool) (w : Value) → accepted w ≡ judged (line 11 bad ∷ []) v → (bad ≡ false) × (w ≡ v)
unfolding judged first_or
in_set v true w e = let z : ◌≡◌ {A = Bool} true false = cc in (z, cc)
in_set v false w e = (refl, cc)

abbrev Eleven : List Bool → Line
Eleven causes = record { number = 11; causes = causes }

-- ---- lines before 11 refuse with a lower number, and line 11 with no other
eleven_alone : (p : ℕ) (causes : List Bool) (j q : ℕ) → ◌≡◌ {A = Outcome Unit} (refused j q) (first_or 11 p causes (accepted tt)) → j ≡ 11
unfolding first_or
eleven_alone p [] j q e = cc
eleven_alone p (true ∷ bs) j q e = cc
eleven_alone p (false ∷ bs) j q e = eleven_alone (suc p) bs j q e

abbrev Before : List ℕ → Bool → List Line
Before bytes no_room = take 4 (pool_lines bytes no_room)

before_lower : (bytes : List ℕ) (no_room : Bool) (j q : ℕ) → refused j q ≡ verdict (Before bytes no_room) → j < 11
unfolding above between
before_lower bytes no_room j q e = (within 0 11 (Before bytes no_room) j q tt ((exactly tt (Before bytes no_room) tt j q).0 (sym e)).applies).1

-- ---- with the code line 11 stands at place 0, and without it at the first bad record
code_at_0 : {Value : Type 0} (causes : List Bool) (v : Value) → judged (Eleven (alone true causes) ∷ []) v ≡ refused 11 0
unfolding judged first_or
code_at_0 [] v = refl
code_at_0 (b ∷ bs) v = refl

no_code : (b : Bool) (causes : List Bool) → alone false (alone b causes) ≡ alone b causes
no_code b [] = refl
no_code b (c ∷ cs) = refl

-- ---- an unknown code after the lines before it, case by case of what the pool's lines say
abbrev Unknown : {Value : Type 0} → Outcome Unit → Outcome Value
Unknown before = placed (followed before (refused 11 0))

module _ {Value : Type 0} where
  lower_stays : (before after : Outcome Unit) → ((j q : ℕ) → refused j q ≡ after → j ≡ 11) → (k p : ℕ) → refused k p ≡ placed (followed before after) → ¬ (k ≡ 11)
      → refused k p ≡ Unknown {Value = Value} before
  unfolding placed
  lower_stays (refused j q) after only k p e other = cc
  lower_stays (accepted u) (refused j q) only k p e other = let z : k ≡ j = cc in absurd (other (z ∙ only j q refl))
  lower_stays (accepted u) (accepted w) only k p e other = cc

  code_before : (before after : Outcome Unit) → ((j q : ℕ) → refused j q ≡ before → j < 11) → (k p : ℕ) → refused k p ≡ placed (followed before after) → k ≡ 11
      → refused 11 0 ≡ Unknown {Value = Value} before
  unfolding placed
  code_before (refused j q) after less k p e eleven = let z : k ≡ j = cc in let h = less j q refl in absurd (omega arith)
  code_before (accepted u) after less k p e eleven = refl

  code_only : (before after : Outcome Unit) → accepted tt ≡ placed (followed before after) → refused 11 0 ≡ Unknown {Value = Value} before
  unfolding placed
  code_only (refused j q) after e = cc
  code_only (accepted u) after e = refl

  still_refused : (asked : Speed → Outcome Value) (before : Outcome Unit) → and_then (Unknown before) asked ≡ Unknown before
  unfolding placed
  still_refused asked (refused j q) = refl
  still_refused asked (accepted u) = refl

module _ (bytes : List ℕ) (no_room : Bool) (code : ℕ) where
  abbrev First : Outcome Unit
  First = verdict (Before bytes no_room)

  abbrev Records : Outcome Unit
  Records = verdict (Eleven (bad_records bytes) ∷ [])

  pool_in_parts : verdict (pool_lines bytes no_room) ≡ followed First Records
  pool_in_parts = judged_in_parts (Before bytes no_room) (Eleven (bad_records bytes) ∷ []) tt

  unknown_lines : {Value : Type 0} (v : Value) → bad_code last_speed code ≡ true → placed (judged (speed_lines bytes no_room code) v) ≡ Unknown First
  unknown_lines v bad =
      rw bad
      (ap placed (judged_in_parts (Before bytes no_room) (Eleven (alone true (bad_records bytes)) ∷ []) v ∙ ap (followed First) (code_at_0 (bad_records bytes) v)))

  known_lines : bad_code last_speed code ≡ false → speed_lines bytes no_room code ≡ pool_lines bytes no_room
  unfolding bad_records
  known_lines good = rw (good, no_code)

  module _ (number : Float) where
    pub known_speed : (s : Speed) → bad_code last_speed code ≡ false → s ≡ speed_at code number → accepted s ≡ speed_for bytes no_room code number
    unfolding speed_for
    known_speed s good e = rw good (ap accepted e)

    module _ (bad : bad_code last_speed code ≡ true) where
      unknown_speed : Unknown First ≡ speed_for bytes no_room code number
      unfolding speed_for
      unknown_speed =
          sym (unknown_lines (speed_at code number) bad)
          ∙ sym (ap (λ (t : Bool). cond t (placed (judged (speed_lines bytes no_room code) (speed_at code number))) (accepted (speed_at code number))) bad)

      pub lower_first : (k p : ℕ) → refused k p ≡ placed (verdict (pool_lines bytes no_room)) → ¬ (k ≡ 11) → refused k p ≡ speed_for bytes no_room code number
      unfolding judged
      lower_first k p e other = lower_stays First Records (eleven_alone 0 (bad_records bytes)) k p (e ∙ ap placed pool_in_parts) other ∙ unknown_speed

      module _ (j q : ℕ) (eleven : j ≡ 11) (first : q ≡ 0) where
        pub before_records : (k p : ℕ) → refused k p ≡ placed (verdict (pool_lines bytes no_room)) → k ≡ 11 → refused j q ≡ speed_for bytes no_room code number
        before_records k p e h =
            rw (eleven, first) (code_before First Records (before_lower bytes no_room) k p (e ∙ ap placed pool_in_parts) h ∙ unknown_speed)

        pub nothing_else : accepted tt ≡ placed (verdict (pool_lines bytes no_room)) → refused j q ≡ speed_for bytes no_room code number
        nothing_else e = rw (eleven, first) (code_only First Records (e ∙ ap placed pool_in_parts) ∙ unknown_speed)

    -- ---- whatever the code: a pool that is asked with a speed is judged by the lines that both meet
    pub by_the_table : {Value : Type 0} (v : Speed → Value)
        → and_then (speed_for bytes no_room code number) (λ (s : Speed). placed (judged (pool_lines bytes no_room) (v s))) ≡ placed (judged (speed_lines bytes no_room code) (v (speed_at code number)))
    by_the_table {Value} v = go (bad_code last_speed code) refl
      where
        asked : Speed → Outcome Value
        asked s = placed (judged (pool_lines bytes no_room) (v s))

        go : (b : Bool) → bad_code last_speed code ≡ b → and_then (speed_for bytes no_room code number) asked ≡ placed (judged (speed_lines bytes no_room code) (v (speed_at code number)))
        go true bad =
            ap (λ (o : Outcome Speed). and_then o asked) (sym (unknown_speed bad))
            ∙ still_refused asked First ∙ sym (unknown_lines (v (speed_at code number)) bad)
        go false good =
            ap (λ (o : Outcome Speed). and_then o asked) (sym (known_speed (speed_at code number) good refl))
            ∙ ap (λ (ls : List Line). placed (judged ls (v (speed_at code number)))) (sym (known_lines good))

    -- ---- the speed that was read, or the refusal that goes before it
    pub speed_or : (known given : Result Speed Refusal) {Instead : Refusal → Refusal → Type 0} → outcome known ≡ speed_of code number
        → MatchResult known (λ (s : Speed). given ≡ Ok s) (λ (r : Refusal). IsErrAnd given (λ (q : Refusal). Instead r q))
        → ((r q : Refusal) → Instead r q → outcome (Err r) ≡ speed_of code number → outcome (Err q) ≡ speed_for bytes no_room code number) → outcome given ≡ speed_for bytes no_room code number
    unfolding speed_of
    speed_or (Ok s) given is m instead = let set = in_set _ _ _ is in rw m (known_speed s set.0 set.1)
    speed_or (Err r) (Ok s) is m instead = absurd m
    speed_or (Err r) (Err q) is m instead = instead r q m is
