-- Flows gone through in blocks of 64, times and amounts side by side: where the block in hand stands in the two lists. Assumes nothing.
use Rattle.std.proofs.Common.{◌≡◌, ℕ, ◌+◌, ◌<◌, ◌≤◌, List, ◌++◌, length, drop, Bor, Option, Some, None, ◌⊎◌, inl, inr, sym, ap, ◌∙◌, arith}
use Rattle.std.proofs.lemmas.List.{drop-drop, length-append, length-drop, get_or_append_left}
use Rattle.std.proofs.Math.Seq.{drop-append_seam, get_or-drop}
use Rattle.std.specs.declared.slice.Chunks.{Chunks}
use Rattle.std.specs.declared.iter.Zip.{Zip}
use Rattle.std.specs.Iterator.Adapters.{zip_first, zip_second}
use Rattle.std.specs.Slice.Iter.{chunks_rest, chunks_size, chunks_steps}
use Rattle.std.proofs.lemmas.Iterator.{zips}
use lib.Ieee.{Float, nan}
use Rattle.curves.specs.Segments.{knot}

-- ---- one list
pub record From (xs : List Float) (at : ℕ) (s : Chunks Float) : Type 0 where
  pub left : chunks_rest s ≡ drop at xs
  pub by_64 : chunks_size s ≡ 64
  pub within : at ≤ length xs

-- the block x, and what is left after it
pub record Next (xs : List Float) (at : ℕ) (x : List Float) (t : Chunks Float) : Type 0 where
  pub at_each : (i : ℕ) → i < length x → knot x i ≡ knot xs (at + i)
  pub after : From xs (at + length x) t

begins : (xs : List Float) (s : Chunks Float) → chunks_rest s ≡ xs → chunks_size s ≡ 64 → From xs 0 s
begins xs s e n = record { left = e; by_64 = n; within = omega arith }

next : (xs : List Float) (at : ℕ) (s t : Chunks Float) (x : Bor (List Float)) → From xs at s → chunks_steps s (Some x) t → Next xs at x.now t
next xs at s t x f h =
    let e : drop at xs ≡ x.now ++ chunks_rest t = sym f.left ∙ h.1.0 in
    let within : at + length x.now ≤ length xs = omega (arith, ap length e, length-drop at xs, length-append x.now (chunks_rest t), f.within) in
    record {
      at_each = λ i l. sym (get_or_append_left x.now (chunks_rest t) nan i l) ∙ ap (λ (ys : List Float). knot ys i) (sym e) ∙ get_or-drop at xs i nan;
      after = record {
        left = sym (drop-append_seam x.now (chunks_rest t)) ∙ ap (drop (length x.now)) (sym e) ∙ drop-drop (length x.now) at xs;
        by_64 = h.0 ∙ f.by_64;
        within = within;
      };
    }

all_passed : (xs : List Float) (at : ℕ) (s t : Chunks Float) → From xs at s → chunks_steps s None t → at ≡ length xs
all_passed xs at s t f h = omega (arith, f.within, h.1.0, ap length f.left, length-drop at xs)

-- ---- both lists
pub record Left (times amounts : List Float) (at : ℕ) (s : Zip (Chunks Float) (Chunks Float)) : Type 0 where
  pub times_left : From times at (zip_first s)
  pub amounts_left : From amounts at (zip_second s)

pub record Block (times amounts : List Float) (at : ℕ) (block due : List Float) : Type 0 where
  pub time_at : (i : ℕ) → i < length block → knot block i ≡ knot times (at + i)
  pub amount_at : (i : ℕ) → i < length block → knot due i ≡ knot amounts (at + i)
  pub alike : length due ≡ length block

module _ (times amounts : List Float) where
  pub first_block : (s : Zip (Chunks Float) (Chunks Float)) → chunks_rest (zip_first s) ≡ times → chunks_size (zip_first s) ≡ 64 → chunks_rest (zip_second s) ≡ amounts
      → chunks_size (zip_second s) ≡ 64 → Left times amounts 0 s
  first_block s a b d e = record { times_left = begins times (zip_first s) a b; amounts_left = begins amounts (zip_second s) d e }

  module _ (same : length times ≡ length amounts) (at : ℕ) (s t : Zip (Chunks Float) (Chunks Float)) (r : Option (Bor (List Float) × Bor (List Float))) (l : Left times amounts at s) (h : zips chunks_steps chunks_steps s r t) where
    pub next_block : (p : Bor (List Float) × Bor (List Float)) → r ≡ Some p
        → Block times amounts at p.0.now p.1.now × Left times amounts (at + length p.0.now) t
    next_block p e =
        let k = rw e at h in
        let x = next times at (zip_first s) (zip_first t) p.0 l.times_left k.0 in
        let y = next amounts at (zip_second s) (zip_second t) p.1 l.amounts_left k.1 in
        let alike : length p.1.now ≡ length p.0.now =
        omega (arith, k.0.1.1, k.1.1.1, l.times_left.by_64, l.amounts_left.by_64, ap length l.times_left.left, ap length l.amounts_left.left, length-drop at times, length-drop at amounts) in (
          record { time_at = x.at_each; amount_at = λ i h. y.at_each i (omega (arith, alike)); alike = alike },
          record { times_left = x.after; amounts_left = rw alike at y.after },
        )

    pub no_block : r ≡ None → at ≡ length times
    no_block e = by (rw e at h)
      where
        by : ((u : Chunks Float) × chunks_steps (zip_first s) None u) ⊎ ((u : Chunks Float) × chunks_steps (zip_second s) None u) → at ≡ length times
        by (inl k) = all_passed times at (zip_first s) k.0 l.times_left k.1
        by (inr k) = all_passed amounts at (zip_second s) k.0 l.amounts_left k.1 ∙ sym same
