-- The loop over the segments, from each of which a chain may start. Assumes nothing.
use Rattle.std.proofs.Common.{◌≡◌, ℕ, suc, ◌+◌, ◌*◌, Bool, true, false, eqb, List, get_or, sym, refl, ap, ◌∙◌, subst, arith, eqb-true}
use lib.Ieee.{Float}
use borrow.Author.Tests.{not-true}
use Rattle.loops.proofs.EachLaws.{over_more}
use Rattle.loops.specs.Each.{over}
use Rattle.geom.specs.declared.vec2.Vec2.{Vec2}
use Rattle.raster.specs.declared.grid.Grid.{Grid}
use Rattle.contours.specs.March.{segment_at, segments_of}
use Rattle.contours.specs.Chain.{Chains, chains, chained, starts_at, start_at, chain_all}
use Rattle.contours.specs.Traced.{pieces_in, segments_at, Tracing, Traced}
use Rattle.contours.specs.Places.{segments_in, next_in}
use Rattle.pieces.specs.declared.row.Count.{Count}
use Rattle.contours.specs.declared.square.Segment.{Segment}

-- where a chain starts the edge is not used
pub unused-start : (first : Bool) (mark : ℕ) → starts_at first mark ≡ true → eqb mark 1 ≡ false
unused-start true mark t = rw (eqb-true mark 0 t) refl
unused-start false mark t = not-true (eqb mark 1) t

module _ (at : ℕ → Vec2) (next : List ℕ) (e : ℕ) (first : Bool) (s : ℕ) (c : Chains) where
  started : starts_at first (get_or c.marks s 0) ≡ true → chained at next e s c ≡ start_at at next e first s c
  unfolding start_at
  started t = rw t refl

  passed : starts_at first (get_or c.marks s 0) ≡ false → c ≡ start_at at next e first s c
  unfolding start_at
  passed t = rw t refl

module _ (at : ℕ → Vec2) (g : Grid) (n : ℕ) (first : Bool) (s : ℕ) (words marks : List ℕ) (pts : List Float) (c : Count) where
  abbrev now : Chains
  now = chains marks (pieces_in n c words pts)

  -- a chain starts
  pub traced_start : starts_at first (get_or marks s 0) ≡ true → (words' marks' : List ℕ) (pts' : List Float) (c' : Count)
      → Traced g n (chained at (next_in n words) (2 * n) s now) words pts words' marks' pts' c' → Traced g n (start_at at (next_in n words) (2 * n) first s now) words pts words' marks' pts' c'
  traced_start t words' marks' pts' c' h = subst (λ (a : Chains). Traced g n a words pts words' marks' pts' c') (started at (next_in n words) (2 * n) first s now t) h

  -- none does
  pub traced_pass : starts_at first (get_or marks s 0) ≡ false → Tracing g n words marks pts c → Traced g n (start_at at (next_in n words) (2 * n) first s now) words pts words marks pts c
  traced_pass t h = record {
    is = passed at (next_in n words) (2 * n) first s now t;
    tracing = h;
    segments_kept = refl;
    next-kept = refl;
    words_long = refl;
    pts-long = refl;
  }

module _ (at : ℕ → Vec2) (g : Grid) (n : ℕ) (first : Bool) (w₀ : List ℕ) (p₀ : List Float) (c₀ : Chains) where
  -- the chains after k segments
  abbrev pub toured : ℕ → Chains
  toured k = chain_all at (next_in n w₀) (2 * n) first (segments_at n k w₀) c₀

  pub tour_none : (m : List ℕ) (c : Count) → c₀ ≡ chains m (pieces_in n c w₀ p₀) → Tracing g n w₀ m p₀ c → Traced g n (toured 0) w₀ p₀ w₀ m p₀ c
  unfolding chain_all over segments_of
  tour_none m c d h = record {
    is = sym d;
    tracing = h;
    segments_kept = refl;
    next-kept = refl;
    words_long = refl;
    pts-long = refl;
  }

  pub tour_more : (k : ℕ) (w m : List ℕ) (p : List Float) (c : Count) → Traced g n (toured k) w₀ p₀ w m p c → (s : ℕ) → s ≡ (segment_at (segments_in n w₀) k).from.0
      → (w' m' : List ℕ) (p' : List Float) (c' : Count) → Traced g n (start_at at (next_in n w) (2 * n) first s (chains m (pieces_in n c w p))) w p w' m' p' c'
      → Traced g n (toured (k + 1)) w₀ p₀ w' m' p' c'
  unfolding chain_all segments_of
  tour_more k w m p c t s d w' m' p' c' h = record {
    is = h.is
        ∙ ap (λ (l : List ℕ). start_at at l (2 * n) first s (chains m (pieces_in n c w p))) t.next-kept
        ∙ ap (start_at at (next_in n w₀) (2 * n) first s) t.is
        ∙ ap (λ (i : ℕ). start_at at (next_in n w₀) (2 * n) first i (toured k)) d
        ∙ over_more (λ (q : Segment). start_at at (next_in n w₀) (2 * n) first q.from.0) (segments_at n k w₀) (segment_at (segments_in n w₀) k) c₀
        ∙ ap toured (let z : suc k ≡ k + 1 = omega arith in z);
    tracing = h.tracing;
    segments_kept = h.segments_kept ∙ t.segments_kept;
    next-kept = h.next-kept ∙ t.next-kept;
    words_long = h.words_long ∙ t.words_long;
    pts-long = h.pts-long ∙ t.pts-long;
  }
