-- Question 13: what a yes says of the lent regions. Assumes nothing.
use mathlib.Core.Path.{◌≡◌, subst}
use mathlib.Core.Bool.{Bool, true, false, ◌&&◌}
use mathlib.Core.List.{List}
use Prim.Native.Nat.{ℕ, ◌+◌, ◌*◌, ◌≤◌, ◌<◌}
use native.Mathlib.Omega.{arith}
use native.Mathlib.Nat.{mul-le-mul_right}
use lib.ListN.{length, get_or}
use lib.Dec.{eqb, ltb, leb}
use lib.Ieee.{Float}
use borrow.Author.Tests.{ltb-false, leb-true, eqb-true, le-leb, lt-leb, not-true}
use Rattle.loops.specs.Loop.{any}
use Rattle.loops.proofs.LoopLaws.{any-each}
use Rattle.loops.proofs.Cases.{both, neither}
use Rattle.geom.specs.Region.{size_of}
use Rattle.entry.specs.Regions.{sum_to, sum_of, pocket_of, AllHeld}
use Rattle.entry.specs.Questions.{outside, all_from, all_placed, most_regions, counts_fit, vertices_fit, shapes_fit}
use Rattle.entry.proofs.RegionsLaws.{sum-most, all_held}

pub all-each : (a e : ℕ) (l : List ℕ) → all_from a e l ≡ true → (k : ℕ) → k < length l → (a ≤ get_or l k 0) × (get_or l k 0 ≤ e)
unfolding all_from
all-each a e l h k b =
    let z = any-each (outside a e l) 0 (length l) (not-true (any (outside a e l) 0 (length l)) h) k (omega arith) b in
    let n = neither (ltb (get_or l k 0) a) (ltb e (get_or l k 0)) z in
    (ltb-false (get_or l k 0) a n.0, ltb-false e (get_or l k 0) n.1)

at_most : (b : Bool) (n : ℕ) → n ≤ most_regions b → n ≤ 17
unfolding most_regions
at_most true n h = omega arith
at_most false n h = h

-- ---- counts

-- what the steps of the code come to
module _ (whole : Bool) (lens regions : List ℕ) (m : ℕ) (M : m ≡ most_regions whole) where
  abbrev counted : Bool
  counted = leb 1 (length regions) && leb (length regions) m

  pub counts_few : counted ≡ true → length regions ≤ 17
  counts_few h = at_most whole (length regions) (subst (λ (k : ℕ). length regions ≤ k) M (leb-true (length regions) m (both (leb 1 (length regions)) (leb (length regions) m) h).1))

  pub counts_none : counted ≡ false → false ≡ counts_fit whole lens regions
  unfolding counts_fit
  counts_none h = rw (← M, h)

  module _ (h : counted ≡ true) (b : Bool) (B : b ≡ all_from 1 65 regions) where
    pub counts_odd : b ≡ false → false ≡ counts_fit whole lens regions
    unfolding counts_fit
    counts_odd e = rw (← M, h, ← B, e)

    pub counts_sum : b ≡ true → (n : ℕ) → n ≡ sum_of regions → eqb n (length lens) ≡ counts_fit whole lens regions
    unfolding counts_fit
    counts_sum e n N = rw (← M, h, ← B, e, ← N)

module _ (whole : Bool) (lens regions : List ℕ) (h : counts_fit whole lens regions ≡ true) where
  -- the four tests of it
  abbrev number : Bool
  number = leb 1 (length regions) && leb (length regions) (most_regions whole)

  abbrev loops : Bool
  loops = all_from 1 65 regions && eqb (sum_of regions) (length lens)

  parts : (number ≡ true) × (loops ≡ true)
  unfolding counts_fit
  parts = both number loops h

  some-regions : 1 ≤ length regions
  some-regions = leb-true 1 (length regions) (both (leb 1 (length regions)) (leb (length regions) (most_regions whole)) parts.0).0

  few-regions : length regions ≤ 17
  few-regions = at_most whole (length regions) (leb-true (length regions) (most_regions whole) (both (leb 1 (length regions)) (leb (length regions) (most_regions whole)) parts.0).1)

  each-region : (k : ℕ) → k < length regions → (1 ≤ get_or regions k 0) × (get_or regions k 0 ≤ 65)
  each-region = all-each 1 65 regions (both (all_from 1 65 regions) (eqb (sum_of regions) (length lens)) parts.1).0

  all_loops : sum_to regions (length regions) ≡ length lens
  all_loops = eqb-true (sum_of regions) (length lens) (both (all_from 1 65 regions) (eqb (sum_of regions) (length lens)) parts.1).1

  -- at most 17 regions of at most 65 loops
  pub few_loops : length lens ≤ 4096
  few_loops =
      let most = sum-most regions 65 (length regions) (λ k b. (each-region k b).1) in
      let up : length regions * 65 ≤ 17 * 65 = mul-le-mul_right 65 few-regions in
      omega (arith, all_loops, most, up)

-- ---- vertices

module _ (vs : List Float) (lens : List ℕ) (b : Bool) (B : b ≡ all_from 3 4096 lens) where
  pub vertices_odd : b ≡ false → false ≡ vertices_fit vs lens
  unfolding vertices_fit
  vertices_odd e = rw (← B, e)

  module _ (e : b ≡ true) (n : ℕ) (N : n ≡ sum_of lens) where
    pub vertices_many : 4096 < n → false ≡ vertices_fit vs lens
    unfolding vertices_fit
    vertices_many h = rw (← B, e, ← N, lt-leb n 4096 h)

    pub vertices-sum : n ≤ 4096 → eqb (2 * n) (length vs) ≡ vertices_fit vs lens
    unfolding vertices_fit
    vertices-sum h = rw (← B, e, ← N, le-leb n 4096 h)

-- ---- all of it

module _ (whole : Bool) (vs : List Float) (lens regions : List ℕ) where
  pub shapes_odd : counts_fit whole lens regions ≡ false → false ≡ shapes_fit whole vs lens regions
  unfolding shapes_fit
  shapes_odd h = rw h

  module _ (h : counts_fit whole lens regions ≡ true) where
    pub shapes_not : vertices_fit vs lens ≡ false → false ≡ shapes_fit whole vs lens regions
    unfolding shapes_fit
    shapes_not e = rw (h, e)

    pub shapes_placed : vertices_fit vs lens ≡ true → (b : Bool) → b ≡ all_placed vs → b ≡ shapes_fit whole vs lens regions
    unfolding shapes_fit
    shapes_placed e b B = rw (h, e) B

-- a yes
module _ (whole : Bool) (vs : List Float) (lens regions : List ℕ) (h : shapes_fit whole vs lens regions ≡ true) where
  shapes : (counts_fit whole lens regions ≡ true) × (vertices_fit vs lens && all_placed vs ≡ true)
  unfolding shapes_fit
  shapes = both (counts_fit whole lens regions) (vertices_fit vs lens && all_placed vs) h

  pub shapes_all : all_placed vs ≡ true
  shapes_all = (both (vertices_fit vs lens) (all_placed vs) shapes.1).1

  vertices : (all_from 3 4096 lens ≡ true) × (leb (sum_of lens) 4096 && eqb (2 * sum_of lens) (length vs) ≡ true)
  unfolding vertices_fit
  vertices = both (all_from 3 4096 lens) (leb (sum_of lens) 4096 && eqb (2 * sum_of lens) (length vs)) (both (vertices_fit vs lens) (all_placed vs) shapes.1).0

  pub shapes_held : AllHeld vs lens regions
  shapes_held =
      let w = both (leb (sum_of lens) 4096) (eqb (2 * sum_of lens) (length vs)) vertices.1 in
      let long : 2 * sum_to lens (length lens) ≡ length vs = eqb-true (2 * sum_of lens) (length vs) w.1 in
      let sum = all_loops whole lens regions shapes.0 in
      all_held vs lens regions (omega (arith, sum)) (omega (arith, some-regions whole lens regions shapes.0)) (λ k b. (each-region whole lens regions shapes.0 k b).0)
      (omega (arith, long))

  -- the pocket's outer loop has vertices
  pub outer-some : 0 < size_of lens (pocket_of lens regions) 0
  outer-some =
      let held = shapes_held.held 0 shapes_held.some in
      let at = (pocket_of lens regions).first in
      omega (arith, (all-each 3 4096 lens vertices.0 (at + 0) (omega (arith, held.sizes, held.some))).0)
