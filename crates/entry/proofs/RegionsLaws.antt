-- Sums of lengths; each region begins where the one before ends. Assumes nothing.
use mathlib.Core.Path.{◌≡◌, refl, sym, ap, ◌∙◌, subst}
use mathlib.Core.List.{List}
use Prim.Native.Nat.{ℕ, zero, suc, ◌+◌, ◌*◌, ◌≤◌, ◌<◌}
use native.Mathlib.Omega.{arith}
use native.Mathlib.Nat.{suc-mul}
use lib.ListN.{length, get_or}
use lib.Ieee.{Float}
use Rattle.loops.specs.Loop.{loop}
use Rattle.loops.proofs.LoopLaws.{loop-none, loop_more, loop_split, loop_keeps}
use Rattle.geom.specs.Region.{start_of, size_of, Held}
use Rattle.geom.specs.declared.region.Region.{Region}
use Rattle.geom.proofs.RegionLaws.{region, start_first, start-next}
use Rattle.entry.specs.Regions.{sum_to, region_at, pocket_of, AllHeld}

pub sum-none : (l : List ℕ) → 0 ≡ sum_to l 0
unfolding sum_to
sum-none l = loop-none (λ i s. s + get_or l i 0) 0 0

pub sum_more : (l : List ℕ) (k : ℕ) → sum_to l k + get_or l k 0 ≡ sum_to l (k + 1)
unfolding sum_to
sum_more l k = loop_more (λ i s. s + get_or l i 0) 0 k 0 (omega arith)

-- numbers that are at most e add up to at most e for each
pub sum-most : (l : List ℕ) (e n : ℕ) → ((k : ℕ) → k < n → get_or l k 0 ≤ e) → sum_to l n ≤ n * e
sum-most l e zero h = omega (arith, sum-none l)
sum-most l e (suc n) h =
    let z : n + 1 ≡ suc n = omega arith in
    subst (λ (m : ℕ). sum_to l m ≤ suc n * e) z (omega (arith, sum_more l n, sum-most l e n (λ k b. h k (omega arith)), h n (omega arith), suc-mul n e))

-- the loops of a region that starts with loop f of all
start-sum : (lens : List ℕ) (f n l : ℕ) → start_of lens (region (sum_to lens f) f n) l ≡ sum_to lens (f + l)
start-sum lens f n zero = sym (start_first lens (region (sum_to lens f) f n)) ∙ ap (sum_to lens) (let z : f ≡ f + zero = omega arith in z)
start-sum lens f n (suc l) =
    let g = region (sum_to lens f) f n in
    ap (start_of lens g) (let z : suc l ≡ l + 1 = omega arith in z)
    ∙ sym (start-next lens g l)
    ∙ ap (λ (z : ℕ). z + size_of lens g l) (start-sum lens f n l)
    ∙ sum_more lens (f + l)
    ∙ ap (sum_to lens) (let z : f + l + 1 ≡ f + suc l = omega arith in z)

module _ (lens regions : List ℕ) where
  pub region-is : (k at first loops : ℕ) → at ≡ (region_at lens regions k).at → first ≡ (region_at lens regions k).first → loops ≡ get_or regions k 0 → region at first loops ≡ region_at lens regions k
  unfolding region_at
  region-is k at first loops A F L = λ t. record { at = A t; first = F t; loops = L t }

  pub pocket_is : region 0 0 (get_or regions 0 0) ≡ pocket_of lens regions
  unfolding region_at
  pocket_is = region-is 0 0 0 (get_or regions 0 0) (sum-none lens ∙ ap (sum_to lens) (sum-none regions)) (sum-none regions) refl

  pub next-at : (k : ℕ) (r : Region) → r ≡ region_at lens regions k → start_of lens r r.loops ≡ (region_at lens regions (k + 1)).at
  unfolding region_at
  next-at k r e =
      ap (λ (q : Region). start_of lens q q.loops) e
      ∙ start-sum lens (sum_to regions k) (get_or regions k 0) (get_or regions k 0)
      ∙ ap (sum_to lens) (sum_more regions k)

  pub next-first : (k first loops : ℕ) → first ≡ (region_at lens regions k).first → loops ≡ get_or regions k 0 → first + loops ≡ (region_at lens regions (k + 1)).first
  unfolding region_at
  next-first k first loops F L = ap (λ (z : ℕ). z + loops) F ∙ ap (λ (z : ℕ). sum_to regions k + z) L ∙ sum_more regions k

  pub second_first : (r : Region) → r ≡ region_at lens regions 0 → r.loops ≡ (region_at lens regions 1).first
  unfolding region_at
  second_first r e = ap (λ (q : Region). q.loops) e ∙ (let z : get_or regions 0 0 ≡ sum_to regions 0 + get_or regions 0 0 = omega (arith, sum-none regions) in z) ∙ sum_more regions 0

-- what is asked of a region, of one that is equal to it
module _ (vs : List Float) (lens regions : List ℕ) (h : AllHeld vs lens regions) (k : ℕ) (b : k < length regions) (r : Region) (e : r ≡ region_at lens regions k) where
  pub held-is : Held vs lens r
  held-is = subst (Held vs lens) (sym e) (h.held k b)

-- ---- regions whose loops and vertices add up to what is lent are held

pub sum_le : (l : List ℕ) (k n : ℕ) → k ≤ n → sum_to l k ≤ sum_to l n
unfolding sum_to
sum_le l k n h =
    let f : ℕ → ℕ → ℕ = λ i s. s + get_or l i 0 in
    subst (λ (m : ℕ). loop f 0 k 0 ≤ m) (sym (loop_split f 0 k n 0 (omega arith) h)) (loop_keeps f k (λ (m : ℕ). loop f 0 k 0 ≤ m) n (λ i s a b p. omega arith) (loop f 0 k 0) (omega arith))

module _ (vs : List Float) (lens regions : List ℕ) (loops : sum_to regions (length regions) ≤ length lens) where
  -- where region k ends
  region-end : (k : ℕ) → k < length regions → let r = region_at lens regions k in (r.first + r.loops ≤ length lens) × (start_of lens r r.loops ≤ sum_to lens (length lens))
  unfolding region_at
  region-end k b =
      let next = sum_more regions k in
      let up = sum_le regions (k + 1) (length regions) (omega arith) in
      let end : start_of lens (region_at lens regions k) (get_or regions k 0) ≡ sum_to lens (sum_to regions (k + 1)) = next-at lens regions k (region_at lens regions k) refl in
      let far = sum_le lens (sum_to regions (k + 1)) (length lens) (omega arith) in
      (omega arith, omega arith)

  pub all_held : 0 < length regions → ((k : ℕ) → k < length regions → 0 < get_or regions k 0) → 2 * sum_to lens (length lens) ≤ length vs → AllHeld vs lens regions
  unfolding region_at
  all_held some each vertices = record {
    some = some;
    held = λ k b. let e = region-end k b in record { some = each k b; sizes = e.0; vertices = omega (arith, e.1) };
  }
