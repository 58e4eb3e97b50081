-- Cells that are added one by one are all added, and counts to which every sample's cells are added are the hits. Assumes nothing.
use mathlib.Core.Path.{◌≡◌, refl, sym, ap, ◌∙◌, subst}
use mathlib.Core.List.{List}
use Prim.Native.Nat.{ℕ, ◌+◌, ◌-◌, ◌*◌, ◌≤◌, ◌<◌}
use native.Mathlib.Omega.{arith}
use lib.ListN.{length, get_or, set, replicate, length-set, length-replicate, get_or-replicate}
use lib.Seq.{get_or-set_same, get_or-set_other}
use lib.Dec.{eqb, ltb}
use lib.Ieee.{Float}
use borrow.Author.Tests.{ltb-true, ltb-false, eqb-true, eqb-false}
use Rattle.loops.specs.Loop.{loop}
use Rattle.loops.proofs.Cases.{by_cases}
use Rattle.loops.proofs.LoopLaws.{loop-none, loop_more}
use Rattle.raster.specs.Grid.{center_of, stock_at}
use Rattle.raster.specs.Contact.{direction_at, rim_at, hit_at, hits_of}
use Rattle.raster.specs.declared.grid.Grid.{Grid}
use Rattle.raster.proofs.ContactLaws.{hit_yes, hit_no, hits-most}
use Rattle.rims.specs.Offsets.{reach_of, Roomy, entry_at, Rims}
use Rattle.rims.specs.Sums.{one_more, Added, Countable, Summed, HitsAlong}
use Rattle.rims.proofs.OffsetLaws.{told-inside, told-stock}

-- ---- the cells of one sample

module _ (m : List ℕ) (a : ℕ) (v : List ℕ) where
  pub added_none : Added m a 0 v v
  added_none = record { long = refl; at = λ c h. absurd (let z : ⊥ = omega arith in z); rest = λ c h. refl }

  module _ (k : ℕ) (t : List ℕ) (x : ℕ) (A : Added m a k v t) (h : k < length v) (yes : get_or m (a + k) 0 ≡ 1 → x ≡ get_or t k 0 + 1) (no : (get_or m (a + k) 0 ≡ 1 → ⊥) → x ≡ get_or t k 0) where
    now_more : x ≡ one_more m a v k
    now_more = by_cases (eqb (get_or m (a + k) 0) 1)
        (λ b. yes (eqb-true _ _ b) ∙ ap (λ (y : ℕ). y + 1) (A.rest k (omega arith)) ∙ rw b)
        (λ b. no (eqb-false _ _ b) ∙ A.rest k (omega arith) ∙ rw b)

    pub added_more : Added m a (k + 1) v (set t k x)
    added_more = record {
      long = length-set t k x ∙ A.long;
      at = λ c d. by_cases (ltb c k)
          (λ b. get_or-set_other t k c x 0 (omega (arith, ltb-true c k b)) ∙ A.at c (ltb-true c k b))
          (λ b. let z : k ≡ c = omega (arith, ltb-false c k b) in subst (λ (q : ℕ). get_or (set t k x) q 0 ≡ one_more m a v q) z (get_or-set_same t k x 0 (omega (arith, A.long)) ∙ now_more));
      rest = λ c d. get_or-set_other t k c x 0 (omega arith) ∙ A.rest c (omega arith);
    }

  pub added_end : (k : ℕ) (t : List ℕ) → k ≡ 32 → Added m a k v t → Added m a 32 v t
  added_end k t e = subst (λ (q : ℕ). Added m a q v t) e

-- ---- sample by sample

pub zeros-long : (v : List ℕ) → v ≡ replicate 32 0 → length v ≡ 32
zeros-long v e = ap length e ∙ length-replicate {A = ℕ} 32 0

module _ (g : Grid) (m : List ℕ) (r : Float) (n i j : ℕ) where
  pub summed_none : (v : List ℕ) → v ≡ replicate 32 0 → Summed g m r n i j 0 v
  summed_none v e = record { long = zeros-long v e; at = λ c h. ap (λ (t : List ℕ). get_or t c 0) e ∙ get_or-replicate {A = ℕ} 32 c 0 0 h ∙ loop-none _ 0 0 }

  pub summed_few : (k : ℕ) (v : List ℕ) → k ≤ 2048 → Summed g m r n i j k v → Countable v
  summed_few k v h S = record { long = S.long; few = λ c d. omega (arith, S.at c d, hits-most g m (center_of g (i + c) j) r n k) }

  pub summed_end : (k : ℕ) (v : List ℕ) → k ≡ n → Summed g m r n i j k v → HitsAlong g m r n i j v
  unfolding hits_of
  summed_end k v e S = record { at = λ c h. S.at c h ∙ ap (λ (q : ℕ). loop (hit_at g m (center_of g (i + c) j) r n) 0 q 0) e }

module _ (g : Grid) (s i j : ℕ) (F : Roomy g s i j) (L : Roomy g s (i + 31) j) where
  -- between two cells with room each has room
  room-along : (c : ℕ) → c < 32 → Roomy g s (i + c) j
  room-along c h = record { left = omega (arith, F.left); right = omega (arith, L.right); below = F.below; above = F.above }

  module _ (m : List ℕ) (r : Float) (n : ℕ) (w : List Float) (T : Rims g r n w) (S : s ≡ reach_of g r) (k e a : ℕ) (K : k < n) (E : e ≡ entry_at w k) (some : 0 < e) (A : a ≡ (j - s) * g.nx + (i - s) + (e - 1)) where
    pub cells-inside : a + 32 ≤ g.ny * g.nx
    cells-inside = omega (arith, F.left, told-inside g m r n w T s (i + 31) j S (room-along 31 (omega arith)) k (e - 1) K (omega arith))

    -- the cell that is added to count c is the sample's around its centre
    cell-stock : (c : ℕ) → c < 32 → eqb (get_or m (a + c) 0) 1 ≡ stock_at g m (rim_at (center_of g (i + c) j) r (direction_at n k))
    cell-stock c h =
        ap (λ (q : ℕ). eqb (get_or m q 0) 1) (let z : a + c ≡ (j - s) * g.nx + (i + c - s) + (e - 1) = omega (arith, F.left) in z)
        ∙ told-stock g m r n w T s (i + c) j S (room-along c h) k (e - 1) K (omega arith)

    pub summed_more : (v v' : List ℕ) → Summed g m r n i j k v → Added m a 32 v v' → Summed g m r n i j (k + 1) v'
    summed_more v v' B D = record {
      long = D.long ∙ B.long;
      at = λ c h.
          let f = hit_at g m (center_of g (i + c) j) r n in
          D.at c h
          ∙ by_cases (eqb (get_or m (a + c) 0) 1)
          (λ t. (let z : one_more m a v c ≡ get_or v c 0 + 1 = rw t in z) ∙ hit_yes g m (center_of g (i + c) j) r n k (get_or v c 0) (sym (cell-stock c h) ∙ t))
          (λ t. (let z : one_more m a v c ≡ get_or v c 0 = rw t in z) ∙ hit_no g m (center_of g (i + c) j) r n k (get_or v c 0) (sym (cell-stock c h) ∙ t))
          ∙ ap (f k) (B.at c h)
          ∙ loop_more f 0 k 0 (omega arith);
    }
