-- Parts of the workspace that are lent and come back, and the field of a round from its steps. Assumes nothing.
use mathlib.Core.Path.{◌≡◌, refl, sym, ap, ◌∙◌, subst}
use mathlib.Core.Bool.{Bool, true, cond}
use mathlib.Core.List.{List}
use Prim.Native.Nat.{ℕ, ◌+◌, ◌-◌, ◌*◌, ◌≤◌, ◌<◌}
use native.Mathlib.Omega.{arith}
use native.Mathlib.Nat.{mul-le-mul_right}
use lib.ListN.{length, get_or, set, take, drop, replicate, length-set}
use lib.Seq.{ext_get_or, get_or-set_same, get_or-set_other}
use lib.Dec.{eqb, ltb}
use lib.Ieee.{Float, nan}
use borrow.Author.Tests.{eqb-true, eqb-false, ltb-true, ltb-false}
use borrow.Rule.Slice.PartMut.{put_mid}
use Rattle.loops.proofs.LoopLaws.{loop_both}
use Rattle.loops.specs.Loop.{loop}
use Rattle.loops.proofs.Cases.{by_cases}
use Rattle.distance.specs.Nearest.{listed}
use Rattle.distance.proofs.NearestLaws.{listed-long, listed_at}
use Rattle.raster.specs.Grid.{Sides}
use Rattle.raster.specs.declared.grid.Grid.{Grid}
use Rattle.setup.specs.Layout.{put_run}
use Rattle.setup.proofs.PartLaws.{part_long, back_is}

-- ---- a loop that writes each place

record Written {A : Type 0} (d : A) (g : ℕ → A) (L k : ℕ) (l : List A) : Type 0 where
  long : length l ≡ L
  at : (i : ℕ) → i < k → get_or l i d ≡ g i

module _ {A : Type 0} (d : A) (g : ℕ → A) where
  abbrev pub write_at : ℕ → List A → List A
  write_at k l = set l k (g k)

  write_more : (L k : ℕ) (l : List A) → k < L → Written d g L k l → Written d g L (k + 1) (set l k (g k))
  write_more L k l h w = record {
    long = length-set l k (g k) ∙ w.long;
    at = λ i b. by_cases (eqb i k)
        (λ e. let z = eqb-true i k e in ap (λ (j : ℕ). get_or (set l k (g k)) j d) z ∙ get_or-set_same l k (g k) d (omega (arith, w.long)) ∙ ap g (sym z))
        (λ e. let z = eqb-false i k e in get_or-set_other l k i (g k) d z ∙ w.at i (below i k b z));
  }
    where
      below : (i k : ℕ) → i < k + 1 → (i ≡ k → ⊥) → i < k
      below i k b z = by_cases (ltb i k) (ltb-true i k) (λ t. absurd (z (let q : i ≡ k = omega (arith, ltb-false i k t) in q)))

  written : (k : ℕ) (l : List A) → k ≤ length l → Written d g (length l) k (loop write_at 0 k l)
  written k l h =
      loop_both write_at write_at (λ i u v. Written d g (length l) i u) 0 k (omega arith) (λ i u v a b w. write_more (length l) i u (omega arith) w) l l
      (record { long = refl; at = λ i b. absurd (let z : ⊥ = omega arith in z) })

  pub written_long : (k : ℕ) (l : List A) → k ≤ length l → length (loop write_at 0 k l) ≡ length l
  written_long k l h = (written k l h).long

  pub written_all : (l : List A) → loop write_at 0 (length l) l ≡ listed (length l) g
  written_all l =
      let w = written (length l) l (omega arith) in
      ext_get_or d (loop write_at 0 (length l) l) (listed (length l) g) (w.long ∙ sym (listed-long g d (length l)))
      (λ i b. let h : i < length l = subst (λ (n : ℕ). i < n) w.long b in w.at i h ∙ sym (listed_at g d (length l) i h))

-- ---- the steps of a round

module _ (g : Grid) (h : Sides g) where
  pub wide-cells : g.nx ≤ g.ny * g.nx
  wide-cells = omega (arith, mul-le-mul_right g.nx h.high)

  module _ (n : ℕ) (N : n ≡ g.ny * g.nx) where
    pub begun_all : (all : Bool) (f t : List Float) → all ≡ true → g.ny * g.nx ≤ length f → t ≡ replicate (length (take (n - 0) (drop 0 f))) nan
        → put_mid 0 (n - 0) f t ≡ cond all (put_run 0 (g.ny * g.nx) (replicate (g.ny * g.nx) nan) f) f
    begun_all all f t e l T =
        back_is 0 n 0 n f t (omega arith) (omega arith) (omega arith)
        ∙ ap (λ (q : List Float). put_run 0 n q f) (T ∙ ap (λ (k : ℕ). replicate k nan) (part_long 0 n 0 n f (omega arith) (omega arith) (omega arith)))
        ∙ ap (λ (k : ℕ). put_run 0 k (replicate k nan) f) N
        ∙ rw e refl

    pub dirty-is : (a : ℕ) (b t : List ℕ) → a ≡ 4 * n → 5 * (g.ny * g.nx) ≤ length b → t ≡ replicate (length (take (a + n - a) (drop a b))) 0 → put_mid a (a + n - a) b t ≡ put_run 4 (g.ny * g.nx) (replicate (g.ny * g.nx) 0) b
    dirty-is a b t A l T =
        back_is 4 n a (a + n) b t A refl (omega arith)
        ∙ ap (λ (q : List ℕ). put_run 4 n q b) (T ∙ ap (λ (k : ℕ). replicate k 0) (part_long 4 n a (a + n) b A refl (omega arith)))
        ∙ ap (λ (k : ℕ). put_run 4 k (replicate k 0) b) N
