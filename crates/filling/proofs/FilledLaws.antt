-- Which cells a fill sets: exactly those whose centres are in the region; every other cell is as it was. Assumes nothing.
use mathlib.Core.Path.{◌≡◌, refl, sym, ap, ◌∙◌}
use mathlib.Core.Bool.{Bool, false, cond, ◌&&◌}
use mathlib.Core.List.{List}
use Prim.Native.Nat.{ℕ, ◌+◌, ◌*◌, ◌≤◌, ◌<◌}
use native.Mathlib.Omega.{arith}
use lib.ListN.{length, get_or}
use lib.Seq.{get_or-set_same, get_or-set_other}
use lib.Dec.{eqb}
use lib.Ieee.{Float}
use borrow.Author.Tests.{eqb-true, eqb-false, eq-eqb, ne_eqb}
use Rattle.loops.specs.Loop.{any}
use Rattle.loops.proofs.Cases.{by_cases}
use Rattle.loops.proofs.CellLaws.{row_below, same_row}
use Rattle.geom.specs.Region.{contains_of}
use Rattle.geom.specs.declared.region.Region.{Region}
use Rattle.raster.specs.Grid.{Over, center_of}
use Rattle.raster.specs.declared.grid.Grid.{Grid}
use Rattle.raster.proofs.PaintLaws.{any_at, any_none, pick, Changes, changes_loop}
use Rattle.filling.specs.Fill.{fill_cell, fill_row, fill_region}
use Rattle.filling.proofs.ColumnLaws.{and_no}
use Rattle.filling.proofs.FillLaws.{cell-long, row-long}

-- a cell that is set
abbrev on : ℕ → ℕ
on x = 1

module _ (g : Grid) (vs : List Float) (lens : List ℕ) (region : Region) where
  -- the centre of cell (i, j) is in the region
  abbrev pub inside : ℕ → ℕ → Bool
  inside i j = contains_of vs lens region (center_of g i j)

  -- k is the number of cell (i, j), and its centre is in the region
  abbrev named : ℕ → ℕ → ℕ → Bool
  named j i k = eqb k (j * g.nx + i) && inside i j

  abbrev in_row : ℕ → ℕ → Bool
  in_row j k = any (λ i. named j i k) 0 g.nx

  module _ (n : ℕ) where
    -- maps of n cells
    abbrev Long : List ℕ → Type 0
    Long m = length m ≡ n

    sets_cell : (j i : ℕ) (s : List ℕ) → Long s → Changes on n (named j i) s (fill_cell g vs lens region j i s)
    unfolding Changes fill_cell
    sets_cell j i s q k h =
        by_cases (inside i j)
        (λ t. rw t (by_cases (eqb k (j * g.nx + i))
        (λ d. rw (d, eqb-true k (j * g.nx + i) d) (get_or-set_same s (j * g.nx + i) 1 0 (let z : j * g.nx + i < length s = omega (arith, eqb-true k (j * g.nx + i) d) in z)))
        (λ d. rw d (get_or-set_other s (j * g.nx + i) k 1 0 (eqb-false k (j * g.nx + i) d)))))
        (λ t. rw (t, and_no (eqb k (j * g.nx + i)) false refl))

    sets_row : (j : ℕ) (s : List ℕ) → Long s → Changes on n (in_row j) s (fill_row g vs lens region j s)
    unfolding fill_row
    sets_row j s q = changes_loop on (λ x. refl) n Long (fill_cell g vs lens region j) (λ i m h. cell-long g vs lens region j i m ∙ h) (named j) (sets_cell j) 0 g.nx s q

  module _ (m : List ℕ) where
    sets_region : (k : ℕ) → k < length m → get_or (fill_region g vs lens region m) k 0 ≡ pick on (any (λ j. in_row j k) 0 g.ny) (get_or m k 0)
    unfolding fill_region Changes
    sets_region k h =
        changes_loop on (λ x. refl) (length m) (Long (length m)) (fill_row g vs lens region) (λ j s q. row-long g vs lens region j s ∙ q) in_row (sets_row (length m)) 0 g.ny m refl k h

    module _ (o : Over g (length m)) where
      -- cell (i, j) is the only one of its number
      number_is : (i j : ℕ) → i < g.nx → j < g.ny → any (λ q. in_row q (j * g.nx + i)) 0 g.ny ≡ inside i j
      number_is i j a b =
          by_cases (inside i j)
          (λ t.
          any_at (λ q. in_row q (j * g.nx + i)) 0 g.ny j (omega arith) b
          (any_at (λ p. named j p (j * g.nx + i)) 0 g.nx i (omega arith) a (rw (eq-eqb (j * g.nx + i) (j * g.nx + i) refl) t))
          ∙ sym t)
          (λ t.
          any_none (λ q. in_row q (j * g.nx + i)) 0 g.ny
          (λ q c d. any_none (λ p. named q p (j * g.nx + i)) 0 g.nx
          (λ p e f. by_cases (eqb (j * g.nx + i) (q * g.nx + p))
          (λ u.
          let w = eqb-true (j * g.nx + i) (q * g.nx + p) u in
          let r : j ≡ q = same_row g.nx j q i p a f w in
          let l : j * g.nx ≡ q * g.nx = ap (λ (x : ℕ). x * g.nx) r in
          let c : i ≡ p = omega arith in
          and_no (eqb (j * g.nx + i) (q * g.nx + p)) (inside p q) (sym (λ x. inside (c x) (r x)) ∙ t))
          (λ u. rw u)))
          ∙ sym t)

      -- set exactly where its centre is in the region
      pub filled_at : (i j : ℕ) → i < g.nx → j < g.ny → get_or (fill_region g vs lens region m) (j * g.nx + i) 0 ≡ cond (inside i j) 1 (get_or m (j * g.nx + i) 0)
      filled_at i j a b =
          sets_region (j * g.nx + i) (omega (arith, row_below j g.ny g.nx (length m) b o.long))
          ∙ ap (λ (t : Bool). pick on t (get_or m (j * g.nx + i) 0)) (number_is i j a b)

      -- what lies beyond the grid is as it was
      pub filled-beyond : (k : ℕ) → g.ny * g.nx ≤ k → k < length m → get_or (fill_region g vs lens region m) k 0 ≡ get_or m k 0
      filled-beyond k l h =
          sets_region k h
          ∙ ap (λ (t : Bool). pick on t (get_or m k 0))
          (any_none (λ j. in_row j k) 0 g.ny
          (λ q a b. any_none (λ p. named q p k) 0 g.nx
          (λ p c d. rw (ne_eqb k (q * g.nx + p) (λ e. let z : ⊥ = omega (arith, row_below q g.ny g.nx k b l) in z)))))
