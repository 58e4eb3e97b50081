-- What the proofs of region.rt cite. Assumes nothing.
use mathlib.Core.Path.{◌≡◌, sym, ap, ◌∙◌, subst}
use mathlib.Core.Bool.{Bool, true, false}
use mathlib.Core.List.{List, ◌++◌}
use Prim.Native.Nat.{ℕ, ◌+◌, ◌-◌, ◌*◌}
use native.Mathlib.Omega.{arith}
use lib.ListN.{length, take, set}
use lib.Seq.{take-append_seam}
use lib.Ieee.{Float}
use Rattle.loops.specs.Loop.{loop}
use Rattle.loops.proofs.Cases.{by_test}
use Rattle.loops.proofs.LoopLaws.{loop_keeps}
use Rattle.geom.specs.Region.{contains_of}
use Rattle.geom.specs.declared.vec2.Vec2.{Vec2}
use Rattle.geom.specs.declared.region.Region.{Region}
use Rattle.raster.specs.Grid.{center_of}
use Rattle.raster.specs.declared.grid.Grid.{Grid}
use Rattle.filling.specs.Fill.{fill_cell, fill_row, fill_region}
use Rattle.filling.specs.Columns.{Centred}
use Rattle.filling.proofs.ColumnLaws.{loop-long, set_long}

module _ (g : Grid) (vs : List Float) (lens : List ℕ) (region : Region) where
  -- ---- lengths

  pub cell-long : (j i : ℕ) (m : List ℕ) → length (fill_cell g vs lens region j i m) ≡ length m
  unfolding fill_cell
  cell-long j i m = set_long (contains_of vs lens region (center_of g i j)) (j * g.nx + i) m

  pub cells-long : (j a e : ℕ) (m : List ℕ) → length (loop (fill_cell g vs lens region j) a e m) ≡ length m
  cells-long j a e m = loop-long (fill_cell g vs lens region j) (cell-long j) a e m

  pub row-long : (j : ℕ) (m : List ℕ) → length (fill_row g vs lens region j m) ≡ length m
  unfolding fill_row
  row-long j m = cells-long j 0 g.nx m

  pub rows_long : (a e : ℕ) (m : List ℕ) → length (loop (fill_row g vs lens region) a e m) ≡ length m
  rows_long a e m = loop-long (fill_row g vs lens region) row-long a e m

  pub fill_long : (m : List ℕ) → length (fill_region g vs lens region m) ≡ length m
  unfolding fill_region
  fill_long m = rows_long 0 g.ny m

  -- ---- what setting a cell keeps, a fill keeps

  pub fill_keeps : (P : List ℕ → Type 0) → ((k : ℕ) (l : List ℕ) → P l → P (set l k 1)) → (m : List ℕ) → P m → P (fill_region g vs lens region m)
  unfolding fill_region fill_row fill_cell
  fill_keeps P f m p =
      loop_keeps (fill_row g vs lens region) 0 P g.ny
      (λ j l a b q. loop_keeps (fill_cell g vs lens region j) 0 P g.nx
      (λ i k c d r. by_test P (contains_of vs lens region (center_of g i j)) (set k (j * g.nx + i) 1) k (λ t. f (j * g.nx + i) k r) (λ t. r)) l q)
      m p

  -- ---- a cell, by what `contains` answered

  module _ (j i : ℕ) (p : Vec2) (P : p ≡ center_of g i j) (t : Bool) (T : t ≡ contains_of vs lens region p) (m : List ℕ) where
    told : t ≡ contains_of vs lens region (center_of g i j)
    told = T ∙ ap (contains_of vs lens region) P

    pub cell_in : t ≡ true → set m (j * g.nx + i) 1 ≡ fill_cell g vs lens region j i m
    unfolding fill_cell
    cell_in e = sym (rw (← told, e))

    pub cell_out : t ≡ false → m ≡ fill_cell g vs lens region j i m
    unfolding fill_cell
    cell_out e = sym (rw (← told, e))

-- ---- the columns' centres, behind which stands what was there

pub centred_front : (g : Grid) (n : ℕ) (r z : List Float) → n ≡ g.nx → Centred g r → Centred g (take (n - 0) (r ++ z))
centred_front g n r z e c =
    subst (Centred g) (sym (ap (λ (k : ℕ). take k (r ++ z)) (let y : n - 0 ≡ length r = omega (arith, c.long) in y) ∙ take-append_seam r z)) c
