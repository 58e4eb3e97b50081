-- Question 14: the raster of a job. Assumes nothing.
use Rattle.std.specs.Prelude.{Err, Ok, Result}
use Rattle.raster.specs.declared.grid.Refusal.{Refusal}
use Rattle.raster.specs.declared.grid.Refusal.TheVariants.{Unfit, TooLarge}
use mathlib.Core.Path.{◌≡◌, refl, sym, ap, ◌∙◌, subst}
use mathlib.Core.Bool.{Bool, true, false, cond, ◌&&◌}
use mathlib.Core.List.{List}
use Prim.Native.Nat.{ℕ, ◌*◌}
use native.Mathlib.Omega.{arith}
use lib.Dec.{leb}
use lib.Ieee.{Float, binary64, mul}
use borrow.Author.Tests.{leb-true}
use Rattle.loops.proofs.Cases.{both, by_test, never}
use Rattle.numbers.specs.Small.{f2}
use Rattle.geom.specs.Region.{bounds_of}
use Rattle.geom.specs.declared.vec2.Vec2.{Vec2}
use Rattle.geom.specs.declared.region.Region.{Region}
use Rattle.geom.specs.declared.region.Corners.{Corners}
use Rattle.raster.specs.Grid.{Sides, grid_of, new_grid, sized_of, fit_of}
use Rattle.raster.specs.declared.grid.Grid.{Grid}
use Rattle.entry.specs.Regions.{pocket_of}
use Rattle.entry.specs.Questions.{cell_of, corners_of, job_grid, small, raster_fit, raster_of}
use Rattle.entry.specs.declared.params.AdaptiveParams.{AdaptiveParams}

-- what the answer of `Grid::new` says of the raster h and of the tests on its corners and cell
abbrev Told : Bool → Grid → Result Grid Refusal → Type 0
Told fit h (Err Unfit) = fit ≡ false
Told fit h (Err TooLarge) = small h ≡ false
Told fit h (Ok g) = (g ≡ h) × (small h ≡ true)

new_told : (lo hi : Vec2) (cell margin : Float) → Told (fit_of lo hi cell) (grid_of lo hi cell margin) (new_grid lo hi cell margin)
unfolding new_grid sized_of
new_told lo hi cell margin =
    let g = grid_of lo hi cell margin in
    let P = Told (fit_of lo hi cell) g in
    by_test P (fit_of lo hi cell) (cond (small g) (Ok g) (Err TooLarge)) (Err Unfit) (λ t. by_test P (small g) (Ok g) (Err TooLarge) (λ u. (refl, u)) (λ u. u)) (λ t. t)

small-sides : (lo hi : Vec2) (cell margin : Float) → small (grid_of lo hi cell margin) ≡ true → Sides (grid_of lo hi cell margin)
unfolding grid_of
small-sides lo hi cell margin h =
    let g = grid_of lo hi cell margin in
    let p = both (leb g.nx 4096) (leb g.ny 4096 && leb (g.ny * g.nx) 1048576) h in
    let q = both (leb g.ny 4096) (leb (g.ny * g.nx) 1048576) p.1 in
    record { wide = omega arith; high = omega arith; columns = leb-true g.nx 4096 p.0; rows = leb-true g.ny 4096 q.0; cells = leb-true (g.ny * g.nx) 1048576 q.1 }

module _ (p : AdaptiveParams) (vs : List Float) (lens regions : List ℕ) where
  -- what the steps of the code come to
  pub raster_is : (region : Region) (c : Corners) (cell : Float) (r : Result Grid Refusal) → region ≡ pocket_of lens regions → c ≡ bounds_of vs lens region → cell ≡ cell_of p → r ≡ new_grid c.lo c.hi cell (mul binary64 f2 cell) → r ≡ raster_of p vs lens regions
  unfolding raster_of
  raster_is region c cell r P C L R =
      R ∙ ap (λ (z : Float). new_grid c.lo c.hi z (mul binary64 f2 z)) L
      ∙ ap (λ (q : Corners). new_grid q.lo q.hi (cell_of p) (mul binary64 f2 (cell_of p))) (C ∙ ap (bounds_of vs lens) P)

  -- a yes to 14
  pub fit_sides : raster_fit p vs lens regions ≡ true → Sides (job_grid p vs lens regions)
  unfolding raster_fit job_grid
  fit_sides h = let c = corners_of vs lens regions in small-sides c.lo c.hi (cell_of p) (mul binary64 f2 (cell_of p)) h

  abbrev fit : Bool
  fit = let c = corners_of vs lens regions in fit_of c.lo c.hi (cell_of p)

  raster_told : Told fit (job_grid p vs lens regions) (raster_of p vs lens regions)
  unfolding raster_of job_grid
  raster_told = let c = corners_of vs lens regions in new_told c.lo c.hi (cell_of p) (mul binary64 f2 (cell_of p))

  -- by the answer of the code
  module _ (g : Grid) (e : raster_of p vs lens regions ≡ Ok g) where
    of_told : (g ≡ job_grid p vs lens regions) × (small (job_grid p vs lens regions) ≡ true)
    of_told = subst (Told fit (job_grid p vs lens regions)) e raster_told

    pub raster_grid : g ≡ job_grid p vs lens regions
    raster_grid = of_told.0

    pub raster_yes : raster_fit p vs lens regions ≡ true
    unfolding raster_fit
    raster_yes = of_told.1

    pub raster_sides : Sides g
    raster_sides = subst Sides (sym raster_grid) (fit_sides raster_yes)

  -- after 11 to 13 the one refusal is that it is too large
  pub raster_no : (r : Refusal) → raster_of p vs lens regions ≡ Err r → fit ≡ true → raster_fit p vs lens regions ≡ false
  unfolding raster_fit
  raster_no TooLarge e h = subst (Told fit (job_grid p vs lens regions)) e raster_told
  raster_no Unfit e h = never (sym (subst (Told fit (job_grid p vs lens regions)) e raster_told) ∙ h)
