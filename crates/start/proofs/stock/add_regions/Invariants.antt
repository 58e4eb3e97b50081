-- `start::stock::add_regions` meets its contract. Assumes nothing.
use mathlib.Core.Path.{◌≡◌}
use Prim.Native.Nat.{ℕ}
use lib.ListN.{length}
use mathlib.Core.List.{List}
use lib.Ieee.{Float}
use Rattle.loops.proofs.LoopLaws.{Going}
use Rattle.raster.specs.declared.grid.Grid.{Grid}
use Rattle.entry.specs.Regions.{region_at}
use Rattle.start.specs.Start.{add_region}
use Rattle.start.proofs.stock.add_regions.Given as goal

-- the map is what the regions before k leave, and the next region's vertices and loops start where theirs end
pub record Adding (g : Grid) (vs : List Float) (lens regions map₀ : List ℕ) (xs₀ : List Float) (map : List ℕ) (xs : List Float) (first at k : ℕ) : Type 0 where
  pub going : Going (add_region g vs lens regions) 1 (length regions) map₀ map k
  pub long : length xs ≡ length xs₀
  pub start : at ≡ (region_at lens regions k).at
  pub loop : first ≡ (region_at lens regions k).first

abbrev pub invariant-loop-k : goal.invariant-loop-k
invariant-loop-k l = Adding l.g l.vs l.lens l.regions l.initial.map l.initial.xs l.map l.xs l.first l.at l.k
