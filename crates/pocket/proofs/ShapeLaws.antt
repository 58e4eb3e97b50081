-- A region's questions: where there is no no, all its loops are held. Assumes nothing.
use mathlib.Core.Path.{◌≡◌, subst}
use mathlib.Core.Bool.{Bool, true, false, ◌&&◌}
use mathlib.Core.List.{List, [], ◌∷◌}
use Prim.Native.Nat.{ℕ, ◌*◌, ◌≤◌, ◌<◌}
use native.Mathlib.Omega.{arith}
use lib.ListN.{length, get_or}
use lib.Dec.{eqb, leb}
use lib.Ieee.{Float}
use borrow.Author.Tests.{leb-true, eqb-true}
use Rattle.loops.proofs.Cases.{both}
use Rattle.geom.specs.Region.{Held}
use Rattle.raster.specs.Grid.{Over}
use Rattle.raster.specs.declared.grid.Grid.{Grid}
use Rattle.entry.specs.Regions.{sum_to, sum_of, AllHeld}
use Rattle.entry.specs.Questions.{all_from, vertices_fit}
use Rattle.entry.proofs.RegionsLaws.{sum-none, sum_more, pocket_is, held-is, all_held}
use Rattle.std.specs.Prelude.{Result, Ok, Err}
use Rattle.pocket.specs.declared.refusals.Refusal.{Refusal}
use Rattle.pocket.specs.declared.refusals.Refusal.TheVariants.{OutOfRange, NoRegion, NoRaster, TooShort}
use Rattle.pocket.specs.Ranges.{coordinates_fit, grid_fit}
use Rattle.pocket.specs.Refusals.{ask, size_asked, shape_fit, fill_asked}
use Rattle.pocket.specs.Leaves.{one_region}
use Rattle.pocket.proofs.AskedLaws.{ask-none, size_over}

module _ (vs : List Float) (lens : List ℕ) where
  abbrev counted : Bool
  counted = leb 1 (length lens) && leb (length lens) 65

  pub shape_few : counted ≡ true → length lens ≤ 4096
  shape_few h = omega (arith, leb-true (length lens) 65 (both (leb 1 (length lens)) (leb (length lens) 65) h).1)

  pub shape_odd : counted ≡ false → false ≡ shape_fit vs lens
  unfolding shape_fit
  shape_odd h = rw h

  pub shape_rest : counted ≡ true → (b : Bool) → b ≡ vertices_fit vs lens → b ≡ shape_fit vs lens
  unfolding shape_fit
  shape_rest h b e = rw h e

module _ (vs : List Float) (lens : List ℕ) (h : shape_fit vs lens ≡ true) where
  abbrev few : Bool
  few = leb (sum_of lens) 4096

  abbrev exact : Bool
  exact = eqb (2 * sum_of lens) (length vs)

  tests : (leb 1 (length lens) && leb (length lens) 65 ≡ true) × (few && exact ≡ true)
  unfolding shape_fit vertices_fit
  tests = let s = both (leb 1 (length lens) && leb (length lens) 65) (vertices_fit vs lens) h in (s.0, (both (all_from 3 4096 lens) (few && exact) s.1).1)

  -- the one region of all loops
  abbrev one : List ℕ
  one = length lens ∷ []

  shape_all : AllHeld vs lens one
  shape_all =
      let some : 1 ≤ length lens = leb-true 1 (length lens) (both (leb 1 (length lens)) (leb (length lens) 65) tests.0).0 in
      let w = both few exact tests.1 in
      let sum : 2 * sum_to lens (length lens) ≡ length vs = eqb-true (2 * sum_of lens) (length vs) w.1 in
      let whole : sum_to one 1 ≤ length lens = omega (arith, sum-none one, sum_more one 0) in
      all_held vs lens one whole (omega arith) (λ k b. subst (λ (i : ℕ). 0 < get_or one i 0) (let z : 0 ≡ k = omega arith in z) (omega arith)) (omega arith)

  pub shape_held : Held vs lens (one_region lens)
  shape_held = held-is vs lens one shape_all 0 (omega arith) (one_region lens) (pocket_is lens one)

pub fill_none : (g : Grid) (vs : List Float) (lens : List ℕ) (long : ℕ) → fill_asked g vs lens long ≡ Ok tt → (shape_fit vs lens ≡ true) × Over g long
unfolding fill_asked
fill_none g vs lens long e =
    let a = ask-none OutOfRange (grid_fit g && coordinates_fit vs) (ask NoRegion (shape_fit vs lens) (size_asked g.nx g.ny long)) e in
    let b = ask-none NoRegion (shape_fit vs lens) (size_asked g.nx g.ny long) a.1 in
    (b.0, size_over g long b.1)
