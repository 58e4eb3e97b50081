-- What stands between the steps of a plan is what each layer asks for, and a step that leaves it alone finds it again. Assumes nothing.
use mathlib.Core.Path.{◌≡◌, refl, sym, ◌∙◌, subst}
use mathlib.Core.List.{List}
use Prim.Native.Nat.{ℕ, ◌-◌, ◌*◌, ◌≤◌}
use native.Mathlib.Omega.{arith}
use lib.ListN.{length}
use lib.Ieee.{Float}
use Rattle.loops.specs.Regions.{Fits, within}
use Rattle.loops.specs.Frame.{Only}
use Rattle.loops.proofs.RegionLaws.{region-long}
use Rattle.loops.proofs.FrameLaws.{only_same, only_more, only-before, only-after, only_wider}
use Rattle.raster.specs.Grid.{Over}
use Rattle.setup.specs.Layout.{map_in, traced_from, rim_from}
use Rattle.setup.specs.Place.{cells_of, Walls}
use Rattle.setup.specs.Tables.{Tables}
use Rattle.setup.specs.declared.Setup.{Setup}
use Rattle.setup.proofs.PartLaws.{run_long}
use Rattle.field.specs.Round.{Ready}
use Rattle.links.specs.Path.{wall_in, tables_in, Fitted}
use Rattle.workspace.specs.Standing.{Standing, CellsKept, WallsKept}

-- ---- what the layers ask for

module _ (s : Setup) (vs : List Float) (lens b u : List ℕ) (w : List Float) (h : Standing s vs lens b u w) where
  pub standing-over : (m : List ℕ) → cells_of s ≤ length m → Over s.grid (length m)
  standing-over m l = record { sides = h.sides; long = l }

  pub wall-long : length (wall_in s w) ≡ cells_of s
  unfolding within
  wall-long = region-long 0 (cells_of s) w (record { start = omega arith; end = omega (arith, h.doubles) }) ∙ (let z : cells_of s - 0 ≡ cells_of s = omega arith in z)

  pub standing-walls : Walls s (wall_in s w) vs lens
  standing-walls = record { over = record { sides = h.sides; long = omega (arith, wall-long) }; held = h.held }

  pub map-long : length (map_in (cells_of s) b) ≡ cells_of s
  map-long = run_long 0 (cells_of s) b (omega (arith, h.bytes))

  -- the links' and the passes'
  pub standing_fitted : Fitted s vs lens (map_in (cells_of s) b) w
  standing_fitted = record {
    walls = standing-walls;
    over = record { sides = h.sides; long = omega (arith, map-long) };
    tables = h.tables;
    long = omega (arith, h.doubles);
  }

  -- the field's
  pub standing-ready : (f : List Float) → 2 * cells_of s ≤ length f → Ready s b u w f
  standing-ready f l = record { sides = h.sides; lent = record { bytes = h.bytes; words = h.words; singles = l; doubles = h.doubles }; tables = h.tables }

  pub walls_fit : Fits (traced_from (cells_of s)) (rim_from (cells_of s)) w
  walls_fit = record { start = omega arith; end = omega (arith, h.doubles) }

  -- ---- after a step

  module _ (w' : List Float) (k : WallsKept (cells_of s) w w') where
    pub wall-kept : wall_in s w' ≡ wall_in s w
    wall-kept = only-before (traced_from (cells_of s)) (rim_from (cells_of s)) w walls_fit w' k 0 (cells_of s) (omega arith) (omega arith)

    tables-kept : tables_in s w' ≡ tables_in s w
    tables-kept = only-after (traced_from (cells_of s)) (rim_from (cells_of s)) w walls_fit w' k _ _ (omega arith)

    pub standing-kept : (b' u' : List ℕ) → length b' ≡ length b → length u' ≡ length u → Standing s vs lens b' u' w'
    standing-kept b' u' p q = record {
      sides = h.sides;
      bytes = omega (arith, h.bytes, p);
      words = omega (arith, h.words, q);
      doubles = omega (arith, h.doubles, k.long);
      held = h.held;
      tables = subst (Tables s) (sym tables-kept) h.tables;
    }

    pub walls_more : (w'' : List Float) → WallsKept (cells_of s) w' w'' → WallsKept (cells_of s) w w''
    walls_more w'' l = only_more (traced_from (cells_of s)) (rim_from (cells_of s)) w walls_fit w' k w'' l

  pub walls-same : WallsKept (cells_of s) w w
  walls-same = only_same (traced_from (cells_of s)) (rim_from (cells_of s)) w walls_fit

  -- a region between the traced points and the tool's tables was written
  pub walls_of_lem : (a e : ℕ) (w' : List Float) → traced_from (cells_of s) ≤ a → a ≤ e → e ≤ rim_from (cells_of s) → Only a e w w' → WallsKept (cells_of s) w w'
  walls_of_lem a e w' p q r o = only_wider a e w w' (record { start = q; end = omega (arith, h.doubles) }) o (traced_from (cells_of s)) (rim_from (cells_of s)) p r (omega (arith, h.doubles))

-- ---- bytes

pub cells_same : (n : ℕ) (b : List ℕ) → CellsKept n b b
cells_same n b = record { long = refl; allowed = refl; reach = refl }

pub cells_more : (n : ℕ) (b b' b'' : List ℕ) → CellsKept n b b' → CellsKept n b' b'' → CellsKept n b b''
cells_more n b b' b'' k l = record { long = l.long ∙ k.long; allowed = l.allowed ∙ k.allowed; reach = l.reach ∙ k.reach }
