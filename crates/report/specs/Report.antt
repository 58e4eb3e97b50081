-- The report of `adaptive_clear` of adaptive.rs, without texts, and what document 01 adds to it. Definitions only.
use Rattle.std.specs.Prelude.{cond, List, ℕ, ◌+◌, length, get_or, eqb, Float}
use Rattle.std.specs.Float.{binary64}
use Rattle.std.specs.Float.Ieee.{sub, mul, div, lt, to_unsigned}
use Rattle.loops.specs.Loop.{loop}
use Rattle.loops.specs.Cells.{ones}
use Rattle.numbers.specs.Cast.{float}
use Rattle.numbers.specs.Order.{max_of}
use Rattle.numbers.specs.Whole.{ceil_of}
use Rattle.numbers.specs.Circle.{degrees_of}
use Rattle.numbers.specs.Small.{f1, c05, nano}
use Rattle.geom.specs.Vec.{f0}
use Rattle.events.specs.Told.{Report}
use Rattle.cutting.specs.declared.piece.State.{State}
use Rattle.report.specs.Kinds.{kinds_of}
use Rattle.report.specs.declared.report.AdaptiveReport.{AdaptiveReport}
use Rattle.report.specs.declared.report.Finish.{Finish}
use Rattle.report.specs.declared.standing.Left.{Left}

-- ((depth / step_down) - 1e-9).ceil().max(1.0) as usize
unfoldable pub layers_of : Float → Float → Float → ℕ
layers_of top bottom step = to_unsigned 64 (max_of (ceil_of (sub binary64 (div binary64 (sub binary64 top bottom) step) nano)) f1)

-- ---- the stock that is left

abbrev pub rem : ℕ → ℕ → Left
rem reach unreach = record { reach = reach; unreach = unreach }

-- a cell, by its bytes: if it is stock, one that the tool could reach, or not
unfoldable pub counted : ℕ → ℕ → Left → Left
counted stock reach t = cond (eqb stock 1) (cond (eqb reach 1) (rem (t.reach + 1) t.unreach) (rem t.reach (t.unreach + 1))) t

abbrev pub remain_at : List ℕ → List ℕ → ℕ → Left → Left
remain_at map reach k t = counted (get_or map k 0) (get_or reach k 0) t

unfoldable pub remaining_of : List ℕ → List ℕ → Left
remaining_of map reach = loop (remain_at map reach) 0 (length map) (rem 0 0)

-- ---- the report

-- cells as an area: n as f64 * cell_area
abbrev pub area_of : Float → ℕ → Float
area_of cell n = mul binary64 (float n) (mul binary64 cell cell)

-- of a plan that ends with so much by value, the map and the cells that it could reach, and its rows and triples
unfoldable pub report_of : Float → Finish → State → List ℕ → List ℕ → List ℕ → List Float → AdaptiveReport
report_of cell f t map reach rows triples =
    let left = remaining_of map reach in
    let count = kinds_of rows triples t.rows in
    let initial = area_of cell f.starting in
    let remaining = area_of cell left.reach in
    let unreachable = area_of cell left.unreach in
    record {
      layers = layers_of f.top f.bottom f.step_down;
      passes = count.passes;
      helix_entries = count.helices;
      retracts = count.plunges;
      links = count.links;
      planned_max_engagement_deg = degrees_of t.planned_max;
      removed_area = max_of (sub binary64 (sub binary64 initial remaining) unreachable) f0;
      remaining_reachable_area = remaining;
      unreachable_area = unreachable;
      starting_cells = f.starting;
      standing_cells = ones map;
      helix_given_up = f.given_up;
      spent_budget = f.spent;
      left_reachable = lt (mul binary64 c05 (max_of initial nano)) remaining;
    }

-- the numbers of it that the events settle
unfoldable pub told_of : AdaptiveReport → Report
told_of r = record {
  starting = r.starting_cells;
  standing = r.standing_cells;
  entries = r.helix_entries;
  plunges = r.retracts;
  links = r.links;
  passes = r.passes;
  given_up = r.helix_given_up;
}
