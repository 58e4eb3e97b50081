-- Legal lists are there: on document 01's marked map a place given up, an entry, a pass tried, withdrawn, tried again, gone to by a plunge for want of a way and
-- by a link, and kept; computed whole, with judges that see only what the list needs. Assumes nothing.
use mathlib.Core.Path.{◌≡◌, refl}
use mathlib.Core.Bool.{true, cond}
use mathlib.Core.List.{List, [], ◌∷◌}
use mathlib.Core.Option.{Option, some}
use Prim.Native.Nat.{ℕ}
use lib.ListN.{length, replicate}
use lib.Dec.{eqb, lit≤}
use lib.Ieee.{Float, binary64, of_bits, of_int, to_bits, to_unsigned, round, add, sub, mul, div, lt, le, eq, neg, is_nan}
use Rattle.loops.specs.Loop.{turns, loop, turn, any}
use Rattle.loops.specs.Cells.{ones}
use Rattle.numbers.specs.Order.{max_of, is_finite}
use Rattle.numbers.specs.Whole.{floor_of, ceil_of}
use Rattle.numbers.specs.Root.{root_of}
use Rattle.numbers.specs.Small.{f1, f2}
use Rattle.geom.specs.Vec.{v2, f0, sum}
use Rattle.geom.specs.declared.vec2.Vec2.{Vec2}
use Rattle.raster.specs.Contact.{angle_of}
use Rattle.raster.specs.Disk.{row_y, cell_at, first_from, cols_of, chord_of, disk_row, last_row, rows_of, left_of, right_of, less, crescent_row}
use Rattle.raster.specs.Sweep.{over_span, disk_at, over_disk, crescent_at, over_crescent}
use Rattle.raster.specs.Stock.{drop_cell, clear_disk}
use Rattle.raster.specs.Log.{clear_cell, clear_after, undone, redone, passes}
use Rattle.events.specs.Chunk.{Point, Spot, Job}
use Rattle.events.specs.Replay.{helix_end}
use Rattle.events.specs.Helix.{rim_blocked, shrink, shrunk, radius_of}
use Rattle.events.specs.Events.{Event, given_up, entered, tried, withdrawn, no_way, plunged, linked, kept, begin, cuts_from, cuts_of, step, steps, after, denied, Legal, Fit}
use Rattle.events.specs.Told.{Demand3}
use Rattle.events.proofs.Demand.{demand3}

-- (1.5, 2.5) and (2.5, 2.5)
abbrev a : Vec2
a = v2 (of_bits binary64 0x3ff8_0000_0000_0000) (of_bits binary64 0x4004_0000_0000_0000)

abbrev b : Vec2
b = v2 (of_bits binary64 0x4004_0000_0000_0000) (of_bits binary64 0x4004_0000_0000_0000)

-- TAU / 4, the angle of 2 hits of 8
abbrev quarter : Float
quarter = of_bits binary64 0x3ff9_21fb_5444_2d18

-- the place of a helix: the first is too narrow
abbrev spot : List ℕ → Option Spot
spot gone = some (record { centre = a; widest = cond (eqb (ones gone) 0) (neg f1) f0 })

-- 5 by 5, cell 1, all set; r is 1, the guard 5 and the limit 6; a link is clear to the left of 2
abbrev pub job : Job
job = record {
  grid = record { origin = v2 f0 f0; cell = f1; nx = 5; ny = 5 };
  start = replicate 25 1;
  r = f1;
  guard = of_bits binary64 0x4014_0000_0000_0000;
  limit = of_bits binary64 0x4018_0000_0000_0000;
  keep_down = true;
  allowed = λ p. true;
  free = λ m p. true;
  contact = λ m p. record { hits = 2; samples = 8 };
  link_clear = λ m p q. lt q.x f2;
  entry = record { place = λ m gone. spot gone; abandon = λ m gone. m; least = f0 };
}

abbrev pub points : List Point
points = record { at = a; angle = f0 } ∷ record { at = b; angle = quarter } ∷ []

abbrev pub events : List Event
events = given_up a ∷ entered a f0 ∷ tried points 3 ∷ withdrawn ∷ tried points 3 ∷ no_way b ∷ plunged b ∷ linked a ∷ kept ∷ []

pub fit : Fit job
unfolding of_bits lt
fit = record { guard = refl; small = lit≤ tt }

pub legal : Legal job events
unfolding of_bits to_bits round root_of of_int to_unsigned neg add sub mul div lt le eq is_nan turns loop turn any ones floor_of ceil_of max_of is_finite sum row_y cell_at
    first_from cols_of chord_of disk_row last_row rows_of left_of right_of less crescent_row over_span disk_at over_disk crescent_at over_crescent drop_cell clear_disk clear_cell
    clear_after undone redone passes angle_of helix_end rim_blocked shrink shrunk radius_of begin cuts_from cuts_of step
legal = (
  record { idle = refl; widest = neg f1; found = refl; radius = refl },
  (
    record { idle = refl; widest = f0; found = refl; radius = refl },
    (
      record {
        idle = refl;
        points = (record { allowed = refl; free = refl; unmeasured = refl }, (record { allowed = refl; measured = refl; guarded = refl }, tt));
        count = refl;
      },
      (
        record { points = points; on = refl },
        (
          record {
            idle = refl;
            points = (record { allowed = refl; free = refl; unmeasured = refl }, (record { allowed = refl; measured = refl; guarded = refl }, tt));
            count = refl;
          },
          (
            record { from = helix_end a f0; here = refl; down = refl; blocked = refl },
            (
              record { allowed = refl; free = refl; unlinked = denied refl },
              (
                record { from = b; here = refl; clear = refl },
                (record { first = record { at = a; angle = f0 }; rest = record { at = b; angle = quarter } ∷ []; on = refl; arrived = refl }, tt),
              ),
            ),
          ),
        ),
      ),
    ),
  ),
)

pub told : Demand3 job events
told = demand3 job fit events legal

-- the helix clears 5 cells of 25, the pass 3; withdrawn it leaves 20, kept 17
pub record Counts : Type 0 where
  pub withdrawn_leaves : ones (after job (entered a f0 ∷ tried points 3 ∷ withdrawn ∷ [])).stock.cells ≡ 20
  pub kept_leaves : ones (after job events).stock.cells ≡ 17
  pub listed : length (after job events).rows ≡ 4

pub counts : Counts
unfolding of_bits to_bits round root_of of_int to_unsigned neg add sub mul div lt le eq is_nan turns loop ones floor_of ceil_of max_of is_finite sum row_y cell_at
    first_from cols_of chord_of disk_row last_row rows_of left_of right_of less crescent_row over_span disk_at over_disk crescent_at over_crescent drop_cell clear_disk clear_cell
    clear_after undone redone passes helix_end begin cuts_from cuts_of step steps after
counts = record { withdrawn_leaves = refl; kept_leaves = refl; listed = refl }
