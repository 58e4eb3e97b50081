-- `raster::disk::cols_from` meets its contract. Assumes nothing.
use mathlib.Core.Path.{◌≡◌}
use mathlib.Core.Bool.{true, false}
use lib.IntN.{pos}
use lib.Ieee.{fin, lt, le, of_bits}
use Rattle.loops.proofs.Cases.{both}
use Rattle.raster.proofs.DiskLaws.{place_floor, from-whole, from_floats}
use Rattle.raster.proofs.disk.cols_from.Goals as goal
use Rattle.raster.proofs.disk.cols_from.Goals.{Then-x0-x1}

-- what the test tells of the places
near : (c : Then-x0-x1) → (le (fin false 1 (pos 0)) c.args.x0 ≡ true) × (lt c.args.x0 (fin false 1 (pos 32)) ≡ true) × (le (fin false 1 (pos 0)) c.args.x1 ≡ true) × (lt c.args.x1 (fin false 1 (pos 32)) ≡ true)
unfolding of_bits
near c =
    let three = both _ _ c.if-x0-x1.true in
    let two = both _ _ three.0 in
    let one = both _ _ two.0 in
    (one.0, one.1, two.1, three.1)

pub raised-requires : goal.raised-requires
raised-requires c = record { x_value = (near (goal.at.raised-requires c).Then-x0-x1).0; pos_value = (near (goal.at.raised-requires c).Then-x0-x1).1 }

pub returns-then-x0-x1 : goal.returns-then-x0-x1
returns-then-x0-x1 c = let t = near (goal.at.returns-then-x0-x1 c).Then-x0-x1 in
    from-whole _ _ _ _ _ _ c.raised.ensures.0 (place_floor _ t.2 t.3 _ c.sat_u32.ensures) c.cols_between.ensures
