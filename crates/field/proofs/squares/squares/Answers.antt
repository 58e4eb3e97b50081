-- `field::squares::squares` meets its contract. Assumes nothing.
use Prim.Native.Nat.{◌*◌, ◌≤◌}
use native.Mathlib.Omega.{arith}
use native.Mathlib.Nat.{mul-le-mul_right}
use Rattle.field.proofs.SquareLaws.{squares-ask, squares-is}
use Rattle.field.proofs.squares.squares.Goals as goal
use Rattle.field.proofs.squares.squares.Goals.{Start}

-- the band's rows begin before they end, and end within the map
sized : (s : Start) → (s.args.band.lo * s.args.g.nx ≤ s.args.band.hi * s.args.g.nx) × (s.args.band.hi * s.args.g.nx ≤ s.args.g.ny * s.args.g.nx)
sized s = (mul-le-mul_right s.args.g.nx (omega (arith, s.requires.lo_lt_hi.0)), mul-le-mul_right s.args.g.nx s.requires.lo_lt_hi.1)

pub overflow_mul-lo : goal.overflow_mul-lo
overflow_mul-lo c = omega (arith, sized (goal.at.overflow_mul-lo c).Start)

pub overflow_mul-hi : goal.overflow_mul-hi
overflow_mul-hi c = omega (arith, sized (goal.at.overflow_mul-hi c).Start)

pub overflow_add-from : goal.overflow_add-from
overflow_add-from c = omega (arith, sized (goal.at.overflow_add-from c).Start)

pub overflow_add-to : goal.overflow_add-to
overflow_add-to c = omega (arith, sized (goal.at.overflow_add-to c).Start)

pub overflow_add-start : goal.overflow_add-start
overflow_add-start c = omega (arith, sized (goal.at.overflow_add-start c).Start)

pub overflow_add-end : goal.overflow_add-end
overflow_add-end c = omega (arith, sized (goal.at.overflow_add-end c).Start)

pub overflow_add-end-2 : goal.overflow_add-end-2
overflow_add-end-2 c = omega (arith, sized (goal.at.overflow_add-end-2 c).Start)

pub slice_bounds-transform-count : goal.slice_bounds-transform-count
slice_bounds-transform-count c = omega (arith, sized (goal.at.slice_bounds-transform-count c).Start)

pub slice_bounds-transform-start : goal.slice_bounds-transform-start
slice_bounds-transform-start c = omega (arith, sized (goal.at.slice_bounds-transform-start c).Start)

pub slice_bounds-transform-end : goal.slice_bounds-transform-end
slice_bounds-transform-end c = omega (arith, sized (goal.at.slice_bounds-transform-end c).Start)

pub offset_bounds-u-start : goal.offset_bounds-u-start
offset_bounds-u-start c = omega (arith, sized (goal.at.offset_bounds-u-start c).Start)

pub slice_bounds-transform-count-2 : goal.slice_bounds-transform-count-2
slice_bounds-transform-count-2 c = omega (arith, sized (goal.at.slice_bounds-transform-count-2 c).Start)

pub slice_bounds-transform-start-2 : goal.slice_bounds-transform-start-2
slice_bounds-transform-start-2 c = omega (arith, sized (goal.at.slice_bounds-transform-start-2 c).Start)

pub slice_bounds-transform-end-2 : goal.slice_bounds-transform-end-2
slice_bounds-transform-end-2 c = omega (arith, sized (goal.at.slice_bounds-transform-end-2 c).Start)

pub transform-requires : goal.transform-requires
transform-requires c =
    let r = squares-ask _ c.requires.sides _ _ _ _ _ c.requires.lo_lt_hi.0 c.requires.lo_lt_hi.1 c.requires.nx_in_bounds c.requires.nx_in_bounds_2 in
    record { map_sides = r.0; nx_in_bounds = r.1.0; nx_in_bounds_2 = r.1.1 }

pub returns : goal.returns
returns c = squares-is _ c.requires.sides _ _ _ _ _ c.requires.lo_lt_hi.0 c.requires.lo_lt_hi.1 c.requires.nx_in_bounds c.requires.nx_in_bounds_2 _ c.transform.ensures.work_after
