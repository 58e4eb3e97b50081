-- `rims::hits::sample_hit` meets its contract. Assumes nothing.
use Prim.Native.Nat.{◌+◌, ◌-◌, ◌*◌, ◌<◌}
use native.Mathlib.Omega.{arith}
use Rattle.rims.specs.Offsets.{entry_at}
use Rattle.rims.proofs.OffsetLaws.{told-inside, told-stock}
use Rattle.rims.proofs.hits.sample_hit.Goals as goal
use Rattle.rims.proofs.hits.sample_hit.Goals.{Start}

-- the sample's cell
inside : (s : Start) → (s.args.j - s.args.s) * s.args.g.nx + (s.args.i - s.args.s) + (entry_at s.args.w.now s.args.k - 1) < s.args.g.ny * s.args.g.nx
inside s = told-inside s.args.g s.args.map.now _ _ s.args.w.now s.requires.rims _ _ _ s.requires.s_value s.requires.roomy s.args.k _ s.requires.k_lt_n.0 (omega (arith, s.requires.k_lt_n.1))

pub overflow_add-result : goal.overflow_add-result
overflow_add-result c = omega (arith, inside (goal.at.overflow_add-result c).Start, c.requires.over.sides.cells)

pub bounds-map-base : goal.bounds-map-base
bounds-map-base c = omega (arith, inside (goal.at.bounds-map-base c).Start, c.requires.over.long)

pub returns : goal.returns
returns c = told-stock c.args.g c.args.map.now _ _ c.args.w.now c.requires.rims _ _ _ c.requires.s_value c.requires.roomy c.args.k _ c.requires.k_lt_n.0 (omega (arith, c.requires.k_lt_n.1))
