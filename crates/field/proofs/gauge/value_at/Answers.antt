-- `field::gauge::value_at` meets its contract. Assumes nothing.
use mathlib.Core.Path.{ap}
use native.Mathlib.Omega.{arith}
use Rattle.distance.specs.declared.limits.Threshold.{Threshold}
use Rattle.raster.proofs.GridLaws.{number-below}
use Rattle.field.proofs.GaugeLaws.{value-far, value-deep, value-sampled}
use Rattle.field.proofs.gauge.value_at.Goals as goal

pub overflow_mul-square : goal.overflow_mul-square
overflow_mul-square c = omega (arith, number-below c.args.g.setup.grid.nx _ _ _ _ c.requires.i_lt_nx.0 c.requires.i_lt_nx.1 c.requires.over.sides.cells)

pub overflow_add-square : goal.overflow_add-square
overflow_add-square c = omega (arith, number-below c.args.g.setup.grid.nx _ _ _ _ c.requires.i_lt_nx.0 c.requires.i_lt_nx.1 c.requires.over.sides.cells)

pub offset_bounds-stock-j : goal.offset_bounds-stock-j
offset_bounds-stock-j c = omega (arith, number-below c.args.g.setup.grid.nx _ _ _ _ c.requires.i_lt_nx.0 c.requires.i_lt_nx.1 c.requires.over.sides.cells)

pub bounds-stock-j : goal.bounds-stock-j
bounds-stock-j c = number-below c.args.g.setup.grid.nx _ _ _ _ c.requires.i_lt_nx.0 c.requires.i_lt_nx.1 c.requires.nx_in_bounds

pub beyond-requires : goal.beyond-requires
beyond-requires c = record { strict_value = ap (λ (b : Threshold). b.strict) c.args.g.gauged.far }

pub returns-then-beyond : goal.returns-then-beyond
returns-then-beyond c = value-far c.args.g _ _ _ _ _ c.beyond.ensures c.if-beyond.true

pub returns-then-is_within : goal.returns-then-is_within
returns-then-is_within c = value-deep c.args.g _ _ _ _ _ c.beyond.ensures c.if-beyond.false _ c.is_within.ensures c.if-is_within.true

pub returns : goal.returns
returns c = value-sampled c.args.g _ _ _ _ _ c.beyond.ensures c.if-beyond.false _ c.is_within.ensures c.if-is_within.false _ _ _ c.contact_at-t.ensures c.angle_of.ensures c.narrow.ensures
