-- `start::fill` meets its contract. Assumes nothing.
use mathlib.Core.Path.{sym, ap, ◌∙◌}
use native.Mathlib.Omega.{arith}
use Rattle.start.specs.Start.{inside_of}
use Rattle.start.proofs.StartLaws.{started-is}
use Rattle.entry.proofs.RegionsLaws.{held-is}
use Rattle.start.proofs.fill.Goals as goal

pub stock-requires : goal.stock-requires
stock-requires c = let room = c.requires.room in record { sides = c.requires.sides; all_held = c.requires.all_held; pocket_value = c.requires.region_value; nx_in_bounds = room.bytes; nx_in_bounds_2 = room.doubles }

pub reach-requires : goal.reach-requires
reach-requires c = let room = c.requires.room in
    record { placed = record { sides = c.requires.sides; held = held-is c.args.vs.now c.args.lens.now c.args.regions.now c.requires.all_held 0 c.requires.all_held.some _ c.requires.region_value }; room = record { bytes = omega (arith, room.bytes, c.stock.auto.b); words = room.words; doubles = omega (arith, room.doubles, c.stock.auto.w) }; b_value = c.stock.ensures.inside ∙ ap (inside_of c.args.s.grid c.args.vs.now c.args.lens.now) (sym c.requires.region_value) }

pub tables-requires : goal.tables-requires
tables-requires c = record { sides = c.requires.sides; samples_bound = c.requires.samples_bound; s_in_bounds = omega (arith, c.requires.room.doubles, c.stock.auto.w, c.reach.auto.w) }

pub clear_log-requires : goal.clear_log-requires
clear_log-requires c = record { sides = c.requires.sides; nx_in_bounds = omega (arith, c.requires.room.words, c.reach.auto.u) }

pub returns : goal.returns
returns c =
    started-is c.args.s c.args.whole c.args.vs.now c.args.lens.now c.args.regions.now c.args.b.now c.args.u.now c.args.w.now c.requires.sides
    (held-is c.args.vs.now c.args.lens.now c.args.regions.now c.requires.all_held 0 c.requires.all_held.some _ c.requires.region_value) c.requires.room
    _ _ _ _ _ c.stock.ensures c.reach.ensures c.tables.ensures c.clear_log.ensures
    (c.reach.auto.b ∙ c.stock.auto.b) (c.clear_log.auto.u ∙ c.reach.auto.u) (c.tables.auto.w ∙ c.reach.auto.w ∙ c.stock.auto.w)
