-- `start::stock::fill_regions` meets its contract. Assumes nothing.
use native.Mathlib.Omega.{arith}
use Rattle.entry.proofs.RegionsLaws.{held-is}
use Rattle.start.proofs.StockLaws.{filled-whole, filled_list}
use Rattle.start.proofs.stock.fill_regions.Goals as goal

pub fill_inside-requires : goal.fill_inside-requires
fill_inside-requires c = let h = c.requires.all_held in record { sides = c.requires.sides; held = held-is c.args.vs.now c.args.lens.now c.args.regions.now h 0 h.some _ c.requires.pocket_value; nx_in_bounds = omega (arith, c.requires.nx_in_bounds, c.fill.auto.self); nx_in_bounds_2 = c.requires.nx_in_bounds_2 }

pub returns-then-whole : goal.returns-then-whole
returns-then-whole c = filled-whole _ _ _ _ c.args.b.now c.requires.nx_in_bounds _ _ _ c.requires.pocket_value (c.fill.ensures.after (λ y h. h)) c.fill_inside.ensures _ c.if-whole.true

pub fill_stock-requires : goal.fill_stock-requires
fill_stock-requires c = let f = c.fill_inside.auto in record { sides = c.requires.sides; all_held = c.requires.all_held; pocket_value = c.requires.pocket_value; nx_in_bounds = omega (arith, c.requires.nx_in_bounds, c.fill.auto.self, f.b); nx_in_bounds_2 = omega (arith, c.requires.nx_in_bounds_2, f.w) }

pub returns : goal.returns
returns c = filled_list _ _ _ _ c.args.b.now c.requires.nx_in_bounds _ _ _ c.requires.pocket_value (c.fill.ensures.after (λ y h. h)) c.fill_inside.ensures _ c.fill_stock.ensures _ c.if-whole.false
