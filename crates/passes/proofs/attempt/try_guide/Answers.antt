-- `passes::attempt::try_guide` meets its contract. Assumes nothing.
use mathlib.Core.Path.{sym, ◌∙◌}
use native.Mathlib.Omega.{arith}
use Rattle.rims.proofs.TileLaws.{tiles_long}
use Rattle.passes.proofs.AttemptLaws.{tried-logged, tried-back, tried-room, tried-full, tried-worth, tried-nothing}
use Rattle.raster.proofs.LogLaws.{undone-front, logged-front, front-long}
use Rattle.passes.proofs.attempt.try_guide.Goals as goal

pub slice_bounds-fill-end : goal.slice_bounds-fill-end
slice_bounds-fill-end c = sym tiles_long

pub fill-requires : goal.fill-requires
fill-requires c = record { over = c.requires.usable.over; in_bounds = omega (arith, tiles_long) }

pub slice_bounds-simulate-end : goal.slice_bounds-simulate-end
slice_bounds-simulate-end c = sym (c.fill.auto.tiles ∙ tiles_long)

pub simulate-t-requires : goal.simulate-t-requires
simulate-t-requires c = record { walls = c.requires.walls; tables = c.requires.tables; usable = c.requires.usable; tiled = c.fill.ensures }

pub slice_bounds-undo-end : goal.slice_bounds-undo-end
slice_bounds-undo-end c = (tried-logged _ _ _ _ _ _ _ _ _ _ _ c.simulate-t.ensures c.requires.usable.ready).within

pub slice_bounds-undo-end-2 : goal.slice_bounds-undo-end-2
slice_bounds-undo-end-2 c = front-long _ _ _ (tried-logged _ _ _ _ _ _ _ _ _ _ _ c.simulate-t.ensures c.requires.usable.ready)

pub undo-requires : goal.undo-requires
undo-requires c = logged-front _ _ _ (tried-logged _ _ _ _ _ _ _ _ _ _ _ c.simulate-t.ensures c.requires.usable.ready)

pub returns-then-t : goal.returns-then-t
returns-then-t c = record { map_unchanged = tried-back _ _ _ _ _ _ _ _ _ _ _ c.simulate-t.ensures c.requires.usable.ready _ (c.undo.ensures ∙ undone-front _ _ _ _ (tried-logged _ _ _ _ _ _ _ _ _ _ _ c.simulate-t.ensures c.requires.usable.ready)); result_after = tried-full _ _ _ _ _ _ _ _ _ _ _ c.simulate-t.ensures c.if-t.true }

pub worth-requires : goal.worth-requires
worth-requires c = tried-room _ _ _ _ _ _ _ _ _ _ _ c.simulate-t.ensures c.if-t.false

pub returns-then-worth : goal.returns-then-worth
returns-then-worth c = record { map_unchanged = tried-back _ _ _ _ _ _ _ _ _ _ _ c.simulate-t.ensures c.requires.usable.ready _ (c.undo.ensures ∙ undone-front _ _ _ _ (tried-logged _ _ _ _ _ _ _ _ _ _ _ c.simulate-t.ensures c.requires.usable.ready)); result_after = tried-worth _ _ _ _ _ _ _ _ _ _ _ c.simulate-t.ensures c.if-t.false _ c.worth.ensures c.if-worth.true }

pub returns : goal.returns
returns c = record { map_unchanged = tried-back _ _ _ _ _ _ _ _ _ _ _ c.simulate-t.ensures c.requires.usable.ready _ (c.undo.ensures ∙ undone-front _ _ _ _ (tried-logged _ _ _ _ _ _ _ _ _ _ _ c.simulate-t.ensures c.requires.usable.ready)); result_after = tried-nothing _ _ _ _ _ _ _ _ _ _ _ c.simulate-t.ensures c.if-t.false _ c.worth.ensures c.if-worth.false }
