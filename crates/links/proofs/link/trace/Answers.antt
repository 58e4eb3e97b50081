-- `links::link::trace` meets its contract. Assumes nothing.
use native.Mathlib.Omega.{arith}
use Rattle.loops.specs.Regions.{within}
use Rattle.links.proofs.LatticeLaws.{nodes-most, nodes-few}
use Rattle.links.proofs.LinkLaws.{lay_asks, shorten_asks, trace_is}
use Rattle.links.proofs.link.trace.Goals as goal

pub overflow_add-last : goal.overflow_add-last
overflow_add-last c = omega (arith, c.before-first.ensures, c.cells.ensures, c.nodes-n.ensures, nodes-most _ c.args.net.laid, c.args.net.laid.sides.cells)

pub slice_bounds-lay-end : goal.slice_bounds-lay-end
slice_bounds-lay-end c = omega (arith, c.before-first.ensures, c.cells.ensures, c.nodes-n.ensures, nodes-few _ c.args.net.laid, c.requires.l_in_bounds)

pub lay-k-requires : goal.lay-k-requires
unfolding within
lay-k-requires c =
    let r = lay_asks _ _ _ _ _ c.requires.fitted _ c.args.net.laid c.requires.grid_value c.args.u.now c.requires.l_in_bounds _ c.nodes-n.ensures _ c.cells.ensures _ c.before-first.ensures _ c.cells-size.ensures _ c.path-a.ensures c.requires.befores in
    record { before_len = r.1.0; befores = r.1.1.0; l_in_bounds = r.1.1.1 }

pub shorten-requires : goal.shorten-requires
unfolding within
shorten-requires c =
    let r = shorten_asks _ _ _ _ _ c.requires.fitted _ c.args.net.laid c.requires.grid_value c.args.u.now c.requires.l_in_bounds _ c.nodes-n.ensures _ c.cells.ensures _ c.before-first.ensures _ c.cells-size.ensures _ c.path-a.ensures c.lay-k.new.ps _ c.lay-k.ensures.upper_bound c.lay-k.ensures.ps_len_unchanged c.args.tiles.now c.requires.tiled in
    record { fitted = r.0; tiled = r.1.0; at_le_end = r.1.1.0; end_bound = r.1.1.1 }

pub returns : goal.returns
unfolding within
returns c =
    let r = trace_is _ _ _ _ _ c.requires.fitted _ c.args.net.laid c.requires.grid_value c.args.u.now c.requires.l_in_bounds _ c.nodes-n.ensures _ c.cells.ensures _ c.before-first.ensures _ c.cells-size.ensures _ c.path-a.ensures c.lay-k.new.ps _ c.lay-k.ensures.upper_bound c.lay-k.ensures.ps_len_unchanged _ _ c.lay-k.ensures.ps_after c.shorten.result _ c.shorten.ensures.w_after c.shorten.ensures.only in
    record { w_after = r.0; only = r.1 }
