-- `links::link::around` meets its contract. Assumes nothing.
use native.Mathlib.Omega.{arith}
use borrow.Author.Tests.{not-true, not-false}
use Rattle.loops.specs.Regions.{within}
use Rattle.links.proofs.LinkLaws.{around_asks, work-few, around_not, trace_asks, around_traced}
use Rattle.links.proofs.link.around.Goals as goal

pub overflow_mul-work : goal.overflow_mul-work
overflow_mul-work c = omega (arith, work-few _ _ _ c.args.map.now c.args.allowed.now _ c.requires.fitted _ c.args.net.laid c.requires.grid_value c.requires.over c.args.u.now c.requires.s_in_bounds _ c.cells-n.ensures _ c.cost-a.ensures _ c.path-e.ensures _ _ c.search-o.new.costs c.search-o.ensures.u_after c.search-o.ensures.only c.search-o.ensures.costs_len_unchanged)

pub returns-then-not-o : goal.returns-then-not-o
unfolding within
returns-then-not-o c =
    let r = around_not _ _ _ c.args.map.now c.args.allowed.now _ c.requires.fitted _ c.args.net.laid c.requires.grid_value c.requires.over c.args.u.now c.requires.s_in_bounds _ c.cells-n.ensures _ c.cost-a.ensures _ c.path-e.ensures _ _ c.search-o.new.costs c.search-o.ensures.u_after c.search-o.ensures.only c.search-o.ensures.costs_len_unchanged _ _ (not-true _ c.if-not-o.true) in
    record { w_after = r.0; only = r.1.0; only_2 = r.1.1 }

pub trace-points-requires : goal.trace-points-requires
unfolding within
trace-points-requires c =
    let r = trace_asks _ _ _ c.args.map.now c.args.allowed.now _ c.requires.fitted _ c.args.net.laid c.requires.grid_value c.requires.over c.args.u.now c.requires.s_in_bounds _ c.cells-n.ensures _ c.cost-a.ensures _ c.path-e.ensures _ _ c.search-o.new.costs c.search-o.ensures.u_after c.search-o.ensures.only c.search-o.ensures.costs_len_unchanged c.args.tiles.now c.requires.tiled in
    record { fitted = r.0; tiled = r.1.0; grid_value = r.1.1.1.0; l_in_bounds = r.1.1.1.1.0; befores = r.1.1.1.1.1 }

pub returns : goal.returns
unfolding within
returns c =
    let r = around_traced _ _ _ c.args.map.now c.args.allowed.now _ c.requires.fitted _ c.args.net.laid c.requires.grid_value c.requires.over c.args.u.now c.requires.s_in_bounds _ c.cells-n.ensures _ c.cost-a.ensures _ c.path-e.ensures _ _ c.search-o.new.costs c.search-o.ensures.u_after c.search-o.ensures.only c.search-o.ensures.costs_len_unchanged _ _ (not-false _ c.if-not-o.false) c.trace-points.result _ c.trace-points.ensures.w_after c.trace-points.ensures.only in
    record { w_after = r.0; only = r.1.0; only_2 = r.1.1 }
