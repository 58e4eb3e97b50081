-- `links::link::link_path` meets its contract. Assumes nothing.
use native.Mathlib.Omega.{arith}
use mathlib.Core.Path.{sym, ◌∙◌}
use Rattle.raster.proofs.GridLaws.{on-grid-at}
use Rattle.rims.proofs.TileLaws.{tiles_long}
use Rattle.links.proofs.LinkLaws.{some-cell, link_straight, link-no-from, link-no-to, link_around, lattice_grid}
use Rattle.links.proofs.link.link_path.Goals as goal

pub returns-then-clear : goal.returns-then-clear
returns-then-clear c =
    let r = link_straight _ _ _ _ c.args.allowed.now _ c.requires.fitted c.args.u.now c.requires.s_in_bounds _ _ _ c.clear.ensures c.if-clear.true _ c.keep.ensures.w_after c.keep.ensures.only in
    record { w_after = r.0; only = r.1.0; only_2 = r.1.1 }

pub returns-in_default : goal.returns-in_default
returns-in_default c =
    let r = link-no-from _ _ _ _ c.args.allowed.now _ c.requires.fitted c.args.u.now c.requires.s_in_bounds _ _ _ c.clear.ensures c.if-clear.false _ c.cell_of-x.ensures c.in_default.is in
    record { w_after = r.0; only = r.1.0; only_2 = r.1.1 }

pub returns-in_default-z : goal.returns-in_default-z
returns-in_default-z c =
    let r = link-no-to _ _ _ _ c.args.allowed.now _ c.requires.fitted c.args.u.now c.requires.s_in_bounds _ _ _ c.clear.ensures c.if-clear.false _ c.cell_of-x.ensures _ _ c.in-Some.is _ c.cell_of-z.ensures c.in_default-z.is in
    record { w_after = r.0; only = r.1.0; only_2 = r.1.1 }

pub of-net-requires : goal.of-net-requires
of-net-requires c = let a = on-grid-at _ _ _ _ _ c.cell_of-x.ensures c.in-Some.is in let b = on-grid-at _ _ _ _ _ c.cell_of-z.ensures c.in-Some-z.is in record { sides = c.requires.fitted.over.sides; i_lt_nx = a.0; j_lt_ny = a.1; p_lt_nx = b.0; q_lt_ny = b.1 }

pub around-requires : goal.around-requires
around-requires c = let a = on-grid-at _ _ _ _ _ c.cell_of-x.ensures c.in-Some.is in let b = on-grid-at _ _ _ _ _ c.cell_of-z.ensures c.in-Some-z.is in let d = c.of-net.ensures in record { fitted = c.requires.fitted; tiled = c.fill.ensures; grid_value = lattice_grid _ _ _ _ _ _ d; over = c.requires.over; s_in_bounds = c.requires.s_in_bounds }

pub returns : goal.returns
returns c = record { w_after = link_around _ _ _ _ c.args.allowed.now _ c.requires.fitted c.args.u.now c.requires.s_in_bounds _ _ _ c.clear.ensures c.if-clear.false _ c.cell_of-x.ensures _ _ c.in-Some.is _ c.cell_of-z.ensures _ _ c.in-Some-z.is _ c.of-net.ensures _ c.around.ensures.w_after; only = c.around.ensures.only; only_2 = c.around.ensures.only_2 }
