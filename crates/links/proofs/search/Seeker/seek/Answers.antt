-- `links::search::Seeker::seek` meets its contract. Assumes nothing.
use native.Mathlib.Omega.{arith}
use Rattle.links.proofs.SeekLaws.{seek_asks, run_asks, seek_is}
use Rattle.links.proofs.search.Seeker.seek.Goals as goal

pub begin-requires : goal.begin-requires
begin-requires c =
    let r = seek_asks _ c.args.self.now.net.laid _ c.args.costs.now c.requires.l_in_bounds c.requires.l_in_bounds_2 _ c.cells-n.ensures _ c.before-from.ensures _ c.segments-to.ensures in
    record { l_in_bounds = r.1.0; l_in_bounds_2 = r.1.1 }

pub run-requires : goal.run-requires
run-requires c = let r = run_asks _ c.args.self.now.net.laid _ c.args.costs.now c.requires.l_in_bounds c.requires.l_in_bounds_2 _ c.cells-n.ensures _ c.before-from.ensures _ c.segments-to.ensures _ _ c.begin.ensures.costs_after c.begin.ensures.grown in record { searching = r.0; costs_value = r.1 }

pub returns : goal.returns
returns c =
    let r = seek_is _ c.args.self.now.net.laid _ c.args.costs.now c.requires.l_in_bounds c.requires.l_in_bounds_2 _ c.cells-n.ensures _ c.before-from.ensures _ c.segments-to.ensures _ _ c.begin.ensures.costs_after c.begin.ensures.grown _ _ _ _ c.run.ensures.u_after c.run.ensures.only c.run.ensures.costs_len_unchanged in
    record { u_after = r.0; only = r.1.0; costs_len_unchanged = r.1.1 }
