-- `links::link::search` meets its contract. Assumes nothing.
use Rattle.links.proofs.LinkLaws.{tell_room, told-long, search_is}
use Rattle.links.proofs.link.search.Goals as goal

pub returns : goal.returns
returns c =
    let r = search_is _ c.args.net.laid c.args.map.now c.args.u.now c.requires.l_in_bounds _ c.cells.ensures _ c.before-end.ensures _ c.tell_nodes.ensures.telling c.tell_nodes.ensures.work_len_unchanged _ _ _ _ _ c.seek.ensures.u_after c.seek.ensures.only c.seek.ensures.costs_len_unchanged in
    record { u_after = r.0; only = r.1.0; costs_len_unchanged = r.1.1 }
