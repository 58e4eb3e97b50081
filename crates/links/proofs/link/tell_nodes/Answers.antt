-- `links::link::tell_nodes` meets its contract. Assumes nothing.
use native.Mathlib.Omega.{arith}
use Rattle.links.proofs.TellLaws.{transform_asks, squares_tell}
use Rattle.links.proofs.link.tell_nodes.Goals as goal

pub returns : goal.returns
returns c =
    let r = squares_tell _ c.args.net.laid c.args.map.now c.args.work.now c.requires.l_in_bounds _ c.transform.ensures.work_after in
    record { telling = r.0; work_len_unchanged = r.1 }
