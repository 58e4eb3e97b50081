-- `links::link::shade_nodes` meets its contract. Assumes nothing.
use Rattle.links.proofs.TellLaws.{shaded_tell}
use Rattle.links.proofs.link.shade_nodes.Goals as goal

pub returns : goal.returns
returns c =
    let r = shaded_tell _ c.args.net.laid c.args.map.now _ c.args.net.bound _ c.requires.takes _ _ c.shade.ensures in
    record { telling = r.0; work_len_unchanged = r.1 }
