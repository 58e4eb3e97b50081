-- `links::path::keep` meets its contract. Assumes nothing.
use Rattle.links.proofs.ShortenLaws.{keep-is}
use Rattle.links.proofs.path.keep.Goals as goal

pub returns : goal.returns
returns c =
    let r = keep-is c.args.s _ _ c.cells-n.ensures _ c.path-from.ensures _ _ c.requires.s_in_bounds _ c.put.ensures in
    record { w_after = r.0; only = r.1 }
