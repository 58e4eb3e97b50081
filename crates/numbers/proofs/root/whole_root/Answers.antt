-- `numbers::root::whole_root` meets its contract. Assumes nothing.
use Rattle.numbers.proofs.RootLaws.{whole-root-is}
use Rattle.numbers.proofs.root.whole_root.Goals as goal

pub returns : goal.returns
returns c = whole-root-is c.args.n _ _ _ c.requires.n_nonzero c.requires.n_bound c.moved-p.ensures c.root_from.ensures
