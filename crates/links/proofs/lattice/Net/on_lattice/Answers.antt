-- `links::lattice::Net::on_lattice` meets its contract. Assumes nothing.
use Rattle.links.proofs.LatticeLaws.{on_fits, off-left, off-below, off-right, off-above, on_there}
use Rattle.links.proofs.lattice.Net.on_lattice.Goals as goal

pub returns-then-a-lt1 : goal.returns-then-a-lt1
returns-then-a-lt1 c = off-left _ _ _ c.if-a-lt1.true

pub returns-then-b-lt1 : goal.returns-then-b-lt1
returns-then-b-lt1 c = off-below _ _ _ c.if-a-lt1.false c.if-b-lt1.true

pub returns-then-l-a : goal.returns-then-l-a
returns-then-l-a c = off-right _ _ _ c.if-a-lt1.false c.if-b-lt1.false c.if-l-a.true

pub returns-then-l-b : goal.returns-then-l-b
returns-then-l-b c = off-above _ _ _ c.if-a-lt1.false c.if-b-lt1.false c.if-l-a.false c.if-l-b.true

pub node_at-requires : goal.node_at-requires
node_at-requires c =
    let r = on_fits _ _ _ c.args.self.laid c.if-l-a.false c.if-l-b.false in
    record { gi_bound = r.0; gx_bound = r.1 }

pub returns : goal.returns
returns c = on_there _ _ _ c.if-a-lt1.false c.if-b-lt1.false c.if-l-a.false c.if-l-b.false _ c.node_at.ensures
