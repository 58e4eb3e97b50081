-- `numbers::bound::Bound::root_reaches` meets its contract. Assumes nothing.
use Rattle.std.proofs.Common.{T, sym, ap, subst}
use lib.Ieee.{le}
use Rattle.numbers.proofs.BoundLaws.{reaches}
use Rattle.numbers.proofs.bound.Bound.root_reaches.Goals as goal

pub returns-in-Some : goal.returns-in-Some
returns-in-Some c = sym (reaches _ _ (c.args.self.bounds _ c.in-Some.is) c.args.x (subst T (sym c.well_formed.1.0.1) tt) c.requires)
