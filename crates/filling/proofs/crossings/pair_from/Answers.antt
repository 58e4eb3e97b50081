-- `filling::crossings::pair_from` meets its contract. Assumes nothing.
use mathlib.Core.Path.{ap}
use Rattle.filling.specs.Columns.{left_from}
use Rattle.filling.proofs.CrossingLaws.{paired_alone, paired_two}
use Rattle.filling.proofs.crossings.pair_from.Goals as goal

pub returns-in_default : goal.returns-in_default
returns-in_default c = paired_alone _ _ _ _ _ _ _ _ c.requires.n_in_bounds.2 c.edge_columns-k.ensures c.next_crossing.ensures.0 (ap (left_from c.args.n) c.in_default.is)

pub returns : goal.returns
returns c = paired_two _ _ _ _ _ _ _ _ _ _ c.requires.n_in_bounds.2 c.edge_columns-k.ensures c.in-Some.ensures.0 c.in-Some.ensures.1
    c.edge_columns-l.ensures c.next_crossing-2.ensures.0 c.next_crossing-2.ensures.1 _ c.ordered.ensures
