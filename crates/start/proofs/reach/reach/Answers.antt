-- `start::reach::reach` meets its contract. Assumes nothing.
use borrow.Author.Rules.{rules}
use Rattle.start.proofs.ReachLaws.{reached_is}
use Rattle.start.proofs.reach.reach.Goals as goal

pub fill_allowed-requires : goal.fill_allowed-requires
fill_allowed-requires c = record { placed = c.requires.placed; s_in_bounds = c.requires.room.bytes; s_in_bounds_2 = search rules; b_value = c.requires.b_value }

pub returns : goal.returns
returns c = reached_is c.args.s c.args.vs.now c.args.lens.now c.args.b.now _ _ _ c.requires.room.bytes c.fill_walls.ensures c.fill_allowed.ensures c.fill_reach.ensures
