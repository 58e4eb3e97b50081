-- `field::round::clear_dirty` meets its contract. Assumes nothing.
use Rattle.field.proofs.RoundLaws.{dirty-is}
use Rattle.field.proofs.round.clear_dirty.Goals as goal

pub returns : goal.returns
returns c = dirty-is _ c.requires.sides _ c.cells-n.ensures _ _ _ c.dirty-a.ensures c.requires.nx_in_bounds (c.fill.ensures.after (λ y h. h))
