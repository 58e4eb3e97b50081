-- `start::blocks::block_of` meets its contract. Assumes nothing.
use Rattle.loops.proofs.Cases.{never}
use Rattle.start.proofs.blocks.block_of.Goals as goal

pub block_at-requires : goal.block_at-requires
block_at-requires c = record { placed = c.requires.placed; plain = c.requires.plain c.if-plain.true }

pub returns-then-plain : goal.returns-then-plain
returns-then-plain c = (c.block_at.ensures.0, λ t. c.block_at.ensures.1)

pub returns : goal.returns
returns c = (record { none = never }, never)
