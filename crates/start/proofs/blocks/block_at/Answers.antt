-- `start::blocks::block_at` meets its contract. Assumes nothing.
use native.Mathlib.Omega.{arith}
use native.Mathlib.Nat.{mod-lt}
use Rattle.start.proofs.BlockLaws.{told_is}
use Rattle.start.proofs.blocks.block_at.Goals as goal

pub more_from-more-requires : goal.more_from-more-requires
more_from-more-requires c = omega (arith, mod-lt c.args.c.0 c.requires.placed.sides.wide, c.column_of-i.ensures)

pub returns : goal.returns
returns c = let m = c.more_from-more in (
  told_is c.args.s c.requires.plain c.requires.placed.sides c.args.vs.now c.args.lens.now c.args.c.0 _ _ m.result _ _ _ _ c.column_of-i.ensures
      c.row_of-j.ensures m.ensures c.center-lo.ensures c.center-hi.ensures c.index_of.ensures c.all_apart.ensures,
  omega (arith, c.index_of.ensures),
)
