-- `rims::boxes::fill_blocks` meets its contract. The invariant: the blocks so far stand in the table, and nothing else has changed. Assumes nothing.
use Prim.Native.Nat.{◌+◌, ◌≤◌}
use native.Mathlib.Omega.{arith}
use lib.ListN.{length}
use Rattle.numbers.proofs.RootLaws.{no_nan_bits}
use Rattle.rims.proofs.FirstLaws.{apart_none, apart-set}
use Rattle.rims.proofs.BlockLaws.{numbers_part, numbers-before, block_part, block-at, blocks-none, blocks_more, blocks_end}
use Rattle.rims.proofs.boxes.fill_blocks.Goals as goal
use Rattle.rims.proofs.boxes.fill_blocks.Goals.{After-min-in-loop-b}

-- where the block's entries end
ends : (c : After-min-in-loop-b) → c.args.at + 1 + c.min-in-loop-b.result ≤ length c.loop-b.w
ends c = let p = c.requires in omega (arith, c.min-in-loop-b.ensures, c.loop-b.invariant.0.long, p.n_bound.0, p.n_bound.1)

pub float_from_bits-w : goal.float_from_bits-w
float_from_bits-w c = no_nan_bits _ (omega (arith, c.block_of.ensures.0))

pub loop-b-preserved : goal.loop-b-preserved
loop-b-preserved c = let p = c.requires in
    let l = c.loop-b in
    let h = c.loop-b-test.true in (
      apart-set _ _ _ l.w _ _ (omega arith) (omega (arith, h)) l.invariant.0,
      blocks_more _ _ p.n_bound.0 _ l.w _ (omega (arith, h, l.invariant.0.long, p.n_bound.1)) c.block_of.ensures.0 (block-at _ _ _ _ _ _ _ c.min.ensures c.min-in-loop-b.ensures (block_part l.w _ _ (ends (goal.at.loop-b-preserved c).After-min-in-loop-b) _ c.block_of.ensures.1)) l.invariant.1,
    )
