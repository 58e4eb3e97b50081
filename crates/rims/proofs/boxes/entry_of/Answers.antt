-- `rims::boxes::entry_of` meets its contract. Assumes nothing.
use native.Mathlib.Omega.{arith}
use Rattle.rims.proofs.BoxLaws.{entry-is, entry-none}
use Rattle.rims.proofs.boxes.entry_of.Goals as goal

pub returns-then-are_near-2 : goal.returns-then-are_near-2
returns-then-are_near-2 c = let a = c.guess-a.ensures in
    let b = c.guess-c.ensures in (
      omega (arith, a, b),
      entry-is c.args.g c.requires.sides c.requires.tame c.args.r c.args.s c.requires.s_nonzero c.args.u _ c.scale-v.ensures _ _ a b (c.are_near.ensures c.if-are_near.true) (c.are_near-then-are_near.ensures c.if-are_near-2.true),
    )
