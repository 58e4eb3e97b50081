-- `rims::contact::box_hits` meets its contract. The invariant: the hits are those of the blocks so far. Assumes nothing.
use mathlib.Core.Path.{◌∙◌}
use Prim.Native.Nat.{◌+◌, ◌*◌, min, zero-le, ◌<◌}
use native.Mathlib.Omega.{arith}
use Rattle.rims.proofs.HitLaws.{hits_few, no_blocks, counted, passed, all_blocks}
use Rattle.rims.proofs.NearLaws.{block_on, block-bare}
use Rattle.rims.proofs.contact.box_hits.Goals as goal
use Rattle.rims.proofs.contact.box_hits.Goals.{else-not-is_bare, then-not-is_bare}

pub loop-b-init : goal.loop-b-init
loop-b-init c = (omega arith, no_blocks _ _ _ _ _)

pub is_bare-requires : goal.is_bare-requires
is_bare-requires c = let p = c.requires in
    let a = p.around in record { sides = p.over.sides; nx_in_bounds = (p.tiled.long, a.place, a.long); block_on = block_on c.args.g p.over.sides _ _ _ _ _ _ _ a _ (omega (arith, c.loop-b-test.true)) }

pub overflow_add-h : goal.overflow_add-h
overflow_add-h c = let l = c.loop-b in
    omega (arith, counted c.args.g c.args.map.now c.args.c c.args.r c.args.n l.b l.h (omega (arith, c.loop-b-test.true)) l.invariant.1 _ c.block_hits-h.ensures, hits_few c.args.g c.args.map.now c.args.c c.args.r c.args.n 0 (min (8 * (l.b + 1)) c.args.n) zero-le, c.requires.around.few)

pub loop-b-preserved : goal.loop-b-preserved
loop-b-preserved c = let l = c.loop-b in
    let d : 8 * c.loop-b.b < c.args.n = omega (arith, c.loop-b-test.true) in (
      omega (arith, c.loop-b-test.true),
      elim c.if-not-is_bare.branch [ then-not-is_bare w ↦ w.h-is ∙ counted c.args.g c.args.map.now c.args.c c.args.r c.args.n l.b l.h d l.invariant.1 _ w.block_hits-h.ensures | else-not-is_bare w ↦ w.h-is ∙ passed c.args.g c.args.map.now c.args.c c.args.r c.args.n l.b l.h d l.invariant.1 (block-bare c.args.g c.requires.over.sides _ _ _ _ _ _ _ c.requires.around _ _ _ c.requires.tiled (c.is_bare.ensures w.if-not-is_bare.false)) ],
    )

pub returns : goal.returns
returns c = all_blocks _ _ _ _ _ _ _ (omega (arith, c.loop-b-test.false)) c.loop-b.invariant.1
