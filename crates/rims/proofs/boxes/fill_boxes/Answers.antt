-- `rims::boxes::fill_boxes` meets its contract. Assumes nothing.
use mathlib.Core.Path.{◌≡◌, ◌∙◌}
use native.Mathlib.Omega.{arith}
use lib.ListN.{length, length-set}
use lib.Ieee.{binary64, of_bits}
use Rattle.numbers.proofs.RootLaws.{no_nan_bits}
use Rattle.rims.proofs.BoxLaws.{entries-numbers, rim-apart, boxed_short, head_apart, boxed_no, flag-number, then_blocks, boxed_yes, reach-some}
use Rattle.rims.proofs.boxes.fill_boxes.Goals as goal
use Rattle.rims.proofs.boxes.fill_boxes.Goals.{After-slice_known-then-is_tame-2-1}

pub fill_entries-requires : goal.fill_entries-requires
fill_entries-requires c = let p = c.requires in
    let k = p.n_bound in
    let l = c.if-w-lt17152.false in
    let n = length-set c.args.w.now c.args.at (of_bits binary64 0) in record { sides = p.sides; tame = c.is_tame.ensures c.if-is_tame.true; rim = rim-apart c.args.n c.args.at _ c.args.w.now _ (omega (arith, k.0, k.1)) (head_apart c.args.g c.args.r c.args.n c.args.at c.args.w.now (omega (arith, l, k.2))) p.rim; s_nonzero = (reach-some _ _ _ c.reach_of-s.ensures.0, k.0, omega (arith, k.1), omega (arith, n, l, k.2)) }

pub fill_blocks-requires : goal.fill_blocks-requires
fill_blocks-requires c = let k = c.requires.n_bound in
    let e = c.fill_entries.ensures in record { n_bound = (k.0, omega (arith, e.0.long, length-set c.args.w.now c.args.at (of_bits binary64 0), c.if-w-lt17152.false, k.2)); numbers = entries-numbers _ _ _ _ _ _ e.1 }

pub float_from_bits-w : goal.float_from_bits-w
float_from_bits-w c = no_nan_bits _ (omega (arith, c.reach_of-s.ensures.1))

pub returns-then-is_tame : goal.returns-then-is_tame
returns-then-is_tame c = let p = c.requires in
    let k = p.n_bound in
    let l = c.if-w-lt17152.false in
    let b = c.fill_blocks.ensures in
    let e = then_blocks c.args.g c.args.r c.args.n c.args.at _ _ _ _ k.0 c.fill_entries.ensures b.0 in
    boxed_yes c.args.g c.args.r c.args.n c.args.at c.args.w.now (omega (arith, l, k.2)) p.sides (omega (arith, k.1)) k.0 l p.started _ c.reach_of-s.ensures.1 _ e.0 e.1 b.1 c.if-w-ne0.true

pub returns-else-is_tame : goal.returns-else-is_tame
returns-else-is_tame c = boxed_no c.args.g c.args.r c.args.n c.args.at c.args.w.now (omega (arith, c.if-w-lt17152.false, c.requires.n_bound.2))

pub returns-else-w-ne0 : goal.returns-else-w-ne0
returns-else-w-ne0 c = boxed_no c.args.g c.args.r c.args.n c.args.at c.args.w.now (omega (arith, c.if-w-lt17152.false, c.requires.n_bound.2))
