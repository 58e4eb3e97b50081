-- `passes::guide::blend_in` meets its contract. Assumes nothing.
use Rattle.loops.specs.Regions.{within}
use Rattle.passes.proofs.LayLaws.{part_some, blend_none, blend_some}
use Rattle.passes.proofs.guide.blend_in.Goals as goal

pub choose-b-requires : goal.choose-b-requires
unfolding within
choose-b-requires c = record { walls = c.requires.walls; over = c.requires.over; in_bounds = part_some _ _ _ c.requires.m_in_bounds c.requires.le_m }

pub returns-in_default : goal.returns-in_default
unfolding within
returns-in_default c =
    let r = blend_none _ _ _ c.requires.m_in_bounds _ _ _ _ c.choose-b.ensures c.in_default.is in
    record { value = r.0; w_after = r.1 }

pub returns : goal.returns
unfolding within
returns c =
    let r = blend_some _ _ _ c.requires.m_in_bounds _ _ _ _ c.choose-b.ensures _ c.in-Some.is _ c.bend.ensures.guide_len_unchanged c.bend.ensures.guide_after in
    record { value = r.0; w_after = r.1 }
