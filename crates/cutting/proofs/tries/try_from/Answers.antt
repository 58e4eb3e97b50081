-- `cutting::tries::try_from` meets its contract. Assumes nothing.
use Rattle.cutting.proofs.TriesLaws.{start_fits, try_only, try_is}
use Rattle.cutting.proofs.tries.try_from.Goals as goal

pub try_start-requires : goal.try_start-requires
try_start-requires c = let f = start_fits _ _ _ _ _ c.requires.fitted _ _ c.requires.among _ _ c.requires.closed_bound _ c.long-points.ensures in record { fitted = c.requires.fitted; ready = c.requires.ready; ahead = f.0; le_n = f.1 }

pub returns : goal.returns
returns c = record { map_unchanged = c.try_start.ensures.map_unchanged; only = try_only _ _ _ _ _ c.requires.fitted _ _ c.requires.among _ _ c.requires.closed_bound _ c.long-points.ensures _ c.try_start.ensures.w_after; result_after = try_is _ _ _ _ _ c.requires.fitted _ _ c.requires.among _ _ c.requires.closed_bound _ c.long-points.ensures _ _ _ _ c.try_start.ensures.result_after }
