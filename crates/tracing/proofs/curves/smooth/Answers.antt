-- `tracing::curves::smooth` meets its contract. Assumes nothing.
use Rattle.tracing.proofs.CurvesLaws.{smooth_laid, smoothed-lies, smoothed-rows, smoothed-points}
use Rattle.tracing.proofs.curves.smooth.Goals as goal

pub smooth_all-requires : goal.smooth_all-requires
smooth_all-requires c = smooth_laid _ _ _ _ _ _ c.args.cell _ _ c.requires.n_in_bounds c.requires.n_in_bounds_2 c.requires.lying c.rows-rows.ensures c.log-log.ensures c.traced-traced.ensures c.guide-guide.ensures c.requires.laid

pub returns : goal.returns
returns c = let n = c.rows-rows.ensures in
    let l = c.log-log.ensures in
    let t = c.traced-traced.ensures in
    let e = c.smooth_all.ensures in record { lies = smoothed-lies _ _ _ _ _ _ _ _ _ c.requires.n_in_bounds c.requires.n_in_bounds_2 c.requires.lying n l t c.guide-guide.ensures _ _ e; only = smoothed-rows _ _ _ _ _ _ _ _ _ c.requires.n_in_bounds c.requires.n_in_bounds_2 c.requires.lying n l t c.guide-guide.ensures _ _ e; only_2 = smoothed-points _ _ _ _ _ _ _ _ _ c.requires.n_in_bounds c.requires.n_in_bounds_2 c.requires.lying n l t c.guide-guide.ensures _ _ e }
