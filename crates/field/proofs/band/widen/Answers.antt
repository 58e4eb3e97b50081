-- `field::band::widen` meets its contract. Assumes nothing.
use native.Mathlib.Omega.{arith}
use Rattle.field.proofs.BandLaws.{widened_is}
use Rattle.field.proofs.band.widen.Goals as goal

pub returns : goal.returns
returns c = let first = c.min-less.ensures in
    let second = c.min.ensures in
    widened_is _ _ _ _ _ (omega (arith, first)) second
