-- `spans::crescent::is_idle` meets its contract. Assumes nothing.
use mathlib.Core.Path.{refl}
use native.Mathlib.Omega.{arith}
use Rattle.loops.proofs.CellLaws.{row_below}
use Rattle.spans.proofs.IdleLaws.{idle-is}
use Rattle.spans.proofs.crescent.is_idle.Goals as goal

pub returns : goal.returns
returns c = λ t.
    idle-is _ _ _ _ _ _ _ c.outer-o.result c.inner-n.result c.requires.over.sides refl c.outer-o.ensures c.inner-n.ensures (c.is_bare.ensures t)
