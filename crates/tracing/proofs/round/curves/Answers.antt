-- `tracing::round::curves` meets its contract. Assumes nothing.
use mathlib.Core.Path.{refl, subst}
use mathlib.Core.List.{List}
use Rattle.setup.specs.Place.{cells_of}
use Rattle.pieces.specs.Piece.{Piece}
use Rattle.workspace.specs.Lies.{Lies}
use Rattle.tracing.proofs.RoundLaws.{smooth_asks, curves_lie, curves_beside, curves_are}
use Rattle.tracing.proofs.round.curves.Goals as goal

pub smooth-requires : goal.smooth-requires
smooth-requires c =
    let r = smooth_asks c.args.s _ _ _ c.requires.sides c.requires.room _ _ _ _ _ _ c.trace-c.ensures.laying c.trace-c.ensures.beside _ c.cells-n.ensures in
    record { n_le_most = r.0; n_in_bounds = r.1.0; n_in_bounds_2 = r.1.1.0; lying = r.1.1.1.0; laid = r.1.1.1.1 }

pub returns : goal.returns
returns c = let N = c.cells-n.ensures in
    let s = c.args.s in record {
      lies = subst (λ (l : List Piece). Lies (cells_of s) l c.trace-c.result.pieces c.smooth.new.u c.smooth.new.w) (curves_are s _ _ _ _ N c.level.ensures refl)
          (curves_lie s _ _ _ c.requires.sides c.requires.room _ _ _ _ _ _ c.trace-c.ensures.laying c.trace-c.ensures.beside _ N _ _ _ c.smooth.ensures.only c.smooth.ensures.only_2 c.smooth.ensures.lies);
      beside = curves_beside s _ _ _ c.requires.sides c.requires.room _ _ _ _ _ _ c.trace-c.ensures.laying c.trace-c.ensures.beside _ N s.grid.cell _ _ c.smooth.ensures.only c.smooth.ensures.only_2;
    }
