-- `filling::rows::set_and_uncover` meets its contract. Assumes nothing.
use mathlib.Core.Path.{sym, subst}
use mathlib.Core.List.{List}
use Prim.Native.Nat.{ℕ}
use Rattle.filling.specs.Columns.{Shows, nowhere}
use Rattle.filling.proofs.RowLaws.{blank-after}
use Rattle.filling.proofs.rows.set_and_uncover.Goals as goal

pub returns : goal.returns
returns c = let f = c.set_free in
    (f.ensures, subst (λ (l : List ℕ). Shows c.args.n nowhere l) (sym c.paint.ensures) (blank-after c.args.n c.args.cover.now c.requires.2))
