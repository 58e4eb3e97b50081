-- `filling::rows::set_columns` meets its contract. Assumes nothing.
use mathlib.Core.Path.{subst}
use native.Mathlib.Omega.{arith}
use Rattle.filling.specs.Columns.{InRow}
use Rattle.filling.proofs.RowLaws.{put_covered, put-plain, put_shown, put_many}
use Rattle.filling.proofs.rows.set_columns.Goals as goal

pub returns-then-some : goal.returns-then-some
returns-then-some c = let f = c.set_and_uncover.ensures in
    put_covered _ _ _ _ _ _ _ _ _ c.in-Run.is _ _ f.0 f.1

pub returns-then-some-2 : goal.returns-then-some-2
returns-then-some-2 c = let f = c.set_and_uncover-then-some-2.ensures in
    put_many _ _ _ _ _ _ _ c.in-Many.is _ _ _ _ c.cover_where.ensures f.0 f.1

pub returns-else-some : goal.returns-else-some
returns-else-some c = put-plain _ _ _ _ _ _ _ _ _ c.in-Run.is c.if-some.false _ c.paint.ensures

pub returns-else-some-2 : goal.returns-else-some-2
returns-else-some-2 c = let f = c.set_shown.ensures in
    put_shown _ _ _ _ _ _ _ c.in-Many.is c.if-some-2.false _ _ f.0 f.1
