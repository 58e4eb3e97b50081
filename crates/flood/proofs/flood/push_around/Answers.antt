-- `flood::flood::push_around` meets its contract. Assumes nothing.
use mathlib.Core.Path.{sym, ap, ◌∙◌}
use native.Mathlib.Omega.{arith}
use native.Mathlib.Nat.{mod-lt}
use lib.Dec.{ltb}
use borrow.Author.Tests.{ltb-true}
use Rattle.flood.proofs.FloodLaws.{left_there, down_there, row_there, around_is}
use borrow.Author.Rules.{rules}
use Rattle.flood.proofs.flood.push_around.Goals as goal

pub returns : goal.returns
returns c = around_is c.args.g _ _ _ _ c.index_of-k.ensures c.column_of-i.ensures c.row_of-j.ensures _ _ _ _ _ c.push_if-left.ensures.stack_after c.push_if-down.ensures.stack_after c.push_if-right.ensures.stack_after c.push_if.ensures.stack_after
