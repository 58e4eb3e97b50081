-- `field::band::marked_rows` meets its contract. Assumes nothing.
use Prim.Native.Nat.{◌-◌}
use native.Mathlib.Omega.{arith}
use native.Mathlib.Nat.{div-le_self}
use Rattle.field.proofs.BandLaws.{marked-none, marked-some}
use Rattle.field.proofs.band.marked_rows.Goals as goal

pub overflow_add-result : goal.overflow_add-result
overflow_add-result c = omega (arith, div-le_self (c.end_of-end.result - 1) c.args.nx)

pub returns-then-first-end : goal.returns-then-first-end
returns-then-first-end c = let first = c.first_of-first.ensures in
    let end = c.end_of-end.ensures in
    marked-some _ _ _ first.1 end.1 _ _ c.requires.marks_len c.requires.nx_nonzero end.0 c.if-first-end.true

pub returns : goal.returns
returns c = let first = c.first_of-first.ensures in
    let end = c.end_of-end.ensures in
    marked-none _ _ _ first.1 end.1 _ _ c.requires.marks_len c.if-first-end.false
