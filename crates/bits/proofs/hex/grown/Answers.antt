-- `bits::hex::grown` meets its contract. Assumes nothing.
use Rattle.std.proofs.Common.{◌∙◌, ap, sym, arith}
use Rattle.bits.specs.Hex.{behind, grown}
use Rattle.bits.proofs.HexLaws.{digit_small}
use Rattle.bits.proofs.hex.grown.Goals as goal

pub returns-in_err-d : goal.returns-in_err-d
unfolding grown
returns-in_err-d c = c.from_residual.ensures ∙ ap (behind c.args.n) (c.in_err-d.ensures)

pub overflow_add-result : goal.overflow_add-result
overflow_add-result c = omega (arith, digit_small c.args.c c.in_ok-d.d (sym (c.in_ok-d.ensures)))

pub returns-then-n-le1152921504606846975 : goal.returns-then-n-le1152921504606846975
unfolding grown
returns-then-n-le1152921504606846975 c = grind (arith, ap (behind c.args.n) (c.in_ok-d.ensures))

pub returns-else-n-le1152921504606846975 : goal.returns-else-n-le1152921504606846975
unfolding grown
returns-else-n-le1152921504606846975 c = grind (arith, ap (behind c.args.n) (c.in_ok-d.ensures))
