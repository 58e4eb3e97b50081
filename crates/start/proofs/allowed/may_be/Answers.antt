-- `start::allowed::may_be` meets its contract. Assumes nothing.
use mathlib.Core.Path.{sym, ◌∙◌, subst}
use mathlib.Core.Bool.{true, false}
use Rattle.start.specs.Blocks.{Known}
use Rattle.start.proofs.ReachLaws.{may_out, may_wall, may_clear}
use Rattle.start.proofs.allowed.may_be.Goals as goal

pub returns-then-inside-ne1 : goal.returns-then-inside-ne1
returns-then-inside-ne1 c = may_out _ _ _ _ _ _ c.if-inside-ne1.true

pub returns-then-wall-s : goal.returns-then-wall-s
returns-then-wall-s c = may_wall _ _ _ _ _ _ c.if-inside-ne1.false c.if-wall-s.true

pub is_clear-requires : goal.is_clear-requires
is_clear-requires c = record { placed = c.requires.placed; known = subst (λ z. Known c.args.s c.args.vs.now c.args.lens.now c.args.c.0 z c.args.apart) c.if-inside-ne1.false c.requires.known }

pub returns-then-is_clear : goal.returns-then-is_clear
returns-then-is_clear c = may_clear _ _ _ _ _ _ c.if-inside-ne1.false c.if-wall-s.false true (sym c.if-is_clear.true ∙ c.is_clear.ensures)

pub returns : goal.returns
returns c = may_clear _ _ _ _ _ _ c.if-inside-ne1.false c.if-wall-s.false false (sym c.if-is_clear.false ∙ c.is_clear.ensures)
