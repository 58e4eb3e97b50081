-- `filling::columns::columns_of` meets its contract. The invariant: the bytes and the last pair tell the answers of the edges so far. Assumes nothing.
use mathlib.Core.Path.{◌≡◌, refl, ap, ◌∙◌, subst}
use Prim.Native.Nat.{ℕ, ◌≤◌}
use native.Mathlib.Omega.{arith}
use Rattle.std.specs.Prelude.{Option}
use Rattle.filling.specs.Columns.{left_from}
use Rattle.filling.proofs.ScanLaws.{Scanned, scan_none, scan_more, scan_many, scan_run}
use Rattle.filling.proofs.columns.columns_of.Goals as goal
use Rattle.filling.proofs.columns.columns_of.Goals.{In_default}

-- no edge is left
none : (c : In_default) → c.args.n ≤ left_from c.args.n c.loop-next.next
none c = let e : left_from c.args.n c.loop-next.next ≡ c.args.n = ap (left_from c.args.n) c.in_default.is in omega arith

pub loop-next-init : goal.loop-next-init
loop-next-init c = let e = c.next_crossing-next.ensures in (scan_none _ _ _ _ _ _ _ c.requires.blank e.0, refl, e.1)

pub loop-next-preserved : goal.loop-next-preserved
loop-next-preserved c =
    let s = c.args in
    let l = c.loop-next in
    let t = c.turn.ensures in
    let p = c.pair_from-p.ensures in
    let so_far = subst (λ (o : Option ℕ). Scanned s.xs.now s.vs.now s.at s.n s.y l.a l.b l.many l.row (left_from s.n o)) c.in-Some.is l.invariant.0 in
    (scan_more _ _ _ _ _ _ _ _ _ _ so_far _ t _ p, t.long ∙ l.invariant.1, p.next-on)

pub returns-then-many : goal.returns-then-many
returns-then-many c = scan_many _ _ _ _ _ _ _ _ _ _ c.loop-next.invariant.0 _ c.turn-then-many.ensures (none (goal.at.returns-then-many c).In_default)

pub returns : goal.returns
returns c = scan_run _ _ _ _ _ _ _ _ _ _ c.loop-next.invariant.0 (none (goal.at.returns c).In_default) c.if-many.false
