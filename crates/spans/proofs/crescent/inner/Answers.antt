-- `spans::crescent::inner` meets its contract. Assumes nothing.
use Prim.Native.Nat.{◌+◌, ◌-◌, ◌*◌, ◌≤◌}
use Rattle.spans.proofs.IdleLaws.{in_reach, inner-read, inner-is, inner-none}
use Rattle.spans.proofs.crescent.inner.Goals as goal
use Rattle.spans.proofs.crescent.inner.Goals.{Else-k-j}

near : (c : Else-k-j) → let s = c.args in (s.at.j ≤ s.y + s.s) × (s.y + s.s - s.at.j ≤ 2 * s.s)
near c = let s = c.args in in_reach (s.y + s.s) s.at.j s.s c.if-k-j.false

pub word_at-requires : goal.word_at-requires
word_at-requires c =
    let r = inner-read _ _ _ _ c.requires.spanning.0 c.requires.spanning.1 _ (near (goal.at.word_at-requires c).Else-k-j).1 in
    record { k_in_bounds = r.0; t = r.1 }

pub returns : goal.returns
returns c = let n = near (goal.at.returns c).Else-k-j in
    inner-is _ _ _ _ c.requires.spanning.0 c.requires.spanning.1 _ _ _ _ c.requires.placed n.0 n.1 c.word_at.result _ c.limits.ensures.0 c.limits.ensures.1 c.word_at.ensures
