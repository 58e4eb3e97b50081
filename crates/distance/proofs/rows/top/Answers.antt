-- `distance::rows::top` meets its contract. Assumes nothing.
use Prim.Native.Nat.{◌-◌, ◌≤◌}
use native.Mathlib.Omega.{arith}
use Rattle.distance.specs.Envelope.{Entry, key_at}
use Rattle.distance.proofs.EnvelopeLaws.{taken-first, taken-top, taken_none, key_le, rest-none, rest-top}
use Rattle.distance.proofs.rows.top.Goals as goal
use Rattle.distance.proofs.rows.top.Goals.{Else-r-eq0}

pub returns-then-x-nx : goal.returns-then-x-nx
returns-then-x-nx c = let p = c.push-then-x-nx.ensures in
    let l = c.if-r-eq0.false in
    let o = c.requires.popped.fewer in
    let f = c.requires.sound.few in record { taken = taken-top _ _ _ _ _ _ _ c.requires.popped c.requires.q_lt_nx (omega arith) (omega arith) _ c.meet-x.ensures _ c.if-x-nx.true p; rest = rest-top p (omega arith) }

pub returns : goal.returns
returns c = let l = c.if-r-eq0.false in record { taken = taken_none _ _ _ _ _ _ _ c.requires.popped c.requires.q_lt_nx (omega arith) (omega arith) _ c.meet-x.ensures c.if-x-nx.false; rest = rest-none _ _ _ }
