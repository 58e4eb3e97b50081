-- `distance::rows::envelope` meets its contract. The invariant: the stack is that of the parabolas before q. Assumes nothing.
use mathlib.Core.Path.{refl, sym, ap, ◌∙◌}
use Prim.Native.Nat.{◌+◌}
use native.Mathlib.Omega.{arith}
use Rattle.distance.specs.Envelope.{Keyed, row_keys, key_of}
use Rattle.distance.proofs.EnvelopeLaws.{stack-none, stack_same, sound, rest-none, rest_trans}
use Rattle.distance.proofs.RowLaws.{keyed, row-keys}
use Rattle.distance.proofs.rows.envelope.Goals as goal
use Rattle.distance.proofs.rows.envelope.Goals.{Start}

made : (c : Start) → Keyed (row_keys c.args.work.now c.args.base) c.args.nx
made c = keyed c.args.work.now c.args.base _ _ c.requires.nx_bound (row-keys c.args.work.now c.args.base _)

pub place-n-requires : goal.place-n-requires
place-n-requires c = let i = c.loop-q.invariant in record { nx_bound = c.requires.nx_bound_2; nx_in_bounds = omega (arith, c.requires.nx_in_bounds, i.long); sound = sound _ _ _ _ _ _ (made (goal.at.place-n-requires c).Start) i.high i.stack; q_lt_nx = c.loop-q-test.true }

pub loop-q-preserved : goal.loop-q-preserved
loop-q-preserved c = let l = c.loop-q in
    let t = c.loop-q-test.true in
    let p = c.place-n in
    record {
      high = omega arith;
      long = p.auto.work ∙ l.invariant.long;
      stack = p.ensures.taken (row_keys c.args.work.now c.args.base) (made (goal.at.loop-q-preserved c).Start) (ap (key_of l.q) (sym (l.invariant.rest.left (c.args.base + l.q) (omega (arith, c.requires.nx_bound_2))))) l.invariant.stack;
      rest = rest_trans l.invariant.rest p.ensures.rest;
    }
