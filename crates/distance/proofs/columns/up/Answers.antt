-- `distance::columns::up` meets its contract. The invariant: the cells from k on hold the rows to the nearest mark. Assumes nothing.
use mathlib.Core.Path.{◌≡◌, refl, sym, ap, ◌∙◌}
use Prim.Native.Nat.{ℕ, ◌-◌, ◌+◌}
use native.Mathlib.Omega.{arith}
use lib.ListN.{length-set}
use Rattle.distance.proofs.ColumnLaws.{raised_same, up_none, step-up}
use Rattle.distance.proofs.columns.up.Goals as goal

pub loop-k-init : goal.loop-k-init
loop-k-init c = record { high = omega arith; long = refl; up = raised_same (ap (λ (n : ℕ). n - c.args.nx) (sym c.requires.cells_value)) (up_none _ _ _ (omega arith)) }

pub loop-k-preserved : goal.loop-k-preserved
loop-k-preserved c = let l = c.loop-k in
    record {
      high = omega arith;
      long = length-set l.work (l.k - 1) _ ∙ l.invariant.long;
      up = rw c.from_below.ensures (step-up _ _ _ _ _ (raised_same (let e : l.k ≡ l.k - 1 + 1 = omega arith in e) l.invariant.up) (omega arith) (omega arith) (omega arith));
    }
