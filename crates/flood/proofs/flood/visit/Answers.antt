-- `flood::flood::visit` meets its contract. Assumes nothing.
use mathlib.Core.Path.{ap, ◌∙◌}
use Prim.Native.Nat.{ℕ, ◌+◌}
use native.Mathlib.Omega.{arith}
use Rattle.flood.proofs.FloodLaws.{visit_open, visit_shut}
use Rattle.flood.proofs.flood.visit.Goals as goal

pub returns-then-is_open : goal.returns-then-is_open
returns-then-is_open c = let k = c.index_of-k.ensures ∙ c.cell_in-c.ensures in
    let r = visit_open c.args.g _ _ _ c.requires.nx_in_bounds _ (omega (arith, k, c.requires.len_bound)) k _ c.is_open.ensures c.if-is_open.true _ (ap (λ (x : ℕ). x + c.index_of-k.result) c.abandoned.ensures) _ c.index_of-k.ensures _ c.push_around.ensures in
    record { b_after = r.0; only = r.1 }

pub returns : goal.returns
returns c = let k = c.index_of-k.ensures ∙ c.cell_in-c.ensures in
    let r = visit_shut c.args.g _ _ _ c.requires.nx_in_bounds _ (omega (arith, k, c.requires.len_bound)) k _ c.is_open.ensures c.if-is_open.false in
    record { b_after = r.0; only = r.1 }
