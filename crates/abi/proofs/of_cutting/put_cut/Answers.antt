-- `abi::of_cutting::put_cut` meets its contract. Assumes nothing.
use mathlib.Core.Path.{ap, ◌∙◌}
use Rattle.std.specs.Prelude.{Ok}
use Rattle.abi.proofs.CutLaws.{nothing-told, kept-told, full-told}
use Rattle.abi.proofs.of_cutting.put_cut.Goals as goal

pub returns-in-Nothing : goal.returns-in-Nothing
returns-in-Nothing c = let a = c.args in
    let r = nothing-told _ _ a.counts.now _ a.floats.now _ (c.in-Ok.is ∙ ap Ok c.in-Nothing.is) c.put_state.ensures.counts_after c.put_state.ensures.floats_after in
    record { value = r.0; counts_after = r.1.0; floats_after = r.1.1 }

pub returns-in-Kept : goal.returns-in-Kept
returns-in-Kept c = let a = c.args in
    let r = kept-told _ _ a.counts.now _ a.floats.now _ (c.in-Ok.is ∙ ap Ok c.in-Kept.is) c.put_state-in-Kept.ensures.counts_after c.put_state-in-Kept.ensures.floats_after in
    record { value = r.0; counts_after = r.1.0; floats_after = r.1.1 }

pub returns-in-Err : goal.returns-in-Err
returns-in-Err c = let a = c.args in
    let r = full-told _ _ _ a.counts.now a.floats.now c.in-Err.is c.into.ensures in
    record { value = r.0; counts_after = r.1.0; floats_after = r.1.1 }
