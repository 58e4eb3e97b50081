-- `pocket::far::distance_map` meets its contract. Assumes nothing.
use mathlib.Core.Path.{sym, ◌∙◌}
use native.Mathlib.Omega.{arith}
use Rattle.distance.proofs.NearestLaws.{transform_long}
use Rattle.std.specs.Prelude.{Ok, Err}
use Rattle.std.proofs.lemmas.Result.{err_from_is_err_and}
use Rattle.pocket.specs.Leaves.{on_far, distance_map_of}
use Rattle.pocket.proofs.LeafLaws.{is-refused, is-answered}
use Rattle.pocket.proofs.FarLaws.{far-room, far-done}
use Rattle.pocket.proofs.far.distance_map.Goals as goal

pub returns-in_err-ask_far : goal.returns-in_err-ask_far
unfolding distance_map_of
returns-in_err-ask_far c =
    let p = err_from_is_err_and c.from_residual.result c.from_residual.ensures.1 in
    rw (p.1, p.2) (let s = c.args in record { distances_after = is-refused (λ n. on_far (Err n) s.squares.now s.distances.now) _ _ c.ask_far.ensures _ c.in_err-ask_far.was _; transformed = tt })

pub transform-requires : goal.transform-requires
transform-requires c = let f = far-room _ _ _ _ _ (sym c.ask_far.ensures ∙ c.in_ok-ask_far.was) in record { map_sides = f.sides; nx_in_bounds = f.marked; nx_in_bounds_2 = f.squared }

pub overflow_mul-ny : goal.overflow_mul-ny
overflow_mul-ny c = let f = far-room _ _ _ _ _ (sym c.ask_far.ensures ∙ c.in_ok-ask_far.was) in
    omega (arith, f.few)

pub distances-requires : goal.distances-requires
distances-requires c = let s = c.args in
    let f = far-room _ _ _ _ _ (sym c.ask_far.ensures ∙ c.in_ok-ask_far.was) in record { n_in_bounds = omega (arith, f.squared, transform_long s.mark s.marks.now s.nx s.ny s.squares.now _ f.squared c.transform.ensures.work_after); n_in_bounds_2 = f.rooted }

pub returns : goal.returns
unfolding distance_map_of
returns c = let s = c.args in record { distances_after = is-answered (λ n. on_far (Err n) s.squares.now s.distances.now) _ _ c.ask_far.ensures c.in_ok-ask_far.was _ _ (far-done s.mark s.marks.now s.nx s.ny s.squares.now _ s.distances.now _ c.transform.ensures.work_after c.distances.ensures); transformed = c.transform.ensures.transformed }
