-- `rims::contact::is_bare` meets its contract. Assumes nothing.
use mathlib.Core.Path.{◌≡◌, subst}
use Prim.Native.Nat.{ℕ, ◌+◌, ◌-◌, ◌*◌, ◌/◌, ◌%◌, ◌<◌}
use native.Mathlib.Omega.{arith}
use lib.ListN.{length, get_or}
use borrow.Author.Tests.{eqb-true}
use Rattle.loops.proofs.Cases.{never}
use Rattle.rims.specs.Boxes.{block_at}
use Rattle.rims.proofs.TileLaws.{tile_number, tile_below}
use Rattle.rims.proofs.contact.is_bare.Goals as goal
use Rattle.rims.proofs.contact.is_bare.Goals.{After-tiles_of, Then-x-gt0}

-- its tile is one of those that are kept
inside : (c : After-tiles_of) → (c.args.j + (block_at c.args.w.now c.args.at c.args.b - 1) / 4096) / 8 * c.tiles_of.result + (c.args.i + (block_at c.args.w.now c.args.at c.args.b - 1) % 4096) / 8 < length c.args.tiles.now
inside c = omega (arith, tile_below c.args.g _ _ _ c.tiles_of.ensures ((let told : c.args.i + (block_at c.args.w.now c.args.at c.args.b - 1) % 4096 < c.args.g.nx = c.requires.block_on.column c.if-b-lt255.true c.if-x-gt0.true in told)) ((let told : c.args.j + (block_at c.args.w.now c.args.at c.args.b - 1) / 4096 < c.args.g.ny = c.requires.block_on.row c.if-b-lt255.true c.if-x-gt0.true in told)), c.requires.nx_in_bounds.0)

pub overflow_mul-result : goal.overflow_mul-result
overflow_mul-result c = omega (arith, inside (goal.at.overflow_mul-result c).After-tiles_of)

pub overflow_add-result : goal.overflow_add-result
overflow_add-result c = omega (arith, inside (goal.at.overflow_add-result c).After-tiles_of)

pub bounds-tiles-q : goal.bounds-tiles-q
bounds-tiles-q c = inside (goal.at.bounds-tiles-q c).After-tiles_of

pub returns-then-x-gt0 : goal.returns-then-x-gt0
returns-then-x-gt0 c = λ t.
    record {
      one = c.if-b-lt255.true;
      some = c.if-x-gt0.true;
      bare = subst (λ (k : ℕ). get_or c.args.tiles.now k 0 ≡ 0) (tile_number c.args.g _ _ _ c.tiles_of.ensures) (eqb-true _ _ t);
    }
