-- `filling::rows::cover_islands` meets its contract. The invariant: the columns of the islands before l are covered, and `at` is where loop l starts. Assumes nothing.
use mathlib.Core.Path.{◌≡◌, refl, ap, ◌∙◌, subst}
use Prim.Native.Nat.{ℕ, ◌+◌, ◌*◌, ◌≤◌}
use native.Mathlib.Omega.{arith}
use lib.ListN.{length}
use Rattle.geom.specs.Region.{start_of, in_island}
use Rattle.geom.proofs.RegionLaws.{region, start_second, start-next, first-held, loop-held, inside_is}
use Rattle.filling.specs.Columns.{Islands}
use Rattle.filling.proofs.RowLaws.{any_to, islands_none, islands_more}
use Rattle.filling.proofs.rows.cover_islands.Goals as goal
use Rattle.filling.proofs.rows.cover_islands.Goals.{After-size-n}
use Rattle.filling.proofs.rows.cover_islands.Invariants.{inColumn}

-- the loop's vertices are lent
held : (c : After-size-n) → 2 * (c.loop-l.at + c.size-n.result) ≤ length c.args.vs.now
held c =
    omega (arith, loop-held c.args.lens.now c.args.region c.args.vs.now c.requires.held c.loop-l.l c.loop-l-test.true, c.size-n.ensures, c.loop-l.invariant.1)

pub overflow_add-at : goal.overflow_add-at
overflow_add-at c = omega (arith, first-held c.args.lens.now c.args.region c.args.vs.now c.requires.held c.size.result c.size.ensures)

pub loop-l-init : goal.loop-l-init
loop-l-init c = (
  omega arith,
  start_second c.args.lens.now c.args.region c.size.result c.size.ensures,
  refl,
  refl,
  omega arith,
  islands_none _ _ _ _ c.requires.blank c.requires.blank_2,
)

pub cover_loop-some-requires : goal.cover_loop-some-requires
cover_loop-some-requires c = let l = c.loop-l in record { centred = c.requires.centred; rising = c.requires.rising; n_in_bounds = held (goal.at.cover_loop-some-requires c).After-size-n; blank = record { long = omega (arith, c.requires.blank.long, l.invariant.2); shows = l.invariant.5.row }; xs_in_bounds = omega (arith, c.requires.blank_2.long, l.invariant.3) }

pub overflow_add-at-in-loop-l : goal.overflow_add-at-in-loop-l
overflow_add-at-in-loop-l c = omega (arith, held (goal.at.overflow_add-at-in-loop-l c).After-size-n)

pub loop-l-preserved : goal.loop-l-preserved
loop-l-preserved c = let s = c.args in
    let l = c.loop-l in
    let f = c.cover_loop-some in
    let z = c.size-n in
    let g = region s.region.at s.region.first s.region.loops in (
      omega arith,
      ap (λ (k : ℕ). k + z.result) l.invariant.1 ∙ ap (λ (k : ℕ). start_of s.lens.now g l.l + k) z.ensures ∙ start-next s.lens.now g l.l,
      f.auto.row ∙ l.invariant.2,
      f.auto.cover ∙ l.invariant.3,
      omega (arith, c.loop-l-test.true),
      islands_more _ _ l.l _ _ _ _ _ _ _ l.invariant.0 (λ i. inside_is _ _ g _ l.l _ _ _ l.invariant.1 z.ensures refl) l.invariant.5 f.ensures,
    )

pub returns : goal.returns
unfolding in_island
returns c = let l = c.loop-l in
    subst (λ (k : ℕ). Islands (length c.args.xs.now) (any_to (inColumn c.args.xs.now c.args.vs.now c.args.lens.now c.args.region c.args.y) k) l.some l.row l.cover)
    (let z : l.l ≡ c.args.region.loops = omega (arith, c.loop-l-test.false, l.invariant.0, l.invariant.4, c.requires.held.some) in z) l.invariant.5
