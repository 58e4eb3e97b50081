-- `start::stock::add_regions` meets its contract. Assumes nothing.
use mathlib.Core.Path.{◌≡◌, refl, ap, ◌∙◌}
use native.Mathlib.Omega.{arith}
use lib.ListN.{length}
use Rattle.loops.proofs.LoopLaws.{going_none, going_more, going_end}
use Rattle.geom.proofs.RegionLaws.{region}
use Rattle.filling.specs.Fill.{fill_region}
use Rattle.geom.specs.declared.region.Region.{Region}
use Rattle.entry.specs.Regions.{region_at}
use Rattle.start.specs.Start.{add_region, add_regions}
use Rattle.entry.proofs.RegionsLaws.{region-is, next-at, next-first, second_first, held-is}
use Rattle.start.proofs.StockLaws.{adding_long}
use Rattle.start.proofs.stock.add_regions.Goals as goal
use Rattle.start.proofs.stock.add_regions.Goals.{After-size-loops, At-loop-k}

map-long : (c : At-loop-k) → length c.loop-k.map ≡ length c.args.map.now
map-long c = let s = c.args in ap length c.loop-k.invariant.going.is ∙ adding_long s.g s.vs.now s.lens.now s.regions.now 1 c.loop-k.k s.map.now

-- the region that the turn fills
this : (c : After-size-loops) → let s = c.args in region c.loop-k.at c.loop-k.first c.size-loops.result ≡ region_at s.lens.now s.regions.now c.loop-k.k
this c = let s = c.args in let i = c.loop-k.invariant in region-is s.lens.now s.regions.now c.loop-k.k _ _ _ i.start i.loop c.size-loops.ensures

pub end_of-at-requires : goal.end_of-at-requires
end_of-at-requires c = let h = held-is c.args.vs.now c.args.lens.now c.args.regions.now c.requires.all_held 0 c.requires.all_held.some c.args.pocket c.requires.pocket_value in record { loops_in_bounds = h.sizes; loops_bound = omega (arith, h.vertices) }

pub loop-k-init : goal.loop-k-init
loop-k-init c = let p = c.requires.pocket_value in
    record {
      going = going_none _ _ _ _;
      long = refl;
      start = c.end_of-at.ensures ∙ next-at c.args.lens.now c.args.regions.now 0 c.args.pocket p;
      loop = second_first c.args.lens.now c.args.regions.now c.args.pocket p;
    }

pub size-loops-requires : goal.size-loops-requires
size-loops-requires c = c.loop-k-test.true

pub fill_region-requires : goal.fill_region-requires
fill_region-requires c = let i = c.loop-k.invariant in
    let t = c.loop-k-test.true in record { over = record { sides = c.requires.over.sides; long = omega (arith, c.requires.over.long, map-long (goal.at.fill_region-requires c).At-loop-k) }; held = held-is c.args.vs.now c.args.lens.now c.args.regions.now c.requires.all_held _ t _ (this (goal.at.fill_region-requires c).After-size-loops); nx_in_bounds = omega (arith, c.requires.over.sides.columns, i.long, c.requires.in_bounds) }

pub end_of-at-requires-in-loop-k : goal.end_of-at-requires-in-loop-k
end_of-at-requires-in-loop-k c = let h = held-is c.args.vs.now c.args.lens.now c.args.regions.now c.requires.all_held _ c.loop-k-test.true _ (this (goal.at.end_of-at-requires-in-loop-k c).After-size-loops) in record { loops_in_bounds = h.sizes; loops_bound = omega (arith, h.vertices) }

pub overflow_add-first : goal.overflow_add-first
overflow_add-first c = omega (arith, (held-is c.args.vs.now c.args.lens.now c.args.regions.now c.requires.all_held _ c.loop-k-test.true _ (this (goal.at.overflow_add-first c).After-size-loops)).sizes)

pub overflow_step-k : goal.overflow_step-k
overflow_step-k c = omega (arith, c.loop-k-test.true)

pub loop-k-smaller : goal.loop-k-smaller
loop-k-smaller c = omega (arith, c.loop-k-test.true)

pub loop-k-preserved : goal.loop-k-preserved
unfolding add_region
loop-k-preserved c = let s = c.args in
    let l = c.loop-k in
    let r = this (goal.at.loop-k-preserved c).After-size-loops in
    record {
      going = going_more _ _ _ _ _ _ _ l.invariant.going c.loop-k-test.true (c.fill_region.ensures ∙ ap (λ (q : Region). fill_region s.g s.vs.now s.lens.now q l.map) r);
      long = c.fill_region.auto.xs ∙ l.invariant.long;
      start = c.end_of-at-in-loop-k.ensures ∙ next-at s.lens.now s.regions.now l.k _ r;
      loop = next-first s.lens.now s.regions.now l.k _ _ l.invariant.loop c.size-loops.ensures;
    }

pub shape_of-map : goal.shape_of-map
shape_of-map c = map-long (goal.at.shape_of-map c).At-loop-k

pub shape_of-xs : goal.shape_of-xs
shape_of-xs c = c.loop-k.invariant.long

pub returns : goal.returns
unfolding add_regions
returns c = going_end _ _ _ _ _ _ c.loop-k.invariant.going c.loop-k-test.false
