-- `vectors_maps::maps::make` meets its contract. The invariant: the cells so far are made. Assumes nothing.
use Rattle.std.proofs.Common.{◌≡◌, length, ap, ◌∙◌, arith}
use Rattle.loops.proofs.LoopLaws.{going_none, going_more, going_end}
use Rattle.vectors_maps.specs.Maps.{Made, made_of}
use Rattle.vectors_maps.proofs.MapLaws.{make_long, made_stock, made_clear}
use Rattle.vectors_maps.proofs.maps.make.Goals as goal
use Rattle.vectors_maps.proofs.maps.make.Goals.{At-loop-k, then-x-share, else-x-share}

long : (c : At-loop-k) → length c.loop-k.map ≡ length c.args.map.now
long c = ap (λ (s : Made). length s.cells) c.loop-k.invariant.is ∙ make_long _ _ c.loop-k.k c.args.map.now

pub loop-k-init : goal.loop-k-init
loop-k-init c = going_none _ _ _ _

pub mix-x-requires : goal.mix-x-requires
mix-x-requires c = tt

pub bounds-map-k : goal.bounds-map-k
bounds-map-k c = omega (arith, long (goal.at.bounds-map-k c).At-loop-k, c.requires)

pub bounds-map-k-else-x-share : goal.bounds-map-k-else-x-share
bounds-map-k-else-x-share c = omega (arith, long (goal.at.bounds-map-k-else-x-share c).At-loop-k, c.requires)

pub loop-k-preserved : goal.loop-k-preserved
loop-k-preserved c = let l = c.loop-k in
    going_more _ _ _ _ _ _ _ l.invariant c.loop-k-test.true
    (elim c.if-x-share.branch [ then-x-share w ↦ made_stock _ l.k l.x _ l.map _ c.mix-x.ensures w.map-is w.if-x-share.true | else-x-share w ↦ made_clear _ l.k l.x _ l.map _ c.mix-x.ensures w.map-is w.if-x-share.false ])

pub shape_of-map : goal.shape_of-map
shape_of-map c = long (goal.at.shape_of-map c).At-loop-k

pub returns : goal.returns
unfolding made_of
returns c = ap (λ (s : Made). s.cells) (going_end _ _ _ _ _ _ c.loop-k.invariant c.loop-k-test.false)
