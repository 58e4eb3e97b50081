-- `rims::contact::sample_hit` meets its contract. Assumes nothing.
use mathlib.Core.Path.{◌≡◌}
use Prim.Native.Nat.{◌+◌, ◌-◌, ◌*◌, ◌/◌, ◌<◌}
use native.Mathlib.Omega.{arith}
use Rattle.spans.specs.Spans.{word}
use Rattle.rims.proofs.NearLaws.{rows_on, cell-inside, cell-stock}
use Rattle.rims.proofs.contact.sample_hit.Goals as goal
use Rattle.rims.proofs.contact.sample_hit.Goals.{After-next_from-y, Else-e-eq0}

-- the entry is not 0
here : (c : Else-e-eq0) → word c.args.w.now (c.args.at + 1 + c.args.k) ≡ word c.args.w.now (c.args.at + 1 + c.args.k) - 1 + 1
here c = omega (arith, c.if-e-eq0.false)

-- the sample's cell
inside : (c : After-next_from-y) → let g = c.args.g in c.next_from-y.result * g.nx + c.next_from-x.result < g.ny * g.nx
inside c =
    cell-inside c.args.g c.requires.over.sides c.args.c c.args.r c.args.w.now c.args.n c.args.at c.args.i c.args.j c.requires.around c.args.k _ c.requires.k_lt_n ((let told : word c.args.w.now (c.args.at + 1 + c.args.k) ≡ word c.args.w.now (c.args.at + 1 + c.args.k) - 1 + 1 = omega (arith, c.if-e-eq0.false) in told)) _ _ c.next_from-x.ensures c.next_from-y.ensures

pub overflow_mul-result : goal.overflow_mul-result
overflow_mul-result c = omega (arith, inside (goal.at.overflow_mul-result c).After-next_from-y, c.requires.over.sides.cells)

pub overflow_add-result : goal.overflow_add-result
overflow_add-result c = omega (arith, inside (goal.at.overflow_add-result c).After-next_from-y, c.requires.over.sides.cells)

pub bounds-map-y : goal.bounds-map-y
bounds-map-y c = omega (arith, inside (goal.at.bounds-map-y c).After-next_from-y, c.requires.over.long)

pub returns : goal.returns
returns c = cell-stock c.args.g c.requires.over.sides c.args.c c.args.r c.args.w.now c.args.n c.args.at c.args.i c.args.j c.requires.around c.args.k _ c.requires.k_lt_n (here (goal.at.returns c).Else-e-eq0) _ _ c.next_from-x.ensures c.next_from-y.ensures c.args.map.now
