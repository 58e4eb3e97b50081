-- `contours::square::square_at` meets its contract. Assumes nothing.
use Rattle.std.proofs.Common.{◌≡◌, ◌+◌, ◌*◌, ◌<◌, ◌≤◌, length, refl, ap, ◌∙◌, arith}
use Rattle.raster.specs.Grid.{numbered}
use Rattle.raster.specs.declared.grid.CellNo.{CellNo}
use Rattle.contours.specs.Square.{square_at}
use Rattle.contours.proofs.SquareLaws.{last-below}
use Rattle.contours.proofs.square.square_at.Goals as goal
use Rattle.contours.proofs.square.square_at.Goals.{After-index_of-k, Start}

last : (c : Start) → c.args.j * c.args.g.nx + c.args.i + 1 + c.args.g.nx < c.args.g.ny * c.args.g.nx
last c = last-below c.args.g c.args.i c.args.j c.requires.in_grid

held : (c : Start) → (c.args.g.ny * c.args.g.nx ≤ length c.args.f.now) × (c.args.g.ny * c.args.g.nx ≤ 1048576)
held c = (c.requires.over.long, c.requires.over.sides.cells)

-- the lower left cell's
place : (c : After-index_of-k) → let a = c.args in c.index_of-k.result ≡ a.j * a.g.nx + a.i
unfolding numbered
place c = c.index_of-k.ensures ∙ ap (λ (k : CellNo). k.0) c.cell_no.ensures

pub bounds-f-k : goal.bounds-f-k
bounds-f-k c = omega (arith, place (goal.at.bounds-f-k c).After-index_of-k, last (goal.at.bounds-f-k c).Start, held (goal.at.bounds-f-k c).Start)

pub bounds-f-k-2 : goal.bounds-f-k-2
bounds-f-k-2 c = omega (arith, place (goal.at.bounds-f-k-2 c).After-index_of-k, last (goal.at.bounds-f-k-2 c).Start, held (goal.at.bounds-f-k-2 c).Start)

pub bounds-f-k-3 : goal.bounds-f-k-3
bounds-f-k-3 c = omega (arith, place (goal.at.bounds-f-k-3 c).After-index_of-k, last (goal.at.bounds-f-k-3 c).Start, held (goal.at.bounds-f-k-3 c).Start)

pub bounds-f-k-4 : goal.bounds-f-k-4
bounds-f-k-4 c = omega (arith, place (goal.at.bounds-f-k-4 c).After-index_of-k, last (goal.at.bounds-f-k-4 c).Start, held (goal.at.bounds-f-k-4 c).Start)

pub returns : goal.returns
unfolding square_at
returns c = rw (place (goal.at.returns c).After-index_of-k) refl
