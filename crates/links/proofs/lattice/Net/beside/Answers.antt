-- `links::lattice::Net::beside` meets its contract. Assumes nothing.
use mathlib.Core.Path.{ap, ◌∙◌}
use Prim.Native.Nat.{ℕ, ◌+◌, ◌%◌, ◌/◌}
use native.Mathlib.Omega.{arith}
use Rattle.links.specs.Lattice.{on_lattice}
use Rattle.links.proofs.LatticeLaws.{column-small, row_small, gx_pos, beside_is, x-small, y-small}
use Rattle.links.proofs.lattice.Net.beside.Goals as goal

pub returns : goal.returns
returns c = let l = c.args.self.lattice in beside_is _ _ _ _ _ _ c.step_x.ensures c.step_y.ensures (c.on_lattice.ensures ∙ ap (λ (i : ℕ). on_lattice l (i % l.gx + c.step_x.result) (i / l.gx + c.step_y.result)) c.from-i.ensures)
