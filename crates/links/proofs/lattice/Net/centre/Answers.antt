-- `links::lattice::Net::centre` meets its contract. Assumes nothing.
use mathlib.Core.Path.{sym, ap, ◌∙◌, subst}
use Prim.Native.Nat.{ℕ, ◌*◌, ◌%◌, ◌/◌, ◌<◌}
use Rattle.links.specs.Lattice.{centre_at, centre_of}
use Rattle.links.proofs.LatticeLaws.{gx_pos, column_in, row_in}
use Rattle.links.proofs.lattice.Net.centre.Goals as goal

pub centre_at-requires : goal.centre_at-requires
centre_at-requires c = let l = c.args.self.lattice in record { sides = c.args.self.laid.sides; k_bound = subst (λ (a : ℕ). a % l.gx * l.k < l.grid.nx) (sym c.from-a.ensures) (column_in _ c.args.self.laid _ c.requires); k_bound_2 = subst (λ (a : ℕ). a / l.gx * l.k < l.grid.ny) (sym c.from-a.ensures) (row_in _ c.args.self.laid _ c.requires) }

pub returns : goal.returns
unfolding centre_of
returns c = let l = c.args.self.lattice in c.centre_at.ensures ∙ ap (λ (a : ℕ). centre_at l.grid l.k (a % l.gx) (a / l.gx)) c.from-a.ensures
