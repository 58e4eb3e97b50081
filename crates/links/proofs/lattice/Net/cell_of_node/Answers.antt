-- `links::lattice::Net::cell_of_node` meets its contract. Assumes nothing.
use mathlib.Core.Path.{sym, ap, ◌∙◌, subst}
use Prim.Native.Nat.{ℕ, ◌*◌, ◌%◌, ◌/◌, ◌<◌}
use Rattle.links.specs.Lattice.{along}
use Rattle.links.proofs.LatticeLaws.{cell-low, gx_pos, column_in, row_in, cell-is}
use Rattle.links.proofs.lattice.Net.cell_of_node.Goals as goal

pub cell_along-j-requires : goal.cell_along-j-requires
cell_along-j-requires c = let l = c.args.self.lattice in record { k_bound = subst (λ (a : ℕ). a / l.gx * l.k < l.grid.ny) (sym c.from-a.ensures) (row_in _ c.args.self.laid _ c.requires); n_bound = c.args.self.laid.sides.rows }

pub cell_no-requires : goal.cell_no-requires
cell_no-requires c = let l = c.args.self.lattice in
    let r = cell-low _ c.args.self.laid _ c.requires _ _ (c.cell_along-i.ensures ∙ ap (λ (a : ℕ). along (a % l.gx) l.k l.grid.nx) c.from-a.ensures) (c.cell_along-j.ensures ∙ ap (λ (a : ℕ). along (a / l.gx) l.k l.grid.ny) c.from-a.ensures) in
    record { sides = r.0; i_lt_nx = r.1.0; j_lt_ny = r.1.1 }

pub returns : goal.returns
returns c = let l = c.args.self.lattice in cell-is _ _ _ _ _ (c.cell_along-i.ensures ∙ ap (λ (a : ℕ). along (a % l.gx) l.k l.grid.nx) c.from-a.ensures) (c.cell_along-j.ensures ∙ ap (λ (a : ℕ). along (a / l.gx) l.k l.grid.ny) c.from-a.ensures) c.cell_no.ensures
