-- `links::lattice::lattice_of` meets its contract. Assumes nothing.
use Rattle.links.proofs.LatticeLaws.{spaced, place-fits, place_in, lattice_is}
use Rattle.links.proofs.lattice.lattice_of.Goals as goal

pub across-gx-requires : goal.across-gx-requires
across-gx-requires c = record { n_nonzero = c.requires.sides.wide; k_nonzero = spaced _ _ _ c.spacing-k.ensures }

pub across-gy-requires : goal.across-gy-requires
across-gy-requires c = record { n_nonzero = c.requires.sides.high; k_nonzero = spaced _ _ _ c.spacing-k.ensures }

pub nonzero_div-i : goal.nonzero_div-i
nonzero_div-i c = spaced _ _ _ c.spacing-k.ensures

pub nonzero_div-j : goal.nonzero_div-j
nonzero_div-j c = spaced _ _ _ c.spacing-k.ensures

pub node_at-start-requires : goal.node_at-start-requires
node_at-start-requires c =
    let r = place-fits _ c.requires.sides _ _ _ _ c.requires.i_lt_nx c.requires.j_lt_ny (spaced _ _ _ c.spacing-k.ensures) c.across-gx.ensures in
    record { gi_bound = r.0; gx_bound = r.1 }

pub nonzero_div-p : goal.nonzero_div-p
nonzero_div-p c = spaced _ _ _ c.spacing-k.ensures

pub nonzero_div-q : goal.nonzero_div-q
nonzero_div-q c = spaced _ _ _ c.spacing-k.ensures

pub node_at-goal-requires : goal.node_at-goal-requires
node_at-goal-requires c =
    let r = place-fits _ c.requires.sides _ _ _ _ c.requires.p_lt_nx c.requires.q_lt_ny (spaced _ _ _ c.spacing-k.ensures) c.across-gx.ensures in
    record { gi_bound = r.0; gx_bound = r.1 }

pub nonzero_div-p-2 : goal.nonzero_div-p-2
nonzero_div-p-2 c = spaced _ _ _ c.spacing-k.ensures

pub nonzero_div-q-2 : goal.nonzero_div-q-2
nonzero_div-q-2 c = spaced _ _ _ c.spacing-k.ensures

pub returns : goal.returns
returns c = lattice_is _ _ _ _ _ _ _ _ _ _ _ c.spacing-k.ensures c.across-gx.ensures c.across-gy.ensures c.node_at-start.ensures c.node_at-goal.ensures c.centre_at-end.ensures
