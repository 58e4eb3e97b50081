-- `tracing::ring::lay_ring` meets its contract. Assumes nothing.
use Rattle.tracing.proofs.RingLaws.{ring_laid}
use Rattle.tracing.proofs.ring.lay_ring.Goals as goal

pub returns : goal.returns
returns c = ring_laid _ _ _ _ _ _ c.requires.n_in_bounds c.requires.n_in_bounds_2 c.allowed-a.ensures c.ring-r.ensures c.ring.ensures
