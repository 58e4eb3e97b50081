-- `examples::chunks` meets its contract. Assumes nothing.
use Rattle.examples.specs.Examples.{chunks_of}
use Rattle.std.proofs.Common.{rules}
use Rattle.examples.proofs.chunks.Goals as goal

pub returns : goal.returns
unfolding chunks_of
returns c = rw (c.wrapping_add_u64.ensures.value, c.wrapping_add_u64-cuts.ensures.value, c.wrapping_add_u64-ways.ensures.value)
