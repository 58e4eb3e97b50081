-- `vectors_maps::of_line` is safe: sides that are tested are small. Assumes nothing.
use Rattle.vectors_maps.proofs.MapLaws.{small-sides}
use Rattle.vectors_maps.proofs.of_line.Goals as goal

pub by_word-requires : goal.by_word-requires
by_word-requires c = small-sides _ _ c.if-nx-ny.false c.in_ok-nx.ensures.1 c.in_ok-ny.ensures.1
