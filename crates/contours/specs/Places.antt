-- The parts of the words that `contours` is lent, for n cells: the regions of the workspace's layout from the segments on (proofs/PlaceLaws.antt). Definitions only.
use Rattle.std.specs.Prelude.{ℕ, ◌*◌, List}
use Rattle.loops.specs.Regions.{within}

-- the segments are at 0, two edges each
abbrev pub next_at : ℕ → ℕ
next_at n = 4 * n

abbrev pub rows_at : ℕ → ℕ
rows_at n = 6 * n

abbrev pub words_end : ℕ → ℕ
words_end n = 9 * n

abbrev pub segments_in : ℕ → List ℕ → List ℕ
segments_in n words = within 0 (next_at n) words

abbrev pub next_in : ℕ → List ℕ → List ℕ
next_in n words = within (next_at n) (rows_at n) words

abbrev pub rows_in : ℕ → List ℕ → List ℕ
rows_in n words = within (rows_at n) (words_end n) words
