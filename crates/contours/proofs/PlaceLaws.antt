-- The parts of the words are regions of the workspace's layout. Assumes nothing.
use Rattle.std.proofs.Common.{◌≡◌, ℕ, ◌+◌, ◌≤◌, List, length, ap, ◌∙◌, arith}
use Rattle.loops.specs.Regions.{within}
use Rattle.setup.specs.Layout.{segments_from, next_from, rows_from, log_from}
use Rattle.contours.specs.Places.{next_at, rows_at, words_end, rows_in}
use Rattle.pieces.proofs.PartLaws.{inner_part}

pub next_place : (n : ℕ) → segments_from n + next_at n ≡ next_from n
next_place n = omega arith

pub rows-place : (n : ℕ) → segments_from n + rows_at n ≡ rows_from n
rows-place n = omega arith

-- and the log begins where they end
pub words-place : (n : ℕ) → segments_from n + words_end n ≡ log_from n
words-place n = omega arith

-- the rows, in the workspace's words
pub rows_in_lem : (n : ℕ) (u : List ℕ) → log_from n ≤ length u → rows_in n (within (segments_from n) (log_from n) u) ≡ within (rows_from n) (log_from n) u
rows_in_lem n u h =
    inner_part 0 (segments_from n) (log_from n) (rows_at n) (words_end n) u (record { start = omega arith; end = h }) (omega arith) (omega arith)
    ∙ ap (λ (a : ℕ). within a (segments_from n + words_end n) u) (rows-place n)
    ∙ ap (λ (e : ℕ). within (rows_from n) e u) (words-place n)
