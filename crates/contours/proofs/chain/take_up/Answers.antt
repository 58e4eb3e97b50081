-- `contours::chain::take_up` meets its contract. Assumes nothing.
use Rattle.std.proofs.Common.{◌∙◌, arith}
use Rattle.loops.specs.Regions.{within}
use Rattle.loops.proofs.RegionLaws.{put_is}
use Rattle.contours.proofs.TraceLaws.{chaining, traced_none, traced_more, row_room, points-few, followed_there, rows_there}
use Rattle.contours.proofs.chain.take_up.Goals as goal

pub chain-k-requires : goal.chain-k-requires
unfolding within
chain-k-requires c = record { over = c.requires.over; chaining = rw (c.next_at-next.ensures, c.rows_at-rows.ensures) (chaining _ _ _ _ _ _ c.requires.tracing _ c.requires.startable) }

pub returns-then-kept-lt2 : goal.returns-then-kept-lt2
unfolding within
returns-then-kept-lt2 c = traced_none _ _ _ _ _ _ c.requires.tracing _ _ _ _ _ _ (followed_there _ _ _ _ _ _ _ _ _ _ _ _ _ c.next_at-next.ensures c.rows_at-rows.ensures c.chain-k.ensures) c.if-kept-lt2.true

pub overflow_cast-first : goal.overflow_cast-first
unfolding within
overflow_cast-first c = omega (arith, c.requires.over.sides.cells, c.requires.tracing.cells, c.requires.tracing.pairs, points-few _ _ _ _ _ _ c.requires.tracing _ _ _ _ _ _ (followed_there _ _ _ _ _ _ _ _ _ _ _ _ _ c.next_at-next.ensures c.rows_at-rows.ensures c.chain-k.ensures))

pub overflow_cast-kept : goal.overflow_cast-kept
unfolding within
overflow_cast-kept c = omega (arith, c.requires.over.sides.cells, c.requires.tracing.cells, c.requires.tracing.pairs, points-few _ _ _ _ _ _ c.requires.tracing _ _ _ _ _ _ (followed_there _ _ _ _ _ _ _ _ _ _ _ _ _ c.next_at-next.ensures c.rows_at-rows.ensures c.chain-k.ensures))

pub put_row-requires : goal.put_row-requires
unfolding within
put_row-requires c = rw (c.rows_at-rows.ensures, c.words_end-end.ensures) (row_room _ _ _ _ _ _ c.requires.tracing _ _ _ _ _ _ (followed_there _ _ _ _ _ _ _ _ _ _ _ _ _ c.next_at-next.ensures c.rows_at-rows.ensures c.chain-k.ensures) c.if-kept-lt2.false)

pub overflow_add-result-2 : goal.overflow_add-result-2
unfolding within
overflow_add-result-2 c = omega (arith, c.requires.over.sides.cells, c.requires.tracing.cells, c.requires.tracing.pairs, points-few _ _ _ _ _ _ c.requires.tracing _ _ _ _ _ _ (followed_there _ _ _ _ _ _ _ _ _ _ _ _ _ c.next_at-next.ensures c.rows_at-rows.ensures c.chain-k.ensures))

pub returns : goal.returns
unfolding within
returns c = let y = c.rows_at-rows.ensures in
    let z = c.words_end-end.ensures in
    traced_more _ _ _ _ _ _ c.requires.tracing _ _ _ _ _ _ (followed_there _ _ _ _ _ _ _ _ _ _ _ _ _ c.next_at-next.ensures c.rows_at-rows.ensures c.chain-k.ensures) c.if-kept-lt2.false _
    (put_is _ _ _ (record { start = omega (arith, y, z); end = omega (arith, y, z, c.requires.tracing.words_long) }) _ _ c.put_row.ensures ∙ rows_there _ _ _ _ _ _ y z)
