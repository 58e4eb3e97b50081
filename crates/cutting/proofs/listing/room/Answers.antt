-- `cutting::listing::room` meets its contract. Assumes nothing.
use Prim.Native.Nat.{◌<◌}
use native.Mathlib.Omega.{arith}
use Rattle.cutting.proofs.RoomLaws.{rows-first, triples-first, cut-triples, cut-row, all_fit}
use Rattle.cutting.proofs.listing.room.Goals as goal

pub returns-then-rows-triples : goal.returns-then-rows-triples
returns-then-rows-triples c = let z : c.args.rows < c.args.moves = omega arith in rows-first _ _ _ _ c.if-rows-triples.true z

pub returns-then-triples-moves : goal.returns-then-triples-moves
returns-then-triples-moves c = triples-first _ _ _ _ c.if-rows-triples.false c.if-triples-moves.true

pub returns-then-rows-moves : goal.returns-then-rows-moves
returns-then-rows-moves c = rows-first _ _ _ _ (omega arith) c.if-rows-moves.true

pub returns-then-triples-moves-2 : goal.returns-then-triples-moves-2
returns-then-triples-moves-2 c = cut-triples _ _ _ _ c.if-triples-moves.false c.if-rows-moves.false c.if-triples-moves-2.true

pub returns-then-rows-moves-2 : goal.returns-then-rows-moves-2
returns-then-rows-moves-2 c = cut-row _ _ _ _ c.if-triples-moves.false c.if-triples-moves-2.false c.if-rows-moves-2.true

pub returns : goal.returns
returns c = all_fit _ _ _ _ c.if-triples-moves.false c.if-triples-moves-2.false (omega arith)
