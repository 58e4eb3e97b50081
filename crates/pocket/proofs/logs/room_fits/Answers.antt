-- `pocket::logs::room_fits` meets its contract. Assumes nothing.
use Rattle.pocket.proofs.CrescentLaws.{room-none, room-all, room-some}
use Rattle.pocket.proofs.logs.room_fits.Goals as goal

pub returns-then-long-used : goal.returns-then-long-used
returns-then-long-used c = room-none _ _ _ _ c.if-long-used.true

pub returns-then-n-room : goal.returns-then-n-room
returns-then-n-room c = room-all _ _ _ _ c.if-long-used.false c.if-n-room.true

pub returns : goal.returns
returns c = room-some _ _ _ _ c.if-long-used.false _ c.count.ensures
