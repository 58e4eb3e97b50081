-- `start::stock::stock_byte` meets its contract. Assumes nothing.
use Rattle.start.proofs.StockLaws.{byte_whole, byte_stock, byte_none}
use Rattle.start.proofs.stock.stock_byte.Goals as goal

pub returns-then-whole : goal.returns-then-whole
returns-then-whole c = byte_whole _ _ _ c.if-whole.true

pub returns-then-stock-ne1 : goal.returns-then-stock-ne1
returns-then-stock-ne1 c = byte_none _ _ _ c.if-whole.false c.if-stock-ne1.true

pub returns : goal.returns
returns c = byte_stock _ _ _ c.if-whole.false c.if-stock-ne1.false
