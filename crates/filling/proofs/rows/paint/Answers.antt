-- `filling::rows::paint` meets its contract. Assumes nothing.
use Rattle.std.proofs.Common.{rules, ◌≡◌, ◌+◌, ◌-◌, replicate}
use Rattle.filling.proofs.ColumnLaws.{filled-painted}
use Rattle.filling.proofs.rows.paint.Goals as goal

pub returns : goal.returns
returns c =
    let told : c.fill.new.self ≡ replicate (c.args.base + c.args.b - (c.args.base + c.args.a)) c.args.v = search rules in
    filled-painted _ _ _ _ _ _ c.requires.0 c.requires.1 told
