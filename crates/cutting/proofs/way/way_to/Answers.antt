-- `cutting::way::way_to` meets its contract. Assumes nothing.
use Rattle.cutting.proofs.WayLaws.{route_nowhere, route_up, route_down, still}
use Rattle.cutting.proofs.way.way_to.Goals as goal

pub returns-in_default : goal.returns-in_default
returns-in_default c =
    let same = still _ _ _ _ c.args.allowed.now _ c.args.to c.requires.fitted _ c.requires.s_in_bounds in
    record { w_after = route_nowhere _ _ _ _ _ _ _ _ c.in_default.is; only = same.0; only_2 = same.1 }

pub returns-then-s : goal.returns-then-s
returns-then-s c = record { w_after = route_down _ _ _ _ _ _ _ _ _ c.in-Some.is c.if-s.true _ c.link_path.ensures.w_after; only = c.link_path.ensures.only; only_2 = c.link_path.ensures.only_2 }

pub returns : goal.returns
returns c =
    let same = still _ _ _ _ c.args.allowed.now _ c.args.to c.requires.fitted _ c.requires.s_in_bounds in
    record { w_after = route_up _ _ _ _ _ _ _ _ _ c.in-Some.is c.if-s.false; only = same.0; only_2 = same.1 }
