-- `cutting::listing::put_way` meets its contract. Assumes nothing.
use Rattle.cutting.proofs.ListingLaws.{along_moves, lost_moves, room_at, way-along, way-lost, way-put}
use native.Mathlib.Omega.{arith}
use Rattle.cutting.proofs.listing.put_way.Goals as goal

pub put_links-requires : goal.put_links-requires
put_links-requires c = let e = along_moves _ _ c.in-Some.is in record { n_in_bounds = omega (arith, e, c.requires.route_in_bounds); n_in_bounds_2 = room_at _ _ _ _ e c.requires.route_in_bounds_2; n_in_bounds_3 = room_at _ _ _ _ e c.requires.route_in_bounds_3; countable = c.requires.countable }

pub put_plunge-requires : goal.put_plunge-requires
put_plunge-requires c = let e = lost_moves _ c.in-None.is in record { first_in_bounds = room_at _ _ _ _ e c.requires.route_in_bounds_2; row_in_bounds = room_at _ _ _ _ e c.requires.route_in_bounds_3; countable = c.requires.countable }

pub returns-in-Some : goal.returns-in-Some
returns-in-Some c =
    let r = way-put _ _ _ _ _ _ (way-along c.args.route _ _ _ c.in-Some.is) _ _ c.put_links.ensures.triples_after c.put_links.ensures.rows_after in
    record { triples_after = r.0; rows_after = r.1 }

pub returns-in-None : goal.returns-in-None
returns-in-None c =
    let r = way-put _ _ _ _ _ _ (way-lost c.args.route c.args.path.now _ c.in-None.is) _ _ c.put_plunge.ensures.triples_after c.put_plunge.ensures.rows_after in
    record { triples_after = r.0; rows_after = r.1 }
