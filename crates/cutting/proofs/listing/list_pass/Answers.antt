-- `cutting::listing::list_pass` meets its contract. Assumes nothing.
use Rattle.cutting.proofs.ListingLaws.{pass-put}
use Rattle.cutting.proofs.listing.list_pass.Goals as goal

pub returns : goal.returns
returns c =
    let r = pass-put c.args.route c.args.path.now c.args.lead _ _ _ _ _ _ _ c.args.rows.now _ _ c.moves_of-moves.ensures c.requires.n_in_bounds c.shift_up.ensures c.put_way.ensures.triples_after c.put_way.ensures.rows_after c.put_row.ensures in
    record { triples_after = r.0; rows_after = r.1 }
