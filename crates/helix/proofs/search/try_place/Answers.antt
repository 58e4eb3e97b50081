-- `helix::search::try_place` meets its contract. Assumes nothing.
use mathlib.Core.Path.{sym, ◌∙◌}
use Rattle.flood.proofs.PlaceLaws.{farthest_below}
use Rattle.helix.proofs.SearchLaws.{no_place, place-fits, place-gone}
use borrow.Author.Rules.{rules}
use Rattle.helix.proofs.search.try_place.Goals as goal

pub returns-in_default : goal.returns-in_default
returns-in_default c =
    let r = no_place c.args.s c.args.wall.now c.args.vs.now c.args.lens.now c.args.pref c.args.b.now c.requires.s_in_bounds _ c.farthest.ensures c.in_default.is in
    record { value = r.0; b_after = r.1 }

pub flood-requires : goal.flood-requires
flood-requires c = record { sides = c.requires.walls.over.sides; nx_in_bounds = search rules; nx_in_bounds_2 = c.requires.s_in_bounds_2; c_bound = farthest_below _ _ _ _ _ _ _ (sym c.farthest.ensures ∙ c.in-Some.is) }

pub returns-in_default-radius_at : goal.returns-in_default-radius_at
returns-in_default-radius_at c =
    let r = place-gone c.args.s c.args.wall.now c.args.vs.now c.args.lens.now c.args.pref c.args.b.now c.requires.s_in_bounds _ c.farthest.ensures _ c.in-Some.is _ _ c.column_of.ensures c.row_of.ensures _ c.center-p.ensures _ c.widest.ensures _ c.radius_at.ensures c.in_default-radius_at.is _ c.flood.ensures in
    record { value = r.0; b_after = r.1 }

pub returns : goal.returns
returns c =
    let r = place-fits c.args.s c.args.wall.now c.args.vs.now c.args.lens.now c.args.pref c.args.b.now c.requires.s_in_bounds _ c.farthest.ensures _ c.in-Some.is _ _ c.column_of.ensures c.row_of.ensures _ c.center-p.ensures _ c.widest.ensures _ c.radius_at.ensures _ c.in-Some-radius_at.is in
    record { value = r.0; b_after = r.1 }
