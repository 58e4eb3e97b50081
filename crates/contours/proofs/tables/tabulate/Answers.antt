-- `contours::tables::tabulate` meets its contract. Assumes nothing.
use Rattle.std.proofs.Common.{refl}
use Rattle.loops.specs.Regions.{within}
use Rattle.contours.proofs.TabulateLaws.{listed_at, tabled_at}
use Rattle.contours.proofs.tables.tabulate.Goals as goal

pub insert_all-requires : goal.insert_all-requires
unfolding within
insert_all-requires c = let a = c.args in
    listed_at a.g a.f.now a.level a.n _ a.words.now a.marks.now _ c.requires.over c.requires.sized _ _ c.next_at-next.ensures c.rows_at-rows.ensures c.march-m.ensures _ _ _ _
    refl
    (c.fill.ensures.after (λ y h. h))
    refl
    (c.fill-2.ensures.after (λ y h. h))

pub returns : goal.returns
unfolding within
returns c = let a = c.args in
    tabled_at a.g a.f.now a.level a.n _ a.words.now a.marks.now _ c.requires.over c.requires.sized _ _ c.next_at-next.ensures c.rows_at-rows.ensures c.march-m.ensures _ _ _ _
    refl
    (c.fill.ensures.after (λ y h. h))
    refl
    (c.fill-2.ensures.after (λ y h. h)) _ _ c.insert_all.ensures
