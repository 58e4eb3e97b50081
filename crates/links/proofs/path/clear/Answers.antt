-- `links::path::clear` meets its contract. Assumes nothing.
use mathlib.Core.Path.{sym, ap, ◌∙◌, subst}
use Prim.Native.Nat.{ℕ, ◌-◌}
use lib.ListN.{take, drop}
use Rattle.loops.specs.Regions.{within}
use Rattle.setup.specs.Place.{Walls}
use Rattle.links.specs.Straight.{link_clear}
use Rattle.links.proofs.ShortenLaws.{rim-at}
use Rattle.links.proofs.path.clear.Goals as goal

pub link_clear-requires : goal.link_clear-requires
unfolding within
link_clear-requires c = let N = c.cells-n.ensures in
    record {
      walls = subst (λ (k : ℕ). Walls c.args.s (take (k - 0) (drop 0 c.args.w.now)) c.args.vs.now c.args.lens.now) (sym N) c.requires.fitted.walls;
      tables = rim-at c.args.s c.args.w.now _ N _ c.rim-rim.ensures _ c.tables_end-end.ensures c.requires.fitted.tables;
    }

pub returns : goal.returns
unfolding within
returns c = let a = c.args in c.link_clear.ensures ∙ ap (λ (k : ℕ). link_clear a.s (take (k - 0) (drop 0 a.w.now)) a.vs.now a.lens.now a.map.now a.a a.b) c.cells-n.ensures
