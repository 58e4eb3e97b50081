-- `rims::contact::rim_hits` meets its contract. Assumes nothing.
use mathlib.Core.Path.{◌≡◌, sym, ◌∙◌}
use Prim.Native.Nat.{◌-◌, ◌+◌}
use native.Mathlib.Omega.{arith}
use Rattle.spans.specs.Spans.{word}
use Rattle.rims.proofs.NearLaws.{shifted}
use Rattle.rims.proofs.contact.rim_hits.Goals as goal

pub box_hits-requires : goal.box_hits-requires
box_hits-requires c = let p = c.requires in
    let t = p.boxed.told c.if-w-ge17152.true in
    let f = t.firsts c.if-t-gt0.true in
    let x = word c.args.w.now c.args.at in
    let e : x ≡ x - 1 + 1 = omega (arith, c.if-t-gt0.true) in
    let o = shifted c.args.g c.args.c _ _ _ (sym c.cell_of.ensures ∙ c.in-Some.is) (c.is_roomy.ensures c.if-is_roomy.true) in record {
      over = p.over;
      tiled = p.tiled;
      around = record {
        few = p.n_bound.0;
        place = p.n_bound.1;
        long = c.if-w-ge17152.true;
        rim = p.rim;
        columns = f.0;
        rows = f.1;
        room = x - 1;
        entries = t.entries (x - 1) e;
        blocks = t.blocks c.if-t-gt0.true;
        cell = o.0;
        roomy = o.1;
      };
    }
