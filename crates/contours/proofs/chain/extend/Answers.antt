-- `contours::chain::extend` meets its contract. Assumes nothing.
use Rattle.std.proofs.Common.{◌≡◌, true, false, sym, refl, ap, ◌∙◌}
use lib.Ieee.{Float, lt}
use Rattle.numbers.specs.Small.{nano}
use Rattle.contours.specs.Chain.{extended, put_kept}
use Rattle.contours.specs.Curve.{near}
use Rattle.contours.proofs.chain.extend.Goals as goal

pub returns-then-distance : goal.returns-then-distance
unfolding extended put_kept
returns-then-distance c = let s = c.args in
    let e : near s.p s.t.last ≡ true = ap (λ (d : Float). lt d nano) (sym c.distance.ensures) ∙ c.if-distance.true in
    rw e (refl, refl)

pub returns : goal.returns
unfolding extended put_kept
returns c = let s = c.args in
    let e : near s.p s.t.last ≡ false = ap (λ (d : Float). lt d nano) (sym c.distance.ensures) ∙ c.if-distance.false in
    rw e (refl, c.put.ensures)
