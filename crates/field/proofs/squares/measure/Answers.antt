-- `field::squares::measure` meets its contract. Assumes nothing.
use mathlib.Core.Path.{subst}
use mathlib.Core.Bool.{Bool}
use native.Mathlib.Omega.{arith}
use Rattle.setup.specs.Layout.{run}
use Rattle.setup.specs.Place.{cells_of}
use Rattle.field.specs.Bands.{WantedIn}
use Rattle.field.proofs.SquareLaws.{measured-none, measured-all, measured_both}
use Rattle.field.proofs.squares.measure.Goals as goal

pub stock_words-requires : goal.stock_words-requires
stock_words-requires c = let w = c.requires.wanted_in in record { sides = c.requires.sides; rows_of = (w.rows, w.columns, c.if-w.true); setup_in_bounds = (omega (arith, c.requires.setup_in_bounds), c.requires.setup_in_bounds_2) }

pub returns-then-g : goal.returns-then-g
returns-then-g c = measured-all _ _ _ _ _ c.requires.setup_in_bounds_2 _ c.stock_words.ensures c.if-g.true

pub near_words-requires : goal.near_words-requires
near_words-requires c = let x = c.stock_words.ensures in
    let s = c.args.g.setup in record { sides = c.requires.sides; wanted_in = (subst (λ (q : Bool). WantedIn s q (run 4 (cells_of s) c.args.b.now) c.args.w) c.if-g.false c.requires.wanted_in, c.if-w.true); setup_in_bounds = (c.requires.setup_in_bounds, omega (arith, c.requires.setup_in_bounds_2, x.words.long)) }

pub returns-else-g : goal.returns-else-g
returns-else-g c = measured_both _ _ _ _ _ c.requires.setup_in_bounds_2 _ c.stock_words.ensures c.if-g.false _ c.near_words.ensures

pub returns-else-w : goal.returns-else-w
returns-else-w c = measured-none _ _ _ _ _ c.requires.setup_in_bounds_2 c.if-w.false
