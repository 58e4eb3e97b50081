-- What `cut_piece` requires holds of a Setup and a State made of their numbers, and what it answers is put down in parts. Assumes nothing.
use Rattle.passes.specs.Start.{Place}
use mathlib.Core.Path.{◌≡◌, refl, sym, ap, subst}
use mathlib.Core.Bool.{Bool}
use mathlib.Core.List.{List}
use Prim.Native.Nat.{ℕ, ◌*◌}
use lib.ListN.{set}
use lib.Ieee.{Float}
use Rattle.numbers.specs.declared.bound.Bound.{Bound}
use Rattle.geom.specs.declared.vec2.Vec2.{Vec2}
use Rattle.geom.specs.declared.region.Region.{Region}
use Rattle.raster.specs.declared.grid.Grid.{Grid}
use Rattle.setup.specs.Layout.{run}
use Rattle.setup.specs.declared.Setup.{Setup}
use Rattle.links.specs.Path.{Fitted}
use Rattle.cutting.specs.Tries.{Among}
use Rattle.cutting.specs.Piece.{sta, Lends, Listed}
use Rattle.cutting.specs.declared.piece.State.{State}
use Rattle.std.specs.Prelude.{Result, Ok, Err}
use Rattle.cutting.specs.Listing.{number_of}
use Rattle.cutting.specs.declared.listing.Full.{Full}
use Rattle.cutting.specs.declared.piece.Cut.{Cut}
use Rattle.cutting.specs.declared.piece.Cut.TheVariants.{Nothing, Kept}
use Rattle.abi.specs.Setup.{loose}
use Rattle.abi.specs.Passes.{passing}
use Rattle.abi.specs.Cutting.{down_of, spot_of, kind_of, put_counts, put_floats, counts_of, floats_of, cells_of, CutIn, CutBy}

-- ---- the state and the answer, put down

pub counts_put : (t : State) (l : List ℕ) (d : ℕ) → d ≡ down_of t.pos → set (set (set (set l 0 d) 1 t.rows) 2 t.triples) 3 t.work ≡ put_counts t l
unfolding put_counts
counts_put t l d e = ap (λ (k : ℕ). set (set (set (set l 0 k) 1 t.rows) 2 t.triples) 3 t.work) e

pub floats_put : (t : State) (l : List Float) (q : Vec2) → q ≡ spot_of t.pos → set (set (set l 0 q.x) 1 q.y) 2 t.planned_max ≡ put_floats t l
unfolding put_floats
floats_put t l q e = ap (λ (k : Vec2). set (set (set l 0 k.x) 1 k.y) 2 t.planned_max) e

-- the kind of an answer and its state's numbers
abbrev Told : Result Cut Full → List ℕ → List Float → ℕ → List ℕ → List Float → Type 0
Told c l f kind l' f' = (kind ≡ kind_of c) × ((l' ≡ counts_of c l) × (f' ≡ floats_of c f))

pub nothing-told : (c : Result Cut Full) (t : State) (l l' : List ℕ) (f f' : List Float) → c ≡ Ok (Nothing t) → l' ≡ put_counts t l → f' ≡ put_floats t f → Told c l f 0 l' f'
unfolding kind_of counts_of floats_of
nothing-told c t l l' f f' e p q = subst (λ (z : Result Cut Full). Told z l f 0 l' f') (sym e) (refl, (p, q))

pub kept-told : (c : Result Cut Full) (t : State) (l l' : List ℕ) (f f' : List Float) → c ≡ Ok (Kept t) → l' ≡ put_counts t l → f' ≡ put_floats t f → Told c l f 1 l' f'
unfolding kind_of counts_of floats_of
kept-told c t l l' f f' e p q = subst (λ (z : Result Cut Full). Told z l f 1 l' f') (sym e) (refl, (p, q))

pub full-told : (c : Result Cut Full) (x : Full) (n : ℕ) (l : List ℕ) (f : List Float) → c ≡ Err x → n ≡ number_of x → Told c l f n l f
unfolding kind_of counts_of floats_of
full-told c x n l f e h = subst (λ (z : Result Cut Full). Told z l f n l f) (sym e) (h, (refl, refl))

-- ---- the piece

module _ (s : Setup) (g : Grid) (region : Region) (r wide keep target guard : Float) (samples : ℕ) (down : Bool) (e : s ≡ passing g region r wide s.keep target guard samples down) (b : s.keep.r ≡ keep) where
  abbrev of : Bound → Setup
  of k = passing g region r wide k target guard samples down

  pub cut_fitted : (vs : List Float) (lens bytes : List ℕ) (w : List Float) → Fitted (of (loose keep)) vs lens (run 0 (g.ny * g.nx) bytes) w → Fitted s vs lens (run 0 (s.grid.ny * s.grid.nx) bytes) w
  cut_fitted vs lens bytes w f = subst (λ (z : Setup). Fitted z vs lens (run 0 (cells_of z) bytes) w) (sym e) record {
    walls = record { over = f.walls.over; held = f.walls.held };
    over = f.over;
    tables = f.tables;
    long = f.long;
  }

  pub cut_lends : (bytes words : List ℕ) → Lends (g.ny * g.nx) bytes words → Lends (s.grid.ny * s.grid.nx) bytes words
  cut_lends bytes words h = subst (λ (z : Setup). Lends (cells_of z) bytes words) (sym e) h

  pub cut_among : (from m : ℕ) → Among (g.ny * g.nx) from m → Among (s.grid.ny * s.grid.nx) from m
  cut_among from m h = subst (λ (z : Setup). Among (cells_of z) from m) (sym e) h

  pub cut_by : (vs : List Float) (lens : List ℕ) (p p' : Place) (listed held : ℕ) (most : Float) (work : ℕ) (from m : ℕ) (closed : Bool) (bs us : List ℕ) (w : List Float) (rows : List ℕ) (o : List Float) (bs' us' rows' : List ℕ) (o' : List Float) (c : Result Cut Full) (kind : ℕ) (counts counts' : List ℕ) (floats floats' : List Float) → p ≡ p'
      → CutIn s vs lens (sta p listed held most work) from m closed bs us w rows o bs' us' rows' o' c → Told c counts floats kind counts' floats'
      → CutBy of keep vs lens (sta p' listed held most work) from m closed bs us w rows o bs' us' rows' o' kind counts counts' floats floats'
  cut_by vs lens p p' listed held most work from m closed bs us w rows o bs' us' rows' o' c kind counts counts' floats floats' at h t = record {
    bound = s.keep;
    bounds = b;
    cut = c;
    is = subst (λ (z : Setup). CutIn z vs lens (sta p' listed held most work) from m closed bs us w rows o bs' us' rows' o' c) e
        (subst (λ (q : Place). CutIn s vs lens (sta q listed held most work) from m closed bs us w rows o bs' us' rows' o' c) at h);
    kind-is = t.0;
    counts_is = t.1.0;
    floats_is = t.1.1;
  }

-- the lists do not look at the tool's place
pub cut-listed : (rows : List ℕ) (o : List Float) (p p' : Place) (listed held : ℕ) (most : Float) (work : ℕ) → Listed rows o (sta p' listed held most work) 0 → Listed rows o (sta p listed held most work) 0
cut-listed rows o p p' listed held most work h = record { countable = h.countable; fit_rows = h.fit_rows; fit_triples = h.fit_triples }
