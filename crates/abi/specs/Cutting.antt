-- The cutting of a piece as C has it: the state in numbers, the answer as its kind and the state's numbers put down.
use Rattle.std.specs.Prelude.{ℕ, ◌*◌, ◌≡◌, Bool, cond, List, set, Result, Ok, Err, Float, Some, None}
use Rattle.passes.specs.Start.{Place}
use Rattle.std.specs.Float.{binary64}
use Rattle.std.specs.Float.Ieee.{of_bits}
use Rattle.numbers.specs.declared.bound.Bound.{Bound}
use Rattle.geom.specs.Vec.{v2}
use Rattle.geom.specs.declared.vec2.Vec2.{Vec2}
use Rattle.setup.specs.Layout.{run}
use Rattle.setup.specs.declared.Setup.{Setup}
use Rattle.links.specs.Path.{wall_in}
use Rattle.passes.specs.Guide.{points_in}
use Rattle.cutting.specs.Piece.{lf, cut_piece_of}
use Rattle.cutting.specs.declared.piece.State.{State}
use Rattle.cutting.specs.Listing.{number_of}
use Rattle.cutting.specs.declared.listing.Full.{Full}
use Rattle.cutting.specs.declared.piece.Cut.{Cut}
use Rattle.cutting.specs.declared.piece.Cut.TheVariants.{Nothing, Kept}

-- ---- where the tool is

abbrev pub place_of : Bool → Float → Float → Place
place_of down x y = cond down (Some (v2 x y)) None

-- 1 where the tool is somewhere
unfoldable pub down_of : Place → ℕ
down_of (Some p) = 1
down_of None = 0

unfoldable pub spot_of : Place → Vec2
spot_of (Some p) = p
spot_of None = v2 (of_bits binary64 0) (of_bits binary64 0)

-- ---- the answer

-- 0 nothing worth it, 1 a pass kept, else the refusal's number
unfoldable pub kind_of : Result Cut Full → ℕ
kind_of (Ok (Nothing t)) = 0
kind_of (Ok (Kept t)) = 1
kind_of (Err f) = number_of f

unfoldable pub put_counts : State → List ℕ → List ℕ
put_counts t l = set (set (set (set l 0 (down_of t.pos)) 1 t.rows) 2 t.triples) 3 t.work

unfoldable pub put_floats : State → List Float → List Float
put_floats t l = set (set (set l 0 (spot_of t.pos).x) 1 (spot_of t.pos).y) 2 t.planned_max

-- a refusal leaves no state
unfoldable pub counts_of : Result Cut Full → List ℕ → List ℕ
counts_of (Ok (Nothing t)) l = put_counts t l
counts_of (Ok (Kept t)) l = put_counts t l
counts_of (Err f) l = l

unfoldable pub floats_of : Result Cut Full → List Float → List Float
floats_of (Ok (Nothing t)) l = put_floats t l
floats_of (Ok (Kept t)) l = put_floats t l
floats_of (Err f) l = l

-- ---- the piece

abbrev pub cells_of : Setup → ℕ
cells_of s = s.grid.ny * s.grid.nx

-- the piece of m points at `from` is cut in a workspace of bytes b, u32 u and f64 w, which becomes b' and u'
abbrev pub CutIn : Setup → List Float → List ℕ → State → ℕ → ℕ → Bool → List ℕ → List ℕ → List Float → List ℕ → List Float → List ℕ → List ℕ → List ℕ → List Float → Result Cut Full → Type 0
CutIn s vs lens t from m closed b u w rows o b' u' rows' o' c =
    let n = cells_of s in
    lf (run 0 n b') (run 4 n b') (run 24 n u') rows' o' c
    ≡ (cut_piece_of s (wall_in s w) vs lens (run 1 n b) (points_in from m w) closed t (run 0 n b) (run 4 n b) rows (run 24 n u) o).left

-- The piece is cut with some bound of the distance that is kept from walls; the answer is told in parts.
pub record CutBy (setup : Bound → Setup) (keep : Float) (vs : List Float) (lens : List ℕ) (t : State) (from m : ℕ) (closed : Bool) (b u : List ℕ) (w : List Float) (rows : List ℕ) (o : List Float) (b' u' rows' : List ℕ) (o' : List Float) (kind : ℕ) (counts counts' : List ℕ) (floats floats' : List Float) : Type 0 where
  pub bound : Bound
  pub bounds : bound.r ≡ keep
  pub cut : Result Cut Full
  pub is : CutIn (setup bound) vs lens t from m closed b u w rows o b' u' rows' o' cut
  pub kind-is : kind ≡ kind_of cut
  pub counts_is : counts' ≡ counts_of cut counts
  pub floats_is : floats' ≡ floats_of cut floats
