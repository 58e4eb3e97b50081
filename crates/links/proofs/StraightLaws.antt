-- What the proofs of the straight link cite. Assumes nothing.
use mathlib.Core.Path.{◌≡◌}
use mathlib.Core.Bool.{Bool, true, false, not}
use mathlib.Core.List.{List}
use Prim.Native.Nat.{ℕ, ◌≤◌, ◌<◌}
use lib.Dec.{eqb}
use lib.Ieee.{Float, binary64, sub, div, to_unsigned, eq}
use borrow.Author.Tests.{lt-ltb, le-ltb}
use Rattle.numbers.specs.Whole.{ceil_of}
use Rattle.numbers.specs.Order.{max_of}
use Rattle.numbers.specs.Small.{f1}
use Rattle.geom.specs.Vec.{f0, distance_of, lerp_of}
use Rattle.geom.specs.declared.vec2.Vec2.{Vec2}
use Rattle.numbers.specs.Cast.{float}
use Rattle.raster.specs.Contact.{angle_of}
use Rattle.raster.specs.Stock.{count_disk}
use Rattle.raster.specs.declared.contact.Contact.{Contact}
use Rattle.setup.specs.Place.{allowed_at, contact_at}
use Rattle.setup.specs.declared.Setup.{Setup}
use Rattle.links.specs.Straight.{steps_of, point_of, clear_at, sample_clear, sample_blocked, samples_clear, link_clear}

pub steps_are : (a b : Vec2) (cell d c m : Float) (n : ℕ) → d ≡ distance_of a b → c ≡ ceil_of (div binary64 d cell) → m ≡ max_of c f1 → n ≡ to_unsigned 64 m → n ≡ steps_of a b cell
unfolding steps_of
steps_are a b cell d c m n D C M N = rw (← D, ← C, ← M) N

pub point-is : (a b : Vec2) (n k : ℕ) (x y : Float) (p : Vec2) → x ≡ float k → y ≡ float n → p ≡ lerp_of a b (div binary64 x y) → p ≡ point_of a b n k
unfolding point_of
point-is a b n k x y p X Y P = rw (← X, ← Y) P

module _ (s : Setup) (wall vs : List Float) (lens m : List ℕ) (r : Float) where
  module _ (q : Vec2) (t : Bool) (T : t ≡ allowed_at s wall vs lens q) where
    pub clear_there : t ≡ true → (c : Contact) (a : Float) → c ≡ contact_at s m q r → a ≡ angle_of c → eq a f0 ≡ clear_at s wall vs lens m r q
    unfolding clear_at
    clear_there e c a C A = rw (← T, e, ← C, ← A)

    pub clear_not : t ≡ false → false ≡ clear_at s wall vs lens m r q
    unfolding clear_at
    clear_not e = rw (← T, e)

  -- a sample by the point's answer
  pub blocked-is : (a b : Vec2) (n k : ℕ) (q : Vec2) (t : Bool) → q ≡ point_of a b n k → t ≡ clear_at s wall vs lens m r q → sample_blocked s wall vs lens m r a b n k ≡ not t
  unfolding sample_clear
  blocked-is a b n k q t Q T = rw (← Q, ← T)

module _ (s : Setup) (wall vs : List Float) (lens m : List ℕ) (a b : Vec2) (n : ℕ) (N : n ≡ steps_of a b s.grid.cell) where
  pub link-long : 200000 < n → false ≡ link_clear s wall vs lens m a b
  unfolding link_clear
  link-long h = rw (← N, lt-ltb 200000 n h)

  module _ (h : n ≤ 200000) (t : Bool) (T : t ≡ samples_clear s wall vs lens m (sub binary64 s.r s.grid.cell) a b n) where
    pub link-blocked : t ≡ false → false ≡ link_clear s wall vs lens m a b
    unfolding link_clear
    link-blocked e = rw (← N, le-ltb 200000 n h, ← T, e)

    pub link-judged : t ≡ true → (c : ℕ) → c ≡ count_disk s.grid b (sub binary64 s.r s.grid.cell) m → eqb c 0 ≡ link_clear s wall vs lens m a b
    unfolding link_clear
    link-judged e c C = rw (← N, le-ltb 200000 n h, ← T, e, ← C)
