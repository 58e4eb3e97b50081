-- The hits of all samples are those of the blocks one after the other. Assumes nothing.
use mathlib.Core.Path.{◌≡◌, refl, sym, ◌∙◌, ap}
use mathlib.Core.Bool.{false}
use mathlib.Core.List.{List}
use Prim.Native.Nat.{ℕ, ◌+◌, ◌*◌, ◌≤◌, ◌<◌, min, zero-le}
use native.Mathlib.Omega.{arith}
use lib.Ieee.{Float}
use Rattle.loops.specs.Loop.{loop}
use Rattle.loops.proofs.Cases.{by_cases}
use Rattle.loops.proofs.LoopLaws.{loop-none, loop_split, loop_keeps, loop_both}
use Rattle.geom.specs.declared.vec2.Vec2.{Vec2}
use Rattle.raster.specs.Grid.{stock_at}
use Rattle.raster.specs.Contact.{direction_at, rim_at, hit_at, hits_of}
use Rattle.raster.specs.declared.grid.Grid.{Grid}
use Rattle.raster.proofs.ContactLaws.{hit_yes, hit_no, hits-most}

module _ (g : Grid) (m : List ℕ) (c : Vec2) (r : Float) (n : ℕ) where
  abbrev f : ℕ → ℕ → ℕ
  f = hit_at g m c r n

  hit_add : (k s x y : ℕ) → x ≡ s + y → f k x ≡ s + f k y
  hit_add k s x y e = by_cases (stock_at g m (rim_at c r (direction_at n k)))
      (λ t. let u = hit_yes g m c r n k x t in let v = hit_yes g m c r n k y t in omega arith)
      (λ t. let u = hit_no g m c r n k x t in let v = hit_no g m c r n k y t in omega arith)

  -- hits from s on are s more
  hits_add : (a e s : ℕ) → a ≤ e → loop f a e s ≡ s + loop f a e 0
  hits_add a e s h = loop_both f f (λ (k x y : ℕ). x ≡ s + y) a e h (λ k x y l d p. hit_add k s x y p) s 0 (omega arith)

  pub hits_few : (a e : ℕ) → a ≤ e → loop f a e 0 ≤ e
  hits_few a e h = omega (arith, loop_split f 0 a e 0 zero-le h, hits_add a e (loop f 0 a 0) h, hits-most g m c r n e)

  pub no_blocks : 0 ≡ loop f 0 (min (8 * 0) n) 0
  no_blocks = loop-none f 0 0 ∙ ap (λ (k : ℕ). loop f 0 k 0) (let z : 0 ≡ min (8 * 0) n = omega arith in z)

  module _ (b h : ℕ) (d : 8 * b < n) (H : h ≡ loop f 0 (min (8 * b) n) 0) where
    next : loop f (8 * b) (min (8 * b + 8) n) h ≡ loop f 0 (min (8 * (b + 1)) n) 0
    next =
        ap (loop f (8 * b) (min (8 * b + 8) n)) (H ∙ ap (λ (k : ℕ). loop f 0 k 0) (let z : min (8 * b) n ≡ 8 * b = omega arith in z))
        ∙ sym (loop_split f 0 (8 * b) (min (8 * b + 8) n) 0 zero-le (omega arith))
        ∙ ap (λ (k : ℕ). loop f 0 k 0) (let z : min (8 * b + 8) n ≡ min (8 * (b + 1)) n = omega arith in z)

    -- a block that is counted
    pub counted : (x : ℕ) → x ≡ loop f (8 * b) (min (8 * b + 8) n) 0 → h + x ≡ loop f 0 (min (8 * (b + 1)) n) 0
    counted x e = ap (λ (y : ℕ). h + y) e ∙ sym (hits_add (8 * b) (min (8 * b + 8) n) h (omega arith)) ∙ next

    -- one that is passed over
    pub passed : ((k : ℕ) → 8 * b ≤ k → k < 8 * b + 8 → k < n → stock_at g m (rim_at c r (direction_at n k)) ≡ false) → h ≡ loop f 0 (min (8 * (b + 1)) n) 0
    passed B = sym (loop_keeps f (8 * b) (λ (s : ℕ). s ≡ h) (min (8 * b + 8) n) (λ k s l u p. sym (hit_no g m c r n k s (B k l (omega arith) (omega arith))) ∙ p) h refl) ∙ next

  pub all_blocks : (b h : ℕ) → n ≤ 8 * b → h ≡ loop f 0 (min (8 * b) n) 0 → h ≡ hits_of g m c r n
  unfolding hits_of
  all_blocks b h d H = H ∙ ap (λ (k : ℕ). loop f 0 k 0) (let z : min (8 * b) n ≡ n = omega arith in z)
