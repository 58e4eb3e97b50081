-- Demand 3: after every beginning of a legal list of events the state is told by its rows. One invariant, `Inv`, a law for each event, and an induction.
-- Assumes nothing.
use mathlib.Core.Path.{◌≡◌, refl, sym, ap, ◌∙◌, subst}
use mathlib.Core.Bool.{true}
use mathlib.Core.List.{List, [], ◌∷◌, ◌++◌}
use mathlib.Core.Option.{Option, none, some}
use Prim.Native.Nat.{ℕ, ◌≤◌, ◌^◌}
use native.Mathlib.Omega.{arith}
use lib.ListN.{length, length-replicate}
use lib.Ieee.{Float, binary64, add, lt}
use Rattle.loops.specs.Cells.{ones}
use Rattle.floats.proofs.OrderLaws.{le_lt}
use Rattle.geom.specs.declared.vec2.Vec2.{Vec2}
use Rattle.raster.specs.Contact.{angle_of}
use Rattle.raster.specs.Stock.{clear_disk}
use Rattle.raster.specs.Log.{clear_after, Stock, st, undone, redone}
use Rattle.raster.proofs.LogLaws.{kept-none, st_eq, undone-long}
use Rattle.raster.proofs.RunLaws.{kept-passes, ready_for}
use Rattle.raster.proofs.ClearLaws.{disk-cells, after-cells}
use Rattle.events.specs.Chunk.{Point, Chunk, helix, plunge, link, cut, Job}
use Rattle.events.specs.Replay.{Replay, rp, crescent, disk, pass, removed, replay_row, replay_from, replay, origin, PointGood, LaterGood, PassGood, RowGood, HelixGood, Explained}
use Rattle.events.specs.Events.{Event, tried, withdrawn, linked, plunged, no_way, kept, entered, given_up, State, state, zeros, begin, cuts_of, pass_logged, fresh, put_back_all, take_again, keep, step, steps, after, PointChecked, LaterChecked, PassChecked, TriedChecked, LinkChecked, NoWayChecked, PlungeChecked, KeepChecked, PlaceChecked, Checked, LegalFrom, Legal, Fit}
use Rattle.events.specs.Told.{trial_map, trial_removed, TrialGood, Told, NoWayTold, PlaceTold, EventTold, Demand3}
use Rattle.events.proofs.TrialLaws.{pass-cells, redone-none, bored-length}
use Rattle.events.proofs.ReplayLaws.{replay_more, explained_more, explained_at}
use Rattle.events.proofs.HelixLaws.{radius_good}

module _ (j : Job) where
  -- what holds between events: the state is told, its log clears the trial again, and the log is long enough
  pub record Inv (s : State) : Type 0 where
    pub told : Told j s
    pub again : redone s.stock.log 0 s.stock.count (replay j s.rows).map ≡ s.stock.cells
    pub room : length s.stock.cells ≤ length s.stock.log
    pub small : length s.stock.cells ≤ 2 ^ 32

  -- ---- what was checked on the planner's map is so on the replay's

  abbrev Below : Type 0
  Below = lt j.guard j.limit ≡ true

  point_good : Below → (m n : List ℕ) (q : Point) → m ≡ n → PointChecked j m q → PointGood j n q
  point_good f m n q e h = record {
    allowed = h.allowed;
    measured = h.measured ∙ ap (λ (x : List ℕ). angle_of (j.contact x q.at)) e;
    guarded = h.guarded;
    limited = le_lt q.angle j.guard j.limit h.guarded f;
  }

  later_good : Below → (s : Stock) (m : List ℕ) (p : Vec2) (ps : List Point) → s.cells ≡ m → LaterChecked j s p ps → LaterGood j m p ps
  later_good f s m p [] e h = tt
  later_good f s m p (q ∷ qs) e h = (
    point_good f s.cells m q e h.0,
    later_good f (clear_after j.grid p q.at j.r s) _ q.at qs (after-cells j.grid p q.at j.r s ∙ ap (crescent j.grid p q.at j.r) e) h.1,
  )

  pass_good : Below → (s : Stock) (m : List ℕ) (ps : List Point) → s.cells ≡ m → PassChecked j s ps → PassGood j m ps
  pass_good f s m [] e h = tt
  pass_good f s m (p ∷ ps) e h = (
    record { allowed = h.0.allowed; free = sym (ap (λ (x : List ℕ). j.free x p.at) e) ∙ h.0.free; unmeasured = h.0.unmeasured },
    later_good f s m p.at ps e h.1,
  )

  -- ---- a law for each event

  module _ (s : State) (i : Inv s) where
    -- with no pass on trial the map is the replay's
    pub idle : s.trial ≡ none → s.stock.cells ≡ (replay j s.rows).map
    idle e = i.told.map ∙ ap (λ (t : Option (List Point)). trial_map j t (replay j s.rows).map) e

    idle-count : s.trial ≡ none → s.stock.count ≡ 0
    idle-count e = i.told.count ∙ ap (λ (t : Option (List Point)). trial_removed j t (replay j s.rows).map) e

    -- undone and cleared again, nothing has changed
    pub same : take_again (put_back_all s.stock) ≡ s.stock
    same = st_eq (ap (redone s.stock.log 0 s.stock.count) i.told.back ∙ i.again) refl refl

    inv_tried : Below → (ps : List Point) (n : ℕ) → TriedChecked j s ps n → Inv (step j s (tried ps n))
    unfolding step removed
    inv_tried f ps n h =
        let d = idle h.idle in
        let run = kept-passes (fresh s.stock) (ready_for s.stock.cells s.stock.log i.room i.small) j.grid (cuts_of j ps) in
        let c = pass-cells j ps (fresh s.stock) ∙ ap (pass j ps) d in
        record {
          told = record {
            map = c;
            count = omega (arith, run.sum, ap ones c, ap ones d);
            back = run.back ∙ d;
            position = i.told.position;
            rows = i.told.rows;
            trial = pass_good f (fresh s.stock) (replay j s.rows).map ps d h.points;
          };
          again = sym (ap (redone (pass_logged j ps (fresh s.stock)).log 0 (pass_logged j ps (fresh s.stock)).count) d) ∙ run.again;
          room = omega (arith, run.cells-long, run.log-long, i.room);
          small = omega (arith, run.cells-long, i.small);
        }

    undone-length : length (put_back_all s.stock).cells ≡ length s.stock.cells
    unfolding undone
    undone-length = undone-long s.stock.log 0 s.stock.count s.stock.cells

    inv_withdrawn : Inv (step j s withdrawn)
    unfolding step
    inv_withdrawn = record {
      told = record {
        map = i.told.back;
        count = refl;
        back = (kept-none (fresh (put_back_all s.stock))).back ∙ i.told.back;
        position = i.told.position;
        rows = i.told.rows;
        trial = tt;
      };
      again = redone-none s.stock.log (replay j s.rows).map ∙ sym i.told.back;
      room = omega (arith, undone-length, i.room);
      small = omega (arith, undone-length, i.small);
    }

    -- a row that clears nothing
    inv_row : (c : Chunk) (p : Vec2) → replay_row j (replay j s.rows) c ≡ rp (replay j s.rows).map (some p) → RowGood j (replay j s.rows) c
        → Inv (state s.stock (s.rows ++ (c ∷ [])) (some p) s.trial none s.abandoned)
    inv_row c p e g =
        let z : replay j (s.rows ++ (c ∷ [])) ≡ rp (replay j s.rows).map (some p) = replay_more j s.rows c ∙ e in
        let y : (replay j s.rows).map ≡ (replay j (s.rows ++ (c ∷ []))).map = sym (ap (λ (r : Replay). r.map) z) in
        record {
          told = record {
            map = i.told.map ∙ ap (trial_map j s.trial) y;
            count = i.told.count ∙ ap (trial_removed j s.trial) y;
            back = i.told.back ∙ y;
            position = sym (ap (λ (r : Replay). r.position) z);
            rows = explained_more j s.rows c i.told.rows g;
            trial = subst (TrialGood j s.trial) y i.told.trial;
          };
          again = sym (ap (redone s.stock.log 0 s.stock.count) y) ∙ i.again;
          room = i.room;
          small = i.small;
        }

    inv_moved : (c : Chunk) (p : Vec2) → replay_row j (replay j s.rows) c ≡ rp (replay j s.rows).map (some p) → RowGood j (replay j s.rows) c
        → Inv (state (take_again (put_back_all s.stock)) (s.rows ++ (c ∷ [])) (some p) s.trial none s.abandoned)
    inv_moved c p e g = subst (λ (k : Stock). Inv (state k (s.rows ++ (c ∷ [])) (some p) s.trial none s.abandoned)) (sym same) (inv_row c p e g)

    inv_linked : (p : Vec2) → LinkChecked j s p → Inv (step j s (linked p))
    unfolding step replay_row
    inv_linked p h = inv_moved (link p) p refl (record {
      from = h.from;
      here = sym i.told.position ∙ h.here;
      clear = sym (ap (λ (m : List ℕ). j.link_clear m h.from p) i.told.back) ∙ h.clear;
    })

    inv_plunged : (p : Vec2) → PlungeChecked j s p → Inv (step j s (plunged p))
    unfolding step replay_row
    inv_plunged p h = inv_moved (plunge p) p refl (record { allowed = h.allowed; free = sym (ap (λ (m : List ℕ). j.free m p) i.told.back) ∙ h.free })

    -- nothing is listed, and what the rows tell of is as it was
    inv_still : (r : Option Vec2) (a : List ℕ) → Inv (state s.stock s.rows s.position s.trial r a)
    inv_still r a = record {
      told = record { map = i.told.map; count = i.told.count; back = i.told.back; position = i.told.position; rows = i.told.rows; trial = i.told.trial };
      again = i.again;
      room = i.room;
      small = i.small;
    }

    inv_no_way : (p : Vec2) → Inv (step j s (no_way p))
    unfolding step
    inv_no_way p = subst (λ (k : Stock). Inv (state k s.rows s.position s.trial (some p) s.abandoned)) (sym same) (inv_still (some p) s.abandoned)

    inv_keep : (p : Point) (ps : List Point) → s.trial ≡ some (p ∷ ps) → s.position ≡ some p.at → Inv (keep s (some (p ∷ ps)))
    unfolding replay_row
    inv_keep p ps e a =
        let z = replay_more j s.rows (cut (p ∷ ps)) in
        let y : pass j (p ∷ ps) (replay j s.rows).map ≡ (replay j (s.rows ++ (cut (p ∷ ps) ∷ []))).map = sym (ap (λ (r : Replay). r.map) z) in
        let m = i.told.map ∙ ap (λ (t : Option (List Point)). trial_map j t (replay j s.rows).map) e ∙ y in
        record {
          told = record {
            map = m;
            count = refl;
            back = (kept-none (fresh s.stock)).back ∙ m;
            position = sym (ap (λ (r : Replay). r.position) z);
            rows = explained_more j s.rows (cut (p ∷ ps)) i.told.rows
                (sym i.told.position ∙ a, subst (λ (t : Option (List Point)). TrialGood j t (replay j s.rows).map) e i.told.trial);
            trial = tt;
          };
          again = redone-none s.stock.log _ ∙ sym m;
          room = i.room;
          small = i.small;
        }

    inv_kept : KeepChecked s → Inv (step j s kept)
    unfolding step
    inv_kept h = subst (λ (t : Option (List Point)). Inv (keep s t)) (sym h.on) (inv_keep h.first h.rest h.on h.arrived)

    inv_bored : (c : Vec2) (rad : Float) → s.trial ≡ none → HelixGood j c rad → Inv (step j s (entered c rad))
    unfolding step replay_row
    inv_bored c rad e g =
        let z = replay_more j s.rows (helix c rad) in
        let big : Float = add binary64 rad j.r in
        let m : (clear_disk j.grid c big s.stock.cells).cells ≡ (replay j (s.rows ++ (helix c rad ∷ []))).map =
        disk-cells j.grid c big s.stock.cells ∙ ap (disk j.grid c big) (idle e) ∙ sym (ap (λ (r : Replay). r.map) z) in
        let n = idle-count e in
        let none-on = sym e in
        record {
          told = record {
            map = m ∙ ap (λ (t : Option (List Point)). trial_map j t (replay j (s.rows ++ (helix c rad ∷ []))).map) none-on;
            count = n ∙ ap (λ (t : Option (List Point)). trial_removed j t (replay j (s.rows ++ (helix c rad ∷ []))).map) none-on;
            back = ap (λ (k : ℕ). undone s.stock.log 0 k (clear_disk j.grid c big s.stock.cells).cells) n
                ∙ (kept-none (st (clear_disk j.grid c big s.stock.cells).cells s.stock.log 0)).back ∙ m;
            position = sym (ap (λ (r : Replay). r.position) z);
            rows = explained_more j s.rows (helix c rad) i.told.rows g;
            trial = subst (λ (t : Option (List Point)). TrialGood j t (replay j (s.rows ++ (helix c rad ∷ []))).map) none-on tt;
          };
          again = ap (λ (k : ℕ). redone s.stock.log 0 k (replay j (s.rows ++ (helix c rad ∷ []))).map) n ∙ redone-none s.stock.log _ ∙ sym m;
          room = omega (arith, bored-length j.grid c big s.stock.cells, i.room);
          small = omega (arith, bored-length j.grid c big s.stock.cells, i.small);
        }

    inv_entered : (c : Vec2) (rad : Float) → PlaceChecked j s c (some rad) → Inv (step j s (entered c rad))
    inv_entered c rad h = inv_bored c rad h.idle (radius_good j c h.widest rad h.radius)

    inv_given_up : (c : Vec2) → Inv (step j s (given_up c))
    unfolding step
    inv_given_up c = inv_still none (j.entry.abandon s.stock.cells s.abandoned)

  -- ---- what each event says besides its row

  module _ (s : State) (i : Inv s) where
    tried-told : Below → (ps : List Point) (n : ℕ) → TriedChecked j s ps n → n ≡ removed j ps (replay j s.rows).map
    unfolding step
    tried-told f ps n h = h.count ∙ (inv_tried s i f ps n h).told.count

    no-way-told : (p : Vec2) → NoWayChecked j s p → NoWayTold j (replay j s.rows) p
    no-way-told p h = record {
      from = h.from;
      here = sym i.told.position ∙ h.here;
      down = h.down;
      blocked = sym (ap (λ (m : List ℕ). j.link_clear m h.from p) i.told.back) ∙ h.blocked;
    }

    place-told : (c : Vec2) (o : Option Float) → PlaceChecked j s c o → PlaceTold j (replay j s.rows).map s.abandoned c o
    place-told c o h = record {
      widest = h.widest;
      found = sym (ap (λ (m : List ℕ). j.entry.place m s.abandoned) (idle s i h.idle)) ∙ h.found;
      radius = h.radius;
    }

  event_told : Below → (s : State) → Inv s → (e : Event) → Checked j s e → EventTold j s e
  event_told f s i (tried ps n) h = tried-told s i f ps n h
  event_told f s i withdrawn h = tt
  event_told f s i (linked p) h = tt
  event_told f s i (plunged p) h = h.unlinked
  event_told f s i (no_way p) h = no-way-told s i p h
  event_told f s i kept h = tt
  event_told f s i (entered c rad) h = place-told s i c (some rad) h
  event_told f s i (given_up c) h = place-told s i c none h

  -- ---- every event, and every list of them

  pub inv_step : Below → (s : State) → Inv s → (e : Event) → Checked j s e → Inv (step j s e)
  inv_step f s i (tried ps n) h = inv_tried s i f ps n h
  inv_step f s i withdrawn h = inv_withdrawn s i
  inv_step f s i (linked p) h = inv_linked s i p h
  inv_step f s i (plunged p) h = inv_plunged s i p h
  inv_step f s i (no_way p) h = inv_no_way s i p
  inv_step f s i kept h = inv_kept s i h
  inv_step f s i (entered c rad) h = inv_entered s i c rad h
  inv_step f s i (given_up c) h = inv_given_up s i c

  inv_steps : Below → (fore rest : List Event) (s : State) → Inv s → LegalFrom j s (fore ++ rest) → Inv (steps j s fore)
  unfolding steps
  inv_steps f [] rest s i h = i
  inv_steps f (e ∷ fore) rest s i h = inv_steps f fore rest (step j s e) (inv_step f s i e h.0) h.1

  checked_at : (fore : List Event) (e : Event) (rest : List Event) (s : State) → LegalFrom j s (fore ++ (e ∷ rest)) → Checked j (steps j s fore) e
  unfolding steps
  checked_at [] e rest s h = h.0
  checked_at (d ∷ fore) e rest s h = checked_at fore e rest (step j s d) h.1

  module _ (F : Fit j) where
    inv_begin : Inv (begin j)
    unfolding begin replay replay_from origin
    inv_begin = record {
      told = record { map = refl; count = refl; back = (kept-none (st j.start (zeros j) 0)).back; position = refl; rows = tt; trial = tt };
      again = redone-none (zeros j) j.start;
      room = omega (arith, length-replicate {A = ℕ} (length j.start) 0);
      small = F.small;
    }

    pub inv_after : (fore rest : List Event) → Legal j (fore ++ rest) → Inv (after j fore)
    unfolding after
    inv_after fore rest h = inv_steps F.guard fore rest (begin j) inv_begin h

    -- the theorem
    pub demand3 : (es : List Event) → Legal j es → Demand3 j es
    unfolding after
    demand3 es h = record {
      each = λ fore rest e. (inv_after fore rest (subst (Legal j) (sym e) h)).told;
      events = λ fore e rest q.
          let g = subst (Legal j) (sym q) h in
          event_told F.guard (after j fore) (inv_after fore (e ∷ rest) g) e (checked_at fore e rest (begin j) g);
    }

-- ---- what the claim says of one row

module _ (j : Job) (s : State) (t : Told j s) where
  -- each listed row keeps its rule at the replay of the rows before it
  pub told-row : (a : List Chunk) (c : Chunk) (b : List Chunk) → s.rows ≡ a ++ (c ∷ b) → RowGood j (replay j a) c
  told-row a c b e = explained_at j a c b (subst (Explained j) e t.rows)
