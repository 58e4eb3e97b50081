-- A way is followed by its cut: behind a plunge stands a cut, behind a link another or a cut. So a list never ends in a link or a plunge, and `plan`'s removal of
-- trailing ones (adaptive.rs) never acts. Definitions only.
use Rattle.std.specs.Prelude.{List, [], ◌∷◌}
use Rattle.events.specs.Chunk.{Chunk, helix, plunge, link, cut}

-- a cut comes next
abbrev pub CutNext : List Chunk → Type 0
CutNext [] = ⊥
CutNext (helix c rad ∷ cs) = ⊥
CutNext (plunge p ∷ cs) = ⊥
CutNext (link p ∷ cs) = ⊥
CutNext (cut ps ∷ cs) = Unit

-- a link or a cut comes next
abbrev pub WayNext : List Chunk → Type 0
WayNext [] = ⊥
WayNext (helix c rad ∷ cs) = ⊥
WayNext (plunge p ∷ cs) = ⊥
WayNext (link p ∷ cs) = Unit
WayNext (cut ps ∷ cs) = Unit

abbrev pub Followed : List Chunk → Type 0
Followed [] = Unit
Followed (helix c rad ∷ cs) = Followed cs
Followed (plunge p ∷ cs) = CutNext cs × Followed cs
Followed (link p ∷ cs) = WayNext cs × Followed cs
Followed (cut ps ∷ cs) = Followed cs

-- a chunk that may be a list's last
abbrev pub Ends : Chunk → Type 0
Ends (helix c rad) = Unit
Ends (plunge p) = ⊥
Ends (link p) = ⊥
Ends (cut ps) = Unit
