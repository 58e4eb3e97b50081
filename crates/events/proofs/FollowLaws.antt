-- Lists in which a way is followed by its cut grow by a way and its cut, or by a helix, and end in a cut or a helix. Assumes nothing.
use mathlib.Core.List.{List, [], ◌∷◌, ◌++◌, map}
use Rattle.geom.specs.declared.vec2.Vec2.{Vec2}
use Rattle.events.specs.Chunk.{Point, Chunk, helix, plunge, link, cut}
use Rattle.events.specs.Followed.{CutNext, WayNext, Followed, Ends}

cut-next : (a b : List Chunk) → CutNext a → CutNext (a ++ b)
cut-next [] b h = absurd h
cut-next (helix c rad ∷ a) b h = absurd h
cut-next (plunge p ∷ a) b h = absurd h
cut-next (link p ∷ a) b h = absurd h
cut-next (cut ps ∷ a) b h = tt

way_next : (a b : List Chunk) → WayNext a → WayNext (a ++ b)
way_next [] b h = absurd h
way_next (helix c rad ∷ a) b h = absurd h
way_next (plunge p ∷ a) b h = absurd h
way_next (link p ∷ a) b h = tt
way_next (cut ps ∷ a) b h = tt

pub followed_append : (a b : List Chunk) → Followed a → Followed b → Followed (a ++ b)
followed_append [] b h g = g
followed_append (helix c rad ∷ a) b h g = followed_append a b h g
followed_append (plunge p ∷ a) b h g = (cut-next a b h.0, followed_append a b h.1 g)
followed_append (link p ∷ a) b h g = (way_next a b h.0, followed_append a b h.1 g)
followed_append (cut ps ∷ a) b h g = followed_append a b h g

-- links, and then their cut
links-next : (qs : List Vec2) (ps : List Point) → WayNext (map link qs ++ (cut ps ∷ []))
links-next [] ps = tt
links-next (q ∷ qs) ps = tt

pub links_followed : (qs : List Vec2) (ps : List Point) → Followed (map link qs ++ (cut ps ∷ []))
links_followed [] ps = tt
links_followed (q ∷ qs) ps = (links-next qs ps, links_followed qs ps)

pub plunge_followed : (p : Vec2) (ps : List Point) → Followed (plunge p ∷ cut ps ∷ [])
plunge_followed p ps = (tt, tt)

-- the last of such a list is a cut or a helix
pub followed_ends : (cs : List Chunk) (c : Chunk) → Followed (cs ++ (c ∷ [])) → Ends c
followed_ends [] (helix c rad) h = tt
followed_ends [] (plunge p) h = h.0
followed_ends [] (link p) h = h.0
followed_ends [] (cut ps) h = tt
followed_ends (helix d rad ∷ cs) c h = followed_ends cs c h
followed_ends (plunge p ∷ cs) c h = followed_ends cs c h.1
followed_ends (link p ∷ cs) c h = followed_ends cs c h.1
followed_ends (cut ps ∷ cs) c h = followed_ends cs c h
