-- `abi::of_links::links_link_path` meets its contract. Assumes nothing.
use Rattle.abi.proofs.SetupLaws.{over-grid}
use Rattle.abi.proofs.PathLaws.{fitted_of, path_by, cells_of}
use Rattle.abi.proofs.of_links.links_link_path.Goals as goal

pub link_path-requires : goal.link_path-requires
link_path-requires c = let m = c.made-s.ensures in record { fitted = fitted_of _ _ _ _ _ _ m.0 m.1 _ _ _ _ c.requires.fitted; over = over-grid _ _ _ _ _ _ m.0 m.1 _ c.requires.over; s_in_bounds = cells_of _ _ _ _ _ _ m.0 m.1 _ c.requires.nx_in_bounds }

pub put_route-requires : goal.put_route-requires
put_route-requires c = c.requires.in_bounds

pub returns : goal.returns
returns c = let m = c.made-s.ensures in path_by _ _ _ _ _ _ m.0 m.1 _ _ _ _ _ _ _ _ _ _ c.put_route.ensures c.link_path.ensures.w_after
