-- Places that the code reads of a tree.
use Rattle.sp_parse_trees.proofs.TreeViews.{place_of-view, declarator_place-view}

pub ruleset places = (place_of-view, declarator_place-view)
