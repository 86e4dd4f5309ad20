-- Places that the code reads of a tree.
use Rattle.sp_parse_trees.proofs.TreeViews.{declarator_place-view}

pub ruleset places = (declarator_place-view)
