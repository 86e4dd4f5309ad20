-- Places and parts that the code reads of a tree.
use Rattle.sp_parse_trees.proofs.TreeViews.{declarator_place-view}
use Rattle.sp_check_declarations.proofs.Items.{declaration_of-view, init_declarator_of-view}

pub ruleset places = (declarator_place-view, declaration_of-view, init_declarator_of-view)
