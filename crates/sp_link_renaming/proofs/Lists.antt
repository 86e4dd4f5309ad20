-- Lists of types and of trees under a renaming.
use Rattle.std.proofs.Common.{◌≡◌, ℕ, List, [], ◌∷◌, map, refl, ap}
use Rattle.sp_types.specs.Types.{CType, next_type}
use Rattle.sp_types.specs.View.{types}
use Rattle.sp_types.specs.Typed.{Typed, next_typed}
use Rattle.sp_types.specs.TypedView.{typed_list, statement_list}
use Rattle.sp_types.specs.Statements.{TypedStatement, next_statement}
use Rattle.sp_link_renaming.specs.Renaming.{Renaming, renamed_type, renamed_types, renamed, all_renamed, renamed_statement, all_renamed_statements}

pub types_renamed : (ns : List ℕ) (ts : List CType) → types (map (renamed_type ns) ts) ≡ renamed_types ns (types ts)
types_renamed ns [] = refl
types_renamed ns (t ∷ ts) = ap (next_type (renamed_type ns t)) (types_renamed ns ts)

pub trees_renamed : (r : Renaming) (es : List Typed) → typed_list (map (renamed r) es) ≡ all_renamed r (typed_list es)
trees_renamed r [] = refl
trees_renamed r (e ∷ es) = ap (next_typed (renamed r e)) (trees_renamed r es)

pub statements_renamed : (r : Renaming) (ss : List TypedStatement) → statement_list (map (renamed_statement r) ss) ≡ all_renamed_statements r (statement_list ss)
statements_renamed r [] = refl
statements_renamed r (s ∷ ss) = ap (next_statement (renamed_statement r s)) (statements_renamed r ss)
