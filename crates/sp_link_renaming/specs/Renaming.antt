-- The types and trees of a unit, as a program of several units has them: structs, objects and
-- functions have other numbers there (C90 6.1.2.6, 6.7).
use Rattle.std.specs.Prelude.{ℕ, List, map, Option, Some, option_map, slice_get, slice_index_or}
use Rattle.sp_types.specs.Types.{CType, void, integer, floating, pointer, array, structure, function, Signature, signature, Parameters, untold, listed, CTypes, no_types, next_type}
use Rattle.sp_types.specs.Typed.{Typed, typed, TypedForm, TypedList, no_typed, next_typed}
use Rattle.sp_types.specs.Typed as tree
use Rattle.sp_types.specs.Statements.{TypedStatement, typed_statement, TypedStatementForm, label, case_of, default_of, block, empty, single, if_else, switch_on, while_loop, do_loop, for_loop, goto_name, continue_loop, break_out, return_value, MaybeTypedStatement, no_statement, some_statement, TypedStatements, no_statements, next_statement}

-- the number in the program of each struct, object and function of the unit, and the type that each
-- object of the unit has there
pub record Renaming : Type 0 where
  pub structs : List ℕ
  pub objects : List ℕ
  pub functions : List ℕ
  pub types : List CType

-- the new number of an old one
abbrev pub number_in : List ℕ → ℕ → ℕ
number_in ns k = slice_index_or ns k 0

-- ---- types

abbrev mutual
  pub renamed_type : List ℕ → CType → CType
  renamed_type ns void = void
  renamed_type ns (integer k) = integer k
  renamed_type ns (floating k) = floating k
  renamed_type ns (pointer t) = pointer (renamed_type ns t)
  renamed_type ns (array t n) = array (renamed_type ns t) n
  renamed_type ns (structure k) = structure (number_in ns k)
  renamed_type ns (function s) = function (renamed_signature ns s)

  pub renamed_signature : List ℕ → Signature → Signature
  renamed_signature ns (signature t ps dots) =
      signature (renamed_type ns t) (renamed_parameters ns ps) dots

  pub renamed_parameters : List ℕ → Parameters → Parameters
  renamed_parameters ns untold = untold
  renamed_parameters ns (listed ts) = listed (renamed_types ns ts)

  pub renamed_types : List ℕ → CTypes → CTypes
  renamed_types ns no_types = no_types
  renamed_types ns (next_type t ts) = next_type (renamed_type ns t) (renamed_types ns ts)

-- ---- expressions

-- An array has its length, and a struct its members, as the program tells them, since another unit
-- may (6.1.2.5, 6.1.2.6). What a pointer points to is as the unit tells it.
abbrev pub told_by : Option CType → CType → CType
told_by (Some (array u m)) (array t n) = array t m
told_by (Some (structure j)) (structure k) = structure j
told_by _ t = t

abbrev pub type_in : Renaming → TypedForm → CType → CType
type_in r (tree.object k) t = told_by (slice_get r.types k) (renamed_type r.structs t)
type_in r f t = renamed_type r.structs t

abbrev mutual
  pub renamed : Renaming → Typed → Typed
  renamed r (typed f t p m) = typed (renamed_form r f) (type_in r f t) p m

  pub renamed_form : Renaming → TypedForm → TypedForm
  renamed_form r (tree.number n) = tree.number n
  renamed_form r (tree.character z) = tree.character z
  renamed_form r (tree.constant z) = tree.constant z
  renamed_form r (tree.object k) = tree.object (number_in r.objects k)
  renamed_form r (tree.function k) = tree.function (number_in r.functions k)
  renamed_form r (tree.convert e) = tree.convert (renamed r e)
  renamed_form r (tree.decay e) = tree.decay (renamed r e)
  renamed_form r (tree.index a b) = tree.index (renamed r a) (renamed r b)
  renamed_form r (tree.call f es) = tree.call (renamed r f) (all_renamed r es)
  renamed_form r (tree.member e n) = tree.member (renamed r e) n
  renamed_form r (tree.arrow e n) = tree.arrow (renamed r e) n
  renamed_form r (tree.after op e) = tree.after op (renamed r e)
  renamed_form r (tree.unary op e) = tree.unary op (renamed r e)
  renamed_form r (tree.cast e) = tree.cast (renamed r e)
  renamed_form r (tree.binary op a b) = tree.binary op (renamed r a) (renamed r b)
  renamed_form r (tree.choice c a b) = tree.choice (renamed r c) (renamed r a) (renamed r b)
  renamed_form r (tree.assign op a b) = tree.assign op (renamed r a) (renamed r b)
  renamed_form r (tree.comma a b) = tree.comma (renamed r a) (renamed r b)

  pub all_renamed : Renaming → TypedList → TypedList
  all_renamed r no_typed = no_typed
  all_renamed r (next_typed e es) = next_typed (renamed r e) (all_renamed r es)

-- ---- statements

abbrev mutual
  pub renamed_statement : Renaming → TypedStatement → TypedStatement
  renamed_statement r (typed_statement f p e) =
      typed_statement (renamed_statement_form r f) p e

  pub renamed_statement_form : Renaming → TypedStatementForm → TypedStatementForm
  renamed_statement_form r (label n s) = label n (renamed_statement r s)
  renamed_statement_form r (case_of z s) = case_of z (renamed_statement r s)
  renamed_statement_form r (default_of s) = default_of (renamed_statement r s)
  renamed_statement_form r (block ns ss) =
      block (map (number_in r.objects) ns) (all_renamed_statements r ss)
  renamed_statement_form r empty = empty
  renamed_statement_form r (single e) = single (renamed r e)
  renamed_statement_form r (if_else e s other) =
      if_else (renamed r e) (renamed_statement r s) (renamed_other r other)
  renamed_statement_form r (switch_on e s) = switch_on (renamed r e) (renamed_statement r s)
  renamed_statement_form r (while_loop e s) = while_loop (renamed r e) (renamed_statement r s)
  renamed_statement_form r (do_loop s e) = do_loop (renamed_statement r s) (renamed r e)
  renamed_statement_form r (for_loop a b c s) =
      for_loop (option_map (renamed r) a) (option_map (renamed r) b) (option_map (renamed r) c)
      (renamed_statement r s)
  renamed_statement_form r (goto_name n) = goto_name n
  renamed_statement_form r continue_loop = continue_loop
  renamed_statement_form r break_out = break_out
  renamed_statement_form r (return_value e) = return_value (option_map (renamed r) e)

  pub renamed_other : Renaming → MaybeTypedStatement → MaybeTypedStatement
  renamed_other r no_statement = no_statement
  renamed_other r (some_statement s) = some_statement (renamed_statement r s)

  pub all_renamed_statements : Renaming → TypedStatements → TypedStatements
  all_renamed_statements r no_statements = no_statements
  all_renamed_statements r (next_statement s ss) =
      next_statement (renamed_statement r s) (all_renamed_statements r ss)
