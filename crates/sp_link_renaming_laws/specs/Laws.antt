-- Well-typed expressions and bodies of a unit are well typed in its program.
use Rattle.std.specs.Prelude.{◌≡◌, ℕ, Bool, Some}
use Rattle.sp_types.specs.Types.{CType}
use Rattle.sp_types.specs.Typed.{Typed, of}
use Rattle.sp_types.specs.Statements.{TypedStatement}
use Rattle.sp_link_renaming.specs.Renaming.{Renaming, number_in, renamed, renamed_statement}
use Rattle.sp_check_typing.specs.Trees.{Scene, IsTyped}
use Rattle.sp_check_typing.specs.Statements.{IsDeclared, IsTypedBody}
use Rattle.sp_check_typing.specs.Constants.{is_stored}
use Rattle.sp_check_typing.specs.Refines.{Refines}
use Rattle.sp_link_renaming_laws.specs.Follows.{lacks_layout, Follows}

-- the tree as the program has it, with a type that stands for the unit's
pub record IsRenamed (o : ℕ → Bool) (r : Renaming) (p : Scene) (e : Typed) : Type 0 where
  pub typed : IsTyped p (renamed r e)
  pub refines : Refines o (number_in r.structs) (of e) (of (renamed r e))

abbrev pub ExpressionsAreRenamed : Type 0
ExpressionsAreRenamed = (r : Renaming) (s p : Scene) (e : Typed) → Follows r s p → IsTyped s e
    → IsRenamed (lacks_layout s.structs) r p e

-- where the objects of blocks are well typed in the program, and the result has a type for the unit's
abbrev pub BodiesAreRenamed : Type 0
BodiesAreRenamed = (r : Renaming) (s p : Scene) (t u : CType) (body : TypedStatement) → Follows r s p
    → Refines (lacks_layout s.structs) (number_in r.structs) t u → ((n : ℕ) → IsDeclared s n → IsDeclared p (number_in r.objects n))
    → IsTypedBody s t (Some body) → IsTypedBody p u (Some (renamed_statement r body))

-- what is known before the program runs is so there (C90 6.4)
abbrev pub ConstantsAreRenamed : Type 0
ConstantsAreRenamed = (r : Renaming) (e : Typed) → is_stored (renamed r e) ≡ is_stored e
