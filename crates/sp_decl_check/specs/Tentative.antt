-- Tentative definitions whose type is incomplete at the end of the unit (C90 6.7.2).
use Rattle.std.specs.Prelude.{ℕ, Bool, true, false, List, [], ◌∷◌, Option, Some, None, if◌then◌else◌, is_none, slice_get}
use Rattle.sp_tree.specs.declared.fault.Place.{Place}
use Rattle.sp_parse_trees.specs.Places.{declarator_place}
use Rattle.sp_parse_trees.specs.Syntax.{Declarator, InitDeclarator, init_declarator, no_init, some_init, InitDeclarators, no_items, next_item, Declaration, declaration, External, definition, external_declaration, semicolon}
use Rattle.sp_types.specs.Types.{CType, Struct}
use Rattle.sp_check_operands.specs.Conversions.{is_open_struct}
use Rattle.sp_check_scopes.specs.Scopes.{or_else}
use Rattle.sp_check_env.specs.declared.env.Entity.{Entity}
use Rattle.sp_check_env.specs.declared.env.Entity.TheVariants as entities
use Rattle.sp_check_env.specs.Env.{Env, linked, object_type}
use Rattle.sp_check_members.specs.Parameters.{declared_name}
use Rattle.sp_check_declarations.specs.Words.{storage_class}

abbrev pub is_open : List Struct → Option CType → Bool
is_open ss None = false
is_open ss (Some t) = is_open_struct ss t

-- an object whose struct has no members
abbrev pub is_open_entity : Env → Option Entity → Bool
is_open_entity env (Some (entities.Object k)) = is_open env.tables.structs (object_type (slice_get env.tables.objects k))
is_open_entity env _ = false

abbrev pub open_name : Env → Place → Option (ℕ × Place) → Option Place
open_name env at None = None
open_name env at (Some n) = if is_open_entity env (linked env n.0) then Some at else None

-- the place of the declarator, where it has no initialiser
abbrev pub open_item : Env → InitDeclarator → Option Place
open_item env (init_declarator d no_init) = open_name env (declarator_place d) (declared_name d)
open_item env (init_declarator d (some_init i)) = None

abbrev pub open_items : Env → InitDeclarators → Option Place
open_items env no_items = None
open_items env (next_item i is) = or_else (open_item env i) (open_items env is)

-- 6.7.2: tentative are those without a storage class; an internal one is complete where it stands
abbrev pub open_external : Env → External → Option Place
open_external env (definition ss d s) = None
open_external env (external_declaration (declaration ss is p)) = if is_none (storage_class ss) then open_items env is else None
open_external env semicolon = None

-- the first of a unit, where `env` is the environment at its end
abbrev pub open_tentative : Env → List External → Option Place
open_tentative env [] = None
open_tentative env (e ∷ es) = or_else (open_external env e) (open_tentative env es)
