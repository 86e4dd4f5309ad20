-- Names of declarators, and parameters (C90 6.5.4.3, 6.7.1).
use Rattle.std.specs.Prelude.{ℕ, Bool, true, false, ◌&&◌, [], length, Option, Some, None}
use Rattle.sp_tree.specs.declared.fault.Place.{Place}
use Rattle.sp_tree.specs.declared.token.Keyword.TheVariants as words
use Rattle.sp_parse_trees.specs.Syntax.{Specifiers, no_specifiers, next_specifier, Specifier, storage, Declarator, declarator, DeclaratorForm, absent, declared, group, pointer, array, function}
use Rattle.sp_types.specs.Programs.{Object}
use Rattle.sp_types.specs.Types.{CType, void}
use Rattle.sp_types.specs.Types as types
use Rattle.sp_types.specs.declared.program.Linkage.TheVariants.{Inner}
use Rattle.sp_types.specs.declared.program.Storage.TheVariants.{Formal}
use Rattle.sp_base_checked.specs.Answers.{Checked, accepted}
use Rattle.sp_check_operands.specs.Conversions.{is_void}
use Rattle.sp_check_scopes.specs.Meanings as means
use Rattle.sp_check_env.specs.Env.{Env, with_object, set_object}
use Rattle.sp_check_env.specs.Env as env_rules

-- the name that a declarator declares, with its place
abbrev mutual
  pub declared_name : Declarator → Option (ℕ × Place)
  declared_name (declarator f p) = name_in p f

  pub name_in : Place → DeclaratorForm → Option (ℕ × Place)
  name_in p absent = None
  name_in p (declared n) = Some (n, p)
  name_in p (group d) = declared_name d
  name_in p (pointer qs d) = declared_name d
  name_in p (array d e) = declared_name d
  name_in p (function d ps dots) = declared_name d

-- 6.5.4.3: a parameter has no storage class but `register`
abbrev pub is_for_parameter : Specifier → Bool
is_for_parameter (storage words.Register) = true
is_for_parameter (storage k) = false
is_for_parameter s = true

abbrev pub has_parameter_storage : Specifiers → Bool
has_parameter_storage no_specifiers = true
has_parameter_storage (next_specifier s ss) = is_for_parameter s && has_parameter_storage ss

-- `(void)` is a list without parameters
abbrev pub is_absent : Declarator → Bool
is_absent (declarator absent p) = true
is_absent d = false

abbrev pub is_lone_void : CType → Declarator → Bool
is_lone_void t d = is_void t && is_absent d

-- 6.7.1: an array is a pointer to its elements, a function one to it
abbrev pub adjusted : CType → CType
adjusted (types.array t n) = types.pointer t
adjusted (types.function s) = types.pointer (types.function s)
adjusted t = t

abbrev pub formal : ℕ → CType → Place → Object
formal n t p = record { name = n; of = t; storage = Formal; linkage = Inner; start = []; place = p }

-- a named parameter has its entry before its type is read, so that entries come in the order of the names
abbrev pub reserved : Env → Option (ℕ × Place) → Env
reserved env None = env
reserved env (Some x) = with_object env (formal x.0 void x.1)

-- the number of that entry
abbrev pub reserved_number : Env → Option (ℕ × Place) → ℕ
reserved_number env None = 0
reserved_number env (Some x) = length env.tables.objects

-- and takes its type there
abbrev pub named_parameter : Env → ℕ → Option (ℕ × Place) → CType → Checked Env
named_parameter env k None t = accepted env
named_parameter env k (Some x) t = env_rules.declared (set_object env k (formal x.0 t x.1)) x.0 (means.object k) x.1
