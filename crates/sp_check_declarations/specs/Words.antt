-- What the words and the declarators of a declaration say before any type is read (C90 6.5, 6.5.1,
-- 6.5.4).
use Rattle.std.specs.Prelude.{Bool, true, false, ◌||◌, Option, Some, None, is_some}
use Rattle.sp_tree.specs.declared.token.Keyword.{Keyword}
use Rattle.sp_tree.specs.declared.token.Keyword.TheVariants as words
use Rattle.sp_parse_trees.specs.Syntax.{Specifiers, no_specifiers, next_specifier, Specifier, storage, struct_specifier, enum_specifier, StructSpec, struct_spec, EnumSpec, enum_spec, no_constants, some_constants, Declarator, declarator, DeclaratorForm, absent, declared, group, pointer, array, function, MaybeInit, no_init, some_init, InitDeclarators, no_items, next_item}

-- 6.5.1: the storage class, of which there is at most one
abbrev pub class_in : Specifier → Option Keyword
class_in (storage k) = Some k
class_in s = None

abbrev pub or_class : Option Keyword → Option Keyword → Option Keyword
or_class (Some k) other = Some k
or_class None other = other

abbrev pub storage_class : Specifiers → Option Keyword
storage_class no_specifiers = None
storage_class (next_specifier s ss) = or_class (class_in s) (storage_class ss)

abbrev pub is_typedef : Option Keyword → Bool
is_typedef (Some words.Typedef) = true
is_typedef _ = false

-- 6.7: neither stands at file scope
abbrev pub is_automatic : Option Keyword → Bool
is_automatic (Some words.Auto) = true
is_automatic (Some words.Register) = true
is_automatic _ = false

-- a tag, or enumeration constants
abbrev pub declares_struct : StructSpec → Bool
declares_struct (struct_spec union tag ms p) = is_some tag

abbrev pub declares_enum : EnumSpec → Bool
declares_enum (enum_spec tag (some_constants cs) p) = true
declares_enum (enum_spec tag no_constants p) = false

abbrev pub declares_here : Specifier → Bool
declares_here (struct_specifier s) = declares_struct s
declares_here (enum_specifier s) = declares_enum s
declares_here s = false

abbrev pub declares_tag : Specifiers → Bool
declares_tag no_specifiers = false
declares_tag (next_specifier s ss) = declares_here s || declares_tag ss

abbrev pub has_none : InitDeclarators → Bool
has_none no_items = true
has_none (next_item i is) = false

abbrev pub is_given : MaybeInit → Bool
is_given no_init = false
is_given (some_init i) = true

-- 6.5.4: whether the name of a declarator has a function type, where `whole` says whether the type
-- that it is applied to is one
abbrev mutual
  pub names_function : Bool → Declarator → Bool
  names_function whole (declarator f p) = form_names_function whole f

  pub form_names_function : Bool → DeclaratorForm → Bool
  form_names_function whole absent = whole
  form_names_function whole (declared n) = whole
  form_names_function whole (group d) = names_function whole d
  form_names_function whole (pointer qs d) = names_function false d
  form_names_function whole (array d e) = names_function false d
  form_names_function whole (function d ps dots) = names_function true d
