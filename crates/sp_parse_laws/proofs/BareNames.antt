-- A tree without its places declares the same names.
use Rattle.std.proofs.Common.{◌≡◌, [], ◌∷◌, ◌++◌, refl, ap, ap₂}
use Rattle.std.specs.Prelude.{if◌then◌else◌}
use Rattle.std.specs.List.{list_any}
use Rattle.sp_parse_trees.specs.Words.{is_typedef}
use Rattle.sp_parse_trees.specs.Syntax as syntax
use Rattle.sp_parse_trees.specs.Syntax.{Specifiers, no_specifiers, next_specifier, Declarator, declarator, DeclaratorForm, InitDeclarators, no_items, next_item, init_declarator, Declaration, declaration, External}
use Rattle.sp_parse_trees.specs.Levels.{storages, declared_name, form_name, is_plain, is_plain_form, is_variadic, is_variadic_form, named_by, names_of_items, new_types}
use Rattle.sp_parse_laws.specs.Bare.{bare_specifiers, bare_declarator, bare_declarator_form, bare_items}
use Rattle.sp_parse_laws.specs.BareUnits.{bare_external}

mutual
  pub bare_declared : (d : Declarator) → declared_name (bare_declarator d) ≡ declared_name d
  bare_declared (declarator f p) = bare_form_declared f

  bare_form_declared : (f : DeclaratorForm) → form_name (bare_declarator_form f) ≡ form_name f
  bare_form_declared syntax.absent = refl
  bare_form_declared (syntax.declared n) = refl
  bare_form_declared (syntax.group d) = bare_declared d
  bare_form_declared (syntax.pointer ks d) = bare_declared d
  bare_form_declared (syntax.array d e) = bare_declared d
  bare_form_declared (syntax.function d ps dots) = bare_declared d

mutual
  bare_plain : (d : Declarator) → is_plain (bare_declarator d) ≡ is_plain d
  bare_plain (declarator f p) = bare_form_plain f

  bare_form_plain : (f : DeclaratorForm) → is_plain_form (bare_declarator_form f) ≡ is_plain_form f
  bare_form_plain syntax.absent = refl
  bare_form_plain (syntax.declared n) = refl
  bare_form_plain (syntax.group d) = bare_plain d
  bare_form_plain (syntax.pointer ks d) = refl
  bare_form_plain (syntax.array d e) = refl
  bare_form_plain (syntax.function d ps dots) = refl

mutual
  pub bare_variadic : (d : Declarator) → is_variadic (bare_declarator d) ≡ is_variadic d
  bare_variadic (declarator f p) = bare_form_variadic f

  bare_form_variadic : (f : DeclaratorForm) → is_variadic_form (bare_declarator_form f) ≡ is_variadic_form f
  bare_form_variadic syntax.absent = refl
  bare_form_variadic (syntax.declared n) = refl
  bare_form_variadic (syntax.group d) = bare_variadic d
  bare_form_variadic (syntax.pointer ks d) = bare_variadic d
  bare_form_variadic (syntax.array d e) = bare_variadic d
  bare_form_variadic (syntax.function d ps dots) = ap₂ (λ u v. if u then dots else v) (bare_plain d) (bare_variadic d)

bare_storages : (ss : Specifiers) → storages (bare_specifiers ss) ≡ storages ss
bare_storages no_specifiers = refl
bare_storages (next_specifier (syntax.storage k) ss) = ap (λ v. k ∷ v) (bare_storages ss)
bare_storages (next_specifier (syntax.qualifier k) ss) = bare_storages ss
bare_storages (next_specifier (syntax.basic k) ss) = bare_storages ss
bare_storages (next_specifier (syntax.named n) ss) = bare_storages ss
bare_storages (next_specifier (syntax.struct_specifier s) ss) = bare_storages ss
bare_storages (next_specifier (syntax.enum_specifier s) ss) = bare_storages ss

bare_names : (is : InitDeclarators) → names_of_items (bare_items is) ≡ names_of_items is
bare_names no_items = refl
bare_names (next_item (init_declarator d v) is) = ap₂ (λ u w. named_by u ++ w) (bare_declared d) (bare_names is)

pub bare_new_types : (e : External) → new_types (bare_external e) ≡ new_types e
bare_new_types (syntax.definition ss d b) = ap₂ (λ u v. if list_any is_typedef u then named_by v else []) (bare_storages ss) (bare_declared d)
bare_new_types (syntax.external_declaration (declaration ss is p)) = ap₂ (λ u v. if list_any is_typedef u then v else []) (bare_storages ss) (bare_names is)
bare_new_types syntax.semicolon = refl
