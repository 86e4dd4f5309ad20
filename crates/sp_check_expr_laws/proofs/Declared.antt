-- Types that specifiers and declarators give have complete elements where they are arrays
-- (C90 6.5.2, 6.5.4.2, 6.5.6).
use Rattle.std.proofs.Common.{◌≡◌, ℕ, pos, Bool, false, List, [], Option, Some, None, refl, subst}
use Rattle.std.specs.Prelude.{⊤}
use Rattle.sp_tree.specs.declared.fault.Place.{Place}
use Rattle.sp_parse_trees.specs.Syntax.{Specifier, storage, qualifier, basic, named, struct_specifier, enum_specifier, Specifiers, no_specifiers, next_specifier, StructSpec, struct_spec, no_members, some_members, EnumSpec, enum_spec, no_constants, some_constants, Declarator, declarator}
use Rattle.sp_types.specs.Types.{CType, structure}
use Rattle.sp_base_checked.specs.Answers.{Checked, accepted, refused}
use Rattle.sp_check_operands.specs.Operands.{int}
use Rattle.sp_check_scopes.specs.declared.meaning.Tag.{Tag}
use Rattle.sp_check_scopes.specs.declared.meaning.Tag.TheVariants as tags
use Rattle.sp_check_scopes.specs.Meanings.{Meaning}
use Rattle.sp_check_scopes.specs.Meanings as means
use Rattle.sp_check_scopes.specs.Scopes.{visible_meaning}
use Rattle.sp_check_env.specs.Env.{Env}
use Rattle.sp_check_type_names.specs.Tags.{type_named, named_checked, tag_found, struct_at, enum_at}
use Rattle.sp_expr_check.specs.Expressions.{specifiers_checked, specifier_checked, struct_checked, members_checked, enum_checked, constants_checked, declared_type}
use Rattle.sp_expr_check.specs.Specifiers.{names_type, struct_opened, stays}
use Rattle.sp_check_members.specs.Members.{completed}
use Rattle.sp_check_members.specs.Enumerators.{with_enum_tag}
use Rattle.sp_check_formed_laws.proofs.Lists.{none_some, some_is}
use Rattle.sp_check_formed_laws.proofs.After.{Gives, gives, gives_none, gives_then, gives_given, gives_either, anything}
use Rattle.sp_check_written_laws.specs.Written.{IsWrittenDeclarator}
use Rattle.sp_check_written_laws.specs.Laws.{AreByteNames}
use Rattle.sp_check_expr_laws.specs.Sound.{KnowsElements}
use Rattle.sp_check_expr_laws.proofs.Elements.{elements_stay, made_elements, words_elements}
use Rattle.sp_check_expr_laws.proofs.Envs.{IsFit, Reaches, table_stays, visible_fitting}
use Rattle.sp_check_expr_laws.proofs.Expressions.{steps_good}

-- of the type that a rule gives, in the environment behind it
abbrev pub AreKnownElements : CType × Env → Type 0
AreKnownElements x = KnowsElements x.1.tables.structs x.0

gives_there : {A : Type 0} (env : Env) {Q : A × Env → Type 0} {c : Checked A}
    → Gives (λ y. Q (y, env)) c → Gives Q (stays env c)
gives_there env {c = accepted x} h = gives {x = (x, env)} (h.at x refl)
gives_there env {c = refused k p} h = gives_none

pub elements_kept : {own : ℕ → Bool} {env later : Env} → IsFit own env → Reaches own env later
    → (t : CType) → KnowsElements env.tables.structs t → KnowsElements later.tables.structs t
elements_kept {own = own} {env = env} {later = later} h g t k =
    elements_stay env.tables.structs later.tables.structs
    (table_stays own env later g.moves h.formed) t k

module _ (names : List (List ℕ)) (bytes : AreByteNames names) (own : ℕ → Bool) where
  named_elements : (env : Env) (n : ℕ) (at : Place) → IsFit own env
      → Gives (λ t. KnowsElements env.tables.structs t) (named_checked env n at)
  named_elements env n at h =
      gives_given {o = type_named (visible_meaning env.scopes n)} _ _
      (λ t e. gives {x = t} (by t (visible_meaning env.scopes n) refl e))
    where
      by : (t : CType) (o : Option Meaning) → visible_meaning env.scopes n ≡ o
          → type_named o ≡ Some t → KnowsElements env.tables.structs t
      by t None e g = absurd (none_some t g)
      by t (Some (means.object k)) e g = absurd (none_some t g)
      by t (Some (means.function k)) e g = absurd (none_some t g)
      by t (Some (means.constant z)) e g = absurd (none_some t g)
      by t (Some (means.named u)) e g =
          subst (λ t. KnowsElements env.tables.structs t) (some_is u t g)
          (visible_fitting own env n (means.named u) h e).1

  struct_elements : (env : Env) (alone : Bool) (s : StructSpec)
      → Gives AreKnownElements (struct_checked names env alone s)
  struct_elements env alone (struct_spec union tag no_members p) =
      gives_then {Q = λ x. ⊤} {c = struct_at env union tag p (tag_found env alone tag)} anything
      (λ x u. gives {x = (structure x.0, x.1)} tt)
  struct_elements env alone (struct_spec union tag (some_members ds) p) =
      gives_then {Q = λ x. ⊤} {c = struct_opened env union tag p} anything (λ x u.
      gives_then {Q = λ y. ⊤} {c = members_checked names x.1 [] ds} anything (λ y v.
      gives_then {Q = λ e. ⊤} {c = completed y.1 x.0 union p y.0} anything
      (λ e w. gives {x = (structure x.0, e)} tt)))

  enum_type : (env : Env) (p : Place) (o : Option Tag)
      → Gives (λ t. KnowsElements env.tables.structs t) (enum_at p o)
  enum_type env p None = gives_none
  enum_type env p (Some tags.Enum) = gives {x = int} tt
  enum_type env p (Some (tags.Struct k)) = gives_none

  enum_elements : (env : Env) (s : EnumSpec) → Gives AreKnownElements (enum_checked names env s)
  enum_elements env (enum_spec tag no_constants p) =
      gives_there env {Q = AreKnownElements} (enum_type env p (tag_found env false tag))
  enum_elements env (enum_spec tag (some_constants cs) p) =
      gives_then {Q = λ e. ⊤} {c = with_enum_tag env tag p} anything (λ e u.
      gives_then {Q = λ x. ⊤} {c = constants_checked names e (pos 0) cs} anything
      (λ x v. gives {x = (int, x.1)} tt))

  specifier_elements : (env : Env) (alone : Bool) (at : Place) (ws : Specifiers) (s : Specifier)
      → IsFit own env → Gives AreKnownElements (specifier_checked names env alone at ws s)
  specifier_elements env alone at ws (storage k) h = gives (words_elements env.tables.structs ws)
  specifier_elements env alone at ws (qualifier k) h =
      gives (words_elements env.tables.structs ws)
  specifier_elements env alone at ws (basic k) h = gives (words_elements env.tables.structs ws)
  specifier_elements env alone at ws (named n) h =
      gives_there env {Q = AreKnownElements} (named_elements env n at h)
  specifier_elements env alone at ws (struct_specifier s) h = struct_elements env alone s
  specifier_elements env alone at ws (enum_specifier s) h = enum_elements env s

  pub specifiers_elements : (env : Env) (alone : Bool) (at : Place) (ss : Specifiers)
      → IsFit own env → Gives AreKnownElements (specifiers_checked names env alone at ss)
  specifiers_elements env alone at no_specifiers h = gives {x = (int, env)} tt
  specifiers_elements env alone at (next_specifier s ss) h =
      gives_either {b = names_type s}
      (λ told. specifier_elements env alone at (next_specifier s ss) s h)
      (λ told. specifiers_elements env alone at ss h)

  pub declared_elements : (env : Env) (base : CType) (d : Declarator) → IsFit own env
      → IsWrittenDeclarator d → KnowsElements env.tables.structs base
      → Gives AreKnownElements (declared_type names env base d)
  declared_elements env base (declarator f p) h w k =
      gives_then {Q = λ x. KnowsElements x.1.tables.structs base} (record {
        at = λ x e.
            elements_kept h ((steps_good names bytes own env (declarator f p) h w).at x e).0 base k;
      }) (λ x g.
      gives_there x.1 {Q = AreKnownElements} (made_elements x.1.tables.structs p x.0 base g))
