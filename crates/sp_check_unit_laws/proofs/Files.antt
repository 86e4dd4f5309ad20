-- Declarations in the scope of the file list no object, and leave the environment sound
-- (C90 6.1.2.1, 6.7.2).
use Rattle.std.proofs.Common.{◌≡◌, ℕ, suc, nat_eq, Bool, true, false, not, ◌&&◌, ◌||◌, if◌then◌else◌, List, [], ◌∷◌, ◌++◌, Option, Some, None, refl, ap, sym, subst, ◌∙◌, true≢false, eqb-true, arith}
use Rattle.std.specs.Prelude.{slice_get, ⊤}
use Rattle.sp_tree.specs.declared.fault.Place.{Place}
use Rattle.sp_tree.specs.declared.token.Keyword.{Keyword}
use Rattle.sp_tree.specs.declared.token.Keyword.TheVariants as words
use Rattle.sp_parse_trees.specs.Syntax.{storage, qualifier, basic, named, struct_specifier, enum_specifier, Specifiers, no_specifiers, next_specifier, Declarator, MaybeInit, no_init, some_init, InitDeclarator, init_declarator, InitDeclarators, no_items, next_item, Declaration, declaration, external_declaration}
use Rattle.sp_parse_trees.specs.Words.{is_storage}
use Rattle.sp_parse_trees.specs.Places.{declarator_place}
use Rattle.sp_types.specs.Types.{CType}
use Rattle.sp_types.specs.declared.program.Linkage.{Linkage}
use Rattle.sp_types.specs.declared.program.Linkage.TheVariants.{External, Internal, Inner}
use Rattle.sp_check_scopes.specs.Scopes.{is_file_scope}
use Rattle.sp_check_env.specs.declared.env.Entity.{Entity}
use Rattle.sp_check_env.specs.declared.env.Entity.TheVariants as entities
use Rattle.sp_check_env.specs.Env.{Env, linked}
use Rattle.sp_check_operands.specs.Conversions.{is_function}
use Rattle.sp_check_primaries.specs.Functions.{extern_of}
use Rattle.sp_check_members.specs.Parameters.{declared_name}
use Rattle.sp_expr_check.specs.Expressions.{declared_type}
use Rattle.sp_check_objects.specs.Objects.{linkage_for, storage_for, is_outside, static_linkage, plain_linkage, entry_for, object_reserved, reserved_number, has_linkage}
use Rattle.sp_check_declarations.specs.Words.{storage_class, is_automatic, declares_tag, has_none, is_given, names_function}
use Rattle.sp_check_declarations.specs.Declarations.{with_number, object_told, object_at, object_checked, other_told, other_checked, names_object, item_declared, items_declared, declaration_checked}
use Rattle.sp_check_formed_laws.proofs.Lists.{none_some, some_is, each_none}
use Rattle.sp_check_formed_laws.proofs.Longer.{type_longer}
use Rattle.sp_check_formed_laws.proofs.After.{Gives, gives, gives_then, gives_more, gives_met, gives_given, gives_either, anything}
use Rattle.sp_check_written_laws.specs.Written.{AreWrittenSpecifiers, IsWrittenDeclarator, IsWrittenItem, AreWrittenItems, IsWrittenDeclaration}
use Rattle.sp_check_written_laws.specs.Laws.{AreByteNames}
use Rattle.sp_check_expr_laws.specs.Sound.{KnowsElements, lasting_alone}
use Rattle.sp_check_expr_laws.proofs.Envs.{IsFit, Moves, moves_nowhere, moves_on, SeesAll, Reaches, table_stays, around_alike}
use Rattle.sp_check_expr_laws.proofs.Elements.{elements_stay}
use Rattle.sp_check_expr_laws.proofs.Starts.{HaveStarts, starts_more}
use Rattle.sp_check_expr_laws.proofs.Types.{number_equals}
use Rattle.sp_check_expr_laws.proofs.Updates.{fit_wider, fit_narrower}
use Rattle.sp_check_typing.specs.Programs.{lasts}
use Rattle.sp_check_initialiser_laws.proofs.Values.{gives_after}
use Rattle.sp_check_unit_laws.proofs.Tentative.{name_after, item_after, items_after, external_after, waits_in, waits_on, waits_more, waits_last}
use Rattle.sp_check_expr_laws.proofs.Leaves.{IsType}
use Rattle.sp_check_expr_laws.proofs.Expressions.{specifiers_good}
use Rattle.sp_check_expr_laws.proofs.Declared.{specifiers_elements}
use Rattle.sp_check_unit_laws.proofs.Fits.{AreOwn}
use Rattle.sp_check_unit_laws.proofs.Held.{IsHeld, held_on}
use Rattle.sp_check_unit_laws.proofs.Locals.{no_locals}
use Rattle.sp_check_unit_laws.proofs.Declarations.{after_both, ItemMayOpen, object_shows, linked_place, plain_name, other_typed, item_typed}

-- ---- linkage in the scope of the file

extern_linked : (o : Option Linkage) → has_linkage (extern_of o) ≡ true
extern_linked None = refl
extern_linked (Some External) = refl
extern_linked (Some Internal) = refl
extern_linked (Some Inner) = refl

file_linked : (env : Env) (n : ℕ) (class : Option Keyword) → is_file_scope env.scopes ≡ true
    → has_linkage (linkage_for env n class) ≡ true
file_linked env n (Some words.Extern) h = extern_linked _
file_linked env n (Some words.Static) h = ap (λ b. has_linkage (static_linkage b)) h
file_linked env n class h = ap (λ b. has_linkage (plain_linkage b)) h

listed_same : (ks : List ℕ) (l : Linkage) (k : ℕ) → has_linkage l ≡ true → with_number ks l k ≡ ks
listed_same ks External k h = refl
listed_same ks Internal k h = refl
listed_same ks Inner k h = absurd (true≢false (sym h))

pub file_on : {own : ℕ → Bool} {env later : Env} → Reaches own env later
    → is_file_scope env.scopes ≡ true → is_file_scope later.scopes ≡ true
file_on g h = around_alike g.moves ∙ h

-- a declaration of the file leads there, where the objects of these names may wait
pub record IsFiled (env : Env) (ts : List ℕ) (later : Env) : Type 0 where
  pub fit : IsFit lasting_alone later
  pub moves : Moves env later
  pub starts : HaveStarts (waits_in ts later) later

abbrev pub IsFiledAnswer : Env → List ℕ → List ℕ × Env → Type 0
IsFiledAnswer env ts y = (y.0 ≡ []) × IsFiled env ts y.1

type_moved : (env later : Env) → Moves env later → (t : CType) → IsType t env → IsType t later
type_moved env later g t h =
    (type_longer env.tables.structs later.tables.structs g.keeps.longer t h.0, h.1)

module _ (names : List (List ℕ)) (bytes : AreByteNames names) where
  object_unlisted : (env : Env) (ks : List ℕ) (class : Option Keyword) (base : CType)
      (d : Declarator) (start : MaybeInit) (n : ℕ) (p : Place) (l : Linkage) (e : Option Entity)
      → has_linkage l ≡ true
      → Gives (λ y. y.0 ≡ ks) (object_at names env ks class base d start n p l e)
  object_unlisted env ks class base d start n p l e h =
      gives_then {Q = λ x. ⊤}
      {c = declared_type names (object_reserved env n p e) base d} anything (λ x t.
      gives_then {Q = λ x. ⊤}
      {c = object_told names x.1 class x.0 (reserved_number env e) n p (declarator_place d)
      start l e} anything (λ later u.
      gives {x = (with_number ks l (reserved_number env e), later)}
      (listed_same ks l (reserved_number env e) h)))

  other_unlisted : (env : Env) (ks : List ℕ) (class : Option Keyword) (whole : Place)
      (base : CType) (d : Declarator) (start : MaybeInit) (n : ℕ) (p : Place)
      → Gives (λ y. y.0 ≡ ks) (other_checked names env ks class whole base d start n p)
  other_unlisted env ks class whole base d start n p =
      gives_then {Q = λ x. ⊤} {c = declared_type names env base d} anything (λ x t.
      gives_then {Q = λ x. ⊤}
      {c = other_told x.1 class whole x.0 n p (declarator_place d) (is_given start)} anything
      (λ later u. gives {x = (ks, later)} refl))

  item_unlisted : (env : Env) (class : Option Keyword) (whole : Place) (base : CType)
      (ks : List ℕ) (i : InitDeclarator) → is_file_scope env.scopes ≡ true
      → Gives (λ y. y.0 ≡ ks) (item_declared names env class whole base ks i)
  item_unlisted env class whole base ks (init_declarator d start) h =
      gives_given {o = declared_name d} _ _ (λ n e.
      gives_either {b = names_object class base d}
      (λ o. object_unlisted env ks class base d start n.0 n.1 (linkage_for env n.0 class)
      (entry_for env n.0 (linkage_for env n.0 class)) (file_linked env n.0 class h))
      (λ o. other_unlisted env ks class whole base d start n.0 n.1))

  -- what lasts alone is not all
  partly : SeesAll lasting_alone → ⊥
  partly all = true≢false (sym (all 0))

  none_own : AreOwn lasting_alone []
  none_own = each_none (λ n. lasting_alone n ≡ true)

  -- ---- an item that defines no object tentatively

  filed_by : (env later : Env) (ts us : List ℕ) → Reaches lasting_alone env later
      → HaveStarts (waits_in ts env) env
      → ((k : ℕ) → waits_in ts later k ≡ true → waits_in us later k ≡ true)
      → IsFiled env us later
  filed_by env later ts us g s more = record {
    fit = g.fit;
    moves = g.moves;
    starts = starts_more (waits_in ts env) (waits_in us later) later
        (λ k h. more k (waits_on ts env later g.moves.links k h))
        (g.starts (waits_in ts env) (λ file k e. absurd (true≢false (sym e))) s);
  }

  -- `auto` and `register` don't stand there (6.7)
  abbrev IsClass : Option Keyword → Type 0
  IsClass class = (is_automatic class ≡ false)
      × ((k : Keyword) → class ≡ Some k → is_storage k ≡ true)

  -- an external object that is defined with a storage class has an initialiser
  class_opens : (l : Linkage) (k : Keyword) (valued : Bool) (base : CType) (d : Declarator)
      → IsClass (Some k) → names_object (Some k) base d ≡ true
      → (words.Static ≡ k → l ≡ External → ⊥) → l ≡ External
      → is_outside (storage_for l (Some k) valued) ≡ false → valued ≡ false → ⊥
  class_opens External words.Extern false base d c o s e i v = true≢false i
  class_opens External words.Static false base d c o s e i v = s refl refl
  class_opens External words.Typedef false base d c o s e i v = true≢false (sym o)
  class_opens External words.Auto false base d c o s e i v = true≢false c.0
  class_opens External words.Register false base d c o s e i v = true≢false c.0
  class_opens External k false base d c o s e i v = true≢false (sym (c.1 k refl))
  class_opens External k true base d c o s e i v = true≢false v
  class_opens Internal k valued base d c o s e i v = absurd (cc)
  class_opens Inner k valued base d c o s e i v = absurd (cc)

  static_apart : (env : Env) (n : ℕ) (k : Keyword) → is_file_scope env.scopes ≡ true
      → words.Static ≡ k → linkage_for env n (Some k) ≡ External → ⊥
  static_apart env n k file is e =
      internal_apart (sym (ap static_linkage file)
      ∙ subst (λ c. linkage_for env n (Some c) ≡ External) (sym is) e)
    where
      internal_apart : Internal ≡ External → ⊥
      internal_apart e = absurd (cc)

  -- what is no tentative definition
  abbrev IsPlainItem : Option Keyword → InitDeclarator → Type 0
  IsPlainItem None (init_declarator d no_init) = ⊥
  IsPlainItem None (init_declarator d (some_init i)) = ⊤
  IsPlainItem (Some k) i = ⊤

  plain_opens : (env : Env) (class : Option Keyword) (base : CType) (i : InitDeclarator)
      → IsClass class → IsPlainItem class i
      → ItemMayOpen names bytes lasting_alone partly env class base i
  plain_opens env None base (init_declarator d no_init) c x = absurd x
  plain_opens env None base (init_declarator d (some_init i)) c x =
      λ n e o file is inside v. absurd (true≢false v)
  plain_opens env (Some k) base (init_declarator d start) c x =
      λ n e o file is inside v.
      absurd (class_opens (linkage_for env n.0 (Some k)) k (is_given start) base d c o
      (static_apart env n.0 k file) is inside v)

  -- ---- items of the file

  plain_file : (env : Env) (class : Option Keyword) (whole : Place) (base : CType) (ts us : List ℕ)
      (i : InitDeclarator) → IsHeld lasting_alone env → is_file_scope env.scopes ≡ true
      → IsType base env → KnowsElements env.tables.structs base → IsWrittenItem i
      → ItemMayOpen names bytes lasting_alone partly env class base i
      → HaveStarts (waits_in ts env) env
      → ((later : Env) (k : ℕ) → waits_in ts later k ≡ true → waits_in us later k ≡ true)
      → Gives (IsFiledAnswer env us) (item_declared names env class whole base [] i)
  plain_file env class whole base ts us i h f t knows w opens s more = record {
    at = λ y e.
        let none : y.0 ≡ [] = (item_unlisted env class whole base [] i f).at y e in
        let own : AreOwn lasting_alone y.0 =
        subst (λ k. AreOwn lasting_alone k) (sym none) none_own in (
          none,
          filed_by env y.1 ts us
              ((item_typed names bytes lasting_alone partly env class whole base [] i h t knows w
              opens (tt, no_locals env)).at y e own).0 s (more y.1),
        );
  }

  -- a tentative definition: its object may be left open
  module _ (env : Env) (base : CType) (d : Declarator) (n : ℕ) (p : Place) (ts : List ℕ)
      (h : IsHeld lasting_alone env) (f : is_file_scope env.scopes ≡ true) (t : IsType base env)
      (knows : KnowsElements env.tables.structs base)
      (plain : names_function (is_function base) d ≡ false) (w : IsWrittenDeclarator d)
      (s : HaveStarts (waits_in ts env) env) where
    abbrev number : ℕ
    number = reserved_number env (linked env n)

    abbrev this : ℕ → Bool
    this k = nat_eq number k

    one_partly : SeesAll this → ⊥
    one_partly all =
        let same : number ≡ suc number = eqb-true number (suc number) (all (suc number)) in
        absurd (omega (arith, same))

    here : IsHeld this env
    here = record {
      fit = fit_wider lasting_alone this env (λ k e. absurd (true≢false (sym e))) h.fit;
      homes = h.homes;
    }

    opened : Gives (IsFiledAnswer env (ts ++ n ∷ []))
        (object_at names env [] None base d no_init n p External (linked env n))
    opened = record {
      at = λ y e.
          let none : y.0 ≡ [] =
          (object_unlisted env [] None base d no_init n p External (linked env n) refl).at y e in
          let a = (object_shows names bytes this one_partly env [] None base d no_init n p External
          (linked env n) here (tt, no_locals env) t knows plain w tt (λ e. absurd (true≢false e))
          (linked_place names bytes this one_partly env n External p refl (linked env n) refl)
          (λ file e. absurd (true≢false (sym f ∙ file)))
          (λ file e i v. number_equals number)).at y e
          (subst (λ ks. AreOwn this ks) (sym none) (each_none (λ k. this k ≡ true))) in
          let us : List ℕ = ts ++ n ∷ [] in
          let link : (linked y.1 n ≡ Some (entities.Object number))
          × (lasts (slice_get y.1.tables.objects number) ≡ true) = a.1.1 refl in (
            none,
            record {
              fit = fit_narrower lasting_alone this y.1
                  (λ k e. subst (λ j. lasts (slice_get y.1.tables.objects j) ≡ true)
                  (eqb-true number k e) link.1) a.0.fit;
              moves = a.0.moves;
              starts = a.0.starts (waits_in us y.1)
                  (λ file k e. waits_last ts n y.1 number k link.0 e)
                  (starts_more (waits_in ts env) (waits_in us y.1) env
                  (λ k v. waits_more ts (Some (n, p)) y.1 k
                  (waits_on ts env y.1 a.0.moves.links k v)) s);
            },
          );
    }

    pub opened_file : Gives (IsFiledAnswer env (ts ++ n ∷ []))
        (object_checked names env [] None base d no_init n p)
    opened_file =
        subst (λ b. Gives (IsFiledAnswer env (ts ++ n ∷ []))
        (object_at names env [] None base d no_init n p (plain_linkage b)
        (entry_for env n (plain_linkage b)))) (sym f) opened

  tentative_file : (env : Env) (whole : Place) (base : CType) (ts : List ℕ) (d : Declarator)
      → IsHeld lasting_alone env → is_file_scope env.scopes ≡ true
      → IsType base env → KnowsElements env.tables.structs base → IsWrittenDeclarator d
      → HaveStarts (waits_in ts env) env
      → Gives (IsFiledAnswer env (name_after ts (declared_name d)))
      (item_declared names env None whole base [] (init_declarator d no_init))
  tentative_file env whole base ts d h f t knows w s =
      gives_given {o = declared_name d} _ _ (λ n e.
      subst (λ o. Gives (IsFiledAnswer env (name_after ts o))
      (if names_object None base d then object_checked names env [] None base d no_init n.0 n.1
      else other_checked names env [] None whole base d no_init n.0 n.1)) (sym e)
      (gives_either {b = names_object None base d}
      (λ o. opened_file env base d n.0 n.1 ts h f t knows
      (plain_name names bytes lasting_alone partly false
      (names_function (is_function base) d) o) w s)
      (λ o. record {
        at = λ y i.
            let none : y.0 ≡ [] =
            (other_unlisted env [] None whole base d no_init n.0 n.1).at y i in
            let own : AreOwn lasting_alone y.0 =
            subst (λ k. AreOwn lasting_alone k) (sym none) none_own in (
              none,
              filed_by env y.1 ts (ts ++ n.0 ∷ [])
                  ((other_typed names bytes lasting_alone partly env [] None whole base d no_init
                  n.0 n.1 h (tt, no_locals env) t knows w).at y i own).0 s
                  (waits_more ts (Some n) y.1),
            );
      })))

  item_file : (env : Env) (class : Option Keyword) (whole : Place) (base : CType) (ts : List ℕ)
      (i : InitDeclarator) → IsHeld lasting_alone env → is_file_scope env.scopes ≡ true
      → IsType base env → KnowsElements env.tables.structs base → IsWrittenItem i → IsClass class
      → HaveStarts (waits_in ts env) env
      → Gives (IsFiledAnswer env (item_after ts class i))
      (item_declared names env class whole base [] i)
  item_file env None whole base ts (init_declarator d no_init) h f t knows w c s =
      tentative_file env whole base ts d h f t knows w.0 s
  item_file env None whole base ts (init_declarator d (some_init i)) h f t knows w c s =
      plain_file env None whole base ts ts (init_declarator d (some_init i)) h f t knows w
      (plain_opens env None base (init_declarator d (some_init i)) c tt) s (λ later k v. v)
  item_file env (Some k) whole base ts i h f t knows w c s =
      plain_file env (Some k) whole base ts ts i h f t knows w
      (plain_opens env (Some k) base i c tt) s (λ later j v. v)

  -- from the environment before
  filed_on : (env later : Env) (us : List ℕ) → Moves env later → (x : List ℕ × Env)
      → IsFiledAnswer later us x → IsFiledAnswer env us x
  filed_on env later us g x h = (
    h.0,
    record {
      fit = h.1.fit;
      moves = moves_on env later x.1 g h.1.moves;
      starts = h.1.starts;
    },
  )

  items_file : (env : Env) (class : Option Keyword) (whole : Place) (base : CType) (ts : List ℕ)
      (is : InitDeclarators) → IsHeld lasting_alone env → is_file_scope env.scopes ≡ true
      → IsType base env → KnowsElements env.tables.structs base → AreWrittenItems is
      → IsClass class → HaveStarts (waits_in ts env) env
      → Gives (IsFiledAnswer env (items_after ts class is))
      (items_declared names env class whole base [] is)
  items_file env class whole base ts no_items h f t knows w c s =
      gives {x = ([], env)}
      (refl, record { fit = h.fit; moves = moves_nowhere env; starts = s })
  items_file env class whole base ts (next_item i is) h f t knows w c s =
      gives_then (item_file env class whole base ts i h f t knows w.0 c s) (λ x q.
      let g : Moves env x.1 = q.1.moves in
      subst (λ ks. Gives (IsFiledAnswer env (items_after (item_after ts class i) class is))
      (items_declared names x.1 class whole base ks is)) (sym q.0)
      (gives_more (λ y a. filed_on env x.1 (items_after (item_after ts class i) class is) g y a)
      (items_file x.1 class whole base (item_after ts class i) is
      (record { fit = q.1.fit; homes = g.homes h.homes }) (around_alike g ∙ f)
      (type_moved env x.1 g base t)
      (elements_stay env.tables.structs x.1.tables.structs
      (table_stays lasting_alone env x.1 g h.fit.formed) base knows) w.1 c q.1.starts)))

  -- the storage class of written specifiers is one
  written_class : (ss : Specifiers) → AreWrittenSpecifiers ss → (k : Keyword)
      → storage_class ss ≡ Some k → is_storage k ≡ true
  written_class no_specifiers w k e = absurd (none_some k e)
  written_class (next_specifier (storage j) ss) w k e =
      subst (λ k. is_storage k ≡ true) (some_is j k e) w.0
  written_class (next_specifier (qualifier j) ss) w k e = written_class ss w.1 k e
  written_class (next_specifier (basic j) ss) w k e = written_class ss w.1 k e
  written_class (next_specifier (named n) ss) w k e = written_class ss w.1 k e
  written_class (next_specifier (struct_specifier x) ss) w k e = written_class ss w.1 k e
  written_class (next_specifier (enum_specifier x) ss) w k e = written_class ss w.1 k e

  not_automatic : (file auto : Bool) → not (file && auto) ≡ true → file ≡ true → auto ≡ false
  not_automatic true true h f = absurd (true≢false (sym h))
  not_automatic true false h f = refl
  not_automatic false auto h f = absurd (true≢false (sym f))

  pub file_typed : (env : Env) (d : Declaration) (ts : List ℕ) → IsHeld lasting_alone env
      → is_file_scope env.scopes ≡ true → IsWrittenDeclaration d
      → HaveStarts (waits_in ts env) env
      → Gives (IsFiledAnswer env (external_after ts (external_declaration d)))
      (declaration_checked names env d)
  file_typed env (declaration ss is p) ts h f w s =
      gives_after (after_both
      (specifiers_good names bytes lasting_alone env (has_none is) p ss h.fit w.0)
      (specifiers_elements names bytes lasting_alone env (has_none is) p ss h.fit)) (λ x g t.
      gives_met {b = not (is_file_scope x.1.scopes && is_automatic (storage_class ss))} _ _
      (λ class.
      gives_met {b = not (has_none is) || declares_tag ss} _ _ (λ some.
      let q : IsFiled env ts x.1 = filed_by env x.1 ts ts g s (λ k v. v) in
      gives_more (λ y a. filed_on env x.1 (items_after ts (storage_class ss) is) g.moves y a)
      (items_file x.1 (storage_class ss) p x.0 ts is (held_on h g) (file_on g f) t.0 t.1 w.1 (
        not_automatic (is_file_scope x.1.scopes) (is_automatic (storage_class ss)) class
            (file_on g f),
        written_class ss w.0,
      ) q.starts))))
