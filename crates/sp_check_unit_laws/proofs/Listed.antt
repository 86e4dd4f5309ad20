-- What a declaration lists keeps the numbers of those before it, and has that of an object without
-- linkage (C90 6.5).
use Rattle.std.proofs.Common.{◌≡◌, ℕ, Bool, true, length, List, [], ◌∷◌, ◌++◌, Option, None}
use Rattle.std.specs.Prelude.{⊤}
use Rattle.sp_tree.specs.declared.fault.Place.{Place}
use Rattle.sp_tree.specs.declared.token.Keyword.{Keyword}
use Rattle.sp_parse_trees.specs.Syntax.{Declarator, MaybeInit, InitDeclarator, init_declarator, InitDeclarators, no_items, next_item, Declaration, Declarations, no_declarations, next_declaration}
use Rattle.sp_parse_trees.specs.Places.{declarator_place}
use Rattle.sp_types.specs.Types.{CType}
use Rattle.sp_types.specs.declared.program.Linkage.{Linkage}
use Rattle.sp_types.specs.declared.program.Linkage.TheVariants.{External, Internal, Inner}
use Rattle.sp_check_env.specs.declared.env.Entity.{Entity}
use Rattle.sp_check_env.specs.Env.{Env}
use Rattle.sp_check_members.specs.Parameters.{declared_name}
use Rattle.sp_expr_check.specs.Expressions.{declared_type}
use Rattle.sp_check_objects.specs.Objects.{linkage_for, entry_for, object_reserved, reserved_number}
use Rattle.sp_check_declarations.specs.Words.{is_given}
use Rattle.sp_check_declarations.specs.Declarations.{with_number, object_told, object_at, other_told, other_checked, names_object, item_declared, items_declared}
use Rattle.sp_check_statements.specs.Parts.{one_declaration, declarations_checked}
use Rattle.sp_check_formed_laws.proofs.Lists.{pushed_before, pushed_last}
use Rattle.sp_check_formed_laws.proofs.After.{Gives, gives, gives_then, gives_more, gives_given, gives_either, anything}
use Rattle.sp_check_unit_laws.proofs.Fits.{AreOwn}
use Rattle.sp_check_unit_laws.proofs.Parted.{each_left}

module _ (names : List (List ℕ)) (own : ℕ → Bool) where
  -- the list has the number of an object without linkage
  pub number_listed : (env : Env) (ks : List ℕ) (class : Option Keyword) (base : CType) (d : Declarator)
      (start : MaybeInit) (n : ℕ) (p : Place)
      → Gives (λ y. AreOwn own y.0 → own (length env.tables.objects) ≡ true)
      (object_at names env ks class base d start n p Inner None)
  number_listed env ks class base d start n p =
      gives_then {Q = λ x. ⊤}
      {c = declared_type names (object_reserved env n p None) base d} anything (λ x t.
      gives_then {Q = λ x. ⊤}
      {c = object_told names x.1 class x.0 (length env.tables.objects) n p (declarator_place d)
      start Inner None} anything (λ e u.
      gives {x = (ks ++ length env.tables.objects ∷ [], e)} (λ l.
      l (length ks) (length env.tables.objects) (pushed_last ks (length env.tables.objects)))))

  -- the numbers of those before stay
  with_number_before : (ks : List ℕ) (l : Linkage) (k : ℕ) → AreOwn own (with_number ks l k)
      → AreOwn own ks
  with_number_before ks External k h = h
  with_number_before ks Internal k h = h
  with_number_before ks Inner k h = λ i n at. h i n (pushed_before ks k n i at)

  object_before : (env : Env) (ks : List ℕ) (class : Option Keyword) (base : CType)
      (d : Declarator) (start : MaybeInit) (n : ℕ) (p : Place) (l : Linkage) (e : Option Entity)
      → Gives (λ y. AreOwn own y.0 → AreOwn own ks)
      (object_at names env ks class base d start n p l e)
  object_before env ks class base d start n p l e =
      gives_then {Q = λ x. ⊤}
      {c = declared_type names (object_reserved env n p e) base d} anything (λ x t.
      gives_then {Q = λ x. ⊤}
      {c = object_told names x.1 class x.0 (reserved_number env e) n p (declarator_place d)
      start l e} anything (λ later u.
      gives {x = (with_number ks l (reserved_number env e), later)}
      (with_number_before ks l (reserved_number env e))))

  other_before : (env : Env) (ks : List ℕ) (class : Option Keyword) (whole : Place) (base : CType)
      (d : Declarator) (start : MaybeInit) (n : ℕ) (p : Place)
      → Gives (λ y. AreOwn own y.0 → AreOwn own ks)
      (other_checked names env ks class whole base d start n p)
  other_before env ks class whole base d start n p =
      gives_then {Q = λ x. ⊤} {c = declared_type names env base d} anything (λ x t.
      gives_then {Q = λ x. ⊤}
      {c = other_told x.1 class whole x.0 n p (declarator_place d) (is_given start)} anything
      (λ later u. gives {x = (ks, later)} (λ l. l)))

  item_before : (env : Env) (class : Option Keyword) (whole : Place) (base : CType) (ks : List ℕ)
      (i : InitDeclarator)
      → Gives (λ y. AreOwn own y.0 → AreOwn own ks) (item_declared names env class whole base ks i)
  item_before env class whole base ks (init_declarator d start) =
      gives_given {o = declared_name d} _ _ (λ n e.
      gives_either {b = names_object class base d}
      (λ o. object_before env ks class base d start n.0 n.1 (linkage_for env n.0 class)
      (entry_for env n.0 (linkage_for env n.0 class)))
      (λ o. other_before env ks class whole base d start n.0 n.1))

  pub items_before : (env : Env) (class : Option Keyword) (whole : Place) (base : CType) (ks : List ℕ)
      (is : InitDeclarators)
      → Gives (λ y. AreOwn own y.0 → AreOwn own ks)
      (items_declared names env class whole base ks is)
  items_before env class whole base ks no_items = gives {x = (ks, env)} (λ l. l)
  items_before env class whole base ks (next_item i is) =
      gives_then (item_before env class whole base ks i) (λ x b.
      gives_more (λ y c l. b (c l)) (items_before x.1 class whole base x.0 is))

  -- ---- the declarations of a block

  one_before : (env : Env) (ns : List ℕ) (d : Declaration)
      → Gives (λ y. AreOwn own y.0 → AreOwn own ns) (one_declaration names env ns d)
  one_before env ns d =
      gives_then {A = List ℕ × Env} {Q = λ x. ⊤} anything (λ x t.
      gives {x = (ns ++ x.0, x.1)} (λ l. each_left (λ n. own n ≡ true) ns x.0 l))

  pub all_before : (env : Env) (ns : List ℕ) (ds : Declarations)
      → Gives (λ y. AreOwn own y.0 → AreOwn own ns) (declarations_checked names env ns ds)
  all_before env ns no_declarations = gives {x = (ns, env)} (λ l. l)
  all_before env ns (next_declaration d ds) =
      gives_then (one_before env ns d) (λ x b.
      gives_more (λ y c l. b (c l)) (all_before x.1 x.0 ds))
