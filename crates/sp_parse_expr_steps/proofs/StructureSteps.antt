-- The bodies of structures and enumerations, over plain variables.
use Rattle.std.proofs.Common.{◌≡◌, ◌≢◌, ℕ, ◌+◌, ◌-◌, ◌≤◌, ◌==◌, Bool, true, false, List, [], ◌∷◌, map, length, Some, None, inl, inr, refl, sym, ap, ◌∙◌, arith}
use Rattle.std.specs.Prelude.{◌⊎◌, Option, option_map, Result, Ok, Err, MatchResult, if◌then◌else◌}
use Rattle.std.specs.List.{list_any}
use Rattle.sp_tree.specs.declared.token.Keyword.{Keyword}
use Rattle.sp_tree.specs.declared.token.Keyword.TheVariants as words
use Rattle.sp_tree.specs.declared.token.Kind.{Kind}
use Rattle.sp_tree.specs.declared.token.Kind.TheVariants as kinds
use Rattle.sp_tree.specs.declared.token.Punct.{Punct}
use Rattle.sp_tree.specs.declared.token.Punct.TheVariants as puncts
use Rattle.sp_tree.specs.declared.token.Token.{Token}
use Rattle.sp_tree.specs.declared.fault.Place.{Place}
use Rattle.sp_parse_trees.specs.Syntax as syntax
use Rattle.sp_parse_trees.specs.Syntax.{Declaration}
use Rattle.sp_parse_trees.specs.declared.tree.Specifier.{Specifier as CodeSpecifier}
use Rattle.sp_parse_trees.specs.declared.tree.Expr.{Expr}
use Rattle.sp_parse_trees.specs.declared.tree.EnumSpec.{EnumSpec as CodeEnumSpec, fold-EnumSpec}
use Rattle.sp_parse_trees.specs.View.{specifier_of, declarations, enumerators, maybe_expression, tree_of, declarator_form_step, expression_form_step, init_step, specifier_step, declaration_step, declarator_step, enum_spec_step, expression_step, init_declarator_step, param_step, struct_spec_step, type_name_step}
use Rattle.sp_parse_trees.specs.Depth.{declarations_depth, enumerators_depth}
use Rattle.sp_parse_tokens.specs.declared.part.Part.{Part}
use Rattle.sp_parse_tokens.specs.declared.part.ReadError.{ReadError}
use Rattle.sp_parse_tokens.specs.declared.part.ReadError.TheVariants as stops
use Rattle.sp_parse_tokens.specs.declared.scope.Scope.{Scope}
use Rattle.sp_parse_tokens.specs.declared.scope.AlsoAllowed.TheVariants as also
use Rattle.sp_parse_grammar.specs.CTokens as tokens
use Rattle.sp_parse_grammar.specs.CTokens.{view, is_mark}
use Rattle.sp_parse_grammar.specs.CTable as grammar
use Rattle.sp_parse_grammar.specs.CTable.{Context, Item, ItemAnswer, at, c_symbols, plan, get, next, close_by, in_structure}
use Rattle.sp_parse_grammar.specs.CTrees.{TokenOf}
use Rattle.sp_parse_grammar.specs.Table.{Plan, done}
use Rattle.sp_parse_tokens.specs.Sorts.{terminal, sort_of, word_sort, punct_sort}
use Rattle.sp_parse_tokens.specs.SyntaxTrees.{syntax_trees}
use Rattle.sp_parse_tokens.specs.Depths.{item_depth, item_down}
use Rattle.sp_parse_tokens.specs.Makers.{SpecifierAt, Enumerator, is_union, some_members, some_constants, all_enumerators}
use Rattle.sp_parse_tokens.specs.Scopes.{there}
use Rattle.sp_parse_expr_steps.specs.Reading.{IsRead, IsStop, IsStep, taken}
use Rattle.sp_parse_expr_steps.specs.Declaring.{constant_seen, IsBody, IsBodyStop, StopsInBody, StopsAtBrace, AreConstants, IsConstantsStop, StopsInConstants, StopsAtEnd}
use Rattle.sp_parse_expr_steps.proofs.Steps.{got, last, finished}
use Rattle.sp_parse_expr_steps.proofs.Parts.{IsOn, stop_part, stop_mark, on_mark}
use Rattle.sp_parse_expr_steps.proofs.ExpressionSteps.{built, first_same, first_taken}

-- where these are the type names, between the braces of a structure
abbrev pub inner : Scope → Scope
inner scope = record scope { in_struct = true }

-- a specifier at a place
abbrev pub spec_at : syntax.Specifier → Place → SpecifierAt
spec_at s p = record { tree = s; place = p }

-- ---- bodies of structures

abbrev pub body_done : (g : Context) (i : Item syntax_trees) (m : List Declaration → ItemAnswer i) (ds : List Declaration) → TokenOf syntax_trees → Plan (c_symbols syntax_trees) (at g i)
body_done g i m ds z = done (m ds)

abbrev pub body_closing : (g : Context) (i : Item syntax_trees) (m : List Declaration → ItemAnswer i) (ds : List Declaration) → Plan (c_symbols syntax_trees) (at g i)
body_closing g i m ds = close_by (in_structure g) grammar.for_member tokens.unbrace (body_done g i m ds)

abbrev pub body_more : (g : Context) (i : Item syntax_trees) (m : List Declaration → ItemAnswer i) (d : Declaration) → Plan (c_symbols syntax_trees) (at g i)
body_more g i m d = get (in_structure g) (grammar.members (d ∷ [])) (body_closing g i m)

abbrev pub body_plan : (g : Context) (i : Item syntax_trees) (m : List Declaration → ItemAnswer i) → Plan (c_symbols syntax_trees) (at g i)
body_plan g i m = get (in_structure g) grammar.member (body_more g i m)

module _ (types : List ℕ) (scope : Scope) (i : Item syntax_trees) (m : List Declaration → ItemAnswer i) (d : ℕ) (text rest : List Token) (on : IsOn (there types scope) (there types scope) i i (λ a. a) (body_plan (there types scope) i m) text rest) (first_down : item_down i grammar.member ≡ 1) (more_down : (ds : List Declaration) → item_down i (grammar.members ds) ≡ 1) (room : 1 ≤ d) where
  body_inside : (s : ReadError) → (IsStop (in_structure (there types scope)) grammar.member (d - 1) rest s ⊎ (StopsInBody (there types scope) (inner scope) (d - 1) rest s ⊎ StopsAtBrace (there types scope) (inner scope) rest s)) → IsStop (there types scope) i d text s
  body_inside s (inl h) = stop_part (there types scope) (there types scope) (in_structure (there types scope)) i i grammar.member (λ a. a) (body_more (there types scope) i m) d (d - 1) text rest on (omega (arith, first_down, room)) s h
  body_inside s (inr (inl h)) = stop_part (there types scope) (there types scope) (in_structure (there types scope)) i i (grammar.members (h.first ∷ [])) (λ a. a) (body_closing (there types scope) i m) d (d - 1) text h.mid (got on h.one) (omega (arith, more_down (h.first ∷ []), room)) s h.why
  body_inside s (inr (inr h)) = stop_mark types (inner scope) (there types scope) i i (λ a. a) tokens.unbrace also.TypeSpecifier (body_done (there types scope) i m h.all) (there types scope) d text h.last (got (got on h.one) h.more) h.ended s h.why

  pub body_stop : (s : ReadError) → IsBodyStop (there types scope) (inner scope) d rest s → IsStop (there types scope) i d text s
  body_stop stops.NoMemory h = tt
  body_stop (stops.Fault kind bad) h = body_inside (stops.Fault kind bad) h
  body_stop (stops.TooDeep bad) h = body_inside (stops.TooDeep bad) h

  pub body_result : (word : Token) (tag : Option ℕ) (v : CodeSpecifier → ItemAnswer i) → ((s : CodeSpecifier) (ds : List Declaration) → specifier_of s ≡ syntax.struct_specifier (syntax.struct_spec (is_union word.kind) tag (some_members (Some ds)) word.place) → v s ≡ m ds) → ((ds : List Declaration) → item_depth i (m ds) ≡ 1 + declarations_depth (declarations ds)) → taken i + length rest ≤ 1 + length text → (r : Result (Part CodeSpecifier) ReadError)
      → MatchResult r (λ part. IsBody (there types scope) word tag d rest part.tree part.depth part.rest.now) (IsBodyStop (there types scope) (inner scope) d rest)
      → MatchResult r (λ part. IsRead (there types scope) i d text (v part.tree) part.depth part.rest.now) (IsStop (there types scope) i d text)
  body_result word tag v makes deep less (Ok part) b =
      let g = there types scope in
      let closes = on_mark types (inner scope) g i i (λ a. a) tokens.unbrace also.TypeSpecifier (body_done g i m b.all) g text b.last part.rest.now (got (got on b.one) b.more) b.closes in
      built g i d part.depth text part.rest.now (m b.all) (v part.tree) (finished closes) (makes part.tree b.all b.makes) (b.deeper ∙ sym (deep b.all)) b.shallow b.closes.ended (omega (arith, b.fewer, less))
  body_result word tag v makes deep less (Err s) b = body_stop s b

-- ---- bodies of enumerations

-- an enumeration, as the view of the trees has it
abbrev pub enum_view : CodeEnumSpec → syntax.EnumSpec
enum_view = fold-EnumSpec syntax.DeclaratorForm syntax.ExpressionForm syntax.Init syntax.Specifier syntax.Declaration syntax.Declarator syntax.EnumSpec syntax.Expression syntax.InitDeclarator syntax.Param syntax.StructSpec syntax.TypeName declarator_form_step expression_form_step init_step specifier_step declaration_step declarator_step enum_spec_step expression_step init_declarator_step param_step struct_spec_step type_name_step

-- its constants, each seen by this function
module _ (F : ℕ × Place × Option Expr → ℕ × Place × Option syntax.Expression) (none : (n : ℕ) (p : Place) → F (n, p, None) ≡ (n, p, None)) (some : (n : ℕ) (p : Place) (e : Expr) → F (n, p, Some e) ≡ (n, p, Some (tree_of e))) where
  part_seen : (n : ℕ) (p : Place) (v : Option Expr) → F (n, p, v) ≡ (n, p, option_map tree_of v)
  part_seen n p None = none n p
  part_seen n p (Some e) = some n p e

  constants_listed : (cs : List (ℕ × Place × Option Expr)) → enumerators (map F cs) ≡ all_enumerators (map constant_seen cs)
  constants_listed [] = refl
  constants_listed (e ∷ es) =
      let head : F e ≡ (e.0, e.1, option_map tree_of e.2) = part_seen e.0 e.1 e.2 in
      ap (λ (v : ℕ × Place × Option syntax.Expression). syntax.next_enumerator v.0 v.1 (maybe_expression v.2) (enumerators (map F es))) head ∙ ap (λ v. syntax.next_enumerator e.0 e.1 (maybe_expression (option_map tree_of e.2)) v) (constants_listed es)

pub constants_seen : (F : ℕ × Place × Option Expr → ℕ × Place × Option syntax.Expression) (cs : List (ℕ × Place × Option Expr)) (tag : Option ℕ) (place : Place) (s : syntax.EnumSpec) → s ≡ syntax.enum_spec tag (syntax.some_constants (enumerators (map F cs))) place → ((n : ℕ) (p : Place) → F (n, p, None) ≡ (n, p, None)) → ((n : ℕ) (p : Place) (e : Expr) → F (n, p, Some e) ≡ (n, p, Some (tree_of e))) → s ≡ syntax.enum_spec tag (some_constants (Some (map constant_seen cs))) place
constants_seen F cs tag place s seen none some = seen ∙ ap (λ v. syntax.enum_spec tag (syntax.some_constants v) place) (constants_listed F none some cs)

abbrev pub constants_done : (g : Context) (i : Item syntax_trees) (m : List Enumerator → ItemAnswer i) (es : List Enumerator) → TokenOf syntax_trees → Plan (c_symbols syntax_trees) (at g i)
constants_done g i m es z = done (m es)

abbrev pub constants_closing : (g : Context) (i : Item syntax_trees) (m : List Enumerator → ItemAnswer i) (es : List Enumerator) → Plan (c_symbols syntax_trees) (at g i)
constants_closing g i m es = close_by g grammar.plainly tokens.unbrace (constants_done g i m es)

abbrev pub constants_more : (g : Context) (i : Item syntax_trees) (m : List Enumerator → ItemAnswer i) (e : Enumerator) → Plan (c_symbols syntax_trees) (at g i)
constants_more g i m e = get g (grammar.enumerators (e ∷ [])) (constants_closing g i m)

abbrev pub constants_plan : (g : Context) (i : Item syntax_trees) (m : List Enumerator → ItemAnswer i) → Plan (c_symbols syntax_trees) (at g i)
constants_plan g i m = get g grammar.enumerator (constants_more g i m)

module _ (types : List ℕ) (scope : Scope) (i : Item syntax_trees) (m : List Enumerator → ItemAnswer i) (d : ℕ) (text rest : List Token) (on : IsOn (there types scope) (there types scope) i i (λ a. a) (constants_plan (there types scope) i m) text rest) where
  constants_inside : (s : ReadError) → (IsStop (there types scope) grammar.enumerator d rest s ⊎ (StopsInConstants (there types scope) scope d rest s ⊎ StopsAtEnd (there types scope) scope rest s)) → IsStop (there types scope) i d text s
  constants_inside s (inl h) = stop_part (there types scope) (there types scope) (there types scope) i i grammar.enumerator (λ a. a) (constants_more (there types scope) i m) d d text rest on (omega arith) s h
  constants_inside s (inr (inl h)) = stop_part (there types scope) (there types scope) (there types scope) i i (grammar.enumerators (h.first ∷ [])) (λ a. a) (constants_closing (there types scope) i m) d d text h.mid (got on h.one) (omega arith) s h.why
  constants_inside s (inr (inr h)) = stop_mark types scope (there types scope) i i (λ a. a) tokens.unbrace also.Nothing (constants_done (there types scope) i m h.all) (there types scope) d text h.last (got (got on h.one) h.more) h.ended s h.why

  pub constants_stop : (s : ReadError) → IsConstantsStop (there types scope) scope d rest s → IsStop (there types scope) i d text s
  constants_stop stops.NoMemory h = tt
  constants_stop (stops.Fault kind bad) h = constants_inside (stops.Fault kind bad) h
  constants_stop (stops.TooDeep bad) h = constants_inside (stops.TooDeep bad) h

  pub constants_result : (word : Token) (tag : Option ℕ) (v : CodeSpecifier → ItemAnswer i) → ((s : CodeSpecifier) (es : List Enumerator) → specifier_of s ≡ syntax.enum_specifier (syntax.enum_spec tag (some_constants (Some es)) word.place) → v s ≡ m es) → ((es : List Enumerator) → item_depth i (m es) ≡ enumerators_depth (all_enumerators es)) → taken i + length rest ≤ 1 + length text → (r : Result (Part CodeSpecifier) ReadError)
      → MatchResult r (λ part. AreConstants (there types scope) word tag d rest part.tree part.depth part.rest.now) (IsConstantsStop (there types scope) scope d rest)
      → MatchResult r (λ part. IsRead (there types scope) i d text (v part.tree) part.depth part.rest.now) (IsStop (there types scope) i d text)
  constants_result word tag v makes deep less (Ok part) b =
      let g = there types scope in
      let closes = on_mark types scope g i i (λ a. a) tokens.unbrace also.Nothing (constants_done g i m b.all) g text b.last part.rest.now (got (got on b.one) b.more) b.closes in
      built g i d part.depth text part.rest.now (m b.all) (v part.tree) (finished closes) (makes part.tree b.all b.makes) (b.deeper ∙ sym (deep b.all)) b.shallow b.closes.ended (omega (arith, b.fewer, less))
  constants_result word tag v makes deep less (Err s) b = constants_stop s b

-- ---- behind `struct` and `enum`

module _ (types : List ℕ) where
  struct_name : (g : Context) (y x : TokenOf syntax_trees) (n : ℕ) (b : Bool) → plan {t = syntax_trees} g (grammar.behind_struct y) x (if b then tokens.named_type n else tokens.name n) ≡ Some (next (λ z. get g (grammar.struct_body y x) (λ r. done r)))
  struct_name g y x n true = refl
  struct_name g y x n false = refl

  enum_name : (g : Context) (y x : TokenOf syntax_trees) (n : ℕ) (b : Bool) → plan {t = syntax_trees} g (grammar.behind_enum y) x (if b then tokens.named_type n else tokens.name n) ≡ Some (next (λ z. get g (grammar.enum_body y x) (λ r. done r)))
  enum_name g y x n true = refl
  enum_name g y x n false = refl

  -- another token begins neither
  struct_none_word : (g : Context) (y x : TokenOf syntax_trees) (k : Keyword) → plan {t = syntax_trees} g (grammar.behind_struct y) x (view types (word_sort k)) ≡ None
  struct_none_word g y x words.Auto = refl
  struct_none_word g y x _ = refl

  struct_none_punct : (g : Context) (y x : TokenOf syntax_trees) (p : Punct) → is_mark tokens.brace (view types (punct_sort p)) ≡ false → plan {t = syntax_trees} g (grammar.behind_struct y) x (view types (punct_sort p)) ≡ None
  struct_none_punct g y x puncts.LeftBrace e = absurd cc
  struct_none_punct g y x _ e = refl

  enum_none_word : (g : Context) (y x : TokenOf syntax_trees) (k : Keyword) → plan {t = syntax_trees} g (grammar.behind_enum y) x (view types (word_sort k)) ≡ None
  enum_none_word g y x words.Auto = refl
  enum_none_word g y x _ = refl

  enum_none_punct : (g : Context) (y x : TokenOf syntax_trees) (p : Punct) → is_mark tokens.brace (view types (punct_sort p)) ≡ false → plan {t = syntax_trees} g (grammar.behind_enum y) x (view types (punct_sort p)) ≡ None
  enum_none_punct g y x puncts.LeftBrace e = absurd cc
  enum_none_punct g y x _ e = refl

  pub struct_none : (g : Context) (y x : TokenOf syntax_trees) (k : Kind) → ((n : ℕ) → k ≢ kinds.Name n) → is_mark tokens.brace (view types (sort_of k)) ≡ false → plan {t = syntax_trees} g (grammar.behind_struct y) x (view types (sort_of k)) ≡ None
  struct_none g y x (kinds.Name n) other e = absurd (other n refl)
  struct_none g y x (kinds.Word w) other e = struct_none_word g y x w
  struct_none g y x (kinds.Mark p) other e = struct_none_punct g y x p e
  struct_none g y x (kinds.Number n) other e = refl
  struct_none g y x (kinds.Char z) other e = refl
  struct_none g y x (kinds.Text n) other e = refl
  struct_none g y x kinds.End other e = refl

  pub enum_none : (g : Context) (y x : TokenOf syntax_trees) (k : Kind) → ((n : ℕ) → k ≢ kinds.Name n) → is_mark tokens.brace (view types (sort_of k)) ≡ false → plan {t = syntax_trees} g (grammar.behind_enum y) x (view types (sort_of k)) ≡ None
  enum_none g y x (kinds.Name n) other e = absurd (other n refl)
  enum_none g y x (kinds.Word w) other e = enum_none_word g y x w
  enum_none g y x (kinds.Mark p) other e = enum_none_punct g y x p e
  enum_none g y x (kinds.Number n) other e = refl
  enum_none g y x (kinds.Char z) other e = refl
  enum_none g y x (kinds.Text n) other e = refl
  enum_none g y x kinds.End other e = refl

module _ (g : Context) (y : TokenOf syntax_trees) (text xs : List Token) (x : Token) (e : text ≡ x ∷ xs) where
  pub struct_tag_step : (n : ℕ) → kinds.Name n ≡ x.kind → IsStep g (grammar.behind_struct y) (grammar.struct_body y (terminal x)) (λ a. a) text xs
  struct_tag_step n is = last (first_taken g (grammar.behind_struct y) text xs x (view g.types (sort_of (kinds.Name n))) e (ap (λ k. view g.types (sort_of k)) is) (λ z. get g (grammar.struct_body y (terminal x)) (λ r. done r)) (struct_name g.types g y (terminal x) n (list_any (λ t. t == n) g.types)))

  pub enum_tag_step : (n : ℕ) → kinds.Name n ≡ x.kind → IsStep g (grammar.behind_enum y) (grammar.enum_body y (terminal x)) (λ a. a) text xs
  enum_tag_step n is = last (first_taken g (grammar.behind_enum y) text xs x (view g.types (sort_of (kinds.Name n))) e (ap (λ k. view g.types (sort_of k)) is) (λ z. get g (grammar.enum_body y (terminal x)) (λ r. done r)) (enum_name g.types g y (terminal x) n (list_any (λ t. t == n) g.types)))

  pub struct_brace_on : tokens.mark tokens.brace ≡ view g.types (sort_of x.kind) → IsOn g g (grammar.behind_struct y) (grammar.behind_struct y) (λ a. a) (body_plan g (grammar.behind_struct y) (λ ds. syntax_trees.structure y None (Some ds))) text xs
  struct_brace_on is = first_taken g (grammar.behind_struct y) text xs x (tokens.mark tokens.brace) e is (λ z. body_plan g (grammar.behind_struct y) (λ ds. syntax_trees.structure y None (Some ds))) refl

  pub enum_brace_on : tokens.mark tokens.brace ≡ view g.types (sort_of x.kind) → IsOn g g (grammar.behind_enum y) (grammar.behind_enum y) (λ a. a) (constants_plan g (grammar.behind_enum y) (λ es. syntax_trees.enumeration y None (Some es))) text xs
  enum_brace_on is = first_taken g (grammar.behind_enum y) text xs x (tokens.mark tokens.brace) e is (λ z. constants_plan g (grammar.behind_enum y) (λ es. syntax_trees.enumeration y None (Some es))) refl

  module _ (n : TokenOf syntax_trees) where
    pub tagged_brace_on : is_mark tokens.brace (view g.types (sort_of x.kind)) ≡ true → IsOn g g (grammar.struct_body y n) (grammar.struct_body y n) (λ a. a) (body_plan g (grammar.struct_body y n) (λ ds. syntax_trees.structure y (Some n) (Some ds))) text xs
    tagged_brace_on is = first_taken g (grammar.struct_body y n) text xs x (view g.types (sort_of x.kind)) e refl (λ z. body_plan g (grammar.struct_body y n) (λ ds. syntax_trees.structure y (Some n) (Some ds))) (ap (λ b. if b then Some (next (λ z. body_plan g (grammar.struct_body y n) (λ ds. syntax_trees.structure y (Some n) (Some ds)))) else Some (done (syntax_trees.structure y (Some n) None))) is)

    pub tagged_alone : is_mark tokens.brace (view g.types (sort_of x.kind)) ≡ false → IsOn g g (grammar.struct_body y n) (grammar.struct_body y n) (λ a. a) (done (syntax_trees.structure y (Some n) None)) text text
    tagged_alone other = first_same g (grammar.struct_body y n) text xs x (view g.types (sort_of x.kind)) e refl (done (syntax_trees.structure y (Some n) None)) (ap (λ b. if b then Some (next (λ z. body_plan g (grammar.struct_body y n) (λ ds. syntax_trees.structure y (Some n) (Some ds)))) else Some (done (syntax_trees.structure y (Some n) None))) other)

    pub named_brace_on : is_mark tokens.brace (view g.types (sort_of x.kind)) ≡ true → IsOn g g (grammar.enum_body y n) (grammar.enum_body y n) (λ a. a) (constants_plan g (grammar.enum_body y n) (λ es. syntax_trees.enumeration y (Some n) (Some es))) text xs
    named_brace_on is = first_taken g (grammar.enum_body y n) text xs x (view g.types (sort_of x.kind)) e refl (λ z. constants_plan g (grammar.enum_body y n) (λ es. syntax_trees.enumeration y (Some n) (Some es))) (ap (λ b. if b then Some (next (λ z. constants_plan g (grammar.enum_body y n) (λ es. syntax_trees.enumeration y (Some n) (Some es)))) else Some (done (syntax_trees.enumeration y (Some n) None))) is)

    pub named_alone : is_mark tokens.brace (view g.types (sort_of x.kind)) ≡ false → IsOn g g (grammar.enum_body y n) (grammar.enum_body y n) (λ a. a) (done (syntax_trees.enumeration y (Some n) None)) text text
    named_alone other = first_same g (grammar.enum_body y n) text xs x (view g.types (sort_of x.kind)) e refl (done (syntax_trees.enumeration y (Some n) None)) (ap (λ b. if b then Some (next (λ z. constants_plan g (grammar.enum_body y n) (λ es. syntax_trees.enumeration y (Some n) (Some es)))) else Some (done (syntax_trees.enumeration y (Some n) None))) other)
