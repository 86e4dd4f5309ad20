-- Lengths, parameters and groups of declarators, over plain variables.
use Rattle.std.proofs.Common.{◌≡◌, ℕ, ◌+◌, ◌-◌, ◌≤◌, ◌<◌, Bool, true, false, List, ◌∷◌, map, length, Some, None, inl, inr, refl, sym, ap, ◌∙◌, subst, arith}
use Rattle.std.specs.Prelude.{MatchResult, max, if◌then◌else◌, Option, Result, Ok, Err}
use Rattle.sp_tree.specs.declared.token.Token.{Token}
use Rattle.sp_tree.specs.declared.fault.Place.{Place}
use Rattle.sp_parse_trees.specs.Syntax as syntax
use Rattle.sp_parse_trees.specs.Syntax.{Declarator, declarator, Expression, Param}
use Rattle.sp_parse_trees.specs.View.{declarator_of, maybe_expression, param_of, params}
use Rattle.sp_parse_trees.specs.Depth.{declarator_depth, params_depth}
use Rattle.sp_parse_trees.specs.Places.{declarator_place}
use Rattle.sp_parse_tokens.specs.declared.part.Part.{Part}
use Rattle.sp_parse_tokens.specs.declared.part.Declared.{Declared}
use Rattle.sp_parse_tokens.specs.declared.part.Parameters.{Parameters}
use Rattle.sp_parse_tokens.specs.declared.part.ReadError.{ReadError}
use Rattle.sp_parse_tokens.specs.declared.part.ReadError.TheVariants as stops
use Rattle.sp_parse_tokens.specs.declared.scope.Scope.{Scope}
use Rattle.sp_parse_tokens.specs.declared.scope.AlsoAllowed.{AlsoAllowed}
use Rattle.sp_parse_tokens.specs.declared.scope.AlsoAllowed.TheVariants as also
use Rattle.sp_parse_grammar.specs.CTokens as tokens
use Rattle.sp_parse_grammar.specs.CTokens.{Sort, view, is_mark}
use Rattle.sp_parse_grammar.specs.CTable as grammar
use Rattle.sp_parse_grammar.specs.CTable.{Context, Item, ItemAnswer, at, c_symbols, plan, get, next, close_by}
use Rattle.sp_parse_grammar.specs.CTrees.{TokenOf}
use Rattle.sp_parse_grammar.specs.Table.{Plan, done, ask, Reads, open_take}
use Rattle.sp_parse_grammar.specs.Depth.{Nests}
use Rattle.sp_parse_tokens.specs.Sorts.{terminal, sort_of, c_tokens}
use Rattle.sp_parse_tokens.specs.SyntaxTrees.{syntax_trees, c_table}
use Rattle.sp_parse_tokens.specs.Depths.{c_depths, item_down, item_least}
use Rattle.sp_parse_tokens.specs.Makers.{settle, first_place, settle_last}
use Rattle.sp_parse_tokens.proofs.Settled.{settle_depth, settle_last_depth}
use Rattle.sp_parse_tokens.specs.Scopes.{there, allowed_seen}
use Rattle.sp_parse_expr_steps.specs.Reading.{IsStop, IsStep}
use Rattle.sp_parse_tokens.specs.Expecting.{IsExpected}
use Rattle.sp_parse_expr_steps.specs.Declaring.{declared_seen, IsLengthened, IsArrayed, IsArrayStop, StopsAtUnbracket, IsFunction, AreGiven, begins_part}
use Rattle.sp_parse_expr_steps.proofs.Steps.{enter, got, last, finished, passed}
use Rattle.sp_parse_expr_steps.proofs.Parts.{IsOn, chosen, stop_part, stop_mark, on_mark}
use Rattle.sp_parse_expr_steps.proofs.Suffixes.{allowing}
use Rattle.sp_parse_expr_steps.proofs.ExpressionSteps.{first_taken}
use Rattle.sp_parse_expr_steps.proofs.DeclaratorSteps.{declared_same}

-- ---- whether the token goes on with a declarator

ends_plan : (g : Context) (d : grammar.Declared syntax_trees) (x : TokenOf syntax_trees) (s : Sort) → begins_part s ≡ false → plan {t = syntax_trees} g (grammar.declarator_suffixes d) x s ≡ Some (done d)
ends_plan g d x (tokens.mark tokens.bracket) other = absurd cc
ends_plan g d x (tokens.mark tokens.opening) other = absurd cc
ends_plan g d x _ other = refl

data Goes (g : Context) (d : grammar.Declared syntax_trees) (x : TokenOf syntax_trees) (s : Sort) : Type 0 where
  goes : (k : TokenOf syntax_trees → Plan (c_symbols syntax_trees) (at g (grammar.declarator_suffixes d))) → plan {t = syntax_trees} g (grammar.declarator_suffixes d) x s ≡ Some (next k) → item_least g (grammar.declarator_suffixes d) s ≡ 1 + declarator_depth d.tree → Goes g d x s

goes_on : (g : Context) (d : grammar.Declared syntax_trees) (x : TokenOf syntax_trees) (s : Sort) → begins_part s ≡ true → Goes g d x s
goes_on g d x (tokens.mark tokens.bracket) stands = goes _ refl refl
goes_on g d x (tokens.mark tokens.opening) stands = goes _ refl refl
goes_on g d x _ stands = absurd cc

module _ (g : Context) (first now : grammar.Declared syntax_trees) (text rest xs : List Token) (x : Token) (step : IsStep g (grammar.declarator_suffixes first) (grammar.declarator_suffixes now) (λ a. a) text rest) (e : rest ≡ x ∷ xs) where
  pub parts_read : begins_part (view g.types (sort_of x.kind)) ≡ false → Reads c_table (at g (grammar.declarator_suffixes first)) (ask (at g (grammar.declarator_suffixes first))) (c_tokens text) now (c_tokens rest)
  parts_read other = finished (enter step (ap c_tokens e) (chosen g (grammar.declarator_suffixes now) x (view g.types (sort_of x.kind)) (Some (done now)) refl (ends_plan g now (terminal x) (view g.types (sort_of x.kind)) other)))

  part_passed : (d n : ℕ) → Goes g now (terminal x) (view g.types (sort_of x.kind)) → n ≡ declarator_depth now.tree → d ≤ n → Nests c_table c_depths (at g (grammar.declarator_suffixes first)) d (c_tokens text) (c_tokens rest)
  part_passed d n (goes k p least) deep less = passed step (ap c_tokens e) (chosen g (grammar.declarator_suffixes now) x (view g.types (sort_of x.kind)) (Some (next k)) refl p) (open_take refl) (omega (arith, least, deep, less))

  pub part_deep : (d n : ℕ) → begins_part (view g.types (sort_of x.kind)) ≡ true → n ≡ declarator_depth now.tree → d ≤ n → Nests c_table c_depths (at g (grammar.declarator_suffixes first)) d (c_tokens text) (c_tokens rest)
  part_deep d n stands deep less = part_passed d n (goes_on g now (terminal x) (view g.types (sort_of x.kind)) stands) deep less

-- a declarator before a token is as deep as before any other
pub settled_deep : (p : Place) (d e : Declarator) (n : ℕ) → n ≡ declarator_depth d → d ≡ settle p e → n ≡ declarator_depth e
settled_deep p d e n deep settled = deep ∙ (ap (λ v. declarator_depth v) settled ∙ settle_depth p e)

pub declared_deep : (p : Place) (d e : Declarator) (n : ℕ) → d ≡ settle p e → n ≡ declarator_depth e → n ≡ declarator_depth d
declared_deep p d e n settled deep = deep ∙ (sym (settle_depth p e) ∙ sym (ap (λ v. declarator_depth v) settled))

-- ---- lengths

abbrev pub array_closing : (g : Context) (i : Item syntax_trees) (m : grammar.Declared syntax_trees → ItemAnswer i) (d : grammar.Declared syntax_trees) (x : TokenOf syntax_trees) (n : Option Expression) → TokenOf syntax_trees → Plan (c_symbols syntax_trees) (at g i)
array_closing g i m d x n z = get g (grammar.declarator_suffixes (grammar.array_of d x n)) (λ e. done (m e))

abbrev pub array_plan : (g : Context) (i : Item syntax_trees) (m : grammar.Declared syntax_trees → ItemAnswer i) (d : grammar.Declared syntax_trees) (x : TokenOf syntax_trees) → Plan (c_symbols syntax_trees) (at g i)
array_plan g i m d x = get g grammar.array_length (λ n. close_by g (grammar.if_missing n) tokens.unbracket (array_closing g i m d x n))

array_tree : (head dd : Declared) (pending : Declarator) (x : Token) (size : Option Expression) → declarator_of head.tree ≡ settle x.place pending → declarator_of dd.tree ≡ declarator (syntax.array (declarator_of head.tree) (maybe_expression size)) (declarator_place (declarator_of head.tree)) → declarator_of dd.tree ≡ (grammar.array_of (declared_seen head pending) (terminal x) size).tree
array_tree head dd pending x size settled makes = makes ∙ ap (λ h. declarator (syntax.array h (maybe_expression size)) (declarator_place h)) settled

module _ (g : Context) (head dd : Declared) (d n : ℕ) (text rest : List Token) (a : IsArrayed g head d text dd n rest) where
  pub array_same : (pending : Declarator) (x : Token) → declarator_of head.tree ≡ settle x.place pending → declared_seen dd (declarator_of dd.tree) ≡ grammar.array_of (declared_seen head pending) (terminal x) a.size
  array_same pending x settled = declared_same (declared_seen dd (declarator_of dd.tree)) (grammar.array_of (declared_seen head pending) (terminal x) a.size) (array_tree head dd pending x a.size settled a.makes) a.declares a.shape a.behind

  pub array_settled : (p : Place) → settle p (declarator_of dd.tree) ≡ declarator_of dd.tree
  array_settled p = ap (λ v. settle p v) a.makes ∙ sym a.makes

  pub array_deep : n ≡ declarator_depth (declarator_of dd.tree)
  array_deep = a.deeper ∙ (omega (arith, a.read.deep) ∙ sym (ap (λ v. declarator_depth v) a.makes))

-- what might stand where the length ends
size_allowed : Option Expression → AlsoAllowed
size_allowed None = also.Name
size_allowed (Some e) = also.Nothing

size_allowed_seen : (n : Option Expression) → grammar.if_missing n ≡ allowed_seen (size_allowed n)
unfolding size_allowed
size_allowed_seen None = refl
size_allowed_seen (Some e) = refl

module _ (types : List ℕ) (scope : Scope) (i : Item syntax_trees) (m : grammar.Declared syntax_trees → ItemAnswer i) (head : Declared) (pending : Declarator) (x : Token) (settled : declarator_of head.tree ≡ settle x.place pending) (d : ℕ) (text rest : List Token) (on : IsOn (there types scope) (there types scope) i i (λ a. a) (array_plan (there types scope) i m (declared_seen head pending) (terminal x)) text rest) where
  abbrev sized : Option Expression → TokenOf syntax_trees → Plan (c_symbols syntax_trees) (at (there types scope) i)
  sized n z = array_closing (there types scope) i m (declared_seen head pending) (terminal x) n z

  pub array_step : (dd : Declared) (n : ℕ) (behind : List Token) → IsArrayed (there types scope) head d rest dd n behind → IsStep (there types scope) i (grammar.declarator_suffixes (declared_seen dd (declarator_of dd.tree))) m text behind
  array_step dd n behind a =
      let g = there types scope in
      let p = size_allowed a.size in
      let on_size = allowing g i i (λ v. v) tokens.unbracket (sized a.size) text a.mid (grammar.if_missing a.size) (allowed_seen p) (size_allowed_seen a.size) (got on a.read.reads) in
      let step = last (on_mark types scope g i i (λ v. v) tokens.unbracket p (sized a.size) g text a.mid behind on_size a.closes) in
      subst (λ v. IsStep g i (grammar.declarator_suffixes v) m text behind) (sym (array_same g head dd d n rest behind a pending x settled)) step

  array_part : item_down i grammar.array_length ≡ 1 → 1 ≤ d → (s : ReadError) → IsStop (there types scope) grammar.array_length (d - 1) rest s → IsStop (there types scope) i d text s
  array_part down room s h = stop_part (there types scope) (there types scope) (there types scope) i i grammar.array_length (λ v. v) (λ n. close_by (there types scope) (grammar.if_missing n) tokens.unbracket (sized n)) d (d - 1) text rest on (omega (arith, down, room)) s h

  array_close : (s : ReadError) → StopsAtUnbracket (there types scope) scope (d - 1) rest s → IsStop (there types scope) i d text s
  array_close s h =
      let g = there types scope in
      stop_mark types scope g i i (λ v. v) tokens.unbracket h.also_allowed (sized h.size) g d text h.mid (allowing g i i (λ v. v) tokens.unbracket (sized h.size) text h.mid (grammar.if_missing h.size) (allowed_seen h.also_allowed) (sym h.wanted) (got on h.read.reads)) h.read.ended s h.why

  pub array_stop : item_down i grammar.array_length ≡ 1 → 1 ≤ d → (s : ReadError) → IsArrayStop (there types scope) scope d rest s → IsStop (there types scope) i d text s
  array_stop down room stops.NoMemory h = tt
  array_stop down room (stops.Fault kind bad) (inl h) = array_part down room (stops.Fault kind bad) h
  array_stop down room (stops.TooDeep bad) (inl h) = array_part down room (stops.TooDeep bad) h
  array_stop down room (stops.Fault kind bad) (inr h) = array_close (stops.Fault kind bad) h
  array_stop down room (stops.TooDeep bad) (inr h) = array_close (stops.TooDeep bad) h

pub array_unclosed : (g : Context) (scope : Scope) (d : ℕ) (text : List Token) (s : ReadError) → StopsAtUnbracket g scope (d - 1) text s → IsArrayStop g scope d text s
array_unclosed g scope d text stops.NoMemory h = tt
array_unclosed g scope d text (stops.Fault kind bad) h = inr h
array_unclosed g scope d text (stops.TooDeep bad) h = inr h

module _ (g : Context) (h : grammar.Declared syntax_trees) (x : Token) (xs : List Token) where
  pub bracket_on : tokens.mark tokens.bracket ≡ view g.types (sort_of x.kind) → IsOn g g (grammar.declarator_suffixes h) (grammar.declarator_suffixes h) (λ a. a) (array_plan g (grammar.declarator_suffixes h) (λ e. e) h (terminal x)) (x ∷ xs) xs
  bracket_on is = first_taken g (grammar.declarator_suffixes h) (x ∷ xs) xs x (tokens.mark tokens.bracket) refl is (λ y. array_plan g (grammar.declarator_suffixes h) (λ e. e) h (terminal x)) refl

-- the answer of the reader of lengths, behind a head
pub array_result : (types : List ℕ) (scope : Scope) (head : Declared) (pending : Declarator) (x : Token) (xs : List Token) (d : ℕ) → declarator_of head.tree ≡ settle x.place pending → tokens.mark tokens.bracket ≡ view types (sort_of x.kind) → 1 ≤ d → (r : Result (Part Declared) ReadError)
    → MatchResult r (λ part. IsArrayed (there types scope) head d xs part.tree part.depth part.rest.now) (IsArrayStop (there types scope) scope d xs)
    → MatchResult r (λ part. IsLengthened (there types scope) (declared_seen head pending) d (x ∷ xs) part.tree part.depth part.rest.now) (IsStop (there types scope) (grammar.declarator_suffixes (declared_seen head pending)) d (x ∷ xs))
array_result types scope head pending x xs d settled is room (Ok part) a =
    let g = there types scope in
    let h = declared_seen head pending in
    let less : length a.mid ≡ length (a.closes.first ∷ part.rest.now) = ap length a.closes.whole in
    record {
      step = array_step types scope (grammar.declarator_suffixes h) (λ e. e) head pending x settled d (x ∷ xs) xs (bracket_on g h x xs is) part.tree part.depth part.rest.now a;
      settled = array_settled g head part.tree d part.depth xs part.rest.now a;
      deep = array_deep g head part.tree d part.depth xs part.rest.now a;
      shallow = a.shallow;
      ended = a.closes.ended;
      fewer = omega (arith, a.read.fewer, less);
    }
array_result types scope head pending x xs d settled is room (Err s) a =
    let g = there types scope in
    let h = declared_seen head pending in
    array_stop types scope (grammar.declarator_suffixes h) (λ e. e) head pending x settled d (x ∷ xs) xs (bracket_on g h x xs is) refl room s a

-- ---- parameters

abbrev pub function_more : (g : Context) (h : grammar.Declared syntax_trees) (x : TokenOf syntax_trees) (ps : grammar.Parameters syntax_trees) → TokenOf syntax_trees → Plan (c_symbols syntax_trees) (at g (grammar.declarator_suffixes h))
function_more g h x ps z = get g (grammar.declarator_suffixes (grammar.function_of h x ps z)) (λ e. done e)

abbrev pub function_closing : (g : Context) (h : grammar.Declared syntax_trees) (x : TokenOf syntax_trees) (ps : grammar.Parameters syntax_trees) → Plan (c_symbols syntax_trees) (at g (grammar.declarator_suffixes h))
function_closing g h x ps = close_by g ps.behind tokens.closing (function_more g h x ps)

pub function_on : (g : Context) (h : grammar.Declared syntax_trees) (x : Token) (xs : List Token) → tokens.mark tokens.opening ≡ view g.types (sort_of x.kind) → IsOn g g (grammar.declarator_suffixes h) (grammar.declarator_suffixes h) (λ a. a) (get g grammar.parameters (function_closing g h (terminal x))) (x ∷ xs) xs
function_on g h x xs is = first_taken g (grammar.declarator_suffixes h) (x ∷ xs) xs x (tokens.mark tokens.opening) refl is (λ y. get g grammar.parameters (function_closing g h (terminal x))) refl

-- the parameters as the grammar has them
abbrev pub parameters_seen : Parameters → List Param → grammar.Parameters syntax_trees
parameters_seen ps qs = record { all = qs; dots = ps.dots; behind = allowed_seen ps.behind }

module _ (head dd : Declared) (ps : Parameters) (f : IsFunction head ps dd) where
  function_tree : (pending : Declarator) (x z : Token) (qs : List Param) → declarator_of head.tree ≡ settle x.place pending → map param_of ps.all.items ≡ (if ps.dots then qs else settle_last z.place qs) → declarator_of dd.tree ≡ (grammar.function_of (declared_seen head pending) (terminal x) (parameters_seen ps qs) (terminal z)).tree
  function_tree pending x z qs settled same =
      f.tree ∙ (ap (λ h. declarator (syntax.function h (params (map param_of ps.all.items)) ps.dots) (declarator_place h)) settled ∙ ap (λ v. declarator (syntax.function (settle x.place pending) (params v) ps.dots) (declarator_place (settle x.place pending))) same)

  pub function_same : (pending : Declarator) (x z : Token) (qs : List Param) → declarator_of head.tree ≡ settle x.place pending → map param_of ps.all.items ≡ (if ps.dots then qs else settle_last z.place qs) → declared_seen dd (declarator_of dd.tree) ≡ grammar.function_of (declared_seen head pending) (terminal x) (parameters_seen ps qs) (terminal z)
  function_same pending x z qs settled same = declared_same (declared_seen dd (declarator_of dd.tree)) (grammar.function_of (declared_seen head pending) (terminal x) (parameters_seen ps qs) (terminal z)) (function_tree pending x z qs settled same) f.declares f.shape f.behind

  pub function_settled : (p : Place) → settle p (declarator_of dd.tree) ≡ declarator_of dd.tree
  function_settled p = ap (λ v. settle p v) f.tree ∙ sym f.tree

  -- the parameters are as deep before the `)`
  given_deep : (p : Place) (qs : List Param) (b : Bool) (items : List Param) → items ≡ (if b then qs else settle_last p qs) → params_depth (params items) ≡ params_depth (params qs)
  given_deep p qs true items e = ap (λ v. params_depth (params v)) e
  given_deep p qs false items e = ap (λ v. params_depth (params v)) e ∙ settle_last_depth p qs

  pub function_deep : (p : Place) (qs : List Param) (m n : ℕ) → map param_of ps.all.items ≡ (if ps.dots then qs else settle_last p qs) → m ≡ declarator_depth (declarator_of head.tree) → n ≡ params_depth (params qs) → 1 + max m n ≡ declarator_depth (declarator_of dd.tree)
  function_deep p qs m n same deep given =
      let size = given_deep p qs ps.dots (map param_of ps.all.items) same in
      let here : 1 + max m n ≡ 1 + max (declarator_depth (declarator_of head.tree)) (params_depth (params (map param_of ps.all.items))) = omega (arith, deep, given, size) in
      here ∙ sym (ap (λ v. declarator_depth v) f.tree)

-- the parameters before the `)`
pub given_before : (b : Bool) (items qs : List Param) (text rest : List Token) (z : Token) → items ≡ (if b then qs else settle_last (first_place text) qs) → text ≡ z ∷ rest → items ≡ (if b then qs else settle_last z.place qs)
given_before b items qs text rest z e is = e ∙ ap (λ v. if b then qs else settle_last (first_place v) qs) is

pub function_lengthened : (types : List ℕ) (scope : Scope) (head dd : Declared) (pending : Declarator) (x : Token) (xs mid rest : List Token) (d m n k : ℕ) (ps : Parameters) → declarator_of head.tree ≡ settle x.place pending → tokens.mark tokens.opening ≡ view types (sort_of x.kind) → AreGiven (there types scope) (d - 1) xs ps n mid → IsExpected types tokens.closing mid rest → IsFunction head ps dd → m ≡ declarator_depth (declarator_of head.tree) → m < d → k ≡ max m n → IsLengthened (there types scope) (declared_seen head pending) d (x ∷ xs) dd (1 + k) rest
function_lengthened types scope head dd pending x xs mid rest d m n k ps settled is h closes f deep shallow both =
    let g = there types scope in
    let hd = declared_seen head pending in
    let qs = parameters_seen ps h.pending in
    let same = given_before ps.dots (map param_of ps.all.items) h.pending mid rest closes.first h.settled closes.whole in
    let on = function_on g hd x xs is in
    let step = last (on_mark types scope g (grammar.declarator_suffixes hd) (grammar.declarator_suffixes hd) (λ a. a) tokens.closing ps.behind (function_more g hd (terminal x) qs) g (x ∷ xs) mid rest (got on h.read.reads) closes) in
    let less : length mid ≡ length (closes.first ∷ rest) = ap length closes.whole in
    record {
      step = subst (λ v. IsStep g (grammar.declarator_suffixes hd) (grammar.declarator_suffixes v) (λ a. a) (x ∷ xs) rest) (sym (function_same head dd ps f pending x closes.first h.pending settled same)) step;
      settled = function_settled head dd ps f;
      deep = ap (λ v. 1 + v) both ∙ function_deep head dd ps f closes.first.place h.pending m n same deep h.read.deep;
      shallow = omega (arith, both, shallow, h.read.shallow);
      ended = closes.ended;
      fewer = omega (arith, h.read.fewer, less);
    }

-- what goes on with a declarator and is no length is parameters
pub begins_opening : (s : Sort) → begins_part s ≡ true → is_mark tokens.bracket s ≡ false → s ≡ tokens.mark tokens.opening
begins_opening (tokens.mark tokens.opening) e a = refl
begins_opening (tokens.mark tokens.bracket) e a = absurd cc
begins_opening _ e a = absurd cc
