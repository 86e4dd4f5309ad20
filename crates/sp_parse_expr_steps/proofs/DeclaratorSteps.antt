-- The readers of declarators, type names and parameters, over plain variables.
use Rattle.std.proofs.Common.{◌≡◌, ℕ, ◌+◌, ◌-◌, ◌≤◌, true, false, List, [], ◌∷◌, length, Some, None, Result, Ok, Err, refl, sym, ap, ◌∙◌, arith}
use Rattle.std.specs.Prelude.{MatchResult, max, if◌then◌else◌, Option}
use Rattle.sp_tree.specs.declared.token.Token.{Token}
use Rattle.sp_parse_trees.specs.Syntax as syntax
use Rattle.sp_parse_trees.specs.Syntax.{Declarator, declarator}
use Rattle.sp_parse_trees.specs.View.{declarator_of, specifiers_of}
use Rattle.sp_parse_trees.specs.Depth.{declarator_depth}
use Rattle.sp_parse_tokens.specs.declared.part.Part.{Part}
use Rattle.sp_parse_tokens.specs.declared.part.Declared.{Declared}
use Rattle.sp_parse_tokens.specs.declared.part.SpecifierList.{SpecifierList}
use Rattle.sp_parse_tokens.specs.declared.part.ReadError.{ReadError}
use Rattle.sp_parse_tokens.specs.declared.part.ReadError.TheVariants as stops
use Rattle.sp_parse_grammar.specs.CTokens as tokens
use Rattle.sp_parse_grammar.specs.CTokens.{Sort, view, is_mark}
use Rattle.sp_parse_grammar.specs.CTable as grammar
use Rattle.sp_parse_grammar.specs.CTable.{Context, Item, ItemAnswer, at, c_symbols, plan, get, next, pointed, begins_expression}
use Rattle.sp_parse_grammar.specs.CTrees.{TokenOf}
use Rattle.sp_parse_grammar.specs.Table.{Plan, done, ask, Reads}
use Rattle.sp_parse_tokens.specs.Sorts.{Terminal, terminal, sort_of, c_tokens}
use Rattle.sp_parse_tokens.specs.SyntaxTrees.{syntax_trees, c_table}
use Rattle.sp_parse_tokens.specs.Depths.{item_depth, item_down}
use Rattle.sp_parse_tokens.specs.Makers.{settle_param, first_place, all_specifiers, SpecifierAt}
use Rattle.sp_parse_tokens.specs.Ended.{IsEnded}
use Rattle.sp_parse_expr_steps.specs.Reading.{IsRead, IsStop, IsStep, IsTypeName, taken}
use Rattle.sp_parse_expr_steps.specs.Declaring.{declared_seen, IsDeclared, IsPointed, IsPointedStop, StopsBehindQualifiers, AreSpecified}
use Rattle.sp_parse_expr_steps.proofs.Steps.{got, finished}
use Rattle.sp_parse_expr_steps.proofs.Parts.{IsOn, stop_before, stop_part}
use Rattle.sp_parse_expr_steps.proofs.ExpressionSteps.{built, first_same, first_taken}

-- ---- the head of a text

pub record HasFirst (text : List Token) : Type 0 where
  pub first : Token
  pub behind : List Token
  pub whole : text ≡ first ∷ behind

pub first_of : (text : List Token) → IsEnded text → HasFirst text
first_of [] e = absurd e
first_of (x ∷ xs) e = record { first = x; behind = xs; whole = refl }

-- an ask whose production is the same for each token
pub same_on : (g : Context) (i : Item syntax_trees) (text : List Token) (q : Plan (c_symbols syntax_trees) (at g i)) → IsEnded text → ((x : TokenOf syntax_trees) (s : Sort) → plan g i x s ≡ Some q) → IsOn g g i i (λ a. a) q text text
same_on g i text q ended p =
    let f = first_of text ended in
    first_same g i text f.behind f.first (view g.types (sort_of f.first.kind)) f.whole refl q (p (terminal f.first) (view g.types (sort_of f.first.kind)))

-- ---- type names and parameters: specifiers and a declarator

abbrev pub type_made : List SpecifierAt → grammar.Declared syntax_trees → grammar.Named syntax_trees
type_made ss d = record { tree = syntax.type_name (all_specifiers ss) d.tree; behind = d.behind }

abbrev pub given_made : List SpecifierAt → grammar.Declared syntax_trees → grammar.Given syntax_trees
given_made ss d = record { tree = syntax.param (all_specifiers ss) d.tree; behind = d.behind }

abbrev pub type_plan : (g : Context) → Plan (c_symbols syntax_trees) (at g grammar.type_name)
type_plan g = get g (grammar.specifiers false tokens.nothing_seen grammar.no_specifiers) (λ sp. get g (grammar.declarator grammar.abstract) (λ d. done (type_made sp.all d)))

abbrev pub parameter_plan : (g : Context) → Plan (c_symbols syntax_trees) (at g grammar.parameter)
parameter_plan g = get g (grammar.specifiers true tokens.nothing_seen grammar.no_specifiers) (λ sp. get g (grammar.declarator grammar.either) (λ d. done (given_made sp.all d)))

pub type_on : (g : Context) (text : List Token) → IsEnded text → IsOn g g grammar.type_name grammar.type_name (λ a. a) (type_plan g) text text
type_on g text ended = same_on g grammar.type_name text (type_plan g) ended (λ x s. refl)

pub parameter_on : (g : Context) (text : List Token) → IsEnded text → IsOn g g grammar.parameter grammar.parameter (λ a. a) (parameter_plan g) text text
parameter_on g text ended = same_on g grammar.parameter text (parameter_plan g) ended (λ x s. refl)

-- ---- a declarator of a part, as one of the whole

pub declared_before : (g : Context) (i j : Item syntax_trees) (h : ItemAnswer j → ItemAnswer i) (m : grammar.Declared syntax_trees → ItemAnswer j) (d : ℕ) (text rest : List Token) → IsStep g i j h text rest → ((a : ItemAnswer j) → item_depth j a ≡ item_depth i (h a)) → taken i + length rest ≤ taken j + length text → (r : Result (Part Declared) ReadError)
    → MatchResult r (λ part. IsDeclared g j m d rest part.tree part.depth part.rest.now) (IsStop g j d rest)
    → MatchResult r (λ part. IsDeclared g i (λ a. h (m a)) d text part.tree part.depth part.rest.now) (IsStop g i d text)
declared_before g i j h m d text rest step same less (Ok part) p = record {
  pending = p.pending;
  settled = p.settled;
  named = p.named;
  read = record {
    reads = step.reads (m (declared_seen part.tree p.pending)) (c_tokens part.rest.now) p.read.reads;
    deep = p.read.deep ∙ same (m (declared_seen part.tree p.pending));
    shallow = p.read.shallow;
    ended = p.read.ended;
    fewer = omega (arith, less, p.read.fewer);
  };
}
declared_before g i j h m d text rest step same less (Err s) p = stop_before g i j h d text rest step s p

-- ---- behind a `*`

abbrev pub pointer_plan : (g : Context) (i : Item syntax_trees) (m : grammar.Declared syntax_trees → ItemAnswer i) (f : grammar.Form) (star : TokenOf syntax_trees) → Plan (c_symbols syntax_trees) (at g i)
pointer_plan g i m f star = get g (grammar.qualifiers []) (λ qs. get g (grammar.declarator f) (λ d. done (m (pointed star qs d))))

module _ (g : Context) (i : Item syntax_trees) (m : grammar.Declared syntax_trees → ItemAnswer i) (f : grammar.Form) (star : Token) (d : ℕ) (text rest : List Token) (on : IsOn g g i i (λ a. a) (pointer_plan g i m f (terminal star)) text rest) where
  pointed_part : item_down i (grammar.declarator f) ≡ 1 → (s : ReadError) → StopsBehindQualifiers g f d rest s → IsStop g i d text s
  pointed_part down s p = stop_part g g g i i (grammar.declarator f) (λ a. a) (λ e. done (m (pointed (terminal star) p.all e))) d (d - 1) text p.mid (got on p.qualifiers) (omega (arith, down)) s p.why

  pointed_stop : item_down i (grammar.declarator f) ≡ 1 → (s : ReadError) → IsPointedStop g f d rest s → IsStop g i d text s
  pointed_stop down stops.NoMemory p = tt
  pointed_stop down (stops.Fault kind bad) p = pointed_part down (stops.Fault kind bad) p
  pointed_stop down (stops.TooDeep bad) p = pointed_part down (stops.TooDeep bad) p

  pub pointer_result : 1 ≤ d → ((a : grammar.Declared syntax_trees) → item_depth i (m a) ≡ declarator_depth a.tree) → item_down i (grammar.declarator f) ≡ 1 → taken i + length rest ≤ length text → (r : Result (Part Declared) ReadError)
      → MatchResult r (λ part. IsPointed g star f d rest part.tree part.depth part.rest.now) (IsPointedStop g f d rest)
      → MatchResult r (λ part. IsDeclared g i m d text part.tree part.depth part.rest.now) (IsStop g i d text)
  pointer_result room same down less (Ok part) p = record {
    pending = (pointed (terminal star) p.all p.inner).tree;
    settled = p.settled;
    named = p.named;
    read = built g i d part.depth text part.rest.now (m (pointed (terminal star) p.all p.inner)) (m (declared_seen part.tree (pointed (terminal star) p.all p.inner).tree)) (finished (got (got on p.qualifiers) p.read.reads)) (ap m p.seen) (p.deeper ∙ (ap (λ n. 1 + n) p.read.deep ∙ sym (same (pointed (terminal star) p.all p.inner)))) (omega (arith, p.deeper, p.read.shallow, room)) p.read.ended (omega (arith, p.read.fewer, p.fewer, less));
  }
  pointer_result room same down less (Err s) p = pointed_stop down s p

-- where the declarator behind the qualifiers ends
pub behind_qualifiers : (g : Context) (f : grammar.Form) (d : ℕ) (text mid : List Token) (all : List Terminal) → Reads c_table (at g (grammar.qualifiers [])) (ask (at g (grammar.qualifiers []))) (c_tokens text) all (c_tokens mid) → (s : ReadError) → IsStop g (grammar.declarator f) (d - 1) mid s → IsPointedStop g f d text s
behind_qualifiers g f d text mid all r stops.NoMemory h = tt
behind_qualifiers g f d text mid all r (stops.Fault kind bad) h = record { all = all; mid = mid; qualifiers = r; why = h }
behind_qualifiers g f d text mid all r (stops.TooDeep bad) h = record { all = all; mid = mid; qualifiers = r; why = h }

fields_same : {t u : Declarator} {m n : Option ℕ} {p q : grammar.Shape} {v w : grammar.AlsoAllowed} → t ≡ u → m ≡ n → p ≡ q → v ≡ w → ◌≡◌ {A = grammar.Declared syntax_trees} (record { tree = t; declares = m; shape = p; behind = v }) (record { tree = u; declares = n; shape = q; behind = w })
fields_same e f h k = cc

pub declared_same : (a b : grammar.Declared syntax_trees) → a.tree ≡ b.tree → a.declares ≡ b.declares → a.shape ≡ b.shape → a.behind ≡ b.behind → a ≡ b
declared_same a b e f h k = fields_same e f h k

module _ (g : Context) (d m n k : ℕ) (text mid rest : List Token) (ss : SpecifierList) (dd : Declared) (ended : IsEnded text) where
  pub type_name_read : (name : syntax.TypeName) → (h : AreSpecified g false d text ss m mid) → (w : IsDeclared g (grammar.declarator grammar.abstract) (λ a. a) d mid dd n rest) → k ≡ max m n → name ≡ syntax.type_name (specifiers_of ss.all.items) (declarator_of dd.tree) → IsTypeName g d text name dd.behind k rest
  type_name_read name h w both same = record {
    pending = syntax.type_name (all_specifiers h.all) w.pending;
    settled = same ∙ (ap (λ v. syntax.type_name v (declarator_of dd.tree)) h.same ∙ ap (λ v. syntax.type_name (all_specifiers h.all) v) w.settled);
    read = built g grammar.type_name d k text rest (type_made h.all (declared_seen dd w.pending)) (type_made h.all (declared_seen dd w.pending)) (finished (got (got (type_on g text ended) h.read.reads) w.read.reads)) refl (omega (arith, both, h.read.deep, w.read.deep)) (omega (arith, both, h.read.shallow, w.read.shallow)) w.read.ended (omega (arith, h.fewer, w.read.fewer));
  }

  pub given_settled : (h : AreSpecified g true d text ss m mid) → (w : IsDeclared g (grammar.declarator grammar.either) (λ a. a) d mid dd n rest) → syntax.param (specifiers_of ss.all.items) (declarator_of dd.tree) ≡ settle_param (first_place rest) (syntax.param (all_specifiers h.all) w.pending)
  given_settled h w = ap (λ v. syntax.param v (declarator_of dd.tree)) h.same ∙ ap (λ v. syntax.param (all_specifiers h.all) v) w.settled

  pub given_read : (h : AreSpecified g true d text ss m mid) → (w : IsDeclared g (grammar.declarator grammar.either) (λ a. a) d mid dd n rest) → k ≡ max m n → IsRead g grammar.parameter d text (given_made h.all (declared_seen dd w.pending)) k rest
  given_read h w both = built g grammar.parameter d k text rest (given_made h.all (declared_seen dd w.pending)) (given_made h.all (declared_seen dd w.pending)) (finished (got (got (parameter_on g text ended) h.read.reads) w.read.reads)) refl (omega (arith, both, h.read.deep, w.read.deep)) (omega (arith, both, h.read.shallow, w.read.shallow)) w.read.ended (omega (arith, h.fewer, w.read.fewer))

-- ---- lengths of arrays

abbrev pub length_plan : (g : Context) → Plan (c_symbols syntax_trees) (at g grammar.array_length)
length_plan g = get g (grammar.level 11) (λ o. done (Some o.tree))

module _ (g : Context) (text xs : List Token) (x : Token) (e : text ≡ x ∷ xs) where
  pub no_length : (d : ℕ) → begins_expression (view g.types (sort_of x.kind)) ≡ false → IsEnded text → IsRead g grammar.array_length d text None 0 text
  no_length d other ended =
      built g grammar.array_length d 0 text text None None
      (finished (first_same g grammar.array_length text xs x (view g.types (sort_of x.kind)) e refl (done None) (ap (λ b. if b then Some (length_plan g) else Some (done None)) other)))
      refl refl (omega arith) ended (omega arith)

  pub length_on : begins_expression (view g.types (sort_of x.kind)) ≡ true → IsOn g g grammar.array_length grammar.array_length (λ a. a) (length_plan g) text text
  length_on stands = first_same g grammar.array_length text xs x (view g.types (sort_of x.kind)) e refl (length_plan g) (ap (λ b. if b then Some (length_plan g) else Some (done None)) stands)

  -- ---- declarators: a pointer, or a head with suffixes

  pub star_on : (f : grammar.Form) → tokens.mark tokens.star ≡ view g.types (sort_of x.kind) → IsOn g g (grammar.declarator f) (grammar.declarator f) (λ a. a) (pointer_plan g (grammar.declarator f) (λ d. d) f (terminal x)) text xs
  star_on f is = first_taken g (grammar.declarator f) text xs x (tokens.mark tokens.star) e is (λ y. pointer_plan g (grammar.declarator f) (λ d. d) f (terminal x)) refl

  pub direct_on : (f : grammar.Form) → is_mark tokens.star (view g.types (sort_of x.kind)) ≡ false → IsOn g g (grammar.declarator f) (grammar.declarator f) (λ a. a) (get g (grammar.direct f) (λ d. get g (grammar.declarator_suffixes d) (λ v. done v))) text text
  direct_on f other = first_same g (grammar.declarator f) text xs x (view g.types (sort_of x.kind)) e refl (get g (grammar.direct f) (λ d. get g (grammar.declarator_suffixes d) (λ v. done v))) (ap (λ b. if b then Some (next (λ y. pointer_plan g (grammar.declarator f) (λ d. d) f (terminal x))) else Some (get g (grammar.direct f) (λ d. get g (grammar.declarator_suffixes d) (λ v. done v)))) other)
