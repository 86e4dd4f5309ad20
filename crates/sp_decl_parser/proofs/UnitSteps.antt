-- The steps of the reader of units, over plain variables.
use Rattle.std.proofs.Common.{◌≡◌, ℕ, ◌≤◌, Bool, true, false, List, [], ◌∷◌, ◌++◌, Some, refl, sym, ap, ◌∙◌, subst, append_assoc, arith}
use Rattle.std.specs.Prelude.{◌||◌, ◌==◌, max, if◌then◌else◌}
use Rattle.std.specs.List.{list_any}
use Rattle.sp_tree.specs.declared.fault.FaultKind.{FaultKind}
use Rattle.sp_tree.specs.declared.token.Kind.{Kind}
use Rattle.sp_tree.specs.declared.token.Kind.TheVariants as kinds
use Rattle.sp_tree.specs.declared.token.Keyword.{Keyword}
use Rattle.sp_tree.specs.declared.token.Keyword.TheVariants.{Auto}
use Rattle.sp_tree.specs.declared.token.Punct.{Punct}
use Rattle.sp_tree.specs.declared.token.Punct.TheVariants.{Comma}
use Rattle.sp_tree.specs.declared.token.Token.{Token}
use Rattle.sp_parse_trees.specs.Syntax.{External}
use Rattle.sp_parse_trees.specs.Depth.{unit_depth, external_depth}
use Rattle.sp_parse_grammar.specs.CTokens as tokens
use Rattle.sp_parse_grammar.specs.CTokens.{Sort, view, is_mark}
use Rattle.sp_parse_grammar.specs.CTable as grammar
use Rattle.sp_parse_grammar.specs.CTable.{Context, at, unit, whole, outside, c_symbols, get, begins_specifiers}
use Rattle.sp_parse_grammar.specs.Table.{Plan, call, done, ask, Reads, Fails, wanted}
use Rattle.sp_parse_grammar.specs.Depth.{Nests}
use Rattle.sp_parse_tokens.specs.declared.scope.Scope.{Scope}
use Rattle.sp_parse_tokens.specs.declared.scope.AlsoAllowed.TheVariants as also
use Rattle.sp_parse_tokens.specs.declared.part.ReadError.{ReadError}
use Rattle.sp_parse_tokens.specs.declared.part.ReadError.TheVariants as stops
use Rattle.sp_parse_tokens.specs.Sorts.{Terminal, sort_of, word_sort, punct_sort, c_tokens}
use Rattle.sp_parse_tokens.specs.SyntaxTrees.{syntax_trees, c_table}
use Rattle.sp_parse_tokens.specs.Depths.{c_depths}
use Rattle.sp_parse_tokens.specs.Faults.{Wanted, fault_there, sort_there}
use Rattle.sp_parse_tokens.specs.Ended.{IsEnded}
use Rattle.sp_parse_tokens.specs.Expecting.{IsFaultFor, kind_of_first}
use Rattle.sp_parse_tokens.specs.Scopes.{kind_for}
use Rattle.sp_parse_tokens.proofs.Viewing.{mark_viewed}
use Rattle.sp_parse_expr_steps.specs.Reading.{kind_at, IsStop}
use Rattle.sp_parse_expr_steps.specs.States.{Before, Inside}
use Rattle.sp_parse_expr_steps.proofs.Steps.{begun, enter, got, last, finished, part_fails, part_nests, refused}
use Rattle.sp_parse_declarations.specs.Taking.{IsTaken}
use Rattle.sp_decl_parser.specs.Units.{IsUnitRead, IsUnitStop}

abbrev Declares : Type 0
Declares = grammar.Declares syntax_trees

-- Of the unit that begins at the first tokens these were read; at the last tokens is the rest of it, where these are type names.
pub record UnitSoFar (types : List ℕ) (es : List External) (text rest : List Token) : Type 0 where
  pub make : List External → List External
  pub is : (fs : List External) → make fs ≡ es ++ fs
  pub step : Before c_table c_depths (unit []) (unit types) make (c_tokens text) (c_tokens rest)

pub unit_begun : (types : List ℕ) (es : List External) (text : List Token) → types ≡ [] → es ≡ [] → UnitSoFar types es text text
unit_begun types es text none empty =
    let start : UnitSoFar [] [] text text = record { make = λ fs. fs; is = λ fs. refl; step = begun (unit []) (c_tokens text) } in
    subst (λ v. UnitSoFar v es text text) (sym none) (subst (λ v. UnitSoFar [] v text text) (sym empty) start)

abbrev begins_external : Sort → Bool
begins_external s = is_mark tokens.semicolon s || begins_specifiers true false s

abbrev unit_rest : (types : List ℕ) (e : Declares) → Plan (c_symbols syntax_trees) (unit types)
unit_rest types e = call (unit (types ++ e.types)) (λ es. done (e.tree ∷ es))

abbrev unit_plan : (types : List ℕ) → Plan (c_symbols syntax_trees) (unit types)
unit_plan types = get (outside types) grammar.external (unit_rest types)

none_behind : (es : List External) → es ++ [] ≡ es
none_behind [] = refl
none_behind (e ∷ es) = ap (λ v. e ∷ v) (none_behind es)

module _ (types : List ℕ) (es : List External) (text rest xs : List Token) (x : Token) (e : rest ≡ x ∷ xs) (so : UnitSoFar types es text rest) where
  unit_on : begins_external (view types (sort_of x.kind)) ≡ true → Inside c_table c_depths (unit []) (unit types) so.make (unit_plan types) (c_tokens text) (c_tokens rest)
  unit_on stands = enter so.step (ap c_tokens e) (ap (λ b. if b then Some (unit_plan types) else Some (done [])) stands)

  pub unit_more : (a : Declares) (now : List ℕ) (later : List Token) → begins_external (view types (sort_of x.kind)) ≡ true → Reads c_table (at (outside types) grammar.external) (ask (at (outside types) grammar.external)) (c_tokens rest) a (c_tokens later) → now ≡ types ++ a.types → UnitSoFar now (es ++ a.tree ∷ []) text later
  unit_more a now later stands read same =
      let more : UnitSoFar (types ++ a.types) (es ++ a.tree ∷ []) text later = record {
        make = λ fs. so.make (a.tree ∷ fs);
        is = λ fs. so.is (a.tree ∷ fs) ∙ sym (append_assoc es (a.tree ∷ []) fs);
        step = last (got (unit_on stands) read);
      } in
      subst (λ v. UnitSoFar v (es ++ a.tree ∷ []) text later) (sym same) more

  unit_fails : begins_external (view types (sort_of x.kind)) ≡ true → (w : Wanted) (bad : List Terminal) → Fails c_table (at (outside types) grammar.external) (ask (at (outside types) grammar.external)) (c_tokens rest) w bad → Fails c_table (unit []) (ask (unit [])) (c_tokens text) w bad
  unit_fails stands w bad h = part_fails (unit_on stands) h

  unit_nests : begins_external (view types (sort_of x.kind)) ≡ true → (d : ℕ) (bad : List Terminal) → Nests c_table c_depths (at (outside types) grammar.external) d (c_tokens rest) bad → Nests c_table c_depths (unit []) d (c_tokens text) bad
  unit_nests stands d bad h = part_nests (unit_on stands) (omega arith) h

  unit_ends : begins_external (view types (sort_of x.kind)) ≡ false → Reads c_table (unit []) (ask (unit [])) (c_tokens text) es (c_tokens rest)
  unit_ends other =
      let done_here = finished (enter so.step (ap c_tokens e) (ap (λ b. if b then Some (unit_plan types) else Some (done [])) other)) in
      subst (λ v. Reads c_table (unit []) (ask (unit [])) (c_tokens text) v (c_tokens rest)) (so.is [] ∙ none_behind es) done_here

pub depth_behind : (es : List External) (e : External) → unit_depth (es ++ e ∷ []) ≡ max (unit_depth es) (external_depth e)
depth_behind [] e = omega arith
depth_behind (f ∷ fs) e = omega (arith, depth_behind fs e)

-- ---- the whole text

abbrev end_plan : List External → Plan (c_symbols syntax_trees) whole
end_plan es = grammar.close_by (outside []) grammar.for_external tokens.end (λ z. done es)

abbrev whole_plan : Plan (c_symbols syntax_trees) whole
whole_plan = call (unit []) end_plan

whole_on : (text : List Token) → IsEnded text → Inside c_table c_depths whole whole (λ a. a) whole_plan (c_tokens text) (c_tokens text)
whole_on [] ended = absurd ended
whole_on (x ∷ xs) ended = enter (begun whole (c_tokens (x ∷ xs))) refl refl

pub external_stop : (types : List ℕ) (es : List External) (text rest xs : List Token) (x : Token) → rest ≡ x ∷ xs → UnitSoFar types es text rest → begins_external (view types (sort_of x.kind)) ≡ true → IsEnded text → (d : ℕ) (s : ReadError) → IsStop (outside types) grammar.external d rest s → IsUnitStop d text s
external_stop types es text rest xs x e so stands ended d (stops.Fault kind bad) h = (h.0, part_fails (whole_on text ended) (unit_fails types es text rest xs x e so stands h.0 (c_tokens bad.now) h.1), h.2, h.3)
external_stop types es text rest xs x e so stands ended d (stops.TooDeep bad) h = (part_nests (whole_on text ended) (omega arith) (unit_nests types es text rest xs x e so stands d (c_tokens bad.now) h.0), h.1)
external_stop types es text rest xs x e so stands ended d stops.NoMemory h = tt

-- where these are the type names, outside
abbrev pub IsOutside : Context → List ℕ → Type 0
IsOutside g types = (g.types ≡ types) × (g.inside ≡ false) × (g.members ≡ false)

abbrev context_by : List ℕ → Bool → Bool → Context
context_by ts inside members = record { types = ts; inside = inside; members = members }

outside_is : (g : Context) (types : List ℕ) → IsOutside g types → g ≡ outside types
outside_is g types h = ap (λ v. context_by v g.inside g.members) h.0 ∙ (ap (λ v. context_by types v g.members) h.1 ∙ ap (λ v. context_by types false v) h.2)

pub outside_read : (g : Context) (types : List ℕ) (d n : ℕ) (text rest : List Token) (a : Declares) → IsOutside g types → IsTaken g grammar.external d text a n rest → IsTaken (outside types) grammar.external d text a n rest
outside_read g types d n text rest a h w = subst (λ v. IsTaken v grammar.external d text a n rest) (outside_is g types h) w

pub outside_stop : (g : Context) (types : List ℕ) (d : ℕ) (text : List Token) (s : ReadError) → IsOutside g types → IsStop g grammar.external d text s → IsStop (outside types) grammar.external d text s
outside_stop g types d text s h w = subst (λ v. IsStop v grammar.external d text s) (outside_is g types h) w

-- ---- the end of the text

word_no_end : (w : Keyword) → is_mark tokens.end (word_sort w) ≡ true → ⊥
word_no_end Auto h = cc
word_no_end _ h = cc

punct_no_end : (p : Punct) → is_mark tokens.end (punct_sort p) ≡ true → ⊥
punct_no_end Comma h = cc
punct_no_end _ h = cc

end_is : (k : Kind) → is_mark tokens.end (sort_of k) ≡ true → k ≡ kinds.End
end_is kinds.End h = refl
end_is (kinds.Word w) h = absurd (word_no_end w h)
end_is (kinds.Mark p) h = absurd (punct_no_end p h)
end_is _ h = absurd cc

last_alone : (x : Token) (xs : List Token) → IsEnded (x ∷ xs) → x.kind ≡ kinds.End → xs ≡ []
last_alone x [] ended is = refl
last_alone x (y ∷ ys) ended is = absurd (ended.0 is)

pub unit_read : (types : List ℕ) (es : List External) (text rest xs : List Token) (x : Token) (e : rest ≡ x ∷ xs) (so : UnitSoFar types es text rest) → begins_external (view types (sort_of x.kind)) ≡ false → (d n : ℕ) (y : Token) (ys : List Token) → rest ≡ y ∷ ys → is_mark tokens.end (view types (sort_of y.kind)) ≡ true → IsEnded rest → n ≡ unit_depth es → n ≤ d → IsUnitRead d text es n
unit_read types es text rest xs x e so other d n y ys f ends ended deep shallow =
    let at_end = end_is y.kind (sym (mark_viewed types tokens.end (sort_of y.kind)) ∙ ends) in
    let alone = last_alone y ys (subst IsEnded f ended) at_end in
    let here : rest ≡ y ∷ [] = f ∙ ap (λ v. y ∷ v) alone in
    record {
      last = y;
      end = at_end;
      reads = subst (λ v. Reads c_table (unit []) (ask (unit [])) (c_tokens text) es (c_tokens v)) here (unit_ends types es text rest xs x e so other);
      deep = deep;
      shallow = shallow;
    }

-- ---- something else behind the last external declaration

-- a name that begins none is no type name
plain_name : (n : ℕ) (b : Bool) → begins_external (if b then tokens.named_type n else tokens.name n) ≡ false → (if b then tokens.named_type n else tokens.name n) ≡ tokens.name n
plain_name n true h = absurd cc
plain_name n false h = refl

untyped : (types : List ℕ) (s : Sort) → begins_external (view types s) ≡ false → view types s ≡ view [] s
untyped types (tokens.name n) h = plain_name n (list_any (λ t. t == n) types) h
untyped types (tokens.named_type n) h = refl
untyped types tokens.constant h = refl
untyped types tokens.text h = refl
untyped types tokens.storage h = refl
untyped types tokens.qualifier h = refl
untyped types tokens.assigning h = refl
untyped types (tokens.basic v) h = refl
untyped types (tokens.binary k) h = refl
untyped types (tokens.mark m) h = refl

abbrev the_end : Wanted
the_end = wanted (grammar.only (outside []) grammar.for_external tokens.end)

kind_at_end : (scope : Scope) (s : Sort) → scope.in_function ≡ false → scope.in_struct ≡ false → kind_for scope also.TypeSpecifier s ≡ fault_there the_end s
kind_at_end scope s outside_function outside_struct = rw (outside_function, outside_struct) refl

fault_same : (types : List ℕ) (scope : Scope) (x : Token) → scope.in_function ≡ false → scope.in_struct ≡ false → begins_external (view types (sort_of x.kind)) ≡ false → kind_for scope also.TypeSpecifier (view types (sort_of x.kind)) ≡ fault_there the_end (sort_there the_end x)
fault_same types scope x f g other = kind_at_end scope (view types (sort_of x.kind)) f g ∙ ap (λ v. fault_there the_end v) (untyped types (sort_of x.kind) other)

told_at_end : (types : List ℕ) (scope : Scope) (rest xs : List Token) (x : Token) → rest ≡ x ∷ xs → scope.in_function ≡ false → scope.in_struct ≡ false → begins_external (view types (sort_of x.kind)) ≡ false → (k : FaultKind) → kind_of_first types scope also.TypeSpecifier rest k → k ≡ kind_at the_end rest
told_at_end types scope rest xs x e f g other k h =
    let here : k ≡ kind_for scope also.TypeSpecifier (view types (sort_of x.kind)) = subst (λ v. kind_of_first types scope also.TypeSpecifier v k) e h in
    subst (λ v. k ≡ kind_at the_end v) (sym e) (here ∙ fault_same types scope x f g other)

pub end_stop : (types : List ℕ) (scope : Scope) (es : List External) (text rest xs : List Token) (x : Token) (e : rest ≡ x ∷ xs) (so : UnitSoFar types es text rest) → scope.in_function ≡ false → scope.in_struct ≡ false → begins_external (view types (sort_of x.kind)) ≡ false → (y : Token) (ys : List Token) → rest ≡ y ∷ ys → is_mark tokens.end (view types (sort_of y.kind)) ≡ false → IsEnded text → IsEnded rest → (d : ℕ) (s : ReadError) → IsFaultFor types scope also.TypeSpecifier rest s → IsUnitStop d text s
end_stop types scope es text rest xs x e so f g other y ys h0 no_end ended left d (stops.Fault kind bad) h =
    let same : bad.now ≡ rest = h.0 in
    let here = got (whole_on text ended) (unit_ends types es text rest xs x e so other) in
    let fails = refused here (ap c_tokens h0) (sym (mark_viewed types tokens.end (sort_of y.kind)) ∙ no_end) in
    let told = told_at_end types scope rest xs x e f g other kind h.1 in
    (the_end, subst (λ v. Fails c_table whole (ask whole) (c_tokens text) the_end (c_tokens v)) (sym same) fails, told ∙ ap (kind_at the_end) (sym same), subst IsEnded (sym same) left)
end_stop types scope es text rest xs x e so f g other y ys h0 no_end ended left d (stops.TooDeep bad) h = absurd h
end_stop types scope es text rest xs x e so f g other y ys h0 no_end ended left d stops.NoMemory h = absurd h
