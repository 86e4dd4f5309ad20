-- What the readers read, said by levelled trees.
use Rattle.std.proofs.Common.{◌≡◌, ℕ, zero, suc, ◌+◌, ◌-◌, ◌≤◌, ◌<◌, Bool, true, false, List, [], ◌∷◌, ◌++◌, map, length, take, drop, Some, None, refl, sym, ap, ◌∙◌, subst, arith, length-append, length-drop}
use Rattle.std.proofs.lemmas.List.{map-append}
use Rattle.std.specs.Prelude.{Option, is_some, if◌then◌else◌}
use Rattle.sp_tree.specs.declared.token.Token.{Token}
use Rattle.sp_parse_tokens.specs.declared.scope.Scope.{Scope}
use Rattle.sp_parse_tokens.specs.declared.scope.AlsoAllowed.TheVariants as also
use Rattle.sp_parse_tokens.specs.declared.part.ReadError.{ReadError}
use Rattle.sp_parse_grammar.specs.CTokens as tokens
use Rattle.sp_parse_grammar.specs.CTokens.{Sort, Seen, view, is_mark, add, nothing_seen}
use Rattle.sp_parse_grammar.specs.CTable as grammar
use Rattle.sp_parse_grammar.specs.CTable.{Ask, Answer, Context, Item, at, outside, plan, next, get, c_symbols, specifiers_plan}
use Rattle.sp_parse_grammar.specs.CTrees.{TokenOf}
use Rattle.sp_parse_grammar.specs.Table.{Plan, ask, done, Reads, Fails, asked, Opens, open_take, open_call}
use Rattle.sp_parse_grammar.specs.Depth.{Nests, nests, deep_here}
use Rattle.sp_parse_grammar.proofs.Readings.{front_of, fault_front, spelled, fault_spelled, at_tokens}
use Rattle.sp_parse_grammar.proofs.Nesting.{deep_front, deep_spelled}
use Rattle.sp_parse_tokens.specs.Sorts.{Terminal, terminal, sort_of, c_tokens}
use Rattle.sp_parse_tokens.specs.SyntaxTrees.{syntax_trees, c_table}
use Rattle.sp_parse_tokens.specs.Depths.{c_depths}
use Rattle.sp_parse_tokens.specs.Depths as deep
use Rattle.sp_parse_tokens.specs.Makers.{first_place}
use Rattle.sp_parse_tokens.specs.Faults.{Wanted, begins_declarator}
use Rattle.sp_parse_tokens.specs.Ended.{IsEnded}
use Rattle.sp_parse_laws.specs.Answers.{Language, IsLongest}
use Rattle.sp_parse_laws.proofs.Lifts.{Reader, longest_tree}
use Rattle.sp_parse_tokens.specs.Scopes.{there}
use Rattle.sp_parse_expr_steps.specs.Reading.{IsStop, IsStep}
use Rattle.sp_parse_tokens.specs.Expecting.{IsFaultFor}
use Rattle.sp_expr_parser.specs.Parsing.{IsParsed}
use Rattle.sp_expr_parser.specs.Calling.{sort_of_first}
use Rattle.sp_parse_expr_steps.specs.Declaring.{head_name}
use Rattle.sp_parse_expr_steps.proofs.Steps.{begun, unread, part_fails, last, finished}
use Rattle.sp_parse_expr_steps.proofs.ExpressionSteps.{first_same}
use Rattle.sp_parse_expr_steps.proofs.Faulting.{stop_at}
use Rattle.sp_parse_expr_steps.proofs.DeclaratorSteps.{type_on, direct_on}
use Rattle.sp_parse_expr_steps.proofs.GroupSteps.{direct_begins_none}

-- ---- the tokens before some others

pub ended_drop : (xs : List Token) (n : ℕ) → IsEnded xs → n < length xs → IsEnded (drop n xs)
ended_drop xs zero e less = e
ended_drop [] (suc n) e less = absurd e
ended_drop (x ∷ []) (suc n) e less = absurd (omega (arith, less))
ended_drop (x ∷ y ∷ ys) (suc n) e less = ended_drop (y ∷ ys) n e.1 (omega (arith, less))

take_all : (ys : List Token) → take (length ys) ys ≡ ys
take_all [] = refl
take_all (y ∷ ys) = ap (λ v. y ∷ v) (take_all ys)

-- the range of a slice up to its end
pub ended_from : (xs : List Token) (n : ℕ) → IsEnded xs → n < length xs → IsEnded (take (length xs - n) (drop n xs))
ended_from xs n e less =
    let same : take (length xs - n) (drop n xs) ≡ drop n xs = ap (λ k. take k (drop n xs)) (sym (length-drop n xs)) ∙ take_all (drop n xs) in
    subst IsEnded (sym same) (ended_drop xs n e less)

pub drop_front : (front ys : List Token) → drop (length front) (front ++ ys) ≡ ys
drop_front [] ys = refl
drop_front (x ∷ front) ys = drop_front front ys

pub take_front : (front ys : List Token) → take (length front) (front ++ ys) ≡ front
take_front [] ys = refl
take_front (x ∷ front) ys = ap (λ v. x ∷ v) (take_front front ys)

-- the tokens before the last ones, by their number
pub front_taken : (tokens front ys : List Token) (n : ℕ) → tokens ≡ front ++ ys → n + length ys ≡ length tokens → take n tokens ≡ front
front_taken tokens front ys n whole count =
    let all : length tokens ≡ length front + length ys = ap length whole ∙ length-append front ys in
    let same : n ≡ length front = omega (arith, all, count) in
    ap (λ v. take v tokens) same ∙ ap (λ v. take (length front) v) whole ∙ take_front front ys

abbrev whats : List Terminal → List Token
whats xs = map (λ x. x.what) xs

what_of_tokens : (xs : List Token) → whats (c_tokens xs) ≡ xs
what_of_tokens [] = refl
what_of_tokens (x ∷ xs) = ap (λ v. x ∷ v) (what_of_tokens xs)

split : (f : List Terminal) (tokens rest : List Token) → c_tokens tokens ≡ f ++ c_tokens rest → tokens ≡ whats f ++ rest
split f tokens rest e = sym (what_of_tokens tokens) ∙ (ap whats e ∙ (map-append (λ (x : Terminal). x.what) f (c_tokens rest) ∙ ap (λ v. whats f ++ v) (what_of_tokens rest)))

-- the front of some tokens
pub record Front (tokens rest : List Token) : Type 0 where
  pub front : List Token
  pub whole : tokens ≡ front ++ rest

pub read_front : (n : Ask syntax_trees) (tokens rest : List Token) (a : Answer n) → Reads c_table n (ask n) (c_tokens tokens) a (c_tokens rest) → Front tokens rest
read_front n tokens rest a r = record { front = whats (front_of r); whole = split (front_of r) tokens rest (spelled r) }

pub fault_front_of : (n : Ask syntax_trees) (tokens rest : List Token) (w : Wanted) → Fails c_table n (ask n) (c_tokens tokens) w (c_tokens rest) → Front tokens rest
fault_front_of n tokens rest w r = record { front = whats (fault_front r); whole = split (fault_front r) tokens rest (fault_spelled r) }

nests_spelled : (n : Ask syntax_trees) (d : ℕ) (xs ys : List Terminal) → Nests c_table c_depths n d xs ys → (f : List Terminal) × (xs ≡ f ++ ys)
nests_spelled n d xs ys (nests e h) = (deep_front h, deep_spelled h)

pub nests_front : (n : Ask syntax_trees) (d : ℕ) (tokens rest : List Token) → Nests c_table c_depths n d (c_tokens tokens) (c_tokens rest) → Front tokens rest
nests_front n d tokens rest h =
    let w = nests_spelled n d (c_tokens tokens) (c_tokens rest) h in
    record { front = whats w.0; whole = split w.0 tokens rest w.1 }

-- ---- trees and faults

module _ (L : Language) (types : List ℕ) (n : Ask syntax_trees) (r : Reader L types n) where
  longest : (depth : ℕ) (text rest : List Token) (a : Answer n) (tree : L.Tree) (count : ℕ) → Reads c_table n (ask n) (c_tokens text) a (c_tokens rest) → IsEnded rest → tree ≡ r.tree a (first_place rest) → L.depth tree ≤ depth → count + length rest ≡ length text → IsLongest L types depth text tree count
  longest depth text [] a tree count read ended same shallow counted = absurd ended
  longest depth text (x ∷ more) a tree count read ended same shallow counted =
      let f = read_front n text (x ∷ more) a read in
      let size : length text ≡ length f.front + length (x ∷ more) = ap length f.whole ∙ length-append f.front (x ∷ more) in
      let number : count ≡ length f.front = omega (arith, size, counted) in
      let here = longest_tree L types n r depth f.front x more a (at_tokens (ap c_tokens f.whole) read) (subst (λ v. L.depth v ≤ depth) same shallow) in
      subst (λ v. IsLongest L types depth v tree count) (sym f.whole) (subst (λ v. IsLongest L types depth (f.front ++ x ∷ more) v count) (sym same) (subst (λ v. IsLongest L types depth (f.front ++ x ∷ more) (r.tree a x.place) v) (sym number) here))

  pub parsed : (depth : ℕ) (all : List Token) (from : ℕ) (rest : List Token) (a : Answer n) (tree : L.Tree) (behind : ℕ) → from < length all → Reads c_table n (ask n) (c_tokens (drop from all)) a (c_tokens rest) → IsEnded rest → tree ≡ r.tree a (first_place rest) → L.depth tree ≤ depth → behind + length rest ≡ length all → IsParsed L types depth (drop from all) from tree behind
  parsed depth all from rest a tree behind inside read ended same shallow counted =
      let f = read_front n (drop from all) rest a read in
      let size : length (drop from all) ≡ length f.front + length rest = ap length f.whole ∙ length-append f.front rest in
      let left : length (drop from all) ≡ length all - from = length-drop from all in
      record {
        forward = omega (arith, size, left, inside, counted);
        longest = longest depth (drop from all) rest a tree (behind - from) read ended same shallow (omega (arith, size, left, inside, counted));
      }

-- ---- where the depth is 0

some_opens : (g : Context) (stores : Bool) (seen : Seen) (sp : grammar.Specified syntax_trees) (x : TokenOf syntax_trees) (s : Sort) (new : Seen) → (k : TokenOf syntax_trees → Plan (c_symbols syntax_trees) (at g (grammar.specifiers stores seen sp))) × (specifiers_plan {t = syntax_trees} g stores seen sp x s (Some new) ≡ Some (next k))
some_opens g stores seen sp x (tokens.mark tokens.struct) new = (_, refl)
some_opens g stores seen sp x (tokens.mark tokens.enum) new = (_, refl)
some_opens g stores seen sp x _ new = (_, refl)

begins_opens : (g : Context) (stores : Bool) (seen : Seen) (sp : grammar.Specified syntax_trees) (x : TokenOf syntax_trees) (s : Sort) (a : Option Seen) → is_some a ≡ true → (k : TokenOf syntax_trees → Plan (c_symbols syntax_trees) (at g (grammar.specifiers stores seen sp))) × (specifiers_plan {t = syntax_trees} g stores seen sp x s a ≡ Some (next k))
begins_opens g stores seen sp x s (Some new) e = some_opens g stores seen sp x s new
begins_opens g stores seen sp x s None e = absurd cc

none_begins : (g : Context) (stores : Bool) (sp : grammar.Specified syntax_trees) (x : TokenOf syntax_trees) (s : Sort) (a : Option Seen) → is_some a ≡ false → specifiers_plan {t = syntax_trees} g stores nothing_seen sp x s a ≡ None
none_begins g stores sp x s (Some new) e = absurd cc
none_begins g stores sp x s None e = refl

pub type_name_deep : (types : List ℕ) (text : List Token) → IsEnded text → (s : Sort) → ((x : Token) (xs : List Token) → text ≡ x ∷ xs → s ≡ view types (sort_of x.kind)) → grammar.begins_specifiers false false s ≡ true → Nests c_table c_depths (at (outside types) grammar.type_name) 0 (c_tokens text) (c_tokens text)
type_name_deep types [] ended s same begins = absurd ended
type_name_deep types (x ∷ xs) ended s same begins =
    let g = outside types in
    let v = view types (sort_of x.kind) in
    let here : is_some (add false false nothing_seen v) ≡ true = subst (λ w. is_some (add false false nothing_seen w) ≡ true) (same x xs refl) begins in
    let opens = begins_opens g false nothing_seen grammar.no_specifiers (terminal x) v (add false false nothing_seen v) here in
    nests refl (deep_here refl (open_call opens.1 (open_take refl)) (omega arith))

pub type_name_none : (types : List ℕ) (scope : Scope) (text : List Token) → there types scope ≡ outside types → IsEnded text → (s : Sort) → ((x : Token) (xs : List Token) → text ≡ x ∷ xs → s ≡ view types (sort_of x.kind)) → grammar.begins_specifiers false false s ≡ false → (stop : ReadError) → IsFaultFor types scope also.TypeSpecifier text stop → IsStop (outside types) grammar.type_name 0 text stop
type_name_none types scope [] out ended s same begins stop h = absurd ended
type_name_none types scope (x ∷ xs) out ended s same begins stop h =
    let g = there types scope in
    let v = view types (sort_of x.kind) in
    let i = grammar.specifiers false nothing_seen grammar.no_specifiers in
    let none : is_some (add false scope.in_function nothing_seen v) ≡ false = subst (λ w. is_some (add false scope.in_function nothing_seen w) ≡ false) (same x xs refl) (subst (λ (c : Context). is_some (add false c.inside nothing_seen s) ≡ false) (sym out) begins) in
    let part = unread {D = c_depths} (begun (at g i) (c_tokens (x ∷ xs))) refl (none_begins g false grammar.no_specifiers (terminal x) v (add false scope.in_function nothing_seen v) none) in
    let fails = part_fails (type_on g (x ∷ xs) ended) part in
    subst (λ c. IsStop c grammar.type_name 0 (x ∷ xs) stop) out (stop_at types scope also.TypeSpecifier (asked (at g i)) g grammar.type_name 0 (x ∷ xs) (x ∷ xs) fails (λ y. refl) ended stop h)

-- the plan of a declarator of a name that such a token begins
record Begun (g : Context) (x : TokenOf syntax_trees) (s : Sort) : Type 0 where
  begun_plan : Plan (c_symbols syntax_trees) (at g (grammar.declarator grammar.concrete))
  begun_chosen : plan {t = syntax_trees} g (grammar.declarator grammar.concrete) x s ≡ Some begun_plan
  begun_opens : s ≡ view g.types x.sort → Opens c_table (at g (grammar.declarator grammar.concrete)) begun_plan x

declarator_begun : (g : Context) (x : TokenOf syntax_trees) (s : Sort) → begins_declarator s ≡ true → Begun g x s
declarator_begun g x (tokens.name n) e = record { begun_plan = _; begun_chosen = refl; begun_opens = λ is. open_call (subst {0, 0} (λ v. plan {t = syntax_trees} g (grammar.direct grammar.concrete) x v ≡ Some (next (λ y. done (grammar.named_declarator x n)))) is refl) (open_take refl) }
declarator_begun g x (tokens.mark tokens.star) e = record { begun_plan = _; begun_chosen = refl; begun_opens = λ is. open_take refl }
declarator_begun g x (tokens.mark tokens.opening) e = record { begun_plan = _; begun_chosen = refl; begun_opens = λ is. open_call (subst {0, 0} (λ v. plan {t = syntax_trees} g (grammar.direct grammar.concrete) x v ≡ Some (next (λ y. get g (grammar.behind_group grammar.concrete x) (λ d. done d)))) is refl) (open_take refl) }
declarator_begun g x _ e = absurd cc

declarator_least_some : (s : Sort) → 0 < deep.declarator_least s
declarator_least_some (tokens.mark tokens.star) = omega arith
declarator_least_some _ = omega arith

pub declarator_deep : (types : List ℕ) (text : List Token) → IsEnded text → (s : Sort) → ((x : Token) (xs : List Token) → text ≡ x ∷ xs → s ≡ view types (sort_of x.kind)) → begins_declarator s ≡ true → Nests c_table c_depths (at (outside types) (grammar.declarator grammar.concrete)) 0 (c_tokens text) (c_tokens text)
declarator_deep types [] ended s same begins = absurd ended
declarator_deep types (x ∷ xs) ended s same begins =
    let v = view types (sort_of x.kind) in
    let b = declarator_begun (outside types) (terminal x) v (subst (λ w. begins_declarator w ≡ true) (same x xs refl) begins) in
    nests b.begun_chosen (deep_here b.begun_chosen (b.begun_opens refl) (declarator_least_some v))

no_star : (s : Sort) → begins_declarator s ≡ false → is_mark tokens.star s ≡ false
no_star (tokens.mark tokens.star) e = absurd cc
no_star (tokens.mark m) e = refl
no_star _ e = refl

no_opening : (s : Sort) → begins_declarator s ≡ false → is_mark tokens.opening s ≡ false
no_opening (tokens.mark tokens.opening) e = absurd cc
no_opening (tokens.mark m) e = refl
no_opening _ e = refl

no_head : (s : Sort) → begins_declarator s ≡ false → head_name grammar.concrete s ≡ None
no_head (tokens.name n) e = absurd cc
no_head _ e = refl

pub declarator_none : (types : List ℕ) (scope : Scope) (text : List Token) → there types scope ≡ outside types → IsEnded text → (s : Sort) → ((x : Token) (xs : List Token) → text ≡ x ∷ xs → s ≡ view types (sort_of x.kind)) → begins_declarator s ≡ false → (stop : ReadError) → IsFaultFor types scope also.Name text stop → IsStop (outside types) (grammar.declarator grammar.concrete) 0 text stop
declarator_none types scope [] out ended s same begins stop h = absurd ended
declarator_none types scope (x ∷ xs) out ended s same begins stop h =
    let g = there types scope in
    let v = view types (sort_of x.kind) in
    let i = grammar.direct grammar.concrete in
    let other = subst (λ w. begins_declarator w ≡ false) (same x xs refl) begins in
    let part = unread {D = c_depths} (begun (at g i) (c_tokens (x ∷ xs))) refl (direct_begins_none g grammar.concrete (terminal x) v refl (no_opening v other) (no_head v other)) in
    let fails = part_fails (direct_on g (x ∷ xs) xs x refl grammar.concrete (no_star v other)) part in
    subst (λ c. IsStop c (grammar.declarator grammar.concrete) 0 (x ∷ xs) stop) out (stop_at types scope also.Name (asked (at g i)) g (grammar.declarator grammar.concrete) 0 (x ∷ xs) (x ∷ xs) fails (λ y. refl) ended stop h)

-- ---- lists of specifiers, the empty list too

abbrev pub optional_plan : (g : Context) → Plan (c_symbols syntax_trees) (at g grammar.optional_specifiers)
optional_plan g = get g (grammar.specifiers true nothing_seen grammar.no_specifiers) (λ sp. done sp)

pub optional_step : (g : Context) (text : List Token) → IsEnded text → (s : Sort) → ((x : Token) (xs : List Token) → text ≡ x ∷ xs → s ≡ view g.types (sort_of x.kind)) → grammar.begins_specifiers true g.inside s ≡ true → IsStep g grammar.optional_specifiers (grammar.specifiers true nothing_seen grammar.no_specifiers) (λ sp. sp) text text
optional_step g [] ended s same begins = absurd ended
optional_step g (x ∷ xs) ended s same begins = last (first_same g grammar.optional_specifiers (x ∷ xs) xs x s refl (same x xs refl) (optional_plan g) (ap (λ b. if b then Some (optional_plan g) else Some (done grammar.no_specifiers)) begins))

pub no_specifiers_read : (g : Context) (text : List Token) → IsEnded text → (s : Sort) → ((x : Token) (xs : List Token) → text ≡ x ∷ xs → s ≡ view g.types (sort_of x.kind)) → grammar.begins_specifiers true g.inside s ≡ false → Reads c_table (at g grammar.optional_specifiers) (ask (at g grammar.optional_specifiers)) (c_tokens text) grammar.no_specifiers (c_tokens text)
no_specifiers_read g [] ended s same begins = absurd ended
no_specifiers_read g (x ∷ xs) ended s same begins = finished (first_same g grammar.optional_specifiers (x ∷ xs) xs x s refl (same x xs refl) (done grammar.no_specifiers) (ap (λ b. if b then Some (optional_plan g) else Some (done grammar.no_specifiers)) begins))

pub sort_of_head : (types : List ℕ) (text : List Token) (s : Sort) → s ≡ sort_of_first types text → (x : Token) (xs : List Token) → text ≡ x ∷ xs → s ≡ view types (sort_of x.kind)
sort_of_head types text s e x xs is = e ∙ ap (λ v. sort_of_first types v) is
