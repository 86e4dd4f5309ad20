-- Arguments and lists of specifiers are read from their tokens, given that their parts are.
use Rattle.std.proofs.Common.{◌≡◌, ℕ, zero, suc, ◌<◌, ◌≤◌, Bool, true, false, List, [], ◌∷◌, ◌++◌, Option, Some, None, refl, sym, ap, ◌∙◌, subst, arith, append_assoc}
use Rattle.std.specs.Prelude.{if◌then◌else◌, ◌||◌, ◌==◌, option_map}
use Rattle.std.specs.List.{list_any}
use Rattle.sp_tree.specs.declared.token.Keyword.{Keyword}
use Rattle.sp_tree.specs.declared.token.Keyword.TheVariants as words
use Rattle.sp_tree.specs.declared.token.Kind.{Kind}
use Rattle.sp_tree.specs.declared.token.Kind.TheVariants as kinds
use Rattle.sp_tree.specs.declared.token.Punct.TheVariants as puncts
use Rattle.sp_parse_trees.specs.Words.{basic_number, without, are_among, whole_types, is_one_type}
use Rattle.sp_parse_trees.specs.Syntax as syntax
use Rattle.sp_parse_trees.specs.Syntax.{Expression, Expressions, no_expressions, next_expression}
use Rattle.sp_parse_trees.specs.Spelling.{tokens_of}
use Rattle.sp_parse_trees.specs.Levels.{level}
use Rattle.sp_parse_grammar.specs.CTokens as tokens
use Rattle.sp_parse_grammar.specs.CTokens.{Sort, Seen, TypeWord, view, is_mark, looseness, is_specifier, is_typed, typed, whole_seen, nothing_seen, add, add_word}
use Rattle.sp_parse_grammar.specs.CTable as grammar
use Rattle.sp_parse_grammar.specs.CTable.{Context, Operand, Specified, ItemAnswer, at, c_symbols, plan, begins_expression, specifiers_plan, IsBehindSpecifiers}
use Rattle.sp_parse_grammar.specs.Table.{ask, Reads, read_done, read_take}
use Rattle.sp_parse_grammar.proofs.Readings.{join, at_tokens}
use Rattle.sp_parse_grammar.proofs.CChecked.{if_true}
use Rattle.sp_parse_tokens.specs.Sorts.{Terminal, word_sort}
use Rattle.sp_parse_tokens.specs.SyntaxTrees.{syntax_trees, c_table}
use Rattle.sp_parse_laws.specs.Bare.{bare}
use Rattle.sp_parse_tokens.specs.Makers as make
use Rattle.sp_parse_laws.proofs.BareAnswers.{before_arguments, no_argument_behind, argument_behind}
use Rattle.sp_parse_laws.specs.Spelled.{kinds_at}
use Rattle.sp_parse_laws.proofs.Completing.{cut, head, sort_at, Reading, chosen, nothing, moved}
use Rattle.sp_parse_laws.proofs.CompleteExpressions.{Complete, Begins, none_left}

-- ---- what stands next

-- the tokens begin with one of this sort
pub record Next (g : Context) (P : Sort → Type 0) (xs : List Terminal) : Type 0 where
  pub first : Terminal
  pub rest : List Terminal
  pub whole : xs ≡ first ∷ rest
  pub holds : P (view g.types first.sort)

-- kinds that are none, or begin with a comma
pub data Commas : List Kind → Type 0 where
  no_comma : Commas []
  a_comma : (b : List Kind) → Commas (kinds.Mark puncts.Comma ∷ b)

pub next_of : (g : Context) (P : Sort → Type 0) (ks : List Kind) (ws : List Terminal) (c : Terminal) (zs : List Terminal) → Commas ks → P (tokens.mark tokens.comma) → P (view g.types c.sort) → kinds_at ws ≡ ks → Next g P (ws ++ c ∷ zs)
next_of g P ks [] c zs commas comma end is = record { first = c; rest = zs; whole = refl; holds = end }
next_of g P [] (x ∷ ws) c zs commas comma end is = absurd cc
next_of g P (k ∷ ks) (x ∷ ws) c zs (a_comma b) comma end is =
    let first : x.what.kind ≡ kinds.Mark puncts.Comma = cc in
    record { first = x; rest = ws ++ c ∷ zs; whole = refl; holds = subst P (sym (sort_at g.types x (kinds.Mark puncts.Comma) first)) comma }

pub closing_sort : (g : Context) (c : Terminal) → c.what.kind ≡ kinds.Mark puncts.RightParenthesis → view g.types c.sort ≡ tokens.mark tokens.closing
closing_sort g c k = sort_at g.types c (kinds.Mark puncts.RightParenthesis) k

-- ---- arguments

pub record MoreArguments (g : Context) (ks : List Kind) (m : Expressions) : Type 0 where
  pub commas : Commas ks
  pub read : (es : List Expression) (ws : List Terminal) (c : Terminal) (zs : List Terminal) → kinds_at ws ≡ ks → c.what.kind ≡ kinds.Mark puncts.RightParenthesis → Reading g (grammar.more_arguments es) (before_arguments es m) (ws ++ c ∷ zs) (c ∷ zs)

pub no_more_arguments : (g : Context) → MoreArguments g [] no_expressions
no_more_arguments g = record {
  commas = no_comma;
  read = λ es ws c zs is k. moved g (grammar.more_arguments es) (c ∷ zs) (ws ++ c ∷ zs) (c ∷ zs) (ap (λ w. w ++ c ∷ zs) (sym (none_left ws is))) (record { answer = es; read = nothing g (grammar.more_arguments es) c zs (subst (λ s. 13 < looseness s) (sym (closing_sort g c k)) (omega arith)); alike = no_argument_behind es });
}

-- an argument, and those behind it
argument_and : (g : Context) (e : Expression) (ks : List Kind) (m : Expressions) → 1 ≤ level e → Complete g e → MoreArguments g ks m → (ws : List Terminal) (c : Terminal) (zs : List Terminal) → kinds_at ws ≡ tokens_of e ++ ks → c.what.kind ≡ kinds.Mark puncts.RightParenthesis
    → (o : Operand syntax_trees) × (mid : List Terminal) × Reads c_table (at g (grammar.level 12)) (ask (at g (grammar.level 12))) (ws ++ c ∷ zs) o mid × (bare o.tree ≡ bare e) × ((es : List Expression) → Reading g (grammar.more_arguments es) (before_arguments es m) mid (c ∷ zs))
argument_and g e ks m high inner more ws c zs is k =
    let b = cut ws (tokens_of e) ks is in
    let n = next_of g (λ s. 12 < looseness s) ks b.right c zs more.commas (omega arith) (subst (λ s. 12 < looseness s) (sym (closing_sort g c k)) (omega arith)) b.right_is in
    let r = inner.levels 12 (omega arith) (omega (arith, high)) b.left n.first n.rest b.left_is n.holds in
    let whole : ws ++ c ∷ zs ≡ b.left ++ n.first ∷ n.rest = ap (λ w. w ++ c ∷ zs) b.whole ∙ append_assoc b.left b.right (c ∷ zs) ∙ ap (λ w. b.left ++ w) n.whole in
    (r.answer, n.first ∷ n.rest, at_tokens (sym whole) r.read, r.alike, (λ es. moved g (grammar.more_arguments es) (b.right ++ c ∷ zs) (n.first ∷ n.rest) (c ∷ zs) n.whole (more.read es b.right c zs b.right_is k)))

pub one_more_argument : (g : Context) (e : Expression) (ks : List Kind) (m : Expressions) → 1 ≤ level e → Complete g e → MoreArguments g ks m → MoreArguments g (kinds.Mark puncts.Comma ∷ (tokens_of e ++ ks)) (next_expression (bare e) m)
one_more_argument g e ks m high inner more = record {
  commas = a_comma (tokens_of e ++ ks);
  read = λ es ws c zs is k.
      let h = head ws (kinds.Mark puncts.Comma) (tokens_of e ++ ks) is in
      let r = argument_and g e ks m high inner more h.rest c zs h.rest_is k in
      let s = r.4 (es ++ r.0.tree ∷ []) in
      let v = sort_at g.types h.first (kinds.Mark puncts.Comma) h.first_is in
      moved g (grammar.more_arguments es) (h.first ∷ (h.rest ++ c ∷ zs)) (ws ++ c ∷ zs) (c ∷ zs) (ap (λ w. w ++ c ∷ zs) (sym h.whole))
      (record { answer = s.answer; read = chosen g (grammar.more_arguments es) h.first (tokens.mark tokens.comma) _ (h.rest ++ c ∷ zs) (c ∷ zs) s.answer v refl (read_take refl (join r.2 (join s.read read_done))); alike = s.alike ∙ argument_behind es r.0.tree m ∙ ap (λ v. before_arguments es (next_expression v m)) r.3 });
}

abbrev pub Arguments : (g : Context) → List Kind → Expressions → Type 0
Arguments g ks m = (ws : List Terminal) (c : Terminal) (zs : List Terminal) → kinds_at ws ≡ ks → c.what.kind ≡ kinds.Mark puncts.RightParenthesis → Reading g grammar.arguments m (ws ++ c ∷ zs) (c ∷ zs)

pub no_arguments : (g : Context) → Arguments g [] no_expressions
no_arguments g ws c zs is k = moved g grammar.arguments (c ∷ zs) (ws ++ c ∷ zs) (c ∷ zs) (ap (λ w. w ++ c ∷ zs) (sym (none_left ws is)))
    (record { answer = []; read = nothing g grammar.arguments c zs (subst (λ s. (begins_expression s ≡ false) × (13 < looseness s)) (sym (closing_sort g c k)) (refl, omega arith)); alike = refl })

pub some_arguments : (g : Context) (e : Expression) (ks : List Kind) (m : Expressions) → 1 ≤ level e → Complete g e → ((ws : List Terminal) → kinds_at ws ≡ tokens_of e → Begins g ws) → MoreArguments g ks m → Arguments g (tokens_of e ++ ks) (next_expression (bare e) m)
some_arguments g e ks m high inner begins more ws c zs is k =
    let r = argument_and g e ks m high inner more ws c zs is k in
    let b = cut ws (tokens_of e) ks is in
    let f = begins b.left b.left_is in
    let whole : ws ++ c ∷ zs ≡ f.first ∷ (f.rest ++ (b.right ++ c ∷ zs)) = ap (λ w. w ++ c ∷ zs) b.whole ∙ append_assoc b.left b.right (c ∷ zs) ∙ ap (λ w. w ++ (b.right ++ c ∷ zs)) f.whole in
    let s = r.4 (r.0.tree ∷ []) in
    moved g grammar.arguments (f.first ∷ (f.rest ++ (b.right ++ c ∷ zs))) (ws ++ c ∷ zs) (c ∷ zs) (sym whole)
    (record { answer = s.answer; read = chosen g grammar.arguments f.first (view g.types f.first.sort) _ (f.rest ++ (b.right ++ c ∷ zs)) (c ∷ zs) s.answer refl (if_true (begins_expression (view g.types f.first.sort)) _ _ f.begins) (join (at_tokens whole r.2) (join s.read read_done)); alike = s.alike ∙ ap (λ v. next_expression v m) r.3 })

-- ---- words that are of one type are words of types

without_any : (p : Keyword → Bool) (k : Keyword) (ws rest : List Keyword) → without k ws ≡ Some rest → list_any p rest ≡ true → list_any p ws ≡ true
without_any p k [] rest e h = absurd cc
without_any p k (w ∷ ws) rest e h = by_test p k w ws rest (λ r f j. without_any p k ws r f j) (basic_number k == basic_number w) (without k ws) refl e h
  where
    or_right : (a b : Bool) → b ≡ true → a || b ≡ true
    or_right true b e = refl
    or_right false b e = e

    or_either : (p : Keyword → Bool) (w : Keyword) (rest ws : List Keyword) (b : Bool) → p w ≡ b → (list_any p rest ≡ true → list_any p ws ≡ true) → b || list_any p rest ≡ true → b || list_any p ws ≡ true
    or_either p w rest ws true e f h = refl
    or_either p w rest ws false e f h = f h

    by_test : (p : Keyword → Bool) (k w : Keyword) (ws rest : List Keyword) → ((r : List Keyword) → without k ws ≡ Some r → list_any p r ≡ true → list_any p ws ≡ true) → (b : Bool) (o : Option (List Keyword)) → without k ws ≡ o → (if b then Some ws else option_map (λ rest. w ∷ rest) o) ≡ Some rest → list_any p rest ≡ true → p w || list_any p ws ≡ true
    by_test p k w ws rest f true o g e h = let same : ws ≡ rest = cc in or_right (p w) (list_any p ws) (subst (λ v. list_any p v ≡ true) (sym same) h)
    by_test p k w ws rest f false None g e h = absurd cc
    by_test p k w ws rest f false (Some r) g e h = let same : w ∷ r ≡ rest = cc in or_either p w r ws (p w) refl (λ j. f r g j) (subst (λ v. list_any p v ≡ true) (sym same) h)

without_itself : (k : Keyword) (ws rest : List Keyword) → without k ws ≡ Some rest → list_any (λ w. basic_number k == basic_number w) ws ≡ true
without_itself k [] rest e = absurd cc
without_itself k (w ∷ ws) rest e = by_test k w ws rest (λ r f. without_itself k ws r f) (basic_number k == basic_number w) (without k ws) refl e
  where
    by_test : (k w : Keyword) (ws rest : List Keyword) → ((r : List Keyword) → without k ws ≡ Some r → list_any (λ w. basic_number k == basic_number w) ws ≡ true) → (b : Bool) (o : Option (List Keyword)) → without k ws ≡ o → (if b then Some ws else option_map (λ rest. w ∷ rest) o) ≡ Some rest → b || list_any (λ w. basic_number k == basic_number w) ws ≡ true
    by_test k w ws rest f true o g e = refl
    by_test k w ws rest f false None g e = absurd cc
    by_test k w ws rest f false (Some r) g e = f r g

-- each word of a part is in the whole
among_each : (ks js : List Keyword) (k : Keyword) (others : List Keyword) → are_among (ks ++ k ∷ js) others ≡ true → list_any (λ w. basic_number k == basic_number w) others ≡ true
among_each [] js k others e = first k js others (without k others) refl e
  where
    first : (k : Keyword) (js others : List Keyword) (o : Option (List Keyword)) → without k others ≡ o → (elim o [ None ↦ false | Some rest ↦ are_among js rest ]) ≡ true → list_any (λ w. basic_number k == basic_number w) others ≡ true
    first k js others None g e = absurd cc
    first k js others (Some rest) g e = without_itself k others rest g
among_each (j ∷ ks) js k others e = later j k ks js others (λ rest h. among_each ks js k rest h) (without j others) refl e
  where
    later : (j k : Keyword) (ks js others : List Keyword) → ((rest : List Keyword) → are_among (ks ++ k ∷ js) rest ≡ true → list_any (λ w. basic_number k == basic_number w) rest ≡ true) → (o : Option (List Keyword)) → without j others ≡ o → (elim o [ None ↦ false | Some rest ↦ are_among (ks ++ k ∷ js) rest ]) ≡ true → list_any (λ w. basic_number k == basic_number w) others ≡ true
    later j k ks js others f None g e = absurd cc
    later j k ks js others f (Some rest) g e = without_any (λ w. basic_number k == basic_number w) j others rest g (f rest e)

any_has : (ks js : List Keyword) (k : Keyword) (ts : List (List Keyword)) → list_any (are_among (ks ++ k ∷ js)) ts ≡ true → list_any (λ t. list_any (λ w. basic_number k == basic_number w) t) ts ≡ true
any_has ks js k [] e = absurd cc
any_has ks js k (t ∷ ts) e = by_first ks js k t ts (λ h. any_has ks js k ts h) (are_among (ks ++ k ∷ js) t) refl e
  where
    or_left : (a b : Bool) → a ≡ true → a || b ≡ true
    or_left true b e = refl
    or_left false b e = absurd cc

    or_right : (a b : Bool) → b ≡ true → a || b ≡ true
    or_right true b e = refl
    or_right false b e = e

    by_first : (ks js : List Keyword) (k : Keyword) (t : List Keyword) (ts : List (List Keyword)) → (list_any (are_among (ks ++ k ∷ js)) ts ≡ true → list_any (λ t. list_any (λ w. basic_number k == basic_number w) t) ts ≡ true) → (b : Bool) → are_among (ks ++ k ∷ js) t ≡ b → b || list_any (are_among (ks ++ k ∷ js)) ts ≡ true → list_any (λ w. basic_number k == basic_number w) t || list_any (λ t. list_any (λ w. basic_number k == basic_number w) t) ts ≡ true
    by_first ks js k t ts f true g e = or_left _ _ (among_each ks js k t g)
    by_first ks js k t ts f false g e = or_right (list_any (λ w. basic_number k == basic_number w) t) _ (f e)

in_some : (n : ℕ) (ks js : List Keyword) (k : Keyword) → is_one_type n (ks ++ k ∷ js) ≡ true → list_any (λ t. list_any (λ w. basic_number k == basic_number w) t) whole_types ≡ true
in_some zero [] js k e = any_has [] js k whole_types e
in_some zero (j ∷ ks) js k e = any_has (j ∷ ks) js k whole_types e
in_some (suc zero) [] js k e = absurd cc
in_some (suc zero) (j ∷ ks) js k e = absurd cc
in_some (suc (suc n)) ks js k e = absurd cc

type_word : (k : Keyword) → list_any (λ t. list_any (λ w. basic_number k == basic_number w) t) whole_types ≡ true → (w : TypeWord) × (word_sort k ≡ tokens.basic w) × (make.word_of k ≡ syntax.basic k)
type_word words.Auto e = absurd cc
type_word words.Break e = absurd cc
type_word words.Case e = absurd cc
type_word words.Char e = (tokens.char, refl, refl)
type_word words.Const e = absurd cc
type_word words.Continue e = absurd cc
type_word words.Default e = absurd cc
type_word words.Do e = absurd cc
type_word words.Double e = (tokens.double, refl, refl)
type_word words.Else e = absurd cc
type_word words.Enum e = absurd cc
type_word words.Extern e = absurd cc
type_word words.Float e = (tokens.float, refl, refl)
type_word words.For e = absurd cc
type_word words.Goto e = absurd cc
type_word words.If e = absurd cc
type_word words.Int e = (tokens.int, refl, refl)
type_word words.Long e = (tokens.long, refl, refl)
type_word words.Register e = absurd cc
type_word words.Return e = absurd cc
type_word words.Short e = (tokens.short, refl, refl)
type_word words.Signed e = (tokens.sign, refl, refl)
type_word words.Sizeof e = absurd cc
type_word words.Static e = absurd cc
type_word words.Struct e = absurd cc
type_word words.Switch e = absurd cc
type_word words.Typedef e = absurd cc
type_word words.Union e = absurd cc
type_word words.Unsigned e = (tokens.sign, refl, refl)
type_word words.Void e = (tokens.void, refl, refl)
type_word words.Volatile e = absurd cc
type_word words.While e = absurd cc

-- a word of one type is a word of a type
pub word_of_type : (n : ℕ) (ks js : List Keyword) (k : Keyword) → is_one_type n (ks ++ k ∷ js) ≡ true → (w : TypeWord) × (word_sort k ≡ tokens.basic w) × (make.word_of k ≡ syntax.basic k)
word_of_type n ks js k e = type_word k (in_some n ks js k e)
