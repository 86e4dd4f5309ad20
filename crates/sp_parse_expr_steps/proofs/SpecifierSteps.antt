-- Lists of specifiers, over plain variables.
use Rattle.std.proofs.Common.{◌≡◌, ◌≢◌, ℕ, ◌+◌, ◌≤◌, ◌==◌, Bool, true, false, List, [], ◌∷◌, ◌++◌, length, Some, None, inl, inr, refl, sym, ap, ◌∙◌, subst, arith}
use Rattle.std.specs.Prelude.{max, ◌&&◌, ◌||◌, ◌⊎◌, Option, option_map, if◌then◌else◌}
use Rattle.std.proofs.lemmas.Bool.{eqb-true}
use Rattle.sp_tree.specs.declared.token.Token.{Token}
use Rattle.sp_parse_trees.specs.Syntax as syntax
use Rattle.sp_parse_trees.specs.declared.tree.Specifier.{Specifier as CodeSpecifier}
use Rattle.sp_parse_trees.specs.View.{specifier_of, specifiers_of}
use Rattle.sp_parse_trees.specs.Depth.{specifier_depth, specifiers_depth}
use Rattle.sp_parse_tokens.specs.declared.part.SpecifierList.{SpecifierList}
use Rattle.sp_parse_tokens.specs.declared.part.ReadError.{ReadError}
use Rattle.sp_parse_tokens.specs.declared.scope.Scope.{Scope}
use Rattle.sp_parse_tokens.specs.declared.words.Words.{Words}
use Rattle.sp_parse_grammar.specs.CTokens as tokens
use Rattle.sp_parse_grammar.specs.CTokens.{Sort, Seen, view, is_mark, add, is_typed, whole_seen, nothing_seen}
use Rattle.sp_parse_grammar.specs.CTable as grammar
use Rattle.sp_parse_grammar.specs.CTable.{Context, at, c_symbols, plan, get, next, specifiers_plan}
use Rattle.sp_parse_grammar.specs.CTrees.{TokenOf}
use Rattle.sp_parse_grammar.specs.Table.{Plan, done, asked, open_take}
use Rattle.sp_parse_grammar.specs.Depth.{Nests}
use Rattle.sp_parse_tokens.specs.Sorts.{terminal, sort_of, c_tokens}
use Rattle.sp_parse_tokens.specs.SyntaxTrees.{syntax_trees, c_table}
use Rattle.sp_parse_tokens.specs.Depths.{c_depths, item_least}
use Rattle.sp_parse_tokens.specs.Depths as deep
use Rattle.sp_parse_tokens.specs.Makers.{SpecifierAt, all_specifiers, place_of_first, first_place, make_word}
use Rattle.sp_parse_tokens.specs.Ended.{IsEnded}
use Rattle.sp_parse_tokens.specs.Faults.{fault_there, is_empty}
use Rattle.sp_parse_tokens.proofs.Settled.{specifiers_snoc, word_depth}
use Rattle.sp_parse_tokens.specs.Codes.{seen_by}
use Rattle.sp_parse_tokens.specs.Scopes.{there, kind_for}
use Rattle.sp_parse_expr_steps.specs.Reading.{IsStop, IsStep}
use Rattle.sp_parse_tokens.specs.Expecting.{IsFaultFor}
use Rattle.sp_parse_expr_steps.specs.Declaring.{AreSpecified, IsSpecifier, IsSpecifierStop, placed, typeless}
use Rattle.sp_parse_expr_steps.proofs.Steps.{enter, took_token, got, last, finished, passed, unread}
use Rattle.sp_parse_expr_steps.proofs.Parts.{IsOn, chosen, stop_part}
use Rattle.sp_parse_tokens.proofs.Viewing.{ended_other}
use Rattle.sp_parse_expr_steps.proofs.ExpressionSteps.{built}
use Rattle.sp_parse_expr_steps.proofs.Faulting.{stop_at}
use Rattle.sp_parse_expr_steps.proofs.Lists.{SpecifiersSoFar}

abbrev pub specified : List SpecifierAt → Bool → grammar.Specified syntax_trees
specified all typedefs = record { all = all; typedefs = typedefs }

abbrev pub list_item : Bool → Seen → List SpecifierAt → Bool → grammar.Item syntax_trees
list_item stores seen all typedefs = grammar.specifiers stores seen (specified all typedefs)

-- ---- the words as the code has them

-- what `add` answers
pub added : (o : Option Words) (w : Words) (a : Option Seen) → o ≡ Some w → option_map (λ (v : Words). seen_by v.0) o ≡ a → a ≡ Some (seen_by w.0)
added o w a is same = sym same ∙ ap (λ v. option_map (λ (u : Words). seen_by u.0) v) is

pub not_added : (o : Option Words) (a : Option Seen) → ((w : Words) → o ≢ Some w) → option_map (λ (v : Words). seen_by v.0) o ≡ a → a ≡ None
not_added None a other same = sym same
not_added (Some w) a other same = absurd (other w refl)

both_true : (a b : Bool) → (a && b) ≡ true → (a ≡ true) × (b ≡ true)
both_true true true e = (refl, refl)
both_true true false e = absurd cc
both_true false b e = absurd cc

-- ---- at the end

module _ (g : Context) (stores : Bool) (seen : Seen) (all : List SpecifierAt) (typedefs : Bool) (x : TokenOf syntax_trees) (s : Sort) where
  ends_plan : (a : Option Seen) → a ≡ None → specifiers_plan {t = syntax_trees} g stores seen (specified all typedefs) x s a ≡ (if is_typed seen then Some (done (specified all typedefs)) else None)
  ends_plan None e = refl
  ends_plan (Some n) e = absurd cc

-- a list with a type in it has a first specifier
typed_some : (n : ℕ) (A B C D : Type 0) → is_typed (seen_by n) ≡ true → ((n ≡ 0) × A × B × C) ⊎ D → D
typed_some n A B C D is (inl h) =
    let wrong : is_typed (seen_by 0) ≡ true = subst (λ k. is_typed (seen_by k) ≡ true) h.0 is in
    absurd cc
typed_some n A B C D is (inr h) = h

-- the specifiers that were read, where a type is among them
pub specifiers_end : (g : Context) (stores : Bool) (seen : ℕ) (text rest xs : List Token) (x : Token) (items : List CodeSpecifier) (typedefs : Bool) (d n : ℕ) (ss : SpecifierList) → SpecifiersSoFar g stores text items typedefs seen rest → rest ≡ x ∷ xs → add stores g.inside (seen_by seen) (view g.types (sort_of x.kind)) ≡ None → is_typed (seen_by seen) ≡ true → ss.all.items ≡ items → ss.typedefs ≡ typedefs → n ≡ specifiers_depth (specifiers_of items) → n ≤ d → IsEnded rest → AreSpecified g stores d text ss n rest
specifiers_end g stores seen text rest xs x items typedefs d n ss t e none is all defs deep shallow ended =
    let i = list_item stores (seen_by seen) t.all typedefs in
    let q = done (specified t.all typedefs) in
    let on = enter t.step (ap c_tokens e) (chosen g i x (view g.types (sort_of x.kind)) (Some q) refl (ends_plan g stores (seen_by seen) t.all typedefs (terminal x) (view g.types (sort_of x.kind)) (add stores g.inside (seen_by seen) (view g.types (sort_of x.kind))) none ∙ ap (λ b. if b then Some q else None) is)) in
    let begins = typed_some seen (t.all ≡ []) (items ≡ []) (rest ≡ text) ((place_of_first t.all ≡ first_place text) × (1 + length rest ≤ length text) × (is_empty t.all ≡ false)) is t.begun in
    let less : 1 + length rest ≤ length text = begins.1 in
    record {
      all = t.all;
      same = ap (λ v. specifiers_of v) all ∙ t.same;
      place = begins.0;
      read = built g (list_item stores nothing_seen [] false) d n text rest (specified t.all typedefs) (specified t.all ss.typedefs) (finished on) (ap (λ v. specified t.all v) defs) (deep ∙ ap (λ v. specifiers_depth v) t.same) shallow ended (omega (arith, less));
      fewer = less;
    }

-- the same number of specifiers, so there is none in both or in neither
lists_empty : (items : List CodeSpecifier) (all : List SpecifierAt) → specifiers_of items ≡ all_specifiers all → is_empty items ≡ is_empty all
lists_empty [] [] e = refl
lists_empty [] (a ∷ bs) e = absurd cc
lists_empty (s ∷ ss) [] e = absurd cc
lists_empty (s ∷ ss) (a ∷ bs) e = refl

typeless_fault : (types : List ℕ) (scope : Scope) (stores : Bool) (seen : Seen) (all : List SpecifierAt) (typedefs b : Bool) (s : Sort) → b ≡ is_empty all → kind_for scope (typeless stores b) s ≡ fault_there (asked (at (there types scope) (list_item stores seen all typedefs))) s
typeless_fault types scope true seen [] typedefs true s e = refl
typeless_fault types scope true seen (a ∷ bs) typedefs false s e = refl
typeless_fault types scope false seen all typedefs true s e = refl
typeless_fault types scope false seen all typedefs false s e = refl
typeless_fault types scope true seen [] typedefs false s e = absurd cc
typeless_fault types scope true seen (a ∷ bs) typedefs true s e = absurd cc

-- no type is among them
pub specifiers_refused : (types : List ℕ) (scope : Scope) (stores : Bool) (seen : ℕ) (text rest xs : List Token) (x : Token) (items now : List CodeSpecifier) (typedefs : Bool) (d : ℕ) → SpecifiersSoFar (there types scope) stores text items typedefs seen rest → rest ≡ x ∷ xs → add stores scope.in_function (seen_by seen) (view types (sort_of x.kind)) ≡ None → is_typed (seen_by seen) ≡ false → now ≡ items → IsEnded rest → (s : ReadError) → IsFaultFor types scope (typeless stores (is_empty now)) rest s → IsStop (there types scope) (list_item stores nothing_seen [] false) d text s
specifiers_refused types scope stores seen text rest xs x items now typedefs d t e none other same ended s h =
    let g = there types scope in
    let i = list_item stores (seen_by seen) t.all typedefs in
    let empty : is_empty now ≡ is_empty t.all = ap (λ v. is_empty v) same ∙ lists_empty items t.all t.same in
    let fails = unread t.step (ap c_tokens e) (ends_plan g stores (seen_by seen) t.all typedefs (terminal x) (view types (sort_of x.kind)) (add stores scope.in_function (seen_by seen) (view types (sort_of x.kind))) none ∙ ap (λ b. if b then Some (done (specified t.all typedefs)) else None) other) in
    stop_at types scope (typeless stores (is_empty now)) (asked (at g i)) g (list_item stores nothing_seen [] false) d text rest fails (λ y. typeless_fault types scope stores (seen_by seen) t.all typedefs (is_empty now) (view types (sort_of y.kind)) empty) ended s h

-- ---- a structure passes the depth

struct_least : (a : Option Seen) (n : Seen) (k : ℕ) (s : Sort) → s ≡ tokens.mark tokens.struct → a ≡ Some n → deep.specifiers_least k s a ≡ max k 1
struct_least a n k s e f = ap (λ v. deep.specifiers_least k v a) e ∙ ap (λ v. deep.specifiers_least k (tokens.mark tokens.struct) v) f

pub struct_is : (s : Sort) → is_mark tokens.struct s ≡ true → s ≡ tokens.mark tokens.struct
struct_is (tokens.mark tokens.struct) e = refl
struct_is _ e = absurd cc

abbrev pub behind_one : (g : Context) (stores : Bool) (seen new : Seen) (all : List SpecifierAt) (typedefs : Bool) (r : SpecifierAt) → Plan (c_symbols syntax_trees) (at g (list_item stores seen all typedefs))
behind_one g stores seen new all typedefs r = get g (list_item stores new (all ++ r ∷ []) typedefs) (λ o. done o)

struct_plan : (g : Context) (stores : Bool) (seen new : Seen) (all : List SpecifierAt) (typedefs : Bool) (x : TokenOf syntax_trees) (a : Option Seen) → a ≡ Some new → specifiers_plan {t = syntax_trees} g stores seen (specified all typedefs) x (tokens.mark tokens.struct) a ≡ Some (next (λ y. get g (grammar.behind_struct x) (behind_one g stores seen (whole_seen seen) all typedefs)))
struct_plan g stores seen new all typedefs x (Some n) e = refl
struct_plan g stores seen new all typedefs x None e = absurd cc

enum_plan : (g : Context) (stores : Bool) (seen new : Seen) (all : List SpecifierAt) (typedefs : Bool) (x : TokenOf syntax_trees) (a : Option Seen) → a ≡ Some new → specifiers_plan {t = syntax_trees} g stores seen (specified all typedefs) x (tokens.mark tokens.enum) a ≡ Some (next (λ y. get g (grammar.behind_enum x) (behind_one g stores seen (whole_seen seen) all typedefs)))
enum_plan g stores seen new all typedefs x (Some n) e = refl
enum_plan g stores seen new all typedefs x None e = absurd cc

pub structure_deep : (g : Context) (stores : Bool) (seen : ℕ) (new : Seen) (text rest xs : List Token) (x : Token) (items : List CodeSpecifier) (typedefs : Bool) (d : ℕ) → SpecifiersSoFar g stores text items typedefs seen rest → rest ≡ x ∷ xs → add stores g.inside (seen_by seen) (view g.types (sort_of x.kind)) ≡ Some new → (is_mark tokens.struct (view g.types (sort_of x.kind)) && (d == 0)) ≡ true → Nests c_table c_depths (at g (list_item stores nothing_seen [] false)) d (c_tokens text) (c_tokens rest)
structure_deep g stores seen new text rest xs x items typedefs d t e adds stands =
    let s = view g.types (sort_of x.kind) in
    let both = both_true (is_mark tokens.struct s) (d == 0) stands in
    let is = struct_is s both.0 in
    let none : d ≡ 0 = eqb-true d 0 both.1 in
    let a = add stores g.inside (seen_by seen) s in
    let i = list_item stores (seen_by seen) t.all typedefs in
    let k = λ (y : TokenOf syntax_trees). get g (grammar.behind_struct (terminal x)) (behind_one g stores (seen_by seen) (whole_seen (seen_by seen)) t.all typedefs) in
    let p : plan g i (terminal x) s ≡ Some (next k) = ap (λ v. specifiers_plan g stores (seen_by seen) (specified t.all typedefs) (terminal x) v a) is ∙ struct_plan g stores (seen_by seen) new t.all typedefs (terminal x) a adds in
    let least : item_least g i s ≡ max (specifiers_depth (all_specifiers t.all)) 1 = struct_least a new (specifiers_depth (all_specifiers t.all)) s is adds in
    passed t.step (ap c_tokens e) (chosen g i x s (Some (next k)) refl p) (open_take refl) (omega (arith, least, none))

-- ---- one specifier more

all_more : (items : List CodeSpecifier) (all : List SpecifierAt) (s : CodeSpecifier) (a : SpecifierAt) → specifiers_of items ≡ all_specifiers all → specifier_of s ≡ a.tree → specifiers_of (items ++ s ∷ []) ≡ all_specifiers (all ++ a ∷ [])
all_more [] [] s a e same = ap (λ v. syntax.next_specifier v syntax.no_specifiers) same
all_more [] (b ∷ bs) s a e same = absurd cc
all_more (t ∷ ts) [] s a e same = absurd cc
all_more (t ∷ ts) (b ∷ bs) s a e same =
    let here : specifier_of t ≡ b.tree = cc in
    let later : specifiers_of ts ≡ all_specifiers bs = cc in
    let more = all_more ts bs s a later same in
    ap (λ v. syntax.next_specifier v (specifiers_of (ts ++ s ∷ []))) here ∙ ap (λ v. syntax.next_specifier b.tree v) more

place_kept : (all : List SpecifierAt) (a : SpecifierAt) → is_empty all ≡ false → place_of_first (all ++ a ∷ []) ≡ place_of_first all
place_kept [] a some = absurd cc
place_kept (b ∷ bs) a some = refl

some_more : (all : List SpecifierAt) (a : SpecifierAt) → is_empty (all ++ a ∷ []) ≡ false
some_more [] a = refl
some_more (b ∷ bs) a = refl

place_first : (all : List SpecifierAt) (a : SpecifierAt) → all ≡ [] → place_of_first (all ++ a ∷ []) ≡ a.place
place_first [] a e = refl
place_first (b ∷ bs) a e = absurd cc

or_false : (b : Bool) → b ≡ (b || false)
or_false true = refl
or_false false = refl

whole_new : (b : Bool) (w n : Seen) → (if b then None else Some w) ≡ Some n → w ≡ n
whole_new true w n e = absurd cc
whole_new false w n e = cc

-- the list with one specifier more
pub record OneMore (g : Context) (stores : Bool) (text : List Token) (all : List SpecifierAt) (typedefs : Bool) (new : Seen) (x : Token) (s : Sort) (sp : CodeSpecifier) (d n : ℕ) (xs rest : List Token) : Type 0 where
  pub step : IsStep g (list_item stores nothing_seen [] false) (list_item stores new (all ++ placed sp x ∷ []) (typedefs || is_mark tokens.typedef s)) (λ a. a) text rest
  pub deep : n ≡ specifier_depth (specifier_of sp)
  pub shallow : n ≤ d
  pub ended : IsEnded rest
  pub fewer : length rest ≤ length xs

module _ (g : Context) (stores : Bool) (text rest xs : List Token) (x : Token) (all : List SpecifierAt) (typedefs : Bool) (seen new : Seen) (sp : CodeSpecifier) (d n : ℕ) (later : List Token) (step : IsStep g (list_item stores nothing_seen [] false) (list_item stores seen all typedefs) (λ a. a) text rest) (e : rest ≡ x ∷ xs) (ended : IsEnded rest) where
  chosen_on : (s : Sort) → s ≡ view g.types (sort_of x.kind) → (k : TokenOf syntax_trees → Plan (c_symbols syntax_trees) (at g (list_item stores seen all typedefs))) → plan g (list_item stores seen all typedefs) (terminal x) s ≡ Some (next k) → IsOn g g (list_item stores nothing_seen [] false) (list_item stores seen all typedefs) (λ a. a) (k (terminal x)) text xs
  chosen_on s is k p = took_token (enter step (ap c_tokens e) (chosen g (list_item stores seen all typedefs) x s (Some (next k)) is p)) (ap c_tokens e) refl

  ended_behind : (s : Sort) → s ≡ view g.types (sort_of x.kind) → s ≢ tokens.mark tokens.end → IsEnded xs
  ended_behind s is other = ended_other x xs (subst IsEnded e ended) (λ same. other (is ∙ ap (λ v. view g.types v) same))

  -- a word
  abbrev behind_word : (s : Sort) → Plan (c_symbols syntax_trees) (at g (list_item stores seen all typedefs))
  behind_word s = get g (list_item stores new (all ++ make_word x ∷ []) (typedefs || is_mark tokens.typedef s)) (λ o. done o)

  word_more : (s : Sort) → s ≡ view g.types (sort_of x.kind) → s ≢ tokens.mark tokens.end → plan g (list_item stores seen all typedefs) (terminal x) s ≡ Some (next (λ y. behind_word s)) → (placed sp x ≡ make_word x) × (n ≡ 0) × (later ≡ xs) → OneMore g stores text all typedefs new x s sp d n xs later
  word_more s is other p h =
      let words = last (chosen_on s is (λ y. behind_word s) p) in
      let tree : specifier_of sp ≡ (make_word x).tree = ap (λ (v : SpecifierAt). v.tree) h.0 in
      let none : specifier_depth (specifier_of sp) ≡ 0 = ap (λ v. specifier_depth v) tree ∙ word_depth x.kind in
      let same : later ≡ xs = h.2 in
      let zero_deep : n ≡ 0 = h.1 in
      record {
        step = subst (λ v. IsStep g (list_item stores nothing_seen [] false) (list_item stores new (all ++ v ∷ []) (typedefs || is_mark tokens.typedef s)) (λ a. a) text later) (sym h.0) (subst (λ v. IsStep g (list_item stores nothing_seen [] false) (list_item stores new (all ++ make_word x ∷ []) (typedefs || is_mark tokens.typedef s)) (λ a. a) text v) (sym same) words);
        deep = zero_deep ∙ sym none;
        shallow = omega (arith, zero_deep);
        ended = subst IsEnded (sym same) (ended_behind s is other);
        fewer = omega (arith, ap length same);
      }

  -- a structure or an enumeration
  part_more : (s : Sort) → s ≡ view g.types (sort_of x.kind) → s ≢ tokens.mark tokens.end → (typedefs || is_mark tokens.typedef s) ≡ typedefs → whole_seen seen ≡ new → IsStep g (list_item stores nothing_seen [] false) (list_item stores (whole_seen seen) (all ++ placed sp x ∷ []) typedefs) (λ a. a) text later → n ≡ specifier_depth (specifier_of sp) → n ≤ d → IsEnded later → 1 + length later ≤ length xs → OneMore g stores text all typedefs new x s sp d n xs later
  part_more s is other plain whole part deep shallow ended_there fewer = record {
    step = subst (λ v. IsStep g (list_item stores nothing_seen [] false) (list_item stores new (all ++ placed sp x ∷ []) v) (λ a. a) text later) (sym plain) (subst (λ v. IsStep g (list_item stores nothing_seen [] false) (list_item stores v (all ++ placed sp x ∷ []) typedefs) (λ a. a) text later) whole part);
    deep = deep;
    shallow = shallow;
    ended = ended_there;
    fewer = omega (arith, fewer);
  }

  struct_on : tokens.mark tokens.struct ≡ view g.types (sort_of x.kind) → add stores g.inside seen (tokens.mark tokens.struct) ≡ Some new → IsOn g g (list_item stores nothing_seen [] false) (list_item stores seen all typedefs) (λ a. a) (get g (grammar.behind_struct (terminal x)) (behind_one g stores seen (whole_seen seen) all typedefs)) text xs
  struct_on is adds = chosen_on (tokens.mark tokens.struct) is (λ y. get g (grammar.behind_struct (terminal x)) (behind_one g stores seen (whole_seen seen) all typedefs)) (struct_plan g stores seen new all typedefs (terminal x) (add stores g.inside seen (tokens.mark tokens.struct)) adds)

  enum_on : tokens.mark tokens.enum ≡ view g.types (sort_of x.kind) → add stores g.inside seen (tokens.mark tokens.enum) ≡ Some new → IsOn g g (list_item stores nothing_seen [] false) (list_item stores seen all typedefs) (λ a. a) (get g (grammar.behind_enum (terminal x)) (behind_one g stores seen (whole_seen seen) all typedefs)) text xs
  enum_on is adds = chosen_on (tokens.mark tokens.enum) is (λ y. get g (grammar.behind_enum (terminal x)) (behind_one g stores seen (whole_seen seen) all typedefs)) (enum_plan g stores seen new all typedefs (terminal x) (add stores g.inside seen (tokens.mark tokens.enum)) adds)

  mark_more : (m : tokens.Mark) → tokens.mark m ≡ view g.types (sort_of x.kind) → add stores g.inside seen (tokens.mark m) ≡ Some new → IsSpecifier g d (tokens.mark m) x xs sp n later → OneMore g stores text all typedefs new x (tokens.mark m) sp d n xs later
  mark_more tokens.struct is adds h = part_more (tokens.mark tokens.struct) is (λ e. cc) (sym (or_false typedefs)) (whole_new (is_typed seen) (whole_seen seen) new adds) (last (got (struct_on is adds) h.reads)) h.deep h.shallow h.ended h.fewer
  mark_more tokens.enum is adds h = part_more (tokens.mark tokens.enum) is (λ e. cc) (sym (or_false typedefs)) (whole_new (is_typed seen) (whole_seen seen) new adds) (last (got (enum_on is adds) h.reads)) h.deep h.shallow h.ended h.fewer
  mark_more tokens.typedef is adds h = word_more (tokens.mark tokens.typedef) is (λ e. cc) (ap (λ a. specifiers_plan g stores seen (specified all typedefs) (terminal x) (tokens.mark tokens.typedef) a) adds) h
  mark_more _ is adds h = absurd cc

  pub one_more : (s : Sort) → s ≡ view g.types (sort_of x.kind) → add stores g.inside seen s ≡ Some new → IsSpecifier g d s x xs sp n later → OneMore g stores text all typedefs new x s sp d n xs later
  one_more (tokens.mark m) is adds h = mark_more m is adds h
  one_more (tokens.named_type m) is adds h = word_more (tokens.named_type m) is (λ e. cc) (ap (λ a. specifiers_plan g stores seen (specified all typedefs) (terminal x) (tokens.named_type m) a) adds) h
  one_more tokens.storage is adds h = word_more tokens.storage is (λ e. cc) (ap (λ a. specifiers_plan g stores seen (specified all typedefs) (terminal x) tokens.storage a) adds) h
  one_more tokens.qualifier is adds h = word_more tokens.qualifier is (λ e. cc) (ap (λ a. specifiers_plan g stores seen (specified all typedefs) (terminal x) tokens.qualifier a) adds) h
  one_more (tokens.basic w) is adds h = word_more (tokens.basic w) is (λ e. cc) (ap (λ a. specifiers_plan g stores seen (specified all typedefs) (terminal x) (tokens.basic w) a) adds) h
  one_more _ is adds h = absurd cc

  -- where a structure or an enumeration ends
  pub specifier_stop : (s : Sort) → s ≡ view g.types (sort_of x.kind) → add stores g.inside seen s ≡ Some new → (stop : ReadError) → IsSpecifierStop g d s x xs stop → IsStop g (list_item stores nothing_seen [] false) d text stop
  specifier_stop (tokens.mark tokens.struct) is adds stop h = stop_part g g g (list_item stores nothing_seen [] false) (list_item stores seen all typedefs) (grammar.behind_struct (terminal x)) (λ a. a) (behind_one g stores seen (whole_seen seen) all typedefs) d d text xs (struct_on is adds) (omega arith) stop h
  specifier_stop (tokens.mark tokens.enum) is adds stop h = stop_part g g g (list_item stores nothing_seen [] false) (list_item stores seen all typedefs) (grammar.behind_enum (terminal x)) (λ a. a) (behind_one g stores seen (whole_seen seen) all typedefs) d d text xs (enum_on is adds) (omega arith) stop h
  specifier_stop _ is adds stop h = absurd h

-- what was read so far, with one specifier more
pub specifiers_more : (g : Context) (stores : Bool) (seen : ℕ) (more : Words) (text rest xs later : List Token) (x : Token) (s : Sort) (items now : List CodeSpecifier) (sp : CodeSpecifier) (typedefs : Bool) (d n : ℕ) (t : SpecifiersSoFar g stores text items typedefs seen rest) → rest ≡ x ∷ xs → length rest ≤ length text → now ≡ items ++ sp ∷ [] → OneMore g stores text t.all typedefs (seen_by more.0) x s sp d n xs later → SpecifiersSoFar g stores text now (typedefs || is_mark tokens.typedef s) more.0 later
specifiers_more g stores seen more text rest xs later x s items now sp typedefs d n t e fewer same h =
    let all = t.all ++ placed sp x ∷ [] in
    let less : length rest ≡ length (x ∷ xs) = ap length e in
    let shorter : length later ≤ length xs = h.fewer in
    let first : (((seen ≡ 0) × (t.all ≡ []) × (items ≡ []) × (rest ≡ text)) ⊎ ((place_of_first t.all ≡ first_place text) × (1 + length rest ≤ length text) × (is_empty t.all ≡ false))) → place_of_first all ≡ first_place text = λ v. elim v [
      | inl w ↦ place_first t.all (placed sp x) w.1 ∙ ap (λ u. first_place u) (sym e ∙ w.3)
      | inr w ↦ place_kept t.all (placed sp x) w.2 ∙ w.0
    ] in
    record {
      all = all;
      same = ap (λ v. specifiers_of v) same ∙ all_more items t.all sp (placed sp x) t.same refl;
      begun = inr (first t.begun, omega (arith, less, shorter, fewer), some_more t.all (placed sp x));
      step = h.step;
    }

pub specifiers_more_deep : (items now : List CodeSpecifier) (all : List SpecifierAt) (sp : CodeSpecifier) (x : Token) (m n k : ℕ) → now ≡ items ++ sp ∷ [] → specifiers_of items ≡ all_specifiers all → m ≡ specifiers_depth (specifiers_of items) → n ≡ specifier_depth (specifier_of sp) → k ≡ max m n → k ≡ specifiers_depth (specifiers_of now)
specifiers_more_deep items now all sp x m n k same is deep one both =
    let here : specifiers_depth (specifiers_of now) ≡ specifiers_depth (all_specifiers (all ++ placed sp x ∷ [])) = ap (λ v. specifiers_depth v) (ap (λ v. specifiers_of v) same ∙ all_more items all sp (placed sp x) is refl) in
    let old : m ≡ specifiers_depth (all_specifiers all) = deep ∙ ap (λ v. specifiers_depth v) is in
    omega (arith, here, specifiers_snoc all (placed sp x), old, one, both)

-- ---- one specifier
