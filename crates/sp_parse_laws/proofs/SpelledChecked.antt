-- Each production of C90's grammar spells what it reads: expressions, types and declarations.
use Rattle.std.proofs.Common.{◌≡◌, ℕ, zero, suc, Bool, true, false, List, [], ◌∷◌, ◌++◌, map, Option, Some, None, refl, sym, ap, ◌∙◌, subst, arith, eqb-true}
use Rattle.std.specs.Prelude.{if◌then◌else◌, is_some, ◌||◌, ◌&&◌, not}
use Rattle.std.proofs.lemmas.List.{append_assoc, append-nil}
use Rattle.sp_tree.specs.declared.fault.Place.{Place}
use Rattle.sp_tree.specs.declared.token.Keyword.TheVariants as words
use Rattle.sp_tree.specs.declared.fault.Place.{Place}
use Rattle.sp_tree.specs.declared.token.Keyword.TheVariants as words
use Rattle.sp_tree.specs.declared.token.Kind.TheVariants as kinds
use Rattle.sp_tree.specs.declared.token.Punct.{Punct}
use Rattle.sp_tree.specs.declared.token.Punct.{Punct}
use Rattle.sp_tree.specs.declared.token.Punct.TheVariants as puncts
use Rattle.sp_parse_trees.specs.Syntax.{Expression, Declarator, Declaration}
use Rattle.sp_parse_trees.specs.Levels.{declared_name}
use Rattle.sp_parse_grammar.specs.CTokens as tokens
use Rattle.sp_parse_grammar.specs.CTokens.{Sort, Seen, view as viewed, add, is_mark, looseness, is_specifier, is_typed, whole_seen}
use Rattle.sp_parse_grammar.specs.CTable as grammar
use Rattle.sp_parse_grammar.specs.CTable.{Context, Operand, Specified, Declared, Ask, at, unit, whole, c_symbols, plan, operator_plan, stands_behind, specifiers_plan, begins_expression}
use Rattle.sp_parse_grammar.specs.Table.{Plan}
use Rattle.sp_parse_grammar.specs.Kept.{KeepsFrom, KeptAt}
use Rattle.sp_parse_tokens.specs.Makers as make
use Rattle.sp_parse_tokens.specs.Sorts.{Terminal}
use Rattle.sp_parse_tokens.specs.SyntaxTrees.{syntax_trees}
use Rattle.sp_parse_tokens.specs.Depths.{Part}
use Rattle.sp_parse_laws.proofs.TokenKinds.{at_sort, at_viewed, at_mark, at_name}
use Rattle.sp_parse_laws.proofs.Spelling as s
use Rattle.sp_parse_laws.proofs.Spelling.{SE, HasSome, AllTexts}
use Rattle.sp_parse_laws.proofs.SpellingLists as lists
use Rattle.sp_parse_laws.proofs.SpellingLists.{SSpecs}
use Rattle.sp_parse_laws.proofs.SpellingLists.{SSpecs}
use Rattle.sp_parse_laws.proofs.SpellingParts as parts
use Rattle.sp_parse_laws.proofs.SpellingDeclarators as d
use Rattle.sp_parse_laws.proofs.SpelledAnswers.{SpelledItem, SpelledAnswer, SSpecifiers, SoFar, none_yet, some_yet, Names}

-- what is checked of a production that was chosen by a token of this sort
abbrev pub Kept : (g : Context) (i : Part) (x : Terminal) → Option (Plan (c_symbols syntax_trees) (at g i)) → Type 0
Kept g i x o = KeptAt SpelledAnswer (at g i) x o

abbrev pub Item : (g : Context) (i : Part) (x : Terminal) (s : Sort) → Type 0
Item g i x s = viewed g.types x.sort ≡ s → Kept g i x (plan g i x s)

pub kept_if : (g : Context) (i : Part) (x : Terminal) (b : Bool) (p q : Option (Plan (c_symbols syntax_trees) (at g i))) → (b ≡ true → Kept g i x p) → (b ≡ false → Kept g i x q) → Kept g i x (if b then p else q)
kept_if g i x true p q first second = first refl
kept_if g i x false p q first second = second refl

-- behind what was read before
pub on : (us : List Terminal) (e : Expression) → SE us e → SE (us ++ []) e
on us e s = subst (λ v. SE v e) (sym (append-nil us)) s

further : (us vs ws : List Terminal) (e : Expression) → SE ((us ++ vs) ++ ws) e → SE (us ++ (vs ++ ws)) e
further us vs ws e s = subst (λ v. SE v e) (append_assoc us vs ws) s

-- ---- expressions

pub level_kept : (g : Context) (k : ℕ) (x : Terminal) (t : Sort) → Item g (grammar.level k) x t
level_kept g zero x t v = kept_if _ _ x (is_mark tokens.opening t) _ _
    (λ b taken ws o p h. p (at_viewed g.types x tokens.opening t v b))
    (λ b ws e p h. p)
level_kept g (suc k) x t v = λ ws l p vs o q h. q (omega arith) h ws (p (omega arith))

pub binary_kept : (g : Context) (k : ℕ) (l : Operand syntax_trees) (x : Terminal) (p : Punct) → x.what.kind ≡ kinds.Mark p
    → KeepsFrom {S = c_symbols syntax_trees} SpelledAnswer x (operator_plan g k l x (tokens.binary 0))
binary_kept g k l x p mark = λ taken vs r q ws o rest low high us left. further us (x ∷ vs) ws o.tree (rest low high (us ++ x ∷ vs) (s.binary_spelled us x vs l.tree r.tree p left mark (q (omega arith))))

pub operator_kept : (g : Context) (k : ℕ) (l : Operand syntax_trees) (x : Terminal) (t : Sort) → viewed g.types x.sort ≡ t → stands_behind k l.unary t ≡ true → KeepsFrom {S = c_symbols syntax_trees} SpelledAnswer x (operator_plan g k l x t)
operator_kept g k l x (tokens.mark tokens.question) v b = λ taken vs a p z tz ws e q low high us left.
    subst (λ w. SE (us ++ x ∷ w) (syntax_trees.choice x l.tree a.tree e.tree)) (sym (append_assoc vs (z ∷ []) ws)) (s.choice_spelled us x vs z ws l.tree a.tree e.tree left (at_sort g.types x (tokens.mark tokens.question) v) (p (omega arith)) (at_mark tokens.colon z tz) (q (omega arith)))
operator_kept g k l x (tokens.mark tokens.comma) v b = λ taken vs r q ws o rest low high us left. further us (x ∷ vs) ws o.tree (rest low high (us ++ x ∷ vs) (s.comma_spelled us x vs l.tree r.tree left (at_sort g.types x (tokens.mark tokens.comma) v) (q (omega arith))))
operator_kept g k l x (tokens.mark tokens.equal) v b = λ taken vs r q low high us left. s.assign_spelled us x vs l.tree r.tree puncts.Assign left (at_sort g.types x (tokens.mark tokens.equal) v) (q (omega arith))
operator_kept g k l x tokens.assigning v b = λ taken vs r q low high us left. let o = at_sort g.types x tokens.assigning v in s.assign_spelled us x vs l.tree r.tree o.0 left o.1 (q (omega arith))
operator_kept g k l x (tokens.mark tokens.star) v b = binary_kept g k l x puncts.Star (at_sort g.types x (tokens.mark tokens.star) v)
operator_kept g k l x (tokens.mark tokens.ampersand) v b = binary_kept g k l x puncts.Ampersand (at_sort g.types x (tokens.mark tokens.ampersand) v)
operator_kept g k l x (tokens.mark tokens.additive) v b = let o = at_sort g.types x (tokens.mark tokens.additive) v in binary_kept g k l x o.0 o.1
operator_kept g k l x (tokens.binary j) v b = let o = at_sort g.types x (tokens.binary j) v in binary_kept g k l x o.0 o.1
operator_kept g k l x t v b = λ taken vs r q ws o rest low high us left. let e : looseness t ≡ k = eqb-true (looseness t) k b in absurd (omega arith)

pub unary_kept : (g : Context) (x : Terminal) (t : Sort) → Item g grammar.unary x t
unary_kept g x (tokens.mark tokens.step) v = λ taken ws e p. let o = at_sort g.types x (tokens.mark tokens.step) v in s.prefix_spelled x ws e o.0 o.1 p
unary_kept g x (tokens.mark tokens.star) v = λ taken ws o p. s.prefix_spelled x ws o.tree puncts.Star (at_sort g.types x (tokens.mark tokens.star) v) (p (omega arith))
unary_kept g x (tokens.mark tokens.ampersand) v = λ taken ws o p. s.prefix_spelled x ws o.tree puncts.Ampersand (at_sort g.types x (tokens.mark tokens.ampersand) v) (p (omega arith))
unary_kept g x (tokens.mark tokens.additive) v = λ taken ws o p. let k = at_sort g.types x (tokens.mark tokens.additive) v in s.prefix_spelled x ws o.tree k.0 k.1 (p (omega arith))
unary_kept g x (tokens.mark tokens.tilde) v = λ taken ws o p. let k = at_sort g.types x (tokens.mark tokens.tilde) v in s.prefix_spelled x ws o.tree k.0 k.1 (p (omega arith))
unary_kept g x (tokens.mark tokens.sizeof) v = λ taken ws e p. p (at_sort g.types x (tokens.mark tokens.sizeof) v)
unary_kept g x _ v = λ ws e p vs f q. q ws p

pub primary_kept : (g : Context) (x : Terminal) (t : Sort) → Item g grammar.primary x t
primary_kept g x (tokens.name n) v = λ taken. s.name_spelled x n (at_sort g.types x (tokens.name n) v).0
primary_kept g x tokens.constant v = λ taken. s.constant_spelled x (at_sort g.types x tokens.constant v)
primary_kept g x tokens.text v = λ taken ws ys p. subst (λ zs. SE (x ∷ ws) (make.make_texts (map (λ y. y.what) zs))) (sym p.0) (s.texts_spelled x ws (at_sort g.types x tokens.text v, p.1))
primary_kept g x (tokens.mark tokens.opening) v = λ taken vs o p z tz. s.paren_spelled x vs z o.tree (at_sort g.types x (tokens.mark tokens.opening) v) (p (omega arith)) (at_mark tokens.closing z tz)
primary_kept g x _ v = tt

pub texts_kept : (g : Context) (xs : List Terminal) (x : Terminal) (t : Sort) → Item g (grammar.texts xs) x t
texts_kept g xs x tokens.text v = λ taken ws ys p. (p.0 ∙ append_assoc xs (x ∷ []) ws, (at_sort g.types x tokens.text v, p.1))
texts_kept g xs x _ v = (sym (append-nil xs), tt)

pub suffixes_kept : (g : Context) (f : Expression) (x : Terminal) (t : Sort) → Item g (grammar.suffixes f) x t
suffixes_kept g f x (tokens.mark tokens.bracket) v = λ taken vs o p z tz ws e q us left.
    further us (x ∷ (vs ++ z ∷ [])) ws e (q (us ++ x ∷ (vs ++ z ∷ [])) (s.index_spelled us x vs z f o.tree left (at_sort g.types x (tokens.mark tokens.bracket) v) (p (omega arith)) (at_mark tokens.unbracket z tz)))
suffixes_kept g f x (tokens.mark tokens.opening) v = λ taken vs es p z tz ws e q us left.
    further us (x ∷ (vs ++ z ∷ [])) ws e (q (us ++ x ∷ (vs ++ z ∷ [])) (s.call_spelled us x vs z f es left (at_sort g.types x (tokens.mark tokens.opening) v) p (at_mark tokens.closing z tz)))
suffixes_kept g f x (tokens.mark tokens.member) v = λ taken z tz ws e q us left.
    let n = at_name z tz in
    further us (x ∷ z ∷ []) ws e (q (us ++ x ∷ z ∷ []) (s.member_spelled us x z f n.0 left (at_sort g.types x (tokens.mark tokens.member) v) n.1))
suffixes_kept g f x (tokens.mark tokens.step) v = λ taken ws e q us left.
    let k = at_sort g.types x (tokens.mark tokens.step) v in
    further us (x ∷ []) ws e (q (us ++ x ∷ []) (s.after_spelled us x f k.0 left k.1))
suffixes_kept g f x _ v = λ us left. on us f left

-- ---- specifiers

none_spelled : SSpecs [] []
none_spelled = lists.specs_none

some_more : (ss : List make.SpecifierAt) (r : make.SpecifierAt) → HasSome (ss ++ r ∷ [])
some_more [] r = tt
some_more (x ∷ xs) r = tt

pub first_kept : (spots : ℕ → Place) (ss : List make.SpecifierAt) (r : make.SpecifierAt) → HasSome ss → d.FirstAt spots ss → d.FirstAt spots (ss ++ r ∷ [])
first_kept spots [] r h f = elim h [ ]
first_kept spots (x ∷ xs) r h f = f

-- one specifier more
one_more : (us vs : List Terminal) (ss : List make.SpecifierAt) (r : make.SpecifierAt) (x : Terminal) → SoFar us ss → parts.SSpec (x ∷ vs) r → r.place ≡ x.what.place → SSpecifiers (us ++ x ∷ vs) (ss ++ r ∷ [])
one_more us vs ss r x none_yet w first = record {
  all = lists.specs_more [] (x ∷ vs) [] r none_spelled w;
  some = tt;
  first = λ at h. first ∙ h.0;
}
one_more us vs ss r x (some_yet l) w first = record {
  all = lists.specs_more us (x ∷ vs) ss r l.all w;
  some = some_more ss r;
  first = λ at h. first_kept at ss r l.some (l.first at (s.split at us (x ∷ vs) h).0);
}

onward : (us vs ws : List Terminal) (ss : List make.SpecifierAt) → SSpecifiers ((us ++ vs) ++ ws) ss → SSpecifiers (us ++ (vs ++ ws)) ss
onward us vs ws ss r = subst (λ v. SSpecifiers v ss) (append_assoc us vs ws) r

ended : (us : List Terminal) (ss : List make.SpecifierAt) → HasSome ss → SoFar us ss → SSpecifiers (us ++ []) ss
ended us ss h none_yet = elim h [ ]
ended us ss h (some_yet r) = subst (λ v. SSpecifiers v ss) (sym (append-nil us)) r

-- a word, which this is
word_more : (g : Context) (stores : Bool) (seen new : Seen) (sp : Specified syntax_trees) (x : Terminal) (t : Sort) → parts.SSpec (x ∷ []) (make.make_word x.what)
    → (ws : List Terminal) (o : Specified syntax_trees) → SpelledItem (grammar.specifiers stores new (record { all = sp.all ++ make.make_word x.what ∷ []; typedefs = sp.typedefs || is_mark tokens.typedef t })) ws o → SpelledItem (grammar.specifiers stores seen sp) (x ∷ ws) o
word_more g stores seen new sp x t w ws o rest = λ us left some. onward us (x ∷ []) ws o.all (rest (us ++ x ∷ []) (some_yet (one_more us [] sp.all (make.make_word x.what) x left w refl)) (λ e. some_more sp.all (make.make_word x.what)))

pub specifiers_kept : (g : Context) (stores : Bool) (seen : Seen) (sp : Specified syntax_trees) (x : Terminal) (t : Sort) (o : Option Seen) → viewed g.types x.sort ≡ t → add stores g.inside seen t ≡ o → Kept g (grammar.specifiers stores seen sp) x (specifiers_plan g stores seen sp x t o)
specifiers_kept g stores seen sp x t None v e = kept_if _ _ x (is_typed seen) _ _ (λ b us left some. ended us sp.all (some b) left) (λ b. tt)
specifiers_kept g stores seen sp x (tokens.mark tokens.struct) (Some new) v e = λ taken vs r p ws o rest us left some.
    let w = p (at_sort g.types x (tokens.mark tokens.struct) v) in
    onward us (x ∷ vs) ws o.all (rest (us ++ x ∷ vs) (some_yet (one_more us vs sp.all r x left w.0 w.1)) (λ e. some_more sp.all r))
specifiers_kept g stores seen sp x (tokens.mark tokens.enum) (Some new) v e = λ taken vs r p ws o rest us left some.
    let w = p (at_sort g.types x (tokens.mark tokens.enum) v) in
    onward us (x ∷ vs) ws o.all (rest (us ++ x ∷ vs) (some_yet (one_more us vs sp.all r x left w.0 w.1)) (λ e. some_more sp.all r))
specifiers_kept g stores seen sp x tokens.storage (Some new) v e = λ taken ws o rest. let k = at_sort g.types x tokens.storage v in word_more g stores seen new sp x tokens.storage (parts.word_spelled x k.0 k.1) ws o rest
specifiers_kept g stores seen sp x tokens.qualifier (Some new) v e = λ taken ws o rest. let k = at_sort g.types x tokens.qualifier v in word_more g stores seen new sp x tokens.qualifier (parts.word_spelled x k.0 k.1) ws o rest
specifiers_kept g stores seen sp x (tokens.basic w) (Some new) v e = λ taken ws o rest. let k = at_sort g.types x (tokens.basic w) v in word_more g stores seen new sp x (tokens.basic w) (parts.word_spelled x k.0 k.1) ws o rest
specifiers_kept g stores seen sp x (tokens.named_type n) (Some new) v e = λ taken ws o rest. let k = at_sort g.types x (tokens.named_type n) v in word_more g stores seen new sp x (tokens.named_type n) (parts.named_spelled x n k.0) ws o rest
specifiers_kept g stores seen sp x (tokens.mark tokens.typedef) (Some new) v e = λ taken ws o rest. word_more g stores seen new sp x (tokens.mark tokens.typedef) (parts.word_spelled x words.Typedef (at_sort g.types x (tokens.mark tokens.typedef) v)) ws o rest
specifiers_kept g stores seen sp x _ (Some new) v e = absurd cc

-- ---- structures and enumerations

body_of : (g : Context) (y x : Terminal) (t : Sort) → viewed g.types x.sort ≡ t → is_mark tokens.brace t ≡ true → x.what.kind ≡ kinds.Mark puncts.LeftBrace
body_of g y x t v b = at_viewed g.types x tokens.brace t v b

-- the declarations of members between braces
between : (ms rest : List Terminal) (m : Declaration) (ds : List Declaration) → d.SDeclaration ms m → ((us : List Terminal) → lists.SDeclarations us (m ∷ []) → lists.SDeclarations (us ++ rest) ds) → lists.SDeclarations (ms ++ rest) ds
between ms rest m ds one more = more ms (lists.declarations_more [] ms [] m lists.declarations_none one)

pub behind_struct_kept : (g : Context) (y : Terminal) (x : Terminal) (t : Sort) → Item g (grammar.behind_struct y) x t
behind_struct_kept g y x (tokens.mark tokens.brace) v = λ taken ms m p rest ds q w tw k. (parts.body_spelled y x (ms ++ rest) w ds k (at_sort g.types x (tokens.mark tokens.brace) v) (between ms rest m ds p q) (at_mark tokens.unbrace w tw), refl)
behind_struct_kept g y x (tokens.name n) v = λ taken ws r p k. p k (n, (at_sort g.types x (tokens.name n) v).0)
behind_struct_kept g y x (tokens.named_type n) v = λ taken ws r p k. p k (n, (at_sort g.types x (tokens.named_type n) v).0)
behind_struct_kept g y x _ v = tt

pub struct_body_kept : (g : Context) (y z : Terminal) (x : Terminal) (t : Sort) → Item g (grammar.struct_body y z) x t
struct_body_kept g y z x t v = kept_if _ _ x (is_mark tokens.brace t) _ _
    (λ b taken ms m p rest ds q w tw k n. (parts.tagged_body_spelled y z x (ms ++ rest) w ds n.0 k n.1 (body_of g y x t v b) (between ms rest m ds p q) (at_mark tokens.unbrace w tw), refl))
    (λ b k n. (parts.tagged_spelled y z n.0 k n.1, refl))

enumerated : (ms rest : List Terminal) (e : make.Enumerator) (es : List make.Enumerator) → parts.SEnumerator ms e → ((us : List Terminal) → HasSome (e ∷ []) → parts.SEnumerators us (e ∷ []) → parts.SEnumerators (us ++ rest) es) → parts.SEnumerators (ms ++ rest) es
enumerated ms rest e es one more = more ms tt (parts.enumerators_one ms e one)

pub behind_enum_kept : (g : Context) (y : Terminal) (x : Terminal) (t : Sort) → Item g (grammar.behind_enum y) x t
behind_enum_kept g y x (tokens.mark tokens.brace) v = λ taken ms m p rest es q w tw k. (parts.enum_body_spelled y x (ms ++ rest) w es k (at_sort g.types x (tokens.mark tokens.brace) v) (enumerated ms rest m es p q) (at_mark tokens.unbrace w tw), refl)
behind_enum_kept g y x (tokens.name n) v = λ taken ws r p k. p k (n, (at_sort g.types x (tokens.name n) v).0)
behind_enum_kept g y x (tokens.named_type n) v = λ taken ws r p k. p k (n, (at_sort g.types x (tokens.named_type n) v).0)
behind_enum_kept g y x _ v = tt

pub enum_body_kept : (g : Context) (y z : Terminal) (x : Terminal) (t : Sort) → Item g (grammar.enum_body y z) x t
enum_body_kept g y z x t v = kept_if _ _ x (is_mark tokens.brace t) _ _
    (λ b taken ms m p rest es q w tw k n. (parts.enum_tagged_body_spelled y z x (ms ++ rest) w es n.0 k n.1 (body_of g y x t v b) (enumerated ms rest m es p q) (at_mark tokens.unbrace w tw), refl))
    (λ b k n. (parts.enum_tagged_spelled y z n.0 k n.1, refl))

pub enumerator_kept : (g : Context) (x : Terminal) (t : Sort) → Item g grammar.enumerator x t
enumerator_kept g x (tokens.name n) v = λ taken ws o p. parts.enumerator_spelled x ws n o (at_sort g.types x (tokens.name n) v).0 p
enumerator_kept g x _ v = tt

-- ---- declarators

pub qualifiers_kept : (g : Context) (xs : List Terminal) (x : Terminal) (t : Sort) → Item g (grammar.qualifiers xs) x t
qualifiers_kept g xs x tokens.qualifier v = λ taken ws ys p. (p.0 ∙ append_assoc xs (x ∷ []) ws, (at_sort g.types x tokens.qualifier v, p.1))
qualifiers_kept g xs x _ v = (sym (append-nil xs), tt)

pointed_at : (f : grammar.Form) (x : Terminal) (qs vs : List Terminal) (ys : List Terminal) (e : Declared syntax_trees) → x.what.kind ≡ kinds.Mark puncts.Star → (ys ≡ [] ++ qs) × d.AllQualifiers qs → d.SD vs e.tree × Names f e.tree
    → d.SD (x ∷ (qs ++ vs)) (syntax_trees.pointer x ys e.tree) × Names f (syntax_trees.pointer x ys e.tree)
pointed_at grammar.concrete x qs vs ys e k q p = (subst (λ w. d.SD (x ∷ (qs ++ vs)) (syntax_trees.pointer x w e.tree)) (sym q.0) (d.pointer_spelled x qs vs e.tree k q.1 p.0), p.1)
pointed_at grammar.abstract x qs vs ys e k q p = (subst (λ w. d.SD (x ∷ (qs ++ vs)) (syntax_trees.pointer x w e.tree)) (sym q.0) (d.pointer_spelled x qs vs e.tree k q.1 p.0), tt)
pointed_at grammar.either x qs vs ys e k q p = (subst (λ w. d.SD (x ∷ (qs ++ vs)) (syntax_trees.pointer x w e.tree)) (sym q.0) (d.pointer_spelled x qs vs e.tree k q.1 p.0), tt)

suffixed : (f : grammar.Form) (us ws : List Terminal) (e o : Declared syntax_trees) → d.SD us e.tree × Names f e.tree → ((us : List Terminal) → d.SD us e.tree → d.SD (us ++ ws) o.tree × (is_some (declared_name o.tree) ≡ is_some (declared_name e.tree))) → d.SD (us ++ ws) o.tree × Names f o.tree
suffixed grammar.concrete us ws e o p q = let r = q us p.0 in (r.0, r.1 ∙ p.1)
suffixed grammar.abstract us ws e o p q = ((q us p.0).0, tt)
suffixed grammar.either us ws e o p q = ((q us p.0).0, tt)

pub declarator_kept : (g : Context) (f : grammar.Form) (x : Terminal) (t : Sort) → Item g (grammar.declarator f) x t
declarator_kept g f x t v = kept_if _ _ x (is_mark tokens.star t) _ _
    (λ b taken qs ys q vs e p. pointed_at f x qs vs ys e (at_viewed g.types x tokens.star t v b) q p)
    (λ b us e p ws o q. suffixed f us ws e o p q)

pub direct_kept : (g : Context) (f : grammar.Form) (x : Terminal) (t : Sort) → Item g (grammar.direct f) x t
direct_kept g grammar.concrete x (tokens.name n) v = λ taken. (d.named_declarator_spelled x n (at_sort g.types x (tokens.name n) v).0, refl)
direct_kept g grammar.either x (tokens.name n) v = λ taken. (d.named_declarator_spelled x n (at_sort g.types x (tokens.name n) v).0, tt)
direct_kept g grammar.concrete x (tokens.mark tokens.opening) v = λ taken ws e p. p (at_sort g.types x (tokens.mark tokens.opening) v)
direct_kept g grammar.abstract x (tokens.mark tokens.opening) v = λ taken ws e p. p (at_sort g.types x (tokens.mark tokens.opening) v)
direct_kept g grammar.either x (tokens.mark tokens.opening) v = λ taken ws e p. p (at_sort g.types x (tokens.mark tokens.opening) v)
direct_kept g grammar.concrete x _ v = tt
direct_kept g grammar.abstract x _ v = (d.absent_spelled, tt)
direct_kept g grammar.either x _ v = (d.absent_spelled, tt)

-- an array of an absent declarator, and what stands behind
array_on : (g : Context) (x : Terminal) (vs : List Terminal) (n : Option Expression) (z : Terminal) (ws : List Terminal) (e : Declared syntax_trees) → x.what.kind ≡ kinds.Mark puncts.LeftBracket → parts.SMaybe [] 0 vs n → z.what.kind ≡ kinds.Mark puncts.RightBracket
    → ((us : List Terminal) → d.SD us (syntax_trees.array syntax_trees.absent x n) → d.SD (us ++ ws) e.tree × (is_some (declared_name e.tree) ≡ false)) → d.SD (((x ∷ vs) ++ z ∷ []) ++ ws) e.tree
array_on g x vs n z ws e k p c q = (q (x ∷ (vs ++ z ∷ [])) (d.array_spelled [] x vs z make.make_absent n d.absent_spelled k p c)).0

pub group_kept : (g : Context) (f : grammar.Form) (x : Terminal) (t : Sort) → Item g (grammar.group f) x t
group_kept g f x (tokens.mark tokens.star) v = λ taken qs ys q vs e p. pointed_at f x qs vs ys e (at_sort g.types x (tokens.mark tokens.star) v) q p
group_kept g f x (tokens.mark tokens.opening) v = λ taken us e p ws o q. suffixed f (x ∷ us) ws e o (p (at_sort g.types x (tokens.mark tokens.opening) v)) q
group_kept g grammar.concrete x (tokens.name n) v = λ taken ws o q. suffixed grammar.concrete (x ∷ []) ws (grammar.named_declarator x n) o (d.named_declarator_spelled x n (at_sort g.types x (tokens.name n) v).0, refl) q
group_kept g grammar.either x (tokens.name n) v = λ taken ws o q. suffixed grammar.either (x ∷ []) ws (grammar.named_declarator x n) o (d.named_declarator_spelled x n (at_sort g.types x (tokens.name n) v).0, tt) q
group_kept g grammar.abstract x (tokens.mark tokens.bracket) v = λ taken vs n p z tz ws e q. (array_on g x vs n z ws e (at_sort g.types x (tokens.mark tokens.bracket) v) p (at_mark tokens.unbracket z tz) q, tt)
group_kept g grammar.either x (tokens.mark tokens.bracket) v = λ taken vs n p z tz ws e q. (array_on g x vs n z ws e (at_sort g.types x (tokens.mark tokens.bracket) v) p (at_mark tokens.unbracket z tz) q, tt)
group_kept g f x _ v = tt

grouped : (f : grammar.Form) (y : Terminal) (vs : List Terminal) (z : Terminal) (e : Declared syntax_trees) → y.what.kind ≡ kinds.Mark puncts.LeftParenthesis → d.SD vs e.tree × Names f e.tree → z.what.kind ≡ kinds.Mark puncts.RightParenthesis
    → d.SD (y ∷ (vs ++ z ∷ [])) (make.make_group y.what e.tree z.what) × Names f (make.make_group y.what e.tree z.what)
grouped grammar.concrete y vs z e k p c = (d.group_spelled y vs z e.tree k p.0 c, ap (λ w. is_some (declared_name w)) (d.settled z.what.place e.tree p.1) ∙ p.1)
grouped grammar.abstract y vs z e k p c = (d.group_spelled y vs z e.tree k p.0 c, tt)
grouped grammar.either y vs z e k p c = (d.group_spelled y vs z e.tree k p.0 c, tt)

unnamed : (f : grammar.Form) (e : Declarator) → grammar.is_concrete f ≡ false → Names f e
unnamed grammar.concrete e h = absurd cc
unnamed grammar.abstract e h = tt
unnamed grammar.either e h = tt

no_concrete : (f : grammar.Form) (b : Bool) → not (grammar.is_concrete f) && b ≡ true → grammar.is_concrete f ≡ false
no_concrete grammar.concrete b e = absurd cc
no_concrete grammar.abstract b e = refl
no_concrete grammar.either b e = refl

pub behind_group_kept : (g : Context) (f : grammar.Form) (y : Terminal) (x : Terminal) (t : Sort) → Item g (grammar.behind_group f y) x t
behind_group_kept g f y x t v = kept_if _ _ x (not (grammar.is_concrete f) && grammar.is_parameters t) _ _
    (λ b vs ps p z tz k. (d.function_spelled [] y vs z make.make_absent ps d.absent_spelled k p (at_mark tokens.closing z tz), unnamed f _ (no_concrete f (grammar.is_parameters t) b)))
    (λ b vs e p z tz k. grouped f y vs z e k p (at_mark tokens.closing z tz))

-- settling keeps the name
pub name_kept : (x : Terminal) (e : Declarator) → is_some (declared_name (make.settle x.what.place e)) ≡ is_some (declared_name e)
name_kept x e = ap is_some (d.settle_name x.what.place e)

pub suffix_kept : (g : Context) (e : Declared syntax_trees) (x : Terminal) (t : Sort) → Item g (grammar.declarator_suffixes e) x t
suffix_kept g e x (tokens.mark tokens.bracket) v = λ taken vs n p z tz ws o q us left.
    let r = q (us ++ x ∷ (vs ++ z ∷ [])) (d.array_spelled us x vs z e.tree n left (at_sort g.types x (tokens.mark tokens.bracket) v) p (at_mark tokens.unbracket z tz)) in
    (subst (λ w. d.SD w o.tree) (append_assoc us (x ∷ (vs ++ z ∷ [])) ws) r.0, r.1 ∙ name_kept x e.tree)
suffix_kept g e x (tokens.mark tokens.opening) v = λ taken vs ps p z tz ws o q us left.
    let r = q (us ++ x ∷ (vs ++ z ∷ [])) (d.function_spelled us x vs z e.tree ps left (at_sort g.types x (tokens.mark tokens.opening) v) p (at_mark tokens.closing z tz)) in
    (subst (λ w. d.SD w o.tree) (append_assoc us (x ∷ (vs ++ z ∷ [])) ws) r.0, r.1 ∙ name_kept x e.tree)
suffix_kept g e x _ v = λ us left. (subst (λ w. d.SD w e.tree) (sym (append-nil us)) left, refl)
