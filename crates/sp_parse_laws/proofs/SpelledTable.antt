-- The table of C90 spells what it reads: lists, initialisers and declarations, and all items together.
use Rattle.std.proofs.Common.{◌≡◌, ℕ, zero, suc, Bool, true, false, List, [], ◌∷◌, ◌++◌, Option, None, refl, sym, ap, ◌∙◌, subst, arith}
use Rattle.std.specs.Prelude.{if◌then◌else◌, is_some, ◌||◌, ◌&&◌, not}
use Rattle.std.proofs.lemmas.List.{append_assoc, append-nil}
use Rattle.sp_tree.specs.declared.token.Kind.TheVariants as kinds
use Rattle.sp_tree.specs.declared.token.Punct.TheVariants as puncts
use Rattle.sp_parse_trees.specs.Syntax.{InitDeclarator}
use Rattle.sp_parse_trees.specs.Levels.{declared_name}
use Rattle.sp_parse_grammar.specs.CTokens as tokens
use Rattle.sp_parse_grammar.specs.CTokens.{Sort, Seen, view as viewed, add, is_mark, is_specifier, is_typed, nothing_seen}
use Rattle.sp_parse_grammar.specs.CTable as grammar
use Rattle.sp_parse_grammar.specs.CTable.{Context, Operand, Specified, Declared, Parameters, Items, Ask, at, unit, whole, c_symbols, plan, stands_behind, specifiers_plan, begins_expression}
use Rattle.sp_parse_grammar.specs.Table.{Plan, ask, Reads}
use Rattle.sp_parse_grammar.specs.Kept.{KeptAt, IsKept}
use Rattle.sp_parse_grammar.proofs.Keeping.{kept_front}
use Rattle.sp_parse_tokens.specs.Makers as make
use Rattle.sp_parse_tokens.specs.Sorts.{Terminal}
use Rattle.sp_parse_tokens.specs.SyntaxTrees.{syntax_trees, c_table}
use Rattle.sp_parse_tokens.specs.Depths.{Part}
use Rattle.sp_parse_laws.proofs.TokenKinds.{at_viewed, at_mark}
use Rattle.sp_parse_laws.proofs.Spelling as s
use Rattle.sp_parse_laws.proofs.Spelling.{SE, HasSome}
use Rattle.sp_parse_laws.proofs.SpellingLists as lists
use Rattle.sp_parse_laws.proofs.SpellingParts as parts
use Rattle.sp_parse_laws.proofs.SpellingDeclarators as d
use Rattle.sp_parse_laws.proofs.SpelledAnswers.{SpelledItem, SpelledAnswer, SSpecifiers, none_yet, some_yet}
use Rattle.sp_parse_laws.proofs.SpelledChecked.{Item, kept_if, on, level_kept, operator_kept, unary_kept, primary_kept, texts_kept, suffixes_kept, specifiers_kept, behind_struct_kept, struct_body_kept, behind_enum_kept, enum_body_kept, enumerator_kept, qualifiers_kept, declarator_kept, direct_kept, group_kept, behind_group_kept, suffix_kept}

-- ---- declarations

-- specifiers read from nothing
from_nothing : (us : List Terminal) (o : Specified syntax_trees) → SpelledItem (grammar.specifiers true nothing_seen grammar.no_specifiers) us o → SSpecifiers us o.all
from_nothing us o p = p [] none_yet (λ e. absurd cc)

from_nothing_unstored : (us : List Terminal) (o : Specified syntax_trees) → SpelledItem (grammar.specifiers false nothing_seen grammar.no_specifiers) us o → SSpecifiers us o.all
from_nothing_unstored us o p = p [] none_yet (λ e. absurd cc)

-- one declarator with its initialiser
one_item : (us ws : List Terminal) (e : Declared syntax_trees) (v : Option syntax_trees.Init) → d.SD us e.tree × (is_some (declared_name e.tree) ≡ true) → d.SStart ws v → lists.SItems (us ++ ws) (make.make_item e.tree v ∷ [])
one_item us ws e v p q = lists.items_one (us ++ ws) (make.make_item e.tree v) (d.item_spelled us ws e.tree v p.0 p.1 q)

one_member : (us : List Terminal) (e : Declared syntax_trees) → d.SD us e.tree × (is_some (declared_name e.tree) ≡ true) → lists.SItems us (make.make_item e.tree None ∷ [])
one_member us e p = subst (λ w. lists.SItems w (make.make_item e.tree None ∷ [])) (append-nil us) (one_item us [] e None p d.start_none)

one_more : (us vs : List Terminal) (x : Terminal) (is : List InitDeclarator) (e : Declared syntax_trees) → HasSome is → lists.SItems us is → x.what.kind ≡ kinds.Mark puncts.Comma → d.SD vs e.tree × (is_some (declared_name e.tree) ≡ true) → lists.SItems (us ++ x ∷ vs) (is ++ make.make_item e.tree None ∷ [])
one_more us vs x is e some left k p = lists.items_more us x vs is (make.make_item e.tree None) some left k (subst (λ w. d.SItem w (make.make_item e.tree None)) (append-nil vs) (d.item_spelled vs [] e.tree None p.0 p.1 d.start_none))

some_both : {A : Type 0} (xs ys : List A) → HasSome xs → HasSome (xs ++ ys)
some_both [] ys h = elim h [ ]
some_both (x ∷ xs) ys h = tt

some_more : {A : Type 0} (xs : List A) (x : A) → HasSome (xs ++ x ∷ [])
some_more [] x = tt
some_more (y ∷ ys) x = tt

-- after a part with a name
further_items : (us vs ws : List Terminal) (is : List InitDeclarator) → lists.SItems ((us ++ vs) ++ ws) is → lists.SItems (us ++ (vs ++ ws)) is
further_items us vs ws is p = subst (λ w. lists.SItems w is) (append_assoc us vs ws) p

value_kept : (g : Context) (x : Terminal) (t : Sort) → Item g grammar.value_of x t
value_kept g x t v = kept_if _ _ x (is_mark tokens.equal t) _ _
    (λ b taken ws o p. parts.value_some x ws o.tree (at_viewed g.types x tokens.equal t v b) (p (omega arith)))
    (λ b. parts.maybe_none (kinds.Mark puncts.Assign ∷ []) 1)

statement_kept : (g : Context) (x : Terminal) (t : Sort) → Item g grammar.statement x t
statement_kept g x (tokens.name n) v = λ e0. λ vs1 a1 p1. tt
statement_kept g x (tokens.mark tokens.semicolon) v = λ e0. tt
statement_kept g x (tokens.mark tokens.brace) v = λ e0. λ vs1 a1 p1. λ vs2 a2 p2. λ z3 e3. tt
statement_kept g x (tokens.mark tokens.case) v = λ e0. λ vs1 a1 p1. λ z2 e2. λ vs3 a3 p3. tt
statement_kept g x (tokens.mark tokens.default) v = λ e0. λ z1 e1. λ vs2 a2 p2. tt
statement_kept g x (tokens.mark tokens.if_word) v = λ e0. λ z1 e1. λ vs2 a2 p2. λ z3 e3. λ vs4 a4 p4. λ vs5 a5 p5. tt
statement_kept g x (tokens.mark tokens.switch) v = λ e0. λ z1 e1. λ vs2 a2 p2. λ z3 e3. λ vs4 a4 p4. tt
statement_kept g x (tokens.mark tokens.while) v = λ e0. λ z1 e1. λ vs2 a2 p2. λ z3 e3. λ vs4 a4 p4. tt
statement_kept g x (tokens.mark tokens.do_word) v = λ e0. λ vs1 a1 p1. λ z2 e2. λ z3 e3. λ vs4 a4 p4. λ z5 e5. λ z6 e6. tt
statement_kept g x (tokens.mark tokens.for) v = λ e0. λ z1 e1. λ vs2 a2 p2. λ z3 e3. λ vs4 a4 p4. λ z5 e5. λ vs6 a6 p6. λ z7 e7. λ vs8 a8 p8. tt
statement_kept g x (tokens.mark tokens.goto) v = λ e0. λ z1 e1. λ z2 e2. tt
statement_kept g x (tokens.mark tokens.continue) v = λ e0. λ z1 e1. tt
statement_kept g x (tokens.mark tokens.break) v = λ e0. λ z1 e1. tt
statement_kept g x (tokens.mark tokens.return) v = λ e0. λ vs1 a1 p1. λ z2 e2. tt
statement_kept g x _ v = λ vs0 a0 p0. λ z1 e1. tt

each_kept : (g : Context) (i : Part) (x : Terminal) (t : Sort) → Item g i x t
each_kept g (grammar.level k) x t v = level_kept g k x t v
each_kept g (grammar.after k l) x t v = kept_if _ _ x (stands_behind k l.unary t) _ _ (λ b. operator_kept g k l x t v b) (λ b low high us left. on us l.tree left)
each_kept g (grammar.tail zero l) x t v = λ high us left. on us l.tree left
each_kept g (grammar.tail (suc k) l) x t v = λ vs o p ws e q high us left. subst (λ w. SE w e.tree) (append_assoc us vs ws) (q (omega arith) (us ++ vs) (p (omega arith) (omega arith) us left))
each_kept g (grammar.behind_open y) x t v = kept_if _ _ x (is_specifier t) _ _
    (λ b us n p z tz vs o q k. subst (λ w. SE (y ∷ w) (syntax_trees.cast y n.tree z o.tree)) (sym (append_assoc us (z ∷ []) vs)) (d.cast_spelled y us z vs n.tree o.tree k p (at_mark tokens.closing z tz) (q (omega arith))))
    (λ b vs o p z tz ws e q k. q (y ∷ (vs ++ z ∷ [])) (s.paren_spelled y vs z o.tree k (p (omega arith)) (at_mark tokens.closing z tz)))
each_kept g grammar.unary x t v = unary_kept g x t v
each_kept g grammar.primary x t v = primary_kept g x t v
each_kept g grammar.arguments x t v = kept_if _ _ x (begins_expression t) _ _
    (λ b vs o p ws es q. q vs tt (lists.args_one vs o.tree (p (omega arith))))
    (λ b. record { spells = refl; places = λ spots h. tt })
each_kept g (grammar.behind_sizeof y) x t v = kept_if _ _ x (is_mark tokens.opening t) _ _
    (λ b taken ws e p k. p k (at_viewed g.types x tokens.opening t v b))
    (λ b ws e p k. s.sizeof_spelled y ws e k p)
each_kept g (grammar.inside_sizeof y w) x t v = kept_if _ _ x (is_specifier t) _ _
    (λ b us n p z tz k j. d.sizeof_type_spelled y w us z n.tree k j p (at_mark tokens.closing z tz))
    (λ b vs o p z tz ws e q k j. s.sizeof_spelled y (w ∷ ((vs ++ z ∷ []) ++ ws)) e k (q (w ∷ (vs ++ z ∷ [])) (s.paren_spelled w vs z o.tree j (p (omega arith)) (at_mark tokens.closing z tz))))
each_kept g (grammar.texts xs) x t v = texts_kept g xs x t v
each_kept g (grammar.suffixes f) x t v = suffixes_kept g f x t v
each_kept g (grammar.more_arguments es) x t v = kept_if _ _ x (is_mark tokens.comma t) _ _
    (λ b taken vs o p ws fs q us some left. subst (λ w. s.SArgs w fs) (append_assoc us (x ∷ vs) ws) (q (us ++ x ∷ vs) (some_more es o.tree) (lists.args_more us x vs es o.tree some left (at_viewed g.types x tokens.comma t v b) (p (omega arith)))))
    (λ b us some left. subst (λ w. s.SArgs w es) (sym (append-nil us)) left)
each_kept g grammar.type_name x t v = λ us sp p vs e q. d.type_name_spelled us vs sp.all e.tree (from_nothing_unstored us sp p).all q.0
each_kept g grammar.optional_specifiers x t v = kept_if _ _ x (grammar.begins_specifiers true g.inside t) _ _
    (λ b us sp p. some_yet (from_nothing us sp p))
    (λ b. none_yet)
each_kept g (grammar.specifiers stores seen sp) x t v = specifiers_kept g stores seen sp x t (add stores g.inside seen t) v refl
each_kept g (grammar.behind_struct y) x t v = behind_struct_kept g y x t v
each_kept g (grammar.behind_enum y) x t v = behind_enum_kept g y x t v
each_kept g (grammar.struct_body y z) x t v = struct_body_kept g y z x t v
each_kept g (grammar.enum_body y z) x t v = enum_body_kept g y z x t v
each_kept g grammar.member x t v = λ us sp p vs e q ws is r z tz.
    let first = from_nothing_unstored us sp p in
    subst (λ w. d.SDeclaration w (make.make_declaration sp.all is.all)) (ap (λ w. us ++ w) refl ∙ sym (append_assoc us (vs ++ ws) (z ∷ [])) ∙ ap (λ w. w ++ z ∷ []) (sym (append_assoc us vs ws)))
    (d.declaration_spelled us (vs ++ ws) z sp.all is.all first.all first.first (r vs tt (one_member vs e q)) (at_mark tokens.semicolon z tz))
each_kept g grammar.enumerator x t v = enumerator_kept g x t v
each_kept g grammar.value_of x t v = value_kept g x t v
each_kept g (grammar.members ds) x t v = kept_if _ _ x (grammar.begins_specifiers false g.inside t) _ _
    (λ b vs m p ws es q us left. subst (λ w. lists.SDeclarations w es) (append_assoc us vs ws) (q (us ++ vs) (lists.declarations_more us vs ds m left p)))
    (λ b us left. subst (λ w. lists.SDeclarations w ds) (sym (append-nil us)) left)
each_kept g (grammar.member_items is) x t v = kept_if _ _ x (is_mark tokens.comma t) _ _
    (λ b taken vs e p ws js q us some left. further_items us (x ∷ vs) ws js.all (q (us ++ x ∷ vs) (some_more is.all (make.make_item e.tree None)) (one_more us vs x is.all e some left (at_viewed g.types x tokens.comma t v b) p)))
    (λ b us some left. subst (λ w. lists.SItems w is.all) (sym (append-nil us)) left)
each_kept g (grammar.enumerators es) x t v = kept_if _ _ x (is_mark tokens.comma t) _ _
    (λ b taken vs e p ws fs q us some left. subst (λ w. parts.SEnumerators w fs) (append_assoc us (x ∷ vs) ws) (q (us ++ x ∷ vs) (some_more es e) (parts.enumerators_more us x vs es e some left (at_viewed g.types x tokens.comma t v b) p)))
    (λ b us some left. subst (λ w. parts.SEnumerators w es) (sym (append-nil us)) left)
each_kept g (grammar.qualifiers xs) x t v = qualifiers_kept g xs x t v
each_kept g (grammar.declarator f) x t v = declarator_kept g f x t v
each_kept g (grammar.direct f) x t v = direct_kept g f x t v
each_kept g (grammar.group f) x t v = group_kept g f x t v
each_kept g (grammar.behind_group f y) x t v = behind_group_kept g f y x t v
each_kept g (grammar.declarator_suffixes e) x t v = suffix_kept g e x t v
each_kept g grammar.array_length x t v = kept_if _ _ x (begins_expression t) _ _
    (λ b vs o p. parts.maybe_some vs o.tree (p (omega arith)))
    (λ b. parts.maybe_none [] 0)
each_kept g grammar.parameters x t v = kept_if _ _ x (grammar.begins_specifiers true g.inside t) _ _
    (λ b vs p k ws ps q. q vs tt refl (d.first_parameter_spelled vs p.tree p.behind k))
    (λ b. d.no_parameters_spelled)
each_kept g grammar.parameter x t v = λ us sp p vs e q. d.parameter_spelled us vs sp.all e.tree (from_nothing us sp p).all q.0
each_kept g (grammar.more_parameters ps) x t v = kept_if _ _ x (is_mark tokens.comma t) _ _
    (λ b taken ws qs q us some none left. q us some none left (at_viewed g.types x tokens.comma t v b))
    (λ b us some none left. subst (λ w. d.SParameters w ps) (sym (append-nil us)) left)
each_kept g (grammar.behind_comma c ps) x t v = kept_if _ _ x (is_mark tokens.ellipsis t) _ _
    (λ b taken us some none left k. d.dots_spelled us c x ps grammar.plainly none left k (at_viewed g.types x tokens.ellipsis t v b))
    (λ b vs p k ws qs q us some none left j.
    let more : Parameters syntax_trees = record { all = make.settle_last c.what.place ps.all ++ p.tree ∷ []; dots = false; behind = p.behind } in
    subst (λ w. d.SParameters w qs) (append_assoc us (c ∷ vs) ws) (q (us ++ c ∷ vs) (some_more (make.settle_last c.what.place ps.all) p.tree) refl (d.next_parameter_spelled us c vs ps p.tree p.behind some none left j k)))
each_kept g grammar.init x t v = kept_if _ _ x (is_mark tokens.brace t) _ _
    (λ b taken vs i p ws r q z tz. d.listed_spelled x (vs ++ ws) z r.all r.comma (at_viewed g.types x tokens.brace t v b) (q vs tt (lists.inits_one vs i p)) (at_mark tokens.unbrace z tz))
    (λ b vs o p. d.single_spelled vs o.tree (p (omega arith)))
each_kept g (grammar.inits is) x t v = kept_if _ _ x (is_mark tokens.comma t) _ _
    (λ b taken ws r q us some left. q us x some left (at_viewed g.types x tokens.comma t v b))
    (λ b us some left. subst (λ w. d.SList w is false) (sym (append-nil us)) (d.list_ends us is left))
each_kept g (grammar.behind_init_comma is) x t v = kept_if _ _ x (is_mark tokens.brace t || begins_expression t) _ _
    (λ b vs i p ws r q us c some left k. subst (λ w. d.SList w r.all r.comma) (append_assoc us (c ∷ vs) ws) (q (us ++ c ∷ vs) (some_more is i) (lists.inits_more us c vs is i some left k p)))
    (λ b us c some left k. d.comma_ends us c is left k)
each_kept g grammar.declaration x t v = λ us sp p vs is q z tz.
    let first = from_nothing us sp p in
    subst (λ w. d.SDeclaration w (make.make_declaration sp.all is.all)) (sym (append_assoc us vs (z ∷ []))) (d.declaration_spelled us vs z sp.all is.all first.all first.first q (at_mark tokens.semicolon z tz))
each_kept g grammar.items x t v = kept_if _ _ x (grammar.begins_items t) _ _
    (λ b vs i p ws js q. q vs (subst HasSome (sym p.1) tt) (subst (λ w. lists.SItems vs w) (sym p.1) (lists.items_one vs p.0 p.2)))
    (λ b. record { spells = refl; places = λ spots h. tt })
each_kept g grammar.item x t v = λ us e p ws o q. (make.make_item e.tree o, refl, d.item_spelled us ws e.tree o p.0 p.1 q)
each_kept g grammar.initial x t v = kept_if _ _ x (is_mark tokens.equal t) _ _
    (λ b taken ws i p. d.start_some x ws i (at_viewed g.types x tokens.equal t v b) p)
    (λ b. d.start_none)
each_kept g (grammar.declarations ds) x t v = kept_if _ _ x (grammar.begins_specifiers true g.inside t) _ _
    (λ b vs m p ws es q us left. subst (λ w. lists.SDeclarations w es) (append_assoc us vs ws) (q (us ++ vs) (lists.declarations_more us vs ds m left p)))
    (λ b us left. subst (λ w. lists.SDeclarations w ds) (sym (append-nil us)) left)
each_kept g (grammar.more_items is) x t v = kept_if _ _ x (is_mark tokens.comma t) _ _
    (λ b taken vs i p ws js q us some left.
    let more = subst (λ w. lists.SItems (us ++ x ∷ vs) (is.all ++ w)) (sym p.1) (lists.items_more us x vs is.all p.0 some left (at_viewed g.types x tokens.comma t v b) p.2) in
    further_items us (x ∷ vs) ws js.all (q (us ++ x ∷ vs) (some_both is.all i.all some) more))
    (λ b us some left. subst (λ w. lists.SItems w is.all) (sym (append-nil us)) left)
each_kept g grammar.optional_expression x t v = kept_if _ _ x (begins_expression t) _ _
    (λ b vs o p. parts.maybe_some vs o.tree (p (omega arith)))
    (λ b. parts.maybe_none [] 0)
each_kept g grammar.statement x t v = statement_kept g x t v
each_kept g grammar.else_part x t v = kept_if _ _ x (is_mark tokens.else_word t) _ _ (λ b. λ e0. λ vs1 a1 p1. tt) (λ b. tt)
each_kept g (grammar.behind_name y) x t v = kept_if _ _ x (is_mark tokens.colon t) _ _ (λ b. λ e0. λ vs1 a1 p1. tt) (λ b. λ vs0 a0 p0. λ vs1 a1 p1. λ z2 e2. tt)
each_kept g (grammar.statements ss) x t v = kept_if _ _ x (begins_expression t || grammar.begins_other t) _ _ (λ b. λ vs0 a0 p0. λ vs1 a1 p1. tt) (λ b. tt)
each_kept g grammar.external x t v = kept_if _ _ x (is_mark tokens.semicolon t) _ _ (λ b. λ e0. tt) (λ b. λ vs0 a0 p0. λ vs1 a1 p1. tt)
each_kept g (grammar.external_items sp) x t v = kept_if _ _ x (is_mark tokens.semicolon t) _ _ (λ b. λ e0. tt) (λ b. λ vs0 a0 p0. λ vs1 a1 p1. tt)
each_kept g (grammar.behind_declarator sp e) x t v = kept_if _ _ x (is_mark tokens.brace t && not (grammar.is_variadic e.shape)) _ _ (λ b. λ e0. λ vs1 a1 p1. λ vs2 a2 p2. λ z3 e3. tt) (λ b. λ vs0 a0 p0. λ vs1 a1 p1. λ z2 e2. tt)

unit_if : (types : List ℕ) (x : Terminal) (b : Bool) (p q : Option (Plan (c_symbols syntax_trees) (unit types))) → KeptAt SpelledAnswer (unit types) x p → KeptAt SpelledAnswer (unit types) x q → KeptAt SpelledAnswer (unit types) x (if b then p else q)
unit_if types x true p q first second = first
unit_if types x false p q first second = second

-- Each production spells what it reads.
pub spelled_kept : IsKept c_table SpelledAnswer
spelled_kept (at g i) x = each_kept g i x (viewed g.types x.sort) refl
spelled_kept (unit types) x = unit_if types x (is_mark tokens.semicolon (viewed types x.sort) || grammar.begins_specifiers true false (viewed types x.sort)) _ _ (λ vs0 a0 p0. λ vs1 a1 p1. tt) tt
spelled_kept whole x = λ vs0 a0 p0. λ z1 e1. tt

-- What is read spells its tokens.
pub is_spelled : (n : Ask syntax_trees) (front ys : List Terminal) (a : grammar.Answer n) → Reads c_table n (ask n) (front ++ ys) a ys → SpelledAnswer n front a
is_spelled n front ys a r = kept_front c_table SpelledAnswer spelled_kept front ys a r
