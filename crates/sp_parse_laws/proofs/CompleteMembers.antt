-- Structures with their members, and enumerations with their constants, are read from their tokens.
use Rattle.std.proofs.Common.{◌≡◌, ℕ, ◌<◌, ◌≤◌, Bool, true, false, ◌⊎◌, inl, inr, List, [], ◌∷◌, ◌++◌, Option, Some, None, refl, sym, ap, ap₂, ◌∙◌, subst, arith, append_assoc}
use Rattle.std.specs.Prelude.{if◌then◌else◌, is_some, ◌==◌}
use Rattle.std.specs.List.{list_any}
use Rattle.sp_tree.specs.declared.token.Kind.{Kind}
use Rattle.sp_tree.specs.declared.token.Kind.TheVariants as kinds
use Rattle.sp_tree.specs.declared.token.Punct.TheVariants as puncts
use Rattle.sp_parse_trees.specs.Syntax as syntax
use Rattle.sp_parse_trees.specs.Syntax.{Expression, MaybeExpression, Declarator, Declaration, Declarations, Specifier, Specifiers, InitDeclarators, Enumerators}
use Rattle.sp_parse_trees.specs.Spelling.{tokens_of, declarator_tokens, specifiers_tokens}
use Rattle.sp_parse_trees.specs.Levels.{level, declared_name}
use Rattle.sp_parse_grammar.specs.CTokens as tokens
use Rattle.sp_parse_grammar.specs.CTokens.{Sort, view, is_mark, looseness, is_declaring, nothing_seen}
use Rattle.sp_parse_grammar.specs.CTable as grammar
use Rattle.sp_parse_grammar.specs.CTable.{Context, Items, at, plan, begins_specifiers, IsOutside, IsBehindSpecifiers, in_structure}
use Rattle.sp_parse_grammar.specs.Table.{read_done, read_take}
use Rattle.sp_parse_grammar.proofs.Readings.{join, at_tokens}
use Rattle.sp_parse_grammar.proofs.CChecked.{if_true}
use Rattle.sp_parse_tokens.specs.Makers as make
use Rattle.sp_parse_tokens.specs.Sorts.{Terminal, nowhere}
use Rattle.sp_parse_tokens.specs.SyntaxTrees.{syntax_trees}
use Rattle.sp_parse_laws.specs.Bare.{bare, bare_specifiers, bare_declarator}
use Rattle.sp_parse_laws.proofs.BareAnswers.{before_items, no_item_behind, item_behind, before_declarations, no_declaration_behind, declaration_behind, before_enumerators, no_enumerator_behind, enumerator_behind, joined}
use Rattle.sp_parse_laws.specs.Spelled.{kinds_at}
use Rattle.sp_parse_laws.proofs.Completing.{cut, head, between, sort_at, mark_taken, Reading, chosen, nothing, moved}
use Rattle.sp_parse_laws.proofs.CompleteExpressions.{Complete, none_left, name_sort}
use Rattle.sp_parse_laws.proofs.CompleteParts.{Next, Commas, no_comma, a_comma, next_of}
use Rattle.sp_parse_laws.proofs.CompleteSpecifiers.{Rest, Specifying}
use Rattle.sp_parse_laws.proofs.CompleteDeclarators.{Declaring}
use Rattle.sp_parse_laws.proofs.CompleteLists.{declared_by}

-- ---- declarators of members

pub record MoreMembers (g : Context) (ks : List Kind) (m : InitDeclarators) : Type 0 where
  pub commas : Commas ks
  pub read : (is : Items syntax_trees) (ws : List Terminal) (c : Terminal) (zs : List Terminal) → kinds_at ws ≡ ks → c.what.kind ≡ kinds.Mark puncts.Semicolon → Reading g (grammar.member_items is) (before_items is.all m) (ws ++ c ∷ zs) (c ∷ zs)

semicolon_sort : (g : Context) (c : Terminal) → c.what.kind ≡ kinds.Mark puncts.Semicolon → view g.types c.sort ≡ tokens.mark tokens.semicolon
semicolon_sort g c k = sort_at g.types c (kinds.Mark puncts.Semicolon) k

pub no_more_members : (g : Context) → MoreMembers g [] syntax.no_items
no_more_members g = record {
  commas = no_comma;
  read = λ is ws c zs e k. moved g (grammar.member_items is) (c ∷ zs) (ws ++ c ∷ zs) (c ∷ zs) (ap (λ w. w ++ c ∷ zs) (sym (none_left ws e)))
      (record { answer = is; read = nothing g (grammar.member_items is) c zs (subst (λ s. (is_mark tokens.comma s ≡ false) × (is_declaring s ≡ false)) (sym (semicolon_sort g c k)) (refl, refl)); alike = no_item_behind is.all });
}

pub one_more_member : (g : Context) (d : Declarator) (ks : List Kind) (m : InitDeclarators) → Declaring g d → is_some (declared_name d) ≡ true → MoreMembers g ks m → MoreMembers g (kinds.Mark puncts.Comma ∷ (declarator_tokens d ++ ks)) (syntax.next_item (syntax.init_declarator (bare_declarator d) syntax.no_init) m)
one_more_member g d ks m decl named more = record {
  commas = a_comma (declarator_tokens d ++ ks);
  read = λ is ws c zs e k.
      let h = head ws (kinds.Mark puncts.Comma) _ e in
      let u = cut h.rest (declarator_tokens d) ks h.rest_is in
      let n = next_of g (λ s. is_declaring s ≡ false) ks u.right c zs more.commas refl (ap is_declaring (semicolon_sort g c k)) u.right_is in
      let r = decl.whole grammar.concrete named u.left n.first n.rest u.left_is n.holds in
      let s = more.read (grammar.both_items is (grammar.one_item r.answer None)) u.right c zs u.right_is k in
      let whole : ws ++ c ∷ zs ≡ h.first ∷ (u.left ++ n.first ∷ n.rest) = ap (λ v. v ++ c ∷ zs) h.whole ∙ ap (λ v. h.first ∷ (v ++ c ∷ zs)) u.whole ∙ ap (λ v. h.first ∷ v) (append_assoc u.left u.right (c ∷ zs)) ∙ ap (λ v. h.first ∷ (u.left ++ v)) n.whole in
      moved g (grammar.member_items is) (h.first ∷ (u.left ++ n.first ∷ n.rest)) (ws ++ c ∷ zs) (c ∷ zs) (sym whole)
      (record { answer = s.answer; read = chosen g (grammar.member_items is) h.first (tokens.mark tokens.comma) _ (u.left ++ n.first ∷ n.rest) (c ∷ zs) s.answer (sort_at g.types h.first (kinds.Mark puncts.Comma) h.first_is) refl (read_take refl (join r.read (join (at_tokens n.whole s.read) read_done))); alike = s.alike ∙ item_behind is.all (make.make_item r.answer.tree None) m ∙ ap (λ v. before_items is.all (syntax.next_item (syntax.init_declarator v syntax.no_init) m)) r.alike });
}

-- a declaration of members, with its `;`
pub record Member (g : Context) (ks : List Kind) (n : Declaration) : Type 0 where
  pub read : (ws zs : List Terminal) → kinds_at ws ≡ ks → Reading g grammar.member n (ws ++ zs) zs
  pub begins : (ws zs : List Terminal) → kinds_at ws ≡ ks → Next g (λ s. begins_specifiers false g.inside s ≡ true) (ws ++ zs)

pub member_complete : (g : Context) (ss : Specifiers) (d : Declarator) (ks : List Kind) (m : InitDeclarators) → Specifying g ss → Rest g false nothing_seen 0 [] ss → Declaring g d → is_some (declared_name d) ≡ true → MoreMembers g ks m → Member g ((specifiers_tokens ss ++ declarator_tokens d) ++ (ks ++ kinds.Mark puncts.Semicolon ∷ [])) (syntax.declaration (bare_specifiers ss) (syntax.next_item (syntax.init_declarator (bare_declarator d) syntax.no_init) m) nowhere)
member_complete g ss d ks m specs rest decl named more = record {
  read = λ ws zs e.
      let u = cut ws (specifiers_tokens ss ++ declarator_tokens d) (ks ++ kinds.Mark puncts.Semicolon ∷ []) e in
      let b = between u.right ks (kinds.Mark puncts.Semicolon) [] u.right_is in
      let outside = subst IsOutside (sym (semicolon_sort g b.mark b.mark_is)) ((refl, refl), refl) in
      let n = next_of g IsOutside ks b.left b.mark zs more.commas ((refl, refl), refl) outside b.left_is in
      let r = declared_by g false grammar.concrete ss d specs rest decl named u.left n.first n.rest u.left_is n.holds in
      let s = more.read (grammar.one_item r.declared.answer None) b.left b.mark zs b.left_is b.mark_is in
      let ends = mark_taken tokens.semicolon b.mark (kinds.Mark puncts.Semicolon) b.mark_is refl in
      let tail : u.right ++ zs ≡ b.left ++ b.mark ∷ zs = ap (λ v. v ++ zs) b.whole ∙ append_assoc b.left (b.mark ∷ b.right) zs ∙ ap (λ v. b.left ++ b.mark ∷ (v ++ zs)) (none_left b.right b.right_is) in
      let whole : ws ++ zs ≡ u.left ++ n.first ∷ n.rest = ap (λ v. v ++ zs) u.whole ∙ append_assoc u.left u.right zs ∙ ap (λ v. u.left ++ v) (tail ∙ n.whole) in
      let f = specs.begins false nothing_seen 0 [] rest refl (cut u.left (specifiers_tokens ss) (declarator_tokens d) u.left_is).left ((cut u.left (specifiers_tokens ss) (declarator_tokens d) u.left_is).right ++ n.first ∷ n.rest) (cut u.left (specifiers_tokens ss) (declarator_tokens d) u.left_is).left_is in
      let c = cut u.left (specifiers_tokens ss) (declarator_tokens d) u.left_is in
      let opens : u.left ++ n.first ∷ n.rest ≡ f.first ∷ f.rest = ap (λ v. v ++ n.first ∷ n.rest) c.whole ∙ append_assoc c.left c.right (n.first ∷ n.rest) ∙ f.whole in
      moved g grammar.member (f.first ∷ f.rest) (ws ++ zs) zs (sym opens ∙ sym whole)
      (record { answer = _; read = chosen g grammar.member f.first (view g.types f.first.sort) _ f.rest zs _ refl refl (join (at_tokens opens r.specifiers.read) (join r.declared.read (join (at_tokens n.whole s.read) (read_take ends read_done)))); alike = ap₂ (λ u v. syntax.declaration u v nowhere) r.specifiers.alike (s.alike ∙ ap (λ v. syntax.next_item (syntax.init_declarator v syntax.no_init) m) r.declared.alike) });
  begins = λ ws zs e.
      let u = cut ws (specifiers_tokens ss ++ declarator_tokens d) (ks ++ kinds.Mark puncts.Semicolon ∷ []) e in
      let c = cut u.left (specifiers_tokens ss) (declarator_tokens d) u.left_is in
      let f = specs.begins false nothing_seen 0 [] rest refl c.left (c.right ++ (u.right ++ zs)) c.left_is in
      record { first = f.first; rest = f.rest; whole = ap (λ v. v ++ zs) u.whole ∙ append_assoc u.left u.right zs ∙ ap (λ v. v ++ (u.right ++ zs)) c.whole ∙ append_assoc c.left c.right (u.right ++ zs) ∙ f.whole; holds = f.holds };
}

-- members up to their `}`
abbrev pub Members : (g : Context) → List Kind → Declarations → Type 0
Members g ks n = (ds : List Declaration) (ws : List Terminal) (c : Terminal) (zs : List Terminal) → kinds_at ws ≡ ks → c.what.kind ≡ kinds.Mark puncts.RightBrace → Reading g (grammar.members ds) (before_declarations ds n) (ws ++ c ∷ zs) (c ∷ zs)

pub no_members : (g : Context) → Members g [] syntax.no_declarations
no_members g ds ws c zs e k = moved g (grammar.members ds) (c ∷ zs) (ws ++ c ∷ zs) (c ∷ zs) (ap (λ w. w ++ c ∷ zs) (sym (none_left ws e)))
    (record { answer = ds; read = nothing g (grammar.members ds) c zs (subst (λ s. begins_specifiers false g.inside s ≡ false) (sym (sort_at g.types c (kinds.Mark puncts.RightBrace) k)) refl); alike = no_declaration_behind ds })

pub more_members : (g : Context) (a b : List Kind) (n : Declaration) (m : Declarations) → Member g a n → Members g b m → Members g (a ++ b) (syntax.next_declaration n m)
more_members g a b n m one more ds ws c zs e k =
    let u = cut ws a b e in
    let r = one.read u.left (u.right ++ c ∷ zs) u.left_is in
    let f = one.begins u.left (u.right ++ c ∷ zs) u.left_is in
    let s = more (ds ++ r.answer ∷ []) u.right c zs u.right_is k in
    let whole : ws ++ c ∷ zs ≡ u.left ++ (u.right ++ c ∷ zs) = ap (λ v. v ++ c ∷ zs) u.whole ∙ append_assoc u.left u.right (c ∷ zs) in
    moved g (grammar.members ds) (f.first ∷ f.rest) (ws ++ c ∷ zs) (c ∷ zs) (sym (whole ∙ f.whole))
    (record { answer = s.answer; read = chosen g (grammar.members ds) f.first (view g.types f.first.sort) _ f.rest (c ∷ zs) s.answer refl (if_true (begins_specifiers false g.inside (view g.types f.first.sort)) _ _ f.holds) (join (at_tokens f.whole r.read) (join s.read read_done)); alike = s.alike ∙ declaration_behind ds r.answer m ∙ ap (λ v. before_declarations ds (syntax.next_declaration v m)) r.alike })

-- ---- structures

-- what stands behind `struct`
abbrev pub Structure : Context → List Kind → Option ℕ → syntax.Members → Type 0
Structure g ks tag ms = (y : Terminal) (ws : List Terminal) (z : Terminal) (zs : List Terminal) → kinds_at ws ≡ ks → is_mark tokens.brace (view g.types z.sort) ≡ false → Reading g (grammar.behind_struct y) (syntax.struct_specifier (syntax.struct_spec (make.is_union y.what.kind) tag ms nowhere)) (ws ++ z ∷ zs) (z ∷ zs)

-- a tag, whether it is the name of a type or not
tag_sort : (types : List ℕ) (x : Terminal) (n : ℕ) → x.what.kind ≡ kinds.Name n → (view types x.sort ≡ tokens.name n) ⊎ (view types x.sort ≡ tokens.named_type n)
tag_sort types x n e = by_types (list_any (λ t. t == n) types) refl
  where
    by_types : (b : Bool) → list_any (λ t. t == n) types ≡ b → (view types x.sort ≡ tokens.name n) ⊎ (view types x.sort ≡ tokens.named_type n)
    by_types true h = inr (sort_at types x (kinds.Name n) e ∙ ap (λ b. if b then tokens.named_type n else tokens.name n) h)
    by_types false h = inl (sort_at types x (kinds.Name n) e ∙ ap (λ b. if b then tokens.named_type n else tokens.name n) h)

tagged : {m : Specifier} (g : Context) (n : ℕ) (y x : Terminal) (xs ys : List Terminal) → x.what.kind ≡ kinds.Name n → Reading g (grammar.struct_body y x) m xs ys → Reading g (grammar.behind_struct y) m (x ∷ xs) ys
tagged g n y x xs ys e r = elim (tag_sort g.types x n e) [
  | inl v ↦ record { answer = r.answer; read = chosen g (grammar.behind_struct y) x (tokens.name n) _ xs ys r.answer v refl (read_take refl (join r.read read_done)); alike = r.alike }
  | inr v ↦ record { answer = r.answer; read = chosen g (grammar.behind_struct y) x (tokens.named_type n) _ xs ys r.answer v refl (read_take refl (join r.read read_done)); alike = r.alike }
]

pub tag_alone : (g : Context) (n : ℕ) → Structure g (kinds.Name n ∷ []) (Some n) syntax.no_members
tag_alone g n y ws z zs e stops =
    let h = head ws (kinds.Name n) [] e in
    moved g (grammar.behind_struct y) (h.first ∷ (z ∷ zs)) (ws ++ z ∷ zs) (z ∷ zs) (ap (λ v. h.first ∷ (v ++ z ∷ zs)) (sym (none_left h.rest h.rest_is)) ∙ ap (λ v. v ++ z ∷ zs) (sym h.whole))
    (tagged g n y h.first (z ∷ zs) (z ∷ zs) h.first_is (record { answer = _; read = nothing g (grammar.struct_body y h.first) z zs stops; alike = ap (λ v. syntax.struct_specifier (syntax.struct_spec (make.is_union y.what.kind) (Some (make.number_of v)) syntax.no_members nowhere)) h.first_is }))

-- members between braces, behind the first of them
record Braced (g : Context) (a b : List Kind) (n : Declaration) (m : Declarations) (ws : List Terminal) (zs : List Terminal) : Type 0 where
  begin : Terminal
  mid : List Terminal
  rest : List Terminal
  end : Terminal
  whole : ws ++ zs ≡ begin ∷ rest
  begin_is : begin.what.kind ≡ kinds.Mark puncts.LeftBrace
  first : Reading (in_structure g) grammar.member n rest mid
  more : (ds : List Declaration) → Reading (in_structure g) (grammar.members ds) (before_declarations ds m) mid (end ∷ zs)
  ends : is_mark tokens.unbrace end.sort ≡ true

braced : (g : Context) (a b : List Kind) (n : Declaration) (m : Declarations) → Member (in_structure g) a n → Members (in_structure g) b m → (ws zs : List Terminal) → kinds_at ws ≡ kinds.Mark puncts.LeftBrace ∷ ((a ++ b) ++ kinds.Mark puncts.RightBrace ∷ []) → Braced g a b n m ws zs
braced g a b n m one more ws zs e =
    let h = head ws (kinds.Mark puncts.LeftBrace) _ e in
    let c = between h.rest (a ++ b) (kinds.Mark puncts.RightBrace) [] h.rest_is in
    let u = cut c.left a b c.left_is in
    let tail : h.rest ++ zs ≡ u.left ++ (u.right ++ c.mark ∷ zs) = ap (λ v. v ++ zs) c.whole ∙ append_assoc c.left (c.mark ∷ c.right) zs ∙ ap (λ v. c.left ++ c.mark ∷ (v ++ zs)) (none_left c.right c.right_is) ∙ ap (λ v. v ++ c.mark ∷ zs) u.whole ∙ append_assoc u.left u.right (c.mark ∷ zs) in
    record {
      begin = h.first;
      mid = u.right ++ c.mark ∷ zs;
      rest = u.left ++ (u.right ++ c.mark ∷ zs);
      end = c.mark;
      whole = ap (λ v. v ++ zs) h.whole ∙ ap (λ v. h.first ∷ v) tail;
      begin_is = h.first_is;
      first = one.read u.left (u.right ++ c.mark ∷ zs) u.left_is;
      more = λ ds. more ds u.right c.mark zs u.right_is c.mark_is;
      ends = mark_taken tokens.unbrace c.mark (kinds.Mark puncts.RightBrace) c.mark_is refl;
    }

pub body_alone : (g : Context) (a b : List Kind) (n : Declaration) (m : Declarations) → Member (in_structure g) a n → Members (in_structure g) b m → Structure g (kinds.Mark puncts.LeftBrace ∷ ((a ++ b) ++ kinds.Mark puncts.RightBrace ∷ [])) None (syntax.some_members (syntax.next_declaration n m))
body_alone g a b n m one more y ws z zs e stops =
    let q = braced g a b n m one more ws (z ∷ zs) e in
    let r = q.more (q.first.answer ∷ []) in
    moved g (grammar.behind_struct y) (q.begin ∷ q.rest) (ws ++ z ∷ zs) (z ∷ zs) (sym q.whole)
    (record { answer = _; read = chosen g (grammar.behind_struct y) q.begin (tokens.mark tokens.brace) _ q.rest (z ∷ zs) _ (sort_at g.types q.begin (kinds.Mark puncts.LeftBrace) q.begin_is) refl (read_take refl (join q.first.read (join r.read (read_take q.ends read_done)))); alike = ap (λ v. syntax.struct_specifier (syntax.struct_spec (make.is_union y.what.kind) None (syntax.some_members v) nowhere)) (r.alike ∙ ap (λ v. syntax.next_declaration v m) q.first.alike) })

pub tag_and_body : (g : Context) (n : ℕ) (a b : List Kind) (first : Declaration) (m : Declarations) → Member (in_structure g) a first → Members (in_structure g) b m → Structure g (kinds.Name n ∷ kinds.Mark puncts.LeftBrace ∷ ((a ++ b) ++ kinds.Mark puncts.RightBrace ∷ [])) (Some n) (syntax.some_members (syntax.next_declaration first m))
tag_and_body g n a b first m one more y ws z zs e stops =
    let h = head ws (kinds.Name n) _ e in
    let q = braced g a b first m one more h.rest (z ∷ zs) h.rest_is in
    let r = q.more (q.first.answer ∷ []) in
    let body : Reading g (grammar.struct_body y h.first) (syntax.struct_specifier (syntax.struct_spec (make.is_union y.what.kind) (Some n) (syntax.some_members (syntax.next_declaration first m)) nowhere)) (q.begin ∷ q.rest) (z ∷ zs) = record { answer = _; read = chosen g (grammar.struct_body y h.first) q.begin (tokens.mark tokens.brace) _ q.rest (z ∷ zs) _ (sort_at g.types q.begin (kinds.Mark puncts.LeftBrace) q.begin_is) refl (read_take refl (join q.first.read (join r.read (read_take q.ends read_done)))); alike = ap₂ (λ u v. syntax.struct_specifier (syntax.struct_spec (make.is_union y.what.kind) (Some (make.number_of u)) (syntax.some_members v) nowhere)) h.first_is (r.alike ∙ ap (λ v. syntax.next_declaration v m) q.first.alike) } in
    moved g (grammar.behind_struct y) (h.first ∷ (q.begin ∷ q.rest)) (ws ++ z ∷ zs) (z ∷ zs) (ap (λ v. h.first ∷ v) (sym q.whole) ∙ ap (λ v. v ++ z ∷ zs) (sym h.whole)) (tagged g n y h.first (q.begin ∷ q.rest) (z ∷ zs) h.first_is body)

-- ---- enumerations

-- one constant, before a token that isn't in its value
pub record Constant (g : Context) (ks : List Kind) (n : Enumerators) : Type 0 where
  pub read : (ws : List Terminal) (z : Terminal) (zs : List Terminal) → kinds_at ws ≡ ks → 12 < looseness (view g.types z.sort) → Reading g grammar.enumerator n (ws ++ z ∷ zs) (z ∷ zs)

no_equal : (s : Sort) → 12 < looseness s → is_mark tokens.equal s ≡ false
no_equal (tokens.mark tokens.equal) h = absurd (omega arith)
no_equal _ h = refl

constant_with : {m : MaybeExpression} (g : Context) (n : ℕ) (x : Terminal) (xs ys : List Terminal) → x.what.kind ≡ kinds.Name n → list_any (λ t. t == n) g.types ≡ false → Reading g grammar.value_of m xs ys → Reading g grammar.enumerator (syntax.next_enumerator n nowhere m syntax.no_enumerators) (x ∷ xs) ys
constant_with g n x xs ys e free r = record { answer = _; read = chosen g grammar.enumerator x (tokens.name n) _ xs ys _ (name_sort g.types x n e free) refl (read_take refl (join r.read read_done)); alike = ap₂ (λ u v. syntax.next_enumerator (make.number_of u) nowhere v syntax.no_enumerators) e r.alike }

pub constant_alone : (g : Context) (n : ℕ) → list_any (λ t. t == n) g.types ≡ false → Constant g (kinds.Name n ∷ []) (syntax.next_enumerator n nowhere syntax.no_expression syntax.no_enumerators)
constant_alone g n free = record {
  read = λ ws z zs e stops.
      let h = head ws (kinds.Name n) [] e in
      moved g grammar.enumerator (h.first ∷ (z ∷ zs)) (ws ++ z ∷ zs) (z ∷ zs) (ap (λ v. h.first ∷ (v ++ z ∷ zs)) (sym (none_left h.rest h.rest_is)) ∙ ap (λ v. v ++ z ∷ zs) (sym h.whole))
      (constant_with g n h.first (z ∷ zs) (z ∷ zs) h.first_is free (record { answer = None; read = nothing g grammar.value_of z zs stops; alike = refl }));
}

pub constant_valued : (g : Context) (n : ℕ) (v : Expression) → list_any (λ t. t == n) g.types ≡ false → 2 ≤ level v → Complete g v → Constant g (kinds.Name n ∷ kinds.Mark puncts.Assign ∷ tokens_of v) (syntax.next_enumerator n nowhere (syntax.some_expression (bare v)) syntax.no_enumerators)
constant_valued g n v free high inner = record {
  read = λ ws z zs e stops.
      let h = head ws (kinds.Name n) _ e in
      let i = head h.rest (kinds.Mark puncts.Assign) (tokens_of v) h.rest_is in
      let r = inner.levels 11 (omega arith) (omega (arith, high)) i.rest z zs i.rest_is (omega arith) in
      let value : Reading g grammar.value_of (syntax.some_expression (bare v)) (i.first ∷ (i.rest ++ z ∷ zs)) (z ∷ zs) = record { answer = Some r.answer.tree; read = chosen g grammar.value_of i.first (tokens.mark tokens.equal) _ (i.rest ++ z ∷ zs) (z ∷ zs) _ (sort_at g.types i.first (kinds.Mark puncts.Assign) i.first_is) refl (read_take refl (join r.read read_done)); alike = ap (λ v. syntax.some_expression v) r.alike } in
      moved g grammar.enumerator (h.first ∷ (i.first ∷ (i.rest ++ z ∷ zs))) (ws ++ z ∷ zs) (z ∷ zs) (ap (λ w. h.first ∷ (w ++ z ∷ zs)) (sym i.whole) ∙ ap (λ w. w ++ z ∷ zs) (sym h.whole)) (constant_with g n h.first (i.first ∷ (i.rest ++ z ∷ zs)) (z ∷ zs) h.first_is free value);
}

pub record MoreConstants (g : Context) (ks : List Kind) (m : Enumerators) : Type 0 where
  pub commas : Commas ks
  pub read : (es : List make.Enumerator) (ws : List Terminal) (c : Terminal) (zs : List Terminal) → kinds_at ws ≡ ks → c.what.kind ≡ kinds.Mark puncts.RightBrace → Reading g (grammar.enumerators es) (before_enumerators es m) (ws ++ c ∷ zs) (c ∷ zs)

brace_loose : (g : Context) (c : Terminal) (n : ℕ) → n < 14 → c.what.kind ≡ kinds.Mark puncts.RightBrace → n < looseness (view g.types c.sort)
brace_loose g c n h k = subst (λ s. n < looseness s) (sym (sort_at g.types c (kinds.Mark puncts.RightBrace) k)) (omega (arith, h))

pub no_more_constants : (g : Context) → MoreConstants g [] syntax.no_enumerators
no_more_constants g = record {
  commas = no_comma;
  read = λ es ws c zs e k. moved g (grammar.enumerators es) (c ∷ zs) (ws ++ c ∷ zs) (c ∷ zs) (ap (λ w. w ++ c ∷ zs) (sym (none_left ws e))) (record { answer = es; read = nothing g (grammar.enumerators es) c zs (brace_loose g c 13 (omega arith) k); alike = no_enumerator_behind es });
}

record Constant_and (g : Context) (n m : Enumerators) (xs ys : List Terminal) : Type 0 where
  mid : List Terminal
  one : Reading g grammar.enumerator n xs mid
  more : (es : List make.Enumerator) → Reading g (grammar.enumerators es) (before_enumerators es m) mid ys

constant_and : (g : Context) (a b : List Kind) (w m : Enumerators) → Constant g a w → MoreConstants g b m → (ws : List Terminal) (c : Terminal) (zs : List Terminal) → kinds_at ws ≡ a ++ b → c.what.kind ≡ kinds.Mark puncts.RightBrace → Constant_and g w m (ws ++ c ∷ zs) (c ∷ zs)
constant_and g a b w m p more ws c zs e k =
    let u = cut ws a b e in
    let n = next_of g (λ s. 12 < looseness s) b u.right c zs more.commas (omega arith) (brace_loose g c 12 (omega arith) k) u.right_is in
    let r = p.read u.left n.first n.rest u.left_is n.holds in
    record {
      mid = n.first ∷ n.rest;
      one = moved g grammar.enumerator (u.left ++ n.first ∷ n.rest) (ws ++ c ∷ zs) (n.first ∷ n.rest) (ap (λ v. u.left ++ v) (sym n.whole) ∙ sym (append_assoc u.left u.right (c ∷ zs)) ∙ ap (λ v. v ++ c ∷ zs) (sym u.whole)) r;
      more = λ es. moved g (grammar.enumerators es) (u.right ++ c ∷ zs) (n.first ∷ n.rest) (c ∷ zs) n.whole (more.read es u.right c zs u.right_is k);
    }

pub one_more_constant : (g : Context) (a b : List Kind) (w m : Enumerators) → Constant g a w → MoreConstants g b m → MoreConstants g (kinds.Mark puncts.Comma ∷ (a ++ b)) (joined w m)
one_more_constant g a b w m p more = record {
  commas = a_comma (a ++ b);
  read = λ es ws c zs e k.
      let h = head ws (kinds.Mark puncts.Comma) (a ++ b) e in
      let r = constant_and g a b w m p more h.rest c zs h.rest_is k in
      let s = r.more (es ++ r.one.answer ∷ []) in
      moved g (grammar.enumerators es) (h.first ∷ (h.rest ++ c ∷ zs)) (ws ++ c ∷ zs) (c ∷ zs) (ap (λ v. v ++ c ∷ zs) (sym h.whole))
      (record { answer = s.answer; read = chosen g (grammar.enumerators es) h.first (tokens.mark tokens.comma) _ (h.rest ++ c ∷ zs) (c ∷ zs) s.answer (sort_at g.types h.first (kinds.Mark puncts.Comma) h.first_is) refl (read_take refl (join r.one.read (join s.read read_done))); alike = s.alike ∙ enumerator_behind es r.one.answer m ∙ ap (λ v. before_enumerators es (joined v m)) r.one.alike });
}

-- what stands behind `enum`
abbrev pub Enumeration : Context → List Kind → Option ℕ → syntax.Constants → Type 0
Enumeration g ks tag cs = (y : Terminal) (ws : List Terminal) (z : Terminal) (zs : List Terminal) → kinds_at ws ≡ ks → is_mark tokens.brace (view g.types z.sort) ≡ false → Reading g (grammar.behind_enum y) (syntax.enum_specifier (syntax.enum_spec tag cs nowhere)) (ws ++ z ∷ zs) (z ∷ zs)

enum_tagged : {m : Specifier} (g : Context) (n : ℕ) (y x : Terminal) (xs ys : List Terminal) → x.what.kind ≡ kinds.Name n → Reading g (grammar.enum_body y x) m xs ys → Reading g (grammar.behind_enum y) m (x ∷ xs) ys
enum_tagged g n y x xs ys e r = elim (tag_sort g.types x n e) [
  | inl v ↦ record { answer = r.answer; read = chosen g (grammar.behind_enum y) x (tokens.name n) _ xs ys r.answer v refl (read_take refl (join r.read read_done)); alike = r.alike }
  | inr v ↦ record { answer = r.answer; read = chosen g (grammar.behind_enum y) x (tokens.named_type n) _ xs ys r.answer v refl (read_take refl (join r.read read_done)); alike = r.alike }
]

pub enum_tag_alone : (g : Context) (n : ℕ) → Enumeration g (kinds.Name n ∷ []) (Some n) syntax.no_constants
enum_tag_alone g n y ws z zs e stops =
    let h = head ws (kinds.Name n) [] e in
    moved g (grammar.behind_enum y) (h.first ∷ (z ∷ zs)) (ws ++ z ∷ zs) (z ∷ zs) (ap (λ v. h.first ∷ (v ++ z ∷ zs)) (sym (none_left h.rest h.rest_is)) ∙ ap (λ v. v ++ z ∷ zs) (sym h.whole))
    (enum_tagged g n y h.first (z ∷ zs) (z ∷ zs) h.first_is (record { answer = _; read = nothing g (grammar.enum_body y h.first) z zs stops; alike = ap (λ v. syntax.enum_specifier (syntax.enum_spec (Some (make.number_of v)) syntax.no_constants nowhere)) h.first_is }))

record EnumBraced (g : Context) (w m : Enumerators) (ws : List Terminal) (zs : List Terminal) : Type 0 where
  begin : Terminal
  mid : List Terminal
  rest : List Terminal
  end : Terminal
  whole : ws ++ zs ≡ begin ∷ rest
  begin_is : begin.what.kind ≡ kinds.Mark puncts.LeftBrace
  first : Reading g grammar.enumerator w rest mid
  more : (es : List make.Enumerator) → Reading g (grammar.enumerators es) (before_enumerators es m) mid (end ∷ zs)
  ends : is_mark tokens.unbrace end.sort ≡ true

enum_braced : (g : Context) (a b : List Kind) (w m : Enumerators) → Constant g a w → MoreConstants g b m → (ws zs : List Terminal) → kinds_at ws ≡ kinds.Mark puncts.LeftBrace ∷ ((a ++ b) ++ kinds.Mark puncts.RightBrace ∷ []) → EnumBraced g w m ws zs
enum_braced g a b w m one more ws zs e =
    let h = head ws (kinds.Mark puncts.LeftBrace) _ e in
    let c = between h.rest (a ++ b) (kinds.Mark puncts.RightBrace) [] h.rest_is in
    let r = constant_and g a b w m one more c.left c.mark zs c.left_is c.mark_is in
    let tail : h.rest ++ zs ≡ c.left ++ c.mark ∷ zs = ap (λ v. v ++ zs) c.whole ∙ append_assoc c.left (c.mark ∷ c.right) zs ∙ ap (λ v. c.left ++ c.mark ∷ (v ++ zs)) (none_left c.right c.right_is) in
    record {
      begin = h.first;
      mid = r.mid;
      rest = c.left ++ c.mark ∷ zs;
      end = c.mark;
      whole = ap (λ v. v ++ zs) h.whole ∙ ap (λ v. h.first ∷ v) tail;
      begin_is = h.first_is;
      first = r.one;
      more = r.more;
      ends = mark_taken tokens.unbrace c.mark (kinds.Mark puncts.RightBrace) c.mark_is refl;
    }

pub enum_body_alone : (g : Context) (a b : List Kind) (w m : Enumerators) → Constant g a w → MoreConstants g b m → Enumeration g (kinds.Mark puncts.LeftBrace ∷ ((a ++ b) ++ kinds.Mark puncts.RightBrace ∷ [])) None (syntax.some_constants (joined w m))
enum_body_alone g a b w m one more y ws z zs e stops =
    let q = enum_braced g a b w m one more ws (z ∷ zs) e in
    let r = q.more (q.first.answer ∷ []) in
    moved g (grammar.behind_enum y) (q.begin ∷ q.rest) (ws ++ z ∷ zs) (z ∷ zs) (sym q.whole)
    (record { answer = _; read = chosen g (grammar.behind_enum y) q.begin (tokens.mark tokens.brace) _ q.rest (z ∷ zs) _ (sort_at g.types q.begin (kinds.Mark puncts.LeftBrace) q.begin_is) refl (read_take refl (join q.first.read (join r.read (read_take q.ends read_done)))); alike = ap (λ v. syntax.enum_specifier (syntax.enum_spec None (syntax.some_constants v) nowhere)) (r.alike ∙ ap (λ v. joined v m) q.first.alike) })

pub enum_tag_and_body : (g : Context) (n : ℕ) (a b : List Kind) (w m : Enumerators) → Constant g a w → MoreConstants g b m → Enumeration g (kinds.Name n ∷ kinds.Mark puncts.LeftBrace ∷ ((a ++ b) ++ kinds.Mark puncts.RightBrace ∷ [])) (Some n) (syntax.some_constants (joined w m))
enum_tag_and_body g n a b w m one more y ws z zs e stops =
    let h = head ws (kinds.Name n) _ e in
    let q = enum_braced g a b w m one more h.rest (z ∷ zs) h.rest_is in
    let r = q.more (q.first.answer ∷ []) in
    let body : Reading g (grammar.enum_body y h.first) (syntax.enum_specifier (syntax.enum_spec (Some n) (syntax.some_constants (joined w m)) nowhere)) (q.begin ∷ q.rest) (z ∷ zs) = record { answer = _; read = chosen g (grammar.enum_body y h.first) q.begin (tokens.mark tokens.brace) _ q.rest (z ∷ zs) _ (sort_at g.types q.begin (kinds.Mark puncts.LeftBrace) q.begin_is) refl (read_take refl (join q.first.read (join r.read (read_take q.ends read_done)))); alike = ap₂ (λ u v. syntax.enum_specifier (syntax.enum_spec (Some (make.number_of u)) (syntax.some_constants v) nowhere)) h.first_is (r.alike ∙ ap (λ v. joined v m) q.first.alike) } in
    moved g (grammar.behind_enum y) (h.first ∷ (q.begin ∷ q.rest)) (ws ++ z ∷ zs) (z ∷ zs) (ap (λ v. h.first ∷ v) (sym q.whole) ∙ ap (λ v. v ++ z ∷ zs) (sym h.whole)) (enum_tagged g n y h.first (q.begin ∷ q.rest) (z ∷ zs) h.first_is body)
