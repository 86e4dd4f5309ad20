-- What stands before each token that a plan reads, and whether it is in a function, kept production by production: whether the last token
-- is `(` or `,`, so that a parameter may begin there.
use Rattle.std.proofs.Common.{◌≡◌, ◌⊎◌, inl, inr, ℕ, Bool, true, false, List, [], ◌∷◌, ◌++◌, Some, None, refl, sym, ap, ◌∙◌, subst}
use Rattle.std.specs.Prelude.{Option, ⊤, ◌&&◌, ◌||◌, if◌then◌else◌}
use Rattle.sp_parse_grammar.specs.CTokens as tokens
use Rattle.sp_parse_grammar.specs.CTokens.{Sort, is_mark, is_name, is_typed, view as viewed}
use Rattle.sp_parse_grammar.specs.CTable as grammar
use Rattle.sp_parse_grammar.specs.CTable.{Context, AlsoAllowed, Class, ItemAnswer, Ask, Answer, at, unit, whole, c_symbols, accepts, plan}
use Rattle.sp_parse_grammar.specs.Table.{Plan, done, take, call, Heads, Reads, read_done, read_take, read_call, Fails, fail_take, fail_later, fail_ask, fail_inside, fail_behind, wanted, asked}
use Rattle.sp_parse_grammar.proofs.Readings.{front_of, fault_front}
use Rattle.sp_parse_tokens.specs.Sorts.{Terminal}
use Rattle.sp_parse_tokens.specs.SyntaxTrees.{syntax_trees, c_table}
use Rattle.sp_parse_tokens.specs.Depths.{Part}
use Rattle.sp_parse_tokens.specs.Faults.{Wanted, context_of, begins_parameter, is_empty}
use Rattle.sp_parse_fault_laws.proofs.TypeBehind.{is_for_type}
use Rattle.sp_parse_fault_laws.proofs.TypeNotes.{tells_type}

-- ---- the token before

abbrev pub opens_list : Sort → Bool
opens_list s = is_mark tokens.opening s || is_mark tokens.comma s

-- the last of these tokens is `(` or `,`; where there is none, as given
abbrev pub last : Bool → List Terminal → Bool
last l [] = l
last l (x ∷ xs) = last (opens_list x.sort) xs

pub last_append : (l : Bool) (us vs : List Terminal) → last l (us ++ vs) ≡ last (last l us) vs
last_append l [] vs = refl
last_append l (u ∷ us) vs = last_append (opens_list u.sort) us vs

abbrev pub next_named : List ℕ → List Terminal → Bool
next_named types [] = false
next_named types (x ∷ xs) = is_name (viewed types x.sort)

-- ---- what is known where a mark is wanted, where a part begins and behind it

abbrev pub AllowedBy : AlsoAllowed → Bool → Type 0
AllowedBy grammar.for_parameter l = l ≡ true
AllowedBy grammar.for_member l = l ≡ false
AllowedBy grammar.for_external l = l ≡ false
AllowedBy _ l = ⊤

abbrev pub Allowed : Class → Bool → Type 0
Allowed (grammar.only g p m) l = AllowedBy p l
Allowed _ l = ⊤

pub calm : (p : AlsoAllowed) (l : Bool) → is_for_type p ≡ false → AllowedBy p l
calm grammar.for_parameter l e = absurd cc
calm grammar.for_member l e = absurd cc
calm grammar.for_external l e = absurd cc
calm _ l e = tt

abbrev pub StartItem : Context → Part → Bool → List Terminal → Type 0
StartItem g (grammar.specifiers stores seen sp) l xs = (is_typed seen ≡ true) ⊎ ((next_named g.types xs ≡ false) ⊎ (stores && is_empty sp.all ≡ l))
StartItem g (grammar.group f) l xs = l ≡ true
StartItem g (grammar.behind_group f y) l xs = l ≡ true
StartItem g grammar.parameters l xs = l ≡ true
StartItem g grammar.parameter l xs = (next_named g.types xs ≡ false) ⊎ (l ≡ true)
StartItem g (grammar.behind_comma c ps) l xs = l ≡ true
StartItem g grammar.type_name l xs = (next_named g.types xs ≡ false) ⊎ (l ≡ false)
StartItem g grammar.member l xs = l ≡ false
StartItem g (grammar.members ds) l xs = l ≡ false
StartItem g grammar.declaration l xs = next_named g.types xs ≡ false
StartItem g grammar.external l xs = next_named g.types xs ≡ false
StartItem g _ l xs = ⊤

abbrev pub Start : Ask syntax_trees → Bool → List Terminal → Type 0
Start (at g i) l xs = StartItem g i l xs
Start (unit types) l xs = l ≡ false
Start whole l xs = l ≡ false

-- these begin wherever they stand
abbrev pub Free : Part → Type 0
Free (grammar.specifiers stores seen sp) = ⊥
Free (grammar.group f) = ⊥
Free (grammar.behind_group f y) = ⊥
Free grammar.parameters = ⊥
Free grammar.parameter = ⊥
Free (grammar.behind_comma c ps) = ⊥
Free grammar.type_name = ⊥
Free grammar.member = ⊥
Free (grammar.members ds) = ⊥
Free grammar.declaration = ⊥
Free grammar.external = ⊥
Free _ = ⊤

pub free_start : (g : Context) (i : Part) (l : Bool) (xs : List Terminal) → Free i → StartItem g i l xs
free_start g (grammar.specifiers stores seen sp) l xs h = absurd h
free_start g (grammar.group f) l xs h = absurd h
free_start g (grammar.behind_group f y) l xs h = absurd h
free_start g grammar.parameters l xs h = absurd h
free_start g grammar.parameter l xs h = absurd h
free_start g (grammar.behind_comma c ps) l xs h = absurd h
free_start g grammar.type_name l xs h = absurd h
free_start g grammar.member l xs h = absurd h
free_start g (grammar.members ds) l xs h = absurd h
free_start g grammar.declaration l xs h = absurd h
free_start g grammar.external l xs h = absurd h
free_start g _ l xs h = tt

-- of the answer
abbrev pub Fact : (i : Part) → ItemAnswer i → Type 0
Fact grammar.type_name n = is_for_type n.behind ≡ false
Fact grammar.parameter p = is_for_type p.behind ≡ false
Fact (grammar.more_parameters qs) ps = is_for_type qs.behind ≡ false → is_for_type ps.behind ≡ false
Fact (grammar.behind_comma c qs) ps = is_for_type ps.behind ≡ false
Fact (grammar.member_items js) is = is_for_type js.behind ≡ false → is_for_type is.behind ≡ false
Fact grammar.items is = is_for_type is.behind ≡ false
Fact grammar.item is = is_for_type is.behind ≡ false
Fact (grammar.more_items js) is = is_for_type js.behind ≡ false → is_for_type is.behind ≡ false
Fact (grammar.declarator f) d = is_for_type d.behind ≡ false
Fact (grammar.direct f) d = is_for_type d.behind ≡ false
Fact (grammar.group f) d = is_for_type d.behind ≡ false
Fact (grammar.behind_group f y) d = is_for_type d.behind ≡ false
Fact (grammar.declarator_suffixes d) e = is_for_type d.behind ≡ false → is_for_type e.behind ≡ false
Fact _ o = ⊤

-- and of the token before what follows
abbrev pub LastFact : (i : Part) → ItemAnswer i → Bool → Type 0
LastFact grammar.parameters ps r = AllowedBy ps.behind r
LastFact grammar.member d r = r ≡ false
LastFact (grammar.members ds) es r = r ≡ false
LastFact grammar.external d r = r ≡ false
LastFact (grammar.external_items sp) d r = r ≡ false
LastFact (grammar.behind_declarator sp d) e r = r ≡ false
LastFact _ o r = ⊤

abbrev pub After : (n : Ask syntax_trees) → Answer n → Bool → Type 0
After (at g i) o r = Fact i o × LastFact i o r
After (unit types) o r = r ≡ false
After whole o r = ⊤

-- ---- whether it is in a function

abbrev pub Plain : Part → Type 0
Plain grammar.external = ⊥
Plain (grammar.external_items sp) = ⊥
Plain (grammar.behind_declarator sp d) = ⊥
Plain _ = ⊤

abbrev pub PlainAsk : Ask syntax_trees → Type 0
PlainAsk (at g i) = Plain i
PlainAsk _ = ⊥

abbrev pub inside_of : Ask syntax_trees → Bool
inside_of (at g i) = g.inside
inside_of _ = false

abbrev pub InClass : Ask syntax_trees → Class → Type 0
InClass m grammar.any = ⊤
InClass m (grammar.ordinary g) = PlainAsk m → g.inside ≡ inside_of m
InClass m (grammar.only g p t) = PlainAsk m → g.inside ≡ inside_of m

abbrev pub Under : Ask syntax_trees → Ask syntax_trees → Type 0
Under m n = PlainAsk m → (inside_of n ≡ inside_of m) × PlainAsk n

-- ---- plans

abbrev pub Good : {m : Ask syntax_trees} → Plan (c_symbols syntax_trees) m → Bool → List Terminal → Type 0
Good {m} (done o) l xs = After m o l
Good {m} (take c k) l xs = InClass m c × Allowed c l × ((x : Terminal) (ys : List Terminal) → xs ≡ x ∷ ys → accepts c x ≡ true → Good (k x) (opens_list x.sort) ys)
Good {m} (call n k) l xs = Under m n × Start n l xs × ((a : Answer n) (r : Bool) (ys : List Terminal) → After n a r → Good (k a) r ys)

abbrev pub GoodAt : {m : Ask syntax_trees} → Bool → List Terminal → Option (Plan (c_symbols syntax_trees) m) → Type 0
GoodAt l xs None = ⊤
GoodAt l xs (Some q) = Good q l xs

-- the name that a token is
pub named : (s : Sort) → is_name s ≡ true → (n : ℕ) × (s ≡ tokens.name n)
named (tokens.name n) e = (n, refl)
named _ e = absurd cc

take_claim : (c : Class) (l : Bool) → Allowed c l → tells_type (wanted c) ≡ true → begins_parameter (wanted c) ≡ l
take_claim grammar.any l h e = absurd cc
take_claim (grammar.ordinary g) l h e = absurd cc
take_claim (grammar.only g grammar.for_parameter m) l h e = sym h
take_claim (grammar.only g grammar.for_member m) l h e = sym h
take_claim (grammar.only g grammar.for_external m) l h e = sym h
take_claim (grammar.only g _ m) l h e = absurd cc

typed_ends : (g : Context) (stores : Bool) (seen : tokens.Seen) (sp : grammar.Specified syntax_trees) (x : Terminal) (n : ℕ) → viewed g.types x.sort ≡ tokens.name n → is_typed seen ≡ true → c_table.predict (at g (grammar.specifiers stores seen sp)) x ≡ None → ⊥
typed_ends g stores seen sp x n is_x e f =
    let ends : c_table.predict (at g (grammar.specifiers stores seen sp)) x ≡ (if is_typed seen then Some (done sp) else None) = ap (plan g (grammar.specifiers stores seen sp) x) is_x in
    let there : c_table.predict (at g (grammar.specifiers stores seen sp)) x ≡ Some (done sp) = ends ∙ ap (λ b. if b then Some (done sp) else None) e in
    cc

specifiers_claim : (g : Context) (stores : Bool) (seen : tokens.Seen) (sp : grammar.Specified syntax_trees) (l : Bool) (x : Terminal) (xs : List Terminal) → StartItem g (grammar.specifiers stores seen sp) l (x ∷ xs) → c_table.predict (at g (grammar.specifiers stores seen sp)) x ≡ None → is_name (viewed g.types x.sort) ≡ true → stores && is_empty sp.all ≡ l
specifiers_claim g stores seen sp l x xs (inl typed) e is_x = let t = named (viewed g.types x.sort) is_x in absurd (typed_ends g stores seen sp x t.0 t.1 typed e)
specifiers_claim g stores seen sp l x xs (inr (inl none)) e is_x = absurd (let apart : true ≡ false = sym is_x ∙ none in cc)
specifiers_claim g stores seen sp l x xs (inr (inr same)) e is_x = same

ask_claim : (n : Ask syntax_trees) (l : Bool) (x : Terminal) (xs : List Terminal) → Start n l (x ∷ xs) → c_table.predict n x ≡ None → is_name (viewed (context_of (asked n)).types x.sort) ≡ true → tells_type (asked n) ≡ true → begins_parameter (asked n) ≡ l
ask_claim (at g (grammar.specifiers true seen sp)) l x xs h e is_x f = specifiers_claim g true seen sp l x xs h e is_x
ask_claim (at g (grammar.specifiers false seen sp)) l x xs h e is_x f = specifiers_claim g false seen sp l x xs h e is_x
ask_claim (at g (grammar.group grammar.abstract)) l x xs h e is_x f = sym h
ask_claim (at g (grammar.group grammar.concrete)) l x xs h e is_x f = absurd cc
ask_claim (at g (grammar.group grammar.either)) l x xs h e is_x f = absurd cc
ask_claim (at g i) l x xs h e is_x f = absurd cc
ask_claim (unit types) l x xs h e is_x f = absurd cc
ask_claim whole l x xs h e is_x f = absurd cc

module _ (each : (n : Ask syntax_trees) (l : Bool) (x : Terminal) (xs : List Terminal) → Start n l (x ∷ xs) → GoodAt l (x ∷ xs) (c_table.predict n x)) where
  production : (n : Ask syntax_trees) (l : Bool) (x : Terminal) (xs : List Terminal) (q : Plan (c_symbols syntax_trees) n) → Start n l (x ∷ xs) → c_table.predict n x ≡ Some q → Good q l (x ∷ xs)
  production n l x xs q h e = subst (GoodAt l (x ∷ xs)) e (each n l x xs h)

  reads : {m : Ask syntax_trees} {p : Plan (c_symbols syntax_trees) m} {xs ys : List Terminal} {o : Answer m} (r : Reads c_table m p xs o ys) (l : Bool) → Good p l xs → After m o (last l (front_of r))
  reads read_done l good = good
  reads (read_take {x = x} {xs = xs} e r) l good = reads r (opens_list x.sort) (good.2 x xs refl e)
  reads {m = m} {o = o} (read_call {n = n} {q = q} {x = x} {xs = xs} {ys = mid} {a = a} e r s) l good =
      let part = reads r l (production n l x xs q good.1 e) in
      subst (After m o) (sym (last_append l (front_of r) (front_of s))) (reads s (last l (front_of r)) (good.2 a (last l (front_of r)) mid part))

  -- At a name where a type is wanted, a parameter could begin exactly behind `(` or `,`.
  pub fails : {m : Ask syntax_trees} {p : Plan (c_symbols syntax_trees) m} {xs bad : List Terminal} {w : Wanted} (h : Fails c_table m p xs w bad) (l : Bool) → Good p l xs → (b : Terminal) → Heads bad b → is_name (viewed (context_of w).types b.sort) ≡ true → tells_type w ≡ true → begins_parameter w ≡ last l (fault_front h)
  fails (fail_take {c = c} e) l good b head is_b told = take_claim c l good.1 told
  fails (fail_later {x = x} {xs = xs} e h) l good b head is_b told = fails h (opens_list x.sort) (good.2 x xs refl e) b head is_b told
  fails (fail_ask {n = n} {x = x} {xs = xs} e) l good b head is_b told = ask_claim n l x xs good.1 e (subst (λ v. is_name (viewed (context_of (asked n)).types v.sort) ≡ true) (sym head) is_b) told
  fails (fail_inside {n = n} {q = q} {x = x} {xs = xs} e h) l good b head is_b told = fails h l (production n l x xs q good.1 e) b head is_b told
  fails (fail_behind {n = n} {q = q} {x = x} {xs = xs} {ys = mid} {a = a} e r h) l good b head is_b told =
      let part = reads r l (production n l x xs q good.1 e) in
      fails h (last l (front_of r)) (good.2 a (last l (front_of r)) mid part) b head is_b told ∙ sym (last_append l (front_of r) (fault_front h))

  class_inside : (m : Ask syntax_trees) (c : Class) (x : Terminal) → PlainAsk m → InClass m c → accepts c x ≡ false → (context_of (wanted c)).inside ≡ inside_of m
  class_inside m grammar.any x plain h e = absurd cc
  class_inside m (grammar.ordinary g) x plain h e = h plain
  class_inside m (grammar.only g p t) x plain h e = h plain

  asked_inside : (n : Ask syntax_trees) → (context_of (asked n)).inside ≡ inside_of n
  asked_inside (at g i) = refl
  asked_inside (unit types) = refl
  asked_inside whole = refl

  -- What is wanted in a part is in a function where the part is.
  pub inside : {m : Ask syntax_trees} {p : Plan (c_symbols syntax_trees) m} {xs bad : List Terminal} {w : Wanted} (h : Fails c_table m p xs w bad) (l : Bool) → Good p l xs → PlainAsk m → (context_of w).inside ≡ inside_of m
  inside {m = m} (fail_take {c = c} {x = x} e) l good plain = class_inside m c x plain good.0 e
  inside (fail_later {x = x} {xs = xs} e h) l good plain = inside h (opens_list x.sort) (good.2 x xs refl e) plain
  inside (fail_ask {n = n} e) l good plain = asked_inside n ∙ (good.0 plain).0
  inside (fail_inside {n = n} {q = q} {x = x} {xs = xs} e h) l good plain = let under = good.0 plain in inside h l (production n l x xs q good.1 e) under.1 ∙ under.0
  inside (fail_behind {n = n} {q = q} {x = x} {xs = xs} {ys = mid} {a = a} e r h) l good plain =
      let part = reads r l (production n l x xs q good.1 e) in
      inside h (last l (front_of r)) (good.2 a (last l (front_of r)) mid part) plain
