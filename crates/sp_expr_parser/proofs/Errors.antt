-- Where a call ends, said by levelled trees: whether another token could be in the failing one's place, and what is refused.
use Rattle.std.proofs.Common.{◌≡◌, ◌≢◌, ℕ, zero, suc, ◌+◌, ◌-◌, ◌<◌, ◌≤◌, List, [], ◌∷◌, ◌++◌, length, take, drop, inl, inr, refl, sym, ap, ◌∙◌, subst, arith, length-append, length-drop, ◌⊎◌}
use Rattle.std.proofs.lemmas.List.{append_assoc, take-append-drop}
use Rattle.sp_tree.specs.declared.fault.Fault.{Fault}
use Rattle.sp_tree.specs.declared.fault.FaultKind.{FaultKind}
use Rattle.sp_tree.specs.declared.fault.FaultKind.TheVariants.{NestingTooDeep}
use Rattle.sp_tree.specs.declared.token.Kind.{Kind}
use Rattle.sp_tree.specs.declared.token.Kind.TheVariants.{End}
use Rattle.sp_tree.specs.declared.token.Token.{Token}
use Rattle.sp_parse_grammar.specs.Table.{ask, Reads, Fails}
use Rattle.sp_parse_grammar.specs.Depth.{Nests}
use Rattle.sp_parse_grammar.proofs.Readings.{at_tokens, fault_at_tokens}
use Rattle.sp_parse_tokens.specs.Sorts.{c_tokens}
use Rattle.sp_parse_tokens.specs.SyntaxTrees.{c_table}
use Rattle.sp_parse_tokens.specs.Depths.{c_depths}
use Rattle.sp_parse_tokens.specs.Makers.{first_place}
use Rattle.sp_parse_tokens.specs.Ended.{IsEnded}
use Rattle.sp_parse_tokens.specs.Faults.{Wanted}
use Rattle.sp_parse_laws.specs.Answers.{Language, kinds_of, BeginsTree, IsTree, IsFirstBad, IsNested}
use Rattle.sp_parse_laws.proofs.Lifts.{Reader, longest_tree, first_bad, nested_begins, nested_tree}
use Rattle.sp_parse_laws.proofs.Calls.{expression_reader, type_name_reader, specifiers_reader, declarator_reader}
use Rattle.sp_parse_laws.proofs.Instead.{Split, longer, same as alike, shorter, split, read_on, failed_later, failed_there, not_before, nested_later, within}
use Rattle.sp_expr_parser.specs.declared.call.Call.{Call}
use Rattle.sp_expr_parser.specs.declared.call.Call.TheVariants as calls
use Rattle.sp_expr_parser.specs.declared.error.ParseError.{ParseError}
use Rattle.sp_expr_parser.specs.declared.error.ParseError.TheVariants as errors
use Rattle.sp_expr_parser.specs.Parsing.{language_of, ask_of, CouldBe, IsKind, IsRefused, Refused}
use Rattle.sp_expr_parser.specs.Calling.{IsEnd, IsFront, IsPassed, IsUnanswered, NoEnd}
use Rattle.sp_expr_parser.proofs.ParserSteps.{read_front, fault_front_of, nests_front, drop_front, take_front, front_taken, ended_drop}

-- each call's ask reads exactly the levelled trees of its kind
pub reader_of : (call : Call) (types : List ℕ) → Reader (language_of call) types (ask_of call types)
reader_of calls.Expression types = expression_reader types
reader_of calls.TypeName types = type_name_reader types
reader_of calls.Specifiers types = specifiers_reader types
reader_of calls.Declarator types = declarator_reader types

-- ---- ends

pub no_end_before : (front : List Token) (bad : Token) (more : List Token) → IsEnded (front ++ bad ∷ more) → NoEnd front
no_end_before [] bad more e = tt
no_end_before (x ∷ []) bad more e = (e.0, tt)
no_end_before (x ∷ y ∷ f) bad more e = (e.0, no_end_before (y ∷ f) bad more e.1)

pub ended_with : (front : List Token) (x e : Token) → NoEnd front → x.kind ≢ End → e.kind ≡ End → IsEnded (front ++ x ∷ e ∷ [])
ended_with [] x e n other is = (other, is)
ended_with (y ∷ []) x e n other is = (n.0, (other, is))
ended_with (y ∷ z ∷ f) x e n other is = (n.0, ended_with (z ∷ f) x e n.1 other is)

-- ---- another token in the failing one's place

-- what begins with more begins with less
begins_front : (L : Language) (types : List ℕ) (front : List Kind) (k : Kind) → BeginsTree L types (front ++ k ∷ []) → BeginsTree L types front
begins_front L types front k b = record { tree = b.tree; rest = k ∷ b.rest; levelled = b.levelled; spells = b.spells ∙ append_assoc front (k ∷ []) b.rest }

compare : (a b : ℕ) → a ≤ b → (a ≡ b) ⊎ (a < b)
compare zero zero h = inl refl
compare zero (suc b) h = inr (omega arith)
compare (suc a) zero h = absurd (omega (arith, h))
compare (suc a) (suc b) h = elim (compare a b (omega (arith, h))) [ inl e ↦ inl (ap (λ n. suc n) e) | inr l ↦ inr (omega (arith, l)) ]

-- the tokens after fronts of one length
at_once : (f g ys zs : List Token) (x y : Token) → f ++ x ∷ ys ≡ g ++ y ∷ zs → length f ≡ length g → x ≡ y
at_once f g ys zs x y e size = by (split f g ys zs x y e)
  where
    by : Split f g x y → x ≡ y
    by (longer h is) = let more : length g ≡ length f + length (x ∷ h) = ap length is ∙ length-append f (x ∷ h) in absurd (omega (arith, more, size))
    by (alike is eq) = eq
    by (shorter h is) = let more : length f ≡ length g + length (y ∷ h) = ap length is ∙ length-append g (y ∷ h) in absurd (omega (arith, more, size))

same_length : (f rest all : List Token) → all ≡ f ++ rest → length all ≡ length f + length rest
same_length f rest all e = ap length e ∙ length-append f rest

module _ (call : Call) (types : List ℕ) (front : List Token) (x e : Token) (tokens : List Token) (is : tokens ≡ front ++ x ∷ e ∷ []) (on : IsFront (language_of call) types front) where
  sized : (f rest : List Token) → tokens ≡ f ++ rest → length front + 2 ≡ length f + length rest
  sized f rest whole = let a : length tokens ≡ length front + length (x ∷ e ∷ []) = same_length front (x ∷ e ∷ []) tokens is in let b = same_length f rest tokens whole in omega (arith, a, b)

  could_read : (rest : List Token) → (h : IsEnd call types tokens rest) → (more : List Token) (next : Token) → rest ≡ next ∷ more → CouldBe (language_of call) types front x.kind
  could_read rest h more next same =
      let L = language_of call in
      let n = ask_of call types in
      let r = reader_of call types in
      let f = read_front n tokens rest h.answer h.reads in
      let whole : tokens ≡ f.front ++ next ∷ more = f.whole ∙ ap (λ v. f.front ++ v) same in
      let read = at_tokens (ap c_tokens whole) (subst (λ v. Reads c_table n (ask n) (c_tokens tokens) h.answer (c_tokens v)) same h.reads) in
      let long = longest_tree L types n r (L.depth (r.tree h.answer next.place)) f.front next more h.answer read (omega arith) in
      let s = r.spelled (f.front ++ next ∷ more) (long.next ∷ long.more) (r.tree h.answer next.place) long.spells in
      let tree : IsTree L types (kinds_of s.front) = record { tree = r.tree h.answer next.place; levelled = long.levelled; spells = sym s.kinds_of } in
      read_on L types front (e ∷ []) x on.goes_on on.none_whole s.front long.more long.next (sym is ∙ whole ∙ s.whole) tree (λ b. long.longest (subst (λ v. BeginsTree L types (v ++ long.next.kind ∷ [])) s.kinds_of b))

  -- a tree was read
  pub could_ok : (rest : List Token) → IsEnd call types tokens rest → CouldBe (language_of call) types front x.kind
  could_ok rest h = by rest refl h.ended
    where
      by : (ys : List Token) → rest ≡ ys → IsEnded ys → CouldBe (language_of call) types front x.kind
      by [] same ended = absurd ended
      by (next ∷ more) same ended = could_read rest h more next same

  bad_at : (rest : List Token) (w : Wanted) → Fails c_table (ask_of call types) (ask (ask_of call types)) (c_tokens tokens) w (c_tokens rest) → (f : List Token) → tokens ≡ f ++ rest → (more : List Token) (next : Token) → rest ≡ next ∷ more → IsFirstBad (language_of call) types (kinds_of f) next.kind
  bad_at rest w fails f whole more next same =
      let n = ask_of call types in
      let all : tokens ≡ f ++ next ∷ more = whole ∙ ap (λ v. f ++ v) same in
      first_bad (language_of call) types n (reader_of call types) f next more w (fault_at_tokens (ap c_tokens all) (subst (λ v. Fails c_table n (ask n) (c_tokens tokens) w (c_tokens v)) same fails))

  fault_later : (rest : List Token) (w : Wanted) → Fails c_table (ask_of call types) (ask (ask_of call types)) (c_tokens tokens) w (c_tokens rest) → (ys : List Token) → rest ≡ ys → IsEnded ys → length rest < 2 → CouldBe (language_of call) types front x.kind
  fault_later rest w fails [] same ended less = absurd ended
  fault_later rest w fails (next ∷ more) same ended less =
      let f = fault_front_of (ask_of call types) tokens rest w fails in
      let bad = bad_at rest w fails f.front f.whole more next same in
      let size = sized f.front rest f.whole in
      failed_later (language_of call) types front (e ∷ []) x on.goes_on f.front more next (sym is ∙ f.whole ∙ ap (λ v. f.front ++ v) same) (omega (arith, size, less)) bad.goes_on

  fault_there : (rest : List Token) (w : Wanted) → Fails c_table (ask_of call types) (ask (ask_of call types)) (c_tokens tokens) w (c_tokens rest) → (ys : List Token) → rest ≡ ys → IsEnded ys → 2 ≤ length rest → ¬ CouldBe (language_of call) types front x.kind
  fault_there rest w fails [] same ended less = absurd ended
  fault_there rest w fails (next ∷ more) same ended less =
      let f = fault_front_of (ask_of call types) tokens rest w fails in
      let bad = bad_at rest w fails f.front f.whole more next same in
      let size = sized f.front rest f.whole in
      let whole = sym is ∙ f.whole ∙ ap (λ v. f.front ++ v) same in
      by f.front bad size whole (compare (length f.front) (length front) (omega (arith, size, less)))
    where
      by : (f : List Token) → IsFirstBad (language_of call) types (kinds_of f) next.kind → length front + 2 ≡ length f + length rest → front ++ x ∷ e ∷ [] ≡ f ++ next ∷ more → (length f ≡ length front) ⊎ (length f < length front) → ¬ CouldBe (language_of call) types front x.kind
      by f bad size whole (inl h) = failed_there (language_of call) types front (e ∷ []) x on.goes_on f more next whole h bad.nothing_goes_on
      by f bad size whole (inr h) = absurd (not_before (language_of call) types front (e ∷ []) x on.goes_on f more next whole h bad.nothing_goes_on)

  -- it failed past the token
  pub could_later : (rest : List Token) (w : Wanted) → Fails c_table (ask_of call types) (ask (ask_of call types)) (c_tokens tokens) w (c_tokens rest) → IsEnded rest → length rest < 2 → CouldBe (language_of call) types front x.kind
  could_later rest w fails ended less = fault_later rest w fails rest refl ended less

  -- it failed at the token
  pub could_not : (rest : List Token) (w : Wanted) → Fails c_table (ask_of call types) (ask (ask_of call types)) (c_tokens tokens) w (c_tokens rest) → IsEnded rest → 2 ≤ length rest → ¬ CouldBe (language_of call) types front x.kind
  could_not rest w fails ended less = fault_there rest w fails rest refl ended less

  deep_by : (d : ℕ) (rest : List Token) → Nests c_table c_depths (ask_of call types) d (c_tokens tokens) (c_tokens rest) → (ys : List Token) → rest ≡ ys → IsEnded ys → length rest ≤ 2 → CouldBe (language_of call) types front x.kind
  deep_by d rest h [] same ended less = absurd ended
  deep_by d rest h (next ∷ more) same ended less =
      let n = ask_of call types in
      let f = nests_front n d tokens rest h in
      let size = sized f.front rest f.whole in
      let all : tokens ≡ f.front ++ next ∷ more = f.whole ∙ ap (λ v. f.front ++ v) same in
      let nests = subst (λ v. Nests c_table c_depths n d (c_tokens v) (c_tokens (next ∷ more))) all (subst (λ v. Nests c_table c_depths n d (c_tokens tokens) (c_tokens v)) same h) in
      let begins = nested_begins (language_of call) types n (reader_of call types) d f.front next more nests in
      by f.front begins (sym is ∙ all) (compare (length front) (length f.front) (omega (arith, size, less)))
    where
      by : (f : List Token) → BeginsTree (language_of call) types (kinds_of f ++ next.kind ∷ []) → front ++ x ∷ e ∷ [] ≡ f ++ next ∷ more → (length front ≡ length f) ⊎ (length front < length f) → CouldBe (language_of call) types front x.kind
      by f begins whole (inl h) = nested_later (language_of call) types front (e ∷ []) x on.goes_on f more next whole h begins
      by f begins whole (inr h) = failed_later (language_of call) types front (e ∷ []) x on.goes_on f more next whole h (begins_front (language_of call) types (kinds_of f) next.kind begins)

  -- the depth was passed at the token or past it
  pub could_deep : (d : ℕ) (rest : List Token) → Nests c_table c_depths (ask_of call types) d (c_tokens tokens) (c_tokens rest) → IsEnded rest → length rest ≤ 2 → CouldBe (language_of call) types front x.kind
  could_deep d rest h ended less = deep_by d rest h rest refl ended less

  -- it was passed before
  pub passed_before : (d : ℕ) (rest : List Token) → Nests c_table c_depths (ask_of call types) d (c_tokens tokens) (c_tokens rest) → (bad : Token) (more : List Token) → rest ≡ bad ∷ more → 2 < length rest → IsPassed (language_of call) types d front (errors.Fault (record { kind = NestingTooDeep; place = bad.place }))
  passed_before d rest h bad more same less =
      let n = ask_of call types in
      let f = nests_front n d tokens rest h in
      let size = sized f.front rest f.whole in
      let all : tokens ≡ f.front ++ bad ∷ more = f.whole ∙ ap (λ v. f.front ++ v) same in
      let nests = subst (λ v. Nests c_table c_depths n d (c_tokens v) (c_tokens (bad ∷ more))) all (subst (λ v. Nests c_table c_depths n d (c_tokens tokens) (c_tokens v)) same h) in
      let deep = nested_tree (language_of call) types n (reader_of call types) d f.front bad more nests in
      let one : bad ≡ deep.bad = at_once f.front deep.front more deep.more bad deep.bad deep.whole deep.counted in
      let in_front = within (language_of call) types front (e ∷ []) x on.goes_on deep.front deep.more deep.bad (sym is ∙ all ∙ deep.whole) (let c = deep.counted in omega (arith, size, less, c)) in
      record {
        before = deep.front;
        bad = deep.bad;
        after = in_front.0;
        whole = in_front.1;
        same = ap (λ (v : Token). errors.Fault (record { kind = NestingTooDeep; place = v.place })) one;
        goes_on = deep.goes_on;
        deeper = deep.deeper;
      }

-- ---- what is refused

pub whole_front : (front before after more : List Token) (next bad : Token) → front ≡ before ++ next ∷ after → front ++ bad ∷ more ≡ before ++ next ∷ (after ++ bad ∷ more)
whole_front front before after more next bad e = ap (λ v. v ++ bad ∷ more) e ∙ append_assoc before (next ∷ after) (bad ∷ more)

module _ (call : Call) (types : List ℕ) (depth : ℕ) (before text : List Token) where
  -- the place of the token after the first ones
  placed : (front : List Token) (bad : Token) (more : List Token) → text ≡ front ++ bad ∷ more → bad.place ≡ first_place (drop (length front) text)
  placed front bad more whole = sym (ap (λ v. first_place v) (ap (λ v. drop (length front) v) whole ∙ drop_front front (bad ∷ more)))

  pub fault_refused : (front : List Token) (bad : Token) (more : List Token) → text ≡ front ++ bad ∷ more → (w : Wanted) → Fails c_table (ask_of call types) (ask (ask_of call types)) (c_tokens text) w (c_tokens (bad ∷ more))
      → (kind : FaultKind) → IsKind (language_of call) types (record { want = w; before = before; front = front; bad = bad }) kind → IsRefused (language_of call) (ask_of call types) types depth before text (record { kind = kind; place = bad.place })
  fault_refused front bad more whole w fails kind is =
      let n = ask_of call types in
      let first = first_bad (language_of call) types n (reader_of call types) front bad more w (fault_at_tokens (ap c_tokens whole) fails) in
      record {
        count = length front;
        place = placed front bad more whole;
        why = inl (record { front = front; bad = bad; more = more; whole = whole; counted = refl; failing = first; want = w; fails = fails; kind = is });
      }

  pub deep_refused : (rest : List Token) → Nests c_table c_depths (ask_of call types) depth (c_tokens text) (c_tokens rest) → (bad : Token) (more : List Token) → rest ≡ bad ∷ more → IsRefused (language_of call) (ask_of call types) types depth before text (record { kind = NestingTooDeep; place = bad.place })
  deep_refused rest h bad more same =
      let n = ask_of call types in
      let f = nests_front n depth text rest h in
      let whole : text ≡ f.front ++ bad ∷ more = f.whole ∙ ap (λ v. f.front ++ v) same in
      let nests = subst (λ v. Nests c_table c_depths n depth (c_tokens v) (c_tokens (bad ∷ more))) whole (subst (λ v. Nests c_table c_depths n depth (c_tokens text) (c_tokens v)) same h) in
      let here = nested_tree (language_of call) types n (reader_of call types) depth f.front bad more nests in
      record {
        count = length f.front;
        place = placed f.front bad more whole;
        why = inr (refl, subst (λ v. IsNested (language_of call) types depth v (length f.front)) (sym whole) here);
      }

  -- the depth is passed before the failing token
  pub passed_refused : (front : List Token) (bad : Token) (more : List Token) → text ≡ front ++ bad ∷ more → (error : ParseError) → IsUnanswered (language_of call) types depth front error → Refused (language_of call) (ask_of call types) types depth before text error
  passed_refused front bad more whole errors.NoMemory h = tt
  passed_refused front bad more whole (errors.Fault fault) h =
      let all : text ≡ h.before ++ h.bad ∷ (h.after ++ bad ∷ more) = whole ∙ whole_front front h.before h.after more h.bad bad h.whole in
      let is : fault ≡ record { kind = NestingTooDeep; place = h.bad.place } = fault_is fault (record { kind = NestingTooDeep; place = h.bad.place }) h.same in
      record {
        count = length h.before;
        place = ap (λ (v : Fault). v.place) is ∙ placed h.before h.bad (h.after ++ bad ∷ more) all;
        why = inr (ap (λ (v : Fault). v.kind) is, record { front = h.before; bad = h.bad; more = h.after ++ bad ∷ more; whole = all; counted = refl; goes_on = h.goes_on; deeper = h.deeper });
      }
    where
      fault_is : (a b : Fault) → errors.Fault a ≡ errors.Fault b → a ≡ b
      fault_is a b e = cc

-- ---- where a fault is

-- The tokens before the failing one, from the first that was read.
pub record Located (tokens : List Token) (start : ℕ) (rest : List Token) : Type 0 where
  pub front : List Token
  pub whole : drop start tokens ≡ front ++ rest
  pub size : length tokens ≡ (start + length front) + length rest

pub located : (call : Call) (types : List ℕ) (tokens : List Token) (start : ℕ) (rest : List Token) (w : Wanted) → start < length tokens → Fails c_table (ask_of call types) (ask (ask_of call types)) (c_tokens (drop start tokens)) w (c_tokens rest) → Located tokens start rest
located call types tokens start rest w inside fails =
    let f = fault_front_of (ask_of call types) (drop start tokens) rest w fails in
    let left : length (drop start tokens) ≡ length tokens - start = length-drop start tokens in
    let both = same_length f.front rest (drop start tokens) f.whole in
    record { front = f.front; whole = f.whole; size = omega (arith, left, both, inside) }

-- the tokens from one number up to another
pub part_is : (tokens : List Token) (start : ℕ) (rest : List Token) (l : Located tokens start rest) (count : ℕ) → count + length rest ≡ length tokens → take (count - start) (drop start tokens) ≡ l.front
part_is tokens start rest l count e =
    let sized : count - start ≡ length l.front = let s = l.size in omega (arith, s, e) in
    ap (λ n. take n (drop start tokens)) sized ∙ ap (λ v. take (length l.front) v) l.whole ∙ take_front l.front rest

pub before_is : (tokens : List Token) (start : ℕ) (rest : List Token) (l : Located tokens start rest) (count : ℕ) → start < length tokens → count + length rest ≡ length tokens → take count tokens ≡ take start tokens ++ l.front
before_is tokens start rest l count inside e =
    let whole : tokens ≡ (take start tokens ++ l.front) ++ rest = sym (take-append-drop start tokens) ∙ ap (λ v. take start tokens ++ v) l.whole ∙ sym (append_assoc (take start tokens) l.front rest) in
    front_taken tokens (take start tokens ++ l.front) rest count whole e

-- what the tokens before a failing one say
pub front_is : (call : Call) (types : List ℕ) (tokens : List Token) (start : ℕ) (rest : List Token) (w : Wanted) → Fails c_table (ask_of call types) (ask (ask_of call types)) (c_tokens (drop start tokens)) w (c_tokens rest) → (l : Located tokens start rest) → (bad : Token) (more : List Token) → rest ≡ bad ∷ more → IsFront (language_of call) types l.front
front_is call types tokens start rest w fails l bad more same =
    let n = ask_of call types in
    let whole : drop start tokens ≡ l.front ++ bad ∷ more = l.whole ∙ ap (λ v. l.front ++ v) same in
    let first = first_bad (language_of call) types n (reader_of call types) l.front bad more w (fault_at_tokens (ap c_tokens whole) (subst (λ v. Fails c_table n (ask n) (c_tokens (drop start tokens)) w (c_tokens v)) same fails)) in
    record { goes_on = first.goes_on; none_whole = first.none_whole }

pub open_is : (tokens : List Token) (start : ℕ) (rest : List Token) (l : Located tokens start rest) → IsEnded tokens → start < length tokens → (bad : Token) (more : List Token) → rest ≡ bad ∷ more → NoEnd l.front
open_is tokens start rest l ended inside bad more same = no_end_before l.front bad more (subst IsEnded (l.whole ∙ ap (λ v. l.front ++ v) same) (ended_drop tokens start ended inside))

pub fails_at : (call : Call) (types : List ℕ) (text rest : List Token) (w : Wanted) (bad : Token) (more : List Token) → rest ≡ bad ∷ more → Fails c_table (ask_of call types) (ask (ask_of call types)) (c_tokens text) w (c_tokens rest) → Fails c_table (ask_of call types) (ask (ask_of call types)) (c_tokens text) w (c_tokens (bad ∷ more))
fails_at call types text rest w bad more same fails = subst (λ v. Fails c_table (ask_of call types) (ask (ask_of call types)) (c_tokens text) w (c_tokens v)) same fails
