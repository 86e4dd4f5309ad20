-- What a part that was read, or where that ended, means for the ask that it is a part of.
use Rattle.std.proofs.Common.{◌≡◌, ℕ, ◌+◌, ◌≤◌, List, [], ◌∷◌, refl, sym, ap, ◌∙◌, subst}
use Rattle.std.specs.Prelude.{Option}
use Rattle.sp_tree.specs.declared.fault.FaultKind.{FaultKind}
use Rattle.sp_tree.specs.declared.token.Token.{Token}
use Rattle.sp_parse_tokens.specs.declared.scope.Scope.{Scope}
use Rattle.sp_parse_tokens.specs.declared.scope.AlsoAllowed.{AlsoAllowed}
use Rattle.sp_parse_tokens.specs.declared.scope.AlsoAllowed.TheVariants as also
use Rattle.sp_parse_tokens.specs.declared.part.ReadError.{ReadError}
use Rattle.sp_parse_tokens.specs.declared.part.ReadError.TheVariants as stops
use Rattle.sp_parse_grammar.specs.CTokens.{Sort, Mark, view}
use Rattle.sp_parse_grammar.specs.CTable as grammar
use Rattle.sp_parse_grammar.specs.CTable.{Context, Item, ItemAnswer, at, plan, c_symbols}
use Rattle.sp_parse_grammar.specs.CTrees.{TokenOf}
use Rattle.sp_parse_grammar.specs.Table.{Plan, take, call, ask, Fails, wanted}
use Rattle.sp_parse_tokens.specs.Sorts.{c_tokens, terminal, sort_of}
use Rattle.sp_parse_tokens.specs.SyntaxTrees.{syntax_trees, c_table}
use Rattle.sp_parse_tokens.specs.Depths.{c_depths, item_down}
use Rattle.sp_parse_tokens.specs.Faults.{fault_there}
use Rattle.sp_parse_tokens.specs.Ended.{IsEnded}
use Rattle.sp_parse_expr_steps.specs.States.{Inside}
use Rattle.sp_parse_tokens.specs.Scopes.{there, allowed_seen, kind_for}
use Rattle.sp_parse_expr_steps.specs.Reading.{kind_at, IsStop, IsStep}
use Rattle.sp_parse_tokens.specs.Expecting.{IsExpected, IsUnexpected, kind_of_first}
use Rattle.sp_parse_expr_steps.proofs.Steps.{took_token, refused, part_fails, part_nests}

-- ---- states over the tokens of a text

abbrev pub IsOn : (g h : Context) (i j : Item syntax_trees) → (ItemAnswer j → ItemAnswer i) → Plan (c_symbols syntax_trees) (at h j) → List Token → List Token → Type 0
IsOn g h i j f p text rest = Inside c_table c_depths (at g i) (at h j) f p (c_tokens text) (c_tokens rest)

-- the production of an ask at the first token, by what that is
pub chosen : (g : Context) (i : Item syntax_trees) (x : Token) (s : Sort) (q : Option (Plan (c_symbols syntax_trees) (at g i))) → s ≡ view g.types (sort_of x.kind) → plan g i (terminal x) s ≡ q → c_table.predict (at g i) (terminal x) ≡ q
chosen g i x s q e p = subst (λ v. plan g i (terminal x) v ≡ q) e p

-- ---- stops, moved outwards

pub stop_before : (g : Context) (i j : Item syntax_trees) (f : ItemAnswer j → ItemAnswer i) (d : ℕ) (text rest : List Token) → IsStep g i j f text rest → (s : ReadError) → IsStop g j d rest s → IsStop g i d text s
stop_before g i j f d text rest b (stops.Fault kind bad) h = (h.0, b.fails h.0 (c_tokens bad.now) h.1, h.2, h.3)
stop_before g i j f d text rest b (stops.TooDeep bad) h = (b.nests d (c_tokens bad.now) h.0, h.1)
stop_before g i j f d text rest b stops.NoMemory h = tt

module _ (g h k : Context) (i j r : Item syntax_trees) (f : ItemAnswer j → ItemAnswer i) (q : ItemAnswer r → Plan (c_symbols syntax_trees) (at h j)) where
  -- of a part inside a production
  pub stop_part : (d e : ℕ) (text rest : List Token) → IsOn g h i j f (call (at k r) q) text rest → d ≤ item_down j r + e → (s : ReadError) → IsStop k r e rest s → IsStop g i d text s
  stop_part d e text rest on less (stops.Fault kind bad) s = (s.0, part_fails on s.1, s.2, s.3)
  stop_part d e text rest on less (stops.TooDeep bad) s = (part_nests on less s.0, s.1)
  stop_part d e text rest on less stops.NoMemory s = tt

-- ---- marks

kind_mark : (types : List ℕ) (scope : Scope) (p : AlsoAllowed) (m : Mark) (s : Sort) → kind_for scope p s ≡ fault_there (wanted (grammar.only (there types scope) (allowed_seen p) m)) s
kind_mark types scope also.Nothing m s = refl
kind_mark types scope also.Name m s = refl
kind_mark types scope also.Parameter m s = refl
kind_mark types scope also.TypeSpecifier m s = refl
kind_mark types scope also.Body m s = refl

kind_first : (types : List ℕ) (scope : Scope) (p : AlsoAllowed) (m : Mark) (text : List Token) (kind : FaultKind) → kind_of_first types scope p text kind → kind ≡ kind_at (wanted (grammar.only (there types scope) (allowed_seen p) m)) text
kind_first types scope p m [] kind e = absurd e
kind_first types scope p m (x ∷ xs) kind e = e ∙ kind_mark types scope p m (view types (sort_of x.kind))

module _ (types : List ℕ) (scope : Scope) (h : Context) (i j : Item syntax_trees) (f : ItemAnswer j → ItemAnswer i) (m : Mark) (p : AlsoAllowed) (k : TokenOf syntax_trees → Plan (c_symbols syntax_trees) (at h j)) where
  -- the mark isn't there
  pub stop_mark : (g : Context) (d : ℕ) (text rest : List Token) → IsOn g h i j f (take (grammar.only (there types scope) (allowed_seen p) m) k) text rest → IsEnded rest → (s : ReadError) → IsUnexpected types scope m p rest s → IsStop g i d text s
  stop_mark g d text rest on ended (stops.Fault kind bad) u =
      let same : bad.now ≡ rest = u.fault.0 in
      let w = wanted (grammar.only (there types scope) (allowed_seen p) m) in
      let fails = refused on (ap c_tokens u.whole) u.missing in
      (w, subst (λ v. Fails c_table (at g i) (ask (at g i)) (c_tokens text) w (c_tokens v)) (sym same) fails, kind_first types scope p m rest kind u.fault.1 ∙ ap (kind_at w) (sym same), subst IsEnded (sym same) ended)
  stop_mark g d text rest on ended (stops.TooDeep bad) u = absurd u.fault
  stop_mark g d text rest on ended stops.NoMemory u = absurd u.fault

  -- the mark is there
  pub on_mark : (g : Context) (text rest now : List Token) → IsOn g h i j f (take (grammar.only (there types scope) (allowed_seen p) m) k) text rest → (e : IsExpected types m rest now) → IsOn g h i j f (k (terminal e.first)) text now
  on_mark g text rest now on e = took_token on (ap c_tokens e.whole) e.stands
