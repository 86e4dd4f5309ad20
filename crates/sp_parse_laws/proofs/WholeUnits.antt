-- A unit with the end of its text: the grammar reads exactly the levelled ones, so where it fails stands the failing token, and where it
-- nests the depth is passed.
use Rattle.std.proofs.Common.{◌≡◌, ℕ, ◌≤◌, true, List, [], ◌∷◌, ◌++◌, refl, sym, ap, ◌∙◌, subst, append_assoc}
use Rattle.std.proofs.lemmas.List.{append_cancel_right, map-append}
use Rattle.sp_tree.specs.declared.token.Kind.TheVariants.{End}
use Rattle.sp_tree.specs.declared.token.Token.{Token}
use Rattle.sp_parse_trees.specs.Syntax.{External}
use Rattle.sp_parse_trees.specs.Spelling.{unit_tokens}
use Rattle.sp_parse_trees.specs.Places.{place_at, PlacedUnit}
use Rattle.sp_parse_trees.specs.Depth.{unit_depth}
use Rattle.sp_parse_trees.specs.Levels.{AreLevelledExternals}
use Rattle.sp_parse_grammar.specs.CTokens as tokens
use Rattle.sp_parse_grammar.specs.CTokens.{is_mark}
use Rattle.sp_parse_grammar.specs.CTable as grammar
use Rattle.sp_parse_grammar.specs.CTable.{Answer, unit, whole, c_symbols}
use Rattle.sp_parse_grammar.specs.Table.{done, take, call, ask, Reads, read_done, read_take, read_call}
use Rattle.sp_parse_grammar.proofs.Readings.{front_of, spelled, at_tokens, at_plan}
use Rattle.sp_parse_tokens.specs.Sorts.{Terminal, terminal, c_tokens, sort_of}
use Rattle.sp_parse_tokens.specs.SyntaxTrees.{c_table}
use Rattle.sp_parse_laws.specs.Spelled.{kinds_at, Agrees}
use Rattle.sp_parse_laws.proofs.TokenKinds.{at_mark}
use Rattle.sp_parse_laws.proofs.Spelling.{split}
use Rattle.sp_parse_laws.proofs.Completing.{between}
use Rattle.sp_parse_laws.proofs.CompleteExpressions.{none_left}
use Rattle.sp_parse_laws.proofs.Lifts.{Reader, the_end}
use Rattle.sp_parse_laws.proofs.Calls.{agreeing, spelled_front}
use Rattle.sp_parse_laws.specs.UnitAnswers.{text_of, units, IsUnit}
use Rattle.sp_parse_laws.specs.BareUnits.{bare_unit}
use Rattle.sp_parse_laws.proofs.Units.{SUnit, units_spelled}
use Rattle.sp_parse_laws.proofs.Levelled.{units_levelled}
use Rattle.sp_parse_laws.proofs.UnitsRead.{whole_read}
use Rattle.sp_parse_laws.proofs.BareUnits.{bare_unit_tokens, bare_unit_depth}
use Rattle.sp_parse_laws.proofs.PlacingUnits.{put_unit, restored_unit}

-- ---- the end of the text

-- What is read with the end of the text is a unit and that end.
record Ended (front : List Terminal) (es : List External) : Type 0 where
  tokens : List Terminal
  end : Terminal
  whole : front ≡ tokens ++ end ∷ []
  is_end : end.what.kind ≡ End
  spells : SUnit tokens es

-- the end that the grammar takes behind a unit
record TakenEnd (xs ys : List Terminal) (es : List External) : Type 0 where
  end : Terminal
  is_end : is_mark tokens.end end.sort ≡ true
  read : Reads c_table (unit []) (ask (unit [])) xs es (end ∷ ys)

behind_unit : (xs mid ys : List Terminal) (a es : List External) → Reads c_table (unit []) (ask (unit [])) xs a mid → Reads c_table whole (take (grammar.only (grammar.outside []) grammar.for_external tokens.end) (λ z. done a)) mid es ys → TakenEnd xs ys es
behind_unit xs mid ys a es r (read_take {x = z} e read_done) = record { end = z; is_end = e; read = r }

by_plan : (xs ys : List Terminal) (es : List External) → Reads c_table whole (call (unit []) (λ a. take (grammar.only (grammar.outside []) grammar.for_external tokens.end) (λ z. done a))) xs es ys → TakenEnd xs ys es
by_plan xs ys es (read_call {ys = mid} {a = a} e r s) = behind_unit xs mid ys a es (read_call e r read_done) s

taken_end : (xs ys : List Terminal) (es : List External) → Reads c_table whole (ask whole) xs es ys → TakenEnd xs ys es
taken_end xs ys es (read_call {q = q} {x = x} {xs = rest} e r read_done) =
    let same : q ≡ call (unit []) (λ a. take (grammar.only (grammar.outside []) grammar.for_external tokens.end) (λ z. done a)) = cc in
    by_plan (x ∷ rest) ys es (at_plan same r)

ended : (front ys : List Terminal) (es : List External) → Reads c_table whole (ask whole) (front ++ ys) es ys → Ended front es
ended front ys es r =
    let t = taken_end (front ++ ys) ys es r in
    let there : front ++ ys ≡ front_of t.read ++ t.end ∷ ys = spelled t.read in
    record {
      tokens = front_of t.read;
      end = t.end;
      whole = append_cancel_right front (front_of t.read ++ t.end ∷ []) ys (there ∙ sym (append_assoc (front_of t.read) (t.end ∷ []) ys));
      is_end = at_mark tokens.end t.end t.is_end;
      spells = units_spelled (unit []) (front_of t.read) (t.end ∷ ys) es (at_tokens there t.read);
    }

-- ---- the reader

pub text_spelled : (front ys : List Terminal) (es : List External) → Reads c_table whole (ask whole) (front ++ ys) es ys → text_of es ≡ kinds_at front
text_spelled front ys es r =
    let e = ended front ys es r in
    ap (λ v. v ++ End ∷ []) e.spells.spells ∙ ap (λ k. kinds_at e.tokens ++ k ∷ []) (sym e.is_end) ∙ sym (map-append (λ x. x.what.kind) e.tokens (e.end ∷ [])) ∙ ap kinds_at (sym e.whole)

pub text_placed : (front : List Token) (next : Token) (more : List Token) (es : List External) → Reads c_table whole (ask whole) (c_tokens front ++ c_tokens (next ∷ more)) es (c_tokens (next ∷ more)) → PlacedUnit (place_at (front ++ next ∷ more)) es
text_placed front next more es r =
    let e = ended (c_tokens front) (c_tokens (next ∷ more)) es r in
    let all = subst (λ v. Agrees (place_at (front ++ next ∷ more)) v) e.whole (agreeing front (next ∷ more)) in
    e.spells.places (place_at (front ++ next ∷ more)) (split (place_at (front ++ next ∷ more)) e.tokens (e.end ∷ []) all).0

-- a levelled unit is read with the end of its text, whatever stands behind that
pub text_read : (es : List External) → AreLevelledExternals [] es → (ws zs : List Terminal) → kinds_at ws ≡ text_of es → (a : List External) × Reads c_table whole (ask whole) (ws ++ the_end ∷ zs) a (the_end ∷ zs) × (bare_unit a ≡ bare_unit es)
text_read es levelled ws zs same =
    let b = between ws (unit_tokens es) End [] same in
    let r = whole_read es levelled b.left b.mark (the_end ∷ zs) b.left_is (sym b.mark.right ∙ ap sort_of b.mark_is) in
    let there : ws ++ the_end ∷ zs ≡ b.left ++ b.mark ∷ the_end ∷ zs = ap (λ v. v ++ the_end ∷ zs) b.whole ∙ append_assoc b.left (b.mark ∷ b.right) (the_end ∷ zs) ∙ ap (λ v. b.left ++ b.mark ∷ (v ++ the_end ∷ zs)) (none_left b.right b.right_is) in
    (r.answer, at_tokens (sym there) r.read, r.holds)

pub same_depth : (a b : List External) → bare_unit a ≡ bare_unit b → unit_depth a ≡ unit_depth b
same_depth a b same = sym (bare_unit_depth a) ∙ ap unit_depth same ∙ bare_unit_depth b

abbrev pub unit_reader : Reader units [] whole
unit_reader = record {
  tree = λ a p. a;
  spells = λ front ys a p r. text_spelled front ys a r;
  levelled = λ front ys a p r. units_levelled whole (front ++ ys) ys a r;
  placed = λ tokens front next more a all r. (
    spelled_front tokens front next more (text_of a) all (text_spelled (c_tokens front) (c_tokens (next ∷ more)) a r),
    subst (λ v. PlacedUnit (place_at v) a) (sym all) (text_placed front next more a r),
  );
  complete = λ t levelled ws zs same. let r = text_read t levelled ws zs same in (r.0, r.1, same_depth r.0 t r.2, λ p. r.2);
  bare = bare_unit;
  kept = λ t. ap (λ v. v ++ End ∷ []) (bare_unit_tokens t);
  spelled = λ tokens rest t h. h.0;
  one_placed = λ tokens rest more a b same h k. sym (restored_unit (place_at tokens) a h.1) ∙ ap (put_unit (place_at tokens)) same ∙ restored_unit (place_at tokens) b k.1;
  stops = tt;
}

-- ---- without the end of the text

pub unit_is : (depth : ℕ) (front : List Token) (last : Token) (es : List External) → last.kind ≡ End → Reads c_table (unit []) (ask (unit [])) (c_tokens (front ++ last ∷ [])) es (c_tokens (last ∷ [])) → unit_depth es ≤ depth → IsUnit depth (front ++ last ∷ []) es
unit_is depth front last es is_end read shallow =
    let there : c_tokens (front ++ last ∷ []) ≡ c_tokens front ++ c_tokens (last ∷ []) = map-append terminal front (last ∷ []) in
    let here = at_tokens there read in
    let s = units_spelled (unit []) (c_tokens front) (c_tokens (last ∷ [])) es here in
    record {
      last = last;
      end = is_end;
      spells = (spelled_front (front ++ last ∷ []) front last [] (unit_tokens es) refl s.spells, s.places (place_at (front ++ last ∷ [])) (agreeing front (last ∷ [])));
      levelled = units_levelled (unit []) (c_tokens front ++ c_tokens (last ∷ [])) (c_tokens (last ∷ [])) es here;
      shallow = shallow;
    }
