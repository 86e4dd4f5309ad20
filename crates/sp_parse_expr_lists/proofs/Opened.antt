-- What is behind the first token of a specifier, over plain variables.
use Rattle.std.proofs.Common.{◌≡◌, ◌≢◌, ℕ, ◌+◌, ◌≤◌, true, false, List, ◌∷◌, length, Some, None, Ok, refl, sym, ap, ◌∙◌, subst, arith}
use Rattle.std.specs.Prelude.{Bool, Option, if◌then◌else◌}
use Rattle.sp_tree.specs.declared.token.Token.{Token}
use Rattle.sp_parse_trees.specs.Syntax.{struct_specifier, struct_spec, enum_specifier, enum_spec}
use Rattle.sp_parse_trees.specs.View.{specifier_of}
use Rattle.sp_parse_trees.specs.declared.tree.Specifier.{Specifier as CodeSpecifier}
use Rattle.sp_parse_grammar.specs.CTokens as tokens
use Rattle.sp_parse_grammar.specs.CTokens.{Mark, Sort, is_mark, is_name, view}
use Rattle.sp_parse_grammar.specs.CTable as grammar
use Rattle.sp_parse_grammar.specs.CTable.{Context}
use Rattle.sp_parse_tokens.specs.Sorts.{terminal, sort_of}
use Rattle.sp_parse_tokens.specs.SyntaxTrees.{syntax_trees}
use Rattle.sp_parse_tokens.specs.Makers.{number_of, is_union, some_members, some_constants, make_word}
use Rattle.sp_parse_tokens.specs.Ended.{IsEnded}
use Rattle.sp_parse_tokens.specs.Scopes.{there}
use Rattle.sp_parse_tokens.specs.declared.part.Part.{Part}
use Rattle.sp_parse_tokens.specs.declared.part.ReadError.{ReadError}
use Rattle.sp_parse_tokens.specs.declared.scope.Scope.{Scope}
use Rattle.sp_parse_tokens.proofs.Viewing.{ended_other}
use Rattle.sp_parse_expr_steps.specs.Reading.{IsRead, IsStop}
use Rattle.sp_parse_expr_steps.specs.Declaring.{AreConstants, IsBody, IsBodyStop, IsConstantsStop, IsSpecifier, IsSpecifierStop, placed}
use Rattle.sp_parse_expr_steps.proofs.Steps.{finished}
use Rattle.sp_parse_expr_steps.proofs.Parts.{stop_before}
use Rattle.sp_parse_expr_steps.proofs.ExpressionSteps.{built, read_before}
use Rattle.sp_parse_expr_steps.proofs.Faulting.{result_before}
use Rattle.sp_parse_expr_steps.proofs.Marks.{brace_is}
use Rattle.sp_parse_expr_steps.proofs.SpecifierSteps.{struct_is}
use Rattle.sp_parse_expr_steps.proofs.Suffixes.{ended_name}
use Rattle.sp_parse_expr_steps.proofs.StructureSteps.{inner, spec_at, body_stop, body_result, constants_stop, constants_result, struct_tag_step, enum_tag_step, struct_brace_on, enum_brace_on, tagged_brace_on, named_brace_on, tagged_alone, named_alone}
use Rattle.sp_parse_expr_lists.specs.Heads.{Begins, HasBody, HasTag, IsPastComma, IsTag, IsTagged, IsWithoutBody, Opens}

-- ---- first tokens

clash : false ≡ true → ⊥
clash e = cc

-- a mark other than the end ends no text
pub ended_behind : (types : List ℕ) (m : Mark) (text rest : List Token) → is_mark m (tokens.mark tokens.end) ≡ false → Begins types m text rest → IsEnded text → IsEnded rest
ended_behind types m text rest other b e = ended_other b.first rest (subst IsEnded b.whole e) (λ same. clash (sym other ∙ subst (λ v. is_mark m (view types v) ≡ true) same b.stands))

-- behind a comma, where one stands there
pub past_ended : (types : List ℕ) (more : Bool) (mid rest : List Token) → IsPastComma types mid more rest → IsEnded mid → IsEnded rest × (length rest ≤ length mid)
past_ended types true mid rest e ended =
    let shorter : length mid ≡ length (e.first ∷ rest) = ap length e.whole in
    (ended_behind types tokens.comma mid rest refl e ended, omega (arith, shorter))
past_ended types false mid rest e ended = (subst IsEnded (sym e.0) ended, omega (arith, ap length e.0))

-- a comma is a token fewer
pub past_fewer : (types : List ℕ) (more : Bool) (mid rest : List Token) → IsPastComma types mid more rest → (if more then 1 else 0) + length rest ≤ length mid
past_fewer types true mid rest e =
    let shorter : length mid ≡ length (e.first ∷ rest) = ap length e.whole in
    omega (arith, shorter)
past_fewer types false mid rest e = omega (arith, ap length e.0)

pub ended_tag : (n : ℕ) (text rest : List Token) → IsTag n text rest → IsEnded text → IsEnded rest
ended_tag n text rest t e = ended_name t.first rest (ap (λ k. is_name (sort_of k)) (sym t.is)) (subst IsEnded t.whole e)

pub enum_is : (s : Sort) → is_mark tokens.enum s ≡ true → s ≡ tokens.mark tokens.enum
enum_is (tokens.mark tokens.enum) e = refl
enum_is _ e = absurd cc

-- ---- bodies

pub body_at : (types : List ℕ) (text inside : List Token) → Begins types tokens.brace text inside → IsEnded text → HasBody types None text inside
body_at types text inside b e =
    let shorter : length text ≡ length (b.first ∷ inside) = ap length b.whole in
    record { opens = b; ended = ended_behind types tokens.brace text inside refl b e; fewer = omega (arith, shorter) }

pub body_behind : (types : List ℕ) (n : ℕ) (text behind inside : List Token) → IsTag n text behind → Begins types tokens.brace behind inside → IsEnded text → HasBody types (Some n) text inside
body_behind types n text behind inside t b e =
    let shorter : length text ≡ length (t.first ∷ behind) = ap length t.whole in
    let less : length behind ≡ length (b.first ∷ inside) = ap length b.whole in
    record { opens = record { behind = behind; tagged = t; opens = b }; ended = ended_behind types tokens.brace behind inside refl b (ended_tag n text behind t e); fewer = omega (arith, shorter, less) }

pub struct_stops : (g : Context) (depth : ℕ) (word : Token) (text : List Token) → is_mark tokens.struct (view g.types (sort_of word.kind)) ≡ true → (s : ReadError) → IsStop g (grammar.behind_struct (terminal word)) depth text s → IsSpecifierStop g depth (view g.types (sort_of word.kind)) word text s
struct_stops g depth word text is s h = subst (λ v. IsSpecifierStop g depth v word text s) (sym (struct_is (view g.types (sort_of word.kind)) is)) h

pub enum_stops : (g : Context) (depth : ℕ) (word : Token) (text : List Token) → is_mark tokens.enum (view g.types (sort_of word.kind)) ≡ true → (s : ReadError) → IsStop g (grammar.behind_enum (terminal word)) depth text s → IsSpecifierStop g depth (view g.types (sort_of word.kind)) word text s
enum_stops g depth word text is s h = subst (λ v. IsSpecifierStop g depth v word text s) (sym (enum_is (view g.types (sort_of word.kind)) is)) h

-- a tag alone
pub struct_without : (g : Context) (depth n : ℕ) (word : Token) (text rest : List Token) → is_mark tokens.struct (view g.types (sort_of word.kind)) ≡ true → 1 ≤ depth → IsTagged g.types n text rest → IsWithoutBody g depth (view g.types (sort_of word.kind)) text (Some n) rest
struct_without g depth n word text rest is room h = subst (λ v. IsWithoutBody g depth v text (Some n) rest) (sym (struct_is (view g.types (sort_of word.kind)) is)) (room, h)

pub enum_without : (g : Context) (depth n : ℕ) (word : Token) (text rest : List Token) → is_mark tokens.enum (view g.types (sort_of word.kind)) ≡ true → IsTagged g.types n text rest → IsWithoutBody g depth (view g.types (sort_of word.kind)) text (Some n) rest
enum_without g depth n word text rest is h = subst (λ v. IsWithoutBody g depth v text (Some n) rest) (sym (enum_is (view g.types (sort_of word.kind)) is)) h

-- neither `struct` nor `enum`
pub word_without : (g : Context) (depth : ℕ) (s : Sort) (text : List Token) → is_mark tokens.struct s ≡ false → is_mark tokens.enum s ≡ false → IsWithoutBody g depth s text None text
word_without g depth (tokens.mark tokens.struct) text a b = absurd cc
word_without g depth (tokens.mark tokens.enum) text a b = absurd cc
word_without g depth _ text a b = (refl, refl)

module _ (types : List ℕ) (scope : Scope) (word : Token) (depth : ℕ) (text inside : List Token) where
  enum_stop_at : (tag : Option ℕ) → Opens types tag text inside → (s : ReadError) → IsConstantsStop (there types scope) scope depth inside s → IsStop (there types scope) (grammar.behind_enum (terminal word)) depth text s
  enum_stop_at None b s h = constants_stop types scope (grammar.behind_enum (terminal word)) (λ es. syntax_trees.enumeration (terminal word) None (Some es)) depth text inside (enum_brace_on (there types scope) (terminal word) text inside b.first b.whole (sym (brace_is (view types (sort_of b.first.kind)) b.stands))) s h
  enum_stop_at (Some n) b s h =
      let g = there types scope in
      let y = terminal word in
      let t = b.tagged in
      let x = terminal t.first in
      let o = b.opens in
      stop_before g (grammar.behind_enum y) (grammar.enum_body y x) (λ a. a) depth text b.behind (enum_tag_step g y text b.behind t.first t.whole n t.is) s (constants_stop types scope (grammar.enum_body y x) (λ es. syntax_trees.enumeration y (Some x) (Some es)) depth b.behind inside (named_brace_on g y b.behind inside o.first o.whole x o.stands) s h)

  enum_read_at : (tag : Option ℕ) → Opens types tag text inside → (part : Part CodeSpecifier) → AreConstants (there types scope) word tag depth inside part.tree part.depth part.rest.now → IsRead (there types scope) (grammar.behind_enum (terminal word)) depth text (placed part.tree word) part.depth part.rest.now
  enum_read_at None b part h =
      let shorter : length text ≡ length (b.first ∷ inside) = ap length b.whole in
      constants_result types scope (grammar.behind_enum (terminal word)) (λ es. syntax_trees.enumeration (terminal word) None (Some es)) depth text inside (enum_brace_on (there types scope) (terminal word) text inside b.first b.whole (sym (brace_is (view types (sort_of b.first.kind)) b.stands))) word None (λ s. placed s word) (λ s es e. ap (λ v. spec_at v word.place) e) (λ es. refl) (omega (arith, shorter)) (Ok part) h
  enum_read_at (Some n) b part h =
      let g = there types scope in
      let y = terminal word in
      let t = b.tagged in
      let x = terminal t.first in
      let o = b.opens in
      let shorter : length text ≡ length (t.first ∷ b.behind) = ap length t.whole in
      let less : length b.behind ≡ length (o.first ∷ inside) = ap length o.whole in
      result_before g (grammar.behind_enum y) (grammar.enum_body y x) (λ v. v) (λ s. placed s word) depth text b.behind (enum_tag_step g y text b.behind t.first t.whole n t.is) (λ a. refl) (omega (arith, shorter)) (Ok part)
      (constants_result types scope (grammar.enum_body y x) (λ es. syntax_trees.enumeration y (Some x) (Some es)) depth b.behind inside (named_brace_on g y b.behind inside o.first o.whole x o.stands) word (Some n) (λ s. placed s word) (λ s es e. ap (λ v. spec_at v word.place) e ∙ ap (λ k. spec_at (enum_specifier (enum_spec (Some (number_of k)) (some_constants (Some es)) word.place)) word.place) t.is) (λ es. refl) (omega (arith, less)) (Ok part) h)

  pub enum_stop : (tag : Option ℕ) → is_mark tokens.enum (view types (sort_of word.kind)) ≡ true → HasBody types tag text inside → (s : ReadError) → IsConstantsStop (there types scope) scope depth inside s → IsSpecifierStop (there types scope) depth (view types (sort_of word.kind)) word text s
  enum_stop tag is b s h = subst (λ v. IsSpecifierStop (there types scope) depth v word text s) (sym (enum_is (view types (sort_of word.kind)) is)) (enum_stop_at tag b.opens s h)

  pub enum_read : (tag : Option ℕ) → is_mark tokens.enum (view types (sort_of word.kind)) ≡ true → HasBody types tag text inside → (part : Part CodeSpecifier) → AreConstants (there types scope) word tag depth inside part.tree part.depth part.rest.now → IsSpecifier (there types scope) depth (view types (sort_of word.kind)) word text part.tree part.depth part.rest.now
  enum_read tag is b part h = subst (λ v. IsSpecifier (there types scope) depth v word text part.tree part.depth part.rest.now) (sym (enum_is (view types (sort_of word.kind)) is)) (enum_read_at tag b.opens part h)

  module _ (room : 1 ≤ depth) where
    struct_stop_at : (tag : Option ℕ) → Opens types tag text inside → (s : ReadError) → IsBodyStop (there types scope) (inner scope) depth inside s → IsStop (there types scope) (grammar.behind_struct (terminal word)) depth text s
    struct_stop_at None b s h = body_stop types scope (grammar.behind_struct (terminal word)) (λ ds. syntax_trees.structure (terminal word) None (Some ds)) depth text inside (struct_brace_on (there types scope) (terminal word) text inside b.first b.whole (sym (brace_is (view types (sort_of b.first.kind)) b.stands))) refl (λ ds. refl) room s h
    struct_stop_at (Some n) b s h =
        let g = there types scope in
        let y = terminal word in
        let t = b.tagged in
        let x = terminal t.first in
        let o = b.opens in
        stop_before g (grammar.behind_struct y) (grammar.struct_body y x) (λ a. a) depth text b.behind (struct_tag_step g y text b.behind t.first t.whole n t.is) s (body_stop types scope (grammar.struct_body y x) (λ ds. syntax_trees.structure y (Some x) (Some ds)) depth b.behind inside (tagged_brace_on g y b.behind inside o.first o.whole x o.stands) refl (λ ds. refl) room s h)

    struct_read_at : (tag : Option ℕ) → Opens types tag text inside → (part : Part CodeSpecifier) → IsBody (there types scope) word tag depth inside part.tree part.depth part.rest.now → IsRead (there types scope) (grammar.behind_struct (terminal word)) depth text (placed part.tree word) part.depth part.rest.now
    struct_read_at None b part h =
        let shorter : length text ≡ length (b.first ∷ inside) = ap length b.whole in
        body_result types scope (grammar.behind_struct (terminal word)) (λ ds. syntax_trees.structure (terminal word) None (Some ds)) depth text inside (struct_brace_on (there types scope) (terminal word) text inside b.first b.whole (sym (brace_is (view types (sort_of b.first.kind)) b.stands))) refl (λ ds. refl) room word None (λ s. placed s word) (λ s ds e. ap (λ v. spec_at v word.place) e) (λ ds. refl) (omega (arith, shorter)) (Ok part) h
    struct_read_at (Some n) b part h =
        let g = there types scope in
        let y = terminal word in
        let t = b.tagged in
        let x = terminal t.first in
        let o = b.opens in
        let shorter : length text ≡ length (t.first ∷ b.behind) = ap length t.whole in
        let less : length b.behind ≡ length (o.first ∷ inside) = ap length o.whole in
        result_before g (grammar.behind_struct y) (grammar.struct_body y x) (λ v. v) (λ s. placed s word) depth text b.behind (struct_tag_step g y text b.behind t.first t.whole n t.is) (λ a. refl) (omega (arith, shorter)) (Ok part)
        (body_result types scope (grammar.struct_body y x) (λ ds. syntax_trees.structure y (Some x) (Some ds)) depth b.behind inside (tagged_brace_on g y b.behind inside o.first o.whole x o.stands) refl (λ ds. refl) room word (Some n) (λ s. placed s word) (λ s ds e. ap (λ v. spec_at v word.place) e ∙ ap (λ k. spec_at (struct_specifier (struct_spec (is_union word.kind) (Some (number_of k)) (some_members (Some ds)) word.place)) word.place) t.is) (λ ds. refl) (omega (arith, less)) (Ok part) h)

    pub struct_stop : (tag : Option ℕ) → is_mark tokens.struct (view types (sort_of word.kind)) ≡ true → HasBody types tag text inside → (s : ReadError) → IsBodyStop (there types scope) (inner scope) depth inside s → IsSpecifierStop (there types scope) depth (view types (sort_of word.kind)) word text s
    struct_stop tag is b s h = subst (λ v. IsSpecifierStop (there types scope) depth v word text s) (sym (struct_is (view types (sort_of word.kind)) is)) (struct_stop_at tag b.opens s h)

    pub struct_read : (tag : Option ℕ) → is_mark tokens.struct (view types (sort_of word.kind)) ≡ true → HasBody types tag text inside → (part : Part CodeSpecifier) → IsBody (there types scope) word tag depth inside part.tree part.depth part.rest.now → IsSpecifier (there types scope) depth (view types (sort_of word.kind)) word text part.tree part.depth part.rest.now
    struct_read tag is b part h = subst (λ v. IsSpecifier (there types scope) depth v word text part.tree part.depth part.rest.now) (sym (struct_is (view types (sort_of word.kind)) is)) (struct_read_at tag b.opens part h)

-- ---- without a body

no_tag : (types : List ℕ) (tag : Option ℕ) (text rest : List Token) → HasTag types tag text rest → ((n : ℕ) → tag ≢ Some n) → ⊥
no_tag types None text rest h other = h
no_tag types (Some n) text rest h other = other n refl

module _ (g : Context) (depth : ℕ) (word : Token) (text rest : List Token) where
  -- one word
  pub word_read : (s : Sort) (tag : Option ℕ) → IsWithoutBody g depth s text tag rest → ((n : ℕ) → tag ≢ Some n) → (sp : CodeSpecifier) → placed sp word ≡ make_word word → IsSpecifier g depth s word text sp 0 rest
  word_read (tokens.mark tokens.struct) tag h other sp e = absurd (no_tag g.types tag text rest h.1 other)
  word_read (tokens.mark tokens.enum) tag h other sp e = absurd (no_tag g.types tag text rest h other)
  word_read _ tag h other sp e = (e, refl, h.1)

  -- a tag that isn't a structure's is an enumeration's
  pub enum_left : (s : Sort) (n : ℕ) → is_mark tokens.struct s ≡ false → IsWithoutBody g depth s text (Some n) rest → s ≡ tokens.mark tokens.enum
  enum_left (tokens.mark tokens.struct) n e h = absurd cc
  enum_left (tokens.mark tokens.enum) n e h = refl
  enum_left _ n e h = let wrong : Some n ≡ None = h.0 in absurd cc

  pub struct_tagged : (n : ℕ) → (1 ≤ depth) × IsTagged g.types n text rest → (sp : CodeSpecifier) → specifier_of sp ≡ struct_specifier (struct_spec (is_union word.kind) (Some n) (some_members None) word.place) → IsRead g (grammar.behind_struct (terminal word)) depth text (placed sp word) 1 rest
  struct_tagged n h sp e =
      let y = terminal word in
      let t = h.1.tagged in
      let a = h.1.alone in
      let x = terminal t.first in
      let shorter : length text ≡ length (t.first ∷ rest) = ap length t.whole in
      let makes = ap (λ v. spec_at v word.place) e ∙ ap (λ k. spec_at (struct_specifier (struct_spec (is_union word.kind) (Some (number_of k)) (some_members None) word.place)) word.place) t.is in
      read_before g (grammar.behind_struct y) (grammar.struct_body y x) (λ v. v) depth 1 text rest rest (placed sp word) (struct_tag_step g y text rest t.first t.whole n t.is)
      (built g (grammar.struct_body y x) depth 1 rest rest (syntax_trees.structure y (Some x) None) (placed sp word) (finished (tagged_alone g y rest a.behind a.first a.whole x a.missing)) makes refl h.0 h.1.ended (omega arith)) refl (omega (arith, shorter))

  pub enum_tagged : (n : ℕ) → IsTagged g.types n text rest → (sp : CodeSpecifier) → specifier_of sp ≡ enum_specifier (enum_spec (Some n) (some_constants None) word.place) → IsRead g (grammar.behind_enum (terminal word)) depth text (placed sp word) 0 rest
  enum_tagged n h sp e =
      let y = terminal word in
      let t = h.tagged in
      let a = h.alone in
      let x = terminal t.first in
      let shorter : length text ≡ length (t.first ∷ rest) = ap length t.whole in
      let makes = ap (λ v. spec_at v word.place) e ∙ ap (λ k. spec_at (enum_specifier (enum_spec (Some (number_of k)) (some_constants None) word.place)) word.place) t.is in
      read_before g (grammar.behind_enum y) (grammar.enum_body y x) (λ v. v) depth 0 text rest rest (placed sp word) (enum_tag_step g y text rest t.first t.whole n t.is)
      (built g (grammar.enum_body y x) depth 0 rest rest (syntax_trees.enumeration y (Some x) None) (placed sp word) (finished (named_alone g y rest a.behind a.first a.whole x a.missing)) makes refl (omega arith) h.ended (omega arith)) refl (omega (arith, shorter))
