-- A levelled unit is the only levelled one that its tokens spell, and the one answer to them.
use Rattle.std.proofs.Common.{◌≡◌, ℕ, ◌≤◌, List, [], ◌∷◌, ◌++◌, sym, ap, ap₂, ◌∙◌, arith, append_assoc}
use Rattle.std.proofs.lemmas.List.{append_cancel_right, map-append}
use Rattle.sp_tree.specs.declared.fault.FaultKind.{FaultKind}
use Rattle.sp_tree.specs.declared.token.Kind.TheVariants.{End}
use Rattle.sp_tree.specs.declared.token.Token.{Token}
use Rattle.sp_parse_trees.specs.Syntax.{External}
use Rattle.sp_parse_trees.specs.Spelling.{unit_tokens}
use Rattle.sp_parse_trees.specs.Places.{place_at, PlacedUnit, SpellsUnit}
use Rattle.sp_parse_trees.specs.Levels.{IsLevelledUnit}
use Rattle.sp_parse_trees.specs.Depth.{unit_depth}
use Rattle.sp_parse_grammar.specs.CTable.{whole}
use Rattle.sp_parse_laws.specs.Answers.{kinds_of}
use Rattle.sp_parse_laws.proofs.ReadAgain.{read_again}
use Rattle.sp_parse_laws.specs.UnitAnswers.{text_of, units, IsUnit, IsUnitFault, IsUnitNested, IsOneUnit, UnitsAreReadAgain}
use Rattle.sp_parse_laws.specs.BareUnits.{bare_unit}
use Rattle.sp_parse_laws.proofs.PlacingUnits.{put_unit, restored_unit}
use Rattle.sp_parse_laws.proofs.WholeUnits.{unit_reader}

-- two of the same kinds of tokens are the same but for their places
one_shape : (a b : List External) → IsLevelledUnit a → IsLevelledUnit b → text_of a ≡ text_of b → bare_unit a ≡ bare_unit b
one_shape a b left right same = (read_again units [] whole unit_reader).one_shape a b left right same

-- two that are the same but for their places are the same where those are the places of the tokens
one_placed : (tokens : List Token) (a b : List External) → bare_unit a ≡ bare_unit b → PlacedUnit (place_at tokens) a → PlacedUnit (place_at tokens) b → a ≡ b
one_placed tokens a b same left right = sym (restored_unit (place_at tokens) a left) ∙ ap (put_unit (place_at tokens)) same ∙ restored_unit (place_at tokens) b right

one_unit : (tokens rest : List Token) (a b : List External) → IsLevelledUnit a → IsLevelledUnit b → SpellsUnit tokens a rest → SpellsUnit tokens b rest → a ≡ b
one_unit tokens rest a b left right first second =
    let front = append_cancel_right first.0.front second.0.front rest (sym first.0.whole ∙ second.0.whole) in
    let same : unit_tokens a ≡ unit_tokens b = sym first.0.kinds_of ∙ ap kinds_of front ∙ second.0.kinds_of in
    one_placed tokens a b (one_shape a b left right (ap (λ v. v ++ End ∷ []) same)) first.1 second.1

-- all of the tokens, with the end that is last
all_kinds : (tokens : List Token) (last : Token) (es : List External) → last.kind ≡ End → SpellsUnit tokens es (last ∷ []) → kinds_of tokens ≡ text_of es
all_kinds tokens last es is_end s = ap kinds_of s.0.whole ∙ map-append (λ x. x.kind) s.0.front (last ∷ []) ∙ ap₂ (λ u v. u ++ v ∷ []) s.0.kinds_of is_end

around : (front more : List Token) (bad : Token) → kinds_of (front ++ bad ∷ more) ≡ (kinds_of front ++ bad.kind ∷ []) ++ kinds_of more
around front more bad = map-append (λ x. x.kind) front (bad ∷ more) ∙ sym (append_assoc (kinds_of front) (bad.kind ∷ []) (kinds_of more))

module _ (depth : ℕ) (tokens : List Token) (last : Token) (es : List External) (levelled : IsLevelledUnit es) (shallow : unit_depth es ≤ depth) (is_end : last.kind ≡ End) (spells : SpellsUnit tokens es (last ∷ [])) where
  -- the unit goes on up to each of its tokens, and with it
  goes_on : (front more : List Token) (bad : Token) → tokens ≡ front ++ bad ∷ more → text_of es ≡ (kinds_of front ++ bad.kind ∷ []) ++ kinds_of more
  goes_on front more bad e = sym (all_kinds tokens last es is_end spells) ∙ ap kinds_of e ∙ around front more bad

  no_other : (other : List External) (allowed : ℕ) → IsUnit allowed tokens other → other ≡ es
  no_other other allowed h =
      let same = sym (all_kinds tokens h.last other h.end h.spells) ∙ all_kinds tokens last es is_end spells in
      one_placed tokens other es (one_shape other es h.levelled levelled same) h.spells.1 spells.1

  no_fault : (fault : FaultKind) (count : ℕ) → ¬ IsUnitFault tokens fault count
  no_fault fault count h = h.failing.nothing_goes_on (record { tree = es; rest = kinds_of h.more; levelled = levelled; spells = goes_on h.front h.more h.bad h.whole })

  not_nested : (count : ℕ) → ¬ IsUnitNested depth tokens count
  not_nested count h = let deeper = h.deeper es (kinds_of h.more) levelled (goes_on h.front h.more h.bad h.whole) in absurd (omega (arith, deeper, shallow))

  one_answer : IsOneUnit depth tokens es
  one_answer = record {
    is_unit = record { last = last; end = is_end; spells = spells; levelled = levelled; shallow = shallow };
    no_other = no_other;
    no_fault = no_fault;
    not_nested = not_nested;
  }

pub units_again : UnitsAreReadAgain
units_again = record {
  one_unit = one_unit;
  again = λ depth tokens last es levelled shallow is_end spells. one_answer depth tokens last es levelled shallow is_end spells;
}
