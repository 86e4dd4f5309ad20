use Rattle.std.proofs.Common.{◌≡◌, [], Some, None, refl, sym, ap, ◌∙◌, subst, length}
use Rattle.std.proofs.lemmas.List.{nil_from_length}
use Rattle.sp_lexer.specs.declared.spot.Piece.TheVariants.{MarkerLine}
use Rattle.sp_lexer.specs.Markers.{marker_of, seen, IsSmall}
use Rattle.sp_lexer.specs.Scan.{over_marker_line, over_last_line, along}
use Rattle.sp_lexer.proofs.PieceLaws.{rest-passed, newline-after, marker-passed}
use Rattle.sp_lexer.proofs.pieces.pass_marker_line.Goals as goal

pub returns-in_default-marker-clause-passed : goal.returns-in_default-marker-clause-passed
returns-in_default-marker-clause-passed c = rest-passed c.args.spot _ c.args.text.now _ _ MarkerLine c.requires.piece (λ e. cc) c.split_line.ensures.line c.split_line.ensures.rest c.along-beyond.ensures c.requires.fits

pub returns-in_default-split_first-clause-step : goal.returns-in_default-split_first-clause-step
returns-in_default-split_first-clause-step c =
    let m = sym (ap marker_of c.split_line.ensures.line) ∙ sym c.in-Some.ensures.marker ∙ ap (λ m. Some (seen m)) c.in-Named.is in
    let none : c.split_line.result.1.now ≡ [] = nil_from_length _ c.in_default-split_first.ensures.cases in
    over_last_line c.in-Named.line c.in-Named.name.now c.requires.piece m refl (sym c.split_line.ensures.rest ∙ none) none (c.along-beyond.ensures ∙ ap (λ l. along c.args.spot (length l)) c.split_line.ensures.line)

pub returns-in_default-split_first-clause-passed : goal.returns-in_default-split_first-clause-passed
returns-in_default-split_first-clause-passed c = rest-passed c.args.spot _ c.args.text.now _ _ MarkerLine c.requires.piece (λ e. cc) c.split_line.ensures.line c.split_line.ensures.rest c.along-beyond.ensures c.requires.fits

pub returns-clause-step : goal.returns-clause-step
returns-clause-step c =
    let m = sym (ap marker_of c.split_line.ensures.line) ∙ sym c.in-Some.ensures.marker ∙ ap (λ m. Some (seen m)) c.in-Named.is in
    over_marker_line c.in-Named.line c.in-Named.name.now c.in_ok-name.name c.requires.piece m c.in_ok-name.ensures.stored refl (newline-after c.args.text.now _ _ (sym c.split_line.ensures.rest ∙ c.in-Some-split_first.ensures.cases.0)) refl

pub returns-clause-passed : goal.returns-clause-passed
returns-clause-passed c =
    marker-passed c.args.spot _ c.args.text.now _ (newline-after c.args.text.now _ _ (sym c.split_line.ensures.rest ∙ c.in-Some-split_first.ensures.cases.0)) (subst IsSmall c.in-Named.is c.in-Some.ensures.small) refl c.requires.fits

-- nothing stands after the line, so its name isn't added
pub returns-in_default-split_first-clause-named : goal.returns-in_default-split_first-clause-named
returns-in_default-split_first-clause-named c =
    let m = sym (ap marker_of c.split_line.ensures.line) ∙ sym c.in-Some.ensures.marker ∙ ap (λ m. Some (seen m)) c.in-Named.is in
    let none : c.split_line.result.1.now ≡ [] = nil_from_length _ c.in_default-split_first.ensures.cases in
    record { token = None; step = over_last_line c.in-Named.line c.in-Named.name.now c.requires.piece m refl (sym c.split_line.ensures.rest ∙ none) none (c.along-beyond.ensures ∙ ap (λ l. along c.args.spot (length l)) c.split_line.ensures.line); names_are = refl }

pub returns-clause-named : goal.returns-clause-named
returns-clause-named c =
    let m = sym (ap marker_of c.split_line.ensures.line) ∙ sym c.in-Some.ensures.marker ∙ ap (λ m. Some (seen m)) c.in-Named.is in
    record { token = None; step = over_marker_line c.in-Named.line c.in-Named.name.now c.in_ok-name.name c.requires.piece m c.in_ok-name.ensures.stored refl (newline-after c.args.text.now _ _ (sym c.split_line.ensures.rest ∙ c.in-Some-split_first.ensures.cases.0)) refl; names_are = c.in_ok-name.ensures.ok }
