use Rattle.std.proofs.Common.{◌≡◌, ◌+◌, ◌-◌, ◌<◌, ℕ, List, [], ◌∷◌, ◌++◌, map, drop, length, get_or, refl, sym, ap, ◌∙◌, subst, arith, Bor}
use Rattle.std.proofs.lemmas.List.{drop_more, map-append}
use Rattle.std.proofs.lemmas.Result.{err_from_is_err_and}
use Rattle.sp_outside.specs.Told.{Told}
use Rattle.sp_front.specs.Sources.{Source, source_of}
use Rattle.sp_run_command.proofs.ReadingLaws.{bytes, IsAt, begun, more, stopped}
use Rattle.sp_run_command.proofs.reading.read_sources.Goals as goal

-- what is left begins with the next
shifted : (texts : List ℕ → Told) (names : List (Bor (List ℕ))) (i : ℕ) (d : Bor (List ℕ)) (room : ℕ) (sources : List Source) → i < length names
    → IsAt texts (bytes names) (bytes (drop i names)) room sources
    → IsAt texts (bytes names) ((get_or names i d).now ∷ bytes (drop (i + 1) names)) room sources
shifted texts names i d room sources here at =
    subst (λ r. IsAt texts (bytes names) r room sources) (ap bytes (drop_more names i d here)) at

pub loop-name-init : goal.loop-name-init
loop-name-init g c =
    (begun (g.F.Files.text_of c.args.files.now) (bytes c.args.names.now) (map source_of c.new-sources.result.items) (ap (map source_of) c.new-sources.ensures.items), refl, refl, refl)

pub returns-in_err-source-clause-error : goal.returns-in_err-source-clause-error
returns-in_err-source-clause-error g c =
    let p = err_from_is_err_and c.from_residual.result c.from_residual.ensures.1 in
    rw (p.1, p.2)
    (stopped (g.F.Files.text_of c.args.files.now) (bytes c.args.names.now) _ _ c.loop-name.room (map source_of c.loop-name.sources.items)
    (shifted (g.F.Files.text_of c.args.files.now) c.args.names.now c.loop-name.name-index _ c.loop-name.room (map source_of c.loop-name.sources.items) c.loop-name-test.true c.loop-name.invariant.0)
    c.in_err-source.field-0.0 _ _ _ _
    (rw (c.loop-name.invariant.1, c.loop-name.invariant.3) at c.in_err-source.ensures.error))

pub loop-name-preserved : goal.loop-name-preserved
loop-name-preserved g c =
    let texts = g.F.Files.text_of c.args.files.now in
    let names = c.args.names.now in
    let source = source_of c.in_ok-source.source in
    let fits : (c.loop-name.room - c.len.result) + length source.text ≡ c.loop-name.room = omega (arith, c.len.ensures, c.in_ok-source.ensures.fits) in
    let last : map source_of c.push.new.self.items ≡ map source_of c.loop-name.sources.items ++ source ∷ [] =
    ap (map source_of) c.in_ok-push.ensures.items
    ∙ map-append source_of c.loop-name.sources.items (c.in_ok-source.source ∷ []) in (
      subst (λ ss. IsAt texts (bytes names) (bytes (drop (c.loop-name.name-index + 1) names)) (c.loop-name.room - c.len.result) ss) (sym last)
          (more texts (bytes names) _ _ c.loop-name.room (map source_of c.loop-name.sources.items)
          (shifted texts names c.loop-name.name-index _ c.loop-name.room (map source_of c.loop-name.sources.items) c.loop-name-test.true c.loop-name.invariant.0)
          source (c.loop-name.room - c.len.result) c.in_ok-source.ensures.name (rw c.loop-name.invariant.1 at c.in_ok-source.ensures.text) fits),
      c.read_source.ensures.same_texts ∙ c.loop-name.invariant.1,
      c.read_source.ensures.same_failing ∙ c.loop-name.invariant.2,
      c.in_ok-source.ensures.quiet (λ e. cc) ∙ c.loop-name.invariant.3,
    )
