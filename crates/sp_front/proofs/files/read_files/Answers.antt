use Rattle.std.proofs.Common.{◌≡◌, ◌+◌, ◌<◌, ℕ, List, ◌∷◌, map, drop, length, get_or, sym, ap, ◌∙◌, subst}
use Rattle.std.proofs.lemmas.List.{drop_more}
use Rattle.std.proofs.lemmas.Result.{err_from_is_err_and}
use Rattle.sp_base_checked.specs.Units.{checked_unit_of}
use Rattle.sp_front.specs.Sources.{source_of}
use Rattle.sp_front.specs.declared.sources.Source.{Source as CodeSource}
use Rattle.sp_front.proofs.FileSteps.{IsAt, begun, more, stopped, one_more}
use Rattle.sp_front.proofs.files.read_files.Goals as goal

-- the files that are left begin with the next
next_is : (sources : List CodeSource) (i : ℕ) (s : CodeSource) → i < length sources → s ≡ get_or sources i s
    → map source_of (drop i sources) ≡ source_of s ∷ map source_of (drop (i + 1) sources)
next_is sources i s here is =
    ap (map source_of) (drop_more sources i s here)
    ∙ ap (λ x. source_of x ∷ map source_of (drop (i + 1) sources)) (sym is)

pub files-init : goal.files-init
files-init c =
    begun (map source_of c.args.sources.now) c.args.names.now (map checked_unit_of c.new-units.result.items)
    c.requires.empty (ap (map checked_unit_of) c.new-units.ensures.items) c.requires.within

pub files-preserved : goal.files-preserved
files-preserved c =
    let whole = map source_of c.args.sources.now in
    let units = map checked_unit_of c.files.units.items in
    let rest = map source_of (drop (c.files.source-index + 1) c.args.sources.now) in
    let s = source_of c.source-item.result in
    let at : IsAt whole (s ∷ rest) c.files.names c.files.room units =
    subst (λ r. IsAt whole r c.files.names c.files.room units)
    (next_is c.args.sources.now c.files.source-index c.source-item.result c.files-test.true c.source-item.is)
    c.files.invariant in
    subst (λ us. IsAt whole rest c.read_file.new.names c.in_ok-file.file.room us)
    (sym (one_more c.files.units.items c.push.new.self.items c.in_ok-file.file.unit c.in_ok-push.ensures.items))
    (more whole rest s c.files.names c.files.room units c.read_file.new.names c.in_ok-file.file.room
    (checked_unit_of c.in_ok-file.file.unit) at c.in_ok-file.ensures.answer c.in_ok-file.ensures.count)

pub returns-in_err-file : goal.returns-in_err-file
returns-in_err-file c =
    let p = err_from_is_err_and c.from_residual.result c.from_residual.ensures.1 in
    let whole = map source_of c.args.sources.now in
    let units = map checked_unit_of c.files.units.items in
    let rest = map source_of (drop (c.files.source-index + 1) c.args.sources.now) in
    let s = source_of c.source-item.result in
    let at : IsAt whole (s ∷ rest) c.files.names c.files.room units =
    subst (λ r. IsAt whole r c.files.names c.files.room units)
    (next_is c.args.sources.now c.files.source-index c.source-item.result c.files-test.true c.source-item.is)
    c.files.invariant in
    rw (p.1, p.2)
    (stopped whole rest s c.files.names c.files.room units c.read_file.new.names c.in_err-file.field-0.0 at
    c.in_err-file.ensures.answer)
