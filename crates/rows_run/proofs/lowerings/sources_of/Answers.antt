use Rattle.std.proofs.Common.{◌≡◌, ◌+◌, ap, ◌∙◌, [], ◌∷◌, length, map, arith}
use Rattle.std.proofs.lemmas.List.{map-append}
use Rattle.sp_front.specs.Sources.{source_of, total_length}
use Rattle.sp_front.specs.declared.sources.Source.{Source}
use Rattle.sp_front.proofs.Totals.{total_last}
use Rattle.rows_run.proofs.lowerings.sources_of.Goals as goal

pub texts-preserved : goal.texts-preserved
texts-preserved c =
    let s : Source = record { name = c.in_ok-name.name; text = c.in_ok-text.text } in
    let items = c.in_ok-push.ensures.items in
    let sources = c.texts.sources.items in
    let all = ap (λ xs. total_length (map source_of xs)) items
    ∙ ap total_length (map-append source_of sources (s ∷ []))
    ∙ total_last (map source_of sources) (source_of s) in
    let same = ap length c.in_ok-text.ensures.items ∙ ap length c.deref.ensures.value in
    let low = c.if-len-room.false in
    let count = c.in_ok-push.ensures.len in
    let before = c.texts.invariant in
    let one = before.0 in
    let other = before.1 in
    let length_is = c.len-room.ensures in
    (omega (arith, one, count), omega (arith, other, all, same, low, length_is))
