use Rattle.std.proofs.Common.{rules, ◌≡◌, ◌∙◌, refl, sym, ap, true}
use Rattle.clap.specs.Words.{app_of, is_simple, is_simple_and_free}
use Rattle.sp_run_words.specs.Reader.{reader_app}
use Rattle.sp_run_words.proofs.RequestLaws.{is_read, nothing_read}
use Rattle.sp_run_words.proofs.request.read_words.Goals as goal

is_free : is_simple_and_free reader_app ≡ true
is_free = refl

pub returns-in-Err-2 : goal.returns-in-Err-2
returns-in-Err-2 c =
    let reads : app_of c.in_ok-reader.field-0 ≡ reader_app = search rules in
    let kinds = c.in-Err.ensures.kinds (ap is_simple_and_free reads ∙ is_free) in
    sym (nothing_read c.args.words.now _ reads c.in-Err.error kinds (search rules))

pub returns : goal.returns
returns c =
    let reads : app_of c.in_ok-reader.field-0 ≡ reader_app = search rules in
    let passes = c.in-Ok.ensures.kinds (ap is_simple_and_free reads ∙ is_free) in
    let rows = c.in-Ok.ensures.matches (ap is_simple reads) in
    is_read c.args.words.now _ reads c.in-Ok.matches c.get_flag-sharp.result
    c.get_flag-values.result c.get_flag-nodes.result c.get_strs.result c.in_ok-files.files.items
    passes rows.0 (search rules, search rules) (search rules, search rules)
    (search rules, search rules) (search rules) (search rules)
