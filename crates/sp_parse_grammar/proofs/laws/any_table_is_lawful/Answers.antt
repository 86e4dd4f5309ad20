use Rattle.sp_parse_grammar.proofs.Readings as readings
use Rattle.sp_parse_grammar.proofs.Wholes as wholes
use Rattle.sp_parse_grammar.proofs.Nesting.{nesting, depth_stays}
use Rattle.sp_parse_grammar.proofs.Keeping.{kept_front}
use Rattle.sp_parse_grammar.proofs.Totality.{decided, one_outcome}
use Rattle.sp_parse_grammar.specs.Table.{ask}
use Rattle.sp_parse_grammar.proofs.laws.any_table_is_lawful.Goals as goal

pub returns-clause-determined : goal.returns-clause-determined
returns-clause-determined g c = let t = g.T.AnyTable.table in record {
  one_reading = λ n xs ys zs a b r s. readings.one_reading t n (ask n) xs ys zs a b r s;
  one_fault = λ n xs ys zs v w f h. readings.one_fault t n (ask n) xs ys zs v w f h;
  never_both = λ n xs ys zs a v r f. readings.read_or_fails t n (ask n) xs ys zs a v f r;
}

pub returns-clause-lawful : goal.returns-clause-lawful
returns-clause-lawful g c = λ checked. let t = g.T.AnyTable.table in record {
  longest = λ n front more x a r. (wholes.whole t checked n front more x a r, wholes.longest t checked n front more x a r);
  failing = wholes.failing t checked;
  ends_before = wholes.ends_before t checked;
  one_answer = wholes.one_whole t checked;
  fault_stays = wholes.fault_stays t checked;
  depth_stays = λ d. depth_stays t checked d;
  nesting = λ d each. nesting t checked d each;
}

pub returns-clause-kept : goal.returns-clause-kept
returns-clause-kept g c = λ each n front rest a r. kept_front g.T.AnyTable.table g.T.AnyTable.fact each front rest a r

pub returns-clause-decided : goal.returns-clause-decided
returns-clause-decided g c = λ checked last rank ends n xs covered ended.
    let t = g.T.AnyTable.table in
    one_outcome t last (decided t last checked g.T.AnyTable.covers rank ends n xs covered ended)
