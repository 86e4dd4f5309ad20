use Rattle.std.proofs.Common.{◌≡◌, ◌<◌, ◌≤◌, ◌∙◌, true, length, ap, arith}
use Rattle.sp_lattice.specs.System.{has}
use Rattle.sp_deps.proofs.Lists.{has-get_or}
use Rattle.sp_deps.proofs.Walks.{listed_fresh, walks_first, walks_more, waits_low, waiting_short, found_all}
use Rattle.sp_deps.proofs.walk.walk_back.Goals as goal

pub look_behind-requires-clause-listed : goal.look_behind-requires-clause-listed
look_behind-requires-clause-listed g c = listed_fresh (g.S.System.meaning c.args.system.now) c.args.location c.args.walk.now c.requires.fresh

pub waiting-init : goal.waiting-init
waiting-init g c =
    walks_first (g.S.System.meaning c.args.system.now) c.args.location c.args.stretches.now.heads.items c.args.to c.args.walk.now c.look_behind.new.walk c.requires.to c.requires.fresh c.in_ok-look_behind.ensures.listed c.in_ok-look_behind.ensures.reaches

pub go_behind-requires-clause-node : goal.go_behind-requires-clause-node
go_behind-requires-clause-node g c =
    let m = g.S.System.meaning c.args.system.now in
    let w = c.waiting.walk in
    let node = c.index-node.result.now in
    let low : c.waiting.at < length w.waiting.items = omega (arith, c.waiting-test.true, c.len.ensures) in
    let there : has node w.waiting.items ≡ true = ap (λ n. has n w.waiting.items) c.index-node.ensures ∙ has-get_or w.waiting.items c.waiting.at node low in
    waits_low m c.args.location w node c.waiting.invariant.listed there

pub waiting-smaller : goal.waiting-smaller
waiting-smaller g c =
    let m = g.S.System.meaning c.args.system.now in
    omega (arith, c.waiting-test.true, c.len.ensures, waiting_short m c.args.location c.waiting.walk c.waiting.invariant.listed)

pub waiting-preserved : goal.waiting-preserved
waiting-preserved g c =
    let m = g.S.System.meaning c.args.system.now in
    let w = c.waiting.walk in
    let node = c.index-node.result.now in
    let low : c.waiting.at < length w.waiting.items = omega (arith, c.waiting-test.true, c.len.ensures) in
    walks_more m c.args.location c.args.stretches.now.heads.items c.requires.ready.long c.requires.ready.heads c.requires.location c.args.earlier.now c.requires.known c.args.to w c.go_behind.new.walk c.waiting.at node node low c.index-node.ensures c.waiting.invariant c.in_ok-go_behind.ensures.listed c.in_ok-go_behind.ensures.goes

pub returns-clause-found : goal.returns-clause-found
returns-clause-found g c =
    let m = g.S.System.meaning c.args.system.now in
    let all : length c.waiting.walk.waiting.items ≤ c.waiting.at = omega (arith, c.waiting-test.false, c.len.ensures) in
    found_all m c.args.location c.args.stretches.now.heads.items c.requires.ready.long c.requires.ready.heads c.args.to c.waiting.walk c.waiting.at c.waiting.invariant all
