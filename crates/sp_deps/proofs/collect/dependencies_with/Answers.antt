use Rattle.std.proofs.Common.{All, length, refl, replicate, [], ◌≡◌, ℕ, true, false, get_or, ◌≤◌, ◌<◌, ◌∙◌, sym, ap, subst, arith}
use Rattle.sp_lattice.specs.System.{has}
use Rattle.sp_lattice.specs.Flat.{row_at}
use Rattle.sp_engine_keeping.specs.Triples.{AreWithin}
use Rattle.sp_deps.specs.inner.Stretches.{HasTouching}
use Rattle.sp_deps.proofs.Stretching.{ready_from}
use Rattle.sp_deps.specs.inner.Users.{AreUsers}
use Rattle.sp_deps.specs.inner.Walk.{IsFresh}
use Rattle.sp_deps.specs.inner.Progress.{AreUpTo, is_done}
use Rattle.sp_deps.specs.Answer.{AreDependencies}
use Rattle.sp_deps.proofs.Finding.{upto_all, upto_none, within_upto}
use Rattle.sp_deps.proofs.collect.dependencies_with.Goals as goal

pub add_location-requires-clause-targets : goal.add_location-requires-clause-targets
add_location-requires-clause-targets g c =
    let m = g.S.System.meaning c.args.system.now in
    let l = c.locations.location in
    let l_low : l < m.locations = omega (arith, c.locations-test.true, c.locations-location-end.ensures) in
    subst (AreUsers m l) (sym c.row-targets.ensures) (c.in_ok-users.ensures.each l l_low)

pub add_location-requires-clause-ready : goal.add_location-requires-clause-ready
add_location-requires-clause-ready g c =
    let m = g.S.System.meaning c.args.system.now in
    let l = c.locations.location in
    let l_low : l < m.locations = omega (arith, c.locations-test.true, c.locations-location-end.ensures) in
    let heads = c.in_ok-heads.heads.items in
    let same : c.touch.new.self.heads.items ≡ heads = c.touch.ensures.heads ∙ c.locations.invariant.heads in
    let touching = subst (λ hs. HasTouching m hs c.in_ok-touching.touching) c.deref.ensures.value c.in_ok-touching.ensures in
    let touched : (n : ℕ) → get_or c.touch.new.self.is_passed.items n false ≡ true → has n (row_at c.in_ok-touching.touching l) ≡ false =
    λ n h. ap (λ xs. has n xs) (sym c.row-touched.ensures) ∙ c.touch.ensures.touched n h in
    ready_from m heads c.touch.new.self c.in_ok-touching.touching l l_low same c.in_ok-heads.ensures.long c.in_ok-heads.ensures.heads touching touched

pub locations-init : goal.locations-init
locations-init g c =
    let m = g.S.System.meaning c.args.system.now in
    record {
      fresh = subst (λ n. IsFresh n c.in_ok-walk.walk) c.nodes-2.ensures c.in_ok-walk.ensures;
      places = c.in_ok-earlier.ensures.places ∙ c.nodes-3.ensures;
      heads = refl;
      so_far = subst (λ rows. AreUpTo m rows (is_done 0 [])) (sym (c.none-deps.ensures ∙ ap (λ n. replicate n []) c.nodes-4.ensures)) (upto_none m);
    }

pub laid-requires-clause-within : goal.laid-requires-clause-within
laid-requires-clause-within g c =
    let s = c.args.system.now in
    let m = g.S.System.meaning s in
    let rows = c.locations.deps in
    subst (λ n. All (AreWithin n (length rows)) rows) (sym c.locations-2.ensures)
    (within_upto g.S.Value.Lattice.order m (g.met.S.System.lawful s) rows (is_done c.locations.location []) c.locations.invariant.so_far)

pub returns-clause-exact : goal.returns-clause-exact
returns-clause-exact g c =
    let s = c.args.system.now in
    let m = g.S.System.meaning s in
    let all : m.locations ≤ c.locations.location = omega (arith, c.locations-test.false, c.locations-location-end.ensures) in
    subst (AreDependencies m) (sym c.in_ok-laid.ensures) (upto_all m g.S.Value.Lattice.order (g.met.S.System.lawful s) c.locations.deps c.locations.location all c.locations.invariant.so_far)
