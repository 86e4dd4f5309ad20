-- Loops (C90 6.6.5).
use Rattle.std.proofs.Common.{ℕ, List, [], ◌∷◌, ◌++◌, Option, refl}
use Rattle.std.proofs.lemmas.List.Elements.{All-nil, All-append}
use Rattle.sp_tree.specs.declared.fault.Place.{Place}
use Rattle.sp_types.specs.declared.ctype.IntKind.{IntKind}
use Rattle.sp_ir.specs.Commands.{skip}
use Rattle.sp_ir.specs.Regions.{Region}
use Rattle.sp_ir.specs.Programs.{Object}
use Rattle.sp_lower_draft.specs.Context.{Context}
use Rattle.sp_lower_draft.specs.Draft.{Draft, Branch, next, with_loose, join, add}
use Rattle.sp_lower_body.specs.Bodies.{Body, with_draft, meeting, in_loop, at_end, out_of_loop, out_of_while, out_of_do, out_of_for}
use Rattle.sp_lower_expr_laws.specs.Stands.{table, Holds}
use Rattle.sp_lower_expr_laws.specs.Grown.{IsEnd, IsHead, AreEnds, IsReady, Grown, same, joined}
use Rattle.sp_lower_expr_laws.specs.Sound.{IsSound}
use Rattle.sp_lower_expr_laws.specs.Uses.{GivesEnds}
use Rattle.sp_lower_expr_laws.proofs.Growing.{onward, ready}
use Rattle.sp_lower_expr_laws.proofs.Branches.{ends_before}
use Rattle.sp_lower_expr_laws.proofs.Sounds.{sound_grown}
use Rattle.sp_lower_body_laws.specs.Bodies.{IsLater, IsSoundBody, Goes}
use Rattle.sp_lower_body_laws.proofs.Later.{later_on, later_turned, later_added, later_joined, later_grown, body_later, body_turned, body_grown}
use Rattle.sp_lower_body_laws.proofs.Jumps.{skipped, new_head, default_there}

module _ (c : Context) (os : List Object) (rs : List Region) (told : List ℕ) (k : Option IntKind) where
  abbrev IsGoodBody : Body → Type 0
  IsGoodBody b = IsSoundBody c os rs told k b

  head_later : (s t : Draft) (n : ℕ) → IsLater c os s t → IsHead s.nodes c.function n → IsHead t.nodes c.function n
  head_later s t n g h = record { node = h.node; there = g.nodes n h.node h.there; function = h.function; ends = h.ends }

  pub ends_later : (s t : Draft) (ends : List ℕ) → IsLater c os s t → AreEnds c s ends → AreEnds c t ends
  ends_later s t ends g h = ends_before s.nodes t.nodes c.function ends g.nodes h

  -- the sound draft with other loose ends
  unturned : (s : Draft) (ends : List ℕ) → Holds c os (with_loose ends s) → Holds c os s
  unturned s ends h = record { temporaries = h.temporaries; sites = h.sites }

  -- inside of a loop that begins at these ends of a later draft
  inside_good : (b : Body) (t : Draft) (ends : List ℕ) → IsLater c os b.draft t → IsGoodBody b → IsSound (table c os) rs c.first_site t → AreEnds c t ends → IsGoodBody (in_loop ends t b)
  inside_good b t ends g h s e =
      let turned : Draft = with_loose ends t in
      let q : IsGoodBody (with_draft turned b) = body_later c os rs told k b turned (later_on c os b.draft t turned g (later_turned c os t ends)) h
      (record { nodes = s.nodes; edges = s.edges; calls = s.calls; returns = s.returns; sites = s.sites; elements = s.elements; temporaries = s.temporaries }) e in record {
        draft = q.draft;
        ready = q.ready;
        returns = q.returns;
        cases = q.cases;
        gotos = q.gotos;
        labels = q.labels;
        otherwise = default_there c os rs told k (with_draft turned b) (in_loop ends t b) refl refl q.otherwise;
        breaks = All-nil (IsEnd t.nodes c.function);
        continues = All-nil (IsEnd t.nodes c.function);
      }

  -- behind the loop that the body b came to: these ends of a draft with the same nodes are loose, beside those that left the loop
  outside_good : (b i : Body) (t : Draft) (ends : List ℕ) → IsGoodBody b → IsGoodBody i → IsLater c os b.draft i.draft → IsLater c os i.draft t → IsSound (table c os) rs c.first_site t
      → AreEnds c t ends → IsGoodBody (out_of_loop b.breaks b.continues ends t i)
  outside_good b i t ends h j first second s e =
      let loose : List ℕ = ends ++ i.breaks in
      let turned : Draft = with_loose loose t in
      let q : IsGoodBody (with_draft turned i) = body_later c os rs told k i turned (later_on c os i.draft t turned second (later_turned c os t loose)) j
      (record { nodes = s.nodes; edges = s.edges; calls = s.calls; returns = s.returns; sites = s.sites; elements = s.elements; temporaries = s.temporaries })
      (All-append (IsEnd t.nodes c.function) ends i.breaks e (ends_later i.draft t i.breaks second j.breaks)) in
      let both : IsLater c os b.draft t = later_on c os b.draft i.draft t first second in record {
        draft = q.draft;
        ready = q.ready;
        returns = q.returns;
        cases = q.cases;
        gotos = q.gotos;
        labels = q.labels;
        otherwise = default_there c os rs told k (with_draft turned i) (out_of_loop b.breaks b.continues ends t i) refl refl q.otherwise;
        breaks = ends_later b.draft t b.breaks both h.breaks;
        continues = ends_later b.draft t b.continues both h.continues;
      }

  -- edges back to the head
  joined_sound : (s : Draft) (n : ℕ) (ends : List ℕ) → IsSound (table c os) rs c.first_site s → IsReady c s → Holds c os s → AreEnds c s ends → IsHead s.nodes c.function n
      → IsSound (table c os) rs c.first_site (join n ends s)
  joined_sound s n ends h r w e j = sound_grown c os rs (joined ends n same (λ q. e) j) r (record { temporaries = w.temporaries; sites = w.sites }) h

  -- behind the body the ends and `continue` come to one node
  end_good : (at : Place) (b : Body) → Goes c os rs told k b (at_end c at b)
  end_good at b =
      let ends : List ℕ = b.draft.loose ++ b.continues in
      let begun : Draft = with_loose ends b.draft in record {
        later = later_on c os b.draft begun _ (later_turned c os b.draft ends) (later_added c os begun skip at refl);
        sound = λ w h. body_grown c os rs told k (with_draft begun b) (add c skip at begun) (skipped c os rs told begun at) w
            (body_turned c os rs told k b ends (All-append (IsEnd b.draft.nodes c.function) b.draft.loose b.continues h.ready h.continues) h);
      }

  -- ---- `while`

  pub while_good : (at : Place) (b inside : Body) (branch : Branch) → GivesEnds c os rs (add c skip at b.draft) branch → Goes c os rs told k (in_loop branch.yes branch.after b) inside
      → Goes c os rs told k b (out_of_while b.breaks b.continues (next b.draft) branch.no inside)
  while_good at b inside branch g i =
      let d : Draft = add c skip at b.draft in
      let grown : Grown c os rs b.draft branch.after = onward (skipped c os rs told b.draft at) g.grown in
      let first : IsLater c os b.draft branch.after = later_grown c os rs grown in
      let begun : IsLater c os branch.after (in_loop branch.yes branch.after b).draft = later_turned c os branch.after branch.yes in
      let within : IsLater c os b.draft inside.draft = later_on c os b.draft branch.after inside.draft first (later_on c os branch.after _ inside.draft begun i.later) in
      let back : List ℕ = inside.draft.loose ++ inside.continues in
      let t : Draft = join (next b.draft) back inside.draft in
      let closing : IsLater c os inside.draft t = later_joined c os inside.draft (next b.draft) back in record {
        later = later_on c os b.draft inside.draft _ within (later_on c os inside.draft t _ closing (later_turned c os t (branch.no ++ inside.breaks)));
        sound = λ w h.
            let wi : Holds c os inside.draft = record { temporaries = w.temporaries; sites = w.sites } in
            let wb : Holds c os branch.after = unturned branch.after branch.yes (i.later.holds wi) in
            let s : IsSound (table c os) rs c.first_site branch.after = sound_grown c os rs grown h.ready wb h.draft in
            let r : IsReady c d = ready (skipped c os rs told b.draft at) h.ready in
            let j : IsGoodBody inside = i.sound wi (inside_good b branch.after branch.yes first h s (g.yes r)) in
            let head : IsHead inside.draft.nodes c.function (next b.draft) = head_later d inside.draft (next b.draft)
            (later_on c os d branch.after inside.draft (later_grown c os rs g.grown) (later_on c os branch.after _ inside.draft begun i.later)) (new_head c os rs told b.draft at) in
            outside_good b inside t branch.no h j within closing
            (joined_sound inside.draft (next b.draft) back j.draft j.ready wi (All-append (IsEnd inside.draft.nodes c.function) inside.draft.loose inside.continues j.ready j.continues) head)
            (ends_later branch.after inside.draft branch.no (later_on c os branch.after _ inside.draft begun i.later) (g.no r));
      }

  -- ---- `do`

  pub do_good : (at : Place) (b inside : Body) (branch : Branch) → Goes c os rs told k (in_loop (next b.draft ∷ []) (add c skip at b.draft) b) inside
      → GivesEnds c os rs (at_end c at inside).draft branch → Goes c os rs told k b (out_of_do b.breaks b.continues (next b.draft) branch (at_end c at inside))
  do_good at b inside branch i g =
      let d : Draft = add c skip at b.draft in
      let behind : Body = at_end c at inside in
      let first : IsLater c os b.draft d = later_grown c os rs (skipped c os rs told b.draft at) in
      let begun : IsLater c os d inside.draft = later_on c os d _ inside.draft (later_turned c os d (next b.draft ∷ [])) i.later in
      let e : Goes c os rs told k inside behind = end_good at inside in
      let within : IsLater c os b.draft behind.draft = later_on c os b.draft d behind.draft first (later_on c os d inside.draft behind.draft begun e.later) in
      let last : IsLater c os behind.draft branch.after = later_grown c os rs g.grown in
      let t : Draft = join (next b.draft) branch.yes branch.after in
      let closing : IsLater c os behind.draft t = later_on c os behind.draft branch.after t last (later_joined c os branch.after (next b.draft) branch.yes) in record {
        later = later_on c os b.draft behind.draft _ within (later_on c os behind.draft t _ closing (later_turned c os t (branch.no ++ behind.breaks)));
        sound = λ w h.
            let wa : Holds c os branch.after = record { temporaries = w.temporaries; sites = w.sites } in
            let wb : Holds c os behind.draft = last.holds wa in
            let wi : Holds c os inside.draft = e.later.holds wb in
            let wd : Holds c os d = begun.holds wi in
            let s : IsSound (table c os) rs c.first_site d = sound_grown c os rs (skipped c os rs told b.draft at) h.ready wd h.draft in
            let r : IsReady c d = ready (skipped c os rs told b.draft at) h.ready in
            let j : IsGoodBody behind = e.sound wb (i.sound wi (inside_good b d (next b.draft ∷ []) first h s r)) in
            let head : IsHead branch.after.nodes c.function (next b.draft) = head_later d branch.after (next b.draft)
            (later_on c os d behind.draft branch.after (later_on c os d inside.draft behind.draft begun e.later) last) (new_head c os rs told b.draft at) in
            let sa : IsSound (table c os) rs c.first_site branch.after = sound_grown c os rs g.grown j.ready wa j.draft in
            outside_good b behind t branch.no h j within closing
            (joined_sound branch.after (next b.draft) branch.yes sa (ready g.grown j.ready) wa (g.yes j.ready) head)
            (g.no j.ready);
      }

  -- ---- `for`

  pub for_good : (at : Place) (b inside : Body) (begun : Draft) (branch : Branch) (stepped : Draft) → Grown c os rs b.draft begun → GivesEnds c os rs (add c skip at begun) branch
      → Goes c os rs told k (in_loop branch.yes branch.after b) inside → Grown c os rs (at_end c at inside).draft stepped
      → Goes c os rs told k b (out_of_for b.breaks b.continues (next begun) branch.no (with_draft stepped (at_end c at inside)))
  for_good at b inside begun branch stepped g0 g i g9 =
      let d : Draft = add c skip at begun in
      let to_head : Grown c os rs b.draft d = onward g0 (skipped c os rs told begun at) in
      let grown : Grown c os rs b.draft branch.after = onward to_head g.grown in
      let first : IsLater c os b.draft branch.after = later_grown c os rs grown in
      let entered : IsLater c os branch.after inside.draft = later_on c os branch.after _ inside.draft (later_turned c os branch.after branch.yes) i.later in
      let behind : Body = at_end c at inside in
      let e : Goes c os rs told k inside behind = end_good at inside in
      let last : Body = with_draft stepped behind in
      let step : IsLater c os behind.draft stepped = later_grown c os rs g9 in
      let closed : IsLater c os inside.draft stepped = later_on c os inside.draft behind.draft stepped e.later step in
      let within : IsLater c os b.draft stepped = later_on c os b.draft branch.after stepped first (later_on c os branch.after inside.draft stepped entered closed) in
      let t : Draft = join (next begun) stepped.loose stepped in
      let closing : IsLater c os stepped t = later_joined c os stepped (next begun) stepped.loose in record {
        later = later_on c os b.draft stepped _ within (later_on c os stepped t _ closing (later_turned c os t (branch.no ++ last.breaks)));
        sound = λ w h.
            let wl : Holds c os stepped = record { temporaries = w.temporaries; sites = w.sites } in
            let wb : Holds c os behind.draft = step.holds wl in
            let wi : Holds c os inside.draft = e.later.holds wb in
            let wa : Holds c os branch.after = entered.holds wi in
            let s : IsSound (table c os) rs c.first_site branch.after = sound_grown c os rs grown h.ready wa h.draft in
            let r : IsReady c d = ready to_head h.ready in
            let j : IsGoodBody behind = e.sound wb (i.sound wi (inside_good b branch.after branch.yes first h s (g.yes r))) in
            let q : IsGoodBody last = body_grown c os rs told k behind stepped g9 wl j in
            let head : IsHead stepped.nodes c.function (next begun) = head_later d stepped (next begun)
            (later_on c os d branch.after stepped (later_grown c os rs g.grown) (later_on c os branch.after inside.draft stepped entered closed)) (new_head c os rs told begun at) in
            outside_good b last t branch.no h q within closing
            (joined_sound stepped (next begun) stepped.loose q.draft q.ready wl q.ready head)
            (ends_later branch.after stepped branch.no (later_on c os branch.after inside.draft stepped entered closed) (g.no r));
      }

  -- ---- `if`

  pub if_good : (b one two : Body) (branch : Branch) → GivesEnds c os rs b.draft branch → Goes c os rs told k (with_draft (with_loose branch.yes branch.after) b) one
      → Goes c os rs told k (with_draft (with_loose branch.no one.draft) one) two → Goes c os rs told k b (meeting one.draft.loose two)
  if_good b one two branch g i j =
      let first : IsLater c os b.draft branch.after = later_grown c os rs g.grown in
      let inside : IsLater c os branch.after one.draft = later_on c os branch.after _ one.draft (later_turned c os branch.after branch.yes) i.later in
      let other : IsLater c os one.draft two.draft = later_on c os one.draft _ two.draft (later_turned c os one.draft branch.no) j.later in
      let loose : List ℕ = one.draft.loose ++ two.draft.loose in record {
        later = later_on c os b.draft branch.after _ first (later_on c os branch.after one.draft _ inside (later_on c os one.draft two.draft _ other (later_turned c os two.draft loose)));
        sound = λ w h.
            let w2 : Holds c os two.draft = record { temporaries = w.temporaries; sites = w.sites } in
            let w1 : Holds c os one.draft = other.holds w2 in
            let w0 : Holds c os branch.after = inside.holds w1 in
            let q : IsGoodBody (with_draft branch.after b) = body_grown c os rs told k b branch.after g.grown w0 h in
            let q1 : IsGoodBody one = i.sound w1 (body_turned c os rs told k (with_draft branch.after b) branch.yes (g.yes h.ready) q) in
            let q2 : IsGoodBody two = j.sound w2 (body_turned c os rs told k one branch.no (ends_later branch.after one.draft branch.no inside (g.no h.ready)) q1) in
            body_turned c os rs told k two loose (All-append (IsEnd two.draft.nodes c.function) one.draft.loose two.draft.loose (ends_later one.draft two.draft one.draft.loose other q1.ready) q2.ready) q2;
      }
