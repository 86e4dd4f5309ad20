-- `switch` (C90 6.6.4.2).
use Rattle.std.proofs.Common.{◌≡◌, ℕ, ℤ, Bool, true, false, List, [], ◌∷◌, ◌++◌, length, Option, Some, None, if◌then◌else◌, refl, ap, sym, subst}
use Rattle.std.specs.Prelude.{All}
use Rattle.std.proofs.lemmas.List.Elements.{All-nil, All-cons, All-head, All-tail, All-append}
use Rattle.sp_tree.specs.declared.fault.Place.{Place}
use Rattle.sp_tree.specs.declared.token.Punct.TheVariants.{EqualEqual}
use Rattle.sp_types.specs.declared.ctype.IntKind.{IntKind}
use Rattle.sp_types.specs.Types.{integer}
use Rattle.sp_types.specs.Typed.{Typed, of, place_of}
use Rattle.sp_ir.specs.Commands.{Expression, number, Command, assume, skip}
use Rattle.sp_ir.specs.Regions.{Region}
use Rattle.sp_ir.specs.Programs.{Object}
use Rattle.sp_ir.specs.Formed.{InKind, IsScalar, is_scalar}
use Rattle.sp_lower_draft.specs.Context.{Context, is_void, kind_of}
use Rattle.sp_lower_draft.specs.Draft.{Draft, Left, next, with_loose, add}
use Rattle.sp_lower_draft.specs.Expressions.{operand, value_of, meaning}
use Rattle.sp_lower_body.specs.Bodies.{Body, out_of_switch}
use Rattle.sp_lower_body.specs.Statements.{assume_each, begin_switch}
use Rattle.sp_lower_expr_laws.specs.Stands.{table, Holds}
use Rattle.sp_lower_expr_laws.specs.Grown.{IsEnd, AreEnds, IsReady, same, node}
use Rattle.sp_lower_expr_laws.specs.Sound.{IsSound}
use Rattle.sp_lower_expr_laws.specs.Uses.{IsValue, Gives, IsGood}
use Rattle.sp_lower_expr_laws.proofs.Growing.{ready, new_end}
use Rattle.sp_lower_expr_laws.proofs.Operators.{scalar_value}
use Rattle.sp_lower_expr_laws.proofs.Sounds.{sound_grown}
use Rattle.sp_lower_body_laws.specs.Bodies.{IsLater, IsSoundBody, Goes}
use Rattle.sp_lower_body_laws.proofs.Later.{later_same, later_on, later_turned, later_added, later_grown, gotos_before, heads_before, default_before}
use Rattle.sp_lower_body_laws.proofs.Jumps.{skipped}
use Rattle.sp_lower_body_laws.proofs.Loops.{ends_later}

module _ (c : Context) (os : List Object) (rs : List Region) (told : List ℕ) where
  abbrev IsSoundHere : Draft → Type 0
  IsSoundHere s = IsSound (table c os) rs c.first_site s

  abbrev IsScalarHere : Expression → Type 0
  IsScalarHere e = IsScalar (table c os) (Some c.function) e

  retold : (s : Draft) (ends : List ℕ) → IsSoundHere s → IsSoundHere (with_loose ends s)
  retold s ends h = record { nodes = h.nodes; edges = h.edges; calls = h.calls; returns = h.returns; sites = h.sites; elements = h.elements; temporaries = h.temporaries }

  -- ---- the nodes that assume the values of cases

  record IsAssumed (s : Draft) (ends : List ℕ) (v : Expression) (kind : IntKind) (zs : List ℤ) (each : Left (List ℕ)) : Type 0 where
    later : IsLater c os s each.after
    sound : Holds c os each.after → IsSoundHere s → AreEnds c s ends → IsScalarHere v → All (InKind kind) zs → IsSoundHere each.after × AreEnds c each.after each.pure

  assumed : (v : Expression) (kind : IntKind) (at : Place) (ends : List ℕ) (zs : List ℤ) (s : Draft) → IsAssumed s ends v kind zs (assume_each c v kind at ends zs s)
  assumed v kind at ends [] s = record { later = later_same c os s; sound = λ w h e x z. (h, All-nil (IsEnd s.nodes c.function)) }
  assumed v kind at ends (z ∷ zs) s =
      let x : Command = assume v EqualEqual (number z kind) in
      let begun : Draft = with_loose ends s in
      let t : Draft = add c x at begun in
      let first : IsLater c os s t = later_on c os s begun t (later_turned c os s ends) (later_added c os begun x at refl) in
      let each : Left (List ℕ) = assume_each c v kind at ends zs t in
      let rest : IsAssumed t ends v kind zs each = assumed v kind at ends zs t in record {
        later = later_on c os s t each.after first rest.later;
        sound = λ w h e y k.
            let wt : Holds c os t = rest.later.holds w in
            let st : IsSoundHere t = sound_grown c os rs (node x at same refl (λ q. (y, ((All-head (InKind kind) z zs k), refl), refl))) e wt (retold s ends h) in
            let q : IsSoundHere each.after × AreEnds c each.after each.pure = rest.sound w st (ends_later c os rs told None s t ends first e) y (All-tail (InKind kind) z zs k) in (
              q.0,
              All-cons (IsEnd each.after.nodes c.function) (length s.nodes) each.pure
                  (All-head (IsEnd each.after.nodes c.function) (length s.nodes) [] (ends_later c os rs told None t each.after (length s.nodes ∷ []) rest.later (new_end c begun x at refl))) q.1,
            );
      }

  -- ---- the whole

  pub switch_good : (k : Option IntKind) (j : IntKind) (e : Typed) (at : Place) (zs : List ℤ) (has : Bool) (b inside : Body) → of e ≡ integer j → IsGood c os rs e (meaning c e) → All (InKind j) zs
      → Goes c os rs told (Some j) (begin_switch c e at zs b) inside → Goes c os rs told k b (out_of_switch b.breaks b.cases b.otherwise has inside)
  switch_good k j e at zs has b inside is good kinds i =
      let v : Left Expression = value_of (operand c e) b.draft in
      let each : Left (List ℕ) = assume_each c v.pure (kind_of (of e)) (place_of e) v.after.loose zs v.after in
      let begun : Draft = with_loose v.after.loose each.after in
      let d : Draft = add c skip at begun in
      let scalar : is_scalar (of e) ≡ true = ap is_scalar is in
      let gv : Gives c os rs (IsValue c os (of e)) b.draft v = good.value (ap is_void is) None tt b.draft in
      let first : IsLater c os b.draft v.after = later_grown c os rs gv.grown in
      let a : IsAssumed v.after v.after.loose v.pure (kind_of (of e)) zs each = assumed v.pure (kind_of (of e)) (place_of e) v.after.loose zs v.after in
      let onto : IsLater c os each.after d = later_on c os each.after begun d (later_turned c os each.after v.after.loose) (later_added c os begun skip at refl) in
      let entered : IsLater c os b.draft d = later_on c os b.draft v.after d first (later_on c os v.after each.after d a.later onto) in
      let inner : IsLater c os d inside.draft = later_on c os d _ inside.draft (later_turned c os d []) i.later in
      let within : IsLater c os b.draft inside.draft = later_on c os b.draft d inside.draft entered inner in
      let loose : List ℕ = inside.draft.loose ++ inside.breaks ++ (if has then [] else inside.otherwise ∷ []) in record {
        later = later_on c os b.draft inside.draft _ within (later_turned c os inside.draft loose);
        sound = λ w h.
            let wi : Holds c os inside.draft = record { temporaries = w.temporaries; sites = w.sites } in
            let wd : Holds c os d = inner.holds wi in
            let we : Holds c os each.after = onto.holds wd in
            let wv : Holds c os v.after = a.later.holds we in
            let sv : IsSoundHere v.after = sound_grown c os rs gv.grown h.ready wv h.draft in
            let rv : IsReady c v.after = ready gv.grown h.ready in
            let x : IsScalarHere v.pure = ((gv.pure wv).0, scalar_value c (of e) v.pure scalar (gv.pure wv).1) in
            let q : IsSoundHere each.after × AreEnds c each.after each.pure = a.sound we sv rv x (subst (λ t. All (InKind (kind_of t)) zs) (sym is) kinds) in
            let sd : IsSoundHere d = sound_grown c os rs (skipped c os rs told begun at) (ends_later c os rs told k v.after each.after v.after.loose a.later rv) wd (retold each.after v.after.loose q.0) in
            let begins : IsSoundBody c os rs told (Some j) (begin_switch c e at zs b) = record {
              draft = retold d [] sd;
              ready = All-nil (IsEnd d.nodes c.function);
              breaks = All-nil (IsEnd d.nodes c.function);
              continues = ends_later c os rs told k b.draft d b.continues entered h.continues;
              returns = ends_later c os rs told k b.draft d b.returns entered h.returns;
              cases = ends_later c os rs told k each.after d each.pure onto q.1;
              otherwise = All-head (IsEnd d.nodes c.function) (next each.after) [] (new_end c begun skip at refl);
              gotos = gotos_before b.draft.nodes d.nodes c.function told b.gotos entered.nodes h.gotos;
              labels = heads_before b.draft.nodes d.nodes c.function b.labels entered.nodes h.labels;
            } in
            let z : IsSoundBody c os rs told (Some j) inside = i.sound wi begins in
            record {
              draft = retold inside.draft loose z.draft;
              ready = ends inside z has;
              breaks = ends_later c os rs told k b.draft inside.draft b.breaks within h.breaks;
              continues = z.continues;
              returns = z.returns;
              cases = ends_later c os rs told k b.draft inside.draft b.cases within h.cases;
              otherwise = default_before c os rs told k b (out_of_switch b.breaks b.cases b.otherwise has inside) within.nodes refl h.otherwise;
              gotos = z.gotos;
              labels = z.labels;
            };
      }
    where
      ends : (i : Body) → IsSoundBody c os rs told (Some j) i → (has : Bool) → All (IsEnd i.draft.nodes c.function) (i.draft.loose ++ i.breaks ++ (if has then [] else i.otherwise ∷ []))
      ends i z has = All-append (IsEnd i.draft.nodes c.function) (i.draft.loose ++ i.breaks) (if has then [] else i.otherwise ∷ [])
          (All-append (IsEnd i.draft.nodes c.function) i.draft.loose i.breaks z.ready z.breaks) (last has)
        where
          last : (has : Bool) → All (IsEnd i.draft.nodes c.function) (if has then [] else i.otherwise ∷ [])
          last true = All-nil (IsEnd i.draft.nodes c.function)
          last false = All-cons (IsEnd i.draft.nodes c.function) i.otherwise [] z.otherwise (All-nil (IsEnd i.draft.nodes c.function))
