-- All functions, one behind the other.
use Rattle.std.proofs.Common.{◌≡◌, ◌⊎◌, inl, inr, ℕ, zero, suc, ◌+◌, Bool, List, [], ◌∷◌, Some, slice_get, refl, ap, sym, ◌∙◌, subst, arith}
use Rattle.std.proofs.lemmas.Option.{none-some}
use Rattle.sp_types.specs.Types.{CType}
use Rattle.sp_types.specs.Structs.{IsFormed}
use Rattle.sp_types.specs.Programs.{Function}
use Rattle.sp_ir.specs.Commands.{Command, entry, exit, Node}
use Rattle.sp_ir.specs.Regions.{Region}
use Rattle.sp_ir.specs.Programs.{Object}
use Rattle.sp_lower_draft.specs.Context.{Context}
use Rattle.sp_lower_draft.specs.Draft.{Draft, Left, left, next}
use Rattle.sp_lower_body.specs.Frames.{Frame, Initial}
use Rattle.sp_lower_functions.specs.Functions.{Part, part_of_function, result_count, frame_for, first_count, counts_behind, inside_function, lower_function, lower_functions}
use Rattle.sp_lower_expr_laws.specs.Stands.{table, Holds}
use Rattle.sp_lower_expr_laws.specs.Sound.{IsSound}
use Rattle.sp_lower_body_laws.specs.Functions.{IsFit, AreFit, TemporariesStand, SitesStand, IsPlaced, first, last, inside, IsOfPart, IsNodeOf, AreLowered}
use Rattle.sp_lower_body_laws.proofs.OneFunction.{IsAt, IsFunction, function_is}
use Rattle.sp_lower_body_laws.proofs.OneFunction as one

some_is : {A : Type 0} (x y : A) → Some x ≡ Some y → x ≡ y
some_is x y e = cc

module _ (c : Context) (is : List Initial) (os : List Object) (rs : List Region) (v : ℕ → ℕ → Bool) where
  module _ (k from : ℕ) (g : Function) (gs : List Function) (ns : List ℕ) (s : Draft) (fit : IsFit (frame_for c is k from (first_count ns) g) os rs (v k) g)
      (rest : Left (List Part)) (y : AreLowered c os rs (k + 1) (from + first_count ns + result_count g) gs (counts_behind ns) (lower_function (frame_for c is k from (first_count ns) g) g s) rest) where
    abbrev frame : Frame
    frame = frame_for c is k from (first_count ns) g

    abbrev part : Part
    part = part_of_function frame g s

    x : IsFunction frame os rs (v k) g fit s
    x = function_is frame os rs (v k) g fit s

    here : (n : ℕ) (z : Node) → z.function ≡ Some k → IsAt frame os rs (v k) g fit s n z → IsOfPart k (part ∷ rest.pure) n z
    here n z f a = record {
      index = 0;
      part = part;
      there = refl;
      function = f ∙ ap Some (omega arith);
      placed = subst (λ j. IsPlaced j part n z.command) (omega arith) (by a);
    }
      where
        by : IsAt frame os rs (v k) g fit s n z → IsPlaced k part n z.command
        by (one.first e q) = first e q
        by (one.last e q) = last e q
        by (one.inside q) = inside q

    behind : (n : ℕ) (z : Node) → IsOfPart (k + 1) rest.pure n z → IsOfPart k (part ∷ rest.pure) n z
    behind n z o = record {
      index = suc o.index;
      part = o.part;
      there = o.there;
      function = o.function ∙ ap Some (omega arith);
      placed = subst (λ j. IsPlaced j o.part n z.command) (omega arith) o.placed;
    }

    added : (n : ℕ) (z : Node) → slice_get rest.after.nodes n ≡ Some z → (slice_get s.nodes n ≡ Some z) ⊎ IsOfPart k (part ∷ rest.pure) n z
    added n z e = by (y.added n z e)
      where
        early : (slice_get s.nodes n ≡ Some z) ⊎ ((z.function ≡ Some k) × IsAt frame os rs (v k) g fit s n z) → (slice_get s.nodes n ≡ Some z) ⊎ IsOfPart k (part ∷ rest.pure) n z
        early (inl e) = inl e
        early (inr e) = inr (here n z e.0 e.1)

        by : (slice_get (lower_function frame g s).nodes n ≡ Some z) ⊎ IsOfPart (k + 1) rest.pure n z → (slice_get s.nodes n ≡ Some z) ⊎ IsOfPart k (part ∷ rest.pure) n z
        by (inl e) = early (x.added n z e)
        by (inr o) = inr (behind n z o)

    own : (n : ℕ) (z : Node) (w : Command) → slice_get (lower_function frame g s).nodes n ≡ Some z → z.command ≡ w → z.function ≡ Some k → IsNodeOf rest.after.nodes k n w
    own n z w e q f = record { node = z; there = y.nodes n z e; command = q; function = f }

    entries : (i : ℕ) (p : Part) → slice_get (part ∷ rest.pure) i ≡ Some p → IsNodeOf rest.after.nodes (k + i) p.entry (entry (k + i))
    entries zero p e =
        subst (λ q. IsNodeOf rest.after.nodes (k + 0) q.entry (entry (k + 0))) (some_is part p e)
        (subst (λ j. IsNodeOf rest.after.nodes j part.entry (entry j)) (omega arith) (own (next s) _ (entry k) x.entry_node refl refl))
    entries (suc i) p e = subst (λ j. IsNodeOf rest.after.nodes j p.entry (entry j)) (omega arith) (y.entries i p e)

    exits : (i : ℕ) (p : Part) → slice_get (part ∷ rest.pure) i ≡ Some p → IsNodeOf rest.after.nodes (k + i) p.exit (exit (k + i))
    exits zero p e =
        subst (λ q. IsNodeOf rest.after.nodes (k + 0) q.exit (exit (k + 0))) (some_is part p e)
        (subst (λ j. IsNodeOf rest.after.nodes j part.exit (exit j)) (omega arith) (own (next (inside_function frame g s)) _ (exit k) x.exit_node refl refl))
    exits (suc i) p e = subst (λ j. IsNodeOf rest.after.nodes j p.exit (exit j)) (omega arith) (y.exits i p e)

    stands : TemporariesStand os k from (g ∷ gs) ns (part ∷ rest.pure) → SitesStand os c.first_site rest.after.sites → Holds frame.context os (inside_function frame g s)
    stands h w = record { temporaries = h.0; sites = λ i z e. w i z (y.sites i z e) }

    temporaries : TemporariesStand os k from (g ∷ gs) ns (part ∷ rest.pure) → SitesStand os c.first_site rest.after.sites → IsSound (table c os) rs c.first_site s
        → (i : ℕ) (p : Part) → slice_get (part ∷ rest.pure) i ≡ Some p → (j : ℕ) (t : CType) → slice_get p.temporaries j ≡ Some t → IsFormed c.structs t
    temporaries h w q zero p e j t there = x.temporaries (stands h w) q j t (subst (λ m. slice_get m.temporaries j ≡ Some t) (sym (some_is part p e)) there)
    temporaries h w q (suc i) p e j t there = y.temporaries h.1 w (x.sound (stands h w) q) i p e j t there

    together : AreLowered c os rs k from (g ∷ gs) ns s (left (part ∷ rest.pure) rest.after)
    together = record {
      nodes = λ n z e. y.nodes n z (x.nodes n z e);
      sites = λ n z e. y.sites n z (x.sites n z e);
      added = added;
      entries = entries;
      exits = exits;
      sound = λ h w q. y.sound h.1 w (x.sound (stands h w) q);
      temporaries = temporaries;
    }

  pub functions_are : (k from : ℕ) (gs : List Function) (ns : List ℕ) (s : Draft) → AreFit c is os rs v k from gs ns → AreLowered c os rs k from gs ns s (lower_functions c is k from gs ns s)
  functions_are k from [] ns s fit = record {
    nodes = λ n z e. e;
    sites = λ n z e. e;
    added = λ n z e. inl e;
    entries = λ i p e. absurd (none-some p e);
    exits = λ i p e. absurd (none-some p e);
    sound = λ h w q. q;
    temporaries = λ h w q i p e j t there. absurd (none-some p e);
  }
  functions_are k from (g ∷ gs) ns s fit =
      together k from g gs ns s fit.0 (lower_functions c is (k + 1) (from + first_count ns + result_count g) gs (counts_behind ns) (lower_function (frame_for c is k from (first_count ns) g) g s))
      (functions_are (k + 1) (from + first_count ns + result_count g) gs (counts_behind ns) (lower_function (frame_for c is k from (first_count ns) g) g s) fit.1)
