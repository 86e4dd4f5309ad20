-- A fact that every production keeps holds of all that is read.
use Rattle.std.proofs.Common.{◌≡◌, List, [], ◌∷◌, ◌++◌, Some, refl, sym, subst}
use Rattle.std.proofs.lemmas.List.{append_assoc, append-nil, append_cancel_right}
use Rattle.sp_parse_grammar.specs.Table.{Symbols, Plan, take, Table, ask, Heads, Reads, read_done, read_take, read_call}
use Rattle.sp_parse_grammar.specs.Kept.{Keeps, KeepsFrom, KeptAt, IsKept}
use Rattle.sp_parse_grammar.proofs.Readings.{front_of, spelled}

module _ {S : Symbols} (T : Table S) (P : (n : S.Ask) → List S.Token → S.Answer n → Type 0) (each : IsKept T P) where
  kept_at : (n : S.Ask) (x : S.Token) (q : Plan S n) → T.predict n x ≡ Some q → KeepsFrom P x q
  kept_at n x q e = subst (KeptAt P n x) e (each n x)

  -- of a plan that has read these tokens, and of a production that was chosen by the first token
  kept_both : {m : S.Ask} {p : Plan S m} {xs ys : List S.Token} {o : S.Answer m} (r : Reads T m p xs o ys) → ((ws : List S.Token) → Keeps P p ws → P m (ws ++ front_of r) o) × ((x : S.Token) → Heads xs x → KeepsFrom P x p → P m (front_of r) o)
  kept_both {m = m} {o = o} read_done = (λ ws keeps. subst (λ v. P m v o) (sym (append-nil ws)) keeps, λ x head keeps. keeps)
  kept_both {m = m} {o = o} (read_take {c = c} {k = k} {x = y} e r) = (
    λ ws keeps. subst (λ v. P m v o) (append_assoc ws (y ∷ []) (front_of r)) ((kept_both r).0 (ws ++ y ∷ []) (keeps y e)),
    λ x head keeps. (kept_both r).0 (y ∷ []) (subst (λ v. KeepsFrom P v (take c k)) (sym head) keeps e),
  )
  kept_both {m = m} {o = o} (read_call {n = n} {q = q} {x = y} {a = a} e r s) =
      let part = (kept_both r).1 y refl (kept_at n y q e) in (
        λ ws keeps. subst (λ v. P m v o) (append_assoc ws (front_of r) (front_of s)) ((kept_both s).0 (ws ++ front_of r) (keeps (front_of r) a part)),
        λ x head keeps. (kept_both s).0 (front_of r) (keeps (front_of r) a part),
      )

  -- What is read for an ask keeps the fact.
  pub kept : {n : S.Ask} {xs ys : List S.Token} {a : S.Answer n} (r : Reads T n (ask n) xs a ys) → P n (front_of r) a
  kept {n = n} {a = a} (read_call {q = q} {x = x} e r read_done) = subst (λ v. P n v a) (sym (append-nil (front_of r))) ((kept_both r).1 x refl (kept_at n x q e))

  -- the same, with the tokens named
  pub kept_front : {n : S.Ask} (front ys : List S.Token) (a : S.Answer n) → Reads T n (ask n) (front ++ ys) a ys → P n front a
  kept_front {n = n} front ys a r = subst (λ v. P n v a) (append_cancel_right (front_of r) front ys (sym (spelled r))) (kept r)
