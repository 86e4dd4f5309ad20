-- Notes that each production keeps tell whether another token could be in the failing one's place, for any table.
use Rattle.std.proofs.Common.{◌≡◌, ◌⊎◌, inl, inr, Bool, true, false, List, [], ◌∷◌, ◌++◌, Some, None, refl, sym, ap, ap₂, ◌∙◌, subst}
use Rattle.std.specs.Prelude.{◌||◌}
use Rattle.std.proofs.lemmas.List.{append_assoc, append-nil}
use Rattle.sp_parse_grammar.specs.Table.{Symbols, Plan, done, call, Table, ask, Heads, Reads, read_done, read_take, read_call, Want, asked, Fails, fail_take, fail_later, fail_ask, fail_inside, fail_behind, Opens}
use Rattle.sp_parse_grammar.specs.Checked.{Checked}
use Rattle.sp_parse_grammar.proofs.Lists.{heads}
use Rattle.sp_parse_grammar.proofs.Readings.{front_of, fault_front, spelled, fault_spelled, at_tokens, fault_at_tokens, join, join_fails}
use Rattle.sp_parse_grammar.proofs.Moving.{fine, hollow, part_goes_on}
use Rattle.sp_parse_grammar.proofs.Completions.{Completed, completed_rest, completed_take, completed_inside, opened}
use Rattle.sp_parse_fault_laws.proofs.Swaps.{Notes, AtToken, Before, BeforeAt, SameAt, Peek, same, opens_done, opens_none, opens_too, opens_over, taken, Takes, Noted, at_once, ReadClaim, FailClaim, PartGoes, ReadPart, FailPart, or_true, or_false, none_at_once, carry, both_false, no_read, no_fail, completed_after, completed_part}

module _ {S : Symbols} (T : Table S) (c : Checked T) (N : Notes S) (b x : S.Token) (known_of : (n : S.Ask) (xs ys : List S.Token) (a : S.Answer n) → N.covers n → Reads T n (ask n) xs a ys → N.known n a)
    (before : (n : S.Ask) (y : S.Token) → N.covers n → BeforeAt T N b x n (T.predict n y)) (covers_at : (n : S.Ask) → N.at_token n → N.covers n) (peek : (n : S.Ask) → N.at_token n → Peek T N b x n) where
  before_plan : (n : S.Ask) (y : S.Token) (q : Plan S n) → T.predict n y ≡ Some q → N.covers n → Before T N b x q
  before_plan n y q e covers = subst (BeforeAt T N b x n) e (before n y covers)

  noted_both : {m : S.Ask} (us : List S.Token) (p : Plan S m) (so_far : Bool) → AtToken T N b x p so_far → Before T N b x p → Noted T N b x us p so_far
  noted_both [] p so_far here later = here
  noted_both (u ∷ us) p so_far here later = later

  noted_before : {m : S.Ask} (us : List S.Token) (v : S.Token) (vs : List S.Token) (p : Plan S m) (so_far : Bool) → Noted T N b x (us ++ v ∷ vs) p so_far → Before T N b x p
  noted_before [] v vs p so_far h = h
  noted_before (u ∷ us) v vs p so_far h = h

  more_at_once : (us : List S.Token) (v : S.Token) (vs : List S.Token) (so_far : Bool) → false ≡ at_once (us ++ v ∷ vs) so_far
  more_at_once [] v vs so_far = refl
  more_at_once (u ∷ us) v vs so_far = refl

  -- ---- what is read

  read_part_more : (n : S.Ask) (v : S.Token) (vs : List S.Token) (q : Plan S n) (a : S.Answer n) → T.predict n v ≡ Some q → ReadClaim T N x q (v ∷ vs) a false → ReadPart T N x n (v ∷ vs) a
  read_part_more n v vs q a e r = record {
    goes = r.goes;
    told = r.told;
    stays = λ f zs. read_call e (r.stays f zs) read_done;
    goes_on = λ f. record { first = v; rest = vs ++ x ∷ []; whole = refl; plan = q; chosen = e; part = r.goes_on f };
  }

  opened_part : (n : S.Ask) (q : Plan S n) → T.predict n x ≡ Some q → Opens T n q x → PartGoes T n (x ∷ [])
  opened_part n q e opens = record { first = x; rest = []; whole = refl; plan = q; chosen = e; part = opened T c n q x opens }

  read_part_none : (n : S.Ask) (rest : List S.Token) (q : Plan S n) (a : S.Answer n) → T.predict n b ≡ Some q → Reads T n q (b ∷ rest) a (b ∷ rest) → ((so_far : Bool) → AtToken T N b x q so_far → ReadClaim T N x q [] a so_far) → Peek T N b x n → ReadPart T N x n [] a
  read_part_none n rest q a e r claim (same alike noted) =
      let here : AtToken T N b x q (N.carried n) = subst (SameAt T N b x n) e noted in
      let there : T.predict n x ≡ Some q = sym alike ∙ e in
      let s = claim (N.carried n) here in
      record { goes = s.goes; told = s.told; stays = λ f zs. read_call there (s.stays f zs) read_done; goes_on = λ f. record { first = x; rest = []; whole = refl; plan = q; chosen = there; part = s.goes_on f } }
  read_part_none n rest q a e r claim (opens_done p o there opens here may) =
      let plan : q ≡ done o = cc in
      let answer : o ≡ a = done_answer (subst (λ v. Reads T n v (b ∷ rest) a (b ∷ rest)) plan r) in
      record { goes = true; told = ap (N.may_go_on n) (sym answer) ∙ may ∙ sym (or_true (N.carried n)); stays = λ f. absurd cc; goes_on = λ f. opened_part n p there opens }
    where
      done_answer : {xs ys : List S.Token} {o u : S.Answer n} → Reads T n (done o) xs u ys → o ≡ u
      done_answer read_done = refl
  read_part_none n rest q a e r claim (opens_none p there opens here tells own) = absurd cc
  read_part_none n rest q a e r claim (opens_too p old there opens here too noted) =
      let plan : old ≡ q = cc in
      let s = claim (N.carried n) (subst (λ v. AtToken T N b x v (N.carried n)) plan noted) in
      let opens_old : Opens T n q x = subst (λ v. Opens T n v x) plan too in
      record {
        goes = true;
        told = by_goes s.goes s.told (λ f. no_read T opens_old (s.stays f []));
        stays = λ f. absurd cc;
        goes_on = λ f. opened_part n p there opens;
      }
    where
      by_goes : (goes : Bool) → N.may_go_on n a ≡ N.carried n || goes → (goes ≡ false → ⊥) → N.may_go_on n a ≡ N.carried n || true
      by_goes true told never = told
      by_goes false told never = absurd (never refl)
  read_part_none n rest q a e r claim (opens_over p old there opens here noted) =
      let plan : old ≡ q = cc in
      let s = claim true (subst (λ v. AtToken T N b x v true) plan noted) in
      record { goes = true; told = s.told ∙ sym (or_true (N.carried n)); stays = λ f. absurd cc; goes_on = λ f. opened_part n p there opens }
  read_part_none n rest q a e r claim (taken p here opens) =
      let plan : p ≡ q = cc in
      absurd (no_read T (subst (λ v. Opens T n v b) plan opens) r)

  -- what is read behind a part
  more_behind : {m : S.Ask} (n : S.Ask) (k : S.Answer n → Plan S m) (a : S.Answer n) (o : S.Answer m) (u : List S.Token) (v : S.Token) (vs : List S.Token) (so_far : Bool) → ((zs : List S.Token) → Reads T n (ask n) (u ++ v ∷ zs) a (v ∷ zs)) → ReadClaim T N x (k a) (v ∷ vs) o false → ReadClaim T N x (call n k) (u ++ v ∷ vs) o (at_once (u ++ v ∷ vs) so_far)
  more_behind {m = m} n k a o u v vs so_far part s = record {
    goes = s.goes;
    told = s.told ∙ ap (λ i. i || s.goes) (more_at_once u v vs so_far);
    stays = λ f zs. at_tokens (sym (append_assoc u (v ∷ vs) (x ∷ zs))) (join (part (vs ++ x ∷ zs)) (s.stays f zs));
    goes_on = λ f. subst (λ w. Completed T m (call n k) w) (sym (append_assoc u (v ∷ vs) (x ∷ []))) (completed_after T c n k a u v (vs ++ x ∷ []) part (s.goes_on f));
  }

  none_behind : {m : S.Ask} (n : S.Ask) (k : S.Answer n → Plan S m) (a : S.Answer n) (o : S.Answer m) (u : List S.Token) (so_far then : Bool) (part : ReadPart T N x n u a) (s : ReadClaim T N x (k a) [] o then) → then || s.goes ≡ so_far || (part.goes || s.goes) → ReadClaim T N x (call n k) (u ++ []) o so_far
  none_behind {m = m} n k a o u so_far then part s e = record {
    goes = part.goes || s.goes;
    told = s.told ∙ e;
    stays = λ f zs. let g = both_false part.goes s.goes f in at_tokens (ap (λ w. w ++ x ∷ zs) (sym (append-nil u))) (join (part.stays g.0 zs) (s.stays g.1 zs));
    goes_on = λ f. subst (λ w. Completed T m (call n k) (w ++ x ∷ [])) (sym (append-nil u)) (by_part part.goes refl f);
  }
    where
      by_part : (g : Bool) → part.goes ≡ g → part.goes || s.goes ≡ true → Completed T m (call n k) (u ++ x ∷ [])
      by_part true f h = completed_part T c n k (u ++ x ∷ []) (part.goes_on f)
      by_part false f h = completed_after T c n k a u x [] (λ zs. part.stays f zs) (s.goes_on (ap (λ i. i || s.goes) (sym f) ∙ h))

  -- the notes at the token behind a part that was read from nothing
  behind_nothing : {m : S.Ask} (n : S.Ask) (k : S.Answer n → Plan S m) (q : Plan S n) (y : S.Token) (rest mid : List S.Token) (a : S.Answer n) (so_far : Bool) → T.predict n y ≡ Some q → (r : Reads T n q (y ∷ rest) a mid) → front_of r ≡ [] → Heads mid b → AtToken T N b x (call n k) so_far → AtToken T N b x (k a) (so_far || N.may_go_on n a)
  behind_nothing {m = m} n k q y rest mid a so_far e r none head noted =
      let shortest = hollow T c r none in
      let value = (fine T c n y q e).hollow shortest.0 in
      subst (λ v. AtToken T N b x (k v) (so_far || N.may_go_on n v)) (sym (shortest.1 ∙ value.1)) (unless (noted.3 value.0))
    where
      none_taken : Takes T b n → ⊥
      none_taken t =
          let there : y ∷ rest ≡ mid = spelled r ∙ ap (λ v. v ++ mid) none in
          let is_b : y ≡ b = subst (λ v. Heads v b) (sym there) head in
          let here : Reads T n q (b ∷ rest) a (b ∷ rest) = subst (λ v. Reads T n q (v ∷ rest) a (v ∷ rest)) is_b (subst (λ v. Reads T n q (y ∷ rest) a v) (sym there) r) in
          let chosen : T.predict n b ≡ Some q = subst (λ v. T.predict n v ≡ Some q) is_b e in
          let plan : t.0 ≡ q = (let same : Some t.0 ≡ Some q = sym t.1 ∙ chosen in cc) in
          no_read T (subst (λ v. Opens T n v b) plan t.2) here

      unless : {A : Type 0} → Takes T b n ⊎ A → A
      unless (inl t) = absurd (none_taken t)
      unless (inr a) = a

  covered : {m : S.Ask} (n : S.Ask) (k : S.Answer n → Plan S m) (us : List S.Token) (so_far : Bool) → Noted T N b x us (call n k) so_far → N.covers n
  covered n k [] so_far h = covers_at n h.0
  covered n k (u ∷ us) so_far h = h.0

  -- a part with its claim, where it ended at the token
  read_part : {n : S.Ask} {q : Plan S n} {y : S.Token} {rest mid : List S.Token} {a : S.Answer n} (e : T.predict n y ≡ Some q) (r : Reads T n q (y ∷ rest) a mid) → Heads mid b → N.covers n → (front_of r ≡ [] → N.at_token n) → ((so_far : Bool) → Noted T N b x (front_of r) q so_far → ReadClaim T N x q (front_of r) a (at_once (front_of r) so_far)) → ReadPart T N x n (front_of r) a
  read_part {n = n} {q = q} {y = y} {rest = rest} {mid = mid} {a = a} e r head covers at_first claim = by_front (front_of r) refl
    where
      by_front : (us : List S.Token) → front_of r ≡ us → ReadPart T N x n (front_of r) a
      by_front [] none =
          let there : y ∷ rest ≡ mid = spelled r ∙ ap (λ v. v ++ mid) none in
          let is_b : y ≡ b = subst (λ v. Heads v b) (sym there) head in
          let here : Reads T n q (b ∷ rest) a (b ∷ rest) = subst (λ v. Reads T n q (v ∷ rest) a (v ∷ rest)) is_b (subst (λ v. Reads T n q (y ∷ rest) a v) (sym there) r) in
          let moved = subst (λ v. (so_far : Bool) → Noted T N b x v q so_far → ReadClaim T N x q v a (at_once v so_far)) none claim in
          subst (λ v. ReadPart T N x n v a) (sym none) (read_part_none n rest q a (subst (λ v. T.predict n v ≡ Some q) is_b e) here moved (peek n (at_first none)))
      by_front (v ∷ vs) some =
          let there : y ∷ rest ≡ (v ∷ vs) ++ mid = spelled r ∙ ap (λ w. w ++ mid) some in
          let is_v : y ≡ v = cc in
          let moved = subst (λ w. (so_far : Bool) → Noted T N b x w q so_far → ReadClaim T N x q w a (at_once w so_far)) some claim in
          subst (λ w. ReadPart T N x n w a) (sym some) (read_part_more n v vs q a (subst (λ w. T.predict n w ≡ Some q) is_v e) (moved false (before_plan n y q e covers)))

  read_call_claim : {m n : S.Ask} {k : S.Answer n → Plan S m} {q : Plan S n} {y : S.Token} {rest mid ys : List S.Token} {a : S.Answer n} {o : S.Answer m} (e : T.predict n y ≡ Some q) (r : Reads T n q (y ∷ rest) a mid) (s : Reads T m (k a) mid o ys) → Heads ys b
      → (Heads mid b → N.covers n → (front_of r ≡ [] → N.at_token n) → ReadPart T N x n (front_of r) a) → ((so_far : Bool) → Noted T N b x (front_of s) (k a) so_far → ReadClaim T N x (k a) (front_of s) o (at_once (front_of s) so_far))
      → (so_far : Bool) → Noted T N b x (front_of r ++ front_of s) (call n k) so_far → ReadClaim T N x (call n k) (front_of r ++ front_of s) o (at_once (front_of r ++ front_of s) so_far)
  read_call_claim {m = m} {n = n} {k = k} {q = q} {y = y} {rest = rest} {mid = mid} {ys = ys} {a = a} {o = o} e r s head part claim so_far noted = by_front (front_of s) refl
    where
      covers : N.covers n
      covers = covered n k (front_of r ++ front_of s) so_far noted

      by_first : (us : List S.Token) → front_of r ≡ us → front_of s ≡ [] → Heads mid b → ReadClaim T N x (call n k) (front_of r ++ []) o (at_once (front_of r ++ []) so_far)
      by_first [] none nothing mid_head =
          let here : AtToken T N b x (call n k) so_far = subst (λ v. Noted T N b x v (call n k) so_far) (ap₂ (λ v w. v ++ w) none nothing) noted in
          let behind = behind_nothing n k q y rest mid a so_far e r none mid_head here in
          let c1 = subst (λ v. ReadPart T N x n v a) none (part mid_head covers (λ f. here.0)) in
          let s2 = subst (λ v. (so_far : Bool) → Noted T N b x v (k a) so_far → ReadClaim T N x (k a) v o (at_once v so_far)) nothing claim in
          let c2 = s2 (so_far || N.may_go_on n a) behind in
          subst (λ v. ReadClaim T N x (call n k) (v ++ []) o (at_once (v ++ []) so_far)) (sym none) (none_behind n k a o [] so_far (so_far || N.may_go_on n a) c1 c2 (carry so_far (N.carried n) c1.goes c2.goes (N.may_go_on n a) here.1 c1.told))
      by_first (v ∷ vs) some nothing mid_head =
          let later : Before T N b x (call n k) = subst (λ w. Noted T N b x w (call n k) so_far) (ap₂ (λ w z. w ++ z) some nothing) noted in
          let known = known_of n (y ∷ rest) mid a covers (read_call e r read_done) in
          let c1 = subst (λ w. ReadPart T N x n w a) some (part mid_head covers (λ f. let apart : v ∷ vs ≡ [] = sym some ∙ f in absurd cc)) in
          let s2 = subst (λ w. (so_far : Bool) → Noted T N b x w (k a) so_far → ReadClaim T N x (k a) w o (at_once w so_far)) nothing claim in
          let c2 = s2 (N.may_go_on n a) (later.1 a known).0 in
          subst (λ w. ReadClaim T N x (call n k) (w ++ []) o (at_once (w ++ []) so_far)) (sym some) (none_behind n k a o (v ∷ vs) false (N.may_go_on n a) c1 c2 (ap (λ i. i || c2.goes) c1.told))

      by_front : (us : List S.Token) → front_of s ≡ us → ReadClaim T N x (call n k) (front_of r ++ front_of s) o (at_once (front_of r ++ front_of s) so_far)
      by_front [] nothing =
          let there : mid ≡ ys = spelled s ∙ ap (λ v. v ++ ys) nothing in
          subst (λ v. ReadClaim T N x (call n k) (front_of r ++ v) o (at_once (front_of r ++ v) so_far)) (sym nothing) (by_first (front_of r) refl nothing (subst (λ v. Heads v b) (sym there) head))
      by_front (v ∷ vs) some =
          let there : mid ≡ (v ∷ vs) ++ ys = spelled s ∙ ap (λ w. w ++ ys) some in
          let later = noted_before (front_of r) v vs (call n k) so_far (subst (λ w. Noted T N b x (front_of r ++ w) (call n k) so_far) some noted) in
          let known = known_of n (y ∷ rest) mid a covers (read_call e r read_done) in
          let s2 = subst (λ w. (so_far : Bool) → Noted T N b x w (k a) so_far → ReadClaim T N x (k a) w o (at_once w so_far)) some claim in
          let c2 = s2 false (later.1 a known).1 in
          subst (λ w. ReadClaim T N x (call n k) (front_of r ++ w) o (at_once (front_of r ++ w) so_far)) (sym some) (more_behind n k a o (front_of r) v vs so_far (λ zs. part_goes_on T c e r v (inl (heads mid v (vs ++ ys) there)) zs) c2)

  -- What was read up to b, read up to x.
  pub reads : {m : S.Ask} {p : Plan S m} {xs ys : List S.Token} {o : S.Answer m} (r : Reads T m p xs o ys) → Heads ys b → (so_far : Bool) → Noted T N b x (front_of r) p so_far → ReadClaim T N x p (front_of r) o (at_once (front_of r) so_far)
  reads {m = m} {o = o} read_done head so_far noted = record { goes = false; told = noted ∙ sym (or_false so_far); stays = λ f zs. read_done; goes_on = λ f. absurd cc }
  reads (read_take {c = d} {k = k} {x = y} e r) head so_far noted =
      let here = noted y e in
      let s = reads r head false (noted_both (front_of r) (k y) false here.0 here.1) in
      record {
        goes = s.goes;
        told = s.told ∙ ap (λ i. i || s.goes) (none_at_once (front_of r));
        stays = λ f zs. read_take e (s.stays f zs);
        goes_on = λ f. completed_take T c d k y (front_of r ++ x ∷ []) e (s.goes_on f);
      }
  reads (read_call e r s) head so_far noted = read_call_claim e r s head (λ h covers first. read_part e r h covers first (λ t given. reads r h t given)) (λ t given. reads s head t given) so_far noted

  -- ---- what fails

  -- so much could go on before an ask that fails at the token as it carries
  carried_so_far : (n : S.Ask) (so_far : Bool) → (N.carried n ≡ true → so_far ≡ true) → (so_far ≡ true → Takes T b n ⊎ ((N.carried n ≡ true) ⊎ ((o : S.Answer n) × (T.predict n b ≡ Some (done o))))) → (Takes T b n → ⊥) → ((o : S.Answer n) → T.predict n b ≡ Some (done o) → ⊥) → N.carried n ≡ so_far
  carried_so_far n so_far carries ends no_taken no_end = by_both so_far (N.carried n) refl refl
    where
      by_ends : Takes T b n ⊎ ((N.carried n ≡ true) ⊎ ((o : S.Answer n) × (T.predict n b ≡ Some (done o)))) → N.carried n ≡ true
      by_ends (inl t) = absurd (no_taken t)
      by_ends (inr (inl c)) = c
      by_ends (inr (inr o)) = absurd (no_end o.0 o.1)

      by_both : (t i : Bool) → so_far ≡ t → N.carried n ≡ i → N.carried n ≡ so_far
      by_both true i e f = by_ends (ends e) ∙ sym e
      by_both false true e f = f ∙ sym (carries f)
      by_both false false e f = f ∙ sym e

  -- with nothing before it
  from_part : {m : S.Ask} (n : S.Ask) (k : S.Answer n → Plan S m) (w : Want S) (so_far : Bool) → N.carried n ≡ so_far → FailPart T N x n [] w → FailClaim T N x (call n k) [] w so_far
  from_part {m = m} n k w so_far f s = record {
    goes = s.goes;
    told = s.told ∙ ap (λ i. i || s.goes) f;
    own = s.own;
    stays = λ g zs. asked_fails (s.stays g zs);
    goes_on = λ g. completed_part T c n k (x ∷ []) (s.goes_on g);
  }
    where
      asked_fails : {xs bad : List S.Token} {v : Want S} → Fails T n (ask n) xs v bad → Fails T m (call n k) xs v bad
      asked_fails (fail_ask g) = fail_ask g
      asked_fails (fail_inside g h) = fail_inside g h
      asked_fails (fail_behind g r h) = elim h [ ]

  no_done : {n : S.Ask} {o : S.Answer n} {xs bad : List S.Token} {w : Want S} → Fails T n (done o) xs w bad → ⊥
  no_done h = elim h [ ]

  ask_claim : (n : S.Ask) → T.predict n b ≡ None → Peek T N b x n → FailPart T N x n [] (asked n)
  ask_claim n e (same alike noted) =
      let here = subst (SameAt T N b x n) e noted in
      record { goes = false; told = here.0 ∙ sym (or_false (N.carried n)); own = here.1; stays = λ f zs. fail_ask (sym alike ∙ e); goes_on = λ f. absurd cc }
  ask_claim n e (opens_done q o there opens here may) = absurd cc
  ask_claim n e (opens_none q there opens here tells own) = record { goes = true; told = tells ∙ sym (or_true (N.carried n)); own = own; stays = λ f. absurd cc; goes_on = λ f. opened_part n q there opens }
  ask_claim n e (opens_too q old there opens here too noted) = absurd cc
  ask_claim n e (opens_over q old there opens here noted) = absurd cc
  ask_claim n e (taken q here opens) = absurd cc

  inside_claim : (n : S.Ask) (rest : List S.Token) (q : Plan S n) (w : Want S) → T.predict n b ≡ Some q → Fails T n q (b ∷ rest) w (b ∷ rest) → ((so_far : Bool) → AtToken T N b x q so_far → FailClaim T N x q [] w so_far) → Peek T N b x n → FailPart T N x n [] w
  inside_claim n rest q w e h claim (same alike noted) =
      let s = claim (N.carried n) (subst (SameAt T N b x n) e noted) in
      let there : T.predict n x ≡ Some q = sym alike ∙ e in
      record { goes = s.goes; told = s.told; own = s.own; stays = λ f zs. fail_inside there (s.stays f zs); goes_on = λ f. record { first = x; rest = []; whole = refl; plan = q; chosen = there; part = s.goes_on f } }
  inside_claim n rest q w e h claim (opens_done p o there opens here may) =
      let plan : q ≡ done o = cc in
      absurd (no_done (subst (λ v. Fails T n v (b ∷ rest) w (b ∷ rest)) plan h))
  inside_claim n rest q w e h claim (opens_none p there opens here tells own) = absurd cc
  inside_claim n rest q w e h claim (opens_too p old there opens here too noted) =
      let plan : old ≡ q = cc in
      let s = claim (N.carried n) (subst (λ v. AtToken T N b x v (N.carried n)) plan noted) in
      let opens_old : Opens T n q x = subst (λ v. Opens T n v x) plan too in
      record {
        goes = true;
        told = by_goes s.goes s.told (λ f. no_fail T opens_old (s.stays f []));
        own = s.own;
        stays = λ f. absurd cc;
        goes_on = λ f. opened_part n p there opens;
      }
    where
      by_goes : (goes : Bool) → N.tells w ≡ N.carried n || goes → (goes ≡ false → ⊥) → N.tells w ≡ N.carried n || true
      by_goes true told never = told
      by_goes false told never = absurd (never refl)
  inside_claim n rest q w e h claim (opens_over p old there opens here noted) =
      let plan : old ≡ q = cc in
      let s = claim true (subst (λ v. AtToken T N b x v true) plan noted) in
      record { goes = true; told = s.told ∙ sym (or_true (N.carried n)); own = s.own; stays = λ f. absurd cc; goes_on = λ f. opened_part n p there opens }
  inside_claim n rest q w e h claim (taken p here opens) =
      let plan : p ≡ q = cc in
      absurd (no_fail T (subst (λ v. Opens T n v b) plan opens) h)

  fail_more : {m : S.Ask} (n : S.Ask) (k : S.Answer n → Plan S m) (v : S.Token) (vs : List S.Token) (q : Plan S n) (w : Want S) → T.predict n v ≡ Some q → FailClaim T N x q (v ∷ vs) w false → FailClaim T N x (call n k) (v ∷ vs) w false
  fail_more n k v vs q w e s = record {
    goes = s.goes;
    told = s.told;
    own = s.own;
    stays = λ f zs. fail_inside e (s.stays f zs);
    goes_on = λ f. completed_inside T c n k q v (vs ++ x ∷ []) e (s.goes_on f);
  }

  fail_inside_claim : {m n : S.Ask} {k : S.Answer n → Plan S m} {q : Plan S n} {y : S.Token} {rest bad : List S.Token} {w : Want S} (e : T.predict n y ≡ Some q) (h : Fails T n q (y ∷ rest) w bad) → Heads bad b
      → ((so_far : Bool) → Noted T N b x (fault_front h) q so_far → FailClaim T N x q (fault_front h) w (at_once (fault_front h) so_far)) → (so_far : Bool) → Noted T N b x (fault_front h) (call n k) so_far → FailClaim T N x (call n k) (fault_front h) w (at_once (fault_front h) so_far)
  fail_inside_claim {m = m} {n = n} {k = k} {q = q} {y = y} {rest = rest} {bad = bad} {w = w} e h head claim so_far noted = by_front (fault_front h) refl
    where
      by_front : (us : List S.Token) → fault_front h ≡ us → FailClaim T N x (call n k) (fault_front h) w (at_once (fault_front h) so_far)
      by_front [] none =
          let there : y ∷ rest ≡ bad = fault_spelled h ∙ ap (λ v. v ++ bad) none in
          let is_b : y ≡ b = subst (λ v. Heads v b) (sym there) head in
          let fault : Fails T n q (b ∷ rest) w (b ∷ rest) = subst (λ v. Fails T n q (v ∷ rest) w (v ∷ rest)) is_b (subst (λ v. Fails T n q (y ∷ rest) w v) (sym there) h) in
          let chosen : T.predict n b ≡ Some q = subst (λ v. T.predict n v ≡ Some q) is_b e in
          let here : AtToken T N b x (call n k) so_far = subst (λ v. Noted T N b x v (call n k) so_far) none noted in
          let moved = subst (λ v. (t : Bool) → Noted T N b x v q t → FailClaim T N x q v w (at_once v t)) none claim in
          let alike = carried_so_far n so_far here.1 here.2 (λ t. let plan : t.0 ≡ q = (let same : Some t.0 ≡ Some q = sym t.1 ∙ chosen in cc) in no_fail T (subst (λ v. Opens T n v b) plan t.2) fault) (λ o f. let plan : q ≡ done o = cc in no_done (subst (λ v. Fails T n v (b ∷ rest) w (b ∷ rest)) plan fault)) in
          let part = inside_claim n rest q w chosen fault moved (peek n here.0) in
          subst (λ v. FailClaim T N x (call n k) v w (at_once v so_far)) (sym none) (from_part n k w so_far alike part)
      by_front (v ∷ vs) some =
          let there : y ∷ rest ≡ (v ∷ vs) ++ bad = fault_spelled h ∙ ap (λ z. z ++ bad) some in
          let is_v : y ≡ v = cc in
          let covers = covered n k (fault_front h) so_far noted in
          let moved = subst (λ z. (t : Bool) → Noted T N b x z q t → FailClaim T N x q z w (at_once z t)) some claim in
          subst (λ z. FailClaim T N x (call n k) z w (at_once z so_far)) (sym some) (fail_more n k v vs q w (subst (λ z. T.predict n z ≡ Some q) is_v e) (moved false (before_plan n y q e covers)))

  more_fails : {m : S.Ask} (n : S.Ask) (k : S.Answer n → Plan S m) (a : S.Answer n) (w : Want S) (u : List S.Token) (v : S.Token) (vs : List S.Token) (so_far : Bool) → ((zs : List S.Token) → Reads T n (ask n) (u ++ v ∷ zs) a (v ∷ zs)) → FailClaim T N x (k a) (v ∷ vs) w false → FailClaim T N x (call n k) (u ++ v ∷ vs) w (at_once (u ++ v ∷ vs) so_far)
  more_fails {m = m} n k a w u v vs so_far part s = record {
    goes = s.goes;
    told = s.told ∙ ap (λ i. i || s.goes) (more_at_once u v vs so_far);
    own = s.own;
    stays = λ f zs. fault_at_tokens (sym (append_assoc u (v ∷ vs) (x ∷ zs))) (join_fails (part (vs ++ x ∷ zs)) (s.stays f zs));
    goes_on = λ f. subst (λ z. Completed T m (call n k) z) (sym (append_assoc u (v ∷ vs) (x ∷ []))) (completed_after T c n k a u v (vs ++ x ∷ []) part (s.goes_on f));
  }

  none_fails : {m : S.Ask} (n : S.Ask) (k : S.Answer n → Plan S m) (a : S.Answer n) (w : Want S) (u : List S.Token) (so_far then : Bool) (part : ReadPart T N x n u a) (s : FailClaim T N x (k a) [] w then) → then || s.goes ≡ so_far || (part.goes || s.goes) → FailClaim T N x (call n k) (u ++ []) w so_far
  none_fails {m = m} n k a w u so_far then part s e = record {
    goes = part.goes || s.goes;
    told = s.told ∙ e;
    own = s.own;
    stays = λ f zs. let g = both_false part.goes s.goes f in fault_at_tokens (ap (λ v. v ++ x ∷ zs) (sym (append-nil u))) (join_fails (part.stays g.0 zs) (s.stays g.1 zs));
    goes_on = λ f. subst (λ v. Completed T m (call n k) (v ++ x ∷ [])) (sym (append-nil u)) (by_part part.goes refl f);
  }
    where
      by_part : (g : Bool) → part.goes ≡ g → part.goes || s.goes ≡ true → Completed T m (call n k) (u ++ x ∷ [])
      by_part true f h = completed_part T c n k (u ++ x ∷ []) (part.goes_on f)
      by_part false f h = completed_after T c n k a u x [] (λ zs. part.stays f zs) (s.goes_on (ap (λ i. i || s.goes) (sym f) ∙ h))

  fail_behind_claim : {m n : S.Ask} {k : S.Answer n → Plan S m} {q : Plan S n} {y : S.Token} {rest mid bad : List S.Token} {a : S.Answer n} {w : Want S} (e : T.predict n y ≡ Some q) (r : Reads T n q (y ∷ rest) a mid) (h : Fails T m (k a) mid w bad) → Heads bad b
      → (Heads mid b → N.covers n → (front_of r ≡ [] → N.at_token n) → ReadPart T N x n (front_of r) a) → ((so_far : Bool) → Noted T N b x (fault_front h) (k a) so_far → FailClaim T N x (k a) (fault_front h) w (at_once (fault_front h) so_far))
      → (so_far : Bool) → Noted T N b x (front_of r ++ fault_front h) (call n k) so_far → FailClaim T N x (call n k) (front_of r ++ fault_front h) w (at_once (front_of r ++ fault_front h) so_far)
  fail_behind_claim {m = m} {n = n} {k = k} {q = q} {y = y} {rest = rest} {mid = mid} {bad = bad} {a = a} {w = w} e r h head part claim so_far noted = by_front (fault_front h) refl
    where
      covers : N.covers n
      covers = covered n k (front_of r ++ fault_front h) so_far noted

      by_first : (us : List S.Token) → front_of r ≡ us → fault_front h ≡ [] → Heads mid b → FailClaim T N x (call n k) (front_of r ++ []) w (at_once (front_of r ++ []) so_far)
      by_first [] none nothing mid_head =
          let here : AtToken T N b x (call n k) so_far = subst (λ v. Noted T N b x v (call n k) so_far) (ap₂ (λ v z. v ++ z) none nothing) noted in
          let behind = behind_nothing n k q y rest mid a so_far e r none mid_head here in
          let c1 = subst (λ v. ReadPart T N x n v a) none (part mid_head covers (λ f. here.0)) in
          let s2 = subst (λ v. (t : Bool) → Noted T N b x v (k a) t → FailClaim T N x (k a) v w (at_once v t)) nothing claim in
          let c2 = s2 (so_far || N.may_go_on n a) behind in
          subst (λ v. FailClaim T N x (call n k) (v ++ []) w (at_once (v ++ []) so_far)) (sym none) (none_fails n k a w [] so_far (so_far || N.may_go_on n a) c1 c2 (carry so_far (N.carried n) c1.goes c2.goes (N.may_go_on n a) here.1 c1.told))
      by_first (v ∷ vs) some nothing mid_head =
          let later : Before T N b x (call n k) = subst (λ z. Noted T N b x z (call n k) so_far) (ap₂ (λ u z. u ++ z) some nothing) noted in
          let known = known_of n (y ∷ rest) mid a covers (read_call e r read_done) in
          let c1 = subst (λ z. ReadPart T N x n z a) some (part mid_head covers (λ f. let apart : v ∷ vs ≡ [] = sym some ∙ f in absurd cc)) in
          let s2 = subst (λ z. (t : Bool) → Noted T N b x z (k a) t → FailClaim T N x (k a) z w (at_once z t)) nothing claim in
          let c2 = s2 (N.may_go_on n a) (later.1 a known).0 in
          subst (λ z. FailClaim T N x (call n k) (z ++ []) w (at_once (z ++ []) so_far)) (sym some) (none_fails n k a w (v ∷ vs) false (N.may_go_on n a) c1 c2 (ap (λ i. i || c2.goes) c1.told))

      by_front : (us : List S.Token) → fault_front h ≡ us → FailClaim T N x (call n k) (front_of r ++ fault_front h) w (at_once (front_of r ++ fault_front h) so_far)
      by_front [] nothing =
          let there : mid ≡ bad = fault_spelled h ∙ ap (λ v. v ++ bad) nothing in
          subst (λ v. FailClaim T N x (call n k) (front_of r ++ v) w (at_once (front_of r ++ v) so_far)) (sym nothing) (by_first (front_of r) refl nothing (subst (λ v. Heads v b) (sym there) head))
      by_front (v ∷ vs) some =
          let there : mid ≡ (v ∷ vs) ++ bad = fault_spelled h ∙ ap (λ z. z ++ bad) some in
          let later = noted_before (front_of r) v vs (call n k) so_far (subst (λ z. Noted T N b x (front_of r ++ z) (call n k) so_far) some noted) in
          let known = known_of n (y ∷ rest) mid a covers (read_call e r read_done) in
          let s2 = subst (λ z. (t : Bool) → Noted T N b x z (k a) t → FailClaim T N x (k a) z w (at_once z t)) some claim in
          let c2 = s2 false (later.1 a known).1 in
          subst (λ z. FailClaim T N x (call n k) (front_of r ++ z) w (at_once (front_of r ++ z) so_far)) (sym some) (more_fails n k a w (front_of r) v vs so_far (λ zs. part_goes_on T c e r v (inl (heads mid v (vs ++ bad) there)) zs) c2)

  -- What failed at b, at x.
  pub fails : {m : S.Ask} {p : Plan S m} {xs bad : List S.Token} {w : Want S} (h : Fails T m p xs w bad) → Heads bad b → (so_far : Bool) → Noted T N b x (fault_front h) p so_far → FailClaim T N x p (fault_front h) w (at_once (fault_front h) so_far)
  fails {m = m} (fail_take {c = d} {k = k} e) head so_far noted =
      let here = noted (subst (λ v. S.accepts d v ≡ false) head e) in
      record { goes = S.accepts d x; told = here.0; own = here.1; stays = λ f zs. fail_take f; goes_on = λ f. completed_take T c d k x [] f (completed_rest T c m (k x)) }
  fails (fail_later {c = d} {k = k} {x = y} e h) head so_far noted =
      let here = noted y e in
      let s = fails h head false (noted_both (fault_front h) (k y) false here.0 here.1) in
      record {
        goes = s.goes;
        told = s.told ∙ ap (λ i. i || s.goes) (none_at_once (fault_front h));
        own = s.own;
        stays = λ f zs. fail_later e (s.stays f zs);
        goes_on = λ f. completed_take T c d k y (fault_front h ++ x ∷ []) e (s.goes_on f);
      }
  fails (fail_ask {n = n} {k = k} {x = y} e) head so_far noted =
      let here : T.predict n b ≡ None = subst (λ v. T.predict n v ≡ None) head e in
      let alike = carried_so_far n so_far noted.1 noted.2 (λ t. let apart : None ≡ Some t.0 = sym here ∙ t.1 in absurd cc) (λ o f. let apart : None ≡ Some (done o) = sym here ∙ f in absurd cc) in
      from_part n k (asked n) so_far alike (ask_claim n here (peek n noted.0))
  fails (fail_inside e h) head so_far noted = fail_inside_claim e h head (λ t given. fails h head t given) so_far noted
  fails (fail_behind e r h) head so_far noted = fail_behind_claim e r h head (λ g covers first. read_part e r g covers first (λ t given. reads r g t given)) (λ t given. fails h head t given) so_far noted
