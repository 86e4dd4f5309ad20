-- The steps of a reading, for any table: each leads from one state to the next, or ends the reading.
use Rattle.std.proofs.Common.{◌≡◌, ℕ, ◌+◌, ◌≤◌, ◌<◌, true, false, List, ◌∷◌, Some, None, sym, subst, arith}
use Rattle.sp_parse_grammar.specs.Table.{Symbols, Plan, done, take, call, Table, ask, Reads, read_done, read_take, read_call, Want, wanted, asked, Fails, fail_take, fail_later, fail_ask, fail_inside, Opens}
use Rattle.sp_parse_grammar.specs.Depth.{Depths, deep_here, deep_later, Nests, nests}
use Rattle.sp_parse_grammar.proofs.Readings.{join, ask_fails, join_fails}
use Rattle.sp_parse_grammar.proofs.Nesting.{ask_nests, join_nests}
use Rattle.sp_parse_expr_steps.specs.States.{Before, Inside}

module _ {S : Symbols} {T : Table S} {D : Depths S} where
  pub begun : (n : S.Ask) (tokens : List S.Token) → Before T D n n (λ a. a) tokens tokens
  begun n tokens = record { reads = λ a ys r. r; fails = λ f bad h. h; nests = λ d bad h. h }

  -- the rest of a text may be written otherwise
  pub before_at : {n m : S.Ask} {g : S.Answer m → S.Answer n} {tokens rest now : List S.Token} → rest ≡ now → Before T D n m g tokens rest → Before T D n m g tokens now
  before_at {n = n} {m = m} {g = g} {tokens = tokens} e b = subst (λ v. Before T D n m g tokens v) e b

  pub inside_at : {n m : S.Ask} {g : S.Answer m → S.Answer n} {p : Plan S m} {tokens rest now : List S.Token} → rest ≡ now → Inside T D n m g p tokens rest → Inside T D n m g p tokens now
  inside_at {n = n} {m = m} {g = g} {p = p} {tokens = tokens} e b = subst (λ v. Inside T D n m g p tokens v) e b

  -- ---- into a production, and on in it

  entered : {n m : S.Ask} {g : S.Answer m → S.Answer n} {tokens xs : List S.Token} {q : Plan S m} {x : S.Token} → Before T D n m g tokens (x ∷ xs) → T.predict m x ≡ Some q → Inside T D n m g q tokens (x ∷ xs)
  entered b e = record {
    reads = λ a ys r. b.reads a ys (read_call e r read_done);
    fails = λ f bad h. b.fails f bad (fail_inside e h);
    nests = λ d bad h. b.nests d bad (nests e h);
  }

  pub enter : {n m : S.Ask} {g : S.Answer m → S.Answer n} {tokens rest xs : List S.Token} {q : Plan S m} {x : S.Token} → Before T D n m g tokens rest → rest ≡ x ∷ xs → T.predict m x ≡ Some q → Inside T D n m g q tokens rest
  enter b text e = inside_at (sym text) (entered (before_at text b) e)

  took : {n m : S.Ask} {g : S.Answer m → S.Answer n} {tokens xs : List S.Token} {c : S.Class} {k : S.Token → Plan S m} {x : S.Token} → Inside T D n m g (take c k) tokens (x ∷ xs) → S.accepts c x ≡ true → Inside T D n m g (k x) tokens xs
  took i e = record {
    reads = λ a ys r. i.reads a ys (read_take e r);
    fails = λ f bad h. i.fails f bad (fail_later e h);
    nests = λ d bad h. i.nests d bad (deep_later e h);
  }

  pub took_token : {n m : S.Ask} {g : S.Answer m → S.Answer n} {tokens rest xs : List S.Token} {c : S.Class} {k : S.Token → Plan S m} {x : S.Token} → Inside T D n m g (take c k) tokens rest → rest ≡ x ∷ xs → S.accepts c x ≡ true → Inside T D n m g (k x) tokens xs
  took_token i text e = took (inside_at text i) e

  pub got : {n m r : S.Ask} {g : S.Answer m → S.Answer n} {tokens rest ys : List S.Token} {k : S.Answer r → Plan S m} {a : S.Answer r} → Inside T D n m g (call r k) tokens rest → Reads T r (ask r) rest a ys → Inside T D n m g (k a) tokens ys
  got i part = record {
    reads = λ b zs s. i.reads b zs (join part s);
    fails = λ f bad h. i.fails f bad (join_fails part h);
    nests = λ d bad h. i.nests d bad (join_nests part h);
  }

  -- ---- the last part of a production

  pub last : {n m r : S.Ask} {g : S.Answer m → S.Answer n} {h : S.Answer r → S.Answer m} {tokens rest : List S.Token} → Inside T D n m g (call r (λ a. done (h a))) tokens rest → Before T D n r (λ a. g (h a)) tokens rest
  last {h = h} i = record {
    reads = λ a ys s. i.reads (h a) ys (join s read_done);
    fails = λ f bad s. i.fails f bad (ask_fails s);
    nests = λ d bad s. i.nests d bad (ask_nests (omega arith) s);
  }

  pub joined : {n m r : S.Ask} {g : S.Answer m → S.Answer n} {h : S.Answer r → S.Answer m} {tokens mid rest : List S.Token} → Before T D n m g tokens mid → Before T D m r h mid rest → Before T D n r (λ a. g (h a)) tokens rest
  joined {h = h} b c = record {
    reads = λ a ys s. b.reads (h a) ys (c.reads a ys s);
    fails = λ f bad s. b.fails f bad (c.fails f bad s);
    nests = λ d bad s. b.nests d bad (c.nests d bad s);
  }

  pub finished : {n m : S.Ask} {g : S.Answer m → S.Answer n} {a : S.Answer m} {tokens rest : List S.Token} → Inside T D n m g (done a) tokens rest → Reads T n (ask n) tokens (g a) rest
  finished {a = a} {rest = rest} i = i.reads a rest read_done

  -- ---- stops

  refused_at : {n m : S.Ask} {g : S.Answer m → S.Answer n} {tokens xs : List S.Token} {c : S.Class} {k : S.Token → Plan S m} {x : S.Token} → Inside T D n m g (take c k) tokens (x ∷ xs) → S.accepts c x ≡ false → Fails T n (ask n) tokens (wanted c) (x ∷ xs)
  refused_at {xs = xs} {c = c} {x = x} i e = i.fails (wanted c) (x ∷ xs) (fail_take e)

  pub refused : {n m : S.Ask} {g : S.Answer m → S.Answer n} {tokens rest xs : List S.Token} {c : S.Class} {k : S.Token → Plan S m} {x : S.Token} → Inside T D n m g (take c k) tokens rest → rest ≡ x ∷ xs → S.accepts c x ≡ false → Fails T n (ask n) tokens (wanted c) rest
  refused {n = n} {tokens = tokens} {c = c} i text e = subst (λ v. Fails T n (ask n) tokens (wanted c) v) (sym text) (refused_at (inside_at text i) e)

  unread_at : {n m : S.Ask} {g : S.Answer m → S.Answer n} {tokens xs : List S.Token} {x : S.Token} → Before T D n m g tokens (x ∷ xs) → T.predict m x ≡ None → Fails T n (ask n) tokens (asked m) (x ∷ xs)
  unread_at {m = m} {xs = xs} {x = x} b e = b.fails (asked m) (x ∷ xs) (fail_ask e)

  pub unread : {n m : S.Ask} {g : S.Answer m → S.Answer n} {tokens rest xs : List S.Token} {x : S.Token} → Before T D n m g tokens rest → rest ≡ x ∷ xs → T.predict m x ≡ None → Fails T n (ask n) tokens (asked m) rest
  unread {n = n} {m = m} {tokens = tokens} b text e = subst (λ v. Fails T n (ask n) tokens (asked m) v) (sym text) (unread_at (before_at text b) e)

  pub part_fails : {n m r : S.Ask} {g : S.Answer m → S.Answer n} {tokens rest bad : List S.Token} {k : S.Answer r → Plan S m} {f : Want S} → Inside T D n m g (call r k) tokens rest → Fails T r (ask r) rest f bad → Fails T n (ask n) tokens f bad
  part_fails {bad = bad} {f = f} i h = i.fails f bad (ask_fails h)

  pub part_nests : {n m r : S.Ask} {g : S.Answer m → S.Answer n} {tokens rest bad : List S.Token} {k : S.Answer r → Plan S m} {d e : ℕ} → Inside T D n m g (call r k) tokens rest → d ≤ D.down m r + e → Nests T D r e rest bad → Nests T D n d tokens bad
  part_nests {bad = bad} {d = d} i less h = i.nests d bad (ask_nests less h)

  deep_at : {n m : S.Ask} {g : S.Answer m → S.Answer n} {tokens xs : List S.Token} {q : Plan S m} {x : S.Token} {d : ℕ} → Before T D n m g tokens (x ∷ xs) → T.predict m x ≡ Some q → Opens T m q x → d < D.least m x → Nests T D n d tokens (x ∷ xs)
  deep_at {xs = xs} {x = x} {d = d} b e opens less = b.nests d (x ∷ xs) (nests e (deep_here e opens less))

  pub passed : {n m : S.Ask} {g : S.Answer m → S.Answer n} {tokens rest xs : List S.Token} {q : Plan S m} {x : S.Token} {d : ℕ} → Before T D n m g tokens rest → rest ≡ x ∷ xs → T.predict m x ≡ Some q → Opens T m q x → d < D.least m x → Nests T D n d tokens rest
  passed {n = n} {tokens = tokens} {d = d} b text e opens less = subst (λ v. Nests T D n d tokens v) (sym text) (deep_at (before_at text b) e opens less)
