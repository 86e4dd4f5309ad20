-- What is wanted inside a part is wanted where the names of types are those of that part.
use Rattle.std.proofs.Common.{◌≡◌, ℕ, false, List, ◌∷◌, Some, None, refl, subst}
use Rattle.std.specs.Prelude.{Option, ⊤}
use Rattle.sp_parse_grammar.specs.CTokens.{view as viewed}
use Rattle.sp_parse_grammar.specs.CTable as grammar
use Rattle.sp_parse_grammar.specs.CTable.{Context, Ask, Answer, at, unit, whole, c_symbols, accepts, plan}
use Rattle.sp_parse_grammar.specs.Table.{Plan, done, take, call, ask, read_done, read_call, Fails, fail_take, fail_later, fail_ask, fail_inside, fail_behind, wanted, asked}
use Rattle.sp_parse_tokens.specs.Sorts.{Terminal}
use Rattle.sp_parse_tokens.specs.SyntaxTrees.{syntax_trees, c_table}
use Rattle.sp_parse_tokens.specs.Faults.{Wanted, context_of}
use Rattle.sp_parse_fault_laws.proofs.KnownBehind.{KnownAnswer, known_behind}
use Rattle.sp_parse_tokens.specs.Depths.{Part}
use Rattle.sp_parse_fault_laws.proofs.NameNotes.{covers_names, Within}
use Rattle.sp_parse_fault_laws.proofs.Productions.{Rules, StartsAt, item_starts}

-- each want of the plan is wanted where these are the names of types
abbrev Owns : List ℕ → {m : Ask syntax_trees} → Plan (c_symbols syntax_trees) m → Type 0
Owns types (done o) = ⊤
Owns types (take c k) = ((y : Terminal) → accepts c y ≡ false → (context_of (wanted c)).types ≡ types) × ((y : Terminal) → Owns types (k y))
Owns types (call n k) = covers_names types n × ((a : Answer n) → KnownAnswer n a → Owns types (k a))

record OwnPlan (types : List ℕ) {m : Ask syntax_trees} (p : Plan (c_symbols syntax_trees) m) : Type 0 where
  owns : Owns types p

module _ (types : List ℕ) where
  rules : Rules types
  rules = record {
    Keeps = λ {m} p so_far. OwnPlan types {m = m} p;
    Starts = λ {m} p. OwnPlan types {m = m} p;
    ends = λ e. record { owns = tt };
    marked = λ g e more. record { owns = ((λ y f. g), λ y. (more y).owns) };
    ordinary = λ g more. record { owns = ((λ y f. g), λ y. (more y).owns) };
    token = λ more. record { owns = ((λ y f. absurd cc), λ y. (more y).owns) };
    part = λ g h more. record { owns = ((g, h.1), λ a k. (more a k).owns) };
    first_part = λ g h more. record { owns = ((g, h), λ a k. (more a k).owns) };
    starts_done = record { owns = tt };
    carrying = λ g h c e stays more. record { owns = ((g, h.1), λ a k. (more a k).owns) };
  }

  production_owns : (n : Ask syntax_trees) (y : Terminal) (q : Plan (c_symbols syntax_trees) n) → covers_names types n → c_table.predict n y ≡ Some q → Owns types q
  unfolding rules
  production_owns (at g i) y q h e = by_plan (plan g i y (viewed g.types y.sort)) (item_starts types rules g h.0 i h.1 y (viewed g.types y.sort)) e
    where
      by_plan : (o : Option (Plan (c_symbols syntax_trees) (at g i))) → StartsAt types rules o → o ≡ Some q → Owns types q
      by_plan None s f = absurd cc
      by_plan (Some p) s f = let same : p ≡ q = cc in subst (λ v. Owns types v) same s.owns
  production_owns (unit us) y q h e = absurd h
  production_owns whole y q h e = absurd h

  asked_own : (n : Ask syntax_trees) → covers_names types n → (context_of (asked n)).types ≡ types
  asked_own (at g i) h = h.0
  asked_own (unit us) h = absurd h
  asked_own whole h = absurd h

  wants_own : {m : Ask syntax_trees} {p : Plan (c_symbols syntax_trees) m} {xs bad : List Terminal} {w : Wanted} → Fails c_table m p xs w bad → Owns types p → (context_of w).types ≡ types
  wants_own (fail_take {x = y} e) owns = owns.0 y e
  wants_own (fail_later {x = y} e h) owns = wants_own h (owns.1 y)
  wants_own (fail_ask {n = n} e) owns = asked_own n owns.0
  wants_own (fail_inside {n = n} {q = q} {x = y} e h) owns = wants_own h (production_owns n y q owns.0 e)
  wants_own (fail_behind {n = n} {q = q} {x = y} {xs = rest} {ys = mid} {a = a} e r h) owns = wants_own h (owns.1 a (known_behind n (y ∷ rest) mid a (read_call e r read_done)))

  -- What a part wants is wanted where these are the names of types.
  pub part_own : (i : Part) → Within i → {xs bad : List Terminal} {w : Wanted} → Fails c_table (at (grammar.outside types) i) (ask (at (grammar.outside types) i)) xs w bad → (context_of w).types ≡ types
  part_own i within h = wants_own h ((refl, within), λ a k. tt)
