-- Sets that grow by numbers which pass a test, and what such a test over nodes tells.
use Rattle.std.proofs.Common.{◌≡◌, ◌≢◌, ◌⊎◌, inl, inr, ℕ, zero, suc, ◌+◌, ◌<◌, Bool, true, false, ◌&&◌, ◌||◌, nat_eq, List, [], ◌∷◌, length, take, get_or, set, Option, Some, None, refl, sym, ap, ◌∙◌, subst, arith, eqb-true, get_or-set_same, get_or-set_other, length-set}
use Rattle.std.specs.Prelude.{slice_get, replicate}
use Rattle.std.specs.List.{list_any}
use Rattle.std.specs.Option.{option_eq}
use Rattle.std.proofs.lemmas.Bool.{false≢true}
use Rattle.std.proofs.lemmas.List.Folds.{list_any_more}
use Rattle.sp_ir.specs.Commands.{Node}
use Rattle.sp_ir.specs.Programs.{Lowered}
use Rattle.sp_ir.specs.Formed.{IsFormed}
use Rattle.sp_base_sets.specs.Sets.{has}
use Rattle.sp_base_sets.specs.Reached.{row}
use Rattle.sp_graph.specs.Calls.{function_of, function_in}
use Rattle.sp_effect_rows.proofs.Numbers.{which, same_number, apart_numbers}
use Rattle.sp_defuse.specs.Accessed.{is_of, AddsTo}

-- ---- rows

or-none : (a : Bool) → a ≡ (a || false)
or-none true = refl
or-none false = refl

pub adds-nothing : (test : ℕ → ℕ → Bool) (sets : List (List ℕ)) → ((r n : ℕ) → test r n ≡ false) → AddsTo test sets sets
adds-nothing test sets none = record {
  long = refl;
  exact = λ r n. or-none (has n (row sets r)) ∙ ap (λ b. has n (row sets r) || b) (sym (none r n));
}

or-regroup : (a b c : Bool) → ((a || b) || c) ≡ (a || (b || c))
or-regroup true b c = refl
or-regroup false b c = refl

-- first by one test, then by another
pub adds-then : (s t u : ℕ → ℕ → Bool) (a b d : List (List ℕ)) → AddsTo s a b → AddsTo t b d → ((r n : ℕ) → u r n ≡ (s r n || t r n)) → AddsTo u a d
adds-then s t u a b d first second both = record {
  long = second.long ∙ first.long;
  exact = λ r n. second.exact r n ∙ ap (λ x. x || t r n) (first.exact r n) ∙ or-regroup (has n (row a r)) (s r n) (t r n) ∙ ap (λ x. has n (row a r) || x) (sym (both r n));
}

-- the same test by other words
pub adds-same : (s t : ℕ → ℕ → Bool) (a b : List (List ℕ)) → AddsTo s a b → ((r n : ℕ) → s r n ≡ t r n) → AddsTo t a b
adds-same s t a b adds same = record {
  long = adds.long;
  exact = λ r n. adds.exact r n ∙ ap (λ x. has n (row a r) || x) (same r n);
}

module _ (rows : List ℕ) (number : ℕ) where
  To : ℕ → ℕ → ℕ → Bool
  To i r n = has r (take i rows) && nat_eq n number

  here : (e h t : Bool) → (e || (h || (t && e))) ≡ (h || ((t || true) && e))
  here true true true = refl
  here true true false = refl
  here true false true = refl
  here true false false = refl
  here false true t = refl
  here false false true = refl
  here false false false = refl

  elsewhere : (h t e : Bool) → (h || (t && e)) ≡ (h || ((t || false) && e))
  elsewhere h true e = refl
  elsewhere h false e = refl

  pub adds-more : (i : ℕ) (a b : List (List ℕ)) (new : List ℕ) → i < length rows → get_or rows i 0 < length b → AddsTo (λ r n. has r (take i rows) && nat_eq n number) a b
      → ((n : ℕ) → has n new ≡ (nat_eq n number || has n (row b (get_or rows i 0)))) → AddsTo (λ r n. has r (take (i + 1) rows) && nat_eq n number) a (set b (get_or rows i 0) new)
  adds-more i a b new i_low low adds numbers = record {
    long = length-set b (get_or rows i 0) new ∙ adds.long;
    exact = λ r n. by r n (which r (get_or rows i 0));
  }
    where
      more : (r n : ℕ) → (has r (take (i + 1) rows) && nat_eq n number) ≡ ((has r (take i rows) || nat_eq r (get_or rows i 0)) && nat_eq n number)
      more r n = ap (λ b. b && nat_eq n number) (list_any_more (nat_eq r) rows i 0 i_low)

      Goal : ℕ → ℕ → Type 0
      Goal r n = has n (row (set b (get_or rows i 0) new) r) ≡ (has n (row a r) || (has r (take (i + 1) rows) && nat_eq n number))

      by : (r n : ℕ) → (r ≡ get_or rows i 0) ⊎ (r ≢ get_or rows i 0) → has n (row (set b (get_or rows i 0) new) r) ≡ (has n (row a r) || (has r (take (i + 1) rows) && nat_eq n number))
      by r n (inl e) = subst (λ k. has n (row (set b (get_or rows i 0) new) k) ≡ (has n (row a k) || (has k (take (i + 1) rows) && nat_eq n number))) (sym e)
          (ap (has n) (get_or-set_same b (get_or rows i 0) new [] low) ∙ numbers n
          ∙ ap (λ x. nat_eq n number || x) (adds.exact (get_or rows i 0) n)
          ∙ here (nat_eq n number) (has n (row a (get_or rows i 0))) (has (get_or rows i 0) (take i rows))
          ∙ ap (λ x. has n (row a (get_or rows i 0)) || ((has (get_or rows i 0) (take i rows) || x) && nat_eq n number)) (sym (same_number (get_or rows i 0)))
          ∙ ap (λ x. has n (row a (get_or rows i 0)) || x) (sym (more (get_or rows i 0) n)))
      by r n (inr apart) =
          ap (has n) (get_or-set_other b (get_or rows i 0) r new [] apart) ∙ adds.exact r n
          ∙ elsewhere (has n (row a r)) (has r (take i rows)) (nat_eq n number)
          ∙ ap (λ x. has n (row a r) || ((has r (take i rows) || x) && nat_eq n number)) (sym (apart_numbers r (get_or rows i 0) apart))
          ∙ ap (λ x. has n (row a r) || x) (sym (more r n))

and-none : (a : Bool) → (a && false) ≡ false
and-none true = refl
and-none false = refl

pub no-function : (rows : List ℕ) (r f : ℕ) → (has r rows && option_eq nat_eq (Some f) None) ≡ false
no-function rows r f = and-none (has r rows)

pub nothing-there : (n r k : ℕ) → has k (row (replicate n []) r) ≡ false
nothing-there zero r k = refl
nothing-there (suc n) zero k = refl
nothing-there (suc n) (suc r) k = nothing-there n r k

-- ---- tests over nodes

pub first-true : (a b : Bool) → (a && b) ≡ true → a ≡ true
first-true true b h = refl
first-true false b h = h

pub second-true : (a b : Bool) → (a && b) ≡ true → b ≡ true
second-true true b h = h
second-true false b h = absurd (false≢true h)

pub both-true : (a b : Bool) → a ≡ true → b ≡ true → (a && b) ≡ true
both-true true b h k = k
both-true false b h k = absurd (false≢true h)

pub any-found : (test : ℕ → Bool) (ns : List ℕ) → list_any test ns ≡ true → (n : ℕ) × (has n ns ≡ true) × (test n ≡ true)
any-found test [] h = absurd (false≢true h)
any-found test (m ∷ ns) h = by (test m) refl h (any-found test ns)
  where
    later : (n : ℕ) → has n ns ≡ true → (nat_eq n m || has n ns) ≡ true
    later n there = grind (arith, there)

    by : (b : Bool) → test m ≡ b → (b || list_any test ns) ≡ true → (list_any test ns ≡ true → (n : ℕ) × (has n ns ≡ true) × (test n ≡ true)) → (n : ℕ) × (has n (m ∷ ns) ≡ true) × (test n ≡ true)
    by true is k more = (m, ap (λ b. b || has m ns) (same_number m), is)
    by false is k more = let found = more k in (found.0, later found.0 found.1, found.2)

pub found-any : (test : ℕ → Bool) (ns : List ℕ) (n : ℕ) → has n ns ≡ true → test n ≡ true → list_any test ns ≡ true
found-any test [] n h is = absurd (false≢true h)
found-any test (m ∷ ns) n h is = by (nat_eq n m) refl h (λ k. found-any test ns n k is)
  where
    or-last : (b : Bool) → (b || true) ≡ true
    or-last true = refl
    or-last false = refl

    by : (b : Bool) → nat_eq n m ≡ b → (b || has n ns) ≡ true → (has n ns ≡ true → list_any test ns ≡ true) → (test m || list_any test ns) ≡ true
    by true same k more = ap (λ b. b || list_any test ns) (ap test (sym (eqb-true n m same)) ∙ is)
    by false same k more = ap (λ b. test m || b) (more k) ∙ or-last (test m)

is-function : (f : ℕ) (o : Option ℕ) → option_eq nat_eq (Some f) o ≡ true → o ≡ Some f
is-function f None h = absurd (false≢true h)
is-function f (Some g) h = ap Some (sym (eqb-true f g h))

pub function-is : (p : Lowered) (f n : ℕ) → is_of p f n ≡ true → function_of p n ≡ Some f
function-is p f n h = is-function f (function_of p n) h

pub of-function : (p : Lowered) (f n : ℕ) → function_of p n ≡ Some f → is_of p f n ≡ true
of-function p f n h = ap (option_eq nat_eq (Some f)) h ∙ same_number f

pub function-low : (p : Lowered) → IsFormed p → (n f : ℕ) → function_of p n ≡ Some f → f < length p.functions
function-low p formed n f h = by (slice_get p.nodes n) refl h
  where
    none-some : None ≡ Some f → ⊥
    none-some e = cc

    by : (o : Option Node) → slice_get p.nodes n ≡ o → function_in o ≡ Some f → f < length p.functions
    by None e g = absurd (none-some g)
    by (Some node) e g = (formed.nodes n node e).inside f g
