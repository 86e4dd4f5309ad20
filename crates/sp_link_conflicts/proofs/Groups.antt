-- A list by names with one more, and what is found under a name.
use Rattle.std.proofs.Common.{◌≡◌, ℕ, zero, suc, ◌+◌, Bool, true, false, ◌&&◌, ◌||◌, nat_eq, cond, if◌then◌else◌, map, filter, take, List, [], ◌∷◌, ◌++◌, Some, None, refl, ap, sym, subst, ◌∙◌, eqb-true, add-one}
use Rattle.std.specs.Prelude.{slice_get, Vec}
use Rattle.std.specs.Borrow.{Bor}
use Rattle.std.specs.declared.alloc.Global.{Global}
use Rattle.indexmap.specs.IndexMap.{get}
use Rattle.std.specs.List.{list_any}
use Rattle.sp_link_conflicts.specs.Declarations.{Declaration}
use Rattle.sp_link_conflicts.specs.Conflicts.{any_defines}
use Rattle.sp_link_conflicts.specs.Earlier.{seen_items, group}
use Rattle.sp_link_conflicts.specs.Views.{seen_declaration}
use Rattle.sp_link_conflicts.specs.declared.declarations.Declaration.{Declaration as CodeDeclaration}
use Rattle.sp_link_conflicts.specs.declared.earlier.Earlier.{Earlier}

pub filter_pushed : {A : Type 0} (test : A → Bool) (xs : List A) (x : A) → filter test (xs ++ x ∷ []) ≡ (if test x then filter test xs ++ x ∷ [] else filter test xs)
filter_pushed test [] x = refl
filter_pushed test (y ∷ ys) x = by (test y) (test x) (filter_pushed test ys x)
  where
    by : (a b : Bool) → filter test (ys ++ x ∷ []) ≡ (if b then filter test ys ++ x ∷ [] else filter test ys)
        → cond a (y ∷ filter test (ys ++ x ∷ [])) (filter test (ys ++ x ∷ [])) ≡ (if b then cond a (y ∷ filter test ys) (filter test ys) ++ x ∷ [] else cond a (y ∷ filter test ys) (filter test ys))
    by true true e = ap (λ zs. y ∷ zs) e
    by true false e = ap (λ zs. y ∷ zs) e
    by false true e = e
    by false false e = e

-- the first of a list, and one more
take_suc : {A : Type 0} (xs : List A) (i : ℕ) (x : A) → slice_get xs i ≡ Some x → take (suc i) xs ≡ take i xs ++ x ∷ []
take_suc [] i x e = absurd (cc)
take_suc (y ∷ ys) zero x e = let same : y ≡ x = cc in ap (λ z. z ∷ []) same
take_suc (y ∷ ys) (suc i) x e = ap (λ zs. y ∷ zs) (take_suc ys i x e)

pub take_more : {A : Type 0} (xs : List A) (i : ℕ) (x : A) → slice_get xs i ≡ Some x → take (i + 1) xs ≡ take i xs ++ x ∷ []
take_more xs i x e = ap (λ n. take n xs) (add-one i) ∙ take_suc xs i x e

-- what passes a test is there
pub of_filtered : {A : Type 0} (test : A → Bool) (xs : List A) (i : ℕ) (x : A) → slice_get (filter test xs) i ≡ Some x → (j : ℕ) × (slice_get xs j ≡ Some x) × (test x ≡ true)
of_filtered test [] i x e = absurd (cc)
of_filtered test (y ∷ ys) i x e = by (test y) refl i e (λ k g. of_filtered test ys k x g)
  where
    by : (b : Bool) → test y ≡ b → (i : ℕ) → slice_get (cond b (y ∷ filter test ys) (filter test ys)) i ≡ Some x
        → ((k : ℕ) → slice_get (filter test ys) k ≡ Some x → (j : ℕ) × (slice_get ys j ≡ Some x) × (test x ≡ true))
        → (j : ℕ) × (slice_get (y ∷ ys) j ≡ Some x) × (test x ≡ true)
    by true t zero e ih = let same : y ≡ x = cc in (zero, ap Some same, subst (λ z. test z ≡ true) same t)
    by true t (suc i) e ih = let w : (j : ℕ) × (slice_get ys j ≡ Some x) × (test x ≡ true) = ih i e in (suc w.0, w.1, w.2)
    by false t i e ih = let w : (j : ℕ) × (slice_get ys j ≡ Some x) × (test x ≡ true) = ih i e in (suc w.0, w.1, w.2)

pub to_filtered : {A : Type 0} (test : A → Bool) (xs : List A) (j : ℕ) (x : A) → slice_get xs j ≡ Some x → test x ≡ true → (i : ℕ) × (slice_get (filter test xs) i ≡ Some x)
to_filtered test [] j x e t = absurd (cc)
to_filtered test (y ∷ ys) zero x e t =
    let same : y ≡ x = cc in
    let passes : test y ≡ true = subst (λ z. test z ≡ true) (sym same) t in
    (zero, ap (λ b. slice_get (cond b (y ∷ filter test ys) (filter test ys)) zero) passes ∙ ap Some same)
to_filtered test (y ∷ ys) (suc j) x e t = by (test y) refl (to_filtered test ys j x e t)
  where
    by : (b : Bool) → test y ≡ b → (i : ℕ) × (slice_get (filter test ys) i ≡ Some x) → (i : ℕ) × (slice_get (cond b (y ∷ filter test ys) (filter test ys)) i ≡ Some x)
    by true p w = (suc w.0, w.1)
    by false p w = w

-- one of a name defines it
pub any_filtered : (n : ℕ) (ds : List Declaration) → any_defines (filter (λ d. nat_eq d.name n) ds) ≡ list_any (λ d. nat_eq d.name n && d.defines) ds
any_filtered n [] = refl
any_filtered n (d ∷ ds) = by (nat_eq d.name n) (any_filtered n ds)
  where
    by : (b : Bool) → any_defines (filter (λ d. nat_eq d.name n) ds) ≡ list_any (λ d. nat_eq d.name n && d.defines) ds
        → any_defines (cond b (d ∷ filter (λ d. nat_eq d.name n) ds) (filter (λ d. nat_eq d.name n) ds)) ≡ ((b && d.defines) || list_any (λ d. nat_eq d.name n && d.defines) ds)
    by true e = ap (λ x. d.defines || x) e
    by false e = e

-- ---- a list of a name that is taken out and put back with one more

twice : {V : Type 0} (b : Bool) (x y z : V) → cond b x (cond b y z) ≡ cond b x z
twice true x y z = refl
twice false x y z = refl

pub group_put : (old out new : Earlier) (name : ℕ) (item : Declaration) (v : Vec (Bor CodeDeclaration) Global)
    → map seen_declaration v.items ≡ group old name ++ item ∷ []
    → ((n : ℕ) → get nat_eq out.lists n ≡ cond (nat_eq name n) None (get nat_eq old.lists n))
    → ((n : ℕ) → get nat_eq new.lists n ≡ cond (nat_eq name n) (Some v) (get nat_eq out.lists n))
    → (n : ℕ) → group new n ≡ (if nat_eq name n then group old n ++ item ∷ [] else group old n)
group_put old out new name item v is less more n =
    ap seen_items (more n ∙ ap (λ o. cond (nat_eq name n) (Some v) o) (less n) ∙ twice (nat_eq name n) (Some v) None (get nat_eq old.lists n))
    ∙ by (nat_eq name n) refl
  where
    by : (b : Bool) → nat_eq name n ≡ b → seen_items (cond b (Some v) (get nat_eq old.lists n)) ≡ (if b then group old n ++ item ∷ [] else group old n)
    by true e = is ∙ ap (λ q. group old q ++ item ∷ []) (eqb-true name n e)
    by false e = refl

pub mapped_pushed : {A B : Type 0} (f : A → B) (xs : List A) (x : A) → map f (xs ++ x ∷ []) ≡ map f xs ++ f x ∷ []
mapped_pushed f [] x = refl
mapped_pushed f (y ∷ ys) x = ap (λ zs. f y ∷ zs) (mapped_pushed f ys x)
