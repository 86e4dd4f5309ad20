-- Whether another token could be in the failing one's place: it is put there, with the end after it, and what is read of that, or where
-- that ends, tells.
use Rattle.std.proofs.Common.{◌≡◌, ℕ, ◌+◌, ◌<◌, List, [], ◌∷◌, ◌++◌, length, refl, sym, ap, ◌∙◌, subst, arith, length-append}
use Rattle.std.proofs.lemmas.List.{append_assoc, map-append}
use Rattle.sp_tree.specs.declared.token.Token.{Token}
use Rattle.sp_parse_laws.specs.Answers.{Language, kinds_of, BeginsTree, IsTree}

-- How two fronts of the same tokens lie.
pub data Split (front f : List Token) (x next : Token) : Type 0 where
  longer : (g : List Token) → f ≡ front ++ x ∷ g → Split front f x next
  same : f ≡ front → x ≡ next → Split front f x next
  shorter : (g : List Token) → front ≡ f ++ next ∷ g → Split front f x next

heads : (x y : Token) (xs ys : List Token) → x ∷ xs ≡ y ∷ ys → x ≡ y
heads x y xs ys e = cc

tails : (x y : Token) (xs ys : List Token) → x ∷ xs ≡ y ∷ ys → xs ≡ ys
tails x y xs ys e = cc

pub split : (front f ys more : List Token) (x next : Token) → front ++ x ∷ ys ≡ f ++ next ∷ more → Split front f x next
split [] [] ys more x next e = same refl (heads x next ys more e)
split [] (b ∷ f) ys more x next e = longer f (ap (λ v. v ∷ f) (sym (heads x b ys (f ++ next ∷ more) e)))
split (a ∷ front) [] ys more x next e = shorter front (ap (λ v. v ∷ front) (heads a next (front ++ x ∷ ys) more e))
split (a ∷ front) (b ∷ f) ys more x next e = onward (split front f ys more x next (tails a b (front ++ x ∷ ys) (f ++ next ∷ more) e)) (heads a b (front ++ x ∷ ys) (f ++ next ∷ more) e)
  where
    onward : Split front f x next → a ≡ b → Split (a ∷ front) (b ∷ f) x next
    onward (longer g is) h = longer g (ap (λ v. b ∷ v) is ∙ ap (λ v. v ∷ (front ++ x ∷ g)) (sym h))
    onward (same is eq) h = same (ap (λ v. b ∷ v) is ∙ ap (λ v. v ∷ front) (sym h)) eq
    onward (shorter g is) h = shorter g (ap (λ v. a ∷ v) is ∙ ap (λ v. v ∷ (f ++ next ∷ g)) h)

kinds_after : (front g : List Token) (x : Token) → kinds_of (front ++ x ∷ g) ≡ (kinds_of front ++ x.kind ∷ []) ++ kinds_of g
kinds_after front g x = map-append (λ t. t.kind) front (x ∷ g) ∙ sym (append_assoc (kinds_of front) (x.kind ∷ []) (kinds_of g))

module _ (L : Language) (types : List ℕ) where
  -- a tree that begins with more tokens begins with fewer
  begins_less : (front g : List Token) (x : Token) → BeginsTree L types (kinds_of (front ++ x ∷ g)) → BeginsTree L types (kinds_of front ++ x.kind ∷ [])
  begins_less front g x b = record {
    tree = b.tree;
    rest = kinds_of g ++ b.rest;
    levelled = b.levelled;
    spells = b.spells ∙ ap (λ v. v ++ b.rest) (kinds_after front g x) ∙ append_assoc (kinds_of front ++ x.kind ∷ []) (kinds_of g) b.rest;
  }

  module _ (front ys : List Token) (x : Token) (goes : BeginsTree L types (kinds_of front)) where
    -- no tree ends or fails before the token, so the front is as long at least
    before : (f : List Token) (next : Token) (g : List Token) → front ≡ f ++ next ∷ g → BeginsTree L types (kinds_of f ++ next.kind ∷ [])
    before f next g is = begins_less f g next (subst (λ v. BeginsTree L types (kinds_of v)) is goes)

    -- What was read is a tree that goes on past the token.
    pub read_on : ¬ IsTree L types (kinds_of front) → (f more : List Token) (next : Token) → front ++ x ∷ ys ≡ f ++ next ∷ more
        → IsTree L types (kinds_of f) → ¬ BeginsTree L types (kinds_of f ++ next.kind ∷ []) → BeginsTree L types (kinds_of front ++ x.kind ∷ [])
    read_on none f more next e tree longest = by (split front f ys more x next e)
      where
        by : Split front f x next → BeginsTree L types (kinds_of front ++ x.kind ∷ [])
        by (longer g is) = record { tree = tree.tree; rest = kinds_of g; levelled = tree.levelled; spells = tree.spells ∙ ap (λ v. kinds_of v) is ∙ kinds_after front g x }
        by (same is eq) = absurd (none (subst (λ v. IsTree L types (kinds_of v)) is tree))
        by (shorter g is) = absurd (longest (before f next g is))

    -- Where it failed later, a tree goes on past the token.
    pub failed_later : (f more : List Token) (next : Token) → front ++ x ∷ ys ≡ f ++ next ∷ more → length front < length f
        → BeginsTree L types (kinds_of f) → BeginsTree L types (kinds_of front ++ x.kind ∷ [])
    failed_later f more next e less on = by (split front f ys more x next e)
      where
        by : Split front f x next → BeginsTree L types (kinds_of front ++ x.kind ∷ [])
        by (longer g is) = begins_less front g x (subst (λ v. BeginsTree L types (kinds_of v)) is on)
        by (same is eq) = let size : length f ≡ length front = ap length is in absurd (omega (arith, size, less))
        by (shorter g is) = let size : length front ≡ length f + length (next ∷ g) = ap length is ∙ length-append f (next ∷ g) in absurd (omega (arith, size, less))

    -- Where it failed at the token, none does; and it didn't fail before.
    pub failed_there : (f more : List Token) (next : Token) → front ++ x ∷ ys ≡ f ++ next ∷ more → length f ≡ length front
        → ¬ BeginsTree L types (kinds_of f ++ next.kind ∷ []) → ¬ BeginsTree L types (kinds_of front ++ x.kind ∷ [])
    failed_there f more next e size nothing = by (split front f ys more x next e)
      where
        by : Split front f x next → ¬ BeginsTree L types (kinds_of front ++ x.kind ∷ [])
        by (longer g is) = let longer_by : length f ≡ length front + length (x ∷ g) = ap length is ∙ length-append front (x ∷ g) in absurd (omega (arith, longer_by, size))
        by (same is eq) = λ b. nothing (subst (λ v. BeginsTree L types v) (ap (λ v. kinds_of v ++ x.kind ∷ []) (sym is) ∙ ap (λ (v : Token). kinds_of f ++ v.kind ∷ []) eq) b)
        by (shorter g is) = absurd (nothing (before f next g is))

    pub not_before : (f more : List Token) (next : Token) → front ++ x ∷ ys ≡ f ++ next ∷ more → length f < length front → ¬ BeginsTree L types (kinds_of f ++ next.kind ∷ []) → ⊥
    not_before f more next e less nothing = by (split front f ys more x next e)
      where
        by : Split front f x next → ⊥
        by (longer g is) = let size : length f ≡ length front + length (x ∷ g) = ap length is ∙ length-append front (x ∷ g) in omega (arith, size, less)
        by (same is eq) = let size : length f ≡ length front = ap length is in omega (arith, size, less)
        by (shorter g is) = nothing (before f next g is)

    -- Where the depth was passed at the token or later, a tree goes on past the token.
    pub nested_later : (f more : List Token) (next : Token) → front ++ x ∷ ys ≡ f ++ next ∷ more → length front ≡ length f → BeginsTree L types (kinds_of f ++ next.kind ∷ []) → BeginsTree L types (kinds_of front ++ x.kind ∷ [])
    nested_later f more next e size on = by (split front f ys more x next e)
      where
        by : Split front f x next → BeginsTree L types (kinds_of front ++ x.kind ∷ [])
        by (longer g is) = let longer_by : length f ≡ length front + length (x ∷ g) = ap length is ∙ length-append front (x ∷ g) in absurd (omega (arith, longer_by, size))
        by (same is eq) = subst (λ v. BeginsTree L types v) (ap (λ v. kinds_of v ++ next.kind ∷ []) is ∙ ap (λ (v : Token). kinds_of front ++ v.kind ∷ []) (sym eq)) on
        by (shorter g is) = let size2 : length front ≡ length f + length (next ∷ g) = ap length is ∙ length-append f (next ∷ g) in absurd (omega (arith, size2, size))

    -- a front that is longer holds the token
    pub within : (f more : List Token) (next : Token) → front ++ x ∷ ys ≡ f ++ next ∷ more → length f < length front → (g : List Token) × (front ≡ f ++ next ∷ g)
    within f more next e less = by (split front f ys more x next e)
      where
        by : Split front f x next → (g : List Token) × (front ≡ f ++ next ∷ g)
        by (longer g is) = let size : length f ≡ length front + length (x ∷ g) = ap length is ∙ length-append front (x ∷ g) in absurd (omega (arith, size, less))
        by (same is eq) = let size : length f ≡ length front = ap length is in absurd (omega (arith, size, less))
        by (shorter g is) = (g, is)
