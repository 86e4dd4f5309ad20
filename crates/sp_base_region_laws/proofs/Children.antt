-- Each part of what a region of an object holds has a region of that object.
use Rattle.std.proofs.Common.{◌≡◌, inl, inr, ℕ, zero, suc, ◌+◌, Bool, true, false, cond, List, [], ◌∷◌, ◌++◌, Option, Some, None, refl, sym, ap, ◌∙◌, subst, arith}
use Rattle.std.specs.Prelude.{slice_get, option_map}
use Rattle.sp_types.specs.Types.{CType, array, structure, Struct}
use Rattle.sp_ir.specs.declared.region.Step.{Step}
use Rattle.sp_ir.specs.declared.region.Step.TheVariants.{Field, Element}
use Rattle.sp_ir.specs.Regions.{Region}
use Rattle.sp_ir.specs.Shapes.{Shape, Shapes, is_floating_shape, regions, member_regions, HasShape, has_integer, has_pointer, has_floating, has_array, has_struct, has_union, HaveShapes, have_none, have_next}
use Rattle.sp_base_region_laws.specs.Parts.{member_type, member_type_in, part_type, has_region}
use Rattle.sp_base_region_laws.proofs.Members.{Within, within-left, within-right, Each, each-append, some_same}

module _ (ss : List Struct) (size : CType → ℕ) where
  -- the parts of what a region holds have regions in a list
  abbrev pub HasChildren : List Region → Region → Type 0
  HasChildren rs q = (t u : CType) (s : Step) → q.element ≡ Some t → part_type ss t s ≡ Some u → has_region s u ≡ true → Within rs q.object (q.path ++ s ∷ [])

  -- all places of the second list are places of the first
  abbrev pub Covers : List Region → List Region → Type 0
  Covers rs inner = (o : ℕ) (path : List Step) → Within inner o path → Within rs o path

  -- what has no parts has none at any step
  pub no-part : (t a u : CType) (x : Step) → Some t ≡ Some a → ((y : Step) → part_type ss t y ≡ None) → part_type ss a x ≡ Some u → ⊥
  no-part t a u x e none h = none-some (sym (none x) ∙ ap (λ y. part_type ss y x) (some_same e) ∙ h)
    where
      none-some : None ≡ Some u → ⊥
      none-some y = cc

  -- its own region comes first
  pub own : (o : ℕ) (path : List Step) (n : Option ℕ) (t : CType) (s : Shape) → HasShape ss size t s → Within (regions o path n s) o path
  own o path n t s has_integer = inl (refl, refl)
  own o path n t s has_pointer = inl (refl, refl)
  own o path n t s has_floating = inl (refl, refl)
  own o path n t s (has_array one) = inl (refl, refl)
  own o path n t s (has_struct at union complete all) = inl (refl, refl)
  own o path n t s (has_union at union complete one) = inl (refl, refl)

  kept : (k : ℕ) (t : CType) (s : Shape) → HasShape ss size t s → has_region (Field k) t ≡ true → is_floating_shape s ≡ false
  kept k t s has_integer h = refl
  kept k t s has_pointer h = refl
  kept k t s has_floating h = absurd (cc)
  kept k t s (has_array one) h = refl
  kept k t s (has_struct at union complete all) h = refl
  kept k t s (has_union at union complete one) h = refl

  unless-within : (b : Bool) (rs : List Region) (o : ℕ) (path : List Step) → b ≡ false → Within rs o path → Within (cond b [] rs) o path
  unless-within true rs o path e h = absurd (cc)
  unless-within false rs o path e h = h

  -- the region of a member
  member-there : (o : ℕ) (path : List Step) (k j : ℕ) (members : List (ℕ × CType)) (ms : Shapes) (m : ℕ × CType) → HaveShapes ss size members ms → slice_get members j ≡ Some m → has_region (Field (k + j)) m.1 ≡ true
      → Within (member_regions o path k ms) o (path ++ Field (k + j) ∷ [])
  member-there o path k j members ms m have_none at due = absurd (cc)
  member-there o path k zero members ms m (have_next {m = x} {s = s} {ss = more} one others) at due =
      let same : x ≡ m = some_same at in
      let here : Within (regions o (path ++ Field k ∷ []) (Some 1) s) o (path ++ Field (k + 0) ∷ []) = subst (λ i. Within (regions o (path ++ Field k ∷ []) (Some 1) s) o (path ++ Field i ∷ [])) (omega arith) (own o (path ++ Field k ∷ []) (Some 1) x.1 s one) in
      within-left (cond (is_floating_shape s) [] (regions o (path ++ Field k ∷ []) (Some 1) s)) (member_regions o path (k + 1) more) o (path ++ Field (k + 0) ∷ [])
      (unless-within (is_floating_shape s) (regions o (path ++ Field k ∷ []) (Some 1) s) o (path ++ Field (k + 0) ∷ []) (kept (k + 0) x.1 s one (ap (λ y. has_region (Field (k + 0)) y.1) same ∙ due)) here)
  member-there o path k (suc j) members ms m (have_next {m = x} {ms = rest} {s = s} {ss = more} one others) at due =
      let index : (k + 1) + j ≡ k + suc j = omega arith in
      within-right (cond (is_floating_shape s) [] (regions o (path ++ Field k ∷ []) (Some 1) s)) (member_regions o path (k + 1) more) o (path ++ Field (k + suc j) ∷ [])
      (subst (λ i. Within (member_regions o path (k + 1) more) o (path ++ Field i ∷ [])) index (member-there o path (k + 1) j rest more m others at (ap (λ i. has_region (Field i) m.1) index ∙ due)))

  -- a member of a struct of the table
  member-of : (n k : ℕ) (d : Struct) (members : List (ℕ × CType)) (u : CType) → slice_get ss n ≡ Some d → d.members ≡ Some members → part_type ss (structure n) (Field k) ≡ Some u
      → (m : ℕ × CType) × (slice_get members k ≡ Some m) × (m.1 ≡ u)
  member-of n k d members u at complete h =
      by (slice_get members k) refl (sym (ap (λ o. member_type o k) at ∙ ap (λ o. member_type_in o k) complete) ∙ h)
    where
      by : (x : Option (ℕ × CType)) → slice_get members k ≡ x → option_map (λ (y : ℕ × CType). y.1) (slice_get members k) ≡ Some u → (m : ℕ × CType) × (slice_get members k ≡ Some m) × (m.1 ≡ u)
      by None e g = absurd (none-some (sym (ap (λ o. option_map (λ (y : ℕ × CType). y.1) o) e) ∙ g))
        where
          none-some : {a : CType} → None ≡ Some a → ⊥
          none-some x = cc
      by (Some m) e g = (m, e, some_same (sym (ap (λ o. option_map (λ (y : ℕ × CType). y.1) o) e) ∙ g))

  mutual
    pub shape-children : (rs : List Region) (o : ℕ) (path : List Step) (n : Option ℕ) (t : CType) (s : Shape) → HasShape ss size t s → Covers rs (regions o path n s) → Each (HasChildren rs) (regions o path n s)
    shape-children rs o path n t s has_integer cover = (λ a u x e h due. absurd (no-part t a u x e (λ y. refl) h), tt)
    shape-children rs o path n t s has_pointer cover = (λ a u x e h due. absurd (no-part t a u x e (λ y. refl) h), tt)
    shape-children rs o path n t s has_floating cover = (λ a u x e h due. absurd (no-part t a u x e (λ y. refl) h), tt)
    shape-children rs o path n t s (has_array {t = v} {n = k} {s = inner} one) cover =
        (λ a u x e h due. element a u x e h, shape-children rs o (path ++ Element ∷ []) (Some k) v inner one (λ o' p h. cover o' p (inr h)))
      where
        element : (a u : CType) (x : Step) → Some (array v (Some k)) ≡ Some a → part_type ss a x ≡ Some u → Within rs o (path ++ x ∷ [])
        element a u (Field j) e h = absurd (none-some (ap (λ y. part_type ss y (Field j)) (some_same e) ∙ h))
          where
            none-some : None ≡ Some u → ⊥
            none-some y = cc
        element a u Element e h = cover o (path ++ Element ∷ []) (inr (own o (path ++ Element ∷ []) (Some k) v inner one))
    shape-children rs o path n t s (has_struct {n = j} {d = d} {members = members} {ms = ms} at union complete all) cover =
        (λ a u x e h due. member a u x e h due, members-children rs o path 0 members ms all (λ o' p h. cover o' p (inr h)))
      where
        member : (a u : CType) (x : Step) → Some (structure j) ≡ Some a → part_type ss a x ≡ Some u → has_region x u ≡ true → Within rs o (path ++ x ∷ [])
        member a u Element e h due = absurd (none-some (ap (λ y. part_type ss y Element) (some_same e) ∙ h))
          where
            none-some : None ≡ Some u → ⊥
            none-some y = cc
        member a u (Field k) e h due =
            let found = member-of j k d members u at complete (ap (λ y. part_type ss y (Field k)) (some_same e) ∙ h) in
            cover o (path ++ Field k ∷ []) (inr (subst (λ i. Within (member_regions o path 0 ms) o (path ++ Field i ∷ [])) (omega arith)
            (member-there o path 0 k members ms found.0 all found.1 (ap (λ y. has_region (Field k) y) found.2 ∙ due))))
    shape-children rs o path n t s (has_union at union complete one) cover = (λ a u x e h due. absurd (cc), tt)

    members-children : (rs : List Region) (o : ℕ) (path : List Step) (k : ℕ) (members : List (ℕ × CType)) (ms : Shapes) → HaveShapes ss size members ms → Covers rs (member_regions o path k ms) → Each (HasChildren rs) (member_regions o path k ms)
    members-children rs o path k members ms have_none cover = tt
    members-children rs o path k members ms (have_next {m = m} {ms = rest} {s = s} {ss = more} one others) cover =
        let inner : List Region = regions o (path ++ Field k ∷ []) (Some 1) s in
        each-append (HasChildren rs) (cond (is_floating_shape s) [] inner) (member_regions o path (k + 1) more)
        (by (is_floating_shape s) refl (λ cover'. shape-children rs o (path ++ Field k ∷ []) (Some 1) m.1 s one cover'))
        (members-children rs o path (k + 1) rest more others (λ o' p h. cover o' p (within-right (cond (is_floating_shape s) [] inner) (member_regions o path (k + 1) more) o' p h)))
      where
        by : (b : Bool) → is_floating_shape s ≡ b
            → (Covers rs (regions o (path ++ Field k ∷ []) (Some 1) s) → Each (HasChildren rs) (regions o (path ++ Field k ∷ []) (Some 1) s))
            → Each (HasChildren rs) (cond b [] (regions o (path ++ Field k ∷ []) (Some 1) s))
        by true e inside = tt
        by false e inside = inside
            (λ o' p h. cover o' p (within-left (cond (is_floating_shape s) [] (regions o (path ++ Field k ∷ []) (Some 1) s)) (member_regions o path (k + 1) more) o' p (unless-within (is_floating_shape s) (regions o (path ++ Field k ∷ []) (Some 1) s) o' p e h)))
