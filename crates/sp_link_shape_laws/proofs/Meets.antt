-- Types of two units that agree to every depth: what a shape needs to know of them.
use Rattle.std.proofs.Common.{◌≡◌, ℕ, zero, suc, Bool, true, false, ◌&&◌, ◌==◌, List, [], ◌∷◌, Some, None, ◌⊎◌, inl, inr, refl, ap, sym, subst, ◌∙◌, true≢false, eqb-true}
use Rattle.std.specs.Prelude.{slice_get, ⊤}
use Rattle.std.specs.Option.{option_eq}
use Rattle.sp_types.specs.declared.ctype.IntKind.{IntKind}
use Rattle.sp_types.specs.declared.extents.Extent.{Extent}
use Rattle.sp_types.specs.Types.{CType, void, integer, floating, pointer, array, structure, function, Struct}
use Rattle.sp_types.specs.Layout.{extent, layout}
use Rattle.sp_types.specs.Structs.{IsWhole, with_member, with_members}
use Rattle.sp_types.specs.Compatible.{same_flag}
use Rattle.sp_link_agreement.specs.Agreement.{compatible_by, members_agree, contents_agree, same_head, structs_agree}
use Rattle.sp_link_agreement.specs.Depths.{struct_of_table, struct_at, found_agree, agrees_within, Agree, TypesAgree}
use Rattle.sp_ir.specs.Shapes.{Shape, Shapes, scalar, floating_shape, union_of, array_of, struct_of, no_shapes, next_shape}
use Rattle.sp_check_typing.specs.Sorts.{same_value}
use Rattle.sp_link_structs_laws.specs.Tables.{AreTables}
use Rattle.sp_link_structs_laws.proofs.Lists.{none_some, and_left, and_right}
use Rattle.sp_link_structs_laws.proofs.Same.{contents, repeated_some, struct_some, member_some, whole_members}
use Rattle.sp_link_shape_laws.proofs.Like.{IsLike, AreLike}

-- ---- types that meet

-- They are alike down to the structs that they hold, of which the relation holds.
abbrev pub Meet : (ℕ → ℕ → Type 0) → CType → CType → Type 0
Meet R (integer k) (integer j) = ⊤
Meet R (floating k) (floating j) = ⊤
Meet R (pointer a) (pointer b) = ⊤
Meet R (array a (Some n)) (array b (Some o)) = (n ≡ o) × Meet R a b
Meet R (structure k) (structure j) = R k j
Meet R _ _ = ⊥

meet_back : (R : ℕ → ℕ → Type 0) (a b : CType) → Meet R a b → Meet (λ j k. R k j) b a
meet_back R (integer k) (integer j) h = tt
meet_back R (floating k) (floating j) h = tt
meet_back R (pointer a) (pointer b) h = tt
meet_back R (array a (Some n)) (array b (Some o)) h = (sym h.0, meet_back R a b h.1)
meet_back R (structure k) (structure j) h = h
meet_back R _ _ h = absurd h

abbrev pub AllMeet : (ℕ → ℕ → Type 0) → List (ℕ × CType) → List (ℕ × CType) → Type 0
AllMeet R [] [] = ⊤
AllMeet R (m ∷ ms) (k ∷ ks) = Meet R m.1 k.1 × AllMeet R ms ks
AllMeet R _ _ = ⊥

all_back : (R : ℕ → ℕ → Type 0) (ms ks : List (ℕ × CType)) → AllMeet R ms ks
    → AllMeet (λ j k. R k j) ks ms
all_back R [] [] h = tt
all_back R (m ∷ ms) (k ∷ ks) h = (meet_back R m.1 k.1 h.0, all_back R ms ks h.1)
all_back R _ _ h = absurd h

-- ---- types that agree meet

-- structs of which one agrees with the other
abbrev pub IsLinked : List (List Struct) → ℕ × ℕ → ℕ × ℕ → Type 0
IsLinked us x y = Agree us x y ⊎ Agree us y x

module _ (us : List (List Struct)) (u v : ℕ) (ss ts : List Struct) (R : ℕ → ℕ → Type 0)
    (leads : (k j : ℕ) → Agree us (u, k) (v, j) → R k j) where
  types_meet : (a b : CType) → TypesAgree us (u, a) (v, b) → (e f : Extent)
      → layout ss a ≡ Some e → layout ts b ≡ Some f → Meet R a b
  types_meet (integer k) (integer j) h e f p q = tt
  types_meet (integer k) _ h e f p q = absurd (true≢false (sym (h zero)))
  types_meet (floating k) (floating j) h e f p q = tt
  types_meet (floating k) _ h e f p q = absurd (true≢false (sym (h zero)))
  types_meet (pointer a) (pointer b) h e f p q = tt
  types_meet (pointer a) _ h e f p q = absurd (true≢false (sym (h zero)))
  types_meet (array a None) b h e f p q = absurd (none_some e p)
  types_meet (array a (Some n)) (array b None) h e f p q = absurd (none_some f q)
  types_meet (array a (Some n)) (array b (Some o)) h e f p q =
      let x : (g : Extent) × (layout ss a ≡ Some g) = repeated_some n (layout ss a) e p in
      let y : (g : Extent) × (layout ts b ≡ Some g) = repeated_some o (layout ts b) f q in (
        eqb-true n o
            (and_left (n == o) (compatible_by (λ k j. agrees_within zero us (u, k) (v, j)) a b) (h zero)),
        types_meet a b
            (λ z. and_right (n == o) (compatible_by (λ k j. agrees_within z us (u, k) (v, j)) a b) (h z))
            x.0 y.0 x.1 y.1,
      )
  types_meet (array a (Some n)) _ h e f p q = absurd (true≢false (sym (h zero)))
  types_meet (structure k) (structure j) h e f p q = leads k j h
  types_meet (structure k) _ h e f p q = absurd (true≢false (sym (h zero)))
  types_meet void b h e f p q = absurd (none_some e p)
  types_meet (function s) b h e f p q = absurd (none_some e p)

  pub members_meet : (union other : Bool) (x y : Extent) (ms ks : List (ℕ × CType))
      → ((n : ℕ) → members_agree (λ k j. agrees_within n us (u, k) (v, j)) ms ks ≡ true)
      → (e f : Extent) → with_members ss union x ms ≡ Some e → with_members ts other y ks ≡ Some f
      → AllMeet R ms ks
  members_meet union other x y [] [] h e f p q = tt
  members_meet union other x y [] (k ∷ ks) h e f p q = absurd (true≢false (sym (h zero)))
  members_meet union other x y (m ∷ ms) [] h e f p q = absurd (true≢false (sym (h zero)))
  members_meet union other x y (m ∷ ms) (k ∷ ks) h e f p q =
      let a : (g : Extent) × (layout ss m.1 ≡ Some g) × (with_members ss union (with_member union x g) ms ≡ Some e) =
      member_some ss union x ms (layout ss m.1) e p in
      let b : (g : Extent) × (layout ts k.1 ≡ Some g) × (with_members ts other (with_member other y g) ks ≡ Some f) =
      member_some ts other y ks (layout ts k.1) f q in (
        types_meet m.1 k.1
            (λ n. and_right (m.0 == k.0) (compatible_by (λ k j. agrees_within n us (u, k) (v, j)) m.1 k.1)
            (and_left (m.0 == k.0 && compatible_by (λ k j. agrees_within n us (u, k) (v, j)) m.1 k.1)
            (members_agree (λ k j. agrees_within n us (u, k) (v, j)) ms ks) (h n)))
            a.0 b.0 a.1 b.1,
        members_meet union other (with_member union x a.0) (with_member other y b.0) ms ks
            (λ n. and_right (m.0 == k.0 && compatible_by (λ k j. agrees_within n us (u, k) (v, j)) m.1 k.1)
            (members_agree (λ k j. agrees_within n us (u, k) (v, j)) ms ks) (h n))
            e f a.2 b.2,
      )

-- ---- structs that are linked

flag_is : (a b : Bool) → same_flag a b ≡ true → a ≡ b
flag_is true b h = sym h
flag_is false true h = absurd (true≢false (sym h))
flag_is false false h = refl

agreed : (us : List (List Struct)) (x y : ℕ × ℕ) (s t : Struct) → struct_at us x ≡ Some s
    → struct_at us y ≡ Some t → Agree us x y → (n : ℕ)
    → structs_agree (λ k j. agrees_within n us (x.0, k) (y.0, j)) s t ≡ true
agreed us x y s t a b h n =
    (λ i. found_agree (λ k j. agrees_within n us (x.0, k) (y.0, j)) (sym a i) (sym b i)) ∙ h (suc n)

unions_agree : (agree : ℕ → ℕ → Bool) (s t : Struct) → structs_agree agree s t ≡ true
    → s.union ≡ t.union
unions_agree agree s t h =
    flag_is s.union t.union (and_right (option_eq (λ n m. n == m) s.tag t.tag) (same_flag s.union t.union)
    (and_left (same_head s t) (contents_agree agree s.members t.members) h))

-- the members that a struct of the unit v has, where the one of the unit u has these
record Beside (us : List (List Struct)) (u v : ℕ) (ts : List Struct) (j : ℕ) (union : Bool)
    (ms : List (ℕ × CType)) : Type 0 where
  entry : Struct
  members : List (ℕ × CType)
  there : slice_get ts j ≡ Some entry
  kind : entry.union ≡ union
  told : entry.members ≡ Some members
  whole : Extent
  laid : with_members ts entry.union (extent 0 1) members ≡ Some whole
  meet : AllMeet (λ k j. IsLinked us (u, k) (v, j)) ms members

module _ (us : List (List Struct)) (tables : AreTables us) (u v : ℕ) (ss ts : List Struct)
    (at-u : slice_get us u ≡ Some ss) (at-v : slice_get us v ≡ Some ts) where
  linked_meet : (k j : ℕ) (d t : Struct) (ms ks : List (ℕ × CType)) → slice_get ss k ≡ Some d
      → slice_get ts j ≡ Some t → d.members ≡ Some ms → t.members ≡ Some ks → (e f : Extent)
      → with_members ss d.union (extent 0 1) ms ≡ Some e
      → with_members ts t.union (extent 0 1) ks ≡ Some f → IsLinked us (u, k) (v, j)
      → (t.union ≡ d.union) × AllMeet (λ k j. IsLinked us (u, k) (v, j)) ms ks
  linked_meet k j d t ms ks a b c g e f p q (inl h) =
      let all : (n : ℕ) → structs_agree (λ k j. agrees_within n us (u, k) (v, j)) d t ≡ true =
      agreed us (u, k) (v, j) d t (ap (λ o. struct_of_table o k) at-u ∙ a)
      (ap (λ o. struct_of_table o j) at-v ∙ b) h in (
        sym (unions_agree (λ k j. agrees_within zero us (u, k) (v, j)) d t (all zero)),
        members_meet us u v ss ts (λ k j. IsLinked us (u, k) (v, j)) (λ k j z. inl z) d.union t.union
            (extent 0 1) (extent 0 1) ms ks
            (λ n. contents (λ k j. agrees_within n us (u, k) (v, j)) d t ms ks c g (all n)) e f p q,
      )
  linked_meet k j d t ms ks a b c g e f p q (inr h) =
      let all : (n : ℕ) → structs_agree (λ k j. agrees_within n us (v, k) (u, j)) t d ≡ true =
      agreed us (v, j) (u, k) t d (ap (λ o. struct_of_table o j) at-v ∙ b)
      (ap (λ o. struct_of_table o k) at-u ∙ a) h in (
        unions_agree (λ k j. agrees_within zero us (v, k) (u, j)) t d (all zero),
        all_back (λ j k. IsLinked us (u, k) (v, j)) ks ms
            (members_meet us v u ts ss (λ j k. IsLinked us (u, k) (v, j)) (λ j k z. inr z) t.union d.union
            (extent 0 1) (extent 0 1) ks ms
            (λ n. contents (λ k j. agrees_within n us (v, k) (u, j)) t d ks ms g c (all n)) f e q p),
      )

  beside : (k j : ℕ) (d : Struct) (ms : List (ℕ × CType)) → slice_get ss k ≡ Some d
      → d.members ≡ Some ms → IsLinked us (u, k) (v, j) → (f : Extent)
      → layout ts (structure j) ≡ Some f → Beside us u v ts j d.union ms
  beside k j d ms a c h f q =
      let own : IsWhole ss d (Some ms) = subst (IsWhole ss d) c (tables u ss at-u k d a) in
      let x : (t : Struct) × (slice_get ts j ≡ Some t) × (t.extent ≡ Some f) = struct_some (slice_get ts j) f q in
      let w : (ks : List (ℕ × CType)) × (x.0.members ≡ Some ks) × IsWhole ts x.0 (Some ks) =
      whole_members ts x.0 x.0.members f x.2 (tables v ts at-v j x.0 x.1) in
      let both : (x.0.union ≡ d.union) × AllMeet (λ k j. IsLinked us (u, k) (v, j)) ms w.0 =
      linked_meet k j d x.0 ms w.0 a x.1 c w.1 own.1.0 w.2.1.0 own.1.2 w.2.1.2 h in
      record {
        entry = x.0;
        members = w.0;
        there = x.1;
        kind = both.0;
        told = w.1;
        whole = w.2.1.0;
        laid = w.2.1.2;
        meet = both.1;
      }

-- ---- shapes of types that meet

integer_on : (c : CType) (k j : IntKind) → same_value c (integer k) ≡ true
    → same_value c (integer j) ≡ true
integer_on (integer i) k j h = refl
integer_on c k j h = absurd (true≢false (sym h))

pub pointer_on : (c a b : CType) → same_value c (pointer a) ≡ true
    → same_value c (pointer b) ≡ true
pointer_on (pointer t) a b h = refl
pointer_on c a b h = absurd (true≢false (sym h))

-- the first member, with its layout
first_member : (R : ℕ → ℕ → Type 0) (ts : List Struct) (union : Bool) (x e : Extent) (m : ℕ × CType)
    (ms ks : List (ℕ × CType)) → AllMeet R (m ∷ ms) ks → with_members ts union x ks ≡ Some e
    → (n : ℕ × CType) × (rest : List (ℕ × CType)) × (ks ≡ n ∷ rest) × Meet R m.1 n.1
    × ((g : Extent) × (layout ts n.1 ≡ Some g))
first_member R ts union x e m ms [] h p = absurd h
first_member R ts union x e m ms (n ∷ rest) h p =
    let a = member_some ts union x rest (layout ts n.1) e p in
    (n, rest, refl, h.0, (a.0, a.1))

module _ (us : List (List Struct)) (tables : AreTables us) (u v : ℕ) (ss ts : List Struct)
    (at-u : slice_get us u ≡ Some ss) (at-v : slice_get us v ≡ Some ts) where
  abbrev Linked : ℕ → ℕ → Type 0
  Linked k j = IsLinked us (u, k) (v, j)

  mutual
    pub like_on : (s : Shape) (a b : CType) → IsLike ss s a → Meet Linked a b → (f : Extent)
        → layout ts b ≡ Some f → IsLike ts s b
    like_on (scalar c n) (integer k) (integer j) h g f q = integer_on c k j h
    like_on (scalar c n) (integer k) _ h g f q = absurd g
    like_on (scalar c n) (pointer a) (pointer b) h g f q = pointer_on c a b h
    like_on (scalar c n) (pointer a) _ h g f q = absurd g
    like_on (floating_shape c n) (floating k) (floating j) h g f q = h
    like_on (floating_shape c n) (floating k) _ h g f q = absurd g
    like_on (array_of c n s i) (array a (Some x)) (array b (Some y)) h g f q =
        let w : (e : Extent) × (layout ts b ≡ Some e) = repeated_some y (layout ts b) f q in
        (h.0 ∙ g.0, like_on s a b h.1 g.1 w.0 w.1)
    like_on (array_of c n s i) (array a (Some x)) _ h g f q = absurd g
    like_on (union_of n s) (structure k) (structure j) h g f q =
        let w : Beside us u v ts j h.0.union (h.1 ∷ h.2) =
        beside us tables u v ss ts at-u at-v k j h.0 (h.1 ∷ h.2) h.3 h.5 g f q in
        let x = first_member Linked ts w.entry.union (extent 0 1) w.whole h.1 h.2 w.members w.meet w.laid in (
          w.entry,
          x.0,
          x.1,
          w.there,
          w.kind ∙ h.4,
          w.told ∙ ap Some x.2,
          like_on s h.1.1 x.0.1 h.6 x.3 x.4.0 x.4.1,
        )
    like_on (union_of n s) (structure k) _ h g f q = absurd g
    like_on (struct_of c n rest) (structure k) (structure j) h g f q =
        let w : Beside us u v ts j h.0.union h.1 =
        beside us tables u v ss ts at-u at-v k j h.0 h.1 h.2 h.4 g f q in (
          w.entry,
          w.members,
          w.there,
          w.kind ∙ h.3,
          w.told,
          all_on rest h.1 w.members w.entry.union (extent 0 1) w.whole h.5 w.meet w.laid,
        )
    like_on (struct_of c n rest) (structure k) _ h g f q = absurd g
    like_on _ _ _ h g f q = absurd h

    all_on : (rest : Shapes) (ms ks : List (ℕ × CType)) (union : Bool) (x e : Extent)
        → AreLike ss rest ms → AllMeet Linked ms ks → with_members ts union x ks ≡ Some e
        → AreLike ts rest ks
    all_on no_shapes [] [] union x e h g p = tt
    all_on no_shapes [] (k ∷ ks) union x e h g p = absurd g
    all_on (next_shape s rest) (m ∷ ms) (k ∷ ks) union x e h g p =
        let a : (f : Extent) × (layout ts k.1 ≡ Some f) × (with_members ts union (with_member union x f) ks ≡ Some e) =
        member_some ts union x ks (layout ts k.1) e p in (
          like_on s m.1 k.1 h.0 g.0 a.0 a.1,
          all_on rest ms ks union (with_member union x a.0) e h.1 g.1 a.2,
        )
    all_on (next_shape s rest) (m ∷ ms) [] union x e h g p = absurd g
    all_on _ _ _ union x e h g p = absurd h
