-- The structs of a program follow those of its units.
use Rattle.std.proofs.Common.{◌≡◌, ℕ, zero, suc, ◌<◌, Bool, true, false, ◌&&◌, ◌==◌, List, [], ◌∷◌, Option, Some, None, is_some, option_map, refl, ap, sym, subst, ◌∙◌, true≢false, eqb-true, eq-eqb}
use Rattle.std.specs.Prelude.{slice_get, slice_index_or, ⊤}
use Rattle.sp_types.specs.declared.ctype.IntKind.{IntKind}
use Rattle.sp_types.specs.Types.{Signature, CType, void, integer, floating, pointer, array, structure, function, Struct}
use Rattle.sp_types.specs.Layout.{extent, layout}
use Rattle.sp_types.specs.Structs.{IsWhole, with_member, with_members}
use Rattle.sp_types.specs.declared.extents.Extent.{Extent}
use Rattle.sp_link_renaming.specs.Renaming.{number_in, renamed_type}
use Rattle.sp_link_structs.specs.Matching.{Matching}
use Rattle.sp_link_agreement.specs.Agreement.{compatible_by, members_agree}
use Rattle.sp_link_agreement.specs.Depths.{struct_of_table, struct_at, found_agree, agrees_within, TypesAgree}
use Rattle.sp_link_structs.specs.Joined.{has_members, is_complete, IsStep, Joined, itself, onward, backward}
use Rattle.sp_link_structs.specs.Matched.{of_units, AreMatched}
use Rattle.sp_link_structs.specs.Laws.{number_of, StructsAreNumbered, JoinedAreOne, StructsAreThere}
use Rattle.sp_link_units.specs.Making.{renamed_members, renamed_struct, struct_told}
use Rattle.sp_ir.specs.Formed.{is_floating}
use Rattle.sp_check_typing.specs.Sorts.{agrees}
use Rattle.sp_link_structs_laws.specs.Tables.{program_struct, program_structs, AreTables}
use Rattle.sp_link_structs_laws.proofs.Lists.{first_there, some_is, none_some, map_got, map_from, index_got, and_left, and_right}
use Rattle.sp_link_structs_laws.proofs.Same.{contents, struct_some, member_some, whole_members}
use Rattle.sp_link_structs_laws.proofs.Stays.{found_some, table_there, types_kept, types_formed}
use Rattle.sp_base_layout_laws.specs.Laws.{HaveMembers}
use Rattle.sp_link_renaming_laws.specs.Follows.{AreMembers, HasMembers, StructsFollow}

-- ---- sorts

agrees_self : (k : ℕ) → (k == k) ≡ true
agrees_self k = eq-eqb k k refl

agrees_back : (a b : CType) → agrees a b ≡ true → agrees b a ≡ true
agrees_back void void h = refl
agrees_back (integer j) (integer k) h = refl
agrees_back (pointer t) (pointer u) h = refl
agrees_back (array t n) (array u m) h = refl
agrees_back (function s) (function r) h = refl
agrees_back (structure j) (structure k) h = eq-eqb k j (sym (eqb-true j k h))
agrees_back a b h = absurd (true≢false (sym h))

integer_on : (j k : IntKind) (c : CType) → agrees (integer k) c ≡ true → agrees (integer j) c ≡ true
integer_on j k (integer i) g = g
integer_on j k c g = g

pointer_on : (t u c : CType) → agrees (pointer u) c ≡ true → agrees (pointer t) c ≡ true
pointer_on t u (pointer v) g = g
pointer_on t u c g = g

array_on : (t u : CType) (n m : Option ℕ) (c : CType) → agrees (array u m) c ≡ true → agrees (array t n) c ≡ true
array_on t u n m (array v o) g = g
array_on t u n m c g = g

function_on : (r q : Signature) (c : CType) → agrees (function q) c ≡ true → agrees (function r) c ≡ true
function_on r q (function p) g = g
function_on r q c g = g

agrees_on : (a b c : CType) → agrees a b ≡ true → agrees b c ≡ true → agrees a c ≡ true
agrees_on void void c h g = g
agrees_on (integer j) (integer k) c h g = integer_on j k c g
agrees_on (pointer t) (pointer u) c h g = pointer_on t u c g
agrees_on (array t n) (array u m) c h g = array_on t u n m c g
agrees_on (function r) (function q) c h g = function_on r q c g
agrees_on (structure j) (structure k) c h g =
    subst (λ i. agrees (structure i) c ≡ true) (sym (eqb-true j k h)) g
agrees_on a b c h g = absurd (true≢false (sym h))

-- ---- members that are alike, in the program

-- two types of units, whose structs have these numbers in the program
abbrev AreAlikeTypes : List ℕ → List ℕ → CType → CType → Type 0
AreAlikeTypes ns ms a b = (is_floating b ≡ is_floating a)
    × (is_floating a ≡ false → agrees (renamed_type ms b) (renamed_type ns a) ≡ true)

alike_back : (ns ms : List ℕ) (a b : CType) → AreAlikeTypes ns ms a b → AreAlikeTypes ms ns b a
alike_back ns ms a b h =
    (sym h.0, λ e. agrees_back (renamed_type ms b) (renamed_type ns a) (h.1 (sym h.0 ∙ e)))

alike_on : (ns ms os : List ℕ) (a b c : CType) → AreAlikeTypes ns ms a b → AreAlikeTypes ms os b c
    → AreAlikeTypes ns os a c
alike_on ns ms os a b c h g = (
  g.0 ∙ h.0,
  λ e. agrees_on (renamed_type os c) (renamed_type ms b) (renamed_type ns a) (g.1 (h.0 ∙ e)) (h.1 e),
)

alike_self : (ns : List ℕ) (a : CType) → AreAlikeTypes ns ns a a
alike_self ns void = (refl, λ e. refl)
alike_self ns (integer k) = (refl, λ e. refl)
alike_self ns (floating k) = (refl, λ e. sym e)
alike_self ns (pointer t) = (refl, λ e. refl)
alike_self ns (array t n) = (refl, λ e. refl)
alike_self ns (structure k) = (refl, λ e. agrees_self (number_in ns k))
alike_self ns (function s) = (refl, λ e. refl)

abbrev AreAlike : List ℕ → List ℕ → List (ℕ × CType) → List (ℕ × CType) → Type 0
AreAlike ns ms [] [] = ⊤
AreAlike ns ms [] (b ∷ bs) = ⊥
AreAlike ns ms (a ∷ xs) [] = ⊥
AreAlike ns ms (a ∷ xs) (b ∷ bs) = (b.0 ≡ a.0) × AreAlikeTypes ns ms a.1 b.1 × AreAlike ns ms xs bs

all_back : (ns ms : List ℕ) (xs bs : List (ℕ × CType)) → AreAlike ns ms xs bs → AreAlike ms ns bs xs
all_back ns ms [] [] h = tt
all_back ns ms [] (b ∷ bs) h = absurd h
all_back ns ms (a ∷ xs) [] h = absurd h
all_back ns ms (a ∷ xs) (b ∷ bs) h =
    (sym h.0, alike_back ns ms a.1 b.1 h.1, all_back ns ms xs bs h.2)

all_on : (ns ms os : List ℕ) (xs bs cs : List (ℕ × CType)) → AreAlike ns ms xs bs
    → AreAlike ms os bs cs → AreAlike ns os xs cs
all_on ns ms os [] [] [] h g = tt
all_on ns ms os [] [] (c ∷ cs) h g = absurd g
all_on ns ms os [] (b ∷ bs) cs h g = absurd h
all_on ns ms os (a ∷ xs) [] cs h g = absurd h
all_on ns ms os (a ∷ xs) (b ∷ bs) [] h g = absurd g
all_on ns ms os (a ∷ xs) (b ∷ bs) (c ∷ cs) h g =
    (g.0 ∙ h.0, alike_on ns ms os a.1 b.1 c.1 h.1 g.1, all_on ns ms os xs bs cs h.2 g.2)

all_self : (ns : List ℕ) (xs : List (ℕ × CType)) → AreAlike ns ns xs xs
all_self ns [] = tt
all_self ns (a ∷ xs) = (refl, alike_self ns a.1, all_self ns xs)

-- as the program has them
all_members : (ns ms : List ℕ) (xs bs : List (ℕ × CType)) → AreAlike ns ms xs bs
    → AreMembers ns xs (renamed_members ms bs)
all_members ns ms [] [] h = tt
all_members ns ms [] (b ∷ bs) h = absurd h
all_members ns ms (a ∷ xs) [] h = absurd h
all_members ns ms (a ∷ xs) (b ∷ bs) h = (h.0, h.1.1, all_members ns ms xs bs h.2)

-- ---- steps

module _ (us : List (List Struct)) (m : Matching) (matched : AreMatched us m) (tables : AreTables us)
    (numbered : StructsAreNumbered) (joined : JoinedAreOne) (are_there : StructsAreThere) where
  abbrev numbers : ℕ → List ℕ
  numbers u = slice_index_or m.numbers u []

  -- a struct with an extent has members
  pub complete_here : (u : ℕ) (ss : List Struct) (k : ℕ) (s : Struct) (e : Extent) → slice_get us u ≡ Some ss
      → slice_get ss k ≡ Some s → s.extent ≡ Some e → is_complete us (u, k) ≡ true
  complete_here u ss k s e at there whole =
      let v : (l : List (ℕ × CType)) × (s.members ≡ Some l) × IsWhole ss s (Some l) =
      whole_members ss s s.members e whole (tables u ss at k s there) in
      ap has_members (ap (λ o. struct_of_table o k) at ∙ there) ∙ ap is_some v.1

  -- structs that are joined have one number
  pub one_number : (x y : ℕ × ℕ) (s t : Struct) → struct_at us x ≡ Some s → struct_at us y ≡ Some t
      → is_complete us x ≡ true → is_complete us y ≡ true → Joined us x y
      → number_in (numbers x.0) x.1 ≡ number_in (numbers y.0) y.1
  one_number x y s t a b c d j =
      let v = numbered us m x s matched a in
      let w = numbered us m y t matched b in
      let same : number_of m x ≡ number_of m y = (joined us m x y matched c d).1 j in
      let equal : v.0 ≡ w.0 = some_is v.0 w.0 (sym v.2 ∙ same ∙ w.2) in
      index_got (numbers x.0) x.1 v.0 0 v.2 ∙ equal ∙ sym (index_got (numbers y.0) y.1 w.0 0 w.2)

  step_joined : (x y : ℕ × ℕ) → IsStep us x y → Joined us x y
  step_joined x y step = onward x (itself refl) step

  module _ (u v : ℕ) (ss ts : List Struct) (at-u : slice_get us u ≡ Some ss) (at-v : slice_get us v ≡ Some ts)
      (before : u < v) where
    types_alike : (a b : CType) → TypesAgree us (u, a) (v, b) → (e f : Extent) → layout ss a ≡ Some e
        → layout ts b ≡ Some f → AreAlikeTypes (numbers u) (numbers v) a b
    types_alike (integer k) (integer j) h e f p q = (refl, λ z. refl)
    types_alike (integer k) _ h e f p q = absurd (true≢false (sym (h zero)))
    types_alike (floating k) (floating j) h e f p q = (refl, λ z. sym z)
    types_alike (floating k) _ h e f p q = absurd (true≢false (sym (h zero)))
    types_alike (pointer a) (pointer b) h e f p q = (refl, λ z. refl)
    types_alike (pointer a) _ h e f p q = absurd (true≢false (sym (h zero)))
    types_alike (array a n) (array b o) h e f p q = (refl, λ z. refl)
    types_alike (array a n) _ h e f p q = absurd (true≢false (sym (h zero)))
    types_alike (structure k) (structure j) h e f p q =
        let x : (s : Struct) × (slice_get ss k ≡ Some s) × (s.extent ≡ Some e) = struct_some (slice_get ss k) e p in
        let y : (t : Struct) × (slice_get ts j ≡ Some t) × (t.extent ≡ Some f) = struct_some (slice_get ts j) f q in
        let c : is_complete us (u, k) ≡ true = complete_here u ss k x.0 e at-u x.1 x.2 in
        let d : is_complete us (v, j) ≡ true = complete_here v ts j y.0 f at-v y.1 y.2 in
        let one : number_in (numbers u) k ≡ number_in (numbers v) j =
        one_number (u, k) (v, j) x.0 y.0 (ap (λ o. struct_of_table o k) at-u ∙ x.1)
        (ap (λ o. struct_of_table o j) at-v ∙ y.1) c d (step_joined (u, k) (v, j) (c, d, before, h)) in
        (refl, λ z. eq-eqb (number_in (numbers v) j) (number_in (numbers u) k) (sym one))
    types_alike (structure k) _ h e f p q = absurd (true≢false (sym (h zero)))
    types_alike void b h e f p q = absurd (none_some e p)
    types_alike (function s) b h e f p q = absurd (none_some e p)

    members_alike : (union other : Bool) (x y : Extent) (xs bs : List (ℕ × CType))
        → ((n : ℕ) → members_agree (λ k j. agrees_within n us (u, k) (v, j)) xs bs ≡ true)
        → (e f : Extent) → with_members ss union x xs ≡ Some e → with_members ts other y bs ≡ Some f
        → AreAlike (numbers u) (numbers v) xs bs
    members_alike union other x y [] [] h e f p q = tt
    members_alike union other x y [] (b ∷ bs) h e f p q = absurd (true≢false (sym (h zero)))
    members_alike union other x y (a ∷ xs) [] h e f p q = absurd (true≢false (sym (h zero)))
    members_alike union other x y (a ∷ xs) (b ∷ bs) h e f p q =
        let c : (g : Extent) × (layout ss a.1 ≡ Some g) × (with_members ss union (with_member union x g) xs ≡ Some e) =
        member_some ss union x xs (layout ss a.1) e p in
        let d : (g : Extent) × (layout ts b.1 ≡ Some g) × (with_members ts other (with_member other y g) bs ≡ Some f) =
        member_some ts other y bs (layout ts b.1) f q in
        let both : (n : ℕ) → (a.0 == b.0 && compatible_by (λ k j. agrees_within n us (u, k) (v, j)) a.1 b.1) ≡ true =
        (λ n. and_left (a.0 == b.0 && compatible_by (λ k j. agrees_within n us (u, k) (v, j)) a.1 b.1)
        (members_agree (λ k j. agrees_within n us (u, k) (v, j)) xs bs) (h n)) in (
          sym (eqb-true a.0 b.0 (and_left (a.0 == b.0) (compatible_by (λ k j. agrees_within zero us (u, k) (v, j)) a.1 b.1) (both zero))),
          types_alike a.1 b.1
              (λ n. and_right (a.0 == b.0) (compatible_by (λ k j. agrees_within n us (u, k) (v, j)) a.1 b.1) (both n))
              c.0 d.0 c.1 d.1,
          members_alike union other (with_member union x c.0) (with_member other y d.0) xs bs
              (λ n. and_right (a.0 == b.0 && compatible_by (λ k j. agrees_within n us (u, k) (v, j)) a.1 b.1)
              (members_agree (λ k j. agrees_within n us (u, k) (v, j)) xs bs) (h n))
              e f c.2 d.2,
        )

  -- the members of a struct that has them
  whole_list : (x : ℕ × ℕ) (s : Struct) (ms : List (ℕ × CType)) → struct_at us x ≡ Some s → s.members ≡ Some ms
      → (ss : List Struct) × (slice_get us x.0 ≡ Some ss) × IsWhole ss s (Some ms)
  whole_list x s ms a e =
      let w : (ss : List Struct) × (slice_get us x.0 ≡ Some ss) × (slice_get ss x.1 ≡ Some s) = table_there us x s a in
      (w.0, w.1, subst (IsWhole w.0 s) e (tables x.0 w.0 w.1 x.1 s w.2))

  step_alike : (x y : ℕ × ℕ) (s t : Struct) (ms ks : List (ℕ × CType)) → IsStep us x y
      → struct_at us x ≡ Some s → struct_at us y ≡ Some t → s.members ≡ Some ms → t.members ≡ Some ks
      → AreAlike (numbers x.0) (numbers y.0) ms ks
  step_alike x y s t ms ks step a b c d =
      let v = whole_list x s ms a c in
      let w = whole_list y t ks b d in
      members_alike x.0 y.0 v.0 w.0 v.1 w.1 step.2 s.union t.union (extent 0 1) (extent 0 1) ms ks
      (λ n. contents (λ k j. agrees_within n us (x.0, k) (y.0, j)) s t ms ks c d
      ((λ i. found_agree (λ k j. agrees_within n us (x.0, k) (y.0, j)) (sym a i) (sym b i)) ∙ step.3 (suc n)))
      v.2.1.0 w.2.1.0 v.2.1.2 w.2.1.2

  full : (o : Option Struct) → has_members o ≡ true
      → (t : Struct) × (o ≡ Some t) × ((ms : List (ℕ × CType)) × (t.members ≡ Some ms))
  full None h = absurd (true≢false (sym h))
  full (Some t) h = (t, refl, by t.members refl h)
    where
      by : (o : Option (List (ℕ × CType))) → t.members ≡ o → is_some t.members ≡ true
          → (ms : List (ℕ × CType)) × (t.members ≡ Some ms)
      by None e h = absurd (true≢false (sym h ∙ ap is_some e))
      by (Some ms) e h = (ms, e)

  chain_alike : (x y : ℕ × ℕ) (s t : Struct) (ms ks : List (ℕ × CType)) → Joined us x y
      → struct_at us x ≡ Some s → struct_at us y ≡ Some t → s.members ≡ Some ms → t.members ≡ Some ks
      → AreAlike (numbers x.0) (numbers y.0) ms ks
  chain_alike x y s t ms ks (itself e) a b c d =
      let same : s ≡ t = some_is s t (sym a ∙ ap (struct_at us) e ∙ b) in
      let list : ms ≡ ks = some_is ms ks (sym c ∙ ap (λ z. z.members) same ∙ d) in
      subst (λ z. AreAlike (numbers x.0) (numbers z.0) ms ks) e
      (subst (λ z. AreAlike (numbers x.0) (numbers x.0) ms z) list (all_self (numbers x.0) ms))
  chain_alike x y s t ms ks (onward z j step) a b c d =
      let w = full (struct_at us z) step.0 in
      all_on (numbers x.0) (numbers z.0) (numbers y.0) ms w.2.0 ks
      (chain_alike x z s w.0 ms w.2.0 j a w.1 c w.2.1) (step_alike z y w.0 t w.2.0 ks step w.1 b w.2.1 d)
  chain_alike x y s t ms ks (backward z j step) a b c d =
      let w = full (struct_at us z) step.1 in
      all_on (numbers x.0) (numbers z.0) (numbers y.0) ms w.2.0 ks
      (chain_alike x z s w.0 ms w.2.0 j a w.1 c w.2.1)
      (all_back (numbers y.0) (numbers z.0) ks w.2.0 (step_alike y z t w.0 ks w.2.0 step b w.1 d w.2.1))

  joined_full : (x y : ℕ × ℕ) → Joined us x y → is_complete us x ≡ true → is_complete us y ≡ true
  joined_full x y (itself e) h = subst (λ z. is_complete us z ≡ true) e h
  joined_full x y (onward z j step) h = step.1
  joined_full x y (backward z j step) h = step.0

  -- ---- the structs of a unit

  module _ (u : ℕ) (ss : List Struct) (at : slice_get us u ≡ Some ss) where
    has_there : (k : ℕ) (s : Struct) (ms : List (ℕ × CType)) → slice_get ss k ≡ Some s → s.members ≡ Some ms
        → HasMembers (numbers u) (program_structs us m) (number_in (numbers u) k) ms
    has_there k s ms there members =
        let found : struct_at us (u, k) ≡ Some s = ap (λ o. struct_of_table o k) at ∙ there in
        let c : is_complete us (u, k) ≡ true = ap has_members found ∙ ap is_some members in
        let w = numbered us m (u, k) s matched found in
        let j : Joined us (u, k) w.1 = first_there (Joined us (u, k)) (of_units 0 us) w.1 (w.4 c) in
        let r = full (struct_at us w.1) (joined_full (u, k) w.1 j c) in
        let is : program_struct us m w.1 ≡ renamed_struct (numbers w.1.0) r.0 =
        ap (struct_told (numbers w.1.0)) r.1 in
        record {
          struct = renamed_struct (numbers w.1.0) r.0;
          members = renamed_members (numbers w.1.0) r.2.0;
          there = ap (slice_get (program_structs us m)) (index_got (numbers u) k w.0 0 w.2)
              ∙ map_got (program_struct us m) m.structs w.0 w.1 w.3 ∙ ap Some is;
          told = ap (λ o. option_map (renamed_members (numbers w.1.0)) o) r.2.1;
          same = all_members (numbers u) (numbers w.1.0) ms r.2.0
              (chain_alike (u, k) w.1 s r.0 ms r.2.0 j found r.1 members r.2.1);
        }

    pub structs_followed : StructsFollow (numbers u) ss (program_structs us m)
    structs_followed = record {
      structs = λ k low. types_formed us m matched tables numbered are_there u ss at (structure k) low;
      layouts = λ k e p. (types_kept us m matched tables numbered are_there u ss at (structure k) e p).layouts ∙ p;
      members = λ k s ms there members. has_there k s ms there members;
    }

-- ---- no struct is without a member

none_renamed : (ns : List ℕ) (o : Option (List (ℕ × CType))) → option_map (renamed_members ns) o ≡ Some []
    → o ≡ Some []
none_renamed ns None h = absurd (none_some [] h)
none_renamed ns (Some []) h = refl
none_renamed ns (Some (m ∷ ms)) h = absurd (true≢false (ap is_nil h))
  where
    is_nil : Option (List (ℕ × CType)) → Bool
    is_nil (Some (m ∷ ms)) = true
    is_nil o = false

pub members_there : (us : List (List Struct)) (m : Matching) → AreMatched us m → StructsAreThere
    → ((u : ℕ) (ss : List Struct) → slice_get us u ≡ Some ss → HaveMembers ss)
    → HaveMembers (program_structs us m)
members_there us m matched are_there have n s at none =
    let r : (r : ℕ × ℕ) × (slice_get m.structs n ≡ Some r) × (program_struct us m r ≡ s) =
    map_from (program_struct us m) m.structs n s at in
    let t : (t : Struct) × (struct_at us r.0 ≡ Some t) =
    found_some (struct_at us r.0) (are_there us m n r.0 matched r.1) in
    let w : (ss : List Struct) × (slice_get us r.0.0 ≡ Some ss) × (slice_get ss r.0.1 ≡ Some t.0) =
    table_there us r.0 t.0 t.1 in
    have r.0.0 w.0 w.1 r.0.1 t.0 w.2
    (none_renamed (slice_index_or m.numbers r.0.0 []) t.0.members
    (ap (λ o. (struct_told (slice_index_or m.numbers r.0.0 []) o).members) (sym t.1)
    ∙ ap (λ z. z.members) r.2 ∙ none))
