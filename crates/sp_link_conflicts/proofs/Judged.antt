-- A declaration that is judged behind those of its name is judged behind all before it.
use Rattle.std.proofs.Common.{◌≡◌, ℕ, ◌+◌, ◌<◌, ◌≤◌, zero, suc, Bool, true, false, ◌&&◌, nat_eq, if◌then◌else◌, map, filter, take, get_or, length, List, [], ◌∷◌, ◌++◌, Some, ◌⊎◌, inl, inr, ⊎_elim, refl, ap, sym, subst, ◌∙◌, eqb-true, eq-eqb, arith}
use Rattle.std.proofs.lemmas.Bool.{cases_lt}
use Rattle.std.specs.Prelude.{slice_get, Result, Ok, Err}
use Rattle.sp_tree.specs.declared.fault.FaultKind.{FaultKind}
use Rattle.sp_tree.specs.declared.fault.FaultKind.TheVariants.{SecondDefinition, IncompatibleDeclaration}
use Rattle.sp_types.specs.Types.{Struct}
use Rattle.sp_types.specs.View.{struct_of}
use Rattle.sp_base_checked.specs.Units.{CheckedUnit, checked_unit_of}
use Rattle.sp_base_checked.specs.declared.unit.CheckedUnit.{CheckedUnit as CodeUnit}
use Rattle.sp_link_agreement.specs.Depths.{tables}
use Rattle.sp_base_checked.specs.declared.error.CheckError.{CheckError}
use Rattle.sp_base_checked.specs.declared.error.CheckError.TheVariants.{NoMemory}
use Rattle.sp_base_checked.specs.declared.error.CheckError.TheVariants.{Fault as Faulty}
use Rattle.sp_link_conflicts.specs.Declarations.{Declaration, declarations}
use Rattle.sp_link_conflicts.specs.Conflicts.{Fits, Clashes, defines_again, IsProper, StandsAt, AreProperBelow, AreProper, IsFirstFault, AllFit, OneClashes, any_defines, IsJudged, AreJudged, AreChecked, tables_of}
use Rattle.sp_link_conflicts.proofs.Groups.{filter_pushed, take_more, of_filtered, to_filtered, any_filtered}
use Rattle.sp_link_conflicts.specs.Earlier.{group, AreEarlier}
use Rattle.sp_link_conflicts.specs.declared.earlier.Earlier.{Earlier}
use Rattle.sp_link_conflicts.proofs.Pairs.{get_below}

abbrev pub named : ℕ → List Declaration → List Declaration
named n ds = filter (λ d. nat_eq d.name n) ds

module _ (us : List (List Struct)) (ds : List Declaration) (e : Declaration) where
  pub all_fits : AllFit us (named e.name ds) e → Fits us ds e
  all_fits h i d at same =
      let w : (j : ℕ) × (slice_get (named e.name ds) j ≡ Some d) = to_filtered (λ d. nat_eq d.name e.name) ds i d at (eq-eqb d.name e.name same) in
      h w.0 d w.1

  pub one_clashes : OneClashes us (named e.name ds) e → Clashes us ds e
  one_clashes h =
      let w : (j : ℕ) × (slice_get ds j ≡ Some h.1) × (nat_eq h.1.name e.name ≡ true) = of_filtered (λ d. nat_eq d.name e.name) ds h.0 h.1 h.2 in
      (w.0, h.1, w.1, eqb-true h.1.name e.name w.2, h.3)

  again_is : (b : Bool) → (e.defines && any_defines (named e.name ds)) ≡ b → defines_again ds e ≡ b
  again_is b h = ap (λ x. e.defines && x) (sym (any_filtered e.name ds)) ∙ h

  pub is_proper : AllFit us (named e.name ds) e → (e.defines && any_defines (named e.name ds)) ≡ false → IsProper us ds e
  is_proper h d = (all_fits h, again_is false d)

  pub stands_at : (k : FaultKind)
      → (OneClashes us (named e.name ds) e × (k ≡ IncompatibleDeclaration)) ⊎ (AllFit us (named e.name ds) e × ((e.defines && any_defines (named e.name ds)) ≡ true) × (k ≡ SecondDefinition))
      → StandsAt us ds e k
  stands_at k (inl h) = inl (one_clashes h.0, h.1)
  stands_at k (inr h) = inr (all_fits h.0, again_is true h.1, h.2)

some_is : (p q : Declaration) → Some p ≡ Some q → p ≡ q
some_is p q e = cc

below : (i n : ℕ) → i < n + 1 → (i < n) ⊎ (i ≡ n)
below i n l = ⊎_elim (λ a. inl a) (λ a. inr (omega arith)) (cases_lt i n)

pub proper_more : (us : List (List Struct)) (es : List Declaration) (n : ℕ) (e : Declaration) → slice_get es n ≡ Some e → IsProper us (take n es) e → AreProperBelow us es n → AreProperBelow us es (n + 1)
proper_more us es n e at p all j d low there = by (below j n low)
  where
    by : (j < n) ⊎ (j ≡ n) → IsProper us (take j es) d
    by (inl l) = all j d l there
    by (inr l) =
        let now : slice_get es n ≡ Some d = ap (slice_get es) (sym l) ∙ there in
        let same : e ≡ d = some_is e d (sym at ∙ now) in
        subst (λ m. IsProper us (take m es) d) (sym l) (subst (λ x. IsProper us (take n es) x) same p)

-- ---- a declaration that is judged behind a list of its name

module _ (us : List (List Struct)) (es : List Declaration) (n : ℕ) (e : Declaration) (ds : List Declaration)
    (there : slice_get es n ≡ Some e) (is : ds ≡ named e.name (take n es)) (before : AreProperBelow us es n) where
  pub judged_wrong : (err : CheckError) → IsJudged us ds e (Err err) → AreJudged us es (Err err)
  judged_wrong NoMemory h = tt
  judged_wrong (Faulty f) h = record {
    number = n;
    declaration = e;
    there = there;
    stands = stands_at us (take n es) e f.kind
        (subst (λ xs. (OneClashes us xs e × (f.kind ≡ IncompatibleDeclaration)) ⊎ (AllFit us xs e × ((e.defines && any_defines xs) ≡ true) × (f.kind ≡ SecondDefinition))) is h.1);
    stands_there = h.0;
    before = before;
  }

  pub judged_right : (r : Unit {0}) → IsJudged us ds e (Ok r) → AreProperBelow us es (n + 1)
  judged_right r h =
      let p : IsProper us (take n es) e =
      is_proper us (take n es) e (subst (λ xs. AllFit us xs e) is h.0) (subst (λ xs. (e.defines && any_defines xs) ≡ false) is h.1) in
      proper_more us es n e there p before

  -- its list with it
  pub earlier_more : (old new : Earlier) → AreEarlier (take n es) old
      → ((m : ℕ) → group new m ≡ (if nat_eq e.name m then group old m ++ e ∷ [] else group old m)) → AreEarlier (take (n + 1) es) new
  earlier_more old new are more m =
      more m
      ∙ ap (λ xs. if nat_eq e.name m then xs ++ e ∷ [] else xs) (are m)
      ∙ sym (filter_pushed (λ d. nat_eq d.name m) (take n es) e)
      ∙ ap (filter (λ d. nat_eq d.name m)) (sym (take_more es n e there))

pub get_mapped : {A B : Type 0} (f : A → B) (xs : List A) (i : ℕ) (d : A) → i < length xs → slice_get (map f xs) i ≡ Some (f (get_or xs i d))
get_mapped f [] i d low = absurd (omega arith)
get_mapped f (y ∷ ys) zero d low = refl
get_mapped f (y ∷ ys) (suc i) d low = get_mapped f ys i d (omega arith)

pub all_past : (us : List (List Struct)) (es : List Declaration) (n : ℕ) → length es ≤ n → AreProperBelow us es n → AreProper us es
all_past us es n past h j e at = let l : j < length es = get_below es j e at in h j e (omega arith) at

-- ---- of units

pub tables_are : (us : List CodeUnit) → tables us ≡ tables_of (map checked_unit_of us)
tables_are [] = λ i. []
tables_are (u ∷ us) = ap (λ ts. map struct_of u.structs.items ∷ ts) (tables_are us)

pub checked_from : (xs : List CheckedUnit) (us : List (List Struct)) (es : List Declaration) (r : Result (Unit {0}) CheckError) → us ≡ tables_of xs → es ≡ declarations xs → AreJudged us es r → AreChecked xs r
checked_from xs us es (Ok r) p q h = subst (λ z. AreProper z (declarations xs)) p (subst (AreProper us) q h)
checked_from xs us es (Err (Faulty f)) p q h = subst (λ z. IsFirstFault z (declarations xs) f.kind f.place) p (subst (λ z. IsFirstFault us z f.kind f.place) q h)
checked_from xs us es (Err NoMemory) p q h = tt
