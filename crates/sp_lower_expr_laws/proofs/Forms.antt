-- The other forms of expressions: conversions, parts, operators, choices and commas.
use Rattle.std.proofs.Common.{◌≡◌, ℕ, true, false, ◌||◌, List, Option, Some, None, refl, ap, sym, ◌∙◌, subst, eqb-true}
use Rattle.std.proofs.lemmas.Option.{none-some}
use Rattle.sp_tree.specs.declared.fault.Place.{Place}
use Rattle.sp_tree.specs.declared.token.Punct.{Punct}
use Rattle.sp_tree.specs.declared.token.Punct.TheVariants.{AndAnd, OrOr, Ampersand, Star, Exclamation, Increment, Decrement, Plus, Minus, Tilde, Less, LessEqual, Greater, GreaterEqual, EqualEqual, NotEqual}
use Rattle.sp_types.specs.Types.{CType, void, integer, floating, pointer, array, structure, function, Signature}
use Rattle.sp_types.specs.Structs.{IsFormed}
use Rattle.sp_types.specs.Compatible.{convertible}
use Rattle.sp_types.specs.Typed.{Typed, typed, TypedForm, of, place_of}
use Rattle.sp_types.specs.Typed as tree
use Rattle.sp_ir.specs.Commands.{Expression, convert, unary, through, field, expression_type, lvalue_type}
use Rattle.sp_ir.specs.Regions.{Region}
use Rattle.sp_ir.specs.Programs.{Object}
use Rattle.sp_ir.specs.Formed.{is_integer, is_pointer, is_array, is_struct, is_scalar, is_floating, is_sign, is_operator}
use Rattle.sp_lower_draft.specs.declared.operators.Circuit.{Circuit}
use Rattle.sp_lower_draft.specs.declared.operators.Prefix.{Prefix}
use Rattle.sp_lower_draft.specs.declared.operators.Prefix.TheVariants as prefixes
use Rattle.sp_lower_draft.specs.Context.{Context, is_void, kind_of}
use Rattle.sp_lower_draft.specs.Draft.{Draft, left}
use Rattle.sp_lower_draft.specs.Operators.{circuit_of}
use Rattle.sp_lower_draft.specs.Steps.{addressed, loaded, negated, followed}
use Rattle.sp_lower_draft.specs.Expressions.{Meaning, operand_of, plain, valued, lvalue, both, nowhere, index_place, member_place, arrow_place, circuit_branch, binary_value, binary_unused, binary_branch, binary, prefix_value, prefix_place, prefix_unused, prefix_branch, prefixed, conversion_value, conversion_place, conversion_unused, conversion, decay_value, in_turn}
use Rattle.sp_check_typing.specs.Sorts.{IsStored, is_function, agrees}
use Rattle.sp_check_typing.specs.Trees.{has_place, form_has_place, HasMember, PointsToMember, IsIndex, IsSum, IsDifference, AreCompared, AreIntegers, IsBinary, IsStep, IsUnary, Converts}
use Rattle.sp_lower_expr_laws.specs.Grown.{IsMaybeFormed}
use Rattle.sp_lower_expr_laws.specs.Uses.{Yields, IsValue, Designates, Gives, GivesEnds, IsGood}
use Rattle.sp_lower_expr_laws.proofs.Growing.{onward}
use Rattle.sp_lower_expr_laws.proofs.Sorts.{false_true, integer_scalar, pointer_scalar, agrees_self, scalar_there, scalar_stored, stepped_scalar, AreOneSort, one_sort, one_void, one_yields, one_agrees}
use Rattle.sp_lower_expr_laws.proofs.Loads.{IsPointer, loaded_good, addressed_good}
use Rattle.sp_lower_expr_laws.proofs.Members.{member_good, arrow_good}
use Rattle.sp_lower_expr_laws.proofs.Keeps.{gives_made}
use Rattle.sp_lower_expr_laws.proofs.Operators.{yields_integer, yields_pointer, integer_value, pointer_value, scalar_value, operated_good, negated_good, element_good}
use Rattle.sp_lower_expr_laws.proofs.Branches.{swapped_good, met_good, circuit_good, truth_good}
use Rattle.sp_lower_expr_laws.proofs.Plain.{plain_good, valued_good, lvalue_good, compared_good, both_good}
use Rattle.sp_lower_expr_laws.proofs.Assignments.{step_unused_good, step_value_good}

-- ---- which sorts convert

converts_scalar : (a t : CType) → is_scalar t ≡ true → convertible a t ≡ true → is_scalar a ≡ true
converts_scalar (integer j) t s h = refl
converts_scalar (pointer u) t s h = refl
converts_scalar (structure j) (integer k) s h = h
converts_scalar (structure j) (pointer t) s h = h
converts_scalar (structure j) void s h = s
converts_scalar (structure j) (floating k) s h = s
converts_scalar (structure j) (array t n) s h = s
converts_scalar (structure j) (structure k) s h = s
converts_scalar (structure j) (function r) s h = s
converts_scalar void t s h = h
converts_scalar (floating k) t s h = h
converts_scalar (array u n) t s h = h
converts_scalar (function r) t s h = h

converts_struct : (a : CType) (k : ℕ) → convertible a (structure k) ≡ true → a ≡ structure k
converts_struct (structure j) k h = ap structure (eqb-true j k h)
converts_struct void k h = false_true h
converts_struct (integer j) k h = false_true h
converts_struct (floating j) k h = false_true h
converts_struct (pointer u) k h = false_true h
converts_struct (array u n) k h = false_true h
converts_struct (function r) k h = false_true h

converts_array : (a t : CType) (n : Option ℕ) → convertible a (array t n) ≡ true → ⊥
converts_array void t n h = false_true h
converts_array (integer j) t n h = false_true h
converts_array (floating j) t n h = false_true h
converts_array (pointer u) t n h = false_true h
converts_array (array u m) t n h = false_true h
converts_array (structure k) t n h = false_true h
converts_array (function r) t n h = false_true h

converts_function : (a : CType) (s : Signature) → convertible a (function s) ≡ true → ⊥
converts_function void s h = false_true h
converts_function (integer j) s h = false_true h
converts_function (floating j) s h = false_true h
converts_function (pointer u) s h = false_true h
converts_function (array u m) s h = false_true h
converts_function (structure k) s h = false_true h
converts_function (function r) s h = false_true h

pointer_placeless : (t : CType) → is_pointer t ≡ true → is_struct t ≡ true → ⊥
pointer_placeless (pointer t) h p = false_true p
pointer_placeless void h p = false_true h
pointer_placeless (integer k) h p = false_true h
pointer_placeless (floating k) h p = false_true h
pointer_placeless (array t n) h p = false_true h
pointer_placeless (structure k) h p = false_true h
pointer_placeless (function s) h p = false_true h

integer_placeless : (t : CType) → is_integer t ≡ true → is_struct t ≡ true → ⊥
integer_placeless (integer k) h p = false_true p
integer_placeless void h p = false_true h
integer_placeless (floating k) h p = false_true h
integer_placeless (pointer t) h p = false_true h
integer_placeless (array t n) h p = false_true h
integer_placeless (structure k) h p = false_true h
integer_placeless (function s) h p = false_true h

index_stored : (c : Context) (a b : CType) → IsIndex c.structs a b → IsStored c.structs a × (is_void b ≡ false)
index_stored c (pointer u) (integer k) h = (tt, refl)
index_stored c (integer k) (pointer u) h = (tt, refl)
index_stored c a b h = absurd h

pub struct_only : (c : Context) (a : CType) (name : ℕ) (t : CType) → HasMember c.structs a name t → is_struct a ≡ true
struct_only c (structure k) name t h = refl
struct_only c void name t h = absurd h
struct_only c (integer k) name t h = absurd h
struct_only c (floating k) name t h = absurd h
struct_only c (pointer u) name t h = absurd h
struct_only c (array u n) name t h = absurd h
struct_only c (function s) name t h = absurd h

pointer_only : (c : Context) (a : CType) (name : ℕ) (t : CType) → PointsToMember c.structs a name t → is_pointer a ≡ true
pointer_only c (pointer u) name t h = refl
pointer_only c void name t h = absurd h
pointer_only c (integer k) name t h = absurd h
pointer_only c (floating k) name t h = absurd h
pointer_only c (array u n) name t h = absurd h
pointer_only c (structure k) name t h = absurd h
pointer_only c (function s) name t h = absurd h

module _ (c : Context) (os : List Object) (rs : List Region) where
  -- ---- one operand

  module _ (a : Typed) (ma : Meaning) (ga : IsGood c os rs a ma) where
    scalar_conversion : (f : TypedForm) (t : CType) (p m : Place) → is_scalar t ≡ true → is_void t ≡ false → is_struct t ≡ false → convertible (of a) t ≡ true → IsFormed c.structs t
        → form_has_place t f ≡ is_struct t → IsGood c os rs (typed f t p m) (conversion c (typed f t p m) (operand_of ma a))
    scalar_conversion f t p m k v u h g q =
        let e : Typed = typed f t p m in
        let s : is_scalar (of a) ≡ true = converts_scalar (of a) t k h in
        let value : ((to : Option CType) → IsMaybeFormed c to → (s : Draft) → Gives c os rs (IsValue c os t) s (left (convert t (ma.value (Some t) s).pure) (ma.value (Some t) s).after)) =
        λ (to : Option CType) (w : IsMaybeFormed c to) (d : Draft). gives_made (convert t (ma.value (Some t) d).pure) (ga.value (scalar_there (of a) s) (Some t) g d)
        (λ x. ((x.0, scalar_value c (of a) (ma.value (Some t) d).pure s x.1, k, g), scalar_yields t (ma.value (Some t) d).pure k)) in
        let base : IsGood c os rs e (plain c e (λ to s. conversion_value c false false e (operand_of ma a) s) (conversion_place false e (operand_of ma a))) =
        plain_good c os rs e (λ to s. conversion_value c false false e (operand_of ma a) s) (conversion_place false e (operand_of ma a)) v value (λ w. false_true (sym u ∙ sym q ∙ w)) in
        subst (λ b. IsGood c os rs e (record (plain c e (λ to s. conversion_value c b (is_struct t) e (operand_of ma a) s) (conversion_place (is_struct t) e (operand_of ma a))) { unused = conversion_unused c b (is_struct t) e (operand_of ma a) })) (sym v)
        (subst (λ b. IsGood c os rs e (record (plain c e (λ to s. conversion_value c false b e (operand_of ma a) s) (conversion_place b e (operand_of ma a))) { unused = conversion_unused c false b e (operand_of ma a) })) (sym u)
        (record { value = base.value; place = base.place; unused = base.unused; branch = base.branch }))
      where
        scalar_yields : (t : CType) (x : Expression) → is_scalar t ≡ true → Yields c t (convert t x)
        scalar_yields (integer j) x k = refl
        scalar_yields (pointer w) x k = refl
        scalar_yields void x k = tt
        scalar_yields (floating j) x k = false_true k
        scalar_yields (array w n) x k = false_true k
        scalar_yields (structure j) x k = false_true k
        scalar_yields (function r) x k = false_true k

    pub conversion_good : (f : TypedForm) (t : CType) (p m : Place) → Converts (of a) t → IsFormed c.structs t → is_floating t ≡ false
        → (is_struct (of a) ≡ true → has_place a ≡ true) → form_has_place t f ≡ is_struct t → IsGood c os rs (typed f t p m) (conversion c (typed f t p m) (operand_of ma a))
    conversion_good f void p m h g r placed q = record {
      value = λ v. false_true (sym v);
      place = λ k. false_true (sym q ∙ k);
      unused = ga.unused;
      branch = λ k. false_true k;
    }
    conversion_good f (structure k) p m h g r placed q =
        let e : Typed = typed f (structure k) p m in
        let is : of a ≡ structure k = converts_struct (of a) k h in
        let place : ((s : Draft) → Gives c os rs (Designates c os (structure k)) s (ma.place s)) =
        λ (s : Draft). subst (λ t. Gives c os rs (Designates c os t) s (ma.place s)) is (ga.place (placed (ap is_struct is)) s) in
        let value : ((to : Option CType) → IsMaybeFormed c to → (s : Draft) → Gives c os rs (IsValue c os (structure k)) s (left (loaded c (structure k) (ma.place s).pure) (ma.place s).after)) =
        λ (to : Option CType) (w : IsMaybeFormed c to) (s : Draft). gives_made (loaded c (structure k) (ma.place s).pure) (place s) (λ d. loaded_good c os (ma.place s).pure (structure k) d g refl refl) in
        let base : IsGood c os rs e (plain c e (λ to s. conversion_value c false true e (operand_of ma a) s) (conversion_place true e (operand_of ma a))) =
        plain_good c os rs e (λ to s. conversion_value c false true e (operand_of ma a) s) (conversion_place true e (operand_of ma a)) refl value (λ w s. place s) in
        record { value = base.value; place = base.place; unused = base.unused; branch = base.branch }
    conversion_good f (integer k) p m h g r placed q = scalar_conversion f (integer k) p m refl refl refl h g q
    conversion_good f (pointer u) p m h g r placed q = scalar_conversion f (pointer u) p m refl refl refl h g q
    conversion_good f (floating k) p m h g r placed q = false_true (sym r)
    conversion_good f (array u n) p m h g r placed q = absurd (converts_array (of a) u n h)
    conversion_good f (function s) p m h g r placed q = absurd (converts_function (of a) s h)

    pub decay_good : (e : Typed) → has_place a ≡ true → (is_array (of a) || is_function (of a)) ≡ true → is_pointer (of e) ≡ true → IsFormed c.structs (of a) → is_floating (of a) ≡ false
        → has_place e ≡ is_struct (of e) → IsGood c os rs e (valued c e (decay_value c (operand_of ma a)))
    decay_good e p k i f r q =
        valued_good c os rs e (decay_value c (operand_of ma a)) (scalar_there (of e) (pointer_scalar (of e) i)) (λ w. pointer_placeless (of e) i (sym q ∙ w))
        (λ s. gives_made (loaded c (of a) (ma.place s).pure) (ga.place p s) (λ d. let v : IsValue c os (of a) (loaded c (of a) (ma.place s).pure) = loaded_good c os (ma.place s).pure (of a) d f (there (of a) k) r in
        (v.0, yields_pointer c (of e) (loaded c (of a) (ma.place s).pure) i (points (of a) (loaded c (of a) (ma.place s).pure) k v.1))))
      where
        there : (t : CType) → (is_array t || is_function t) ≡ true → is_void t ≡ false
        there (array t n) k = refl
        there (function s) k = refl
        there void k = false_true k
        there (integer j) k = refl
        there (floating j) k = refl
        there (pointer t) k = refl
        there (structure j) k = refl

        points : (t : CType) (v : Expression) → (is_array t || is_function t) ≡ true → Yields c t v → is_pointer (expression_type v) ≡ true
        points (array t n) v k y = y
        points (function s) v k y = y
        points void v k y = false_true k
        points (integer j) v k y = false_true k
        points (floating j) v k y = false_true k
        points (pointer t) v k y = false_true k
        points (structure j) v k y = false_true k

    pub member_of_good : (e : Typed) (name : ℕ) → HasMember c.structs (of a) name (of e) → has_place a ≡ true → IsFormed c.structs (of e) → is_floating (of e) ≡ false
        → IsGood c os rs e (lvalue c e (member_place c (operand_of ma a) name))
    member_of_good e name h p f r =
        lvalue_good c os rs e (member_place c (operand_of ma a) name) f r
        (λ s. gives_made (field (ma.place s).pure _ _) (ga.place p s) (λ d. member_good c os (of a) (ma.place s).pure name (of e) h d))

    pub arrow_of_good : (e : Typed) (name : ℕ) → PointsToMember c.structs (of a) name (of e) → IsFormed c.structs (of a) → IsFormed c.structs (of e) → is_floating (of e) ≡ false
        → IsGood c os rs e (lvalue c e (arrow_place c e (operand_of ma a) name))
    arrow_of_good e name h fa f r =
        let i : is_pointer (of a) ≡ true = pointer_only c (of a) name (of e) h in
        lvalue_good c os rs e (arrow_place c e (operand_of ma a) name) f r
        (λ s. gives_made (field (through (ma.value None s).pure _ _) _ _) (ga.value (scalar_there (of a) (pointer_scalar (of a) i)) None tt s)
        (λ v. arrow_good c os (of a) (ma.value None s).pure (place_of e) name (of e) h fa (v.0, pointer_value c (of a) (ma.value None s).pure i v.1)))

    -- ---- operators before their operand

    -- a value that is no lvalue, by a prefix that is no step
    abbrev OfPrefix : Prefix → Punct → Typed → Meaning
    OfPrefix k op e = record {
      value = λ to s. prefix_value c k op e (operand_of ma a) s;
      place = prefix_place k e (operand_of ma a);
      unused = prefix_unused c k op e (operand_of ma a);
      branch = prefix_branch c k op e (operand_of ma a);
    }

    address_good : (op : Punct) (e : Typed) → has_place a ≡ true → is_pointer (of e) ≡ true → IsFormed c.structs (of e) → has_place e ≡ is_struct (of e) → IsGood c os rs e (OfPrefix prefixes.Address op e)
    address_good op e p i f q =
        let value : ((s : Draft) → Gives c os rs (IsValue c os (of e)) s (left (addressed c (of e) (ma.place s).pure) (ma.place s).after)) =
        λ (s : Draft). gives_made (addressed c (of e) (ma.place s).pure) (ga.place p s) (λ d. let w : IsPointer c os (addressed c (of e) (ma.place s).pure) = addressed_good c os (ma.place s).pure (of e) d.0 i f in
        (w.0, yields_pointer c (of e) (addressed c (of e) (ma.place s).pure) i w.1)) in
        let base : IsGood c os rs e (plain c e (λ to s. left (addressed c (of e) (ma.place s).pure) (ma.place s).after) (nowhere e)) =
        plain_good c os rs e (λ to s. left (addressed c (of e) (ma.place s).pure) (ma.place s).after) (nowhere e) (scalar_there (of e) (pointer_scalar (of e) i)) (λ to h s. value s)
        (λ w. absurd (pointer_placeless (of e) i (sym q ∙ w))) in
        record { value = base.value; place = base.place; unused = ga.unused; branch = base.branch }

    pointee_good : (op : Punct) (e : Typed) → is_pointer (of a) ≡ true → IsFormed c.structs (of e) → is_floating (of e) ≡ false → IsGood c os rs e (OfPrefix prefixes.Pointee op e)
    pointee_good op e i f r =
        let base : IsGood c os rs e (lvalue c e (prefix_place prefixes.Pointee e (operand_of ma a))) =
        lvalue_good c os rs e (prefix_place prefixes.Pointee e (operand_of ma a)) f r
        (λ s. gives_made (followed e (ma.value None s).pure) (ga.value (scalar_there (of a) (pointer_scalar (of a) i)) None tt s)
        (λ v. ((v.0, pointer_value c (of a) (ma.value None s).pure i v.1, r, f), agrees_self (of e) r))) in
        record { value = base.value; place = base.place; unused = base.unused; branch = base.branch }

    negation_good : (op : Punct) (e : Typed) → is_scalar (of a) ≡ true → is_integer (of e) ≡ true → has_place e ≡ is_struct (of e) → IsGood c os rs e (OfPrefix prefixes.Negation op e)
    negation_good op e k i q =
        let value : ((s : Draft) → Gives c os rs (IsValue c os (of e)) s (left (negated (ma.value None s).pure) (ma.value None s).after)) =
        λ (s : Draft). gives_made (negated (ma.value None s).pure) (ga.value (scalar_there (of a) k) None tt s) (λ v. negated_good c os (of e) (of a) (ma.value None s).pure k i v) in
        let base : IsGood c os rs e (plain c e (λ to s. left (negated (ma.value None s).pure) (ma.value None s).after) (nowhere e)) =
        plain_good c os rs e (λ to s. left (negated (ma.value None s).pure) (ma.value None s).after) (nowhere e) (scalar_there (of e) (integer_scalar (of e) i)) (λ to h s. value s)
        (λ w. absurd (integer_placeless (of e) i (sym q ∙ w))) in
        record { value = base.value; place = base.place; unused = base.unused; branch = λ w s. swapped_good c os rs s (ma.branch s) (ga.branch k s) }

    sign_good : (op : Punct) (e : Typed) → is_sign op ≡ true → is_integer (of a) ≡ true → is_integer (of e) ≡ true → has_place e ≡ is_struct (of e) → IsGood c os rs e (OfPrefix prefixes.Sign op e)
    sign_good op e is k i q =
        let value : ((s : Draft) → Gives c os rs (IsValue c os (of e)) s (left (unary op (kind_of (of e)) (ma.value None s).pure) (ma.value None s).after)) =
        λ (s : Draft). gives_made (unary op (kind_of (of e)) (ma.value None s).pure) (ga.value (scalar_there (of a) (integer_scalar (of a) k)) None tt s)
        (λ v. ((v.0, integer_value c (of a) (ma.value None s).pure k v.1, is), yields_integer c (of e) (unary op (kind_of (of e)) (ma.value None s).pure) i refl)) in
        let base : IsGood c os rs e (plain c e (λ to s. left (unary op (kind_of (of e)) (ma.value None s).pure) (ma.value None s).after) (nowhere e)) =
        plain_good c os rs e (λ to s. left (unary op (kind_of (of e)) (ma.value None s).pure) (ma.value None s).after) (nowhere e) (scalar_there (of e) (integer_scalar (of e) i)) (λ to h s. value s)
        (λ w. absurd (integer_placeless (of e) i (sym q ∙ w))) in
        record { value = base.value; place = base.place; unused = base.unused; branch = base.branch }

    step_good : (op : Punct) (e : Typed) → IsStep c.structs a (of e) → IsFormed c.structs (of e) → has_place e ≡ is_struct (of e) → IsGood c os rs e (OfPrefix prefixes.Step op e)
    step_good op e h f q =
        let k : is_scalar (of e) ≡ true = stepped_scalar c.structs (of e) h.2 in
        let value : ((s : Draft) → Gives c os rs (IsValue c os (of e)) s (prefix_value c prefixes.Step op e (operand_of ma a) s)) = λ (s : Draft). step_value_good c os rs e a ma ga h.0 f h.1 h.2 op s in
        let base : IsGood c os rs e (plain c e (λ to s. prefix_value c prefixes.Step op e (operand_of ma a) s) (nowhere e)) =
        plain_good c os rs e (λ to s. prefix_value c prefixes.Step op e (operand_of ma a) s) (nowhere e) (scalar_there (of e) k) (λ to w s. value s) (λ w. absurd (scalar_placeless (of e) k (sym q ∙ w))) in
        record { value = base.value; place = base.place; unused = λ s. step_unused_good c os rs e a ma ga h.0 f h.1 h.2 op s; branch = base.branch }
      where
        scalar_placeless : (t : CType) → is_scalar t ≡ true → is_struct t ≡ true → ⊥
        scalar_placeless (integer k) h p = false_true p
        scalar_placeless (pointer t) h p = false_true p
        scalar_placeless void h p = false_true h
        scalar_placeless (floating k) h p = false_true h
        scalar_placeless (array t n) h p = false_true h
        scalar_placeless (structure k) h p = false_true h
        scalar_placeless (function s) h p = false_true h

    pub prefixed_good : (op : Punct) (t : CType) (p m : Place) → IsUnary c.structs op a t → IsFormed c.structs t → is_floating t ≡ false
        → IsGood c os rs (typed (tree.unary op a) t p m) (prefixed c op (typed (tree.unary op a) t p m) (operand_of ma a))
    prefixed_good Ampersand t p m h f r = address_good Ampersand (typed (tree.unary Ampersand a) t p m) h.0 h.1 f refl
    prefixed_good Star t p m h f r = pointee_good Star (typed (tree.unary Star a) t p m) h f r
    prefixed_good Exclamation t p m h f r = negation_good Exclamation (typed (tree.unary Exclamation a) t p m) h.0 h.1 refl
    prefixed_good Increment t p m h f r = step_good Increment (typed (tree.unary Increment a) t p m) h f refl
    prefixed_good Decrement t p m h f r = step_good Decrement (typed (tree.unary Decrement a) t p m) h f refl
    prefixed_good Plus t p m h f r = sign_good Plus (typed (tree.unary Plus a) t p m) refl h.0 h.1 refl
    prefixed_good Minus t p m h f r = sign_good Minus (typed (tree.unary Minus a) t p m) refl h.0 h.1 refl
    prefixed_good Tilde t p m h f r = sign_good Tilde (typed (tree.unary Tilde a) t p m) refl h.0 h.1 refl
    prefixed_good op t p m h f r = absurd h

  -- ---- two operands

  module _ (a b : Typed) (ma mb : Meaning) (ga : IsGood c os rs a ma) (gb : IsGood c os rs b mb) where
    pub index_of_good : (e : Typed) → IsIndex c.structs (of a) (of b) → IsFormed c.structs (of a) → IsFormed c.structs (of e) → is_floating (of e) ≡ false
        → IsGood c os rs e (lvalue c e (index_place c e (operand_of ma a) (operand_of mb b)))
    index_of_good e h fa f r =
        let k : IsStored c.structs (of a) × (is_void (of b) ≡ false) = index_stored c (of a) (of b) h in
        lvalue_good c os rs e (index_place c e (operand_of ma a) (operand_of mb b)) f r
        (λ s. gives_made _ (both_good c os rs a b ma mb ga gb fa k.0 k.1 s)
        (λ v. let w : IsPointer c os _ = element_good c os (of a) (of b) (both c (operand_of ma a) (operand_of mb b) s).pure.0 (both c (operand_of ma a) (operand_of mb b) s).pure.1 h v.0 v.1 in
        ((w.0, w.1, r, f), agrees_self (of e) r)))

    abbrev OfBinary : Option Circuit → Punct → Typed → Meaning
    OfBinary k op e = record {
      value = λ to s. binary_value c k op e (operand_of ma a) (operand_of mb b) s;
      place = nowhere e;
      unused = binary_unused c k op e (operand_of ma a) (operand_of mb b);
      branch = binary_branch c k op e (operand_of ma a) (operand_of mb b);
    }

    short_good : (k : Circuit) (op : Punct) (e : Typed) → AreCompared (of a) (of b) (of e) → IsFormed c.structs (of e) → is_floating (of e) ≡ false → has_place e ≡ is_struct (of e)
        → IsGood c os rs e (OfBinary (Some k) op e)
    short_good k op e h f r q =
        let ends : ((s : Draft) → GivesEnds c os rs s (circuit_branch k (operand_of ma a) (operand_of mb b) s)) =
        circuit_good c os rs k (operand_of ma a) (operand_of mb b) (λ s. ga.branch h.0 s) (λ s. gb.branch h.1 s) in record {
          value = λ v to w s. truth_good c os rs e (circuit_branch k (operand_of ma a) (operand_of mb b) s) s f h.2 r (scalar_stored c.structs (of e) (integer_scalar (of e) h.2)) (ends s);
          place = λ w. absurd (integer_placeless (of e) h.2 (sym q ∙ w));
          unused = λ s. met_good c os rs s (circuit_branch k (operand_of ma a) (operand_of mb b) s) (ends s);
          branch = λ w s. ends s;
        }

    between_good : (op : Punct) (e : Typed) → IsBinary c.structs op (of a) (of b) (of e) → circuit_of op ≡ None → IsStored c.structs (of a) → is_void (of b) ≡ false → is_scalar (of e) ≡ true
        → IsFormed c.structs (of a) → has_place e ≡ is_struct (of e) → IsGood c os rs e (OfBinary None op e)
    between_good op e h n st there k fa q =
        let value : ((s : Draft) → Gives c os rs (IsValue c os (of e)) s (binary_value c None op e (operand_of ma a) (operand_of mb b) s)) =
        λ (s : Draft). gives_made _ (both_good c os rs a b ma mb ga gb fa st there s)
        (λ v. operated_good c os op e a b (both c (operand_of ma a) (operand_of mb b) s).pure.0 (both c (operand_of ma a) (operand_of mb b) s).pure.1 h n v.0 v.1) in
        let base : IsGood c os rs e (plain c e (λ to s. binary_value c None op e (operand_of ma a) (operand_of mb b) s) (nowhere e)) =
        plain_good c os rs e (λ to s. binary_value c None op e (operand_of ma a) (operand_of mb b) s) (nowhere e) (scalar_there (of e) k) (λ to w s. value s) (λ w. absurd (scalar_placeless (of e) k (sym q ∙ w))) in
        record { value = base.value; place = base.place; unused = base.unused; branch = base.branch }
      where
        scalar_placeless : (t : CType) → is_scalar t ≡ true → is_struct t ≡ true → ⊥
        scalar_placeless (integer k) h p = false_true p
        scalar_placeless (pointer t) h p = false_true p
        scalar_placeless void h p = false_true h
        scalar_placeless (floating k) h p = false_true h
        scalar_placeless (array t n) h p = false_true h
        scalar_placeless (structure k) h p = false_true h
        scalar_placeless (function s) h p = false_true h

    pub in_turn_good : (t : CType) (p m : Place) → agrees (of b) t ≡ true → IsGood c os rs (typed (tree.comma a b) t p m) (in_turn c (typed (tree.comma a b) t p m) (operand_of ma a) (operand_of mb b))
    in_turn_good t p m same = record {
      value = λ v to h s. valued (one_void sort ∙ v) s;
      place = λ q s. let g : Gives c os rs (Designates c os (of b)) (ma.unused s) (mb.place (ma.unused s)) = gb.place q (ma.unused s) in
          record { grown = onward (ga.unused s) g.grown; pure = λ h. let d : Designates c os (of b) (mb.place (ma.unused s)).pure = g.pure h in (d.0, one_agrees (one_sort (lvalue_type (mb.place (ma.unused s)).pure) (of b) d.1) sort) };
      unused = λ s. onward (ga.unused s) (gb.unused (ma.unused s));
      branch = λ k s. compared_good c os rs (typed (tree.comma a b) t p m) s (mb.value None (ma.unused s)) k (valued (one_void sort ∙ scalar_there t k) s);
    }
      where
        sort : AreOneSort (of b) t
        sort = one_sort (of b) t same

        valued : is_void (of b) ≡ false → (s : Draft) → Gives c os rs (IsValue c os t) s (mb.value None (ma.unused s))
        valued there s =
            let g : Gives c os rs (IsValue c os (of b)) (ma.unused s) (mb.value None (ma.unused s)) = gb.value there None tt (ma.unused s) in
            record { grown = onward (ga.unused s) g.grown; pure = λ h. let x : IsValue c os (of b) (mb.value None (ma.unused s)).pure = g.pure h in (x.0, one_yields c (mb.value None (ma.unused s)).pure (one_sort (of b) t same) x.1) }

    -- what an operator between two values that is no short circuit takes
    taken : (op : Punct) (x y t : CType) → IsBinary c.structs op x y t → circuit_of op ≡ None → IsStored c.structs x × (is_void y ≡ false) × (is_scalar t ≡ true)
    taken op x y t h n = by op x y h n
      where
        sum : (x y : CType) → IsSum c.structs x y t → IsStored c.structs x × (is_void y ≡ false) × (is_scalar t ≡ true)
        sum (integer j) (integer k) h = (tt, refl, integer_scalar t h)
        sum (pointer u) (integer k) h = (tt, refl, pointer_scalar t h.1)
        sum (integer k) (pointer u) h = (tt, refl, pointer_scalar t h.1)
        sum x y h = absurd h

        difference : (x y : CType) → IsDifference c.structs x y t → IsStored c.structs x × (is_void y ≡ false) × (is_scalar t ≡ true)
        difference (integer j) (integer k) h = (tt, refl, integer_scalar t h)
        difference (pointer u) (integer k) h = (tt, refl, pointer_scalar t h.1)
        difference (pointer u) (pointer w) h = (tt, refl, integer_scalar t h.1)
        difference x y h = absurd h

        compared : (x y : CType) → AreCompared x y t → IsStored c.structs x × (is_void y ≡ false) × (is_scalar t ≡ true)
        compared x y h = (scalar_stored c.structs x h.0, scalar_there y h.1, integer_scalar t h.2)

        integers : (op : Punct) (x y : CType) → (is_operator op ≡ true) × AreIntegers x y t → IsStored c.structs x × (is_void y ≡ false) × (is_scalar t ≡ true)
        integers op x y h = (scalar_stored c.structs x (integer_scalar x h.1.0), scalar_there y (integer_scalar y h.1.1), integer_scalar t h.1.2)

        by : (op : Punct) (x y : CType) → IsBinary c.structs op x y t → circuit_of op ≡ None → IsStored c.structs x × (is_void y ≡ false) × (is_scalar t ≡ true)
        by Plus x y h n = sum x y h
        by Minus x y h n = difference x y h
        by Less x y h n = compared x y h
        by LessEqual x y h n = compared x y h
        by Greater x y h n = compared x y h
        by GreaterEqual x y h n = compared x y h
        by EqualEqual x y h n = compared x y h
        by NotEqual x y h n = compared x y h
        by AndAnd x y h n = compared x y h
        by OrOr x y h n = compared x y h
        by op x y h n = integers op x y h

    pub binary_good : (op : Punct) (t : CType) (p m : Place) → IsBinary c.structs op (of a) (of b) t → IsFormed c.structs (of a) → IsFormed c.structs t → is_floating t ≡ false
        → IsGood c os rs (typed (tree.binary op a b) t p m) (binary c op (typed (tree.binary op a b) t p m) (operand_of ma a) (operand_of mb b))
    binary_good op t p m h fa g r = by (circuit_of op) refl
      where
        e : Typed
        e = typed (tree.binary op a b) t p m

        compared : (op : Punct) (k : Circuit) → circuit_of op ≡ Some k → IsBinary c.structs op (of a) (of b) t → AreCompared (of a) (of b) t
        compared AndAnd k n h = h
        compared OrOr k n h = h
        compared op k n h = absurd (none-some k n)

        by : (k : Option Circuit) → circuit_of op ≡ k → IsGood c os rs e (binary c op e (operand_of ma a) (operand_of mb b))
        by None n = let w : IsStored c.structs (of a) × (is_void (of b) ≡ false) × (is_scalar t ≡ true) = taken op (of a) (of b) t h n in
            subst (λ k. IsGood c os rs e (OfBinary k op e)) (sym n) (between_good op e h n w.0 w.1 w.2 fa refl)
        by (Some k) n = subst (λ k. IsGood c os rs e (OfBinary k op e)) (sym n) (short_good k op e (compared op k n h) g r refl)
