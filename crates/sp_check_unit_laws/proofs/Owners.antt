-- No two functions that a unit defines list one object (C90 6.1.2.1): the objects that a definition
-- lists come with it.
use Rattle.std.proofs.Common.{◌≡◌, ◌⊎◌, inl, inr, ℕ, ◌≤◌, ◌<◌, length, List, [], ◌∷◌, ◌++◌, Some, ap, sym, subst, ◌∙◌, arith}
use Rattle.std.specs.Prelude.{slice_get, slice_set}
use Rattle.sp_types.specs.Programs.{Function}
use Rattle.sp_check_typing.specs.Programs.{ListsIn, AreOwners}
use Rattle.sp_check_formed_laws.proofs.Lists.{none_some, some_is, Each, each_appended, set_there, set_other, get_below}
use Rattle.sp_check_formed_laws.proofs.Envs.{AreBelow}
use Rattle.sp_check_expr_laws.proofs.Envs.{IsKeptFunction, KeepFunctions}
use Rattle.sp_check_unit_laws.proofs.Distinct.{pushed_either}

pub owners_none : (fs : List Function) → AreOwners fs []
owners_none fs i j n x y = absurd (none_some x.number x.defined)

-- each of these is there
abbrev pub AreThere : List Function → List ℕ → Type 0
AreThere fs ds = (i k : ℕ) → slice_get ds i ≡ Some k → (f : Function) × (slice_get fs k ≡ Some f)

-- what a function lists it listed before
module _ (fs gs : List Function) (ds : List ℕ) (there : AreThere fs ds) (kept : KeepFunctions fs gs) where
  pub listed_before : (i n : ℕ) → ListsIn gs ds i n → ListsIn fs ds i n
  listed_before i n x =
      let f : (f : Function) × (slice_get fs x.number ≡ Some f) = there i x.number x.defined in
      let y : IsKeptFunction gs x.number f.0 = kept x.number f.0 f.1 in
      let same : x.function ≡ y.function = some_is x.function y.function (sym x.there ∙ y.there) in
      record {
        number = x.number;
        function = f.0;
        defined = x.defined;
        there = f.1;
        index = x.index;
        listed = subst (λ ks. slice_get ks x.index ≡ Some n)
            (ap (λ g. g.formals ++ g.locals) same ∙ ap (λ ks. ks ++ y.function.locals) y.formals
            ∙ ap (λ ks. f.0.formals ++ ks) y.locals) x.listed;
      }

  pub owners_on : AreOwners fs ds → AreOwners gs ds
  owners_on h i j n x y = h i j n (listed_before i n x) (listed_before j n y)

-- what is listed is below this number
abbrev pub ListBelow : ℕ → List Function → List ℕ → Type 0
ListBelow from fs ds = (i n : ℕ) → ListsIn fs ds i n → n < from

pub listed_below : (from : ℕ) (fs : List Function) (ds : List ℕ)
    → Each (λ f. AreBelow from f.formals × AreBelow from f.locals) fs → ListBelow from fs ds
listed_below from fs ds h i n x =
    let g = h x.number x.function x.there in
    each_appended (λ k. k < from) x.function.formals x.function.locals g.0 g.1 x.index n x.listed

-- a further function, whose objects come behind those
module _ (fs : List Function) (ds : List ℕ) (k from : ℕ) (was f : Function) (at : slice_get fs k ≡ Some was)
    (apart : (i n : ℕ) → slice_get ds i ≡ Some n → k ≡ n → ⊥) (there : AreThere fs ds)
    (old : ListBelow from fs ds) (new : (i n : ℕ) → slice_get (f.formals ++ f.locals) i ≡ Some n → from ≤ n) where
  -- a function lists what it did, or it is the new one
  abbrev IsEither : ℕ → ℕ → Type 0
  IsEither i n = ListsIn fs ds i n ⊎ ((i ≡ length ds) × (from ≤ n))

  either_of : (i n : ℕ) → ListsIn (slice_set fs k f) (ds ++ k ∷ []) i n → IsEither i n
  either_of i n x = by (pushed_either ds k i x.number x.defined)
    where
      by : (slice_get ds i ≡ Some x.number) ⊎ ((i ≡ length ds) × (k ≡ x.number)) → IsEither i n
      by (inl e) =
          let g : (g : Function) × (slice_get fs x.number ≡ Some g) = there i x.number e in
          let same : g.0 ≡ x.function =
          some_is g.0 x.function (sym (set_other fs k f x.number g.0 (apart i x.number e) g.1) ∙ x.there) in
          inl (record {
            number = x.number;
            function = g.0;
            defined = e;
            there = g.1;
            index = x.index;
            listed = subst (λ h. slice_get (h.formals ++ h.locals) x.index ≡ Some n) (sym same) x.listed;
          })
      by (inr e) =
          let same : f ≡ x.function =
          some_is f x.function (sym (set_there fs k f (get_below fs k was at)) ∙ ap (slice_get (slice_set fs k f)) e.1 ∙ x.there) in
          inr (e.0, new x.index n (subst (λ h. slice_get (h.formals ++ h.locals) x.index ≡ Some n) (sym same) x.listed))

  pub owners_pushed : AreOwners fs ds → AreOwners (slice_set fs k f) (ds ++ k ∷ [])
  owners_pushed h i j n x y = by (either_of i n x) (either_of j n y)
    where
      by : IsEither i n → IsEither j n → i ≡ j
      by (inl a) (inl b) = h i j n a b
      by (inl a) (inr b) = let low : n < from = old i n a in absurd (omega (arith, low, b.1))
      by (inr a) (inl b) = let low : n < from = old j n b in absurd (omega (arith, low, a.1))
      by (inr a) (inr b) = a.0 ∙ sym b.0
