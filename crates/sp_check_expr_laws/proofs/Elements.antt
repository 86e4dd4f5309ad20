-- Arrays that declarators derive have complete elements (C90 6.5.4.2).
use Rattle.std.proofs.Common.{◌≡◌, ℕ, ◌*◌, ◌^◌, nat_le, Bool, true, false, if◌then◌else◌, List, [], ◌∷◌, Option, Some, None, is_some, refl, ap, sym, ◌∙◌, true≢false}
use Rattle.std.specs.Prelude.{⊤}
use Rattle.sp_tree.specs.declared.fault.Place.{Place}
use Rattle.sp_tree.specs.declared.token.Keyword.TheVariants as words
use Rattle.sp_parse_trees.specs.Syntax.{Specifiers}
use Rattle.sp_types.specs.declared.extents.Extent.{Extent}
use Rattle.sp_types.specs.Types.{CType, void, integer, floating, pointer, array, structure, function, signature, Struct}
use Rattle.sp_types.specs.Layout.{extent, layout, repeated}
use Rattle.sp_check_operands.specs.Conversions.{is_complete}
use Rattle.sp_check_type_names.specs.Derivations.{Derivation, to_pointer, to_array, to_function, derive, derived, made, derivations_in, parts_in}
use Rattle.sp_check_type_names.specs.Words.{has_word, words_type}
use Rattle.sp_check_formed_laws.proofs.After.{Gives, gives, gives_then, gives_met, gives_given, anything}
use Rattle.sp_check_formed_laws.proofs.Stays.{Stays, type_stays}
use Rattle.sp_check_expr_laws.specs.Sound.{KnowsElements}

-- ---- where the table of structs grows

-- a type that is complete stays so
pub complete_stays : (ss rs : List Struct) → Stays ss rs → (t : CType) → is_complete ss t ≡ true
    → is_complete rs t ≡ true
complete_stays ss rs stays t h = by (layout ss t) refl
  where
    by : (o : Option Extent) → layout ss t ≡ o → is_complete rs t ≡ true
    by None e = absurd (true≢false (sym h ∙ ap is_some e))
    by (Some x) e = ap is_some (type_stays ss rs stays t x e).layouts ∙ h

pub elements_stay : (ss rs : List Struct) → Stays ss rs → (t : CType) → KnowsElements ss t
    → KnowsElements rs t
elements_stay ss rs stays (array t None) h = complete_stays ss rs stays t h
elements_stay ss rs stays (array t (Some n)) h = complete_stays ss rs stays (array t (Some n)) h
elements_stay ss rs stays void h = tt
elements_stay ss rs stays (integer k) h = tt
elements_stay ss rs stays (floating k) h = tt
elements_stay ss rs stays (pointer t) h = tt
elements_stay ss rs stays (structure k) h = tt
elements_stay ss rs stays (function s) h = tt

-- ---- derivations

-- what is measured is complete
pub repeated_whole : (n : ℕ) (e : Extent) → nat_le (e.size * n) (2 ^ 40) ≡ true
    → is_some (repeated n (Some e)) ≡ true
repeated_whole n e h =
    ap (λ b. is_some (if b then Some (extent (e.size * n) e.align) else None)) h

derive_elements : (ss : List Struct) (d : Derivation) (t : CType)
    → Gives (KnowsElements ss) (derive ss d t)
derive_elements ss to_pointer t = gives {x = pointer t} tt
derive_elements ss (to_array None p) t =
    gives_given {o = layout ss t} _ _ (λ e g. gives {x = array t None} (ap is_some g))
derive_elements ss (to_array (Some n) p) t =
    gives_given {o = layout ss t} _ _ (λ e g.
    gives_met {b = nat_le (e.size * n) (2 ^ 40)} _ _ (λ fits.
    gives {x = array t (Some n)}
    (ap (λ o. is_some (repeated n o)) g ∙ repeated_whole n e fits)))
derive_elements ss (to_function ps dots p) t =
    gives_met _ _ (λ fits. gives {x = function (signature t ps dots)} tt)

derived_elements : (ss : List Struct) (ds : List Derivation) (t : CType) → KnowsElements ss t
    → Gives (KnowsElements ss) (derived ss ds t)
derived_elements ss [] t h = gives {x = t} h
derived_elements ss (d ∷ ds) t h =
    gives_then {Q = λ u. ⊤} {c = derived ss ds t} anything (λ u g. derive_elements ss d u)

pub made_elements : (ss : List Struct) (p : Place) (ds : List Derivation) (t : CType)
    → KnowsElements ss t → Gives (KnowsElements ss) (made ss p ds t)
made_elements ss p ds t h =
    gives_then (derived_elements ss ds t h)
    (λ u g. gives_met {b = nat_le (derivations_in u) 200} _ _ (λ shallow.
    gives_met {b = nat_le (parts_in u) 1000} _ _ (λ few. gives g)))

-- ---- words

either_elements : (ss : List Struct) (b : Bool) (t u : CType) → KnowsElements ss t
    → KnowsElements ss u → KnowsElements ss (if b then t else u)
either_elements ss true t u h g = h
either_elements ss false t u h g = g

pub words_elements : (ss : List Struct) (ws : Specifiers) → KnowsElements ss (words_type ws)
words_elements ss ws =
    either_elements ss (has_word words.Void ws) _ _ tt
    (either_elements ss (has_word words.Float ws) _ _ tt
    (either_elements ss (has_word words.Double ws) _ _ tt
    (either_elements ss (has_word words.Char ws) _ _ tt tt)))
