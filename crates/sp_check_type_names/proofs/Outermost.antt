-- What stands last in a list of derivations is derived first.
use Rattle.std.proofs.Common.{◌≡◌, List, [], ◌∷◌, ◌++◌, map, refl, ap, sym, ◌∙◌}
use Rattle.sp_tree.specs.declared.fault.FaultKind.{FaultKind}
use Rattle.sp_tree.specs.declared.fault.Place.{Place}
use Rattle.sp_types.specs.Types.{CType, Struct}
use Rattle.std.specs.Prelude.{Err}
use Rattle.std.proofs.lemmas.List.{map-append}
use Rattle.sp_base_checked.specs.Answers.{Checked, accepted, refused, and_then, Answers}
use Rattle.sp_base_checked.specs.declared.error.CheckError.{CheckError}
use Rattle.sp_base_checked.specs.declared.error.CheckError.TheVariants.{Fault as Faulty, NoMemory}
use Rattle.sp_check_type_names.specs.declared.derivations.Derivation.{Derivation as CodeDerivation}
use Rattle.sp_check_type_names.specs.DerivationView.{derivation_of}
use Rattle.sp_check_type_names.specs.Derivations.{Derivation, derive, derived}

after_refusal : (c : Checked CType) (f : CType → Checked CType) (g : CType → Checked CType) → and_then (and_then c f) g ≡ and_then c (λ t. and_then (f t) g)
after_refusal (accepted t) f g = refl
after_refusal (refused k p) f g = refl

alone : (c : Checked CType) → and_then c (λ t. accepted t) ≡ c
alone (accepted t) = refl
alone (refused k p) = refl

pub derived-last : (ss : List Struct) (ds : List Derivation) (d : Derivation) (t : CType) → derived ss (ds ++ d ∷ []) t ≡ and_then (derive ss d t) (λ u. derived ss ds u)
derived-last ss [] d t = sym (alone (derive ss d t))
derived-last ss (e ∷ ds) d t = ap (λ c. and_then c (λ u. derive ss e u)) (derived-last ss ds d t) ∙ after_refusal (derive ss d t) (λ u. derived ss ds u) (λ u. derive ss e u)

-- a derivation that is taken from the end and made leaves the rest to make
pub taken : (ss : List Struct) (all ds : List CodeDerivation) (d : CodeDerivation) (t u : CType) (whole : Checked CType) → all ≡ ds ++ d ∷ [] → derived ss (map derivation_of all) t ≡ whole → derive ss (derivation_of d) t ≡ accepted u → derived ss (map derivation_of ds) u ≡ whole
taken ss all ds d t u whole items i e =
    let parts : map derivation_of all ≡ map derivation_of ds ++ derivation_of d ∷ [] = ap (map derivation_of) items ∙ map-append derivation_of ds (d ∷ []) in
    let first = derived-last ss (map derivation_of ds) (derivation_of d) t in
    let made : and_then (derive ss (derivation_of d) t) (λ v. derived ss (map derivation_of ds) v) ≡ derived ss (map derivation_of ds) u = ap (λ c. and_then c (λ v. derived ss (map derivation_of ds) v)) e in
    sym made ∙ sym first ∙ sym (ap (λ xs. derived ss xs t) parts) ∙ i

-- and one that is refused refuses the whole
pub refused_whole : (ss : List Struct) (all ds : List CodeDerivation) (d : CodeDerivation) (t : CType) (whole : Checked CType) → all ≡ ds ++ d ∷ [] → derived ss (map derivation_of all) t ≡ whole → (k : FaultKind) (p : Place) → derive ss (derivation_of d) t ≡ refused k p → whole ≡ refused k p
refused_whole ss all ds d t whole items i k p e =
    let parts : map derivation_of all ≡ map derivation_of ds ++ derivation_of d ∷ [] = ap (map derivation_of) items ∙ map-append derivation_of ds (d ∷ []) in
    let first = derived-last ss (map derivation_of ds) (derivation_of d) t in
    sym i ∙ ap (λ xs. derived ss xs t) parts ∙ first ∙ ap (λ c. and_then c (λ v. derived ss (map derivation_of ds) v)) e

pub failed : {A C : Type 0} (seen : A → CType) (part : C → CType) (whole c : Checked CType) (err : CheckError) → ((k : FaultKind) (p : Place) → c ≡ refused k p → whole ≡ refused k p) → Answers part c (Err err) → Answers seen whole (Err err)
failed seen part whole c (Faulty f) g h = g f.kind f.place h
failed seen part whole c NoMemory g h = h
