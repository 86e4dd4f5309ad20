-- Functions, lowered from the front.
use Rattle.std.proofs.Common.{◌≡◌, ℕ, zero, suc, ◌+◌, ◌≤◌, ◌<◌, List, [], ◌∷◌, ◌++◌, length, map, get_or, drop, slice_get, Some, refl, ap, sym, ◌∙◌, add-one, drop-cons, append_assoc, append-nil}
use Rattle.std.proofs.lemmas.List.{map-append, drop_all}
use Rattle.std.proofs.Math.Seq.{drop-nil}
use Rattle.sp_types.specs.Programs.{Function}
use Rattle.sp_lower_draft.specs.Context.{Context}
use Rattle.sp_lower_draft.specs.Draft.{Draft, Left, left}
use Rattle.sp_lower_body.specs.Frames.{Frame, Initial}
use Rattle.sp_lower_functions.specs.Functions.{Part, part_of_function, lower_function, result_count, frame_for, first_count, counts_behind, with_function, functions_at, lower_functions}
use Rattle.sp_lower_functions.specs.View.{part_of}
use Rattle.sp_lower_functions.specs.declared.functions.Part.{Part as CodePart}

-- these parts before the others
abbrev pub with_parts : List Part → Left (List Part) → Left (List Part)
with_parts ps rest = left (ps ++ rest.pure) rest.after

counts-next : (ns : List ℕ) (k : ℕ) → counts_behind (drop k ns) ≡ drop (suc k) ns
counts-next [] k = rw (drop-nil, drop-nil) refl
counts-next (n ∷ ns) zero = refl
counts-next (n ∷ ns) (suc k) = counts-next ns k

-- the next function
pub functions-rest : (fs : List Function) (ns : List ℕ) (k d n : ℕ) (g : Function) → k < length ns → n ≡ get_or ns k d → slice_get fs n ≡ Some g
    → functions_at fs (drop k ns) ≡ g ∷ functions_at fs (drop (k + 1) ns)
functions-rest fs ns k d n g h at there =
    rw add-one (ap (functions_at fs) (drop-cons ns k d h)
    ∙ ap (λ m. with_function (slice_get fs m) (functions_at fs (drop (suc k) ns))) (sym at)
    ∙ ap (λ o. with_function o (functions_at fs (drop (suc k) ns))) there)

-- one more function
pub function-turn : (c : Context) (is : List Initial) (r : Left (List Part)) (k first next count : ℕ) (g : Function) (rest gs : List Function) (counts : List ℕ) (f : Frame) (parts all : List CodePart) (p : CodePart) (s s1 : Draft)
    → rest ≡ g ∷ gs → count ≡ first_count (drop k counts) → f ≡ frame_for c is k first count g
    → s1 ≡ lower_function f g s → part_of p ≡ part_of_function f g s → all ≡ parts ++ p ∷ [] → next ≡ first + count + result_count g
    → with_parts (map part_of parts) (lower_functions c is k first rest (drop k counts) s) ≡ r
    → with_parts (map part_of all) (lower_functions c is (k + 1) next gs (drop (k + 1) counts) s1) ≡ r
function-turn c is r k first next count g rest gs counts f parts all p s s1 here many frame made part pushed behind so_far =
    let n : ℕ = first_count (drop k counts) in
    let at : Frame = frame_for c is k first n g in
    let same : f ≡ at = frame ∙ ap (λ m. frame_for c is k first m g) many in
    let ps : List Part = map part_of parts in
    let others : ℕ → List ℕ → Draft → Left (List Part) = λ m ns t. lower_functions c is (k + 1) m gs ns t in
    let whole : Part → Left (List Part) → Left (List Part) = λ x others. left (ps ++ (x ∷ others.pure)) others.after in
    ap (λ xs. with_parts xs (others next (drop (k + 1) counts) s1)) (ap (map part_of) pushed ∙ map-append part_of parts (p ∷ []))
    ∙ ap (λ xs. left xs (others next (drop (k + 1) counts) s1).after) (append_assoc ps (part_of p ∷ []) (others next (drop (k + 1) counts) s1).pure)
    ∙ ap (λ x. whole x (others next (drop (k + 1) counts) s1)) (part ∙ ap (λ x. part_of_function x g s) same)
    ∙ ap (λ t. whole (part_of_function at g s) (others next (drop (k + 1) counts) t)) (made ∙ ap (λ x. lower_function x g s) same)
    ∙ ap (λ m. whole (part_of_function at g s) (others m (drop (k + 1) counts) (lower_function at g s))) (behind ∙ ap (λ m. first + m + result_count g) many)
    ∙ ap (λ ns. whole (part_of_function at g s) (others (first + n + result_count g) ns (lower_function at g s))) (rw add-one (sym (counts-next counts k)))
    ∙ ap (λ gs. with_parts ps (lower_functions c is k first gs (drop k counts) s)) (sym here)
    ∙ so_far

-- none is left
pub functions-end : (c : Context) (is : List Initial) (r : Left (List Part)) (k first : ℕ) (fs : List Function) (defs counts : List ℕ) (parts : List CodePart) (s : Draft)
    → length defs ≤ k → with_parts (map part_of parts) (lower_functions c is k first (functions_at fs (drop k defs)) counts s) ≡ r
    → left (map part_of parts) s ≡ r
functions-end c is r k first fs defs counts parts s h so_far =
    ap (λ xs. left xs s) (sym (append-nil (map part_of parts)))
    ∙ ap (λ ns. with_parts (map part_of parts) (lower_functions c is k first (functions_at fs ns) counts s)) (sym (drop_all k defs h))
    ∙ so_far
