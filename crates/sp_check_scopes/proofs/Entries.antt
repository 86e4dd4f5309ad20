-- Names with the plain meanings of what they stand for.
use Rattle.std.proofs.Common.{◌≡◌, ℕ, Bool, true, false, cond, List, [], ◌∷◌, map, refl, ap, Some}
use Rattle.std.specs.Prelude.{nat_eq, option_map}
use Rattle.std.specs.Map.{lookup}
use Rattle.indexmap.specs.IndexMap.{insert_entry}
use Rattle.sp_check_scopes.specs.declared.meaning.Meaning.{Meaning as CodeMeaning}
use Rattle.sp_check_scopes.specs.Meanings.{meaning_of, named_meaning}

-- what a name has is what it has in the code
pub entry-named : (es : List (ℕ × CodeMeaning)) (n : ℕ) → lookup (nat_eq n) (map named_meaning es) ≡ option_map meaning_of (lookup (nat_eq n) es)
entry-named [] n = refl
entry-named (e ∷ es) n = by (nat_eq n e.0) (entry-named es n)
  where
    by : (b : Bool) → lookup (nat_eq n) (map named_meaning es) ≡ option_map meaning_of (lookup (nat_eq n) es) → cond b (Some (meaning_of e.1)) (lookup (nat_eq n) (map named_meaning es)) ≡ option_map meaning_of (cond b (Some e.1) (lookup (nat_eq n) es))
    by true rest = refl
    by false rest = rest

-- and a name that is added in the code is added
pub inserted-named : (es : List (ℕ × CodeMeaning)) (n : ℕ) (m : CodeMeaning) → map named_meaning (insert_entry nat_eq es n m) ≡ insert_entry nat_eq (map named_meaning es) n (meaning_of m)
inserted-named [] n m = refl
inserted-named (e ∷ es) n m = by (nat_eq n e.0) (inserted-named es n m)
  where
    by : (b : Bool) → map named_meaning (insert_entry nat_eq es n m) ≡ insert_entry nat_eq (map named_meaning es) n (meaning_of m) → map named_meaning (cond b ((e.0, m) ∷ es) (e ∷ insert_entry nat_eq es n m)) ≡ cond b ((e.0, meaning_of m) ∷ map named_meaning es) (named_meaning e ∷ insert_entry nat_eq (map named_meaning es) n (meaning_of m))
    by true rest = refl
    by false rest = ap (λ fs. named_meaning e ∷ fs) rest

pub ruleset entries = (entry-named, inserted-named)
