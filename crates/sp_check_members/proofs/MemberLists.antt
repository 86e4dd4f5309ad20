-- Names that members have, where one more comes behind the others.
use Rattle.std.proofs.Common.{◌≡◌, ℕ, ◌≤◌, List, [], ◌∷◌, ◌++◌, length, drop, refl, sym, ap, ◌∙◌}
use Rattle.std.proofs.lemmas.List.{drop-append-le}
use Rattle.std.specs.Prelude.{Bool, true, false, ◌||◌, ◌==◌, if◌then◌else◌}
use Rattle.sp_types.specs.declared.ctype.CType.{CType}
use Rattle.sp_check_operands.specs.Balances.{members_seen}
use Rattle.sp_check_members.specs.Members.{has_member}

or_joined : (a b c : Bool) → a || (b || c) ≡ (a || b) || c
or_joined true b c = refl
or_joined false b c = refl

or_false : (a : Bool) → a || false ≡ a
or_false true = refl
or_false false = refl

-- the last member has the name, or one before it
has_member_last : (ms : List (ℕ × CType)) (m : ℕ × CType) (n : ℕ) → has_member (members_seen (ms ++ m ∷ [])) n ≡ has_member (members_seen ms) n || (m.0 == n)
has_member_last [] m n = or_false (m.0 == n)
has_member_last (x ∷ ms) m n = ap (λ b. (x.0 == n) || b) (has_member_last ms m n) ∙ or_joined (x.0 == n) (has_member (members_seen ms) n) (m.0 == n)

at_end : (a b : Bool) → (if a then true else b) ≡ b || a
at_end true true = refl
at_end true false = refl
at_end false true = refl
at_end false false = refl

-- a set of the names behind the first `k`, with the last one added
pub later_names : (k : ℕ) (ms : List (ℕ × CType)) (m : ℕ × CType) (n : ℕ) (before after : Bool) → k ≤ length ms → before ≡ has_member (members_seen (drop k ms)) n → after ≡ (if m.0 == n then true else before) → after ≡ has_member (members_seen (drop k (ms ++ m ∷ []))) n
later_names k ms m n before after h known added =
    added ∙ at_end (m.0 == n) before ∙ ap (λ b. b || (m.0 == n)) known
    ∙ sym (ap (λ l. has_member (members_seen l) n) (drop-append-le k ms (m ∷ []) h) ∙ has_member_last (drop k ms) m n)
