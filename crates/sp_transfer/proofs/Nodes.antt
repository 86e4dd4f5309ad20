-- The commands of an analysed program's nodes.
use Rattle.std.proofs.Common.{◌≡◌, ◌<◌, ◌≤◌, ℕ, zero, suc, true, List, [], ◌∷◌, Option, Some, None, length, map, get_or, refl, sym, ap, arith}
use Rattle.std.specs.Prelude.{slice_get}
use Rattle.std.proofs.Props.{props}
use Rattle.std.proofs.Math.Logic.{∥∥₁_elim}
use Rattle.sp_ir.specs.Commands.{Command, Node, skip}
use Rattle.sp_points_rules.specs.Puts.{command_in, command_at}
use Rattle.sp_effect_scene.specs.Analysed.{Analysed}
use Rattle.sp_effect_scene.specs.Whole.{IsAnalysed}
use Rattle.sp_effect_scene.proofs.Formed.{command-formed}
use Rattle.sp_effect_alarms.specs.Commands.{is_proper_command}
use Rattle.sp_effect_alarms.proofs.ProperCommands.{command-proper}

there-low : {A : Type 0} (xs : List A) (i : ℕ) (x : A) → slice_get xs i ≡ Some x → i < length xs
there-low [] i x h = cc
there-low (y ∷ ys) zero x h = omega arith
there-low (y ∷ ys) (suc i) x h = omega (arith, there-low ys i x h)

-- what stands at a place of a list that is mapped
pub mapped-at : {A B : Type 0} (f : A → B) (xs : List A) (i : ℕ) (x : A) → i < length xs → x ≡ get_or xs i x → slice_get (map f xs) i ≡ Some (f x)
mapped-at f [] i x low is = absurd (omega arith)
mapped-at f (y ∷ ys) zero x low is = ap (λ z. Some (f z)) (sym is)
mapped-at f (y ∷ ys) (suc i) x low is = mapped-at f ys i x (omega arith) is

-- each is proper
pub formed-proper : (a : Analysed) → IsAnalysed a → (n : ℕ) (c : Command) → command_at a.program n ≡ c → is_proper_command a.program c ≡ true
formed-proper a whole n c is =
    let found = command-formed a.program whole.formed n c is in
    command-proper a.program whole.formed found.0 n c found.1

pub node-proper : (a : Analysed) → ∥ IsAnalysed a ∥₁ → (n : ℕ) (c : Command) → command_at a.program n ≡ c → is_proper_command a.program c ≡ true
node-proper a whole n c is = ∥∥₁_elim whole (hlevel props) (λ w. formed-proper a w n c is)

-- past the last node there is none
pub command-past : (ns : List Node) (n : ℕ) → length ns ≤ n → command_in (slice_get ns n) ≡ skip
command-past ns n past = by (slice_get ns n) refl
  where
    by : (o : Option Node) → slice_get ns n ≡ o → command_in o ≡ skip
    by None is = refl
    by (Some node) is = let low = there-low ns n node is in absurd (omega (arith, low, past))
