-- The commands of a formed program.
use Rattle.std.proofs.Common.{◌≡◌, ℕ, true, Option, Some, None, refl, subst}
use Rattle.std.specs.Prelude.{slice_get}
use Rattle.std.proofs.lemmas.Bool.{false≢true}
use Rattle.sp_tree.specs.declared.token.Punct.{Punct}
use Rattle.sp_tree.specs.declared.token.Punct.TheVariants.{Less as LessMark, LessEqual as LessEqualMark, Greater as GreaterMark, GreaterEqual as GreaterEqualMark, EqualEqual, NotEqual}
use Rattle.sp_lattice.specs.declared.relations.Relation.{Relation}
use Rattle.sp_lattice.specs.declared.relations.Relation.TheVariants.{Less, LessEqual, Greater, GreaterEqual, Equal, Different}
use Rattle.sp_ir.specs.Commands.{Expression, Command, assume, Node}
use Rattle.sp_ir.specs.Programs.{Lowered}
use Rattle.sp_ir.specs.Formed.{table_of, IsFormed, IsCommand, is_relation}
use Rattle.sp_points_rules.specs.Puts.{command_in, command_at}
use Rattle.sp_eval.specs.Numbers.{relation_of}
use Rattle.sp_eval.proofs.ProperLaws.{expression-proper}
use Rattle.sp_effect_scene.specs.Laws.{IsLawfulCondition}

-- the command of a node is formed, for the node's function
pub command-formed : (p : Lowered) → IsFormed p → (n : ℕ) (c : Command) → command_at p n ≡ c → (f : Option ℕ) × IsCommand (table_of p) p.regions n f c
command-formed p formed n c is = by (slice_get p.nodes n) refl is
  where
    by : (o : Option Node) → slice_get p.nodes n ≡ o → command_in o ≡ c → (f : Option ℕ) × IsCommand (table_of p) p.regions n f c
    by None e g = (None, subst (IsCommand (table_of p) p.regions n None) g tt)
    by (Some node) e g = (node.function, subst (IsCommand (table_of p) p.regions n node.function) g (formed.nodes n node e).formed)

-- a mark of a relation stands for one
relation-is : (op : Punct) → is_relation op ≡ true → (r : Relation) × (relation_of op ≡ Some r)
relation-is LessMark h = (Less, refl)
relation-is LessEqualMark h = (LessEqual, refl)
relation-is GreaterMark h = (Greater, refl)
relation-is GreaterEqualMark h = (GreaterEqual, refl)
relation-is EqualEqual h = (Equal, refl)
relation-is NotEqual h = (Different, refl)
relation-is op h = absurd (false≢true h)

pub condition-lawful : (p : Lowered) → IsFormed p → (n : ℕ) (left : Expression) (op : Punct) (right : Expression) → command_at p n ≡ assume left op right → IsLawfulCondition left op right
condition-lawful p formed n left op right is =
    let found = command-formed p formed n (assume left op right) is in
    let relation = relation-is op found.1.2 in
    record {
      left_proper = expression-proper (table_of p) found.0 left found.1.0.0;
      right_proper = expression-proper (table_of p) found.0 right found.1.1.0;
      relation = relation.0;
      is = relation.1;
    }
