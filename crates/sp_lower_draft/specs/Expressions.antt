-- What an expression does, by how it is used: its nodes and edges, and the pure expression that is
-- left. Operands go from left to right. Where a later operand adds nodes and an earlier value holds
-- a read, the earlier value goes to a temporary first; of an lvalue it is the address.
use Rattle.std.specs.Prelude.{ℕ, ◌==◌, Bool, true, false, ℤ, pos, List, [], ◌∷◌, ◌++◌, Option, Some, None, length, map, if◌then◌else◌}
use Rattle.std.specs.List.{list_any}
use Rattle.sp_tree.specs.declared.token.Punct.{Punct}
use Rattle.sp_types.specs.declared.ctype.IntKind.{IntKind}
use Rattle.sp_types.specs.declared.ctype.IntKind.TheVariants.{Int}
use Rattle.sp_types.specs.Types.{CType}
use Rattle.sp_types.specs.Typed.{Typed, typed, TypedForm, TypedList, no_typed, next_typed, of, place_of, mark_of}
use Rattle.sp_types.specs.Typed as tree
use Rattle.sp_ir.specs.Commands.{Expression, number, read, convert, unary, Lvalue, direct}
use Rattle.sp_lower_draft.specs.declared.operators.Prefix.{Prefix}
use Rattle.sp_lower_draft.specs.declared.operators.Prefix.TheVariants.{Address, Pointee, Negation, Step, Sign}
use Rattle.sp_lower_draft.specs.declared.operators.Circuit.{Circuit}
use Rattle.sp_lower_draft.specs.declared.operators.Circuit.TheVariants.{And, Or}
use Rattle.sp_ir.specs.Formed.{is_struct}
use Rattle.sp_lower_draft.specs.Context.{Context, is_void, kind_of, object_type, function_type, function_object, is_undefined}
use Rattle.sp_lower_draft.specs.Draft.{Draft, Left, left, Branch, with_loose, add, evaluated, fork, stored, temporary, keep, keep_place}
use Rattle.sp_lower_draft.specs.Operators.{prefix_of, circuit_of, is_plain_assign, operator_of}
use Rattle.sp_lower_draft.specs.Steps.{addressed, loaded, indexed, member_taken, arrow_taken, followed, operated, negated, truth, met, assigned, assigned_used, updated, updated_used, one, stepped_used}
use Rattle.sp_lower_draft.specs.Calls.{undefined_called, defined_called, result_place}
use Rattle.sp_lower_draft.specs.Adds.{adds, any_adds}

-- The four uses of an expression. `value` takes the type to which the value is directly converted,
-- if it is: a site of allocation may need it.
pub record Meaning : Type 0 where
  pub value : Option CType → Draft → Left Expression
  pub place : Draft → Left Lvalue
  pub unused : Draft → Draft
  pub branch : Draft → Branch

-- an operand: what it does, and its tree
pub record Operand : Type 0 where
  pub meaning : Meaning
  pub tree : Typed

abbrev pub operand_of : Meaning → Typed → Operand
operand_of m e = record { meaning = m; tree = e }

-- its value, where it isn't converted
abbrev pub value_of : Operand → Draft → Left Expression
value_of a s = a.meaning.value None s

-- ---- all but lvalues

-- No lvalue: a typed program never asks for one.
abbrev pub nowhere : Typed → Draft → Left Lvalue
nowhere e s = left (direct 0 (of e)) s

-- an expression with this value: unused it is evaluated, and as a condition compared
abbrev pub plain : Context → Typed → (Option CType → Draft → Left Expression) → (Draft → Left Lvalue)
    → Meaning
plain c e value place = record {
  value = value;
  place = place;
  unused = λ s. let v : Left Expression = value None s in evaluated c e v.pure v.after;
  branch = λ s. let v : Left Expression = value None s in fork c e v.pure v.after;
}

-- a value that is no lvalue
abbrev pub valued : Context → Typed → (Draft → Left Expression) → Meaning
valued c e value = plain c e (λ to s. value s) (nowhere e)

-- a literal, an enumeration constant or a `sizeof`: unused it has no node
abbrev pub constant : Context → Typed → ℤ → Meaning
constant c e z = record (valued c e (left (number z (kind_of (of e))))) { unused = λ s. s }

-- ---- lvalues

abbrev pub lvalue : Context → Typed → (Draft → Left Lvalue) → Meaning
lvalue c e place =
    plain c e (λ to s. let l : Left Lvalue = place s in left (loaded c (of e) l.pure) l.after) place

-- the first operand's value, then the second's
abbrev pub both : Context → Operand → Operand → Draft → Left (Expression × Expression)
both c a b s =
    let x : Left Expression = value_of a s in
    let kept : Left Expression = keep c (adds b.tree) a.tree x.pure x.after in
    let y : Left Expression = value_of b kept.after in
    left (kept.pure, y.pure) y.after

abbrev pub index_place : Context → Typed → Operand → Operand → Draft → Left Lvalue
index_place c e a b s =
    let v : Left (Expression × Expression) = both c a b s in
    left (indexed c e a.tree b.tree v.pure.0 v.pure.1) v.after

abbrev pub member_place : Context → Operand → ℕ → Draft → Left Lvalue
member_place c a name s =
    let l : Left Lvalue = a.meaning.place s in
    left (member_taken c a.tree name l.pure) l.after

abbrev pub arrow_place : Context → Typed → Operand → ℕ → Draft → Left Lvalue
arrow_place c e a name s =
    let v : Left Expression = value_of a s in
    left (arrow_taken c e a.tree name v.pure) v.after

-- ---- conditions

-- the ends of a condition, the other way round
abbrev pub swapped : Branch → Branch
swapped b = record { after = b.after; yes = b.no; no = b.yes }

-- `a && b`, `a || b`: b from the ends at which a doesn't decide
abbrev pub circuit_branch : Circuit → Operand → Operand → Draft → Branch
circuit_branch And a b s =
    let first : Branch = a.meaning.branch s in
    let second : Branch = b.meaning.branch (with_loose first.yes first.after) in
    record { after = second.after; yes = second.yes; no = first.no ++ second.no }
circuit_branch Or a b s =
    let first : Branch = a.meaning.branch s in
    let second : Branch = b.meaning.branch (with_loose first.no first.after) in
    record { after = second.after; yes = first.yes ++ second.yes; no = second.no }

-- `a ? b : d`: the values of both go to one temporary
abbrev pub chosen_place : Context → Typed → Operand → Operand → Operand → Draft → Left Lvalue
chosen_place c e a b d s =
    let branch : Branch = a.meaning.branch s in
    let first : Left Expression = value_of b (with_loose branch.yes branch.after) in
    let made : Left Lvalue = temporary c (of e) first.after in
    let one : Draft = add c (stored made.pure (of e) first.pure) (place_of e) made.after in
    let second : Left Expression = value_of d (with_loose branch.no one) in
    let other : Draft = add c (stored made.pure (of e) second.pure) (place_of e) second.after in
    left made.pure (with_loose (one.loose ++ other.loose) other)

abbrev pub chosen_unused : Operand → Operand → Operand → Draft → Draft
chosen_unused a b d s =
    let branch : Branch = a.meaning.branch s in
    let one : Draft = b.meaning.unused (with_loose branch.yes branch.after) in
    let other : Draft = d.meaning.unused (with_loose branch.no one) in
    with_loose (one.loose ++ other.loose) other

abbrev pub conditional : Context → Typed → Operand → Operand → Operand → Meaning
conditional c e a b d =
    record (lvalue c e (chosen_place c e a b d)) { unused = chosen_unused a b d }

-- ---- operators between two operands

abbrev pub binary_value : Context → Option Circuit → Punct → Typed → Operand → Operand → Draft
    → Left Expression
binary_value c None p e a b s =
    let v : Left (Expression × Expression) = both c a b s in
    left (operated c p e a.tree b.tree v.pure.0 v.pure.1) v.after
binary_value c (Some circuit) p e a b s = truth c e (circuit_branch circuit a b s)

abbrev pub binary_unused : Context → Option Circuit → Punct → Typed → Operand → Operand → Draft
    → Draft
binary_unused c None p e a b s =
    let v : Left Expression = binary_value c None p e a b s in evaluated c e v.pure v.after
binary_unused c (Some circuit) p e a b s = met (circuit_branch circuit a b s)

abbrev pub binary_branch : Context → Option Circuit → Punct → Typed → Operand → Operand → Draft
    → Branch
binary_branch c None p e a b s =
    let v : Left Expression = binary_value c None p e a b s in fork c e v.pure v.after
binary_branch c (Some circuit) p e a b s = circuit_branch circuit a b s

abbrev pub binary : Context → Punct → Typed → Operand → Operand → Meaning
binary c p e a b = record {
  value = λ to s. binary_value c (circuit_of p) p e a b s;
  place = nowhere e;
  unused = binary_unused c (circuit_of p) p e a b;
  branch = binary_branch c (circuit_of p) p e a b;
}

-- ---- assignments

-- the left side, whose address is kept where the right one adds nodes; then the right one's value
abbrev pub sides : Context → Operand → Operand → Draft → Left (Lvalue × Expression)
sides c l r s =
    let to : Left Lvalue = l.meaning.place s in
    let kept : Left Lvalue = keep_place c (adds r.tree) l.tree to.pure to.after in
    let v : Left Expression = value_of r kept.after in
    left (kept.pure, v.pure) v.after

-- `l = r`; `l op= r` is no lvalue
abbrev pub assign_place : Context → Bool → Typed → Operand → Operand → Draft → Left Lvalue
assign_place c true e l r s =
    let v : Left (Lvalue × Expression) = sides c l r s in
    assigned_used c e v.pure.0 v.pure.1 v.after
assign_place c false e l r s = nowhere e s

abbrev pub assign_value : Context → Bool → Punct → Typed → Operand → Operand → Draft
    → Left Expression
assign_value c true p e l r s =
    let to : Left Lvalue = assign_place c true e l r s in left (loaded c (of e) to.pure) to.after
assign_value c false p e l r s =
    let v : Left (Lvalue × Expression) = sides c l r s in
    updated_used c e (operator_of p) (kind_of (of r.tree)) v.pure.0 v.pure.1 v.after

abbrev pub assign_unused : Context → Bool → Punct → Typed → Operand → Operand → Draft → Draft
assign_unused c true p e l r s =
    let v : Left (Lvalue × Expression) = sides c l r s in
    assigned c e v.pure.0 v.pure.1 v.after
assign_unused c false p e l r s =
    let v : Left (Lvalue × Expression) = sides c l r s in
    updated c e (operator_of p) (kind_of (of r.tree)) v.pure.0 v.pure.1 v.after

abbrev pub assignment : Context → Punct → Typed → Operand → Operand → Meaning
assignment c p e l r =
    record (plain c e (λ to s. assign_value c (is_plain_assign p) p e l r s)
    (assign_place c (is_plain_assign p) e l r)) {
      unused = assign_unused c (is_plain_assign p) p e l r;
    }

-- `++l`, `l++` and their like, unused
abbrev pub step_unused : Context → Punct → Typed → Operand → Draft → Draft
step_unused c p e l s =
    let to : Left Lvalue = l.meaning.place s in
    updated c e (operator_of p) Int to.pure one to.after

-- `++l`, `--l`: the new value is left
abbrev pub step_value : Context → Punct → Typed → Operand → Draft → Left Expression
step_value c p e l s =
    let to : Left Lvalue = l.meaning.place s in
    updated_used c e (operator_of p) Int to.pure one to.after

-- `l++`, `l--`: the old value is left
abbrev pub step_after : Context → Punct → Typed → Operand → Meaning
step_after c p e l =
    record (valued c e (λ s. let to : Left Lvalue = l.meaning.place s in
    stepped_used c e (operator_of p) to.pure to.after)) { unused = step_unused c p e l }

-- ---- operators before their operand

abbrev pub prefix_value : Context → Prefix → Punct → Typed → Operand → Draft → Left Expression
prefix_value c Address p e a s =
    let l : Left Lvalue = a.meaning.place s in left (addressed c (of e) l.pure) l.after
prefix_value c Pointee p e a s =
    let v : Left Expression = value_of a s in
    left (loaded c (of e) (followed e v.pure)) v.after
prefix_value c Negation p e a s =
    let v : Left Expression = value_of a s in left (negated v.pure) v.after
prefix_value c Step p e a s = step_value c p e a s
prefix_value c Sign p e a s =
    let v : Left Expression = value_of a s in left (unary p (kind_of (of e)) v.pure) v.after

abbrev pub prefix_place : Prefix → Typed → Operand → Draft → Left Lvalue
prefix_place Pointee e a s =
    let v : Left Expression = value_of a s in left (followed e v.pure) v.after
prefix_place prefix e a s = nowhere e s

-- `&a` unused is a, unused
abbrev pub prefix_unused : Context → Prefix → Punct → Typed → Operand → Draft → Draft
prefix_unused c Address p e a s = a.meaning.unused s
prefix_unused c Step p e a s = step_unused c p e a s
prefix_unused c prefix p e a s =
    let v : Left Expression = prefix_value c prefix p e a s in evaluated c e v.pure v.after

abbrev pub prefix_branch : Context → Prefix → Punct → Typed → Operand → Draft → Branch
prefix_branch c Negation p e a s = swapped (a.meaning.branch s)
prefix_branch c prefix p e a s =
    let v : Left Expression = prefix_value c prefix p e a s in fork c e v.pure v.after

abbrev pub prefixed : Context → Punct → Typed → Operand → Meaning
prefixed c p e a = record {
  value = λ to s. prefix_value c (prefix_of p) p e a s;
  place = prefix_place (prefix_of p) e a;
  unused = prefix_unused c (prefix_of p) p e a;
  branch = prefix_branch c (prefix_of p) p e a;
}

-- ---- conversions and commas

-- a conversion (C90 6.2, 6.3.4): one to void leaves the expression itself; a struct keeps its place.
-- The tests say whether it is to void, and whether to a struct.
abbrev pub conversion_value : Context → Bool → Bool → Typed → Operand → Draft → Left Expression
conversion_value c true struct e a s = value_of a s
conversion_value c false true e a s =
    let l : Left Lvalue = a.meaning.place s in left (loaded c (of e) l.pure) l.after
conversion_value c false false e a s =
    let v : Left Expression = a.meaning.value (Some (of e)) s in left (convert (of e) v.pure) v.after

abbrev pub conversion_place : Bool → Typed → Operand → Draft → Left Lvalue
conversion_place true e a s = a.meaning.place s
conversion_place false e a s = nowhere e s

-- one to void is the expression itself, unused
abbrev pub conversion_unused : Context → Bool → Bool → Typed → Operand → Draft → Draft
conversion_unused c true struct e a s = a.meaning.unused s
conversion_unused c false struct e a s =
    let v : Left Expression = conversion_value c false struct e a s in
    evaluated c e v.pure v.after

abbrev pub conversion : Context → Typed → Operand → Meaning
conversion c e a =
    record (plain c e (λ to s. conversion_value c (is_void (of e)) (is_struct (of e)) e a s)
    (conversion_place (is_struct (of e)) e a)) {
      unused = conversion_unused c (is_void (of e)) (is_struct (of e)) e a;
    }

-- an array's first element, or a function, as a pointer (C90 6.2.2.1)
abbrev pub decay_value : Context → Operand → Draft → Left Expression
decay_value c a s =
    let l : Left Lvalue = a.meaning.place s in left (loaded c (of a.tree) l.pure) l.after

-- `a, b`: a unused, then b
abbrev pub in_turn : Context → Typed → Operand → Operand → Meaning
in_turn c e a b =
    record (plain c e (λ to s. value_of b (a.meaning.unused s))
    (λ s. b.meaning.place (a.meaning.unused s))) {
      unused = λ s. b.meaning.unused (a.meaning.unused s);
    }

-- ---- calls

-- the arguments, each kept where a later one adds nodes
abbrev pub arguments : Context → List Operand → Draft → Left (List Expression)
arguments c [] s = left [] s
arguments c (a ∷ rest) s =
    let v : Left Expression = value_of a s in
    let kept : Left Expression =
    keep c (list_any (λ (b : Operand). adds b.tree) rest) a.tree v.pure v.after in
    let others : Left (List Expression) = arguments c rest kept.after in
    left (kept.pure ∷ others.pure) others.after

abbrev pub trees : List Operand → List Typed
trees es = map (λ (a : Operand). a.tree) es

-- the callee's value, kept where an argument adds nodes; then the arguments'
abbrev pub callee_and_arguments : Context → Operand → List Operand → Draft
    → Left (Expression × List Expression)
callee_and_arguments c f es s =
    let v : Left Expression = value_of f s in
    let kept : Left Expression =
    keep c (list_any (λ (b : Operand). adds b.tree) es) f.tree v.pure v.after in
    let args : Left (List Expression) = arguments c es kept.after in
    left (kept.pure, args.pure) args.after

-- the function that a callee names
abbrev pub named_by_form : TypedForm → Option ℕ
named_by_form (tree.function n) = Some n
named_by_form f = None

abbrev pub named_by : Typed → Option ℕ
named_by (typed (tree.decay (typed form t place mark)) t' place' mark') = named_by_form form
named_by (typed form t place mark) = named_by_form form

-- where it is one that isn't defined
abbrev pub if_undefined : Context → Option ℕ → Option ℕ
if_undefined c None = None
if_undefined c (Some n) = if is_undefined c n then Some n else None

abbrev pub undefined_callee : Context → Typed → Option ℕ
undefined_callee c f = if_undefined c (named_by f)

-- `to` is the type to which the result is directly converted, if it is
abbrev pub called_by : Context → Option ℕ → Typed → Option CType → Bool → Operand → List Operand → Draft
    → Left (Option Lvalue)
called_by c (Some n) e to used f es s =
    let args : Left (List Expression) = arguments c es s in
    undefined_called c n e to used (trees es) args.pure args.after
called_by c None e to used f es s =
    let v : Left (Expression × List Expression) = callee_and_arguments c f es s in
    defined_called c e used v.pure.0 v.pure.1 v.after

abbrev pub called : Context → Typed → Option CType → Bool → Operand → List Operand → Draft
    → Left (Option Lvalue)
called c e to used f es s = called_by c (undefined_callee c f.tree) e to used f es s

abbrev pub call_place : Context → Typed → Option CType → Operand → List Operand → Draft → Left Lvalue
call_place c e to f es s =
    let r : Left (Option Lvalue) = called c e to true f es s in
    left (result_place (of e) r.pure) r.after

abbrev pub call : Context → Typed → Operand → List Operand → Meaning
call c e f es =
    record (plain c e
    (λ to s. let l : Left Lvalue = call_place c e to f es s in
    left (loaded c (of e) l.pure) l.after)
    (call_place c e None f es)) { unused = λ s. (called c e None false f es s).after }

-- ---- all forms

abbrev mutual
  pub meaning : Context → Typed → Meaning
  meaning c (typed form t p m) = form_meaning c form (typed form t p m)

  -- of the form of the expression e
  pub form_meaning : Context → TypedForm → Typed → Meaning
  form_meaning c (tree.number n) e = constant c e (pos n.value)
  form_meaning c (tree.character z) e = constant c e z
  form_meaning c (tree.constant z) e = constant c e z
  form_meaning c (tree.object n) e = lvalue c e (left (direct n (object_type c n)))
  form_meaning c (tree.function n) e =
      lvalue c e (left (direct (function_object c n) (function_type c n)))
  form_meaning c (tree.convert a) e = conversion c e (operand_of (meaning c a) a)
  form_meaning c (tree.decay a) e = valued c e (decay_value c (operand_of (meaning c a) a))
  form_meaning c (tree.index a b) e =
      lvalue c e (index_place c e (operand_of (meaning c a) a) (operand_of (meaning c b) b))
  form_meaning c (tree.call f es) e =
      call c e (operand_of (meaning c f) f) (operands c es)
  form_meaning c (tree.member a n) e =
      lvalue c e (member_place c (operand_of (meaning c a) a) n)
  form_meaning c (tree.arrow a n) e =
      lvalue c e (arrow_place c e (operand_of (meaning c a) a) n)
  form_meaning c (tree.after p a) e =
      step_after c p e (operand_of (meaning c a) a)
  form_meaning c (tree.unary p a) e =
      prefixed c p e (operand_of (meaning c a) a)
  form_meaning c (tree.cast a) e = conversion c e (operand_of (meaning c a) a)
  form_meaning c (tree.binary p a b) e =
      binary c p e (operand_of (meaning c a) a) (operand_of (meaning c b) b)
  form_meaning c (tree.choice a b d) e =
      conditional c e (operand_of (meaning c a) a) (operand_of (meaning c b) b)
      (operand_of (meaning c d) d)
  form_meaning c (tree.assign p a b) e =
      assignment c p e (operand_of (meaning c a) a) (operand_of (meaning c b) b)
  form_meaning c (tree.comma a b) e =
      in_turn c e (operand_of (meaning c a) a) (operand_of (meaning c b) b)

  pub operands : Context → TypedList → List Operand
  operands c no_typed = []
  operands c (next_typed e es) = operand_of (meaning c e) e ∷ operands c es

-- an expression as an operand
abbrev pub operand : Context → Typed → Operand
operand c e = operand_of (meaning c e) e
