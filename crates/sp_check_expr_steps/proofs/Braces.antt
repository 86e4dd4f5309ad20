-- What stands between braces, as the code has it.
use Rattle.std.proofs.Common.{◌≡◌, ℕ, zero, suc, ◌<◌, ◌≤◌, List, [], ◌∷◌, length, map, drop, get_or, refl, ap, sym, ◌∙◌, arith, Option, Some, None}
use Rattle.std.specs.Prelude.{Vec, option_map}
use Rattle.std.specs.declared.alloc.Global.{Global}
use Rattle.sp_tree.specs.declared.fault.Place.{Place}
use Rattle.sp_parse_trees.specs.Syntax.{Expression, no_declarations, next_declaration, no_items, next_item, Enumerators, no_enumerators, next_enumerator}
use Rattle.sp_parse_trees.specs.View.{tree_of, declaration_of, declarations, init_declarators, enumerators, optional, maybe_expression}
use Rattle.sp_parse_trees.specs.declared.tree.Expr.{Expr}
use Rattle.sp_parse_trees.specs.declared.tree.Declaration.{Declaration as CodeDeclaration, out-Declaration}
use Rattle.sp_parse_trees.specs.declared.tree.InitDeclarator.{InitDeclarator as CodeItem}
use Rattle.sp_parse_trees.specs.declared.tree.StructSpec.{StructSpec as CodeStruct, out-StructSpec}
use Rattle.sp_parse_trees.specs.declared.tree.EnumSpec.{EnumSpec as CodeEnum, out-EnumSpec}
use Rattle.sp_parse_trees.specs.declared.tree.DeclaratorForm.TheFolds.{fold_out-Declaration, fold_out-StructSpec, fold_out-EnumSpec}
use Rattle.sp_check_expr_steps.specs.SyntaxView.{struct_spec_of, enum_spec_of, init_declarator_of}
use Rattle.sp_check_expr_steps.specs.Expressions.{declarations_in, constants_in, items_in}

-- a constant of the code, with its plain expression
abbrev pub constant_seen : ℕ × Place × Option Expr → ℕ × Place × Option Expression
constant_seen c = (c.0, c.1, option_map tree_of c.2)

pub declarations_in-view : (s : CodeStruct) (ds : Vec CodeDeclaration Global) → (out-StructSpec s).members ≡ Some ds → declarations_in (struct_spec_of s) ≡ declarations (map declaration_of ds.items)
declarations_in-view s ds e = rw (fold_out-StructSpec, e) refl

-- a function that sees the expression of each constant sees the constants
one_constant : (f : ℕ × Place × Option Expr → ℕ × Place × Option Expression) (n : ℕ) (p : Place) (o : Option Expr) → ((n : ℕ) (p : Place) → f (n, p, None) ≡ (n, p, None)) → ((n : ℕ) (p : Place) (e : Expr) → f (n, p, Some e) ≡ (n, p, Some (tree_of e))) → f (n, p, o) ≡ (n, p, option_map tree_of o)
one_constant f n p None none some = none n p
one_constant f n p (Some e) none some = some n p e

same_constants : (f : ℕ × Place × Option Expr → ℕ × Place × Option Expression) (xs : List (ℕ × Place × Option Expr)) → ((n : ℕ) (p : Place) → f (n, p, None) ≡ (n, p, None)) → ((n : ℕ) (p : Place) (e : Expr) → f (n, p, Some e) ≡ (n, p, Some (tree_of e))) → map f xs ≡ map constant_seen xs
same_constants f [] none some = refl
same_constants f (x ∷ xs) none some =
    ap (λ y. y ∷ map f xs) (one_constant f x.0 x.1 x.2 none some) ∙ ap (λ ys. constant_seen x ∷ ys) (same_constants f xs none some)

pub constants_in-view : (s : CodeEnum) (cs : Vec (ℕ × Place × Option Expr) Global) → (out-EnumSpec s).constants ≡ Some cs → constants_in (enum_spec_of s) ≡ enumerators (map constant_seen cs.items)
constants_in-view s cs e = rw (fold_out-EnumSpec, e) (ap enumerators (same_constants _ cs.items (λ n p. refl) (λ n p x. refl)))

pub items_in-view : (d : CodeDeclaration) → items_in (declaration_of d) ≡ init_declarators (map init_declarator_of (out-Declaration d).items.items)
items_in-view d = rw fold_out-Declaration refl

pub told_value : (o : Option Expr) → maybe_expression (option_map tree_of o) ≡ optional o
told_value None = refl
told_value (Some e) = refl

-- ---- the first of what is left, and the end

pub first_declaration : (xs : List CodeDeclaration) (i : ℕ) (x : CodeDeclaration) → i < length xs → x ≡ get_or xs i x → declarations (map declaration_of (drop i xs)) ≡ next_declaration (declaration_of x) (declarations (map declaration_of (drop (suc i) xs)))
first_declaration [] i x h e = absurd (omega arith)
first_declaration (y ∷ ys) zero x h e = ap (λ z. next_declaration (declaration_of z) (declarations (map declaration_of ys))) (sym e)
first_declaration (y ∷ ys) (suc i) x h e = first_declaration ys i x (omega arith) e

pub no_declaration_left : (xs : List CodeDeclaration) (i : ℕ) → length xs ≤ i → declarations (map declaration_of (drop i xs)) ≡ no_declarations
no_declaration_left [] zero h = refl
no_declaration_left [] (suc i) h = refl
no_declaration_left (y ∷ ys) zero h = absurd (omega arith)
no_declaration_left (y ∷ ys) (suc i) h = no_declaration_left ys i (omega arith)

pub first_item : (xs : List CodeItem) (i : ℕ) (x : CodeItem) → i < length xs → x ≡ get_or xs i x → init_declarators (map init_declarator_of (drop i xs)) ≡ next_item (init_declarator_of x) (init_declarators (map init_declarator_of (drop (suc i) xs)))
first_item [] i x h e = absurd (omega arith)
first_item (y ∷ ys) zero x h e = ap (λ z. next_item (init_declarator_of z) (init_declarators (map init_declarator_of ys))) (sym e)
first_item (y ∷ ys) (suc i) x h e = first_item ys i x (omega arith) e

pub no_item_left : (xs : List CodeItem) (i : ℕ) → length xs ≤ i → init_declarators (map init_declarator_of (drop i xs)) ≡ no_items
no_item_left [] zero h = refl
no_item_left [] (suc i) h = refl
no_item_left (y ∷ ys) zero h = absurd (omega arith)
no_item_left (y ∷ ys) (suc i) h = no_item_left ys i (omega arith)

-- a constant, with what gives its value
abbrev pub next_told : ℕ × Place × Option Expr → Enumerators → Enumerators
next_told c cs = next_enumerator c.0 c.1 (optional c.2) cs

pub first_constant : (xs : List (ℕ × Place × Option Expr)) (i : ℕ) (x : ℕ × Place × Option Expr) → i < length xs → x ≡ get_or xs i x → enumerators (map constant_seen (drop i xs)) ≡ next_told x (enumerators (map constant_seen (drop (suc i) xs)))
first_constant [] i x h e = absurd (omega arith)
first_constant (y ∷ ys) zero x h e = ap (λ v. next_enumerator y.0 y.1 v (enumerators (map constant_seen ys))) (told_value y.2) ∙ ap (λ z. next_told z (enumerators (map constant_seen ys))) (sym e)
first_constant (y ∷ ys) (suc i) x h e = first_constant ys i x (omega arith) e

pub no_constant_left : (xs : List (ℕ × Place × Option Expr)) (i : ℕ) → length xs ≤ i → enumerators (map constant_seen (drop i xs)) ≡ no_enumerators
no_constant_left [] zero h = refl
no_constant_left [] (suc i) h = refl
no_constant_left (y ∷ ys) zero h = absurd (omega arith)
no_constant_left (y ∷ ys) (suc i) h = no_constant_left ys i (omega arith)
