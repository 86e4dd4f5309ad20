-- Declarations and their declarators, as the code has them.
use Rattle.std.proofs.Common.{◌≡◌, ℕ, zero, suc, ◌<◌, ◌≤◌, true, false, List, [], ◌∷◌, length, map, drop, get_or, refl, ap, sym, ◌∙◌, arith, Option, Some, None}
use Rattle.std.specs.Prelude.{◌≢◌, Err}
use Rattle.sp_tree.specs.declared.fault.FaultKind.{FaultKind}
use Rattle.sp_tree.specs.declared.fault.Place.{Place}
use Rattle.sp_parse_trees.proofs.TreeViews.{place_of-view, declarator_place-view}
use Rattle.sp_parse_trees.specs.Syntax.{declaration, init_declarator, no_items, next_item}
use Rattle.sp_parse_trees.specs.View.{declaration_of, declarator_of, specifiers_of, init_declarators}
use Rattle.sp_parse_trees.specs.declared.tree.Declaration.{Declaration as CodeDeclaration, out-Declaration}
use Rattle.sp_parse_trees.specs.declared.tree.InitDeclarator.{InitDeclarator as CodeItem, out-InitDeclarator}
use Rattle.sp_parse_trees.specs.declared.tree.DeclaratorForm.TheFolds.{fold_out-Declaration, fold_out-InitDeclarator}
use Rattle.sp_parse_trees.specs.declared.tree.Init.{Init as CodeInit}
use Rattle.sp_base_checked.specs.Answers.{Checked, accepted, refused, and_then, AnswersIn}
use Rattle.sp_base_checked.specs.declared.error.CheckError.{CheckError}
use Rattle.sp_base_checked.specs.declared.error.CheckError.TheVariants.{Fault as Faulty, NoMemory}
use Rattle.sp_expr_check.specs.SyntaxView.{init_declarator_of}
use Rattle.sp_check_declarations.specs.ItemView.{start_of}
use Rattle.sp_check_declarations.specs.Words.{has_none}

pub nothing_declared : (xs : List CodeItem) → length xs ≡ 0 → has_none (init_declarators (map init_declarator_of xs)) ≡ true
nothing_declared [] h = refl
nothing_declared (x ∷ xs) h = absurd (omega arith)

pub something_declared : (xs : List CodeItem) → length xs ≢ 0 → has_none (init_declarators (map init_declarator_of xs)) ≡ false
something_declared [] h = absurd (h refl)
something_declared (x ∷ xs) h = refl

pub declaration_of-view : (d : CodeDeclaration) → declaration_of d ≡ declaration (specifiers_of (out-Declaration d).specifiers.items) (init_declarators (map init_declarator_of (out-Declaration d).items.items)) (out-Declaration d).place
declaration_of-view d = rw fold_out-Declaration refl

-- a declarator with its initialiser, where it has one
item_seen : (i : CodeItem) (start : Option CodeInit) → (out-InitDeclarator i).start ≡ start → init_declarator_of i ≡ init_declarator (declarator_of (out-InitDeclarator i).declarator) (start_of start)
item_seen i None e = rw (fold_out-InitDeclarator, e) refl
item_seen i (Some x) e = rw (fold_out-InitDeclarator, e) refl

pub init_declarator_of-view : (i : CodeItem) → init_declarator_of i ≡ init_declarator (declarator_of (out-InitDeclarator i).declarator) (start_of (out-InitDeclarator i).start)
init_declarator_of-view i = item_seen i (out-InitDeclarator i).start refl

pub ruleset items = (nothing_declared, something_declared, declaration_of-view, init_declarator_of-view, declarator_place-view)

-- ---- declarators one after another

pub first_item : (xs : List CodeItem) (i : ℕ) (x : CodeItem) → i < length xs → x ≡ get_or xs i x → init_declarators (map init_declarator_of (drop i xs)) ≡ next_item (init_declarator_of x) (init_declarators (map init_declarator_of (drop (suc i) xs)))
first_item [] i x h e = absurd (omega arith)
first_item (y ∷ ys) zero x h e = ap (λ z. next_item (init_declarator_of z) (init_declarators (map init_declarator_of ys))) (sym e)
first_item (y ∷ ys) (suc i) x h e = first_item ys i x (omega arith) e

pub no_item_left : (xs : List CodeItem) (i : ℕ) → length xs ≤ i → init_declarators (map init_declarator_of (drop i xs)) ≡ no_items
no_item_left [] zero h = refl
no_item_left [] (suc i) h = refl
no_item_left (y ∷ ys) zero h = absurd (omega arith)
no_item_left (y ∷ ys) (suc i) h = no_item_left ys i (omega arith)

-- what is read goes on, and what is refused ends the list
pub taken_in : {A B : Type 0} (c : Checked A) (f : A → Checked B) (a : A) (whole : Checked B) → and_then c f ≡ whole → c ≡ accepted a → f a ≡ whole
taken_in c f a whole h e = sym (ap (λ d. and_then d f) e) ∙ h

pub ended_by : {A B : Type 0} (c : Checked A) (f : A → Checked B) (whole : Checked B) → and_then c f ≡ whole → (k : FaultKind) (p : Place) → c ≡ refused k p → whole ≡ refused k p
ended_by c f whole h k p e = sym h ∙ ap (λ d. and_then d f) e

pub list_failed : {A C R Q E : Type 0} (seen : A → R) (part : C → Q) (whole : Checked (R × E)) (c : Checked (Q × E)) (env after : E) (err : CheckError) → ((k : FaultKind) (p : Place) → c ≡ refused k p → whole ≡ refused k p) → AnswersIn part c env (Err err) → AnswersIn seen whole after (Err err)
list_failed seen part whole c env after (Faulty f) g h = g f.kind f.place h
list_failed seen part whole c env after NoMemory g h = h
