-- The depths of C90's grammar are those of its answers, production by production.
use Rattle.std.proofs.Common.{◌≡◌, ℕ, zero, suc, ◌+◌, ◌≤◌, Bool, true, false, List, [], ◌∷◌, Option, Some, None, refl, ap, ◌∙◌, arith}
use Rattle.std.specs.Prelude.{if◌then◌else◌, ◌||◌, ◌&&◌, not, ⊤}
use Rattle.sp_parse_trees.specs.Syntax.{Expression}
use Rattle.sp_parse_trees.specs.Depth as deep
use Rattle.sp_parse_grammar.specs.CTokens as tokens
use Rattle.sp_parse_grammar.specs.CTokens.{Sort, Seen, view as viewed, add, is_mark, is_specifier, is_typed, whole_seen}
use Rattle.sp_parse_grammar.specs.CTable as grammar
use Rattle.sp_parse_grammar.specs.CTable.{Context, Operand, Specified, Item, Ask, at, unit, whole, c_symbols, plan, operator_plan, stands_behind, specifiers_plan, begins_expression}
use Rattle.sp_parse_grammar.specs.Table.{Plan}
use Rattle.sp_parse_grammar.specs.Depth.{Gives, Deepens, DeepAt, AreDepths}
use Rattle.sp_parse_grammar.proofs.CChecked.{if_true, if_false}
use Rattle.sp_parse_tokens.specs.Makers as make
use Rattle.sp_parse_tokens.specs.Sorts.{Terminal}
use Rattle.sp_parse_tokens.specs.SyntaxTrees.{syntax_trees, c_table}
use Rattle.sp_parse_tokens.specs.Depths.{Part, item_depth, item_low, item_least, specifiers_least, c_depths}
use Rattle.sp_parse_tokens.proofs.Settled.{settle_depth, settle_type_depth, settle_last_depth, closed_depth, member_depth, word_depth, args_snoc, specifiers_snoc, declarations_snoc, enumerators_snoc, params_snoc, inits_snoc, statements_snoc, items_both}

-- what is checked of a production that was chosen by a token of this sort
record IsDeepAt (g : Context) (i : Part) (s : Sort) (q : Plan (c_symbols syntax_trees) (at g i)) : Type 0 where
  low : Gives c_depths q (λ o. item_low i ≤ item_depth i o)
  least : Gives c_depths q (λ o. item_least g i s ≤ item_depth i o)
  deepens : Deepens c_depths q

abbrev DeepS : (g : Context) (i : Part) (s : Sort) → Option (Plan (c_symbols syntax_trees) (at g i)) → Type 0
DeepS g i s None = ⊤
DeepS g i s (Some q) = IsDeepAt g i s q

deep_if : (g : Context) (i : Part) (s : Sort) (b : Bool) (p q : Option (Plan (c_symbols syntax_trees) (at g i))) → (b ≡ true → DeepS g i s p) → (b ≡ false → DeepS g i s q) → DeepS g i s (if b then p else q)
deep_if g i s true p q first second = first refl
deep_if g i s false p q first second = second refl

level_zero_deep : (g : Context) (x : Terminal) (s : Sort) → DeepS g (grammar.level zero) s (plan g (grammar.level zero) x s)
level_zero_deep g x (tokens.mark tokens.opening) = record { low = λ y1 e1. λ a2 h2. omega arith; least = λ y1 e1. λ a2 h2. omega arith; deepens = λ y1 e1. λ a2 h2. ((omega arith), tt) }
level_zero_deep g x _ = record { low = λ a1 h1. omega arith; least = λ a1 h1. omega arith; deepens = λ a1 h1. ((omega arith), tt) }

unary_deep : (g : Context) (x : Terminal) (s : Sort) → DeepS g grammar.unary s (plan g grammar.unary x s)
unary_deep g x (tokens.mark tokens.step) = record { low = λ y1 e1. λ a2 h2. omega arith; least = λ y1 e1. λ a2 h2. omega arith; deepens = λ y1 e1. λ a2 h2. ((omega arith), tt) }
unary_deep g x (tokens.mark tokens.star) = record { low = λ y1 e1. λ a2 h2. omega arith; least = λ y1 e1. λ a2 h2. omega arith; deepens = λ y1 e1. λ a2 h2. ((omega arith), tt) }
unary_deep g x (tokens.mark tokens.ampersand) = record { low = λ y1 e1. λ a2 h2. omega arith; least = λ y1 e1. λ a2 h2. omega arith; deepens = λ y1 e1. λ a2 h2. ((omega arith), tt) }
unary_deep g x (tokens.mark tokens.additive) = record { low = λ y1 e1. λ a2 h2. omega arith; least = λ y1 e1. λ a2 h2. omega arith; deepens = λ y1 e1. λ a2 h2. ((omega arith), tt) }
unary_deep g x (tokens.mark tokens.tilde) = record { low = λ y1 e1. λ a2 h2. omega arith; least = λ y1 e1. λ a2 h2. omega arith; deepens = λ y1 e1. λ a2 h2. ((omega arith), tt) }
unary_deep g x (tokens.mark tokens.sizeof) = record { low = λ y1 e1. λ a2 h2. omega arith; least = λ y1 e1. λ a2 h2. omega arith; deepens = λ y1 e1. λ a2 h2. ((omega arith), tt) }
unary_deep g x _ = record { low = λ a1 h1. λ a2 h2. omega arith; least = λ a1 h1. λ a2 h2. omega arith; deepens = λ a1 h1. ((λ a2 h2. omega arith), λ a2 h2. ((omega arith), tt)) }

primary_deep : (g : Context) (x : Terminal) (s : Sort) → DeepS g grammar.primary s (plan g grammar.primary x s)
primary_deep g x (tokens.name n) = record { low = λ y1 e1. omega arith; least = λ y1 e1. omega arith; deepens = λ y1 e1. tt }
primary_deep g x tokens.constant = record { low = λ y1 e1. omega arith; least = λ y1 e1. omega arith; deepens = λ y1 e1. tt }
primary_deep g x tokens.text = record { low = λ y1 e1. λ a2 h2. omega arith; least = λ y1 e1. λ a2 h2. omega arith; deepens = λ y1 e1. λ a2 h2. ((omega arith), tt) }
primary_deep g x (tokens.mark tokens.opening) = record { low = λ y1 e1. λ a2 h2. λ y3 e3. omega arith; least = λ y1 e1. λ a2 h2. λ y3 e3. omega arith; deepens = λ y1 e1. λ a2 h2. ((λ y3 e3. omega arith), λ y3 e3. tt) }
primary_deep g x _ = tt

texts_deep : (g : Context) (xs : List Terminal) (x : Terminal) (s : Sort) → DeepS g (grammar.texts xs) s (plan g (grammar.texts xs) x s)
texts_deep g xs x tokens.text = record { low = λ y1 e1. λ a2 h2. omega arith; least = λ y1 e1. λ a2 h2. omega arith; deepens = λ y1 e1. λ a2 h2. ((omega arith), tt) }
texts_deep g xs x _ = record { low = omega arith; least = omega arith; deepens = tt }

suffixes_deep : (g : Context) (f : Expression) (x : Terminal) (s : Sort) → DeepS g (grammar.suffixes f) s (plan g (grammar.suffixes f) x s)
suffixes_deep g f x (tokens.mark tokens.bracket) = record { low = λ y1 e1. λ a2 h2. λ y3 e3. λ a4 h4. omega arith; least = λ y1 e1. λ a2 h2. λ y3 e3. λ a4 h4. omega arith; deepens = λ y1 e1. λ a2 h2. ((λ y3 e3. λ a4 h4. omega arith), λ y3 e3. λ a4 h4. ((omega arith), tt)) }
suffixes_deep g f x (tokens.mark tokens.opening) = record { low = λ y1 e1. λ a2 h2. λ y3 e3. λ a4 h4. omega arith; least = λ y1 e1. λ a2 h2. λ y3 e3. λ a4 h4. omega arith; deepens = λ y1 e1. λ a2 h2. ((λ y3 e3. λ a4 h4. omega arith), λ y3 e3. λ a4 h4. ((omega arith), tt)) }
suffixes_deep g f x (tokens.mark tokens.member) = record { low = λ y1 e1. λ y2 e2. λ a3 h3. omega (arith, member_depth f x.what y2.what); least = λ y1 e1. λ y2 e2. λ a3 h3. omega (arith, member_depth f x.what y2.what); deepens = λ y1 e1. λ y2 e2. λ a3 h3. ((omega (arith, member_depth f x.what y2.what)), tt) }
suffixes_deep g f x (tokens.mark tokens.step) = record { low = λ y1 e1. λ a2 h2. omega arith; least = λ y1 e1. λ a2 h2. omega arith; deepens = λ y1 e1. λ a2 h2. ((omega arith), tt) }
suffixes_deep g f x _ = record { low = omega arith; least = omega arith; deepens = tt }

operator_deep : (g : Context) (k : ℕ) (l : Operand syntax_trees) (x : Terminal) (s : Sort) → stands_behind k l.unary s ≡ true → IsDeepAt g (grammar.after k l) s (operator_plan g k l x s)
operator_deep g k l x (tokens.mark tokens.question) b = record { low = λ y1 e1. λ a2 h2. λ y3 e3. λ a4 h4. omega (arith, if_true (stands_behind k l.unary (tokens.mark tokens.question)) (1 + deep.depth l.tree) (deep.depth l.tree) b); least = λ y1 e1. λ a2 h2. λ y3 e3. λ a4 h4. omega (arith, if_true (stands_behind k l.unary (tokens.mark tokens.question)) (1 + deep.depth l.tree) (deep.depth l.tree) b); deepens = λ y1 e1. λ a2 h2. ((λ y3 e3. λ a4 h4. omega (arith, if_true (stands_behind k l.unary (tokens.mark tokens.question)) (1 + deep.depth l.tree) (deep.depth l.tree) b)), λ y3 e3. λ a4 h4. ((omega (arith, if_true (stands_behind k l.unary (tokens.mark tokens.question)) (1 + deep.depth l.tree) (deep.depth l.tree) b)), tt)) }
operator_deep g k l x (tokens.mark tokens.comma) b = record { low = λ y1 e1. λ a2 h2. λ a3 h3. omega (arith, if_true (stands_behind k l.unary (tokens.mark tokens.comma)) (1 + deep.depth l.tree) (deep.depth l.tree) b); least = λ y1 e1. λ a2 h2. λ a3 h3. omega (arith, if_true (stands_behind k l.unary (tokens.mark tokens.comma)) (1 + deep.depth l.tree) (deep.depth l.tree) b); deepens = λ y1 e1. λ a2 h2. ((λ a3 h3. omega (arith, if_true (stands_behind k l.unary (tokens.mark tokens.comma)) (1 + deep.depth l.tree) (deep.depth l.tree) b)), λ a3 h3. ((omega (arith, if_true (stands_behind k l.unary (tokens.mark tokens.comma)) (1 + deep.depth l.tree) (deep.depth l.tree) b)), tt)) }
operator_deep g k l x (tokens.mark tokens.equal) b = record { low = λ y1 e1. λ a2 h2. omega (arith, if_true (stands_behind k l.unary (tokens.mark tokens.equal)) (1 + deep.depth l.tree) (deep.depth l.tree) b); least = λ y1 e1. λ a2 h2. omega (arith, if_true (stands_behind k l.unary (tokens.mark tokens.equal)) (1 + deep.depth l.tree) (deep.depth l.tree) b); deepens = λ y1 e1. λ a2 h2. ((omega (arith, if_true (stands_behind k l.unary (tokens.mark tokens.equal)) (1 + deep.depth l.tree) (deep.depth l.tree) b)), tt) }
operator_deep g k l x tokens.assigning b = record { low = λ y1 e1. λ a2 h2. omega (arith, if_true (stands_behind k l.unary tokens.assigning) (1 + deep.depth l.tree) (deep.depth l.tree) b); least = λ y1 e1. λ a2 h2. omega (arith, if_true (stands_behind k l.unary tokens.assigning) (1 + deep.depth l.tree) (deep.depth l.tree) b); deepens = λ y1 e1. λ a2 h2. ((omega (arith, if_true (stands_behind k l.unary tokens.assigning) (1 + deep.depth l.tree) (deep.depth l.tree) b)), tt) }
operator_deep g k l x s b = record { low = λ y1 e1. λ a2 h2. λ a3 h3. omega (arith, if_true (stands_behind k l.unary s) (1 + deep.depth l.tree) (deep.depth l.tree) b); least = λ y1 e1. λ a2 h2. λ a3 h3. omega (arith, if_true (stands_behind k l.unary s) (1 + deep.depth l.tree) (deep.depth l.tree) b); deepens = λ y1 e1. λ a2 h2. ((λ a3 h3. omega (arith, if_true (stands_behind k l.unary s) (1 + deep.depth l.tree) (deep.depth l.tree) b)), λ a3 h3. ((omega (arith, if_true (stands_behind k l.unary s) (1 + deep.depth l.tree) (deep.depth l.tree) b)), tt)) }

behind_struct_deep : (g : Context) (y : Terminal) (x : Terminal) (s : Sort) → DeepS g (grammar.behind_struct y) s (plan g (grammar.behind_struct y) x s)
behind_struct_deep g y x (tokens.mark tokens.brace) = record { low = λ y1 e1. λ a2 h2. λ a3 h3. λ y4 e4. omega arith; least = λ y1 e1. λ a2 h2. λ a3 h3. λ y4 e4. omega arith; deepens = λ y1 e1. λ a2 h2. ((λ a3 h3. λ y4 e4. omega arith), λ a3 h3. ((λ y4 e4. omega arith), λ y4 e4. tt)) }
behind_struct_deep g y x (tokens.name n) = record { low = λ y1 e1. λ a2 h2. omega arith; least = λ y1 e1. λ a2 h2. omega arith; deepens = λ y1 e1. λ a2 h2. ((omega arith), tt) }
behind_struct_deep g y x (tokens.named_type n) = record { low = λ y1 e1. λ a2 h2. omega arith; least = λ y1 e1. λ a2 h2. omega arith; deepens = λ y1 e1. λ a2 h2. ((omega arith), tt) }
behind_struct_deep g y x _ = tt

struct_body_deep : (g : Context) (y : Terminal) (z : Terminal) (x : Terminal) (s : Sort) → DeepS g (grammar.struct_body y z) s (plan g (grammar.struct_body y z) x s)
struct_body_deep g y z x (tokens.mark tokens.brace) = record { low = λ y1 e1. λ a2 h2. λ a3 h3. λ y4 e4. omega arith; least = λ y1 e1. λ a2 h2. λ a3 h3. λ y4 e4. omega arith; deepens = λ y1 e1. λ a2 h2. ((λ a3 h3. λ y4 e4. omega arith), λ a3 h3. ((λ y4 e4. omega arith), λ y4 e4. tt)) }
struct_body_deep g y z x _ = record { low = omega arith; least = omega arith; deepens = tt }

behind_enum_deep : (g : Context) (y : Terminal) (x : Terminal) (s : Sort) → DeepS g (grammar.behind_enum y) s (plan g (grammar.behind_enum y) x s)
behind_enum_deep g y x (tokens.mark tokens.brace) = record { low = λ y1 e1. λ a2 h2. λ a3 h3. λ y4 e4. omega arith; least = λ y1 e1. λ a2 h2. λ a3 h3. λ y4 e4. omega arith; deepens = λ y1 e1. λ a2 h2. ((λ a3 h3. λ y4 e4. omega arith), λ a3 h3. ((λ y4 e4. omega arith), λ y4 e4. tt)) }
behind_enum_deep g y x (tokens.name n) = record { low = λ y1 e1. λ a2 h2. omega arith; least = λ y1 e1. λ a2 h2. omega arith; deepens = λ y1 e1. λ a2 h2. ((omega arith), tt) }
behind_enum_deep g y x (tokens.named_type n) = record { low = λ y1 e1. λ a2 h2. omega arith; least = λ y1 e1. λ a2 h2. omega arith; deepens = λ y1 e1. λ a2 h2. ((omega arith), tt) }
behind_enum_deep g y x _ = tt

enum_body_deep : (g : Context) (y : Terminal) (z : Terminal) (x : Terminal) (s : Sort) → DeepS g (grammar.enum_body y z) s (plan g (grammar.enum_body y z) x s)
enum_body_deep g y z x (tokens.mark tokens.brace) = record { low = λ y1 e1. λ a2 h2. λ a3 h3. λ y4 e4. omega arith; least = λ y1 e1. λ a2 h2. λ a3 h3. λ y4 e4. omega arith; deepens = λ y1 e1. λ a2 h2. ((λ a3 h3. λ y4 e4. omega arith), λ a3 h3. ((λ y4 e4. omega arith), λ y4 e4. tt)) }
enum_body_deep g y z x _ = record { low = omega arith; least = omega arith; deepens = tt }

enumerator_deep : (g : Context) (x : Terminal) (s : Sort) → DeepS g grammar.enumerator s (plan g grammar.enumerator x s)
enumerator_deep g x (tokens.name n) = record { low = λ y1 e1. λ a2 h2. omega arith; least = λ y1 e1. λ a2 h2. omega arith; deepens = λ y1 e1. λ a2 h2. ((omega arith), tt) }
enumerator_deep g x _ = tt

value_deep : (g : Context) (x : Terminal) (s : Sort) → DeepS g grammar.value_of s (plan g grammar.value_of x s)
value_deep g x (tokens.mark tokens.equal) = record { low = λ y1 e1. λ a2 h2. omega arith; least = λ y1 e1. λ a2 h2. omega arith; deepens = λ y1 e1. λ a2 h2. ((omega arith), tt) }
value_deep g x _ = record { low = omega arith; least = omega arith; deepens = tt }

member_items_deep : (g : Context) (is : grammar.Items syntax_trees) (x : Terminal) (s : Sort) → DeepS g (grammar.member_items is) s (plan g (grammar.member_items is) x s)
member_items_deep g is x (tokens.mark tokens.comma) = record { low = λ y1 e1. λ a2 h2. λ a3 h3. omega (arith, items_both is.all (make.make_item a2.tree None ∷ [])); least = λ y1 e1. λ a2 h2. λ a3 h3. omega (arith, items_both is.all (make.make_item a2.tree None ∷ [])); deepens = λ y1 e1. λ a2 h2. ((λ a3 h3. omega (arith, items_both is.all (make.make_item a2.tree None ∷ []))), λ a3 h3. ((omega (arith, items_both is.all (make.make_item a2.tree None ∷ []))), tt)) }
member_items_deep g is x _ = record { low = omega arith; least = omega arith; deepens = tt }

qualifiers_deep : (g : Context) (xs : List Terminal) (x : Terminal) (s : Sort) → DeepS g (grammar.qualifiers xs) s (plan g (grammar.qualifiers xs) x s)
qualifiers_deep g xs x tokens.qualifier = record { low = λ y1 e1. λ a2 h2. omega arith; least = λ y1 e1. λ a2 h2. omega arith; deepens = λ y1 e1. λ a2 h2. ((omega arith), tt) }
qualifiers_deep g xs x _ = record { low = omega arith; least = omega arith; deepens = tt }

declarator_deep : (g : Context) (f : grammar.Form) (x : Terminal) (s : Sort) → DeepS g (grammar.declarator f) s (plan g (grammar.declarator f) x s)
declarator_deep g f x (tokens.mark tokens.star) = record { low = λ y1 e1. λ a2 h2. λ a3 h3. omega arith; least = λ y1 e1. λ a2 h2. λ a3 h3. omega arith; deepens = λ y1 e1. λ a2 h2. ((λ a3 h3. omega arith), λ a3 h3. ((omega arith), tt)) }
declarator_deep g f x _ = record { low = λ a1 h1. λ a2 h2. omega arith; least = λ a1 h1. λ a2 h2. omega arith; deepens = λ a1 h1. ((λ a2 h2. omega arith), λ a2 h2. ((omega arith), tt)) }

direct_concrete_deep : (g : Context) (x : Terminal) (s : Sort) → DeepS g (grammar.direct grammar.concrete) s (plan g (grammar.direct grammar.concrete) x s)
direct_concrete_deep g x (tokens.name n) = record { low = λ y1 e1. omega arith; least = λ y1 e1. omega arith; deepens = λ y1 e1. tt }
direct_concrete_deep g x (tokens.mark tokens.opening) = record { low = λ y1 e1. λ a2 h2. omega arith; least = λ y1 e1. λ a2 h2. omega arith; deepens = λ y1 e1. λ a2 h2. ((omega arith), tt) }
direct_concrete_deep g x _ = tt

direct_abstract_deep : (g : Context) (x : Terminal) (s : Sort) → DeepS g (grammar.direct grammar.abstract) s (plan g (grammar.direct grammar.abstract) x s)
direct_abstract_deep g x (tokens.mark tokens.opening) = record { low = λ y1 e1. λ a2 h2. omega arith; least = λ y1 e1. λ a2 h2. omega arith; deepens = λ y1 e1. λ a2 h2. ((omega arith), tt) }
direct_abstract_deep g x _ = record { low = omega arith; least = omega arith; deepens = tt }

direct_either_deep : (g : Context) (x : Terminal) (s : Sort) → DeepS g (grammar.direct grammar.either) s (plan g (grammar.direct grammar.either) x s)
direct_either_deep g x (tokens.name n) = record { low = λ y1 e1. omega arith; least = λ y1 e1. omega arith; deepens = λ y1 e1. tt }
direct_either_deep g x (tokens.mark tokens.opening) = record { low = λ y1 e1. λ a2 h2. omega arith; least = λ y1 e1. λ a2 h2. omega arith; deepens = λ y1 e1. λ a2 h2. ((omega arith), tt) }
direct_either_deep g x _ = record { low = omega arith; least = omega arith; deepens = tt }

group_concrete_deep : (g : Context) (x : Terminal) (s : Sort) → DeepS g (grammar.group grammar.concrete) s (plan g (grammar.group grammar.concrete) x s)
group_concrete_deep g x (tokens.mark tokens.star) = record { low = λ y1 e1. λ a2 h2. λ a3 h3. omega arith; least = λ y1 e1. λ a2 h2. λ a3 h3. omega arith; deepens = λ y1 e1. λ a2 h2. ((λ a3 h3. omega arith), λ a3 h3. ((omega arith), tt)) }
group_concrete_deep g x (tokens.mark tokens.opening) = record { low = λ y1 e1. λ a2 h2. λ a3 h3. omega arith; least = λ y1 e1. λ a2 h2. λ a3 h3. omega arith; deepens = λ y1 e1. λ a2 h2. ((λ a3 h3. omega arith), λ a3 h3. ((omega arith), tt)) }
group_concrete_deep g x (tokens.name n) = record { low = λ y1 e1. λ a2 h2. omega arith; least = λ y1 e1. λ a2 h2. omega arith; deepens = λ y1 e1. λ a2 h2. ((omega arith), tt) }
group_concrete_deep g x _ = tt

group_abstract_deep : (g : Context) (x : Terminal) (s : Sort) → DeepS g (grammar.group grammar.abstract) s (plan g (grammar.group grammar.abstract) x s)
group_abstract_deep g x (tokens.mark tokens.star) = record { low = λ y1 e1. λ a2 h2. λ a3 h3. omega arith; least = λ y1 e1. λ a2 h2. λ a3 h3. omega arith; deepens = λ y1 e1. λ a2 h2. ((λ a3 h3. omega arith), λ a3 h3. ((omega arith), tt)) }
group_abstract_deep g x (tokens.mark tokens.opening) = record { low = λ y1 e1. λ a2 h2. λ a3 h3. omega arith; least = λ y1 e1. λ a2 h2. λ a3 h3. omega arith; deepens = λ y1 e1. λ a2 h2. ((λ a3 h3. omega arith), λ a3 h3. ((omega arith), tt)) }
group_abstract_deep g x (tokens.mark tokens.bracket) = record { low = λ y1 e1. λ a2 h2. λ y3 e3. λ a4 h4. omega arith; least = λ y1 e1. λ a2 h2. λ y3 e3. λ a4 h4. omega arith; deepens = λ y1 e1. λ a2 h2. ((λ y3 e3. λ a4 h4. omega arith), λ y3 e3. λ a4 h4. ((omega arith), tt)) }
group_abstract_deep g x _ = tt

group_either_deep : (g : Context) (x : Terminal) (s : Sort) → DeepS g (grammar.group grammar.either) s (plan g (grammar.group grammar.either) x s)
group_either_deep g x (tokens.mark tokens.star) = record { low = λ y1 e1. λ a2 h2. λ a3 h3. omega arith; least = λ y1 e1. λ a2 h2. λ a3 h3. omega arith; deepens = λ y1 e1. λ a2 h2. ((λ a3 h3. omega arith), λ a3 h3. ((omega arith), tt)) }
group_either_deep g x (tokens.mark tokens.opening) = record { low = λ y1 e1. λ a2 h2. λ a3 h3. omega arith; least = λ y1 e1. λ a2 h2. λ a3 h3. omega arith; deepens = λ y1 e1. λ a2 h2. ((λ a3 h3. omega arith), λ a3 h3. ((omega arith), tt)) }
group_either_deep g x (tokens.name n) = record { low = λ y1 e1. λ a2 h2. omega arith; least = λ y1 e1. λ a2 h2. omega arith; deepens = λ y1 e1. λ a2 h2. ((omega arith), tt) }
group_either_deep g x (tokens.mark tokens.bracket) = record { low = λ y1 e1. λ a2 h2. λ y3 e3. λ a4 h4. omega arith; least = λ y1 e1. λ a2 h2. λ y3 e3. λ a4 h4. omega arith; deepens = λ y1 e1. λ a2 h2. ((λ y3 e3. λ a4 h4. omega arith), λ y3 e3. λ a4 h4. ((omega arith), tt)) }
group_either_deep g x _ = tt

parts_deep : (g : Context) (d : grammar.Declared syntax_trees) (x : Terminal) (s : Sort) → DeepS g (grammar.declarator_suffixes d) s (plan g (grammar.declarator_suffixes d) x s)
parts_deep g d x (tokens.mark tokens.bracket) = record { low = λ y1 e1. λ a2 h2. λ y3 e3. λ a4 h4. omega (arith, settle_depth x.what.place d.tree); least = λ y1 e1. λ a2 h2. λ y3 e3. λ a4 h4. omega (arith, settle_depth x.what.place d.tree); deepens = λ y1 e1. λ a2 h2. ((λ y3 e3. λ a4 h4. omega (arith, settle_depth x.what.place d.tree)), λ y3 e3. λ a4 h4. ((omega (arith, settle_depth x.what.place d.tree)), tt)) }
parts_deep g d x (tokens.mark tokens.opening) = record { low = λ y1 e1. λ a2 h2. λ y3 e3. λ a4 h4. omega (arith, settle_depth x.what.place d.tree, closed_depth a2.all a2.dots y3.what); least = λ y1 e1. λ a2 h2. λ y3 e3. λ a4 h4. omega (arith, settle_depth x.what.place d.tree, closed_depth a2.all a2.dots y3.what); deepens = λ y1 e1. λ a2 h2. ((λ y3 e3. λ a4 h4. omega (arith, settle_depth x.what.place d.tree, closed_depth a2.all a2.dots y3.what)), λ y3 e3. λ a4 h4. ((omega (arith, settle_depth x.what.place d.tree, closed_depth a2.all a2.dots y3.what)), tt)) }
parts_deep g d x _ = record { low = omega arith; least = omega arith; deepens = tt }

init_deep : (g : Context) (x : Terminal) (s : Sort) → DeepS g grammar.init s (plan g grammar.init x s)
init_deep g x (tokens.mark tokens.brace) = record { low = λ y1 e1. λ a2 h2. λ a3 h3. λ y4 e4. omega arith; least = λ y1 e1. λ a2 h2. λ a3 h3. λ y4 e4. omega arith; deepens = λ y1 e1. λ a2 h2. ((λ a3 h3. λ y4 e4. omega arith), λ a3 h3. ((λ y4 e4. omega arith), λ y4 e4. tt)) }
init_deep g x _ = record { low = λ a1 h1. omega arith; least = λ a1 h1. omega arith; deepens = λ a1 h1. ((omega arith), tt) }

initial_deep : (g : Context) (x : Terminal) (s : Sort) → DeepS g grammar.initial s (plan g grammar.initial x s)
initial_deep g x (tokens.mark tokens.equal) = record { low = λ y1 e1. λ a2 h2. omega arith; least = λ y1 e1. λ a2 h2. omega arith; deepens = λ y1 e1. λ a2 h2. ((omega arith), tt) }
initial_deep g x _ = record { low = omega arith; least = omega arith; deepens = tt }

more_items_deep : (g : Context) (is : grammar.Items syntax_trees) (x : Terminal) (s : Sort) → DeepS g (grammar.more_items is) s (plan g (grammar.more_items is) x s)
more_items_deep g is x (tokens.mark tokens.comma) = record { low = λ y1 e1. λ a2 h2. λ a3 h3. omega (arith, items_both is.all a2.all); least = λ y1 e1. λ a2 h2. λ a3 h3. omega (arith, items_both is.all a2.all); deepens = λ y1 e1. λ a2 h2. ((λ a3 h3. omega (arith, items_both is.all a2.all)), λ a3 h3. ((omega (arith, items_both is.all a2.all)), tt)) }
more_items_deep g is x _ = record { low = omega arith; least = omega arith; deepens = tt }

else_deep : (g : Context) (x : Terminal) (s : Sort) → DeepS g grammar.else_part s (plan g grammar.else_part x s)
else_deep g x (tokens.mark tokens.else_word) = record { low = λ y1 e1. λ a2 h2. omega arith; least = λ y1 e1. λ a2 h2. omega arith; deepens = λ y1 e1. λ a2 h2. ((omega arith), tt) }
else_deep g x _ = record { low = omega arith; least = omega arith; deepens = tt }

statement_deep : (g : Context) (x : Terminal) (s : Sort) → DeepS g grammar.statement s (plan g grammar.statement x s)
statement_deep g x (tokens.name n) = record { low = λ y1 e1. λ a2 h2. omega arith; least = λ y1 e1. λ a2 h2. omega arith; deepens = λ y1 e1. λ a2 h2. ((omega arith), tt) }
statement_deep g x (tokens.mark tokens.semicolon) = record { low = λ y1 e1. omega arith; least = λ y1 e1. omega arith; deepens = λ y1 e1. tt }
statement_deep g x (tokens.mark tokens.brace) = record { low = λ y1 e1. λ a2 h2. λ a3 h3. λ y4 e4. omega arith; least = λ y1 e1. λ a2 h2. λ a3 h3. λ y4 e4. omega arith; deepens = λ y1 e1. λ a2 h2. ((λ a3 h3. λ y4 e4. omega arith), λ a3 h3. ((λ y4 e4. omega arith), λ y4 e4. tt)) }
statement_deep g x (tokens.mark tokens.case) = record { low = λ y1 e1. λ a2 h2. λ y3 e3. λ a4 h4. omega arith; least = λ y1 e1. λ a2 h2. λ y3 e3. λ a4 h4. omega arith; deepens = λ y1 e1. λ a2 h2. ((λ y3 e3. λ a4 h4. omega arith), λ y3 e3. λ a4 h4. ((omega arith), tt)) }
statement_deep g x (tokens.mark tokens.default) = record { low = λ y1 e1. λ y2 e2. λ a3 h3. omega arith; least = λ y1 e1. λ y2 e2. λ a3 h3. omega arith; deepens = λ y1 e1. λ y2 e2. λ a3 h3. ((omega arith), tt) }
statement_deep g x (tokens.mark tokens.if_word) = record { low = λ y1 e1. λ y2 e2. λ a3 h3. λ y4 e4. λ a5 h5. λ a6 h6. omega arith; least = λ y1 e1. λ y2 e2. λ a3 h3. λ y4 e4. λ a5 h5. λ a6 h6. omega arith; deepens = λ y1 e1. λ y2 e2. λ a3 h3. ((λ y4 e4. λ a5 h5. λ a6 h6. omega arith), λ y4 e4. λ a5 h5. ((λ a6 h6. omega arith), λ a6 h6. ((omega arith), tt))) }
statement_deep g x (tokens.mark tokens.switch) = record { low = λ y1 e1. λ y2 e2. λ a3 h3. λ y4 e4. λ a5 h5. omega arith; least = λ y1 e1. λ y2 e2. λ a3 h3. λ y4 e4. λ a5 h5. omega arith; deepens = λ y1 e1. λ y2 e2. λ a3 h3. ((λ y4 e4. λ a5 h5. omega arith), λ y4 e4. λ a5 h5. ((omega arith), tt)) }
statement_deep g x (tokens.mark tokens.while) = record { low = λ y1 e1. λ y2 e2. λ a3 h3. λ y4 e4. λ a5 h5. omega arith; least = λ y1 e1. λ y2 e2. λ a3 h3. λ y4 e4. λ a5 h5. omega arith; deepens = λ y1 e1. λ y2 e2. λ a3 h3. ((λ y4 e4. λ a5 h5. omega arith), λ y4 e4. λ a5 h5. ((omega arith), tt)) }
statement_deep g x (tokens.mark tokens.do_word) = record { low = λ y1 e1. λ a2 h2. λ y3 e3. λ y4 e4. λ a5 h5. λ y6 e6. λ y7 e7. omega arith; least = λ y1 e1. λ a2 h2. λ y3 e3. λ y4 e4. λ a5 h5. λ y6 e6. λ y7 e7. omega arith; deepens = λ y1 e1. λ a2 h2. ((λ y3 e3. λ y4 e4. λ a5 h5. λ y6 e6. λ y7 e7. omega arith), λ y3 e3. λ y4 e4. λ a5 h5. ((λ y6 e6. λ y7 e7. omega arith), λ y6 e6. λ y7 e7. tt)) }
statement_deep g x (tokens.mark tokens.for) = record { low = λ y1 e1. λ y2 e2. λ a3 h3. λ y4 e4. λ a5 h5. λ y6 e6. λ a7 h7. λ y8 e8. λ a9 h9. omega arith; least = λ y1 e1. λ y2 e2. λ a3 h3. λ y4 e4. λ a5 h5. λ y6 e6. λ a7 h7. λ y8 e8. λ a9 h9. omega arith; deepens = λ y1 e1. λ y2 e2. λ a3 h3. ((λ y4 e4. λ a5 h5. λ y6 e6. λ a7 h7. λ y8 e8. λ a9 h9. omega arith), λ y4 e4. λ a5 h5. ((λ y6 e6. λ a7 h7. λ y8 e8. λ a9 h9. omega arith), λ y6 e6. λ a7 h7. ((λ y8 e8. λ a9 h9. omega arith), λ y8 e8. λ a9 h9. ((omega arith), tt)))) }
statement_deep g x (tokens.mark tokens.goto) = record { low = λ y1 e1. λ y2 e2. λ y3 e3. omega arith; least = λ y1 e1. λ y2 e2. λ y3 e3. omega arith; deepens = λ y1 e1. λ y2 e2. λ y3 e3. tt }
statement_deep g x (tokens.mark tokens.continue) = record { low = λ y1 e1. λ y2 e2. omega arith; least = λ y1 e1. λ y2 e2. omega arith; deepens = λ y1 e1. λ y2 e2. tt }
statement_deep g x (tokens.mark tokens.break) = record { low = λ y1 e1. λ y2 e2. omega arith; least = λ y1 e1. λ y2 e2. omega arith; deepens = λ y1 e1. λ y2 e2. tt }
statement_deep g x (tokens.mark tokens.return) = record { low = λ y1 e1. λ a2 h2. λ y3 e3. omega arith; least = λ y1 e1. λ a2 h2. λ y3 e3. omega arith; deepens = λ y1 e1. λ a2 h2. ((λ y3 e3. omega arith), λ y3 e3. tt) }
statement_deep g x _ = record { low = λ a1 h1. λ y2 e2. omega arith; least = λ a1 h1. λ y2 e2. omega arith; deepens = λ a1 h1. ((λ y2 e2. omega arith), λ y2 e2. tt) }

after_deep : (g : Context) (k : ℕ) (l : Operand syntax_trees) (x : Terminal) (s : Sort) → DeepS g (grammar.after k l) s (plan g (grammar.after k l) x s)
after_deep g k l x s = deep_if _ _ _ (stands_behind k l.unary s) _ _ (λ b. operator_deep g k l x s b) (λ b. record { low = omega (arith, if_false (stands_behind k l.unary s) (1 + deep.depth l.tree) (deep.depth l.tree) b); least = omega (arith, if_false (stands_behind k l.unary s) (1 + deep.depth l.tree) (deep.depth l.tree) b); deepens = tt })

no_structure : (d : ℕ) (s : Sort) (o : Option Seen) → o ≡ None → specifiers_least d s o ≡ d
no_structure d s o e = ap (specifiers_least d s) e ∙ at_none d s
  where
    at_none : (d : ℕ) (s : Sort) → specifiers_least d s None ≡ d
    at_none d (tokens.mark tokens.struct) = refl
    at_none d _ = refl

specifiers_deep : (g : Context) (stores : Bool) (seen : Seen) (sp : Specified syntax_trees) (x : Terminal) (s : Sort) (o : Option Seen) → add stores g.inside seen s ≡ o → DeepS g (grammar.specifiers stores seen sp) s (specifiers_plan g stores seen sp x s o)
specifiers_deep g stores seen sp x s None e =
    let same = no_structure (deep.specifiers_depth (make.all_specifiers sp.all)) s (add stores g.inside seen s) e in
    deep_if _ _ _ (is_typed seen) _ _ (λ b. record { low = omega (arith, same); least = omega (arith, same); deepens = tt }) (λ b. tt)
specifiers_deep g stores seen sp x (tokens.mark tokens.struct) (Some new) e =
    let same = ap (specifiers_least (deep.specifiers_depth (make.all_specifiers sp.all)) (tokens.mark tokens.struct)) e in
    record { low = λ y1 e1. λ a2 h2. λ a3 h3. omega (arith, same, specifiers_snoc sp.all a2); least = λ y1 e1. λ a2 h2. λ a3 h3. omega (arith, same, specifiers_snoc sp.all a2); deepens = λ y1 e1. λ a2 h2. ((λ a3 h3. omega (arith, same, specifiers_snoc sp.all a2)), λ a3 h3. ((omega (arith, same, specifiers_snoc sp.all a2)), tt)) }
specifiers_deep g stores seen sp x (tokens.mark tokens.enum) (Some new) e = record { low = λ y1 e1. λ a2 h2. λ a3 h3. omega (arith, specifiers_snoc sp.all a2); least = λ y1 e1. λ a2 h2. λ a3 h3. omega (arith, specifiers_snoc sp.all a2); deepens = λ y1 e1. λ a2 h2. ((λ a3 h3. omega (arith, specifiers_snoc sp.all a2)), λ a3 h3. ((omega (arith, specifiers_snoc sp.all a2)), tt)) }
specifiers_deep g stores seen sp x _ (Some new) e = record { low = λ y1 e1. λ a2 h2. omega (arith, specifiers_snoc sp.all (make.make_word x.what), word_depth x.what.kind); least = λ y1 e1. λ a2 h2. omega (arith, specifiers_snoc sp.all (make.make_word x.what), word_depth x.what.kind); deepens = λ y1 e1. λ a2 h2. ((omega (arith, specifiers_snoc sp.all (make.make_word x.what), word_depth x.what.kind)), tt) }

each_deep : (g : Context) (i : Part) (x : Terminal) (s : Sort) → DeepS g i s (plan g i x s)
each_deep g (grammar.level zero) x s = level_zero_deep g x s
each_deep g (grammar.level (suc k)) x s = record { low = λ a1 h1. λ a2 h2. omega arith; least = λ a1 h1. λ a2 h2. omega arith; deepens = λ a1 h1. ((λ a2 h2. omega arith), λ a2 h2. ((omega arith), tt)) }
each_deep g (grammar.after k l) x s = after_deep g k l x s
each_deep g (grammar.tail zero l) x s = record { low = omega arith; least = omega arith; deepens = tt }
each_deep g (grammar.tail (suc k) l) x s = record { low = λ a1 h1. λ a2 h2. omega arith; least = λ a1 h1. λ a2 h2. omega arith; deepens = λ a1 h1. ((λ a2 h2. omega arith), λ a2 h2. ((omega arith), tt)) }
each_deep g (grammar.behind_open y) x s = deep_if _ _ _ (is_specifier s) _ _ (λ b. record { low = λ a1 h1. λ y2 e2. λ a3 h3. omega (arith, settle_type_depth y2.what.place a1.tree); least = λ a1 h1. λ y2 e2. λ a3 h3. omega (arith, settle_type_depth y2.what.place a1.tree); deepens = λ a1 h1. ((λ y2 e2. λ a3 h3. omega (arith, settle_type_depth y2.what.place a1.tree)), λ y2 e2. λ a3 h3. ((omega (arith, settle_type_depth y2.what.place a1.tree)), tt)) }) (λ b. record { low = λ a1 h1. λ y2 e2. λ a3 h3. omega arith; least = λ a1 h1. λ y2 e2. λ a3 h3. omega arith; deepens = λ a1 h1. ((λ y2 e2. λ a3 h3. omega arith), λ y2 e2. λ a3 h3. ((omega arith), tt)) })
each_deep g grammar.unary x s = unary_deep g x s
each_deep g grammar.primary x s = primary_deep g x s
each_deep g grammar.arguments x s = deep_if _ _ _ (begins_expression s) _ _ (λ b. record { low = λ a1 h1. λ a2 h2. omega arith; least = λ a1 h1. λ a2 h2. omega arith; deepens = λ a1 h1. ((λ a2 h2. omega arith), λ a2 h2. ((omega arith), tt)) }) (λ b. record { low = omega arith; least = omega arith; deepens = tt })
each_deep g (grammar.behind_sizeof y) x s = deep_if _ _ _ (is_mark tokens.opening s) _ _ (λ b. record { low = λ y1 e1. λ a2 h2. omega arith; least = λ y1 e1. λ a2 h2. omega arith; deepens = λ y1 e1. λ a2 h2. ((omega arith), tt) }) (λ b. record { low = λ a1 h1. omega arith; least = λ a1 h1. omega arith; deepens = λ a1 h1. ((omega arith), tt) })
each_deep g (grammar.inside_sizeof y z) x s = deep_if _ _ _ (is_specifier s) _ _ (λ b. record { low = λ a1 h1. λ y2 e2. omega (arith, settle_type_depth y2.what.place a1.tree); least = λ a1 h1. λ y2 e2. omega (arith, settle_type_depth y2.what.place a1.tree); deepens = λ a1 h1. ((λ y2 e2. omega (arith, settle_type_depth y2.what.place a1.tree)), λ y2 e2. tt) }) (λ b. record { low = λ a1 h1. λ y2 e2. λ a3 h3. omega arith; least = λ a1 h1. λ y2 e2. λ a3 h3. omega arith; deepens = λ a1 h1. ((λ y2 e2. λ a3 h3. omega arith), λ y2 e2. λ a3 h3. ((omega arith), tt)) })
each_deep g (grammar.texts xs) x s = texts_deep g xs x s
each_deep g (grammar.suffixes f) x s = suffixes_deep g f x s
each_deep g (grammar.more_arguments es) x s = deep_if _ _ _ (is_mark tokens.comma s) _ _ (λ b. record { low = λ y1 e1. λ a2 h2. λ a3 h3. omega (arith, args_snoc es a2.tree); least = λ y1 e1. λ a2 h2. λ a3 h3. omega (arith, args_snoc es a2.tree); deepens = λ y1 e1. λ a2 h2. ((λ a3 h3. omega (arith, args_snoc es a2.tree)), λ a3 h3. ((omega (arith, args_snoc es a2.tree)), tt)) }) (λ b. record { low = omega arith; least = omega arith; deepens = tt })
each_deep g grammar.type_name x s = record { low = λ a1 h1. λ a2 h2. omega arith; least = λ a1 h1. λ a2 h2. omega arith; deepens = λ a1 h1. ((λ a2 h2. omega arith), λ a2 h2. ((omega arith), tt)) }
each_deep g grammar.optional_specifiers x s = deep_if _ _ _ (grammar.begins_specifiers true g.inside s) _ _ (λ b. record { low = λ a1 h1. omega arith; least = λ a1 h1. omega arith; deepens = λ a1 h1. ((omega arith), tt) }) (λ b. record { low = omega arith; least = omega arith; deepens = tt })
each_deep g (grammar.specifiers stores seen sp) x s = specifiers_deep g stores seen sp x s (add stores g.inside seen s) refl
each_deep g (grammar.behind_struct y) x s = behind_struct_deep g y x s
each_deep g (grammar.struct_body y z) x s = struct_body_deep g y z x s
each_deep g (grammar.behind_enum y) x s = behind_enum_deep g y x s
each_deep g (grammar.enum_body y z) x s = enum_body_deep g y z x s
each_deep g grammar.member x s = record { low = λ a1 h1. λ a2 h2. λ a3 h3. λ y4 e4. omega arith; least = λ a1 h1. λ a2 h2. λ a3 h3. λ y4 e4. omega arith; deepens = λ a1 h1. ((λ a2 h2. λ a3 h3. λ y4 e4. omega arith), λ a2 h2. ((λ a3 h3. λ y4 e4. omega arith), λ a3 h3. ((λ y4 e4. omega arith), λ y4 e4. tt))) }
each_deep g (grammar.members ds) x s = deep_if _ _ _ (grammar.begins_specifiers false g.inside s) _ _ (λ b. record { low = λ a1 h1. λ a2 h2. omega (arith, declarations_snoc ds a1); least = λ a1 h1. λ a2 h2. omega (arith, declarations_snoc ds a1); deepens = λ a1 h1. ((λ a2 h2. omega (arith, declarations_snoc ds a1)), λ a2 h2. ((omega (arith, declarations_snoc ds a1)), tt)) }) (λ b. record { low = omega arith; least = omega arith; deepens = tt })
each_deep g (grammar.member_items is) x s = member_items_deep g is x s
each_deep g grammar.enumerator x s = enumerator_deep g x s
each_deep g grammar.value_of x s = value_deep g x s
each_deep g (grammar.enumerators es) x s = deep_if _ _ _ (is_mark tokens.comma s) _ _ (λ b. record { low = λ y1 e1. λ a2 h2. λ a3 h3. omega (arith, enumerators_snoc es a2); least = λ y1 e1. λ a2 h2. λ a3 h3. omega (arith, enumerators_snoc es a2); deepens = λ y1 e1. λ a2 h2. ((λ a3 h3. omega (arith, enumerators_snoc es a2)), λ a3 h3. ((omega (arith, enumerators_snoc es a2)), tt)) }) (λ b. record { low = omega arith; least = omega arith; deepens = tt })
each_deep g (grammar.qualifiers xs) x s = qualifiers_deep g xs x s
each_deep g (grammar.declarator f) x s = declarator_deep g f x s
each_deep g (grammar.direct grammar.concrete) x s = direct_concrete_deep g x s
each_deep g (grammar.direct grammar.abstract) x s = direct_abstract_deep g x s
each_deep g (grammar.direct grammar.either) x s = direct_either_deep g x s
each_deep g (grammar.group grammar.concrete) x s = group_concrete_deep g x s
each_deep g (grammar.group grammar.abstract) x s = group_abstract_deep g x s
each_deep g (grammar.group grammar.either) x s = group_either_deep g x s
each_deep g (grammar.behind_group f y) x s = deep_if _ _ _ (not (grammar.is_concrete f) && grammar.is_parameters s) _ _ (λ b. record { low = λ a1 h1. λ y2 e2. omega (arith, closed_depth a1.all a1.dots y2.what); least = λ a1 h1. λ y2 e2. omega (arith, closed_depth a1.all a1.dots y2.what); deepens = λ a1 h1. ((λ y2 e2. omega (arith, closed_depth a1.all a1.dots y2.what)), λ y2 e2. tt) }) (λ b. record { low = λ a1 h1. λ y2 e2. omega (arith, settle_depth y2.what.place a1.tree); least = λ a1 h1. λ y2 e2. omega (arith, settle_depth y2.what.place a1.tree); deepens = λ a1 h1. ((λ y2 e2. omega (arith, settle_depth y2.what.place a1.tree)), λ y2 e2. tt) })
each_deep g (grammar.declarator_suffixes d) x s = parts_deep g d x s
each_deep g grammar.array_length x s = deep_if _ _ _ (begins_expression s) _ _ (λ b. record { low = λ a1 h1. omega arith; least = λ a1 h1. omega arith; deepens = λ a1 h1. ((omega arith), tt) }) (λ b. record { low = omega arith; least = omega arith; deepens = tt })
each_deep g grammar.parameters x s = deep_if _ _ _ (grammar.begins_specifiers true g.inside s) _ _ (λ b. record { low = λ a1 h1. λ a2 h2. omega arith; least = λ a1 h1. λ a2 h2. omega arith; deepens = λ a1 h1. ((λ a2 h2. omega arith), λ a2 h2. ((omega arith), tt)) }) (λ b. record { low = omega arith; least = omega arith; deepens = tt })
each_deep g grammar.parameter x s = record { low = λ a1 h1. λ a2 h2. omega arith; least = λ a1 h1. λ a2 h2. omega arith; deepens = λ a1 h1. ((λ a2 h2. omega arith), λ a2 h2. ((omega arith), tt)) }
each_deep g (grammar.more_parameters ps) x s = deep_if _ _ _ (is_mark tokens.comma s) _ _ (λ b. record { low = λ y1 e1. λ a2 h2. omega arith; least = λ y1 e1. λ a2 h2. omega arith; deepens = λ y1 e1. λ a2 h2. ((omega arith), tt) }) (λ b. record { low = omega arith; least = omega arith; deepens = tt })
each_deep g (grammar.behind_comma c ps) x s = deep_if _ _ _ (is_mark tokens.ellipsis s) _ _ (λ b. record { low = λ y1 e1. omega (arith, settle_last_depth c.what.place ps.all); least = λ y1 e1. omega (arith, settle_last_depth c.what.place ps.all); deepens = λ y1 e1. tt }) (λ b. record { low = λ a1 h1. λ a2 h2. omega (arith, settle_last_depth c.what.place ps.all, params_snoc (make.settle_last c.what.place ps.all) a1.tree); least = λ a1 h1. λ a2 h2. omega (arith, settle_last_depth c.what.place ps.all, params_snoc (make.settle_last c.what.place ps.all) a1.tree); deepens = λ a1 h1. ((λ a2 h2. omega (arith, settle_last_depth c.what.place ps.all, params_snoc (make.settle_last c.what.place ps.all) a1.tree)), λ a2 h2. ((omega (arith, settle_last_depth c.what.place ps.all, params_snoc (make.settle_last c.what.place ps.all) a1.tree)), tt)) })
each_deep g grammar.init x s = init_deep g x s
each_deep g (grammar.inits is) x s = deep_if _ _ _ (is_mark tokens.comma s) _ _ (λ b. record { low = λ y1 e1. λ a2 h2. omega arith; least = λ y1 e1. λ a2 h2. omega arith; deepens = λ y1 e1. λ a2 h2. ((omega arith), tt) }) (λ b. record { low = omega arith; least = omega arith; deepens = tt })
each_deep g (grammar.behind_init_comma is) x s = deep_if _ _ _ (is_mark tokens.brace s || begins_expression s) _ _ (λ b. record { low = λ a1 h1. λ a2 h2. omega (arith, inits_snoc is a1); least = λ a1 h1. λ a2 h2. omega (arith, inits_snoc is a1); deepens = λ a1 h1. ((λ a2 h2. omega (arith, inits_snoc is a1)), λ a2 h2. ((omega (arith, inits_snoc is a1)), tt)) }) (λ b. record { low = omega arith; least = omega arith; deepens = tt })
each_deep g grammar.declaration x s = record { low = λ a1 h1. λ a2 h2. λ y3 e3. omega arith; least = λ a1 h1. λ a2 h2. λ y3 e3. omega arith; deepens = λ a1 h1. ((λ a2 h2. λ y3 e3. omega arith), λ a2 h2. ((λ y3 e3. omega arith), λ y3 e3. tt)) }
each_deep g grammar.items x s = deep_if _ _ _ (grammar.begins_items s) _ _ (λ b. record { low = λ a1 h1. λ a2 h2. omega arith; least = λ a1 h1. λ a2 h2. omega arith; deepens = λ a1 h1. ((λ a2 h2. omega arith), λ a2 h2. ((omega arith), tt)) }) (λ b. record { low = omega arith; least = omega arith; deepens = tt })
each_deep g grammar.item x s = record { low = λ a1 h1. λ a2 h2. omega arith; least = λ a1 h1. λ a2 h2. omega arith; deepens = λ a1 h1. ((λ a2 h2. omega arith), λ a2 h2. ((omega arith), tt)) }
each_deep g grammar.initial x s = initial_deep g x s
each_deep g (grammar.declarations ds) x s = deep_if _ _ _ (grammar.begins_specifiers true g.inside s) _ _ (λ b. record { low = λ a1 h1. λ a2 h2. omega (arith, declarations_snoc ds a1); least = λ a1 h1. λ a2 h2. omega (arith, declarations_snoc ds a1); deepens = λ a1 h1. ((λ a2 h2. omega (arith, declarations_snoc ds a1)), λ a2 h2. ((omega (arith, declarations_snoc ds a1)), tt)) }) (λ b. record { low = omega arith; least = omega arith; deepens = tt })
each_deep g (grammar.more_items is) x s = more_items_deep g is x s
each_deep g grammar.statement x s = statement_deep g x s
each_deep g grammar.else_part x s = else_deep g x s
each_deep g grammar.optional_expression x s = deep_if _ _ _ (begins_expression s) _ _ (λ b. record { low = λ a1 h1. omega arith; least = λ a1 h1. omega arith; deepens = λ a1 h1. ((omega arith), tt) }) (λ b. record { low = omega arith; least = omega arith; deepens = tt })
each_deep g (grammar.behind_name y) x s = deep_if _ _ _ (is_mark tokens.colon s) _ _ (λ b. record { low = λ y1 e1. λ a2 h2. omega arith; least = λ y1 e1. λ a2 h2. omega arith; deepens = λ y1 e1. λ a2 h2. ((omega arith), tt) }) (λ b. record { low = λ a1 h1. λ a2 h2. λ y3 e3. omega arith; least = λ a1 h1. λ a2 h2. λ y3 e3. omega arith; deepens = λ a1 h1. ((λ a2 h2. λ y3 e3. omega arith), λ a2 h2. ((λ y3 e3. omega arith), λ y3 e3. tt)) })
each_deep g (grammar.statements ss) x s = deep_if _ _ _ (begins_expression s || grammar.begins_other s) _ _ (λ b. record { low = λ a1 h1. λ a2 h2. omega (arith, statements_snoc ss a1); least = λ a1 h1. λ a2 h2. omega (arith, statements_snoc ss a1); deepens = λ a1 h1. ((λ a2 h2. omega (arith, statements_snoc ss a1)), λ a2 h2. ((omega (arith, statements_snoc ss a1)), tt)) }) (λ b. record { low = omega arith; least = omega arith; deepens = tt })
each_deep g grammar.external x s = deep_if _ _ _ (is_mark tokens.semicolon s) _ _ (λ b. record { low = λ y1 e1. omega arith; least = λ y1 e1. omega arith; deepens = λ y1 e1. tt }) (λ b. record { low = λ a1 h1. λ a2 h2. omega arith; least = λ a1 h1. λ a2 h2. omega arith; deepens = λ a1 h1. ((λ a2 h2. omega arith), λ a2 h2. ((omega arith), tt)) })
each_deep g (grammar.external_items sp) x s = deep_if _ _ _ (is_mark tokens.semicolon s) _ _ (λ b. record { low = λ y1 e1. omega arith; least = λ y1 e1. omega arith; deepens = λ y1 e1. tt }) (λ b. record { low = λ a1 h1. λ a2 h2. omega arith; least = λ a1 h1. λ a2 h2. omega arith; deepens = λ a1 h1. ((λ a2 h2. omega arith), λ a2 h2. ((omega arith), tt)) })
each_deep g (grammar.behind_declarator sp d) x s = deep_if _ _ _ (is_mark tokens.brace s && not (grammar.is_variadic d.shape)) _ _ (λ b. record { low = λ y1 e1. λ a2 h2. λ a3 h3. λ y4 e4. omega arith; least = λ y1 e1. λ a2 h2. λ a3 h3. λ y4 e4. omega arith; deepens = λ y1 e1. λ a2 h2. ((λ a3 h3. λ y4 e4. omega arith), λ a3 h3. ((λ y4 e4. omega arith), λ y4 e4. tt)) }) (λ b. record { low = λ a1 h1. λ a2 h2. λ y3 e3. omega arith; least = λ a1 h1. λ a2 h2. λ y3 e3. omega arith; deepens = λ a1 h1. ((λ a2 h2. λ y3 e3. omega arith), λ a2 h2. ((λ y3 e3. omega arith), λ y3 e3. tt)) })

lifted : (g : Context) (i : Part) (x : Terminal) (o : Option (Plan (c_symbols syntax_trees) (at g i))) → DeepS g i (viewed g.types x.sort) o → DeepAt c_depths (at g i) x o
lifted g i x None d = tt
lifted g i x (Some q) d = record { low = d.low; least = d.least; deepens = d.deepens }

unit_if : (types : List ℕ) (x : Terminal) (b : Bool) (p q : Option (Plan (c_symbols syntax_trees) (unit types))) → DeepAt c_depths (unit types) x p → DeepAt c_depths (unit types) x q → DeepAt c_depths (unit types) x (if b then p else q)
unit_if types x true p q first second = first
unit_if types x false p q first second = second

-- The depths are those of the answers.
pub are_depths : AreDepths c_table c_depths
are_depths (at g i) x = lifted g i x (plan g i x (viewed g.types x.sort)) (each_deep g i x (viewed g.types x.sort))
are_depths (unit types) x = unit_if types x (is_mark tokens.semicolon (viewed types x.sort) || grammar.begins_specifiers true false (viewed types x.sort)) _ _ (record { low = λ a1 h1. λ a2 h2. omega arith; least = λ a1 h1. λ a2 h2. omega arith; deepens = λ a1 h1. ((λ a2 h2. omega arith), λ a2 h2. ((omega arith), tt)) }) (record { low = omega arith; least = omega arith; deepens = tt })
are_depths whole x = record { low = λ a1 h1. λ y2 e2. omega arith; least = λ a1 h1. λ y2 e2. omega arith; deepens = λ a1 h1. ((λ y2 e2. omega arith), λ y2 e2. tt) }
