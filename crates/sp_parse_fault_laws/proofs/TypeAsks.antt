-- Each ask at a token that begins a declarator, and at a type in its place.
use Rattle.std.proofs.Common.{◌≡◌, inl, inr, ℕ, zero, suc, true, false, List, None, refl, arith}
use Rattle.sp_parse_grammar.specs.CTokens as tokens
use Rattle.sp_parse_grammar.specs.CTokens.{Sort, Mark, Seen, Length, Base, is_mark, is_name, view as viewed, add, add_word, nothing_seen, is_typed, typed, plain_length, no_base}
use Rattle.sp_parse_grammar.specs.CTable as grammar
use Rattle.sp_parse_grammar.specs.CTable.{Context, AlsoAllowed, Form, Operand, Specified, ItemAnswer, Ask, Answer, at, unit, whole, c_symbols, plan, stands_behind}
use Rattle.sp_parse_grammar.specs.Table.{open_take}
use Rattle.sp_parse_grammar.proofs.CChecked.{which}
use Rattle.sp_parse_tokens.specs.Sorts.{Terminal}
use Rattle.sp_parse_tokens.specs.SyntaxTrees.{syntax_trees, c_table}
use Rattle.sp_parse_tokens.specs.Depths.{Part}
use Rattle.sp_parse_fault_laws.proofs.Swaps.{Peek, opens_over}
use Rattle.sp_parse_fault_laws.proofs.TypeBehind.{closed_no_type}
use Rattle.sp_parse_fault_laws.proofs.TypeNotes.{Beginning, named, starred, opened, beginning, type_notes, types_at_token, Fits, item_no_type}
use Rattle.sp_parse_fault_laws.proofs.TypePeeks.{IsThere, by_plan, by_part, unary_takes, level_takes, statement_takes, statements_take, direct_takes, item_takes, ends, marked, part, alike, kept, nothing_at_b, taking, part_typed, specifiers_typed, at_b, at_x, after_peek, specifiers_peek, comma_peek, declaration_peek}

module _ (types : List ℕ) (b x : Terminal) (n : ℕ) (is_b : IsThere types b (named n)) (is_x : x.sort ≡ tokens.basic tokens.float) where
  pub named_peeks : (g : Context) → g.types ≡ types → (i : Part) → Fits i → Peek c_table (type_notes types) b x (at g i)
  named_peeks g t (grammar.level k) h = taking types b x (named n) is_b is_x g (grammar.level k) (level_takes types b (named n) is_b g t k)
  named_peeks g t (grammar.after k l) h = after_peek types b x (named n) is_b is_x g t k l h (which (stands_behind k l.unary (beginning (named n))))
  named_peeks g t (grammar.tail zero l) h = alike types b x (named n) is_b is_x g t (grammar.tail zero l) _ refl refl refl
  named_peeks g t (grammar.tail (suc k) l) h = kept types b x (named n) is_b is_x g t (grammar.tail (suc k) l) _ refl refl (part types b x (named n) is_b is_x t (omega arith, omega arith, refl, tt) (λ o e. part types b x (named n) is_b is_x t (tt, tt, refl, tt) (λ p e. ends types b x (named n) is_b is_x refl)))
  named_peeks g t (grammar.behind_open v) h = taking types b x (named n) is_b is_x g (grammar.behind_open v) (by_plan types b (named n) is_b g t (grammar.behind_open v) _ refl (by_part types b g (grammar.level 13) _ (level_takes types b (named n) is_b g t 13)))
  named_peeks g t grammar.unary h = taking types b x (named n) is_b is_x g grammar.unary (unary_takes types b (named n) is_b g t)
  named_peeks g t (grammar.behind_sizeof v) h = taking types b x (named n) is_b is_x g (grammar.behind_sizeof v) (by_plan types b (named n) is_b g t (grammar.behind_sizeof v) _ refl (by_part types b g grammar.unary _ (unary_takes types b (named n) is_b g t)))
  named_peeks g t (grammar.inside_sizeof v w) h = taking types b x (named n) is_b is_x g (grammar.inside_sizeof v w) (by_plan types b (named n) is_b g t (grammar.inside_sizeof v w) _ refl (by_part types b g (grammar.level 13) _ (level_takes types b (named n) is_b g t 13)))
  named_peeks g t grammar.primary h = taking types b x (named n) is_b is_x g grammar.primary (by_plan types b (named n) is_b g t grammar.primary _ refl (open_take refl))
  named_peeks g t (grammar.texts xs) h = alike types b x (named n) is_b is_x g t (grammar.texts xs) _ refl refl refl
  named_peeks g t (grammar.suffixes f) h = alike types b x (named n) is_b is_x g t (grammar.suffixes f) _ refl refl refl
  named_peeks g t grammar.arguments h = taking types b x (named n) is_b is_x g grammar.arguments (by_plan types b (named n) is_b g t grammar.arguments _ refl (by_part types b g (grammar.level 12) _ (level_takes types b (named n) is_b g t 12)))
  named_peeks g t (grammar.more_arguments es) h = alike types b x (named n) is_b is_x g t (grammar.more_arguments es) _ refl refl refl
  named_peeks g t grammar.type_name h = kept types b x (named n) is_b is_x g t grammar.type_name _ refl refl (part types b x (named n) is_b is_x t (tt, tt, refl, tt) (λ sp e. part types b x (named n) is_b is_x t (tt, tt, refl, refl) (λ d e. ends types b x (named n) is_b is_x e)))
  named_peeks g t grammar.optional_specifiers h = absurd h
  named_peeks g t (grammar.specifiers stores seen sp) h = specifiers_peek types b x (named n) is_b is_x g t stores seen sp refl (which (is_typed seen))
  named_peeks g t (grammar.behind_struct v) h = taking types b x (named n) is_b is_x g (grammar.behind_struct v) (by_plan types b (named n) is_b g t (grammar.behind_struct v) _ refl (open_take refl))
  named_peeks g t (grammar.behind_enum v) h = taking types b x (named n) is_b is_x g (grammar.behind_enum v) (by_plan types b (named n) is_b g t (grammar.behind_enum v) _ refl (open_take refl))
  named_peeks g t (grammar.struct_body v w) h = alike types b x (named n) is_b is_x g t (grammar.struct_body v w) _ refl refl refl
  named_peeks g t (grammar.enum_body v w) h = alike types b x (named n) is_b is_x g t (grammar.enum_body v w) _ refl refl refl
  named_peeks g t grammar.member h = kept types b x (named n) is_b is_x g t grammar.member _ refl refl (part types b x (named n) is_b is_x t (tt, tt, refl, tt) (λ sp e. part types b x (named n) is_b is_x t (tt, tt, refl, refl) (λ d e. part types b x (named n) is_b is_x t (tt, tt, closed_no_type d.behind, tt) (λ is e. marked types b x (named n) is_b is_x t refl (λ z. ends types b x (named n) is_b is_x refl)))))
  named_peeks g t grammar.enumerator h = taking types b x (named n) is_b is_x g grammar.enumerator (by_plan types b (named n) is_b g t grammar.enumerator _ refl (open_take refl))
  named_peeks g t grammar.value_of h = alike types b x (named n) is_b is_x g t grammar.value_of _ refl refl refl
  named_peeks g t (grammar.members ds) h = nothing_at_b types b x (named n) is_b is_x g t (grammar.members ds) _ ds refl (part_typed types b x (named n) is_b is_x g t grammar.member _ _ refl (specifiers_typed types b x (named n) is_b is_x g t false _)) refl refl
  named_peeks g t (grammar.member_items is) h = alike types b x (named n) is_b is_x g t (grammar.member_items is) _ refl refl refl
  named_peeks g t (grammar.enumerators es) h = alike types b x (named n) is_b is_x g t (grammar.enumerators es) _ refl refl refl
  named_peeks g t (grammar.qualifiers xs) h = alike types b x (named n) is_b is_x g t (grammar.qualifiers xs) _ refl refl refl
  named_peeks g t (grammar.declarator grammar.concrete) h = taking types b x (named n) is_b is_x g (grammar.declarator grammar.concrete) (direct_takes types b (named n) is_b g t)
  named_peeks g t (grammar.declarator grammar.abstract) h = kept types b x (named n) is_b is_x g t (grammar.declarator grammar.abstract) _ refl refl (part types b x (named n) is_b is_x t (tt, tt, refl, refl) (λ d e. part types b x (named n) is_b is_x t (tt, tt, refl, λ h. h) (λ o k. ends types b x (named n) is_b is_x refl)))
  named_peeks g t (grammar.declarator grammar.either) h = taking types b x (named n) is_b is_x g (grammar.declarator grammar.either) (by_plan types b (named n) is_b g t (grammar.declarator grammar.either) _ refl (by_part types b g (grammar.direct grammar.either) _ (by_plan types b (named n) is_b g t (grammar.direct grammar.either) _ refl (open_take refl))))
  named_peeks g t (grammar.direct grammar.concrete) h = taking types b x (named n) is_b is_x g (grammar.direct grammar.concrete) (by_plan types b (named n) is_b g t (grammar.direct grammar.concrete) _ refl (open_take refl))
  named_peeks g t (grammar.direct grammar.abstract) h = alike types b x (named n) is_b is_x g t (grammar.direct grammar.abstract) _ refl refl refl
  named_peeks g t (grammar.direct grammar.either) h = taking types b x (named n) is_b is_x g (grammar.direct grammar.either) (by_plan types b (named n) is_b g t (grammar.direct grammar.either) _ refl (open_take refl))
  named_peeks g t (grammar.group grammar.concrete) h = taking types b x (named n) is_b is_x g (grammar.group grammar.concrete) (by_plan types b (named n) is_b g t (grammar.group grammar.concrete) _ refl (open_take refl))
  named_peeks g t (grammar.group grammar.abstract) h = alike types b x (named n) is_b is_x g t (grammar.group grammar.abstract) None refl refl (refl, t)
  named_peeks g t (grammar.group grammar.either) h = taking types b x (named n) is_b is_x g (grammar.group grammar.either) (by_plan types b (named n) is_b g t (grammar.group grammar.either) _ refl (open_take refl))
  named_peeks g t (grammar.behind_group grammar.concrete v) h = taking types b x (named n) is_b is_x g (grammar.behind_group grammar.concrete v) (by_plan types b (named n) is_b g t (grammar.behind_group grammar.concrete v) _ refl (by_part types b g (grammar.group grammar.concrete) _ (by_plan types b (named n) is_b g t (grammar.group grammar.concrete) _ refl (open_take refl))))
  named_peeks g t (grammar.behind_group grammar.abstract v) h = opens_over _ _ (at_x types b x (named n) is_b is_x g t (grammar.behind_group grammar.abstract v) _ refl) (part_typed types b x (named n) is_b is_x g t grammar.parameters _ _ refl (part_typed types b x (named n) is_b is_x g t grammar.parameter _ _ refl (specifiers_typed types b x (named n) is_b is_x g t true _))) (at_b types b x (named n) is_b is_x g t (grammar.behind_group grammar.abstract v) _ refl) ((t, tt), (λ f. refl), (λ f. inr (inl refl)), (λ f. absurd cc))
  named_peeks g t (grammar.behind_group grammar.either v) h = taking types b x (named n) is_b is_x g (grammar.behind_group grammar.either v) (by_plan types b (named n) is_b g t (grammar.behind_group grammar.either v) _ refl (by_part types b g (grammar.group grammar.either) _ (by_plan types b (named n) is_b g t (grammar.group grammar.either) _ refl (open_take refl))))
  named_peeks g t (grammar.declarator_suffixes d) h = alike types b x (named n) is_b is_x g t (grammar.declarator_suffixes d) _ refl refl refl
  named_peeks g t grammar.array_length h = taking types b x (named n) is_b is_x g grammar.array_length (by_plan types b (named n) is_b g t grammar.array_length _ refl (by_part types b g (grammar.level 11) _ (level_takes types b (named n) is_b g t 11)))
  named_peeks g t grammar.parameters h = nothing_at_b types b x (named n) is_b is_x g t grammar.parameters _ _ refl (part_typed types b x (named n) is_b is_x g t grammar.parameter _ _ refl (specifiers_typed types b x (named n) is_b is_x g t true _)) refl refl
  named_peeks g t grammar.parameter h = kept types b x (named n) is_b is_x g t grammar.parameter _ refl refl (part types b x (named n) is_b is_x t (tt, tt, refl, tt) (λ sp e. part types b x (named n) is_b is_x t (tt, tt, refl, refl) (λ d e. ends types b x (named n) is_b is_x e)))
  named_peeks g t (grammar.more_parameters ps) h = alike types b x (named n) is_b is_x g t (grammar.more_parameters ps) _ refl refl refl
  named_peeks g t (grammar.behind_comma v ps) h = comma_peek types b x (named n) is_b is_x g t v ps refl refl
  named_peeks g t grammar.init h = taking types b x (named n) is_b is_x g grammar.init (by_plan types b (named n) is_b g t grammar.init _ refl (by_part types b g (grammar.level 12) _ (level_takes types b (named n) is_b g t 12)))
  named_peeks g t (grammar.inits is) h = alike types b x (named n) is_b is_x g t (grammar.inits is) _ refl refl refl
  named_peeks g t (grammar.behind_init_comma is) h = taking types b x (named n) is_b is_x g (grammar.behind_init_comma is) (by_plan types b (named n) is_b g t (grammar.behind_init_comma is) _ refl (by_part types b g grammar.init _ (by_plan types b (named n) is_b g t grammar.init _ refl (by_part types b g (grammar.level 12) _ (level_takes types b (named n) is_b g t 12)))))
  named_peeks g t grammar.declaration h = declaration_peek types b x (named n) is_b is_x g t
  named_peeks g t grammar.items h = taking types b x (named n) is_b is_x g grammar.items (by_plan types b (named n) is_b g t grammar.items _ refl (by_part types b g grammar.item _ (item_takes types b (named n) is_b g t)))
  named_peeks g t grammar.item h = taking types b x (named n) is_b is_x g grammar.item (item_takes types b (named n) is_b g t)
  named_peeks g t grammar.initial h = alike types b x (named n) is_b is_x g t grammar.initial _ refl refl refl
  named_peeks g t (grammar.declarations ds) h = nothing_at_b types b x (named n) is_b is_x g t (grammar.declarations ds) _ ds refl (part_typed types b x (named n) is_b is_x g t grammar.declaration _ _ refl (specifiers_typed types b x (named n) is_b is_x g t true _)) refl refl
  named_peeks g t (grammar.more_items is) h = alike types b x (named n) is_b is_x g t (grammar.more_items is) _ refl refl refl
  named_peeks g t grammar.statement h = taking types b x (named n) is_b is_x g grammar.statement (statement_takes types b (named n) is_b g t)
  named_peeks g t (grammar.behind_name v) h = kept types b x (named n) is_b is_x g t (grammar.behind_name v) _ refl refl (part types b x (named n) is_b is_x t (tt, tt, refl, tt) (λ e k. part types b x (named n) is_b is_x t (tt, tt, refl, tt) (λ o k. marked types b x (named n) is_b is_x t refl (λ z. ends types b x (named n) is_b is_x refl))))
  named_peeks g t grammar.else_part h = alike types b x (named n) is_b is_x g t grammar.else_part _ refl refl refl
  named_peeks g t grammar.optional_expression h = taking types b x (named n) is_b is_x g grammar.optional_expression (by_plan types b (named n) is_b g t grammar.optional_expression _ refl (by_part types b g (grammar.level 13) _ (level_takes types b (named n) is_b g t 13)))
  named_peeks g t (grammar.statements ss) h = taking types b x (named n) is_b is_x g (grammar.statements ss) (statements_take types b (named n) is_b ss g t)
  named_peeks g t grammar.external h = kept types b x (named n) is_b is_x g t grammar.external _ refl refl (part types b x (named n) is_b is_x t (tt, tt, refl, tt) (λ sp e. part types b x (named n) is_b is_x t (tt, tt, refl, tt) (λ r e. ends types b x (named n) is_b is_x refl)))
  named_peeks g t (grammar.external_items sp) h = taking types b x (named n) is_b is_x g (grammar.external_items sp) (by_plan types b (named n) is_b g t (grammar.external_items sp) _ refl (by_part types b g (grammar.declarator grammar.concrete) _ (direct_takes types b (named n) is_b g t)))
  named_peeks g t (grammar.behind_declarator sp d) h = kept types b x (named n) is_b is_x g t (grammar.behind_declarator sp d) _ refl refl (part types b x (named n) is_b is_x t (tt, tt, refl, tt) (λ v e. part types b x (named n) is_b is_x t (tt, tt, item_no_type d.behind v, tt) (λ is e. marked types b x (named n) is_b is_x t refl (λ z. ends types b x (named n) is_b is_x refl))))

module _ (types : List ℕ) (b x : Terminal) (is_b : IsThere types b starred) (is_x : x.sort ≡ tokens.basic tokens.float) where
  pub starred_peeks : (g : Context) → g.types ≡ types → (i : Part) → Fits i → Peek c_table (type_notes types) b x (at g i)
  starred_peeks g t (grammar.level k) h = taking types b x starred is_b is_x g (grammar.level k) (level_takes types b starred is_b g t k)
  starred_peeks g t (grammar.after k l) h = after_peek types b x starred is_b is_x g t k l h (which (stands_behind k l.unary (beginning starred)))
  starred_peeks g t (grammar.tail zero l) h = alike types b x starred is_b is_x g t (grammar.tail zero l) _ refl refl refl
  starred_peeks g t (grammar.tail (suc k) l) h = kept types b x starred is_b is_x g t (grammar.tail (suc k) l) _ refl refl (part types b x starred is_b is_x t (omega arith, omega arith, refl, tt) (λ o e. part types b x starred is_b is_x t (tt, tt, refl, tt) (λ p e. ends types b x starred is_b is_x refl)))
  starred_peeks g t (grammar.behind_open v) h = taking types b x starred is_b is_x g (grammar.behind_open v) (by_plan types b starred is_b g t (grammar.behind_open v) _ refl (by_part types b g (grammar.level 13) _ (level_takes types b starred is_b g t 13)))
  starred_peeks g t grammar.unary h = taking types b x starred is_b is_x g grammar.unary (unary_takes types b starred is_b g t)
  starred_peeks g t (grammar.behind_sizeof v) h = taking types b x starred is_b is_x g (grammar.behind_sizeof v) (by_plan types b starred is_b g t (grammar.behind_sizeof v) _ refl (by_part types b g grammar.unary _ (unary_takes types b starred is_b g t)))
  starred_peeks g t (grammar.inside_sizeof v w) h = taking types b x starred is_b is_x g (grammar.inside_sizeof v w) (by_plan types b starred is_b g t (grammar.inside_sizeof v w) _ refl (by_part types b g (grammar.level 13) _ (level_takes types b starred is_b g t 13)))
  starred_peeks g t grammar.primary h = alike types b x starred is_b is_x g t grammar.primary None refl refl (refl, t)
  starred_peeks g t (grammar.texts xs) h = alike types b x starred is_b is_x g t (grammar.texts xs) _ refl refl refl
  starred_peeks g t (grammar.suffixes f) h = alike types b x starred is_b is_x g t (grammar.suffixes f) _ refl refl refl
  starred_peeks g t grammar.arguments h = taking types b x starred is_b is_x g grammar.arguments (by_plan types b starred is_b g t grammar.arguments _ refl (by_part types b g (grammar.level 12) _ (level_takes types b starred is_b g t 12)))
  starred_peeks g t (grammar.more_arguments es) h = alike types b x starred is_b is_x g t (grammar.more_arguments es) _ refl refl refl
  starred_peeks g t grammar.type_name h = kept types b x starred is_b is_x g t grammar.type_name _ refl refl (part types b x starred is_b is_x t (tt, tt, refl, tt) (λ sp e. part types b x starred is_b is_x t (tt, tt, refl, refl) (λ d e. ends types b x starred is_b is_x e)))
  starred_peeks g t grammar.optional_specifiers h = absurd h
  starred_peeks g t (grammar.specifiers stores seen sp) h = specifiers_peek types b x starred is_b is_x g t stores seen sp refl (which (is_typed seen))
  starred_peeks g t (grammar.behind_struct v) h = alike types b x starred is_b is_x g t (grammar.behind_struct v) None refl refl (refl, t)
  starred_peeks g t (grammar.behind_enum v) h = alike types b x starred is_b is_x g t (grammar.behind_enum v) None refl refl (refl, t)
  starred_peeks g t (grammar.struct_body v w) h = alike types b x starred is_b is_x g t (grammar.struct_body v w) _ refl refl refl
  starred_peeks g t (grammar.enum_body v w) h = alike types b x starred is_b is_x g t (grammar.enum_body v w) _ refl refl refl
  starred_peeks g t grammar.member h = kept types b x starred is_b is_x g t grammar.member _ refl refl (part types b x starred is_b is_x t (tt, tt, refl, tt) (λ sp e. part types b x starred is_b is_x t (tt, tt, refl, refl) (λ d e. part types b x starred is_b is_x t (tt, tt, closed_no_type d.behind, tt) (λ is e. marked types b x starred is_b is_x t refl (λ z. ends types b x starred is_b is_x refl)))))
  starred_peeks g t grammar.enumerator h = alike types b x starred is_b is_x g t grammar.enumerator None refl refl (refl, t)
  starred_peeks g t grammar.value_of h = alike types b x starred is_b is_x g t grammar.value_of _ refl refl refl
  starred_peeks g t (grammar.members ds) h = nothing_at_b types b x starred is_b is_x g t (grammar.members ds) _ ds refl (part_typed types b x starred is_b is_x g t grammar.member _ _ refl (specifiers_typed types b x starred is_b is_x g t false _)) refl refl
  starred_peeks g t (grammar.member_items is) h = alike types b x starred is_b is_x g t (grammar.member_items is) _ refl refl refl
  starred_peeks g t (grammar.enumerators es) h = alike types b x starred is_b is_x g t (grammar.enumerators es) _ refl refl refl
  starred_peeks g t (grammar.qualifiers xs) h = alike types b x starred is_b is_x g t (grammar.qualifiers xs) _ refl refl refl
  starred_peeks g t (grammar.declarator grammar.concrete) h = taking types b x starred is_b is_x g (grammar.declarator grammar.concrete) (direct_takes types b starred is_b g t)
  starred_peeks g t (grammar.declarator grammar.abstract) h = taking types b x starred is_b is_x g (grammar.declarator grammar.abstract) (by_plan types b starred is_b g t (grammar.declarator grammar.abstract) _ refl (open_take refl))
  starred_peeks g t (grammar.declarator grammar.either) h = taking types b x starred is_b is_x g (grammar.declarator grammar.either) (by_plan types b starred is_b g t (grammar.declarator grammar.either) _ refl (open_take refl))
  starred_peeks g t (grammar.direct grammar.concrete) h = alike types b x starred is_b is_x g t (grammar.direct grammar.concrete) None refl refl (refl, t)
  starred_peeks g t (grammar.direct grammar.abstract) h = alike types b x starred is_b is_x g t (grammar.direct grammar.abstract) _ refl refl refl
  starred_peeks g t (grammar.direct grammar.either) h = alike types b x starred is_b is_x g t (grammar.direct grammar.either) _ refl refl refl
  starred_peeks g t (grammar.group grammar.concrete) h = taking types b x starred is_b is_x g (grammar.group grammar.concrete) (by_plan types b starred is_b g t (grammar.group grammar.concrete) _ refl (open_take refl))
  starred_peeks g t (grammar.group grammar.abstract) h = taking types b x starred is_b is_x g (grammar.group grammar.abstract) (by_plan types b starred is_b g t (grammar.group grammar.abstract) _ refl (open_take refl))
  starred_peeks g t (grammar.group grammar.either) h = taking types b x starred is_b is_x g (grammar.group grammar.either) (by_plan types b starred is_b g t (grammar.group grammar.either) _ refl (open_take refl))
  starred_peeks g t (grammar.behind_group grammar.concrete v) h = taking types b x starred is_b is_x g (grammar.behind_group grammar.concrete v) (by_plan types b starred is_b g t (grammar.behind_group grammar.concrete v) _ refl (by_part types b g (grammar.group grammar.concrete) _ (by_plan types b starred is_b g t (grammar.group grammar.concrete) _ refl (open_take refl))))
  starred_peeks g t (grammar.behind_group grammar.abstract v) h = taking types b x starred is_b is_x g (grammar.behind_group grammar.abstract v) (by_plan types b starred is_b g t (grammar.behind_group grammar.abstract v) _ refl (by_part types b g (grammar.group grammar.abstract) _ (by_plan types b starred is_b g t (grammar.group grammar.abstract) _ refl (open_take refl))))
  starred_peeks g t (grammar.behind_group grammar.either v) h = taking types b x starred is_b is_x g (grammar.behind_group grammar.either v) (by_plan types b starred is_b g t (grammar.behind_group grammar.either v) _ refl (by_part types b g (grammar.group grammar.either) _ (by_plan types b starred is_b g t (grammar.group grammar.either) _ refl (open_take refl))))
  starred_peeks g t (grammar.declarator_suffixes d) h = alike types b x starred is_b is_x g t (grammar.declarator_suffixes d) _ refl refl refl
  starred_peeks g t grammar.array_length h = taking types b x starred is_b is_x g grammar.array_length (by_plan types b starred is_b g t grammar.array_length _ refl (by_part types b g (grammar.level 11) _ (level_takes types b starred is_b g t 11)))
  starred_peeks g t grammar.parameters h = nothing_at_b types b x starred is_b is_x g t grammar.parameters _ _ refl (part_typed types b x starred is_b is_x g t grammar.parameter _ _ refl (specifiers_typed types b x starred is_b is_x g t true _)) refl refl
  starred_peeks g t grammar.parameter h = kept types b x starred is_b is_x g t grammar.parameter _ refl refl (part types b x starred is_b is_x t (tt, tt, refl, tt) (λ sp e. part types b x starred is_b is_x t (tt, tt, refl, refl) (λ d e. ends types b x starred is_b is_x e)))
  starred_peeks g t (grammar.more_parameters ps) h = alike types b x starred is_b is_x g t (grammar.more_parameters ps) _ refl refl refl
  starred_peeks g t (grammar.behind_comma v ps) h = comma_peek types b x starred is_b is_x g t v ps refl refl
  starred_peeks g t grammar.init h = taking types b x starred is_b is_x g grammar.init (by_plan types b starred is_b g t grammar.init _ refl (by_part types b g (grammar.level 12) _ (level_takes types b starred is_b g t 12)))
  starred_peeks g t (grammar.inits is) h = alike types b x starred is_b is_x g t (grammar.inits is) _ refl refl refl
  starred_peeks g t (grammar.behind_init_comma is) h = taking types b x starred is_b is_x g (grammar.behind_init_comma is) (by_plan types b starred is_b g t (grammar.behind_init_comma is) _ refl (by_part types b g grammar.init _ (by_plan types b starred is_b g t grammar.init _ refl (by_part types b g (grammar.level 12) _ (level_takes types b starred is_b g t 12)))))
  starred_peeks g t grammar.declaration h = declaration_peek types b x starred is_b is_x g t
  starred_peeks g t grammar.items h = taking types b x starred is_b is_x g grammar.items (by_plan types b starred is_b g t grammar.items _ refl (by_part types b g grammar.item _ (item_takes types b starred is_b g t)))
  starred_peeks g t grammar.item h = taking types b x starred is_b is_x g grammar.item (item_takes types b starred is_b g t)
  starred_peeks g t grammar.initial h = alike types b x starred is_b is_x g t grammar.initial _ refl refl refl
  starred_peeks g t (grammar.declarations ds) h = nothing_at_b types b x starred is_b is_x g t (grammar.declarations ds) _ ds refl (part_typed types b x starred is_b is_x g t grammar.declaration _ _ refl (specifiers_typed types b x starred is_b is_x g t true _)) refl refl
  starred_peeks g t (grammar.more_items is) h = alike types b x starred is_b is_x g t (grammar.more_items is) _ refl refl refl
  starred_peeks g t grammar.statement h = taking types b x starred is_b is_x g grammar.statement (statement_takes types b starred is_b g t)
  starred_peeks g t (grammar.behind_name v) h = kept types b x starred is_b is_x g t (grammar.behind_name v) _ refl refl (part types b x starred is_b is_x t (tt, tt, refl, tt) (λ e k. part types b x starred is_b is_x t (tt, tt, refl, tt) (λ o k. marked types b x starred is_b is_x t refl (λ z. ends types b x starred is_b is_x refl))))
  starred_peeks g t grammar.else_part h = alike types b x starred is_b is_x g t grammar.else_part _ refl refl refl
  starred_peeks g t grammar.optional_expression h = taking types b x starred is_b is_x g grammar.optional_expression (by_plan types b starred is_b g t grammar.optional_expression _ refl (by_part types b g (grammar.level 13) _ (level_takes types b starred is_b g t 13)))
  starred_peeks g t (grammar.statements ss) h = taking types b x starred is_b is_x g (grammar.statements ss) (statements_take types b starred is_b ss g t)
  starred_peeks g t grammar.external h = kept types b x starred is_b is_x g t grammar.external _ refl refl (part types b x starred is_b is_x t (tt, tt, refl, tt) (λ sp e. part types b x starred is_b is_x t (tt, tt, refl, tt) (λ r e. ends types b x starred is_b is_x refl)))
  starred_peeks g t (grammar.external_items sp) h = taking types b x starred is_b is_x g (grammar.external_items sp) (by_plan types b starred is_b g t (grammar.external_items sp) _ refl (by_part types b g (grammar.declarator grammar.concrete) _ (direct_takes types b starred is_b g t)))
  starred_peeks g t (grammar.behind_declarator sp d) h = kept types b x starred is_b is_x g t (grammar.behind_declarator sp d) _ refl refl (part types b x starred is_b is_x t (tt, tt, refl, tt) (λ v e. part types b x starred is_b is_x t (tt, tt, item_no_type d.behind v, tt) (λ is e. marked types b x starred is_b is_x t refl (λ z. ends types b x starred is_b is_x refl))))

module _ (types : List ℕ) (b x : Terminal) (is_b : IsThere types b opened) (is_x : x.sort ≡ tokens.basic tokens.float) where
  pub opened_peeks : (g : Context) → g.types ≡ types → (i : Part) → Fits i → Peek c_table (type_notes types) b x (at g i)
  opened_peeks g t (grammar.level k) h = taking types b x opened is_b is_x g (grammar.level k) (level_takes types b opened is_b g t k)
  opened_peeks g t (grammar.after k l) h = after_peek types b x opened is_b is_x g t k l h (which (stands_behind k l.unary (beginning opened)))
  opened_peeks g t (grammar.tail zero l) h = alike types b x opened is_b is_x g t (grammar.tail zero l) _ refl refl refl
  opened_peeks g t (grammar.tail (suc k) l) h = kept types b x opened is_b is_x g t (grammar.tail (suc k) l) _ refl refl (part types b x opened is_b is_x t (omega arith, omega arith, refl, tt) (λ o e. part types b x opened is_b is_x t (tt, tt, refl, tt) (λ p e. ends types b x opened is_b is_x refl)))
  opened_peeks g t (grammar.behind_open v) h = taking types b x opened is_b is_x g (grammar.behind_open v) (by_plan types b opened is_b g t (grammar.behind_open v) _ refl (by_part types b g (grammar.level 13) _ (level_takes types b opened is_b g t 13)))
  opened_peeks g t grammar.unary h = taking types b x opened is_b is_x g grammar.unary (unary_takes types b opened is_b g t)
  opened_peeks g t (grammar.behind_sizeof v) h = taking types b x opened is_b is_x g (grammar.behind_sizeof v) (by_plan types b opened is_b g t (grammar.behind_sizeof v) _ refl (open_take refl))
  opened_peeks g t (grammar.inside_sizeof v w) h = taking types b x opened is_b is_x g (grammar.inside_sizeof v w) (by_plan types b opened is_b g t (grammar.inside_sizeof v w) _ refl (by_part types b g (grammar.level 13) _ (level_takes types b opened is_b g t 13)))
  opened_peeks g t grammar.primary h = taking types b x opened is_b is_x g grammar.primary (by_plan types b opened is_b g t grammar.primary _ refl (open_take refl))
  opened_peeks g t (grammar.texts xs) h = alike types b x opened is_b is_x g t (grammar.texts xs) _ refl refl refl
  opened_peeks g t (grammar.suffixes f) h = taking types b x opened is_b is_x g (grammar.suffixes f) (by_plan types b opened is_b g t (grammar.suffixes f) _ refl (open_take refl))
  opened_peeks g t grammar.arguments h = taking types b x opened is_b is_x g grammar.arguments (by_plan types b opened is_b g t grammar.arguments _ refl (by_part types b g (grammar.level 12) _ (level_takes types b opened is_b g t 12)))
  opened_peeks g t (grammar.more_arguments es) h = alike types b x opened is_b is_x g t (grammar.more_arguments es) _ refl refl refl
  opened_peeks g t grammar.type_name h = kept types b x opened is_b is_x g t grammar.type_name _ refl refl (part types b x opened is_b is_x t (tt, tt, refl, tt) (λ sp e. part types b x opened is_b is_x t (tt, tt, refl, refl) (λ d e. ends types b x opened is_b is_x e)))
  opened_peeks g t grammar.optional_specifiers h = absurd h
  opened_peeks g t (grammar.specifiers stores seen sp) h = specifiers_peek types b x opened is_b is_x g t stores seen sp refl (which (is_typed seen))
  opened_peeks g t (grammar.behind_struct v) h = alike types b x opened is_b is_x g t (grammar.behind_struct v) None refl refl (refl, t)
  opened_peeks g t (grammar.behind_enum v) h = alike types b x opened is_b is_x g t (grammar.behind_enum v) None refl refl (refl, t)
  opened_peeks g t (grammar.struct_body v w) h = alike types b x opened is_b is_x g t (grammar.struct_body v w) _ refl refl refl
  opened_peeks g t (grammar.enum_body v w) h = alike types b x opened is_b is_x g t (grammar.enum_body v w) _ refl refl refl
  opened_peeks g t grammar.member h = kept types b x opened is_b is_x g t grammar.member _ refl refl (part types b x opened is_b is_x t (tt, tt, refl, tt) (λ sp e. part types b x opened is_b is_x t (tt, tt, refl, refl) (λ d e. part types b x opened is_b is_x t (tt, tt, closed_no_type d.behind, tt) (λ is e. marked types b x opened is_b is_x t refl (λ z. ends types b x opened is_b is_x refl)))))
  opened_peeks g t grammar.enumerator h = alike types b x opened is_b is_x g t grammar.enumerator None refl refl (refl, t)
  opened_peeks g t grammar.value_of h = alike types b x opened is_b is_x g t grammar.value_of _ refl refl refl
  opened_peeks g t (grammar.members ds) h = nothing_at_b types b x opened is_b is_x g t (grammar.members ds) _ ds refl (part_typed types b x opened is_b is_x g t grammar.member _ _ refl (specifiers_typed types b x opened is_b is_x g t false _)) refl refl
  opened_peeks g t (grammar.member_items is) h = alike types b x opened is_b is_x g t (grammar.member_items is) _ refl refl refl
  opened_peeks g t (grammar.enumerators es) h = alike types b x opened is_b is_x g t (grammar.enumerators es) _ refl refl refl
  opened_peeks g t (grammar.qualifiers xs) h = alike types b x opened is_b is_x g t (grammar.qualifiers xs) _ refl refl refl
  opened_peeks g t (grammar.declarator grammar.concrete) h = taking types b x opened is_b is_x g (grammar.declarator grammar.concrete) (direct_takes types b opened is_b g t)
  opened_peeks g t (grammar.declarator grammar.abstract) h = taking types b x opened is_b is_x g (grammar.declarator grammar.abstract) (by_plan types b opened is_b g t (grammar.declarator grammar.abstract) _ refl (by_part types b g (grammar.direct grammar.abstract) _ (by_plan types b opened is_b g t (grammar.direct grammar.abstract) _ refl (open_take refl))))
  opened_peeks g t (grammar.declarator grammar.either) h = taking types b x opened is_b is_x g (grammar.declarator grammar.either) (by_plan types b opened is_b g t (grammar.declarator grammar.either) _ refl (by_part types b g (grammar.direct grammar.either) _ (by_plan types b opened is_b g t (grammar.direct grammar.either) _ refl (open_take refl))))
  opened_peeks g t (grammar.direct grammar.concrete) h = taking types b x opened is_b is_x g (grammar.direct grammar.concrete) (by_plan types b opened is_b g t (grammar.direct grammar.concrete) _ refl (open_take refl))
  opened_peeks g t (grammar.direct grammar.abstract) h = taking types b x opened is_b is_x g (grammar.direct grammar.abstract) (by_plan types b opened is_b g t (grammar.direct grammar.abstract) _ refl (open_take refl))
  opened_peeks g t (grammar.direct grammar.either) h = taking types b x opened is_b is_x g (grammar.direct grammar.either) (by_plan types b opened is_b g t (grammar.direct grammar.either) _ refl (open_take refl))
  opened_peeks g t (grammar.group grammar.concrete) h = taking types b x opened is_b is_x g (grammar.group grammar.concrete) (by_plan types b opened is_b g t (grammar.group grammar.concrete) _ refl (open_take refl))
  opened_peeks g t (grammar.group grammar.abstract) h = taking types b x opened is_b is_x g (grammar.group grammar.abstract) (by_plan types b opened is_b g t (grammar.group grammar.abstract) _ refl (open_take refl))
  opened_peeks g t (grammar.group grammar.either) h = taking types b x opened is_b is_x g (grammar.group grammar.either) (by_plan types b opened is_b g t (grammar.group grammar.either) _ refl (open_take refl))
  opened_peeks g t (grammar.behind_group grammar.concrete v) h = taking types b x opened is_b is_x g (grammar.behind_group grammar.concrete v) (by_plan types b opened is_b g t (grammar.behind_group grammar.concrete v) _ refl (by_part types b g (grammar.group grammar.concrete) _ (by_plan types b opened is_b g t (grammar.group grammar.concrete) _ refl (open_take refl))))
  opened_peeks g t (grammar.behind_group grammar.abstract v) h = taking types b x opened is_b is_x g (grammar.behind_group grammar.abstract v) (by_plan types b opened is_b g t (grammar.behind_group grammar.abstract v) _ refl (by_part types b g (grammar.group grammar.abstract) _ (by_plan types b opened is_b g t (grammar.group grammar.abstract) _ refl (open_take refl))))
  opened_peeks g t (grammar.behind_group grammar.either v) h = taking types b x opened is_b is_x g (grammar.behind_group grammar.either v) (by_plan types b opened is_b g t (grammar.behind_group grammar.either v) _ refl (by_part types b g (grammar.group grammar.either) _ (by_plan types b opened is_b g t (grammar.group grammar.either) _ refl (open_take refl))))
  opened_peeks g t (grammar.declarator_suffixes d) h = taking types b x opened is_b is_x g (grammar.declarator_suffixes d) (by_plan types b opened is_b g t (grammar.declarator_suffixes d) _ refl (open_take refl))
  opened_peeks g t grammar.array_length h = taking types b x opened is_b is_x g grammar.array_length (by_plan types b opened is_b g t grammar.array_length _ refl (by_part types b g (grammar.level 11) _ (level_takes types b opened is_b g t 11)))
  opened_peeks g t grammar.parameters h = nothing_at_b types b x opened is_b is_x g t grammar.parameters _ _ refl (part_typed types b x opened is_b is_x g t grammar.parameter _ _ refl (specifiers_typed types b x opened is_b is_x g t true _)) refl refl
  opened_peeks g t grammar.parameter h = kept types b x opened is_b is_x g t grammar.parameter _ refl refl (part types b x opened is_b is_x t (tt, tt, refl, tt) (λ sp e. part types b x opened is_b is_x t (tt, tt, refl, refl) (λ d e. ends types b x opened is_b is_x e)))
  opened_peeks g t (grammar.more_parameters ps) h = alike types b x opened is_b is_x g t (grammar.more_parameters ps) _ refl refl refl
  opened_peeks g t (grammar.behind_comma v ps) h = comma_peek types b x opened is_b is_x g t v ps refl refl
  opened_peeks g t grammar.init h = taking types b x opened is_b is_x g grammar.init (by_plan types b opened is_b g t grammar.init _ refl (by_part types b g (grammar.level 12) _ (level_takes types b opened is_b g t 12)))
  opened_peeks g t (grammar.inits is) h = alike types b x opened is_b is_x g t (grammar.inits is) _ refl refl refl
  opened_peeks g t (grammar.behind_init_comma is) h = taking types b x opened is_b is_x g (grammar.behind_init_comma is) (by_plan types b opened is_b g t (grammar.behind_init_comma is) _ refl (by_part types b g grammar.init _ (by_plan types b opened is_b g t grammar.init _ refl (by_part types b g (grammar.level 12) _ (level_takes types b opened is_b g t 12)))))
  opened_peeks g t grammar.declaration h = declaration_peek types b x opened is_b is_x g t
  opened_peeks g t grammar.items h = taking types b x opened is_b is_x g grammar.items (by_plan types b opened is_b g t grammar.items _ refl (by_part types b g grammar.item _ (item_takes types b opened is_b g t)))
  opened_peeks g t grammar.item h = taking types b x opened is_b is_x g grammar.item (item_takes types b opened is_b g t)
  opened_peeks g t grammar.initial h = alike types b x opened is_b is_x g t grammar.initial _ refl refl refl
  opened_peeks g t (grammar.declarations ds) h = nothing_at_b types b x opened is_b is_x g t (grammar.declarations ds) _ ds refl (part_typed types b x opened is_b is_x g t grammar.declaration _ _ refl (specifiers_typed types b x opened is_b is_x g t true _)) refl refl
  opened_peeks g t (grammar.more_items is) h = alike types b x opened is_b is_x g t (grammar.more_items is) _ refl refl refl
  opened_peeks g t grammar.statement h = taking types b x opened is_b is_x g grammar.statement (statement_takes types b opened is_b g t)
  opened_peeks g t (grammar.behind_name v) h = kept types b x opened is_b is_x g t (grammar.behind_name v) _ refl refl (part types b x opened is_b is_x t (tt, tt, refl, tt) (λ e k. part types b x opened is_b is_x t (tt, tt, refl, tt) (λ o k. marked types b x opened is_b is_x t refl (λ z. ends types b x opened is_b is_x refl))))
  opened_peeks g t grammar.else_part h = alike types b x opened is_b is_x g t grammar.else_part _ refl refl refl
  opened_peeks g t grammar.optional_expression h = taking types b x opened is_b is_x g grammar.optional_expression (by_plan types b opened is_b g t grammar.optional_expression _ refl (by_part types b g (grammar.level 13) _ (level_takes types b opened is_b g t 13)))
  opened_peeks g t (grammar.statements ss) h = taking types b x opened is_b is_x g (grammar.statements ss) (statements_take types b opened is_b ss g t)
  opened_peeks g t grammar.external h = kept types b x opened is_b is_x g t grammar.external _ refl refl (part types b x opened is_b is_x t (tt, tt, refl, tt) (λ sp e. part types b x opened is_b is_x t (tt, tt, refl, tt) (λ r e. ends types b x opened is_b is_x refl)))
  opened_peeks g t (grammar.external_items sp) h = taking types b x opened is_b is_x g (grammar.external_items sp) (by_plan types b opened is_b g t (grammar.external_items sp) _ refl (by_part types b g (grammar.declarator grammar.concrete) _ (direct_takes types b opened is_b g t)))
  opened_peeks g t (grammar.behind_declarator sp d) h = kept types b x opened is_b is_x g t (grammar.behind_declarator sp d) _ refl refl (part types b x opened is_b is_x t (tt, tt, refl, tt) (λ v e. part types b x opened is_b is_x t (tt, tt, item_no_type d.behind v, tt) (λ is e. marked types b x opened is_b is_x t refl (λ z. ends types b x opened is_b is_x refl))))

pub types_peek : (types : List ℕ) (b x : Terminal) (j : Beginning) → IsThere types b j → x.sort ≡ tokens.basic tokens.float → (n : Ask syntax_trees) → types_at_token types n → Peek c_table (type_notes types) b x n
types_peek types b x (named n) is_b is_x (at g i) h = named_peeks types b x n is_b is_x g h.0 i h.1
types_peek types b x starred is_b is_x (at g i) h = starred_peeks types b x is_b is_x g h.0 i h.1
types_peek types b x opened is_b is_x (at g i) h = opened_peeks types b x is_b is_x g h.0 i h.1
types_peek types b x j is_b is_x (unit us) h = absurd h
types_peek types b x j is_b is_x whole h = absurd h
