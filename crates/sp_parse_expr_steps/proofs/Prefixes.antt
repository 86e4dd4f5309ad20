-- Which production of a unary expression the first token chooses.
use Rattle.std.proofs.Common.{◌≡◌, true, false, Some, refl}
use Rattle.sp_parse_grammar.specs.CTokens as tokens
use Rattle.sp_parse_grammar.specs.CTokens.{Sort, is_mark}
use Rattle.sp_parse_grammar.specs.CTable as grammar
use Rattle.sp_parse_grammar.specs.CTable.{Context, plan, next, get}
use Rattle.sp_parse_grammar.specs.Table.{done}
use Rattle.sp_parse_tokens.specs.Sorts.{Terminal}
use Rattle.sp_parse_tokens.specs.SyntaxTrees.{syntax_trees}
use Rattle.sp_parse_expr_steps.specs.Reading.{is_prefix}

pub sizeof_is : (s : Sort) → is_mark tokens.sizeof s ≡ true → s ≡ tokens.mark tokens.sizeof
sizeof_is (tokens.mark tokens.sizeof) e = refl
sizeof_is _ e = absurd cc

pub step_is : (s : Sort) → is_mark tokens.step s ≡ true → s ≡ tokens.mark tokens.step
step_is (tokens.mark tokens.step) e = refl
step_is _ e = absurd cc

-- a prefix that is neither `sizeof` nor a step stands before a cast
pub prefix_chosen : (g : Context) (x : Terminal) (s : Sort) → is_prefix s ≡ true → is_mark tokens.sizeof s ≡ false → is_mark tokens.step s ≡ false → plan {t = syntax_trees} g grammar.unary x s ≡ Some (next (λ y. get g (grammar.level 0) (λ o. done (syntax_trees.prefix x o.tree))))
prefix_chosen g x (tokens.mark tokens.sizeof) p a b = absurd cc
prefix_chosen g x (tokens.mark tokens.step) p a b = absurd cc
prefix_chosen g x (tokens.mark tokens.star) p a b = refl
prefix_chosen g x (tokens.mark tokens.ampersand) p a b = refl
prefix_chosen g x (tokens.mark tokens.additive) p a b = refl
prefix_chosen g x (tokens.mark tokens.tilde) p a b = refl
prefix_chosen g x _ p a b = absurd cc

pub primary_chosen : (g : Context) (x : Terminal) (s : Sort) → is_prefix s ≡ false → plan {t = syntax_trees} g grammar.unary x s ≡ Some (get g grammar.primary (λ e. get g (grammar.suffixes e) (λ f. done f)))
primary_chosen g x (tokens.mark tokens.sizeof) p = absurd cc
primary_chosen g x (tokens.mark tokens.step) p = absurd cc
primary_chosen g x (tokens.mark tokens.star) p = absurd cc
primary_chosen g x (tokens.mark tokens.ampersand) p = absurd cc
primary_chosen g x (tokens.mark tokens.additive) p = absurd cc
primary_chosen g x (tokens.mark tokens.tilde) p = absurd cc
primary_chosen g x _ p = refl
