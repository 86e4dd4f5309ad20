-- C90's table at work on small texts, over trees that say nothing: where each fails, and what is wanted there.
use Rattle.std.proofs.Common.{List, [], ◌∷◌, ◌++◌, refl}
use Rattle.std.specs.Prelude.{map}
use Rattle.sp_parse_grammar.specs.Table.{ask, Reads, Want, wanted, asked, Fails}
use Rattle.sp_parse_grammar.specs.CTokens.{Sort, name, constant, basic, mark, void, int, long, opening, closing, bracket, unbracket, brace, unbrace, semicolon, colon, comma, equal, additive, if_word, switch, case, while, for, goto, return, struct, enum, typedef, end}
use Rattle.sp_parse_grammar.specs.CTrees.{TokenOf}
use Rattle.sp_parse_grammar.specs.CTable.{Ask, Answer, at, whole, only, outside, in_function, level, primary, direct, concrete, enumerator, plainly, for_name, for_parameter, for_external, c_symbols, c90}
use Rattle.sp_parse_grammar.specs.NoTrees.{no_trees}
use Rattle.sp_parse_grammar.proofs.Running.{run, is_read, is_fault}

abbrev text : List Sort → List (TokenOf no_trees)
text ss = map (λ s. let x : TokenOf no_trees = record { sort = s; what = s; right = refl } in x) ss

-- the ask is read from the first sorts, and the others are left
abbrev IsRead : Ask no_trees → List Sort → List Sort → Type 0
IsRead n front rest = (o : Answer n) × Reads (c90 no_trees) n (ask n) (text (front ++ rest)) o (text rest)

-- the ask fails behind the first sorts, where this is wanted
abbrev IsFault : Ask no_trees → List Sort → List Sort → Want (c_symbols no_trees) → Type 0
IsFault n front rest f = Fails (c90 no_trees) n (ask n) (text (front ++ rest)) f (text rest)

-- int a;
declaration_read : IsRead whole (basic int ∷ name 0 ∷ mark semicolon ∷ mark end ∷ []) []
declaration_read = is_read (run (c90 no_trees) 60 (ask whole) _) refl

-- int
declarator_wanted : IsFault whole (basic int ∷ []) (mark end ∷ []) (asked (at (outside []) (direct concrete)))
declarator_wanted = is_fault (run (c90 no_trees) 60 (ask whole) _) (refl, refl)

-- a;
end_wanted : IsFault whole [] (name 0 ∷ mark semicolon ∷ mark end ∷ []) (wanted (only (outside []) for_external end))
end_wanted = is_fault (run (c90 no_trees) 60 (ask whole) _) (refl, refl)

-- int a
semicolon_wanted : IsFault whole (basic int ∷ name 0 ∷ []) (mark end ∷ []) (wanted (only (outside []) plainly semicolon))
semicolon_wanted = is_fault (run (c90 no_trees) 60 (ask whole) _) (refl, refl)

-- int a[;
bracket_wanted : IsFault whole (basic int ∷ name 0 ∷ mark bracket ∷ []) (mark semicolon ∷ mark end ∷ []) (wanted (only (outside []) for_name unbracket))
bracket_wanted = is_fault (run (c90 no_trees) 60 (ask whole) _) (refl, refl)

-- int f(a);
parameter_wanted : IsFault whole (basic int ∷ name 0 ∷ mark opening ∷ []) (name 1 ∷ mark closing ∷ mark semicolon ∷ mark end ∷ []) (wanted (only (outside []) for_parameter closing))
parameter_wanted = is_fault (run (c90 no_trees) 60 (ask whole) _) (refl, refl)

-- long long a;
one_long : IsFault whole (basic long ∷ []) (basic long ∷ name 0 ∷ mark semicolon ∷ mark end ∷ []) (asked (at (outside []) (direct concrete)))
one_long = is_fault (run (c90 no_trees) 60 (ask whole) _) (refl, refl)

-- enum{};
enumerator_wanted : IsFault whole (mark enum ∷ mark brace ∷ []) (mark unbrace ∷ mark semicolon ∷ mark end ∷ []) (asked (at (outside []) enumerator))
enumerator_wanted = is_fault (run (c90 no_trees) 60 (ask whole) _) (refl, refl)

-- typedef int t;int f(void){t=1;}
type_name_declares : IsFault whole (mark typedef ∷ basic int ∷ name 7 ∷ mark semicolon ∷ basic int ∷ name 0 ∷ mark opening ∷ basic void ∷ mark closing ∷ mark brace ∷ name 7 ∷ []) (mark equal ∷ constant ∷ mark semicolon ∷ mark unbrace ∷ mark end ∷ []) (wanted (only (in_function (outside (7 ∷ []))) for_name semicolon))
type_name_declares = is_fault (run (c90 no_trees) 100 (ask whole) _) (refl, refl)

-- 1+;
operand_wanted : IsFault (at (outside []) (level 13)) (constant ∷ mark additive ∷ []) (mark semicolon ∷ mark end ∷ []) (asked (at (outside []) primary))
operand_wanted = is_fault (run (c90 no_trees) 60 (ask (at (outside []) (level 13))) _) (refl, refl)

-- the sorts of a function's text up to its body, with these behind them
abbrev in_body : List Sort → List Sort
in_body ss = basic int ∷ name 0 ∷ mark opening ∷ basic void ∷ mark closing ∷ mark brace ∷ ss

-- int f(void){switch(1){case 1,2:;}}
case_is_constant : IsFault whole (in_body (mark switch ∷ mark opening ∷ constant ∷ mark closing ∷ mark brace ∷ mark case ∷ constant ∷ [])) (mark comma ∷ constant ∷ mark colon ∷ mark semicolon ∷ mark unbrace ∷ mark unbrace ∷ mark end ∷ []) (wanted (only (in_function (outside [])) plainly colon))
case_is_constant = is_fault (run (c90 no_trees) 100 (ask whole) _) (refl, refl)

-- int f(void){for(a:b:c);}
for_wants_semicolon : IsFault whole (in_body (mark for ∷ mark opening ∷ name 1 ∷ [])) (mark colon ∷ name 2 ∷ mark colon ∷ name 3 ∷ mark closing ∷ mark semicolon ∷ mark unbrace ∷ mark end ∷ []) (wanted (only (in_function (outside [])) plainly semicolon))
for_wants_semicolon = is_fault (run (c90 no_trees) 100 (ask whole) _) (refl, refl)

-- int f(void){for(a=1,b;a,b;a,b)if(a,b)while(a,b)switch(a,b)return a,b;}
commas_in_statements : IsRead whole (in_body (mark for ∷ mark opening ∷ name 1 ∷ mark equal ∷ constant ∷ mark comma ∷ name 2 ∷ mark semicolon ∷ name 1 ∷ mark comma ∷ name 2 ∷ mark semicolon ∷ name 1 ∷ mark comma ∷ name 2 ∷ mark closing ∷ mark if_word ∷ mark opening ∷ name 1 ∷ mark comma ∷ name 2 ∷ mark closing ∷ mark while ∷ mark opening ∷ name 1 ∷ mark comma ∷ name 2 ∷ mark closing ∷ mark switch ∷ mark opening ∷ name 1 ∷ mark comma ∷ name 2 ∷ mark closing ∷ mark return ∷ name 1 ∷ mark comma ∷ name 2 ∷ mark semicolon ∷ mark unbrace ∷ mark end ∷ [])) []
commas_in_statements = is_read (run (c90 no_trees) 160 (ask whole) _) refl

-- int f(void){{int a,b;{;}}goto a;}
blocks_nest : IsRead whole (in_body (mark brace ∷ basic int ∷ name 1 ∷ mark comma ∷ name 2 ∷ mark semicolon ∷ mark brace ∷ mark semicolon ∷ mark unbrace ∷ mark unbrace ∷ mark goto ∷ name 1 ∷ mark semicolon ∷ mark unbrace ∷ mark end ∷ [])) []
blocks_nest = is_read (run (c90 no_trees) 100 (ask whole) _) refl

-- int;struct s;int x={{1},{2,},};
braces_nest : IsRead whole (basic int ∷ mark semicolon ∷ mark struct ∷ name 1 ∷ mark semicolon ∷ basic int ∷ name 0 ∷ mark equal ∷ mark brace ∷ mark brace ∷ constant ∷ mark unbrace ∷ mark comma ∷ mark brace ∷ constant ∷ mark comma ∷ mark unbrace ∷ mark comma ∷ mark unbrace ∷ mark semicolon ∷ mark end ∷ []) []
braces_nest = is_read (run (c90 no_trees) 100 (ask whole) _) refl

-- int a;int f(void){a=1;}
name_stays_ordinary : IsRead whole (basic int ∷ name 1 ∷ mark semicolon ∷ in_body (name 1 ∷ mark equal ∷ constant ∷ mark semicolon ∷ mark unbrace ∷ mark end ∷ [])) []
name_stays_ordinary = is_read (run (c90 no_trees) 100 (ask whole) _) refl
