-- The grammar of C90 tried on small texts: how many tokens are read, or where it fails with which kind; and the trees of statements.
use Rattle.std.proofs.Common.{◌≡◌, ℕ, zero, suc, false, List, [], ◌∷◌, Some, None, refl}
use Rattle.std.specs.Prelude.{length, map, ◌-◌, take as first_of_list, if◌then◌else◌}
use Rattle.sp_tree.specs.declared.fault.FaultKind.{FaultKind}
use Rattle.sp_tree.specs.declared.fault.FaultKind.TheVariants.{UnexpectedToken, OldStyleParameters, ImplicitInt, VariadicDefinition, BitField, GnuWord, TypedefAsOrdinaryName, LongLong}
use Rattle.sp_tree.specs.declared.token.Keyword.TheVariants as words
use Rattle.sp_tree.specs.declared.fault.Place.{Place}
use Rattle.sp_tree.specs.declared.token.Kind.{Kind}
use Rattle.sp_tree.specs.declared.token.Kind.TheVariants.{Name, Word, Number, Text, Mark, End}
use Rattle.sp_tree.specs.declared.token.Punct.TheVariants as puncts
use Rattle.sp_tree.specs.declared.token.Token.{Token}
use Rattle.sp_parse_grammar.specs.Table.{Plan, done, take, call, ask, wanted, asked}
use Rattle.sp_parse_grammar.specs.CTable as grammar
use Rattle.sp_parse_grammar.specs.CTable.{Ask, Answer, at, outside, whole, c_symbols, accepts}
use Rattle.sp_parse_trees.specs.Syntax.{Expression, expression, name, some_expression, basic, no_specifiers, next_specifier, declarator, declared, function, no_params, no_declarations}
use Rattle.sp_parse_trees.specs.Syntax.{number as constant, Statement, statement, label, case_label, default_label, block, empty, of, if_else, switch_on, while_loop, do_loop, for_loop, goto_name, continue_loop, break_out, return_value, no_statement, some_statement, Statements, no_statements, next_statement, definition, semicolon}
use Rattle.sp_parse_tokens.specs.Sorts.{Terminal, c_tokens, nowhere, spare_number}
use Rattle.sp_parse_tokens.specs.SyntaxTrees.{syntax_trees, c_table}
use Rattle.sp_parse_tokens.specs.Faults.{Wanted, fault_of}
use Rattle.sp_parse_laws.specs.Answers.{expression_ask, type_name_ask, specifiers_ask, declarator_ask}

-- What comes of reading: an answer and what is left, a fault, or too many steps.
data Outcome (m : Ask syntax_trees) : Type 0 where
  read : Answer m → List Terminal → Outcome m
  fault : Wanted → List Terminal → Outcome m
  unknown : Outcome m

abbrev run : {m : Ask syntax_trees} → ℕ → Plan (c_symbols syntax_trees) m → List Terminal → Outcome m
run zero p xs = unknown
run (suc f) (done o) xs = read o xs
run (suc f) (take c k) [] = unknown
run (suc f) (take c k) (x ∷ xs) = if accepts c x then run f (k x) xs else fault (wanted c) (x ∷ xs)
run (suc f) (call n k) [] = unknown
run (suc f) (call n k) (x ∷ xs) = elim (c_table.predict n x) [
  | None ↦ fault (asked n) (x ∷ xs)
  | Some q ↦ elim (run f q (x ∷ xs)) [ read a ys ↦ run f (k a) ys | fault w ys ↦ fault w ys | unknown ↦ unknown ]
]

-- the number of tokens read and no fault, or those before the failing one and its kind
data Told : Type 0 where
  reads : ℕ → Told
  fails : FaultKind → ℕ → Told
  nothing : Told

abbrev told_of : (n : Ask syntax_trees) → List Token → Outcome n → Told
told_of n tokens (read a xs) = reads (length tokens - length xs)
told_of n tokens (fault w []) = nothing
told_of n tokens (fault w (x ∷ xs)) = fails (fault_of w (first_of_list (length tokens - length (x ∷ xs)) tokens) x.what) (length tokens - length (x ∷ xs))
told_of n tokens unknown = nothing

abbrev text : List Kind → List Token
text ks = map (λ k. record { kind = k; place = nowhere }) ks

abbrev tell : Ask syntax_trees → List Kind → Told
tell n ks = told_of n (text ks) (run 600 (ask n) (c_tokens (text ks)))

abbrev number : Kind
number = Number spare_number

-- int a;
row_1 : tell whole (Word words.Int ∷ Name 0 ∷ Mark puncts.Semicolon ∷ End ∷ []) ≡ reads 4
row_1 = refl

-- the empty text
row_2 : tell whole (End ∷ []) ≡ reads 1
row_2 = refl

-- ;;
row_3 : tell whole (Mark puncts.Semicolon ∷ Mark puncts.Semicolon ∷ End ∷ []) ≡ reads 3
row_3 = refl

-- int f(a)int a;{return a;}
row_4 : tell whole (Word words.Int ∷ Name 0 ∷ Mark puncts.LeftParenthesis ∷ Name 1 ∷ Mark puncts.RightParenthesis ∷ Word words.Int ∷ Name 1 ∷ Mark puncts.Semicolon ∷ Mark puncts.LeftBrace ∷ Word words.Return ∷ Name 1 ∷ Mark puncts.Semicolon ∷ Mark puncts.RightBrace ∷ End ∷ []) ≡ fails OldStyleParameters 3
row_4 = refl

-- f(void){return 0;}
row_5 : tell whole (Name 0 ∷ Mark puncts.LeftParenthesis ∷ Word words.Void ∷ Mark puncts.RightParenthesis ∷ Mark puncts.LeftBrace ∷ Word words.Return ∷ number ∷ Mark puncts.Semicolon ∷ Mark puncts.RightBrace ∷ End ∷ []) ≡ fails ImplicitInt 0
row_5 = refl

-- int f(int n,...){return n;}
row_6 : tell whole (Word words.Int ∷ Name 0 ∷ Mark puncts.LeftParenthesis ∷ Word words.Int ∷ Name 1 ∷ Mark puncts.Comma ∷ Mark puncts.Ellipsis ∷ Mark puncts.RightParenthesis ∷ Mark puncts.LeftBrace ∷ Word words.Return ∷ Name 1 ∷ Mark puncts.Semicolon ∷ Mark puncts.RightBrace ∷ End ∷ []) ≡ fails VariadicDefinition 8
row_6 = refl

-- struct s{int a:3;};
row_7 : tell whole (Word words.Struct ∷ Name 0 ∷ Mark puncts.LeftBrace ∷ Word words.Int ∷ Name 1 ∷ Mark puncts.Colon ∷ number ∷ Mark puncts.Semicolon ∷ Mark puncts.RightBrace ∷ Mark puncts.Semicolon ∷ End ∷ []) ≡ fails BitField 5
row_7 = refl

-- int main(void){return ({1;});}
row_8 : tell whole (Word words.Int ∷ Name 0 ∷ Mark puncts.LeftParenthesis ∷ Word words.Void ∷ Mark puncts.RightParenthesis ∷ Mark puncts.LeftBrace ∷ Word words.Return ∷ Mark puncts.LeftParenthesis ∷ Mark puncts.LeftBrace ∷ number ∷ Mark puncts.Semicolon ∷ Mark puncts.RightBrace ∷ Mark puncts.RightParenthesis ∷ Mark puncts.Semicolon ∷ Mark puncts.RightBrace ∷ End ∷ []) ≡ fails GnuWord 8
row_8 = refl

-- typedef int T;int main(void){int T;}
row_9 : tell whole (Word words.Typedef ∷ Word words.Int ∷ Name 0 ∷ Mark puncts.Semicolon ∷ Word words.Int ∷ Name 1 ∷ Mark puncts.LeftParenthesis ∷ Word words.Void ∷ Mark puncts.RightParenthesis ∷ Mark puncts.LeftBrace ∷ Word words.Int ∷ Name 0 ∷ Mark puncts.Semicolon ∷ Mark puncts.RightBrace ∷ End ∷ []) ≡ fails TypedefAsOrdinaryName 11
row_9 = refl

-- typedef int T;int main(void){;T x;}
row_10 : tell whole (Word words.Typedef ∷ Word words.Int ∷ Name 0 ∷ Mark puncts.Semicolon ∷ Word words.Int ∷ Name 1 ∷ Mark puncts.LeftParenthesis ∷ Word words.Void ∷ Mark puncts.RightParenthesis ∷ Mark puncts.LeftBrace ∷ Mark puncts.Semicolon ∷ Name 0 ∷ Name 2 ∷ Mark puncts.Semicolon ∷ Mark puncts.RightBrace ∷ End ∷ []) ≡ fails TypedefAsOrdinaryName 11
row_10 = refl

-- int main(void){typedef int T;}
row_11 : tell whole (Word words.Int ∷ Name 0 ∷ Mark puncts.LeftParenthesis ∷ Word words.Void ∷ Mark puncts.RightParenthesis ∷ Mark puncts.LeftBrace ∷ Word words.Typedef ∷ Word words.Int ∷ Name 1 ∷ Mark puncts.Semicolon ∷ Mark puncts.RightBrace ∷ End ∷ []) ≡ fails TypedefAsOrdinaryName 6
row_11 = refl

-- long long x;
row_12 : tell whole (Word words.Long ∷ Word words.Long ∷ Name 0 ∷ Mark puncts.Semicolon ∷ End ∷ []) ≡ fails LongLong 1
row_12 = refl

-- long int long x;
row_13 : tell whole (Word words.Long ∷ Word words.Int ∷ Word words.Long ∷ Name 0 ∷ Mark puncts.Semicolon ∷ End ∷ []) ≡ fails LongLong 2
row_13 = refl

-- int main(void){long const long x;}
row_14 : tell whole (Word words.Int ∷ Name 0 ∷ Mark puncts.LeftParenthesis ∷ Word words.Void ∷ Mark puncts.RightParenthesis ∷ Mark puncts.LeftBrace ∷ Word words.Long ∷ Word words.Const ∷ Word words.Long ∷ Name 1 ∷ Mark puncts.Semicolon ∷ Mark puncts.RightBrace ∷ End ∷ []) ≡ fails LongLong 8
row_14 = refl

-- int f(long long x);
row_15 : tell whole (Word words.Int ∷ Name 0 ∷ Mark puncts.LeftParenthesis ∷ Word words.Long ∷ Word words.Long ∷ Name 1 ∷ Mark puncts.RightParenthesis ∷ Mark puncts.Semicolon ∷ End ∷ []) ≡ fails LongLong 4
row_15 = refl

-- int x=(long long)1;
row_16 : tell whole (Word words.Int ∷ Name 0 ∷ Mark puncts.Assign ∷ Mark puncts.LeftParenthesis ∷ Word words.Long ∷ Word words.Long ∷ Mark puncts.RightParenthesis ∷ number ∷ Mark puncts.Semicolon ∷ End ∷ []) ≡ fails LongLong 5
row_16 = refl

-- struct s{long long a;};
row_17 : tell whole (Word words.Struct ∷ Name 0 ∷ Mark puncts.LeftBrace ∷ Word words.Long ∷ Word words.Long ∷ Name 1 ∷ Mark puncts.Semicolon ∷ Mark puncts.RightBrace ∷ Mark puncts.Semicolon ∷ End ∷ []) ≡ fails LongLong 4
row_17 = refl

-- int main(void){return 0
row_18 : tell whole (Word words.Int ∷ Name 0 ∷ Mark puncts.LeftParenthesis ∷ Word words.Void ∷ Mark puncts.RightParenthesis ∷ Mark puncts.LeftBrace ∷ Word words.Return ∷ number ∷ End ∷ []) ≡ fails UnexpectedToken 8
row_18 = refl

-- int f(int a,b);
row_19 : tell whole (Word words.Int ∷ Name 0 ∷ Mark puncts.LeftParenthesis ∷ Word words.Int ∷ Name 1 ∷ Mark puncts.Comma ∷ Name 2 ∷ Mark puncts.RightParenthesis ∷ Mark puncts.Semicolon ∷ End ∷ []) ≡ fails OldStyleParameters 6
row_19 = refl

-- int f(const a);
row_20 : tell whole (Word words.Int ∷ Name 0 ∷ Mark puncts.LeftParenthesis ∷ Word words.Const ∷ Name 1 ∷ Mark puncts.RightParenthesis ∷ Mark puncts.Semicolon ∷ End ∷ []) ≡ fails ImplicitInt 4
row_20 = refl

-- int f(*a);
row_21 : tell whole (Word words.Int ∷ Name 0 ∷ Mark puncts.LeftParenthesis ∷ Mark puncts.Star ∷ Name 1 ∷ Mark puncts.RightParenthesis ∷ Mark puncts.Semicolon ∷ End ∷ []) ≡ fails ImplicitInt 3
row_21 = refl

-- int f((a));
row_22 : tell whole (Word words.Int ∷ Name 0 ∷ Mark puncts.LeftParenthesis ∷ Mark puncts.LeftParenthesis ∷ Name 1 ∷ Mark puncts.RightParenthesis ∷ Mark puncts.RightParenthesis ∷ Mark puncts.Semicolon ∷ End ∷ []) ≡ fails ImplicitInt 3
row_22 = refl

-- const x;
row_23 : tell whole (Word words.Const ∷ Name 0 ∷ Mark puncts.Semicolon ∷ End ∷ []) ≡ fails ImplicitInt 1
row_23 = refl

-- static *x;
row_24 : tell whole (Word words.Static ∷ Mark puncts.Star ∷ Name 0 ∷ Mark puncts.Semicolon ∷ End ∷ []) ≡ fails ImplicitInt 1
row_24 = refl

-- *x;
row_25 : tell whole (Mark puncts.Star ∷ Name 0 ∷ Mark puncts.Semicolon ∷ End ∷ []) ≡ fails ImplicitInt 0
row_25 = refl

-- (x);
row_26 : tell whole (Mark puncts.LeftParenthesis ∷ Name 0 ∷ Mark puncts.RightParenthesis ∷ Mark puncts.Semicolon ∷ End ∷ []) ≡ fails ImplicitInt 0
row_26 = refl

-- static [3];
row_27 : tell whole (Word words.Static ∷ Mark puncts.LeftBracket ∷ number ∷ Mark puncts.RightBracket ∷ Mark puncts.Semicolon ∷ End ∷ []) ≡ fails UnexpectedToken 1
row_27 = refl

-- int x;y;
row_28 : tell whole (Word words.Int ∷ Name 0 ∷ Mark puncts.Semicolon ∷ Name 1 ∷ Mark puncts.Semicolon ∷ End ∷ []) ≡ fails ImplicitInt 3
row_28 = refl

-- struct s{x;};
row_29 : tell whole (Word words.Struct ∷ Name 0 ∷ Mark puncts.LeftBrace ∷ Name 1 ∷ Mark puncts.Semicolon ∷ Mark puncts.RightBrace ∷ Mark puncts.Semicolon ∷ End ∷ []) ≡ fails ImplicitInt 3
row_29 = refl

-- struct s{int a;b;};
row_30 : tell whole (Word words.Struct ∷ Name 0 ∷ Mark puncts.LeftBrace ∷ Word words.Int ∷ Name 1 ∷ Mark puncts.Semicolon ∷ Name 2 ∷ Mark puncts.Semicolon ∷ Mark puncts.RightBrace ∷ Mark puncts.Semicolon ∷ End ∷ []) ≡ fails ImplicitInt 6
row_30 = refl

-- int main(void){static x;}
row_31 : tell whole (Word words.Int ∷ Name 0 ∷ Mark puncts.LeftParenthesis ∷ Word words.Void ∷ Mark puncts.RightParenthesis ∷ Mark puncts.LeftBrace ∷ Word words.Static ∷ Name 1 ∷ Mark puncts.Semicolon ∷ Mark puncts.RightBrace ∷ End ∷ []) ≡ fails ImplicitInt 7
row_31 = refl

-- int x=sizeof(int(a));
row_32 : tell whole (Word words.Int ∷ Name 0 ∷ Mark puncts.Assign ∷ Word words.Sizeof ∷ Mark puncts.LeftParenthesis ∷ Word words.Int ∷ Mark puncts.LeftParenthesis ∷ Name 1 ∷ Mark puncts.RightParenthesis ∷ Mark puncts.RightParenthesis ∷ Mark puncts.Semicolon ∷ End ∷ []) ≡ fails OldStyleParameters 7
row_32 = refl

-- int x=sizeof(int((a)));
row_33 : tell whole (Word words.Int ∷ Name 0 ∷ Mark puncts.Assign ∷ Word words.Sizeof ∷ Mark puncts.LeftParenthesis ∷ Word words.Int ∷ Mark puncts.LeftParenthesis ∷ Mark puncts.LeftParenthesis ∷ Name 1 ∷ Mark puncts.RightParenthesis ∷ Mark puncts.RightParenthesis ∷ Mark puncts.RightParenthesis ∷ Mark puncts.Semicolon ∷ End ∷ []) ≡ fails OldStyleParameters 8
row_33 = refl

-- int x=sizeof(int a);
row_34 : tell whole (Word words.Int ∷ Name 0 ∷ Mark puncts.Assign ∷ Word words.Sizeof ∷ Mark puncts.LeftParenthesis ∷ Word words.Int ∷ Name 1 ∷ Mark puncts.RightParenthesis ∷ Mark puncts.Semicolon ∷ End ∷ []) ≡ fails UnexpectedToken 6
row_34 = refl

-- int x=sizeof(const a);
row_35 : tell whole (Word words.Int ∷ Name 0 ∷ Mark puncts.Assign ∷ Word words.Sizeof ∷ Mark puncts.LeftParenthesis ∷ Word words.Const ∷ Name 1 ∷ Mark puncts.RightParenthesis ∷ Mark puncts.Semicolon ∷ End ∷ []) ≡ fails ImplicitInt 6
row_35 = refl

-- int a,f(int,...){
row_36 : tell whole (Word words.Int ∷ Name 0 ∷ Mark puncts.Comma ∷ Name 1 ∷ Mark puncts.LeftParenthesis ∷ Word words.Int ∷ Mark puncts.Comma ∷ Mark puncts.Ellipsis ∷ Mark puncts.RightParenthesis ∷ Mark puncts.LeftBrace ∷ End ∷ []) ≡ fails VariadicDefinition 9
row_36 = refl

-- int main(void){int f(int,...){
row_37 : tell whole (Word words.Int ∷ Name 0 ∷ Mark puncts.LeftParenthesis ∷ Word words.Void ∷ Mark puncts.RightParenthesis ∷ Mark puncts.LeftBrace ∷ Word words.Int ∷ Name 1 ∷ Mark puncts.LeftParenthesis ∷ Word words.Int ∷ Mark puncts.Comma ∷ Mark puncts.Ellipsis ∷ Mark puncts.RightParenthesis ∷ Mark puncts.LeftBrace ∷ End ∷ []) ≡ fails VariadicDefinition 13
row_37 = refl

-- int x=sizeof(int(int,...){
row_38 : tell whole (Word words.Int ∷ Name 0 ∷ Mark puncts.Assign ∷ Word words.Sizeof ∷ Mark puncts.LeftParenthesis ∷ Word words.Int ∷ Mark puncts.LeftParenthesis ∷ Word words.Int ∷ Mark puncts.Comma ∷ Mark puncts.Ellipsis ∷ Mark puncts.RightParenthesis ∷ Mark puncts.LeftBrace ∷ End ∷ []) ≡ fails VariadicDefinition 11
row_38 = refl

-- int (*f)(int,...){;}
row_39 : tell whole (Word words.Int ∷ Mark puncts.LeftParenthesis ∷ Mark puncts.Star ∷ Name 0 ∷ Mark puncts.RightParenthesis ∷ Mark puncts.LeftParenthesis ∷ Word words.Int ∷ Mark puncts.Comma ∷ Mark puncts.Ellipsis ∷ Mark puncts.RightParenthesis ∷ Mark puncts.LeftBrace ∷ Mark puncts.Semicolon ∷ Mark puncts.RightBrace ∷ End ∷ []) ≡ reads 14
row_39 = refl

-- int f(int,...)[3]{;}
row_40 : tell whole (Word words.Int ∷ Name 0 ∷ Mark puncts.LeftParenthesis ∷ Word words.Int ∷ Mark puncts.Comma ∷ Mark puncts.Ellipsis ∷ Mark puncts.RightParenthesis ∷ Mark puncts.LeftBracket ∷ number ∷ Mark puncts.RightBracket ∷ Mark puncts.LeftBrace ∷ Mark puncts.Semicolon ∷ Mark puncts.RightBrace ∷ End ∷ []) ≡ fails VariadicDefinition 10
row_40 = refl

-- struct s{int f(int,...){
row_41 : tell whole (Word words.Struct ∷ Name 0 ∷ Mark puncts.LeftBrace ∷ Word words.Int ∷ Name 1 ∷ Mark puncts.LeftParenthesis ∷ Word words.Int ∷ Mark puncts.Comma ∷ Mark puncts.Ellipsis ∷ Mark puncts.RightParenthesis ∷ Mark puncts.LeftBrace ∷ End ∷ []) ≡ fails VariadicDefinition 10
row_41 = refl

-- struct s{int:3;};
row_42 : tell whole (Word words.Struct ∷ Name 0 ∷ Mark puncts.LeftBrace ∷ Word words.Int ∷ Mark puncts.Colon ∷ number ∷ Mark puncts.Semicolon ∷ Mark puncts.RightBrace ∷ Mark puncts.Semicolon ∷ End ∷ []) ≡ fails BitField 4
row_42 = refl

-- struct s{int a[3:4];};
row_43 : tell whole (Word words.Struct ∷ Name 0 ∷ Mark puncts.LeftBrace ∷ Word words.Int ∷ Name 1 ∷ Mark puncts.LeftBracket ∷ number ∷ Mark puncts.Colon ∷ number ∷ Mark puncts.RightBracket ∷ Mark puncts.Semicolon ∷ Mark puncts.RightBrace ∷ Mark puncts.Semicolon ∷ End ∷ []) ≡ fails BitField 7
row_43 = refl

-- struct s{enum{a:3}b;};
row_44 : tell whole (Word words.Struct ∷ Name 0 ∷ Mark puncts.LeftBrace ∷ Word words.Enum ∷ Mark puncts.LeftBrace ∷ Name 1 ∷ Mark puncts.Colon ∷ number ∷ Mark puncts.RightBrace ∷ Name 2 ∷ Mark puncts.Semicolon ∷ Mark puncts.RightBrace ∷ Mark puncts.Semicolon ∷ End ∷ []) ≡ fails BitField 6
row_44 = refl

-- int a:3;
row_45 : tell whole (Word words.Int ∷ Name 0 ∷ Mark puncts.Colon ∷ number ∷ Mark puncts.Semicolon ∷ End ∷ []) ≡ fails UnexpectedToken 2
row_45 = refl

-- int main(void){a:b:;}
row_46 : tell whole (Word words.Int ∷ Name 0 ∷ Mark puncts.LeftParenthesis ∷ Word words.Void ∷ Mark puncts.RightParenthesis ∷ Mark puncts.LeftBrace ∷ Name 1 ∷ Mark puncts.Colon ∷ Name 2 ∷ Mark puncts.Colon ∷ Mark puncts.Semicolon ∷ Mark puncts.RightBrace ∷ End ∷ []) ≡ reads 13
row_46 = refl

-- int x={({
row_47 : tell whole (Word words.Int ∷ Name 0 ∷ Mark puncts.Assign ∷ Mark puncts.LeftBrace ∷ Mark puncts.LeftParenthesis ∷ Mark puncts.LeftBrace ∷ End ∷ []) ≡ fails GnuWord 5
row_47 = refl

-- int main({
row_48 : tell whole (Word words.Int ∷ Name 0 ∷ Mark puncts.LeftParenthesis ∷ Mark puncts.LeftBrace ∷ End ∷ []) ≡ fails GnuWord 3
row_48 = refl

-- typedef int T;int x[T];
row_49 : tell whole (Word words.Typedef ∷ Word words.Int ∷ Name 0 ∷ Mark puncts.Semicolon ∷ Word words.Int ∷ Name 1 ∷ Mark puncts.LeftBracket ∷ Name 0 ∷ Mark puncts.RightBracket ∷ Mark puncts.Semicolon ∷ End ∷ []) ≡ fails TypedefAsOrdinaryName 7
row_49 = refl

-- typedef int T;int x=T;
row_50 : tell whole (Word words.Typedef ∷ Word words.Int ∷ Name 0 ∷ Mark puncts.Semicolon ∷ Word words.Int ∷ Name 1 ∷ Mark puncts.Assign ∷ Name 0 ∷ Mark puncts.Semicolon ∷ End ∷ []) ≡ fails TypedefAsOrdinaryName 7
row_50 = refl

-- typedef int T;int T;
row_51 : tell whole (Word words.Typedef ∷ Word words.Int ∷ Name 0 ∷ Mark puncts.Semicolon ∷ Word words.Int ∷ Name 0 ∷ Mark puncts.Semicolon ∷ End ∷ []) ≡ fails TypedefAsOrdinaryName 5
row_51 = refl

-- typedef int T;int f(int T);
row_52 : tell whole (Word words.Typedef ∷ Word words.Int ∷ Name 0 ∷ Mark puncts.Semicolon ∷ Word words.Int ∷ Name 1 ∷ Mark puncts.LeftParenthesis ∷ Word words.Int ∷ Name 0 ∷ Mark puncts.RightParenthesis ∷ Mark puncts.Semicolon ∷ End ∷ []) ≡ fails TypedefAsOrdinaryName 8
row_52 = refl

-- typedef int T;int f(int(*T));
row_53 : tell whole (Word words.Typedef ∷ Word words.Int ∷ Name 0 ∷ Mark puncts.Semicolon ∷ Word words.Int ∷ Name 1 ∷ Mark puncts.LeftParenthesis ∷ Word words.Int ∷ Mark puncts.LeftParenthesis ∷ Mark puncts.Star ∷ Name 0 ∷ Mark puncts.RightParenthesis ∷ Mark puncts.RightParenthesis ∷ Mark puncts.Semicolon ∷ End ∷ []) ≡ fails TypedefAsOrdinaryName 10
row_53 = refl

-- typedef int T;int f(int(T));
row_54 : tell whole (Word words.Typedef ∷ Word words.Int ∷ Name 0 ∷ Mark puncts.Semicolon ∷ Word words.Int ∷ Name 1 ∷ Mark puncts.LeftParenthesis ∷ Word words.Int ∷ Mark puncts.LeftParenthesis ∷ Name 0 ∷ Mark puncts.RightParenthesis ∷ Mark puncts.RightParenthesis ∷ Mark puncts.Semicolon ∷ End ∷ []) ≡ reads 14
row_54 = refl

-- typedef int T;int f(int[3]T);
row_55 : tell whole (Word words.Typedef ∷ Word words.Int ∷ Name 0 ∷ Mark puncts.Semicolon ∷ Word words.Int ∷ Name 1 ∷ Mark puncts.LeftParenthesis ∷ Word words.Int ∷ Mark puncts.LeftBracket ∷ number ∷ Mark puncts.RightBracket ∷ Name 0 ∷ Mark puncts.RightParenthesis ∷ Mark puncts.Semicolon ∷ End ∷ []) ≡ fails UnexpectedToken 11
row_55 = refl

-- typedef int T;int x T;
row_56 : tell whole (Word words.Typedef ∷ Word words.Int ∷ Name 0 ∷ Mark puncts.Semicolon ∷ Word words.Int ∷ Name 1 ∷ Name 0 ∷ Mark puncts.Semicolon ∷ End ∷ []) ≡ fails UnexpectedToken 6
row_56 = refl

-- typedef int T;struct T{int a;}x;enum T{b}y;
row_57 : tell whole (Word words.Typedef ∷ Word words.Int ∷ Name 0 ∷ Mark puncts.Semicolon ∷ Word words.Struct ∷ Name 0 ∷ Mark puncts.LeftBrace ∷ Word words.Int ∷ Name 1 ∷ Mark puncts.Semicolon ∷ Mark puncts.RightBrace ∷ Name 2 ∷ Mark puncts.Semicolon ∷ Word words.Enum ∷ Name 0 ∷ Mark puncts.LeftBrace ∷ Name 3 ∷ Mark puncts.RightBrace ∷ Name 4 ∷ Mark puncts.Semicolon ∷ End ∷ []) ≡ reads 21
row_57 = refl

-- typedef int T;enum e{T};
row_58 : tell whole (Word words.Typedef ∷ Word words.Int ∷ Name 0 ∷ Mark puncts.Semicolon ∷ Word words.Enum ∷ Name 1 ∷ Mark puncts.LeftBrace ∷ Name 0 ∷ Mark puncts.RightBrace ∷ Mark puncts.Semicolon ∷ End ∷ []) ≡ fails TypedefAsOrdinaryName 7
row_58 = refl

-- typedef int T;int main(void){goto T;x.T=y->T;}
row_59 : tell whole (Word words.Typedef ∷ Word words.Int ∷ Name 0 ∷ Mark puncts.Semicolon ∷ Word words.Int ∷ Name 1 ∷ Mark puncts.LeftParenthesis ∷ Word words.Void ∷ Mark puncts.RightParenthesis ∷ Mark puncts.LeftBrace ∷ Word words.Goto ∷ Name 0 ∷ Mark puncts.Semicolon ∷ Name 2 ∷ Mark puncts.Dot ∷ Name 0 ∷ Mark puncts.Assign ∷ Name 3 ∷ Mark puncts.Arrow ∷ Name 0 ∷ Mark puncts.Semicolon ∷ Mark puncts.RightBrace ∷ End ∷ []) ≡ reads 23
row_59 = refl

-- typedef int T;int main(void){f(T);}
row_60 : tell whole (Word words.Typedef ∷ Word words.Int ∷ Name 0 ∷ Mark puncts.Semicolon ∷ Word words.Int ∷ Name 1 ∷ Mark puncts.LeftParenthesis ∷ Word words.Void ∷ Mark puncts.RightParenthesis ∷ Mark puncts.LeftBrace ∷ Name 2 ∷ Mark puncts.LeftParenthesis ∷ Name 0 ∷ Mark puncts.RightParenthesis ∷ Mark puncts.Semicolon ∷ Mark puncts.RightBrace ∷ End ∷ []) ≡ fails TypedefAsOrdinaryName 12
row_60 = refl

-- typedef int T;int main(void){f(1,T);}
row_61 : tell whole (Word words.Typedef ∷ Word words.Int ∷ Name 0 ∷ Mark puncts.Semicolon ∷ Word words.Int ∷ Name 1 ∷ Mark puncts.LeftParenthesis ∷ Word words.Void ∷ Mark puncts.RightParenthesis ∷ Mark puncts.LeftBrace ∷ Name 2 ∷ Mark puncts.LeftParenthesis ∷ number ∷ Mark puncts.Comma ∷ Name 0 ∷ Mark puncts.RightParenthesis ∷ Mark puncts.Semicolon ∷ Mark puncts.RightBrace ∷ End ∷ []) ≡ fails TypedefAsOrdinaryName 14
row_61 = refl

-- typedef int T;int main(void){f(1 T);}
row_62 : tell whole (Word words.Typedef ∷ Word words.Int ∷ Name 0 ∷ Mark puncts.Semicolon ∷ Word words.Int ∷ Name 1 ∷ Mark puncts.LeftParenthesis ∷ Word words.Void ∷ Mark puncts.RightParenthesis ∷ Mark puncts.LeftBrace ∷ Name 2 ∷ Mark puncts.LeftParenthesis ∷ number ∷ Name 0 ∷ Mark puncts.RightParenthesis ∷ Mark puncts.Semicolon ∷ Mark puncts.RightBrace ∷ End ∷ []) ≡ fails UnexpectedToken 13
row_62 = refl

-- typedef int T;int main(void){return T;}
row_63 : tell whole (Word words.Typedef ∷ Word words.Int ∷ Name 0 ∷ Mark puncts.Semicolon ∷ Word words.Int ∷ Name 1 ∷ Mark puncts.LeftParenthesis ∷ Word words.Void ∷ Mark puncts.RightParenthesis ∷ Mark puncts.LeftBrace ∷ Word words.Return ∷ Name 0 ∷ Mark puncts.Semicolon ∷ Mark puncts.RightBrace ∷ End ∷ []) ≡ fails TypedefAsOrdinaryName 11
row_63 = refl

-- typedef int T;int main(void){return 1 T;}
row_64 : tell whole (Word words.Typedef ∷ Word words.Int ∷ Name 0 ∷ Mark puncts.Semicolon ∷ Word words.Int ∷ Name 1 ∷ Mark puncts.LeftParenthesis ∷ Word words.Void ∷ Mark puncts.RightParenthesis ∷ Mark puncts.LeftBrace ∷ Word words.Return ∷ number ∷ Name 0 ∷ Mark puncts.Semicolon ∷ Mark puncts.RightBrace ∷ End ∷ []) ≡ fails UnexpectedToken 12
row_64 = refl

-- typedef int T;int main(void){for(T;;);}
row_65 : tell whole (Word words.Typedef ∷ Word words.Int ∷ Name 0 ∷ Mark puncts.Semicolon ∷ Word words.Int ∷ Name 1 ∷ Mark puncts.LeftParenthesis ∷ Word words.Void ∷ Mark puncts.RightParenthesis ∷ Mark puncts.LeftBrace ∷ Word words.For ∷ Mark puncts.LeftParenthesis ∷ Name 0 ∷ Mark puncts.Semicolon ∷ Mark puncts.Semicolon ∷ Mark puncts.RightParenthesis ∷ Mark puncts.Semicolon ∷ Mark puncts.RightBrace ∷ End ∷ []) ≡ fails TypedefAsOrdinaryName 12
row_65 = refl

-- typedef int T;int main(void){if(1)T x;}
row_66 : tell whole (Word words.Typedef ∷ Word words.Int ∷ Name 0 ∷ Mark puncts.Semicolon ∷ Word words.Int ∷ Name 1 ∷ Mark puncts.LeftParenthesis ∷ Word words.Void ∷ Mark puncts.RightParenthesis ∷ Mark puncts.LeftBrace ∷ Word words.If ∷ Mark puncts.LeftParenthesis ∷ number ∷ Mark puncts.RightParenthesis ∷ Name 0 ∷ Name 2 ∷ Mark puncts.Semicolon ∷ Mark puncts.RightBrace ∷ End ∷ []) ≡ fails TypedefAsOrdinaryName 14
row_66 = refl

-- typedef int T;int main(void){T:;}
row_67 : tell whole (Word words.Typedef ∷ Word words.Int ∷ Name 0 ∷ Mark puncts.Semicolon ∷ Word words.Int ∷ Name 1 ∷ Mark puncts.LeftParenthesis ∷ Word words.Void ∷ Mark puncts.RightParenthesis ∷ Mark puncts.LeftBrace ∷ Name 0 ∷ Mark puncts.Colon ∷ Mark puncts.Semicolon ∷ Mark puncts.RightBrace ∷ End ∷ []) ≡ fails UnexpectedToken 11
row_67 = refl

-- typedef int T;int main(void){T*x;return 0;}
row_68 : tell whole (Word words.Typedef ∷ Word words.Int ∷ Name 0 ∷ Mark puncts.Semicolon ∷ Word words.Int ∷ Name 1 ∷ Mark puncts.LeftParenthesis ∷ Word words.Void ∷ Mark puncts.RightParenthesis ∷ Mark puncts.LeftBrace ∷ Name 0 ∷ Mark puncts.Star ∷ Name 2 ∷ Mark puncts.Semicolon ∷ Word words.Return ∷ number ∷ Mark puncts.Semicolon ∷ Mark puncts.RightBrace ∷ End ∷ []) ≡ reads 19
row_68 = refl

-- int T;int main(void){T*x;return 0;}
row_69 : tell whole (Word words.Int ∷ Name 0 ∷ Mark puncts.Semicolon ∷ Word words.Int ∷ Name 1 ∷ Mark puncts.LeftParenthesis ∷ Word words.Void ∷ Mark puncts.RightParenthesis ∷ Mark puncts.LeftBrace ∷ Name 0 ∷ Mark puncts.Star ∷ Name 2 ∷ Mark puncts.Semicolon ∷ Word words.Return ∷ number ∷ Mark puncts.Semicolon ∷ Mark puncts.RightBrace ∷ End ∷ []) ≡ reads 18
row_69 = refl

-- typedef int T,A[sizeof(T)];
row_70 : tell whole (Word words.Typedef ∷ Word words.Int ∷ Name 0 ∷ Mark puncts.Comma ∷ Name 1 ∷ Mark puncts.LeftBracket ∷ Word words.Sizeof ∷ Mark puncts.LeftParenthesis ∷ Name 0 ∷ Mark puncts.RightParenthesis ∷ Mark puncts.RightBracket ∷ Mark puncts.Semicolon ∷ End ∷ []) ≡ reads 13
row_70 = refl

-- typedef int T;int x=sizeof(int(T));
row_71 : tell whole (Word words.Typedef ∷ Word words.Int ∷ Name 0 ∷ Mark puncts.Semicolon ∷ Word words.Int ∷ Name 1 ∷ Mark puncts.Assign ∷ Word words.Sizeof ∷ Mark puncts.LeftParenthesis ∷ Word words.Int ∷ Mark puncts.LeftParenthesis ∷ Name 0 ∷ Mark puncts.RightParenthesis ∷ Mark puncts.RightParenthesis ∷ Mark puncts.Semicolon ∷ End ∷ []) ≡ reads 16
row_71 = refl

-- typedef int T;int x={1,T};
row_72 : tell whole (Word words.Typedef ∷ Word words.Int ∷ Name 0 ∷ Mark puncts.Semicolon ∷ Word words.Int ∷ Name 1 ∷ Mark puncts.Assign ∷ Mark puncts.LeftBrace ∷ number ∷ Mark puncts.Comma ∷ Name 0 ∷ Mark puncts.RightBrace ∷ Mark puncts.Semicolon ∷ End ∷ []) ≡ fails TypedefAsOrdinaryName 10
row_72 = refl

-- typedef int T;int x={1 T};
row_73 : tell whole (Word words.Typedef ∷ Word words.Int ∷ Name 0 ∷ Mark puncts.Semicolon ∷ Word words.Int ∷ Name 1 ∷ Mark puncts.Assign ∷ Mark puncts.LeftBrace ∷ number ∷ Name 0 ∷ Mark puncts.RightBrace ∷ Mark puncts.Semicolon ∷ End ∷ []) ≡ fails UnexpectedToken 9
row_73 = refl

-- typedef int T;int x={T};
row_74 : tell whole (Word words.Typedef ∷ Word words.Int ∷ Name 0 ∷ Mark puncts.Semicolon ∷ Word words.Int ∷ Name 1 ∷ Mark puncts.Assign ∷ Mark puncts.LeftBrace ∷ Name 0 ∷ Mark puncts.RightBrace ∷ Mark puncts.Semicolon ∷ End ∷ []) ≡ fails TypedefAsOrdinaryName 8
row_74 = refl

-- int x=typedef;
row_75 : tell whole (Word words.Int ∷ Name 0 ∷ Mark puncts.Assign ∷ Word words.Typedef ∷ Mark puncts.Semicolon ∷ End ∷ []) ≡ fails UnexpectedToken 3
row_75 = refl

-- int main(void){goto typedef;}
row_76 : tell whole (Word words.Int ∷ Name 0 ∷ Mark puncts.LeftParenthesis ∷ Word words.Void ∷ Mark puncts.RightParenthesis ∷ Mark puncts.LeftBrace ∷ Word words.Goto ∷ Word words.Typedef ∷ Mark puncts.Semicolon ∷ Mark puncts.RightBrace ∷ End ∷ []) ≡ fails TypedefAsOrdinaryName 7
row_76 = refl

-- int main(void){if(a)if(b)a=2;else a=-b;return a;}
row_77 : tell whole (Word words.Int ∷ Name 0 ∷ Mark puncts.LeftParenthesis ∷ Word words.Void ∷ Mark puncts.RightParenthesis ∷ Mark puncts.LeftBrace ∷ Word words.If ∷ Mark puncts.LeftParenthesis ∷ Name 1 ∷ Mark puncts.RightParenthesis ∷ Word words.If ∷ Mark puncts.LeftParenthesis ∷ Name 2 ∷ Mark puncts.RightParenthesis ∷ Name 1 ∷ Mark puncts.Assign ∷ number ∷ Mark puncts.Semicolon ∷ Word words.Else ∷ Name 1 ∷ Mark puncts.Assign ∷ Mark puncts.Minus ∷ Name 2 ∷ Mark puncts.Semicolon ∷ Word words.Return ∷ Name 1 ∷ Mark puncts.Semicolon ∷ Mark puncts.RightBrace ∷ End ∷ []) ≡ reads 29
row_77 = refl

-- int main(void){do a=1;while(a);switch(a){case 1:b++;default:;}for(;;)break;l:continue;}
row_78 : tell whole (Word words.Int ∷ Name 0 ∷ Mark puncts.LeftParenthesis ∷ Word words.Void ∷ Mark puncts.RightParenthesis ∷ Mark puncts.LeftBrace ∷ Word words.Do ∷ Name 1 ∷ Mark puncts.Assign ∷ number ∷ Mark puncts.Semicolon ∷ Word words.While ∷ Mark puncts.LeftParenthesis ∷ Name 1 ∷ Mark puncts.RightParenthesis ∷ Mark puncts.Semicolon ∷ Word words.Switch ∷ Mark puncts.LeftParenthesis ∷ Name 1 ∷ Mark puncts.RightParenthesis ∷ Mark puncts.LeftBrace ∷ Word words.Case ∷ number ∷ Mark puncts.Colon ∷ Name 2 ∷ Mark puncts.Increment ∷ Mark puncts.Semicolon ∷ Word words.Default ∷ Mark puncts.Colon ∷ Mark puncts.Semicolon ∷ Mark puncts.RightBrace ∷ Word words.For ∷ Mark puncts.LeftParenthesis ∷ Mark puncts.Semicolon ∷ Mark puncts.Semicolon ∷ Mark puncts.RightParenthesis ∷ Word words.Break ∷ Mark puncts.Semicolon ∷ Name 3 ∷ Mark puncts.Colon ∷ Word words.Continue ∷ Mark puncts.Semicolon ∷ Mark puncts.RightBrace ∷ End ∷ []) ≡ reads 44
row_78 = refl

-- int main(void){int a;a=1;int b;}
row_79 : tell whole (Word words.Int ∷ Name 0 ∷ Mark puncts.LeftParenthesis ∷ Word words.Void ∷ Mark puncts.RightParenthesis ∷ Mark puncts.LeftBrace ∷ Word words.Int ∷ Name 1 ∷ Mark puncts.Semicolon ∷ Name 1 ∷ Mark puncts.Assign ∷ number ∷ Mark puncts.Semicolon ∷ Word words.Int ∷ Name 2 ∷ Mark puncts.Semicolon ∷ Mark puncts.RightBrace ∷ End ∷ []) ≡ fails UnexpectedToken 13
row_79 = refl

-- int (*t[2])(int)={f,g};
row_80 : tell whole (Word words.Int ∷ Mark puncts.LeftParenthesis ∷ Mark puncts.Star ∷ Name 0 ∷ Mark puncts.LeftBracket ∷ number ∷ Mark puncts.RightBracket ∷ Mark puncts.RightParenthesis ∷ Mark puncts.LeftParenthesis ∷ Word words.Int ∷ Mark puncts.RightParenthesis ∷ Mark puncts.Assign ∷ Mark puncts.LeftBrace ∷ Name 1 ∷ Mark puncts.Comma ∷ Name 2 ∷ Mark puncts.RightBrace ∷ Mark puncts.Semicolon ∷ End ∷ []) ≡ reads 19
row_80 = refl

-- int main(void){a?b:c=d;}
row_81 : tell whole (Word words.Int ∷ Name 0 ∷ Mark puncts.LeftParenthesis ∷ Word words.Void ∷ Mark puncts.RightParenthesis ∷ Mark puncts.LeftBrace ∷ Name 1 ∷ Mark puncts.Question ∷ Name 2 ∷ Mark puncts.Colon ∷ Name 3 ∷ Mark puncts.Assign ∷ Name 4 ∷ Mark puncts.Semicolon ∷ Mark puncts.RightBrace ∷ End ∷ []) ≡ fails UnexpectedToken 11
row_81 = refl

-- int main(void){(int)a=b;}
row_82 : tell whole (Word words.Int ∷ Name 0 ∷ Mark puncts.LeftParenthesis ∷ Word words.Void ∷ Mark puncts.RightParenthesis ∷ Mark puncts.LeftBrace ∷ Mark puncts.LeftParenthesis ∷ Word words.Int ∷ Mark puncts.RightParenthesis ∷ Name 1 ∷ Mark puncts.Assign ∷ Name 2 ∷ Mark puncts.Semicolon ∷ Mark puncts.RightBrace ∷ End ∷ []) ≡ fails UnexpectedToken 10
row_82 = refl

-- int main(void){*a=b=c?d:e,f+=g;}
row_83 : tell whole (Word words.Int ∷ Name 0 ∷ Mark puncts.LeftParenthesis ∷ Word words.Void ∷ Mark puncts.RightParenthesis ∷ Mark puncts.LeftBrace ∷ Mark puncts.Star ∷ Name 1 ∷ Mark puncts.Assign ∷ Name 2 ∷ Mark puncts.Assign ∷ Name 3 ∷ Mark puncts.Question ∷ Name 4 ∷ Mark puncts.Colon ∷ Name 5 ∷ Mark puncts.Comma ∷ Name 6 ∷ Mark puncts.PlusAssign ∷ Name 7 ∷ Mark puncts.Semicolon ∷ Mark puncts.RightBrace ∷ End ∷ []) ≡ reads 23
row_83 = refl

-- int x{}
row_84 : tell whole (Word words.Int ∷ Name 0 ∷ Mark puncts.LeftBrace ∷ Mark puncts.RightBrace ∷ End ∷ []) ≡ reads 5
row_84 = refl

-- int f(int...);
row_85 : tell whole (Word words.Int ∷ Name 0 ∷ Mark puncts.LeftParenthesis ∷ Word words.Int ∷ Mark puncts.Ellipsis ∷ Mark puncts.RightParenthesis ∷ Mark puncts.Semicolon ∷ End ∷ []) ≡ fails UnexpectedToken 4
row_85 = refl

-- int f(...);
row_86 : tell whole (Word words.Int ∷ Name 0 ∷ Mark puncts.LeftParenthesis ∷ Mark puncts.Ellipsis ∷ Mark puncts.RightParenthesis ∷ Mark puncts.Semicolon ∷ End ∷ []) ≡ fails UnexpectedToken 3
row_86 = refl

-- int f(int,...,a);
row_87 : tell whole (Word words.Int ∷ Name 0 ∷ Mark puncts.LeftParenthesis ∷ Word words.Int ∷ Mark puncts.Comma ∷ Mark puncts.Ellipsis ∷ Mark puncts.Comma ∷ Name 1 ∷ Mark puncts.RightParenthesis ∷ Mark puncts.Semicolon ∷ End ∷ []) ≡ fails UnexpectedToken 6
row_87 = refl

-- int f(int,);
row_88 : tell whole (Word words.Int ∷ Name 0 ∷ Mark puncts.LeftParenthesis ∷ Word words.Int ∷ Mark puncts.Comma ∷ Mark puncts.RightParenthesis ∷ Mark puncts.Semicolon ∷ End ∷ []) ≡ fails UnexpectedToken 5
row_88 = refl

-- struct{}x;
row_89 : tell whole (Word words.Struct ∷ Mark puncts.LeftBrace ∷ Mark puncts.RightBrace ∷ Name 0 ∷ Mark puncts.Semicolon ∷ End ∷ []) ≡ fails UnexpectedToken 2
row_89 = refl

-- struct s{};
row_90 : tell whole (Word words.Struct ∷ Name 0 ∷ Mark puncts.LeftBrace ∷ Mark puncts.RightBrace ∷ Mark puncts.Semicolon ∷ End ∷ []) ≡ fails UnexpectedToken 3
row_90 = refl

-- enum{}x;
row_91 : tell whole (Word words.Enum ∷ Mark puncts.LeftBrace ∷ Mark puncts.RightBrace ∷ Name 0 ∷ Mark puncts.Semicolon ∷ End ∷ []) ≡ fails UnexpectedToken 2
row_91 = refl

-- enum{a,}x;
row_92 : tell whole (Word words.Enum ∷ Mark puncts.LeftBrace ∷ Name 0 ∷ Mark puncts.Comma ∷ Mark puncts.RightBrace ∷ Name 1 ∷ Mark puncts.Semicolon ∷ End ∷ []) ≡ fails UnexpectedToken 4
row_92 = refl

-- int x={};
row_93 : tell whole (Word words.Int ∷ Name 0 ∷ Mark puncts.Assign ∷ Mark puncts.LeftBrace ∷ Mark puncts.RightBrace ∷ Mark puncts.Semicolon ∷ End ∷ []) ≡ fails UnexpectedToken 4
row_93 = refl

-- int x={1,};
row_94 : tell whole (Word words.Int ∷ Name 0 ∷ Mark puncts.Assign ∷ Mark puncts.LeftBrace ∷ number ∷ Mark puncts.Comma ∷ Mark puncts.RightBrace ∷ Mark puncts.Semicolon ∷ End ∷ []) ≡ reads 9
row_94 = refl

-- extern int static x;
row_95 : tell whole (Word words.Extern ∷ Word words.Int ∷ Word words.Static ∷ Name 0 ∷ Mark puncts.Semicolon ∷ End ∷ []) ≡ fails UnexpectedToken 2
row_95 = refl

-- unsigned signed x;
row_96 : tell whole (Word words.Unsigned ∷ Word words.Signed ∷ Name 0 ∷ Mark puncts.Semicolon ∷ End ∷ []) ≡ fails UnexpectedToken 1
row_96 = refl

-- int double x;
row_97 : tell whole (Word words.Int ∷ Word words.Double ∷ Name 0 ∷ Mark puncts.Semicolon ∷ End ∷ []) ≡ fails UnexpectedToken 1
row_97 = refl

-- long double x;unsigned long int y;int short z;
row_98 : tell whole (Word words.Long ∷ Word words.Double ∷ Name 0 ∷ Mark puncts.Semicolon ∷ Word words.Unsigned ∷ Word words.Long ∷ Word words.Int ∷ Name 1 ∷ Mark puncts.Semicolon ∷ Word words.Int ∷ Word words.Short ∷ Name 2 ∷ Mark puncts.Semicolon ∷ End ∷ []) ≡ reads 14
row_98 = refl

-- long float x;
row_99 : tell whole (Word words.Long ∷ Word words.Float ∷ Name 0 ∷ Mark puncts.Semicolon ∷ End ∷ []) ≡ fails UnexpectedToken 1
row_99 = refl

-- long x long;
row_100 : tell whole (Word words.Long ∷ Name 0 ∷ Word words.Long ∷ Mark puncts.Semicolon ∷ End ∷ []) ≡ fails UnexpectedToken 2
row_100 = refl

-- int*const long x;
row_101 : tell whole (Word words.Int ∷ Mark puncts.Star ∷ Word words.Const ∷ Word words.Long ∷ Name 0 ∷ Mark puncts.Semicolon ∷ End ∷ []) ≡ fails UnexpectedToken 3
row_101 = refl

-- a-b-c
row_102 : tell (expression_ask []) (Name 0 ∷ Mark puncts.Minus ∷ Name 1 ∷ Mark puncts.Minus ∷ Name 2 ∷ End ∷ []) ≡ reads 5
row_102 = refl

-- a b
row_103 : tell (expression_ask []) (Name 0 ∷ Name 1 ∷ End ∷ []) ≡ reads 1
row_103 = refl

-- +
row_104 : tell (expression_ask []) (Mark puncts.Plus ∷ End ∷ []) ≡ fails UnexpectedToken 1
row_104 = refl

-- "a""b"[1]->c(d,e)++
row_105 : tell (expression_ask []) (Text 9 ∷ Text 9 ∷ Mark puncts.LeftBracket ∷ number ∷ Mark puncts.RightBracket ∷ Mark puncts.Arrow ∷ Name 0 ∷ Mark puncts.LeftParenthesis ∷ Name 1 ∷ Mark puncts.Comma ∷ Name 2 ∷ Mark puncts.RightParenthesis ∷ Mark puncts.Increment ∷ End ∷ []) ≡ reads 13
row_105 = refl

-- sizeof(int)-1
row_106 : tell (expression_ask []) (Word words.Sizeof ∷ Mark puncts.LeftParenthesis ∷ Word words.Int ∷ Mark puncts.RightParenthesis ∷ Mark puncts.Minus ∷ number ∷ End ∷ []) ≡ reads 6
row_106 = refl

-- sizeof(a)[1]
row_107 : tell (expression_ask []) (Word words.Sizeof ∷ Mark puncts.LeftParenthesis ∷ Name 0 ∷ Mark puncts.RightParenthesis ∷ Mark puncts.LeftBracket ∷ number ∷ Mark puncts.RightBracket ∷ End ∷ []) ≡ reads 7
row_107 = refl

-- (int(*)[3])&a
row_108 : tell (expression_ask []) (Mark puncts.LeftParenthesis ∷ Word words.Int ∷ Mark puncts.LeftParenthesis ∷ Mark puncts.Star ∷ Mark puncts.RightParenthesis ∷ Mark puncts.LeftBracket ∷ number ∷ Mark puncts.RightBracket ∷ Mark puncts.RightParenthesis ∷ Mark puncts.Ampersand ∷ Name 0 ∷ End ∷ []) ≡ reads 11
row_108 = refl

-- T
row_109 : tell (expression_ask (0 ∷ [])) (Name 0 ∷ End ∷ []) ≡ fails TypedefAsOrdinaryName 0
row_109 = refl

-- (T)1
row_110 : tell (expression_ask (0 ∷ [])) (Mark puncts.LeftParenthesis ∷ Name 0 ∷ Mark puncts.RightParenthesis ∷ number ∷ End ∷ []) ≡ reads 4
row_110 = refl

-- sizeof(int(typedef int))
row_111 : tell (expression_ask []) (Word words.Sizeof ∷ Mark puncts.LeftParenthesis ∷ Word words.Int ∷ Mark puncts.LeftParenthesis ∷ Word words.Typedef ∷ Word words.Int ∷ Mark puncts.RightParenthesis ∷ Mark puncts.RightParenthesis ∷ End ∷ []) ≡ reads 8
row_111 = refl

-- int*
row_112 : tell (type_name_ask []) (Word words.Int ∷ Mark puncts.Star ∷ End ∷ []) ≡ reads 2
row_112 = refl

-- long long
row_113 : tell (type_name_ask []) (Word words.Long ∷ Word words.Long ∷ End ∷ []) ≡ reads 1
row_113 = refl

-- static int
row_114 : tell (type_name_ask []) (Word words.Static ∷ Word words.Int ∷ End ∷ []) ≡ fails UnexpectedToken 0
row_114 = refl

-- int(*)(int,...)
row_115 : tell (type_name_ask []) (Word words.Int ∷ Mark puncts.LeftParenthesis ∷ Mark puncts.Star ∷ Mark puncts.RightParenthesis ∷ Mark puncts.LeftParenthesis ∷ Word words.Int ∷ Mark puncts.Comma ∷ Mark puncts.Ellipsis ∷ Mark puncts.RightParenthesis ∷ End ∷ []) ≡ reads 9
row_115 = refl

-- int()[3]
row_116 : tell (type_name_ask []) (Word words.Int ∷ Mark puncts.LeftParenthesis ∷ Mark puncts.RightParenthesis ∷ Mark puncts.LeftBracket ∷ number ∷ Mark puncts.RightBracket ∷ End ∷ []) ≡ reads 6
row_116 = refl

-- unsigned long x
row_117 : tell (specifiers_ask []) (Word words.Unsigned ∷ Word words.Long ∷ Name 0 ∷ End ∷ []) ≡ reads 2
row_117 = refl

-- x
row_118 : tell (specifiers_ask []) (Name 0 ∷ End ∷ []) ≡ reads 0
row_118 = refl

-- typedef int
row_119 : tell (specifiers_ask []) (Word words.Typedef ∷ Word words.Int ∷ End ∷ []) ≡ reads 2
row_119 = refl

-- const x
row_120 : tell (specifiers_ask []) (Word words.Const ∷ Name 0 ∷ End ∷ []) ≡ fails ImplicitInt 1
row_120 = refl

-- const
row_121 : tell (specifiers_ask []) (Word words.Const ∷ End ∷ []) ≡ fails UnexpectedToken 1
row_121 = refl

-- *p[3]
row_122 : tell (declarator_ask []) (Mark puncts.Star ∷ Name 0 ∷ Mark puncts.LeftBracket ∷ number ∷ Mark puncts.RightBracket ∷ End ∷ []) ≡ reads 5
row_122 = refl

-- (*p)(int a,int*)
row_123 : tell (declarator_ask []) (Mark puncts.LeftParenthesis ∷ Mark puncts.Star ∷ Name 0 ∷ Mark puncts.RightParenthesis ∷ Mark puncts.LeftParenthesis ∷ Word words.Int ∷ Name 1 ∷ Mark puncts.Comma ∷ Word words.Int ∷ Mark puncts.Star ∷ Mark puncts.RightParenthesis ∷ End ∷ []) ≡ reads 11
row_123 = refl

-- *
row_124 : tell (declarator_ask []) (Mark puncts.Star ∷ End ∷ []) ≡ fails UnexpectedToken 1
row_124 = refl

-- *const*volatile p
row_125 : tell (declarator_ask []) (Mark puncts.Star ∷ Word words.Const ∷ Mark puncts.Star ∷ Word words.Volatile ∷ Name 0 ∷ End ∷ []) ≡ reads 5
row_125 = refl

-- (T
row_126 : tell (declarator_ask (0 ∷ [])) (Mark puncts.LeftParenthesis ∷ Name 0 ∷ End ∷ []) ≡ fails TypedefAsOrdinaryName 1
row_126 = refl

-- typedef int T;int (T);
row_127 : tell whole (Word words.Typedef ∷ Word words.Int ∷ Name 0 ∷ Mark puncts.Semicolon ∷ Word words.Int ∷ Mark puncts.LeftParenthesis ∷ Name 0 ∷ Mark puncts.RightParenthesis ∷ Mark puncts.Semicolon ∷ End ∷ []) ≡ fails TypedefAsOrdinaryName 6
row_127 = refl

-- ---- trees of statements, with their places and ends

-- the tokens of one line, each a column behind the last, from this column on
abbrev on_line : ℕ → List Kind → List Token
on_line c [] = []
on_line c (k ∷ ks) = record { kind = k; place = record { name = 0; line = 1; column = c } } ∷ on_line (suc c) ks

abbrev spot : ℕ → Place
spot c = record { name = 0; line = 1; column = c }

abbrev leaf : ℕ → ℕ → Expression
leaf n c = expression (name n) (spot c) (spot c)

-- `;` at a column
abbrev nothing_at : ℕ → Statement
nothing_at c = statement empty (spot c) (spot c)

-- if(a);
row_128 : run 600 (ask (at (outside []) grammar.statement)) (c_tokens (on_line 1 (Word words.If ∷ Mark puncts.LeftParenthesis ∷ Name 2 ∷ Mark puncts.RightParenthesis ∷ Mark puncts.Semicolon ∷ End ∷ []))) ≡ read (statement (if_else (leaf 2 3) (nothing_at 5) no_statement) (spot 1) (spot 5)) (c_tokens (on_line 6 (End ∷ [])))
row_128 = refl

-- int f(){l:case 1:default:;if(a)b;else c;switch(d);while(e);do;while(g);for(h;i;j);goto k;continue;break;return m;};
abbrev every_statement : List Kind
every_statement = Word words.Int ∷ Name 0 ∷ Mark puncts.LeftParenthesis ∷ Mark puncts.RightParenthesis ∷ Mark puncts.LeftBrace ∷ Name 1 ∷ Mark puncts.Colon ∷ Word words.Case ∷ number ∷ Mark puncts.Colon ∷ Word words.Default ∷ Mark puncts.Colon ∷ Mark puncts.Semicolon
    ∷ Word words.If ∷ Mark puncts.LeftParenthesis ∷ Name 2 ∷ Mark puncts.RightParenthesis ∷ Name 3 ∷ Mark puncts.Semicolon ∷ Word words.Else ∷ Name 4 ∷ Mark puncts.Semicolon ∷ Word words.Switch ∷ Mark puncts.LeftParenthesis ∷ Name 5 ∷ Mark puncts.RightParenthesis ∷ Mark puncts.Semicolon
    ∷ Word words.While ∷ Mark puncts.LeftParenthesis ∷ Name 6 ∷ Mark puncts.RightParenthesis ∷ Mark puncts.Semicolon ∷ Word words.Do ∷ Mark puncts.Semicolon ∷ Word words.While ∷ Mark puncts.LeftParenthesis ∷ Name 7 ∷ Mark puncts.RightParenthesis ∷ Mark puncts.Semicolon
    ∷ Word words.For ∷ Mark puncts.LeftParenthesis ∷ Name 8 ∷ Mark puncts.Semicolon ∷ Name 9 ∷ Mark puncts.Semicolon ∷ Name 10 ∷ Mark puncts.RightParenthesis ∷ Mark puncts.Semicolon ∷ Word words.Goto ∷ Name 11 ∷ Mark puncts.Semicolon
    ∷ Word words.Continue ∷ Mark puncts.Semicolon ∷ Word words.Break ∷ Mark puncts.Semicolon ∷ Word words.Return ∷ Name 12 ∷ Mark puncts.Semicolon ∷ Mark puncts.RightBrace ∷ Mark puncts.Semicolon ∷ End ∷ []

abbrev labelled : Statement
labelled = statement (label 1 (statement (case_label (expression (constant spare_number) (spot 9) (spot 9)) (statement (default_label (nothing_at 13)) (spot 11) (spot 13))) (spot 8) (spot 13))) (spot 6) (spot 13)

abbrev branches : Statement
branches = statement (if_else (leaf 2 16) (statement (of (leaf 3 18)) (spot 18) (spot 19)) (some_statement (statement (of (leaf 4 21)) (spot 21) (spot 22)))) (spot 14) (spot 22)

abbrev for_three : Statement
for_three = statement (for_loop (some_expression (leaf 8 42)) (some_expression (leaf 9 44)) (some_expression (leaf 10 46)) (nothing_at 48)) (spot 40) (spot 48)

abbrev jumps : Statements
jumps = next_statement (statement (goto_name 11) (spot 49) (spot 51)) (next_statement (statement continue_loop (spot 52) (spot 53)) (next_statement (statement break_out (spot 54) (spot 55)) (next_statement (statement (return_value (some_expression (leaf 12 57))) (spot 56) (spot 58)) no_statements)))

abbrev loops : Statements
loops = next_statement (statement (while_loop (leaf 6 30) (nothing_at 32)) (spot 28) (spot 32)) (next_statement (statement (do_loop (nothing_at 34) (leaf 7 37)) (spot 33) (spot 39)) (next_statement for_three jumps))

abbrev body : Statement
body = statement (block no_declarations (next_statement labelled (next_statement branches (next_statement (statement (switch_on (leaf 5 25) (nothing_at 27)) (spot 23) (spot 27)) loops)))) (spot 5) (spot 59)

row_129 : run 600 (ask whole) (c_tokens (on_line 1 every_statement)) ≡ read (definition (next_specifier (basic words.Int) no_specifiers) (declarator (function (declarator (declared 0) (spot 2)) no_params false) (spot 2)) body ∷ semicolon ∷ []) []
row_129 = refl
