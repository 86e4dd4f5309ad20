-- The words of a list of specifiers: those that the grammar takes, in any order, are exactly those of one type.
use Rattle.std.proofs.Common.{◌≡◌, ℕ, zero, suc, ◌+◌, Bool, true, false, ◌⊎◌, inl, inr, List, [], ◌∷◌, ◌++◌, map, Option, Some, None, refl, sym, ap, ap₂, ◌∙◌, subst, arith, append_assoc}
use Rattle.std.specs.Prelude.{⊤, is_some, ◌||◌}
use Rattle.std.specs.List.{list_any}
use Rattle.sp_tree.specs.declared.token.Keyword.{Keyword}
use Rattle.sp_tree.specs.declared.token.Keyword.TheVariants as words
use Rattle.sp_parse_trees.specs.Words.{without, are_among, whole_types, is_one_type}
use Rattle.sp_parse_grammar.specs.CTokens as tokens
use Rattle.sp_parse_grammar.specs.CTokens.{TypeWord, Length, Base, Seen, add_word, typed}
use Rattle.sp_parse_tokens.specs.Sorts.{word_sort}

-- what is left of a list without these words
abbrev pub left_of : List Keyword → List Keyword → Option (List Keyword)
left_of [] others = Some others
left_of (k ∷ ks) others = elim (without k others) [ None ↦ None | Some rest ↦ left_of ks rest ]

abbrev pub step : Keyword → Option (List Keyword) → Option (List Keyword)
step k None = None
step k (Some rest) = without k rest

among_left : (ks others : List Keyword) → are_among ks others ≡ is_some (left_of ks others)
among_left [] others = refl
among_left (k ∷ ks) others = further (λ rest. among_left ks rest) (without k others)
  where
    further : ((rest : List Keyword) → are_among ks rest ≡ is_some (left_of ks rest)) → (o : Option (List Keyword)) → (elim o [ None ↦ false | Some rest ↦ are_among ks rest ]) ≡ is_some (elim o [ None ↦ None | Some rest ↦ left_of ks rest ])
    further h None = refl
    further h (Some rest) = h rest

left_more : (ks : List Keyword) (k : Keyword) (others : List Keyword) → left_of (ks ++ k ∷ []) others ≡ step k (left_of ks others)
left_more [] k others = last (without k others)
  where
    last : (o : Option (List Keyword)) → (elim o [ None ↦ None | Some rest ↦ Some rest ]) ≡ o
    last None = refl
    last (Some rest) = refl
left_more (j ∷ ks) k others = further (λ rest. left_more ks k rest) (without j others)
  where
    further : ((rest : List Keyword) → left_of (ks ++ k ∷ []) rest ≡ step k (left_of ks rest)) → (o : Option (List Keyword)) → (elim o [ None ↦ None | Some rest ↦ left_of (ks ++ k ∷ []) rest ]) ≡ step k (elim o [ None ↦ None | Some rest ↦ left_of ks rest ])
    further h None = refl
    further h (Some rest) = h rest

left_front : (ks js : List Keyword) (others : List Keyword) → is_some (left_of (ks ++ js) others) ≡ true → is_some (left_of ks others) ≡ true
left_front [] js others e = refl
left_front (k ∷ ks) js others e = further (λ rest h. left_front ks js rest h) (without k others) e
  where
    further : ((rest : List Keyword) → is_some (left_of (ks ++ js) rest) ≡ true → is_some (left_of ks rest) ≡ true) → (o : Option (List Keyword)) → is_some (elim o [ None ↦ None | Some rest ↦ left_of (ks ++ js) rest ]) ≡ true → is_some (elim o [ None ↦ None | Some rest ↦ left_of ks rest ]) ≡ true
    further f None h = h
    further f (Some rest) h = f rest h

-- ---- what is left of each whole type

abbrev pub rests : List Keyword → List (Option (List Keyword))
rests ks = map (left_of ks) whole_types

rests_more_of : (ks : List Keyword) (k : Keyword) (ts : List (List Keyword)) → map (left_of (ks ++ k ∷ [])) ts ≡ map (step k) (map (left_of ks) ts)
rests_more_of ks k [] = refl
rests_more_of ks k (t ∷ ts) = ap₂ (λ v vs. v ∷ vs) (left_more ks k t) (rests_more_of ks k ts)

pub rests_more : (ks : List Keyword) (k : Keyword) → rests (ks ++ k ∷ []) ≡ map (step k) (rests ks)
rests_more ks k = rests_more_of ks k whole_types

one_of : (ks : List Keyword) (ts : List (List Keyword)) → list_any (are_among ks) ts ≡ list_any (λ o. is_some o) (map (left_of ks) ts)
one_of ks [] = refl
one_of ks (t ∷ ts) = ap₂ (λ v w. v || w) (among_left ks t) (one_of ks ts)

or_first : (a b : Bool) → a ≡ true → a || b ≡ true
or_first true b e = refl
or_first false b e = absurd cc

or_second : (a b : Bool) → b ≡ true → a || b ≡ true
or_second true b e = refl
or_second false b e = e

front_of_any : (ks js : List Keyword) (ts : List (List Keyword)) → list_any (λ o. is_some o) (map (left_of (ks ++ js)) ts) ≡ true → list_any (λ o. is_some o) (map (left_of ks) ts) ≡ true
front_of_any ks js [] e = e
front_of_any ks js (t ∷ ts) e = by_first (λ h. front_of_any ks js ts h) (is_some (left_of (ks ++ js) t)) refl e
  where
    by_first : (list_any (λ o. is_some o) (map (left_of (ks ++ js)) ts) ≡ true → list_any (λ o. is_some o) (map (left_of ks) ts) ≡ true) → (b : Bool) → is_some (left_of (ks ++ js) t) ≡ b → b || list_any (λ o. is_some o) (map (left_of (ks ++ js)) ts) ≡ true → is_some (left_of ks t) || list_any (λ o. is_some o) (map (left_of ks) ts) ≡ true
    by_first f true e h = or_first _ _ (left_front ks js t e)
    by_first f false e h = or_second (is_some (left_of ks t)) _ (f h)

-- ---- the words of a state

abbrev pub sign_word : Bool → Keyword
sign_word true = words.Unsigned
sign_word false = words.Signed

-- the word that this is, which of the two signs where it is one
abbrev pub word_by : TypeWord → Bool → Keyword
word_by tokens.void u = words.Void
word_by tokens.char u = words.Char
word_by tokens.short u = words.Short
word_by tokens.int u = words.Int
word_by tokens.long u = words.Long
word_by tokens.float u = words.Float
word_by tokens.double u = words.Double
word_by tokens.sign u = sign_word u

abbrev pub sign_part : Bool → Bool → List Keyword
sign_part true u = sign_word u ∷ []
sign_part false u = []

abbrev pub length_part : Length → List Keyword
length_part tokens.plain_length = []
length_part tokens.short_length = words.Short ∷ []
length_part tokens.long_length = words.Long ∷ []

abbrev pub base_part : Base → Bool → List Keyword
base_part tokens.no_base u = []
base_part tokens.char_base u = words.Char ∷ []
base_part tokens.int_base u = words.Int ∷ []
base_part tokens.double_base u = words.Double ∷ []
base_part tokens.whole_base true = words.Float ∷ []
base_part tokens.whole_base false = words.Void ∷ []

-- the words, one after the other; which sign, or which of `void` and `float`
abbrev pub written : Bool → Length → Base → Bool → List Keyword
written signed length base u = sign_part signed u ++ length_part length ++ base_part base u

-- with one word more: the words of the next state; or of no type
abbrev pub Grown : Keyword → Bool → Length → Base → Bool → Option Seen → Type 0
Grown k signed length base u None = list_any (λ o. is_some o) (map (step k) (rests (written signed length base u))) ≡ false
Grown k signed length base u (Some new) = (v : Bool) × (map (step k) (rests (written signed length base u)) ≡ rests (written new.signed new.length new.base v)) × (list_any (λ o. is_some o) (rests (written new.signed new.length new.base v)) ≡ true) × (typed new.signed new.length new.base ≡ true)

pub grown : (stored : Bool) (w : TypeWord) (t : Bool) (signed : Bool) (length : Length) (base : Base) (u : Bool) → Grown (word_by w t) signed length base u (add_word stored w signed length base)
grown stored tokens.void t false tokens.plain_length tokens.no_base u = (false, refl, refl, refl)
grown stored tokens.void t false tokens.plain_length tokens.char_base u = refl
grown stored tokens.void t false tokens.plain_length tokens.int_base u = refl
grown stored tokens.void t false tokens.plain_length tokens.double_base u = refl
grown stored tokens.void t false tokens.plain_length tokens.whole_base false = refl
grown stored tokens.void t false tokens.plain_length tokens.whole_base true = refl
grown stored tokens.void t false tokens.short_length tokens.no_base u = refl
grown stored tokens.void t false tokens.short_length tokens.char_base u = refl
grown stored tokens.void t false tokens.short_length tokens.int_base u = refl
grown stored tokens.void t false tokens.short_length tokens.double_base u = refl
grown stored tokens.void t false tokens.short_length tokens.whole_base false = refl
grown stored tokens.void t false tokens.short_length tokens.whole_base true = refl
grown stored tokens.void t false tokens.long_length tokens.no_base u = refl
grown stored tokens.void t false tokens.long_length tokens.char_base u = refl
grown stored tokens.void t false tokens.long_length tokens.int_base u = refl
grown stored tokens.void t false tokens.long_length tokens.double_base u = refl
grown stored tokens.void t false tokens.long_length tokens.whole_base false = refl
grown stored tokens.void t false tokens.long_length tokens.whole_base true = refl
grown stored tokens.void t true tokens.plain_length tokens.no_base false = refl
grown stored tokens.void t true tokens.plain_length tokens.no_base true = refl
grown stored tokens.void t true tokens.plain_length tokens.char_base false = refl
grown stored tokens.void t true tokens.plain_length tokens.char_base true = refl
grown stored tokens.void t true tokens.plain_length tokens.int_base false = refl
grown stored tokens.void t true tokens.plain_length tokens.int_base true = refl
grown stored tokens.void t true tokens.plain_length tokens.double_base false = refl
grown stored tokens.void t true tokens.plain_length tokens.double_base true = refl
grown stored tokens.void t true tokens.plain_length tokens.whole_base false = refl
grown stored tokens.void t true tokens.plain_length tokens.whole_base true = refl
grown stored tokens.void t true tokens.short_length tokens.no_base false = refl
grown stored tokens.void t true tokens.short_length tokens.no_base true = refl
grown stored tokens.void t true tokens.short_length tokens.char_base false = refl
grown stored tokens.void t true tokens.short_length tokens.char_base true = refl
grown stored tokens.void t true tokens.short_length tokens.int_base false = refl
grown stored tokens.void t true tokens.short_length tokens.int_base true = refl
grown stored tokens.void t true tokens.short_length tokens.double_base false = refl
grown stored tokens.void t true tokens.short_length tokens.double_base true = refl
grown stored tokens.void t true tokens.short_length tokens.whole_base false = refl
grown stored tokens.void t true tokens.short_length tokens.whole_base true = refl
grown stored tokens.void t true tokens.long_length tokens.no_base false = refl
grown stored tokens.void t true tokens.long_length tokens.no_base true = refl
grown stored tokens.void t true tokens.long_length tokens.char_base false = refl
grown stored tokens.void t true tokens.long_length tokens.char_base true = refl
grown stored tokens.void t true tokens.long_length tokens.int_base false = refl
grown stored tokens.void t true tokens.long_length tokens.int_base true = refl
grown stored tokens.void t true tokens.long_length tokens.double_base false = refl
grown stored tokens.void t true tokens.long_length tokens.double_base true = refl
grown stored tokens.void t true tokens.long_length tokens.whole_base false = refl
grown stored tokens.void t true tokens.long_length tokens.whole_base true = refl
grown stored tokens.char t false tokens.plain_length tokens.no_base u = (u, refl, refl, refl)
grown stored tokens.char t false tokens.plain_length tokens.char_base u = refl
grown stored tokens.char t false tokens.plain_length tokens.int_base u = refl
grown stored tokens.char t false tokens.plain_length tokens.double_base u = refl
grown stored tokens.char t false tokens.plain_length tokens.whole_base false = refl
grown stored tokens.char t false tokens.plain_length tokens.whole_base true = refl
grown stored tokens.char t false tokens.short_length tokens.no_base u = refl
grown stored tokens.char t false tokens.short_length tokens.char_base u = refl
grown stored tokens.char t false tokens.short_length tokens.int_base u = refl
grown stored tokens.char t false tokens.short_length tokens.double_base u = refl
grown stored tokens.char t false tokens.short_length tokens.whole_base false = refl
grown stored tokens.char t false tokens.short_length tokens.whole_base true = refl
grown stored tokens.char t false tokens.long_length tokens.no_base u = refl
grown stored tokens.char t false tokens.long_length tokens.char_base u = refl
grown stored tokens.char t false tokens.long_length tokens.int_base u = refl
grown stored tokens.char t false tokens.long_length tokens.double_base u = refl
grown stored tokens.char t false tokens.long_length tokens.whole_base false = refl
grown stored tokens.char t false tokens.long_length tokens.whole_base true = refl
grown stored tokens.char t true tokens.plain_length tokens.no_base false = (false, refl, refl, refl)
grown stored tokens.char t true tokens.plain_length tokens.no_base true = (true, refl, refl, refl)
grown stored tokens.char t true tokens.plain_length tokens.char_base false = refl
grown stored tokens.char t true tokens.plain_length tokens.char_base true = refl
grown stored tokens.char t true tokens.plain_length tokens.int_base false = refl
grown stored tokens.char t true tokens.plain_length tokens.int_base true = refl
grown stored tokens.char t true tokens.plain_length tokens.double_base false = refl
grown stored tokens.char t true tokens.plain_length tokens.double_base true = refl
grown stored tokens.char t true tokens.plain_length tokens.whole_base false = refl
grown stored tokens.char t true tokens.plain_length tokens.whole_base true = refl
grown stored tokens.char t true tokens.short_length tokens.no_base false = refl
grown stored tokens.char t true tokens.short_length tokens.no_base true = refl
grown stored tokens.char t true tokens.short_length tokens.char_base false = refl
grown stored tokens.char t true tokens.short_length tokens.char_base true = refl
grown stored tokens.char t true tokens.short_length tokens.int_base false = refl
grown stored tokens.char t true tokens.short_length tokens.int_base true = refl
grown stored tokens.char t true tokens.short_length tokens.double_base false = refl
grown stored tokens.char t true tokens.short_length tokens.double_base true = refl
grown stored tokens.char t true tokens.short_length tokens.whole_base false = refl
grown stored tokens.char t true tokens.short_length tokens.whole_base true = refl
grown stored tokens.char t true tokens.long_length tokens.no_base false = refl
grown stored tokens.char t true tokens.long_length tokens.no_base true = refl
grown stored tokens.char t true tokens.long_length tokens.char_base false = refl
grown stored tokens.char t true tokens.long_length tokens.char_base true = refl
grown stored tokens.char t true tokens.long_length tokens.int_base false = refl
grown stored tokens.char t true tokens.long_length tokens.int_base true = refl
grown stored tokens.char t true tokens.long_length tokens.double_base false = refl
grown stored tokens.char t true tokens.long_length tokens.double_base true = refl
grown stored tokens.char t true tokens.long_length tokens.whole_base false = refl
grown stored tokens.char t true tokens.long_length tokens.whole_base true = refl
grown stored tokens.short t false tokens.plain_length tokens.no_base u = (u, refl, refl, refl)
grown stored tokens.short t false tokens.plain_length tokens.char_base u = refl
grown stored tokens.short t false tokens.plain_length tokens.int_base u = (u, refl, refl, refl)
grown stored tokens.short t false tokens.plain_length tokens.double_base u = refl
grown stored tokens.short t false tokens.plain_length tokens.whole_base false = refl
grown stored tokens.short t false tokens.plain_length tokens.whole_base true = refl
grown stored tokens.short t false tokens.short_length tokens.no_base u = refl
grown stored tokens.short t false tokens.short_length tokens.char_base u = refl
grown stored tokens.short t false tokens.short_length tokens.int_base u = refl
grown stored tokens.short t false tokens.short_length tokens.double_base u = refl
grown stored tokens.short t false tokens.short_length tokens.whole_base false = refl
grown stored tokens.short t false tokens.short_length tokens.whole_base true = refl
grown stored tokens.short t false tokens.long_length tokens.no_base u = refl
grown stored tokens.short t false tokens.long_length tokens.char_base u = refl
grown stored tokens.short t false tokens.long_length tokens.int_base u = refl
grown stored tokens.short t false tokens.long_length tokens.double_base u = refl
grown stored tokens.short t false tokens.long_length tokens.whole_base false = refl
grown stored tokens.short t false tokens.long_length tokens.whole_base true = refl
grown stored tokens.short t true tokens.plain_length tokens.no_base false = (false, refl, refl, refl)
grown stored tokens.short t true tokens.plain_length tokens.no_base true = (true, refl, refl, refl)
grown stored tokens.short t true tokens.plain_length tokens.char_base false = refl
grown stored tokens.short t true tokens.plain_length tokens.char_base true = refl
grown stored tokens.short t true tokens.plain_length tokens.int_base false = (false, refl, refl, refl)
grown stored tokens.short t true tokens.plain_length tokens.int_base true = (true, refl, refl, refl)
grown stored tokens.short t true tokens.plain_length tokens.double_base false = refl
grown stored tokens.short t true tokens.plain_length tokens.double_base true = refl
grown stored tokens.short t true tokens.plain_length tokens.whole_base false = refl
grown stored tokens.short t true tokens.plain_length tokens.whole_base true = refl
grown stored tokens.short t true tokens.short_length tokens.no_base false = refl
grown stored tokens.short t true tokens.short_length tokens.no_base true = refl
grown stored tokens.short t true tokens.short_length tokens.char_base false = refl
grown stored tokens.short t true tokens.short_length tokens.char_base true = refl
grown stored tokens.short t true tokens.short_length tokens.int_base false = refl
grown stored tokens.short t true tokens.short_length tokens.int_base true = refl
grown stored tokens.short t true tokens.short_length tokens.double_base false = refl
grown stored tokens.short t true tokens.short_length tokens.double_base true = refl
grown stored tokens.short t true tokens.short_length tokens.whole_base false = refl
grown stored tokens.short t true tokens.short_length tokens.whole_base true = refl
grown stored tokens.short t true tokens.long_length tokens.no_base false = refl
grown stored tokens.short t true tokens.long_length tokens.no_base true = refl
grown stored tokens.short t true tokens.long_length tokens.char_base false = refl
grown stored tokens.short t true tokens.long_length tokens.char_base true = refl
grown stored tokens.short t true tokens.long_length tokens.int_base false = refl
grown stored tokens.short t true tokens.long_length tokens.int_base true = refl
grown stored tokens.short t true tokens.long_length tokens.double_base false = refl
grown stored tokens.short t true tokens.long_length tokens.double_base true = refl
grown stored tokens.short t true tokens.long_length tokens.whole_base false = refl
grown stored tokens.short t true tokens.long_length tokens.whole_base true = refl
grown stored tokens.int t false tokens.plain_length tokens.no_base u = (u, refl, refl, refl)
grown stored tokens.int t false tokens.plain_length tokens.char_base u = refl
grown stored tokens.int t false tokens.plain_length tokens.int_base u = refl
grown stored tokens.int t false tokens.plain_length tokens.double_base u = refl
grown stored tokens.int t false tokens.plain_length tokens.whole_base false = refl
grown stored tokens.int t false tokens.plain_length tokens.whole_base true = refl
grown stored tokens.int t false tokens.short_length tokens.no_base u = (u, refl, refl, refl)
grown stored tokens.int t false tokens.short_length tokens.char_base u = refl
grown stored tokens.int t false tokens.short_length tokens.int_base u = refl
grown stored tokens.int t false tokens.short_length tokens.double_base u = refl
grown stored tokens.int t false tokens.short_length tokens.whole_base false = refl
grown stored tokens.int t false tokens.short_length tokens.whole_base true = refl
grown stored tokens.int t false tokens.long_length tokens.no_base u = (u, refl, refl, refl)
grown stored tokens.int t false tokens.long_length tokens.char_base u = refl
grown stored tokens.int t false tokens.long_length tokens.int_base u = refl
grown stored tokens.int t false tokens.long_length tokens.double_base u = refl
grown stored tokens.int t false tokens.long_length tokens.whole_base false = refl
grown stored tokens.int t false tokens.long_length tokens.whole_base true = refl
grown stored tokens.int t true tokens.plain_length tokens.no_base false = (false, refl, refl, refl)
grown stored tokens.int t true tokens.plain_length tokens.no_base true = (true, refl, refl, refl)
grown stored tokens.int t true tokens.plain_length tokens.char_base false = refl
grown stored tokens.int t true tokens.plain_length tokens.char_base true = refl
grown stored tokens.int t true tokens.plain_length tokens.int_base false = refl
grown stored tokens.int t true tokens.plain_length tokens.int_base true = refl
grown stored tokens.int t true tokens.plain_length tokens.double_base false = refl
grown stored tokens.int t true tokens.plain_length tokens.double_base true = refl
grown stored tokens.int t true tokens.plain_length tokens.whole_base false = refl
grown stored tokens.int t true tokens.plain_length tokens.whole_base true = refl
grown stored tokens.int t true tokens.short_length tokens.no_base false = (false, refl, refl, refl)
grown stored tokens.int t true tokens.short_length tokens.no_base true = (true, refl, refl, refl)
grown stored tokens.int t true tokens.short_length tokens.char_base false = refl
grown stored tokens.int t true tokens.short_length tokens.char_base true = refl
grown stored tokens.int t true tokens.short_length tokens.int_base false = refl
grown stored tokens.int t true tokens.short_length tokens.int_base true = refl
grown stored tokens.int t true tokens.short_length tokens.double_base false = refl
grown stored tokens.int t true tokens.short_length tokens.double_base true = refl
grown stored tokens.int t true tokens.short_length tokens.whole_base false = refl
grown stored tokens.int t true tokens.short_length tokens.whole_base true = refl
grown stored tokens.int t true tokens.long_length tokens.no_base false = (false, refl, refl, refl)
grown stored tokens.int t true tokens.long_length tokens.no_base true = (true, refl, refl, refl)
grown stored tokens.int t true tokens.long_length tokens.char_base false = refl
grown stored tokens.int t true tokens.long_length tokens.char_base true = refl
grown stored tokens.int t true tokens.long_length tokens.int_base false = refl
grown stored tokens.int t true tokens.long_length tokens.int_base true = refl
grown stored tokens.int t true tokens.long_length tokens.double_base false = refl
grown stored tokens.int t true tokens.long_length tokens.double_base true = refl
grown stored tokens.int t true tokens.long_length tokens.whole_base false = refl
grown stored tokens.int t true tokens.long_length tokens.whole_base true = refl
grown stored tokens.long t false tokens.plain_length tokens.no_base u = (u, refl, refl, refl)
grown stored tokens.long t false tokens.plain_length tokens.char_base u = refl
grown stored tokens.long t false tokens.plain_length tokens.int_base u = (u, refl, refl, refl)
grown stored tokens.long t false tokens.plain_length tokens.double_base u = (u, refl, refl, refl)
grown stored tokens.long t false tokens.plain_length tokens.whole_base false = refl
grown stored tokens.long t false tokens.plain_length tokens.whole_base true = refl
grown stored tokens.long t false tokens.short_length tokens.no_base u = refl
grown stored tokens.long t false tokens.short_length tokens.char_base u = refl
grown stored tokens.long t false tokens.short_length tokens.int_base u = refl
grown stored tokens.long t false tokens.short_length tokens.double_base u = refl
grown stored tokens.long t false tokens.short_length tokens.whole_base false = refl
grown stored tokens.long t false tokens.short_length tokens.whole_base true = refl
grown stored tokens.long t false tokens.long_length tokens.no_base u = refl
grown stored tokens.long t false tokens.long_length tokens.char_base u = refl
grown stored tokens.long t false tokens.long_length tokens.int_base u = refl
grown stored tokens.long t false tokens.long_length tokens.double_base u = refl
grown stored tokens.long t false tokens.long_length tokens.whole_base false = refl
grown stored tokens.long t false tokens.long_length tokens.whole_base true = refl
grown stored tokens.long t true tokens.plain_length tokens.no_base false = (false, refl, refl, refl)
grown stored tokens.long t true tokens.plain_length tokens.no_base true = (true, refl, refl, refl)
grown stored tokens.long t true tokens.plain_length tokens.char_base false = refl
grown stored tokens.long t true tokens.plain_length tokens.char_base true = refl
grown stored tokens.long t true tokens.plain_length tokens.int_base false = (false, refl, refl, refl)
grown stored tokens.long t true tokens.plain_length tokens.int_base true = (true, refl, refl, refl)
grown stored tokens.long t true tokens.plain_length tokens.double_base false = refl
grown stored tokens.long t true tokens.plain_length tokens.double_base true = refl
grown stored tokens.long t true tokens.plain_length tokens.whole_base false = refl
grown stored tokens.long t true tokens.plain_length tokens.whole_base true = refl
grown stored tokens.long t true tokens.short_length tokens.no_base false = refl
grown stored tokens.long t true tokens.short_length tokens.no_base true = refl
grown stored tokens.long t true tokens.short_length tokens.char_base false = refl
grown stored tokens.long t true tokens.short_length tokens.char_base true = refl
grown stored tokens.long t true tokens.short_length tokens.int_base false = refl
grown stored tokens.long t true tokens.short_length tokens.int_base true = refl
grown stored tokens.long t true tokens.short_length tokens.double_base false = refl
grown stored tokens.long t true tokens.short_length tokens.double_base true = refl
grown stored tokens.long t true tokens.short_length tokens.whole_base false = refl
grown stored tokens.long t true tokens.short_length tokens.whole_base true = refl
grown stored tokens.long t true tokens.long_length tokens.no_base false = refl
grown stored tokens.long t true tokens.long_length tokens.no_base true = refl
grown stored tokens.long t true tokens.long_length tokens.char_base false = refl
grown stored tokens.long t true tokens.long_length tokens.char_base true = refl
grown stored tokens.long t true tokens.long_length tokens.int_base false = refl
grown stored tokens.long t true tokens.long_length tokens.int_base true = refl
grown stored tokens.long t true tokens.long_length tokens.double_base false = refl
grown stored tokens.long t true tokens.long_length tokens.double_base true = refl
grown stored tokens.long t true tokens.long_length tokens.whole_base false = refl
grown stored tokens.long t true tokens.long_length tokens.whole_base true = refl
grown stored tokens.float t false tokens.plain_length tokens.no_base u = (true, refl, refl, refl)
grown stored tokens.float t false tokens.plain_length tokens.char_base u = refl
grown stored tokens.float t false tokens.plain_length tokens.int_base u = refl
grown stored tokens.float t false tokens.plain_length tokens.double_base u = refl
grown stored tokens.float t false tokens.plain_length tokens.whole_base false = refl
grown stored tokens.float t false tokens.plain_length tokens.whole_base true = refl
grown stored tokens.float t false tokens.short_length tokens.no_base u = refl
grown stored tokens.float t false tokens.short_length tokens.char_base u = refl
grown stored tokens.float t false tokens.short_length tokens.int_base u = refl
grown stored tokens.float t false tokens.short_length tokens.double_base u = refl
grown stored tokens.float t false tokens.short_length tokens.whole_base false = refl
grown stored tokens.float t false tokens.short_length tokens.whole_base true = refl
grown stored tokens.float t false tokens.long_length tokens.no_base u = refl
grown stored tokens.float t false tokens.long_length tokens.char_base u = refl
grown stored tokens.float t false tokens.long_length tokens.int_base u = refl
grown stored tokens.float t false tokens.long_length tokens.double_base u = refl
grown stored tokens.float t false tokens.long_length tokens.whole_base false = refl
grown stored tokens.float t false tokens.long_length tokens.whole_base true = refl
grown stored tokens.float t true tokens.plain_length tokens.no_base false = refl
grown stored tokens.float t true tokens.plain_length tokens.no_base true = refl
grown stored tokens.float t true tokens.plain_length tokens.char_base false = refl
grown stored tokens.float t true tokens.plain_length tokens.char_base true = refl
grown stored tokens.float t true tokens.plain_length tokens.int_base false = refl
grown stored tokens.float t true tokens.plain_length tokens.int_base true = refl
grown stored tokens.float t true tokens.plain_length tokens.double_base false = refl
grown stored tokens.float t true tokens.plain_length tokens.double_base true = refl
grown stored tokens.float t true tokens.plain_length tokens.whole_base false = refl
grown stored tokens.float t true tokens.plain_length tokens.whole_base true = refl
grown stored tokens.float t true tokens.short_length tokens.no_base false = refl
grown stored tokens.float t true tokens.short_length tokens.no_base true = refl
grown stored tokens.float t true tokens.short_length tokens.char_base false = refl
grown stored tokens.float t true tokens.short_length tokens.char_base true = refl
grown stored tokens.float t true tokens.short_length tokens.int_base false = refl
grown stored tokens.float t true tokens.short_length tokens.int_base true = refl
grown stored tokens.float t true tokens.short_length tokens.double_base false = refl
grown stored tokens.float t true tokens.short_length tokens.double_base true = refl
grown stored tokens.float t true tokens.short_length tokens.whole_base false = refl
grown stored tokens.float t true tokens.short_length tokens.whole_base true = refl
grown stored tokens.float t true tokens.long_length tokens.no_base false = refl
grown stored tokens.float t true tokens.long_length tokens.no_base true = refl
grown stored tokens.float t true tokens.long_length tokens.char_base false = refl
grown stored tokens.float t true tokens.long_length tokens.char_base true = refl
grown stored tokens.float t true tokens.long_length tokens.int_base false = refl
grown stored tokens.float t true tokens.long_length tokens.int_base true = refl
grown stored tokens.float t true tokens.long_length tokens.double_base false = refl
grown stored tokens.float t true tokens.long_length tokens.double_base true = refl
grown stored tokens.float t true tokens.long_length tokens.whole_base false = refl
grown stored tokens.float t true tokens.long_length tokens.whole_base true = refl
grown stored tokens.double t false tokens.plain_length tokens.no_base u = (u, refl, refl, refl)
grown stored tokens.double t false tokens.plain_length tokens.char_base u = refl
grown stored tokens.double t false tokens.plain_length tokens.int_base u = refl
grown stored tokens.double t false tokens.plain_length tokens.double_base u = refl
grown stored tokens.double t false tokens.plain_length tokens.whole_base false = refl
grown stored tokens.double t false tokens.plain_length tokens.whole_base true = refl
grown stored tokens.double t false tokens.short_length tokens.no_base u = refl
grown stored tokens.double t false tokens.short_length tokens.char_base u = refl
grown stored tokens.double t false tokens.short_length tokens.int_base u = refl
grown stored tokens.double t false tokens.short_length tokens.double_base u = refl
grown stored tokens.double t false tokens.short_length tokens.whole_base false = refl
grown stored tokens.double t false tokens.short_length tokens.whole_base true = refl
grown stored tokens.double t false tokens.long_length tokens.no_base u = (u, refl, refl, refl)
grown stored tokens.double t false tokens.long_length tokens.char_base u = refl
grown stored tokens.double t false tokens.long_length tokens.int_base u = refl
grown stored tokens.double t false tokens.long_length tokens.double_base u = refl
grown stored tokens.double t false tokens.long_length tokens.whole_base false = refl
grown stored tokens.double t false tokens.long_length tokens.whole_base true = refl
grown stored tokens.double t true tokens.plain_length tokens.no_base false = refl
grown stored tokens.double t true tokens.plain_length tokens.no_base true = refl
grown stored tokens.double t true tokens.plain_length tokens.char_base false = refl
grown stored tokens.double t true tokens.plain_length tokens.char_base true = refl
grown stored tokens.double t true tokens.plain_length tokens.int_base false = refl
grown stored tokens.double t true tokens.plain_length tokens.int_base true = refl
grown stored tokens.double t true tokens.plain_length tokens.double_base false = refl
grown stored tokens.double t true tokens.plain_length tokens.double_base true = refl
grown stored tokens.double t true tokens.plain_length tokens.whole_base false = refl
grown stored tokens.double t true tokens.plain_length tokens.whole_base true = refl
grown stored tokens.double t true tokens.short_length tokens.no_base false = refl
grown stored tokens.double t true tokens.short_length tokens.no_base true = refl
grown stored tokens.double t true tokens.short_length tokens.char_base false = refl
grown stored tokens.double t true tokens.short_length tokens.char_base true = refl
grown stored tokens.double t true tokens.short_length tokens.int_base false = refl
grown stored tokens.double t true tokens.short_length tokens.int_base true = refl
grown stored tokens.double t true tokens.short_length tokens.double_base false = refl
grown stored tokens.double t true tokens.short_length tokens.double_base true = refl
grown stored tokens.double t true tokens.short_length tokens.whole_base false = refl
grown stored tokens.double t true tokens.short_length tokens.whole_base true = refl
grown stored tokens.double t true tokens.long_length tokens.no_base false = refl
grown stored tokens.double t true tokens.long_length tokens.no_base true = refl
grown stored tokens.double t true tokens.long_length tokens.char_base false = refl
grown stored tokens.double t true tokens.long_length tokens.char_base true = refl
grown stored tokens.double t true tokens.long_length tokens.int_base false = refl
grown stored tokens.double t true tokens.long_length tokens.int_base true = refl
grown stored tokens.double t true tokens.long_length tokens.double_base false = refl
grown stored tokens.double t true tokens.long_length tokens.double_base true = refl
grown stored tokens.double t true tokens.long_length tokens.whole_base false = refl
grown stored tokens.double t true tokens.long_length tokens.whole_base true = refl
grown stored tokens.sign false false tokens.plain_length tokens.no_base u = (false, refl, refl, refl)
grown stored tokens.sign false false tokens.plain_length tokens.char_base u = (false, refl, refl, refl)
grown stored tokens.sign false false tokens.plain_length tokens.int_base u = (false, refl, refl, refl)
grown stored tokens.sign false false tokens.plain_length tokens.double_base u = refl
grown stored tokens.sign false false tokens.plain_length tokens.whole_base false = refl
grown stored tokens.sign false false tokens.plain_length tokens.whole_base true = refl
grown stored tokens.sign false false tokens.short_length tokens.no_base u = (false, refl, refl, refl)
grown stored tokens.sign false false tokens.short_length tokens.char_base u = refl
grown stored tokens.sign false false tokens.short_length tokens.int_base u = (false, refl, refl, refl)
grown stored tokens.sign false false tokens.short_length tokens.double_base u = refl
grown stored tokens.sign false false tokens.short_length tokens.whole_base false = refl
grown stored tokens.sign false false tokens.short_length tokens.whole_base true = refl
grown stored tokens.sign false false tokens.long_length tokens.no_base u = (false, refl, refl, refl)
grown stored tokens.sign false false tokens.long_length tokens.char_base u = refl
grown stored tokens.sign false false tokens.long_length tokens.int_base u = (false, refl, refl, refl)
grown stored tokens.sign false false tokens.long_length tokens.double_base u = refl
grown stored tokens.sign false false tokens.long_length tokens.whole_base false = refl
grown stored tokens.sign false false tokens.long_length tokens.whole_base true = refl
grown stored tokens.sign false true tokens.plain_length tokens.no_base false = refl
grown stored tokens.sign false true tokens.plain_length tokens.no_base true = refl
grown stored tokens.sign false true tokens.plain_length tokens.char_base false = refl
grown stored tokens.sign false true tokens.plain_length tokens.char_base true = refl
grown stored tokens.sign false true tokens.plain_length tokens.int_base false = refl
grown stored tokens.sign false true tokens.plain_length tokens.int_base true = refl
grown stored tokens.sign false true tokens.plain_length tokens.double_base false = refl
grown stored tokens.sign false true tokens.plain_length tokens.double_base true = refl
grown stored tokens.sign false true tokens.plain_length tokens.whole_base false = refl
grown stored tokens.sign false true tokens.plain_length tokens.whole_base true = refl
grown stored tokens.sign false true tokens.short_length tokens.no_base false = refl
grown stored tokens.sign false true tokens.short_length tokens.no_base true = refl
grown stored tokens.sign false true tokens.short_length tokens.char_base false = refl
grown stored tokens.sign false true tokens.short_length tokens.char_base true = refl
grown stored tokens.sign false true tokens.short_length tokens.int_base false = refl
grown stored tokens.sign false true tokens.short_length tokens.int_base true = refl
grown stored tokens.sign false true tokens.short_length tokens.double_base false = refl
grown stored tokens.sign false true tokens.short_length tokens.double_base true = refl
grown stored tokens.sign false true tokens.short_length tokens.whole_base false = refl
grown stored tokens.sign false true tokens.short_length tokens.whole_base true = refl
grown stored tokens.sign false true tokens.long_length tokens.no_base false = refl
grown stored tokens.sign false true tokens.long_length tokens.no_base true = refl
grown stored tokens.sign false true tokens.long_length tokens.char_base false = refl
grown stored tokens.sign false true tokens.long_length tokens.char_base true = refl
grown stored tokens.sign false true tokens.long_length tokens.int_base false = refl
grown stored tokens.sign false true tokens.long_length tokens.int_base true = refl
grown stored tokens.sign false true tokens.long_length tokens.double_base false = refl
grown stored tokens.sign false true tokens.long_length tokens.double_base true = refl
grown stored tokens.sign false true tokens.long_length tokens.whole_base false = refl
grown stored tokens.sign false true tokens.long_length tokens.whole_base true = refl
grown stored tokens.sign true false tokens.plain_length tokens.no_base u = (true, refl, refl, refl)
grown stored tokens.sign true false tokens.plain_length tokens.char_base u = (true, refl, refl, refl)
grown stored tokens.sign true false tokens.plain_length tokens.int_base u = (true, refl, refl, refl)
grown stored tokens.sign true false tokens.plain_length tokens.double_base u = refl
grown stored tokens.sign true false tokens.plain_length tokens.whole_base false = refl
grown stored tokens.sign true false tokens.plain_length tokens.whole_base true = refl
grown stored tokens.sign true false tokens.short_length tokens.no_base u = (true, refl, refl, refl)
grown stored tokens.sign true false tokens.short_length tokens.char_base u = refl
grown stored tokens.sign true false tokens.short_length tokens.int_base u = (true, refl, refl, refl)
grown stored tokens.sign true false tokens.short_length tokens.double_base u = refl
grown stored tokens.sign true false tokens.short_length tokens.whole_base false = refl
grown stored tokens.sign true false tokens.short_length tokens.whole_base true = refl
grown stored tokens.sign true false tokens.long_length tokens.no_base u = (true, refl, refl, refl)
grown stored tokens.sign true false tokens.long_length tokens.char_base u = refl
grown stored tokens.sign true false tokens.long_length tokens.int_base u = (true, refl, refl, refl)
grown stored tokens.sign true false tokens.long_length tokens.double_base u = refl
grown stored tokens.sign true false tokens.long_length tokens.whole_base false = refl
grown stored tokens.sign true false tokens.long_length tokens.whole_base true = refl
grown stored tokens.sign true true tokens.plain_length tokens.no_base false = refl
grown stored tokens.sign true true tokens.plain_length tokens.no_base true = refl
grown stored tokens.sign true true tokens.plain_length tokens.char_base false = refl
grown stored tokens.sign true true tokens.plain_length tokens.char_base true = refl
grown stored tokens.sign true true tokens.plain_length tokens.int_base false = refl
grown stored tokens.sign true true tokens.plain_length tokens.int_base true = refl
grown stored tokens.sign true true tokens.plain_length tokens.double_base false = refl
grown stored tokens.sign true true tokens.plain_length tokens.double_base true = refl
grown stored tokens.sign true true tokens.plain_length tokens.whole_base false = refl
grown stored tokens.sign true true tokens.plain_length tokens.whole_base true = refl
grown stored tokens.sign true true tokens.short_length tokens.no_base false = refl
grown stored tokens.sign true true tokens.short_length tokens.no_base true = refl
grown stored tokens.sign true true tokens.short_length tokens.char_base false = refl
grown stored tokens.sign true true tokens.short_length tokens.char_base true = refl
grown stored tokens.sign true true tokens.short_length tokens.int_base false = refl
grown stored tokens.sign true true tokens.short_length tokens.int_base true = refl
grown stored tokens.sign true true tokens.short_length tokens.double_base false = refl
grown stored tokens.sign true true tokens.short_length tokens.double_base true = refl
grown stored tokens.sign true true tokens.short_length tokens.whole_base false = refl
grown stored tokens.sign true true tokens.short_length tokens.whole_base true = refl
grown stored tokens.sign true true tokens.long_length tokens.no_base false = refl
grown stored tokens.sign true true tokens.long_length tokens.no_base true = refl
grown stored tokens.sign true true tokens.long_length tokens.char_base false = refl
grown stored tokens.sign true true tokens.long_length tokens.char_base true = refl
grown stored tokens.sign true true tokens.long_length tokens.int_base false = refl
grown stored tokens.sign true true tokens.long_length tokens.int_base true = refl
grown stored tokens.sign true true tokens.long_length tokens.double_base false = refl
grown stored tokens.sign true true tokens.long_length tokens.double_base true = refl
grown stored tokens.sign true true tokens.long_length tokens.whole_base false = refl
grown stored tokens.sign true true tokens.long_length tokens.whole_base true = refl

-- which word a keyword is
pub word_is : (k : Keyword) (w : TypeWord) → word_sort k ≡ tokens.basic w → (t : Bool) × (k ≡ word_by w t)
word_is words.Void tokens.void e = (false, refl)
word_is words.Char tokens.char e = (false, refl)
word_is words.Short tokens.short e = (false, refl)
word_is words.Int tokens.int e = (false, refl)
word_is words.Long tokens.long e = (false, refl)
word_is words.Float tokens.float e = (false, refl)
word_is words.Double tokens.double e = (false, refl)
word_is words.Signed tokens.sign e = (false, refl)
word_is words.Unsigned tokens.sign e = (true, refl)
word_is _ _ e = absurd cc

-- ---- a list of specifiers

abbrev pub HasWord : List Keyword → Type 0
HasWord [] = ⊥
HasWord (k ∷ ks) = ⊤

-- what was seen comes of these words, or of one specifier of a whole type
pub data SeenWords : Seen → ℕ → List Keyword → Type 0 where
  by_words : {seen : Seen} {ks : List Keyword} (u : Bool) → rests ks ≡ rests (written seen.signed seen.length seen.base u) → list_any (λ o. is_some o) (rests ks) ≡ true → (typed seen.signed seen.length seen.base ≡ true → HasWord ks) → (typed seen.signed seen.length seen.base ≡ false → ks ≡ []) → SeenWords seen 0 ks
  by_whole : {seen : Seen} → seen.signed ≡ false → seen.length ≡ tokens.plain_length → seen.base ≡ tokens.whole_base → SeenWords seen 1 []

pub nothing_yet : (stored : Bool) → SeenWords (record tokens.nothing_seen { stored = stored }) 0 []
nothing_yet stored = by_words false refl refl (λ e. absurd cc) (λ e. refl)

of_words : (ks : List Keyword) → HasWord ks → list_any (λ o. is_some o) (rests ks) ≡ true → is_one_type 0 ks ≡ true
of_words [] h e = elim h [ ]
of_words (k ∷ ks) h e = one_of (k ∷ ks) whole_types ∙ e

-- where some type specifier was seen, they are one type
pub is_one : (seen : Seen) (n : ℕ) (ks : List Keyword) → SeenWords seen n ks → typed seen.signed seen.length seen.base ≡ true → is_one_type n ks ≡ true
is_one seen n ks (by_words u same some words none) e = of_words ks (words e) some
is_one seen n ks (by_whole a b c) e = refl

has_more : (ks : List Keyword) (k : Keyword) → HasWord (ks ++ k ∷ [])
has_more [] k = tt
has_more (j ∷ ks) k = tt

whole_takes_none : (stored : Bool) (w : TypeWord) → add_word stored w false tokens.plain_length tokens.whole_base ≡ None
whole_takes_none stored tokens.void = refl
whole_takes_none stored tokens.char = refl
whole_takes_none stored tokens.short = refl
whole_takes_none stored tokens.int = refl
whole_takes_none stored tokens.long = refl
whole_takes_none stored tokens.float = refl
whole_takes_none stored tokens.double = refl
whole_takes_none stored tokens.sign = refl

none_behind_whole : (stored : Bool) (w : TypeWord) (signed : Bool) (length : Length) (base : Base) → signed ≡ false → length ≡ tokens.plain_length → base ≡ tokens.whole_base → add_word stored w signed length base ≡ None
none_behind_whole stored w signed length base a b c = ap₂ (λ v l. add_word stored w v l base) a b ∙ ap (λ v. add_word stored w false tokens.plain_length v) c ∙ whole_takes_none stored w

grown_into : (w : TypeWord) (t : Bool) (seen : Seen) (u : Bool) (ks : List Keyword) (o : Option Seen) (new : Seen) → rests ks ≡ rests (written seen.signed seen.length seen.base u) → o ≡ Some new → Grown (word_by w t) seen.signed seen.length seen.base u o → SeenWords new 0 (ks ++ word_by w t ∷ [])
grown_into w t seen u ks None new same e g = absurd cc
grown_into w t seen u ks (Some made) new same e g =
    let one : made ≡ new = cc in
    let step_there = rests_more ks (word_by w t) ∙ ap (λ v. map (step (word_by w t)) v) same ∙ g.1 in
    subst (λ v. SeenWords v 0 (ks ++ word_by w t ∷ [])) one (by_words g.0 step_there (ap (λ v. list_any (λ o. is_some o) v) step_there ∙ g.2) (λ e. has_more ks (word_by w t)) (λ e. absurd cc))

-- with one word more
pub word_more : (stored : Bool) (seen new : Seen) (n : ℕ) (ks : List Keyword) (k : Keyword) (w : TypeWord) → word_sort k ≡ tokens.basic w → add_word stored w seen.signed seen.length seen.base ≡ Some new → SeenWords seen n ks → SeenWords new n (ks ++ k ∷ [])
word_more stored seen new n ks k w sort e (by_words u same some words none) =
    let which = word_is k w sort in
    subst (λ v. SeenWords new 0 (ks ++ v ∷ [])) (sym which.1) (grown_into w which.0 seen u ks (add_word stored w seen.signed seen.length seen.base) new same e (grown stored w which.0 seen.signed seen.length seen.base u))
word_more stored seen new n ks k w sort e (by_whole a b c) = let none = none_behind_whole stored w seen.signed seen.length seen.base a b c in absurd cc

-- with a specifier of a whole type
pub whole_more : (seen : Seen) (n : ℕ) (ks : List Keyword) → typed seen.signed seen.length seen.base ≡ false → SeenWords seen n ks → SeenWords (tokens.whole_seen seen) (n + 1) ks
whole_more seen n ks e (by_words u same some words none) = subst (λ v. SeenWords (tokens.whole_seen seen) 1 v) (sym (none e)) (by_whole refl refl refl)
whole_more seen n ks e (by_whole a b c) =
    let whole : typed seen.signed seen.length seen.base ≡ true = ap₂ (λ v l. typed v l seen.base) a b ∙ ap (λ v. typed false tokens.plain_length v) c in
    absurd cc

-- ---- each list of one type is taken, word by word

grown_or_not : (k : Keyword) (signed : Bool) (length : Length) (base : Base) (u : Bool) (o : Option Seen) → Grown k signed length base u o → list_any (λ o. is_some o) (map (step k) (rests (written signed length base u))) ≡ true → is_some o ≡ true
grown_or_not k signed length base u None g e = absurd cc
grown_or_not k signed length base u (Some new) g e = refl

one_type_words : (ks : List Keyword) → is_one_type 0 ks ≡ true → list_any (λ o. is_some o) (rests ks) ≡ true
one_type_words [] e = absurd cc
one_type_words (k ∷ ks) e = sym (one_of (k ∷ ks) whole_types) ∙ e

no_whole_with_words : (n : ℕ) (ks js : List Keyword) (k : Keyword) → is_one_type (suc n) (ks ++ k ∷ js) ≡ false
no_whole_with_words zero [] js k = refl
no_whole_with_words zero (j ∷ ks) js k = refl
no_whole_with_words (suc n) ks js k = refl

-- a word of one type may stand behind what was seen
pub word_read : (stored : Bool) (seen : Seen) (n m : ℕ) (ks js : List Keyword) (k : Keyword) (w : TypeWord) → word_sort k ≡ tokens.basic w → SeenWords seen n ks → is_one_type (n + m) (ks ++ k ∷ js) ≡ true → is_some (add_word stored w seen.signed seen.length seen.base) ≡ true
word_read stored seen n zero ks js k w sort (by_words u same some words none) e =
    let which = word_is k w sort in
    let front = front_of_any (ks ++ k ∷ []) js whole_types (one_type_words ((ks ++ k ∷ []) ++ js) (ap (is_one_type 0) (append_assoc ks (k ∷ []) js) ∙ e)) in
    let there = sym (ap (λ v. list_any (λ o. is_some o) v) (rests_more ks k ∙ ap (λ v. map (step k) v) same)) ∙ front in
    grown_or_not (word_by w which.0) seen.signed seen.length seen.base u (add_word stored w seen.signed seen.length seen.base) (grown stored w which.0 seen.signed seen.length seen.base u) (subst (λ v. list_any (λ o. is_some o) (map (step v) (rests (written seen.signed seen.length seen.base u))) ≡ true) which.1 there)
word_read stored seen n (suc m) ks js k w sort (by_words u same some words none) e =
    let no = no_whole_with_words m ks js k in
    let size : 0 + suc m ≡ suc m = omega arith in
    let count : is_one_type (suc m) (ks ++ k ∷ js) ≡ true = subst (λ v. is_one_type v (ks ++ k ∷ js) ≡ true) size e in
    absurd cc
word_read stored seen n m ks js k w sort (by_whole a b c) e =
    let no = no_whole_with_words m [] js k in
    let size : 1 + m ≡ suc m = omega arith in
    let count : is_one_type (suc m) (k ∷ js) ≡ true = subst (λ v. is_one_type v (k ∷ js) ≡ true) size e in
    absurd cc

one_alone : (m : ℕ) (ks : List Keyword) → is_one_type (suc m) ks ≡ true → (m ≡ 0) × (ks ≡ [])
one_alone zero [] e = (refl, refl)
one_alone zero (k ∷ ks) e = absurd cc
one_alone (suc m) ks e = absurd cc

no_word : (ks : List Keyword) → HasWord ks → ks ≡ [] → ⊥
no_word [] h e = h
no_word (k ∷ ks) h e = cc

front_nil : (ks js : List Keyword) → ks ++ js ≡ [] → ks ≡ []
front_nil [] js e = refl
front_nil (k ∷ ks) js e = absurd cc

which_bool : (b : Bool) → (b ≡ true) ⊎ (b ≡ false)
which_bool true = inl refl
which_bool false = inr refl

-- a specifier of a whole type may stand where none was seen
pub whole_read : (seen : Seen) (n m : ℕ) (ks js : List Keyword) → SeenWords seen n ks → is_one_type (n + (1 + m)) (ks ++ js) ≡ true → typed seen.signed seen.length seen.base ≡ false
whole_read seen n m ks js (by_words u same some words none) e =
    let size : 0 + (1 + m) ≡ suc m = omega arith in
    let alone = one_alone m (ks ++ js) (subst (λ v. is_one_type v (ks ++ js) ≡ true) size e) in
    elim (which_bool (typed seen.signed seen.length seen.base)) [
      | inl e1 ↦ absurd (no_word ks (words e1) (front_nil ks js alone.1))
      | inr e2 ↦ e2
    ]
whole_read seen n m ks js (by_whole a b c) e =
    let size : 1 + (1 + m) ≡ suc (1 + m) = omega arith in
    let alone = one_alone (1 + m) js (subst (λ v. is_one_type v js ≡ true) size e) in
    absurd (omega (arith, alone.0))
