-- Literals, names and sizes are typed (C90 6.1.3, 6.1.4, 6.3.1, 6.3.3.4).
use Rattle.std.proofs.Common.{◌≡◌, inl, ℕ, ◌+◌, ◌^◌, ◌<◌, nat_le, ℤ, pos, ◌≤ℤ◌, ◌&&◌, not, if◌then◌else◌, Bool, true, false, length, List, Option, Some, None, refl, ap, sym, subst, true≢false, arith}
use Rattle.std.specs.Prelude.{slice_get, int_le}
use Rattle.std.proofs.lemmas.Bool.{leb-true}
use Rattle.std.proofs.lemmas.Int.{ints}
use Rattle.sp_tree.specs.declared.fault.Place.{Place}
use Rattle.sp_tree.specs.declared.token.Number.{Number}
use Rattle.sp_types.specs.declared.ctype.IntKind.{IntKind}
use Rattle.sp_types.specs.declared.ctype.IntKind.TheVariants.{Char, Int, UInt, Long, ULong}
use Rattle.sp_types.specs.Types.{CType, integer, function, Signature}
use Rattle.sp_types.specs.Typed.{Typed, typed}
use Rattle.sp_types.specs.Typed as tree
use Rattle.sp_types.specs.Layout.{layout}
use Rattle.sp_types.specs.Structs.{IsFormed}
use Rattle.sp_types.specs.Programs.{Object, Function}
use Rattle.sp_check_constants.specs.Constants.{least, greatest, first_that_holds, literal_kind}
use Rattle.sp_check_scopes.specs.Meanings.{Meaning}
use Rattle.sp_check_scopes.specs.Meanings as means
use Rattle.sp_check_scopes.specs.Scopes.{visible_meaning}
use Rattle.sp_check_binary_rules.specs.Rules.{is_jump}
use Rattle.sp_check_env.specs.Env.{Env, object_type, function_type, with_object}
use Rattle.sp_check_primaries.specs.Names.{bytes_of, designated, name_checked}
use Rattle.sp_check_primaries.specs.Literals.{number_checked, character_checked, size_checked, text_bytes, text_type, text_object, with_text, text_checked}
use Rattle.sp_ir.specs.Formed.{InKind}
use Rattle.sp_check_formed_laws.proofs.Lists.{none_some, some_is, get_below, pushed_last}
use Rattle.sp_check_formed_laws.proofs.Composites.{array_formed}
use Rattle.sp_check_formed_laws.proofs.After.{Gives, gives, gives_none, gives_met, gives_given}
use Rattle.sp_check_typing.specs.Programs.{lasts}
use Rattle.sp_check_written_laws.specs.Laws.{AreByteNames}
use Rattle.sp_check_expr_laws.specs.Sound.{is_seen, scene_of}
use Rattle.sp_check_expr_laws.proofs.Types.{and_true, or_right, tells_self, IsLaid, type_laid}
use Rattle.sp_check_expr_laws.proofs.Trees.{IsMade}
use Rattle.sp_check_expr_laws.proofs.Envs.{IsFit, fit_table, visible_fitting, Reaches, reaches_on}
use Rattle.sp_check_expr_laws.proofs.After.{After, done, met, given}
use Rattle.sp_check_expr_laws.proofs.Updates.{reaches_constant, reaches_aside}
use Rattle.sp_check_expr_laws.proofs.Characters.{text_low}
use Rattle.sp_check_expr_laws.proofs.Functions.{function_good}

-- ---- numbers (C90 6.1.3.2)

le_from : (a b : ℤ) → int_le a b ≡ true → a ≤ℤ b
le_from a b h = grind (arith, ints)

held_int : (v : ℕ) → pos v ≤ℤ greatest Int → InKind Int (pos v)
held_int v h = (omega (arith, ints), h)

held_unsigned : (v : ℕ) → pos v ≤ℤ greatest UInt → InKind UInt (pos v)
held_unsigned v h = (omega (arith, ints), h)

held_long : (v : ℕ) → pos v ≤ℤ greatest Long → InKind Long (pos v)
held_long v h = (omega (arith, ints), h)

held_last : (v : ℕ) → v < 2 ^ 64 → InKind ULong (pos v)
held_last v h = (omega (arith, ints), omega (arith, ints))

first_held : (v : ℕ) (k other : IntKind) → (pos v ≤ℤ greatest k → InKind k (pos v))
    → InKind other (pos v) → InKind (first_that_holds v k other) (pos v)
first_held v k other h g =
    by (int_le (pos v) (greatest k)) (λ e. h (le_from (pos v) (greatest k) e))
  where
    by : (b : Bool) → (b ≡ true → InKind k (pos v)) → InKind (if b then k else other) (pos v)
    by true h = h refl
    by false h = g

either_held : (v : ℕ) (b : Bool) (j k : IntKind) → InKind j (pos v) → InKind k (pos v)
    → InKind (if b then j else k) (pos v)
either_held v true j k h g = h
either_held v false j k h g = g

pub literal_held : (n : Number) → n.value < 2 ^ 64 → InKind (literal_kind n) (pos n.value)
literal_held n h =
    let last : InKind ULong (pos n.value) = held_last n.value h in
    let long : InKind (first_that_holds n.value Long ULong) (pos n.value) =
    first_held n.value Long ULong (held_long n.value) last in
    either_held n.value n.unsigned _ _
    (either_held n.value n.long _ _ last
    (first_held n.value UInt ULong (held_unsigned n.value) last))
    (either_held n.value n.long _ _ long (either_held n.value n.decimal _ _
    (first_held n.value Int (first_that_holds n.value Long ULong) (held_int n.value) long)
    (first_held n.value Int (first_that_holds n.value UInt (first_that_holds n.value Long ULong))
    (held_int n.value) (first_held n.value UInt (first_that_holds n.value Long ULong)
    (held_unsigned n.value) long))))

pub enumerator_held : (z : ℤ) → (int_le (least Int) z && int_le z (greatest Int)) ≡ true
    → InKind Int z
enumerator_held z h =
    let both : (int_le (least Int) z ≡ true) × (int_le z (greatest Int) ≡ true) =
    and_true (int_le (least Int) z) (int_le z (greatest Int)) h in
    (le_from (least Int) z both.0, le_from z (greatest Int) both.1)

-- a rule's tree, in the scene behind the rule
abbrev pub IsMadeIn : (ℕ → Bool) → Typed → Env → Type 0
IsMadeIn own e env = IsMade (scene_of own env) e

module _ (own : ℕ → Bool) (env : Env) (h : IsFit own env) where
  pub number_made : (n : Number) (p m : Place) → n.value < 2 ^ 64
      → After own env (IsMadeIn own) (number_checked env n p m)
  number_made n p m low =
      done (reaches_constant own env h (pos n.value))
      (record {
        formed = tt;
        sound = tt;
        typed = λ solid. (refl, tt, literal_held n low);
        placed = λ e. absurd (true≢false (sym e));
      })

  pub character_made : (z : ℤ) (p m : Place) → InKind Int z
      → After own env (IsMadeIn own) (character_checked env z p m)
  character_made z p m held =
      done (reaches_constant own env h z)
      (record {
        formed = tt;
        sound = tt;
        typed = λ solid. (refl, tt, held);
        placed = λ e. absurd (true≢false (sym e));
      })

  pub size_made : (p m : Place) (t : CType) → IsFormed env.tables.structs t
      → After own env (IsMadeIn own) (size_checked env p m t)
  size_made p m t f =
      given {o = layout env.tables.structs t} _ _ (λ e at.
      let laid : IsLaid e = type_laid env.tables.structs (fit_table own env h) t e f at in
      done (reaches_constant own env h (pos e.size))
      (record {
        formed = tt;
        sound = tt;
        typed = λ solid. (refl, tt, held_last e.size (omega (arith, laid.2)));
        placed = λ e. absurd (true≢false (sym e));
      }))

  pub text_made : (names : List (List ℕ)) → AreByteNames names → (ns : List ℕ) (p m : Place)
      → After own env (IsMadeIn own) (text_checked names env ns p m)
  text_made names low ns p m =
      met {b = nat_le (length (text_bytes names ns) + 1) (2 ^ 40)} _ _ (λ few.
      let bytes : List ℕ = text_bytes names ns in
      let o : Object = text_object bytes p in
      let formed : IsFormed env.tables.structs (text_type bytes) =
      array_formed env.tables.structs (integer Char) (length bytes + 1) tt (omega arith) in
      let g : Reaches own env (with_object env o) =
      reaches_aside own env h o refl (formed, refl) tt
      (inl (record {
        bytes = bytes;
        low = text_low names ns low;
        few = leb-true (length bytes + 1) (2 ^ 40) few;
        place = p;
        is = refl;
      })) in
      let k : Reaches own (with_object env o) (with_text env bytes p) =
      reaches_constant own (with_object env o) g.fit (pos (length bytes + 1)) in
      done (reaches_on own env (with_object env o) (with_text env bytes p) g k) (record {
        formed = formed;
        sound = tt;
        typed = λ solid. (
          refl,
          formed,
          record {
            object = o;
            there = pushed_last env.tables.objects o;
            visible = or_right (own (length env.tables.objects)) _
                (ap lasts (pushed_last env.tables.objects o));
            told = tells_self _;
          },
        );
        placed = λ e. refl;
      }))

  -- ---- names

  object_found : (k : ℕ) (t : CType) → object_type (slice_get env.tables.objects k) ≡ Some t
      → (o : Object) × (slice_get env.tables.objects k ≡ Some o) × (o.of ≡ t)
  object_found k t e = by (slice_get env.tables.objects k) refl e
    where
      by : (o : Option Object) → slice_get env.tables.objects k ≡ o → object_type o ≡ Some t
          → (o : Object) × (slice_get env.tables.objects k ≡ Some o) × (o.of ≡ t)
      by None g f = absurd (none_some t f)
      by (Some o) g f = (o, g, some_is o.of t f)

  function_below : (k : ℕ) (s : Signature) → function_type (slice_get env.tables.functions k)
      ≡ Some s → k < length env.tables.functions
  function_below k s e = by (slice_get env.tables.functions k) refl e
    where
      by : (o : Option Function) → slice_get env.tables.functions k ≡ o → function_type o ≡ Some s
          → k < length env.tables.functions
      by None g f = absurd (none_some s f)
      by (Some x) g f = get_below env.tables.functions k x g

  object_made : (k : ℕ) (t : CType) (p : Place) (o : Object)
      → slice_get env.tables.objects k ≡ Some o → o.of ≡ t → is_seen own env.tables.objects k ≡ true
      → IsMade (scene_of own env) (typed (tree.object k) t p p)
  object_made k t p o at is seen =
      subst (λ t. IsMade (scene_of own env) (typed (tree.object k) t p p)) is (record {
        formed = (h.formed.objects k o at).0;
        sound = h.objects k o at;
        typed = λ solid. (
          solid,
          (h.formed.objects k o at).0,
          record { object = o; there = at; visible = seen; told = tells_self o.of },
        );
        placed = λ e. refl;
      })

  pub name_made : (names : List (List ℕ)) (n : ℕ) (p : Place)
      → Gives (IsMade (scene_of own env)) (name_checked names env n p)
  name_made names n p =
      gives_met {b = not (is_jump (bytes_of names n))} _ _
      (λ plain. by (visible_meaning env.scopes n) refl)
    where
      by : (o : Option Meaning) → visible_meaning env.scopes n ≡ o
          → Gives (IsMade (scene_of own env)) (designated env p o)
      by None e = gives_none
      by (Some (means.object k)) e =
          gives_given {o = object_type (slice_get env.tables.objects k)} _ _
          (λ t g. gives (one t (object_found k t g)))
        where
          one : (t : CType) → (o : Object) × (slice_get env.tables.objects k ≡ Some o) × (o.of ≡ t)
              → IsMade (scene_of own env) (typed (tree.object k) t p p)
          one t x = object_made k t p x.0 x.1 x.2 (visible_fitting own env n (means.object k) h e)
      by (Some (means.function k)) e =
          gives_given {o = function_type (slice_get env.tables.functions k)} _ _
          (λ s g. gives {x = typed (tree.function k) (function s) p p} (record {
            formed = (function_good own env h k s g).0;
            sound = (function_good own env h k s g).1;
            typed = λ solid. (
              refl,
              (function_good own env h k s g).0,
              (refl, function_below k s g),
            );
            placed = λ e. refl;
          }))
      by (Some (means.constant z)) e =
          gives {x = typed (tree.constant z) (integer Int) p p}
          (record {
            formed = tt;
            sound = tt;
            typed = λ solid. (refl, tt, visible_fitting own env n (means.constant z) h e);
            placed = λ e. absurd (true≢false (sym e));
          })
      by (Some (means.named t)) e = gives_none
