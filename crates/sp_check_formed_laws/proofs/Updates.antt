-- What a rule does to an environment leaves it formed.
use Rattle.std.proofs.Common.{ℕ, ◌≤◌, ℤ, Bool, true, false, length, List, [], ◌∷◌, ◌++◌, Option, Some, None, if◌then◌else◌, refl, arith}
use Rattle.std.specs.Prelude.{slice_set}
use Rattle.sp_tree.specs.declared.fault.Place.{Place}
use Rattle.sp_types.specs.Types.{CType, Signature, Struct}
use Rattle.sp_types.specs.Structs.{IsFormed, IsFormedSignature}
use Rattle.sp_types.specs.Programs.{Object, Function}
use Rattle.sp_types.specs.declared.program.Linkage.{Linkage}
use Rattle.sp_types.specs.declared.program.Linkage.TheVariants.{External, Internal, Inner}
use Rattle.sp_tree.specs.declared.fault.FaultKind.TheVariants.{RedeclaredName}
use Rattle.sp_base_checked.specs.Answers.{accepted, refused}
use Rattle.sp_check_scopes.specs.declared.meaning.Tag.{Tag}
use Rattle.sp_check_scopes.specs.Meanings.{Meaning}
use Rattle.sp_check_scopes.specs.declared.scope.ScopeKind.{ScopeKind}
use Rattle.sp_check_scopes.specs.declared.scope.ScopeKind.TheVariants.{Block, Parameters}
use Rattle.sp_check_scopes.specs.Scopes.{Scope, Scopes, file_scope, entry, is_block, name_added, named_in_block, meaning_in_block}
use Rattle.sp_check_scopes.specs.Scopes as scopes
use Rattle.sp_base_checked.specs.Units.{Typing}
use Rattle.sp_check_env.specs.declared.env.Entity.{Entity}
use Rattle.sp_check_env.specs.Env.{Env, unit_start, entered, list_entered, left, set_aside, resumed, with_tag, is_same_entity, declared_beside, declared, declared_in_block, with_link, with_object, set_object, with_function, set_function, typed_by, with_function_type, with_constant, with_typings, typings_with, with_typing}
use Rattle.sp_check_formed_laws.proofs.Lists.{Each, each_none, each_first, each_behind, each_pushed, each_set, each_changed, each_inserted, pushed_length, set_length}
use Rattle.sp_check_formed_laws.proofs.Envs.{IsMeant, AreMeant, IsFormedObject, IsFormedFunction, below_more, IsFormedEnv, Goes, goes_nowhere}
use Rattle.sp_check_formed_laws.proofs.After.{Leads, leads, leads_none}

pub start_formed : IsFormedEnv unit_start
start_formed = record {
  table = λ k s at. absurd (cc);
  objects = λ k o at. absurd (cc);
  functions = λ k f at. absurd (cc);
  typings = λ k t at. absurd (cc);
  inner = λ k n at. absurd (cc);
  around = λ k s at. absurd (cc);
}

-- a name more in the innermost block of these
named_around : (ss : List Struct) (around : List Scope) (n : ℕ) (m : Meaning) → Each (λ s. AreMeant ss s.names) around → IsMeant ss m
    → Each (λ s. AreMeant ss s.names) (named_in_block around n m)
named_around ss [] n m h p = h
named_around ss (s ∷ around) n m h p = by (is_block s.kind) (named_around ss around n m (each_behind (λ s. AreMeant ss s.names) s around h) p)
  where
    by : (b : Bool) → Each (λ s. AreMeant ss s.names) (named_in_block around n m) → Each (λ s. AreMeant ss s.names) (if b then name_added s n m ∷ around else s ∷ named_in_block around n m)
    by true rest =
        each_first (λ s. AreMeant ss s.names) (name_added s n m) around (each_inserted (IsMeant ss) s.names n m (h 0 s refl) p) (each_behind (λ s. AreMeant ss s.names) s around h)
    by false rest = each_first (λ s. AreMeant ss s.names) s (named_in_block around n m) (h 0 s refl) rest

module _ (env : Env) (h : IsFormedEnv env) where
  -- ---- scopes

  pub goes_inside : (k : ScopeKind) → Goes env (record env { scopes = scopes.entered k env.scopes })
  goes_inside k = record {
    formed = record {
      table = h.table;
      objects = h.objects;
      functions = h.functions;
      typings = h.typings;
      inner = each_none (λ n. IsMeant env.tables.structs n.1);
      around = each_first (λ s. AreMeant env.tables.structs s.names) env.scopes.inner env.scopes.around h.inner h.around;
    };
    keeps = (goes_nowhere env h).keeps;
  }

  pub goes_entered : Goes env (entered env)
  goes_entered = goes_inside Block

  pub goes_list_entered : Goes env (list_entered env)
  goes_list_entered = goes_inside Parameters

  -- the innermost scope goes; in the place of the file's come these
  goes_out : (file : Scopes) → Goes env (record env { scopes = file }) → Goes env (record env { scopes = scopes.left_to file env.scopes.around })
  goes_out file g = by env.scopes.around h.around
    where
      by : (around : List Scope) → Each (λ s. AreMeant env.tables.structs s.names) around → Goes env (record env { scopes = scopes.left_to file around })
      by [] f = g
      by (s ∷ ss) f = record {
        formed = record {
          table = h.table;
          objects = h.objects;
          functions = h.functions;
          typings = h.typings;
          inner = f 0 s refl;
          around = each_behind (λ s. AreMeant env.tables.structs s.names) s ss f;
        };
        keeps = (goes_nowhere env h).keeps;
      }

  pub goes_left : Goes env (left env)
  goes_left = goes_out env.scopes (goes_nowhere env h)

  pub goes_set_aside : Goes env (set_aside env)
  goes_set_aside = goes_out file_scope record {
    formed = record {
      table = h.table;
      objects = h.objects;
      functions = h.functions;
      typings = h.typings;
      inner = each_none (λ n. IsMeant env.tables.structs n.1);
      around = each_none (λ s. AreMeant env.tables.structs s.names);
    };
    keeps = (goes_nowhere env h).keeps;
  }

  pub goes_resumed : (s : Scope) → AreMeant env.tables.structs s.names → Goes env (resumed s env)
  goes_resumed s meant = record {
    formed = record {
      table = h.table;
      objects = h.objects;
      functions = h.functions;
      typings = h.typings;
      inner = meant;
      around = each_first (λ s. AreMeant env.tables.structs s.names) env.scopes.inner env.scopes.around h.inner h.around;
    };
    keeps = (goes_nowhere env h).keeps;
  }

  pub goes_tagged : (n : ℕ) (t : Tag) → Goes env (with_tag env n t)
  goes_tagged n t = record {
    formed = record { table = h.table; objects = h.objects; functions = h.functions; typings = h.typings; inner = h.inner; around = h.around };
    keeps = (goes_nowhere env h).keeps;
  }

  goes_named : (n : ℕ) (m : Meaning) → IsMeant env.tables.structs m → Goes env (record env { scopes = scopes.with_name env.scopes n m })
  goes_named n m p = record {
    formed = record {
      table = h.table;
      objects = h.objects;
      functions = h.functions;
      typings = h.typings;
      inner = each_inserted (IsMeant env.tables.structs) env.scopes.inner.names n m h.inner p;
      around = h.around;
    };
    keeps = (goes_nowhere env h).keeps;
  }

  -- the name goes to these scopes, or is there already
  leads_beside : (named : Scopes) (m : Meaning) (p : Place) (o : Option Meaning) → Goes env (record env { scopes = named }) → Leads env (declared_beside env named m p o)
  leads_beside named m p None g = leads g
  leads_beside named m p (Some old) g = by (is_same_entity old m)
    where
      by : (b : Bool) → Leads env (if b then accepted env else refused RedeclaredName p)
      by true = leads (goes_nowhere env h)
      by false = leads_none

  pub leads_declared : (n : ℕ) (m : Meaning) (p : Place) → IsMeant env.tables.structs m → Leads env (declared env n m p)
  leads_declared n m p meant = leads_beside (scopes.with_name env.scopes n m) m p (entry env.scopes.inner.names n) (goes_named n m meant)

  goes_named_around : (n : ℕ) (m : Meaning) → IsMeant env.tables.structs m
      → Goes env (record env { scopes = record env.scopes { around = named_in_block env.scopes.around n m } })
  goes_named_around n m p = record {
    formed = record {
      table = h.table;
      objects = h.objects;
      functions = h.functions;
      typings = h.typings;
      inner = h.inner;
      around = named_around env.tables.structs env.scopes.around n m h.around p;
    };
    keeps = (goes_nowhere env h).keeps;
  }

  goes_named_in_block : (n : ℕ) (m : Meaning) → IsMeant env.tables.structs m → Goes env (record env { scopes = scopes.with_block_name env.scopes n m })
  goes_named_in_block n m p = by (is_block env.scopes.inner.kind)
    where
      by : (b : Bool) → Goes env (record env { scopes = if b then scopes.with_name env.scopes n m else record env.scopes { around = named_in_block env.scopes.around n m } })
      by true = goes_named n m p
      by false = goes_named_around n m p

  pub leads_declared_in_block : (n : ℕ) (m : Meaning) (p : Place) → IsMeant env.tables.structs m → Leads env (declared_in_block env n m p)
  leads_declared_in_block n m p meant = leads_beside (scopes.with_block_name env.scopes n m) m p (meaning_in_block env.scopes n) (goes_named_in_block n m meant)

  -- ---- tables

  pub goes_linked : (n : ℕ) (e : Entity) → Goes env (with_link env n e)
  goes_linked n e = record {
    formed = record { table = h.table; objects = h.objects; functions = h.functions; typings = h.typings; inner = h.inner; around = h.around };
    keeps = (goes_nowhere env h).keeps;
  }

  pub goes_constant : (z : ℤ) → Goes env (with_constant env z)
  goes_constant z = record {
    formed = record { table = h.table; objects = h.objects; functions = h.functions; typings = h.typings; inner = h.inner; around = h.around };
    keeps = record { longer = omega arith; closed = λ k s at l. at; objects = omega arith };
  }

  more_objects : (n : ℕ) → length env.tables.objects ≤ n → Each (λ f. IsFormedFunction env.tables.structs n f) env.tables.functions
  more_objects n l = λ k f at.
      ((h.functions k f at).0, below_more (length env.tables.objects) n f.formals l (h.functions k f at).1, below_more (length env.tables.objects) n f.locals l (h.functions k f at).2)

  pub goes_object : (o : Object) → IsFormedObject env.tables.structs o → Goes env (with_object env o)
  goes_object o p = record {
    formed = record {
      table = h.table;
      typings = h.typings;
      inner = h.inner;
      around = h.around;
      functions = more_objects (length (env.tables.objects ++ o ∷ [])) (omega (arith, pushed_length env.tables.objects o));
      objects = each_pushed (λ o. IsFormedObject env.tables.structs o) env.tables.objects o h.objects p;
    };
    keeps = record { longer = omega arith; closed = λ k s at l. at; objects = omega (arith, pushed_length env.tables.objects o) };
  }

  pub goes_object_set : (k : ℕ) (o : Object) → IsFormedObject env.tables.structs o → Goes env (set_object env k o)
  goes_object_set k o p = record {
    formed = record {
      table = h.table;
      typings = h.typings;
      inner = h.inner;
      around = h.around;
      functions = more_objects (length (slice_set env.tables.objects k o)) (omega (arith, set_length env.tables.objects k o));
      objects = each_set (λ o. IsFormedObject env.tables.structs o) env.tables.objects k o h.objects p;
    };
    keeps = record { longer = omega arith; closed = λ k s at l. at; objects = omega (arith, set_length env.tables.objects k o) };
  }

  pub goes_function : (f : Function) → IsFormedFunction env.tables.structs (length env.tables.objects) f → Goes env (with_function env f)
  goes_function f p = record {
    formed = record {
      table = h.table;
      objects = h.objects;
      typings = h.typings;
      inner = h.inner;
      around = h.around;
      functions = each_pushed (λ f. IsFormedFunction env.tables.structs (length env.tables.objects) f) env.tables.functions f h.functions p;
    };
    keeps = record { longer = omega arith; closed = λ k s at l. at; objects = omega arith };
  }

  pub goes_function_set : (k : ℕ) (f : Function) → IsFormedFunction env.tables.structs (length env.tables.objects) f → Goes env (set_function env k f)
  goes_function_set k f p = record {
    formed = record {
      table = h.table;
      objects = h.objects;
      typings = h.typings;
      inner = h.inner;
      around = h.around;
      functions = each_set (λ f. IsFormedFunction env.tables.structs (length env.tables.objects) f) env.tables.functions k f h.functions p;
    };
    keeps = record { longer = omega arith; closed = λ k s at l. at; objects = omega arith };
  }

  pub goes_function_typed : (k : ℕ) (s : Signature) → IsFormedSignature env.tables.structs s → Goes env (with_function_type env k s)
  goes_function_typed k s p = record {
    formed = record {
      table = h.table;
      objects = h.objects;
      typings = h.typings;
      inner = h.inner;
      around = h.around;
      functions = each_changed (λ f. IsFormedFunction env.tables.structs (length env.tables.objects) f) (typed_by s) env.tables.functions k h.functions (λ f g. (p, g.1, g.2));
    };
    keeps = record { longer = omega arith; closed = λ k s at l. at; objects = omega arith };
  }

  pub goes_typings : (ts : List Typing) → Each (λ t. IsFormed env.tables.structs t.of) ts → Goes env (with_typings env ts)
  goes_typings ts p = record {
    formed = record { table = h.table; objects = h.objects; functions = h.functions; typings = p; inner = h.inner; around = h.around };
    keeps = record { longer = omega arith; closed = λ k s at l. at; objects = omega arith };
  }

  pub typings_more : (l : Linkage) (t : Typing) → IsFormed env.tables.structs t.of → Each (λ t. IsFormed env.tables.structs t.of) (typings_with env.tables.typings l t)
  typings_more External t p = each_pushed (λ t. IsFormed env.tables.structs t.of) env.tables.typings t h.typings p
  typings_more Internal t p = h.typings
  typings_more Inner t p = h.typings

  pub goes_typing : (l : Linkage) (n : ℕ) (t : CType) (p : Place) → IsFormed env.tables.structs t → Goes env (with_typing env l n t p)
  goes_typing l n t p f = goes_typings (typings_with env.tables.typings l (record { name = n; of = t; place = p })) (typings_more l (record { name = n; of = t; place = p }) f)
