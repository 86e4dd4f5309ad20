-- What the code's formals stand for.
use Rattle.std.specs.Prelude.{map}
use Rattle.sp_types.specs.View.{type_of, shared_signature_of}
use Rattle.sp_check_scopes.specs.declared.scope.Scope.{Scope as CodeScope}
use Rattle.sp_check_scopes.specs.Scopes.{Scope}
use Rattle.sp_check_scopes.specs.Views.{scope_of}
use Rattle.sp_check_type_names.specs.DerivationView.{derivation_of}
use Rattle.sp_check_heads.specs.declared.parameters.Read.{Read as CodeRead}
use Rattle.sp_check_heads.specs.declared.steps.Steps.{Steps as CodeSteps}
use Rattle.sp_check_heads.specs.declared.definitions.Own.{Own as CodeOwn}
use Rattle.sp_check_heads.specs.Formals.{Read, Steps, Own}

abbrev pub read_of : CodeRead → Read
read_of x = record { types = map type_of x.types.items; formals = x.formals.items }

abbrev pub steps_of : CodeSteps → Steps
steps_of x = record { steps = map derivation_of x.steps.items; formals = x.formals.items; scope = scope_of x.scope }

abbrev pub own_of : CodeOwn → Own
own_of x = record { name = x.name; place = x.place; of = shared_signature_of x.of; formals = x.formals.items }

abbrev pub own_in_scope : CodeOwn × CodeScope → Own × Scope
own_in_scope x = (own_of x.0, scope_of x.1)
