-- What an environment of the code stands for.
use Rattle.std.specs.Prelude.{map}
use Rattle.sp_types.specs.Programs.{object_of, function_of}
use Rattle.sp_types.specs.View.{struct_of}
use Rattle.sp_check_scopes.specs.Views.{scopes_of}
use Rattle.sp_base_checked.specs.Units.{typing_of}
use Rattle.sp_check_env.specs.declared.tables.UnitTables.{UnitTables}
use Rattle.sp_check_env.specs.declared.env.Env.{Env as CodeEnv}
use Rattle.sp_check_env.specs.Env.{Env, Tables}

abbrev pub tables_of : UnitTables → Tables
tables_of t = record { structs = map struct_of t.structs.items; objects = map object_of t.objects.items; functions = map function_of t.functions.items; constants = t.constants.items; typings = map typing_of t.typings.items }

unfoldable pub env_of : CodeEnv → Env
env_of e = record { scopes = scopes_of e.scopes; links = e.links.entries; depths = e.depths.entries; tables = tables_of e.tables }
