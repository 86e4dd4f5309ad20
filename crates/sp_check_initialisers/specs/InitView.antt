-- What initialisers, runs and parts of the code stand for.
use Rattle.std.specs.Prelude.{List, map, reverse}
use Rattle.sp_parse_trees.specs.Syntax.{Expression, ExpressionForm, Init, Specifier, Declaration, Declarator, DeclaratorForm, EnumSpec, InitDeclarator, Param, StructSpec, TypeName}
use Rattle.sp_parse_trees.specs.View.{declarator_form_step, expression_form_step, init_step, specifier_step, declaration_step, declarator_step, enum_spec_step, expression_step, init_declarator_step, param_step, struct_spec_step, type_name_step}
use Rattle.sp_parse_trees.specs.declared.tree.Init.{Init as CodeInit, fold-Init}
use Rattle.sp_types.specs.View.{type_of}
use Rattle.sp_check_primaries.specs.Literals.{leaf_seen}
use Rattle.sp_check_initialisers.specs.declared.runs.Run.{Run as CodeRun}
use Rattle.sp_check_initialisers.specs.declared.runs.Run.TheVariants.{Elements, Members}
use Rattle.sp_check_initialisers.specs.declared.runs.Step.{Step as CodeStep}
use Rattle.sp_check_initialisers.specs.declared.runs.Part.{Part as CodePart}
use Rattle.sp_check_initialisers.specs.declared.lists.Progress.{Progress as CodeProgress}
use Rattle.sp_check_initialisers.specs.declared.objects.Started.{Started as CodeStarted}
use Rattle.sp_check_initialisers.specs.Runs.{Run, elements, members, Part, Step}
use Rattle.sp_check_initialisers.specs.Initialisers.{Progress, Started}

abbrev pub init_of : CodeInit → Init
init_of = fold-Init DeclaratorForm ExpressionForm Init Specifier Declaration Declarator EnumSpec Expression InitDeclarator Param StructSpec TypeName declarator_form_step expression_form_step init_step specifier_step declaration_step declarator_step enum_spec_step expression_step init_declarator_step param_step struct_spec_step type_name_step

abbrev pub run_of : CodeRun → Run
run_of (Elements t k n) = elements (type_of t) k n
run_of (Members j i k) = members j i k

-- the innermost run is the last of the code's list
abbrev pub runs_of : List CodeRun → List Run
runs_of rs = reverse (map run_of rs)

abbrev pub step_of : CodeStep → Step
step_of x = record { of = type_of x.of; from = x.from; rest = run_of x.rest }

abbrev pub part_of : CodePart → Part
part_of x = record { of = type_of x.of; from = x.from; behind = runs_of x.behind.items }

abbrev pub progress_of : CodeProgress → Progress
progress_of x = record { runs = runs_of x.runs.items; values = map leaf_seen x.values.items }

abbrev pub started_of : CodeStarted → Started
started_of x = record { of = type_of x.of; values = map leaf_seen x.values.items }
