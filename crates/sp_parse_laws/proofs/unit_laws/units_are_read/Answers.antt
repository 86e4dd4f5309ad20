use Rattle.sp_parse_laws.proofs.InitsRead.{init_read}
use Rattle.sp_parse_laws.proofs.DeclarationsRead.{declaration_read}
use Rattle.sp_parse_laws.proofs.BlocksRead.{statement_read}
use Rattle.sp_parse_laws.proofs.UnitsRead.{external_with_types, unit_read}
use Rattle.std.proofs.Common.{refl}
use Rattle.sp_parse_laws.proofs.unit_laws.units_are_read.Goals as goal

pub returns-clause-initialisers : goal.returns-clause-initialisers
returns-clause-initialisers c = λ g i h ws z zs e stops.
    let r = (init_read g i h).read ws _ e (record { first = z; rest = zs; whole = refl; holds = stops }) in
    record { answer = r.answer; read = r.read; holds = r.holds }

pub returns-clause-declarations : goal.returns-clause-declarations
returns-clause-declarations c = λ g d h ws z zs e.
    let r = (declaration_read g d h).read ws _ e (record { first = z; rest = zs; whole = refl; holds = tt }) in
    record { answer = r.answer; read = r.read; holds = r.holds }

pub returns-clause-statements : goal.returns-clause-statements
returns-clause-statements c = λ g s h ws z zs e stops.
    let r = (statement_read g s h).read ws _ e (record { first = z; rest = zs; whole = refl; holds = stops }) in
    record { answer = r.answer; read = r.read; holds = r.holds }

pub returns-clause-externals : goal.returns-clause-externals
returns-clause-externals c = λ types e h ws z zs is.
    let r = external_with_types types e h ws z zs is in
    record { answer = r.answer; read = r.read; holds = r.holds }

pub returns-clause-units : goal.returns-clause-units
returns-clause-units c = λ types es h ws z zs is ends.
    let r = unit_read types es h ws z zs is ends in
    record { answer = r.answer; read = r.read; holds = r.holds }
