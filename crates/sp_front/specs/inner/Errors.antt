-- What the errors of the layers below are here.
use Rattle.sp_lexer.specs.declared.scanner.ScanError.{ScanError}
use Rattle.sp_lexer.specs.declared.scanner.ScanError.TheVariants as scan
use Rattle.sp_expr_parser.specs.declared.error.ParseError.{ParseError}
use Rattle.sp_expr_parser.specs.declared.error.ParseError.TheVariants as parse
use Rattle.sp_base_checked.specs.declared.error.CheckError.{CheckError}
use Rattle.sp_base_checked.specs.declared.error.CheckError.TheVariants as check
use Rattle.sp_lower.specs.declared.program.LowerError.{LowerError}
use Rattle.sp_lower.specs.declared.program.LowerError.TheVariants as lower
use Rattle.sp_front.specs.declared.front.FrontError.{FrontError}
use Rattle.sp_front.specs.declared.front.FrontError.TheVariants.{Fault, NoMemory}

abbrev pub of_scan : ScanError → FrontError
of_scan (scan.Fault f) = Fault f
of_scan scan.NoMemory = NoMemory

abbrev pub of_parse : ParseError → FrontError
of_parse (parse.Fault f) = Fault f
of_parse parse.NoMemory = NoMemory

abbrev pub of_check : CheckError → FrontError
of_check (check.Fault f) = Fault f
of_check check.NoMemory = NoMemory

abbrev pub of_lower : LowerError → FrontError
of_lower (lower.Fault f) = Fault f
of_lower lower.NoMemory = NoMemory
