pub use Rattle.sp_check_expr_steps.specs.Expressions
pub use Rattle.sp_check_expr_steps.specs.Parameters
pub use Rattle.sp_check_expr_steps.specs.Specifiers
pub use Rattle.sp_check_expr_steps.specs.SyntaxView
