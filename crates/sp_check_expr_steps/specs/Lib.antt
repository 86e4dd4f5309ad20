pub mod Expressions
pub mod Forms
pub mod Parameters
pub mod Resuming
pub mod Specifiers
pub mod SyntaxView
