pub mod Linking
pub mod Making
pub mod MemberView
pub mod Links
