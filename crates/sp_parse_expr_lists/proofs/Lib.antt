pub mod Opened
pub mod ConstantLists
pub mod MemberLists
pub mod ItemLists
pub mod ArgumentLists
pub mod ParameterLists
