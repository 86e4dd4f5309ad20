pub mod MemberLists
