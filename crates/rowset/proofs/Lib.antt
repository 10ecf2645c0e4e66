pub mod MemberLaws
pub mod WordLaws
