pub mod PrefixLemmas
pub mod MemberLemmas
pub mod GatherLemmas
pub mod KeptLemmas
