pub mod MemberLemmas
pub mod SlotLemmas
pub mod PositionLemmas
pub mod BoardLemmas
