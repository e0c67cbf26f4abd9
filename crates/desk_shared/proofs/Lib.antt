mod CallLemmas
mod CrewLemmas
mod FrontLemmas
pub mod KeptLemmas
mod ShownLemmas
