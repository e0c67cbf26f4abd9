pub mod QualsLemmas
pub mod MissingLemmas
pub mod NumbersLemmas
