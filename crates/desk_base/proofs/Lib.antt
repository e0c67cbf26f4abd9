pub mod MonthLemmas
pub mod CivilLemmas
pub mod TextLemmas
pub mod ReadLemmas
pub mod WindowLemmas
pub mod PartsLemmas
pub mod DecimalLemmas
pub mod CodeLemmas
