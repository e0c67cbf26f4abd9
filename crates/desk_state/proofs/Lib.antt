mod HeardLemmas
mod DutyIndexLemmas
mod ClockLemmas
mod HoldIndexLemmas
mod HearLemmas
mod HoldLemmas
mod FlightLemmas
mod OfferKeepLemmas
pub mod BitLemmas
mod ListLemmas
mod LawLemmas
mod IndexedLemmas
mod BoardLemmas
mod CommandLemmas
mod KeepLemmas
mod DoneLemmas
mod ReadLemmas
