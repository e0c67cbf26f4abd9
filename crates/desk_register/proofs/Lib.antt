pub mod PersonLemmas
pub mod IndexAmongLemmas
mod ValueLemmas
mod AmongLemmas
mod AgreeLemmas
pub mod AnswerLemmas
mod ChangeLemmas
mod OfferLemmas
mod RosterLemmas
mod WordLemmas
mod SaidLemmas
mod VacancyLemmas
mod KeepLemmas
mod BoardLemmas
mod StayLemmas
mod TurnedLemmas
mod RegisterLemmas
mod CopyLemmas
