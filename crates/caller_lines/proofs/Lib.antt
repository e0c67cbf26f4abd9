mod PutLemmas
mod WaitLemmas
mod LineLemmas
mod TakeLemmas
mod CrewLemmas
mod LookLemmas
mod WordLemmas
