mod ThroughLemmas
mod WholeLemmas
mod OpenedLemmas
mod AheadLemmas
mod ServedLemmas
