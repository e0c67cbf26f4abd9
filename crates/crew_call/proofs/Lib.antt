mod CourseLemmas
mod EndedLemmas
mod OutcomeLemmas
