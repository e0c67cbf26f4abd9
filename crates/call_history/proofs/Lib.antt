mod BookLemmas
mod PastLemmas
