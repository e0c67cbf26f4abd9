mod DiskLemmas
