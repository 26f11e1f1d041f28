mod KeptLemmas
mod LineLemmas
