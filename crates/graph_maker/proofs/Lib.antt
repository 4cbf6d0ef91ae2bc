mod KeptLemmas
mod DrawLemmas
mod LawLemmas
