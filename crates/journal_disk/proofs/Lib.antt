mod StepLemmas
mod TornLemmas
