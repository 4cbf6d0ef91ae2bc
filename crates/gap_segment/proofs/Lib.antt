pub mod FencedLemmas
