mod RoundLemmas
