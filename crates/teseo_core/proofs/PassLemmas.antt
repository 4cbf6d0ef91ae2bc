-- The writes of a pass: those of its ended transactions, and of the one that is open.
use Rattle.std.proofs.Common.{◌≡◌, ℕ, List, [], ◌∷◌, ◌++◌, refl, sym, ap}
use Rattle.std.specs.Prelude.{Option, Some, None, IsSome}
use Rattle.graph_model.specs.declared.write.Write.{Write}
use Rattle.graph_model.specs.AccountSteps.{last_with}
use Rattle.teseo_core.specs.Passes.{made_with}

last_of : (ended : List (List Write)) (own : List Write) (w : Write) → last_with (ended ++ own ∷ []) w ≡ ended ++ (own ++ w ∷ []) ∷ []
last_of [] own w = refl
last_of (e ∷ []) own w = refl
last_of (e ∷ f ∷ ended) own w = ap (λ rest. e ∷ rest) (last_of (f ∷ ended) own w)

-- an open transaction has one write more
pub made_more : (start : Option ℕ) → IsSome start → (ended : List (List Write)) (own : List Write) (w : Write) → made_with start ended (own ++ w ∷ []) ≡ last_with (made_with start ended own) w
made_more None is ended own w = cc
made_more (Some start) is ended own w = sym (last_of ended own w)
