-- Values that stand most often.
use Rattle.std.specs.Prelude.{◌≡◌, ℕ, ◌<◌, ◌≤◌, List, [], ◌∷◌}
use Rattle.graph_model.specs.Labels.{times}

-- x is one of the values, none stands more often, and none that stands as often is less
pub record IsMostFrequent (xs : List ℕ) (x : ℕ) : Type 0 where
  pub stands : 0 < times xs x
  pub most : (y : ℕ) → times xs y ≤ times xs x
  pub least : (y : ℕ) → times xs y ≡ times xs x → x ≤ y

-- x is the least of the values that stand most often, or the default where there is no value
abbrev pub IsMostFrequentOr : ℕ → List ℕ → ℕ → Type 0
IsMostFrequentOr default [] x = x ≡ default
IsMostFrequentOr default (y ∷ ys) x = IsMostFrequent (y ∷ ys) x
