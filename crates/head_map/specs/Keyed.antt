-- Lists of things with keys, as finite maps of the kit: the entries in the order of their keys.
use Rattle.std.specs.Prelude.{◌≡◌, ℕ, ◌≤◌, true, false, List, [], ◌∷◌, map, take, drop, length}
use Rattle.std.specs.List.{AllByRecursion}
use Rattle.graph_model.specs.declared.row.Key.{Key}
use Rattle.graph_model.specs.Rows.{is_below}

-- each thing's key with what it stands for
abbrev pub entries_by : {X V : Type 0} → (X → Key) → (X → V) → List X → List (Key × V)
entries_by key value xs = map (λ x. (key x, value x)) xs

-- each key is below all later ones
abbrev pub RisesBy : {X : Type 0} → (X → Key) → List X → Type 0
RisesBy key [] = Unit {0}
RisesBy key (x ∷ xs) = AllByRecursion (λ y. is_below (key x) (key y) ≡ true) xs × RisesBy key xs

-- the things before the place are those below the key
pub record IsPlaceBy {X : Type 0} (key : X → Key) (xs : List X) (k : Key) (place : ℕ) : Type 0 where
  pub within : place ≤ length xs
  pub before : AllByRecursion (λ x. is_below (key x) k ≡ true) (take place xs)
  pub behind : AllByRecursion (λ x. is_below (key x) k ≡ false) (drop place xs)

-- the things before the place are below the key, and those behind it above
pub record IsGapBy {X : Type 0} (key : X → Key) (xs : List X) (k : Key) (place : ℕ) : Type 0 where
  pub within : place ≤ length xs
  pub before : AllByRecursion (λ x. is_below (key x) k ≡ true) (take place xs)
  pub behind : AllByRecursion (λ x. is_below k (key x) ≡ true) (drop place xs)
