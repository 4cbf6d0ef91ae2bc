-- Leaves that are not live, in lists whose links stand in one table.
use Rattle.std.specs.Prelude.{ℕ, zero, suc, ◌≡◌, ◌+◌, ◌<◌, ◌≤◌, ◌==◌, cond, nat_lt, List, [], ◌∷◌, ◌++◌, map, get_or, length, count_by}
use Rattle.graph_model.specs.declared.limits.TheConstants.{MAX_LEAVES}
use Rattle.leaf_index.specs.declared.chain.Chain.{Chain}
use Rattle.leaf_index.specs.declared.route.Retired.{Retired}

-- so many leaves up to the last one, where by each stands the one before it
abbrev pub linked : List ℕ → ℕ → ℕ → List ℕ
linked links last zero = []
linked links last (suc n) = linked links (get_or links last 0) n ++ last ∷ []

abbrev pub leaves_of : List ℕ → Chain → List ℕ
leaves_of links chain = linked links chain.last chain.count

-- how often a leaf stands in a list
abbrev pub times_in : ℕ → List ℕ → ℕ
times_in leaf leaves = count_by (λ f. f == leaf) leaves

-- leaves below n, each at most once
abbrev pub AreOnceBelow : ℕ → List ℕ → Type 0
AreOnceBelow n leaves = (leaf : ℕ) → times_in leaf leaves ≤ cond (nat_lt leaf n) 1 0

-- no leaf stands in both
abbrev pub AreApart : List ℕ → List ℕ → Type 0
AreApart xs ys = (leaf : ℕ) → times_in leaf xs + times_in leaf ys ≤ 1

-- a leaf is put last into a chain, and chains that lack it stay as they are
pub record PutsLast (leaf : ℕ) (old : List ℕ) (before : Chain) (new : List ℕ) (after : Chain) : Type 0 where
  pub last : leaves_of new after ≡ leaves_of old before ++ leaf ∷ []
  pub count : after.count ≡ before.count + 1
  pub others : (other : Chain) → times_in leaf (leaves_of old other) ≡ 0 → leaves_of new other ≡ leaves_of old other
  pub same_length : length new ≡ length old

-- leaves with their stamps
abbrev pub stamped : List ℕ → List ℕ → List Retired
stamped stamps leaves = map (λ leaf. record { leaf = leaf; stamp = get_or stamps leaf 0 }) leaves

-- how many leaves there are, and the lists of those that are free and that are retired
pub record Idle : Type 0 where
  pub leaves : ℕ
  pub free : List ℕ
  pub retired : List Retired

abbrev pub idle_of : List ℕ → List ℕ → Chain → Chain → Idle
idle_of links stamps free retired = record {
  leaves = length links;
  free = leaves_of links free;
  retired = stamped stamps (leaves_of links retired);
}

-- both lists together have a leaf at most once
abbrev pub StandApart : ℕ → List ℕ → List ℕ → Type 0
StandApart leaves free retired = (leaf : ℕ) → times_in leaf free + times_in leaf retired ≤ cond (nat_lt leaf leaves) 1 0

-- what is kept of the table, the stamps and the chains
pub record AreLinked (links stamps : List ℕ) (free retired : Chain) : Type 0 where
  pub stamps_length : length stamps ≡ length links
  pub few : length links ≤ MAX_LEAVES
  pub once : StandApart (length links) (leaves_of links free) (leaves_of links retired)

-- the leaf exists, and stands in neither list
pub record IsOutside (idle : Idle) (leaf : ℕ) : Type 0 where
  pub exists : leaf < idle.leaves
  pub unused : times_in leaf idle.free + count_by (λ r. r.leaf == leaf) idle.retired ≡ 0
