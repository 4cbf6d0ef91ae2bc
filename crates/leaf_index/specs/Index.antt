-- An index of leaves, as contracts see it.
use Rattle.std.specs.Prelude.{ℕ, ◌≡◌, ◌+◌, ◌*◌, ◌<◌, ◌≤◌, ◌==◌, true, false, cond, List, [], ◌∷◌, ◌++◌, Some, slice_get, length, count_by, unwrap_or, nat_lt}
use Rattle.std.specs.List.{AllByRecursion}
use Rattle.graph_model.specs.declared.row.Key.{Key}
use Rattle.graph_model.specs.Rows.{is_below, first_key, end_key}
use Rattle.leaf_index.specs.declared.route.Route.{Route}
use Rattle.leaf_index.specs.declared.route.Retired.{Retired}

-- a live leaf: its least key, and the least keys of its segments
pub record Entry : Type 0 where
  pub low : Key
  pub leaf : ℕ
  pub cuts : List Key

-- how many leaves there are, the live ones in the order of their keys, and the lists of those that are free and
-- that are retired
pub record Index : Type 0 where
  pub leaves : ℕ
  pub entries : List Entry
  pub free : List ℕ
  pub retired : List Retired

abbrev pub NotAbove : Key → Key → Type 0
NotAbove low high = is_below high low ≡ false

-- where the first of these entries begins, or else the given end
abbrev pub end_of : List Entry → Key
end_of [] = end_key
end_of (e ∷ es) = e.low

abbrev pub first_or : List Key → Key → Key
first_or [] high = high
first_or (k ∷ ks) high = k

-- no key is above the next one, and the last is not above the end
abbrev pub AreSorted : List Key → Key → Type 0
AreSorted [] high = Unit {0}
AreSorted (k ∷ ks) high = NotAbove k (first_or ks high) × AreSorted ks high

-- eight cuts from the least key of a leaf up to the end of its range
pub record AreCuts (low : Key) (cuts : List Key) (high : Key) : Type 0 where
  pub count : length cuts ≡ 8
  pub begin : slice_get cuts 0 ≡ Some low
  pub sorted : AreSorted cuts high

abbrev pub HaveCuts : List Entry → Type 0
HaveCuts [] = Unit {0}
HaveCuts (e ∷ es) = AreCuts e.low e.cuts (end_of es) × HaveCuts es

-- all of them begin above the key
abbrev pub BeginAbove : Key → List Entry → Type 0
BeginAbove key entries = AllByRecursion (λ e. is_below key e.low ≡ true) entries

abbrev pub BeginBelow : Key → List Entry → Type 0
BeginBelow key entries = AllByRecursion (λ e. is_below e.low key ≡ true) entries

-- each begins below all later ones
abbrev pub AreRising : List Entry → Type 0
AreRising [] = Unit {0}
AreRising (e ∷ es) = BeginAbove e.low es × AreRising es

-- how often a leaf stands among these, the free and the retired ones
abbrev pub times_among : {X : Type 0} → (X → ℕ) → List X → List ℕ → List Retired → ℕ → ℕ
times_among number live free retired leaf =
    count_by (λ x. number x == leaf) live + count_by (λ f. f == leaf) free + count_by (λ r. r.leaf == leaf) retired

-- how often it stands among the live, the free and the retired ones
abbrev pub uses : Index → ℕ → ℕ
uses index leaf = times_among (λ e. e.leaf) index.entries index.free index.retired leaf

-- a leaf stands at most once among them, and one that doesn't exist never does
abbrev pub AreOnce : Index → Type 0
AreOnce index = (leaf : ℕ) → uses index leaf ≤ cond (nat_lt leaf index.leaves) 1 0

-- the leaf exists, and is not live, free or retired
pub record IsTaken (index : Index) (leaf : ℕ) : Type 0 where
  pub exists : leaf < index.leaves
  pub unused : uses index leaf ≡ 0

-- what holds of each index
pub record IsIndex (index : Index) : Type 0 where
  pub first : end_of index.entries ≡ first_key
  pub rising : AreRising index.entries
  pub cuts : HaveCuts index.entries
  pub once : AreOnce index

-- the last segment whose cut is not above the key
pub record IsSegment (cuts : List Key) (key : Key) (segment : ℕ) : Type 0 where
  pub within : segment < 8
  pub cut : Key
  pub there : slice_get cuts segment ≡ Some cut
  pub from : NotAbove cut key
  pub later : (s : ℕ) (k : Key) → segment < s → slice_get cuts s ≡ Some k → is_below key k ≡ true

-- the last of these that does not begin above the key, between those before and behind it
pub record IsLastFrom {X : Type 0} (low : X → Key) (key : Key) (xs : List X) (x : X) : Type 0 where
  pub front : List X
  pub back : List X
  pub is : xs ≡ front ++ x ∷ back
  pub from : NotAbove (low x) key
  pub above : AllByRecursion (λ y. is_below key (low y) ≡ true) back

-- the last of these that begins below the key
pub record IsLastBelow {X : Type 0} (low : X → Key) (key : Key) (xs : List X) (x : X) : Type 0 where
  pub front : List X
  pub back : List X
  pub is : xs ≡ front ++ x ∷ back
  pub below : is_below (low x) key ≡ true
  pub rest : AllByRecursion (λ y. NotAbove key (low y)) back

abbrev pub IsFloor : Key → List Entry → Entry → Type 0
IsFloor key entries entry = IsLastFrom (λ e. e.low) key entries entry

-- the cell of the last cut that is not above the key, up to the next cut or the end of the leaf's range
pub record IsRoute (key : Key) (entries : List Entry) (route : Route) : Type 0 where
  pub entry : Entry
  pub floor : IsFloor key entries entry
  pub segment : ℕ
  pub last : IsSegment entry.cuts key segment
  pub cell : route.cell ≡ 8 * entry.leaf + segment
  pub low : slice_get entry.cuts segment ≡ Some route.low
  pub high : route.high ≡ unwrap_or (slice_get entry.cuts (segment + 1)) (end_of floor.back)

-- the cell of the key's route
abbrev pub IsCell : Key → List Entry → ℕ → Type 0
IsCell key entries cell = (route : Route) × IsRoute key entries route × (route.cell ≡ cell)
