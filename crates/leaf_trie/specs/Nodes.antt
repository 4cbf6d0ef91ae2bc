-- The nodes of the trie.
use Rattle.std.specs.Prelude.{ℕ, zero, suc, ◌≡◌, ◌≢◌, ◌+◌, ◌<◌, ◌≤◌, ◌==◌, List, [], ◌∷◌, ◌++◌, Option, Some, None, length, take, drop, get_or, slice_get, map, Bool, true, false, Result, Ok, Err}
use Rattle.std.specs.declared.alloc.AllocError.{AllocError}
use Rattle.std.specs.List.{AllByRecursion}
use Rattle.graph_model.specs.declared.row.Key.{Key}
use Rattle.leaf_trie.specs.declared.start.LeafStart.{LeafStart}
use Rattle.leaf_trie.specs.declared.branch.Branch.{Branch}
use Rattle.leaf_trie.specs.declared.branch.Node.{Node}
use Rattle.leaf_trie.specs.declared.branch.Node.TheVariants.{End, Few, Many}
use Rattle.leaf_trie.specs.Path.{number, head, digit}
use Rattle.leaf_trie.specs.Starts.{last_leaf, IsThere, ShareHead, Puts, Takes}

-- the leaves below branches, one branch after another
abbrev pub all_starts : List Branch → List LeafStart
all_starts [] = []
all_starts (b ∷ bs) = b.starts ++ all_starts bs

abbrev pub children_of : Node → List Branch
children_of (End low) = []
children_of (Few branches) = branches.items
children_of (Many wide) = wide.value.branches.items

-- the leaves below a node; at the end of a path it is the one that stands beside it
abbrev pub starts_of : ℕ → Node → List LeafStart
starts_of leaf (End low) = record { low = low; leaf = leaf } ∷ []
starts_of leaf (Few branches) = all_starts branches.items
starts_of leaf (Many wide) = all_starts wide.value.branches.items

-- a child is at this level, has leaves, and its byte is theirs
pub record IsChild (level least : ℕ) (b : Branch) : Type 0 where
  pub depth : b.level ≡ level
  pub from : least ≤ b.byte
  pub some : 0 < length b.starts
  pub here : AllByRecursion (λ s. digit level s.low ≡ b.byte) b.starts

-- bytes rise from child to child
abbrev pub AreChildren : ℕ → ℕ → List Branch → Type 0
AreChildren level least [] = Unit {0}
AreChildren level least (b ∷ bs) = IsChild level least b × AreChildren level (b.byte + 1) bs

-- the branch at the place has the byte
pub record HasBranch (branches : List Branch) (place byte : ℕ) (branch : Branch) : Type 0 where
  pub there : slice_get branches place ≡ Some branch
  pub same : branch.byte ≡ byte

abbrev pub HasSomeBranch : List Branch → ℕ → ℕ → Type 0
HasSomeBranch branches place byte = (branch : Branch) × HasBranch branches place byte branch

-- there is no branch at the place, or it has another byte
abbrev pub HasNoBranch : List Branch → ℕ → ℕ → Type 0
HasNoBranch branches place byte = (branch : Branch) → slice_get branches place ≡ Some branch → branch.byte ≢ byte

-- so many branches have lesser bytes, and stand before the others
pub record IsRank (branches : List Branch) (byte rank : ℕ) : Type 0 where
  pub within : rank ≤ length branches
  pub below : AllByRecursion (λ b. b.byte < byte) (take rank branches)
  pub from : AllByRecursion (λ b. byte ≤ b.byte) (drop rank branches)

-- each place has the rank of its byte
pub record HasRanks (places : List ℕ) (branches : List Branch) : Type 0 where
  pub wide : length places ≡ 256
  pub ranks : (byte : ℕ) → byte < 256 → IsRank branches byte (get_or places byte 0)

pub record IsInner (above : ℕ) (branches : List Branch) : Type 0 where
  pub level : ℕ
  pub is : above ≡ level + 1
  pub top : above ≤ 16
  pub some : 0 < length branches
  pub children : AreChildren level 0 branches

abbrev pub IsNode : ℕ → Node → Type 0
IsNode level (End low) = level ≡ 0
IsNode level (Few branches) = IsInner level branches.items × (length branches.items ≤ 16)
IsNode level (Many wide) =
    IsInner level wide.value.branches.items × HasRanks wide.value.places wide.value.branches.items

-- what stands beside a node: its last leaf, and whether that is its only one
pub record IsSummary (starts : List LeafStart) (last : ℕ) (is_single : Bool) : Type 0 where
  pub ends : last_leaf starts ≡ Some last
  pub alone : is_single ≡ (length starts == 1)

abbrev pub bytes_of : List Branch → List ℕ
bytes_of branches = map (λ b. b.byte) branches

-- a leaf was put below the branches
pub record PutsBelow (level : ℕ) (start : LeafStart) (old new : List Branch) : Type 0 where
  pub children : AreChildren level 0 new
  pub puts : Puts start (all_starts old) (all_starts new)

-- it got a branch of its own, at a place that had none with its byte, or stands below one that was there; or nothing
-- changed
abbrev pub PutsAmong : ℕ → ℕ → LeafStart → List Branch → List Branch → Result Bool AllocError → Type 0
PutsAmong level place start old new (Ok true) =
    PutsBelow level start old new × HasNoBranch old place (digit level start.low) × (length new ≡ length old + 1)
PutsAmong level place start old new (Ok false) = PutsBelow level start old new × (bytes_of new ≡ bytes_of old)
PutsAmong level place start old new (Err e) = new ≡ old

-- a leaf was put below the node, or it has the same leaves
abbrev pub PutsInNode : ℕ → LeafStart → Node → Node → Result (Unit {0}) AllocError → Type 0
PutsInNode level start old new (Ok done) =
    IsNode (level + 1) new × Puts start (all_starts (children_of old)) (all_starts (children_of new))
PutsInNode level start old new (Err e) =
    IsNode (level + 1) new × (all_starts (children_of new) ≡ all_starts (children_of old))

-- a leaf was put into the subtree
pub record PutsInto (start : LeafStart) (old new : Branch) : Type 0 where
  pub byte : new.byte ≡ old.byte
  pub level : new.level ≡ old.level
  pub puts : Puts start old.starts new.starts

abbrev pub PutsOrKeeps : LeafStart → Branch → Branch → Result (Unit {0}) AllocError → Type 0
PutsOrKeeps start old new (Ok done) = PutsInto start old new
PutsOrKeeps start old new (Err e) = new ≡ old

-- a list of children may get one more
abbrev pub HasRoom : ℕ → ℕ → Node → Type 0
HasRoom place byte (End low) = Unit {0}
HasRoom place byte (Few branches) = HasNoBranch branches.items place byte → length branches.items < 16
HasRoom place byte (Many wide) = Unit {0}

-- below the branch at the place stands a leaf that begins at the key
pub record CanTake (branches : List Branch) (place : ℕ) (key : Key) : Type 0 where
  pub level : ℕ
  pub children : AreChildren level 0 branches
  pub rank : IsRank branches (digit level key) place
  pub share : ShareHead (level + 1) key (all_starts branches)
  pub there : IsThere key (all_starts branches)

-- a leaf that begins at the key was taken away below the branches
pub record TakesBelow (key : Key) (old new : List Branch) : Type 0 where
  pub children : (level : ℕ) → AreChildren level 0 old → AreChildren level 0 new
  pub takes : Takes key (all_starts old) (all_starts new)

-- its branch went with it, or has others
abbrev pub TakesAmong : Key → List Branch → List Branch → Bool → Type 0
TakesAmong key old new true = TakesBelow key old new × (length new ≤ length old)
TakesAmong key old new false = TakesBelow key old new × (bytes_of new ≡ bytes_of old)

-- a leaf that begins at the key was taken out of the subtree
pub record TakesFrom (key : Key) (old new : Branch) : Type 0 where
  pub byte : new.byte ≡ old.byte
  pub level : new.level ≡ old.level
  pub takes : Takes key old.starts new.starts

-- the leaf is the only one and stays, or others are left
abbrev pub TakesOrIsAlone : Key → Branch → Branch → Bool → Type 0
TakesOrIsAlone key old new true = (new ≡ old) × (length old.starts ≡ 1)
TakesOrIsAlone key old new false = TakesFrom key old new × (0 < length new.starts)

-- the level of the branch at the place
abbrev pub level_at : List Branch → ℕ → ℕ
level_at [] place = 0
level_at (b ∷ bs) zero = b.level
level_at (b ∷ bs) (suc place) = level_at bs place
