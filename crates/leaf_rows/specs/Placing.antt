-- How the rows of a write find their places.
use Rattle.std.specs.Prelude.{◌≡◌, ◌⊎◌, ℕ, zero, suc, ◌<◌, true, false, List, Result, Ok, Err}
use Rattle.std.specs.List.{list_any}
use Rattle.graph_model.specs.declared.row.Key.{Key}
use Rattle.graph_model.specs.Effects.{same_key}
use Rattle.txn_manager.specs.declared.config.RoomRefusal.{RoomRefusal}
use Rattle.txn_manager.specs.declared.config.RoomRefusal.TheVariants as refusals
use Rattle.leaf_store.specs.Leaves.{Leaves, has_row, room_at}
use Rattle.leaf_store.specs.Changes.{IsFull}
use Rattle.leaf_store.specs.Making.{MakesRoom}
use Rattle.leaf_store.specs.Merging.{FreesRetired}
use Rattle.leaf_rows.specs.Laying.{IsNoPlace, wanted}

-- The cell of one of these keys has too little room for those of them that are missing there, and room for so many is
-- made.
pub record MakesPlace (keys : List Key) (old new : Leaves) : Type 0 where
  pub key : Key
  pub need : ℕ
  pub among : list_any (same_key key) keys ≡ true
  pub missing : has_row old key ≡ false
  pub wants : need ≡ wanted old key keys
  pub short : room_at old key < need
  pub makes : MakesRoom old new key need

-- so many such steps, one behind the other
abbrev pub MakesPlaces : ℕ → List Key → Leaves → Leaves → Type 0
MakesPlaces zero keys old new = new ≡ old
MakesPlaces (suc n) keys old new = (mid : Leaves) × MakesPlace keys old mid × MakesPlaces n keys mid new

-- nothing but such steps was made, or memory is wanted
abbrev pub PlacesKeys : List Key → Leaves → Leaves → Result (Unit {0}) RoomRefusal → Type 0
PlacesKeys keys old new (Ok done) = (n : ℕ) × MakesPlaces n keys old new
PlacesKeys keys old new (Err (refusals.Full leaves)) = (n : ℕ) × MakesPlaces n keys old new
PlacesKeys keys old new (Err refusals.NoMemory) = Unit {0}

-- where no further step could be made retired leaves are freed, and then it goes on
pub record FreesBetween (until : ℕ) (keys : List Key) (old new : Leaves) : Type 0 where
  pub full : Leaves
  pub freed : Leaves
  pub steps : (n : ℕ) × MakesPlaces n keys old full
  pub none : IsNoPlace full keys (refusals.Full full.limit)
  pub frees : FreesRetired until full freed
  pub further : (n : ℕ) × MakesPlaces n keys freed new

-- room for so many rows is made in one key's cell, where no leaf is free behind the freeing of retired ones
abbrev pub MakesRoomOrFrees : ℕ → Leaves → Leaves → Key → ℕ → Type 0
MakesRoomOrFrees until old new key need = MakesRoom old new key need
    ⊎ ((freed : Leaves) × IsFull old key need × FreesRetired until old freed × MakesRoom freed new key need)

-- rows with these keys look for their places
abbrev pub FindsPlaces : ℕ → List Key → Leaves → Leaves → Type 0
FindsPlaces until keys old new = ((n : ℕ) × MakesPlaces n keys old new) ⊎ FreesBetween until keys old new

-- nothing else was done, or memory is wanted
abbrev pub PlacesOrFrees : ℕ → List Key → Leaves → Leaves → Result (Unit {0}) RoomRefusal → Type 0
PlacesOrFrees until keys old new (Ok done) = FindsPlaces until keys old new
PlacesOrFrees until keys old new (Err (refusals.Full leaves)) = FindsPlaces until keys old new
PlacesOrFrees until keys old new (Err refusals.NoMemory) = Unit {0}
