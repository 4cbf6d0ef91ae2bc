-- What a step of a pass on the table asks of the table's rule, and what it tells. The rule's owner shows the
-- one, by a law of each kind of step, and gets the other.
use Rattle.std.specs.Prelude.{◌≡◌, ℕ, ◌+◌, ◌*◌, ◌<◌}
use mathlib.Core.Option.{none}
use Rattle.atomic_table.specs.Table.{State, Me, Step, step, Allows}
use Rattle.atomic_table.specs.Seated.{TableId}
use Rattle.atomic_table.specs.declared.shared.Seat.{Seat}
use Rattle.epoch_reclaim.specs.declared.places.PinPlaces.{PinPlaces}

-- the place of a pass's pin word
abbrev pub pin_place : PinPlaces → ℕ → ℕ
pin_place places number = places.first + places.stride * number

module _ {V : Type 0} where
  -- a store of a word keeps the rule, and may tell this
  pub record MayStore (holds : State (Unit {0}) V → Type 0) (id : TableId) (seat : Seat (Unit {0}) V)
      (place word : ℕ) (then : Step (Unit {0}) → Me (Unit {0}) V → ℕ → Me (Unit {0}) V → Type 0) : Type 0 where
    pub table : seat.table_id ≡ id
    pub inside : place < id.words
    pub allows : Allows holds id.slots seat.id seat.me place (λ _. word)
        (λ _. then (step id.slots place word 0 none) seat.me word)

  -- so does a load, whatever it finds
  pub record MayLoad (holds : State (Unit {0}) V → Type 0) (id : TableId) (seat : Seat (Unit {0}) V) (place : ℕ)
      (then : Step (Unit {0}) → Me (Unit {0}) V → ℕ → Me (Unit {0}) V → Type 0) : Type 0 where
    pub table : seat.table_id ≡ id
    pub inside : place < id.words
    pub allows : Allows holds id.slots seat.id seat.me place
        (λ n. n) (then (step id.slots place 0 0 none) seat.me)

  -- the store was made, and told this
  pub record HasStored (id : TableId) (old new : Seat (Unit {0}) V) (place word : ℕ)
      (then : Step (Unit {0}) → Me (Unit {0}) V → ℕ → Me (Unit {0}) V → Type 0) : Type 0 where
    pub table : new.table_id ≡ old.table_id
    pub seat : new.id ≡ old.id
    pub told : then (step id.slots place word 0 none) old.me word new.me

  -- the load was made, found this, and told this
  pub record HasLoaded (id : TableId) (old new : Seat (Unit {0}) V) (place found : ℕ)
      (then : Step (Unit {0}) → Me (Unit {0}) V → ℕ → Me (Unit {0}) V → Type 0) : Type 0 where
    pub table : new.table_id ≡ old.table_id
    pub seat : new.id ≡ old.id
    pub told : then (step id.slots place 0 0 none) old.me found new.me
