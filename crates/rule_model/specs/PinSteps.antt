-- Steps on pins, noted leaves and sweeps.
use Rattle.std.specs.Prelude.{◌≡◌, ℕ, ◌<◌, ◌≤◌, true, false, [], ◌∷◌, Some, None}
use Rattle.std.specs.declared.alloc.Global.{Global}
use Rattle.atomic_table.specs.Table.{Me}
use Rattle.txn_manager.specs.declared.config.Config.{Config}
use Rattle.leaf_index.specs.Index.{IsIndex}
use Rattle.leaf_index.specs.Calls.{freed}
use Rattle.epoch_reclaim.specs.declared.sweep.Sweep.{Sweep}
use Rattle.epoch_reclaim.specs.Pinned.{announced_word, begun, looked_at, pinned_word, unpinned}
use Rattle.store_relation.specs.declared.stage.Stage.TheVariants.{Idle, Open}
use Rattle.store_relation.specs.Passes.{PassState}
use Rattle.cells_model.specs.Indexed.{is_live}
use Rattle.rule_model.specs.Places.{Layout}
use Rattle.rule_model.specs.Sight.{PinState, IndexState, Sight, HasPass, HasPin, HasIndex, no_news, with_news, with_index, with_pin}
use Rattle.rule_model.specs.Steps.{AllowsLoad, AllowsStore, Nothing}

-- news of a pass's pin and of who sweeps under the index
abbrev pub with_sweeper : Sight → ℕ → PinState → IndexState → Sight
with_sweeper v p x y = with_news v (record no_news {
  pins = (p, x) ∷ [];
  indexes = (0, y) ∷ [];
}) v.reads

module _ (z : Config) (at : Layout) (heap : Global) (slots id : ℕ)
    (me : Me (Unit {0}) Sight) where
  -- ---- pins

  -- ANNOUNCE: a store at the pin of a pass whose transaction has ended
  abbrev pub PassAnnounces : Type 0
  PassAnnounces = (p : ℕ) (st : PassState) (x : PinState) → HasPass me.0 p st → HasPin me.0 p x
      → st.stage ≡ Idle → p < z.passes
      → AllowsStore z at heap slots id me (at.pin p) announced_word
      (with_pin me.0 p (record x { announced = true }))

  -- PIN: the store of its start, once a transaction has begun
  abbrev pub PassPins : Type 0
  PassPins = (p : ℕ) (st : PassState) (x : PinState) → HasPass me.0 p st → HasPin me.0 p x
      → st.stage ≡ Open → p < z.passes
      → AllowsStore z at heap slots id me (at.pin p) (pinned_word st.start)
      (with_pin me.0 p (record x { announced = false }))

  -- UNPIN: a store at the pin of a pass whose transaction has ended; it forgets the leaves that
  -- it has noted
  abbrev pub PassUnpins : Type 0
  PassUnpins = (p : ℕ) (st : PassState) (x : PinState) → HasPass me.0 p st → HasPin me.0 p x
      → st.stage ≡ Idle → p < z.passes
      → AllowsStore z at heap slots id me (at.pin p) unpinned
      (with_pin me.0 p (record x { announced = false; noted = [] }))

  -- NOTE: a load by a pass that is pinned and has the index, under which nobody sweeps
  abbrev pub LeafIsNoted : Type 0
  LeafIsNoted = (p l : ℕ) (x : PinState) (y : IndexState) → HasPin me.0 p x → HasIndex me.0 y
      → y.sweeper ≡ None → is_live y.index l ≡ true → x.announced ≡ false
      → AllowsLoad z at heap slots id me at.clock
      (λ _. with_pin me.0 p (record x { noted = l ∷ x.noted })) Nothing

  -- ---- sweeps

  -- SWEEP: the load of the clock, by a pass that has the index and means to free leaves; or by
  -- one that hasn't
  abbrev pub SweeperBegins : Type 0
  SweeperBegins = (p : ℕ) (x : PinState) (y : IndexState) → HasPin me.0 p x → HasIndex me.0 y
      → y.sweeper ≡ None
      → AllowsLoad z at heap slots id me at.clock
      (λ n. with_sweeper me.0 p (record x { sweep = Some (begun n) })
      (record y { sweeper = Some p })) Nothing

  abbrev pub OtherSweepBegins : Type 0
  OtherSweepBegins = (p : ℕ) (x : PinState) → HasPin me.0 p x
      → AllowsLoad z at heap slots id me at.clock
      (λ n. with_pin me.0 p (record x { sweep = Some (begun n) })) Nothing

  -- LOOK: the load of the next pin
  abbrev pub SweepLooksOn : Type 0
  SweepLooksOn = (p : ℕ) (x : PinState) (w : Sweep) → HasPin me.0 p x → x.sweep ≡ Some w
      → w.looked < z.passes
      → AllowsLoad z at heap slots id me (at.pin w.looked)
      (λ n. with_pin me.0 p (record x { sweep = Some (looked_at w n) })) Nothing

  -- FREE: a load by the sweeper, once it has looked at all pins
  abbrev pub LeavesAreFreed : Type 0
  LeavesAreFreed = (p : ℕ) (x : PinState) (y : IndexState) (w : Sweep) (until most : ℕ)
      → HasPin me.0 p x → HasIndex me.0 y → y.sweeper ≡ Some p → x.sweep ≡ Some w
      → z.passes ≤ w.looked
      → ((least : ℕ) → w.least ≡ Some least → until ≡ least) → y.index.leaves ≤ most
      → IsIndex (freed until most y.index)
      → AllowsLoad z at heap slots id me at.clock
      (λ _. with_index me.0 (record y { index = freed until most y.index }))
      Nothing

  -- END of a sweep, with the index or without it
  abbrev pub SweeperEnds : Type 0
  SweeperEnds = (p : ℕ) (x : PinState) (y : IndexState) → HasPin me.0 p x → HasIndex me.0 y
      → AllowsLoad z at heap slots id me at.clock
      (λ _. with_sweeper me.0 p (record x { sweep = None })
      (record y { sweeper = None })) Nothing

  abbrev pub OtherSweepEnds : Type 0
  OtherSweepEnds = (p : ℕ) (x : PinState) → HasPin me.0 p x
      → AllowsLoad z at heap slots id me at.clock
      (λ _. with_pin me.0 p (record x { sweep = None })) Nothing
