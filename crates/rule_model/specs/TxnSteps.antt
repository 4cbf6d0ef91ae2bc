-- Steps of a transaction that change no row: begin, commit, abort, and what was seen of the
-- journal.
use Rattle.std.specs.Prelude.{◌≡◌, ℕ, ◌+◌, ◌*◌, ◌<◌, ◌≤◌, ◌||◌, true, List, [], length}
use Rattle.std.specs.List.{AllByRecursion}
use Rattle.std.specs.declared.alloc.Global.{Global}
use mathlib.Core.List.{IsPrefix}
use Rattle.atomic_table.specs.Table.{Me}
use Rattle.density_tree.specs.Windows.{Fits, IsSmallestWindow}
use Rattle.graph_model.specs.declared.row.Key.{Key}
use Rattle.graph_model.specs.Effects.{any_writes, any_touches}
use Rattle.graph_model.specs.Legal.{IsLegal}
use Rattle.graph_model.specs.Rows.{is_below, end_key}
use Rattle.txn_manager.specs.declared.config.Config.{Config}
use Rattle.cells_model.specs.LeafArray.Segments.{counts_of}
use Rattle.std.specs.Prelude.{None}
use Rattle.store_relation.specs.Keys.{has_key}
use Rattle.store_relation.specs.declared.stage.Stage.TheVariants.{Idle, Open, Aborting, Committing}
use Rattle.store_relation.specs.Words.{commit_word, ended_word, open_word}
use Rattle.store_relation.specs.Passes.{PassState, number_of}
use Rattle.store_relation.specs.Shared.{IsMet, JournalState, entries, longer_of}
use Rattle.store_relation.specs.Steps.{begun, committed, committing, ended, filled_up, published_now, refreshed, stopped, with_entry}
use Rattle.cells_model.specs.Cells.{CellState}
use Rattle.cells_model.specs.Indexed.{leaf_cells}
use Rattle.cells_model.specs.InPlace.{segment_of}
use Rattle.cells_model.specs.Moved.{IsRoutedTo}
use Rattle.rule_model.specs.Places.{Layout}
use Rattle.rule_model.specs.Sight.{PinState, IndexState, Sight, Agrees, HasPass, HasPin, HasIndex, HasJournal, with_pass, with_journal, with_commit}
use Rattle.rule_model.specs.Steps.{AllowsLoad, AllowsStore, AllowsStoreTelling, Nothing}

-- what the clock tells a pass that has the journal
pub record TellsClock (z : Config) (st : PassState) (j : JournalState) (n : ℕ) : Type 0 where
  pub is : n ≡ length j.commits
  pub seen : IsPrefix st.seen j.commits
  pub bound : n ≤ z.passes * z.txns_per_pass
  pub legal : IsLegal z.kind j.commits
  -- there is room for the entry of an open transaction
  pub room : st.stage ≡ Open → 0 < j.room

-- and one that sees all that is published
pub record TellsJournal (z : Config) (st : PassState) (j : JournalState) (n : ℕ) : Type 0 where
  pub is : n ≡ length j.commits
  pub seen : IsPrefix st.seen j.commits
  pub legal : IsLegal z.kind j.commits
  -- what it has met is of the journal
  pub met : AllByRecursion (IsMet z.kind j) st.met

module _ (z : Config) (at : Layout) (heap : Global) (slots id : ℕ)
    (me : Me (Unit {0}) Sight) where
  -- ---- begin

  -- CLOCK: a load by a pass that has the journal
  abbrev pub ClockIsLoaded : Type 0
  ClockIsLoaded = (p : ℕ) (st : PassState) (j : JournalState) → HasPass me.0 p st
      → HasJournal me.0 j
      → AllowsLoad z at heap slots id me at.clock (λ _. me.0) (TellsClock z st j)

  -- ROOM: a load, after which the journal has room for more entries
  abbrev pub RoomIsMade : Type 0
  RoomIsMade = (j : JournalState) (room : ℕ) → HasJournal me.0 j → j.room ≤ room
      → AllowsLoad z at heap slots id me at.clock
      (λ _. with_journal me.0 (record j { room = room })) Nothing

  -- BEGIN: the store of 'open' at the pass's word. The pass has the journal, has announced, and
  -- has noted no leaf
  abbrev pub TransactionBegins : Type 0
  TransactionBegins = (p : ℕ) (st : PassState) (x : PinState) (j : JournalState)
      → HasPass me.0 p st → HasPin me.0 p x → HasJournal me.0 j
      → st.stage ≡ Idle → st.unstamped ≡ [] → p < z.passes → number_of st < z.txns_per_pass
      → z.passes ≤ j.room
      → x.announced ≡ true → x.noted ≡ []
      → AllowsStore z at heap slots id me (at.pass p) open_word (with_pass me.0 p (begun st j))

  -- ---- commit

  -- STAMP: the store of the stamp at the pass's word, by a pass that has the journal and no
  -- reader out
  abbrev pub StampIsStored : Type 0
  StampIsStored = (p : ℕ) (st : PassState) (j : JournalState) → HasPass me.0 p st
      → HasJournal me.0 j
      → st.stage ≡ Open → st.readers_out ≡ 0 → 0 < length st.own → j.next ≡ []
      → AllowsStore z at heap slots id me (at.pass p) (commit_word (length j.commits))
      (with_commit me.0 p (committing st) (with_entry j p st))

  -- PUBLISH: the store of the clock, once the stamp is stored; its rows are left to be stamped, and the
  -- journal is legal
  abbrev pub CommitIsPublished : Type 0
  CommitIsPublished = (p : ℕ) (st : PassState) (j : JournalState) (unstamped : List Key)
      → HasPass me.0 p st → HasJournal me.0 j → st.stage ≡ Committing
      → ((q : Key) → (any_writes z.kind st.own q || any_touches st.own q) ≡ true
      → has_key unstamped q ≡ true)
      → AllowsStoreTelling z at heap slots id me at.clock (length j.commits + 1)
      (with_commit me.0 p (committed st j unstamped) (published_now j)) (IsLegal z.kind (entries j))

  -- ---- abort

  -- STOP: a load, after which the transaction can't commit any more
  abbrev pub AbortBegins : Type 0
  AbortBegins = (p : ℕ) (st : PassState) → HasPass me.0 p st → st.stage ≡ Open
      → st.readers_out ≡ 0
      → AllowsLoad z at heap slots id me at.clock (λ _. with_pass me.0 p (stopped st)) Nothing

  -- END: the store of 'ended' at the pass's word, once no write stands
  abbrev pub TransactionEnds : Type 0
  TransactionEnds = (p : ℕ) (st : PassState) → HasPass me.0 p st → st.stage ≡ Aborting
      → st.laid ≡ []
      → AllowsStore z at heap slots id me (at.pass p) ended_word (with_pass me.0 p (ended st None))

  -- ---- what was seen

  -- REFRESH: a load by a pass that has the journal
  abbrev pub JournalIsSeen : Type 0
  JournalIsSeen = (p : ℕ) (st : PassState) (j : JournalState) → HasPass me.0 p st
      → HasJournal me.0 j
      → AllowsLoad z at heap slots id me at.clock (λ _. with_pass me.0 p (refreshed st j.commits))
      (TellsJournal z st j)

  -- MEET: a load, after which a pass has seen what another has told it
  abbrev pub PassesMeet : Type 0
  PassesMeet = (p : ℕ) (st : PassState) → HasPass me.0 p st
      → AllowsLoad z at heap slots id me at.clock
      (λ _. with_pass me.0 p (refreshed st (longer_of st.seen me.0.told)))
      (λ _. IsPrefix st.seen (longer_of st.seen me.0.told)
      × IsPrefix me.0.told (longer_of st.seen me.0.told))

  -- ---- full

  -- FULL: a load by a pass that has the index, under which no leaf is free, and the cells of a
  -- leaf, in which no window round the key's cell fits
  pub record IsFullAt (y : IndexState) (key : Key) (leaf segment need : ℕ) : Type 0 where
    pub index : HasIndex me.0 y
    pub routed : IsRoutedTo key y.index.entries leaf segment
    pub below : is_below key end_key ≡ true
    pub few : need ≤ 2
    pub inside : leaf < y.index.leaves
    pub free : y.index.free ≡ []
    pub windows : (cell : ℕ → CellState) → Agrees me.0 cell
        → IsSmallestWindow (Fits (counts_of (leaf_cells (segment_of cell) leaf)) need) segment
        None

  abbrev pub WriteIsFull : Type 0
  WriteIsFull = (p : ℕ) (st : PassState) (y : IndexState) (key : Key) (leaf segment need : ℕ)
      → HasPass me.0 p st → IsFullAt y key leaf segment need
      → AllowsLoad z at heap slots id me at.clock (λ _. with_pass me.0 p (filled_up st)) Nothing
