-- What an open transaction learns of the rows in cells that it holds, and of the writers of their
-- records.
use Rattle.std.specs.Prelude.{◌≡◌, ◌⊎◌, ℕ, ◌-◌, ◌<◌, ◌≤◌, nat_le, true, false, List, [], ◌∷◌, length, slice_get, Some, None}
use Rattle.std.specs.declared.alloc.Global.{Global}
use Rattle.atomic_table.specs.Table.{Me}
use Rattle.graph_model.specs.declared.journal.Commit.{Commit}
use Rattle.graph_model.specs.declared.row.Key.{Key}
use Rattle.graph_model.specs.declared.write.Write.{Write}
use Rattle.graph_model.specs.Account.{Sighting}
use Rattle.graph_model.specs.Conflict.{same_name}
use Rattle.graph_model.specs.Transactions.{reached, stamp_in}
use Rattle.txn_manager.specs.declared.config.Config.{Config}
use Rattle.store_model.specs.Check.{looks_at}
use Rattle.store_model.specs.Stamped.{Stamped, forget_row}
use Rattle.store_relation.specs.VersionSegment.Rows.{versions_at}
use Rattle.store_relation.specs.declared.stage.Stage.TheVariants.{Open}
use Rattle.store_relation.specs.Passes.{PassState}
use Rattle.store_relation.specs.ReadLaws.{Answers, SeesValue}
use Rattle.store_relation.specs.Readers.{ReaderState, reader_of}
use Rattle.store_relation.specs.Rows.{HasRecord}
use Rattle.store_relation.specs.Steps.{look_at, meeting, sighting, with_holder, with_look, with_meeting, with_sighting}
use Rattle.store_relation.specs.Words.{Look}
use Rattle.cells_model.specs.Cells.{CellState}
use Rattle.cells_model.specs.Indexed.{covers}
use Rattle.rule_model.specs.Places.{Layout}
use Rattle.rule_model.specs.Sight.{Sight, HasCell, HasPass, cells_of, with_pass}
use Rattle.rule_model.specs.Steps.{AllowsLoad, Nothing}

-- ---- rows of held cells

-- the view has a cell that covers the key
pub record HasRow (z : Config) (v : Sight) (k : ℕ) (c : CellState) (q : Key) : Type 0 where
  pub cell : HasCell v k c
  pub inside : k < cells_of z
  pub covered : covers c.segment q ≡ true

-- and in the key's row there is this record
pub record HasRecordIn (z : Config) (v : Sight) (k : ℕ) (c : CellState) (q : Key)
    (x : Stamped) : Type 0 where
  pub row : HasRow z v k c q
  pub there : HasRecord (versions_at c.segment q) x

-- at whose writer the write looks
pub record LooksAtRecord (z : Config) (v : Sight) (w : Write) (x : Stamped) : Type 0 where
  pub number : ℕ
  pub cell : CellState
  pub key : Key
  pub record_in : HasRecordIn z v number cell key x
  pub looks : looks_at w key (forget_row (versions_at cell.segment key)) x.by ≡ true

-- What one load of the clock tells of the held rows, by what a reader has seen: an open transaction is
-- one of itself.
pub record LearnsRows (z : Config) (v : Sight) (x : ReaderState) (n : ℕ) : Type 0 where
  -- the rows give the view
  pub reads : (k : ℕ) (c : CellState) (q : Key) → HasRow z v k c q
      → SeesValue z x.seen x.start x.own x.by (stamp_in x.seen) q (versions_at c.segment q)
  -- writers of records without a stamp are passes, and but for this transaction other passes
  pub writers : (k : ℕ) (c : CellState) (q : Key) (r : Stamped) → HasRecordIn z v k c q r
      → r.stamp ≡ None → r.by.job < z.passes
  pub others : (k : ℕ) (c : CellState) (q : Key) (r : Stamped) → HasRecordIn z v k c q r
      → r.stamp ≡ None → same_name r.by x.by ≡ false → r.by.job ≡ x.by.job → ⊥
  -- a stamp says whether the snapshot sees the record
  pub stamps : (k : ℕ) (c : CellState) (q : Key) (r : Stamped) → HasRecordIn z v k c q r
      → (stamp : ℕ) → r.stamp ≡ Some stamp
      → reached (stamp_in x.seen r.by) x.start ≡ nat_le stamp x.start
  pub published : length x.seen ≤ n

-- what the word of a record's writer tells whoever has seen these commits
pub record TellsWriter (seen : List Commit) (x : Stamped) (n : ℕ) : Type 0 where
  pub answers : Answers seen x.by n
  pub open_or_stamped : (n ≡ 1) ⊎ (2 < n)

module _ (z : Config) (at : Layout) (heap : Global) (slots id : ℕ)
    (me : Me (Unit {0}) Sight) where
  -- ---- what one load of the clock tells

  -- LEARN
  abbrev pub PassLearns : Type 0
  PassLearns = (p : ℕ) (st : PassState) → HasPass me.0 p st → st.stage ≡ Open
      → AllowsLoad z at heap slots id me at.clock (λ _. me.0) (LearnsRows z me.0 (reader_of (λ _. st) p))

  -- LEARN, by a reader
  abbrev pub ReaderLearns : Type 0
  ReaderLearns = (x : ReaderState) → me.0.readers ≡ x ∷ []
      → AllowsLoad z at heap slots id me at.clock (λ _. me.0) (LearnsRows z me.0 x)

  -- ---- what one load of a writer's word tells

  -- LOOK: at the writer of a record without a stamp
  abbrev pub WordIsLooked : Type 0
  WordIsLooked = (p : ℕ) (st : PassState) (k : ℕ) (c : CellState) (q : Key) (x : Stamped)
      → HasPass me.0 p st → HasRecordIn z me.0 k c q x → x.stamp ≡ None
      → AllowsLoad z at heap slots id me (at.pass x.by.job) (λ _. me.0) (TellsWriter st.seen x)

  -- LOOK, which is kept
  abbrev pub LookIsKept : Type 0
  LookIsKept = (p : ℕ) (st : PassState) (k : ℕ) (c : CellState) (q : Key) (x : Stamped)
      → HasPass me.0 p st → HasRecordIn z me.0 k c q x → x.stamp ≡ None
      → AllowsLoad z at heap slots id me (at.pass x.by.job)
      (λ n. with_pass me.0 p (with_look st (look_at st x.by n)))
      (TellsWriter st.seen x)

  -- LOOK, by a reader
  abbrev pub ReaderLooks : Type 0
  ReaderLooks = (x : ReaderState) (k : ℕ) (c : CellState) (q : Key) (y : Stamped)
      → me.0.readers ≡ x ∷ []
      → HasRecordIn z me.0 k c q y → y.stamp ≡ None
      → AllowsLoad z at heap slots id me (at.pass y.by.job) (λ _. me.0) (TellsWriter x.seen y)

  -- ---- whom a write meets: each by a load of the clock

  -- HOLDER: of a record of one whom the snapshot doesn't see
  abbrev pub HolderIsFound : Type 0
  HolderIsFound = (p : ℕ) (st : PassState) (w : Write) (x : Stamped) → HasPass me.0 p st
      → LooksAtRecord z me.0 w x → reached (stamp_in st.seen x.by) st.start ≡ false
      → AllowsLoad z at heap slots id me at.clock
      (λ _. with_pass me.0 p (with_holder st (sighting x.by w st.start))) Nothing

  -- and is answered as the cause
  abbrev pub HolderIsAnswered : Type 0
  HolderIsAnswered = (p : ℕ) (st : PassState) (i : ℕ) (x : Sighting) → HasPass me.0 p st
      → slice_get st.holders i ≡ Some x
      → AllowsLoad z at heap slots id me at.clock
      (λ _. with_pass me.0 p (with_sighting st x)) Nothing

  -- MET: of a record with a stamp, or of one whose writer has a look with a stamp
  abbrev pub StampIsMet : Type 0
  StampIsMet = (p : ℕ) (st : PassState) (w : Write) (x : Stamped) (stamp : ℕ)
      → HasPass me.0 p st
      → LooksAtRecord z me.0 w x → x.stamp ≡ Some stamp
      → AllowsLoad z at heap slots id me at.clock
      (λ _. with_pass me.0 p (with_meeting st (meeting w (stamp - 1)))) Nothing

  abbrev pub LookIsMet : Type 0
  LookIsMet = (p : ℕ) (st : PassState) (w : Write) (x : Stamped) (i : ℕ) (l : Look)
      → HasPass me.0 p st
      → LooksAtRecord z me.0 w x → slice_get st.looks i ≡ Some l → l.by ≡ x.by → 2 < l.word
      → AllowsLoad z at heap slots id me at.clock
      (λ _. with_pass me.0 p (with_meeting st (meeting w (l.word - 3)))) Nothing
