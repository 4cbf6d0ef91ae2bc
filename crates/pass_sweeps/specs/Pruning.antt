-- A cell in hand, and what a prune makes of it.
use Rattle.std.specs.Prelude.{◌≡◌, ◌≢◌, ◌⊎◌, ℕ, ◌+◌, ◌<◌, nat_lt, Bool, true, false, List, [], ◌∷◌, length, Option, None, unwrap_or}
use Rattle.std.specs.List.{list_any}
use Rattle.graph_model.specs.declared.journal.TxnName.{TxnName}
use Rattle.graph_model.specs.declared.row.Key.{Key}
use Rattle.graph_model.specs.Transactions.{stamp_in}
use Rattle.store_model.specs.Stamped.{StampedVersions}
use Rattle.pass_steps.specs.VersionSegment.Rows.{VersionedRows, IsSameSegment, IsSegment, PrunesRows, all_records, pruned_rows}
use Rattle.seat_views.specs.Keeping.{kept_at}
use Rattle.epoch_reclaim.specs.declared.sweep.Sweep.{Sweep}
use Rattle.epoch_reclaim.specs.Pinned.{horizon_of}
use Rattle.pass_steps.specs.StoreRelation.Passes.{PassState}
use Rattle.pass_steps.specs.CellsModel.Cells.{CellState}
use Rattle.pass_steps.specs.CellsModel.Words.{HasSmallWeights, block_words}
use Rattle.pass_steps.specs.RuleModel.EndSteps.{new_state}
use Rattle.pass_steps.specs.RuleModel.Sight.{HasCell, PinState, Sight, cells_of}
use Rattle.pass_steps.specs.StoreWords.Spelling.{IsUntouched}
use Rattle.pass_steps.specs.StoreRuleDeclared.buffers.TheConstants.{MOST_UNPACKED}
use Rattle.pass_steps.specs.StoreRuleDeclared.slot.StoreSlot.TheVariants as slots
use Rattle.pass_steps.specs.StoreRuleDeclared.store.Pass.{Pass}
use Rattle.pass_steps.specs.StoreRuleDeclared.store.Store.{Store}
use Rattle.pass_steps.specs.Passes.{IsPassOf, pin_of, state_of}
use Rattle.pass_sweeps.specs.Sweeping.{HasSwept}

-- ---- a cell in hand

-- the pass holds one cell, of which it knows this, and nothing else; it has lent so many of its buffers
pub record HasCellOnly (store : Store) (pass : Pass) (st : PassState) (x : PinState) (k : ℕ) (c : CellState)
    (lent : ℕ) : Type 0 where
  pub of : IsPassOf store pass
  pub latch : pass.latch.me.1 ≡ (k, slots.Out) ∷ []
  pub inside : k < cells_of store.accounts.config
  pub buffers : pass.buffers + lent ≡ MOST_UNPACKED
  pub state : state_of pass ≡ st
  pub pin : pin_of pass ≡ x
  pub cell : HasCell pass.account.me.0 k c
  pub alone : (l : ℕ) → l ≢ k → kept_at pass.account.me.0.cells l ≡ None
  pub indexes : pass.account.me.0.indexes ≡ []
  pub journals : pass.account.me.0.journals ≡ []

-- the cell is unpacked, and these contents are in hand; where they weren't changed its block spells them
pub record IsUnpackedAs (c : CellState) (s : VersionedRows) (changed : Bool) : Type 0 where
  pub unpacked : c.unpacked ≡ true
  pub wide : length c.block ≡ block_words
  pub same : IsSameSegment c.segment s
  pub sound : IsSegment s
  pub small : HasSmallWeights s
  pub untouched : changed ≡ false → IsUntouched c

-- what the view has of a cell, and that with other contents
abbrev pub cell_in : Sight → ℕ → CellState
cell_in v k = unwrap_or (kept_at v.cells k) (new_state k)

abbrev pub news_of : Sight → ℕ → VersionedRows → List (ℕ × CellState)
news_of v k s = (k, record (cell_in v k) { segment = s }) ∷ []

-- it is the same pass, which has found more words
pub record FindsWords (old new : Pass) : Type 0 where
  pub number : new.number ≡ old.number
  pub state : state_of new ≡ record (state_of old) { looks = (state_of new).looks }
  pub pin : pin_of new ≡ pin_of old
  pub reads : new.account.me.0.reads ≡ old.account.me.0.reads

-- ---- a prune

-- which commit each transaction has, as far as the pass has seen the journal
abbrev pub stamps_seen : PassState → TxnName → Option ℕ
stamps_seen st = stamp_in st.seen

-- a prune of these rows takes a record away
abbrev pub is_prunable : (TxnName → Option ℕ) → ℕ → List (Key × StampedVersions) → Bool
is_prunable stamps horizon rows = nat_lt (all_records (pruned_rows stamps horizon rows)) (all_records rows)

-- the contents are pruned, and the answer says whether a record went
pub record IsPruned (stamps : TxnName → Option ℕ) (horizon : ℕ) (old new : VersionedRows) (went : Bool)
    : Type 0 where
  pub rows : PrunesRows stamps horizon old new
  pub went_is : went ≡ is_prunable stamps horizon old.rows

-- they are what a prune has left, which says whether a record went, or have no records
abbrev pub IsSweptTo : (TxnName → Option ℕ) → ℕ → VersionedRows → Bool → Type 0
IsSweptTo stamps horizon new went = ((old : VersionedRows) × IsPruned stamps horizon old new went)
    ⊎ ((all_records new.rows ≡ 0) × (went ≡ false))

-- the pass has this cell in hand, packed, which has been pruned at the horizon of its sweep; no record is left where it
-- is called settled
pub record IsPrunedInHand (store : Store) (pass : Pass) (sweep : Sweep) (k : ℕ) (went settled : Bool)
    : Type 0 where
  pub cell : CellState
  pub only : HasCellOnly store pass (state_of pass) (pin_of pass) k cell 0
  pub swept : HasSwept store pass sweep
  pub pruned : IsSweptTo (stamps_seen (state_of pass)) (horizon_of sweep) cell.segment went
  pub none : settled ≡ true → all_records cell.segment.rows ≡ 0

-- a cell was found with some rows, and a record went exactly where a prune takes one away
pub record TakesAway (stamps : TxnName → Option ℕ) (horizon : ℕ) (went : Bool) : Type 0 where
  pub found : List (Key × StampedVersions)
  pub went_is : went ≡ is_prunable stamps horizon found

-- and so of so many cells
pub record TakesAwayOf (stamps : TxnName → Option ℕ) (horizon : ℕ) (count : ℕ) (went : Bool) : Type 0 where
  pub found : List (List (Key × StampedVersions))
  pub count_is : length found ≡ count
  pub went_is : went ≡ list_any (is_prunable stamps horizon) found
