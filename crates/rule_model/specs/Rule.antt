-- THE RULE OF THE ACCOUNT TABLE: transactions, cells under their index, blocks of words, pins and
-- noted leaves.
use Rattle.std.specs.Prelude.{◌≡◌, ℕ, ◌≤◌, Bool, true, false, List, length, Option, Some}
use Rattle.std.specs.List.{flat_map}
use Rattle.std.specs.declared.alloc.Global.{Global}
use mathlib.Core.List.{IsPrefix}
use mathlib.Core.Option.{some}
use lib.ListN.{get_elem?}
use Rattle.atomic_table.specs.Table.{State}
use Rattle.graph_model.specs.declared.row.Key.{Key}
use Rattle.txn_manager.specs.declared.config.Config.{Config}
use Rattle.store_model.specs.Stamped.{StampedVersions}
use Rattle.cells_model.specs.LeafStore.Leaves.{Leaves, versions_of, weight}
use Rattle.seat_views.specs.Keeping.{Keeps}
use Rattle.epoch_reclaim.specs.declared.sweep.Sweep.{Sweep}
use Rattle.epoch_reclaim.specs.Pinned.{IsPinned}
use Rattle.store_relation.specs.Passes.{PassState, is_active}
use Rattle.store_relation.specs.Readers.{AreReaders}
use Rattle.store_relation.specs.Shared.{IsShared, inserted_by_all}
use Rattle.cells_model.specs.Cells.{AreBlocks}
use Rattle.cells_model.specs.Reads.{Reading, IsReading}
use Rattle.cells_model.specs.Indexed.{store_of, IsIndexed}
use Rattle.cells_model.specs.InPlace.{segment_of}
use Rattle.cells_model.specs.Noted.{IsAmong, AreNoted}
use Rattle.rule_model.specs.Places.{Layout, Words, KeepsApart, words_at}
use Rattle.rule_model.specs.Sight.{PinState, Sight, Known, cells_of}

-- ---- what is known, part by part

abbrev pub active_of : (ℕ → PassState) → ℕ → Bool
active_of pass p = is_active (pass p).stage

abbrev pub start_of : (ℕ → PassState) → ℕ → ℕ
start_of pass p = (pass p).start

abbrev pub announced_of : (ℕ → PinState) → ℕ → Bool
announced_of pin p = (pin p).announced

abbrev pub noted_of : (ℕ → PinState) → ℕ → List ℕ
noted_of pin p = (pin p).noted

abbrev pub sweep_of : (ℕ → PinState) → ℕ → Option Sweep
sweep_of pin p = (pin p).sweep

-- the leaves under the index; where one would lie in memory is of no account
abbrev pub leaves_now : Global → Known → Leaves
leaves_now heap k = store_of heap (k.index 0).index (segment_of k.cell)

-- what each key has
abbrev pub rows_now : Global → Known → Key → StampedVersions
rows_now heap k q = versions_of (leaves_now heap k) q

-- ---- words and contents, whoever knows them

pub record IsStored (z : Config) (heap : Global) (w : Words) (k : Known) : Type 0 where
  -- transactions of all passes over the rows
  pub shared : IsShared z w.pass k.pass (k.journal 0) (rows_now heap k) w.clock
  -- the index against the cells, and how full they are
  pub indexed : IsIndexed heap (k.index 0).index (segment_of k.cell)
  pub leaves : (k.index 0).index.leaves ≡ z.leaves
  pub weighed : weight (leaves_now heap k) ≤ inserted_by_all z k.pass
  -- the words of blocks
  pub blocks : AreBlocks (cells_of z) w.block k.cell
  -- pins, and leaves that passes have noted
  pub pinned : IsPinned w.pin (active_of k.pass) (start_of k.pass) (announced_of k.pin)
      (sweep_of k.pin) w.clock
  pub noted : AreNoted (k.index 0).index (active_of k.pass) (start_of k.pass) (noted_of k.pin)
      (sweep_of k.pin)
      (k.index 0).sweeper
  -- a pass that is announced and not pinned has noted no leaf
  pub fast : (p l : ℕ) → active_of k.pass p ≡ true → IsAmong l (noted_of k.pin p)
      → announced_of k.pin p ≡ false

-- ---- the rule

-- the words of a table
abbrev pub words_of : Config → Layout → List ℕ → Words
words_of z at words = words_at at z.passes (cells_of z) words

pub record IsStoreRule (z : Config) (at : Layout) (heap : Global)
    (s : State (Unit {0}) Sight) : Type 0 where
  pub apart : KeepsApart at z.passes (cells_of z) (length s.words)
  -- each pass, pin, cell, the index and the journal are known to one seat
  pub known : Known
  pub pass_keeper : ℕ → ℕ
  pub pin_keeper : ℕ → ℕ
  pub cell_keeper : ℕ → ℕ
  pub index_keeper : ℕ → ℕ
  pub journal_keeper : ℕ → ℕ
  pub passes : Keeps (λ (v : Sight). v.passes) s.views known.pass pass_keeper
  pub pins : Keeps (λ (v : Sight). v.pins) s.views known.pin pin_keeper
  pub cells : Keeps (λ (v : Sight). v.cells) s.views known.cell cell_keeper
  pub indexes : Keeps (λ (v : Sight). v.indexes) s.views known.index index_keeper
  pub journals : Keeps (λ (v : Sight). v.journals) s.views known.journal journal_keeper
  -- several seats may know of the same commits, readers and reads
  pub told : (seat : ℕ) (v : Sight) → get_elem? s.views seat ≡ some v
      → IsPrefix v.told (known.journal 0).commits
  pub readers : AreReaders known.pass (known.journal 0).commits
      (flat_map (λ v. v.readers) s.views)
  pub reads : (seat : ℕ) (v : Sight) (q : Reading) → get_elem? s.views seat ≡ some v
      → v.reads.reading ≡ Some q → IsReading (cells_of z) known.cell q
  pub stored : IsStored z heap (words_of z at s.words) known

-- the rule of a table: there are leaves of which it holds
abbrev pub IsStoreTable : Config → Layout → State (Unit {0}) Sight → Type 0
IsStoreTable z at s = (heap : Global) × IsStoreRule z at heap s
