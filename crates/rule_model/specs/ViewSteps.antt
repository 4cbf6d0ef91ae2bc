-- Seats whose views are cut in two and joined: notes that are laid beside values, and readers
-- that a pass splits off.
use Rattle.std.specs.Prelude.{◌≡◌, ◌⊎◌, ℕ, ◌++◌, List, [], ◌∷◌, Some, None}
use Rattle.std.specs.declared.alloc.Global.{Global}
use mathlib.Core.List.{IsPrefix}
use Rattle.atomic_table.specs.Table.{Splits, Joins}
use Rattle.graph_model.specs.declared.journal.Commit.{Commit}
use Rattle.txn_manager.specs.declared.config.Config.{Config}
use Rattle.seat_views.specs.Keeping.{kept_at}
use Rattle.store_relation.specs.declared.stage.Stage.TheVariants.{Open}
use Rattle.store_relation.specs.Passes.{PassState}
use Rattle.store_relation.specs.Readers.{ReaderState, reader_of}
use Rattle.store_relation.specs.Shared.{longer_of}
use Rattle.store_relation.specs.Steps.{with_reader, without_reader}
use Rattle.rule_model.specs.Places.{Layout}
use Rattle.rule_model.specs.Sight.{ReadState, Sight, HasPass, no_reads, no_sight, with_pass}
use Rattle.rule_model.specs.Rule.{IsStoreRule, IsStoreTable}

-- ---- a view is cut in two

-- of what is kept, each number goes to one side
pub record IsCut {A : Type 0} (part : Sight → List (ℕ × A))
    (v left right : Sight) : Type 0 where
  pub left_kept : (k : ℕ) (a : A) → kept_at (part left) k ≡ Some a
      → (kept_at (part v) k ≡ Some a) × (kept_at (part right) k ≡ None)
  pub right_kept : (k : ℕ) (a : A) → kept_at (part right) k ≡ Some a
      → kept_at (part v) k ≡ Some a

-- commits that the view knows of: it was told of them, or one of its passes has seen them
abbrev pub IsKnownTo : Sight → List Commit → Type 0
IsKnownTo v commits = (commits ≡ []) ⊎ (IsPrefix commits v.told
    ⊎ ((p : ℕ) × (st : PassState) × HasPass v p st × IsPrefix commits st.seen))

-- what was told, readers and the read stay; the other side may be told what the view knows
pub record IsSplit (v left right : Sight) : Type 0 where
  pub passes : IsCut (λ (u : Sight). u.passes) v left right
  pub pins : IsCut (λ (u : Sight). u.pins) v left right
  pub cells : IsCut (λ (u : Sight). u.cells) v left right
  pub indexes : IsCut (λ (u : Sight). u.indexes) v left right
  pub journals : IsCut (λ (u : Sight). u.journals) v left right
  pub told : left.told ≡ v.told
  pub readers : left.readers ≡ v.readers
  pub reads : left.reads ≡ v.reads
  pub right_told : IsKnownTo v right.told
  pub right_readers : right.readers ≡ []
  pub right_reads : right.reads.reading ≡ None

-- one seat has what two had
abbrev pub joined : Sight → Sight → Sight
joined v w = record {
  passes = w.passes ++ v.passes;
  pins = w.pins ++ v.pins;
  cells = w.cells ++ v.cells;
  indexes = w.indexes ++ v.indexes;
  journals = w.journals ++ v.journals;
  told = longer_of v.told w.told;
  readers = v.readers;
  reads = v.reads;
}

-- a seat that has a reader and nothing else
abbrev pub reader_seat : ReaderState → List Commit → ReadState → Sight
reader_seat x told reads = record no_sight { told = told; readers = x ∷ []; reads = reads }

module _ (z : Config) (at : Layout) (heap : Global) (id : ℕ) (v : Sight) where
  -- SPLIT: notes of any kind are cut off
  abbrev pub SeatSplits : Type 0
  SeatSplits = (left right : Sight) → IsSplit v left right
      → Splits (IsStoreRule z at heap) id v left right

  -- JOIN: they are taken in again
  abbrev pub SeatsJoin : Type 0
  SeatsJoin = (other : ℕ) (w : Sight) → w.readers ≡ []
      → Joins (IsStoreRule z at heap) id v other w (joined v w) no_sight

  -- SPLIT of a reader: the pass counts it, and it has the pass's open transaction
  abbrev pub ReaderIsSplit : Type 0
  ReaderIsSplit = (p : ℕ) (st : PassState) → HasPass v p st → st.stage ≡ Open
      → Splits (IsStoreRule z at heap) id v
      (with_pass v p (with_reader st))
      (reader_seat (reader_of (λ _. st) p) [] no_reads)

  -- JOIN of a reader that holds no cell: the pass counts one less
  abbrev pub ReaderIsJoined : Type 0
  ReaderIsJoined = (p : ℕ) (st : PassState) (other : ℕ) (x : ReaderState) (told : List Commit)
      (reads : ReadState)
      → HasPass v p st → x.by.job ≡ p
      → Joins (IsStoreRule z at heap) id v other (reader_seat x told reads)
      (with_pass v p (without_reader st)) no_sight

-- a law of views
abbrev pub OfEachView : (Config → Layout → Global → ℕ → Sight → Type 0) → Type 0
OfEachView Law = (z : Config) (at : Layout) (heap : Global) (id : ℕ) (v : Sight)
    → Law z at heap id v

-- what may be done wherever the leaves would lie may be done under the rule of a table
abbrev pub HeapIsOfNoAccount : Type 0
HeapIsOfNoAccount =
    (z : Config) (at : Layout) (id : ℕ) (v left right : Sight)
    → ((heap : Global) → Splits (IsStoreRule z at heap) id v left right)
    → Splits (IsStoreTable z at) id v left right
