-- What each step of a transaction asks, and that it keeps the rule. Each law is the contract of a
-- function in `laws`; `InEachStore` says it of every store under the rule.
use Rattle.std.specs.Prelude.{◌≡◌, ◌⊎◌, ℕ, ◌+◌, ◌*◌, ◌<◌, ◌≤◌, ◌++◌, ◌||◌, true, List, [], ◌∷◌, length, slice_get, Option, Some, None}
use Rattle.std.specs.List.{AllByRecursion}
use mathlib.Core.List.{IsPrefix}
use Rattle.graph_model.specs.declared.limits.TheConstants.{SPLIT_ROWS}
use Rattle.graph_model.specs.declared.write.Write.{Write}
use Rattle.graph_model.specs.declared.row.Key.{Key}
use Rattle.graph_model.specs.declared.journal.TxnName.{TxnName}
use Rattle.graph_model.specs.declared.journal.Commit.{Commit}
use Rattle.graph_model.specs.Account.{Sighting}
use Rattle.graph_model.specs.Effects.{any_writes, any_touches}
use Rattle.graph_model.specs.History.{view}
use Rattle.graph_model.specs.Passes.{revised}
use Rattle.graph_model.specs.Refused.{refused, IsWithinLimits}
use Rattle.graph_model.specs.Transactions.{stamp_in}
use Rattle.txn_manager.specs.declared.config.Config.{Config}
use Rattle.store_model.specs.Check.{MayWrite}
use Rattle.store_model.specs.Stamped.{StampedVersions, AreTold, forget_row, prune_stamped, stamp}
use Rattle.version_segment.specs.Rows.{nothing}
use Rattle.store_relation.specs.declared.stage.Stage.TheVariants.{Idle, Open, Aborting, Committing}
use Rattle.store_relation.specs.Keys.{has_key}
use Rattle.store_relation.specs.Passes.{Meeting, PassState, fresh_pass, may_commit, number_of, name_of, sees_by}
use Rattle.store_relation.specs.Readers.{ReaderState, AreReaders, IsSameTxn, reader_of}
use Rattle.store_relation.specs.Rows.{row_after, row_before}
use Rattle.store_relation.specs.Shared.{JournalState, no_journal, longer_of, IsMet, IsSighted, IsLook, inserted_by_all, IsShared}
use Rattle.store_relation.specs.Steps.{begun, written_by, filled_up, ended, stopped, taken_back, committing, with_entry, committed, published_now, with_unstamped, refreshed, with_notes, with_reader, without_reader}
use Rattle.store_relation.specs.Words.{Look, open_word, ended_word, commit_word}

-- a law of one store
abbrev pub StoreLaw : Type 1
StoreLaw = (z : Config) (word : ℕ → ℕ) (pass : ℕ → PassState) (j : JournalState)
    (rows : Key → StampedVersions) (clock : ℕ) → IsShared z word pass j rows clock → Type 0

abbrev pub InEachStore : StoreLaw → Type 0
InEachStore Law = (z : Config) (word : ℕ → ℕ) (pass : ℕ → PassState) (j : JournalState)
    (rows : Key → StampedVersions) (clock : ℕ) (s : IsShared z word pass j rows clock)
    → Law z word pass j rows clock s

-- nothing has begun: no word is set, and there are no rows
abbrev pub NewStore : Type 0
NewStore = (z : Config) → IsShared z (λ p. 0) (λ p. fresh_pass) no_journal (λ k. nothing) 0

module _ (z : Config) (word : ℕ → ℕ) (pass : ℕ → PassState) (j : JournalState)
    (rows : Key → StampedVersions) (clock : ℕ) (s : IsShared z word pass j rows clock) where
  -- ---- begin

  -- the journal gets room for more entries
  abbrev pub RoomIsMade : Type 0
  RoomIsMade = (room : ℕ) → j.room ≤ room
      → IsShared z word pass (record j { room = room }) rows clock

  -- BEGIN, the store of 'open': the clock is what it was when it was loaded, since whoever begins
  -- holds the journal; and the records of the last commit all have their stamps
  abbrev pub TransactionBegins : Type 0
  TransactionBegins = (p : ℕ) → (pass p).stage ≡ Idle → (pass p).unstamped ≡ []
      → p < z.passes → number_of (pass p) < z.txns_per_pass → z.passes ≤ j.room
      → IsShared z (revised word p open_word) (revised pass p (begun (pass p) j)) j rows clock

  -- ---- writes

  -- WRITE, of any of the five kinds: the view allows it, and in each row whoever stands where the
  -- write looks is seen by the snapshot
  abbrev pub WriteIsMade : Type 0
  WriteIsMade = (p : ℕ) (w : Write) (rows' : Key → StampedVersions) → (pass p).stage ≡ Open
      → refused (view z.kind (pass p).seen (pass p).start (pass p).own) w ≡ None → IsWithinLimits w
      → ((k : Key) → MayWrite z.kind (sees_by p (pass p)) w k (forget_row (rows k)))
      → ((k : Key) → rows' k ≡ row_after z.kind (name_of pass p) w k (rows k))
      → IsShared z word (revised pass p (written_by (pass p) w)) j rows' clock

  -- a write is answered `Full`, where the rows that were inserted may fill the leaves
  abbrev pub WriteIsFull : Type 0
  WriteIsFull = (p : ℕ) → SPLIT_ROWS * z.leaves ≤ inserted_by_all z pass
      → IsShared z word (revised pass p (filled_up (pass p))) j rows clock

  -- ---- commit

  -- STAMP, the store of the stamp: its entry is the journal's next
  abbrev pub StampIsStored : Type 0
  StampIsStored = (p : ℕ) → (pass p).stage ≡ Open → 0 < length (pass p).own → j.next ≡ []
      → IsShared z (revised word p (commit_word (length j.commits)))
      (revised pass p (committing (pass p)))
      (with_entry j p (pass p)) rows clock

  -- PUBLISH, the store of the clock: a stamp is stored, and all rows of the commit are left to be
  -- stamped
  abbrev pub CommitIsPublished : Type 0
  CommitIsPublished = (p : ℕ) (unstamped : List Key) → (pass p).stage ≡ Committing
      → ((k : Key) → (any_writes z.kind (pass p).own k || any_touches (pass p).own k) ≡ true
      → has_key unstamped k ≡ true)
      → IsShared z word (revised pass p (committed (pass p) j unstamped)) (published_now j) rows
      (clock + 1)

  -- STAMP ROWS: each row has the stamp in the records of the commit, or is as it was and is still
  -- to be stamped
  abbrev pub RowsAreStamped : Type 0
  RowsAreStamped = (p : ℕ) (unstamped : List Key) (c : Commit) (i : ℕ)
      (rows' : Key → StampedVersions)
      → (pass p).stage ≡ Idle → slice_get (pass p).seen i ≡ Some c → c.by ≡ name_of pass p
      → ((k : Key) → (rows' k ≡ stamp (name_of pass p) c.stamp (rows k))
      ⊎ ((rows' k ≡ rows k) × (has_key (pass p).unstamped k ≡ true → has_key unstamped k ≡ true)))
      → IsShared z word (revised pass p (with_unstamped (pass p) unstamped)) j rows' clock

  -- ---- abort

  -- STOP: the transaction gives up
  abbrev pub AbortBegins : Type 0
  AbortBegins = (p : ℕ) → (pass p).stage ≡ Open
      → IsShared z word (revised pass p (stopped (pass p))) j rows clock

  -- UNDO: the newest write that stands is taken back
  abbrev pub WriteIsUndone : Type 0
  WriteIsUndone = (p : ℕ) (front : List Write) (w : Write) (rows' : Key → StampedVersions)
      → (pass p).stage ≡ Aborting → (pass p).laid ≡ front ++ w ∷ []
      → ((k : Key) → rows' k ≡ row_before z.kind (name_of pass p) w k (rows k))
      → IsShared z word (revised pass p (taken_back (pass p) front)) j rows' clock

  -- END, the store of 'ended': no write stands
  abbrev pub TransactionEnds : Type 0
  TransactionEnds = (p : ℕ) → (pass p).stage ≡ Aborting → (pass p).laid ≡ []
      → IsShared z (revised word p ended_word) (revised pass p (ended (pass p) None)) j rows clock

  -- ---- what is known of others

  -- NOTE: what a load of a word or of the clock has shown is kept, or let go
  abbrev pub NotesAreKept : Type 0
  NotesAreKept = (p : ℕ) (met : List Meeting) (holders sighted : List Sighting) (looks : List Look)
      → AllByRecursion (IsMet z.kind j) met → AllByRecursion (IsSighted z.kind pass j) holders
      → AllByRecursion (IsSighted z.kind pass j) sighted → AllByRecursion (IsLook j) looks
      → IsShared z word (revised pass p (with_notes (pass p) met holders sighted looks)) j rows
      clock

  -- REFRESH: the journal is seen further, or as far as another pass has told
  abbrev pub JournalIsSeen : Type 0
  JournalIsSeen = (p : ℕ) (seen : List Commit) → IsPrefix seen j.commits
      → (pass p).start ≤ length seen
      → IsShared z word (revised pass p (refreshed (pass p) seen)) j rows clock

  -- MEET: of what a pass has seen and what another tells the longer one has both, and is published
  abbrev pub PassesMeet : Type 0
  PassesMeet = (p : ℕ) (told : List Commit) → IsPrefix told j.commits
      → IsPrefix (pass p).seen (longer_of (pass p).seen told)
      × IsPrefix told (longer_of (pass p).seen told)
      × IsShared z word (revised pass p (refreshed (pass p) (longer_of (pass p).seen told))) j rows
      clock

  -- ---- prune

  -- PRUNE, at a stamp up to a horizon that is above no start of a transaction that may still
  -- commit, by whatever tells of the writers of records without a stamp
  abbrev pub RowsArePruned : Type 0
  RowsArePruned = (stamps : TxnName → Option ℕ) (at horizon : ℕ) (rows' : Key → StampedVersions)
      → s.horizon ≤ horizon → at ≤ horizon → horizon ≤ length j.commits
      → ((p : ℕ) → may_commit (pass p).stage ≡ true → horizon ≤ (pass p).start)
      → ((k : Key) → (rows' k ≡ rows k)
      ⊎ ((rows' k ≡ prune_stamped stamps at (rows k))
      × AreTold stamps (stamp_in j.commits) at (rows k)))
      → IsShared z word pass j rows' clock

  -- ---- readers

  -- SPLIT: an open transaction gives a reader what it has
  abbrev pub ReaderIsSplit : Type 0
  ReaderIsSplit = (p : ℕ) (readers : List ReaderState) → AreReaders pass j.commits readers
      → (pass p).stage ≡ Open
      → IsShared z word (revised pass p (with_reader (pass p))) j rows clock
      × AreReaders (revised pass p (with_reader (pass p))) j.commits
      (readers ++ reader_of pass p ∷ [])

  -- JOIN: the pass takes it back
  abbrev pub ReaderIsJoined : Type 0
  ReaderIsJoined = (front back : List ReaderState) (x : ReaderState)
      → AreReaders pass j.commits (front ++ x ∷ back)
      → IsShared z word (revised pass x.by.job (without_reader (pass x.by.job))) j rows clock
      × AreReaders (revised pass x.by.job (without_reader (pass x.by.job))) j.commits
      (front ++ back)

  -- any other step leaves them: of a pass that has none out, or one that leaves its transaction
  abbrev pub ReadersStay : Type 0
  ReadersStay = (p : ℕ) (now : PassState) (j' : JournalState) (readers : List ReaderState)
      → AreReaders pass j.commits readers → IsPrefix j.commits j'.commits
      → ((pass p).readers_out ≡ 0) ⊎ IsSameTxn (pass p) now → now.readers_out ≡ (pass p).readers_out
      → AreReaders (revised pass p now) j'.commits readers

  -- only a pass whose transaction is open has readers out
  abbrev pub OnlyOpenLends : Type 0
  OnlyOpenLends = (p : ℕ) (readers : List ReaderState) → AreReaders pass j.commits readers
      → ((pass p).stage ≡ Open → ⊥) → (pass p).readers_out ≡ 0
