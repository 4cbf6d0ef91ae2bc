-- What a pass that holds rows learns of them, and of the writers of their records by words, stamps
-- and looks.
use Rattle.std.specs.Prelude.{◌≡◌, ◌⊎◌, ℕ, ◌+◌, ◌-◌, ◌*◌, ◌<◌, ◌≤◌, Bool, true, false, nat_le, List, length, slice_get, Contains, Option, Some, None}
use Rattle.std.specs.List.{AllByRecursion}
use mathlib.Core.List.{IsPrefix}
use Rattle.graph_model.specs.declared.write.Write.{Write}
use Rattle.graph_model.specs.declared.row.Key.{Key}
use Rattle.graph_model.specs.declared.journal.TxnName.{TxnName}
use Rattle.graph_model.specs.declared.journal.Commit.{Commit}
use Rattle.graph_model.specs.declared.state.State.{State}
use Rattle.graph_model.specs.Account.{IsValid}
use Rattle.graph_model.specs.Conflict.{meets, same_name, later}
use Rattle.graph_model.specs.History.{view}
use Rattle.graph_model.specs.Rows.{vertex_key, value_at}
use Rattle.graph_model.specs.Transactions.{stamp_in, reached, has_name}
use Rattle.txn_manager.specs.declared.config.Config.{Config}
use Rattle.store_model.specs.Check.{looked, droppers, any_drops}
use Rattle.store_model.specs.Stamped.{Stamped, StampedVersions, AreTold, forget_row, read_stamped}
use Rattle.undo_chain.specs.States.{IsAnswer}
use Rattle.store_relation.specs.declared.stage.Stage.TheVariants.{Idle, Open}
use Rattle.store_relation.specs.Ends.{AreAtEnd, IsClosed}
use Rattle.store_relation.specs.Passes.{Meeting, PassState, number_of, writes_by, name_of, account_of}
use Rattle.store_relation.specs.Readers.{ReaderState, IsReader, reader_of}
use Rattle.store_relation.specs.Rows.{HasRecord, AreLookedUp}
use Rattle.store_relation.specs.Shared.{JournalState, IsMet, IsSighted, IsLook, sum_below, IsShared}
use Rattle.store_relation.specs.Steps.{meeting, sighting}
use Rattle.store_relation.specs.Words.{Look, open_word, commit_word, state_of_word, stamps_of, has_look}

-- what a word tells whoever has seen these commits: an answer about its pass's latest transaction
abbrev pub Answers : List Commit → TxnName → ℕ → Type 0
Answers seen by n = (names : TxnName → Bool) (vouched : TxnName → State → Bool)
    → IsAnswer
    (record { known = length seen; stamps = stamp_in seen; names = names; vouched = vouched }) by
    (state_of_word n)

-- by these stamps the row gives the value that a snapshot sees at the key, under its own writes
abbrev pub SeesValue : Config → List Commit → ℕ → List Write → TxnName → (TxnName → Option ℕ) → Key
    → StampedVersions → Type 0
SeesValue z seen start own by stamps k r =
    read_stamped stamps start by r ≡ value_at (view z.kind seen start own) k

module _ (z : Config) (word : ℕ → ℕ) (pass : ℕ → PassState) (j : JournalState)
    (rows : Key → StampedVersions) (clock : ℕ) (s : IsShared z word pass j rows clock) where
  -- ---- reads

  -- READ: an open transaction reads its view in each row, by whatever tells it of the writers of
  -- records without a stamp, and by any part of the journal that has its snapshot
  abbrev pub ReadIsOfView : Type 0
  ReadIsOfView = (p : ℕ) → (pass p).stage ≡ Open
      → (seen : List Commit) → IsPrefix seen j.commits → (pass p).start ≤ length seen
      → (stamps : TxnName → Option ℕ) (k : Key)
      → AreTold stamps (stamp_in j.commits) (pass p).start (rows k)
      → SeesValue z seen (pass p).start (pass p).own (name_of pass p) stamps k (rows k)

  -- a reader reads the view of the account that it was split from
  abbrev pub ReaderReadsView : Type 0
  ReaderReadsView = (x : ReaderState) → IsReader pass j.commits x → (k : Key)
      → SeesValue z x.seen x.start x.own x.by (stamp_in x.seen) k (rows k)

  -- ---- what one load of the clock tells of all rows that are held

  pub record Learns (x : ReaderState) : Type 0 where
    -- by what was seen the view is read
    pub reads : (k : Key) → SeesValue z x.seen x.start x.own x.by (stamp_in x.seen) k (rows k)
    -- the writers of records without a stamp are passes of the store, and but for this transaction
    -- other passes
    pub writers : (k : Key) (r : Stamped) → HasRecord (rows k) r → r.stamp ≡ None
        → r.by.job < z.passes
    pub others : (k : Key) (r : Stamped) → HasRecord (rows k) r → r.stamp ≡ None
        → same_name r.by x.by ≡ false → r.by.job ≡ x.by.job → ⊥
    -- a record's stamp says whether the snapshot sees it
    pub stamps : (k : Key) (r : Stamped) → HasRecord (rows k) r → (stamp : ℕ) → r.stamp ≡ Some stamp
        → reached (stamp_in x.seen r.by) x.start ≡ nat_le stamp x.start
    -- the clock has come at least as far as was seen
    pub published : length x.seen ≤ clock

  -- LEARN: an open transaction
  abbrev pub PassLearns : Type 0
  PassLearns = (p : ℕ) → (pass p).stage ≡ Open → Learns (reader_of pass p)

  -- and a reader
  abbrev pub ReaderLearns : Type 0
  ReaderLearns = (x : ReaderState) → IsReader pass j.commits x → Learns x

  -- ---- what one load of a word tells of the writer of a record without a stamp

  -- LOOK: the writer is its pass's latest transaction, which is open, or has a stamp
  pub record Tells (k : Key) (x : Stamped) : Type 0 where
    pub latest : x.by ≡ name_of pass x.by.job
    pub inside : x.by.job < z.passes
    pub open_or_stamped : (word x.by.job ≡ open_word) ⊎ (2 < word x.by.job)
    pub answers : (seen : List Commit) → IsPrefix seen j.commits → Answers seen x.by (word x.by.job)
    -- and what was found may be kept
    pub look : (until : ℕ) → until ≤ length j.commits
        → IsLook j (record { by = x.by; word = word x.by.job; until = until })

  abbrev pub WordTells : Type 0
  WordTells = (k : Key) (x : Stamped) → HasRecord (rows k) x → x.stamp ≡ None → Tells k x

  -- STAMP: whoever has one has the commit of that place, and it is published
  abbrev pub StampIsPlace : Type 0
  StampIsPlace = (by : TxnName) (stamp : ℕ) → stamp_in j.commits by ≡ Some stamp
      → (i : ℕ) × (c : Commit) × (slice_get j.commits i ≡ Some c) × (c.by ≡ by) × (stamp ≡ i + 1)
      × (stamp ≤ clock)

  -- looks that were kept say up to a horizon who had committed
  abbrev pub LooksTell : Type 0
  LooksTell = (ls : List Look) → AllByRecursion (IsLook j) ls → (horizon : ℕ) (by : TxnName)
      → has_look horizon ls by ≡ true
      → reached (stamps_of ls by) horizon ≡ reached (stamp_in j.commits by) horizon

  -- so a row may be pruned by them
  abbrev pub LooksTellRow : Type 0
  LooksTellRow = (ls : List Look) → AllByRecursion (IsLook j) ls
      → (horizon : ℕ) (r : StampedVersions)
      → AreLookedUp horizon ls r → AreTold (stamps_of ls) (stamp_in j.commits) horizon r

  -- ---- whom a write meets

  -- whoever a write looks at has made a write that clashes
  abbrev pub LookedHasMade : Type 0
  LookedHasMade = (w : Write) (n : TxnName)
      → has_name (looked w (λ k. forget_row (rows k))) n ≡ true
      → meets z.kind w (writes_by (pass n.job) n.number) ≡ true

  -- a pair without value in the row of a vertex is of one who has removed the vertex
  abbrev pub DropperHasRemoved : Type 0
  DropperHasRemoved = (n : TxnName) (v : ℕ)
      → has_name (droppers (forget_row (rows (vertex_key v)))) n ≡ true
      → any_drops (writes_by (pass n.job) n.number) (vertex_key v) ≡ true

  -- MET: a commit by one at whom the write looks clashes, be it known by its writer's word or by a
  -- stamp
  abbrev pub WordIsMet : Type 0
  WordIsMet = (w : Write) (p n : ℕ) → word p ≡ commit_word n
      → has_name (looked w (λ k. forget_row (rows k))) (name_of pass p) ≡ true
      → IsMet z.kind j (meeting w n)

  abbrev pub StampIsMet : Type 0
  StampIsMet = (w : Write) (by : TxnName) (stamp : ℕ) → stamp_in j.commits by ≡ Some stamp
      → has_name (looked w (λ k. forget_row (rows k))) by ≡ true
      → IsMet z.kind j (meeting w (stamp - 1))

  -- or by a look that was kept
  abbrev pub LookIsMet : Type 0
  LookIsMet = (w : Write) (l : Look) → IsLook j l → 2 < l.word
      → has_name (looked w (λ k. forget_row (rows k))) l.by ≡ true
      → IsMet z.kind j (meeting w (l.word - 3))

  -- HOLDER: one at whom the write looks, and whom the snapshot doesn't see, may be named as the
  -- cause
  abbrev pub HolderIsSighted : Type 0
  HolderIsSighted = (p : ℕ) (w : Write) (n : TxnName)
      → has_name (looked w (λ k. forget_row (rows k))) n ≡ true
      → reached (stamp_in (pass p).seen n) (pass p).start ≡ false
      → IsSighted z.kind pass j (sighting n w (pass p).start)

  -- LATER: once the journal was seen so far, what was met after the start is answered by its
  -- stamp
  abbrev pub MetIsLater : Type 0
  MetIsLater = (m : Meeting) → IsMet z.kind j m → (start : ℕ) → start ≤ m.place
      → m.place < length j.commits
      → Contains (later z.kind j.commits start m.write) (m.place + 1)

  -- ---- the clock, accounts, and the end

  -- the clock is at most the number of transactions that were begun
  abbrev pub ClockIsBounded : Type 0
  ClockIsBounded = (clock ≤ sum_below (λ p. number_of (pass p)) z.passes)
      × (clock ≤ z.passes * z.txns_per_pass)

  -- between calls the account of each pass is valid
  abbrev pub AccountIsValid : Type 0
  AccountIsValid = (p : ℕ) → ((pass p).stage ≡ Idle) ⊎ ((pass p).stage ≡ Open)
      → IsValid (account_of z p (pass p))

  -- CLOSE
  abbrev pub StoreCloses : Type 0
  StoreCloses = AreAtEnd z pass → IsClosed z pass j.commits rows
