-- THE RULE OF A SHARED STORE, as between two steps: the words and states of all passes, the
-- journal, and the rows with their stamps. All are plain functions, wherever words and rows lie.
use Rattle.std.specs.Prelude.{◌≡◌, ℕ, zero, suc, ◌+◌, ◌-◌, ◌*◌, ◌<◌, ◌≤◌, ◌++◌, true, cond, nat_le, List, [], ◌∷◌, length, slice_get, Some, None}
use Rattle.std.specs.List.{AllByRecursion, flat_map}
use mathlib.Core.List.{IsPrefix}
use Rattle.graph_model.specs.declared.limits.TheConstants.{SPLIT_ROWS}
use Rattle.graph_model.specs.declared.write.Kind.{Kind}
use Rattle.graph_model.specs.declared.row.Key.{Key}
use Rattle.graph_model.specs.declared.journal.TxnName.{TxnName}
use Rattle.graph_model.specs.declared.journal.Commit.{Commit}
use Rattle.graph_model.specs.Account.{Sighting}
use Rattle.graph_model.specs.Conflict.{meets}
use Rattle.graph_model.specs.Inserted.{inserted}
use Rattle.graph_model.specs.Transactions.{commit_of, stamp_in, reached}
use Rattle.txn_manager.specs.declared.config.Config.{Config}
use Rattle.store_model.specs.Stamped.{Stamped, StampedVersions, IsStamped, forget_row}
use Rattle.store_model.specs.Store.{IsStore}
use Rattle.store_relation.specs.declared.stage.Stage.TheVariants.{Idle, Committing}
use Rattle.store_relation.specs.Passes.{Meeting, PassState, needs_room, IsLaid, made_of, number_of, writes_by, name_at, name_of, stamp_by, now_of, running_of, laid_of, touching_by, may_stand}
use Rattle.store_relation.specs.Words.{Look, IsMarked, commit_word, stamp_of_word}

-- ---- the journal

-- the commits that are published, the entry whose stamp is stored and not published, and for how
-- many more there is room
pub record JournalState : Type 0 where
  pub commits : List Commit
  pub next : List Commit
  pub room : ℕ

abbrev pub no_journal : JournalState
no_journal = record { commits = []; next = []; room = 0 }

abbrev pub entries : JournalState → List Commit
entries j = j.commits ++ j.next

-- the commit that the pass's latest transaction makes now
abbrev pub entry_of : JournalState → ℕ → PassState → Commit
entry_of j p st = commit_of j.commits (name_at p st) (now_of st)

-- of two lists of commits the longer
abbrev pub longer_of : List Commit → List Commit → List Commit
longer_of xs ys = cond (nat_le (length xs) (length ys)) ys xs

-- ---- what was found of others

-- the entry at that place clashes
abbrev pub IsMet : Kind → JournalState → Meeting → Type 0
IsMet kind j m = (c : Commit) × (slice_get (entries j) m.place ≡ Some c)
    × (meets kind m.write c.writes ≡ true)

-- the transaction made a write that clashes, and its commit, if it has one, is later than the start
pub record IsSighted (kind : Kind) (pass : ℕ → PassState) (j : JournalState) (x : Sighting)
    : Type 0 where
  pub made : meets kind x.write (writes_by (pass x.by.job) x.by.number) ≡ true
  pub behind : (i : ℕ) (c : Commit) → slice_get (entries j) i ≡ Some c → c.by ≡ x.by → x.start ≤ i
  pub begun : x.start ≤ length j.commits

-- up to its number the look says whether the writer has committed, and a stamp is that of its entry
pub record IsLook (j : JournalState) (l : Look) : Type 0 where
  pub known : l.until ≤ length j.commits
  pub says : (s : ℕ) → s ≤ l.until
      → reached (stamp_in j.commits l.by) s ≡ reached (stamp_of_word l.word) s
  pub entry : 2 < l.word → (c : Commit) × (slice_get (entries j) (l.word - 3) ≡ Some c)
      × (c.by ≡ l.by)

-- ---- records without a stamp

-- the writer of such a record is the transaction of which its pass's word speaks; where that has
-- ended, the row is one that is still to be stamped
abbrev pub IsSpokenFor : (ℕ → PassState) → Key → Stamped → Type 0
IsSpokenFor pass k x = x.stamp ≡ None → (x.by ≡ name_of pass x.by.job)
    × (may_stand (pass x.by.job) k ≡ true)

pub record AreSpokenFor (pass : ℕ → PassState) (k : Key) (r : StampedVersions) : Type 0 where
  pub pairs : AllByRecursion (IsSpokenFor pass k) r.pairs
  pub touches : AllByRecursion (IsSpokenFor pass k) r.touches

-- ---- counts

abbrev pub sum_below : (ℕ → ℕ) → ℕ → ℕ
sum_below f zero = 0
sum_below f (suc n) = sum_below f n + f n

abbrev pub room_needed : PassState → ℕ
room_needed st = cond (needs_room st.stage) 1 0

-- the most rows that a pass has inserted
abbrev pub inserted_by_pass : Kind → PassState → ℕ
inserted_by_pass kind st = inserted kind (flat_map (λ ws. ws) (made_of st))

-- and all passes together
abbrev pub inserted_by_all : Config → (ℕ → PassState) → ℕ
inserted_by_all z pass = sum_below (λ p. inserted_by_pass z.kind (pass p)) z.passes

pub record AreCounted (z : Config) (pass : ℕ → PassState) (j : JournalState) : Type 0 where
  -- the journal has room for each entry that may still come
  pub room : sum_below (λ p. room_needed (pass p)) z.passes ≤ j.room
  -- there are no more commits than transactions that have ended
  pub clock : length j.commits ≤ sum_below (λ p. length (pass p).past) z.passes
  pub begun : (p : ℕ) → number_of (pass p) ≤ z.txns_per_pass
  -- a number that is no pass's has begun nothing
  pub outside : (p : ℕ) → z.passes ≤ p → ((pass p).stage ≡ Idle) × ((pass p).past ≡ [])
  -- where a write was answered `Full`, the rows that were inserted may fill the leaves
  pub filled : (p : ℕ) → (pass p).filled ≡ true → SPLIT_ROWS * z.leaves ≤ inserted_by_all z pass

-- ---- the rule

-- a pass with this number, this word and this state
pub record IsPass (kind : Kind) (pass : ℕ → PassState) (j : JournalState) (word p : ℕ)
    (st : PassState) : Type 0 where
  pub marked : IsMarked st.stage word (length j.commits)
  -- what was seen is published, and the snapshot is part of it
  pub seen : IsPrefix st.seen j.commits
  pub started : st.start ≤ length st.seen
  pub laid : IsLaid st.stage st.laid st.own
  -- a stamp that is stored and not published is of the journal's next entry
  pub next : st.stage ≡ Committing → j.next ≡ entry_of j p st ∷ []
  pub met : AllByRecursion (IsMet kind j) st.met
  pub holders : AllByRecursion (IsSighted kind pass j) st.holders
  pub sighted : AllByRecursion (IsSighted kind pass j) st.sighted
  pub looks : AllByRecursion (IsLook j) st.looks

pub record IsShared (z : Config) (word : ℕ → ℕ) (pass : ℕ → PassState) (j : JournalState)
    (rows : Key → StampedVersions) (clock : ℕ) : Type 0 where
  -- what was pruned is of commits up to here
  pub horizon : ℕ
  pub published : clock ≡ length j.commits
  -- rows, journal, and the transactions that may still commit
  pub store : IsStore z.kind j.commits (running_of pass) (laid_of pass) (touching_by pass) horizon
      (λ k. forget_row (rows k))
  -- a record's stamp is that of its writer's commit; without one its writer's word speaks for it
  pub stamps : (k : Key) → IsStamped (stamp_in j.commits) (rows k)
  pub spoken : (k : Key) → AreSpokenFor pass k (rows k)
  -- of latest transactions entries and words say the same
  pub stamped : (i : ℕ) (c : Commit) → slice_get (entries j) i ≡ Some c
      → c.by ≡ name_of pass c.by.job
      → word c.by.job ≡ commit_word i
  pub entered : (p n : ℕ) → word p ≡ commit_word n
      → (c : Commit) × (slice_get (entries j) n ≡ Some c) × (c.by ≡ name_of pass p)
  -- an entry has the writes that its pass made
  pub made : (i : ℕ) (c : Commit) → slice_get (entries j) i ≡ Some c
      → (0 < length c.writes) × (writes_by (pass c.by.job) c.by.number ≡ c.writes)
  -- of each transaction its pass keeps the stamp that the journal has, and none where it has none
  pub kept : (by : TxnName) → stamp_by pass by ≡ stamp_in j.commits by
  pub each : (p : ℕ) → IsPass z.kind pass j (word p) p (pass p)
  pub counted : AreCounted z pass j
