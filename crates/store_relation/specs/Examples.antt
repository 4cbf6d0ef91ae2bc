-- Worked examples: two passes on one store, step by step; and rules that would be wrong, each by
-- the state to which it leads and which the rule doesn't allow.
use Rattle.std.specs.Prelude.{◌≡◌, ℕ, ◌+◌, [], ◌∷◌, length, Some, None}
use Rattle.graph_model.specs.declared.write.Kind.TheVariants.{Directed}
use Rattle.graph_model.specs.declared.write.Write.{Write}
use Rattle.graph_model.specs.declared.write.Write.TheVariants.{AddVertex, AddEdge}
use Rattle.graph_model.specs.declared.row.Key.{Key}
use Rattle.graph_model.specs.declared.journal.TxnName.{TxnName}
use Rattle.graph_model.specs.Passes.{revised}
use Rattle.graph_model.specs.Rows.{vertex_key, arc_key}
use Rattle.graph_model.specs.Transactions.{stamp_in}
use Rattle.txn_manager.specs.declared.config.Config.{Config}
use Rattle.store_model.specs.Stamped.{StampedVersions, AreTold, prune_stamped, read_stamped, stamp}
use Rattle.version_segment.specs.Rows.{nothing}
use Rattle.store_relation.specs.Keys.{changed_keys}
use Rattle.store_relation.specs.Passes.{PassState, fresh_pass, name_of, stamp_by, account_of}
use Rattle.store_relation.specs.Readers.{AreReaders, reader_of}
use Rattle.store_relation.specs.Rows.{row_after}
use Rattle.store_relation.specs.Shared.{JournalState, no_journal, entries, IsShared}
use Rattle.store_relation.specs.Steps.{begun, written_by, committing, with_entry, committed, published_now, with_unstamped, refreshed, with_reader}
use Rattle.store_relation.specs.Words.{open_word, commit_word, stamp_of_word}

-- three passes on one leaf: 0 is not used here, 1 writes and 2 reads
abbrev pub config : Config
config = record { kind = Directed; leaves = 1; passes = 3; txns_per_pass = 2 }

pub record SharedState : Type 0 where
  pub word : ℕ → ℕ
  pub pass : ℕ → PassState
  pub journal : JournalState
  pub rows : Key → StampedVersions
  pub clock : ℕ

-- the state is one that the rule allows
abbrev pub IsAllowed : SharedState → Type 0
IsAllowed s = IsShared config s.word s.pass s.journal s.rows s.clock

-- ---- the steps, as they make a state of a state

abbrev pub fresh : SharedState
fresh = record {
  word = λ p. 0;
  pass = λ p. fresh_pass;
  journal = record no_journal { room = 3 };
  rows = λ k. nothing;
  clock = 0;
}

abbrev pub beginning : ℕ → SharedState → SharedState
beginning p s = record s {
  word = revised s.word p open_word;
  pass = revised s.pass p (begun (s.pass p) s.journal);
}

abbrev pub writing : ℕ → Write → SharedState → SharedState
writing p w s = record s {
  pass = revised s.pass p (written_by (s.pass p) w);
  rows = λ k. row_after Directed (name_of s.pass p) w k (s.rows k);
}

abbrev pub storing : ℕ → SharedState → SharedState
storing p s = record s {
  word = revised s.word p (commit_word (length s.journal.commits));
  pass = revised s.pass p (committing (s.pass p));
  journal = with_entry s.journal p (s.pass p);
}

abbrev pub publishing : ℕ → SharedState → SharedState
publishing p s = record s {
  pass = revised s.pass p (committed (s.pass p) s.journal (changed_keys Directed (s.pass p).own));
  journal = published_now s.journal;
  clock = s.clock + 1;
}

abbrev pub stamping : ℕ → ℕ → SharedState → SharedState
stamping p c s = record s {
  pass = revised s.pass p (with_unstamped (s.pass p) []);
  rows = λ k. stamp (name_of s.pass p) c (s.rows k);
}

abbrev pub pruning : ℕ → SharedState → SharedState
pruning at s = record s { rows = λ k. prune_stamped (stamp_in s.journal.commits) at (s.rows k) }

abbrev pub lending : ℕ → SharedState → SharedState
lending p s =
    record s { pass = revised s.pass p (with_reader (s.pass p)) }

abbrev pub writer : TxnName
writer = record { job = 1; number = 1 }

-- ---- right steps: the writer makes two vertices and an edge, and commits them

abbrev pub all_writes : SharedState → SharedState
all_writes s = writing 1 (AddEdge 1 2 5) (writing 1 (AddVertex 2) (writing 1 (AddVertex 1) s))

-- while the reader is open, which began before
abbrev pub watched : SharedState
watched = all_writes (beginning 1 (beginning 2 fresh))

-- and while nobody else is
abbrev pub alone : SharedState
alone = all_writes (beginning 1 fresh)

-- the commit in its three steps
abbrev pub stored : SharedState → SharedState
stored s = storing 1 s

abbrev pub published : SharedState → SharedState
published s = publishing 1 (stored s)

abbrev pub settled : SharedState → SharedState
settled s = stamping 1 1 (published s)

pub record RightSteps : Type 0 where
  pub new : IsAllowed fresh
  pub written : IsAllowed watched
  pub stored : IsAllowed (stored watched)
  pub published : IsAllowed (published watched)
  pub stamped : IsAllowed (settled watched)
  -- where nobody else is open the rows may be pruned at the clock
  pub pruned : IsAllowed (pruning 1 (settled alone))
  -- the writer has split off a reader
  pub lent : IsAllowed (lending 1 (beginning 1 fresh))
  pub readers : AreReaders (lending 1 (beginning 1 fresh)).pass []
      (reader_of (beginning 1 fresh).pass 1 ∷ [])

-- the numbers, rows and lists that come of it
pub record StepResults : Type 0 where
  pub open_word : watched.word 1 ≡ 1
  pub stored_word : (stored watched).word 1 ≡ 3
  pub stored_clock : (stored watched).clock ≡ 0
  pub clock : (published watched).clock ≡ 1
  -- the row of each vertex is written once, and touched once by the edge
  pub unstamped : ((published watched).pass 1).unstamped
      ≡ vertex_key 1 ∷ vertex_key 2 ∷ arc_key 1 2 ∷ vertex_key 1 ∷ vertex_key 2 ∷ []
  pub bare : (published watched).rows (arc_key 1 2)
      ≡ record {
        pairs = record { by = writer; stamp = None; value = Some 5 } ∷ [];
        oldest = None;
        touches = [];
      }
  pub stamped : (settled watched).rows (arc_key 1 2)
      ≡ record {
        pairs = record { by = writer; stamp = Some 1; value = Some 5 } ∷ [];
        oldest = None;
        touches = [];
      }
  pub touched : ((settled watched).rows (vertex_key 2)).touches
      ≡ record { by = writer; stamp = Some 1; value = None } ∷ []
  pub made : (account_of config 1 ((settled watched).pass 1)).made
      ≡ (AddVertex 1 ∷ AddVertex 2 ∷ AddEdge 1 2 5 ∷ []) ∷ []
  pub answered : (account_of config 1 ((settled watched).pass 1)).stamps ≡ 1 ∷ []
  pub kept : stamp_by (settled watched).pass writer ≡ Some 1

-- ---- wrong ones, each from a state that is allowed

-- the clock is stored while the word still says 'open'
abbrev pub published_without_stamp : SharedState
published_without_stamp = record (published watched) { word = watched.word }

-- the reader counts the stamp that it finds as seen, and the clock has not come there
abbrev pub seen_before_clock : SharedState
seen_before_clock =
    record (stored watched) {
      pass = revised (stored watched).pass 2
          (refreshed ((stored watched).pass 2) (entries (stored watched).journal));
    }

-- rows are pruned at the clock, and the reader began before
abbrev pub pruned_at_clock : SharedState
pruned_at_clock = pruning 1 (settled watched)

-- the reader loaded the clock long ago and told nobody; now the rows are pruned, and it begins
-- there
abbrev pub begun_unannounced : SharedState
begun_unannounced =
    record (pruning 1 (settled alone)) {
      word = revised (settled alone).word 2 open_word;
      pass = revised (settled alone).pass 2 (begun fresh_pass fresh.journal);
    }

-- the rows lose the touches of the commit
abbrev pub touches_forgotten : SharedState
touches_forgotten =
    record (published watched) { rows = λ k. record ((published watched).rows k) { touches = [] } }

-- the writer begins anew while records of its commit have no stamp
abbrev pub word_reused : SharedState
word_reused = beginning 1 (published watched)

pub record WrongSteps : Type 0 where
  pub publishes_before_the_stamp : IsAllowed published_without_stamp → ⊥
  pub counts_a_stamp_below_the_clock : IsAllowed seen_before_clock → ⊥
  pub prunes_at_the_clock : IsAllowed pruned_at_clock → ⊥
  pub begins_unannounced : IsAllowed begun_unannounced → ⊥
  pub forgets_touches : IsAllowed touches_forgotten → ⊥
  pub reuses_the_word : IsAllowed word_reused → ⊥
  -- a pass writes while a reader is out
  pub writes_under_a_reader : AreReaders
      (writing 1 (AddVertex 1) (lending 1 (beginning 1 fresh))).pass []
      (reader_of (beginning 1 fresh).pass 1 ∷ []) → ⊥
  -- whoever has a stamp is taken as seen, whatever the stamp: this tells the reader wrong of the
  -- row
  pub takes_any_stamp_as_seen : AreTold (λ by. Some 0) (stamp_in []) 0
      ((stored watched).rows (vertex_key 1)) → ⊥

-- and what the reader would read of the vertex then
pub record WrongReads : Type 0 where
  pub right : read_stamped (λ by. stamp_of_word (commit_word 0)) 0 (name_of watched.pass 2)
      ((stored watched).rows (vertex_key 1)) ≡ None
  pub any_stamp : read_stamped (λ by. Some 0) 0 (name_of watched.pass 2)
      ((stored watched).rows (vertex_key 1)) ≡ Some 0
  pub pruned : read_stamped (λ by. None) 0 (name_of watched.pass 2)
      (pruned_at_clock.rows (vertex_key 1)) ≡ Some 0
