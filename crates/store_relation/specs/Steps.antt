-- What the steps of a transaction make of its pass and of the journal.
use Rattle.std.specs.Prelude.{ℕ, ◌+◌, ◌-◌, ◌++◌, true, List, [], ◌∷◌, length, Option, Some}
use Rattle.graph_model.specs.declared.write.Write.{Write}
use Rattle.graph_model.specs.declared.row.Key.{Key}
use Rattle.graph_model.specs.declared.journal.TxnName.{TxnName}
use Rattle.graph_model.specs.declared.journal.Commit.{Commit}
use Rattle.graph_model.specs.Account.{Sighting}
use Rattle.store_relation.specs.declared.stage.Stage.TheVariants.{Idle, Open, Aborting, Committing}
use Rattle.store_relation.specs.Passes.{Meeting, PassState}
use Rattle.store_relation.specs.Shared.{JournalState, entries, entry_of}
use Rattle.store_relation.specs.Words.{Look}

-- ---- begin

-- the next transaction is open; its snapshot is all that is published
abbrev pub begun : PassState → JournalState → PassState
begun st j = record st { stage = Open; start = length j.commits; seen = j.commits }

-- ---- writes

-- one write more is made, and stands in rows
abbrev pub written_by : PassState → Write → PassState
written_by st w = record st { own = st.own ++ w ∷ []; laid = st.laid ++ w ∷ [] }

-- some write was answered `Full`
abbrev pub filled_up : PassState → PassState
filled_up st = record st { filled = true }

-- ---- the end

-- the latest transaction has ended, with this stamp or with none
abbrev pub ended : PassState → Option ℕ → PassState
ended st stamp = record st {
  stage = Idle;
  past = st.past ++ record { writes = st.own; stamp = stamp } ∷ [];
  own = [];
  laid = [];
}

-- it gives up: it can't commit any more, and its writes still stand
abbrev pub stopped : PassState → PassState
stopped st = record st { stage = Aborting }

-- only these writes still stand
abbrev pub taken_back : PassState → List Write → PassState
taken_back st front = record st { laid = front }

-- its stamp is stored, and its entry is the journal's next
abbrev pub committing : PassState → PassState
committing st = record st { stage = Committing }

abbrev pub with_entry : JournalState → ℕ → PassState → JournalState
with_entry j p st = record j { next = entry_of j p st ∷ []; room = j.room - 1 }

-- its commit is published, and records in these rows still have no stamp
abbrev pub committed : PassState → JournalState → List Key → PassState
committed st j unstamped =
    record (ended st (Some (length j.commits + 1))) { seen = entries j; unstamped = unstamped }

abbrev pub published_now : JournalState → JournalState
published_now j = record j { commits = entries j; next = [] }

-- the records in these rows alone still have no stamp
abbrev pub with_unstamped : PassState → List Key → PassState
with_unstamped st keys = record st { unstamped = keys }

-- ---- what is known

-- the journal was seen so far
abbrev pub refreshed : PassState → List Commit → PassState
refreshed st seen = record st { seen = seen }

abbrev pub meeting : Write → ℕ → Meeting
meeting w place = record { write = w; place = place }

abbrev pub sighting : TxnName → Write → ℕ → Sighting
sighting by w start = record { by = by; write = w; start = start }

-- a commit that clashes was found
abbrev pub with_meeting : PassState → Meeting → PassState
with_meeting st m = record st { met = m ∷ st.met }

-- an open transaction that clashes was found
abbrev pub with_holder : PassState → Sighting → PassState
with_holder st x = record st { holders = x ∷ st.holders }

-- it was answered as the cause of a conflict
abbrev pub with_sighting : PassState → Sighting → PassState
with_sighting st x = record st { sighted = st.sighted ++ x ∷ [] }

-- a writer's word was found, and serves as far as the journal was seen
abbrev pub look_at : PassState → TxnName → ℕ → Look
look_at st by n = record { by = by; word = n; until = length st.seen }

abbrev pub with_look : PassState → Look → PassState
with_look st l = record st { looks = l ∷ st.looks }

-- these are all notes that the pass keeps
abbrev pub with_notes : PassState → List Meeting → List Sighting → List Sighting → List Look
    → PassState
with_notes st met holders sighted looks =
    record st { met = met; holders = holders; sighted = sighted; looks = looks }

-- ---- readers

-- so many readers are out
abbrev pub with_readers : PassState → ℕ → PassState
with_readers st n = record st { readers_out = n }

-- one more is split off, and one is joined
abbrev pub with_reader : PassState → PassState
with_reader st = with_readers st (st.readers_out + 1)

abbrev pub without_reader : PassState → PassState
without_reader st = with_readers st (st.readers_out - 1)
