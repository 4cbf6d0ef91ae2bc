-- Worked examples of the exact calls of one owner.
use Rattle.std.specs.Prelude.{◌≡◌, ℕ, true, false, List, [], ◌∷◌, replicate, Ok, Err, Some, None}
use Rattle.graph_model.specs.declared.write.Kind.TheVariants.{Undirected}
use Rattle.graph_model.specs.declared.write.Write.{Write}
use Rattle.graph_model.specs.declared.write.Write.TheVariants.{AddVertex, DropVertex, AddEdge, SetEdge, DropEdge}
use Rattle.graph_model.specs.declared.refusal.Cause.TheVariants.{Later, Holder}
use Rattle.graph_model.specs.declared.refusal.Refusal.{Refusal}
use Rattle.graph_model.specs.declared.refusal.Refusal.TheVariants as refusals
use Rattle.graph_model.specs.Account.{Sighting}
use Rattle.graph_model.specs.OwnerCalls.{PassState, Core, current, with_current, written_pass, WritesHere, one_more, ServesHere}
use Rattle.graph_model.specs.Examples.{load}
use Rattle.graph_model.specs.JournalExamples.{name, journal, account}

-- a pass whose one transaction has made these writes and has ended
abbrev pub closed_pass : List Write → PassState
closed_pass ws = record {
  made = ws ∷ [];
  sighted = [];
  start = None;
  own = [];
  filled = false;
  begun = 1;
  allowed = 5;
}

-- what one transaction has written so far, and not committed
abbrev pub open_writes : List Write
open_writes = SetEdge 2 3 8 ∷ AddVertex 6 ∷ []

-- the passes behind the load: one has set an edge and committed, one has begun before that and added an edge, one has
-- begun behind it and made the open writes
abbrev pub later_passes : List PassState
later_passes =
    closed_pass (SetEdge 1 2 9 ∷ [])
    ∷ record (closed_pass []) { made = account.made; start = Some 1; own = account.own; begun = 2 }
    ∷ record (closed_pass open_writes) { start = Some 2; own = open_writes } ∷ []

-- an owner of these passes and of the load's, with the third one selected
abbrev pub core : Core
core = record {
  kind = Undirected;
  leaves = 4;
  journal = journal;
  passes = closed_pass load ∷ later_passes;
  selected = 2;
  served = 7;
}

-- the owner when the selected pass has noted these
abbrev pub with_sighted : List Sighting → Core
with_sighted sighted = with_current core (record (current core) { sighted = sighted })

-- the selected pass has made the write
abbrev pub Makes : Write → Type 0
Makes w = WritesHere core w (Ok tt) (with_current core (written_pass core w))

-- who is met by a write, and what becomes of it
pub record OwnerWriteExamples : Type 0 where
  pub free : Makes (AddVertex 5)
  pub free_edge : Makes (SetEdge 1 4 5)
  -- the edge from 1 to 2 was set by a later commit, the one from 2 to 3 by a transaction that is open
  pub not_through_a_commit : Makes (SetEdge 1 2 5) → ⊥
  pub not_through_an_open_write : Makes (SetEdge 2 3 5) → ⊥
  pub commit_named : WritesHere core (SetEdge 1 2 5) (Err (refusals.Conflict (Later 2))) core
  pub holder_named : WritesHere core (SetEdge 2 3 5) (Err (refusals.Conflict (Holder (name 3 1))))
      (with_sighted (record { by = name 3 1; write = SetEdge 2 3 5; start = 1 } ∷ []))
  pub not_named_for_another_edge : WritesHere core (SetEdge 1 2 5) (Err (refusals.Conflict (Holder (name 3 1))))
      (with_sighted (record { by = name 3 1; write = SetEdge 1 2 5; start = 1 } ∷ [])) → ⊥

-- the write of the selected pass is refused for what it sees
abbrev pub Refuses : Write → Refusal → Type 0
Refuses w refusal = WritesHere core w (Err refusal) core

-- each refusal where it is right, and where it isn't
pub record OwnerRefusalExamples : Type 0 where
  pub loop : Refuses (SetEdge 2 2 5) refusals.SelfLoop
  pub no_loop : Refuses (SetEdge 1 4 5) refusals.SelfLoop → ⊥
  pub no_vertex : Refuses (AddEdge 1 9 5) (refusals.NoVertex 9)
  pub another_vertex : Refuses (AddEdge 1 9 5) (refusals.NoVertex 1) → ⊥
  pub both_vertices : Refuses (SetEdge 1 4 5) (refusals.NoVertex 9) → ⊥
  pub vertex_exists : Refuses (AddVertex 4) refusals.VertexExists
  pub no_such_vertex : Refuses (AddVertex 5) refusals.VertexExists → ⊥
  pub edge_exists : Refuses (AddEdge 4 1 5) refusals.EdgeExists
  pub no_such_edge : Refuses (AddEdge 1 3 5) refusals.EdgeExists → ⊥
  pub no_edge : Refuses (DropEdge 1 3) refusals.NoEdge
  pub an_edge : Refuses (SetEdge 1 4 5) refusals.NoEdge → ⊥
  pub has_edges : Refuses (DropVertex 1) refusals.HasEdges
  pub has_none_to_look_at : Refuses (SetEdge 1 4 5) refusals.HasEdges → ⊥

-- one leaf, and so many rows that the load may have inserted; the later passes' edge and vertex are three rows more
abbrev pub with_rows : ℕ → Core
with_rows count = record core { leaves = 1; passes = closed_pass (replicate count (AddVertex 1)) ∷ later_passes }

-- the selected pass finds no place for a write
abbrev pub FindsNoPlace : Core → Write → Type 0
FindsNoPlace old w =
    WritesHere old w (Err (refusals.Full old.leaves)) (with_current old (record (current old) { filled = true }))

-- a store may be full from 103 inserted rows a leaf on: here it has one leaf with 103 and with 102, and four with 11
pub record FullExamples : Type 0 where
  pub filled : FindsNoPlace (with_rows 100) (AddVertex 5)
  pub not_one_row_before : FindsNoPlace (with_rows 99) (AddVertex 5) → ⊥
  pub not_in_four_leaves : FindsNoPlace core (AddVertex 5) → ⊥
  pub not_for_a_weight : FindsNoPlace (with_rows 100) (SetEdge 1 4 5) → ⊥
  pub not_before_a_conflict : FindsNoPlace (with_rows 100) (AddVertex 6) → ⊥

-- a turn of the service is counted
pub record ServiceExamples : Type 0 where
  pub counted : ServesHere core (record core { served = 8 })
  pub not_uncounted : ServesHere core core → ⊥
  pub first : one_more 0 ≡ 1
  pub last : one_more 18446744073709551614 ≡ 18446744073709551615
  pub not_above : one_more 18446744073709551615 ≡ 18446744073709551615
