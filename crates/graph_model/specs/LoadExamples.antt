-- Worked examples of a load.
use Rattle.std.specs.Prelude.{◌≡◌, List, [], ◌∷◌, replicate}
use Rattle.graph_model.specs.declared.write.Kind.TheVariants.{Undirected}
use Rattle.graph_model.specs.declared.write.Write.TheVariants.{AddVertex, AddEdge, SetEdge}
use Rattle.graph_model.specs.declared.journal.Commit.{Commit}
use Rattle.graph_model.specs.declared.load.LoadRefusal.TheVariants as refusals
use Rattle.graph_model.specs.OwnerCalls.{PassState, Core, no_pass}
use Rattle.graph_model.specs.Loading.{IsNew, IsLoad, journal_of, loaded, IsLoadRefusal}
use Rattle.graph_model.specs.Examples.{load}
use Rattle.graph_model.specs.JournalExamples.{name, commit}

-- a pass that has begun nothing, and one that has loaded the graph
abbrev pub fresh_pass : PassState
fresh_pass = record no_pass { allowed = 5 }

abbrev pub loading_pass : PassState
loading_pass = record fresh_pass { begun = 1; made = load ∷ [] }

-- an engine of two passes before its first call, with one leaf
abbrev pub fresh : Core
fresh = record {
  kind = Undirected;
  leaves = 1;
  journal = [];
  passes = fresh_pass ∷ fresh_pass ∷ [];
  selected = 0;
  served = 0;
}

-- the load's commit
abbrev pub load_commit : Commit
load_commit = commit 1 0 (name 0 1) load

-- what a load finds, what it leaves, and when it may be full
pub record LoadExamples : Type 0 where
  pub found : IsNew fresh
  pub not_of_another_pass : IsNew (record fresh { selected = 1 }) → ⊥
  pub not_where_one_has_begun : IsNew (record fresh { passes = fresh_pass ∷ loading_pass ∷ [] }) → ⊥
  pub not_behind_a_commit : IsNew (record fresh { journal = load_commit ∷ [] }) → ⊥
  pub not_without_a_transaction_left : IsNew (record fresh { passes = no_pass ∷ [] }) → ⊥
  pub graph : IsLoad fresh load
  pub not_an_edge_without_ends : IsLoad fresh (AddEdge 1 2 1 ∷ []) → ⊥
  pub not_a_set_weight : IsLoad fresh (AddVertex 1 ∷ SetEdge 1 2 1 ∷ []) → ⊥
  pub not_too_great_an_id : IsLoad fresh (AddVertex 9223372036854775807 ∷ []) → ⊥
  -- it is committed by the first transaction of the first pass, which began before all
  pub committed : journal_of load ≡ load_commit ∷ []
  pub nothing_to_commit : journal_of [] ≡ []
  pub left : loaded fresh load ≡ record fresh {
    journal = load_commit ∷ [];
    passes = loading_pass ∷ fresh_pass ∷ [];
  }
  -- a load of nothing has used its transaction up
  pub nothing_left : loaded fresh [] ≡ record fresh {
    passes = record fresh_pass { begun = 1; made = [] ∷ [] } ∷ fresh_pass ∷ [];
  }
  -- it may be full from 103 rows a leaf on
  pub filled : IsLoadRefusal fresh (replicate 103 (AddVertex 1)) (refusals.Full 1)
  pub not_one_row_before : IsLoadRefusal fresh (replicate 102 (AddVertex 1)) (refusals.Full 1) → ⊥
  pub not_with_other_leaves : IsLoadRefusal fresh (replicate 206 (AddVertex 1)) (refusals.Full 2) → ⊥
