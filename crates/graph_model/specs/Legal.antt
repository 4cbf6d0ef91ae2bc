-- Which journals snapshot isolation allows: clashing writers never overlap (Berenson et al. 1995).
use Rattle.std.specs.Prelude.{◌≡◌, ℕ, ◌+◌, ◌<◌, ◌≤◌, Bool, List, length, slice_get, Some, IsTrue}
use Rattle.std.specs.List.{AllByRecursion, list_any}
use Rattle.graph_model.specs.declared.write.Kind.{Kind}
use Rattle.graph_model.specs.declared.write.Write.{Write}
use Rattle.graph_model.specs.declared.journal.Commit.{Commit}
use Rattle.graph_model.specs.Items.{clash}
use Rattle.graph_model.specs.Graph.{HasBothEnds}
use Rattle.graph_model.specs.Refused.{AllAllowed, IsWithinLimits}
use Rattle.graph_model.specs.History.{graph_at}

-- a write of the one clashes with a write of the other
abbrev pub have_clash : Kind → List Write → List Write → Bool
have_clash kind xs ys = list_any (λ x. list_any (clash kind x) ys) xs

-- a commit by itself: its place, that it wrote something, and that its own snapshot refused none of it
pub record IsLegalCommit (kind : Kind) (journal : List Commit) (place : ℕ) (c : Commit) : Type 0 where
  pub stamped : c.stamp ≡ place + 1
  pub started : c.start ≤ place
  pub wrote : 0 < length c.writes
  pub allowed : AllAllowed kind (graph_at kind journal c.start) c.writes
  pub within : AllByRecursion IsWithinLimits c.writes

-- what snapshot isolation allows: each commit by itself, and how they stand to each other
pub record IsLegal (kind : Kind) (journal : List Commit) : Type 0 where
  pub each : (i : ℕ) (c : Commit) → slice_get journal i ≡ Some c → IsLegalCommit kind journal i c
  -- no transaction commits twice
  pub names : (i j : ℕ) (c d : Commit) → slice_get journal i ≡ Some c → slice_get journal j ≡ Some d
      → c.by ≡ d.by → i ≡ j
  -- of two that clash, the later one began when the earlier had committed
  pub apart : (i j : ℕ) (c d : Commit) → i < j → slice_get journal i ≡ Some c → slice_get journal j ≡ Some d
      → IsTrue (have_clash kind c.writes d.writes) → c.stamp ≤ d.start
  -- at each stamp both ends of each arc are vertices
  pub ends : (stamp : ℕ) → stamp ≤ length journal → HasBothEnds (graph_at kind journal stamp)
