-- Laws of journals and of what transactions see of them. Each is the contract of a function in `laws`.
use Rattle.std.specs.Prelude.{◌≡◌, ◌↔◌, ℕ, ◌<◌, ◌≤◌, false, List, [], ◌∷◌, ◌++◌, length, slice_get, Some, IsTrue}
use Rattle.std.specs.List.{AllByRecursion}
use Rattle.graph_model.specs.declared.write.Kind.{Kind}
use Rattle.graph_model.specs.declared.write.Kind.TheVariants.{Undirected}
use Rattle.graph_model.specs.declared.write.Write.{Write}
use Rattle.graph_model.specs.declared.journal.Commit.{Commit}
use Rattle.graph_model.specs.Graph.{HasBothEnds, HasNoLoops, IsBounded, IsSymmetric}
use Rattle.graph_model.specs.Refused.{AllAllowed, IsWithinLimits}
use Rattle.graph_model.specs.History.{graph_at, view}
use Rattle.graph_model.specs.Legal.{have_clash, IsLegalCommit, IsLegal}

-- ---- journals

-- a prefix of a legal journal is legal
abbrev pub PrefixIsLegal : Type 0
PrefixIsLegal = (kind : Kind) (front rest : List Commit) → IsLegal kind (front ++ rest) → IsLegal kind front

-- each graph of a legal journal has both ends of each arc as vertices
abbrev pub LegalHasBothEnds : Type 0
LegalHasBothEnds = (kind : Kind) (journal : List Commit) (stamp : ℕ) → IsLegal kind journal
    → stamp ≤ length journal → HasBothEnds (graph_at kind journal stamp)

-- what is appended doesn't change the graph of the commits before it
abbrev pub PrefixHasItsGraphs : Type 0
PrefixHasItsGraphs = (kind : Kind) (front rest : List Commit) (stamp : ℕ) → stamp ≤ length front
    → graph_at kind (front ++ rest) stamp ≡ graph_at kind front stamp

-- a commit may follow the journal: it is legal by itself, no commit has its name, and none that it
-- clashes with is later than its start
pub record IsNext (kind : Kind) (journal : List Commit) (c : Commit) : Type 0 where
  pub commit : IsLegalCommit kind journal (length journal) c
  pub unnamed : (i : ℕ) (d : Commit) → slice_get journal i ≡ Some d → d.by ≡ c.by → ⊥
  pub apart : (i : ℕ) (d : Commit) → slice_get journal i ≡ Some d
      → IsTrue (have_clash kind d.writes c.writes) → d.stamp ≤ c.start

-- the empty journal is legal
abbrev pub NoCommitIsLegal : Type 0
NoCommitIsLegal = (kind : Kind) → IsLegal kind []

-- a journal with one commit more is legal exactly where it was legal and the commit may follow it
abbrev pub OneCommitMore : Type 0
OneCommitMore = (kind : Kind) (journal : List Commit) (c : Commit) → IsLegal kind (journal ++ c ∷ [])
    ↔ (IsLegal kind journal × IsNext kind journal c)

-- ---- one commit behind the other

-- each commit is allowed on the graph of all commits before it, too
abbrev pub CommitsAreSerial : Type 0
CommitsAreSerial = (kind : Kind) (journal : List Commit) → IsLegal kind journal → (i : ℕ) (c : Commit)
    → slice_get journal i ≡ Some c → AllAllowed kind (graph_at kind journal i) c.writes

-- so the last part of a legal journal follows from its commits and from how they stand apart
abbrev pub EndsFollow : Type 0
EndsFollow = (kind : Kind) (journal : List Commit)
    → ((i : ℕ) (c : Commit) → slice_get journal i ≡ Some c → IsLegalCommit kind journal i c)
    → ((i j : ℕ) (c d : Commit) → i < j → slice_get journal i ≡ Some c → slice_get journal j ≡ Some d
    → IsTrue (have_clash kind c.writes d.writes) → c.stamp ≤ d.start)
    → (stamp : ℕ) → stamp ≤ length journal → HasBothEnds (graph_at kind journal stamp)

-- writes that a start allows, and that clash with no later commit, are allowed at each later stamp
abbrev pub StartIsEnough : Type 0
StartIsEnough = (kind : Kind) (journal : List Commit) (start stamp : ℕ) (ws : List Write)
    → IsLegal kind journal → start ≤ stamp → stamp ≤ length journal
    → ((i : ℕ) (c : Commit) → slice_get journal i ≡ Some c → start < c.stamp
    → have_clash kind c.writes ws ≡ false)
    → AllAllowed kind (graph_at kind journal start) ws → AllAllowed kind (graph_at kind journal stamp) ws

-- ---- what a transaction sees

-- where edges have no direction, what a transaction sees is symmetric
abbrev pub ViewIsSymmetric : Type 0
ViewIsSymmetric = (journal : List Commit) (start : ℕ) (own : List Write)
    → IsSymmetric (view Undirected journal start own)

-- its ids and weights are within their limits
abbrev pub ViewIsBounded : Type 0
ViewIsBounded = (kind : Kind) (journal : List Commit) (start : ℕ) (own : List Write) → IsLegal kind journal
    → start ≤ length journal → AllByRecursion IsWithinLimits own → IsBounded (view kind journal start own)

-- it has no loops
abbrev pub ViewHasNoLoops : Type 0
ViewHasNoLoops = (kind : Kind) (journal : List Commit) (start : ℕ) (own : List Write) → IsLegal kind journal
    → start ≤ length journal → AllAllowed kind (graph_at kind journal start) own
    → HasNoLoops (view kind journal start own)

-- both ends of each of its arcs are vertices
abbrev pub ViewHasBothEnds : Type 0
ViewHasBothEnds = (kind : Kind) (journal : List Commit) (start : ℕ) (own : List Write)
    → IsLegal kind journal → start ≤ length journal → AllAllowed kind (graph_at kind journal start) own
    → HasBothEnds (view kind journal start own)
