-- Which rows the answer to a line depends on, and which commits wrote them.
use Rattle.std.specs.Prelude.{ℕ, Bool, true, false, ◌||◌, ◌==◌, ◌&&◌, nat_lt, List, map, Option}
use Rattle.std.specs.List.{filter, list_any}
use Rattle.graph_model.specs.declared.write.Kind.{Kind}
use Rattle.graph_model.specs.declared.write.Kind.TheVariants.{Directed, Undirected}
use Rattle.graph_model.specs.declared.write.Write.{Write}
use Rattle.graph_model.specs.declared.write.Write.TheVariants.{AddVertex, DropVertex, AddEdge, SetEdge, DropEdge}
use Rattle.graph_model.specs.declared.row.Key.{Key}
use Rattle.graph_model.specs.declared.journal.Commit.{Commit}
use Rattle.graph_model.specs.Rows.{vertex_key, arc_key}
use Rattle.graph_model.specs.Effects.{same_key, arc_keys, keys_of}
use Rattle.graph_model.specs.Conflict.{greatest}
use Rattle.run_model.specs.declared.command.Command.{Command}
use Rattle.run_model.specs.declared.command.Command.TheVariants as commands
use Rattle.run_model.specs.declared.command.Query.{Query}
use Rattle.run_model.specs.declared.command.Query.TheVariants.{WeightOf, NeighboursOf, Counts}
use Rattle.run_model.specs.AnsweredLines.{AnsweredLine}

-- the row of a vertex, and those of the arcs that lead from it
abbrev pub is_from : ℕ → Key → Bool
is_from v q = q.src == v

-- the rows of an edge and of its two ends
abbrev pub is_at_edge : Kind → ℕ → ℕ → Key → Bool
is_at_edge kind u v q =
    same_key q (vertex_key u) || same_key q (vertex_key v) || list_any (same_key q) (arc_keys kind u v)

-- the rows on which the removal of a vertex depends: an arc that leads to it stands under another source where it has
-- a direction
abbrev pub is_at_removal : Kind → ℕ → Key → Bool
is_at_removal Directed v q = true
is_at_removal Undirected v q = is_from v q

-- the rows on which the answer to a write depends
abbrev pub write_depends : Kind → Write → Key → Bool
write_depends kind (AddVertex v) q = same_key q (vertex_key v)
write_depends kind (DropVertex v) q = is_at_removal kind v q
write_depends kind (AddEdge u v weight) q = is_at_edge kind u v q
write_depends kind (SetEdge u v weight) q = is_at_edge kind u v q
write_depends kind (DropEdge u v) q = is_at_edge kind u v q

-- the rows on which the answer to a read depends
abbrev pub read_depends : Query → Key → Bool
read_depends (WeightOf u v) q = same_key q (arc_key u v)
read_depends (NeighboursOf v) q = is_from v q
read_depends Counts q = true

-- the footprint of a line: the rows on which its answer depends. A kernel looks at all rows
abbrev pub depends : Kind → Command → Key → Bool
depends kind commands.Begin q = false
depends kind commands.Commit q = false
depends kind commands.Abort q = false
depends kind (commands.Write w) q = write_depends kind w q
depends kind (commands.Read query) q = read_depends query q
depends kind (commands.Run kernel file) q = true

-- the footprint of lines: the rows on which one of their answers depends
abbrev pub footprint : Kind → List AnsweredLine → Key → Bool
footprint kind lines q = list_any (λ l. depends kind l.command q) lines

-- one of the writes writes a row of the footprint
abbrev pub writes_in : Kind → (Key → Bool) → List Write → Bool
writes_in kind foot writes = list_any (λ w. list_any foot (keys_of kind w)) writes

-- the stamps above the start whose commits write in the footprint
abbrev pub later_in : Kind → List Commit → ℕ → (Key → Bool) → List ℕ
later_in kind journal start foot =
    map (λ c. c.stamp) (filter (λ c. nat_lt start c.stamp && writes_in kind foot c.writes) journal)

-- the stamp of the newest of these commits, or none
abbrev pub newest_in : Kind → List Commit → ℕ → (Key → Bool) → Option ℕ
newest_in kind journal start foot = greatest (later_in kind journal start foot)
