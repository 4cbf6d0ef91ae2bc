-- What writes do to a row: the pairs that they lay on one another, and how they are taken back.
use Rattle.std.specs.Prelude.{Bool, ◌&&◌, cond, List, [], ◌∷◌}
use Rattle.std.specs.List.{list_any}
use Rattle.graph_model.specs.declared.write.Kind.{Kind}
use Rattle.graph_model.specs.declared.write.Write.{Write}
use Rattle.graph_model.specs.declared.write.Write.TheVariants.{AddVertex, DropVertex, AddEdge, SetEdge, DropEdge}
use Rattle.graph_model.specs.declared.row.Key.{Key}
use Rattle.graph_model.specs.declared.journal.Commit.{Commit}
use Rattle.graph_model.specs.declared.journal.TxnName.{TxnName}
use Rattle.graph_model.specs.Conflict.{same_name}
use Rattle.graph_model.specs.Rows.{vertex_key, arc_key}
use Rattle.graph_model.specs.Effects.{value_left, writes_at, touches_at, any_touches}
use Rattle.store_model.specs.declared.version.Version.{Version}
use Rattle.store_model.specs.declared.versions.Versions.{Versions}
use Rattle.store_model.specs.Versions.{write, undo, touch, untouch}

-- the row at which a write looks for other writers: whoever has written none of this row has written
-- none of the write's rows
abbrev pub row_key : Write → Key
row_key (AddVertex v) = vertex_key v
row_key (DropVertex v) = vertex_key v
row_key (AddEdge u v weight) = arc_key u v
row_key (SetEdge u v weight) = arc_key u v
row_key (DropEdge u v) = arc_key u v

-- a key's versions after a write: a pair more where it writes, the name among the touches where it touches
abbrev pub after_write : Kind → TxnName → Write → Key → Versions → Versions
after_write kind by w k vs =
    let written : Versions = cond (writes_at kind w k) (write by (value_left w) vs) vs in
    cond (touches_at w k) (touch by written) written

-- and after a list of its writes, one behind the other
abbrev pub laid : Kind → TxnName → List Write → Key → Versions → Versions
laid kind by [] k vs = vs
laid kind by (w ∷ ws) k vs = laid kind by ws k (after_write kind by w k vs)

-- a key's versions before the newest write of a transaction
abbrev pub before_write : Kind → TxnName → Write → Key → Versions → Versions
before_write kind by w k vs =
    let undone : Versions = cond (writes_at kind w k) (undo vs) vs in
    cond (touches_at w k) (untouch by undone) undone

-- and before a list of its writes, the newest of which is taken back first
abbrev pub undone : Kind → TxnName → List Write → Key → Versions → Versions
undone kind by [] k vs = vs
undone kind by (w ∷ ws) k vs = before_write kind by w k (undone kind by ws k vs)

-- the pairs that a transaction's writes lay on those below
abbrev pub layered : Kind → Key → TxnName → List Write → List Version → List Version
layered kind k by [] below = below
layered kind k by (w ∷ ws) below =
    layered kind k by ws (cond (writes_at kind w k) (record { by = by; value = value_left w } ∷ below) below)

-- the pairs that the writes of commits lay on those below
abbrev pub layered_all : Kind → Key → List Commit → List Version → List Version
layered_all kind k [] below = below
layered_all kind k (c ∷ cs) below = layered_all kind k cs (layered kind k c.by c.writes below)

-- a commit by this name touches the row
abbrev pub touched_in : List Commit → TxnName → Key → Bool
touched_in cs by k = list_any (λ c. same_name c.by by && any_touches c.writes k) cs
