use Rattle.std.proofs.Common.{◌∙◌, sym}
use Rattle.undo_chain.specs.declared.states.Snapshot.{Snapshot}
use Rattle.leaf_rows.proofs.EdgeLemmas.{both_ways, ends_with_keys, in_edge, none_directed, none_undirected, out_edge}
use Rattle.leaf_rows.proofs.rows.LeafRows.has_edges.Goals as goal

pub returns-then-sees_any : goal.returns-then-sees_any
returns-then-sees_any c = λ g shows fits.
    sym (out_edge g c.args.v (sym (rw c.of_vertex.ensures at (c.sees_any.ensures g shows)) ∙ c.if-sees_any.true))

pub returns-in-Directed : goal.returns-in-Directed
returns-in-Directed c = λ g shows fits.
    let snapshot : Snapshot = record { start = c.args.reader.now.start; own = c.args.reader.now.by } in
    let ends = ends_with_keys _ snapshot c.self.inside.store c.is_sound.ensures.sound g
    (rw (← c.self.view_is) at shows) in
    let out = rw c.of_vertex.ensures at (c.sees_any.ensures g shows) in
    let into = rw (c.of_vertex-in-Directed.ensures, c.end.ensures) at (c.sees_any-in-Directed.ensures g shows) in
    both_ways _ _ (λ yes. in_edge g c.args.v (sym into ∙ yes))
    (λ no. none_directed g c.args.v ends (sym out ∙ c.if-sees_any.false) (sym into ∙ no))

pub returns-in-Undirected : goal.returns-in-Undirected
returns-in-Undirected c = λ g shows fits.
    sym (none_undirected g c.args.v (rw c.in-Undirected.is at fits)
    (sym (rw c.of_vertex.ensures at (c.sees_any.ensures g shows)) ∙ c.if-sees_any.false))
