use Rattle.std.proofs.Common.{◌≡◌, ◌+◌, length, sym, ap, ◌∙◌, arith, subst}
use Rattle.std.proofs.lemmas.Option.{slice_get-get_or}
use Rattle.graph_image.specs.Building.{AreEdgesOf}
use Rattle.graph_image.proofs.BuildLemmas.{edges_none, edges_same, edges_longer, edges_within}
use Rattle.graph_image.proofs.builder.edges_of.Goals as goal
use Rattle.graph_image.proofs.builder.edges_of.Goals.{in-Some+in_ok-push, in_default}

pub rows-init : goal.rows-init
rows-init c = rw c.in_ok-edges.ensures.items (edges_none c.args.sources.now c.args.rows.now)

pub edge_of-requires-clause-target : goal.edge_of-requires-clause-target
edge_of-requires-clause-target c = c.requires.targets c.rows.i _ (slice_get-get_or c.args.rows.now c.rows.i (record { second = 0; source = 0; weight = 0 }) c.rows-test.true)

pub rows-preserved : goal.rows-preserved
rows-preserved c =
    let at = slice_get-get_or c.args.rows.now c.rows.i (record { second = 0; source = 0; weight = 0 }) c.rows-test.true in
    elim c.match-edge_of.branch [
      | in-Some+in_ok-push w ↦ subst (AreEdgesOf c.args.sources.now c.args.rows.now (c.rows.i + 1)) (sym (ap (λ v. v.items) w.edges-is ∙ w.in_ok-push.ensures.items))
          (edges_longer c.args.sources.now c.args.rows.now c.requires.built c.rows.i c.rows.edges.items c.rows.invariant _ at _ w.in-Some.ensures.edge)
      | in_default w ↦ subst (AreEdgesOf c.args.sources.now c.args.rows.now (c.rows.i + 1)) (sym (ap (λ v. v.items) w.edges-is))
          (edges_same c.args.sources.now c.args.rows.now c.requires.built c.rows.i c.rows.edges.items c.rows.invariant _ at w.in_default.ensures.vertex)
    ]

pub returns-clause-edges : goal.returns-clause-edges
returns-clause-edges c =
    let end : c.rows.i ≡ length c.args.rows.now = omega (arith, c.rows.auto.i-end, c.rows-test.false) in
    subst (λ n. AreEdgesOf c.args.sources.now c.args.rows.now n c.rows.edges.items) end c.rows.invariant

pub returns-clause-within : goal.returns-clause-within
returns-clause-within c = edges_within c.args.sources.now c.args.rows.now c.rows.i c.rows.edges.items c.requires.built c.rows.auto.i-end c.rows.invariant
