use Rattle.std.proofs.Common.{◌∙◌, sym, ap}
use Rattle.graph_files.specs.EdgeFiles.{Before, edges_behind}
use Rattle.graph_files.proofs.EdgeLemmas.{checked_edge, line_refused, listing_refused, line_read, behind_is}
use Rattle.graph_files.proofs.listings.read_rest.Goals as goal

pub lines-preserved : goal.lines-preserved
lines-preserved c = λ rules checked.
    let before : Before = record { listings = c.lines.reading.listings; edges = c.lines.reading.edges } in
    ap (λ (after : Before). edges_behind rules after c.next.new.self)
    (behind_is before c.in-Ok.edge c.in-Ok-check.listing _ _ c.in_ok-reading-in-Ok-check.ensures.listings c.in_ok-reading-in-Ok-check.ensures.edges)
    ∙ line_read rules before c.lines.lines c.in-Some.line _ _ c.in-Some.ensures (c.lines.invariant rules checked) c.in-Ok.edge
    (checked_edge rules c.args.checks.now c.in-Some.line.fields _ checked (sym c.in-Ok.ensures)) c.in-Ok-check.listing (sym (c.in-Ok-check.ensures rules checked))

pub returns-in-Err-check-clause-fault : goal.returns-in-Err-check-clause-fault
returns-in-Err-check-clause-fault c = λ rules checked.
    let before : Before = record { listings = c.lines.reading.listings; edges = c.lines.reading.edges } in
    listing_refused rules before c.lines.lines c.in-Some.line _ _ c.in-Some.ensures (c.lines.invariant rules checked) c.in-Ok.edge
    (checked_edge rules c.args.checks.now c.in-Some.line.fields _ checked (sym c.in-Ok.ensures)) c.in-Err-check.what (sym (c.in-Err-check.ensures rules checked))

pub returns-in-Err-clause-fault : goal.returns-in-Err-clause-fault
returns-in-Err-clause-fault c = λ rules checked.
    let before : Before = record { listings = c.lines.reading.listings; edges = c.lines.reading.edges } in
    line_refused rules before c.lines.lines c.in-Some.line _ _ c.in-Some.ensures (c.lines.invariant rules checked) c.in-Err.what
    (checked_edge rules c.args.checks.now c.in-Some.line.fields _ checked (sym c.in-Err.ensures))
