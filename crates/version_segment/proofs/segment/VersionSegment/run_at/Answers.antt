use Rattle.std.proofs.Common.{◌<◌, ◌≤◌, ◌∙◌, refl, ap, sym, subst, length, get_or, arith, List}
use Rattle.graph_model.specs.declared.row.Row.{Row}
use Rattle.gap_segment.specs.Fenced.{FencedRows, rows_between}
use Rattle.row_table.specs.UndoChain.States.{AreNamed}
use Rattle.row_table.specs.UndoChain.Records.{value_of}
use Rattle.row_table.specs.UndoChain.Chains.{list_at}
use Rattle.row_table.proofs.UndoChain.ListLemmas.{still_known}
use Rattle.row_table.specs.HeadMapDeclared.heads.Heads.{Heads}
use Rattle.row_table.specs.Parts.{value_in}
use Rattle.version_segment.proofs.RunLemmas.{run_found, fewer_between, settled_run, filled_start, filled_end, filled_room, filled_named, filled_next}
use Rattle.version_segment.proofs.segment.VersionSegment.run_at.Goals as goal

pub returns-then-are_settled-clause-rows : goal.returns-then-are_settled-clause-rows
returns-then-are_settled-clause-rows g c =
    let run = c.run-run.ensures ∙ ap (λ (s : FencedRows). rows_between c.args.from c.args.until s.rows) c.segment.ensures in
    rw (← c.self.view_is) (run ∙ settled_run c.self.inside.chains c.self.inside.rows.heads.entries (g.S.States.knowledge c.args.states.now).stamps c.args.snapshot.now c.args.from c.args.until c.self.inside.rows.fenced.rows (c.are_settled.ensures c.if-are_settled.true))

pub rows-init : goal.rows-init
rows-init g c =
    let run = c.run-run.ensures ∙ ap (λ (s : FencedRows). rows_between c.args.from c.args.until s.rows) c.segment.ensures in
    (omega arith, rw run (filled_start c.self.inside.rows.fenced c.self.inside.rows.heads c.self.inside.chains _ c.args.snapshot.now c.args.from c.args.until _ c.clear.ensures))

pub heads_at-heads-requires : goal.heads_at-heads-requires
heads_at-heads-requires g c =
    let run = c.run-run.ensures ∙ ap (λ (s : FencedRows). rows_between c.args.from c.args.until s.rows) c.segment.ensures in
    let blank : Row = record { key = record { src = 0; second = 0 }; weight = 0 } in
    let below : c.rows.row-index < length (rows_between c.args.from c.args.until c.self.inside.rows.fenced.rows) = subst (λ (rs : List Row). c.rows.row-index < length rs) run c.rows-test.true in
    rw (c.rows.invariant.0, run) (run_found c.self.inside.rows.fenced.rows c.args.from c.args.until c.first_place-place.result c.rows.row-index blank c.self.invariant.fenced.sorted c.first_place-place.ensures below)

pub overflow_add-place : goal.overflow_add-place
overflow_add-place g c =
    let run = c.run-run.ensures ∙ ap (λ (s : FencedRows). rows_between c.args.from c.args.until s.rows) c.segment.ensures in
    let below : c.rows.row-index < length (rows_between c.args.from c.args.until c.self.inside.rows.fenced.rows) = subst (λ (rs : List Row). c.rows.row-index < length rs) run c.rows-test.true in
    let most = rw c.segment-2.ensures at c.is_fenced.ensures.small in
    omega (arith, c.rows.invariant.0, below, most, c.first_place-place.ensures.within, fewer_between c.args.from c.args.until c.self.inside.rows.fenced.rows)

pub value_at-value-requires-clause-known : goal.value_at-value-requires-clause-known
value_at-value-requires-clause-known g c = still_known _ _ _ c.rows.invariant.1.grows c.requires.known

pub value_at-value-requires-clause-named : goal.value_at-value-requires-clause-named
value_at-value-requires-clause-named g c =
    let run = c.run-run.ensures ∙ ap (λ (s : FencedRows). rows_between c.args.from c.args.until s.rows) c.segment.ensures in
    let blank : Row = record { key = record { src = 0; second = 0 }; weight = 0 } in
    let below : c.rows.row-index < length (rows_between c.args.from c.args.until c.self.inside.rows.fenced.rows) = subst (λ (rs : List Row). c.rows.row-index < length rs) run c.rows-test.true in
    let is = rw run at c.rows.invariant.1 in
    let heads = rw run at c.heads_at-heads.ensures in
    let named = rw (← c.self.view_is) at c.requires.named in
    subst (λ (h : Heads). AreNamed (g.S.States.knowledge c.rows.states).names (list_at c.self.inside.chains h.undos)) (sym heads)
    (filled_named c.self.inside.rows.fenced c.self.inside.rows.heads c.self.inside.chains (g.S.States.knowledge c.args.states.now) c.args.snapshot.now c.args.from c.args.until (g.S.States.knowledge c.rows.states) c.rows.buffer c.rows.row-index blank below is named)

pub push_value-requires : goal.push_value-requires
push_value-requires g c =
    let run = c.run-run.ensures ∙ ap (λ (s : FencedRows). rows_between c.args.from c.args.until s.rows) c.segment.ensures in
    let blank : Row = record { key = record { src = 0; second = 0 }; weight = 0 } in
    let below : c.rows.row-index < length (rows_between c.args.from c.args.until c.self.inside.rows.fenced.rows) = subst (λ (rs : List Row). c.rows.row-index < length rs) run c.rows-test.true in
    let is = rw run at c.rows.invariant.1 in
    filled_room c.self.inside.rows.fenced c.self.inside.rows.heads c.self.inside.chains (g.S.States.knowledge c.args.states.now) c.args.snapshot.now c.args.from c.args.until (g.S.States.knowledge c.rows.states) c.rows.buffer c.rows.row-index blank below is (omega (arith, rw c.segment-2.ensures at c.is_fenced.ensures.small))

pub rows-preserved : goal.rows-preserved
rows-preserved g c =
    let run = c.run-run.ensures ∙ ap (λ (s : FencedRows). rows_between c.args.from c.args.until s.rows) c.segment.ensures in
    let blank : Row = record { key = record { src = 0; second = 0 }; weight = 0 } in
    let below : c.rows.row-index < length (rows_between c.args.from c.args.until c.self.inside.rows.fenced.rows) = subst (λ (rs : List Row). c.rows.row-index < length rs) run c.rows-test.true in
    let is = rw run at c.rows.invariant.1 in
    let heads = rw run at c.heads_at-heads.ensures in
    let row : Row = get_or (rows_between c.args.from c.args.until c.self.inside.rows.fenced.rows) c.rows.row-index blank in
    let base = rw run at c.value_in-base.ensures in
    let pushed = rw run at c.push_value.ensures in
    let value = c.value_at-value.ensures.value
    ∙ (λ i. value_of (g.S.States.knowledge c.rows.states).stamps c.args.snapshot.now ((base ∙ ap (λ (h : Heads). value_in h row.weight) heads) i) (list_at c.self.inside.chains (heads i).undos)) in
    (omega (arith, c.rows.invariant.0), rw run (filled_next c.self.inside.rows.fenced c.self.inside.rows.heads c.self.inside.chains (g.S.States.knowledge c.args.states.now) c.args.snapshot.now c.args.from c.args.until (g.S.States.knowledge c.rows.states) c.rows.buffer c.rows.row-index blank below is (g.S.States.knowledge c.value_at-value.new.states) _ c.push_value.new.self c.value_at-value.ensures.grows value pushed _ refl))

pub returns-clause-rows : goal.returns-clause-rows
returns-clause-rows g c =
    let run = c.run-run.ensures ∙ ap (λ (s : FencedRows). rows_between c.args.from c.args.until s.rows) c.segment.ensures in
    let is = rw run at c.rows.invariant.1 in
    let all : length (rows_between c.args.from c.args.until c.self.inside.rows.fenced.rows) ≤ c.rows.row-index = subst (λ (rs : List Row). length rs ≤ c.rows.row-index) run (omega arith) in
    c.as_slice.ensures
    ∙ rw (← c.self.view_is) (filled_end c.self.inside.rows.fenced c.self.inside.rows.heads c.self.inside.chains (g.S.States.knowledge c.args.states.now) c.args.snapshot.now c.args.from c.args.until (g.S.States.knowledge c.rows.states) c.rows.buffer c.rows.row-index all is)

pub returns-clause-grows : goal.returns-clause-grows
returns-clause-grows g c = c.rows.invariant.1.grows
