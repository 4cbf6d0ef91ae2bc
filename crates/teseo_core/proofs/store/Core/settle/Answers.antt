use Rattle.std.proofs.Common.{ℕ, ◌∙◌, ap, refl}
use Rattle.graph_model.specs.declared.row.Key.{Key}
use Rattle.graph_model.specs.Transactions.{stamp_in}
use Rattle.store_model.specs.Versions.{prune}
use Rattle.leaf_rows.specs.LeafStore.Leaves.{contents_of}
use Rattle.teseo_core.specs.Keeping.{core_of}
use Rattle.teseo_core.proofs.FreeLemmas.{same_parts_compact}
use Rattle.teseo_core.proofs.KeepLemmas.{all_settled, kept_moved, kept_settled}
use Rattle.teseo_core.proofs.store.Core.settle.Goals as goal

pub invariant_of-self : goal.invariant_of-self
invariant_of-self c =
    let f = c.self.inside in
    let core = core_of f.kind f.leaves f.manager f.passes.items f.selected f.served in
    let settled = kept_settled core f.manager f.rows c.self.invariant (rw (← c.self.view_is) at c.requires) c.settle.new.self
    (λ k. c.settle.ensures.contents k ∙ ap (λ (n : ℕ). prune (stamp_in f.manager.journal) n (contents_of f.rows k)) c.clock.ensures) c.settle.ensures.limit c.settle.ensures.weight in
    let merged = kept_moved core f.manager c.settle.new.self settled c.merge_all.new.self c.merge_all.ensures.contents in
    kept_moved core f.manager c.merge_all.new.self merged c.free_retired.new.self c.free_retired.ensures.contents

pub returns-clause-settled : goal.returns-clause-settled
returns-clause-settled c =
    let f = c.self.inside in
    let core = core_of f.kind f.leaves f.manager f.passes.items f.selected f.served in
    let settled = all_settled core f.manager f.rows c.self.invariant (rw (← c.self.view_is) at c.requires) c.settle.new.self
    (λ k. c.settle.ensures.contents k ∙ ap (λ (n : ℕ). prune (stamp_in f.manager.journal) n (contents_of f.rows k)) c.clock.ensures) in
    let rows = λ (k : Key). c.free_retired.ensures.contents.contents k ∙ c.merge_all.ensures.contents.contents k ∙ settled k in
    record {
      rows = rows;
      records = c.settled_rows_have_no_records-2.ensures _ rows;
      retired = c.free_retired.ensures.all refl;
      compact = same_parts_compact _ _ c.free_retired.ensures.freed.parts (c.merge_all.ensures.compact (c.settled_rows_have_no_records.ensures _ settled));
    }
