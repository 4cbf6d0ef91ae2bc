use Rattle.std.proofs.Common.{length, map, ◌∙◌, ap, arith}
use Rattle.leaf_index.specs.Calls.{freed_of}
use Rattle.leaf_index.specs.Index.{Index}
use Rattle.leaf_store.specs.Leaves.{Leaves}
use Rattle.leaf_store.specs.Table.{part_of}
use Rattle.leaf_store.proofs.FreeLemmas.{count_is, freed_kept, frees, none_left}
use Rattle.leaf_store.proofs.TendLemmas.{tended_entries}
use Rattle.leaf_store.proofs.store.LeafStore.free_retired.Goals as goal

pub invariant_of-self : goal.invariant_of-self
invariant_of-self c =
    let kept = freed_kept c.self.inside.index c.free_retired-freed.new.self c.self.inside.leaves.items c.args.until 18446744073709551615 c.self.invariant.kept c.free_retired-freed.ensures.freed c.is_index.ensures.index
    (omega (arith, c.is_index.ensures.few, ap (λ (i : Index). i.leaves) c.free_retired-freed.ensures.freed)) in
    tended_entries c.self.inside.index c.free_retired-freed.new.self c.self.inside.leaves.items c.self.inside.leaves.items c.self.inside.queue c.self.invariant kept (ap (λ (i : Index). i.leaves) c.free_retired-freed.ensures.freed)
    (ap (λ (i : Index). map (part_of c.self.inside.leaves.items) i.entries) c.free_retired-freed.ensures.freed)

pub returns-clause-freed : goal.returns-clause-freed
returns-clause-freed c =
    frees c.self.inside.index c.free_retired-freed.new.self c.self.inside.leaves.items c.args.until 18446744073709551615 c.self.invariant.kept c.free_retired-freed.ensures.freed c.is_index.ensures.index
    (omega (arith, c.is_index.ensures.few, ap (λ (i : Index). i.leaves) c.free_retired-freed.ensures.freed)) c.args.self.now c.self.view_is

pub returns-clause-count : goal.returns-clause-count
returns-clause-count c =
    c.free_retired-freed.ensures.count ∙ count_is c.self.inside.index c.free_retired-freed.new.self c.self.inside.leaves.items c.args.until 18446744073709551615 c.self.invariant.kept c.free_retired-freed.ensures.freed c.is_index.ensures.index
    (omega (arith, c.is_index.ensures.few, ap (λ (i : Index). i.leaves) c.free_retired-freed.ensures.freed)) ∙ ap (λ (s : Leaves). length (freed_of c.args.until s.retired)) c.self.view_is

pub returns-clause-all : goal.returns-clause-all
returns-clause-all c =
    none_left c.self.inside.index c.free_retired-freed.new.self c.self.inside.leaves.items c.args.until 18446744073709551615 c.self.invariant.kept c.free_retired-freed.ensures.freed c.is_index.ensures.index
    (omega (arith, c.is_index.ensures.few, ap (λ (i : Index). i.leaves) c.free_retired-freed.ensures.freed))
