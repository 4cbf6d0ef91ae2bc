use Rattle.std.proofs.Common.{ℕ, true, slice_set, subst, arith}
use Rattle.bench_store.specs.Marked.{AreMarked}
use Rattle.bench_store.proofs.MarkLemmas.{marked_more}
use Rattle.bench_store.proofs.leaves.put.Goals as goal

pub returns-in_ok-insert : goal.returns-in_ok-insert
returns-in_ok-insert c =
    subst (λ (n : ℕ). AreMarked (slice_set c.args.marks.now.items n true) c.insert.new.self) c.start_of.ensures.leaf
    (marked_more c.args.marks.now.items _ _ c.start_of.result c.requires c.in_ok-insert.ensures.ok (omega (arith, c.start_of.ensures.low, c.start_of.ensures.leaf)) (omega (arith, c.start_of.ensures.leaf, c.if-place-len.true, c.len.ensures)))
