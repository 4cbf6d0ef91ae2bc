use Rattle.bench_store.specs.Marked.{AreMarked}
use Rattle.bench_store.proofs.leaves.time_inserts.Given as goal

-- the leaves so far have their marks
abbrev pub invariant-rounds : goal.invariant-rounds
invariant-rounds g l = AreMarked l.marks.items l.trie

abbrev pub invariant-leaves : goal.invariant-leaves
invariant-leaves g l = AreMarked l.marks.items l.trie
