use Rattle.std.proofs.Common.{ℕ}
use Rattle.std.proofs.lemmas.List.Sorted.{IsNonDecreasingBy-from_sort}
use Rattle.id_places.proofs.KnownLemmas.{among_permuted}
use Rattle.id_places.proofs.id_table.IdTable.of.Goals as goal

pub dense_front-dense-requires : goal.dense_front-dense-requires
dense_front-dense-requires c = rw c.as_slice.ensures.value (IsNonDecreasingBy-from_sort (λ (x : ℕ). x) _ c.sort_unstable.ensures.sorted)

pub of-requires : goal.of-requires
of-requires c = rw c.as_slice-2.ensures.value (IsNonDecreasingBy-from_sort (λ (x : ℕ). x) _ c.sort_unstable.ensures.sorted)

pub invariant_of-result : goal.invariant_of-result
invariant_of-result c = (IsNonDecreasingBy-from_sort (λ (x : ℕ). x) _ c.sort_unstable.ensures.sorted, (rw c.as_slice.ensures.value at c.dense_front-dense.ensures, (rw c.as_slice-2.ensures.value at c.in_ok-slots.ensures, tt)))

pub returns : goal.returns
returns c = among_permuted c.args.ids.now c.sort_unstable.new.self.items (rw c.in_ok-sorted.ensures.items at c.sort_unstable.ensures.permutation)
