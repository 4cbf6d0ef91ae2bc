-- No more leaves are live, or retired, than there are.
use Rattle.std.proofs.Common.{◌≡◌, ◌≤◌, List, length, map, arith}
use Rattle.std.specs.Prelude.{Option}
use Rattle.std.specs.declared.alloc.Global.{Global}
use Rattle.std.specs.declared.boxed.Box.{Box}
use Rattle.std.proofs.lemmas.List.{length-map}
use Rattle.leaf_table.specs.LeafArrayDeclared.leaf.Leaf.{Leaf}
use Rattle.leaf_index.specs.Index.{Index, IsIndex}
use Rattle.leaf_index.proofs.CountLemmas.{at_most, count_map}
use Rattle.leaf_store.specs.Table.{leaves_of, part_of}

pub few_parts : (index : Index) (table : List (Option (Box Leaf Global))) → IsIndex index → length (leaves_of index table).parts ≤ index.leaves
few_parts index table is =
    let few = at_most (map (λ e. e.leaf) index.entries) index.leaves (λ q. omega (arith, is.once q, count_map (λ e. e.leaf) q index.entries)) in
    let same : length (map (λ e. e.leaf) index.entries) ≡ length index.entries = length-map index.entries (λ e. e.leaf) in
    let parts : length (map (part_of table) index.entries) ≡ length index.entries = length-map index.entries (part_of table) in
    omega (arith, few, same, parts)

pub few_retired : (index : Index) → IsIndex index → length index.retired ≤ index.leaves
few_retired index is =
    let few = at_most (map (λ r. r.leaf) index.retired) index.leaves (λ q. omega (arith, is.once q, count_map (λ r. r.leaf) q index.retired)) in
    let same : length (map (λ r. r.leaf) index.retired) ≡ length index.retired = length-map index.retired (λ r. r.leaf) in
    omega (arith, few, same)
