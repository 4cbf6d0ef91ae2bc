-- A new store holds the empty graph.
use Rattle.std.proofs.Common.{◌≡◌, ℕ, ◌-◌, [], refl, sym, ◌∙◌, arith, cond}
use Rattle.std.specs.Prelude.{Bool, true, false, ◌==◌, Option, Some, None, is_some}
use Rattle.std.specs.FinMap as fin_map
use Rattle.std.specs.Ordering.{nat_cmp}
use Rattle.graph_model.specs.declared.write.Kind.{Kind}
use Rattle.graph_model.specs.declared.row.Key.{Key}
use Rattle.graph_model.specs.Graph.{empty_graph, arc_cmp}
use Rattle.graph_model.specs.Rows.{value_at}
use Rattle.graph_model.proofs.TransactionLemmas.{none_at_first}
use Rattle.store_model.specs.Versions.{no_versions}
use Rattle.store_model.specs.Store.{IsPlainStore}

no_value_there : (z : Bool) → (let nothing : Option ℕ = None in cond z (cond false (Some 0) nothing) nothing) ≡ None
no_value_there true = refl
no_value_there false = refl

-- the empty graph has nothing at any key
pub value_of_empty : (k : Key) → value_at empty_graph k ≡ None
value_of_empty k =
    (λ i. cond (k.second == 0) (cond (is_some (fin_map.get-empty {X = Unit {0}} nat_cmp k.src i)) (Some 0) None) (fin_map.get-empty {X = ℕ} arc_cmp (k.src, k.second - 1) i))
    ∙ no_value_there (k.second == 0)

-- NEW: no commits, no transactions, no rows
pub store_new : (kind : Kind) → IsPlainStore kind [] (λ by. None) 0 (λ k. no_versions)
store_new kind = record {
  transactions = none_at_first kind;
  rows = λ k. record {
    cut = 0;
    since = 0;
    keeper = record { job = 0; number = 0 };
    below = omega arith;
    below_since = omega arith;
    row = record { only = λ by has. cc; pairs = refl; oldest = sym (value_of_empty k); touched = λ by. refl };
  };
  laid = λ by t at. cc;
  marked = λ by t at k. cc;
  settled = λ i c at. cc;
}
