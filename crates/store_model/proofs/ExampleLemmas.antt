-- A store that holds, by the laws of each change.
use Rattle.std.proofs.Common.{◌≡◌, ℕ, zero, suc, ◌<◌, [], ◌∷◌, refl, sym, ◌∙◌, ap, subst, cond, arith}
use Rattle.std.specs.Prelude.{true, false, slice_get, Some, None, is_some}
use Rattle.std.specs.FinMap as fin_map
use Rattle.std.specs.Ordering.{nat_cmp}
use Rattle.graph_model.specs.declared.write.Kind.TheVariants.{Directed}
use Rattle.graph_model.specs.declared.write.Write.{Write}
use Rattle.graph_model.specs.declared.write.Write.TheVariants.{AddVertex}
use Rattle.graph_model.specs.declared.refusal.Refusal.TheVariants.{VertexExists}
use Rattle.graph_model.specs.declared.journal.Commit.{Commit}
use Rattle.graph_model.specs.declared.journal.TxnName.{TxnName}
use Rattle.graph_model.specs.Conflict.{same_name, meets}
use Rattle.graph_model.specs.ConflictLaws.{NoLater}
use Rattle.graph_model.specs.Graph.{empty_graph, has_vertex}
use Rattle.graph_model.specs.Transactions.{Running, Changes, writes_of_running, MeetsNoHolder}
use Rattle.graph_model.proofs.GraphLemmas.{has_vertex-apply}
use Rattle.graph_model.proofs.PlaceLemmas.{some_eq}
use Rattle.store_model.specs.Versions.{no_versions}
use Rattle.store_model.specs.Layers.{after_write}
use Rattle.store_model.specs.Store.{IsPlainStore}
use Rattle.store_model.specs.Examples.{load, writer, only, first_commit, first_rows, StoreExample}
use Rattle.store_model.proofs.NewLemmas.{store_new}
use Rattle.store_model.proofs.OwnerLemmas.{owner_begun, owner_written, owner_committed}

-- one transaction begins, goes on and ends
begins : (by : TxnName) (t : Running) → same_name by by ≡ true → Changes by (λ q. None) (only by t) (Some t)
begins by t self = record { here = ap (λ s. cond s (Some t) None) self; else = λ q e. ap (λ s. cond s (Some t) None) e }

goes_on : (by : TxnName) (t u : Running) → same_name by by ≡ true → Changes by (only by t) (only by u) (Some u)
goes_on by t u self = record { here = ap (λ s. cond s (Some u) None) self; else = λ q e. ap (λ s. cond s (Some u) None) e ∙ sym (ap (λ s. cond s (Some t) None) e) }

ends : (by : TxnName) (t : Running) → Changes by (only by t) (λ q. None) None
ends by t = record { here = refl; else = λ q e. sym (ap (λ s. cond s (Some t) None) e) }

-- where no other is open none clashes
alone : (by : TxnName) (t : Running) (w : Write) → MeetsNoHolder Directed (only by t) by w
alone by t w q e = ap (λ s. meets Directed w (writes_of_running (cond s (Some t) None))) e

no_vertex : (v : ℕ) → has_vertex empty_graph v ≡ false
no_vertex v = ap is_some (fin_map.get-empty {X = Unit {0}} nat_cmp v)

-- the load
load_holds : IsPlainStore Directed (first_commit ∷ []) (λ by. None) 0 first_rows
load_holds =
    let t : Running = record { start = 0; writes = [] } in
    let u : Running = record { start = 0; writes = AddVertex 1 ∷ [] } in
    let begun : IsPlainStore Directed [] (only load t) 0 (λ k. no_versions) =
    owner_begun Directed [] (λ by. None) 0 (λ k. no_versions) (store_new Directed) load (only load t) (begins load t refl) refl (λ i c at. cc) in
    let written : IsPlainStore Directed [] (only load u) 0 first_rows =
    owner_written Directed [] (only load t) 0 (λ k. no_versions) begun load t refl (AddVertex 1) (only load u) first_rows (goes_on load t u refl)
    (ap (λ s. cond s (Some VertexExists) None) (no_vertex 1)) (omega arith) (alone load t (AddVertex 1)) (λ i c at late. cc) (λ k. refl) in
    owner_committed Directed [] (only load u) 0 first_rows written load u refl (λ by. None) (ends load u) (omega arith)

only_load : (P : Commit → Type 0) → P first_commit → (i : ℕ) (c : Commit) → slice_get (first_commit ∷ []) i ≡ Some c → P c
only_load P is zero c at = subst P (some_eq first_commit c at) is
only_load P is (suc i) c at = cc

-- and the one that is open on it
pub store_holds : StoreExample
store_holds =
    let t : Running = record { start = 1; writes = [] } in
    let u : Running = record { start = 1; writes = AddVertex 2 ∷ [] } in
    let begun : IsPlainStore Directed (first_commit ∷ []) (only writer t) 0 first_rows =
    owner_begun Directed (first_commit ∷ []) (λ by. None) 0 first_rows load_holds writer (only writer t) (begins writer t refl) refl (only_load (λ c. same_name c.by writer ≡ false) refl) in
    let late : NoLater Directed (first_commit ∷ []) 1 (AddVertex 2) = only_load (λ c. 1 < c.stamp → meets Directed (AddVertex 2) c.writes ≡ false) (λ lt. absurd (omega (arith, lt))) in
    owner_written Directed (first_commit ∷ []) (only writer t) 0 first_rows begun writer t refl (AddVertex 2) (only writer u)
    (λ k. after_write Directed writer (AddVertex 2) k (first_rows k)) (goes_on writer t u refl)
    (ap (λ s. cond s (Some VertexExists) None) (has_vertex-apply Directed empty_graph (AddVertex 1) 2 ∙ no_vertex 2)) (omega arith) (alone writer t (AddVertex 2)) late (λ k. refl)
