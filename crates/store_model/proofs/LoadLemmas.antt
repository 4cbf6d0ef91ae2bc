-- One transaction lays its writes in a new store.
use Rattle.std.proofs.Common.{◌≡◌, List, [], ◌∷◌, ◌++◌, refl, sym, ◌∙◌, ap, subst, cond}
use Rattle.std.specs.Prelude.{false, Option, Some, None}
use Rattle.std.specs.List.{AllByRecursion}
use Rattle.std.proofs.lemmas.List.{append-nil}
use Rattle.std.proofs.Math.Seq.{append_snoc}
use Rattle.graph_model.specs.declared.write.Kind.{Kind}
use Rattle.graph_model.specs.declared.write.Write.{Write}
use Rattle.graph_model.specs.declared.row.Key.{Key}
use Rattle.graph_model.specs.declared.journal.TxnName.{TxnName}
use Rattle.graph_model.specs.Conflict.{same_name, meets}
use Rattle.graph_model.specs.Graph.{Graph, empty_graph, apply_all}
use Rattle.graph_model.specs.Refused.{AllAllowed, IsWithinLimits}
use Rattle.graph_model.specs.Transactions.{Running, Changes, writes_of_running, MeetsNoHolder}
use Rattle.graph_model.proofs.HistoryLemmas.{apply_all-append}
use Rattle.graph_model.proofs.TestLemmas.{name_self}
use Rattle.store_model.specs.declared.versions.Versions.{Versions}
use Rattle.store_model.specs.Layers.{after_write, laid}
use Rattle.store_model.specs.Store.{alone, IsPlainStore}
use Rattle.store_model.specs.Versions.{no_versions}
use Rattle.store_model.proofs.NewLemmas.{store_new}
use Rattle.store_model.proofs.OwnerLemmas.{owner_begun, owner_written}

module _ (kind : Kind) (by : TxnName) where
  alone_here : (ws : List Write) → alone by ws by ≡ Some (record { start = 0; writes = ws })
  alone_here ws = ap (λ t. cond t (Some (record { start = 0; writes = ws })) None) (name_self by)

  alone_else : (ws : List Write) (q : TxnName) → same_name q by ≡ false → alone by ws q ≡ None
  alone_else ws q e = ap (λ t. cond t (Some (record { start = 0; writes = ws })) None) e

  alone_begins : Changes by (λ q. None) (alone by []) (Some (record { start = 0; writes = [] }))
  alone_begins = record { here = alone_here []; else = alone_else [] }

  alone_writes : (done : List Write) (w : Write) → Changes by (alone by done) (alone by (done ++ w ∷ [])) (Some (record { start = 0; writes = done ++ w ∷ [] }))
  alone_writes done w = record { here = alone_here (done ++ w ∷ []); else = λ q e. alone_else (done ++ w ∷ []) q e ∙ sym (alone_else done q e) }

  -- nobody is there to be met
  meets_nobody : (done : List Write) (w : Write) → MeetsNoHolder kind (alone by done) by w
  meets_nobody done w q e = ap (λ r. meets kind w (writes_of_running r)) (alone_else done q e)

  -- behind some of its writes, the transaction lays the rest
  goes_on : (done rest : List Write) (contents : Key → Versions) → IsPlainStore kind [] (alone by done) 0 contents
      → AllAllowed kind (apply_all kind empty_graph done) rest → AllByRecursion IsWithinLimits rest
      → IsPlainStore kind [] (alone by (done ++ rest)) 0 (λ k. laid kind by rest k (contents k))
  goes_on done [] contents is allowed within = subst (λ (ws : List Write). IsPlainStore kind [] (alone by ws) 0 contents) (sym (append-nil done)) is
  goes_on done (w ∷ ws) contents is allowed within =
      subst (λ (us : List Write). IsPlainStore kind [] (alone by us) 0 (λ k. laid kind by ws k (after_write kind by w k (contents k)))) (append_snoc done w ws)
      (goes_on (done ++ w ∷ []) ws (λ k. after_write kind by w k (contents k))
      (owner_written kind [] (alone by done) 0 contents is by (record { start = 0; writes = done }) (alone_here done) w (alone by (done ++ w ∷ [])) (λ k. after_write kind by w k (contents k))
      (alone_writes done w) allowed.0 within.0 (meets_nobody done w) (λ i c at. cc) (λ k. refl))
      (subst (λ (g : Graph). AllAllowed kind g ws) (sym (apply_all-append kind empty_graph done (w ∷ []))) allowed.1) within.1)

-- LOAD: the first transaction lays its writes, and no other is open
pub owner_loaded : (kind : Kind) (by : TxnName) (load : List Write) → AllAllowed kind empty_graph load → AllByRecursion IsWithinLimits load
    → IsPlainStore kind [] (alone by load) 0 (λ k. laid kind by load k no_versions)
owner_loaded kind by load allowed within =
    goes_on kind by [] load (λ k. no_versions)
    (owner_begun kind [] (λ q. None) 0 (λ k. no_versions) (store_new kind) by (alone by []) (alone_begins kind by) refl (λ i c at. cc))
    allowed within
