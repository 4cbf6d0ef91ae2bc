-- The stamps of a row's writers never rise from the newest pair down.
use Rattle.std.proofs.Common.{◌≡◌, ℕ, suc, ◌+◌, ◌≤◌, List, [], ◌∷◌, drop, refl, sym, ◌∙◌, ap, subst, cond, arith}
use Rattle.std.specs.Prelude.{Bool, true, false, slice_get, Option, Some, None}
use Rattle.std.specs.List.{AllByRecursion}
use Rattle.std.proofs.lemmas.Bool.{false_from_ne_true}
use Rattle.graph_model.specs.declared.write.Kind.{Kind}
use Rattle.graph_model.specs.declared.write.Write.{Write}
use Rattle.graph_model.specs.declared.row.Key.{Key}
use Rattle.graph_model.specs.declared.journal.Commit.{Commit}
use Rattle.graph_model.specs.declared.journal.TxnName.{TxnName}
use Rattle.graph_model.specs.Effects.{writes_at, value_left}
use Rattle.graph_model.specs.Transactions.{Running, stamp_in}
use Rattle.graph_model.proofs.PlaceLemmas.{get_drop}
use Rattle.graph_model.proofs.StampLemmas.{stamp_at, stamp_none}
use Rattle.graph_model.proofs.TestLemmas.{name_eq}
use Rattle.store_model.specs.declared.version.Version.{Version}
use Rattle.store_model.specs.declared.versions.Versions.{Versions}
use Rattle.store_model.specs.Layers.{layered, layered_all}
use Rattle.store_model.specs.Store.{IsStore}
use Rattle.store_model.specs.Check.{IsNotAbove, NeverRise}

not_above_self : (o : Option ℕ) → IsNotAbove o o
not_above_self None = tt
not_above_self (Some c) = (c, refl, omega arith)

module _ (stamps : TxnName → Option ℕ) (kind : Kind) (k : Key) where
  -- none of the pairs has a greater stamp than that
  abbrev AllBelow : Option ℕ → List Version → Type 0
  AllBelow bound ps = AllByRecursion (λ q. IsNotAbove bound (stamps q.by)) ps

  -- one writer's pairs on those of writers that are not above it
  layers_fall : (by : TxnName) (ws : List Write) (below : List Version)
      → AllBelow (stamps by) below → NeverRise stamps below
      → AllBelow (stamps by) (layered kind k by ws below) × NeverRise stamps (layered kind k by ws below)
  layers_fall by [] below low fall = (low, fall)
  layers_fall by (w ∷ ws) below low fall =
      let next = one (writes_at kind w k) in
      layers_fall by ws (cond (writes_at kind w k) (record { by = by; value = value_left w } ∷ below) below)
      next.0 next.1
    where
      one : (t : Bool)
          → AllBelow (stamps by) (cond t (record { by = by; value = value_left w } ∷ below) below)
          × NeverRise stamps (cond t (record { by = by; value = value_left w } ∷ below) below)
      one true = ((not_above_self (stamps by), low), (low, fall))
      one false = (low, fall)

  raise : (m n : ℕ) → m ≤ n → (ps : List Version) → AllBelow (Some m) ps → AllBelow (Some n) ps
  raise m n le [] all = tt
  raise m n le (p ∷ ps) all =
      let up : (all.0).0 ≤ m = (all.0).2 in
      (((all.0).0, (all.0).1, omega (arith, up, le)), raise m n le ps all.1)

  -- those of commits, which come in the order of their stamps
  commits_fall : (cs : List Commit) (from : ℕ)
      → ((i : ℕ) (c : Commit) → slice_get cs i ≡ Some c → stamps c.by ≡ Some (from + i + 1))
      → (below : List Version) → AllBelow (Some from) below → NeverRise stamps below
      → NeverRise stamps (layered_all kind k cs below)
  commits_fall [] from each below low fall = fall
  commits_fall (c ∷ cs) from each below low fall =
      let first : from + 0 + 1 ≡ from + 1 = omega arith in
      let here : stamps c.by ≡ Some (from + 1) = each 0 c refl ∙ ap (λ n. Some n) first in
      let upper : AllBelow (stamps c.by) below
      = subst (λ o. AllBelow o below) (sym here) (raise from (from + 1) (omega arith) below low) in
      let next = layers_fall c.by c.writes below upper fall in
      commits_fall cs (from + 1)
      (λ i d at. each (suc i) d at
      ∙ ap (λ n. Some n) (let same : from + suc i + 1 ≡ from + 1 + i + 1 = omega arith in same))
      (layered kind k c.by c.writes below)
      (subst (λ o. AllBelow o (layered kind k c.by c.writes below)) here next.0)
      next.1

-- and on all of them lie those of one that has not committed
pub stamps_fall : (kind : Kind) (journal : List Commit) (running : TxnName → Option Running)
    (own : TxnName → List Write) (touching : TxnName → Key → Bool) (horizon : ℕ) (contents : Key → Versions)
    → IsStore kind journal running own touching horizon contents
    → (k : Key) → NeverRise (stamp_in journal) (contents k).pairs
stamps_fall kind journal running own touching horizon contents is k =
    let r = is.rows k in
    let legal = is.transactions.legal in
    let commits : NeverRise (stamp_in journal) (layered_all kind k (drop r.cut journal) [])
    = commits_fall (stamp_in journal) kind k (drop r.cut journal) r.cut
    (λ i c at.
    let there = get_drop r.cut journal i c at in
    stamp_at journal legal.names (r.cut + i) c there
    ∙ ap (λ n. Some n) (legal.each (r.cut + i) c there).stamped)
    [] tt tt in
    subst (NeverRise (stamp_in journal)) (sym r.row.pairs) (on_top r.keeper (own r.keeper) refl _ commits)
  where
    below_open : (o : Option ℕ) → o ≡ None → (ps : List Version)
        → AllByRecursion (λ q. IsNotAbove o (stamp_in journal q.by)) ps
    below_open None e [] = tt
    below_open None e (p ∷ ps) = (tt, below_open None e ps)
    below_open (Some c) e ps = cc

    on_top : (by : TxnName) (ws : List Write) → own by ≡ ws → (below : List Version)
        → NeverRise (stamp_in journal) below → NeverRise (stamp_in journal) (layered kind k by ws below)
    on_top by [] e below fall = fall
    on_top by (w ∷ ws) e below fall =
        let none : stamp_in journal by ≡ None = stamp_none journal by (λ i c at. false_from_ne_true _ (λ same.
        let empty : own by ≡ [] = ap own (sym (name_eq c.by by same)) ∙ (is.settled i c at).0 in cc)) in
        (layers_fall (stamp_in journal) kind k by (w ∷ ws) below (below_open (stamp_in journal by) none below)
        fall).1
