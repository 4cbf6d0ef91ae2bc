-- What a commit and a prune do to one row.
use Rattle.std.proofs.Common.{◌≡◌, ℕ, suc, ◌+◌, ◌-◌, ◌<◌, ◌≤◌, List, [], ◌∷◌, ◌++◌, length, take, drop, refl, sym, ◌∙◌, ap, subst, arith, cond, inl, inr}
use Rattle.std.specs.Prelude.{◌⊎◌, Bool, true, false, ◌&&◌, ◌||◌, not, Option, Some, slice_get}
use Rattle.std.specs.List.{filter}
use Rattle.std.proofs.lemmas.Bool.{true≢false}
use Rattle.std.proofs.lemmas.List.{drop-append-le}
use Rattle.std.proofs.lemmas.List.Folds.{list_any-append}
use Rattle.graph_model.specs.declared.write.Kind.{Kind}
use Rattle.graph_model.specs.declared.write.Write.{Write}
use Rattle.graph_model.specs.declared.row.Key.{Key}
use Rattle.graph_model.specs.declared.journal.Commit.{Commit}
use Rattle.graph_model.specs.declared.journal.TxnName.{TxnName}
use Rattle.graph_model.specs.Conflict.{same_name}
use Rattle.graph_model.specs.Effects.{any_writes, any_touches}
use Rattle.graph_model.specs.History.{graph_at}
use Rattle.graph_model.specs.Rows.{value_at}
use Rattle.graph_model.specs.Transactions.{has_name}
use Rattle.graph_model.proofs.LegalLemmas.{graph_at-append}
use Rattle.graph_model.proofs.PlaceLemmas.{get_drop, get_take, drop_cut}
use Rattle.graph_model.proofs.TestLemmas.{name_eq, name_symm}
use Rattle.store_model.specs.declared.version.Version.{Version}
use Rattle.store_model.specs.declared.versions.Versions.{Versions}
use Rattle.store_model.specs.Versions.{first_seen, unseen_front, is_settled}
use Rattle.store_model.specs.Layers.{layered, layered_all, touched_in}
use Rattle.store_model.specs.Store.{IsRow}
use Rattle.store_model.proofs.VersionLemmas.{filter-has}
use Rattle.store_model.proofs.ValueLemmas.{committed_value}
use Rattle.store_model.proofs.LayerLemmas.{layered_none, layered_all-append, front_unseen, front_unseen_all, front_seen_all, unseen_layer}
use Rattle.store_model.proofs.RowLemmas.{by_name, list_any-snoc, not_keeper}

-- ---- a commit

module _ (kind : Kind) (journal : List Commit) (own : TxnName → List Write) (touching : TxnName → Key → Bool) (k : Key) (cut since : ℕ) (keeper : TxnName) (vs : Versions) (row : IsRow kind journal own touching k cut since keeper vs)
    (c : Commit) (own' : TxnName → List Write) (touching' : TxnName → Key → Bool)
    (inside : cut ≤ length journal) (inside_since : since ≤ length journal)
    (mine : own c.by ≡ c.writes)
    (left : own' c.by ≡ [])
    (others : (q : TxnName) → same_name q c.by ≡ false → own' q ≡ own q)
    (marks : (q : TxnName) → touching' q k ≡ cond (same_name q c.by) false (touching q k))
    (mark : touching c.by k ≡ any_touches c.writes k) where
  abbrev old : List Version
  old = layered_all kind k (drop cut journal) []

  abbrev new : List Version
  new = layered_all kind k (drop cut (journal ++ c ∷ [])) []

  -- the commit's pairs lie on those of the journal before it
  on_top : new ≡ layered kind k c.by c.writes old
  on_top = ap (λ cs. layered_all kind k cs []) (drop-append-le cut journal (c ∷ []) inside) ∙ layered_all-append kind k (drop cut journal) (c ∷ []) []

  -- so where the committer was the keeper they are the journal's, and where it wasn't it has laid none
  same_layer : layered kind k keeper (own keeper) old ≡ layered kind k keeper (own' keeper) new
  same_layer = by_name keeper c.by
      (λ me. subst (λ q. layered kind k q (own q) old ≡ layered kind k q (own' q) new) (sym me)
      (ap (λ ws. layered kind k c.by ws old) mine ∙ sym on_top ∙ sym (ap (λ ws. layered kind k c.by ws new) left)))
      (λ e.
      let none : any_writes kind c.writes k ≡ false = ap (λ ws. any_writes kind ws k) (sym mine) ∙ not_keeper kind journal own touching k cut since keeper vs row c.by (name_symm c.by keeper ∙ e) in
      (λ i. layered kind k keeper (sym (others keeper e) i) ((sym (layered_none kind k c.by c.writes old none) ∙ sym on_top) i)))

  -- and its touches are the journal's
  same_touches : (q : TxnName) → has_name vs.touches q ≡ (touching' q k || touched_in (drop since (journal ++ c ∷ [])) q k)
  same_touches q =
      row.touched q
      ∙ moved (same_name c.by q) (touching q k) (touched_in (drop since journal) q k) (any_touches c.writes k) (λ e. ap (λ x. touching x k) (sym (name_eq c.by q e)) ∙ mark)
      ∙ (λ i. (ap (λ t. cond t false (touching q k)) (name_symm c.by q) ∙ sym (marks q)) i || ((same_name c.by q && any_touches c.writes k) || touched_in (drop since journal) q k))
      ∙ ap (λ t. touching' q k || t) (sym (ap (λ cs. touched_in cs q k) (drop-append-le since journal (c ∷ []) inside_since) ∙ list_any-snoc (λ (d : Commit). same_name d.by q && any_touches d.writes k) (drop since journal) c))
    where
      moved : (m a b f : Bool) → (m ≡ true → a ≡ f) → (a || b) ≡ (cond m false a || ((m && f) || b))
      moved true a b f same = ap (λ t. t || b) (same refl)
      moved false a b f same = refl

  -- COMMIT: the row itself stays as it is
  pub row_commit : IsRow kind (journal ++ c ∷ []) own' touching' k cut since keeper vs
  row_commit = record {
    only = λ q has. by_name q c.by
        (λ me. absurd (true≢false (sym has ∙ ap (λ x. any_writes kind (own' x) k) me ∙ ap (λ ws. any_writes kind ws k) left)))
        (λ e. row.only q (sym (ap (λ ws. any_writes kind ws k) (others q e)) ∙ has));
    pairs = row.pairs ∙ same_layer;
    oldest = row.oldest ∙ ap (λ g. value_at g k) (sym (graph_at-append kind journal (c ∷ []) cut inside));
    touched = same_touches;
  }

-- ---- pruning at a horizon

-- whoever touches the row by a commit of a list is seen as its commits are
touched_name : (seen : TxnName → Bool) (v : Bool) (cs : List Commit) (q : TxnName) (k : Key) → ((i : ℕ) (c : Commit) → slice_get cs i ≡ Some c → seen c.by ≡ v) → touched_in cs q k ≡ true → seen q ≡ v
touched_name seen v [] q k each has = cc
touched_name seen v (c ∷ cs) q k each has =
    elim (same_name c.by q) as (λ t. same_name c.by q ≡ t → (t && any_touches c.writes k) || touched_in cs q k ≡ true → seen q ≡ v) [
      | true ↦ λ e h. ap seen (sym (name_eq c.by q e)) ∙ each 0 c refl
      | false ↦ λ e h. touched_name seen v cs q k (λ i d at. each (suc i) d at) h
    ] refl has

-- of the touches of the open ones, of the commits up to the horizon and of those behind it the second go
pruned_has : (seen a f b t : Bool) → t ≡ (a || (f || b)) → (a ≡ true → seen ≡ false) → (f ≡ true → seen ≡ true) → (b ≡ true → seen ≡ false) → (not seen && t) ≡ (a || b)
pruned_has true true f b t e x y z = absurd (true≢false (x refl))
pruned_has true false f true t e x y z = absurd (true≢false (z refl))
pruned_has true false f false t e x y z = refl
pruned_has false true f b t e x y z = e
pruned_has false false true b t e x y z = absurd (true≢false (sym (y refl)))
pruned_has false false false b t e x y z = e

module _ (kind : Kind) (journal : List Commit) (own : TxnName → List Write) (touching : TxnName → Key → Bool) (k : Key) (cut since : ℕ) (keeper : TxnName) (vs : Versions) (row : IsRow kind journal own touching k cut since keeper vs)
    (stamps : TxnName → Option ℕ) (horizon : ℕ)
    (yes : (i : ℕ) (c : Commit) → slice_get journal i ≡ Some c → i < horizon → is_settled stamps horizon c.by ≡ true)
    (no : (i : ℕ) (c : Commit) → slice_get journal i ≡ Some c → horizon ≤ i → is_settled stamps horizon c.by ≡ false)
    (pending : (q : TxnName) → (own q ≡ []) ⊎ (is_settled stamps horizon q ≡ false))
    (marking : (q : TxnName) → touching q k ≡ true → is_settled stamps horizon q ≡ false) where
  seen : TxnName → Bool
  seen = is_settled stamps horizon

  module _ (from : ℕ) where
    -- the commits from a cut on, up to the horizon and behind it
    front : List Commit
    front = take (horizon - from) (drop from journal)

    back : List Commit
    back = drop (from + (horizon - from)) journal

    front_on : (i : ℕ) (c : Commit) → slice_get front i ≡ Some c → seen c.by ≡ true
    unfolding seen front
    front_on i c at = let t = get_take (horizon - from) (drop from journal) i c at in yes (from + i) c (get_drop from journal i c t.1) (omega (arith, t.0))

    back_off : (i : ℕ) (c : Commit) → slice_get back i ≡ Some c → seen c.by ≡ false
    unfolding seen back
    back_off i c at = no (from + (horizon - from) + i) c (get_drop (from + (horizon - from)) journal i c at) (omega arith)

    split : drop from journal ≡ front ++ back
    unfolding front back
    split = drop_cut from (horizon - from) journal

  -- PRUNE: what is left of the pairs is what the commits behind the new cut have laid, and the keeper
  pub pairs_pruned : unseen_front (is_settled stamps horizon) vs.pairs ≡ layered kind k keeper (own keeper) (layered_all kind k (drop (cut + (horizon - cut)) journal) [])
  unfolding seen back
  pairs_pruned = ap (unseen_front seen) row.pairs
      ∙ (elim (pending keeper) as (λ _. unseen_front seen (layered kind k keeper (own keeper) all) ≡ layered kind k keeper (own keeper) (unseen_front seen all)) [
        | inl none ↦ ap (λ ws. unseen_front seen (layered kind k keeper ws all)) none ∙ ap (λ ws. layered kind k keeper ws (unseen_front seen all)) (sym none)
        | inr none ↦ front_unseen kind k seen keeper (own keeper) all none
      ])
      ∙ ap (layered kind k keeper (own keeper))
      (ap (λ cs. unseen_front seen (layered_all kind k cs [])) (split cut)
      ∙ ap (unseen_front seen) (layered_all-append kind k (front cut) (back cut) [])
      ∙ front_unseen_all kind k seen (back cut) (layered_all kind k (front cut) []) (back_off cut)
      ∙ ap (layered_all kind k (back cut)) (front_seen_all kind k seen (front cut) [] (front_on cut) refl))
    where
      all : List Version
      all = layered_all kind k (drop cut journal) []

  -- the oldest value is the graph's at the new cut
  pub oldest_pruned : first_seen (is_settled stamps horizon) vs.pairs vs.oldest ≡ value_at (graph_at kind journal (cut + (horizon - cut))) k
  unfolding seen
  oldest_pruned = (λ i. first_seen seen (row.pairs i) (row.oldest i))
      ∙ (elim (pending keeper) as (λ _. first_seen seen (layered kind k keeper (own keeper) all) old ≡ first_seen seen all old) [
        | inl none ↦ ap (λ ws. first_seen seen (layered kind k keeper ws all) old) none
        | inr none ↦ unseen_layer kind k seen old keeper (own keeper) all none
      ])
      ∙ committed_value kind journal seen cut (cut + (horizon - cut)) (λ i c at from lt. yes i c at (omega (arith, from, lt))) (λ i c at past. no i c at (omega (arith, past))) k (omega arith)
    where
      all : List Version
      all = layered_all kind k (drop cut journal) []

      old : Option ℕ
      old = value_at (graph_at kind journal cut) k

  -- and the touches are those of the commits behind it, and of the open ones
  pub touches_pruned : (q : TxnName) → has_name (filter (λ by. not (is_settled stamps horizon by)) vs.touches) q ≡ (touching q k || touched_in (drop (since + (horizon - since)) journal) q k)
  unfolding seen back
  touches_pruned q = filter-has (λ x. not (seen x)) vs.touches q
      ∙ pruned_has (seen q) (touching q k) (touched_in (front since) q k) (touched_in (back since) q k) _
      (row.touched q ∙ ap (λ t. touching q k || t) (ap (λ cs. touched_in cs q k) (split since) ∙ list_any-append (λ (d : Commit). same_name d.by q && any_touches d.writes k) (front since) (back since)))
      (marking q) (touched_name seen true (front since) q k (front_on since)) (touched_name seen false (back since) q k (back_off since))
