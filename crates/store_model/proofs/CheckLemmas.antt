-- What the writers that a write looks at say of the transactions that it clashes with.
use Rattle.std.proofs.Common.{◌≡◌, ℕ, ◌+◌, ◌-◌, ◌<◌, ◌≤◌, List, [], ◌∷◌, ◌++◌, map, drop, refl, sym, ◌∙◌, ap, subst, arith, inl, inr}
use Rattle.std.specs.Prelude.{◌⊎◌, Bool, true, false, ◌||◌, slice_get, Option, Some}
use Rattle.std.proofs.Math.Bool.{and-true, or-false}
use Rattle.std.proofs.lemmas.Bool.{or_left, or_right, true≢false, false_from_ne_true}
use Rattle.std.proofs.lemmas.List.Folds.{list_any-append}
use Rattle.graph_model.specs.declared.write.Kind.{Kind}
use Rattle.graph_model.specs.declared.write.Write.{Write}
use Rattle.graph_model.specs.declared.write.Write.TheVariants.{AddVertex, DropVertex, AddEdge, SetEdge, DropEdge}
use Rattle.graph_model.specs.declared.row.Key.{Key}
use Rattle.graph_model.specs.declared.journal.Commit.{Commit}
use Rattle.graph_model.specs.declared.journal.TxnName.{TxnName}
use Rattle.graph_model.specs.Conflict.{same_name, meets}
use Rattle.graph_model.specs.Effects.{any_writes, any_touches}
use Rattle.graph_model.specs.Rows.{vertex_key, arc_key}
use Rattle.graph_model.specs.Transactions.{Running, stamp_in, has_name, HasNotCommitted}
use Rattle.graph_model.proofs.TestLemmas.{name_eq, either_of}
use Rattle.graph_model.proofs.PlaceLemmas.{get_drop, get_in_drop}
use Rattle.graph_model.proofs.StampLemmas.{stamp_at}
use Rattle.store_model.specs.declared.version.Version.{Version}
use Rattle.store_model.specs.declared.versions.Versions.{Versions}
use Rattle.store_model.specs.Layers.{row_key, layered, layered_all}
use Rattle.store_model.specs.Store.{IsStore}
use Rattle.store_model.specs.Check.{writers, newest, no_value, droppers, looked, IsCommitted, IsReached}
use Rattle.store_model.proofs.LayerLemmas.{layered_none}
use Rattle.store_model.proofs.MeetLemmas.{any_leaves, met, meets_is_met, row_clash}
use Rattle.store_model.proofs.WriterLemmas.{committed_in, committed_none, committed_at, at_committed, marked, left_in, marked_row, has-filtered, any, all_leave, heads, head_marked, head_layered, last_writer}

pub has-append : (xs ys : List TxnName) (n : TxnName) → has_name (xs ++ ys) n ≡ (has_name xs n || has_name ys n)
has-append xs ys n = list_any-append (same_name n) xs ys

-- whoever is in a list of two parts is in one of them
pub in_either : (xs ys : List TxnName) (n : TxnName) → has_name (xs ++ ys) n ≡ true → (has_name xs n ≡ true) ⊎ (has_name ys n ≡ true)
in_either xs ys n h = either_of (has_name xs n) (has_name ys n) (sym (has-append xs ys n) ∙ h)

has-writers : (ps : List Version) (n : TxnName) → has_name (map (λ p. p.by) ps) n ≡ marked any ps n
has-writers [] n = refl
has-writers (p ∷ ps) n = λ i. sym (and-true (same_name n p.by)) i || has-writers ps n i

-- ---- commits that pass a test

pub passes : (cs : List Commit) (n : TxnName) (p q : List Write → Bool) → ((ws : List Write) → p ws ≡ true → q ws ≡ true) → IsCommitted cs n p → IsCommitted cs n q
passes cs n p q more r = record { place = r.place; commit = r.commit; at = r.at; named = r.named; wrote = more r.commit.writes r.wrote }

behind : (cs : List Commit) (from : ℕ) (n : TxnName) (p : List Write → Bool) → IsCommitted (drop from cs) n p → IsCommitted cs n p
behind cs from n p r = record { place = from + r.place; commit = r.commit; at = get_drop from cs r.place r.commit r.at; named = r.named; wrote = r.wrote }

module _ (kind : Kind) (journal : List Commit) (running : TxnName → Option Running) (own : TxnName → List Write) (touching : TxnName → Key → Bool) (horizon : ℕ) (contents : Key → Versions) (is : IsStore kind journal running own touching horizon contents) where
  marked_at : (f : Option ℕ → Bool) (k : Key) (n : TxnName) → marked f (contents k).pairs n ≡ (any_leaves kind f (own n) k || left_in kind f (drop (is.rows k).cut journal) n k)
  marked_at f k n = let r = is.rows k in marked_row kind k f n journal own touching r.cut r.since r.keeper (contents k) r.row

  -- whoever has a pair in a row has laid a write of it, or has committed one
  pub writer_of : (n : TxnName) (k : Key) → has_name (writers (contents k)) n ≡ true → (any_writes kind (own n) k ≡ true) ⊎ IsCommitted journal n (λ ws. any_writes kind ws k)
  writer_of n k h = elim (either_of (any_leaves kind any (own n) k) (left_in kind any (drop (is.rows k).cut journal) n k) (sym (marked_at any k n) ∙ sym (has-writers (contents k).pairs n) ∙ h)) as (λ _. (any_writes kind (own n) k ≡ true) ⊎ IsCommitted journal n (λ ws. any_writes kind ws k)) [
    | inl e ↦ inl (sym (all_leave kind (own n) k) ∙ e)
    | inr e ↦ inr (passes journal n _ _ (λ ws l. sym (all_leave kind ws k) ∙ l) (behind journal (is.rows k).cut n _ (committed_at _ (drop (is.rows k).cut journal) n e)))
  ]

  -- whoever has a touch in a row touches it, or has committed a write that does
  pub toucher_of : (n : TxnName) (k : Key) → has_name (contents k).touches n ≡ true → (touching n k ≡ true) ⊎ IsCommitted journal n (λ ws. any_touches ws k)
  toucher_of n k h = let r = is.rows k in elim (either_of (touching n k) (committed_in (λ ws. any_touches ws k) (drop r.since journal) n) (sym (r.row.touched n) ∙ h)) as (λ _. (touching n k ≡ true) ⊎ IsCommitted journal n (λ ws. any_touches ws k)) [
    | inl e ↦ inl e
    | inr e ↦ inr (behind journal r.since n _ (committed_at _ (drop r.since journal) n e))
  ]

  -- ---- one that has not committed

  module _ (n : TxnName) (unnamed : HasNotCommitted journal n) where
    not_behind : (from : ℕ) (p : List Write → Bool) → committed_in p (drop from journal) n ≡ false
    not_behind from p = committed_none p (drop from journal) n (λ i c at. unnamed (from + i) c (get_drop from journal i c at))

    marked_open : (f : Option ℕ → Bool) (k : Key) → marked f (contents k).pairs n ≡ any_leaves kind f (own n) k
    marked_open f k = marked_at f k n ∙ ap (λ t. any_leaves kind f (own n) k || t) (not_behind (is.rows k).cut (λ ws. any_leaves kind f ws k)) ∙ or-false _

    -- has the newest pair of each row of which it has laid a write, and of no other
    pub newest_open : (k : Key) → has_name (newest (contents k)) n ≡ any_writes kind (own n) k
    newest_open k = elim (any_writes kind (own n) k) as (λ t. any_writes kind (own n) k ≡ t → has_name (newest (contents k)) n ≡ t) [
      | true ↦ λ e.
          subst (λ ps. heads ps n) (sym ((is.rows k).row.pairs ∙ ap (λ q. layered kind k q (own q) (layered_all kind k (drop (is.rows k).cut journal) [])) (sym ((is.rows k).row.only n e))))
          (head_layered kind k n (own n) _ e)
      | false ↦ λ e. false_from_ne_true _ (λ h. true≢false (sym (head_marked (contents k).pairs n h) ∙ marked_open any k ∙ all_leave kind (own n) k ∙ e))
    ] refl

    module _ (marks : (k : Key) → touching n k ≡ any_touches (own n) k) where
      touched_open : (k : Key) → has_name (contents k).touches n ≡ any_touches (own n) k
      touched_open k = (is.rows k).row.touched n ∙ (λ i. marks k i || not_behind (is.rows k).since (λ ws. any_touches ws k) i) ∙ or-false _

      looked_met : (w : Write) → has_name (looked w contents) n ≡ met kind w (own n)
      looked_met (AddVertex v) = newest_open (vertex_key v)
      looked_met (DropVertex v) = has-append (newest (contents (vertex_key v))) (contents (vertex_key v)).touches n ∙ (λ i. newest_open (vertex_key v) i || touched_open (vertex_key v) i)
      looked_met (AddEdge u v weight) =
          has-append (newest (contents (arc_key u v))) _ n
          ∙ ap (λ t. has_name (newest (contents (arc_key u v))) n || t) (has-append (droppers (contents (vertex_key u))) (droppers (contents (vertex_key v))) n)
          ∙ (λ i. newest_open (arc_key u v) i || (dropped_open (vertex_key u) i || dropped_open (vertex_key v) i))
        where
          dropped_open : (k : Key) → has_name (droppers (contents k)) n ≡ any_leaves kind no_value (own n) k
          dropped_open k = has-filtered no_value (contents k).pairs n ∙ marked_open no_value k
      looked_met (SetEdge u v weight) = newest_open (arc_key u v)
      looked_met (DropEdge u v) = newest_open (arc_key u v)

      -- OPEN: a write meets it exactly where it clashes with what it has laid
      pub looked_open : (w : Write) → has_name (looked w contents) n ≡ meets kind w (own n)
      looked_open w = looked_met w ∙ sym (meets_is_met kind w (own n))

  -- ---- one that has nothing laid beside its commit

  module _ (n : TxnName) (idle : own n ≡ []) (unmarked : (k : Key) → touching n k ≡ false) where
    marked_by : (f : Option ℕ → Bool) (k : Key) → marked f (contents k).pairs n ≡ true → IsCommitted journal n (λ ws. any_leaves kind f ws k)
    marked_by f k h = behind journal (is.rows k).cut n _ (committed_at _ (drop (is.rows k).cut journal) n
        (ap (λ ws. any_leaves kind f ws k || left_in kind f (drop (is.rows k).cut journal) n k) (sym idle) ∙ sym (marked_at f k n) ∙ h))

    newest_by : (k : Key) → has_name (newest (contents k)) n ≡ true → IsCommitted journal n (λ ws. any_writes kind ws k)
    newest_by k h = passes journal n _ _ (λ ws l. sym (all_leave kind ws k) ∙ l) (marked_by any k (head_marked (contents k).pairs n h))

    dropped_by : (k : Key) → has_name (droppers (contents k)) n ≡ true → IsCommitted journal n (λ ws. any_leaves kind no_value ws k)
    dropped_by k h = marked_by no_value k (sym (has-filtered no_value (contents k).pairs n) ∙ h)

    touched_by : (k : Key) → has_name (contents k).touches n ≡ true → IsCommitted journal n (λ ws. any_touches ws k)
    touched_by k h = elim (toucher_of n k h) as (λ _. IsCommitted journal n (λ ws. any_touches ws k)) [
      | inl e ↦ absurd (true≢false (sym e ∙ unmarked k))
      | inr c ↦ c
    ]

    met_by : (w : Write) → has_name (looked w contents) n ≡ true → IsCommitted journal n (met kind w)
    met_by (AddVertex v) h = newest_by (vertex_key v) h
    met_by (DropVertex v) h = elim (in_either (newest (contents (vertex_key v))) (contents (vertex_key v)).touches n h) as (λ _. IsCommitted journal n (met kind (DropVertex v))) [
      | inl e ↦ passes journal n _ _ (λ ws l. or_left _ _ l) (newest_by (vertex_key v) e)
      | inr e ↦ passes journal n _ _ (λ ws l. or_right _ _ l) (touched_by (vertex_key v) e)
    ]
    met_by (AddEdge u v weight) h = elim (in_either (newest (contents (arc_key u v))) _ n h) as (λ _. IsCommitted journal n (met kind (AddEdge u v weight))) [
      | inl e ↦ passes journal n _ _ (λ ws l. or_left _ _ l) (newest_by (arc_key u v) e)
      | inr e ↦ elim (in_either (droppers (contents (vertex_key u))) (droppers (contents (vertex_key v))) n e) as (λ _. IsCommitted journal n (met kind (AddEdge u v weight))) [
        | inl f ↦ passes journal n _ _ (λ ws l. or_right _ _ (or_left _ _ l)) (dropped_by (vertex_key u) f)
        | inr f ↦ passes journal n _ _ (λ ws l. or_right _ _ (or_right _ _ l)) (dropped_by (vertex_key v) f)
      ]
    ]
    met_by (SetEdge u v weight) h = newest_by (arc_key u v) h
    met_by (DropEdge u v) h = newest_by (arc_key u v) h

    -- COMMITTED: where a write looks at it, it has committed a write that clashes
    pub looked_committed : (w : Write) → has_name (looked w contents) n ≡ true → IsCommitted journal n (meets kind w)
    looked_committed w h = passes journal n _ _ (λ ws l. meets_is_met kind w ws ∙ l) (met_by w h)

  -- ---- a commit behind the start of an open transaction, where no other has laid the row of its write

  module _ (by : TxnName) (t : Running) (there : running by ≡ Some t) (w : Write)
      (clear : (n : TxnName) → same_name n by ≡ false → any_writes kind (own n) (row_key w) ≡ false)
      (i : ℕ) (d : Commit) (at : slice_get journal i ≡ Some d) (late : t.start < d.stamp) where
    -- it stands behind each cut
    place : (from : ℕ) → from ≤ horizon → slice_get (drop from journal) (i - from) ≡ Some d
    place from le =
        let stamp : d.stamp ≡ i + 1 = (is.transactions.legal.each i d at).stamped in
        let pinned : horizon ≤ t.start = (is.transactions.each by t there).pinned in
        let sum : from + (i - from) ≡ i = omega (arith, le, late, pinned, stamp) in
        get_in_drop from journal (i - from) d (ap (slice_get journal) sum ∙ at)

    here : stamp_in journal d.by ≡ Some d.stamp
    here = stamp_at journal is.transactions.legal.names i d at

    abbrev Met : List TxnName → Type 0
    Met names = IsReached journal names d.stamp

    -- nobody has laid anything on it at the write's row
    unheld : any_writes kind d.writes (row_key w) ≡ true → any_writes kind (own (is.rows (row_key w)).keeper) (row_key w) ≡ false
    unheld has = elim (same_name (is.rows (row_key w)).keeper by) as (λ s. same_name (is.rows (row_key w)).keeper by ≡ s → any_writes kind (own (is.rows (row_key w)).keeper) (row_key w) ≡ false) [
      | true ↦ λ e. ap (λ q. any_writes kind (own q) (row_key w)) (name_eq _ by e) ∙ ap (λ ws. any_writes kind ws (row_key w)) (is.laid by t there)
          ∙ false_from_ne_true _ (λ h. true≢false (sym (row_clash kind d.writes t.writes (row_key w) has h) ∙ (is.transactions.each by t there).before i d at late))
      | false ↦ λ e. clear _ e
    ] refl

    newest_met : any_writes kind d.writes (row_key w) ≡ true → Met (newest (contents (row_key w)))
    newest_met has =
        let k = row_key w in
        let cut = (is.rows k).cut in
        let base = layered_all kind k (drop cut journal) [] in
        let r = last_writer kind k (drop cut journal) [] (i - cut) d (place cut (is.rows k).below) has in
        let found = get_drop cut journal r.0 r.1 r.3 in
        let mine : d.stamp ≡ i + 1 = (is.transactions.legal.each i d at).stamped in
        let its : (r.1).stamp ≡ cut + r.0 + 1 = (is.transactions.legal.each (cut + r.0) r.1 found).stamped in
        record {
          name = (r.1).by;
          stamp = (r.1).stamp;
          found = subst (λ ps. heads ps (r.1).by) (sym ((is.rows k).row.pairs ∙ layered_none kind k (is.rows k).keeper (own (is.rows k).keeper) base (unheld has))) r.4;
          stamped = stamp_at journal is.transactions.legal.names (cut + r.0) r.1 found;
          late = omega (arith, mine, its, r.2);
        }

    dropped_met : (k : Key) → any_leaves kind no_value d.writes k ≡ true → Met (droppers (contents k))
    dropped_met k has = record {
      name = d.by;
      stamp = d.stamp;
      found = has-filtered no_value (contents k).pairs d.by ∙ marked_at no_value k d.by
          ∙ or_right _ _ (at_committed (λ ws. any_leaves kind no_value ws k) (drop (is.rows k).cut journal) (i - (is.rows k).cut) d (place (is.rows k).cut (is.rows k).below) has);
      stamped = here;
      late = omega arith;
    }

    touched_met : (k : Key) → any_touches d.writes k ≡ true → Met (contents k).touches
    touched_met k has = record {
      name = d.by;
      stamp = d.stamp;
      found = (is.rows k).row.touched d.by ∙ or_right _ _ (at_committed (λ ws. any_touches ws k) (drop (is.rows k).since journal) (i - (is.rows k).since) d (place (is.rows k).since (is.rows k).below_since) has);
      stamped = here;
      late = omega arith;
    }

    in_first : (xs ys : List TxnName) → Met xs → Met (xs ++ ys)
    in_first xs ys m = record { name = m.name; stamp = m.stamp; found = has-append xs ys m.name ∙ or_left _ _ m.found; stamped = m.stamped; late = m.late }

    in_second : (xs ys : List TxnName) → Met ys → Met (xs ++ ys)
    in_second xs ys m = record { name = m.name; stamp = m.stamp; found = has-append xs ys m.name ∙ or_right _ _ m.found; stamped = m.stamped; late = m.late }

  met_late : (by : TxnName) (t : Running) → running by ≡ Some t → (w : Write) → ((n : TxnName) → same_name n by ≡ false → any_writes kind (own n) (row_key w) ≡ false)
      → (i : ℕ) (d : Commit) → slice_get journal i ≡ Some d → t.start < d.stamp → met kind w d.writes ≡ true → IsReached journal (looked w contents) d.stamp
  met_late by t there (AddVertex v) clear i d at late h = newest_met by t there (AddVertex v) clear i d at late h
  met_late by t there (DropVertex v) clear i d at late h = elim (either_of (any_writes kind d.writes (vertex_key v)) (any_touches d.writes (vertex_key v)) h) as (λ _. IsReached journal (looked (DropVertex v) contents) d.stamp) [
    | inl e ↦ in_first by t there (DropVertex v) clear i d at late _ _ (newest_met by t there (DropVertex v) clear i d at late e)
    | inr e ↦ in_second by t there (DropVertex v) clear i d at late (newest (contents (vertex_key v))) _ (touched_met by t there (DropVertex v) clear i d at late (vertex_key v) e)
  ]
  met_late by t there (AddEdge u v weight) clear i d at late h = elim (either_of (any_writes kind d.writes (arc_key u v)) _ h) as (λ _. IsReached journal (looked (AddEdge u v weight) contents) d.stamp) [
    | inl e ↦ in_first by t there (AddEdge u v weight) clear i d at late _ _ (newest_met by t there (AddEdge u v weight) clear i d at late e)
    | inr e ↦ in_second by t there (AddEdge u v weight) clear i d at late (newest (contents (arc_key u v))) _ (elim (either_of (any_leaves kind no_value d.writes (vertex_key u)) (any_leaves kind no_value d.writes (vertex_key v)) e) as (λ _. IsReached journal (droppers (contents (vertex_key u)) ++ droppers (contents (vertex_key v))) d.stamp) [
      | inl f ↦ in_first by t there (AddEdge u v weight) clear i d at late _ _ (dropped_met by t there (AddEdge u v weight) clear i d at late (vertex_key u) f)
      | inr f ↦ in_second by t there (AddEdge u v weight) clear i d at late (droppers (contents (vertex_key u))) _ (dropped_met by t there (AddEdge u v weight) clear i d at late (vertex_key v) f)
    ])
  ]
  met_late by t there (SetEdge u v weight) clear i d at late h = newest_met by t there (SetEdge u v weight) clear i d at late h
  met_late by t there (DropEdge u v) clear i d at late h = newest_met by t there (DropEdge u v) clear i d at late h

  -- LATE: where a commit behind the start clashes, a write looks at a commit at least as late
  pub looked_late : (by : TxnName) (t : Running) → running by ≡ Some t → (w : Write) → ((n : TxnName) → same_name n by ≡ false → any_writes kind (own n) (row_key w) ≡ false)
      → (i : ℕ) (d : Commit) → slice_get journal i ≡ Some d → t.start < d.stamp → meets kind w d.writes ≡ true → IsReached journal (looked w contents) d.stamp
  looked_late by t there w clear i d at late h = met_late by t there w clear i d at late (sym (meets_is_met kind w d.writes) ∙ h)
