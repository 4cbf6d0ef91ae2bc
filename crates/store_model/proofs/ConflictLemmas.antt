-- THE CHECK of one owner: it answers exactly the cause of a conflict, and where it answers none the write meets nobody.
use Rattle.std.proofs.Common.{◌≡◌, ℕ, ◌<◌, List, [], map, refl, sym, ◌∙◌, ap, subst, arith, inl, inr}
use Rattle.std.specs.Prelude.{Bool, true, false, ◌&&◌, not, nat_lt, Option, Some, None, is_some}
use Rattle.std.specs.List.{filter}
use Rattle.std.proofs.lemmas.Bool.{true≢false, false_from_ne_true}
use Rattle.std.proofs.lemmas.Bool.Decides.{nat_tests}
use Rattle.graph_model.specs.declared.write.Kind.{Kind}
use Rattle.graph_model.specs.declared.write.Write.{Write}
use Rattle.graph_model.specs.declared.row.Key.{Key}
use Rattle.graph_model.specs.declared.journal.Commit.{Commit}
use Rattle.graph_model.specs.declared.journal.TxnName.{TxnName}
use Rattle.graph_model.specs.Conflict.{OpenTxn, same_name, meets, least_job, holder, later, greatest, cause_of, conflict}
use Rattle.graph_model.specs.Effects.{any_writes}
use Rattle.graph_model.specs.Transactions.{Running, stamp_in, writes_of_running, own_of, has_name, MeetsNoHolder, IsListed}
use Rattle.graph_model.proofs.TestLemmas.{both_of}
use Rattle.graph_model.proofs.ClashLemmas.{apart_rows}
use Rattle.graph_model.proofs.PlaceLemmas.{some_eq}
use Rattle.graph_model.proofs.ConflictLemmas.{greatest_none, in_filtered, filtered_in, no_cause}
use Rattle.graph_model.proofs.PickLemmas.{name_at, at_name, not_least, least_same, greatest_same}
use Rattle.graph_model.proofs.StampLemmas.{stamp_at}
use Rattle.store_model.specs.declared.versions.Versions.{Versions}
use Rattle.store_model.specs.Layers.{row_key}
use Rattle.store_model.specs.Store.{touching_of, IsPlainStore, MeetsNobody}
use Rattle.store_model.specs.Check.{looked, above, check}
use Rattle.store_model.proofs.VersionLemmas.{filter-has}
use Rattle.store_model.proofs.ValueLemmas.{no_stamp}
use Rattle.store_model.proofs.MeetLemmas.{row_key-written}
use Rattle.store_model.proofs.CombineLemmas.{above_in, in_above}
use Rattle.store_model.proofs.CheckLemmas.{looked_open, looked_committed, looked_late}

same_by : (a b : Bool) → (a ≡ true → b ≡ true) → (b ≡ true → a ≡ true) → a ≡ b
same_by true true f g = refl
same_by true false f g = sym (f refl)
same_by false true f g = g refl
same_by false false f g = refl

both_true : (s t : Bool) → s ≡ true → t ≡ true → (s && t) ≡ true
both_true true t e f = f
both_true false t e f = e

module _ (kind : Kind) (journal : List Commit) (running : TxnName → Option Running) (horizon : ℕ) (contents : Key → Versions) (is : IsPlainStore kind journal running horizon contents)
    (by : TxnName) (t : Running) (there : running by ≡ Some t) (w : Write) where
  abbrev names : List TxnName
  names = looked w contents

  abbrev live : List TxnName
  live = filter (λ n. not (same_name n by) && is_some (running n)) names

  -- another open transaction is met exactly where it clashes
  live_met : (n : TxnName) (u : Running) → running n ≡ Some u → has_name live n ≡ (not (same_name n by) && meets kind w u.writes)
  live_met n u at =
      filter-has (λ m. not (same_name m by) && is_some (running m)) names n
      ∙ ap (λ r. (not (same_name n by) && is_some r) && has_name names n) at
      ∙ ap (λ s. (not (same_name n by) && true) && s) (looked_open kind journal running (own_of running) (touching_of running) horizon contents is n (is.transactions.each n u at).unnamed (λ k. refl) w ∙ ap (λ r. meets kind w (writes_of_running r)) at)
      ∙ drop_true (not (same_name n by)) (meets kind w u.writes)
    where
      drop_true : (s m : Bool) → ((s && true) && m) ≡ (s && m)
      drop_true true m = refl
      drop_true false m = refl

  not_live : (n : TxnName) → running n ≡ None → has_name live n ≡ false
  not_live n none = filter-has (λ m. not (same_name m by) && is_some (running m)) names n ∙ ap (λ r. (not (same_name n by) && is_some r) && has_name names n) none ∙ off (not (same_name n by)) (has_name names n)
    where
      off : (s m : Bool) → ((s && false) && m) ≡ false
      off true m = refl
      off false m = refl

  -- where none is met, none clashes
  no_holder : least_job live ≡ None → MeetsNoHolder kind running by w
  no_holder none n away = elim (running n) as (λ r. running n ≡ r → meets kind w (writes_of_running r) ≡ false) [
    | None ↦ λ e. refl
    | Some u ↦ λ e. sym (ap (λ s. not s && meets kind w u.writes) away) ∙ sym (live_met n u e) ∙ false_from_ne_true _ (not_least live none n)
  ] refl

  clear_of : least_job live ≡ None → (n : TxnName) → same_name n by ≡ false → any_writes kind (own_of running n) (row_key w) ≡ false
  clear_of none n away = apart_rows kind w (own_of running n) (row_key w) (no_holder none n away) (row_key-written kind w)

  -- whoever has a stamp has nothing laid beside its commit
  idle_of : (n : TxnName) (c : ℕ) → stamp_in journal n ≡ Some c → (own_of running n ≡ []) × ((k : Key) → touching_of running n k ≡ false)
  idle_of n c stamped = elim (no_stamp kind journal running (own_of running) (touching_of running) horizon contents is n) as (λ _. (own_of running n ≡ []) × ((k : Key) → touching_of running n k ≡ false)) [
    | inl e ↦ e
    | inr e ↦ let none : ◌≡◌ {A = Option ℕ} None (Some c) = sym e ∙ stamped in cc
  ]

  -- where no open transaction is met, the greatest stamps are one: those met above the start and those of the later commits that clash
  greatest_later : least_job live ≡ None → greatest (above (stamp_in journal) t.start names) ≡ greatest (later kind journal t.start w)
  greatest_later none = greatest_same (above (stamp_in journal) t.start names) (later kind journal t.start w)
      (λ i c at.
      let r = above_in (stamp_in journal) t.start names i c at in
      let n = r.0 in
      let idle = idle_of n c r.2 in
      let s = looked_committed kind journal running (own_of running) (touching_of running) horizon contents is n idle.0 idle.1 w r.1 in
      let same : c ≡ s.commit.stamp = some_eq _ _ (sym r.2 ∙ ap (stamp_in journal) (sym s.named) ∙ stamp_at journal is.transactions.legal.names s.place s.commit s.at) in
      let past : t.start < s.commit.stamp = subst (λ x. t.start < x) same r.3 in
      let found = filtered_in (λ (d : Commit). d.stamp) (λ (d : Commit). nat_lt t.start d.stamp && meets kind w d.writes) journal s.place s.commit s.at
      (both_true _ _ (grind (arith, nat_tests)) s.wrote) in
      (found.0, found.1 ∙ ap Some (sym same)))
      (λ j y at.
      let r = in_filtered (λ (d : Commit). d.stamp) (λ (d : Commit). nat_lt t.start d.stamp && meets kind w d.writes) journal j y at in
      let tests = both_of (nat_lt t.start (r.1).stamp) (meets kind w (r.1).writes) r.3 in
      let past : t.start < (r.1).stamp = (let e : nat_lt t.start (r.1).stamp ≡ true = tests.0 in grind (arith, nat_tests)) in
      let m = looked_late kind journal running (own_of running) (touching_of running) horizon contents is by t there w (clear_of none) r.0 r.1 r.2 past tests.1 in
      let far : t.start < m.stamp = omega (arith, past, m.late) in
      let found = in_above (stamp_in journal) t.start names m.name m.stamp m.found m.stamped far in
      (found.0, m.stamp, found.1, omega (arith, m.late, r.4)))

  -- the open transactions with the least job are one, in whatever list they stand
  module _ (txns : List OpenTxn) (listed : IsListed txns running) where
    abbrev holders : List TxnName
    holders = map (λ x. x.by) (filter (λ (x : OpenTxn). not (same_name x.by by) && meets kind w x.writes) txns)

    same_members : (n : TxnName) → has_name live n ≡ has_name holders n
    same_members n = same_by (has_name live n) (has_name holders n)
        (λ h. elim (running n) as (λ r. running n ≡ r → has_name holders n ≡ true) [
          | None ↦ λ e. absurd (true≢false (sym h ∙ not_live n e))
          | Some u ↦ λ e.
              let place = listed.complete n u e in
              let found = filtered_in (λ (x : OpenTxn). x.by) (λ (x : OpenTxn). not (same_name x.by by) && meets kind w x.writes) txns place.0 (record { by = n; writes = u.writes }) place.1 (sym (live_met n u e) ∙ h) in
              at_name holders found.0 n found.1
        ] refl)
        (λ h.
        let place = name_at holders n h in
        let r = in_filtered (λ (x : OpenTxn). x.by) (λ (x : OpenTxn). not (same_name x.by by) && meets kind w x.writes) txns place.0 n place.1 in
        let s = listed.sound r.0 r.1 r.2 in
        let open_n : running n ≡ Some s.0 = ap running (sym r.4) ∙ s.1 in
        live_met n s.0 open_n ∙ (λ i. not (same_name (sym r.4 i) by) && meets kind w (s.2 i)) ∙ r.3)

    same_holder : least_job live ≡ holder kind txns by w
    same_holder = least_same live holders same_members (λ a b in_a in_b jobs.
        elim (running a) as (λ r. running a ≡ r → a ≡ b) [
          | None ↦ λ e. absurd (true≢false (sym in_a ∙ not_live a e))
          | Some u ↦ λ e. elim (running b) as (λ r. running b ≡ r → a ≡ b) [
            | None ↦ λ f. absurd (true≢false (sym in_b ∙ not_live b f))
            | Some v ↦ λ f. listed.jobs a b u v e f jobs
          ] refl
        ] refl)

    -- CONFLICT: the check answers what the definition answers for all transactions and the journal
    pub check_is_conflict : check (λ n. is_some (running n)) (stamp_in journal) t.start by (looked w contents) ≡ conflict kind journal txns by t.start w
    check_is_conflict = by_holder (least_job live) refl
      where
        by_holder : (h : Option TxnName) → least_job live ≡ h → cause_of (least_job live) (greatest (above (stamp_in journal) t.start names)) ≡ cause_of (holder kind txns by w) (greatest (later kind journal t.start w))
        by_holder None e = (λ i. cause_of (same_holder i) (greatest_later e i))
        by_holder (Some n) e = ap (λ x. cause_of x (greatest (above (stamp_in journal) t.start names))) e ∙ sym (ap (λ x. cause_of x (greatest (later kind journal t.start w))) (sym same_holder ∙ e))

  -- ALLOWED: where it answers none, the write meets nobody
  pub check_allows : check (λ n. is_some (running n)) (stamp_in journal) t.start by (looked w contents) ≡ None → MeetsNobody kind journal running (own_of running) by t.start w
  check_allows e =
      let parts = no_cause (least_job live) (greatest (above (stamp_in journal) t.start names)) e in
      record {
        clear = clear_of parts.0;
        holder = no_holder parts.0;
        later = λ i c at late. false_from_ne_true _ (λ h.
            let past : nat_lt t.start c.stamp ≡ true = grind (arith, nat_tests) in
            let found = filtered_in (λ (d : Commit). d.stamp) (λ (d : Commit). nat_lt t.start d.stamp && meets kind w d.writes) journal i c at (both_true _ _ past h) in
            greatest_none (later kind journal t.start w) (sym (greatest_later parts.0) ∙ parts.1) found.0 c.stamp found.1);
      }
