-- Whom a write meets: what is noted of a conflict, and what is answered.
use Rattle.std.proofs.Common.{◌≡◌, ℕ, zero, suc, ◌+◌, ◌-◌, ◌<◌, ◌≤◌, List, [], ◌∷◌, length, map, refl, sym, ◌∙◌, ap, subst, cond, arith, inl, inr}
use Rattle.std.specs.Prelude.{Bool, true, false, ◌==◌, ◌&&◌, nat_lt, Some, slice_get, Contains}
use Rattle.std.specs.List.{filter}
use Rattle.std.proofs.lemmas.Bool.{or_left, true≢false}
use Rattle.std.proofs.lemmas.Bool.Decides.{nat_tests}
use Rattle.std.proofs.lemmas.List.Folds.{list_any-append}
use mathlib.Core.List.{IsPrefix}
use mathlib.Core.Logic.{dite}
use native.Mathlib.Decide.{dec_le}
use Rattle.graph_model.specs.declared.write.Kind.{Kind}
use Rattle.graph_model.specs.declared.write.Write.{Write}
use Rattle.graph_model.specs.declared.row.Key.{Key}
use Rattle.graph_model.specs.declared.journal.TxnName.{TxnName}
use Rattle.graph_model.specs.declared.journal.Commit.{Commit}
use Rattle.graph_model.specs.Conflict.{meets, later}
use Rattle.graph_model.specs.Effects.{any_touches}
use Rattle.graph_model.specs.Legal.{IsLegal}
use Rattle.graph_model.specs.Rows.{vertex_key}
use Rattle.graph_model.specs.Transactions.{stamp_in, reached, has_name}
use Rattle.graph_model.proofs.LegalLemmas.{get_front}
use Rattle.graph_model.proofs.PlaceLemmas.{some_eq}
use Rattle.graph_model.proofs.StampLemmas.{reached_at}
use Rattle.graph_model.proofs.TestLemmas.{eq_of}
use Rattle.txn_manager.specs.declared.config.Config.{Config}
use Rattle.store_model.specs.Check.{looked, droppers, drops_at, any_drops, IsCommitted}
use Rattle.store_model.specs.Stamped.{StampedVersions, forget_row}
use Rattle.store_relation.specs.declared.stage.Stage.{Stage}
use Rattle.store_relation.specs.declared.stage.Stage.TheVariants.{Idle, Open, Aborting, Committing}
use Rattle.store_relation.proofs.ListLemmas.{prefix_length, get_below}
use Rattle.store_relation.proofs.MadeLemmas.{latest_writes}
use Rattle.store_relation.proofs.CurrentLemmas.{stands_none, stands_own}
use Rattle.store_model.proofs.LookedLemmas.{looked_laid, dropped_vertex}
use Rattle.store_model.proofs.StampPlaceLemmas.{stamp_place}
use Rattle.store_relation.proofs.ReadLemmas.{seen_reached}
use Rattle.store_relation.proofs.StepLemmas.{refreshes}
use Rattle.store_relation.proofs.AccountLemmas.{meets_told}
use Rattle.store_relation.proofs.WordLemmas.{laid_front}
use Rattle.graph_model.specs.Passes.{revised}
use Rattle.store_relation.specs.Passes.{IsLaid, Meeting, PassState, is_active, laid_of, name_of, number_of, running_of, stands, touching_by, writes_by}
use Rattle.store_relation.specs.Shared.{IsMet, IsShared, IsSighted, JournalState, entries, longer_of}
use Rattle.store_relation.specs.Steps.{refreshed}

module _ {z : Config} {word : ℕ → ℕ} {pass : ℕ → PassState} {j : JournalState} {rows : Key → StampedVersions}
    {clock : ℕ} (s : IsShared z word pass j rows clock) where
  -- ---- what a name has laid it has made

  module _ (n : TxnName) where
    own_is : (n.number == number_of (pass n.job)) ≡ true → is_active (pass n.job).stage ≡ true
        → writes_by (pass n.job) n.number ≡ (pass n.job).own
    own_is e active =
        ap (writes_by (pass n.job)) (eq_of n.number (number_of (pass n.job)) e)
        ∙ latest_writes (pass n.job) active

    idle_laid : (stage : Stage) → is_active stage ≡ false → IsLaid stage (pass n.job).laid (pass n.job).own
        → (pass n.job).laid ≡ []
    idle_laid Idle e l = l.0
    idle_laid Open e l = cc
    idle_laid Aborting e l = cc
    idle_laid Committing e l = cc

    laid_made : IsPrefix (laid_of pass n) (writes_by (pass n.job) n.number)
    laid_made = by_name (n.number == number_of (pass n.job)) refl
      where
        by_active : (n.number == number_of (pass n.job)) ≡ true → (b : Bool) → is_active (pass n.job).stage ≡ b
            → IsPrefix (pass n.job).laid (writes_by (pass n.job) n.number)
        by_active e true a = subst (λ ws. IsPrefix (pass n.job).laid ws) (sym (own_is e a))
            (laid_front (pass n.job).stage (pass n.job).laid (pass n.job).own (s.each n.job).laid)
        by_active e false a = subst (λ l. IsPrefix l (writes_by (pass n.job) n.number))
            (sym (idle_laid (pass n.job).stage a (s.each n.job).laid)) (writes_by (pass n.job) n.number, refl)

        by_name : (t : Bool) → (n.number == number_of (pass n.job)) ≡ t
            → IsPrefix (cond t (pass n.job).laid []) (writes_by (pass n.job) n.number)
        by_name false e = (writes_by (pass n.job) n.number, refl)
        by_name true e = by_active e (is_active (pass n.job).stage) refl

    touched_made : (k : Key) → touching_by pass n k ≡ true
        → any_touches (writes_by (pass n.job) n.number) k ≡ true
    touched_made k = by_name (n.number == number_of (pass n.job)) refl
      where
        by_active : (n.number == number_of (pass n.job)) ≡ true
            → stands (pass n.job).laid (pass n.job).own k ≡ true
            → (b : Bool) → is_active (pass n.job).stage ≡ b
            → any_touches (writes_by (pass n.job) n.number) k ≡ true
        by_active e h true a = ap (λ ws. any_touches ws k) (own_is e a)
            ∙ stands_own (pass n.job).laid (pass n.job).own k h
        by_active e h false a = absurd (true≢false (sym h
            ∙ stands_none (pass n.job).laid (pass n.job).own k
            (idle_laid (pass n.job).stage a (s.each n.job).laid)))

        by_name : (t : Bool) → (n.number == number_of (pass n.job)) ≡ t
            → cond t (stands (pass n.job).laid (pass n.job).own k) false ≡ true
            → any_touches (writes_by (pass n.job) n.number) k ≡ true
        by_name false e h = cc
        by_name true e h = by_active e h (is_active (pass n.job).stage) refl

    -- what it has committed it has made, too
    committed_made : (test : List Write → Bool) → IsCommitted j.commits n test
        → test (writes_by (pass n.job) n.number) ≡ true
    committed_made test c =
        let made = s.made c.place c.commit (get_front j.commits j.next c.place c.commit c.at) in
        subst (λ ws. test ws ≡ true)
        (sym made.1 ∙ ap (λ (b : TxnName). writes_by (pass b.job) b.number) c.named) c.wrote

    -- whoever a write looks at has made a write that clashes
    pub looked_by : (w : Write) → has_name (looked w (λ k. forget_row (rows k))) n ≡ true
        → meets z.kind w (writes_by (pass n.job) n.number) ≡ true
    looked_by w h =
        elim (looked_laid z.kind j.commits (running_of pass) (laid_of pass) (touching_by pass) s.horizon
        (λ k. forget_row (rows k)) s.store n (writes_by (pass n.job) n.number) laid_made touched_made w h)
        as (λ _. meets z.kind w (writes_by (pass n.job) n.number) ≡ true) [
          | inl e ↦ e
          | inr c ↦ committed_made (meets z.kind w) c
        ]

    -- DROPPED: whoever left no value in the row of a vertex has removed the vertex
    pub dropper_removed : (v : ℕ) → has_name (droppers (forget_row (rows (vertex_key v)))) n ≡ true
        → any_drops (writes_by (pass n.job) n.number) (vertex_key v) ≡ true
    dropper_removed v h =
        elim (dropped_vertex z.kind j.commits (running_of pass) (laid_of pass) (touching_by pass) s.horizon
        (λ k. forget_row (rows k)) s.store n v h)
        as (λ _. any_drops (writes_by (pass n.job) n.number) (vertex_key v) ≡ true) [
          | inl e ↦
              ap (λ ws. any_drops ws (vertex_key v)) (sym laid_made.1)
              ∙ list_any-append (λ w. drops_at w (vertex_key v)) (laid_of pass n) laid_made.0 ∙ or_left _ _ e
          | inr c ↦ committed_made (λ ws. any_drops ws (vertex_key v)) c
        ]

  pub looked_made : (w : Write) (n : TxnName) → has_name (looked w (λ k. forget_row (rows k))) n ≡ true
      → meets z.kind w (writes_by (pass n.job) n.number) ≡ true
  looked_made w n h = looked_by n w h

  -- LATER: an entry by one at whom the write looks clashes
  pub meets_entry : (w : Write) (i : ℕ) (c : Commit) → slice_get (entries j) i ≡ Some c
      → has_name (looked w (λ k. forget_row (rows k))) c.by ≡ true
      → IsMet z.kind j (record { write = w; place = i })
  meets_entry w i c at h = (
    c,
    at,
    subst (λ ws. meets z.kind w ws ≡ true) (s.made i c at).1 (looked_made w c.by h),
  )

  -- by the word of a record without a stamp, and by the stamp of one that has it
  pub meets_word : (w : Write) (p n : ℕ) → word p ≡ n + 3
      → has_name (looked w (λ k. forget_row (rows k))) (name_of pass p) ≡ true
      → IsMet z.kind j (record { write = w; place = n })
  meets_word w p n is h = let r = s.entered p n is in
      meets_entry w n r.0 r.1 (ap (has_name (looked w (λ k. forget_row (rows k)))) r.2 ∙ h)

  pub meets_stamp : (w : Write) (by : TxnName) (d : ℕ) → stamp_in j.commits by ≡ Some d
      → has_name (looked w (λ k. forget_row (rows k))) by ≡ true
      → IsMet z.kind j (record { write = w; place = d - 1 })
  meets_stamp w by d is h =
      let r = stamp_place z.kind j.commits s.store.transactions.legal by d is in
      let stamp : d ≡ r.0 + 1 = r.4 in
      let place : r.0 ≡ d - 1 = omega (arith, stamp) in
      subst (λ i. IsMet z.kind j (record { write = w; place = i })) place
      (meets_entry w r.0 r.1 (get_front j.commits j.next r.0 r.1 r.2)
      (ap (has_name (looked w (λ k. forget_row (rows k)))) r.3 ∙ h))

  -- HOLDER: one at whom the write looks, and whom the snapshot doesn't see, is a cause of a conflict
  pub sights : (p : ℕ) (w : Write) (n : TxnName) → has_name (looked w (λ k. forget_row (rows k))) n ≡ true
      → reached (stamp_in (pass p).seen n) (pass p).start ≡ false
      → IsSighted z.kind pass j (record { by = n; write = w; start = (pass p).start })
  sights p w n h out =
      let b = (s.each p).started in
      let l = prefix_length (pass p).seen j.commits (s.each p).seen in
      record {
        made = looked_made w n h;
        behind = λ i c at named. dite (dec_le (pass p).start i) (λ le. le) (λ low.
            let here : slice_get j.commits i ≡ Some c =
            get_below j.commits j.next i c (omega (arith, low, b, l)) at in
            absurd (true≢false
            (sym (reached_at z.kind j.commits s.store.transactions.legal i c (pass p).start here
            (omega (arith, low))) ∙ ap (λ m. reached (stamp_in j.commits m) (pass p).start) named
            ∙ seen_reached s (pass p).seen (pass p).start (s.each p).seen (s.each p).started n ∙ out)));
        begun = omega (arith, b, l);
      }

-- ---- what is answered in the end

-- a later commit of what was seen, which clashes, is one of the later ones
pub later_has : (kind : Kind) (js : List Commit) (start : ℕ) (w : Write) (i : ℕ) (c : Commit)
    → slice_get js i ≡ Some c → start < c.stamp → meets kind w c.writes ≡ true
    → Contains (later kind js start w) c.stamp
later_has kind [] start w i c at lt h = cc
later_has kind (d ∷ js) start w zero c at lt h =
    let same : d ≡ c = some_eq d c at in
    let test : (nat_lt start d.stamp && meets kind w d.writes) ≡ true =
    (λ k. (let a : nat_lt start c.stamp ≡ true = grind (arith, nat_tests) in
    ap (λ (x : Commit). nat_lt start x.stamp) same ∙ a) k
    && (ap (λ (x : Commit). meets kind w x.writes) same ∙ h) k) in
    subst (λ t.
    Contains (map (λ (x : Commit). x.stamp)
    (cond t (d ∷ filter (λ (x : Commit). nat_lt start x.stamp && meets kind w x.writes) js)
    (filter (λ (x : Commit). nat_lt start x.stamp && meets kind w x.writes) js))) c.stamp) (sym test)
    (0, omega arith, ap (λ (x : Commit). x.stamp) same)
later_has kind (d ∷ js) start w (suc i) c at lt h =
    behind (nat_lt start d.stamp && meets kind w d.writes) (later_has kind js start w i c at lt h)
  where
    behind : (t : Bool)
        → Contains (map (λ (x : Commit). x.stamp)
        (filter (λ (x : Commit). nat_lt start x.stamp && meets kind w x.writes) js)) c.stamp
        → Contains (map (λ (x : Commit). x.stamp)
        (cond t (d ∷ filter (λ (x : Commit). nat_lt start x.stamp && meets kind w x.writes) js)
        (filter (λ (x : Commit). nat_lt start x.stamp && meets kind w x.writes) js))) c.stamp
    behind true r = let b : r.0 < length
        (map (λ (x : Commit). x.stamp) (filter (λ (x : Commit). nat_lt start x.stamp && meets kind w x.writes)
        js)) = r.1 in (suc r.0, omega (arith, b), r.2)
    behind false r = r

-- LATER, answered: what was met above the start, once the journal was seen so far
pub later_found : (kind : Kind) (j : JournalState) (m : Meeting) → IsMet kind j m → IsLegal kind j.commits
    → (start : ℕ) → start ≤ m.place → m.place < length j.commits
    → Contains (later kind j.commits start m.write) (m.place + 1)
later_found kind j m is legal start up low =
    let at : slice_get j.commits m.place ≡ Some is.0 = get_below j.commits j.next m.place is.0 low is.1 in
    let stamp : (is.0).stamp ≡ m.place + 1 = (legal.each m.place is.0 at).stamped in
    subst (Contains (later kind j.commits start m.write)) stamp
    (later_has kind j.commits start m.write m.place is.0 at (omega (arith, stamp, up)) is.2)

-- ---- what passes tell each other

-- MEET: a pass has seen all that it had seen, and all that was told
pub passes_meet : {z : Config} {word : ℕ → ℕ} {pass : ℕ → PassState} {j : JournalState}
    {rows : Key → StampedVersions}
    {clock : ℕ} (s : IsShared z word pass j rows clock) (p : ℕ) (told : List Commit) → IsPrefix told j.commits
    → IsPrefix (pass p).seen (longer_of (pass p).seen told) × IsPrefix told (longer_of (pass p).seen told)
    × IsShared z word (revised pass p (refreshed (pass p) (longer_of (pass p).seen told))) j rows clock
passes_meet {pass = pass} {j = j} s p told front =
    let h = s.each p in
    let both = meets_told (pass p).seen told j.commits h.seen front in
    let more : length (pass p).seen ≤ length (longer_of (pass p).seen told)
    = prefix_length (pass p).seen (longer_of (pass p).seen told) both.0 in
    let started : (pass p).start ≤ length (pass p).seen = h.started in
    (both.0, both.1, refreshes s p (longer_of (pass p).seen told) both.2 (omega (arith, more, started)))
