-- What a manager's fields keep, and what it has, after a begin, a commit and an end.
use Rattle.std.proofs.Common.{◌≡◌, ◌↔◌, ℕ, zero, suc, ◌+◌, ◌-◌, ◌^◌, ◌<◌, ◌≤◌, List, [], ◌∷◌, ◌++◌, map, length, replicate, get_or, refl, sym, ◌∙◌, ap, subst, cond, arith, length-append}
use Rattle.std.specs.Prelude.{Bool, true, false, ◌==◌, Option, Some, None, is_some, IsSome, IfSome, slice_set}
use Rattle.std.proofs.lemmas.List.{map-set, length-map, length-set}
use Rattle.items.specs.Room.{WithRoom}
use Rattle.graph_model.specs.declared.write.Write.{Write}
use Rattle.graph_model.specs.declared.journal.Commit.{Commit}
use Rattle.graph_model.specs.declared.journal.TxnName.{TxnName}
use Rattle.graph_model.specs.declared.state.State.{State}
use Rattle.graph_model.specs.declared.state.State.TheVariants.{Live, Aborted}
use Rattle.graph_model.specs.Transactions.{HasNotCommitted, commit_of, stamp_in}
use Rattle.graph_model.specs.Passes.{revised}
use Rattle.txn_manager.specs.declared.history.PassHistory.{PassHistory}
use Rattle.txn_manager.specs.Manager.{PassTxns, Manager, no_txns, new_manager, txns_of, open_start, next_name, running_with, opened, ended, committed, state_from, state_of, starts_of, IsManaged}
use Rattle.txn_manager.specs.Histories.{no_history, history_of, txns_in, manager_of, stamp_at, state_at, with_open, with_none, with_stamp, AreHistories, IsKept}
use Rattle.txn_manager.proofs.HistoryLemmas.{none_stamped, history_of-set, begin_keeps, end_keeps, open_unstamped, next_unstamped, commit_keeps}
use Rattle.txn_manager.proofs.ViewLemmas.{txns_of-kept, begun-kept, state_in-get, history_past, some_of, IsOpenAt, open_start-kept, open_at}
use Rattle.txn_manager.proofs.CountLemmas.{starts_le, one_fewer}

module _ (journal : WithRoom Commit) (hs : List PassHistory) (allowed : ℕ) (kept : IsKept journal hs allowed) where
  abbrev manager : Manager
  manager = manager_of journal hs allowed

  -- ---- names and stamps

  -- an open transaction has no stamp
  unstamped : (by : TxnName) → IsSome (open_start manager by) → stamp_in journal.items by ≡ None
  unstamped by is =
      let s = some_of (open_start manager by) is in
      let at = open_at journal hs allowed by s.0 s.1 in
      (λ i. stamp_in journal.items (record { job = by.job; number = at.latest i })) ∙ open_unstamped journal.items allowed (history_of hs) kept.recorded by.job s.0 at.begun_at

  pub managed : IsManaged manager
  managed = record {
    room = kept.room;
    used = λ p. subst (λ (t : PassTxns). t.begun ≤ allowed) (sym (txns_of-kept journal hs allowed p)) (kept.recorded.each p).used;
    started = λ by. within by (open_start manager by) refl;
    uncommitted = λ by is. none_stamped journal.items by (unstamped by is);
  }
    where
      within : (by : TxnName) (x : Option ℕ) → open_start manager by ≡ x → IfSome x (λ start. start ≤ length journal.items)
      within by None e = tt
      within by (Some start) e = ((kept.recorded.each by.job).current start (open_at journal hs allowed by start e).begun_at).started

  -- the next transaction's name is new
  pub next_is_new : (p : ℕ) → HasNotCommitted journal.items (next_name manager p)
  next_is_new p = subst (λ begun. HasNotCommitted journal.items (record { job = p; number = begun + 1 })) (sym (begun-kept journal hs allowed manager p _ refl refl))
      (none_stamped journal.items _ (next_unstamped journal.items allowed (history_of hs) kept.recorded p))

  -- ---- one pass's history is revised

  kept_with : (journal' : WithRoom Commit) (p : ℕ) (h : PassHistory) → p < length hs → length (starts_of (map txns_in (slice_set hs p h))) ≤ journal'.spare
      → AreHistories journal'.items allowed (revised (history_of hs) p h) → IsKept journal' (slice_set hs p h) allowed
  kept_with journal' p h inside room are = record {
    small = kept.small;
    room = room;
    recorded = subst (AreHistories journal'.items allowed) (sym (history_of-set hs p h inside)) are;
  }

  view_with : (journal' : WithRoom Commit) (p : ℕ) (h : PassHistory) (items : List Commit) (txns : PassTxns) → journal'.items ≡ items → txns_in h ≡ txns
      → manager_of journal' (slice_set hs p h) allowed ≡ record { journal = items; spare = journal'.spare; passes = slice_set manager.passes p txns; allowed = allowed }
  view_with journal' p h items txns same is =
      λ i. record { journal = same i; spare = journal'.spare; passes = (map-set txns_in hs p h ∙ ap (slice_set (map txns_in hs) p) is) i; allowed = allowed }

  -- a pass begins its next transaction, and there is room in the journal for each pass
  module _ (journal' : WithRoom Commit) (p : ℕ) (g h : PassHistory) (inside : p < length hs) (at : history_of hs p ≡ g)
      (same : journal'.items ≡ journal.items) (is : h ≡ with_open g (length journal.items)) where
    pub kept_begun : length g.stamps < allowed → length hs ≤ journal'.spare → IsKept journal' (slice_set hs p h) allowed
    kept_begun free room = kept_with journal' p h inside
        (let most = starts_le (map txns_in (slice_set hs p h)) in let size : length (map txns_in (slice_set hs p h)) ≡ length hs = simp (length-map, length-set) in omega arith)
        (subst (λ items. AreHistories items allowed (revised (history_of hs) p h)) (sym same)
        (subst (λ x. AreHistories journal.items allowed (revised (history_of hs) p x)) (sym (is ∙ ap (λ x. with_open x (length journal.items)) (sym at)))
        (begin_keeps journal.items allowed (history_of hs) kept.recorded p (subst (λ (x : PassHistory). length x.stamps < allowed) (sym at) free))))

    pub view_begun : manager_of journal' (slice_set hs p h) allowed ≡ record (opened manager p) { spare = journal'.spare }
    view_begun = view_with journal' p h journal.items _ same (ap txns_in is ∙ (λ i. record { begun = one_more i; start = Some (length journal.items) }))
      where
        one_more : length (g.stamps ++ None ∷ []) ≡ (txns_of manager p).begun + 1
        one_more = length-append g.stamps (None ∷ []) ∙ ap (λ n. n + 1) (sym (begun-kept journal hs allowed manager p g refl at))

  module _ (by : TxnName) (start : ℕ) (at : IsOpenAt hs by start) where
    -- how many the pass has begun
    begun_is : length (history_of hs by.job).stamps ≡ (txns_of manager by.job).begun
    begun_is = sym (begun-kept journal hs allowed manager by.job _ refl refl)

    -- there is room for the commit of an open one
    pub some_room : 0 < journal.spare
    some_room = let fewer = one_fewer hs by.job start no_history at.inside at.begun_at refl in let room = kept.room in omega arith

    -- it ends without a commit
    module _ (h : PassHistory) (is : h ≡ with_none (history_of hs by.job)) where
      pub kept_ended : IsKept journal (slice_set hs by.job h) allowed
      kept_ended = kept_with journal by.job h at.inside
          (let fewer = one_fewer hs by.job start h at.inside at.begun_at (ap (λ (x : PassHistory). x.start) is) in let room = kept.room in omega arith)
          (subst (λ x. AreHistories journal.items allowed (revised (history_of hs) by.job x)) (sym is) (end_keeps journal.items allowed (history_of hs) kept.recorded by.job))

      pub view_ended : manager_of journal (slice_set hs by.job h) allowed ≡ ended manager by
      view_ended = view_with journal by.job h journal.items _ refl (ap txns_in is ∙ (λ i. record { begun = begun_is i; start = None }))

    -- it commits
    module _ (journal' : WithRoom Commit) (c : Commit) (h : PassHistory) (same : journal'.items ≡ journal.items ++ c ∷ []) (is : h ≡ with_stamp (history_of hs by.job) c.stamp) where
      pub kept_committed : c.by ≡ by → journal.spare ≤ journal'.spare + 1 → IsKept journal' (slice_set hs by.job h) allowed
      kept_committed by_it room = kept_with journal' by.job h at.inside
          (let fewer = one_fewer hs by.job start h at.inside at.begun_at (ap (λ (x : PassHistory). x.start) is) in let before = kept.room in omega arith)
          (subst (λ items. AreHistories items allowed (revised (history_of hs) by.job h)) (sym same)
          (subst (λ x. AreHistories (journal.items ++ c ∷ []) allowed (revised (history_of hs) by.job x)) (sym is)
          (commit_keeps journal.items allowed (history_of hs) kept.recorded by.job start at.begun_at c (by_it ∙ (λ i. record { job = by.job; number = at.latest i })))))

      pub view_committed : (writes : List Write) → c ≡ commit_of journal.items by (running_with manager by writes)
          → manager_of journal' (slice_set hs by.job h) allowed ≡ record (committed manager by writes) { spare = journal'.spare }
      view_committed writes made = view_with journal' by.job h _ _ (same ∙ ap (λ x. journal.items ++ x ∷ []) made)
          (ap txns_in is ∙ (λ i. record { begun = (length-set (history_of hs by.job).stamps (length (history_of hs by.job).stamps - 1) (Some c.stamp) ∙ begun_is) i; start = None }))

  -- ---- where a transaction stands

  -- by its pass's history
  pub state-kept : (by : TxnName) (h : PassHistory) → history_of hs by.job ≡ h → state_of manager by ≡ state_at h by.number
  state-kept by h at =
      (λ i. state_from (sym (kept.recorded.stamps by) i) (is_some (open_start-kept journal hs allowed by i)))
      ∙ ap (λ x. state_at x by.number) at

  -- nobody stands in a pass that isn't there
  pub state_past : (by : TxnName) → length hs ≤ by.job → state_of manager by ≡ Aborted
  state_past by past = state-kept by no_history (history_past hs by.job past) ∙ (λ i. state_from (no_stamp by.number i) (is_some (no_start (by.number == 0) i)))
    where
      no_stamp : (number : ℕ) → stamp_at [] number ≡ None
      no_stamp zero = refl
      no_stamp (suc place) = refl

      no_start : (t : Bool) → ◌≡◌ {A = Option ℕ} (cond t None None) None
      no_start true = refl
      no_start false = refl

  -- exactly the open ones are live
  pub live_is_open : (m : Manager) (by : TxnName) (answer : State) → manager ≡ m → answer ≡ state_of m by → (answer ≡ Live) ↔ IsSome (open_start m by)
  live_is_open m by answer same is = subst (λ (m : Manager). answer ≡ state_of m by → (answer ≡ Live) ↔ IsSome (open_start m by)) same by_own is
    where
      to_open : (stamp : Option ℕ) (test : Bool) → state_from stamp test ≡ Live → test ≡ true
      to_open (Some stamp) test e = cc
      to_open None true e = refl
      to_open None false e = cc

      by_own : answer ≡ state_of manager by → (answer ≡ Live) ↔ IsSome (open_start manager by)
      by_own is = (λ e. to_open _ _ (sym is ∙ e), λ e. is ∙ (λ i. state_from (unstamped by e i) (e i)))

-- ---- passes that have begun nothing

nothing_at : (n p : ℕ) → get_or (replicate n no_history) p no_history ≡ no_history
nothing_at zero p = refl
nothing_at (suc n) zero = refl
nothing_at (suc n) (suc p) = nothing_at n p

none_open : (n : ℕ) → starts_of (map txns_in (replicate n no_history)) ≡ []
none_open zero = refl
none_open (suc n) = none_open n

no_txns_in : (n : ℕ) → map txns_in (replicate n no_history) ≡ replicate n no_txns
no_txns_in zero = refl
no_txns_in (suc n) = ap (λ passes. no_txns ∷ passes) (no_txns_in n)

none_recorded : (allowed : ℕ) → AreHistories [] allowed (λ p. no_history)
none_recorded allowed = record {
  each = λ p. record { used = omega arith; current = λ start e. cc };
  stamps = λ by. no_stamp by.number;
}
  where
    no_stamp : (number : ℕ) → stamp_at [] number ≡ None
    no_stamp zero = refl
    no_stamp (suc place) = refl

module _ (journal : WithRoom Commit) (n allowed : ℕ) (empty : journal.items ≡ []) where
  pub kept_new : allowed < 2 ^ 32 → IsKept journal (replicate n no_history) allowed
  kept_new small = record {
    small = small;
    room = let none = ap length (none_open n) in omega arith;
    recorded = subst (λ items. AreHistories items allowed (history_of (replicate n no_history))) (sym empty)
        (subst (AreHistories [] allowed) (λ i p. sym (state_in-get no_history (replicate n no_history) p ∙ nothing_at n p) i) (none_recorded allowed));
  }

  pub view_new : manager_of journal (replicate n no_history) allowed ≡ record (new_manager n allowed) { spare = journal.spare }
  view_new = λ i. record { journal = empty i; spare = journal.spare; passes = no_txns_in n i; allowed = allowed }
