-- What a begin, a write, a commit and an end do to the journal and the open transactions.
use Rattle.std.proofs.Common.{◌≡◌, ℕ, ◌<◌, ◌≤◌, List, [], ◌∷◌, ◌++◌, length, refl, sym, ◌∙◌, ap, subst, arith, length-append, inl, inr}
use Rattle.std.specs.Prelude.{true, false, Option, Some, None}
use Rattle.std.proofs.lemmas.Bool.{true≢false, cases_lt}
use Rattle.graph_model.specs.declared.write.Kind.{Kind}
use Rattle.graph_model.specs.declared.write.Write.{Write}
use Rattle.graph_model.specs.declared.journal.Commit.{Commit}
use Rattle.graph_model.specs.declared.journal.TxnName.{TxnName}
use Rattle.graph_model.specs.Refused.{refused, AllAllowed, IsWithinLimits}
use Rattle.graph_model.specs.History.{graph_at, view}
use Rattle.graph_model.specs.Legal.{have_clash}
use Rattle.graph_model.specs.Conflict.{same_name}
use Rattle.graph_model.specs.ConflictLaws.{NoLater}
use Rattle.graph_model.specs.JournalLaws.{IsNext}
use Rattle.graph_model.specs.Transactions.{Running, Changes, commit_of, writes_of_running, own_of, HasNotCommitted, MeetsNoHolder, IsRunning, AreTransactions}
use Rattle.graph_model.proofs.TestLemmas.{name_self, name_eq, name_symm}
use Rattle.graph_model.proofs.PlaceLemmas.{some_eq, get_snoc}
use Rattle.graph_model.proofs.ClashLemmas.{have_clash-symm, no_clash_none, no_clash_more}
use Rattle.graph_model.proofs.LegalLemmas.{graph_at-append}
use Rattle.graph_model.proofs.HistoryLemmas.{allowed_more, all_more}
use Rattle.graph_model.proofs.SerialLemmas.{no_commit_legal, legal_more}

-- before the first begin nothing is committed and nothing is open
pub none_at_first : (kind : Kind) → AreTransactions kind [] (λ by. None) 0
none_at_first kind = record { legal = no_commit_legal kind; behind = omega arith; each = λ by t at. cc; apart = λ a b e. refl }

-- ---- one of the open transactions is changed

pub own_here : (by : TxnName) (old new : TxnName → Option Running) (to : Option Running) → Changes by old new to → (q : TxnName) → same_name q by ≡ true → own_of new q ≡ writes_of_running to
own_here by old new to ch q e = ap (own_of new) (name_eq q by e) ∙ ap writes_of_running ch.here

pub own_else : (by : TxnName) (old new : TxnName → Option Running) (to : Option Running) → Changes by old new to → (q : TxnName) → same_name q by ≡ false → own_of new q ≡ own_of old q
own_else by old new to ch q e = ap writes_of_running (ch.else q e)

-- a fact on each open transaction, where one is changed
pub each_changed : (P : TxnName → Running → Type 0) (by : TxnName) (old new : TxnName → Option Running) (t : Running) → Changes by old new (Some t)
    → P by t → ((q : TxnName) (u : Running) → same_name q by ≡ false → old q ≡ Some u → P q u) → (q : TxnName) (u : Running) → new q ≡ Some u → P q u
each_changed P by old new t ch is rest q u at = elim (same_name q by) as (λ s. same_name q by ≡ s → P q u) [
  | true ↦ λ e. let me = name_eq q by e in
      subst (λ x. P x u) (sym me) (subst (P by) (some_eq t u (sym ch.here ∙ ap new (sym me) ∙ at)) is)
  | false ↦ λ e. rest q u e (sym (ch.else q e) ∙ at)
] refl

-- and where one is gone
pub each_gone : (P : TxnName → Running → Type 0) (by : TxnName) (old new : TxnName → Option Running) → Changes by old new None
    → ((q : TxnName) (u : Running) → same_name q by ≡ false → old q ≡ Some u → P q u) → (q : TxnName) (u : Running) → new q ≡ Some u → P q u
each_gone P by old new ch rest q u at = elim (same_name q by) as (λ s. same_name q by ≡ s → P q u) [
  | true ↦ λ e. let both : ◌≡◌ {A = Option Running} None (Some u) = sym ch.here ∙ ap new (sym (name_eq q by e)) ∙ at in cc
  | false ↦ λ e. rest q u e (sym (ch.else q e) ∙ at)
] refl

-- no two clash, where one is changed
apart_changed : (kind : Kind) (by : TxnName) (old new : TxnName → Option Running) (to : Option Running) → Changes by old new to
    → ((a b : TxnName) → same_name a b ≡ false → have_clash kind (own_of old a) (own_of old b) ≡ false)
    → ((q : TxnName) → same_name q by ≡ false → have_clash kind (own_of old q) (writes_of_running to) ≡ false)
    → (a b : TxnName) → same_name a b ≡ false → have_clash kind (own_of new a) (own_of new b) ≡ false
apart_changed kind by old new to ch apart free a b e = elim (same_name a by) as (λ s. same_name a by ≡ s → have_clash kind (own_of new a) (own_of new b) ≡ false) [
  | true ↦ λ f.
      let other : same_name b by ≡ false = name_symm b by ∙ ap (λ x. same_name x b) (sym (name_eq a by f)) ∙ e in
      (λ i. have_clash kind (own_here by old new to ch a f i) (own_else by old new to ch b other i)) ∙ have_clash-symm kind (writes_of_running to) (own_of old b) ∙ free b other
  | false ↦ λ f. elim (same_name b by) as (λ s. same_name b by ≡ s → have_clash kind (own_of new a) (own_of new b) ≡ false) [
    | true ↦ λ g. (λ i. have_clash kind (own_else by old new to ch a f i) (own_here by old new to ch b g i)) ∙ free a f
    | false ↦ λ g. (λ i. have_clash kind (own_else by old new to ch a f i) (own_else by old new to ch b g i)) ∙ apart a b e
  ] refl
] refl

module _ (kind : Kind) (journal : List Commit) (running : TxnName → Option Running) (horizon : ℕ) (are : AreTransactions kind journal running horizon) (by : TxnName) (running' : TxnName → Option Running) where
  pub begin_keeps : Changes by running running' (Some (record { start = length journal; writes = [] })) → HasNotCommitted journal by
      → AreTransactions kind journal running' horizon
  begin_keeps ch unnamed = record {
    legal = are.legal;
    behind = are.behind;
    each = each_changed (IsRunning kind journal horizon) by running running' _ ch
        (record { started = omega arith; pinned = are.behind; allowed = tt; within = tt; unnamed = unnamed; before = λ i c at late. no_clash_none kind c.writes })
        (λ q u e at. are.each q u at);
    apart = apart_changed kind by running running' _ ch are.apart (λ q e. no_clash_none kind (own_of running q));
  }

  -- one that ends without a commit
  pub end_keeps : Changes by running running' None → AreTransactions kind journal running' horizon
  end_keeps ch = record {
    legal = are.legal;
    behind = are.behind;
    each = each_gone (IsRunning kind journal horizon) by running running' ch (λ q u e at. are.each q u at);
    apart = apart_changed kind by running running' _ ch are.apart (λ q e. no_clash_none kind (own_of running q));
  }

  module _ (t : Running) (there : running by ≡ Some t) where
    at : IsRunning kind journal horizon by t
    at = are.each by t there

    own_is : own_of running by ≡ t.writes
    own_is = ap writes_of_running there

    pub write_keeps : (w : Write) → Changes by running running' (Some (record { start = t.start; writes = t.writes ++ w ∷ [] }))
        → refused (view kind journal t.start t.writes) w ≡ None → IsWithinLimits w
        → MeetsNoHolder kind running by w
        → NoLater kind journal t.start w
        → AreTransactions kind journal running' horizon
    unfolding at own_is
    write_keeps w ch allowed within free no_later = record {
      legal = are.legal;
      behind = are.behind;
      each = each_changed (IsRunning kind journal horizon) by running running' _ ch
          (record {
            started = at.started;
            pinned = at.pinned;
            allowed = allowed_more kind (graph_at kind journal t.start) t.writes w at.allowed allowed;
            within = all_more IsWithinLimits t.writes w at.within within;
            unnamed = at.unnamed;
            before = λ i c here late. no_clash_more kind c.writes t.writes w (at.before i c here late) (no_later i c here late);
          })
          (λ q u e here. are.each q u here);
      apart = apart_changed kind by running running' _ ch are.apart (λ q e.
          no_clash_more kind (own_of running q) t.writes w (ap (have_clash kind (own_of running q)) (sym own_is) ∙ are.apart q by e) (free q e));
    }

-- ---- a commit

module _ (kind : Kind) (journal : List Commit) (running : TxnName → Option Running) (horizon : ℕ) (are : AreTransactions kind journal running horizon) (by : TxnName) (running' : TxnName → Option Running)
    (t : Running) (there : running by ≡ Some t) (ch : Changes by running running' None) (wrote : 0 < length t.writes) where
  abbrev journal' : List Commit
  journal' = journal ++ commit_of journal by t ∷ []

  is_running : IsRunning kind journal horizon by t
  is_running = are.each by t there

  -- its commit may follow the journal
  pub commit_follows : IsNext kind journal (commit_of journal by t)
  commit_follows = record {
    commit = record { stamped = refl; started = is_running.started; wrote = wrote; allowed = is_running.allowed; within = is_running.within };
    unnamed = λ i d at same. true≢false (sym (name_self by) ∙ ap (λ q. same_name q by) (sym same) ∙ is_running.unnamed i d at);
    apart = λ i d at clashes. elim (cases_lt t.start d.stamp) as (λ _. d.stamp ≤ t.start) [
      | inl late ↦ absurd (true≢false (sym clashes ∙ is_running.before i d at late))
      | inr early ↦ early
    ];
  }

  still_running : (q : TxnName) (u : Running) → same_name q by ≡ false → running q ≡ Some u → IsRunning kind journal' horizon q u
  still_running q u e here =
      let is = are.each q u here in
      record {
        started = omega (arith, is.started, length-append journal (commit_of journal by t ∷ []));
        pinned = is.pinned;
        allowed = subst (λ g. AllAllowed kind g u.writes) (sym (graph_at-append kind journal (commit_of journal by t ∷ []) u.start is.started)) is.allowed;
        within = is.within;
        unnamed = λ i d at. elim (get_snoc journal (commit_of journal by t) i d at) as (λ _. same_name d.by q ≡ false) [
          | inl p ↦ is.unnamed i d p.1
          | inr p ↦ ap (λ (z : Commit). same_name z.by q) (sym p.1) ∙ name_symm by q ∙ e
        ];
        before = λ i d at late. elim (get_snoc journal (commit_of journal by t) i d at) as (λ _. have_clash kind d.writes u.writes ≡ false) [
          | inl p ↦ is.before i d p.1 late
          | inr p ↦ ap (λ (z : Commit). have_clash kind z.writes u.writes) (sym p.1) ∙ (λ i. have_clash kind (writes_of_running (sym there i)) (writes_of_running (sym here i))) ∙ are.apart by q (name_symm by q ∙ e)
        ];
      }

  pub commit_keeps : AreTransactions kind journal' running' horizon
  commit_keeps = record {
    legal = legal_more kind journal (commit_of journal by t) are.legal commit_follows;
    behind = omega (arith, are.behind, length-append journal (commit_of journal by t ∷ []));
    each = each_gone (IsRunning kind journal' horizon) by running running' ch still_running;
    apart = apart_changed kind by running running' _ ch are.apart (λ q e. no_clash_none kind (own_of running q));
  }

-- ---- the horizon

-- it goes to a stamp that no open transaction's start is below
pub horizon_keeps : (kind : Kind) (journal : List Commit) (running : TxnName → Option Running) (horizon horizon' : ℕ) → AreTransactions kind journal running horizon
    → horizon' ≤ length journal → ((by : TxnName) (t : Running) → running by ≡ Some t → horizon' ≤ t.start) → AreTransactions kind journal running horizon'
horizon_keeps kind journal running horizon horizon' are le pins = record {
  legal = are.legal;
  behind = le;
  each = λ by t at. let is = are.each by t at in record {
    started = is.started;
    pinned = pins by t at;
    allowed = is.allowed;
    within = is.within;
    unnamed = is.unnamed;
    before = is.before;
  };
  apart = are.apart;
}
