-- What a load leaves is valid; and the worked examples of a load.
use Rattle.std.proofs.Common.{◌≡◌, ℕ, zero, suc, ◌<◌, List, [], ◌∷◌, length, refl, sym, ◌∙◌, ap, subst, arith}
use Rattle.std.specs.Prelude.{◌≤◌, None, slice_get, slice_set, unwrap_or, IfSome, IfNone}
use Rattle.std.specs.List.{AllByRecursion}
use Rattle.graph_model.specs.declared.write.Kind.{Kind}
use Rattle.graph_model.specs.declared.write.Kind.TheVariants.{Undirected}
use Rattle.graph_model.specs.declared.write.Write.{Write}
use Rattle.graph_model.specs.declared.write.Write.TheVariants.{AddVertex, AddEdge, SetEdge}
use Rattle.graph_model.specs.declared.refusal.Refusal.TheVariants as causes
use Rattle.graph_model.specs.Graph.{empty_graph}
use Rattle.graph_model.specs.Refused.{AllAllowed, IsWithinLimits}
use Rattle.graph_model.specs.Legal.{IsLegal}
use Rattle.graph_model.specs.Account.{IsOpenTxn, IsValid}
use Rattle.graph_model.specs.OwnerCalls.{PassState, Core, no_pass, account_of}
use Rattle.graph_model.specs.Loading.{HasBegunNothing, IsNew, IsLoad, journal_of, loaded}
use Rattle.graph_model.specs.LoadLaws.{LoadIsLegal, LoadIsValid}
use Rattle.graph_model.specs.LoadExamples.{fresh_pass, loading_pass, LoadExamples}
use Rattle.graph_model.specs.Examples.{load}
use Rattle.graph_model.specs.JournalExamples.{name, commit}
use Rattle.graph_model.proofs.EntryLemmas.{empty_entries, all_allowed, allowed_all}
use Rattle.graph_model.proofs.ExampleLemmas.{load_within, some_none}
use Rattle.graph_model.proofs.HistoryLemmas.{get_within, each_item}
use Rattle.graph_model.proofs.PlaceLemmas.{some_eq}
use Rattle.graph_model.proofs.SerialLemmas.{no_commit_legal, legal_more}

-- ---- laws

-- one commit of what the empty graph allows, or none, is legal
pub journal_legal : (kind : Kind) (ws : List Write) → AllAllowed kind empty_graph ws → AllByRecursion IsWithinLimits ws → IsLegal kind (journal_of ws)
journal_legal kind [] allowed within = no_commit_legal kind
journal_legal kind (w ∷ ws) allowed within = legal_more kind [] (commit 1 0 (name 0 1) (w ∷ ws)) (no_commit_legal kind) (record {
  commit = record { stamped = refl; started = omega arith; wrote = omega arith; allowed = allowed; within = within };
  unnamed = λ i d at. cc;
  apart = λ i d at. cc;
})

pub load_is_legal : LoadIsLegal
load_is_legal core ws new is = journal_legal core.kind ws is.allowed is.within

-- a pass that no transaction is open in, and whose transactions are counted
idle_valid : (core : Core) (ws : List Write) (p : ℕ) (state : PassState) → IsLoad core ws → state.start ≡ None → state.own ≡ []
    → length state.made ≡ state.begun → state.begun ≤ state.allowed → IsValid (account_of (loaded core ws) p state)
idle_valid core ws p state is closed none counted room = record {
  legal = journal_legal core.kind ws is.allowed is.within;
  current = subst (λ s. IfSome s (IsOpenTxn (account_of (loaded core ws) p state))) (sym closed) tt;
  idle = subst (λ s. IfNone s (state.own ≡ [])) (sym closed) none;
  counted = counted;
  room = room;
}

module _ (core : Core) (ws : List Write) (new : IsNew core) (is : IsLoad core ws) where
  nothing_begun : (p : ℕ) (state : PassState) → HasBegunNothing state → IsValid (account_of (loaded core ws) p state)
  nothing_begun p state nothing =
      let none : state.begun ≡ 0 = nothing.begun in
      idle_valid core ws p state is nothing.start nothing.own (ap length nothing.made ∙ sym nothing.begun) (omega (arith, none))

  -- the first pass has loaded, the others are as they were
  loading : PassState
  loading = record new.first { begun = 1; made = ws ∷ [] }

  passes_behind : (loaded core ws).passes ≡ loading ∷ new.others
  unfolding loading
  passes_behind = λ i. slice_set (new.passes i) (new.selected i) (record (unwrap_or (slice_get (new.passes i) (new.selected i)) no_pass) { begun = 1; made = ws ∷ [] })

  has_loaded : IsValid (account_of (loaded core ws) 0 loading)
  unfolding loading
  has_loaded = idle_valid core ws 0 loading is new.each.0.start new.each.0.own refl (let some : 0 < new.first.allowed = new.allowed in omega (arith, some))

  valid_behind : (p : ℕ) → p < length (loading ∷ new.others) → IsValid (account_of (loaded core ws) p (unwrap_or (slice_get (loading ∷ new.others) p) no_pass))
  valid_behind zero within = has_loaded
  valid_behind (suc p) within =
      let there = get_within new.others p (omega (arith, within)) in
      subst (λ s. IsValid (account_of (loaded core ws) (suc p) (unwrap_or s no_pass))) (sym there.1)
      (nothing_begun (suc p) there.0 (each_item HasBegunNothing new.others new.each.1 p there.0 there.1))

  pub load_valid : (p : ℕ) → p < length core.passes → IsValid (account_of (loaded core ws) p (unwrap_or (slice_get (loaded core ws).passes p) no_pass))
  load_valid p within =
      let count : length core.passes ≡ length (loading ∷ new.others) = ap length new.passes in
      subst (λ ps. IsValid (account_of (loaded core ws) p (unwrap_or (slice_get ps p) no_pass))) (sym passes_behind)
      (valid_behind p (omega (arith, within, count)))

pub load_is_valid : LoadIsValid
load_is_valid core ws p new is within = load_valid core ws new is p within

-- ---- examples

fresh_each : AllByRecursion HasBegunNothing (fresh_pass ∷ fresh_pass ∷ [])
fresh_each =
    (record { begun = refl; made = refl; start = refl; own = refl }, (record { begun = refl; made = refl; start = refl; own = refl }, tt))

second_of : (a b first : PassState) (others : List PassState) → a ∷ b ∷ [] ≡ first ∷ others → AllByRecursion HasBegunNothing (first ∷ others) → b.begun ≡ 0
second_of a b first [] e each = let same : ◌≡◌ {A = ℕ} 2 1 = ap length e in omega (arith, same)
second_of a b first (c ∷ others) e each = let same : b ≡ c = some_eq b c (ap (λ xs. slice_get xs 1) e) in ap (λ (s : PassState). s.begun) same ∙ each.1.0.begun

only_of : (a first : PassState) (others : List PassState) → a ∷ [] ≡ first ∷ others → 0 < first.allowed → 0 < a.allowed
only_of a first others e some = let same : a ≡ first = some_eq a first (ap (λ xs. slice_get xs 0) e) in subst (λ (s : PassState). 0 < s.allowed) (sym same) some

pub loads : LoadExamples
loads = record {
  found = record { first = fresh_pass; others = fresh_pass ∷ []; passes = refl; selected = refl; journal = refl; each = fresh_each; allowed = omega arith };
  not_of_another_pass = λ is. let same : ◌≡◌ {A = ℕ} 1 0 = is.selected in omega (arith, same);
  not_where_one_has_begun = λ is. let none : ◌≡◌ {A = ℕ} 1 0 = second_of fresh_pass loading_pass is.first is.others is.passes is.each in omega (arith, none);
  not_behind_a_commit = λ is. let none : ◌≡◌ {A = ℕ} 1 0 = ap length is.journal in omega (arith, none);
  not_without_a_transaction_left = λ is. let some : 0 < 0 = only_of no_pass is.first is.others is.passes is.allowed in omega (arith, some);
  graph = record {
    adds = (tt, (tt, (tt, (tt, (tt, (tt, tt))))));
    allowed = all_allowed Undirected empty_graph [] [] empty_entries load refl;
    within = load_within;
  };
  not_an_edge_without_ends = λ is. some_none (causes.NoVertex 1) (allowed_all Undirected empty_graph [] [] empty_entries (AddEdge 1 2 1 ∷ []) is.allowed);
  not_a_set_weight = λ is. is.adds.1.0;
  not_too_great_an_id = λ is. omega (arith, is.within.0);
  committed = refl;
  nothing_to_commit = refl;
  left = refl;
  nothing_left = refl;
  filled = (refl, omega arith);
  not_one_row_before = λ is. omega (arith, is.1);
  not_with_other_leaves = λ is. let same : ◌≡◌ {A = ℕ} 2 1 = is.0 in omega (arith, same);
}
