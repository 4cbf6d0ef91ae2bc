-- The worked examples of journals, of what transactions see and meet, and of accounts.
use Rattle.std.proofs.Common.{◌≡◌, ℕ, ◌≤◌, List, [], ◌∷◌, ◌++◌, refl, sym, ◌∙◌, ap, arith, zero, suc, ◌<◌}
use Rattle.std.specs.Prelude.{Option, Some, Result, Ok, Err, get_or, true, false, ◌==◌, None, IsTrue, slice_get}
use Rattle.graph_model.specs.declared.write.Kind.TheVariants.{Undirected}
use Rattle.graph_model.specs.declared.write.Write.{Write}
use Rattle.graph_model.specs.declared.write.Write.TheVariants.{AddVertex, DropVertex, AddEdge, SetEdge, DropEdge}
use Rattle.graph_model.specs.declared.journal.Commit.{Commit}
use Rattle.graph_model.specs.declared.journal.TxnName.{TxnName}
use Rattle.graph_model.specs.declared.refusal.Cause.TheVariants.{Later, Holder}
use Rattle.graph_model.specs.declared.refusal.Refusal.{Refusal}
use Rattle.graph_model.specs.declared.refusal.Refusal.TheVariants.{SelfLoop, NoVertex, VertexExists, EdgeExists, NoEdge, HasEdges, Conflict, Full}
use Rattle.graph_model.specs.Graph.{empty_graph}
use Rattle.graph_model.specs.Refused.{refused, IsWithinLimits}
use Rattle.graph_model.specs.History.{graph_at}
use Rattle.graph_model.specs.Legal.{have_clash, IsLegal}
use Rattle.graph_model.specs.Account.{Account}
use Rattle.graph_model.specs.AccountSteps.{view_of, GoesOn, with_write, with_cause, WritesAt, WritesBy, HasCommit}
use Rattle.graph_model.specs.Examples.{load}
use Rattle.graph_model.specs.JournalExamples.{name, commit, journal, then_commit, account, LegalExamples, IllegalExamples, ViewExamples, AccountExamples, BeginExamples, WriteExamples, CommitExamples}
use Rattle.graph_model.proofs.PlaceLemmas.{some_eq}
use Rattle.graph_model.proofs.TestLemmas.{self_eq}
use Rattle.graph_model.proofs.EntryLemmas.{Arcs, HasEntries, refusal_in, refused_at, entries_made, empty_entries, made_weight, made_vertex, all_allowed}
use Rattle.graph_model.proofs.HistoryLemmas.{each_item}
use Rattle.graph_model.proofs.OwnerLemmas.{at_start}
use Rattle.graph_model.proofs.SerialLemmas.{no_commit_legal, legal_more}
use Rattle.graph_model.proofs.ExampleLemmas.{load_marks, load_within, by_load, some_none, true_false}

-- ---- legal journals

other_job : {P : Type 0} (a b : TxnName) → (a.job == b.job) ≡ false → a ≡ b → P
other_job a b apart same = true_false (sym (self_eq a.job) ∙ ap (λ (n : TxnName). a.job == n.job) same ∙ apart)

never_clash : {P : Type 0} → IsTrue false → P
never_clash clash = true_false (sym clash)

abbrev one : List Commit
one = commit 1 0 (name 0 1) load ∷ []

one_legal : IsLegal Undirected one
one_legal = legal_more Undirected [] (commit 1 0 (name 0 1) load) (no_commit_legal Undirected) (record {
  commit = record {
    stamped = refl;
    started = omega arith;
    wrote = omega arith;
    allowed = all_allowed Undirected empty_graph [] [] empty_entries load refl;
    within = load_within;
  };
  unnamed = λ i d at. cc;
  apart = λ i d at. cc;
})

two_legal : IsLegal Undirected journal
two_legal = legal_more Undirected one (commit 2 1 (name 1 1) (SetEdge 1 2 9 ∷ [])) one_legal (record {
  commit = record {
    stamped = refl;
    started = omega arith;
    wrote = omega arith;
    allowed = (by_load (SetEdge 1 2 9), tt);
    within = ((omega arith, omega arith, omega arith), tt);
  };
  unnamed = each_item (λ (d : Commit). d.by ≡ name 1 1 → ⊥) one (λ same. other_job (name 0 1) (name 1 1) refl same, tt);
  apart = each_item (λ (d : Commit). IsTrue (have_clash Undirected d.writes (SetEdge 1 2 9 ∷ [])) → d.stamp ≤ 1) one (λ clash. omega arith, tt);
})

-- a third commit that sets an edge
third_legal : (start u v : ℕ) → start ≤ 2 → refused (graph_at Undirected journal start) (SetEdge u v 8) ≡ None → IsWithinLimits (SetEdge u v 8)
    → (IsTrue (have_clash Undirected (SetEdge 1 2 9 ∷ []) (SetEdge u v 8 ∷ [])) → 2 ≤ start) → 1 ≤ start
    → IsLegal Undirected (then_commit 3 start (name 2 1) (SetEdge u v 8 ∷ []))
third_legal start u v began allowed within apart from = legal_more Undirected journal (commit 3 start (name 2 1) (SetEdge u v 8 ∷ [])) two_legal (record {
  commit = record {
    stamped = refl;
    started = began;
    wrote = omega arith;
    allowed = (allowed, tt);
    within = (within, tt);
  };
  unnamed = each_item (λ (d : Commit). d.by ≡ name 2 1 → ⊥) journal (λ same. other_job (name 0 1) (name 2 1) refl same, (λ same. other_job (name 1 1) (name 2 1) refl same, tt));
  apart = each_item (λ (d : Commit). IsTrue (have_clash Undirected d.writes (SetEdge u v 8 ∷ [])) → d.stamp ≤ start) journal (λ clash. from, (apart, tt));
})

abbrev journal_arcs : Arcs
journal_arcs = ((1, 2), 9) ∷ ((2, 1), 9) ∷ ((2, 3), 1) ∷ ((3, 2), 1) ∷ []

journal_entries : HasEntries (graph_at Undirected journal 2) load_marks journal_arcs
journal_entries = entries_made Undirected (load ++ SetEdge 1 2 9 ∷ [])

pub legal_journals : LegalExamples
legal_journals = record {
  legal = two_legal;
  overlaps_apart = third_legal 1 2 3 (omega arith) (by_load (SetEdge 2 3 8)) (omega arith, omega arith, omega arith) never_clash (omega arith);
  follows = third_legal 2 2 1 (omega arith) (refused_at (graph_at Undirected journal 2) load_marks journal_arcs journal_entries (SetEdge 2 1 8)) (omega arith, omega arith, omega arith) (λ clash. omega arith) (omega arith);
}

-- ---- journals that aren't legal

overlapping : IsLegal Undirected (then_commit 3 1 (name 2 1) (SetEdge 2 1 8 ∷ [])) → ⊥
overlapping legal = omega (arith, legal.apart 1 2 _ _ (omega arith) refl refl refl)

pub illegal_journals : IllegalExamples
illegal_journals = record {
  overlaps = overlapping;
  commits_twice = λ legal. omega (arith, legal.names 1 2 _ _ refl refl refl);
  writes_nothing = λ legal. omega (arith, (legal.each 2 _ refl).wrote);
  skips_a_stamp = λ legal. omega (arith, (legal.each 2 _ refl).stamped);
  starts_at_itself = λ legal. omega (arith, (legal.each 2 _ refl).started);
  not_on_its_snapshot = λ legal. some_none (NoVertex 5) (sym (by_load (AddEdge 4 5 1)) ∙ (legal.each 2 _ refl).allowed.0);
  refused_by_its_snapshot = λ legal. some_none SelfLoop ((legal.each 2 _ refl).allowed.0);
  too_great_id = λ legal. omega (arith, (legal.each 2 _ refl).within.0);
  too_heavy = λ legal. omega (arith, (legal.each 2 _ refl).within.0.2);
}

-- ---- views

pub views : ViewExamples
views = record {
  old_weight = made_weight Undirected load 1 2;
  new_weight = made_weight Undirected (load ++ SetEdge 1 2 9 ∷ []) 2 1;
  nothing_yet = made_vertex Undirected [] 1;
  own = made_weight Undirected (load ++ AddEdge 1 4 1 ∷ []) 4 1;
  own_dropped = made_weight Undirected (load ++ DropEdge 1 2 ∷ []) 2 1;
  own_vertex = made_vertex Undirected (load ++ AddVertex 5 ∷ []) 5;
  own_removed = made_vertex Undirected (load ++ SetEdge 1 2 9 ∷ DropVertex 4 ∷ []) 4;
  last_of_its_own = made_weight Undirected (load ++ SetEdge 1 2 9 ∷ SetEdge 1 2 7 ∷ SetEdge 2 1 6 ∷ []) 1 2;
}

-- ---- accounts

no_writes : {P : Type 0} (w : Write) (ws : List Write) → w ∷ ws ≡ [] → P
no_writes w ws e = cc

last_list : {X : Type 0} (earlier : List X) (x a b : X) → a ∷ b ∷ [] ≡ earlier ++ x ∷ [] → b ≡ x
last_list [] x a b e = cc
last_list {X = X} (y ∷ []) x a b e = let rest : ◌≡◌ {A = List X} (b ∷ []) (x ∷ []) = cc in cc
last_list {X = X} (y ∷ z ∷ []) x a b e = let rest : ◌≡◌ {A = List X} (b ∷ []) (z ∷ x ∷ []) = cc in cc
last_list {X = X} (y ∷ z ∷ t ∷ ys) x a b e = let rest : ◌≡◌ {A = List X} (b ∷ []) (z ∷ t ∷ (ys ++ x ∷ [])) = cc in cc

pub accounts : AccountExamples
accounts = record {
  valid = record {
    legal = two_legal;
    current = record {
      seen = omega arith;
      allowed = (by_load (AddEdge 1 4 1), tt);
      within = ((omega arith, omega arith, omega arith), tt);
      last = ([] ∷ [], refl);
    };
    idle = tt;
    counted = refl;
    room = omega arith;
  };
  ended = record { legal = two_legal; current = tt; idle = refl; counted = refl; room = omega arith };
  own_where_none_is_open = λ is. no_writes _ _ is.idle;
  own_not_made = λ is. no_writes _ _ (last_list is.current.last.0 [] [] (AddEdge 1 4 1 ∷ []) is.current.last.1);
  begun_not_made = λ is. omega (arith, is.counted);
  more_than_allowed = λ is. omega (arith, is.room);
  start_not_seen = λ is. omega (arith, is.current.seen);
  not_on_its_snapshot = λ is. some_none (NoVertex 9) (sym (by_load (AddEdge 1 9 1)) ∙ is.current.allowed.0);
  too_heavy = λ is. omega (arith, is.current.within.0.2);
  seen_not_legal = λ is. overlapping is.legal;
}

-- ---- begins

pub begins : BeginExamples
begins = record {
  at_what_is_seen = record { room = omega arith; by = refl; from = omega arith; until = omega arith; opened = record { seen = ([], refl); others = refl } };
  at_more = record { room = omega arith; by = refl; from = omega arith; until = omega arith; opened = record { seen = (commit 3 2 (name 2 1) (SetEdge 2 1 8 ∷ []) ∷ [], refl); others = refl } };
  not_before_what_was_seen = λ is. omega (arith, is.from);
  not_behind_what_is_seen = λ is. omega (arith, is.until);
  not_by_a_used_number = λ is. let number : ◌≡◌ {A = ℕ} 2 3 = ap (λ (n : TxnName). n.number) is.by in omega (arith, number);
  not_without_a_number_left = λ is. omega (arith, is.room);
  all_used = (omega arith, record { seen = ([], refl); others = refl });
  not_all_used = λ is. omega (arith, is.0);
}

-- ---- writes

-- the arcs that the open transaction sees: those of the load, and of its own edge
abbrev seen_arcs : Arcs
seen_arcs = ((1, 2), 1) ∷ ((1, 4), 1) ∷ ((2, 1), 1) ∷ ((2, 3), 1) ∷ ((3, 2), 1) ∷ ((4, 1), 1) ∷ []

-- what its view refuses
pub by_view : (w : Write) → refused (view_of account 1) w ≡ refusal_in load_marks seen_arcs w
by_view w = refused_at (view_of account 1) load_marks seen_arcs (entries_made Undirected (load ++ AddEdge 1 4 1 ∷ [])) w

-- what is true at the start of the open transaction is what it is answered
answered : (w : Write) (result : Result (Unit {0}) Refusal) (new : Account) → WritesAt account 1 w result new → WritesBy account w result new
answered w result new at = at_start account w result new 1 refl at

-- what is in a list of one
only_one : (y x k : ℕ) → k < 1 → get_or (y ∷ []) k x ≡ x → y ≡ x
only_one y x zero lt e = e
only_one y x (suc k) lt e = absurd (omega arith)

-- what the view refuses, and nothing else
refuses : (w : Write) (refusal : Refusal) → WritesAt account 1 w (Err refusal) account → WritesBy account w (Err refusal) account
refuses w refusal at = answered w (Err refusal) account at

pub other_vertex : {P : Type 0} (u v : ℕ) → (u == v) ≡ false → ◌≡◌ {A = Option Refusal} (Some (NoVertex u)) (Some (NoVertex v)) → P
other_vertex u v apart e = let same : u ≡ v = cc in true_false (sym (self_eq v) ∙ ap (λ n. n == v) (sym same) ∙ apart)

pub writes : WriteExamples
writes = record {
  made = answered (SetEdge 1 4 5) (Ok tt) (with_write account (SetEdge 1 4 5))
      (by_view (SetEdge 1 4 5), record { seen = ([], refl); others = refl });
  loop_not_made = λ is. some_none SelfLoop (is 1 refl).0;
  loop_refused = answered (SetEdge 2 2 5) (Err SelfLoop) account (refl, record { seen = ([], refl); others = refl });
  no_loop_not_refused = λ is. some_none SelfLoop (sym (is 1 refl).0 ∙ by_view (SetEdge 1 4 5));
  no_vertex = refuses (AddEdge 1 9 5) (NoVertex 9) (by_view (AddEdge 1 9 5), as_it_was);
  not_another_vertex = λ is. other_vertex 9 1 refl (sym (by_view (AddEdge 1 9 5)) ∙ (is 1 refl).0);
  not_a_vertex_for_an_edge = λ is. some_none (NoVertex 9) (sym (is 1 refl).0 ∙ by_view (SetEdge 1 4 5));
  vertex_exists = refuses (AddVertex 4) VertexExists (by_view (AddVertex 4), as_it_was);
  no_vertex_exists = λ is. some_none VertexExists (sym (is 1 refl).0 ∙ by_view (AddVertex 5));
  edge_exists = refuses (AddEdge 4 1 5) EdgeExists (by_view (AddEdge 4 1 5), as_it_was);
  no_edge_exists = λ is. some_none EdgeExists (sym (is 1 refl).0 ∙ by_view (AddEdge 1 3 5));
  no_edge = refuses (DropEdge 1 3) NoEdge (by_view (DropEdge 1 3), as_it_was);
  an_edge_is_there = λ is. some_none NoEdge (sym (is 1 refl).0 ∙ by_view (SetEdge 1 4 5));
  has_edges = refuses (DropVertex 1) HasEdges (by_view (DropVertex 1), as_it_was);
  no_edges_in_the_way = λ is. some_none HasEdges (sym (is 1 refl).0 ∙ by_view (SetEdge 1 4 5));
  met_a_commit = answered (SetEdge 1 2 5) (Err (Conflict (Later 2))) account
      (by_view (SetEdge 1 2 5), (0, omega arith, refl), record { seen = ([], refl); others = refl });
  met_a_holder = answered (SetEdge 1 2 5) (Err (Conflict (Holder (name 3 1)))) (with_cause account 1 (SetEdge 1 2 5) (Holder (name 3 1)))
      (by_view (SetEdge 1 2 5), (λ same. let job : ◌≡◌ {A = ℕ} 3 2 = same in omega (arith, job)), record { seen = ([], refl); others = refl });
  not_one_that_it_sees = λ is.
      let named = (is 1 refl).1 in
      let stamp : ◌≡◌ {A = ℕ} 2 1 = only_one 2 1 named.0 named.1 named.2 in
      omega (arith, stamp);
  not_one_that_is_apart = λ is. let named = (is 1 refl).1 in let none : named.0 < 0 = named.1 in omega (arith, none);
  not_its_own_pass = λ is. (is 1 refl).1 refl;
  loop_meets_nobody = λ is. some_none SelfLoop (is 1 refl).0;
  full = answered (AddVertex 5) (Err (Full 4)) (record account { filled = true })
      (by_view (AddVertex 5), refl, refl, record { seen = ([], refl); others = refl });
  not_full_for_a_weight = λ is. true_false (sym (is 1 refl).1);
  not_full_for_what_is_there = λ is. some_none VertexExists (sym (by_view (AddVertex 4)) ∙ (is 1 refl).0);
  not_full_with_other_leaves = λ is. omega (arith, (is 1 refl).2);
}
  where
    as_it_was : GoesOn account account account
    as_it_was = record { seen = ([], refl); others = refl }

-- ---- commits

-- of three commits the one with the last stamp is the third
third_is : (start stamp : ℕ) (by : TxnName) (writes : List Write) (has : HasCommit account start 3 (then_commit 3 stamp by writes)) → has.commit ≡ commit 3 stamp by writes
third_is start stamp by writes has =
    let place : has.place ≡ 2 = omega (arith, has.stamped) in
    some_eq has.commit (commit 3 stamp by writes) (sym has.at ∙ ap (λ i. slice_get (then_commit 3 stamp by writes) i) place)

pub commits : CommitExamples
commits = record {
  commits = (
    λ start began. record {
      wrote = omega arith;
      place = 2;
      commit = commit 3 1 (name 2 2) account.own;
      at = refl;
      stamped = refl;
      begun = some_eq 1 start began;
      by = refl;
      writes = refl;
    },
    record { seen = (commit 3 1 (name 2 2) account.own ∷ [], refl); others = refl },
  );
  not_by_another_pass = λ is.
      let has = is.0 1 refl in
      let job : ◌≡◌ {A = ℕ} 3 2 = ap (λ (c : Commit). c.by.job) (sym (third_is 1 1 (name 3 1) account.own has)) ∙ ap (λ (n : TxnName). n.job) has.by in
      omega (arith, job);
  not_by_another_number = λ is.
      let has = is.0 1 refl in
      let number : ◌≡◌ {A = ℕ} 1 2 = ap (λ (c : Commit). c.by.number) (sym (third_is 1 1 (name 2 1) account.own has)) ∙ ap (λ (n : TxnName). n.number) has.by in
      omega (arith, number);
  not_from_another_start = λ is.
      let has = is.0 1 refl in
      let start : ◌≡◌ {A = ℕ} 2 1 = ap (λ (c : Commit). c.start) (sym (third_is 1 2 (name 2 2) account.own has)) ∙ has.begun in
      omega (arith, start);
  not_of_other_writes = λ is.
      let has = is.0 1 refl in
      other_target (ap (λ (c : Commit). c.writes) (sym (third_is 1 1 (name 2 2) (AddEdge 1 3 1 ∷ []) has)) ∙ has.writes);
  not_at_another_stamp = λ is.
      let has = is.0 1 refl in
      let place : has.place ≡ 1 = omega (arith, has.stamped) in
      let second = some_eq has.commit (commit 2 1 (name 1 1) (SetEdge 1 2 9 ∷ [])) (sym has.at ∙ ap (λ i. slice_get (then_commit 3 1 (name 2 2) account.own) i) place) in
      let job : ◌≡◌ {A = ℕ} 1 2 = ap (λ (c : Commit). c.by.job) (sym second) ∙ ap (λ (n : TxnName). n.job) has.by in
      omega (arith, job);
  not_without_a_stamp = λ is. no_writes _ _ is.0;
  not_of_no_writes = λ is. let wrote : 0 < 0 = (is.0 1 refl).wrote in omega (arith, wrote);
}
  where
    other_target : AddEdge 1 3 1 ∷ [] ≡ AddEdge 1 4 1 ∷ [] → ⊥
    other_target same = let target : ◌≡◌ {A = ℕ} 3 4 = cc in omega (arith, target)
