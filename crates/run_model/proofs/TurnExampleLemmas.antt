-- The examples of runs by turns, turn by turn.
use Rattle.std.proofs.Common.{◌≡◌, ℕ, zero, suc, ◌+◌, ◌/◌, ◌≤◌, List, [], ◌∷◌, length, refl, sym, ◌∙◌, ap, subst, arith}
use Rattle.std.specs.Prelude.{Bool, cond, nat_lt, true, false, ◌||◌, slice_get, Some, None}
use Rattle.std.specs.FinMap as fin_map
use Rattle.std.specs.List.{list_any}
use Rattle.std.proofs.lemmas.Bool.{true≢false}
use Rattle.std.proofs.lemmas.Option.{none-some}
use Rattle.graph_model.specs.declared.limits.TheConstants.{MAX_BEGINS}
use Rattle.graph_model.specs.declared.write.Kind.TheVariants.{Undirected}
use Rattle.graph_model.specs.declared.write.Write.TheVariants as writes
use Rattle.graph_model.specs.declared.refusal.Cause.{Cause}
use Rattle.graph_model.specs.declared.refusal.Cause.TheVariants.{Later, Holder}
use Rattle.graph_model.specs.Graph.{Graph, empty_graph, apply_all}
use Rattle.graph_model.specs.History.{view}
use Rattle.graph_model.specs.Refused.{refused}
use Rattle.graph_model.specs.Rows.{first_key, end_key, all_rows}
use Rattle.graph_model.proofs.EntryLemmas.{entries_made, refused_at, vertices_are, rows_at}
use Rattle.graph_model.proofs.PlaceLemmas.{some_eq}
use Rattle.run_model.specs.declared.command.Command.TheVariants as commands
use Rattle.run_model.specs.declared.answer.Answer.{Answer}
use Rattle.run_model.specs.declared.answer.Answer.TheVariants as answers
use Rattle.run_model.specs.declared.command.Query.TheVariants.{Counts}
use Rattle.run_model.specs.Commands.{begun_by, IsScript}
use Rattle.run_model.specs.Answering.{edges_in, query_answer}
use Rattle.run_model.specs.Inputs.{Inputs, AreInputs, Outputs}
use Rattle.run_model.specs.Run.{txn_name, load_commit, HasFiles}
use Rattle.run_model.specs.Jobs.{JobState, RunState, LineResult, new_job, line_turn, first_state, answered_job, goes_on, writes_more, stops, ends, begins, skips, write_result, turn, has_ended}
use Rattle.run_model.specs.Stepped.{setting_of, turn_at, context_in, IsReached}
use Rattle.run_model.specs.Laws.{HasFull}
use Rattle.run_model.specs.Examples.{load, sets, nine, OrderExamples, MeetsByTurns, TurnExamples, vertices_to, CountsRows, CountExamples, one_vertex, AddsByTurns, PlaceExamples}
use Rattle.run_model.proofs.ExampleLemmas.{at_one, at_two, is_full, two_inputs, wrong_answers}
use Rattle.run_model.proofs.FullLemmas.{full_settles}
use Rattle.run_model.proofs.SteppedLemmas.{stepped_is_run}
use Rattle.run_model.proofs.UnderWayLemmas.{answered_run}

pub orders : OrderExamples
orders = record { by_rotation = refl; by_schedule = refl; service = refl; one_script = refl }

module _ (inputs : Inputs) (leaves : ℕ) (schedule : List ℕ) where
  -- the state behind so many turns
  abbrev Behind : ℕ → RunState → Type 0
  Behind n s = IsReached (setting_of inputs leaves schedule) (first_state inputs) n s

  -- one turn more, in which a place is found
  one_more : (n : ℕ) (before s : RunState) → Behind n before → has_ended before ≡ false → s ≡ turn inputs.kind before (turn_at (length inputs.scripts) schedule n) false → Behind (suc n) s
  one_more n before s reached going step = (before, false, reached, going, (λ f. absurd (true≢false (sym f))), step)

-- the state behind so many turns on one leaf
abbrev At : Inputs → List ℕ → ℕ → RunState → Type 0
At inputs schedule n s = Behind inputs 1 schedule n s

next : (inputs : Inputs) (schedule : List ℕ) (n : ℕ) (before s : RunState) → At inputs schedule n before → has_ended before ≡ false
    → s ≡ turn inputs.kind before (turn_at (length inputs.scripts) schedule n) false → At inputs schedule (suc n) s
next inputs schedule = one_more inputs 1 schedule

-- ---- two scripts that set one edge

set_nine : refused (apply_all Undirected empty_graph load) (writes.SetEdge 1 2 9) ≡ None
set_nine = refused_at _ _ _ (entries_made Undirected load) (writes.SetEdge 1 2 9)

set_eight : refused (apply_all Undirected empty_graph load) (writes.SetEdge 1 2 8) ≡ None
set_eight = refused_at _ _ _ (entries_made Undirected load) (writes.SetEdge 1 2 8)

-- the first script before its first line, and behind each
abbrev a0 : JobState
a0 = new_job (sets 9)

abbrev a1 : JobState
a1 = answered_job a0 commands.Begin (commands.Write (writes.SetEdge 1 2 9) ∷ commands.Commit ∷ []) (begins (txn_name 1 1) 1)

abbrev a2 : JobState
a2 = answered_job a1 (commands.Write (writes.SetEdge 1 2 9)) (commands.Commit ∷ []) (writes_more a1 (writes.SetEdge 1 2 9))

abbrev a3 : JobState
a3 = answered_job a2 commands.Commit [] (ends (answers.Committed (Some 2)) (nine 2 ∷ []))

-- and the second
abbrev b0 : JobState
b0 = new_job (sets 8)

abbrev b1 : JobState
b1 = answered_job b0 commands.Begin (commands.Write (writes.SetEdge 1 2 8) ∷ commands.Commit ∷ []) (begins (txn_name 2 1) 1)

abbrev b2 : Cause → JobState
b2 cause = answered_job b1 (commands.Write (writes.SetEdge 1 2 8)) (commands.Commit ∷ []) (stops (answers.Conflict cause))

abbrev b3 : Cause → JobState
b3 cause = answered_job (b2 cause) commands.Commit [] (skips commands.Commit)

-- before the first has committed, and behind it
abbrev early : JobState → JobState → RunState
early a b = record { journal = load_commit load ∷ []; jobs = a ∷ b ∷ [] }

abbrev late : JobState → JobState → RunState
late a b = record { journal = load_commit load ∷ nine 2 ∷ []; jobs = a ∷ b ∷ [] }

-- the first sets the edge; the second meets it, or its commit
first_sets : early a2 b1 ≡ turn Undirected (early a1 b1) 1 false
first_sets = ap (λ r. answered_run (early a1 b1) 0 a1 (commands.Write (writes.SetEdge 1 2 9)) (commands.Commit ∷ []) (write_result a1 (writes.SetEdge 1 2 9) r None false)) (sym set_nine)

second_meets_open : early a2 (b2 (Holder (txn_name 1 1))) ≡ turn Undirected (early a2 b1) 2 false
second_meets_open = ap (λ r. answered_run (early a2 b1) 1 b1 (commands.Write (writes.SetEdge 1 2 8)) (commands.Commit ∷ []) (write_result b1 (writes.SetEdge 1 2 8) r (Some (Holder (txn_name 1 1))) false)) (sym set_eight)

second_meets_later : late a3 (b2 (Later 2)) ≡ turn Undirected (late a3 b1) 2 false
second_meets_later = ap (λ r. answered_run (late a3 b1) 1 b1 (commands.Write (writes.SetEdge 1 2 8)) (commands.Commit ∷ []) (write_result b1 (writes.SetEdge 1 2 8) r (Some (Later 2)) false)) (sym set_eight)

-- what the last state gives
set_runs : (schedule : List ℕ) (cause : Cause) (turns : ℕ) → IsReached (setting_of two_inputs 1 schedule) (first_state two_inputs) turns (late a3 (b3 cause)) → MeetsByTurns schedule cause
set_runs schedule cause turns reached = record {
  turns = turns;
  last = late a3 (b3 cause);
  reached = reached;
  over = refl;
  journal = refl;
  reports = refl;
  filed = refl;
  files = λ k ls files at_script at_files.
      let none : [] ≡ files = at_two (λ k fs. [] ≡ fs) [] [] refl refl k files at_files in
      subst (λ fs. HasFiles (context_in Undirected load (late a3 (b3 cause)) k) [] ls fs) none
      (at_two (λ k ls. HasFiles (context_in Undirected load (late a3 (b3 cause)) k) [] ls []) a3.lines (b3 cause).lines ([], refl, ([], refl, ([], refl, refl))) ([], refl, ([], refl, ([], refl, refl))) k ls at_script);
}

abbrev open_one : Cause
open_one = Holder (txn_name 1 1)

rotated_turns : At two_inputs [] 8 (late a3 (b3 open_one))
rotated_turns =
    next two_inputs [] 7 (late a3 (b2 open_one)) (late a3 (b3 open_one))
    (next two_inputs [] 6 (early a2 (b2 open_one)) (late a3 (b2 open_one))
    (next two_inputs [] 5 (early a2 (b2 open_one)) (early a2 (b2 open_one))
    (next two_inputs [] 4 (early a2 b1) (early a2 (b2 open_one))
    (next two_inputs [] 3 (early a1 b1) (early a2 b1)
    (next two_inputs [] 2 (early a1 b1) (early a1 b1)
    (next two_inputs [] 1 (early a1 b0) (early a1 b1)
    (next two_inputs [] 0 (early a0 b0) (early a1 b0) refl refl refl)
    refl refl) refl refl) refl first_sets) refl second_meets_open) refl refl) refl refl) refl refl

abbrev in_a_row : List ℕ
in_a_row = 2 ∷ 1 ∷ 1 ∷ 1 ∷ 2 ∷ 2 ∷ []

scheduled_turns : At two_inputs in_a_row 6 (late a3 (b3 (Later 2)))
scheduled_turns =
    next two_inputs in_a_row 5 (late a3 (b2 (Later 2))) (late a3 (b3 (Later 2)))
    (next two_inputs in_a_row 4 (late a3 b1) (late a3 (b2 (Later 2)))
    (next two_inputs in_a_row 3 (early a2 b1) (late a3 b1)
    (next two_inputs in_a_row 2 (early a1 b1) (early a2 b1)
    (next two_inputs in_a_row 1 (early a0 b1) (early a1 b1)
    (next two_inputs in_a_row 0 (early a0 b0) (early a0 b1) refl refl refl)
    refl refl) refl first_sets) refl refl) refl second_meets_later) refl refl

-- reports in which no answer is `full`
no_full : (reports : List (List Answer)) → list_any (λ r. list_any is_full r) reports ≡ false → (k i : ℕ) → HasFull reports k i → ⊥
no_full [] none k i is = none-some _ is.1
no_full (r ∷ reports) none zero i is = in_report r i (neither (list_any is_full r) _ none).0 (ap (λ xs. slice_get xs i) (some_eq r is.0 is.1) ∙ is.2)
  where
    neither : (a b : Bool) → (a || b) ≡ false → (a ≡ false) × (b ≡ false)
    neither true b e = cc
    neither false b e = (refl, e)

    in_report : (xs : List Answer) (i : ℕ) → list_any is_full xs ≡ false → slice_get xs i ≡ Some answers.Full → ⊥
    in_report [] i none at = none-some _ at
    in_report (x ∷ xs) zero none at =
        let full : is_full x ≡ true = ap is_full (some_eq x answers.Full at) in
        true≢false (sym full ∙ (neither (is_full x) _ none).0)
    in_report (x ∷ xs) (suc i) none at = in_report xs i (neither (is_full x) _ none).1 at
no_full (r ∷ reports) none (suc k) i is = no_full reports (rest (list_any is_full r) _ none) k i is
  where
    rest : (a b : Bool) → (a || b) ≡ false → b ≡ false
    rest true b e = cc
    rest false b e = e

abbrev second_report : Cause → List Answer
second_report c = answers.Begun (txn_name 2 1) 1 ∷ answers.Conflict c ∷ answers.Skipped ∷ []

abbrev both_reports : Cause → List (List Answer)
both_reports c = (answers.Begun (txn_name 1 1) 1 ∷ answers.Done ∷ answers.Committed (Some 2) ∷ []) ∷ second_report c ∷ []

-- one schedule gives one cause
one_cause : (schedule : List ℕ) (cause cause' : Cause) → MeetsByTurns schedule cause → MeetsByTurns schedule cause' → cause ≡ cause'
one_cause schedule cause cause' is that =
    let same = full_settles two_inputs 1 1 schedule _ _ is that (λ k i. ((λ full. absurd (no_full (both_reports cause) refl k i full)), (λ full. absurd (no_full (both_reports cause') refl k i full)))) in
    second _ _ (ap (λ (x : Outputs). x.reports) same.0)
  where
    second : (xs ys : List Answer) → xs ∷ second_report cause ∷ [] ≡ ys ∷ second_report cause' ∷ [] → cause ≡ cause'
    second xs ys e = let r : second_report cause ≡ second_report cause' = some_eq _ _ (ap (λ rs. slice_get rs 1) e) in cc

pub turns : TurnExamples
turns = record {
  while_open = set_runs [] open_one 8 rotated_turns;
  not_yet_later = λ run. other_cause (one_cause [] open_one (Later 2) (set_runs [] open_one 8 rotated_turns) run);
  once_committed = set_runs in_a_row (Later 2) 6 scheduled_turns;
  no_longer_open = λ run. other_cause (one_cause in_a_row open_one (Later 2) run (set_runs in_a_row (Later 2) 6 scheduled_turns));
}
  where
    other_cause : open_one ≡ Later 2 → ⊥
    other_cause e = cc

-- ---- a count

-- what the counting script sees
abbrev seen : ℕ → Graph
seen n = view Undirected (load_commit (vertices_to n) ∷ []) 1 []

-- it has so many rows, and as many vertices; so this is what a count is answered
record IsCounted (n : ℕ) : Type 0 where
  rows : length (all_rows (seen n)) ≡ n
  answer : query_answer Undirected (seen n) Counts ≡ answers.Counted n 0

counted_63 : IsCounted 63
counted_63 = record {
  rows = ap length (rows_at _ _ _ (entries_made Undirected (vertices_to 63)) first_key end_key);
  answer = (λ i. answers.Counted (length (vertices_are _ _ _ (entries_made Undirected (vertices_to 63)) i)) (no_edges i));
}
  where
    no_edges : edges_in Undirected (seen 63) ≡ 0
    no_edges = ap (λ n. n / 2) (fin_map.len-entries (seen 63).arcs ∙ ap length (entries_made Undirected (vertices_to 63)).arcs)

counted_64 : IsCounted 64
counted_64 = record {
  rows = ap length (rows_at _ _ _ (entries_made Undirected (vertices_to 64)) first_key end_key);
  answer = (λ i. answers.Counted (length (vertices_are _ _ _ (entries_made Undirected (vertices_to 64)) i)) (no_edges i));
}
  where
    no_edges : edges_in Undirected (seen 64) ≡ 0
    no_edges = ap (λ n. n / 2) (fin_map.len-entries (seen 64).arcs ∙ ap length (entries_made Undirected (vertices_to 64)).arcs)

abbrev count_inputs : ℕ → Inputs
count_inputs n = record {
  kind = Undirected;
  load = vertices_to n;
  scripts = (commands.Begin ∷ commands.Read Counts ∷ commands.Abort ∷ []) ∷ (commands.Begin ∷ commands.Commit ∷ []) ∷ [];
}

-- the script that counts: before its first line, behind each, and with so many turns of the count taken
abbrev c0 : JobState
c0 = new_job (commands.Begin ∷ commands.Read Counts ∷ commands.Abort ∷ [])

abbrev c1 : ℕ → JobState
c1 taken = record (answered_job c0 commands.Begin (commands.Read Counts ∷ commands.Abort ∷ []) (begins (txn_name 1 1) 1)) { taken = taken }

abbrev c2 : ℕ → JobState
c2 n = answered_job (c1 0) (commands.Read Counts) (commands.Abort ∷ []) (goes_on (c1 0) (answers.Counted n 0))

abbrev c3 : ℕ → JobState
c3 n = answered_job (c2 n) commands.Abort [] (ends answers.Aborted [])

-- the script that does nothing
abbrev d0 : JobState
d0 = new_job (commands.Begin ∷ commands.Commit ∷ [])

abbrev d1 : JobState
d1 = answered_job d0 commands.Begin (commands.Commit ∷ []) (begins (txn_name 2 1) 1)

abbrev d2 : JobState
d2 = answered_job d1 commands.Commit [] (ends (answers.Committed None) [])

abbrev counting : ℕ → JobState → JobState → RunState
counting n c d = record { journal = load_commit (vertices_to n) ∷ []; jobs = c ∷ d ∷ [] }

module _ (n : ℕ) (is : IsCounted n) (d : JobState) (taken : ℕ) where
  -- while more rows are left than a turn gives, the count goes on
  count_waits : nat_lt (taken + 1) (n / 64 + 1) ≡ true → counting n (c1 (taken + 1)) d ≡ turn Undirected (counting n (c1 taken) d) 1 false
  count_waits more =
      ap (λ t. cond t (counting n (c1 (taken + 1)) d) (line_turn Undirected (counting n (c1 taken) d) 0 false (c1 taken) (commands.Read Counts) (commands.Abort ∷ [])))
      (sym (ap (λ r. nat_lt (taken + 1) (r / 64 + 1)) is.rows ∙ more))

  -- then it is answered
  count_ends : nat_lt (taken + 1) (n / 64 + 1) ≡ false → counting n (c2 n) d ≡ turn Undirected (counting n (c1 taken) d) 1 false
  count_ends last =
      ap (λ a. counting n (answered_job (c1 taken) (commands.Read Counts) (commands.Abort ∷ []) (goes_on (c1 taken) a)) d) (sym is.answer)
      ∙ ap (λ t. cond t (counting n (c1 (taken + 1)) d) (line_turn Undirected (counting n (c1 taken) d) 0 false (c1 taken) (commands.Read Counts) (commands.Abort ∷ [])))
      (sym (ap (λ r. nat_lt (taken + 1) (r / 64 + 1)) is.rows ∙ last))

-- what the last state gives
counts_by : (n turns : ℕ) → At (count_inputs n) [] turns (counting n (c3 n) d2) → CountsRows n
counts_by n turns reached = record {
  turns = turns;
  last = counting n (c3 n) d2;
  reached = reached;
  over = refl;
  journal = refl;
  reports = refl;
  filed = refl;
  files = λ k ls files at_script at_files.
      let none : [] ≡ files = at_two (λ k fs. [] ≡ fs) [] [] refl refl k files at_files in
      subst (λ fs. HasFiles (context_in Undirected (vertices_to n) (counting n (c3 n) d2) k) [] ls fs) none
      (at_two (λ k ls. HasFiles (context_in Undirected (vertices_to n) (counting n (c3 n) d2) k) [] ls []) (c3 n).lines d2.lines ([], refl, ([], refl, ([], refl, refl))) ([], refl, ([], refl, refl)) k ls at_script);
}

few_turns : At (count_inputs 63) [] 7 (counting 63 (c3 63) d2)
few_turns =
    next (count_inputs 63) [] 6 (counting 63 (c2 63) d2) (counting 63 (c3 63) d2)
    (next (count_inputs 63) [] 5 (counting 63 (c2 63) d2) (counting 63 (c2 63) d2)
    (next (count_inputs 63) [] 4 (counting 63 (c2 63) d1) (counting 63 (c2 63) d2)
    (next (count_inputs 63) [] 3 (counting 63 (c1 0) d1) (counting 63 (c2 63) d1)
    (next (count_inputs 63) [] 2 (counting 63 (c1 0) d1) (counting 63 (c1 0) d1)
    (next (count_inputs 63) [] 1 (counting 63 (c1 0) d0) (counting 63 (c1 0) d1)
    (next (count_inputs 63) [] 0 (counting 63 c0 d0) (counting 63 (c1 0) d0) refl refl refl)
    refl refl) refl refl) refl (count_ends 63 counted_63 d1 0 refl)) refl refl) refl refl) refl refl

many_turns : At (count_inputs 64) [] 10 (counting 64 (c3 64) d2)
many_turns =
    next (count_inputs 64) [] 9 (counting 64 (c2 64) d2) (counting 64 (c3 64) d2)
    (next (count_inputs 64) [] 8 (counting 64 (c2 64) d2) (counting 64 (c2 64) d2)
    (next (count_inputs 64) [] 7 (counting 64 (c2 64) d2) (counting 64 (c2 64) d2)
    (next (count_inputs 64) [] 6 (counting 64 (c1 1) d2) (counting 64 (c2 64) d2)
    (next (count_inputs 64) [] 5 (counting 64 (c1 1) d2) (counting 64 (c1 1) d2)
    (next (count_inputs 64) [] 4 (counting 64 (c1 1) d1) (counting 64 (c1 1) d2)
    (next (count_inputs 64) [] 3 (counting 64 (c1 0) d1) (counting 64 (c1 1) d1)
    (next (count_inputs 64) [] 2 (counting 64 (c1 0) d1) (counting 64 (c1 0) d1)
    (next (count_inputs 64) [] 1 (counting 64 (c1 0) d0) (counting 64 (c1 0) d1)
    (next (count_inputs 64) [] 0 (counting 64 c0 d0) (counting 64 (c1 0) d0) refl refl refl)
    refl refl) refl refl) refl (count_waits 64 counted_64 d1 0 refl)) refl refl) refl refl) refl (count_ends 64 counted_64 d2 1 refl)) refl refl) refl refl) refl refl

pub counts : CountExamples
unfolding counts_by
counts = record {
  in_one = counts_by 63 7 few_turns;
  one_turn = refl;
  in_two = counts_by 64 10 many_turns;
  two_turns = refl;
  service = refl;
}

-- ---- a place that is missed, and one that is found

abbrev add_inputs : Inputs
add_inputs = record { kind = Undirected; load = one_vertex; scripts = (commands.Begin ∷ commands.Write (writes.AddVertex 2) ∷ commands.Abort ∷ []) ∷ [] }

add_allowed : refused (apply_all Undirected empty_graph one_vertex) (writes.AddVertex 2) ≡ None
add_allowed = refused_at _ _ _ (entries_made Undirected one_vertex) (writes.AddVertex 2)

abbrev e0 : JobState
e0 = new_job (commands.Begin ∷ commands.Write (writes.AddVertex 2) ∷ commands.Abort ∷ [])

abbrev e1 : JobState
e1 = answered_job e0 commands.Begin (commands.Write (writes.AddVertex 2) ∷ commands.Abort ∷ []) (begins (txn_name 1 1) 1)

-- behind the write, as its result says
abbrev e2 : LineResult → JobState
e2 o = answered_job e1 (commands.Write (writes.AddVertex 2)) (commands.Abort ∷ []) o

-- and behind the last line
abbrev e3 : LineResult → LineResult → JobState
e3 o last = answered_job (e2 o) commands.Abort [] last

abbrev adding : JobState → RunState
adding e = record { journal = load_commit one_vertex ∷ []; jobs = e ∷ [] }

adds : (full : Bool) → adding (e2 (write_result e1 (writes.AddVertex 2) None None full)) ≡ turn Undirected (adding e1) 1 full
adds true = ap (λ r. answered_run (adding e1) 0 e1 (commands.Write (writes.AddVertex 2)) (commands.Abort ∷ []) (write_result e1 (writes.AddVertex 2) r None true)) (sym add_allowed)
adds false = ap (λ r. answered_run (adding e1) 0 e1 (commands.Write (writes.AddVertex 2)) (commands.Abort ∷ []) (write_result e1 (writes.AddVertex 2) r None false)) (sym add_allowed)

-- what the last state gives
adds_by : (o last : LineResult) → Behind add_inputs 0 [] 5 (adding (e3 o last))
    → HasFiles (context_in Undirected one_vertex (adding (e3 o last)) 0) [] (e3 o last).lines [] → AddsByTurns 0 (o.answer ∷ last.answer ∷ [])
adds_by o last reached no_files = record {
  turns = 5;
  last = adding (e3 o last);
  reached = reached;
  over = refl;
  journal = refl;
  reports = refl;
  filed = refl;
  files = λ k ls files at_script at_files.
      let none : [] ≡ files = at_one (λ k fs. [] ≡ fs) [] refl k files at_files in
      subst (λ fs. HasFiles (context_in Undirected one_vertex (adding (e3 o last)) k) [] ls fs) none
      (at_one (λ k ls. HasFiles (context_in Undirected one_vertex (adding (e3 o last)) k) [] ls []) (e3 o last).lines no_files k ls at_script);
}

pub places : PlaceExamples
places = record {
  missed = adds_by (stops answers.Full) (skips commands.Abort) missed_turns ([], refl, ([], refl, ([], refl, refl)));
  found = adds_by (writes_more e1 (writes.AddVertex 2)) (ends answers.Aborted []) found_turns ([], refl, ([], refl, ([], refl, refl)));
  too_early = λ run. wrong_answers.full_too_early (stepped_is_run add_inputs 1 [] _ given run);
}
  where
    last_turns : (o last : LineResult) → Behind add_inputs 0 [] 3 (adding (e2 o)) → adding (e3 o last) ≡ turn Undirected (adding (e2 o)) 1 false → Behind add_inputs 0 [] 5 (adding (e3 o last))
    last_turns o last reached step =
        one_more add_inputs 0 [] 4 (adding (e2 o)) (adding (e3 o last)) (one_more add_inputs 0 [] 3 (adding (e2 o)) (adding (e2 o)) reached refl refl) refl step

    begun_turns : Behind add_inputs 0 [] 2 (adding e1)
    begun_turns = one_more add_inputs 0 [] 1 (adding e1) (adding e1) (one_more add_inputs 0 [] 0 (adding e0) (adding e1) refl refl refl) refl refl

    missed_turns : Behind add_inputs 0 [] 5 (adding (e3 (stops answers.Full) (skips commands.Abort)))
    missed_turns = last_turns (stops answers.Full) (skips commands.Abort) (adding e1, true, begun_turns, refl, (λ _. omega arith), adds true) refl

    found_turns : Behind add_inputs 0 [] 5 (adding (e3 (writes_more e1 (writes.AddVertex 2)) (ends answers.Aborted [])))
    found_turns = last_turns (writes_more e1 (writes.AddVertex 2)) (ends answers.Aborted [])
        (one_more add_inputs 0 [] 2 (adding e1) (adding (e2 (writes_more e1 (writes.AddVertex 2)))) begun_turns refl (adds false)) refl

    given : AreInputs add_inputs
    given = record {
      allowed = (add_first, tt);
      within = (omega arith, tt);
      count = omega arith;
      scripts = at_one (λ k cs. IsScript (Some false) cs) (commands.Begin ∷ commands.Write (writes.AddVertex 2) ∷ commands.Abort ∷ []) (tt, (omega arith, (tt, refl)));
      begins = at_one (λ k cs. begun_by 0 cs ≤ MAX_BEGINS) (commands.Begin ∷ commands.Write (writes.AddVertex 2) ∷ commands.Abort ∷ []) (omega arith);
    }
      where
        add_first : refused empty_graph (writes.AddVertex 1) ≡ None
        add_first = refused_at _ _ _ (entries_made Undirected []) (writes.AddVertex 1)
