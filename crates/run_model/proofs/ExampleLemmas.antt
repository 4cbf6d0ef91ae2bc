-- The examples, by computation.
use Rattle.std.proofs.Common.{◌≡◌, ℕ, zero, suc, ◌+◌, ◌<◌, ◌≤◌, ◌⊎◌, inl, inr, ⊎_elim, List, [], ◌∷◌, length, slice_get, cond, Some, None, refl, sym, ap, ◌∙◌, subst, arith}
use Rattle.std.specs.Prelude.{Bool, true, false, ◌==◌, ◌||◌, Contains, take, drop, Option, is_some, IsTrue, map as list_map}
use Rattle.std.specs.Ordering.{nat_cmp, eq_by_cmp}
use Rattle.std.specs.Cmp.{nat_cmp_total}
use Rattle.std.specs.FinMap as map
use Rattle.std.specs.FinMap.{FinMap}
use Rattle.std.specs.Fmt.{digits}
use Rattle.std.proofs.lemmas.Option.{same_Some, none-some}
use Rattle.graph_model.specs.declared.write.Kind.{Kind}
use Rattle.graph_model.specs.declared.write.Kind.TheVariants.{Undirected}
use Rattle.graph_model.specs.declared.write.Write.{Write}
use Rattle.graph_model.specs.declared.write.Write.TheVariants as writes
use Rattle.graph_model.specs.declared.journal.TxnName.{TxnName}
use Rattle.graph_model.specs.declared.journal.Commit.{Commit}
use Rattle.graph_model.specs.declared.refusal.Cause.{Cause}
use Rattle.graph_model.specs.declared.refusal.Cause.TheVariants.{Later, Holder}
use Rattle.graph_model.specs.Graph.{Graph, arc_cmp, empty_graph, has_vertex, vertices_of, apply, apply_all, HasBothEnds}
use Rattle.graph_model.specs.Items.{clash}
use Rattle.graph_model.specs.Refused.{refused, AllAllowed, IsWithinLimits}
use Rattle.graph_model.specs.History.{graph_at}
use Rattle.graph_model.specs.Legal.{have_clash, IsLegalCommit, IsLegal}
use Rattle.graph_model.proofs.EntryLemmas.{entries_made, refused_at}
use Rattle.graph_model.proofs.LoadLemmas.{journal_legal}
use Rattle.graph_model.proofs.OrderLemmas.{arcs_total}
use Rattle.graph_model.proofs.WriteLemmas.{keeps_ends}
use Rattle.run_model.specs.declared.command.Command.{Command}
use Rattle.run_model.specs.declared.command.Command.TheVariants as commands
use Rattle.run_model.specs.declared.answer.Answer.{Answer}
use Rattle.run_model.specs.declared.answer.Answer.TheVariants as answers
use Rattle.run_model.specs.Inputs.{Inputs, AreInputs, File}
use Rattle.run_model.specs.AnsweredLines.{AnsweredLine, answered_lines, made_by}
use Rattle.graph_model.specs.declared.refusal.Refusal.{Refusal}
use Rattle.graph_model.specs.declared.refusal.Refusal.TheVariants as refusals
use Rattle.graph_model.specs.declared.table.Entry.{Entry}
use Rattle.graph_model.specs.declared.table.Value.TheVariants.{Number}
use Rattle.graph_model.specs.Tables.{IsTable, IsCdlpValue}
use Rattle.run_model.specs.Answering.{targets_of, edges_in, weight_answer, query_answer, table_answer}
use Rattle.run_model.proofs.SnapshotLemmas.{target_arc}
use Rattle.run_model.specs.declared.command.Query.TheVariants.{Counts}
use Rattle.run_model.specs.Commands.{begun_by, IsScript}
use Rattle.run_model.specs.Run.{Context, txn_name, load_commit, IsCause, IsWriteAnswer, AllAnswered, HasFiles, IsLoad, IsShown}
use Rattle.graph_model.specs.declared.limits.TheConstants.{MAX_WEIGHT, MAX_BEGINS}
use Rattle.std.specs.List.{AllByRecursion, list_any, slice_index_or}
use Rattle.run_model.proofs.ShortLemmas.{line_numbered}
use Rattle.run_model.specs.Examples.{load, sets, nine, Meets, MeetsApart, ConflictExamples, one_vertex, GetsOn, GetsAnswers, AnswerExamples, WrongAnswers, WrongParts, TextExamples}

pub texts : TextExamples
unfolding digits
texts = record { journal = refl; report = refl }

-- what a graph has that is made of the empty one by literal writes
vertex_put : (vertices : FinMap nat_cmp (Unit {0})) (v q : ℕ) → map.get (map.insert vertices v tt) q ≡ cond (eq_by_cmp nat_cmp q v) (Some tt) (map.get vertices q)
vertex_put vertices v q = map.get-insert nat_cmp_total vertices v tt q

no_vertex : (q : ℕ) → map.get (map.empty {X = Unit {0}} {R = nat_cmp}) q ≡ None
no_vertex q = map.get-empty nat_cmp q

arc_put : (arcs : FinMap arc_cmp ℕ) (a : ℕ × ℕ) (weight : ℕ) (q : ℕ × ℕ) → map.get (map.insert arcs a weight) q ≡ cond (eq_by_cmp arc_cmp q a) (Some weight) (map.get arcs q)
arc_put arcs a weight q = map.get-insert arcs_total arcs a weight q

no_arc : (q : ℕ × ℕ) → map.get (map.empty {X = ℕ} {R = arc_cmp}) q ≡ None
no_arc q = map.get-empty arc_cmp q

ruleset lookups = (vertex_put, no_vertex, arc_put, no_arc)

load_allowed : AllAllowed Undirected empty_graph load
load_allowed = (simp lookups refl, (simp lookups refl, (simp lookups refl, (simp lookups refl, (simp lookups refl, (simp lookups refl, tt))))))

abbrev loaded : Graph
loaded = apply_all Undirected empty_graph load

pub set_allowed : refused loaded (writes.SetEdge 1 2 9) ≡ None
set_allowed = simp lookups refl

pub set_allowed_too : refused loaded (writes.SetEdge 1 2 8) ≡ None
set_allowed_too = simp lookups refl

-- allowed writes keep both ends of each arc
all_ends : (kind : Kind) (g : Graph) (ws : List Write) → AllAllowed kind g ws → HasBothEnds g → HasBothEnds (apply_all kind g ws)
all_ends kind g [] allowed ends = ends
all_ends kind g (w ∷ ws) allowed ends = all_ends kind (apply kind g w) ws allowed.1 (keeps_ends kind g w allowed.0 ends)

empty_ends : HasBothEnds empty_graph
empty_ends u v arc = let none : false ≡ true = sym (ap is_some (map.get-empty {X = ℕ} arc_cmp (u, v))) ∙ arc in cc

abbrev pub two_commits : List Commit
two_commits = load_commit load ∷ nine 2 ∷ []

-- the script, the stamp and the start of the commit at a place
pub commit_numbers : (i : ℕ) (c : Commit) → slice_get two_commits i ≡ Some c → (c.by.job ≡ i) × (c.stamp ≡ i + 1) × (c.start ≡ i)
commit_numbers zero c at = let same = same_Some (load_commit load) c at in (ap (λ (d : Commit). d.by.job) (sym same), ap (λ (d : Commit). d.stamp) (sym same), ap (λ (d : Commit). d.start) (sym same))
commit_numbers (suc zero) c at = let same = same_Some (nine 2) c at in (ap (λ (d : Commit). d.by.job) (sym same), ap (λ (d : Commit). d.stamp) (sym same), ap (λ (d : Commit). d.start) (sym same))
commit_numbers (suc (suc i)) c at = absurd (none-some c at)

pub two_legal : IsLegal Undirected two_commits
two_legal = record {
  each = each;
  names = names;
  apart = apart;
  ends = ends;
}
  where
    each : (i : ℕ) (c : Commit) → slice_get two_commits i ≡ Some c → IsLegalCommit Undirected two_commits i c
    each zero c at = subst (λ d. IsLegalCommit Undirected two_commits 0 d) (same_Some _ c at) (record {
      stamped = refl;
      started = omega arith;
      wrote = omega arith;
      allowed = load_allowed;
      within = (omega arith, (omega arith, (omega arith, (omega arith, ((omega arith, omega arith, omega arith), ((omega arith, omega arith, omega arith), tt))))));
    })
    each (suc zero) c at = subst (λ d. IsLegalCommit Undirected two_commits 1 d) (same_Some _ c at) (record {
      stamped = refl;
      started = omega arith;
      wrote = omega arith;
      allowed = (set_allowed, tt);
      within = ((omega arith, omega arith, omega arith), tt);
    })
    each (suc (suc i)) c at = absurd (none-some c at)

    names : (i j : ℕ) (c d : Commit) → slice_get two_commits i ≡ Some c → slice_get two_commits j ≡ Some d → c.by ≡ d.by → i ≡ j
    names i j c d at_i at_j same = sym (commit_numbers i c at_i).0 ∙ ap (λ (n : TxnName). n.job) same ∙ (commit_numbers j d at_j).0

    apart : (i j : ℕ) (c d : Commit) → i < j → slice_get two_commits i ≡ Some c → slice_get two_commits j ≡ Some d → IsTrue (have_clash Undirected c.writes d.writes) → c.stamp ≤ d.start
    apart i j c d less at_i at_j clash = let first = (commit_numbers i c at_i).1 in let second = (commit_numbers j d at_j).2 in omega arith

    ends : (stamp : ℕ) → stamp ≤ 2 → HasBothEnds (graph_at Undirected two_commits stamp)
    ends zero le = empty_ends
    ends (suc zero) le = all_ends Undirected empty_graph load load_allowed empty_ends
    ends (suc (suc zero)) le = keeps_ends Undirected loaded (writes.SetEdge 1 2 9) set_allowed (all_ends Undirected empty_graph load load_allowed empty_ends)
    ends (suc (suc (suc n))) le = absurd (omega arith)

-- ---- parts of a run that hold by looking at each place

pub at_one : {X : Type 0} (P : ℕ → X → Type 0) (x : X) → P 0 x → (k : ℕ) (z : X) → slice_get (x ∷ []) k ≡ Some z → P k z
at_one P x here zero z at = subst (P 0) (same_Some x z at) here
at_one P x here (suc k) z at = absurd (none-some z at)

pub at_two : {X : Type 0} (P : ℕ → X → Type 0) (x y : X) → P 0 x → P 1 y → (k : ℕ) (z : X) → slice_get (x ∷ y ∷ []) k ≡ Some z → P k z
at_two P x y first second zero z at = subst (P 0) (same_Some x z at) first
at_two P x y first second (suc zero) z at = subst (P 1) (same_Some y z at) second
at_two P x y first second (suc (suc k)) z at = absurd (none-some z at)

abbrev pub is_full : Answer → Bool
is_full answers.Full = true
is_full _ = false

-- no line is `full`
none_full : {X : Type 0} (ls : List AnsweredLine) → list_any (λ l. is_full l.answer) ls ≡ false → (i : ℕ) (l : AnsweredLine) → slice_get ls i ≡ Some l → l.answer ≡ answers.Full → X
none_full [] none i l at full = absurd (none-some l at)
none_full (x ∷ xs) none zero l at full =
    let here : is_full x.answer ≡ true = ap (λ (m : AnsweredLine). is_full m.answer) (same_Some x l at) ∙ ap is_full full in
    let no : true ≡ false = sym (ap (λ b. b || list_any (λ (m : AnsweredLine). is_full m.answer) xs) here) ∙ none in cc
none_full (x ∷ xs) none (suc i) l at full = none_full xs (neither (is_full x.answer) _ none) i l at full
  where
    neither : (a b : Bool) → (a || b) ≡ false → b ≡ false
    neither true b e = cc
    neither false b e = e

-- ---- the conflict

abbrev pub two_inputs : Inputs
two_inputs = record { kind = Undirected; load = load; scripts = sets 9 ∷ sets 8 ∷ [] }

abbrev first_lines : List AnsweredLine
first_lines = answered_lines (sets 9) (answers.Begun (txn_name 1 1) 1 ∷ answers.Done ∷ answers.Committed (Some 2) ∷ [])

abbrev second_lines : ℕ → Cause → List AnsweredLine
second_lines start cause = answered_lines (sets 8) (answers.Begun (txn_name 2 1) start ∷ answers.Conflict cause ∷ answers.Skipped ∷ [])

abbrev judged : ℕ → Cause → ℕ → Context
judged start cause job = record { kind = Undirected; load = load; journal = two_commits; scripts = first_lines ∷ second_lines start cause ∷ []; job = job }

first_answered : (cause : Cause) → AllAnswered (judged 1 cause 1) [] first_lines
first_answered cause = (
  (refl, record { within = omega arith; loaded = omega arith; shown = omega arith }),
  (subst (λ r. IsWriteAnswer (judged 1 cause 1) 1 (writes.SetEdge 1 2 9) r answers.Done) (sym set_allowed) tt, (record { place = 1; numbered = refl; there = refl }, tt)),
)

second_answered : (cause : Cause) → IsCause (judged 1 cause 2) 1 (writes.SetEdge 1 2 8) cause → AllAnswered (judged 1 cause 2) [] (second_lines 1 cause)
second_answered cause is = (
  (refl, record { within = omega arith; loaded = omega arith; shown = omega arith }),
  (subst (λ r. IsWriteAnswer (judged 1 cause 2) 1 (writes.SetEdge 1 2 8) r (answers.Conflict cause)) (sym set_allowed_too) is, (refl, tt)),
)

sets_script : (weight : ℕ) → weight ≤ MAX_WEIGHT → IsScript (Some false) (sets weight)
sets_script weight small = (tt, ((omega arith, omega arith, small), (tt, refl)))

two_given : AreInputs two_inputs
two_given = record {
  allowed = load_allowed;
  within = (omega arith, (omega arith, (omega arith, (omega arith, ((omega arith, omega arith, omega arith), ((omega arith, omega arith, omega arith), tt))))));
  count = omega arith;
  scripts = at_two (λ k cs. IsScript (Some false) cs) (sets 9) (sets 8) (sets_script 9 (omega arith)) (sets_script 8 (omega arith));
  begins = at_two (λ k cs. begun_by 0 cs ≤ MAX_BEGINS) (sets 9) (sets 8) (omega arith) (omega arith);
}

-- it is a run wherever the cause is one
meets : (cause : Cause) → IsCause (judged 1 cause 2) 1 (writes.SetEdge 1 2 8) cause → Meets 1 cause
meets cause is = record {
  given = two_given;
  legal = two_legal;
  loaded = inr refl;
  reported = refl;
  lines = λ k cs report at_script at_report.
      at_two (λ k cs. length report ≡ length cs) (sets 9) (sets 8)
      (at_two (λ k (r : List Answer). length r ≡ 3) _ _ refl refl k report at_report) (at_two (λ k (r : List Answer). length r ≡ 3) _ _ refl refl k report at_report) k cs at_script;
  answered = at_two (λ k ls. AllAnswered (judged 1 cause (k + 1)) [] ls) first_lines (second_lines 1 cause) (first_answered cause) (second_answered cause is);
  committed = at_two (λ i c. IsLoad load c ⊎ IsShown (first_lines ∷ second_lines 1 cause ∷ []) c) (load_commit load) (nine 2)
      (inl (λ none. cc, refl))
      (inr (0, first_lines, 2, record { txn = 1; command = commands.Commit; answer = answers.Committed (Some 2) }, refl, refl, refl, (refl, refl)));
  full = λ k i ls l at_script at_line is.
      none_full ls (at_two (λ k ls. list_any (λ (m : AnsweredLine). is_full m.answer) ls ≡ false) first_lines (second_lines 1 cause) refl refl k ls at_script) i l at_line is;
  filed = refl;
  files = λ k ls files at_script at_files.
      let none : [] ≡ files = at_two (λ k fs. [] ≡ fs) [] [] refl refl k files at_files in
      subst (λ fs. HasFiles (judged 1 cause (k + 1)) [] ls fs) none
      (at_two (λ k ls. HasFiles (judged 1 cause (k + 1)) [] ls []) first_lines (second_lines 1 cause) ([], refl, ([], refl, ([], refl, refl))) ([], refl, ([], refl, ([], refl, refl))) k ls at_script);
}

set_still_allowed : refused (apply Undirected loaded (writes.SetEdge 1 2 9)) (writes.SetEdge 1 2 8) ≡ None
set_still_allowed = simp lookups refl

-- the cause that was named is one
cause_at_one : (cause : Cause) → Meets 1 cause → IsCause (judged 1 cause 2) 1 (writes.SetEdge 1 2 8) cause
cause_at_one cause run =
    subst (λ r. IsWriteAnswer (judged 1 cause 2) 1 (writes.SetEdge 1 2 8) r (answers.Conflict cause)) set_allowed_too (run.answered 1 (second_lines 1 cause) refl).1.0

cause_at_two : (cause : Cause) → Meets 2 cause → IsCause (judged 2 cause 2) 2 (writes.SetEdge 1 2 8) cause
cause_at_two cause run =
    subst (λ r. IsWriteAnswer (judged 2 cause 2) 2 (writes.SetEdge 1 2 8) r (answers.Conflict cause)) set_still_allowed (run.answered 1 (second_lines 2 cause) refl).1.0

-- the first script where it sets another edge
abbrev apart_lines : List AnsweredLine
apart_lines = answered_lines (commands.Begin ∷ commands.Write (writes.SetEdge 2 3 9) ∷ commands.Commit ∷ []) (answers.Begun (txn_name 1 1) 1 ∷ answers.Done ∷ answers.Committed (Some 2) ∷ [])

abbrev judged_apart : Cause → Context
judged_apart cause = record {
  kind = Undirected;
  load = load;
  journal = load_commit load ∷ record (nine 2) { writes = writes.SetEdge 2 3 9 ∷ [] } ∷ [];
  scripts = apart_lines ∷ second_lines 1 cause ∷ [];
  job = 2;
}

cause_apart : (cause : Cause) → MeetsApart cause → IsCause (judged_apart cause) 1 (writes.SetEdge 1 2 8) cause
cause_apart cause run =
    subst (λ r. IsWriteAnswer (judged_apart cause) 1 (writes.SetEdge 1 2 8) r (answers.Conflict cause)) set_allowed_too (run.answered 1 (second_lines 1 cause) refl).1.0

pub conflicts : ConflictExamples
conflicts = record {
  with_open = meets (Holder (txn_name 1 1)) (
    λ same. (let e : 1 ≡ 2 = same in omega (arith, e)),
    (0, first_lines, refl, refl, record { place = 1; line = record { txn = 1; command = commands.Write (writes.SetEdge 1 2 9); answer = answers.Done }; write = writes.SetEdge 1 2 9; there = refl; txn = refl; made = refl; clashes = refl }),
    λ i c at by. (let numbers = commit_numbers i c at in let job : c.by.job ≡ 1 = ap (λ (n : TxnName). n.job) by in let place = numbers.0 in let stamp = numbers.1 in omega arith),
  );
  with_later = meets (Later 2) (0, omega arith, refl);
  with_load = λ run. no_later (cause_at_one (Later 1) run);
  with_itself = λ run. (cause_at_one (Holder (txn_name 2 1)) run).0 refl;
  with_nobody = λ run. (
      let clash = (cause_at_one (Holder (txn_name 1 2)) run).1 in
      let line = clash.4 in
      let number = at_two (λ k ls. (i : ℕ) (l : AnsweredLine) → slice_get ls i ≡ Some l → l.txn ≤ 1) first_lines (second_lines 1 (Holder (txn_name 1 2)))
      (line_numbered 0 (sets 9) (answers.Begun (txn_name 1 1) 1 ∷ answers.Done ∷ answers.Committed (Some 2) ∷ []))
      (line_numbered 0 (sets 8) (answers.Begun (txn_name 2 1) 1 ∷ answers.Conflict (Holder (txn_name 1 2)) ∷ answers.Skipped ∷ [])) clash.0 clash.1 clash.3 line.place line.line line.there in
      let txn : line.line.txn ≡ 2 = line.txn in omega arith);
  with_earlier = λ run. let later : 2 < 2 = (cause_at_two (Holder (txn_name 1 1)) run).2 1 (nine 2) refl refl in omega (arith, later);
  with_apart = λ run. (
      let clash = (cause_apart (Holder (txn_name 1 1)) run).1 in
      let made = clash.4 in
      let place : clash.0 ≡ 0 = let numbered : clash.0 + 1 ≡ 1 = clash.2 in omega (arith, numbered) in
      made_apart clash.1 (same_Some _ _ (sym clash.3 ∙ ap (slice_get (judged_apart (Holder (txn_name 1 1))).scripts) place)) made.place made.line made.write made.there made.made made.clashes);
  with_later_apart = λ run. let later = cause_apart (Later 2) run in let below : later.0 < 0 = later.1 in omega (arith, below);
}
  where
    at_head : (k : ℕ) → k < 1 → ◌≡◌ {A = ℕ} (slice_index_or (2 ∷ []) k 1) 1 → ⊥
    at_head zero below e = let same : 2 ≡ 1 = e in omega (arith, same)
    at_head (suc k) below e = omega arith

    no_later : Contains {X = ℕ} (2 ∷ []) 1 → ⊥
    no_later is = at_head is.0 is.1 is.2

    -- the line that sets the other edge is the only one of the first script that made a write
    made_apart : (lines : List AnsweredLine) → lines ≡ apart_lines → (place : ℕ) (line : AnsweredLine) (write : Write) → slice_get lines place ≡ Some line → made_by line ≡ Some write
        → clash Undirected write (writes.SetEdge 1 2 8) ≡ true → ⊥
    made_apart lines same place line write there made clashes = at_place place (ap (λ ls. slice_get ls place) (sym same) ∙ there)
      where
        by_line : (m : AnsweredLine) → m ≡ line → made_by m ≡ Some write
        by_line m e = ap made_by e ∙ made

        at_place : (place : ℕ) → slice_get apart_lines place ≡ Some line → ⊥
        at_place zero at = none-some _ (by_line (record { txn = 1; command = commands.Begin; answer = answers.Begun (txn_name 1 1) 1 }) (same_Some _ line at))
        at_place (suc zero) at =
            let wrote = same_Some (writes.SetEdge 2 3 9) write (by_line (record { txn = 1; command = commands.Write (writes.SetEdge 2 3 9); answer = answers.Done }) (same_Some _ line at)) in
            let none : false ≡ true = ap (λ w. clash Undirected w (writes.SetEdge 1 2 8)) wrote ∙ clashes in cc
        at_place (suc (suc zero)) at = none-some _ (by_line (record { txn = 1; command = commands.Commit; answer = answers.Committed (Some 2) }) (same_Some _ line at))
        at_place (suc (suc (suc place))) at = none-some _ at

-- ---- one script on a graph of one vertex

abbrev one : Graph
one = apply_all Undirected empty_graph one_vertex

abbrev two : Graph
two = apply Undirected one (writes.AddVertex 2)

one_allowed : AllAllowed Undirected empty_graph one_vertex
one_allowed = (simp lookups refl, tt)

-- one script whose transaction commits nothing, on what was loaded
module _ (kind : Kind) (first : Write) (others : List Write) (allowed : AllAllowed kind empty_graph (first ∷ others)) (within : AllByRecursion IsWithinLimits (first ∷ others)) (cs : List Command) (report : List Answer) where
  abbrev pub lines : List AnsweredLine
  lines = answered_lines (commands.Begin ∷ cs) (answers.Begun (txn_name 1 1) 1 ∷ report)

  abbrev pub alone : Context
  alone = record { kind = kind; load = first ∷ others; journal = load_commit (first ∷ others) ∷ []; scripts = lines ∷ []; job = 1 }

  -- what is left of its run
  pub answers_so : (files : List File) → IsScript (Some true) cs → begun_by 1 cs ≤ MAX_BEGINS → length report ≡ length cs → AllAnswered alone (take 1 lines) (drop 1 lines)
      → list_any (λ l. is_full l.answer) lines ≡ false → HasFiles alone [] lines files → GetsOn kind (first ∷ others) cs report files
  answers_so files script few same all none filed = record {
    given = record {
      allowed = allowed;
      within = within;
      count = omega arith;
      scripts = at_one (λ k cs. IsScript (Some false) cs) (commands.Begin ∷ cs) (tt, script);
      begins = at_one (λ k cs. begun_by 0 cs ≤ MAX_BEGINS) (commands.Begin ∷ cs) few;
    };
    legal = journal_legal kind (first ∷ others) allowed within;
    loaded = inr refl;
    reported = refl;
    lines = λ k c r at_script at_report.
        at_one (λ k c. length r ≡ length c) (commands.Begin ∷ cs) (at_one (λ k (r : List Answer). length r ≡ length (commands.Begin ∷ cs)) (answers.Begun (txn_name 1 1) 1 ∷ report) (omega arith) k r at_report) k c at_script;
    answered = at_one (λ k ls. AllAnswered (record alone { job = k + 1 }) [] ls) lines ((refl, record { within = omega arith; loaded = omega arith; shown = omega arith }), all);
    committed = at_one (λ i c. IsLoad (first ∷ others) c ⊎ IsShown (lines ∷ []) c) (load_commit (first ∷ others)) (inl (λ none. cc, refl));
    full = λ k i ls l at_script at_line is. none_full ls (at_one (λ k ls. list_any (λ (m : AnsweredLine). is_full m.answer) ls ≡ false) lines none k ls at_script) i l at_line is;
    filed = refl;
    files = λ k ls fs at_script at_files.
        at_one (λ k fs. HasFiles (record alone { job = k + 1 }) [] ls fs) files (at_one (λ k ls. HasFiles (record alone { job = k + 1 }) [] ls files) lines filed k ls at_script) k fs at_files;
  }

one_within : AllByRecursion IsWithinLimits one_vertex
one_within = (omega arith, tt)

abbrev alone_one : List Command → List Answer → Context
alone_one cs report = alone Undirected (writes.AddVertex 1) [] one_allowed one_within cs report

one_answers : (cs : List Command) (report : List Answer) (files : List File) → IsScript (Some true) cs → begun_by 1 cs ≤ MAX_BEGINS → length report ≡ length cs
    → AllAnswered (alone_one cs report) (take 1 (answered_lines (commands.Begin ∷ cs) (answers.Begun (txn_name 1 1) 1 ∷ report))) (drop 1 (answered_lines (commands.Begin ∷ cs) (answers.Begun (txn_name 1 1) 1 ∷ report)))
    → list_any (λ l. is_full l.answer) (answered_lines (commands.Begin ∷ cs) (answers.Begun (txn_name 1 1) 1 ∷ report)) ≡ false
    → HasFiles (alone_one cs report) [] (answered_lines (commands.Begin ∷ cs) (answers.Begun (txn_name 1 1) 1 ∷ report)) files → GetsAnswers cs report files
one_answers cs report = answers_so Undirected (writes.AddVertex 1) [] one_allowed one_within cs report

no_items : {X : Type 0} (xs : List X) → length xs ≡ 0 → xs ≡ []
no_items [] e = refl
no_items (x ∷ xs) e = absurd (omega arith)

-- the graph's entries, one by one
no_marks : map.entries (map.empty {X = Unit {0}} {R = nat_cmp}) ≡ []
no_marks = no_items _ (sym (map.len-entries (map.empty {X = Unit {0}} {R = nat_cmp})) ∙ map.len-empty nat_cmp (Unit {0}))

one_marks : map.entries one.vertices ≡ (1, tt) ∷ []
one_marks = simp (map.entries-insert {X = Unit {0}} nat_cmp_total, no_marks) refl

two_marks : map.entries two.vertices ≡ (1, tt) ∷ (2, tt) ∷ []
two_marks = simp (map.entries-insert {X = Unit {0}} nat_cmp_total, no_marks) refl

no_arcs : map.len one.arcs ≡ 0
no_arcs = map.len-empty arc_cmp ℕ

no_arc_entries : map.entries one.arcs ≡ []
no_arc_entries = no_items _ (sym (map.len-entries one.arcs) ∙ no_arcs)

one_count : length (vertices_of one) ≡ 1
one_count = ap (λ (es : List (ℕ × Unit {0})). length (list_map (λ (e : ℕ × Unit {0}). e.0) es)) one_marks

two_count : length (vertices_of two) ≡ 2
two_count = ap (λ (es : List (ℕ × Unit {0})). length (list_map (λ (e : ℕ × Unit {0}). e.0) es)) two_marks

no_edges : edges_in Undirected one ≡ 0
no_edges = let none = no_arcs in omega arith

has_one : has_vertex one 1 ≡ true
has_one = simp lookups refl

lacks_two : has_vertex one 2 ≡ false
lacks_two = simp lookups refl

-- no arc leads from vertex 1
no_targets : targets_of one 1 ≡ []
no_targets = none_at (targets_of one 1) (λ i t at. let arc = target_arc one 1 i t at in let none : ◌≡◌ {A = Option ℕ} None (Some arc.0) = sym (no_arc (1, t)) ∙ arc.1 in cc)
  where
    none_at : (xs : List ℕ) → ((i t : ℕ) → slice_get xs i ≡ Some t → ⊥) → xs ≡ []
    none_at [] none = refl
    none_at (x ∷ xs) none = absurd (none 0 x refl)

-- a write of the script is answered by what the graph says of it
module _ (cs : List Command) (report : List Answer) (w : Write) (r : Option Refusal) (a : Answer) (is : refused one w ≡ r) where
  so_refused : IsWriteAnswer (alone_one cs report) 1 w r a → IsWriteAnswer (alone_one cs report) 1 w (refused one w) a
  so_refused answered = subst (λ r. IsWriteAnswer (alone_one cs report) 1 w r a) (sym is) answered

  refused_so : IsWriteAnswer (alone_one cs report) 1 w (refused one w) a → IsWriteAnswer (alone_one cs report) 1 w r a
  refused_so answered = subst (λ r. IsWriteAnswer (alone_one cs report) 1 w r a) is answered

exists : refused one (writes.AddVertex 1) ≡ Some refusals.VertexExists
exists = simp lookups refl

no_end : refused one (writes.AddEdge 1 2 5) ≡ Some (refusals.NoVertex 2)
no_end = simp lookups refl

second_allowed : refused one (writes.AddVertex 2) ≡ None
second_allowed = simp lookups refl

abbrev refusal_lines : List Command
refusal_lines = commands.Write (writes.AddVertex 1) ∷ commands.Write (writes.AddEdge 1 1 5) ∷ commands.Write (writes.AddEdge 1 2 5) ∷ commands.Commit ∷ []

abbrev refusal_report : List Answer
refusal_report = answers.Exists ∷ answers.SelfLoop ∷ answers.NoVertex 2 ∷ answers.Committed None ∷ []

abbrev own_lines : List Command
own_lines = commands.Write (writes.AddVertex 2) ∷ commands.Read Counts ∷ commands.Abort ∷ []

abbrev own_report : List Answer
own_report = answers.Done ∷ answers.Counted 2 0 ∷ answers.Aborted ∷ []

pub answers_are : AnswerExamples
answers_are = record {
  reads = one_answers _ _ [] ((omega arith, omega arith), (omega arith, (omega arith, (tt, (tt, refl))))) (omega arith) refl (
    sym (ap weight_answer (no_arc (1, 1))),
    (
      sym (λ i. cond (has_one i) (answers.Neighbours (no_targets i)) (answers.NoVertex 1)),
      (sym (ap (λ b. cond b (answers.Neighbours (targets_of one 2)) (answers.NoVertex 2)) lacks_two), (sym (λ i. answers.Counted (one_count i) (no_edges i)), (refl, tt))),
    ),
  )
      refl ([], refl, ([], refl, ([], refl, ([], refl, ([], refl, ([], refl, refl))))));
  refusals = one_answers _ _ [] (omega arith, ((omega arith, omega arith, omega arith), ((omega arith, omega arith, omega arith), (tt, refl)))) (omega arith) refl (
    so_refused refusal_lines refusal_report (writes.AddVertex 1) _ answers.Exists exists refl,
    (refl, (so_refused refusal_lines refusal_report (writes.AddEdge 1 2 5) _ (answers.NoVertex 2) no_end refl, (refl, tt))),
  )
      refl ([], refl, ([], refl, ([], refl, ([], refl, ([], refl, refl)))));
  own_writes = one_answers _ _ [] (omega arith, (tt, (tt, refl))) (omega arith) refl
      (so_refused own_lines own_report (writes.AddVertex 2) _ answers.Done second_allowed tt, (sym (λ i. answers.Counted (two_count i) (no_edges i)), (refl, tt)))
      refl ([], refl, ([], refl, ([], refl, ([], refl, refl))));
  kernel = one_answers _ _ _ (omega arith, (omega arith, (tt, refl))) (omega arith) refl
      (sym (ap answers.Table one_count), (sym (ap (λ b. cond b (table_answer one) (answers.NoVertex 2)) lacks_two), (refl, tt)))
      refl (_, refl, ([], (record { vertex = 1; value = Number 1 } ∷ [], refl, labels), ([], refl, ([], refl, refl))));
}
  where
    labels : IsTable one (IsCdlpValue Undirected one 0) (record { vertex = 1; value = Number 1 } ∷ [])
    labels = record {
      vertices = sym (ap (list_map (λ (e : ℕ × Unit {0}). e.0)) one_marks);
      values = at_one (λ i (e : Entry). IsCdlpValue Undirected one 0 e.vertex e.value) _ refl;
    }

-- ---- what is no run

-- what is asked of a line of one write that was answered `full`
no_place_for : (c : Command) (w : Write) (r : Option Refusal) → refused loaded w ≡ r
    → let context : Context = record { kind = Undirected; load = load; journal = load_commit load ∷ []; scripts = answered_lines (commands.Begin ∷ c ∷ commands.Abort ∷ []) (answers.Begun (txn_name 1 1) 1 ∷ answers.Full ∷ answers.Skipped ∷ []) ∷ []; job = 1 } in
    IsWriteAnswer context 1 w (refused loaded w) answers.Full → IsWriteAnswer context 1 w r answers.Full
no_place_for c w r is answered =
    subst (λ r. IsWriteAnswer (record { kind = Undirected; load = load; journal = load_commit load ∷ []; scripts = answered_lines (commands.Begin ∷ c ∷ commands.Abort ∷ []) (answers.Begun (txn_name 1 1) 1 ∷ answers.Full ∷ answers.Skipped ∷ []) ∷ []; job = 1 }) 1 w r answers.Full) is answered

lone_goes : refused loaded (writes.DropVertex 4) ≡ None
lone_goes = refused_at _ _ _ (entries_made Undirected load) (writes.DropVertex 4)

pub wrong_answers : WrongAnswers
wrong_answers = record {
  other_weight = λ run. let e : answers.Weight 5 ≡ answers.Nothing = (run.answered 0 _ refl).1.0 ∙ ap weight_answer (no_arc (1, 1)) in cc;
  made_what_exists = λ run. let e : answers.Done ≡ answers.Exists = refused_so (commands.Write (writes.AddVertex 1) ∷ commands.Abort ∷ []) (answers.Done ∷ answers.Aborted ∷ []) (writes.AddVertex 1) _ answers.Done exists (run.answered 0 _ refl).1.0 in cc;
  met_nobody = λ run.
      let later = refused_so (commands.Write (writes.AddVertex 2) ∷ commands.Abort ∷ []) (answers.Conflict (Later 1) ∷ answers.Skipped ∷ []) (writes.AddVertex 2) _ (answers.Conflict (Later 1)) second_allowed (run.answered 0 _ refl).1.0 in let below : later.0 < 0 = later.1 in omega arith;
  full_at_a_set = λ run. no_place_for (commands.Write (writes.SetEdge 1 2 9)) (writes.SetEdge 1 2 9) None set_allowed (run.answered 0 _ refl).1.0;
  full_at_a_dropped_edge = λ run. no_place_for (commands.Write (writes.DropEdge 1 2)) (writes.DropEdge 1 2) None (simp lookups refl) (run.answered 0 _ refl).1.0;
  full_at_a_removed_vertex = λ run. no_place_for (commands.Write (writes.DropVertex 4)) (writes.DropVertex 4) None lone_goes (run.answered 0 _ refl).1.0;
  full_at_what_exists = λ run. let e : answers.Full ≡ answers.Exists = no_place_for (commands.Write (writes.AddVertex 4)) (writes.AddVertex 4) (Some refusals.VertexExists) (simp lookups refl) (run.answered 0 _ refl).1.0 in cc;
  full_too_early = λ run. let filled : 103 ≤ 1 = run.full 0 1 _ _ refl refl refl in omega (arith, filled);
  skipped_alone = λ run. let e : answers.Skipped ≡ query_answer Undirected one Counts = (run.answered 0 _ refl).1.0 in cc;
  not_skipped = λ run. let e : answers.Aborted ≡ answers.Skipped = (run.answered 0 _ refl).1.1.0 in cc;
  commits_nothing = λ run. let e : answers.Committed (Some 1) ≡ answers.Committed None = (run.answered 0 _ refl).1.0 in cc;
  forgets_a_write = λ run. (run.answered 0 _ refl).1.1.0;
  lacks_its_file = λ run. let files = run.files 0 _ [] refl refl in let e = files.1 ∙ files.2.1.1 in cc;
  unasked_file = λ run. let files = run.files 0 _ _ refl refl in let e = files.1 ∙ files.2.1 ∙ files.2.2 in cc;
}

pub wrong_parts : WrongParts
wrong_parts = record {
  begins_before_the_load = λ run. let loaded : 1 ≤ 0 = (run.answered 0 _ refl).0.1.loaded in omega (arith, loaded);
  begins_in_the_future = λ run. let within : 2 ≤ 1 = (run.answered 0 _ refl).0.1.within in omega (arith, within);
  has_another_name = λ run. let number : 2 ≡ 1 = ap (λ (n : TxnName). n.number) (run.answered 0 _ refl).0.0 in omega (arith, number);
  begins_before_its_last_commit = λ run. let shown : 2 ≤ 1 = (run.answered 0 _ refl).1.1.1.0.1.shown in omega (arith, shown);
  begins_before_a_shown_conflict = λ run. let shown : 2 ≤ 1 = (run.answered 1 _ refl).1.1.1.0.1.shown in omega (arith, shown);
  begins_before_its_last_start = λ run. let shown : 2 ≤ 1 = (run.answered 1 _ refl).1.1.0.1.shown in omega (arith, shown);
  too_many_scripts = λ run. let count : 61 ≤ 60 = run.given.count in omega (arith, count);
  commits_another_write = λ run. let is = (run.answered 0 _ refl).1.1.0 in other_place is.place is.numbered is.there;
  not_begun = λ run. (run.given.scripts 0 _ refl).1;
  skips_a_stamp = λ run. let stamped : 3 ≡ 2 = (run.legal.each 1 (nine 3) refl).stamped in omega (arith, stamped);
  not_loaded = λ run. ⊎_elim (λ empty. let e : one_vertex ≡ [] = empty in cc) (λ first. none-some _ first) run.loaded;
  not_reported = λ run. let count : 0 ≡ 1 = run.reported in omega (arith, count);
  reported_in_part = λ run. let count : 1 ≡ 2 = run.lines 0 _ _ refl refl in omega (arith, count);
  commits_unasked = λ run. ⊎_elim
      (λ loaded. let stamp : 2 ≡ 1 = ap (λ (c : Commit). c.stamp) loaded.1 in omega (arith, stamp))
      (λ shown. none-some _ shown.4)
      (run.committed 1 (nine 2) refl);
  lacks_its_files = λ run. let count : 0 ≡ 1 = run.filed in omega (arith, count);
}
  where
    other_place : (place : ℕ) → place + 1 ≡ 2 → slice_get two_commits place ≡ Some (record { stamp = 2; start = 1; by = txn_name 1 1; writes = writes.SetEdge 1 2 8 ∷ [] }) → ⊥
    other_place zero is at = omega arith
    other_place (suc zero) is at =
        let same : writes.SetEdge 1 2 9 ∷ [] ≡ writes.SetEdge 1 2 8 ∷ [] = ap (λ (c : Commit). c.writes) (same_Some _ _ at) in
        let weights : ◌≡◌ {A = ℕ} 9 8 = cc in omega (arith, weights)
    other_place (suc (suc place)) is at = none-some _ at
