-- One turn of a job among the others.
use Rattle.std.proofs.Common.{◌≡◌, ℕ, zero, suc, ◌+◌, ◌-◌, ◌*◌, ◌<◌, ◌≤◌, List, [], ◌∷◌, ◌++◌, length, length-append, drop, refl, sym, ◌∙◌, ap, subst, arith, cond, inl, inr}
use Rattle.std.specs.Prelude.{◌⊎◌, Bool, true, false, ◌||◌, ◌&&◌, ◌==◌, not, map, Option, Some, None, IfSome, IsSome, unwrap_or, slice_get, slice_set, sum_by}
use Rattle.std.specs.List.{filter_map}
use Rattle.std.proofs.lemmas.Bool.{ne_eqb}
use Rattle.std.proofs.lemmas.Bool.Decides.{nat_tests}
use Rattle.std.proofs.lemmas.List.{append-nil, map-append}
use Rattle.std.proofs.lemmas.List.Elements.{filter_map-append}
use Rattle.graph_model.specs.declared.write.Write.{Write}
use Rattle.graph_model.specs.History.{view}
use Rattle.graph_model.specs.OwnerCalls.{PassState, Core, no_pass, pass_at, open_txns, one_more, account_here}
use Rattle.run_model.specs.declared.command.Command.{Command}
use Rattle.run_model.specs.declared.answer.Answer.TheVariants as answers
use Rattle.run_model.specs.declared.command.Command.TheVariants as commands
use Rattle.run_model.specs.Commands.{next_txn, begun_by, open_behind}
use Rattle.run_model.specs.AnsweredLines.{AnsweredLine, effect, made_by, answered_lines, snapshot, own_writes}
use Rattle.run_model.specs.Inputs.{Inputs}
use Rattle.run_model.specs.Run.{Filing, filing_of, HasFiles}
use Rattle.run_model.specs.Jobs.{LineResult, is_empty}
use Rattle.run_model.proofs.SetLemmas.{get_set_else}
use Rattle.line_runner.specs.declared.answering.LineAnswer.{LineAnswer}
use Rattle.line_runner.specs.declared.answering.LineTurn.{LineTurn}
use Rattle.line_runner.specs.declared.answering.LineTurn.TheVariants.{Scanning, Answering}
use Rattle.line_runner.specs.declared.phase.Phase.{Phase}
use Rattle.line_runner.specs.declared.phase.Phase.TheVariants.{Between, Open, Skipping, GivenUp}
use Rattle.line_runner.specs.declared.kept.KeptImage.{KeptImage}
use Rattle.line_runner.specs.declared.reading.LineReading.{LineReading}
use Rattle.line_runner.specs.Kernels.{IsKeptImage}
use Rattle.line_runner.specs.Scanning.{IsReading, taken_of}
use Rattle.side_runs.specs.ByAccount.{made_behind}
use Rattle.line_runner.specs.Phases.{is_skipping, is_inside, is_open, sees_same, IsPhase, file_of}
use Rattle.line_runner.specs.Lines.{MayTake, view_here, seat, result_here, pass_behind, core_behind, ScansHere, AnswersHere, TakesHere}
use Rattle.job_runner.specs.Progress.{Progress, left_of, has_given_up, is_over, behind, listed_table, TakesTurn, state_of}
use Rattle.job_runner.specs.Runs.{files_context, view_of_pass, AreTied, AreUnderWay, turns_left, under_way, Turns, Goes}
use Rattle.line_runner.proofs.CoreLemmas.{some_of, get_set}
use Rattle.job_runner.proofs.JobLemmas.{may_take, has_left}
use Rattle.job_runner.proofs.FileLemmas.{view_grows, files_to, files_more, file_given}
use Rattle.job_runner.proofs.SeatLemmas.{AreClosed, heads, lines_more, left_more, scan_is_turn, answer_is_turn, over_is_turn}
use Rattle.job_runner.proofs.TieLemmas as ties
use Rattle.side_runs.proofs.MadeLemmas.{line_of, flat, made_more, made_count, txn_more}
use Rattle.job_runner.proofs.TieLemmas.{phase_fits, stop_closes, writes_open, last_behind, stays_same, between_begins}
use Rattle.job_runner.proofs.KeepLemmas.{if_same, fills, within, job_keeps, sum_changed, length_set}

-- a line that has a file runs a kernel, and begins nothing
filing_runs : (b : Bool) (r : Command) (f : Filing) → cond b (filing_of r) None ≡ Some f → (n : ℕ) → next_txn n r ≡ n
filing_runs true commands.Begin f e n = cc
filing_runs true commands.Commit f e n = refl
filing_runs true commands.Abort f e n = refl
filing_runs true (commands.Write w) f e n = refl
filing_runs true (commands.Read query) f e n = refl
filing_runs true (commands.Run kernel file) f e n = refl
filing_runs false r f e n = cc

no_filing : {P : Type 0} (b : Bool) (f : Filing) → (let none : Option Filing = None in cond b none None ≡ Some f) → P
no_filing true f e = cc
no_filing false f e = cc

-- where something is left, not all is behind
some_left : (cs : List Command) (n : ℕ) (c : Command) (rest : List Command) → drop n cs ≡ c ∷ rest → n < length cs
some_left [] zero c rest e = cc
some_left [] (suc n) c rest e = cc
some_left (x ∷ cs) zero c rest e = omega arith
some_left (x ∷ cs) (suc n) c rest e = omega (arith, some_left cs n c rest e)

-- a line that isn't skipped begins a transaction, or one is open
may_write : (phase : Phase) (start : Option ℕ) (r : Command) → IsPhase phase start → (behind : Bool) → open_behind (is_inside phase) r ≡ Some behind → is_skipping phase ≡ false → (r ≡ commands.Begin) ⊎ IsSome start
may_write Between start r is behind e calm = inl (between_begins r behind e)
may_write Open start r is behind e calm = inr is
may_write Skipping start r is behind e calm = cc
may_write GivenUp start r is behind e calm = absurd is

-- of three that hold, each does
all_three : (a b c : Bool) → (a && b && not c) ≡ true → (a ≡ true) × (b ≡ true) × (c ≡ false)
all_three true true false e = (refl, refl, refl)
all_three true true true e = cc
all_three true false c e = cc
all_three false b c e = cc

open_is : (phase : Phase) → is_open phase ≡ true → phase ≡ Open
open_is Between e = cc
open_is Open e = refl
open_is Skipping e = cc
open_is GivenUp e = cc

module _ (inputs : Inputs) (core : Core) (jobs : List Progress) (u : AreUnderWay inputs core jobs) (k : ℕ) (job : Progress) (there : slice_get jobs k ≡ Some job)
    (c : Command) (rest : List Command) (cons : left_of job ≡ c ∷ rest) where
  abbrev chosen : Core
  chosen = ties.chosen inputs core jobs u k job there

  abbrev pass : PassState
  pass = ties.pass inputs core jobs u k job there

  tied : AreTied core pass k job
  tied = u.each k job there

  may : MayTake chosen job.phase job.reading c
  may = let ready = ties.ready inputs core jobs u k job there in record { selected = ready.selected; now = may_take (account_here chosen) job ready.now c rest cons }

  inside : suc k < length core.passes
  inside = ties.inside inputs core jobs u k job there

  pub closed_chosen : AreClosed chosen (length jobs)
  closed_chosen = record { service = u.closed; others = λ i le. (u.unused i le).closed }

  -- ---- a portion of rows

  module _ (next : LineReading) (image : Option KeptImage) (new : Core) (scans : ScansHere chosen job.phase job.reading c next new) (kept : IfSome image (IsKeptImage (view_here chosen))) where
    scan_tied : AreTied chosen pass k (behind job image (Scanning next))
    unfolding tied
    scan_tied = record {
      number = tied.number;
      answered = tied.answered;
      phase_is = tied.phase_is;
      wrote = tied.wrote;
      counted = tied.counted;
      by_txn = tied.by_txn;
      last = tied.last;
      begins = tied.begins;
      room = tied.room;
      reads = λ x more e. subst (λ y. IsReading (view_here chosen) y next) (heads c x rest more (sym cons ∙ e)) scans.further.reads;
      small = scans.further.small;
      kept = kept;
      files = tied.files;
    }

    pub scan_keeps : AreUnderWay inputs new (slice_set jobs k (behind job image (Scanning next)))
    scan_keeps = subst (λ x. AreUnderWay inputs x (slice_set jobs k (behind job image (Scanning next)))) (sym scans.same)
        (job_keeps inputs core jobs u k job there chosen (behind job image (Scanning next)) false (λ e. cc)
        (ap (λ x. state_of x (slice_set jobs k (behind job image (Scanning next)))) (sym scans.same) ∙ scan_is_turn chosen jobs closed_chosen k job there refl inside false c rest cons next image new scans)
        refl refl refl (λ p away. refl) [] (sym (append-nil core.journal)) scan_tied)

  -- ---- a line

  module _ (given : LineAnswer) (image : Option KeptImage) (new : Core) (answered : AnswersHere chosen job.phase job.reading c given new) (kept : IfSome image (IsKeptImage (view_here chosen))) where
    abbrev here : LineResult
    here = result_here chosen (is_skipping job.phase) answered.does.full c

    abbrev next : Progress
    next = behind job image (Answering given)

    abbrev after : Core
    after = core_behind chosen c here answered.does.sighted answered.does.filled

    abbrev passed : PassState
    passed = pass_behind pass c here answered.does.sighted answered.does.filled

    abbrev lines : List AnsweredLine
    lines = answered_lines job.commands job.answers

    abbrev line : AnsweredLine
    line = line_of (next_txn pass.begun c) c given.answer

    lines_are : answered_lines next.commands next.answers ≡ lines ++ line ∷ []
    lines_are = lines_more 0 job.commands job.answers pass.begun c rest given.answer (ties.its inputs core jobs u k job there).numbered cons

    left_is : left_of next ≡ rest
    left_is = left_more job.commands job.answers c rest given.answer cons

    open_write : (effect given.answer).writes ≡ true → (earlier : List (List Write)) × (pass.made ≡ earlier ++ pass.own ∷ [])
    unfolding tied may
    open_write e = tied.last (writes_open chosen.kind chosen.journal (open_txns chosen) (suc k) (seat chosen (is_skipping job.phase)) answered.does.full c
        (may_write job.phase pass.start c may.now.phase_is may.now.stands.0 may.now.stands.1)
        (ap (λ a. (effect a).writes) (sym answered.does.answer) ∙ e))

    -- where the line has a file, its graph is that of its transaction
    view_snapshot : (f : Filing) → cond (effect given.answer).files (filing_of c) None ≡ Some f
        → view_here chosen ≡ snapshot core.kind (core.journal ++ here.commits) (next_txn pass.begun c) lines
    unfolding tied may
    view_snapshot f e = by_phase job.phase refl may.now.phase_is may.now.stands.0 may.now.stands.1
      where
        by_phase : (phase : Phase) → job.phase ≡ phase → IsPhase phase pass.start → (behind : Bool) → open_behind (is_inside phase) c ≡ Some behind
            → view_here chosen ≡ snapshot core.kind (core.journal ++ here.commits) (next_txn pass.begun c) lines
        by_phase Between is phase behind stands = no_filing (effect given.answer).files f (ap (λ r. cond (effect given.answer).files (filing_of r) None) (sym (between_begins c behind stands)) ∙ e)
        by_phase Open is phase behind stands =
            let o = some_of pass.start phase in
            let told = (ties.its inputs core jobs u k job there).told o.0 o.1 in
            let le : o.0 ≤ length core.journal = subst (λ s. unwrap_or s 0 ≤ length core.journal) o.1 (within inputs core jobs u k job there) in
            (λ i. view core.kind core.journal (unwrap_or (o.1 i) 0) (told.own i))
            ∙ sym (view_grows core.kind core.journal here.commits o.0 (own_writes pass.begun lines) le)
            ∙ (λ i. view core.kind (core.journal ++ here.commits) (sym told.started i) (own_writes pass.begun lines))
            ∙ ap (λ n. snapshot core.kind (core.journal ++ here.commits) n lines) (sym (filing_runs (effect given.answer).files c f e pass.begun))
        by_phase Skipping is phase behind stands =
            let skipped : given.answer ≡ answers.Skipped = answered.does.answer ∙ ap (λ p. (result_here chosen (is_skipping p) answered.does.full c).answer) is in
            absurd (let none : ◌≡◌ {A = Option Filing} None (Some f) = sym (ap (λ a. cond (effect a).files (filing_of c) None) skipped) ∙ e in cc)
        by_phase GivenUp is never behind stands = absurd never

    -- an image that is kept is that of what the transaction sees behind the line
    line_kept : IfSome next.image (IsKeptImage (view_of_pass after passed))
    unfolding may
    line_kept = by_same (sees_same job.phase given) refl
      where
        seen : sees_same job.phase given ≡ true → view_here chosen ≡ view_of_pass after passed
        seen e =
            let each = all_three (is_open job.phase) (is_open given.phase) (effect given.answer).writes e in
            let phase : job.phase ≡ Open = open_is job.phase each.0 in
            let same = stays_same chosen.kind chosen.journal (open_txns chosen) (suc k) (seat chosen (is_skipping job.phase)) answered.does.full c may.now.stands.0
            (ap (λ p. open_behind (is_inside p) c) (sym phase) ∙ may.now.stands.1) (ap is_skipping phase)
            (ap is_open (sym answered.does.phase) ∙ each.1) (ap (λ a. (effect a).writes) (sym answered.does.answer) ∙ each.2) in
            λ i. view core.kind ((sym (append-nil core.journal) ∙ ap (λ xs. core.journal ++ xs) (sym same.2)) i) (unwrap_or (sym same.0 i) 0) (sym same.1 i)

        by_same : (b : Bool) → sees_same job.phase given ≡ b → IfSome (cond b image None) (IsKeptImage (view_of_pass after passed))
        by_same true e = if_same image IsKeptImage (seen e) kept
        by_same false e = tt

    line_tied : AreTied after passed k next
    unfolding tied
    line_tied = record {
      number = tied.number;
      answered = one_more (length job.commands) (length job.answers) (length next.answers) (some_left job.commands (length job.answers) c rest cons) (length-append job.answers (given.answer ∷ []));
      phase_is = subst (λ p. IsPhase p here.start) (sym answered.does.phase) (phase_fits here (stop_closes chosen.kind chosen.journal (open_txns chosen) (suc k) (seat chosen (is_skipping job.phase)) answered.does.full c));
      wrote = ap (λ a. flat (made_behind pass.made c a)) (sym answered.does.answer)
          ∙ made_more pass.made pass.own (next_txn pass.begun c) c given.answer open_write c refl
          ∙ ap (λ xs. xs ++ filter_map made_by (line ∷ [])) tied.wrote
          ∙ sym (filter_map-append made_by lines (line ∷ []))
          ∙ ap (filter_map made_by) (sym lines_are);
      counted = made_count pass.made pass.begun c here.answer tied.counted;
      by_txn = λ n lt. ap (λ a. slice_get (made_behind pass.made c a) n) (sym answered.does.answer)
          ∙ txn_more pass.made pass.begun lines tied.counted (ties.its inputs core jobs u k job there).numbered tied.by_txn c given.answer c refl n lt
          ∙ ap (λ ls. Some (own_writes (suc n) ls)) (sym lines_are);
      last = last_behind chosen.kind chosen.journal (open_txns chosen) (suc k) (seat chosen (is_skipping job.phase)) answered.does.full pass.made tied.last c;
      begins = subst (λ cs. begun_by (next_txn pass.begun c) cs ≡ begun_by 0 job.commands) (sym left_is) (subst (λ cs. begun_by pass.begun cs ≡ begun_by 0 job.commands) cons tied.begins);
      room = subst (λ cs. begun_by (next_txn pass.begun c) cs ≤ pass.allowed) (sym left_is) (subst (λ cs. begun_by pass.begun cs ≤ pass.allowed) cons tied.room);
      reads = λ x more e. tt;
      small = omega arith;
      kept = line_kept;
      files = subst (λ ls. HasFiles (files_context after) [] ls (map file_of next.tables)) (sym lines_are)
          (subst (λ fs. HasFiles (files_context after) [] (lines ++ line ∷ []) fs) (sym (map-append file_of job.tables (listed_table given.table)))
          (files_more (files_context after) [] lines line (map file_of job.tables) (map file_of (listed_table given.table))
          (files_to (files_context core) (files_context after) (length core.journal) refl (λ start own le. sym (view_grows core.kind core.journal here.commits start own le)) [] lines (map file_of job.tables)
          (ties.its inputs core jobs u k job there).shown tied.files)
          (file_given (files_context after) lines (next_txn pass.begun c) (cond (effect given.answer).files (filing_of c) None) (view_here chosen) given.table answered.does.table view_snapshot)));
    }
      where
        one_more : (n m l : ℕ) → m < n → l ≡ m + 1 → l ≤ n
        one_more n m l lt e = omega (arith, lt, e)

    pass_is : pass_at after (suc k) ≡ passed
    pass_is = get_set core.passes (suc k) passed no_pass inside

    pub line_keeps : AreUnderWay inputs new (slice_set jobs k next)
    line_keeps = subst (λ x. AreUnderWay inputs x (slice_set jobs k next)) (sym answered.does.core)
        (job_keeps inputs core jobs u k job there after next answered.does.full answered.does.filling
        (ap (λ x. state_of x (slice_set jobs k next)) (sym answered.does.core) ∙ answer_is_turn chosen jobs closed_chosen k job there refl inside c rest cons (ties.its inputs core jobs u k job there).numbered given image new answered)
        refl refl (length_set core.passes (suc k) passed)
        (λ p away. ap (λ x. unwrap_or x no_pass) (get_set_else core.passes (suc k) p passed (ne_eqb p (suc k) away)))
        here.commits refl
        (subst (λ p. AreTied after p k next) (sym pass_is) line_tied))

-- ---- A TURN

-- how the turns that are left fall
pub turn_less : (job : Progress) (c : Command) (rest : List Command) → left_of job ≡ c ∷ rest → taken_of job.reading < 288230376151711744 → (turn : LineTurn)
    → ((next : LineReading) → turn ≡ Scanning next → (taken_of (Some next) ≡ taken_of job.reading + 1) × (taken_of (Some next) < 288230376151711744))
    → (image : Option KeptImage) → turns_left (behind job image turn) < turns_left job
turn_less job c rest cons small (Scanning next) further image =
    let taken : taken_of (Some next) ≡ taken_of job.reading + 1 = (further next refl).0 in
    let less : taken_of (Some next) < 288230376151711744 = (further next refl).1 in
    let some : length (left_of job) ≡ suc (length rest) = ap length cons in
    falls (length (left_of job)) (length rest) (taken_of (Some next)) (taken_of job.reading) some taken less
  where
    falls : (n m t s : ℕ) → n ≡ suc m → t ≡ s + 1 → t < 288230376151711744 → n * 288230376151711744 - t < n * 288230376151711744 - s
    falls n m t s e f less = omega arith
turn_less job c rest cons small (Answering given) further image =
    let some : length (left_of job) ≡ suc (length rest) = ap length cons in
    let fewer : length (left_of (behind job image (Answering given))) ≡ length rest = ap length (left_more job.commands job.answers c rest given.answer cons) in
    falls (length (left_of job)) (length rest) (length (left_of (behind job image (Answering given)))) (taken_of job.reading) some fewer small
  where
    falls : (n m l s : ℕ) → n ≡ suc m → l ≡ m → s < 288230376151711744 → l * 288230376151711744 - 0 < n * 288230376151711744 - s
    falls n m l s e f less = omega arith

left_falls : (over ended : Bool) (m n : ℕ) → over ≡ false → n + cond (not over) 1 0 ≡ m + cond (not ended) 1 0 → n + cond ended 1 0 ≡ m
left_falls true ended m n e is = cc
left_falls false true m n e is = omega (arith, is)
left_falls false false m n e is = omega (arith, is)

not_zero : (k : ℕ) → (suc k == 0) ≡ false
not_zero k = grind (arith, nat_tests)

module _ (core : Core) (jobs : List Progress) (k : ℕ) (job : Progress) (there : slice_get jobs k ≡ Some job) (going : is_over job ≡ false) where
  -- the job has a line at hand
  pub at_hand : (c : Command) × (rest : List Command) × (left_of job ≡ c ∷ rest)
  at_hand = first (left_of job) refl (has_left job.phase (left_of job) going)
    where
      first : (cs : List Command) → left_of job ≡ cs → is_empty cs ≡ false → (c : Command) × (rest : List Command) × (left_of job ≡ c ∷ rest)
      first [] e some = absurd (let never : true ≡ false = some in cc)
      first (c ∷ rest) e some = (c, rest, e)

  module _ (inputs : Inputs) (u : AreUnderWay inputs core jobs) (new : Core) (next : Progress) where
    abbrev now : Core
    now = record core { selected = suc k }

    pub takes_on : (ended : Bool) → is_over next ≡ ended → (c : Command) (rest : List Command) → left_of job ≡ c ∷ rest → TakesTurn now job c next new
        → Turns core jobs (suc k) ended new (slice_set jobs k next)
    takes_on ended over c rest cons takes = by_turn takes.turn takes.takes takes.image takes.kept takes.job_is
      where
        left : under_way (slice_set jobs k next) + cond ended 1 0 ≡ under_way jobs
        left = left_falls (is_over job) ended (under_way jobs) (under_way (slice_set jobs k next)) going
            (sum_changed (λ j. cond (not (is_over j)) 1 0) jobs k job next there ∙ ap (λ b. under_way jobs + cond (not b) 1 0) over)

        by_turn : (turn : LineTurn) → TakesHere now job.phase job.reading c turn new → (image : Option KeptImage) → IfSome image (IsKeptImage (view_here now)) → next ≡ behind job image turn
            → Turns core jobs (suc k) ended new (slice_set jobs k next)
        by_turn (Scanning reading) t image kept is = record {
          full = false;
          filling = λ inputs u e. absurd (let never : false ≡ true = e in cc);
          state = ap (λ x. state_of new (slice_set jobs k x)) is ∙ scan_is_turn now jobs (closed_chosen inputs core jobs u k job there c rest cons) k job there refl (ties.inside inputs core jobs u k job there) false c rest cons reading image new t;
          keeps = λ inputs u. subst (λ x. AreUnderWay inputs new (slice_set jobs k x)) (sym is) (scan_keeps inputs core jobs u k job there c rest cons reading image new t kept);
          kind = ap (λ (x : Core). x.kind) t.same;
          leaves = ap (λ (x : Core). x.leaves) t.same;
          served = ap (λ (x : Core). x.served) t.same ∙ sym (ap (λ b. cond b (one_more core.served) core.served) (not_zero k));
          journal = ([], ap (λ (x : Core). x.journal) t.same ∙ sym (append-nil core.journal));
          left = left;
        }
        by_turn (Answering given) t image kept is = record {
          full = t.does.full;
          filling = λ inputs u e. fills inputs core jobs u (t.does.filling e);
          state = ap (λ x. state_of new (slice_set jobs k x)) is ∙ answer_is_turn now jobs (closed_chosen inputs core jobs u k job there c rest cons) k job there refl (ties.inside inputs core jobs u k job there) c rest cons (ties.its inputs core jobs u k job there).numbered given image new t;
          keeps = λ inputs u. subst (λ x. AreUnderWay inputs new (slice_set jobs k x)) (sym is) (line_keeps inputs core jobs u k job there c rest cons given image new t kept);
          kind = ap (λ (x : Core). x.kind) t.does.core;
          leaves = ap (λ (x : Core). x.leaves) t.does.core;
          served = ap (λ (x : Core). x.served) t.does.core ∙ sym (ap (λ b. cond b (one_more core.served) core.served) (not_zero k));
          journal = (_, ap (λ (x : Core). x.journal) t.does.core);
          left = left;
        }

    pub goes_on : (c : Command) (rest : List Command) → left_of job ≡ c ∷ rest → TakesTurn now job c next new → Goes jobs (suc k) (slice_set jobs k next)
    goes_on c rest cons takes = record {
      passed = λ over. absurd (never over);
      took = λ i other e f g. less;
      count = length_set jobs k next;
    }
      where
        never : (suc k ≡ 0) ⊎ ((i : ℕ) (other : Progress) → suc k ≡ suc i → slice_get jobs i ≡ Some other → is_over other ≡ true) → ⊥
        never (inl e) = absurd (omega (arith, e))
        never (inr over) = let both : true ≡ false = sym (over k job refl there) ∙ going in cc

        less : sum_by turns_left (slice_set jobs k next) < sum_by turns_left jobs
        less =
            let falls : turns_left next < turns_left job = subst (λ x. turns_left x < turns_left job) (sym takes.job_is) (turn_less job c rest cons (u.each k job there).small takes.turn
            (λ reading same. let scans : ScansHere now job.phase job.reading c reading new = subst (λ t. TakesHere now job.phase job.reading c t new) same takes.takes in (scans.further.taken, scans.further.small)) takes.image) in
            omega (arith, falls, sum_changed turns_left jobs k job next there)
        -- ---- a script that is over is passed over

pub over_left : (phase : Phase) (start : Option ℕ) (left : List Command) → IsPhase phase start → (has_given_up phase || is_empty left) ≡ true → left ≡ []
over_left Between start [] is over = refl
over_left Between start (c ∷ left) is over = cc
over_left Open start [] is over = refl
over_left Open start (c ∷ left) is over = cc
over_left Skipping start [] is over = refl
over_left Skipping start (c ∷ left) is over = cc
over_left GivenUp start left is over = absurd is

pub passes_over : (inputs : Inputs) (core : Core) (jobs : List Progress) (u : AreUnderWay inputs core jobs) (k : ℕ) (job : Progress) (there : slice_get jobs k ≡ Some job) → is_over job ≡ true
    → Turns core jobs (suc k) false core jobs
passes_over inputs core jobs u k job there over = record {
  full = false;
  filling = λ inputs u e. absurd (let never : false ≡ true = e in cc);
  state = over_is_turn (record core { selected = suc k }) jobs (record { service = u.closed; others = λ i le. (u.unused i le).closed }) k job there refl (ties.inside inputs core jobs u k job there) false
      (over_left job.phase (pass_at core (suc k)).start (left_of job) (u.each k job there).phase_is over);
  keeps = λ inputs u. u;
  kind = refl;
  leaves = refl;
  served = sym (ap (λ b. cond b (one_more core.served) core.served) (not_zero k));
  journal = ([], sym (append-nil core.journal));
  left = omega arith;
}

pub stays : (jobs : List Progress) (number : ℕ) → ((k : ℕ) (job : Progress) → number ≡ suc k → slice_get jobs k ≡ Some job → is_over job ≡ false → ⊥) → Goes jobs number jobs
stays jobs number over = record {
  passed = λ _. refl;
  took = λ k job e f g. absurd (over k job e f g);
  count = refl;
}
