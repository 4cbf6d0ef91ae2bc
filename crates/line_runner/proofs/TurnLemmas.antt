-- Turns of a line: its reads, how a scan goes on or ends, and the answer of the last turn.
use Rattle.std.proofs.Common.{◌≡◌, ℕ, zero, suc, ◌+◌, ◌*◌, ◌<◌, ◌≤◌, List, length, refl, sym, ◌∙◌, ap, subst, arith, cond, length-append, inl, inr}
use Rattle.std.specs.Prelude.{Bool, true, false, nat_lt, ◌/◌, IfSome, IsSome, Option, Some, None, unwrap_or, Result, Ok, Err, IfOk, OnOk, OnErr, IsErr}
use Rattle.std.proofs.lemmas.Bool.Decides.{nat_tests}
use Rattle.graph_model.specs.declared.refusal.Refusal.{Refusal}
use Rattle.graph_model.specs.declared.refusal.Refusal.TheVariants as refusals
use Rattle.graph_model.specs.declared.write.Write.{Write}
use Rattle.items.specs.declared.memory.NoMemory.{NoMemory}
use Rattle.std.proofs.lemmas.List.{length-map}
use Rattle.graph_model.specs.declared.limits.TheConstants.{SCAN_ROWS}
use Rattle.graph_model.specs.declared.row.Row.{Row}
use Rattle.graph_model.specs.Account.{Account}
use Rattle.graph_model.specs.AccountSteps.{ReadsBy}
use Rattle.graph_model.specs.Graph.{Graph}
use Rattle.graph_model.specs.Rows.{all_rows}
use Rattle.graph_model.specs.Scans.{rows_left}
use Rattle.run_model.specs.declared.answer.Answer.TheVariants as answers
use Rattle.run_model.specs.declared.command.Command.{Command}
use Rattle.run_model.specs.declared.command.Command.TheVariants as commands
use Rattle.run_model.specs.declared.command.Query.TheVariants.{WeightOf, NeighboursOf, Counts}
use Rattle.run_model.specs.Commands.{open_behind}
use Rattle.run_model.specs.Jobs.{scanned, skips}
use Rattle.line_runner.specs.declared.answering.LineAnswer.{LineAnswer}
use Rattle.line_runner.specs.declared.kept.KeptImage.{KeptImage}
use Rattle.line_runner.specs.declared.phase.Phase.{Phase}
use Rattle.line_runner.specs.declared.phase.Phase.TheVariants.{Between, Open, Skipping, GivenUp}
use Rattle.line_runner.specs.declared.reading.LineReading.{LineReading}
use Rattle.line_runner.specs.declared.reading.LineReading.TheVariants as readings
use Rattle.line_runner.specs.declared.scan.Scan.{Scan}
use Rattle.line_runner.specs.Scanning.{IsScan, IsWhole, ScansOn, rows_of_line, IsReading, RunsKernel, taken_by, taken_of, too_many_turns}
use Rattle.line_runner.specs.Phases.{is_skipping, is_inside, IsPhase, phase_behind, plain}
use Rattle.line_runner.specs.Turns.{view_now, MayTakeNow, goes_on_at, ReadsFurther, Advances, Calls, ReadsTimes, ReadsOn, FinishesOn, WritesOn, WantsOn, AnswersLive, AnswersSkipped, AnswersOn}

-- ---- reads

pub one_read : {S : Type 0} (reads : S → S → Type 0) (old new : S) → reads old new → ReadsOn reads old new
one_read reads old new is = (suc zero, (new, is, refl))

pub two_reads : {S : Type 0} (reads : S → S → Type 0) (old mid new : S) → reads old mid → reads mid new → ReadsOn reads old new
two_reads reads old mid new first second = (suc (suc zero), (mid, first, (new, second, refl)))

module _ {S : Type 0} (account : S → Account) (reads : S → S → Type 0) (by : (s t : S) → reads s t → ReadsBy (account s) (account t)) where
  -- reads leave the kind of the graph
  times_kind : (n : ℕ) (old new : S) → ReadsTimes reads n old new → (account new).kind ≡ (account old).kind
  times_kind zero old new is = ap (λ s. (account s).kind) is
  times_kind (suc n) old new is = times_kind n is.0 new is.2 ∙ ap (λ (a : Account). a.kind) (by old is.0 is.1).others

  pub reads_kind : (old new : S) → ReadsOn reads old new → (account new).kind ≡ (account old).kind
  reads_kind old new is = times_kind is.0 old new is.1

-- what holds anyway holds where memory was wanted
pub on_err : {A B : Type 0} (result : Result A B) (P : Type 0) → P → OnErr result P
on_err (Ok x) P is = tt
on_err (Err x) P is = is

-- a write that wants memory has changed nothing
pub write_wants : {S : Type 0} (e : Calls S) (old new : S) (w : Write) (wanted : NoMemory) → IsSome (e.account old).start → WritesOn e.writes e.aborts old w (Err wanted) new → WantsOn e old new
write_wants {S = S} e old new w wanted opened (wrote, mid, did, finishes) = by_refusal wrote did finishes
  where
    no_ok : (a : LineAnswer) → ◌≡◌ {A = Result LineAnswer NoMemory} (Err wanted) (Ok a) → ⊥
    no_ok a is = cc

    by_refusal : (wrote : Result (Unit {0}) Refusal) → e.writes old w wrote mid → FinishesOn e.aborts mid wrote (Err wanted) new → WantsOn e old new
    by_refusal (Ok done) did is = absurd (no_ok _ is.0)
    by_refusal (Err refusals.SelfLoop) did is = absurd (no_ok _ is.0)
    by_refusal (Err (refusals.NoVertex v)) did is = absurd (no_ok _ is.0)
    by_refusal (Err refusals.VertexExists) did is = absurd (no_ok _ is.0)
    by_refusal (Err refusals.EdgeExists) did is = absurd (no_ok _ is.0)
    by_refusal (Err refusals.NoEdge) did is = absurd (no_ok _ is.0)
    by_refusal (Err refusals.HasEdges) did is = absurd (no_ok _ is.0)
    by_refusal (Err (refusals.Conflict cause)) did is = absurd (no_ok _ is.0)
    by_refusal (Err (refusals.Full leaves)) did is = absurd (no_ok _ is.0)
    by_refusal (Err refusals.NoMemory) did is = inr (inl (opened, (w, subst (λ s. e.writes old w (Err refusals.NoMemory) s) (sym is.1) did)))

-- a line that writes is one of a transaction, where it isn't skipped
pub in_txn : (a : Account) (phase : Phase) (reading : Option LineReading) (r : Command) (w : Write) → MayTakeNow a phase reading r → r ≡ commands.Write w → (phase ≡ Skipping → ⊥) → IsSome a.start
in_txn a phase reading r w may same other = by_phase phase refl
  where
    by_phase : (p : Phase) → phase ≡ p → IsSome a.start
    by_phase Open is = subst (λ q. IsPhase q a.start) is may.phase_is
    by_phase Skipping is = absurd (other is)
    by_phase GivenUp is = absurd (subst (λ q. IsPhase q a.start) is may.phase_is)
    by_phase Between is =
        let no : ◌≡◌ {A = Option Bool} None (Some may.stands.0) = sym (λ i. open_behind (is_inside (is i)) (same i)) ∙ may.stands.1 in cc

-- what a line says that wanted memory of a write
pub wants_line : {S T : Type 0} (e : Calls S) (old new : S) (w : Write) (wanted : NoMemory) (result : Result T NoMemory) (P : T → Type 0) (K : Type 0) → IsErr result → IsSome (e.account old).start → WritesOn e.writes e.aborts old w (Err wanted) new
    → record { takes : IfOk result P; kept : OnOk result K; err : OnErr result (WantsOn e old new) }
wants_line e old new w wanted (Ok x) P K is opened did = cc
wants_line e old new w wanted (Err x) P K is opened did = record { takes = tt; kept = tt; err = write_wants e old new w wanted opened did }

-- ---- the last turn

-- whoever isn't at a stop skips nothing
pub calm_of : (phase : Phase) → (phase ≡ Skipping → ⊥) → is_skipping phase ≡ false
calm_of Between other = refl
calm_of Open other = refl
calm_of Skipping other = absurd (other refl)
calm_of GivenUp other = refl

one_turn : (n : ℕ) → nat_lt (n + 1) 1 ≡ false
one_turn n = grind (arith, nat_tests)

module _ {S : Type 0} (e : Calls S) (old : S) (phase : Phase) (reading : Option LineReading) where
  -- a line that scans nothing is answered at once
  takes_answer : is_skipping phase ≡ false → (command x : Command) → command ≡ x → ((g : Graph) → scanned g x ≡ 0)
      → (given : LineAnswer) (new : S) → AnswersLive e old x given new → AnswersOn e old phase reading command given new
  takes_answer calm command x is none given new does = subst (λ y. AnswersOn e old phase reading y given new) (sym is) (record {
    last = (λ i. nat_lt (taken_of reading + 1) (cond (calm i) 1 (none (view_now (e.account old)) i / SCAN_ROWS + 1))) ∙ one_turn (taken_of reading);
    does = subst (λ b. cond b (AnswersSkipped old x given new) (AnswersLive e old x given new)) (sym calm) does;
  })

  -- the same where answer and engine are named otherwise
  pub takes_by : is_skipping phase ≡ false → (command x : Command) → command ≡ x → ((g : Graph) → scanned g x ≡ 0)
      → (given given' : LineAnswer) → given ≡ given' → (new new' : S) → new ≡ new' → AnswersLive e old x given' new' → AnswersOn e old phase reading command given new
  takes_by calm command x is none given given' same new new' equal does =
      subst (λ y. AnswersOn e old phase reading command y new) (sym same)
      (subst (λ y. AnswersOn e old phase reading command given' y) (sym equal) (takes_answer calm command x is none given' new' does))

  -- a line at hand that is skipped takes one turn
  pub skips_turn : (r : Command) → phase ≡ Skipping → (given : LineAnswer) → given ≡ plain answers.Skipped (phase_behind (skips r)) → AnswersOn e old phase reading r given old
  skips_turn r is given same = subst (λ p. AnswersOn e old p reading r given old) (sym is) (record { last = one_turn (taken_of reading); does = (same, refl) })

-- ---- scans

-- a line scans so many rows
scanned_is : (g : Graph) (r : Command) → length (rows_of_line g r) ≡ scanned g r
scanned_is g commands.Begin = refl
scanned_is g commands.Commit = refl
scanned_is g commands.Abort = refl
scanned_is g (commands.Write w) = refl
scanned_is g (commands.Read (WeightOf u v)) = refl
scanned_is g (commands.Read (NeighboursOf v)) = sym (length-map _ _)
scanned_is g (commands.Read Counts) = refl
scanned_is g (commands.Run kernel file) = refl

-- what the line has begun to read, or what it begins with
pub reading_or : (g : Graph) (before : Option LineReading) (r : Command) (fresh : LineReading) → IfSome before (IsReading g r) → taken_by fresh ≡ 0 → IsReading g r fresh
    → IsReading g r (unwrap_or before fresh) × (taken_by (unwrap_or before fresh) ≡ taken_of before)
reading_or g None r fresh is none reads = (reads, none)
reading_or g (Some reading) r fresh is none reads = (is, refl)

-- a turn on the image that is kept, where turns are left
pub replays_further : (g : Graph) (kept : KeptImage) (turns : ℕ) → nat_lt turns (kept.rows / SCAN_ROWS) ≡ true → turns + 1 < too_many_turns
    → (r : Command) → IsReading g r (readings.Replay kept turns) → ReadsFurther g Open (Some (readings.Replay kept turns)) r (readings.Replay kept (turns + 1))
replays_further g kept turns left few r is = by_line r is.1
  where
    more : nat_lt (turns + 1) (length (all_rows g) / SCAN_ROWS + 1) ≡ true
    more = let counted = is.0.counted in grind (arith, nat_tests)

    by_line : (r : Command) → RunsKernel r → ReadsFurther g Open (Some (readings.Replay kept turns)) r (readings.Replay kept (turns + 1))
    by_line commands.Begin never = absurd never
    by_line commands.Commit never = absurd never
    by_line commands.Abort never = absurd never
    by_line (commands.Write w) never = absurd never
    by_line (commands.Read query) never = absurd never
    by_line (commands.Run kernel file) runs = record { is_open = refl; more = more; taken = refl; small = few; reads = (is.0, runs) }

module _ (g : Graph) (before : Option LineReading) (r : Command) (s next : Scan) (is : IsScan g r s) (taken : taken_by (readings.Scan s) ≡ taken_of before) (on : ScansOn g r s next) where
  -- rows are left
  scan_goes : next.cursor.done ≡ false → ReadsFurther g Open before r (readings.Scan next)
  scan_goes going =
      let portion = on.portion going in
      let now : IsScan g r next = portion.0 in
      let left : List Row = rows_left g next.cursor in
      let whole : next.rows + length left ≡ scanned g r = ap (λ n. n + length left) now.counted ∙ sym (length-append now.given left) ∙ ap length now.whole ∙ scanned_is g r in
      record {
        is_open = refl;
        more = more (taken_of before) is.portions next.rows (length left) (scanned g r) (sym taken ∙ ap (λ n. n / SCAN_ROWS) is.full) (portion.1 ∙ ap (λ n. n + SCAN_ROWS) is.full) whole;
        taken = (ap (λ n. n / SCAN_ROWS) portion.1) ∙ one_more s.rows ∙ ap (λ n. n + 1) taken;
        small = small next.rows on.small;
        reads = now;
      }
    where
      more : (taken p rows rest all : ℕ) → taken ≡ SCAN_ROWS * p / SCAN_ROWS → rows ≡ SCAN_ROWS * p + SCAN_ROWS → rows + rest ≡ all → nat_lt (taken + 1) (all / SCAN_ROWS + 1) ≡ true
      more taken p rows rest all e f g = let le : taken + 1 < all / SCAN_ROWS + 1 = omega (arith, e, f, g) in grind (arith, nat_tests)

      one_more : (n : ℕ) → (n + SCAN_ROWS) / SCAN_ROWS ≡ n / SCAN_ROWS + 1
      one_more n = omega arith

      small : (n : ℕ) → n < 18446744073709551616 → n / SCAN_ROWS < 288230376151711744
      small n lt = omega (arith, lt)

  -- this was the last of them
  scan_ends : next.cursor.done ≡ true → IsWhole g r next × (goes_on_at g false (taken_of before) r ≡ false)
  scan_ends done =
      let rest = on.rest done in
      (rest.0, last (taken_of before) is.portions next.rows (scanned g r) (sym taken ∙ ap (λ n. n / SCAN_ROWS) is.full) (subst (λ n. next.rows < n + SCAN_ROWS) is.full rest.1) (rest.0.counted ∙ scanned_is g r))
    where
      last : (taken p rows all : ℕ) → taken ≡ SCAN_ROWS * p / SCAN_ROWS → rows < SCAN_ROWS * p + SCAN_ROWS → rows ≡ all → nat_lt (taken + 1) (all / SCAN_ROWS + 1) ≡ false
      last taken p rows all e f g = let le : all / SCAN_ROWS + 1 ≤ taken + 1 = omega (arith, e, f, g) in grind (arith, nat_tests)

  pub advances : Advances g before r next
  advances = record { portion = scan_goes; rest = scan_ends }
