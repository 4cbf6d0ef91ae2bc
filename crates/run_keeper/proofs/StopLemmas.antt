-- What is kept of a run that stops: of its journal so far, all but one commit at most.
use Rattle.std.proofs.Common.{◌≡◌, inl, inr, ℕ, zero, suc, ◌+◌, ◌<◌, ◌≤◌, List, [], ◌∷◌, ◌++◌, length, refl, sym, ◌∙◌, subst, arith}
use Rattle.std.specs.Prelude.{Bool, true, false, cond, nat_lt, Option, Some, None, slice_get}
use Rattle.std.proofs.lemmas.List.{length-append, append-nil}
use Rattle.graph_model.specs.declared.write.Kind.{Kind}
use Rattle.graph_model.specs.declared.write.Write.{Write}
use Rattle.graph_model.specs.declared.write.Write.TheVariants as write
use Rattle.graph_model.specs.declared.journal.Commit.{Commit}
use Rattle.graph_model.specs.declared.journal.TxnName.{TxnName}
use Rattle.graph_model.specs.declared.refusal.Cause.{Cause}
use Rattle.graph_model.specs.declared.refusal.Refusal.{Refusal}
use Rattle.graph_model.specs.Conflict.{OpenTxn, conflict}
use Rattle.graph_model.specs.Legal.{IsLegal}
use Rattle.graph_model.specs.OwnerCalls.{Core}
use Rattle.graph_model.specs.Refused.{refused}
use Rattle.journal_disk.specs.Disk.{DiskState}
use Rattle.journal_file.specs.declared.file.JournalFile.{JournalFile}
use Rattle.run_model.specs.declared.command.Command.{Command}
use Rattle.run_model.specs.Inputs.{Inputs}
use Rattle.run_model.specs.declared.command.Command.TheVariants as commands
use Rattle.run_model.specs.Run.{txn_name}
use Rattle.run_model.specs.Jobs.{JobState, RunState, LineResult, load_journal, open_txns, start_of_job, view_of_job, commit_result, write_result, skips, live_result, line_result, turns_of, with_job, line_turn, job_turn, turn_at_place, turn}
use Rattle.run_model.specs.Stepped.{turn_at}
use Rattle.job_runner.specs.Progress.{Progress, state_of}
use Rattle.job_runner.specs.Runs.{AreNew, Turns, IsStuck, under_way}
use Rattle.job_runner.proofs.RunLemmas.{IsAt, at_first, at_next}
use Rattle.run_keeper.specs.Keeping.{IsKept, AreAcknowledged, acknowledged_on, TurnStops, IsJournalSoFar, StopsSoFar}
use Rattle.run_keeper.proofs.KeptLemmas.{still_longer, kept_longer}

-- ---- a turn makes one commit at most

abbrev IsShort : LineResult → Type 0
IsShort r = length r.commits ≤ 1

commit_short : (journal : List Commit) (by : TxnName) (start : ℕ) (own : List Write) → IsShort (commit_result journal by start own)
commit_short journal by start [] = omega arith
commit_short journal by start (w ∷ ws) = omega arith

write_short : (j : JobState) (w : Write) (refusal : Option Refusal) (cause : Option Cause) (full : Bool) → IsShort (write_result j w refusal cause full)
write_short j w (Some refusal) cause full = omega arith
write_short j w None (Some cause) full = omega arith
write_short j (write.AddVertex v) None None true = omega arith
write_short j (write.DropVertex v) None None true = omega arith
write_short j (write.AddEdge u v weight) None None true = omega arith
write_short j (write.SetEdge u v weight) None None true = omega arith
write_short j (write.DropEdge u v) None None true = omega arith
write_short j w None None false = omega arith

live_short : (kind : Kind) (journal : List Commit) (txns : List OpenTxn) (job : ℕ) (j : JobState) (full : Bool) (r : Command) → IsShort (live_result kind journal txns job j full r)
live_short kind journal txns job j full commands.Begin = omega arith
live_short kind journal txns job j full commands.Commit = commit_short journal (txn_name job j.begun) (start_of_job j) j.own
live_short kind journal txns job j full commands.Abort = omega arith
live_short kind journal txns job j full (commands.Write w) =
    write_short j w (refused (view_of_job kind journal j) w) (conflict kind journal txns (txn_name job j.begun) (start_of_job j) w) full
live_short kind journal txns job j full (commands.Read query) = omega arith
live_short kind journal txns job j full (commands.Run kernel file) = omega arith

line_short : (skipping : Bool) (skipped live : LineResult) → IsShort skipped → IsShort live → IsShort (cond skipping skipped live)
line_short true skipped live a b = a
line_short false skipped live a b = b

grows_little : (kind : Kind) (s : RunState) (k : ℕ) (full : Bool) (j : JobState) (left : List Command) → length (job_turn kind s k full j left).journal ≤ length s.journal + 1
grows_little kind s k full j [] = omega arith
grows_little kind s k full j (c ∷ rest) =
    let r : Command = c in
    by_rows (nat_lt (j.taken + 1) (turns_of kind s.journal j r))
    (line_short j.skipping (skips r) (live_result kind s.journal (open_txns s.jobs) (k + 1) j full r) (omega arith) (live_short kind s.journal (open_txns s.jobs) (k + 1) j full r))
  where
    by_rows : (b : Bool) → IsShort (line_result kind s.journal (open_txns s.jobs) (k + 1) j full c)
        → length (cond b (with_job s k (record j { taken = j.taken + 1 })) (line_turn kind s k full j c rest)).journal ≤ length s.journal + 1
    by_rows true short = omega arith
    by_rows false short = omega (arith, short, length-append s.journal (line_result kind s.journal (open_txns s.jobs) (k + 1) j full c).commits)

at_place : (kind : Kind) (s : RunState) (k : ℕ) (full : Bool) (job : Option JobState) → length (turn_at_place kind s k full job).journal ≤ length s.journal + 1
at_place kind s k full None = omega arith
at_place kind s k full (Some j) = grows_little kind s k full j j.left

turn_grows_little : (kind : Kind) (s : RunState) (number : ℕ) (full : Bool) → length (turn kind s number full).journal ≤ length s.journal + 1
turn_grows_little kind s zero full = omega arith
turn_grows_little kind s (suc k) full = at_place kind s k full (slice_get s.jobs k)

load_short : (load : List Write) → length (load_journal load) ≤ 1
load_short [] = omega arith
load_short (w ∷ ws) = omega arith

-- ---- the run so far

module _ (acknowledged : Kind → List Commit → ℕ → Type 0) (inputs : Inputs) (schedule : List ℕ) (first : Core) where
  so_far_at : (n : ℕ) (core : Core) (jobs : List Progress) → IsAt inputs schedule first n core jobs → IsJournalSoFar inputs first.leaves schedule core.journal
  so_far_at n core jobs at = record {
    turns = n;
    state = state_of core jobs;
    reached = at.reached;
    shown = refl;
    legal = at.state.state.transactions.legal;
    loaded = at.state.state.loaded;
  }

  -- before the first turn
  pub stops_at_first : (jobs : List Progress) → AreNew inputs first jobs → (count : ℕ) → acknowledged first.kind first.journal count → StopsSoFar acknowledged inputs first.leaves schedule count first.journal
  stops_at_first jobs new count kept =
      let short : length first.journal ≤ 1 = subst (λ cs. length cs ≤ 1) (sym new.journal) (load_short inputs.load) in (
        record {
          journal = first.journal;
          so_far = so_far_at 0 first jobs (at_first inputs schedule first jobs new);
          one_more = omega (arith, short);
          kept = subst (λ k. acknowledged k first.journal count) new.kind kept;
        },
        [],
        sym (append-nil first.journal),
      )

  -- in a turn, or behind it
  pub stops_at_turn : (n : ℕ) (core : Core) (jobs : List Progress) → IsAt inputs schedule first n core jobs → (number : ℕ) → turn_at (length inputs.scripts) schedule n ≡ number → 0 < under_way jobs
      → (new : Core) (next : List Progress) (count : ℕ) → TurnStops (acknowledged core.kind) core jobs number new next count
      → StopsSoFar acknowledged inputs first.leaves schedule count new.journal
  stops_at_turn n core jobs at number whose some new next count (inl (ended, turns, enough, kept)) =
      let grown : length new.journal ≤ length core.journal + 1 =
      subst (λ (s : RunState). length s.journal ≤ length core.journal + 1) (sym turns.state) (turn_grows_little core.kind (state_of core jobs) number turns.full) in (
        record {
          journal = new.journal;
          so_far = so_far_at (suc n) new next (at_next inputs schedule first n core jobs at number whose some ended new next turns);
          one_more = omega (arith, grown, enough);
          kept = subst (λ k. acknowledged k new.journal count) at.state.kind kept;
        },
        [],
        sym (append-nil new.journal),
      )
  stops_at_turn n core jobs at number whose some new next count (inr (rest, goes, counted, kept)) = (
    record {
      journal = core.journal;
      so_far = so_far_at n core jobs at;
      one_more = omega (arith, counted);
      kept = subst (λ k. acknowledged k core.journal count) at.state.kind kept;
    },
    rest,
    goes,
  )

-- ---- one turn

module _ {D : Type 0} (moment : D → ℕ) (may_leave : D → List ℕ → Type 0) (left_since : D → ℕ → List ℕ → Type 0) (state : D → DiskState) (old new : Core) (jobs next : List Progress) (number : ℕ) (file last : JournalFile) (before now : D) where
  -- memory was wanted in it
  pub stuck : IsStuck old new next → IsKept moment may_leave left_since state old.kind old.journal file now → TurnStops (acknowledged_on moment may_leave left_since now old.kind) old jobs number new next file.count
  stuck is kept = inr (
    [],
    is.journal ∙ sym (append-nil old.journal),
    kept.settled.count,
    subst (λ n. AreAcknowledged moment may_leave left_since old.kind old.journal n now) (sym kept.settled.count) kept.acknowledged,
  )

  -- not all commits were kept behind it
  pub unkept : (ended : Bool) (lent : List Commit) → Turns old jobs number ended new next → lent ≡ new.journal → IsLegal old.kind new.journal
      → ((k : Kind) (cs more : List Commit) → lent ≡ cs ++ more → IsLegal k lent → IsKept moment may_leave left_since state k cs file before
      → (length cs ≤ last.count) × AreAcknowledged moment may_leave left_since k lent last.count now)
      → IsKept moment may_leave left_since state old.kind old.journal file before → TurnStops (acknowledged_on moment may_leave left_since now old.kind) old jobs number new next last.count
  unkept ended lent turns same legal keep kept =
      let still = still_longer moment may_leave left_since state old.kind new.journal lent old.journal (turns.journal).0 file last before now same (turns.journal).1 legal keep kept in
      inl (ended, turns, still.0, still.1)

-- ---- the run

module _ {D : Type 0} (moment : D → ℕ) (may_leave : D → List ℕ → Type 0) (left_since : D → ℕ → List ℕ → Type 0) (state : D → DiskState) (schedule : List ℕ) (first : Core) (jobs : List Progress) where
  abbrev on_disk : D → Kind → List Commit → ℕ → Type 0
  on_disk now = acknowledged_on moment may_leave left_since now

  -- the commits that it found weren't kept
  pub stops_unkept : (lent : List Commit) (file last : JournalFile) (before now : D) → lent ≡ first.journal → IsLegal first.kind first.journal
      → ((k : Kind) (cs more : List Commit) → lent ≡ cs ++ more → IsLegal k lent → IsKept moment may_leave left_since state k cs file before
      → (length cs ≤ last.count) × AreAcknowledged moment may_leave left_since k lent last.count now)
      → (inputs : Inputs) (commits rest : List Commit) → AreNew inputs first jobs → first.journal ≡ commits ++ rest
      → IsKept moment may_leave left_since state first.kind commits file before → StopsSoFar (on_disk now) inputs first.leaves schedule last.count first.journal
  stops_unkept lent file last before now same legal keep inputs commits rest new goes kept =
      let still = still_longer moment may_leave left_since state first.kind first.journal lent commits rest file last before now same goes legal keep kept in
      stops_at_first (on_disk now) inputs schedule first jobs new last.count still.1

  -- it stopped behind them
  pub stops_behind : (lent after : List Commit) (file mid : JournalFile) (count : ℕ) (before then_disk now : D) → lent ≡ first.journal → IsLegal first.kind first.journal
      → ((k : Kind) (cs more : List Commit) → lent ≡ cs ++ more → IsLegal k lent → IsKept moment may_leave left_since state k cs file before
      → IsKept moment may_leave left_since state k lent mid then_disk)
      → ((inputs : Inputs) → AreNew inputs first jobs → IsKept moment may_leave left_since state first.kind first.journal mid then_disk
      → StopsSoFar (on_disk now) inputs first.leaves schedule count after)
      → (inputs : Inputs) (commits rest : List Commit) → AreNew inputs first jobs → first.journal ≡ commits ++ rest
      → IsKept moment may_leave left_since state first.kind commits file before → StopsSoFar (on_disk now) inputs first.leaves schedule count after
  stops_behind lent after file mid count before then_disk now same legal keep run inputs commits rest new goes kept =
      run inputs new (kept_longer moment may_leave left_since state first.kind first.journal lent commits rest file mid before then_disk same goes legal keep kept)

  -- it stopped in a turn
  pub stops_in_turn : (core : Core) (js : List Progress) (number : ℕ) (new : Core) (next : List Progress) (count : ℕ) (file mid : JournalFile) (before then_disk now : D) → core.kind ≡ first.kind → 0 < under_way js
      → ((inputs : Inputs) → AreNew inputs first jobs → (n : ℕ) × IsAt inputs schedule first n core js × (turn_at (length inputs.scripts) schedule n ≡ number))
      → (IsKept moment may_leave left_since state first.kind first.journal file before → IsKept moment may_leave left_since state first.kind core.journal mid then_disk)
      → (IsKept moment may_leave left_since state core.kind core.journal mid then_disk → TurnStops (on_disk now core.kind) core js number new next count)
      → (inputs : Inputs) → AreNew inputs first jobs → IsKept moment may_leave left_since state first.kind first.journal file before → StopsSoFar (on_disk now) inputs first.leaves schedule count new.journal
  stops_in_turn core js number new next count file mid before then_disk now same some at so_far turn_stops inputs are kept =
      let (n, is_at, whose) = at inputs are in
      stops_at_turn (on_disk now) inputs schedule first n core js is_at number whose some new next count
      (turn_stops (subst (λ k. IsKept moment may_leave left_since state k core.journal mid then_disk) (sym same) (so_far kept)))
