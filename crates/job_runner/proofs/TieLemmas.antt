-- A job and its pass: what a turn may rely on, and what it leaves.
use Rattle.std.proofs.Common.{◌≡◌, ℕ, suc, ◌+◌, ◌<◌, List, [], ◌∷◌, ◌++◌, length, refl, sym, ◌∙◌, ap, subst, arith, cond, inl, inr}
use Rattle.std.specs.Prelude.{◌⊎◌, Bool, true, false, ◌||◌, ◌&&◌, Option, Some, None, IfSome, IfNone, IsSome, is_some, slice_get}
use Rattle.std.specs.Option.{option_map}
use Rattle.std.proofs.lemmas.Option.{slice_get_within}
use Rattle.graph_model.specs.declared.write.Write.{Write}
use Rattle.graph_model.specs.declared.write.Kind.{Kind}
use Rattle.graph_model.specs.declared.journal.Commit.{Commit}
use Rattle.graph_model.specs.declared.journal.TxnName.{TxnName}
use Rattle.graph_model.specs.Conflict.{OpenTxn}
use Rattle.graph_model.specs.declared.refusal.Refusal.{Refusal}
use Rattle.graph_model.specs.declared.refusal.Refusal.TheVariants as refusals
use Rattle.graph_model.specs.declared.refusal.Cause.{Cause}
use Rattle.graph_model.specs.Account.{IsOpenTxn, IsValid}
use Rattle.graph_model.specs.AccountSteps.{last_with}
use Rattle.graph_model.specs.History.{graph_at}
use Rattle.graph_model.specs.Inserted.{inserts}
use Rattle.graph_model.specs.Legal.{IsLegal}
use Rattle.graph_model.specs.Refused.{AllAllowed}
use Rattle.graph_model.specs.OwnerCalls.{PassState, Core, pass_at, account_here}
use Rattle.run_model.specs.declared.answer.Answer.TheVariants as answers
use Rattle.run_model.specs.declared.command.Command.{Command}
use Rattle.run_model.specs.declared.command.Command.TheVariants as commands
use Rattle.run_model.specs.Commands.{open_behind, IsScript}
use Rattle.run_model.specs.AnsweredLines.{effect}
use Rattle.run_model.specs.Answering.{refusal_answer}
use Rattle.run_model.specs.Inputs.{Inputs}
use Rattle.run_model.specs.Run.{txn_name}
use Rattle.run_model.specs.Jobs.{JobState, LineResult, skips, stops, writes_more, write_result, commit_result, live_result, line_result}
use Rattle.run_model.specs.Stepped.{context_in}
use Rattle.run_model.specs.UnderWay.{IsJob}
use Rattle.run_model.proofs.OpenLemmas.{open_here}
use Rattle.line_runner.specs.declared.phase.Phase.{Phase}
use Rattle.line_runner.specs.declared.phase.Phase.TheVariants.{Between, Open, Skipping, GivenUp}
use Rattle.side_runs.specs.ByAccount.{made_behind}
use Rattle.line_runner.specs.Phases.{is_skipping, is_inside, is_open, IsPhase, phase_at, phase_behind}
use Rattle.side_runs.proofs.MadeLemmas.{last_more}
use Rattle.job_runner.specs.Progress.{Progress, left_of, IsReady, job_at, state_of}
use Rattle.job_runner.specs.Runs.{AreTied, AreUnderWay}
use Rattle.job_runner.proofs.JobLemmas.{begun_rises}
use Rattle.job_runner.proofs.SeatLemmas.{seat_there}

-- ---- phases

-- the script is within a transaction where the phase says so
pub inside_is : (phase : Phase) (start : Option ℕ) → IsPhase phase start → (is_skipping phase || is_some start) ≡ is_inside phase
inside_is Between start is = ap is_some is
inside_is Open start is = is
inside_is Skipping start is = refl
inside_is GivenUp start is = absurd is

-- the phase behind a line is that of its result
pub phase_fits : (result : LineResult) → (result.skipping ≡ true → result.start ≡ None) → IsPhase (phase_behind result) result.start
phase_fits result closed = by_skipping result.skipping result.start closed
  where
    by_skipping : (b : Bool) (s : Option ℕ) → (b ≡ true → s ≡ None) → IsPhase (cond b Skipping (phase_at s)) s
    by_skipping true s closed = closed refl
    by_skipping false None closed = refl
    by_skipping false (Some start) closed = refl

-- ---- what a turn may rely on

idle_if : (own : List Write) (start : Option ℕ) → (start ≡ None → own ≡ []) → IfNone start (own ≡ [])
idle_if own None idle = idle refl
idle_if own (Some start) idle = tt

module _ (inputs : Inputs) (core : Core) (jobs : List Progress) (u : AreUnderWay inputs core jobs) where
  module _ (k : ℕ) (job : Progress) (there : slice_get jobs k ≡ Some job) where
    -- the engine with the job's pass selected
    abbrev pub chosen : Core
    chosen = record core { selected = suc k }

    abbrev pub pass : PassState
    pass = pass_at core (suc k)

    pub inside : suc k < length core.passes
    inside = omega (arith, slice_get_within jobs k job there, u.passes)

    tied : AreTied core pass k job
    tied = u.each k job there

    pub seat : slice_get (state_of core jobs).jobs k ≡ Some (job_at pass job)
    seat = seat_there chosen jobs (record { service = u.closed; others = λ i le. (u.unused i le).closed }) k job there refl inside

    pub its : IsJob (context_in inputs.kind inputs.load (state_of core jobs) k) (job_at pass job)
    its = u.state.each k (job_at pass job) seat

    -- the open transaction is one of the account's
    pub txn_is_open : (start : ℕ) → pass.start ≡ Some start → IsOpenTxn (account_here chosen) start
    unfolding tied
    txn_is_open start e =
        let run = u.state.transactions.each (txn_name (k + 1) pass.begun) (record { start = start; writes = pass.own })
        (open_here (state_of core jobs).jobs k (job_at pass job) seat ∙ ap (λ s. option_map (λ start. record { start = start; writes = pass.own }) s) e) in
        record {
          seen = run.started;
          allowed = subst (λ kind. AllAllowed kind (graph_at kind core.journal start) pass.own) (sym u.kind) run.allowed;
          within = run.within;
          last = tied.last (ap is_some e);
        }

    valid : IsValid (account_here chosen)
    unfolding tied its
    valid = record {
      legal = subst (λ kind. IsLegal kind core.journal) (sym u.kind) u.state.transactions.legal;
      current = by_start pass.start refl;
      idle = idle_if pass.own pass.start its.idle;
      counted = tied.counted;
      room = omega (arith, begun_rises pass.begun (left_of job), tied.room);
    }
      where
        by_start : (s : Option ℕ) → pass.start ≡ s → IfSome s (IsOpenTxn (account_here chosen))
        by_start None e = tt
        by_start (Some start) e = txn_is_open start e

    pub ready : IsReady chosen job
    unfolding tied its
    ready = record {
      selected = inside;
      now = record {
        number = sym tied.number;
        valid = valid;
        phase_is = tied.phase_is;
        room = tied.room;
        script = subst (λ b. IsScript (Some b) (left_of job)) (inside_is job.phase pass.start tied.phase_is) its.script;
        reads = tied.reads;
        small = tied.small;
        kept = tied.kept;
      };
    }

-- ---- what a line leaves of its transaction

refused_none : (refusal : Refusal) → (effect (refusal_answer refusal)).writes ≡ false
refused_none refusals.SelfLoop = refl
refused_none (refusals.NoVertex v) = refl
refused_none refusals.VertexExists = refl
refused_none refusals.EdgeExists = refl
refused_none refusals.NoEdge = refl
refused_none refusals.HasEdges = refl
refused_none (refusals.Conflict cause) = refl
refused_none (refusals.Full leaves) = refl
refused_none refusals.NoMemory = refl

none_open : {P : Type 0} → false ≡ true → P
none_open is = cc

module _ (kind : Kind) (journal : List Commit) (txns : List OpenTxn) (number : ℕ) (j : JobState) (full : Bool) where
  -- no transaction is open behind a stop
  pub stop_closes : (r : Command) → (line_result kind journal txns number j full r).skipping ≡ true → (line_result kind journal txns number j full r).start ≡ None
  stop_closes r = by_skipping j.skipping
    where
      by_write : (w : Write) (x : Option Refusal) (y : Option Cause) → (write_result j w x y full).skipping ≡ true → (write_result j w x y full).start ≡ None
      by_write w (Some refusal) y e = cc
      by_write w None (Some cause) e = refl
      by_write w None None e = by_full (full && inserts w) e
        where
          by_full : (b : Bool) → (cond b (stops answers.Full) (writes_more j w)).skipping ≡ true → (cond b (stops answers.Full) (writes_more j w)).start ≡ None
          by_full true e = refl
          by_full false e = cc

      by_own : (by : TxnName) (start : ℕ) (own : List Write) → (commit_result journal by start own).skipping ≡ true → (commit_result journal by start own).start ≡ None
      by_own by start [] e = refl
      by_own by start (w ∷ ws) e = refl

      live : (r : Command) → (live_result kind journal txns number j full r).skipping ≡ true → (live_result kind journal txns number j full r).start ≡ None
      live commands.Begin e = cc
      live commands.Commit e = by_own _ _ j.own e
      live commands.Abort e = refl
      live (commands.Write w) e = by_write w _ _ e
      live (commands.Read query) e = cc
      live (commands.Run kernel file) e = cc

      by_skipping : (b : Bool) → (cond b (skips r) (live_result kind journal txns number j full r)).skipping ≡ true → (cond b (skips r) (live_result kind journal txns number j full r)).start ≡ None
      by_skipping true e = refl
      by_skipping false e = live r e

  -- a write is made where a transaction is open
  pub writes_open : (r : Command) → (j.skipping ≡ false → (r ≡ commands.Begin) ⊎ IsSome j.start) → (effect (line_result kind journal txns number j full r).answer).writes ≡ true → IsSome j.start
  writes_open r may = by_skipping j.skipping refl
    where
      begun : (r ≡ commands.Begin) ⊎ IsSome j.start → (effect (live_result kind journal txns number j full r).answer).writes ≡ true → IsSome j.start
      begun (inl is) e = absurd (let never : false ≡ true = sym (ap (λ x. (effect (live_result kind journal txns number j full x).answer).writes) is) ∙ e in cc)
      begun (inr opened) e = opened

      by_skipping : (b : Bool) → j.skipping ≡ b → (effect (cond b (skips r) (live_result kind journal txns number j full r)).answer).writes ≡ true → IsSome j.start
      by_skipping true f e = absurd (let never : false ≡ true = e in cc)
      by_skipping false f e = begun (may f) e

  -- a transaction that stays open behind a line, and was not written to, is as it was
  abbrev pub IsSame : LineResult → Type 0
  IsSame result = (result.start ≡ j.start) × (result.own ≡ j.own) × (result.commits ≡ [])

  abbrev StaysSame : LineResult → Type 0
  StaysSame result = is_open (phase_behind result) ≡ true → (effect result.answer).writes ≡ false → IsSame result

  pub stays_same : (r : Command) (behind : Bool) → open_behind true r ≡ Some behind → j.skipping ≡ false → StaysSame (line_result kind journal txns number j full r)
  stays_same r behind stands calm = subst (λ b. StaysSame (cond b (skips r) (live_result kind journal txns number j full r))) (sym calm) (live r stands)
    where
      by_write : (w : Write) (x : Option Refusal) (y : Option Cause) → StaysSame (write_result j w x y full)
      by_write w (Some refusal) y e f = (refl, refl, refl)
      by_write w None (Some cause) e f = none_open e
      by_write w None None e f = by_full (full && inserts w) e f
        where
          by_full : (b : Bool) → StaysSame (cond b (stops answers.Full) (writes_more j w))
          by_full true e f = none_open e
          by_full false e f = none_open (sym f)

      by_own : (by : TxnName) (start : ℕ) (own : List Write) → StaysSame (commit_result journal by start own)
      by_own by start [] e f = none_open e
      by_own by start (w ∷ ws) e f = none_open e

      live : (r : Command) → open_behind true r ≡ Some behind → StaysSame (live_result kind journal txns number j full r)
      live commands.Begin stands e f = let no_one : ◌≡◌ {A = Option Bool} None (Some behind) = stands in cc
      live commands.Commit stands e f = by_own _ _ j.own e f
      live commands.Abort stands e f = none_open e
      live (commands.Write w) stands e f = by_write w _ _ e f
      live (commands.Read query) stands e f = (refl, refl, refl)
      live (commands.Run kernel file) stands e f = (refl, refl, refl)

  -- the open transaction's writes stand last
  module _ (made : List (List Write)) (last : IsSome j.start → (earlier : List (List Write)) × (made ≡ earlier ++ j.own ∷ [])) where
    abbrev Last : Command → LineResult → Type 0
    Last r result = IsSome result.start → (earlier : List (List Write)) × (made_behind made r result.answer ≡ earlier ++ result.own ∷ [])

    pub last_behind : (r : Command) → Last r (line_result kind journal txns number j full r)
    last_behind r = by_skipping j.skipping
      where
        by_write : (w : Write) (x : Option Refusal) (y : Option Cause) → Last (commands.Write w) (write_result j w x y full)
        by_write w (Some refusal) y opened = let l = last opened in (l.0, ap (λ b. cond b (last_with made w) made) (refused_none refusal) ∙ l.1)
        by_write w None (Some cause) opened = none_open opened
        by_write w None None opened = by_full (full && inserts w) opened
          where
            by_full : (b : Bool) → Last (commands.Write w) (cond b (stops answers.Full) (writes_more j w))
            by_full true opened = none_open opened
            by_full false opened = let l = last opened in (l.0, ap (λ xs. last_with xs w) l.1 ∙ last_more l.0 j.own w)

        by_own : (by : TxnName) (start : ℕ) (own : List Write) → Last commands.Commit (commit_result journal by start own)
        by_own by start [] opened = none_open opened
        by_own by start (w ∷ ws) opened = none_open opened

        live : (r : Command) → Last r (live_result kind journal txns number j full r)
        live commands.Begin opened = (made, refl)
        live commands.Commit opened = by_own _ _ j.own opened
        live commands.Abort opened = none_open opened
        live (commands.Write w) opened = by_write w _ _ opened
        live (commands.Read query) opened = last opened
        live (commands.Run kernel file) opened = last opened

        by_skipping : (b : Bool) → Last r (cond b (skips r) (live_result kind journal txns number j full r))
        by_skipping true opened = none_open opened
        by_skipping false opened = live r opened

-- between transactions only a `begin` may stand
pub between_begins : (r : Command) (behind : Bool) → open_behind false r ≡ Some behind → r ≡ commands.Begin
between_begins commands.Begin behind e = refl
between_begins commands.Commit behind e = let no_one : ◌≡◌ {A = Option Bool} None (Some behind) = e in cc
between_begins commands.Abort behind e = let no_one : ◌≡◌ {A = Option Bool} None (Some behind) = e in cc
between_begins (commands.Write w) behind e = let no_one : ◌≡◌ {A = Option Bool} None (Some behind) = e in cc
between_begins (commands.Read query) behind e = let no_one : ◌≡◌ {A = Option Bool} None (Some behind) = e in cc
between_begins (commands.Run kernel file) behind e = let no_one : ◌≡◌ {A = Option Bool} None (Some behind) = e in cc
