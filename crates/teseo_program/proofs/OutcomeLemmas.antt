-- A call ends as its outputs are written, or as its preparation stopped.
use Rattle.std.proofs.Common.{◌≡◌, ℕ, List, [], refl, sym, ◌∙◌, subst, true, false}
use Rattle.graph_model.specs.declared.write.Kind.TheVariants.{Directed}
use Rattle.source_run.specs.declared.ran.Ran.{Ran}
use Rattle.source_run.specs.declared.ran.Ran.TheVariants.{Stepped}
use Rattle.desk_io.specs.Files.{Files}
use Rattle.desk_io.specs.Outputs.{names_of, WritesAll, FailsAtPlace}
use Rattle.command_words.specs.Words.{RunRequest, MakeRequest}
use Rattle.teseo_program.specs.declared.outcome.Outcome.{Outcome}
use Rattle.teseo_program.specs.declared.outcome.Outcome.TheVariants.{Done, Full, LoadFull, BadWords, NotRead, NotAccepted, NoMemory, NotWritten}
use Rattle.teseo_program.specs.declared.prepare.Prepared.{Prepared}
use Rattle.teseo_program.specs.declared.left.Left.{Left}
use Rattle.source_run.specs.Requests.{source_names}
use Rattle.teseo_program.specs.Prepared.{IsUnprepared, IsPreparedOf, IsMadeGraph, Writes, IsWritten, made_of}
use Rattle.teseo_program.specs.Outcomes.{Made, IsCause, OnlySays, SaysOutcome, said_text, blamed, IsLeft, IsRunOutcome, IsMakeCause, IsMakeOutcome, left_of}

-- ---- a run

module _ (request : RunRequest) (old : Files) where
  module _ (p : Prepared) (of_run : IsPreparedOf request old p) where
    pub written_cause : (before : Files) (outcome : Outcome) → Writes p.is_full p.outputs outcome old before → IsCause outcome request (made_of of_run.run of_run.ran p) old before
    written_cause before Done writes = record { of_run = of_run.of_run; shows = of_run.full ∙ writes.0; writes = writes.1 }
    written_cause before Full writes = record { of_run = of_run.of_run; shows = of_run.full ∙ writes.0; writes = writes.1 }
    written_cause before LoadFull writes = absurd writes
    written_cause before BadWords writes = writes
    written_cause before (NotRead stop) writes = absurd writes
    written_cause before (NotAccepted place fault) writes = absurd writes
    written_cause before NoMemory writes = absurd writes
    written_cause before (NotWritten stop) writes = (of_run.of_run, writes)

    -- no source is blamed where outputs are written
    pub written_says : (before new : Files) (outcome : Outcome) → Writes p.is_full p.outputs outcome old before
        → OnlySays (said_text (blamed [] (names_of p.outputs) outcome) p.summary outcome) before new → SaysOutcome request p.outputs p.summary outcome before new
    written_says before new Done writes says = says
    written_says before new Full writes says = says
    written_says before new LoadFull writes says = absurd writes
    written_says before new BadWords writes says = says
    written_says before new (NotRead stop) writes says = absurd writes
    written_says before new (NotAccepted place fault) writes says = absurd writes
    written_says before new NoMemory writes says = says
    written_says before new (NotWritten stop) writes says = says

    -- what was prepared of a run is written
    unfoldable pub written_ends : (outcome : Outcome) (kept new : Files) (left left' : Left) → kept ≡ old → IsWritten p outcome kept new → IsLeft outcome p.left left left' → IsRunOutcome outcome request old new left left'
    written_ends outcome kept new left left' same written left_is =
        let writes : Writes p.is_full p.outputs outcome old written.before = subst (λ files. Writes p.is_full p.outputs outcome files written.before) same written.writes in
        record {
          made = made_of of_run.run of_run.ran p;
          before = written.before;
          cause = written_cause written.before outcome writes;
          says = written_says written.before new outcome writes written.says;
          left_is = subst (λ ran. IsLeft outcome ran left left') of_run.left left_is;
        }

  no_core : Ran
  no_core = Stepped (record { core = record { kind = Directed; leaves = 0; journal = []; passes = []; selected = 0; served = 0 }; settled = true })

  nothing : Made
  nothing = record { run = record { journal = []; reports = []; files = [] }; ran = no_core; outputs = []; summary = [] }

  unprepared_cause : (before : Files) (outcome : Outcome) → IsUnprepared request old before outcome → IsCause outcome request nothing old before
  unprepared_cause before Done stopped = absurd stopped
  unprepared_cause before Full stopped = absurd stopped
  unprepared_cause before LoadFull stopped = stopped
  unprepared_cause before BadWords stopped = stopped
  unprepared_cause before (NotRead stop) stopped = stopped
  unprepared_cause before (NotAccepted place fault) stopped = stopped
  unprepared_cause before NoMemory stopped = stopped
  unprepared_cause before (NotWritten stop) stopped = absurd stopped

  unprepared_left : (before : Files) (outcome : Outcome) (ran left : Left) → IsUnprepared request old before outcome → IsLeft outcome ran left left
  unprepared_left before Done ran left stopped = absurd stopped
  unprepared_left before Full ran left stopped = absurd stopped
  unprepared_left before LoadFull ran left stopped = refl
  unprepared_left before BadWords ran left stopped = refl
  unprepared_left before (NotRead stop) ran left stopped = refl
  unprepared_left before (NotAccepted place fault) ran left stopped = refl
  unprepared_left before NoMemory ran left stopped = refl
  unprepared_left before (NotWritten stop) ran left stopped = absurd stopped

  -- nothing was prepared
  pub unprepared_ends : (outcome : Outcome) (before new : Files) (left : Left) (name : List ℕ) → IsUnprepared request old before outcome → name ≡ blamed (source_names request) [] outcome
      → OnlySays (said_text name [] outcome) before new → IsRunOutcome outcome request old new left left
  unfolding nothing
  unprepared_ends outcome before new left name stopped is says = record {
    made = nothing;
    before = before;
    cause = unprepared_cause before outcome stopped;
    says = subst (λ blame. OnlySays (said_text blame [] outcome) before new) is says;
    left_is = unprepared_left before outcome (left_of no_core) left stopped;
  }

-- ---- a graph that is made

module _ (request : MakeRequest) (p : Prepared) (made : IsMadeGraph request p) where
  graph_cause : (old before : Files) (outcome : Outcome) → Writes p.is_full p.outputs outcome old before → IsMakeCause outcome request old before
  graph_cause old before Done writes = subst (λ outputs. WritesAll outputs old before) made.outputs_are writes.1
  graph_cause old before Full writes = let no : true ≡ false = sym writes.0 ∙ made.never_full in cc
  graph_cause old before LoadFull writes = absurd writes
  graph_cause old before BadWords writes = writes
  graph_cause old before (NotRead stop) writes = writes
  graph_cause old before (NotAccepted place fault) writes = writes
  graph_cause old before NoMemory writes = absurd writes
  graph_cause old before (NotWritten stop) writes = subst (λ outputs. FailsAtPlace outputs stop.place old before) made.outputs_are writes

  -- what was prepared of a graph is written
  pub graph_ends : (outcome : Outcome) (old new : Files) → IsWritten p outcome old new → IsMakeOutcome outcome request old new
  graph_ends outcome old new written = record {
    before = written.before;
    cause = graph_cause old written.before outcome written.writes;
    says = subst (λ text. OnlySays text written.before new) (λ i. said_text (blamed [] (names_of (made.outputs_are i)) outcome) (made.summary_is i) outcome) written.says;
  }
