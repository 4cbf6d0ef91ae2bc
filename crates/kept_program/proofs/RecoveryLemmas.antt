-- A journal file that was read back is written as text, or it is said why it wasn't.
use Rattle.std.proofs.Common.{◌≡◌, ℕ, List, [], ◌∷◌, refl, sym, ◌∙◌, ap, subst, inl, inr, false}
use Rattle.std.specs.Prelude.{take, unwrap_or, Option, Some}
use Rattle.run_model.specs.Texts.{journal_text}
use Rattle.desk_io.specs.Files.{Files}
use Rattle.desk_io.specs.Outputs.{names_of}
use Rattle.journal_disk.specs.Disk.{DiskState, FaultsStand}
use Rattle.journal_recovery.specs.JournalFileDeclared.refusal.RecoverRefusal.{RecoverRefusal}
use Rattle.journal_recovery.specs.JournalFileDeclared.refusal.RecoverRefusal.TheVariants as recoveries
use Rattle.journal_recovery.specs.JournalFile.Reading.{Opened, opened}
use Rattle.journal_recovery.specs.JournalFile.Recovering.{IsRefused}
use Rattle.command_words.specs.Words.{RecoverRequest}
use Rattle.kept_run.specs.TeseoProgramDeclared.outcome.Outcome.{Outcome}
use Rattle.kept_run.specs.TeseoProgramDeclared.prepare.Prepared.{Prepared}
use Rattle.kept_run.specs.TeseoProgram.Outcomes.{said_text, blamed, OnlySays}
use Rattle.kept_run.specs.TeseoProgram.Prepared.{Writes, IsWritten}
use Rattle.kept_program.specs.declared.outcome.KeptOutcome.{KeptOutcome}
use Rattle.kept_program.specs.declared.outcome.KeptOutcome.TheVariants.{Of}
use Rattle.kept_program.specs.Outcomes.{stop_text, outcome_of_recovery, IsRecovery, RecoverEnds}
use Rattle.kept_program.specs.Prepared.{IsRecovered}
use Rattle.kept_program.specs.Laws.{StopsAreReadBack}

module _ (request : RecoverRequest) (old new : Files) (disk disk' : DiskState) where
  -- the text of what was read back is written
  pub recovered_ends : (p : Prepared) → IsRecovered disk request p → (outcome : Outcome) → IsWritten p outcome old new → FaultsStand disk disk' → RecoverEnds (Of outcome) request old new disk disk'
  recovered_ends p is outcome written stand = (
    inl (record {
      texts = is.texts;
      told = is.told;
      before = written.before;
      writes = subst (λ full. Writes full (record { name = request.journal; text = is.texts.journal } ∷ []) outcome old written.before) is.never_full
          (subst (λ outputs. Writes p.is_full outputs outcome old written.before) is.outputs_are written.writes);
      says = subst (λ text. OnlySays text written.before new) (λ i. said_text (blamed [] (names_of (is.outputs_are i)) outcome) (is.summary_is i) outcome) written.says;
    }),
    stand,
  )

  -- the file wasn't read back
  pub unrecovered_ends : (refusal : RecoverRefusal) (outcome : KeptOutcome) → outcome ≡ outcome_of_recovery refusal → IsRefused disk request.keep disk' refusal
      → OnlySays (stop_text [] request.keep outcome) old new → RecoverEnds outcome request old new disk disk'
  unrecovered_ends recoveries.NotAJournal outcome is refused says =
      subst (λ o. RecoverEnds o request old new disk disk') (sym is) (refused, subst (λ o. OnlySays (stop_text [] request.keep o) old new) is says)
  unrecovered_ends recoveries.DiskFault outcome is refused says =
      subst (λ o. RecoverEnds o request old new disk disk') (sym is) (refused, subst (λ o. OnlySays (stop_text [] request.keep o) old new) is says)
  unrecovered_ends recoveries.NoMemory outcome is refused says =
      subst (λ o. RecoverEnds o request old new disk disk') (sym is) (inr (refl, subst (λ o. OnlySays (stop_text [] request.keep o) old new) is says), refused)

-- ---- what a crash has left

-- what is read back of it is a front of the journal
pub read_back : StopsAreReadBack
read_back kind journal least image name disk texts (count, enough, within, stands) tells holds told =
    let (o, opens, tell) = told tells in
    let opened_so : opened image ≡ Some o = sym (ap (λ bytes. opened (unwrap_or bytes [])) holds) ∙ opens in
    let one : ◌≡◌ {A = Option Opened} (Some o) (Some (record { kind = kind; commits = take count journal })) = sym opened_so ∙ stands in
    let same : o ≡ record { kind = kind; commits = take count journal } = cc in
    (count, enough, within, tell.journal ∙ ap (λ x. journal_text x.commits) same)
