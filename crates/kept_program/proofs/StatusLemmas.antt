-- The status of a call of which nothing fails is the one that its words and sources ask for.
use Rattle.std.proofs.Common.{◌≡◌, ℕ, ◌⊎◌, inl, inr, ⊎_elim, List, sym, ap, subst}
use Rattle.desk_io.specs.Files.{Files}
use Rattle.desk_io.specs.declared.sources.ReadStop.TheVariants.{TooLong}
use Rattle.journal_disk.specs.Disk.{DiskState}
use Rattle.command_words.specs.Words.{Request, run, make, recover, IsTaken}
use Rattle.kept_run.specs.TeseoProgramDeclared.left.Left.{Left}
use Rattle.kept_run.specs.TeseoProgramDeclared.outcome.Outcome.TheVariants.{BadWords, NotRead, NotAccepted}
use Rattle.kept_run.specs.TeseoProgram.Laws.{Stands, HasNoFault}
use Rattle.kept_run.specs.RunKeeper.Keeping.{acknowledged_on}
use Rattle.kept_program.specs.declared.outcome.KeptOutcome.{KeptOutcome}
use Rattle.kept_program.specs.declared.outcome.KeptOutcome.TheVariants.{Of}
use Rattle.kept_program.specs.Outcomes.{kept_status, IsEnd}
use Rattle.kept_program.specs.Laws.{IsFaultlessEnd, TellsBadWords, IsExactStatus}
use Rattle.kept_program.proofs.LawLemmas.{calls_end_well, roomy_calls_end_well, calls_make_graphs, faulty_told, long_told, files_recovered}
use Rattle.kept_program.proofs.FaultLemmas.{bad_words_told}

module _ {D : Type 0} (moment : D → ℕ) (may_leave : D → List ℕ → Type 0) (left_since : D → ℕ → List ℕ → Type 0) (now : D) (outcome : KeptOutcome) (words : List (List ℕ)) (old new : Files) (left left' : Left)
    (disk disk' : DiskState) (is : IsEnd (acknowledged_on moment may_leave left_since now) outcome words old new left left' disk disk') where
  -- a call that ends as this outcome, or wants memory, has its status, or 3
  status_as : (ends : KeptOutcome) → (outcome ≡ ends) ⊎ (kept_status outcome ≡ 3) → (kept_status outcome ≡ kept_status ends) ⊎ (kept_status outcome ≡ 3)
  status_as ends = ⊎_elim (λ same. inl (ap kept_status same)) (λ three. inr three)

  tells : TellsBadWords words outcome
  tells = bad_words_told moment may_leave left_since now outcome words old new left left' disk disk' is

  module _ (no_fault : HasNoFault old new) (stands : Stands disk.faults disk'.faults) where
    faultless : (request : Request) → IsTaken words request → IsFaultlessEnd moment may_leave left_since request outcome old new
    faultless request taken = record {
      words = words;
      taken = taken;
      no_fault = no_fault;
      disk = disk;
      disk' = disk';
      stands = stands;
      left = left;
      left' = left';
      now = now;
      is_end = is;
    }

    -- the status is the one that is asked for
    exact_status : IsExactStatus words (kept_status outcome) old
    exact_status = record {
      accepted = λ request sources m taken told means. calls_end_well moment may_leave left_since outcome request sources m old new told means (faultless (run request) taken);
      roomy = λ request sources m taken unstated told means few. roomy_calls_end_well moment may_leave left_since outcome request sources m old new unstated told means few (faultless (run request) taken);
      faulty = λ request sources place fault taken told refused.
          status_as (Of (NotAccepted place fault)) (faulty_told moment may_leave left_since outcome request sources place fault old new told refused (faultless (run request) taken));
      long = λ request place before name bytes taken told there is_long.
          status_as (Of (NotRead (TooLong place))) (long_told moment may_leave left_since outcome request place before name bytes old new told there is_long (faultless (run request) taken));
      made = λ request taken. calls_make_graphs moment may_leave left_since outcome request old new (faultless (make request) taken);
      recovered = λ request taken. files_recovered moment may_leave left_since outcome request old new (faultless (recover request) taken);
      untaken = λ never. status_as (Of BadWords) (tells.untaken never);
      bad = tells.bad;
    }

    -- so is the number that is answered for it
    pub exact_number : (status : ℕ) → status ≡ kept_status outcome → IsExactStatus words status old
    exact_number status same = subst (λ s. IsExactStatus words s old) (sym same) exact_status
