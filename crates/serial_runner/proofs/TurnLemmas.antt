-- From turn to turn of jobs whose commits are checked.
use Rattle.std.proofs.Common.{◌≡◌, ℕ, suc, ◌+◌, ◌-◌, ◌^◌, ◌<◌, ◌≤◌, List, [], ◌∷◌, ◌++◌, map, length, refl, sym, ◌∙◌, ap, subst, arith, cond, inl, inr, append_assoc}
use Rattle.std.specs.Prelude.{min, Bool, true, false, ◌==◌, not, slice_get, slice_set, Some, None}
use Rattle.std.proofs.lemmas.Bool.{true≢false}
use Rattle.std.proofs.lemmas.Bool.Decides.{nat_tests}
use Rattle.std.proofs.lemmas.List.{map-append, length-map}
use Rattle.graph_model.specs.declared.refusal.Cause.TheVariants.{Later}
use Rattle.graph_model.specs.Legal.{IsLegal}
use Rattle.graph_model.specs.OwnerCalls.{Core, pass_at, one_more}
use Rattle.graph_model.proofs.LegalLemmas.{below_length}
use Rattle.graph_model.proofs.PlaceLemmas.{some_eq}
use Rattle.run_model.specs.declared.command.Command.{Command}
use Rattle.run_model.specs.declared.command.Command.TheVariants as commands
use Rattle.run_model.specs.declared.answer.Answer.{Answer}
use Rattle.run_model.specs.declared.answer.Answer.TheVariants as answers
use Rattle.run_model.specs.Commands.{next_txn}
use Rattle.run_model.specs.AnsweredLines.{answered_from}
use Rattle.run_model.specs.Inputs.{Inputs}
use Rattle.run_model.specs.Run.{MayFill}
use Rattle.run_model.specs.Jobs.{JobState, RunState, lines_so_far, ends, answered_job, with_job, job_turn, turn_at_place, turn, has_ended}
use Rattle.run_model.specs.Stepped.{turn_at, service_turns, context_in}
use Rattle.run_model.specs.UnderWay.{AreNumbered, IsJob}
use Rattle.run_model.proofs.SetLemmas.{get_set, get_set_else, set_cases, get_map, map_get}
use Rattle.job_runner.specs.Progress.{Progress, left_of, job_at, state_of}
use Rattle.job_runner.specs.Runs.{under_way, Turns}
use Rattle.job_runner.proofs.RunLemmas.{ended_is}
use Rattle.job_runner.proofs.TieLemmas as ties
use Rattle.serial_model.specs.SerialTurns.{refusal_of_line, refused_job, refused_or, serial_line, serial_at, serial_turn}
use Rattle.serial_model.specs.SerialRun.{is_refused, line_read, job_read, run_read}
use Rattle.serial_model.proofs.ReadLemmas.{map_slice_set, turn_read, numbered_read}
use Rattle.serial_model.proofs.WayLemmas.{inserted_read}
use Rattle.serial_model.proofs.SerialLemmas as serial
use Rattle.serial_model.proofs.SerialLemmas.{ended_read, refusal_parts}
use Rattle.serial_runner.specs.declared.run.RefusedCommit.{RefusedCommit}
use Rattle.serial_runner.specs.declared.run.Check.{Check}
use Rattle.serial_runner.specs.SerialRuns.{refused_from, IsFootprintOf, Extends, refusal_by, PreparesLine, IsUnderCheck}
use Rattle.serial_runner.proofs.AbortLemmas as abort
use Rattle.serial_runner.proofs.StateLemmas as states
use Rattle.serial_runner.proofs.StateLemmas.{HasAnswered, CoversWith, turn_goes, refused_same, refused_one, foot_answered, foot_behind, foot_extended, extends_none}
use Rattle.serial_runner.proofs.CheckLemmas.{refusal_same}

-- what was refused of each script
abbrev refs : List JobState → List (List RefusedCommit)
refs jobs = map (λ j. refused_from 0 j.lines) jobs

refused_of : Check → List RefusedCommit
refused_of check = check.refused

pub map_at : {X Y : Type 0} (f : X → Y) (xs : List X) (k : ℕ) (x : X) (y : Y) → slice_get xs k ≡ Some x → slice_get (map f xs) k ≡ Some y → f x ≡ y
map_at f xs k x y e g = some_eq (f x) y (sym (get_map f xs k x e) ∙ g)

pub answered_count : (txn : ℕ) (cs : List Command) (ys : List Answer) → length ys ≤ length cs → length (answered_from txn cs ys) ≡ length ys
answered_count txn [] [] le = refl
answered_count txn [] (y ∷ ys) le = absurd (omega (arith, le))
answered_count txn (c ∷ cs) [] le = refl
answered_count txn (c ∷ cs) (y ∷ ys) le = ap suc (answered_count (next_txn txn c) cs ys (omega (arith, le)))

not_over : (n : ℕ) → 0 < n → (n == 0) ≡ false
not_over n lt = grind (arith, nat_tests)

module _ (inputs : Inputs) (schedule : List ℕ) (first : Core) (n : ℕ) (core : Core) (jobs : List Progress) (checks : List Check) (u : IsUnderCheck inputs schedule first n core jobs checks) where
  abbrev s : RunState
  s = u.state

  kind_is : core.kind ≡ inputs.kind
  kind_is = u.under.kind ∙ u.kind

  journal_is : s.journal ≡ core.journal
  journal_is = ap (λ (t : RunState). t.journal) u.same

  going : 0 < under_way jobs → has_ended s ≡ false
  going some = sym (ended_read s.jobs) ∙ ap has_ended u.same ∙ ended_is u.read core jobs u.under ∙ not_over (under_way jobs) some

  -- the leaves may be full by what the engine says
  fills : MayFill u.read.kind core.leaves u.read.load (lines_so_far (state_of core jobs)) → MayFill inputs.kind first.leaves inputs.load (lines_so_far s)
  fills filled =
      let same = inserted_read inputs.kind s.jobs in
      let may : MayFill inputs.kind first.leaves inputs.load (lines_so_far (run_read s)) =
      subst (λ t. MayFill inputs.kind first.leaves inputs.load (lines_so_far t)) (sym u.same)
      (subst (λ l. MayFill inputs.kind first.leaves l (lines_so_far (state_of core jobs))) u.load
      (subst (λ m. MayFill inputs.kind m u.read.load (lines_so_far (state_of core jobs))) u.leaves
      (subst (λ k. MayFill k core.leaves u.read.load (lines_so_far (state_of core jobs))) u.kind filled))) in
      omega (arith, may, same)

  counted : (b : Bool) (served t : ℕ) → served ≡ min (first.served + t) (2 ^ 64 - 1) → cond b (one_more served) served ≡ min (first.served + cond b (t + 1) t) (2 ^ 64 - 1)
  counted true served t e = ap one_more e ∙ (omega arith)
  counted false served t e = e

  module _ (number : ℕ) (whose : turn_at (length inputs.scripts) schedule n ≡ number) (some : 0 < under_way jobs) where
    -- ---- a turn like those of runs that refuse none

    module _ (ended : Bool) (new : Core) (next : List Progress) (turns : Turns core jobs number ended new next) (next_count : length next ≡ length jobs) (after : List Check)
        (same : serial_turn inputs.kind s number turns.full ≡ turn inputs.kind s number turns.full)
        (refused : map (λ (check : Check). check.refused) after ≡ refs (turn inputs.kind s number turns.full).jobs)
        (feet : (k : ℕ) (j : JobState) (check : Check) → slice_get (turn inputs.kind s number turns.full).jobs k ≡ Some j → slice_get after k ≡ Some check → IsFootprintOf inputs.kind j check.footprint.items) where
      pub plain_turn : IsUnderCheck inputs schedule first (suc n) new next after
      plain_turn = record {
        state = turn inputs.kind s number turns.full;
        reached = (
          s,
          turns.full,
          u.reached,
          going some,
          (λ e. fills (turns.filling u.read u.under e)),
          sym (ap (λ m. serial_turn inputs.kind s m turns.full) whose ∙ same),
        );
        read = u.read;
        under = turns.keeps u.read u.under;
        kind = u.kind;
        load = u.load;
        count = next_count ∙ u.count;
        same = sym (turn_read inputs.kind s number turns.full) ∙ (λ i. turn (sym kind_is i) (u.same i) number turns.full) ∙ sym turns.state;
        refused = refused;
        feet = feet;
        leaves = turns.leaves ∙ u.leaves;
        served = λ small. turns.served ∙ (λ i. cond (sym whose i == 0) (one_more core.served) core.served)
            ∙ counted (turn_at (length inputs.scripts) schedule n == 0) core.served (service_turns (length inputs.scripts) schedule n) (u.served small);
        journal = ((u.journal).0 ++ (turns.journal).0, (turns.journal).1 ∙ ap (λ xs. xs ++ (turns.journal).0) (u.journal).1 ∙ append_assoc first.journal (u.journal).0 (turns.journal).0);
      }

    -- of the service
    pub service_turn : number ≡ 0 → (ended : Bool) (new : Core) (next : List Progress) → Turns core jobs number ended new next → length next ≡ length jobs → IsUnderCheck inputs schedule first (suc n) new next checks
    service_turn zero_is ended new next turns next_count = plain_turn ended new next turns next_count checks
        (ap (λ m. serial_turn inputs.kind s m turns.full) zero_is ∙ sym (ap (λ m. turn inputs.kind s m turns.full) zero_is))
        (u.refused ∙ sym (ap (λ m. refs (turn inputs.kind s m turns.full).jobs) zero_is))
        (λ k j check e f. u.feet k j check (sym (ap (λ m. slice_get (turn inputs.kind s m turns.full).jobs k) zero_is) ∙ e) f)

    module _ (k : ℕ) (is : number ≡ suc k) (job : Progress) (there : slice_get jobs k ≡ Some job) where
      -- the script of the job, as the state has it
      script_at : (j : JobState) × (slice_get s.jobs k ≡ Some j) × (job_read j ≡ job_at (pass_at core (suc k)) job)
      script_at = map_get job_read s.jobs k (job_at (pass_at core (suc k)) job) (ap (λ (t : RunState). slice_get t.jobs k) u.same ∙ ties.seat u.read core jobs u.under k job there)

      abbrev j : JobState
      j = script_at.0

      at : slice_get s.jobs k ≡ Some j
      at = script_at.1

      its : IsJob (context_in u.read.kind u.read.load (state_of core jobs) k) (job_at (pass_at core (suc k)) job)
      its = ties.its u.read core jobs u.under k job there

      left_is : j.left ≡ left_of job
      left_is = ap (λ (x : JobState). x.left) script_at.2

      inside : k < length s.jobs
      inside = below_length s.jobs k j at

      -- one that is over
      pub over_turn : left_of job ≡ [] → (ended : Bool) (new : Core) (next : List Progress) → Turns core jobs number ended new next → length next ≡ length jobs → IsUnderCheck inputs schedule first (suc n) new next checks
      over_turn none ended new next turns next_count =
          let stays : turn inputs.kind s number turns.full ≡ s =
          ap (λ m. turn inputs.kind s m turns.full) is ∙ ap (turn_at_place inputs.kind s k turns.full) at ∙ ap (job_turn inputs.kind s k turns.full j) (left_is ∙ none) in
          plain_turn ended new next turns next_count checks
          (ap (λ m. serial_turn inputs.kind s m turns.full) is
          ∙ ap (λ x. serial_at inputs.kind s k x (turn inputs.kind s (suc k) turns.full)) at
          ∙ ap (λ cs. serial_line inputs.kind s k j cs (turn inputs.kind s (suc k) turns.full)) (left_is ∙ none)
          ∙ sym (ap (λ m. turn inputs.kind s m turns.full) is))
          (u.refused ∙ sym (ap (λ (t : RunState). refs t.jobs) stays))
          (λ i x check e f. u.feet i x check (sym (ap (λ (t : RunState). slice_get t.jobs i) stays) ∙ e) f)

      module _ (c : Command) (rest : List Command) (left : left_of job ≡ c ∷ rest) (check : Check) (its_check : slice_get checks k ≡ Some check) (new_check : Check) where
        cons : j.left ≡ c ∷ rest
        cons = left_is ∙ left

        abbrev after : List Check
        after = slice_set checks k new_check

        old_refs : check.refused ≡ refused_from 0 j.lines
        old_refs = map_at (λ (x : Check). x.refused) checks k check (refused_from 0 j.lines) its_check (ap (λ xs. slice_get xs k) u.refused ∙ get_map (λ (x : JobState). refused_from 0 x.lines) s.jobs k j at)

        numbered : AreNumbered 0 j.lines j.begun
        numbered = numbered_read 0 j.lines j.begun
            (subst (λ (x : JobState). AreNumbered 0 x.lines x.begun) (sym script_at.2) its.numbered)

        tie : IsFootprintOf inputs.kind j check.footprint.items
        tie = u.feet k j check at its_check

        legal : IsLegal core.kind core.journal
        legal = subst (λ kind. IsLegal kind core.journal) (sym u.under.kind) u.under.state.transactions.legal

        refusal_is : refusal_of_line inputs.kind s.journal j c ≡ refusal_by core (pass_at core (suc k)) check.footprint.items c
        refusal_is =
            (λ i. refusal_of_line (sym kind_is i) (journal_is i) j c)
            ∙ refusal_same core legal (pass_at core (suc k)) j (ap (λ (x : JobState). x.own) script_at.2) (ap (λ (x : JobState). x.start) script_at.2)
            (λ e. ap (λ (x : JobState). x.own) script_at.2 ∙ its.idle (sym (ap (λ (x : JobState). x.start) script_at.2) ∙ e))
            (λ e. ap (λ (x : JobState). x.start) script_at.2 ∙ its.closed (sym (ap (λ (x : JobState). x.skipping) script_at.2) ∙ e))
            check.footprint.items c rest cons (subst (λ kind. IsFootprintOf kind j check.footprint.items) (sym kind_is) tie) c refl

        -- what the checks have to be behind another state of this script
        feet_behind : (next : JobState) → IsFootprintOf inputs.kind next new_check.footprint.items → (i : ℕ) (x : JobState) (y : Check) → slice_get (slice_set s.jobs k next) i ≡ Some x → slice_get after i ≡ Some y → IsFootprintOf inputs.kind x y.footprint.items
        feet_behind next here i x y e f = elim (set_cases s.jobs k i next x inside e) as (λ _. IsFootprintOf inputs.kind x y.footprint.items) [
          | inl p ↦
              let same : new_check ≡ y = some_eq new_check y (sym (get_set checks k new_check (below_length checks k check its_check)) ∙ ap (slice_get after) (sym p.0) ∙ f) in
              subst (λ z. IsFootprintOf inputs.kind z y.footprint.items) p.1 (subst (λ z. IsFootprintOf inputs.kind next z.footprint.items) same here)
          | inr p ↦ u.feet i x y p.1 (sym (get_set_else checks k i new_check p.0) ∙ f)
        ]

        refs_behind : (next : JobState) → new_check.refused ≡ refused_from 0 next.lines → map (λ (x : Check). x.refused) after ≡ refs (slice_set s.jobs k next)
        refs_behind next here =
            map_slice_set (λ (x : Check). x.refused) checks k new_check
            ∙ (λ i. slice_set (u.refused i) k (here i))
            ∙ sym (map_slice_set (λ (x : JobState). refused_from 0 x.lines) s.jobs k next)

        -- one that isn't refused
        pub line_turn : refusal_by core (pass_at core (suc k)) check.footprint.items c ≡ None → (prepared : Progress) → PreparesLine core.kind c None job check prepared new_check
            → (ended : Bool) (new : Core) (next : List Progress) → Turns core jobs number ended new next → length next ≡ length jobs → IsUnderCheck inputs schedule first (suc n) new next after
        line_turn none prepared prep ended new next turns next_count =
            let goes = turn_goes inputs.kind s k turns.full j at c rest cons in
            let jobs_are : (turn inputs.kind s number turns.full).jobs ≡ slice_set s.jobs k goes.0 = ap (λ m. (turn inputs.kind s m turns.full).jobs) is ∙ goes.1 in
            let covers_now : CoversWith inputs.kind j c new_check.footprint.items =
            foot_extended inputs.kind j c rest check.footprint.items new_check.footprint.items cons numbered tie (subst (λ kind. Extends kind c check.footprint.items new_check.footprint.items) kind_is prep.2) in
            plain_turn ended new next turns next_count after
            (ap (λ m. serial_turn inputs.kind s m turns.full) is
            ∙ ap (λ x. serial_at inputs.kind s k x (turn inputs.kind s (suc k) turns.full)) at
            ∙ ap (λ cs. serial_line inputs.kind s k j cs (turn inputs.kind s (suc k) turns.full)) cons
            ∙ ap (λ o. refused_or s k j c rest o (turn inputs.kind s (suc k) turns.full)) (refusal_is ∙ none)
            ∙ sym (ap (λ m. turn inputs.kind s m turns.full) is))
            (refs_behind goes.0 (prep.1 ∙ old_refs ∙ same_refs goes.0 goes.2) ∙ sym (ap refs jobs_are))
            (λ i x y e f. feet_behind goes.0 (foot_behind inputs.kind j c rest goes.0 new_check.footprint.items cons goes.2 covers_now) i x y (sym (ap (λ js. slice_get js i) jobs_are) ∙ e) f)
          where
            same_refs : (next : JobState) → states.Goes j c rest next → refused_from 0 j.lines ≡ refused_from 0 next.lines
            same_refs next (states.Waits inside e) = ap (λ (x : JobState). refused_from 0 x.lines) (sym e)
            same_refs next (states.Answers a not has) = sym (ap (refused_from 0) has.lines ∙ refused_same j.lines _ not)

        -- one that is: the job aborts
        pub refused_turn : (stamp : ℕ) → refusal_by core (pass_at core (suc k)) check.footprint.items c ≡ Some stamp → (prepared : Progress) → PreparesLine core.kind c (Some stamp) job check prepared new_check
            → (ended : Bool) (new : Core) (next : List Progress) → Turns core (slice_set jobs k prepared) number ended new next → length next ≡ length jobs → IsUnderCheck inputs schedule first (suc n) new next after
        refused_turn stamp e prepared prep ended new next turns next_count =
            let refusal : refusal_of_line inputs.kind s.journal j c ≡ Some stamp = refusal_is ∙ e in
            let parts = refusal_parts inputs.kind s.journal j stamp c refusal in
            let commit : c ≡ commands.Commit = parts.0 in
            let commits : left_of job ≡ commands.Commit ∷ rest = left ∙ ap (λ x. x ∷ rest) commit in
            let behind = abort.abort_under_way u.read core jobs u.under k job there rest commits in
            let turned : Turns core (abort.jobs' u.read core jobs u.under k job there rest commits) number ended new next = subst (λ x. Turns core (slice_set jobs k x) number ended new next) prep.0 turns in
            let calm : (job_at (pass_at core (suc k)) job).skipping ≡ false = sym (ap (λ (x : JobState). x.skipping) script_at.2) ∙ parts.1 in
            let aborted : turn core.kind (abort.state' u.read core jobs u.under k job there rest commits) (suc k) turned.full ≡ run_read (with_job s k (refused_job j c rest stamp)) =
            aborts_too turned.full commits calm commit in
            record {
              state = with_job s k (refused_job j c rest stamp);
              reached = (
                s,
                false,
                u.reached,
                going some,
                (λ f. absurd (true≢false (sym f))),
                sym (ap (λ m. serial_turn inputs.kind s m false) (whose ∙ is)
                    ∙ ap (λ x. serial_at inputs.kind s k x (turn inputs.kind s (suc k) false)) at
                    ∙ ap (λ cs. serial_line inputs.kind s k j cs (turn inputs.kind s (suc k) false)) cons
                    ∙ ap (λ o. refused_or s k j c rest o (turn inputs.kind s (suc k) false)) refusal),
              );
              read = abort.inputs' u.read core jobs u.under k job there rest commits;
              under = turned.keeps (abort.inputs' u.read core jobs u.under k job there rest commits) behind;
              kind = u.kind;
              load = u.load;
              count = next_count ∙ u.count;
              same = sym (turned.state ∙ (λ i. turn core.kind (abort.state_is u.read core jobs u.under k job there rest commits i) (is i) turned.full) ∙ aborted);
              refused = refs_behind (refused_job j c rest stamp) (prep.1 ∙ (λ i. old_refs i ++ record { line = lines_count i; stamp = stamp } ∷ []) ∙ sym (refused_one j.lines _ (refused_so commit)));
              feet = feet_behind (refused_job j c rest stamp) (foot_answered inputs.kind j c rest (answers.Conflict (Later stamp)) (refused_job j c rest stamp) new_check.footprint.items
                  (record { lines = refl; left = refl; taken = refl; begun = refl })
                  (foot_extended inputs.kind j c rest check.footprint.items new_check.footprint.items cons numbered tie (subst (λ x. Extends inputs.kind x check.footprint.items new_check.footprint.items) (sym commit) (extends_none inputs.kind check.footprint.items new_check.footprint.items prep.2))));
              leaves = turned.leaves ∙ u.leaves;
              served = λ small. turned.served ∙ (λ i. cond (sym whose i == 0) (one_more core.served) core.served)
                  ∙ counted (turn_at (length inputs.scripts) schedule n == 0) core.served (service_turns (length inputs.scripts) schedule n) (u.served small);
              journal = ((u.journal).0 ++ (turned.journal).0, (turned.journal).1 ∙ ap (λ xs. xs ++ (turned.journal).0) (u.journal).1 ∙ append_assoc first.journal (u.journal).0 (turned.journal).0);
            }
          where
            lines_count : length job.answers ≡ length j.lines
            lines_count = sym (answered_count 0 job.commands job.answers (u.under.each k job there).answered) ∙ sym (ap (λ (x : JobState). length x.lines) script_at.2) ∙ length-map j.lines line_read

            refused_so : c ≡ commands.Commit → is_refused c (answers.Conflict (Later stamp)) ≡ true
            refused_so commit = ap (λ x. is_refused x (answers.Conflict (Later stamp))) commit

            aborts_too : (full : Bool) (commits : left_of job ≡ commands.Commit ∷ rest) → (job_at (pass_at core (suc k)) job).skipping ≡ false → c ≡ commands.Commit
                → turn core.kind (abort.state' u.read core jobs u.under k job there rest commits) (suc k) full ≡ run_read (with_job s k (refused_job j c rest stamp))
            aborts_too full commits calm commit =
                serial.aborts u.read core.leaves (state_of core jobs) u.under.state k (job_at (pass_at core (suc k)) job) (ties.seat u.read core jobs u.under k job there) rest commits calm core.kind full
                ∙ (λ i. with_job (sym u.same i) k (answered_job (record (sym script_at.2 i) { left = commands.Abort ∷ rest }) commands.Abort rest (ends answers.Aborted [])))
                ∙ (λ i. record {
                  journal = s.journal;
                  jobs = slice_set (map job_read s.jobs) k (record {
                    lines = sym (map-append line_read j.lines (record { txn = j.begun; command = commands.Commit; answer = answers.Conflict (Later stamp) } ∷ [])) i;
                    left = rest;
                    taken = 0;
                    begun = j.begun;
                    start = None;
                    own = [];
                    skipping = false;
                  });
                })
                ∙ (λ i. record { journal = s.journal; jobs = sym (map_slice_set job_read s.jobs k (refused_job j commands.Commit rest stamp)) i })
                ∙ (λ i. run_read (with_job s k (refused_job j (sym commit i) rest stamp)))
