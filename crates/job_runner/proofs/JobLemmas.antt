-- A job's fields, and what contracts see of it.
use Rattle.std.proofs.Common.{◌≡◌, ℕ, zero, suc, ◌+◌, ◌<◌, ◌≤◌, List, [], ◌∷◌, length, drop, refl, sym, ◌∙◌, ap, subst, arith, slice_index_or, inl, inr}
use Rattle.std.specs.Prelude.{Bool, true, false, cond, not, ◌&&◌, ◌||◌, nat_le, Option, Some, None, IfSome, IsSome, Result, Ok, Err, OnOk, OnErr}
use Rattle.std.proofs.lemmas.Bool.Decides.{nat_tests}
use Rattle.graph_model.specs.declared.write.Write.{Write}
use Rattle.items.specs.declared.memory.NoMemory.{NoMemory}
use Rattle.graph_model.specs.declared.refusal.BeginRefusal.TheVariants as begin_refusals
use Rattle.graph_model.specs.declared.refusal.Refusal.TheVariants as refusals
use Rattle.graph_model.specs.Account.{Account}
use Rattle.graph_model.specs.OwnerCalls.{Core, account_here, AbortsHere}
use Rattle.run_model.specs.declared.command.Command.{Command}
use Rattle.run_model.specs.declared.command.Command.TheVariants as commands
use Rattle.run_model.specs.declared.command.Kernel.{Kernel}
use Rattle.run_model.specs.Commands.{next_txn, begun_by, open_behind, IsScript}
use Rattle.run_model.specs.Jobs.{is_empty}
use Rattle.line_runner.specs.declared.answering.LineAnswer.{LineAnswer}
use Rattle.line_runner.specs.declared.answering.LineTurn.{LineTurn}
use Rattle.line_runner.specs.declared.answering.LineTurn.TheVariants.{Scanning, Answering}
use Rattle.line_runner.specs.declared.phase.Phase.{Phase}
use Rattle.line_runner.specs.declared.phase.Phase.TheVariants.{Between, Open, Skipping, GivenUp}
use Rattle.line_runner.specs.declared.kept.KeptImage.{KeptImage}
use Rattle.line_runner.specs.declared.reading.LineReading.{LineReading}
use Rattle.line_runner.specs.Kernels.{IsKeptImage}
use Rattle.line_runner.specs.Scanning.{IsReading}
use Rattle.line_runner.specs.Phases.{is_inside, is_open, sees_same, image_behind, IsPhase}
use Rattle.line_runner.specs.Turns.{is_call, view_now, MayTakeNow, ReadsFurther, Calls, ReadsTimes, AnswersLive, TakesOn, WantsOn, AreByAccount, AreExact}
use Rattle.line_runner.specs.Lines.{given_up}
use Rattle.line_runner.proofs.ExactLemmas.{takes_here, wants_same}
use Rattle.job_runner.specs.declared.turn.JobTurn.{JobTurn}
use Rattle.job_runner.specs.declared.turn.JobTurn.TheVariants as turns
use Rattle.job_runner.specs.Progress.{Progress, left_of, has_given_up, is_over, behind, gone, runs_kernel, ComesTo, EndsTurnOn, GivesUpOn, IsReady, IsReadyBy, IsRolledBack, Replays, TakesTurn, TookTurn, TakesTurnOn, TookTurnOn, AnswersInParts, TakesInParts, TakesTurnInParts}

-- ---- what is left of a script

-- nothing is left behind the end
pub empty_drop : (xs : List Command) (n : ℕ) → nat_le (length xs) n ≡ is_empty (drop n xs)
empty_drop [] zero = refl
empty_drop [] (suc n) = grind (arith, nat_tests)
empty_drop (x ∷ xs) zero = grind (arith, nat_tests)
empty_drop (x ∷ xs) (suc n) = both (length xs) n ∙ empty_drop xs n
  where
    both : (m n : ℕ) → nat_le (suc m) (suc n) ≡ nat_le m n
    both m n = grind (arith, nat_tests)

-- what stands at a place is what is left from there on
pub drop_at : (xs : List Command) (n : ℕ) → is_empty (drop n xs) ≡ false → (c : Command) → c ≡ slice_index_or xs n c → drop n xs ≡ c ∷ drop (suc n) xs
drop_at [] zero some c is = absurd (let no : true ≡ false = some in cc)
drop_at [] (suc n) some c is = absurd (let no : true ≡ false = some in cc)
drop_at (x ∷ xs) zero some c is = ap (λ y. y ∷ xs) (sym is)
drop_at (x ∷ xs) (suc n) some c is = drop_at xs n some c is

pub heads : (x c : Command) (cs rest : List Command) → x ∷ cs ≡ c ∷ rest → x ≡ c
heads x c cs rest e = cc

-- a job that isn't over has a line at hand
pub has_left : (phase : Phase) (left : List Command) → (has_given_up phase || is_empty left) ≡ false → is_empty left ≡ false
has_left Between left e = e
has_left Open left e = e
has_left Skipping left e = e
has_left GivenUp left e = absurd (let no : true ≡ false = e in cc)

-- whoever hasn't given up is over at the end of the script
pub over_at : (job : Progress) → (job.phase ≡ GivenUp → ⊥) → nat_le (length job.commands) (length job.answers) ≡ is_over job
over_at job going = by_phase job.phase going
  where
    by_phase : (phase : Phase) → (phase ≡ GivenUp → ⊥) → nat_le (length job.commands) (length job.answers) ≡ (has_given_up phase || is_empty (left_of job))
    by_phase Between going = empty_drop job.commands (length job.answers)
    by_phase Open going = empty_drop job.commands (length job.answers)
    by_phase Skipping going = empty_drop job.commands (length job.answers)
    by_phase GivenUp going = absurd (going refl)

-- ---- the line at hand

-- transactions are begun, and none is taken back
pub begun_rises : (n : ℕ) (cs : List Command) → n ≤ begun_by n cs
begun_rises n [] = omega arith
begun_rises n (c ∷ cs) = next n c (begun_by (next_txn n c) cs) (begun_rises (next_txn n c) cs)
  where
    next : (n : ℕ) (r : Command) (m : ℕ) → next_txn n r ≤ m → n ≤ m
    next n commands.Begin m le = omega (arith, le)
    next n commands.Commit m le = le
    next n commands.Abort m le = le
    next n (commands.Write w) m le = le
    next n (commands.Read query) m le = le
    next n (commands.Run kernel file) m le = le

some_stands : (x : Option Bool) (rest : List Command) → IsScript x rest → (b : Bool) × (x ≡ Some b)
some_stands None rest is = absurd is
some_stands (Some b) rest is = (b, refl)

pub may_take : (account : Account) (job : Progress) → IsReadyBy account job → (c : Command) (rest : List Command) → left_of job ≡ c ∷ rest → MayTakeNow account job.phase job.reading c
may_take account job ready c rest is =
    let script : IsScript (Some (is_inside job.phase)) (c ∷ rest) = subst (IsScript (Some (is_inside job.phase))) is ready.script in
    let room : begun_by (next_txn account.begun c) rest ≤ account.allowed = subst (λ cs. begun_by account.begun cs ≤ account.allowed) is ready.room in
    record {
      valid = ready.valid;
      phase_is = ready.phase_is;
      stands = some_stands (open_behind (is_inside job.phase) c) rest script.1;
      within = script.0;
      room = λ e. begins account.begun c e (begun_by (next_txn account.begun c) rest) (begun_rises (next_txn account.begun c) rest) room;
      reads = ready.reads c rest is;
    }
  where
    begins : (n : ℕ) (r : Command) → r ≡ commands.Begin → (m : ℕ) → next_txn n r ≤ m → m ≤ account.allowed → n < account.allowed
    begins n r e m le room = let one : n + 1 ≤ m = subst (λ x. next_txn n x ≤ m) e le in omega arith

-- a turn on the image that is kept for the line at hand
pub replayed_here : {S : Type 0} (e : Calls S) (old : S) (job next : Progress) → IsReadyBy (e.account old) job → Replays job next
    → (c : Command) (rest : List Command) → left_of job ≡ c ∷ rest → TakesTurnOn e old job c next old
replayed_here e old job next ready replays c rest there =
    let view = view_now (e.account old) in
    let reads : IsReading view c replays.reading = subst (λ r. IfSome r (IsReading view c)) replays.reads (ready.reads c rest there) in
    let further : ReadsFurther view job.phase job.reading c replays.further =
    subst (λ p. ReadsFurther view p job.reading c replays.further) (sym replays.is_open)
    (subst (λ r. ReadsFurther view Open r c replays.further) (sym replays.reads) (replays.goes_on view c reads)) in
    record {
      turn = Scanning replays.further;
      takes = (further, (zero, refl));
      image = job.image;
      kept = ready.kept;
      job_is = replays.job_is;
    }

-- no image stays where none is kept
pub none_behind : (phase : Phase) (given : LineAnswer) → image_behind phase given None ≡ None
none_behind phase given = by_test (sees_same phase given)
  where
    by_test : (b : Bool) → ◌≡◌ {A = Option KeptImage} (cond b None None) None
    by_test true = refl
    by_test false = refl

-- ---- the fields

-- the line at hand, by the job's fields, with what a call may rely on
module _ {S : Type 0} (e : Calls S) (old : S) (job : Progress) (going : is_over job ≡ false) (ready : IsReadyBy (e.account old) job) (c : Command) (at : c ≡ slice_index_or job.commands (length job.answers) c) where
  at_hand : left_of job ≡ c ∷ drop (suc (length job.answers)) job.commands
  at_hand = drop_at job.commands (length job.answers) (has_left job.phase (left_of job) going) c at

  pub may_here : (phase : Phase) (reading : Option LineReading) → phase ≡ job.phase → reading ≡ job.reading → MayTakeNow (e.account old) phase reading c
  may_here phase reading p r =
      subst (λ x. MayTakeNow (e.account old) x reading c) (sym p)
      (subst (λ x. MayTakeNow (e.account old) job.phase x c) (sym r) (may_take (e.account old) job ready c (drop (suc (length job.answers)) job.commands) at_hand))

  pub took_here : (phase : Phase) (reading : Option LineReading) → phase ≡ job.phase → reading ≡ job.reading → (new : S) (next : Progress) (turn made : LineTurn) → turn ≡ made → TakesOn e old phase reading c turn new → (image : Option KeptImage) → IfSome image (IsKeptImage (view_now (e.account old))) → next ≡ behind job image made
      → (x : Command) (rest : List Command) → left_of job ≡ x ∷ rest → TakesTurnOn e old job x next new
  took_here phase reading p r new next turn made same takes image kept is x rest there =
      let equal : c ≡ x = heads c x _ rest (sym at_hand ∙ there) in
      record {
        turn = made;
        takes = subst (λ y. TakesOn e old job.phase job.reading y made new) equal
            (subst (λ z. TakesOn e old z job.reading c made new) p (subst (λ s. TakesOn e old phase s c made new) r (subst (λ t. TakesOn e old phase reading c t new) same takes)));
        image = image;
        kept = kept;
        job_is = is;
      }

  -- it reads no rows
  pub call_here : ((x : Command) (rest : List Command) → left_of job ≡ x ∷ rest → is_call x ≡ true) → is_call c ≡ true
  call_here call = call c (drop (suc (length job.answers)) job.commands) at_hand

  -- the line of a kernel was answered as a whole
  pub ran_here : job.phase ≡ Open → (kernel : Kernel) (file : List ℕ) → c ≡ commands.Run kernel file → (new : S) (next : Progress) (given : LineAnswer) → AnswersLive e old (commands.Run kernel file) given new
      → (image : Option KeptImage) → IfSome image (IsKeptImage (view_now (e.account old))) → next ≡ behind job image (Answering given)
      → (x : Command) (rest : List Command) → left_of job ≡ x ∷ rest → TakesTurnInParts e old job x next new
  ran_here opened kernel file same new next given answers image kept is x rest there =
      let equal : x ≡ commands.Run kernel file = sym (heads c x _ rest (sym at_hand ∙ there)) ∙ same in
      record {
        turn = Answering given;
        takes = subst (λ y. AnswersInParts e old job.phase job.reading y given new) (sym equal)
            (subst (λ p. AnswersInParts e old p job.reading (commands.Run kernel file) given new) (sym opened) (record { last = refl; does = answers }));
        image = image;
        kept = kept;
        job_is = is;
      }

  -- and that the line runs one is known
  pub runs_here : ((x : Command) (rest : List Command) → left_of job ≡ x ∷ rest → (is_open job.phase && runs_kernel x) ≡ true) → (job.phase ≡ Open) × (runs_kernel c ≡ true)
  runs_here kernel = by_phase job.phase refl (kernel c (drop (suc (length job.answers)) job.commands) at_hand)
    where
      by_phase : (p : Phase) → job.phase ≡ p → (is_open p && runs_kernel c) ≡ true → (job.phase ≡ Open) × (runs_kernel c ≡ true)
      by_phase Between same is = absurd (let no : false ≡ true = is in cc)
      by_phase Open same is = (same, is)
      by_phase Skipping same is = absurd (let no : false ≡ true = is in cc)
      by_phase GivenUp same is = absurd (let no : false ≡ true = is in cc)

-- whoever runs a kernel is the line of one
pub is_run : (c : Command) → runs_kernel c ≡ true → (kernel : Kernel) × (file : List ℕ) × (c ≡ commands.Run kernel file)
is_run commands.Begin is = absurd (let no : false ≡ true = is in cc)
is_run commands.Commit is = absurd (let no : false ≡ true = is in cc)
is_run commands.Abort is = absurd (let no : false ≡ true = is in cc)
is_run (commands.Write w) is = absurd (let no : false ≡ true = is in cc)
is_run (commands.Read query) is = absurd (let no : false ≡ true = is in cc)
is_run (commands.Run kernel file) is = (kernel, file, refl)

and_false : (b : Bool) → (b && false) ≡ false
and_false true = refl
and_false false = refl

-- a turn of any other line is the same where several readers scan
pub in_parts : {S : Type 0} (e : Calls S) (old : S) (job : Progress) (c : Command) → (is_open job.phase && runs_kernel c) ≡ false → (next : Progress) (new : S) → TakesTurnOn e old job c next new → TakesTurnInParts e old job c next new
in_parts e old job c other next new is = record {
  turn = is.turn;
  takes = by_turn is.turn is.takes;
  image = is.image;
  kept = is.kept;
  job_is = is.job_is;
}
  where
    by_turn : (turn : LineTurn) → TakesOn e old job.phase job.reading c turn new → TakesInParts e old job.phase job.reading c turn new
    by_turn (Scanning reading) takes = (takes.0, takes.1, sym (ap (λ p. is_open p && runs_kernel c) takes.0.is_open) ∙ other)
    by_turn (Answering given) takes = record { last = ap (λ b. not (runs_kernel c) && b) takes.last ∙ and_false (not (runs_kernel c)); does = takes.does }

-- a job that gives up on the core of one owner
pub gives_up_on_core : {S : Type 0} (aborts : S → S → Type 0) (core : S → Core) → ((s t : S) → aborts s t → AbortsHere (core s) (core t)) → (phase : Phase) (old new : S) → GivesUpOn aborts phase old new → core new ≡ given_up (core old) phase
gives_up_on_core aborts core here Between old new is = ap core is
gives_up_on_core aborts core here Open old new is = here old new is
gives_up_on_core aborts core here Skipping old new is = ap core is
gives_up_on_core aborts core here GivenUp old new is = ap core is

-- a turn by the calls of one owner is one on its core
module _ {S : Type 0} (e : Calls S) (core : S → Core) (exact : AreExact e core) (old : S) (job : Progress) (ready : IsReady (core old) job) where
  takes_alone : (c : Command) (rest : List Command) → left_of job ≡ c ∷ rest → (next : Progress) (new : S) → TakesTurnOn e old job c next new → TakesTurn (core old) job c next (core new)
  takes_alone c rest left next new is = record {
    turn = is.turn;
    takes = takes_here e core exact old new job.phase job.reading c (record { selected = ready.selected; now = may_take (account_here (core old)) job ready.now c rest left }) is.turn is.takes;
    image = is.image;
    kept = subst (λ (a : Account). IfSome is.image (IsKeptImage (view_now a))) (exact.accounts old) is.kept;
    job_is = is.job_is;
  }

  pub took_alone : (turn : JobTurn) (next : Progress) (new : S) → TookTurnOn e old job turn next new → TookTurn (core old) job turn next (core new)
  took_alone turns.More next new is = (is.0, λ c rest left. takes_alone c rest left next new (is.1 c rest left))
  took_alone turns.Ended next new is = (is.0, λ c rest left. takes_alone c rest left next new (is.1 c rest left))
  took_alone turns.NoMemory next new is =
      (gives_up_on_core e.aborts core exact.aborts_here job.phase is.0 new is.2 ∙ ap (λ x. given_up x job.phase) (wants_same e core exact old is.0 is.1), is.3)

-- want of memory before any call
pub nothing_wanted : {S T : Type 0} (e : Calls S) (old : S) (result : Result T NoMemory) (P : Type 0) → P → OnErr result (WantsOn e old old × P)
nothing_wanted e old (Ok x) P is = tt
nothing_wanted e old (Err x) P is = (inr (inr (zero, refl)), is)

-- want of memory leaves the transaction as it was
pub wants_open : {S : Type 0} (e : Calls S) → AreByAccount e → (old new : S) → WantsOn e old new → (e.account new).start ≡ (e.account old).start
wants_open {S = S} e by old new is = elim is [
  | inl begins ↦ ap (λ (a : Account). a.start) (by.begins_by old new (Err begin_refusals.NoMemory) begins).0.others
  | inr other ↦ elim other [
    | inl writes ↦ write_start (e.account old).start refl writes.0 writes.1.0 writes.1.1
    | inr reads ↦ reads_start reads.0 old new reads.1
  ]
]
  where
    write_start : (s : Option ℕ) → (e.account old).start ≡ s → IsSome (e.account old).start → (w : Write) → e.writes old w (Err refusals.NoMemory) new → (e.account new).start ≡ (e.account old).start
    write_start (Some start) same opened w writes = ap (λ (a : Account). a.start) ((by.writes_by old new w (Err refusals.NoMemory) writes).0 start same).others
    write_start None same opened w writes = absurd (let no : false ≡ true = subst IsSome same opened in cc)

    reads_start : (n : ℕ) (s t : S) → ReadsTimes e.reads n s t → (e.account t).start ≡ (e.account s).start
    reads_start zero s t same = ap (λ x. (e.account x).start) same
    reads_start (suc n) s t more = reads_start n more.0 t more.2 ∙ ap (λ (a : Account). a.start) (by.reads_by s more.0 more.1).0.others

-- and a job that gives up then has no transaction open
pub rolled_back : {S : Type 0} (e : Calls S) → AreByAccount e → (old mid new : S) (job next : Progress) → IsPhase job.phase (e.account old).start → WantsOn e old mid → GivesUpOn e.aborts job.phase mid new → next ≡ gone job
    → IsRolledBack job next (e.account new)
rolled_back {S} e by old mid new job next phase wants gives is = record {
  answers = ap (λ (x : Progress). x.answers) is;
  tables = ap (λ (x : Progress). x.tables) is;
  over = ap is_over is;
  closed = by_phase job.phase phase gives;
}
  where
    still : (e.account mid).start ≡ (e.account old).start
    still = wants_open e by old mid wants

    by_phase : (p : Phase) → IsPhase p (e.account old).start → GivesUpOn e.aborts p mid new → (e.account new).start ≡ None
    by_phase Between none same = ap (λ s. (e.account s).start) same ∙ still ∙ none
    by_phase Open some aborts = ap (λ (a : Account). a.start) (by.aborts_by mid new aborts).0.others
    by_phase Skipping none same = ap (λ s. (e.account s).start) same ∙ still ∙ none
    by_phase GivenUp never same = absurd never

-- what the turn comes to, as it was taken and ended
module _ {S : Type 0} (e : Calls S) (Takes : Command → Progress → S → Type 0) (old mid : S) (job between : Progress) where
  pub comes_to : (took : Result (Unit {0}) NoMemory) → OnOk took ((c : Command) (rest : List Command) → left_of job ≡ c ∷ rest → Takes c between mid)
      → OnErr took (WantsOn e old mid × (between ≡ record job { reading = None; image = None }))
      → (turn : JobTurn) (next : Progress) (new : S) → EndsTurnOn e.aborts took mid between turn next new → ComesTo e Takes old job turn next new
  comes_to (Ok done) takes wants turn next new ends =
      subst (λ t. ComesTo e Takes old job t next new) (sym ends.0)
      (subst (λ j. ComesTo e Takes old job (cond (is_over between) turns.Ended turns.More) j new) (sym ends.1)
      (subst (λ s. ComesTo e Takes old job (cond (is_over between) turns.Ended turns.More) between s) (sym ends.2) (by_over (is_over between) refl)))
    where
      by_over : (over : Bool) → is_over between ≡ over → ComesTo e Takes old job (cond over turns.Ended turns.More) between mid
      by_over true over = (over, takes)
      by_over false over = (over, takes)
  comes_to (Err wanted) takes wants turn next new ends =
      subst (λ t. ComesTo e Takes old job t next new) (sym ends.0)
      (mid, wants.0, subst (λ p. GivesUpOn e.aborts p mid new) (ap (λ (x : Progress). x.phase) wants.1) ends.1, ends.2 ∙ ap gone wants.1)

  module _ (by : AreByAccount e) (phase : IsPhase job.phase (e.account old).start) where
    -- where memory was wanted the transaction is still open
    pub may_end : (took : Result (Unit {0}) NoMemory) → OnErr took (WantsOn e old mid × (between ≡ record job { reading = None; image = None })) → OnErr took (between.phase ≡ Open → IsSome (e.account mid).start)
    may_end (Ok done) wants = tt
    may_end (Err wanted) wants = λ is. subst IsSome (sym (wants_open e by old mid wants.0))
        (subst (λ p. IsPhase p (e.account old).start) (sym (ap (λ (x : Progress). x.phase) wants.1) ∙ is) phase)

    -- and none is then
    pub comes_back : (turn : JobTurn) (next : Progress) (new : S) → ComesTo e Takes old job turn next new → turn ≡ turns.NoMemory → IsRolledBack job next (e.account new)
    comes_back turn next new came wanted =
        let gave = subst (λ t. ComesTo e Takes old job t next new) wanted came in
        rolled_back e by old gave.0 new job next phase gave.1 gave.2 gave.3
