-- What is left of seats once their scripts have run.
use Rattle.std.proofs.Common.{◌≡◌, ℕ, zero, suc, ◌+◌, ◌<◌, ◌≤◌, List, [], ◌∷◌, ◌++◌, length, map, refl, sym, ◌∙◌, ap, subst, arith}
use Rattle.std.proofs.lemmas.List.{length-map}
use Rattle.std.specs.Prelude.{Bool, true, false, ◌||◌, not, ◌&&◌, Some, None, slice_get}
use Rattle.std.specs.List.{AllByRecursion, AllZip}
use Rattle.graph_model.specs.declared.journal.Commit.{Commit}
use Rattle.graph_model.specs.Account.{Account}
use Rattle.graph_model.specs.AccountSteps.{ReadsBy}
use Rattle.graph_model.proofs.PlaceLemmas.{some_eq}
use Rattle.run_model.specs.declared.command.Command.{Command}
use Rattle.run_model.specs.Inputs.{Inputs}
use Rattle.run_model.specs.Run.{load_stamp}
use Rattle.side_runs.specs.ByAccount.{HasRunBy}
use Rattle.thread_runner.specs.LineRunner.Phases.{file_of}
use Rattle.thread_runner.specs.JobRunner.Progress.{Progress, has_given_up, is_over}
use Rattle.thread_runner.specs.ByAccount.{TurnsBy, RanBy}
use Rattle.thread_runner.specs.Driving.{HasRun, gave_up, some_gave_up}
use Rattle.thread_runner.proofs.NewLemmas.{new_runs}
use Rattle.shared_runs.specs.Closing.{HasLoaded, HasRunOn, HaveRunOn, account_in}
use Rattle.rebalance_service.specs.StoreRelation.Passes.{account_of as state_account}
use Rattle.rebalance_service.specs.StoreRuleDeclared.store.Store.{Store}
use Rattle.rebalance_service.specs.PassSteps.Passes.{state_of}
use Rattle.rebalance_service.specs.SharedStoreDeclared.pass.Pass.{Pass}
use Rattle.rebalance_service.specs.SharedStore.Passes.{IsIdle, account_of}
use Rattle.rebalance_service.specs.WorkerCalls.Ready.{IsReady}
use Rattle.rebalance_service.proofs.WorkerCalls.ReadyLemmas.{idle_here}
use Rattle.threaded_run.specs.Running.{CanRun}
use Rattle.threaded_run.specs.Seats.{AreIdleFrom, AreSeated, IsSeated}
use Rattle.threaded_run.specs.Ended.{HasEnded, HaveEnded}
use Rattle.threaded_run.proofs.FreshLemmas.{AreUnused, IsUnused, unbegun_met}

-- ---- workers of one store, as its passes

module _ {W : Type 0} (home : W → Store) (pass_of : W → Pass) (store : Store) where
  abbrev pub Seat : Type 0
  Seat = Progress × W

  abbrev pub bare : List Seat → List (Progress × Pass)
  bare xs = map (λ x. (x.0, pass_of x.1)) xs

  abbrev pub AreHome : List Seat → Type 0
  AreHome xs = AllByRecursion (λ x. home x.1 ≡ store) xs

  pub run_bare : (xs ys : List Seat) → AreHome xs → AreHome ys → AllZip (HasRun (λ w. account_of (home w) (pass_of w))) xs ys
      → AllZip (HasRun (account_of store)) (bare xs) (bare ys)
  run_bare [] [] first last all = all
  run_bare [] (y ∷ ys) first last all = all
  run_bare (x ∷ xs) [] first last all = all
  run_bare (x ∷ xs) (y ∷ ys) first last all = (one, run_bare xs ys first.1 last.1 all.1)
    where
      before : account_of (home x.1) (pass_of x.1) ≡ account_of store (pass_of x.1)
      before = ap (λ s. account_of s (pass_of x.1)) first.0

      after : account_of (home y.1) (pass_of y.1) ≡ account_of store (pass_of y.1)
      after = ap (λ s. account_of s (pass_of y.1)) last.0

      one : HasRun (account_of store) (x.0, pass_of x.1) (y.0, pass_of y.1)
      one = record {
        ran = subst (λ (u : Account × Account). RanBy u.0 x.0 y.0 u.1) (λ i. (before i, after i)) all.0.ran;
        over = all.0.over;
        pass = ap (λ (a : Account). a.job) (sym after) ∙ all.0.pass ∙ ap (λ (a : Account). a.job) before;
        closed = λ going. ap (λ (a : Account). a.start) (sym after) ∙ all.0.closed going;
      }

  pub gave_bare : (xs ys : List Seat) → some_gave_up (bare xs) (bare ys) ≡ some_gave_up xs ys
  gave_bare [] ys = refl
  gave_bare (x ∷ xs) [] = refl
  gave_bare (x ∷ xs) (y ∷ ys) = ap (λ b. gave_up x.0 y.0 || b) (gave_bare xs ys)

-- ---- scripts that have run

none_gave : (a b : Bool) → (a || b) ≡ false → (a ≡ false) × (b ≡ false)
none_gave false b e = (refl, e)
none_gave true b e = cc

-- no turn is taken where none is left
still : (n : ℕ) (old new : Account) (job next : Progress) → TurnsBy n old job next new → is_over job ≡ true → new ≡ old
still zero old new job next is over = is.1
still (suc n) old new job next is over = absurd (let no : true ≡ false = sym over ∙ is.3 in cc)

-- so no transaction is open behind all turns
ends_closed : (old new : Account) (job next : Progress) → old.start ≡ None → RanBy old job next new → (is_over job ≡ false → new.start ≡ None) → new.start ≡ None
ends_closed old new job next none ran closed = by_test (is_over job) refl
  where
    by_test : (b : Bool) → is_over job ≡ b → new.start ≡ None
    by_test false e = closed e
    by_test true e = ap (λ (a : Account). a.start) (still ran.0 old new job next ran.1 e) ∙ none

module _ (inputs : Inputs) (store : Store) (can : CanRun inputs store.accounts.config) (seen : List Commit) (enough : load_stamp inputs.load ≤ length seen) where
  has_ended : (number : ℕ) (script : List Command) (pass : Pass) (x y : Progress × Pass) → IsUnused store number pass → IsSeated store seen number script pass x.0 x.1
      → HasRun (account_of store) x y → IsReady store y.1 → HasEnded inputs store number script y.0 y.1
  has_ended number script pass x y unused seated run ready =
      let unbegun = unbegun_met inputs store can seen enough number pass x.1 unused seated.met in
      record {
        idle = idle_here store y.1 ready (ends_closed (account_of store x.1) (account_of store y.1) x.0 y.0 unbegun.closed run.ran run.closed);
        number_is = run.pass ∙ unbegun.job_is;
        ran = λ going. new_runs inputs.kind inputs.load number script (account_of store x.1) (account_of store y.1) y.0 unbegun
            (subst (λ j. RanBy (account_of store x.1) j y.0 (account_of store y.1)) seated.job_is run.ran) run.over going;
      }

  -- each pass is idle, whether memory was wanted or not
  pub have_ended : (number : ℕ) (scripts : List (List Command)) (passes : List Pass) (xs ys : List (Progress × Pass))
      → AreUnused store number passes → AreSeated store seen number scripts passes xs → AllZip (HasRun (account_of store)) xs ys
      → AllByRecursion (λ y. IsReady store y.1) ys → HaveEnded inputs store number scripts ys
  have_ended number [] [] [] [] unused seated all ready = tt
  have_ended number [] [] [] (y ∷ ys) unused seated all ready = absurd all
  have_ended number [] [] (x ∷ xs) ys unused seated all ready = absurd seated
  have_ended number [] (pass ∷ passes) xs ys unused seated all ready = absurd seated
  have_ended number (script ∷ scripts) [] xs ys unused seated all ready = absurd seated
  have_ended number (script ∷ scripts) (pass ∷ passes) [] ys unused seated all ready = absurd seated
  have_ended number (script ∷ scripts) (pass ∷ passes) (x ∷ xs) [] unused seated all ready = absurd all
  have_ended number (script ∷ scripts) (pass ∷ passes) (x ∷ xs) (y ∷ ys) unused seated all ready =
      (has_ended number script pass x y unused.0 seated.0 all.0 ready.0, have_ended (number + 1) scripts passes xs ys unused.1 seated.1 all.1 ready.1)

-- who never wanted memory hasn't given up
pub none_given : (store : Store) (seen : List Commit) (number : ℕ) (scripts : List (List Command)) (passes : List Pass) (xs ys : List (Progress × Pass))
    → AreSeated store seen number scripts passes xs → AllZip (HasRun (account_of store)) xs ys → some_gave_up xs ys ≡ false → AllByRecursion (λ y. has_given_up y.0.phase ≡ false) ys
none_given store seen number [] [] [] [] seated all none = tt
none_given store seen number [] [] [] (y ∷ ys) seated all none = absurd all
none_given store seen number [] [] (x ∷ xs) ys seated all none = absurd seated
none_given store seen number [] (pass ∷ passes) xs ys seated all none = absurd seated
none_given store seen number (script ∷ scripts) [] xs ys seated all none = absurd seated
none_given store seen number (script ∷ scripts) (pass ∷ passes) [] ys seated all none = absurd seated
none_given store seen number (script ∷ scripts) (pass ∷ passes) (x ∷ xs) [] seated all none = absurd all
none_given store seen number (script ∷ scripts) (pass ∷ passes) (x ∷ xs) (y ∷ ys) seated all none =
    let two = none_gave (gave_up x.0 y.0) (some_gave_up xs ys) none in (
      sym (ap (λ (j : Progress). gave_up j y.0) seated.0.job_is) ∙ two.0,
      none_given store seen (number + 1) scripts passes xs ys seated.1 all.1 two.1,
    )

-- ---- what is left, place by place

module _ (inputs : Inputs) (store : Store) where
  ended_count : (number : ℕ) (scripts : List (List Command)) (ys : List (Progress × Pass)) → HaveEnded inputs store number scripts ys → length ys ≡ length scripts
  ended_count number [] [] ended = refl
  ended_count number [] (y ∷ ys) ended = absurd ended
  ended_count number (script ∷ scripts) [] ended = absurd ended
  ended_count number (script ∷ scripts) (y ∷ ys) ended = ap suc (ended_count (number + 1) scripts ys ended.1)

  ended_idle : (number : ℕ) (scripts : List (List Command)) (ys : List (Progress × Pass)) → HaveEnded inputs store number scripts ys → AreIdleFrom store number (map (λ y. y.1) ys)
  ended_idle number [] [] ended = tt
  ended_idle number [] (y ∷ ys) ended = absurd ended
  ended_idle number (script ∷ scripts) [] ended = absurd ended
  ended_idle number (script ∷ scripts) (y ∷ ys) ended = (ended.0.idle, ended.0.number_is, ended_idle (number + 1) scripts ys ended.1)

  ran_at : (number : ℕ) (scripts : List (List Command)) (ys : List (Progress × Pass)) → HaveEnded inputs store number scripts ys
      → AllByRecursion (λ y. has_given_up y.0.phase ≡ false) ys
      → (k : ℕ) (cs : List Command) (job : Progress) → slice_get scripts k ≡ Some cs → slice_get (map (λ y. y.0) ys) k ≡ Some job
      → (pass : Pass) × (slice_get (map (λ y. y.1) ys) k ≡ Some pass) × (pass.seats.number ≡ number + k)
      × HasRunBy inputs.kind inputs.load (number + k) cs job.answers (map file_of job.tables) (account_of store pass)
  ran_at number [] ys ended given k cs job script at = cc
  ran_at number (c ∷ scripts) [] ended given k cs job script at = absurd ended
  ran_at number (c ∷ scripts) (y ∷ ys) ended given zero cs job script at =
      let same : y.0 ≡ job = some_eq y.0 job at in
      let cs_is : c ≡ cs = some_eq c cs script in
      let plus : number ≡ number + 0 = omega arith in (
        y.1,
        refl,
        ended.0.number_is ∙ plus,
        subst (λ n. HasRunBy inputs.kind inputs.load n cs job.answers (map file_of job.tables) (account_of store y.1)) plus
            (subst (λ (j : Progress). HasRunBy inputs.kind inputs.load number cs j.answers (map file_of j.tables) (account_of store y.1)) same
            (subst (λ xs. HasRunBy inputs.kind inputs.load number xs y.0.answers (map file_of y.0.tables) (account_of store y.1)) cs_is (ended.0.ran given.0))),
      )
  ran_at number (c ∷ scripts) (y ∷ ys) ended given (suc k) cs job script at =
      let rest = ran_at (number + 1) scripts ys ended.1 given.1 k cs job script at in
      let plus : number + 1 + k ≡ number + suc k = omega arith in (
        rest.0,
        rest.1,
        rest.2 ∙ plus,
        subst (λ n. HasRunBy inputs.kind inputs.load n cs job.answers (map file_of job.tables) (account_of store rest.0)) plus rest.3,
      )

  module _ (can : CanRun inputs store.accounts.config) (service : Pass) (first : IsIdle store service) (zero_is : service.seats.number ≡ 0)
      (ys : List (Progress × Pass)) (ended : HaveEnded inputs store 1 inputs.scripts ys) where
    -- ALL PASSES ARE BACK
    pub all_idle : AreIdleFrom store 0 (service ∷ map (λ y. y.1) ys)
    all_idle = (first, zero_is, ended_idle 1 inputs.scripts ys ended)

    pub all_count : length (service ∷ map (λ (y : Progress × Pass). y.1) ys) ≡ length inputs.scripts + 1
    all_count =
        let n : length (map (λ (y : Progress × Pass). y.1) ys) ≡ length ys = length-map ys (λ (y : Progress × Pass). y.1) in
        let m = ended_count 1 inputs.scripts ys ended in
        omega (arith, n, m)

    -- AND HAVE RUN THEIR SCRIPTS
    pub have_run_on : HasLoaded inputs.load (account_of store service) → AllByRecursion (λ y. has_given_up y.0.phase ≡ false) ys
        → HaveRunOn inputs store.accounts.config (service ∷ map (λ y. y.1) ys) (map (λ y. y.0) ys)
    have_run_on loaded given = record {
      kind = can.kind;
      passes = can.passes;
      count = length-map ys (λ (y : Progress × Pass). y.0) ∙ ended_count 1 inputs.scripts ys ended;
      loader = service;
      first = refl;
      loaded = subst (λ n. HasLoaded inputs.load (state_account store.accounts.config n (state_of service.seats))) zero_is loaded;
      ran = at_place;
    }
      where
        at_place : (k : ℕ) (cs : List Command) (job : Progress) → slice_get inputs.scripts k ≡ Some cs → slice_get (map (λ (y : Progress × Pass). y.0) ys) k ≡ Some job
            → HasRunOn inputs store.accounts.config (service ∷ map (λ (y : Progress × Pass). y.1) ys) k cs job
        at_place k cs job script at =
            let r = ran_at 1 inputs.scripts ys ended given k cs job script at in
            let next : k + 1 ≡ suc k = omega arith in
            let number : r.0.seats.number ≡ k + 1 = r.2 ∙ omega arith in
            let one : 1 + k ≡ k + 1 = omega arith in
            record {
              pass = r.0;
              there = ap (slice_get (service ∷ map (λ (y : Progress × Pass). y.1) ys)) next ∙ r.1;
              ran = subst (λ n. HasRunBy inputs.kind inputs.load (k + 1) cs job.answers (map file_of job.tables) (state_account store.accounts.config n (state_of r.0.seats))) number
                  (subst (λ n. HasRunBy inputs.kind inputs.load n cs job.answers (map file_of job.tables) (account_of store r.0)) one r.3);
            }
