-- What the run on a store asks of its parts, from what it is given.
use Rattle.std.proofs.Common.{◌≡◌, ℕ, zero, suc, ◌+◌, ◌<◌, ◌≤◌, List, [], ◌∷◌, ◌++◌, length, map, refl, sym, ◌∙◌, ap, subst, arith}
use Rattle.std.proofs.lemmas.List.{length-map}
use Rattle.std.specs.Prelude.{false, Some, None, slice_get}
use Rattle.std.specs.List.{AllByRecursion, AllZip}
use Rattle.graph_model.specs.declared.journal.Commit.{Commit}
use Rattle.graph_model.specs.Account.{Account}
use Rattle.graph_model.specs.AccountSteps.{ReadsBy}
use Rattle.run_model.specs.declared.command.Command.{Command}
use Rattle.run_model.specs.Inputs.{Inputs}
use Rattle.run_model.proofs.ListLemmas.{all_from_places}
use Rattle.thread_runner.specs.JobRunner.Progress.{Progress, has_given_up, is_over, IsReadyBy}
use Rattle.thread_runner.specs.Driving.{HasRun, IsSeat, some_gave_up}
use Rattle.shared_runs.specs.Closing.{HaveRunOn}
use Rattle.rebalance_service.specs.StoreRuleDeclared.store.Store.{Store}
use Rattle.rebalance_service.specs.SharedStoreDeclared.pass.Pass.{Pass}
use Rattle.rebalance_service.specs.SharedStore.Loading.{AreLoaded}
use Rattle.rebalance_service.specs.SharedStore.Passes.{IsIdle, account_of}
use Rattle.rebalance_service.specs.WorkerCalls.Ready.{IsReady}
use Rattle.rebalance_service.proofs.WorkerCalls.ReadyLemmas.{idle_here, start_none}
use Rattle.threaded_run.specs.Running.{CanRun}
use Rattle.threaded_run.specs.Seats.{AreIdleFrom, AreSeated, CanRunBefore, CanRunOn}
use Rattle.threaded_run.specs.Ended.{HaveEnded}
use Rattle.threaded_run.proofs.FreshLemmas.{AreUnused, loader_idle, loader_number, loader_loaded, others_unused, unused_front, loaded_on}
use Rattle.threaded_run.proofs.PlaceLemmas.{in_front}
use Rattle.threaded_run.proofs.SeatLemmas.{AreFit, are_fit, seats_ready}
use Rattle.threaded_run.proofs.EndLemmas.{bare, AreHome, run_bare, gave_bare, have_ended, none_given, all_idle, all_count, have_run_on}

-- ---- how many there are

pub zip_count : {X : Type 0} (R : X → X → Type 0) (xs ys : List X) → AllZip R xs ys → length xs ≡ length ys
zip_count R [] [] all = refl
zip_count R [] (y ∷ ys) all = absurd all
zip_count R (x ∷ xs) [] all = absurd all
zip_count R (x ∷ xs) (y ∷ ys) all = ap suc (zip_count R xs ys all.1)

pub seats_count : (store : Store) (seen : List Commit) (number : ℕ) (scripts : List (List Command)) (passes : List Pass) {W : Type 0} (one : W → Progress × Pass) (xs : List W)
    → AreSeated store seen number scripts passes (map one xs) → (length xs ≡ length scripts) × (length xs ≡ length passes)
seats_count store seen number [] [] one [] seated = (refl, refl)
seats_count store seen number [] [] one (x ∷ xs) seated = absurd seated
seats_count store seen number [] (pass ∷ passes) one xs seated = absurd seated
seats_count store seen number (script ∷ scripts) [] one xs seated = absurd seated
seats_count store seen number (script ∷ scripts) (pass ∷ passes) one [] seated = absurd seated
seats_count store seen number (script ∷ scripts) (pass ∷ passes) one (x ∷ xs) seated =
    let rest = seats_count store seen (number + 1) scripts passes one xs seated.1 in (ap suc rest.0, ap suc rest.1)

-- the account of the service's pass goes on
pub served_as : (a b c d : Account) → ReadsBy a b → a ≡ c → b ≡ d → ReadsBy c d
served_as a b c d reads first last = subst (λ (u : Account × Account). ReadsBy u.0 u.1) (λ i. (first i, last i)) reads

-- ---- before the scripts run

idle_from : (store : Store) (number : ℕ) (passes : List Pass) → ((k : ℕ) (pass : Pass) → slice_get passes k ≡ Some pass → IsIdle store pass × (pass.seats.number ≡ number + k)) → AreIdleFrom store number passes
idle_from store number [] each = tt
idle_from store number (pass ∷ passes) each =
    let one = each 0 pass refl in (
      one.0,
      one.1 ∙ omega arith,
      idle_from store (number + 1) passes (λ k other at. (let next = each (suc k) other at in (next.0, next.1 ∙ omega arith))),
    )

-- where no seat was made all passes are as they came
pub idle_still : (inputs : Inputs) (store : Store) (list others : List Pass) (scripts : List (List Command)) → CanRunBefore inputs store list others scripts → AreIdleFrom store 0 list
idle_still inputs store list others scripts before =
    idle_from store 0 list (λ k pass at.
    (let all = before.can.loaded.idle in
    let there = in_front list others k pass at in
    (all.idle k pass there, all.numbers k pass there ∙ omega arith)))

pub some_passes : (inputs : Inputs) (store : Store) (list others : List Pass) (scripts : List (List Command)) → CanRunBefore inputs store list others scripts → 0 < length list
some_passes inputs store list others scripts can = let count = can.count in omega (arith, count)

module _ (inputs : Inputs) (store : Store) (list others : List Pass) (scripts : List (List Command)) (before : CanRunBefore inputs store list others scripts) (loader : Pass) (rest : List Pass)
    (split : list ≡ loader ∷ rest) where
  abbrev can : CanRunOn inputs store (list ++ others) scripts
  can = before.can

  are_loaded : AreLoaded inputs.load store (loader ∷ rest ++ others)
  are_loaded = subst (λ xs. AreLoaded inputs.load store (xs ++ others)) split can.loaded

  pub first_idle : IsIdle store loader
  unfolding are_loaded
  first_idle = loader_idle store inputs.load loader (rest ++ others) are_loaded

  pub rest_idle : AllByRecursion (IsIdle store) rest
  unfolding are_loaded
  rest_idle = all_from_places (IsIdle store) rest (λ k pass at. are_loaded.idle.idle (suc k) pass (in_front rest others k pass at))

  pub rest_count : length rest ≡ length scripts
  rest_count =
      let count = before.count in
      let whole : length list ≡ suc (length rest) = ap length split in
      omega (arith, count, whole)

  pub few : length scripts < 4294967295
  few = let same : length scripts ≡ length inputs.scripts = ap length can.scripts_are in let most = can.can.inputs_are.count in omega (arith, same, most)

  -- what pass 0 has seen has the load
  unused : AreUnused store 1 rest
  unfolding are_loaded
  unused = unused_front store 1 rest others (others_unused store inputs.load loader (rest ++ others) are_loaded)

  -- ---- the seats are ready

  module _ {W : Type 0} (home : W → Store) (pass_of : W → Pass) where
    abbrev acc : W → Account
    acc w = account_of (home w) (pass_of w)

    ready_home : (xs : List (Progress × W)) → AreHome home pass_of store xs → AllByRecursion (IsSeat (account_of store)) (bare home pass_of store xs) → AllByRecursion (IsSeat acc) xs
    ready_home [] at ready = tt
    ready_home (x ∷ xs) at ready = (
      (λ going. subst (λ s. IsReadyBy (account_of s (pass_of x.1)) x.0) (sym at.0) (ready.0 going)),
      ready_home xs at.1 ready.1,
    )

    pub are_ready : (xs : List (Progress × W)) → AreHome home pass_of store xs → AreSeated store (account_of store loader).seen 1 scripts rest (bare home pass_of store xs) → AllByRecursion (IsSeat acc) xs
    unfolding are_loaded unused
    are_ready xs at seated =
        ready_home xs at
        (seats_ready inputs store can.can (account_of store loader).seen (loader_loaded store inputs.load loader (rest ++ others) are_loaded).seen 1 scripts rest (bare home pass_of store xs)
        (subst (AreFit store.accounts.config.txns_per_pass) (sym can.scripts_are) (are_fit inputs store can.can)) unused seated)

    -- ---- behind them

    module _ (service : Pass) (serviced : IsReady store service) (served : ReadsBy (account_of store loader) (account_of store service))
        (xs ys : List (Progress × W)) (at : AreHome home pass_of store xs) (seated : AreSeated store (account_of store loader).seen 1 scripts rest (bare home pass_of store xs))
        (ran : AllZip (HasRun acc) xs ys) (back : AllByRecursion (λ y. IsReady store (pass_of y.1) × (home y.1 ≡ store)) ys) where
      at_end : AreHome home pass_of store ys
      at_end = homes ys back
        where
          homes : (zs : List (Progress × W)) → AllByRecursion (λ y. IsReady store (pass_of y.1) × (home y.1 ≡ store)) zs → AreHome home pass_of store zs
          homes [] all = tt
          homes (z ∷ zs) all = (all.0.1, homes zs all.1)

      ready_end : AllByRecursion (λ y. IsReady store y.1) (bare home pass_of store ys)
      ready_end = readies ys back
        where
          readies : (zs : List (Progress × W)) → AllByRecursion (λ y. IsReady store (pass_of y.1) × (home y.1 ≡ store)) zs → AllByRecursion (λ y. IsReady store y.1) (bare home pass_of store zs)
          readies [] all = tt
          readies (z ∷ zs) all = (all.0.0, readies zs all.1)

      bare_ran : AllZip (HasRun (account_of store)) (bare home pass_of store xs) (bare home pass_of store ys)
      unfolding at_end
      bare_ran = run_bare home pass_of store xs ys at at_end ran

      ended : HaveEnded inputs store 1 inputs.scripts (bare home pass_of store ys)
      unfolding are_loaded unused ready_end bare_ran
      ended = subst (λ cs. HaveEnded inputs store 1 cs (bare home pass_of store ys)) can.scripts_are
          (have_ended inputs store can.can (account_of store loader).seen (loader_loaded store inputs.load loader (rest ++ others) are_loaded).seen 1 scripts rest (bare home pass_of store xs) (bare home pass_of store ys) unused seated bare_ran ready_end)

      service_idle : IsIdle store service
      unfolding are_loaded
      service_idle = idle_here store service serviced (ap (λ (a : Account). a.start) served.others ∙ start_none store loader first_idle)

      service_zero : service.seats.number ≡ 0
      unfolding are_loaded
      service_zero = ap (λ (a : Account). a.job) served.others ∙ loader_number store inputs.load loader (rest ++ others) are_loaded

      -- both lists as the code has them
      seconds : (zs : List (Progress × W)) → map (λ y. y.1) (bare home pass_of store zs) ≡ map (λ z. pass_of z.1) zs
      seconds [] = refl
      seconds (z ∷ zs) = ap (λ ps. pass_of z.1 ∷ ps) (seconds zs)

      firsts : (zs : List (Progress × W)) → map (λ y. y.0) (bare home pass_of store zs) ≡ map (λ z. z.0) zs
      firsts [] = refl
      firsts (z ∷ zs) = ap (λ js. z.0 ∷ js) (firsts zs)

      pub idle_again : (passes : List Pass) → passes ≡ service ∷ map (λ z. pass_of z.1) ys → AreIdleFrom store 0 passes × (length passes ≡ length list)
      unfolding ended service_idle service_zero
      idle_again passes are =
          let same : passes ≡ service ∷ map (λ y. y.1) (bare home pass_of store ys) = are ∙ ap (λ ps. service ∷ ps) (sym (seconds ys)) in
          let long : length passes ≡ length inputs.scripts + 1 = ap length same ∙ all_count inputs store can.can service service_idle service_zero (bare home pass_of store ys) ended in
          let all : length scripts ≡ length inputs.scripts = ap length can.scripts_are in
          let count = before.count in (
            subst (AreIdleFrom store 0) (sym same) (all_idle inputs store can.can service service_idle service_zero (bare home pass_of store ys) ended),
            omega (arith, long, all, count),
          )

      pub run_again : (passes : List Pass) (jobs : List Progress) → passes ≡ service ∷ map (λ z. pass_of z.1) ys → jobs ≡ map (λ z. z.0) ys → some_gave_up xs ys ≡ false
          → HaveRunOn inputs store.accounts.config passes jobs
      unfolding are_loaded ended service_idle service_zero bare_ran
      run_again passes jobs are jobs_are none =
          subst (λ (u : List Pass × List Progress). HaveRunOn inputs store.accounts.config u.0 u.1)
          (λ i. (sym (are ∙ ap (λ ps. service ∷ ps) (sym (seconds ys))) i, sym (jobs_are ∙ sym (firsts ys)) i))
          (have_run_on inputs store can.can service service_idle service_zero (bare home pass_of store ys) ended
          (loaded_on inputs.load (account_of store loader) (account_of store service) (loader_loaded store inputs.load loader (rest ++ others) are_loaded) served)
          (none_given store (account_of store loader).seen 1 scripts rest (bare home pass_of store xs) (bare home pass_of store ys) seated bare_ran (gave_bare home pass_of store xs ys ∙ none)))
