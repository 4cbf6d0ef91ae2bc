-- Seats: the job of each script beside a pass that has met pass 0.
use Rattle.std.proofs.Common.{◌≡◌, ℕ, zero, suc, ◌+◌, ◌<◌, ◌≤◌, List, [], ◌∷◌, ◌++◌, length, map, refl, sym, ◌∙◌, ap, subst, arith}
use Rattle.std.proofs.lemmas.List.{map-append, append-nil, append_assoc}
use Rattle.std.specs.Prelude.{false, Some, slice_get, slice_index_or, remove}
use Rattle.std.specs.List.{AllByRecursion}
use Rattle.graph_model.specs.declared.journal.Commit.{Commit}
use Rattle.graph_model.specs.Account.{Account}
use Rattle.run_model.specs.declared.command.Command.{Command}
use Rattle.run_model.specs.Inputs.{Inputs}
use Rattle.run_model.specs.Commands.{begun_by, IsScript}
use Rattle.run_model.specs.Run.{load_stamp}
use Rattle.run_model.proofs.ListLemmas.{all_from_places}
use Rattle.thread_runner.specs.JobRunner.Progress.{Progress, new_progress, is_over, IsReadyBy}
use Rattle.thread_runner.specs.Driving.{IsSeat}
use Rattle.thread_runner.proofs.NewLemmas.{new_ready}
use Rattle.rebalance_service.specs.StoreRuleDeclared.store.Store.{Store}
use Rattle.rebalance_service.specs.SharedStoreDeclared.pass.Pass.{Pass}
use Rattle.rebalance_service.specs.SharedStore.Passes.{IsIdle, account_of}
use Rattle.threaded_run.specs.Running.{CanRun}
use Rattle.threaded_run.specs.Seats.{AreSeated, IsSeated}
use Rattle.threaded_run.proofs.FreshLemmas.{AreUnused, unbegun_met}

-- what is taken from the front of a list stood there
pub first_out : {X : Type 0} (old new : List X) (x : X) → 0 < length old → x ≡ slice_index_or old 0 x → new ≡ remove old 0 → old ≡ x ∷ new
first_out [] new x some is rest = absurd (omega (arith, some))
first_out (y ∷ ys) new x some is rest = λ i. sym is i ∷ sym rest i

-- one more seat stands behind those that are there, before whatever comes
module _ {W : Type 0} (bare : Progress × W → Progress × Pass) (store : Store) (seen : List Commit) (all_scripts : List (List Command)) (all_passes : List Pass) where
  abbrev pub Comes : ℕ → List (List Command) → List Pass → List (Progress × W) → Type 0
  Comes number scripts passes xs = (more : List (Progress × Pass)) → AreSeated store seen number scripts passes more
      → AreSeated store seen 1 all_scripts all_passes (map bare xs ++ more)

  pub seated_next : (now : List Commit) (number next : ℕ) (scripts rest : List (List Command)) (passes others : List Pass) (script : List Command) (pass : Pass) (xs ys : List (Progress × W)) (x : Progress × W)
      → Comes number scripts passes xs → now ≡ seen → next ≡ number + 1 → scripts ≡ script ∷ rest → passes ≡ pass ∷ others → ys ≡ xs ++ x ∷ []
      → IsSeated store now number script pass (bare x).0 (bare x).1 → Comes next rest others ys
  seated_next now number next scripts rest passes others script pass xs ys x comes same next_is scripts_are passes_are more_is seated more are =
      let one : IsSeated store seen number script pass (bare x).0 (bare x).1 = subst (λ j. IsSeated store j number script pass (bare x).0 (bare x).1) same seated in
      let behind : AreSeated store seen (number + 1) rest others more = subst (λ n. AreSeated store seen n rest others more) next_is are in
      let whole : AreSeated store seen number scripts passes (bare x ∷ more) =
      subst (λ (u : List (List Command) × List Pass). AreSeated store seen number u.0 u.1 (bare x ∷ more)) (λ i. (sym scripts_are i, sym passes_are i)) (one, behind) in
      let listed : map bare ys ++ more ≡ map bare xs ++ bare x ∷ more =
      ap (λ zs. map bare zs ++ more) more_is ∙ ap (λ zs. zs ++ more) (map-append bare xs (x ∷ [])) ∙ append_assoc (map bare xs) (bare x ∷ []) more in
      subst (AreSeated store seen 1 all_scripts all_passes) (sym listed) (comes (bare x ∷ more) whole)

  -- once none is left all are seated
  pub seated_all : (number : ℕ) (scripts : List (List Command)) (passes : List Pass) (xs : List (Progress × W)) → Comes number scripts passes xs → length scripts ≡ 0 → length passes ≡ 0
      → AreSeated store seen 1 all_scripts all_passes (map bare xs)
  seated_all number [] [] xs comes none no_pass = subst (AreSeated store seen 1 all_scripts all_passes) (append-nil (map bare xs)) (comes [] tt)
  seated_all number [] (pass ∷ passes) xs comes none no_pass = absurd (omega (arith, no_pass))
  seated_all number (script ∷ scripts) passes xs comes none no_pass = absurd (omega (arith, none))

-- each script can be run by a pass
abbrev pub AreFit : ℕ → List (List Command) → Type 0
AreFit allowed scripts = AllByRecursion (λ cs. IsScript (Some false) cs × (begun_by 0 cs ≤ allowed)) scripts

pub are_fit : (inputs : Inputs) (store : Store) → CanRun inputs store.accounts.config → AreFit store.accounts.config.txns_per_pass inputs.scripts
are_fit inputs store can =
    all_from_places (λ cs. IsScript (Some false) cs × (begun_by 0 cs ≤ store.accounts.config.txns_per_pass)) inputs.scripts
    (λ k cs at. (can.inputs_are.scripts k cs at, can.begins k cs at))

-- the seats are ready for their scripts
pub seats_ready : (inputs : Inputs) (store : Store) → CanRun inputs store.accounts.config → (seen : List Commit) → load_stamp inputs.load ≤ length seen
    → (number : ℕ) (scripts : List (List Command)) (passes : List Pass) (xs : List (Progress × Pass))
    → AreFit store.accounts.config.txns_per_pass scripts → AreUnused store number passes → AreSeated store seen number scripts passes xs
    → AllByRecursion (IsSeat (account_of store)) xs
seats_ready inputs store can seen enough number [] [] [] fit unused seated = tt
seats_ready inputs store can seen enough number [] [] (x ∷ xs) fit unused seated = absurd seated
seats_ready inputs store can seen enough number [] (pass ∷ passes) xs fit unused seated = absurd seated
seats_ready inputs store can seen enough number (script ∷ scripts) [] xs fit unused seated = absurd seated
seats_ready inputs store can seen enough number (script ∷ scripts) (pass ∷ passes) [] fit unused seated = absurd seated
seats_ready inputs store can seen enough number (script ∷ scripts) (pass ∷ passes) (x ∷ xs) fit unused seated = (
  (λ going. subst (IsReadyBy (account_of store x.1)) (sym seated.0.job_is)
      (new_ready inputs.kind inputs.load number script (account_of store x.1) (unbegun_met inputs store can seen enough number pass x.1 unused.0 seated.0.met)
      seated.0.met.idle.valid fit.0.0 fit.0.1)),
  seats_ready inputs store can seen enough (number + 1) scripts passes xs fit.1 unused.1 seated.1,
)
