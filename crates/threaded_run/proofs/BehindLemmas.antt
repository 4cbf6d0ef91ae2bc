-- The passes behind those of the scripts: they come back as they were lent out, and have made nothing.
use Rattle.std.proofs.Common.{◌≡◌, ℕ, zero, suc, ◌+◌, ◌-◌, ◌≤◌, List, [], ◌∷◌, ◌++◌, length, map, take, drop, refl, sym, ◌∙◌, ap, subst, arith, length-append}
use Rattle.std.proofs.lemmas.List.{length-map, length-drop, length-take-le}
use Rattle.std.specs.Prelude.{Some, slice_get, Result, Ok, Err, IfOk, OnOk}
use Rattle.std.specs.List.{AllByRecursion}
use Rattle.graph_model.specs.Account.{Account}
use Rattle.graph_model.proofs.PlaceLemmas.{some_eq}
use Rattle.run_model.specs.declared.command.Command.{Command}
use Rattle.run_model.specs.Inputs.{Inputs}
use Rattle.run_model.proofs.ListLemmas.{all_from_places, there}
use Rattle.thread_runner.specs.JobRunner.Progress.{Progress}
use Rattle.shared_runs.specs.Closing.{HaveRunOn, OthersMadeNothing}
use Rattle.rebalance_service.specs.StoreRelation.Passes.{fresh_pass}
use Rattle.rebalance_service.specs.StoreRelation.Passes.{account_of as state_account}
use Rattle.rebalance_service.specs.StoreRuleDeclared.store.Store.{Store}
use Rattle.rebalance_service.specs.SharedStoreDeclared.pass.Pass.{Pass}
use Rattle.rebalance_service.specs.SharedStore.Ends.{AreIdle}
use Rattle.rebalance_service.specs.SharedStore.Loading.{first_state}
use Rattle.rebalance_service.specs.SharedStore.Passes.{IsIdle, account_of}
use Rattle.rebalance_service.specs.Spare.{AreSpare}
use Rattle.threaded_run.specs.Seats.{AreIdleFrom, CanRunBefore, CanRunOn}
use Rattle.threaded_run.proofs.FreshLemmas.{AreUnused, fresh_behind, unused_from}
use Rattle.threaded_run.proofs.PlaceLemmas.{in_front, behind, dropped}

-- ---- of what is answered

pub if_ran : {T E : Type 0} (r : Result T E) (P Q : T → Type 0) → ((x : T) → P x → Q x) → IfOk r P → IfOk r Q
if_ran (Ok x) P Q weaker is = weaker x is
if_ran (Err e) P Q weaker is = tt

pub where_ran : {T E : Type 0} (r : Result T E) (P : Type 0) → P → OnOk r P
where_ran (Ok x) P is = is
where_ran (Err e) P is = tt

-- ---- by their numbers

idle_on : (store : Store) (number next : ℕ) (xs ys : List Pass) → next ≡ number + length xs → AreIdleFrom store number xs → AreIdleFrom store next ys → AreIdleFrom store number (xs ++ ys)
idle_on store number next [] ys is front rest = subst (λ n. AreIdleFrom store n ys) (is ∙ omega arith) rest
idle_on store number next (x ∷ xs) ys is front rest = (front.0, front.1, idle_on store (number + 1) next xs ys (is ∙ omega arith) front.2 rest)

idle_at : (store : Store) (number : ℕ) (xs : List Pass) → AreIdleFrom store number xs → (k : ℕ) (pass : Pass) → slice_get xs k ≡ Some pass → IsIdle store pass × (pass.seats.number ≡ number + k)
idle_at store number [] idle k pass at = cc
idle_at store number (x ∷ xs) idle zero pass at =
    let same : x ≡ pass = some_eq x pass at in
    (subst (IsIdle store) same idle.0, ap (λ (p : Pass). p.seats.number) (sym same) ∙ idle.1 ∙ omega arith)
idle_at store number (x ∷ xs) idle (suc k) pass at = let rest = idle_at store (number + 1) xs idle.2 k pass at in (rest.0, rest.1 ∙ omega arith)

-- ---- passes that have made nothing

abbrev HaveNone : Store → List Pass → Type 0
HaveNone store passes = AllByRecursion (λ pass. (account_of store pass).made ≡ []) passes

none_at : (store : Store) (xs : List Pass) → HaveNone store xs → (k : ℕ) (pass : Pass) → slice_get xs k ≡ Some pass → (account_of store pass).made ≡ []
none_at store [] none k pass at = cc
none_at store (x ∷ xs) none zero pass at = subst (λ (p : Pass). (account_of store p).made ≡ []) (some_eq x pass at) none.0
none_at store (x ∷ xs) none (suc k) pass at = none_at store xs none.1 k pass at

-- as they were before, so they are again
again : (store : Store) (number : ℕ) (old new : List Pass) → AreUnused store number old → AllByRecursion (IsIdle store) new → map (account_of store) new ≡ map (account_of store) old
    → AreIdleFrom store number new × HaveNone store new
again store number [] [] unused idle same = (tt, tt)
again store number [] (y ∷ ys) unused idle same = absurd (omega (arith, ap length same))
again store number (x ∷ xs) [] unused idle same = absurd (omega (arith, ap length same))
again store number (x ∷ xs) (y ∷ ys) unused idle same =
    let one : account_of store y ≡ account_of store x = ap (λ (all : List Account). first (account_of store y) all) same in
    let others : map (account_of store) ys ≡ map (account_of store) xs = ap rest same in
    let behind = again store (number + 1) xs ys unused.1 idle.1 others in
    let fresh : account_of store x ≡ state_account store.accounts.config x.seats.number fresh_pass = ap (state_account store.accounts.config x.seats.number) unused.0.state in (
      (idle.0, ap (λ (a : Account). a.job) one ∙ unused.0.number_is, behind.0),
      (ap (λ (a : Account). a.made) one ∙ ap (λ (a : Account). a.made) fresh, behind.1),
    )
  where
    first : Account → List Account → Account
    first a [] = a
    first a (b ∷ bs) = b

    rest : List Account → List Account
    rest [] = []
    rest (b ∷ bs) = bs

-- ---- what a run is given

module _ (inputs : Inputs) (store : Store) (list : List Pass) (scripts : List (List Command)) (can : CanRunOn inputs store list scripts) where
  abbrev n : ℕ
  n = length scripts + 1

  same_count : length scripts ≡ length inputs.scripts
  same_count = ap length can.scripts_are

  pub enough : n ≤ length list
  enough = let count = can.loaded.idle.count in let passes = can.can.passes in let same = same_count in omega (arith, count, passes, same)

  -- the first passes, and the others
  cut : (xs : List Pass) (m : ℕ) → take m xs ++ drop m xs ≡ xs
  cut xs zero = refl
  cut [] (suc m) = refl
  cut (x ∷ xs) (suc m) = ap (λ ys. x ∷ ys) (cut xs m)

  pub can_before : (first : List Pass) → first ≡ take n list → CanRunBefore inputs store first (drop n list) scripts
  can_before first is = record {
    can = subst (λ xs. CanRunOn inputs store xs scripts) (sym (ap (λ xs. xs ++ drop n list) is ∙ cut list n)) can;
    count = ap length is ∙ length-take-le n list enough;
  }

  unused : AreUnused store n (drop n list)
  unused = unused_from store n (drop n list) (λ k pass at.
      (let there : slice_get list (n + k) ≡ Some pass = sym (dropped list n k) ∙ at in
      let next : n + k ≡ suc (length scripts + k) = omega arith in
      record {
        idle = can.loaded.idle.idle (n + k) pass there;
        number_is = can.loaded.idle.numbers (n + k) pass there;
        state = can.loaded.state (n + k) pass there ∙ ap (first_state inputs.load) next ∙ fresh_behind inputs.load (length scripts + k);
      }))

  pub spare : AreSpare store (map (account_of store) (drop n list)) (drop n list)
  spare = record {
    idle = all_from_places (IsIdle store) (drop n list) (λ k pass at. can.loaded.idle.idle (n + k) pass (sym (dropped list n k) ∙ at));
    own = refl;
  }

  -- ---- what it leaves

  module _ (first others passes : List Pass) (front : AreIdleFrom store 0 first) (count : length first ≡ n) (back : AreSpare store (map (account_of store) (drop n list)) others) (are : passes ≡ first ++ others) where
    both : AreIdleFrom store n others × HaveNone store others
    unfolding unused
    both = again store n (drop n list) others unused back.idle back.own

    others_count : length others ≡ length list - n
    others_count =
        sym (length-map others (account_of store)) ∙ ap length back.own ∙ length-map (drop n list) (account_of store) ∙ length-drop n list

    all_from : AreIdleFrom store 0 passes
    unfolding both
    all_from = subst (AreIdleFrom store 0) (sym are) (idle_on store 0 n first others (sym count ∙ omega arith) front both.0)

    -- ALL PASSES ARE BACK
    pub all_back : AreIdle store passes
    unfolding all_from others_count enough
    all_back = record {
      count =
          let whole : length passes ≡ length first + length others = ap length are ∙ length-append first others in
          let rest = others_count in
          let some = enough in
          let given = can.loaded.idle.count in
          omega (arith, whole, rest, some, count, given);
      idle = λ p pass at. (idle_at store 0 passes all_from p pass at).0;
      numbers = λ p pass at. (idle_at store 0 passes all_from p pass at).1 ∙ omega arith;
    }

    -- AND THE OTHERS HAVE MADE NOTHING
    pub others_none : OthersMadeNothing (length scripts) store.accounts.config passes
    unfolding both others_count enough
    others_none p above inside =
        let rest = others_count in
        let some = enough in
        let given = can.loaded.idle.count in
        let one = there others (p - n) (omega (arith, rest, some, given, above, inside)) in
        let place : p ≡ length first + (p - n) = omega (arith, count, above) in
        record {
          pass = one.0;
          there = ap (λ xs. slice_get xs p) are ∙ behind first others (p - n) p place ∙ one.1;
          made = none_at store others both.1 (p - n) one.0 one.1;
        }

    -- THE SCRIPTS RAN AS ON THEIR PASSES ALONE
    pub ran_on : (jobs : List Progress) → HaveRunOn inputs store.accounts.config first jobs → HaveRunOn inputs store.accounts.config passes jobs
    ran_on jobs have = subst (λ xs. HaveRunOn inputs store.accounts.config xs jobs) (sym are) (record {
      kind = have.kind;
      passes = have.passes;
      count = have.count;
      loader = have.loader;
      first = in_front first others 0 have.loader have.first;
      loaded = have.loaded;
      ran = λ k cs job script at. (let one = have.ran k cs job script at in record { pass = one.pass; there = in_front first others (k + 1) one.pass one.there; ran = one.ran });
    })
