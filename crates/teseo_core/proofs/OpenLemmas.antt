-- The open transactions of a core, while the selected pass goes on.
use Rattle.std.proofs.Common.{◌≡◌, ℕ, ◌+◌, ◌-◌, List, refl, sym, ◌∙◌, ap, subst, cond, arith, inl}
use Rattle.std.specs.Prelude.{Bool, true, false, ◌==◌, nat_lt, Option, Some, None, is_some, option_map, unwrap_or, slice_get, slice_set}
use Rattle.std.proofs.lemmas.Bool.Decides.{nat_tests}
use Rattle.std.proofs.lemmas.List.{length-set}
use Rattle.graph_model.specs.declared.journal.TxnName.{TxnName}
use Rattle.graph_model.specs.OwnerCalls.{PassState, Core, no_pass, pass_at, current, with_current, name_here, running_of, open_txns}
use Rattle.graph_model.specs.OwnerLaws.{IsChosen}
use Rattle.graph_model.specs.Passes.{of_latest, revised, state_in}
use Rattle.graph_model.specs.Transactions.{Running, Changes, IsListed}
use Rattle.graph_model.proofs.PassLemmas.{latest_here, changes_latest, changes_next, state_in-set, is_listed}
use Rattle.txn_manager.specs.Manager.{Manager, PassTxns, no_txns, with_txns, open_start}
use Rattle.txn_manager.specs.ManagerLaws.{AreOpenIn}
use Rattle.teseo_core.specs.Keeping.{running_in, txns_in, AreTied}

-- the pass with a number, in a list from 0 on
pub pass_at_is : (passes : List PassState) (p : ℕ) → state_in no_pass 0 passes p ≡ unwrap_or (slice_get passes p) no_pass
pass_at_is passes p =
    let up : nat_lt p 0 ≡ false = grind (arith, nat_tests) in
    let same : p - 0 ≡ p = omega arith in
    ap (λ t. cond t no_pass (unwrap_or (slice_get passes (p - 0)) no_pass)) up ∙ ap (λ n. unwrap_or (slice_get passes n) no_pass) same

module _ (core : Core) (chosen : IsChosen core) (state : PassState) where
  -- the selected pass has another state, and no other pass
  pub pass_set : (q : ℕ) → pass_at (with_current core state) q ≡ revised (pass_at core) core.selected state q
  pass_set q =
      let from : 0 + core.selected ≡ core.selected = omega arith in
      sym (pass_at_is (slice_set core.passes core.selected state) q) ∙ state_in-set no_pass 0 core.passes core.selected state chosen q
      ∙ (λ i. cond (q == from i) state (pass_at_is core.passes q i))

  pub current_set : current (with_current core state) ≡ state
  current_set =
      let self : (core.selected == core.selected) ≡ true = grind (arith, nat_tests) in
      pass_set core.selected ∙ ap (λ t. cond t state (pass_at core core.selected)) self

  running_set : of_latest (λ (s : PassState). s.begun) running_of None (revised (pass_at core) core.selected state) ≡ running_in (with_current core state)
  running_set = λ i. of_latest (λ (s : PassState). s.begun) running_of None (λ q. sym (pass_set q) i)

  -- its open transaction goes on, or ends
  pub here_changes : state.begun ≡ (current core).begun → Changes (name_here core) (running_in core) (running_in (with_current core state)) (running_of state)
  here_changes same = subst (λ (r : TxnName → Option Running). Changes (name_here core) (running_in core) r (running_of state)) running_set
      (changes_latest (λ (s : PassState). s.begun) running_of (pass_at core) core.selected state (inl same))

  -- its next transaction begins
  pub next_changes : (current core).start ≡ None → Changes (record { job = core.selected; number = state.begun }) (running_in core) (running_in (with_current core state)) (running_of state)
  next_changes closed = subst (λ (r : TxnName → Option Running). Changes (record { job = core.selected; number = state.begun }) (running_in core) r (running_of state)) running_set
      (changes_next (λ (s : PassState). s.begun) running_of (pass_at core) core.selected state (ap (option_map (λ start. record { start = start; writes = (current core).own })) closed))

  -- nothing of its transactions changes
  pub same_running : state.begun ≡ (current core).begun → running_of state ≡ running_of (current core) → running_in (with_current core state) ≡ running_in core
  same_running begun same = sym running_set ∙ (λ i by. cond (by.number == number by.job i) (run by.job i) None)
    where
      number : (q : ℕ) → (revised (pass_at core) core.selected state q).begun ≡ (pass_at core q).begun
      number q = elim (q == core.selected) as (λ t. (q == core.selected) ≡ t → (cond t state (pass_at core q)).begun ≡ (pass_at core q).begun) [
        | true ↦ λ e. let is : q ≡ core.selected = grind (arith, nat_tests) in begun ∙ ap (λ p. (pass_at core p).begun) (sym is)
        | false ↦ λ e. refl
      ] refl

      run : (q : ℕ) → running_of (revised (pass_at core) core.selected state q) ≡ running_of (pass_at core q)
      run q = elim (q == core.selected) as (λ t. (q == core.selected) ≡ t → running_of (cond t state (pass_at core q)) ≡ running_of (pass_at core q)) [
        | true ↦ λ e. let is : q ≡ core.selected = grind (arith, nat_tests) in same ∙ ap (λ p. running_of (pass_at core p)) (sym is)
        | false ↦ λ e. refl
      ] refl

  -- the manager follows
  pub tied_set : (m : Manager) → AreTied core m → (txns : PassTxns) → txns ≡ txns_in state → state.allowed ≡ (current core).allowed → AreTied (with_current core state) (with_txns m core.selected txns)
  tied_set m tied txns is allowed = record {
    journal = tied.journal;
    count = length-set m.passes core.selected txns ∙ tied.count ∙ sym (length-set core.passes core.selected state);
    each = λ q.
        let from : 0 + core.selected ≡ core.selected = omega arith in
        state_in-set no_txns 0 m.passes core.selected txns (omega (arith, chosen, tied.count)) q
        ∙ (λ i. cond (q == from i) (is i) (tied.each q i)) ∙ into (q == core.selected) q ∙ ap txns_in (sym (pass_set q));
    allowed = λ p lt. ap (λ (s : PassState). s.allowed) (pass_set p)
        ∙ (elim (p == core.selected) as (λ t. (p == core.selected) ≡ t → (cond t state (pass_at core p)).allowed ≡ m.allowed) [
          | true ↦ λ e. allowed ∙ tied.allowed core.selected chosen
          | false ↦ λ e. tied.allowed p (omega (arith, lt, length-set core.passes core.selected state))
        ] refl);
  }
    where
      into : (t : Bool) (q : ℕ) → cond t (txns_in state) (txns_in (pass_at core q)) ≡ txns_in (cond t state (pass_at core q))
      into true q = refl
      into false q = refl

-- the selected pass's open transaction
pub here_running : (core : Core) (start : ℕ) → (current core).start ≡ Some start → running_in core (name_here core) ≡ Some (record { start = start; writes = (current core).own })
here_running core start opened =
    latest_here (λ (s : PassState). s.begun) running_of None (pass_at core) core.selected
    ∙ ap (option_map (λ start. record { start = start; writes = (current core).own })) opened

-- where none is open
pub here_closed : (core : Core) (number : ℕ) → (current core).start ≡ None → running_in core (record { job = core.selected; number = number }) ≡ None
here_closed core number closed = ap (cond (number == (current core).begun) (running_of (current core))) refl ∙ none (number == (current core).begun)
  where
    none : (t : Bool) → cond t (running_of (current core)) None ≡ None
    none true = ap (option_map (λ start. record { start = start; writes = (current core).own })) closed
    none false = refl

-- the manager has the same transactions open
pub same_open : (core : Core) (m : Manager) → AreTied core m → (n : TxnName) → is_some (open_start m n) ≡ is_some (running_in core n)
same_open core m tied n =
    ap (λ (t : PassTxns). is_some (cond (n.number == t.begun) t.start None)) (tied.each n.job)
    ∙ by_start (n.number == (pass_at core n.job).begun) (pass_at core n.job) (pass_at core n.job).start refl
  where
    some_running : PassState → Option ℕ → Bool
    some_running s y = let run : Option Running = option_map (λ start. record { start = start; writes = s.own }) y in is_some run

    by_start : (t : Bool) (s : PassState) (x : Option ℕ) → s.start ≡ x → is_some (cond t s.start None) ≡ is_some (cond t (running_of s) None)
    by_start true s None e = ap is_some e ∙ sym (ap (λ y. some_running s y) e)
    by_start true s (Some start) e = ap is_some e ∙ sym (ap (λ y. some_running s y) e)
    by_start false s x e = refl

-- the list of the open transactions has exactly them
pub here_listed : (core : Core) → IsListed (open_txns core) (running_in core)
here_listed core = subst (λ (r : TxnName → Option Running). IsListed (open_txns core) r) same (is_listed (λ (s : PassState). s.begun) running_of no_pass refl 0 core.passes)
  where
    same : of_latest (λ (s : PassState). s.begun) running_of None (state_in no_pass 0 core.passes) ≡ running_in core
    same = λ i. of_latest (λ (s : PassState). s.begun) running_of None (λ p. pass_at_is core.passes p i)

-- each of them began where the manager has it
pub are_open : (core : Core) (m : Manager) → AreTied core m → AreOpenIn m (running_in core)
are_open core m tied by =
    by_start (by.number == (pass_at core by.job).begun) (pass_at core by.job) (pass_at core by.job).start refl
    ∙ sym (ap (λ (t : PassTxns). cond (by.number == t.begun) t.start None) (tied.each by.job))
  where
    start_in : PassState → Option ℕ → Option ℕ
    start_in s y = let run : Option Running = option_map (λ start. record { start = start; writes = s.own }) y in option_map (λ t. t.start) run

    by_start : (t : Bool) (s : PassState) (x : Option ℕ) → s.start ≡ x → option_map (λ t. t.start) (cond t (running_of s) None) ≡ cond t s.start None
    by_start true s None e = ap (start_in s) e ∙ sym e
    by_start true s (Some start) e = ap (start_in s) e ∙ sym e
    by_start false s x e = refl
