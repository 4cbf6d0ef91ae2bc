-- What a sweep leaves of a pass between calls.
use Rattle.graph_model.specs.AccountSteps.{ReadsBy}
use Rattle.pass_steps.specs.StoreRuleDeclared.store.Pass.{Pass}
use Rattle.pass_steps.specs.StoreRuleDeclared.store.Store.{Store}
use Rattle.pass_steps.specs.Passes.{HoldsNone, IsIdlePass, IsOpenPass, IsPassOf, account_of_pass}
use Rattle.pass_sweeps.specs.Sweeping.{GoesOn}

-- its account has only seen more
abbrev pub AccountGoesOn : Type 0
AccountGoesOn = (store : Store) (old new : Pass) → GoesOn old new
    → ReadsBy (account_of_pass store old) (account_of_pass store new)

-- where it had no transaction it has none
abbrev pub IdleGoesOn : Type 0
IdleGoesOn = (store : Store) (old new : Pass) → IsIdlePass store old → IsPassOf store new → HoldsNone new
    → GoesOn old new → IsIdlePass store new

-- where it had an open one it has that still
abbrev pub OpenGoesOn : Type 0
OpenGoesOn = (store : Store) (old new : Pass) → IsOpenPass store old → IsPassOf store new → HoldsNone new
    → GoesOn old new → IsOpenPass store new
