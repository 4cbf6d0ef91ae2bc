-- Passes, each with at most one open transaction: what these have, by their names. A pass's state is of
-- any type; `number` gives the number of its latest transaction, `current` what is open of it.
use Rattle.std.specs.Prelude.{ℕ, ◌+◌, ◌-◌, ◌==◌, cond, nat_lt, List, [], ◌∷◌, slice_get, Option, Some, None, unwrap_or}
use Rattle.graph_model.specs.declared.journal.TxnName.{TxnName}
use Rattle.graph_model.specs.Conflict.{OpenTxn}
use Rattle.graph_model.specs.Transactions.{Running}

-- the name of a pass's latest transaction: the pass's own number is its `job`
abbrev pub latest_name : {S : Type 0} → (S → ℕ) → (ℕ → S) → ℕ → TxnName
latest_name number pass p = record { job = p; number = number (pass p) }

-- what the latest transaction of each pass has, by its name; no other name has anything
abbrev pub of_latest : {S X : Type 0} → (S → ℕ) → (S → X) → X → (ℕ → S) → TxnName → X
of_latest number part none pass by = cond (by.number == number (pass by.job)) (part (pass by.job)) none

-- the passes, one of them in another state
abbrev pub revised : {S : Type 0} → (ℕ → S) → ℕ → S → ℕ → S
revised pass p state q = cond (q == p) state (pass q)

-- the state of the pass with a number, where a list has the states of those from `from` on
abbrev pub state_in : {S : Type 0} → S → ℕ → List S → ℕ → S
state_in other from states p = cond (nat_lt p from) other (unwrap_or (slice_get states (p - from)) other)

abbrev pub listed_if : Option Running → TxnName → List OpenTxn → List OpenTxn
listed_if None by rest = rest
listed_if (Some t) by rest = record { by = by; writes = t.writes } ∷ rest

-- the open transactions of a list of passes, numbered from `from` on
abbrev pub open_txns_of : {S : Type 0} → (S → ℕ) → (S → Option Running) → ℕ → List S → List OpenTxn
open_txns_of number current from [] = []
open_txns_of number current from (state ∷ states) =
    listed_if (current state) (record { job = from; number = number state })
    (open_txns_of number current (from + 1) states)
