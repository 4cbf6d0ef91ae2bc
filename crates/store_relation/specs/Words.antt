-- The word of a pass: where its latest transaction stands, in one number that other passes may
-- load.
use Rattle.std.specs.Prelude.{◌≡◌, ℕ, ◌+◌, ◌-◌, Bool, false, ◌==◌, ◌&&◌, cond, nat_lt, nat_le, List, [], ◌∷◌, Option, Some, None}
use Rattle.std.specs.List.{list_any}
use Rattle.graph_model.specs.declared.journal.TxnName.{TxnName}
use Rattle.graph_model.specs.declared.state.State.{State}
use Rattle.graph_model.specs.declared.state.State.TheVariants.{Live, Committed, Aborted}
use Rattle.graph_model.specs.Conflict.{same_name}
use Rattle.store_relation.specs.declared.stage.Stage.{Stage}
use Rattle.store_relation.specs.declared.stage.Stage.TheVariants.{Idle, Open, Aborting, Committing}

-- ---- what a word says

-- the latest transaction is open, or is being aborted
abbrev pub open_word : ℕ
open_word = 1

-- it has ended without a commit
abbrev pub ended_word : ℕ
ended_word = 2

-- the entry at this place of the journal is its commit; the stamp is one more than the place
abbrev pub commit_word : ℕ → ℕ
commit_word place = place + 3

-- the word of a pass whose latest transaction is there, where so many commits are published; of an
-- idle pass it says how that transaction ended
abbrev pub IsMarked : Stage → ℕ → ℕ → Type 0
IsMarked Idle word count = Unit {0}
IsMarked Open word count = word ≡ open_word
IsMarked Aborting word count = word ≡ open_word
IsMarked Committing word count = word ≡ commit_word count

-- the stamp that a word says
abbrev pub stamp_of_word : ℕ → Option ℕ
stamp_of_word n = cond (nat_lt 2 n) (Some (n - 2)) None

-- where a writer stands by its pass's word
abbrev pub state_of_word : ℕ → State
state_of_word n = cond (nat_lt 2 n) (Committed (n - 2)) (cond (n == 1) Live Aborted)

-- ---- looks

-- the word of this writer's pass was found to be that, when at least so many commits were published
pub record Look : Type 0 where
  pub by : TxnName
  pub word : ℕ
  pub until : ℕ

-- the stamp that a look gives, if it is not above that number
abbrev pub stamp_up_to : ℕ → ℕ → Option ℕ
stamp_up_to until n = cond (nat_lt 2 n && nat_le (n - 2) until) (Some (n - 2)) None

-- what looks say of a writer, by the first that is of it
abbrev pub stamps_of : List Look → TxnName → Option ℕ
stamps_of [] by = None
stamps_of (l ∷ ls) by = cond (same_name l.by by) (stamp_up_to l.until l.word) (stamps_of ls by)

-- one of them found this word
abbrev pub has_word : List Look → TxnName → ℕ → Bool
has_word ls by n = list_any (λ l. same_name l.by by && (l.word == n)) ls

-- the first that is of the writer serves up to this stamp
abbrev pub has_look : ℕ → List Look → TxnName → Bool
has_look horizon [] by = false
has_look horizon (l ∷ ls) by = cond (same_name l.by by) (nat_le horizon l.until)
    (has_look horizon ls by)

-- some look vouches for this state of the writer
abbrev pub is_said : List Look → TxnName → State → Bool
is_said ls by Live = has_word ls by 1
is_said ls by (Committed stamp) = has_word ls by (stamp + 2)
is_said ls by Aborted = false
