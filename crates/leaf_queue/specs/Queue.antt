-- Leaves that wait to be looked at.
use Rattle.std.specs.Prelude.{◌≡◌, ℕ, Bool, true, false, cond, List, Option, Some, None, slice_get}
use Rattle.graph_model.specs.declared.row.Key.{Key}
use Rattle.graph_model.specs.Rows.{is_below}
use Rattle.leaf_queue.specs.declared.waiting.WaitStage.{WaitStage}
use Rattle.leaf_queue.specs.declared.waiting.WaitStage.TheVariants.{Windows, Neighbours}
use Rattle.leaf_queue.specs.declared.waiting.Waiting.{Waiting}

-- of two stages the first decides, and between equal ones the test
abbrev pub by_stage : WaitStage → WaitStage → Bool → Bool
by_stage Windows Windows is = is
by_stage Windows Neighbours is = true
by_stage Neighbours Windows is = false
by_stage Neighbours Neighbours is = is

-- a leaf whose windows are to be looked at comes before all that wait for their neighbours, and else the lesser key
abbrev pub comes_before : Waiting → Waiting → Bool
comes_before a b = by_stage a.stage b.stage (is_below a.low b.low)

-- it waits at the place of its number
abbrev pub Waits : List (Option Waiting) → Waiting → Type 0
Waits places waiting = slice_get places waiting.leaf ≡ Some (Some waiting)

-- it waits, and none that waits comes before it
pub record IsFirst (places : List (Option Waiting)) (first : Waiting) : Type 0 where
  pub waits : Waits places first
  pub least : (other : Waiting) → Waits places other → comes_before other first ≡ false

-- the one of two that comes first
abbrev pub first_of : Option Waiting → Option Waiting → Option Waiting
first_of None right = right
first_of (Some a) None = Some a
first_of (Some a) (Some b) = cond (comes_before b a) (Some b) (Some a)

-- behind its windows its neighbours are looked at, and behind these it doesn't wait any more
abbrev pub next_at : WaitStage → Key → ℕ → Option Waiting
next_at Windows low leaf = Some (record { stage = Neighbours; low = low; leaf = leaf })
next_at Neighbours low leaf = None

abbrev pub next_of : Waiting → Option Waiting
next_of waiting = next_at waiting.stage waiting.low waiting.leaf
