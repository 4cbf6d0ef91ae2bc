-- Which passes have a transaction open.
use Rattle.std.specs.Prelude.{◌≡◌, ℕ, Bool, List, is_some, map, slice_set}
use Rattle.graph_model.specs.OwnerCalls.{Core}

-- of each pass whether it has a transaction open
abbrev pub open_of : Core → List Bool
open_of core = map (λ s. is_some s.start) core.passes

-- the same pass is selected, and the same ones have a transaction open
pub record KeepsOpen (old new : Core) : Type 0 where
  pub selected : new.selected ≡ old.selected
  pub open_in : open_of new ≡ open_of old

-- this pass is selected, and it alone may have changed: it has a transaction open, or none
pub record SetsOpen (pass : ℕ) (is_open : Bool) (old new : Core) : Type 0 where
  pub selected : new.selected ≡ pass
  pub open_in : open_of new ≡ slice_set (open_of old) pass is_open
