-- The limits of the windows, each written out once more: a limit that is changed by mistake is changed in one place
-- alone.
use Rattle.std.specs.Prelude.{◌≡◌, [], ◌∷◌}
use Rattle.density_tree.specs.declared.window.TheConstants.{UPPER_LIMITS, LOWER_LIMITS}

-- of windows of one, two, four and eight segments
pub record LimitsAre : Type 0 where
  pub upper : UPPER_LIMITS ≡ 32 ∷ 60 ∷ 112 ∷ 208 ∷ []
  pub lower : LOWER_LIMITS ≡ 4 ∷ 12 ∷ 32 ∷ 80 ∷ []
