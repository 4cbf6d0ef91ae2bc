-- The limit that only scripts have, written out once more: one that is changed by mistake is changed in one place.
use Rattle.std.specs.Prelude.{◌≡◌}
use Rattle.script_lang.specs.declared.arguments.TheConstants.{MAX_WIDTH}

pub record LimitsAre : Type 0 where
  pub max_width : MAX_WIDTH ≡ 4294967295
