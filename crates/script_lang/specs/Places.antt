-- Names, and where each stands first.
use Rattle.std.specs.Prelude.{◌≡◌, ℕ, ◌==◌, Bool, false, List, Option, Some, None}
use Rattle.std.specs.declared.alloc.Global.{Global}
use Rattle.std.specs.declared.vec.Vec.{Vec}
use Rattle.std.specs.BTreeMap.{BTreeMap, get_by}
use Rattle.std.specs.Cmp.Lexicographic.{slice_cmp}
use Rattle.std.specs.List.{position}
use Rattle.std.specs.Ordering.{nat_cmp}
use Rattle.std.specs.Str.{bytes_eq}

-- the place that a map keeps for a name
abbrev pub place_in : BTreeMap (Vec ℕ Global) ℕ → List ℕ → Option ℕ
place_in places name = get_by (λ key. slice_cmp nat_cmp name key.items) places

-- the map has for each name the first place at which it stands
abbrev pub AreFirstPlaces : BTreeMap (Vec ℕ Global) ℕ → List (List ℕ) → Type 0
AreFirstPlaces places names = (name : List ℕ) → place_in places name ≡ position (bytes_eq name) names

abbrev pub is_at : ℕ → Option ℕ → Bool
is_at place None = false
is_at place (Some other) = place == other
