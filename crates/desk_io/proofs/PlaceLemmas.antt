-- The item at a place of a list, and those before it
use Rattle.std.proofs.Common.{◌≡◌, ◌∙◌, ℕ, ◌+◌, ◌<◌, List, [], ◌∷◌, ◌++◌, map, take, sym, ap, arith, length-take}
use Rattle.std.specs.Prelude.{◌≢◌, Contains, AllPairs, Some, slice_get, option_map}
use Rattle.std.proofs.lemmas.List.{take_more, get_or-take}
use Rattle.std.proofs.lemmas.Option.{slice_get-map, slice_get_within, get_or_from_slice_get}

-- one item more: the first items, with the one at the next place behind them
pub take_next : {X : Type 0} (items : List X) (place : ℕ) (item : X) → slice_get items place ≡ Some item → take (place + 1) items ≡ take place items ++ item ∷ []
take_next items place item at =
    take_more items place item (slice_get_within items place item at)
    ∙ ap (λ last. take place items ++ last ∷ []) (get_or_from_slice_get items place item item at)

-- an item at its place, through a map
pub map_at : {X Y : Type 0} (f : X → Y) (items : List X) (place : ℕ) (item : X) → slice_get items place ≡ Some item → slice_get (map f items) place ≡ Some (f item)
map_at f items place item at = slice_get-map f items place ∙ ap (option_map f) at

-- of items that are pairwise different, the one at a place is none of those before it
pub none_before : {X : Type 0} (items : List X) (place : ℕ) (item : X) → slice_get items place ≡ Some item → AllPairs (λ a b. a ≢ b) items → Contains (take place items) item → ⊥
none_before items place item at apart there =
    let earlier : there.0 < place = omega (arith, there.1, length-take place items) in
    apart there.0 place item earlier (slice_get_within items place item at)
    (sym (get_or-take place items there.0 item earlier) ∙ there.2 ∙ sym (get_or_from_slice_get items place item item at))
