-- Lists that are read item by item.
use Rattle.std.specs.Prelude.{List, ◌∷◌, Result, Ok, Err}

-- an item in front of those behind it, unless there is a fault among these
abbrev pub in_front : {X E : Type 0} → X → Result (List X) E → Result (List X) E
in_front item (Ok items) = Ok (item ∷ items)
in_front item (Err refusal) = Err refusal
