-- Heads in a box, or none, and with the records of a segment at rest.
use Rattle.std.specs.Prelude.{ℕ, [], Option, Some, None}
use Rattle.std.specs.declared.alloc.Global.{Global}
use Rattle.std.specs.declared.boxed.Box.{Box}
use Rattle.undo_chain.specs.Chains.{ChainMap}
use Rattle.head_map.specs.declared.heads.Inside.{Inside}
use Rattle.head_map.specs.declared.resting.Kept.{Kept}
use Rattle.head_map.specs.declared.resting.Kept.TheVariants.{Settled, Changed}
use Rattle.head_map.specs.Heads.{PlaceTable}

-- the heads in a box; where there is none no row is changed
abbrev pub heads_in : Option (Box Inside Global) → PlaceTable
heads_in None = record { entries = []; spare = 0 }
heads_in (Some inside) = inside.value.list

-- Heads and records, and how many rows there are.
pub record RestingTable : Type 0 where
  pub heads : PlaceTable
  pub chains : ChainMap
  pub count : ℕ

abbrev pub table_in : Kept → RestingTable
table_in (Settled alloc count) =
    record { heads = heads_in None; chains = record { slots = []; spare = 0 }; count = count }
table_in (Changed alloc inside) =
    record { heads = heads_in (Some inside); chains = inside.value.chains; count = inside.value.count }
