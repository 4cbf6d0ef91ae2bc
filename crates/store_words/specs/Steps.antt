-- What a step on the account table asks of its rule, and what it leaves of its seat.
use Rattle.std.specs.Prelude.{◌≡◌, ℕ, ◌+◌, ◌*◌}
use Rattle.std.specs.declared.alloc.Global.{Global}
use Rattle.atomic_table.specs.Table.{State}
use Rattle.atomic_table.specs.declared.shared.Seat.{Seat}
use Rattle.txn_manager.specs.declared.config.Config.{Config}
use Rattle.rule_model.specs.CellsModel.Words.{block_words}
use Rattle.rule_model.specs.Places.{lines}
use Rattle.rule_model.specs.Rule.{IsStoreTable}
use Rattle.rule_model.specs.Sight.{Sight, cells_of}
use Rattle.rule_model.specs.Steps.{AllowsLoad, AllowsStoreTelling}

-- the rule of a store's account table, whose words lie in lines
abbrev pub IsAccountTable : Config → State (Unit {0}) Sight → Type 0
IsAccountTable z s = IsStoreTable z (lines z.passes) s

-- how many words it has
abbrev pub word_count : Config → ℕ
word_count z = 16 + 16 * z.passes + block_words * cells_of z

-- ---- a step

-- the seat is of the same table still, and knows that
pub record Knows (old new : Seat (Unit {0}) Sight) (sight : Sight) : Type 0 where
  pub table : new.table_id ≡ old.table_id
  pub me : new.me ≡ (sight, old.me.1)

-- the seat may load this word: by the number that it finds it knows that, and is told that
abbrev pub MayLoad : Config → Seat (Unit {0}) Sight → ℕ → (ℕ → Sight → Sight)
    → (ℕ → Sight → Type 0) → Type 0
MayLoad z seat place next told =
    (heap : Global) → AllowsLoad z (lines z.passes) heap seat.table_id.slots seat.id seat.me place
    (λ n. next n seat.me.0) (λ n. told n seat.me.0)

-- it may store this number there
abbrev pub MayStore : Config → Seat (Unit {0}) Sight → ℕ → ℕ → (ℕ → Sight → Sight)
    → (ℕ → Sight → Type 0) → Type 0
MayStore z seat place word next told =
    (heap : Global) → AllowsStoreTelling z (lines z.passes) heap seat.table_id.slots seat.id seat.me
    place word (next word seat.me.0) (told word seat.me.0)
