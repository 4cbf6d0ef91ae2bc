-- A step of a seat: a load or a store of one word, after which the seat knows more. A law of a
-- kind of step says of which seats it may be made, and what it leaves and tells.
use Rattle.std.specs.Prelude.{◌≡◌, ℕ}
use Rattle.std.specs.declared.alloc.Global.{Global}
use Rattle.atomic_table.specs.Table.{Me, Allows}
use Rattle.txn_manager.specs.declared.config.Config.{Config}
use Rattle.rule_model.specs.Places.{Layout}
use Rattle.rule_model.specs.Sight.{Sight}
use Rattle.rule_model.specs.Rule.{IsStoreRule}

-- a law of one seat of one table
abbrev pub SeatLaw : Type 1
SeatLaw = Config → Layout → Global → ℕ → ℕ → Me (Unit {0}) Sight → Type 0

-- and of each
abbrev pub OfEachSeat : SeatLaw → Type 0
OfEachSeat Law =
    (z : Config) (at : Layout) (heap : Global) (slots id : ℕ) (me : Me (Unit {0}) Sight)
    → Law z at heap slots id me

-- nothing is told
abbrev pub Nothing : ℕ → Type 0
Nothing n = Unit {0}

module _ (z : Config) (at : Layout) (heap : Global) (slots id : ℕ)
    (me : Me (Unit {0}) Sight) where
  -- the word at the place may be loaded: the seat knows this then, and the number that was found
  -- tells that
  abbrev pub AllowsLoad : ℕ → (ℕ → Sight) → (ℕ → Type 0) → Type 0
  AllowsLoad place then told =
      Allows (IsStoreRule z at heap) slots id me place (λ n. n)
      (λ n m. (m ≡ (then n, me.1)) × told n)

  -- this number may be stored there: the seat knows that then
  abbrev pub AllowsStore : ℕ → ℕ → Sight → Type 0
  AllowsStore place word then =
      Allows (IsStoreRule z at heap) slots id me place (λ _. word) (λ _ m. m ≡ (then, me.1))

  -- and the seat is told that
  abbrev pub AllowsStoreTelling : ℕ → ℕ → Sight → Type 0 → Type 0
  AllowsStoreTelling place word then told =
      Allows (IsStoreRule z at heap) slots id me place (λ _. word)
      (λ _ m. (m ≡ (then, me.1)) × told)
