-- What may be done under the rule wherever leaves would lie may be done on the table.
use Rattle.std.proofs.Common.{◌≡◌, ℕ, [], sym, subst}
use Rattle.std.specs.declared.alloc.Global.{Global}
use Rattle.atomic_table.specs.Table.{Allows, Splits, Joins}
use Rattle.txn_manager.specs.declared.config.Config.{Config}
use Rattle.rule_model.specs.Places.{lines}
use Rattle.rule_model.specs.Rule.{IsStoreRule}
use Rattle.rule_model.specs.Sight.{Sight, no_sight}
use Rattle.rule_model.specs.Steps.{AllowsLoad}
use Rattle.rule_model.specs.ViewSteps.{IsSplit, joined}
use Rattle.rule_model.proofs.FrameLemmas.{M}
use Rattle.rule_model.proofs.ViewLemmas.{any_heap, heap_is_of_no_account, seat_splits, seats_join}
use Rattle.store_words.specs.Steps.{IsAccountTable}

pub on_table : (key z : Config) → key ≡ z → (slots id : ℕ) (me : M) (i : ℕ) (f : ℕ → ℕ) (told : ℕ → M → Type 0)
    → ((heap : Global) → Allows (IsStoreRule z (lines z.passes) heap) slots id me i f told)
    → Allows (IsAccountTable key) slots id me i f told
on_table key z is slots id me i f told all =
    subst (λ (k : Config). Allows (IsAccountTable k) slots id me i f told) (sym is)
    (any_heap z (lines z.passes) slots id me i f told all)

pub splits_on_table : (key : Config) (id : ℕ) (v left right : Sight) → IsSplit v left right
    → Splits (IsAccountTable key) id v left right
splits_on_table key id v left right cut =
    heap_is_of_no_account key (lines key.passes) id v left right
    (λ heap. seat_splits key (lines key.passes) heap id v left right cut)

pub joins_on_table : (key : Config) (id : ℕ) (v : Sight) (other : ℕ) (w : Sight) → w.readers ≡ []
    → Joins (IsAccountTable key) id v other w (joined v w) no_sight
joins_on_table key id v other w alone s r here apart there =
    (r.0, seats_join key (lines key.passes) r.0 id v other w alone s r.1 here apart there)

-- places that are equal
pub at_place : (z : Config) (heap : Global) (slots id : ℕ) (me : M) (i j : ℕ) → i ≡ j
    → (then : ℕ → Sight) (told : ℕ → Type 0)
    → AllowsLoad z (lines z.passes) heap slots id me i then told
    → AllowsLoad z (lines z.passes) heap slots id me j then told
at_place z heap slots id me i j same then told may =
    subst (λ k. AllowsLoad z (lines z.passes) heap slots id me k then told) same may
