-- What the rule of the table allows of a step, at the places of words.
use Rattle.std.proofs.Common.{◌≡◌, ℕ, subst}
use Rattle.std.specs.declared.alloc.Global.{Global}
use Rattle.txn_manager.specs.declared.config.Config.{Config}
use Rattle.store_rule.specs.RuleModel.Places.{lines}
use Rattle.store_rule.specs.RuleModel.Sight.{Sight}
use Rattle.store_rule.specs.RuleModel.Steps.{AllowsStore, AllowsStoreTelling}
use Rattle.store_rule.proofs.RuleModel.FrameLemmas.{M}
use Rattle.store_rule.proofs.StoreWords.CellLemmas.{tells_nothing}

-- the place and the number may be said otherwise
pub stores_at : (z : Config) (heap : Global) (slots id : ℕ) (me : M) (i k w x : ℕ) → i ≡ k → w ≡ x
    → (then : Sight) (told : Type 0) → AllowsStoreTelling z (lines z.passes) heap slots id me i w then told
    → AllowsStoreTelling z (lines z.passes) heap slots id me k x then told
stores_at z heap slots id me i k w x places words then told may =
    subst (λ (p : ℕ × ℕ). AllowsStoreTelling z (lines z.passes) heap slots id me p.0 p.1 then told)
    (λ t. (places t, words t)) may

pub stores_quietly : (z : Config) (heap : Global) (slots id : ℕ) (me : M) (i k w x : ℕ) → i ≡ k → w ≡ x
    → (then : Sight) → AllowsStore z (lines z.passes) heap slots id me i w then
    → AllowsStoreTelling z (lines z.passes) heap slots id me k x then (Unit {0})
stores_quietly z heap slots id me i k w x places words then may =
    stores_at z heap slots id me i k w x places words then (Unit {0})
    (tells_nothing z heap slots id me i w then may)
