-- What a pass may store at its pin, on the table of its store.
use Rattle.std.proofs.Common.{◌≡◌, ℕ, ◌+◌, ◌*◌, ◌<◌, ap, subst, arith}
use Rattle.atomic_table.specs.Seated.{TableId}
use Rattle.atomic_table.specs.Table.{Allows}
use Rattle.epoch_reclaim.specs.Steps as pins
use Rattle.store_rule.specs.RuleModel.Places.{lines}
use Rattle.store_rule.specs.RuleModel.Sight.{Sight}
use Rattle.store_rule.specs.declared.store.Pass.{Pass}
use Rattle.store_rule.specs.declared.store.Store.{Store}
use Rattle.store_rule.specs.StoreWords.Steps.{IsAccountTable, MayStore}
use Rattle.store_rule.proofs.StoreWords.StepLemmas.{on_table}

pub pin_may : (store : Store) (pass : Pass) (word : ℕ) (next : ℕ → Sight → Sight) (told : ℕ → Sight → Type 0)
    → pass.account.table_id ≡ store.accounts.table.shared.table_id
    → pass.number < store.accounts.config.passes
    → MayStore store.accounts.config pass.account ((lines store.accounts.config.passes).pin pass.number) word next told
    → pins.MayStore (IsAccountTable store.accounts.table.shared.key.config) store.accounts.table.shared.table_id pass.account
    (24 + 16 * pass.number) word
    (λ _ before n after. (after ≡ (next n before.0, before.1)) × told n before.0)
pin_may store pass word next told table inside may = record {
  table = table;
  inside = let wide = store.accounts.words in omega (arith, wide, inside);
  allows = subst (λ n. Allows (IsAccountTable store.accounts.table.shared.key.config) n pass.account.id pass.account.me
      (24 + 16 * pass.number) (λ _. word)
      (λ _ m. (m ≡ (next word pass.account.me.0, pass.account.me.1)) × told word pass.account.me.0))
      (ap (λ (t : TableId). t.slots) table)
      (on_table store.accounts.table.shared.key.config store.accounts.config store.accounts.key pass.account.table_id.slots
      pass.account.id pass.account.me (24 + 16 * pass.number) (λ _. word)
      (λ _ m. (m ≡ (next word pass.account.me.0, pass.account.me.1)) × told word pass.account.me.0) may);
}
