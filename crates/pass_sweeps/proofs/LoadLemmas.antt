-- What a pass may load of the clock and of pins, on the table of its store.
use Rattle.std.proofs.Common.{◌≡◌, ℕ, ◌<◌, sym, ap, subst}
use Rattle.atomic_table.specs.Seated.{TableId}
use Rattle.atomic_table.specs.Table.{Allows}
use Rattle.epoch_reclaim.specs.Steps as pins
use Rattle.pass_steps.specs.RuleModel.Sight.{Sight}
use Rattle.pass_steps.specs.StoreRuleDeclared.store.Pass.{Pass}
use Rattle.pass_steps.specs.StoreRuleDeclared.store.Store.{Store}
use Rattle.pass_steps.specs.StoreWords.Steps.{IsAccountTable, MayLoad, word_count}
use Rattle.pass_steps.proofs.StoreWords.StepLemmas.{on_table}

pub load_may : (store : Store) (pass : Pass) (place : ℕ) (next : ℕ → Sight → Sight) (told : ℕ → Sight → Type 0)
    → pass.account.table_id ≡ store.accounts.table.shared.table_id
    → place < word_count store.accounts.config
    → MayLoad store.accounts.config pass.account place next told
    → pins.MayLoad (IsAccountTable store.accounts.table.shared.key.config) store.accounts.table.shared.table_id
    pass.account place
    (λ _ before n after. (after ≡ (next n before.0, before.1)) × told n before.0)
load_may store pass place next told table inside may = record {
  table = table;
  inside = subst (λ n. place < n) (sym store.accounts.words) inside;
  allows = subst (λ n. Allows (IsAccountTable store.accounts.table.shared.key.config) n pass.account.id
      pass.account.me place (λ n. n)
      (λ n m. (m ≡ (next n pass.account.me.0, pass.account.me.1)) × told n pass.account.me.0))
      (ap (λ (t : TableId). t.slots) table)
      (on_table store.accounts.table.shared.key.config store.accounts.config store.accounts.key
      pass.account.table_id.slots pass.account.id pass.account.me place (λ n. n)
      (λ n m. (m ≡ (next n pass.account.me.0, pass.account.me.1)) × told n pass.account.me.0) may);
}
