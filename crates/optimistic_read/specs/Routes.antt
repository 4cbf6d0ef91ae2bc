-- Leaves that a pass notes.
use Rattle.std.specs.Prelude.{◌≡◌, ℕ, true, false, ◌∷◌, None}
use Rattle.pass_steps.specs.CellsModel.Indexed.{is_live}
use Rattle.pass_steps.specs.RuleModel.Sight.{HasIndex, HasPin, IndexState, PinState}
use Rattle.pass_steps.specs.StoreRuleDeclared.store.Pass.{Pass}
use Rattle.pass_steps.specs.StoreRuleDeclared.store.Store.{Store}
use Rattle.pass_steps.specs.Passes.{pin_of}

-- this leaf was noted
abbrev pub noting : PinState → ℕ → PinState
noting x leaf = record x { noted = leaf ∷ x.noted }

-- the pass is pinned, and has the index, under which nobody sweeps and the leaf is live
pub record MayNote (store : Store) (pass : Pass) (leaf : ℕ) : Type 0 where
  pub table : pass.account.table_id ≡ store.accounts.table.shared.table_id
  pub pin : HasPin pass.account.me.0 pass.number (pin_of pass)
  pub pinned : (pin_of pass).announced ≡ false
  pub index : IndexState
  pub has : HasIndex pass.account.me.0 index
  pub alone : index.sweeper ≡ None
  pub live : is_live index.index leaf ≡ true
