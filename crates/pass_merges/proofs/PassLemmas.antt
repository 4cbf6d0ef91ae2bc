-- A pass that has put back all that it took is the pass that it was.
use Rattle.std.proofs.Common.{◌≡◌, ℕ, ◌<◌, List, sym, ◌∙◌, subst}
use Rattle.std.specs.Prelude.{Some, unwrap_or}
use Rattle.graph_model.specs.Legal.{IsLegal}
use Rattle.seat_views.specs.Keeping.{kept_at}
use Rattle.pass_sweeps.specs.StoreRelation.Passes.{PassState, fresh_pass}
use Rattle.pass_sweeps.specs.RuleModel.Sight.{PinState, fresh_pin}
use Rattle.pass_sweeps.specs.PassSteps.Passes.{IsOwnSight, IsPassOf, state_of}
use Rattle.pass_moves.specs.StoreRuleDeclared.store.Pass.{Pass}
use Rattle.pass_moves.specs.StoreRuleDeclared.store.Store.{Store}
use Rattle.pass_moves.specs.PassCells.Holding.{IsLatchOf, KeepsPass}

module _ (store : Store) (old new : Pass) (kept : KeepsPass old new) where
  state_kept : state_of new ≡ state_of old
  state_kept i = unwrap_or (kept_at (kept.passes i) (kept.number i)) fresh_pass

  own_kept : IsOwnSight old.number old.account.me.0 → IsOwnSight new.number new.account.me.0
  own_kept own = record {
    has = subst (λ (x : ℕ × List (ℕ × PassState)). kept_at x.1 x.0 ≡ Some (unwrap_or (kept_at x.1 x.0) fresh_pass))
        (λ i. (sym kept.number i, sym kept.passes i)) own.has;
    pin = subst (λ (x : ℕ × List (ℕ × PinState)). kept_at x.1 x.0 ≡ Some (unwrap_or (kept_at x.1 x.0) fresh_pin))
        (λ i. (sym kept.number i, sym kept.pins i)) own.pin;
    only = λ q other. (λ i. kept_at (kept.passes i) q) ∙ own.only q (λ e. other (e ∙ sym kept.number));
    told = kept.told ∙ own.told;
    readers = kept.readers ∙ own.readers;
  }

  pub pass_kept : IsPassOf store old → IsLatchOf store new.latch
      → new.account.table_id ≡ store.accounts.table.shared.table_id → IsPassOf store new
  pass_kept of latch table = record {
    inside = subst (λ n. n < store.accounts.config.passes) (sym kept.number) of.inside;
    latch = latch;
    same = kept.latch ∙ of.same ∙ sym kept.number;
    table = table;
    slots = kept.slots ∙ of.slots;
    sight = own_kept of.sight;
    legal = subst (λ (st : PassState). IsLegal store.accounts.config.kind st.seen) (sym state_kept) of.legal;
  }
