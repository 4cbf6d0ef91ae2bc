-- A pass that has seen what another has told it has no transaction still.
use Rattle.std.proofs.Common.{◌≡◌, ℕ, List, [], length, refl, sym, ◌∙◌, ap, subst, cond}
use Rattle.std.specs.Prelude.{Bool, true, false, nat_le, Some}
use Rattle.graph_model.specs.declared.write.Kind.{Kind}
use Rattle.graph_model.specs.declared.journal.Commit.{Commit}
use Rattle.graph_model.specs.Legal.{IsLegal}
use Rattle.store_rule.specs.StoreRelation.Passes.{PassState}
use Rattle.store_rule.specs.StoreRelation.Shared.{longer_of}
use Rattle.store_rule.specs.StoreRelation.Steps.{refreshed}
use Rattle.store_rule.proofs.StoreRelation.EndLemmas.{new_shared}
use Rattle.store_rule.specs.RuleModel.Sight.{PinState, Sight, no_sight}
use Rattle.store_rule.specs.RuleModel.ViewSteps.{joined}
use Rattle.store_rule.specs.Passes.{OnlyAccount}
use Rattle.store_rule.specs.declared.store.Pass.{Pass}
use Rattle.store_rule.specs.declared.store.Store.{Store}
use Rattle.pass_steps.specs.Asking.{lent_part}
use Rattle.pass_steps.specs.Passes.{HasNoTxn, IsIdlePass, IsOwnSight, pin_in, state_in}
use Rattle.pass_steps.specs.Txns.{told_seen, told_with}
use Rattle.pass_steps.proofs.PassLemmas.{none_after, pass_after, pin_is, state_is}
use Rattle.pass_steps.proofs.SightLemmas.{kept_else, kept_here, state_here}

legal_longer : (kind : Kind) (a b : List Commit) → IsLegal kind a → IsLegal kind b → IsLegal kind (longer_of a b)
legal_longer kind a b first then = by_test (nat_le (length a) (length b))
  where
    by_test : (t : Bool) → IsLegal kind (cond t b a)
    by_test true = then
    by_test false = first

-- what the pass knows in the end
abbrev pub met_sight : ℕ → Sight → List Commit → Sight
met_sight p v seen = lent_part (told_seen p (joined v (record no_sight { told = seen })))

pub met_idle : (store : Store) (old new : Pass) (seen : List Commit) → IsIdlePass store old
    → IsLegal store.accounts.config.kind seen
    → OnlyAccount old new (met_sight old.number old.account.me.0 seen) → IsIdlePass store new
met_idle store old new seen idle legal step =
    let v = old.account.me.0 in
    let p = old.number in
    let own = idle.of.sight in
    let u : Sight = joined v (record no_sight { told = seen }) in
    let all : List Commit = told_with p u in
    let st : PassState = refreshed (state_in v p) all in
    let v' = met_sight p v seen in
    let here : state_in v' p ≡ st = state_here u p st [] in
    let own' : IsOwnSight p v' = record {
      has = kept_here v.passes p st ∙ ap Some (sym here);
      pin = own.pin;
      only = λ q other. kept_else v.passes p st q other ∙ own.only q other;
      told = refl;
      readers = refl;
    } in
    let told : IsLegal store.accounts.config.kind all =
    legal_longer store.accounts.config.kind (state_in v p).seen (longer_of v.told seen) idle.of.legal
    (legal_longer store.accounts.config.kind v.told seen
    (subst (IsLegal store.accounts.config.kind) (sym own.told) (new_shared store.accounts.config).store.transactions.legal)
    legal) in
    let old_txn = idle.idle in
    let txn : HasNoTxn st (pin_in v p) = record {
      ended = record {
        stage = old_txn.ended.stage;
        own = old_txn.ended.own;
        laid = old_txn.ended.laid;
        alone = old_txn.ended.alone;
      };
      stamped = old_txn.stamped;
      unannounced = old_txn.unannounced;
      unnoted = old_txn.unnoted;
    } in
    record {
      of = pass_after store old new v' step idle.of own'
          (subst (λ (w : PassState). IsLegal store.accounts.config.kind w.seen) (sym here) told);
      none = none_after store old new v' step idle.none (record {
        cells = idle.none.contents.cells;
        indexes = idle.none.contents.indexes;
        journals = idle.none.contents.journals;
      });
      idle = subst (λ (w : PassState × PinState). HasNoTxn w.0 w.1)
          (λ i. (sym (state_is store old new v' step ∙ here) i, sym (pin_is store old new v' step) i)) txn;
    }
