-- Passes of a store that begins with a load have no transaction, and hold no cell.
use Rattle.std.proofs.Common.{◌≡◌, ◌≢◌, ℕ, List, [], refl, sym, ◌∙◌, ap, subst, cond}
use Rattle.std.specs.Prelude.{slice_get, Some}
use Rattle.graph_model.specs.declared.write.Write.{Write}
use Rattle.seat_views.specs.Keeping.{kept_at}
use Rattle.seat_views.proofs.NumberLemmas.{other_number, same_number}
use Rattle.cases_store.specs.StoreRelation.Loads.{loaded_pass}
use Rattle.cases_store.specs.StoreRule.Closing.{IsBackPass}
use Rattle.cases_store.specs.StoreRule.Making.{AreLoadedPasses, IsFirstPass}
use Rattle.cases_store.specs.StoreRuleDeclared.store.Pass.{Pass}
use Rattle.cases_store.specs.StoreRuleDeclared.store.Store.{Store}
use Rattle.cases_store.specs.Visits.{AreAtEase}

module _ (store : Store) (load : List Write) where
  -- one of them is back
  is_back : (p : ℕ) (pass : Pass)
      → IsFirstPass store.latches.table.shared.key store.latches.table.shared.table_id
      store.accounts.table.shared.table_id p (loaded_pass load p) pass
      → IsBackPass store.latches.table.shared.key store.latches.table.shared.table_id
      store.accounts.table.shared.table_id p pass
  is_back p pass is = record {
    latch = is.latch;
    same = is.same;
    account = is.account.table_is;
    slots = ap (λ m. m.1) is.account.me;
    state = loaded_pass load p;
    has = (λ i. kept_at ((is.account.me i).0).passes p)
        ∙ ap (λ b. cond b (Some (loaded_pass load p)) (kept_at [] p)) (same_number p);
    stage = refl;
    stamped = refl;
    only = λ q other. (λ i. kept_at ((is.account.me i).0).passes q)
        ∙ ap (λ b. cond b (Some (loaded_pass load p)) (kept_at [] q)) (other_number q p other);
    readers = λ i. ((is.account.me i).0).readers;
  }

  -- and so are all
  pub loaded_at_ease : (list : List Pass) → AreLoadedPasses load store.latches.table.shared.key
      store.latches.table.shared.table_id store.accounts.table.shared.table_id list → AreAtEase store list
  loaded_at_ease list all = record {
    count = all.count ∙ (λ i. (store.same.0 i).passes);
    each = λ p pass there.
        let is = all.each p pass there in (
          record {
            back = subst (λ n. IsBackPass store.latches.table.shared.key store.latches.table.shared.table_id
                store.accounts.table.shared.table_id n pass) (sym is.same) (is_back p pass is);
            buffers = is.buffers;
          },
          is.same,
        );
  }
