-- A sweep of one leaf.
use Rattle.std.proofs.Common.{◌≡◌, ℕ, ◌-◌, ◌≤◌, length, refl, sym, ap, subst, arith, inl, inr}
use Rattle.std.specs.Prelude.{◌⊎◌, Bool, true, false, ◌^◌, nat_lt, min, cond, Option}
use Rattle.std.proofs.lemmas.Bool.Decides.{nat_tests}
use Rattle.graph_model.specs.declared.journal.TxnName.{TxnName}
use Rattle.graph_model.specs.declared.row.Key.{Key}
use Rattle.graph_model.specs.OwnerCalls.{Core}
use Rattle.graph_model.specs.Rows.{is_below, is_between, first_key, end_key}
use Rattle.store_model.specs.Versions.{prune}
use Rattle.txn_manager.specs.Manager.{Manager, horizon_of, IsManaged}
use Rattle.txn_manager.proofs.HorizonLemmas.{horizon_is_below, horizon_is_within, horizon_is_greatest}
use Rattle.leaf_rows.specs.LeafStore.Leaves.{Leaves, contents_of, record_count}
use Rattle.leaf_rows.specs.Laying.{AreGone, PrunesRange}
use Rattle.teseo_core.specs.Keeping.{AreTied, running_in}
use Rattle.teseo_core.specs.Sweeping.{from_first}
use Rattle.teseo_core.specs.Horizons.{IsHorizon}
use Rattle.teseo_core.proofs.OpenLemmas.{are_open}

-- the manager's horizon is that of the open transactions
pub is_horizon : (core : Core) (m : Manager) → AreTied core m → IsManaged m → IsHorizon core (horizon_of m)
is_horizon core m tied managed = record {
  within = subst (λ n. horizon_of m ≤ n) clock (horizon_is_within m managed);
  below = λ by t runs. horizon_is_below m (running_in core) (are_open core m tied) by t runs;
  greatest = λ other le each. horizon_is_greatest m (running_in core) (are_open core m tied) other (subst (λ n. other ≤ n) (sym clock) le) each;
}
  where
    clock : length m.journal ≡ length core.journal
    clock = ap length tied.journal

-- a sweep ends below the last key
pub first_within : (key : Key) → is_below (from_first key) end_key ≡ true
first_within key = go (is_below key end_key) refl
  where
    go : (t : Bool) → is_below key end_key ≡ t → is_below (cond t key first_key) end_key ≡ true
    go true e = e
    go false e = refl

-- each key has what it had, or that pruned
pub same_or_pruned : (stamps : TxnName → Option ℕ) (horizon : ℕ) (low high : Key) (old new : Leaves) → PrunesRange stamps horizon low high old new → (q : Key)
    → (contents_of new q ≡ contents_of old q) ⊎ (contents_of new q ≡ prune stamps horizon (contents_of old q))
same_or_pruned stamps horizon low high old new prunes q = go (is_between low high q) refl
  where
    go : (t : Bool) → is_between low high q ≡ t → (contents_of new q ≡ contents_of old q) ⊎ (contents_of new q ≡ prune stamps horizon (contents_of old q))
    go true e = inr (prunes.pruned q e)
    go false e = inl (prunes.others q e)

-- records went where there are fewer now
pub some_gone : (records : ℕ) (old new : Leaves) → AreGone records old new → nat_lt 0 records ≡ nat_lt (record_count new) (record_count old)
some_gone records old new gone = go (nat_lt 0 records) refl (nat_lt (record_count new) (record_count old)) refl
  where
    count : records ≡ min (record_count old - record_count new) (2 ^ 64 - 1)
    count = gone.count

    go : (t : Bool) → nat_lt 0 records ≡ t → (u : Bool) → nat_lt (record_count new) (record_count old) ≡ u → t ≡ u
    go true e true f = refl
    go true e false f = grind (arith, nat_tests, count)
    go false e true f = grind (arith, nat_tests, count)
    go false e false f = refl
