-- What a prune of the cells in hand leaves of them.
use Rattle.std.proofs.Common.{◌≡◌, ℕ, ◌≤◌, List, [], ◌∷◌, length, refl, sym, ◌∙◌, ap, subst, cond, arith, inl, inr}
use Rattle.std.specs.Prelude.{Bool, true, false, Option, Some}
use Rattle.epoch_reclaim.specs.declared.sweep.Sweep.{Sweep}
use Rattle.epoch_reclaim.specs.Pinned.{horizon_of}
use Rattle.graph_model.specs.declared.journal.TxnName.{TxnName}
use Rattle.graph_model.specs.Rows.{first_key}
use Rattle.txn_manager.specs.declared.config.Config.{Config}
use Rattle.store_model.specs.Stamped.{prune_stamped}
use Rattle.pass_cells.specs.VersionSegment.Rows.{VersionedRows, versions_at}
use Rattle.pass_cells.proofs.VersionSegment.LawLemmas.{keys_pruned}
use Rattle.pass_cells.specs.StoreRelation.Passes.{PassState}
use Rattle.pass_cells.specs.CellsModel.Indexed.{covers}
use Rattle.pass_cells.specs.CellsModel.Words.{HasSmallWeights}
use Rattle.pass_cells.specs.RuleModel.Sight.{HasPass, HasPin, PinState, Sight}
use Rattle.seat_views.specs.Keeping.{kept_at}
use Rattle.pass_cells.specs.StoreRuleDeclared.store.Pass.{Pass}
use Rattle.pass_cells.specs.StoreRuleDeclared.store.Store.{Store}
use Rattle.pass_cells.specs.declared.taken.TakenCell.{TakenCell}
use Rattle.pass_cells.specs.Changes.{news_of}
use Rattle.pass_cells.specs.Holding.{AreKnown, Holds, IsLatchOf}
use Rattle.pass_cells.specs.Taken.{AreApart, AreFrom, KeepsCell, KeepCells, cell_at, counted, rows_come}
use Rattle.pass_cells.proofs.AfterLemmas.{cell_counted, known_in, rows_change}
use Rattle.pass_cells.proofs.CellLemmas.{IsAmong, covers_same}
use Rattle.pass_cells.proofs.StepLemmas.{all_changes, apart_kept, grows}
use Rattle.pass_sweeps.specs.Pruning.{stamps_seen}
use Rattle.pass_sweeps.specs.SweepLaws.{CanPruneSeen}
use Rattle.pass_sweeps.proofs.PruneLemmas.{pruned_small, rows_fewer}
use Rattle.pass_prunes.specs.Pruned.{ArePruned, IsPrunedCell, KeepsHand, PrunesVersions}

module _ (stamps : TxnName → Option ℕ) (horizon : ℕ) where
  keeps_pruned : (t u : TakenCell) → IsPrunedCell stamps horizon t u → KeepsCell t u
  keeps_pruned t u is = record {
    cell = is.cell;
    rows = is.rows;
    low = is.pruned.low;
    high = is.pruned.high;
    sound = λ _. is.sound;
    unmarked = λ e. marked u.held.changed is.marked e;
    same = λ e. marked u.words_changed is.changed e;
  }
    where
      marked : {P : Type 0} → (b : Bool) → b ≡ true → b ≡ false → P
      marked b is e = let clash : true ≡ false = sym is ∙ e in cc

  -- they are the same cells
  pub keep_pruned : (ts us : List TakenCell) → ArePruned stamps horizon ts us → KeepCells ts us
  keep_pruned [] [] are = tt
  keep_pruned (t ∷ ts) (u ∷ us) are = (keeps_pruned t u are.0, keep_pruned ts us are.1)
  keep_pruned [] (u ∷ us) are = are
  keep_pruned (t ∷ ts) [] are = are

  -- each row is what a prune makes of it
  pub versions_pruned : (z : Config) (v : Sight) (ts us : List TakenCell) → AreKnown z v ts
      → ArePruned stamps horizon ts us → PrunesVersions stamps horizon ts us
  versions_pruned z v [] [] known are q = refl
  versions_pruned z v (t ∷ ts) (u ∷ us) known are q =
      go (covers t.held.value q) (covers u.held.value q)
      (covers_same u.held.value t.held.value are.0.pruned.low are.0.pruned.high q)
      (versions_pruned z v ts us known.1 are.1 q)
    where
      go : (b c : Bool) → c ≡ b → versions_at (cell_at us q) q ≡ prune_stamped stamps horizon (versions_at (cell_at ts q) q)
          → versions_at (cond c u.held.value (cell_at us q)) q
          ≡ prune_stamped stamps horizon (versions_at (cond b t.held.value (cell_at ts q)) q)
      go true true same rest = keys_pruned stamps horizon t.held.value u.held.value known.0.sound are.0.pruned q
      go true false same rest = cc
      go false true same rest = cc
      go false false same rest = rest
  versions_pruned z v [] (u ∷ us) known are q = absurd are
  versions_pruned z v (t ∷ ts) [] known are q = absurd are

  -- no row has come
  pub none_come : (z : Config) (v : Sight) (ts us : List TakenCell) → AreKnown z v ts → ArePruned stamps horizon ts us
      → rows_come us ≤ 0
  none_come z v [] [] known are = omega arith
  none_come z v (t ∷ ts) (u ∷ us) known are =
      let rest = none_come z v ts us known.1 are.1 in
      let few = (rows_fewer stamps horizon t.held.value.rows).1 in
      let new = ap length are.0.pruned.rows in
      let count = known.0.count in
      let same = are.0.rows in
      omega (arith, rest, few, new, count, same)
  none_come z v [] (u ∷ us) known are = absurd are
  none_come z v (t ∷ ts) [] known are = absurd are

  -- values that may be stored
  pub small_pruned : (z : Config) (v : Sight) (ts us : List TakenCell) → AreKnown z v ts
      → ArePruned stamps horizon ts us → (u : TakenCell) → IsAmong u us → HasSmallWeights u.held.value
  small_pruned z v [] [] known are u among = absurd among
  small_pruned z v (t ∷ ts) (x ∷ us) known are u (inl same) =
      subst (λ (y : TakenCell). HasSmallWeights y.held.value) same
      (pruned_small stamps horizon t.held.value x.held.value are.0.pruned known.0.small)
  small_pruned z v (t ∷ ts) (x ∷ us) known are u (inr among) = small_pruned z v ts us known.1 are.1 u among
  small_pruned z v [] (x ∷ us) known are u among = absurd are
  small_pruned z v (t ∷ ts) [] known are u among = absurd are

-- the view may know them
pub can_prune_all : (z : Config) (v : Sight) (p : ℕ) (st : PassState) (x : PinState) (sweep : Sweep)
    (ts us : List TakenCell) → HasPass v p st → HasPin v p x → x.sweep ≡ Some sweep → sweep.looked ≡ z.passes
    → horizon_of sweep ≤ length st.seen → AreKnown z v ts → AreApart ts → AreFrom first_key ts
    → ArePruned (stamps_seen st) (horizon_of sweep) ts us → CanPruneSeen z v p st x sweep (news_of v us)
can_prune_all z v p st x sweep ts us has pin sweeps whole seen known apart rising are =
    let stamps = stamps_seen st in
    let horizon = horizon_of sweep in
    let kept = keep_pruned stamps horizon ts us are in
    let versions = versions_pruned stamps horizon z v ts us known are in
    record {
      has = has;
      pin = pin;
      sweeps = sweeps;
      whole = omega (arith, whole);
      seen = seen;
      changes = all_changes z v first_key ts us known kept rising;
      rows = rows_change z v ts us known kept rising (λ q a b. b ≡ prune_stamped stamps horizon a)
          (λ q e. versions q);
      grows = λ cell agrees.
          let count = grows z v cell agrees ts us known kept (apart_kept ts us kept apart) in
          let none = none_come stamps horizon z v ts us known are in omega (arith, count, none);
    }

-- what is counted are the same rows
pub counted_versions : (stamps : TxnName → Option ℕ) (horizon : ℕ) (ts us : List TakenCell)
    → PrunesVersions stamps horizon ts us → PrunesVersions stamps horizon ts (counted us)
counted_versions stamps horizon ts us versions q =
    ap (λ (s : VersionedRows). versions_at s q) (cell_counted us q) ∙ versions q

-- ---- the hand

-- a pass whose cells are as they were has them in hand still
pub hand_kept : (store : Store) (old new : Pass) (ts : List TakenCell) → Holds store old ts → KeepsHand old new
    → Holds store new ts
hand_kept store old new ts holds hand =
    let has = holds.taken in
    record {
      taken = record {
        latch = subst (IsLatchOf store) (sym hand.latch) has.latch;
        out = (λ i. (hand.latch i).me.1) ∙ has.out;
        table = hand.table ∙ has.table;
        known = known_in store.accounts.config old.account.me.0 new.account.me.0 hand.cells ts has.known;
        only = λ k c h. has.only k c ((λ i. kept_at (sym hand.cells i) k) ∙ h);
        apart = has.apart;
        few = has.few;
        buffers = let same = hand.buffers in let room = has.buffers in omega (arith, same, room);
        no_index = hand.indexes ∙ has.no_index;
      };
      rising = holds.rising;
    }
