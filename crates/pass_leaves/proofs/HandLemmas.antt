-- All that is in hand, once it is taken and before it is given back.
use Rattle.std.proofs.Common.{◌≡◌, ℕ, List, [], ◌∷◌, refl, sym, ◌∙◌, ap, subst, arith}
use Rattle.std.specs.declared.alloc.Global.{Global}
use Rattle.std.specs.declared.boxed.Box.{Box}
use Rattle.atomic_table.specs.declared.shared.Seat.{Seat}
use Rattle.txn_manager.specs.declared.config.Config.{Config}
use Rattle.latch_table.specs.declared.cells.Held.{Held}
use Rattle.latch_table.specs.declared.sight.LatchSight.{LatchSight}
use Rattle.latch_table.specs.Several.{taken_of}
use Rattle.leaf_index.specs.declared.index.LeafIndex.{LeafIndex}
use Rattle.seat_views.specs.Keeping.{kept_at}
use Rattle.pass_cells.specs.RuleModel.Sight.{HasCell, Sight}
use Rattle.pass_cells.specs.StoreWords.Notes.{without_index}
use Rattle.pass_cells.specs.StoreRule.Passes.{OnlyAccount}
use Rattle.pass_cells.specs.StoreRuleDeclared.slot.Room.{Room}
use Rattle.pass_cells.specs.StoreRuleDeclared.slot.StoreSlot.{StoreSlot}
use Rattle.pass_cells.specs.StoreRuleDeclared.slot.StoreSlot.TheVariants as slots
use Rattle.pass_cells.specs.StoreRuleDeclared.store.Pass.{Pass}
use Rattle.pass_cells.specs.StoreRuleDeclared.store.Store.{Store}
use Rattle.pass_cells.specs.declared.taken.TakenCell.{TakenCell}
use Rattle.pass_cells.specs.Holding.{AreKnown, IsKnown, IsLatchOf, IsPutting, numbers_of, slots_out}
use Rattle.pass_cells.proofs.DoneLemmas.{none_behind}
use Rattle.pass_cells.proofs.PutLemmas.{out_of_packed}
use Rattle.pass_leaves.specs.Hand.{HasIndexHeld, HoldsLeaves, IsUnpacking, cells_of_leaves, numbers_held}
use Rattle.pass_leaves.proofs.IndexLemmas.{index_gone}
use Rattle.pass_leaves.proofs.UnpackLemmas.{keeps_itself}

-- what a view knows of the index goes by its indexes alone
pub index_stays : (z : Config) (v w : Sight) (index : Held (Box LeafIndex Global)) → w.indexes ≡ v.indexes
    → HasIndexHeld z v index → HasIndexHeld z w index
index_stays z v w index same held = record {
  place = held.place;
  state = held.state;
  has = ap (λ es. kept_at es 0) same ∙ held.has;
  same = held.same;
  alone = held.alone;
  only = λ k y e. held.only k y (sym (ap (λ es. kept_at es k) same) ∙ e);
}

-- ---- taken

pub holds_taken : (store : Store) (mid un new : Pass) (leaves : List ℕ) (packed : List (Held StoreSlot))
    (ts : List TakenCell) (index : Held (Box LeafIndex Global)) → IsLatchOf store mid.latch
    → mid.latch.me.1 ≡ (index.cell, slots.Out) ∷ taken_of slots.Out packed
    → numbers_held packed ≡ cells_of_leaves leaves → IsUnpacking store mid un packed [] ts
    → HasIndexHeld store.accounts.config mid.account.me.0 index → OnlyAccount un new un.account.me.0
    → HoldsLeaves store new leaves ts index
holds_taken store mid un new leaves packed ts index latch out are unpacking held learnt =
    let numbers : numbers_of ts ≡ numbers_held packed = sym (none_behind (numbers_of ts)) ∙ unpacking.numbers in
    let same = learnt.latch ∙ unpacking.latch in
    let sight : new.account.me.0 ≡ un.account.me.0 = ap (λ m. m.0) learnt.account.me in
    record {
      numbers = numbers ∙ are;
      latch = subst (IsLatchOf store) (sym same) latch;
      out = ap (λ (s : Seat StoreSlot (LatchSight Room)). s.me.1) same ∙ out
          ∙ ap (λ l. (index.cell, slots.Out) ∷ l) (out_of_packed packed ∙ ap slots_out (sym numbers));
      table = learnt.account.table ∙ unpacking.table;
      known = subst (λ x. AreKnown store.accounts.config x ts) (sym sight) unpacking.known;
      only = λ k c h. unpacking.only k c (subst (λ x. HasCell x k c) sight h);
      apart = unpacking.apart;
      buffers = let lent = learnt.buffers in let room = unpacking.buffers in omega (arith, lent, room);
      index_held = index_stays store.accounts.config mid.account.me.0 new.account.me.0 index
          (ap (λ (x : Sight). x.indexes) sight ∙ unpacking.indexes) held;
    }

-- ---- given back

-- cells are known as before where only the index has gone
known_less : (z : Config) (v : Sight) (ts : List TakenCell) → AreKnown z v ts → AreKnown z (without_index v) ts
known_less z v [] known = tt
known_less z v (t ∷ ts) known = (one t known.0, known_less z v ts known.1)
  where
    one : (t : TakenCell) → IsKnown z v t → IsKnown z (without_index v) t
    one t k = record {
      state = k.state;
      has = k.has;
      inside = k.inside;
      unpacked = k.unpacked;
      wide = k.wide;
      same = k.same;
      sound = k.sound;
      small = k.small;
      untouched = k.untouched;
      count = k.count;
    }

-- once the index is given back the pass has the latches of the cells alone
pub putting_all : (store : Store) (old mid : Pass) (latch : Seat StoreSlot (LatchSight Room))
    (leaves : List ℕ) (ts : List TakenCell)
    (index : Held (Box LeafIndex Global)) → HoldsLeaves store old leaves ts index
    → OnlyAccount old mid (without_index old.account.me.0)
    → IsPutting store (record mid { latch = latch }) (record mid { latch = latch }) ts ts []
putting_all store old mid latch leaves ts index holds left =
    let sight : mid.account.me.0 ≡ without_index old.account.me.0 = ap (λ m. m.0) left.account.me in
    record {
      kept = keeps_itself (record mid { latch = latch });
      latch = refl;
      table = left.account.table ∙ holds.table;
      numbers = refl;
      fit = tt;
      known = subst (λ x. AreKnown store.accounts.config x ts) (sym sight)
          (known_less store.accounts.config old.account.me.0 ts holds.known);
      only = λ k c h. holds.only k c (subst (λ x. HasCell x k c) sight h);
      apart = holds.apart;
      buffers = let lent = left.buffers in let room = holds.buffers in omega (arith, lent, room);
      no_index = ap (λ (x : Sight). x.indexes) sight
          ∙ index_gone store.accounts.config old.account.me.0 index holds.index_held;
    }
