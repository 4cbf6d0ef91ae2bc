-- What a pass is between two visits, and what a list of passes is.
use Rattle.std.proofs.Common.{◌≡◌, ◌≢◌, ℕ, zero, suc, ◌+◌, ◌<◌, List, [], ◌∷◌, ◌++◌, length, take, refl, sym}
use Rattle.std.proofs.Common.{◌∙◌, ap, subst, cond, arith}
use Rattle.std.specs.Prelude.{slice_get, slice_index_or, slice_set, Option, Some, None}
use Rattle.std.proofs.lemmas.Option.{get_or_from_slice_get, slice_get-get_or, slice_get_read, slice_get_within}
use Rattle.atomic_table.specs.Seated.{TableId}
use Rattle.latch_table.specs.Latched.{IsIdle, number_of}
use Rattle.seat_views.specs.Keeping.{kept_at}
use Rattle.seat_views.proofs.NumberLemmas.{other_number, same_number}
use Rattle.store_rule.specs.CellsModel.Cells.{CellState}
use Rattle.store_rule.specs.CellsModel.Words.{HasSmallWeights}
use Rattle.store_rule.specs.VersionSegment.Rows.{IsSameSegment, VersionedRows}
use Rattle.store_rule.specs.RuleModel.Sight.{HasCell, Sight, cells_of, with_cell}
use Rattle.store_rule.specs.StoreRelation.Passes.{fresh_pass}
use Rattle.store_rule.proofs.StoreWords.SpellLemmas.{has_now}
use Rattle.store_rule.specs.Closing.{AreBack, IsBackPass}
use Rattle.store_rule.specs.Making.{AreNewPasses, IsNewPass}
use Rattle.store_rule.specs.Passes.{OnlyAccount}
use Rattle.store_rule.specs.Slots.{FitsPlace, IsCellSlot}
use Rattle.store_rule.specs.declared.buffers.TheConstants.{MOST_UNPACKED}
use Rattle.store_rule.specs.declared.slot.Room.{Room}
use Rattle.store_rule.specs.declared.slot.StoreSlot.{StoreSlot}
use Rattle.store_rule.specs.declared.store.Pass.{Pass}
use Rattle.store_rule.specs.declared.store.Store.{Store}
use Rattle.cases_store.specs.Visits.{AreAtEase, IsAtEase, KeepsPass, StaysAtEase}

-- ---- a cell

-- weights are as small where rows are the same
pub small_same : (s t : VersionedRows) → IsSameSegment s t → HasSmallWeights s → HasSmallWeights t
small_same s t same small = subst (λ l. HasSmallWeights (record t { rows = l })) (sym same.rows) small

-- a cell is known by its number once its contents are
pub known_now : (old new : Sight) (k l : ℕ) (c : CellState) → l ≡ k → new ≡ with_cell old k c → HasCell new l c
known_now old new k l c same is = subst (λ n. HasCell new n c) (sym same) (has_now old new k c is)

-- ---- steps of a pass

-- the account seat alone has stepped
pub only_account : (old new : Pass) (sight : Sight) → OnlyAccount old new sight
    → sight.passes ≡ old.account.me.0.passes → sight.readers ≡ old.account.me.0.readers → KeepsPass old new
only_account old new sight only passes readers = record {
  buffers = λ full. only.buffers ∙ full;
  table = only.account.table;
  slots = ap (λ m. m.1) only.account.me;
  passes = (λ i. ((only.account.me i).0).passes) ∙ passes;
  readers = (λ i. ((only.account.me i).0).readers) ∙ readers;
}

pub keeps_both : (a b c : Pass) → KeepsPass a b → KeepsPass b c → KeepsPass a c
keeps_both a b c first second = record {
  buffers = λ full. second.buffers (first.buffers full);
  table = second.table ∙ first.table;
  slots = second.slots ∙ first.slots;
  passes = second.passes ∙ first.passes;
  readers = second.readers ∙ first.readers;
}

-- a pass is at ease again whose latch seat is idle
module _ (store : Store) (old mid new : Pass) (ease : IsAtEase store old) where
  abbrev pub the_room : Room
  the_room = store.latches.table.shared.key

  pub still_at_ease : KeepsPass old mid → new.buffers ≡ mid.buffers → new.account ≡ mid.account
      → IsIdle the_room.config.passes the_room store.latches.table.shared.table_id new.latch
      → number_of new.latch.me.0 ≡ number_of old.latch.me.0 → StaysAtEase store old new
  still_at_ease keeps buffers account idle number =
      let back = ease.back in
      let passes : new.account.me.0.passes ≡ old.account.me.0.passes = (λ i. (account i).me.0.passes) ∙ keeps.passes in
      record {
        ease = record {
          back = record {
            latch = idle;
            same = refl;
            account = (λ i. (account i).table_id) ∙ keeps.table ∙ back.account;
            slots = (λ i. (account i).me.1) ∙ keeps.slots ∙ back.slots;
            state = back.state;
            has = (λ i. kept_at (passes i) (number i)) ∙ back.has;
            stage = back.stage;
            stamped = back.stamped;
            only = λ q other. (λ i. kept_at (passes i) q) ∙ back.only q (λ same. other (same ∙ sym number));
            readers = (λ i. (account i).me.0.readers) ∙ keeps.readers ∙ back.readers;
          };
          buffers = buffers ∙ keeps.buffers ease.buffers;
        };
        number = number;
      }

-- ---- lists of passes

-- a new pass is one that is back
new_is_back : (made : Room) (latches accounts : TableId) (p : ℕ) (pass : Pass)
    → IsNewPass made latches accounts p pass → IsBackPass made latches accounts p pass
new_is_back made latches accounts p pass new = record {
  latch = new.latch;
  same = new.same;
  account = new.account.table_is;
  slots = ap (λ m. m.1) new.account.me;
  state = fresh_pass;
  has = (λ i. kept_at ((new.account.me i).0).passes p)
      ∙ ap (λ b. cond b (Some fresh_pass) (kept_at [] p)) (same_number p);
  stage = refl;
  stamped = refl;
  only = λ q other. (λ i. kept_at ((new.account.me i).0).passes q)
      ∙ ap (λ b. cond b (Some fresh_pass) (kept_at [] q)) (other_number q p other);
  readers = λ i. ((new.account.me i).0).readers;
}

zero_more : (p : ℕ) → 0 + p ≡ p
zero_more p = omega arith

-- the front of a list is what it begins with
pub front_of : {X : Type 0} (n : ℕ) (xs rest : List X) → n ≡ length xs → take n (xs ++ rest) ≡ xs
front_of {X} n xs rest is = ap (λ m. take m (xs ++ rest)) is ∙ whole xs
  where
    whole : (ys : List X) → take (length ys) (ys ++ rest) ≡ ys
    whole [] = refl
    whole (y ∷ ys) = ap (λ l. y ∷ l) (whole ys)

module _ (store : Store) where
  pub new_at_ease : (list : List Pass) → AreNewPasses store.latches.table.shared.key
      store.latches.table.shared.table_id store.accounts.table.shared.table_id list → AreAtEase store list
  new_at_ease list new = record {
    count = new.count ∙ (λ i. (store.same.0 i).passes);
    each = λ p pass there.
        let is = subst (λ n. IsNewPass store.latches.table.shared.key store.latches.table.shared.table_id
        store.accounts.table.shared.table_id n pass) (zero_more p) (new.new p pass there) in
        let back = new_is_back store.latches.table.shared.key store.latches.table.shared.table_id
        store.accounts.table.shared.table_id p pass is in (
          record {
            back = subst (λ n. IsBackPass store.latches.table.shared.key store.latches.table.shared.table_id
                store.accounts.table.shared.table_id n pass) (sym is.same) back;
            buffers = is.buffers;
          },
          is.same,
        );
  }

  -- passes that are at ease are back
  pub all_back : (list : List Pass) → AreAtEase store list → AreBack store list
  all_back list all = record {
    count = all.count;
    each = λ p pass there.
        let is = all.each p pass there in
        subst (λ n. IsBackPass store.latches.table.shared.key store.latches.table.shared.table_id
        store.accounts.table.shared.table_id n pass) is.1 is.0.back;
  }

  -- one of them is at ease
  pub ease_at : (list : List Pass) → AreAtEase store list → (p : ℕ) (pass : Pass) → p < length list
      → pass ≡ slice_index_or list p pass → IsAtEase store pass
  ease_at list all p pass less is = (all.each p pass (slice_get_read list (length list) p pass refl less is)).0

  -- all stay so where each does
  pub all_stay : (old new : List Pass) → AreAtEase store old → length new ≡ length old
      → ((p : ℕ) (d : Pass) → p < length old → StaysAtEase store (slice_index_or old p d) (slice_index_or new p d))
      → AreAtEase store new
  all_stay old new all same stay = record {
    count = same ∙ all.count;
    each = λ p pass there.
        let inside = slice_get_within new p pass there in
        let less : p < length old = omega (arith, inside, same) in
        let was = (all.each p (slice_index_or old p pass) (slice_get-get_or old p pass less)).1 in
        let is : slice_index_or new p pass ≡ pass = get_or_from_slice_get new p pass pass there in
        let stays : StaysAtEase store (slice_index_or old p pass) pass =
        subst (StaysAtEase store (slice_index_or old p pass)) is (stay p pass less) in
        (stays.ease, stays.number ∙ was);
  }

  -- and where the first does, and the others are left alone
  pub first_stays : (list : List Pass) (old new : Pass) → AreAtEase store list → slice_get list 0 ≡ Some old
      → StaysAtEase store old new → AreAtEase store (slice_set list 0 new)
  first_stays [] old new all there stays = cc
  first_stays (x ∷ xs) old new all there stays = record {
    count = all.count;
    each = each;
  }
    where
      same : (a b : Pass) → ◌≡◌ {A = Option Pass} (Some a) (Some b) → a ≡ b
      same a b e = cc

      each : (p : ℕ) (pass : Pass) → slice_get (new ∷ xs) p ≡ Some pass
          → IsAtEase store pass × (number_of pass.latch.me.0 ≡ p)
      each zero pass at = subst (λ (q : Pass). IsAtEase store q × (number_of q.latch.me.0 ≡ 0)) (same new pass at)
          (stays.ease, stays.number ∙ (all.each 0 old there).1)
      each (suc p) pass at = all.each (suc p) pass at

-- ---- slots

-- a packed cell with its note fits its place
pub fits_cell : (store : Store) (k : ℕ) (slot : StoreSlot) → k < cells_of store.accounts.config
    → IsCellSlot store.accounts.table.shared.table_id k slot
    → FitsPlace store.latches.table.shared.key.config store.latches.table.shared.key.seat.table_id k slot
fits_cell store k slot less is =
    let same : cells_of store.latches.table.shared.key.config ≡ cells_of store.accounts.config =
    ap cells_of store.same.0 in
    record {
      cell = λ _. subst (λ (t : TableId). IsCellSlot t k slot) (sym store.same.1) is;
      index = λ at. absurd (omega (arith, same, at, less));
      journal = λ at. absurd (omega (arith, same, at, less));
    }
