-- What a pass has in hand once a step has made its view know that rows have moved.
use Rattle.std.proofs.Common.{◌≡◌, inl, inr, ℕ, suc, ◌<◌, List, [], ◌∷◌, length, refl, sym, ◌∙◌, ap, subst, cond, arith, Some, None}
use Rattle.std.specs.Prelude.{Bool, true, false, ◌==◌, ◌||◌, unwrap_or}
use Rattle.std.specs.List.{AllByRecursion}
use Rattle.std.specs.declared.alloc.Global.{Global}
use Rattle.std.specs.declared.boxed.Box.{Box}
use Rattle.atomic_table.specs.declared.shared.Seat.{Seat}
use Rattle.txn_manager.specs.declared.config.Config.{Config}
use Rattle.latch_table.specs.declared.cells.Held.{Held}
use Rattle.latch_table.specs.declared.sight.LatchSight.{LatchSight}
use Rattle.latch_table.specs.Latched.{number_of}
use Rattle.leaf_index.specs.Index.{Index}
use Rattle.leaf_index.specs.Calls.{new_index}
use Rattle.leaf_index.specs.declared.index.LeafIndex.{LeafIndex}
use Rattle.seat_views.specs.Keeping.{kept_at, revised}
use Rattle.seat_views.proofs.NumberLemmas.{eq_of, kept-append, none_or_some, revised-none, revised-some, some_is}
use Rattle.pass_leaves.specs.CellsModel.Cells.{CellState}
use Rattle.pass_leaves.specs.CellsModel.InPlace.{segment_of}
use Rattle.pass_leaves.specs.CellsModel.Words.{HasSmallWeights}
use Rattle.pass_leaves.specs.VersionSegment.Rows.{VersionedRows, IsSameSegment, IsSegment}
use Rattle.pass_leaves.specs.LeafArray.Segments.{AreSame}
use Rattle.pass_leaves.specs.RuleModel.MoveSteps.{IsMove}
use Rattle.pass_leaves.specs.RuleModel.Sight.{Agrees, HasCell, HasIndex, IndexState, Sight, cells_of}
use Rattle.pass_leaves.specs.StoreRule.Passes.{OnlyAccount}
use Rattle.pass_leaves.specs.StoreRuleDeclared.slot.Room.{Room}
use Rattle.pass_leaves.specs.StoreRuleDeclared.slot.StoreSlot.{StoreSlot}
use Rattle.pass_leaves.specs.StoreRuleDeclared.slot.StoreSlot.TheVariants as slots
use Rattle.pass_leaves.specs.StoreRuleDeclared.store.Pass.{Pass}
use Rattle.pass_leaves.specs.StoreRuleDeclared.store.Store.{Store}
use Rattle.pass_leaves.specs.PassCellsDeclared.taken.TakenCell.{TakenCell}
use Rattle.pass_leaves.specs.PassCells.Changes.{news_of}
use Rattle.pass_leaves.specs.PassCells.Holding.{AreKnown, IsLatchOf, KeepsPass, numbers_of, slots_out}
use Rattle.pass_leaves.specs.PassCells.Taken.{AreApart, counted, is_taken}
use Rattle.pass_leaves.proofs.PassCells.StepLemmas.{news_taken}
use Rattle.pass_leaves.specs.Fit.{FitTogether, TellsFit}
use Rattle.pass_leaves.specs.Hand.{HasIndexHeld, HoldsLeaves}
use Rattle.pass_moves.specs.Moving.{HavePut, MoveCells, values_of}
use Rattle.pass_moves.specs.Spreading.{KeepsContents, index_of, moved}
use Rattle.pass_moves.proofs.MovedCells.{have_news, known_after}
use Rattle.pass_moves.proofs.SpreadLemmas.{apart_moved, length_moved, numbers_moved, taken_moved}

-- ---- all rows that are there are known

taken_counted : (k : ℕ) (ts : List TakenCell) → is_taken k (counted ts) ≡ is_taken k ts
taken_counted k [] = refl
taken_counted k (t ∷ ts) = ap (λ b. (k == t.held.cell) || b) (taken_counted k ts)

apart_counted : (ts : List TakenCell) → AreApart ts → AreApart (counted ts)
apart_counted [] apart = tt
apart_counted (t ∷ ts) apart = (taken_counted t.held.cell ts ∙ apart.0, apart_counted ts apart.1)

numbers_counted : (ts : List TakenCell) → numbers_of (counted ts) ≡ numbers_of ts
numbers_counted [] = refl
numbers_counted (t ∷ ts) = ap (λ ks. t.held.cell ∷ ks) (numbers_counted ts)

pub length_counted : (ts : List TakenCell) → length (counted ts) ≡ length ts
length_counted [] = refl
length_counted (t ∷ ts) = ap suc (length_counted ts)

-- ---- the index

pub index_is : (z : Config) (v : Sight) (index : Held (Box LeafIndex Global)) → (held : HasIndexHeld z v index)
    → index_of v ≡ held.state
index_is z v index held = ap (λ o. unwrap_or o (record { index = new_index 1; sweeper = None })) held.has

only_first : (y : IndexState) (es : List (ℕ × IndexState)) → ((k : ℕ) (x : IndexState) → kept_at es k ≡ Some x → k ≡ 0)
    → (k : ℕ) (x : IndexState) → kept_at ((0, y) ∷ es) k ≡ Some x → k ≡ 0
only_first y es only k x e = by_test (k == 0) refl e
  where
    by_test : (b : Bool) → (k == 0) ≡ b → cond b (Some y) (kept_at es k) ≡ Some x → k ≡ 0
    by_test true is e = eq_of k 0 is
    by_test false is e = only k x e

-- ---- after the step

module _ (store : Store) (old new : Pass) (leaves : List ℕ) (ts us : List TakenCell)
    (before behind : Held (Box LeafIndex Global)) (index : Index) (holds : HoldsLeaves store old leaves ts before)
    (moves : MoveCells ts us) (step : OnlyAccount old new (moved old.account.me.0 index us))
    (place : behind.cell ≡ before.cell) (same : behind.value.value ≡ index) where
  abbrev v : Sight
  v = old.account.me.0

  sight : new.account.me.0 ≡ moved old.account.me.0 index us
  sight = ap (λ m. m.0) step.account.me

  shows : (k : ℕ) (d : CellState) → kept_at (news_of v us) k ≡ Some d → HasCell (moved v index us) k d
  shows k d e = (kept-append (news_of v us) v.cells k).1 d e

  apart' : AreApart us
  apart' = apart_moved ts us moves holds.apart

  only : (k : ℕ) (c : CellState) → HasCell (moved v index us) k c → is_taken k (counted us) ≡ true
  only k c has = taken_counted k us ∙ (elim (none_or_some (kept_at (news_of v us) k)) as (λ _. is_taken k us ≡ true) [
    | inl none ↦ taken_moved k ts us moves
        ∙ holds.only k c (sym ((kept-append (news_of v us) v.cells k).0 none) ∙ has)
    | inr some ↦ news_taken store.accounts.config v k us some.0 some.1
  ])

  numbers : numbers_of (counted us) ≡ numbers_of ts
  numbers = numbers_counted us ∙ numbers_moved ts us moves

  pub holds_moved : HoldsLeaves store new leaves (counted us) behind
  holds_moved = record {
    numbers = numbers ∙ holds.numbers;
    latch = subst (IsLatchOf store) (sym step.latch) holds.latch;
    out = ap (λ (s : Seat StoreSlot (LatchSight Room)). s.me.1) step.latch ∙ holds.out
        ∙ (λ i. (sym place i, slots.Out) ∷ slots_out (sym numbers i));
    table = step.account.table ∙ holds.table;
    known = subst (λ x. AreKnown store.accounts.config x (counted us)) (sym sight)
        (known_after store.accounts.config v (moved v index us) us ts us shows (have_news v us apart') holds.known moves);
    only = λ k c has. only k c (subst (λ x. HasCell x k c) sight has);
    apart = apart_counted us apart';
    buffers = let e = length_counted us ∙ length_moved ts us moves in let lent = step.buffers in let room =
        holds.buffers in omega (arith, e, lent, room);
    index_held = subst (λ x. HasIndexHeld store.accounts.config x behind) (sym sight) (record {
      place = place ∙ holds.index_held.place;
      state = record (index_of v) { index = index };
      has = refl;
      same = same;
      alone = ap (λ (y : IndexState). y.sweeper) (index_is store.accounts.config v before holds.index_held)
          ∙ holds.index_held.alone;
      only = only_first (record (index_of v) { index = index }) v.indexes holds.index_held.only;
    });
  }

  pub holds_moved_as : (cs : List TakenCell) → cs ≡ counted us → HoldsLeaves store new leaves cs behind
  holds_moved_as cs is = subst (λ (x : List TakenCell). HoldsLeaves store new leaves x behind) (sym is) holds_moved

  pub keeps_moved : KeepsPass old new
  keeps_moved = record {
    number = step.number;
    latch = ap (λ (s : Seat StoreSlot (LatchSight Room)). number_of s.me.0) step.latch;
    slots = ap (λ m. m.1) step.account.me;
    passes = ap (λ (x : Sight). x.passes) sight;
    pins = ap (λ (x : Sight). x.pins) sight;
    journals = ap (λ (x : Sight). x.journals) sight;
    told = ap (λ (x : Sight). x.told) sight;
    readers = ap (λ (x : Sight). x.readers) sight;
    reads = ap (λ (x : Sight). x.reads) sight;
  }

  -- the index fits all cells still
  module _ (fit : FitTogether store.accounts.config v holds.index_held.state) (stamp : ℕ)
      (move : IsMove fit.heap holds.index_held.state.index index stamp (segment_of fit.cell)
      (segment_of (revised fit.cell (news_of v us)))) where
    agrees' : Agrees (moved v index us) (revised fit.cell (news_of v us))
    agrees' k c has = elim (none_or_some (kept_at (news_of v us) k))
        as (λ _. revised fit.cell (news_of v us) k ≡ c) [
          | inl none ↦ revised-none fit.cell (news_of v us) k none
              ∙ fit.agrees k c (sym ((kept-append (news_of v us) v.cells k).0 none) ∙ has)
          | inr some ↦ revised-some fit.cell (news_of v us) k some.0 some.1
              ∙ some_is some.0 c (sym ((kept-append (news_of v us) v.cells k).1 some.0 some.1) ∙ has)
        ]

    pub fits_moved : TellsFit store.accounts.config new.account.me.0
    fits_moved y has =
        let is : record (index_of v) { index = index } ≡ y =
        some_is (record (index_of v) { index = index }) y (subst (λ x. HasIndex x y) sight has) in
        subst (FitTogether store.accounts.config new.account.me.0) is (record {
          heap = fit.heap;
          cell = revised fit.cell (news_of v us);
          agrees = λ k c h. agrees' k c (subst (λ x. HasCell x k c) sight h);
          indexed = move.indexed;
          leaves = move.keeps.limit ∙ fit.leaves;
        })

-- ---- contents that are the same but for room

kept_moves : (z : Config) (v : Sight) (ts : List TakenCell) (ns : List VersionedRows) (us : List TakenCell)
    → AreKnown z v ts → HavePut ts ns us → AreSame (values_of ts) ns → AllByRecursion IsSegment ns → MoveCells ts us
kept_moves z v [] [] [] known put same sound = tt
kept_moves z v (t ∷ ts) (n ∷ ns) (u ∷ us) known put same sound = (
  record {
    cell = put.0.cell;
    sound = subst IsSegment (sym put.0.value) sound.0;
    small = subst HasSmallWeights (sym put.0.value)
        (subst (λ l. HasSmallWeights (record n { rows = l })) (sym same.0.rows) known.0.small);
    unmarked = λ e. (sym put.0.value_mark ∙ e, subst (IsSameSegment t.held.value) (sym put.0.value) same.0);
    same = λ e. (sym put.0.mark ∙ e, subst (IsSameSegment t.held.value) (sym put.0.value) same.0);
  },
  kept_moves z v ts ns us known.1 put.1 same.1 sound.1,
)
kept_moves z v [] [] (u ∷ us) known put same sound = absurd put
kept_moves z v [] (n ∷ ns) us known put same sound = absurd put
kept_moves z v (t ∷ ts) [] us known put same sound = absurd put
kept_moves z v (t ∷ ts) (n ∷ ns) [] known put same sound = absurd put

kept_known : (z : Config) (v : Sight) (ts : List TakenCell) (ns : List VersionedRows) (us : List TakenCell)
    → AreKnown z v ts → HavePut ts ns us → AreSame (values_of ts) ns → MoveCells ts us → AreKnown z v us
kept_known z v [] [] [] known put same moves = tt
kept_known z v (t ∷ ts) (n ∷ ns) (u ∷ us) known put same moves =
    let now = subst (IsSameSegment t.held.value) (sym put.0.value) same.0 in (
      record {
        state = known.0.state;
        has = subst (λ k. HasCell v k known.0.state) (sym put.0.cell) known.0.has;
        inside = subst (λ k. k < cells_of z) (sym put.0.cell) known.0.inside;
        unpacked = known.0.unpacked;
        wide = known.0.wide;
        same = record {
          low = now.low ∙ known.0.same.low;
          high = now.high ∙ known.0.same.high;
          rows = now.rows ∙ known.0.same.rows;
        };
        sound = moves.0.sound;
        small = moves.0.small;
        untouched = λ e. known.0.untouched (sym put.0.mark ∙ e);
        count = put.0.rows ∙ known.0.count ∙ ap length (sym now.rows);
      },
      kept_known z v ts ns us known.1 put.1 same.1 moves.1,
    )
kept_known z v [] [] (u ∷ us) known put same moves = absurd put
kept_known z v [] (n ∷ ns) us known put same moves = absurd put
kept_known z v (t ∷ ts) [] us known put same moves = absurd put
kept_known z v (t ∷ ts) (n ∷ ns) [] known put same moves = absurd put

-- the leaf is in hand still
pub holds_kept : (store : Store) (pass : Pass) (leaves : List ℕ) (ts us : List TakenCell)
    (index : Held (Box LeafIndex Global)) → HoldsLeaves store pass leaves ts index → KeepsContents ts us
    → HoldsLeaves store pass leaves us index
holds_kept store pass leaves ts us index holds keeps =
    let z = store.accounts.config in
    let v = pass.account.me.0 in
    let moves = kept_moves z v ts keeps.segments us holds.known keeps.put keeps.same keeps.sound in
    let numbers = numbers_moved ts us moves in
    record {
      numbers = numbers ∙ holds.numbers;
      latch = holds.latch;
      out = holds.out ∙ ap (λ ns. (index.cell, slots.Out) ∷ slots_out ns) (sym numbers);
      table = holds.table;
      known = kept_known z v ts keeps.segments us holds.known keeps.put keeps.same moves;
      only = λ k c h. taken_moved k ts us moves ∙ holds.only k c h;
      apart = apart_moved ts us moves holds.apart;
      buffers = let e = length_moved ts us moves in let room = holds.buffers in omega (arith, e, room);
      index_held = holds.index_held;
    }
