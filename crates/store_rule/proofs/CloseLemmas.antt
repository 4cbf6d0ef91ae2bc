-- Passes come back, and slots are emptied from the last one on.
use Rattle.std.proofs.Common.{◌≡◌, ◌⊎◌, inl, inr, ℕ, zero, suc, ◌+◌, ◌-◌, ◌<◌, ◌≤◌, List, [], ◌∷◌, ◌++◌, length, refl, sym, ◌∙◌, ap, subst, cond, arith, length-append, reverse}
use Rattle.std.specs.Prelude.{◌≢◌, false, ◌==◌, slice_get, Some}
use Rattle.std.proofs.lemmas.List.{reverse-append}
use Rattle.atomic_table.specs.Seated.{TableId}
use Rattle.seat_views.specs.Keeping.{kept_at}
use Rattle.seat_views.proofs.NumberLemmas.{kept-append, other_number, same_number, some_is}
use Rattle.txn_manager.specs.declared.config.Config.{Config}
use Rattle.loaded_cells.specs.StoreRelation.Shared.{JournalState}
use Rattle.loaded_cells.specs.RuleModel.EndSteps.{HasAll}
use Rattle.loaded_cells.specs.RuleModel.LastSteps.{IsLastStore}
use Rattle.loaded_cells.specs.VersionSegment.Resting.{RestingRows}
use Rattle.loaded_cells.specs.VersionSegment.Rows.{VersionedRows, IsSameSegment}
use Rattle.loaded_cells.specs.CellsModel.Cells.{CellState}
use Rattle.loaded_cells.specs.CellsModel.Words.{Spells}
use Rattle.loaded_cells.specs.RuleModel.Sight.{HasCell, HasJournal, Sight, cells_of, with_cell}
use Rattle.loaded_cells.specs.RuleModel.ViewSteps.{joined}
use Rattle.store_rule.specs.Closed.{AreAtRest, AreAtRestFrom, AreSpelled, IsAtRest, IsPopped, known_in, known_segments}
use Rattle.store_rule.specs.Closing.{AreBackPasses, AreCells, AreSlotsBelow, HasJoined, IsBackPass}
use Rattle.store_rule.specs.Slots.{FitsPlace, RestsAs}
use Rattle.store_rule.proofs.MakeLemmas.{get_snoc}
use Rattle.store_rule.specs.declared.slot.StoreSlot.{StoreSlot}
use Rattle.store_rule.specs.declared.slot.Room.{Room}
use Rattle.store_rule.specs.declared.store.Pass.{Pass}
use Rattle.store_rule.specs.declared.store.Store.{Store}

-- ---- numbers

-- a number from another one on is that, or above it
pub same_or_above : (p m : ℕ) → m ≤ p → (p ≡ m) ⊎ (m < p)
same_or_above zero zero le = inl refl
same_or_above zero (suc m) le = absurd (omega arith)
same_or_above (suc p) zero le = inr (omega arith)
same_or_above (suc p) (suc m) le =
    elim (same_or_above p m (omega arith)) as (λ _. (suc p ≡ suc m) ⊎ (suc m < suc p)) [
      | inl same ↦ inl (ap suc same)
      | inr less ↦ inr (omega arith)
    ]

-- ---- lists

-- what stands in a list stands in it with more at its end
pub get_front : {A : Type 0} (xs ys : List A) (y : A) (i : ℕ) → slice_get xs i ≡ Some y
    → slice_get (xs ++ ys) i ≡ Some y
get_front [] ys y i e = cc
get_front (x ∷ xs) ys y zero e = e
get_front (x ∷ xs) ys y (suc i) e = get_front xs ys y i e

-- the last one
pub get_end : {A : Type 0} (xs : List A) (y : A) → slice_get (xs ++ y ∷ []) (length xs) ≡ Some y
get_end [] y = refl
get_end (x ∷ xs) y = get_end xs y

-- within a list there is one
pub get_there : {A : Type 0} (xs : List A) (i : ℕ) → i < length xs → (y : A) × (slice_get xs i ≡ Some y)
get_there [] i less = absurd (omega arith)
get_there (x ∷ xs) zero less = (x, refl)
get_there (x ∷ xs) (suc i) less = get_there xs i (omega arith)

-- it stands within the list
get_within : {A : Type 0} (xs : List A) (i : ℕ) (y : A) → slice_get xs i ≡ Some y → i < length xs
get_within [] i y e = cc
get_within (x ∷ xs) zero y e = omega arith
get_within (x ∷ xs) (suc i) y e = let less = get_within xs i y e in omega (arith, less)

-- ---- views

-- what is known of another cell is as it was
other_kept : (v w : Sight) (n : ℕ) (c : CellState) (k : ℕ) → w ≡ with_cell v n c → k ≢ n
    → kept_at w.cells k ≡ kept_at v.cells k
other_kept v w n c k is other = ap (λ (u : Sight). kept_at u.cells k) is
    ∙ ap (λ b. cond b (Some c) (kept_at v.cells k)) (other_number k n other)

-- ---- slots

pub popped : (z : Config) (table : TableId) (n : ℕ) (old new : List StoreSlot) (slot : StoreSlot)
    → old ≡ new ++ slot ∷ [] → AreSlotsBelow z table (n + 1) old
    → FitsPlace z table n slot × AreSlotsBelow z table n new
popped z table n old new slot is are =
    let count : length new ≡ n = let a = length-append new (slot ∷ []) in let b = ap length is in
    let c = are.count_is in omega (arith, a, b, c) in (
      are.fit n slot (ap (λ l. slice_get l n) is ∙ subst (λ m. slice_get (new ++ slot ∷ []) m ≡ Some slot) count
          (get_end new slot)),
      record {
        count_is = count;
        fit = λ place one e. are.fit place one (ap (λ l. slice_get l place) is
            ∙ get_front new (slot ∷ []) one place e);
      },
    )

-- ---- passes

-- one more pass has joined
pub joined_one : (room : Room) (latches accounts : TableId) (list : List Pass) (n m : ℕ) (pass : Pass) (v : Sight)
    → n ≡ m + 1 → slice_get list m ≡ Some pass → IsBackPass room latches accounts m pass → HasJoined list n v
    → HasJoined list m (joined v pass.account.me.0)
joined_one room latches accounts list n m pass v last here back have p one least there =
    let front = kept-append pass.account.me.0.passes v.passes p in
    elim (same_or_above p m least) as
    (λ _. kept_at (pass.account.me.0.passes ++ v.passes) p ≡ kept_at one.account.me.0.passes p) [
      | inl same ↦
          let is : pass ≡ one = some_is pass one (sym here ∙ subst (λ k. slice_get list k ≡ Some one) same there) in
          let mine : kept_at pass.account.me.0.passes p ≡ Some back.state =
          ap (kept_at pass.account.me.0.passes) same ∙ back.has in
          front.1 back.state mine ∙ sym mine ∙ ap (λ (q : Pass). kept_at q.account.me.0.passes p) is
      | inr more ↦
          front.0 (back.only p (λ same. absurd (omega (arith, more, same)))) ∙ have p one (omega (arith, more, last)) there
    ]

-- ---- cells

-- what is kept of one more cell
pub one_cell : (v : Sight) (k n : ℕ) (c : CellState) (resting : RestingRows) (list all : List RestingRows) → n ≡ k + 1
    → c.unpacked ≡ false → RestsAs c.segment resting → AreAtRestFrom v n (reverse list) → all ≡ list ++ resting ∷ []
    → AreAtRestFrom (with_cell v k c) k (reverse all)
one_cell v k n c resting list all last packed rests are is i one e =
    at i (ap (λ l. slice_get l i) (sym (ap reverse is ∙ reverse-append list (resting ∷ []))) ∙ e)
  where
    at : (i : ℕ) → slice_get (resting ∷ reverse list) i ≡ Some one → IsAtRest (with_cell v k c) (k + i) one
    at zero f =
        let here : k + 0 ≡ k = omega arith in (
          c,
          ap (kept_at ((k, c) ∷ v.cells)) here ∙ ap (λ b. cond b (Some c) (kept_at v.cells k)) (same_number k),
          packed,
          subst (λ (x : RestingRows). RestsAs c.segment x) (some_is resting one f) rests,
        )
    at (suc i) f =
        let old = are i one f in
        let there : n + i ≡ k + suc i = omega (arith, last) in
        let apart : (k + suc i == k) ≡ false = other_number (k + suc i) k (λ h. absurd (omega (arith, h))) in (
          old.0,
          ap (λ b. cond b (Some c) (kept_at v.cells (k + suc i))) apart
              ∙ subst (λ m. kept_at v.cells m ≡ Some old.0) there old.1,
          old.2,
          old.3,
        )

-- from the first one on these are all
pub all_at_rest : (v : Sight) (list : List RestingRows) → AreAtRestFrom v 0 list → AreAtRest v list
all_at_rest v list are k resting e =
    let same : 0 + k ≡ k = omega arith in subst (λ n. IsAtRest v n resting) same (are k resting e)

-- ---- contents that are known

pub known_length : (v : Sight) (count : ℕ) → length (known_segments v count) ≡ count
known_length v zero = refl
known_length v (suc count) =
    let a = length-append (known_segments v count) (known_in (kept_at v.cells count) ∷ []) in
    let rest = known_length v count in omega (arith, a, rest)

known_get : (v : Sight) (count k : ℕ) (s : VersionedRows) → slice_get (known_segments v count) k ≡ Some s
    → (k < count) × (known_in (kept_at v.cells k) ≡ s)
known_get v zero k s e = cc
known_get v (suc count) k s e =
    elim (get_snoc (known_segments v count) (known_in (kept_at v.cells count)) s k e) as
    (λ _. (k < suc count) × (known_in (kept_at v.cells k) ≡ s)) [
      | inl h ↦ let rest = known_get v count k s h in let less = rest.0 in (omega (arith, less), rest.1)
      | inr h ↦
          let last : k ≡ count = h.0 ∙ known_length v count in
          (omega (arith, last), ap (λ n. known_in (kept_at v.cells n)) last ∙ h.1)
    ]

-- what is known of the first cells is so where the view has them as before
pub known_same : (v w : Sight) (count : ℕ) → ((k : ℕ) → k < count → kept_at w.cells k ≡ kept_at v.cells k)
    → known_segments w count ≡ known_segments v count
known_same v w zero same = refl
known_same v w (suc count) same =
    λ i. known_same v w count (λ k less. same k (omega (arith, less))) i
    ++ known_in (same count (omega arith) i) ∷ []

-- the contents of cells at rest are those that are known
pub known_cells : (v : Sight) (list : List RestingRows) → AreAtRest v list
    → AreCells v (known_segments v (length list))
known_cells v list are k s e =
    let known = known_get v (length list) k s e in
    let there = get_there list k known.0 in
    let rest = are k there.0 there.1 in (
      rest.0,
      rest.1,
      subst (λ (x : VersionedRows). IsSameSegment (rest.0).segment x) (ap known_in (sym rest.1) ∙ known.1)
          (record { low = refl; high = refl; rows = refl }),
    )

-- the contents at a place of a list of them are those that are known
pub known_at : (v : Sight) (count k : ℕ) (c : CellState) (s : VersionedRows) → kept_at v.cells k ≡ Some c
    → slice_get (known_segments v count) k ≡ Some s → c.segment ≡ s
known_at v count k c s has e = ap known_in (sym has) ∙ (known_get v count k s e).1

-- what is known of a cell that is left: it is packed, and its block spells its contents
pub known_there : (v : Sight) (list : List RestingRows) (k : ℕ) → AreAtRest v list → AreSpelled v (length list)
    → k < length list → (c : CellState) × HasCell v k c × Spells c.block c.segment
known_there v list k are spelled inside =
    let there = get_there list k inside in
    let rest = are k there.0 there.1 in
    (rest.0, rest.1, spelled k rest.0 inside rest.1)

-- the blocks of the cells of a closed store
pub all_spelled : (z : Config) (v : Sight) (j : JournalState) (list : List RestingRows) → IsLastStore z v j → AreAtRest v list
    → length list ≡ cells_of z → AreSpelled v (cells_of z)
all_spelled z v j list last are count k c inside has =
    let there = get_there list k (omega (arith, count, inside)) in
    let rest = are k there.0 there.1 in
    let same : rest.0 ≡ c = some_is rest.0 c (sym rest.1 ∙ has) in
    let is = last.cells k c has in
    subst (λ (d : CellState). Spells d.block d.segment) is
    (last.spells k inside (ap (λ (d : CellState). d.unpacked) (is ∙ sym same) ∙ rest.2))

-- a cell is unpacked: the blocks of those before it spell what they did
pub front_spelled : (v w : Sight) (n m : ℕ) (c : CellState) → n ≡ m + 1 → w ≡ with_cell v m c → AreSpelled v n
    → AreSpelled w m
front_spelled v w n m c one is are k d inside has =
    are k d (omega (arith, one, inside))
    (sym (other_kept v w m c k is (λ same. absurd (omega (arith, inside, same)))) ∙ has)

-- a cell is unpacked: what is kept of the others is as it was
pub others_at_rest : (v w : Sight) (list : List RestingRows) (c : CellState) → AreAtRest v list
    → w ≡ with_cell v (length list) c → AreAtRest w list
others_at_rest v w list c are is k resting e =
    let less = get_within list k resting e in
    let old = are k resting e in (
      old.0,
      other_kept v w (length list) c k is (λ same. absurd (omega (arith, less, same))) ∙ old.1,
      old.2,
      old.3,
    )

pub known_others : (v w : Sight) (count : ℕ) (c : CellState) → w ≡ with_cell v count c
    → known_segments w count ≡ known_segments v count
known_others v w count c is =
    known_same v w count (λ k less. other_kept v w count c k is (λ same. absurd (omega (arith, less, same))))

-- ---- cells of a closed store are taken out, the last one first

pub last_at_rest : (v : Sight) (old new : List RestingRows) (resting : RestingRows) (m : ℕ) → AreAtRest v old
    → old ≡ new ++ resting ∷ [] → m ≡ length new → IsAtRest v m resting
last_at_rest v old new resting m are is last = subst (λ k. IsAtRest v k resting) (sym last)
    (are (length new) resting (ap (λ l. slice_get l (length new)) is ∙ get_end new resting))

-- the others are at rest, and their contents are known as they were
pub front_at_rest : (v w : Sight) (old new : List RestingRows) (resting : RestingRows) (m : ℕ) (c : CellState)
    → AreAtRest v old → old ≡ new ++ resting ∷ [] → m ≡ length new → w ≡ with_cell v m c → AreAtRest w new
front_at_rest v w old new resting m c are is last now = others_at_rest v w new c
    (λ k one e. are k one (ap (λ l. slice_get l k) is ∙ get_front new (resting ∷ []) one k e))
    (now ∙ ap (λ k. with_cell v k c) last)

pub known_last : (v w : Sight) (n m : ℕ) (c d : CellState) (s : VersionedRows) → n ≡ m + 1 → kept_at v.cells m ≡ Some c
    → w ≡ with_cell v m d → IsSameSegment c.segment s → IsPopped (known_segments v n) (known_segments w m) (Some s)
known_last v w n m c d s last has is same =
    let one : n ≡ suc m = omega (arith, last) in (
      known_in (kept_at v.cells m),
      ap (known_segments v) one ∙ (λ i. sym (known_others v w m d is) i ++ known_in (kept_at v.cells m) ∷ []),
      subst (λ o. IsSameSegment (known_in o) s) (sym has) same,
    )

-- the next cell to be taken out, while some are left
pub next_cell : (z : Config) (table : TableId) (done : ℕ) (slots : List StoreSlot) → length slots + done ≡ cells_of z
    → done < cells_of z → AreSlotsBelow z table (length slots) slots
    → (m : ℕ) × (length slots ≡ m + 1) × (m < cells_of z) × AreSlotsBelow z table (m + 1) slots
next_cell z table done slots all less are =
    let last : length slots ≡ length slots - 1 + 1 = omega (arith, all, less) in (
      length slots - 1,
      last,
      omega (arith, all, less),
      subst (λ k. AreSlotsBelow z table k slots) last are,
    )

-- the slots of a closed latch table
pub all_below : (store : Store) (slots : List StoreSlot) → length slots ≡ store.latches.table.shared.table_id.words
    → ((place : ℕ) (slot : StoreSlot) → slice_get slots place ≡ Some slot
    → FitsPlace store.latches.table.shared.key.config store.latches.table.shared.key.seat.table_id place slot)
    → AreSlotsBelow store.accounts.config store.accounts.table.shared.table_id
    (cells_of store.accounts.config + 1 + 1) slots
all_below store slots count fits =
    let two : cells_of store.accounts.config + 2 ≡ cells_of store.accounts.config + 1 + 1 = omega arith in
    record {
      count_is = count ∙ store.places ∙ two;
      fit = λ place slot e. subst (λ (x : Config × TableId). FitsPlace x.0 x.1 place slot)
          (λ i. (store.same.0 i, store.same.1 i)) (fits place slot e);
    }

-- a view that has the journal and has taken in all passes has all
pub all_back : (z : Config) {room : Room} {latches accounts : TableId} (list : List Pass) (v : Sight) (j : JournalState)
    → HasJournal v j → HasJoined list 0 v → length list ≡ z.passes → AreBackPasses room latches accounts list
    → HasAll z v j
all_back z list v j has joined count each = record {
  journal = has;
  passes = λ p less.
      let there = get_there list p (omega (arith, count, less)) in
      let back = each p there.0 there.1 in
      (back.state, joined p there.0 (omega arith) there.1 ∙ back.has, back.stage, back.stamped);
}
