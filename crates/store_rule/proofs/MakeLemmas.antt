-- Notes are laid into slots one by one, and passes are dealt.
use Rattle.std.proofs.Common.{◌≡◌, ◌⊎◌, inl, inr, ℕ, zero, suc, ◌+◌, ◌<◌, List, [], ◌∷◌, ◌++◌, length, refl, sym, ◌∙◌, ap, subst, cond, append_assoc, arith, length-append}
use Rattle.std.specs.Prelude.{Bool, true, false, ◌==◌, reverse, slice_get, Some, None}
use Rattle.std.proofs.lemmas.Bool.Decides.{nat_tests}
use Rattle.atomic_table.specs.Seated.{TableId}
use Rattle.atomic_table.specs.declared.shared.Seat.{Seat}
use Rattle.seat_views.specs.Keeping.{kept_at}
use Rattle.seat_views.proofs.NumberLemmas.{eq_of, some_is}
use Rattle.txn_manager.specs.declared.config.Config.{Config}
use Rattle.loaded_cells.specs.VersionSegment.Resting.{RestingRows}
use Rattle.leaf_index.specs.Calls.{new_index}
use Rattle.leaf_index.specs.Index.{Index}
use Rattle.loaded_cells.specs.CellsModel.Cells.{CellState}
use Rattle.loaded_cells.specs.RuleModel.EndSteps.{new_known, new_state, numbered, first_sight, sight_of}
use Rattle.loaded_cells.specs.RuleModel.Sight.{HasCell, HasIndex, HasJournal, HasPass, Known, PinState, Sight, cells_of, fresh_pin}
use Rattle.store_words.specs.Notes.{IsNote, cell_note, without_cell, without_pass}
use Rattle.store_words.specs.Steps.{Knows}
use Rattle.store_words.proofs.NoteLemmas.{without_else}
use Rattle.loaded_cells.specs.StoreRelation.Passes.{PassState}
use Rattle.loaded_cells.specs.StoreRelation.Shared.{no_journal}
use Rattle.loaded_cells.proofs.WordLemmas.{popped}
use Rattle.store_rule.specs.Filling.{AreNoRows}
use Rattle.store_rule.specs.Making.{AreCells, AreDealt, AreDealtFrom, AreSlots, IsDealing, IsFirstPass, IsLaying, KnowsAllResting, KnowsParts, KnowsResting}
use Rattle.store_rule.specs.declared.make.Parts.{Parts}
use Rattle.store_rule.specs.Slots.{FitsPlace, IsCellSlot, IsIndexSlot, IsJournalSlot, RestsAs}
use Rattle.store_rule.specs.declared.slot.Room.{Room}
use Rattle.store_rule.specs.declared.slot.StoreSlot.{StoreSlot}
use Rattle.store_rule.specs.declared.slot.StoreSlot.TheVariants as slots
use Rattle.store_rule.specs.declared.store.Pass.{Pass}

-- ---- lists with one more

-- what stands in a list with one more at its end
pub get_snoc : {A : Type 0} (xs : List A) (x y : A) (i : ℕ) → slice_get (xs ++ x ∷ []) i ≡ Some y
    → (slice_get xs i ≡ Some y) ⊎ ((i ≡ length xs) × (x ≡ y))
get_snoc [] x y zero e = inr (refl, some_is x y e)
get_snoc [] x y (suc i) e = cc
get_snoc (a ∷ xs) x y zero e = inl e
get_snoc (a ∷ xs) x y (suc i) e = elim (get_snoc xs x y i e) as
    (λ _. (slice_get (a ∷ xs) (suc i) ≡ Some y) ⊎ ((suc i ≡ length (a ∷ xs)) × (x ≡ y))) [
      | inl h ↦ inl h
      | inr h ↦ inr (ap suc h.0, h.1)
    ]

-- ---- a seat that deals

module _ (table : TableId) (v : Sight) where
  -- what is cut off of something else leaves the passes
  pub still_dealing : (n : ℕ) (old new : Seat (Unit {0}) Sight) (sight : Sight) → IsDealing table v n old
      → Knows old new sight → sight.passes ≡ old.me.0.passes → sight.pins ≡ old.me.0.pins
      → sight.readers ≡ old.me.0.readers → IsDealing table v n new
  still_dealing n old new sight is knows passes pins readers = record {
    table_is = knows.table ∙ is.table_is;
    slots = ap (λ m. m.1) knows.me ∙ is.slots;
    passes = λ p less.
        let h = is.passes p less in
        (h.0, h.1, (λ i. kept_at ((knows.me i).0).passes p) ∙ (λ i. kept_at (passes i) p) ∙ h.2);
    pins = λ p less. (λ i. kept_at ((knows.me i).0).pins p) ∙ (λ i. kept_at (pins i) p) ∙ is.pins p less;
    readers = (λ i. ((knows.me i).0).readers) ∙ readers ∙ is.readers;
  }

  -- the last pass is dealt
  pub dealt_one : (n m : ℕ) (old new : Seat (Unit {0}) Sight) → n ≡ m + 1 → IsDealing table v n old
      → Knows old new (without_pass m old.me.0) → IsDealing table v m new
  dealt_one n m old new last is knows = record {
    table_is = knows.table ∙ is.table_is;
    slots = ap (λ x. x.1) knows.me ∙ is.slots;
    passes = λ p less.
        let h = is.passes p (omega arith) in (
          h.0,
          h.1,
          (λ i. kept_at ((knows.me i).0).passes p)
              ∙ without_else m p old.me.0.passes (λ same. absurd (omega arith)) ∙ h.2,
        );
    pins = λ p less. (λ i. kept_at ((knows.me i).0).pins p)
        ∙ without_else m p old.me.0.pins (λ same. absurd (omega arith)) ∙ is.pins p (omega arith);
    readers = (λ i. ((knows.me i).0).readers) ∙ is.readers;
  }

-- ---- cells

module _ (z : Config) (table : TableId) (v : Sight) where
  -- a note of the next cell is laid
  pub laid_one : (n : ℕ) (old new : Seat (Unit {0}) Sight) → IsLaying z table v n old
      → Knows old new (without_cell n old.me.0) → IsLaying z table v (n + 1) new
  laid_one n old new is knows = record {
    dealing = still_dealing table v z.passes old new (without_cell n old.me.0) is.dealing knows refl refl refl;
    cells = λ k least less. (λ i. kept_at ((knows.me i).0).cells k)
        ∙ without_else n k old.me.0.cells (λ same. absurd (omega arith)) ∙ is.cells k (omega arith) less;
    index = (λ i. kept_at ((knows.me i).0).indexes 0) ∙ is.index;
    journal = (λ i. kept_at ((knows.me i).0).journals 0) ∙ is.journal;
  }

-- so its slot fits
pub resting_slot : (table : TableId) (k : ℕ) (c : CellState) (resting : RestingRows) (note : Seat (Unit {0}) Sight)
    → c.unpacked ≡ false → RestsAs c.segment resting → IsNote table (cell_note k c) note
    → IsCellSlot table k (slots.Cell resting note)
resting_slot table k c resting note packed rests knows = record {
  resting = resting;
  note = note;
  is = refl;
  state = c;
  rests = rests;
  packed = packed;
  knows = knows;
}

-- what stands behind a front
pub get_behind : {A : Type 0} (front : List A) (x : A) (back : List A) (n : ℕ) → length front ≡ n
    → slice_get (front ++ x ∷ back) n ≡ Some x
get_behind [] x back zero at = refl
get_behind [] x back (suc n) at = absurd (omega (arith, at))
get_behind (y ∷ front) x back zero at = absurd (omega (arith, at))
get_behind (y ∷ front) x back (suc n) at = get_behind front x back n (omega (arith, at))

-- one more cell
pub cells_more : (table : TableId) (list : List StoreSlot) (slot : StoreSlot) (n : ℕ) → length list ≡ n
    → AreCells table list → IsCellSlot table n slot → AreCells table (list ++ slot ∷ [])
cells_more table list slot n len cells new k one e = elim (get_snoc list slot one k e) as (λ _. IsCellSlot table k one) [
  | inl h ↦ cells k one h
  | inr h ↦ subst (λ (x : StoreSlot). IsCellSlot table k x) h.1
      (subst (λ m. IsCellSlot table m slot) (sym (h.0 ∙ len)) new)
]

pub get_inside : {A : Type 0} (xs : List A) (y : A) (i : ℕ) → slice_get xs i ≡ Some y → i < length xs
get_inside [] y i e = cc
get_inside (x ∷ xs) y zero e = omega arith
get_inside (x ∷ xs) y (suc i) e = let less = get_inside xs y i e in omega arith

-- all cells, the index and the journal are at their places
pub all_slots : (z : Config) (table : TableId) (cells : List StoreSlot) (index journal : StoreSlot)
    (all : List StoreSlot) → length cells ≡ cells_of z → AreCells table cells → IsIndexSlot table index
    → IsJournalSlot table journal → all ≡ (cells ++ index ∷ []) ++ journal ∷ [] → AreSlots z table all
all_slots z table cells index journal all len are at_index at_journal is =
    subst (AreSlots z table) (sym is) (record { count = counted; fit = fit })
  where
    front : List StoreSlot
    front = cells ++ index ∷ []

    counted : length (front ++ journal ∷ []) ≡ cells_of z + 2
    counted = let a = length-append front (journal ∷ []) in let b = length-append cells (index ∷ []) in
        omega (arith, a, b, len)

    fit : (place : ℕ) (slot : StoreSlot) → slice_get (front ++ journal ∷ []) place ≡ Some slot
        → FitsPlace z table place slot
    fit place slot e = elim (get_snoc front journal slot place e) as (λ _. FitsPlace z table place slot) [
      | inr h ↦
          let b = length-append cells (index ∷ []) in
          let at = h.0 in
          record {
            cell = λ less. absurd (omega (arith, b, len, at));
            index = λ same. absurd (omega (arith, b, len, at));
            journal = λ _. subst (IsJournalSlot table) h.1 at_journal;
          }
      | inl g ↦ elim (get_snoc cells index slot place g) as (λ _. FitsPlace z table place slot) [
        | inr h ↦
            let at = h.0 in
            record {
              cell = λ less. absurd (omega (arith, len, at));
              index = λ _. subst (IsIndexSlot table) h.1 at_index;
              journal = λ same. absurd (omega (arith, len, at));
            }
        | inl h ↦
            let inside = get_inside cells slot place h in
            record {
              cell = λ _. are place slot h;
              index = λ same. absurd (omega (arith, len, inside));
              journal = λ same. absurd (omega (arith, len, inside));
            }
      ]
    ]

-- ---- passes

-- one more pass in front
pub passes_more : (room : Room) (latches accounts : TableId) (v : Sight) (n m : ℕ) (pass : Pass) (list : List Pass)
    → n ≡ m + 1 → (st : PassState) → HasPass v m st → IsFirstPass room latches accounts m st pass
    → AreDealtFrom room latches accounts v n list → AreDealtFrom room latches accounts v m (pass ∷ list)
passes_more room latches accounts v n m pass list last st has new others zero one e =
    let same : m ≡ m + 0 = omega arith in
    subst (λ (x : ℕ × Pass). (t : PassState) × HasPass v x.0 t × IsFirstPass room latches accounts x.0 t x.1)
    (λ i. (same i, some_is pass one e i)) (st, has, new)
passes_more room latches accounts v n m pass list last st has new others (suc i) one e =
    let same : n + i ≡ m + suc i = omega arith in
    subst (λ k. (t : PassState) × HasPass v k t × IsFirstPass room latches accounts k t one) same (others i one e)

-- ---- the first seat

-- what is numbered is kept
pub numbered_at : {A : Type 0} (f : ℕ → A) (n k : ℕ) → k < n → kept_at (numbered f n) k ≡ Some (f k)
numbered_at f zero k less = absurd (omega arith)
numbered_at f (suc n) k less = by_test (k == n) refl (λ other. numbered_at f n k other)
  where
    by_test : (t : Bool) → (k == n) ≡ t → (k < n → kept_at (numbered f n) k ≡ Some (f k))
        → cond t (Some (f n)) (kept_at (numbered f n) k) ≡ Some (f k)
    by_test true is rest = ap (λ m. Some (f m)) (sym (eq_of k n is))
    by_test false is rest = let other : k < n = grind (arith, nat_tests) in rest other

module _ (z : Config) (k : Known) (seat : Seat (Unit {0}) Sight) (me : seat.me ≡ (sight_of z k, [])) where
  has_pass : (p : ℕ) → p < z.passes → HasPass seat.me.0 p (k.pass p)
  has_pass p less = (λ i. kept_at ((me i).0).passes p) ∙ numbered_at k.pass z.passes p less

  -- a seat that knows all may lay it
  pub first_lays : (table : TableId) → seat.table_id ≡ table → ((p : ℕ) → k.pin p ≡ fresh_pin)
      → IsLaying z table seat.me.0 0 seat
  first_lays table is fresh = record {
    dealing = record {
      table_is = is;
      slots = ap (λ m. m.1) me;
      passes = λ p less. (k.pass p, has_pass p less, has_pass p less);
      pins = λ p less. (λ i. kept_at ((me i).0).pins p) ∙ numbered_at k.pin z.passes p less
          ∙ ap (λ (x : PinState). Some x) (fresh p);
      readers = λ i. ((me i).0).readers;
    };
    cells = λ n least less. refl;
    index = refl;
    journal = refl;
  }

  pub first_cell : (n : ℕ) → n < cells_of z → HasCell seat.me.0 n (k.cell n)
  first_cell n less = (λ i. kept_at ((me i).0).cells n) ∙ numbered_at k.cell (cells_of z) n less

  pub first_index : HasIndex seat.me.0 (k.index 0)
  first_index = λ i. kept_at ((me i).0).indexes 0

  pub first_journal : HasJournal seat.me.0 (k.journal 0)
  first_journal = λ i. kept_at ((me i).0).journals 0

  -- what is dealt is what it knows of passes
  pub dealt_is : (room : Room) (latches accounts : TableId) (list : List Pass) → room.config.passes ≡ z.passes
      → AreDealt room latches accounts seat.me.0 list → (p : ℕ) (pass : Pass) → slice_get list p ≡ Some pass
      → IsFirstPass room latches accounts p (k.pass p) pass
  dealt_is room latches accounts list same are p pass e =
      let count = are.count in
      let inside = get_inside list pass p e in
      let h = are.dealt p pass e in
      let at : 0 + p ≡ p = omega arith in
      let has : HasPass seat.me.0 p h.0 = ap (kept_at seat.me.0.passes) (sym at) ∙ h.1 in
      let state : h.0 ≡ k.pass p = some_is h.0 (k.pass p) (sym has ∙ has_pass p (omega (arith, count, inside, same))) in
      subst (λ (x : ℕ × PassState). IsFirstPass room latches accounts x.0 x.1 pass) (λ i. (at i, state i)) h.2

-- a view of a new store knows parts without rows
pub new_parts : (z : Config) (seat : Seat (Unit {0}) Sight) (parts : Parts) → seat.me ≡ (first_sight z, [])
    → AreNoRows (cells_of z) parts.resting.items → parts.index ≡ new_index z.leaves
    → parts.journal.items ≡ [] → KnowsParts z seat.me.0 parts
new_parts z seat parts me none index journal = record {
  cells = record {
    count = none.count_is;
    each = λ k resting e.
        let inside = get_inside parts.resting.items resting k e in
        let count = none.count_is in
        record {
          cell = new_state k;
          has = first_cell z (new_known z) seat me k (omega (arith, inside, count));
          packed = refl;
          rests = none.none k resting e;
        };
  };
  index = subst (λ (x : Index). HasIndex seat.me.0 (record { index = x; sweeper = None })) (sym index)
      (first_index z (new_known z) seat me);
  journal = (no_journal, first_journal z (new_known z) seat me, record { commits = journal; next = refl; room = omega arith });
}

-- one more cell without rows
pub no_rows_more : (list : List RestingRows) (n : ℕ) (x : RestingRows) → AreNoRows n list → x.rows ≡ []
    → AreNoRows (n + 1) (list ++ x ∷ [])
no_rows_more list n x are none = record {
  count_is = length-append list (x ∷ []) ∙ ap (λ m. m + 1) are.count_is;
  none = λ k r e. elim (get_snoc list x r k e) as (λ _. r.rows ≡ []) [
    | inl h ↦ are.none k r h
    | inr h ↦ ap (λ (y : RestingRows). y.rows) (sym h.1) ∙ none
  ];
}

-- what is kept of the next cell is of what a seat knows that has laid those before it
pub next_resting : (z : Config) (table : TableId) (v : Sight) (n : ℕ) (seat : Seat (Unit {0}) Sight)
    (all front old new : List RestingRows) (r : RestingRows) → IsLaying z table v n seat → KnowsAllResting z v all
    → n < cells_of z → all ≡ front ++ reverse old → length front ≡ n → old ≡ new ++ r ∷ []
    → KnowsResting seat.me.0 n r
next_resting z table v n seat all front old new r laying knows less is at last =
    let there : slice_get all n ≡ Some r =
    ap (λ l. slice_get l n) (popped all front old new r is last ∙ append_assoc front (r ∷ []) (reverse new))
    ∙ get_behind front r (reverse new) n at in
    let k = knows.each n r there in
    record {
      cell = k.cell;
      has = laying.cells n (omega arith) less ∙ k.has;
      packed = k.packed;
      rests = k.rests;
    }
