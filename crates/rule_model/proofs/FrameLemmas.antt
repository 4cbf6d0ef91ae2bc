-- THE FRAME: one step of one seat, by what it changes. All else is as it was, and no law of a kind of step says
-- so again.
use Rattle.std.proofs.Common.{◌≡◌, ◌≢◌, ⊎_elim, ℕ, zero, suc, List, [], ◌∷◌, ◌++◌, set, refl, sym, ◌∙◌, ap, subst, length-set}
use Rattle.std.specs.Prelude.{Bool, true, false, cond, ◌==◌, Option, Some, slice_index}
use Rattle.std.specs.List.{flat_map}
use Rattle.std.specs.declared.alloc.Global.{Global}
use Rattle.std.proofs.lemmas.List.Concat.{flat_map-cons}
use mathlib.Core.List.{IsPrefix}
use mathlib.Core.Logic.{dite}
use mathlib.Core.Option.{some, some-injective}
use native.Mathlib.Decide.{ℕ_discrete}
use lib.ListN.{get_elem?}
use Rattle.atomic_table.specs.Table.{State, Me, keeps, stepped}
use Rattle.txn_manager.specs.declared.config.Config.{Config}
use Rattle.seat_views.specs.Keeping.{put, revised}
use Rattle.seat_views.proofs.KeepLemmas.{kept_news}
use Rattle.seat_views.proofs.NumberLemmas.{at_set, none_kept, put_here, put_else}
use Rattle.store_relation.specs.Passes.{PassState}
use Rattle.store_relation.specs.Readers.{AreReaders}
use Rattle.store_relation.specs.Shared.{JournalState}
use Rattle.store_relation.proofs.ListLemmas.{prefix_all, prefix_trans}
use Rattle.cells_model.specs.Cells.{CellState}
use Rattle.cells_model.specs.Reads.{Reading, IsReading}
use Rattle.rule_model.specs.Places.{Layout, KeepsApart, Words}
use Rattle.rule_model.specs.Sight.{PinState, IndexState, ReadState, Sight, Known, News, AreNews, HasPass, HasPin, HasCell, HasIndex, HasJournal, Agrees, with_news, no_news, after, cells_of}
use Rattle.rule_model.specs.Rule.{IsStored, IsStoreRule, words_of}
use Rattle.rule_model.proofs.PlaceLemmas.{words_loaded}

-- ---- names

abbrev pub S : Type 0
S = State (Unit {0}) Sight

abbrev pub M : Type 0
M = Me (Unit {0}) Sight

-- ---- functions of numbers that have changed at one

-- a part of each, where one has changed
pub part_put : {A B : Type 0} (F : A → B) (f : ℕ → A) (p : ℕ) (x : A)
    → ◌≡◌ {A = ℕ → B} (λ o. F (put f p x o)) (put (λ o. F (f o)) p (F x))
part_put {A} {B} F f p x = λ t o. by_test o (o == p) t
  where
    by_test : (o : ℕ) (b : Bool) → F (cond b x (f o)) ≡ cond b (F x) (F (f o))
    by_test o true = refl
    by_test o false = refl

-- stays, where the one has it as before
pub part_same : {A B : Type 0} (F : A → B) (f : ℕ → A) (p : ℕ) (x : A) → F x ≡ F (f p)
    → ◌≡◌ {A = ℕ → B} (λ o. F (put f p x o)) (λ o. F (f o))
part_same {A} {B} F f p x same = λ t o. dite (ℕ_discrete o p)
    (λ here. ap F (ap (put f p x) here ∙ put_here f p x) ∙ same ∙ ap (λ q. F (f q)) (sym here))
    (λ other. ap F (put_else f p x o other)) t

-- and so does the whole, where it has become what it was
pub put_same : {A : Type 0} (f : ℕ → A) (p : ℕ) (x : A) → x ≡ f p → put f p x ≡ f
put_same f p x same = part_same (λ y. y) f p x same

-- ---- readers of all views

pub readers_set : (views : List Sight) (id : ℕ) (v w : Sight) → get_elem? views id ≡ some v
    → w.readers ≡ v.readers
    → flat_map (λ (u : Sight). u.readers) (set views id w) ≡ flat_map (λ (u : Sight). u.readers) views
readers_set [] id v w at same = refl
readers_set (x ∷ views) zero v w at same =
    let is : x ≡ v = some-injective x v at in
    flat_map-cons (λ (u : Sight). u.readers) w views
    ∙ (λ i. (same ∙ ap (λ (u : Sight). u.readers) (sym is)) i ++ flat_map (λ (u : Sight). u.readers) views)
    ∙ sym (flat_map-cons (λ (u : Sight). u.readers) x views)
readers_set (x ∷ views) (suc id) v w at same =
    flat_map-cons (λ (u : Sight). u.readers) x (set views id w)
    ∙ ap (λ l. x.readers ++ l) (readers_set views id v w at same)
    ∙ sym (flat_map-cons (λ (u : Sight). u.readers) x views)

pub nothing_new : (v : Sight) → AreNews v no_news
nothing_new v = record {
  passes = none_kept v.passes;
  pins = none_kept v.pins;
  cells = none_kept v.cells;
  indexes = none_kept v.indexes;
  journals = none_kept v.journals;
}

-- ---- what a step asks besides the words and contents

pub record StaysSound (z : Config) (old new : Known) (views : List Sight)
    (reading : Option Reading) : Type 0 where
  pub grows : IsPrefix (old.journal 0).commits (new.journal 0).commits
  pub readers : AreReaders new.pass (new.journal 0).commits (flat_map (λ (u : Sight). u.readers) views)
  pub others : (q : Reading) → IsReading (cells_of z) old.cell q → IsReading (cells_of z) new.cell q
  pub own : (q : Reading) → reading ≡ Some q → IsReading (cells_of z) new.cell q

module _ {z : Config} {at : Layout} {heap : Global} {s : S} (r : IsStoreRule z at heap s) (id : ℕ) (me : M)
    (here : get_elem? s.views id ≡ some me.0) where
  -- ---- what the seat has is known

  pub pass_is : (p : ℕ) (st : PassState) → HasPass me.0 p st → r.known.pass p ≡ st
  pass_is p st has = (r.passes id me.0 p st here has).1

  pub pin_is : (p : ℕ) (x : PinState) → HasPin me.0 p x → r.known.pin p ≡ x
  pin_is p x has = (r.pins id me.0 p x here has).1

  pub cell_is : (k : ℕ) (c : CellState) → HasCell me.0 k c → r.known.cell k ≡ c
  cell_is k c has = (r.cells id me.0 k c here has).1

  pub cells_agree : Agrees me.0 r.known.cell
  cells_agree = cell_is

  pub index_is : (y : IndexState) → HasIndex me.0 y → r.known.index 0 ≡ y
  index_is y has = (r.indexes id me.0 0 y here has).1

  pub journal_is : (j : JournalState) → HasJournal me.0 j → r.known.journal 0 ≡ j
  journal_is j has = (r.journals id me.0 0 j here has).1

  pub own_read : (q : Reading) → me.0.reads.reading ≡ Some q → IsReading (cells_of z) r.known.cell q
  own_read q has = r.reads id me.0 q here has

  -- ---- the step

  -- A word is stored, or is loaded and stays; the seat has news of what it keeps, and reads on.
  pub steps_to : (i x : ℕ) (w : Words) (n : News) (reads : ReadState) → words_of z at (set s.words i x) ≡ w
      → AreNews me.0 n
      → StaysSound z r.known (after r.known n) s.views reads.reading → IsStored z heap w (after r.known n)
      → IsStoreRule z at heap (stepped s i x id me.1 (with_news me.0 n reads) keeps)
  steps_to i x w n reads is news sound stored =
      let v = me.0 in
      let new = with_news v n reads in
      record {
        apart = subst (KeepsApart at z.passes (cells_of z)) (sym (length-set s.words i x)) r.apart;
        known = after r.known n;
        pass_keeper = r.pass_keeper;
        pin_keeper = r.pin_keeper;
        cell_keeper = r.cell_keeper;
        index_keeper = r.index_keeper;
        journal_keeper = r.journal_keeper;
        passes = kept_news (λ (u : Sight). u.passes) s.views r.known.pass r.pass_keeper r.passes id v here new
            n.passes refl news.passes;
        pins = kept_news (λ (u : Sight). u.pins) s.views r.known.pin r.pin_keeper r.pins id v here new n.pins
            refl news.pins;
        cells = kept_news (λ (u : Sight). u.cells) s.views r.known.cell r.cell_keeper r.cells id v here new
            n.cells refl news.cells;
        indexes = kept_news (λ (u : Sight). u.indexes) s.views r.known.index r.index_keeper r.indexes id v here
            new n.indexes refl news.indexes;
        journals = kept_news (λ (u : Sight). u.journals) s.views r.known.journal r.journal_keeper r.journals id
            v here new n.journals refl news.journals;
        told = λ seat u at_u. prefix_trans u.told (r.known.journal 0).commits
            ((after r.known n).journal 0).commits
            (⊎_elim
            (λ (t : (seat ≡ id) × (new ≡ u)). subst (λ l. IsPrefix l (r.known.journal 0).commits)
            (ap (λ (x : Sight). x.told) t.1) (r.told id v here))
            (λ (t : (seat ≢ id) × (get_elem? s.views seat ≡ some u)). r.told seat u t.1)
            (at_set s.views id seat new u at_u)) sound.grows;
        readers = subst (AreReaders (after r.known n).pass ((after r.known n).journal 0).commits)
            (sym (readers_set s.views id v new here refl)) sound.readers;
        reads = λ seat u q at_u has. ⊎_elim
            (λ (t : (seat ≡ id) × (new ≡ u)). sound.own q (ap (λ (x : Sight). x.reads.reading) t.1 ∙ has))
            (λ (t : (seat ≢ id) × (get_elem? s.views seat ≡ some u)). sound.others q (r.reads seat u q t.1 has))
            (at_set s.views id seat new u at_u);
        stored = subst (λ u. IsStored z heap u (after r.known n)) (sym is) stored;
      }

  -- the words after a load
  pub loaded : (i : ℕ) → words_of z at (set s.words i (slice_index s.words i)) ≡ words_of z at s.words
  loaded i = words_loaded at z.passes (cells_of z) s.words i

  -- a step that changes no pass, journal or cell asks for nothing besides
  pub is_sound : (n : News) (reading : Option Reading) → n.passes ≡ [] → n.cells ≡ [] → n.journals ≡ []
      → ((q : Reading) → reading ≡ Some q → IsReading (cells_of z) r.known.cell q)
      → StaysSound z r.known (after r.known n) s.views reading
  is_sound n reading no_passes no_cells no_journals own =
      let passes : r.known.pass ≡ (after r.known n).pass = ap (λ ns. revised r.known.pass ns) (sym no_passes) in
      let cells : r.known.cell ≡ (after r.known n).cell = ap (λ ns. revised r.known.cell ns) (sym no_cells) in
      let journals : r.known.journal ≡ (after r.known n).journal =
      ap (λ ns. revised r.known.journal ns) (sym no_journals) in
      record {
        grows = subst (λ (j : ℕ → JournalState). IsPrefix (r.known.journal 0).commits (j 0).commits) journals
            (prefix_all (r.known.journal 0).commits);
        readers = subst (λ (x : (ℕ → PassState) × (ℕ → JournalState)).
            AreReaders x.0 (x.1 0).commits (flat_map (λ (u : Sight). u.readers) s.views))
            (λ i. (passes i, journals i)) r.readers;
        others = λ q h. subst (λ c. IsReading (cells_of z) c q) cells h;
        own = λ q e. subst (λ c. IsReading (cells_of z) c q) cells (own q e);
      }

  -- A load after which the seat knows nothing new. It may read on.
  pub by_nothing : (i : ℕ) (reads : ReadState)
      → ((q : Reading) → reads.reading ≡ Some q → IsReading (cells_of z) r.known.cell q)
      → IsStoreRule z at heap (stepped s i (slice_index s.words i) id me.1 (with_news me.0 no_news reads) keeps)
  by_nothing i reads own = steps_to i (slice_index s.words i) (words_of z at s.words) no_news reads (loaded i)
      (nothing_new me.0)
      (is_sound no_news reads.reading refl refl refl own) r.stored
