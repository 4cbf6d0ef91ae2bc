-- Views that are cut in two and joined keep the rule.
use Rattle.std.proofs.Common.{◌≡◌, ◌≢◌, inl, inr, ⊎_elim, ℕ, zero, suc, ◌+◌, ◌-◌, ◌≤◌, List, [], ◌∷◌, ◌++◌, length, set, refl, sym, ◌∙◌, ap, subst, append-nil, append_assoc}
use Rattle.std.specs.Prelude.{Bool, Some, None}
use Rattle.std.specs.List.{flat_map}
use Rattle.std.specs.declared.alloc.Global.{Global}
use Rattle.std.proofs.lemmas.List.Concat.{flat_map-append, flat_map-cons}
use mathlib.Core.List.{IsPrefix}
use mathlib.Core.Option.{some, some-injective, some-ne-none}
use lib.ListN.{get_elem?}
use Rattle.atomic_table.specs.Table.{Allows}
use Rattle.graph_model.specs.declared.journal.Commit.{Commit}
use Rattle.txn_manager.specs.declared.config.Config.{Config}
use Rattle.cells_model.specs.LeafStore.Leaves.{weight}
use Rattle.seat_views.specs.Keeping.{kept_at, moved, put, Keeps}
use Rattle.seat_views.proofs.KeepLemmas.{kept_join, kept_news, kept_same, kept_split}
use Rattle.seat_views.proofs.NumberLemmas.{at_end, at_set, one_kept}
use Rattle.epoch_reclaim.specs.Pinned.{IsPinned}
use Rattle.store_relation.specs.Passes.{PassState, is_active}
use Rattle.store_relation.specs.Readers.{AreReaders, ReaderState, reader_of}
use Rattle.store_relation.specs.Shared.{IsShared, inserted_by_pass, sum_below}
use Rattle.store_relation.specs.Steps.{with_readers}
use Rattle.store_relation.proofs.AccountLemmas.{meets_told}
use Rattle.store_relation.proofs.ListLemmas.{prefix_trans}
use Rattle.store_relation.proofs.ReaderLemmas.{readers_joined, readers_split}
use Rattle.store_relation.proofs.StepLemmas.{lends}
use Rattle.cells_model.specs.Noted.{AreNoted}
use Rattle.cells_model.specs.Reads.{IsReading}
use Rattle.rule_model.specs.Places.{Layout}
use Rattle.rule_model.specs.Sight.{ReadState, Sight, HasPass, cells_of, no_reads, no_sight, with_pass}
use Rattle.rule_model.specs.Rule.{IsStored, IsStoreRule, IsStoreTable, active_of, announced_of, leaves_now, noted_of, rows_now, start_of, sweep_of, words_of}
use Rattle.rule_model.specs.ViewSteps.{HeapIsOfNoAccount, IsKnownTo, OfEachView, ReaderIsJoined, ReaderIsSplit, SeatSplits, SeatsJoin, joined, reader_seat}
use Rattle.rule_model.proofs.FrameLemmas.{M, S, part_same, readers_set}

-- no commits are of every journal
no_commits : (commits : List Commit) → IsPrefix [] commits
no_commits commits = (commits, refl)

-- what a view knows is of the journal
known_front : {z : Config} {at : Layout} {heap : Global} {s : S} (r : IsStoreRule z at heap s) (id : ℕ)
    (v : Sight) → get_elem? s.views id ≡ some v
    → (commits : List Commit) → IsKnownTo v commits → IsPrefix commits (r.known.journal 0).commits
known_front r id v here commits (inl none) =
    subst (λ l. IsPrefix l (r.known.journal 0).commits) (sym none) (no_commits (r.known.journal 0).commits)
known_front r id v here commits (inr (inl told)) =
    prefix_trans commits v.told (r.known.journal 0).commits told (r.told id v here)
known_front r id v here commits (inr (inr h)) = prefix_trans commits (h.1).seen (r.known.journal 0).commits h.3
    (subst (λ (u : PassState). IsPrefix u.seen (r.known.journal 0).commits) (r.passes id v h.0 h.1 here h.2).1
    (r.stored.shared.each h.0).seen)

pub seat_splits : OfEachView SeatSplits
seat_splits z at heap id v left right cut s r here = record {
  apart = r.apart;
  known = r.known;
  pass_keeper = moved r.pass_keeper right.passes (length s.views);
  pin_keeper = moved r.pin_keeper right.pins (length s.views);
  cell_keeper = moved r.cell_keeper right.cells (length s.views);
  index_keeper = moved r.index_keeper right.indexes (length s.views);
  journal_keeper = moved r.journal_keeper right.journals (length s.views);
  passes = kept_split (λ (u : Sight). u.passes) s.views r.known.pass r.pass_keeper r.passes id v here left right
      cut.passes.left_kept cut.passes.right_kept;
  pins = kept_split (λ (u : Sight). u.pins) s.views r.known.pin r.pin_keeper r.pins id v here left right
      cut.pins.left_kept cut.pins.right_kept;
  cells = kept_split (λ (u : Sight). u.cells) s.views r.known.cell r.cell_keeper r.cells id v here left right
      cut.cells.left_kept cut.cells.right_kept;
  indexes = kept_split (λ (u : Sight). u.indexes) s.views r.known.index r.index_keeper r.indexes id v here left
      right cut.indexes.left_kept cut.indexes.right_kept;
  journals = kept_split (λ (u : Sight). u.journals) s.views r.known.journal r.journal_keeper r.journals id v
      here left right cut.journals.left_kept cut.journals.right_kept;
  told = λ seat u e. elim (at_end (set s.views id left) right u seat e) as
      (λ _. IsPrefix u.told (r.known.journal 0).commits) [
        | inr t ↦ subst (λ (x : Sight). IsPrefix x.told (r.known.journal 0).commits) t.1
            (known_front r id v here right.told cut.right_told)
        | inl l ↦ ⊎_elim
            (λ (t : (seat ≡ id) × (left ≡ u)). subst (λ x. IsPrefix x (r.known.journal 0).commits) (sym cut.told
            ∙ ap (λ (x : Sight). x.told) t.1) (r.told id v here))
            (λ (t : (seat ≢ id) × (get_elem? s.views seat ≡ some u)). r.told seat u t.1)
            (at_set s.views id seat left u l.1)
      ];
  readers = subst (AreReaders r.known.pass (r.known.journal 0).commits)
      (sym (flat_map-append (λ (u : Sight). u.readers) (set s.views id left) (right ∷ [])
      ∙ (λ i. readers_set s.views id v left here cut.readers i ++ (cut.right_readers i ++ []))
      ∙ append-nil (flat_map (λ (u : Sight). u.readers) s.views))) r.readers;
  reads = λ seat u q e has. elim (at_end (set s.views id left) right u seat e) as
      (λ _. IsReading (cells_of z) r.known.cell q) [
        | inr t ↦ let f : None ≡ Some q = sym cut.right_reads ∙ ap (λ (x : Sight). x.reads.reading) t.1 ∙ has in
            cc
        | inl l ↦ ⊎_elim
            (λ (t : (seat ≡ id) × (left ≡ u)). r.reads id v q here
            (ap (λ (x : ReadState). x.reading) (sym cut.reads) ∙ ap (λ (x : Sight). x.reads.reading) t.1 ∙ has))
            (λ (t : (seat ≢ id) × (get_elem? s.views seat ≡ some u)). r.reads seat u q t.1 has)
            (at_set s.views id seat left u l.1)
      ];
  stored = r.stored;
}

pub seats_join : OfEachView SeatsJoin
seats_join z at heap id v other w alone s r here apart there =
    let both = joined v w in
    let k = r.known in
    let told_w : IsPrefix w.told (k.journal 0).commits =
    ⊎_elim (λ (t : (other ≡ id) × (both ≡ w)). absurd (apart t.0))
    (λ (t : (other ≢ id) × (get_elem? s.views other ≡ some w)). r.told other w t.1)
    (at_set s.views id other both w there) in
    let told_both : IsPrefix both.told (k.journal 0).commits =
    (meets_told v.told w.told (k.journal 0).commits (r.told id v here) told_w).2 in
    record {
      apart = r.apart;
      known = k;
      pass_keeper = moved r.pass_keeper w.passes id;
      pin_keeper = moved r.pin_keeper w.pins id;
      cell_keeper = moved r.cell_keeper w.cells id;
      index_keeper = moved r.index_keeper w.indexes id;
      journal_keeper = moved r.journal_keeper w.journals id;
      passes = kept_join (λ (u : Sight). u.passes) s.views k.pass r.pass_keeper r.passes id v here other w both
          no_sight apart there refl refl;
      pins = kept_join (λ (u : Sight). u.pins) s.views k.pin r.pin_keeper r.pins id v here other w both no_sight
          apart there refl refl;
      cells = kept_join (λ (u : Sight). u.cells) s.views k.cell r.cell_keeper r.cells id v here other w both
          no_sight apart there refl refl;
      indexes = kept_join (λ (u : Sight). u.indexes) s.views k.index r.index_keeper r.indexes id v here other w
          both no_sight apart there refl refl;
      journals = kept_join (λ (u : Sight). u.journals) s.views k.journal r.journal_keeper r.journals id v here
          other w both no_sight apart there refl refl;
      told = λ seat u e. ⊎_elim
          (λ (t : (seat ≡ other) × (no_sight ≡ u)). subst
          (λ (x : Sight). IsPrefix x.told (k.journal 0).commits) t.1 (no_commits (k.journal 0).commits))
          (λ (t : (seat ≢ other) × (get_elem? (set s.views id both) seat ≡ some u)). ⊎_elim
          (λ (m : (seat ≡ id) × (both ≡ u)). subst
          (λ (x : Sight). IsPrefix x.told (k.journal 0).commits) m.1 told_both)
          (λ (m : (seat ≢ id) × (get_elem? s.views seat ≡ some u)). r.told seat u m.1)
          (at_set s.views id seat both u t.1))
          (at_set (set s.views id both) other seat no_sight u e);
      readers = subst (AreReaders k.pass (k.journal 0).commits)
          (sym (readers_set (set s.views id both) other w no_sight there (sym alone)
          ∙ readers_set s.views id v both here refl)) r.readers;
      reads = λ seat u q e has. ⊎_elim
          (λ (t : (seat ≡ other) × (no_sight ≡ u)). let f : None ≡ Some q = ap
          (λ (x : Sight). x.reads.reading) t.1 ∙ has in cc)
          (λ (t : (seat ≢ other) × (get_elem? (set s.views id both) seat ≡ some u)). ⊎_elim
          (λ (m : (seat ≡ id) × (both ≡ u)). r.reads id v q here (ap (λ (x : Sight). x.reads.reading) m.1
          ∙ has))
          (λ (m : (seat ≢ id) × (get_elem? s.views seat ≡ some u)). r.reads seat u q m.1 has)
          (at_set s.views id seat both u t.1))
          (at_set (set s.views id both) other seat no_sight u e);
      stored = r.stored;
    }

pub heap_is_of_no_account : HeapIsOfNoAccount
heap_is_of_no_account z at id v left right all s r here = (r.0, all r.0 s r.1 here)

-- so may each step; a lemma and no clause, since what a step tells is any type
pub any_heap : (z : Config) (at : Layout) (slots id : ℕ) (me : M) (i : ℕ) (f : ℕ → ℕ) (told : ℕ → M → Type 0)
    → ((heap : Global) → Allows (IsStoreRule z at heap) slots id me i f told)
    → Allows (IsStoreTable z at) slots id me i f told
any_heap z at slots id me i f told all s r homes here small =
    let t = all r.0 s r.1 homes here small in
    (t.0, t.1, t.2, (r.0, t.3), t.4)

-- ---- readers

-- a list has what was set in it
set_here : {A : Type 0} (l : List A) (i : ℕ) (a b : A) → get_elem? l i ≡ some a
    → get_elem? (set l i b) i ≡ some b
set_here [] i a b e = absurd (some-ne-none a (sym e))
set_here (x ∷ xs) zero a b e = refl
set_here (x ∷ xs) (suc i) a b e = set_here xs i a b e

-- what is set twice is set
set_twice : {A : Type 0} (l : List A) (i : ℕ) (a : A) → set (set l i a) i a ≡ set l i a
set_twice [] i a = refl
set_twice (x ∷ xs) zero a = refl
set_twice (x ∷ xs) (suc i) a = ap (λ l. x ∷ l) (set_twice xs i a)

-- a seat that keeps what it kept, and a new one that keeps nothing
cut_note : {A V : Type 0} (part : V → List (ℕ × A)) (views : List V) (content : ℕ → A) (keeper : ℕ → ℕ)
    → Keeps part views content keeper
    → (id : ℕ) (v left right : V) → get_elem? views id ≡ some v → part left ≡ part v → part right ≡ []
    → Keeps part (set views id left ++ right ∷ []) content
    (moved keeper (part right) (length (set views id left)))
cut_note part views content keeper is id v left right here same none =
    subst (λ l. Keeps part (l ++ right ∷ []) content (moved keeper (part right) (length (set views id left))))
    (set_twice views id left)
    (kept_split part (set views id left) content keeper
    (kept_same part views content keeper is id v here left same) id left
    (set_here views id v left here) left right
    (λ n a e. (e, ap (λ l. kept_at l n) none))
    (λ n a e. let f : None ≡ Some a = ap (λ l. kept_at l n) (sym none) ∙ e in cc))

-- a seat that keeps what it kept, while another one is spent that kept nothing
kept_spent : {A V : Type 0} (part : V → List (ℕ × A)) (views : List V) (content : ℕ → A) (keeper : ℕ → ℕ)
    → Keeps part views content keeper
    → (id : ℕ) (v left : V) → get_elem? views id ≡ some v → part left ≡ part v
    → (other : ℕ) (w spent : V) → get_elem? (set views id left) other ≡ some w → part spent ≡ part w
    → Keeps part (set (set views id left) other spent) content keeper
kept_spent part views content keeper is id v left here same other w spent there none =
    kept_same part (set views id left) content keeper
    (kept_same part views content keeper is id v here left same) other w there spent none

-- a pass that counts its readers otherwise
module _ {z : Config} {at : Layout} {heap : Global} {s : S} (r : IsStoreRule z at heap s) (id : ℕ) (v : Sight)
    (here : get_elem? s.views id ≡ some v)
    (p : ℕ) (st : PassState) (has : HasPass v p st) (F : PassState → ℕ) where
  counts : PassState → PassState
  counts u = with_readers u (F u)

  counted : Sight
  counted = with_pass v p (counts st)

  pass_now : ℕ → PassState
  pass_now = put r.known.pass p (counts st)

  is_st : r.known.pass p ≡ st
  is_st = (r.passes id v p st here has).1

  passes_now : Keeps (λ (u : Sight). u.passes) (set s.views id counted) pass_now r.pass_keeper
  unfolding pass_now counted
  passes_now = kept_news (λ (u : Sight). u.passes) s.views r.known.pass r.pass_keeper r.passes id v here counted
      ((p, counts st) ∷ []) refl (one_kept v.passes p st (counts st) has)

  stored_now : IsStored z heap (words_of z at s.words) (record r.known { pass = pass_now })
  unfolding pass_now counts
  stored_now =
      let old = r.stored in
      let k = r.known in
      let words = words_of z at s.words in
      let actives : ◌≡◌ {A = ℕ → Bool} (active_of k.pass) (active_of pass_now) =
      sym (part_same (λ (u : PassState). is_active u.stage) k.pass p (counts st)
      (ap (λ (u : PassState). is_active u.stage) (sym is_st))) in
      let starts : ◌≡◌ {A = ℕ → ℕ} (start_of k.pass) (start_of pass_now) =
      sym (part_same (λ (u : PassState). u.start) k.pass p (counts st)
      (ap (λ (u : PassState). u.start) (sym is_st))) in
      let made : ◌≡◌ {A = ℕ → ℕ} (λ q. inserted_by_pass z.kind (k.pass q))
      (λ q. inserted_by_pass z.kind (pass_now q))
      = sym (part_same (inserted_by_pass z.kind) k.pass p (counts st)
      (ap (inserted_by_pass z.kind) (sym is_st))) in
      record {
        shared = subst (λ (u : PassState). IsShared z words.pass (put k.pass p (with_readers u (F u)))
            (k.journal 0) (rows_now heap k) words.clock) is_st (lends old.shared p (F (k.pass p)));
        indexed = old.indexed;
        leaves = old.leaves;
        weighed = subst (λ (f : ℕ → ℕ). weight (leaves_now heap k) ≤ sum_below f z.passes) made old.weighed;
        blocks = old.blocks;
        pinned = subst (λ (u : (ℕ → Bool) × (ℕ → ℕ)). IsPinned words.pin u.0 u.1 (announced_of k.pin)
            (sweep_of k.pin) words.clock) (λ i. (actives i, starts i)) old.pinned;
        noted = subst (λ (u : (ℕ → Bool) × (ℕ → ℕ)). AreNoted (k.index 0).index u.0 u.1 (noted_of k.pin)
            (sweep_of k.pin) (k.index 0).sweeper) (λ i. (actives i, starts i)) old.noted;
        fast = λ o l on among. old.fast o l (ap (λ (u : ℕ → Bool). u o) actives ∙ on) among;
      }

pub reader_is_split : OfEachView ReaderIsSplit
unfolding counts counted pass_now
reader_is_split z at heap id v p st has opened s r here =
    let k = r.known in
    let F : PassState → ℕ = (λ u. u.readers_out + 1) in
    let left : Sight = counted r id v here p st has F in
    let right : Sight = reader_seat (reader_of (λ _. st) p) [] no_reads in
    let views : List Sight = set s.views id left in
    let mine : get_elem? views id ≡ some left = set_here s.views id v left here in
    let again : set views id left ≡ views = set_twice s.views id left in
    let h = r.stored.shared.each p in
    let st_is = is_st r id v here p st has F in
    record {
      apart = r.apart;
      known = record k { pass = pass_now r id v here p st has F };
      pass_keeper = moved r.pass_keeper right.passes (length views);
      pin_keeper = moved r.pin_keeper right.pins (length views);
      cell_keeper = moved r.cell_keeper right.cells (length views);
      index_keeper = moved r.index_keeper right.indexes (length views);
      journal_keeper = moved r.journal_keeper right.journals (length views);
      passes = subst (λ l. Keeps (λ (u : Sight). u.passes) (l ++ right ∷ []) (pass_now r id v here p st has F)
          (moved r.pass_keeper right.passes (length views))) again
          (kept_split (λ (u : Sight). u.passes) views (pass_now r id v here p st has F) r.pass_keeper
          (passes_now r id v here p st has F) id left mine left right (λ n a e. (e, refl)) (λ n a e. cc));
      pins = cut_note (λ (u : Sight). u.pins) s.views k.pin r.pin_keeper r.pins id v left right here refl refl;
      cells = cut_note (λ (u : Sight). u.cells) s.views k.cell r.cell_keeper r.cells id v left right here refl
          refl;
      indexes = cut_note (λ (u : Sight). u.indexes) s.views k.index r.index_keeper r.indexes id v left right
          here refl refl;
      journals = cut_note (λ (u : Sight). u.journals) s.views k.journal r.journal_keeper r.journals id v left
          right here refl refl;
      told = λ seat u e. elim (at_end views right u seat e) as (λ _. IsPrefix u.told (k.journal 0).commits) [
        | inr t ↦ subst (λ (x : Sight). IsPrefix x.told (k.journal 0).commits) t.1
            (no_commits (k.journal 0).commits)
        | inl l ↦ ⊎_elim
            (λ (t : (seat ≡ id) × (left ≡ u)). subst (λ x. IsPrefix x (k.journal 0).commits)
            (ap (λ (x : Sight). x.told) t.1) (r.told id v here))
            (λ (t : (seat ≢ id) × (get_elem? s.views seat ≡ some u)). r.told seat u t.1)
            (at_set s.views id seat left u l.1)
      ];
      readers = subst (AreReaders (pass_now r id v here p st has F) (k.journal 0).commits)
          (sym (flat_map-append (λ (u : Sight). u.readers) views (right ∷ [])
          ∙ (λ i. readers_set s.views id v left here refl i ++ (reader_of (λ _. st) p ∷ []))))
          (subst (λ (u : PassState). AreReaders (put k.pass p (with_readers u (u.readers_out + 1)))
          (k.journal 0).commits (flat_map (λ (x : Sight). x.readers) s.views ++ reader_of (λ _. u) p ∷ []))
          st_is
          (readers_split k.pass (k.journal 0).commits (flat_map (λ (x : Sight). x.readers) s.views) r.readers p
          (ap (λ (u : PassState). u.stage) st_is ∙ opened) h.seen h.started));
      reads = λ seat u q e want. elim (at_end views right u seat e) as (λ _. IsReading (cells_of z) k.cell q) [
        | inr t ↦ let f : None ≡ Some q = ap (λ (x : Sight). x.reads.reading) t.1 ∙ want in cc
        | inl l ↦ ⊎_elim
            (λ (t : (seat ≡ id) × (left ≡ u)). r.reads id v q here (ap (λ (x : Sight). x.reads.reading) t.1
            ∙ want))
            (λ (t : (seat ≢ id) × (get_elem? s.views seat ≡ some u)). r.reads seat u q t.1 want)
            (at_set s.views id seat left u l.1)
      ];
      stored = stored_now r id v here p st has F;
    }

-- a view's readers stand together among those of all
readers_at : (views : List Sight) (i : ℕ) (w : Sight) → get_elem? views i ≡ some w
    → (front back : List ReaderState) × (flat_map (λ (u : Sight). u.readers) views ≡ front ++
    (w.readers ++ back))
    × ((x : Sight) → flat_map (λ (u : Sight). u.readers) (set views i x) ≡ front ++ (x.readers ++ back))
readers_at [] i w e = absurd (some-ne-none w (sym e))
readers_at (u ∷ views) zero w e = let is : u ≡ w = some-injective u w e in (
  [],
  flat_map (λ (y : Sight). y.readers) views,
  flat_map-cons (λ (y : Sight). y.readers) u views
      ∙ ap (λ (x : Sight). x.readers ++ flat_map (λ (y : Sight). y.readers) views) is,
  λ x. flat_map-cons (λ (y : Sight). y.readers) x views,
)
readers_at (u ∷ views) (suc i) w e =
    let t = readers_at views i w e in (
      u.readers ++ t.0,
      t.1,
      flat_map-cons (λ (y : Sight). y.readers) u views ∙ ap (λ l. u.readers ++ l) t.2
          ∙ sym (append_assoc u.readers t.0 (w.readers ++ t.1)),
      λ x. flat_map-cons (λ (y : Sight). y.readers) u (set views i x) ∙ ap (λ l. u.readers ++ l) (t.3 x)
          ∙ sym (append_assoc u.readers t.0 (x.readers ++ t.1)),
    )

pub reader_is_joined : OfEachView ReaderIsJoined
unfolding counts counted pass_now
reader_is_joined z at heap id v p st other x told reads has mine s r here apart there =
    let k = r.known in
    let F : PassState → ℕ = (λ u. u.readers_out - 1) in
    let w : Sight = reader_seat x told reads in
    let left : Sight = counted r id v here p st has F in
    let views : List Sight = set s.views id left in
    let st_is = is_st r id v here p st has F in
    let parts = readers_at views other w there in
    let were : flat_map (λ (u : Sight). u.readers) s.views ≡ parts.0 ++ x ∷ parts.1 =
    sym (readers_set s.views id v left here refl) ∙ parts.2 in
    let less : PassState → PassState = (λ u. with_readers u (u.readers_out - 1)) in
    let are : AreReaders (put k.pass x.by.job (less (k.pass x.by.job))) (k.journal 0).commits
    (parts.0 ++ parts.1)
    = readers_joined k.pass (k.journal 0).commits parts.0 parts.1 x
    (subst (AreReaders k.pass (k.journal 0).commits) were r.readers) in
    record {
      apart = r.apart;
      known = record k { pass = pass_now r id v here p st has F };
      pass_keeper = r.pass_keeper;
      pin_keeper = r.pin_keeper;
      cell_keeper = r.cell_keeper;
      index_keeper = r.index_keeper;
      journal_keeper = r.journal_keeper;
      passes = kept_same (λ (u : Sight). u.passes) views (pass_now r id v here p st has F) r.pass_keeper
          (passes_now r id v here p st has F) other w there no_sight refl;
      pins = kept_spent (λ (u : Sight). u.pins) s.views k.pin r.pin_keeper r.pins id v left here refl other w
          no_sight there refl;
      cells = kept_spent (λ (u : Sight). u.cells) s.views k.cell r.cell_keeper r.cells id v left here refl other
          w no_sight there refl;
      indexes = kept_spent (λ (u : Sight). u.indexes) s.views k.index r.index_keeper r.indexes id v left here
          refl other w no_sight there refl;
      journals = kept_spent (λ (u : Sight). u.journals) s.views k.journal r.journal_keeper r.journals id v left
          here refl other w no_sight there refl;
      told = λ seat u e. ⊎_elim
          (λ (t : (seat ≡ other) × (no_sight ≡ u)). subst
          (λ (y : Sight). IsPrefix y.told (k.journal 0).commits) t.1 (no_commits (k.journal 0).commits))
          (λ (t : (seat ≢ other) × (get_elem? views seat ≡ some u)). ⊎_elim
          (λ (m : (seat ≡ id) × (left ≡ u)). subst (λ l. IsPrefix l (k.journal 0).commits)
          (ap (λ (y : Sight). y.told) m.1) (r.told id v here))
          (λ (m : (seat ≢ id) × (get_elem? s.views seat ≡ some u)). r.told seat u m.1)
          (at_set s.views id seat left u t.1))
          (at_set views other seat no_sight u e);
      readers = subst (AreReaders (pass_now r id v here p st has F) (k.journal 0).commits)
          (sym (parts.3 no_sight))
          (subst (λ (u : PassState). AreReaders (put k.pass p (less u)) (k.journal 0).commits
          (parts.0 ++ parts.1)) st_is
          (subst (λ q. AreReaders (put k.pass q (less (k.pass q))) (k.journal 0).commits
          (parts.0 ++ parts.1)) mine are));
      reads = λ seat u q e want. ⊎_elim
          (λ (t : (seat ≡ other) × (no_sight ≡ u)). let f : None ≡ Some q = ap
          (λ (y : Sight). y.reads.reading) t.1 ∙ want in cc)
          (λ (t : (seat ≢ other) × (get_elem? views seat ≡ some u)). ⊎_elim
          (λ (m : (seat ≡ id) × (left ≡ u)). r.reads id v q here (ap (λ (y : Sight). y.reads.reading) m.1
          ∙ want))
          (λ (m : (seat ≢ id) × (get_elem? s.views seat ≡ some u)). r.reads seat u q m.1 want)
          (at_set s.views id seat left u t.1))
          (at_set views other seat no_sight u e);
      stored = stored_now r id v here p st has F;
    }
