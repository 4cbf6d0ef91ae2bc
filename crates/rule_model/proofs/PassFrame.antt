-- A step after which one pass is in another state, with the journal or without it, and no row has changed.
use Rattle.std.proofs.Common.{◌≡◌, ◌⊎◌, ℕ, ◌≤◌, List, [], ◌∷◌, ◌++◌, set, sym, ◌∙◌, ap, subst, arith, append-nil}
use Rattle.std.specs.Prelude.{Bool, true, false, Option, Some, None, slice_index}
use Rattle.std.specs.List.{flat_map}
use Rattle.std.specs.declared.alloc.Global.{Global}
use mathlib.Core.List.{IsPrefix}
use mathlib.Core.Logic.{dite}
use mathlib.Core.Option.{some}
use native.Mathlib.Decide.{ℕ_discrete}
use lib.ListN.{get_elem?}
use Rattle.atomic_table.specs.Table.{keeps, stepped}
use Rattle.txn_manager.specs.declared.config.Config.{Config}
use Rattle.seat_views.specs.Keeping.{put, revised, AreKept}
use Rattle.seat_views.proofs.NumberLemmas.{none_kept, one_kept, put_here, put_else}
use Rattle.epoch_reclaim.specs.Pinned.{IsPinned}
use Rattle.store_relation.specs.Passes.{PassState, is_active, made_of}
use Rattle.store_relation.specs.Readers.{IsSameTxn}
use Rattle.store_relation.specs.Shared.{IsShared, JournalState, inserted_by_pass}
use Rattle.store_relation.proofs.ListLemmas.{prefix_all}
use Rattle.store_relation.proofs.ReaderLemmas.{none_out, readers_put}
use Rattle.store_relation.specs.declared.stage.Stage.TheVariants.{Open}
use Rattle.cells_model.specs.Noted.{IsAmong, AreNoted}
use Rattle.rule_model.specs.Places.{Layout}
use Rattle.rule_model.specs.Sight.{Sight, News, HasPass, HasJournal, no_news, with_news, with_commit, with_pass}
use Rattle.rule_model.specs.Rule.{IsStoreRule, active_of, announced_of, noted_of, rows_now, start_of, sweep_of, words_of}
use Rattle.rule_model.proofs.CountLemmas.{count_grows, made_counts}
use Rattle.rule_model.proofs.FrameLemmas.{S, M, loaded, own_read, part_put, part_same, pass_is, steps_to}

module _ {z : Config} {at : Layout} {heap : Global} {s : S} (r : IsStoreRule z at heap s) (id : ℕ) (me : M)
    (here : get_elem? s.views id ≡ some me.0) (p : ℕ) where
  -- the words of the table
  abbrev pub word : ℕ → ℕ
  word = (words_of z at s.words).pass

  abbrev pub clock : ℕ
  clock = (words_of z at s.words).clock

  abbrev pub pin : ℕ → ℕ
  pin = (words_of z at s.words).pin

  -- what a step has to show of the pass's state, of the journal, of its words and of the clock then
  pub record PassMoves (st' : PassState) (j' : JournalState) (word' : ℕ → ℕ) (clock' : ℕ) : Type 0 where
    pub shared : IsShared z word' (put r.known.pass p st') j' (rows_now heap r.known) clock'
    pub journal : IsPrefix (r.known.journal 0).commits j'.commits
    pub readers : ((r.known.pass p).readers_out ≡ 0) ⊎ IsSameTxn (r.known.pass p) st'
    pub out : st'.readers_out ≡ (r.known.pass p).readers_out
    pub grows : inserted_by_pass z.kind (r.known.pass p) ≤ inserted_by_pass z.kind st'
    pub pinned : IsPinned pin (put (active_of r.known.pass) p (is_active st'.stage))
        (put (start_of r.known.pass) p st'.start)
        (announced_of r.known.pin) (sweep_of r.known.pin) clock'
    pub noted : AreNoted (r.known.index 0).index (put (active_of r.known.pass) p (is_active st'.stage))
        (put (start_of r.known.pass) p st'.start)
        (noted_of r.known.pin) (sweep_of r.known.pin) (r.known.index 0).sweeper
    pub fast : is_active st'.stage ≡ true → (l : ℕ) → IsAmong l (noted_of r.known.pin p)
        → announced_of r.known.pin p ≡ false

  abbrev News_of : PassState → List (ℕ × JournalState) → News
  News_of st' js = record no_news { passes = (p, st') ∷ []; journals = js }

  by_known : (st st' : PassState) → HasPass me.0 p st → (js : List (ℕ × JournalState))
      → AreKept me.0.journals js → (i x : ℕ) (word' : ℕ → ℕ) (clock' : ℕ)
      → words_of z at (set s.words i x) ≡ record (words_of z at s.words) { pass = word'; clock = clock' }
      → PassMoves st' (revised r.known.journal js 0) word' clock'
      → IsStoreRule z at heap (stepped s i x id me.1 (with_news me.0 (News_of st' js) me.0.reads) keeps)
  by_known st st' has js has_js i x word' clock' is m =
      let k = r.known in
      let old = r.stored in
      let actives : ◌≡◌ {A = ℕ → Bool} (put (active_of k.pass) p (is_active st'.stage))
      (active_of (put k.pass p st')) = sym (part_put (λ (u : PassState). is_active u.stage) k.pass p st') in
      let starts : ◌≡◌ {A = ℕ → ℕ} (put (start_of k.pass) p st'.start) (start_of (put k.pass p st')) =
      sym (part_put (λ (u : PassState). u.start) k.pass p st') in
      let weight = old.weighed in
      let more = count_grows z k.pass p st' m.grows in
      steps_to r id me here i x (record (words_of z at s.words) { pass = word'; clock = clock' })
      (News_of st' js) me.0.reads is
      (record {
        passes = one_kept me.0.passes p st st' has;
        pins = none_kept me.0.pins;
        cells = none_kept me.0.cells;
        indexes = none_kept me.0.indexes;
        journals = has_js;
      })
      (record {
        grows = m.journal;
        readers = readers_put k.pass (k.journal 0).commits
            (flat_map (λ (u : Sight). u.readers) s.views) r.readers p st'
            (revised k.journal js 0).commits m.journal m.readers m.out;
        others = λ q h. h;
        own = own_read r id me here;
      })
      (record {
        shared = m.shared;
        indexed = old.indexed;
        leaves = old.leaves;
        weighed = omega (arith, weight, more);
        blocks = old.blocks;
        pinned = subst (λ (u : (ℕ → Bool) × (ℕ → ℕ)). IsPinned pin u.0 u.1 (announced_of k.pin)
            (sweep_of k.pin) clock') (λ i. (actives i, starts i)) m.pinned;
        noted = subst (λ (u : (ℕ → Bool) × (ℕ → ℕ)). AreNoted (k.index 0).index u.0 u.1 (noted_of k.pin)
            (sweep_of k.pin) (k.index 0).sweeper) (λ i. (actives i, starts i)) m.noted;
        fast = λ o l. dite (ℕ_discrete o p)
            (λ same on among. ap (announced_of k.pin) same
            ∙ m.fast (ap (λ (u : PassState). is_active u.stage)
            (sym (ap (put k.pass p st') same ∙ put_here k.pass p st'))
            ∙ on) l (subst (λ n. IsAmong l (noted_of k.pin n)) same among))
            (λ other on. old.fast o l (ap (λ (u : PassState). is_active u.stage)
            (sym (put_else k.pass p st' o other)) ∙ on));
      })

  module _ (st : PassState) (has : HasPass me.0 p st) (F : PassState → PassState) where
    -- the pass alone
    pub by_pass : (i x : ℕ) (word' : ℕ → ℕ)
        → words_of z at (set s.words i x) ≡ record (words_of z at s.words) { pass = word' }
        → PassMoves (F (r.known.pass p)) (r.known.journal 0) word' clock
        → IsStoreRule z at heap (stepped s i x id me.1 (with_pass me.0 p (F st)) keeps)
    by_pass i x word' is m = subst (λ (u : PassState).
        IsStoreRule z at heap (stepped s i x id me.1 (with_pass me.0 p (F u)) keeps))
        (pass_is r id me here p st has)
        (by_known st (F (r.known.pass p)) has [] (none_kept me.0.journals) i x word' clock is m)

    -- the pass with the journal
    pub by_commit : (j j' : JournalState) → HasJournal me.0 j → (i x : ℕ) (word' : ℕ → ℕ) (clock' : ℕ)
        → words_of z at (set s.words i x) ≡ record (words_of z at s.words) { pass = word'; clock = clock' }
        → PassMoves (F (r.known.pass p)) j' word' clock'
        → IsStoreRule z at heap (stepped s i x id me.1 (with_commit me.0 p (F st) j') keeps)
    by_commit j j' has_j i x word' clock' is m =
        subst (λ (u : PassState). IsStoreRule z at heap
        (stepped s i x id me.1 (with_commit me.0 p (F u) j') keeps)) (pass_is r id me here p st has)
        (by_known st (F (r.known.pass p)) has ((0, j') ∷ [])
        (one_kept me.0.journals 0 j j' has_j) i x word' clock' is m)

  -- ---- what stays

  -- the transaction goes on, as pins, notes of leaves and the count see it
  pub record GoesOn (st' : PassState) : Type 0 where
    pub active : is_active st'.stage ≡ is_active (r.known.pass p).stage
    pub start : st'.start ≡ (r.known.pass p).start
    pub readers : ((r.known.pass p).readers_out ≡ 0) ⊎ IsSameTxn (r.known.pass p) st'
    pub out : st'.readers_out ≡ (r.known.pass p).readers_out
    pub made : made_of st' ≡ made_of (r.known.pass p)

  pub actives_same : (st' : PassState) → GoesOn st'
      → ◌≡◌ {A = ℕ → Bool} (active_of r.known.pass) (put (active_of r.known.pass) p (is_active st'.stage))
  actives_same st' on = sym (part_same (λ (b : Bool). b) (active_of r.known.pass) p
      (is_active st'.stage) on.active)

  pub starts_same : (st' : PassState) → GoesOn st'
      → ◌≡◌ {A = ℕ → ℕ} (start_of r.known.pass) (put (start_of r.known.pass) p st'.start)
  starts_same st' on = sym (part_same (λ (n : ℕ). n) (start_of r.known.pass) p st'.start on.start)

  -- then pins and notes stay
  pub still_moves : (st' : PassState) (j' : JournalState) (word' : ℕ → ℕ) → GoesOn st'
      → IsPrefix (r.known.journal 0).commits j'.commits
      → IsShared z word' (put r.known.pass p st') j' (rows_now heap r.known) clock
      → PassMoves st' j' word' clock
  still_moves st' j' word' on journal shared =
      let k = r.known in
      let old = r.stored in
      record {
        shared = shared;
        journal = journal;
        readers = on.readers;
        out = on.out;
        grows = made_counts z.kind (k.pass p) st' [] (on.made ∙ sym (append-nil (made_of (k.pass p))));
        pinned = subst (λ (u : (ℕ → Bool) × (ℕ → ℕ)). IsPinned pin u.0 u.1 (announced_of k.pin)
            (sweep_of k.pin) clock) (λ i. (actives_same st' on i, starts_same st' on i)) old.pinned;
        noted = subst (λ (u : (ℕ → Bool) × (ℕ → ℕ)). AreNoted (k.index 0).index u.0 u.1 (noted_of k.pin)
            (sweep_of k.pin) (k.index 0).sweeper)
            (λ i. (actives_same st' on i, starts_same st' on i)) old.noted;
        fast = λ active l among. old.fast p l (sym on.active ∙ active) among;
      }

  -- a load after which the pass says or has seen more
  pub by_quiet : (st : PassState) → HasPass me.0 p st → (F : PassState → PassState) (i : ℕ)
      → GoesOn (F (r.known.pass p))
      → IsShared z word (put r.known.pass p (F (r.known.pass p))) (r.known.journal 0)
      (rows_now heap r.known) clock
      → IsStoreRule z at heap (stepped s i (slice_index s.words i) id me.1 (with_pass me.0 p (F st)) keeps)
  by_quiet st has F i on shared = by_pass st has F i (slice_index s.words i) word (loaded r id me here i)
      (still_moves (F (r.known.pass p)) (r.known.journal 0) word on
      (prefix_all (r.known.journal 0).commits) shared)

  -- a pass that isn't open has no reader out
  pub none_out_of : ((r.known.pass p).stage ≡ Open → ⊥) → (r.known.pass p).readers_out ≡ 0
  none_out_of closed = none_out r.known.pass (r.known.journal 0).commits
      (flat_map (λ (u : Sight). u.readers) s.views) r.readers p closed

-- what no step of notes or of sight changes
pub same_txn : (st st' : PassState) → st'.stage ≡ st.stage → st'.past ≡ st.past → st'.own ≡ st.own
    → st'.start ≡ st.start → IsSameTxn st st'
same_txn st st' stage past own start = record {
  stage = stage;
  number = (λ i. Rattle.std.specs.Prelude.length
      (Rattle.std.specs.Prelude.cond (is_active (stage i))
      (Rattle.std.specs.Prelude.map (λ t. t.writes) (past i) ++ own i ∷ [])
      (Rattle.std.specs.Prelude.map (λ t. t.writes) (past i))));
  start = start;
  own = own;
}
