-- Begin, commit, abort and what was seen of the journal keep the rule.
use Rattle.std.proofs.Common.{◌≡◌, inl, inr, ℕ, ◌+◌, ◌*◌, ◌<◌, ◌≤◌, [], ◌∷◌, ◌++◌, length, refl, sym, ◌∙◌, ap, subst, arith, append-nil}
use Rattle.std.specs.Prelude.{true, false, cond, map, ◌||◌, Option, Some, None, slice_index}
use Rattle.std.specs.List.{AllByRecursion}
use Rattle.std.specs.declared.alloc.Global.{Global}
use Rattle.std.proofs.lemmas.Bool.{true≢false}
use mathlib.Core.List.{IsPrefix, map-append}
use mathlib.Core.Option.{some}
use lib.ListN.{get_elem?}
use Rattle.atomic_table.specs.Table.{keeps, stepped}
use Rattle.graph_model.specs.declared.limits.TheConstants.{SPLIT_ROWS}
use Rattle.graph_model.specs.declared.row.Key.{Key}
use Rattle.graph_model.specs.Effects.{any_writes, any_touches}
use Rattle.graph_model.specs.Legal.{IsLegal}
use Rattle.txn_manager.specs.declared.config.Config.{Config}
use Rattle.seat_views.specs.Keeping.{put}
use Rattle.seat_views.proofs.NumberLemmas.{none_kept, one_kept}
use Rattle.epoch_reclaim.specs.Pinned.{IsPinned}
use Rattle.epoch_reclaim.proofs.PinLemmas.{begins_pinned, ends_pinned}
use Rattle.store_relation.specs.declared.stage.Stage.{Stage}
use Rattle.store_relation.specs.declared.stage.Stage.TheVariants.{Idle, Open, Aborting, Committing}
use Rattle.store_model.specs.Stamped.{StampedVersions}
use Rattle.store_relation.specs.Passes.{EndedTxn, PassState, is_active, ended_writes, made_of, needs_room, number_of}
use Rattle.store_relation.specs.Shared.{IsMet, IsShared, JournalState, entries, inserted_by_all, longer_of, room_needed, sum_below}
use Rattle.store_relation.specs.Steps.{begun, committed, committing, ended, filled_up, published_now, refreshed, stopped, with_entry}
use Rattle.store_relation.specs.Words.{commit_word, ended_word, open_word}
use Rattle.store_relation.proofs.AccountLemmas.{meets_told}
use Rattle.store_relation.proofs.CommitLemmas.{publishes, rooms, stamps}
use Rattle.store_relation.proofs.EndLemmas.{clock_bound}
use Rattle.store_relation.proofs.ListLemmas.{prefix_all, prefix_length}
use Rattle.store_relation.proofs.SharedLemmas.{inside}
use Rattle.store_relation.proofs.StepLemmas.{begins, ends, fills, refreshes, stops}
use Rattle.cells_model.specs.Noted.{AreNoted}
use Rattle.cells_model.specs.InPlace.{segment_of}
use Rattle.cells_model.specs.Moved.{IsRoutedTo}
use Rattle.cells_model.proofs.MovedLemmas.{full_is_counted}
use Rattle.cells_model.proofs.NoteLemmas.{among_none, begins_noted, ends_noted}
use Rattle.rule_model.specs.Places.{Layout}
use Rattle.rule_model.specs.Sight.{PinState, IndexState, News, no_news, with_pass, with_journal, with_commit}
use Rattle.rule_model.specs.Rule.{IsStoreRule, active_of, announced_of, noted_of, rows_now, start_of, sweep_of, words_of}
use Rattle.rule_model.specs.Steps.{OfEachSeat}
use Rattle.rule_model.specs.TxnSteps.{AbortBegins, ClockIsLoaded, CommitIsPublished, JournalIsSeen, PassesMeet, RoomIsMade, StampIsStored, TransactionBegins, TransactionEnds, WriteIsFull}
use Rattle.rule_model.proofs.CountLemmas.{made_counts, sum_has}
use Rattle.rule_model.proofs.FrameLemmas.{S, M, by_nothing, cells_agree, index_is, journal_is, loaded, own_read, part_same, pass_is, pin_is, steps_to}
use Rattle.rule_model.proofs.PassFrame.{PassMoves, GoesOn, by_pass, by_commit, by_quiet, none_out_of, same_txn, still_moves}
use Rattle.rule_model.proofs.PlaceLemmas.{clock_stored, pass_stored}

-- a stage is one
no_open : {g h : Stage} → g ≡ h → (h ≡ Open → ⊥) → g ≡ Open → ⊥
no_open is never opened = never (sym is ∙ opened)

-- a transaction that has ended is the last of those made
ended_made : (st : PassState) (stamp : Option ℕ) → made_of (ended st stamp) ≡ ended_writes st ++ st.own ∷ []
ended_made st stamp = map-append (λ (t : EndedTxn). t.writes) st.past
    (record { writes = st.own; stamp = stamp } ∷ [])

-- there is room for the entry of an open transaction
room_for_open : {z : Config} {word : ℕ → ℕ} {pass : ℕ → PassState} {j : JournalState} {rows : Key → StampedVersions}
    {clock : ℕ} (s : IsShared z word pass j rows clock) (p : ℕ) → (pass p).stage ≡ Open → 0 < j.room
room_for_open {z = z} {pass = pass} s p opened =
    let one : room_needed (pass p) ≡ 1 = ap (λ (g : Stage). cond (needs_room g) 1 0) opened in
    let part = sum_has (λ q. room_needed (pass q)) z.passes p (inside s p (ap is_active opened)) in
    let all = s.counted.room in omega (arith, one, part, all)

-- ---- begin

pub clock_is_loaded : OfEachSeat ClockIsLoaded
clock_is_loaded z at heap slots id me p st j has has_j s r homes here small =
    let st_is = pass_is r id me here p st has in
    let j_is = journal_is r id me here j has_j in (
      me.0,
      keeps,
      tt,
      by_nothing r id me here at.clock me.0.reads (own_read r id me here),
      (
        refl,
        record {
          is = r.stored.shared.published ∙ ap (λ (u : JournalState). length u.commits) j_is;
          seen = subst (λ (u : PassState × JournalState). IsPrefix u.0.seen u.1.commits)
              (λ i. (st_is i, j_is i)) (r.stored.shared.each p).seen;
          bound = clock_bound r.stored.shared;
          legal = subst (λ (u : JournalState). IsLegal z.kind u.commits) j_is
              r.stored.shared.store.transactions.legal;
          room = λ opened. subst (λ (u : JournalState). 0 < u.room) j_is
              (room_for_open r.stored.shared p (ap (λ (u : PassState). u.stage) st_is ∙ opened));
        },
      ),
    )

pub room_is_made : OfEachSeat RoomIsMade
room_is_made z at heap slots id me j more has_j le s r homes here small =
    let k = r.known in
    let old = r.stored in
    let j_is = journal_is r id me here j has_j in
    let j' : JournalState → JournalState = (λ u. record u { room = more }) in
    let news : News = record no_news { journals = (0, j' (k.journal 0)) ∷ [] } in (
      with_journal me.0 (j' j),
      keeps,
      tt,
      subst (λ (u : JournalState). IsStoreRule z at heap
          (stepped s at.clock (slice_index s.words at.clock) id me.1 (with_journal me.0 (j' u)) keeps)) j_is
          (steps_to r id me here at.clock (slice_index s.words at.clock) (words_of z at s.words) news me.0.reads
          (loaded r id me here at.clock)
          (record {
            passes = none_kept me.0.passes;
            pins = none_kept me.0.pins;
            cells = none_kept me.0.cells;
            indexes = none_kept me.0.indexes;
            journals =
                one_kept me.0.journals 0 j (j' (k.journal 0)) has_j;
          })
          (record {
            grows = prefix_all (k.journal 0).commits;
            readers = r.readers;
            others = λ q h. h;
            own = own_read r id me here;
          })
          (record {
            shared = rooms old.shared more (subst (λ (u : JournalState). u.room ≤ more) (sym j_is) le);
            indexed = old.indexed;
            leaves = old.leaves;
            weighed = old.weighed;
            blocks = old.blocks;
            pinned = old.pinned;
            noted = old.noted;
            fast = old.fast;
          })),
      (refl, tt),
    )

pub transaction_begins : OfEachSeat TransactionBegins
transaction_begins z at heap slots id me p st x j has has_x has_j idle done in_p more roomy ready none s r homes
    here small =
    let k = r.known in
    let old = r.stored in
    let st_is = pass_is r id me here p st has in
    let x_is = pin_is r id me here p x has_x in
    let j_is = journal_is r id me here j has_j in
    let was : (k.pass p).stage ≡ Idle = ap (λ (u : PassState). u.stage) st_is ∙ idle in
    let noted_none : noted_of k.pin p ≡ [] = ap (λ (u : PinState). u.noted) x_is ∙ none in
    let clock = (words_of z at s.words).clock in
    let w' = put (words_of z at s.words).pass p open_word in
    let before : made_of (k.pass p) ≡ ended_writes (k.pass p) =
    ap (λ b. cond b (ended_writes (k.pass p) ++ (k.pass p).own ∷ []) (ended_writes (k.pass p)))
    (ap is_active was) in
    let moves : PassMoves r id me here p (begun (k.pass p) (k.journal 0)) (k.journal 0) w' clock = record {
      shared = begins old.shared p was (ap (λ (u : PassState). u.unstamped) st_is ∙ done) in_p
          (subst (λ (u : PassState). number_of u < z.txns_per_pass) (sym st_is) more)
          (subst (λ (u : JournalState). z.passes ≤ u.room) (sym j_is) roomy);
      journal = prefix_all (k.journal 0).commits;
      readers = inl (none_out_of r id me here p (no_open was (λ e. cc)));
      out = refl;
      grows = made_counts z.kind (k.pass p) (begun (k.pass p) (k.journal 0)) ((k.pass p).own ∷ [])
          (ap (λ ms. ms ++ (k.pass p).own ∷ []) (sym before));
      pinned = subst (λ n. IsPinned (words_of z at s.words).pin (put (active_of k.pass) p true)
          (put (start_of k.pass) p n) (announced_of k.pin) (sweep_of k.pin) clock) old.shared.published
          (begins_pinned (words_of z at s.words).pin (active_of k.pass) (start_of k.pass) (announced_of k.pin)
          (sweep_of k.pin) clock old.pinned p (ap (λ (u : PinState). u.announced) x_is ∙ ready));
      noted = begins_noted (k.index 0).index (active_of k.pass) (start_of k.pass) (noted_of k.pin)
          (sweep_of k.pin) (k.index 0).sweeper old.noted p (length (k.journal 0).commits) noted_none;
      fast = λ on l among. absurd (among_none l (noted_of k.pin p) noted_none among);
    } in (
      with_pass me.0 p (begun st j),
      keeps,
      tt,
      by_pass r id me here p st has (λ u. begun u j) (at.pass p) open_word w'
          (pass_stored at z.passes _ s.words r.apart p open_word in_p)
          (subst (λ (u : JournalState). PassMoves r id me here p (begun (k.pass p) u)
          (k.journal 0) w' clock) j_is moves),
      refl,
    )

-- ---- commit

pub stamp_is_stored : OfEachSeat StampIsStored
stamp_is_stored z at heap slots id me p st j has has_j opened alone wrote none s r homes here small =
    let k = r.known in
    let old = r.stored in
    let st_is = pass_is r id me here p st has in
    let j_is = journal_is r id me here j has_j in
    let was : (k.pass p).stage ≡ Open = ap (λ (u : PassState). u.stage) st_is ∙ opened in
    let on : is_active (k.pass p).stage ≡ true = ap is_active was in
    let word = (words_of z at s.words).pass in
    let clock = (words_of z at s.words).clock in
    let moves : PassMoves r id me here p (committing (k.pass p)) (with_entry (k.journal 0) p (k.pass p))
    (put word p (commit_word (length (k.journal 0).commits))) clock
    = still_moves r id me here p (committing (k.pass p)) (with_entry (k.journal 0) p (k.pass p))
    (put word p (commit_word (length (k.journal 0).commits)))
    (record {
      active = sym on;
      start = refl;
      readers = inl (ap (λ (u : PassState). u.readers_out) st_is ∙ alone);
      out = refl;
      made = ap (λ b. cond b (ended_writes (k.pass p) ++ (k.pass p).own ∷ []) (ended_writes (k.pass p)))
          (sym on);
    })
    (prefix_all (k.journal 0).commits)
    (stamps old.shared p was (subst (λ (u : PassState). 0 < length u.own) (sym st_is) wrote)
    (ap (λ (u : JournalState). u.next) j_is ∙ none)) in (
      with_commit me.0 p (committing st) (with_entry j p st),
      keeps,
      tt,
      by_commit r id me here p st has committing j (with_entry j p st) has_j (at.pass p)
          (commit_word (length j.commits)) (put word p (commit_word (length j.commits))) clock
          (pass_stored at z.passes _ s.words r.apart p (commit_word (length j.commits))
          (inside old.shared p on))
          (subst (λ (u : PassState × JournalState). PassMoves r id me here p (committing (k.pass p))
          (with_entry u.1 p u.0) (put word p (commit_word (length u.1.commits))) clock)
          (λ i. (st_is i, j_is i)) moves),
      refl,
    )

pub commit_is_published : OfEachSeat CommitIsPublished
commit_is_published z at heap slots id me p st j keys has has_j stored covers_all s r homes here small =
    let k = r.known in
    let old = r.stored in
    let st_is = pass_is r id me here p st has in
    let j_is = journal_is r id me here j has_j in
    let was : (k.pass p).stage ≡ Committing = ap (λ (u : PassState). u.stage) st_is ∙ stored in
    let word = (words_of z at s.words).pass in
    let clock = (words_of z at s.words).clock in
    let before : made_of (k.pass p) ≡ ended_writes (k.pass p) ++ (k.pass p).own ∷ []
    = ap (λ b. cond b (ended_writes (k.pass p) ++ (k.pass p).own ∷ []) (ended_writes (k.pass p)))
    (ap is_active was) in
    let next : clock + 1 ≡ length (k.journal 0).commits + 1 = ap (λ n. n + 1) old.shared.published in
    let st' : PassState = committed (k.pass p) (k.journal 0) keys in
    let moves : PassMoves r id me here p st' (published_now (k.journal 0)) word
    (length (k.journal 0).commits + 1) = record {
      shared = subst (λ n. IsShared z word (put k.pass p st') (published_now (k.journal 0))
          (rows_now heap k) n) next
          (publishes old.shared p keys was (λ q e.
          covers_all q (subst (λ (u : PassState).
          (any_writes z.kind u.own q || any_touches u.own q) ≡ true) st_is e)));
      journal = ((k.journal 0).next, refl);
      readers = inl (none_out_of r id me here p (no_open was (λ e. cc)));
      out = refl;
      grows = made_counts z.kind (k.pass p) st' []
          (ended_made (k.pass p) (Some (length (k.journal 0).commits + 1)) ∙ sym before
          ∙ sym (append-nil (made_of (k.pass p))));
      pinned = subst (λ (u : ℕ → ℕ). IsPinned (words_of z at s.words).pin (put (active_of k.pass) p false) u
          (announced_of k.pin) (sweep_of k.pin) (length (k.journal 0).commits + 1))
          (sym (part_same (λ (n : ℕ). n) (start_of k.pass) p (k.pass p).start refl))
          (ends_pinned (words_of z at s.words).pin (active_of k.pass) (start_of k.pass) (announced_of k.pin)
          (sweep_of k.pin) clock old.pinned p (length (k.journal 0).commits + 1) (omega (arith, next)));
      noted = subst (λ (u : ℕ → ℕ). AreNoted (k.index 0).index (put (active_of k.pass) p false) u
          (noted_of k.pin) (sweep_of k.pin) (k.index 0).sweeper)
          (sym (part_same (λ (n : ℕ). n) (start_of k.pass) p (k.pass p).start refl))
          (ends_noted (k.index 0).index (active_of k.pass) (start_of k.pass) (noted_of k.pin) (sweep_of k.pin)
          (k.index 0).sweeper old.noted p);
      fast = λ on. absurd (true≢false (sym on));
    } in (
      with_commit me.0 p (committed st j keys) (published_now j),
      keeps,
      tt,
      by_commit r id me here p st has (λ u. committed u j keys) j (published_now j) has_j at.clock
          (length j.commits + 1) word (length j.commits + 1)
          (clock_stored at z.passes _ s.words r.apart (length j.commits + 1))
          (subst (λ (u : JournalState). PassMoves r id me here p (committed (k.pass p) u keys)
          (published_now u) word (length u.commits + 1)) j_is moves),
      (
        refl,
        subst (λ (u : JournalState). IsLegal z.kind (entries u)) j_is moves.shared.store.transactions.legal,
      ),
    )

-- ---- abort

pub abort_begins : OfEachSeat AbortBegins
abort_begins z at heap slots id me p st has opened alone s r homes here small =
    let k = r.known in
    let st_is = pass_is r id me here p st has in
    let was : (k.pass p).stage ≡ Open = ap (λ (u : PassState). u.stage) st_is ∙ opened in
    let on : is_active (k.pass p).stage ≡ true = ap is_active was in (
      with_pass me.0 p (stopped st),
      keeps,
      tt,
      by_quiet r id me here p st has stopped at.clock
          (record {
            active = sym on;
            start = refl;
            readers = inl (ap (λ (u : PassState). u.readers_out) st_is ∙ alone);
            out = refl;
            made = ap (λ b. cond b (ended_writes (k.pass p) ++ (k.pass p).own ∷ []) (ended_writes (k.pass p)))
                (sym on);
          })
          (stops r.stored.shared p was),
      (refl, tt),
    )

pub transaction_ends : OfEachSeat TransactionEnds
transaction_ends z at heap slots id me p st has aborts none s r homes here small =
    let k = r.known in
    let old = r.stored in
    let st_is = pass_is r id me here p st has in
    let was : (k.pass p).stage ≡ Aborting = ap (λ (u : PassState). u.stage) st_is ∙ aborts in
    let on : is_active (k.pass p).stage ≡ true = ap is_active was in
    let word = (words_of z at s.words).pass in
    let clock = (words_of z at s.words).clock in
    let before : made_of (k.pass p) ≡ ended_writes (k.pass p) ++ (k.pass p).own ∷ []
    = ap (λ b. cond b (ended_writes (k.pass p) ++ (k.pass p).own ∷ []) (ended_writes (k.pass p))) on in
    let same_starts = sym (part_same (λ (n : ℕ). n) (start_of k.pass) p (k.pass p).start refl) in (
      with_pass me.0 p (ended st None),
      keeps,
      tt,
      by_pass r id me here p st has (λ u. ended u None) (at.pass p) ended_word (put word p ended_word)
          (pass_stored at z.passes _ s.words r.apart p ended_word (inside old.shared p on))
          (record {
            shared = ends old.shared p was (ap (λ (u : PassState). u.laid) st_is ∙ none);
            journal = prefix_all (k.journal 0).commits;
            readers = inl (none_out_of r id me here p (no_open was (λ e. cc)));
            out = refl;
            grows = made_counts z.kind (k.pass p) (ended (k.pass p) None) [] (ended_made (k.pass p) None
                ∙ sym before ∙ sym (append-nil (made_of (k.pass p))));
            pinned = subst (λ (u : ℕ → ℕ). IsPinned (words_of z at s.words).pin
                (put (active_of k.pass) p false) u (announced_of k.pin) (sweep_of k.pin) clock) same_starts
                (ends_pinned (words_of z at s.words).pin (active_of k.pass) (start_of k.pass)
                (announced_of k.pin) (sweep_of k.pin) clock old.pinned p clock (omega arith));
            noted = subst (λ (u : ℕ → ℕ). AreNoted (k.index 0).index (put (active_of k.pass) p false) u
                (noted_of k.pin) (sweep_of k.pin) (k.index 0).sweeper) same_starts
                (ends_noted (k.index 0).index (active_of k.pass) (start_of k.pass) (noted_of k.pin)
                (sweep_of k.pin) (k.index 0).sweeper old.noted p);
            fast = λ active. absurd (true≢false (sym active));
          }),
      refl,
    )

-- ---- what was seen

-- a state in which only what was seen or found is another
pub knows_more : {z : Config} {at : Layout} {heap : Global} {s : S} (r : IsStoreRule z at heap s) (id : ℕ)
    (me : M) (here : get_elem? s.views id ≡ some me.0) (p : ℕ) (st' : PassState)
    → st'.stage ≡ (r.known.pass p).stage → st'.past ≡ (r.known.pass p).past → st'.own ≡ (r.known.pass p).own
    → st'.start ≡ (r.known.pass p).start
    → st'.readers_out ≡ (r.known.pass p).readers_out → GoesOn r id me here p st'
knows_more r id me here p st' stage past own start out = record {
  active = ap is_active stage;
  start = start;
  readers = inr (same_txn (r.known.pass p) st' stage past own start);
  out = out;
  made = λ i. cond (is_active (stage i)) (map (λ (t : EndedTxn). t.writes) (past i) ++ own i ∷ [])
      (map (λ (t : EndedTxn). t.writes) (past i));
}

pub journal_is_seen : OfEachSeat JournalIsSeen
journal_is_seen z at heap slots id me p st j has has_j s r homes here small =
    let k = r.known in
    let st_is = pass_is r id me here p st has in
    let j_is = journal_is r id me here j has_j in
    let h = r.stored.shared.each p in
    let long = prefix_length (k.pass p).seen (k.journal 0).commits h.seen in
    let started = h.started in (
      with_pass me.0 p (refreshed st j.commits),
      keeps,
      tt,
      subst (λ (u : JournalState). IsStoreRule z at heap
          (stepped s at.clock (slice_index s.words at.clock) id me.1
          (with_pass me.0 p (refreshed st u.commits)) keeps)) j_is
          (by_quiet r id me here p st has (λ u. refreshed u (k.journal 0).commits) at.clock
          (knows_more r id me here p (refreshed (k.pass p) (k.journal 0).commits) refl refl refl refl refl)
          (refreshes r.stored.shared p (k.journal 0).commits (prefix_all (k.journal 0).commits)
          (omega (arith, long, started)))),
      (
        refl,
        record {
          is = r.stored.shared.published ∙ ap (λ (u : JournalState). length u.commits) j_is;
          seen = subst (λ (u : PassState × JournalState). IsPrefix u.0.seen u.1.commits)
              (λ i. (st_is i, j_is i)) h.seen;
          legal = subst (λ (u : JournalState). IsLegal z.kind u.commits) j_is
              r.stored.shared.store.transactions.legal;
          met = subst (λ (u : PassState × JournalState). AllByRecursion (IsMet z.kind u.1) u.0.met)
              (λ i. (st_is i, j_is i)) h.met;
        },
      ),
    )

pub passes_meet : OfEachSeat PassesMeet
passes_meet z at heap slots id me p st has s r homes here small =
    let k = r.known in
    let st_is = pass_is r id me here p st has in
    let h = r.stored.shared.each p in
    let told = me.0.told in
    let f = meets_told (k.pass p).seen told (k.journal 0).commits h.seen (r.told id me.0 here) in
    let long = prefix_length (k.pass p).seen (longer_of (k.pass p).seen told) f.0 in
    let started = h.started in (
      with_pass me.0 p (refreshed st (longer_of st.seen told)),
      keeps,
      tt,
      by_quiet r id me here p st has (λ u. refreshed u (longer_of u.seen told)) at.clock
          (knows_more r id me here p (refreshed (k.pass p) (longer_of (k.pass p).seen told)) refl refl refl refl
          refl)
          (refreshes r.stored.shared p (longer_of (k.pass p).seen told) f.2 (omega (arith, long, started))),
      (
        refl,
        subst (λ (u : PassState). IsPrefix u.seen (longer_of u.seen told)
            × IsPrefix told (longer_of u.seen told)) st_is (f.0, f.1),
      ),
    )

-- ---- full

pub write_is_full : OfEachSeat WriteIsFull
write_is_full z at heap slots id me p st y key leaf segment need has full s r homes here small =
    let k = r.known in
    let old = r.stored in
    let y_is = index_is r id me here y full.index in
    let count : SPLIT_ROWS * (k.index 0).index.leaves ≤ inserted_by_all z k.pass
    = full_is_counted heap (k.index 0).index (segment_of k.cell) key leaf segment need
    (inserted_by_all z k.pass) old.indexed
    (subst (λ (u : IndexState). IsRoutedTo key u.index.entries leaf segment)
    (sym y_is) full.routed) full.below full.few
    (subst (λ (u : IndexState). leaf < u.index.leaves) (sym y_is) full.inside)
    (ap (λ (u : IndexState). u.index.free) y_is ∙ full.free)
    (full.windows k.cell (cells_agree r id me here)) old.weighed in (
      with_pass me.0 p (filled_up st),
      keeps,
      tt,
      by_quiet r id me here p st has filled_up at.clock
          (knows_more r id me here p (filled_up (k.pass p)) refl refl refl refl refl)
          (fills old.shared p (subst (λ n. SPLIT_ROWS * n ≤ inserted_by_all z k.pass) old.leaves count)),
      (refl, tt),
    )
