-- The steps of a commit: room for its entry, the store of its stamp, the store of the clock, and the stamping
-- of its rows.
use Rattle.std.proofs.Common.{◌≡◌, ℕ, ◌+◌, ◌<◌, ◌≤◌, List, [], ◌∷◌, ◌++◌, length, map, refl, sym, ◌∙◌, ap, subst, cond, arith, inl, inr, length-append}
use Rattle.std.specs.Prelude.{◌⊎◌, Bool, true, false, ◌&&◌, ◌||◌, not, is_some, Option, Some, None, slice_get}
use Rattle.std.specs.List.{AllByRecursion}
use Rattle.std.proofs.lemmas.Bool.{true≢false, or_left, or_right}
use Rattle.std.proofs.lemmas.List.{append-nil}
use Rattle.graph_model.specs.declared.write.Write.{Write}
use Rattle.graph_model.specs.declared.row.Key.{Key}
use Rattle.graph_model.specs.declared.journal.TxnName.{TxnName}
use Rattle.graph_model.specs.declared.journal.Commit.{Commit}
use Rattle.graph_model.specs.Conflict.{meets, same_name}
use Rattle.graph_model.specs.Effects.{any_writes, any_touches}
use Rattle.graph_model.specs.Passes.{revised}
use Rattle.graph_model.specs.Transactions.{Running, stamp_in, HasNotCommitted}
use Rattle.graph_model.proofs.PassLemmas.{latest_here, put_same, changes_latest}
use Rattle.graph_model.proofs.PlaceLemmas.{get_snoc, get_end}
use Rattle.graph_model.proofs.StampLemmas.{stamp_longer, stamp_at}
use Rattle.graph_model.proofs.TestLemmas.{name_self}
use Rattle.txn_manager.specs.declared.config.Config.{Config}
use Rattle.store_model.specs.Stamped.{Stamped, StampedVersions, IsStamped, forget_row, lacks_stamp, stamp_one, stamp}
use Rattle.store_model.specs.Store.{IsStore}
use Rattle.store_model.proofs.StampedLemmas.{stamps_grow, stamp_keeps, stamp_is_right}
use Rattle.store_model.proofs.StoreLemmas.{store_committed}
use Rattle.store_relation.specs.declared.stage.Stage.{Stage}
use Rattle.store_relation.specs.declared.stage.Stage.TheVariants.{Idle, Open, Committing}
use Rattle.store_relation.specs.Keys.{has_key}
use Rattle.store_relation.specs.Passes.{PassState, is_active, kept_stamp, laid_of, made_at, made_of, may_commit, may_stand, name_at, name_of, needs_room, now_of, number_of, running_of, running_part, stands, touching_by, writes_by}
use Rattle.store_relation.specs.Shared.{AreSpokenFor, IsShared, IsSpokenFor, JournalState, entries, entry_of, room_needed, sum_below}
use Rattle.store_relation.specs.Steps.{committed, committing, published_now, with_entry, with_unstamped}
use Rattle.store_relation.proofs.ListLemmas.{prefix_all, prefix_length, prefix_get, revised_here, revised_else, revised_same, all_put, sum_but_one}
use Rattle.store_relation.proofs.MadeLemmas.{made_active, made_ended, number_active, latest_writes}
use Rattle.store_relation.proofs.FrameLemmas.{Follows, mets_follow, sightings_follow, looks_follow, other_stays}
use Rattle.store_relation.proofs.CurrentLemmas.{stands_whole, store_stays}
use Rattle.store_relation.proofs.KeptLemmas.{kept_published}
use Rattle.store_relation.proofs.SpokenLemmas.{spoken_put, spoken_same}
use Rattle.store_relation.proofs.SharedLemmas.{counts_same, counts_active, room_stays, stander, laid_by, marked_by, inside, unnamed_now, runs, steps, quiet}

-- ROOM: the journal gets more of it
pub rooms : {z : Config} {word : ℕ → ℕ} {pass : ℕ → PassState} {j : JournalState} {rows : Key → StampedVersions}
    {clock : ℕ} (s : IsShared z word pass j rows clock)
    (room : ℕ) → j.room ≤ room → IsShared z word pass (record j { room = room }) rows clock
rooms {z = z} {word = word} {pass = pass} {j = j} {rows = rows} {clock = clock} s room more =
    let j' : JournalState = record j { room = room } in
    let f : Follows z.kind pass j pass j' = record {
      legal = s.store.transactions.legal;
      journal = prefix_all j.commits;
      listed = prefix_all (entries j);
      late = λ i c at. inl at;
      made = λ p n w e. e;
    } in
    let c = s.counted in
    record {
      horizon = s.horizon;
      published = s.published;
      store = s.store;
      stamps = s.stamps;
      spoken = s.spoken;
      stamped = s.stamped;
      entered = s.entered;
      made = s.made;
      kept = s.kept;
      each = λ p. other_stays z.kind pass j pass j' f (word p) p (pass p) (λ _. (refl, refl)) (s.each p);
      counted = record {
        room = let a = c.room in omega (arith, a, more);
        clock = c.clock;
        begun = c.begun;
        outside = c.outside;
        filled = c.filled;
      };
    }

module _ {z : Config} {word : ℕ → ℕ} {pass : ℕ → PassState} {j : JournalState} {rows : Key → StampedVersions}
    {clock : ℕ} (s : IsShared z word pass j rows clock) (p : ℕ) where
  -- a pass that makes what it made before clashes with what it clashed with
  clashes_stay : (st' : PassState) → made_of st' ≡ made_of (pass p) → (o n : ℕ) (w : Write)
      → meets z.kind w (writes_by (pass o) n) ≡ true
      → meets z.kind w (writes_by (revised pass p st' o) n) ≡ true
  clashes_stay st' same o n w = all_put
      (λ q u. meets z.kind w (writes_by (pass q) n) ≡ true → meets z.kind w (writes_by u n) ≡ true) pass p st'
      (λ e. ap (λ m. meets z.kind w (made_at m n)) same ∙ e) (λ q _ e. e) o

  -- STAMP: the store of the stamp, by a pass that has the journal, enters its commit there
  pub stamps : (pass p).stage ≡ Open → 0 < length (pass p).own → j.next ≡ []
      → IsShared z (revised word p (length j.commits + 3)) (revised pass p (committing (pass p)))
      (with_entry j p (pass p)) rows clock
  stamps is wrote no_next =
      let h = s.each p in
      let st' : PassState = committing (pass p) in
      let pass' : ℕ → PassState = revised pass p st' in
      let me : TxnName = name_of pass p in
      let c : Commit = entry_of j p (pass p) in
      let j' : JournalState = with_entry j p (pass p) in
      let active : is_active (pass p).stage ≡ true = ap is_active is in
      let w : word p ≡ 1 = marked_by s p Open is in
      let same : made_of st' ≡ made_of (pass p) = sym (made_active (pass p) active) in
      let number : number_of st' ≡ number_of (pass p) = ap length same in
      let name : name_at p st' ≡ me = ap (λ n. record { job = p; number = n }) number in
      let all : entries j ≡ j.commits = ap (λ l. j.commits ++ l) no_next ∙ append-nil j.commits in
      let back : (i : ℕ) (d : Commit) → slice_get (j.commits ++ c ∷ []) i ≡ Some d
      → (slice_get (entries j) i ≡ Some d) ⊎ ((i ≡ length j.commits) × (c ≡ d))
      = (λ i d at. elim (get_snoc j.commits c i d at)
      as (λ _. (slice_get (entries j) i ≡ Some d) ⊎ ((i ≡ length j.commits) × (c ≡ d))) [
        | inl old ↦ inl (subst (λ l. slice_get l i ≡ Some d) (sym all) old.1)
        | inr new ↦ inr new
      ]) in
      let f : Follows z.kind pass j pass' j' = record {
        legal = s.store.transactions.legal;
        journal = prefix_all j.commits;
        listed = (c ∷ [], ap (λ l. l ++ c ∷ []) all);
        late = λ i d at. elim (back i d at) as
            (λ _. (slice_get (entries j) i ≡ Some d) ⊎ (length j.commits ≤ i)) [
              | inl old ↦ inl old
              | inr new ↦ let e : i ≡ length j.commits = new.0 in inr (omega (arith, e))
            ];
        made = clashes_stay st' same;
      } in
      let room_was : room_needed (pass p) ≡ 1 = ap (λ (g : Stage). cond (needs_room g) 1 0) is in
      let sums : sum_below (λ q. room_needed (pass' q)) z.passes + room_needed (pass p)
      ≡ sum_below (λ q. room_needed (pass q)) z.passes + room_needed (pass' p)
      = sum_but_one (λ q. room_needed (pass q)) (λ q. room_needed (pass' q)) z.passes p (inside s p active)
      (λ q other. ap room_needed (revised_else pass p st' q other)) in
      let room_is : room_needed (pass' p) ≡ 0 = ap room_needed (revised_here pass p st') in
      let room_old : sum_below (λ q. room_needed (pass q)) z.passes ≤ j.room = s.counted.room in
      steps s p st' (length j.commits + 3) j' rows clock s.horizon (record {
        published = s.published;
        store = store_stays z.kind j.commits pass s.horizon _ _ s.store p st' number
            (ap (λ (g : Stage). cond (may_commit g) (Some (now_of (pass p))) None) (sym is)) refl (λ k. refl)
            (λ k. refl);
        stamps = s.stamps;
        spoken = λ k. spoken_same pass p st' k (rows k) (s.spoken k) number (λ e. refl);
        follows = f;
        -- no other pass has its entry next
        others = λ q other e. let both = sym no_next ∙ (s.each q).next e in cc;
        listed = λ i d at. elim (back i d at)
            as (λ _. (slice_get (entries j) i ≡ Some d)
            ⊎ ((d.by ≡ name_at p st') × (length j.commits + 3 ≡ i + 3)
            × (0 < length d.writes) × (writes_by st' d.by.number ≡ d.writes))) [
              | inl old ↦ inl old
              | inr new ↦ inr (
                ap (λ (x : Commit). x.by) (sym new.1) ∙ sym name,
                ap (λ n. n + 3) (sym new.0),
                subst (λ (x : Commit). 0 < length x.writes) new.1 wrote,
                subst (λ (x : Commit). writes_by st' x.by.number ≡ x.writes) new.1
                    (ap (λ m. made_at m (number_of (pass p))) same ∙ latest_writes (pass p) active),
              )
            ];
        stamped = λ i d at named. absurd (unnamed_now s p (omega (arith, w)) i d at (named ∙ name));
        entered = λ n e.
            let same_place : n ≡ length j.commits = omega (arith, e) in
            (c, ap (slice_get (j.commits ++ c ∷ [])) same_place ∙ get_end j.commits c, sym name);
        made = λ i d at _. ap (λ m. made_at m d.by.number) same;
        kept = λ by. all_put (λ q u. (n : ℕ) → kept_stamp u.past n ≡ kept_stamp (pass q).past n) pass p st'
            (λ n. refl)
            (λ q _ n. refl) by.job by.number ∙ s.kept by;
        this = record {
          marked = refl;
          seen = h.seen;
          started = h.started;
          laid = (laid_by s p Open is, wrote);
          next = λ _. ap (λ n. record {
            stamp = length j.commits + 1;
            start = (pass p).start;
            by = record { job = p; number = n };
            writes = (pass p).own;
          } ∷ []) (sym number);
          met = mets_follow z.kind pass j pass' j' f (pass p).met h.met;
          holders = sightings_follow z.kind pass j pass' j' f (pass p).holders h.holders;
          sighted = sightings_follow z.kind pass j pass' j' f (pass p).sighted h.sighted;
          looks = looks_follow z.kind pass j pass' j' f (pass p).looks h.looks;
        };
        counted = counts_active s p st' j' active refl same (omega arith)
            (omega (arith, sums, room_was, room_is, room_old)) refl;
      })

  -- PUBLISH: the store of the clock; the rows of the commit are left to be stamped
  pub publishes : (keys : List Key) → (pass p).stage ≡ Committing
      → ((k : Key) → (any_writes z.kind (pass p).own k || any_touches (pass p).own k) ≡ true
      → has_key keys k ≡ true)
      → IsShared z word (revised pass p (committed (pass p) j keys)) (published_now j) rows (clock + 1)
  publishes keys is covers =
      let h = s.each p in
      let st' : PassState = committed (pass p) j keys in
      let pass' : ℕ → PassState = revised pass p st' in
      let me : TxnName = name_of pass p in
      let c : Commit = entry_of j p (pass p) in
      let j' : JournalState = published_now j in
      let t : Running = now_of (pass p) in
      let active : is_active (pass p).stage ≡ true = ap is_active is in
      let listed : entries j ≡ j.commits ++ c ∷ [] = ap (λ l. j.commits ++ l) (h.next is) in
      let laid = laid_by s p Committing is in
      let same : made_of st' ≡ made_of (pass p) = made_ended (pass p) (Some (length j.commits + 1)) active in
      let number : number_of st' ≡ number_of (pass p) = ap length same in
      let name : name_at p st' ≡ me = ap (λ n. record { job = p; number = n }) number in
      let long : length st'.past ≡ length (pass p).past + 1
      = length-append (pass p).past (record { writes = (pass p).own; stamp = Some (length j.commits + 1) } ∷ [])
      in
      let there : running_of pass me ≡ Some t = runs s p (ap may_commit is) in
      let unnamed : HasNotCommitted j.commits me = (s.store.transactions.each me t there).unnamed in
      let none : entries j' ≡ entries j = append-nil (entries j) in
      let store' : IsStore z.kind (entries j) (running_of pass') (laid_of pass') (touching_by pass') s.horizon
      (λ k. forget_row (rows k))
      = subst
      (λ cs. IsStore z.kind cs (running_of pass') (laid_of pass') (touching_by pass') s.horizon
      (λ k. forget_row (rows k))) (sym listed)
      (store_committed z.kind j.commits (running_of pass) (laid_of pass) (touching_by pass) s.horizon
      (λ k. forget_row (rows k)) s.store me (running_of pass') t there (laid_of pass') (touching_by pass')
      (changes_latest number_of running_part pass p st' (inl number)) laid.1
      (record {
        mine = put_same number_of (λ st. st.laid) [] pass p st' number me
            ∙ ap (λ b. cond b [] (laid_of pass me)) (name_self me);
        others = λ q away. put_same number_of (λ st. st.laid) [] pass p st' number q
            ∙ ap (λ b. cond b [] (laid_of pass q)) away;
        touches = λ q k. put_same number_of (λ st. stands st.laid st.own k) false pass p st' number q;
      })) in
      let f : Follows z.kind pass j pass' j' = record {
        legal = store'.transactions.legal;
        journal = (j.next, refl);
        listed = ([], append-nil (entries j) ∙ sym none);
        late = λ i d at. inl (subst (λ l. slice_get l i ≡ Some d) none at);
        made = clashes_stay st' same;
      } in
      let m : length (entries j) ≡ length j.commits + 1 = ap length listed ∙ length-append j.commits (c ∷ []) in
      let clocked : clock ≡ length j.commits = s.published in
      let front : length (pass p).seen ≤ length j.commits = prefix_length (pass p).seen j.commits h.seen in
      let started : (pass p).start ≤ length (pass p).seen = h.started in
      let sums : sum_below (λ q. length (pass' q).past) z.passes + length (pass p).past
      ≡ sum_below (λ q. length (pass q).past) z.passes + length (pass' p).past
      = sum_but_one (λ q. length (pass q).past) (λ q. length (pass' q).past) z.passes p (inside s p active)
      (λ q other. ap (λ (u : PassState). length u.past) (revised_else pass p st' q other)) in
      let past_is : length (pass' p).past ≡ length st'.past
      = ap (λ (u : PassState). length u.past) (revised_here pass p st') in
      let below : length j.commits ≤ sum_below (λ q. length (pass q).past) z.passes = s.counted.clock in
      let counted = counts_active s p st' j active refl same (omega (arith, long))
      (room_stays pass p st' z.passes j.room s.counted.room (omega arith)) refl in
      subst (λ w. IsShared z w pass' j' rows (clock + 1)) (λ i q. revised_same word p q i)
      (steps s p st' (word p) j' rows (clock + 1) s.horizon (record {
        published = omega (arith, m, clocked);
        store = store';
        stamps = λ k. stamps_grow (stamp_in j.commits) (stamp_in (entries j))
            (λ n d e. stamp_longer j.commits j.next n d e) (rows k) (s.stamps k);
        -- whatever stands without a stamp stands in a row that is left
        spoken = λ k. spoken_put pass p st' k (rows k) (s.spoken k)
            (λ n at own may. (
              number,
              elim (stander s k n at) as (λ _. has_key keys k ≡ true) [
                | inl (inl e) ↦ covers k (or_left _ _ (ap (λ ws. any_writes z.kind ws k)
                    (sym (ap (laid_of pass) own ∙ latest_here number_of (λ st. st.laid) [] pass p ∙ laid.0))
                    ∙ e))
                | inl (inr e) ↦ covers k (or_right (any_writes z.kind (pass p).own k) _
                    (sym (ap (λ x. touching_by pass x k) own
                    ∙ latest_here number_of (λ st. stands st.laid st.own k) false pass p
                    ∙ stands_whole (pass p).laid (pass p).own k laid.0) ∙ e))
                | inr r ↦ absurd (true≢false (sym (name_self me) ∙ ap (λ x. same_name x me) (sym (r.3 ∙ own))
                    ∙ unnamed r.0 r.1 r.2))
              ],
            ));
        follows = f;
        others = λ q other e. absurd (other (same_job q e));
        listed = λ i d at. inl (subst (λ l. slice_get l i ≡ Some d) none at);
        stamped = λ i d at named.
            let mine : d.by ≡ me = named ∙ name in
            let job : d.by.job ≡ p = ap (λ (b : TxnName). b.job) mine in
            ap word (sym job) ∙ s.stamped i d at (mine ∙ ap (name_of pass) (sym job));
        entered = λ n e.
            let r = s.entered p n e in
            (r.0, subst (λ l. slice_get l n ≡ Some r.0) (sym none) r.1, r.2 ∙ sym name);
        made = λ i d at _. ap (λ q. made_at q d.by.number) same;
        -- its pass keeps the stamp of the commit
        kept = λ by. kept_published pass p j.commits c
            (ap (λ n. record { job = p; number = n }) (number_active (pass p) active)) unnamed st' (pass p).own
            refl s.kept by
            ∙ ap (λ cs. stamp_in cs by) (sym listed);
        this = record {
          marked = tt;
          seen = prefix_all (entries j);
          started = omega (arith, m, front, started);
          laid = (refl, refl);
          next = λ e. cc;
          met = mets_follow z.kind pass j pass' j' f (pass p).met h.met;
          holders = sightings_follow z.kind pass j pass' j' f (pass p).holders h.holders;
          sighted = sightings_follow z.kind pass j pass' j' f (pass p).sighted h.sighted;
          looks = looks_follow z.kind pass j pass' j' f (pass p).looks h.looks;
        };
        counted = record {
          room = counted.room;
          clock = omega (arith, m, sums, past_is, long, below);
          begun = counted.begun;
          outside = counted.outside;
          filled = counted.filled;
        };
      }))
    where
      job_of : List Commit → ℕ
      job_of [] = 0
      job_of (d ∷ ds) = d.by.job

      -- the next entry is of one pass
      same_job : (q : ℕ) → (pass q).stage ≡ Committing → q ≡ p
      same_job q e = ap job_of (sym ((s.each q).next e) ∙ (s.each p).next is)

  -- STAMP ROWS: after its commit a pass stamps rows that it holds. Each row is stamped or as it was, and what
  -- is
  -- left has the rows of the others
  pub stamps_rows : (keys : List Key) (c : Commit) (i : ℕ) (rows' : Key → StampedVersions)
      → (pass p).stage ≡ Idle
      → slice_get (pass p).seen i ≡ Some c → c.by ≡ name_of pass p
      → ((k : Key) → (rows' k ≡ stamp (name_of pass p) c.stamp (rows k))
      ⊎ ((rows' k ≡ rows k) × (has_key (pass p).unstamped k ≡ true → has_key keys k ≡ true)))
      → IsShared z word (revised pass p (with_unstamped (pass p) keys)) j rows' clock
  stamps_rows keys c i rows' is seen_at named each =
      let h = s.each p in
      let me : TxnName = name_of pass p in
      let st' : PassState = with_unstamped (pass p) keys in
      let pass' : ℕ → PassState = revised pass p st' in
      let has : stamp_in j.commits me ≡ Some c.stamp
      = ap (stamp_in j.commits) (sym named)
      ∙ stamp_at j.commits s.store.transactions.legal.names i c
      (prefix_get (pass p).seen j.commits h.seen i c seen_at) in
      let plain : (k : Key) → forget_row (rows' k) ≡ forget_row (rows k)
      = (λ k. elim (each k) as (λ _. forget_row (rows' k) ≡ forget_row (rows k)) [
        | inl e ↦ ap forget_row e ∙ stamp_keeps me c.stamp (rows k)
        | inr e ↦ ap forget_row e.0
      ]) in
      quiet s p st' rows' s.horizon (record {
        store = store_stays z.kind j.commits pass s.horizon _ _ s.store p st' refl refl refl (λ k. refl) plain;
        stamps = λ k. elim (each k) as (λ _. IsStamped (stamp_in j.commits) (rows' k)) [
          | inl e ↦ subst (IsStamped (stamp_in j.commits)) (sym e)
              (stamp_is_right (stamp_in j.commits) me c.stamp has (rows k) (s.stamps k))
          | inr e ↦ subst (IsStamped (stamp_in j.commits)) (sym e.0) (s.stamps k)
        ];
        spoken = λ k. elim (each k) as (λ _. AreSpokenFor pass' k (rows' k)) [
          | inl e ↦ subst (AreSpokenFor pass' k) (sym e) (record {
            pairs = all_stamped k (rows k).pairs (s.spoken k).pairs;
            touches = all_stamped k (rows k).touches (s.spoken k).touches;
          })
          | inr e ↦ subst (AreSpokenFor pass' k) (sym e.0) (spoken_same pass p st' k (rows k) (s.spoken k) refl
              (λ may. ap (λ (g : Stage). is_active g || has_key keys k) is
              ∙ e.1 (sym (ap (λ (g : Stage). is_active g || has_key (pass p).unstamped k) is) ∙ may)))
        ];
        made = refl;
        kept = λ n. refl;
        this = λ f. record {
          marked = h.marked;
          seen = h.seen;
          started = h.started;
          laid = h.laid;
          next = h.next;
          met = h.met;
          holders = sightings_follow z.kind pass j pass' j f (pass p).holders h.holders;
          sighted = sightings_follow z.kind pass j pass' j f (pass p).sighted h.sighted;
          looks = h.looks;
        };
        counted = counts_same s p st' refl refl refl (s.counted.filled p);
      })
    where
      -- a record without a stamp that isn't stamped is of another writer
      not_mine : (mine : Bool) (own : Option ℕ) → (mine && not (is_some own)) ≡ false → own ≡ None → mine ≡ false
      not_mine false own e none = refl
      not_mine true None e none = cc
      not_mine true (Some n) e none = cc

      -- a record that is stamped needs no word, and one that isn't is of another pass
      one_stamped : (k : Key) (x : Stamped) → IsSpokenFor pass k x → (t : Bool)
          → (same_name x.by (name_of pass p) && lacks_stamp x) ≡ t
          → IsSpokenFor (revised pass p (with_unstamped (pass p) keys)) k
          (cond t (record { by = x.by; stamp = Some c.stamp; value = x.value }) x)
      one_stamped k x old true e none = cc
      one_stamped k x old false e none =
          let r = old none in
          let other : x.by.job ≡ p → ⊥ = (λ same. true≢false (sym (ap (λ n. same_name n (name_of pass p))
          (r.0 ∙ ap (name_of pass) same) ∙ name_self (name_of pass p)) ∙ not_mine (same_name x.by (name_of pass p)) x.stamp e none)) in
          let st = revised_else pass p (with_unstamped (pass p) keys) x.by.job other in (
            r.0 ∙ ap (λ u. record { job = x.by.job; number = number_of u }) (sym st),
            ap (λ u. may_stand u k) st
                ∙ r.1,
          )

      all_stamped : (k : Key) (xs : List Stamped) → AllByRecursion (IsSpokenFor pass k) xs
          → AllByRecursion (IsSpokenFor (revised pass p (with_unstamped (pass p) keys)) k)
          (map (stamp_one (name_of pass p) c.stamp) xs)
      all_stamped k [] all = tt
      all_stamped k (x ∷ xs) all =
          (one_stamped k x all.0 (same_name x.by (name_of pass p) && lacks_stamp x) refl, all_stamped k xs all.1)
