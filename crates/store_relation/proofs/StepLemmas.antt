-- The steps that change no row: begin, stop, end, and what a pass comes to know of the journal and of others.
use Rattle.std.proofs.Common.{◌≡◌, ℕ, suc, ◌+◌, ◌*◌, ◌<◌, ◌≤◌, List, [], ◌∷◌, ◌++◌, length, refl, sym, ◌∙◌, ap, subst, cond, arith, inl, inr, length-append}
use Rattle.std.specs.Prelude.{Bool, true, false, ◌==◌, ◌||◌, Some, None}
use Rattle.std.specs.List.{AllByRecursion, flat_map}
use Rattle.std.proofs.lemmas.Bool.{true≢false, false_from_ne_true}
use Rattle.std.proofs.lemmas.Grind.{flat_map-append}
use Rattle.std.proofs.lemmas.List.{append-nil}
use mathlib.Core.List.{IsPrefix}
use Rattle.graph_model.specs.declared.limits.TheConstants.{SPLIT_ROWS}
use Rattle.graph_model.specs.declared.write.Write.{Write}
use Rattle.graph_model.specs.declared.row.Key.{Key}
use Rattle.graph_model.specs.declared.journal.Commit.{Commit}
use Rattle.graph_model.specs.Account.{Sighting}
use Rattle.graph_model.specs.Conflict.{meets}
use Rattle.graph_model.specs.Effects.{any_writes}
use Rattle.graph_model.specs.Inserted.{inserted}
use Rattle.graph_model.specs.Passes.{revised}
use Rattle.graph_model.specs.Transactions.{Changes, HasNotCommitted}
use Rattle.graph_model.proofs.LegalLemmas.{get_front}
use Rattle.graph_model.proofs.PassLemmas.{latest_here, changes_latest, changes_next}
use Rattle.graph_model.proofs.TestLemmas.{name_eq}
use Rattle.txn_manager.specs.declared.config.Config.{Config}
use Rattle.store_model.specs.Stamped.{StampedVersions, forget_row}
use Rattle.store_model.proofs.StoreLemmas.{store_same, store_begun, store_stopped}
use Rattle.store_relation.specs.declared.stage.Stage.{Stage}
use Rattle.store_relation.specs.declared.stage.Stage.TheVariants.{Idle, Open, Aborting}
use Rattle.store_relation.specs.Keys.{has_key}
use Rattle.store_relation.specs.Passes.{Meeting, PassState, ended_writes, is_active, laid_of, made_at, made_of, may_commit, may_stand, name_at, name_of, needs_room, now_of, number_of, running_of, running_part, stands, touching_by, writes_by}
use Rattle.store_relation.specs.Shared.{IsLook, IsMet, IsShared, IsSighted, JournalState, inserted_by_all, inserted_by_pass, room_needed, sum_below}
use Rattle.store_relation.specs.Steps.{begun, ended, filled_up, refreshed, stopped, with_notes, with_readers}
use Rattle.store_relation.specs.Words.{Look}
use Rattle.store_relation.proofs.ListLemmas.{prefix_all, sum_bound}
use Rattle.store_relation.proofs.MadeLemmas.{made_at_none, made_active, made_idle, made_ended, number_active, number_idle, kept_at_none}
use Rattle.store_relation.proofs.FrameLemmas.{mets_follow, sightings_follow, looks_follow}
use Rattle.store_relation.proofs.CurrentLemmas.{put_stays, put_nothing, stands_none, store_stays}
use Rattle.store_relation.proofs.SpokenLemmas.{spoken_put, spoken_same}
use Rattle.store_relation.proofs.SharedLemmas.{counted_put, room_stays, counts_same, counts_active, stander, laid_by, marked_by, unnamed_next, unnamed_now, goes_on, quiet}

one_at_most : (st : PassState) → room_needed st ≤ 1
one_at_most st = elim (needs_room st.stage) as (λ t. cond t 1 0 ≤ 1)
    [ true ↦ omega arith | false ↦ omega arith ]

pub nothing_either : {X : Type 0} (t : Bool) (x none : X) → x ≡ none → cond t x none ≡ none
nothing_either true x none e = e
nothing_either false x none e = refl

module _ {z : Config} {word : ℕ → ℕ} {pass : ℕ → PassState} {j : JournalState} {rows : Key → StampedVersions}
    {clock : ℕ} (s : IsShared z word pass j rows clock) (p : ℕ) where
  -- BEGIN: the store of 'open', by a pass that has the journal, whose last commit is stamped everywhere
  pub begins : (pass p).stage ≡ Idle → (pass p).unstamped ≡ [] → p < z.passes
      → number_of (pass p) < z.txns_per_pass → z.passes ≤ j.room
      → IsShared z (revised word p 1) (revised pass p (begun (pass p) j)) j rows clock
  begins is done within more roomy =
      let idle = laid_by s p Idle is in
      let off : is_active (pass p).stage ≡ false = ap is_active is in
      let st' : PassState = begun (pass p) j in
      let pass' : ℕ → PassState = revised pass p st' in
      let was : number_of (pass p) ≡ length (pass p).past = number_idle (pass p) off in
      let now : number_of st' ≡ suc (length (pass p).past) = number_active st' refl in
      let lt : number_of (pass p) < number_of st' = omega (arith, was, now) in
      let closed : running_part (pass p) ≡ None =
      ap (λ (g : Stage). cond (may_commit g) (Some (now_of (pass p))) None) is in
      let starts : Changes (name_at p st') (running_of pass) (running_of pass')
      (Some (record { start = length j.commits; writes = [] }))
      = subst (λ ws. Changes (name_at p st') (running_of pass) (running_of pass')
      (Some (record { start = length j.commits; writes = ws }))) idle.1
      (changes_next number_of running_part pass p st' closed) in
      let unnamed : HasNotCommitted j.commits (name_at p st') = (λ i c at. false_from_ne_true _ (λ e.
      unnamed_next s p (number_of st') lt i c (get_front j.commits j.next i c at)
      (name_eq c.by (name_at p st') e))) in
      let writes_same : (n : ℕ) → writes_by st' n ≡ writes_by (pass p) n = (λ n.
      ap (λ ws. made_at (ended_writes (pass p) ++ ws ∷ []) n) idle.1
      ∙ made_at_none (ended_writes (pass p)) n ∙ ap (λ m. made_at m n) (sym (made_idle (pass p) off))) in
      let no_room : sum_below (λ q. room_needed (pass' q)) z.passes ≤ z.passes * 1
      = sum_bound (λ q. room_needed (pass' q)) 1 z.passes (λ q. one_at_most (pass' q)) in
      let empty : inserted_by_pass z.kind (pass p) ≡ inserted_by_pass z.kind st' = begun_inserts off idle.1 in
      goes_on s p st' 1 rows s.horizon (record {
        store =
            store_same z.kind j.commits (running_of pass') (laid_of pass) (touching_by pass) s.horizon
            (λ k. forget_row (rows k))
            (store_begun z.kind j.commits (running_of pass) (laid_of pass) (touching_by pass) s.horizon
            (λ k. forget_row (rows k)) s.store (name_at p st') (running_of pass') starts
            (nothing_either (number_of st' == number_of (pass p)) (pass p).laid [] idle.0)
            (λ k. nothing_either (number_of st' == number_of (pass p)) (stands (pass p).laid (pass p).own k)
            false
            (stands_none (pass p).laid (pass p).own k idle.0))
            unnamed)
            (laid_of pass') (touching_by pass') (λ k. forget_row (rows k))
            (put_nothing (λ st. st.laid) [] pass p st' idle.0 idle.0)
            (λ q k. put_nothing (λ st. stands st.laid st.own k) false pass p st'
            (stands_none (pass p).laid (pass p).own k idle.0) (stands_none (pass p).laid (pass p).own k idle.0)
            q)
            (λ k. refl);
        stamps = s.stamps;
        -- none of its records is without a stamp
        spoken = λ k. spoken_put pass p st' k (rows k) (s.spoken k)
            (λ n h me may. absurd (true≢false (sym may ∙ (λ i. is_active (is i) || has_key (done i) k))));
        stamped = λ i c at named. absurd (unnamed_next s p (number_of st') lt i c at named);
        entered = λ n e. absurd (omega (arith, e));
        made = λ i c at _. writes_same c.by.number;
        grows = λ n w e. ap (meets z.kind w) (writes_same n) ∙ e;
        kept = λ n. refl;
        this = λ f. record {
          marked = refl;
          seen = prefix_all j.commits;
          started = omega arith;
          laid = idle.0 ∙ sym idle.1;
          next = λ e. cc;
          met = mets_follow z.kind pass j pass' j f (pass p).met (s.each p).met;
          holders = sightings_follow z.kind pass j pass' j f (pass p).holders (s.each p).holders;
          sighted = sightings_follow z.kind pass j pass' j f (pass p).sighted (s.each p).sighted;
          looks = looks_follow z.kind pass j pass' j f (pass p).looks (s.each p).looks;
        };
        counted = counted_put z pass j j p st' s.counted refl (record {
          room = omega (arith, no_room, roomy);
          past = omega arith;
          begun = omega (arith, was, now, more);
          outside = λ out. absurd (omega (arith, out, within));
          inserted = omega (arith, empty);
          filled = s.counted.filled p;
        });
      })
    where
      -- a transaction that has written nothing has inserted no row
      begun_inserts : is_active (pass p).stage ≡ false → (pass p).own ≡ []
          → inserted_by_pass z.kind (pass p) ≡ inserted_by_pass z.kind (begun (pass p) j)
      begun_inserts off none =
          let more : List Write → ℕ = (λ ws.
          inserted z.kind (flat_map (λ us. us) (ended_writes (pass p) ++ ws ∷ []))) in
          let past : ℕ = inserted z.kind (flat_map (λ us. us) (ended_writes (pass p))) in
          let same : more [] ≡ past = ap (inserted z.kind)
          (flat_map-append (λ (us : List Write). us) (ended_writes (pass p)) ([] ∷ [])
          ∙ append-nil (flat_map (λ us. us) (ended_writes (pass p)))) in
          ap (λ made. inserted z.kind (flat_map (λ us. us) made)) (made_idle (pass p) off) ∙ sym same
          ∙ ap more (sym none)

  -- KNOWS: what a pass knows of the journal and of others may be anything that is right
  pub knows : (seen : List Commit) (met : List Meeting) (holders sighted : List Sighting) (looks : List Look)
      (filled : Bool) (readers : ℕ)
      → IsPrefix seen j.commits → (pass p).start ≤ length seen
      → AllByRecursion (IsMet z.kind j) met → AllByRecursion (IsSighted z.kind pass j) holders
      → AllByRecursion (IsSighted z.kind pass j) sighted → AllByRecursion (IsLook j) looks
      → (filled ≡ true → SPLIT_ROWS * z.leaves ≤ inserted_by_all z pass)
      → (st' : PassState)
      → st' ≡ record (pass p) {
        seen = seen;
        met = met;
        holders = holders;
        sighted = sighted;
        looks = looks;
        filled = filled;
        readers_out = readers;
      }
      → IsShared z word (revised pass p st') j rows clock
  knows seen met holders sighted looks filled readers front within all_met all_holders all_sighted all_looks
      full st' is =
      let h = s.each p in
      let now : PassState = record (pass p) {
        seen = seen;
        met = met;
        holders = holders;
        sighted = sighted;
        looks = looks;
        filled = filled;
        readers_out = readers;
      } in
      subst (λ u. IsShared z word (revised pass p u) j rows clock) (sym is)
      (quiet s p now rows s.horizon (record {
        store = store_stays z.kind j.commits pass s.horizon _ _ s.store p now refl refl refl (λ k. refl)
            (λ k. refl);
        stamps = s.stamps;
        spoken = λ k. spoken_same pass p now k (rows k) (s.spoken k) refl (λ e. e);
        made = refl;
        kept = λ n. refl;
        this = λ f. record {
          marked = h.marked;
          seen = front;
          started = within;
          laid = h.laid;
          next = h.next;
          met = all_met;
          holders = sightings_follow z.kind pass j (revised pass p now) j f holders all_holders;
          sighted = sightings_follow z.kind pass j (revised pass p now) j f sighted all_sighted;
          looks = all_looks;
        };
        counted = counts_same s p now refl refl refl full;
      }))

  -- NOTES of others
  pub notes : (met : List Meeting) (holders sighted : List Sighting) (looks : List Look)
      → AllByRecursion (IsMet z.kind j) met → AllByRecursion (IsSighted z.kind pass j) holders
      → AllByRecursion (IsSighted z.kind pass j) sighted → AllByRecursion (IsLook j) looks
      → IsShared z word (revised pass p (with_notes (pass p) met holders sighted looks)) j rows clock
  notes met holders sighted looks all_met all_holders all_sighted all_looks =
      let h = s.each p in
      knows (pass p).seen met holders sighted looks (pass p).filled (pass p).readers_out h.seen h.started
      all_met
      all_holders all_sighted all_looks (s.counted.filled p) _ refl

  -- REFRESH: what was seen is brought up to some published commits: the clock's, or those that another pass has
  -- told
  pub refreshes : (seen : List Commit) → IsPrefix seen j.commits → (pass p).start ≤ length seen
      → IsShared z word (revised pass p (refreshed (pass p) seen)) j rows clock
  refreshes seen front within =
      let h = s.each p in
      knows seen (pass p).met (pass p).holders (pass p).sighted (pass p).looks (pass p).filled
      (pass p).readers_out
      front within h.met h.holders h.sighted h.looks (s.counted.filled p) _ refl

  -- FULL: a write was answered so
  pub fills : SPLIT_ROWS * z.leaves ≤ inserted_by_all z pass
      → IsShared z word (revised pass p (filled_up (pass p))) j rows clock
  fills many =
      let h = s.each p in
      knows (pass p).seen (pass p).met (pass p).holders (pass p).sighted (pass p).looks true
      (pass p).readers_out
      h.seen h.started h.met h.holders h.sighted h.looks (λ _. many) _ refl

  -- READERS: so many are out
  pub lends : (readers : ℕ) → IsShared z word (revised pass p (with_readers (pass p) readers)) j rows clock
  lends readers =
      let h = s.each p in
      knows (pass p).seen (pass p).met (pass p).holders (pass p).sighted (pass p).looks (pass p).filled readers
      h.seen h.started h.met h.holders h.sighted h.looks (s.counted.filled p) _ refl

  -- STOP: an abort begins
  pub stops : (pass p).stage ≡ Open → IsShared z word (revised pass p (stopped (pass p))) j rows clock
  stops is =
      let h = s.each p in
      let st' : PassState = stopped (pass p) in
      let pass' : ℕ → PassState = revised pass p st' in
      let same : made_of st' ≡ made_of (pass p) = sym (made_active (pass p) (ap is_active is)) in
      let number : number_of st' ≡ number_of (pass p) = ap length same in
      let room : room_needed (pass p) ≡ 1 = ap (λ (g : Stage). cond (needs_room g) 1 0) is in
      quiet s p st' rows s.horizon (record {
        store =
            store_same z.kind j.commits (running_of pass') (laid_of pass) (touching_by pass) s.horizon
            (λ k. forget_row (rows k))
            (store_stopped z.kind j.commits (running_of pass) (laid_of pass) (touching_by pass) s.horizon
            (λ k. forget_row (rows k)) s.store (name_of pass p) (running_of pass')
            (changes_latest number_of running_part pass p st' (inl number)))
            (laid_of pass') (touching_by pass') (λ k. forget_row (rows k))
            (put_stays (λ st. st.laid) [] pass p st' number refl)
            (λ q k. put_stays (λ st. stands st.laid st.own k) false pass p st' number refl q) (λ k. refl);
        stamps = s.stamps;
        spoken = λ k. spoken_same pass p st' k (rows k) (s.spoken k) number (λ e. refl);
        made = same;
        kept = λ n. refl;
        this = λ f. record {
          marked = marked_by s p Open is;
          seen = h.seen;
          started = h.started;
          laid = subst (λ ws. IsPrefix (pass p).laid ws) (laid_by s p Open is) (prefix_all (pass p).laid);
          next = λ e. cc;
          met = h.met;
          holders = sightings_follow z.kind pass j pass' j f (pass p).holders h.holders;
          sighted = sightings_follow z.kind pass j pass' j f (pass p).sighted h.sighted;
          looks = h.looks;
        };
        counted = counts_active s p st' j (ap is_active is) refl same (omega arith)
            (room_stays pass p st' z.passes j.room s.counted.room (omega (arith, room))) refl;
      })

  -- END: the store of 'ended', when all writes are taken back
  pub ends : (pass p).stage ≡ Aborting → (pass p).laid ≡ []
      → IsShared z (revised word p 2) (revised pass p (ended (pass p) None)) j rows clock
  ends is none =
      let h = s.each p in
      let st' : PassState = ended (pass p) None in
      let pass' : ℕ → PassState = revised pass p st' in
      let active : is_active (pass p).stage ≡ true = ap is_active is in
      let w : word p ≡ 1 = marked_by s p Aborting is in
      let low : word p < 3 = omega (arith, w) in
      let same : made_of st' ≡ made_of (pass p) = made_ended (pass p) None active in
      let number : number_of st' ≡ number_of (pass p) = ap length same in
      let name : name_at p st' ≡ name_of pass p = ap (λ n. record { job = p; number = n }) number in
      let long : length ((pass p).past ++ record { writes = (pass p).own; stamp = None } ∷ []) ≡ length
      (pass p).past + 1
      = length-append (pass p).past (record { writes = (pass p).own; stamp = None } ∷ []) in
      let laid_here : laid_of pass (name_of pass p) ≡ [] = latest_here number_of (λ st. st.laid) [] pass p
      ∙ none in
      goes_on s p st' 2 rows s.horizon (record {
        store = store_stays z.kind j.commits pass s.horizon _ _ s.store p st' number
            (ap (λ (g : Stage). cond (may_commit g) (Some (now_of (pass p))) None) (sym is)) (sym none)
            (λ k. sym (stands_none (pass p).laid (pass p).own k none)) (λ k. refl);
        stamps = s.stamps;
        -- it has no record any more
        spoken = λ k. spoken_put pass p st' k (rows k) (s.spoken k) (λ n at me may. elim (stander s k n at)
            as (λ _. (number_of st' ≡ number_of (pass p)) × (may_stand st' k ≡ true)) [
              | inl (inl e) ↦ absurd (true≢false (sym e ∙ ap (λ x. any_writes z.kind (laid_of pass x) k) me
                  ∙ ap (λ ws. any_writes z.kind ws k) laid_here))
              | inl (inr e) ↦ absurd (true≢false (sym e ∙ ap (λ x. touching_by pass x k) me
                  ∙ latest_here number_of (λ st. stands st.laid st.own k) false pass p
                  ∙ stands_none (pass p).laid (pass p).own k none))
              | inr r ↦ absurd (unnamed_now s p low r.0 r.1 (get_front j.commits j.next r.0 r.1 r.2) (r.3 ∙ me))
            ]);
        stamped = λ i c at named. absurd (unnamed_now s p low i c at (named ∙ name));
        entered = λ n e. absurd (omega (arith, e));
        made = λ i c at _. ap (λ m. made_at m c.by.number) same;
        grows = λ n v e. ap (λ m. meets z.kind v (made_at m n)) same ∙ e;
        kept = kept_at_none (pass p).past (pass p).own;
        this = λ f. record {
          marked = tt;
          seen = h.seen;
          started = h.started;
          laid = (refl, refl);
          next = λ e. cc;
          met = h.met;
          holders = sightings_follow z.kind pass j pass' j f (pass p).holders h.holders;
          sighted = sightings_follow z.kind pass j pass' j f (pass p).sighted h.sighted;
          looks = h.looks;
        };
        counted = counts_active s p st' j active refl same (omega (arith, long))
            (room_stays pass p st' z.passes j.room s.counted.room (omega arith)) refl;
      })
