-- The steps that change rows: a write, one that is taken back, and a prune.
use Rattle.std.proofs.Common.{◌≡◌, ℕ, suc, ◌<◌, ◌≤◌, List, [], ◌∷◌, ◌++◌, length, refl, sym, ◌∙◌, ap, subst, cond, arith, inl, inr}
use Rattle.std.specs.Prelude.{◌⊎◌, Bool, true, false, ◌==◌, ◌&&◌, ◌||◌, Option, Some, None}
use Rattle.std.specs.List.{flat_map}
use mathlib.Core.List.{IsPrefix}
use Rattle.graph_model.specs.declared.write.Write.{Write}
use Rattle.graph_model.specs.declared.row.Key.{Key}
use Rattle.graph_model.specs.declared.journal.TxnName.{TxnName}
use Rattle.graph_model.specs.Conflict.{meets, same_name}
use Rattle.graph_model.specs.Effects.{touches_at}
use Rattle.graph_model.specs.Graph.{apply_all}
use Rattle.graph_model.specs.History.{view}
use Rattle.graph_model.specs.Inserted.{inserted}
use Rattle.graph_model.specs.Passes.{revised}
use Rattle.graph_model.specs.Refused.{refused, IsWithinLimits}
use Rattle.graph_model.specs.Transactions.{Running, Changes, stamp_in, has_name}
use Rattle.graph_model.proofs.PassLemmas.{latest_here, put_same, changes_latest}
use Rattle.graph_model.proofs.TestLemmas.{name_eq, name_self}
use Rattle.txn_manager.specs.declared.config.Config.{Config}
use Rattle.store_model.specs.Check.{looked, MayWrite}
use Rattle.store_model.specs.declared.versions.Versions.{Versions}
use Rattle.store_model.specs.Stamped.{StampedVersions, IsStamped, AreTold, forget_row, prune_stamped}
use Rattle.store_model.specs.Store.{IsStore}
use Rattle.store_model.specs.Versions.{sees, prune}
use Rattle.store_model.proofs.PruneLemmas.{whole_pruned, store_pruned}
use Rattle.store_model.proofs.RowLemmas.{list_any-snoc}
use Rattle.store_model.proofs.SeenLemmas.{looked_allows, looked_by_row}
use Rattle.store_model.proofs.StampedLemmas.{prune_forgets, prune_is_right}
use Rattle.store_model.proofs.StoreLemmas.{store_written, store_undone}
use Rattle.store_model.proofs.ToldLemmas.{prune_agrees}
use Rattle.store_relation.specs.declared.stage.Stage.{Stage}
use Rattle.store_relation.specs.declared.stage.Stage.TheVariants.{Open, Aborting, Committing}
use Rattle.store_relation.specs.Keys.{has_key}
use Rattle.store_relation.specs.Passes.{IsLaid, PassState, ended_writes, is_active, laid_of, made_at, made_of, may_commit, may_stand, name_at, name_of, now_of, number_of, running_of, running_part, stands, touching_by}
use Rattle.store_relation.specs.Rows.{row_after, row_before}
use Rattle.store_relation.specs.Shared.{AreSpokenFor, IsShared, IsSpokenFor, JournalState, inserted_by_pass}
use Rattle.store_relation.specs.Steps.{taken_back, written_by}
use Rattle.store_relation.proofs.ListLemmas.{prefix_shorter, revised_here, revised_same, all_filter}
use Rattle.store_relation.proofs.MadeLemmas.{made_at_other, made_grows, made_active, number_active, ended_length, inserted_more}
use Rattle.store_relation.proofs.FrameLemmas.{sightings_follow}
use Rattle.store_relation.proofs.CurrentLemmas.{put_stays, stands_whole, stands_less}
use Rattle.store_relation.proofs.SpokenLemmas.{spoken_same, spoken_after, spoken_before, stamped_after, stamped_before, forget_after, forget_before, front_each}
use Rattle.store_relation.proofs.SharedLemmas.{counted_put, counts_same, room_stays, laid_by, marked_by, same_graph, unnamed_now, runs, stopped_txn, goes_on, quiet}
use Rattle.store_relation.proofs.ReadLemmas.{seen_reached}

one_long : (xs : List (List Write)) (a b : List Write) → length (xs ++ a ∷ []) ≡ length (xs ++ b ∷ [])
one_long [] a b = refl
one_long (x ∷ xs) a b = ap suc (one_long xs a b)

module _ {z : Config} {word : ℕ → ℕ} {pass : ℕ → PassState} {j : JournalState} {rows : Key → StampedVersions}
    {clock : ℕ} (s : IsShared z word pass j rows clock) (p : ℕ) where
  -- what a write touches, its transaction touches from then on
  touched_more : (w : Write) → (pass p).laid ≡ (pass p).own → (q : TxnName) (k : Key)
      → cond (same_name q (name_of pass p)) (stands ((pass p).laid ++ w ∷ []) ((pass p).own ++ w ∷ []) k)
      (touching_by pass q k)
      ≡ ((same_name q (name_of pass p) && touches_at w k) || touching_by pass q k)
  touched_more w laid q k =
      elim (same_name q (name_of pass p)) as (λ t. same_name q (name_of pass p) ≡ t
      → cond t (stands ((pass p).laid ++ w ∷ []) ((pass p).own ++ w ∷ []) k) (touching_by pass q k)
      ≡ ((t && touches_at w k) || touching_by pass q k)) [
        | true ↦ λ e.
            stands_whole ((pass p).laid ++ w ∷ []) ((pass p).own ++ w ∷ []) k (ap (λ l. l ++ w ∷ []) laid)
            ∙ list_any-snoc (λ x. touches_at x k) (pass p).own w
            ∙ ap (λ t. touches_at w k || t) (sym (ap (λ x. touching_by pass x k) (name_eq q (name_of pass p) e)
            ∙ latest_here number_of (λ st. stands st.laid st.own k) false pass p
            ∙ stands_whole (pass p).laid (pass p).own k laid))
        | false ↦ λ e. refl
      ] refl

  -- WRITE: an open transaction lays a write that its view allows, where each writer at which the write looks is
  -- seen
  pub writes : (w : Write) (rows' : Key → StampedVersions) → (pass p).stage ≡ Open
      → refused (view z.kind (pass p).seen (pass p).start (pass p).own) w ≡ None → IsWithinLimits w
      → ((n : TxnName) → has_name (looked w (λ k. forget_row (rows k))) n ≡ true
      → sees (stamp_in (pass p).seen) (pass p).start (name_of pass p) n ≡ true)
      → ((k : Key) → rows' k ≡ row_after z.kind (name_of pass p) w k (rows k))
      → IsShared z word (revised pass p (written_by (pass p) w)) j rows' clock
  writes w rows' is allowed within free is_written =
      let h = s.each p in
      let me : TxnName = name_of pass p in
      let st' : PassState = written_by (pass p) w in
      let pass' : ℕ → PassState = revised pass p st' in
      let t : Running = now_of (pass p) in
      let old : Key → Versions = (λ k. forget_row (rows k)) in
      let active : is_active (pass p).stage ≡ true = ap is_active is in
      let laid : (pass p).laid ≡ (pass p).own = laid_by s p Open is in
      let marked : word p ≡ 1 = marked_by s p Open is in
      let there : running_of pass me ≡ Some t = runs s p (ap may_commit is) in
      let made : made_of (pass p) ≡ ended_writes (pass p) ++ (pass p).own ∷ [] = made_active (pass p) active in
      let made' : made_of st' ≡ ended_writes (pass p) ++ ((pass p).own ++ w ∷ []) ∷ [] =
      made_active st' active in
      let number : number_of st' ≡ number_of (pass p)
      = ap length made' ∙ one_long (ended_writes (pass p)) ((pass p).own ++ w ∷ []) (pass p).own
      ∙ ap length (sym made) in
      let name : name_at p st' ≡ me = ap (λ n. record { job = p; number = n }) number in
      let longer : (pass p).laid ++ w ∷ [] ≡ (pass p).own ++ w ∷ [] = ap (λ l. l ++ w ∷ []) laid in
      let seen : (n : TxnName) → has_name (looked w old) n ≡ true
      → sees (stamp_in j.commits) (pass p).start me n ≡ true
      = (λ n e. ap (λ b. same_name n me || b) (seen_reached s (pass p).seen (pass p).start h.seen h.started n)
      ∙ free n e) in
      let run_is : running_part st' ≡ Some (record { start = (pass p).start; writes = (pass p).own ++ w ∷ [] })
      = ap (λ (g : Stage). cond (may_commit g)
      (Some (record { start = (pass p).start; writes = (pass p).own ++ w ∷ [] })) None) is in
      let more : inserted_by_pass z.kind (pass p) ≤ inserted_by_pass z.kind st'
      = subst (λ m. inserted z.kind (flat_map (λ us. us) m) ≤ inserted_by_pass z.kind st') (sym made)
      (subst
      (λ m. inserted z.kind (flat_map (λ us. us) (ended_writes (pass p) ++ (pass p).own ∷ []))
      ≤ inserted z.kind (flat_map (λ us. us) m)) (sym made')
      (inserted_more z.kind (ended_writes (pass p)) (pass p).own (w ∷ []))) in
      let b : number_of (pass p) ≤ z.txns_per_pass = s.counted.begun p in
      let below : word p < 3 = omega (arith, marked) in
      subst (λ f. IsShared z f pass' j rows' clock) (λ i q. revised_same word p q i)
      (goes_on s p st' (word p) rows' s.horizon (record {
        store =
            store_written z.kind j.commits (running_of pass) (laid_of pass) (touching_by pass) s.horizon old
            s.store me
            (running_of pass') t there (laid_of pass') (touching_by pass') w (λ k. forget_row (rows' k))
            (subst (λ o. Changes me (running_of pass) (running_of pass') o) run_is
            (changes_latest number_of running_part pass p st' (inl number)))
            (ap (λ g. refused (apply_all z.kind g (pass p).own) w)
            (sym (same_graph s p (pass p).seen (pass p).start h.seen h.started)) ∙ allowed)
            within
            (looked_allows z.kind j.commits (running_of pass) (laid_of pass) (touching_by pass) s.horizon old
            s.store me
            t there w seen)
            (record {
              mine = put_same number_of (λ st. st.laid) [] pass p st' number me
                  ∙ ap (λ c. cond c ((pass p).laid ++ w ∷ []) (laid_of pass me)) (name_self me)
                  ∙ ap (λ l. l ++ w ∷ []) (sym (latest_here number_of (λ st. st.laid) [] pass p));
              others = λ q away. put_same number_of (λ st. st.laid) [] pass p st' number q
                  ∙ ap (λ c. cond c ((pass p).laid ++ w ∷ []) (laid_of pass q)) away;
              touches = λ q k. put_same number_of (λ st. stands st.laid st.own k) false pass p st' number q
                  ∙ touched_more w laid q k;
              rows = λ k. ap forget_row (is_written k) ∙ forget_after z.kind me w k (rows k);
            });
        stamps = λ k. subst (IsStamped (stamp_in j.commits)) (sym (is_written k))
            (stamped_after (stamp_in j.commits) z.kind me w k (rows k) (s.stamps k));
        spoken = λ k. subst (AreSpokenFor pass' k) (sym (is_written k))
            (spoken_after pass' z.kind me w k (rows k)
            (ap (λ n. record { job = p; number = n })
            (sym number ∙ ap number_of (sym (revised_here pass p st'))))
            (ap (λ u. may_stand u k) (revised_here pass p st')
            ∙ ap (λ (g : Stage). is_active g || has_key (pass p).unstamped k) is)
            (spoken_same pass p st' k (rows k) (s.spoken k) number (λ e. e)));
        stamped = λ i c at named. absurd (unnamed_now s p below i c at (named ∙ name));
        entered = λ n e. absurd (omega (arith, e, below));
        made = λ i c at job. ap (λ m. made_at m c.by.number) made'
            ∙ made_at_other (ended_writes (pass p)) ((pass p).own ++ w ∷ []) (pass p).own c.by.number
            (λ last. unnamed_now s p below i c at (λ k. record {
              job = job k;
              number = (last ∙ ap suc (ended_length (pass p)) ∙ sym (number_active (pass p) active)) k;
            }))
            ∙ ap (λ m. made_at m c.by.number) (sym made);
        grows = λ n v e. ap (λ m. meets z.kind v (made_at m n)) made'
            ∙ made_grows z.kind (ended_writes (pass p)) (pass p).own w v n
            (ap (λ m. meets z.kind v (made_at m n)) (sym made) ∙ e);
        kept = λ n. refl;
        this = λ f. record {
          marked = h.marked;
          seen = h.seen;
          started = h.started;
          laid = subst (λ (g : Stage). IsLaid g ((pass p).laid ++ w ∷ []) ((pass p).own ++ w ∷ [])) (sym is)
              longer;
          next = λ e. absurd (not_committing (sym is ∙ e));
          met = h.met;
          holders = sightings_follow z.kind pass j pass' j f (pass p).holders h.holders;
          sighted = sightings_follow z.kind pass j pass' j f (pass p).sighted h.sighted;
          looks = h.looks;
        };
        counted = counted_put z pass j j p st' s.counted refl (record {
          room = room_stays pass p st' z.passes j.room s.counted.room (omega arith);
          past = omega arith;
          begun = omega (arith, number, b);
          outside = s.counted.outside p;
          inserted = more;
          filled = s.counted.filled p;
        });
      }))
    where
      not_committing : Open ≡ Committing → ⊥
      not_committing e = cc

  -- the same by what was found in each row
  pub writes_by_row : (w : Write) (rows' : Key → StampedVersions) → (pass p).stage ≡ Open
      → refused (view z.kind (pass p).seen (pass p).start (pass p).own) w ≡ None → IsWithinLimits w
      → ((k : Key) → MayWrite z.kind (sees (stamp_in (pass p).seen) (pass p).start (name_of pass p)) w k
      (forget_row (rows k)))
      → ((k : Key) → rows' k ≡ row_after z.kind (name_of pass p) w k (rows k))
      → IsShared z word (revised pass p (written_by (pass p) w)) j rows' clock
  writes_by_row w rows' is allowed within may is_written =
      writes w rows' is allowed within
      (looked_by_row z.kind (sees (stamp_in (pass p).seen) (pass p).start (name_of pass p)) w
      (λ k. forget_row (rows k))
      may)
      is_written

  -- what is taken back, its transaction doesn't touch any more
  touched_less : (front : List Write) (w : Write) → (pass p).laid ≡ front ++ w ∷ []
      → IsPrefix (front ++ w ∷ []) (pass p).own → (q : TxnName) (k : Key)
      → cond (same_name q (name_of pass p)) (stands front (pass p).own k) (touching_by pass q k)
      ≡ cond (same_name q (name_of pass p) && touches_at w k) false (touching_by pass q k)
  touched_less front w laid part q k =
      elim (same_name q (name_of pass p)) as (λ t. same_name q (name_of pass p) ≡ t
      → cond t (stands front (pass p).own k) (touching_by pass q k)
      ≡ cond (t && touches_at w k) false (touching_by pass q k)) [
        | true ↦ λ e.
            stands_less front w part.0 (pass p).own k part.1
            ∙ ap (cond (touches_at w k) false) (ap (λ l. stands l (pass p).own k) (sym laid)
            ∙ sym (ap (λ x. touching_by pass x k) (name_eq q (name_of pass p) e)
            ∙ latest_here number_of (λ st. stands st.laid st.own k) false pass p))
        | false ↦ λ e. refl
      ] refl

  -- UNDO: an abort takes its newest write that stands out of the rows
  pub undoes : (front : List Write) (w : Write) (rows' : Key → StampedVersions) → (pass p).stage ≡ Aborting
      → (pass p).laid ≡ front ++ w ∷ []
      → ((k : Key) → rows' k ≡ row_before z.kind (name_of pass p) w k (rows k))
      → IsShared z word (revised pass p (taken_back (pass p) front)) j rows' clock
  undoes front w rows' is laid is_undone =
      let h = s.each p in
      let me : TxnName = name_of pass p in
      let st' : PassState = taken_back (pass p) front in
      let pass' : ℕ → PassState = revised pass p st' in
      let part : IsPrefix (front ++ w ∷ []) (pass p).own
      = subst (λ l. IsPrefix l (pass p).own) laid (laid_by s p Aborting is) in
      let closed : running_of pass me ≡ None = stopped_txn s p (ap may_commit is) in
      let same_run : running_of pass ≡ running_of pass'
      = (λ i q. sym (put_stays running_part None pass p st' refl refl q) i) in
      quiet s p st' rows' s.horizon (record {
        store =
            subst
            (λ r. IsStore z.kind j.commits r (laid_of pass') (touching_by pass') s.horizon
            (λ k. forget_row (rows' k)))
            same_run
            (store_undone z.kind j.commits (running_of pass) (laid_of pass) (touching_by pass) s.horizon
            (λ k. forget_row (rows k)) s.store me closed w (laid_of pass') (touching_by pass')
            (λ k. forget_row (rows' k))
            (record {
              mine = latest_here number_of (λ st. st.laid) [] pass p ∙ laid
                  ∙ ap (λ l. l ++ w ∷ []) (sym (put_same number_of (λ st. st.laid) [] pass p st' refl me
                  ∙ ap (λ c. cond c front (laid_of pass me)) (name_self me)));
              others = λ q away. put_same number_of (λ st. st.laid) [] pass p st' refl q
                  ∙ ap (λ c. cond c front (laid_of pass q)) away;
              touches = λ q k. put_same number_of (λ st. stands st.laid st.own k) false pass p st' refl q
                  ∙ touched_less front w laid part q k;
              rows = λ k. ap forget_row (is_undone k) ∙ forget_before z.kind me w k (rows k);
            }));
        stamps = λ k. subst (IsStamped (stamp_in j.commits)) (sym (is_undone k))
            (stamped_before (stamp_in j.commits) z.kind me w k (rows k) (s.stamps k));
        spoken = λ k. subst (AreSpokenFor pass' k) (sym (is_undone k))
            (spoken_before pass' z.kind me w k (rows k)
            (spoken_same pass p st' k (rows k) (s.spoken k) refl (λ e. e)));
        made = refl;
        kept = λ n. refl;
        this = λ f. record {
          marked = h.marked;
          seen = h.seen;
          started = h.started;
          laid = subst (λ (g : Stage). IsLaid g front (pass p).own) (sym is)
              (prefix_shorter front w (pass p).own part);
          next = h.next;
          met = h.met;
          holders = sightings_follow z.kind pass j pass' j f (pass p).holders h.holders;
          sighted = sightings_follow z.kind pass j pass' j f (pass p).sighted h.sighted;
          looks = h.looks;
        };
        counted = counts_same s p st' refl refl refl (s.counted.filled p);
      })

-- PRUNE: some rows are pruned at a horizon that no start of a transaction that may commit is below, by whatever
-- tells of the writers of records without a stamp
pub prunes : {z : Config} {word : ℕ → ℕ} {pass : ℕ → PassState} {j : JournalState}
    {rows : Key → StampedVersions}
    {clock : ℕ} (s : IsShared z word pass j rows clock)
    (stamps : TxnName → Option ℕ) (at horizon' : ℕ) (rows' : Key → StampedVersions)
    → s.horizon ≤ horizon' → at ≤ horizon' → horizon' ≤ length j.commits
    → ((p : ℕ) → may_commit (pass p).stage ≡ true → horizon' ≤ (pass p).start)
    → ((k : Key) → (rows' k ≡ rows k)
    ⊎ ((rows' k ≡ prune_stamped stamps at (rows k)) × AreTold stamps (stamp_in j.commits) at (rows k)))
    → IsShared z word pass j rows' clock
prunes {z = z} {word = word} {pass = pass} {j = j} {rows = rows} {clock = clock} s stamps at horizon' rows' up
    over within live each =
    let exact : (k : Key) → (rows' k ≡ rows k) ⊎ (rows' k ≡ prune_stamped (stamp_in j.commits) at (rows k))
    = (λ k. elim (each k)
    as (λ _. (rows' k ≡ rows k) ⊎ (rows' k ≡ prune_stamped (stamp_in j.commits) at (rows k))) [
      | inl e ↦ inl e
      | inr e ↦ inr (e.0 ∙ prune_agrees stamps (stamp_in j.commits) at (rows k) e.1)
    ]) in
    record {
      horizon = horizon';
      published = s.published;
      store = store_pruned z.kind j.commits (running_of pass) (laid_of pass) (touching_by pass) s.horizon
          (λ k. forget_row (rows k)) s.store at horizon' (λ k. forget_row (rows' k)) over up within pinned
          (λ k. whole_pruned (stamp_in j.commits) at (forget_row (rows k)) (forget_row (rows' k))
          (elim (exact k)
          as (λ _. (forget_row (rows' k) ≡ forget_row (rows k))
          ⊎ (forget_row (rows' k) ≡ prune (stamp_in j.commits) at (forget_row (rows k)))) [
            | inl e ↦ inl (ap forget_row e)
            | inr e ↦ inr (ap forget_row e ∙ prune_forgets (stamp_in j.commits) at (rows k) (s.stamps k))
          ]));
      stamps = λ k. elim (exact k) as (λ _. IsStamped (stamp_in j.commits) (rows' k)) [
        | inl e ↦ subst (IsStamped (stamp_in j.commits)) (sym e) (s.stamps k)
        | inr e ↦ subst (IsStamped (stamp_in j.commits)) (sym e)
            (prune_is_right (stamp_in j.commits) at (rows k) (s.stamps k))
      ];
      spoken = λ k. elim (exact k) as (λ _. AreSpokenFor pass k (rows' k)) [
        | inl e ↦ subst (AreSpokenFor pass k) (sym e) (s.spoken k)
        | inr e ↦ subst (AreSpokenFor pass k) (sym e) (record {
          pairs = front_each (IsSpokenFor pass k) _ (rows k).pairs (s.spoken k).pairs;
          touches = all_filter (IsSpokenFor pass k) _ (rows k).touches (s.spoken k).touches;
        })
      ];
      stamped = s.stamped;
      entered = s.entered;
      made = s.made;
      kept = s.kept;
      each = s.each;
      counted = s.counted;
    }
  where
    by_tests : (b c : Bool) (st : PassState) (t : Running) → may_commit st.stage ≡ c
        → (may_commit st.stage ≡ true → horizon' ≤ st.start)
        → cond b (cond c (Some (record { start = st.start; writes = st.own })) None) None ≡ Some t
        → horizon' ≤ t.start
    by_tests true true st t is low e =
        let same : record { start = st.start; writes = st.own } ≡ t = cc in
        subst (λ (u : Running). horizon' ≤ u.start) same (low is)
    by_tests true false st t is low e = cc
    by_tests false c st t is low e = cc

    pinned : (by : TxnName) (t : Running) → running_of pass by ≡ Some t → horizon' ≤ t.start
    pinned by t there =
        by_tests (by.number == number_of (pass by.job)) (may_commit (pass by.job).stage) (pass by.job) t refl
        (live by.job) there
