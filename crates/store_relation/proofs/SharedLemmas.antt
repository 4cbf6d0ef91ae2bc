-- What every step of one pass owes, and what it leaves of the others.
use Rattle.std.proofs.Common.{◌≡◌, ℕ, ◌+◌, ◌*◌, ◌<◌, ◌≤◌, List, [], length, refl, sym, ◌∙◌, ap, subst, cond, arith, inl, inr}
use Rattle.std.specs.Prelude.{◌⊎◌, Bool, true, false, Some, None, slice_get}
use mathlib.Core.List.{IsPrefix}
use mathlib.Core.Logic.{dite}
use native.Mathlib.Decide.{ℕ_discrete, dec_le}
use Rattle.std.proofs.lemmas.Bool.{true≢false, false_from_ne_true}
use Rattle.graph_model.specs.declared.limits.TheConstants.{SPLIT_ROWS}
use Rattle.graph_model.specs.declared.write.Write.{Write}
use Rattle.graph_model.specs.declared.row.Key.{Key}
use Rattle.graph_model.specs.declared.journal.TxnName.{TxnName}
use Rattle.graph_model.specs.declared.journal.Commit.{Commit}
use Rattle.graph_model.specs.Conflict.{meets}
use Rattle.graph_model.specs.Effects.{any_writes}
use Rattle.graph_model.specs.History.{graph_at}
use Rattle.graph_model.specs.Passes.{revised}
use Rattle.graph_model.specs.Transactions.{stamp_in, HasNotCommitted}
use Rattle.graph_model.proofs.LegalLemmas.{graph_at-append, get_front}
use Rattle.graph_model.proofs.PassLemmas.{latest_here}
use Rattle.graph_model.proofs.TestLemmas.{name_eq}
use Rattle.txn_manager.specs.declared.config.Config.{Config}
use Rattle.store_model.specs.Stamped.{StampedVersions, IsStamped, forget_row}
use Rattle.store_model.specs.Store.{IsStore}
use Rattle.store_model.proofs.CheckLemmas.{writer_of, toucher_of}
use Rattle.store_relation.specs.declared.stage.Stage.{Stage}
use Rattle.store_relation.specs.declared.stage.Stage.TheVariants.{Idle, Committing}
use Rattle.store_relation.specs.Passes.{IsLaid, PassState, is_active, kept_stamp, laid_of, made_at, made_of, may_commit, name_at, name_of, needs_room, now_of, number_of, running_of, running_part, stamp_by, touching_by, writes_by}
use Rattle.store_relation.specs.Shared.{AreCounted, AreSpokenFor, IsPass, IsShared, JournalState, entries, inserted_by_all, inserted_by_pass, room_needed, sum_below}
use Rattle.store_relation.specs.Words.{IsMarked}
use Rattle.store_relation.proofs.ListLemmas.{prefix_all, prefix_get, revised_here, revised_else, revised_same, all_put, sum_le}
use Rattle.store_relation.proofs.MadeLemmas.{made_at_behind, inserted_same}
use Rattle.store_relation.proofs.FrameLemmas.{Follows, other_stays}
use Rattle.store_relation.proofs.SpokenLemmas.{StandsIn}

-- ---- counts

term_put : (f : PassState → ℕ) (pass : ℕ → PassState) (p : ℕ) (st' : PassState) → f st' ≤ f (pass p)
    → (q : ℕ) → f (revised pass p st' q) ≤ f (pass q)
term_put f pass p st' le = all_put (λ q u. f u ≤ f (pass q)) pass p st' le (λ q _. omega arith)

term_more : (f : PassState → ℕ) (pass : ℕ → PassState) (p : ℕ) (st' : PassState) → f (pass p) ≤ f st'
    → (q : ℕ) → f (pass q) ≤ f (revised pass p st' q)
term_more f pass p st' le = all_put (λ q u. f (pass q) ≤ f u) pass p st' le (λ q _. omega arith)

-- the room stays where no more is needed
pub room_stays : (pass : ℕ → PassState) (p : ℕ) (st' : PassState) (n room : ℕ)
    → sum_below (λ q. room_needed (pass q)) n ≤ room → room_needed st' ≤ room_needed (pass p)
    → sum_below (λ q. room_needed (revised pass p st' q)) n ≤ room
room_stays pass p st' n room le less =
    let down = sum_le (λ q. room_needed (revised pass p st' q)) (λ q. room_needed (pass q)) n
    (term_put room_needed pass p st' less) in
    omega (arith, le, down)

-- a step that publishes nothing, of a pass that comes to this state
pub record Counts (z : Config) (pass : ℕ → PassState) (commits : List Commit) (free p : ℕ) (st' : PassState)
    : Type 0 where
  pub room : sum_below (λ q. room_needed (revised pass p st' q)) z.passes ≤ free
  pub past : length (pass p).past ≤ length st'.past
  pub begun : number_of st' ≤ z.txns_per_pass
  pub outside : z.passes ≤ p → (st'.stage ≡ Idle) × (st'.past ≡ [])
  pub inserted : inserted_by_pass z.kind (pass p) ≤ inserted_by_pass z.kind st'
  pub filled : st'.filled ≡ true → SPLIT_ROWS * z.leaves ≤ inserted_by_all z pass

pub counted_put : (z : Config) (pass : ℕ → PassState) (j j' : JournalState) (p : ℕ) (st' : PassState)
    → AreCounted z pass j → j'.commits ≡ j.commits → Counts z pass j.commits j'.room p st'
    → AreCounted z (revised pass p st') j'
counted_put z pass j j' p st' c same n =
    let up : inserted_by_all z pass ≤ inserted_by_all z (revised pass p st')
    = sum_le _ _ z.passes (term_more (inserted_by_pass z.kind) pass p st' n.inserted) in
    let longer : sum_below (λ q. length (pass q).past) z.passes
    ≤ sum_below (λ q. length (revised pass p st' q).past) z.passes
    = sum_le _ _ z.passes (term_more (λ u. length u.past) pass p st' n.past) in
    let long : length j'.commits ≡ length j.commits = ap length same in
    let old : length j.commits ≤ sum_below (λ q. length (pass q).past) z.passes = c.clock in
    record {
      room = n.room;
      clock = omega (arith, long, old, longer);
      begun = all_put (λ q u. number_of u ≤ z.txns_per_pass) pass p st' n.begun (λ q _. c.begun q);
      outside = all_put (λ q u. z.passes ≤ q → (u.stage ≡ Idle) × (u.past ≡ [])) pass p st' n.outside
          (λ q _. c.outside q);
      filled = all_put
          (λ q u. u.filled ≡ true → SPLIT_ROWS * z.leaves ≤ inserted_by_all z (revised pass p st')) pass p st'
          (λ e. let b = n.filled e in omega (arith, b, up))
          (λ q _ e. let b = c.filled q e in omega (arith, b, up));
    }

-- ---- facts of the pass that steps

module _ {z : Config} {word : ℕ → ℕ} {pass : ℕ → PassState} {j : JournalState} {rows : Key → StampedVersions}
    {clock : ℕ} (s : IsShared z word pass j rows clock) where
  -- whoever has a record in a row has laid it, or has committed
  abbrev pub Stands : Key → TxnName → Type 0
  Stands k n = ((any_writes z.kind (laid_of pass n) k ≡ true) ⊎ (touching_by pass n k ≡ true))
      ⊎ ((i : ℕ) × (c : Commit) × (slice_get j.commits i ≡ Some c) × (c.by ≡ n))

  pub stander : (k : Key) (n : TxnName) → StandsIn (rows k) n → Stands k n
  stander k n (inl h) =
      elim (writer_of z.kind j.commits (running_of pass) (laid_of pass) (touching_by pass) s.horizon
      (λ q. forget_row (rows q)) s.store n k h)
      as (λ _. Stands k n) [ inl e ↦ inl (inl e) | inr c ↦ inr (c.place, c.commit, c.at, c.named) ]
  stander k n (inr h) =
      elim (toucher_of z.kind j.commits (running_of pass) (laid_of pass) (touching_by pass) s.horizon
      (λ q. forget_row (rows q)) s.store n k h)
      as (λ _. Stands k n) [ inl e ↦ inl (inr e) | inr c ↦ inr (c.place, c.commit, c.at, c.named) ]

  module _ (p : ℕ) where
    pub laid_by : (stage : Stage) → (pass p).stage ≡ stage → IsLaid stage (pass p).laid (pass p).own
    laid_by stage is = subst (λ (g : Stage). IsLaid g (pass p).laid (pass p).own) is (s.each p).laid

    pub marked_by : (stage : Stage) → (pass p).stage ≡ stage → IsMarked stage (word p) (length j.commits)
    marked_by stage is = subst (λ (g : Stage). IsMarked g (word p) (length j.commits)) is (s.each p).marked

    -- an active pass is one of the store's
    pub inside : is_active (pass p).stage ≡ true → p < z.passes
    inside active = dite (dec_le z.passes p)
        (λ out. absurd (true≢false (sym active ∙ ap is_active (s.counted.outside p out).0)))
        (λ low. omega arith)

    -- the snapshot of what was seen is the journal's
    pub same_graph : (seen : List Commit) (start : ℕ) → IsPrefix seen j.commits → start ≤ length seen
        → graph_at z.kind seen start ≡ graph_at z.kind j.commits start
    same_graph seen start front within =
        sym (graph_at-append z.kind seen front.0 start within) ∙ ap (λ l. graph_at z.kind l start) front.1

    -- no entry has the name of a transaction that hasn't begun
    pub unnamed_next : (number : ℕ) → number_of (pass p) < number → (i : ℕ) (c : Commit)
        → slice_get (entries j) i ≡ Some c → c.by ≡ record { job = p; number = number } → ⊥
    unnamed_next number lt i c at named =
        let m = s.made i c at in
        let none : c.writes ≡ [] = sym m.1 ∙ ap (λ (b : TxnName). writes_by (pass b.job) b.number) named
        ∙ made_at_behind (made_of (pass p)) number lt in
        let wrote : 0 < length c.writes = m.0 in
        let empty : length c.writes ≡ 0 = ap length none in
        omega (arith, wrote, empty)

    -- nor has one the name of a latest transaction whose word is no stamp
    pub unnamed_now : word p < 3 → (i : ℕ) (c : Commit)
        → slice_get (entries j) i ≡ Some c → c.by ≡ name_of pass p → ⊥
    unnamed_now low i c at named =
        let job : c.by.job ≡ p = ap (λ (b : TxnName). b.job) named in
        let w : word p ≡ i + 3 = ap word (sym job) ∙ s.stamped i c at (named ∙ ap (name_of pass) (sym job)) in
        omega (arith, low, w)

    -- an open or aborting transaction hasn't committed
    pub not_committed : word p < 3 → HasNotCommitted j.commits (name_of pass p)
    not_committed low i c at = false_from_ne_true _ (λ e.
        unnamed_now low i c (get_front j.commits j.next i c at) (name_eq c.by (name_of pass p) e))

    run_at : (b : Bool) → may_commit (pass p).stage ≡ b
        → running_of pass (name_of pass p) ≡ cond b (Some (now_of (pass p))) None
    run_at b is =
        latest_here number_of running_part None pass p ∙ ap (λ t. cond t (Some (now_of (pass p))) None) is

    pub runs : may_commit (pass p).stage ≡ true → running_of pass (name_of pass p) ≡ Some (now_of (pass p))
    runs is = run_at true is

    pub stopped_txn : may_commit (pass p).stage ≡ false → running_of pass (name_of pass p) ≡ None
    stopped_txn is = run_at false is

    -- counts of a step that leaves what the pass has made and how many have ended, and needs no more room
    pub counts_same : (st' : PassState) → st'.stage ≡ (pass p).stage → st'.past ≡ (pass p).past
        → made_of st' ≡ made_of (pass p)
        → (st'.filled ≡ true → SPLIT_ROWS * z.leaves ≤ inserted_by_all z pass)
        → AreCounted z (revised pass p st') j
    counts_same st' stage past made filled =
        let b : number_of (pass p) ≤ z.txns_per_pass = s.counted.begun p in
        let number : number_of st' ≡ number_of (pass p) = ap length made in
        let room : room_needed st' ≡ room_needed (pass p) = ap (λ g. cond (needs_room g) 1 0) stage in
        let long : length st'.past ≡ length (pass p).past = ap length past in
        let rows : inserted_by_pass z.kind st' ≡ inserted_by_pass z.kind (pass p)
        = inserted_same z.kind (pass p) st' made in
        counted_put z pass j j p st' s.counted refl (record {
          room = room_stays pass p st' z.passes j.room s.counted.room (omega (arith, room));
          past = omega (arith, long);
          begun = omega (arith, b, number);
          outside = λ out. let o = s.counted.outside p out in (stage ∙ o.0, past ∙ o.1);
          inserted = omega (arith, rows);
          filled = filled;
        })

    -- counts of a step by which an active pass stops, ends or takes its stamp: it has made what it has made
    pub counts_active : (st' : PassState) (j' : JournalState) → is_active (pass p).stage ≡ true
        → j'.commits ≡ j.commits → made_of st' ≡ made_of (pass p) → length (pass p).past ≤ length st'.past
        → sum_below (λ q. room_needed (revised pass p st' q)) z.passes ≤ j'.room → st'.filled ≡ (pass p).filled
        → AreCounted z (revised pass p st') j'
    counts_active st' j' active same made past room filled =
        let b : number_of (pass p) ≤ z.txns_per_pass = s.counted.begun p in
        let number : number_of st' ≡ number_of (pass p) = ap length made in
        let rows : inserted_by_pass z.kind st' ≡ inserted_by_pass z.kind (pass p)
        = inserted_same z.kind (pass p) st' made in
        counted_put z pass j j' p st' s.counted same (record {
          room = room;
          past = past;
          begun = omega (arith, b, number);
          outside = λ out. absurd (true≢false (sym active ∙ ap is_active (s.counted.outside p out).0));
          inserted = omega (arith, rows);
          filled = λ e. s.counted.filled p (sym filled ∙ e);
        })

    -- ---- a step of this pass

    -- what the step owes where the pass comes to this state and this word
    pub record Moves (st' : PassState) (word' : ℕ) (j' : JournalState) (rows' : Key → StampedVersions)
        (clock' horizon' : ℕ) : Type 0 where
      pub published : clock' ≡ length j'.commits
      pub store : IsStore z.kind j'.commits (running_of (revised pass p st')) (laid_of (revised pass p st'))
          (touching_by (revised pass p st')) horizon' (λ k. forget_row (rows' k))
      pub stamps : (k : Key) → IsStamped (stamp_in j'.commits) (rows' k)
      pub spoken : (k : Key) → AreSpokenFor (revised pass p st') k (rows' k)
      pub follows : Follows z.kind pass j (revised pass p st') j'
      -- while the stamp of another pass is stored and not published the journal stays as it is
      pub others : (q : ℕ) → (q ≡ p → ⊥) → (pass q).stage ≡ Committing
          → (j'.commits ≡ j.commits) × (j'.next ≡ j.next)
      -- an entry was there, or is of this transaction, and its word says so
      pub listed : (i : ℕ) (c : Commit) → slice_get (entries j') i ≡ Some c
          → (slice_get (entries j) i ≡ Some c)
          ⊎ ((c.by ≡ name_at p st') × (word' ≡ i + 3) × (0 < length c.writes)
          × (writes_by st' c.by.number ≡ c.writes))
      pub stamped : (i : ℕ) (c : Commit) → slice_get (entries j) i ≡ Some c → c.by ≡ name_at p st'
          → word' ≡ i + 3
      pub entered : (n : ℕ) → word' ≡ n + 3
          → (c : Commit) × (slice_get (entries j') n ≡ Some c) × (c.by ≡ name_at p st')
      pub made : (i : ℕ) (c : Commit) → slice_get (entries j) i ≡ Some c → c.by.job ≡ p
          → writes_by st' c.by.number ≡ writes_by (pass p) c.by.number
      pub kept : (by : TxnName) → stamp_by (revised pass p st') by ≡ stamp_in j'.commits by
      pub this : IsPass z.kind (revised pass p st') j' word' p st'
      pub counted : AreCounted z (revised pass p st') j'

    -- STEPS: so the rule is kept
    pub steps : (st' : PassState) (word' : ℕ) (j' : JournalState) (rows' : Key → StampedVersions)
        (clock' horizon' : ℕ)
        → Moves st' word' j' rows' clock' horizon'
        → IsShared z (revised word p word') (revised pass p st') j' rows' clock'
    steps st' word' j' rows' clock' horizon' m = record {
      horizon = horizon';
      published = m.published;
      store = m.store;
      stamps = m.stamps;
      spoken = m.spoken;
      stamped = λ i c at named. elim (m.listed i c at) as (λ _. revised word p word' c.by.job ≡ i + 3) [
        | inl old ↦ dite (ℕ_discrete c.by.job p)
            (λ same. ap (revised word p word') same ∙ revised_here word p word'
            ∙ m.stamped i c old (named ∙ ap (λ q. name_at q (revised pass p st' q)) same
            ∙ ap (name_at p) (revised_here pass p st')))
            (λ other. revised_else word p word' c.by.job other
            ∙ s.stamped i c old (named ∙ ap (name_at c.by.job) (revised_else pass p st' c.by.job other)))
        | inr new ↦ ap (λ (b : TxnName). revised word p word' b.job) new.0 ∙ revised_here word p word' ∙ new.1
      ];
      entered = all_put
          (λ q u. (n : ℕ) → revised word p word' q ≡ n + 3
          → (c : Commit) × (slice_get (entries j') n ≡ Some c) × (c.by ≡ name_at q u))
          pass p st'
          (λ n e. m.entered n (sym (revised_here word p word') ∙ e))
          (λ q other n e.
          let r = s.entered q n (sym (revised_else word p word' q other) ∙ e) in
          (r.0, prefix_get (entries j) (entries j') m.follows.listed n r.0 r.1, r.2));
      made = λ i c at. elim (m.listed i c at)
          as (λ _. (0 < length c.writes) × (writes_by (revised pass p st' c.by.job) c.by.number ≡ c.writes)) [
            | inl old ↦ (
              (s.made i c old).0,
              dite (ℕ_discrete c.by.job p)
                  (λ same. ap (λ q. writes_by (revised pass p st' q) c.by.number) same
                  ∙ ap (λ u. writes_by u c.by.number) (revised_here pass p st') ∙ m.made i c old same
                  ∙ ap (λ q. writes_by (pass q) c.by.number) (sym same) ∙ (s.made i c old).1)
                  (λ other. ap (λ u. writes_by u c.by.number) (revised_else pass p st' c.by.job other)
                  ∙ (s.made i c old).1),
            )
            | inr new ↦ (
              new.2,
              ap (λ (b : TxnName). writes_by (revised pass p st' b.job) c.by.number) new.0
                  ∙ ap (λ u. writes_by u c.by.number) (revised_here pass p st') ∙ new.3,
            )
          ];
      kept = m.kept;
      each = all_put (λ q u. IsPass z.kind (revised pass p st') j' (revised word p word' q) q u) pass p st'
          (subst (λ w. IsPass z.kind (revised pass p st') j' w p st') (sym (revised_here word p word')) m.this)
          (λ q other.
          subst (λ w. IsPass z.kind (revised pass p st') j' w q (pass q))
          (sym (revised_else word p word' q other))
          (other_stays z.kind pass j (revised pass p st') j' m.follows (word q) q (pass q) (m.others q other)
          (s.each q)));
      counted = m.counted;
    }

    -- ---- a step that leaves the journal's commits and entries

    pub follows : (st' : PassState)
        → ((n : ℕ) (w : Write) → meets z.kind w (writes_by (pass p) n) ≡ true
        → meets z.kind w (writes_by st' n) ≡ true)
        → Follows z.kind pass j (revised pass p st') j
    follows st' grows = record {
      legal = s.store.transactions.legal;
      journal = prefix_all j.commits;
      listed = prefix_all (entries j);
      late = λ i c at. inl at;
      made = λ o n w. all_put
          (λ q u. meets z.kind w (writes_by (pass q) n) ≡ true → meets z.kind w (writes_by u n) ≡ true) pass p
          st'
          (grows n w) (λ q _ e. e) o;
    }

    -- the stamps that are kept stay where those of the pass do
    pub kept_put : (st' : PassState) → ((n : ℕ) → kept_stamp st'.past n ≡ kept_stamp (pass p).past n)
        → (by : TxnName) → stamp_by (revised pass p st') by ≡ stamp_in j.commits by
    kept_put st' same by =
        all_put (λ q u. (n : ℕ) → kept_stamp u.past n ≡ kept_stamp (pass q).past n) pass p st' same
        (λ q _ n. refl)
        by.job by.number
        ∙ s.kept by

    pub record GoesOn (st' : PassState) (word' : ℕ) (rows' : Key → StampedVersions) (horizon' : ℕ) : Type 0
      where
        pub store : IsStore z.kind j.commits (running_of (revised pass p st')) (laid_of (revised pass p st'))
            (touching_by (revised pass p st')) horizon' (λ k. forget_row (rows' k))
        pub stamps : (k : Key) → IsStamped (stamp_in j.commits) (rows' k)
        pub spoken : (k : Key) → AreSpokenFor (revised pass p st') k (rows' k)
        pub stamped : (i : ℕ) (c : Commit) → slice_get (entries j) i ≡ Some c → c.by ≡ name_at p st'
            → word' ≡ i + 3
        pub entered : (n : ℕ) → word' ≡ n + 3
            → (c : Commit) × (slice_get (entries j) n ≡ Some c) × (c.by ≡ name_at p st')
        pub made : (i : ℕ) (c : Commit) → slice_get (entries j) i ≡ Some c → c.by.job ≡ p
            → writes_by st' c.by.number ≡ writes_by (pass p) c.by.number
        pub grows : (n : ℕ) (w : Write) → meets z.kind w (writes_by (pass p) n) ≡ true
            → meets z.kind w (writes_by st' n) ≡ true
        pub kept : (n : ℕ) → kept_stamp st'.past n ≡ kept_stamp (pass p).past n
        pub this : Follows z.kind pass j (revised pass p st') j → IsPass z.kind (revised pass p st') j word' p st'
        pub counted : AreCounted z (revised pass p st') j

    pub goes_on : (st' : PassState) (word' : ℕ) (rows' : Key → StampedVersions) (horizon' : ℕ)
        → GoesOn st' word' rows' horizon'
        → IsShared z (revised word p word') (revised pass p st') j rows' clock
    goes_on st' word' rows' horizon' g =
        let f = follows st' g.grows in
        steps st' word' j rows' clock horizon' (record {
          published = s.published;
          store = g.store;
          stamps = g.stamps;
          spoken = g.spoken;
          follows = f;
          others = λ q _ _. (refl, refl);
          listed = λ i c at. inl at;
          stamped = g.stamped;
          entered = g.entered;
          made = g.made;
          kept = kept_put st' g.kept;
          this = g.this f;
          counted = g.counted;
        })

    -- ---- and one that leaves the word, and what the pass has made

    pub record IsQuiet (st' : PassState) (rows' : Key → StampedVersions) (horizon' : ℕ) : Type 0 where
      pub store : IsStore z.kind j.commits (running_of (revised pass p st')) (laid_of (revised pass p st'))
          (touching_by (revised pass p st')) horizon' (λ k. forget_row (rows' k))
      pub stamps : (k : Key) → IsStamped (stamp_in j.commits) (rows' k)
      pub spoken : (k : Key) → AreSpokenFor (revised pass p st') k (rows' k)
      pub made : made_of st' ≡ made_of (pass p)
      pub kept : (n : ℕ) → kept_stamp st'.past n ≡ kept_stamp (pass p).past n
      pub this : Follows z.kind pass j (revised pass p st') j
          → IsPass z.kind (revised pass p st') j (word p) p st'
      pub counted : AreCounted z (revised pass p st') j

    pub quiet : (st' : PassState) (rows' : Key → StampedVersions) (horizon' : ℕ) → IsQuiet st' rows' horizon'
        → IsShared z word (revised pass p st') j rows' clock
    quiet st' rows' horizon' q =
        let number : number_of st' ≡ number_of (pass p) = ap length q.made in
        let name : name_at p st' ≡ name_of pass p = ap (λ n. record { job = p; number = n }) number in
        subst (λ w. IsShared z w (revised pass p st') j rows' clock) (λ i o. revised_same word p o i)
        (goes_on st' (word p) rows' horizon' (record {
          store = q.store;
          stamps = q.stamps;
          spoken = q.spoken;
          stamped = λ i c at named.
              let me : c.by ≡ name_of pass p = named ∙ name in
              let job : c.by.job ≡ p = ap (λ (b : TxnName). b.job) me in
              ap word (sym job) ∙ s.stamped i c at (me ∙ ap (name_of pass) (sym job));
          entered = λ n e. let r = s.entered p n e in (r.0, r.1, r.2 ∙ sym name);
          made = λ i c at _. ap (λ m. made_at m c.by.number) q.made;
          grows = λ n w e. ap (λ m. meets z.kind w (made_at m n)) q.made ∙ e;
          kept = q.kept;
          this = q.this;
          counted = q.counted;
        }))
