-- A new shared store, the bound of its clock, and what one knows at its end.
use Rattle.std.proofs.Common.{◌≡◌, ℕ, zero, suc, ◌+◌, ◌*◌, ◌<◌, ◌≤◌, List, [], ◌∷◌, length, map, refl, sym, ◌∙◌, ap, subst, cond, arith, inl, inr}
use Rattle.std.specs.Prelude.{Bool, true, false, ◌==◌, ◌||◌, Option, Some, None}
use Rattle.std.specs.List.{AllByRecursion}
use Rattle.std.proofs.lemmas.Bool.{true≢false}
use mathlib.Core.Logic.{dite}
use native.Mathlib.Decide.{dec_le}
use Rattle.graph_model.specs.declared.write.Write.{Write}
use Rattle.graph_model.specs.declared.row.Key.{Key}
use Rattle.graph_model.specs.declared.journal.TxnName.{TxnName}
use Rattle.graph_model.specs.declared.journal.Commit.{Commit}
use Rattle.graph_model.specs.History.{graph_at}
use Rattle.graph_model.specs.Rows.{value_at}
use Rattle.graph_model.specs.Transactions.{stamp_in}
use Rattle.graph_model.proofs.LegalLemmas.{get_front}
use Rattle.graph_model.proofs.StampLemmas.{stamp_at}
use Rattle.txn_manager.specs.declared.config.Config.{Config}
use Rattle.store_model.specs.Stamped.{Stamped, StampedVersions, forget, forget_row, prune_stamped, AreTold}
use Rattle.store_model.specs.Store.{IsStore}
use Rattle.store_model.specs.Versions.{no_versions}
use Rattle.store_model.proofs.NewLemmas.{store_new}
use Rattle.store_model.proofs.PruneLemmas.{row_settled}
use Rattle.store_model.proofs.StampedLemmas.{prune_forgets}
use Rattle.store_model.proofs.StoreLemmas.{store_same}
use Rattle.version_segment.specs.Rows.{nothing}
use Rattle.store_relation.specs.declared.stage.Stage.TheVariants.{Idle}
use Rattle.store_relation.proofs.ListLemmas.{all_map, all_by, all_by_touch, sum_le, sum_bound}
use Rattle.store_relation.proofs.MadeLemmas.{made_at_behind, made_idle, number_idle, ended_begun, kept_is_answered}
use Rattle.store_relation.proofs.CurrentLemmas.{stands_none}
use Rattle.store_relation.proofs.SharedLemmas.{laid_by}
use Rattle.store_relation.proofs.StepLemmas.{nothing_either}
use Rattle.store_relation.proofs.WordLemmas.{bare_inside}
use Rattle.store_model.proofs.ToldLemmas.{prune_agrees}
use Rattle.store_relation.specs.Ends.{AreAtEnd, HasStamp, IsClosed, IsMade, IsMatched}
use Rattle.store_relation.specs.Keys.{has_key}
use Rattle.store_relation.specs.Passes.{EndedTxn, PassState, fresh_pass, is_active, kept_stamp, laid_of, made_at, made_of, number_of, running_of, stamp_by, touching_by, writes_by}
use Rattle.store_relation.specs.Shared.{IsShared, IsSighted, IsSpokenFor, JournalState, no_journal, sum_below}

same_either : {X : Type 0} (t : Bool) (x : X) → cond t x x ≡ x
same_either true x = refl
same_either false x = refl

zeros : (n : ℕ) → sum_below (λ q. 0) n ≡ 0
zeros zero = refl
zeros (suc n) = let e : sum_below (λ q. 0) n ≡ 0 = zeros n in omega (arith, e)

-- NEW: nothing has begun
pub new_shared : (z : Config) → IsShared z (λ p. 0) (λ p. fresh_pass) no_journal (λ k. nothing) 0
new_shared z =
    let pass : ℕ → PassState = (λ p. fresh_pass) in
    let none_runs : (by : TxnName) → None ≡ running_of pass by = (λ by. sym (same_either (by.number == 0) None))
    in
    record {
      horizon = 0;
      published = refl;
      store = subst (λ f. IsStore z.kind [] f (laid_of pass) (touching_by pass) 0 (λ k. no_versions))
          (λ i by. none_runs by i)
          (store_same z.kind [] (λ by. None) (λ by. []) (λ by k. false) 0 (λ k. no_versions) (store_new z.kind)
          (laid_of pass) (touching_by pass) (λ k. no_versions)
          (λ q. same_either (q.number == 0) []) (λ q k. same_either (q.number == 0) false) (λ k. refl));
      stamps = λ k. record { pairs = tt; touches = tt };
      spoken = λ k. record { pairs = tt; touches = tt };
      stamped = λ i c at. cc;
      entered = λ p n e. absurd (omega (arith, e));
      made = λ i c at. cc;
      kept = λ by. none_kept by.number;
      each = λ p. record {
        marked = tt;
        seen = ([], refl);
        started = omega arith;
        laid = (refl, refl);
        next = λ e. cc;
        met = tt;
        holders = tt;
        sighted = tt;
        looks = tt;
      };
      counted = record {
        room = let e = zeros z.passes in omega (arith, e);
        clock = omega arith;
        begun = λ p. omega arith;
        outside = λ p out. (refl, refl);
        filled = λ p e. absurd (true≢false (sym e));
      };
    }
  where
    none_kept : (n : ℕ) → kept_stamp [] n ≡ None
    none_kept zero = refl
    none_kept (suc n) = refl

module _ {z : Config} {word : ℕ → ℕ} {pass : ℕ → PassState} {j : JournalState} {rows : Key → StampedVersions}
    {clock : ℕ}
    (s : IsShared z word pass j rows clock) where
  -- BOUND: the clock is at most the number of transactions that were begun
  pub clock_below : clock ≤ sum_below (λ p. number_of (pass p)) z.passes
  clock_below =
      let a : length j.commits ≤ sum_below (λ p. length (pass p).past) z.passes = s.counted.clock in
      let b : sum_below (λ p. length (pass p).past) z.passes ≤ sum_below (λ p. number_of (pass p)) z.passes =
      sum_le _ _ z.passes (λ p. ended_begun (pass p)) in
      let c : clock ≡ length j.commits = s.published in
      omega (arith, a, b, c)

  pub clock_bound : clock ≤ z.passes * z.txns_per_pass
  clock_bound =
      let a : clock ≤ sum_below (λ p. number_of (pass p)) z.passes = clock_below in
      let b : sum_below (λ p. number_of (pass p)) z.passes ≤ z.passes * z.txns_per_pass =
      sum_bound _ z.txns_per_pass z.passes s.counted.begun in
      let m : ℕ = z.passes * z.txns_per_pass in
      let b' : sum_below (λ p. number_of (pass p)) z.passes ≤ m = b in
      let r : clock ≤ m = omega (arith, a, b') in
      r

  module _ (closed : AreAtEnd z pass) where
    idle : (p : ℕ) → (pass p).stage ≡ Idle
    idle p = dite (dec_le z.passes p) (λ out. (s.counted.outside p out).0)
        (λ low. (closed p (omega (arith, low))).0)

    all_carry : (k : Key) → AllByRecursion HasStamp (rows k).pairs × AllByRecursion HasStamp (rows k).touches
    all_carry k = (
      all_by _ _ (rows k).pairs (λ x h spoken bare.
          no_bare x spoken bare (bare_inside s k x bare spoken (inl h))) (s.spoken k).pairs,
      all_by_touch _ _ (rows k).touches
          (λ x h spoken bare. no_bare x spoken bare (bare_inside s k x bare spoken (inr h)))
          (s.spoken k).touches,
    )
      where
        no_bare : (x : Stamped) → IsSpokenFor pass k x → x.stamp ≡ None → x.by.job < z.passes → ⊥
        no_bare x spoken bare lt =
            let r = closed x.by.job lt in
            true≢false (sym (spoken bare).1 ∙ (λ i. is_active (r.0 i) || has_key (r.1 i) k))

    nothing_laid : (by : TxnName) → laid_of pass by ≡ []
    nothing_laid by = nothing_either (by.number == number_of (pass by.job)) (pass by.job).laid []
        (laid_by s by.job Idle (idle by.job)).0

    no_touch : (by : TxnName) (k : Key) → touching_by pass by k ≡ false
    no_touch by k = nothing_either (by.number == number_of (pass by.job)) _ false
        (stands_none (pass by.job).laid (pass by.job).own k (laid_by s by.job Idle (idle by.job)).0)

    -- CLOSE
    pub closes : IsClosed z pass j.commits rows
    closes = record {
      legal = s.store.transactions.legal;
      made = λ i c at. is_made c (s.made i c (get_front j.commits j.next i c at))
          (s.kept c.by ∙ stamp_at j.commits s.store.transactions.legal.names i c at);
      kept = s.kept;
      seen = λ p. (s.each p).seen;
      sighted = λ p. all_map (IsSighted z.kind pass j) (IsMatched z.kind pass j.commits) (λ x h. record {
        made = h.made;
        behind = λ i c at named.
            let b : x.start ≤ i = h.behind i c (get_front j.commits j.next i c at) named in
            let d : c.stamp ≡ i + 1 = (s.store.transactions.legal.each i c at).stamped in
            omega (arith, b, d);
      }) (pass p).sighted (s.each p).sighted;
      filled = s.counted.filled;
      outside = λ p out. let o = s.counted.outside p out in made_idle (pass p) (ap is_active o.0)
          ∙ ap (map (λ (t : EndedTxn). t.writes)) o.1;
      stamped = all_carry;
      settled = λ stamps k.
          let told : AreTold stamps (stamp_in j.commits) (length j.commits) (rows k) = record {
            pairs = all_map _ _ (λ x h bare. absurd (h bare)) (rows k).pairs (all_carry k).0;
            touches = all_map _ _ (λ x h bare. absurd (h bare)) (rows k).touches (all_carry k).1;
          } in
          prune_agrees stamps (stamp_in j.commits) (length j.commits) (rows k) told
          ∙ bare_row (prune_stamped (stamp_in j.commits) (length j.commits) (rows k))
          (value_at (graph_at z.kind j.commits (length j.commits)) k)
          (prune_forgets (stamp_in j.commits) (length j.commits) (rows k) (s.stamps k)
          ∙ row_settled z.kind j.commits (running_of pass) (laid_of pass) (touching_by pass) s.horizon
          (λ q. forget_row (rows q)) s.store nothing_laid no_touch k);
    }
      where
        is_made : (c : Commit) → (0 < length c.writes) × (writes_by (pass c.by.job) c.by.number ≡ c.writes)
            → stamp_by pass c.by ≡ Some c.stamp → IsMade z pass c
        is_made c m stamped =
            let wrote : 0 < length c.writes = m.0 in
            record {
              inside = dite (dec_le z.passes c.by.job)
                  (λ out.
                  let o = s.counted.outside c.by.job out in
                  let none : number_of (pass c.by.job) ≡ 0 = number_idle (pass c.by.job) (ap is_active o.0)
                  ∙ ap (λ l. length l) o.1 in
                  let empty : length c.writes ≡ 0 =
                  ap length (sym m.1 ∙ all_empty (made_of (pass c.by.job)) c.by.number none) in
                  absurd (omega (arith, wrote, empty)))
                  (λ low. omega (arith, low));
              number = (
                at_least c.by.number m.1 wrote,
                dite (dec_le c.by.number (number_of (pass c.by.job))) (λ le. le)
                    (λ more. let empty : length c.writes ≡ 0 =
                    ap length (sym m.1 ∙ made_at_behind (made_of (pass c.by.job)) c.by.number
                    (omega (arith, more))) in absurd (omega (arith, wrote, empty))),
              );
              writes = m.1;
              stamped = stamped;
              answered = kept_is_answered (pass c.by.job).past c.by.number c.stamp stamped;
            }
          where
            all_empty : (xs : List (List Write)) (n : ℕ) → length xs ≡ 0 → made_at xs n ≡ []
            all_empty [] zero e = refl
            all_empty [] (suc n) e = refl
            all_empty (x ∷ xs) n e = absurd (omega (arith, e))

            at_least : (n : ℕ) → writes_by (pass c.by.job) n ≡ c.writes → 0 < length c.writes → 0 < n
            at_least zero e lt = let empty : length c.writes ≡ 0 = ap length (sym e) in
                absurd (omega (arith, lt, empty))
            at_least (suc n) e lt = omega arith

        bare_row : (r : StampedVersions) (value : Option ℕ)
            → forget_row r ≡ record { pairs = []; oldest = value; touches = [] }
            → r ≡ record { pairs = []; oldest = value; touches = [] }
        bare_row r value e = λ i. record {
          pairs = no_pairs r.pairs (ap (λ vs. vs.pairs) e) i;
          oldest = ap (λ vs. vs.oldest) e i;
          touches = no_touches r.touches (ap (λ vs. vs.touches) e) i;
        }
          where
            no_pairs : (xs : List Stamped) → map forget xs ≡ [] → xs ≡ []
            no_pairs [] h = refl
            no_pairs (x ∷ xs) h = cc

            no_touches : (xs : List Stamped) → map (λ (x : Stamped). x.by) xs ≡ [] → xs ≡ []
            no_touches [] h = refl
            no_touches (x ∷ xs) h = cc
