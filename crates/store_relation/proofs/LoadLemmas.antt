-- The rows of a load hold its commit, which pass 0 has made.
use Rattle.std.proofs.Common.{◌≡◌, ℕ, zero, suc, ◌+◌, ◌<◌, ◌≤◌, List, [], ◌∷◌, length, refl, sym, ◌∙◌, ap, subst, cond, arith, inr}
use Rattle.std.specs.Prelude.{Bool, true, false, ◌==◌, ◌&&◌, Option, Some, None, slice_get}
use Rattle.std.specs.List.{AllByRecursion}
use Rattle.std.proofs.lemmas.Bool.{true≢false}
use Rattle.std.proofs.lemmas.Bool.Decides.{nat_tests}
use Rattle.std.proofs.lemmas.List.{append-nil}
use mathlib.Core.List.{IsPrefix}
use Rattle.graph_model.specs.declared.write.Kind.{Kind}
use Rattle.graph_model.specs.declared.write.Write.{Write}
use Rattle.graph_model.specs.declared.row.Key.{Key}
use Rattle.graph_model.specs.declared.journal.Commit.{Commit}
use Rattle.graph_model.specs.declared.journal.TxnName.{TxnName}
use Rattle.graph_model.specs.Conflict.{same_name}
use Rattle.graph_model.specs.Graph.{Graph, apply_all, empty_graph}
use Rattle.graph_model.specs.History.{graph_at}
use Rattle.graph_model.specs.Refused.{AllAllowed, IsWithinLimits}
use Rattle.graph_model.specs.Rows.{value_at}
use Rattle.graph_model.specs.Transactions.{Running, Changes, own_of, stamp_in}
use Rattle.graph_model.proofs.PlaceLemmas.{some_eq}
use Rattle.graph_model.proofs.TestLemmas.{self_eq}
use Rattle.txn_manager.specs.declared.config.Config.{Config}
use Rattle.store_model.specs.declared.versions.Versions.{Versions}
use Rattle.store_model.specs.Layers.{laid}
use Rattle.store_model.specs.Store.{alone, IsPlainStore, IsStore, touching_of}
use Rattle.store_model.specs.Versions.{no_versions, prune}
use Rattle.store_model.proofs.LoadLemmas.{owner_loaded}
use Rattle.store_model.proofs.OwnerLemmas.{owner_committed}
use Rattle.store_model.proofs.PruneLemmas.{store_pruned, row_settled, whole_pruned}
use Rattle.store_model.proofs.StoreLemmas.{store_same}
use Rattle.store_relation.specs.Loads.{LoadedStore, load_commit, load_name, loaded_journal, loaded_pass, loaded_word}
use Rattle.store_relation.specs.Passes.{EndedTxn, PassState, kept_stamp, laid_of, number_of, running_of, touching_by}
use Rattle.store_relation.specs.Shared.{sum_below}
use Rattle.store_relation.specs.Words.{commit_word}

same_either : {X : Type 0} (t : Bool) (x : X) → cond t x x ≡ x
same_either true x = refl
same_either false x = refl

zeros : (n : ℕ) → sum_below (λ q. 0) n ≡ 0
zeros zero = refl
zeros (suc n) = let e : sum_below (λ q. 0) n ≡ 0 = zeros n in omega (arith, e)

-- one of the summands is part of the sum
first_part : (f : ℕ → ℕ) (n : ℕ) → 1 ≤ n → f 0 ≤ sum_below f n
first_part f zero some = absurd (omega arith)
first_part f (suc zero) some = omega arith
first_part f (suc (suc n)) some = let rest = first_part f (suc n) (omega arith) in omega (arith, rest)

-- ---- rows

-- no transaction is open
abbrev none_open : TxnName → Option Running
none_open by = None

module _ (kind : Kind) (load : List Write) (allowed : AllAllowed kind empty_graph load)
    (within : AllByRecursion IsWithinLimits load) (some : 0 < length load) where
  abbrev commits : List Commit
  commits = load_commit load ∷ []

  abbrev laid_at : Key → Versions
  laid_at k = laid kind load_name load k no_versions

  -- the transaction of the load commits
  after_commit : IsPlainStore kind commits none_open 0 laid_at
  after_commit = owner_committed kind [] (alone load_name load) 0 laid_at (owner_loaded kind load_name load allowed within)
      load_name (record { start = 0; writes = load })
      (let a = self_eq 0 in let b = self_eq 1 in λ i. cond (a i && b i) (Some (record { start = 0; writes = load })) None)
      none_open
      (record {
        here = refl;
        else = λ q other. sym (ap (λ t. cond t (Some (record { start = 0; writes = load })) None) other);
      })
      some

  abbrev settled_at : Key → Versions
  settled_at k = record { pairs = []; oldest = value_at (apply_all kind empty_graph load) k; touches = [] }

  -- and all rows are pruned
  settled_store : IsPlainStore kind commits none_open 1 settled_at
  settled_store = store_pruned kind commits none_open (own_of none_open) (touching_of none_open) 0 laid_at after_commit 1 1
      settled_at (omega arith) (omega arith) (omega arith)
      (λ by t runs. let no : ◌≡◌ {A = Option Running} None (Some t) = runs in cc)
      (λ k. whole_pruned (stamp_in commits) 1 (laid_at k) (settled_at k) (inr (sym (row k))))
    where
      graph_is : graph_at kind commits 1 ≡ apply_all kind empty_graph load
      graph_is = ap (apply_all kind empty_graph) (append-nil load)

      row : (k : Key) → prune (stamp_in commits) 1 (laid_at k) ≡ settled_at k
      row k = row_settled kind commits none_open (own_of none_open) (touching_of none_open) 0 laid_at after_commit
          (λ by. refl) (λ by q. refl) k
          ∙ ap (λ (g : Graph). record { pairs = []; oldest = value_at g k; touches = [] }) graph_is

  -- of the passes none has anything open
  loaded_rows : IsStore kind commits (running_of (loaded_pass load)) (laid_of (loaded_pass load))
      (touching_by (loaded_pass load)) 1 settled_at
  loaded_rows =
      let pass = loaded_pass load in
      subst (λ f. IsStore kind commits f (laid_of pass) (touching_by pass) 1 settled_at)
      (λ i by. sym (same_either (by.number == number_of (pass by.job)) None) i)
      (store_same kind commits none_open (own_of none_open) (touching_of none_open) 1 settled_at settled_store
      (laid_of pass) (touching_by pass) settled_at
      (λ q. same_either (q.number == number_of (pass q.job)) [])
      (λ q k. same_either (q.number == number_of (pass q.job)) false) (λ k. refl))

-- ---- the store

pub loaded_shared : LoadedStore
loaded_shared z load room passes txns some allowed within =
    let pass = loaded_pass load in
    record {
      horizon = 1;
      published = refl;
      store = loaded_rows z.kind load allowed within some;
      stamps = λ k. record { pairs = tt; touches = tt };
      spoken = λ k. record { pairs = tt; touches = tt };
      stamped = stamped;
      entered = λ p n e. entered p n (p == 0) refl e;
      made = made;
      kept = λ by. kept by.job by.number (by.job == 0) refl;
      each = λ p. record {
        marked = tt;
        seen = seen (p == 0);
        started = omega arith;
        laid = (refl, refl);
        next = λ e. cc;
        met = tt;
        holders = tt;
        sighted = tt;
        looks = tt;
      };
      counted = record {
        room = let e = zeros z.passes in omega (arith, e);
        clock = let e = first_part (λ p. length (pass p).past) z.passes passes in e;
        begun = λ p. begun (p == 0);
        outside = λ p out. (
          refl,
          let other : (p == 0) ≡ false = grind (arith, nat_tests) in
              ap (λ t. cond t (record { writes = load; stamp = Some 1 } ∷ []) []) other,
        );
        filled = λ p e. absurd (true≢false (sym e));
      };
    }
  where
    c0 : Commit
    c0 = load_commit load

    stamped : (i : ℕ) (c : Commit) → slice_get (c0 ∷ []) i ≡ Some c
        → c.by ≡ record { job = c.by.job; number = number_of (loaded_pass load c.by.job) }
        → loaded_word c.by.job ≡ commit_word i
    stamped zero c at is = subst (λ (x : Commit). loaded_word x.by.job ≡ commit_word 0) (some_eq c0 c at) refl
    stamped (suc i) c at is = cc

    entered : (p n : ℕ) (t : Bool) → (p == 0) ≡ t → cond t (commit_word 0) 0 ≡ commit_word n
        → (c : Commit) × (slice_get (c0 ∷ []) n ≡ Some c)
        × (c.by ≡ record { job = p; number = number_of (loaded_pass load p) })
    entered p n true is e =
        let first : 0 ≡ n = omega (arith, e) in
        let same : 0 ≡ p = grind (arith, nat_tests) in
        subst (λ (x : ℕ × ℕ). (c : Commit) × (slice_get (c0 ∷ []) x.1 ≡ Some c)
        × (c.by ≡ record { job = x.0; number = number_of (loaded_pass load x.0) }))
        (λ i. (same i, first i)) (c0, refl, refl)
    entered p n false is e = absurd (omega (arith, e))

    made : (i : ℕ) (c : Commit) → slice_get (c0 ∷ []) i ≡ Some c
        → (0 < length c.writes)
        × (Rattle.store_relation.specs.Passes.writes_by (loaded_pass load c.by.job) c.by.number ≡ c.writes)
    made zero c at = subst (λ (x : Commit). (0 < length x.writes)
        × (Rattle.store_relation.specs.Passes.writes_by (loaded_pass load x.by.job) x.by.number ≡ x.writes))
        (some_eq c0 c at) (some, refl)
    made (suc i) c at = cc

    kept : (job number : ℕ) (t : Bool) → (job == 0) ≡ t
        → kept_stamp (cond t (record { writes = load; stamp = Some 1 } ∷ []) []) number
        ≡ cond (same_name load_name (record { job = job; number = number })) (Some 1) None
    kept job zero t is =
        let other : same_name load_name (record { job = job; number = zero }) ≡ false = grind (arith, nat_tests) in
        sym (ap (λ b. cond b (Some 1) None) other)
    kept job (suc zero) true is =
        let same : same_name load_name (record { job = job; number = 1 }) ≡ true = grind (arith, nat_tests) in
        sym (ap (λ b. cond b (Some 1) None) same)
    kept job (suc zero) false is =
        let other : same_name load_name (record { job = job; number = 1 }) ≡ false = grind (arith, nat_tests) in
        sym (ap (λ b. cond b (Some 1) None) other)
    kept job (suc (suc n)) true is =
        let other : same_name load_name (record { job = job; number = suc (suc n) }) ≡ false = grind (arith, nat_tests) in
        sym (ap (λ b. cond b (Some 1) None) other)
    kept job (suc (suc n)) false is =
        let other : same_name load_name (record { job = job; number = suc (suc n) }) ≡ false = grind (arith, nat_tests) in
        sym (ap (λ b. cond b (Some 1) None) other)

    seen : (t : Bool) → IsPrefix (cond t (c0 ∷ []) []) (c0 ∷ [])
    seen true = ([], refl)
    seen false = (c0 ∷ [], refl)

    begun : (t : Bool) → length (Rattle.std.specs.Prelude.map (λ (e : EndedTxn). e.writes) (cond t (record { writes = load; stamp = Some 1 } ∷ []) [])) ≤ z.txns_per_pass
    begun true = txns
    begun false = omega arith
