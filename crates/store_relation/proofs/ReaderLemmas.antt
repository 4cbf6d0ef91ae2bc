-- Readers through the steps of their passes, and what they read.
use Rattle.std.proofs.Common.{◌≡◌, ℕ, ◌+◌, ◌-◌, ◌≤◌, List, [], ◌∷◌, ◌++◌, length, refl, sym, ◌∙◌, ap, subst, cond, arith, inl, inr}
use Rattle.std.specs.Prelude.{◌⊎◌, Bool, true, false, ◌==◌}
use Rattle.std.specs.List.{AllByRecursion}
use Rattle.std.proofs.lemmas.Bool.{true≢false, false_from_ne_true}
use Rattle.std.proofs.lemmas.List.Sums.{sum_by-append, sum_by-cons}
use mathlib.Core.List.{IsPrefix}
use mathlib.Core.Logic.{dite}
use native.Mathlib.Decide.{ℕ_discrete}
use Rattle.graph_model.specs.declared.row.Key.{Key}
use Rattle.graph_model.specs.declared.journal.Commit.{Commit}
use Rattle.graph_model.specs.History.{view}
use Rattle.graph_model.specs.Passes.{revised}
use Rattle.graph_model.specs.Rows.{value_at}
use Rattle.graph_model.specs.Transactions.{stamp_in}
use Rattle.graph_model.proofs.TestLemmas.{self_eq, eq_of}
use Rattle.txn_manager.specs.declared.config.Config.{Config}
use Rattle.store_model.specs.Stamped.{StampedVersions, read_stamped}
use Rattle.store_relation.specs.declared.stage.Stage.TheVariants.{Open}
use Rattle.store_relation.proofs.ListLemmas.{prefix_all, prefix_trans, revised_here, revised_else, all_put, all_map, all_end}
use Rattle.store_model.proofs.ToldLemmas.{told_all}
use Rattle.store_relation.specs.Passes.{PassState, name_at, number_of}
use Rattle.store_relation.specs.Readers.{AreReaders, IsReader, IsSameTxn, ReaderState, reader_of, readers_of}
use Rattle.store_relation.specs.Shared.{IsShared, JournalState}
use Rattle.store_relation.specs.Steps.{with_reader, with_readers, without_reader}
use Rattle.store_relation.proofs.ReadLemmas.{reads_right, seen_reached}
use Rattle.store_relation.proofs.StepLemmas.{lends}

count-append : (p : ℕ) (xs ys : List ReaderState) → readers_of p (xs ++ ys) ≡ readers_of p xs + readers_of p ys
count-append p xs ys = sum_by-append (λ (x : ReaderState). cond (x.by.job == p) 1 0) xs ys

count-cons : (p : ℕ) (x : ReaderState) (xs : List ReaderState)
    → readers_of p (x ∷ xs) ≡ cond (x.by.job == p) 1 0 + readers_of p xs
count-cons p x xs = sum_by-cons (λ (x : ReaderState). cond (x.by.job == p) 1 0) x xs

count_one : (p : ℕ) (x : ReaderState) → x.by.job ≡ p → readers_of p (x ∷ []) ≡ 1
count_one p x e = let c = count-cons p x [] in c ∙ ap (λ t. cond t 1 0 + 0) (ap (λ n. n == p) e ∙ self_eq p)
    ∙ (let r : 1 + 0 ≡ 1 = omega arith in r)

count_other : (p : ℕ) (x : ReaderState) → (x.by.job ≡ p → ⊥) → readers_of p (x ∷ []) ≡ 0
count_other p x other = let c = count-cons p x [] in c ∙ ap (λ t. cond t 1 0 + 0)
    (false_from_ne_true (x.by.job == p) (λ e. other (eq_of x.by.job p e)))
    ∙ (let r : 0 + 0 ≡ 0 = omega arith in r)

-- who has no reader out is no reader's pass
none_of : (p : ℕ) (xs : List ReaderState) → readers_of p xs ≡ 0 → AllByRecursion (λ x. x.by.job ≡ p → ⊥) xs
none_of p [] e = tt
none_of p (x ∷ xs) e = by_test (x.by.job == p) refl (sym (count-cons p x xs) ∙ e) (none_of p xs)
  where
    by_test : (t : Bool) → (x.by.job == p) ≡ t → cond t 1 0 + readers_of p xs ≡ 0
        → (readers_of p xs ≡ 0 → AllByRecursion (λ x. x.by.job ≡ p → ⊥) xs)
        → AllByRecursion (λ x. x.by.job ≡ p → ⊥) (x ∷ xs)
    by_test true f h rest = absurd (omega (arith, h))
    by_test false f h rest = (
      (λ same. true≢false (sym (self_eq p) ∙ ap (λ n. n == p) (sym same) ∙ f)),
      rest (omega (arith, h)),
    )

module _ (pass : ℕ → PassState) (commits : List Commit) (readers : List ReaderState)
    (are : AreReaders pass commits readers) (p : ℕ) where
  reader_else : (st' : PassState) (commits' : List Commit) → IsPrefix commits commits' → (x : ReaderState)
      → (x.by.job ≡ p → ⊥) → IsReader pass commits x → IsReader (revised pass p st') commits' x
  reader_else st' commits' front x other r =
      let st = revised_else pass p st' x.by.job other in
      record {
        stage = ap (λ (u : PassState). u.stage) st ∙ r.stage;
        by = r.by ∙ ap (name_at x.by.job) (sym st);
        start = r.start ∙ ap (λ (u : PassState). u.start) (sym st);
        own = r.own ∙ ap (λ (u : PassState). u.own) (sym st);
        seen = prefix_trans x.seen commits commits' r.seen front;
        started = r.started;
      }

  reader_here : (st' : PassState) (commits' : List Commit) → IsPrefix commits commits' → IsSameTxn (pass p) st'
      → (x : ReaderState) → IsReader pass commits x → IsReader (revised pass p st') commits' x
  reader_here st' commits' front same x r = dite (ℕ_discrete x.by.job p)
      (λ here.
      let old : pass x.by.job ≡ pass p = ap pass here in
      let new : revised pass p st' x.by.job ≡ st' = ap (revised pass p st') here ∙ revised_here pass p st' in
      record {
        stage = ap (λ (u : PassState). u.stage) new ∙ same.stage ∙ ap (λ (u : PassState). u.stage) (sym old)
            ∙ r.stage;
        by = r.by ∙ ap (λ n. record { job = x.by.job; number = n })
            (ap number_of old ∙ sym same.number ∙ ap number_of (sym new));
        start = r.start ∙ ap (λ (u : PassState). u.start) old ∙ sym same.start
            ∙ ap (λ (u : PassState). u.start) (sym new);
        own = r.own ∙ ap (λ (u : PassState). u.own) old ∙ sym same.own
            ∙ ap (λ (u : PassState). u.own) (sym new);
        seen = prefix_trans x.seen commits commits' r.seen front;
        started = r.started;
      })
      (λ other. reader_else st' commits' front x other r)

  both : (P Q R : ReaderState → Type 0) → ((x : ReaderState) → P x → Q x → R x) → (xs : List ReaderState)
      → AllByRecursion P xs → AllByRecursion Q xs → AllByRecursion R xs
  both P Q R f [] a b = tt
  both P Q R f (x ∷ xs) a b = (f x a.0 b.0, both P Q R f xs a.1 b.1)

  -- STEP: a step of a pass that goes on with its transaction, or has no reader out
  pub readers_put : (st' : PassState) (commits' : List Commit) → IsPrefix commits commits'
      → ((pass p).readers_out ≡ 0) ⊎ IsSameTxn (pass p) st' → st'.readers_out ≡ (pass p).readers_out
      → AreReaders (revised pass p st') commits' readers
  readers_put st' commits' front is same = record {
    each = elim is as (λ _. AllByRecursion (IsReader (revised pass p st') commits') readers) [
      | inl none ↦ both (λ x. x.by.job ≡ p → ⊥) (IsReader pass commits) _
          (λ x other r. reader_else st' commits' front x other r) readers (none_of p readers (are.out p ∙ none))
          are.each
      | inr txn ↦ all_map _ _ (reader_here st' commits' front txn) readers are.each
    ];
    out = all_put (λ q u. readers_of q readers ≡ u.readers_out) pass p st' (are.out p ∙ sym same)
        (λ q _. are.out q);
  }

  -- a pass that isn't open has none out
  pub none_out : ((pass p).stage ≡ Open → ⊥) → (pass p).readers_out ≡ 0
  none_out closed = sym (are.out p)
      ∙ count_none readers (all_map (IsReader pass commits) (λ x. x.by.job ≡ p → ⊥)
      (λ x r same. closed (ap (λ q. (pass q).stage) (sym same) ∙ r.stage)) readers are.each)
    where
      count_none : (xs : List ReaderState) → AllByRecursion (λ x. x.by.job ≡ p → ⊥) xs → readers_of p xs ≡ 0
      count_none [] all = refl
      count_none (x ∷ xs) all = count-cons p x xs
          ∙ (λ i. cond (false_from_ne_true (x.by.job == p) (λ e. all.0 (eq_of x.by.job p e)) i) 1 0 + count_none
          xs all.1 i)

  -- SPLIT: one reader more, with what its pass has
  pub readers_split : (pass p).stage ≡ Open → IsPrefix (pass p).seen commits
      → (pass p).start ≤ length (pass p).seen
      → AreReaders (revised pass p (with_readers (pass p) ((pass p).readers_out + 1))) commits
      (readers ++ reader_of pass p ∷ [])
  readers_split is front within =
      let st' : PassState = with_readers (pass p) ((pass p).readers_out + 1) in
      let here : revised pass p st' p ≡ st' = revised_here pass p st' in
      let same : IsSameTxn (pass p) st' = record { stage = refl; number = refl; start = refl; own = refl } in
      record {
        each = all_end _ readers (reader_of pass p)
            (all_map _ _ (reader_here st' commits (prefix_all commits) same) readers are.each) (record {
              stage = ap (λ (u : PassState). u.stage) here ∙ is;
              by = ap (name_at p) (sym (ap (λ (u : PassState). with_readers u (pass p).readers_out) here));
              start = ap (λ (u : PassState). u.start) (sym here);
              own = ap (λ (u : PassState). u.own) (sym here);
              seen = front;
              started = within;
            });
        out = all_put (λ q u. readers_of q (readers ++ reader_of pass p ∷ []) ≡ u.readers_out) pass p st'
            (let n = count-append p readers (reader_of pass p ∷ []) in let m = are.out p in
            let one : readers_of p (reader_of pass p ∷ []) ≡ 1 = count_one p (reader_of pass p) refl in
            omega (arith, n, m, one))
            (λ q other. let n = count-append q readers (reader_of pass p ∷ []) in let m = are.out q in
            let none : readers_of q (reader_of pass p ∷ []) ≡ 0 =
            count_other q (reader_of pass p) (λ e. other (sym e)) in omega (arith, n, m, none));
      }

-- JOIN: one reader is gone, and its pass has one out less
pub readers_joined : (pass : ℕ → PassState) (commits : List Commit) (front back : List ReaderState)
    (x : ReaderState) → AreReaders pass commits (front ++ x ∷ back)
    → AreReaders (revised pass x.by.job (with_readers (pass x.by.job) ((pass x.by.job).readers_out - 1)))
    commits (front ++ back)
readers_joined pass commits front back x are =
    let p : ℕ = x.by.job in
    let st' : PassState = with_readers (pass p) ((pass p).readers_out - 1) in
    let same : IsSameTxn (pass p) st' = record { stage = refl; number = refl; start = refl; own = refl } in
    record {
      each = without (IsReader (revised pass p st') commits) front
          (all_map _ _ (reader_here pass commits (front ++ x ∷ back) are p st' commits (prefix_all commits)
          same) (front ++ x ∷ back) are.each);
      out = all_put (λ q u. readers_of q (front ++ back) ≡ u.readers_out) pass p st'
          (let n = count-append p front (x ∷ back) in let m = count-append p front back in let o = are.out p in
          let c = count-append p (x ∷ []) back in
          let one : readers_of p (x ∷ []) ≡ 1 = count_one p x refl in omega (arith, n, m, o, c, one))
          (λ q other. let n = count-append q front (x ∷ back) in let m = count-append q front back in let o =
          are.out q in let c = count-append q (x ∷ []) back in
          let none : readers_of q (x ∷ []) ≡ 0 = count_other q x (λ e. other (sym e)) in
          omega (arith, n, m, o, c, none));
    }
  where
    without : (P : ReaderState → Type 0) (xs : List ReaderState) → AllByRecursion P (xs ++ x ∷ back)
        → AllByRecursion P (xs ++ back)
    without P [] all = all.1
    without P (y ∷ xs) all = (all.0, without P xs all.1)

module _ {z : Config} {word : ℕ → ℕ} {pass : ℕ → PassState} {j : JournalState} {rows : Key → StampedVersions}
    {clock : ℕ}
    (s : IsShared z word pass j rows clock) where
  -- READ: a reader reads the view of its pass as it was split
  pub reader_reads : (x : ReaderState) → IsReader pass j.commits x → (k : Key)
      → read_stamped (stamp_in x.seen) x.start x.by (rows k) ≡ value_at (view z.kind x.seen x.start x.own) k
  reader_reads x r k =
      let p : ℕ = x.by.job in
      let within : (pass p).start ≤ length x.seen = subst (λ n. n ≤ length x.seen) r.start r.started in
      (λ i. read_stamped (stamp_in x.seen) (r.start i) (r.by i) (rows k))
      ∙ reads_right s p r.stage x.seen r.seen within (stamp_in x.seen) k
      (told_all (stamp_in x.seen) (stamp_in j.commits) (pass p).start
      (λ n. sym (seen_reached s x.seen (pass p).start r.seen within n)) (rows k))
      ∙ (λ i. value_at (view z.kind x.seen (sym r.start i) (sym r.own i)) k)

  -- a pass has counted one reader more, or one less, and nothing else of the store has changed
  pub reader_is_split : (p : ℕ) (readers : List ReaderState) → AreReaders pass j.commits readers
      → (pass p).stage ≡ Open
      → IsShared z word (revised pass p (with_reader (pass p))) j rows clock
      × AreReaders (revised pass p (with_reader (pass p))) j.commits (readers ++ reader_of pass p ∷ [])
  reader_is_split p readers are is =
      let h = s.each p in (
        lends s p ((pass p).readers_out + 1),
        readers_split pass j.commits readers are p is h.seen h.started,
      )

  pub reader_is_joined : (front back : List ReaderState) (x : ReaderState)
      → AreReaders pass j.commits (front ++ x ∷ back)
      → IsShared z word (revised pass x.by.job (without_reader (pass x.by.job))) j rows clock
      × AreReaders (revised pass x.by.job (without_reader (pass x.by.job))) j.commits (front ++ back)
  reader_is_joined front back x are = (
    lends s x.by.job ((pass x.by.job).readers_out - 1),
    readers_joined pass j.commits front back x are,
  )

  pub readers_stay : (p : ℕ) (now : PassState) (j' : JournalState) (readers : List ReaderState)
      → AreReaders pass j.commits readers → IsPrefix j.commits j'.commits
      → ((pass p).readers_out ≡ 0) ⊎ IsSameTxn (pass p) now → now.readers_out ≡ (pass p).readers_out
      → AreReaders (revised pass p now) j'.commits readers
  readers_stay p now j' readers are front is same =
      readers_put pass j.commits readers are p now j'.commits front is same

  pub only_open_lends : (p : ℕ) (readers : List ReaderState) → AreReaders pass j.commits readers
      → ((pass p).stage ≡ Open → ⊥) → (pass p).readers_out ≡ 0
  only_open_lends p readers are closed = none_out pass j.commits readers are p closed
