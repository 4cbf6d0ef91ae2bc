-- What a closed store shows is what a run of scripts side by side asks for.
use Rattle.std.proofs.Common.{◌≡◌, ℕ, zero, suc, ◌+◌, ◌*◌, ◌<◌, ◌≤◌, List, [], ◌∷◌, length, map, refl, sym, ◌∙◌, ap, subst, arith, inl, inr, length-append}
use Rattle.std.proofs.lemmas.List.{length-map}
use Rattle.std.specs.Prelude.{◌⊎◌, Some, slice_get}
use Rattle.std.specs.List.{flat_map}
use Rattle.graph_model.specs.declared.limits.TheConstants.{SPLIT_ROWS}
use Rattle.graph_model.specs.declared.journal.Commit.{Commit}
use Rattle.graph_model.specs.Account.{Account}
use Rattle.graph_model.specs.Inserted.{inserted}
use Rattle.graph_model.specs.Legal.{IsLegal}
use Rattle.graph_model.proofs.PlaceLemmas.{some_eq}
use Rattle.run_model.specs.declared.answer.Answer.{Answer}
use Rattle.run_model.specs.declared.command.Command.{Command}
use Rattle.run_model.specs.Inputs.{Inputs, File}
use Rattle.run_model.specs.Run.{load_stamp}
use Rattle.run_model.proofs.ListLemmas.{all_weaker, there}
use Rattle.side_runs.specs.ByAccount.{HasRunBy}
use Rattle.side_runs.specs.SideBySide as sides
use Rattle.side_runs.specs.SideBySide.{HaveRunBy, inserted_by_pass, made_by_load}
use Rattle.side_runs.proofs.ClosingLemmas.{is_run, are_made}
use Rattle.job_runner.specs.LineRunner.Phases.{file_of}
use Rattle.job_runner.specs.Progress.{Progress}
use Rattle.txn_manager.specs.declared.config.Config.{Config}
use Rattle.shared_store.specs.StoreRelation.Passes.{PassState, account_of, made_of}
use Rattle.shared_store.specs.StoreRelation.Shared as shared
use Rattle.shared_store.specs.StoreRelation.Ends.{IsMatched}
use Rattle.shared_store.specs.PassSteps.Passes.{state_of}
use Rattle.shared_store.specs.declared.pass.Pass.{Pass}
use Rattle.shared_store.specs.Ends.{HasClosed}
use Rattle.shared_runs.specs.Closing.{HaveRunOn, OthersMadeNothing, outputs_with, ClosedStoresLeaveRuns}

same_sum : (f : ℕ → ℕ) (n : ℕ) → shared.sum_below f n ≡ sides.sum_below f n
same_sum f zero = refl
same_sum f (suc n) = ap (λ s. s + f n) (same_sum f n)

-- what stands in a list of what is made of each stands where that does
mapped : {X Y : Type 0} (f : X → Y) (xs : List X) (k : ℕ) (x : X) → slice_get xs k ≡ Some x → slice_get (map f xs) k ≡ Some (f x)
mapped f [] k x e = cc
mapped f (y ∷ xs) zero x e = ap (λ z. Some (f z)) (some_eq y x e)
mapped f (y ∷ xs) (suc k) x e = mapped f xs k x e

below_length : {X : Type 0} (xs : List X) (k : ℕ) (x : X) → slice_get xs k ≡ Some x → k < length xs
below_length [] k x e = cc
below_length (y ∷ xs) zero x e = omega arith
below_length (y ∷ xs) (suc k) x e = let lt = below_length xs k x e in omega (arith, lt)

below : (p n : ℕ) → (p < n) ⊎ (n ≤ p)
below p zero = inr (omega arith)
below zero (suc n) = inl (omega arith)
below (suc p) (suc n) = elim (below p n) as (λ _. (suc p < suc n) ⊎ (suc n ≤ suc p)) [
  | inl lt ↦ inl (omega (arith, lt))
  | inr le ↦ inr (omega (arith, le))
]

-- a sum with nothing more behind a place is that up to there
sum_to : (f : ℕ → ℕ) (n m : ℕ) → n ≤ m → ((p : ℕ) → n ≤ p → f p ≡ 0) → sides.sum_below f m ≡ sides.sum_below f n
sum_to f n zero le none = let same : zero ≡ n = omega (arith, le) in ap (sides.sum_below f) same
sum_to f n (suc m) le none = by_place (below m n) (λ more. sum_to f n m more none)
  where
    by_place : (m < n) ⊎ (n ≤ m) → (n ≤ m → sides.sum_below f m ≡ sides.sum_below f n) → sides.sum_below f (suc m) ≡ sides.sum_below f n
    by_place (inl lt) before = let same : suc m ≡ n = omega (arith, le, lt) in ap (sides.sum_below f) same
    by_place (inr more) before = let last = none m more in let rest = before more in omega (arith, last, rest)

module _ (inputs : Inputs) (z : Config) (list : List Pass) (jobs : List Progress) (journal : List Commit) (have : HaveRunOn inputs z list jobs) (others : OthersMadeNothing (length inputs.scripts) z list) (is : HasClosed z list journal) where
  abbrev accounts : ℕ → Account
  accounts p = account_of z p (is.pass p)

  loader_is : is.pass 0 ≡ state_of have.loader.seats
  loader_is = is.known 0 have.loader have.first

  ran : (k : ℕ) (cs : List Command) (report : List Answer) (files : List File) → slice_get inputs.scripts k ≡ Some cs
      → slice_get (map (λ (job : Progress). job.answers) jobs) k ≡ Some report → slice_get (map (λ (job : Progress). map file_of job.tables) jobs) k ≡ Some files
      → HasRunBy inputs.kind inputs.load (k + 1) cs report files (accounts (k + 1))
  ran k cs report files script answered filed =
      let lt = below_length inputs.scripts k cs script in
      let count = have.count in
      let job = there jobs k (omega (arith, lt, count)) in
      let r : job.0.answers ≡ report = some_eq job.0.answers report (sym (mapped (λ (j : Progress). j.answers) jobs k job.0 job.1) ∙ answered) in
      let f : map file_of job.0.tables ≡ files = some_eq (map file_of job.0.tables) files (sym (mapped (λ (j : Progress). map file_of j.tables) jobs k job.0 job.1) ∙ filed) in
      let h = have.ran k cs job.0 script job.1 in
      subst (λ xs. HasRunBy inputs.kind inputs.load (k + 1) cs xs files (accounts (k + 1))) r
      (subst (λ xs. HasRunBy inputs.kind inputs.load (k + 1) cs job.0.answers xs (accounts (k + 1))) f
      (subst (λ st. HasRunBy inputs.kind inputs.load (k + 1) cs job.0.answers (map file_of job.0.tables) (account_of z (k + 1) st)) (sym (is.known (k + 1) h.pass h.there)) h.ran))

  loaded : load_stamp inputs.load ≤ length journal
  loaded =
      let s = is.closed.seen 0 in
      let long : length journal ≡ length (is.pass 0).seen + length s.0 = ap length (sym s.1) ∙ length-append (is.pass 0).seen s.0 in
      let same : length (is.pass 0).seen ≡ length (state_of have.loader.seats).seen = ap (λ (st : PassState). length st.seen) loader_is in
      let seen = have.loaded.seen in
      omega (arith, long, same, seen)

  -- passes behind those of the scripts have made nothing, whether the store has them or not
  outside : (p : ℕ) → length inputs.scripts < p → (accounts p).made ≡ []
  outside p lt = by_place (below p z.passes)
    where
      by_place : (p < z.passes) ⊎ (z.passes ≤ p) → (accounts p).made ≡ []
      by_place (inl inside) = let spare = others p lt inside in ap made_of (is.known p spare.pass spare.there) ∙ spare.made
      by_place (inr beyond) = is.closed.outside p beyond

  -- so none of their rows are counted
  counted : sides.sum_below (λ q. inserted_by_pass inputs.kind (accounts q)) z.passes ≡ sides.sum_below (λ q. inserted_by_pass inputs.kind (accounts q)) (length inputs.scripts + 1)
  counted = sum_to (λ q. inserted_by_pass inputs.kind (accounts q)) (length inputs.scripts + 1) z.passes have.passes
      (λ p le. ap (λ ws. inserted inputs.kind (flat_map (λ w. w) ws)) (outside p (omega (arith, le))))

  have_run : HaveRunBy inputs z.leaves accounts (outputs_with journal jobs)
  have_run = record {
    reported = length-map jobs (λ (job : Progress). job.answers) ∙ have.count;
    filed = length-map jobs (λ (job : Progress). map file_of job.tables) ∙ have.count;
    ran = ran;
    loader = ap made_of loader_is ∙ have.loaded.made;
    outside = outside;
    legal = subst (λ k. IsLegal k journal) have.kind is.closed.legal;
    seen = λ p. (let s = is.closed.seen p in (s.0, sym s.1));
    loaded = loaded;
    made = λ i c e. (is.closed.made i c e).writes;
    answered = λ i c e. inr (is.closed.made i c e).answered;
    matched = λ p. all_weaker (IsMatched z.kind is.pass journal) (sides.IsMatched inputs.kind accounts journal)
        (λ x m. subst (λ k. sides.IsMatched k accounts journal x) have.kind (record { made = m.made; behind = m.behind })) (is.pass p).sighted (is.closed.sighted p);
    filled = λ p full.
        subst (λ n. SPLIT_ROWS * z.leaves ≤ n) counted
        (subst (λ k. SPLIT_ROWS * z.leaves ≤ sides.sum_below (λ q. inserted_by_pass k (accounts q)) z.passes) have.kind
        (subst (λ n. SPLIT_ROWS * z.leaves ≤ n) (same_sum (λ q. inserted_by_pass z.kind (accounts q)) z.passes) (is.closed.filled p full)));
  }

pub leave_runs : ClosedStoresLeaveRuns
leave_runs inputs z list jobs journal given have others is =
    let by = have_run inputs z list jobs journal have others is in
    let passes : ℕ → Account = λ p. account_of z p (is.pass p) in (
      is_run inputs z.leaves passes (outputs_with journal jobs) given by,
      record {
        passes = passes;
        ran = by;
        made = are_made inputs z.leaves passes (outputs_with journal jobs) given by;
      },
    )
