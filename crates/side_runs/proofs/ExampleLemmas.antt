-- Two scripts side by side, worked by hand.
use Rattle.std.proofs.Common.{◌≡◌, ℕ, zero, suc, ◌+◌, ◌*◌, ◌<◌, ◌≤◌, List, [], ◌∷◌, ◌++◌, slice_get, Some, refl, ap, subst, arith, inl, inr}
use Rattle.std.specs.Prelude.{◌⊎◌, true, false, Contains, Ok, Err}
use Rattle.std.specs.List.{AllByRecursion}
use Rattle.graph_model.specs.declared.limits.TheConstants.{SPLIT_ROWS}
use Rattle.graph_model.specs.declared.write.Kind.TheVariants.{Undirected}
use Rattle.graph_model.specs.declared.write.Write.{Write}
use Rattle.graph_model.specs.declared.write.Write.TheVariants as writes
use Rattle.graph_model.specs.declared.journal.TxnName.{TxnName}
use Rattle.graph_model.specs.declared.journal.Commit.{Commit}
use Rattle.graph_model.specs.declared.refusal.Cause.TheVariants.{Holder}
use Rattle.graph_model.specs.declared.refusal.Refusal.TheVariants as refusals
use Rattle.graph_model.specs.Account.{Account}
use Rattle.graph_model.specs.AccountSteps.{ReadsBy}
use Rattle.graph_model.proofs.PlaceLemmas.{some_eq}
use Rattle.run_model.specs.declared.answer.Answer.{Answer}
use Rattle.run_model.specs.declared.answer.Answer.TheVariants as answers
use Rattle.run_model.specs.Inputs.{File}
use Rattle.run_model.specs.declared.command.Command.TheVariants as commands
use Rattle.run_model.specs.Run.{load_commit, txn_name}
use Rattle.side_runs.specs.ByAccount.{LineBy, HasRunBy}
use Rattle.side_runs.specs.SideBySide.{made_at, IsMatched, sum_below, inserted_by_pass}
use Rattle.run_model.specs.Examples.{load, sets, nine}
use Rattle.side_runs.specs.Examples.{pass_with, passes_left, SideExample}
use Rattle.run_model.proofs.ExampleLemmas.{set_allowed, set_allowed_too, two_commits, commit_numbers, two_legal, at_two}

-- the pass is as it was
still : (a : Account) → a.seen ≡ a.seen ++ [] → ReadsBy a a
still a e = record { seen = ([], e); others = refl }

-- a pass whose transaction is open
abbrev open_pass : ℕ → List Write → Account
open_pass job own = record (pass_with job (load_commit load ∷ []) (own ∷ []) [] []) { start = Some 1; own = own }

begins : (job : ℕ) → LineBy false (pass_with job (load_commit load ∷ []) [] [] []) commands.Begin (answers.Begun (txn_name job 1) 1) [] [] (open_pass job [])
begins job = record {
  now = pass_with job (load_commit load ∷ []) [] [] [];
  waits = still (pass_with job (load_commit load ∷ []) [] [] []) refl;
  does = (record { by = txn_name job 1; start = 1 }, refl, record { room = omega arith; by = refl; from = omega arith; until = omega arith; opened = record { seen = ([], refl); others = refl } });
  table = refl;
}

abbrev first_report : List Answer
first_report = answers.Begun (txn_name 1 1) 1 ∷ answers.Done ∷ answers.Committed (Some 2) ∷ []

abbrev second_report : List Answer
second_report = answers.Begun (txn_name 2 1) 1 ∷ answers.Conflict (Holder (txn_name 1 1)) ∷ answers.Skipped ∷ []

first_run : HasRunBy Undirected load 1 (sets 9) first_report [] (passes_left 1)
first_run = record {
  first = pass_with 1 (load_commit load ∷ []) [] [] [];
  unbegun = record { job_is = refl; kind_is = refl; made = refl; begun = refl; closed = refl; stamps = refl; loaded = omega arith };
  skips = false;
  lines = (
    open_pass 1 [],
    [],
    begins 1,
    (
      open_pass 1 (writes.SetEdge 1 2 9 ∷ []),
      [],
      record {
        now = open_pass 1 [];
        waits = still (open_pass 1 []) refl;
        does = (1, Ok tt, open_pass 1 (writes.SetEdge 1 2 9 ∷ []), refl, refl, (set_allowed, record { seen = ([], refl); others = refl }), still (open_pass 1 (writes.SetEdge 1 2 9 ∷ [])) refl);
        table = refl;
      },
      (
        passes_left 1,
        [],
        record {
          now = open_pass 1 (writes.SetEdge 1 2 9 ∷ []);
          waits = still (open_pass 1 (writes.SetEdge 1 2 9 ∷ [])) refl;
          does = (
            Some 2,
            refl,
            (
              λ start e. record { wrote = omega arith; place = 1; commit = nine 2; at = refl; stamped = refl; begun = some_eq 1 start e; by = refl; writes = refl },
              record { seen = (nine 2 ∷ [], refl); others = refl },
            ),
          );
          table = refl;
        },
        (still (passes_left 1) refl, refl, refl),
      ),
    ),
  );
}

second_run : HasRunBy Undirected load 2 (sets 8) second_report [] (passes_left 2)
second_run = record {
  first = pass_with 2 (load_commit load ∷ []) [] [] [];
  unbegun = record { job_is = refl; kind_is = refl; made = refl; begun = refl; closed = refl; stamps = refl; loaded = omega arith };
  skips = false;
  lines = (
    open_pass 2 [],
    [],
    begins 2,
    (
      passes_left 2,
      [],
      record {
        now = open_pass 2 [];
        waits = still (open_pass 2 []) refl;
        does = (
          1,
          Err (refusals.Conflict (Holder (txn_name 1 1))),
          record (open_pass 2 []) { sighted = record { by = txn_name 1 1; write = writes.SetEdge 1 2 8; start = 1 } ∷ [] },
          refl,
          refl,
          (set_allowed_too, (λ same. (let e : 1 ≡ 2 = same in omega (arith, e))), record { seen = ([], refl); others = refl }),
          record { seen = ([], refl); others = refl },
        );
        table = refl;
      },
      (
        passes_left 2,
        [],
        record { now = passes_left 2; waits = still (passes_left 2) refl; does = (refl, still (passes_left 2) refl); table = refl },
        (still (passes_left 2) refl, refl, refl),
      ),
    ),
  );
}

pub side_by_side : SideExample
side_by_side = record {
  reported = refl;
  filed = refl;
  ran = λ k cs report files at_script at_report at_files.
      at_two (λ k cs. (report : List Answer) (files : List File) → slice_get (first_report ∷ second_report ∷ []) k ≡ Some report → slice_get ([] ∷ [] ∷ []) k ≡ Some files
      → HasRunBy Undirected load (k + 1) cs report files (passes_left (k + 1))) (sets 9) (sets 8)
      (λ report files e f. subst (λ r. HasRunBy Undirected load 1 (sets 9) r files (passes_left 1)) (some_eq first_report report e)
      (subst (λ fs. HasRunBy Undirected load 1 (sets 9) first_report fs (passes_left 1)) (some_eq [] files f) first_run))
      (λ report files e f. subst (λ r. HasRunBy Undirected load 2 (sets 8) r files (passes_left 2)) (some_eq second_report report e)
      (subst (λ fs. HasRunBy Undirected load 2 (sets 8) second_report fs (passes_left 2)) (some_eq [] files f) second_run))
      k cs at_script report files at_report at_files;
  loader = refl;
  outside = outside;
  legal = two_legal;
  loaded = omega arith;
  seen = seen;
  made = at_two (λ i c. made_at (passes_left c.by.job).made c.by.number ≡ c.writes) (load_commit load) (nine 2) refl refl;
  answered = at_two (λ i c. (c.by.job ≡ 0) ⊎ Contains (passes_left c.by.job).stamps c.stamp) (load_commit load) (nine 2)
      (inl refl) (inr (0, omega arith, refl));
  matched = matched;
  filled = filled;
}
  where
    outside : (p : ℕ) → 2 < p → (passes_left p).made ≡ []
    outside zero lt = absurd (omega (arith, lt))
    outside (suc zero) lt = absurd (omega (arith, lt))
    outside (suc (suc zero)) lt = absurd (omega (arith, lt))
    outside (suc (suc (suc p))) lt = refl

    seen : (p : ℕ) → (rest : List Commit) × (two_commits ≡ (passes_left p).seen ++ rest)
    seen zero = (nine 2 ∷ [], refl)
    seen (suc zero) = ([], refl)
    seen (suc (suc zero)) = (nine 2 ∷ [], refl)
    seen (suc (suc (suc p))) = (two_commits, refl)

    matched : (p : ℕ) → AllByRecursion (IsMatched Undirected passes_left two_commits) (passes_left p).sighted
    matched zero = tt
    matched (suc zero) = tt
    matched (suc (suc zero)) = (
      record {
        made = refl;
        behind = λ i c at by. (let numbers = commit_numbers i c at in let job : c.by.job ≡ 1 = ap (λ (n : TxnName). n.job) by in let place = numbers.0 in let stamp = numbers.1 in omega arith);
      },
      tt,
    )
    matched (suc (suc (suc p))) = tt

    filled : (p : ℕ) → (passes_left p).filled ≡ true → SPLIT_ROWS * 1 ≤ sum_below (λ q. inserted_by_pass Undirected (passes_left q)) 3
    filled zero e = cc
    filled (suc zero) e = cc
    filled (suc (suc zero)) e = cc
    filled (suc (suc (suc p))) e = cc
