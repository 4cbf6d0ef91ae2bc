-- Scripts that ran side by side, by the accounts of their passes, give a run.
use Rattle.std.proofs.Common.{◌≡◌, ℕ, zero, suc, ◌+◌, ◌*◌, ◌<◌, ◌≤◌, List, [], ◌∷◌, length, map, refl, sym, ◌∙◌, ap, subst, arith, inl, inr}
use Rattle.std.specs.Prelude.{◌⊎◌, ◌≢◌, Bool, true, false, slice_get, Some, sum_by, unwrap_or, Contains}
use Rattle.std.specs.List.{AllByRecursion, filter_map}
use Rattle.std.proofs.lemmas.List.{append-nil}
use Rattle.std.proofs.lemmas.Option.{none-some}
use Rattle.graph_model.specs.declared.limits.TheConstants.{SPLIT_ROWS}
use Rattle.graph_model.specs.declared.write.Write.{Write}
use Rattle.graph_model.specs.declared.journal.TxnName.{TxnName}
use Rattle.graph_model.specs.declared.journal.Commit.{Commit}
use Rattle.graph_model.specs.declared.refusal.Cause.TheVariants.{Holder}
use Rattle.graph_model.specs.Account.{Account, Sighting}
use Rattle.graph_model.specs.Conflict.{meets}
use Rattle.graph_model.specs.Inserted.{inserted}
use Rattle.graph_model.proofs.LegalLemmas.{below_length}
use Rattle.graph_model.proofs.PlaceLemmas.{some_eq}
use Rattle.run_model.specs.declared.command.Command.{Command}
use Rattle.run_model.specs.declared.answer.Answer.{Answer}
use Rattle.run_model.specs.declared.answer.Answer.TheVariants as answers
use Rattle.run_model.specs.AnsweredLines.{AnsweredLine, answered_from, answered_lines, made_by, own_writes}
use Rattle.run_model.specs.Commands.{next_txn, begun_by}
use Rattle.run_model.specs.Inputs.{Inputs, AreInputs, File, Outputs}
use Rattle.run_model.specs.Run.{MadeClash, IsCause, AllAnswered, HasFiles, IsLoad, IsShown, MayFill, answered_scripts, run_lines, context_at, inserted_in, load_stamp, load_commit, txn_name}
use Rattle.side_runs.specs.ByAccount.{HasRunBy}
use Rattle.side_runs.specs.SideBySide.{made_at, IsMatched, sum_below, inserted_by_pass, WasAnswered, HaveRunBy, RunsSideBySideAreRuns, RunsSideBySideAreMade, made_by_load}
use Rattle.run_model.proofs.CauseLemmas.{made_clash}
use Rattle.run_model.proofs.LineLemmas.{begun_behind}
use Rattle.run_model.proofs.ListLemmas.{there}
use Rattle.side_runs.proofs.MadeLemmas.{flat}
use Rattle.run_model.proofs.SetLemmas.{sum_cons}
use Rattle.side_runs.proofs.StepByLemmas.{contained_at}
use Rattle.side_runs.proofs.FirstLemmas.{behind_lines}
use Rattle.side_runs.proofs.SeriesLemmas.{stamps_answered, lines_count, first_tells, run_tells}
use Rattle.side_runs.proofs.TellLemmas.{Tells}
use Rattle.side_runs.proofs.RightLemmas.{LinesRight, lines_right}

-- ---- the load

-- with no load there is no list of its writes, which is as if there were an empty one
load_at : (load : List Write) (number : ℕ) → made_at (made_by_load load) number ≡ made_at (load ∷ []) number
load_at [] zero = refl
load_at [] (suc zero) = refl
load_at [] (suc (suc n)) = refl
load_at (w ∷ ws) number = refl

flat_load : (load : List Write) → flat (made_by_load load) ≡ load
flat_load [] = refl
flat_load (w ∷ ws) = append-nil (w ∷ ws)

-- ---- lists

-- what holds of all holds of the one at a place
all_at : {X : Type 0} (P : X → Type 0) (xs : List X) → AllByRecursion P xs → (i : ℕ) (x : X) → slice_get xs i ≡ Some x → P x
all_at P [] all i x e = cc
all_at P (y ∷ xs) all zero x e = subst P (some_eq y x e) all.0
all_at P (y ∷ xs) all (suc i) x e = all_at P xs all.1 i x e

-- the lines of a script stand where it stands
lines_there : (scripts : List (List Command)) (reports : List (List Answer)) (k : ℕ) (cs : List Command) (report : List Answer)
    → slice_get scripts k ≡ Some cs → slice_get reports k ≡ Some report → slice_get (answered_scripts scripts reports) k ≡ Some (answered_lines cs report)
lines_there [] reports k cs report e f = cc
lines_there (ds ∷ scripts) [] k cs report e f = cc
lines_there (ds ∷ scripts) (r ∷ reports) zero cs report e f = λ i. Some (answered_lines (some_eq ds cs e i) (some_eq r report f i))
lines_there (ds ∷ scripts) (r ∷ reports) (suc k) cs report e f = lines_there scripts reports k cs report e f

-- and come of it
lines_of : (scripts : List (List Command)) (reports : List (List Answer)) (k : ℕ) (ls : List AnsweredLine) → slice_get (answered_scripts scripts reports) k ≡ Some ls
    → (cs : List Command) × (report : List Answer) × (slice_get scripts k ≡ Some cs) × (slice_get reports k ≡ Some report) × (answered_lines cs report ≡ ls)
lines_of [] reports k ls e = cc
lines_of (cs ∷ scripts) [] k ls e = cc
lines_of (cs ∷ scripts) (r ∷ reports) zero ls e = (cs, r, refl, refl, some_eq (answered_lines cs r) ls e)
lines_of (cs ∷ scripts) (r ∷ reports) (suc k) ls e = lines_of scripts reports k ls e

scripts_count : (scripts : List (List Command)) (reports : List (List Answer)) → length reports ≡ length scripts → length (answered_scripts scripts reports) ≡ length scripts
scripts_count [] reports e = refl
scripts_count (cs ∷ scripts) [] e = absurd (omega (arith, e))
scripts_count (cs ∷ scripts) (r ∷ reports) e = ap suc (scripts_count scripts reports (omega (arith, e)))

-- the line of an answer
line_there : (txn : ℕ) (cs : List Command) (report : List Answer) → length report ≡ length cs → (i : ℕ) (a : Answer) → slice_get report i ≡ Some a
    → (l : AnsweredLine) × (slice_get (answered_from txn cs report) i ≡ Some l) × (l.answer ≡ a)
line_there txn [] [] count i a e = cc
line_there txn [] (b ∷ report) count i a e = absurd (omega (arith, count))
line_there txn (c ∷ cs) [] count i a e = cc
line_there txn (c ∷ cs) (b ∷ report) count zero a e = (record { txn = next_txn txn c; command = c; answer = b }, refl, some_eq b a e)
line_there txn (c ∷ cs) (b ∷ report) count (suc i) a e = line_there (next_txn txn c) cs report (omega (arith, count)) i a e

-- ---- sums

shifted : (f : ℕ → ℕ) (n : ℕ) → sum_below f (suc n) ≡ f 0 + sum_below (λ q. f (suc q)) n
shifted f zero = omega arith
shifted f (suc n) = let rest = shifted f n in omega (arith, rest)

sums : {X : Type 0} (g : X → ℕ) (xs : List X) (f : ℕ → ℕ) → ((k : ℕ) (x : X) → slice_get xs k ≡ Some x → f k ≡ g x) → sum_below f (length xs) ≡ sum_by g xs
sums g [] f each = refl
sums g (x ∷ xs) f each =
    let rest : sum_below (λ q. f (suc q)) (length xs) ≡ sum_by g xs = sums g xs (λ q. f (suc q)) (λ k y e. each (suc k) y e) in
    let first : f 0 ≡ g x = each 0 x refl in
    shifted f (length xs) ∙ (λ i. first i + rest i) ∙ sym (sum_cons g x xs)

-- a place behind the end has nothing
behind_end : (made : List (List Write)) (n : ℕ) → (made_at made (suc n) ≡ []) ⊎ (n < length made)
behind_end [] n = inl refl
behind_end (ws ∷ made) zero = inr (omega arith)
behind_end (ws ∷ made) (suc n) = elim (behind_end made n) as (λ _. (made_at made (suc n) ≡ []) ⊎ (suc n < length (ws ∷ made))) [
  | inl e ↦ inl e
  | inr lt ↦ inr (omega (arith, lt))
]

-- ---- the run

module _ (inputs : Inputs) (leaves : ℕ) (passes : ℕ → Account) (outputs : Outputs) (given : AreInputs inputs) (is : HaveRunBy inputs leaves passes outputs) where
  abbrev scripts : List (List AnsweredLine)
  scripts = run_lines inputs outputs

  -- the pass of a script
  module _ (k : ℕ) (cs : List Command) (report : List Answer) (script : slice_get inputs.scripts k ≡ Some cs) (answered : slice_get outputs.reports k ≡ Some report) where
    files_there : (files : List File) × (slice_get outputs.files k ≡ Some files)
    files_there = there outputs.files k (let lt = below_length inputs.scripts k cs script in omega (arith, lt, is.filed))

    run_at : (files : List File) × (slice_get outputs.files k ≡ Some files) × HasRunBy inputs.kind inputs.load (k + 1) cs report files (passes (k + 1))
    run_at = let f = files_there in (f.0, f.1, is.ran k cs report f.0 script answered f.1)

    told_at : (skips : Bool) × Tells inputs.kind inputs.load (k + 1) (answered_lines cs report) skips (passes (k + 1)) []
    told_at =
        let r = run_at in
        let s = is.seen (k + 1) in
        ((r.2).skips, run_tells inputs.kind inputs.load (k + 1) outputs.journal is.legal cs report r.0 (passes (k + 1)) s.0 s.1 (given.scripts k cs script) r.2)

    count_at : length report ≡ length cs
    count_at = let r = run_at in lines_count false (r.2).first cs report r.0 (r.2).skips (passes (k + 1)) (r.2).lines

  -- a commit is of pass 0, or a script was answered its stamp
  answered_is : (i : ℕ) (c : Commit) → slice_get outputs.journal i ≡ Some c → (c.by.job ≡ 0) ⊎ WasAnswered outputs.reports c
  answered_is i c at = by_job c.by.job refl (is.answered i c at)
    where
      contains_place : (xs : List Answer) (k : ℕ) (a : Answer) → slice_get xs k ≡ Some a → Contains xs a
      contains_place [] k a e = cc
      contains_place (x ∷ xs) zero a e = (0, omega arith, some_eq x a e)
      contains_place (x ∷ xs) (suc k) a e = let r = contains_place xs k a e in (suc r.0, omega (arith, r.1), r.2)

      below : (p n : ℕ) → (p < n) ⊎ (n ≤ p)
      below p zero = inr (omega arith)
      below zero (suc n) = inl (omega arith)
      below (suc p) (suc n) = elim (below p n) as (λ _. (suc p < suc n) ⊎ (suc n ≤ suc p)) [
        | inl lt ↦ inl (omega (arith, lt))
        | inr le ↦ inr (omega (arith, le))
      ]

      nothing : (n : ℕ) → made_at [] n ≡ []
      nothing zero = refl
      nothing (suc n) = refl

      by_script : (p : ℕ) → p < length inputs.scripts → Contains (passes (p + 1)).stamps c.stamp → WasAnswered outputs.reports c
      by_script p lt holds =
          let s = there inputs.scripts p lt in
          let r = there outputs.reports p (omega (arith, lt, is.reported)) in
          let run = run_at p s.0 r.0 s.1 r.1 in
          let place = contained_at (passes (p + 1)).stamps c.stamp holds in
          elim (stamps_answered false (run.2).first s.0 r.0 run.0 (run.2).skips (passes (p + 1)) (run.2).lines place.0 c.stamp place.1) as (λ _. WasAnswered outputs.reports c) [
            | inl before ↦ absurd (none-some c.stamp (ap (λ xs. slice_get xs before.0) (sym (run.2).unbegun.stamps) ∙ before.1))
            | inr found ↦ (p, r.0, r.1, contains_place r.0 found.0 (answers.Committed (Some c.stamp)) found.1)
          ]

      by_job : (job : ℕ) → c.by.job ≡ job → (c.by.job ≡ 0) ⊎ Contains (passes c.by.job).stamps c.stamp → (c.by.job ≡ 0) ⊎ WasAnswered outputs.reports c
      by_job job e (inl none) = inl none
      by_job zero e (inr holds) = inl e
      by_job (suc p) e (inr holds) = elim (below p (length inputs.scripts)) as (λ _. (c.by.job ≡ 0) ⊎ WasAnswered outputs.reports c) [
        | inl lt ↦ inr (by_script p lt (subst (λ q. Contains (passes q).stamps c.stamp) (let one : suc p ≡ p + 1 = omega arith in e ∙ one) holds))
        | inr le ↦ absurd (
            let none : [] ≡ c.writes = sym (ap (λ l. made_at l c.by.number) (ap (λ q. (passes q).made) e ∙ is.outside (suc p) (omega (arith, le))) ∙ nothing c.by.number) ∙ is.made i c at in
            let empty : 0 ≡ length c.writes = ap length none in
            let some : 0 < length c.writes = (is.legal.each i c at).wrote in
            omega (arith, empty, some)
            )
      ]

  -- ---- the load

  -- a commit that a script was answered began behind the load
  behind : (c : Commit) (i : ℕ) → slice_get outputs.journal i ≡ Some c → WasAnswered outputs.reports c → load_stamp inputs.load ≤ c.start
  behind c i at (k, report, answered, holds) =
      let r = there inputs.scripts k (let lt = below_length outputs.reports k report answered in omega (arith, lt, is.reported)) in
      let run = run_at k r.0 report r.1 answered in
      let s = is.seen (k + 1) in
      let place = contained_at report (answers.Committed (Some c.stamp)) holds in
      let stamped : c.stamp ≡ i + 1 = (is.legal.each i c at).stamped in
      let found = behind_lines inputs.kind inputs.load (k + 1) outputs.journal is.legal false (run.2).first r.0 report run.0 (run.2).skips (passes (k + 1)) [] s.0 s.1
      (first_tells inputs.kind inputs.load (k + 1) outputs.journal is.legal r.0 (run.2).first (run.2).unbegun (given.scripts k r.0 r.1)) (run.2).lines place.0 c.stamp place.1 (omega (arith, stamped)) in
      let same : found.1 ≡ c = some_eq found.1 c (sym found.2 ∙ ap (slice_get outputs.journal) (let n = found.3 in omega (arith, n, stamped)) ∙ at) in
      subst (λ (d : Commit). load_stamp inputs.load ≤ d.start) same found.4

  -- a commit of pass 0 is the load's
  of_loader : (c : Commit) (i : ℕ) → slice_get outputs.journal i ≡ Some c → c.by.job ≡ 0 → (inputs.load ≢ []) × (c.by ≡ txn_name 0 1) × (c.writes ≡ inputs.load)
  of_loader c i at zero_job = by_number c.by.number refl
      (sym (load_at inputs.load c.by.number) ∙ ap (λ l. made_at l c.by.number) (sym is.loader) ∙ ap (λ p. made_at (passes p).made c.by.number) (sym zero_job) ∙ is.made i c at)
    where
      wrote : 0 < length c.writes
      wrote = (is.legal.each i c at).wrote

      nothing : [] ≡ c.writes → ⊥
      nothing e = let none : 0 ≡ length c.writes = ap length e in let some : 0 < length c.writes = (is.legal.each i c at).wrote in omega (arith, none, some)

      by_number : (number : ℕ) → c.by.number ≡ number → made_at (inputs.load ∷ []) number ≡ c.writes → (inputs.load ≢ []) × (c.by ≡ txn_name 0 1) × (c.writes ≡ inputs.load)
      by_number zero named made = absurd (nothing made)
      by_number (suc zero) named made = ((λ e. nothing (sym e ∙ made)), (λ j. record { job = zero_job j; number = named j }), sym made)
      by_number (suc (suc n)) named made = absurd (nothing made)

  -- so the load stands first
  first_is : (w : Write) (ws : List Write) → inputs.load ≡ w ∷ ws → slice_get outputs.journal 0 ≡ Some (load_commit inputs.load)
  first_is w ws e =
      let some : 1 ≤ length outputs.journal = subst (λ l. load_stamp l ≤ length outputs.journal) e is.loaded in
      let c = there outputs.journal 0 (omega (arith, some)) in
      let legal = is.legal.each 0 c.0 c.1 in
      let start : (c.0).start ≡ 0 = (let low = legal.started in omega (arith, low)) in
      elim (answered_is 0 c.0 c.1) as (λ _. slice_get outputs.journal 0 ≡ Some (load_commit inputs.load)) [
        | inl zero_job ↦ (
            let l = of_loader c.0 0 c.1 zero_job in
            c.1 ∙ (λ j. Some (record { stamp = legal.stamped j; start = start j; by = l.1 j; writes = l.2 j }))
            )
        | inr answer ↦ absurd (let late : 1 ≤ (c.0).start = subst (λ l. load_stamp l ≤ (c.0).start) e (behind c.0 0 c.1 answer) in omega (arith, late, start))
      ]

  loaded_is : (load : List Write) → inputs.load ≡ load → (inputs.load ≡ []) ⊎ (slice_get outputs.journal 0 ≡ Some (load_commit inputs.load))
  loaded_is [] e = inl e
  loaded_is (w ∷ ws) e = inr (first_is w ws e)

  -- and no other commit is of pass 0
  load_is : (i : ℕ) (c : Commit) → slice_get outputs.journal i ≡ Some c → c.by.job ≡ 0 → IsLoad inputs.load c
  load_is i c at zero_job =
      let l = of_loader c i at zero_job in
      elim (loaded_is inputs.load refl) as (λ _. IsLoad inputs.load c) [
        | inl none ↦ absurd (l.0 none)
        | inr first ↦ (
            let place : i ≡ 0 = is.legal.names i 0 c (load_commit inputs.load) at first l.1 in
            (l.0, some_eq c (load_commit inputs.load) (sym at ∙ ap (slice_get outputs.journal) place ∙ first))
            )
      ]

  -- who was met is a cause
  module _ (x : Sighting) (m : IsMatched inputs.kind passes outputs.journal x) (loaded : load_stamp inputs.load ≤ x.start) where
    abbrev Met : TxnName → Type 0
    Met by = (place : ℕ) × (lines : List AnsweredLine) × (place + 1 ≡ by.job) × (slice_get scripts place ≡ Some lines) × MadeClash inputs.kind lines by.number x.write

    abbrev Made : ℕ → ℕ → Type 0
    Made job number = meets inputs.kind x.write (made_at (passes job).made number) ≡ true

    -- the load's commit isn't later than a start behind it
    by_load : (load : List Write) → inputs.load ≡ load → (number : ℕ) → x.by ≡ txn_name 0 number → meets inputs.kind x.write (made_at (load ∷ []) number) ≡ true → ⊥
    by_load load e zero named made = cc
    by_load [] e (suc zero) named made = cc
    by_load (w ∷ ws) e (suc zero) named made = elim (loaded_is inputs.load refl) as (λ _. ⊥) [
      | inl none ↦ cc
      | inr first ↦ (
          let behind : x.start < 1 = m.behind 0 (load_commit inputs.load) first (sym named) in
          let stamp : 1 ≤ x.start = subst (λ l. load_stamp l ≤ x.start) e loaded in
          omega (arith, behind, stamp)
          )
    ]
    by_load load e (suc (suc n)) named made = cc

    by_script : (p : ℕ) (cs : List Command) → slice_get inputs.scripts p ≡ Some cs → (number : ℕ) → Made (p + 1) number
        → (lines : List AnsweredLine) × (slice_get scripts p ≡ Some lines) × MadeClash inputs.kind lines number x.write
    by_script p cs e zero made = cc
    by_script p cs e (suc n) made =
        let r = there outputs.reports p (let lt = below_length inputs.scripts p cs e in omega (arith, lt, is.reported)) in
        let lists = ((told_at p cs r.0 e r.1).1).lists in
        elim (behind_end (passes (p + 1)).made n) as (λ _. (lines : List AnsweredLine) × (slice_get scripts p ≡ Some lines) × MadeClash inputs.kind lines (suc n) x.write) [
          | inl none ↦ (let no : meets inputs.kind x.write [] ≡ true = subst (λ ws. meets inputs.kind x.write ws ≡ true) none made in cc)
          | inr lt ↦ (
              let own : slice_get (passes (p + 1)).made n ≡ Some (own_writes (suc n) (answered_lines cs r.0)) = lists.by_txn n (omega (arith, lt, lists.counted)) in (
                answered_lines cs r.0,
                lines_there inputs.scripts outputs.reports p cs r.0 e r.1,
                made_clash inputs.kind (answered_lines cs r.0) (suc n) x.write (subst (λ o. meets inputs.kind x.write (unwrap_or o []) ≡ true) own made),
              )
              )
        ]

    by_job : (job number : ℕ) → x.by ≡ txn_name job number → Made job number → Met (txn_name job number)
    by_job zero number named made = absurd (by_load inputs.load refl number named (subst (λ ws. meets inputs.kind x.write ws ≡ true) (load_at inputs.load number) (subst (λ l. meets inputs.kind x.write (made_at l number) ≡ true) is.loader made)))
    by_job (suc p) number named made = by_place (below p (length inputs.scripts))
      where
        below : (p n : ℕ) → (p < n) ⊎ (n ≤ p)
        below p zero = inr (omega arith)
        below zero (suc n) = inl (omega arith)
        below (suc p) (suc n) = elim (below p n) as (λ _. (suc p < suc n) ⊎ (suc n ≤ suc p)) [
          | inl lt ↦ inl (omega (arith, lt))
          | inr le ↦ inr (omega (arith, le))
        ]

        one : suc p ≡ p + 1
        one = omega arith

        nothing : (n : ℕ) → made_at [] n ≡ []
        nothing zero = refl
        nothing (suc n) = refl

        by_place : (p < length inputs.scripts) ⊎ (length inputs.scripts ≤ p) → Met (txn_name (suc p) number)
        by_place (inl lt) =
            let c = there inputs.scripts p lt in
            let found = by_script p c.0 c.1 number (subst (λ q. Made q number) one made) in
            (p, found.0, sym one, found.1, found.2)
        by_place (inr le) =
            let none : made_at (passes (suc p)).made number ≡ [] = ap (λ l. made_at l number) (is.outside (suc p) (omega (arith, le))) ∙ nothing number in
            let no : meets inputs.kind x.write [] ≡ true = subst (λ ws. meets inputs.kind x.write ws ≡ true) none made in
            cc

    pub cause_is : (k : ℕ) → x.by.job ≢ k + 1 → IsCause (context_at inputs outputs k) x.start x.write (Holder x.by)
    cause_is k other = (other, by_job x.by.job x.by.number refl m.made, m.behind)

  -- a script's lines are right
  module _ (k : ℕ) (cs : List Command) (report : List Answer) (script : slice_get inputs.scripts k ≡ Some cs) (answered : slice_get outputs.reports k ≡ Some report) where
    Right : List AnsweredLine → List File → Type 0
    Right ls files = LinesRight inputs.kind inputs.load outputs.journal is.legal scripts (k + 1) (passes (k + 1))
        (λ i x e other loaded. cause_is x (all_at (IsMatched inputs.kind passes outputs.journal) (passes (k + 1)).sighted (is.matched (k + 1)) i x e) loaded k other) [] ls files

    right_at : (files : List File) → slice_get outputs.files k ≡ Some files → Right (answered_lines cs report) files
    unfolding Right
    right_at files filed =
        let run : HasRunBy inputs.kind inputs.load (k + 1) cs report files (passes (k + 1)) = is.ran k cs report files script answered filed in
        let s = is.seen (k + 1) in
        subst (λ n. Right (answered_from n cs report) files) run.unbegun.begun
        (lines_right inputs.kind inputs.load outputs.journal is.legal scripts (k + 1) (passes (k + 1))
        (λ i x e other loaded. cause_is x (all_at (IsMatched inputs.kind passes outputs.journal) (passes (k + 1)).sighted (is.matched (k + 1)) i x e) loaded k other)
        false run.first cs report files run.skips [] s.0 s.1
        (first_tells inputs.kind inputs.load (k + 1) outputs.journal is.legal cs run.first run.unbegun (given.scripts k cs script)) run.lines)

    right_lines : (files : List File) × Right (answered_lines cs report) files
    right_lines = let f = files_there k cs report script answered in (f.0, right_at f.0 f.1)

  -- the rows of all passes are those of the load and of the lines
  all_inserted : sum_below (λ q. inserted_by_pass inputs.kind (passes q)) (length inputs.scripts + 1) ≡ inserted inputs.kind inputs.load + inserted_in inputs.kind scripts
  all_inserted =
      let count : length scripts ≡ length inputs.scripts = scripts_count inputs.scripts outputs.reports is.reported in
      let more : length inputs.scripts + 1 ≡ suc (length scripts) = omega (arith, count) in
      let first : inserted_by_pass inputs.kind (passes 0) ≡ inserted inputs.kind inputs.load = ap (λ m. inserted inputs.kind (flat m)) is.loader ∙ ap (inserted inputs.kind) (flat_load inputs.load) in
      let others : sum_below (λ q. inserted_by_pass inputs.kind (passes (suc q))) (length scripts) ≡ inserted_in inputs.kind scripts =
      sums (λ ls. inserted inputs.kind (filter_map made_by ls)) scripts (λ q. inserted_by_pass inputs.kind (passes (suc q))) each in
      ap (sum_below (λ q. inserted_by_pass inputs.kind (passes q))) more ∙ shifted (λ q. inserted_by_pass inputs.kind (passes q)) (length scripts) ∙ (λ i. first i + others i)
    where
      each : (k : ℕ) (ls : List AnsweredLine) → slice_get scripts k ≡ Some ls → inserted_by_pass inputs.kind (passes (suc k)) ≡ inserted inputs.kind (filter_map made_by ls)
      each k ls e =
          let l = lines_of inputs.scripts outputs.reports k ls e in
          let lists = ((told_at k l.0 l.1 l.2 l.3).1).lists in
          let one : suc k ≡ k + 1 = omega arith in
          ap (λ q. inserted_by_pass inputs.kind (passes q)) one ∙ ap (inserted inputs.kind) (lists.wrote ∙ ap (filter_map made_by) l.4)

  -- a stamp that a script was answered is shown
  shown : (c : Commit) (i : ℕ) → slice_get outputs.journal i ≡ Some c → WasAnswered outputs.reports c → IsShown scripts c
  unfolding Right
  shown c i at (k, report, answered, holds) =
      let r = there inputs.scripts k (let lt = below_length outputs.reports k report answered in omega (arith, lt, is.reported)) in
      let place = contained_at report (answers.Committed (Some c.stamp)) holds in
      let l = line_there 0 r.0 report (count_at k r.0 report r.1 answered) place.0 (answers.Committed (Some c.stamp)) place.1 in
      let right = (right_lines k r.0 report r.1 answered).1 in
      let stamped : c.stamp ≡ i + 1 = (is.legal.each i c at).stamped in
      let told = right.shows place.0 l.0 c.stamp l.1 (omega (arith, stamped)) l.2 in
      let same : told.1 ≡ c = some_eq told.1 c (sym told.2 ∙ ap (slice_get outputs.journal) (let n = told.3 in omega (arith, n, stamped)) ∙ at) in
      (k, answered_lines r.0 report, place.0, l.0, lines_there inputs.scripts outputs.reports k r.0 report r.1 answered, l.1, ap (λ (d : Commit). d.by) (sym same) ∙ told.4, (told.5, l.2))

  -- `full` stands only where the leaves may be full
  full_at : (k i : ℕ) (ls : List AnsweredLine) (l : AnsweredLine) → slice_get scripts k ≡ Some ls → slice_get ls i ≡ Some l → l.answer ≡ answers.Full → MayFill inputs.kind leaves inputs.load scripts
  unfolding Right
  full_at k i ls l e f g =
      let o = lines_of inputs.scripts outputs.reports k ls e in
      let right = (right_lines k o.0 o.1 o.2 o.3).1 in
      let filled : (passes (k + 1)).filled ≡ true = right.full i l (ap (λ xs. slice_get xs i) o.4 ∙ f) g in
      subst (λ n. SPLIT_ROWS * leaves ≤ n) all_inserted (is.filled (k + 1) filled)

-- what scripts give that ran side by side is a run
pub is_run : RunsSideBySideAreRuns
unfolding Right
is_run inputs leaves passes outputs given is = record {
  given = given;
  legal = is.legal;
  loaded = loaded_is inputs leaves passes outputs given is inputs.load refl;
  reported = is.reported;
  lines = λ k cs report e f. count_at inputs leaves passes outputs given is k cs report e f;
  answered = λ k ls e. (
      let o = lines_of inputs.scripts outputs.reports k ls e in
      subst (λ xs. AllAnswered (context_at inputs outputs k) [] xs) o.4 ((right_lines inputs leaves passes outputs given is k o.0 o.1 o.2 o.3).1).answered);
  committed = λ i c e. elim (answered_is inputs leaves passes outputs given is i c e) as (λ _. IsLoad inputs.load c ⊎ IsShown (run_lines inputs outputs) c) [
    | inl loader ↦ inl (load_is inputs leaves passes outputs given is i c e loader)
    | inr answer ↦ inr (shown inputs leaves passes outputs given is c i e answer)
  ];
  full = full_at inputs leaves passes outputs given is;
  filed = is.filed;
  files = λ k ls files e f. (
      let o = lines_of inputs.scripts outputs.reports k ls e in
      subst (λ xs. HasFiles (context_at inputs outputs k) [] xs files) o.4 (right_at inputs leaves passes outputs given is k o.0 o.1 o.2 o.3 files f).filed);
}

-- ---- what the passes have made

-- the commands of a script's lines are the script
commands_are : (txn : ℕ) (cs : List Command) (report : List Answer) → length report ≡ length cs → map (λ (l : AnsweredLine). l.command) (answered_from txn cs report) ≡ cs
commands_are txn [] [] count = refl
commands_are txn [] (a ∷ report) count = refl
commands_are txn (c ∷ cs) [] count = absurd (omega (arith, count))
commands_are txn (c ∷ cs) (a ∷ report) count = ap (λ xs. c ∷ xs) (commands_are (next_txn txn c) cs report (omega (arith, count)))

pub are_made : RunsSideBySideAreMade
are_made inputs leaves passes outputs given is k cs report e f =
    let lists = ((told_at inputs leaves passes outputs given is k cs report e f).1).lists in
    let count = count_at inputs leaves passes outputs given is k cs report e f in
    record {
      begun = sym (begun_behind 0 (answered_lines cs report) (passes (k + 1)).begun [] lists.numbered)
          ∙ ap (begun_by 0) (append-nil _ ∙ commands_are 0 cs report count);
      count = lists.counted;
      made = lists.by_txn;
    }
