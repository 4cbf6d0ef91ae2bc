-- A run is under way behind each turn, and so in each state that is reached.
use Rattle.std.proofs.Common.{◌≡◌, ℕ, zero, suc, ◌+◌, ◌<◌, ◌≤◌, List, [], ◌∷◌, length, refl, sym, ◌∙◌, ap, subst, arith, cond, inl, inr}
use Rattle.std.specs.Prelude.{◌⊎◌, Bool, true, false, nat_lt, slice_get, Option, Some, None}
use Rattle.graph_model.specs.Transactions.{AreTransactions}
use Rattle.graph_model.proofs.LegalLemmas.{below_length}
use Rattle.graph_model.specs.declared.limits.TheConstants.{MAX_BEGINS}
use Rattle.run_model.specs.declared.command.Command.{Command}
use Rattle.run_model.specs.Commands.{next_txn, open_behind, begun_by, IsScript}
use Rattle.run_model.specs.Inputs.{Inputs}
use Rattle.run_model.specs.Run.{IsShown, IsLoad, MayFill}
use Rattle.run_model.specs.Jobs.{JobState, RunState, lines_so_far, turns_of, with_job, line_turn, job_turn, turn_at_place, turn}
use Rattle.run_model.specs.Stepped.{context_in, setting_of, turn_at, IsReached}
use Rattle.run_model.specs.UnderWay.{is_within, script_of, IsJob, IsUnderWay}
use Rattle.run_model.proofs.OpenLemmas.{open_unchanged}
use Rattle.run_model.specs.Laws.{LinesMayStand}
use Rattle.run_model.proofs.LineLemmas.{begun_behind}
use Rattle.run_model.proofs.ShortLemmas.{begun_grows}
use Rattle.run_model.proofs.SetLemmas.{get_map, set_cases, map_set}
use Rattle.run_model.proofs.ResultLemmas.{keeps_line}

module _ (inputs : Inputs) (leaves : ℕ) (s : RunState) (u : IsUnderWay inputs leaves s) (k : ℕ) (j : JobState) (at : slice_get s.jobs k ≡ Some j) where
  -- behind a turn that answers nothing the run is under way
  keeps_wait : (n : ℕ) → IsUnderWay inputs leaves (with_job s k (record j { taken = n }))
  keeps_wait n =
      let j' : JobState = record j { taken = n } in
      let job_is = u.each k j at in
      let s' : RunState = with_job s k j' in
      let lt : k < length s.jobs = below_length s.jobs k j at in
      let same : lines_so_far s' ≡ lines_so_far s = map_set (λ (x : JobState). x.lines) s.jobs k j j' at refl in
      let moved : (m : ℕ) (x : JobState) → IsJob (context_in inputs.kind inputs.load s m) x → IsJob (context_in inputs.kind inputs.load s' m) x =
      λ m x is. subst (λ ls. IsJob (record { kind = inputs.kind; load = inputs.load; journal = s.journal; scripts = ls; job = m + 1 }) x) (sym same) is in
      record {
        transactions = subst (λ r. AreTransactions inputs.kind s.journal r 0) (sym (open_unchanged s.jobs k j at j' (inl refl) refl)) u.transactions;
        loaded = u.loaded;
        behind_load = u.behind_load;
        whole = map_set script_of s.jobs k j j' at refl ∙ u.whole;
        each = λ m x e. elim (set_cases s.jobs k m j' x lt e) as (λ _. IsJob (context_in inputs.kind inputs.load s' m) x) [
          | inl p ↦ subst (λ y. IsJob (context_in inputs.kind inputs.load s' m) y) p.1 (subst (λ z. IsJob (context_in inputs.kind inputs.load s' z) j') (sym p.0)
              (moved k j' (record {
                numbered = job_is.numbered;
                answered = job_is.answered;
                shown = job_is.shown;
                told = λ start f. (let t = job_is.told start f in record { started = t.started; own = t.own; going = t.going });
                idle = job_is.idle;
                stopped = job_is.stopped;
                closed = job_is.closed;
                script = job_is.script;
              })))
          | inr p ↦ moved m x (u.each m x p.1)
        ];
        committed = λ i d in_journal. subst (λ ls. IsLoad inputs.load d ⊎ IsShown ls d) (sym same) (u.committed i d in_journal);
        begun = λ i d m x in_journal job in_jobs. elim (set_cases s.jobs k m j' x lt in_jobs) as (λ _. d.by.number ≤ x.begun) [
          | inl p ↦ subst (λ (y : JobState). d.by.number ≤ y.begun) p.1 (u.begun i d k j in_journal (job ∙ ap (λ n. n + 1) p.0) at)
          | inr p ↦ u.begun i d m x in_journal job p.1
        ];
        full = λ m i ls l at_script at_line is. subst (λ xs. MayFill inputs.kind leaves inputs.load xs) (sym same) (u.full m i ls l (sym (ap (λ xs. slice_get xs m) same) ∙ at_script) at_line is);
      }

  keeps_job : (full : Bool) → (full ≡ true → MayFill inputs.kind leaves inputs.load (lines_so_far s)) → (cs : List Command) → j.left ≡ cs → IsUnderWay inputs leaves (job_turn inputs.kind s k full j cs)
  keeps_job full filled [] e = u
  keeps_job full filled (c ∷ rest) e =
      elim (nat_lt (j.taken + 1) (turns_of inputs.kind s.journal j c)) as (λ t. IsUnderWay inputs leaves (cond t (with_job s k (record j { taken = j.taken + 1 })) (line_turn inputs.kind s k full j c rest))) [
        | true ↦ keeps_wait (j.taken + 1)
        | false ↦ keeps_line inputs leaves s u k j at c rest e full filled
      ]

-- behind each turn the run is under way
pub turn_keeps : (inputs : Inputs) (leaves : ℕ) (s : RunState) (job : ℕ) (full : Bool) → IsUnderWay inputs leaves s
    → (full ≡ true → MayFill inputs.kind leaves inputs.load (lines_so_far s)) → IsUnderWay inputs leaves (turn inputs.kind s job full)
turn_keeps inputs leaves s zero full u filled = u
turn_keeps inputs leaves s (suc k) full u filled = by_place (slice_get s.jobs k) refl
  where
    by_place : (x : Option JobState) → slice_get s.jobs k ≡ x → IsUnderWay inputs leaves (turn_at_place inputs.kind s k full x)
    by_place None e = u
    by_place (Some j) e = keeps_job inputs leaves s u k j e full filled j.left refl

-- so it is in each state that is reached
pub reached_keeps : (inputs : Inputs) (leaves : ℕ) (schedule : List ℕ) (first : RunState) (turns : ℕ) (s : RunState) → IsUnderWay inputs leaves first
    → IsReached (setting_of inputs leaves schedule) first turns s → IsUnderWay inputs leaves s
reached_keeps inputs leaves schedule first zero s u r = subst (IsUnderWay inputs leaves) (sym r) u
reached_keeps inputs leaves schedule first (suc n) s u r =
    subst (IsUnderWay inputs leaves) (sym r.5)
    (turn_keeps inputs leaves r.0 (turn_at (length inputs.scripts) schedule n) r.1 (reached_keeps inputs leaves schedule first n r.0 u r.2) r.4)

-- ---- the line at hand

-- a script that goes on behind a line lets the line stand
goes_on_so : (within : Option Bool) (cs : List Command) → IsScript within cs → (b : Bool) × (within ≡ Some b)
goes_on_so None cs is = absurd is
goes_on_so (Some b) cs is = (b, refl)

pub lines_stand : LinesMayStand
lines_stand inputs leaves s k j c rest are u at left =
    let job = u.each k j at in
    let script : IsScript (Some (is_within j)) (c ∷ rest) = subst (IsScript (Some (is_within j))) left job.script in
    let whole : slice_get inputs.scripts k ≡ Some (script_of j) = ap (λ xs. slice_get xs k) (sym u.whole) ∙ get_map script_of s.jobs k j at in
    let all : begun_by 0 (script_of j) ≡ begun_by (next_txn j.begun c) rest = begun_behind 0 j.lines j.begun j.left job.numbered ∙ ap (begun_by j.begun) left in
    let few : begun_by 0 (script_of j) ≤ MAX_BEGINS = are.begins k (script_of j) whole in
    let behind : next_txn j.begun c ≤ begun_by (next_txn j.begun c) rest = begun_grows (next_txn j.begun c) rest in
    record {
      limits = script.0;
      stands = goes_on_so (open_behind (is_within j) c) rest script.1;
      begins = λ begins. (let one : next_txn j.begun c ≡ j.begun + 1 = ap (next_txn j.begun) begins in omega arith);
    }
