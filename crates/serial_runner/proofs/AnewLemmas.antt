-- Answers of refused commits, given one behind the other.
use Rattle.std.proofs.Common.{◌≡◌, ℕ, zero, suc, ◌+◌, ◌<◌, List, [], ◌∷◌, length, take, refl, sym, ◌∙◌, ap, arith}
use Rattle.std.specs.Prelude.{slice_get, slice_set, Some}
use Rattle.graph_model.specs.declared.refusal.Cause.TheVariants.{Later}
use Rattle.graph_model.proofs.PlaceLemmas.{some_eq}
use Rattle.graph_model.proofs.LegalLemmas.{below_length}
use Rattle.graph_model.proofs.HistoryLemmas.{get_within}
use Rattle.run_model.proofs.SetLemmas.{get_set}
use Rattle.job_runner.proofs.TookLemmas.{set_same}
use Rattle.serial_model.proofs.ReadLemmas.{set_twice}
use Rattle.run_model.specs.declared.answer.Answer.{Answer}
use Rattle.run_model.specs.declared.answer.Answer.TheVariants.{Conflict}
use Rattle.job_runner.specs.Progress.{Progress}
use Rattle.serial_model.proofs.WayLemmas.{length_set}
use Rattle.serial_runner.specs.declared.run.RefusedCommit.{RefusedCommit}
use Rattle.serial_runner.specs.declared.run.Check.{Check}
use Rattle.serial_runner.specs.SerialRuns.{answered_anew, job_anew, jobs_anew}

-- the last of the first ones is given last
pub anew_last : (i : ℕ) (refused : List RefusedCommit) (r : RefusedCommit) (ys : List Answer) → slice_get refused i ≡ Some r
    → answered_anew (take (suc i) refused) ys ≡ slice_set (answered_anew (take i refused) ys) r.line (Conflict (Later r.stamp))
anew_last i [] r ys e = cc
anew_last zero (x ∷ refused) r ys e = let same : x ≡ r = some_eq x r e in ap (λ (y : RefusedCommit). slice_set ys y.line (Conflict (Later y.stamp))) same
anew_last (suc i) (x ∷ refused) r ys e = anew_last i refused r (slice_set ys x.line (Conflict (Later x.stamp))) e

-- as many answers
pub anew_length : (refused : List RefusedCommit) (ys : List Answer) → length (answered_anew refused ys) ≡ length ys
anew_length [] ys = refl
anew_length (x ∷ refused) ys = anew_length refused (slice_set ys x.line (Conflict (Later x.stamp))) ∙ length_set ys x.line (Conflict (Later x.stamp))

-- those of one script more
pub jobs_last : (k : ℕ) (checks : List Check) (jobs : List Progress) (c : Check) (p : Progress) → slice_get checks k ≡ Some c → slice_get jobs k ≡ Some p
    → jobs_anew (take (suc k) checks) jobs ≡ slice_set (jobs_anew (take k checks) jobs) k (job_anew c.refused p)
jobs_last k [] jobs c p e f = cc
jobs_last k (x ∷ checks) [] c p e f = cc
jobs_last zero (x ∷ checks) (y ∷ jobs) c p e f =
    let a : x ≡ c = some_eq x c e in
    let b : y ≡ p = some_eq y p f in
    λ i. job_anew (a i).refused (b i) ∷ jobs
jobs_last (suc k) (x ∷ checks) (y ∷ jobs) c p e f = ap (λ js. job_anew x.refused y ∷ js) (jobs_last k checks jobs c p e f)

-- the others stay
pub jobs_later : (k : ℕ) (checks : List Check) (jobs : List Progress) (p : Progress) → slice_get jobs k ≡ Some p → slice_get (jobs_anew (take k checks) jobs) k ≡ Some p
jobs_later zero checks jobs p f = f
jobs_later (suc k) [] jobs p f = f
jobs_later (suc k) (x ∷ checks) [] p f = cc
jobs_later (suc k) (x ∷ checks) (y ∷ jobs) p f = jobs_later k checks jobs p f

pub jobs_count : (checks : List Check) (jobs : List Progress) → length (jobs_anew checks jobs) ≡ length jobs
jobs_count [] jobs = refl
jobs_count (x ∷ checks) [] = refl
jobs_count (x ∷ checks) (y ∷ jobs) = ap suc (jobs_count checks jobs)

-- ---- one script, answer by answer

-- the first ones were given their answers
abbrev pub AreAnew : ℕ → List RefusedCommit → List Progress → List Progress → Type 0
AreAnew k refused jobs new = (p : Progress) → slice_get jobs k ≡ Some p → new ≡ slice_set jobs k (job_anew refused p)

pub anew_none : (k : ℕ) (jobs : List Progress) → AreAnew k [] jobs jobs
anew_none k jobs = λ p at. sym (set_same jobs k p at)

pub anew_there : (k : ℕ) (refused : List RefusedCommit) (jobs new : List Progress) → AreAnew k refused jobs new → (p : Progress) → slice_get jobs k ≡ Some p → slice_get new k ≡ Some (job_anew refused p)
anew_there k refused jobs new are p at = ap (λ js. slice_get js k) (are p at) ∙ get_set jobs k (job_anew refused p) (below_length jobs k p at)

pub anew_next : (k : ℕ) (refused : List RefusedCommit) (i : ℕ) (r : RefusedCommit) (jobs new after : List Progress) → slice_get refused i ≡ Some r → AreAnew k (take i refused) jobs new
    → ((p : Progress) → slice_get new k ≡ Some p → after ≡ slice_set new k (record p { answers = slice_set p.answers r.line (Conflict (Later r.stamp)) })) → AreAnew k (take (i + 1) refused) jobs after
anew_next k refused i r jobs new after here are given = λ p at.
    let one_more : suc i ≡ i + 1 = omega arith in
    given (job_anew (take i refused) p) (anew_there k (take i refused) jobs new are p at)
    ∙ ap (λ js. slice_set js k (record p { answers = slice_set (answered_anew (take i refused) p.answers) r.line (Conflict (Later r.stamp)) })) (are p at)
    ∙ set_twice jobs k (job_anew (take i refused) p) (record p { answers = slice_set (answered_anew (take i refused) p.answers) r.line (Conflict (Later r.stamp)) })
    ∙ ap (λ ys. slice_set jobs k (record p { answers = ys })) (sym (anew_last i refused r p.answers here) ∙ ap (λ n. answered_anew (take n refused) p.answers) one_more)

-- the script is still there, and has as many answers
pub anew_length_there : (k : ℕ) (refused : List RefusedCommit) (jobs new : List Progress) → AreAnew k refused jobs new → k < length jobs → (p q : Progress) → slice_get jobs k ≡ Some p → slice_get new k ≡ Some q → length q.answers ≡ length p.answers
anew_length_there k refused jobs new are lt p q at there =
    ap (λ (x : Progress). length x.answers) (some_eq q (job_anew refused p) (sym there ∙ anew_there k refused jobs new are p at)) ∙ anew_length refused p.answers

pub anew_count : (k : ℕ) (refused : List RefusedCommit) (jobs new : List Progress) → AreAnew k refused jobs new → k < length jobs → length new ≡ length jobs
anew_count k refused jobs new are lt = let a = get_within jobs k lt in ap length (are a.0 a.1) ∙ length_set jobs k (job_anew refused a.0)
