-- Turns by rotation come to an end: each takes a turn from some job, or brings the next job that isn't over nearer.
use Rattle.std.proofs.Common.{◌≡◌, ℕ, zero, suc, ◌+◌, ◌-◌, ◌*◌, ◌<◌, ◌≤◌, List, [], ◌∷◌, length, drop, refl, sym, ◌∙◌, ap, subst, arith, cond, inl, inr}
use Rattle.std.specs.Prelude.{◌⊎◌, Bool, true, false, ◌==◌, not, Option, Some, slice_get, sum_by}
use Rattle.std.proofs.lemmas.Bool.{ne_eqb}
use Rattle.std.proofs.lemmas.Bool.Decides.{nat_tests}
use Rattle.std.proofs.lemmas.List.Sums.{count_by-le-length}
use Rattle.graph_model.proofs.HistoryLemmas.{get_within}
use Rattle.graph_model.proofs.TestLemmas.{self_eq, eq_of}
use Rattle.run_model.specs.Stepped.{rotated}
use Rattle.run_model.proofs.SetLemmas.{sum_cons}
use Rattle.job_runner.specs.Progress.{Progress, is_over}
use Rattle.job_runner.specs.Runs.{turns_left, under_way, Goes}

-- how many steps of the rotation there are at most, up to one that takes a turn
abbrev pub steps_to : List Progress → ℕ → ℕ
steps_to jobs zero = length jobs + 2
steps_to jobs (suc k) = (length jobs - k) + cond (under_way (drop k jobs) == 0) (length jobs + 2) 0

-- the turns that all jobs have left, each with the steps that lead to it
abbrev pub measure : List Progress → ℕ → ℕ
measure jobs job = sum_by turns_left jobs * (2 * length jobs + 6) + steps_to jobs job

-- the job behind this one in the rotation
abbrev pub next_of : ℕ → ℕ → ℕ
next_of count job = cond (job == count) 0 (job + 1)

few : (b : Bool) (n : ℕ) → cond b (n + 2) 0 ≤ n + 2
few true n = omega arith
few false n = omega arith

steps_few : (jobs : List Progress) (job : ℕ) → steps_to jobs job < 2 * length jobs + 6
steps_few jobs zero = omega arith
steps_few jobs (suc k) = omega (arith, few (under_way (drop k jobs) == 0) (length jobs))

times_less : (m n b d e : ℕ) → m < n → d < b → m * b + d < n * b + e
times_less m n b d e lt small =
    let whole : n ≡ m + 1 + (n - m - 1) = omega (arith, lt) in
    let less : m * b + d < (m + 1 + (n - m - 1)) * b = parts m (n - m - 1) in
    subst (λ x. m * b + d < x * b + e) (sym whole) (more ((m + 1 + (n - m - 1)) * b) less)
  where
    parts : (m r : ℕ) → m * b + d < (m + 1 + r) * b
    parts m r = omega (arith, small)

    more : (x : ℕ) → m * b + d < x → m * b + d < x + e
    more x less = omega arith

-- a job that is over isn't counted
drop_over : (jobs : List Progress) (k : ℕ) (job : Progress) → slice_get jobs k ≡ Some job → is_over job ≡ true → under_way (drop k jobs) ≡ under_way (drop (suc k) jobs)
drop_over [] k job e over = cc
drop_over (x ∷ jobs) zero job e over = first x job (same_of e) over
  where
    same_of : {y z : Progress} → ◌≡◌ {A = Option Progress} (Some y) (Some z) → y ≡ z
    same_of e = cc

    none : (b : Bool) → b ≡ true → ◌≡◌ {A = ℕ} (cond (not b) 1 0) 0
    none true e = refl
    none false e = cc

    first : (x job : Progress) → x ≡ job → is_over job ≡ true → under_way (x ∷ jobs) ≡ under_way jobs
    first x job same over = omega (arith, sum_cons (λ j. cond (not (is_over j)) 1 0) x jobs, none (is_over x) (ap is_over same ∙ over))
drop_over (x ∷ jobs) (suc k) job e over = drop_over jobs k job e over

drop_all : (jobs : List Progress) (n : ℕ) → n ≡ length jobs → under_way (drop n jobs) ≡ 0
drop_all [] zero e = refl
drop_all [] (suc n) e = absurd (omega (arith, e))
drop_all (x ∷ jobs) zero e = absurd (omega (arith, e))
drop_all (x ∷ jobs) (suc n) e = drop_all jobs n (omega (arith, e))

pub some_listed : (jobs : List Progress) → 0 < under_way jobs → 0 < length jobs
some_listed jobs some = omega (arith, some, count_by-le-length (λ job. not (is_over job)) jobs)

-- the next step is nearer to a turn, where this one takes none
nearer : (jobs : List Progress) (job : ℕ) → job ≤ length jobs → 0 < under_way jobs → ((k : ℕ) (x : Progress) → job ≡ suc k → slice_get jobs k ≡ Some x → is_over x ≡ true) → steps_to jobs (next_of (length jobs) job) < steps_to jobs job
nearer jobs zero le some over =
    let there : 0 < length jobs = some_listed jobs some in
    let other : (0 == length jobs) ≡ false = different (length jobs) there in
    let going : (under_way (drop 0 jobs) == 0) ≡ false = going_on (under_way (drop 0 jobs)) some in
    subst (λ n. steps_to jobs n < length jobs + 2) (sym (ap (λ b. cond b 0 (0 + 1)) other)) (first going)
  where
    different : (n : ℕ) → 0 < n → (0 == n) ≡ false
    different n lt = grind (arith, nat_tests)

    going_on : (n : ℕ) → 0 < n → (n == 0) ≡ false
    going_on n lt = grind (arith, nat_tests)

    first : (under_way (drop 0 jobs) == 0) ≡ false → (length jobs - 0) + cond (under_way (drop 0 jobs) == 0) (length jobs + 2) 0 < length jobs + 2
    first going = let none : cond (under_way (drop 0 jobs) == 0) (length jobs + 2) 0 ≡ 0 = ap (λ b. cond b (length jobs + 2) 0) going in omega arith
nearer jobs (suc k) le some over = by_end (suc k == length jobs) refl
  where
    same : under_way (drop k jobs) ≡ under_way (drop (suc k) jobs)
    same = let x = get_within jobs k (omega (arith, le)) in drop_over jobs k x.0 x.1 (over k x.0 refl x.1)

    last : suc k ≡ length jobs → length jobs + 2 < (length jobs - k) + cond (under_way (drop k jobs) == 0) (length jobs + 2) 0
    last e =
        let none : under_way (drop k jobs) ≡ 0 = same ∙ drop_all jobs (suc k) e in
        let whole : cond (under_way (drop k jobs) == 0) (length jobs + 2) 0 ≡ length jobs + 2 = ap (λ n. cond (n == 0) (length jobs + 2) 0) none ∙ ap (λ b. cond b (length jobs + 2) 0) (self_eq 0) in
        omega (arith, e)

    on : (length jobs - suc k) + cond (under_way (drop (suc k) jobs) == 0) (length jobs + 2) 0 < (length jobs - k) + cond (under_way (drop k jobs) == 0) (length jobs + 2) 0
    on =
        let equal : cond (under_way (drop k jobs) == 0) (length jobs + 2) 0 ≡ cond (under_way (drop (suc k) jobs) == 0) (length jobs + 2) 0 = ap (λ n. cond (n == 0) (length jobs + 2) 0) same in
        omega (arith, le)

    one_more : (k : ℕ) → suc k + 1 ≡ suc (suc k)
    one_more k = omega arith

    by_end : (b : Bool) → (suc k == length jobs) ≡ b → steps_to jobs (cond (suc k == length jobs) 0 (suc k + 1)) < steps_to jobs (suc k)
    by_end true e = subst (λ n. steps_to jobs n < steps_to jobs (suc k)) (sym (ap (λ b. cond b 0 (suc k + 1)) e)) (last (eq_of (suc k) (length jobs) e))
    by_end false e = subst (λ n. steps_to jobs n < steps_to jobs (suc k)) (sym (ap (λ b. cond b 0 (suc k + 1)) e ∙ one_more k)) on

-- EACH STEP OF THE ROTATION LOWERS THE MEASURE
pub falls : (jobs next : List Progress) (job : ℕ) → job ≤ length jobs → 0 < under_way jobs → Goes jobs job next → measure next (next_of (length jobs) job) < measure jobs job
falls jobs next job le some goes = by_job job refl
  where
    passed : ((job ≡ 0) ⊎ ((k : ℕ) (x : Progress) → job ≡ suc k → slice_get jobs k ≡ Some x → is_over x ≡ true)) → ((k : ℕ) (x : Progress) → job ≡ suc k → slice_get jobs k ≡ Some x → is_over x ≡ true)
        → measure next (next_of (length jobs) job) < measure jobs job
    passed is over = subst (λ js. measure js (next_of (length jobs) job) < measure jobs job) (sym (goes.passed is)) (omega (arith, nearer jobs job le some over))

    took : (k : ℕ) (x : Progress) → job ≡ suc k → slice_get jobs k ≡ Some x → is_over x ≡ false → measure next (next_of (length jobs) job) < measure jobs job
    took k x e f g =
        let small : steps_to next (next_of (length jobs) job) < 2 * length jobs + 6 = subst (λ n. steps_to next (next_of (length jobs) job) < 2 * n + 6) goes.count (steps_few next (next_of (length jobs) job)) in
        subst (λ n. sum_by turns_left next * (2 * n + 6) + steps_to next (next_of (length jobs) job) < measure jobs job) (sym goes.count)
        (times_less (sum_by turns_left next) (sum_by turns_left jobs) (2 * length jobs + 6) (steps_to next (next_of (length jobs) job)) (steps_to jobs job) (goes.took k x e f g) small)

    by_job : (n : ℕ) → job ≡ n → measure next (next_of (length jobs) job) < measure jobs job
    by_job zero e = passed (inl e) (λ k x f g. absurd (omega (arith, e, f)))
    by_job (suc k) e =
        let x = get_within jobs k (omega (arith, e, le)) in
        elim (is_over x.0) as (λ b. is_over x.0 ≡ b → measure next (next_of (length jobs) job) < measure jobs job) [
          | true ↦ λ over.
              let all : (i : ℕ) (y : Progress) → job ≡ suc i → slice_get jobs i ≡ Some y → is_over y ≡ true = λ i y f g.
              let same : k ≡ i = omega (arith, e, f) in let one : x.0 ≡ y = some_same (sym x.1 ∙ ap (slice_get jobs) same ∙ g) in sym (ap is_over one) ∙ over in
              passed (inr all) all
          | false ↦ λ going. took k x.0 e x.1 going
        ] refl
      where
        some_same : {x y : Progress} → ◌≡◌ {A = Option Progress} (Some x) (Some y) → x ≡ y
        some_same e = cc

-- ---- the rotation, and what is left

-- behind the last job comes the service, and else the next job
pub rotates_on : (scripts m job : ℕ) → job ≡ rotated scripts m → next_of scripts job ≡ rotated scripts (suc m)
rotates_on scripts m job e = ap (next_of scripts) e

pub next_zero : (count job : ℕ) → job ≡ count → next_of count job ≡ 0
next_zero count job e = ap (λ b. cond b 0 (job + 1)) (ap (λ n. n == count) e ∙ self_eq count)

pub next_one : (count job : ℕ) → (job ≡ count → ⊥) → next_of count job ≡ job + 1
next_one count job other = ap (λ b. cond b 0 (job + 1)) (ne_eqb job count other)

-- how many jobs are left is counted
pub left_after : (ended : Bool) (left now u v : ℕ) → left ≡ u → v + cond ended 1 0 ≡ u → (ended ≡ true → now ≡ left - 1) → (ended ≡ false → now ≡ left) → now ≡ v
left_after true left now u v e f when other = omega (arith, e, f, when refl)
left_after false left now u v e f when other = omega (arith, e, f, other refl)
