-- What a run on several threads leaves of its jobs and their engines.
use Rattle.std.specs.Prelude.{◌≡◌, ℕ, ◌+◌, ◌-◌, ◌*◌, ◌/◌, ◌%◌, ◌<◌, ◌≤◌, min, Bool, true, false, ◌||◌, ◌&&◌, not, List, [], ◌∷◌, length, None}
use Rattle.std.specs.List.{AllByRecursion}
use Rattle.graph_model.specs.Account.{Account}
use Rattle.job_runner.specs.Progress.{Progress, has_given_up, is_over, IsReadyBy}
use Rattle.thread_runner.specs.ByAccount.{RanBy}

-- a job that isn't over and its engine fit each other
abbrev pub IsSeat : {E : Type 0} → (E → Account) → Progress × E → Type 0
IsSeat account x = is_over x.0 ≡ false → IsReadyBy (account x.1) x.0

-- memory was wanted in a turn of this run
abbrev pub gave_up : Progress → Progress → Bool
gave_up job next = not (has_given_up job.phase) && has_given_up next.phase

-- the job took its turns on its own engine, to its end
pub record HasRun {E : Type 0} (account : E → Account) (x y : Progress × E) : Type 0 where
  pub ran : RanBy (account x.1) x.0 y.0 (account y.1)
  pub over : is_over y.0 ≡ true
  -- the engine is still that of its pass
  pub pass : (account y.1).job ≡ (account x.1).job
  -- a job that had lines left has no transaction open then; where memory was wanted it is taken back
  pub closed : is_over x.0 ≡ false → (account y.1).start ≡ None

-- no engine has an open transaction, neither one of the scripts' nor the service's
pub record AreClosed {E : Type 0} (account : E → Account) (seats : List (Progress × E)) (service : E) : Type 0 where
  pub scripts : AllByRecursion (λ x. (account x.1).start ≡ None) seats
  pub service_is : (account service).start ≡ None

-- it was in a turn of some job
abbrev pub some_gave_up : {E : Type 0} → List (Progress × E) → List (Progress × E) → Bool
some_gave_up [] ys = false
some_gave_up (x ∷ xs) [] = false
some_gave_up (x ∷ xs) (y ∷ ys) = gave_up x.0 y.0 || some_gave_up xs ys

-- how many lines the scripts have
abbrev pub lines_of : {E : Type 0} → List (Progress × E) → ℕ
lines_of [] = 0
lines_of (x ∷ xs) = length x.0.commands + lines_of xs

-- how many jobs the first blocks have, of so many blocks of equal length, the first ones longer by one
abbrev pub in_first : ℕ → ℕ → ℕ → ℕ
in_first jobs blocks first = jobs / blocks * first + min (jobs % blocks) first

-- Blocks of a part are blocks of the whole: so halves of halves are cut into blocks of equal length, the first ones
-- longer by one
abbrev pub PartsAreCutAlike : Type 0
PartsAreCutAlike = (jobs first others k : ℕ) → 0 < first → 0 < others
    → (k ≤ first → in_first (in_first jobs (first + others) first) first k ≡ in_first jobs (first + others) k)
    × (k ≤ others → in_first jobs (first + others) first
    + in_first (jobs - in_first jobs (first + others) first) others k
    ≡ in_first jobs (first + others) (first + k))
