use Rattle.std.proofs.Common.{ℕ, ◌<◌, List, get_or}
use Rattle.std.specs.Prelude.{◌≢◌}
use Rattle.command_words.specs.Words.{taken_names}
use Rattle.command_words.specs.Views.{run_request}
use Rattle.command_words.proofs.command.RunWords.has_distinct_names.Given as goal

-- the names before the first of the pair differ from all behind them
abbrev pub invariant-firsts : goal.invariant-firsts
invariant-firsts l = (a b : ℕ) (d : List ℕ) → a < l.i → a < b → b < l.count
    → get_or (taken_names (run_request l.self)) a d ≢ get_or (taken_names (run_request l.self)) b d

abbrev pub invariant-seconds : goal.invariant-seconds
invariant-seconds l = (b : ℕ) (d : List ℕ) → l.i < b → b < l.j
    → get_or (taken_names (run_request l.self)) l.i d ≢ get_or (taken_names (run_request l.self)) b d
