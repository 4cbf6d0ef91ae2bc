-- What goes with a journal file.
use Rattle.std.proofs.Common.{◌≡◌, ℕ, List, refl, subst, ap, ◌∙◌}
use Rattle.std.specs.Prelude.{Bool, true, false, not, ◌&&◌, cond, is_some, Option, None, Some}
use Rattle.command_words.specs.Words.{RunRequest, goes_together}
use Rattle.kept_run.specs.SourceRun.Requests.{IsAsked}

apart : (threads schedule serial : Bool) → cond threads (not schedule && (not serial && not true)) (not (serial && true)) ≡ true → serial ≡ false
apart false schedule false e = refl
apart false schedule true e = cc
apart true false false e = cc
apart true false true e = cc
apart true true serial e = cc

no_threads : (threads : Option ℕ) (schedule serial : Bool) → cond (is_some threads) (not schedule && (not serial && not true)) (not (serial && true)) ≡ true → threads ≡ None
no_threads None schedule serial e = refl
no_threads (Some n) false false e = cc
no_threads (Some n) false true e = cc
no_threads (Some n) true serial e = cc

-- a run whose commits are kept goes by turns
pub kept_by_turns : (request : RunRequest) → IsAsked request → (name : List ℕ) → request.keep ≡ Some name → request.threads ≡ None
kept_by_turns request (words, taken) name is =
    no_threads request.threads (is_some request.schedule) request.is_serial
    (subst (λ keep. cond (is_some request.threads) (not (is_some request.schedule) && (not request.is_serial && not (is_some keep))) (not (request.is_serial && is_some keep)) ≡ true) is taken.given.1.together)

-- and refuses no commit
pub kept_plainly : (request : RunRequest) → IsAsked request → (name : List ℕ) → request.keep ≡ Some name → request.is_serial ≡ false
kept_plainly request (words, taken) name is =
    apart (is_some request.threads) (is_some request.schedule) request.is_serial
    (subst (λ keep. cond (is_some request.threads) (not (is_some request.schedule) && (not request.is_serial && not (is_some keep))) (not (request.is_serial && is_some keep)) ≡ true) is taken.given.1.together)
