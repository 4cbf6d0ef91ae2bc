use Rattle.std.proofs.Common.{◌≡◌, ◌∙◌, sym, refl, subst, arith}
use Rattle.std.specs.Prelude.{true, ◌≢◌, AllPairs}
use Rattle.std.proofs.lemmas.List.{length-map}
use Rattle.command_words.specs.Words.{taken_names, goes_together}
use Rattle.command_words.specs.Views.{run_request, rows_in}
use Rattle.command_words.proofs.WordLemmas.{one_run}
use Rattle.command_words.proofs.words.run_words.Goals as goal

pub returns-then-not-has_distinct_names-clause-refused : goal.returns-then-not-has_distinct_names-clause-refused
returns-then-not-has_distinct_names-clause-refused c = λ taken.
    let same = one_run (rows_in c.args.found.now) taken.0 (run_request c.in_ok-words.words) taken.1.given c.in_ok-words.ensures.given in
    let wrong = c.if-not-has_distinct_names.ensures.1 (subst (λ request. AllPairs (λ a b. a ≢ b) (taken_names request)) same taken.1.distinct) in
    cc

pub returns-then-not-goes_together-clause-refused : goal.returns-then-not-goes_together-clause-refused
returns-then-not-goes_together-clause-refused c = λ taken.
    let same = one_run (rows_in c.args.found.now) taken.0 (run_request c.in_ok-words.words) taken.1.given c.in_ok-words.ensures.given in
    let wrong = c.goes_together.ensures ∙ subst (λ request. goes_together request ≡ true) same taken.1.together in
    cc

pub returns-clause-taken : goal.returns-clause-taken
returns-clause-taken c = record {
  given = c.in_ok-words.ensures.given;
  count = omega (arith, length-map c.in_ok-words.words.scripts.items (λ name. name.now));
  together = sym c.goes_together.ensures ∙ c.if-not-goes_together.false;
  distinct = c.if-not-has_distinct_names.ensures.0 refl;
}
