use Rattle.std.proofs.Common.{◌≡◌, ◌++◌, sym, subst, ◌∙◌}
use Rattle.std.specs.List.{AllZip}
use Rattle.thread_runner.specs.Driving.{HasRun, some_gave_up}
use Rattle.thread_runner.proofs.ListLemmas.{zip_append, some_append}
use Rattle.thread_runner.proofs.driver.+blocks.Goals as goal

pub run_blocks-returns-clause-ran : goal.run_blocks-returns-clause-ran
run_blocks-returns-clause-ran g t c =
    let both = c.both_parts in
    subst (λ xs. AllZip (HasRun g.E.Engine.account) xs (both.new.front ++ both.new.back)) (sym c.split_at_mut-front.ensures.value)
    (zip_append (HasRun g.E.Engine.account) _ both.new.front _ both.new.back both.ensures.front both.ensures.back)

pub run_blocks-returns-clause-wanted : goal.run_blocks-returns-clause-wanted
run_blocks-returns-clause-wanted g t c =
    let both = c.both_parts in
    subst (λ xs. both.result ≡ some_gave_up xs (both.new.front ++ both.new.back)) (sym c.split_at_mut-front.ensures.value)
    (both.ensures.wanted ∙ sym (some_append (HasRun g.E.Engine.account) _ both.new.front _ both.new.back both.ensures.front))
