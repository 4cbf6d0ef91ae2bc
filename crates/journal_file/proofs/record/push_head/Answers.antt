use Rattle.std.proofs.Common.{◌++◌, ◌∙◌, ap}
use Rattle.journal_file.specs.Format.{word, half}
use Rattle.journal_file.proofs.ByteLemmas.{five}
use Rattle.journal_file.proofs.record.push_head.Goals as goal

pub returns-clause-bytes : goal.returns-clause-bytes
returns-clause-bytes c =
    let commit = c.args.commit.now in
    c.in_ok-push_word-3.ensures
    ∙ ap (λ x. x ++ word c.len.result) (c.in_ok-push_half-2.ensures
    ∙ ap (λ x. x ++ half commit.by.number) (c.in_ok-push_half.ensures
    ∙ ap (λ x. x ++ half commit.by.job) (c.in_ok-push_word-2.ensures
    ∙ ap (λ x. x ++ word commit.start) c.in_ok-push_word.ensures)))
    ∙ five c.args.bytes.now.items (word commit.stamp) (word commit.start) (half commit.by.job) (half commit.by.number) (word c.len.result)
    ∙ ap (λ n. c.args.bytes.now.items ++ (word commit.stamp ++ word commit.start ++ half commit.by.job ++ half commit.by.number ++ word n)) c.len.ensures
