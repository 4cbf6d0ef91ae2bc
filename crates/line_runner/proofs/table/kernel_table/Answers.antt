use Rattle.std.proofs.Common.{◌≡◌, ◌∙◌, length, ap, sym, subst}
use Rattle.std.proofs.lemmas.List.{length-map}
use Rattle.run_model.specs.declared.answer.Answer.TheVariants as answers
use Rattle.run_model.specs.Answering.{kernel_answer, IsKernelTable}
use Rattle.line_runner.proofs.TableLemmas.{labels_of_kind}
use Rattle.line_runner.proofs.table.kernel_table.Goals as goal

pub returns-in_ok-run-in-Wcc-clause-table : goal.returns-in_ok-run-in-Wcc-clause-table
returns-in_ok-run-in-Wcc-clause-table g c = λ graph are.
    let table = c.in_ok-run-in-Wcc.field-0 in
    let wcc = c.in_ok-run-in-Wcc.ensures graph are.shows in
    subst (λ k. (kernel_answer graph k ≡ answers.Table (length table)) × IsKernelTable c.args.kind graph k table) (sym c.in-Wcc.is)
    (ap answers.Table (sym (ap length wcc.vertices) ∙ length-map table _), wcc)

pub returns-in_ok-run-in-Cdlp-clause-table : goal.returns-in_ok-run-in-Cdlp-clause-table
returns-in_ok-run-in-Cdlp-clause-table g c = λ graph are.
    let table = c.in_ok-run-in-Cdlp.field-0 in
    let image = are.shows in
    subst (λ k. (kernel_answer graph k ≡ answers.Table (length table)) × IsKernelTable c.args.kind graph k table) (sym c.in-Cdlp.is)
    (labels_of_kind c.args.kind graph c.in-Cdlp.rounds table are.symmetric (c.in_ok-run-in-Cdlp.ensures.directed graph image) (c.in_ok-run-in-Cdlp.ensures.undirected graph image))
