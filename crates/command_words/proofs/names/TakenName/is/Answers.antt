use Rattle.std.proofs.Common.{◌≡◌, sym, ◌∙◌, ap}
use Rattle.std.specs.Prelude.{codes}
use Rattle.command_words.specs.Words.{report_name}
use Rattle.command_words.specs.Views.{taken_name}
use Rattle.std.proofs.lemmas.List.{append_cancel_right}
use Rattle.command_words.proofs.names.TakenName.is.Goals as goal

pub returns-in-ReportOf-ReportOf : goal.returns-in-ReportOf-ReportOf
returns-in-ReportOf-ReportOf c =
    let here : taken_name c.args.self ≡ report_name c.in-ReportOf-ReportOf.a.now = ap taken_name c.in-ReportOf-ReportOf.is-0 in
    let there : taken_name c.args.other ≡ report_name c.in-ReportOf-ReportOf.b.now = ap taken_name c.in-ReportOf-ReportOf.is-1 in (
      λ yes. here ∙ ap report_name (c.are_one-in-ReportOf-ReportOf.ensures.0 yes) ∙ sym there,
      λ same. c.are_one-in-ReportOf-ReportOf.ensures.1
          (append_cancel_right c.in-ReportOf-ReportOf.a.now c.in-ReportOf-ReportOf.b.now (codes ".report") (sym here ∙ same ∙ there)),
    )
