use Rattle.std.proofs.Common.{rules, ◌≡◌, ◌-◌, ◌∙◌, sym, ap, arith, length, get_or}
use Rattle.command_words.specs.Words.{report_name}
use Rattle.command_words.proofs.NameLemmas.{report_at}
use Rattle.command_words.proofs.command.RunWords.script_or_report.Goals as goal

pub returns-else-place-count : goal.returns-else-place-count
returns-else-place-count c =
    let names = c.args.self.now.scripts.items in
    let name = c.index-else-place-count.result.now in
    let at : name ≡ get_or names (c.args.place - length names) name = search rules in
    ap (λ (found : _). report_name found.now) at ∙ sym (report_at (λ found. found.now) names c.args.place name (omega arith) (omega arith))
