use Rattle.std.proofs.Common.{◌≡◌, ◌∙◌, sym, ap, map, true}
use Rattle.std.specs.String.{string_bytes}
use Rattle.clap.specs.Words.{App, fault_of, is_simple, is_simple_and_free, subcommand_of, takes}
use Rattle.command_words.specs.App.{teseo_app}
use Rattle.command_words.proofs.AppLemmas.{teseo_is_simple, teseo_is_free, teseo_takes}
use Rattle.command_words.proofs.TakesLaw.{is_none}
use Rattle.command_words.proofs.WordLemmas.{gone_up, refuses_taken}
use Rattle.command_words.proofs.words.parse_words.Goals as goal

pub returns-in_err-try_get_matches_from-clause-refused : goal.returns-in_err-try_get_matches_from-clause-refused
returns-in_err-try_get_matches_from-clause-refused c =
    let words = map string_bytes c.args.words.now in
    let error = c.in_err-try_get_matches_from.field-0.0 in
    gone_up c.from_residual-in_err-try_get_matches_from.result _ _ c.from_residual-in_err-try_get_matches_from.ensures.1
    (λ refusal. refuses_taken (takes teseo_app words ≡ true) error refusal
    (λ taken. c.in_err-try_get_matches_from.ensures.passes (ap (λ (app : App). takes app words) c.in_ok-command.ensures ∙ taken)))

pub returns-clause-found : goal.returns-clause-found
returns-clause-found c =
    let words = map string_bytes c.args.words.now in
    record {
      by_clap = sym (teseo_takes words) ∙ ap (λ (app : App). is_none (fault_of app words)) (sym c.in_ok-command.ensures)
          ∙ ap is_none (c.in_ok-try_get_matches_from.ensures.kinds (ap is_simple_and_free c.in_ok-command.ensures ∙ teseo_is_free));
      subcommand = (c.in_ok-try_get_matches_from.ensures.matches (ap is_simple c.in_ok-command.ensures ∙ teseo_is_simple)).1
          ∙ ap (λ (app : App). subcommand_of app words) c.in_ok-command.ensures;
    }
