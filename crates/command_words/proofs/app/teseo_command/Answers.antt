use Rattle.std.proofs.Common.{◌≡◌, refl, codes, ap, true, [], ◌∙◌}
use Rattle.std.proofs.lemmas.Result.{IfOk-weaker}
use Rattle.clap.specs.Words.{App, app_of, new_app}
use Rattle.clap.specs.Simple.{app_of_fields, new_shape, on_top}
use Rattle.command_words.specs.App.{teseo_app}
use Rattle.command_words.proofs.AppLemmas.{one_below}
use Rattle.command_words.proofs.app.teseo_command.Goals as goal

abbrev top : App
top = record { top = record (new_shape (codes "teseo")) { no_binary_name = true; disable_help_flag = true; disable_help_subcommand = true; subcommand_required = true }; subs = [] }

pub returns : goal.returns
unfolding teseo_app
returns c =
    let named : app_of c.no_binary_name.result ≡ on_top (λ s. record s { no_binary_name = true }) (new_app (codes "teseo")) =
    ap app_of_fields c.no_binary_name.ensures ∙ ap (on_top (λ s. record s { no_binary_name = true })) c.new.ensures.app in
    let helpless : app_of c.disable_help_flag.result ≡ on_top (λ s. record s { disable_help_flag = true }) (app_of c.no_binary_name.result) =
    ap app_of_fields c.disable_help_flag.ensures in
    let alone : app_of c.disable_help_subcommand.result ≡ on_top (λ s. record s { disable_help_subcommand = true }) (app_of c.disable_help_flag.result) =
    ap app_of_fields c.disable_help_subcommand.ensures in
    let wanted : app_of c.subcommand_required.result ≡ on_top (λ s. record s { subcommand_required = true }) (app_of c.disable_help_subcommand.result) =
    ap app_of_fields c.subcommand_required.ensures in
    let is_top : app_of c.subcommand_required.result ≡ top =
    wanted ∙ ap (on_top (λ s. record s { subcommand_required = true }))
    (alone ∙ ap (on_top (λ s. record s { disable_help_subcommand = true }))
    (helpless ∙ ap (on_top (λ s. record s { disable_help_flag = true })) named)) in
    IfOk-weaker c.subcommand-3.result _ _ (λ command adds.
    one_below _ _ command _ _ adds
    (one_below _ _ _ _ _ c.in_ok-subcommand-2.ensures
    (one_below _ _ _ _ _ c.in_ok-subcommand.ensures is_top c.in_ok-run.ensures refl)
    c.in_ok-make.ensures refl)
    c.in_ok-recover.ensures refl)
    c.subcommand-3.ensures
