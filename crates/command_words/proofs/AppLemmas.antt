-- What the builder's calls make of the command as data.
use Rattle.std.proofs.Common.{◌≡◌, List, ap, ap₂, refl, ◌∙◌, true, false}
use Rattle.clap.specs.Words.{AddsArg, AddsSubcommand, App, Rule, Shape, Text, app_of, built, fault_of, is_simple, is_simple_and_free, rule_of, shape_of, takes, with_rule, with_subcommand}
use Rattle.clap.specs.declared.builder.arg.Arg.{Arg}
use Rattle.clap.specs.declared.builder.command.Command.{Command}
use Rattle.clap.proofs.OnLiterals.{clap_on_literals}
use Rattle.clap.proofs.SimpleLemmas.{plain_fields}
use Rattle.std.specs.List.{list_all}
use Rattle.command_words.proofs.TakesLaw.{is_none, is_open, takes_agrees}
use Rattle.command_words.specs.App.{teseo_app}
use Rattle.command_words.specs.Views.{leaf_app}

-- one more argument is one more rule
pub one_more : (old new : Command) (a : Arg) (app : App) (rule : Rule) → AddsArg old a new → app_of old ≡ app → a.global ≡ false → rule_of a ≡ rule → app_of new ≡ with_rule app rule
one_more old new a app rule adds was local is = adds.shape local ∙ ap₂ with_rule was is

-- one more subcommand that has none of its own
pub one_below : (old sub new : Command) (app : App) (shape : Shape) → AddsSubcommand old sub new → app_of old ≡ app → app_of sub ≡ leaf_app shape → shape.is_plain ≡ true
    → app_of new ≡ with_subcommand app shape
one_below old sub new app shape adds was is plain =
    let same : shape_of sub ≡ shape = ap (λ (a : App). a.top) is in
    adds.shape (plain_fields sub (ap (λ (s : Shape). s.is_plain) same ∙ plain)).globals ∙ ap₂ with_subcommand was same

-- the command is one of which clap says all
pub teseo_is_simple : is_simple teseo_app ≡ true
unfolding clap_on_literals teseo_app
teseo_is_simple = refl

pub teseo_is_free : is_simple_and_free teseo_app ≡ true
unfolding clap_on_literals teseo_app
teseo_is_free = refl

top_is_open : is_open (built teseo_app).top ≡ true
unfolding clap_on_literals teseo_app
top_is_open = refl

subs_are_open : list_all is_open (built teseo_app).subs ≡ true
unfolding clap_on_literals teseo_app
subs_are_open = refl

-- and the words that it takes are those at which no fault comes
pub teseo_takes : (words : List Text) → is_none (fault_of teseo_app words) ≡ takes teseo_app words
teseo_takes words = takes_agrees teseo_app words teseo_is_simple top_is_open subs_are_open
