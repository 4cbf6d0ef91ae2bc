use Rattle.std.proofs.Common.{rules, ◌≡◌, ◌∙◌, sym, ap, map, option_map, codes, Some}
use Rattle.clap.specs.Words.{found_of}
use Rattle.clap.proofs.WalkLemmas.{raw_values-rows}
use Rattle.command_words.proofs.WordLemmas.{none_found}
use Rattle.command_words.proofs.words.scripts_in.Goals as goal

pub returns-in_default-clause-refused : goal.returns-in_default-clause-refused
returns-in_default-clause-refused c = λ given.
    none_found _ c.get_raw.result given.0 c.in_default.is (c.get_raw.ensures ∙ raw_values-rows (found_of c.args.found.now) (codes "script") ∙ given.1)

pub returns-clause-given : goal.returns-clause-given
returns-clause-given c =
    let copied : c.extend_from_slice.new.self.items ≡ c.in-Some.names.now = search rules in
    sym (raw_values-rows (found_of c.args.found.now) (codes "script")) ∙ sym c.get_raw.ensures
    ∙ ap (option_map (λ s. map (λ v. v.now) s.now)) c.in-Some.is ∙ ap (λ names. Some (map (λ v. v.now) names)) (sym copied)
