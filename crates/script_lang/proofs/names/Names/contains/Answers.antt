use Rattle.std.proofs.Common.{ap, ◌∙◌}
use Rattle.script_lang.specs.FieldFaults.{is_among}
use Rattle.script_lang.proofs.PlaceLemmas.{among_iff, known_place}
use Rattle.script_lang.proofs.names.Names.contains.Goals as goal

pub returns : goal.returns
returns c = among_iff c.args.self.now c.args.bytes.now c.contains_key.result (c.contains_key.ensures ∙ known_place c.self.inside.places c.self.inside.names.items c.args.bytes.now c.self.invariant ∙ ap (λ names. is_among names c.args.bytes.now) c.self.view_is)
