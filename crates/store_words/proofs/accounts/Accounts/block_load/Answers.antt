use Rattle.std.proofs.Common.{sym}
use Rattle.rule_model.specs.Steps.{Nothing}
use Rattle.store_words.specs.Reads.{word_read}
use Rattle.store_words.proofs.ReadLemmas.{reads_word}
use Rattle.store_words.proofs.StepLemmas.{at_place}
use Rattle.store_words.proofs.accounts.Accounts.block_load.Goals as goal

pub load_as-requires-clause-may : goal.load_as-requires-clause-may
load_as-requires-clause-may c heap =
    let z = c.args.self.now.config in
    let seat = c.args.seat.now in
    at_place z heap seat.table_id.slots seat.id seat.me _ _ (sym c.place_in-place.ensures.place)
    (λ n. word_read seat.me.0 c.args.word n) Nothing
    (reads_word z heap seat.table_id.slots seat.id seat.me c.args.block.cell c.requires.reading c.args.word
    c.requires.word.0 c.requires.word.1)
