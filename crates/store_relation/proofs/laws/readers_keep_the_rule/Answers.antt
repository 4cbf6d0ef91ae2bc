use Rattle.store_relation.proofs.ReaderLemmas.{reader_is_split, reader_is_joined, readers_stay, only_open_lends}
use Rattle.store_relation.proofs.laws.readers_keep_the_rule.Goals as goal

pub returns-clause-split : goal.returns-clause-split
returns-clause-split c = λ z word pass j rows clock s. reader_is_split s

pub returns-clause-join : goal.returns-clause-join
returns-clause-join c = λ z word pass j rows clock s. reader_is_joined s

pub returns-clause-others : goal.returns-clause-others
returns-clause-others c = λ z word pass j rows clock s. readers_stay s

pub returns-clause-none : goal.returns-clause-none
returns-clause-none c = λ z word pass j rows clock s. only_open_lends s
