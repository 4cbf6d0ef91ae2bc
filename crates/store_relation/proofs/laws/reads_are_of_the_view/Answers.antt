use Rattle.store_relation.proofs.ReadLemmas.{reads_right}
use Rattle.store_relation.proofs.ReaderLemmas.{reader_reads}
use Rattle.store_relation.proofs.LearnLemmas.{learns, reader_learns}
use Rattle.store_relation.proofs.laws.reads_are_of_the_view.Goals as goal

pub returns-clause-read : goal.returns-clause-read
returns-clause-read c = λ z word pass j rows clock s. reads_right s

pub returns-clause-reader : goal.returns-clause-reader
returns-clause-reader c = λ z word pass j rows clock s. reader_reads s

pub returns-clause-learn : goal.returns-clause-learn
returns-clause-learn c = λ z word pass j rows clock s. learns s

pub returns-clause-reader_learns : goal.returns-clause-reader_learns
returns-clause-reader_learns c = λ z word pass j rows clock s. reader_learns s
