-- The texts of what was read.
use Rattle.std.proofs.Common.{◌≡◌, ℕ, List, length, ◌∙◌, ap}
use Rattle.graph_model.specs.declared.write.Kind.{Kind}
use Rattle.graph_model.specs.declared.journal.Commit.{Commit}
use Rattle.run_model.specs.Texts.{journal_text}
use Rattle.journal_file.specs.declared.recovery.Recovered.{Recovered}
use Rattle.journal_file.specs.Recovering.{opened_of}
use Rattle.plain_graph.specs.declared.counts.GraphCounts.{GraphCounts}
use Rattle.plain_graph.specs.Counting.{counts_of}
use Rattle.journal_recovery.specs.declared.texts.RecoveredTexts.{RecoveredTexts}
use Rattle.journal_recovery.specs.Texts.{recovered_line, Tells}

pub tells_of : (r : Recovered) (kind : Kind) (journal lent : List Commit) (commits : ℕ) (counts : GraphCounts) (texts : RecoveredTexts) → kind ≡ r.kind → journal ≡ r.journal
    → lent ≡ journal → commits ≡ length journal → counts ≡ counts_of kind lent → texts.journal ≡ journal_text journal → texts.summary ≡ recovered_line commits counts → Tells (opened_of r) texts
tells_of r kind journal lent commits counts texts kind_is journal_is same few counted text summary = record {
  journal = text ∙ ap journal_text journal_is;
  summary = summary ∙ (λ i. recovered_line ((few ∙ ap length journal_is) i) ((counted ∙ (λ j. counts_of (kind_is j) ((same ∙ journal_is) j))) i));
}
