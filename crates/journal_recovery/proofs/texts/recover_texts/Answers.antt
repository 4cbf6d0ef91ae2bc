use Rattle.std.proofs.Common.{◌∙◌, ◌++◌, ap, refl}
use Rattle.run_model.specs.Texts.{journal_text}
use Rattle.journal_file.specs.Recovering.{opened_of}
use Rattle.journal_recovery.proofs.TextLemmas.{tells_of}
use Rattle.journal_recovery.proofs.texts.recover_texts.Goals as goal

pub returns-clause-texts : goal.returns-clause-texts
returns-clause-texts g c = λ tells. (
  opened_of c.in_ok-kind.field-0,
  c.in_ok-kind.ensures.opened tells,
  tells_of c.in_ok-kind.field-0 c.in_ok-kind.field-0.kind c.in_ok-kind.field-0.journal c.as_slice.result.now c.len.result c.in_ok-counts.counts _ refl refl
      c.as_slice.ensures c.len.ensures c.in_ok-counts.ensures (c.in_ok-write_journal.ensures.ok ∙ ap (λ t. t ++ journal_text c.in_ok-kind.field-0.journal) c.new-text.ensures) c.in_ok-summary.ensures,
)
