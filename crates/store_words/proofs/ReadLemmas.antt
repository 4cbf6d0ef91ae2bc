-- Loads of a read, by whatever read is under way.
use Rattle.std.proofs.Common.{◌≡◌, ℕ, ◌<◌, ◌≤◌, sym, ◌∙◌, ap, subst}
use Rattle.std.specs.Prelude.{slice_index}
use Rattle.seat_views.proofs.NumberLemmas.{some_is}
use Rattle.rule_model.specs.BlockSteps.{GiveView}
use Rattle.rule_model.specs.StoreRelation.Passes.{name_at}
use Rattle.std.specs.declared.alloc.Global.{Global}
use Rattle.txn_manager.specs.declared.config.Config.{Config}
use Rattle.rule_model.specs.CellsModel.Reads.{Reading, IsValidated}
use Rattle.rule_model.specs.CellsModel.Words.{block_words}
use Rattle.rule_model.specs.Places.{block_place, lines}
use Rattle.rule_model.specs.Steps.{AllowsLoad, Nothing}
use Rattle.rule_model.proofs.BlockStepLemmas.{read_ends, reader_read_ends, word_is_read}
use Rattle.rule_model.proofs.FrameLemmas.{M}
use Rattle.store_words.specs.Reads.{HasOpenPass, HasReader, IsReadOf, PassIsTold, ReaderIsTold, read_ended, reading_ended, reading_on, word_read}

module _ (z : Config) (heap : Global) (slots id : ℕ) (me : M) (cell : ℕ) (reading : IsReadOf me.0 cell) where
  -- the place is one of the cell that is read
  here : (word : ℕ) → block_place (lines z.passes) (reading.0).cell word ≡ block_place (lines z.passes) cell word
  here word = ap (λ k. block_place (lines z.passes) k word) reading.2

  pub reads_word : (word : ℕ) → 1 ≤ word → word < block_words
      → AllowsLoad z (lines z.passes) heap slots id me (block_place (lines z.passes) cell word)
      (λ n. word_read me.0 word n) Nothing
  reads_word word least less =
      subst (λ p. AllowsLoad z (lines z.passes) heap slots id me p (λ n. word_read me.0 word n) Nothing) (here word)
      (λ s r homes at small.
      let x = word_is_read z (lines z.passes) heap slots id me reading.0 word reading.1 least less s r homes at small
      in (
        x.0,
        x.1,
        x.2,
        x.3,
        (
          x.4.0 ∙ (λ t. (
            reading_on me.0 (sym reading.1 t) word
                (slice_index s.words (block_place (lines z.passes) (reading.0).cell word)),
            me.1,
          )),
          tt,
        ),
      ))

  pub ends_read : HasOpenPass me.0
      → AllowsLoad z (lines z.passes) heap slots id me (block_place (lines z.passes) cell 0)
      (λ n. read_ended me.0 n) (λ n. PassIsTold z me.0 n)
  ends_read pass =
      let at = lines z.passes in
      let q = reading.0 in
      subst (λ place. AllowsLoad z at heap slots id me place (λ n. read_ended me.0 n) (λ n. PassIsTold z me.0 n))
      (here 0) (λ s r homes seat small.
      let x = read_ends z at heap slots id me pass.0 pass.1 q pass.2 pass.3 reading.1 s r homes seat small in (
        x.0,
        x.1,
        x.2,
        x.3,
        (
          x.4.0 ∙ (λ t. (
            reading_ended me.0 (sym reading.1 t)
                (slice_index s.words (block_place at q.cell 0)),
            me.1,
          )),
          λ p st other has stage is. subst
              (λ (o : Reading). slice_index s.words (block_place at q.cell 0) ≡ o.first
              → IsValidated (GiveView z st.seen st.start st.own (name_at p st)) o)
              (some_is q other (sym reading.1 ∙ is))
              (read_ends z at heap slots id me p st q has stage reading.1 s r homes seat small).4.1,
        ),
      ))

  pub ends_reader : HasReader me.0
      → AllowsLoad z (lines z.passes) heap slots id me (block_place (lines z.passes) cell 0)
      (λ n. read_ended me.0 n) (λ n. ReaderIsTold z me.0 n)
  ends_reader reader =
      let at = lines z.passes in
      let q = reading.0 in
      subst (λ place. AllowsLoad z at heap slots id me place (λ n. read_ended me.0 n) (λ n. ReaderIsTold z me.0 n))
      (here 0) (λ s r homes seat small.
      let x = reader_read_ends z at heap slots id me reader.0 q reader.1 reading.1 s r homes seat small in (
        x.0,
        x.1,
        x.2,
        x.3,
        (
          x.4.0 ∙ (λ t. (
            reading_ended me.0 (sym reading.1 t)
                (slice_index s.words (block_place at q.cell 0)),
            me.1,
          )),
          λ y other has is. subst
              (λ (o : Reading). slice_index s.words (block_place at q.cell 0) ≡ o.first
              → IsValidated (GiveView z y.seen y.start y.own y.by) o)
              (some_is q other (sym reading.1 ∙ is))
              (reader_read_ends z at heap slots id me y q has reading.1 s r homes seat small).4.1,
        ),
      ))
