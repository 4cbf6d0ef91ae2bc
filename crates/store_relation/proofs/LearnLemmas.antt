-- What one load of the clock, or of a writer's word, tells a pass of rows that it holds.
use Rattle.std.proofs.Common.{◌≡◌, ℕ, zero, suc, ◌+◌, ◌-◌, ◌<◌, ◌≤◌, List, [], ◌∷◌, length, map, refl, sym, ◌∙◌, ap, subst, arith, inl, inr}
use Rattle.std.specs.Prelude.{true, false, IfSome, Some, None, slice_get}
use Rattle.std.proofs.lemmas.Bool.{or_left, or_right}
use Rattle.graph_model.specs.declared.write.Write.{Write}
use Rattle.graph_model.specs.declared.row.Key.{Key}
use Rattle.graph_model.specs.declared.journal.Commit.{Commit}
use Rattle.graph_model.specs.declared.journal.TxnName.{TxnName}
use Rattle.graph_model.specs.Conflict.{same_name}
use Rattle.graph_model.specs.Transactions.{stamp_in, reached, has_name}
use Rattle.graph_model.proofs.HistoryLemmas.{each_item}
use Rattle.graph_model.proofs.PlaceLemmas.{some_eq}
use Rattle.graph_model.proofs.TestLemmas.{name_self}
use Rattle.txn_manager.specs.declared.config.Config.{Config}
use Rattle.store_model.specs.Check.{looked}
use Rattle.store_model.proofs.StampPlaceLemmas.{stamp_place}
use Rattle.store_model.specs.Stamped.{Stamped, StampedVersions, forget, forget_row}
use Rattle.undo_chain.specs.States.{IsAnswer}
use Rattle.store_relation.specs.declared.stage.Stage.TheVariants.{Open}
use Rattle.store_relation.specs.Passes.{PassState}
use Rattle.store_relation.specs.ReadLaws.{Learns, Tells}
use Rattle.store_relation.specs.Readers.{IsReader, ReaderState, reader_of}
use Rattle.store_relation.specs.Rows.{HasRecord}
use Rattle.store_relation.specs.Shared.{IsLook, IsMet, IsShared, IsSpokenFor, JournalState}
use Rattle.store_relation.specs.Words.{Look, state_of_word}
use Rattle.store_relation.proofs.ListLemmas.{prefix_length}
use Rattle.store_relation.proofs.ReadLemmas.{seen_reached}
use Rattle.store_relation.proofs.ReaderLemmas.{reader_reads}
use Rattle.store_relation.proofs.SpokenLemmas.{StandsIn}
use Rattle.store_relation.proofs.WordLemmas.{word_known, word_answers, bare_latest, bare_word, bare_inside, bare_other}
use Rattle.store_relation.proofs.MeetLemmas.{meets_entry}

-- the writer of a record in a list stands there
writer_in : (xs : List Stamped) (i : ℕ) (x : Stamped) → slice_get xs i ≡ Some x
    → has_name (map (λ p. p.by) (map forget xs)) x.by ≡ true
writer_in [] i x at = cc
writer_in (y ∷ xs) zero x at =
    let same : y ≡ x = some_eq y x at in
    or_left _ _ (ap (λ (u : Stamped). same_name x.by u.by) same ∙ name_self x.by)
writer_in (y ∷ xs) (suc i) x at = or_right (same_name x.by y.by) _ (writer_in xs i x at)

toucher_in : (xs : List Stamped) (i : ℕ) (x : Stamped) → slice_get xs i ≡ Some x
    → has_name (map (λ (p : Stamped). p.by) xs) x.by ≡ true
toucher_in [] i x at = cc
toucher_in (y ∷ xs) zero x at =
    let same : y ≡ x = some_eq y x at in
    or_left _ _ (ap (λ (u : Stamped). same_name x.by u.by) same ∙ name_self x.by)
toucher_in (y ∷ xs) (suc i) x at = or_right (same_name x.by y.by) _ (toucher_in xs i x at)

pub record_stands : (r : StampedVersions) (x : Stamped) → HasRecord r x → StandsIn r x.by
record_stands r x (inl at) = inl (writer_in r.pairs at.0 x at.1)
record_stands r x (inr at) = inr (toucher_in r.touches at.0 x at.1)

module _ {z : Config} {word : ℕ → ℕ} {pass : ℕ → PassState} {j : JournalState} {rows : Key → StampedVersions}
    {clock : ℕ} (s : IsShared z word pass j rows clock) where
  pub record_spoken : (k : Key) (x : Stamped) → HasRecord (rows k) x → IsSpokenFor pass k x
  record_spoken k x (inl at) = each_item (IsSpokenFor pass k) (rows k).pairs (s.spoken k).pairs at.0 x at.1
  record_spoken k x (inr at) = each_item (IsSpokenFor pass k) (rows k).touches (s.spoken k).touches at.0 x at.1

  -- a stamp in a record is that of its writer's commit
  pub record_stamp : (k : Key) (x : Stamped) → HasRecord (rows k) x → (c : ℕ) → x.stamp ≡ Some c
      → stamp_in j.commits x.by ≡ Some c
  record_stamp k x there c e = by_place there
    where
      right : IfSome x.stamp (λ d. stamp_in j.commits x.by ≡ Some d) → stamp_in j.commits x.by ≡ Some c
      right h = subst (λ o. IfSome o (λ d. stamp_in j.commits x.by ≡ Some d)) e h

      by_place : HasRecord (rows k) x → stamp_in j.commits x.by ≡ Some c
      by_place (inl at) = right (each_item _ (rows k).pairs (s.stamps k).pairs at.0 x at.1)
      by_place (inr at) = right (each_item _ (rows k).touches (s.stamps k).touches at.0 x at.1)

  -- LEARN: a reader, of all rows that are held
  pub reader_learns : (x : ReaderState) → IsReader pass j.commits x → Learns z word pass j rows clock s x
  reader_learns x is = record {
    reads = reader_reads s x is;
    writers = λ k r there bare. bare_inside s k r bare (record_spoken k r there)
        (record_stands (rows k) r there);
    others = λ k r there bare away same.
        bare_other s k r bare (record_spoken k r there) (record_stands (rows k) r there) x.by.job
        (ap (same_name r.by) (sym is.by) ∙ away) same;
    stamps = λ k r there c e.
        sym (seen_reached s x.seen x.start is.seen is.started r.by)
        ∙ ap (λ o. reached o x.start) (record_stamp k r there c e);
    published =
        let a : length x.seen ≤ length j.commits = prefix_length x.seen j.commits is.seen in
        let b : clock ≡ length j.commits = s.published in
        omega (arith, a, b);
  }

  -- an open transaction is a reader of itself
  pub learns : (p : ℕ) → (pass p).stage ≡ Open → Learns z word pass j rows clock s (reader_of pass p)
  learns p is = reader_learns (reader_of pass p) (record {
    stage = is;
    by = refl;
    start = refl;
    own = refl;
    seen = (s.each p).seen;
    started = (s.each p).started;
  })

  -- STAMP: it is of the commit before it, which is published
  pub stamp_is_place : (by : TxnName) (stamp : ℕ) → stamp_in j.commits by ≡ Some stamp
      → (i : ℕ) × (c : Commit) × (slice_get j.commits i ≡ Some c) × (c.by ≡ by) × (stamp ≡ i + 1)
      × (stamp ≤ clock)
  stamp_is_place by stamp e =
      let r = stamp_place z.kind j.commits s.store.transactions.legal by stamp e in
      let within : stamp ≤ length j.commits = r.5 in
      let clocked : clock ≡ length j.commits = s.published in
      (r.0, r.1, r.2, r.3, r.4, omega (arith, within, clocked))

  -- LOOK: at the writer of a record without a stamp
  pub tells : (k : Key) (x : Stamped) → HasRecord (rows k) x → x.stamp ≡ None
      → Tells z word pass j rows clock s k x
  tells k x there bare =
      let spoken = record_spoken k x there in
      let stands_there = record_stands (rows k) x there in
      let latest = bare_latest s k x bare spoken stands_there in
      record {
        latest = latest;
        inside = bare_inside s k x bare spoken stands_there;
        open_or_stamped = bare_word s k x bare spoken stands_there;
        answers = λ seen front names vouched.
            subst
            (λ by. IsAnswer
            (record { known = length seen; stamps = stamp_in seen; names = names; vouched = vouched }) by
            (state_of_word (word x.by.job))) (sym latest)
            (word_answers s x.by.job (word x.by.job) seen names vouched refl front);
        look = λ until within.
            subst (λ by. IsLook j (record { by = by; word = word x.by.job; until = until })) (sym latest)
            (word_known s x.by.job (word x.by.job) until refl within);
      }

  -- MET, by a look that was kept
  pub meets_look : (w : Write) (l : Look) → IsLook j l → 2 < l.word
      → has_name (looked w (λ k. forget_row (rows k))) l.by ≡ true
      → IsMet z.kind j (record { write = w; place = l.word - 3 })
  meets_look w l is up h =
      let e = is.entry up in
      meets_entry s w (l.word - 3) e.0 e.1 (ap (has_name (looked w (λ k. forget_row (rows k)))) e.2 ∙ h)
