-- What loads tell of held rows and of writers keeps the rule, and is right.
use Rattle.std.proofs.Common.{◌≡◌, ◌⊎◌, ℕ, zero, suc, ◌-◌, ◌<◌, ◌≤◌, List, [], ◌∷◌, ◌++◌, length, refl, sym, ◌∙◌, ap, subst, cond, arith}
use Rattle.std.specs.Prelude.{true, false, nat_lt, None, slice_get, slice_index}
use Rattle.std.specs.List.{AllByRecursion, flat_map}
use Rattle.std.specs.declared.alloc.Global.{Global}
use Rattle.std.proofs.lemmas.Bool.Decides.{nat_tests}
use Rattle.std.proofs.lemmas.List.Concat.{flat_map-cons}
use mathlib.Core.List.{IsPrefix}
use mathlib.Core.Option.{some, some-injective, some-ne-none}
use lib.ListN.{get_elem?}
use Rattle.atomic_table.specs.Table.{keeps, stepped}
use Rattle.graph_model.specs.declared.journal.Commit.{Commit}
use Rattle.graph_model.specs.declared.row.Key.{Key}
use Rattle.graph_model.specs.declared.write.Write.{Write}
use Rattle.graph_model.specs.Transactions.{has_name, reached, stamp_in}
use Rattle.graph_model.proofs.HistoryLemmas.{each_item}
use Rattle.txn_manager.specs.declared.config.Config.{Config}
use Rattle.store_model.specs.Check.{looked, looks_at}
use Rattle.store_model.specs.Stamped.{Stamped, forget_row, read_stamped}
use Rattle.store_model.proofs.LookedLemmas.{looked_in_row}
use Rattle.store_relation.specs.VersionSegment.Rows.{versions_at}
use Rattle.store_relation.specs.Passes.{Meeting, PassState, name_at}
use Rattle.store_relation.specs.ReadLaws.{Answers}
use Rattle.store_relation.specs.Readers.{IsReader, ReaderState, reader_of}
use Rattle.store_relation.specs.Rows.{HasRecord}
use Rattle.store_relation.specs.Shared.{IsLook, IsMet, IsSighted}
use Rattle.store_relation.specs.Steps.{look_at, meeting, sighting, with_holder, with_look, with_meeting, with_sighting}
use Rattle.store_relation.proofs.LearnLemmas.{meets_look, reader_learns as row_learns, record_stamp, tells}
use Rattle.store_relation.proofs.ListLemmas.{all_end, prefix_length}
use Rattle.store_relation.proofs.MeetLemmas.{meets_stamp, sights}
use Rattle.store_relation.proofs.StepLemmas.{notes}
use Rattle.cells_model.specs.Cells.{CellState}
use Rattle.cells_model.specs.Indexed.{covers}
use Rattle.cells_model.specs.InPlace.{segment_of}
use Rattle.cells_model.proofs.IndexedLemmas.{cells_show}
use Rattle.rule_model.specs.Places.{Layout}
use Rattle.rule_model.specs.Sight.{Sight, HasPass, with_pass}
use Rattle.rule_model.specs.Rule.{IsStoreRule, rows_now, words_of}
use Rattle.rule_model.specs.Steps.{OfEachSeat}
use Rattle.rule_model.specs.NoteSteps.{HasRow, HasRecordIn, LearnsRows, LooksAtRecord, TellsWriter, PassLearns, ReaderLearns, WordIsLooked, LookIsKept, ReaderLooks, HolderIsFound, HolderIsAnswered, StampIsMet, LookIsMet}
use Rattle.rule_model.proofs.FrameLemmas.{S, M, by_nothing, cell_is, own_read, pass_is}
use Rattle.rule_model.proofs.PassFrame.{by_quiet}
use Rattle.rule_model.proofs.TxnLemmas.{knows_more}

module _ {z : Config} {at : Layout} {heap : Global} {s : S} (r : IsStoreRule z at heap s) (id : ℕ) (me : M)
    (here : get_elem? s.views id ≡ some me.0) where
  -- a held cell that covers a key has the key's row
  pub row_is : (k : ℕ) (c : CellState) (q : Key) → HasRow z me.0 k c q
      → versions_at c.segment q ≡ rows_now heap r.known q
  row_is k c q row =
      let is = cell_is r id me here k c row.cell in
      let leaves = r.stored.leaves in
      let inside = row.inside in
      ap (λ (d : CellState). versions_at d.segment q) (sym is)
      ∙ sym (cells_show heap (r.known.index 0).index (segment_of r.known.cell) r.stored.indexed k q
      (omega (arith, leaves, inside))
      (ap (λ (d : CellState). covers d.segment q) is ∙ row.covered))

  -- so its records are those of the row
  pub record_is : (k : ℕ) (c : CellState) (q : Key) (x : Stamped) → HasRecordIn z me.0 k c q x
      → HasRecord (rows_now heap r.known q) x
  record_is k c q x there = subst (λ vs. HasRecord vs x) (row_is k c q there.row) there.there

  -- and whoever a write looks at there it looks at
  pub looks_there : (w : Write) (x : Stamped) → LooksAtRecord z me.0 w x
      → has_name (looked w (λ q. forget_row (rows_now heap r.known q))) x.by ≡ true
  looks_there w x l = looked_in_row w (λ q. forget_row (rows_now heap r.known q)) l.key x.by
      (ap (λ vs. looks_at w l.key (forget_row vs) x.by) (sym (row_is l.number l.cell l.key l.record_in.row))
      ∙ l.looks)

  -- what the word that a load found tells of the record's writer
  pub writer_told : (seen : List Commit) → IsPrefix seen (r.known.journal 0).commits → (k : ℕ) (c : CellState)
      (q : Key) (x : Stamped)
      → HasRecordIn z me.0 k c q x → x.stamp ≡ None
      → TellsWriter seen x (slice_index s.words (at.pass x.by.job))
  writer_told seen front k c q x there bare =
      let t = tells r.stored.shared q x (record_is k c q x there) bare in
      let inside = t.inside in
      let test : nat_lt x.by.job z.passes ≡ true = grind (arith, nat_tests) in
      let word : (words_of z at s.words).pass x.by.job ≡ slice_index s.words (at.pass x.by.job) =
      ap (λ b. cond b (slice_index s.words (at.pass x.by.job)) 0) test in
      record {
        answers = subst (Answers seen x.by) word (t.answers seen front);
        open_or_stamped = subst (λ n. (n ≡ 1) ⊎ (2 < n)) word t.open_or_stamped;
      }

  -- what was seen by the pass is of the journal
  pub seen_front : (p : ℕ) (st : PassState) → HasPass me.0 p st → IsPrefix st.seen (r.known.journal 0).commits
  seen_front p st has = subst (λ (u : PassState). IsPrefix u.seen (r.known.journal 0).commits)
      (pass_is r id me here p st has) (r.stored.shared.each p).seen

-- the one reader of a view is among all of them
pub reader_is : (P : ReaderState → Type 0) (views : List Sight) (id : ℕ) (v : Sight) (x : ReaderState)
    → get_elem? views id ≡ some v → v.readers ≡ x ∷ []
    → AllByRecursion P (flat_map (λ (u : Sight). u.readers) views) → P x
reader_is P [] id v x here has all = absurd (some-ne-none v (sym here))
reader_is P (u ∷ views) zero v x here has all =
    let one : u.readers ≡ x ∷ [] = ap (λ (y : Sight). y.readers) (some-injective u v here) ∙ has in
    (subst (AllByRecursion P) (flat_map-cons (λ (y : Sight). y.readers) u views
    ∙ ap (λ l. l ++ flat_map (λ (y : Sight). y.readers) views) one) all).0
reader_is P (u ∷ views) (suc id) v x here has all =
    reader_is P views id v x here has (after_front u.readers
    (subst (AllByRecursion P) (flat_map-cons (λ (y : Sight). y.readers) u views) all))
  where
    after_front : (xs : List ReaderState) → AllByRecursion P (xs ++ flat_map (λ (y : Sight). y.readers) views)
        → AllByRecursion P (flat_map (λ (y : Sight). y.readers) views)
    after_front [] h = h
    after_front (y ∷ xs) h = after_front xs h.1

-- ---- loads of the clock

rows_learnt : (z : Config) (at : Layout) (heap : Global) (slots id : ℕ) (me : M) (s : S)
    (r : IsStoreRule z at heap s) → get_elem? s.views id ≡ some me.0
    → (x : ReaderState) → IsReader r.known.pass (r.known.journal 0).commits x
    → LearnsRows z me.0 x (slice_index s.words at.clock)
rows_learnt z at heap slots id me s r here x is =
    let l = row_learns r.stored.shared x is in
    record {
      reads = λ k c q row. ap (read_stamped (stamp_in x.seen) x.start x.by) (row_is r id me here k c q row)
          ∙ l.reads q;
      writers = λ k c q y there bare. l.writers q y (record_is r id me here k c q y there) bare;
      others = λ k c q y there bare away. l.others q y (record_is r id me here k c q y there) bare away;
      stamps = λ k c q y there stamp e. l.stamps q y (record_is r id me here k c q y there) stamp e;
      published = l.published;
    }

pub pass_learns : OfEachSeat PassLearns
pass_learns z at heap slots id me p st has opened s r homes here small =
    let st_is = pass_is r id me here p st has in
    let h = r.stored.shared.each p in (
      me.0,
      keeps,
      tt,
      by_nothing r id me here at.clock me.0.reads (own_read r id me here),
      (
        refl,
        rows_learnt z at heap slots id me s r here (reader_of (λ _. st) p) (record {
          stage = ap (λ (u : PassState). u.stage) st_is ∙ opened;
          by = ap (name_at p) (sym st_is);
          start = ap (λ (u : PassState). u.start) (sym st_is);
          own = ap (λ (u : PassState). u.own) (sym st_is);
          seen = subst (λ (u : PassState). IsPrefix u.seen (r.known.journal 0).commits) st_is h.seen;
          started = subst (λ (u : PassState). u.start ≤ length u.seen) st_is h.started;
        }),
      ),
    )

pub reader_learns : OfEachSeat ReaderLearns
reader_learns z at heap slots id me x has s r homes here small =
    let reader = reader_is (IsReader r.known.pass (r.known.journal 0).commits) s.views id me.0 x here has
    r.readers.each in (
      me.0,
      keeps,
      tt,
      by_nothing r id me here at.clock me.0.reads (own_read r id me here),
      (refl, rows_learnt z at heap slots id me s r here x reader),
    )

-- ---- loads of a writer's word

pub word_is_looked : OfEachSeat WordIsLooked
word_is_looked z at heap slots id me p st k c q x has there bare s r homes here small = (
  me.0,
  keeps,
  tt,
  by_nothing r id me here (at.pass x.by.job) me.0.reads (own_read r id me here),
  (refl, writer_told r id me here st.seen (seen_front r id me here p st has) k c q x there bare),
)

pub reader_looks : OfEachSeat ReaderLooks
reader_looks z at heap slots id me x k c q y has there bare s r homes here small =
    let reader = reader_is (IsReader r.known.pass (r.known.journal 0).commits) s.views id me.0 x here has
    r.readers.each in (
      me.0,
      keeps,
      tt,
      by_nothing r id me here (at.pass y.by.job) me.0.reads (own_read r id me here),
      (refl, writer_told r id me here x.seen reader.seen k c q y there bare),
    )

pub look_is_kept : OfEachSeat LookIsKept
look_is_kept z at heap slots id me p st k c q x has there bare s r homes here small =
    let h = r.stored.shared.each p in
    let n : ℕ = slice_index s.words (at.pass x.by.job) in
    let t = tells r.stored.shared q x (record_is r id me here k c q x there) bare in
    let inside = t.inside in
    let test : nat_lt x.by.job z.passes ≡ true = grind (arith, nat_tests) in
    let word : (words_of z at s.words).pass x.by.job ≡ n = ap (λ b. cond b n 0) test in
    let until = length (r.known.pass p).seen in
    let look : IsLook (r.known.journal 0) (record { by = x.by; word = n; until = until })
    = subst (λ m. IsLook (r.known.journal 0) (record { by = x.by; word = m; until = until })) word
    (t.look until (prefix_length (r.known.pass p).seen (r.known.journal 0).commits h.seen)) in (
      with_pass me.0 p (with_look st (look_at st x.by n)),
      keeps,
      tt,
      by_quiet r id me here p st has (λ u. with_look u (look_at u x.by n)) (at.pass x.by.job)
          (knows_more r id me here p (with_look (r.known.pass p) (look_at (r.known.pass p) x.by n)) refl refl
          refl refl refl)
          (notes r.stored.shared p (r.known.pass p).met (r.known.pass p).holders (r.known.pass p).sighted
          (look_at (r.known.pass p) x.by n ∷ (r.known.pass p).looks)
          h.met h.holders h.sighted (look, h.looks)),
      (refl, writer_told r id me here st.seen (seen_front r id me here p st has) k c q x there bare),
    )

-- ---- whom a write meets

pub holder_is_found : OfEachSeat HolderIsFound
holder_is_found z at heap slots id me p st w x has looks out s r homes here small =
    let k = r.known in
    let h = r.stored.shared.each p in
    let st_is = pass_is r id me here p st has in
    let F : PassState → PassState = (λ u. with_holder u (sighting x.by w u.start)) in
    let sighted = sights r.stored.shared p w x.by (looks_there r id me here w x looks)
    (subst (λ (u : PassState). reached (stamp_in u.seen x.by) u.start ≡ false) (sym st_is) out) in (
      with_pass me.0 p (F st),
      keeps,
      tt,
      by_quiet r id me here p st has F at.clock
          (knows_more r id me here p (F (k.pass p)) refl refl refl refl refl)
          (notes r.stored.shared p (k.pass p).met (sighting x.by w (k.pass p).start ∷ (k.pass p).holders)
          (k.pass p).sighted (k.pass p).looks
          h.met (sighted, h.holders) h.sighted h.looks),
      (refl, tt),
    )

pub holder_is_answered : OfEachSeat HolderIsAnswered
holder_is_answered z at heap slots id me p st i x has there s r homes here small =
    let k = r.known in
    let h = r.stored.shared.each p in
    let st_is = pass_is r id me here p st has in
    let F : PassState → PassState = (λ u. with_sighting u x) in
    let mine = each_item (IsSighted z.kind k.pass (k.journal 0)) (k.pass p).holders h.holders i x
    (ap (λ (u : PassState). slice_get u.holders i) st_is ∙ there) in (
      with_pass me.0 p (F st),
      keeps,
      tt,
      by_quiet r id me here p st has F at.clock
          (knows_more r id me here p (F (k.pass p)) refl refl refl refl refl)
          (notes r.stored.shared p (k.pass p).met (k.pass p).holders ((k.pass p).sighted ++ x ∷ [])
          (k.pass p).looks
          h.met h.holders (all_end (IsSighted z.kind k.pass (k.journal 0))
          (k.pass p).sighted x h.sighted mine) h.looks),
      (refl, tt),
    )

-- a meeting is noted
met_is_noted : {z : Config} {at : Layout} {heap : Global} {s : S} (r : IsStoreRule z at heap s) (id : ℕ)
    (me : M) (here : get_elem? s.views id ≡ some me.0) (p : ℕ) (st : PassState)
    → HasPass me.0 p st → (m : Meeting) → IsMet z.kind (r.known.journal 0) m
    → IsStoreRule z at heap (stepped s at.clock (slice_index s.words at.clock) id me.1
    (with_pass me.0 p (with_meeting st m)) keeps)
met_is_noted {z} {at} r id me here p st has m is =
    let k = r.known in
    let h = r.stored.shared.each p in
    by_quiet r id me here p st has (λ u. with_meeting u m) at.clock
    (knows_more r id me here p (with_meeting (k.pass p) m) refl refl refl refl refl)
    (notes r.stored.shared p (m ∷ (k.pass p).met) (k.pass p).holders (k.pass p).sighted (k.pass p).looks (
      is,
      h.met,
    ) h.holders h.sighted h.looks)

pub stamp_is_met : OfEachSeat StampIsMet
stamp_is_met z at heap slots id me p st w x stamp has looks e s r homes here small =
    let there = record_is r id me here looks.number looks.cell looks.key x looks.record_in in (
      with_pass me.0 p (with_meeting st (meeting w (stamp - 1))),
      keeps,
      tt,
      met_is_noted r id me here p st has (meeting w (stamp - 1))
          (meets_stamp r.stored.shared w x.by stamp (record_stamp r.stored.shared looks.key x there stamp e)
          (looks_there r id me here w x looks)),
      (refl, tt),
    )

pub look_is_met : OfEachSeat LookIsMet
look_is_met z at heap slots id me p st w x i l has looks kept same up s r homes here small =
    let h = r.stored.shared.each p in
    let st_is = pass_is r id me here p st has in
    let look = each_item (IsLook (r.known.journal 0)) (r.known.pass p).looks h.looks i l
    (ap (λ (u : PassState). slice_get u.looks i) st_is ∙ kept) in (
      with_pass me.0 p (with_meeting st (meeting w (l.word - 3))),
      keeps,
      tt,
      met_is_noted r id me here p st has (meeting w (l.word - 3))
          (meets_look r.stored.shared w l look up
          (ap (has_name (looked w (λ q. forget_row (rows_now heap r.known q)))) same
          ∙ looks_there r id me here w x looks)),
      (refl, tt),
    )
