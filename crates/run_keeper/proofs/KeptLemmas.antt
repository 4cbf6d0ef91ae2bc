-- What is kept of a journal, from one commit to the next.
use Rattle.std.proofs.Common.{◌≡◌, inl, inr, ⊎_elim, ℕ, ◌+◌, ◌<◌, ◌≤◌, List, [], ◌∷◌, ◌++◌, length, take, drop, refl, sym, ◌∙◌, ap, subst, arith, eq-or-lt_of_le}
use Rattle.std.specs.Prelude.{Some, slice_get, Result, Ok, Err, OnErr}
use Rattle.std.proofs.lemmas.List.{take_all, take_more, length-append, length-take-le, take-append-le, take-append-drop}
use Rattle.std.proofs.lemmas.Option.{slice_get_within, get_or_from_slice_get}
use Rattle.graph_model.specs.declared.write.Kind.{Kind}
use Rattle.graph_model.specs.declared.journal.Commit.{Commit}
use Rattle.graph_model.specs.Legal.{IsLegal, IsLegalCommit}
use Rattle.desk_io.specs.Files.{Rose}
use Rattle.journal_disk.specs.Disk.{DiskState, FaultsStand}
use Rattle.journal_disk.specs.Crashes.{Only, LeavesOnly}
use Rattle.journal_file.specs.declared.file.JournalFile.{JournalFile}
use Rattle.journal_file.specs.Format.{file_of, Fits, IsEntry}
use Rattle.journal_file.specs.Keeping.{StandsFor, IsBeforeOrAfter, IsSettled}
use Rattle.journal_file.specs.Laws.{FilesStandForTheirCommits}
use Rattle.run_keeper.specs.declared.keeper.KeepRefusal.{KeepRefusal}
use Rattle.run_keeper.specs.declared.keeper.KeepRefusal.TheVariants.{DiskFault, NoMemory}
use Rattle.run_keeper.specs.Refusals.{Stops}
use Rattle.run_keeper.specs.Keeping.{HasFront, IsAcknowledged, AreAcknowledged, IsKept}

-- ---- journals

-- the first commits of a longer journal
pub front_is : (commits rest : List Commit) → take (length commits) (commits ++ rest) ≡ commits
front_is commits rest = take-append-le (length commits) commits rest (omega arith) ∙ take_all (length commits) commits (omega arith)

-- the first commits of a journal, with the next one
pub next_is : (journal : List Commit) (n : ℕ) (c : Commit) → slice_get journal n ≡ Some c → take (n + 1) journal ≡ take n journal ++ c ∷ []
next_is journal n c at = take_more journal n c (slice_get_within journal n c at) ∙ ap (λ x. take n journal ++ x ∷ []) (get_or_from_slice_get journal n c c at)

pub count_is : (journal : List Commit) (n : ℕ) → n ≤ length journal → length (take n journal) ≡ n
count_is journal n le = length-take-le n journal le

count_more : (commits : List Commit) (c : Commit) → length (commits ++ c ∷ []) ≡ length commits + 1
count_more commits c = length-append commits (c ∷ [])

-- a legal commit may stand in a file
pub entry_is : (kind : Kind) (journal : List Commit) (place : ℕ) (c : Commit) → IsLegalCommit kind journal place c → Fits c → IsEntry (place + 1) c
entry_is kind journal place c is fits = record {
  stamped = is.stamped;
  started = omega (arith, is.started);
  wrote = is.wrote;
  within = is.within;
  fits = fits;
}

has_longer : (kind : Kind) (journal rest : List Commit) (least : ℕ) (image : List ℕ) → HasFront kind journal least image → HasFront kind (journal ++ rest) least image
has_longer kind journal rest least image has = (
  has.0,
  has.1,
  omega (arith, has.2, length-append journal rest),
  subst (λ cs. StandsFor kind cs image) (sym (take-append-le has.0 journal rest has.2)) has.3,
)

-- the front of a journal that has as many commits
pub begins : (journal commits rest : List Commit) (n : ℕ) → journal ≡ commits ++ rest → n ≡ length commits → take n journal ≡ commits
begins journal commits rest n same count = (λ i. take (count i) (same i)) ∙ front_is commits rest

-- a legal commit stands behind those before it
pub legal_at : (kind : Kind) (journal : List Commit) (n : ℕ) (c : Commit) → IsLegal kind journal → slice_get journal n ≡ Some c
    → IsLegalCommit kind journal (length (take n journal)) c
legal_at kind journal n c legal at =
    let lt : n < length journal = slice_get_within journal n c at in
    subst (λ m. IsLegalCommit kind journal m c) (sym (count_is journal n (omega (arith, lt)))) (legal.each n c at)

-- ---- why commits weren't kept

-- the disk had not failed before
pub stops_later : (old mid new : DiskState) (e : KeepRefusal) → FaultsStand old mid → Stops mid new e → Stops old new e
stops_later old mid new DiskFault stand rise = subst (λ n. Rose n new.faults) stand rise
stops_later old mid new NoMemory stand later = later ∙ stand

pub on_err : {T E P : Type 0} (r : Result T E) → P → OnErr r P
on_err (Ok x) p = tt
on_err (Err e) p = p

-- ---- what is acknowledged

module _ {D : Type 0} (moment : D → ℕ) (may_leave : D → List ℕ → Type 0) (left_since : D → ℕ → List ℕ → Type 0) where
  -- what is acknowledged stays so as the journal grows
  pub acknowledged_longer : (kind : Kind) (journal rest : List Commit) (count : ℕ) (now : D) → count ≤ length journal
      → AreAcknowledged moment may_leave left_since kind journal count now
      → AreAcknowledged moment may_leave left_since kind (journal ++ rest) count now
  acknowledged_longer kind journal rest count now le are i i_le =
      let is = are i i_le in
      record {
        then_disk = is.then_disk;
        durable = subst (λ cs. Only (file_of kind cs) (may_leave is.then_disk)) (sym (take-append-le i journal rest (omega (arith, i_le, le)))) is.durable;
        past = is.past;
        since = λ image left. has_longer kind journal rest i image (is.since image left);
      }

  -- what is kept of a front is acknowledged of the journal
  pub front_acknowledged : (state : D → DiskState) (kind : Kind) (journal commits rest : List Commit) → journal ≡ commits ++ rest → (file : JournalFile) (now : D)
      → IsKept moment may_leave left_since state kind commits file now → AreAcknowledged moment may_leave left_since kind journal (length commits) now
  front_acknowledged state kind journal commits rest same file now kept =
      subst (λ cs. AreAcknowledged moment may_leave left_since kind cs (length commits) now) (sym same)
      (acknowledged_longer kind commits rest (length commits) now (omega arith) kept.acknowledged)

  -- what is acknowledged with a commit at hand
  pub whole_acknowledged : (kind : Kind) (journal : List Commit) (n : ℕ) (c : Commit) (count : ℕ) (now : D) → slice_get journal n ≡ Some c → count ≡ length (take n journal)
      → AreAcknowledged moment may_leave left_since kind (take n journal ++ c ∷ []) (length (take n journal)) now
      → AreAcknowledged moment may_leave left_since kind journal count now
  whole_acknowledged kind journal n c count now at counted are =
      let same : (take n journal ++ c ∷ []) ++ drop (n + 1) journal ≡ journal =
      ap (λ cs. cs ++ drop (n + 1) journal) (sym (next_is journal n c at)) ∙ take-append-drop (n + 1) journal in
      subst (λ m. AreAcknowledged moment may_leave left_since kind journal m now) (sym counted)
      (subst (λ cs. AreAcknowledged moment may_leave left_since kind cs (length (take n journal)) now) same
      (acknowledged_longer kind (take n journal ++ c ∷ []) (drop (n + 1) journal) (length (take n journal)) now
      (omega (arith, count_more (take n journal) c)) are))

  -- a call that may add the next commit takes none away
  module _ (kind : Kind) (commits : List Commit) (c : Commit) (old new : D)
      (only : LeavesOnly moment left_since old new (IsBeforeOrAfter kind commits c)) where
    abbrev longer : List Commit
    longer = commits ++ c ∷ []

    has : (least : ℕ) → least ≤ length commits → (image : List ℕ) → IsBeforeOrAfter kind commits c image → HasFront kind longer least image
    has least le image (inl before) =
        (length commits, le, omega (arith, count_more commits c), subst (λ cs. StandsFor kind cs image) (sym (front_is commits (c ∷ []))) before)
    has least le image (inr after) =
        (length longer, omega (arith, le, count_more commits c), omega arith, subst (λ cs. StandsFor kind cs image) (sym (take_all (length longer) longer (omega arith))) after)

    pub still_acknowledged : AreAcknowledged moment may_leave left_since kind commits (length commits) old
        → AreAcknowledged moment may_leave left_since kind longer (length commits) new
    still_acknowledged are i le =
        let is = acknowledged_longer kind commits (c ∷ []) (length commits) old (omega arith) are i le in
        record {
          then_disk = is.then_disk;
          durable = is.durable;
          past = omega (arith, is.past, only.later);
          since = λ image left. ⊎_elim (is.since image) (has i le image) (only.before (moment is.then_disk) image is.past left);
        }

  -- what is on the disk now is acknowledged now
  acknowledged_now : (state : D → DiskState) (kind : Kind) (commits : List Commit) (file : JournalFile) (now : D)
      → IsSettled kind commits file (state now) (may_leave now) → FilesStandForTheirCommits
      → ((image : List ℕ) → left_since now (moment now) image → may_leave now image)
      → IsAcknowledged moment may_leave left_since kind commits (length commits) now
  acknowledged_now state kind commits file now settled stand only_now =
      let whole = take_all (length commits) commits (omega arith) in
      record {
        then_disk = now;
        durable = subst (λ cs. Only (file_of kind cs) (may_leave now)) (sym whole) settled.durable;
        past = omega arith;
        since = λ image left. (
          length commits,
          omega arith,
          omega arith,
          subst (λ cs. StandsFor kind cs image) (sym whole)
              (subst (StandsFor kind commits) (sym (settled.durable image (only_now image left))) (stand kind commits 0 [] settled.entries (omega arith))),
        );
      }

  -- one commit more is acknowledged with those before
  acknowledges : (kind : Kind) (commits : List Commit) (n : ℕ) (now : D) → AreAcknowledged moment may_leave left_since kind commits n now
      → IsAcknowledged moment may_leave left_since kind commits (n + 1) now → AreAcknowledged moment may_leave left_since kind commits (n + 1) now
  acknowledges kind commits n now before here i le = elim (eq-or-lt_of_le le) as (λ _. IsAcknowledged moment may_leave left_since kind commits i now) [
    | inl same ↦ subst (λ m. IsAcknowledged moment may_leave left_since kind commits m now) (sym same) here
    | inr below ↦ before i (omega (arith, below))
  ]

  pub one_more : (state : D → DiskState) (kind : Kind) (commits : List Commit) (c : Commit) (file file' : JournalFile) (old new : D)
      → IsKept moment may_leave left_since state kind commits file old
      → LeavesOnly moment left_since old new (IsBeforeOrAfter kind commits c)
      → IsSettled kind (commits ++ c ∷ []) file' (state new) (may_leave new)
      → FilesStandForTheirCommits
      → ((image : List ℕ) → left_since new (moment new) image → may_leave new image)
      → IsKept moment may_leave left_since state kind (commits ++ c ∷ []) file' new
  one_more state kind commits c file file' old new kept only settled stand only_now = record {
    settled = settled;
    acknowledged = subst (λ n. AreAcknowledged moment may_leave left_since kind (commits ++ c ∷ []) n new) (sym (count_more commits c))
        (acknowledges kind (commits ++ c ∷ []) (length commits) new (still_acknowledged kind commits c old new only kept.acknowledged)
        (subst (λ n. IsAcknowledged moment may_leave left_since kind (commits ++ c ∷ []) n new) (count_more commits c)
        (acknowledged_now state kind (commits ++ c ∷ []) file' new settled stand only_now)));
  }

  -- a file that was made
  pub first_kept : (state : D → DiskState) (kind : Kind) (file : JournalFile) (now : D) → IsSettled kind [] file (state now) (may_leave now)
      → FilesStandForTheirCommits → ((image : List ℕ) → left_since now (moment now) image → may_leave now image)
      → IsKept moment may_leave left_since state kind [] file now
  first_kept state kind file now settled stand only_now = record {
    settled = settled;
    acknowledged = λ i le.
        let same : i ≡ 0 = omega (arith, le) in
        subst (λ m. IsAcknowledged moment may_leave left_since kind [] m now) (sym same)
        (acknowledged_now state kind [] file now settled stand only_now);
  }

  -- ---- behind a refusal

  module _ (state : D → DiskState) where
    -- nothing was done yet
    pub still_first : (c : Commit) (file : JournalFile) (now : D) (kind : Kind) (journal commits : List Commit) → IsLegalCommit kind journal (length commits) c
        → IsKept moment may_leave left_since state kind commits file now
        → (file.count ≡ length commits) × AreAcknowledged moment may_leave left_since kind (commits ++ c ∷ []) (length commits) now
    still_first c file now kind journal commits legal kept =
        (kept.settled.count, front_acknowledged state kind (commits ++ c ∷ []) commits (c ∷ []) refl file now kept)

    -- the commit was written, or a part of it
    pub still_written : (c : Commit) (file file' : JournalFile) (old new : D) → file' ≡ file → Fits c
        → ((kind : Kind) (commits : List Commit) → IsSettled kind commits file (state old) (may_leave old) → IsEntry (length commits + 1) c → LeavesOnly moment left_since old new (IsBeforeOrAfter kind commits c))
        → (kind : Kind) (journal commits : List Commit) → IsLegalCommit kind journal (length commits) c
        → IsKept moment may_leave left_since state kind commits file old
        → (file'.count ≡ length commits) × AreAcknowledged moment may_leave left_since kind (commits ++ c ∷ []) (length commits) new
    still_written c file file' old new same fits each kind journal commits legal kept = (
      ap (λ f. f.count) same ∙ kept.settled.count,
      still_acknowledged kind commits c old new (each kind commits kept.settled (entry_is kind journal (length commits) c legal fits)) kept.acknowledged,
    )

    -- one of the commits wasn't kept
    pub still_kept : (journal : List Commit) (n : ℕ) (c : Commit) (first mid last : JournalFile) (old new then_new : D) → slice_get journal n ≡ Some c → first.count ≤ n
        → ((kind : Kind) (commits rest : List Commit) → journal ≡ commits ++ rest → IsLegal kind journal → IsKept moment may_leave left_since state kind commits first old
        → IsKept moment may_leave left_since state kind (take n journal) mid new)
        → ((kind : Kind) (all commits : List Commit) → IsLegalCommit kind all (length commits) c → IsKept moment may_leave left_since state kind commits mid new
        → (last.count ≡ length commits) × AreAcknowledged moment may_leave left_since kind (commits ++ c ∷ []) (length commits) then_new)
        → (kind : Kind) (commits rest : List Commit) → journal ≡ commits ++ rest → IsLegal kind journal → IsKept moment may_leave left_since state kind commits first old
        → (length commits ≤ last.count) × AreAcknowledged moment may_leave left_since kind journal last.count then_new
    still_kept journal n c first mid last old new then_new at past before next kind commits rest same legal kept =
        let still = next kind journal (take n journal) (legal_at kind journal n c legal at) (before kind commits rest same legal kept) in
        let counted : first.count ≡ length commits = kept.settled.count in
        let lt : n < length journal = slice_get_within journal n c at in (
          omega (arith, still.0, counted, past, count_is journal n (omega (arith, lt))),
          whole_acknowledged kind journal n c last.count then_new at still.0 still.1,
        )

    -- the commits of a journal weren't kept that goes on from those that are
    pub still_longer : (kind : Kind) (journal lent commits rest : List Commit) (file last : JournalFile) (old new : D) → lent ≡ journal → journal ≡ commits ++ rest → IsLegal kind journal
        → ((k : Kind) (cs more : List Commit) → lent ≡ cs ++ more → IsLegal k lent → IsKept moment may_leave left_since state k cs file old
        → (length cs ≤ last.count) × AreAcknowledged moment may_leave left_since k lent last.count new)
        → IsKept moment may_leave left_since state kind commits file old
        → (length commits ≤ last.count) × AreAcknowledged moment may_leave left_since kind journal last.count new
    still_longer kind journal lent commits rest file last old new same goes legal keep kept =
        let still = keep kind commits rest (same ∙ goes) (subst (IsLegal kind) (sym same) legal) kept in
        (still.0, subst (λ cs. AreAcknowledged moment may_leave left_since kind cs last.count new) same still.1)

    -- the commits of such a journal are kept
    pub kept_longer : (kind : Kind) (journal lent commits rest : List Commit) (file last : JournalFile) (old new : D) → lent ≡ journal → journal ≡ commits ++ rest → IsLegal kind journal
        → ((k : Kind) (cs more : List Commit) → lent ≡ cs ++ more → IsLegal k lent → IsKept moment may_leave left_since state k cs file old
        → IsKept moment may_leave left_since state k lent last new)
        → IsKept moment may_leave left_since state kind commits file old → IsKept moment may_leave left_since state kind journal last new
    kept_longer kind journal lent commits rest file last old new same goes legal keep kept =
        subst (λ cs. IsKept moment may_leave left_since state kind cs last new) same
        (keep kind commits rest (same ∙ goes) (subst (IsLegal kind) (sym same) legal) kept)

  -- a turn of the run, whose graph has the same kind throughout
  module _ (state : D → DiskState) (kind first : Kind) (same : kind ≡ first) (journal longer : List Commit) (file file' : JournalFile) (old new : D) where
    pub kept_on : (IsKept moment may_leave left_since state kind journal file old → IsKept moment may_leave left_since state kind longer file' new)
        → IsKept moment may_leave left_since state first journal file old → IsKept moment may_leave left_since state first longer file' new
    kept_on turn kept =
        subst (λ k. IsKept moment may_leave left_since state k longer file' new) same
        (turn (subst (λ k. IsKept moment may_leave left_since state k journal file old) (sym same) kept))
