-- Rows and records, counted one after the other.
use Rattle.std.proofs.Common.{ap₂, ℕ, zero, suc, ◌≡◌, ◌+◌, ◌≤◌, ◌<◌, List, [], ◌∷◌, ◌++◌, length, take, slice_get, get_or, IsSomeAnd, refl, sym, ap, ◌∙◌, subst, arith}
use Rattle.std.proofs.lemmas.List.{length-append, append_assoc, append-nil}
use Rattle.graph_model.specs.declared.row.Key.{Key}
use Rattle.store_model.specs.Stamped.{StampedVersions}
use Rattle.version_segment.specs.Rows.{VersionedRows, IsSameSegment, records_in, all_records}
use Rattle.leaf_array.specs.Segments.{rows_of, records_of, low_or, high_or, AreChained, AreSame}
use Rattle.leaf_array.proofs.SegmentLemmas.{records-append}

-- ---- with one more

row-more : (i : ℕ) (rows : List (Key × StampedVersions)) (n : ℕ) → IsSomeAnd (slice_get rows i) (λ row. n ≡ records_in row.1) → all_records (take (suc i) rows) ≡ all_records (take i rows) + n
row-more i [] n at = absurd at
row-more zero (row ∷ rows) n at = omega (arith, at)
row-more (suc i) (row ∷ rows) n at = omega (arith, row-more i rows n at)

segment-more : (i : ℕ) (ss : List VersionedRows) (s : VersionedRows) → i < length ss → s ≡ get_or ss i s → rows_of (take (suc i) ss) ≡ rows_of (take i ss) ++ s.rows
segment-more i [] s lt at = absurd (omega (arith, lt))
segment-more zero (t ∷ ss) s lt at = append-nil t.rows ∙ ap (λ x. x.rows) (sym at)
segment-more (suc i) (t ∷ ss) s lt at = ap (λ rows. t.rows ++ rows) (segment-more i ss s (omega (arith, lt)) at) ∙ sym (append_assoc t.rows (rows_of (take i ss)) s.rows)

next : (i : ℕ) → suc i ≡ i + 1
next i = omega arith

-- one row more has its records more
pub one-more-row : (i : ℕ) (rows : List (Key × StampedVersions)) (n : ℕ) → IsSomeAnd (slice_get rows i) (λ row. n ≡ records_in row.1) → all_records (take (i + 1) rows) ≡ all_records (take i rows) + n
one-more-row i rows n at = subst (λ k. all_records (take k rows) ≡ all_records (take i rows) + n) (next i) (row-more i rows n at)

-- one segment more has its rows more
pub one-more-segment : (i : ℕ) (ss : List VersionedRows) (s : VersionedRows) → i < length ss → s ≡ get_or ss i s → rows_of (take (i + 1) ss) ≡ rows_of (take i ss) ++ s.rows
one-more-segment i ss s lt at = subst (λ k. rows_of (take k ss) ≡ rows_of (take i ss) ++ s.rows) (next i) (segment-more i ss s lt at)

pub one-more-count : (i : ℕ) (ss : List VersionedRows) (s : VersionedRows) → i < length ss → s ≡ get_or ss i s → length (rows_of (take (i + 1) ss)) ≡ length (rows_of (take i ss)) + length s.rows
one-more-count i ss s lt at = ap length (one-more-segment i ss s lt at) ∙ length-append (rows_of (take i ss)) s.rows

pub one-more-records : (i : ℕ) (ss : List VersionedRows) (s : VersionedRows) → i < length ss → s ≡ get_or ss i s → records_of (take (i + 1) ss) ≡ records_of (take i ss) + all_records s.rows
one-more-records i ss s lt at = ap all_records (one-more-segment i ss s lt at) ∙ records-append (rows_of (take i ss)) s.rows

-- the first segments have no more than all
pub records-of-first : (i : ℕ) (ss : List VersionedRows) → records_of (take i ss) ≤ records_of ss
records-of-first zero ss = omega arith
records-of-first (suc i) [] = omega arith
records-of-first (suc i) (s ∷ ss) = omega (arith, records-of-first i ss, records-append s.rows (rows_of ss), records-append s.rows (rows_of (take i ss)))

-- ---- only the room has changed

pub same-again : (ss : List VersionedRows) → AreSame ss ss
same-again [] = tt
same-again (s ∷ ss) = (record { low = refl; high = refl; rows = refl }, same-again ss)

-- the first only has changed its room
pub first-reserved : (ss rest : List VersionedRows) (s t : VersionedRows) → ss ≡ s ∷ rest → IsSameSegment s t → AreSame ss (t ∷ rest)
first-reserved ss rest s t is same = subst (λ xs. AreSame xs (t ∷ rest)) (sym is) (same, same-again rest)

pub all-reserved : (ss rest ts : List VersionedRows) (s t : VersionedRows) → ss ≡ s ∷ rest → IsSameSegment s t → AreSame rest ts → AreSame ss (t ∷ ts)
all-reserved ss rest ts s t is same behind = subst (λ xs. AreSame xs (t ∷ ts)) (sym is) (same, behind)

-- the same rows
pub same-rows : (ss ts : List VersionedRows) → AreSame ss ts → rows_of ts ≡ rows_of ss
same-rows [] [] same = refl
same-rows (s ∷ ss) (t ∷ ts) same = ap₂ (λ xs ys. xs ++ ys) same.0.rows (same-rows ss ts same.1)
same-rows [] (t ∷ ts) same = absurd same
same-rows (s ∷ ss) [] same = absurd same

pub same-length : (ss ts : List VersionedRows) → AreSame ss ts → length ts ≡ length ss
same-length [] [] same = refl
same-length (s ∷ ss) (t ∷ ts) same = omega (arith, same-length ss ts same.1)
same-length [] (t ∷ ts) same = absurd same
same-length (s ∷ ss) [] same = absurd same

-- the same fence keys
pub same-low : (ss ts : List VersionedRows) → AreSame ss ts → (other : Key) → low_or ts other ≡ low_or ss other
same-low [] [] same other = refl
same-low (s ∷ ss) (t ∷ ts) same other = same.0.low
same-low [] (t ∷ ts) same other = absurd same
same-low (s ∷ ss) [] same other = absurd same

pub same-high : (ss ts : List VersionedRows) → AreSame ss ts → (other : Key) → high_or ts other ≡ high_or ss other
same-high [] [] same other = refl
same-high (s ∷ ss) (t ∷ ts) same other = ap (high_or ts) same.0.high ∙ same-high ss ts same.1 s.high
same-high [] (t ∷ ts) same other = absurd same
same-high (s ∷ ss) [] same other = absurd same

pub same-chained : (ss ts : List VersionedRows) → AreSame ss ts → AreChained ss → AreChained ts
same-chained [] [] same chained = tt
same-chained (s ∷ ss) (t ∷ ts) same chained =
    (same-low ss ts same.1 t.high ∙ (ap (low_or ss) same.0.high ∙ (chained.0 ∙ sym same.0.high)), same-chained ss ts same.1 chained.1)
same-chained [] (t ∷ ts) same chained = absurd same
same-chained (s ∷ ss) [] same chained = absurd same
