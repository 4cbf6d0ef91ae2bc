-- One row among those of all segments.
use Rattle.std.proofs.Common.{◌≡◌, ℕ, zero, suc, ◌+◌, ◌<◌, List, [], ◌∷◌, ◌++◌, length, slice_get, IsSomeAnd, sym, ap, ◌∙◌, subst, refl, arith, length-append}
use Rattle.graph_model.specs.declared.row.Key.{Key}
use Rattle.store_model.specs.Stamped.{StampedVersions}
use Rattle.version_segment.specs.Rows.{VersionedRows}
use Rattle.leaf_array.specs.Segments.{rows_of}

-- a row of the first part, and one behind it
get-front : (xs ys : List (Key × StampedVersions)) (n : ℕ) → n < length xs → slice_get (xs ++ ys) n ≡ slice_get xs n
get-front [] ys n lt = absurd (omega (arith, lt))
get-front (x ∷ xs) ys zero lt = refl
get-front (x ∷ xs) ys (suc n) lt = get-front xs ys n (omega (arith, lt))

get-behind : (xs ys : List (Key × StampedVersions)) (n k : ℕ) → n ≡ length xs + k → slice_get (xs ++ ys) n ≡ slice_get ys k
get-behind [] ys n k e = ap (slice_get ys) e ∙ ap (slice_get ys) (omega arith)
get-behind (x ∷ xs) ys zero k e = absurd (omega (arith, e))
get-behind (x ∷ xs) ys (suc n) k e = get-behind xs ys n k (omega (arith, e))

pub key-in-first : (key : Key) (ss rest : List VersionedRows) (s : VersionedRows) (n : ℕ) → ss ≡ s ∷ rest → n < length s.rows → IsSomeAnd (slice_get s.rows n) (λ row. key ≡ row.0) → IsSomeAnd (slice_get (rows_of ss) n) (λ row. key ≡ row.0)
key-in-first key ss rest s n is lt found =
    subst (λ o. IsSomeAnd o (λ row. key ≡ row.0)) (sym (ap (λ cs. slice_get (rows_of cs) n) is ∙ get-front s.rows (rows_of rest) n lt)) found

pub key-in-rest : (key : Key) (ss rest : List VersionedRows) (s : VersionedRows) (n k : ℕ) → ss ≡ s ∷ rest → n ≡ length s.rows + k → IsSomeAnd (slice_get (rows_of rest) k) (λ row. key ≡ row.0) → IsSomeAnd (slice_get (rows_of ss) n) (λ row. key ≡ row.0)
key-in-rest key ss rest s n k is at found =
    subst (λ o. IsSomeAnd o (λ row. key ≡ row.0)) (sym (ap (λ cs. slice_get (rows_of cs) n) is ∙ get-behind s.rows (rows_of rest) n k at)) found

pub rows-in-rest : (ss rest : List VersionedRows) (s : VersionedRows) → ss ≡ s ∷ rest → length (rows_of ss) ≡ length s.rows + length (rows_of rest)
rows-in-rest ss rest s is = ap (λ cs. length (rows_of cs)) is ∙ length-append s.rows (rows_of rest)
