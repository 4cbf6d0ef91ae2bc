-- Segments behind one another, of which two neighbours change.
use Rattle.std.proofs.Common.{ℕ, zero, suc, ◌≡◌, ◌+◌, ◌-◌, ◌≤◌, List, [], ◌∷◌, ◌++◌, length, take, drop, length-take-le, refl, sym, ap, ap₂, ◌∙◌, subst, arith}
use Rattle.std.proofs.lemmas.List.{append_assoc, length-append, take-append-drop}
use Rattle.graph_model.specs.declared.row.Key.{Key}
use Rattle.store_model.specs.Stamped.{StampedVersions}
use Rattle.version_segment.specs.Rows.{VersionedRows, SharesRows, all_records}
use Rattle.leaf_array.specs.Segments.{rows_of, records_of, low_or, high_or, AreChained, HaveRoom, UseRoom, KeepsRows}

-- ---- records

-- rows behind one another have the records of both parts
pub records-append : (xs ys : List (Key × StampedVersions)) → all_records (xs ++ ys) ≡ all_records xs + all_records ys
records-append [] ys = omega arith
records-append (x ∷ xs) ys = omega (arith, records-append xs ys)

-- part of the rows has no more
pub records-take : (k : ℕ) (xs : List (Key × StampedVersions)) → all_records (take k xs) ≤ all_records xs
records-take zero xs = omega arith
records-take (suc k) [] = omega arith
records-take (suc k) (x ∷ xs) = omega (arith, records-take k xs)

pub records-drop : (k : ℕ) (xs : List (Key × StampedVersions)) → all_records (drop k xs) ≤ all_records xs
records-drop zero xs = omega arith
records-drop (suc k) [] = omega arith
records-drop (suc k) (x ∷ xs) = omega (arith, records-drop k xs)

-- ---- room

-- room for more is room for fewer
pub fewer-room : (more fewer : ℕ) (ss : List VersionedRows) → fewer ≤ more → HaveRoom more ss → HaveRoom fewer ss
fewer-room more fewer [] le has = tt
fewer-room more fewer (s ∷ ss) le has = (omega (arith, le, has.0), fewer-room more fewer ss le has.1)

-- what isn't used is left
pub room-left : (used left : ℕ) (ss ts : List VersionedRows) → UseRoom used ss ts → HaveRoom (used + left) ss → HaveRoom left ts
room-left used left [] [] uses has = tt
room-left used left (s ∷ ss) (t ∷ ts) uses has = (omega (arith, uses.0, has.0), room-left used left ss ts uses.1 has.1)
room-left used left [] (t ∷ ts) uses has = absurd uses
room-left used left (s ∷ ss) [] uses has = absurd uses

pub none-used : (ss : List VersionedRows) (used : ℕ) → UseRoom used ss ss
none-used [] used = tt
none-used (s ∷ ss) used = (omega arith, none-used ss used)

-- no more is used than these both and what is left over
pub used-together : (first then all : ℕ) (ss ts us : List VersionedRows) → first + then ≤ all → UseRoom first ss ts → UseRoom then ts us → UseRoom all ss us
used-together first then all [] [] [] le one two = tt
used-together first then all (s ∷ ss) (t ∷ ts) (u ∷ us) le one two = (omega (arith, one.0, two.0, le), used-together first then all ss ts us le one.1 two.1)
used-together first then all [] [] (u ∷ us) le one two = two
used-together first then all (s ∷ ss) (t ∷ ts) [] le one two = two
used-together first then all [] (t ∷ ts) us le one two = absurd one
used-together first then all (s ∷ ss) [] us le one two = absurd one

pub more-used : (fewer more : ℕ) (ss ts : List VersionedRows) → fewer ≤ more → UseRoom fewer ss ts → UseRoom more ss ts
more-used fewer more ss ts le uses = used-together fewer zero more ss ts ts (omega (arith, le)) uses (none-used ts zero)

-- ---- moves

pub nothing-moves : (ss : List VersionedRows) → AreChained ss → KeepsRows ss ss
nothing-moves ss chained = record { rows = refl; low = λ other. refl; high = λ other. refl; chained = chained; segments = refl }

pub moves-again : (ss ts us : List VersionedRows) → KeepsRows ss ts → KeepsRows ts us → KeepsRows ss us
moves-again ss ts us first then = record {
  rows = then.rows ∙ first.rows;
  low = λ other. then.low other ∙ first.low other;
  high = λ other. then.high other ∙ first.high other;
  chained = then.chained;
  segments = then.segments ∙ first.segments;
}

-- a move behind a segment
pub moves-behind : (s : VersionedRows) (ss ts : List VersionedRows) → AreChained (s ∷ ss) → KeepsRows ss ts → KeepsRows (s ∷ ss) (s ∷ ts)
moves-behind s ss ts chained moves = record {
  rows = ap (λ rows. s.rows ++ rows) moves.rows;
  low = λ other. refl;
  high = λ other. moves.high s.high;
  chained = (moves.low s.high ∙ chained.0, moves.chained);
  segments = omega (arith, moves.segments);
}

-- both neighbours have the rows that they had together
pub shares-together : (s n s' n' : VersionedRows) (k : ℕ) → SharesRows s n s' n' k → s'.rows ++ n'.rows ≡ s.rows ++ n.rows
shares-together s n s' n' k shares = ap₂ (λ xs ys. xs ++ ys) shares.left_rows shares.right_rows ∙ take-append-drop k (s.rows ++ n.rows)

-- the first two share their rows anew
pub moves-here : (s n s' n' : VersionedRows) (k : ℕ) (ss : List VersionedRows) → AreChained (s ∷ n ∷ ss) → SharesRows s n s' n' k → KeepsRows (s ∷ n ∷ ss) (s' ∷ n' ∷ ss)
moves-here s n s' n' k ss chained shares = record {
  rows = sym (append_assoc s'.rows n'.rows (rows_of ss)) ∙ ap (λ rows. rows ++ rows_of ss) (shares-together s n s' n' k shares) ∙ append_assoc s.rows n.rows (rows_of ss);
  low = λ other. shares.low;
  high = λ other. ap (high_or ss) shares.high;
  chained = (shares.right_cut ∙ sym shares.left_cut, (subst (λ h. low_or ss h ≡ h) (sym shares.high) chained.1.0, chained.1.1));
  segments = refl;
}

-- ---- one step along the segments: those behind the first move rows, and then the first and the next share theirs anew

-- those behind the first
pub chained-behind : (s n : VersionedRows) (rest rs : List VersionedRows) → rest ≡ n ∷ rs → AreChained (s ∷ rest) → AreChained (n ∷ rs)
chained-behind s n rest rs is chained = subst AreChained is chained.1

pub count-behind : (n : VersionedRows) (rest rs : List VersionedRows) → rest ≡ n ∷ rs → length (rows_of rest) ≡ length n.rows + length (rows_of rs)
count-behind n rest rs is = ap (λ ss. length (rows_of ss)) is ∙ length-append n.rows (rows_of rs)

pub records-behind : (s n : VersionedRows) (rest rs : List VersionedRows) → rest ≡ n ∷ rs → records_of (s ∷ rest) ≡ all_records s.rows + records_of (n ∷ rs)
records-behind s n rest rs is = records-append s.rows (rows_of rest) ∙ ap (λ ss. all_records s.rows + records_of ss) is

-- they have room where all had room
pub room-behind : (s n : VersionedRows) (rest rs : List VersionedRows) → rest ≡ n ∷ rs → HaveRoom (records_of (s ∷ rest)) rest → HaveRoom (records_of (n ∷ rs)) (n ∷ rs)
room-behind s n rest rs is has =
    fewer-room (records_of (s ∷ rest)) (records_of (n ∷ rs)) (n ∷ rs) (omega (arith, records-behind s n rest rs is)) (subst (HaveRoom (records_of (s ∷ rest))) is has)

-- they still follow the first
pub next-follows : (s n m : VersionedRows) (rest rs ts : List VersionedRows) → rest ≡ n ∷ rs → AreChained (s ∷ rest) → KeepsRows (n ∷ rs) (m ∷ ts) → s.high ≡ m.low
next-follows s n m rest rs ts is chained moves = sym (moves.low s.high ∙ (ap (λ ss. low_or ss s.high) (sym is) ∙ chained.0))

-- the next one's records are some of those behind the first
pub records-of-next : (s n m : VersionedRows) (rest rs ts : List VersionedRows) → rest ≡ n ∷ rs → KeepsRows (n ∷ rs) (m ∷ ts) → all_records s.rows + all_records m.rows ≤ records_of (s ∷ rest)
records-of-next s n m rest rs ts is moves =
    omega (arith, records-append m.rows (rows_of ts), ap all_records moves.rows, records-behind s n rest rs is)

-- all move on
pub moves-on : (s n m s' m' : VersionedRows) (k : ℕ) (rest rs ts : List VersionedRows) → rest ≡ n ∷ rs → AreChained (s ∷ rest) → KeepsRows (n ∷ rs) (m ∷ ts) → SharesRows s m s' m' k → KeepsRows (s ∷ rest) (s' ∷ m' ∷ ts)
moves-on s n m s' m' k rest rs ts is chained moves shares =
    let behind = moves-behind s rest (m ∷ ts) chained (subst (λ ss. KeepsRows ss (m ∷ ts)) (sym is) moves) in
    moves-again (s ∷ rest) (s ∷ m ∷ ts) (s' ∷ m' ∷ ts) behind (moves-here s m s' m' k ts behind.chained shares)

-- the first gains rows
pub gained : (s n s' n' : VersionedRows) (k : ℕ) → SharesRows s n s' n' (length s.rows + k) → k ≤ length n.rows → length s'.rows ≡ length s.rows + k
gained s n s' n' k shares le =
    ap length shares.left_rows ∙ length-take-le (length s.rows + k) (s.rows ++ n.rows) (omega (arith, le, length-append s.rows n.rows))

-- the first loses rows
pub lost : (s n s' n' : VersionedRows) (k : ℕ) → SharesRows s n s' n' (length s.rows - k) → k ≤ length s.rows → length s'.rows + k ≡ length s.rows
lost s n s' n' k shares le =
    let left = ap length shares.left_rows ∙ length-take-le (length s.rows - k) (s.rows ++ n.rows) (omega (arith, length-append s.rows n.rows)) in
    omega (arith, left, le)

-- the room that is used: by those behind the first, and then by the first
pub room-used-left : (s n m s' m' : VersionedRows) (k : ℕ) (rest rs ts : List VersionedRows) → rest ≡ n ∷ rs → KeepsRows (n ∷ rs) (m ∷ ts) → UseRoom (records_of (n ∷ rs)) (n ∷ rs) (m ∷ ts)
    → s.spare ≤ s'.spare + all_records (take k m.rows) → m.spare ≤ m'.spare → UseRoom (records_of (s ∷ rest)) (s ∷ rest) (s' ∷ m' ∷ ts)
room-used-left s n m s' m' k rest rs ts is moves uses used kept =
    let le : records_of (n ∷ rs) ≤ records_of (s ∷ rest) = omega (arith, records-behind s n rest rs is) in
    let all = more-used (records_of (n ∷ rs)) (records_of (s ∷ rest)) (n ∷ rs) (m ∷ ts) le uses in
    let first : s.spare ≤ s'.spare + records_of (s ∷ rest) = omega (arith, used, records-take k m.rows, records-of-next s n m rest rs ts is moves) in
    (first, subst (λ ss. UseRoom (records_of (s ∷ rest)) ss (m' ∷ ts)) (sym is) (omega (arith, all.0, kept), all.1))

-- by those behind the first, which gives rows
pub room-used-right : (s n m m' : VersionedRows) (k : ℕ) (rest rs ts : List VersionedRows) → rest ≡ n ∷ rs → n.spare ≤ m.spare → UseRoom (records_of (n ∷ rs)) rs ts
    → m.spare ≤ m'.spare + all_records (drop k s.rows) → UseRoom (records_of (s ∷ rest)) rest (m' ∷ ts)
room-used-right s n m m' k rest rs ts is kept uses used =
    let le : records_of (n ∷ rs) ≤ records_of (s ∷ rest) = omega (arith, records-behind s n rest rs is) in
    let first : n.spare ≤ m'.spare + records_of (s ∷ rest) = omega (arith, kept, used, records-drop k s.rows, records-behind s n rest rs is) in
    subst (λ ss. UseRoom (records_of (s ∷ rest)) ss (m' ∷ ts)) (sym is) (first, more-used (records_of (n ∷ rs)) (records_of (s ∷ rest)) rs ts le uses)
