-- Segments that change places between two leaves.
use Rattle.std.proofs.Common.{ap₂, ℕ, zero, suc, ◌≡◌, ◌+◌, ◌-◌, ◌*◌, ◌/◌, ◌%◌, ◌<◌, ◌≤◌, cond, nat_lt, slice_get, IsSomeAnd, List, [], ◌∷◌, ◌++◌, length, take, drop, sum, get_or, refl, sym, ap, ◌∙◌, subst, arith}
use Rattle.std.proofs.Math.Nat.{div-add-mod}
use Rattle.std.proofs.lemmas.Bool.Decides.{nat_tests}
use Rattle.std.specs.List.{AllByRecursion}
use Rattle.std.proofs.Math.Seq.{take-append_seam, drop-append_seam}
use Rattle.std.proofs.lemmas.List.{append_assoc, append-nil, length-append, take-append-drop}
use Rattle.std.proofs.lemmas.List.Sums.{sum_by-cons}
use Rattle.density_tree.proofs.DivisionLemmas.{shares_are_all}
use Rattle.graph_model.specs.declared.row.Key.{Key}
use Rattle.version_segment.specs.Rows.{VersionedRows, all_records, first_key_of}
use Rattle.store_model.specs.Stamped.{StampedVersions}
use Rattle.density_tree.specs.Division.{evenly, share_of}
use Rattle.leaf_array.specs.Segments.{rows_of, records_of, counts_of, low_or, high_or, AreChained, AreSame, BeginsAtRow, HaveRoom, UseRoom, KeepsRows, IsDivided}
use Rattle.leaf_array.specs.Leaves.{IsLeaf, IsPlaced, KeepRoom, GivesHalf, Splits}
use Rattle.leaf_array.proofs.SegmentLemmas.{records-append, fewer-room, room-left}
use Rattle.leaf_array.proofs.CountLemmas.{same-rows, same-length, same-low, same-high}
use Rattle.leaf_array.proofs.LeafLemmas.{Follow, follow-of, follow-low, follow-chained, follow-front, follow-behind, follow-both, own-low, no_key}

-- ---- no rows

-- neither part of an empty list has anything
pub none-in-front : {X : Type 0} (xs ys : List X) → xs ++ ys ≡ [] → xs ≡ []
none-in-front [] ys none = refl
none-in-front (x ∷ xs) ys none = cc

pub none-behind : {X : Type 0} (xs ys : List X) → xs ++ ys ≡ [] → ys ≡ []
none-behind [] ys none = none
none-behind (x ∷ xs) ys none = cc

-- rows of segments behind one another
pub rows-append : (xs ys : List VersionedRows) → rows_of (xs ++ ys) ≡ rows_of xs ++ rows_of ys
rows-append [] ys = refl
rows-append (x ∷ xs) ys = ap (λ rows. x.rows ++ rows) (rows-append xs ys) ∙ sym (append_assoc x.rows (rows_of xs) (rows_of ys))

-- ---- room

pub room-both : (records : ℕ) (xs ys : List VersionedRows) → HaveRoom records xs → HaveRoom records ys → HaveRoom records (xs ++ ys)
room-both records [] ys front behind = behind
room-both records (x ∷ xs) ys front behind = (front.0, room-both records xs ys front.1 behind)

pub room-front : (records : ℕ) (xs ys : List VersionedRows) → HaveRoom records (xs ++ ys) → HaveRoom records xs
room-front records [] ys has = tt
room-front records (x ∷ xs) ys has = (has.0, room-front records xs ys has.1)

pub room-rest : (records : ℕ) (xs ys : List VersionedRows) → HaveRoom records (xs ++ ys) → HaveRoom records ys
room-rest records [] ys has = has
room-rest records (x ∷ xs) ys has = room-rest records xs ys has.1

-- ---- fence keys

pub high-append : (xs ys : List VersionedRows) (other : Key) → high_or (xs ++ ys) other ≡ high_or ys (high_or xs other)
high-append [] ys other = refl
high-append (x ∷ xs) ys other = high-append xs ys x.high

-- segments have fence keys of their own
pub some-low : (xs ys : List VersionedRows) (n : ℕ) (other : Key) → length xs ≡ suc n → low_or (xs ++ ys) other ≡ low_or xs other
some-low [] ys n other some = absurd (omega (arith, some))
some-low (x ∷ xs) ys n other some = refl

pub any-low : (xs : List VersionedRows) (n : ℕ) (one other : Key) → length xs ≡ suc n → low_or xs one ≡ low_or xs other
any-low [] n one other some = absurd (omega (arith, some))
any-low (x ∷ xs) n one other some = refl

pub any-high : (xs : List VersionedRows) (n : ℕ) (one other : Key) → length xs ≡ suc n → high_or xs one ≡ high_or xs other
any-high [] n one other some = absurd (omega (arith, some))
any-high (x ∷ xs) n one other some = refl

-- of four segments the first and the last
pub first-low : (xs : List VersionedRows) (x : VersionedRows) (other : Key) → length xs ≡ 4 → x ≡ get_or xs 0 x → low_or xs other ≡ x.low
first-low [] x other four at = absurd (omega (arith, four))
first-low (y ∷ ys) x other four at = ap (λ s. s.low) (sym at)

pub last-high : (xs : List VersionedRows) (x : VersionedRows) (other : Key) → length xs ≡ 4 → x ≡ get_or xs 3 x → high_or xs other ≡ x.high
last-high [] x other four at = absurd (omega (arith, four))
last-high (a ∷ []) x other four at = absurd (omega (arith, four))
last-high (a ∷ b ∷ []) x other four at = absurd (omega (arith, four))
last-high (a ∷ b ∷ c ∷ []) x other four at = absurd (omega (arith, four))
last-high (a ∷ b ∷ c ∷ d ∷ []) x other four at = ap (λ s. s.high) (sym at)
last-high (a ∷ b ∷ c ∷ d ∷ e ∷ rest) x other four at = absurd (omega (arith, four))

-- read from segments that have come from elsewhere
pub low-read : (xs outs : List VersionedRows) (x : VersionedRows) (low : Key) → outs ≡ xs → length xs ≡ 4 → x ≡ get_or outs 0 x → low ≡ (get_or outs 0 x).low → (other : Key) → low_or xs other ≡ low
low-read xs outs x low is four at read = λ other.
    first-low xs x other four (at ∙ ap (λ ss. get_or ss 0 x) is) ∙ sym (read ∙ ap (λ s. s.low) (sym at))

pub high-read : (xs outs : List VersionedRows) (x : VersionedRows) (high : Key) → outs ≡ xs → length xs ≡ 4 → x ≡ get_or outs 3 x → high ≡ (get_or outs 3 x).high → (other : Key) → high_or xs other ≡ high
high-read xs outs x high is four at read = λ other.
    last-high xs x other four (at ∙ ap (λ ss. get_or ss 3 x) is) ∙ sym (read ∙ ap (λ s. s.high) (sym at))

-- ---- segments that are empty at a key

pub placed-length : (at : Key) (ss ts : List VersionedRows) → IsPlaced at ss ts → length ts ≡ length ss
placed-length at [] [] placed = refl
placed-length at (s ∷ ss) (t ∷ ts) placed = omega (arith, placed-length at ss ts placed.1)
placed-length at [] (t ∷ ts) placed = absurd placed
placed-length at (s ∷ ss) [] placed = absurd placed

placed-rows : (at : Key) (ss ts : List VersionedRows) → IsPlaced at ss ts → rows_of ts ≡ rows_of ss
placed-rows at [] [] placed = refl
placed-rows at (s ∷ ss) (t ∷ ts) placed = ap₂ (λ xs ys. xs ++ ys) (ap (λ x. x.rows) placed.0) (placed-rows at ss ts placed.1)
placed-rows at [] (t ∷ ts) placed = absurd placed
placed-rows at (s ∷ ss) [] placed = absurd placed

pub placed-room : (records : ℕ) (at : Key) (ss ts : List VersionedRows) → IsPlaced at ss ts → HaveRoom records ss → HaveRoom records ts
placed-room records at [] [] placed has = tt
placed-room records at (s ∷ ss) (t ∷ ts) placed has =
    (omega (arith, has.0, ap (λ x. x.spare) placed.0), placed-room records at ss ts placed.1 has.1)
placed-room records at [] (t ∷ ts) placed has = absurd placed
placed-room records at (s ∷ ss) [] placed has = absurd placed

pub placed-follow : (at : Key) (ss ts : List VersionedRows) → IsPlaced at ss ts → Follow at ts
placed-follow at [] [] placed = tt
placed-follow at (s ∷ ss) (t ∷ ts) placed =
    (ap (λ x. x.low) placed.0, subst (λ k. Follow k ts) (sym (ap (λ x. x.high) placed.0)) (placed-follow at ss ts placed.1))
placed-follow at [] (t ∷ ts) placed = absurd placed
placed-follow at (s ∷ ss) [] placed = absurd placed

placed-high : (at : Key) (ss ts : List VersionedRows) → IsPlaced at ss ts → high_or ts at ≡ at
placed-high at [] [] placed = refl
placed-high at (s ∷ ss) (t ∷ ts) placed = ap (high_or ts) (ap (λ x. x.high) placed.0) ∙ placed-high at ss ts placed.1
placed-high at [] (t ∷ ts) placed = absurd placed
placed-high at (s ∷ ss) [] placed = absurd placed

-- the first of more segments is put at the key
pub first-placed : (at : Key) (ss rest ts : List VersionedRows) (s t : VersionedRows) → ss ≡ s ∷ rest → t ≡ record s { low = at; high = at } → IsPlaced at rest ts → IsPlaced at ss (t ∷ ts)
first-placed at ss rest ts s t is here behind = subst (λ xs. IsPlaced at xs (t ∷ ts)) (sym is) (here, behind)

-- ---- a half is given away

module _ (left right front back free rest others outs ends : List VersionedRows) (low high : Key)
    (left_is : left ≡ front ++ back) (right_is : right ≡ free ++ rest) (front_four : length front ≡ 4) (free_four : length free ≡ 4)
    (left_leaf : IsLeaf left) (right_leaf : IsLeaf right) (none : rows_of right ≡ [])
    (low_is : (other : Key) → low_or back other ≡ low) (high_is : (other : Key) → high_or back other ≡ high)
    (placed : IsPlaced low free others) (placed_rest : IsPlaced high rest ends) (outs_is : outs ≡ back) where
  back-four : length back ≡ 4
  back-four = omega (arith, ap length left_is, length-append front back, left_leaf.segments, front_four)

  rest-four : length rest ≡ 4
  rest-four = omega (arith, ap length right_is, length-append free rest, right_leaf.segments, free_four)

  no-rows : rows_of free ++ rows_of rest ≡ []
  no-rows = sym (rows-append free rest) ∙ (ap rows_of (sym right_is) ∙ none)

  others-no-rows : rows_of others ≡ []
  others-no-rows = placed-rows low free others placed ∙ none-in-front (rows_of free) (rows_of rest) no-rows

  ends-no-rows : rows_of ends ≡ []
  ends-no-rows = placed-rows high rest ends placed_rest ∙ none-behind (rows_of free) (rows_of rest) no-rows

  abbrev start : Key
  start = low_or (front ++ back) no_key

  all-follow : Follow start (front ++ back)
  all-follow = follow-of start (front ++ back) (own-low (front ++ back) no_key) (subst AreChained left_is left_leaf.chained)

  meets : high_or front start ≡ low
  meets = sym (follow-low (high_or front start) back (follow-behind start front back all-follow)) ∙ low_is (high_or front start)

  back-follows : Follow low back
  back-follows = subst (λ k. Follow k back) meets (follow-behind start front back all-follow)

  left-follows : Follow start (front ++ others)
  left-follows = follow-both start front others (follow-front start front back all-follow) (subst (λ k. Follow k others) (sym meets) (placed-follow low free others placed))

  right-follows : Follow low (back ++ ends)
  right-follows = follow-both low back ends back-follows (subst (λ k. Follow k ends) (sym (high_is low)) (placed-follow high rest ends placed_rest))

  pub half-given : GivesHalf left (front ++ others) (outs ++ ends) low
  half-given = subst (λ xs. GivesHalf left (front ++ others) (xs ++ ends) low) (sym outs_is) (record {
    left_leaf = record {
      segments = omega (arith, length-append front others, front_four, free_four, placed-length low free others placed);
      chained = follow-chained start (front ++ others) left-follows;
    };
    right_leaf = record {
      segments = omega (arith, length-append back ends, back-four, rest-four, placed-length high rest ends placed_rest);
      chained = follow-chained low (back ++ ends) right-follows;
    };
    left_rows = rows-append front others ∙ (ap (λ rows. rows_of front ++ rows) others-no-rows ∙ (append-nil (rows_of front)
        ∙ ap rows_of (sym (ap (take 4) left_is ∙ (ap (λ n. take n (front ++ back)) (sym front_four) ∙ take-append_seam front back)))));
    right_rows = rows-append back ends ∙ (ap (λ rows. rows_of back ++ rows) ends-no-rows ∙ (append-nil (rows_of back)
        ∙ ap rows_of (sym (ap (drop 4) left_is ∙ (ap (λ n. drop n (front ++ back)) (sym front_four) ∙ drop-append_seam front back)))));
    low = λ other. some-low front others 3 other front_four ∙ (sym (some-low front back 3 other front_four) ∙ ap (λ ss. low_or ss other) (sym left_is));
    left_high = λ other. high-append front others other ∙ (any-high others 3 (high_or front other) low (placed-length low free others placed ∙ free_four) ∙ placed-high low free others placed);
    right_low = λ other. some-low back ends 3 other back-four ∙ low_is other;
    begin = λ other. ap (λ ss. low_or ss other) (ap (drop 4) left_is ∙ (ap (λ n. drop n (front ++ back)) (sym front_four) ∙ drop-append_seam front back)) ∙ low_is other;
    high = λ other. high-append back ends other ∙ (any-high ends 3 (high_or back other) high (placed-length high rest ends placed_rest ∙ rest-four) ∙ (placed-high high rest ends placed_rest
        ∙ sym (ap (λ ss. high_or ss other) left_is ∙ (high-append front back other ∙ high_is (high_or front other)))));
  })

  pub half-room : KeepRoom left right (front ++ others) (outs ++ ends)
  half-room = λ records left_has right_has.
      let mine = subst (HaveRoom records) left_is left_has in
      let theirs = subst (HaveRoom records) right_is right_has in (
        room-both records front others (room-front records front back mine) (placed-room records low free others placed (room-front records free rest theirs)),
        subst (λ xs. HaveRoom records (xs ++ ends)) (sym outs_is) (room-both records back ends (room-rest records front back mine) (placed-room records high rest ends placed_rest (room-rest records free rest theirs))),
      )

-- ---- a leaf is split

-- the shares are all rows
pub sum-of-counts : (ss : List VersionedRows) → sum (counts_of ss) ≡ length (rows_of ss)
sum-of-counts [] = refl
sum-of-counts (s ∷ ss) = sum_by-cons (λ n. n) (length s.rows) (counts_of ss) ∙ (ap (λ n. length s.rows + n) (sum-of-counts ss) ∙ sym (length-append s.rows (rows_of ss)))

counts-take : (k : ℕ) (ss : List VersionedRows) → counts_of (take k ss) ≡ take k (counts_of ss)
counts-take zero ss = refl
counts-take (suc k) [] = refl
counts-take (suc k) (s ∷ ss) = ap (λ ns. length s.rows ∷ ns) (counts-take k ss)

-- as many rows stand in the first four segments as were divided among them
pub front-count : (n m : ℕ) (ss : List VersionedRows) → counts_of ss ≡ evenly n 4 ++ evenly m 4 → length (rows_of (take 4 ss)) ≡ n
front-count n m ss shares =
    sym (sum-of-counts (take 4 ss)) ∙ (ap sum (counts-take 4 ss ∙ (ap (take 4) shares ∙ take-append_seam (evenly n 4) (evenly m 4))) ∙ shares_are_all n 4 (omega arith))

pub all-parts : (ss : List VersionedRows) → rows_of (take 4 ss) ++ rows_of (drop 4 ss) ≡ rows_of ss
all-parts ss = sym (rows-append (take 4 ss) (drop 4 ss)) ∙ ap rows_of (take-append-drop 4 ss)

-- room for all records, sixteen times, is room for a division of the eight segments
pub enough-room : (records : ℕ) (ss : List VersionedRows) → length ss ≡ 8 → records_of ss ≤ records → (more : ℕ) → 8 * records ≤ more → HaveRoom more ss → HaveRoom (length ss * records_of ss) ss
enough-room records ss eight few more le has =
    fewer-room more (length ss * records_of ss) ss (omega (arith, ap (λ n. n * records_of ss) eight, few, le)) has

-- and when it is used there is still half of it
pub half-left : (records : ℕ) (ss ts : List VersionedRows) → length ss ≡ 8 → records_of ss ≤ records → UseRoom (length ss * records_of ss) ss ts → HaveRoom (16 * records) ss → HaveRoom (8 * records) ts
half-left records ss ts eight few uses has =
    let used : length ss * records_of ss ≤ 8 * records = omega (arith, ap (λ n. n * records_of ss) eight, few) in
    room-left (length ss * records_of ss) (8 * records) ss ts uses
    (fewer-room (16 * records) (length ss * records_of ss + 8 * records) ss (omega (arith, used)) has)

-- before the division of the left leaf
pub room-to-halve : (old free ready : List VersionedRows) → length old ≡ 8 → AreSame old ready → HaveRoom (16 * (records_of old + records_of free)) ready → HaveRoom (length ready * records_of ready) ready
room-to-halve old free ready eight same has =
    enough-room (records_of old + records_of free) ready (same-length old ready same ∙ eight) (omega (arith, ap all_records (same-rows old ready same)))
    (16 * (records_of old + records_of free)) (omega arith) has

-- and of the halves
pub room-for-halves : (old free ready free' halved left right : List VersionedRows) (key : Key) → length old ≡ 8 → AreSame old ready
    → HaveRoom (16 * (records_of old + records_of free)) ready → HaveRoom (16 * (records_of old + records_of free)) free'
    → KeepsRows ready halved → UseRoom (length ready * records_of ready) ready halved → GivesHalf halved left right key → KeepRoom halved free' left right
    → HaveRoom (length left * records_of left) left × HaveRoom (length right * records_of right) right
room-for-halves old free ready free' halved left right key eight same has has_free keeps uses gives room =
    let all = records_of old + records_of free in
    let rows = ap all_records (same-rows old ready same) in
    let mine = half-left all ready halved (same-length old ready same ∙ eight) (omega (arith, rows)) uses has in
    let theirs = fewer-room (16 * all) (8 * all) free' (omega arith) has_free in
    let both = room (8 * all) mine theirs in
    let parts = sym (records-append (rows_of (take 4 halved)) (rows_of (drop 4 halved))) ∙ (ap all_records (all-parts halved ∙ keeps.rows) ∙ rows) in
    let left_few : records_of left ≤ all = omega (arith, ap all_records gives.left_rows, parts) in
    let right_few : records_of right ≤ all = omega (arith, ap all_records gives.right_rows, parts) in (
      enough-room all left gives.left_leaf.segments left_few (8 * all) (omega arith) both.0,
      enough-room all right gives.right_leaf.segments right_few (8 * all) (omega arith) both.1,
    )

-- of four segments that begin with their first rows the first begins with the first row of all
some-share : (q r m : ℕ) → 4 * q + r ≡ m → 1 ≤ m → r < 4 → 1 ≤ cond (nat_lt 0 r) (q + 1) q
some-share q r m all some few = grind (arith, nat_tests)

second-half : (n m : ℕ) (halved : List VersionedRows) (key : Key) → counts_of halved ≡ evenly n 4 ++ evenly m 4 → AllByRecursion BeginsAtRow (drop 1 halved) → 1 ≤ m → ((other : Key) → low_or (drop 4 halved) other ≡ key)
    → IsSomeAnd (slice_get (rows_of (drop 4 halved)) 0) (λ row. key ≡ row.0)
second-half n m (a ∷ b ∷ c ∷ d ∷ s ∷ rest) key shares begins some begin =
    let count : length s.rows ≡ share_of m 4 0 = ap (λ ns. get_or ns 4 0) shares in
    first s.rows (omega (arith, count, some-share (m / 4) (m % 4) m (div-add-mod m 4) some (omega arith))) (sym (begin key) ∙ begins.1.1.1.0)
  where
    first : (rows : List (Key × StampedVersions)) → 1 ≤ length rows → key ≡ first_key_of rows s.high → IsSomeAnd (slice_get (rows ++ rows_of rest) 0) (λ row. key ≡ row.0)
    first [] some e = absurd (omega (arith, some))
    first (r ∷ rows) some e = e
second-half n m [] key shares begins some begin = absurd (omega (arith, ap length shares))
second-half n m (a ∷ []) key shares begins some begin = absurd (omega (arith, ap length shares))
second-half n m (a ∷ b ∷ []) key shares begins some begin = absurd (omega (arith, ap length shares))
second-half n m (a ∷ b ∷ c ∷ []) key shares begins some begin = absurd (omega (arith, ap length shares))
second-half n m (a ∷ b ∷ c ∷ d ∷ []) key shares begins some begin = absurd (omega (arith, ap length shares))

read-behind : (xs ys : List (Key × StampedVersions)) (n : ℕ) → length xs ≡ n → slice_get (xs ++ ys) n ≡ slice_get ys 0
read-behind [] ys zero e = refl
read-behind [] ys (suc n) e = absurd (omega (arith, e))
read-behind (x ∷ xs) ys zero e = absurd (omega (arith, e))
read-behind (x ∷ xs) ys (suc n) e = read-behind xs ys n (omega (arith, e))

module _ (old ready halved left left' right right' : List VersionedRows) (key : Key) (n m : ℕ)
    (same : AreSame old ready) (divided : IsDivided ready halved (evenly n 4 ++ evenly m 4)) (gives : GivesHalf halved left right key)
    (left_divided : IsDivided left left' (evenly (length (rows_of left)) (length left))) (right_divided : IsDivided right right' (evenly (length (rows_of right)) (length right)))
    (total : n + m ≡ length (rows_of old)) (half : m ≡ length (rows_of old) / 2) (some : 1 ≤ m) where
  all-rows : rows_of halved ≡ rows_of old
  all-rows = divided.keeps.rows ∙ same-rows old ready same

  left-count : length (rows_of left) ≡ n
  left-count = ap length gives.left_rows ∙ front-count n m halved divided.shares

  both : rows_of left ++ rows_of right ≡ rows_of old
  both = ap₂ (λ xs ys. xs ++ ys) gives.left_rows gives.right_rows ∙ (all-parts halved ∙ all-rows)

  right-count : length (rows_of right) ≡ m
  right-count = omega (arith, ap length both, length-append (rows_of left) (rows_of right), left-count, total)

  pub is-split : Splits old left' right' key
  is-split = record {
    left_leaf = record { segments = left_divided.keeps.segments ∙ gives.left_leaf.segments; chained = left_divided.keeps.chained };
    right_leaf = record { segments = right_divided.keeps.segments ∙ gives.right_leaf.segments; chained = right_divided.keeps.chained };
    rows = ap₂ (λ xs ys. xs ++ ys) left_divided.keeps.rows right_divided.keeps.rows ∙ both;
    left_shares = left_divided.shares ∙ ap₂ evenly (left-count ∙ omega (arith, total, half)) gives.left_leaf.segments;
    right_shares = right_divided.shares ∙ ap₂ evenly (right-count ∙ half) gives.right_leaf.segments;
    low = λ other. left_divided.keeps.low other ∙ (gives.low other ∙ (divided.keeps.low other ∙ same-low old ready same other));
    left_high = λ other. left_divided.keeps.high other ∙ gives.left_high other;
    right_low = λ other. right_divided.keeps.low other ∙ gives.right_low other;
    high = λ other. right_divided.keeps.high other ∙ (gives.high other ∙ (divided.keeps.high other ∙ same-high old ready same other));
    key_is =
        let place : length (rows_of left) ≡ length (rows_of old) - length (rows_of old) / 2 = omega (arith, left-count, total, half) in
        let at : slice_get (rows_of old) (length (rows_of old) - length (rows_of old) / 2) ≡ slice_get (rows_of (drop 4 halved)) 0 =
        ap (λ rows. slice_get rows (length (rows_of old) - length (rows_of old) / 2)) (sym both) ∙ read-behind (rows_of left) (rows_of right) _ place ∙ ap (λ rows. slice_get rows 0) gives.right_rows in
        subst (λ o. IsSomeAnd o (λ row. key ≡ row.0)) (sym at) (second-half n m halved key divided.shares divided.begins some gives.begin);
    left_begins = left_divided.begins;
    right_begins = right_divided.begins;
  }
