-- Two leaves, all rows of which come to the left one.
use Rattle.std.proofs.Common.{ap₂, ℕ, ◌≡◌, ◌+◌, ◌*◌, List, [], ◌∷◌, ◌++◌, length, take, drop, get_or, refl, sym, ap, ◌∙◌, subst, arith}
use Rattle.std.proofs.Math.Seq.{drop-append_seam}
use Rattle.std.proofs.lemmas.List.{append-nil, length-append, nil_from_length}
use Rattle.std.specs.List.{AllByRecursion}
use Rattle.graph_model.specs.declared.row.Key.{Key}
use Rattle.version_segment.specs.Rows.{VersionedRows, all_records, first_key_of}
use Rattle.density_tree.specs.Division.{evenly}
use Rattle.leaf_array.specs.Segments.{rows_of, records_of, low_or, high_or, AreChained, AreSame, BeginsAtRow, HaveRoom, UseRoom, KeepsRows, IsDivided}
use Rattle.leaf_array.specs.Leaves.{IsLeaf, IsEmpty, IsEmptyFrom, IsPacked, IsPlaced, KeepRoom, TakesAll, Merges}
use Rattle.leaf_array.proofs.SegmentLemmas.{records-append, fewer-room}
use Rattle.leaf_array.proofs.CountLemmas.{same-rows, same-length, same-low, same-high, same-chained}
use Rattle.leaf_array.proofs.LeafLemmas.{Follow, follow-of, follow-chained, follow-front, follow-behind, follow-both, own-low, no_key}
use Rattle.leaf_array.proofs.PairLemmas.{none-in-front, none-behind, rows-append, room-both, room-front, room-rest, high-append, some-low, any-low, any-high, placed-length, placed-room, placed-follow, front-count, all-parts, room-to-halve, enough-room, half-left}

-- ---- a leaf is packed

-- all rows stand in the first four segments when they are divided among them
pub is-packed : (n : ℕ) (ss ts : List VersionedRows) → IsLeaf ss → n ≡ length (rows_of ss) → IsDivided ss ts (evenly n 4 ++ evenly 0 4) → IsPacked ts
is-packed n ss ts leaf count divided =
    let front = front-count n 0 ts divided.shares in
    record {
      leaf = record { segments = divided.keeps.segments ∙ leaf.segments; chained = divided.keeps.chained };
      empty = nil_from_length (rows_of (drop 4 ts)) (omega (arith, front, count, ap length divided.keeps.rows, ap length (all-parts ts), length-append (rows_of (take 4 ts)) (rows_of (drop 4 ts))));
      begins = divided.begins;
    }

-- segments without rows that begin with their first row end where they begin
ends-at-once : (key : Key) (ss : List VersionedRows) → Follow key ss → AllByRecursion BeginsAtRow ss → rows_of ss ≡ [] → high_or ss key ≡ key
ends-at-once key [] follow begins none = refl
ends-at-once key (s ∷ ss) follow begins none =
    let here : s.low ≡ s.high = begins.0 ∙ ap (λ rows. first_key_of rows s.high) (none-in-front s.rows (rows_of ss) none) in
    ends-at-once s.high ss follow.1 begins.1 (none-behind s.rows (rows_of ss) none) ∙ (sym here ∙ follow.0)

begin-behind : (xs ys : List VersionedRows) → AllByRecursion BeginsAtRow (xs ++ ys) → AllByRecursion BeginsAtRow ys
begin-behind [] ys begins = begins
begin-behind (x ∷ xs) ys begins = begin-behind xs ys begins.1

begin-last : (xs ys : List VersionedRows) → length xs ≡ 4 → AllByRecursion BeginsAtRow (drop 1 (xs ++ ys)) → AllByRecursion BeginsAtRow ys
begin-last [] ys four begins = absurd (omega (arith, four))
begin-last (x ∷ xs) ys four begins = begin-behind xs ys begins

-- the first four segments of a packed leaf have its rows and its range
module _ (ss xs ys : List VersionedRows) (is : ss ≡ xs ++ ys) (four : length xs ≡ 4) (packed : IsPacked ss) where
  last-empty : rows_of ys ≡ []
  last-empty = ap rows_of (sym (ap (drop 4) is ∙ (ap (λ n. drop n (xs ++ ys)) (sym four) ∙ drop-append_seam xs ys))) ∙ packed.empty

  front-rows : rows_of xs ≡ rows_of ss
  front-rows = sym (ap rows_of is ∙ (rows-append xs ys ∙ (ap (λ rows. rows_of xs ++ rows) last-empty ∙ append-nil (rows_of xs))))

  all-follow : Follow (low_or (xs ++ ys) no_key) (xs ++ ys)
  all-follow = follow-of (low_or (xs ++ ys) no_key) (xs ++ ys) (own-low (xs ++ ys) no_key) (subst AreChained is packed.leaf.chained)

  front-high : (other : Key) → high_or xs other ≡ high_or ss other
  front-high other =
      let start = low_or (xs ++ ys) no_key in
      let cut = any-high xs 3 other start four in
      let ends = ends-at-once (high_or xs start) ys (follow-behind start xs ys all-follow) (begin-last xs ys four (subst (λ zs. AllByRecursion BeginsAtRow (drop 1 zs)) is packed.begins)) last-empty in
      let whole = ap (λ zs. high_or zs other) is ∙ high-append xs ys other in
      sym (whole ∙ (ap (high_or ys) cut ∙ (ends ∙ sym cut)))

-- ---- the right leaf's rows come to the left one

-- segments without rows are empty where they are put
placed-empty : (at : Key) (ss ts : List VersionedRows) → IsPlaced at ss ts → rows_of ss ≡ [] → AllByRecursion (IsEmpty at at) ts
placed-empty at [] [] placed none = tt
placed-empty at (s ∷ ss) (t ∷ ts) placed none = (
  record {
    begins = ap (λ x. x.low) placed.0;
    ends = ap (λ x. x.high) placed.0;
    rows = ap (λ x. x.rows) placed.0 ∙ none-in-front s.rows (rows_of ss) none;
  },
  placed-empty at ss ts placed.1 (none-behind s.rows (rows_of ss) none),
)
placed-empty at [] (t ∷ ts) placed none = absurd placed
placed-empty at (s ∷ ss) [] placed none = absurd placed

pub placed-both : (at : Key) (xs ys xs' ys' : List VersionedRows) → IsPlaced at xs xs' → IsPlaced at ys ys' → IsPlaced at (xs ++ ys) (xs' ++ ys')
placed-both at [] ys [] ys' front behind = behind
placed-both at (x ∷ xs) ys (x' ∷ xs') ys' front behind = (front.0, placed-both at xs ys xs' ys' front.1 behind)
placed-both at [] ys (x' ∷ xs') ys' front behind = absurd front
placed-both at (x ∷ xs) ys [] ys' front behind = absurd front

module _ (left right front free moved rest ends : List VersionedRows) (high : Key)
    (left_is : left ≡ front ++ free) (right_is : right ≡ moved ++ rest) (front_four : length front ≡ 4) (moved_four : length moved ≡ 4)
    (left_packed : IsPacked left) (right_packed : IsPacked right) (meet : (other : Key) → high_or left other ≡ low_or right other)
    (high_is : (other : Key) → high_or rest other ≡ high) (placed : IsPlaced high (free ++ rest) ends) where
  free-empty : rows_of (free ++ rest) ≡ []
  free-empty = rows-append free rest ∙ ap₂ (λ xs ys. xs ++ ys) (last-empty left front free left_is front_four left_packed) (last-empty right moved rest right_is moved_four right_packed)

  abbrev start : Key
  start = low_or (front ++ free) no_key

  meets : low_or (moved ++ rest) no_key ≡ high_or front start
  meets = sym (front-high left front free left_is front_four left_packed start ∙ (meet start ∙ (any-low right 7 start no_key right_packed.leaf.segments ∙ ap (λ ss. low_or ss no_key) right_is)))

  left-follows : Follow start (front ++ moved)
  left-follows = follow-both start front moved (follow-front start front free (all-follow left front free left_is front_four left_packed))
      (subst (λ k. Follow k moved) meets (follow-front (low_or (moved ++ rest) no_key) moved rest (all-follow right moved rest right_is moved_four right_packed)))

  high-of-right : (other : Key) → high ≡ high_or right other
  high-of-right other = sym (ap (λ ss. high_or ss other) right_is ∙ (high-append moved rest other ∙ high_is (high_or moved other)))

  last-segments : length (free ++ rest) ≡ 8
  last-segments = omega (arith, length-append free rest, ap length left_is, length-append front free, ap length right_is, length-append moved rest, front_four, moved_four, left_packed.leaf.segments, right_packed.leaf.segments)

  pub all-taken : TakesAll left right (front ++ moved) ends
  all-taken = record {
    left_leaf = record { segments = omega (arith, length-append front moved, front_four, moved_four); chained = follow-chained start (front ++ moved) left-follows };
    right_leaf = record { segments = placed-length high (free ++ rest) ends placed ∙ last-segments; chained = follow-chained high ends (placed-follow high (free ++ rest) ends placed) };
    rows = rows-append front moved ∙ ap₂ (λ xs ys. xs ++ ys) (front-rows left front free left_is front_four left_packed) (front-rows right moved rest right_is moved_four right_packed);
    low = λ other. some-low front moved 3 other front_four ∙ (sym (some-low front free 3 other front_four) ∙ ap (λ ss. low_or ss other) (sym left_is));
    high = λ other. high-append front moved other ∙ (front-high right moved rest right_is moved_four right_packed (high_or front other) ∙ any-high right 7 (high_or front other) other right_packed.leaf.segments);
    empty = λ other. subst (λ k. AllByRecursion (IsEmpty k k) ends) (high-of-right other) (placed-empty high (free ++ rest) ends placed free-empty);
  }

  pub room-taken : KeepRoom left right (front ++ moved) ends
  room-taken = λ records left_has right_has.
      let mine = subst (HaveRoom records) left_is left_has in
      let theirs = subst (HaveRoom records) right_is right_has in (
        room-both records front moved (room-front records front free mine) (room-front records moved rest theirs),
        placed-room records high (free ++ rest) ends placed (room-both records free rest (room-rest records front free mine) (room-rest records moved rest theirs)),
      )

-- ---- two leaves are merged

-- only room has changed
pub same-leaf : (old ready : List VersionedRows) → AreSame old ready → IsLeaf old → IsLeaf ready
same-leaf old ready same leaf = record { segments = same-length old ready same ∙ leaf.segments; chained = same-chained old ready same leaf.chained }

pub room-to-pack-left : (left right ready : List VersionedRows) → IsLeaf left → AreSame left ready → HaveRoom (16 * (records_of left + records_of right)) ready → HaveRoom (length ready * records_of ready) ready
room-to-pack-left left right ready leaf same has = room-to-halve left right ready leaf.segments same has

pub room-to-pack-right : (left right ready : List VersionedRows) → IsLeaf right → AreSame right ready → HaveRoom (16 * (records_of left + records_of right)) ready → HaveRoom (length ready * records_of ready) ready
room-to-pack-right left right ready leaf same has =
    room-to-halve right left ready leaf.segments same (fewer-room (16 * (records_of left + records_of right)) (16 * (records_of right + records_of left)) ready (omega arith) has)

module _ (old_left old_right ready_left ready_right packed_left packed_right : List VersionedRows)
    (left_same : AreSame old_left ready_left) (right_same : AreSame old_right ready_right)
    (left_keeps : KeepsRows ready_left packed_left) (right_keeps : KeepsRows ready_right packed_right) where
  left-rows : rows_of packed_left ≡ rows_of old_left
  left-rows = left_keeps.rows ∙ same-rows old_left ready_left left_same

  right-rows : rows_of packed_right ≡ rows_of old_right
  right-rows = right_keeps.rows ∙ same-rows old_right ready_right right_same

  right-high : (other : Key) → high_or packed_right other ≡ high_or old_right other
  right-high other = right_keeps.high other ∙ same-high old_right ready_right right_same other

  -- they are still neighbours when they are packed
  pub still-meet : ((other : Key) → high_or old_left other ≡ low_or old_right other) → (other : Key) → high_or packed_left other ≡ low_or packed_right other
  still-meet meet other = left_keeps.high other ∙ (same-high old_left ready_left left_same other ∙ (meet other
      ∙ sym (right_keeps.low other ∙ same-low old_right ready_right right_same other)))

  all-rows : (left right : List VersionedRows) → TakesAll packed_left packed_right left right → rows_of left ≡ rows_of old_left ++ rows_of old_right
  all-rows left right takes = takes.rows ∙ ap₂ (λ xs ys. xs ++ ys) left-rows right-rows

  -- there is room to divide all rows
  pub room-to-divide : (left right : List VersionedRows) → IsLeaf old_left → IsLeaf old_right
      → HaveRoom (16 * (records_of old_left + records_of old_right)) ready_left → HaveRoom (16 * (records_of old_left + records_of old_right)) ready_right
      → UseRoom (length ready_left * records_of ready_left) ready_left packed_left → UseRoom (length ready_right * records_of ready_right) ready_right packed_right
      → TakesAll packed_left packed_right left right → KeepRoom packed_left packed_right left right → HaveRoom (length left * records_of left) left
  room-to-divide left right left_leaf right_leaf left_has right_has left_uses right_uses takes room =
      let all = records_of old_left + records_of old_right in
      let mine = half-left all ready_left packed_left (same-length old_left ready_left left_same ∙ left_leaf.segments) (omega (arith, ap all_records (same-rows old_left ready_left left_same))) left_uses left_has in
      let theirs = half-left all ready_right packed_right (same-length old_right ready_right right_same ∙ right_leaf.segments) (omega (arith, ap all_records (same-rows old_right ready_right right_same))) right_uses right_has in
      let few = ap all_records (all-rows left right takes) ∙ records-append (rows_of old_left) (rows_of old_right) in
      enough-room all left takes.left_leaf.segments (omega (arith, few)) (8 * all) (omega arith) (room (8 * all) mine theirs).0

  pub is-merged : (left right divided : List VersionedRows) → TakesAll packed_left packed_right left right → IsDivided left divided (evenly (length (rows_of left)) (length left)) → Merges old_left old_right divided right
  is-merged left right divided takes shares = record {
    takes = record {
      left_leaf = record { segments = shares.keeps.segments ∙ takes.left_leaf.segments; chained = shares.keeps.chained };
      right_leaf = takes.right_leaf;
      rows = shares.keeps.rows ∙ all-rows left right takes;
      low = λ other. shares.keeps.low other ∙ (takes.low other ∙ (left_keeps.low other ∙ same-low old_left ready_left left_same other));
      high = λ other. shares.keeps.high other ∙ (takes.high other ∙ right-high other);
      empty = λ other. subst (λ k. AllByRecursion (IsEmpty k k) right) (right-high other) (takes.empty other);
    };
    shares = shares.shares ∙ ap₂ evenly (ap length (all-rows left right takes) ∙ length-append (rows_of old_left) (rows_of old_right)) takes.left_leaf.segments;
    begins = shares.begins;
  }

-- ---- new leaves

-- a leaf without rows begins and ends where it was made
new-low : (low high : Key) (ss : List VersionedRows) → IsEmptyFrom low high ss → (other : Key) → low_or ss other ≡ low
new-low low high [] new other = absurd (omega (arith, new.leaf.segments))
new-low low high (s ∷ ss) new other = ap (λ lows. get_or lows 0 low) new.lows

new-high : (low high : Key) (ss : List VersionedRows) → IsEmptyFrom low high ss → (other : Key) → high_or ss other ≡ high
new-high low high ss new other = any-high ss 7 other low new.leaf.segments ∙ new.ends

-- two that were made side by side are neighbours
pub new-neighbours : (low between high : Key) (ss ts : List VersionedRows) → IsEmptyFrom low between ss → IsEmptyFrom between high ts → (other : Key) → high_or ss other ≡ low_or ts other
new-neighbours low between high ss ts left right other = new-high low between ss left other ∙ sym (new-low between high ts right other)
