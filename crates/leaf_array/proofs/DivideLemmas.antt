-- Rows that are divided: the first segment gets its share, then the others get theirs, and then the fence key between is set.
use Rattle.std.proofs.Common.{ℕ, suc, ◌≡◌, ◌+◌, ◌*◌, ◌≤◌, List, [], ◌∷◌, length, take, drop, sum, sym, ap, ap₂, ◌∙◌, subst, arith}
use Rattle.std.proofs.Math.Nat.{mul-le-mul_left}
use Rattle.std.proofs.lemmas.List.{length-append}
use Rattle.std.proofs.lemmas.List.Sums.{sum_by-cons}
use Rattle.std.specs.List.{AllByRecursion}
use Rattle.version_segment.specs.Rows.{VersionedRows, SharesRows, all_records}
use Rattle.leaf_array.specs.Segments.{rows_of, records_of, counts_of, AreChained, BeginsAtRow, HaveRoom, UseRoom, KeepsRows, IsCut, IsDivided}
use Rattle.leaf_array.proofs.SegmentLemmas.{records-append, fewer-room, room-left, none-used, used-together, nothing-moves, moves-again, moves-behind, shares-together, moves-on, chained-behind, gained}

-- ---- the fence key between the first two

-- no row moves, and the second one begins with its first row
pub is-cut : (s n s' n' : VersionedRows) (rest rs : List VersionedRows) → rest ≡ n ∷ rs → AreChained (s ∷ rest) → SharesRows s n s' n' (length s.rows + 0) → IsCut (s ∷ rest) (s' ∷ n' ∷ rs)
is-cut s n s' n' rest rs is chained shares =
    let behind = chained-behind s n rest rs is chained in
    let together = sym (length-append s'.rows n'.rows) ∙ ap length (shares-together s n s' n' (length s.rows + 0) shares) ∙ length-append s.rows n.rows in
    let same : length s'.rows ≡ length s.rows = omega (arith, gained s n s' n' 0 shares (omega arith)) in
    let next : length n'.rows ≡ length n.rows = omega (arith, same, together) in
    record {
      keeps = moves-on s n n s' n' (length s.rows + 0) rest rs rs is chained (nothing-moves (n ∷ rs) behind) shares;
      same = ap₂ (λ x y. x ∷ y ∷ counts_of rs) same next ∙ ap (λ ss. length s.rows ∷ counts_of ss) (sym is);
      begins = λ rest-begin. (shares.right_cut, subst (λ ss. AllByRecursion BeginsAtRow (drop 1 ss)) is rest-begin);
    }

-- no room is used
pub cut-uses-none : (s n s' n' : VersionedRows) (rest rs : List VersionedRows) → rest ≡ n ∷ rs → s.spare ≤ s'.spare + all_records (take 0 n.rows) → n.spare ≤ n'.spare → UseRoom 0 (s ∷ rest) (s' ∷ n' ∷ rs)
cut-uses-none s n s' n' rest rs is first next =
    (omega (arith, first), subst (λ ss. UseRoom 0 ss (n' ∷ rs)) (sym is) (omega (arith, next), none-used rs 0))

-- ---- shares

sum-cons : (x : ℕ) (xs : List ℕ) → sum (x ∷ xs) ≡ x + sum xs
sum-cons x xs = sum_by-cons (λ n. n) x xs

-- shares of at most so many rows have at most so many each
pub few-shares : (most : ℕ) (counts : List ℕ) → AllByRecursion (λ count. count ≤ most) counts → sum counts ≤ most * length counts
few-shares most [] few = omega arith
few-shares most (count ∷ counts) few =
    let one : most * suc (length counts) ≡ most + most * length counts = omega arith in
    omega (arith, few.0, one, sum-cons count counts, few-shares most counts few.1)

-- before anything moves
module _ (k : ℕ) (f : VersionedRows) (ss r : List VersionedRows) (counts ks : List ℕ) (are : ss ≡ f ∷ r) (shares : counts ≡ k ∷ ks) where
  -- the first one's share are some of the rows
  pub first-share : sum counts ≡ length (rows_of ss) → k ≤ length (rows_of (f ∷ r))
  first-share total = omega (arith, ap sum shares ∙ sum-cons k ks, total, ap (λ xs. length (rows_of xs)) are)

  -- when the first has its share there is room for the others
  pub others-have-room : (most : ℕ) → sum counts ≡ length (rows_of ss) → length counts ≡ length ss → AllByRecursion (λ count. count ≤ most) counts
      → length (rows_of (f ∷ r)) ≤ k + most * length r
  others-have-room most total each few =
      let rest = few-shares most ks (subst (AllByRecursion (λ count. count ≤ most)) shares few).1 in
      let same : length ks ≡ length r = omega (arith, ap length are, ap length shares, each) in
      let split : sum counts ≡ k + sum ks = ap sum shares ∙ sum-cons k ks in
      let scaled : most * length ks ≡ most * length r = ap (λ n. most * n) same in
      omega (arith, rest, scaled, split, total, ap (λ xs. length (rows_of xs)) are)

  -- the room that the first one's moves may use
  pub room-here : HaveRoom (length ss * records_of ss) ss → HaveRoom (records_of (f ∷ r)) (f ∷ r)
  room-here has =
      let once : length ss * records_of ss ≡ records_of ss + length r * records_of ss = ap (λ n. n * records_of ss) (ap length are) ∙ omega arith in
      subst (λ xs. HaveRoom (records_of xs) xs) are (fewer-room (length ss * records_of ss) (records_of ss) ss (omega (arith, once)) has)

-- after the first one's moves
module _ (k : ℕ) (f f' : VersionedRows) (ss r r' : List VersionedRows) (counts ks : List ℕ) (are : ss ≡ f ∷ r) (shares : counts ≡ k ∷ ks) where
  -- the others' shares are the rows that are left
  pub shares-behind : sum counts ≡ length (rows_of ss) → KeepsRows (f ∷ r) (f' ∷ r') → length f'.rows ≡ k → sum ks ≡ length (rows_of r')
  shares-behind total moves has =
      let split : sum counts ≡ k + sum ks = ap sum shares ∙ sum-cons k ks in
      omega (arith, has, split, total, ap (λ xs. length (rows_of xs)) are, ap length moves.rows, length-append f'.rows (rows_of r'))

  pub each-behind : length counts ≡ length ss → KeepsRows (f ∷ r) (f' ∷ r') → length ks ≡ length r'
  each-behind each moves = omega (arith, ap length are, ap length shares, each, moves.segments)

  -- there is room for their moves
  pub room-behind-first : HaveRoom (length ss * records_of ss) ss → KeepsRows (f ∷ r) (f' ∷ r') → UseRoom (records_of (f ∷ r)) (f ∷ r) (f' ∷ r') → HaveRoom (length r' * records_of r') r'
  room-behind-first has moves uses =
      let all = records_of (f ∷ r) in
      let count : length r' ≡ length r = omega (arith, moves.segments) in
      let whole : length (f ∷ r) * all ≡ all + length r' * all = ap (λ n. suc n * all) (sym count) ∙ omega arith in
      let here = subst (λ xs. HaveRoom (length xs * records_of xs) xs) are has in
      let enough = subst (λ n. HaveRoom n (f ∷ r)) whole here in
      let left = room-left all (length r' * all) (f ∷ r) (f' ∷ r') uses enough in
      let fewer : records_of r' ≤ all = omega (arith, ap all_records moves.rows, records-append f'.rows (rows_of r')) in
      fewer-room (length r' * all) (length r' * records_of r') r' (mul-le-mul_left (length r') fewer) left.1

  -- all have their shares when the others have theirs and the second begins with its first row
  pub all-divided : (f'' : VersionedRows) (r'' rest : List VersionedRows) → KeepsRows (f ∷ r) (f' ∷ r') → length f'.rows ≡ k → IsDivided r' r'' ks → IsCut (f' ∷ r'') (f'' ∷ rest)
      → IsDivided ss (f'' ∷ rest) counts
  all-divided f'' r'' rest moves has divided cut =
      let behind = moves-behind f' r' r'' moves.chained divided.keeps in
      let all = moves-again (f ∷ r) (f' ∷ r') (f'' ∷ rest) moves (moves-again (f' ∷ r') (f' ∷ r'') (f'' ∷ rest) behind cut.keeps) in
      record {
        keeps = subst (λ xs. KeepsRows xs (f'' ∷ rest)) (sym are) all;
        shares = cut.same ∙ (ap₂ (λ x xs. x ∷ xs) has divided.shares ∙ sym shares);
        begins = cut.begins divided.begins;
      }

  -- the room that all moves use
  pub room-used : (f'' : VersionedRows) (r'' rest : List VersionedRows) → KeepsRows (f ∷ r) (f' ∷ r') → UseRoom (records_of (f ∷ r)) (f ∷ r) (f' ∷ r') → UseRoom (length r' * records_of r') r' r''
      → UseRoom 0 (f' ∷ r'') (f'' ∷ rest) → UseRoom (length ss * records_of ss) ss (f'' ∷ rest)
  room-used f'' r'' rest moves here behind cut =
      let all = records_of (f ∷ r) in
      let count : length r' ≡ length r = omega (arith, moves.segments) in
      let whole : length (f ∷ r) * all ≡ all + length r' * all = ap (λ n. suc n * all) (sym count) ∙ omega arith in
      let fewer : records_of r' ≤ all = omega (arith, ap all_records moves.rows, records-append f'.rows (rows_of r')) in
      let scaled = mul-le-mul_left (length r') fewer in
      let still : UseRoom (length r' * records_of r') (f' ∷ r') (f' ∷ r'') = (omega arith, behind) in
      let after = used-together (length r' * records_of r') 0 (length r' * all) (f' ∷ r') (f' ∷ r'') (f'' ∷ rest) (omega (arith, scaled)) still cut in
      let used = used-together all (length r' * all) (length (f ∷ r) * all) (f ∷ r) (f' ∷ r') (f'' ∷ rest) (omega (arith, whole)) here after in
      subst (λ xs. UseRoom (length xs * records_of xs) xs (f'' ∷ rest)) (sym are) used
