-- Parts of a leaf: what holds of the whole when the rows of a part are divided anew.
use Rattle.std.proofs.Common.{ap₂, ℕ, zero, suc, ◌≡◌, ◌+◌, ◌*◌, ◌/◌, ◌%◌, ◌≤◌, List, [], ◌∷◌, ◌++◌, length, take, drop, map, cond, nat_lt, refl, sym, ap, ◌∙◌, subst, arith}
use Rattle.std.proofs.Math.Nat.{div-add-mod, mul-le-mul_left}
use Rattle.std.proofs.Math.Seq.{take-append_seam, drop-append_seam}
use Rattle.std.proofs.lemmas.Bool.Decides.{nat_tests}
use Rattle.std.proofs.lemmas.List.{append_assoc, length-append}
use Rattle.std.proofs.lemmas.List.FromFn.{length-map-range_with_len}
use Rattle.std.specs.List.{AllByRecursion, range_with_len}
use Rattle.std.specs.Prelude.{Result, Ok, Err, OnOk, OnErr}
use Rattle.graph_model.specs.declared.row.Key.{Key}
use Rattle.version_segment.specs.Rows.{VersionedRows, all_records, first_key_of}
use Rattle.density_tree.specs.declared.window.Window.{Window}
use Rattle.density_tree.specs.Division.{share_of, evenly}
use Rattle.leaf_array.specs.Segments.{rows_of, records_of, counts_of, low_or, high_or, AreChained, BeginsAtRow, AreSame, HaveRoom, KeepsRows, IsDivided}
use Rattle.leaf_array.specs.Leaves.{IsLeaf, SpreadsWindow, window_of}
use Rattle.leaf_array.proofs.CountLemmas.{same-again, same-rows, same-length, same-low, same-high, same-chained}

-- ---- answers of calls that may want memory

pub on_ok : {X E : Type 0} (P Q : Type 0) (r : Result X E) → OnOk r P → (P → Q) → OnOk r Q
on_ok P Q (Ok x) has then = then has
on_ok P Q (Err e) has then = tt

pub on_err : {X E : Type 0} (P Q : Type 0) (r : Result X E) → OnErr r P → (P → Q) → OnErr r Q
on_err P Q (Ok x) has then = tt
on_err P Q (Err e) has then = then has

-- ---- even shares

few-by-parts : (q r k segs rows : ℕ) → 1 ≤ segs → segs * q + r ≡ rows → rows ≤ 32 * segs → (32 ≤ q → segs * 32 ≤ segs * q) → (33 ≤ q → segs * 33 ≤ segs * q) → cond (nat_lt k r) (q + 1) q ≤ 32
few-by-parts q r k segs rows some all few full more = grind (arith, nat_tests, full, more)

-- of few rows each segment has few
share-few : (rows segs k : ℕ) → 1 ≤ segs → rows ≤ 32 * segs → share_of rows segs k ≤ 32
share-few rows segs k some few =
    few-by-parts (rows / segs) (rows % segs) k segs rows some (div-add-mod rows segs) few (λ h. mul-le-mul_left segs h) (λ h. mul-le-mul_left segs h)

all-few : (f : ℕ → ℕ) (most from n : ℕ) → ((k : ℕ) → f k ≤ most) → AllByRecursion (λ count. count ≤ most) (map f (range_with_len from n))
all-few f most from zero few = tt
all-few f most from (suc n) few = (few from, all-few f most (from + 1) n few)

pub shares-few : (rows segs : ℕ) → 1 ≤ segs → rows ≤ 32 * segs → AllByRecursion (λ count. count ≤ 32) (evenly rows segs)
shares-few rows segs some few = all-few (share_of rows segs) 32 0 segs (λ k. share-few rows segs k some few)

pub one-share-each : (rows segs : ℕ) → length (evenly rows segs) ≡ segs
one-share-each rows segs = length-map-range_with_len (share_of rows segs) 0 segs

-- ---- after memory is taken

-- there is as much room for as many records as there are
pub room-for-same : (n : ℕ) (ss ts : List VersionedRows) → n ≡ length ss → AreSame ss ts → HaveRoom (n * records_of ss) ts → HaveRoom (length ts * records_of ts) ts
room-for-same n ss ts count same has =
    let times : length ts ≡ n = same-length ss ts same ∙ sym count in
    subst (λ m. HaveRoom m ts) (ap₂ (λ x y. x * all_records y) (sym times) (sym (same-rows ss ts same))) has

-- what is divided then is divided from before
pub divided-since : (ss ts us : List VersionedRows) (counts : List ℕ) → AreSame ss ts → IsDivided ts us counts → IsDivided ss us counts
divided-since ss ts us counts same divided =
    let keeps = divided.keeps in
    record {
      keeps = record {
        rows = keeps.rows ∙ same-rows ss ts same;
        low = λ other. keeps.low other ∙ same-low ss ts same other;
        high = λ other. keeps.high other ∙ same-high ss ts same other;
        chained = keeps.chained;
        segments = keeps.segments ∙ same-length ss ts same;
      };
      shares = divided.shares;
      begins = divided.begins;
    }

same-counts : (ss ts : List VersionedRows) → AreSame ss ts → counts_of ts ≡ counts_of ss
same-counts [] [] same = refl
same-counts (s ∷ ss) (t ∷ ts) same = λ i. length (same.0.rows i) ∷ same-counts ss ts same.1 i
same-counts [] (t ∷ ts) same = absurd same
same-counts (s ∷ ss) [] same = absurd same

same-begins : (n : ℕ) (ss ts : List VersionedRows) → AreSame ss ts → AllByRecursion BeginsAtRow (drop n ss) → AllByRecursion BeginsAtRow (drop n ts)
same-begins n [] [] same begin = begin
same-begins zero (s ∷ ss) (t ∷ ts) same begin = (same.0.low ∙ begin.0 ∙ (λ i. first_key_of (sym same.0.rows i) (sym same.0.high i)), same-begins zero ss ts same.1 begin.1)
same-begins (suc n) (s ∷ ss) (t ∷ ts) same begin = same-begins n ss ts same.1 begin
same-begins n [] (t ∷ ts) same begin = absurd same
same-begins n (s ∷ ss) [] same begin = absurd same

-- and is still, where only room for records has changed since
pub divided-still : (ss ts us : List VersionedRows) (counts : List ℕ) → IsDivided ss ts counts → AreSame ts us → IsDivided ss us counts
divided-still ss ts us counts divided same =
    let keeps = divided.keeps in
    record {
      keeps = record {
        rows = same-rows ts us same ∙ keeps.rows;
        low = λ other. same-low ts us same other ∙ keeps.low other;
        high = λ other. same-high ts us same other ∙ keeps.high other;
        chained = same-chained ts us same keeps.chained;
        segments = same-length ts us same ∙ keeps.segments;
      };
      shares = same-counts ts us same ∙ divided.shares;
      begins = same-begins 1 ts us same divided.begins;
    }

-- ---- segments that follow a key

-- the first begins at the key, and each ends where the next one begins
abbrev pub Follow : Key → List VersionedRows → Type 0
Follow key [] = Unit {0}
Follow key (s ∷ ss) = (s.low ≡ key) × Follow s.high ss

pub follow-of : (key : Key) (ss : List VersionedRows) → low_or ss key ≡ key → AreChained ss → Follow key ss
follow-of key [] low chained = tt
follow-of key (s ∷ ss) low chained = (low, follow-of s.high ss chained.0 chained.1)

pub follow-low : (key : Key) (ss : List VersionedRows) → Follow key ss → low_or ss key ≡ key
follow-low key [] follow = refl
follow-low key (s ∷ ss) follow = follow.0

pub follow-chained : (key : Key) (ss : List VersionedRows) → Follow key ss → AreChained ss
follow-chained key [] follow = tt
follow-chained key (s ∷ ss) follow = (follow-low s.high ss follow.1, follow-chained s.high ss follow.1)

pub follow-front : (key : Key) (xs ys : List VersionedRows) → Follow key (xs ++ ys) → Follow key xs
follow-front key [] ys follow = tt
follow-front key (x ∷ xs) ys follow = (follow.0, follow-front x.high xs ys follow.1)

pub follow-behind : (key : Key) (xs ys : List VersionedRows) → Follow key (xs ++ ys) → Follow (high_or xs key) ys
follow-behind key [] ys follow = follow
follow-behind key (x ∷ xs) ys follow = follow-behind x.high xs ys follow.1

pub follow-both : (key : Key) (xs ys : List VersionedRows) → Follow key xs → Follow (high_or xs key) ys → Follow key (xs ++ ys)
follow-both key [] ys front behind = behind
follow-both key (x ∷ xs) ys front behind = (front.0, follow-both x.high xs ys front.1 behind)

-- all follow where the first begins
pub own-low : (ss : List VersionedRows) (other : Key) → low_or ss (low_or ss other) ≡ low_or ss other
own-low [] other = refl
own-low (s ∷ ss) other = refl

-- the other key, of which nothing depends
pub no_key : Key
no_key = record { src = 0; second = 0 }

pub chained-front : (xs ys : List VersionedRows) → AreChained (xs ++ ys) → AreChained xs
chained-front xs ys chained =
    let key = low_or (xs ++ ys) no_key in
    follow-chained key xs (follow-front key xs ys (follow-of key (xs ++ ys) (own-low (xs ++ ys) no_key) chained))

pub chained-rest : (xs ys : List VersionedRows) → AreChained (xs ++ ys) → AreChained ys
chained-rest xs ys chained =
    let key = low_or (xs ++ ys) no_key in
    follow-chained (high_or xs key) ys (follow-behind key xs ys (follow-of key (xs ++ ys) (own-low (xs ++ ys) no_key) chained))

-- a part whose rows have moved within it still stands between the others
pub chained-again : (xs ms ms' ys : List VersionedRows) → AreChained (xs ++ (ms ++ ys)) → KeepsRows ms ms' → AreChained (xs ++ (ms' ++ ys))
chained-again xs ms ms' ys chained keeps =
    let key = low_or (xs ++ (ms ++ ys)) no_key in
    let all = follow-of key (xs ++ (ms ++ ys)) (own-low (xs ++ (ms ++ ys)) no_key) chained in
    let cut = high_or xs key in
    let behind = follow-behind key xs (ms ++ ys) all in
    let part = follow-of cut ms' (keeps.low cut ∙ follow-low cut ms (follow-front cut ms ys behind)) keeps.chained in
    let last = subst (λ k. Follow k ys) (sym (keeps.high cut)) (follow-behind cut ms ys behind) in
    follow-chained key (xs ++ (ms' ++ ys)) (follow-both key xs (ms' ++ ys) (follow-front key xs (ms ++ ys) all) (follow-both cut ms' ys part last))

-- only room has changed in a part
same-before : (ms ts ys : List VersionedRows) → AreSame ms ts → AreSame (ms ++ ys) (ts ++ ys)
same-before [] [] ys same = same-again ys
same-before (m ∷ ms) (t ∷ ts) ys same = (same.0, same-before ms ts ys same.1)
same-before [] (t ∷ ts) ys same = absurd same
same-before (m ∷ ms) [] ys same = absurd same

same-behind : (xs ms ts : List VersionedRows) → AreSame ms ts → AreSame (xs ++ ms) (xs ++ ts)
same-behind [] ms ts same = same
same-behind (x ∷ xs) ms ts same = (record { low = refl; high = refl; rows = refl }, same-behind xs ms ts same)

-- ---- a window

module _ (window : Window) (ss xs ms ys : List VersionedRows) (are : ss ≡ xs ++ (ms ++ ys)) (first : length xs ≡ window.first) (count : length ms ≡ window.len) where
  -- what a window is
  front-is : (rest : List VersionedRows) → take window.first (xs ++ rest) ≡ xs
  front-is rest = ap (λ n. take n (xs ++ rest)) (sym first) ∙ take-append_seam xs rest

  part-is : (ts : List VersionedRows) → length ts ≡ window.len → window_of window (xs ++ (ts ++ ys)) ≡ ts
  part-is ts same =
      let rest : drop window.first (xs ++ (ts ++ ys)) ≡ ts ++ ys = ap (λ n. drop n (xs ++ (ts ++ ys))) (sym first) ∙ drop-append_seam xs (ts ++ ys) in
      ap₂ take (sym same) rest ∙ take-append_seam ts ys

  behind-is : (ts : List VersionedRows) → length ts ≡ window.len → drop (window.first + window.len) (xs ++ (ts ++ ys)) ≡ ys
  behind-is ts same =
      let size : window.first + window.len ≡ length (xs ++ ts) = omega (arith, length-append xs ts, first, same) in
      ap₂ drop size (sym (append_assoc xs ts ys)) ∙ drop-append_seam (xs ++ ts) ys

  pub window-is : window_of window ss ≡ ms
  window-is = ap (window_of window) are ∙ part-is ms count

  -- its rows are spread
  pub window-spread : (ts : List VersionedRows) → IsLeaf ss → IsDivided ms ts (evenly (length (rows_of ms)) (length ms)) → SpreadsWindow window ss (xs ++ (ts ++ ys))
  window-spread ts leaf divided =
      let same : length ts ≡ window.len = divided.keeps.segments ∙ count in
      record {
        leaf = record {
          segments = omega (arith, length-append xs (ts ++ ys), length-append ts ys, length-append xs (ms ++ ys), length-append ms ys, ap length are, leaf.segments, divided.keeps.segments);
          chained = chained-again xs ms ts ys (subst AreChained are leaf.chained) divided.keeps;
        };
        before = front-is (ts ++ ys) ∙ sym (ap (take window.first) are ∙ front-is (ms ++ ys));
        within = subst (λ ws. IsDivided (window_of window ss) ws (evenly (length (rows_of (window_of window ss))) window.len)) (sym (part-is ts same))
            (subst (λ ws. IsDivided ws ts (evenly (length (rows_of ws)) window.len)) (sym window-is)
            (subst (λ n. IsDivided ms ts (evenly (length (rows_of ms)) n)) count divided));
        behind = behind-is ts same ∙ sym (ap (drop (window.first + window.len)) are ∙ behind-is ms count);
      }

  -- only room has changed
  pub window-same : (ts : List VersionedRows) → AreSame ms ts → AreSame ss (xs ++ (ts ++ ys))
  window-same ts same = subst (λ us. AreSame us (xs ++ (ts ++ ys))) (sym are) (same-behind xs (ms ++ ys) (ts ++ ys) (same-before ms ts ys same))
