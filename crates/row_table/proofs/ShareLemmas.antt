-- Two neighbours that divide their rows anew: while records move, places count through the rows of both.
use Rattle.std.proofs.Common.{◌≡◌, ℕ, zero, suc, ◌+◌, ◌-◌, ◌<◌, ◌≤◌, List, [], ◌∷◌, ◌++◌, length, length-append, length-take, length-drop, take, drop, cond, refl, sym, ◌∙◌, ap, subst, arith, inl, inr, Some}
use Rattle.std.specs.Prelude.{Bool, true, false, min}
use Rattle.std.specs.List.{AllByRecursion}
use Rattle.std.specs.Option.{unwrap_or}
use Rattle.std.specs.Ordering.{eq_by_cmp}
use Rattle.std.specs.FinMap.Entries.{find}
use Rattle.std.proofs.lemmas.List.{take-append-drop, drop-append-le}
use Rattle.graph_model.specs.declared.row.Key.{Key}
use Rattle.graph_model.specs.declared.row.Row.{Row}
use Rattle.graph_model.specs.Rows.{key_cmp, is_below}
use Rattle.gap_segment.specs.Fenced.{FencedRows, AreSorted, AreFenced, front_of, back_of, joined}
use Rattle.gap_segment.proofs.FencedLemmas.{fenced_append, fenced_front, fenced_back}
use Rattle.head_map.specs.UndoChain.Chains.{ChainMap}
use Rattle.head_map.specs.declared.heads.Heads.{Heads}
use Rattle.head_map.specs.Heads.{ChangedRow}
use Rattle.row_table.specs.Rows.{all_records, first_key_of, settled_row, settled_rows as rows_settled, SharesRows}
use Rattle.head_map.specs.Heads.{HeadTable, PlaceTable, HeadedRows, settled_heads, row_key, row_heads, heads_at, heads_placed, raised, keyed, keyed_table, AreWithinPlaces}
use Rattle.head_map.specs.Keyed.{entries_by}
use Rattle.row_table.specs.Lists.{AreLists, HasRest}
use Rattle.row_table.specs.Parts.{versioned, versions_in, view_of, AreParts, HandsRows}
use Rattle.row_table.specs.Moves.{rows_from, CanHand, LeavesPlaces, HandsPlaces, SharesTables, MovesRoom}
use Rattle.head_map.proofs.KeyedLemmas.{tied_same}
use Rattle.head_map.proofs.PlaceLemmas.{below_or_not, raised_low, raised_high}
use Rattle.row_table.proofs.TableLemmas.{keyed_same, table_gap, all_settled}
use Rattle.row_table.proofs.ChangeLemmas.{row_count, all_settled_parts, all_settled_rows}
use Rattle.row_table.proofs.MoveLemmas.{first_key_same, given_left, given_right, given_shares, taken_left, taken_right, taken_shares, versioned_take, versioned_drop}

-- ---- the same heads in another table

parts_by : (rows : FencedRows) (heads heads' : List ChangedRow) (c : ChainMap) → ((q : Key) → heads_at heads' q ≡ heads_at heads q) → AreParts rows heads c → AreParts rows heads' c
parts_by rows heads heads' c same is = record {
  fenced = is.fenced;
  lists = subst (AreLists c) (λ i q. sym (same q) i) is.lists;
  rest = λ q. subst HasRest (sym (same q)) (is.rest q);
}

versioned_by : (c : ChainMap) (heads heads' : List ChangedRow) → ((q : Key) → heads_at heads' q ≡ heads_at heads q) → (rows : List Row) → versioned c heads' rows ≡ versioned c heads rows
versioned_by c heads heads' same [] = refl
versioned_by c heads heads' same (r ∷ rs) = λ i. (r.key, versions_in c (same r.key i) r.weight) ∷ versioned_by c heads heads' same rs i

-- ---- rows before others, and behind them

pub table_front : (xs ys : List Row) (f : ℕ → Heads) → ((p : ℕ) → length xs ≤ p → f p ≡ settled_heads) → (q : Key) → heads_at (keyed (xs ++ ys) f) q ≡ heads_at (keyed xs f) q
table_front [] ys f none q = all_settled ys f (λ p. none p (omega arith)) q
table_front (x ∷ xs) ys f none q = go (eq_by_cmp key_cmp q x.key) (table_front xs ys (λ p. f (suc p)) (λ p le. none (suc p) (omega (arith, le))) q)
  where
    go : (t : Bool) → heads_at (keyed (xs ++ ys) (λ p. f (suc p))) q ≡ heads_at (keyed xs (λ p. f (suc p))) q
        → unwrap_or (cond t (Some (f 0)) (find key_cmp q (entries_by row_key row_heads (keyed (xs ++ ys) (λ p. f (suc p)))))) settled_heads
        ≡ unwrap_or (cond t (Some (f 0)) (find key_cmp q (entries_by row_key row_heads (keyed xs (λ p. f (suc p)))))) settled_heads
    go true e = refl
    go false e = e

table_back : (xs ys : List Row) (g : ℕ → Heads) → AreSorted (xs ++ ys) → (q : Key) → heads_at (keyed (xs ++ ys) (raised (length xs) g)) q ≡ heads_at (keyed ys g) q
table_back [] ys g sorted q = ap (λ rs. heads_at rs q) (keyed_same ys g (raised 0 g) (λ p lt. refl))
table_back (x ∷ xs) ys g sorted q = go (eq_by_cmp key_cmp q x.key) refl (table_back xs ys g sorted.1 q)
  where
    above : (zs : List Row) → AllByRecursion (λ y. is_below x.key y.key ≡ true) (zs ++ ys) → AllByRecursion (λ y. is_below x.key y.key ≡ true) ys
    above [] h = h
    above (z ∷ zs) h = above zs h.1

    missing : q ≡ x.key → heads_at (keyed ys g) q ≡ settled_heads
    missing e = table_gap ys g q 0 (record { within = omega arith; before = tt; behind = subst (λ (k : Key). AllByRecursion (λ y. is_below k y.key ≡ true) ys) (sym e) (above xs sorted.0) })

    go : (t : Bool) → eq_by_cmp key_cmp q x.key ≡ t → heads_at (keyed (xs ++ ys) (raised (length xs) g)) q ≡ heads_at (keyed ys g) q
        → unwrap_or (cond (eq_by_cmp key_cmp q x.key) (Some settled_heads) (find key_cmp q (entries_by row_key row_heads (keyed (xs ++ ys) (raised (length xs) g))))) settled_heads ≡ heads_at (keyed ys g) q
    go true e rest = ap (λ t. unwrap_or (cond t (Some settled_heads) (find key_cmp q (entries_by row_key row_heads (keyed (xs ++ ys) (raised (length xs) g))))) settled_heads) e ∙ sym (missing (tied_same q x.key e))
    go false e rest = ap (λ t. unwrap_or (cond t (Some settled_heads) (find key_cmp q (entries_by row_key row_heads (keyed (xs ++ ys) (raised (length xs) g))))) settled_heads) e ∙ rest

pub table_behind : (xs ys : List Row) (f g : ℕ → Heads) → AreSorted (xs ++ ys) → ((p : ℕ) → f p ≡ raised (length xs) g p) → (q : Key) → heads_at (keyed (xs ++ ys) f) q ≡ heads_at (keyed ys g) q
table_behind xs ys f g sorted law q = ap (λ rs. heads_at rs q) (keyed_same (xs ++ ys) (raised (length xs) g) f (λ p lt. law p)) ∙ table_back xs ys g sorted q

-- ---- two neighbours

module _ (l r : FencedRows) (c d : ChainMap) (fh th up : PlaceTable)
    (is_l : AreParts l (keyed_table l.rows fh).entries c) (is_r : AreParts r (keyed_table r.rows th).entries d) (meet : l.high ≡ r.low)
    (f_in : AreWithinPlaces (length l.rows) fh.entries)
    (raise : (p : ℕ) → heads_placed up.entries p ≡ raised (length l.rows) (heads_placed th.entries) p) where
  abbrev both : List Row
  both = l.rows ++ r.rows

  sorted : AreSorted both
  sorted = (fenced_append l r is_l.fenced is_r.fenced meet).sorted

  left_same : (q : Key) → heads_at (keyed_table both fh).entries q ≡ heads_at (keyed_table l.rows fh).entries q
  left_same q = table_front l.rows r.rows (heads_placed fh.entries) f_in q

  right_same : (q : Key) → heads_at (keyed_table both up).entries q ≡ heads_at (keyed_table r.rows th).entries q
  right_same q = table_behind l.rows r.rows (heads_placed up.entries) (heads_placed th.entries) sorted raise q

  left_parts : AreParts l (keyed_table both fh).entries c
  left_parts = parts_by l (keyed_table l.rows fh).entries (keyed_table both fh).entries c left_same is_l

  right_parts : AreParts r (keyed_table both up).entries d
  right_parts = parts_by r (keyed_table r.rows th).entries (keyed_table both up).entries d right_same is_r

  -- the left one's last rows
  given_rows : (n len : ℕ) → n ≤ length l.rows → len ≡ length l.rows → rows_from both n len ≡ drop n l.rows
  given_rows n len le is =
      ap (take (len - n)) (drop-append-le n l.rows r.rows le) ∙ front (drop n l.rows) (len - n) (let m : length (drop n l.rows) ≡ length l.rows - n = length-drop n l.rows in omega (arith, m, is))
    where
      front : (xs : List Row) (m : ℕ) → m ≡ length xs → take m (xs ++ r.rows) ≡ xs
      front [] zero e = refl
      front [] (suc m) e = absurd (omega (arith, e))
      front (x ∷ xs) zero e = absurd (omega (arith, e))
      front (x ∷ xs) (suc m) e = ap (λ ys. x ∷ ys) (front xs m (omega (arith, e)))

  -- the right one's first rows
  taken_rows : (k len count : ℕ) → len ≡ length l.rows → count ≡ len + k → rows_from both len count ≡ take k r.rows
  taken_rows k len count is grown =
      let many : count - len ≡ k = omega (arith, grown) in
      (λ i. take (many i) (drop (is i) both)) ∙ ap (take k) (behind l.rows)
    where
      behind : (xs : List Row) → drop (length xs) (xs ++ r.rows) ≡ r.rows
      behind [] = refl
      behind (x ∷ xs) = behind xs

  pub can_give : (n len : ℕ) → n ≤ length l.rows → len ≡ length l.rows → len ≤ 32 → up.spare ≡ th.spare
      → all_records (versioned c (keyed_table l.rows fh).entries (drop n l.rows)) ≤ min d.spare th.spare → CanHand both n len fh c up d
  can_give n len le is small same fits =
      let records : all_records (versioned c (keyed_table both fh).entries (rows_from both n len)) ≡ all_records (versioned c (keyed_table l.rows fh).entries (drop n l.rows)) =
      ap (λ rs. all_records (versioned c (keyed_table both fh).entries rs)) (given_rows n len le is) ∙ ap all_records (versioned_by c (keyed_table l.rows fh).entries (keyed_table both fh).entries left_same (drop n l.rows)) in
      let total : length both ≡ length l.rows + length r.rows = length-append l.rows r.rows in
      record {
        sorted = sorted;
        order = omega (arith, le, is);
        within = omega (arith, is, total);
        byte = omega (arith, small);
        from_lists = left_parts.lists;
        to_lists = right_parts.lists;
        rest = left_parts.rest;
        room = omega (arith, records, fits);
        entry = omega (arith, records, fits, same);
      }

  pub can_take : (k len count : ℕ) → k ≤ length r.rows → len ≡ length l.rows → count ≡ len + k → count ≤ 256
      → all_records (versioned d (keyed_table r.rows th).entries (take k r.rows)) ≤ min c.spare fh.spare → CanHand both len count up d fh c
  can_take k len count le is grown small fits =
      let records : all_records (versioned d (keyed_table both up).entries (rows_from both len count)) ≡ all_records (versioned d (keyed_table r.rows th).entries (take k r.rows)) =
      ap (λ rs. all_records (versioned d (keyed_table both up).entries rs)) (taken_rows k len count is grown) ∙ ap all_records (versioned_by d (keyed_table r.rows th).entries (keyed_table both up).entries right_same (take k r.rows)) in
      let total : length both ≡ length l.rows + length r.rows = length-append l.rows r.rows in
      record {
        sorted = sorted;
        order = omega (arith, grown);
        within = omega (arith, is, grown, le, total);
        byte = small;
        from_lists = right_parts.lists;
        to_lists = left_parts.lists;
        rest = right_parts.rest;
        room = omega (arith, records, fits);
        entry = omega (arith, records, fits);
      }

  -- ---- where heads are

  module _ (fh' up' : PlaceTable) (n len : ℕ) (is : len ≡ length l.rows) where
    raised_before : (p : ℕ) → p < len → heads_placed up.entries p ≡ settled_heads
    raised_before p lt = raise p ∙ raised_low (length l.rows) (heads_placed th.entries) p (omega (arith, lt, is))

    -- behind the rows of the right one
    behind : AreWithinPlaces (length r.rows) th.entries → (p : ℕ) → length both ≤ p → heads_placed up.entries p ≡ settled_heads
    behind g_in p le =
        let total : length both ≡ length l.rows + length r.rows = length-append l.rows r.rows in
        raise p ∙ raised_high (length l.rows) (heads_placed th.entries) p (omega (arith, le, total)) ∙ g_in (p - length l.rows) (omega (arith, le, total))

    module _ (le : n ≤ length l.rows) (places : LeavesPlaces n len fh fh' up up') where
      pub give_front : (p : ℕ) → n ≤ p → heads_placed fh'.entries p ≡ settled_heads
      give_front p from = elim (below_or_not p len) [
        | inl lt ↦ places.gone p from lt
        | inr least ↦ places.from_else p (inr least) ∙ f_in p (omega (arith, least, is))
      ]

      pub give_low : (p : ℕ) → p < n → heads_placed up'.entries p ≡ settled_heads
      give_low p lt = places.to_else p (inl lt) ∙ raised_before p (omega (arith, lt, le, is))

      pub give_behind : AreWithinPlaces (length r.rows) th.entries → (down : PlaceTable) → ((p : ℕ) → heads_placed down.entries p ≡ heads_placed up'.entries (n + p)) → (m : ℕ) → m ≡ length (drop n both) → (p : ℕ) → m ≤ p → heads_placed down.entries p ≡ settled_heads
      give_behind g_in down lower m size p from =
          let total : length both ≡ length l.rows + length r.rows = length-append l.rows r.rows in
          let rest : length (drop n both) ≡ length both - n = length-drop n both in
          lower p ∙ places.to_else (n + p) (inr (omega (arith, from, size, rest, total, le, is))) ∙ behind g_in (n + p) (omega (arith, from, size, rest, total, le))

    module _ (more : len ≤ n) (few : n ≤ length both) (places : LeavesPlaces len n up up' fh fh') where
      pub take_front : (p : ℕ) → n ≤ p → heads_placed fh'.entries p ≡ settled_heads
      take_front p from = places.to_else p (inr from) ∙ f_in p (omega (arith, from, more, is))

      pub take_low : (p : ℕ) → p < n → heads_placed up'.entries p ≡ settled_heads
      take_low p lt = elim (below_or_not p len) [
        | inl less ↦ places.from_else p (inl less) ∙ raised_before p less
        | inr least ↦ places.gone p least lt
      ]

      pub take_behind : AreWithinPlaces (length r.rows) th.entries → (down : PlaceTable) → ((p : ℕ) → heads_placed down.entries p ≡ heads_placed up'.entries (n + p)) → (m : ℕ) → m ≡ length (drop n both) → (p : ℕ) → m ≤ p → heads_placed down.entries p ≡ settled_heads
      take_behind g_in down lower m size p from =
          let rest : length (drop n both) ≡ length both - n = length-drop n both in
          lower p ∙ places.from_else (n + p) (inr (omega arith)) ∙ behind g_in (n + p) (omega (arith, from, size, rest, few))

  -- ---- what is left, and what has come

  module _ (c' d' : ChainMap) (fh' up' down : PlaceTable) (n : ℕ) (few : n ≤ length both)
      (g_in : AreWithinPlaces (length r.rows) th.entries)
      (lower : (p : ℕ) → heads_placed down.entries p ≡ heads_placed up'.entries (n + p))
      (front_in : (p : ℕ) → n ≤ p → heads_placed fh'.entries p ≡ settled_heads)
      (back_low : (p : ℕ) → p < n → heads_placed up'.entries p ≡ settled_heads) where
    front_length : length (take n both) ≡ n
    front_length = let m : length (take n both) ≡ min n (length both) = length-take n both in omega (arith, m, few)

    cut_sorted : AreSorted (take n both ++ drop n both)
    cut_sorted = subst AreSorted (sym (take-append-drop n both)) sorted

    front_same : (q : Key) → heads_at (keyed (take n both) (heads_placed fh'.entries)) q ≡ heads_at (keyed_table both fh').entries q
    front_same q =
        sym (table_front (take n both) (drop n both) (heads_placed fh'.entries) (λ p le. front_in p (omega (arith, le, front_length))) q)
        ∙ ap (λ rs. heads_at (keyed rs (heads_placed fh'.entries)) q) (take-append-drop n both)

    back_law : (p : ℕ) → heads_placed up'.entries p ≡ raised (length (take n both)) (heads_placed down.entries) p
    back_law p = elim (below_or_not p n) [
      | inl lt ↦ back_low p lt ∙ sym (raised_low (length (take n both)) (heads_placed down.entries) p (omega (arith, lt, front_length)))
      | inr le ↦
          let same : n + (p - length (take n both)) ≡ p = omega (arith, le, front_length) in
          sym (raised_high (length (take n both)) (heads_placed down.entries) p (omega (arith, le, front_length)) ∙ lower (p - length (take n both)) ∙ ap (heads_placed up'.entries) same)
    ]

    back_same : (q : Key) → heads_at (keyed (drop n both) (heads_placed down.entries)) q ≡ heads_at (keyed_table both up').entries q
    back_same q =
        sym (table_behind (take n both) (drop n both) (heads_placed up'.entries) (heads_placed down.entries) cut_sorted back_law q)
        ∙ ap (λ rs. heads_at (keyed rs (heads_placed up'.entries)) q) (take-append-drop n both)

    abbrev old_left : HeadedRows
    old_left = record { fenced = l; heads = keyed_table l.rows fh }

    abbrev old_right : HeadedRows
    old_right = record { fenced = r; heads = keyed_table r.rows th }

    abbrev new_left : HeadedRows
    new_left = record { fenced = front_of (joined l r) n; heads = keyed_table (take n both) fh' }

    abbrev new_right : HeadedRows
    new_right = record { fenced = back_of (joined l r) n; heads = keyed_table (drop n both) down }

    tables : AreParts (front_of (joined l r) n) (keyed_table both fh').entries c' → AreParts (back_of (joined l r) n) (keyed_table both up').entries d'
        → SharesRows (view_of l (keyed_table both fh) c) (view_of r (keyed_table both up) d) (view_of (front_of (joined l r) n) (keyed_table both fh') c') (view_of (back_of (joined l r) n) (keyed_table both up') d') n
        → SharesTables old_left new_left c c' old_right new_right d d' n
    tables left right shares =
        let l_same = versioned_by c (keyed_table l.rows fh).entries (keyed_table both fh).entries left_same l.rows in
        let r_same = versioned_by d (keyed_table r.rows th).entries (keyed_table both up).entries right_same r.rows in
        let l_new = versioned_by c' (keyed_table both fh').entries (keyed_table (take n both) fh').entries front_same (take n both) in
        let r_new = versioned_by d' (keyed_table both up').entries (keyed_table (drop n both) down).entries back_same (drop n both) in
        record {
          left_parts = parts_by (front_of (joined l r) n) (keyed_table both fh').entries (keyed_table (take n both) fh').entries c' front_same left;
          right_parts = parts_by (back_of (joined l r) n) (keyed_table both up').entries (keyed_table (drop n both) down).entries d' back_same right;
          rows = record {
            left_rows = l_new ∙ shares.left_rows ∙ (λ i. take n (l_same i ++ r_same i));
            right_rows = r_new ∙ shares.right_rows ∙ (λ i. drop n (l_same i ++ r_same i));
            low = shares.low;
            high = shares.high;
            left_cut = shares.left_cut ∙ (λ i. first_key_of (sym r_new i) (back_of (joined l r) n).high);
            right_cut = shares.right_cut ∙ (λ i. first_key_of (sym r_new i) (back_of (joined l r) n).high);
          };
        }

    module _ (len : ℕ) (is : len ≡ length l.rows) (le : n ≤ length l.rows) (hands : HandsPlaces both n len fh fh' c c' up up' d d') where
      handed : HandsRows (drop n l.rows) (keyed_table both fh) (keyed_table both fh') c c' (keyed_table both up) (keyed_table both up') d d'
      handed = subst (λ (rs : List Row). HandsRows rs (keyed_table both fh) (keyed_table both fh') c c' (keyed_table both up) (keyed_table both up') d d') (given_rows n len le is) hands.rows_handed

      pub give_tables : SharesTables old_left new_left c c' old_right new_right d d' n
      give_tables = tables
          (given_left l r (keyed_table both fh) (keyed_table both up) (keyed_table both fh') (keyed_table both up') c d c' d' left_parts right_parts meet n le handed)
          (given_right l r (keyed_table both fh) (keyed_table both up) (keyed_table both fh') (keyed_table both up') c d c' d' left_parts right_parts meet n le handed)
          (given_shares l r (keyed_table both fh) (keyed_table both up) (keyed_table both fh') (keyed_table both up') c d c' d' left_parts right_parts meet n le handed n refl)

      pub give_room : up.spare ≡ th.spare → down.spare ≡ up'.spare → MovesRoom old_left new_left c c' old_right new_right d d' (all_records (versioned c (keyed_table l.rows fh).entries (drop n l.rows)))
      give_room raised_spare lowered_spare =
          let records : all_records (versioned c (keyed_table both fh).entries (drop n l.rows)) ≡ all_records (versioned c (keyed_table l.rows fh).entries (drop n l.rows)) = ap all_records (versioned_by c (keyed_table l.rows fh).entries (keyed_table both fh).entries left_same (drop n l.rows)) in
          record {
            left = omega (arith, handed.from_spare, handed.from_entry);
            used = omega (arith, handed.to_spare, handed.to_entry, records, raised_spare, lowered_spare);
          }

    module _ (k len : ℕ) (is : len ≡ length l.rows) (grown : n ≡ len + k) (le : k ≤ length r.rows) (hands : HandsPlaces both len n up up' d d' fh fh' c c') where
      handed_back : HandsRows (take k r.rows) (keyed_table both up) (keyed_table both up') d d' (keyed_table both fh) (keyed_table both fh') c c'
      handed_back = subst (λ (rs : List Row). HandsRows rs (keyed_table both up) (keyed_table both up') d d' (keyed_table both fh) (keyed_table both fh') c c') (taken_rows k len n is grown) hands.rows_handed

      sum : n ≡ length l.rows + k
      sum = omega (arith, is, grown)

      pub take_tables : SharesTables old_left new_left c c' old_right new_right d d' n
      take_tables = tables
          (taken_left l r (keyed_table both fh) (keyed_table both up) (keyed_table both fh') (keyed_table both up') c d c' d' left_parts right_parts meet k n sum le handed_back)
          (taken_right l r (keyed_table both fh) (keyed_table both up) (keyed_table both fh') (keyed_table both up') c d c' d' left_parts right_parts meet k n sum le handed_back)
          (taken_shares l r (keyed_table both fh) (keyed_table both up) (keyed_table both fh') (keyed_table both up') c d c' d' left_parts right_parts meet k n sum le handed_back n refl)

      pub take_room : up.spare ≡ th.spare → down.spare ≡ up'.spare → MovesRoom old_right new_right d d' old_left new_left c c' (all_records (versioned d (keyed_table r.rows th).entries (take k r.rows)))
      take_room raised_spare lowered_spare =
          let records : all_records (versioned d (keyed_table both up).entries (take k r.rows)) ≡ all_records (versioned d (keyed_table r.rows th).entries (take k r.rows)) = ap all_records (versioned_by d (keyed_table r.rows th).entries (keyed_table both up).entries right_same (take k r.rows)) in
          record {
            left = omega (arith, handed_back.from_spare, handed_back.from_entry, raised_spare, lowered_spare);
            used = omega (arith, handed_back.to_spare, handed_back.to_entry, records);
          }

-- ---- rows that are all settled

settled_take : (n : ℕ) (xs ys : List Row) → rows_settled (take n (xs ++ ys)) ≡ take n (rows_settled xs ++ rows_settled ys)
settled_take zero xs ys = refl
settled_take (suc n) [] [] = refl
settled_take (suc n) [] (y ∷ ys) = ap (λ es. settled_row y ∷ es) (settled_take n [] ys)
settled_take (suc n) (x ∷ xs) ys = ap (λ es. settled_row x ∷ es) (settled_take n xs ys)

settled_drop : (n : ℕ) (xs ys : List Row) → rows_settled (drop n (xs ++ ys)) ≡ drop n (rows_settled xs ++ rows_settled ys)
settled_drop zero [] ys = refl
settled_drop zero (x ∷ xs) ys = ap (λ es. settled_row x ∷ es) (settled_drop zero xs ys)
settled_drop (suc n) [] [] = refl
settled_drop (suc n) [] (y ∷ ys) = settled_drop n [] ys
settled_drop (suc n) (x ∷ xs) ys = settled_drop n xs ys

module _ (l r : FencedRows) (c d : ChainMap) (fh th : PlaceTable) (n : ℕ) (fenced_l : AreFenced l) (fenced_r : AreFenced r) (meet : l.high ≡ r.low)
    (f_settled : (p : ℕ) → heads_placed fh.entries p ≡ settled_heads) (g_settled : (p : ℕ) → heads_placed th.entries p ≡ settled_heads) where
  -- no record moves
  pub settled_tables : SharesTables (record { fenced = l; heads = keyed_table l.rows fh }) (record { fenced = front_of (joined l r) n; heads = keyed_table (take n (l.rows ++ r.rows)) fh }) c c
      (record { fenced = r; heads = keyed_table r.rows th }) (record { fenced = back_of (joined l r) n; heads = keyed_table (drop n (l.rows ++ r.rows)) th }) d d n
  settled_tables = record {
    left_parts = all_settled_parts (front_of (joined l r) n) (keyed_table (take n (l.rows ++ r.rows)) fh).entries c (fenced_front (joined l r) n _ whole refl) (left (take n (l.rows ++ r.rows)));
    right_parts = all_settled_parts (back_of (joined l r) n) (keyed_table (drop n (l.rows ++ r.rows)) th).entries d (fenced_back (joined l r) n _ whole refl) (right (drop n (l.rows ++ r.rows)));
    rows = record {
      left_rows = all_settled_rows _ c (take n (l.rows ++ r.rows)) (left (take n (l.rows ++ r.rows))) ∙ settled_take n l.rows r.rows ∙ (λ i. take n (sym old_l i ++ sym old_r i));
      right_rows = all_settled_rows _ d (drop n (l.rows ++ r.rows)) (right (drop n (l.rows ++ r.rows))) ∙ settled_drop n l.rows r.rows ∙ (λ i. drop n (sym old_l i ++ sym old_r i));
      low = refl;
      high = refl;
      left_cut = sym (first_key_same (keyed_table (drop n (l.rows ++ r.rows)) th).entries d (drop n (l.rows ++ r.rows)) r.high);
      right_cut = sym (first_key_same (keyed_table (drop n (l.rows ++ r.rows)) th).entries d (drop n (l.rows ++ r.rows)) r.high);
    };
  }
    where
      whole : AreFenced (joined l r)
      whole = fenced_append l r fenced_l fenced_r meet

      left : (rows : List Row) (q : Key) → heads_at (keyed rows (heads_placed fh.entries)) q ≡ settled_heads
      left rows q = all_settled rows (heads_placed fh.entries) f_settled q

      right : (rows : List Row) (q : Key) → heads_at (keyed rows (heads_placed th.entries)) q ≡ settled_heads
      right rows q = all_settled rows (heads_placed th.entries) g_settled q

      old_l : versioned c (keyed_table l.rows fh).entries l.rows ≡ rows_settled l.rows
      old_l = all_settled_rows (keyed_table l.rows fh).entries c l.rows (left l.rows)

      old_r : versioned d (keyed_table r.rows th).entries r.rows ≡ rows_settled r.rows
      old_r = all_settled_rows (keyed_table r.rows th).entries d r.rows (right r.rows)

-- ---- the records that move, as contracts see them

pub dropped_records : (l : FencedRows) (heads : HeadTable) (c : ChainMap) (k m : ℕ) → m ≡ length l.rows
    → all_records (drop (length (view_of l heads c).rows - k) (view_of l heads c).rows) ≡ all_records (versioned c heads.entries (drop (m - k) l.rows))
dropped_records l heads c k m is =
    let count = row_count l heads c in
    let same : length (view_of l heads c).rows - k ≡ m - k = omega (arith, count, is) in
    ap (λ n. all_records (drop n (versioned c heads.entries l.rows))) same ∙ ap all_records (sym (versioned_drop heads.entries c (m - k) l.rows))

pub taken_records : (r : FencedRows) (heads : HeadTable) (c : ChainMap) (k : ℕ) → all_records (take k (view_of r heads c).rows) ≡ all_records (versioned c heads.entries (take k r.rows))
taken_records r heads c k = ap all_records (sym (versioned_take heads.entries c k r.rows))
