-- Records of rows that move, place by place.
use Rattle.std.proofs.Common.{◌≡◌, ◌≢◌, ◌⊎◌, ℕ, zero, suc, ◌+◌, ◌-◌, ◌<◌, ◌≤◌, List, [], ◌∷◌, length, take, drop, get_or, nat_eq, cond, refl, sym, ◌∙◌, ap, subst, arith, inl, inr, Some, None}
use Rattle.std.specs.Prelude.{true, slice_get, Option, IsSomeAnd}
use Rattle.std.proofs.lemmas.Bool.Decides.{nat_tests}
use Rattle.graph_model.specs.declared.row.Row.{Row}
use Rattle.graph_model.proofs.PlaceLemmas.{some_eq}
use Rattle.gap_segment.specs.Fenced.{AreSorted}
use Rattle.gap_segment.proofs.FencedLemmas.{get_there, sorted_take, sorted_drop}
use Rattle.head_map.specs.UndoChain.Chains.{ChainMap, list_at, IsHeadOf, ChangesOneList}
use Rattle.head_map.specs.declared.heads.Heads.{Heads}
use Rattle.row_table.specs.Rows.{all_records}
use Rattle.head_map.specs.Heads.{PlaceTable, settled_heads, heads_at, heads_placed, keyed_table}
use Rattle.row_table.specs.Lists.{AreHeads}
use Rattle.row_table.specs.Parts.{versioned, records_at_key, HandsRow, HandsRows}
use Rattle.row_table.specs.Moves.{rows_from, CanHand, LeavesPlaces, HandsPlace, HandsPlaces}
use Rattle.head_map.proofs.PlaceLemmas.{below_or_not, other_test}
use Rattle.row_table.proofs.TableLemmas.{table_there, table_put}
use Rattle.row_table.proofs.MoveLemmas.{first_records, records_split, hands_more, hand_room, hand_row, to_end}

-- ---- the rows at places

pub next_rows : (rows : List Row) (i until : ℕ) (r : Row) → i < until → slice_get rows i ≡ Some r → rows_from rows i until ≡ r ∷ rows_from rows (i + 1) until
next_rows rows i until r lt e =
    let more : until - i ≡ suc (until - (i + 1)) = omega (arith, lt) in
    let next : i + 1 ≡ suc i = omega arith in
    ap (λ n. take n (drop i rows)) more ∙ go rows i (until - (i + 1)) e ∙ ap (λ n. r ∷ take (until - (i + 1)) (drop n rows)) (sym next)
  where
    go : (xs : List Row) (j n : ℕ) → slice_get xs j ≡ Some r → take (suc n) (drop j xs) ≡ r ∷ take n (drop (suc j) xs)
    go [] zero n f = cc
    go [] (suc j) n f = cc
    go (x ∷ xs) zero n f = ap (λ (y : Row). y ∷ take n xs) (some_eq x r f)
    go (x ∷ xs) (suc j) n f = go xs j n f

pub no_rows_from : (rows : List Row) (i until : ℕ) → i ≡ until → rows_from rows i until ≡ []
no_rows_from rows i until e = let none : until - i ≡ 0 = omega (arith, e) in ap (λ n. take n (drop i rows)) none

one_row : (rows : List Row) (i : ℕ) (r : Row) → slice_get rows i ≡ Some r → rows_from rows i (i + 1) ≡ r ∷ []
one_row rows i r e = next_rows rows i (i + 1) r (omega arith) e ∙ ap (λ rs. r ∷ rs) (no_rows_from rows (i + 1) (i + 1) refl)

abbrev blank : Row
blank = record { key = record { src = 0; second = 0 }; weight = 0 }

is_there : (rows : List Row) (i : ℕ) (r : Row) → slice_get rows i ≡ Some r → IsSomeAnd (slice_get rows i) (λ x. x.key ≡ r.key)
is_there rows i r e = subst (λ (o : Option Row). IsSomeAnd o (λ x. x.key ≡ r.key)) (sym e) refl

-- ---- one row

module _ (rows : List Row) (place : ℕ) (fh : PlaceTable) (c : ChainMap) (th : PlaceTable) (d : ChainMap) (can : CanHand rows place (place + 1) fh c th d) (h : Heads) (is : h ≡ heads_placed fh.entries place) where
  module _ (r : Row) (there : slice_get rows place ≡ Some r) where
    here : heads_at (keyed_table rows fh).entries r.key ≡ heads_placed fh.entries place
    here = table_there rows (heads_placed fh.entries) r.key place can.sorted (is_there rows place r there)

    is_at : h ≡ heads_at (keyed_table rows fh).entries r.key
    is_at = is ∙ sym here

    own_heads : AreHeads c h
    own_heads = subst (AreHeads c) (sym is_at) (can.from_lists.heads r.key)

    all_of_it : all_records (versioned c (keyed_table rows fh).entries (rows_from rows place (place + 1))) ≡ records_at_key c h
    all_of_it =
        let first : all_records (versioned c (keyed_table rows fh).entries (rows_from rows place (place + 1))) ≡ records_at_key c (heads_at (keyed_table rows fh).entries r.key) + 0 = first_records (keyed_table rows fh) c (rows_from rows place (place + 1)) r [] (one_row rows place r there) in
        let same : records_at_key c h ≡ records_at_key c (heads_at (keyed_table rows fh).entries r.key) = ap (records_at_key c) is_at in
        omega (arith, first, same)

    few : records_at_key c h ≤ d.spare
    few = omega (arith, all_of_it, can.room)

    few_entry : records_at_key c h ≤ th.spare
    few_entry = omega (arith, all_of_it, can.entry)

  abbrev row : Row
  row = get_or rows place blank

  row_there : slice_get rows place ≡ Some row
  row_there = get_there rows place blank (omega (arith, can.within))

  pub hand_heads : AreHeads c h
  hand_heads = own_heads row row_there

  pub hand_fits : length (list_at c h.undos) + length (list_at c h.touches) ≤ d.spare
  hand_fits = few row row_there

  module _ (c1 d1 : ChainMap) (u_left : ChangesOneList c c1 h.undos None) where
    pub hand_touches : IsHeadOf c1 h.touches
    hand_touches = (u_left.others h.touches hand_heads.touches hand_heads.own).head

    pub hand_touches_fit : d.spare ≤ d1.spare + length (list_at c h.undos) → length (list_at c1 h.touches) ≤ d1.spare
    hand_touches_fit used =
        let same : length (list_at c1 h.touches) ≡ length (list_at c h.touches) = ap length (u_left.others h.touches hand_heads.touches hand_heads.own).list in
        omega (arith, same, used, hand_fits)

  module _ (c1 c2 d1 d2 : ChainMap) (u t : Option ℕ)
      (u_list : list_at d1 u ≡ list_at c h.undos) (u_left : ChangesOneList c c1 h.undos None) (u_gained : ChangesOneList d d1 None u)
      (t_list : list_at d2 t ≡ list_at c1 h.touches) (t_left : ChangesOneList c1 c2 h.touches None) (t_gained : ChangesOneList d1 d2 None t) where
    abbrev moved : Heads
    moved = record { has_value = h.has_value; undos = u; touches = t }

    pub hand_undos_head : IsHeadOf d2 u
    hand_undos_head = (to_end c c1 c2 d d1 d2 (heads_at (keyed_table rows fh).entries) (heads_at (keyed_table rows th).entries) row.key h (is_at row row_there) u t can.from_lists can.to_lists u_list u_left u_gained t_list t_left t_gained).undos_head

    pub hand_touches_head : IsHeadOf d2 t
    hand_touches_head = (to_end c c1 c2 d d1 d2 (heads_at (keyed_table rows fh).entries) (heads_at (keyed_table rows th).entries) row.key h (is_at row row_there) u t can.from_lists can.to_lists u_list u_left u_gained t_list t_left t_gained).touches_head

    pub hand_put_room : (0 < th.spare) ⊎ (heads_placed th.entries place ≡ settled_heads → moved ≡ settled_heads)
    hand_put_room =
        let need : records_at_key c (heads_at (keyed_table rows fh).entries row.key) ≤ th.spare = subst (λ (x : Heads). records_at_key c x ≤ th.spare) (is_at row row_there) (few_entry row row_there) in
        elim (hand_room c c1 c2 d d1 d2 (heads_at (keyed_table rows fh).entries) (heads_at (keyed_table rows th).entries) row.key h (is_at row row_there) u t can.from_lists can.to_lists u_list u_left u_gained t_list t_left t_gained th.spare (can.rest row.key) need) [
          | inl lt ↦ inl lt
          | inr e ↦ inr (λ _. e)
        ]

    module _ (fh' th' : PlaceTable) (flaw : (p : ℕ) → heads_placed fh'.entries p ≡ cond (nat_eq p place) settled_heads (heads_placed fh.entries p)) (glaw : (p : ℕ) → heads_placed th'.entries p ≡ cond (nat_eq p place) moved (heads_placed th.entries p)) where
      places_left : LeavesPlaces place (place + 1) fh fh' th th'
      places_left = record {
        gone = λ p low high. let same : p ≡ place = omega (arith, low, high) in flaw p ∙ ap (λ t. cond t settled_heads (heads_placed fh.entries p)) (self_test p same);
        from_else = λ p apart. flaw p ∙ ap (λ t. cond t settled_heads (heads_placed fh.entries p)) (other_test p place (elsewhere p apart));
        to_else = λ p apart. glaw p ∙ ap (λ t. cond t moved (heads_placed th.entries p)) (other_test p place (elsewhere p apart));
      }
        where
          elsewhere : (p : ℕ) → (p < place) ⊎ (place + 1 ≤ p) → p ≢ place
          elsewhere p (inl lt) e = omega (arith, lt, e)
          elsewhere p (inr le) e = omega (arith, le, e)

          self_test : (p : ℕ) → p ≡ place → nat_eq p place ≡ true
          self_test p e = grind (arith, nat_tests)

      pub hands_place : fh.spare ≤ fh'.spare → c.spare ≤ c1.spare → c1.spare ≤ c2.spare → d.spare ≤ d1.spare + length (list_at c h.undos) → d1.spare ≤ d2.spare + length (list_at c1 h.touches) → th.spare ≤ th'.spare + 1
          → ((heads_placed th.entries place ≡ settled_heads → moved ≡ settled_heads) → th.spare ≤ th'.spare) → HandsPlace rows place fh fh' c c2 th th' d d2
      hands_place left spare later one two entry kept = record {
        row = λ r e.
            hand_row r.key (keyed_table rows fh) (keyed_table rows fh') (keyed_table rows th) (keyed_table rows th') c c1 c2 d d1 d2 h (is_at r e) u t can.from_lists can.to_lists u_list u_left u_gained t_list t_left t_gained (can.rest r.key)
            (table_put rows (heads_placed fh.entries) (heads_placed fh'.entries) r.key place settled_heads can.sorted (is_there rows place r e) flaw)
            (table_put rows (heads_placed th.entries) (heads_placed th'.entries) r.key place moved can.sorted (is_there rows place r e) glaw)
            left (omega (arith, spare, later)) one two entry
            (λ stays. kept (λ s. stays (table_there rows (heads_placed th.entries) r.key place can.sorted (is_there rows place r e) ∙ s)));
        places = places_left;
      }

-- ---- all rows

module _ (rows : List Row) (place until : ℕ) (fh : PlaceTable) (c : ChainMap) (th : PlaceTable) (d : ChainMap) (can : CanHand rows place until fh c th d) where
  module _ (lt : place < until) where
    abbrev first_row : Row
    first_row = get_or rows place blank

    first_there : slice_get rows place ≡ Some first_row
    first_there = get_there rows place blank (omega (arith, lt, can.within))

    abbrev rest_rows : List Row
    rest_rows = rows_from rows (place + 1) until

    split : rows_from rows place until ≡ first_row ∷ rest_rows
    split = next_rows rows place until first_row lt first_there

    sorted_split : AreSorted (first_row ∷ rest_rows)
    sorted_split = subst AreSorted split (sorted_take (until - place) (drop place rows) (sorted_drop place rows can.sorted))

    whole : all_records (versioned c (keyed_table rows fh).entries (rows_from rows place until)) ≡ records_at_key c (heads_at (keyed_table rows fh).entries first_row.key) + all_records (versioned c (keyed_table rows fh).entries rest_rows)
    whole = first_records (keyed_table rows fh) c (rows_from rows place until) first_row rest_rows split

    alone : all_records (versioned c (keyed_table rows fh).entries (rows_from rows place (place + 1))) ≡ records_at_key c (heads_at (keyed_table rows fh).entries first_row.key) + 0
    alone = first_records (keyed_table rows fh) c (rows_from rows place (place + 1)) first_row [] (one_row rows place first_row first_there)

    pub can_first : CanHand rows place (place + 1) fh c th d
    can_first = record {
      sorted = can.sorted;
      order = omega arith;
      within = omega (arith, lt, can.within);
      byte = omega (arith, lt, can.byte);
      from_lists = can.from_lists;
      to_lists = can.to_lists;
      rest = can.rest;
      room = omega (arith, whole, alone, can.room);
      entry = omega (arith, whole, alone, can.entry);
    }

    module _ (fh' th' : PlaceTable) (c' d' : ChainMap) (hands : HandsPlace rows place fh fh' c c' th th' d d') where
      one : HandsRow first_row.key (keyed_table rows fh) (keyed_table rows fh') c c' (keyed_table rows th) (keyed_table rows th') d d'
      one = hands.row first_row first_there

      left_over : all_records (versioned c (keyed_table rows fh).entries (first_row ∷ rest_rows)) ≡ records_at_key c (heads_at (keyed_table rows fh).entries first_row.key) + all_records (versioned c' (keyed_table rows fh').entries rest_rows)
      left_over = records_split first_row rest_rows sorted_split (keyed_table rows fh) (keyed_table rows fh') (keyed_table rows th) (keyed_table rows th') c c' d d' one

      whole_again : all_records (versioned c (keyed_table rows fh).entries (first_row ∷ rest_rows)) ≡ records_at_key c (heads_at (keyed_table rows fh).entries first_row.key) + all_records (versioned c (keyed_table rows fh).entries rest_rows)
      whole_again = first_records (keyed_table rows fh) c (first_row ∷ rest_rows) first_row rest_rows refl

      pub can_rest : CanHand rows (place + 1) until fh' c' th' d'
      can_rest = record {
        sorted = can.sorted;
        order = omega (arith, lt);
        within = can.within;
        byte = can.byte;
        from_lists = one.from_lists;
        to_lists = one.to_lists;
        rest = one.from_rest can.rest;
        room = omega (arith, whole, left_over, whole_again, can.room, one.to_spare);
        entry = omega (arith, whole, left_over, whole_again, can.entry, one.to_entry);
      }

      pub hands_all : (fh2 th2 : PlaceTable) (c2 d2 : ChainMap) → HandsPlaces rows (place + 1) until fh' fh2 c' c2 th' th2 d' d2 → HandsPlaces rows place until fh fh2 c c2 th th2 d d2
      hands_all fh2 th2 c2 d2 more = record {
        rows_handed = subst (λ (rs : List Row). HandsRows rs (keyed_table rows fh) (keyed_table rows fh2) c c2 (keyed_table rows th) (keyed_table rows th2) d d2) (sym split)
            (hands_more first_row rest_rows sorted_split (keyed_table rows fh) (keyed_table rows fh') (keyed_table rows th) (keyed_table rows th') c c' d d' one (keyed_table rows fh2) (keyed_table rows th2) c2 d2 can.rest more.rows_handed);
        places = record {
          gone = λ p low high. elim (below_or_not p (place + 1)) [
            | inl less ↦ more.places.from_else p (inl less) ∙ hands.places.gone p low less
            | inr least ↦ more.places.gone p least high
          ];
          from_else = λ p apart. more.places.from_else p (later p apart) ∙ hands.places.from_else p (sooner p apart);
          to_else = λ p apart. more.places.to_else p (later p apart) ∙ hands.places.to_else p (sooner p apart);
        };
      }
        where
          later : (p : ℕ) → (p < place) ⊎ (until ≤ p) → (p < place + 1) ⊎ (until ≤ p)
          later p (inl less) = inl (omega (arith, less))
          later p (inr least) = inr least

          sooner : (p : ℕ) → (p < place) ⊎ (until ≤ p) → (p < place) ⊎ (place + 1 ≤ p)
          sooner p (inl less) = inl less
          sooner p (inr least) = inr (omega (arith, lt, least))
