-- Rows that move to a neighbour, with their versions.
use Rattle.std.proofs.Common.{◌≡◌, ◌⊎◌, inl, inr, ℕ, zero, suc, ◌+◌, ◌<◌, ◌≤◌, List, [], ◌∷◌, ◌++◌, length, take, drop, refl, sym, ◌∙◌, ap, subst, arith, Some, None}
use Rattle.std.specs.Prelude.{Bool, true, false, ◌&&◌, ◌||◌, not, cond, is_some, Option}
use Rattle.std.specs.List.{AllByRecursion}
use Rattle.std.specs.Ordering.{eq_by_cmp}
use Rattle.std.proofs.lemmas.List.{take-append-drop, take-append-le, drop-append-le}
use Rattle.std.proofs.Math.Seq.{take-append-add, drop-append-add}
use Rattle.graph_model.specs.declared.row.Key.{Key}
use Rattle.graph_model.specs.declared.row.Row.{Row}
use Rattle.graph_model.specs.Rows.{key_cmp, is_below}
use Rattle.store_model.specs.Stamped.{StampedVersions}
use Rattle.gap_segment.specs.Fenced.{FencedRows, AreBelow, AreAbove, AreSorted, AreFenced, first_key_or, front_of, back_of, joined}
use Rattle.gap_segment.proofs.FencedLemmas.{fenced_front, fenced_back, fenced_append, all_map}
use Rattle.head_map.specs.UndoChain.Chains.{ChainMap, list_at, IsHeadOf, ChangesOneList}
use Rattle.head_map.specs.declared.heads.Heads.{Heads}
use Rattle.head_map.specs.Heads.{ChangedRow}
use Rattle.row_table.specs.Rows.{is_empty, records_in, all_records, first_key_of, SharesRows}
use Rattle.head_map.specs.Heads.{HeadTable, heads_at, settled_heads, is_settled}
use Rattle.row_table.specs.Lists.{AreLists, ChangesRow, HasRest}
use Rattle.row_table.specs.Parts.{versioned, versions_in, value_in, of_lists, view_of, AreParts, records_at_key, HandsRow, HandsRows, IsElsewhere}
use Rattle.head_map.proofs.KeyedLemmas.{below_untied, above_untied}
use Rattle.head_map.proofs.HeadLemmas.{settled_of}
use Rattle.row_table.proofs.ListLemmas.{row_start, row_empty, undos_change, undos_leave_touches, touches_change, touches_leave_undos, heads_here, heads_else, row_end}
use Rattle.row_table.proofs.PartLemmas.{list_there}
use Rattle.row_table.proofs.VersionLemmas.{records_of_lists}
use Rattle.row_table.proofs.ChangeLemmas.{row_count}

-- ---- the lists of one row

some_of_list : (c d : ChainMap) (a b : Option ℕ) → IsHeadOf c a → IsHeadOf d b → list_at d b ≡ list_at c a → is_some b ≡ is_some a
some_of_list c d a b at to e = flip (is_some b) (is_some a) (sym (list_there d b to) ∙ ap is_empty e ∙ list_there c a at)
  where
    flip : (s t : Bool) → not s ≡ not t → s ≡ t
    flip true true f = refl
    flip true false f = cc
    flip false true f = cc
    flip false false f = refl

none_of : (o : Option ℕ) → is_some o ≡ false → o ≡ None
none_of None f = refl
none_of (Some x) f = cc

at_least_one : {X : Type 0} (xs : List X) → is_empty xs ≡ false → 1 ≤ length xs
at_least_one [] e = cc
at_least_one (x ∷ xs) e = omega arith

-- a row that isn't settled has a record
pub has_record_at : (c : ChainMap) (h : Heads) → IsHeadOf c h.undos → IsHeadOf c h.touches → HasRest h → is_settled h ≡ false → 1 ≤ records_at_key c h
has_record_at c h u t rest e =
    either (is_some h.undos) (is_some h.touches) refl refl (some_record h.has_value (is_some h.undos) (is_some h.touches) e rest)
  where
    some_record : (v x y : Bool) → (v && (not x && not y)) ≡ false → (v ≡ false → (x || y) ≡ true) → (x || y) ≡ true
    some_record true true y f g = refl
    some_record true false true f g = refl
    some_record true false false f g = cc
    some_record false x y f g = g refl

    either : (x y : Bool) → is_some h.undos ≡ x → is_some h.touches ≡ y → (x || y) ≡ true → 1 ≤ records_at_key c h
    either true y f g k = let one : 1 ≤ length (list_at c h.undos) = at_least_one _ (list_there c h.undos u ∙ ap not f) in omega (arith, one)
    either false true f g k = let one : 1 ≤ length (list_at c h.touches) = at_least_one _ (list_there c h.touches t ∙ ap not g) in omega (arith, one)
    either false false f g k = cc

module _ (c c1 c2 d d1 d2 : ChainMap) (f g : Key → Heads) (k : Key) (h : Heads) (is : h ≡ f k) (u t : Option ℕ) (fa : AreLists c f) (ga : AreLists d g)
    (u_list : list_at d1 u ≡ list_at c h.undos) (u_left : ChangesOneList c c1 h.undos None) (u_gained : ChangesOneList d d1 None u)
    (t_list : list_at d2 t ≡ list_at c1 h.touches) (t_left : ChangesOneList c1 c2 h.touches None) (t_gained : ChangesOneList d1 d2 None t) where
  from_start : ChangesRow c c f k h.undos h.touches
  from_start = subst (λ (x : Heads). ChangesRow c c f k x.undos x.touches) (sym is) (row_start c f k fa)

  from_middle : ChangesRow c c1 f k None h.touches
  from_middle = undos_change c c c1 f k h.undos h.touches from_start None u_left

  from_end : ChangesRow c c2 f k None None
  from_end = touches_change c c1 c2 f k None h.touches from_middle None t_left

  to_middle : ChangesRow d d1 g k u None
  to_middle = undos_change d d d1 g k None None (row_empty d g k ga) u u_gained

  pub to_end : ChangesRow d d2 g k u t
  to_end = touches_change d d1 d2 g k u None to_middle t t_gained

  all_undos : list_at d2 u ≡ list_at c h.undos
  all_undos = touches_leave_undos d d1 d2 g k u None to_middle t t_gained ∙ u_list

  all_touches : list_at d2 t ≡ list_at c h.touches
  all_touches = t_list ∙ undos_leave_touches c c c1 f k h.undos h.touches from_start None u_left

  abbrev moved_heads : Heads
  moved_heads = record { has_value = h.has_value; undos = u; touches = t }

  some_undos : is_some u ≡ is_some h.undos
  some_undos = some_of_list c d2 h.undos u from_start.undos_head to_end.undos_head all_undos

  some_touches : is_some t ≡ is_some h.touches
  some_touches = some_of_list c d2 h.touches t from_start.touches_head to_end.touches_head all_touches

  -- a settled row is settled there too, and any other one needs an entry
  pub hand_room : (spare : ℕ) → HasRest (f k) → records_at_key c (f k) ≤ spare → (0 < spare) ⊎ (moved_heads ≡ settled_heads)
  hand_room spare rest le = go (is_settled h) refl
    where
      go : (s : Bool) → is_settled h ≡ s → (0 < spare) ⊎ (moved_heads ≡ settled_heads)
      go true e =
          let all = settled_of h e in
          inr (λ i. record {
            has_value = (all i).has_value;
            undos = (none_of u (some_undos ∙ ap (λ (x : Heads). is_some x.undos) all)) i;
            touches = (none_of t (some_touches ∙ ap (λ (x : Heads). is_some x.touches) all)) i;
          })
      go false e =
          let one : 1 ≤ records_at_key c h = has_record_at c h from_start.undos_head from_start.touches_head (subst HasRest (sym is) rest) e in
          let same : records_at_key c h ≡ records_at_key c (f k) = ap (records_at_key c) is in
          inl (omega (arith, one, same, le))

  -- the room that both lists take
  pub hand_used : (spare middle later : ℕ) → spare ≤ middle + length (list_at c h.undos) → middle ≤ later + length (list_at c1 h.touches) → spare ≤ later + records_at_key c (f k)
  hand_used spare middle later one two =
      let same : records_at_key c h ≡ records_at_key c (f k) = ap (records_at_key c) is in
      let stay : length (list_at c1 h.touches) ≡ length (list_at c h.touches) = ap length (undos_leave_touches c c c1 f k h.undos h.touches from_start None u_left) in
      omega (arith, same, stay, one, two)

  -- and the entry
  pub hand_entry : (spare later : ℕ) → HasRest (f k) → spare ≤ later + 1 → ((g k ≡ settled_heads → moved_heads ≡ settled_heads) → spare ≤ later) → spare ≤ later + records_at_key c (f k)
  hand_entry spare later rest one kept = go (is_settled h) refl
    where
      go : (s : Bool) → is_settled h ≡ s → spare ≤ later + records_at_key c (f k)
      go true e =
          let all = settled_of h e in
          let same : spare ≤ later = kept (λ _ i. record {
            has_value = (all i).has_value;
            undos = (none_of u (some_undos ∙ ap (λ (x : Heads). is_some x.undos) all)) i;
            touches = (none_of t (some_touches ∙ ap (λ (x : Heads). is_some x.touches) all)) i;
          }) in
          omega (arith, same)
      go false e =
          let least : 1 ≤ records_at_key c h = has_record_at c h from_start.undos_head from_start.touches_head (subst HasRest (sym is) rest) e in
          let same : records_at_key c h ≡ records_at_key c (f k) = ap (records_at_key c) is in
          omega (arith, least, same, one)

  module _ (f' g' : Key → Heads) (flaw : (q : Key) → f' q ≡ cond (eq_by_cmp key_cmp q k) settled_heads (f q))
      (glaw : (q : Key) → g' q ≡ cond (eq_by_cmp key_cmp q k) moved_heads (g q)) where
    pub hand_from_lists : AreLists c2 f'
    hand_from_lists = row_end c c2 f f' k settled_heads fa from_end flaw

    pub hand_to_lists : AreLists d2 g'
    hand_to_lists = row_end d d2 g g' k moved_heads ga to_end glaw

    pub hand_from_others : (q : Key) (w : ℕ) → eq_by_cmp key_cmp q k ≡ false → versions_in c2 (f' q) w ≡ versions_in c (f q) w
    hand_from_others q w e =
        let s = from_end.others q e in
        ap (λ x. versions_in c2 x w) (heads_else c c2 f f' k settled_heads fa from_end flaw q e)
        ∙ (λ i. of_lists (value_in (f q) w) (s.same_undos i) (s.same_touches i))

    pub hand_to_others : (q : Key) (w : ℕ) → eq_by_cmp key_cmp q k ≡ false → versions_in d2 (g' q) w ≡ versions_in d (g q) w
    hand_to_others q w e =
        let s = to_end.others q e in
        ap (λ x. versions_in d2 x w) (heads_else d d2 g g' k moved_heads ga to_end glaw q e)
        ∙ (λ i. of_lists (value_in (g q) w) (s.same_undos i) (s.same_touches i))

    pub hand_moved : (w : ℕ) → versions_in d2 (g' k) w ≡ versions_in c (f k) w
    hand_moved w =
        ap (λ x. versions_in d2 x w) (heads_here d d2 g g' k moved_heads ga to_end glaw)
        ∙ (λ i. of_lists (value_in h w) (all_undos i) (all_touches i))
        ∙ ap (λ x. versions_in c x w) is

    pub hand_from_rest : ((q : Key) → HasRest (f q)) → (q : Key) → HasRest (f' q)
    hand_from_rest all q = subst HasRest (sym (flaw q)) (go (eq_by_cmp key_cmp q k))
      where
        go : (s : Bool) → HasRest (cond s settled_heads (f q))
        go true = λ e. cc
        go false = all q

    pub hand_to_rest : HasRest (f k) → ((q : Key) → HasRest (g q)) → (q : Key) → HasRest (g' q)
    hand_to_rest one all q = subst HasRest (sym (glaw q)) (go (eq_by_cmp key_cmp q k))
      where
        here : HasRest moved_heads
        here = λ e. (λ i. some_undos i || some_touches i) ∙ subst HasRest (sym is) one e

        go : (s : Bool) → HasRest (cond s moved_heads (g q))
        go true = here
        go false = all q

-- all of it, of one row
module _ (k : Key) (fh fh' th th' : HeadTable) (c c1 c2 d d1 d2 : ChainMap) (h : Heads) (is : h ≡ heads_at fh.entries k) (u t : Option ℕ)
    (fa : AreLists c (heads_at fh.entries)) (ga : AreLists d (heads_at th.entries))
    (u_list : list_at d1 u ≡ list_at c h.undos) (u_left : ChangesOneList c c1 h.undos None) (u_gained : ChangesOneList d d1 None u)
    (t_list : list_at d2 t ≡ list_at c1 h.touches) (t_left : ChangesOneList c1 c2 h.touches None) (t_gained : ChangesOneList d1 d2 None t)
    (rest : HasRest (heads_at fh.entries k))
    (flaw : (q : Key) → heads_at fh'.entries q ≡ cond (eq_by_cmp key_cmp q k) settled_heads (heads_at fh.entries q))
    (glaw : (q : Key) → heads_at th'.entries q ≡ cond (eq_by_cmp key_cmp q k) (record { has_value = h.has_value; undos = u; touches = t }) (heads_at th.entries q)) where
  pub hand_row : fh.spare ≤ fh'.spare → c.spare ≤ c2.spare → d.spare ≤ d1.spare + length (list_at c h.undos) → d1.spare ≤ d2.spare + length (list_at c1 h.touches) → th.spare ≤ th'.spare + 1
      → ((heads_at th.entries k ≡ settled_heads → record { has_value = h.has_value; undos = u; touches = t } ≡ settled_heads) → th.spare ≤ th'.spare) → HandsRow k fh fh' c c2 th th' d d2
  hand_row left spare one two entry kept = record {
    from_lists = hand_from_lists c c1 c2 d d1 d2 (heads_at fh.entries) (heads_at th.entries) k h is u t fa ga u_list u_left u_gained t_list t_left t_gained (heads_at fh'.entries) (heads_at th'.entries) flaw glaw;
    to_lists = hand_to_lists c c1 c2 d d1 d2 (heads_at fh.entries) (heads_at th.entries) k h is u t fa ga u_list u_left u_gained t_list t_left t_gained (heads_at fh'.entries) (heads_at th'.entries) flaw glaw;
    from_others = hand_from_others c c1 c2 d d1 d2 (heads_at fh.entries) (heads_at th.entries) k h is u t fa ga u_list u_left u_gained t_list t_left t_gained (heads_at fh'.entries) (heads_at th'.entries) flaw glaw;
    to_others = hand_to_others c c1 c2 d d1 d2 (heads_at fh.entries) (heads_at th.entries) k h is u t fa ga u_list u_left u_gained t_list t_left t_gained (heads_at fh'.entries) (heads_at th'.entries) flaw glaw;
    moved = hand_moved c c1 c2 d d1 d2 (heads_at fh.entries) (heads_at th.entries) k h is u t fa ga u_list u_left u_gained t_list t_left t_gained (heads_at fh'.entries) (heads_at th'.entries) flaw glaw;
    from_rest = hand_from_rest c c1 c2 d d1 d2 (heads_at fh.entries) (heads_at th.entries) k h is u t fa ga u_list u_left u_gained t_list t_left t_gained (heads_at fh'.entries) (heads_at th'.entries) flaw glaw;
    to_rest = hand_to_rest c c1 c2 d d1 d2 (heads_at fh.entries) (heads_at th.entries) k h is u t fa ga u_list u_left u_gained t_list t_left t_gained (heads_at fh'.entries) (heads_at th'.entries) flaw glaw rest;
    from_spare = spare;
    from_entry = left;
    to_spare = hand_used c c1 c2 d d1 d2 (heads_at fh.entries) (heads_at th.entries) k h is u t fa ga u_list u_left u_gained t_list t_left t_gained d.spare d1.spare d2.spare one two;
    to_entry = hand_entry c c1 c2 d d1 d2 (heads_at fh.entries) (heads_at th.entries) k h is u t fa ga u_list u_left u_gained t_list t_left t_gained th.spare th'.spare rest entry kept;
  }

-- ---- lists of two neighbours

module _ {X : Type 0} where
  back_all : (P : X → Type 0) (xs ys : List X) → AllByRecursion P (xs ++ ys) → AllByRecursion P ys
  back_all P [] ys h = h
  back_all P (x ∷ xs) ys h = back_all P xs ys h.1

-- ---- two segments' rows

pub first_key_same : (heads : List ChangedRow) (c : ChainMap) (rows : List Row) (other : Key) → first_key_of (versioned c heads rows) other ≡ first_key_or rows other
first_key_same heads c [] other = refl
first_key_same heads c (r ∷ rs) other = refl

-- rows that are none of these show the same
others_same : (heads heads' : List ChangedRow) (c c' : ChainMap) (moved : List Row)
    → ((q : Key) (w : ℕ) → IsElsewhere moved q → versions_in c' (heads_at heads' q) w ≡ versions_in c (heads_at heads q) w)
    → (rows : List Row) → AllByRecursion (λ r. IsElsewhere moved r.key) rows → versioned c' heads' rows ≡ versioned c heads rows
others_same heads heads' c c' moved same [] h = refl
others_same heads heads' c c' moved same (r ∷ rs) h = λ i. (r.key, same r.key r.weight h.0 i) ∷ others_same heads heads' c c' moved same rs h.1 i

below_elsewhere : (k : Key) (rows : List Row) → AreAbove k rows → IsElsewhere rows k
below_elsewhere k rows h = all_map (λ r. is_below k r.key ≡ true) (λ r. eq_by_cmp key_cmp k r.key ≡ false) (λ r e. below_untied k r.key e) rows h

above_elsewhere : (k : Key) (rows : List Row) → AreBelow k rows → IsElsewhere rows k
above_elsewhere k rows h = all_map (λ r. is_below r.key k ≡ true) (λ r. eq_by_cmp key_cmp k r.key ≡ false) (λ r e. above_untied r.key k e) rows h

-- in sorted rows, those before one are below it
sorted_front : (k : Key) (xs ys : List Row) (r : Row) → r.key ≡ k → AreSorted (xs ++ r ∷ ys) → AreBelow k xs
sorted_front k [] ys r e s = tt
sorted_front k (x ∷ xs) ys r e s = (subst (λ (q : Key). is_below x.key q ≡ true) e (at_end xs s.0), sorted_front k xs ys r e s.1)
  where
    at_end : (zs : List Row) → AllByRecursion (λ q. is_below x.key q.key ≡ true) (zs ++ r ∷ ys) → is_below x.key r.key ≡ true
    at_end [] h = h.0
    at_end (z ∷ zs) h = at_end zs h.1

-- of sorted rows those of one part are none of the other's
front_elsewhere : (xs ys : List Row) → AreSorted (xs ++ ys) → AllByRecursion (λ r. IsElsewhere ys r.key) xs
front_elsewhere [] ys s = tt
front_elsewhere (x ∷ xs) ys s = (below_elsewhere x.key ys (back_all (λ q. is_below x.key q.key ≡ true) xs ys s.0), front_elsewhere xs ys s.1)

back_elsewhere : (xs ys : List Row) → AreSorted (xs ++ ys) → AllByRecursion (λ r. IsElsewhere xs r.key) ys
back_elsewhere xs [] s = tt
back_elsewhere xs (y ∷ ys) s =
    let front : AreBelow y.key xs = sorted_front y.key xs ys y refl s in
    (above_elsewhere y.key xs front, back_elsewhere xs ys (without xs s))
  where
    without : (zs : List Row) → AreSorted (zs ++ y ∷ ys) → AreSorted (zs ++ ys)
    without [] t = t.1
    without (z ∷ zs) t = (all_without (λ q. is_below z.key q.key ≡ true) zs t.0, without zs t.1)
      where
        all_without : (P : Row → Type 0) (ws : List Row) → AllByRecursion P (ws ++ y ∷ ys) → AllByRecursion P (ws ++ ys)
        all_without P [] h = h.1
        all_without P (w ∷ ws) h = (h.0, all_without P ws h.1)

versioned_append : (heads : List ChangedRow) (c : ChainMap) (xs ys : List Row) → versioned c heads (xs ++ ys) ≡ versioned c heads xs ++ versioned c heads ys
versioned_append heads c [] ys = refl
versioned_append heads c (x ∷ xs) ys = ap (λ es. (x.key, versions_in c (heads_at heads x.key) x.weight) ∷ es) (versioned_append heads c xs ys)

pub versioned_take : (heads : List ChangedRow) (c : ChainMap) (n : ℕ) (rows : List Row) → versioned c heads (take n rows) ≡ take n (versioned c heads rows)
versioned_take heads c zero rows = refl
versioned_take heads c (suc n) [] = refl
versioned_take heads c (suc n) (r ∷ rs) = ap (λ es. (r.key, versions_in c (heads_at heads r.key) r.weight) ∷ es) (versioned_take heads c n rs)

pub versioned_drop : (heads : List ChangedRow) (c : ChainMap) (n : ℕ) (rows : List Row) → versioned c heads (drop n rows) ≡ drop n (versioned c heads rows)
versioned_drop heads c zero rows = refl
versioned_drop heads c (suc n) [] = refl
versioned_drop heads c (suc n) (r ∷ rs) = versioned_drop heads c n rs

-- ---- rows that are handed over

-- the records of all rows are those of the first and of the others
pub first_records : (heads : HeadTable) (c : ChainMap) (rows : List Row) (r : Row) (rs : List Row) → rows ≡ r ∷ rs
    → all_records (versioned c heads.entries rows) ≡ records_at_key c (heads_at heads.entries r.key) + all_records (versioned c heads.entries rs)
first_records heads c rows r rs is =
    let whole : all_records (versioned c heads.entries rows) ≡ records_in (versions_in c (heads_at heads.entries r.key) r.weight) + all_records (versioned c heads.entries rs) = ap (λ qs. all_records (versioned c heads.entries qs)) is in
    let first : records_in (versions_in c (heads_at heads.entries r.key) r.weight) ≡ records_at_key c (heads_at heads.entries r.key) = records_of_lists (value_in (heads_at heads.entries r.key) r.weight) (list_at c (heads_at heads.entries r.key).undos) (list_at c (heads_at heads.entries r.key).touches) in
    omega (arith, whole, first)

module _ (r : Row) (rs : List Row) (sorted : AreSorted (r ∷ rs)) (fh fh1 th th1 : HeadTable) (f f1 t t1 : ChainMap) (one : HandsRow r.key fh fh1 f f1 th th1 t t1) where
  untied_rest : AllByRecursion (λ q. eq_by_cmp key_cmp q.key r.key ≡ false) rs
  untied_rest = all_map (λ q. is_below r.key q.key ≡ true) (λ q. eq_by_cmp key_cmp q.key r.key ≡ false) (λ q e. above_untied r.key q.key e) rs sorted.0

  -- the rows behind the first are as they were
  pub rest_stays : versioned f1 fh1.entries rs ≡ versioned f fh.entries rs
  rest_stays = go rs untied_rest
    where
      go : (qs : List Row) → AllByRecursion (λ q. eq_by_cmp key_cmp q.key r.key ≡ false) qs → versioned f1 fh1.entries qs ≡ versioned f fh.entries qs
      go [] h = refl
      go (q ∷ qs) h = λ i. (q.key, one.from_others q.key q.weight h.0 i) ∷ go qs h.1 i

  pub records_split : all_records (versioned f fh.entries (r ∷ rs)) ≡ records_at_key f (heads_at fh.entries r.key) + all_records (versioned f1 fh1.entries rs)
  records_split =
      let rest : all_records (versioned f1 fh1.entries rs) ≡ all_records (versioned f fh.entries rs) = ap all_records rest_stays in
      omega (arith, first_records fh f (r ∷ rs) r rs refl, rest)

  -- the first row and then the others are all rows
  pub hands_more : (fh2 th2 : HeadTable) (f2 t2 : ChainMap) → ((q : Key) → HasRest (heads_at fh.entries q)) → HandsRows rs fh1 fh2 f1 f2 th1 th2 t1 t2 → HandsRows (r ∷ rs) fh fh2 f f2 th th2 t t2
  hands_more fh2 th2 f2 t2 rest more = record {
    from_lists = more.from_lists;
    to_lists = more.to_lists;
    from_others = λ q w e. more.from_others q w e.1 ∙ one.from_others q w e.0;
    to_others = λ q w e. more.to_others q w e.1 ∙ one.to_others q w e.0;
    moved = λ i. (r.key, (more.to_others r.key r.weight (below_elsewhere r.key rs sorted.0) ∙ one.moved r.weight) i) ∷ (more.moved ∙ rest_stays) i;
    from_rest = more.from_rest;
    to_rest = λ h. more.to_rest (one.to_rest h);
    from_spare = omega (arith, one.from_spare, more.from_spare);
    from_entry = omega (arith, one.from_entry, more.from_entry);
    to_spare = omega (arith, one.to_spare, more.to_spare, records_split);
    to_entry = omega (arith, one.to_entry, more.to_entry, records_split);
  }

-- ---- rows of two neighbours, shared anew

module _ (l r : FencedRows) (hl hr hl' hr' : HeadTable) (c d c' d' : ChainMap) (is_l : AreParts l hl.entries c) (is_r : AreParts r hr.entries d) (meet : l.high ≡ r.low) where
  whole : AreFenced (joined l r)
  whole = fenced_append l r is_l.fenced is_r.fenced meet

  abbrev both : List (Key × StampedVersions)
  both = versioned c hl.entries l.rows ++ versioned d hr.entries r.rows

  shared : (n : ℕ) → versioned c' hl'.entries (take n (l.rows ++ r.rows)) ≡ take n both → versioned d' hr'.entries (drop n (l.rows ++ r.rows)) ≡ drop n both
      → SharesRows (view_of l hl c) (view_of r hr d) (view_of (front_of (joined l r) n) hl' c') (view_of (back_of (joined l r) n) hr' d') n
  shared n left right = record {
    left_rows = left;
    right_rows = right;
    low = refl;
    high = refl;
    left_cut = sym (first_key_same hr'.entries d' (drop n (l.rows ++ r.rows)) r.high);
    right_cut = sym (first_key_same hr'.entries d' (drop n (l.rows ++ r.rows)) r.high);
  }

  pub left_fenced : (n : ℕ) → AreFenced (front_of (joined l r) n)
  left_fenced n = fenced_front (joined l r) n _ whole refl

  pub right_fenced : (n : ℕ) → AreFenced (back_of (joined l r) n)
  right_fenced n = fenced_back (joined l r) n _ whole refl

  -- the left one's last rows move
  module _ (n : ℕ) (le : n ≤ length l.rows) (hands : HandsRows (drop n l.rows) hl hl' c c' hr hr' d d') where
    pub given_left : AreParts (front_of (joined l r) n) hl'.entries c'
    given_left = record { fenced = left_fenced n; lists = hands.from_lists; rest = hands.from_rest }

    pub given_right : AreParts (back_of (joined l r) n) hr'.entries d'
    given_right = record { fenced = right_fenced n; lists = hands.to_lists; rest = hands.to_rest is_r.rest }

    pub given_shares : (m : ℕ) → m ≡ n → SharesRows (view_of l hl c) (view_of r hr d) (view_of (front_of (joined l r) n) hl' c') (view_of (back_of (joined l r) n) hr' d') m
    given_shares m e = subst (SharesRows (view_of l hl c) (view_of r hr d) (view_of (front_of (joined l r) n) hl' c') (view_of (back_of (joined l r) n) hr' d')) (sym e) (shared n left right)
      where
        few : n ≤ length (versioned c hl.entries l.rows)
        few = let count : length (versioned c hl.entries l.rows) ≡ length l.rows = row_count l hl c in omega (arith, count, le)

        left : versioned c' hl'.entries (take n (l.rows ++ r.rows)) ≡ take n both
        left =
            ap (versioned c' hl'.entries) (take-append-le n l.rows r.rows le)
            ∙ others_same hl.entries hl'.entries c c' (drop n l.rows) hands.from_others (take n l.rows)
            (front_elsewhere (take n l.rows) (drop n l.rows) (subst AreSorted (sym (take-append-drop n l.rows)) is_l.fenced.sorted))
            ∙ versioned_take hl.entries c n l.rows ∙ sym (take-append-le n (versioned c hl.entries l.rows) (versioned d hr.entries r.rows) few)

        right_sorted : AreSorted (drop n l.rows ++ r.rows)
        right_sorted = subst AreSorted (drop-append-le n l.rows r.rows le) (right_fenced n).sorted

        right : versioned d' hr'.entries (drop n (l.rows ++ r.rows)) ≡ drop n both
        right =
            ap (versioned d' hr'.entries) (drop-append-le n l.rows r.rows le) ∙ versioned_append hr'.entries d' (drop n l.rows) r.rows
            ∙ (λ i. hands.moved i ++ others_same hr.entries hr'.entries d d' (drop n l.rows) hands.to_others r.rows (back_elsewhere (drop n l.rows) r.rows right_sorted) i)
            ∙ ap (λ es. es ++ versioned d hr.entries r.rows) (versioned_drop hl.entries c n l.rows) ∙ sym (drop-append-le n (versioned c hl.entries l.rows) (versioned d hr.entries r.rows) few)

  -- the right one's first rows move
  module _ (k n : ℕ) (is : n ≡ length l.rows + k) (le : k ≤ length r.rows) (hands : HandsRows (take k r.rows) hr hr' d d' hl hl' c c') where
    pub taken_left : AreParts (front_of (joined l r) n) hl'.entries c'
    taken_left = record { fenced = left_fenced n; lists = hands.to_lists; rest = hands.to_rest is_l.rest }

    pub taken_right : AreParts (back_of (joined l r) n) hr'.entries d'
    taken_right = record { fenced = right_fenced n; lists = hands.from_lists; rest = hands.from_rest }

    pub taken_shares : (m : ℕ) → m ≡ n → SharesRows (view_of l hl c) (view_of r hr d) (view_of (front_of (joined l r) n) hl' c') (view_of (back_of (joined l r) n) hr' d') m
    taken_shares m e = subst (SharesRows (view_of l hl c) (view_of r hr d) (view_of (front_of (joined l r) n) hl' c') (view_of (back_of (joined l r) n) hr' d')) (sym e) (shared n left right)
      where
        grown : n ≡ length (versioned c hl.entries l.rows) + k
        grown = let count : length (versioned c hl.entries l.rows) ≡ length l.rows = row_count l hl c in omega (arith, count, is)

        left_is : take n (l.rows ++ r.rows) ≡ l.rows ++ take k r.rows
        left_is = ap (λ m. take m (l.rows ++ r.rows)) is ∙ take-append-add l.rows r.rows k

        left_sorted : AreSorted (l.rows ++ take k r.rows)
        left_sorted = subst AreSorted left_is (left_fenced n).sorted

        left : versioned c' hl'.entries (take n (l.rows ++ r.rows)) ≡ take n both
        left =
            ap (versioned c' hl'.entries) left_is ∙ versioned_append hl'.entries c' l.rows (take k r.rows)
            ∙ (λ i. others_same hl.entries hl'.entries c c' (take k r.rows) hands.to_others l.rows (front_elsewhere l.rows (take k r.rows) left_sorted) i ++ hands.moved i)
            ∙ ap (λ es. versioned c hl.entries l.rows ++ es) (versioned_take hr.entries d k r.rows)
            ∙ sym (take-append-add (versioned c hl.entries l.rows) (versioned d hr.entries r.rows) k) ∙ sym (ap (λ m. take m both) grown)

        right : versioned d' hr'.entries (drop n (l.rows ++ r.rows)) ≡ drop n both
        right =
            ap (versioned d' hr'.entries) (ap (λ m. drop m (l.rows ++ r.rows)) is ∙ drop-append-add l.rows r.rows k)
            ∙ others_same hr.entries hr'.entries d d' (take k r.rows) hands.from_others (drop k r.rows)
            (back_elsewhere (take k r.rows) (drop k r.rows) (subst AreSorted (sym (take-append-drop k r.rows)) is_r.fenced.sorted))
            ∙ versioned_drop hr.entries d k r.rows
            ∙ sym (drop-append-add (versioned c hl.entries l.rows) (versioned d hr.entries r.rows) k) ∙ sym (ap (λ m. drop m both) grown)

-- ---- segments that are what they should be
