-- What parts of the rows lay of an image: lists that go on from part to part.
use Rattle.std.proofs.Common.{◌≡◌, ℕ, zero, suc, ◌+◌, ◌<◌, ◌≤◌, List, [], ◌∷◌, ◌++◌, Bool, true, false, cond, length, take, drop, get_or, slice_set, refl, sym, ap, ◌∙◌, subst, arith, length-set}
use Rattle.std.specs.List.{All, AllZip}
use Rattle.std.proofs.lemmas.Bool.{eq-eqb, ne_eqb}
use Rattle.std.proofs.lemmas.List.{append_assoc, append-nil, take_more, take_more_set, take_all, take-append-drop, length-append, get_or_append_left}
use Rattle.graph_model.specs.declared.row.Row.{Row}
use Rattle.part_scan.specs.Parts.{rows_in}
use Rattle.graph_image.specs.declared.edge.Arc.{Arc}
use Rattle.graph_image.specs.declared.part.Share.{Share}
use Rattle.graph_image.specs.Parts.{is_vertex, vertices_in, arcs_in, ids_of, starts_from, arc_rows, IsArcOf, IsShareOf}

-- ---- lists of one part behind those of another

count_more : (a b c d : ℕ) → d ≡ b + c → a + d ≡ a + b + c
count_more a b c d is = omega (arith, is)

pub vertices_append : (xs ys : List Row) → vertices_in (xs ++ ys) ≡ vertices_in xs + vertices_in ys
vertices_append [] ys = omega arith
vertices_append (x ∷ xs) ys = count_more (cond (is_vertex x) 1 0) (vertices_in xs) (vertices_in ys) (vertices_in (xs ++ ys)) (vertices_append xs ys)

pub arcs_append : (xs ys : List Row) → arcs_in (xs ++ ys) ≡ arcs_in xs + arcs_in ys
arcs_append [] ys = omega arith
arcs_append (x ∷ xs) ys = count_more (cond (is_vertex x) 0 1) (arcs_in xs) (arcs_in ys) (arcs_in (xs ++ ys)) (arcs_append xs ys)

taken_more : {X : Type 0} (b : Bool) (x : X) (xs ys zs : List X) → zs ≡ xs ++ ys → cond b (x ∷ zs) zs ≡ cond b (x ∷ xs) xs ++ ys
taken_more true x xs ys zs is = ap (λ vs. x ∷ vs) is
taken_more false x xs ys zs is = is

left_more : {X : Type 0} (b : Bool) (x : X) (xs ys zs : List X) → zs ≡ xs ++ ys → cond b zs (x ∷ zs) ≡ cond b xs (x ∷ xs) ++ ys
left_more true x xs ys zs is = is
left_more false x xs ys zs is = ap (λ vs. x ∷ vs) is

pub ids_append : (xs ys : List Row) → ids_of (xs ++ ys) ≡ ids_of xs ++ ids_of ys
ids_append [] ys = refl
ids_append (x ∷ xs) ys = taken_more (is_vertex x) x.key.src (ids_of xs) (ids_of ys) (ids_of (xs ++ ys)) (ids_append xs ys)

pub arc_rows_append : (xs ys : List Row) → arc_rows (xs ++ ys) ≡ arc_rows xs ++ arc_rows ys
arc_rows_append [] ys = refl
arc_rows_append (x ∷ xs) ys = left_more (is_vertex x) x (arc_rows xs) (arc_rows ys) (arc_rows (xs ++ ys)) (arc_rows_append xs ys)

starts_step : (b : Bool) (before : ℕ) (xs ys : List Row) → ((n : ℕ) → starts_from n (xs ++ ys) ≡ starts_from n xs ++ starts_from (n + arcs_in xs) ys)
    → cond b (before ∷ starts_from before (xs ++ ys)) (starts_from (before + 1) (xs ++ ys))
    ≡ cond b (before ∷ starts_from before xs) (starts_from (before + 1) xs) ++ starts_from (before + (cond b 0 1 + arcs_in xs)) ys
starts_step true before xs ys rest =
    let same : before + arcs_in xs ≡ before + (0 + arcs_in xs) = omega arith in
    ap (λ zs. before ∷ zs) (rest before ∙ ap (λ n. starts_from before xs ++ starts_from n ys) same)
starts_step false before xs ys rest =
    let same : before + 1 + arcs_in xs ≡ before + (1 + arcs_in xs) = omega arith in
    rest (before + 1) ∙ ap (λ n. starts_from (before + 1) xs ++ starts_from n ys) same

pub starts_append : (before : ℕ) (xs ys : List Row) → starts_from before (xs ++ ys) ≡ starts_from before xs ++ starts_from (before + arcs_in xs) ys
starts_append before [] ys = ap (λ n. starts_from n ys) (let same : before ≡ before + 0 = omega arith in same)
starts_append before (x ∷ xs) ys = starts_step (is_vertex x) before xs ys (λ n. starts_append n xs ys)

pub zip_append : {X Y : Type 0} (R : X → Y → Type 0) (xs : List X) (ys : List Y) (vs : List X) (ws : List Y) → AllZip R xs ys → AllZip R vs ws → AllZip R (xs ++ vs) (ys ++ ws)
zip_append R [] [] vs ws a b = b
zip_append R [] (y ∷ ys) vs ws a b = absurd a
zip_append R (x ∷ xs) [] vs ws a b = absurd a
zip_append R (x ∷ xs) (y ∷ ys) vs ws a b = (a.0, zip_append R xs ys vs ws a.1 b)

-- ---- how long they are

length_taken : (b : Bool) (x : ℕ) (xs : List ℕ) (n : ℕ) → length xs ≡ n → length (cond b (x ∷ xs) xs) ≡ cond b 1 0 + n
length_taken true x xs n is = omega (arith, is)
length_taken false x xs n is = omega (arith, is)

pub length_ids : (rows : List Row) → length (ids_of rows) ≡ vertices_in rows
length_ids [] = refl
length_ids (r ∷ rows) = length_taken (is_vertex r) r.key.src (ids_of rows) (vertices_in rows) (length_ids rows)

sides : (b : Bool) (v a n : ℕ) → v + a ≡ n → cond b 1 0 + v + (cond b 0 1 + a) ≡ suc n
sides true v a n is = omega (arith, is)
sides false v a n is = omega (arith, is)

-- a row is of a vertex or of an arc
pub vertices_and_arcs : (rows : List Row) → vertices_in rows + arcs_in rows ≡ length rows
vertices_and_arcs [] = refl
vertices_and_arcs (r ∷ rows) = sides (is_vertex r) (vertices_in rows) (arcs_in rows) (length rows) (vertices_and_arcs rows)

-- ---- one row more

module _ (rows : List Row) (i : ℕ) (d : Row) (below : i < length rows) where
  abbrev next : Row
  next = get_or rows i d

  pub vertices_next : vertices_in (take (i + 1) rows) ≡ vertices_in (take i rows) + (cond (is_vertex next) 1 0 + 0)
  vertices_next = ap vertices_in (take_more rows i d below) ∙ vertices_append (take i rows) (next ∷ [])

  pub arcs_next : arcs_in (take (i + 1) rows) ≡ arcs_in (take i rows) + (cond (is_vertex next) 0 1 + 0)
  arcs_next = ap arcs_in (take_more rows i d below) ∙ arcs_append (take i rows) (next ∷ [])

  -- there are no more than in all
  pub vertices_few : vertices_in (take (i + 1) rows) ≤ vertices_in rows
  vertices_few =
      let all = sym (vertices_append (take (i + 1) rows) (drop (i + 1) rows)) ∙ ap vertices_in (take-append-drop (i + 1) rows) in
      omega (arith, all)

  pub arcs_few : arcs_in (take (i + 1) rows) ≤ arcs_in rows
  arcs_few =
      let all = sym (arcs_append (take (i + 1) rows) (drop (i + 1) rows)) ∙ ap arcs_in (take-append-drop (i + 1) rows) in
      omega (arith, all)

  module _ (vertex : next.key.second ≡ 0) where
    yes : is_vertex next ≡ true
    yes = eq-eqb next.key.second 0 vertex

    pub vertices_vertex : vertices_in (take (i + 1) rows) ≡ vertices_in (take i rows) + 1
    vertices_vertex = vertices_next ∙ ap (λ b. vertices_in (take i rows) + (cond b 1 0 + 0)) yes

    pub arcs_vertex : arcs_in (take (i + 1) rows) ≡ arcs_in (take i rows)
    arcs_vertex = (let step = arcs_next ∙ ap (λ b. arcs_in (take i rows) + (cond b 0 1 + 0)) yes in omega (arith, step))

    pub ids_vertex : ids_of (take (i + 1) rows) ≡ ids_of (take i rows) ++ next.key.src ∷ []
    ids_vertex = ap ids_of (take_more rows i d below) ∙ ids_append (take i rows) (next ∷ []) ∙ ap (λ b. ids_of (take i rows) ++ cond b (next.key.src ∷ []) []) yes

    pub starts_vertex : (before : ℕ) → starts_from before (take (i + 1) rows) ≡ starts_from before (take i rows) ++ (before + arcs_in (take i rows)) ∷ []
    starts_vertex before = ap (starts_from before) (take_more rows i d below) ∙ starts_append before (take i rows) (next ∷ [])
        ∙ ap (λ b. starts_from before (take i rows) ++ cond b ((before + arcs_in (take i rows)) ∷ []) []) yes

    pub arc_rows_vertex : arc_rows (take (i + 1) rows) ≡ arc_rows (take i rows)
    arc_rows_vertex = ap arc_rows (take_more rows i d below) ∙ arc_rows_append (take i rows) (next ∷ []) ∙ ap (λ b. arc_rows (take i rows) ++ cond b [] (next ∷ [])) yes ∙ append-nil (arc_rows (take i rows))

  module _ (arc : next.key.second ≡ 0 → ⊥) where
    no : is_vertex next ≡ false
    no = ne_eqb next.key.second 0 arc

    pub vertices_arc : vertices_in (take (i + 1) rows) ≡ vertices_in (take i rows)
    vertices_arc = (let step = vertices_next ∙ ap (λ b. vertices_in (take i rows) + (cond b 1 0 + 0)) no in omega (arith, step))

    pub arcs_arc : arcs_in (take (i + 1) rows) ≡ arcs_in (take i rows) + 1
    arcs_arc = arcs_next ∙ ap (λ b. arcs_in (take i rows) + (cond b 0 1 + 0)) no

    pub ids_arc : ids_of (take (i + 1) rows) ≡ ids_of (take i rows)
    ids_arc = ap ids_of (take_more rows i d below) ∙ ids_append (take i rows) (next ∷ []) ∙ ap (λ b. ids_of (take i rows) ++ cond b (next.key.src ∷ []) []) no ∙ append-nil (ids_of (take i rows))

    pub starts_arc : (before : ℕ) → starts_from before (take (i + 1) rows) ≡ starts_from before (take i rows)
    starts_arc before = ap (starts_from before) (take_more rows i d below) ∙ starts_append before (take i rows) (next ∷ [])
        ∙ ap (λ b. starts_from before (take i rows) ++ cond b ((before + arcs_in (take i rows)) ∷ []) []) no ∙ append-nil (starts_from before (take i rows))

    pub arc_rows_arc : arc_rows (take (i + 1) rows) ≡ arc_rows (take i rows) ++ next ∷ []
    arc_rows_arc = ap arc_rows (take_more rows i d below) ∙ arc_rows_append (take i rows) (next ∷ []) ∙ ap (λ b. arc_rows (take i rows) ++ cond b [] (next ∷ [])) no

-- ---- while a part is laid

-- the vertices of the first i rows are written, and where their arcs begin
pub record AreLaidTo (rows : List Row) (before i place arcs : ℕ) (vertices starts : List ℕ) : Type 0 where
  pub place_is : place ≡ vertices_in (take i rows)
  pub arcs_are : arcs ≡ before + arcs_in (take i rows)
  pub vertices_count : length vertices ≡ vertices_in rows
  pub starts_count : length starts ≡ vertices_in rows
  pub vertices_are : take place vertices ≡ ids_of (take i rows)
  pub starts_are : take place starts ≡ starts_from before (take i rows)

pub laid_first : (rows : List Row) (before : ℕ) (vertices starts : List ℕ) → length vertices ≡ vertices_in rows → length starts ≡ vertices_in rows → AreLaidTo rows before 0 0 before vertices starts
laid_first rows before vertices starts vertices_count starts_count = record {
  place_is = refl;
  arcs_are = omega arith;
  vertices_count = vertices_count;
  starts_count = starts_count;
  vertices_are = refl;
  starts_are = refl;
}

module _ (rows : List Row) (before i : ℕ) (d : Row) (below : i < length rows) (place arcs : ℕ) (vertices starts : List ℕ) (laid : AreLaidTo rows before i place arcs vertices starts) where
  -- there is a place left for a vertex
  pub vertex_room : (get_or rows i d).key.second ≡ 0 → place < vertices_in rows
  vertex_room vertex = (let more = vertices_vertex rows i d below vertex in let few = vertices_few rows i d below in let is = laid.place_is in omega (arith, more, few, is))

  pub vertex_laid : (vertex : (get_or rows i d).key.second ≡ 0) → AreLaidTo rows before (i + 1) (place + 1) arcs (slice_set vertices place (get_or rows i d).key.src) (slice_set starts place arcs)
  vertex_laid vertex =
      let room = vertex_room vertex in
      let inside : place < length vertices = omega (arith, room, laid.vertices_count) in
      let inside_starts : place < length starts = omega (arith, room, laid.starts_count) in
      record {
        place_is = ap (λ n. n + 1) laid.place_is ∙ sym (vertices_vertex rows i d below vertex);
        arcs_are = laid.arcs_are ∙ ap (λ n. before + n) (sym (arcs_vertex rows i d below vertex));
        vertices_count = length-set vertices place (get_or rows i d).key.src ∙ laid.vertices_count;
        starts_count = length-set starts place arcs ∙ laid.starts_count;
        vertices_are = take_more_set vertices place (get_or rows i d).key.src inside ∙ ap (λ xs. xs ++ (get_or rows i d).key.src ∷ []) laid.vertices_are ∙ sym (ids_vertex rows i d below vertex);
        starts_are = take_more_set starts place arcs inside_starts ∙ (λ j. laid.starts_are j ++ laid.arcs_are j ∷ []) ∙ sym (starts_vertex rows i d below vertex before);
      }

  pub arc_laid : (arc : (get_or rows i d).key.second ≡ 0 → ⊥) → AreLaidTo rows before (i + 1) place (arcs + 1) vertices starts
  arc_laid arc = record {
    place_is = laid.place_is ∙ sym (vertices_arc rows i d below arc);
    arcs_are = (let more = arcs_arc rows i d below arc in let is = laid.arcs_are in omega (arith, more, is));
    vertices_count = laid.vertices_count;
    starts_count = laid.starts_count;
    vertices_are = laid.vertices_are ∙ sym (ids_arc rows i d below arc);
    starts_are = laid.starts_are ∙ sym (starts_arc rows i d below arc before);
  }

  -- the arcs before a vertex are no more than all
  pub before_few : (get_or rows i d).key.second ≡ 0 → arcs ≤ before + arcs_in rows
  before_few vertex = (let same = arcs_vertex rows i d below vertex in let few = arcs_few rows i d below in let is = laid.arcs_are in omega (arith, same, few, is))

  -- there is a number left for another arc
  pub arc_few : ((get_or rows i d).key.second ≡ 0 → ⊥) → arcs < before + arcs_in rows
  arc_few arc = (let more = arcs_arc rows i d below arc in let few = arcs_few rows i d below in let is = laid.arcs_are in omega (arith, more, few, is))

-- the same by other names
pub laid_as : (rows : List Row) (before i p q a b : ℕ) (vs ws ss ts : List ℕ) → q ≡ p → b ≡ a → ws ≡ vs → ts ≡ ss → AreLaidTo rows before i p a vs ss → AreLaidTo rows before i q b ws ts
laid_as rows before i p q a b vs ws ss ts p_is a_is vs_are ss_are laid =
    subst (λ x. AreLaidTo rows before i x b ws ts) (sym p_is) (subst (λ x. AreLaidTo rows before i p x ws ts) (sym a_is) (subst (λ xs. AreLaidTo rows before i p a xs ts) (sym vs_are) (subst (λ xs. AreLaidTo rows before i p a vs xs) (sym ss_are) laid)))

-- all are written
pub laid_vertices : (rows : List Row) (before i place arcs : ℕ) (vertices starts : List ℕ) → AreLaidTo rows before i place arcs vertices starts → length rows ≤ i → vertices ≡ ids_of rows
laid_vertices rows before i place arcs vertices starts laid end =
    let all = take_all i rows end in
    let whole : length vertices ≤ place = (let is = laid.place_is ∙ ap vertices_in all in let count = laid.vertices_count in omega (arith, is, count)) in
    sym (take_all place vertices whole) ∙ laid.vertices_are ∙ ap ids_of all

pub laid_starts : (rows : List Row) (before i place arcs : ℕ) (vertices starts : List ℕ) → AreLaidTo rows before i place arcs vertices starts → length rows ≤ i → starts ≡ starts_from before rows
laid_starts rows before i place arcs vertices starts laid end =
    let all = take_all i rows end in
    let whole : length starts ≤ place = (let is = laid.place_is ∙ ap vertices_in all in let count = laid.starts_count in omega (arith, is, count)) in
    sym (take_all place starts whole) ∙ laid.starts_are ∙ ap (starts_from before) all

-- the arcs of the first i rows are written
pub record ArePlaced (vertices : List ℕ) (rows : List Row) (i at : ℕ) (arcs : List Arc) : Type 0 where
  pub at_is : at ≡ arcs_in (take i rows)
  pub count : length arcs ≡ arcs_in rows
  pub arcs_are : AllZip (IsArcOf vertices) (arc_rows (take i rows)) (take at arcs)

pub placed_first : (vertices : List ℕ) (rows : List Row) (arcs : List Arc) → length arcs ≡ arcs_in rows → ArePlaced vertices rows 0 0 arcs
placed_first vertices rows arcs count = record { at_is = refl; count = count; arcs_are = tt }

module _ (vertices : List ℕ) (rows : List Row) (i : ℕ) (d : Row) (below : i < length rows) (at : ℕ) (arcs : List Arc) (placed : ArePlaced vertices rows i at arcs) where
  pub arc_room : ((get_or rows i d).key.second ≡ 0 → ⊥) → at < arcs_in rows
  arc_room arc = (let more = arcs_arc rows i d below arc in let few = arcs_few rows i d below in let is = placed.at_is in omega (arith, more, few, is))

  pub vertex_placed : (vertex : (get_or rows i d).key.second ≡ 0) → ArePlaced vertices rows (i + 1) at arcs
  vertex_placed vertex = record {
    at_is = placed.at_is ∙ sym (arcs_vertex rows i d below vertex);
    count = placed.count;
    arcs_are = subst (λ rs. AllZip (IsArcOf vertices) rs (take at arcs)) (sym (arc_rows_vertex rows i d below vertex)) placed.arcs_are;
  }

  pub arc_placed : (arc : (get_or rows i d).key.second ≡ 0 → ⊥) → (a : Arc) → IsArcOf vertices (get_or rows i d) a → ArePlaced vertices rows (i + 1) (at + 1) (slice_set arcs at a)
  arc_placed arc a is =
      let room = arc_room arc in
      let inside : at < length arcs = omega (arith, room, placed.count) in
      record {
        at_is = ap (λ n. n + 1) placed.at_is ∙ sym (arcs_arc rows i d below arc);
        count = length-set arcs at a ∙ placed.count;
        arcs_are = subst (λ rs. AllZip (IsArcOf vertices) rs (take (at + 1) (slice_set arcs at a))) (sym (arc_rows_arc rows i d below arc))
            (subst (AllZip (IsArcOf vertices) (arc_rows (take i rows) ++ get_or rows i d ∷ [])) (sym (take_more_set arcs at a inside))
            (zip_append (IsArcOf vertices) (arc_rows (take i rows)) (take at arcs) (get_or rows i d ∷ []) (a ∷ []) placed.arcs_are (is, tt)));
      }

-- all are written
pub placed_arcs : (vertices : List ℕ) (rows : List Row) (i at : ℕ) (arcs : List Arc) → ArePlaced vertices rows i at arcs → length rows ≤ i → AllZip (IsArcOf vertices) (arc_rows rows) arcs
placed_arcs vertices rows i at arcs placed end =
    let all = take_all i rows end in
    let whole : length arcs ≤ at = (let is = placed.at_is ∙ ap arcs_in all in let count = placed.count in omega (arith, is, count)) in
    subst (AllZip (IsArcOf vertices) (arc_rows rows)) (take_all at arcs whole) (subst (λ rs. AllZip (IsArcOf vertices) (arc_rows rs) (take at arcs)) all placed.arcs_are)

-- ---- the shares of lists

pub rows_in_append : (xs ys : List (List Row)) → rows_in (xs ++ ys) ≡ rows_in xs ++ rows_in ys
rows_in_append [] ys = refl
rows_in_append (x ∷ xs) ys = ap (λ rs. x ++ rs) (rows_in_append xs ys) ∙ sym (append_assoc x (rows_in xs) (rows_in ys))

pub zip_length : {X Y : Type 0} (R : X → Y → Type 0) (xs : List X) (ys : List Y) → AllZip R xs ys → length xs ≡ length ys
zip_length R [] [] all = refl
zip_length R [] (y ∷ ys) all = absurd all
zip_length R (x ∷ xs) [] all = absurd all
zip_length R (x ∷ xs) (y ∷ ys) all = ap suc (zip_length R xs ys all.1)

zip_at : {X Y : Type 0} (R : X → Y → Type 0) (xs : List X) (ys : List Y) (i : ℕ) (d : X) (e : Y) → AllZip R xs ys → i < length ys → R (get_or xs i d) (get_or ys i e)
zip_at R [] [] i d e all below = absurd (omega arith)
zip_at R [] (y ∷ ys) i d e all below = absurd all
zip_at R (x ∷ xs) [] i d e all below = absurd all
zip_at R (x ∷ xs) (y ∷ ys) zero d e all below = all.0
zip_at R (x ∷ xs) (y ∷ ys) (suc i) d e all below = zip_at R xs ys i d e all.1 (omega arith)

-- the lists before a place, and those from it on
pub zip_take : {X Y : Type 0} (R : X → Y → Type 0) (k : ℕ) (xs : List X) (ys : List Y) → AllZip R xs ys → AllZip R (take k xs) (take k ys)
zip_take R zero xs ys all = tt
zip_take R (suc k) [] [] all = tt
zip_take R (suc k) [] (y ∷ ys) all = absurd all
zip_take R (suc k) (x ∷ xs) [] all = absurd all
zip_take R (suc k) (x ∷ xs) (y ∷ ys) all = (all.0, zip_take R k xs ys all.1)

pub zip_drop : {X Y : Type 0} (R : X → Y → Type 0) (k : ℕ) (xs : List X) (ys : List Y) → AllZip R xs ys → AllZip R (drop k xs) (drop k ys)
zip_drop R zero xs ys all = all
zip_drop R (suc k) [] [] all = tt
zip_drop R (suc k) [] (y ∷ ys) all = absurd all
zip_drop R (suc k) (x ∷ xs) [] all = absurd all
zip_drop R (suc k) (x ∷ xs) (y ∷ ys) all = zip_drop R k xs ys all.1

module _ (lists : List (List Row)) (shares : List Share) (all : AllZip IsShareOf lists shares) (i : ℕ) (e : Share) (below : i < length shares) where
  share_here : IsShareOf (get_or lists i []) (get_or shares i e)
  share_here = zip_at IsShareOf lists shares i [] e all below

  rows_next : rows_in (take (i + 1) lists) ≡ rows_in (take i lists) ++ get_or lists i []
  rows_next =
      let inside : i < length lists = (let same = zip_length IsShareOf lists shares all in omega arith) in
      ap rows_in (take_more lists i [] inside) ∙ rows_in_append (take i lists) (get_or lists i [] ∷ []) ∙ ap (λ rs. rows_in (take i lists) ++ rs) (append-nil (get_or lists i []))

  pub shared_vertices : vertices_in (rows_in (take (i + 1) lists)) ≡ vertices_in (rows_in (take i lists)) + (get_or shares i e).vertices
  shared_vertices = ap vertices_in rows_next ∙ vertices_append (rows_in (take i lists)) (get_or lists i []) ∙ ap (λ n. vertices_in (rows_in (take i lists)) + n) (sym share_here.vertices)

  pub shared_arcs : arcs_in (rows_in (take (i + 1) lists)) ≡ arcs_in (rows_in (take i lists)) + (get_or shares i e).arcs
  shared_arcs = ap arcs_in rows_next ∙ arcs_append (rows_in (take i lists)) (get_or lists i []) ∙ ap (λ n. arcs_in (rows_in (take i lists)) + n) (sym share_here.arcs)

  -- no more than all rows
  whole : rows_in (take (i + 1) lists) ++ rows_in (drop (i + 1) lists) ≡ rows_in lists
  whole = sym (rows_in_append (take (i + 1) lists) (drop (i + 1) lists)) ∙ ap rows_in (take-append-drop (i + 1) lists)

  pub shared_few : vertices_in (rows_in (take (i + 1) lists)) + arcs_in (rows_in (take (i + 1) lists)) ≤ length (rows_in lists)
  shared_few =
      let both = vertices_and_arcs (rows_in (take (i + 1) lists)) in
      let count = sym (length-append (rows_in (take (i + 1) lists)) (rows_in (drop (i + 1) lists))) ∙ ap length whole in
      omega (arith, both, count)

-- all lists are counted
pub shared_all : (lists : List (List Row)) (shares : List Share) → AllZip IsShareOf lists shares → (i : ℕ) → length shares ≤ i → (total : Share) → total.vertices ≡ vertices_in (rows_in (take i lists)) → total.arcs ≡ arcs_in (rows_in (take i lists)) → IsShareOf (rows_in lists) total
shared_all lists shares all i end total vertices arcs =
    let same = take_all i lists (let count = zip_length IsShareOf lists shares all in omega (arith, count)) in
    record { vertices = vertices ∙ ap (λ ls. vertices_in (rows_in ls)) same; arcs = arcs ∙ ap (λ ls. arcs_in (rows_in ls)) same }

-- what stands behind a front
get_behind : {X : Type 0} (xs ys : List X) (i : ℕ) (d : X) → get_or (xs ++ ys) (length xs + i) d ≡ get_or ys i d
get_behind [] ys i d = ap (λ k. get_or ys k d) (let same : 0 + i ≡ i = omega arith in same)
get_behind (x ∷ xs) ys i d = ap (λ k. get_or (x ∷ xs ++ ys) k d) (let same : suc (length xs) + i ≡ suc (length xs + i) = omega arith in same) ∙ get_behind xs ys i d

-- lists that are cut in two, with their shares
module _ (lists : List (List Row)) (shares : List Share) (all : AllZip IsShareOf lists shares) (k : ℕ) (front back : List (List Row)) (front_shares back_shares : List Share)
    (front_is : front ≡ take k lists) (back_is : back ≡ drop k lists) (front_shares_are : front_shares ≡ take k shares) (back_shares_are : back_shares ≡ drop k shares) where
  pub front_shared : AllZip IsShareOf front front_shares
  front_shared = subst (λ ls. AllZip IsShareOf ls front_shares) (sym front_is) (subst (AllZip IsShareOf (take k lists)) (sym front_shares_are) (zip_take IsShareOf k lists shares all))

  pub back_shared : AllZip IsShareOf back back_shares
  back_shared = subst (λ ls. AllZip IsShareOf ls back_shares) (sym back_is) (subst (AllZip IsShareOf (drop k lists)) (sym back_shares_are) (zip_drop IsShareOf k lists shares all))

-- the rows of lists that are cut in two
module _ (lists : List (List Row)) (k : ℕ) (front back : List (List Row)) (front_is : front ≡ take k lists) (back_is : back ≡ drop k lists) where
  pub rows_cut : rows_in front ++ rows_in back ≡ rows_in lists
  rows_cut = (λ j. rows_in (front_is j) ++ rows_in (back_is j)) ∙ sym (rows_in_append (take k lists) (drop k lists)) ∙ ap rows_in (take-append-drop k lists)

  pub vertices_cut : vertices_in (rows_in front) + vertices_in (rows_in back) ≡ vertices_in (rows_in lists)
  vertices_cut = sym (vertices_append (rows_in front) (rows_in back)) ∙ ap vertices_in rows_cut

  pub arcs_cut : arcs_in (rows_in front) + arcs_in (rows_in back) ≡ arcs_in (rows_in lists)
  arcs_cut = sym (arcs_append (rows_in front) (rows_in back)) ∙ ap arcs_in rows_cut

  pub length_cut : length (rows_in front) + length (rows_in back) ≡ length (rows_in lists)
  length_cut = sym (length-append (rows_in front) (rows_in back)) ∙ ap length rows_cut

  pub ids_joined : (xs ys : List ℕ) → xs ≡ ids_of (rows_in front) → ys ≡ ids_of (rows_in back) → xs ++ ys ≡ ids_of (rows_in lists)
  ids_joined xs ys xs_are ys_are = (λ j. xs_are j ++ ys_are j) ∙ sym (ids_append (rows_in front) (rows_in back)) ∙ ap ids_of rows_cut

  pub starts_joined : (before behind : ℕ) → behind ≡ before + arcs_in (rows_in front) → (xs ys : List ℕ) → xs ≡ starts_from before (rows_in front) → ys ≡ starts_from behind (rows_in back)
      → xs ++ ys ≡ starts_from before (rows_in lists)
  starts_joined before behind behind_is xs ys xs_are ys_are = (λ j. xs_are j ++ ys_are j) ∙ ap (λ n. starts_from before (rows_in front) ++ starts_from n (rows_in back)) behind_is
      ∙ sym (starts_append before (rows_in front) (rows_in back)) ∙ ap (starts_from before) rows_cut

  pub arcs_joined : (vertices : List ℕ) (xs ys : List Arc) → AllZip (IsArcOf vertices) (arc_rows (rows_in front)) xs → AllZip (IsArcOf vertices) (arc_rows (rows_in back)) ys
      → AllZip (IsArcOf vertices) (arc_rows (rows_in lists)) (xs ++ ys)
  arcs_joined vertices xs ys xs_are ys_are = subst (λ rs. AllZip (IsArcOf vertices) rs (xs ++ ys)) (sym (arc_rows_append (rows_in front) (rows_in back)) ∙ ap arc_rows rows_cut)
      (zip_append (IsArcOf vertices) (arc_rows (rows_in front)) xs (arc_rows (rows_in back)) ys xs_are ys_are)

  -- what holds of all rows holds of those of each half
  pub front_all : (P : Row → Type 0) → All P (rows_in lists) → All P (rows_in front)
  front_all P all i d below = subst P (get_or_append_left (rows_in front) (rows_in back) d i below) (subst (λ rs. P (get_or rs i d)) (sym rows_cut) (all i d (let count = length_cut in omega (arith, count, below))))

  pub back_all : (P : Row → Type 0) → All P (rows_in lists) → All P (rows_in back)
  back_all P all i d below = subst P (get_behind (rows_in front) (rows_in back) i d) (subst (λ rs. P (get_or rs (length (rows_in front) + i) d)) (sym rows_cut) (all (length (rows_in front) + i) d (let count = length_cut in omega (arith, count, below))))

-- shares that are right place by place
pub shared_by_place : (lists : List (List Row)) (shares : List Share) → length shares ≡ length lists → ((i : ℕ) (e : Share) → i < length lists → IsShareOf (get_or lists i []) (get_or shares i e)) → AllZip IsShareOf lists shares
shared_by_place [] [] count each = tt
shared_by_place [] (y ∷ ys) count each = absurd (omega arith)
shared_by_place (x ∷ xs) [] count each = absurd (omega arith)
shared_by_place (x ∷ xs) (y ∷ ys) count each = (each 0 y (omega arith), shared_by_place xs ys (omega arith) (λ i e below. each (suc i) e (omega arith)))

-- a list that ends, and the next one that begins
pub rows_in_push : (full : List (List Row)) (last begun : List Row) → begun ≡ [] → rows_in (full ++ last ∷ []) ++ begun ≡ rows_in full ++ last
rows_in_push full last begun none = ap (λ rs. rows_in (full ++ last ∷ []) ++ rs) none ∙ append-nil (rows_in (full ++ last ∷ [])) ∙ rows_in_append full (last ∷ []) ∙ ap (λ rs. rows_in full ++ rs) (append-nil last)

-- the same without a next one
pub rows_in_last : (full : List (List Row)) (last : List Row) → rows_in (full ++ last ∷ []) ≡ rows_in full ++ last
rows_in_last full last = rows_in_append full (last ∷ []) ∙ ap (λ rs. rows_in full ++ rs) (append-nil last)
