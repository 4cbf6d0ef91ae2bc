-- The vertices of the rows, where their arcs begin, and the arcs in the order of the rows make the arcs out of each place.
use Rattle.std.proofs.Common.{◌≡◌, ℕ, zero, suc, ◌+◌, ◌-◌, ◌<◌, ◌≤◌, inl, inr, ⊎_elim, List, [], ◌∷◌, ◌++◌, false, cond, map, length, take, drop, slice_get, Some, refl, sym, ap, ◌∙◌, subst, arith}
use Rattle.std.specs.Prelude.{slice_index, ◌==◌}
use Rattle.std.specs.List.{AllZip}
use Rattle.std.proofs.lemmas.Bool.{cases_lt, cases_order, cases_eq, eq-eqb, ne_eqb}
use Rattle.std.proofs.lemmas.List.{append_assoc, append-nil, take_all, take-append-drop, length-map, length_push, map_push, get_or_append_left}
use Rattle.std.proofs.lemmas.Option.{same_Some, none-some, slice_get_within, get_or_from_slice_get}
use Rattle.graph_model.specs.declared.row.Key.{Key}
use Rattle.graph_model.specs.declared.row.Row.{Row}
use Rattle.graph_image.specs.declared.placed_row.PlacedRow.{PlacedRow}
use Rattle.graph_image.specs.declared.edge.Arc.{Arc}
use Rattle.graph_image.specs.declared.edge.PlacedArc.{PlacedArc}
use Rattle.graph_image.specs.declared.edge.Side.TheVariants.{Out}
use Rattle.graph_image.specs.Images.{IdsRise}
use Rattle.graph_image.specs.Edges.{key_of, arc_of, before, AreStarts, IsListed}
use Rattle.graph_image.specs.Building.{AreStorable, AreEnded, HasVertexRow, shown, IsBuilt, IsEdge, AreEdgesOf, HaveArcsOf}
use Rattle.graph_image.specs.Parts.{vertices_in, arcs_in, ids_of, starts_from, arc_rows, IsArcOf, IsPlaceable}
use Rattle.graph_image.proofs.Lists.{get_map, map_get, get_pushed, get_last, get_push_cases, below_cases, below_whole, below_push}
use Rattle.graph_image.proofs.GroupLemmas.{grouped_out, grouped_listed}
use Rattle.graph_image.proofs.BuildLemmas.{below_means, source_at, source_low, built_none, appends, Follows, storable_front, edges_none, edges_same, edges_longer, edges_within, row_placed}
use Rattle.graph_image.proofs.PartLemmas.{vertices_append, arcs_append, ids_append, length_ids}

-- the next of a list stands behind those before it
next_at : {X : Type 0} (front : List X) (x : X) (back : List X) → slice_get (front ++ x ∷ back) (length front) ≡ Some x
next_at [] x back = refl
next_at (y ∷ front) x back = next_at front x back

-- what stands before a place stands in the front
front_get : {X : Type 0} (front back : List X) (k : ℕ) (x : X) → k < length front → slice_get (front ++ back) k ≡ Some x → slice_get front k ≡ Some x
front_get [] back k x below at = absurd (omega arith)
front_get (y ∷ front) back zero x below at = at
front_get (y ∷ front) back (suc k) x below at = front_get front back k x (omega arith) at

-- the first of a list are those of its front
take_front : {X : Type 0} (k : ℕ) (front back : List X) → k ≤ length front → take k (front ++ back) ≡ take k front
take_front zero front back le = refl
take_front (suc k) [] back le = absurd (omega arith)
take_front (suc k) (x ∷ front) back le = ap (λ xs. x ∷ xs) (take_front k front back (omega arith))

-- of fewer rows no more are of vertices
vertices_few : (k : ℕ) (rows : List Row) → vertices_in (take k rows) ≤ vertices_in rows
vertices_few k rows =
    let all = sym (vertices_append (take k rows) (drop k rows)) ∙ ap vertices_in (take-append-drop k rows) in
    omega (arith, all)

-- ---- each row with the place of its source

-- the sources of the rows are their vertices, and the last one of the first i + 1 rows is that of row i
pub record ArePlacedRows (rows : List Row) (placed : List PlacedRow) : Type 0 where
  pub built : IsBuilt (ids_of rows) placed
  pub are : map (shown (ids_of rows)) placed ≡ rows
  pub each : (i : ℕ) (q : PlacedRow) → slice_get placed i ≡ Some q → q.source + 1 ≡ vertices_in (take (i + 1) rows)

pub placed_none : ArePlacedRows [] []
placed_none = record { built = built_none; are = refl; each = λ i q at. absurd (none-some q at) }

module _ (rows : List Row) (storable : AreStorable rows) (ended : AreEnded rows) where
  module _ (front : List Row) (r : Row) (back : List Row) (split : front ++ r ∷ back ≡ rows) (placed : List PlacedRow) (is : ArePlacedRows front placed) where
    abbrev sources : List ℕ
    sources = ids_of front

    abbrev longer : List Row
    longer = front ++ r ∷ []

    r_at : slice_get rows (length front) ≡ Some r
    r_at = ap (λ rs. slice_get rs (length front)) (sym split) ∙ next_at front r back

    storable_longer : AreStorable longer
    storable_longer = storable_front longer back (subst AreStorable (sym (append_assoc front (r ∷ []) back ∙ split)) storable)

    storable_here : AreStorable (map (shown sources) placed ++ r ∷ [])
    storable_here = subst (λ rs. AreStorable (rs ++ r ∷ [])) (sym is.are) storable_longer

    count_placed : length placed ≡ length front
    count_placed = sym (length-map placed (shown sources)) ∙ ap length is.are

    -- a vertex's row begins a source
    vertex_follows : r.key.second ≡ 0 → Follows sources r.key.src (ids_of longer)
    vertex_follows vertex =
        let more : ids_of longer ≡ sources ++ r.key.src ∷ [] = ids_append front (r ∷ []) ∙ ap (λ b. sources ++ cond b (r.key.src ∷ []) []) (eq-eqb r.key.second 0 vertex) in
        inr (
          more,
          ⊎_elim
              (λ none. inl none)
              (λ some. inr (λ same.
              let owner = is.built.used (length sources - 1) (omega arith) in
              let s = shown sources owner.1 in
              let at_front : slice_get front owner.0 ≡ Some s = ap (λ rs. slice_get rs owner.0) (sym is.are) ∙ map_get (shown sources) placed owner.0 owner.1 owner.2 in
              let inside = slice_get_within front owner.0 s at_front in
              let rise = below_means s.key r.key (storable_longer.rise owner.0 (length front) s r inside (get_pushed front r owner.0 s at_front) (get_last front r)) in
              let less = rise.1 (ap (slice_index sources) owner.3 ∙ same) in
              absurd (omega arith)))
              (cases_eq (length sources) 0),
        )

    -- an arc's row goes on with the last source
    arc_follows : (r.key.second ≡ 0 → ⊥) → Follows sources r.key.src (ids_of longer)
    arc_follows arc =
        let more : ids_of longer ≡ sources = ids_append front (r ∷ []) ∙ ap (λ b. sources ++ cond b (r.key.src ∷ []) []) (ne_eqb r.key.second 0 arc) ∙ append-nil sources in
        let has = ended.sources (length front) r r_at in
        let second_is : has.row.key.second ≡ 0 = ap (λ (k : Key). k.second) has.key in
        let src_is : has.row.key.src ≡ r.key.src = ap (λ (k : Key). k.src) has.key in
        let before : has.at < length front = ⊎_elim
        (λ same. absurd (arc (ap (λ (x : Row). x.key.second) (same_Some r has.row (sym r_at ∙ ap (slice_get rows) (sym same) ∙ has.is)) ∙ second_is)))
        (⊎_elim
        (λ low. low)
        (λ high. absurd (let rise = below_means r.key has.row.key (storable.rise (length front) has.at r has.row high r_at has.is) in let less = rise.1 (sym src_is) in omega arith)))
        (cases_order has.at (length front)) in
        let at_front = front_get front (r ∷ back) has.at has.row before (ap (λ rs. slice_get rs has.at) split ∙ has.is) in
        let there = get_map (shown sources) placed has.at has.row (ap (λ rs. slice_get rs has.at) is.are ∙ at_front) in
        let read : slice_index sources there.0.source ≡ r.key.src = ap (λ (x : Row). x.key.src) there.2 ∙ src_is in
        let inside = is.built.placed has.at there.0 there.1 in
        let last = source_at sources (length sources - 1) (omega arith) in
        let low = source_low sources placed is.built r storable_here (length sources - 1) (slice_index sources (length sources - 1)) last in
        let end : there.0.source ≡ length sources - 1 = ⊎_elim
        (λ less. absurd (let rise = is.built.ids.rise there.0.source (length sources - 1) (slice_index sources there.0.source) (slice_index sources (length sources - 1)) less (source_at sources there.0.source inside) last in omega arith))
        (λ rest. omega arith)
        (cases_lt there.0.source (length sources - 1)) in
        inl (more, omega arith, ap (slice_index sources) (sym end) ∙ read)

    follows : Follows sources r.key.src (ids_of longer)
    follows = ⊎_elim vertex_follows arc_follows (cases_eq r.key.second 0)

    abbrev next_placed : PlacedRow
    next_placed = record { second = r.key.second; source = length (ids_of longer) - 1; weight = r.weight }

    some_source : 0 < length (ids_of longer)
    some_source = ⊎_elim
        (λ again. (let same = ap length again.0 in let some = again.1 in omega arith))
        (λ new. (let same = ap length new.0 ∙ length_push sources r.key.src in omega arith))
        follows

    placed_more : ArePlacedRows longer (placed ++ next_placed ∷ [])
    placed_more =
        let app = appends sources placed r is.built storable_here (ids_of longer) next_placed (placed ++ next_placed ∷ []) refl refl refl refl follows in
        record {
          built = app.built;
          are = app.appended ∙ ap (λ rs. rs ++ r ∷ []) is.are;
          each = λ i s at. ⊎_elim
              (λ old. (let within = slice_get_within placed i s old in let count = count_placed in
              is.each i s old ∙ ap vertices_in (sym (take_front (i + 1) front (r ∷ []) (omega arith)))))
              (λ new. (let count = count_placed in let i_is = new.0 in let more = length_push front r in
              let some = some_source in
              let source_is : s.source ≡ length (ids_of longer) - 1 = ap (λ (x : PlacedRow). x.source) (sym new.1) in
              let whole : s.source + 1 ≡ length (ids_of longer) = omega arith in
              whole ∙ length_ids longer ∙ ap vertices_in (sym (take_all (i + 1) longer (omega arith)))))
              (get_push_cases placed next_placed i s at);
        }

  -- so all rows have the places of their sources
  pub placed_all : (front back : List Row) → front ++ back ≡ rows → (placed : List PlacedRow) → ArePlacedRows front placed → (all : List PlacedRow) × ArePlacedRows rows all
  placed_all front [] split placed is = (placed, subst (λ rs. ArePlacedRows rs placed) (sym (append-nil front) ∙ split) is)
  placed_all front (r ∷ back) split placed is = placed_all (front ++ r ∷ []) back (append_assoc front (r ∷ []) back ∙ split) (placed ++ next_placed front r back split placed is ∷ []) (placed_more front r back split placed is)

-- ---- the arcs in the order of the rows

-- the first of a list that goes along with another
record FirstOf {X Y : Type 0} (R : X → Y → Type 0) (x : X) (xs : List X) (ys : List Y) : Type 0 where
  pub arc : Y
  pub rest : List Y
  pub list : ys ≡ arc ∷ rest
  pub is : R x arc
  pub all : AllZip R xs rest

first_of : {X Y : Type 0} (R : X → Y → Type 0) (x : X) (xs : List X) (ys : List Y) → AllZip R (x ∷ xs) ys → FirstOf R x xs ys
first_of R x xs [] all = absurd all
first_of R x xs (y ∷ ys) all = record { arc = y; rest = ys; list = refl; is = all.0; all = all.1 }

module _ (rows : List Row) (placed : List PlacedRow) (is : ArePlacedRows rows placed) where
  abbrev ids : List ℕ
  ids = ids_of rows

  -- the arcs of the rows so far are laid, and the starts of their vertices are right
  pub record AreLaidBy (front : List Row) (edges : List PlacedArc) (starts : List ℕ) : Type 0 where
    pub are : AreEdgesOf ids placed (length front) edges
    pub count : length edges ≡ arcs_in front
    pub starts_count : length starts ≡ vertices_in front
    pub begun : (p : ℕ) → p < length starts → slice_index starts p ≡ before Out edges p

  -- the edges so far lead from the vertices so far
  froms_low : (front back : List Row) → front ++ back ≡ rows → (edges : List PlacedArc) → AreEdgesOf ids placed (length front) edges → (k : ℕ) (e : PlacedArc) → slice_get edges k ≡ Some e → e.from < vertices_in front
  froms_low front back split edges are k e at =
      let there = are.sound k e at in
      let from = there.4.from in
      let below = there.2 in
      let each = is.each there.0 there.1 there.3 in
      let same : vertices_in (take (there.0 + 1) rows) ≡ vertices_in (take (there.0 + 1) front) = ap (λ rs. vertices_in (take (there.0 + 1) rs)) (sym split) ∙ ap vertices_in (take_front (there.0 + 1) front back (omega arith)) in
      let few = vertices_few (there.0 + 1) front in
      omega arith

  all_before : (front back : List Row) → front ++ back ≡ rows → (edges : List PlacedArc) → AreEdgesOf ids placed (length front) edges → before Out edges (vertices_in front) ≡ length edges
  unfolding before
  all_before front back split edges are = below_whole (key_of Out) (vertices_in front) edges (froms_low front back split edges are)

  module _ (front : List Row) (r : Row) (back : List Row) (split : front ++ r ∷ back ≡ rows) (edges : List PlacedArc) (starts : List ℕ) (laid : AreLaidBy front edges starts) where
    next_front : List Row
    next_front = front ++ r ∷ []

    row_here : (q : PlacedRow) × (slice_get placed (length front) ≡ Some q) × (shown ids q ≡ r)
    row_here = get_map (shown ids) placed (length front) r (ap (λ rs. slice_get rs (length front)) (is.are ∙ sym split) ∙ next_at front r back)

    second_is : row_here.0.second ≡ r.key.second
    second_is = ap (λ (x : Row). x.key.second) row_here.2

    longer_count : length (front ++ r ∷ []) ≡ length front + 1
    longer_count = length_push front r

    -- past the row of a vertex
    vertex_laid_by : r.key.second ≡ 0 → AreLaidBy (front ++ r ∷ []) edges (starts ++ length edges ∷ [])
    vertex_laid_by vertex =
        let yes = eq-eqb r.key.second 0 vertex in
        let more : vertices_in (front ++ r ∷ []) ≡ vertices_in front + 1 = vertices_append front (r ∷ []) ∙ ap (λ b. vertices_in front + (cond b 1 0 + 0)) yes in
        let same : arcs_in (front ++ r ∷ []) ≡ arcs_in front + 0 = arcs_append front (r ∷ []) ∙ ap (λ b. arcs_in front + (cond b 0 1 + 0)) yes in
        record {
          are = subst (λ n. AreEdgesOf ids placed n edges) (sym longer_count) (edges_same ids placed is.built (length front) edges laid.are row_here.0 row_here.1 (second_is ∙ vertex));
          count = (let count = laid.count in omega arith);
          starts_count = (let count = laid.starts_count in let push = length_push starts (length edges) in omega arith);
          begun = λ p below. ⊎_elim
              (λ low. get_or_append_left starts (length edges ∷ []) 0 p low ∙ laid.begun p low)
              (λ end. ap (slice_index (starts ++ length edges ∷ [])) end ∙ get_or_from_slice_get (starts ++ length edges ∷ []) (length starts) (length edges) 0 (get_last starts (length edges))
              ∙ sym (all_before front (r ∷ back) split edges laid.are) ∙ ap (before Out edges) (sym (end ∙ laid.starts_count)))
              (below_cases p (length starts) (let push = length_push starts (length edges) in omega arith));
        }

    module _ (arc : r.key.second ≡ 0 → ⊥) (a : Arc) (a_is : IsArcOf ids r a) where
      abbrev edge : PlacedArc
      edge = record { from = row_here.0.source; to = a.other; weight = a.weight }

      edge_is : IsEdge ids row_here.0 edge
      edge_is = record {
        arc = (let second = second_is in omega arith);
        from = refl;
        to = a_is.to ∙ ap (λ n. Some (n - 1)) (sym second_is);
        weight = a_is.weight ∙ sym (ap (λ (x : Row). x.weight) row_here.2);
      }

      no : (r.key.second == 0) ≡ false
      no = ne_eqb r.key.second 0 arc

      same_vertices : vertices_in (front ++ r ∷ []) ≡ vertices_in front
      same_vertices = (let step = vertices_append front (r ∷ []) ∙ ap (λ b. vertices_in front + (cond b 1 0 + 0)) no in omega (arith, step))

      more_arcs : arcs_in (front ++ r ∷ []) ≡ arcs_in front + 1
      more_arcs = arcs_append front (r ∷ []) ∙ ap (λ b. arcs_in front + (cond b 0 1 + 0)) no

      source_last : row_here.0.source + 1 ≡ vertices_in front
      source_last = is.each (length front) row_here.0 row_here.1 ∙ ap (λ rs. vertices_in (take (length front + 1) rs)) (sym (append_assoc front (r ∷ []) back ∙ split))
          ∙ ap vertices_in (take_front (length front + 1) (front ++ r ∷ []) back (let count = longer_count in omega arith) ∙ take_all (length front + 1) (front ++ r ∷ []) (let count = longer_count in omega arith)) ∙ same_vertices

      kept : (p : ℕ) → p < length starts → before Out (edges ++ edge ∷ []) p ≡ before Out edges p
      unfolding before
      kept p below = below_push (key_of Out) p edges edge (let last = source_last in let count = laid.starts_count in omega arith)

      arc_laid_by : AreLaidBy (front ++ r ∷ []) (edges ++ edge ∷ []) starts
      arc_laid_by = record {
        are = subst (λ n. AreEdgesOf ids placed n (edges ++ edge ∷ [])) (sym longer_count) (edges_longer ids placed is.built (length front) edges laid.are row_here.0 row_here.1 edge edge_is);
        count = (let push = length_push edges edge in let count = laid.count in let more = more_arcs in omega arith);
        starts_count = laid.starts_count ∙ sym same_vertices;
        begun = λ p below. laid.begun p below ∙ sym (kept p below);
      }

  -- all rows are laid, by these arcs and starts
  pub record AreLaidWhole (arcs : List Arc) (starts : List ℕ) : Type 0 where
    pub edges : List PlacedArc
    pub laid : AreLaidBy rows edges starts
    pub arcs_are : arcs ≡ map (arc_of Out) edges

  laid_end : (front : List Row) → front ++ [] ≡ rows → (edges : List PlacedArc) (starts : List ℕ) → AreLaidBy front edges starts → (arcs : List Arc) → map (arc_of Out) edges ++ [] ≡ arcs
      → (all : List ℕ) → starts ++ [] ≡ all → AreLaidWhole arcs all
  laid_end front split edges starts laid arcs arcs_are all starts_are = record {
    edges = edges;
    laid = subst (λ rs. AreLaidBy rs edges all) (sym (append-nil front) ∙ split) (subst (AreLaidBy front edges) (sym (append-nil starts) ∙ starts_are) laid);
    arcs_are = sym arcs_are ∙ append-nil (map (arc_of Out) edges);
  }

  -- step by step: by what is left of the rows and the arcs
  pub laid_all : (front back : List Row) → front ++ back ≡ rows → (edges : List PlacedArc) (starts : List ℕ) → AreLaidBy front edges starts → (left : List Arc) → AllZip (IsArcOf ids) (arc_rows back) left
      → (arcs : List Arc) → map (arc_of Out) edges ++ left ≡ arcs → (all : List ℕ) → starts ++ starts_from (length edges) back ≡ all → AreLaidWhole arcs all
  laid_all front [] split edges starts laid [] zip arcs arcs_are all starts_are = laid_end front split edges starts laid arcs arcs_are all starts_are
  laid_all front [] split edges starts laid (a ∷ left) zip arcs arcs_are all starts_are = absurd zip
  laid_all front (r ∷ back) split edges starts laid left zip arcs arcs_are all starts_are = ⊎_elim
      (λ vertex.
      let yes = eq-eqb r.key.second 0 vertex in
      laid_all (front ++ r ∷ []) back (append_assoc front (r ∷ []) back ∙ split) edges (starts ++ length edges ∷ []) (vertex_laid_by front r back split edges starts laid vertex)
      left (subst (λ rs. AllZip (IsArcOf ids) rs left) (ap (λ b. cond b (arc_rows back) (r ∷ arc_rows back)) yes) zip) arcs arcs_are all
      (append_assoc starts (length edges ∷ []) (starts_from (length edges) back) ∙ ap (λ b. starts ++ cond b (length edges ∷ starts_from (length edges) back) (starts_from (length edges + 1) back)) (sym yes) ∙ starts_are))
      (λ arc.
      let no = ne_eqb r.key.second 0 arc in
      let first = first_of (IsArcOf ids) r (arc_rows back) left (subst (λ rs. AllZip (IsArcOf ids) rs left) (ap (λ b. cond b (arc_rows back) (r ∷ arc_rows back)) no) zip) in
      let e = edge front r back split edges starts laid arc first.arc first.is in
      laid_all (front ++ r ∷ []) back (append_assoc front (r ∷ []) back ∙ split) (edges ++ e ∷ []) starts (arc_laid_by front r back split edges starts laid arc first.arc first.is)
      first.rest first.all arcs
      (ap (λ xs. xs ++ first.rest) (map_push (arc_of Out) edges e) ∙ append_assoc (map (arc_of Out) edges) (first.arc ∷ []) first.rest ∙ ap (λ xs. map (arc_of Out) edges ++ xs) (sym first.list) ∙ arcs_are) all
      (ap (λ n. starts ++ starts_from n back) (length_push edges e) ∙ ap (λ b. starts ++ cond b (length edges ∷ starts_from (length edges) back) (starts_from (length edges + 1) back)) (sym no) ∙ starts_are))
      (cases_eq r.key.second 0)

-- ---- all rows

-- so the arcs and the starts are those of the rows
pub record AreOutOf (rows : List Row) (starts : List ℕ) (arcs : List Arc) : Type 0 where
  pub placed : List PlacedRow
  pub built : IsBuilt (ids_of rows) placed
  pub are : map (shown (ids_of rows)) placed ≡ rows
  pub has : HaveArcsOf Out (ids_of rows) placed (record { starts = starts; arcs = arcs })
  pub listed : IsListed (length (ids_of rows)) (record { starts = starts; arcs = arcs })

pub out_of_rows : (rows : List Row) → AreStorable rows → AreEnded rows → (starts : List ℕ) (arcs : List Arc) → starts ≡ starts_from 0 rows ++ arcs_in rows ∷ [] → AllZip (IsArcOf (ids_of rows)) (arc_rows rows) arcs
    → AreOutOf rows starts arcs
out_of_rows rows storable ended starts arcs starts_are zip =
    let there = placed_all rows storable ended [] rows refl [] placed_none in
    let placed = there.0 in
    let is = there.1 in
    let whole = laid_all rows placed is [] rows refl [] [] (record { are = edges_none (ids_of rows) placed; count = refl; starts_count = refl; begun = λ p below. absurd (omega arith) }) arcs zip arcs refl (starts_from 0 rows) refl in
    let laid = whole.laid in
    let n : length (ids_of rows) ≡ vertices_in rows = length_ids rows in
    let end : length rows ≡ length placed = sym (ap length is.are) ∙ length-map placed (shown (ids_of rows)) in
    let count : length starts ≡ length (ids_of rows) + 1 = ap length starts_are ∙ length_push (starts_from 0 rows) (arcs_in rows) ∙ ap (λ k. k + 1) (laid.starts_count ∙ sym n) in
    let begun : AreStarts Out (length (ids_of rows)) whole.edges starts = record {
      count = count;
      each = λ p le. ap (λ xs. slice_index xs p) starts_are ∙ ⊎_elim
          (λ low. get_or_append_left (starts_from 0 rows) (arcs_in rows ∷ []) 0 p low ∙ laid.begun p low)
          (λ high.
          let last : p ≡ length (starts_from 0 rows) = (let same = laid.starts_count in omega arith) in
          ap (slice_index (starts_from 0 rows ++ arcs_in rows ∷ [])) last ∙ get_or_from_slice_get (starts_from 0 rows ++ arcs_in rows ∷ []) (length (starts_from 0 rows)) (arcs_in rows) 0 (get_last (starts_from 0 rows) (arcs_in rows))
          ∙ sym laid.count ∙ sym (all_before rows placed is rows [] (append-nil rows) whole.edges laid.are) ∙ ap (before Out whole.edges) (sym (last ∙ laid.starts_count)))
          (cases_lt p (length (starts_from 0 rows)));
    } in
    let are_all : AreEdgesOf (ids_of rows) placed (length placed) whole.edges = subst (λ m. AreEdgesOf (ids_of rows) placed m whole.edges) end laid.are in
    let grouped = grouped_out (length (ids_of rows)) whole.edges laid.are.froms starts arcs begun whole.arcs_are in
    record {
      placed = placed;
      built = is.built;
      are = is.are;
      has = (whole.edges, are_all, grouped);
      listed = grouped_listed Out (length (ids_of rows)) whole.edges (edges_within (ids_of rows) placed (length placed) whole.edges is.built (omega arith) are_all) starts arcs begun
          (ap length whole.arcs_are ∙ length-map whole.edges (arc_of Out)) grouped;
    }

-- each row's target is one of the vertices, and its weight is within its limit
pub rows_placeable : (rows : List Row) → AreStorable rows → AreEnded rows → (i : ℕ) (r : Row) → slice_get rows i ≡ Some r → IsPlaceable (ids_of rows) r
rows_placeable rows storable ended i r at = record {
  weight = storable.weights i r at;
  target = λ arc.
      let there = placed_all rows storable ended [] rows refl [] placed_none in
      row_placed (ids_of rows) there.0 there.1.built (r.key.second - 1) (subst (λ rs. HasVertexRow rs (r.key.second - 1)) (sym there.1.are) (ended.targets i r at arc));
}

-- the vertices rise
pub ids_rise : (rows : List Row) → AreStorable rows → AreEnded rows → IdsRise (ids_of rows)
ids_rise rows storable ended = (placed_all rows storable ended [] rows refl [] placed_none).1.built.ids
