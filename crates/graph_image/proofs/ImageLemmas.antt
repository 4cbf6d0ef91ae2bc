-- The image of a graph is made of its rows; and what an image says of a graph.
use Rattle.std.proofs.Common.{◌≡◌, ℕ, ◌+◌, ◌-◌, ◌<◌, ⊎_elim, List, [], ◌∷◌, Bool, true, false, cond, ◌==◌, map, length, get_or, slice_get, Option, Some, None, is_some, refl, sym, ap, ◌∙◌, subst, arith}
use Rattle.std.specs.Prelude.{slice_index, unwrap_or, IfSome, IfNone}
use Rattle.std.specs.List.{list_any}
use Rattle.std.specs.Prelude.{◌||◌}
use Rattle.std.specs.Ordering.{nat_cmp, eq_by_cmp}
use Rattle.std.specs.Cmp.{unsigned_tied, nat_eq_equiv}
use Rattle.std.specs.FinMap as fin_map
use Rattle.std.specs.FinMap.Entries.{find}
use Rattle.std.proofs.lemmas.Bool.{eq-eqb, eqb-true, ne_eqb, cases_lt}
use Rattle.std.proofs.lemmas.List.Folds.{list_any_at, Any-from_list_any}
use Rattle.std.proofs.lemmas.Option.{get_or_from_slice_get, same_Some, slice_get_within, slice_get-get_or}
use Rattle.graph_model.specs.declared.row.Key.{Key}
use Rattle.graph_model.specs.declared.row.Row.{Row}
use Rattle.graph_model.specs.Graph.{Graph, has_vertex, has_arc, weight_of, vertices_of}
use Rattle.graph_model.specs.Rows.{AreRowsOf, value_at, vertex_key, arc_key}
use Rattle.graph_model.proofs.RowLemmas.{has_source, row_is, row_at}
use Rattle.graph_model.proofs.ItemLemmas.{sorted_items}
use Rattle.graph_image.specs.declared.placed_row.PlacedRow.{PlacedRow}
use Rattle.graph_image.specs.declared.edge.Arc.{Arc}
use Rattle.graph_image.specs.declared.edge.PlacedArc.{PlacedArc}
use Rattle.graph_image.specs.declared.edge.Side.TheVariants.{Out, Into}
use Rattle.graph_image.specs.Images.{Listed, arcs_at, Places, LeadsBy, Leads, AreArcs, IsImageOf}
use Rattle.graph_image.specs.Edges.{group, IsMirrored}
use Rattle.graph_image.specs.Building.{shown, IsBuilt, AreEdgesOf, HaveArcsOf}
use Rattle.graph_image.proofs.Lists.{get_map, map_get}
use Rattle.graph_image.proofs.PlaceLemmas.{same_place}
use Rattle.graph_image.proofs.GroupLemmas.{get_group, get_group_pair, group_get}
use Rattle.graph_image.proofs.BuildLemmas.{source_at}
use Rattle.graph_image.proofs.MirrorLemmas.{mirrored_into}

-- a listed number is one of the list
pub any_at : (xs : List ℕ) (v p : ℕ) → slice_get xs p ≡ Some v → list_any (λ x. x == v) xs ≡ true
any_at xs v p is = list_any_at (λ x. x == v) xs p v (slice_get_within xs p v is) (eq-eqb (get_or xs p v) v (get_or_from_slice_get xs p v v is))

-- a number that the list has stands in it
pub place_from_any : (xs : List ℕ) (v : ℕ) → list_any (λ x. x == v) xs ≡ true → (p : ℕ) × (slice_get xs p ≡ Some v)
place_from_any xs v any =
    let there = Any-from_list_any (λ x. x == v) xs any in
    (there.0, slice_get-get_or xs there.0 there.1 there.2 ∙ ap Some (there.3 ∙ eqb-true there.1 v there.4))

-- what the graph has at an arc's key
arc_value : (g : Graph) (u v : ℕ) → value_at g (arc_key u v) ≡ weight_of g u v
arc_value g u v =
    let later : (v + 1 == 0) ≡ false = ne_eqb (v + 1) 0 (λ same. absurd (omega arith)) in
    let back : v + 1 - 1 ≡ v = omega arith in
    (λ i. cond (later i) (cond (has_vertex g u) (Some 0) None) (weight_of g u (back i)))

-- what is there is something
pub some_there : (o : Option ℕ) → is_some o ≡ true → (w : ℕ) × (o ≡ Some w)
some_there None is = absurd (let fails : false ≡ true = is in cc)
some_there (Some w) is = (w, refl)

-- tests that hold together are one
same_tests : (a b : Bool) → (a ≡ true → b ≡ true) → (b ≡ true → a ≡ true) → a ≡ b
same_tests true b up down = sym (up refl)
same_tests false true up down = down refl
same_tests false false up down = refl

-- ---- from rows to an image

module _ (sources : List ℕ) (rows : List PlacedRow) (built : IsBuilt sources rows) (g : Graph) (are : AreRowsOf (map (shown sources) rows) g) where
  -- a row's entry in the graph
  row_value : (i : ℕ) (r : PlacedRow) → slice_get rows i ≡ Some r → value_at g (shown sources r).key ≡ Some r.weight
  row_value i r at = row_is are i (shown sources r) (map_get (shown sources) rows i r at)

  -- each entry of the graph has a row
  value_row : (key : Key) (w : ℕ) → value_at g key ≡ Some w → (i : ℕ) × (r : PlacedRow) × (slice_get rows i ≡ Some r) × ((shown sources r).key ≡ key) × (r.weight ≡ w)
  value_row key w value =
      let row = row_at are key w value in
      let there = get_map (shown sources) rows row.0 (record { key = key; weight = w }) row.1 in
      (row.0, there.0, there.1, ap (λ (x : Row). x.key) there.2, ap (λ (x : Row). x.weight) there.2)

  -- what has a place is a vertex
  source_vertex : (p v : ℕ) → slice_get sources p ≡ Some v → has_vertex g v ≡ true
  source_vertex p v at =
      let owner = built.used p (slice_get_within sources p v at) in
      let src : slice_index sources owner.1.source ≡ v = ap (slice_index sources) owner.3 ∙ get_or_from_slice_get sources p v 0 at in
      ap (has_vertex g) (sym src) ∙ has_source g (shown sources owner.1).key owner.1.weight are.ends (row_value owner.0 owner.1 owner.2)

  -- a vertex has a place
  vertex_source : (v : ℕ) → has_vertex g v ≡ true → (p : ℕ) × (slice_get sources p ≡ Some v)
  vertex_source v is =
      let value : value_at g (vertex_key v) ≡ Some 0 = ap (λ b. cond b (Some 0) None) is in
      let row = value_row (vertex_key v) 0 value in
      (row.1.source, source_at sources row.1.source (built.placed row.0 row.1 row.2) ∙ ap (λ (k : Key). Some k.src) row.3)

  sources_are : sources ≡ vertices_of g
  sources_are = sorted_items g sources built.ids.rise (λ v. same_tests _ _
      (λ any. let place = place_from_any sources v any in source_vertex place.0 v place.1)
      (λ is. let place = vertex_source v is in any_at sources v place.0 place.1))

  module _ (edges : List PlacedArc) (listed : AreEdgesOf sources rows (length rows) edges) where
    -- an edge is an arc
    edge_leads : (k : ℕ) (e : PlacedArc) → slice_get edges k ≡ Some e → LeadsBy g sources e.from e.to e.weight
    edge_leads k e at =
        let there = listed.sound k e at in
        let r = there.1 in
        let is = there.4 in
        let arc = is.arc in
        let second : r.second ≡ (r.second - 1) + 1 = omega arith in
        let value : value_at g (arc_key (slice_index sources r.source) (r.second - 1)) ≡ Some r.weight = ap (λ s. value_at g (record { src = slice_index sources r.source; second = s })) (sym second) ∙ row_value there.0 r there.3 in
        record {
          from = slice_index sources r.source;
          to = r.second - 1;
          from_at = ap (slice_get sources) is.from ∙ source_at sources r.source (built.placed there.0 r there.3);
          to_at = is.to;
          weighs = sym (arc_value g (slice_index sources r.source) (r.second - 1)) ∙ value ∙ ap Some (sym is.weight);
        }

    -- an arc is an edge
    leads_edge : (p q weight : ℕ) → LeadsBy g sources p q weight → (k : ℕ) × (e : PlacedArc) × (slice_get edges k ≡ Some e) × (e.from ≡ p) × (e.to ≡ q) × (e.weight ≡ weight)
    leads_edge p q weight leads =
        let row = value_row (arc_key leads.from leads.to) weight (arc_value g leads.from leads.to ∙ leads.weighs) in
        let r = row.1 in
        let second : r.second ≡ leads.to + 1 = ap (λ (k : Key). k.second) row.3 in
        let edge = listed.complete row.0 r (slice_get_within rows row.0 r row.2) row.2 (omega arith) in
        let is = edge.3 in
        let from : r.source ≡ p = same_place built.ids r.source p leads.from (source_at sources r.source (built.placed row.0 r row.2) ∙ ap (λ (k : Key). Some k.src) row.3) leads.from_at in
        let to : edge.1.to ≡ q = same_place built.ids edge.1.to q leads.to (is.to ∙ ap Some (let back : r.second - 1 ≡ leads.to = omega arith in back)) leads.to_at in
        (edge.0, edge.1, edge.2, is.from ∙ from, to, is.weight ∙ row.4)

    out_are : (p : ℕ) → AreArcs (λ q weight. LeadsBy g sources p q weight) (group Out edges p)
    out_are p = record {
      rise = λ i j a b less at_i at_j.
          let pair = get_group_pair Out edges p i j a b less at_i at_j in
          let low = listed.tos pair.first pair.second pair.edge_first pair.edge_second pair.rise pair.first_at pair.second_at (pair.first_key ∙ sym pair.second_key) in
          subst (λ (x : Arc). x.other < b.other) pair.first_arc (subst (λ (x : Arc). pair.edge_first.to < x.other) pair.second_arc low);
      sound = λ i a at.
          let there = get_group Out edges p i a at in
          let leads = edge_leads there.at there.edge there.is in
          subst (λ (x : Arc). LeadsBy g sources p x.other x.weight) there.arc (subst (λ k. LeadsBy g sources k there.edge.to there.edge.weight) there.key leads);
      complete = λ q weight leads.
          let edge = leads_edge p q weight leads in
          let there = group_get Out edges p edge.0 edge.1 edge.2 edge.3 in
          (there.0, there.1 ∙ (λ i. Some (record { other = edge.4 i; weight = edge.5 i })));
    }

    into_are : (p : ℕ) → AreArcs (λ q weight. LeadsBy g sources q p weight) (group Into edges p)
    into_are p = record {
      rise = λ i j a b less at_i at_j.
          let pair = get_group_pair Into edges p i j a b less at_i at_j in
          let low = listed.froms pair.first pair.second pair.edge_first pair.edge_second pair.rise pair.first_at pair.second_at in
          let below : pair.edge_first.from < pair.edge_second.from = ⊎_elim
          (λ less. less)
          (λ high. absurd (let same : pair.edge_first.from ≡ pair.edge_second.from = omega arith in
          let tos = listed.tos pair.first pair.second pair.edge_first pair.edge_second pair.rise pair.first_at pair.second_at same in
          let key = pair.first_key ∙ sym pair.second_key in omega arith))
          (cases_lt pair.edge_first.from pair.edge_second.from) in
          subst (λ (x : Arc). x.other < b.other) pair.first_arc (subst (λ (x : Arc). pair.edge_first.from < x.other) pair.second_arc below);
      sound = λ i a at.
          let there = get_group Into edges p i a at in
          let leads = edge_leads there.at there.edge there.is in
          subst (λ (x : Arc). LeadsBy g sources x.other p x.weight) there.arc (subst (λ k. LeadsBy g sources there.edge.from k there.edge.weight) there.key leads);
      complete = λ q weight leads.
          let edge = leads_edge q p weight leads in
          let there = group_get Into edges p edge.0 edge.1 edge.2 edge.4 in
          (there.0, there.1 ∙ (λ i. Some (record { other = edge.3 i; weight = edge.5 i })));
    }

  -- the arcs of the rows are those out of each place
  pub outs_right : (out : Listed) → HaveArcsOf Out sources rows out → (p : ℕ) → p < length sources → AreArcs (λ q weight. LeadsBy g sources p q weight) (arcs_at out p)
  outs_right out has p below = subst (AreArcs (λ q weight. LeadsBy g sources p q weight)) (sym (has.2.each p below)) (out_are has.0 has.1 p)

  -- and those into it
  pub intos_right : (into : Listed) → HaveArcsOf Into sources rows into → (p : ℕ) → p < length sources → AreArcs (λ q weight. LeadsBy g sources q p weight) (arcs_at into p)
  intos_right into has p below = subst (AreArcs (λ q weight. LeadsBy g sources q p weight)) (sym (has.2.each p below)) (into_are has.0 has.1 p)

  -- where there are none of their own into each place, those out of it serve
  into_right : (out : Listed) (into : Option Listed) → HaveArcsOf Out sources rows out → IfSome into (HaveArcsOf Into sources rows) → IfNone into (IsMirrored (length sources) out)
      → (p : ℕ) → p < length sources → AreArcs (λ q weight. LeadsBy g sources q p weight) (arcs_at (unwrap_or into out) p)
  into_right out None has some none = mirrored_into g sources out none (outs_right out has)
  into_right out (Some into) has some none = intos_right into some

  -- the arcs of the rows are the image
  pub image_right : (out : Listed) (into : Option Listed) → HaveArcsOf Out sources rows out → IfSome into (HaveArcsOf Into sources rows) → IfNone into (IsMirrored (length sources) out)
      → IsImageOf (record { vertices = sources; out = out; into = unwrap_or into out }) g
  image_right out into has some none = record {
    vertices = sources_are;
    ids = built.ids;
    ends = are.ends;
    out = outs_right out has;
    into = into_right out into has some none;
  }

-- the same by what the code has at the end
pub finished : (sources : List ℕ) (rows : List PlacedRow) → IsBuilt sources rows → (seen : List ℕ) (seen_rows : List PlacedRow) → seen ≡ sources → seen_rows ≡ rows
    → (out : Listed) (into : Option Listed) → HaveArcsOf Out seen seen_rows out → IfSome into (HaveArcsOf Into seen seen_rows) → IfNone into (IsMirrored (length seen) out)
    → (vertices : List ℕ) → vertices ≡ sources → (image : Places) → image ≡ record { vertices = vertices; out = out; into = unwrap_or into out }
    → (given : List Row) → map (shown sources) rows ≡ given → (g : Graph) → AreRowsOf given g → IsImageOf image g
finished sources rows built seen seen_rows seen_is rows_are out into has some none vertices vertices_are image image_is given given_is g are =
    let has_here : HaveArcsOf Out sources rows out = subst (λ rs. HaveArcsOf Out sources rs out) rows_are (subst (λ ss. HaveArcsOf Out ss seen_rows out) seen_is has) in
    let some_here : IfSome into (HaveArcsOf Into sources rows) = subst (λ rs. IfSome into (HaveArcsOf Into sources rs)) rows_are (subst (λ ss. IfSome into (HaveArcsOf Into ss seen_rows)) seen_is some) in
    let none_here : IfNone into (IsMirrored (length sources) out) = subst (λ ss. IfNone into (IsMirrored (length ss) out)) seen_is none in
    let right = image_right sources rows built g (subst (λ rs. AreRowsOf rs g) (sym given_is) are) out into has_here some_here none_here in
    subst (λ x. IsImageOf x g) (sym image_is) (subst (λ vs. IsImageOf (record { vertices = vs; out = out; into = unwrap_or into out }) g) (sym vertices_are) right)

-- ---- what an image says of a graph

-- a test of a choice between something and nothing
some_or : (t : Bool) (x : Option (Unit {0})) → is_some (cond t (Some tt) x) ≡ (t || is_some x)
some_or true x = refl
some_or false x = refl

-- a key is listed where an entry has it
key_listed : (es : List (ℕ × Unit {0})) (v : ℕ) → list_any (λ x. x == v) (map (λ (e : ℕ × Unit {0}). e.0) es) ≡ is_some (find nat_cmp v es)
key_listed [] v = refl
key_listed (e ∷ es) v = (λ i. (sym (unsigned_tied v e.0 ∙ nat_eq_equiv.symm v e.0) i) || key_listed es v i) ∙ sym (some_or (eq_by_cmp nat_cmp v e.0) (find nat_cmp v es))

-- just the vertices are listed
pub listed_vertex : (g : Graph) (v : ℕ) → list_any (λ x. x == v) (vertices_of g) ≡ has_vertex g v
listed_vertex g v = key_listed (fin_map.entries g.vertices) v ∙ ap is_some (sym (fin_map.get-entries g.vertices v))

module _ (image : Places) (g : Graph) (is : IsImageOf image g) where
  -- what has a place is a vertex
  pub placed_vertex : (p v : ℕ) → slice_get image.vertices p ≡ Some v → has_vertex g v ≡ true
  placed_vertex p v at = sym (listed_vertex g v) ∙ ap (list_any (λ x. x == v)) (sym is.vertices) ∙ any_at image.vertices v p at

  -- a vertex has a place
  pub vertex_placed : (v : ℕ) → has_vertex g v ≡ true → (p : ℕ) × (slice_get image.vertices p ≡ Some v)
  vertex_placed v has = place_from_any image.vertices v (ap (list_any (λ x. x == v)) is.vertices ∙ listed_vertex g v ∙ has)

  -- the id at a place
  pub vertex_at : (p : ℕ) → p < length image.vertices → slice_get image.vertices p ≡ Some (slice_index image.vertices p)
  vertex_at p below = slice_get-get_or image.vertices p 0 below

  -- an arc that is listed out of a place
  pub out_arc : (p k u : ℕ) (a : Arc) → slice_get image.vertices p ≡ Some u → slice_get (arcs_at image.out p) k ≡ Some a
      → (v : ℕ) × (slice_get image.vertices a.other ≡ Some v) × (weight_of g u v ≡ Some a.weight)
  out_arc p k u a at_p at =
      let leads = (is.out p (slice_get_within image.vertices p u at_p)).sound k a at in
      let from : leads.from ≡ u = same_Some leads.from u (sym leads.from_at ∙ at_p) in
      (leads.to, leads.to_at, ap (λ x. weight_of g x leads.to) (sym from) ∙ leads.weighs)

  -- and one that is listed into it
  pub into_arc : (q k v : ℕ) (a : Arc) → slice_get image.vertices q ≡ Some v → slice_get (arcs_at image.into q) k ≡ Some a
      → (u : ℕ) × (slice_get image.vertices a.other ≡ Some u) × (weight_of g u v ≡ Some a.weight)
  into_arc q k v a at_q at =
      let leads = (is.into q (slice_get_within image.vertices q v at_q)).sound k a at in
      let to : leads.to ≡ v = same_Some leads.to v (sym leads.to_at ∙ at_q) in
      (leads.from, leads.from_at, ap (weight_of g leads.from) (sym to) ∙ leads.weighs)

  -- an arc leads from place to place
  pub arc_leads : (u v p q : ℕ) → has_arc g u v ≡ true → slice_get image.vertices p ≡ Some u → slice_get image.vertices q ≡ Some v → Leads g image.vertices p q
  arc_leads u v p q arc at_p at_q = let weight = some_there (weight_of g u v) arc in (weight.0, record { from = u; to = v; from_at = at_p; to_at = at_q; weighs = weight.1 })

  -- a link between places is an arc
  pub leads_arc : (u v p q : ℕ) → Leads g image.vertices p q → slice_get image.vertices p ≡ Some u → slice_get image.vertices q ≡ Some v → has_arc g u v ≡ true
  leads_arc u v p q leads at_p at_q =
      let from : leads.1.from ≡ u = same_Some leads.1.from u (sym leads.1.from_at ∙ at_p) in
      let to : leads.1.to ≡ v = same_Some leads.1.to v (sym leads.1.to_at ∙ at_q) in
      ap is_some ((λ i. weight_of g (sym from i) (sym to i)) ∙ leads.1.weighs)
