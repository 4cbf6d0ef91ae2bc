-- The least places are the least vertices, so their table is the graph's.
use Rattle.std.proofs.Common.{◌≡◌, ℕ, ⊎_elim, List, [], ◌∷◌, map, slice_get, Some, sym, ap, ◌∙◌, subst, arith}
use Rattle.std.specs.Prelude.{IsTrue, slice_index}
use Rattle.std.proofs.lemmas.Bool.{cases_lt}
use Rattle.std.proofs.lemmas.Option.{same_Some, slice_get_within}
use Rattle.graph_model.specs.declared.table.Entry.{Entry}
use Rattle.graph_model.specs.Graph.{Graph, has_vertex}
use Rattle.graph_model.specs.Components.{IsTrail}
use Rattle.graph_model.specs.Tables.{IsWccValue, IsWcc}
use Rattle.graph_image.specs.Images.{Places, Leads, IsImageOf}
use Rattle.graph_image.specs.Entries.{AreEntries}
use Rattle.graph_image.proofs.Lists.{get_map}
use Rattle.graph_image.proofs.ImageLemmas.{vertex_placed, vertex_at}
use Rattle.graph_image.proofs.PathLemmas.{trail_of_places, trail_over_places, table_right}
use Rattle.kernel_wcc.specs.Labels.{value_of, AreLow, AreComponents}

-- a trail ends at a vertex
trail_end : (g : Graph) (a b : ℕ) (vs : List ℕ) → IsTrail g a vs b → IsTrue (has_vertex g b)
trail_end g a b [] trail = subst (λ v. IsTrue (has_vertex g v)) trail.1 trail.0
trail_end g a b (v ∷ vs) trail = trail_end g v b vs trail.2

module _ (image : Places) (g : Graph) (is : IsImageOf image g) (labels : List ℕ) (low : AreLow labels) (components : AreComponents (Leads g image.vertices) labels) where
  value_right : (p v label : ℕ) → slice_get image.vertices p ≡ Some v → slice_get labels p ≡ Some label → IsWccValue g v (value_of image.vertices label)
  value_right p v label at_v at =
      let below = low p label at in
      let within = slice_get_within image.vertices p v at_v in
      let at_label = vertex_at image g is label (omega arith) in
      let trail = components.reached p label at in
      record {
        reached = trail_of_places image g is p v label (slice_index image.vertices label) trail.0 at_v at_label trail.1;
        least = λ b vs leads.
            let place = vertex_placed image g is b (trail_end g v b vs leads) in
            let path = trail_over_places image g is p v place.0 b vs at_v place.1 leads in
            let least = components.least p place.0 label path.0 at path.1 in
            ⊎_elim
            (λ less. (let rise = is.ids.rise label place.0 (slice_index image.vertices label) b less at_label place.1 in omega arith))
            (λ same. (let one : label ≡ place.0 = omega arith in let equal = same_Some (slice_index image.vertices label) b (sym at_label ∙ ap (slice_get image.vertices) one ∙ place.1) in omega arith))
            (cases_lt label place.0);
      }

  pub components_table : (seen : List ℕ) → seen ≡ labels → (entries : List Entry) → AreEntries image.vertices (map (value_of image.vertices) seen) entries → IsWcc g entries
  components_table seen seen_is entries listed =
      table_right image g is (IsWccValue g) (map (value_of image.vertices) seen) entries listed (λ p v x at_v at_x.
      let there = get_map (value_of image.vertices) labels p x (ap (λ xs. slice_get (map (value_of image.vertices) xs) p) (sym seen_is) ∙ at_x) in
      subst (IsWccValue g v) there.2 (value_right p v there.0 at_v there.1))
