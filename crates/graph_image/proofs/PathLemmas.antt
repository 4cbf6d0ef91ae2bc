-- Paths over places are walks over vertices, and a table of values by place is the graph's.
use Rattle.std.proofs.Common.{◌≡◌, ℕ, zero, suc, inl, inr, ⊎_elim, List, [], ◌∷◌, slice_get, Some, is_some, sym, ap, ◌∙◌}
use Rattle.std.proofs.lemmas.Bool.{or_left, or_right, or_cases}
use Rattle.std.proofs.lemmas.Option.{same_Some}
use Rattle.graph_model.specs.declared.table.Entry.{Entry}
use Rattle.graph_model.specs.declared.table.Value.{Value}
use Rattle.graph_model.specs.Graph.{Graph, has_arc, weight_of}
use Rattle.graph_model.specs.Walks.{Reaches, ReachesBy}
use Rattle.graph_model.specs.Components.{IsTrail}
use Rattle.graph_model.specs.Tables.{IsTable}
use Rattle.graph_image.specs.Images.{Places, LeadsBy, Leads, IsImageOf}
use Rattle.graph_image.specs.Paths.{HasPath, HasPathBy, HasTrail}
use Rattle.graph_image.specs.Entries.{AreEntries}
use Rattle.graph_image.proofs.PlaceLemmas.{same_place}
use Rattle.graph_image.proofs.ImageLemmas.{placed_vertex, vertex_placed, arc_leads, leads_arc}

module _ (image : Places) (g : Graph) (is : IsImageOf image g) where
  -- a path over places is a walk
  pub path_reaches : (root a n p v : ℕ) → slice_get image.vertices root ≡ Some a → slice_get image.vertices p ≡ Some v → HasPath (Leads g image.vertices) root n p → Reaches g a n v
  path_reaches root a zero p v at_root at path = (placed_vertex image g is root a at_root, same_Some a v (sym at_root ∙ ap (slice_get image.vertices) path ∙ at))
  path_reaches root a (suc n) p v at_root at path =
      let leads = path.2 in
      (leads.1.from, path_reaches root a n path.0 leads.1.from at_root leads.1.from_at path.1, leads_arc image g is leads.1.from v path.0 p leads leads.1.from_at at, placed_vertex image g is p v at)

  -- a walk is a path over places
  pub reaches_path : (root a n p v : ℕ) → slice_get image.vertices root ≡ Some a → slice_get image.vertices p ≡ Some v → Reaches g a n v → HasPath (Leads g image.vertices) root n p
  reaches_path root a zero p v at_root at reaches = same_place is.ids root p v (at_root ∙ ap Some reaches.1) at
  reaches_path root a (suc n) p v at_root at reaches =
      let before = vertex_placed image g is reaches.0 (is.ends reaches.0 v reaches.2).0 in
      (before.0, reaches_path root a n before.0 reaches.0 at_root before.1 reaches.1, arc_leads image g is reaches.0 v before.0 p reaches.2 before.1 at)

  -- with its weight
  pub path_reaches_by : (root a n p v weight : ℕ) → slice_get image.vertices root ≡ Some a → slice_get image.vertices p ≡ Some v → HasPathBy (LeadsBy g image.vertices) root n p weight → ReachesBy g a n v weight
  path_reaches_by root a zero p v weight at_root at path = (placed_vertex image g is root a at_root, same_Some a v (sym at_root ∙ ap (slice_get image.vertices) path.0 ∙ at), path.1)
  path_reaches_by root a (suc n) p v weight at_root at path =
      let leads = path.4 in
      let to : leads.to ≡ v = same_Some leads.to v (sym leads.to_at ∙ at) in
      (leads.from, path.1, path.2, path_reaches_by root a n path.0 leads.from path.1 at_root leads.from_at path.3, ap (weight_of g leads.from) (sym to) ∙ leads.weighs, placed_vertex image g is p v at, path.5)

  -- and back
  pub reaches_path_by : (root a n p v weight : ℕ) → slice_get image.vertices root ≡ Some a → slice_get image.vertices p ≡ Some v → ReachesBy g a n v weight → HasPathBy (LeadsBy g image.vertices) root n p weight
  reaches_path_by root a zero p v weight at_root at reaches = (same_place is.ids root p v (at_root ∙ ap Some reaches.1) at, reaches.2)
  reaches_path_by root a (suc n) p v weight at_root at reaches =
      let before = vertex_placed image g is reaches.0 (is.ends reaches.0 v (ap is_some reaches.4)).0 in (
        before.0,
        reaches.1,
        reaches.2,
        reaches_path_by root a n before.0 reaches.0 reaches.1 at_root before.1 reaches.3,
        record { from = reaches.0; to = v; from_at = before.1; to_at = at; weighs = reaches.4 },
        reaches.6,
      )

  -- a trail over places is one over vertices
  pub trail_of_places : (p u q v : ℕ) (cs : List ℕ) → slice_get image.vertices p ≡ Some u → slice_get image.vertices q ≡ Some v → HasTrail (Leads g image.vertices) p cs q → (vs : List ℕ) × IsTrail g u vs v
  trail_of_places p u q v [] at_p at_q trail = ([], (placed_vertex image g is p u at_p, same_Some u v (sym at_p ∙ ap (slice_get image.vertices) trail ∙ at_q)))
  trail_of_places p u q v (c ∷ cs) at_p at_q trail = ⊎_elim
      (λ leads.
      let rest = trail_of_places c leads.1.to q v cs leads.1.to_at at_q trail.1 in
      (leads.1.to ∷ rest.0, (placed_vertex image g is p u at_p, or_left (has_arc g u leads.1.to) (has_arc g leads.1.to u) (leads_arc image g is u leads.1.to p c leads at_p leads.1.to_at), rest.1)))
      (λ leads.
      let rest = trail_of_places c leads.1.from q v cs leads.1.from_at at_q trail.1 in
      (leads.1.from ∷ rest.0, (placed_vertex image g is p u at_p, or_right (has_arc g u leads.1.from) (has_arc g leads.1.from u) (leads_arc image g is leads.1.from u c p leads leads.1.from_at at_p), rest.1)))
      trail.0

  -- and back
  pub trail_over_places : (p u q v : ℕ) (vs : List ℕ) → slice_get image.vertices p ≡ Some u → slice_get image.vertices q ≡ Some v → IsTrail g u vs v → (cs : List ℕ) × HasTrail (Leads g image.vertices) p cs q
  trail_over_places p u q v [] at_p at_q trail = ([], same_place is.ids p q v (at_p ∙ ap Some trail.1) at_q)
  trail_over_places p u q v (w ∷ vs) at_p at_q trail = ⊎_elim
      (λ arc.
      let place = vertex_placed image g is w (is.ends u w arc).1 in
      let rest = trail_over_places place.0 w q v vs place.1 at_q trail.2 in
      (place.0 ∷ rest.0, (inl (arc_leads image g is u w p place.0 arc at_p place.1), rest.1)))
      (λ arc.
      let place = vertex_placed image g is w (is.ends w u arc).0 in
      let rest = trail_over_places place.0 w q v vs place.1 at_q trail.2 in
      (place.0 ∷ rest.0, (inr (arc_leads image g is w u place.0 p arc place.1 at_p), rest.1)))
      (or_cases (has_arc g u w) (has_arc g w u) trail.1)

  -- values that are right at their places make the table
  pub table_right : (right : ℕ → Value → Type 0) (values : List Value) (entries : List Entry) → AreEntries image.vertices values entries
      → ((p v : ℕ) (x : Value) → slice_get image.vertices p ≡ Some v → slice_get values p ≡ Some x → right v x) → IsTable g right entries
  table_right right values entries listed rights = record {
    vertices = listed.listed ∙ is.vertices;
    values = λ i e at. (let each = listed.each i e at in rights i e.vertex e.value each.0 each.1);
  }
