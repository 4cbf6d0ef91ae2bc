-- What a search gives by place is the table of the graph.
use Rattle.std.proofs.Common.{◌≡◌, ℕ, inl, inr, ⊎_elim, List, false, true, cond, map, length, slice_get, Some, refl, sym, ap, ◌∙◌, subst, arith}
use Rattle.std.proofs.lemmas.Bool.{cases_eq, eq-eqb, ne_eqb, false_from_ne_true}
use Rattle.std.proofs.lemmas.Option.{same_Some}
use Rattle.graph_model.specs.declared.limits.TheConstants.{NO_WALK}
use Rattle.graph_model.specs.declared.table.Entry.{Entry}
use Rattle.graph_model.specs.declared.table.Value.TheVariants.{Number}
use Rattle.graph_model.specs.Graph.{Graph, has_vertex}
use Rattle.graph_model.specs.Tables.{IsBfsValue, IsBfs}
use Rattle.graph_model.proofs.WalkLemmas.{walk_reaches, reaches_walk}
use Rattle.graph_image.specs.Images.{Places, Leads, IsImageOf}
use Rattle.graph_image.specs.Entries.{AreEntries}
use Rattle.graph_image.proofs.Lists.{get_map}
use Rattle.graph_image.proofs.ImageLemmas.{placed_vertex, vertex_placed}
use Rattle.graph_image.proofs.PathLemmas.{path_reaches, reaches_path, table_right}
use Rattle.kernel_bfs.specs.declared.levels.TheConstants.{UNREACHED}
use Rattle.kernel_bfs.specs.Levels.{value_of, IsSearched}

module _ (image : Places) (g : Graph) (is : IsImageOf image g) (root a : ℕ) (root_at : slice_get image.vertices root ≡ Some a) (distances : List ℕ) (searched : IsSearched (Leads g image.vertices) root distances) where
  -- the distance at a place is the vertex's
  value_right : (p v d : ℕ) → slice_get image.vertices p ≡ Some v → slice_get distances p ≡ Some d → IsBfsValue g a v (value_of d)
  value_right p v d at_v at_d = ⊎_elim
      (λ none. subst (IsBfsValue g a v) (sym (ap (λ b. cond b (Number NO_WALK) (Number d)) (eq-eqb d UNREACHED none)))
      (inr ((λ vs walk. (let there = searched.least (length vs) p (reaches_path image g is root a (length vs) p v root_at at_v (walk_reaches g a v vs walk)) in there.2 (same_Some there.0 UNREACHED (sym there.1 ∙ at_d ∙ ap Some none)))), refl)))
      (λ walked. subst (IsBfsValue g a v) (sym (ap (λ b. cond b (Number NO_WALK) (Number d)) (ne_eqb d UNREACHED walked)))
      (inl (record {
        attained = reaches_walk g a d v (path_reaches image g is root a d p v root_at at_v (searched.sound p d at_d walked));
        least = λ vs walk. (let there = searched.least (length vs) p (reaches_path image g is root a (length vs) p v root_at at_v (walk_reaches g a v vs walk)) in let same = same_Some there.0 d (sym there.1 ∙ at_d) in let bound = there.3 in omega arith);
      })))
      (cases_eq d UNREACHED)

  -- so the table is the graph's
  pub search_table : (seen : List ℕ) → seen ≡ distances → (entries : List Entry) → AreEntries image.vertices (map value_of seen) entries → (has_vertex g a ≡ true) × IsBfs g a entries
  search_table seen seen_is entries listed = (
    placed_vertex image g is root a root_at,
    table_right image g is (IsBfsValue g a) (map value_of seen) entries listed (λ p v x at_v at_x.
        let there = get_map value_of distances p x (ap (λ xs. slice_get (map value_of xs) p) (sym seen_is) ∙ at_x) in
        subst (IsBfsValue g a v) there.2 (value_right p v there.0 at_v there.1)),
  )

-- an id without a place is no vertex
pub no_place : (image : Places) (a : ℕ) → ((p : ℕ) → slice_get image.vertices p ≡ Some a → ⊥) → (g : Graph) → IsImageOf image g → has_vertex g a ≡ false
no_place image a absent g is = false_from_ne_true (has_vertex g a) (λ has. let place = vertex_placed image g is a has in absent place.0 place.1)
