-- What a search gives by place is the table of the graph.
use Rattle.std.proofs.Common.{◌≡◌, ℕ, zero, suc, ◌≤◌, ⊎_elim, List, false, true, cond, map, length, slice_get, Some, sym, ap, ◌∙◌, subst}
use Rattle.std.specs.Prelude.{slice_index}
use Rattle.std.proofs.lemmas.Bool.{cases_eq, eq-eqb, ne_eqb, false_from_ne_true}
use Rattle.std.proofs.lemmas.Option.{slice_get_within, get_or_from_slice_get}
use Rattle.graph_model.specs.declared.table.Entry.{Entry}
use Rattle.graph_model.specs.declared.table.Value.TheVariants.{Number, Infinity}
use Rattle.graph_model.specs.Graph.{Graph, has_vertex}
use Rattle.graph_model.specs.Walks.{IsWalk, walk_weight}
use Rattle.graph_model.specs.Tables.{IsSsspValue, IsSssp}
use Rattle.graph_model.proofs.WalkLemmas.{walk_reaches_by, reaches_by_walk}
use Rattle.graph_image.specs.Images.{Places, LeadsBy, IsImageOf}
use Rattle.graph_image.specs.Paths.{HasPathBy}
use Rattle.graph_image.specs.Entries.{AreEntries}
use Rattle.graph_image.proofs.Lists.{get_map}
use Rattle.graph_image.proofs.ImageLemmas.{placed_vertex, vertex_placed}
use Rattle.graph_image.proofs.PathLemmas.{path_reaches_by, reaches_path_by, table_right}
use Rattle.kernel_sssp.specs.declared.distances.TheConstants.{UNREACHED}
use Rattle.kernel_sssp.specs.Distances.{LinkOut, value_of, IsSearched}

-- a path along some links is one along others that these are
path_along : (L M : ℕ → ℕ → ℕ → Type 0) → ((p q w : ℕ) → L p q w → M p q w) → (root k p weight : ℕ) → HasPathBy L root k p weight → HasPathBy M root k p weight
path_along L M to root zero p weight path = path
path_along L M to root (suc k) p weight path = (path.0, path.1, path.2, path_along L M to root k path.0 path.1 path.3, to path.0 p path.2 path.4, path.5)

module _ (image : Places) (g : Graph) (is : IsImageOf image g) where
  -- the arcs out of a place are those of the graph
  link_leads : (p q w : ℕ) → LinkOut image p q w → LeadsBy g image.vertices p q w
  link_leads p q w link = (is.out p link.0).sound link.1 (record { other = q; weight = w }) link.2

  leads_link : (p q w : ℕ) → LeadsBy g image.vertices p q w → LinkOut image p q w
  leads_link p q w leads = let below = slice_get_within image.vertices p leads.from leads.from_at in let arc = (is.out p below).complete q w leads in (below, arc.0, arc.1)

  module _ (root a : ℕ) (root_at : slice_get image.vertices root ≡ Some a) (distances : List ℕ) (searched : IsSearched (LinkOut image) root (length image.vertices) distances) where
    -- a walk is a path along the arcs out
    walk_path : (p v : ℕ) (vs : List ℕ) → slice_get image.vertices p ≡ Some v → IsWalk g a vs v → HasPathBy (LinkOut image) root (length vs) p (walk_weight g a vs)
    walk_path p v vs at walk = path_along (LeadsBy g image.vertices) (LinkOut image) leads_link root (length vs) p (walk_weight g a vs)
        (reaches_path_by image g is root a (length vs) p v (walk_weight g a vs) root_at at (walk_reaches_by g a v vs walk))

    -- the weight at a place is the vertex's
    value_right : (p v d : ℕ) → slice_get image.vertices p ≡ Some v → slice_get distances p ≡ Some d → IsSsspValue g a v (value_of d)
    value_right p v d at_v at_d =
        let known : slice_index distances p ≡ d = get_or_from_slice_get distances p d 0 at_d in
        ⊎_elim
        (λ none. subst (IsSsspValue g a v) (sym (ap (λ b. cond b Infinity (Number d)) (eq-eqb d UNREACHED none)))
        (λ vs walk. searched.found (length vs) p (walk_weight g a vs) (walk_path p v vs at_v walk) (known ∙ none)))
        (λ some. subst (IsSsspValue g a v) (sym (ap (λ b. cond b Infinity (Number d)) (ne_eqb d UNREACHED some)))
        (let path = searched.sound p (slice_get_within image.vertices p v at_v) (λ none. some (sym known ∙ none)) in
        let by = path_reaches_by image g is root a path.0 p v d root_at at_v (path_along (LinkOut image) (LeadsBy g image.vertices) link_leads root path.0 p d (subst (λ w. HasPathBy (LinkOut image) root path.0 p w) known path.1)) in
        let walk = reaches_by_walk g a path.0 v d by in
        record {
          attained = (walk.0, walk.1, walk.3);
          least = λ vs w. subst (λ x. x ≤ walk_weight g a vs) known (searched.least (length vs) p (walk_weight g a vs) (walk_path p v vs at_v w));
        }))
        (cases_eq d UNREACHED)

    -- so the table is the graph's
    pub search_table : (seen : List ℕ) → seen ≡ distances → (entries : List Entry) → AreEntries image.vertices (map value_of seen) entries → (has_vertex g a ≡ true) × IsSssp g a entries
    search_table seen seen_is entries listed = (
      placed_vertex image g is root a root_at,
      table_right image g is (IsSsspValue g a) (map value_of seen) entries listed (λ p v x at_v at_x.
          let there = get_map value_of distances p x (ap (λ xs. slice_get (map value_of xs) p) (sym seen_is) ∙ at_x) in
          subst (IsSsspValue g a v) there.2 (value_right p v there.0 at_v there.1)),
    )

-- an id without a place is no vertex
pub no_place : (image : Places) (a : ℕ) → ((p : ℕ) → slice_get image.vertices p ≡ Some a → ⊥) → (g : Graph) → IsImageOf image g → has_vertex g a ≡ false
no_place image a absent g is = false_from_ne_true (has_vertex g a) (λ has. let place = vertex_placed image g is a has in absent place.0 place.1)
