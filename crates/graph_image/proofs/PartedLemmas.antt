-- The image of rows in parts.
use Rattle.std.proofs.Common.{◌≡◌, ℕ, ◌+◌, ◌<◌, ◌^◌, List, [], ◌∷◌, ◌++◌, Bool, true, false, cond, map, length, take, drop, get_or, slice_set, None, Some, refl, sym, ap, ◌∙◌, subst, arith}
use Rattle.std.specs.Prelude.{unwrap_or}
use Rattle.std.specs.List.{All, AllZip}
use Rattle.std.proofs.lemmas.List.{take_all, take-append-le}
use Rattle.std.proofs.lemmas.Option.{slice_get-get_or}
use Rattle.graph_model.specs.declared.row.Row.{Row}
use Rattle.graph_model.specs.Graph.{Graph, IsSymmetric}
use Rattle.graph_model.specs.Rows.{AreRowsOf}
use Rattle.graph_image.specs.Images.{Listed, Places, IdsRise, IsImageOf, LeadsBy}
use Rattle.graph_image.specs.declared.edge.PlacedArc.{PlacedArc}
use Rattle.graph_image.specs.declared.edge.Side.TheVariants.{Into}
use Rattle.graph_image.specs.Edges.{AreListedOut, IsGrouped, IsListed, IsMirrored}
use Rattle.graph_image.specs.Building.{AreStorable, AreEnded, shown}
use Rattle.graph_image.specs.Parts.{is_vertex, vertices_in, arcs_in, ids_of, starts_from, arc_rows, AreLaidOut, IsArcOf, IsPlaceable}
use Rattle.graph_image.proofs.ImageLemmas.{finished, outs_right}
use Rattle.part_scan.specs.Parts.{rows_in}
use Rattle.graph_image.proofs.BuildLemmas.{edges_within}
use Rattle.graph_image.proofs.PartLemmas.{vertices_and_arcs, length_ids, zip_length}
use Rattle.graph_image.proofs.OrderLemmas.{AreOutOf, out_of_rows, rows_placeable, ids_rise}

length_left : (b : Bool) (r : Row) (rs : List Row) (n : ℕ) → length rs ≡ n → length (cond b rs (r ∷ rs)) ≡ cond b 0 1 + n
length_left true r rs n is = omega (arith, is)
length_left false r rs n is = omega (arith, is)

length_arc_rows : (rows : List Row) → length (arc_rows rows) ≡ arcs_in rows
length_arc_rows [] = refl
length_arc_rows (r ∷ rows) = length_left (is_vertex r) r (arc_rows rows) (arcs_in rows) (length_arc_rows rows)

module _ (rows : List Row) (storable : AreStorable rows) (ended : AreEnded rows) where
  -- there are fewer vertices than 2^32, and fewer arcs
  pub few_vertices : vertices_in rows < 2 ^ 32
  few_vertices = (let both = vertices_and_arcs rows in let count = storable.count in omega (arith, both, count))

  pub few_arcs : arcs_in rows < 2 ^ 32
  few_arcs = (let both = vertices_and_arcs rows in let count = storable.count in omega (arith, both, count))

  -- all rows can be placed
  pub all_placeable : (vertices : List ℕ) → vertices ≡ ids_of rows → All (IsPlaceable vertices) rows
  all_placeable vertices is i d below = subst (λ vs. IsPlaceable vs (get_or rows i d)) (sym is) (rows_placeable rows storable ended i (get_or rows i d) (slice_get-get_or rows i d below))

  pub all_rise : (vertices : List ℕ) → vertices ≡ ids_of rows → IdsRise vertices
  all_rise vertices is = subst IdsRise (sym is) (ids_rise rows storable ended)

  module _ (vertices : List ℕ) (out : Listed) (is : AreLaidOut rows vertices out) where
    abbrev laid : AreOutOf rows out.starts out.arcs
    laid = out_of_rows rows storable ended out.starts out.arcs is.starts is.arcs

    pub laid_listed : IsListed (length vertices) out
    laid_listed = subst (λ vs. IsListed (length vs) out) (sym is.vertices) laid.listed

    pub laid_few : (length vertices < 2 ^ 32) × (length out.arcs < 2 ^ 32)
    laid_few =
        let n = ap length is.vertices ∙ length_ids rows in
        let m = sym (zip_length (IsArcOf (ids_of rows)) (arc_rows rows) out.arcs is.arcs) ∙ length_arc_rows rows in
        let low = few_vertices in
        let few = few_arcs in
        (omega (arith, n, low), omega (arith, m, few))

    -- the edges of the rows are listed at the places that they lead from
    abbrev edges : List PlacedArc
    edges = laid.has.0

    edges_are : AreListedOut (length (ids_of rows)) edges out
    edges_are = record {
      are = edges_within (ids_of rows) laid.placed (length laid.placed) edges laid.built (omega arith) laid.has.1;
      rise = laid.has.1.froms;
      grouped = laid.has.2;
    }

    edges_here : AreListedOut (length vertices) edges out
    edges_here = subst (λ vs. AreListedOut (length vs) edges out) (sym is.vertices) edges_are

    pub laid_edges : (es : List PlacedArc) × AreListedOut (length vertices) es out
    laid_edges = (edges, edges_here)

    -- where each arc is listed at its other end as well, the arcs out serve
    pub mirrored_image : IsMirrored (length vertices) out → (image : Places) → image ≡ record { vertices = vertices; out = out; into = unwrap_or None out } → (g : Graph) → AreRowsOf rows g → IsImageOf image g
    mirrored_image mirrored image image_is g are = finished (ids_of rows) laid.placed laid.built (ids_of rows) laid.placed refl refl out None laid.has tt (subst (λ vs. IsMirrored (length vs) out) is.vertices mirrored)
        vertices is.vertices image image_is rows laid.are g are

    -- of a symmetric graph each arc is
    pub symmetric_mirrored : (g : Graph) → AreRowsOf rows g → IsSymmetric g → IsMirrored (length vertices) out
    symmetric_mirrored g are symmetric =
        let ids = ids_of rows in
        let shown_are : AreRowsOf (map (shown ids) laid.placed) g = subst (λ rs. AreRowsOf rs g) (sym laid.are) are in
        let outs = outs_right ids laid.placed laid.built g shown_are out laid.has in
        subst (λ vs. IsMirrored (length vs) out) (sym is.vertices) (record {
          each = λ p k a below at.
              let leads = (outs p below).sound k a at in
              let back : LeadsBy g ids a.other p a.weight = record { from = leads.to; to = leads.from; from_at = leads.to_at; to_at = leads.from_at; weighs = symmetric leads.to leads.from ∙ leads.weighs } in
              (outs a.other (laid.listed.within p below k a at)).complete p a.weight back;
        })

    -- else those in are the same edges, listed at their other ends
    pub turned_image : (into : Listed) → ((es : List PlacedArc) → AreListedOut (length vertices) es out → IsGrouped Into (length vertices) es into)
        → (image : Places) → image ≡ record { vertices = vertices; out = out; into = unwrap_or (Some into) out } → (g : Graph) → AreRowsOf rows g → IsImageOf image g
    turned_image into grouped image image_is g are =
        let here : IsGrouped Into (length (ids_of rows)) edges into = subst (λ vs. IsGrouped Into (length vs) edges into) is.vertices (grouped edges edges_here) in
        finished (ids_of rows) laid.placed laid.built (ids_of rows) laid.placed refl refl out (Some into) laid.has (edges, laid.has.1, here) tt
        vertices is.vertices image image_is rows laid.are g are

-- what is written over a whole list
pub written_all : (n : ℕ) (xs ys zs : List ℕ) → xs ≡ zs → length xs ≡ n → take n (xs ++ ys) ≡ zs
written_all n xs ys zs same count = take-append-le n xs ys (omega (arith, count)) ∙ take_all n xs (omega (arith, count)) ∙ same

-- what is written in a place of one
pub one_end : (xs : List ℕ) (x : ℕ) → length xs ≡ 1 → slice_set xs 0 x ≡ x ∷ []
one_end [] x count = absurd (omega arith)
one_end (y ∷ []) x count = refl
one_end (y ∷ z ∷ xs) x count = absurd (omega arith)
