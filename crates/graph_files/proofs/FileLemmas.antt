-- What the two files stand for can be loaded.
use Rattle.std.proofs.Common.{◌≡◌, ◌≢◌, ◌⊎◌, inl, inr, ℕ, ◌+◌, ◌*◌, ◌<◌, ◌≤◌, ◌||◌, ◌&&◌, ◌==◌, not, Bool, true, false, cond, nat_lt, nat_le, List, [], ◌∷◌, ◌++◌, length, get_or, min, max, Option, Some, None, is_some, Result, Ok, Err, All, AllPairs, refl, sym, ap, subst, ◌∙◌, arith}
use Rattle.std.proofs.lemmas.Bool.{cases_lt}
use Rattle.std.proofs.lemmas.Bool.Decides.{nat_tests}
use Rattle.std.proofs.lemmas.List.{get_or_default, length_push}
use Rattle.std.proofs.lemmas.List.Elements.{All-push}
use Rattle.std.proofs.lemmas.List.Quantifiers.{all_pairs_push}
use Rattle.graph_model.specs.declared.limits.TheConstants.{MAX_ID, MAX_WEIGHT}
use Rattle.graph_model.specs.declared.write.Kind.{Kind}
use Rattle.graph_model.specs.declared.write.Kind.TheVariants.{Directed, Undirected}
use Rattle.graph_model.proofs.TestLemmas.{never, self_eq}
use Rattle.graphalytics_io.specs.declared.edges.Edge.{Edge}
use Rattle.graphalytics_io.specs.declared.lines.FieldLine.{FieldLine}
use Rattle.graphalytics_io.specs.declared.number.NumberFault.TheVariants as numbers
use Rattle.graphalytics_io.specs.FieldLines.{field_lines}
use Rattle.graphalytics_io.specs.Numbers.{is_number, number_of}
use Rattle.graph_files.specs.declared.refusal.What.{What}
use Rattle.graph_files.specs.declared.refusal.What.TheVariants.{NotANumber, DuplicateVertex, DuplicateEdge, UnknownVertex, SelfLoop, WeightTooFine, WeightTooLarge, TooManyRows}
use Rattle.graph_files.specs.declared.weights.Weights.{Weights}
use Rattle.graph_files.specs.declared.weights.Weights.TheVariants.{Ones, Units}
use Rattle.graph_files.specs.declared.listings.Listing.{Listing}
use Rattle.graph_files.specs.declared.listings.Listing.TheVariants.{First, Second}
use Rattle.graph_files.specs.Faults.{then_check, then_lines}
use Rattle.graph_files.specs.Weights.{decimal_of, is_decimal, is_in_units, units_of}
use Rattle.graph_files.specs.VertexFiles.{as_id, id_of, line_id, new_id, vertex_of, ids_behind, vertices_of}
use Rattle.id_places.specs.Places.{is_among}
use Rattle.graph_files.specs.EdgeFiles.{joined, ends_of, weighted, edge_with, edge_of, listed_weight, is_repeated, is_reversed, arcs_of, Rules, Before, listing_of, behind, read_line, edges_behind, edges_of}
use Rattle.graph_files.specs.Load.{ends_by, HasKnownEnds, IsLoadable}
use Rattle.id_places.proofs.KnownLemmas.{among_at, at_among}

-- ---- vertices

-- a field that is read as an id is within its limit
id_within : (field : List ℕ) (id : ℕ) → id_of field ≡ Ok id → id ≤ MAX_ID
id_within field id is = cases (is_number field) (nat_le (number_of field) MAX_ID) refl is
  where
    fits : (n : ℕ) → nat_le n MAX_ID ≡ true → n ≤ MAX_ID
    fits n small = grind (arith, nat_tests, small)

    cases : (s t : Bool) → nat_le (number_of field) MAX_ID ≡ t → as_id (cond s (cond t (Ok (number_of field)) (Err numbers.TooLarge)) (Err numbers.NotANumber)) ≡ Ok id → id ≤ MAX_ID
    cases true true small is = let same : number_of field ≡ id = cc in subst (λ n. n ≤ MAX_ID) same (fits (number_of field) small)
    cases true false small is = absurd (cc)
    cases false t small is = absurd (cc)

line_within : (fields : List (List ℕ)) (id : ℕ) → line_id fields ≡ Ok id → id ≤ MAX_ID
line_within [] id is = absurd (cc)
line_within (field ∷ []) id is = id_within field id is
line_within (field ∷ extra ∷ fields) id is = absurd (cc)

-- ids that differ, within their limit, and not too many
record AreIds (limit : ℕ) (ids : List ℕ) : Type 0 where
  in_range : All (λ id. id ≤ MAX_ID) ids
  distinct : AllPairs (λ v w. v ≢ w) ids
  few : length ids ≤ limit

module _ (limit : ℕ) where
  -- one id more
  ids_push : (before : List ℕ) (id : ℕ) → AreIds limit before → id ≤ MAX_ID → is_among before id ≡ false → length before < limit → AreIds limit (before ++ id ∷ [])
  ids_push before id are within new room = record {
    in_range = All-push (λ v. v ≤ MAX_ID) before id are.in_range within;
    distinct = all_pairs_push (λ v w. v ≢ w) before id are.distinct (λ k d inside same. never (is_among before id) (among_at before k id inside (sym (get_or_default before k d 0 inside) ∙ same)) new);
    few = omega (arith, length_push before id);
  }

  id_checked : (before : List ℕ) (n id : ℕ) → AreIds limit before → n ≤ MAX_ID → new_id limit before n ≡ Ok id → AreIds limit (before ++ id ∷ [])
  id_checked before n id are within is = cases (is_among before n) (nat_le limit (length before)) refl refl is
    where
      room : (m : ℕ) → nat_le limit m ≡ false → m < limit
      room m below = grind (arith, nat_tests, below)

      cases : (s t : Bool) → is_among before n ≡ s → nat_le limit (length before) ≡ t → cond s (Err DuplicateVertex) (cond t (Err TooManyRows) (Ok n)) ≡ Ok id → AreIds limit (before ++ id ∷ [])
      cases true t new below is = absurd (cc)
      cases false true new below is = absurd (cc)
      cases false false new below is = let same : n ≡ id = cc in subst (λ m. AreIds limit (before ++ m ∷ [])) same (ids_push before n are within new (room (length before) below))

  id_read : (before : List ℕ) (fields : List (List ℕ)) (id : ℕ) → AreIds limit before → vertex_of limit before fields ≡ Ok id → AreIds limit (before ++ id ∷ [])
  id_read before fields id are is = cases (line_id fields) refl is
    where
      cases : (r : Result ℕ What) → line_id fields ≡ r → then_check r (new_id limit before) ≡ Ok id → AreIds limit (before ++ id ∷ [])
      cases (Ok n) read is = id_checked before n id are (line_within fields n read) is
      cases (Err what) read is = absurd (cc)

  ids_read : (lines : List FieldLine) (before ids : List ℕ) → AreIds limit before → ids_behind limit before lines ≡ Ok ids → AreIds limit ids
  ids_read [] before ids are is = let same : before ≡ ids = cc in subst (AreIds limit) same are
  ids_read (line ∷ lines) before ids are is = cases (vertex_of limit before line.fields) refl is (λ id more. ids_read lines (before ++ id ∷ []) ids more)
    where
      cases : (r : Result ℕ What) → vertex_of limit before line.fields ≡ r → then_lines line.number r (λ id. ids_behind limit (before ++ id ∷ []) lines) ≡ Ok ids
          → ((id : ℕ) → AreIds limit (before ++ id ∷ []) → ids_behind limit (before ++ id ∷ []) lines ≡ Ok ids → AreIds limit ids) → AreIds limit ids
      cases (Ok id) read is rest = rest id (id_read before line.fields id are read) is
      cases (Err what) read is rest = absurd (cc)

  file_ids : (text ids : List ℕ) → vertices_of limit text ≡ Ok ids → AreIds limit ids
  file_ids text ids is = ids_read (field_lines text) [] ids (record {
    in_range = λ k d inside. absurd (omega arith);
    distinct = λ i j d before inside. absurd (omega arith);
    few = omega arith;
  }) is

-- ---- an edge by itself

-- an edge between two of the ids that differ, with a weight within its limit
record IsSound (ids : List ℕ) (edge : Edge) : Type 0 where
  known : HasKnownEnds ids edge
  no_loop : edge.u ≢ edge.v
  weight : edge.weight ≤ MAX_WEIGHT

-- ends that may be joined
abbrev AreJoined : List ℕ → ℕ × ℕ → Type 0
AreJoined ids ends = (ends.0 ≢ ends.1) × (is_among ids ends.0 ≡ true) × (is_among ids ends.1 ≡ true)

joined_are : (ids : List ℕ) (u v : ℕ) (ends : ℕ × ℕ) → joined (is_among ids) u v ≡ Ok ends → AreJoined ids ends
joined_are ids u v ends is = cases (u == v) (is_among ids u) (is_among ids v) refl refl refl is
  where
    differ : (a b : ℕ) → (a == b) ≡ false → a ≢ b
    differ a b other = grind (arith, nat_tests, other)

    cases : (r s t : Bool) → (u == v) ≡ r → is_among ids u ≡ s → is_among ids v ≡ t → cond r (Err SelfLoop) (cond (not s) (Err UnknownVertex) (cond (not t) (Err UnknownVertex) (Ok (u, v)))) ≡ Ok ends → AreJoined ids ends
    cases true s t loop first second is = absurd (cc)
    cases false false t loop first second is = absurd (cc)
    cases false true false loop first second is = absurd (cc)
    cases false true true loop first second is = let same : ◌≡◌ {A = ℕ × ℕ} (u, v) ends = cc in subst (AreJoined ids) same (differ u v loop, first, second)

ends_are : (ids source target : List ℕ) (ends : ℕ × ℕ) → ends_of (is_among ids) source target ≡ Ok ends → AreJoined ids ends
ends_are ids source target ends is = first (id_of source) (id_of target) is
  where
    first : (r s : Result ℕ What) → then_check r (λ u. then_check s (λ v. joined (is_among ids) u v)) ≡ Ok ends → AreJoined ids ends
    first (Err what) s is = absurd (cc)
    first (Ok u) (Err what) is = absurd (cc)
    first (Ok u) (Ok v) is = joined_are ids u v ends is

decimal_within : (digits : ℕ) (cut : Bool) (field : List ℕ) (weight : ℕ) → decimal_of digits cut field ≡ Ok weight → weight ≤ MAX_WEIGHT
decimal_within digits cut field weight is = cases (is_decimal field) (not cut && not (is_in_units digits field)) (nat_le (units_of digits field) MAX_WEIGHT) refl is
  where
    fits : (n : ℕ) → nat_le n MAX_WEIGHT ≡ true → n ≤ MAX_WEIGHT
    fits n small = grind (arith, nat_tests, small)

    cases : (r s t : Bool) → nat_le (units_of digits field) MAX_WEIGHT ≡ t → cond r (cond s (Err WeightTooFine) (cond t (Ok (units_of digits field)) (Err WeightTooLarge))) (Err NotANumber) ≡ Ok weight → weight ≤ MAX_WEIGHT
    cases true false true small is = let same : units_of digits field ≡ weight = cc in subst (λ n. n ≤ MAX_WEIGHT) same (fits (units_of digits field) small)
    cases true false false small is = absurd (cc)
    cases true true t small is = absurd (cc)
    cases false s t small is = absurd (cc)

module _ (ids : List ℕ) where
  weighted_sound : (ends : Result (ℕ × ℕ) What) (weight : Result ℕ What) (edge : Edge) → ((p : ℕ × ℕ) → ends ≡ Ok p → AreJoined ids p) → ((w : ℕ) → weight ≡ Ok w → w ≤ MAX_WEIGHT) → weighted ends weight ≡ Ok edge → IsSound ids edge
  weighted_sound (Err what) weight edge joins fits is = absurd (cc)
  weighted_sound (Ok p) (Err what) edge joins fits is = absurd (cc)
  weighted_sound (Ok p) (Ok w) edge joins fits is =
      let join = joins p refl in
      let same : ◌≡◌ {A = Edge} (record { u = p.0; v = p.1; weight = w }) edge = cc in
      subst (IsSound ids) same (record { known = (at_among ids p.0 join.1, at_among ids p.1 join.2); no_loop = join.0; weight = fits w refl })

  with_sound : (weights : Weights) (source target : List ℕ) (third : Option (List ℕ)) (edge : Edge) → edge_with (is_among ids) weights source target third ≡ Ok edge → IsSound ids edge
  with_sound Ones source target third edge is = weighted_sound (ends_of (is_among ids) source target) (Ok 1) edge (ends_are ids source target) (λ w same. one w same) is
    where
      one : (w : ℕ) → ◌≡◌ {A = Result ℕ What} (Ok 1) (Ok w) → w ≤ MAX_WEIGHT
      one w same = let is : 1 ≡ w = cc in omega (arith, is)
  with_sound (Units digits cut) source target None edge is = absurd (cc)
  with_sound (Units digits cut) source target (Some field) edge is = weighted_sound (ends_of (is_among ids) source target) (decimal_of digits cut field) edge (ends_are ids source target) (decimal_within digits cut field) is

  edge_sound : (weights : Weights) (fields : List (List ℕ)) (edge : Edge) → edge_of (is_among ids) weights fields ≡ Ok edge → IsSound ids edge
  edge_sound weights [] edge is = absurd (cc)
  edge_sound weights (source ∷ []) edge is = absurd (cc)
  edge_sound weights (source ∷ target ∷ []) edge is = with_sound weights source target None edge is
  edge_sound weights (source ∷ target ∷ third ∷ []) edge is = with_sound weights source target (Some third) edge is
  edge_sound weights (source ∷ target ∷ third ∷ extra ∷ fields) edge is = absurd (cc)

-- ---- an edge behind those before it

-- what is listed stays listed
listed_kept : (listings : List Edge) (edge : Edge) (u v : ℕ) → is_some (listed_weight listings u v) ≡ true → is_some (listed_weight (listings ++ edge ∷ []) u v) ≡ true
listed_kept [] edge u v is = absurd (cc)
listed_kept (x ∷ listings) edge u v is = cases ((x.u == u) && (x.v == v)) is (listed_kept listings edge u v)
  where
    cases : (s : Bool) → is_some (cond s (Some x.weight) (listed_weight listings u v)) ≡ true → (is_some (listed_weight listings u v) ≡ true → is_some (listed_weight (listings ++ edge ∷ []) u v) ≡ true)
        → is_some (cond s (Some x.weight) (listed_weight (listings ++ edge ∷ []) u v)) ≡ true
    cases true is more = refl
    cases false is more = more is

-- and a new edge is listed
listed_self : (listings : List Edge) (edge : Edge) → is_some (listed_weight (listings ++ edge ∷ []) edge.u edge.v) ≡ true
listed_self [] edge = ap (λ s. is_some (cond s (Some edge.weight) None)) ((λ i. self_eq edge.u i && self_eq edge.v i))
listed_self (x ∷ listings) edge = cases ((x.u == edge.u) && (x.v == edge.v)) (listed_self listings edge)
  where
    cases : (s : Bool) → is_some (listed_weight (listings ++ edge ∷ []) edge.u edge.v) ≡ true → is_some (cond s (Some x.weight) (listed_weight (listings ++ edge ∷ []) edge.u edge.v)) ≡ true
    cases true more = refl
    cases false more = more

-- two edges with the same ends lead one way, or each the other's
either_way : (a b c d : ℕ) → min a b ≡ min c d → max a b ≡ max c d → ((a ≡ c) × (b ≡ d)) ⊎ ((a ≡ d) × (b ≡ c))
either_way a b c d least greatest = elim (cases_lt a b) [
  | inl up ↦ elim (cases_lt c d) [
    | inl up_too ↦ inl (omega arith, omega arith)
    | inr down ↦ inr (omega arith, omega arith)
  ]
  | inr down ↦ elim (cases_lt c d) [
    | inl up ↦ inr (omega arith, omega arith)
    | inr down_too ↦ inl (omega arith, omega arith)
  ]
]

-- an edge that is listed for the first time has other ends than one that is listed
other_ends : (kind : Kind) (listings : List Edge) (x edge : Edge) → is_some (listed_weight listings x.u x.v) ≡ true → is_repeated kind listings edge ≡ false → is_reversed kind listings edge ≡ false → ends_by kind x ≢ ends_by kind edge
other_ends Directed listings x edge listed first back same =
    never (is_some (listed_weight listings edge.u edge.v)) (sym (λ i. is_some (listed_weight listings (ap (λ (p : ℕ × ℕ). p.0) same i) (ap (λ (p : ℕ × ℕ). p.1) same i))) ∙ listed) first
other_ends Undirected listings x edge listed first back same =
    elim (either_way x.u x.v edge.u edge.v (ap (λ (p : ℕ × ℕ). p.0) same) (ap (λ (p : ℕ × ℕ). p.1) same)) [
      | inl way ↦ never (is_some (listed_weight listings edge.u edge.v)) (sym (λ i. is_some (listed_weight listings (way.0 i) (way.1 i))) ∙ listed) (neither _ _ first)
      | inr way ↦ never (is_some (listed_weight listings edge.v edge.u)) (sym (λ i. is_some (listed_weight listings (way.0 i) (way.1 i))) ∙ listed) back
    ]
  where
    neither : (s t : Bool) → (s || t) ≡ false → s ≡ false
    neither false t e = refl
    neither true t e = e

-- what the edges so far keep
record AreEdges (rules : Rules) (before : Before) : Type 0 where
  sound : All (IsSound rules.ids) before.edges
  distinct : AllPairs (λ a b. ends_by rules.kind a ≢ ends_by rules.kind b) before.edges
  listed : All (λ e. is_some (listed_weight before.listings e.u e.v) ≡ true) before.edges
  rows : 0 < length before.edges → length rules.ids + arcs_of rules.kind * length before.edges ≤ rules.limit

module _ (rules : Rules) where
  edges_push : (before : Before) (edge : Edge) (listing : Listing) → AreEdges rules before → IsSound rules.ids edge → listing_of rules before edge ≡ Ok listing → AreEdges rules (behind before edge listing)
  edges_push before edge listing are sound is = cases listing (is_repeated rules.kind before.listings edge) (is_reversed rules.kind before.listings edge)
      (nat_lt rules.limit (length rules.ids + arcs_of rules.kind * (length before.edges + 1))) refl refl refl is
    where
      room : (m : ℕ) → nat_lt rules.limit m ≡ false → m ≤ rules.limit
      room m fits = grind (arith, nat_tests, fits)

      cases : (listing : Listing) (r s t : Bool) → is_repeated rules.kind before.listings edge ≡ r → is_reversed rules.kind before.listings edge ≡ s
          → nat_lt rules.limit (length rules.ids + arcs_of rules.kind * (length before.edges + 1)) ≡ t
          → ◌≡◌ {A = Result Listing What} (cond r (Err DuplicateEdge) (cond s (Ok Second) (cond t (Err TooManyRows) (Ok First)))) (Ok listing) → AreEdges rules (behind before edge listing)
      cases First false false false first back fits is = record {
        sound = All-push (IsSound rules.ids) before.edges edge are.sound sound;
        distinct = all_pairs_push (λ a b. ends_by rules.kind a ≢ ends_by rules.kind b) before.edges edge are.distinct (λ k d inside. other_ends rules.kind before.listings (get_or before.edges k d) edge (are.listed k d inside) first back);
        listed = All-push (λ e. is_some (listed_weight (before.listings ++ edge ∷ []) e.u e.v) ≡ true) before.edges edge
            (λ k d inside. listed_kept before.listings edge (get_or before.edges k d).u (get_or before.edges k d).v (are.listed k d inside)) (listed_self before.listings edge);
        rows = λ some. subst (λ n. length rules.ids + arcs_of rules.kind * n ≤ rules.limit) (sym (length_push before.edges edge)) (room _ fits);
      }
      cases First false false true first back fits is = absurd (cc)
      cases First false true t first back fits is = absurd (cc)
      cases listing true s t first back fits is = absurd (cc)
      cases Second false true t first back fits is = record {
        sound = are.sound;
        distinct = are.distinct;
        listed = λ k d inside. listed_kept before.listings edge (get_or before.edges k d).u (get_or before.edges k d).v (are.listed k d inside);
        rows = are.rows;
      }
      cases Second false false true first back fits is = absurd (cc)
      cases Second false false false first back fits is = absurd (cc)

  line_keeps : (before after : Before) (fields : List (List ℕ)) → AreEdges rules before → read_line rules before fields ≡ Ok after → AreEdges rules after
  line_keeps before after fields are is = cases (edge_of (is_among rules.ids) rules.weights fields) refl is
    where
      second : (edge : Edge) → IsSound rules.ids edge → (r : Result Listing What) → listing_of rules before edge ≡ r → then_check r (λ listing. Ok (behind before edge listing)) ≡ Ok after → AreEdges rules after
      second edge sound (Ok listing) found is = let same : ◌≡◌ {A = Before} (behind before edge listing) after = cc in subst (AreEdges rules) same (edges_push before edge listing are sound found)
      second edge sound (Err what) found is = absurd (cc)

      cases : (r : Result Edge What) → edge_of (is_among rules.ids) rules.weights fields ≡ r → then_check r (λ edge. then_check (listing_of rules before edge) (λ listing. Ok (behind before edge listing))) ≡ Ok after → AreEdges rules after
      cases (Ok edge) found is = second edge (edge_sound rules.ids rules.weights fields edge found) (listing_of rules before edge) refl is
      cases (Err what) found is = absurd (cc)

  edges_read : (lines : List FieldLine) (before : Before) (edges : List Edge) → AreEdges rules before → edges_behind rules before lines ≡ Ok edges → (after : Before) × (after.edges ≡ edges) × AreEdges rules after
  edges_read [] before edges are is = (before, (let same : before.edges ≡ edges = cc in same), are)
  edges_read (line ∷ lines) before edges are is = cases (read_line rules before line.fields) refl is (λ after. edges_read lines after edges)
    where
      cases : (r : Result Before What) → read_line rules before line.fields ≡ r → then_lines line.number r (λ after. edges_behind rules after lines) ≡ Ok edges
          → ((after : Before) → AreEdges rules after → edges_behind rules after lines ≡ Ok edges → (last : Before) × (last.edges ≡ edges) × AreEdges rules last) → (last : Before) × (last.edges ≡ edges) × AreEdges rules last
      cases (Ok after) read is rest = rest after (line_keeps before after line.fields are read) is
      cases (Err what) read is rest = absurd (cc)

  file_edges : (text : List ℕ) (edges : List Edge) → edges_of rules text ≡ Ok edges → (after : Before) × (after.edges ≡ edges) × AreEdges rules after
  file_edges text edges is = edges_read (field_lines text) (record { listings = []; edges = [] }) edges (record {
    sound = λ k d inside. absurd (omega arith);
    distinct = λ i j d before inside. absurd (omega arith);
    listed = λ k d inside. absurd (omega arith);
    rows = λ some. absurd (omega arith);
  }) is

-- ---- both files

loadable_from : (rules : Rules) (limit : ℕ) (ids : List ℕ) (after : Before) → AreIds limit ids → rules.ids ≡ ids → AreEdges rules after → IsLoadable rules.kind ids after.edges
loadable_from rules limit ids after are same edges = record {
  in_range = are.in_range;
  distinct = are.distinct;
  known = λ k d inside. subst (λ vs. HasKnownEnds vs (get_or after.edges k d)) same (edges.sound k d inside).known;
  no_loops = λ k d inside. (edges.sound k d inside).no_loop;
  distinct_edges = edges.distinct;
  weights = λ k d inside. (edges.sound k d inside).weight;
}

-- what the two files stand for can be loaded
pub files_loadable : (vertices edge_lines ids : List ℕ) (limit : ℕ) (rules : Rules) (edges : List Edge) → vertices_of limit vertices ≡ Ok ids → rules.ids ≡ ids → edges_of rules edge_lines ≡ Ok edges → IsLoadable rules.kind ids edges
files_loadable vertices edge_lines ids limit rules edges read same lists =
    let found = file_edges rules edge_lines edges lists in
    subst (IsLoadable rules.kind ids) found.1 (loadable_from rules limit ids found.0 (file_ids limit vertices ids read) same found.2)

-- and has at most so many rows
pub files_within : (vertices edge_lines ids : List ℕ) (limit : ℕ) (rules : Rules) (edges : List Edge) → vertices_of limit vertices ≡ Ok ids → rules.ids ≡ ids → edges_of rules edge_lines ≡ Ok edges
    → (length ids ≤ limit) × (0 < length edges → length ids + arcs_of rules.kind * length edges ≤ rules.limit)
files_within vertices edge_lines ids limit rules edges read same lists =
    let found = file_edges rules edge_lines edges lists in
    ((file_ids limit vertices ids read).few, subst (λ vs. 0 < length edges → length vs + arcs_of rules.kind * length edges ≤ rules.limit) same (subst (λ es. 0 < length es → length rules.ids + arcs_of rules.kind * length es ≤ rules.limit) found.1 found.2.rows))
