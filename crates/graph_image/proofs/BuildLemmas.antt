-- Rows on their way into an image: one more row, and the edges of the rows.
use Rattle.std.proofs.Common.{◌≡◌, ℕ, ◌+◌, ◌-◌, ◌<◌, ◌≤◌, ◌⊎◌, ⊎_elim, List, [], ◌∷◌, ◌++◌, map, length, take, drop, get_or, slice_get, Some, sym, ap, ◌∙◌, subst, arith}
use Rattle.std.specs.Prelude.{slice_index, IsTrue}
use Rattle.std.proofs.lemmas.Bool.{cases_lt, cases_order, cases_eq}
use Rattle.std.proofs.lemmas.Bool.Decides.{nat_tests}
use Rattle.std.proofs.lemmas.List.{append_assoc, take_more, take-append-drop, length_push, length-append, length-map, map_push, get_or_append_left}
use Rattle.std.proofs.lemmas.Option.{same_Some, none-some, slice_get_within, slice_get-get_or, get_or_from_slice_get}
use Rattle.graph_model.specs.declared.row.Key.{Key}
use Rattle.graph_model.specs.declared.row.Row.{Row}
use Rattle.graph_model.specs.Rows.{is_below}
use Rattle.graph_image.specs.declared.placed_row.PlacedRow.{PlacedRow}
use Rattle.graph_image.specs.declared.edge.PlacedArc.{PlacedArc}
use Rattle.graph_image.specs.Images.{IdsRise}
use Rattle.graph_image.specs.Edges.{AreEdges}
use Rattle.graph_image.specs.Building.{AreStorable, HasVertexRow, AreEnded, shown, IsBuilt, Appends, HavePlaces, IsEdge, AreEdgesOf}
use Rattle.graph_image.proofs.Lists.{get_front, get_pushed, get_last, get_push_cases, below_cases, get_map, map_get, map_same}

-- what a lower key says of its two numbers
pub below_means : (a b : Key) → IsTrue (is_below a b) → (a.src ≤ b.src) × (a.src ≡ b.src → a.second < b.second)
below_means a b below = (grind (arith, nat_tests), λ same. grind (arith, nat_tests))

-- a lower id stands at a lower place
pub lower_place : (vertices : List ℕ) → IdsRise vertices → (p q a b : ℕ) → slice_get vertices p ≡ Some a → slice_get vertices q ≡ Some b → a < b → p < q
lower_place vertices ids p q a b at_p at_q less = ⊎_elim
    (λ same. absurd (let equal = same_Some a b (sym at_p ∙ ap (slice_get vertices) same ∙ at_q) in omega arith))
    (⊎_elim (λ below. below) (λ above. absurd (let rise = ids.rise q p b a above at_q at_p in omega arith)))
    (cases_order p q)

-- and one that isn't higher at one that isn't
pub no_higher_place : (vertices : List ℕ) → IdsRise vertices → (p q a b : ℕ) → slice_get vertices p ≡ Some a → slice_get vertices q ≡ Some b → a ≤ b → p ≤ q
no_higher_place vertices ids p q a b at_p at_q le = ⊎_elim
    (λ above. absurd (let rise = ids.rise q p b a above at_q at_p in omega arith))
    (λ rest. rest)
    (cases_lt q p)

-- a source that is read stands there
pub source_at : (sources : List ℕ) (p : ℕ) → p < length sources → slice_get sources p ≡ Some (slice_index sources p)
source_at sources p below = slice_get-get_or sources p 0 below

-- ---- one more row

pub built_none : IsBuilt [] []
built_none = record {
  storable = record {
    rise = λ i j a b less at_i at_j. absurd (none-some a at_i);
    weights = λ i r at. absurd (none-some r at);
    count = omega arith;
  };
  ids = record { rise = λ i j a b less at_i at_j. absurd (none-some a at_i) };
  placed = λ i r at. absurd (none-some r at);
  used = λ p below. absurd (omega arith);
  few = omega arith;
}

module _ (sources : List ℕ) (rows : List PlacedRow) (built : IsBuilt sources rows) (row : Row) (storable : AreStorable (map (shown sources) rows ++ row ∷ [])) where
  -- no source is above the row's
  pub source_low : (p v : ℕ) → slice_get sources p ≡ Some v → v ≤ row.key.src
  source_low p v at =
      let owner = built.used p (slice_get_within sources p v at) in
      let before = get_pushed (map (shown sources) rows) row owner.0 (shown sources owner.1) (map_get (shown sources) rows owner.0 owner.1 owner.2) in
      let below = slice_get_within rows owner.0 owner.1 owner.2 in
      let count = length-map rows (shown sources) in
      let less : owner.0 < length (map (shown sources) rows) = omega arith in
      let rise = below_means (shown sources owner.1).key row.key (storable.rise owner.0 (length (map (shown sources) rows)) (shown sources owner.1) row less before (get_last (map (shown sources) rows) row)) in
      let low = rise.0 in
      let read : slice_index sources owner.1.source ≡ v = ap (slice_index sources) owner.3 ∙ get_or_from_slice_get sources p v 0 at in
      omega arith

  module _ (r : PlacedRow) (second_is : r.second ≡ row.key.second) (weight_is : r.weight ≡ row.weight) where
    -- the row's source is the last
    module _ (some : 0 < length sources) (last_is : slice_index sources (length sources - 1) ≡ row.key.src) (source_is : r.source ≡ length sources - 1) where
      pub shown_again : map (shown sources) (rows ++ r ∷ []) ≡ map (shown sources) rows ++ row ∷ []
      shown_again =
          let src : slice_index sources r.source ≡ row.key.src = ap (slice_index sources) source_is ∙ last_is in
          map_push (shown sources) rows r ∙ (λ i. map (shown sources) rows ++ record { key = record { src = src i; second = second_is i }; weight = weight_is i } ∷ [])

      pub built_again : IsBuilt sources (rows ++ r ∷ [])
      built_again = record {
        storable = subst AreStorable (sym shown_again) storable;
        ids = built.ids;
        placed = λ i s at. ⊎_elim (λ old. built.placed i s old) (λ new. (let is : s.source ≡ length sources - 1 = ap (λ (x : PlacedRow). x.source) (sym new.1) ∙ source_is in omega arith)) (get_push_cases rows r i s at);
        used = λ p below. (let owner = built.used p below in (owner.0, owner.1, get_pushed rows r owner.0 owner.1 owner.2, owner.3));
        few = (let more = length_push rows r in let few = built.few in omega arith);
      }

    -- the row's source is new
    module _ (fresh : (length sources ≡ 0) ⊎ (slice_index sources (length sources - 1) ≡ row.key.src → ⊥)) (source_is : r.source ≡ length sources) where
      abbrev longer : List ℕ
      longer = sources ++ row.key.src ∷ []

      pub shown_new : map (shown longer) (rows ++ r ∷ []) ≡ map (shown sources) rows ++ row ∷ []
      shown_new =
          let old : map (shown longer) rows ≡ map (shown sources) rows = map_same (shown longer) (shown sources) rows (λ i s at. (λ j. record { key = record { src = get_or_append_left sources (row.key.src ∷ []) 0 s.source (built.placed i s at) j; second = s.second }; weight = s.weight })) in
          let src : slice_index longer r.source ≡ row.key.src = ap (slice_index longer) source_is ∙ get_or_from_slice_get longer (length sources) row.key.src 0 (get_last sources row.key.src) in
          map_push (shown longer) rows r ∙ (λ i. old i ++ record { key = record { src = src i; second = second_is i }; weight = weight_is i } ∷ [])

      -- all sources are below the row's
      below_new : (p v : ℕ) → slice_get sources p ≡ Some v → v < row.key.src
      below_new p v at =
          let within = slice_get_within sources p v at in
          let last = source_at sources (length sources - 1) (omega arith) in
          let low = source_low (length sources - 1) (slice_index sources (length sources - 1)) last in
          let under : v ≤ slice_index sources (length sources - 1) = ⊎_elim
          (λ less. (let rise = built.ids.rise p (length sources - 1) v (slice_index sources (length sources - 1)) less at last in omega arith))
          (λ high. (let same : p ≡ length sources - 1 = omega arith in let equal = same_Some v (slice_index sources (length sources - 1)) (sym at ∙ ap (slice_get sources) same ∙ last) in omega arith))
          (cases_lt p (length sources - 1)) in
          ⊎_elim (λ none. absurd (omega arith)) (λ other. ⊎_elim (λ equal. absurd (other equal)) (λ differ. (let no_more : slice_index sources (length sources - 1) < row.key.src = ⊎_elim (λ less. less) (λ more. absurd (differ (omega arith))) (cases_lt (slice_index sources (length sources - 1)) row.key.src) in omega arith)) (cases_eq (slice_index sources (length sources - 1)) row.key.src)) fresh

      pub built_new : IsBuilt longer (rows ++ r ∷ [])
      built_new = record {
        storable = subst AreStorable (sym shown_new) storable;
        ids = record {
          rise = λ i j a b less at_i at_j. ⊎_elim
              (λ old_i. ⊎_elim (λ old_j. built.ids.rise i j a b less old_i old_j) (λ new_j. (let low = below_new i a old_i in subst (λ x. a < x) new_j.1 low)) (get_push_cases sources row.key.src j b at_j))
              (λ new_i. ⊎_elim (λ old_j. absurd (let within = slice_get_within sources j b old_j in omega arith)) (λ new_j. absurd (omega arith)) (get_push_cases sources row.key.src j b at_j))
              (get_push_cases sources row.key.src i a at_i);
        };
        placed = λ i s at. (let more = length_push sources row.key.src in ⊎_elim
            (λ old. (let low = built.placed i s old in omega arith))
            (λ new. (let is : s.source ≡ length sources = ap (λ (x : PlacedRow). x.source) (sym new.1) ∙ source_is in omega arith))
            (get_push_cases rows r i s at));
        used = λ p below. (let more = length_push sources row.key.src in ⊎_elim
            (λ less. (let owner = built.used p less in (owner.0, owner.1, get_pushed rows r owner.0 owner.1 owner.2, owner.3)))
            (λ same. (length rows, r, get_last rows r, source_is ∙ sym same))
            (below_cases p (length sources) (omega arith)));
        few = (let more = length_push rows r in let more_sources = length_push sources row.key.src in let few = built.few in omega arith);
      }

-- the row's source is the last one, or a new one
abbrev pub Follows : List ℕ → ℕ → List ℕ → Type 0
Follows sources src later = ((later ≡ sources) × (0 < length sources) × (slice_index sources (length sources - 1) ≡ src))
    ⊎ ((later ≡ sources ++ src ∷ []) × ((length sources ≡ 0) ⊎ (slice_index sources (length sources - 1) ≡ src → ⊥)))

pub appends : (sources : List ℕ) (rows : List PlacedRow) (row : Row) → IsBuilt sources rows → AreStorable (map (shown sources) rows ++ row ∷ []) → (later : List ℕ) (r : PlacedRow) (rows_later : List PlacedRow)
    → rows_later ≡ rows ++ r ∷ [] → r.second ≡ row.key.second → r.weight ≡ row.weight → r.source ≡ length later - 1 → Follows sources row.key.src later → Appends sources rows row later rows_later
appends sources rows row built storable later r rows_later put second_is weight_is source_is follows = ⊎_elim
    (λ again.
    let at_last : r.source ≡ length sources - 1 = source_is ∙ ap (λ (xs : List ℕ). length xs - 1) again.0 in
    subst (λ ss. Appends sources rows row ss rows_later) (sym again.0) (subst (λ rs. Appends sources rows row sources rs) (sym put) (record {
      built = built_again sources rows built row storable r second_is weight_is again.1 again.2 at_last;
      appended = shown_again sources rows built row storable r second_is weight_is again.1 again.2 at_last;
    })))
    (λ new.
    let more = length_push sources row.key.src in
    let count = ap length new.0 in
    let at_end : r.source ≡ length sources = omega arith in
    subst (λ ss. Appends sources rows row ss rows_later) (sym new.0) (subst (λ rs. Appends sources rows row (sources ++ row.key.src ∷ []) rs) (sym put) (record {
      built = built_new sources rows built row storable r second_is weight_is new.1 at_end;
      appended = shown_new sources rows built row storable r second_is weight_is new.1 at_end;
    })))
    follows

-- fewer rows are storable
pub storable_front : (rows more : List Row) → AreStorable (rows ++ more) → AreStorable rows
storable_front rows more are = record {
  rise = λ i j a b less at_i at_j. are.rise i j a b less (get_front rows more i a at_i) (get_front rows more j b at_j);
  weights = λ i r at. are.weights i r (get_front rows more i r at);
  count = (let count = length-append rows more in let bound = are.count in omega arith);
}

-- ---- the edges

pub edges_none : (sources : List ℕ) (rows : List PlacedRow) → AreEdgesOf sources rows 0 []
edges_none sources rows = record {
  sound = λ k e at. absurd (none-some e at);
  complete = λ i r below at arc. absurd (omega arith);
  froms = λ k l e f less at_k at_l. absurd (none-some e at_k);
  tos = λ k l e f less at_k at_l. absurd (none-some e at_k);
  count = omega arith;
}

module _ (sources : List ℕ) (rows : List PlacedRow) (built : IsBuilt sources rows) (n : ℕ) (edges : List PlacedArc) (are : AreEdgesOf sources rows n edges) (r : PlacedRow) (r_at : slice_get rows n ≡ Some r) where
  -- past the row of a vertex
  pub edges_same : r.second ≡ 0 → AreEdgesOf sources rows (n + 1) edges
  edges_same vertex = record {
    sound = λ k e at. (let there = are.sound k e at in (there.0, there.1, omega arith, there.3, there.4));
    complete = λ i s below at arc. ⊎_elim (λ less. are.complete i s less at arc) (λ same. absurd (let is : s.second ≡ r.second = ap (λ (x : PlacedRow). x.second) (same_Some s r (sym at ∙ ap (slice_get rows) same ∙ r_at)) in omega arith)) (below_cases i n below);
    froms = are.froms;
    tos = are.tos;
    count = (let count = are.count in omega arith);
  }

  module _ (e : PlacedArc) (is : IsEdge sources r e) where
    -- how the row of an edge before stands to this one
    rows_order : (k : ℕ) (f : PlacedArc) → slice_get edges k ≡ Some f → (f.from ≤ e.from) × (f.from ≡ e.from → f.to < e.to)
    rows_order k f at =
        let there = are.sound k f at in
        let s = there.1 in
        let f_is = there.4 in
        let rise = below_means (shown sources s).key (shown sources r).key (built.storable.rise there.0 n (shown sources s) (shown sources r) there.2 (map_get (shown sources) rows there.0 s there.3) (map_get (shown sources) rows n r r_at)) in
        let s_at = source_at sources s.source (built.placed there.0 s there.3) in
        let row_at = source_at sources r.source (built.placed n r r_at) in
        let low = no_higher_place sources built.ids s.source r.source (slice_index sources s.source) (slice_index sources r.source) s_at row_at rise.0 in
        let from = f_is.from in
        let to = is.from in (
          omega arith,
          λ same.
              let equal : s.source ≡ r.source = omega arith in
              let seconds = rise.1 (ap (slice_index sources) equal) in
              let arc = f_is.arc in
              lower_place sources built.ids f.to e.to (s.second - 1) (r.second - 1) f_is.to is.to (omega arith),
        )

    pub edges_longer : AreEdgesOf sources rows (n + 1) (edges ++ e ∷ [])
    edges_longer = record {
      sound = λ k f at. ⊎_elim
          (λ old. (let there = are.sound k f old in (there.0, there.1, omega arith, there.3, there.4)))
          (λ new. (n, r, omega arith, r_at, subst (IsEdge sources r) new.1 is))
          (get_push_cases edges e k f at);
      complete = λ i s below at arc. ⊎_elim
          (λ less. (let there = are.complete i s less at arc in (there.0, there.1, get_pushed edges e there.0 there.1 there.2, there.3)))
          (λ same. (length edges, e, get_last edges e, subst (λ x. IsEdge sources x e) (same_Some r s (sym r_at ∙ ap (slice_get rows) (sym same) ∙ at)) is))
          (below_cases i n below);
      froms = λ k l f h less at_k at_l. ⊎_elim
          (λ old_k. ⊎_elim (λ old_l. are.froms k l f h less old_k old_l) (λ new_l. subst (λ (x : PlacedArc). f.from ≤ x.from) new_l.1 (rows_order k f old_k).0) (get_push_cases edges e l h at_l))
          (λ new_k. absurd (let within = slice_get_within (edges ++ e ∷ []) l h at_l in let more = length_push edges e in omega arith))
          (get_push_cases edges e k f at_k);
      tos = λ k l f h less at_k at_l. ⊎_elim
          (λ old_k. ⊎_elim (λ old_l. are.tos k l f h less old_k old_l) (λ new_l. subst (λ (x : PlacedArc). f.from ≡ x.from → f.to < x.to) new_l.1 (rows_order k f old_k).1) (get_push_cases edges e l h at_l))
          (λ new_k. absurd (let within = slice_get_within (edges ++ e ∷ []) l h at_l in let more = length_push edges e in omega arith))
          (get_push_cases edges e k f at_k);
      count = (let count = are.count in let more = length_push edges e in omega arith);
    }

-- the ends of the edges are places
pub edges_within : (sources : List ℕ) (rows : List PlacedRow) (n : ℕ) (edges : List PlacedArc) → IsBuilt sources rows → n ≤ length rows → AreEdgesOf sources rows n edges → AreEdges (length sources) edges
edges_within sources rows n edges built bound are = record {
  from = λ k e at. (let there = are.sound k e at in let low = built.placed there.0 there.1 there.3 in let is = there.4.from in omega arith);
  to = λ k e at. (let there = are.sound k e at in slice_get_within sources e.to (there.1.second - 1) there.4.to);
  places = (let few = built.few in let count = built.storable.count in let same = length-map rows (shown sources) in omega arith);
  count = (let few = are.count in let count = built.storable.count in let same = length-map rows (shown sources) in omega arith);
}

-- what has a row of its own has a place
pub row_placed : (sources : List ℕ) (rows : List PlacedRow) → IsBuilt sources rows → (v : ℕ) → HasVertexRow (map (shown sources) rows) v → (q : ℕ) × (slice_get sources q ≡ Some v)
row_placed sources rows built v has =
    let there = get_map (shown sources) rows has.at has.row has.is in
    let src : slice_index sources there.0.source ≡ v = ap (λ (x : Row). x.key.src) there.2 ∙ ap (λ (k : Key). k.src) has.key in
    (there.0.source, source_at sources there.0.source (built.placed has.at there.0 there.1) ∙ ap Some src)

-- so each target has
pub ended_places : (sources : List ℕ) (rows : List PlacedRow) → IsBuilt sources rows → AreEnded (map (shown sources) rows) → HavePlaces sources rows
ended_places sources rows built ended i r at arc = row_placed sources rows built (r.second - 1) (ended.targets i (shown sources r) (map_get (shown sources) rows i r at) arc)

-- where all rows are storable behind the old ones, those up to the one at hand are
pub storable_next : (old rows now : List Row) (i : ℕ) (d : Row) → AreStorable (old ++ rows) → i < length rows → now ≡ old ++ take i rows → AreStorable (now ++ get_or rows i d ∷ [])
storable_next old rows now i d are below now_is =
    let row = get_or rows i d in
    let split : (now ++ row ∷ []) ++ drop (i + 1) rows ≡ old ++ rows =
    ap (λ xs. (xs ++ row ∷ []) ++ drop (i + 1) rows) now_is ∙ ap (λ xs. xs ++ drop (i + 1) rows) (append_assoc old (take i rows) (row ∷ []) ∙ ap (λ xs. old ++ xs) (sym (take_more rows i d below)))
    ∙ append_assoc old (take (i + 1) rows) (drop (i + 1) rows) ∙ ap (λ xs. old ++ xs) (take-append-drop (i + 1) rows) in
    storable_front (now ++ row ∷ []) (drop (i + 1) rows) (subst AreStorable (sym split) are)
