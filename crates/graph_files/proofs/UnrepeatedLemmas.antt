-- Files in which nothing is listed twice.
use Rattle.std.proofs.Common.{◌≡◌, ℕ, ◌+◌, ◌-◌, ◌*◌, ◌/◌, ◌%◌, ◌^◌, ◌≤◌, ◌==◌, ◌&&◌, ◌||◌, Bool, true, false, cond, nat_lt, nat_le, List, [], ◌∷◌, ◌++◌, length, get_or, map, min, max, not, All, Option, Some, None, is_some, Result, Ok, Err, refl, sym, ap, subst, ◌∙◌, arith, append_assoc, ◌<◌}
use Rattle.std.specs.List.{IsDistinct, AllByRecursion, position_or_len}
use Rattle.std.proofs.lemmas.Bool.Decides.{nat_tests}
use Rattle.std.proofs.lemmas.List.{append-nil, length_push, map-id}
use Rattle.std.proofs.lemmas.List.Elements.{All-head, All-tail}
use Rattle.graph_model.specs.declared.write.Kind.{Kind}
use Rattle.graph_model.specs.declared.write.Kind.TheVariants.{Directed, Undirected}
use Rattle.graph_model.proofs.TestLemmas.{eq_of, both_of, never, self_eq}
use Rattle.graphalytics_io.specs.declared.edges.Edge.{Edge}
use Rattle.graphalytics_io.specs.declared.lines.FieldLine.{FieldLine}
use Rattle.graph_files.specs.declared.refusal.What.{What}
use Rattle.graph_files.specs.declared.refusal.What.TheVariants.{DuplicateVertex, DuplicateEdge, UnknownVertex, SelfLoop, TooManyRows}
use Rattle.graph_files.specs.declared.weights.Weights.{Weights}
use Rattle.graph_files.specs.declared.weights.Weights.TheVariants.{Ones, Units}
use Rattle.graph_files.specs.Weights.{decimal_of}
use Rattle.graph_files.specs.declared.listings.Listing.{Listing}
use Rattle.graph_files.specs.declared.listings.Listing.TheVariants.{First, Second}
use Rattle.graph_files.specs.Faults.{then_check, then_lines}
use Rattle.graph_files.specs.VertexFiles.{id_of, new_id, line_id, vertex_of, ids_behind}
use Rattle.id_places.specs.Places.{is_among, pair_of, pair_in, AreNumbers}
use Rattle.graph_files.specs.EdgeFiles.{joined, ends_of, weighted, edge_with, edge_of, listed_weight, is_repeated, is_reversed, is_other, arcs_of, Rules, listing_of, edges_behind}
use Rattle.graph_files.specs.declared.checks.Checks.{Checks}
use Rattle.graph_files.specs.declared.faultless.Front.{Front}
use Rattle.graph_files.specs.Kept.{every_id, AreListed, IsCheckedBy, IsFront, AreNew}
use Rattle.id_places.proofs.DistinctLemmas.{same_number, earlier_differ}
use Rattle.graph_files.proofs.EdgeLemmas.{line_read}

-- some items have been read of the lines, and these lines are left
abbrev pub ListsTo : {X : Type 0} → (List (List ℕ) → Result X What) → List FieldLine → List X → List FieldLine → Type 0
ListsTo {X} item all xs lines = (more : List X) → AreListed item lines more → AreListed item all (xs ++ more)

-- a line more is read
pub lists_more : {X : Type 0} (item : List (List ℕ) → Result X What) (all lines rest : List FieldLine) (line : FieldLine) (xs : List X) (x : X) → ListsTo item all xs lines → lines ≡ line ∷ rest → item line.fields ≡ Ok x → ListsTo item all (xs ++ x ∷ []) rest
lists_more item all lines rest line xs x so_far next is more listed =
    subst (AreListed item all) (sym (append_assoc xs (x ∷ []) more)) (so_far (x ∷ more) (subst (λ ls. AreListed item ls (x ∷ more)) (sym next) (is, listed)))

-- at the end all are read
pub lists_all : {X : Type 0} (item : List (List ℕ) → Result X What) (all lines : List FieldLine) (xs : List X) → ListsTo item all xs lines → lines ≡ [] → AreListed item all xs
lists_all item all lines xs so_far none = subst (AreListed item all) (append-nil xs) (so_far [] (subst (λ ls. AreListed item ls []) (sym none) tt))

module _ (known : ℕ → Bool) (edge : Edge) (source_known : known edge.u ≡ true) (target_known : known edge.v ≡ true) where
  -- ends that are known join as they do where every id is known
  known_ends : (source target : List ℕ) (weight : Result ℕ What) → weighted (ends_of every_id source target) weight ≡ Ok edge
      → weighted (ends_of known source target) weight ≡ Ok edge
  known_ends source target weight is = cases (id_of source) (id_of target) weight is
    where
      joins : (t : Bool) (u v w : ℕ) → weighted (cond t (Err SelfLoop) (Ok (u, v))) (Ok w) ≡ Ok edge
          → weighted (cond t (Err SelfLoop) (cond (not (known u)) (Err UnknownVertex) (cond (not (known v)) (Err UnknownVertex) (Ok (u, v))))) (Ok w) ≡ Ok edge
      joins true u v w is = absurd (cc)
      joins false u v w is =
          let same : ◌≡◌ {A = Edge} (record { u = u; v = v; weight = w }) edge = cc in
          let first : known u ≡ true = ap (λ (e : Edge). known e.u) same ∙ source_known in
          let second : known v ≡ true = ap (λ (e : Edge). known e.v) same ∙ target_known in
          rw (first, second) is

      none : (t : Bool) (u v : ℕ) (what : What) → weighted (cond t (Err SelfLoop) (Ok (u, v))) (Err what) ≡ Ok edge → ⊥
      none true u v what is = cc
      none false u v what is = cc

      cases : (r s : Result ℕ What) (w : Result ℕ What) → weighted (then_check r (λ u. then_check s (λ v. joined every_id u v))) w ≡ Ok edge
          → weighted (then_check r (λ u. then_check s (λ v. joined known u v))) w ≡ Ok edge
      cases (Err what) s w is = absurd (cc)
      cases (Ok u) (Err what) w is = absurd (cc)
      cases (Ok u) (Ok v) (Err what) is = absurd (none (u == v) u v what is)
      cases (Ok u) (Ok v) (Ok w) is = joins (u == v) u v w is

  known_with : (weights : Weights) (source target : List ℕ) (third : Option (List ℕ)) → edge_with every_id weights source target third ≡ Ok edge
      → edge_with known weights source target third ≡ Ok edge
  known_with Ones source target third is = known_ends source target (Ok 1) is
  known_with (Units digits cut) source target None is = absurd (cc)
  known_with (Units digits cut) source target (Some field) is = known_ends source target (decimal_of digits cut field) is

  -- a line whose ends are known has the edge that it has where every id is known
  known_edge : (weights : Weights) (fields : List (List ℕ)) → edge_of every_id weights fields ≡ Ok edge → edge_of known weights fields ≡ Ok edge
  known_edge weights [] is = absurd (cc)
  known_edge weights (source ∷ []) is = absurd (cc)
  known_edge weights (source ∷ target ∷ []) is = known_with weights source target None is
  known_edge weights (source ∷ target ∷ third ∷ []) is = known_with weights source target (Some third) is
  known_edge weights (source ∷ target ∷ third ∷ extra ∷ fields) is = absurd (cc)

-- and so have lines whose ends are all known
pub listed_known : (known : ℕ → Bool) (weights : Weights) (lines : List FieldLine) (edges : List Edge)
    → AreListed (edge_of every_id weights) lines edges
    → All (λ edge. known edge.u ≡ true) edges → All (λ edge. known edge.v ≡ true) edges
    → AreListed (edge_of known weights) lines edges
listed_known known weights [] [] listed sources targets = tt
listed_known known weights [] (edge ∷ edges) listed sources targets = absurd listed
listed_known known weights (line ∷ lines) [] listed sources targets = absurd listed
listed_known known weights (line ∷ lines) (edge ∷ edges) listed sources targets = (
  known_edge known edge (All-head (λ (edge : Edge). known edge.u ≡ true) edge edges sources) (All-head (λ (edge : Edge). known edge.v ≡ true) edge edges targets) weights line.fields listed.0,
  listed_known known weights lines edges listed.1 (All-tail (λ (edge : Edge). known edge.u ≡ true) edge edges sources) (All-tail (λ (edge : Edge). known edge.v ≡ true) edge edges targets),
)

-- ---- ids

-- an id with no equal before it isn't among those before it
new_among : (before : List ℕ) (id : ℕ) → AllByRecursion (λ y. (y == id) ≡ false) before → is_among before id ≡ false
new_among [] id apart = refl
new_among (y ∷ before) id apart = ap (λ t. t || is_among before id) apart.0 ∙ new_among before id apart.1

module _ (limit : ℕ) where
  -- lines with different ids stand for these
  pub all_ids : (lines : List FieldLine) (ids before : List ℕ) → AreListed line_id lines ids → IsDistinct same_number (map (λ (x : ℕ). x) (before ++ ids)) → length before + length ids ≤ limit → ids_behind limit before lines ≡ Ok (before ++ ids)
  all_ids [] [] before listed distinct few = ap Ok (sym (append-nil before))
  all_ids [] (id ∷ ids) before listed distinct few = absurd listed
  all_ids (line ∷ lines) [] before listed distinct few = absurd listed
  all_ids (line ∷ lines) (id ∷ ids) before listed distinct few =
      let next = append_assoc before (id ∷ []) ids in
      let new = new_among before id (earlier_differ (λ (x : ℕ). x) before id ids distinct) in
      let room : nat_le limit (length before) ≡ false = above limit (length before) (omega (arith, few)) in
      let one : vertex_of limit before line.fields ≡ Ok id = ap (λ r. then_check r (new_id limit before)) listed.0 ∙ (λ i. cond (new i) (Err DuplicateVertex) (cond (room i) (Err TooManyRows) (Ok id))) in
      let rest = all_ids lines ids (before ++ id ∷ []) listed.1 (subst (λ xs. IsDistinct same_number (map (λ (x : ℕ). x) xs)) (sym next) distinct) (omega (arith, few, length_push before id)) in
      ap (λ r. then_lines line.number r (λ x. ids_behind limit (before ++ x ∷ []) lines)) one ∙ rest ∙ ap Ok next
    where
      above : (m n : ℕ) → n < m → nat_le m n ≡ false
      above m n below = grind (arith, nat_tests, below)

-- the same, from the first line on
pub ids_unrepeated : (limit : ℕ) (lines : List FieldLine) (ids : List ℕ) → AreListed line_id lines ids → IsDistinct same_number ids → length ids ≤ limit → ids_behind limit [] lines ≡ Ok ids
ids_unrepeated limit lines ids listed distinct few = all_ids limit lines ids [] listed (subst (IsDistinct same_number) (sym (map-id ids)) distinct) (omega (arith, few))

-- ---- edges

-- an edge with other ends than those before it isn't listed by them
unlisted : (f : Edge → ℕ) (n u v : ℕ) → ((x : Edge) → x.u ≡ u → x.v ≡ v → f x ≡ n) → (before : List Edge) → AllByRecursion (λ x. (f x == n) ≡ false) before → listed_weight before u v ≡ None
unlisted f n u v tells [] apart = refl
unlisted f n u v tells (x ∷ before) apart = other ((x.u == u) && (x.v == v)) refl (unlisted f n u v tells before apart.1)
  where
    other : (t : Bool) → ((x.u == u) && (x.v == v)) ≡ t → listed_weight before u v ≡ None → cond t (Some x.weight) (listed_weight before u v) ≡ None
    other true here rest =
        let ends = both_of _ _ here in
        never _ (ap (λ m. m == n) (tells x (eq_of _ _ ends.0) (eq_of _ _ ends.1)) ∙ self_eq n) apart.0
    other false here rest = rest

abbrev pub first_place : List ℕ → ℕ → ℕ
first_place ids v = position_or_len (λ id. id == v) ids

-- both directions have one number where they don't count
pub turned : (a b : ℕ) → pair_of Undirected a b ≡ pair_of Undirected b a
turned a b = λ i. (least i * 2 ^ 32 % 2 ^ 64 + greatest i) % 2 ^ 64
  where
    least : min a b ≡ min b a
    least = omega arith

    greatest : max a b ≡ max b a
    greatest = omega arith

-- an edge that passes the checks is listed for the first time
passes : (r s t : Bool) → r ≡ false → s ≡ false → t ≡ false → ◌≡◌ {A = Result Listing What} (cond r (Err DuplicateEdge) (cond s (Ok Second) (cond t (Err TooManyRows) (Ok First)))) (Ok First)
passes false false false a b c = refl
passes true s t a b c = absurd (cc)
passes r true t a b c = absurd (cc)
passes r s true a b c = absurd (cc)

-- where there is room for one more edge
room_for : (kind : Kind) (limit ids count : ℕ) → count + 1 ≤ (limit - ids) / arcs_of kind → nat_lt limit (ids + arcs_of kind * (count + 1)) ≡ false
room_for Directed limit ids count room = let fits : ids + 1 * (count + 1) ≤ limit = omega (arith, room) in grind (arith, nat_tests, fits)
room_for Undirected limit ids count room = let fits : ids + 2 * (count + 1) ≤ limit = omega (arith, room) in grind (arith, nat_tests, fits)

module _ (known : List ℕ) (rules : Rules) where
  -- an edge whose number is new is listed for the first time
  pub first_listing : (kind : Kind) → rules.kind ≡ kind → (before edges : List Edge) (edge : Edge) → AllByRecursion (λ x. (pair_in kind known x == pair_in kind known edge) ≡ false) before
      → length edges + 1 ≤ (rules.limit - length rules.ids) / arcs_of kind → listing_of rules (record { listings = before; edges = edges }) edge ≡ Ok First
  first_listing Directed is before edges edge new room =
      let absent = unlisted (pair_in Directed known) (pair_in Directed known edge) edge.u edge.v (λ x u v i. pair_of Directed (first_place known (u i)) (first_place known (v i))) before new in
      passes (is_repeated rules.kind before edge) (is_reversed rules.kind before edge) (nat_lt rules.limit (length rules.ids + arcs_of rules.kind * (length edges + 1)))
      (ap (λ k. is_repeated k before edge) is ∙ ap is_some absent) (ap (λ k. is_reversed k before edge) is)
      (ap (λ k. nat_lt rules.limit (length rules.ids + arcs_of k * (length edges + 1))) is ∙ room_for Directed rules.limit (length rules.ids) (length edges) room)
  first_listing Undirected is before edges edge new room =
      let absent = unlisted (pair_in Undirected known) (pair_in Undirected known edge) edge.u edge.v (λ x u v i. pair_of Undirected (first_place known (u i)) (first_place known (v i))) before new in
      let absent_back =
      unlisted (pair_in Undirected known) (pair_in Undirected known edge) edge.v edge.u
      (λ x u v. (λ i. pair_of Undirected (first_place known (u i)) (first_place known (v i))) ∙ turned (first_place known edge.v) (first_place known edge.u)) before new in
      passes (is_repeated rules.kind before edge) (is_reversed rules.kind before edge) (nat_lt rules.limit (length rules.ids + arcs_of rules.kind * (length edges + 1)))
      (ap (λ k. is_repeated k before edge) is ∙ (λ i. is_some (absent i) || is_other (absent_back i) edge.weight)) (ap (λ k. is_reversed k before edge) is ∙ ap is_some absent_back)
      (ap (λ k. nat_lt rules.limit (length rules.ids + arcs_of k * (length edges + 1))) is ∙ room_for Undirected rules.limit (length rules.ids) (length edges) room)

  -- lines that list edges with different numbers list each for the first time
  pub all_first : (kind : Kind) → rules.kind ≡ kind → (lines : List FieldLine) (edges before : List Edge) → AreListed (edge_of (is_among rules.ids) rules.weights) lines edges
      → IsDistinct same_number (map (pair_in kind known) (before ++ edges)) → length before + length edges ≤ (rules.limit - length rules.ids) / arcs_of kind
      → edges_behind rules (record { listings = before; edges = before }) lines ≡ Ok (before ++ edges)
  all_first kind is [] [] before listed distinct room = ap Ok (sym (append-nil before))
  all_first kind is [] (edge ∷ edges) before listed distinct room = absurd listed
  all_first kind is (line ∷ lines) [] before listed distinct room = absurd listed
  all_first kind is (line ∷ lines) (edge ∷ edges) before listed distinct room =
      let next = append_assoc before (edge ∷ []) edges in
      let first = first_listing kind is before before edge (earlier_differ (pair_in kind known) before edge edges distinct) (omega (arith, room)) in
      let one = line_read rules (record { listings = before; edges = before }) (line ∷ lines) line lines _ refl refl edge listed.0 First first in
      let rest = all_first kind is lines edges (before ++ edge ∷ []) listed.1 (subst (λ es. IsDistinct same_number (map (pair_in kind known) es)) (sym next) distinct) (omega (arith, room, length_push before edge)) in
      sym one ∙ rest ∙ ap Ok next

-- lines whose ends are known are those of the file, by what they are checked against
module _ (rules : Rules) (checks : Checks) (lines : List FieldLine) (edges : List Edge) (checked : IsCheckedBy rules checks)
    (listed : AreListed (edge_of every_id checks.weights) lines edges) where
  known_lines : All (λ edge. is_among checks.known edge.u ≡ true) edges → All (λ edge. is_among checks.known edge.v ≡ true) edges
      → AreListed (edge_of (is_among rules.ids) rules.weights) lines edges
  known_lines sources targets =
      listed_known (is_among rules.ids) rules.weights lines edges
      (subst (λ w. AreListed (edge_of every_id w) lines edges) (sym checked.weights) listed)
      (λ k d inside. sym (checked.ids (get_or edges k d).u) ∙ sources k d inside)
      (λ k d inside. sym (checked.ids (get_or edges k d).v) ∙ targets k d inside)

  pub checked_lines : (numbers : List ℕ) → AreNumbers checks.kind checks.known edges numbers → AreListed (edge_of (is_among rules.ids) rules.weights) lines edges
  checked_lines numbers numbered = known_lines numbered.sources numbered.targets

  -- where none is listed twice, they list each edge for the first time
  pub checked_first : AreNew checks.kind checks.known checks.most edges → edges_behind rules (record { listings = []; edges = [] }) lines ≡ Ok edges
  checked_first new =
      let room = subst (λ k. length edges ≤ (rules.limit - length rules.ids) / arcs_of k) checked.kind (subst (λ n. length edges ≤ n) checked.most new.few) in
      all_first checks.known rules checks.kind checked.kind lines edges [] (known_lines new.sources new.targets) new.differ (omega (arith, room))

-- so where no other lines stand behind them, the file has these edges
pub whole_new : (rules : Rules) (checks : Checks) (all : List FieldLine) (front : Front) → IsCheckedBy rules checks → IsFront (edge_of every_id checks.weights) all front
    → front.is_whole ≡ true → AreNew checks.kind checks.known checks.most front.edges → edges_behind rules (record { listings = []; edges = [] }) all ≡ Ok front.edges
whole_new rules checks all front checked is whole new =
    let lines : all ≡ is.lines = is.parts ∙ ap (λ rest. is.lines ++ rest) (is.whole whole) ∙ append-nil is.lines in
    ap (edges_behind rules (record { listings = []; edges = [] })) lines ∙ checked_first rules checks is.lines front.edges checked is.listed new

-- ---- the lines at the front

listed_push : {X : Type 0} (item : List (List ℕ) → Result X What) (lines : List FieldLine) (xs : List X) (line : FieldLine) (x : X) → AreListed item lines xs → item line.fields ≡ Ok x
    → AreListed item (lines ++ line ∷ []) (xs ++ x ∷ [])
listed_push item [] [] line x listed is = (is, tt)
listed_push item [] (y ∷ xs) line x listed is = absurd listed
listed_push item (l ∷ lines) [] line x listed is = absurd listed
listed_push item (l ∷ lines) (y ∷ xs) line x listed is = (listed.0, listed_push item lines xs line x listed.1 is)

-- the lines so far have these edges, and these are left
pub record ReadTo (item : List (List ℕ) → Result Edge What) (all : List FieldLine) (edges : List Edge) (left : List FieldLine) : Type 0 where
  pub lines : List FieldLine
  pub parts : all ≡ lines ++ left
  pub listed : AreListed item lines edges

module _ (item : List (List ℕ) → Result Edge What) (all : List FieldLine) where
  pub read_none : (edges : List Edge) → edges ≡ [] → ReadTo item all edges all
  read_none edges none = record { lines = []; parts = refl; listed = subst (λ es. AreListed item [] es) (sym none) tt }

  pub read_more : (edges more : List Edge) (left rest : List FieldLine) (line : FieldLine) (edge : Edge) → ReadTo item all edges left → left ≡ line ∷ rest → item line.fields ≡ Ok edge
      → more ≡ edges ++ edge ∷ [] → ReadTo item all more rest
  read_more edges more left rest line edge so_far next is pushed = record {
    lines = so_far.lines ++ line ∷ [];
    parts = so_far.parts ∙ ap (λ ls. so_far.lines ++ ls) next ∙ sym (append_assoc so_far.lines (line ∷ []) rest);
    listed = subst (λ es. AreListed item (so_far.lines ++ line ∷ []) es) (sym pushed) (listed_push item so_far.lines edges line edge so_far.listed is);
  }

  pub read_front : (edges : List Edge) (left : List FieldLine) (is_whole : Bool) → ReadTo item all edges left → (is_whole ≡ true → left ≡ [])
      → IsFront item all (record { edges = edges; is_whole = is_whole })
  read_front edges left is_whole so_far whole = record { lines = so_far.lines; rest = left; parts = so_far.parts; listed = so_far.listed; whole = whole }
