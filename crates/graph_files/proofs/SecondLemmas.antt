-- Listings of which some are second ones.
use Rattle.std.proofs.Common.{◌≡◌, ◌⊎◌, inl, inr, ℕ, ◌+◌, List, [], ◌∷◌, ◌++◌, length, get_or, map, take, drop, refl, sym, ap, subst, ◌∙◌, arith, append_assoc, append-nil, Contains, ◌<◌, ◌≤◌, ◌-◌, ◌/◌, ◌==◌, ◌&&◌, ◌||◌, Bool, true, false, not, cond, zero, suc, Some, None, is_some, Result, Ok, Err}
use Rattle.std.specs.List.{IsDistinct, AllByRecursion}
use Rattle.std.proofs.Math.Seq.{drop-append_seam}
use Rattle.std.proofs.lemmas.List.{take_more, take_all, get_or-map, length_push, take-append-drop}
use Rattle.std.proofs.lemmas.List.Elements.{Contains-append_left, Contains-push, Contains-push_cases}
use Rattle.std.proofs.lemmas.Map.Keys.{IsDistinct-head, IsDistinct-tail}
use Rattle.graph_model.specs.declared.write.Kind.{Kind}
use Rattle.graph_model.specs.declared.write.Kind.TheVariants.{Undirected}
use Rattle.graph_model.proofs.TestLemmas.{eq_of, both_of, never, self_eq}
use Rattle.graphalytics_io.specs.declared.lines.FieldLine.{FieldLine}
use Rattle.graph_files.specs.declared.checks.Checks.{Checks}
use Rattle.graph_files.specs.declared.listings.Listing.{Listing}
use Rattle.graph_files.specs.declared.listings.Listing.TheVariants.{First, Second}
use Rattle.graph_files.specs.declared.refusal.What.{What}
use Rattle.graph_files.specs.declared.refusal.What.TheVariants.{DuplicateEdge, TooManyRows}
use Rattle.id_places.specs.Places.{is_among, pair_of, pair_in, AreNumbers}
use Rattle.graph_files.specs.EdgeFiles.{edge_of, listed_weight, is_repeated, is_reversed, is_other, arcs_of, Rules, listing_of, edges_behind}
use Rattle.graph_files.specs.Kept.{every_id, AreListed, IsCheckedBy, GoesOn}
use Rattle.graph_files.proofs.EdgeLemmas.{line_read}
use Rattle.graph_files.proofs.UnrepeatedLemmas.{first_place, turned, first_listing, checked_lines}
use Rattle.id_places.proofs.DistinctLemmas.{same_number, earlier_differ}
use Rattle.graphalytics_io.specs.declared.edges.Edge.{Edge}
use Rattle.graph_files.specs.declared.seconds.PartedListings.{PartedListings}
use Rattle.graph_files.specs.Seconds.{IsTurned, AreParted, AreParts, Takes}

module _ (kind : Kind) where
  -- one more listing is kept
  parted_first : (front edges kept seconds : List Edge) (edge : Edge) → AreParted kind front edges kept seconds
      → AreParted kind front (edges ++ edge ∷ []) (kept ++ edge ∷ []) seconds
  parted_first front [] kept seconds edge so_far = inl ([], ap (λ es. es ++ edge ∷ []) so_far.0, (refl, so_far.1))
  parted_first front (x ∷ edges) kept seconds edge (inl one) =
      inl (one.0 ++ edge ∷ [], ap (λ es. es ++ edge ∷ []) one.1, parted_first (front ++ x ∷ []) edges one.0 seconds edge one.2)
  parted_first front (x ∷ edges) kept seconds edge (inr one) =
      inr (one.0, one.1, one.2, parted_first front edges kept one.0 edge one.3)

  -- one more listing is a second one
  parted_second : (front edges kept seconds : List Edge) (edge first : Edge) → AreParted kind front edges kept seconds
      → Contains (front ++ kept) first → IsTurned kind first edge → AreParted kind front (edges ++ edge ∷ []) kept (seconds ++ edge ∷ [])
  parted_second front [] kept seconds edge first so_far there turned =
      let here = subst (λ es. Contains es first) (ap (λ es. front ++ es) so_far.0 ∙ append-nil front) there in
      inr ([], ap (λ es. es ++ edge ∷ []) so_far.1, (first, here, turned), (so_far.0, refl))
  parted_second front (x ∷ edges) kept seconds edge first (inl one) there turned =
      let behind = subst (λ es. Contains es first) (ap (λ es. front ++ es) one.1 ∙ sym (append_assoc front (x ∷ []) one.0)) there in
      inl (one.0, one.1, parted_second (front ++ x ∷ []) edges one.0 seconds edge first one.2 behind turned)
  parted_second front (x ∷ edges) kept seconds edge first (inr one) there turned =
      inr (one.0 ++ edge ∷ [], ap (λ es. es ++ edge ∷ []) one.1, one.2, parted_second front edges kept one.0 edge first one.3 there turned)

map_push : (number : Edge → ℕ) (edges : List Edge) (edge : Edge) → map number edges ++ number edge ∷ [] ≡ map number (edges ++ edge ∷ [])
map_push number [] edge = refl
map_push number (x ∷ edges) edge = ap (λ ns. number x ∷ ns) (map_push number edges edge)

module _ (kind : Kind) (most : ℕ) (number : Edge → ℕ) where
  -- before the first listing nothing is parted
  pub parts_none : (parts : PartedListings) → parts.kept ≡ [] → parts.kept_numbers.items ≡ [] → parts.second_numbers.items ≡ []
      → AreParts kind most number [] parts
  parts_none parts kept kept_numbers second_numbers = record {
    seconds = [];
    parted = (kept, refl);
    kept_numbers = kept_numbers ∙ sym (ap (map number) kept);
    second_numbers = second_numbers;
    few = omega (arith, ap length kept);
  }

  -- a listing that is taken goes to one of the parts
  parts_more : (edges : List Edge) (old new : PartedListings) (edge : Edge) (n : ℕ) → AreParts kind most number edges old → n ≡ number edge
      → Takes kind most old edge n new → AreParts kind most number (edges ++ edge ∷ []) new
  parts_more edges old new edge n so_far is (inl keeps) = record {
    seconds = so_far.seconds;
    parted = subst (λ kept. AreParted kind [] (edges ++ edge ∷ []) kept so_far.seconds) (sym keeps.kept) (parted_first kind [] edges old.kept so_far.seconds edge so_far.parted);
    kept_numbers = keeps.kept_numbers ∙ (λ i. so_far.kept_numbers i ++ is i ∷ []) ∙ map_push number old.kept edge ∙ sym (ap (map number) keeps.kept);
    second_numbers = keeps.second_numbers ∙ so_far.second_numbers;
    few = omega (arith, keeps.room, ap length keeps.kept, length_push old.kept edge);
  }
  parts_more edges old new edge n so_far is (inr passes) = record {
    seconds = so_far.seconds ++ edge ∷ [];
    parted = subst (λ kept. AreParted kind [] (edges ++ edge ∷ []) kept (so_far.seconds ++ edge ∷ [])) (sym passes.kept)
        (parted_second kind [] edges old.kept so_far.seconds edge passes.first so_far.parted passes.there passes.turned);
    kept_numbers = passes.kept_numbers ∙ so_far.kept_numbers ∙ sym (ap (map number) passes.kept);
    second_numbers = passes.second_numbers ∙ (λ i. so_far.second_numbers i ++ is i ∷ []) ∙ map_push number so_far.seconds edge;
    few = subst (λ kept. length kept ≤ most) (sym passes.kept) so_far.few;
  }

  -- a listing that is taken, by its place
  pub parts_step : (edges : List Edge) (numbers : List ℕ) (at : ℕ) (d : Edge) (old new : PartedListings) → at < length edges → numbers ≡ map number edges
      → AreParts kind most number (take at edges) old → Takes kind most old (get_or edges at d) (get_or numbers at 0) new → AreParts kind most number (take (at + 1) edges) new
  parts_step edges numbers at d old new inside is so_far takes =
      let own : get_or numbers at 0 ≡ number (get_or edges at d) = ap (λ ns. get_or ns at 0) is ∙ get_or-map number edges at d 0 inside in
      subst (λ es. AreParts kind most number es new) (sym (take_more edges at d inside)) (parts_more (take at edges) old new (get_or edges at d) _ so_far own takes)

  -- once all listings are taken, all are parted
  pub parts_all : (edges : List Edge) (at : ℕ) (parts : PartedListings) → length edges ≤ at → AreParts kind most number (take at edges) parts → AreParts kind most number (take (length edges) edges) parts
  parts_all edges at parts end so_far = subst (λ es. AreParts kind most number es parts) (take_all at edges end ∙ sym (take_all (length edges) edges (omega arith))) so_far

-- ---- what such listings stand for

first_or_rest : {X : Type 0} (y : X) (xs : List X) (x : X) → Contains (y ∷ xs) x → (y ≡ x) ⊎ Contains xs x
first_or_rest {X} y xs x there = place there.0 there.1 there.2
  where
    place : (i : ℕ) → i < length (y ∷ xs) → get_or (y ∷ xs) i x ≡ x → (y ≡ x) ⊎ Contains xs x
    place zero inside is = inl is
    place (suc i) inside is = inr (i, omega arith, is)

behind_first : {X : Type 0} (y : X) (xs : List X) (x : X) → Contains xs x → Contains (y ∷ xs) x
behind_first y xs x there = (suc there.0, omega (arith, there.1), there.2)

-- numbers that are told apart differ
differ : (m n : ℕ) → (m == n) ≡ false → m ≡ n → ⊥
differ m n apart same = never _ (ap (λ k. k == n) same ∙ self_eq n) apart

-- what holds of each by recursion holds of one that is contained
of_each : {X : Type 0} (P : X → Type 0) (xs : List X) → AllByRecursion P xs → (x : X) → Contains xs x → P x
of_each P [] each x there = absurd (omega (arith, there.1))
of_each P (y ∷ xs) each x there = elim (first_or_rest y xs x there) [
  | inl same ↦ subst P same each.0
  | inr more ↦ of_each P xs each.1 x more
]

to_each : {X : Type 0} (P : X → Type 0) (xs : List X) → ((x : X) → Contains xs x → P x) → AllByRecursion P xs
to_each P [] each = tt
to_each P (y ∷ xs) each = (each y (0, omega arith, refl), to_each P xs (λ x there. each x (behind_first y xs x there)))

-- of numbers that are all apart from one, each is
mapped : (number : Edge → ℕ) (n : ℕ) (xs : List Edge) → AllByRecursion (λ m. same_number n m ≡ false) (map number xs) → (x : Edge) → Contains xs x → n ≡ number x → ⊥
mapped number n [] each x there same = absurd (omega (arith, there.1))
mapped number n (y ∷ xs) each x there same = elim (first_or_rest y xs x there) [
  | inl here ↦ differ n (number y) each.0 (same ∙ ap number (sym here))
  | inr more ↦ mapped number n xs each.1 x more same
]

-- of edges with different numbers one alone has a number
one_of_number : (number : Edge → ℕ) (xs : List Edge) → IsDistinct same_number (map number xs) → (x y : Edge) → Contains xs x → Contains xs y → number x ≡ number y → x ≡ y
one_of_number number [] distinct x y first second same = absurd (omega (arith, first.1))
one_of_number number (z ∷ xs) distinct x y first second same =
    let apart = IsDistinct-head same_number (number z) (map number xs) distinct in
    elim (first_or_rest z xs x first) [
      | inl here ↦ elim (first_or_rest z xs y second) [
        | inl there ↦ sym here ∙ there
        | inr more ↦ absurd (mapped number (number z) xs apart y more (ap number here ∙ same))
      ]
      | inr rest ↦ elim (first_or_rest z xs y second) [
        | inl there ↦ absurd (mapped number (number z) xs apart x rest (ap number there ∙ sym same))
        | inr more ↦ one_of_number number xs (IsDistinct-tail same_number (number z) (map number xs) distinct) x y rest more same
      ]
    ]

-- an edge isn't listed where no listing has its ends
none_listed : (listings : List Edge) (u v : ℕ) → ((x : Edge) → Contains listings x → x.u ≡ u → x.v ≡ v → ⊥) → listed_weight listings u v ≡ None
none_listed [] u v none = refl
none_listed (x ∷ listings) u v none = step ((x.u == u) && (x.v == v)) refl (none_listed listings u v (λ y there. none y (behind_first x listings y there)))
  where
    step : (t : Bool) → ((x.u == u) && (x.v == v)) ≡ t → listed_weight listings u v ≡ None → cond t (Some x.weight) (listed_weight listings u v) ≡ None
    step true here rest = let ends = both_of _ _ here in absurd (none x (0, omega arith, refl) (eq_of _ _ ends.0) (eq_of _ _ ends.1))
    step false here rest = rest

-- it is listed with a weight where one listing has its ends, and each that has them has this weight
weight_listed : (listings : List Edge) (u v weight : ℕ) → ((x : Edge) → Contains listings x → x.u ≡ u → x.v ≡ v → x.weight ≡ weight)
    → (p : Edge) → Contains listings p → p.u ≡ u → p.v ≡ v → listed_weight listings u v ≡ Some weight
weight_listed [] u v weight each p there source target = absurd (omega (arith, there.1))
weight_listed (x ∷ listings) u v weight each p there source target =
    step ((x.u == u) && (x.v == v)) refl (λ more. weight_listed listings u v weight (λ y one. each y (behind_first x listings y one)) p more source target)
  where
    own : x ≡ p → ((x.u == u) && (x.v == v)) ≡ true
    own same = (λ i. ((same i).u == u) && ((same i).v == v)) ∙ (λ i. (source i == u) && (target i == v)) ∙ (λ i. self_eq u i && self_eq v i)

    step : (t : Bool) → ((x.u == u) && (x.v == v)) ≡ t → (Contains listings p → listed_weight listings u v ≡ Some weight) → cond t (Some x.weight) (listed_weight listings u v) ≡ Some weight
    step true here rest = let ends = both_of _ _ here in ap Some (each x (0, omega arith, refl) (eq_of _ _ ends.0) (eq_of _ _ ends.1))
    step false here rest = elim (first_or_rest x listings p there) [
      | inl same ↦ absurd (never _ (own same) here)
      | inr more ↦ rest more
    ]

passes_second : (r s t : Bool) → r ≡ false → s ≡ true → ◌≡◌ {A = Result Listing What} (cond r (Err DuplicateEdge) (cond s (Ok Second) (cond t (Err TooManyRows) (Ok First)))) (Ok Second)
passes_second false true t a b = refl
passes_second true s t a b = absurd (cc)
passes_second r false t a b = absurd (cc)

module _ (known : List ℕ) (rules : Rules) (kind : Kind) (is_kind : rules.kind ≡ kind) where
  abbrev number : Edge → ℕ
  number = pair_in kind known

  same_way : (x edge : Edge) → x.u ≡ edge.u → x.v ≡ edge.v → number x ≡ number edge
  same_way x edge source target = λ i. pair_of kind (first_place known (source i)) (first_place known (target i))

  other_way : kind ≡ Undirected → (x edge : Edge) → x.u ≡ edge.v → x.v ≡ edge.u → number x ≡ number edge
  other_way undirected x edge source target =
      (λ i. pair_of (undirected i) (first_place known (source i)) (first_place known (target i)))
      ∙ turned (first_place known edge.v) (first_place known edge.u)
      ∙ (λ i. pair_of (sym undirected i) (first_place known edge.u) (first_place known edge.v))

  -- each listing is kept or a second one, and the first one of each second one is kept
  pub record AreSeen (listings kept seconds : List Edge) : Type 0 where
    pub each : (x : Edge) → Contains listings x → Contains kept x ⊎ Contains seconds x
    pub listed : (x : Edge) → Contains kept x → Contains listings x
    pub first : (x : Edge) → Contains seconds x → (p : Edge) × Contains kept p × (number p ≡ number x)

  seen_first : (listings kept seconds : List Edge) (edge : Edge) → AreSeen listings kept seconds → AreSeen (listings ++ edge ∷ []) (kept ++ edge ∷ []) seconds
  seen_first listings kept seconds edge seen = record {
    each = λ x there. elim (Contains-push_cases listings edge x there) [
      | inl old ↦ elim (seen.each x old) [
        | inl one ↦ inl (Contains-append_left kept (edge ∷ []) x one)
        | inr one ↦ inr one
      ]
      | inr same ↦ inl (subst (Contains (kept ++ edge ∷ [])) same (Contains-push kept edge))
    ];
    listed = λ x there. elim (Contains-push_cases kept edge x there) [
      | inl one ↦ Contains-append_left listings (edge ∷ []) x (seen.listed x one)
      | inr same ↦ subst (Contains (listings ++ edge ∷ [])) same (Contains-push listings edge)
    ];
    first = λ x there. let p = seen.first x there in (p.0, Contains-append_left kept (edge ∷ []) p.0 p.1, p.2);
  }

  seen_second : (listings kept seconds : List Edge) (edge p : Edge) → AreSeen listings kept seconds → Contains kept p → number p ≡ number edge
      → AreSeen (listings ++ edge ∷ []) kept (seconds ++ edge ∷ [])
  seen_second listings kept seconds edge p seen there is = record {
    each = λ x there. elim (Contains-push_cases listings edge x there) [
      | inl old ↦ elim (seen.each x old) [
        | inl one ↦ inl one
        | inr one ↦ inr (Contains-append_left seconds (edge ∷ []) x one)
      ]
      | inr same ↦ inr (subst (Contains (seconds ++ edge ∷ [])) same (Contains-push seconds edge))
    ];
    listed = λ x one. Contains-append_left listings (edge ∷ []) x (seen.listed x one);
    first = λ x one. elim (Contains-push_cases seconds edge x one) [
      | inl old ↦ seen.first x old
      | inr same ↦ (p, there, is ∙ ap number same)
    ];
  }

  module _ (listings kept seconds : List Edge) (edge : Edge) (seen : AreSeen listings kept seconds) where
    -- an edge whose number none of the kept has is new
    new_edge : AllByRecursion (λ x. (number x == number edge) ≡ false) kept → AllByRecursion (λ x. (number x == number edge) ≡ false) listings
    new_edge apart = to_each (λ x. (number x == number edge) ≡ false) listings (λ x there. elim (seen.each x there) [
      | inl one ↦ of_each (λ x. (number x == number edge) ≡ false) kept apart x one
      | inr one ↦ let p = seen.first x one in subst (λ n. (n == number edge) ≡ false) p.2 (of_each (λ x. (number x == number edge) ≡ false) kept apart p.0 p.1)
    ])

    module _ (p : Edge) (there : Contains kept p) (is : IsTurned kind p edge) (alone : (x : Edge) → Contains kept x → number x ≡ number p → x ≡ p)
        (apart : AllByRecursion (λ x. (number x == number edge) ≡ false) seconds) where
      -- of the listings so far the first one alone has the number of a second one
      only_first : (x : Edge) → Contains listings x → number x ≡ number edge → x ≡ p
      only_first x one same = elim (seen.each x one) [
        | inl kept_one ↦ alone x kept_one (same ∙ sym (other_way is.undirected p edge (sym is.target) (sym is.source)))
        | inr second_one ↦ absurd (differ (number x) (number edge) (of_each (λ x. (number x == number edge) ≡ false) seconds apart x second_one) same)
      ]

      second_listing : listing_of rules (record { listings = listings; edges = kept }) edge ≡ Ok Second
      second_listing =
          let none = none_listed listings edge.u edge.v (λ x one source target. let same = only_first x one (same_way x edge source target) in
          is.apart (ap (λ (e : Edge). e.u) (sym same) ∙ source ∙ is.source)) in
          let some = weight_listed listings edge.v edge.u edge.weight (λ x one source target. let same = only_first x one (other_way is.undirected x edge source target) in
          ap (λ (e : Edge). e.weight) same ∙ sym is.weight) p (seen.listed p there) (sym is.target) (sym is.source) in
          passes_second (is_repeated rules.kind listings edge) (is_reversed rules.kind listings edge) _
          (ap (λ k. is_repeated k listings edge) (is_kind ∙ is.undirected) ∙ (λ i. is_some (none i) || is_other (some i) edge.weight) ∙ ap not (self_eq edge.weight))
          (ap (λ k. is_reversed k listings edge) (is_kind ∙ is.undirected) ∙ ap is_some some)

  -- lines that list edges so, and others behind them, stand for what these stand for behind the edges that are kept
  pub all_kept : (lines rest : List FieldLine) (edges listings kept seconds more_kept more_seconds : List Edge) → AreListed (edge_of (is_among rules.ids) rules.weights) lines edges
      → AreParted kind kept edges more_kept more_seconds → IsDistinct same_number (map number (kept ++ more_kept)) → IsDistinct same_number (map number (seconds ++ more_seconds))
      → AreSeen listings kept seconds → length kept + length more_kept ≤ (rules.limit - length rules.ids) / arcs_of kind
      → edges_behind rules (record { listings = listings; edges = kept }) (lines ++ rest)
      ≡ edges_behind rules (record { listings = listings ++ edges; edges = kept ++ more_kept }) rest
  all_kept [] rest [] listings kept seconds more_kept more_seconds listed parted kept_differ seconds_differ seen room =
      λ i. edges_behind rules (record { listings = sym (append-nil listings) i; edges = sym (ap (λ es. kept ++ es) parted.0 ∙ append-nil kept) i }) rest
  all_kept [] rest (edge ∷ edges) listings kept seconds more_kept more_seconds listed parted kept_differ seconds_differ seen room = absurd listed
  all_kept (line ∷ lines) rest [] listings kept seconds more_kept more_seconds listed parted kept_differ seconds_differ seen room = absurd listed
  all_kept (line ∷ lines) rest (edge ∷ edges) listings kept seconds more_kept more_seconds listed (inl one) kept_differ seconds_differ seen room =
      let next = append_assoc kept (edge ∷ []) one.0 in
      let own = subst (λ es. IsDistinct same_number (map number (kept ++ es))) one.1 kept_differ in
      let long = ap length one.1 in
      let new = new_edge listings kept seconds edge seen (earlier_differ number kept edge one.0 own) in
      let first = first_listing known rules kind is_kind listings kept edge new (omega (arith, room, long)) in
      let step = line_read rules (record { listings = listings; edges = kept }) (line ∷ (lines ++ rest)) line (lines ++ rest) _ refl refl edge listed.0 First first in
      let more =
      all_kept lines rest edges (listings ++ edge ∷ []) (kept ++ edge ∷ []) seconds one.0 more_seconds listed.1 one.2
      (subst (λ es. IsDistinct same_number (map number es)) (sym next) own) seconds_differ (seen_first listings kept seconds edge seen) (omega (arith, room, long, length_push kept edge)) in
      sym step ∙ more ∙ (λ i. edges_behind rules (record { listings = append_assoc listings (edge ∷ []) edges i; edges = (next ∙ ap (λ es. kept ++ es) (sym one.1)) i }) rest)
  all_kept (line ∷ lines) rest (edge ∷ edges) listings kept seconds more_kept more_seconds listed (inr one) kept_differ seconds_differ seen room =
      let next = append_assoc seconds (edge ∷ []) one.0 in
      let own = subst (λ es. IsDistinct same_number (map number (seconds ++ es))) one.1 seconds_differ in
      let p = one.2.0 in
      let alone : (x : Edge) → Contains kept x → number x ≡ number p → x ≡ p =
      λ x there same. one_of_number number (kept ++ more_kept) kept_differ x p (Contains-append_left kept more_kept x there) (Contains-append_left kept more_kept p one.2.1) same in
      let second = second_listing listings kept seconds edge seen p one.2.1 one.2.2 alone (earlier_differ number seconds edge one.0 own) in
      let step = line_read rules (record { listings = listings; edges = kept }) (line ∷ (lines ++ rest)) line (lines ++ rest) _ refl refl edge listed.0 Second second in
      let more =
      all_kept lines rest edges (listings ++ edge ∷ []) kept (seconds ++ edge ∷ []) more_kept one.0 listed.1 one.3 kept_differ
      (subst (λ es. IsDistinct same_number (map number es)) (sym next) own)
      (seen_second listings kept seconds edge p seen one.2.1 (other_way one.2.2.undirected p edge (sym one.2.2.target) (sym one.2.2.source))) room in
      sym step ∙ more ∙ (λ i. edges_behind rules (record { listings = append_assoc listings (edge ∷ []) edges i; edges = kept ++ more_kept }) rest)

-- ---- the front of a file

-- the first of some listed edges have lines of their own
listed_first : {X : Type 0} (item : List (List ℕ) → Result X What) (n : ℕ) (lines : List FieldLine) (xs : List X) → AreListed item lines xs → AreListed item (take n lines) (take n xs)
listed_first item zero lines xs listed = tt
listed_first item (suc n) [] [] listed = tt
listed_first item (suc n) [] (x ∷ xs) listed = absurd listed
listed_first item (suc n) (line ∷ lines) [] listed = absurd listed
listed_first item (suc n) (line ∷ lines) (x ∷ xs) listed = (listed.0, listed_first item n lines xs listed.1)

-- there are as many lines as edges
listed_long : {X : Type 0} (item : List (List ℕ) → Result X What) (lines : List FieldLine) (xs : List X) → AreListed item lines xs → length lines ≡ length xs
listed_long item [] [] listed = refl
listed_long item [] (x ∷ xs) listed = absurd listed
listed_long item (line ∷ lines) [] listed = absurd listed
listed_long item (line ∷ lines) (x ∷ xs) listed = ap (λ n. suc n) (listed_long item lines xs listed.1)

-- a file goes on behind the front of its lines whose edges are parted, by what the lines are checked against
pub front_goes_on : (rules : Rules) (checks : Checks) (front rest : List FieldLine) (edges : List Edge) (numbers : List ℕ) (parts : PartedListings) (n count : ℕ) → IsCheckedBy rules checks
    → AreListed (edge_of every_id checks.weights) front edges → AreNumbers checks.kind checks.known (take n edges) numbers
    → ((number : Edge → ℕ) → numbers ≡ map number (take n edges) → AreParts checks.kind checks.most number (take count (take n edges)) parts)
    → IsDistinct same_number parts.kept_numbers.items → IsDistinct same_number parts.second_numbers.items
    → GoesOn rules (front ++ rest) (record { listings = take count (take n edges); edges = parts.kept })
front_goes_on rules checks front rest edges numbers parts n count checked listed numbered are_parts kept_differ seconds_differ =
    let number = pair_in checks.kind checks.known in
    let are = are_parts number numbered.each in
    let lines = take count (take n front) in
    let others = (drop count (take n front) ++ drop n front) ++ rest in
    let parted : front ++ rest ≡ lines ++ others =
    ap (λ ls. ls ++ rest) (sym (take-append-drop n front) ∙ ap (λ ls. ls ++ drop n front) (sym (take-append-drop count (take n front))) ∙ append_assoc lines (drop count (take n front)) (drop n front))
    ∙ append_assoc lines (drop count (take n front) ++ drop n front) rest in
    let own = checked_lines rules checks (take n front) (take n edges) checked (listed_first (edge_of every_id checks.weights) n front edges listed) numbers numbered in
    let own_lines = listed_first (edge_of (is_among rules.ids) rules.weights) count (take n front) (take n edges) own in
    let room = subst (λ k. length parts.kept ≤ (rules.limit - length rules.ids) / arcs_of k) checked.kind (subst (λ m. length parts.kept ≤ m) checked.most are.few) in
    let goes_on =
    all_kept checks.known rules checks.kind checked.kind lines others (take count (take n edges)) [] [] [] parts.kept are.seconds own_lines are.parted
    (subst (IsDistinct same_number) are.kept_numbers kept_differ) (subst (IsDistinct same_number) are.second_numbers seconds_differ)
    (record { each = λ x there. absurd (omega (arith, there.1)); listed = λ x there. there; first = λ x there. absurd (omega (arith, there.1)) })
    (omega (arith, room)) in
    let behind : others ≡ drop (length (take count (take n edges))) (front ++ rest) =
    sym (drop-append_seam lines others) ∙ (λ i. drop (listed_long (edge_of (is_among rules.ids) rules.weights) lines (take count (take n edges)) own_lines i) (sym parted i)) in
    ap (edges_behind rules (record { listings = []; edges = [] })) parted ∙ goes_on
    ∙ ap (edges_behind rules (record { listings = take count (take n edges); edges = parts.kept })) behind
