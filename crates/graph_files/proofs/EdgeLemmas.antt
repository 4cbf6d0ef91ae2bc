-- Edge files that are read line by line.
use Rattle.std.proofs.Common.{◌≡◌, ℕ, ◌==◌, Bool, true, false, ◌&&◌, not, cond, List, [], ◌∷◌, ◌++◌, Option, Some, None, Result, Ok, Err, refl, sym, ap, ◌∙◌, arith, ◌+◌, ◌<◌, ◌≤◌, length, take, drop, get_or, zero, suc}
use Rattle.std.specs.Option.{MatchOption}
use Rattle.std.proofs.lemmas.List.{take_more, take_all, take-append-drop, drop_more}
use Rattle.graphalytics_io.specs.declared.edges.Edge.{Edge}
use Rattle.graphalytics_io.specs.declared.lines.FieldLine.{FieldLine}
use Rattle.graph_files.specs.declared.refusal.What.{What}
use Rattle.graph_files.specs.declared.refusal.What.TheVariants.{UnknownVertex, SelfLoop}
use Rattle.graph_files.specs.declared.refusal.Fault.{Fault}
use Rattle.graph_files.specs.declared.weights.Weights.{Weights}
use Rattle.graph_files.specs.declared.weights.Weights.TheVariants.{Ones, Units}
use Rattle.graph_files.specs.declared.listings.Listing.{Listing}
use Rattle.graph_files.specs.declared.listings.Listing.TheVariants.{First, Second}
use Rattle.graph_files.specs.Faults.{then_check, then_lines}
use Rattle.graph_files.specs.Weights.{decimal_of}
use Rattle.graph_files.specs.VertexFiles.{id_of}
use Rattle.id_places.specs.Places.{is_among}
use Rattle.graph_files.specs.EdgeFiles.{ends_of, edge_with, edge_of, weighted, listed_weight, Rules, Before, listing_of, behind, read_line, edges_behind}
use Rattle.graph_files.specs.declared.checks.Checks.{Checks}
use Rattle.graph_files.specs.Kept.{IsCheckedBy}

-- where the same ids are known, lines give the same edges
module _ (known others : ℕ → Bool) (same : (v : ℕ) → known v ≡ others v) where
  same_ends : (source target : List ℕ) → ends_of known source target ≡ ends_of others source target
  same_ends source target = λ i. then_check (id_of source) (λ u. then_check (id_of target) (λ v.
      cond (u == v) (Err SelfLoop) (cond (not (same u i)) (Err UnknownVertex) (cond (not (same v i)) (Err UnknownVertex) (Ok (u, v))))))

  same_with : (weights : Weights) (source target : List ℕ) (third : Option (List ℕ)) → edge_with known weights source target third ≡ edge_with others weights source target third
  same_with Ones source target third = ap (λ ends. weighted ends (Ok 1)) (same_ends source target)
  same_with (Units digits cut) source target None = refl
  same_with (Units digits cut) source target (Some field) = ap (λ ends. weighted ends (decimal_of digits cut field)) (same_ends source target)

  pub same_edge : (weights : Weights) (fields : List (List ℕ)) → edge_of known weights fields ≡ edge_of others weights fields
  same_edge weights [] = refl
  same_edge weights (source ∷ []) = refl
  same_edge weights (source ∷ target ∷ []) = same_with weights source target None
  same_edge weights (source ∷ target ∷ third ∷ []) = same_with weights source target (Some third)
  same_edge weights (source ∷ target ∷ third ∷ extra ∷ fields) = refl

abbrev has_ends : ℕ → ℕ → Edge → Bool
has_ends u v edge = (edge.u == u) && (edge.v == v)

module _ (u v : ℕ) (x : Edge) where
  unlisted_push : (listings : List Edge) → listed_weight listings u v ≡ None → has_ends u v x ≡ false → listed_weight (listings ++ x ∷ []) u v ≡ None
  unlisted_push [] none other = ap (λ t. cond t (Some x.weight) None) other
  unlisted_push (y ∷ listings) none other = step (has_ends u v y) none (λ rest. unlisted_push listings rest other)
    where
      step : (t : Bool) → cond t (Some y.weight) (listed_weight listings u v) ≡ None
          → (listed_weight listings u v ≡ None → listed_weight (listings ++ x ∷ []) u v ≡ None) → cond t (Some y.weight) (listed_weight (listings ++ x ∷ []) u v) ≡ None
      step true none more = absurd (cc)
      step false none more = more none

  listed_behind : (listings others : List Edge) → listed_weight listings u v ≡ None → has_ends u v x ≡ true → listed_weight (listings ++ x ∷ others) u v ≡ Some x.weight
  listed_behind [] others none here = ap (λ t. cond t (Some x.weight) (listed_weight others u v)) here
  listed_behind (y ∷ listings) others none here = step (has_ends u v y) none (λ rest. listed_behind listings others rest here)
    where
      step : (t : Bool) → cond t (Some y.weight) (listed_weight listings u v) ≡ None
          → (listed_weight listings u v ≡ None → listed_weight (listings ++ x ∷ others) u v ≡ Some x.weight) → cond t (Some y.weight) (listed_weight (listings ++ x ∷ others) u v) ≡ Some x.weight
      step true none more = absurd (cc)
      step false none more = more none

module _ (listings : List Edge) (i u v : ℕ) (d : Edge) (inside : i < length listings) (none : listed_weight (take i listings) u v ≡ None) where
  -- an edge that the listings before a place don't have isn't listed with one more that hasn't its ends
  pub unlisted_more : has_ends u v (get_or listings i d) ≡ false → listed_weight (take (i + 1) listings) u v ≡ None
  unlisted_more other = ap (λ es. listed_weight es u v) (take_more listings i d inside) ∙ unlisted_push u v (get_or listings i d) (take i listings) none other

  -- and is listed with the weight of the listing at this place where that has its ends
  pub listed_at : has_ends u v (get_or listings i d) ≡ true → Some (get_or listings i d).weight ≡ listed_weight listings u v
  listed_at here =
      let parts = sym (take-append-drop i listings) ∙ ap (λ es. take i listings ++ es) (drop_more listings i d inside) in
      sym (ap (λ es. listed_weight es u v) parts ∙ listed_behind u v (get_or listings i d) (take i listings) (drop (i + 1) listings) none here)

-- no listing has an edge that those before the end don't have
pub listed_nowhere : (listings : List Edge) (i u v : ℕ) → length listings ≤ i → listed_weight (take i listings) u v ≡ None → None ≡ listed_weight listings u v
listed_nowhere listings i u v end none = sym (ap (λ es. listed_weight es u v) (sym (take_all i listings end)) ∙ none)

-- what is behind one element more
behind_one : {X : Type 0} (n : ℕ) (all : List X) → drop (n + 1) all ≡ drop 1 (drop n all)
behind_one zero all = refl
behind_one (suc n) [] = let more : suc n + 1 ≡ suc (n + 1) = omega arith in rw more refl
behind_one (suc n) (x ∷ all) = let more : suc n + 1 ≡ suc (n + 1) = omega arith in rw more (behind_one n all)

-- one element more is skipped
pub skip_one : {X : Type 0} (n : ℕ) (all old new : List X) (r : Option X) → old ≡ drop n all → MatchOption r ((old ≡ []) × (new ≡ [])) (λ x. old ≡ x ∷ new) → new ≡ drop (n + 1) all
skip_one n all old new None so_far gone = gone.1 ∙ ap (drop 1) (sym gone.0 ∙ so_far) ∙ sym (behind_one n all)
skip_one n all old new (Some x) so_far next = ap (drop 1) (sym next ∙ so_far) ∙ sym (behind_one n all)

module _ (rules : Rules) (before : Before) (lines : List FieldLine) (line : FieldLine) (rest : List FieldLine) (all : Result (List Edge) Fault)
    (next : lines ≡ line ∷ rest) (so_far : edges_behind rules before lines ≡ all) where
  line_is : then_lines line.number (read_line rules before line.fields) (λ after. edges_behind rules after rest) ≡ all
  line_is = ap (λ more. edges_behind rules before more) (sym next) ∙ so_far

  -- a line that is faulty by itself gives the file's fault
  pub line_refused : (what : What) → edge_of (is_among rules.ids) rules.weights line.fields ≡ Err what → all ≡ Err (record { line = line.number; what = what })
  line_refused what is = sym line_is ∙ ap (λ (found : Result Edge What). then_lines line.number (then_check found (λ edge. then_check (listing_of rules before edge) (λ listing. Ok (behind before edge listing)))) (λ after. edges_behind rules after rest)) is

  module _ (edge : Edge) (is : edge_of (is_among rules.ids) rules.weights line.fields ≡ Ok edge) where
    edge_is : then_lines line.number (then_check (listing_of rules before edge) (λ listing. Ok (behind before edge listing))) (λ after. edges_behind rules after rest) ≡ all
    edge_is = ap (λ (found : Result Edge What). then_lines line.number (then_check found (λ edge. then_check (listing_of rules before edge) (λ listing. Ok (behind before edge listing)))) (λ after. edges_behind rules after rest)) (sym is) ∙ line_is

    -- so does one that is faulty behind the lines before it
    pub listing_refused : (what : What) → listing_of rules before edge ≡ Err what → all ≡ Err (record { line = line.number; what = what })
    listing_refused what found = sym edge_is ∙ ap (λ (found : Result Listing What). then_lines line.number (then_check found (λ listing. Ok (behind before edge listing))) (λ after. edges_behind rules after rest)) found

    -- a line more is read
    pub line_read : (listing : Listing) → listing_of rules before edge ≡ Ok listing → edges_behind rules (behind before edge listing) rest ≡ all
    line_read listing found = ap (λ (found : Result Listing What). then_lines line.number (then_check found (λ listing. Ok (behind before edge listing))) (λ after. edges_behind rules after rest)) (sym found) ∙ edge_is

-- what is known behind a line, by its edges without second listings
pub behind_is : (before : Before) (edge : Edge) (listing : Listing) (listings edges : List Edge) → listings ≡ before.listings ++ edge ∷ [] → edges ≡ (behind before edge listing).edges
    → ◌≡◌ {A = Before} (record { listings = listings; edges = edges }) (behind before edge listing)
behind_is before edge First listings edges listed same = λ i. record { listings = listed i; edges = same i }
behind_is before edge Second listings edges listed same = λ i. record { listings = listed i; edges = same i }

-- what a line stands for by itself, by what it is checked against
pub checked_edge : (rules : Rules) (checks : Checks) (fields : List (List ℕ)) (found : Result Edge What) → IsCheckedBy rules checks → edge_of (is_among checks.known) checks.weights fields ≡ found → edge_of (is_among rules.ids) rules.weights fields ≡ found
checked_edge rules checks fields found checked is =
    ap (λ w. edge_of (is_among rules.ids) w fields) checked.weights
    ∙ sym (same_edge (is_among checks.known) (is_among rules.ids) checked.ids checks.weights fields) ∙ is
