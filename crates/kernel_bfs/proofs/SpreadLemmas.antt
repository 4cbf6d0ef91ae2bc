-- How places are reached: one at a time, by lists of arcs, by all at once.
use Rattle.std.proofs.Common.{◌≡◌, ℕ, zero, suc, ◌+◌, ◌<◌, ◌≤◌, ◌⊎◌, inl, inr, ⊎_elim, List, [], ◌∷◌, ◌++◌, Bool, true, false, cond, ◌==◌, length, take, slice_get, slice_set, Some, refl, sym, ap, ◌∙◌, subst, arith, length-set}
use Rattle.std.specs.Prelude.{slice_index}
use Rattle.std.proofs.lemmas.Bool.{cases_lt, cases_eq, cases_Bool, eq-eqb, eqb-true, ne_eqb}
use Rattle.std.specs.Prelude.{Result, Ok, Err, OnOk}
use Rattle.std.proofs.lemmas.List.{take_all, take-append-le}
use Rattle.std.proofs.lemmas.List.Folds.{list_any_at, Any-from_list_any}
use Rattle.std.proofs.lemmas.Option.{same_Some, none-some, slice_get_within, slice_get-get_or, get_or_from_slice_get}
use Rattle.graph_model.specs.Graph.{Graph}
use Rattle.graph_image.specs.declared.edge.Arc.{Arc}
use Rattle.graph_image.specs.Images.{Places, arcs_at, LeadsBy, IsImageOf}
use Rattle.graph_image.proofs.Lists.{get_pushed, get_last, get_push_cases, get_within}
use Rattle.kernel_bfs.specs.declared.levels.TheConstants.{UNREACHED}
use Rattle.kernel_bfs.specs.Levels.{LinkOut, AtEnd, FromListed, FromLevel, FromArc, Spreads, Advances, HasNoneAbove, IsFrontier, has_at, next_distance, IsRound}

-- what a write leaves where it wrote
pub get_written : {X : Type 0} (xs : List X) (i : ℕ) (old new : X) → slice_get xs i ≡ Some old → slice_get (slice_set xs i new) i ≡ Some new
get_written [] i old new is = absurd (none-some old is)
get_written (x ∷ xs) zero old new is = refl
get_written (x ∷ xs) (suc i) old new is = get_written xs i old new is

-- and elsewhere
pub get_unwritten : {X : Type 0} (xs : List X) (i j : ℕ) (new : X) → (j ≡ i → ⊥) → slice_get (slice_set xs i new) j ≡ slice_get xs j
get_unwritten [] i j new other = refl
get_unwritten (x ∷ xs) zero zero new other = absurd (other refl)
get_unwritten (x ∷ xs) zero (suc j) new other = refl
get_unwritten (x ∷ xs) (suc i) zero new other = refl
get_unwritten (x ∷ xs) (suc i) (suc j) new other = get_unwritten xs i j new (λ same. other (ap suc same))

-- at first nothing is reached
pub spread_none : (distance : ℕ) (old listed : List ℕ) → Spreads (λ p. ⊥) distance old listed old listed
spread_none distance old listed = record {
  count = refl;
  kept = λ p d at reached. at;
  fresh = λ p at. inl at;
  still = λ k p at. (k, at);
  only = λ k p at. inl (k, at);
  done = λ p target. absurd target;
}

-- the same targets in other words
pub spread_same : (A B : ℕ → Type 0) (distance : ℕ) (old listed new later : List ℕ) → ((p : ℕ) → A p → B p) → ((p : ℕ) → B p → A p) → Spreads A distance old listed new later → Spreads B distance old listed new later
spread_same A B distance old listed new later to from spread = record {
  count = spread.count;
  kept = spread.kept;
  fresh = λ p at. ⊎_elim (λ still. inl still) (λ fresh. inr (fresh.0, to p fresh.1, fresh.2, fresh.3)) (spread.fresh p at);
  still = spread.still;
  only = spread.only;
  done = λ p target. spread.done p (from p target);
}

-- what has no distance now had none
pub was_unreached : (A : ℕ → Type 0) (distance : ℕ) (old listed now next : List ℕ) → Spreads A distance old listed now next → (p : ℕ) → slice_get now p ≡ Some UNREACHED → slice_get old p ≡ Some UNREACHED
was_unreached A distance old listed now next spread p at =
    let within = slice_get_within now p UNREACHED at in
    let before = get_within old p (let count = spread.count in omega arith) in
    ⊎_elim (λ same. before.1 ∙ ap Some same) (λ other. absurd (other (same_Some before.0 UNREACHED (sym (spread.kept p before.0 before.1 other) ∙ at)))) (cases_eq before.0 UNREACHED)

module _ (A : ℕ → Type 0) (distance : ℕ) (walked : distance ≡ UNREACHED → ⊥) (old listed now next : List ℕ) (spread : Spreads A distance old listed now next) where
  module _ (t : ℕ) where
    -- one more target, that has no distance yet
    pub spread_reach : slice_get now t ≡ Some UNREACHED → Spreads (λ p. A p ⊎ (p ≡ t)) distance old listed (slice_set now t distance) (next ++ t ∷ [])
    spread_reach at_t = record {
      count = length-set now t distance ∙ spread.count;
      kept = λ p d at reached. get_unwritten now t p distance (λ same. reached (same_Some d UNREACHED (sym (spread.kept p d at reached) ∙ ap (slice_get now) same ∙ at_t))) ∙ spread.kept p d at reached;
      fresh = λ p at. ⊎_elim
          (λ same. inr (ap (slice_get (slice_set now t distance)) same ∙ get_written now t UNREACHED distance at_t, inr same, length next, get_last next t ∙ ap Some (sym same)))
          (λ other. ⊎_elim (λ still. inl (get_unwritten now t p distance other ∙ still)) (λ fresh. inr (get_unwritten now t p distance other ∙ fresh.0, inl fresh.1, fresh.2, get_pushed next t fresh.2 p fresh.3)) (spread.fresh p at))
          (cases_eq p t);
      still = λ k p at. (let there = spread.still k p at in (there.0, get_pushed next t there.0 p there.1));
      only = λ k p at. ⊎_elim
          (λ before. ⊎_elim (λ was. inl was) (λ fresh. inr (fresh.0, get_unwritten now t p distance (λ same. walked (same_Some distance UNREACHED (sym fresh.1 ∙ ap (slice_get now) same ∙ at_t))) ∙ fresh.1)) (spread.only k p before))
          (λ new. inr (ap (slice_get old) (sym new.1) ∙ was_unreached A distance old listed now next spread t at_t, ap (slice_get (slice_set now t distance)) (sym new.1) ∙ get_written now t UNREACHED distance at_t))
          (get_push_cases next t k p at);
      done = λ p target none. ⊎_elim
          (λ same. walked (same_Some distance UNREACHED (sym (ap (slice_get (slice_set now t distance)) same ∙ get_written now t UNREACHED distance at_t) ∙ none)))
          (λ other. ⊎_elim (λ before. spread.done p before (sym (get_unwritten now t p distance other) ∙ none)) (λ same. other same) target)
          (cases_eq p t);
    }

    -- one more that has one
    pub spread_again : (slice_get now t ≡ Some UNREACHED → ⊥) → Spreads (λ p. A p ⊎ (p ≡ t)) distance old listed now next
    spread_again reached = record {
      count = spread.count;
      kept = spread.kept;
      fresh = λ p at. ⊎_elim (λ still. inl still) (λ fresh. inr (fresh.0, inl fresh.1, fresh.2, fresh.3)) (spread.fresh p at);
      still = spread.still;
      only = spread.only;
      done = λ p target none. ⊎_elim (λ before. spread.done p before none) (λ same. reached (ap (slice_get now) (sym same) ∙ none)) target;
    }

  -- one after the other
  pub spread_on : (B : ℕ → Type 0) (new later : List ℕ) → Spreads B distance now next new later → Spreads (λ p. A p ⊎ B p) distance old listed new later
  spread_on B new later more = record {
    count = more.count ∙ spread.count;
    kept = λ p d at reached. more.kept p d (spread.kept p d at reached) reached;
    fresh = λ p at. ⊎_elim
        (λ still. ⊎_elim (λ none. inl none) (λ fresh. inr (fresh.0, inr fresh.1, fresh.2, fresh.3)) (more.fresh p still))
        (λ fresh. (let there = more.still fresh.2 p fresh.3 in inr (more.kept p distance fresh.0 walked, inl fresh.1, there.0, there.1)))
        (spread.fresh p at);
    still = λ k p at. (let there = spread.still k p at in more.still there.0 p there.1);
    only = λ k p at. ⊎_elim
        (λ before. ⊎_elim (λ was. inl was) (λ fresh. inr (fresh.0, more.kept p distance fresh.1 walked)) (spread.only before.0 p before.1))
        (λ fresh. inr (was_unreached A distance old listed now next spread p fresh.0, fresh.1))
        (more.only k p at);
    done = λ p target none. ⊎_elim
        (λ first. spread.done p first (was_unreached B distance now next new later more p none))
        (λ second. more.done p second none)
        target;
  }

-- ---- along a list of arcs

below_unless : (k i : ℕ) → k < i + 1 → (k ≡ i → ⊥) → k < i
below_unless k i below other = ⊎_elim (λ less. less) (λ rest. absurd (other (omega arith))) (cases_lt k i)

pub ends_none : (arcs : List Arc) (distance : ℕ) (old listed : List ℕ) → Spreads (AtEnd arcs 0) distance old listed old listed
ends_none arcs distance old listed = spread_same (λ p. ⊥) (AtEnd arcs 0) distance old listed old listed (λ p target. absurd target) (λ p target. (let none = target.2 in omega arith)) (spread_none distance old listed)

-- one arc more
ends_more : (arcs : List Arc) (i : ℕ) (a : Arc) → slice_get arcs i ≡ Some a → (p : ℕ) → (AtEnd arcs i p ⊎ (p ≡ a.other)) → AtEnd arcs (i + 1) p
ends_more arcs i a at p target = ⊎_elim
    (λ before. (let low = before.2 in (before.0, before.1, omega arith, before.3, before.4)))
    (λ same. (i, a, omega arith, at, sym same))
    target

ends_fewer : (arcs : List Arc) (i : ℕ) (a : Arc) → slice_get arcs i ≡ Some a → (p : ℕ) → AtEnd arcs (i + 1) p → AtEnd arcs i p ⊎ (p ≡ a.other)
ends_fewer arcs i a at p target = ⊎_elim
    (λ same. inr (sym target.4 ∙ ap (λ (x : Arc). x.other) (same_Some target.1 a (sym target.3 ∙ ap (slice_get arcs) same ∙ at))))
    (λ other. inl (target.0, target.1, (let low = target.2 in below_unless target.0 i (omega arith) other), target.3, target.4))
    (cases_eq target.0 i)

module _ (arcs : List Arc) (distance : ℕ) (walked : distance ≡ UNREACHED → ⊥) (old listed now next : List ℕ) (i : ℕ) (spread : Spreads (AtEnd arcs i) distance old listed now next) (a : Arc) (at : slice_get arcs i ≡ Some a) where
  pub ends_reach : slice_get now a.other ≡ Some UNREACHED → Spreads (AtEnd arcs (i + 1)) distance old listed (slice_set now a.other distance) (next ++ a.other ∷ [])
  ends_reach none = spread_same (λ p. AtEnd arcs i p ⊎ (p ≡ a.other)) (AtEnd arcs (i + 1)) distance old listed _ _ (ends_more arcs i a at) (ends_fewer arcs i a at) (spread_reach (AtEnd arcs i) distance walked old listed now next spread a.other none)

  pub ends_again : (slice_get now a.other ≡ Some UNREACHED → ⊥) → Spreads (AtEnd arcs (i + 1)) distance old listed now next
  ends_again reached = spread_same (λ p. AtEnd arcs i p ⊎ (p ≡ a.other)) (AtEnd arcs (i + 1)) distance old listed _ _ (ends_more arcs i a at) (ends_fewer arcs i a at) (spread_again (AtEnd arcs i) distance walked old listed now next spread a.other reached)

-- ---- along a frontier

pub listed_none : (image : Places) (frontier : List ℕ) (distance : ℕ) (old listed : List ℕ) → Spreads (FromListed image frontier 0) distance old listed old listed
listed_none image frontier distance old listed = spread_same (λ p. ⊥) (FromListed image frontier 0) distance old listed old listed (λ p target. absurd target) (λ p target. (let none = target.2 in omega arith)) (spread_none distance old listed)

-- past the arcs of one more place
pub listed_more : (image : Places) (frontier : List ℕ) (distance : ℕ) → (distance ≡ UNREACHED → ⊥) → (old listed now next : List ℕ) (i : ℕ) → Spreads (FromListed image frontier i) distance old listed now next
    → (q : ℕ) → slice_get frontier i ≡ Some q → (arcs : List Arc) → arcs ≡ arcs_at image.out q → (new later : List ℕ) → Spreads (AtEnd arcs (length arcs)) distance now next new later
    → Spreads (FromListed image frontier (i + 1)) distance old listed new later
listed_more image frontier distance walked old listed now next i spread q at arcs arcs_are new later more =
    spread_same (λ p. FromListed image frontier i p ⊎ AtEnd arcs (length arcs) p) (FromListed image frontier (i + 1)) distance old listed new later
    (λ p target. ⊎_elim
    (λ before. (let low = before.2 in (before.0, before.1, omega arith, before.3, before.4)))
    (λ end. (i, q, omega arith, at, (end.0, end.1, ap (λ xs. slice_get xs end.0) (sym arcs_are) ∙ end.3, end.4)))
    target)
    (λ p target. ⊎_elim
    (λ same.
    let place : target.1 ≡ q = same_Some target.1 q (sym target.3 ∙ ap (slice_get frontier) same ∙ at) in
    let link = subst (λ x. LinkOut image x p) place target.4 in
    let there : slice_get arcs link.0 ≡ Some link.1 = ap (λ xs. slice_get xs link.0) arcs_are ∙ link.2 in
    inr (link.0, link.1, slice_get_within arcs link.0 link.1 there, there, link.3))
    (λ other. inl (target.0, target.1, (let low = target.2 in below_unless target.0 i (omega arith) other), target.3, target.4))
    (cases_eq target.0 i))
    (spread_on (FromListed image frontier i) distance walked old listed now next spread (AtEnd arcs (length arcs)) new later more)

-- ---- all places at once

-- one at the level is found, and what is found is there
at_there : (distances : List ℕ) (level : ℕ) (arcs : List Arc) (k : ℕ) (a : Arc) → slice_get arcs k ≡ Some a → slice_get distances a.other ≡ Some level → has_at distances level arcs ≡ true
at_there distances level arcs k a at at_level =
    list_any_at (λ (x : Arc). slice_index distances x.other == level) arcs k a (slice_get_within arcs k a at)
    (ap (λ (x : Arc). slice_index distances x.other == level) (same_Some _ a (sym (slice_get-get_or arcs k a (slice_get_within arcs k a at)) ∙ at)) ∙ eq-eqb _ level (get_or_from_slice_get distances a.other level 0 at_level))

there_at : (distances : List ℕ) (level : ℕ) (arcs : List Arc) → ((i : ℕ) (a : Arc) → slice_get arcs i ≡ Some a → a.other < length distances) → has_at distances level arcs ≡ true
    → (k : ℕ) × (a : Arc) × (slice_get arcs k ≡ Some a) × (slice_get distances a.other ≡ Some level)
there_at distances level arcs within found =
    let there = Any-from_list_any (λ (x : Arc). slice_index distances x.other == level) arcs found in
    let at = slice_get-get_or arcs there.0 there.1 there.2 ∙ ap Some there.3 in
    (there.0, there.1, at, slice_get-get_or distances there.1.other 0 (within there.0 there.1 at) ∙ ap Some (eqb-true _ level there.4))

-- what has not been looked at up to a place isn't listed; what has this distance is
pub record IsCollected (distance : ℕ) (new : List ℕ) (n : ℕ) (later : List ℕ) : Type 0 where
  pub only : (k p : ℕ) → slice_get later k ≡ Some p → slice_get new p ≡ Some distance
  pub all : (p : ℕ) → p < n → slice_get new p ≡ Some distance → (k : ℕ) × (slice_get later k ≡ Some p)

pub collected_none : (distance : ℕ) (new : List ℕ) → IsCollected distance new 0 []
collected_none distance new = record { only = λ k p at. absurd (none-some p at); all = λ p below at. absurd (omega arith) }

pub collected_more : (distance : ℕ) (new : List ℕ) (n : ℕ) (later : List ℕ) → IsCollected distance new n later → slice_get new n ≡ Some distance → IsCollected distance new (n + 1) (later ++ n ∷ [])
collected_more distance new n later are at_n = record {
  only = λ k p at. ⊎_elim (λ old. are.only k p old) (λ same. ap (slice_get new) (sym same.1) ∙ at_n) (get_push_cases later n k p at);
  all = λ p below at. ⊎_elim (λ same. (length later, get_last later n ∙ ap Some (sym same))) (λ other. (let there = are.all p (below_unless p n below other) at in (there.0, get_pushed later n there.0 p there.1))) (cases_eq p n);
}

pub collected_same : (distance : ℕ) (new : List ℕ) (n : ℕ) (later : List ℕ) → IsCollected distance new n later → (slice_get new n ≡ Some distance → ⊥) → IsCollected distance new (n + 1) later
collected_same distance new n later are other_n = record {
  only = are.only;
  all = λ p below at. ⊎_elim (λ same. absurd (other_n (ap (slice_get new) (sym same) ∙ at))) (λ other. are.all p (below_unless p n below other) at) (cases_eq p n);
}

module _ (image : Places) (within : (p : ℕ) → p < length image.vertices → (i : ℕ) (a : Arc) → slice_get (arcs_at image.into p) i ≡ Some a → a.other < length image.vertices)
    (level : ℕ) (small : level + 1 < UNREACHED) (old new : List ℕ) (count : length old ≡ length image.vertices) (low : HasNoneAbove level old) (round : IsRound image level old new) where
  -- what a place has after the round, by what it had
  after : (p d : ℕ) → slice_get old p ≡ Some d → slice_get new p ≡ Some (next_distance image old level p)
  after p d at =
      let below = slice_get_within old p d at in
      slice_get-get_or new p 0 (let same = round.count in omega arith) ∙ ap Some (round.each p below)

  after_reached : (p d : ℕ) → slice_get old p ≡ Some d → (d ≡ UNREACHED → ⊥) → slice_get new p ≡ Some d
  after_reached p d at reached =
      let read : slice_index old p ≡ d = get_or_from_slice_get old p d 0 at in
      after p d at ∙ ap (λ b. Some (cond b (cond (has_at old level (arcs_at image.into p)) (level + 1) UNREACHED) (slice_index old p))) (ne_eqb (slice_index old p) UNREACHED (λ same. reached (sym read ∙ same))) ∙ ap Some read

  after_unreached : (p : ℕ) (b : Bool) → slice_get old p ≡ Some UNREACHED → has_at old level (arcs_at image.into p) ≡ b → slice_get new p ≡ Some (cond b (level + 1) UNREACHED)
  after_unreached p b at has =
      let read : slice_index old p ≡ UNREACHED = get_or_from_slice_get old p UNREACHED 0 at in
      after p UNREACHED at ∙ ap (λ t. Some (cond t (cond (has_at old level (arcs_at image.into p)) (level + 1) UNREACHED) (slice_index old p))) (eq-eqb (slice_index old p) UNREACHED read) ∙ ap (λ t. Some (cond t (level + 1) UNREACHED)) has

  -- a round over all places reaches what one along the arcs does
  pub round_spreads : (later : List ℕ) (n : ℕ) → length old ≤ n → IsCollected (level + 1) new n later → Spreads (FromLevel image old level) (level + 1) old [] new later
  round_spreads later n whole collected = record {
    count = round.count;
    kept = after_reached;
    fresh = λ p at. (let below = slice_get_within old p UNREACHED at in ⊎_elim
        (λ has.
        let now = after_unreached p true at has in
        let there = there_at old level (arcs_at image.into p) (λ i a at_i. (let in_range = within p (omega arith) i a at_i in omega arith)) has in
        let listed = collected.all p (omega arith) now in
        inr (now, (omega arith, (there.1.other, there.3, (there.0, there.1, there.2, refl))), listed.0, listed.1))
        (λ none. inl (after_unreached p false at none))
        (cases_Bool (has_at old level (arcs_at image.into p))));
    still = λ k p at. absurd (none-some p at);
    only = λ k p at. (let now = collected.only k p at in
        let below = slice_get_within new p (level + 1) now in
        let before = get_within old p (let same = round.count in omega arith) in
        inr (
          ⊎_elim
              (λ same. before.1 ∙ ap Some same)
              (λ reached. absurd (let bound = low p before.0 before.1 reached in let same = same_Some before.0 (level + 1) (sym (after_reached p before.0 before.1 reached) ∙ now) in omega arith))
              (cases_eq before.0 UNREACHED),
          now,
        ));
    done = λ p target none.
        let below = slice_get_within new p UNREACHED none in
        let before = get_within old p (let same = round.count in omega arith) in
        ⊎_elim
        (λ same.
        let link = target.1.2 in
        let has = at_there old level (arcs_at image.into p) link.0 link.1 link.2 (ap (slice_get old) link.3 ∙ target.1.1) in
        let now = same_Some (level + 1) UNREACHED (sym (after_unreached p true (before.1 ∙ ap Some same) has) ∙ none) in omega arith)
        (λ reached. reached (same_Some before.0 UNREACHED (sym (after_reached p before.0 before.1 reached) ∙ none)))
        (cases_eq before.0 UNREACHED);
  }

-- ---- the same for a graph

module _ (image : Places) (g : Graph) (is : IsImageOf image g) (level : ℕ) (old new later : List ℕ) (count : length old ≡ length image.vertices) where
  pub by_frontier : (frontier : List ℕ) → IsFrontier level old frontier → Spreads (FromListed image frontier (length frontier)) (level + 1) old [] new later → Spreads (FromArc g image.vertices old level) (level + 1) old [] new later
  by_frontier frontier front = spread_same (FromListed image frontier (length frontier)) (FromArc g image.vertices old level) (level + 1) old [] new later
      (λ p target.
      let at = front.sound target.0 target.1 target.3 in
      let below = slice_get_within old target.1 level at in
      let link = target.4 in
      let leads = (is.out target.1 (omega arith)).sound link.0 link.1 link.2 in
      (target.1, at, (link.1.weight, subst (λ x. LeadsBy g image.vertices target.1 x link.1.weight) link.3 leads)))
      (λ p target.
      let listed = front.complete target.0 target.1 in
      let below = slice_get_within old target.0 level target.1 in
      let there = (is.out target.0 (omega arith)).complete p target.2.0 target.2.1 in
      (listed.0, target.0, slice_get_within frontier listed.0 target.0 listed.1, listed.1, (there.0, record { other = p; weight = target.2.0 }, there.1, refl)))

  pub by_level : Spreads (FromLevel image old level) (level + 1) old [] new later → Spreads (FromArc g image.vertices old level) (level + 1) old [] new later
  by_level = spread_same (FromLevel image old level) (FromArc g image.vertices old level) (level + 1) old [] new later
      (λ p target.
      let link = target.1.2 in
      let leads = (is.into p target.0).sound link.0 link.1 link.2 in
      (target.1.0, target.1.1, (link.1.weight, subst (λ x. LeadsBy g image.vertices x p link.1.weight) link.3 leads)))
      (λ p target.
      let below = slice_get_within image.vertices p target.2.1.to target.2.1.to_at in
      let there = (is.into p below).complete target.0 target.2.0 target.2.1 in
      (below, (target.0, target.1, (there.0, record { other = target.0; weight = target.2.0 }, there.1, refl))))

-- at equal lists
pub spread_at : (T : ℕ → Type 0) (distance : ℕ) (old listed new later new_same later_same : List ℕ) → new_same ≡ new → later_same ≡ later → Spreads T distance old listed new later → Spreads T distance old listed new_same later_same
spread_at T distance old listed new later new_same later_same new_is later_is spread = subst (λ ds. Spreads T distance old listed ds later_same) (sym new_is) (subst (λ ns. Spreads T distance old listed new ns) (sym later_is) spread)

-- what follows from what a call ensures where it succeeds
pub on_ok : {A E : Type 0} (r : Result A E) (P Q : Type 0) → (P → Q) → OnOk r P → OnOk r Q
on_ok (Ok x) P Q to p = to p
on_ok (Err e) P Q to p = tt

-- what is written back over a whole list
pub whole_write : (n : ℕ) (new old : List ℕ) → length new ≡ n → take n (new ++ old) ≡ new
whole_write n new old count = take-append-le n new old (omega arith) ∙ take_all n new (omega arith)

-- what it does to distances
pub advances_of : (T : ℕ → Type 0) (distance : ℕ) (old new later : List ℕ) → Spreads T distance old [] new later → Advances distance old new later
advances_of T distance old new later spread = record {
  count = spread.count;
  kept = spread.kept;
  fresh = λ p at. ⊎_elim (λ still. inl still) (λ fresh. inr (fresh.0, fresh.2, fresh.3)) (spread.fresh p at);
  only = λ k p at. ⊎_elim (λ none. absurd (none-some p none.1)) (λ fresh. fresh) (spread.only k p at);
}
