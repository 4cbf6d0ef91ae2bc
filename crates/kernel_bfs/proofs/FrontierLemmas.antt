-- The places at a level, and what a round leaves of them.
use Rattle.std.proofs.Common.{◌≡◌, ℕ, zero, suc, ◌+◌, ◌<◌, ◌≤◌, inl, inr, ⊎_elim, ◌/◌, List, [], ◌∷◌, Bool, true, false, cond, ◌==◌, length, count_by, slice_get, Some, refl, sym, ap, ◌∙◌, arith}
use Rattle.std.proofs.lemmas.Bool.{cases_eq, eq-eqb, eqb-true, ne_eqb}
use Rattle.std.proofs.lemmas.List.Sums.{sum_by-cons}
use Rattle.std.proofs.lemmas.Option.{same_Some, none-some, slice_get_within}
use Rattle.graph_image.proofs.Lists.{get_within}
use Rattle.kernel_bfs.specs.declared.levels.TheConstants.{UNREACHED}
use Rattle.kernel_bfs.specs.Levels.{Spreads, HasNoneAbove, IsFrontier}
use Rattle.kernel_bfs.proofs.LevelLemmas.{IsOnLevel}
use Rattle.kernel_bfs.proofs.SpreadLemmas.{IsCollected}
use Rattle.kernel_bfs.specs.declared.frontier.Frontier.{Frontier}
use Rattle.kernel_bfs.specs.Frontiers.{places_from, places_at, IsAtLevel}

-- ---- the places at a level

-- where the first is at the level, and where not
from_yes : (level base d : ℕ) (distances : List ℕ) → d ≡ level → places_from level base (d ∷ distances) ≡ base ∷ places_from level (suc base) distances
from_yes level base d distances same = ap (λ b. cond b (base ∷ places_from level (suc base) distances) (places_from level (suc base) distances)) (eq-eqb d level same)

from_no : (level base d : ℕ) (distances : List ℕ) → (d ≡ level → ⊥) → places_from level base (d ∷ distances) ≡ places_from level (suc base) distances
from_no level base d distances other = ap (λ b. cond b (base ∷ places_from level (suc base) distances) (places_from level (suc base) distances)) (ne_eqb d level other)

-- each that is listed is at the level
abbrev IsThere : ℕ → ℕ → List ℕ → ℕ → Type 0
IsThere level base distances p = (i : ℕ) × (p ≡ base + i) × (slice_get distances i ≡ Some level)

there_later : (level base d : ℕ) (distances : List ℕ) (p : ℕ) → IsThere level (suc base) distances p → IsThere level base (d ∷ distances) p
there_later level base d distances p there = (let place = there.1 in (suc there.0, omega arith, there.2))

there_first : (level base d : ℕ) (distances : List ℕ) → ((k p : ℕ) → slice_get (places_from level (suc base) distances) k ≡ Some p → IsThere level (suc base) distances p) → d ≡ level → (k p : ℕ) → slice_get (base ∷ places_from level (suc base) distances) k ≡ Some p → IsThere level base (d ∷ distances) p
there_first level base d distances rest same zero p at = (let place = same_Some base p at in (0, omega arith, ap Some same))
there_first level base d distances rest same (suc k) p at = there_later level base d distances p (rest k p at)

from_sound : (level base : ℕ) (distances : List ℕ) (k p : ℕ) → slice_get (places_from level base distances) k ≡ Some p → IsThere level base distances p
from_sound level base [] k p at = absurd (none-some p at)
from_sound level base (d ∷ distances) k p at =
    let rest : (j q : ℕ) → slice_get (places_from level (suc base) distances) j ≡ Some q → IsThere level (suc base) distances q = λ j q. from_sound level (suc base) distances j q in
    ⊎_elim
    (λ same. there_first level base d distances rest same k p (ap (λ xs. slice_get xs k) (sym (from_yes level base d distances same)) ∙ at))
    (λ other. there_later level base d distances p (rest k p (ap (λ xs. slice_get xs k) (sym (from_no level base d distances other)) ∙ at)))
    (cases_eq d level)

-- and each at the level is listed
from_complete : (level base : ℕ) (distances : List ℕ) (i : ℕ) → slice_get distances i ≡ Some level → (k : ℕ) × (slice_get (places_from level base distances) k ≡ Some (base + i))
from_complete level base [] i at = absurd (none-some level at)
from_complete level base (d ∷ distances) zero at = (
  0,
  ap (λ xs. slice_get xs 0) (from_yes level base d distances (same_Some d level at)) ∙ ap Some (let e : base ≡ base + 0 = omega arith in e),
)
from_complete level base (d ∷ distances) (suc i) at =
    let there = from_complete level (suc base) distances i at in
    let place : Some (suc base + i) ≡ Some (base + suc i) = ap Some (let e : suc base + i ≡ base + suc i = omega arith in e) in
    ⊎_elim
    (λ same. (suc there.0, ap (λ xs. slice_get xs (suc there.0)) (from_yes level base d distances same) ∙ there.1 ∙ place))
    (λ other. (there.0, ap (λ xs. slice_get xs there.0) (from_no level base d distances other) ∙ there.1 ∙ place))
    (cases_eq d level)

-- so they are the frontier of the level
pub front_at : (level : ℕ) (distances : List ℕ) → IsFrontier level distances (places_at level distances)
front_at level distances = record {
  sound = λ k p at. (let there = from_sound level 0 distances k p at in
      let place : there.0 ≡ p = (let same = there.1 in omega arith) in
      ap (slice_get distances) (sym place) ∙ there.2);
  complete = λ p at. (let there = from_complete level 0 distances p at in (there.0, there.1 ∙ ap Some (let e : 0 + p ≡ p = omega arith in e)));
}

-- and as many as there are distances of that level
pub count_from : (level base : ℕ) (distances : List ℕ) → length (places_from level base distances) ≡ count_by (λ d. d == level) distances
count_from level base [] = refl
count_from level base (d ∷ distances) =
    let rest = count_from level (suc base) distances in
    let all = sum_by-cons (λ x. cond (x == level) 1 0) d distances in
    ⊎_elim
    (λ same. let here : ◌≡◌ {A = ℕ} (cond (d == level) 1 0) 1 = ap (λ (b : Bool). cond {A = ℕ} b 1 0) (eq-eqb d level same) in let longer = ap length (from_yes level base d distances same) in omega arith)
    (λ other. let here : ◌≡◌ {A = ℕ} (cond (d == level) 1 0) 0 = ap (λ (b : Bool). cond {A = ℕ} b 1 0) (ne_eqb d level other) in let same = ap length (from_no level base d distances other) in omega arith)
    (cases_eq d level)

-- ---- frontiers of one level

-- what is collected over all places is the frontier
pub collected_front : (level : ℕ) (distances listed : List ℕ) (n : ℕ) → length distances ≤ n → IsCollected level distances n listed → IsFrontier level distances listed
collected_front level distances listed n whole is = record {
  sound = is.only;
  complete = λ p at. is.all p (let below = slice_get_within distances p level at in omega arith) at;
}

-- and the frontier is what would be collected
pub front_collected : (level : ℕ) (distances : List ℕ) → IsCollected level distances (length distances) (places_at level distances)
front_collected level distances = (let front = front_at level distances in record { only = front.sound; all = λ p below at. front.complete p at })

-- two lists of one frontier are empty together
pub same_empty : (level : ℕ) (distances one other : List ℕ) → IsFrontier level distances one → IsFrontier level distances other → one ≡ [] → other ≡ []
same_empty level distances one [] front_one front_other none = refl
same_empty level distances one (p ∷ other) front_one front_other none =
    let there = front_one.complete p (front_other.sound 0 p refl) in
    absurd (none-some p (ap (λ xs. slice_get xs there.0) (sym none) ∙ there.1))

no_length : (xs : List ℕ) → length xs ≡ 0 → xs ≡ []
no_length [] none = refl
no_length (x ∷ xs) none = absurd (omega arith)

-- a frontier that is counted, and listed if need be
pub counted_level : (places level : ℕ) (distances : List ℕ) (frontier : Frontier) → frontier.count ≡ length (places_at level distances) → (frontier.count ≤ places / 20 → IsFrontier level distances frontier.places.items) → IsAtLevel places level distances frontier
counted_level places level distances frontier count listed = record {
  listed = listed;
  none = λ zero_is. no_length _ (sym count ∙ zero_is);
  some = λ empty. count ∙ ap length empty;
}

-- a frontier that is listed
pub listed_level : (places level : ℕ) (distances : List ℕ) (frontier : Frontier) → frontier.count ≡ length frontier.places.items → IsFrontier level distances frontier.places.items → IsAtLevel places level distances frontier
listed_level places level distances frontier count front = record {
  listed = λ few. front;
  none = λ zero_is. same_empty level distances frontier.places.items (places_at level distances) front (front_at level distances) (no_length _ (sym count ∙ zero_is));
  some = λ empty. count ∙ ap length (same_empty level distances (places_at level distances) frontier.places.items (front_at level distances) front empty);
}

-- a frontier is told to be empty just where it is
pub told_none : (places level : ℕ) (distances : List ℕ) (frontier : Frontier) → IsAtLevel places level distances frontier → (frontier.count == 0) ≡ true → places_at level distances ≡ []
told_none places level distances frontier at told = at.none (eqb-true frontier.count 0 told)

pub told_some : (places level : ℕ) (distances : List ℕ) (frontier : Frontier) → IsAtLevel places level distances frontier → (frontier.count == 0) ≡ false → places_at level distances ≡ [] → ⊥
told_some places level distances frontier at told empty =
    let yes = eq-eqb frontier.count 0 (at.some empty) in
    let both : true ≡ false = sym yes ∙ told in cc

-- ---- what a round reaches

module _ (T : ℕ → Type 0) (level : ℕ) (small : level + 1 < UNREACHED) (old new listed : List ℕ) (low : HasNoneAbove level old) (spread : Spreads T (level + 1) old [] new listed) where
  -- the places that a round lists are those at its level
  pub spread_front : IsFrontier (level + 1) new listed
  spread_front = record {
    sound = λ k p at. ⊎_elim (λ none. absurd (none-some p none.1)) (λ fresh. fresh.1) (spread.only k p at);
    complete = λ p at.
        let within = slice_get_within new p (level + 1) at in
        let before = get_within old p (let count = spread.count in omega arith) in
        ⊎_elim
        (λ none. ⊎_elim
        (λ still. absurd (let same = same_Some (level + 1) UNREACHED (sym at ∙ still) in omega arith))
        (λ fresh. (fresh.2, fresh.3))
        (spread.fresh p (before.1 ∙ ap Some none)))
        (λ reached. absurd (let bound = low p before.0 before.1 reached in let same = same_Some before.0 (level + 1) (sym (spread.kept p before.0 before.1 reached) ∙ at) in omega arith))
        (cases_eq before.0 UNREACHED);
  }

  -- so they may as well be listed in rising order
  pub spread_rising : Spreads T (level + 1) old [] new (places_at (level + 1) new)
  spread_rising =
      let front = front_at (level + 1) new in record {
        count = spread.count;
        kept = spread.kept;
        fresh = λ p at. ⊎_elim (λ still. inl still) (λ fresh. (let there = front.complete p fresh.0 in inr (fresh.0, fresh.1, there.0, there.1))) (spread.fresh p at);
        still = λ k p at. absurd (none-some p at);
        only = λ k p at. (let there = spread_front.complete p (front.sound k p at) in spread.only there.0 p there.1);
        done = spread.done;
      }

-- a level's places, listed in another order
pub level_rising : (n level : ℕ) (distances frontier : List ℕ) → IsOnLevel n level distances frontier → IsOnLevel n level distances (places_at level distances)
level_rising n level distances frontier on = record { count = on.count; low = on.low; front = front_at level distances; left = on.left }
