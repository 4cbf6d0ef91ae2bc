-- What holds from level to level, and what the last one gives.
use Rattle.std.proofs.Common.{◌≡◌, ℕ, zero, suc, ◌+◌, ◌<◌, ◌≤◌, ◌⊎◌, inl, inr, ⊎_elim, List, [], ◌∷◌, Bool, true, false, cond, ◌==◌, length, replicate, slice_get, slice_set, count_by, Some, refl, sym, ap, ◌∙◌, subst, arith, length-set}
use Rattle.std.proofs.lemmas.Bool.{cases_lt, cases_eq, eq-eqb, ne_eqb}
use Rattle.std.proofs.lemmas.List.{length-replicate, get_or-replicate}
use Rattle.std.proofs.lemmas.List.Sums.{sum_by-cons, count_by-le-length}
use Rattle.std.proofs.lemmas.Option.{same_Some, none-some, slice_get_within, slice_get-get_or}
use Rattle.graph_model.specs.Graph.{Graph}
use Rattle.graph_image.specs.Images.{Leads}
use Rattle.graph_image.specs.Paths.{HasPath}
use Rattle.graph_image.proofs.Lists.{get_within}
use Rattle.kernel_bfs.specs.declared.levels.TheConstants.{UNREACHED}
use Rattle.kernel_bfs.specs.Levels.{Spreads, Advances, HasNoneAbove, IsFrontier, IsSearched}
use Rattle.kernel_bfs.proofs.SpreadLemmas.{get_written, get_unwritten, advances_of}

-- how many places have no distance
abbrev pub unreached_in : List ℕ → ℕ
unreached_in distances = count_by (λ d. d == UNREACHED) distances

-- What holds of the level and the distances at the start of a round, whatever the graph: at least one
-- place more than the level is reached.
pub record IsOnLevel (n level : ℕ) (distances frontier : List ℕ) : Type 0 where
  pub count : length distances ≡ n
  pub low : HasNoneAbove level distances
  pub front : IsFrontier level distances frontier
  pub left : level + unreached_in distances < n

-- and by its links: a distance is the length of a path, and no path of at most the level is shorter
pub record IsRight (Link : ℕ → ℕ → Type 0) (root level : ℕ) (distances : List ℕ) : Type 0 where
  pub sound : (p d : ℕ) → slice_get distances p ≡ Some d → (d ≡ UNREACHED → ⊥) → HasPath Link root d p
  pub complete : (m p : ℕ) → m ≤ level → HasPath Link root m p → (d : ℕ) × (slice_get distances p ≡ Some d) × (d ≤ m)

-- a test counts at most one
one_at_most : (b : Bool) → cond {A = ℕ} b 1 0 ≤ 1
one_at_most true = omega arith
one_at_most false = omega arith

-- a list that isn't empty has a first
first_of : (xs : List ℕ) → (xs ≡ [] → ⊥) → (x : ℕ) × (slice_get xs 0 ≡ Some x)
first_of [] some = absurd (some refl)
first_of (x ∷ xs) some = (x, refl)

-- where what was reached stays, no more places are unreached
no_more_left : (old new : List ℕ) → length new ≡ length old → ((p d : ℕ) → slice_get old p ≡ Some d → (d ≡ UNREACHED → ⊥) → slice_get new p ≡ Some d) → unreached_in new ≤ unreached_in old
no_more_left [] [] count kept = omega arith
no_more_left [] (y ∷ new) count kept = absurd (omega arith)
no_more_left (x ∷ old) [] count kept = absurd (omega arith)
no_more_left (x ∷ old) (y ∷ new) count kept =
    let rest = no_more_left old new (omega arith) (λ p d. kept (suc p) d) in
    let olds = sum_by-cons (λ d. cond (d == UNREACHED) 1 0) x old in
    let news = sum_by-cons (λ d. cond (d == UNREACHED) 1 0) y new in
    ⊎_elim
    (λ none. let here : ◌≡◌ {A = ℕ} (cond (x == UNREACHED) 1 0) 1 = ap (λ (b : Bool). cond {A = ℕ} b 1 0) (eq-eqb x UNREACHED none) in let bound = one_at_most (y == UNREACHED) in omega arith)
    (λ reached. let same : y ≡ x = same_Some y x (kept 0 x refl reached) in let equal : ◌≡◌ {A = ℕ} (cond (y == UNREACHED) 1 0) (cond (x == UNREACHED) 1 0) = ap (λ (z : ℕ). cond {A = ℕ} (z == UNREACHED) 1 0) same in omega arith)
    (cases_eq x UNREACHED)

-- and fewer where one is reached
pub fewer_left : (old new : List ℕ) → length new ≡ length old → ((p d : ℕ) → slice_get old p ≡ Some d → (d ≡ UNREACHED → ⊥) → slice_get new p ≡ Some d) → (p e : ℕ) → slice_get old p ≡ Some UNREACHED → slice_get new p ≡ Some e
    → (e ≡ UNREACHED → ⊥) → unreached_in new < unreached_in old
fewer_left [] new count kept p e none now reached = absurd (none-some UNREACHED none)
fewer_left (x ∷ old) [] count kept p e none now reached = absurd (none-some e now)
fewer_left (x ∷ old) (y ∷ new) count kept zero e none now reached =
    let rest = no_more_left old new (omega arith) (λ p d. kept (suc p) d) in
    let olds = sum_by-cons (λ d. cond (d == UNREACHED) 1 0) x old in
    let news = sum_by-cons (λ d. cond (d == UNREACHED) 1 0) y new in
    let before : ◌≡◌ {A = ℕ} (cond (x == UNREACHED) 1 0) 1 = ap (λ (b : Bool). cond {A = ℕ} b 1 0) (eq-eqb x UNREACHED (same_Some x UNREACHED none)) in
    let after : ◌≡◌ {A = ℕ} (cond (y == UNREACHED) 1 0) 0 = ap (λ (b : Bool). cond {A = ℕ} b 1 0) (ne_eqb y UNREACHED (λ same. reached (sym (same_Some y e now) ∙ same))) in
    omega arith
fewer_left (x ∷ old) (y ∷ new) count kept (suc p) e none now reached =
    let rest = fewer_left old new (omega arith) (λ q d. kept (suc q) d) p e none now reached in
    let olds = sum_by-cons (λ d. cond (d == UNREACHED) 1 0) x old in
    let news = sum_by-cons (λ d. cond (d == UNREACHED) 1 0) y new in
    ⊎_elim
    (λ was. let here : ◌≡◌ {A = ℕ} (cond (x == UNREACHED) 1 0) 1 = ap (λ (b : Bool). cond {A = ℕ} b 1 0) (eq-eqb x UNREACHED was) in let bound = one_at_most (y == UNREACHED) in omega arith)
    (λ stays. let same : y ≡ x = same_Some y x (kept 0 x refl stays) in let equal : ◌≡◌ {A = ℕ} (cond (y == UNREACHED) 1 0) (cond (x == UNREACHED) 1 0) = ap (λ (z : ℕ). cond {A = ℕ} (z == UNREACHED) 1 0) same in omega arith)
    (cases_eq x UNREACHED)

-- a place without a distance is counted
some_left : (distances : List ℕ) (p : ℕ) → slice_get distances p ≡ Some UNREACHED → 0 < unreached_in distances
some_left [] p at = absurd (none-some UNREACHED at)
some_left (x ∷ xs) zero at =
    let all = sum_by-cons (λ d. cond (d == UNREACHED) 1 0) x xs in
    let here : ◌≡◌ {A = ℕ} (cond (x == UNREACHED) 1 0) 1 = ap (λ (b : Bool). cond {A = ℕ} b 1 0) (eq-eqb x UNREACHED (same_Some x UNREACHED at)) in
    omega arith
some_left (x ∷ xs) (suc p) at =
    let all = sum_by-cons (λ d. cond (d == UNREACHED) 1 0) x xs in
    let rest = some_left xs p at in
    omega arith

-- ---- from one level to the next

module _ (n level : ℕ) (small : level + 1 < UNREACHED) (old frontier : List ℕ) (on : IsOnLevel n level old frontier) (new later : List ℕ) (advance : Advances (level + 1) old new later) where
  walked : level + 1 ≡ UNREACHED → ⊥
  walked same = omega arith

  -- what has a distance now had it, or has the next one
  now_cases : (p d : ℕ) → slice_get new p ≡ Some d → (d ≡ UNREACHED → ⊥) → (slice_get old p ≡ Some d) ⊎ ((slice_get old p ≡ Some UNREACHED) × (d ≡ level + 1))
  now_cases p d at reached =
      let within = slice_get_within new p d at in
      let before = get_within old p (let count = advance.count in omega arith) in
      ⊎_elim
      (λ none.
      let was = before.1 ∙ ap Some none in
      ⊎_elim (λ still. absurd (reached (same_Some d UNREACHED (sym at ∙ still)))) (λ fresh. inr (was, same_Some d (level + 1) (sym at ∙ fresh.0))) (advance.fresh p was))
      (λ stays. inl (before.1 ∙ ap Some (same_Some before.0 d (sym (advance.kept p before.0 before.1 stays) ∙ at))))
      (cases_eq before.0 UNREACHED)

  pub next_low : HasNoneAbove (level + 1) new
  next_low p d at reached = ⊎_elim (λ was. let bound = on.low p d was reached in omega arith) (λ fresh. let same = fresh.1 in omega arith) (now_cases p d at reached)

  pub next_front : IsFrontier (level + 1) new later
  next_front = record {
    sound = λ k p at. (advance.only k p at).1;
    complete = λ p at. ⊎_elim
        (λ was. absurd (let bound = on.low p (level + 1) was walked in omega arith))
        (λ fresh. ⊎_elim (λ still. absurd (walked (same_Some (level + 1) UNREACHED (sym at ∙ still)))) (λ there. (there.1, there.2)) (advance.fresh p fresh.0))
        (now_cases p (level + 1) at walked);
  }

  -- a round that reaches a place ends on the next level
  pub next_on : (later ≡ [] → ⊥) → IsOnLevel n (level + 1) new later
  next_on some = record {
    count = advance.count ∙ on.count;
    low = next_low;
    front = next_front;
    left = (let there = first_of later some in
        let fresh = advance.only 0 there.0 there.1 in
        let less = fewer_left old new advance.count advance.kept there.0 (level + 1) fresh.0 fresh.1 walked in
        let left = on.left in omega arith);
  }

module _ (Link : ℕ → ℕ → Type 0) (root n level : ℕ) (small : level + 1 < UNREACHED) (old frontier : List ℕ) (on : IsOnLevel n level old frontier) (right : IsRight Link root level old)
    (new later : List ℕ) (spread : Spreads (λ p. (q : ℕ) × (slice_get old q ≡ Some level) × Link q p) (level + 1) old [] new later) (within : (q p : ℕ) → Link q p → p < n) where
  advance : Advances (level + 1) old new later
  advance = advances_of (λ p. (q : ℕ) × (slice_get old q ≡ Some level) × Link q p) (level + 1) old new later spread

  level_walked : (d : ℕ) → d ≤ level → d ≡ UNREACHED → ⊥
  level_walked d le same = omega arith

  -- a link from a reached place leads to one that is reached now, no further
  one_further : (m c p : ℕ) → m ≤ level → HasPath Link root m c → Link c p → (d : ℕ) × (slice_get new p ≡ Some d) × (d ≤ m + 1)
  one_further m c p le path link =
      let there = right.complete m c le path in
      let found = there.0 in
      let bound = there.2 in
      let sound = right.sound c found there.1 (level_walked found (omega arith)) in
      ⊎_elim
      (λ lower.
      let further = right.complete (suc found) p (omega arith) (c, sound, link) in
      let far = further.2 in
      (further.0, spread.kept p further.0 further.1 (level_walked further.0 (omega arith)), omega arith))
      (λ higher.
      let same : found ≡ level = omega arith in
      let now = get_within new p (let count = spread.count in let whole = on.count in let inside = within c p link in omega arith) in
      let reached : now.0 ≡ UNREACHED → ⊥ = λ none. spread.done p (c, there.1 ∙ ap Some same, link) (now.1 ∙ ap Some none) in
      let far = next_low n level small old frontier on new later advance p now.0 now.1 reached in
      (now.0, now.1, omega arith))
      (cases_lt found level)

  -- so paths of one more link are as they should be
  next_complete : (m p : ℕ) → m ≤ level + 1 → HasPath Link root m p → (d : ℕ) × (slice_get new p ≡ Some d) × (d ≤ m)
  next_complete zero p le path = (let there = right.complete 0 p (omega arith) path in let bound = there.2 in (there.0, spread.kept p there.0 there.1 (level_walked there.0 (omega arith)), bound))
  next_complete (suc m) p le path = (let there = one_further m path.0 p (omega arith) path.1 path.2 in let bound = there.2 in (there.0, there.1, omega arith))

  pub next_right : IsRight Link root (level + 1) new
  next_right = record {
    sound = λ p d at reached. ⊎_elim
        (λ was. right.sound p d was reached)
        (λ fresh. ⊎_elim
        (λ still. absurd (reached (same_Some d UNREACHED (sym at ∙ still))))
        (λ there. subst (λ k. HasPath Link root k p) (sym (fresh.1 ∙ (let e : level + 1 ≡ suc level = omega arith in e))) (there.1.0, right.sound there.1.0 level there.1.1 (level_walked level (omega arith)), there.1.2))
        (spread.fresh p fresh.0))
        (now_cases n level small old frontier on new later advance p d at reached);
    complete = next_complete;
  }

  -- where no place was reached, what has a distance had it
  same_as_before : later ≡ [] → (p d : ℕ) → slice_get new p ≡ Some d → (d ≡ UNREACHED → ⊥) → slice_get old p ≡ Some d
  same_as_before none p d at reached = ⊎_elim
      (λ was. was)
      (λ fresh. ⊎_elim (λ still. absurd (reached (same_Some d UNREACHED (sym at ∙ still)))) (λ there. absurd (none-some p (ap (λ xs. slice_get xs there.2) (sym none) ∙ there.3))) (spread.fresh p fresh.0))
      (now_cases n level small old frontier on new later advance p d at reached)

  least_done : later ≡ [] → (m p : ℕ) → HasPath Link root m p → (d : ℕ) × (slice_get new p ≡ Some d) × (d ≡ UNREACHED → ⊥) × (d ≤ m)
  least_done none zero p path = (let there = right.complete 0 p (omega arith) path in let bound = there.2 in let reached = level_walked there.0 (omega arith) in (there.0, spread.kept p there.0 there.1 reached, reached, bound))
  least_done none (suc m) p path =
      let before = least_done none m path.0 path.1 in
      let was = same_as_before none path.0 before.0 before.1 before.2 in
      let low = on.low path.0 before.0 was before.2 in
      let bound = before.3 in
      let there = one_further before.0 path.0 p low (right.sound path.0 before.0 was before.2) path.2 in
      let far = there.2 in
      (there.0, there.1, (λ same. absurd (omega arith)), omega arith)

  -- all is done
  pub all_done : later ≡ [] → IsSearched Link root new
  all_done none = record { sound = next_right.sound; least = least_done none }

-- a path ends at a place
path_within : (Link : ℕ → ℕ → Type 0) (root n : ℕ) → root < n → ((q p : ℕ) → Link q p → p < n) → (m p : ℕ) → HasPath Link root m p → p < n
path_within Link root n root_within within zero p path = subst (λ q. q < n) path root_within
path_within Link root n root_within within (suc m) p path = within path.0 p path.2

-- where each place is reached, all is done
pub all_reached : (Link : ℕ → ℕ → Type 0) (root n level : ℕ) (distances frontier : List ℕ) → IsOnLevel n level distances frontier → IsRight Link root level distances → root < n → ((q p : ℕ) → Link q p → p < n) → n ≤ level + 1 → IsSearched Link root distances
all_reached Link root n level distances frontier on right root_within within whole = record {
  sound = right.sound;
  least = λ m p path.
      let below = path_within Link root n root_within within m p path in
      let there = get_within distances p (let count = on.count in omega arith) in
      let reached : there.0 ≡ UNREACHED → ⊥ = λ none. (let some = some_left distances p (there.1 ∙ ap Some none) in let left = on.left in omega arith) in
      let bound = on.low p there.0 there.1 reached in (
        there.0,
        there.1,
        reached,
        ⊎_elim
            (λ low. (let found = right.complete m p (omega arith) path in let same = same_Some there.0 found.0 (sym there.1 ∙ found.1) in let far = found.2 in omega arith))
            (λ high. omega arith)
            (cases_lt m (level + 1)),
      );
}

-- ---- at first

module _ (n root : ℕ) (below : root < n) where
  abbrev begun : List ℕ
  begun = slice_set (replicate n UNREACHED) root 0

  all_none : (p : ℕ) → p < n → slice_get (replicate n UNREACHED) p ≡ Some UNREACHED
  all_none p inside = slice_get-get_or (replicate n UNREACHED) p 0 (let count = length-replicate n UNREACHED in omega arith) ∙ ap Some (get_or-replicate n p UNREACHED 0 inside)

  -- only the root has a distance
  begun_cases : (p d : ℕ) → slice_get begun p ≡ Some d → ((p ≡ root) × (d ≡ 0)) ⊎ (d ≡ UNREACHED)
  begun_cases p d at = ⊎_elim
      (λ same. inl (same, same_Some d 0 (sym at ∙ ap (slice_get begun) same ∙ get_written (replicate n UNREACHED) root UNREACHED 0 (all_none root below))))
      (λ other. inr (let within = slice_get_within begun p d at in let count = length-set (replicate n UNREACHED) root 0 in let whole = length-replicate n UNREACHED in
      same_Some d UNREACHED (sym at ∙ get_unwritten (replicate n UNREACHED) root p 0 other ∙ all_none p (omega arith))))
      (cases_eq p root)

  front_sound : (k p : ℕ) → slice_get (root ∷ []) k ≡ Some p → slice_get begun p ≡ Some 0
  front_sound zero p at = ap (slice_get begun) (sym (same_Some root p at)) ∙ get_written (replicate n UNREACHED) root UNREACHED 0 (all_none root below)
  front_sound (suc k) p at = absurd (none-some p at)

  begun_complete : (Link : ℕ → ℕ → Type 0) (m p : ℕ) → m ≤ 0 → HasPath Link root m p → (d : ℕ) × (slice_get begun p ≡ Some d) × (d ≤ m)
  begun_complete Link zero p le path = (0, ap (slice_get begun) (sym path) ∙ get_written (replicate n UNREACHED) root UNREACHED 0 (all_none root below), omega arith)
  begun_complete Link (suc m) p le path = absurd (omega arith)

  pub begun_on : IsOnLevel n 0 begun (root ∷ [])
  begun_on = record {
    count = length-set (replicate n UNREACHED) root 0 ∙ length-replicate n UNREACHED;
    low = λ p d at reached. ⊎_elim (λ start. (let zero_is = start.1 in omega arith)) (λ none. absurd (reached none)) (begun_cases p d at);
    front = record {
      sound = λ k p at. front_sound k p at;
      complete = λ p at. ⊎_elim (λ start. (0, ap Some (sym start.0))) (λ none. absurd (let same : 0 ≡ UNREACHED = none in omega arith)) (begun_cases p 0 at);
    };
    left = (let less = fewer_left (replicate n UNREACHED) begun (length-set (replicate n UNREACHED) root 0) (λ p d at reached. absurd (let within = slice_get_within (replicate n UNREACHED) p d at in let whole = length-replicate n UNREACHED in
        reached (same_Some d UNREACHED (sym at ∙ all_none p (omega arith))))) root 0 (all_none root below) (get_written (replicate n UNREACHED) root UNREACHED 0 (all_none root below)) (λ same. absurd (omega arith)) in
        let bound = count_by-le-length (λ d. d == UNREACHED) (replicate n UNREACHED) in let whole = length-replicate n UNREACHED in omega arith);
  }

  pub begun_right : (Link : ℕ → ℕ → Type 0) → IsRight Link root 0 begun
  begun_right Link = record {
    sound = λ p d at reached. ⊎_elim (λ start. subst (λ k. HasPath Link root k p) (sym start.1) (sym start.0)) (λ none. absurd (reached none)) (begun_cases p d at);
    complete = λ m p le path. begun_complete Link m p le path;
  }

-- an arc leads to a place
pub leads_within : (g : Graph) (vertices : List ℕ) (q p : ℕ) → Leads g vertices q p → p < length vertices
leads_within g vertices q p leads = slice_get_within vertices p leads.1.to leads.1.to_at
