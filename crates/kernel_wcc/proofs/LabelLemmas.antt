-- Labels join the ends of arcs, and where all are joined they lead to the least places.
use Rattle.std.proofs.Common.{◌≡◌, ℕ, zero, suc, ◌+◌, ◌<◌, ◌≤◌, ◌⊎◌, inl, inr, ⊎_elim, List, [], ◌∷◌, ◌++◌, length, take, slice_get, slice_set, Some, refl, sym, ap, ◌∙◌, subst, arith, get_or-set_other, get_or-set_same, length-set}
use Rattle.std.specs.Prelude.{slice_index}
use Rattle.std.proofs.lemmas.Bool.{cases_lt, cases_eq}
use Rattle.std.proofs.lemmas.List.{length-take, take_all}
use Rattle.std.proofs.lemmas.Option.{same_Some, slice_get_within, slice_get-get_or, get_or_from_slice_get}
use Rattle.graph_model.specs.Graph.{Graph}
use Rattle.graph_model.proofs.PlaceLemmas.{get_take}
use Rattle.graph_image.specs.declared.edge.Arc.{Arc}
use Rattle.graph_image.specs.Images.{Places, arcs_at, Leads, IsImageOf, AreWithin}
use Rattle.graph_image.specs.Paths.{HasTrail}
use Rattle.graph_image.proofs.Lists.{below_cases}
use Rattle.kernel_wcc.specs.Labels.{AreLow, AreFirstLabels, Joins, AreReached, Follows, IsLabelOr, IsLabelOrEnd, IsJoined, HasEqualEnds, AreJoined, AreSound, IsDone, AreMerged, IsSettled, AreComponents}

-- ---- trails

pub trail_on : (Link : ℕ → ℕ → Type 0) (p q r : ℕ) (cs ds : List ℕ) → HasTrail Link p cs q → HasTrail Link q ds r → HasTrail Link p (cs ++ ds) r
trail_on Link p q r [] ds first second = subst (λ x. HasTrail Link x ds r) (sym first) second
trail_on Link p q r (c ∷ cs) ds first second = (first.0, trail_on Link c q r cs ds first.1 second)

joins_on : (Link : ℕ → ℕ → Type 0) (p q r : ℕ) → Joins Link p q → Joins Link q r → Joins Link p r
joins_on Link p q r first second = (first.0 ++ second.0, trail_on Link p q r first.0 second.0 first.1 second.1)

-- one link is a trail
joins_link : (Link : ℕ → ℕ → Type 0) (p q : ℕ) → (Link p q ⊎ Link q p) → Joins Link p q
joins_link Link p q link = (q ∷ [], (link, refl))

trail_back : (Link : ℕ → ℕ → Type 0) (p q : ℕ) (cs : List ℕ) → HasTrail Link p cs q → Joins Link q p
trail_back Link p q [] trail = ([], sym trail)
trail_back Link p q (c ∷ cs) trail = joins_on Link q c p (trail_back Link c q cs trail.1) (joins_link Link c p (⊎_elim (λ out. inr out) (λ into. inl into) trail.0))

joins_back : (Link : ℕ → ℕ → Type 0) (p q : ℕ) → Joins Link p q → Joins Link q p
joins_back Link p q joins = trail_back Link p q joins.0 joins.1

-- a trail of links each of which is a trail is one
trail_of_trails : (Link Short : ℕ → ℕ → Type 0) → ((p q : ℕ) → Short p q → Joins Link p q) → (p q : ℕ) (cs : List ℕ) → HasTrail Short p cs q → Joins Link p q
trail_of_trails Link Short each p q [] trail = ([], trail)
trail_of_trails Link Short each p q (c ∷ cs) trail =
    joins_on Link p c q (⊎_elim (λ out. each p c out) (λ into. joins_back Link c p (each c p into)) trail.0) (trail_of_trails Link Short each c q cs trail.1)

-- the label of a place, as it is read
label_at : (labels : List ℕ) (p : ℕ) → p < length labels → slice_get labels p ≡ Some (slice_index labels p)
label_at labels p below = slice_get-get_or labels p 0 below

pub low_label : (labels : List ℕ) → AreLow labels → (p : ℕ) → p < length labels → slice_index labels p ≤ p
low_label labels low p below = low p (slice_index labels p) (label_at labels p below)

-- ---- two places are joined

-- of two labels that differ the one that isn't higher is lower
pub below_other : (x y : ℕ) → (x ≡ y → ⊥) → y ≤ x → y < x
below_other x y differ le = ⊎_elim (λ less. less) (λ more. absurd (differ (omega arith))) (cases_lt y x)

-- what is left to do to join a and b is to join u and v
pub record IsJoining (old : List ℕ) (a b u v : ℕ) (labels : List ℕ) : Type 0 where
  pub count : length labels ≡ length old
  pub low : AreLow labels
  pub left : u < length labels
  pub right : v < length labels
  pub kept : (f : ℕ → ℕ) → Follows f labels → f u ≡ f v → Follows f old × (f a ≡ f b)
  pub reached : AreReached (IsLabelOr old a b) labels
  pub joins : Joins (IsLabelOr old a b) u v

pub joining_none : (old : List ℕ) (a b : ℕ) → AreLow old → a < length old → b < length old → IsJoining old a b a b old
joining_none old a b low left right = record {
  count = refl;
  low = low;
  left = left;
  right = right;
  kept = λ f follows same. (follows, same);
  reached = λ p label at. joins_link (IsLabelOr old a b) p label (inl (inl at));
  joins = joins_link (IsLabelOr old a b) a b (inl (inr (refl, refl)));
}

-- which is which doesn't matter
pub joining_back : (old : List ℕ) (a b u v : ℕ) (labels : List ℕ) → IsJoining old a b u v labels → IsJoining old a b v u labels
joining_back old a b u v labels is = record {
  count = is.count;
  low = is.low;
  left = is.right;
  right = is.left;
  kept = λ f follows same. is.kept f follows (sym same);
  reached = is.reached;
  joins = joins_back (IsLabelOr old a b) u v is.joins;
}

-- where both have one label they are joined
pub joined_already : (old : List ℕ) (a b u v : ℕ) (labels : List ℕ) → IsJoining old a b u v labels → slice_index labels u ≡ slice_index labels v → IsJoined old a b labels
joined_already old a b u v labels is same = record {
  count = is.count;
  low = is.low;
  kept = λ f follows. is.kept f follows (follows u is.left ∙ ap f same ∙ sym (follows v is.right));
  reached = is.reached;
}

module _ (old : List ℕ) (a b u v : ℕ) (labels : List ℕ) (is : IsJoining old a b u v labels) (x y : ℕ) (x_is : x ≡ slice_index labels u) (y_is : y ≡ slice_index labels v) (above : y < x) (place : ℕ) (place_is : place ≡ u) where
  abbrev later : List ℕ
  later = slice_set labels place y

  count_later : length later ≡ length labels
  count_later = length-set labels place y

  here : slice_index later u ≡ y
  here = ap (slice_index later) (sym place_is) ∙ get_or-set_same labels place y 0 (let left = is.left in omega arith)

  else_where : (p : ℕ) → (p ≡ u → ⊥) → slice_index later p ≡ slice_index labels p
  else_where p differs = get_or-set_other labels place p y 0 (λ same. differs (same ∙ place_is))

  apart : v ≡ u → ⊥
  apart same = let equal = ap (slice_index labels) same in absurd (omega arith)

  low_later : AreLow later
  low_later p label at =
      let within = slice_get_within later p label at in
      let wide = count_later in
      let read = get_or_from_slice_get later p label 0 at in
      ⊎_elim
      (λ same. (let now = ap (slice_index later) same ∙ here in let high = low_label labels is.low u is.left in omega arith))
      (λ differs. (let now = else_where p differs in let low = low_label labels is.low p (omega arith) in omega arith))
      (cases_eq p u)

  reached_later : AreReached (IsLabelOr old a b) later
  reached_later p label at =
      let within = slice_get_within later p label at in
      let wide = count_later in
      let read = get_or_from_slice_get later p label 0 at in
      ⊎_elim
      (λ same.
      let to : slice_index labels v ≡ label = sym y_is ∙ sym here ∙ ap (slice_index later) (sym same) ∙ read in
      let far = joins_on (IsLabelOr old a b) u v (slice_index labels v) is.joins (is.reached v (slice_index labels v) (label_at labels v is.right)) in
      subst (λ k. Joins (IsLabelOr old a b) k label) (sym same) (subst (Joins (IsLabelOr old a b) u) to far))
      (λ differs. is.reached p label (label_at labels p (omega arith) ∙ ap Some (sym (else_where p differs) ∙ read)))
      (cases_eq p u)

  module _ (f : ℕ → ℕ) (follows : Follows f later) where
    equal_ends : f u ≡ f v
    equal_ends =
        let wide = count_later in
        let left = is.left in
        let right = is.right in
        follows u (omega arith) ∙ ap f (here ∙ y_is ∙ sym (else_where v apart)) ∙ sym (follows v (omega arith))

    follows_before : f u ≡ f x → Follows f labels
    follows_before same p below =
        let wide = count_later in
        ⊎_elim
        (λ is_u. ap f is_u ∙ same ∙ ap f (x_is ∙ ap (slice_index labels) (sym is_u)))
        (λ differs. follows p (omega arith) ∙ ap f (else_where p differs))
        (cases_eq p u)

  -- a place that was its own label hangs now at the other's label
  pub joined_root : u ≡ x → IsJoined old a b later
  joined_root root = record {
    count = count_later ∙ is.count;
    low = low_later;
    kept = λ f follows. is.kept f (follows_before f follows (ap f root)) (equal_ends f follows);
    reached = reached_later;
  }

  -- else what it had as label is to be joined next
  pub joining_more : (u ≡ x → ⊥) → IsJoining old a b x v later × (x < u)
  joining_more other =
      let wide = count_later in
      let left = is.left in
      let right = is.right in
      let high = low_label labels is.low u is.left in
      let lower : x < u = ⊎_elim (λ less. less) (λ more. absurd (other (omega arith))) (cases_lt x u) in (
        record {
          count = count_later ∙ is.count;
          low = low_later;
          left = omega arith;
          right = omega arith;
          kept = λ f follows same. is.kept f (follows_before f follows (equal_ends f follows ∙ sym same)) (equal_ends f follows);
          reached = reached_later;
          joins = joins_on (IsLabelOr old a b) x u v (joins_back (IsLabelOr old a b) u x (subst (Joins (IsLabelOr old a b) u) (sym x_is) (is.reached u (slice_index labels u) (label_at labels u is.left)))) is.joins;
        },
        lower,
      )

-- ---- a place is joined with the ends of its arcs

get_in_take : {X : Type 0} (n : ℕ) (xs : List X) (i : ℕ) (x : X) → i < n → slice_get xs i ≡ Some x → slice_get (take n xs) i ≡ Some x
get_in_take zero xs i x less at = absurd (omega arith)
get_in_take (suc n) [] i x less at = cc
get_in_take (suc n) (y ∷ xs) zero x less at = at
get_in_take (suc n) (y ∷ xs) (suc i) x less at = get_in_take n xs i x (omega arith) at

pub joined_none : (old : List ℕ) (p : ℕ) (arcs : List Arc) → AreLow old → AreJoined old p arcs 0 old
joined_none old p arcs low = record {
  count = refl;
  low = low;
  kept = λ f follows. (follows, λ k a at. absurd (let within = slice_get_within (take 0 arcs) k a at in let none = length-take 0 arcs in omega arith));
  reached = λ q label at. joins_link (IsLabelOrEnd old p arcs) q label (inl (inl at));
}

-- the place and the other end of the next arc are places
pub ends_within : (old : List ℕ) (p : ℕ) (arcs : List Arc) (n : ℕ) (labels : List ℕ) → AreJoined old p arcs n labels → p < length old → AreWithin (length old) arcs
    → (a : Arc) → slice_get arcs n ≡ Some a → (p < length labels) × (a.other < length labels)
ends_within old p arcs n labels joined place within a at = let count = joined.count in let other = within n a at in (omega arith, omega arith)

-- one arc more
pub joined_more : (old : List ℕ) (p : ℕ) (arcs : List Arc) (n : ℕ) (labels : List ℕ) → AreJoined old p arcs n labels → (a : Arc) → slice_get arcs n ≡ Some a
    → (new : List ℕ) → IsJoined labels p a.other new → AreJoined old p arcs (n + 1) new
joined_more old p arcs n labels before a at new joined = record {
  count = joined.count ∙ before.count;
  low = joined.low;
  kept = λ f follows.
      let back = joined.kept f follows in
      let rest = before.kept f back.0 in (
        rest.0,
        λ k b b_at.
            let there = get_take (n + 1) arcs k b b_at in
            ⊎_elim
            (λ less. rest.1 k b (get_in_take n arcs k b less there.1))
            (λ same. back.1 ∙ ap (λ (x : Arc). f x.other) (same_Some a b (sym at ∙ ap (slice_get arcs) (sym same) ∙ there.1)))
            (below_cases k n there.0),
      );
  reached = λ q label q_at.
      let there = joined.reached q label q_at in
      trail_of_trails (IsLabelOrEnd old p arcs) (IsLabelOr labels p a.other)
      (λ r s. ⊎_elim
      (λ label_is. before.reached r s label_is)
      (λ ends. joins_link (IsLabelOrEnd old p arcs) r s (inl (inr (ends.0, n, a, at, ends.1)))))
      q label there.0 there.1;
}

-- what the labels join, links join, where they join the ends of the arcs
reached_joined : (Link : ℕ → ℕ → Type 0) (old : List ℕ) (p : ℕ) (arcs : List Arc) (n : ℕ) (new : List ℕ) → AreJoined old p arcs n new → AreReached Link old
    → ((k : ℕ) (a : Arc) → slice_get arcs k ≡ Some a → Joins Link p a.other) → AreReached Link new
reached_joined Link old p arcs n new joined reached linked q label q_at =
    let there = joined.reached q label q_at in
    trail_of_trails Link (IsLabelOrEnd old p arcs)
    (λ r s. ⊎_elim
    (λ label_is. reached r s label_is)
    (λ ends. subst (λ x. Joins Link x s) (sym ends.0) (subst (Joins Link p) (sym ends.4) (linked ends.1 ends.2 ends.3))))
    q label there.0 there.1

-- ---- first labels, and arcs out of the places that keep their own

-- first labels join what links join
pub first_sound : (image : Places) (labels : List ℕ) → AreFirstLabels image labels → AreSound image (length image.vertices) labels
first_sound image labels first = record {
  count = first.count;
  low = λ p label at.
      let within = slice_get_within labels p label at in
      let count = first.count in
      let read = get_or_from_slice_get labels p label 0 at in
      ⊎_elim (λ own. omega arith) (λ lower. (let less = lower.2 in let same = lower.3 in omega arith)) (first.each p (omega arith));
  reached = λ g is p label at.
      let within = slice_get_within labels p label at in
      let count = first.count in
      let read = get_or_from_slice_get labels p label 0 at in
      let below : p < length image.vertices = omega arith in
      subst (Joins (Leads g image.vertices) p) read (⊎_elim
      (λ own. ([], sym own))
      (λ lower. subst (Joins (Leads g image.vertices) p) (sym lower.3)
      (joins_link (Leads g image.vertices) p lower.0.other (inl (lower.0.weight, (is.out p below).sound 0 lower.0 lower.1))))
      (first.each p below));
}

module _ (image : Places) (labels : List ℕ) (sound : AreSound image (length image.vertices) labels) (p : ℕ) (below : p < length image.vertices) where
  -- a place is joined with the ends of the arcs out of it
  pub sound_out : (n : ℕ) (new : List ℕ) → AreJoined labels p (arcs_at image.out p) n new → AreSound image (length image.vertices) new
  sound_out n new joined = record {
    count = joined.count ∙ sound.count;
    low = joined.low;
    reached = λ g is. reached_joined (Leads g image.vertices) labels p (arcs_at image.out p) n new joined (sound.reached g is)
        (λ k a at. joins_link (Leads g image.vertices) p a.other (inl (a.weight, (is.out p below).sound k a at)));
  }

  -- a place is joined with the ends of the arcs into it
  pub sound_into : (n : ℕ) (new : List ℕ) → AreJoined labels p (arcs_at image.into p) n new → AreSound image (length image.vertices) new
  sound_into n new joined = record {
    count = joined.count ∙ sound.count;
    low = joined.low;
    reached = λ g is. reached_joined (Leads g image.vertices) labels p (arcs_at image.into p) n new joined (sound.reached g is)
        (λ k a at. joins_link (Leads g image.vertices) p a.other (inr (a.weight, (is.into p below).sound k a at)));
  }

-- ---- the other arcs, but of places that have the large label

pub merged_none : (image : Places) (large : ℕ) (labels : List ℕ) → AreSound image (length image.vertices) labels → AreMerged image large 0 labels
merged_none image large labels sound = record { sound = sound; kept = λ f follows q less. absurd (omega arith) }

module _ (image : Places) (large p : ℕ) (labels : List ℕ) (merged : AreMerged image large p labels) (below : p < length image.vertices) where
  -- the place has the large label
  pub merged_large : slice_index labels p ≡ large → AreMerged image large (p + 1) labels
  merged_large same = record {
    sound = merged.sound;
    kept = λ f follows q less. ⊎_elim
        (λ lower. merged.kept f follows q lower)
        (λ here. inl (ap f here ∙ follows p (let count = merged.sound.count in omega arith) ∙ ap f same))
        (below_cases q p less);
  }

  -- its arcs are joined
  pub merged_more : (middle new : List ℕ) → AreJoined labels p (arcs_at image.out p) (length (arcs_at image.out p)) middle
      → AreJoined middle p (arcs_at image.into p) (length (arcs_at image.into p)) new → AreMerged image large (p + 1) new
  merged_more middle new out into = record {
    sound = sound_into image middle (sound_out image labels merged.sound p below (length (arcs_at image.out p)) middle out) p below (length (arcs_at image.into p)) new into;
    kept = λ f follows q less.
        let back = into.kept f follows in
        let first = out.kept f back.0 in
        ⊎_elim
        (λ lower. merged.kept f first.0 q lower)
        (λ here. subst (IsDone image large f) (sym here) (inr (
          subst (HasEqualEnds f p) (take_all (length (arcs_at image.out p)) (arcs_at image.out p) (omega arith)) first.1,
          subst (HasEqualEnds f p) (take_all (length (arcs_at image.into p)) (arcs_at image.into p) (omega arith)) back.1,
        )))
        (below_cases q p less);
  }

-- ---- labels settle

-- the labels of the first i places are settled, and the others are as before
pub record IsSettling (old : List ℕ) (i : ℕ) (now : List ℕ) : Type 0 where
  pub count : length now ≡ length old
  pub each : (p : ℕ) → p < i → slice_index now p ≡ slice_index now (slice_index old p)
  pub roots : (p : ℕ) → p < i → slice_index old p ≡ p → slice_index now p ≡ p
  pub rest : (p : ℕ) → i ≤ p → slice_index now p ≡ slice_index old p

pub settling_none : (old : List ℕ) → IsSettling old 0 old
settling_none old = record { count = refl; each = λ p below. absurd (omega arith); roots = λ p below. absurd (omega arith); rest = λ p le. refl }

pub settling_more : (old : List ℕ) → AreLow old → (i : ℕ) (now : List ℕ) → IsSettling old i now → i < length now → (label value : ℕ) → label ≡ slice_index now i → value ≡ slice_index now label → IsSettling old (i + 1) (slice_set now i value)
settling_more old low i now is within label value label_is value_is =
    let count = is.count in
    let old_label : label ≡ slice_index old i = label_is ∙ is.rest i (omega arith) in
    let high = low_label old low i (omega arith) in
    let here : slice_index (slice_set now i value) i ≡ value = get_or-set_same now i value 0 within in
    let else_where : (p : ℕ) → (p ≡ i → ⊥) → slice_index (slice_set now i value) p ≡ slice_index now p = λ p differs. get_or-set_other now i p value 0 differs in
    record {
      count = length-set now i value ∙ is.count;
      each = λ p below. ⊎_elim
          (λ less.
          let deep = low_label old low p (omega arith) in
          else_where p (λ same. absurd (omega arith)) ∙ is.each p less ∙ sym (else_where (slice_index old p) (λ same. absurd (omega arith))))
          (λ same. ⊎_elim
          (λ own. ap (slice_index (slice_set now i value)) (same ∙ sym own ∙ ap (slice_index old) (sym same)))
          (λ other. ap (slice_index (slice_set now i value)) same ∙ here ∙ value_is ∙ ap (slice_index now) (old_label ∙ ap (slice_index old) (sym same))
          ∙ sym (else_where (slice_index old p) (λ is_i. other (ap (slice_index old) (sym same) ∙ is_i))))
          (cases_eq (slice_index old i) i))
          (below_cases p i below);
      roots = λ p below own. ⊎_elim
          (λ less. else_where p (λ same. absurd (omega arith)) ∙ is.roots p less own)
          (λ same.
          let own_i : slice_index old i ≡ i = ap (slice_index old) (sym same) ∙ own ∙ same in
          ap (slice_index (slice_set now i value)) same ∙ here ∙ value_is ∙ ap (slice_index now) (old_label ∙ own_i) ∙ is.rest i (omega arith) ∙ own_i ∙ sym same)
          (below_cases p i below);
      rest = λ p le. else_where p (λ same. absurd (omega arith)) ∙ is.rest p (omega arith);
    }

pub settled_all : (old : List ℕ) (i : ℕ) (now : List ℕ) → IsSettling old i now → length now ≤ i → IsSettled old now
settled_all old i now is whole = record {
  count = is.count;
  each = λ p below. is.each p (let count = is.count in omega arith);
  roots = λ p below own. is.roots p (let count = is.count in omega arith) own;
}

module _ (old new : List ℕ) (low : AreLow old) (settled : IsSettled old new) where
  -- what each label keeps from place to place, the settled label has: by the number of places
  settles : (Holds : ℕ → ℕ → Type 0) → ((p : ℕ) → p < length old → slice_index old p ≡ p → Holds p p) → ((p r : ℕ) → p < length old → Holds (slice_index old p) r → Holds p r)
      → (m p : ℕ) → p < m → p < length old → Holds p (slice_index new p)
  settles Holds own on zero p less below = absurd (omega arith)
  settles Holds own on (suc m) p less below =
      let high = low_label old low p below in
      ⊎_elim
      (λ root. subst (Holds p) (sym (settled.roots p below root)) (own p below root))
      (λ other. (let lower : slice_index old p < p = ⊎_elim (λ deep. deep) (λ more. absurd (other (omega arith))) (cases_lt (slice_index old p) p) in
      subst (Holds p) (sym (settled.each p below)) (on p (slice_index new (slice_index old p)) below (settles Holds own on m (slice_index old p) (omega arith) (omega arith)))))
      (cases_eq (slice_index old p) p)

  pub low_settled : AreLow new
  low_settled p label at =
      let within = slice_get_within new p label at in
      let count = settled.count in
      let read = get_or_from_slice_get new p label 0 at in
      let holds = settles (λ q r. r ≤ q) (λ q below own. omega arith) (λ q r below rest. (let high = low_label old low q below in omega arith)) (p + 1) p (omega arith) (omega arith) in
      omega arith

  reached_settled : (Link : ℕ → ℕ → Type 0) → AreReached Link old → AreReached Link new
  reached_settled Link reached p label at =
      let within = slice_get_within new p label at in
      let count = settled.count in
      subst (Joins Link p) (get_or_from_slice_get new p label 0 at)
      (settles (Joins Link) (λ q below own. ([], refl)) (λ q r below rest. joins_on Link q (slice_index old q) r (reached q (slice_index old q) (label_at old q below)) rest) (p + 1) p (omega arith) (omega arith))

  -- settled labels join nothing more
  pub sound_settled : (image : Places) (n : ℕ) → AreSound image n old → AreSound image n new
  sound_settled image n sound = record {
    count = settled.count ∙ sound.count;
    low = low_settled;
    reached = λ g is. reached_settled (Leads g image.vertices) (sound.reached g is);
  }

  module _ (image : Places) (large p : ℕ) (merged : AreMerged image large p old) (all : length image.vertices ≤ p) (g : Graph) (is : IsImageOf image g) where
    -- the two ends of an arc have one label
    link_equal : (q r : ℕ) → Leads g image.vertices q r → slice_index new q ≡ slice_index new r
    link_equal q r leads =
        let q_within = slice_get_within image.vertices q leads.1.from leads.1.from_at in
        let r_within = slice_get_within image.vertices r leads.1.to leads.1.to_at in
        let done = merged.kept (slice_index new) (λ s below. settled.each s below) in
        let out = (is.out q q_within).complete r leads.0 leads.1 in
        let into = (is.into r r_within).complete q leads.0 leads.1 in
        ⊎_elim
        (λ q_large. ⊎_elim
        (λ r_large. q_large ∙ sym r_large)
        (λ r_ends. sym (r_ends.1 into.0 (record { other = q; weight = leads.0 }) into.1))
        (done r (omega arith)))
        (λ q_ends. q_ends.0 out.0 (record { other = r; weight = leads.0 }) out.1)
        (done q (omega arith))

    trail_equal : (q r : ℕ) (cs : List ℕ) → HasTrail (Leads g image.vertices) q cs r → slice_index new q ≡ slice_index new r
    trail_equal q r [] trail = ap (slice_index new) trail
    trail_equal q r (c ∷ cs) trail = ⊎_elim (λ out. link_equal q c out) (λ into. sym (link_equal c q into)) trail.0 ∙ trail_equal c r cs trail.1

    trail_within : (q r : ℕ) (cs : List ℕ) → q < length image.vertices → HasTrail (Leads g image.vertices) q cs r → r < length image.vertices
    trail_within q r [] below trail = subst (λ x. x < length image.vertices) trail below
    trail_within q r (c ∷ cs) below trail = trail_within c r cs (⊎_elim (λ leads. slice_get_within image.vertices c leads.1.to leads.1.to_at) (λ leads. slice_get_within image.vertices c leads.1.from leads.1.from_at) trail.0) trail.1

    -- the labels are the least places
    pub are_components : AreComponents (Leads g image.vertices) new
    are_components = record {
      reached = reached_settled (Leads g image.vertices) (merged.sound.reached g is);
      least = λ q r label cs at trail.
          let within = slice_get_within new q label at in
          let count = settled.count in
          let wide = merged.sound.count in
          let there = trail_within q r cs (omega arith) trail in
          let read : slice_index new q ≡ label = get_or_from_slice_get new q label 0 at in
          let equal = trail_equal q r cs trail in
          let deep = low_label new low_settled r (omega arith) in
          omega arith;
    }
