-- Places that meet a label that has changed are awake.
use Rattle.std.proofs.Common.{◌≡◌, ℕ, ◌+◌, ◌<◌, ◌≤◌, ⊎_elim, List, Bool, false, true, length, replicate, get_or, slice_get, slice_set, Some, refl, sym, ap, ◌∙◌, subst, arith, get_or-set_other, get_or-set_same, length-set}
use Rattle.std.proofs.lemmas.Bool.{cases_eq}
use Rattle.std.proofs.lemmas.List.{get_or-replicate, length-replicate}
use Rattle.std.proofs.lemmas.Option.{same_Some, slice_get_within, slice_get-get_or, get_or_from_slice_get}
use Rattle.graph_image.specs.declared.edge.Arc.{Arc}
use Rattle.graph_image.specs.Images.{Places, arcs_at, AreWithin}
use Rattle.graph_image.proofs.Lists.{below_cases}
use Rattle.kernel_cdlp.specs.Rounds.{IsRoused, IsWoken}

true_is_false : true ≡ false → ⊥
true_is_false same = cc

-- who isn't told to be awake sleeps
pub asleep : (awake : List Bool) (p : ℕ) → p < length awake → get_or awake p false ≡ false → slice_get awake p ≡ Some false
asleep awake p within is = slice_get-get_or awake p false within ∙ ap Some is

-- ---- all are awake

pub roused_all : (image : Places) (changed awake : List Bool) (n : ℕ) → n ≡ length image.vertices → awake ≡ replicate n true → IsRoused image changed awake
roused_all image changed awake n count all = record {
  count = ap length all ∙ length-replicate n true ∙ count;
  each = λ linked p within at.
      let same : true ≡ false = sym (ap (λ xs. get_or xs p true) all ∙ get_or-replicate n p true true (omega arith)) ∙ get_or_from_slice_get awake p false true at in
      absurd (true_is_false same);
}

-- ---- the ends of arcs

pub woken_none : (old : List Bool) (arcs : List Arc) → IsWoken old arcs 0 old
woken_none old arcs = record { count = refl; stays = λ p at. at; ends = λ k a less at. absurd (omega arith) }

-- a place that is woken, and the others as they were
set_at : (awake : List Bool) (q : ℕ) → q < length awake → slice_get (slice_set awake q true) q ≡ Some true
set_at awake q within = slice_get-get_or (slice_set awake q true) q true (let same = length-set awake q true in omega arith) ∙ ap Some (get_or-set_same awake q true true within)

set_stays : (awake : List Bool) (q p : ℕ) → slice_get awake p ≡ Some true → slice_get (slice_set awake q true) p ≡ Some true
set_stays awake q p at =
    let within = slice_get_within awake p true at in
    ⊎_elim
    (λ same. subst (λ r. slice_get (slice_set awake q true) r ≡ Some true) same (set_at awake q (omega arith)))
    (λ other. slice_get-get_or (slice_set awake q true) p true (let long = length-set awake q true in omega arith)
    ∙ ap Some (get_or-set_other awake q p true true (λ same. other (sym same)) ∙ get_or_from_slice_get awake p true true at))
    (cases_eq q p)

pub woken_more : (old : List Bool) (arcs : List Arc) (i : ℕ) (awake : List Bool) → IsWoken old arcs i awake → (a : Arc) → slice_get arcs i ≡ Some a → a.other < length awake → IsWoken old arcs (i + 1) (slice_set awake a.other true)
woken_more old arcs i awake woken a at within = record {
  count = length-set awake a.other true ∙ woken.count;
  stays = λ p before. set_stays awake a.other p (woken.stays p before);
  ends = λ k b less there. ⊎_elim
      (λ low. set_stays awake a.other b.other (woken.ends k b low there))
      (λ same.
      let is : a ≡ b = same_Some a b (sym at ∙ ap (slice_get arcs) (sym same) ∙ there) in
      subst (λ (c : Arc). slice_get (slice_set awake a.other true) c.other ≡ Some true) is (set_at awake a.other within))
      (below_cases k i less);
}

-- ---- the places that have changed

-- the places that meet one of the first i places that has changed are awake
pub record IsWaking (image : Places) (changed : List Bool) (i : ℕ) (awake : List Bool) : Type 0 where
  pub count : length awake ≡ length image.vertices
  pub out : (q k : ℕ) (a : Arc) → q < i → slice_get changed q ≡ Some true → slice_get (arcs_at image.out q) k ≡ Some a → slice_get awake a.other ≡ Some true
  pub into : (q k : ℕ) (a : Arc) → q < i → slice_get changed q ≡ Some true → slice_get (arcs_at image.into q) k ≡ Some a → slice_get awake a.other ≡ Some true

pub waking_none : (image : Places) (changed awake : List Bool) → length awake ≡ length image.vertices → IsWaking image changed 0 awake
waking_none image changed awake count = record {
  count = count;
  out = λ q k a less here at. absurd (omega arith);
  into = λ q k a less here at. absurd (omega arith);
}

-- a place that hasn't changed wakes none
pub waking_past : (image : Places) (changed : List Bool) (i : ℕ) (awake : List Bool) → IsWaking image changed i awake → slice_get changed i ≡ Some false → IsWaking image changed (i + 1) awake
waking_past image changed i awake waking same_as =
    let not_here : (q : ℕ) → q ≡ i → slice_get changed q ≡ Some true → ⊥ = λ q same here. true_is_false (same_Some true false (sym here ∙ ap (slice_get changed) same ∙ same_as)) in
    record {
      count = waking.count;
      out = λ q k a less here at. ⊎_elim (λ low. waking.out q k a low here at) (λ same. absurd (not_here q same here)) (below_cases q i less);
      into = λ q k a less here at. ⊎_elim (λ low. waking.into q k a low here at) (λ same. absurd (not_here q same here)) (below_cases q i less);
    }

-- one that has wakes those at the other ends of its arcs
pub waking_more : (image : Places) (changed : List Bool) (i : ℕ) (awake middle later : List Bool) (out into : List Arc) → IsWaking image changed i awake
    → out ≡ arcs_at image.out i → into ≡ arcs_at image.into i → IsWoken awake out (length out) middle → IsWoken middle into (length into) later → IsWaking image changed (i + 1) later
waking_more image changed i awake middle later out into waking out_is into_is first second =
    let stays : (p : ℕ) → slice_get awake p ≡ Some true → slice_get later p ≡ Some true = λ p at. second.stays p (first.stays p at) in
    record {
      count = second.count ∙ first.count ∙ waking.count;
      out = λ q k a less here at. ⊎_elim
          (λ low. stays a.other (waking.out q k a low here at))
          (λ same.
          let there : slice_get out k ≡ Some a = ap (λ xs. slice_get xs k) out_is ∙ ap (λ r. slice_get (arcs_at image.out r) k) (sym same) ∙ at in
          second.stays a.other (first.ends k a (slice_get_within out k a there) there))
          (below_cases q i less);
      into = λ q k a less here at. ⊎_elim
          (λ low. stays a.other (waking.into q k a low here at))
          (λ same.
          let there : slice_get into k ≡ Some a = ap (λ xs. slice_get xs k) into_is ∙ ap (λ r. slice_get (arcs_at image.into r) k) (sym same) ∙ at in
          second.ends k a (slice_get_within into k a there) there)
          (below_cases q i less);
    }

-- a mark that isn't set is told
unmarked : (changed : List Bool) (q : ℕ) → q < length changed → (slice_get changed q ≡ Some true → ⊥) → slice_get changed q ≡ Some false
unmarked changed q within not = slice_get-get_or changed q true within ∙ ap Some (by_mark (get_or changed q true) refl)
  where
    by_mark : (b : Bool) → get_or changed q true ≡ b → b ≡ false
    by_mark true is = absurd (not (slice_get-get_or changed q true within ∙ ap Some is))
    by_mark false is = refl

-- who sleeps after all places meets no label that has changed
pub roused_few : (image : Places) (changed : List Bool) (i : ℕ) (awake : List Bool) → length changed ≡ length image.vertices → length image.vertices ≤ i
    → ((p : ℕ) → p < length image.vertices → AreWithin (length image.vertices) (arcs_at image.out p) × AreWithin (length image.vertices) (arcs_at image.into p))
    → IsWaking image changed i awake → IsRoused image changed awake
roused_few image changed i awake marks whole within waking = record {
  count = waking.count;
  each = λ linked p below at.
      let asleep : slice_get awake p ≡ Some true → ⊥ = λ up. true_is_false (same_Some true false (sym up ∙ at)) in (
        λ k a there.
            let other = (within p below).0 k a there in
            let back = linked.out p k a below there in
            unmarked changed a.other (omega arith) (λ mark. asleep (waking.into a.other back.0 (record { other = p; weight = a.weight }) (omega arith) mark back.1)),
        λ k a there.
            let other = (within p below).1 k a there in
            let back = linked.into p k a below there in
            unmarked changed a.other (omega arith) (λ mark. asleep (waking.out a.other back.0 (record { other = p; weight = a.weight }) (omega arith) mark back.1)),
      );
}
