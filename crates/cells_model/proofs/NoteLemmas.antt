-- A leaf that a pinned pass has noted isn't freed.
use Rattle.std.proofs.Common.{◌≡◌, ◌⊎◌, inl, inr, ℕ, zero, suc, ◌<◌, ◌≤◌, List, [], ◌∷◌, Option, Some, None, refl, sym, ◌∙◌, ap, subst, cond, arith, min}
use Rattle.std.specs.Prelude.{Bool, true, false, ◌==◌, not, nat_lt, slice_get}
use Rattle.std.specs.List.{list_any}
use Rattle.std.proofs.lemmas.Bool.{true≢false}
use Rattle.std.proofs.lemmas.Bool.Decides.{nat_tests}
use mathlib.Core.Logic.{dite}
use native.Mathlib.Decide.{ℕ_discrete}
use Rattle.graph_model.proofs.PlaceLemmas.{some_eq}
use Rattle.seat_views.specs.Keeping.{put}
use Rattle.seat_views.proofs.NumberLemmas.{put_here, put_else, some_is}
use Rattle.epoch_reclaim.specs.declared.sweep.Sweep.{Sweep}
use Rattle.epoch_reclaim.specs.Pinned.{begun, least_after, looked_at, start_in}
use Rattle.epoch_reclaim.proofs.PinLemmas.{start_pinned}
use Rattle.leaf_index.specs.declared.route.Retired.{Retired}
use Rattle.leaf_index.specs.Calls.{kept_of}
use Rattle.leaf_index.specs.Index.{Index}
use Rattle.cells_model.specs.Indexed.{is_live}
use Rattle.cells_model.specs.Noted.{IsAmong, IsRetiredFrom, AreNoted, NotesLeaf, ForgetsLeaves, BeginsNoted, EndsNoted, RetiresLeaves, SweeperBegins, OtherSweepBegins, SweepLooksOn, SweeperFrees, SweeperEnds, OtherSweepEnds}

-- ---- lists

-- a retired leaf whose stamp isn't below the bound is kept
kept_among : (until : ℕ) (r : Retired) (rs : List Retired) → until ≤ r.stamp → IsAmong r rs
    → IsAmong r (kept_of until rs)
kept_among until r [] le at = cc
kept_among until r (x ∷ rs) le (zero, e) =
    let same = some_eq x r e in
    let stays : nat_lt x.stamp until ≡ false
    = (let s = ap (λ (y : Retired). y.stamp) same in grind (arith, nat_tests)) in
    (0, ap (λ b. slice_get (cond (not b) (x ∷ kept_of until rs) (kept_of until rs)) 0) stays ∙ e)
kept_among until r (x ∷ rs) le (suc i, e) = by_test (nat_lt x.stamp until) (kept_among until r rs le (i, e))
  where
    by_test : (b : Bool) → IsAmong r (kept_of until rs)
        → IsAmong r (cond (not b) (x ∷ kept_of until rs) (kept_of until rs))
    by_test true rest = rest
    by_test false rest = (suc rest.0, rest.1)

-- one more is the new one or was there
among_cons : {X : Type 0} (n l : X) (ls : List X) → IsAmong n (l ∷ ls) → (l ≡ n) ⊎ IsAmong n ls
among_cons n l ls (zero, e) = inl (some_is l n e)
among_cons n l ls (suc i, e) = inr (i, e)

-- in an empty list there is none
pub among_none : {X : Type 0} (n : X) (ls : List X) → ls ≡ [] → IsAmong n ls → ⊥
among_none {X} n ls none among = let e : ◌≡◌ {A = Option X} None (Some n) =
    ap (λ xs. slice_get xs among.0) (sym none) ∙ among.1 in cc

-- ---- one of all numbers

module _ {A : Type 0} (f : ℕ → A) (p : ℕ) (x : A) where
  -- a fact of what the one has become, or of what another one has
  pub at_or_else : (P : ℕ → A → Type 0) (q : ℕ) → P q (put f p x q) → ((q ≡ p) × P q x) ⊎ P q (f q)
  at_or_else P q h = dite (ℕ_discrete q p)
      (λ same. inl (same, subst (P q) (ap (put f p x) same ∙ put_here f p x) h))
      (λ other. inr (subst (P q) (put_else f p x q other) h))

-- ---- steps of transactions

pub notes_leaf : NotesLeaf
notes_leaf index active start noted sweep is p l live = record {
  stands = λ o n on among. dite (ℕ_discrete o p)
      (λ same.
      let here = subst (IsAmong n) (ap (put noted p (l ∷ noted p)) same
      ∙ put_here noted p (l ∷ noted p)) among in
      elim (among_cons n l (noted p) here) as
      (λ _. (is_live index n ≡ true) ⊎ IsRetiredFrom index n (start o)) [
        | inl e ↦ inl (ap (is_live index) (sym e) ∙ live)
        | inr old ↦ is.stands o n on (subst (λ q. IsAmong n (noted q)) (sym same) old)
      ])
      (λ other. is.stands o n on (subst (IsAmong n) (put_else noted p (l ∷ noted p) o other) among));
  found = λ s w here at. let f : None ≡ Some s = here in cc;
}

pub forgets_leaves : ForgetsLeaves
forgets_leaves index active start noted sweep sweeper is p = record {
  stands = λ o l on among. is.stands o l on (fewer o l among);
  found = λ s w here at o l lt on among. is.found s w here at o l lt on (fewer o l among);
}
  where
    fewer : (o l : ℕ) → IsAmong l (put noted p [] o) → IsAmong l (noted o)
    fewer o l among = elim (at_or_else noted p [] (λ _ ls. IsAmong l ls) o among) as
        (λ _. IsAmong l (noted o)) [
          | inl h ↦ absurd (among_none l [] refl h.1)
          | inr h ↦ h
        ]

pub begins_noted : BeginsNoted
begins_noted index active start noted sweep sweeper is p clock none = record {
  stands = λ o l. dite (ℕ_discrete o p)
      (λ same on among. absurd (none_here o l same among))
      (λ other on among. subst (λ n. (is_live index l ≡ true) ⊎ IsRetiredFrom index l n)
      (sym (put_else start p clock o other))
      (is.stands o l (sym (put_else active p true o other) ∙ on) among));
  found = λ s w here at o l lt. dite (ℕ_discrete o p)
      (λ same on among. absurd (none_here o l same among))
      (λ other on among. subst (λ n. (least : ℕ) × (w.least ≡ Some least) × (least ≤ n))
      (sym (put_else start p clock o other))
      (is.found s w here at o l lt (sym (put_else active p true o other) ∙ on) among));
}
  where
    none_here : (o l : ℕ) → o ≡ p → IsAmong l (noted o) → ⊥
    none_here o l same among = among_none l (noted o) (ap noted same ∙ none) among

pub ends_noted : EndsNoted
ends_noted index active start noted sweep sweeper is p = record {
  stands = λ o l on among. is.stands o l (was o on) among;
  found = λ s w here at o l lt on among. is.found s w here at o l lt (was o on) among;
}
  where
    was : (o : ℕ) → put active p false o ≡ true → active o ≡ true
    was o on = elim (at_or_else active p false (λ _ b. b ≡ true) o on) as (λ _. active o ≡ true) [
      | inl h ↦ absurd (true≢false (sym h.1))
      | inr h ↦ h
    ]

pub retires_leaves : RetiresLeaves
retires_leaves index index' active start noted sweep sweeper stamp is below live kept = record {
  stands = λ p l on among. elim (is.stands p l on among) as
      (λ _. (is_live index' l ≡ true) ⊎ IsRetiredFrom index' l (start p)) [
        | inl was ↦ elim (live l was) as (λ _. (is_live index' l ≡ true) ⊎ IsRetiredFrom index' l (start p)) [
          | inl now ↦ inl now
          | inr r ↦ inr (r.0, r.1, r.2, (let s = r.3 in let b = below p on in omega arith))
        ]
        | inr r ↦ inr (r.0, kept r.0 r.1, r.2, r.3)
      ];
  found = is.found;
}

-- ---- steps of a sweep

module _ (index : Index) (active : ℕ → Bool) (start : ℕ → ℕ) (noted : ℕ → List ℕ) (sweep : ℕ
    → Option Sweep) where
  -- what a sweep under the index has found
  abbrev pub HasFound : Sweep → Type 0
  HasFound w =
      (p l : ℕ) → p < w.looked → active p ≡ true → IsAmong l (noted p)
      → (least : ℕ) × (w.least ≡ Some least) × (least ≤ start p)

  -- one sweep is another one now, and nothing else has changed
  pub sweep_put : (sweeper sweeper' : Option ℕ) (s : ℕ) (x : Option Sweep)
      → AreNoted index active start noted sweep sweeper
      → ((w : Sweep) → sweeper' ≡ Some s → x ≡ Some w → HasFound w)
      → ((t : ℕ) → (t ≡ s → ⊥) → sweeper' ≡ Some t → sweeper ≡ Some t)
      → AreNoted index active start noted (put sweep s x) sweeper'
  sweep_put sweeper sweeper' s x is new others = record {
    stands = is.stands;
    found = λ t w here at. dite (ℕ_discrete t s)
        (λ same. new w (here ∙ ap (λ n. Some n) same) (sym (ap (put sweep s x) same ∙ put_here sweep s x) ∙ at))
        (λ other. is.found t w (others t other here) (sym (put_else sweep s x t other) ∙ at));
  }

-- a sweep that has looked at no pin has found all of them
nothing_looked : (index : Index) (active : ℕ → Bool) (start : ℕ → ℕ) (noted : ℕ → List ℕ) (sweep : ℕ
    → Option Sweep) (clock : ℕ) (w : Sweep)
    → Some (begun clock) ≡ Some w → HasFound index active start noted sweep w
nothing_looked index active start noted sweep clock w e p l lt =
    let n : 0 ≡ w.looked = ap (λ (u : Sweep). u.looked) (some_is (begun clock) w e) in
    absurd (omega (arith, n, lt))

pub sweeper_begins : SweeperBegins
sweeper_begins index active start noted sweep is s clock =
    sweep_put index active start noted sweep None (Some s) s (Some (begun clock)) is
    (λ w here e. nothing_looked index active start noted sweep clock w e)
    (λ t other e. absurd (other (sym (some_is s t e))))

pub other_sweep_begins : OtherSweepBegins
other_sweep_begins index active start noted sweep sweeper is s clock =
    sweep_put index active start noted sweep sweeper sweeper s (Some (begun clock)) is
    (λ w here e. nothing_looked index active start noted sweep clock w e) (λ t other e. e)

-- the least start after a pin was found is no higher than before, where there was one
least_low : (least found : Option ℕ) (m : ℕ) → least ≡ Some m → (k : ℕ) × (least_after least found ≡ Some k)
    × (k ≤ m)
least_low least None m is = (m, is, (omega arith))
least_low least (Some n) m is = (min m n, ap (λ o. least_after o (Some n)) is, (omega arith))

-- and no higher than the start that was found
least_here : (least : Option ℕ) (n : ℕ) → (k : ℕ) × (least_after least (Some n) ≡ Some k) × (k ≤ n)
least_here None n = (n, refl, (omega arith))
least_here (Some m) n = (min m n, refl, (omega arith))

pub sweep_looks_on : SweepLooksOn
sweep_looks_on index active start noted sweep sweeper s w pin is at pinned =
    sweep_put index active start noted sweep sweeper sweeper s (Some new) is
    (λ u here e. subst (HasFound index active start noted sweep) (some_is new u e) (found here))
    (λ t other e. e)
  where
    new : Sweep
    new = looked_at w pin

    found : sweeper ≡ Some s → HasFound index active start noted sweep (looked_at w pin)
    found here p l lt on among = dite (ℕ_discrete p w.looked)
        (λ same.
        let e = pinned (ap active (sym same) ∙ on) l (subst (λ q. IsAmong l (noted q)) same among) in
        let shown : start_in pin ≡ Some (start w.looked) = ap start_in e ∙ start_pinned (start w.looked) in
        let r = least_here w.least (start w.looked) in
        (r.0, ap (least_after w.least) shown ∙ r.1, subst (λ q. r.0 ≤ start q) (sym same) r.2))
        (λ other.
        let f = is.found s w here at p l (omega (arith, lt, other)) on among in
        let r = least_low w.least (start_in pin) f.0 f.1 in
        (r.0, r.1, (let a = r.2 in let b = f.2 in omega arith)))

pub sweeper_frees : SweeperFrees
sweeper_frees passes index index' active start noted sweep s w is at all few entries kept = record {
  stands = λ p l on among. elim (is.stands p l on among) as
      (λ _. (is_live index' l ≡ true) ⊎ IsRetiredFrom index' l (start p)) [
        | inl live ↦ inl (ap (λ es. list_any (λ e. e.leaf == l) es) entries ∙ live)
        | inr r ↦ (
            let f = is.found s w refl at p l (let n = few p on in omega (arith, n, all)) on among in
            let among' = kept_among f.0 r.0 index.retired (let a = f.2 in let b = r.3 in omega arith) r.1 in
            inr (r.0, subst (IsAmong r.0) (sym (kept f.0 f.1)) among', r.2, r.3)
            )
      ];
  found = is.found;
}

pub sweeper_ends : SweeperEnds
sweeper_ends index active start noted sweep sweeper s is =
    sweep_put index active start noted sweep sweeper None s None is
    (λ w here e. let f : None ≡ Some w = e in cc)
    (λ t other e. let f : None ≡ Some t = e in cc)

pub other_sweep_ends : OtherSweepEnds
other_sweep_ends index active start noted sweep sweeper s is =
    sweep_put index active start noted sweep sweeper sweeper s None is
    (λ w here e. let f : None ≡ Some w = e in cc)
    (λ t other e. e)
