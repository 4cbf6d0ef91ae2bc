-- What putting a record in front of a list and taking it away again do to all lists.
use Rattle.std.proofs.Common.{◌≡◌, ◌≢◌, ℕ, List, [], ◌∷◌, length, refl, sym, ◌∙◌, ap, subst, inl, inr, Some, None, true≢false}
use Rattle.std.specs.Prelude.{Option, true, false, IsSome}
use Rattle.std.specs.List.{list_any}
use Rattle.std.proofs.lemmas.Bool.{cases_eq}
use Rattle.undo_chain.specs.declared.undo.Undo.{Undo}
use Rattle.undo_chain.specs.Records.{lacks_stamp}
use Rattle.undo_chain.specs.Chains.{ChainMap, record_at, unlinked, linked, walked, list_at, IsUnlinked, IsHead, IsHeadOf, AreApart, StaysApart, ChangesOneList}
use Rattle.undo_chain.specs.Links.{HasPath, AreLinked}
use Rattle.undo_chain.proofs.LinkLemmas.{path_avoids, list_avoids, list_step, vacant_unlinked, head_path, some_is}

pub is_there : (o : Option Undo) (u : Undo) → o ≡ Some u → IsSome o
is_there None u e = cc
is_there (Some v) u e = refl

-- a record stands where there is one
pub record_there : (s : List (Option Undo)) (k : ℕ) → IsSome (record_at s k) → (u : Undo) × (record_at s k ≡ Some u)
record_there s k h = go (record_at s k) refl h
  where
    go : (o : Option Undo) → record_at s k ≡ o → IsSome o → (u : Undo) × (record_at s k ≡ Some u)
    go None e there = cc
    go (Some u) e there = (u, e)

-- a head of another list stays one, where nothing new leads to it
other_head : (old new : ChainMap) (key h : ℕ) → ((k : ℕ) → k ≢ key → record_at new.slots k ≡ record_at old.slots k) → IsHead old.slots h → h ≢ key
    → ((u : Undo) → record_at new.slots key ≡ Some u → u.next ≡ Some h → ⊥) → IsHead new.slots h
other_head old new key h agree head ne new_link =
    let u = record_there old.slots h head.there in
    record {
      there = is_there _ u.0 (agree h ne ∙ u.1);
      first = λ k v at next. elim (cases_eq k key) [
        | inl same ↦ new_link v (ap (record_at new.slots) (sym same) ∙ at) next
        | inr other ↦ head.first k v (sym (agree k other) ∙ at) next
      ];
    }

-- ---- a record put in front of a list

module _ (old new : ChainMap) (key : ℕ) (u : Undo) (head : Option ℕ) (is : AreLinked old.slots) (stands : IsHeadOf old head)
    (vacant : record_at old.slots key ≡ None) (put : record_at new.slots key ≡ Some u)
    (agree : (k : ℕ) → k ≢ key → record_at new.slots k ≡ record_at old.slots k) (link : u.next ≡ head) (fresh : u.all_stamped ≡ false) where
  free_key : IsUnlinked old.slots key
  free_key = vacant_unlinked old.slots is key vacant

  occupied : (k : ℕ) (v : Undo) → record_at old.slots k ≡ Some v → k ≢ key
  occupied k v at e = clash (sym at ∙ ap (record_at old.slots) e ∙ vacant)
    where
      clash : ◌≡◌ {A = Option Undo} (Some v) None → ⊥
      clash f = cc

  head_is_head : (h : ℕ) → head ≡ Some h → IsHead old.slots h
  head_is_head h e = subst (λ (q : Option ℕ). IsHeadOf old q) e stands

  head_apart : head ≡ Some key → ⊥
  head_apart e = let h = head_is_head key e in let v = record_there old.slots key h.there in occupied key v.0 v.1 refl

  new_record_is : (v : Undo) → record_at new.slots key ≡ Some v → v ≡ u
  new_record_is v at = some_is v u (sym at ∙ put)

  put_ends : (k : ℕ) (v : Undo) → record_at new.slots k ≡ Some v → HasPath new.slots (Some k)
  put_ends k v at =
      elim (cases_eq k key) [
        | inl same ↦
            let p = head_path old is head stands in
            let q = path_avoids old.slots new.slots key agree free_key head p.keys p.path head_apart in
            record { keys = key ∷ p.keys; path = (u, (record { is = ap Some same; at = put }, rw link q.0)) }
        | inr other ↦
            let p = is.ends k v (sym (agree k other) ∙ at) in
            record { keys = p.keys; path = (path_avoids old.slots new.slots key agree free_key (Some k) p.keys p.path (λ e. other (keys_of e))).0 }
      ]
    where
      keys_of : ◌≡◌ {A = Option ℕ} (Some k) (Some key) → k ≡ key
      keys_of e = cc

  put_found : (k : ℕ) (v : Undo) (q : ℕ) → record_at new.slots k ≡ Some v → v.next ≡ Some q → IsSome (record_at new.slots q)
  put_found k v q at next =
      let w = target in is_there _ w.0 (agree q (occupied q w.0 w.1) ∙ w.1)
    where
      target : (w : Undo) × (record_at old.slots q ≡ Some w)
      target = elim (cases_eq k key) [
        | inl same ↦
            let e : head ≡ Some q = sym link ∙ ap (λ (x : Undo). x.next) (sym (new_record_is v (ap (record_at new.slots) (sym same) ∙ at))) ∙ next in
            record_there old.slots q (head_is_head q e).there
        | inr other ↦ record_there old.slots q (is.found k v q (sym (agree k other) ∙ at) next)
      ]

  put_once : (j k : ℕ) (v w : Undo) (q : ℕ) → record_at new.slots j ≡ Some v → record_at new.slots k ≡ Some w → v.next ≡ Some q → w.next ≡ Some q → j ≡ k
  put_once j k v w q at_j at_k next_j next_k =
      elim (cases_eq j key) [
        | inl same_j ↦ elim (cases_eq k key) [
          | inl same_k ↦ same_j ∙ sym same_k
          | inr other_k ↦ absurd ((head_is_head q (leads v (ap (record_at new.slots) (sym same_j) ∙ at_j) next_j)).first k w (sym (agree k other_k) ∙ at_k) next_k)
        ]
        | inr other_j ↦ elim (cases_eq k key) [
          | inl same_k ↦ absurd ((head_is_head q (leads w (ap (record_at new.slots) (sym same_k) ∙ at_k) next_k)).first j v (sym (agree j other_j) ∙ at_j) next_j)
          | inr other_k ↦ is.once j k v w q (sym (agree j other_j) ∙ at_j) (sym (agree k other_k) ∙ at_k) next_j next_k
        ]
      ]
    where
      leads : (x : Undo) → record_at new.slots key ≡ Some x → x.next ≡ Some q → head ≡ Some q
      leads x at next = sym link ∙ ap (λ (y : Undo). y.next) (sym (new_record_is x at)) ∙ next

  put_stamped : (k : ℕ) (v : Undo) → record_at new.slots k ≡ Some v → v.all_stamped ≡ true → list_any lacks_stamp (linked (walked (length new.slots) new.slots) (Some k)) ≡ false
  put_stamped k v at said =
      elim (cases_eq k key) [
        | inl same ↦ absurd (true≢false (sym said ∙ ap (λ (x : Undo). x.all_stamped) (new_record_is v (ap (record_at new.slots) (sym same) ∙ at)) ∙ fresh))
        | inr other ↦
            let at_old = sym (agree k other) ∙ at in
            ap (list_any lacks_stamp) (list_avoids old.slots new.slots key agree free_key (Some k) (is.ends k v at_old) (λ e. other (some_is k key e)))
            ∙ is.stamped k v at_old said
      ]

  -- the records stay linked
  pub put_linked : AreLinked new.slots
  put_linked = record { found = put_found; once = put_once; ends = put_ends; stamped = put_stamped }

  -- the record stands before the list
  pub put_list : list_at new (Some key) ≡ unlinked u ∷ list_at old head
  put_list =
      list_step new.slots put_linked key u put
      ∙ ap (λ q. unlinked u ∷ list_at new q) link
      ∙ ap (λ us. unlinked u ∷ us) (list_avoids old.slots new.slots key agree free_key head (head_path old is head stands) head_apart)

  -- and all other lists are as they were
  pub put_others : ChangesOneList old new head (Some key)
  put_others = record { stands = here; others = others_stay }
    where
      here : IsHead new.slots key
      here = record {
        there = is_there _ u put;
        first = λ k v at next. elim (cases_eq k key) [
          | inl same ↦ head_apart (sym link ∙ ap (λ (y : Undo). y.next) (sym (new_record_is v (ap (record_at new.slots) (sym same) ∙ at))) ∙ next)
          | inr other ↦ free_key k v (sym (agree k other) ∙ at) next
        ];
      }

      others_stay : (q : Option ℕ) → IsHeadOf old q → AreApart head q → StaysApart old new q (Some key)
      others_stay None h apart = record { head = tt; list = refl; apart = λ k e f. cc }
      others_stay (Some h) is_head apart =
          let v = record_there old.slots h is_head.there in
          let ne : h ≢ key = occupied h v.0 v.1 in
          record {
            head = other_head old new key h agree is_head ne (λ x at next. apart h (sym link ∙ ap (λ (y : Undo). y.next) (sym (new_record_is x at)) ∙ next) refl);
            list = list_avoids old.slots new.slots key agree free_key (Some h) (head_path old is (Some h) is_head) (λ e. ne (some_is h key e));
            apart = λ k e f. ne (sym (some_is key h (e ∙ sym f)));
          }

-- ---- the first record of a list taken away

module _ (old new : ChainMap) (key : ℕ) (u : Undo) (is : AreLinked old.slots) (head : IsHead old.slots key)
    (was : record_at old.slots key ≡ Some u) (gone : record_at new.slots key ≡ None)
    (agree : (k : ℕ) → k ≢ key → record_at new.slots k ≡ record_at old.slots k) where
  left : (k : ℕ) (v : Undo) → record_at new.slots k ≡ Some v → k ≢ key
  left k v at e = clash (sym at ∙ ap (record_at new.slots) e ∙ gone)
    where
      clash : ◌≡◌ {A = Option Undo} (Some v) None → ⊥
      clash f = cc

  before : (k : ℕ) (v : Undo) → record_at new.slots k ≡ Some v → record_at old.slots k ≡ Some v
  before k v at = sym (agree k (left k v at)) ∙ at

  -- the records stay linked
  pub pop_linked : AreLinked new.slots
  pop_linked = record {
    found = λ k v q at next.
        let w = record_there old.slots q (is.found k v q (before k v at) next) in
        is_there _ w.0 (agree q (λ e. head.first k v (before k v at) (next ∙ ap Some e)) ∙ w.1);
    once = λ j k v w q at_j at_k. is.once j k v w q (before j v at_j) (before k w at_k);
    ends = λ k v at.
        let p = is.ends k v (before k v at) in
        record { keys = p.keys; path = (path_avoids old.slots new.slots key agree head.first (Some k) p.keys p.path (λ e. left k v at (some_is k key e))).0 };
    stamped = λ k v at said.
        ap (list_any lacks_stamp) (list_avoids old.slots new.slots key agree head.first (Some k) (is.ends k v (before k v at)) (λ e. left k v at (some_is k key e)))
        ∙ is.stamped k v (before k v at) said;
  }

  next_apart : u.next ≡ Some key → ⊥
  next_apart e = head.first key u was e

  next_path : HasPath old.slots u.next
  next_path = go u.next refl
    where
      go : (n : Option ℕ) → u.next ≡ n → HasPath old.slots n
      go None e = record { keys = []; path = refl }
      go (Some q) e = let w = record_there old.slots q (is.found key u q was e) in is.ends q w.0 w.1

  -- the list was the record before what is left
  pub pop_list : list_at old (Some key) ≡ unlinked u ∷ list_at new u.next
  pop_list =
      list_step old.slots is key u was
      ∙ ap (λ us. unlinked u ∷ us) (sym (list_avoids old.slots new.slots key agree head.first u.next next_path next_apart))

  -- and all other lists are as they were
  pub pop_others : ChangesOneList old new (Some key) u.next
  pop_others = record { stands = here u.next refl; others = others_stay }
    where
      here : (n : Option ℕ) → u.next ≡ n → IsHeadOf new n
      here None e = tt
      here (Some q) e =
          let w = record_there old.slots q (is.found key u q was e) in
          record {
            there = is_there _ w.0 (agree q (λ f. next_apart (e ∙ ap Some f)) ∙ w.1);
            first = λ k v at next. left k v at (is.once k key v u q (before k v at) was next e);
          }

      others_stay : (q : Option ℕ) → IsHeadOf old q → AreApart (Some key) q → StaysApart old new q u.next
      others_stay None h apart = record { head = tt; list = refl; apart = λ k e f. cc }
      others_stay (Some h) is_head apart =
          let ne : h ≢ key = λ e. apart key refl (ap Some e) in
          record {
            head = other_head old new key h agree is_head ne (λ x at next. left key x at refl);
            list = list_avoids old.slots new.slots key agree head.first (Some h) (head_path old is (Some h) is_head) (λ e. ne (some_is h key e));
            apart = λ k e f. is_head.first key u was (e ∙ sym f);
          }
