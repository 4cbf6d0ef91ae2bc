-- Stamps written into the records of one list.
use Rattle.std.proofs.Common.{◌≡◌, ◌≢◌, ◌⊎◌, ℕ, zero, suc, ◌<◌, List, [], ◌∷◌, ◌++◌, length, map, nat_eq, refl, sym, ◌∙◌, ap, subst, arith, inl, inr, Some, None, true≢false}
use Rattle.std.specs.Prelude.{◌≤◌, Option, Bool, true, false, cond, not, is_some, ◌&&◌, ◌||◌, IsSome, IsSomeAnd}
use Rattle.std.specs.Option.{option_map, option_map_or}
use Rattle.std.specs.List.{list_any}
use Rattle.std.proofs.lemmas.Bool.{cases_eq}
use Rattle.std.proofs.lemmas.Bool.Decides.{nat_tests}
use Rattle.std.proofs.lemmas.List.Folds.{list_any-append}
use Rattle.graph_model.specs.declared.journal.TxnName.{TxnName}
use Rattle.graph_model.specs.Conflict.{same_name}
use Rattle.undo_chain.specs.declared.undo.Undo.{Undo}
use Rattle.undo_chain.specs.Records.{UndoRecord, lacks_stamp, stamped_by}
use Rattle.undo_chain.specs.Chains.{ChainMap, record_at, unlinked, linked, walked, list_at, IsUnlinked, IsHead, IsHeadOf, AreApart, StaysApart, ChangesOneList}
use Rattle.undo_chain.specs.Links.{IsStep, IsPath, AreLinked}
use Rattle.undo_chain.specs.Walks.{with_stamp, is_to_stamp, stamped_undo, marked, Restamps, Remarks, KeepsLists, IsStamped}
use Rattle.undo_chain.proofs.LinkLemmas.{step_list, list_step, no_list, path_length, path_list, path_there, head_path, some_is}
use Rattle.undo_chain.proofs.ChainLemmas.{record_there, is_there}

-- ---- the same links

next_of : Option Undo → Option (Option ℕ)
next_of o = option_map (λ u. u.next) o

abbrev SameLinks : List (Option Undo) → List (Option Undo) → Type 0
SameLinks s t = (k : ℕ) → option_map (λ (u : Undo). u.next) (record_at t k) ≡ option_map (λ (u : Undo). u.next) (record_at s k)

-- where one of two has a record, the other has one with the same link
same_record : (s t : List (Option Undo)) → SameLinks s t → (k : ℕ) (u : Undo) → record_at t k ≡ Some u → (v : Undo) × ((record_at s k ≡ Some v) × (v.next ≡ u.next))
same_record s t same k u at = go (record_at s k) refl (sym (ap (option_map (λ (x : Undo). x.next)) at) ∙ same k)
  where
    go : (o : Option Undo) → record_at s k ≡ o → Some u.next ≡ option_map (λ (x : Undo). x.next) o → (v : Undo) × ((record_at s k ≡ Some v) × (v.next ≡ u.next))
    go None e f = cc
    go (Some v) e f = (v, (e, next_is v f))
      where
        next_is : (w : Undo) → ◌≡◌ {A = Option (Option ℕ)} (Some u.next) (Some w.next) → w.next ≡ u.next
        next_is w g = cc

flip_links : (s t : List (Option Undo)) → SameLinks s t → SameLinks t s
flip_links s t same k = sym (same k)

path_relinked : (s t : List (Option Undo)) → SameLinks s t → (h : Option ℕ) (ks : List ℕ) → IsPath s h ks → IsPath t h ks
path_relinked s t same h [] p = p
path_relinked s t same h (k ∷ ks) p =
    let v = same_record t s (flip_links s t same) k p.0 p.1.0.at in
    (v.0, (record { is = p.1.0.is; at = v.1.0 }, path_relinked s t same v.0.next ks (subst (λ (q : Option ℕ). IsPath s q ks) (sym v.1.1) p.1.1)))

-- what each record says of those from it on is right
abbrev AreMarked : List (Option Undo) → Type 0
AreMarked s = (k : ℕ) (u : Undo) → record_at s k ≡ Some u → u.all_stamped ≡ true → list_any lacks_stamp (linked (walked (length s) s) (Some k)) ≡ false

-- records with the same links stay linked
pub relinked : (s t : List (Option Undo)) → SameLinks s t → AreMarked t → AreLinked s → AreLinked t
relinked s t same marks is = record {
  stamped = marks;
  found = λ k u q at next.
      let v = same_record s t same k u at in
      let w = record_there s q (is.found k v.0 q v.1.0 (v.1.1 ∙ next)) in
      let x = same_record t s (flip_links s t same) q w.0 w.1 in
      is_there _ x.0 x.1.0;
  once = λ j k u v q at_j at_k next_j next_k.
      let w = same_record s t same j u at_j in
      let x = same_record s t same k v at_k in
      is.once j k w.0 x.0 q w.1.0 x.1.0 (w.1.1 ∙ next_j) (x.1.1 ∙ next_k);
  ends = λ k u at.
      let v = same_record s t same k u at in
      let p = is.ends k v.0 v.1.0 in
      record { keys = p.keys; path = path_relinked s t same (Some k) p.keys p.path };
}

head_relinked : (s t : List (Option Undo)) → SameLinks s t → (k : ℕ) → IsHead s k → IsHead t k
head_relinked s t same k h =
    let v = record_there s k h.there in
    let x = same_record t s (flip_links s t same) k v.0 v.1 in
    record { there = is_there _ x.0 x.1.0; first = λ j u at next. let w = same_record s t same j u at in h.first j w.0 w.1.0 (w.1.1 ∙ next) }

-- where one record changes, and its link stays
changed_links : (s t : List (Option Undo)) (key : ℕ) (f : Undo → Undo) → ((u : Undo) → (f u).next ≡ u.next) → record_at t key ≡ option_map f (record_at s key)
    → ((k : ℕ) → k ≢ key → record_at t k ≡ record_at s k) → SameLinks s t
changed_links s t key f keeps here else k =
    elim (cases_eq k key) [
      | inl same ↦ ap (λ j. option_map (λ (u : Undo). u.next) (record_at t j)) same ∙ ap (option_map (λ (u : Undo). u.next)) here ∙ kept (record_at s key) ∙ ap (λ j. option_map (λ (u : Undo). u.next) (record_at s j)) (sym same)
      | inr other ↦ ap (option_map (λ (u : Undo). u.next)) (else k other)
    ]
  where
    kept : (o : Option Undo) → option_map (λ (u : Undo). u.next) (option_map f o) ≡ option_map (λ (u : Undo). u.next) o
    kept None = refl
    kept (Some u) = ap (λ (q : Option ℕ). Some q) (keeps u)

neither : (a b : Bool) → (a || b) ≡ false → (a ≡ false) × (b ≡ false)
neither true b f = cc
neither false b f = (refl, f)

-- ---- lists in which one record gets its stamp

module _ (s t : List (Option Undo)) (stamp : ℕ) (each : (k : ℕ) → (record_at t k ≡ record_at s k) ⊎ (record_at t k ≡ option_map (with_stamp stamp) (record_at s k))) where
  -- where all had stamps all have them
  walked_stays : (n k : ℕ) → list_any lacks_stamp (walked n s k) ≡ false → list_any lacks_stamp (walked n t k) ≡ false
  walked_stays zero k e = e
  walked_stays (suc n) k e = go (record_at s k) (record_at t k) (each k) (linked_stays (walked_stays n)) e
    where
      linked_stays : ((j : ℕ) → list_any lacks_stamp (walked n s j) ≡ false → list_any lacks_stamp (walked n t j) ≡ false)
          → (q : Option ℕ) → list_any lacks_stamp (linked (walked n s) q) ≡ false → list_any lacks_stamp (linked (walked n t) q) ≡ false
      linked_stays rest None f = f
      linked_stays rest (Some j) f = rest j f

      any_in : Option Undo → Bool
      any_in o = list_any lacks_stamp (option_map_or (λ (u : Undo). unlinked u ∷ linked (walked n t) u.next) o [])

      go : (o p : Option Undo) → (p ≡ o) ⊎ (p ≡ option_map (with_stamp stamp) o)
          → ((q : Option ℕ) → list_any lacks_stamp (linked (walked n s) q) ≡ false → list_any lacks_stamp (linked (walked n t) q) ≡ false)
          → list_any lacks_stamp (option_map_or (λ (u : Undo). unlinked u ∷ linked (walked n s) u.next) o []) ≡ false → any_in p ≡ false
      go None p (inl same) rest f = ap any_in same
      go None p (inr same) rest f = ap any_in same
      go (Some u) p (inl same) rest f =
          let both = neither (lacks_stamp (unlinked u)) (list_any lacks_stamp (linked (walked n s) u.next)) f in
          ap any_in same ∙ ap (λ b. b || list_any lacks_stamp (linked (walked n t) u.next)) both.0 ∙ rest u.next both.1
      go (Some u) p (inr same) rest f =
          let both = neither (lacks_stamp (unlinked u)) (list_any lacks_stamp (linked (walked n s) u.next)) f in
          ap any_in same ∙ rest u.next both.1

-- a record that gets a stamp leads where it led, and all that were said to be stamped are
pub stamp_linked : (old new : ChainMap) (key stamp : ℕ) → AreLinked old.slots → Restamps old new key stamp → AreLinked new.slots
stamp_linked old new key stamp is changed =
    relinked old.slots new.slots (changed_links old.slots new.slots key (with_stamp stamp) (λ u. refl) changed.here changed.else) marks is
  where
    each : (k : ℕ) → (record_at new.slots k ≡ record_at old.slots k) ⊎ (record_at new.slots k ≡ option_map (with_stamp stamp) (record_at old.slots k))
    each k = elim (cases_eq k key) [
      | inl same ↦ inr (ap (record_at new.slots) same ∙ changed.here ∙ ap (λ j. option_map (with_stamp stamp) (record_at old.slots j)) (sym same))
      | inr other ↦ inl (changed.else k other)
    ]

    fresh : (o : Option Undo) (v : Undo) → ◌≡◌ {A = Option Undo} (Some v) (option_map (with_stamp stamp) o) → v.all_stamped ≡ false
    fresh None v e = cc
    fresh (Some u) v e = ap (λ (x : Undo). x.all_stamped) (some_is_undo v (with_stamp stamp u) e)
      where
        some_is_undo : (x y : Undo) → ◌≡◌ {A = Option Undo} (Some x) (Some y) → x ≡ y
        some_is_undo x y f = cc

    marks : AreMarked new.slots
    marks k v at said = elim (cases_eq k key) [
      | inl same ↦ absurd (true≢false (sym said ∙ fresh (record_at old.slots key) v (sym at ∙ ap (record_at new.slots) same ∙ changed.here)))
      | inr other ↦
          ap (λ n. list_any lacks_stamp (walked n new.slots k)) changed.size
          ∙ walked_stays old.slots new.slots stamp each (length old.slots) k (is.stamped k v (sym (changed.else k other) ∙ at) said)
    ]

-- ---- a record that says that from it on all are stamped

module _ (old new : ChainMap) (key : ℕ) (is : AreLinked old.slots) (changed : Remarks old new key) where
  each_marked : (k : ℕ) → (record_at new.slots k ≡ record_at old.slots k) ⊎ (record_at new.slots k ≡ option_map marked (record_at old.slots k))
  each_marked k = elim (cases_eq k key) [
    | inl same ↦ inr (ap (record_at new.slots) same ∙ changed.here ∙ ap (λ j. option_map marked (record_at old.slots j)) (sym same))
    | inr other ↦ inl (changed.else k other)
  ]

  same_walk : (n k : ℕ) → walked n new.slots k ≡ walked n old.slots k
  same_walk zero k = refl
  same_walk (suc n) k = go (record_at old.slots k) (record_at new.slots k) (each_marked k) (same_linked (same_walk n))
    where
      same_linked : ((j : ℕ) → walked n new.slots j ≡ walked n old.slots j) → (q : Option ℕ) → linked (walked n new.slots) q ≡ linked (walked n old.slots) q
      same_linked rest None = refl
      same_linked rest (Some j) = rest j

      from : Option Undo → List UndoRecord
      from o = option_map_or (λ (u : Undo). unlinked u ∷ linked (walked n new.slots) u.next) o []

      go : (o p : Option Undo) → (p ≡ o) ⊎ (p ≡ option_map marked o) → ((q : Option ℕ) → linked (walked n new.slots) q ≡ linked (walked n old.slots) q)
          → from p ≡ option_map_or (λ (u : Undo). unlinked u ∷ linked (walked n old.slots) u.next) o []
      go None p (inl same) rest = ap from same
      go None p (inr same) rest = ap from same
      go (Some u) p (inl same) rest = ap from same ∙ ap (λ us. unlinked u ∷ us) (rest u.next)
      go (Some u) p (inr same) rest = ap from same ∙ ap (λ us. unlinked u ∷ us) (rest u.next)

  same_list : (q : Option ℕ) → list_at new q ≡ list_at old q
  same_list None = refl
  same_list (Some k) = ap (λ n. walked n new.slots k) changed.size ∙ same_walk (length old.slots) k

  mark_links : SameLinks old.slots new.slots
  mark_links = changed_links old.slots new.slots key marked (λ u. refl) changed.here changed.else

  -- the lists are as they were
  pub mark_keeps : KeepsLists old new
  mark_keeps = record { heads = heads; lists = same_list; spare = changed.spare }
    where
      heads : (q : Option ℕ) → IsHeadOf old q → IsHeadOf new q
      heads None h = tt
      heads (Some k) h = head_relinked old.slots new.slots mark_links k h

  -- and what it says is right
  pub mark_linked : list_any lacks_stamp (list_at old (Some key)) ≡ false → AreLinked new.slots
  mark_linked all = relinked old.slots new.slots mark_links marks is
    where
      marks : AreMarked new.slots
      marks k v at said = elim (cases_eq k key) [
        | inl same ↦ ap (list_any lacks_stamp) (same_list (Some k)) ∙ ap (λ j. list_any lacks_stamp (list_at old (Some j))) same ∙ all
        | inr other ↦ ap (list_any lacks_stamp) (same_list (Some k)) ∙ is.stamped k v (sym (changed.else k other) ∙ at) said
      ]

-- where no record from the key on lacks a stamp, that one has one
pub key_stamped : (c : ChainMap) (key : ℕ) → AreLinked c.slots → IsSome (record_at c.slots key) → list_any lacks_stamp (list_at c (Some key)) ≡ false
    → IsSomeAnd (record_at c.slots key) (λ u. IsSome u.stamp)
key_stamped c key is there all =
    let u = record_there c.slots key there in
    let both = neither (lacks_stamp (unlinked u.0)) (list_any lacks_stamp (list_at c u.0.next)) (sym (ap (list_any lacks_stamp) (list_step c.slots is key u.0 u.1)) ∙ all) in
    subst (λ (o : Option Undo). IsSomeAnd o (λ v. IsSome v.stamp)) (sym u.1) (has u.0.stamp both.0)
  where
    has : (o : Option ℕ) → not (is_some o) ≡ false → IsSome o
    has None e = cc
    has (Some n) e = refl

-- ---- two lists share no record

is_in_or : (q k : ℕ) (ks : List ℕ) → list_any (nat_eq q) (k ∷ ks) ≡ true → (q ≡ k) ⊎ (list_any (nat_eq q) ks ≡ true)
is_in_or q k ks e = elim (cases_eq q k) [ inl same ↦ inl same | inr other ↦ inr (later other) ]
  where
    later : (q ≡ k → ⊥) → list_any (nat_eq q) ks ≡ true
    later other = grind (arith, nat_tests)

self_in : (k : ℕ) (ks : List ℕ) → list_any (nat_eq k) (k ∷ ks) ≡ true
self_in k ks = grind (arith, nat_tests)

in_more : (q k : ℕ) (ks : List ℕ) → list_any (nat_eq q) ks ≡ true → list_any (nat_eq q) (k ∷ ks) ≡ true
in_more q k ks e = go (nat_eq q k) e
  where
    go : (t : Bool) → list_any (nat_eq q) ks ≡ true → (t || list_any (nat_eq q) ks) ≡ true
    go true f = refl
    go false f = f

-- a key of a path is its head, or the next one of a key before it
pred : (s : List (Option Undo)) (h : Option ℕ) (ls : List ℕ) (y : ℕ) → IsPath s h ls → list_any (nat_eq y) ls ≡ true
    → (h ≡ Some y) ⊎ ((z : ℕ) × ((u : Undo) × ((list_any (nat_eq z) ls ≡ true) × ((record_at s z ≡ Some u) × (u.next ≡ Some y)))))
pred s h [] y p e = cc
pred s h (k ∷ ls) y p e =
    elim (is_in_or y k ls e) [
      | inl same ↦ inl (p.1.0.is ∙ ap Some (sym same))
      | inr more ↦ elim (pred s p.0.next ls y p.1.1 more) [
        | inl next ↦ inr (k, (p.0, (self_in k ls, (p.1.0.at, next))))
        | inr r ↦ inr (r.0, (r.1.0, (in_more r.0 k ls r.1.1.0, (r.1.1.1.0, r.1.1.1.1))))
      ]
    ]

module _ (s : List (Option Undo)) (is : AreLinked s) (q : Option ℕ) (ls : List ℕ) (path : IsPath s q ls) (free : (y : ℕ) → q ≡ Some y → IsUnlinked s y) where
  outside : (h : Option ℕ) (ks : List ℕ) → IsPath s h ks → ((x : ℕ) → h ≡ Some x → list_any (nat_eq x) ls ≡ true → ⊥) → (x : ℕ) → list_any (nat_eq x) ks ≡ true → list_any (nat_eq x) ls ≡ true → ⊥
  outside h [] p none x e f = cc
  outside h (k ∷ ks) p none x e f =
      elim (is_in_or x k ks e) [
        | inl same ↦ none x (p.1.0.is ∙ ap Some (sym same)) f
        | inr more ↦ outside p.0.next ks p.1.1 next_none x more f
      ]
    where
      next_none : (y : ℕ) → p.0.next ≡ Some y → list_any (nat_eq y) ls ≡ true → ⊥
      next_none y next g =
          elim (pred s q ls y path g) [
            | inl begins ↦ free y begins k p.0 p.1.0.at next
            | inr r ↦
                let same : r.0 ≡ k = is.once r.0 k r.1.0 p.0 y r.1.1.1.0 p.1.0.at r.1.1.1.1 next in
                none k p.1.0.is (subst (λ (z : ℕ). list_any (nat_eq z) ls ≡ true) same r.1.1.0)
          ]

head_free : (c : ChainMap) (q : Option ℕ) → IsHeadOf c q → (y : ℕ) → q ≡ Some y → IsUnlinked c.slots y
head_free c None h y e = cc
head_free c (Some k) h y e = subst (λ (z : ℕ). IsUnlinked c.slots z) (some_is k y e) h.first

-- no record stands in two lists
lists_apart : (c : ChainMap) → AreLinked c.slots → (h q : Option ℕ) → IsHeadOf c h → IsHeadOf c q → AreApart h q → (ks ls : List ℕ) → IsPath c.slots h ks → IsPath c.slots q ls
    → (x : ℕ) → list_any (nat_eq x) ks ≡ true → list_any (nat_eq x) ls ≡ true → ⊥
lists_apart c is h q h_head q_head apart ks ls h_path q_path =
    outside c.slots is q ls q_path (head_free c q q_head) h ks h_path first
  where
    first : (x : ℕ) → h ≡ Some x → list_any (nat_eq x) ls ≡ true → ⊥
    first x e f =
        elim (pred c.slots q ls x q_path f) [
          | inl begins ↦ apart x e begins
          | inr r ↦ head_free c h h_head x e r.0 r.1.0 r.1.1.1.0 r.1.1.1.1
        ]

-- ---- one record stamped

module _ (by : TxnName) (stamp : ℕ) where
  stamped_next : (v : Undo) → (stamped_undo by stamp v).next ≡ v.next
  stamped_next v = go (is_to_stamp by v)
    where
      go : (t : Bool) → (cond t (with_stamp stamp v) v).next ≡ v.next
      go true = refl
      go false = refl

  stamped_writer : (v : Undo) → (stamped_undo by stamp v).by ≡ v.by
  stamped_writer v = go (is_to_stamp by v)
    where
      go : (t : Bool) → (cond t (with_stamp stamp v) v).by ≡ v.by
      go true = refl
      go false = refl

  stamped_record : (v : Undo) → unlinked (stamped_undo by stamp v) ≡ stamped_by by stamp (unlinked v)
  stamped_record v = go (is_to_stamp by v)
    where
      go : (t : Bool) → unlinked (cond t (with_stamp stamp v) v) ≡ cond t (record { by = v.by; stamp = Some stamp; older = v.older }) (unlinked v)
      go true = refl
      go false = refl

-- ---- the loop

module _ (old now : ChainMap) (by : TxnName) (stamp : ℕ) (head link : Option ℕ) (key : ℕ) (u : Undo) (is : IsStamped old now by stamp head link)
    (at_key : link ≡ Some key) (at : record_at now.slots key ≡ Some u) where
  -- the record as it was
  was : (v : Undo) × ((ks : List ℕ) × ((record_at old.slots key ≡ Some v) × ((is.rest ≡ key ∷ ks) × IsPath old.slots v.next ks)))
  was = go is.rest refl is.ahead
    where
      go : (rest : List ℕ) → is.rest ≡ rest → IsPath old.slots link rest → (v : Undo) × ((ks : List ℕ) × ((record_at old.slots key ≡ Some v) × ((is.rest ≡ key ∷ ks) × IsPath old.slots v.next ks)))
      go [] e p = absurd (clash (sym at_key ∙ p))
        where
          clash : ◌≡◌ {A = Option ℕ} (Some key) None → ⊥
          clash f = cc
      go (k ∷ ks) e p =
          let same : k ≡ key = some_is k key (sym p.1.0.is ∙ at_key) in
          (p.0, (ks, (ap (record_at old.slots) (sym same) ∙ p.1.0.at, (e ∙ ap (λ j. j ∷ ks) same, p.1.1))))

  -- it is as it was, or stamped already
  as_was : (u ≡ was.0) ⊎ (u ≡ stamped_undo by stamp was.0)
  as_was = go (list_any (nat_eq key) is.done) refl
    where
      go : (t : Bool) → list_any (nat_eq key) is.done ≡ t → (u ≡ was.0) ⊎ (u ≡ stamped_undo by stamp was.0)
      go true e = inr (some_undo u (stamped_undo by stamp was.0) (sym at ∙ is.here key e ∙ ap (option_map (stamped_undo by stamp)) was.1.1.0))
        where
          some_undo : (x y : Undo) → ◌≡◌ {A = Option Undo} (Some x) (Some y) → x ≡ y
          some_undo x y f = cc
      go false e = inl (some_undo u was.0 (sym at ∙ is.else key e ∙ was.1.1.0))
        where
          some_undo : (x y : Undo) → ◌≡◌ {A = Option Undo} (Some x) (Some y) → x ≡ y
          some_undo x y f = cc

  same_next : u.next ≡ was.0.next
  same_next = elim as_was [ inl e ↦ ap (λ (x : Undo). x.next) e | inr e ↦ ap (λ (x : Undo). x.next) e ∙ stamped_next by stamp was.0 ]

  -- the link of the loop leads on
  pub stamp_smaller : length (list_at old u.next) < length (list_at old link)
  stamp_smaller =
      let ks = was.1.0 in
      let rest : IsPath old.slots link (key ∷ ks) = subst (IsPath old.slots link) was.1.1.1.0 is.ahead in
      let next : IsPath old.slots u.next ks = subst (λ (q : Option ℕ). IsPath old.slots q ks) (sym same_next) was.1.1.1.1 in
      let a : length (list_at old link) ≡ suc (length ks) = path_list old.slots link (key ∷ ks) rest (length old.slots) (path_length old.slots link (key ∷ ks) rest) in
      let b : length (list_at old u.next) ≡ length ks = path_list old.slots u.next ks next (length old.slots) (path_length old.slots u.next ks next) in
      omega arith

  module _ (later : ChainMap) (here : record_at later.slots key ≡ Some (stamped_undo by stamp was.0)) (else : (k : ℕ) → k ≢ key → record_at later.slots k ≡ record_at now.slots k)
      (size : length later.slots ≡ length now.slots) (spare : later.spare ≡ now.spare) where
    goes_on : IsStamped old later by stamp head u.next
    goes_on = record {
      done = is.done ++ key ∷ [];
      rest = was.1.0;
      whole = subst (IsPath old.slots head) (ap (λ ks. is.done ++ ks) was.1.1.1.0 ∙ sym (append_more is.done key was.1.0)) is.whole;
      ahead = subst (λ (q : Option ℕ). IsPath old.slots q was.1.0) (sym same_next) was.1.1.1.1;
      here = λ k e. elim (cases_eq k key) [
        | inl same ↦ ap (record_at later.slots) same ∙ here ∙ sym (ap (option_map (stamped_undo by stamp)) (ap (record_at old.slots) same ∙ was.1.1.0))
        | inr other ↦ else k other ∙ is.here k (sym (not_last k other) ∙ e)
      ];
      else = λ k e. elim (cases_eq k key) [
        | inl same ↦ absurd (clash (sym (last k same) ∙ e))
        | inr other ↦ else k other ∙ is.else k (sym (not_last k other) ∙ e)
      ];
      size = size ∙ is.size;
      spare = spare ∙ is.spare;
    }
      where
        append_more : (xs : List ℕ) (x : ℕ) (ys : List ℕ) → (xs ++ x ∷ []) ++ ys ≡ xs ++ x ∷ ys
        append_more [] x ys = refl
        append_more (z ∷ xs) x ys = ap (λ zs. z ∷ zs) (append_more xs x ys)

        not_last : (k : ℕ) → k ≢ key → list_any (nat_eq k) (is.done ++ key ∷ []) ≡ list_any (nat_eq k) is.done
        not_last k ne = list_any-append (nat_eq k) is.done (key ∷ []) ∙ or_else k ne (list_any (nat_eq k) is.done)
          where
            or_else : (j : ℕ) → j ≢ key → (t : Bool) → (t || list_any (nat_eq j) (key ∷ [])) ≡ t
            or_else j n t = grind (arith, nat_tests)

        last : (k : ℕ) → k ≡ key → list_any (nat_eq k) (is.done ++ key ∷ []) ≡ true
        last k e = list_any-append (nat_eq k) is.done (key ∷ []) ∙ or_true k e (list_any (nat_eq k) is.done)
          where
            or_true : (j : ℕ) → j ≡ key → (t : Bool) → (t || list_any (nat_eq j) (key ∷ [])) ≡ true
            or_true j n t = grind (arith, nat_tests)

        clash : true ≡ false → ⊥
        clash f = cc

  -- a record that is to be stamped is as it was
  as_it_stood : is_to_stamp by u ≡ true → u ≡ was.0
  as_it_stood due = elim as_was [ inl e ↦ e | inr e ↦ absurd (true≢false (sym due ∙ ap (is_to_stamp by) e ∙ not_again was.0)) ]
    where
      not_again : (v : Undo) → is_to_stamp by (stamped_undo by stamp v) ≡ false
      not_again v = go (is_to_stamp by v) refl
        where
          has_stamp : (b : Bool) → (b && false) ≡ false
          has_stamp true = refl
          has_stamp false = refl

          go : (t : Bool) → is_to_stamp by v ≡ t → is_to_stamp by (stamped_undo by stamp v) ≡ false
          go true e = ap (λ t. is_to_stamp by (cond t (with_stamp stamp v) v)) e ∙ has_stamp (same_name v.by by)
          go false e = ap (λ t. is_to_stamp by (cond t (with_stamp stamp v) v)) e ∙ e

  -- it is stamped
  pub stamp_on : (later : ChainMap) → is_to_stamp by u ≡ true → Restamps now later key stamp → IsStamped old later by stamp head u.next
  stamp_on later due r =
      goes_on later (r.here ∙ ap (option_map (with_stamp stamp)) at ∙ ap Some (ap (with_stamp stamp) (as_it_stood due) ∙ sym stamped_was)) r.else r.size r.spare
    where
      stamped_was : stamped_undo by stamp was.0 ≡ with_stamp stamp was.0
      stamped_was = ap (λ t. cond t (with_stamp stamp was.0) was.0) (ap (is_to_stamp by) (sym (as_it_stood due)) ∙ due)

  -- another one stays
  pub stamp_skip : is_to_stamp by u ≡ false → IsStamped old now by stamp head u.next
  stamp_skip other = goes_on now (at ∙ ap Some as_it_is) (λ k ne. refl) refl refl
    where
      as_it_is : u ≡ stamped_undo by stamp was.0
      as_it_is = elim as_was [
        | inl e ↦ e ∙ sym (ap (λ t. cond t (with_stamp stamp was.0) was.0) (ap (is_to_stamp by) (sym e) ∙ other))
        | inr e ↦ e
      ]

-- no record is stamped yet
pub stamp_start : (c : ChainMap) (by : TxnName) (stamp : ℕ) (head : Option ℕ) → AreLinked c.slots → IsHeadOf c head → IsStamped c c by stamp head head
stamp_start c by stamp head is at =
    let p = head_path c is head at in
    record { done = []; rest = p.keys; whole = p.path; ahead = p.path; here = λ k e. cc; else = λ k e. refl; size = refl; spare = refl }

-- a record stands at the link
pub stamp_link : (old now : ChainMap) (by : TxnName) (stamp : ℕ) (head link : Option ℕ) (key : ℕ) → IsStamped old now by stamp head link → link ≡ Some key → IsSome (record_at now.slots key)
stamp_link old now by stamp head link key is at_key = go is.rest is.ahead
  where
    go : (rest : List ℕ) → IsPath old.slots link rest → IsSome (record_at now.slots key)
    go [] p = absurd (clash (sym at_key ∙ p))
      where
        clash : ◌≡◌ {A = Option ℕ} (Some key) None → ⊥
        clash f = cc
    go (k ∷ ks) p =
        let same : k ≡ key = some_is k key (sym p.1.0.is ∙ at_key) in
        let at : record_at old.slots key ≡ Some p.0 = ap (record_at old.slots) (sym same) ∙ p.1.0.at in
        elim (list_any (nat_eq key) is.done) as (λ t. list_any (nat_eq key) is.done ≡ t → IsSome (record_at now.slots key)) [
          | true ↦ λ e. is_there _ (stamped_undo by stamp p.0) (is.here key e ∙ ap (option_map (stamped_undo by stamp)) at)
          | false ↦ λ e. is_there _ p.0 (is.else key e ∙ at)
        ] refl

-- ---- the whole list stamped

module _ (old now : ChainMap) (by : TxnName) (stamp : ℕ) (head : Option ℕ) (done : List ℕ)
    (here : (k : ℕ) → list_any (nat_eq k) done ≡ true → record_at now.slots k ≡ option_map (stamped_undo by stamp) (record_at old.slots k))
    (else : (k : ℕ) → list_any (nat_eq k) done ≡ false → record_at now.slots k ≡ record_at old.slots k) (size : length now.slots ≡ length old.slots) where
  stamp_links : SameLinks old.slots now.slots
  stamp_links k = go (list_any (nat_eq k) done) refl
    where
      go : (t : Bool) → list_any (nat_eq k) done ≡ t → option_map (λ (u : Undo). u.next) (record_at now.slots k) ≡ option_map (λ (u : Undo). u.next) (record_at old.slots k)
      go true e = ap (option_map (λ (u : Undo). u.next)) (here k e) ∙ kept (record_at old.slots k)
        where
          kept : (o : Option Undo) → option_map (λ (u : Undo). u.next) (option_map (stamped_undo by stamp) o) ≡ option_map (λ (u : Undo). u.next) o
          kept None = refl
          kept (Some u) = ap (λ (q : Option ℕ). Some q) (stamped_next by stamp u)
      go false e = ap (option_map (λ (u : Undo). u.next)) (else k e)

  -- the list along a path whose records are stamped
  stamped_list : (h : Option ℕ) (ks : List ℕ) → IsPath old.slots h ks → ((x : ℕ) → list_any (nat_eq x) ks ≡ true → list_any (nat_eq x) done ≡ true) → (n : ℕ)
      → linked (walked n now.slots) h ≡ map (stamped_by by stamp) (linked (walked n old.slots) h)
  stamped_list h [] p all n = no_list now.slots h p n ∙ sym (ap (map (stamped_by by stamp)) (no_list old.slots h p n))
  stamped_list h (k ∷ ks) p all zero =
      ap (linked (walked zero now.slots)) p.1.0.is ∙ sym (ap (λ (q : Option ℕ). map (stamped_by by stamp) (linked (walked zero old.slots) q)) p.1.0.is)
  stamped_list h (k ∷ ks) p all (suc n) =
      let step : IsStep now.slots h k (stamped_undo by stamp p.0) = record { is = p.1.0.is; at = here k (all k (self_in k ks)) ∙ ap (option_map (stamped_undo by stamp)) p.1.0.at } in
      step_list now.slots h k (stamped_undo by stamp p.0) step n
      ∙ (λ i. stamped_record by stamp p.0 i ∷ linked (walked n now.slots) (stamped_next by stamp p.0 i))
      ∙ ap (λ us. stamped_by by stamp (unlinked p.0) ∷ us) (stamped_list p.0.next ks p.1.1 (λ x e. all x (in_more x k ks e)) n)
      ∙ sym (ap (map (stamped_by by stamp)) (step_list old.slots h k p.0 p.1.0 n))

  -- and along one of which none is
  other_list : (h : Option ℕ) (ks : List ℕ) → IsPath old.slots h ks → ((x : ℕ) → list_any (nat_eq x) ks ≡ true → list_any (nat_eq x) done ≡ false) → (n : ℕ)
      → linked (walked n now.slots) h ≡ linked (walked n old.slots) h
  other_list h [] p none n = no_list now.slots h p n ∙ sym (no_list old.slots h p n)
  other_list h (k ∷ ks) p none zero = ap (linked (walked zero now.slots)) p.1.0.is ∙ sym (ap (linked (walked zero old.slots)) p.1.0.is)
  other_list h (k ∷ ks) p none (suc n) =
      let step : IsStep now.slots h k p.0 = record { is = p.1.0.is; at = else k (none k (self_in k ks)) ∙ p.1.0.at } in
      step_list now.slots h k p.0 step n
      ∙ ap (λ us. unlinked p.0 ∷ us) (other_list p.0.next ks p.1.1 (λ x e. none x (in_more x k ks e)) n)
      ∙ sym (step_list old.slots h k p.0 p.1.0 n)

  whole_list : IsPath old.slots head done → list_at now head ≡ map (stamped_by by stamp) (list_at old head)
  whole_list path =
      ap (λ n. linked (walked n now.slots) head) size ∙ stamped_list head done path (λ x e. e) (length old.slots)

  others_stay : AreLinked old.slots → IsHeadOf old head → IsPath old.slots head done → ChangesOneList old now head head
  others_stay is at path = record { stands = heads head at; others = other }
    where
      heads : (q : Option ℕ) → IsHeadOf old q → IsHeadOf now q
      heads None h = tt
      heads (Some k) h = head_relinked old.slots now.slots stamp_links k h

      other : (q : Option ℕ) → IsHeadOf old q → AreApart head q → StaysApart old now q head
      other q q_head apart =
          let p = head_path old is q q_head in
          record {
            head = heads q q_head;
            list = ap (λ n. linked (walked n now.slots) q) size
                ∙ other_list q p.keys p.path (λ x e. outside_done x (λ f. lists_apart old is head q at q_head apart done p.keys path p.path x f e)) (length old.slots);
            apart = apart;
          }
        where
          outside_done : (x : ℕ) → (list_any (nat_eq x) done ≡ true → ⊥) → list_any (nat_eq x) done ≡ false
          outside_done x never = elim (list_any (nat_eq x) done) as (λ t. list_any (nat_eq x) done ≡ t → t ≡ false) [ true ↦ λ e. absurd (never e) | false ↦ λ e. refl ] refl

-- ---- the rest of a list that has stamps

-- each record on a path has a stamp where none of the list lacks one
all_on_path : (s : List (Option Undo)) (h : Option ℕ) (ks : List ℕ) → IsPath s h ks → (n : ℕ) → length ks ≤ n → list_any lacks_stamp (linked (walked n s) h) ≡ false
    → (x : ℕ) → list_any (nat_eq x) ks ≡ true → (u : Undo) → record_at s x ≡ Some u → not (is_some u.stamp) ≡ false
all_on_path s h [] p n few none x e u at = cc
all_on_path s h (k ∷ ks) p zero few none x e u at = absurd (omega (arith, few))
all_on_path s h (k ∷ ks) p (suc n) few none x e u at =
    let both = neither (lacks_stamp (unlinked p.0)) (list_any lacks_stamp (linked (walked n s) p.0.next)) (sym (ap (list_any lacks_stamp) (step_list s h k p.0 p.1.0 n)) ∙ none) in
    elim (is_in_or x k ks e) [
      | inl same ↦ ap (λ (v : Undo). not (is_some v.stamp)) (some_is_undo u p.0 (sym at ∙ ap (record_at s) same ∙ p.1.0.at)) ∙ both.0
      | inr more ↦ all_on_path s p.0.next ks p.1.1 n (omega (arith, few)) both.1 x more u at
    ]
  where
    some_is_undo : (v w : Undo) → ◌≡◌ {A = Option Undo} (Some v) (Some w) → v ≡ w
    some_is_undo v w f = cc

pub stamped_at : (c : ChainMap) (link : Option ℕ) (key : ℕ) → link ≡ Some key → list_any lacks_stamp (list_at c (Some key)) ≡ false → list_any lacks_stamp (list_at c link) ≡ false
stamped_at c link key at all = ap (λ q. list_any lacks_stamp (list_at c q)) at ∙ all

-- where the records from the link on have stamps nothing is left to be done
pub stamp_rest : (old now : ChainMap) (by : TxnName) (stamp : ℕ) (head link : Option ℕ) → IsStamped old now by stamp head link → list_any lacks_stamp (list_at now link) ≡ false
    → IsStamped old now by stamp head None
stamp_rest old now by stamp head link is none = record {
  done = is.done ++ is.rest;
  rest = [];
  whole = subst (IsPath old.slots head) (sym (append_none (is.done ++ is.rest))) is.whole;
  ahead = refl;
  here = λ k e. elim (list_any (nat_eq k) is.done) as (λ t. list_any (nat_eq k) is.done ≡ t → record_at now.slots k ≡ option_map (stamped_undo by stamp) (record_at old.slots k)) [
    | true ↦ λ f. is.here k f
    | false ↦ λ f.
        let within : list_any (nat_eq k) is.rest ≡ true = ap (λ t. t || list_any (nat_eq k) is.rest) (sym f) ∙ sym (list_any-append (nat_eq k) is.done is.rest) ∙ e in
        let there = path_there old.slots link is.rest is.ahead k within in
        is.else k f ∙ there.1 ∙ ap Some (sym (stays there.0 (all_on_path now.slots link is.rest path (length now.slots) (path_length now.slots link is.rest path) none k within there.0 (is.else k f ∙ there.1)))) ∙ sym (ap (option_map (stamped_undo by stamp)) there.1)
  ] refl;
  else = λ k e. is.else k (first (list_any (nat_eq k) is.done) (list_any (nat_eq k) is.rest) (sym (list_any-append (nat_eq k) is.done is.rest) ∙ e));
  size = is.size;
  spare = is.spare;
}
  where
    append_none : (xs : List ℕ) → xs ++ [] ≡ xs
    append_none [] = refl
    append_none (x ∷ xs) = ap (λ ys. x ∷ ys) (append_none xs)

    first : (a b : Bool) → (a || b) ≡ false → a ≡ false
    first a b e = (neither a b e).0

    path : IsPath now.slots link is.rest
    path = path_relinked old.slots now.slots (stamp_links old now by stamp head is.done is.here is.else is.size) link is.rest is.ahead

    stays : (u : Undo) → not (is_some u.stamp) ≡ false → stamped_undo by stamp u ≡ u
    stays u e = ap (λ t. cond t (with_stamp stamp u) u) (ap (λ t. same_name u.by by && t) e ∙ and_false (same_name u.by by))
      where
        and_false : (b : Bool) → (b && false) ≡ false
        and_false true = refl
        and_false false = refl

-- all keys of the path have been passed
whole_path : (old now : ChainMap) (by : TxnName) (stamp : ℕ) (head link : Option ℕ) → (is : IsStamped old now by stamp head link) → link ≡ None → IsPath old.slots head is.done
whole_path old now by stamp head link is e = subst (IsPath old.slots head) (ap (λ ks. is.done ++ ks) (empty is.rest is.ahead) ∙ append_none is.done) is.whole
  where
    empty : (rest : List ℕ) → IsPath old.slots link rest → rest ≡ []
    empty [] p = refl
    empty (k ∷ ks) p = absurd (clash (sym p.1.0.is ∙ e))
      where
        clash : ◌≡◌ {A = Option ℕ} (Some k) None → ⊥
        clash f = cc

    append_none : (xs : List ℕ) → xs ++ [] ≡ xs
    append_none [] = refl
    append_none (x ∷ xs) = ap (λ ys. x ∷ ys) (append_none xs)

pub stamp_list : (old now : ChainMap) (by : TxnName) (stamp : ℕ) (head link : Option ℕ) → IsStamped old now by stamp head link → link ≡ None → list_at now head ≡ map (stamped_by by stamp) (list_at old head)
stamp_list old now by stamp head link is e = whole_list old now by stamp head is.done is.here is.else is.size (whole_path old now by stamp head link is e)

pub stamp_others : (old now : ChainMap) (by : TxnName) (stamp : ℕ) (head link : Option ℕ) → IsStamped old now by stamp head link → link ≡ None → AreLinked old.slots → IsHeadOf old head → ChangesOneList old now head head
stamp_others old now by stamp head link is e linked at = others_stay old now by stamp head is.done is.here is.else is.size linked at (whole_path old now by stamp head link is e)
