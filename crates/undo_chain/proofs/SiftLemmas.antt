-- Steps of the loops that take records out of a list, and of the one that moves a list.
use Rattle.std.proofs.Common.{◌≡◌, ℕ, suc, ◌+◌, ◌<◌, ◌≤◌, List, [], ◌∷◌, length, refl, sym, ◌∙◌, ap, subst, arith, Some, None}
use Rattle.std.specs.Prelude.{Option, Bool, true, false, cond, not, ◌||◌}
use Rattle.std.specs.List.{filter, list_any}
use Rattle.undo_chain.specs.Records.{UndoRecord, upside_down, front_of}
use Rattle.undo_chain.specs.Chains.{ChainMap, list_at, IsHeadOf, AreApart, ChangesOneList, ChangesTwoLists, HandsOver}
use Rattle.undo_chain.specs.Walks.{IsSifted, IsMoved}
use Rattle.undo_chain.proofs.ListLemmas.{one_start, one_chain, two_start, two_chain, beside, no_key, none_left, at_link}

-- ---- records taken out

-- nothing is taken out yet
pub sift_start : (c : ChainMap) (keep : List UndoRecord → List UndoRecord) (head : Option ℕ) → IsHeadOf c head → IsSifted c c keep head head None
sift_start c keep head at = record { lists = two_start c head None at tt (λ key e f. no_key key f); same = refl; room = omega arith }

module _ (old now later : ChainMap) (keep : List UndoRecord → List UndoRecord) (head rest kept : Option ℕ) (key : ℕ) (is : IsSifted old now keep head rest kept) (at : rest ≡ Some key) where
  lists_at : ChangesTwoLists old now head None (Some key) kept
  lists_at = subst (λ (q : Option ℕ). ChangesTwoLists old now head None q kept) at is.lists

  -- the next record is under a head of its own list, apart from those that are kept
  pub sift_head : IsHeadOf now (Some key)
  sift_head = lists_at.from_head

  pub sift_apart : AreApart (Some key) kept
  sift_apart = lists_at.apart

  -- a record is kept
  pub sift_keep : (rest' kept' : Option ℕ) → HandsOver now later (Some key) kept rest' kept' → ((u : UndoRecord) (us : List UndoRecord) → list_at now rest ≡ u ∷ us → keep (u ∷ us) ≡ u ∷ keep us) → IsSifted old later keep head rest' kept'
  sift_keep rest' kept' h keeps =
      let taken = at_link now rest key _ at h.taken in
      record {
        lists = two_chain old now later head None (Some key) kept rest' kept' lists_at h.lists;
        same =
            ap (λ us. upside_down us (keep (list_at later rest'))) h.given
            ∙ ap (upside_down (list_at now kept)) (sym (keeps h.undo (list_at later rest') taken))
            ∙ ap (λ us. upside_down (list_at now kept) (keep us)) (sym taken)
            ∙ is.same;
        room =
            let one : length (list_at now rest) ≡ suc (length (list_at later rest')) = ap length taken in
            let more : length (list_at later kept') ≡ suc (length (list_at now kept)) = ap length h.given in
            omega (arith, is.room, h.room);
      }

  -- a record goes
  pub sift_drop : (rest' : Option ℕ) (u : UndoRecord) → list_at now (Some key) ≡ u ∷ list_at later rest' → ChangesOneList now later (Some key) rest' → later.spare ≡ now.spare + 1 → keep (u ∷ list_at later rest') ≡ keep (list_at later rest')
      → IsSifted old later keep head rest' kept
  sift_drop rest' u taken changes spare drops =
      let two = beside now later (Some key) rest' kept changes lists_at.onto_head sift_apart (omega arith) in
      let stays = changes.others kept lists_at.onto_head sift_apart in
      record {
        lists = two_chain old now later head None (Some key) kept rest' kept lists_at two;
        same =
            ap (λ us. upside_down us (keep (list_at later rest'))) stays.list
            ∙ ap (upside_down (list_at now kept)) (sym drops)
            ∙ ap (λ us. upside_down (list_at now kept) (keep us)) (sym (at_link now rest key _ at taken))
            ∙ is.same;
        room =
            let one : length (list_at now rest) ≡ suc (length (list_at later rest')) = ap length (at_link now rest key _ at taken) in
            let same_kept : length (list_at later kept) ≡ length (list_at now kept) = ap length stays.list in
            omega (arith, is.room);
      }

  -- what is left goes as a whole
  pub sift_cut : ChangesOneList now later (Some key) None → now.spare ≤ later.spare → ChangesTwoLists old later head None None kept
  sift_cut changes spare = two_chain old now later head None (Some key) kept None kept lists_at (beside now later (Some key) None kept changes lists_at.onto_head sift_apart spare)

  pub sift_cut_list : ChangesOneList now later (Some key) None → keep (list_at now rest) ≡ [] → upside_down (list_at later kept) [] ≡ keep (list_at old head)
  sift_cut_list changes ends =
      ap (λ us. upside_down us []) (changes.others kept lists_at.onto_head sift_apart).list
      ∙ ap (upside_down (list_at now kept)) (sym ends) ∙ is.same

  -- and gives its room back
  pub sift_cut_room : ChangesOneList now later (Some key) None → later.spare ≡ now.spare + length (list_at now (Some key)) → later.spare + length (list_at later kept) ≡ old.spare + length (list_at old head)
  sift_cut_room changes spare =
      let same_kept : length (list_at later kept) ≡ length (list_at now kept) = ap length (changes.others kept lists_at.onto_head sift_apart).list in
      let same_rest : length (list_at now rest) ≡ length (list_at now (Some key)) = ap (λ q. length (list_at now q)) at in
      omega (arith, is.room)

-- a list turned round is as long
pub length-upside_down : (us vs : List UndoRecord) → length (upside_down us vs) ≡ length us + length vs
length-upside_down [] vs = omega arith
length-upside_down (u ∷ us) vs = let rest : length (upside_down us (u ∷ vs)) ≡ length us + suc (length vs) = length-upside_down us (u ∷ vs) in omega (arith, rest)

-- when all records have been looked at, those that are gone have given their room back
pub sift_room : (old now : ChainMap) (keep : List UndoRecord → List UndoRecord) (head rest kept : Option ℕ) → IsSifted old now keep head rest kept → rest ≡ None → now.spare + length (list_at now kept) ≡ old.spare + length (list_at old head)
sift_room old now keep head rest kept is e =
    let none : length (list_at now rest) ≡ 0 = ap length (none_left now rest e) in
    omega (arith, is.room)

-- all records have been looked at
pub sift_end : (old now : ChainMap) (keep : List UndoRecord → List UndoRecord) (head rest kept : Option ℕ) → IsSifted old now keep head rest kept → rest ≡ None → keep [] ≡ [] → upside_down (list_at now kept) [] ≡ keep (list_at old head)
sift_end old now keep head rest kept is e none =
    ap (upside_down (list_at now kept)) (sym (ap keep (none_left now rest e) ∙ none)) ∙ is.same

-- what is kept is turned round again, and stands alone
pub sift_done : (old now later : ChainMap) (head kept to : Option ℕ) → ChangesTwoLists old now head None None kept → ChangesTwoLists now later kept None None to → ChangesOneList old later head to
sift_done old now later head kept to f g = record {
  stands = g.onto_head;
  others = λ q at apart.
      let r = f.others q at apart (λ key e h. no_key key e) in
      let s = g.others q r.head r.onto_apart (λ key e h. no_key key e) in
      record { head = s.head; list = s.list ∙ r.list; apart = s.onto_apart };
}

-- ---- a list moved to another map

pub move_start : (s t : ChainMap) (head : Option ℕ) → IsHeadOf s head → length (list_at s head) ≤ t.spare → IsMoved s s t t head head None
move_start s t head at room = record {
  left = one_start s head at;
  gained = one_start t None tt;
  same = refl;
  spare = omega arith;
  room = room;
  used = omega arith;
}

module _ (s0 s s' t0 t t' : ChainMap) (head rest moved : Option ℕ) (key : ℕ) (is : IsMoved s0 s t0 t head rest moved) (at : rest ≡ Some key) where
  left_at : ChangesOneList s0 s head (Some key)
  left_at = subst (λ (q : Option ℕ). ChangesOneList s0 s head q) at is.left

  pub move_head : IsHeadOf s (Some key)
  move_head = left_at.stands

  pub move_on : (rest' moved' : Option ℕ) (u : UndoRecord) → list_at s (Some key) ≡ u ∷ list_at s' rest' → ChangesOneList s s' (Some key) rest' → s.spare ≤ s'.spare
      → list_at t' moved' ≡ u ∷ list_at t moved → ChangesOneList t t' moved moved' → t.spare ≡ t'.spare + 1 → IsMoved s0 s' t0 t' head rest' moved'
  move_on rest' moved' u taken left spare given gained used =
      let was = at_link s rest key _ at taken in
      let one : length (list_at s rest) ≡ suc (length (list_at s' rest')) = ap length was in
      record {
        left = one_chain s0 s s' head (Some key) rest' left_at left;
        gained = one_chain t0 t t' None moved moved' is.gained gained;
        same = ap (upside_down (list_at s' rest')) given ∙ sym (ap (λ us. upside_down us (list_at t moved)) was) ∙ is.same;
        spare = omega (arith, is.spare);
        room = omega (arith, is.room);
        used = omega (arith, is.used);
      }

  -- there is room for the next record
  pub move_room : (us : List UndoRecord) (u : UndoRecord) → list_at s (Some key) ≡ u ∷ us → 0 < t.spare
  move_room us u taken = let one : length (list_at s rest) ≡ suc (length us) = ap length (at_link s rest key _ at taken) in omega (arith, is.room)

-- ---- lists of which nothing is taken

module _ (test : UndoRecord → Bool) where
  none_passes : (u : UndoRecord) (us : List UndoRecord) → list_any test (u ∷ us) ≡ false → (test u ≡ false) × (list_any test us ≡ false)
  none_passes u us e = go (test u) e
    where
      go : (t : Bool) → (t || list_any test us) ≡ false → (t ≡ false) × (list_any test us ≡ false)
      go true f = cc
      go false f = (refl, f)

  -- where no record passes the test, those that don't are all
  pub filter_stays : (us : List UndoRecord) → list_any test us ≡ false → filter (λ u. not (test u)) us ≡ us
  filter_stays [] e = refl
  filter_stays (u ∷ us) e =
      let p = none_passes u us e in
      ap (λ t. cond (not t) (u ∷ filter (λ v. not (test v)) us) (filter (λ v. not (test v)) us)) p.0 ∙ ap (λ vs. u ∷ vs) (filter_stays us p.1)

  pub front_stays : (us : List UndoRecord) → list_any test us ≡ false → front_of test us ≡ us
  front_stays [] e = refl
  front_stays (u ∷ us) e =
      let p = none_passes u us e in
      ap (λ t. cond t [] (u ∷ front_of test us)) p.0 ∙ ap (λ vs. u ∷ vs) (front_stays us p.1)

  -- one record of a filter, and of a front
  pub filter_keeps : (u : UndoRecord) (us : List UndoRecord) → test u ≡ false → filter (λ v. not (test v)) (u ∷ us) ≡ u ∷ filter (λ v. not (test v)) us
  filter_keeps u us e = ap (λ t. cond (not t) (u ∷ filter (λ v. not (test v)) us) (filter (λ v. not (test v)) us)) e

  pub filter_drops : (u : UndoRecord) (us : List UndoRecord) → test u ≡ true → filter (λ v. not (test v)) (u ∷ us) ≡ filter (λ v. not (test v)) us
  filter_drops u us e = ap (λ t. cond (not t) (u ∷ filter (λ v. not (test v)) us) (filter (λ v. not (test v)) us)) e

  pub front_keeps : (u : UndoRecord) (us : List UndoRecord) → test u ≡ false → front_of test (u ∷ us) ≡ u ∷ front_of test us
  front_keeps u us e = ap (λ t. cond t [] (u ∷ front_of test us)) e

  pub front_ends : (u : UndoRecord) (us : List UndoRecord) → test u ≡ true → front_of test (u ∷ us) ≡ []
  front_ends u us e = ap (λ t. cond t [] (u ∷ front_of test us)) e

-- one list has one first record
pub same_first : (us vs ws : List UndoRecord) (u v : UndoRecord) → us ≡ u ∷ vs → us ≡ v ∷ ws → u ≡ v
same_first us vs ws u v e f = head_is (sym e ∙ f)
  where
    head_is : u ∷ vs ≡ v ∷ ws → u ≡ v
    head_is g = cc

-- the lists when none is left
pub sift_rest : (old now : ChainMap) (keep : List UndoRecord → List UndoRecord) (head rest kept : Option ℕ) → IsSifted old now keep head rest kept → rest ≡ None → ChangesTwoLists old now head None None kept
sift_rest old now keep head rest kept is e = subst (λ (q : Option ℕ). ChangesTwoLists old now head None q kept) e is.lists
