-- Lists under heads through several steps.
use Rattle.std.proofs.Common.{◌≡◌, ℕ, suc, ◌+◌, ◌<◌, ◌≤◌, List, [], ◌∷◌, length, refl, sym, ◌∙◌, ap, subst, arith, Some, None}
use Rattle.std.specs.Prelude.{Option, Bool, true, false, cond, ◌||◌}
use Rattle.std.specs.List.{list_any}
use Rattle.graph_model.specs.declared.journal.TxnName.{TxnName}
use Rattle.graph_model.specs.Conflict.{same_name}
use Rattle.undo_chain.specs.declared.states.Snapshot.{Snapshot}
use Rattle.undo_chain.specs.States.{Knowledge, Grows, AreNamed}
use Rattle.undo_chain.specs.Walks.{IsSearch, IsStampedTo, IsAsked, IsRead, IsCount}
use Rattle.undo_chain.specs.Records.{UndoRecord, lacks_stamp, upside_down, is_settled, value_of}
use Rattle.undo_chain.specs.Chains.{ChainMap, linked, walked, list_at, IsHeadOf, IsLinkOf, AreApart, ChangesOneList, ChangesTwoLists, HandsOver}

-- a head is a link
pub head_link : (c : ChainMap) (q : Option ℕ) → IsHeadOf c q → IsLinkOf c q
head_link c None h = tt
head_link c (Some k) h = h.there

-- ---- one list

pub one_start : (c : ChainMap) (h : Option ℕ) → IsHeadOf c h → ChangesOneList c c h h
one_start c h is = record { stands = is; others = λ q at apart. record { head = at; list = refl; apart = apart } }

pub one_chain : (a b c : ChainMap) (h k m : Option ℕ) → ChangesOneList a b h k → ChangesOneList b c k m → ChangesOneList a c h m
one_chain a b c h k m f g = record {
  stands = g.stands;
  others = λ q at apart.
      let r = f.others q at apart in
      let s = g.others q r.head r.apart in
      record { head = s.head; list = s.list ∙ r.list; apart = s.apart };
}

-- only the records count, and not the room
pub one_from : (a b c : ChainMap) (h k : Option ℕ) → b.slots ≡ a.slots → ChangesOneList b c h k → ChangesOneList a c h k
one_from a b c h k e f = record {
  stands = f.stands;
  others = λ q at apart.
      let r = f.others q (heads q at) apart in
      record { head = r.head; list = r.list ∙ lists q; apart = r.apart };
}
  where
    heads : (q : Option ℕ) → IsHeadOf a q → IsHeadOf b q
    heads None at = tt
    heads (Some j) at = rw e at

    lists : (q : Option ℕ) → list_at b q ≡ list_at a q
    lists q = λ i. linked (walked (length (e i)) (e i)) q

-- ---- two lists

pub two_start : (c : ChainMap) (h k : Option ℕ) → IsHeadOf c h → IsHeadOf c k → AreApart h k → ChangesTwoLists c c h k h k
two_start c h k from onto apart = record {
  from_head = from;
  onto_head = onto;
  apart = apart;
  others = λ q at a b. record { head = at; list = refl; from_apart = a; onto_apart = b };
  spare = omega arith;
}

pub two_chain : (a b c : ChainMap) (h k h' k' h'' k'' : Option ℕ) → ChangesTwoLists a b h k h' k' → ChangesTwoLists b c h' k' h'' k'' → ChangesTwoLists a c h k h'' k''
two_chain a b c h k h' k' h'' k'' f g = record {
  from_head = g.from_head;
  onto_head = g.onto_head;
  apart = g.apart;
  others = λ q at x y.
      let r = f.others q at x y in
      let s = g.others q r.head r.from_apart r.onto_apart in
      record { head = s.head; list = s.list ∙ r.list; from_apart = s.from_apart; onto_apart = s.onto_apart };
  spare = omega (arith, f.spare, g.spare);
}

pub no_key : (key : ℕ) → ◌≡◌ {A = Option ℕ} None (Some key) → ⊥
no_key key e = cc

-- two lists of which one is empty at the beginning, and the other at the end
pub one_of_two : (a b : ChainMap) (h k : Option ℕ) → ChangesTwoLists a b h None None k → ChangesOneList a b h k
one_of_two a b h k f = record {
  stands = f.onto_head;
  others = λ q at apart.
      let r = f.others q at apart (λ key e g. no_key key e) in
      record { head = r.head; list = r.list; apart = r.onto_apart };
}

-- one list changes beside another one
pub beside : (a b : ChainMap) (h h' k : Option ℕ) → ChangesOneList a b h h' → IsHeadOf a k → AreApart h k → a.spare ≤ b.spare → ChangesTwoLists a b h k h' k
beside a b h h' k f at apart spare =
    let r = f.others k at apart in
    record {
      from_head = f.stands;
      onto_head = r.head;
      apart = r.apart;
      others = λ q head x y.
          let s = f.others q head x in
          record { head = s.head; list = s.list; from_apart = s.apart; onto_apart = y };
      spare = spare;
    }

-- the first record of one list is put in front of another one
pub handed : (old mid new : ChainMap) (from onto next to : Option ℕ) (u : UndoRecord) → IsHeadOf old onto → AreApart from onto
    → list_at old from ≡ u ∷ list_at mid next → ChangesOneList old mid from next → mid.spare ≡ old.spare + 1
    → list_at new to ≡ u ∷ list_at mid onto → ChangesOneList mid new onto to → mid.spare ≡ new.spare + 1 → HandsOver old new from onto next to
handed old mid new from onto next to u at apart taken popped freed given put used =
    let r = popped.others onto at apart in
    let s = put.others next popped.stands (λ key e f. r.apart key f e) in
    record {
      undo = u;
      taken = taken ∙ ap (λ us. u ∷ us) (sym s.list);
      given = given ∙ ap (λ us. u ∷ us) r.list;
      lists = record {
        from_head = s.head;
        onto_head = put.stands;
        apart = λ key e f. s.apart key f e;
        others = λ q head x y.
            let a = popped.others q head x in
            let b = put.others q a.head y in
            record { head = b.head; list = b.list ∙ a.list; from_apart = a.apart; onto_apart = b.apart };
        spare = omega (arith, freed, used);
      };
      room = omega (arith, freed, used);
    }

-- ---- lists upside down

pub twice_upside_down : (us vs : List UndoRecord) → upside_down (upside_down us vs) [] ≡ upside_down vs us
twice_upside_down [] vs = refl
twice_upside_down (u ∷ us) vs = twice_upside_down us (u ∷ vs)

-- ---- steps of the loops

-- the list at a link that leads to a record
pub at_link : (c : ChainMap) (link : Option ℕ) (key : ℕ) (us : List UndoRecord) → link ≡ Some key → list_at c (Some key) ≡ us → list_at c link ≡ us
at_link c link key us e f = ap (list_at c) e ∙ f

-- a step on shortens what is left
pub shorter : (us vs : List UndoRecord) (u : UndoRecord) → us ≡ u ∷ vs → length vs < length us
shorter us vs u e = let f : length us ≡ suc (length vs) = ap length e in omega arith

-- no record is left at the end
pub none_left : (c : ChainMap) (link : Option ℕ) → link ≡ None → list_at c link ≡ []
none_left c link e = ap (list_at c) e

module _ (c : ChainMap) (test : UndoRecord → Bool) (head link next : Option ℕ) (u : UndoRecord) (is : IsSearch c test head link) (at : list_at c link ≡ u ∷ list_at c next) where
  passed : list_any test (list_at c head) ≡ (test u || list_any test (list_at c next))
  passed = sym is.same ∙ ap (list_any test) at

  -- a record that passes the test
  pub search_hit : test u ≡ true → list_any test (list_at c head) ≡ true
  search_hit e = passed ∙ ap (λ t. t || list_any test (list_at c next)) e

  -- one that doesn't
  pub search_on : test u ≡ false → IsLinkOf c next → IsSearch c test head next
  search_on e leads = record { is_link = leads; same = sym (passed ∙ ap (λ t. t || list_any test (list_at c next)) e) }

pub search_start : (c : ChainMap) (test : UndoRecord → Bool) (head : Option ℕ) → IsHeadOf c head → IsSearch c test head head
search_start c test head at = record { is_link = head_link c head at; same = refl }

pub search_end : (c : ChainMap) (test : UndoRecord → Bool) (head link : Option ℕ) → IsSearch c test head link → link ≡ None → list_any test (list_at c head) ≡ false
search_end c test head link is e = sym is.same ∙ ap (list_any test) (none_left c link e)

-- ---- the records from which on all have stamps

pub look_start : (c : ChainMap) (head : Option ℕ) → IsHeadOf c head → IsStampedTo c head head
look_start c head at = look_anew c head (head_link c head at)
  where
    look_anew : (d : ChainMap) (q : Option ℕ) → IsLinkOf d q → IsStampedTo d q q
    look_anew d q link = record { is_from = link; search = record { is_link = link; same = refl } }

module _ (c : ChainMap) (from link next : Option ℕ) (u : UndoRecord) (is : IsStampedTo c from link) (at : list_at c link ≡ u ∷ list_at c next) (leads : IsLinkOf c next) where
  -- a record without a stamp: they begin behind it, at the earliest
  pub look_anew : IsStampedTo c next next
  look_anew = record { is_from = leads; search = record { is_link = leads; same = refl } }

  -- one more has a stamp
  pub look_on : lacks_stamp u ≡ false → IsStampedTo c from next
  look_on e = record { is_from = is.is_from; search = search_on c lacks_stamp from link next u is.search at e leads }

-- all behind have stamps
pub look_hit : (c : ChainMap) (from link : Option ℕ) (key : ℕ) → IsStampedTo c from link → link ≡ Some key → list_any lacks_stamp (list_at c (Some key)) ≡ false
    → list_any lacks_stamp (list_at c from) ≡ false
look_hit c from link key is at all = sym is.search.same ∙ ap (λ q. list_any lacks_stamp (list_at c q)) at ∙ all

-- ---- whoever is asked

pub grows_start : (m : Knowledge) → Grows m m
grows_start m = record { known = refl; stamps = refl; names = refl; vouched = λ by state v. v }

pub grows_chain : (a b c : Knowledge) → Grows a b → Grows b c → Grows a c
grows_chain a b c f g = record { known = g.known ∙ f.known; stamps = g.stamps ∙ f.stamps; names = g.names ∙ f.names; vouched = λ by state v. g.vouched by state (f.vouched by state v) }

module _ (c d : ChainMap) (old now : Knowledge) (link next : Option ℕ) (u : UndoRecord) (is : IsAsked c old now link) (at : list_at c link ≡ u ∷ list_at d next) where
  here : AreNamed old.names (u ∷ list_at d next)
  here = subst (AreNamed old.names) at is.named

  -- the record's writer may be asked for
  pub asked_here : u.stamp ≡ None → now.names u.by ≡ true
  asked_here e = ap (λ (names : TxnName → Bool). names u.by) is.grows.names ∙ here.0 e

  pub asked_on : (later : Knowledge) → Grows now later → IsAsked d old later next
  asked_on later g = record { named = here.1; grows = grows_chain old now later is.grows g }

pub asked_start : (c : ChainMap) (m : Knowledge) (head : Option ℕ) → AreNamed m.names (list_at c head) → IsAsked c m m head
asked_start c m head named = record { named = named; grows = grows_start m }

-- a limit that was known stays known
pub still_known : (old now : Knowledge) (n : ℕ) → Grows old now → n ≤ old.known → n ≤ now.known
still_known old now n g le = let e : now.known ≡ old.known = g.known in omega arith

-- what is settled is settled by what was known first
pub settled_first : (old now : Knowledge) (n : ℕ) (u : UndoRecord) (t : Bool) → Grows old now → t ≡ is_settled now.stamps n u → t ≡ is_settled old.stamps n u
settled_first old now n u t g e = e ∙ ap (λ (stamps : TxnName → Option ℕ). is_settled stamps n u) g.stamps

-- ---- reading

module _ (c : ChainMap) (old now : Knowledge) (snapshot : Snapshot) (base : Option ℕ) (head value link next : Option ℕ) (u : UndoRecord)
    (is : IsRead c old now snapshot base head value link) (at : list_at c link ≡ u ∷ list_at c next) where
  read_now : value_of old.stamps snapshot base (list_at c head) ≡ cond (same_name u.by snapshot.own || is_settled old.stamps snapshot.start u) value (value_of old.stamps snapshot u.older (list_at c next))
  read_now = sym is.same ∙ ap (value_of old.stamps snapshot value) at

  -- a record that the snapshot sees
  pub read_hit : (same_name u.by snapshot.own || is_settled old.stamps snapshot.start u) ≡ true → value ≡ value_of old.stamps snapshot base (list_at c head)
  read_hit e = sym (read_now ∙ ap (λ t. cond t value (value_of old.stamps snapshot u.older (list_at c next))) e)

  -- one that it doesn't see
  pub read_on : (later : Knowledge) → (same_name u.by snapshot.own || is_settled old.stamps snapshot.start u) ≡ false → IsLinkOf c next → Grows now later → IsRead c old later snapshot base head u.older next
  read_on later e leads g = record {
    is_link = leads;
    asked = asked_on c c old now link next u is.asked at later g;
    same = sym (read_now ∙ ap (λ t. cond t value (value_of old.stamps snapshot u.older (list_at c next))) e);
  }

pub read_start : (c : ChainMap) (m : Knowledge) (snapshot : Snapshot) (base head : Option ℕ) → IsHeadOf c head → AreNamed m.names (list_at c head) → IsRead c m m snapshot base head base head
read_start c m snapshot base head at named = record { is_link = head_link c head at; asked = asked_start c m head named; same = refl }

pub read_end : (c : ChainMap) (old now : Knowledge) (snapshot : Snapshot) (base head value link : Option ℕ) → IsRead c old now snapshot base head value link → link ≡ None → value ≡ value_of old.stamps snapshot base (list_at c head)
read_end c old now snapshot base head value link is e = sym (ap (value_of old.stamps snapshot value) (none_left c link e)) ∙ is.same

-- ---- counting

pub count_start : (c : ChainMap) (head : Option ℕ) → IsHeadOf c head → IsCount c head head 0
count_start c head at = record { is_link = head_link c head at; left = omega arith }

pub count_on : (c : ChainMap) (head link next : Option ℕ) (u : UndoRecord) (n m : ℕ) → IsCount c head link n → list_at c link ≡ u ∷ list_at c next → IsLinkOf c next → m ≡ n + 1 → IsCount c head next m
count_on c head link next u n m is at leads e =
    let f : length (list_at c link) ≡ suc (length (list_at c next)) = ap length at in
    record { is_link = leads; left = omega (arith, is.left) }

pub count_end : (c : ChainMap) (head link : Option ℕ) (n : ℕ) → IsCount c head link n → link ≡ None → n ≡ length (list_at c head)
count_end c head link n is e =
    let f : length (list_at c link) ≡ 0 = ap length (none_left c link e) in
    omega (arith, is.left)
