-- What becomes of the table where the slot of a leaf changes, and of the leaves where one is put in or taken out.
use Rattle.std.proofs.Common.{◌≡◌, ◌≢◌, ℕ, zero, suc, ◌+◌, ◌<◌, ◌≤◌, ◌==◌, Bool, true, false, not, nat_lt, List, [], ◌∷◌, ◌++◌, Some, length, count_by, set, refl, sym, ◌∙◌, ap, subst, arith, eq-eqb, append_assoc, length-append}
use Rattle.std.proofs.Math.ListN.{length-set}
use Rattle.std.specs.Prelude.{slice_get}
use Rattle.std.specs.List.{AllByRecursion}
use Rattle.graph_model.specs.declared.row.Key.{Key}
use Rattle.graph_model.specs.Rows.{is_below, first_key, end_key}
use Rattle.leaf_trie.specs.declared.start.LeafStart.{LeafStart}
use Rattle.leaf_trie.specs.Leaves.{Inserts, NoneBegins, OneBegins, Removes, BeginAbove as StartAbove, BeginBelow as StartBelow}
use Rattle.leaf_trie.proofs.ListLemmas.{all_append, all_front, all_back}
use Rattle.leaf_index.specs.declared.slot.IndexSlot.{IndexSlot}
use Rattle.leaf_index.specs.declared.route.Retired.{Retired}
use Rattle.leaf_index.specs.Index.{Entry, AreCuts, AreSorted, BeginAbove, NotAbove, end_of}
use Rattle.leaf_index.specs.Slots.{HasSlot, HaveSlots, AreRisingStarts, StandOnce, IsKept, IsFloorStart, BeginsBefore, begin_or, cuts_or_none, entry_of, entries_of, times}
use Rattle.leaf_index.specs.Calls.{CanAdd, CanDrop, CanCut, with_cuts, with_leaf, without_leaf}
use Rattle.graph_model.proofs.KeyLemmas.{below_self, below_flip, below_chain, upto_chain}
use Rattle.leaf_index.proofs.CountLemmas.{count_cons, count_append, none_counted, at_most_one, worth, once_more}
use Rattle.leaf_index.proofs.SlotLemmas.{end_begin, entries_append, slot_at, slot_read, same_some, within_there}
use Rattle.leaf_index.proofs.IndexLemmas.{Unused}

-- ---- a slot of the table

pub get_set_same : (slots : List IndexSlot) (leaf : ℕ) (x : IndexSlot) → leaf < length slots → slice_get (set slots leaf x) leaf ≡ Some x
get_set_same [] leaf x lt = absurd (omega (arith, lt))
get_set_same (y ∷ ys) zero x lt = refl
get_set_same (y ∷ ys) (suc leaf) x lt = get_set_same ys leaf x (omega (arith, lt))

pub get_set_other : (slots : List IndexSlot) (leaf i : ℕ) (x : IndexSlot) → i ≢ leaf → slice_get (set slots leaf x) i ≡ slice_get slots i
get_set_other [] leaf i x ne = refl
get_set_other (y ∷ ys) zero zero x ne = absurd (ne refl)
get_set_other (y ∷ ys) zero (suc i) x ne = refl
get_set_other (y ∷ ys) (suc leaf) zero x ne = refl
get_set_other (y ∷ ys) (suc leaf) (suc i) x ne = get_set_other ys leaf i x (λ e. ne (ap suc e))

-- none of the leaves has this number
abbrev pub Apart : ℕ → List LeafStart → Type 0
Apart leaf starts = AllByRecursion (λ s. s.leaf ≢ leaf) starts

pub entries_kept : (slots : List IndexSlot) (leaf : ℕ) (x : IndexSlot) (ss : List LeafStart) → Apart leaf ss → entries_of (set slots leaf x) ss ≡ entries_of slots ss
entries_kept slots leaf x [] h = refl
entries_kept slots leaf x (s ∷ ss) h =
    let cuts : cuts_or_none (slice_get (set slots leaf x) s.leaf) ≡ cuts_or_none (slice_get slots s.leaf) = ap cuts_or_none (get_set_other slots leaf s.leaf x h.0) in
    let first : entry_of (set slots leaf x) s ≡ entry_of slots s = λ i. record { low = s.low; leaf = s.leaf; cuts = cuts i } in
    (λ i. first i ∷ entries_kept slots leaf x ss h.1 i)

pub slots_kept : (slots : List IndexSlot) (leaf : ℕ) (x : IndexSlot) (high : Key) (ss : List LeafStart) → Apart leaf ss → HaveSlots slots high ss → HaveSlots (set slots leaf x) high ss
slots_kept slots leaf x high [] h k = tt
slots_kept slots leaf x high (s ∷ ss) h k =
    (record { slot = k.0.slot; there = get_set_other slots leaf s.leaf x h.0 ∙ k.0.there; ends = k.0.ends; cuts = k.0.cuts }, slots_kept slots leaf x high ss h.1 k.1)

pub have_join : (slots : List IndexSlot) (high : Key) (front back : List LeafStart) → HaveSlots slots (begin_or back high) front → HaveSlots slots high back → HaveSlots slots high (front ++ back)
have_join slots high [] back h k = k
have_join slots high (s ∷ front) back h k = (subst (HasSlot slots s) (begins front) h.0, have_join slots high front back h.1 k)
  where
    begins : (front : List LeafStart) → begin_or front (begin_or back high) ≡ begin_or (front ++ back) high
    begins [] = refl
    begins (f ∷ fs) = refl

pub have_front : (slots : List IndexSlot) (high : Key) (front back : List LeafStart) → HaveSlots slots high (front ++ back) → HaveSlots slots (begin_or back high) front
have_front slots high [] back h = tt
have_front slots high (s ∷ front) back h = (subst (HasSlot slots s) (begins front) h.0, have_front slots high front back h.1)
  where
    begins : (front : List LeafStart) → begin_or (front ++ back) high ≡ begin_or front (begin_or back high)
    begins [] = refl
    begins (f ∷ fs) = refl

pub have_back : (slots : List IndexSlot) (high : Key) (front back : List LeafStart) → HaveSlots slots high (front ++ back) → HaveSlots slots high back
have_back slots high [] back h = h
have_back slots high (s ∷ front) back h = have_back slots high front back h.1

-- a leaf that stands among others stands there alone
pub stands_alone : (n : ℕ) (front : List LeafStart) (s : LeafStart) (back : List LeafStart) (free : List ℕ) (retired : List Retired) → StandOnce n (front ++ s ∷ back) free retired → Apart s.leaf front × Apart s.leaf back
stands_alone n front s back free retired once =
    let p : LeafStart → Bool = λ r. r.leaf == s.leaf in
    let parts = count_append p front (s ∷ back) in
    let here = count_cons p s back in
    let one = ap worth (eq-eqb s.leaf s.leaf refl) in
    let all = once s.leaf in
    let top = at_most_one s.leaf n in
    (none_counted (λ (r : LeafStart). r.leaf) s.leaf front (omega (arith, parts, here, one, all, top)), none_counted (λ (r : LeafStart). r.leaf) s.leaf back (omega (arith, parts, here, one, all, top)))

pub absent : (n : ℕ) (starts : List LeafStart) (free : List ℕ) (retired : List Retired) (leaf : ℕ) → times leaf starts free retired ≡ 0 → Apart leaf starts
absent n starts free retired leaf e = none_counted (λ (r : LeafStart). r.leaf) leaf starts (omega (arith, e))

-- ---- one place in a list

-- the last item of a list that passes a test is at one place
pub record Same (front : List LeafStart) (s : LeafStart) (back front' : List LeafStart) (t : LeafStart) (back' : List LeafStart) : Type 0 where
  pub fronts : front ≡ front'
  pub starts : s ≡ t
  pub backs : back ≡ back'

pub one_last : (p : LeafStart → Bool) (front : List LeafStart) (s : LeafStart) (back front' : List LeafStart) (t : LeafStart) (back' : List LeafStart) → front ++ s ∷ back ≡ front' ++ t ∷ back' → p s ≡ true → AllByRecursion (λ x. p x ≡ false) back
    → p t ≡ true → AllByRecursion (λ x. p x ≡ false) back' → Same front s back front' t back'
one_last p [] s back [] t back' e ps rest pt rest' = record { fronts = refl; starts = cc; backs = cc }
one_last p [] s back (g ∷ front') t back' e ps rest pt rest' =
    let is : back ≡ front' ++ t ∷ back' = cc in
    let fails = (all_back (λ x. p x ≡ false) front' (t ∷ back') (subst (AllByRecursion (λ x. p x ≡ false)) is rest)).0 in cc
one_last p (f ∷ front) s back [] t back' e ps rest pt rest' =
    let is : front ++ s ∷ back ≡ back' = cc in
    let fails = (all_back (λ x. p x ≡ false) front (s ∷ back) (subst (AllByRecursion (λ x. p x ≡ false)) (sym is) rest')).0 in cc
one_last p (f ∷ front) s back (g ∷ front') t back' e ps rest pt rest' =
    let k = one_last p front s back front' t back' (cc) ps rest pt rest' in
    let first : f ≡ g = cc in
    record { fronts = λ i. first i ∷ k.fronts i; starts = k.starts; backs = k.backs }

-- ---- entries are of leaves

pub record Split (slots : List IndexSlot) (starts : List LeafStart) (front : List Entry) (e : Entry) (back : List Entry) : Type 0 where
  pub before : List LeafStart
  pub start : LeafStart
  pub behind : List LeafStart
  pub is : starts ≡ before ++ start ∷ behind
  pub fronts : entries_of slots before ≡ front
  pub entry : entry_of slots start ≡ e
  pub backs : entries_of slots behind ≡ back

pub split : (slots : List IndexSlot) (starts : List LeafStart) (front : List Entry) (e : Entry) (back : List Entry) → entries_of slots starts ≡ front ++ e ∷ back → Split slots starts front e back
split slots [] [] e back is = cc
split slots [] (g ∷ front) e back is = cc
split slots (s ∷ ss) [] e back is = record { before = []; start = s; behind = ss; is = refl; fronts = refl; entry = first_same is; backs = rest_same is }
  where
    first_same : {x y : Entry} {xs ys : List Entry} → x ∷ xs ≡ y ∷ ys → x ≡ y
    first_same p = cc

    rest_same : {x y : Entry} {xs ys : List Entry} → x ∷ xs ≡ y ∷ ys → xs ≡ ys
    rest_same p = cc
split slots (s ∷ ss) (g ∷ front) e back is =
    let k = split slots ss front e back (rest_same is) in
    record { before = s ∷ k.before; start = k.start; behind = k.behind; is = ap (λ xs. s ∷ xs) k.is; fronts = (λ i. first_same is i ∷ k.fronts i); entry = k.entry; backs = k.backs }
  where
    first_same : {x y : Entry} {xs ys : List Entry} → x ∷ xs ≡ y ∷ ys → x ≡ y
    first_same p = cc

    rest_same : {x y : Entry} {xs ys : List Entry} → x ∷ xs ≡ y ∷ ys → xs ≡ ys
    rest_same p = cc

-- ---- the order of leaves

pub rising_behind : (front : List LeafStart) (s : LeafStart) (back : List LeafStart) → AreRisingStarts (front ++ s ∷ back) → StartAbove s.low back
rising_behind [] s back h = h.0
rising_behind (f ∷ front) s back h = rising_behind front s back h.1

above_passed : (key : Key) (ss : List LeafStart) → StartAbove key ss → AllByRecursion (λ (s : LeafStart). not (is_below key s.low) ≡ false) ss
above_passed key [] h = tt
above_passed key (s ∷ ss) h = (ap not h.0, above_passed key ss h.1)

-- a leaf that begins at the key is the last one that does not begin above it
pub floor_is : (key : Key) (starts : List LeafStart) (leaf : ℕ) (front : List LeafStart) (s : LeafStart) (back : List LeafStart) → (f : IsFloorStart key starts leaf) → starts ≡ front ++ s ∷ back → NotAbove s.low key → StartAbove key back → Same f.last.front f.start f.last.back front s back
floor_is key starts leaf front s back f is from above =
    one_last (λ (x : LeafStart). not (is_below key x.low)) f.last.front f.start f.last.back front s back (sym f.last.is ∙ is) (ap not f.last.from) (above_passed key f.last.back f.last.above) (ap not from) (above_passed key back above)

-- ---- other cuts

-- one leaf has another slot
pub record Changed (slots new : List IndexSlot) (starts : List LeafStart) (free : List ℕ) (retired : List Retired) (front : List LeafStart) (s : LeafStart) (x : IndexSlot) (back : List LeafStart) : Type 0 where
  pub kept : IsKept new starts free retired
  pub entries : entries_of new starts ≡ entries_of slots front ++ record { low = s.low; leaf = s.leaf; cuts = x.cuts } ∷ entries_of slots back
  pub count : length new ≡ length slots

pub changed : (slots : List IndexSlot) (starts : List LeafStart) (free : List ℕ) (retired : List Retired) (front : List LeafStart) (s : LeafStart) (x : IndexSlot) (back : List LeafStart) → IsKept slots starts free retired → starts ≡ front ++ s ∷ back
    → x.high ≡ begin_or back end_key → AreCuts s.low x.cuts (begin_or back end_key) → Changed slots (set slots s.leaf x) starts free retired front s x back
changed slots starts free retired front s x back k is ends cuts =
    let new = set slots s.leaf x in
    let count = length-set slots s.leaf x in
    let have : HaveSlots slots end_key (front ++ s ∷ back) = subst (HaveSlots slots end_key) is k.have in
    let h = slot_at slots end_key front s back have in
    let there = get_set_same slots s.leaf x (within_there slots s.leaf h.slot h.there) in
    let apart = stands_alone (length slots) front s back free retired (subst (λ ss. StandOnce (length slots) ss free retired) is k.once) in
    let here : HasSlot new s (begin_or back end_key) = record { slot = x; there = there; ends = ends; cuts = cuts } in
    let now : HaveSlots new end_key (front ++ s ∷ back) =
    have_join new end_key front (s ∷ back) (slots_kept slots s.leaf x s.low front apart.0 (have_front slots end_key front (s ∷ back) have))
    (here, slots_kept slots s.leaf x end_key back apart.1 (have_back slots end_key front (s ∷ back) have).1) in
    let one : entry_of new s ≡ record { low = s.low; leaf = s.leaf; cuts = x.cuts } = (λ i. record { low = s.low; leaf = s.leaf; cuts = cuts_or_none (there i) }) in
    record {
      kept = record { first = k.first; rising = k.rising; have = subst (HaveSlots new end_key) (sym is) now; once = λ q. omega (arith, k.once q, cond_same q count); few = omega (arith, k.few, count) };
      entries = ap (entries_of new) is ∙ entries_append new front (s ∷ back) ∙ (λ i. entries_kept slots s.leaf x front apart.0 i ++ one i ∷ entries_kept slots s.leaf x back apart.1 i);
      count = count;
    }
  where
    cond_same : (q : ℕ) → length (set slots s.leaf x) ≡ length slots → worth (nat_lt q (length (set slots s.leaf x))) ≡ worth (nat_lt q (length slots))
    cond_same q e = ap (λ n. worth (nat_lt q n)) e

-- what the index is then
pub record CutChanged (starts : List LeafStart) (free : List ℕ) (retired : List Retired) (slots new : List IndexSlot) (entries : List Entry) : Type 0 where
  pub kept : IsKept new starts free retired
  pub sets : entries_of new starts ≡ entries
  pub count : length new ≡ length slots

pub cut_changed : (slots : List IndexSlot) (starts : List LeafStart) (free : List ℕ) (retired : List Retired) (entries : List Entry) (low : Key) (cuts : List Key) (leaf : ℕ) (now : IndexSlot) → entries_of slots starts ≡ entries → IsKept slots starts free retired
    → (can : CanCut low cuts entries) → IsFloorStart low starts leaf → slice_get slots leaf ≡ Some now → CutChanged starts free retired slots (set slots leaf (record { cuts = cuts; high = now.high })) (with_cuts low cuts entries can)
cut_changed slots starts free retired entries low cuts leaf now view k can f there =
    let sp = split slots starts can.front can.entry can.back (view ∙ can.is) in
    let s = sp.start in
    let begins : s.low ≡ low = ap (λ (e : Entry). e.low) sp.entry ∙ can.same in
    let from : NotAbove s.low low = subst (λ x. NotAbove x low) (sym begins) (below_self low) in
    let above : StartAbove low sp.behind = subst (λ x. StartAbove x sp.behind) begins (rising_behind sp.before s sp.behind (subst AreRisingStarts sp.is k.rising)) in
    let same = floor_is low starts leaf sp.before s sp.behind f sp.is from above in
    let number : s.leaf ≡ leaf = ap (λ (x : LeafStart). x.leaf) (sym same.starts) ∙ f.same in
    let h = slot_at slots end_key sp.before s sp.behind (subst (HaveSlots slots end_key) sp.is k.have) in
    let high : now.high ≡ begin_or sp.behind end_key = ap (λ (x : IndexSlot). x.high) (sym (slot_read slots s leaf (begin_or sp.behind end_key) now h number there)) ∙ h.ends in
    let ends : end_of can.back ≡ begin_or sp.behind end_key = ap end_of (sym sp.backs) ∙ end_begin slots sp.behind in
    let fit : AreCuts s.low cuts (begin_or sp.behind end_key) = subst (λ x. AreCuts x cuts (begin_or sp.behind end_key)) (sym begins) (subst (AreCuts low cuts) ends can.fit) in
    let x : IndexSlot = record { cuts = cuts; high = now.high } in
    let c = changed slots starts free retired sp.before s x sp.behind k sp.is high fit in
    let is : entries_of (set slots s.leaf x) starts ≡ can.front ++ record { low = can.entry.low; leaf = can.entry.leaf; cuts = cuts } ∷ can.back =
    c.entries ∙ (λ i. sp.fronts i ++ record { low = (sp.entry i).low; leaf = (sp.entry i).leaf; cuts = cuts } ∷ sp.backs i) in
    subst (λ n. CutChanged starts free retired slots (set slots n x) (with_cuts low cuts entries can)) number (record { kept = c.kept; sets = is; count = c.count })

-- ---- one leaf more

starts_above : (slots : List IndexSlot) (key : Key) (ss : List LeafStart) → BeginAbove key (entries_of slots ss) → StartAbove key ss
starts_above slots key [] h = tt
starts_above slots key (s ∷ ss) h = (h.0, starts_above slots key ss h.1)

-- where those below a key end, the last one below it is at the end of them
cut_behind : (key : Key) (front back before : List LeafStart) (p : LeafStart) (behind : List LeafStart) → front ++ back ≡ before ++ p ∷ behind → StartBelow key front → StartAbove key back → is_below p.low key ≡ true → StartAbove key behind
    → (front ≡ before ++ p ∷ []) × (back ≡ behind)
cut_behind key [] back before p behind e below above here rest =
    let over = (all_back (λ (s : LeafStart). is_below key s.low ≡ true) before (p ∷ behind) (subst (StartAbove key) e above)).0 in
    absurd (clash (below_flip p.low key here) over)
  where
    clash : {t : Bool} → t ≡ false → t ≡ true → ⊥
    clash e f = cc
cut_behind key (x ∷ []) back [] p behind e below above here rest = ((let same : x ≡ p = cc in ap (λ y. y ∷ []) same), cc)
cut_behind key (x ∷ y ∷ front) back [] p behind e below above here rest =
    let is : y ∷ (front ++ back) ≡ behind = cc in
    let over = (subst (StartAbove key) (sym is) rest).0 in
    absurd (clash (below_flip y.low key below.1.0) over)
  where
    clash : {t : Bool} → t ≡ false → t ≡ true → ⊥
    clash e f = cc
cut_behind key (x ∷ front) back (b ∷ before) p behind e below above here rest =
    let k = cut_behind key front back before p behind (cc) below.1 above here rest in
    let same : x ≡ b = cc in
    ((λ i. same i ∷ k.0 i), k.1)

rising_more : (front : List LeafStart) (s : LeafStart) (back : List LeafStart) → AreRisingStarts (front ++ back) → StartBelow s.low front → StartAbove s.low back → AreRisingStarts (front ++ s ∷ back)
rising_more [] s back h below above = (above, h)
rising_more (f ∷ front) s back h below above =
    (all_append (λ (r : LeafStart). is_below f.low r.low ≡ true) front (s ∷ back) (all_front _ front back h.0) (below.0, all_back _ front back h.0), rising_more front s back h.1 below.1 above)

begin_same : (front : List LeafStart) (p : LeafStart) (xs ys : List LeafStart) (high : Key) → begin_or (front ++ p ∷ xs) high ≡ begin_or (front ++ p ∷ ys) high
begin_same [] p xs ys high = refl
begin_same (f ∷ front) p xs ys high = refl

pub count_more : (leaf : ℕ) (front : List LeafStart) (s : LeafStart) (back : List LeafStart) → count_by (λ (r : LeafStart). r.leaf == leaf) (front ++ s ∷ back) ≡ count_by (λ (r : LeafStart). r.leaf == leaf) (front ++ back) + worth (s.leaf == leaf)
count_more leaf front s back =
    let p : LeafStart → Bool = λ r. r.leaf == leaf in
    omega (arith, count_append p front (s ∷ back), count_cons p s back, count_append p front back)

-- what the index is then
pub record AddChanged (starts : List LeafStart) (free : List ℕ) (retired : List Retired) (slots new : List IndexSlot) (entries : List Entry) : Type 0 where
  pub kept : IsKept new starts free retired
  pub adds : entries_of new starts ≡ entries
  pub count : length new ≡ length slots

pub add_changed : (slots : List IndexSlot) (starts after : List LeafStart) (free : List ℕ) (retired : List Retired) (entries : List Entry) (low : Key) (leaf : ℕ) (cuts : List Key) (before : ℕ) (now : IndexSlot) → entries_of slots starts ≡ entries
    → IsKept slots starts free retired → Unused slots starts free retired leaf → (can : CanAdd low cuts entries) → IsFloorStart low starts before → slice_get slots before ≡ Some now → Inserts (record { low = low; leaf = leaf }) starts after
    → AddChanged after free retired slots (set (set slots before (record { cuts = now.cuts; high = low })) leaf (record { cuts = cuts; high = now.high })) (with_leaf low leaf cuts entries can)
add_changed slots starts after free retired entries low leaf cuts before now view k unused can f there ins =
    let sp = split slots starts can.front can.before can.back (view ∙ can.is) in
    let p = sp.start in
    let s : LeafStart = record { low = low; leaf = leaf } in
    let below : is_below p.low low ≡ true = subst (λ (e : Entry). is_below e.low low ≡ true) (sym sp.entry) can.begins in
    let above : StartAbove low sp.behind = starts_above slots low sp.behind (subst (BeginAbove low) (sym sp.backs) can.above) in
    let same = floor_is low starts before sp.before p sp.behind f sp.is (below_flip p.low low below) above in
    let number : p.leaf ≡ before = ap (λ (x : LeafStart). x.leaf) (sym same.starts) ∙ f.same in
    let parts = cut_behind low ins.front ins.back sp.before p sp.behind (sym ins.was ∙ sp.is) ins.below ins.above below above in
    let is : after ≡ sp.before ++ p ∷ s ∷ sp.behind = ins.is ∙ (λ i. parts.0 i ++ s ∷ parts.1 i) ∙ append_assoc sp.before (p ∷ []) (s ∷ sp.behind) in
    let have : HaveSlots slots end_key (sp.before ++ p ∷ sp.behind) = subst (HaveSlots slots end_key) sp.is k.have in
    let h = slot_at slots end_key sp.before p sp.behind have in
    let lt = within_there slots p.leaf h.slot h.there in
    let slot = slot_read slots p before (begin_or sp.behind end_key) now h number there in
    let alone = stands_alone (length slots) sp.before p sp.behind free retired (subst (λ ss. StandOnce (length slots) ss free retired) sp.is k.once) in
    let apart : Apart leaf (sp.before ++ p ∷ sp.behind) = subst (Apart leaf) sp.is (absent (length slots) starts free retired leaf unused.unused) in
    let apart_front = all_front (λ (r : LeafStart). r.leaf ≢ leaf) sp.before (p ∷ sp.behind) apart in
    let apart_back = all_back (λ (r : LeafStart). r.leaf ≢ leaf) sp.before (p ∷ sp.behind) apart in
    let x : IndexSlot = record { cuts = now.cuts; high = low } in
    let y : IndexSlot = record { cuts = cuts; high = now.high } in
    let one = set slots p.leaf x in
    let new = set one leaf y in
    let count : length new ≡ length slots = length-set one leaf y ∙ length-set slots p.leaf x in
    let there_p : slice_get new p.leaf ≡ Some x = get_set_other one leaf p.leaf y apart_back.0 ∙ get_set_same slots p.leaf x lt in
    let there_s : slice_get new leaf ≡ Some y = get_set_same one leaf y (omega (arith, unused.exists, length-set slots p.leaf x)) in
    let older : can.before.cuts ≡ now.cuts = ap (λ (e : Entry). e.cuts) (sym sp.entry) ∙ ap cuts_or_none h.there ∙ ap (λ (z : IndexSlot). z.cuts) slot in
    let had = subst (λ (z : IndexSlot). AreCuts p.low z.cuts (begin_or sp.behind end_key)) slot h.cuts in
    let cuts_p : AreCuts p.low now.cuts low = record { count = had.count; begin = had.begin; sorted = subst (λ ks. AreSorted ks low) older can.older } in
    let ends : now.high ≡ begin_or sp.behind end_key = ap (λ (z : IndexSlot). z.high) (sym slot) ∙ h.ends in
    let ends' : end_of can.back ≡ begin_or sp.behind end_key = ap end_of (sym sp.backs) ∙ end_begin slots sp.behind in
    let has_p : HasSlot new p low = record { slot = x; there = there_p; ends = refl; cuts = cuts_p } in
    let has_s : HasSlot new s (begin_or sp.behind end_key) = record { slot = y; there = there_s; ends = ends; cuts = subst (AreCuts low cuts) ends' can.newer } in
    let front_kept = slots_kept one leaf y p.low sp.before apart_front (slots_kept slots p.leaf x p.low sp.before alone.0 (have_front slots end_key sp.before (p ∷ sp.behind) have)) in
    let back_kept = slots_kept one leaf y end_key sp.behind apart_back.1 (slots_kept slots p.leaf x end_key sp.behind alone.1 (have_back slots end_key sp.before (p ∷ sp.behind) have).1) in
    let now_have : HaveSlots new end_key (sp.before ++ p ∷ s ∷ sp.behind) = have_join new end_key sp.before (p ∷ s ∷ sp.behind) front_kept (has_p, (has_s, back_kept)) in
    let rises : AreRisingStarts (ins.front ++ s ∷ ins.back) = rising_more ins.front s ins.back (subst AreRisingStarts ins.was k.rising) ins.below ins.above in
    let first : begin_or after end_key ≡ first_key = ap (λ ss. begin_or ss end_key) is ∙ begin_same sp.before p (s ∷ sp.behind) sp.behind end_key ∙ ap (λ ss. begin_or ss end_key) (sym sp.is) ∙ k.first in
    let entry_p : entry_of new p ≡ can.before = (λ i. record { low = p.low; leaf = p.leaf; cuts = cuts_or_none (there_p i) }) ∙ ap (λ ks. let e : Entry = record { low = p.low; leaf = p.leaf; cuts = ks } in e) (sym (ap cuts_or_none h.there ∙ ap (λ (z : IndexSlot). z.cuts) slot)) ∙ sp.entry in
    let entry_s : entry_of new s ≡ record { low = low; leaf = leaf; cuts = cuts } = (λ i. record { low = low; leaf = leaf; cuts = cuts_or_none (there_s i) }) in
    let fronts : entries_of new sp.before ≡ can.front = entries_kept one leaf y sp.before apart_front ∙ entries_kept slots p.leaf x sp.before alone.0 ∙ sp.fronts in
    let backs : entries_of new sp.behind ≡ can.back = entries_kept one leaf y sp.behind apart_back.1 ∙ entries_kept slots p.leaf x sp.behind alone.1 ∙ sp.backs in
    let e : Entry = record { low = low; leaf = leaf; cuts = cuts } in
    let entries_new : entries_of new after ≡ (can.front ++ can.before ∷ []) ++ e ∷ can.back =
    ap (entries_of new) is ∙ entries_append new sp.before (p ∷ s ∷ sp.behind) ∙ (λ i. fronts i ++ entry_p i ∷ entry_s i ∷ backs i) ∙ sym (append_assoc can.front (can.before ∷ []) (e ∷ can.back)) in
    let result : AddChanged after free retired slots new (with_leaf low leaf cuts entries can) = record {
      kept = record {
        first = first;
        rising = subst AreRisingStarts (sym ins.is) rises;
        have = subst (HaveSlots new end_key) (sym is) now_have;
        once = λ q.
            let was = ap (λ ss. count_by (λ (r : LeafStart). r.leaf == q) ss) ins.was in
            let become = ap (λ ss. count_by (λ (r : LeafStart). r.leaf == q) ss) ins.is in
            let more = count_more q ins.front s ins.back in
            let le = once_more (length slots) leaf q (times q starts free retired) (times q after free retired) unused.exists (λ e. subst (λ m. times m starts free retired ≡ 0) e unused.unused) (k.once q) (omega (arith, was, become, more)) in
            subst (λ n. times q after free retired ≤ worth (nat_lt q n)) (sym count) le;
        few = omega (arith, k.few, count);
      };
      adds = entries_new;
      count = count;
    } in
    subst (λ n. AddChanged after free retired slots (set (set slots n x) leaf y) (with_leaf low leaf cuts entries can)) number result

apart_keys : (a b : Key) → is_below a b ≡ true → a ≢ b
apart_keys a b below same = let self = below_self b in let here : is_below b b ≡ true = subst (λ k. is_below k b ≡ true) same below in cc

none_above : (key : Key) (ss : List LeafStart) → StartAbove key ss → NoneBegins key ss
none_above key [] h = tt
none_above key (s ∷ ss) h = ((λ e. apart_keys key s.low h.0 (sym e)), none_above key ss h.1)

-- no leaf begins at a key between two of them
none_begins : (key : Key) (front : List LeafStart) (p : LeafStart) (back : List LeafStart) → AreRisingStarts (front ++ p ∷ back) → is_below p.low key ≡ true → StartAbove key back → NoneBegins key (front ++ p ∷ back)
none_begins key [] p back h below above = (apart_keys p.low key below, none_above key back above)
none_begins key (f ∷ front) p back h below above =
    let less = (all_back (λ (s : LeafStart). is_below f.low s.low ≡ true) front (p ∷ back) h.0).0 in
    (apart_keys f.low key (below_chain f.low p.low key less below), none_begins key front p back h.1 below above)

pub none_at : (slots : List IndexSlot) (starts : List LeafStart) (free : List ℕ) (retired : List Retired) (entries : List Entry) (low : Key) (cuts : List Key) → entries_of slots starts ≡ entries → IsKept slots starts free retired → CanAdd low cuts entries → NoneBegins low starts
none_at slots starts free retired entries low cuts view k can =
    let sp = split slots starts can.front can.before can.back (view ∙ can.is) in
    let below : is_below sp.start.low low ≡ true = subst (λ (e : Entry). is_below e.low low ≡ true) (sym sp.entry) can.begins in
    let above : StartAbove low sp.behind = starts_above slots low sp.behind (subst (BeginAbove low) (sym sp.backs) can.above) in
    subst (NoneBegins low) (sym sp.is) (none_begins low sp.before sp.start sp.behind (subst AreRisingStarts sp.is k.rising) below above)

-- ---- one leaf less

sorted_up : (ks : List Key) (high end : Key) → AreSorted ks high → NotAbove high end → AreSorted ks end
sorted_up [] high end h le = tt
sorted_up (k ∷ []) high end h le = (upto_chain k high end h.0 le, tt)
sorted_up (k ∷ l ∷ ls) high end h le = (h.0, sorted_up (l ∷ ls) high end h.1 le)

sorted_span : (k : Key) (ks : List Key) (high : Key) → AreSorted (k ∷ ks) high → NotAbove k high
sorted_span k [] high h = h.0
sorted_span k (l ∷ ls) high h = upto_chain k l high h.0 (sorted_span l ls high h.1)

-- no range ends below its begin
cuts_span : (low : Key) (cuts : List Key) (high : Key) → AreCuts low cuts high → NotAbove low high
cuts_span low [] high h = let e = h.begin in cc
cuts_span low (k ∷ ks) high h = let same : k ≡ low = same_some h.begin in subst (λ x. NotAbove x high) same (sorted_span k ks high h.sorted)

rising_less : (front : List LeafStart) (s : LeafStart) (back : List LeafStart) → AreRisingStarts (front ++ s ∷ back) → AreRisingStarts (front ++ back)
rising_less [] s back h = h.1
rising_less (f ∷ front) s back h =
    (all_append (λ (r : LeafStart). is_below f.low r.low ≡ true) front back (all_front _ front (s ∷ back) h.0) (all_back (λ (r : LeafStart). is_below f.low r.low ≡ true) front (s ∷ back) h.0).1, rising_less front s back h.1)

none_below : (key : Key) (ss : List LeafStart) → StartAbove key ss → AllByRecursion (λ (s : LeafStart). is_below s.low key ≡ false) ss
none_below key [] h = tt
none_below key (s ∷ ss) h = (below_flip key s.low h.0, none_below key ss h.1)

-- the leaf that is dropped, with the one before it
pub record Neighbours (slots : List IndexSlot) (starts : List LeafStart) (low : Key) (entries : List Entry) (can : CanDrop low entries) : Type 0 where
  pub before : List LeafStart
  pub p : LeafStart
  pub d : LeafStart
  pub behind : List LeafStart
  pub is : starts ≡ before ++ p ∷ d ∷ behind
  pub fronts : entries_of slots before ≡ can.front
  pub entry_p : entry_of slots p ≡ can.before
  pub entry_d : entry_of slots d ≡ can.dropped
  pub backs : entries_of slots behind ≡ can.back
  pub begins : d.low ≡ low
  pub below : is_below p.low low ≡ true
  pub above : StartAbove low behind

pub neighbours : (slots : List IndexSlot) (starts : List LeafStart) (free : List ℕ) (retired : List Retired) (entries : List Entry) (low : Key) → entries_of slots starts ≡ entries → IsKept slots starts free retired → (can : CanDrop low entries) → Neighbours slots starts low entries can
neighbours slots starts free retired entries low view k can =
    let sp = split slots starts can.front can.before (can.dropped ∷ can.back) (view ∙ can.is) in
    let sq = split slots sp.behind [] can.dropped can.back sp.backs in
    let none : sq.before ≡ [] = no_entries sq.before sq.fronts in
    let rest : sp.behind ≡ sq.start ∷ sq.behind = sq.is ∙ ap (λ xs. xs ++ sq.start ∷ sq.behind) none in
    let is : starts ≡ sp.before ++ sp.start ∷ sq.start ∷ sq.behind = sp.is ∙ ap (λ xs. sp.before ++ sp.start ∷ xs) rest in
    let begins : sq.start.low ≡ low = ap (λ (e : Entry). e.low) sq.entry ∙ can.same in
    let rising = subst AreRisingStarts is k.rising in
    let behind_p = rising_behind sp.before sp.start (sq.start ∷ sq.behind) rising in
    let behind_d = rising_behind (sp.before ++ sp.start ∷ []) sq.start sq.behind (subst AreRisingStarts (sym (append_assoc sp.before (sp.start ∷ []) (sq.start ∷ sq.behind))) rising) in
    record {
      before = sp.before;
      p = sp.start;
      d = sq.start;
      behind = sq.behind;
      is = is;
      fronts = sp.fronts;
      entry_p = sp.entry;
      entry_d = sq.entry;
      backs = sq.backs;
      begins = begins;
      below = subst (λ x. is_below sp.start.low x ≡ true) begins behind_p.0;
      above = subst (λ x. StartAbove x sq.behind) begins behind_d;
    }
  where
    no_entries : (ss : List LeafStart) → entries_of slots ss ≡ [] → ss ≡ []
    no_entries [] e = refl
    no_entries (s ∷ ss) e = cc

pub one_begins : (slots : List IndexSlot) (starts : List LeafStart) (low : Key) (entries : List Entry) (can : CanDrop low entries) → (n : Neighbours slots starts low entries can) → OneBegins low starts
one_begins slots starts low entries can n = record { front = n.before ++ n.p ∷ []; start = n.d; back = n.behind; is = n.is ∙ sym (append_assoc n.before (n.p ∷ []) (n.d ∷ n.behind)); low = n.begins }

pub two_there : (slots : List IndexSlot) (starts : List LeafStart) (low : Key) (entries : List Entry) (can : CanDrop low entries) → (n : Neighbours slots starts low entries can) → 2 ≤ length starts
two_there slots starts low entries can n = omega (arith, ap length n.is, length-append n.before (n.p ∷ n.d ∷ n.behind))

pub before_there : (slots : List IndexSlot) (starts : List LeafStart) (low : Key) (entries : List Entry) (can : CanDrop low entries) → (n : Neighbours slots starts low entries can) → AllByRecursion (λ (s : LeafStart). NotAbove low s.low) starts → ⊥
before_there slots starts low entries can n all =
    let at = (all_back (λ (s : LeafStart). NotAbove low s.low) n.before (n.p ∷ n.d ∷ n.behind) (subst (AllByRecursion (λ (s : LeafStart). NotAbove low s.low)) n.is all)).0 in
    clash at n.below
  where
    clash : {t : Bool} → t ≡ false → t ≡ true → ⊥
    clash e f = cc

pub record DropChanged (starts : List LeafStart) (free : List ℕ) (retired : List Retired) (slots new : List IndexSlot) (entries : List Entry) : Type 0 where
  pub kept : IsKept new starts free retired
  pub drops : entries_of new starts ≡ entries
  pub count : length new ≡ length slots

range_joined : (slots : List IndexSlot) (starts after : List LeafStart) (free : List ℕ) (retired : List Retired) (entries : List Entry) (low : Key) (dropped before : ℕ) (gone now : IndexSlot) → IsKept slots starts free retired → (can : CanDrop low entries)
    → (n : Neighbours slots starts low entries can) → IsFloorStart low starts dropped → slice_get slots dropped ≡ Some gone → BeginsBefore low starts before → slice_get slots before ≡ Some now → Removes low starts after
    → DropChanged after free retired slots (set slots before (record { cuts = now.cuts; high = gone.high })) (without_leaf low entries can)
range_joined slots starts after free retired entries low dropped before gone now k can n f there_gone b there_now rem =
    let p = n.p in
    let d = n.d in
    let grouped : starts ≡ (n.before ++ p ∷ []) ++ d ∷ n.behind = n.is ∙ sym (append_assoc n.before (p ∷ []) (d ∷ n.behind)) in
    let from : NotAbove d.low low = subst (λ x. NotAbove x low) (sym n.begins) (below_self low) in
    let same_d = floor_is low starts dropped (n.before ++ p ∷ []) d n.behind f grouped from n.above in
    let number_d : d.leaf ≡ dropped = ap (λ (x : LeafStart). x.leaf) (sym same_d.starts) ∙ f.same in
    let rest : AllByRecursion (λ (s : LeafStart). is_below s.low low ≡ false) (d ∷ n.behind) = (subst (λ x. is_below x low ≡ false) (sym n.begins) (below_self low), none_below low n.behind n.above) in
    let same_p = one_last (λ (x : LeafStart). is_below x.low low) b.last.front b.start b.last.back n.before p (d ∷ n.behind) (sym b.last.is ∙ n.is) b.last.below b.last.rest n.below rest in
    let number_p : p.leaf ≡ before = ap (λ (x : LeafStart). x.leaf) (sym same_p.starts) ∙ b.same in
    let removed_above : StartAbove low rem.back = subst (λ x. StartAbove x rem.back) rem.low (rising_behind rem.front rem.start rem.back (subst AreRisingStarts rem.was k.rising)) in
    let removed_from : NotAbove rem.start.low low = subst (λ x. NotAbove x low) (sym rem.low) (below_self low) in
    let gone_is = one_last (λ (x : LeafStart). not (is_below low x.low)) rem.front rem.start rem.back (n.before ++ p ∷ []) d n.behind (sym rem.was ∙ grouped) (ap not removed_from) (above_passed low rem.back removed_above) (ap not from) (above_passed low n.behind n.above) in
    let is : after ≡ n.before ++ p ∷ n.behind = rem.is ∙ (λ i. gone_is.fronts i ++ gone_is.backs i) ∙ append_assoc n.before (p ∷ []) n.behind in
    let have : HaveSlots slots end_key (n.before ++ p ∷ d ∷ n.behind) = subst (HaveSlots slots end_key) n.is k.have in
    let h = slot_at slots end_key n.before p (d ∷ n.behind) have in
    let g = (have_back slots end_key n.before (p ∷ d ∷ n.behind) have).1.0 in
    let slot_p = slot_read slots p before d.low now h number_p there_now in
    let slot_d = slot_read slots d dropped (begin_or n.behind end_key) gone g number_d there_gone in
    let alone = stands_alone (length slots) n.before p (d ∷ n.behind) free retired (subst (λ ss. StandOnce (length slots) ss free retired) n.is k.once) in
    let x : IndexSlot = record { cuts = now.cuts; high = gone.high } in
    let new = set slots p.leaf x in
    let count = length-set slots p.leaf x in
    let there : slice_get new p.leaf ≡ Some x = get_set_same slots p.leaf x (within_there slots p.leaf h.slot h.there) in
    let ends : gone.high ≡ begin_or n.behind end_key = ap (λ (z : IndexSlot). z.high) (sym slot_d) ∙ g.ends in
    let had = subst (λ (z : IndexSlot). AreCuts p.low z.cuts d.low) slot_p h.cuts in
    let cuts : AreCuts p.low now.cuts (begin_or n.behind end_key) = record { count = had.count; begin = had.begin; sorted = sorted_up now.cuts d.low (begin_or n.behind end_key) had.sorted (cuts_span d.low g.slot.cuts (begin_or n.behind end_key) g.cuts) } in
    let here : HasSlot new p (begin_or n.behind end_key) = record { slot = x; there = there; ends = ends; cuts = cuts } in
    let front_kept = slots_kept slots p.leaf x p.low n.before alone.0 (have_front slots end_key n.before (p ∷ d ∷ n.behind) have) in
    let back_kept = slots_kept slots p.leaf x end_key n.behind alone.1.1 (have_back slots end_key n.before (p ∷ d ∷ n.behind) have).1.1 in
    let now_have : HaveSlots new end_key (n.before ++ p ∷ n.behind) = have_join new end_key n.before (p ∷ n.behind) front_kept (here, back_kept) in
    let entry : entry_of new p ≡ can.before =
    (λ i. record { low = p.low; leaf = p.leaf; cuts = cuts_or_none (there i) }) ∙ ap (λ ks. let e : Entry = record { low = p.low; leaf = p.leaf; cuts = ks } in e) (sym (ap cuts_or_none h.there ∙ ap (λ (z : IndexSlot). z.cuts) slot_p)) ∙ n.entry_p in
    let fronts : entries_of new n.before ≡ can.front = entries_kept slots p.leaf x n.before alone.0 ∙ n.fronts in
    let backs : entries_of new n.behind ≡ can.back = entries_kept slots p.leaf x n.behind alone.1.1 ∙ n.backs in
    let entries_new : entries_of new after ≡ (can.front ++ can.before ∷ []) ++ can.back =
    ap (entries_of new) is ∙ entries_append new n.before (p ∷ n.behind) ∙ (λ i. fronts i ++ entry i ∷ backs i) ∙ sym (append_assoc can.front (can.before ∷ []) can.back) in
    let result : DropChanged after free retired slots new (without_leaf low entries can) = record {
      kept = record {
        first = ap (λ ss. begin_or ss end_key) is ∙ begin_same n.before p n.behind (d ∷ n.behind) end_key ∙ ap (λ ss. begin_or ss end_key) (sym n.is) ∙ k.first;
        rising = subst AreRisingStarts (sym rem.is) (rising_less rem.front rem.start rem.back (subst AreRisingStarts rem.was k.rising));
        have = subst (HaveSlots new end_key) (sym is) now_have;
        once = λ q.
            let was = ap (λ ss. count_by (λ (r : LeafStart). r.leaf == q) ss) rem.was in
            let become = ap (λ ss. count_by (λ (r : LeafStart). r.leaf == q) ss) rem.is in
            let more = count_more q rem.front rem.start rem.back in
            let le : times q after free retired ≤ worth (nat_lt q (length slots)) = omega (arith, was, become, more, k.once q) in
            subst (λ m. times q after free retired ≤ worth (nat_lt q m)) (sym count) le;
        few = omega (arith, k.few, count);
      };
      drops = entries_new;
      count = count;
    } in
    subst (λ m. DropChanged after free retired slots (set slots m x) (without_leaf low entries can)) number_p result

-- the leaf that is taken out is the last one that does not begin above its key
pub removed_start : (low : Key) (starts after : List LeafStart) (dropped : ℕ) → AreRisingStarts starts → (f : IsFloorStart low starts dropped) → (rem : Removes low starts after) → f.start ≡ rem.start
removed_start low starts after dropped rising f rem =
    let from : NotAbove rem.start.low low = subst (λ x. NotAbove x low) (sym rem.low) (below_self low) in
    let above : StartAbove low rem.back = subst (λ x. StartAbove x rem.back) rem.low (rising_behind rem.front rem.start rem.back (subst AreRisingStarts rem.was rising)) in
    let same = floor_is low starts dropped rem.front rem.start rem.back f rem.was from above in
    same.starts

-- it is live no more
removed_apart : (slots : List IndexSlot) (starts after : List LeafStart) (free : List ℕ) (retired : List Retired) (low : Key) (dropped : ℕ) → IsKept slots starts free retired → IsFloorStart low starts dropped → Removes low starts after → Apart dropped after
removed_apart slots starts after free retired low dropped k f rem =
    let number : rem.start.leaf ≡ dropped = ap (λ (s : LeafStart). s.leaf) (sym (removed_start low starts after dropped k.rising f rem)) ∙ f.same in
    let alone = stands_alone (length slots) rem.front rem.start rem.back free retired (subst (λ ss. StandOnce (length slots) ss free retired) rem.was k.once) in
    let apart : Apart rem.start.leaf (rem.front ++ rem.back) = all_append (λ (s : LeafStart). s.leaf ≢ rem.start.leaf) rem.front rem.back alone.0 alone.1 in
    subst (λ m. Apart m after) number (subst (Apart rem.start.leaf) (sym rem.is) apart)

-- the slot of a leaf that isn't live may be any
idle_changed : (slots : List IndexSlot) (starts : List LeafStart) (free : List ℕ) (retired : List Retired) (leaf : ℕ) (x : IndexSlot) → Apart leaf starts → IsKept slots starts free retired → IsKept (set slots leaf x) starts free retired
idle_changed slots starts free retired leaf x apart k =
    let count = length-set slots leaf x in
    record {
      first = k.first;
      rising = k.rising;
      have = slots_kept slots leaf x end_key starts apart k.have;
      once = λ q. subst (λ n. times q starts free retired ≤ worth (nat_lt q n)) (sym count) (k.once q);
      few = omega (arith, k.few, count);
    }

pub drop_changed : (slots : List IndexSlot) (starts after : List LeafStart) (free : List ℕ) (retired : List Retired) (entries : List Entry) (low : Key) (dropped before : ℕ) (gone now y : IndexSlot) → IsKept slots starts free retired → (can : CanDrop low entries)
    → (n : Neighbours slots starts low entries can) → IsFloorStart low starts dropped → slice_get slots dropped ≡ Some gone → BeginsBefore low starts before → slice_get slots before ≡ Some now → Removes low starts after
    → DropChanged after free retired slots (set (set slots before (record { cuts = now.cuts; high = gone.high })) dropped y) (without_leaf low entries can)
drop_changed slots starts after free retired entries low dropped before gone now y k can n f there_gone b there_now rem =
    let joined = set slots before (record { cuts = now.cuts; high = gone.high }) in
    let j = range_joined slots starts after free retired entries low dropped before gone now k can n f there_gone b there_now rem in
    let apart = removed_apart slots starts after free retired low dropped k f rem in
    record { kept = idle_changed joined after free retired dropped y apart j.kept; drops = entries_kept joined dropped y after apart ∙ j.drops; count = length-set joined dropped y ∙ j.count }
