-- Leaves that wait, as lists: what changes of leaves and of the queue leave.
use Rattle.std.proofs.Common.{◌≡◌, ◌≢◌, ℕ, ◌<◌, List, [], ◌∷◌, ◌++◌, Option, Some, None, length, set, refl, sym, ◌∙◌, ap, ap₂, subst, arith, inl, inr}
use Rattle.std.specs.Prelude.{sum, slice_get, ◌⊎◌}
use Rattle.std.specs.List.{AllByRecursion}
use Rattle.std.proofs.Math.ListN.{length-set}
use Rattle.graph_model.specs.Rows.{end_key}
use Rattle.leaf_table.specs.VersionSegment.Rows.{VersionedRows}
use Rattle.leaf_table.specs.LeafArray.Segments.{AreSame, counts_of, low_or}
use Rattle.leaf_queue.specs.declared.waiting.WaitStage.{WaitStage}
use Rattle.leaf_queue.specs.declared.waiting.WaitStage.TheVariants.{Windows}
use Rattle.leaf_queue.specs.declared.waiting.Waiting.{Waiting}
use Rattle.leaf_queue.specs.Queue.{Waits}
use Rattle.leaf_queue.proofs.ListLemmas.{get_set_other, get_set_same}
use Rattle.leaf_store.specs.Leaves.{Part}
use Rattle.leaf_store.specs.Merging.{AreSameParts, HasNoWindow, IsLevel, rows_in_part}
use Rattle.leaf_store.specs.Queued.{AreQueued, AwaitsWindows, IsApartOrQueued, IsLevelOrQueued, IsQueued, IsThick, QueuesChange, waiting_of, waiting_with, with_leaf}
use Rattle.leaf_store.proofs.RoomLemmas.{count_rows}

abbrev pub Places : Type 0
Places = List (Option Waiting)

-- who waits at an empty place
abbrev pub nobody : Option Waiting
nobody = None

-- ---- other places

-- the place of the leaf is as it was
abbrev pub Stays : Places → Places → Part → Type 0
Stays places places' p = slice_get places' p.leaf ≡ slice_get places p.leaf

-- none of these leaves has the number
abbrev pub OtherParts : ℕ → List Part → Type 0
OtherParts n ps = AllByRecursion (λ p. p.leaf ≢ n) ps

pub others_stay : (places : Places) (n : ℕ) (x : Option Waiting) (ps : List Part) → OtherParts n ps → AllByRecursion (Stays places (set places n x)) ps
others_stay places n x [] others = tt
others_stay places n x (p ∷ ps) others = (get_set_other places n p.leaf x others.0, others_stay places n x ps others.1)

pub stay_on : (a b c : Places) (ps : List Part) → AllByRecursion (Stays a b) ps → AllByRecursion (Stays b c) ps → AllByRecursion (Stays a c) ps
stay_on a b c [] ab bc = tt
stay_on a b c (p ∷ ps) ab bc = (bc.0 ∙ ab.0, stay_on a b c ps ab.1 bc.1)

-- the leaf that was put into the queue waits
pub now_waits : (places : Places) (n : ℕ) (ss : List VersionedRows) (p : Part) → n < length places → p.leaf ≡ n → p.segments ≡ ss → AwaitsWindows (with_leaf places n ss) p
now_waits places n ss p within number same =
    ap (slice_get (with_leaf places n ss)) number ∙ get_set_same places n (Some (waiting_with Windows n ss)) within ∙ (λ i. Some (Some (waiting_with Windows (sym number i) (sym same i))))

module _ (places places' : Places) where
  queued_on : (p : Part) → Stays places places' p → IsQueued places p → IsQueued places' p
  queued_on p stays waits = (waits.0, stays ∙ waits.1)

  level_on : (p : Part) → Stays places places' p → IsLevelOrQueued places p → IsLevelOrQueued places' p
  level_on p stays (inl level) = inl level
  level_on p stays (inr waits) = inr (stays ∙ waits)

  pair_on : (p q : Part) (qs : List Part) → Stays places places' p → Stays places places' q → IsApartOrQueued places p (q ∷ qs) → IsApartOrQueued places' p (q ∷ qs)
  pair_on p q qs left right (inl apart) = inl apart
  pair_on p q qs left right (inr (inl waits)) = inr (inl (queued_on p left waits))
  pair_on p q qs left right (inr (inr waits)) = inr (inr (queued_on q right waits))

  apart_on : (p : Part) (ps : List Part) → Stays places places' p → AllByRecursion (Stays places places') ps → IsApartOrQueued places p ps → IsApartOrQueued places' p ps
  apart_on p [] stays all apart = tt
  apart_on p (q ∷ qs) stays all apart = pair_on p q qs stays all.0 apart

  all_on : (ps : List Part) → AllByRecursion (Stays places places') ps → AreQueued places ps → AreQueued places' ps
  all_on [] all was = tt
  all_on (p ∷ ps) all was = (level_on p all.0 was.0, apart_on p ps all.0 all.1 was.1, all_on ps all.1 was.2)

  -- ---- some leaves become others, which all wait

  waits_apart : (p : Part) (ps : List Part) → AwaitsWindows places' p → IsApartOrQueued places' p ps
  waits_apart p [] waits = tt
  waits_apart p (q ∷ qs) waits = inr (inl (Windows, waits))

  behind_queued : (ms back : List Part) → AllByRecursion (Stays places places') back → AreQueued places (ms ++ back) → AreQueued places' back
  behind_queued [] back all was = all_on back all was
  behind_queued (m ∷ ms) back all was = behind_queued ms back all was.2

  waiting_front : (ns back : List Part) → AllByRecursion (AwaitsWindows places') ns → AreQueued places' back → AreQueued places' (ns ++ back)
  waiting_front [] back waits rest = rest
  waiting_front (n ∷ ns) back waits rest = (inr waits.0, waits_apart n (ns ++ back) waits.0, waiting_front ns back waits.1 rest)

  pub queued_middle : (front ms : List Part) (n : Part) (ns back : List Part) → AllByRecursion (AwaitsWindows places') (n ∷ ns) → AllByRecursion (Stays places places') front → AllByRecursion (Stays places places') back → AreQueued places (front ++ (ms ++ back)) → AreQueued places' (front ++ (n ∷ ns ++ back))
  queued_middle [] ms n ns back waits fs bs was = waiting_front (n ∷ ns) back waits (behind_queued ms back bs was)
  queued_middle (f ∷ []) ms n ns back waits fs bs was = (level_on f fs.0 was.0, inr (inr (Windows, waits.0)), queued_middle [] ms n ns back waits tt bs was.2)
  queued_middle (f ∷ g ∷ front) ms n ns back waits fs bs was = (level_on f fs.0 was.0, pair_on f g (front ++ (ms ++ back)) fs.0 fs.1.0 was.1, queued_middle (g ∷ front) ms n ns back waits fs.1 bs was.2)

-- ---- thick leaves

rows_counted : (p : Part) → rows_in_part p ≡ sum (counts_of p.segments)
rows_counted p = sym (count_rows p.segments)

-- a thick leaf has no sparse window
thick_level : (ss : List VersionedRows) → IsThick (counts_of ss) → IsLevel ss
thick_level ss thick segment within few = absurd (omega (arith, thick.each segment within, few))

-- and too many rows to become one with another
thick_apart : (places : Places) (p : Part) (ps : List Part) → IsThick (counts_of p.segments) → IsApartOrQueued places p ps
thick_apart places p [] thick = tt
thick_apart places p (q ∷ qs) thick = inl (omega (arith, thick.many, rows_counted p))

-- a leaf becomes a thick one
thick_middle : (places : Places) (front : List Part) (p q : Part) (back : List Part) → IsThick (counts_of q.segments) → AreQueued places (front ++ p ∷ back) → AreQueued places (front ++ q ∷ back)
thick_middle places [] p q back thick was = (inl (thick_level q.segments thick), thick_apart places q back thick, was.2)
thick_middle places (f ∷ []) p q back thick was = (was.0, inl (omega (arith, thick.many, rows_counted q)), thick_middle places [] p q back thick was.2)
thick_middle places (f ∷ g ∷ front) p q back thick was = (was.0, was.1, thick_middle places (g ∷ front) p q back thick was.2)

-- each leaf is thick or waits
pub thick_or_queued : (places : Places) (ps : List Part) → AllByRecursion (λ p. IsThick (counts_of p.segments) ⊎ AwaitsWindows places p) ps → AreQueued places ps
thick_or_queued places [] each = tt
thick_or_queued places (p ∷ ps) each = (level each.0, apart each.0, thick_or_queued places ps each.1)
  where
    level : IsThick (counts_of p.segments) ⊎ AwaitsWindows places p → IsLevelOrQueued places p
    level (inl thick) = inl (thick_level p.segments thick)
    level (inr waits) = inr waits

    apart : IsThick (counts_of p.segments) ⊎ AwaitsWindows places p → IsApartOrQueued places p ps
    apart (inl thick) = thick_apart places p ps thick
    apart (inr waits) = waits_apart places places p ps waits

-- ---- leaves with the same counts

-- they begin at the same key, and their segments have as many rows
pub record IsLike (p q : Part) : Type 0 where
  pub leaf : q.leaf ≡ p.leaf
  pub low : low_or q.segments end_key ≡ low_or p.segments end_key
  pub counts : counts_of q.segments ≡ counts_of p.segments

abbrev pub AreLike : List Part → List Part → Type 0
AreLike [] [] = Unit {0}
AreLike (p ∷ ps) (q ∷ qs) = IsLike p q × AreLike ps qs
AreLike [] (q ∷ qs) = ⊥
AreLike (p ∷ ps) [] = ⊥

module _ (places : Places) where
  like_waits : (stage : WaitStage) (p q : Part) → IsLike p q → Waits places (waiting_of stage p) → Waits places (waiting_of stage q)
  like_waits stage p q like waits =
      ap (slice_get places) like.leaf ∙ waits ∙ (λ i. Some (Some (record { stage = stage; low = sym like.low i; leaf = sym like.leaf i })))

  like_queued : (p q : Part) → IsLike p q → IsQueued places p → IsQueued places q
  like_queued p q like waits = (waits.0, like_waits waits.0 p q like waits.1)

  like_level : (p q : Part) → IsLike p q → IsLevelOrQueued places p → IsLevelOrQueued places q
  like_level p q like (inl level) = inl (subst (λ ns. (segment : ℕ) → segment < 8 → HasNoWindow ns segment) (sym like.counts) level)
  like_level p q like (inr waits) = inr (like_waits Windows p q like waits)

  like_rows : (p q : Part) → IsLike p q → rows_in_part q ≡ rows_in_part p
  like_rows p q like = rows_counted q ∙ ap sum like.counts ∙ sym (rows_counted p)

  like_apart : (p q : Part) (ps qs : List Part) → IsLike p q → AreLike ps qs → IsApartOrQueued places p ps → IsApartOrQueued places q qs
  like_apart p q [] [] like all is = tt
  like_apart p q (a ∷ ps) (b ∷ qs) like all (inl is) = inl (omega (arith, is, like_rows p q like, like_rows a b all.0))
  like_apart p q (a ∷ ps) (b ∷ qs) like all (inr (inl waits)) = inr (inl (like_queued p q like waits))
  like_apart p q (a ∷ ps) (b ∷ qs) like all (inr (inr waits)) = inr (inr (like_queued a b all.0 waits))
  like_apart p q [] (b ∷ qs) like all is = absurd all
  like_apart p q (a ∷ ps) [] like all is = absurd all

  pub queued_like : (ps qs : List Part) → AreLike ps qs → AreQueued places ps → AreQueued places qs
  queued_like [] [] like was = tt
  queued_like (p ∷ ps) (q ∷ qs) like was = (like_level p q like.0 was.0, like_apart p q ps qs like.0 like.1 was.1, queued_like ps qs like.1 was.2)
  queued_like [] (q ∷ qs) like was = absurd like
  queued_like (p ∷ ps) [] like was = absurd like

-- those of which only the room for records has changed
pub same_like : (ps qs : List Part) → AreSameParts ps qs → AreLike ps qs
same_like [] [] same = tt
same_like (p ∷ ps) (q ∷ qs) same = (record { leaf = same.0; low = low p.segments q.segments same.1; counts = counts p.segments q.segments same.1 }, same_like ps qs same.2)
  where
    low : (ss ts : List VersionedRows) → AreSame ss ts → low_or ts end_key ≡ low_or ss end_key
    low [] [] same = refl
    low (s ∷ ss) (t ∷ ts) same = same.0.low
    low [] (t ∷ ts) same = absurd same
    low (s ∷ ss) [] same = absurd same

    counts : (ss ts : List VersionedRows) → AreSame ss ts → counts_of ts ≡ counts_of ss
    counts [] [] same = refl
    counts (s ∷ ss) (t ∷ ts) same = ap₂ (λ n ns. n ∷ ns) (ap length same.0.rows) (counts ss ts same.1)
    counts [] (t ∷ ts) same = absurd same
    counts (s ∷ ss) [] same = absurd same
same_like [] (q ∷ qs) same = absurd same
same_like (p ∷ ps) [] same = absurd same

-- ---- one segment changes

-- a leaf with these segments around one
abbrev pub part_with : ℕ → List VersionedRows → VersionedRows → List VersionedRows → Part
part_with leaf xs c ys = record { leaf = leaf; segments = xs ++ c ∷ ys }

-- where it begins at the same key and has as many rows as before the leaves are like those before
like_around : (front : List Part) (leaf : ℕ) (xs : List VersionedRows) (c d : VersionedRows) (ys : List VersionedRows) (back : List Part) → d.low ≡ c.low → length d.rows ≡ length c.rows → AreLike (front ++ part_with leaf xs c ys ∷ back) (front ++ part_with leaf xs d ys ∷ back)
like_around [] leaf xs c d ys back low rows = (record { leaf = refl; low = begin xs; counts = counts xs }, itself back)
  where
    begin : (xs : List VersionedRows) → low_or (xs ++ d ∷ ys) end_key ≡ low_or (xs ++ c ∷ ys) end_key
    begin [] = low
    begin (x ∷ xs) = refl

    counts : (xs : List VersionedRows) → counts_of (xs ++ d ∷ ys) ≡ counts_of (xs ++ c ∷ ys)
    counts [] = ap (λ n. n ∷ counts_of ys) rows
    counts (x ∷ xs) = ap (λ ns. length x.rows ∷ ns) (counts xs)

    itself : (ps : List Part) → AreLike ps ps
    itself [] = tt
    itself (p ∷ ps) = (record { leaf = refl; low = refl; counts = refl }, itself ps)
like_around (f ∷ front) leaf xs c d ys back low rows = (record { leaf = refl; low = refl; counts = refl }, like_around front leaf xs c d ys back low rows)

pub queued_change : (places places' : Places) (front : List Part) (leaf : ℕ) (xs : List VersionedRows) (c d : VersionedRows) (ys : List VersionedRows) (back : List Part) (before rows : ℕ) → leaf < length places → OtherParts leaf front → OtherParts leaf back → d.low ≡ c.low → before ≡ length c.rows → rows ≡ length d.rows → QueuesChange before rows (xs ++ d ∷ ys) leaf places places'
    → AreQueued places (front ++ part_with leaf xs c ys ∷ back) → AreQueued places' (front ++ part_with leaf xs d ys ∷ back)
queued_change places places' front leaf xs c d ys back before rows within fs bs low was_rows is_rows (inl same) was =
    subst (λ f. AreQueued f (front ++ part_with leaf xs d ys ∷ back)) (sym same.1)
    (queued_like places (front ++ part_with leaf xs c ys ∷ back) (front ++ part_with leaf xs d ys ∷ back) (like_around front leaf xs c d ys back low (sym is_rows ∙ same.0 ∙ was_rows)) was)
queued_change places places' front leaf xs c d ys back before rows within fs bs low was_rows is_rows (inr (inl thick)) was =
    subst (λ f. AreQueued f (front ++ part_with leaf xs d ys ∷ back)) (sym thick.1) (thick_middle places front (part_with leaf xs c ys) (part_with leaf xs d ys) back thick.0 was)
queued_change places places' front leaf xs c d ys back before rows within fs bs low was_rows is_rows (inr (inr now)) was =
    let x = Some (waiting_with Windows leaf (xs ++ d ∷ ys)) in
    subst (λ f. AreQueued f (front ++ part_with leaf xs d ys ∷ back)) (sym now)
    (queued_middle places (set places leaf x) front (part_with leaf xs c ys ∷ []) (part_with leaf xs d ys) [] back (now_waits places leaf (xs ++ d ∷ ys) (part_with leaf xs d ys) within refl refl, tt) (others_stay places leaf x front fs) (others_stay places leaf x back bs) was)

pub changed_count : (places places' : Places) (leaf before rows : ℕ) (ss : List VersionedRows) → QueuesChange before rows ss leaf places places' → length places' ≡ length places
changed_count places places' leaf before rows ss (inl same) = ap length same.1
changed_count places places' leaf before rows ss (inr (inl thick)) = ap length thick.1
changed_count places places' leaf before rows ss (inr (inr now)) = ap length now ∙ length-set places leaf (Some (waiting_with Windows leaf ss))
