-- Trees whose nodes have the first of what their children have.
use Rattle.std.proofs.Common.{◌≡◌, ◌≢◌, ℕ, zero, suc, ◌+◌, ◌-◌, ◌*◌, ◌/◌, ◌<◌, ◌≤◌, List, Option, Some, None, length, drop, set, get_or, refl, sym, ◌∙◌, ap, subst, arith, cond, inl, inr}
use Rattle.std.specs.Prelude.{Bool, true, false, IfSome, ◌⊎◌, slice_get}
use Rattle.std.proofs.lemmas.Bool.{cases_lt}
use Rattle.std.proofs.lemmas.List.{get_or-set_same, get_or-set_other, get_or_read_under}
use Rattle.std.proofs.lemmas.Option.{get_or_from_slice_get, slice_get_within, slice_get-get_or}
use Rattle.graph_model.specs.Rows.{is_below}
use Rattle.graph_model.proofs.KeyLemmas.{below_flip, below_self, upto_chain}
use Rattle.graph_model.proofs.PlaceLemmas.{get_drop, get_in_drop}
use Rattle.leaf_queue.specs.declared.waiting.WaitStage.{WaitStage}
use Rattle.leaf_queue.specs.declared.waiting.WaitStage.TheVariants.{Windows, Neighbours}
use Rattle.leaf_queue.specs.declared.waiting.Waiting.{Waiting}
use Rattle.leaf_queue.specs.Queue.{by_stage, comes_before, first_of, IsFirst, Waits}
use Rattle.leaf_queue.specs.Tree.{IsTree, IsWon, node_at}
use Rattle.leaf_queue.proofs.ListLemmas.{get_set_same, get_set_other, same_or_not}

-- ---- which comes first

stage_chain : (s t u : WaitStage) (x y z : Bool) → (x ≡ false → y ≡ false → z ≡ false) → by_stage s t x ≡ false → by_stage t u y ≡ false → by_stage s u z ≡ false
stage_chain Windows Windows Windows x y z h a b = h a b
stage_chain Windows Windows Neighbours x y z h a b = absurd (cc)
stage_chain Windows Neighbours u x y z h a b = absurd (cc)
stage_chain Neighbours Windows Windows x y z h a b = refl
stage_chain Neighbours Windows Neighbours x y z h a b = absurd (cc)
stage_chain Neighbours Neighbours Windows x y z h a b = refl
stage_chain Neighbours Neighbours Neighbours x y z h a b = h a b

stage_flip : (s t : WaitStage) (x y : Bool) → (x ≡ true → y ≡ false) → by_stage s t x ≡ true → by_stage t s y ≡ false
stage_flip Windows Windows x y h a = h a
stage_flip Windows Neighbours x y h a = refl
stage_flip Neighbours Windows x y h a = absurd (cc)
stage_flip Neighbours Neighbours x y h a = h a

stage_self : (s : WaitStage) (x : Bool) → x ≡ false → by_stage s s x ≡ false
stage_self Windows x is = is
stage_self Neighbours x is = is

before_self : (a : Waiting) → comes_before a a ≡ false
before_self a = stage_self a.stage (is_below a.low a.low) (below_self a.low)

-- the first of the two doesn't come before the second
abbrev NotBefore : Option Waiting → Option Waiting → Type 0
NotBefore None y = Unit {0}
NotBefore (Some a) None = ⊥
NotBefore (Some a) (Some b) = comes_before a b ≡ false

not_before_self : (x : Option Waiting) → NotBefore x x
not_before_self None = tt
not_before_self (Some a) = before_self a

not_before_chain : (x y z : Option Waiting) → NotBefore x y → NotBefore y z → NotBefore x z
not_before_chain None y z xy yz = tt
not_before_chain (Some a) None z xy yz = absurd xy
not_before_chain (Some a) (Some b) None xy yz = absurd yz
not_before_chain (Some a) (Some b) (Some c) xy yz =
    stage_chain a.stage b.stage c.stage (is_below a.low b.low) (is_below b.low c.low) (is_below a.low c.low) (λ ab bc. upto_chain c.low b.low a.low bc ab) xy yz

module _ (a b : Waiting) where
  left_of_test : (t : Bool) → comes_before b a ≡ t → NotBefore (Some a) (cond t (Some b) (Some a))
  left_of_test true test = stage_flip b.stage a.stage (is_below b.low a.low) (is_below a.low b.low) (below_flip b.low a.low) test
  left_of_test false test = before_self a

  right_of_test : (t : Bool) → comes_before b a ≡ t → NotBefore (Some b) (cond t (Some b) (Some a))
  right_of_test true test = before_self b
  right_of_test false test = test

  one_of_test : (t : Bool) → (◌≡◌ {A = Option Waiting} (cond t (Some b) (Some a)) (Some a)) ⊎ (◌≡◌ {A = Option Waiting} (cond t (Some b) (Some a)) (Some b))
  one_of_test true = inr refl
  one_of_test false = inl refl

left_of : (x y : Option Waiting) → NotBefore x (first_of x y)
left_of None y = tt
left_of (Some a) None = before_self a
left_of (Some a) (Some b) = left_of_test a b (comes_before b a) refl

right_of : (x y : Option Waiting) → NotBefore y (first_of x y)
right_of None y = not_before_self y
right_of (Some a) None = tt
right_of (Some a) (Some b) = right_of_test a b (comes_before b a) refl

one_of : (x y : Option Waiting) → (first_of x y ≡ x) ⊎ (first_of x y ≡ y)
one_of None y = inr refl
one_of (Some a) None = inl refl
one_of (Some a) (Some b) = one_of_test a b (comes_before b a)

-- ---- the root

if_some : {P : Waiting → Type 0} (x : Option Waiting) → ((w : Waiting) → x ≡ Some w → P w) → IfSome x P
if_some None each = tt
if_some (Some w) each = each w refl

half_of : (at : ℕ) → (at ≡ 2 * (at / 2)) ⊎ (at ≡ 2 * (at / 2) + 1)
half_of at = by_case (cases_lt (2 * (at / 2)) at)
  where
    by_case : (2 * (at / 2) < at) ⊎ (at ≤ 2 * (at / 2)) → (at ≡ 2 * (at / 2)) ⊎ (at ≡ 2 * (at / 2) + 1)
    by_case (inl odd) = inr (omega (arith, odd))
    by_case (inr even) = inl (omega (arith, even))

module _ (leaves : ℕ) (nodes : List (Option Waiting)) (tree : IsTree leaves nodes) where
  -- what a node has doesn't come before what the one above it has
  above : (at : ℕ) → 2 ≤ at → at < 2 * leaves → NotBefore (node_at nodes at) (node_at nodes (at / 2))
  above at inner within = by_case (half_of at)
    where
      won : IsWon nodes (at / 2)
      won = tree.won (at / 2) (omega (arith, inner)) (omega (arith, within))

      by_case : (at ≡ 2 * (at / 2)) ⊎ (at ≡ 2 * (at / 2) + 1) → NotBefore (node_at nodes at) (node_at nodes (at / 2))
      by_case (inl even) = subst (λ n. NotBefore (node_at nodes n) (node_at nodes (at / 2))) (sym even)
          (subst (NotBefore (node_at nodes (2 * (at / 2)))) (sym won) (left_of (node_at nodes (2 * (at / 2))) (node_at nodes (2 * (at / 2) + 1))))
      by_case (inr odd) = subst (λ n. NotBefore (node_at nodes n) (node_at nodes (at / 2))) (sym odd)
          (subst (NotBefore (node_at nodes (2 * (at / 2) + 1))) (sym won) (right_of (node_at nodes (2 * (at / 2))) (node_at nodes (2 * (at / 2) + 1))))

  -- nor before what the root has
  below_root : (steps at : ℕ) → at ≤ steps → 1 ≤ at → at < 2 * leaves → NotBefore (node_at nodes at) (node_at nodes 1)
  below_root zero at few some within = absurd (omega (arith, few, some))
  below_root (suc steps) zero few some within = absurd (omega (arith, some))
  below_root (suc steps) (suc zero) few some within = not_before_self (node_at nodes 1)
  below_root (suc steps) (suc (suc n)) few some within =
      not_before_chain (node_at nodes (suc (suc n))) (node_at nodes (suc (suc n) / 2)) (node_at nodes 1)
      (above (suc (suc n)) (omega arith) within) (below_root steps (suc (suc n) / 2) (omega (arith, few)) (omega arith) (omega (arith, within)))

  -- and each node has what a leaf's place has
  record AtLeaf (w : Waiting) : Type 0 where
    place : ℕ
    there : slice_get (drop leaves nodes) place ≡ Some (Some w)

  module _ (at : ℕ) (w : Waiting) where
    -- by what is found under its children
    by_child : at < leaves → 1 ≤ at → node_at nodes at ≡ Some w → (node_at nodes (2 * at) ≡ Some w → AtLeaf w) → (node_at nodes (2 * at + 1) ≡ Some w → AtLeaf w)
        → (first_of (node_at nodes (2 * at)) (node_at nodes (2 * at + 1)) ≡ node_at nodes (2 * at)) ⊎ (first_of (node_at nodes (2 * at)) (node_at nodes (2 * at + 1)) ≡ node_at nodes (2 * at + 1)) → AtLeaf w
    by_child inner some is left right (inl same) = left (sym same ∙ sym (tree.won at some inner) ∙ is)
    by_child inner some is left right (inr same) = right (sym same ∙ sym (tree.won at some inner) ∙ is)

    at_place : leaves ≤ at → at < 2 * leaves → node_at nodes at ≡ Some w → AtLeaf w
    at_place last within is =
        let here : slice_get nodes at ≡ Some (Some w) = slice_get-get_or nodes at None (omega (arith, within, tree.count)) ∙ ap Some is in
        let back : leaves + (at - leaves) ≡ at = omega (arith, last) in
        record { place = at - leaves; there = get_in_drop leaves nodes (at - leaves) (Some w) (ap (slice_get nodes) back ∙ here) }

  at_leaf : (steps at : ℕ) → 2 * leaves ≤ at + steps → 1 ≤ at → at < 2 * leaves → (w : Waiting) → node_at nodes at ≡ Some w → AtLeaf w
  at_leaf zero at few some within w is = absurd (omega (arith, few, within))
  at_leaf (suc steps) at few some within w is = elim (cases_lt at leaves) [
    | inl inner ↦ by_child at w inner some is
        (λ left. at_leaf steps (2 * at) (omega (arith, few, some)) (omega (arith, some)) (omega (arith, inner)) w left)
        (λ right. at_leaf steps (2 * at + 1) (omega (arith, few, some)) (omega (arith, some)) (omega (arith, inner)) w right)
        (one_of (node_at nodes (2 * at)) (node_at nodes (2 * at + 1)))
    | inr last ↦ at_place at w last within is
  ]

  waits_at : (w : Waiting) → Waits (drop leaves nodes) w → (w.leaf < leaves) × (node_at nodes (leaves + w.leaf) ≡ Some w)
  waits_at w waits =
      let there = get_drop leaves nodes w.leaf (Some w) waits in
      (omega (arith, slice_get_within nodes (leaves + w.leaf) (Some w) there, tree.count), get_or_from_slice_get nodes (leaves + w.leaf) (Some w) None there)

  none_before_root : (w : Waiting) → Waits (drop leaves nodes) w → NotBefore (Some w) (node_at nodes 1)
  none_before_root w waits =
      let at = waits_at w waits in
      subst (λ x. NotBefore x (node_at nodes 1)) at.1 (below_root (leaves + w.leaf) (leaves + w.leaf) (omega arith) (omega (arith, tree.some)) (omega (arith, at.0)))

  module _ (x : Option Waiting) (is : x ≡ get_or nodes 1 x) where
    root_is : x ≡ node_at nodes 1
    root_is = get_or_read_under nodes 1 (length nodes) x None is (omega (arith, tree.count, tree.some)) refl

    root_leaf : (w : Waiting) → x ≡ Some w → IsFirst (drop leaves nodes) w
    root_leaf w some =
        let root = sym root_is ∙ some in
        let at = at_leaf (2 * leaves) 1 (omega arith) (omega arith) (omega (arith, tree.some)) w root in
        let number = tree.numbered at.place w at.there in
        record {
          waits = ap (slice_get (drop leaves nodes)) number ∙ at.there;
          least = λ other waits. subst (NotBefore (Some other)) root (none_before_root other waits);
        }

    -- the root has the first of all
    pub root_first : IfSome x (IsFirst (drop leaves nodes))
    root_first = if_some x root_leaf

    -- and none where no leaf waits
    pub root_none : x ≡ None → (w : Waiting) → Waits (drop leaves nodes) w → ⊥
    root_none none w waits = subst (NotBefore (Some w)) (sym root_is ∙ none) (none_before_root w waits)

-- ---- a place is set

module _ (nodes : List (Option Waiting)) (at : ℕ) (x : Option Waiting) where
  set_here : at < length nodes → node_at (set nodes at x) at ≡ x
  set_here within = get_or-set_same nodes at x None within

  set_else : (node : ℕ) → node ≢ at → node_at (set nodes at x) node ≡ node_at nodes node
  set_else node other = get_or-set_other nodes at node x None other

  -- a node is still right where neither it nor one of its children was set
  pub still_won : (node : ℕ) → node ≢ at → node ≢ at / 2 → IsWon nodes node → IsWon (set nodes at x) node
  still_won node other apart won =
      let left = set_else (2 * node) (λ same. apart (omega (arith, same))) in
      let right = set_else (2 * node + 1) (λ same. apart (omega (arith, same))) in
      set_else node other ∙ won ∙ (λ i. first_of (sym left i) (sym right i))

  -- a node that is set to the first of what its children have is right
  pub now_won : 1 ≤ at → 2 * at + 1 < length nodes → (l r : Option Waiting) → l ≡ get_or nodes (2 * at) l → r ≡ get_or nodes (2 * at + 1) r → x ≡ first_of l r → IsWon (set nodes at x) at
  now_won some within l r l_is r_is is =
      let left = set_else (2 * at) (λ same. absurd (omega (arith, same, some))) in
      let right = set_else (2 * at + 1) (λ same. absurd (omega (arith, same, some))) in
      let l_read = get_or_read_under nodes (2 * at) (length nodes) l None l_is (omega (arith, within)) refl in
      let r_read = get_or_read_under nodes (2 * at + 1) (length nodes) r None r_is within refl in
      set_here (omega (arith, within)) ∙ is ∙ (λ i. first_of ((l_read ∙ sym left) i) ((r_read ∙ sym right) i))

-- all nodes but the one above this are right
abbrev pub WonBut : ℕ → ℕ → List (Option Waiting) → Type 0
WonBut leaves at nodes = (node : ℕ) → 1 ≤ node → node < leaves → node ≢ at / 2 → IsWon nodes node

-- a leaf's place is set
pub won_below : (leaves : ℕ) (nodes : List (Option Waiting)) (at : ℕ) (x : Option Waiting) → IsTree leaves nodes → leaves ≤ at → WonBut leaves at (set nodes at x)
won_below leaves nodes at x tree last node some within other = still_won nodes at x node (λ same. absurd (omega (arith, same, within, last))) other (tree.won node some within)

-- and then the one above
pub won_above : (leaves : ℕ) (nodes : List (Option Waiting)) (at : ℕ) (x : Option Waiting) → WonBut leaves at nodes → IsWon (set nodes (at / 2) x) (at / 2) → WonBut leaves (at / 2) (set nodes (at / 2) x)
won_above leaves nodes at x won here node some within other = elim (same_or_not node (at / 2)) [
  | inl same ↦ subst (IsWon (set nodes (at / 2) x)) (sym same) here
  | inr apart ↦ still_won nodes (at / 2) x node apart other (won node some within apart)
]

-- who waits at a place that is set has its number, where the others have theirs
pub numbered_set : (places : List (Option Waiting)) (leaf : ℕ) (x : Option Waiting) → leaf < length places → IfSome x (λ w. w.leaf ≡ leaf)
    → ((n : ℕ) (w : Waiting) → slice_get places n ≡ Some (Some w) → w.leaf ≡ n) → (n : ℕ) (w : Waiting) → slice_get (set places leaf x) n ≡ Some (Some w) → w.leaf ≡ n
numbered_set places leaf x within number were n w is = elim (same_or_not n leaf) [
  | inl same ↦
      let there : Some x ≡ Some (Some w) = sym (get_set_same places leaf x within) ∙ ap (slice_get (set places leaf x)) (sym same) ∙ is in
      let it : x ≡ Some w = cc in
      subst (λ y. IfSome y (λ v. v.leaf ≡ leaf)) it number ∙ sym same
  | inr other ↦ were n w (sym (get_set_other places leaf n x other) ∙ is)
]
