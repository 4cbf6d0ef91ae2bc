-- The way of a search.
use Rattle.std.proofs.Common.{◌≡◌, ◌≢◌, ℕ, zero, suc, ◌+◌, ◌-◌, ◌<◌, ◌≤◌, ◌==◌, List, [], ◌∷◌, ◌++◌, Option, Some, None, Bool, true, false, length, take, drop, refl, sym, ◌∙◌, ap, subst, arith, append_assoc, eqb-true}
use Rattle.std.specs.Prelude.{slice_get, option_map, option_to_list}
use Rattle.std.specs.List.{AllByRecursion}
use Rattle.graph_model.specs.declared.row.Key.{Key}
use Rattle.leaf_trie.specs.Subtree.{Subtree}
use Rattle.leaf_trie.specs.declared.start.LeafStart.{LeafStart}
use Rattle.leaf_trie.specs.declared.start.Candidates.{Candidates}
use Rattle.leaf_trie.specs.declared.branch.Branch.{Branch}
use Rattle.leaf_trie.specs.declared.branch.Node.{Node}
use Rattle.leaf_trie.specs.declared.branch.Node.TheVariants.{End, Few, Many}
use Rattle.leaf_trie.specs.Path.{number, head, digit}
use Rattle.leaf_trie.specs.Starts.{or_else, last_leaf, AreBelow, AreAbove, ShareHead, AreCandidates}
use Rattle.leaf_trie.specs.Nodes.{all_starts, children_of, starts_of, IsNode, IsInner, IsSummary, AreChildren, IsRank, HasBranch, HasNoBranch}
use Rattle.std.proofs.Math.Seq.{take-length}
use Rattle.leaf_trie.proofs.PathLemmas.{digit_less, digit_same}
use Rattle.leaf_trie.proofs.ListLemmas.{all_map, all_both, all_append, all_front, all_back, cut, cut_at, take_at, drop_at, append_none}
use Rattle.leaf_trie.proofs.BranchLemmas.{starts_append, children_take, children_drop, children_at, children_bytes, starts_under, starts_from}

pub or_else_assoc : (a b c : Option ℕ) → or_else (or_else a b) c ≡ or_else a (or_else b c)
or_else_assoc None b c = refl
or_else_assoc (Some a) b c = refl

or_else_none : (a : Option ℕ) → or_else a None ≡ a
or_else_none None = refl
or_else_none (Some a) = refl

pub last_append : (xs ys : List LeafStart) → last_leaf (xs ++ ys) ≡ or_else (last_leaf ys) (last_leaf xs)
last_append [] ys = sym (or_else_none (last_leaf ys))
last_append (x ∷ xs) ys = ap (λ o. or_else o (Some x.leaf)) (last_append xs ys) ∙ or_else_assoc (last_leaf ys) (last_leaf xs) (Some x.leaf)

-- the last leaf before a place is that of the branch before it
pub last_at : (bs : List Branch) (place i leaf : ℕ) (b : Branch) (earlier : Option ℕ) → place ≡ i + 1 → slice_get bs i ≡ Some b → last_leaf b.starts ≡ Some leaf → Some leaf ≡ or_else (last_leaf (all_starts (take place bs))) earlier
last_at bs place i leaf b earlier e there last =
    let next : place ≡ suc i = omega (arith, e) in
    let parts : all_starts (take place bs) ≡ all_starts (take i bs) ++ b.starts =
    ap (λ n. all_starts (take n bs)) next ∙ ap all_starts (take_at bs i b there) ∙ starts_append (take i bs) (b ∷ []) ∙ ap (λ ss. all_starts (take i bs) ++ ss) (append_none b.starts) in
    sym (ap (λ ss. or_else (last_leaf ss) earlier) parts ∙ ap (λ o. or_else o earlier) (last_append (all_starts (take i bs)) b.starts ∙ ap (λ o. or_else o (last_leaf (all_starts (take i bs)))) last))

-- one leaf alone is the only candidate
pub alone : (key : Key) (earlier : Option ℕ) (starts : List LeafStart) (leaf : ℕ) → length starts == 1 ≡ true → last_leaf starts ≡ Some leaf → AreCandidates key earlier starts (record { at = Some leaf; before = earlier })
alone key earlier [] leaf one last = cc
alone key earlier (s ∷ []) leaf one last = record { front = []; middle = Some s; back = []; is = refl; below = tt; above = tt; at = sym last; before = refl }
alone key earlier (s ∷ t ∷ ss) leaf one last = absurd (omega (arith, eqb-true (length (s ∷ t ∷ ss)) 1 one))

-- a node that has more than one leaf
pub record AtInner (b : Subtree) (node : Node) (level : ℕ) : Type 0 where
  pub above : b.level ≡ level + 1
  pub low : level < 16
  pub inner : IsNode (level + 1) node
  pub starts : b.starts ≡ all_starts (children_of node)
  pub children : AreChildren level 0 (children_of node)

pub above_end : (b : Subtree) (byte level last : ℕ) (node : Node) → (let s : Subtree = record { byte = byte; level = level; starts = starts_of last node } in s ≡ b)
    → IsNode level node → ((low : Key) → node ≡ End low → ⊥) → AtInner b node (level - 1)
above_end b byte level last (End low) view is inner = absurd (inner low refl)
above_end b byte level last (Few bs) view is inner =
    let up : level ≡ level - 1 + 1 = omega (arith, is.0.is) in
    let same : is.0.level ≡ level - 1 = omega (arith, is.0.is) in
    record {
      above = sym (ap (λ (s : Subtree). s.level) view) ∙ up;
      low = omega (arith, is.0.is, is.0.top);
      inner = subst (λ n. IsNode n (Few bs)) up is;
      starts = sym (ap (λ (s : Subtree). s.starts) view);
      children = subst (λ n. AreChildren n 0 bs.items) same is.0.children;
    }
above_end b byte level last (Many w) view is inner =
    let up : level ≡ level - 1 + 1 = omega (arith, is.0.is) in
    let same : is.0.level ≡ level - 1 = omega (arith, is.0.is) in
    record {
      above = sym (ap (λ (s : Subtree). s.level) view) ∙ up;
      low = omega (arith, is.0.is, is.0.top);
      inner = subst (λ n. IsNode n (Many w)) up is;
      starts = sym (ap (λ (s : Subtree). s.starts) view);
      children = subst (λ n. AreChildren n 0 w.value.branches.items) same is.0.children;
    }

pub at_inner : (b : Subtree) (byte level last : ℕ) (is_single : Bool) (node : Node) → (let s : Subtree = record { byte = byte; level = level; starts = starts_of last node } in s ≡ b)
    → IsNode level node → IsSummary (starts_of last node) last is_single → is_single ≡ false → AtInner b node (level - 1)
at_inner b byte level last is_single node view is sum more =
    above_end b byte level last node view is (λ low end.
    let one : IsSummary (starts_of last (End low)) last is_single = subst (λ n. IsSummary (starts_of last n) last is_single) end sum in
    let e = sym one.alone ∙ more in cc e)

-- below a place lie leaves below the key
pub front_below : (level byte place : ℕ) (key : Key) (bs : List Branch) → AreChildren level 0 bs → ShareHead (level + 1) key (all_starts bs) → byte ≡ digit level key → IsRank bs byte place → AreBelow key (all_starts (take place bs))
front_below level byte place key bs h share same rank =
    let parts : all_starts bs ≡ all_starts (take place bs) ++ all_starts (drop place bs) = ap all_starts (cut bs place) ∙ starts_append (take place bs) (drop place bs) in
    let heads = all_front _ (all_starts (take place bs)) _ (subst (ShareHead (level + 1) key) parts share) in
    all_map _ _ (λ s p. digit_less (level + 1) level s.low key refl p.0 (let lt = p.1 in omega (arith, lt, same))) _
    (all_both _ _ (all_starts (take place bs)) heads (starts_under level 0 byte (take place bs) (children_take level 0 place bs h) rank.below))

-- from children above the key's byte on lie leaves above the key
pub back_above : (level byte : ℕ) (key : Key) (cs : List Branch) → AreChildren level (byte + 1) cs → ShareHead (level + 1) key (all_starts cs) → byte ≡ digit level key → AreAbove key (all_starts cs)
back_above level byte key cs h share same =
    all_map _ _ (λ s p. digit_less (level + 1) level key s.low refl (sym p.0) (let lt = p.1 in omega (arith, lt, same))) _
    (all_both _ _ (all_starts cs) share (starts_from level (byte + 1) cs h))

-- the branch at the key's byte, between those below the key and those above it
pub record Descends (level place : ℕ) (key : Key) (bs : List Branch) (b : Branch) : Type 0 where
  pub is : all_starts bs ≡ all_starts (take place bs) ++ (b.starts ++ all_starts (drop (suc place) bs))
  pub below : AreBelow key (all_starts (take place bs))
  pub above : AreAbove key (all_starts (drop (suc place) bs))
  pub share : ShareHead level key b.starts
  pub depth : b.level ≡ level

pub descends : (level byte place : ℕ) (key : Key) (bs : List Branch) (b : Branch) → AreChildren level 0 bs → ShareHead (level + 1) key (all_starts bs) → byte ≡ digit level key → IsRank bs byte place → HasBranch bs place byte b → Descends level place key bs b
descends level byte place key bs b h share same rank has =
    let k = children_at level 0 place bs b h has.there in
    let parts : all_starts bs ≡ all_starts (take place bs) ++ (b.starts ++ all_starts (drop (suc place) bs)) = ap all_starts (cut_at bs place b has.there) ∙ starts_append (take place bs) (b ∷ drop (suc place) bs) in
    let all : ShareHead (level + 1) key (all_starts (take place bs) ++ (b.starts ++ all_starts (drop (suc place) bs))) = subst (ShareHead (level + 1) key) parts share in
    let back = all_back _ (all_starts (take place bs)) _ all in
    record {
      is = parts;
      below = front_below level byte place key bs h share same rank;
      above = back_above level byte key (drop (suc place) bs) (subst (λ m. AreChildren level (m + 1) (drop (suc place) bs)) has.same k.1) (all_back _ b.starts _ back) same;
      share = all_map _ _ (λ s p. digit_same (level + 1) level s.low key refl p.0 (p.1 ∙ has.same ∙ same)) b.starts (all_both _ _ b.starts (all_front _ b.starts _ back) k.0.here);
      depth = k.0.depth;
    }

-- what the search below the branch finds is what the search finds
pub found_below : (level place : ℕ) (key : Key) (bs : List Branch) (b : Branch) (earlier before : Option ℕ) (found : Candidates) → Descends level place key bs b → before ≡ or_else (last_leaf (all_starts (take place bs))) earlier
    → AreCandidates key before b.starts found → AreCandidates key earlier (all_starts bs) found
found_below level place key bs b earlier before found d last c =
    let front = all_starts (take place bs) in
    let back = all_starts (drop (suc place) bs) in
    record {
      front = front ++ c.front;
      middle = c.middle;
      back = c.back ++ back;
      is = d.is ∙ ap (λ ss. front ++ (ss ++ back)) c.is ∙ regroup front c.front (option_to_list c.middle) c.back back;
      below = all_append _ front c.front d.below c.below;
      above = all_append _ c.back back c.above d.above;
      at = c.at;
      before = c.before ∙ ap (or_else (last_leaf c.front)) last ∙ sym (or_else_assoc (last_leaf c.front) (last_leaf front) earlier) ∙ ap (λ o. or_else o earlier) (sym (last_append front c.front));
    }
  where
    regroup : (a b c d e : List LeafStart) → a ++ ((b ++ (c ++ d)) ++ e) ≡ (a ++ b) ++ (c ++ (d ++ e))
    regroup a b c d e = simp append_assoc

first_dropped : (bs : List Branch) (i : ℕ) (b : Branch) → slice_get (drop i bs) 0 ≡ Some b → slice_get bs i ≡ Some b
first_dropped [] zero b e = e
first_dropped [] (suc i) b e = cc
first_dropped (x ∷ xs) zero b e = e
first_dropped (x ∷ xs) (suc i) b e = first_dropped xs i b e

-- where no branch has a byte, those from its rank on are above it
pub gap : (level byte place : ℕ) (bs : List Branch) → AreChildren level 0 bs → IsRank bs byte place → HasNoBranch bs place byte → AreChildren level (byte + 1) (drop place bs)
gap level byte place bs h rank no_branch = raised (drop place bs) (children_drop level 0 place bs h) rank.from (λ b e. no_branch b (first_dropped bs place b e))
  where
    raised : (cs : List Branch) → AreChildren level 0 cs → AllByRecursion (λ (b : Branch). byte ≤ b.byte) cs → ((b : Branch) → slice_get cs 0 ≡ Some b → b.byte ≢ byte) → AreChildren level (byte + 1) cs
    raised [] h from other = tt
    raised (c ∷ cs) h from other = (record { depth = h.0.depth; from = (let ne = other c refl in let low = from.0 in omega (arith, ne, low)); some = h.0.some; here = h.0.here }, h.1)

-- where no branch has the key's byte there is no candidate but the last leaf before
pub found_none : (level byte place : ℕ) (key : Key) (bs : List Branch) (earlier before : Option ℕ) → AreChildren level 0 bs → ShareHead (level + 1) key (all_starts bs) → byte ≡ digit level key → IsRank bs byte place → HasNoBranch bs place byte
    → before ≡ or_else (last_leaf (all_starts (take place bs))) earlier → AreCandidates key earlier (all_starts bs) (record { at = None; before = before })
found_none level byte place key bs earlier before h share same rank no_branch last =
    let parts : all_starts bs ≡ all_starts (take place bs) ++ all_starts (drop place bs) = ap all_starts (cut bs place) ∙ starts_append (take place bs) (drop place bs) in
    let heads = all_back _ (all_starts (take place bs)) _ (subst (ShareHead (level + 1) key) parts share) in
    record {
      front = all_starts (take place bs);
      middle = None;
      back = all_starts (drop place bs);
      is = parts;
      below = front_below level byte place key bs h share same rank;
      above = back_above level byte key (drop place bs) (gap level byte place bs h rank no_branch) heads same;
      at = refl;
      before = last;
    }

-- the same of a list of its branches, for a key that shares what was read above
pub record AtBranches (b : Subtree) (level : ℕ) (key : Key) (bs : List Branch) : Type 0 where
  pub above : b.level ≡ level + 1
  pub starts : b.starts ≡ all_starts bs
  pub children : AreChildren level 0 bs
  pub share : ShareHead (level + 1) key (all_starts bs)

pub at_branches : (b : Subtree) (node : Node) (level : ℕ) (key : Key) (bs : List Branch) → AtInner b node level → ShareHead b.level key b.starts → bs ≡ children_of node → AtBranches b level key bs
at_branches b node level key bs a share is =
    let starts : b.starts ≡ all_starts bs = a.starts ∙ ap all_starts (sym is) in
    record {
      above = a.above;
      starts = starts;
      children = rw is a.children;
      share = subst (λ n. ShareHead n key (all_starts bs)) a.above (subst (ShareHead b.level key) starts share);
    }

-- the last leaf of all is that of the last branch
pub last_end : (bs : List Branch) (i leaf : ℕ) (b : Branch) → length bs ≡ i + 1 → slice_get bs i ≡ Some b → last_leaf b.starts ≡ Some leaf → last_leaf (all_starts bs) ≡ Some leaf
last_end bs i leaf b e there last =
    sym (last_at bs (length bs) i leaf b None e there last ∙ or_else_none _ ∙ ap (λ cs. last_leaf (all_starts cs)) (take-length bs))
