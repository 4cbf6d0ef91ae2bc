-- Branches in the order of their bytes, and the leaves below them.
use Rattle.std.proofs.Common.{◌≡◌, ◌≢◌, ℕ, zero, suc, ◌+◌, ◌-◌, ◌<◌, ◌≤◌, ◌==◌, List, [], ◌∷◌, ◌++◌, Option, Some, None, Bool, true, false, length, take, drop, refl, sym, ◌∙◌, ap, subst, arith, append_assoc, get_or, set, get_or-set_other, get_or-set_same, below_more}
use Rattle.std.specs.Prelude.{slice_get}
use Rattle.std.specs.List.{AllByRecursion}
use Rattle.leaf_trie.specs.Subtree.{Subtree}
use Rattle.leaf_trie.specs.declared.start.LeafStart.{LeafStart}
use Rattle.leaf_trie.specs.declared.branch.Branch.{Branch}
use Rattle.leaf_trie.specs.Path.{digit}
use Rattle.leaf_trie.specs.Starts.{last_leaf}
use Rattle.leaf_trie.specs.Nodes.{all_starts, IsChild, AreChildren, IsRank, IsInner, IsSummary}
use Rattle.leaf_trie.proofs.ListLemmas.{all_map, all_append, drop_at, there_within, append_none}

pub starts_append : (bs cs : List Branch) → all_starts (bs ++ cs) ≡ all_starts bs ++ all_starts cs
starts_append [] cs = refl
starts_append (b ∷ bs) cs = ap (λ ss. b.starts ++ ss) (starts_append bs cs) ∙ sym (append_assoc b.starts (all_starts bs) (all_starts cs))

-- children from a byte on are children from a lesser one on
pub children_lower : (level least m : ℕ) (bs : List Branch) → least ≤ m → AreChildren level m bs → AreChildren level least bs
children_lower level least m [] le h = tt
children_lower level least m (b ∷ bs) le h = (record { depth = h.0.depth; from = omega (arith, le, h.0.from); some = h.0.some; here = h.0.here }, h.1)

pub children_take : (level least i : ℕ) (bs : List Branch) → AreChildren level least bs → AreChildren level least (take i bs)
children_take level least zero bs h = tt
children_take level least (suc i) [] h = tt
children_take level least (suc i) (b ∷ bs) h = (h.0, children_take level (b.byte + 1) i bs h.1)

pub children_drop : (level least i : ℕ) (bs : List Branch) → AreChildren level least bs → AreChildren level least (drop i bs)
children_drop level least zero bs h = h
children_drop level least (suc i) [] h = tt
children_drop level least (suc i) (b ∷ bs) h = children_lower level least (b.byte + 1) (drop i bs) (omega (arith, h.0.from)) (children_drop level (b.byte + 1) i bs h.1)

pub children_bytes : (level least : ℕ) (bs : List Branch) → AreChildren level least bs → AllByRecursion (λ (b : Branch). least ≤ b.byte) bs
children_bytes level least [] h = tt
children_bytes level least (b ∷ bs) h = (h.0.from, all_map _ _ (λ (c : Branch) more. let low = h.0.from in omega (arith, more, low)) bs (children_bytes level (b.byte + 1) bs h.1))

-- the branch at a place has all bytes behind it above its own
pub children_at : (level least i : ℕ) (bs : List Branch) (b : Branch) → AreChildren level least bs → slice_get bs i ≡ Some b → IsChild level least b × AreChildren level (b.byte + 1) (drop (suc i) bs)
children_at level least i bs b h e = subst (AreChildren level least) (drop_at bs i b e) (children_drop level least i bs h)

-- leaves below branches that all have lesser bytes
pub starts_under : (level least m : ℕ) (bs : List Branch) → AreChildren level least bs → AllByRecursion (λ (b : Branch). b.byte < m) bs → AllByRecursion (λ (s : LeafStart). digit level s.low < m) (all_starts bs)
starts_under level least m [] h u = tt
starts_under level least m (b ∷ bs) h u =
    all_append _ b.starts (all_starts bs) (all_map _ _ (λ s same. let low = u.0 in omega (arith, same, low)) b.starts h.0.here) (starts_under level (b.byte + 1) m bs h.1 u.1)

-- leaves below branches from a byte on
pub starts_from : (level least : ℕ) (bs : List Branch) → AreChildren level least bs → AllByRecursion (λ (s : LeafStart). least ≤ digit level s.low) (all_starts bs)
starts_from level least [] h = tt
starts_from level least (b ∷ bs) h =
    all_append _ b.starts (all_starts bs) (all_map _ _ (λ s same. let low = h.0.from in omega (arith, same, low)) b.starts h.0.here)
    (all_map _ _ (λ (s : LeafStart) more. let low = h.0.from in omega (arith, more, low)) (all_starts bs) (starts_from level (b.byte + 1) bs h.1))

-- a place is the rank of a byte where the branches before it are below the byte, and that at it isn't
pub rank_at : (level least byte i : ℕ) (bs : List Branch) (b : Branch) → AreChildren level least bs → AllByRecursion (λ (c : Branch). c.byte < byte) (take i bs) → slice_get bs i ≡ Some b → byte ≤ b.byte → IsRank bs byte i
rank_at level least byte i bs b h below e le =
    let k = children_at level least i bs b h e in
    let rest : AllByRecursion (λ (c : Branch). byte ≤ c.byte) (b ∷ drop (suc i) bs) = (le, all_map _ _ (λ (c : Branch) more. omega (arith, more, le)) (drop (suc i) bs) (children_bytes level (b.byte + 1) (drop (suc i) bs) k.1)) in
    record { within = let lt = there_within bs i b e in omega (arith, lt); below = below; from = subst (AllByRecursion (λ (c : Branch). byte ≤ c.byte)) (sym (drop_at bs i b e)) rest }

-- a rank is at most its byte, since bytes rise
pub rank_small : (level least byte i : ℕ) (bs : List Branch) → AreChildren level least bs → AllByRecursion (λ (c : Branch). c.byte < byte) (take i bs) → i ≤ length bs → least ≤ byte → i + least ≤ byte
rank_small level least byte zero bs h below le from = omega (arith, from)
rank_small level least byte (suc i) [] h below le from = absurd (omega (arith, le))
rank_small level least byte (suc i) (b ∷ bs) h below le from =
    let up = below.0 in
    let low = h.0.from in
    let rest = rank_small level (b.byte + 1) byte i bs h.1 below.1 (omega (arith, le)) (omega (arith, up)) in
    omega (arith, rest, low)

-- branches below a byte are below the next one
pub below_next : (byte : ℕ) (bs : List Branch) → AllByRecursion (λ (c : Branch). c.byte < byte) bs → AllByRecursion (λ (c : Branch). c.byte < byte + 1) bs
below_next byte bs h = all_map _ _ (λ (c : Branch) less. omega (arith, less)) bs h

-- one more place has its rank
pub ranks_more : (bs : List Branch) (places : List ℕ) (n rank : ℕ) → n < length places → ((k : ℕ) → k < n → IsRank bs k (get_or places k 0)) → IsRank bs n rank → (k : ℕ) → k < n + 1 → IsRank bs k (get_or (set places n rank) k 0)
ranks_more bs places n rank within before here =
    below_more _ _
    (λ k lt. let ne : k ≢ n = omega (arith, lt) in rw get_or-set_other (before k lt))
    (rw get_or-set_same here)

-- a node with one child has that child's leaves
pub record Over (level last : ℕ) (is_single : Bool) (bs : List Branch) (child : Branch) : Type 0 where
  pub inner : IsInner (level + 1) bs
  pub few : length bs ≤ 16
  pub summary : IsSummary (all_starts bs) last is_single
  pub starts : all_starts bs ≡ child.starts

pub over_child : (level last : ℕ) (is_single : Bool) (bs : List Branch) (child : Branch) → bs ≡ child ∷ [] → child.level ≡ level → level < 16 → 0 < length child.starts → AllByRecursion (λ (s : LeafStart). digit child.level s.low ≡ child.byte) child.starts
    → last_leaf child.starts ≡ Some last → is_single ≡ (length child.starts == 1) → Over level last is_single bs child
over_child level last is_single bs child is depth low some here ends alone =
    let starts : all_starts bs ≡ child.starts = ap all_starts is ∙ append_none child.starts in
    record {
      inner = record {
        level = level;
        is = refl;
        top = omega (arith, low);
        some = rw is (omega arith);
        children = rw is (record { depth = depth; from = omega arith; some = some; here = subst (λ n. AllByRecursion (λ (s : LeafStart). digit n s.low ≡ child.byte) child.starts) depth here }, tt);
      };
      few = rw is (omega arith);
      summary = rw starts (record { ends = ends; alone = alone });
      starts = starts;
    }
