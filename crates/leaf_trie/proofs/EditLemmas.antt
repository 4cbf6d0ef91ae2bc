-- What becomes of leaves and branches where one is put in or taken away.
use Rattle.std.proofs.Common.{◌≡◌, ◌≢◌, ℕ, zero, suc, ◌+◌, ◌-◌, ◌<◌, ◌≤◌, ◌==◌, List, [], ◌∷◌, ◌++◌, Option, Some, None, Result, Ok, Err, Bool, true, false, length, map, take, drop, set, refl, sym, ◌∙◌, ap, subst, arith, append_assoc, length-append}
use Rattle.std.specs.Prelude.{slice_get, insert}
use Rattle.std.specs.List.{AllByRecursion}
use Rattle.std.proofs.lemmas.Bool.{ne_eqb}
use Rattle.graph_model.specs.declared.row.Key.{Key}
use Rattle.leaf_trie.specs.Subtree.{Subtree}
use Rattle.leaf_trie.specs.declared.start.LeafStart.{LeafStart}
use Rattle.leaf_trie.specs.declared.branch.Branch.{Branch}
use Rattle.leaf_trie.specs.declared.branch.Node.{Node}
use Rattle.leaf_trie.specs.declared.branch.Node.TheVariants.{End, Few, Many}
use Rattle.leaf_trie.specs.Path.{number, head, digit}
use Rattle.leaf_trie.specs.Starts.{last_leaf, AreBelow, AreAbove, ShareHead, Lacks, Puts}
use Rattle.leaf_trie.specs.Nodes.{all_starts, children_of, starts_of, IsNode, IsInner, IsSummary, IsChild, AreChildren, IsRank, HasBranch, HasNoBranch, HasRanks, PutsBelow, PutsAmong, PutsInto, bytes_of}
use Rattle.leaf_trie.proofs.PathLemmas.{head_zero}
use Rattle.leaf_trie.proofs.ListLemmas.{all_map, all_append, all_front, all_back, cut, cut_at}
use Rattle.leaf_trie.proofs.BranchLemmas.{starts_append, children_take, children_at, children_lower}
use Rattle.leaf_trie.proofs.SearchLemmas.{AtInner, above_end, Descends, descends, front_below, back_above, gap}

-- what holds of the leaf and of all others holds of all afterwards
pub all_puts : (P : LeafStart → Type 0) (start : LeafStart) (old new : List LeafStart) → P start → AllByRecursion P old → Puts start old new → AllByRecursion P new
all_puts P start old new here all p =
    let h : AllByRecursion P (p.front ++ p.back) = subst (AllByRecursion P) p.was all in
    subst (AllByRecursion P) (sym p.is) (all_append P p.front (start ∷ p.back) (all_front P p.front p.back h) (here, all_back P p.front p.back h))

pub puts_more : (start : LeafStart) (old new : List LeafStart) → Puts start old new → length new ≡ length old + 1
puts_more start old new p = omega (arith, ap length p.was, ap length p.is, length-append p.front p.back, length-append p.front (start ∷ p.back))

-- put between leaves below it and leaves above it
pub puts_between : (start : LeafStart) (front old new back : List LeafStart) → AreBelow start.low front → AreAbove start.low back → Puts start old new → Puts start (front ++ (old ++ back)) (front ++ (new ++ back))
puts_between start front old new back below above p =
    record {
      front = front ++ p.front;
      back = p.back ++ back;
      was = ap (λ ss. front ++ (ss ++ back)) p.was ∙ grouped front p.front p.back back;
      is = ap (λ ss. front ++ (ss ++ back)) p.is ∙ grouped front p.front (start ∷ p.back) back;
      below = all_append _ front p.front below p.below;
      above = all_append _ p.back back p.above above;
    }
  where
    grouped : (a b c d : List LeafStart) → a ++ ((b ++ c) ++ d) ≡ (a ++ b) ++ (c ++ d)
    grouped a b c d = simp append_assoc

-- children below a byte, and others from it on
pub children_join : (level least m : ℕ) (bs cs : List Branch) → AreChildren level least bs → AllByRecursion (λ (b : Branch). b.byte < m) bs → least ≤ m → AreChildren level m cs → AreChildren level least (bs ++ cs)
children_join level least m [] cs h u le k = children_lower level least m cs le k
children_join level least m (b ∷ bs) cs h u le k = (h.0, children_join level (b.byte + 1) m bs cs h.1 u.1 (let lt = u.0 in omega (arith, lt)) k)

pub set_at : {X : Type 0} (xs : List X) (i : ℕ) (x y : X) → slice_get xs i ≡ Some x → set xs i y ≡ take i xs ++ y ∷ drop (suc i) xs
set_at [] i x y e = cc
set_at (z ∷ zs) zero x y e = refl
set_at (z ∷ zs) (suc i) x y e = ap (λ ws. z ∷ ws) (set_at zs i x y e)

pub bytes_set : (bs : List Branch) (i : ℕ) (b d : Branch) → slice_get bs i ≡ Some b → d.byte ≡ b.byte → bytes_of (set bs i d) ≡ bytes_of bs
bytes_set [] i b d e same = refl
bytes_set (c ∷ cs) zero b d e same = let here : c ≡ b = cc in ap (λ n. n ∷ bytes_of cs) (same ∙ ap (λ (x : Branch). x.byte) (sym here))
bytes_set (c ∷ cs) (suc i) b d e same = ap (λ ns. c.byte ∷ ns) (bytes_set cs i b d e same)

-- equal bytes are of equally many branches
pub same_length : (bs cs : List Branch) → bytes_of cs ≡ bytes_of bs → length cs ≡ length bs
same_length [] [] e = refl
same_length [] (c ∷ cs) e = cc
same_length (b ∷ bs) [] e = cc
same_length (b ∷ bs) (c ∷ cs) e = ap suc (same_length bs cs (cc))

-- ranks go by bytes alone
pub rank_same : (bs cs : List Branch) (byte i : ℕ) → bytes_of cs ≡ bytes_of bs → IsRank bs byte i → IsRank cs byte i
rank_same bs cs byte i e r = record { within = omega (arith, r.within, same_length bs cs e); below = below bs cs i e r.below; from = from bs cs i e r.from }
  where
    below : (bs cs : List Branch) (i : ℕ) → bytes_of cs ≡ bytes_of bs → AllByRecursion (λ (b : Branch). b.byte < byte) (take i bs) → AllByRecursion (λ (b : Branch). b.byte < byte) (take i cs)
    below bs cs zero e h = tt
    below [] [] (suc i) e h = tt
    below [] (c ∷ cs) (suc i) e h = cc
    below (b ∷ bs) [] (suc i) e h = tt
    below (b ∷ bs) (c ∷ cs) (suc i) e h = (let same : c.byte ≡ b.byte = cc in subst (λ n. n < byte) (sym same) h.0, below bs cs i (cc) h.1)

    from : (bs cs : List Branch) (i : ℕ) → bytes_of cs ≡ bytes_of bs → AllByRecursion (λ (b : Branch). byte ≤ b.byte) (drop i bs) → AllByRecursion (λ (b : Branch). byte ≤ b.byte) (drop i cs)
    from [] [] zero e h = tt
    from [] (c ∷ cs) zero e h = cc
    from (b ∷ bs) [] zero e h = tt
    from (b ∷ bs) (c ∷ cs) zero e h = (let same : c.byte ≡ b.byte = cc in subst (λ n. byte ≤ n) (sym same) h.0, from bs cs zero (cc) h.1)
    from [] [] (suc i) e h = tt
    from [] (c ∷ cs) (suc i) e h = cc
    from (b ∷ bs) [] (suc i) e h = tt
    from (b ∷ bs) (c ∷ cs) (suc i) e h = from bs cs i (cc) h

-- a leaf put below the branch of its byte
pub puts_in_branch : (level byte place : ℕ) (start : LeafStart) (bs : List Branch) (b d : Branch) → AreChildren level 0 bs → IsRank bs byte place → HasBranch bs place byte b → byte ≡ digit level start.low → Descends level place start.low bs b
    → PutsInto start b d → PutsBelow level start bs (set bs place d)
puts_in_branch level byte place start bs b d h rank has same way p =
    let k = children_at level 0 place bs b h has.there in
    let parts = set_at bs place b d has.there in
    let digits = all_puts (λ s. digit level s.low ≡ b.byte) start b.starts d.starts (sym same ∙ sym has.same) k.0.here p.puts in
    let child : IsChild level byte d = record {
      depth = p.level ∙ k.0.depth;
      from = (let e : d.byte ≡ byte = p.byte ∙ has.same in omega (arith, e));
      some = (let n = puts_more start b.starts d.starts p.puts in omega (arith, n));
      here = subst (λ n. AllByRecursion (λ (s : LeafStart). digit level s.low ≡ n) d.starts) (sym p.byte) digits;
    } in
    let rest : AreChildren level (d.byte + 1) (drop (suc place) bs) = subst (λ n. AreChildren level (n + 1) (drop (suc place) bs)) (sym p.byte) k.1 in
    record {
      children = rw parts (children_join level 0 byte (take place bs) (d ∷ drop (suc place) bs) (children_take level 0 place bs h) rank.below (omega arith) (child, rest));
      puts = rw (parts, starts_append (take place bs) (d ∷ drop (suc place) bs), way.is) (puts_between start (all_starts (take place bs)) b.starts d.starts (all_starts (drop (suc place) bs)) way.below way.above p.puts);
    }

-- a leaf put below a branch of its own
pub puts_branch : (level byte place : ℕ) (start : LeafStart) (bs : List Branch) (d : Branch) → AreChildren level 0 bs → ShareHead (level + 1) start.low (all_starts bs) → IsRank bs byte place → HasNoBranch bs place byte → byte ≡ digit level start.low
    → d.level ≡ level → d.byte ≡ digit level start.low → d.starts ≡ start ∷ [] → PutsBelow level start bs (insert bs place d)
puts_branch level byte place start bs d h share rank no_branch same depth byte_is only =
    let parts : all_starts bs ≡ all_starts (take place bs) ++ all_starts (drop place bs) = ap all_starts (cut bs place) ∙ starts_append (take place bs) (drop place bs) in
    let heads = all_back _ (all_starts (take place bs)) _ (subst (ShareHead (level + 1) start.low) parts share) in
    let behind = gap level byte place bs h rank no_branch in
    let e : d.byte ≡ byte = byte_is ∙ sym same in
    let child : IsChild level byte d = record { depth = depth; from = omega (arith, e); some = rw only (omega arith); here = rw only (sym byte_is, tt) } in
    let lone : Puts start [] d.starts = record { front = []; back = []; was = refl; is = only; below = tt; above = tt } in
    record {
      children = children_join level 0 byte (take place bs) (d ∷ drop place bs) (children_take level 0 place bs h) rank.below (omega arith) (child, subst (λ n. AreChildren level (n + 1) (drop place bs)) (sym e) behind);
      puts = rw (starts_append (take place bs) (d ∷ drop place bs), parts)
          (puts_between start (all_starts (take place bs)) [] d.starts (all_starts (drop place bs)) (front_below level byte place start.low bs h share same rank) (back_above level byte start.low (drop place bs) behind heads same) lone);
    }

-- an inner node's leaves are those of its children
pub starts_inner : (last level : ℕ) (node : Node) → IsNode (level + 1) node → starts_of last node ≡ all_starts (children_of node)
starts_inner last level (End low) h = absurd (omega (arith, h))
starts_inner last level (Few bs) h = refl
starts_inner last level (Many w) h = refl

pub inner_children : (level : ℕ) (node : Node) → IsNode (level + 1) node → AreChildren level 0 (children_of node)
inner_children level (End low) h = absurd (omega (arith, h))
inner_children level (Few bs) h = let same : h.0.level ≡ level = omega (arith, h.0.is) in subst (λ n. AreChildren n 0 bs.items) same h.0.children
inner_children level (Many w) h = let same : h.0.level ≡ level = omega (arith, h.0.is) in subst (λ n. AreChildren n 0 w.value.branches.items) same h.0.children

-- what stands beside a node goes by its leaves alone
pub kept_summary : (last level : ℕ) (old new : Node) (is_single : Bool) → IsNode (level + 1) old → IsNode (level + 1) new → all_starts (children_of new) ≡ all_starts (children_of old) → IsSummary (starts_of last old) last is_single → IsSummary (starts_of last new) last is_single
kept_summary last level old new is_single h k e sum = subst (λ ss. IsSummary ss last is_single) (starts_inner last level old h ∙ sym e ∙ sym (starts_inner last level new k)) sum

last_some : (starts : List LeafStart) (leaf : ℕ) → last_leaf starts ≡ Some leaf → 0 < length starts
last_some [] leaf e = cc
last_some (s ∷ ss) leaf e = omega arith

-- with one leaf more none is alone
pub put_summary : (last : ℕ) (start : LeafStart) (old new : List LeafStart) (leaf : ℕ) → last_leaf old ≡ Some leaf → Puts start old new → last_leaf new ≡ Some last → IsSummary new last false
put_summary last start old new leaf some p ends =
    let more = puts_more start old new p in
    let before = last_some old leaf some in
    record { ends = ends; alone = sym (ne_eqb (length new) 1 (λ e. omega (arith, e, more, before))) }

-- where a leaf is missing that shares all that was read, something is left to read
pub at_put : (b : Subtree) (byte level last : ℕ) (node : Node) (key : Key) → (let s : Subtree = record { byte = byte; level = level; starts = starts_of last node } in s ≡ b)
    → IsNode level node → ShareHead b.level key b.starts → Lacks key b.starts → AtInner b node (level - 1)
at_put b byte level last node key view is share absent =
    above_end b byte level last node view is (λ low end.
    let ground_level : level ≡ 0 = subst (IsNode level) end is in
    let at : b.level ≡ 0 = sym (ap (λ (s : Subtree). s.level) view) ∙ ground_level in
    let only : b.starts ≡ record { low = low; leaf = last } ∷ [] = sym (ap (λ (s : Subtree). s.starts) view) ∙ ap (starts_of last) end in
    let heads : head b.level low ≡ head b.level key = (subst (ShareHead b.level key) only share).0 in
    let numbers : number low ≡ number key = sym (head_zero low) ∙ subst (λ n. head n low ≡ head n key) at heads ∙ head_zero key in
    (subst (Lacks key) only absent).0 numbers)

pub lacks_in_branch : (level place : ℕ) (key : Key) (bs : List Branch) (b : Branch) → Descends level place key bs b → Lacks key (all_starts bs) → Lacks key b.starts
lacks_in_branch level place key bs b way absent = all_front _ b.starts _ (all_back _ (all_starts (take place bs)) _ (subst (Lacks key) way.is absent))

-- the branch that was looked up is the one that has the byte
pub has_there : (bs : List Branch) (place byte : ℕ) (b d : Branch) → HasBranch bs place byte b → slice_get bs place ≡ Some d → HasBranch bs place byte d
has_there bs place byte b d has there = let same : b ≡ d = same_some (sym has.there ∙ there) in subst (HasBranch bs place byte) same has
  where
    same_some : {X : Type 0} {x y : X} → Some x ≡ Some y → x ≡ y
    same_some e = cc

pub inner_again : (level : ℕ) (old new : List Branch) → IsInner (level + 1) old → 0 < length new → AreChildren level 0 new → IsInner (level + 1) new
inner_again level old new h some children = record { level = level; is = refl; top = h.top; some = some; children = children }

pub put_some : (level : ℕ) (start : LeafStart) (old new : List Branch) → PutsBelow level start old new → 0 < length new
put_some level start old [] p = absurd (omega (arith, puts_more start (all_starts old) [] p.puts))
put_some level start old (b ∷ bs) p = omega arith

-- a list that had room for one more child has at most 16
pub few_puts : (level place : ℕ) (start : LeafStart) (old new : List Branch) (added : Bool) → IsInner (level + 1) old × (length old ≤ 16) → (HasNoBranch old place (digit level start.low) → length old < 16) → PutsAmong level place start old new (Ok added)
    → (IsInner (level + 1) new × (length new ≤ 16)) × Puts start (all_starts old) (all_starts new)
few_puts level place start old new true h room p = ((inner_again level old new h.0 (put_some level start old new p.0) p.0.children, omega (arith, room p.1, p.2)), p.0.puts)
few_puts level place start old new false h room p = ((inner_again level old new h.0 (put_some level start old new p.0) p.0.children, omega (arith, same_length old new p.1, h.1)), p.0.puts)

-- places stay right where no child was added
pub wide_puts : (level place : ℕ) (start : LeafStart) (places : List ℕ) (old new : List Branch) (added : Bool) → added ≡ false → IsInner (level + 1) old × HasRanks places old → PutsAmong level place start old new (Ok added)
    → (IsInner (level + 1) new × HasRanks places new) × Puts start (all_starts old) (all_starts new)
wide_puts level place start places old new true e h p = cc
wide_puts level place start places old new false e h p =
    ((inner_again level old new h.0 (put_some level start old new p.0) p.0.children, record { wide = h.1.wide; ranks = λ byte lt. rank_same old new byte _ p.1 (h.1.ranks byte lt) }), p.0.puts)
