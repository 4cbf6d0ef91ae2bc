-- Where the leaf is that is taken away, and what is left.
use Rattle.std.proofs.Common.{◌≡◌, ◌≢◌, ℕ, zero, suc, ◌+◌, ◌-◌, ◌<◌, ◌≤◌, ◌==◌, ◌⊎◌, inl, inr, List, [], ◌∷◌, ◌++◌, Option, Some, None, Bool, true, false, eqb, length, map, take, drop, set, refl, sym, ◌∙◌, ap, subst, arith, append_assoc, length-append, eqb-true, eq-eqb}
use Rattle.std.specs.Prelude.{slice_get, remove}
use Rattle.std.specs.List.{AllByRecursion}
use Rattle.std.proofs.lemmas.Bool.{ne_eqb}
use Rattle.graph_model.specs.declared.row.Key.{Key}
use Rattle.leaf_trie.specs.Subtree.{Subtree}
use Rattle.leaf_trie.specs.declared.start.LeafStart.{LeafStart}
use Rattle.leaf_trie.specs.declared.branch.Branch.{Branch}
use Rattle.leaf_trie.specs.declared.branch.Node.{Node}
use Rattle.leaf_trie.specs.declared.branch.Node.TheVariants.{End, Few, Many}
use Rattle.leaf_trie.specs.Path.{number, head, digit}
use Rattle.leaf_trie.specs.Starts.{last_leaf, AreBelow, AreAbove, ShareHead, IsThere, Takes}
use Rattle.leaf_trie.specs.Nodes.{all_starts, children_of, starts_of, IsNode, IsInner, IsSummary, IsChild, AreChildren, IsRank, HasRanks, HasBranch, HasSomeBranch, HasNoBranch, CanTake, TakesBelow, TakesAmong, TakesFrom, bytes_of, level_at}
use Rattle.leaf_trie.proofs.ListLemmas.{all_map, all_append, all_front, all_back, cut, cut_at, there_within}
use Rattle.leaf_trie.proofs.BranchLemmas.{starts_append, children_take, children_drop, children_at, children_lower}
use Rattle.leaf_trie.proofs.SearchLemmas.{AtInner, Descends, descends, front_below, back_above, gap}
use Rattle.leaf_trie.proofs.EditLemmas.{children_join, set_at, rank_same, same_length, inner_again, has_there}

there_parts : (key : Key) (xs ys : List LeafStart) → IsThere key (xs ++ ys) → IsThere key xs ⊎ IsThere key ys
there_parts key [] ys h = inr h
there_parts key (x ∷ xs) ys (inl e) = inl (inl e)
there_parts key (x ∷ xs) ys (inr h) = elim (there_parts key xs ys h) [ inl k ↦ inl (inr k) | inr k ↦ inr k ]

-- no leaf that begins below the key begins at it
not_below : (key : Key) (xs : List LeafStart) → AreBelow key xs → IsThere key xs → ⊥
not_below key [] h t = t
not_below key (x ∷ xs) h (inl e) = omega (arith, h.0, e)
not_below key (x ∷ xs) h (inr t) = not_below key xs h.1 t

not_above : (key : Key) (xs : List LeafStart) → AreAbove key xs → IsThere key xs → ⊥
not_above key [] h t = t
not_above key (x ∷ xs) h (inl e) = omega (arith, h.0, e)
not_above key (x ∷ xs) h (inr t) = not_above key xs h.1 t

-- the leaf is in the middle, where those before are below and those behind above
there_middle : (key : Key) (front middle back : List LeafStart) → AreBelow key front → AreAbove key back → IsThere key (front ++ (middle ++ back)) → IsThere key middle
there_middle key front middle back below above t =
    elim (there_parts key front (middle ++ back) t) [ inl h ↦ absurd (not_below key front below h) | inr h ↦ elim (there_parts key middle back h) [ inl k ↦ k | inr k ↦ absurd (not_above key back above k) ] ]

-- its byte has a branch
pub branch_there : (level byte place : ℕ) (key : Key) (bs : List Branch) → AreChildren level 0 bs → ShareHead (level + 1) key (all_starts bs) → byte ≡ digit level key → IsRank bs byte place → IsThere key (all_starts bs) → HasSomeBranch bs place byte
branch_there level byte place key bs h share same rank there = decide (slice_get bs place) refl
  where
    missing : HasNoBranch bs place byte → ⊥
    missing no_branch =
        let parts : all_starts bs ≡ all_starts (take place bs) ++ all_starts (drop place bs) = ap all_starts (cut bs place) ∙ starts_append (take place bs) (drop place bs) in
        let heads = all_back _ (all_starts (take place bs)) _ (subst (ShareHead (level + 1) key) parts share) in
        let above = back_above level byte key (drop place bs) (gap level byte place bs h rank no_branch) heads same in
        elim (there_parts key (all_starts (take place bs)) (all_starts (drop place bs)) (subst (IsThere key) parts there)) [ inl k ↦ not_below key _ (front_below level byte place key bs h share same rank) k | inr k ↦ not_above key _ above k ]

    by_byte : (b : Branch) (found : Bool) → slice_get bs place ≡ Some b → eqb b.byte byte ≡ found → HasSomeBranch bs place byte
    by_byte b true e t = (b, record { there = e; same = eqb-true b.byte byte t })
    by_byte b false e t = absurd (missing (λ d e' is. let one : b ≡ d = same_some (sym e ∙ e') in let yes : eqb b.byte byte ≡ true = ap (λ (x : Branch). eqb x.byte byte) one ∙ eq-eqb d.byte byte is in cc))
      where
        same_some : {X : Type 0} {x y : X} → Some x ≡ Some y → x ≡ y
        same_some e = cc

    decide : (o : Option Branch) → slice_get bs place ≡ o → HasSomeBranch bs place byte
    decide None e = absurd (missing (λ d e' is. cc))
    decide (Some b) e = by_byte b (eqb b.byte byte) e refl

pub level_there : (bs : List Branch) (place : ℕ) (b : Branch) → slice_get bs place ≡ Some b → level_at bs place ≡ b.level
level_there [] place b e = cc
level_there (c ∷ cs) zero b e = let same : c ≡ b = cc in ap (λ (x : Branch). x.level) same
level_there (c ∷ cs) (suc place) b e = level_there cs place b e

takes_between : (key : Key) (front old new back : List LeafStart) → Takes key old new → Takes key (front ++ (old ++ back)) (front ++ (new ++ back))
takes_between key front old new back t =
    record {
      front = front ++ t.front;
      taken = t.taken;
      back = t.back ++ back;
      was = ap (λ ss. front ++ (ss ++ back)) t.was ∙ grouped front t.front (t.taken ∷ t.back) back;
      is = ap (λ ss. front ++ (ss ++ back)) t.is ∙ grouped front t.front t.back back;
      same = t.same;
    }
  where
    grouped : (a b c d : List LeafStart) → a ++ ((b ++ c) ++ d) ≡ (a ++ b) ++ (c ++ d)
    grouped a b c d = simp append_assoc

takes_only : (key : Key) (front back : List LeafStart) (old : List LeafStart) → length old ≡ 1 → IsThere key old → Takes key (front ++ (old ++ back)) (front ++ back)
takes_only key front back [] one t = absurd t
takes_only key front back (s ∷ []) one (inl e) = record { front = front; taken = s; back = back; was = refl; is = refl; same = e }
takes_only key front back (s ∷ []) one (inr t) = absurd t
takes_only key front back (s ∷ r ∷ ss) one t = absurd (omega (arith, one))

pub takes_less : (key : Key) (old new : List LeafStart) → Takes key old new → length old ≡ length new + 1
takes_less key old new t = omega (arith, ap length t.was, ap length t.is, length-append t.front (t.taken ∷ t.back), length-append t.front t.back)

-- what holds of all holds of those that are left
all_takes : (P : LeafStart → Type 0) (key : Key) (old new : List LeafStart) → AllByRecursion P old → Takes key old new → AllByRecursion P new
all_takes P key old new all t =
    let h : AllByRecursion P (t.front ++ t.taken ∷ t.back) = subst (AllByRecursion P) t.was all in
    subst (AllByRecursion P) (sym t.is) (all_append P t.front t.back (all_front P t.front (t.taken ∷ t.back) h) (all_back P t.front (t.taken ∷ t.back) h).1)

-- the branch that has the leaf
pub record AtBranch (bs : List Branch) (place level : ℕ) (key : Key) (b : Branch) : Type 0 where
  pub has : HasBranch bs place (digit level key) b
  pub way : Descends level place key bs b
  pub there : IsThere key b.starts

pub at_branch : (bs : List Branch) (place : ℕ) (key : Key) (b : Branch) → (h : CanTake bs place key) → slice_get bs place ≡ Some b → AtBranch bs place h.level key b
at_branch bs place key b h e =
    let some = branch_there h.level (digit h.level key) place key bs h.children h.share refl h.rank h.there in
    let has = has_there bs place (digit h.level key) some.0 b some.1 e in
    let way = descends h.level (digit h.level key) place key bs b h.children h.share refl h.rank has in
    record { has = has; way = way; there = there_middle key _ b.starts _ way.below way.above (subst (IsThere key) way.is h.there) }

-- branches before another have lesser bytes
before_at : (level least i : ℕ) (bs : List Branch) (b : Branch) → AreChildren level least bs → slice_get bs i ≡ Some b → AllByRecursion (λ (c : Branch). c.byte < b.byte) (take i bs)
before_at level least zero bs b h e = tt
before_at level least (suc i) [] b h e = tt
before_at level least (suc i) (c ∷ cs) b h e = (let k = (children_at level (c.byte + 1) i cs b h.1 e).0.from in omega (arith, k), before_at level (c.byte + 1) i cs b h.1 e)

-- the branch keeps its byte and its level, and has one leaf less
pub takes_in_branch : (bs : List Branch) (place level : ℕ) (key : Key) (b d : Branch) → AtBranch bs place level key b → TakesFrom key b d → 0 < length d.starts → TakesBelow key bs (set bs place d)
takes_in_branch bs place level key b d a t some =
    let parts = set_at bs place b d a.has.there in
    record {
      children = λ m h.
          let k = children_at m 0 place bs b h a.has.there in
          let digits = all_takes (λ s. digit m s.low ≡ b.byte) key b.starts d.starts k.0.here t.takes in
          let child : IsChild m b.byte d = record { depth = t.level ∙ k.0.depth; from = (let e = t.byte in omega (arith, e)); some = some; here = subst (λ n. AllByRecursion (λ (s : LeafStart). digit m s.low ≡ n) d.starts) (sym t.byte) digits } in
          let rest : AreChildren m (d.byte + 1) (drop (suc place) bs) = subst (λ n. AreChildren m (n + 1) (drop (suc place) bs)) (sym t.byte) k.1 in
          rw parts (children_join m 0 b.byte (take place bs) (d ∷ drop (suc place) bs) (children_take m 0 place bs h) (before_at m 0 place bs b h a.has.there) (omega arith) (child, rest));
      takes = rw (parts, starts_append (take place bs) (d ∷ drop (suc place) bs), a.way.is) (takes_between key _ b.starts d.starts _ t.takes);
    }

-- the branch goes with its only leaf
pub takes_branch : (bs : List Branch) (place level : ℕ) (key : Key) (b : Branch) → AtBranch bs place level key b → length b.starts ≡ 1 → TakesBelow key bs (remove bs place)
takes_branch bs place level key b a one =
    record {
      children = λ m h.
          let k = children_at m 0 place bs b h a.has.there in
          children_join m 0 b.byte (take place bs) (drop (suc place) bs) (children_take m 0 place bs h) (before_at m 0 place bs b h a.has.there) (omega arith) (children_lower m b.byte (b.byte + 1) (drop (suc place) bs) (omega arith) k.1);
      takes = rw (starts_append (take place bs) (drop (suc place) bs), a.way.is) (takes_only key _ _ b.starts one a.there);
    }

pub place_within : (bs : List Branch) (place : ℕ) (key : Key) → CanTake bs place key → place < length bs
place_within bs place key h = let some = branch_there h.level (digit h.level key) place key bs h.children h.share refl h.rank h.there in there_within bs place some.0 some.1.there

-- a second leaf has a branch too
left_some : (key : Key) (old new : List Branch) → 2 ≤ length (all_starts old) → Takes key (all_starts old) (all_starts new) → 0 < length new
left_some key old [] more t = absurd (omega (arith, takes_less key (all_starts old) [] t))
left_some key old (b ∷ bs) more t = omega arith

pub inner_left : (level : ℕ) (key : Key) (old new : List Branch) → IsInner (level + 1) old → 2 ≤ length (all_starts old) → TakesBelow key old new → IsInner (level + 1) new
inner_left level key old new h more t =
    let same : h.level ≡ level = omega (arith, h.is) in
    inner_again level old new h (left_some key old new more t.takes) (t.children level (subst (λ n. AreChildren n 0 old) same h.children))

pub few_takes : (level : ℕ) (key : Key) (old new : List Branch) (went : Bool) → IsInner (level + 1) old × (length old ≤ 16) → 2 ≤ length (all_starts old) → TakesAmong key old new went → IsInner (level + 1) new × (length new ≤ 16)
few_takes level key old new true h more t = (inner_left level key old new h.0 more t.0, omega (arith, t.1, h.1))
few_takes level key old new false h more t = (inner_left level key old new h.0 more t.0, omega (arith, same_length old new t.1, h.1))

pub wide_takes : (level : ℕ) (key : Key) (places : List ℕ) (old new : List Branch) → IsInner (level + 1) old × HasRanks places old → 2 ≤ length (all_starts old) → TakesAmong key old new false → IsInner (level + 1) new × HasRanks places new
wide_takes level key places old new h more t = (inner_left level key old new h.0 more t.0, record { wide = h.1.wide; ranks = λ byte lt. rank_same old new byte _ t.1 (h.1.ranks byte lt) })

-- branches that are not one alone have more than one leaf, or none
pub many_starts : (level : ℕ) (bs : List Branch) → AreChildren level 0 bs → length bs ≢ 1 → (length (all_starts bs) == 1) ≡ false
many_starts level [] h ne = refl
many_starts level (b ∷ []) h ne = absurd (ne refl)
many_starts level (b ∷ c ∷ cs) h ne =
    let one = h.0.some in
    let two = h.1.0.some in
    ne_eqb _ 1 (λ e. omega (arith, e, one, two, length-append b.starts (c.starts ++ all_starts cs), length-append c.starts (all_starts cs)))

-- the branch at the place is at the level of the branches
pub depth_there : (bs : List Branch) (place : ℕ) (key : Key) → (h : CanTake bs place key) → level_at bs place ≡ h.level
depth_there bs place key h =
    let some = branch_there h.level (digit h.level key) place key bs h.children h.share refl h.rank h.there in
    level_there bs place some.0 some.1.there ∙ (children_at h.level 0 place bs some.0 h.children some.1.there).0.depth

pub set_same : (bs : List Branch) (place : ℕ) (b d : Branch) → slice_get bs place ≡ Some b → d ≡ b → set bs place d ≡ bs
set_same bs place b d e same = set_at bs place b d e ∙ ap (λ x. take place bs ++ x ∷ drop (suc place) bs) same ∙ sym (cut_at bs place b e)

pub length_remove : (bs : List Branch) (place : ℕ) → length (remove bs place) ≤ length bs
length_remove [] zero = omega arith
length_remove [] (suc place) = omega arith
length_remove (b ∷ bs) zero = omega arith
length_remove (b ∷ bs) (suc place) = omega (arith, length_remove bs place)
