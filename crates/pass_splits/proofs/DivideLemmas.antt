-- Contents of two leaves, as plain lists.
use Rattle.std.proofs.Common.{◌≡◌, ℕ, zero, suc, ◌+◌, ◌-◌, ◌/◌, ◌≤◌, List, [], ◌∷◌, ◌++◌, length, drop, refl, sym, ◌∙◌, ap, subst, arith}
use Rattle.std.specs.Prelude.{true, false, slice_get, IsSomeAnd}
use Rattle.std.specs.List.{AllByRecursion}
use Rattle.density_tree.specs.Division.{evenly}
use Rattle.gap_segment.proofs.FencedLemmas.{all_append}
use Rattle.graph_model.specs.declared.row.Key.{Key}
use Rattle.graph_model.specs.Rows.{is_below}
use Rattle.pass_moves.specs.VersionSegment.Rows.{VersionedRows, IsSegment}
use Rattle.store_model.specs.Stamped.{StampedVersions}
use Rattle.pass_moves.specs.LeafArray.Leaves.{Splits}
use Rattle.pass_moves.specs.LeafArray.Segments.{AreSame, counts_of, high_or, low_or, rows_of}
use Rattle.pass_moves.proofs.LeafArray.CountLemmas.{same-rows, same-low, same-high}
use Rattle.pass_moves.proofs.LeafArray.LeafLemmas.{Follow, follow-of, follow-low, follow-both}
use Rattle.pass_moves.proofs.LeafArray.PairLemmas.{high-append}
use Rattle.pass_moves.specs.LeafStore.Leaves.{cell_in}
use Rattle.pass_moves.proofs.LeafStore.CellLemmas.{AreSound, covered, few_in}
use Rattle.pass_moves.proofs.LeafStore.HalfLemmas.{few_rows}
use Rattle.pass_moves.proofs.LeafStore.MoveLemmas.{few_each, same_append}
use Rattle.pass_moves.proofs.LeafStore.SameLemmas.{same_self}
use Rattle.pass_moves.specs.PassCellsDeclared.taken.TakenCell.{TakenCell}
use Rattle.pass_moves.specs.Moving.{HavePut, values_of}
use Rattle.pass_moves.specs.Room.{HasRoom}
use Rattle.pass_moves.specs.Spreading.{KeepsContents}
use Rattle.pass_moves.proofs.TwoLeaves.{values_append}

-- ---- contents that are exchanged

pub put_append : (ts : List TakenCell) (ss : List VersionedRows) (us rs : List TakenCell) (ns : List VersionedRows)
    (vs : List TakenCell) → HavePut ts ss us → HavePut rs ns vs → HavePut (ts ++ rs) (ss ++ ns) (us ++ vs)
put_append [] [] [] rs ns vs one two = two
put_append (t ∷ ts) (s ∷ ss) (u ∷ us) rs ns vs one two = (one.0, put_append ts ss us rs ns vs one.1 two)
put_append [] [] (u ∷ us) rs ns vs one two = absurd one
put_append [] (s ∷ ss) us rs ns vs one two = absurd one
put_append (t ∷ ts) [] us rs ns vs one two = absurd one
put_append (t ∷ ts) (s ∷ ss) [] rs ns vs one two = absurd one

pub put_self : (ts : List TakenCell) → HavePut ts (values_of ts) ts
put_self [] = tt
put_self (t ∷ ts) = (record { cell = refl; value_mark = refl; mark = refl; rows = refl; value = refl }, put_self ts)

pub keeps_self : (ts : List TakenCell) → AreSound (values_of ts) → KeepsContents ts ts
keeps_self ts sound = record {
  segments = values_of ts;
  same = same_self (values_of ts);
  sound = sound;
  put = put_self ts;
}

-- cells beside them are as they were
pub keeps_append : (ts us rs : List TakenCell) → KeepsContents ts us → AreSound (values_of rs)
    → KeepsContents (ts ++ rs) (us ++ rs)
keeps_append ts us rs keeps sound = record {
  segments = keeps.segments ++ values_of rs;
  same = subst (λ ss. AreSame ss (keeps.segments ++ values_of rs)) (sym (values_append ts rs))
      (same_append (values_of ts) keeps.segments (values_of rs) (values_of rs) keeps.same (same_self (values_of rs)));
  sound = all_append IsSegment keeps.segments (values_of rs) keeps.sound sound;
  put = put_append ts keeps.segments us rs (values_of rs) rs keeps.put (put_self rs);
}

-- nothing stands behind so many
pub none_left : {X : Type 0} (xs : List X) (n : ℕ) → length xs ≤ n → drop n xs ≡ []
none_left [] zero few = refl
none_left [] (suc n) few = refl
none_left (x ∷ xs) zero few = absurd (omega (arith, few))
none_left (x ∷ xs) (suc n) few = none_left xs n (omega (arith, few))

-- ---- a split

-- a split of segments that are the same but for room
pub splits_same : (ms ss left right : List VersionedRows) (key : Key) → AreSame ms ss → Splits ss left right key
    → Splits ms left right key
splits_same ms ss left right key same s =
    let rows : rows_of ss ≡ rows_of ms = same-rows ms ss same in
    record {
      left_leaf = s.left_leaf;
      right_leaf = s.right_leaf;
      rows = s.rows ∙ rows;
      left_shares = s.left_shares
          ∙ ap (λ (l : List (Key × StampedVersions)). evenly (length l - length l / 2) 8) rows;
      right_shares = s.right_shares ∙ ap (λ (l : List (Key × StampedVersions)). evenly (length l / 2) 8) rows;
      low = λ other. s.low other ∙ same-low ms ss same other;
      left_high = s.left_high;
      right_low = s.right_low;
      high = λ other. s.high other ∙ same-high ms ss same other;
      key_is = subst (λ (l : List (Key × StampedVersions)).
          IsSomeAnd (slice_get l (length l - length l / 2)) (λ row. key ≡ row.0)) rows s.key_is;
      left_begins = s.left_begins;
      right_begins = s.right_begins;
    }

-- the key's segment has places after it
pub split_room : (low key at : Key) (need : ℕ) (ss left right : List VersionedRows) → Follow low ss → AreSound ss
    → length ss ≡ 8 → Splits ss left right at → AreSound left → AreSound right → is_below key low ≡ false
    → is_below key (high_or ss low) ≡ true → need ≤ 2 → HasRoom key need (left ++ right)
split_room low key at need ss left right follow sound eight s left_sound right_sound from until few =
    let rows = few_rows ss sound in
    let first : Follow low left = follow-of low left (s.low low ∙ follow-low low ss follow) s.left_leaf.chained in
    let second : Follow (high_or left low) right = subst (λ k. Follow k right) (sym (s.left_high low))
    (follow-of at right (s.right_low at) s.right_leaf.chained) in
    let all : Follow low (left ++ right) = follow-both low left right first second in
    let some : length right ≡ 8 = s.right_leaf.segments in
    let ends : high_or (left ++ right) low ≡ high_or ss low =
    high-append left right low ∙ s.high (high_or left low) ∙ any_end ss (high_or left low) low eight in
    let lefts = few_each (length (rows_of ss) - length (rows_of ss) / 2) 8 left s.left_shares (omega arith)
    (omega (arith, rows, eight)) in
    let rights = few_each (length (rows_of ss) / 2) 8 right s.right_shares (omega arith)
    (omega (arith, rows, eight)) in
    let places = few_in 30 key (left ++ right)
    (all_append (λ (c : VersionedRows). length c.rows ≤ 30) left right lefts rights) in
    record {
      covered = covered low key (left ++ right) all from
          (subst (λ k. is_below key k ≡ true) (sym ends) until);
      places = omega (arith, places, few);
    }
  where
    any_end : (ss : List VersionedRows) (one other : Key) → length ss ≡ 8 → high_or ss one ≡ high_or ss other
    any_end [] one other n = absurd (omega (arith, n))
    any_end (c ∷ cs) one other n = refl
