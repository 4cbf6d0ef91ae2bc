-- A leaf without rows.
use Rattle.std.proofs.Common.{◌≡◌, List, [], ◌∷◌, ◌++◌, refl, sym, ap₂, ◌∙◌, subst}
use Rattle.graph_model.specs.declared.row.Key.{Key}
use Rattle.version_segment.specs.Rows.{VersionedRows}
use Rattle.leaf_array.specs.Segments.{rows_of}
use Rattle.leaf_array.specs.Leaves.{IsEmpty, AreFourEmpty, IsEmptyFrom}

-- one empty segment more has no rows
empty-before : (low high : Key) (s : VersionedRows) (ss : List VersionedRows) → IsEmpty low high s → rows_of ss ≡ [] → rows_of (s ∷ ss) ≡ []
empty-before low high s ss empty none = ap₂ (λ xs ys. xs ++ ys) empty.rows none

and : {X : Type 0} (x y : X) (xs ys : List X) → x ≡ y → xs ≡ ys → x ∷ xs ≡ y ∷ ys
and x y xs ys first rest = ap₂ (λ z zs. z ∷ zs) first rest

four-and-four : (low high : Key) (xs ys : List VersionedRows) → AreFourEmpty low high xs → AreFourEmpty high high ys → IsEmptyFrom low high (xs ++ ys)
four-and-four low high (a ∷ b ∷ c ∷ d ∷ []) (e ∷ f ∷ g ∷ h ∷ []) front back = record {
  leaf = record {
    segments = refl;
    chained = (
      front.1.begins ∙ sym front.0.ends,
      (
        front.2.begins ∙ sym front.1.ends,
        (
          front.3.begins ∙ sym front.2.ends,
          (
            back.0.begins ∙ sym front.3.ends,
            (back.1.begins ∙ sym back.0.ends, (back.2.begins ∙ sym back.1.ends, (back.3.begins ∙ sym back.2.ends, (refl, tt)))),
          ),
        ),
      ),
    );
  };
  rows = empty-before low high a (b ∷ c ∷ d ∷ e ∷ f ∷ g ∷ h ∷ []) front.0 (empty-before high high b (c ∷ d ∷ e ∷ f ∷ g ∷ h ∷ []) front.1 (empty-before high high c (d ∷ e ∷ f ∷ g ∷ h ∷ []) front.2 (empty-before high high d (e ∷ f ∷ g ∷ h ∷ []) front.3
      (empty-before high high e (f ∷ g ∷ h ∷ []) back.0 (empty-before high high f (g ∷ h ∷ []) back.1 (empty-before high high g (h ∷ []) back.2 (empty-before high high h [] back.3 refl)))))));
  lows = and a.low low _ _ front.0.begins (and b.low high _ _ front.1.begins (and c.low high _ _ front.2.begins (and d.low high _ _ front.3.begins
      (and e.low high _ _ back.0.begins (and f.low high _ _ back.1.begins (and g.low high _ _ back.2.begins (and h.low high [] [] back.3.begins refl)))))));
  ends = back.3.ends;
}
four-and-four low high (a ∷ b ∷ c ∷ d ∷ []) [] front back = absurd back
four-and-four low high (a ∷ b ∷ c ∷ d ∷ []) (e ∷ []) front back = absurd back
four-and-four low high (a ∷ b ∷ c ∷ d ∷ []) (e ∷ f ∷ []) front back = absurd back
four-and-four low high (a ∷ b ∷ c ∷ d ∷ []) (e ∷ f ∷ g ∷ []) front back = absurd back
four-and-four low high (a ∷ b ∷ c ∷ d ∷ []) (e ∷ f ∷ g ∷ h ∷ i ∷ rest) front back = absurd back
four-and-four low high [] ys front back = absurd front
four-and-four low high (a ∷ []) ys front back = absurd front
four-and-four low high (a ∷ b ∷ []) ys front back = absurd front
four-and-four low high (a ∷ b ∷ c ∷ []) ys front back = absurd front
four-and-four low high (a ∷ b ∷ c ∷ d ∷ e ∷ rest) ys front back = absurd front

-- eight segments without rows, the first of which has the range
pub new-leaf : (low high : Key) (xs ys ss : List VersionedRows) → AreFourEmpty low high xs → AreFourEmpty high high ys → ss ≡ xs ++ ys → IsEmptyFrom low high ss
new-leaf low high xs ys ss front back are = subst (IsEmptyFrom low high) (sym are) (four-and-four low high xs ys front back)
