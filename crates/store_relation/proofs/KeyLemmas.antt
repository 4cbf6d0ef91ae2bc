-- The rows that writes change: which they are, and how the rows of a segment are changed key after key.
use Rattle.std.proofs.Common.{◌≡◌, List, [], ◌∷◌, ◌++◌, refl, sym, ◌∙◌, ap, cond, inl, inr}
use Rattle.std.specs.Prelude.{◌⊎◌, Bool, true, false, ◌&&◌, ◌||◌, not}
use Rattle.std.specs.Ordering.{eq_by_cmp}
use Rattle.std.proofs.lemmas.Bool.{or_left, or_right, true≢false, false_from_ne_true}
use Rattle.std.proofs.lemmas.List.Folds.{list_any-append}
use Rattle.graph_model.specs.declared.write.Kind.{Kind}
use Rattle.graph_model.specs.declared.write.Write.{Write}
use Rattle.graph_model.specs.declared.write.Write.TheVariants.{AddVertex, DropVertex, AddEdge, SetEdge, DropEdge}
use Rattle.graph_model.specs.declared.row.Key.{Key}
use Rattle.graph_model.specs.declared.journal.TxnName.{TxnName}
use Rattle.graph_model.specs.Effects.{same_key, keys_of, value_left, writes_at, touches_at, any_writes, any_touches}
use Rattle.graph_model.specs.Rows.{key_cmp}
use Rattle.graph_model.proofs.TestLemmas.{either_of, self_eq}
use Rattle.store_model.specs.Stamped.{StampedVersions}
use Rattle.store_model.proofs.LookedLemmas.{same_key_eq}
use Rattle.version_segment.specs.Rows.{VersionedRows, versions_at, ChangesKey, written, undone, touched, untouched}
use Rattle.version_segment.proofs.KeyedLemmas.{tied_same, tied_self}
use Rattle.version_segment.proofs.LawLemmas.{key_changed}
use Rattle.store_relation.specs.Keys.{changed_keys, ends_of, has_key, keys_but}
use Rattle.store_relation.specs.RowLaws.{IsDone}
use Rattle.store_relation.specs.Rows.{row_after, row_before}

-- ---- which rows

ends_touched : (w : Write) (q : Key) → touches_at w q ≡ true → has_key (ends_of w) q ≡ true
ends_touched (AddVertex v) q h = cc
ends_touched (DropVertex v) q h = cc
ends_touched (AddEdge u v weight) q h =
    elim (either_of (same_key q _) (same_key q _) h) as (λ _. has_key (ends_of (AddEdge u v weight)) q ≡ true) [
      | inl e ↦ or_left _ _ e
      | inr e ↦ or_right (same_key q _) _ (or_left _ _ e)
    ]
ends_touched (SetEdge u v weight) q h = cc
ends_touched (DropEdge u v) q h = cc

pub one_changed : (kind : Kind) (w : Write) (q : Key) → (writes_at kind w q || touches_at w q) ≡ true
    → has_key (keys_of kind w ++ ends_of w) q ≡ true
one_changed kind w q h =
    list_any-append (same_key q) (keys_of kind w) (ends_of w)
    ∙ elim (either_of (writes_at kind w q) (touches_at w q) h)
    as (λ _. (has_key (keys_of kind w) q || has_key (ends_of w) q) ≡ true) [
      | inl e ↦ or_left _ _ e
      | inr e ↦ or_right (has_key (keys_of kind w) q) _ (ends_touched w q e)
    ]

-- all rows that are not among them stay
pub one_beside : (kind : Kind) (w : Write) (q : Key)
    → (has_key (keys_of kind w ++ ends_of w) q ≡ true) ⊎ ((writes_at kind w q || touches_at w q) ≡ false)
one_beside kind w q = by_test (writes_at kind w q || touches_at w q) refl
  where
    by_test : (t : Bool) → (writes_at kind w q || touches_at w q) ≡ t
        → (has_key (keys_of kind w ++ ends_of w) q ≡ true) ⊎ (t ≡ false)
    by_test true e = inl (one_changed kind w q e)
    by_test false e = inr refl

-- each row that writes have written or touched is among those that they have changed
pub changed_covers : (kind : Kind) (ws : List Write) (q : Key)
    → (any_writes kind ws q || any_touches ws q) ≡ true
    → has_key (changed_keys kind ws) q ≡ true
changed_covers kind [] q h = cc
changed_covers kind (w ∷ ws) q h =
    list_any-append (same_key q) (keys_of kind w ++ ends_of w) (changed_keys kind ws)
    ∙ elim (either_of (writes_at kind w q || touches_at w q) (any_writes kind ws q || any_touches ws q)
    (turn (writes_at kind w q) (any_writes kind ws q) (touches_at w q) (any_touches ws q) h))
    as (λ _. (has_key (keys_of kind w ++ ends_of w) q || has_key (changed_keys kind ws) q) ≡ true) [
      | inl e ↦ or_left _ _ (one_changed kind w q e)
      | inr e ↦ or_right (has_key (keys_of kind w ++ ends_of w) q) _ (changed_covers kind ws q e)
    ]
  where
    turn : (a b c d : Bool) → ((a || b) || (c || d)) ≡ true → ((a || c) || (b || d)) ≡ true
    turn true b c d e = refl
    turn false true true d e = refl
    turn false true false d e = refl
    turn false false true d e = refl
    turn false false false d e = e

-- another row is still left when one is stamped
pub left_still : (k : Key) (ks : List Key) (q : Key) → same_key q k ≡ false → has_key ks q ≡ true
    → has_key (keys_but k ks) q ≡ true
left_still k [] q other h = cc
left_still k (x ∷ ks) q other h =
    by_test (same_key x k) refl (either_of (same_key q x) (has_key ks q) h) (left_still k ks q other)
  where
    by_test : (t : Bool) → same_key x k ≡ t → (same_key q x ≡ true) ⊎ (has_key ks q ≡ true)
        → (has_key ks q ≡ true → has_key (keys_but k ks) q ≡ true)
        → has_key (cond (not t) (x ∷ keys_but k ks) (keys_but k ks)) q ≡ true
    by_test true e (inl same) rest =
        absurd (true≢false (sym e ∙ ap (λ y. same_key y k) (sym (same_key_eq q x same)) ∙ other))
    by_test true e (inr g) rest = rest g
    by_test false e (inl same) rest = or_left _ _ same
    by_test false e (inr g) rest = or_right (same_key q x) _ (rest g)

-- a row that a write neither writes nor touches
pub after_beside : (kind : Kind) (by : TxnName) (w : Write) (q : Key) (r : StampedVersions)
    → (writes_at kind w q || touches_at w q) ≡ false → row_after kind by w q r ≡ r
after_beside kind by w q r away = by_tests (writes_at kind w q) (touches_at w q) away
  where
    by_tests : (s t : Bool) → (s || t) ≡ false
        → cond t (touched by (cond s (written by (value_left w) r) r)) (cond s (written by (value_left w) r) r)
        ≡ r
    by_tests true t e = cc
    by_tests false true e = cc
    by_tests false false e = refl

pub before_beside : (kind : Kind) (by : TxnName) (w : Write) (q : Key) (r : StampedVersions)
    → (writes_at kind w q || touches_at w q) ≡ false → row_before kind by w q r ≡ r
before_beside kind by w q r away = by_tests (writes_at kind w q) (touches_at w q) away
  where
    by_tests : (s t : Bool) → (s || t) ≡ false
        → cond t (untouched by (cond s (undone r) r)) (cond s (undone r) r) ≡ r
    by_tests true t e = cc
    by_tests false true e = cc
    by_tests false false e = refl

-- ---- key after key

same_self : (k : Key) → same_key k k ≡ true
same_self k = λ i. self_eq k.src i && self_eq k.second i

pub done_none : (f : Key → StampedVersions → StampedVersions) (s : VersionedRows) → IsDone f [] s s
done_none f s = record { low = refl; high = refl; rows = λ q. refl }

pub done_next : (f : Key → StampedVersions → StampedVersions) (done : List Key) (old now new : VersionedRows)
    (key : Key)
    → IsDone f done old now → has_key done key ≡ false → ChangesKey now new key (f key (versions_at now key))
    → IsDone f (key ∷ done) old new
done_next f done old now new key is fresh changes = record {
  low = changes.low ∙ is.low;
  high = changes.high ∙ is.high;
  rows = λ q. key_changed now new key (f key (versions_at now key)) changes q ∙ by_key q (same_key q key) refl;
}
  where
    was : versions_at now key ≡ versions_at old key
    was = is.rows key ∙ ap (λ t. cond t (f key (versions_at old key)) (versions_at old key)) fresh

    by_key : (q : Key) (t : Bool) → same_key q key ≡ t
        → cond (eq_by_cmp key_cmp q key) (f key (versions_at now key)) (versions_at now q)
        ≡ cond (t || has_key done q) (f q (versions_at old q)) (versions_at old q)
    by_key q true e =
        let same : q ≡ key = same_key_eq q key e in
        ap (λ t. cond t (f key (versions_at now key)) (versions_at now q))
        (ap (λ x. eq_by_cmp key_cmp x key) same ∙ tied_self key)
        ∙ ap (f key) was ∙ ap (λ x. f x (versions_at old x)) (sym same)
    by_key q false e =
        ap (λ t. cond t (f key (versions_at now key)) (versions_at now q))
        (false_from_ne_true (eq_by_cmp key_cmp q key) (λ t.
        true≢false (sym (same_self key) ∙ ap (λ x. same_key x key) (sym (tied_same q key t)) ∙ e)))
        ∙ is.rows q

pub done_all : (f : Key → StampedVersions → StampedVersions) (done : List Key) (old new : VersionedRows)
    → IsDone f done old new
    → (q : Key) → (has_key done q ≡ true) ⊎ (f q (versions_at old q) ≡ versions_at old q)
    → versions_at new q ≡ f q (versions_at old q)
done_all f done old new is q (inl e) =
    is.rows q ∙ ap (λ t. cond t (f q (versions_at old q)) (versions_at old q)) e
done_all f done old new is q (inr e) = is.rows q ∙ by_test (has_key done q)
  where
    by_test : (t : Bool) → cond t (f q (versions_at old q)) (versions_at old q) ≡ f q (versions_at old q)
    by_test true = refl
    by_test false = sym e
