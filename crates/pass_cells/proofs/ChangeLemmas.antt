-- Steps at the table: a write, its undo and the stamps of a commit may be made known.
use Rattle.std.proofs.Common.{◌≡◌, ◌⊎◌, ℕ, ◌≤◌, List, [], ◌∷◌, ◌++◌, refl, sym, ◌∙◌, ap, subst, cond, arith, inl, inr}
use Rattle.std.specs.Prelude.{Bool, true, false, not, ◌||◌, unwrap_or}
use Rattle.std.specs.List.{AllByRecursion, list_any}
use Rattle.graph_model.specs.declared.row.Key.{Key}
use Rattle.graph_model.specs.declared.journal.TxnName.{TxnName}
use Rattle.graph_model.specs.declared.write.Kind.{Kind}
use Rattle.graph_model.specs.declared.write.Write.{Write}
use Rattle.graph_model.specs.declared.write.Write.TheVariants.{AddVertex, DropVertex, AddEdge, SetEdge, DropEdge}
use Rattle.graph_model.specs.Effects.{same_key, touches_at, value_left, writes_at}
use Rattle.graph_model.specs.Inserted.{inserted_by}
use Rattle.graph_model.specs.Rows.{first_key, vertex_key}
use Rattle.graph_model.proofs.TestLemmas.{either_of, never}
use Rattle.txn_manager.specs.declared.config.Config.{Config}
use Rattle.store_model.specs.Stamped.{StampedVersions, stamp}
use Rattle.row_writes.specs.VersionSegment.Rows.{touched, undone, untouched, written}
use Rattle.row_writes.specs.Held.{AreHeld}
use Rattle.row_writes.specs.Written.{all_keys, ends_in, rows_of, stamped_after, stamped_before, touched_keys, written_keys}
use Rattle.row_writes.proofs.KeyLemmas.{key_eq}
use Rattle.row_writes.proofs.WrittenLemmas.{keys_are}
use Rattle.store_rule.specs.StoreRelation.Keys.{has_key}
use Rattle.store_rule.specs.StoreRelation.Passes.{PassState, fresh_pass, name_at}
use Rattle.store_rule.specs.StoreRelation.Rows.{row_after, row_before}
use Rattle.store_rule.specs.CellsModel.Indexed.{covers}
use Rattle.store_rule.specs.RuleModel.RowSteps.{CanStamp, CanUndo, CanWrite, GrowsBy, HoldsKeys, IsBeside}
use Rattle.store_rule.specs.RuleModel.Sight.{HasPass, Sight}
use Rattle.pass_cells.specs.declared.taken.TakenCell.{TakenCell}
use Rattle.pass_cells.specs.Changes.{MayMake, MayStamp, MayUndo, StampsRows, but_newest, keys_beside, news_of, pass_of}
use Rattle.pass_cells.specs.Holding.{AreKnown}
use Rattle.pass_cells.specs.Taken.{AreApart, AreFrom, KeepCells, has_cell, held_rows, rows_come}
use Rattle.pass_cells.proofs.AfterLemmas.{rows_change}
use Rattle.pass_cells.proofs.StepLemmas.{all_changes, apart_kept, covers_kept, grows, news_at}

pub pass_is : (v : Sight) (p : ℕ) (st : PassState) → HasPass v p st → pass_of v p ≡ st
pass_is v p st has = ap (λ o. unwrap_or o fresh_pass) has

-- no row has come yet
pub none_come : (z : Config) (v : Sight) (ts : List TakenCell) → AreKnown z v ts → rows_come ts ≡ 0
none_come z v [] known = refl
none_come z v (t ∷ ts) known = let rest = none_come z v ts known.1 in let same =
    known.0.count in omega (arith, rest, same)

-- ---- the keys of a write

all_at : (P : Key → Type 0) (keys : List Key) (q : Key) → AllByRecursion P keys → list_any (same_key q) keys ≡ true
    → P q
all_at P [] q all e = cc
all_at P (k ∷ ks) q all e = elim (either_of (same_key q k) (list_any (same_key q) ks) e) as (λ _. P q) [
  | inl same ↦ subst P (sym (key_eq q k same)) all.0
  | inr rest ↦ all_at P ks q all.1 rest
]

all_front : (P : Key → Type 0) (xs ys : List Key) → AllByRecursion P (xs ++ ys) → AllByRecursion P xs
all_front P [] ys all = tt
all_front P (x ∷ xs) ys all = (all.0, all_front P xs ys all.1)

all_back : (P : Key → Type 0) (xs ys : List Key) → AllByRecursion P (xs ++ ys) → AllByRecursion P ys
all_back P [] ys all = all
all_back P (x ∷ xs) ys all = all_back P xs ys all.1

-- a write touches none but the ends of its edge
touches_ends : (kind : Kind) (w : Write) (q : Key) → touches_at w q ≡ true
    → list_any (same_key q) (ends_in (rows_of kind w).ends) ≡ true
touches_ends kind (AddVertex v) q e = cc
touches_ends kind (DropVertex v) q e = cc
touches_ends kind (AddEdge u v weight) q e = more (same_key q (vertex_key u)) (same_key q (vertex_key v)) e
  where
    more : (s t : Bool) → (s || t) ≡ true → (s || (t || false)) ≡ true
    more true t h = refl
    more false true h = refl
    more false false h = h
touches_ends kind (SetEdge u v weight) q e = cc
touches_ends kind (DropEdge u v) q e = cc

-- the cells of all that it writes or touches are in hand
pub keys_held : (ts : List TakenCell) (kind : Kind) (w : Write) → AreHeld (held_rows ts) (all_keys (rows_of kind w))
    → (q : Key) → (writes_at kind w q || touches_at w q) ≡ true → has_cell ts q ≡ true
keys_held ts kind w held q e =
    let P : Key → Type 0 = λ k. has_cell ts k ≡ true in
    elim (either_of (writes_at kind w q) (touches_at w q) e) as (λ _. has_cell ts q ≡ true) [
      | inl f ↦ all_at P (written_keys (rows_of kind w)) q
          (all_front P (written_keys (rows_of kind w)) (ends_in (rows_of kind w).ends) held)
          (ap (list_any (same_key q)) (keys_are kind w) ∙ f)
      | inr f ↦ all_at P (ends_in (rows_of kind w).ends) q
          (all_back P (written_keys (rows_of kind w)) (ends_in (rows_of kind w).ends) held) (touches_ends kind w q f)
    ]

-- ---- what becomes of versions

module _ (kind : Kind) (q : Key) where
  left : (w : Write) → (rows_of kind w).value ≡ value_left w
  left (AddVertex v) = refl
  left (DropVertex v) = refl
  left (AddEdge u v weight) = refl
  left (SetEdge u v weight) = refl
  left (DropEdge u v) = refl

  touches_is : (w : Write) → list_any (same_key q) (touched_keys (rows_of kind w)) ≡ touches_at w q
  touches_is (AddVertex v) = refl
  touches_is (DropVertex v) = refl
  touches_is (AddEdge u v weight) = or_none (same_key q (vertex_key u)) (same_key q (vertex_key v))
    where
      or_none : (s t : Bool) → (s || (t || false)) ≡ (s || t)
      or_none true t = refl
      or_none false true = refl
      or_none false false = refl
  touches_is (SetEdge u v weight) = refl
  touches_is (DropEdge u v) = refl

  pub stamped_is : (w : Write) (by : TxnName) (vs : StampedVersions)
      → stamped_after by (rows_of kind w) q vs ≡ row_after kind by w q vs
  stamped_is w by vs = λ i. cond (touches_is w i)
      (touched by (cond (list_any (same_key q) (keys_are kind w i)) (written by (left w i) vs) vs))
      (cond (list_any (same_key q) (keys_are kind w i)) (written by (left w i) vs) vs)

  pub unstamped_is : (w : Write) (by : TxnName) (vs : StampedVersions)
      → stamped_before by (rows_of kind w) q vs ≡ row_before kind by w q vs
  unstamped_is w by vs = λ i. cond (touches_is w i)
      (untouched by (cond (list_any (same_key q) (keys_are kind w i)) (undone vs) vs))
      (cond (list_any (same_key q) (keys_are kind w i)) (undone vs) vs)

-- ---- keys that still have to be stamped

-- a key that isn't among others stays among the rest
pub stays_beside : (others keys : List Key) (q : Key) → has_key others q ≡ false → has_key keys q ≡ true
    → has_key (keys_beside others keys) q ≡ true
stays_beside others [] q beside e = e
stays_beside others (k ∷ ks) q beside e = go (has_key others k) refl (stays_beside others ks q beside)
  where
    go : (b : Bool) → has_key others k ≡ b → (has_key ks q ≡ true → has_key (keys_beside others ks) q ≡ true)
        → has_key (cond (not (has_key others k)) (k ∷ keys_beside others ks) (keys_beside others ks)) q ≡ true
    go false f ih = ap (λ b. has_key (cond (not b) (k ∷ keys_beside others ks) (keys_beside others ks)) q) f
        ∙ (elim (either_of (same_key q k) (has_key ks q) e) as
        (λ _. (same_key q k || has_key (keys_beside others ks) q) ≡ true) [
          | inl same ↦ ap (λ b. b || has_key (keys_beside others ks) q) same
          | inr rest ↦ last (same_key q k) (ih rest)
        ])
      where
        last : (b : Bool) → has_key (keys_beside others ks) q ≡ true → (b || has_key (keys_beside others ks) q) ≡ true
        last true h = refl
        last false h = h
    go true f ih = ap (λ b. has_key (cond (not b) (k ∷ keys_beside others ks) (keys_beside others ks)) q) f
        ∙ (elim (either_of (same_key q k) (has_key ks q) e) as (λ _. has_key (keys_beside others ks) q ≡ true) [
          | inl same ↦ never (has_key others k) f (ap (has_key others) (sym (key_eq q k same)) ∙ beside)
          | inr rest ↦ ih rest
        ])

-- ---- the steps

module _ (z : Config) (v : Sight) (p : ℕ) (ts us : List TakenCell) (known : AreKnown z v ts) (kept : KeepCells ts us)
    (apart : AreApart ts)
    (rising : AreFrom first_key ts) where
  -- no more rows come than are counted
  grows_by : (most : ℕ) → rows_come us ≤ most → GrowsBy v (news_of v us) most
  grows_by most few = λ cell agrees. let count =
      grows z v cell agrees ts us known kept (apart_kept ts us kept apart) in omega (arith, few, count)

  -- the news are of all keys whose cells are in hand
  in_hand : (w : Write) → ((q : Key) → (writes_at z.kind w q || touches_at w q) ≡ true → has_cell ts q ≡ true)
      → HoldsKeys z w (news_of v us)
  in_hand w held = λ q e.
      let news = news_at z v us (apart_kept ts us kept apart) q (covers_kept ts us kept q ∙ held q e) in
      (news.number, news.cell, news.there, news.covered)

  pub can_write : (w : Write) → (may : MayMake z v p w) → AreHeld (held_rows ts) (all_keys (rows_of z.kind w))
      → ((q : Key) → (held_rows us).versions q ≡ stamped_after (name_at p (pass_of v p)) (rows_of z.kind w) q
      ((held_rows ts).versions q))
      → rows_come us ≤ inserted_by z.kind w → CanWrite z v p (pass_of v p) w (news_of v us)
  can_write w may held lays few =
      let is = pass_is v p may.state may.has in
      subst (λ s. CanWrite z v p s w (news_of v us)) (sym is) (record {
        has = may.has;
        stage = may.stage;
        alone = may.alone;
        allowed = may.allowed;
        within = may.within;
        may = may.may;
        held = in_hand w (keys_held ts z.kind w held);
        changes = all_changes z v first_key ts us known kept rising;
        rows = rows_change z v ts us known kept rising (λ q a b. b ≡ row_after z.kind (name_at p may.state) w q a)
            (λ q e. lays q ∙ stamped_is z.kind q w (name_at p (pass_of v p)) ((held_rows ts).versions q)
            ∙ ap (λ s. row_after z.kind (name_at p s) w q ((held_rows ts).versions q)) is);
        grows = grows_by (inserted_by z.kind w) few;
      })

  pub can_undo : (w : Write) → (may : MayUndo v p w) → AreHeld (held_rows ts) (all_keys (rows_of z.kind w))
      → ((q : Key) → (held_rows us).versions q ≡ stamped_before (name_at p (pass_of v p)) (rows_of z.kind w) q
      ((held_rows ts).versions q))
      → rows_come us ≤ 0 → CanUndo z v p (pass_of v p) (but_newest (pass_of v p).laid) w (news_of v us)
  can_undo w may held takes few =
      let is = pass_is v p may.state may.has in
      subst (λ s. CanUndo z v p s (but_newest s.laid) w (news_of v us)) (sym is) (record {
        has = may.has;
        stage = may.stage;
        laid = may.laid;
        held = in_hand w (keys_held ts z.kind w held);
        changes = all_changes z v first_key ts us known kept rising;
        rows = rows_change z v ts us known kept rising (λ q a b. b ≡ row_before z.kind (name_at p may.state) w q a)
            (λ q e. takes q ∙ unstamped_is z.kind q w (name_at p (pass_of v p)) ((held_rows ts).versions q)
            ∙ ap (λ s. row_before z.kind (name_at p s) w q ((held_rows ts).versions q)) is);
        grows = grows_by 0 few;
      })

  pub can_stamp : (number : ℕ) (keys : List Key) → (may : MayStamp v p number) → AreHeld (held_rows ts) keys
      → StampsRows (name_at p (pass_of v p)) number keys ts us → rows_come us ≤ 0
      → CanStamp z v p (pass_of v p) (keys_beside keys (pass_of v p).unstamped) may.place may.commit (news_of v us)
  can_stamp number keys may held stamps few =
      let is = pass_is v p may.state may.has in
      subst (λ s. CanStamp z v p s (keys_beside keys s.unstamped) may.place may.commit (news_of v us)) (sym is)
      (record {
        has = may.has;
        stage = may.stage;
        commit = may.there;
        by = may.by;
        changes = all_changes z v first_key ts us known kept rising;
        rows = rows_change z v ts us known kept rising
            (λ q a b. (b ≡ stamp (name_at p may.state) may.commit.stamp a) ⊎
            ((b ≡ a) × (has_key may.state.unstamped q ≡ true
            → has_key (keys_beside keys may.state.unstamped) q ≡ true)))
            (λ q e. one q (has_key keys q) refl);
        rest = λ q beside. stays_beside keys may.state.unstamped q (outside q beside (has_key keys q) refl);
        grows = grows_by 0 few;
      })
    where
      one : (q : Key) (b : Bool) → has_key keys q ≡ b
          → ((held_rows us).versions q ≡ stamp (name_at p may.state) may.commit.stamp ((held_rows ts).versions q))
          ⊎ (((held_rows us).versions q ≡ (held_rows ts).versions q) × (has_key may.state.unstamped q ≡ true
          → has_key (keys_beside keys may.state.unstamped) q ≡ true))
      one q true e = inl (stamps q
          ∙ ap (λ b. cond b (stamp (name_at p (pass_of v p)) number ((held_rows ts).versions q))
          ((held_rows ts).versions q)) e
          ∙ (λ i. stamp (name_at p (pass_is v p may.state may.has i)) (sym may.stamp_is i) ((held_rows ts).versions q)))
      one q false e = inr (
        stamps q ∙ ap (λ b. cond b (stamp (name_at p (pass_of v p)) number ((held_rows ts).versions q))
            ((held_rows ts).versions q)) e,
        stays_beside keys may.state.unstamped q e,
      )

      outside : (q : Key) → IsBeside (news_of v us) q → (b : Bool) → has_key keys q ≡ b → b ≡ false
      outside q beside false e = refl
      outside q beside true e =
          let news = news_at z v us (apart_kept ts us kept apart) q
          (covers_kept ts us kept q ∙ all_at (λ k. has_cell ts k ≡ true) keys q held e) in
          never (covers news.cell.segment q) news.covered (beside news.number news.cell news.there)
