-- Rows at rest whose records get a writer's stamp, and one that is read.
use Rattle.std.proofs.Common.{◌≡◌, ℕ, zero, suc, ◌<◌, ◌≤◌, List, [], ◌∷◌, map, refl, sym, ◌∙◌, ap, subst, arith, Option, Some, None}
use Rattle.std.specs.Prelude.{Bool, slice_get, IfSome}
use mathlib.Core.Logic.{dite}
use native.Mathlib.Decide.{dec_lt}
use Rattle.graph_model.specs.declared.journal.TxnName.{TxnName}
use Rattle.store_model.specs.Stamped.{read_stamped}
use Rattle.row_table.specs.UndoChain.Chains.{ChainMap, list_at, ChangesOneList, IsHeadOf}
use Rattle.row_table.specs.UndoChain.Records.{UndoRecord, stamped_by, value_of}
use Rattle.row_table.specs.UndoChain.States.{AreNamed}
use Rattle.row_table.specs.UndoChainDeclared.states.Snapshot.{Snapshot}
use Rattle.row_table.specs.HeadMapDeclared.heads.Heads.{Heads}
use Rattle.row_table.specs.HeadMap.Heads.{settled_heads}
use Rattle.row_table.specs.Checks.{AreNamedIn, IsNamed}
use Rattle.row_table.specs.Lists.{AreHeads}
use Rattle.row_table.specs.Parts.{of_lists}
use Rattle.row_table.proofs.VersionLemmas.{stamped_lists}
use Rattle.row_table.proofs.WalkLemmas.{named_pairs}
use Rattle.version_segment.specs.Resting.{stamped_row, with_newest}
use Rattle.version_segment.specs.RestingParts.{resting_at, resting_places, AreRestingParts, LeavesLists, StampsFrom, StampsLists, StampsRow}

-- ---- one row

module _ (a b : ChainMap) (h : Heads) (is : AreHeads a h) (first : ChangesOneList a b h.undos h.undos) where
  -- once the undo records have their stamp the touches still stand
  pub touches_stand : IsHeadOf b h.touches
  touches_stand = (first.others h.touches is.touches is.own).head

  -- and once they have theirs both lists do
  pub row_stamped : (by : TxnName) (n : ℕ) (c : ChainMap) → list_at b h.undos ≡ map (stamped_by by n) (list_at a h.undos) → b.spare ≡ a.spare
      → list_at c h.touches ≡ map (stamped_by by n) (list_at b h.touches) → ChangesOneList b c h.touches h.touches → c.spare ≡ b.spare
      → StampsRow by n a c h
  row_stamped by n c undos room touches second room' =
      let own = first.others h.touches is.touches is.own in
      let back = second.others h.undos first.stands (λ key e f. is.own key f e) in
      record {
        heads = record { undos = back.head; touches = second.stands; own = is.own };
        here = record { undos = back.list ∙ undos; touches = touches ∙ ap (map (stamped_by by n)) own.list };
        others = λ g has apart.
            let u = first.others g.undos has.undos apart.undos_undos in
            let t = first.others g.touches has.touches apart.undos_touches in
            let u' = second.others g.undos u.head apart.touches_undos in
            let t' = second.others g.touches t.head apart.touches_touches in
            record {
              heads = record { undos = u'.head; touches = t'.head; own = has.own };
              undos = u'.list ∙ u.list;
              touches = t'.list ∙ t.list;
            };
        spare = room' ∙ room;
      }

-- ---- one row after the other, the last one first

-- a settled row has no records
settled_stamped : (by : TxnName) (n : ℕ) (a b : ChainMap) (h : Heads) → h ≡ settled_heads → StampsLists by n a b h
settled_stamped by n a b h none = subst (StampsLists by n a b) (sym none) (record { undos = refl; touches = refl })

module _ (by : TxnName) (n : ℕ) (f : ℕ → Heads) (count : ℕ) (a : ChainMap) (parts : AreRestingParts a f count) where
  -- none is stamped yet
  pub none_stamped : StampsFrom by n f count a a
  none_stamped = record {
    heads = parts.heads;
    done = λ p le. settled_stamped by n a a (f p) (parts.behind p le);
    left = λ p lt. record { heads = parts.heads p; undos = refl; touches = refl };
    spare = refl;
  }

  -- one more is
  module _ (b c : ChainMap) (end place : ℕ) (below : place < end) (between : (p : ℕ) → suc place ≤ p → p < end → f p ≡ settled_heads)
      (from : StampsFrom by n f end a b) (row : StampsRow by n b c (f place)) where
    other : (p : ℕ) → (place ≡ p → ⊥) → LeavesLists b c (f p)
    other p apart = row.others (f p) (from.heads p) (parts.apart place p apart)

    stamped_here : StampsLists by n a c (f place)
    stamped_here =
        let left = from.left place below in
        record { undos = row.here.undos ∙ ap (map (stamped_by by n)) left.undos; touches = row.here.touches ∙ ap (map (stamped_by by n)) left.touches }

    stamped_else : (p : ℕ) → (place ≡ p → ⊥) → StampsLists by n a b (f p) → StampsLists by n a c (f p)
    stamped_else p apart done =
        let left = other p apart in
        record { undos = left.undos ∙ done.undos; touches = left.touches ∙ done.touches }

    -- what holds at the place and at all others holds everywhere
    at_each : (P : ℕ → Type 0) → P place → ((p : ℕ) → (place ≡ p → ⊥) → P p) → (p : ℕ) → P p
    at_each P here else p = dite (dec_lt p place) (λ lt. else p (λ same. absurd (omega (arith, lt, same))))
        (λ not_below. dite (dec_lt place p) (λ lt. else p (λ same. absurd (omega (arith, lt, same))))
        (λ not_above. let same : place ≡ p = omega (arith, not_below, not_above) in subst P same here))

    pub next_stamped : StampsFrom by n f place a c
    next_stamped = record {
      heads = at_each (λ p. AreHeads c (f p)) row.heads (λ p apart. (other p apart).heads);
      done = at_each (λ p. place ≤ p → StampsLists by n a c (f p)) (λ le. stamped_here)
          (λ p apart le. stamped_else p apart (dite (dec_lt p end)
          (λ lt. settled_stamped by n a b (f p) (between p (above p apart le) lt)) (λ not_below. from.done p (omega (arith, not_below)))));
      left = λ p lt.
          let apart : place ≡ p → ⊥ = λ same. absurd (omega (arith, lt, same)) in
          let was = from.left p (omega (arith, lt, below)) in
          let now = other p apart in
          record { heads = now.heads; undos = now.undos ∙ was.undos; touches = now.touches ∙ was.touches };
      spare = row.spare ∙ from.spare;
    }
      where
        above : (p : ℕ) → (place ≡ p → ⊥) → place ≤ p → suc place ≤ p
        above p apart le = dite (dec_lt place p) (λ lt. omega (arith, lt)) (λ not_below. absurd (apart (omega (arith, le, not_below))))

  -- all are
  pub all_stamped : (c : ChainMap) (end : ℕ) → ((p : ℕ) → 0 ≤ p → p < end → f p ≡ settled_heads) → StampsFrom by n f end a c → StampsFrom by n f 0 a c
  all_stamped c end between from = record {
    heads = from.heads;
    done = λ p le. dite (dec_lt p end) (λ lt. settled_stamped by n a c (f p) (between p le lt)) (λ not_below. from.done p (omega (arith, not_below)));
    left = λ p lt. absurd (omega (arith, lt));
    spare = from.spare;
  }

  -- then they are parts of a segment at rest
  pub stamped_parts : (c : ChainMap) → StampsFrom by n f 0 a c → AreRestingParts c f count
  stamped_parts c from = record { heads = from.heads; apart = parts.apart; rest = parts.rest; behind = parts.behind }

-- what is left of them is stamped
pub stamped_places : (by : TxnName) (n : ℕ) (a c : ChainMap) (count : ℕ) (f : ℕ → Heads) → ((p : ℕ) → StampsLists by n a c (f p))
    → resting_places c count f ≡ map (stamped_row by n) (resting_places a count f)
stamped_places by n a c zero f are = refl
stamped_places by n a c (suc m) f are = λ i. record {
  has_value = (f 0).has_value;
  versions = ((λ j. of_lists None ((are 0).undos j) ((are 0).touches j)) ∙ stamped_lists by n None (list_at a (f 0).undos) (list_at a (f 0).touches)) i;
} ∷ stamped_places by n a c m (λ p. f (suc p)) (λ p. are (suc p)) i

-- ---- a read

module _ (c : ChainMap) where
  -- what is left of the row at a place
  pub at_place : (count : ℕ) (f : ℕ → Heads) (p : ℕ) → p < count → slice_get (resting_places c count f) p ≡ Some (resting_at c (f p))
  at_place zero f p lt = absurd (omega (arith, lt))
  at_place (suc n) f zero lt = refl
  at_place (suc n) f (suc p) lt = at_place n (λ q. f (suc q)) p (omega (arith, lt))

  -- and of none behind all rows
  pub behind_places : (count : ℕ) (f : ℕ → Heads) (p : ℕ) → count ≤ p → slice_get (resting_places c count f) p ≡ None
  behind_places zero f p le = refl
  behind_places (suc n) f zero le = absurd (omega (arith, le))
  behind_places (suc n) f (suc p) le = behind_places n (λ q. f (suc q)) p (omega (arith, le))

  -- whoever may be asked for the writers of a row's versions may be asked for those in its list
  pub named_at : (names : TxnName → Bool) (newest : Option ℕ) (count : ℕ) (f : ℕ → Heads) (p : ℕ) → AreRestingParts c f count
      → IfSome (slice_get (resting_places c count f) p) (λ h. IsNamed names (with_newest newest h.versions)) → AreNamed names (list_at c (f p).undos)
  named_at names newest count f p parts named = dite (dec_lt p count)
      (λ lt. named_list newest (list_at c (f p).undos) (list_at c (f p).touches)
      (subst (λ o. IfSome o (λ h. IsNamed names (with_newest newest h.versions))) (at_place count f p lt) named).pairs)
      (λ not_below. subst (λ (h : Heads). AreNamed names (list_at c h.undos)) (sym (parts.behind p (omega (arith, not_below)))) tt)
    where
      named_list : (v : Option ℕ) (us ts : List UndoRecord) → AreNamedIn names (with_newest v (of_lists None us ts)).pairs → AreNamed names us
      named_list v [] ts h = tt
      named_list v (u ∷ us) ts h = (h.0, named_pairs names u.older us h.1)

  -- the value of its list is that of what is left of it, with its newest value
  pub read_at : (stamps : TxnName → Option ℕ) (snapshot : Snapshot) (count : ℕ) (f : ℕ → Heads) (p : ℕ) (newest value : Option ℕ)
      → value ≡ value_of stamps snapshot newest (list_at c (f p).undos)
      → IfSome (slice_get (resting_places c count f) p) (λ h. value ≡ read_stamped stamps snapshot.start snapshot.own (with_newest newest h.versions))
  read_at stamps snapshot count f p newest value is = dite (dec_lt p count)
      (λ lt. subst (λ o. IfSome o (λ h. value ≡ read_stamped stamps snapshot.start snapshot.own (with_newest newest h.versions))) (sym (at_place count f p lt))
      (is ∙ with_list newest (list_at c (f p).undos) (list_at c (f p).touches)))
      (λ not_below. subst (λ o. IfSome o (λ h. value ≡ read_stamped stamps snapshot.start snapshot.own (with_newest newest h.versions))) (sym (behind_places count f p (omega (arith, not_below)))) tt)
    where
      with_list : (v : Option ℕ) (us ts : List UndoRecord) → value_of stamps snapshot v us ≡ read_stamped stamps snapshot.start snapshot.own (with_newest v (of_lists None us ts))
      with_list v [] ts = refl
      with_list v (u ∷ us) ts = refl
