-- The lists of one row change, and those of all others stay.
use Rattle.std.proofs.Common.{◌≡◌, ℕ, refl, sym, ◌∙◌, ap, subst, Some, None}
use Rattle.std.specs.Prelude.{true, false, cond, Option}
use Rattle.std.specs.Ordering.{eq_by_cmp}
use Rattle.graph_model.specs.declared.row.Key.{Key}
use Rattle.graph_model.specs.Rows.{key_cmp}
use Rattle.head_map.specs.UndoChain.Chains.{ChainMap, list_at, AreApart, ChangesOneList}
use Rattle.head_map.specs.declared.heads.Heads.{Heads}
use Rattle.row_table.specs.Lists.{AreHeads, AreOthers, AreLists, ChangesRow}
use Rattle.head_map.proofs.KeyedLemmas.{tied_same, tied_self, tied_flip}

apart_flip : (a b : Option ℕ) → AreApart a b → AreApart b a
apart_flip a b h = λ key e f. h key f e

none_apart : (a : Option ℕ) → AreApart None a
none_apart a = λ key e f. no_key key e
  where
    no_key : (key : ℕ) → ◌≡◌ {A = Option ℕ} None (Some key) → ⊥
    no_key key e = cc

-- nothing has changed yet
pub row_start : (c : ChainMap) (f : Key → Heads) (k : Key) → AreLists c f → ChangesRow c c f k (f k).undos (f k).touches
row_start c f k are = record {
  undos_head = (are.heads k).undos;
  touches_head = (are.heads k).touches;
  own = (are.heads k).own;
  others = λ q e. record { heads = are.heads q; same_undos = refl; same_touches = refl; apart = are.apart k q (tied_flip k q ∙ e) };
}

-- a row that has no lists yet
pub row_empty : (c : ChainMap) (f : Key → Heads) (k : Key) → AreLists c f → ChangesRow c c f k None None
row_empty c f k are = record {
  undos_head = tt;
  touches_head = tt;
  own = none_apart None;
  others = λ q e. record {
    heads = are.heads q;
    same_undos = refl;
    same_touches = refl;
    apart = record { undos_undos = none_apart _; undos_touches = none_apart _; touches_undos = none_apart _; touches_touches = none_apart _ };
  };
}

module _ (a b c : ChainMap) (f : Key → Heads) (k : Key) (undos touches : Option ℕ) (row : ChangesRow a b f k undos touches) where
  -- the list of its records changes
  pub undos_change : (to : Option ℕ) → ChangesOneList b c undos to → ChangesRow a c f k to touches
  undos_change to one =
      let own = one.others touches row.touches_head row.own in
      record {
        undos_head = one.stands;
        touches_head = own.head;
        own = own.apart;
        others = λ q e.
            let s = row.others q e in
            let u = one.others (f q).undos s.heads.undos s.apart.undos_undos in
            let t = one.others (f q).touches s.heads.touches s.apart.undos_touches in
            record {
              heads = record { undos = u.head; touches = t.head; own = s.heads.own };
              same_undos = u.list ∙ s.same_undos;
              same_touches = t.list ∙ s.same_touches;
              apart = record { undos_undos = u.apart; undos_touches = t.apart; touches_undos = s.apart.touches_undos; touches_touches = s.apart.touches_touches };
            };
      }

  pub undos_leave_touches : (to : Option ℕ) → ChangesOneList b c undos to → list_at c touches ≡ list_at b touches
  undos_leave_touches to one = (one.others touches row.touches_head row.own).list

  -- the list of its touches changes
  pub touches_change : (to : Option ℕ) → ChangesOneList b c touches to → ChangesRow a c f k undos to
  touches_change to one =
      let own = one.others undos row.undos_head (apart_flip undos touches row.own) in
      record {
        undos_head = own.head;
        touches_head = one.stands;
        own = apart_flip to undos own.apart;
        others = λ q e.
            let s = row.others q e in
            let u = one.others (f q).undos s.heads.undos s.apart.touches_undos in
            let t = one.others (f q).touches s.heads.touches s.apart.touches_touches in
            record {
              heads = record { undos = u.head; touches = t.head; own = s.heads.own };
              same_undos = u.list ∙ s.same_undos;
              same_touches = t.list ∙ s.same_touches;
              apart = record { undos_undos = s.apart.undos_undos; undos_touches = s.apart.undos_touches; touches_undos = u.apart; touches_touches = t.apart };
            };
      }

  pub touches_leave_undos : (to : Option ℕ) → ChangesOneList b c touches to → list_at c undos ≡ list_at b undos
  touches_leave_undos to one = (one.others undos row.undos_head (apart_flip undos touches row.own)).list

-- the changed row is given its new heads, and the lists of all rows are apart again
module _ (a c : ChainMap) (f f' : Key → Heads) (k : Key) (h : Heads) (are : AreLists a f) (row : ChangesRow a c f k h.undos h.touches)
    (law : (q : Key) → f' q ≡ cond (eq_by_cmp key_cmp q k) h (f q)) where
  pub heads_here : f' k ≡ h
  heads_here = law k ∙ ap (λ t. cond t h (f k)) (tied_self k)

  pub heads_else : (q : Key) → eq_by_cmp key_cmp q k ≡ false → f' q ≡ f q
  heads_else q e = law q ∙ ap (λ t. cond t h (f q)) e

  pub row_end : AreLists c f'
  row_end = record { heads = each; apart = pairs }
    where
      each : (q : Key) → AreHeads c (f' q)
      each q = elim (eq_by_cmp key_cmp q k) as (λ t. eq_by_cmp key_cmp q k ≡ t → AreHeads c (f' q)) [
        | true ↦ λ e. subst (AreHeads c) (sym (law q ∙ ap (λ t. cond t h (f q)) e)) (record { undos = row.undos_head; touches = row.touches_head; own = row.own })
        | false ↦ λ e. subst (AreHeads c) (sym (law q ∙ ap (λ t. cond t h (f q)) e)) (row.others q e).heads
      ] refl

      flip : (x y : Heads) → AreOthers x y.undos y.touches → AreOthers y x.undos x.touches
      flip x y o = record {
        undos_undos = apart_flip y.undos x.undos o.undos_undos;
        undos_touches = apart_flip y.touches x.undos o.touches_undos;
        touches_undos = apart_flip y.undos x.touches o.undos_touches;
        touches_touches = apart_flip y.touches x.touches o.touches_touches;
      }

      with_heads : (p q : Key) (x y : Heads) → f' p ≡ x → f' q ≡ y → AreOthers y x.undos x.touches → AreOthers (f' q) (f' p).undos (f' p).touches
      with_heads p q x y e g o = subst (λ (z : Heads). AreOthers (f' q) z.undos z.touches) (sym e) (subst (λ (z : Heads). AreOthers z x.undos x.touches) (sym g) o)

      clash : (p q : Key) → eq_by_cmp key_cmp p q ≡ false → eq_by_cmp key_cmp p k ≡ true → eq_by_cmp key_cmp q k ≡ true → ⊥
      clash p q e s t = go (sym (ap (λ z. eq_by_cmp key_cmp z q) (tied_same p k s)) ∙ e) (tied_flip k q ∙ t)
        where
          go : eq_by_cmp key_cmp k q ≡ false → eq_by_cmp key_cmp k q ≡ true → ⊥
          go x y = cc

      pairs : (p q : Key) → eq_by_cmp key_cmp p q ≡ false → AreOthers (f' q) (f' p).undos (f' p).touches
      pairs p q e =
          elim (eq_by_cmp key_cmp p k) as (λ s. eq_by_cmp key_cmp p k ≡ s → AreOthers (f' q) (f' p).undos (f' p).touches) [
            | true ↦ λ s. elim (eq_by_cmp key_cmp q k) as (λ t. eq_by_cmp key_cmp q k ≡ t → AreOthers (f' q) (f' p).undos (f' p).touches) [
              | true ↦ λ t. absurd (clash p q e s t)
              | false ↦ λ t. with_heads p q h (f q) (law p ∙ ap (λ b. cond b h (f p)) s) (heads_else q t) (row.others q t).apart
            ] refl
            | false ↦ λ s. elim (eq_by_cmp key_cmp q k) as (λ t. eq_by_cmp key_cmp q k ≡ t → AreOthers (f' q) (f' p).undos (f' p).touches) [
              | true ↦ λ t. with_heads p q (f p) h (heads_else p s) (law q ∙ ap (λ b. cond b h (f q)) t) (flip (f p) h (row.others p s).apart)
              | false ↦ λ t. with_heads p q (f p) (f q) (heads_else p s) (heads_else q t) (are.apart p q e)
            ] refl
          ] refl
