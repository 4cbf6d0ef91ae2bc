-- A leaf is noted with the index in hand.
use Rattle.std.proofs.Common.{◌≡◌, ℕ, ◌/◌, ◌<◌, List, [], ◌∷◌, ◌++◌, refl, sym, ◌∙◌, ap, cond, arith, Some, None}
use Rattle.std.specs.Prelude.{Bool, true, false, ◌==◌, ◌||◌, count_by}
use Rattle.std.specs.List.{list_any}
use Rattle.std.specs.declared.alloc.Global.{Global}
use Rattle.graph_model.specs.declared.row.Key.{Key}
use Rattle.graph_model.proofs.TestLemmas.{self_eq}
use Rattle.txn_manager.specs.declared.config.Config.{Config}
use Rattle.leaf_index.specs.Index.{Entry, Index, IsIndex, IsRoute}
use Rattle.leaf_index.specs.declared.route.Route.{Route}
use Rattle.leaf_index.proofs.CountLemmas.{count_append, count_cons, existing}
use Rattle.seat_views.specs.Keeping.{kept_at}
use Rattle.pass_steps.specs.CellsModel.Indexed.{is_live}
use Rattle.pass_steps.specs.RuleModel.Places.{Layout}
use Rattle.pass_steps.specs.RuleModel.Sight.{HasIndex, HasPin, IndexState, PinState, cells_of, with_index, with_pin}
use Rattle.pass_steps.specs.RuleModel.Steps.{AllowsLoad}
use Rattle.pass_steps.proofs.RuleModel.FrameLemmas.{M, index_is}
use Rattle.pass_steps.proofs.RuleModel.PinStepLemmas.{leaf_is_noted}
use Rattle.pass_steps.specs.StoreRule.Passes.{OnlyAccount}
use Rattle.pass_steps.specs.StoreRuleDeclared.store.Pass.{Pass}
use Rattle.pass_steps.specs.StoreRuleDeclared.store.Store.{Store}
use Rattle.pass_steps.specs.Passes.{IsOpenPass, pin_in, pin_of}
use Rattle.pass_steps.proofs.SightLemmas.{kept_here}
use Rattle.optimistic_read.specs.Routes.{MayNote, noting}

-- ---- the step

-- NOTE: the load of the clock also tells how many leaves the index has
pub notes_leaf : (z : Config) (at : Layout) (heap : Global) (slots id : ℕ) (me : M) (p l : ℕ) (x : PinState)
    (y : IndexState) → HasPin me.0 p x → HasIndex me.0 y → y.sweeper ≡ None → is_live y.index l ≡ true
    → x.announced ≡ false
    → AllowsLoad z at heap slots id me at.clock (λ _. with_pin me.0 p (noting x l))
    (λ _. (u : IndexState) → HasIndex me.0 u → u.index.leaves ≡ z.leaves)
notes_leaf z at heap slots id me p l x y has_x has_y alone live pinned s r homes here small =
    let h = leaf_is_noted z at heap slots id me p l x y has_x has_y alone live pinned s r homes here small in (
      h.0,
      h.1,
      h.2,
      h.3,
      (
        h.4.0,
        λ u has. ap (λ (v : IndexState). v.index.leaves) (sym (index_is r id me here u has)) ∙ r.stored.leaves,
      ),
    )

-- ---- the leaf

-- the leaf of a route is live
any_append : (test : Entry → Bool) (front back : List Entry) (e : Entry) → test e ≡ true
    → list_any test (front ++ e ∷ back) ≡ true
any_append test [] back e here = ap (λ b. b || list_any test back) here
any_append test (f ∷ fs) back e here = or_true (test f) _ (any_append test fs back e here)
  where
    or_true : (a b : Bool) → b ≡ true → (a || b) ≡ true
    or_true true b h = refl
    or_true false b h = h

-- it exists, and the cell is one of its eight
module _ (key : Key) (index : Index) (route : Route) (sound : IsIndex index) (is : IsRoute key index.entries route) where
  leaf_is : route.cell / 8 ≡ is.entry.leaf
  leaf_is = let cell = is.cell in let within = is.last.within in omega (arith, cell, within)

  pub leaf_live : is_live index (route.cell / 8) ≡ true
  leaf_live =
      ap (λ es. list_any (λ (e : Entry). e.leaf == route.cell / 8) es) is.floor.is
      ∙ any_append (λ e. e.leaf == route.cell / 8) is.floor.front is.floor.back is.entry
      (ap (λ n. is.entry.leaf == n) leaf_is ∙ self_eq is.entry.leaf)

  leaf_inside : is.entry.leaf < index.leaves
  leaf_inside =
      let e = is.entry in
      let front = is.floor.front in
      let back = is.floor.back in
      let test : Entry → Bool = (λ (x : Entry). x.leaf == e.leaf) in
      let here : test e ≡ true = self_eq e.leaf in
      let all = ap (count_by test) is.floor.is ∙ count_append test front (e ∷ back) in
      let one = count_cons test e back in
      let worth : cond (test e) 1 0 ≡ 1 = ap {B = ℕ} (λ b. cond b 1 0) here in
      let once = sound.once e.leaf in
      existing e.leaf index.leaves (omega (arith, all, one, worth, once))

  pub cell_inside : (z : Config) → index.leaves ≡ z.leaves → route.cell < cells_of z
  cell_inside z leaves =
      let cell = is.cell in
      let within = is.last.within in
      let inside = leaf_inside in
      omega (arith, cell, within, inside, leaves)

-- ---- the pass

-- it has taken the index in
module _ (store : Store) (p0 p1 p2 : Pass) (y : IndexState) (leaf : ℕ) (opened : IsOpenPass store p0)
    (taken : p1.account ≡ p0.account) (number : p1.number ≡ p0.number)
    (gathered : OnlyAccount p1 p2 (with_index p1.account.me.0 y)) where
  view_before : p2.account.me.0 ≡ with_index p0.account.me.0 y
  view_before = (λ i. (gathered.account.me i).0) ∙ (λ i. with_index (taken i).me.0 y)

  number_before : p2.number ≡ p0.number
  number_before = gathered.number ∙ number

  pin_before : pin_of p2 ≡ pin_of p0
  pin_before i = pin_in (view_before i) (number_before i)

  pub index_before : HasIndex p2.account.me.0 y
  index_before = (λ i. kept_at (view_before i).indexes 0) ∙ kept_here p0.account.me.0.indexes 0 y

  pub may_note : y.sweeper ≡ None → is_live y.index leaf ≡ true → MayNote store p2 leaf
  may_note alone live = record {
    table = gathered.account.table ∙ (λ i. (taken i).table_id) ∙ opened.of.table;
    pin = (λ i. kept_at (view_before i).pins (number_before i)) ∙ opened.of.sight.pin
        ∙ (λ i. Some (sym pin_before i));
    pinned = (λ i. (pin_before i).announced) ∙ opened.opened.pinned;
    index = y;
    has = index_before;
    alone = alone;
    live = live;
  }
