-- What calls do to the lists of a row is what they do to its versions.
use Rattle.std.proofs.Common.{◌≡◌, ℕ, suc, ◌+◌, List, [], ◌∷◌, ◌++◌, length, length-append, refl, sym, ◌∙◌, ap, map, arith, Some, None}
use Rattle.std.specs.Prelude.{Bool, true, false, ◌&&◌, ◌||◌, not, cond, Option}
use Rattle.std.specs.List.{list_any, filter}
use Rattle.std.proofs.lemmas.List.Elements.{filter-append}
use Rattle.graph_model.specs.declared.journal.TxnName.{TxnName}
use Rattle.graph_model.specs.Conflict.{same_name}
use Rattle.graph_model.specs.Transactions.{reached}
use Rattle.store_model.specs.Stamped.{Stamped, known, stamp_one, prune_stamped, stamp}
use Rattle.head_map.specs.UndoChain.Records.{UndoRecord, pairs_of, oldest_of, is_settled, has_writer, with_touch, without_touch, open_touches, unsettled_front, lacks_stamp, stamped_by}
use Rattle.head_map.proofs.UndoChain.VersionLemmas.{front_is_pruned, stamp_is_stamp}
use Rattle.row_table.specs.Rows.{new_record, has_record, undone, touched, untouched, records_in, newest_writer}
use Rattle.row_table.specs.Parts.{touches_of, of_lists}

-- ---- a test of the touches

abbrev touch_of : UndoRecord → Stamped
touch_of u = record { by = u.by; stamp = u.stamp; value = None }

or_comm : (s t : Bool) → (s || t) ≡ (t || s)
or_comm true true = refl
or_comm true false = refl
or_comm false true = refl
or_comm false false = refl

any_end : (p : Stamped → Bool) (xs : List Stamped) (x : Stamped) → list_any p (xs ++ x ∷ []) ≡ (list_any p xs || p x)
any_end p [] x = or_comm (p x) false
any_end p (y ∷ ys) x = ap (λ t. p y || t) (any_end p ys x) ∙ regroup (p y) (list_any p ys) (p x)
  where
    regroup : (a b c : Bool) → (a || (b || c)) ≡ ((a || b) || c)
    regroup true b c = refl
    regroup false b c = refl

pub any_touch : (by : TxnName) (us : List UndoRecord) → has_record by (touches_of us) ≡ has_writer by us
any_touch by [] = refl
any_touch by (u ∷ us) = any_end (λ p. same_name p.by by) (touches_of us) (touch_of u) ∙ ap (λ t. t || same_name u.by by) (any_touch by us) ∙ or_comm (has_writer by us) (same_name u.by by)

-- what is kept of the touches
kept_touches : (p : Stamped → Bool) (q : UndoRecord → Bool) → ((u : UndoRecord) → p (touch_of u) ≡ q u) → (us : List UndoRecord) → touches_of (filter q us) ≡ filter p (touches_of us)
kept_touches p q same [] = refl
kept_touches p q same (u ∷ us) =
    go (q u) (kept_touches p q same us)
    ∙ ap (λ t. filter p (touches_of us) ++ cond t (touch_of u ∷ []) []) (sym (same u))
    ∙ sym (filter-append p (touches_of us) (touch_of u ∷ []))
  where
    append_none : (xs : List Stamped) → xs ++ [] ≡ xs
    append_none [] = refl
    append_none (x ∷ xs) = ap (λ ys. x ∷ ys) (append_none xs)

    go : (t : Bool) → touches_of (filter q us) ≡ filter p (touches_of us)
        → touches_of (cond t (u ∷ filter q us) (filter q us)) ≡ filter p (touches_of us) ++ cond t (touch_of u ∷ []) []
    go true rest = ap (λ xs. xs ++ touch_of u ∷ []) rest
    go false rest = rest ∙ sym (append_none (filter p (touches_of us)))

-- ---- the calls

pub touched_lists : (by : TxnName) (value : Option ℕ) (us ts : List UndoRecord) → of_lists value us (with_touch by ts) ≡ touched by (of_lists value us ts)
touched_lists by value us ts =
    ap (λ xs. record { pairs = pairs_of value us; oldest = oldest_of value us; touches = xs })
    (go (has_writer by ts) ∙ ap (λ t. cond t (touches_of ts) (touches_of ts ++ new_record by None ∷ [])) (sym (any_touch by ts)))
  where
    go : (t : Bool) → touches_of (cond t ts (record { by = by; stamp = None; older = None } ∷ ts)) ≡ cond t (touches_of ts) (touches_of ts ++ new_record by None ∷ [])
    go true = refl
    go false = refl

pub untouched_lists : (by : TxnName) (value : Option ℕ) (us ts : List UndoRecord) → of_lists value us (without_touch by ts) ≡ untouched by (of_lists value us ts)
untouched_lists by value us ts =
    ap (λ xs. record { pairs = pairs_of value us; oldest = oldest_of value us; touches = xs })
    (kept_touches (λ p. not (same_name p.by by)) (λ u. not (same_name u.by by)) (λ u. refl) ts)

pub pruned_lists : (stamps : TxnName → Option ℕ) (horizon : ℕ) (value : Option ℕ) (us ts : List UndoRecord)
    → of_lists value (unsettled_front stamps horizon us) (open_touches stamps horizon ts) ≡ prune_stamped stamps horizon (of_lists value us ts)
pruned_lists stamps horizon value us ts = λ i. record {
  pairs = (front_is_pruned stamps horizon value us i).pairs;
  oldest = (front_is_pruned stamps horizon value us i).oldest;
  touches = kept_touches (λ p. not (reached (known stamps p) horizon)) (λ u. not (is_settled stamps horizon u)) (λ u. refl) ts i;
}

pub stamped_lists : (by : TxnName) (at : ℕ) (value : Option ℕ) (us ts : List UndoRecord)
    → of_lists value (map (stamped_by by at) us) (map (stamped_by by at) ts) ≡ stamp by at (of_lists value us ts)
stamped_lists by at value us ts = λ i. record {
  pairs = (stamp_is_stamp by at value us i).pairs;
  oldest = (stamp_is_stamp by at value us i).oldest;
  touches = all ts i;
}
  where
    one : (u : UndoRecord) → touch_of (stamped_by by at u) ≡ stamp_one by at (touch_of u)
    one u = go (same_name u.by by && lacks_stamp u)
      where
        go : (t : Bool) → touch_of (cond t (record { by = u.by; stamp = Some at; older = u.older }) u) ≡ cond t (record { by = u.by; stamp = Some at; value = None }) (touch_of u)
        go true = refl
        go false = refl

    map_end : (f : Stamped → Stamped) (xs : List Stamped) (x : Stamped) → map f (xs ++ x ∷ []) ≡ map f xs ++ f x ∷ []
    map_end f [] x = refl
    map_end f (y ∷ ys) x = ap (λ zs. f y ∷ zs) (map_end f ys x)

    all : (vs : List UndoRecord) → touches_of (map (stamped_by by at) vs) ≡ map (stamp_one by at) (touches_of vs)
    all [] = refl
    all (v ∷ vs) = (λ i. all vs i ++ one v i ∷ []) ∙ sym (map_end (stamp_one by at) (touches_of vs) (touch_of v))

-- ---- how many records

pub records_of_lists : (value : Option ℕ) (us ts : List UndoRecord) → records_in (of_lists value us ts) ≡ length us + length ts
records_of_lists value us ts = λ i. pairs_length value us i + touches_length ts i
  where
    pairs_length : (v : Option ℕ) (xs : List UndoRecord) → length (pairs_of v xs) ≡ length xs
    pairs_length v [] = refl
    pairs_length v (x ∷ xs) = ap suc (pairs_length x.older xs)

    touches_length : (xs : List UndoRecord) → length (touches_of xs) ≡ length xs
    touches_length [] = refl
    touches_length (x ∷ xs) = length-append (touches_of xs) (touch_of x ∷ []) ∙ (let e : length (touches_of xs) ≡ length xs = touches_length xs in omega (arith, e))

-- ---- the newest record

pub undone_list : (value older : Option ℕ) (u : UndoRecord) (us us' ts : List UndoRecord) → us ≡ u ∷ us' → u.older ≡ older
    → of_lists older us' ts ≡ undone (of_lists value us ts)
undone_list value older u us us' ts was is = ap (λ v. of_lists v us' ts) (sym is) ∙ ap (λ xs. undone (of_lists value xs ts)) (sym was)

-- where there is no pair nobody is the newest writer
pub no_writer : (by : TxnName) (ps : List Stamped) → ps ≡ [] → newest_writer ps ≡ Some by → ⊥
no_writer by ps none e = clash (sym (ap newest_writer none) ∙ e)
  where
    clash : ◌≡◌ {A = Option TxnName} None (Some by) → ⊥
    clash f = cc
