-- What the latest transactions have, after a step of one pass.
use Rattle.std.proofs.Common.{◌≡◌, ℕ, List, [], ◌∷◌, ◌++◌, length, drop, refl, sym, ◌∙◌, ap, subst, cond}
use Rattle.std.specs.Prelude.{Bool, true, false, ◌==◌, ◌&&◌, ◌||◌, not, None}
use Rattle.std.proofs.Math.Bool.{and-true}
use Rattle.std.proofs.Math.Seq.{append_snoc}
use Rattle.graph_model.specs.declared.write.Kind.{Kind}
use Rattle.graph_model.specs.declared.write.Write.{Write}
use Rattle.graph_model.specs.declared.row.Key.{Key}
use Rattle.graph_model.specs.declared.journal.TxnName.{TxnName}
use Rattle.graph_model.specs.declared.journal.Commit.{Commit}
use Rattle.graph_model.specs.Conflict.{same_name}
use Rattle.graph_model.specs.Effects.{touches_at, any_touches}
use Rattle.graph_model.specs.Passes.{of_latest, revised}
use Rattle.graph_model.proofs.TestLemmas.{name_eq}
use Rattle.graph_model.proofs.PassLemmas.{latest_here, put_same, put_next}
use Rattle.store_model.specs.declared.versions.Versions.{Versions}
use Rattle.store_model.specs.Store.{IsStore}
use Rattle.store_model.proofs.StoreLemmas.{store_same}
use Rattle.store_relation.specs.Passes.{PassState, laid_of, name_at, name_of, number_of, running_of, running_part, stands, touching_by}

module _ {X : Type 0} (part : PassState → X) (none : X) (pass : ℕ → PassState) (p : ℕ) (st' : PassState) where
  -- the latest goes on with the same part
  pub put_stays : number_of st' ≡ number_of (pass p) → part st' ≡ part (pass p) → (q : TxnName)
      → of_latest number_of part none (revised pass p st') q ≡ of_latest number_of part none pass q
  put_stays same is q = put_same number_of part none pass p st' same q
      ∙ elim (same_name q (name_of pass p)) as
      (λ s. same_name q (name_of pass p) ≡ s
      → cond s (part st') (of_latest number_of part none pass q) ≡ of_latest number_of part none pass q) [
        | true ↦ λ e. is ∙ sym (ap (of_latest number_of part none pass) (name_eq q (name_of pass p) e)
            ∙ latest_here number_of part none pass p)
        | false ↦ λ e. refl
      ] refl

  -- the next begins, and both have nothing of the part
  pub put_nothing : part (pass p) ≡ none → part st' ≡ none → (q : TxnName)
      → of_latest number_of part none (revised pass p st') q ≡ of_latest number_of part none pass q
  put_nothing was is q = put_next number_of part none pass p st' was q
      ∙ elim (same_name q (name_at p st')) as
      (λ s. same_name q (name_at p st') ≡ s
      → cond s (part st') (of_latest number_of part none pass q) ≡ of_latest number_of part none pass q) [
        | true ↦ λ e. is ∙ sym (ap (of_latest number_of part none pass) (name_eq q (name_at p st') e)
            ∙ empty (number_of st' == number_of (pass p)))
        | false ↦ λ e. refl
      ] refl
    where
      empty : (t : Bool) → cond t (part (pass p)) none ≡ none
      empty true = was
      empty false = refl

-- ---- touches that stand

drop_all : (ws : List Write) → drop (length ws) ws ≡ []
drop_all [] = refl
drop_all (w ∷ ws) = drop_all ws

drop_front : (xs ys : List Write) → drop (length xs) (xs ++ ys) ≡ ys
drop_front [] ys = refl
drop_front (x ∷ xs) ys = drop_front xs ys

-- where all is laid all touches stand, and where nothing is none does
pub stands_whole : (laid own : List Write) (k : Key) → laid ≡ own → stands laid own k ≡ any_touches own k
stands_whole laid own k e = ap (λ ws. any_touches own k && not (any_touches (drop (length ws) own) k)) e
    ∙ ap (λ ws. any_touches own k && not (any_touches ws k)) (drop_all own) ∙ and-true (any_touches own k)

pub stands_none : (laid own : List Write) (k : Key) → laid ≡ [] → stands laid own k ≡ false
stands_none laid own k e = ap (λ ws. any_touches own k && not (any_touches (drop (length ws) own) k)) e
    ∙ against (any_touches own k)
  where
    against : (s : Bool) → (s && not s) ≡ false
    against true = refl
    against false = refl

-- a touch that stands is of one of the writes
pub stands_own : (laid own : List Write) (k : Key) → stands laid own k ≡ true → any_touches own k ≡ true
stands_own laid own k h = first (any_touches own k) (not (any_touches (drop (length laid) own) k)) h
  where
    first : (s t : Bool) → (s && t) ≡ true → s ≡ true
    first true t e = refl
    first false t e = cc

-- after an undo its touches don't
pub stands_less : (front : List Write) (w : Write) (rest own : List Write) (k : Key)
    → (front ++ w ∷ []) ++ rest ≡ own
    → stands front own k ≡ cond (touches_at w k) false (stands (front ++ w ∷ []) own k)
stands_less front w rest own k e =
    let whole : own ≡ front ++ w ∷ rest = sym e ∙ append_snoc front w rest in
    let after : drop (length front) own ≡ w ∷ rest = ap (drop (length front)) whole
    ∙ drop_front front (w ∷ rest) in
    let before : drop (length (front ++ w ∷ [])) own ≡ rest = ap (drop (length (front ++ w ∷ []))) (sym e)
    ∙ drop_front (front ++ w ∷ []) rest in
    ap (λ ws. any_touches own k && not (any_touches ws k)) after
    ∙ split (any_touches own k) (touches_at w k) (any_touches rest k)
    ∙ ap (λ ws. cond (touches_at w k) false (any_touches own k && not (any_touches ws k))) (sym before)
  where
    split : (x t m : Bool) → (x && not (t || m)) ≡ cond t false (x && not m)
    split true true m = refl
    split true false m = refl
    split false true m = refl
    split false false m = refl

-- ---- the store relation, where nothing that it speaks of changes

pub store_stays : (kind : Kind) (journal : List Commit) (pass : ℕ → PassState) (horizon : ℕ)
    (contents contents' : Key → Versions)
    → IsStore kind journal (running_of pass) (laid_of pass) (touching_by pass) horizon contents
    → (p : ℕ) (st' : PassState)
    → number_of st' ≡ number_of (pass p) → running_part st' ≡ running_part (pass p) → st'.laid ≡ (pass p).laid
    → ((k : Key) → stands st'.laid st'.own k ≡ stands (pass p).laid (pass p).own k)
    → ((k : Key) → contents' k ≡ contents k)
    → IsStore kind journal (running_of (revised pass p st')) (laid_of (revised pass p st'))
    (touching_by (revised pass p st')) horizon contents'
store_stays kind journal pass horizon contents contents' is p st' same same_run same_laid same_touch same_rows =
    let pass' : ℕ → PassState = revised pass p st' in
    let runs : running_of pass ≡ running_of pass' =
    (λ i q. sym (put_stays running_part None pass p st' same same_run q) i) in
    subst (λ f. IsStore kind journal f (laid_of pass') (touching_by pass') horizon contents') runs
    (store_same kind journal (running_of pass) (laid_of pass) (touching_by pass) horizon contents is
    (laid_of pass') (touching_by pass') contents'
    (put_stays (λ st. st.laid) [] pass p st' same same_laid)
    (λ q k. put_stays (λ st. stands st.laid st.own k) false pass p st' same (same_touch k) q)
    same_rows)
