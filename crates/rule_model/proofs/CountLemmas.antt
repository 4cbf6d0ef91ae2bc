-- The count of inserted rows over all passes, where one of them has changed.
use Rattle.std.proofs.Common.{append-nil, zero, suc, ◌≡◌, ℕ, ◌+◌, ◌<◌, ◌≤◌, List, [], ◌∷◌, ◌++◌, sym, ◌∙◌, ap, subst, arith}
use Rattle.std.specs.Prelude.{true, cond, map}
use Rattle.std.specs.List.{flat_map}
use Rattle.std.proofs.lemmas.List.Concat.{flat_map-append}
use Rattle.std.proofs.lemmas.List.Sums.{sum_by-append}
use mathlib.Core.Logic.{dite}
use native.Mathlib.Decide.{ℕ_discrete}
use Rattle.graph_model.specs.declared.write.Kind.{Kind}
use Rattle.graph_model.specs.declared.write.Write.{Write}
use Rattle.graph_model.specs.Inserted.{inserted, inserted_by}
use Rattle.txn_manager.specs.declared.config.Config.{Config}
use Rattle.seat_views.specs.Keeping.{put}
use Rattle.seat_views.proofs.NumberLemmas.{put_here, all_put}
use Rattle.store_relation.specs.Passes.{PassState, ended_writes, is_active, made_of}
use Rattle.store_relation.specs.Shared.{sum_below, inserted_by_all, inserted_by_pass}
use Rattle.store_relation.proofs.ListLemmas.{sum_le}

-- a sum is no less than one of its parts
pub sum_has : (f : ℕ → ℕ) (n p : ℕ) → p < n → f p ≤ sum_below f n
sum_has f zero p less = absurd (omega arith)
sum_has f (suc n) p less = dite (ℕ_discrete p n)
    (λ same. let e : f p ≡ f n = ap f same in omega (arith, e))
    (λ other. let part = sum_has f n p (omega (arith, less, other)) in omega (arith, part))

-- a longer list of transactions inserts no fewer rows
pub inserted_front : (kind : Kind) (xs ys : List (List Write))
    → inserted kind (flat_map (λ us. us) xs) ≤ inserted kind (flat_map (λ us. us) (xs ++ ys))
inserted_front kind xs ys =
    let a : inserted kind (flat_map (λ us. us) (xs ++ ys)) ≡ inserted kind
    (flat_map (λ us. us) xs) + inserted kind (flat_map (λ us. us) ys)
    = ap (inserted kind) (flat_map-append (λ us. us) xs ys)
    ∙ sum_by-append (inserted_by kind) (flat_map (λ us. us) xs) (flat_map (λ us. us) ys) in
    omega (arith, a)

-- where one pass has inserted no fewer, so have all
pub count_grows : (z : Config) (pass : ℕ → PassState) (p : ℕ) (st : PassState)
    → inserted_by_pass z.kind (pass p) ≤ inserted_by_pass z.kind st
    → inserted_by_all z pass ≤ inserted_by_all z (put pass p st)
count_grows z pass p st more = sum_le (λ q. inserted_by_pass z.kind (pass q))
    (λ q. inserted_by_pass z.kind (put pass p st q)) z.passes
    (all_put (λ q u. inserted_by_pass z.kind (pass q) ≤ inserted_by_pass z.kind u) pass p st more
    (λ q other. omega arith))

-- and where it has inserted so many more, so have all
sum_more : (f g : ℕ → ℕ) (p d n : ℕ) → p < n → ((q : ℕ) → f q ≤ g q) → f p + d ≤ g p
    → sum_below f n + d ≤ sum_below g n
sum_more f g p d zero lt le more = absurd (omega (arith, lt))
sum_more f g p d (suc n) lt le more = dite (ℕ_discrete p n)
    (λ same. let a = sum_le f g n le in let b : f n + d ≤ g n = subst (λ q. f q + d ≤ g q) same more in
    omega (arith, a, b))
    (λ other. let a = sum_more f g p d n (omega (arith, lt, other)) le more in let b = le n in
    omega (arith, a, b))

pub count_adds : (z : Config) (pass : ℕ → PassState) (p d : ℕ) (st : PassState) → p < z.passes
    → inserted_by_pass z.kind (pass p) + d ≤ inserted_by_pass z.kind st
    → inserted_by_all z pass + d ≤ inserted_by_all z (put pass p st)
count_adds z pass p d st inside more = sum_more (λ q. inserted_by_pass z.kind (pass q))
    (λ q. inserted_by_pass z.kind (put pass p st q)) p d z.passes inside
    (all_put (λ q u. inserted_by_pass z.kind (pass q) ≤ inserted_by_pass z.kind u) pass p st
    (omega (arith, more)) (λ q other. omega arith))
    (subst (λ u. inserted_by_pass z.kind (pass p) + d ≤ inserted_by_pass z.kind u)
    (sym (put_here pass p st)) more)

-- one more write of an open transaction
made_one : (kind : Kind) (xs : List (List Write)) (ws : List Write) (w : Write)
    → inserted kind (flat_map (λ us. us) (xs ++ ws ∷ [])) + inserted_by kind w ≤ inserted kind
    (flat_map (λ us. us) (xs ++ (ws ++ w ∷ []) ∷ []))
made_one kind xs ws w =
    let f : List Write → ℕ = inserted kind in
    let flat : (us : List Write) → f (flat_map (λ us. us) (xs ++ us ∷ [])) ≡ f (flat_map (λ us. us) xs) + f us
    = (λ us. ap f (flat_map-append (λ vs. vs) xs (us ∷ [])
    ∙ ap (λ vs. flat_map (λ us. us) xs ++ vs) (append-nil us))
    ∙ sum_by-append (inserted_by kind) (flat_map (λ us. us) xs) us) in
    let a = flat ws in
    let b = flat (ws ++ w ∷ []) in
    let c : f (ws ++ w ∷ []) ≡ f ws + f (w ∷ []) = sum_by-append (inserted_by kind) ws (w ∷ []) in
    omega (arith, a, b, c)

pub write_counts : (kind : Kind) (st st' : PassState) (w : Write) → is_active st.stage ≡ true
    → is_active st'.stage ≡ true → st'.past ≡ st.past
    → st'.own ≡ st.own ++ w ∷ [] → inserted_by_pass kind st + inserted_by kind w ≤ inserted_by_pass kind st'
write_counts kind st st' w on on' past own =
    let before : made_of st ≡ ended_writes st ++ st.own ∷ [] =
    ap (λ b. cond b (ended_writes st ++ st.own ∷ []) (ended_writes st)) on in
    let after : made_of st' ≡ ended_writes st ++ (st.own ++ w ∷ []) ∷ []
    = ap (λ b. cond b (ended_writes st' ++ st'.own ∷ []) (ended_writes st')) on'
    ∙ (λ i. map (λ t. t.writes) (past i) ++ own i ∷ []) in
    let one = made_one kind (ended_writes st) st.own w in
    let x : inserted_by_pass kind st ≡ inserted kind (flat_map (λ us. us) (ended_writes st ++ st.own ∷ [])) =
    ap (λ m. inserted kind (flat_map (λ us. us) m)) before in
    let y : inserted_by_pass kind st' ≡ inserted kind
    (flat_map (λ us. us) (ended_writes st ++ (st.own ++ w ∷ []) ∷ [])) =
    ap (λ m. inserted kind (flat_map (λ us. us) m)) after in
    omega (arith, one, x, y)

-- transactions of which no fewer were made
pub made_counts : (kind : Kind) (st st' : PassState) (more : List (List Write))
    → made_of st' ≡ made_of st ++ more → inserted_by_pass kind st ≤ inserted_by_pass kind st'
made_counts kind st st' more made = subst
    (λ m. inserted_by_pass kind st ≤ inserted kind (flat_map (λ us. us) m)) (sym made)
    (inserted_front kind (made_of st) more)
