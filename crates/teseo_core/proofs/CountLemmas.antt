-- How many rows the writes of all passes may have inserted, while one pass goes on.
use Rattle.std.proofs.Common.{◌≡◌, ℕ, zero, suc, ◌+◌, ◌<◌, List, [], ◌∷◌, ◌++◌, length, refl, ap, arith}
use Rattle.std.specs.Prelude.{unwrap_or, slice_get, slice_set}
use Rattle.std.specs.List.{flat_map}
use Rattle.std.proofs.lemmas.List.Sums.{sum_by-append}
use Rattle.graph_model.specs.declared.write.Kind.{Kind}
use Rattle.graph_model.specs.declared.write.Write.{Write}
use Rattle.graph_model.specs.AccountSteps.{last_with}
use Rattle.graph_model.specs.Inserted.{inserted, inserted_by}
use Rattle.graph_model.specs.OwnerCalls.{PassState, no_pass}

inserted-append : (kind : Kind) (xs ys : List Write) → inserted kind (xs ++ ys) ≡ inserted kind xs + inserted kind ys
inserted-append kind xs ys = sum_by-append (inserted_by kind) xs ys

-- the writes of one pass
abbrev pub part : Kind → List (List Write) → ℕ
part kind made = inserted kind (flat_map (λ ws. ws) made)

abbrev pub total : Kind → List PassState → ℕ
total kind passes = inserted kind (flat_map (λ (s : PassState). flat_map (λ ws. ws) s.made) passes)

-- one pass is set
pub total_set : (kind : Kind) (passes : List PassState) (i : ℕ) (state : PassState) → i < length passes
    → total kind (slice_set passes i state) + part kind (unwrap_or (slice_get passes i) no_pass).made ≡ total kind passes + part kind state.made
total_set kind [] i state lt = absurd (omega (arith, lt))
total_set kind (s ∷ passes) zero state lt =
    let rest = flat_map (λ (s : PassState). flat_map (λ ws. ws) s.made) passes in
    let new = inserted-append kind (flat_map (λ ws. ws) state.made) rest in
    let old = inserted-append kind (flat_map (λ ws. ws) s.made) rest in
    omega (arith, new, old)
total_set kind (s ∷ passes) (suc i) state lt =
    let new = inserted-append kind (flat_map (λ ws. ws) s.made) (flat_map (λ (s : PassState). flat_map (λ ws. ws) s.made) (slice_set passes i state)) in
    let old = inserted-append kind (flat_map (λ ws. ws) s.made) (flat_map (λ (s : PassState). flat_map (λ ws. ws) s.made) passes) in
    let rest = total_set kind passes i state (omega (arith, lt)) in
    omega (arith, new, old, rest)

part-append : (kind : Kind) (front back : List (List Write)) → part kind (front ++ back) ≡ part kind front + part kind back
part-append kind [] back = let none : part kind [] ≡ 0 = refl in omega (arith, none)
part-append kind (ws ∷ front) back =
    let new = inserted-append kind ws (flat_map (λ ws. ws) (front ++ back)) in
    let old = inserted-append kind ws (flat_map (λ ws. ws) front) in
    let rest = part-append kind front back in
    omega (arith, new, old, rest)

-- a begin inserts nothing
pub part_begun : (kind : Kind) (made : List (List Write)) → part kind (made ++ [] ∷ []) ≡ part kind made
part_begun kind made = let more = part-append kind made ([] ∷ []) in let none : part kind ([] ∷ []) ≡ 0 = refl in omega (arith, more, none)

-- a write inserts what it may
pub part_written : (kind : Kind) (made : List (List Write)) (w : Write) → 0 < length made → part kind (last_with made w) ≡ part kind made + inserted_by kind w
part_written kind [] w some = absurd (omega (arith, some))
part_written kind (ws ∷ []) w some =
    let one = inserted-append kind ws (w ∷ []) in
    let new = inserted-append kind (ws ++ w ∷ []) [] in
    let old = inserted-append kind ws [] in
    let only : inserted kind (w ∷ []) ≡ 0 + inserted_by kind w = refl in
    let none : inserted kind [] ≡ 0 = refl in
    omega (arith, one, new, old, only, none)
part_written kind (ws ∷ vs ∷ rest) w some =
    let new = inserted-append kind ws (flat_map (λ ws. ws) (last_with (vs ∷ rest) w)) in
    let old = inserted-append kind ws (flat_map (λ ws. ws) (vs ∷ rest)) in
    let more = part_written kind (vs ∷ rest) w (omega arith) in
    omega (arith, new, old, more)

-- and leaves as many transactions
pub written_length : (made : List (List Write)) (w : Write) → length (last_with made w) ≡ length made
written_length [] w = refl
written_length (ws ∷ []) w = refl
written_length (ws ∷ vs ∷ rest) w = ap suc (written_length (vs ∷ rest) w)
