-- A head that is read by itself, before the writes behind it.
use Rattle.std.proofs.Common.{◌≡◌, ℕ, suc, ◌+◌, ◌-◌, ◌*◌, ◌<◌, ◌≤◌, List, [], ◌∷◌, length, take, drop, get_or, refl, sym, ◌∙◌, ap, arith, length-drop, ◌/◌}
use Rattle.std.specs.Prelude.{Bool, true, false, ◌==◌, ◌&&◌, cond, nat_le, Option, Some, None, option_map}
use Rattle.std.specs.Int.{w32, w64, from_le_bytes}
use Rattle.std.specs.Str.{bytes_eq}
use Rattle.std.proofs.lemmas.Bool.Decides.{nat_tests}
use Rattle.std.proofs.lemmas.List.{drop-drop, take_all}
use Rattle.std.proofs.lemmas.Nat.{div-add-mod'}
use Rattle.std.proofs.lemmas.Slice.Eq.{bytes_eq-Decides}
use Rattle.graph_model.specs.declared.write.Write.{Write}
use Rattle.graph_model.specs.declared.journal.Commit.{Commit}
use Rattle.journal_file.specs.declared.reading.CommitHead.{CommitHead}
use Rattle.journal_file.specs.Reading.{head_of, is_next, with_writes, writes_of, commit_of, gated}
use Rattle.journal_file.specs.Recovering.{open_head, gated_head}
use Rattle.journal_file.proofs.ReadLemmas.{inside, writes_within}

-- the head of a front of 32 bytes
head_within : (bytes : List ℕ) → head_of (take 32 bytes) ≡ head_of bytes
head_within bytes = λ i. record {
  stamp = from_le_bytes w64 (inside 0 8 32 bytes (omega arith) i);
  start = from_le_bytes w64 (inside 8 8 32 bytes (omega arith) i);
  job = from_le_bytes w32 (inside 16 4 32 bytes (omega arith) i);
  number = from_le_bytes w32 (inside 20 4 32 bytes (omega arith) i);
  count = from_le_bytes w64 (inside 24 8 32 bytes (omega arith) i);
}

-- a head with the writes behind it
abbrev pub then_writes : Option CommitHead → List ℕ → Option Commit
then_writes None bytes = None
then_writes (Some head) bytes = option_map (with_writes head) (writes_of head.count bytes)

tests : (X : Option Commit) (head : CommitHead) (bytes : List ℕ) → X ≡ then_writes (Some head) bytes → (long gate next whole fits : Bool) → (long ≡ true → fits ≡ whole)
    → cond gate (cond (long && (next && whole)) X None) None ≡ then_writes (cond long (cond (gate && (next && fits)) (Some head) None) None) bytes
tests X head bytes is false true next whole fits same = refl
tests X head bytes is false false next whole fits same = refl
tests X head bytes is true false next whole fits same = refl
tests X head bytes is true true false whole fits same = refl
tests X head bytes is true true true whole fits same =
    by whole ∙ ap (λ b. then_writes (cond b (Some head) None) bytes) (sym (same refl))
  where
    by : (b : Bool) → cond b X None ≡ then_writes (cond b (Some head) None) bytes
    by true = is
    by false = refl

-- what is behind a gate, by its head first
pub gated_parts : (stamp : ℕ) (bytes : List ℕ) → gated stamp bytes ≡ then_writes (gated_head stamp bytes) (drop 33 bytes)
gated_parts stamp [] = refl
gated_parts stamp (gate ∷ rest) =
    tests (option_map (with_writes (head_of rest)) (writes_of (head_of rest).count (drop 32 rest))) (head_of rest) (drop 32 rest) refl
    (nat_le 32 (length rest)) (gate == 1) (is_next stamp (head_of rest)) (nat_le (32 + 25 * (head_of rest).count) (length rest))
    (nat_le (25 * (head_of rest).count) (suc (length rest) - 33)) (fits (head_of rest).count (length rest))
    ∙ (λ i. then_writes (cond (long (length rest) i)
    (cond ((gate == 1) && (is_next stamp (same i) && nat_le (25 * (same i).count) (suc (length rest) - 33))) (Some (same i)) None) None) (drop 32 rest))
  where
    same : head_of rest ≡ head_of (take 32 rest)
    same = sym (head_within rest)

    long : (n : ℕ) → nat_le 32 n ≡ nat_le 33 (suc n)
    long n = grind (arith, nat_tests)

    fits : (count n : ℕ) → nat_le 32 n ≡ true → nat_le (25 * count) (suc n - 33) ≡ nat_le (32 + 25 * count) n
    fits count n le = grind (arith, nat_tests)

-- ---- a header

not_same : (xs ys : List ℕ) → (length xs ≡ length ys → ⊥) → bytes_eq xs ys ≡ false
not_same xs ys other =
    elim (bytes_eq xs ys) as (λ t. bytes_eq xs ys ≡ t → t ≡ false) [
      | true ↦ λ e. absurd (other (ap length ((bytes_eq-Decides xs ys).0 e)))
      | false ↦ λ e. refl
    ] refl

-- ---- a head, by its front

-- no head, no commit
pub none_by_head : (stamp : ℕ) (bytes : List ℕ) → None ≡ gated_head stamp bytes → None ≡ gated stamp bytes
none_by_head stamp bytes none = sym (gated_parts stamp bytes ∙ ap (λ found. then_writes found (drop 33 bytes)) (sym none))

-- a head with the writes that stand behind it
pub by_head : (stamp at : ℕ) (file body : List ℕ) (head : CommitHead) (writes : Option (List Write)) → Some head ≡ gated_head stamp (drop at file)
    → body ≡ take (25 * head.count) (drop (at + 33) file) → writes ≡ writes_of head.count body
    → option_map (with_writes head) writes ≡ gated stamp (drop at file)
by_head stamp at file body head writes is body_is writes_are =
    ap (option_map (with_writes head))
    (writes_are ∙ ap (writes_of head.count) body_is ∙ writes_within head.count (25 * head.count) (drop (at + 33) file) (omega arith)
    ∙ ap (writes_of head.count) (sym (drop-drop 33 at file)))
    ∙ ap (λ found. then_writes found (drop 33 (drop at file))) is
    ∙ sym (gated_parts stamp (drop at file))

-- ---- a head that was read

module _ (front : List ℕ) (behind stamp : ℕ) (len : length front ≡ 33) (head : CommitHead) (is : head ≡ head_of (take (length front - 1) (drop 1 front))) where
  head_is : head_of (drop 1 front) ≡ head
  head_is = ap head_of (sym (take_all (length front - 1) (drop 1 front) (omega (arith, len, length-drop 1 front)))) ∙ sym is

  pub open_by : (gate next fits : Bool) → gate ≡ (get_or front 0 0 == 1) → next ≡ is_next stamp head → nat_le (25 * head.count) behind ≡ fits
      → cond (gate && (next && fits)) (Some head) None ≡ open_head front behind stamp
  open_by gate next fits g n f =
      (λ i. cond (g i && (n i && sym f i)) (Some head) None)
      ∙ (λ i. cond ((get_or front 0 0 == 1) && (is_next stamp (sym head_is i) && nat_le (25 * (sym head_is i).count) behind)) (Some (sym head_is i)) None)

pub few_fit : (count behind : ℕ) → count ≤ behind / 25 → 25 * count ≤ behind
few_fit count behind few = omega (arith, few, div-add-mod' behind 25)

pub they_fit : (count behind : ℕ) → 25 * count ≤ behind → nat_le (25 * count) behind ≡ true
they_fit count behind le = grind (arith, nat_tests)

pub too_many : (count behind : ℕ) → behind / 25 < count → nat_le (25 * count) behind ≡ false
too_many count behind many = let lt : behind < 25 * count = omega (arith, many, div-add-mod' behind 25) in grind (arith, nat_tests)
