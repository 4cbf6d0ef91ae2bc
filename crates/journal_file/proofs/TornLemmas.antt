-- What a crash may leave of a write that was done, or of none.
use Rattle.std.proofs.Common.{◌≡◌, ℕ, ◌+◌, ◌-◌, ◌≤◌, List, [], ◌∷◌, ◌++◌, length, take, drop, replicate, refl, sym, ◌∙◌, ap, arith, append_assoc, length-append, length-drop}
use Rattle.std.specs.Prelude.{min, max}
use Rattle.std.proofs.lemmas.List.{take_at, drop_at, append-nil, length-take-le}
use Rattle.journal_disk.specs.Crashes.{Torn, overwritten, resized}

-- within the file no zeros are needed
pub none_more : (n : ℕ) (bytes : List ℕ) → n ≤ length bytes → resized bytes n ≡ take n bytes
none_more n bytes le =
    let none : n - length bytes ≡ 0 = omega (arith, le) in
    ap (λ m. take n bytes ++ replicate m 0) none ∙ append-nil (take n bytes)

module _ (at : ℕ) (file : List ℕ) (le : at ≤ length file) where
  place : min at (length file) ≡ at
  place = omega (arith, le)

  pub torn_same : (count : ℕ) → Torn at count file file
  torn_same count = record {
    front = ap (λ n. take n file) place;
    back = refl;
    no_shorter = omega arith;
    no_longer = omega arith;
  }

  module _ (bytes : List ℕ) where
    parts : overwritten file at bytes ≡ (take at file ++ bytes) ++ drop (at + length bytes) file
    parts = ap (λ front. (front ++ bytes) ++ drop (at + length bytes) file) (none_more at file le)

    front_len : length (take at file) ≡ at
    front_len = length-take-le at file le

    both_len : length (take at file ++ bytes) ≡ at + length bytes
    both_len = omega (arith, length-append (take at file) bytes, front_len)

    whole_len : length (overwritten file at bytes) ≡ at + length bytes + (length file - (at + length bytes))
    whole_len = ap length parts ∙ omega (arith, length-append (take at file ++ bytes) (drop (at + length bytes) file), length-drop (at + length bytes) file, both_len)

    pub torn_done : Torn at (length bytes) file (overwritten file at bytes)
    torn_done = record {
      front = (λ i. take (place i) (parts i)) ∙ ap (take at) (append_assoc (take at file) bytes (drop (at + length bytes) file))
          ∙ take_at (take at file) (bytes ++ drop (at + length bytes) file) at front_len;
      back = ap (drop (at + length bytes)) parts
          ∙ drop_at (take at file ++ bytes) (drop (at + length bytes) file) (at + length bytes) both_len;
      no_shorter = omega (arith, whole_len);
      no_longer = omega (arith, whole_len, le);
    }
