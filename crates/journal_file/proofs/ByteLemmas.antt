-- What was written as bytes is read back.
use Rattle.std.proofs.Common.{◌≡◌, ℕ, zero, suc, ◌+◌, ◌*◌, ◌^◌, ◌<◌, ◌≤◌, List, [], ◌∷◌, ◌++◌, length, take, drop, refl, sym, ◌∙◌, ap, ap₂, subst, arith, append_assoc, length-append}
use Rattle.std.specs.Prelude.{Bool, true, false, ◌==◌, ◌&&◌, not, cond, nat_le, nat_lt, Option, Some, None, option_map}
use Rattle.std.specs.List.{AllByRecursion, flat_map}
use Rattle.std.proofs.lemmas.Bool.Decides.{nat_tests}
use Rattle.std.proofs.lemmas.Nat.{from_le_bytes-to_le_bytes_4, from_le_bytes-to_le_bytes_8}
use Rattle.std.proofs.lemmas.List.{take_at, drop_at}
use Rattle.graph_model.specs.declared.limits.TheConstants.{MAX_ID, MAX_WEIGHT}
use Rattle.graph_model.specs.declared.write.Write.{Write}
use Rattle.graph_model.specs.declared.write.Write.TheVariants.{AddVertex, DropVertex, AddEdge, SetEdge, DropEdge}
use Rattle.graph_model.specs.declared.journal.Commit.{Commit}
use Rattle.graph_model.specs.Refused.{IsWithinLimits}
use Rattle.journal_file.specs.Format.{word, half, tagged, write_bytes, head_bytes, body, entry, entry_len, IsEntry}
use Rattle.journal_file.specs.declared.reading.CommitHead.{CommitHead}
use Rattle.journal_file.specs.Reading.{on_vertex, on_edge, on_ends, of_tag, write_of, put_first, writes_of, head_of, is_next, with_writes, is_whole, commit_of, gated}

-- ---- writes

tagged_back : (tag u v weight : ℕ) (rest : List ℕ) → u < 2 ^ 64 → v < 2 ^ 64 → weight < 2 ^ 64
    → write_of (take 25 (tagged tag u v weight ++ rest)) ≡ of_tag tag u v weight
tagged_back tag u v weight rest u_fits v_fits weight_fits =
    λ i. of_tag tag (from_le_bytes-to_le_bytes_8 u u_fits i) (from_le_bytes-to_le_bytes_8 v v_fits i) (from_le_bytes-to_le_bytes_8 weight weight_fits i)

vertex_kept : (w : Write) (u : ℕ) → u ≤ MAX_ID → on_vertex w u 0 0 ≡ Some w
vertex_kept w u le = grind (arith, nat_tests)

edge_kept : (w : Write) (u v weight : ℕ) → u ≤ MAX_ID → v ≤ MAX_ID → weight ≤ MAX_WEIGHT → on_edge w u v weight ≡ Some w
edge_kept w u v weight u_le v_le weight_le = grind (arith, nat_tests)

ends_kept : (w : Write) (u v : ℕ) → u ≤ MAX_ID → v ≤ MAX_ID → on_ends w u v 0 ≡ Some w
ends_kept w u v u_le v_le = grind (arith, nat_tests)

fits : (n : ℕ) → n ≤ MAX_ID → n < 2 ^ 64
fits n le = omega (arith, le)

weight_fits : (n : ℕ) → n ≤ MAX_WEIGHT → n < 2 ^ 64
weight_fits n le = omega (arith, le)

zero_fits : 0 < 2 ^ 64
zero_fits = omega arith

pub write_back : (w : Write) (rest : List ℕ) → IsWithinLimits w → write_of (take 25 (write_bytes w ++ rest)) ≡ Some w
write_back (AddVertex v) rest le = tagged_back 0 v 0 0 rest (fits v le) zero_fits zero_fits ∙ vertex_kept (AddVertex v) v le
write_back (AddEdge u v weight) rest le =
    tagged_back 1 u v weight rest (fits u le.0) (fits v le.1) (weight_fits weight le.2) ∙ edge_kept (AddEdge u v weight) u v weight le.0 le.1 le.2
write_back (SetEdge u v weight) rest le =
    tagged_back 2 u v weight rest (fits u le.0) (fits v le.1) (weight_fits weight le.2) ∙ edge_kept (SetEdge u v weight) u v weight le.0 le.1 le.2
write_back (DropEdge u v) rest le =
    tagged_back 3 u v 0 rest (fits u le.0) (fits v le.1) zero_fits ∙ ends_kept (DropEdge u v) u v le.0 le.1
write_back (DropVertex v) rest le = tagged_back 4 v 0 0 rest (fits v le) zero_fits zero_fits ∙ vertex_kept (DropVertex v) v le

pub length-write : (w : Write) → length (write_bytes w) ≡ 25
length-write (AddVertex v) = refl
length-write (AddEdge u v weight) = refl
length-write (SetEdge u v weight) = refl
length-write (DropEdge u v) = refl
length-write (DropVertex v) = refl

pub length-writes : (ws : List Write) → length (flat_map write_bytes ws) ≡ 25 * length ws
length-writes [] = refl
length-writes (w ∷ ws) = omega (arith, length-append (write_bytes w) (flat_map write_bytes ws), length-write w, length-writes ws)

pub writes_back : (ws : List Write) (rest : List ℕ) → AllByRecursion IsWithinLimits ws
    → writes_of (length ws) (flat_map write_bytes ws ++ rest) ≡ Some ws
writes_back [] rest within = refl
writes_back (w ∷ ws) rest within =
    let more = flat_map write_bytes ws ++ rest in
    ap (writes_of (suc (length ws))) (append_assoc (write_bytes w) (flat_map write_bytes ws) rest)
    ∙ ap₂ put_first (write_back w more within.0) (ap (writes_of (length ws)) (drop_at (write_bytes w) more 25 (length-write w)) ∙ writes_back ws rest within.1)

-- ---- a commit

length-head : (c : Commit) → length (head_bytes c) ≡ 32
length-head c = refl

pub length-body : (c : Commit) → length (body c) ≡ 32 + 25 * length c.writes
length-body c = omega (arith, length-append (head_bytes c) (flat_map write_bytes c.writes), length-head c, length-writes c.writes)

pub length-entry : (c : Commit) → length (entry c) ≡ entry_len c
length-entry c = omega (arith, length-body c)

-- the head of a commit
abbrev head_is : Commit → CommitHead
head_is c = record { stamp = c.stamp; start = c.start; job = c.by.job; number = c.by.number; count = length c.writes }

module _ (stamp : ℕ) (c : Commit) (is : IsEntry stamp c) (rest : List ℕ) where
  start_small : c.start < 2 ^ 64
  start_small = omega (arith, is.started, is.stamped, is.fits.stamp)

  head_back : head_of (body c ++ rest) ≡ head_is c
  head_back = λ i. record {
    stamp = from_le_bytes-to_le_bytes_8 c.stamp is.fits.stamp i;
    start = from_le_bytes-to_le_bytes_8 c.start start_small i;
    job = from_le_bytes-to_le_bytes_4 c.by.job is.fits.job i;
    number = from_le_bytes-to_le_bytes_4 c.by.number is.fits.number i;
    count = from_le_bytes-to_le_bytes_8 (length c.writes) is.fits.count i;
  }

  next : is_next stamp (head_is c) ≡ true
  next = let same = is.stamped in let before = is.started in let some = is.wrote in grind (arith, nat_tests)

  long : length (body c ++ rest) ≡ 32 + 25 * length c.writes + length rest
  long = omega (arith, length-append (body c) rest, length-body c)

  whole : is_whole stamp (body c ++ rest) ≡ true
  whole =
      (λ i. nat_le 32 (long i) && (is_next stamp (head_back i) && nat_le (32 + 25 * (head_back i).count) (long i)))
      ∙ all (32 + 25 * length c.writes + length rest) (omega arith) (omega arith) next
    where
      all : (n : ℕ) → 32 ≤ n → 32 + 25 * length c.writes ≤ n → is_next stamp (head_is c) ≡ true
          → (nat_le 32 n && (is_next stamp (head_is c) && nat_le (32 + 25 * length c.writes) n)) ≡ true
      all n head_le all_le is_so = (λ i. nat_le 32 n && (is_so i && nat_le (32 + 25 * length c.writes) n)) ∙ grind (arith, nat_tests)

  pub commit_back : commit_of stamp (body c ++ rest) ≡ Some c
  commit_back =
      ap (λ b. cond b (option_map (with_writes (head_of (body c ++ rest))) (writes_of (head_of (body c ++ rest)).count (drop 32 (body c ++ rest)))) None) whole
      ∙ (λ i. option_map (with_writes (head_back i)) (writes_of (head_back i).count (behind i)))
      ∙ ap (option_map (with_writes (head_is c))) (writes_back c.writes rest is.within)
    where
      behind : drop 32 (body c ++ rest) ≡ flat_map write_bytes c.writes ++ rest
      behind =
          ap (drop 32) (append_assoc (head_bytes c) (flat_map write_bytes c.writes) rest)
          ∙ drop_at (head_bytes c) (flat_map write_bytes c.writes ++ rest) 32 (length-head c)

  pub gated_back : gated stamp (entry c ++ rest) ≡ Some c
  gated_back = commit_back

-- five parts behind a text are one
pub five : (o a b c d e : List ℕ) → ((((o ++ a) ++ b) ++ c) ++ d) ++ e ≡ o ++ ((((a ++ b) ++ c) ++ d) ++ e)
five o a b c d e =
    ap (λ x. ((x ++ c) ++ d) ++ e) (append_assoc o a b) ∙ ap (λ x. (x ++ d) ++ e) (append_assoc o (a ++ b) c)
    ∙ ap (λ x. x ++ e) (append_assoc o ((a ++ b) ++ c) d) ∙ append_assoc o (((a ++ b) ++ c) ++ d) e
