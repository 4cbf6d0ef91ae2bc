-- What is read, piece by piece.
use Rattle.std.proofs.Common.{◌≡◌, ℕ, zero, suc, ◌+◌, ◌-◌, ◌*◌, ◌<◌, ◌≤◌, List, [], ◌∷◌, ◌++◌, length, take, drop, get_or, refl, sym, ◌∙◌, ap, ap₂, subst, arith, append_assoc, length-append, length-take, length-drop}
use Rattle.std.specs.Prelude.{Bool, true, false, Option, Some, None, IfSome, option_map}
use Rattle.std.specs.List.{flat_map}
use Rattle.std.proofs.lemmas.List.{append-nil, take_at, drop_at, drop-drop, drop-take, take-take, length-take-le}
use Rattle.std.proofs.lemmas.Slice.{take-put_mid}
use Rattle.std.proofs.Math.Seq.{take-add}
use borrow.Rule.Slice.PartMut.{put_mid}
use Rattle.desk_io.specs.Files.{Gives}
use Rattle.graph_model.specs.declared.write.Write.{Write}
use Rattle.journal_file.specs.Format.{write_bytes}
use Rattle.journal_file.specs.Reading.{write_of, put_first, writes_of}

-- ---- lists

-- the bytes of one write more
pub flat_push : (ws : List Write) (w : Write) → flat_map write_bytes (ws ++ w ∷ []) ≡ flat_map write_bytes ws ++ write_bytes w
flat_push [] w = append-nil (write_bytes w)
flat_push (v ∷ ws) w = ap (λ bytes. write_bytes v ++ bytes) (flat_push ws w) ∙ sym (append_assoc (write_bytes v) (flat_map write_bytes ws) (write_bytes w))

-- a part of a front that lies within it
pub inside : {X : Type 0} (n m k : ℕ) (xs : List X) → n + m ≤ k → take m (drop n (take k xs)) ≡ take m (drop n xs)
inside n m k xs le =
    let rest : n + (k - n) ≡ k = omega (arith, le) in
    ap (λ j. take m (drop n (take j xs))) (sym rest)
    ∙ ap (take m) (drop-take n (k - n) xs)
    ∙ take-take m (k - n) (drop n xs) (omega (arith, le))

-- ---- writes

-- these writes, and then those behind them
abbrev pub put_all : List Write → Option (List Write) → Option (List Write)
put_all ws None = None
put_all ws (Some vs) = Some (ws ++ vs)

put_nothing : (found : Option (List Write)) → found ≡ put_all [] found
put_nothing None = refl
put_nothing (Some vs) = refl

put_more : (ws : List Write) (w : Write) (found : Option (List Write)) → put_all ws (put_first (Some w) found) ≡ put_all (ws ++ w ∷ []) found
put_more ws w None = refl
put_more ws w (Some vs) = ap Some (sym (append_assoc ws (w ∷ []) vs))

module _ (count place : ℕ) (bytes : List ℕ) (ws : List Write) (lt : place < count)
    (so_far : writes_of count bytes ≡ put_all ws (writes_of (count - place) (drop (25 * place) bytes))) where
  one_first : writes_of (count - place) (drop (25 * place) bytes)
      ≡ put_first (write_of (take 25 (drop (25 * place) bytes))) (writes_of (count - (place + 1)) (drop (25 * (place + 1)) bytes))
  one_first =
      let more : count - place ≡ suc (count - (place + 1)) = omega (arith, lt) in
      let next : 25 * place + 25 ≡ 25 * (place + 1) = omega arith in
      ap (λ n. writes_of n (drop (25 * place) bytes)) more
      ∙ ap (λ more_bytes. put_first (write_of (take 25 (drop (25 * place) bytes))) (writes_of (count - (place + 1)) more_bytes))
      (drop-drop 25 (25 * place) bytes ∙ ap (λ n. drop n bytes) next)

  pub writes_next : (w : Write) → write_of (take 25 (drop (25 * place) bytes)) ≡ Some w
      → writes_of count bytes ≡ put_all (ws ++ w ∷ []) (writes_of (count - (place + 1)) (drop (25 * (place + 1)) bytes))
  writes_next w is =
      so_far ∙ ap (put_all ws) (one_first ∙ ap (λ found. put_first found (writes_of (count - (place + 1)) (drop (25 * (place + 1)) bytes))) is)
      ∙ put_more ws w (writes_of (count - (place + 1)) (drop (25 * (place + 1)) bytes))

  pub writes_none : write_of (take 25 (drop (25 * place) bytes)) ≡ None → writes_of count bytes ≡ None
  writes_none is =
      so_far ∙ ap (put_all ws) (one_first ∙ ap (λ found. put_first found (writes_of (count - (place + 1)) (drop (25 * (place + 1)) bytes))) is)

-- the bytes of so many writes, whatever comes behind them
pub writes_within : (count k : ℕ) (bytes : List ℕ) → 25 * count ≤ k → writes_of count (take k bytes) ≡ writes_of count bytes
writes_within zero k bytes le = refl
writes_within (suc count) k bytes le =
    let rest : 25 + (k - 25) ≡ k = omega (arith, le) in
    let front : take 25 (take k bytes) ≡ take 25 bytes = take-take 25 k bytes (omega (arith, le)) in
    let behind : drop 25 (take k bytes) ≡ take (k - 25) (drop 25 bytes) = ap (λ n. drop 25 (take n bytes)) (sym rest) ∙ drop-take 25 (k - 25) bytes in
    ap₂ put_first (ap write_of front) (ap (writes_of count) behind ∙ writes_within count (k - 25) (drop 25 bytes) (omega (arith, le)))

-- there are as many as were asked for
pub writes_len : (count : ℕ) (bytes : List ℕ) (ws : List Write) → writes_of count bytes ≡ Some ws → length ws ≡ count
writes_len zero bytes ws e = let none : ws ≡ [] = cc in ap length none
writes_len (suc count) bytes ws e = by (write_of (take 25 bytes)) (writes_of count (drop 25 bytes)) (λ vs is. writes_len count (drop 25 bytes) vs is) e
  where
    by : (w : Option Write) (found : Option (List Write)) → ((vs : List Write) → found ≡ Some vs → length vs ≡ count) → put_first w found ≡ Some ws → length ws ≡ suc count
    by None found each e = cc
    by (Some w) None each e = cc
    by (Some w) (Some vs) each e = let same : ws ≡ w ∷ vs = cc in ap length same ∙ ap suc (each vs refl)

-- ---- pieces of a file

pub told_piece : (found : Option (List ℕ)) (file : List ℕ) (at : ℕ) (buffer : List ℕ) (count : ℕ) → found ≡ Some file
    → IfSome found (λ source. Gives source at buffer count) → take count buffer ≡ take count (drop at file)
told_piece found file at buffer count told gives = (subst (λ f. IfSome f (λ source. Gives source at buffer count)) told gives).bytes

module _ (done : ℕ) (buffer some : List ℕ) (le : done ≤ length buffer) (room : length some ≡ length buffer - done) where
  pub piece_len : length (put_mid done (length buffer - done) buffer some) ≡ length buffer
  piece_len =
      omega (
        arith,
        room,
        le,
        length-append (take done buffer) (some ++ drop (length buffer - done) (drop done buffer)),
        length-append some (drop (length buffer - done) (drop done buffer)),
        length-drop (length buffer - done) (drop done buffer),
        length-drop done buffer,
        length-take-le done buffer le,
      )

  -- with one piece more in its place the front of the buffer is a longer part of the file
  pub piece_more : (count at : ℕ) (file : List ℕ) → count ≤ length some → take done buffer ≡ take done (drop at file)
      → take count some ≡ take count (drop (at + done) file)
      → take (done + count) (put_mid done (length buffer - done) buffer some) ≡ take (done + count) (drop at file)
  piece_more count at file bound before piece =
      let front_len : length (take done buffer) ≡ done = length-take-le done buffer le in
      sym (take-take (done + count) (done + length some) (put_mid done (length buffer - done) buffer some) (omega (arith, bound)))
      ∙ ap (take (done + count)) (take-put_mid done (length buffer - done) buffer some (done + length some) refl le)
      ∙ take-add done count (take done buffer ++ some)
      ∙ (λ i. take_at (take done buffer) some done front_len i ++ take count (drop_at (take done buffer) some done front_len i))
      ∙ (λ i. before i ++ piece i)
      ∙ ap (λ rest. take done (drop at file) ++ take count rest) (sym (drop-drop done at file))
      ∙ sym (take-add done count (drop at file))
