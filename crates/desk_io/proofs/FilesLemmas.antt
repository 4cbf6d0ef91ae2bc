-- What calls of a desk leave, one after another
use Rattle.std.proofs.Common.{◌≡◌, ◌∙◌, ◌+◌, ◌≤◌, ℕ, List, ◌++◌, length, take, Option, Some, None, IfSome, IsSome, refl, ap, arith, length-append, length-take}
use Rattle.std.proofs.Math.Seq.{take-add}
use Rattle.desk_io.specs.Files.{Files, NoWriteFails, ChangesOnly, Gives, IsWritten, IsFront, with_piece}

-- two calls that change one name alone do so together
pub ChangesOnly-trans : (name : List ℕ) (old mid new : Files) → ChangesOnly name old mid → ChangesOnly name mid new → ChangesOnly name old new
ChangesOnly-trans name old mid new first second = record {
  holds = λ other apart. second.holds other apart ∙ first.holds other apart;
  written = λ other apart. second.written other apart ∙ first.written other apart;
  said = second.said ∙ first.said;
  tells = second.tells ∙ first.tells;
  read_faults = second.read_faults ∙ first.read_faults;
  failed_read = second.failed_read ∙ first.failed_read;
}

-- where neither of two calls is a failed write, none is among them
pub NoWriteFails-trans : (old mid new : Files) → NoWriteFails old mid → NoWriteFails mid new → NoWriteFails old new
NoWriteFails-trans old mid new first second = record {
  write_faults = second.write_faults ∙ first.write_faults;
  failed_write = second.failed_write ∙ first.failed_write;
}

-- a piece put behind a text, where it is told
whole-with_piece : (before after : Option (List ℕ)) (text piece : List ℕ) → after ≡ with_piece before piece → IfSome before (λ told. told ≡ text) → IfSome after (λ told. told ≡ text ++ piece)
whole-with_piece None after text piece e whole = rw e tt
whole-with_piece (Some told) after text piece e whole = rw e (ap (λ front. front ++ piece) whole)

-- with a piece put behind it a text is still told
told-with_piece : (before after : Option (List ℕ)) (piece : List ℕ) → after ≡ with_piece before piece → IsSome before → IsSome after
told-with_piece None after piece e told = absurd (cc)
told-with_piece (Some text) after piece e told = rw e told

-- a piece that is written behind a text gives both as one text
pub IsWritten-append : (old new : Files) (name text piece : List ℕ) → IsWritten old name text → new.written name ≡ with_piece (old.written name) piece → new.tells ≡ old.tells → IsWritten new name (text ++ piece)
IsWritten-append old new name text piece is e tells = record {
  whole = whole-with_piece (old.written name) (new.written name) text piece e is.whole;
  told = λ does. told-with_piece (old.written name) (new.written name) piece e (is.told (rw (← tells) does));
}

-- what a read gives behind the front of a source makes a longer front
front-append : (holds : Option (List ℕ)) (bytes buffer : List ℕ) (count : ℕ)
    → IfSome holds (λ source. bytes ≡ take (length bytes) source) → IfSome holds (λ source. Gives source (length bytes) buffer count)
    → IfSome holds (λ source. bytes ++ take count buffer ≡ take (length bytes + count) source)
front-append None bytes buffer count front gives = tt
front-append (Some source) bytes buffer count front gives =
    rw (take-add (length bytes) count source, ← gives.bytes, ← front) refl

-- the bytes that were read, with what the next read gives, are a front of the source
pub IsFront-append : (files : Files) (name bytes buffer items : List ℕ) (at count : ℕ) → at ≡ length bytes → count ≤ length buffer → items ≡ bytes ++ take count buffer
    → IsFront files name bytes → IfSome (files.holds name) (λ source. Gives source at buffer count) → IsFront files name items
IsFront-append files name bytes buffer items at count place bound e front gives =
    let longer : length items ≡ length bytes + count = rw e (omega (arith, length-append bytes (take count buffer), length-take count buffer)) in
    record { front = rw (longer, e) (front-append (files.holds name) bytes buffer count front.front (rw place at gives)) }
