-- Scripts that are read before those in front of them.
use Rattle.std.proofs.Common.{◌≡◌, ℕ, suc, ◌+◌, ◌<◌, List, [], ◌∷◌, ◌++◌, length, take, get_or, refl, sym, ◌∙◌, ap, subst, arith, length-append}
use Rattle.std.specs.Prelude.{Result, Ok, IfOk}
use Rattle.std.specs.List.{AllZip}
use Rattle.std.proofs.Math.Seq.{take-suc}
use Rattle.run_model.specs.declared.command.Command.{Command}
use Rattle.script_lang.specs.Early.{IsScriptAlone}
use Rattle.script_lang.specs.Runnable.{IsRunnable}
use Rattle.script_lang.specs.Scripts.{script_of, files_of}

-- what holds of two pairs of lists place by place holds of them one behind the other
pub zip_append : {X Y : Type 0} (R : X → Y → Type 0) (xs : List X) (ys : List Y) (vs : List X) (ws : List Y) → AllZip R xs ys → AllZip R vs ws → AllZip R (xs ++ vs) (ys ++ ws)
zip_append R [] [] vs ws a b = b
zip_append R [] (y ∷ ys) vs ws a b = absurd a
zip_append R (x ∷ xs) [] vs ws a b = absurd a
zip_append R (x ∷ xs) (y ∷ ys) vs ws a b = (a.0, zip_append R xs ys vs ws a.1 b)

-- one place more
pub zip_more : {X Y : Type 0} (R : X → Y → Type 0) (xs : List X) (i : ℕ) (d : X) (ys : List Y) (y : Y) → i < length xs → AllZip R (take i xs) ys → R (get_or xs i d) y → AllZip R (take (i + 1) xs) (ys ++ y ∷ [])
zip_more R xs i d ys y lt so_far is =
    let next : suc i ≡ i + 1 = omega arith in
    subst (λ vs. AllZip R vs (ys ++ y ∷ [])) (sym (take-suc xs i d lt) ∙ ap (λ n. take n xs) next)
    (zip_append R (take i xs) ys (get_or xs i d ∷ []) (y ∷ []) so_far (is, tt))

-- a list that is no longer with these has none of them
pub none_more : {X : Type 0} (xs ys : List X) → length (xs ++ ys) ≡ length xs → ys ≡ []
none_more xs [] same = refl
none_more xs (y ∷ ys) same = absurd (omega (arith, same, length-append xs (y ∷ ys)))

-- a script whose names are those of before asks for no file
pub alone : (taken now : List (List ℕ)) (text : List ℕ) (script : List Command) → script_of taken text ≡ Ok script → IsRunnable taken script → now ≡ taken ++ files_of script → length now ≡ length taken → IsScriptAlone taken text script
alone taken now text script is can names same = record {
  is = is;
  runnable = can;
  files = none_more taken (files_of script) (ap length (sym names) ∙ same);
}

-- what holds of a result that is Ok holds of what it has
pub held : {V E : Type 0} (r : Result V E) (v : V) (P : V → Type 0) → IfOk r P → r ≡ Ok v → P v
held r v P holds is = subst (λ x. IfOk x P) is holds
