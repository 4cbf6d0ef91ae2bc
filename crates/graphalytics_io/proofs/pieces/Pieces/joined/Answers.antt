-- one text more has been copied
use Rattle.std.proofs.Common.{◌≡◌, ◌++◌, ◌∷◌, [], refl, ◌∙◌, ap, sym}
use Rattle.graphalytics_io.proofs.PiecesLemmas.{pushed}
use Rattle.graphalytics_io.proofs.pieces.Pieces.joined.Goals as goal

pub texts-preserved : goal.texts-preserved
texts-preserved c =
    let copied : c.push_bytes.new.self ≡ c.texts.joined ++ c.in-Some-text.text =
    c.in_ok-push_bytes.ensures.ok ∙ ap (λ l. c.texts.joined ++ l) c.as_slice-in-texts.ensures in
    copied ∙ sym (pushed c.texts.yielded (c.texts.yielded ++ c.in-Some-text.text ∷ []) c.in-Some-text.text c.texts.joined
    refl (sym c.texts.invariant))
